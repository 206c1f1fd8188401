-- Impostors at either end (PROTOCOL), in the link: ends that are ours but for one thing. After one short list of events the claim of demand 3 is
-- false of each, so no proof of it could be had. Image, settings and memory are those of the worked examples.
use Rattle.std.specs.Prelude.{ℕ, ◌≡◌, refl, Bool, cond as pick, List, [], ◌∷◌, ◌++◌, length, take, drop, get_or, replicate, eqb}
use Rattle.std.proofs.Common.{ap, ⊎_elim, arith}
use Rattle.std.proofs.Math.Option.{some-injective}
use Rattle.octets.specs.Number.{number, low}
use Rattle.buffer.specs.Lay.{over}
use Rattle.entries_next.specs.Next.{next}
use Rattle.entries.specs.Entries.{walk}
use Rattle.window.specs.Window.{touches, none as no-window}
use Rattle.memory.specs.Memory.{fits, bytes_from}
use Rattle.message.specs.Message.{dump_data}
use Rattle.version.specs.Version.{v30}
use Rattle.message.specs.Read.{find, fields, part}
use Rattle.message.specs.Write.{layout}
use Rattle.step.specs.Step.{first, sends}
use Rattle.directory.specs.Directory.{trailer_of, entry_of, entries, demand, entries_refusal}
use Rattle.image.specs.Image.{many, segment}
use Rattle.parameters.specs.Parameters.{latest, none}
use Rattle.block.specs.Block.{cell, block}
use Rattle.machine_record.specs.declared.Machine.{Machine}
use Rattle.machine_record.specs.Record.{keeping}
use Rattle.machine_next.specs.Next.{by_number, on_load, on_parameters}
use Rattle.counts.specs.Counts.{sum, ignore}
use Rattle.machine_record.specs.declared.Settings.{Settings as MachineSettings}
use Rattle.load_record.specs.declared.Settings.{Settings as LoadSettings}
use Rattle.load_record.specs.declared.Session.{Session}
use Rattle.load_record.specs.Record.{counting}
use Rattle.load.specs.Load.{raised}
use Rattle.link.specs.Link as link
use Rattle.link.specs.Link.{Frame, Turn, refuses, acts, queued, Ends, World, Event, own, further, hand_to_machine, keep_to_machine, hand_to_host, with_to_machine, with_to_host, left, last_left, step, run}
use Rattle.link.specs.Reset.{anew}
use Rattle.link.specs.MachineEnd.{End, machine_end}
use Rattle.link_load.specs.Model as load
use Rattle.link_load.specs.Model.{Reset, reset, load_ends, laid_over}
use Rattle.link_load.specs.Report.{Report}
use Rattle.link_dump.specs.Model as dump
use Rattle.link_dump.specs.Model.{Host, host_end, dump_ends, Dumped}
use Rattle.cases.specs.LoadExample as loaded
use Rattle.cases.specs.ParametersExample as given
use Rattle.cases.specs.VersionExample as versioned
use Rattle.cases.specs.WindowExample as windowed
use Rattle.cases.specs.ResetExample as again
use Rattle.cases.specs.DumpExample as dumped

abbrev reply : List ℕ
reply = replicate 1500 0

-- the first frame, two to the machine and the replies; its first three events are up to the first reply
abbrev whole : {X : Type 0} → List (Event X)
whole = own (hand_to_host reply) ∷ own (hand_to_machine reply) ∷ own (hand_to_host reply) ∷ own (hand_to_machine reply) ∷ own (hand_to_host reply) ∷ []

-- ---- a load: segment 0 is 0A0B at 2, segment 1 is 0C at 4
abbrev ours : Ends Session End (Reset loaded.load_settings)
ours = load_ends loaded.load_settings loaded.machine_settings loaded.image []

-- our ends, but for what one of them makes of a frame
abbrev with_host : (Session → Frame → List ℕ → Turn Session) → Ends Session End (Reset loaded.load_settings)
with_host frame = link.with_host ours frame ours.host_timer

abbrev with_machine : (End → Frame → List ℕ → Turn End) → Ends Session End (Reset loaded.load_settings)
with_machine frame =
    record {
      hears = ours.hears;
      host_frame = ours.host_frame;
      host_timer = ours.host_timer;
      machine_frame = frame;
      machine_timer = ours.machine_timer;
      further = ours.further;
    }

-- the claim, after a list of events from fresh ends with this memory
abbrev ClaimOf : (s : LoadSettings) → MachineSettings → List ℕ → Ends Session End (Reset s) → List ℕ → List (Event (Reset s)) → Type 0
ClaimOf s ms string ends old es =
    let fresh = load.fresh_world ms old in
    Report s ms loaded.image string old (last_left (step ends) (left fresh) fresh es) (run ends fresh es)

-- of the worked example, with so many bytes of memory
abbrev Claim : Ends Session End (Reset loaded.load_settings) → ℕ → List (Event (Reset loaded.load_settings)) → Type 0
Claim ends n es = ClaimOf loaded.load_settings loaded.machine_settings [] ends (replicate n 0) es

-- A machine that stores segment 0 and merely acknowledges the others: it leaves memory as it was.
abbrev leaves : List ℕ → Turn End → Turn End
leaves old refuses = refuses
leaves old (acts e out) = acts (machine_end e.machine old) out

abbrev acknowledges : Ends Session End (Reset loaded.load_settings)
acknowledges = with_machine (λ e f b. pick (eqb (fields v30 f).number 0) (ours.machine_frame e f b) (leaves e.memory (ours.machine_frame e f b)))

pub acknowledges-only : Claim acknowledges 8 whole → ⊥
unfolding run last_left laid_over loaded.image number low find fields layout first trailer_of entry_of entries demand entries_refusal many segment fits touches by_number on_load
acknowledges-only r = let z = ap (λ (m : List ℕ). get_or m 4 0) ((r.heard-of refl).finished refl).memory-is in omega arith

-- A machine that clips: it works as if memory were longer, and what is beyond memory's end is lost. Segment 1 is beyond 4 bytes.
abbrev clipped : ℕ → Turn End → Turn End
clipped n refuses = refuses
clipped n (acts e out) = acts (machine_end e.machine (take n e.memory)) out

abbrev clips : Ends Session End (Reset loaded.load_settings)
clips = with_machine (λ e f b. clipped (length e.memory) (ours.machine_frame (machine_end e.machine (e.memory ++ replicate 8 0)) f b))

pub clips-beyond : Claim clips 4 whole → ⊥
unfolding run last_left loaded.image number low find fields layout first trailer_of entry_of entries demand entries_refusal many segment fits touches by_number on_load
clips-beyond r = let z = ap {B = ℕ} (λ (b : Bool). pick b 1 0) (((r.heard-of refl).finished refl).fitting 1 (omega arith)) in omega arith

-- A host that says finished on the first reply.
abbrev finished : Turn Session → Turn Session
finished refuses = refuses
finished (acts h out) = acts (record { position = 2; sent = h.sent; counts = h.counts; repeats = 0; restarts = 0; waiting = 0; verdict = 1 }) out

abbrev hasty : Ends Session End (Reset loaded.load_settings)
hasty = with_host (λ h f b. pick (eqb (fields v30 f).code 10) (finished (ours.host_frame h f b)) (ours.host_frame h f b))

pub finished_on_first : Claim hasty 8 (take 3 whole) → ⊥
unfolding run last_left laid_over loaded.image number low find fields layout first trailer_of entry_of entries demand entries_refusal many segment fits touches by_number on_load
finished_on_first r = let z = ap (λ (m : List ℕ). get_or m 4 0) ((r.heard-of refl).finished refl).memory-is in omega arith

-- A host that invents its count: one more than it sends.
abbrev more : Turn Session → Turn Session
more refuses = refuses
more (acts h out) = acts (raised h) out

abbrev inventive : Ends Session End (Reset loaded.load_settings)
inventive = with_host (λ h f b. more (ours.host_frame h f b))

pub invented_count : Claim inventive 8 (take 1 whole) → ⊥
unfolding run last_left loaded.image number low find fields layout first trailer_of entry_of entries demand entries_refusal many segment
invented_count r = let z = r.counted in omega arith

-- A host that counts each frame that it is handed once more, as ignored.
abbrev noted : Turn Session → Turn Session
noted refuses = refuses
noted (acts h out) = acts (counting (ignore h.counts) h) out

abbrev twice : Ends Session End (Reset loaded.load_settings)
twice = with_host (λ h f b. noted (ours.host_frame h f b))

pub counted-twice : Claim twice 8 (take 1 whole) → ⊥
unfolding run last_left loaded.image number low find fields layout first trailer_of entry_of entries demand entries_refusal many segment
counted-twice r = let z = r.handed in omega arith

-- A host that counts the finishing frame as ignored: the sum is right, and advances is not.
abbrev misfiled : ℕ → Turn Session → Turn Session
misfiled before refuses = refuses
misfiled before (acts h out) =
    acts (pick (eqb h.verdict 1) (counting (record { starts = 1; advances = before; ignored = 1; rejections = 0 }) h) h) out

abbrev misfiles : Ends Session End (Reset loaded.load_settings)
misfiles = with_host (λ h f b. misfiled h.counts.advances (ours.host_frame h f b))

pub sum-right : sum (run misfiles (load.fresh_world loaded.machine_settings (replicate 8 0)) whole).host.counts
    ≡ (run misfiles (load.fresh_world loaded.machine_settings (replicate 8 0)) whole).heard
unfolding run last_left loaded.image number low find fields layout first trailer_of entry_of entries demand entries_refusal many segment fits touches by_number on_load
sum-right = refl

pub finishing_ignored : Claim misfiles 8 whole → ⊥
unfolding run last_left loaded.image number low find fields layout first trailer_of entry_of entries demand entries_refusal many segment fits touches by_number on_load
finishing_ignored r = let z = r.counts.advances refl in omega arith

-- A machine that lays a load around its ROM window: it works as if there were no window, puts the window's byte back, and says that all went in.
abbrev spared : List ℕ → Turn End → Turn End
spared old refuses = refuses
spared old (acts e out) = acts (machine_end e.machine (over (take 1 (drop 4 old)) 4 e.memory)) out

abbrev spares : Ends Session End (Reset loaded.load_settings)
spares = with_machine (λ e f b. spared e.memory (ours.machine_frame e f b))

pub lays_around : ClaimOf loaded.load_settings windowed.machine_settings [] spares (replicate 8 7) whole → ⊥
unfolding run last_left loaded.image number low find fields layout first trailer_of entry_of entries demand entries_refusal many segment fits touches by_number on_load
lays_around r = let z = ap {B = ℕ} (λ (b : Bool). pick b 1 0) (((r.heard-of refl).finished refl).fitting 1 (omega arith)) in omega arith

-- A machine that ignores its ROM window: the byte at 4 is the image's, and no longer the ROM's.
pub overwrites_window : ClaimOf loaded.load_settings windowed.machine_settings [] ours (replicate 8 7) (take 4 whole) → ⊥
unfolding run last_left loaded.image number low find fields layout first trailer_of entry_of entries demand entries_refusal many segment fits touches by_number on_load
overwrites_window r = let z = some-injective 0x0C 7 (r.window_kept 4 (omega arith, omega arith)) in omega arith

-- A machine that acknowledges the parameters and keeps none of them: it starts, and its record is as it was.
abbrev unkept : Turn End → Turn End
unkept refuses = refuses
unkept (acts e out) = acts (machine_end (keeping e.machine none) e.memory) out

abbrev forgets : Ends Session End (Reset given.load_settings)
forgets =
    let ends : Ends Session End (Reset given.load_settings) = load_ends given.load_settings loaded.machine_settings loaded.image given.string in
    record {
      hears = ends.hears;
      host_frame = ends.host_frame;
      host_timer = ends.host_timer;
      machine_frame = λ e f b. unkept (ends.machine_frame e f b);
      machine_timer = ends.machine_timer;
      further = ends.further;
    }

pub keeps-none : ClaimOf given.load_settings loaded.machine_settings given.string forgets (replicate 8 0) given.events → ⊥
unfolding run last_left loaded.image given.string given.events number low find fields layout first trailer_of entry_of entries demand entries_refusal many segment fits touches by_number on_load on_parameters latest walk next
keeps-none r = let z = ap (λ (m : Machine). m.parameters.target_name.length) (((r.heard-of refl).finished refl).started refl) in omega arith

-- A machine of version 2.1 that keeps the parameters in its record alone, as under 3.0.0, and lays no block.
abbrev lays_no_block : Ends Session End (Reset versioned.load_settings)
lays_no_block =
    load_ends versioned.load_settings (record { reply_bytes = 1; device = 0; processor = 0; version = v30; window = no-window }) loaded.image versioned.string

pub lays-none : ClaimOf versioned.load_settings versioned.machine_settings versioned.string lays_no_block (replicate 64 7) versioned.events → ⊥
unfolding run last_left laid_over loaded.image versioned.string versioned.events number low find fields layout first trailer_of entry_of entries demand entries_refusal many segment fits touches by_number on_load on_parameters latest walk next cell block
lays-none r = let z = ap (λ (m : List ℕ). get_or m 0 0) ((r.heard-of refl).finished refl).memory-is in omega arith

-- ---- resets that are ours but for one thing
abbrev with_reset : (World Session End → World Session End → World Session End) → Ends Session End (Reset again.load_settings)
with_reset changed =
    let ends : Ends Session End (Reset again.load_settings) = load_ends again.load_settings loaded.machine_settings loaded.image [] in
    record {
      hears = ends.hears;
      host_frame = ends.host_frame;
      host_timer = ends.host_timer;
      machine_frame = ends.machine_frame;
      machine_timer = ends.machine_timer;
      further = λ w x. changed w (ends.further w x);
    }

abbrev reset_to9 : Event (Reset again.load_settings)
reset_to9 = further (reset refl (replicate 8 9))

-- A reset that leaves the frames on their way to the machine: t k t, the reset, h. The machine takes segment 0, and the host has not heard.
abbrev leaves-down : Ends Session End (Reset again.load_settings)
leaves-down = with_reset (λ w v. with_to_machine v w.to_machine)

pub left_to_machine : ClaimOf again.load_settings loaded.machine_settings [] leaves-down (replicate 8 0)
    (own (hand_to_host reply) ∷ own (keep_to_machine reply) ∷ own (hand_to_host reply) ∷ reset_to9 ∷ own (hand_to_machine reply) ∷ []) → ⊥
unfolding run last_left anew loaded.image number low find fields layout first trailer_of entry_of entries demand entries_refusal many segment fits touches by_number on_load
left_to_machine r = let z = ap (λ (e : End). get_or e.memory 2 0) (r.not-heard-of refl).1 in omega arith

-- A reset that leaves the frames on their way to the host: t h, the reset, t. The answer to segment 0 moves the host, and no segment is in.
abbrev leaves-up : Ends Session End (Reset again.load_settings)
leaves-up = with_reset (λ w v. with_to_host v (w.to_host ++ v.to_host))

pub left_to_host : ClaimOf again.load_settings loaded.machine_settings [] leaves-up (replicate 8 0)
    (own (hand_to_host reply) ∷ own (hand_to_machine reply) ∷ reset_to9 ∷ own (hand_to_host reply) ∷ []) → ⊥
unfolding run last_left laid_over anew loaded.image number low find fields layout first trailer_of entry_of entries demand entries_refusal many segment fits touches by_number on_load
left_to_host r =
    ⊎_elim (λ i. let z = ap (λ (m : List ℕ). get_or m 2 0) i.memory-is in omega arith) (λ i. let z = ap (λ (m : List ℕ). get_or m 2 0) i.memory-is in omega arith)
    ((r.heard-of refl).otherwise (λ e. omega arith) (λ e. omega arith) (λ e. omega arith))

-- ---- a dump of 3 bytes from address 1 of the memory 7, 8, 9, at most 2 at a time, into the buffer 5, 5, 5
abbrev memory : List ℕ
memory = 7 ∷ 8 ∷ 9 ∷ []

abbrev buffer : List ℕ
buffer = 5 ∷ 5 ∷ 5 ∷ []

abbrev our_dump : Ends Host End ⊥
our_dump = dump_ends dumped.s dumped.ms

-- A host that lays each reply from the buffer's start on, not from the reached place on.
abbrev misplaced : Host → Frame → Turn Host → Turn Host
misplaced old f refuses = refuses
misplaced old f (acts h out) =
    acts (host_end h.session (pick (eqb h.session.replies old.session.replies) h.buffer (over (part f (fields v30 f)) 0 old.buffer))) out

abbrev from_start : Ends Host End ⊥
from_start =
    record {
      hears = our_dump.hears;
      host_frame = λ h f b. misplaced h f (our_dump.host_frame h f b);
      host_timer = our_dump.host_timer;
      machine_frame = our_dump.machine_frame;
      machine_timer = our_dump.machine_timer;
      further = our_dump.further;
    }

pub wrong_place : Dumped dumped.s memory buffer (run from_start (dump.fresh_world dumped.ms memory buffer) whole) → ⊥
unfolding run find fields layout low number first bytes_from
wrong_place d = let z = ap (λ (b : List ℕ). get_or b 0 0) d.buffer-is in omega arith

-- ---- the line
-- Between our own ends the claim is false as well if the line brings the host a reply that the machine did not send: here the byte 66.
abbrev forged : World Host End
forged =
    let w : World Host End = dump.fresh_world dumped.ms memory buffer in
    with_to_host w (w.to_host ++ queued (sends (dump_data 1 (66 ∷ []))))

pub forged-reply : Dumped dumped.s memory buffer (run our_dump forged (own (hand_to_host reply) ∷ own (hand_to_host reply) ∷ [])) → ⊥
unfolding run find fields layout low number first bytes_from
forged-reply d = let z = ap (λ (b : List ℕ). get_or b 0 0) d.buffer-is in omega arith
