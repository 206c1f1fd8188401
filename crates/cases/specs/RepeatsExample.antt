-- Raising the repeats, in the model: the worked list of LoadExample.antt, t x m h t h t, and the dump of DumpExample.antt, under several limits.
use Rattle.std.specs.Prelude.{ℕ, ◌-◌, ◌≡◌, refl, ◌&&◌, cond as pick, List, [], ◌∷◌, ◌++◌, map, get_or, replicate, eqb, leb}
use Rattle.std.proofs.Common.{ap, inl, arith}
use Rattle.octets.specs.Number.{number, low}
use Rattle.window.specs.Window.{touches}
use Rattle.memory.specs.Memory.{fits, bytes_from}
use Rattle.message.specs.Read.{find, fields}
use Rattle.message.specs.Write.{layout}
use Rattle.step.specs.Step.{first}
use Rattle.directory.specs.Directory.{trailer_of, entry_of, entries, demand, entries_refusal}
use Rattle.image.specs.Image.{many, segment}
use Rattle.machine_record.specs.Record.{requesting}
use Rattle.machine_next.specs.Next.{by_number, on_load}
use Rattle.load_record.specs.declared.Session.{Session}
use Rattle.link.specs.Link as link
use Rattle.link.specs.Link.{Frame, Turn, refuses, acts, Ends, World, step, run}
use Rattle.link.specs.Taken.{Taken, host_frames, all_taken}
use Rattle.link.specs.MachineEnd.{End}
use Rattle.link_load.specs.Model.{Reset, on_reset_takes, load_ends, fresh_world, after, all_frames, with_repeats}
use Rattle.link_load.proofs.Raised.{raised_load}
use Rattle.link_dump.specs.Model as dump
use Rattle.link_dump.proofs.Repeats.{raised_dump}
use Rattle.cases.specs.LoadExample.{image, load_settings, machine_settings, events}
use Rattle.cases.specs.DumpExample as dumped

-- the worked load with x for R, and every frame that the link took
abbrev reached : ℕ → World Session End
reached x = after (with_repeats x load_settings) machine_settings image [] (replicate 8 0) events

abbrev taken : ℕ → List Taken
taken x = all_frames (with_repeats x load_settings) machine_settings image [] (replicate 8 0) events

-- With R = 0 it is given up at the timer: one frame was sent, which was lost, and memory is as it was. With R = 1 it is finished (`worked`).
pub gives_up_lem : reached 0
    ≡ record {
      host = record { position = 0; sent = 1; counts = record { starts = 1; advances = 0; ignored = 0; rejections = 0 }; repeats = 0; restarts = 0; waiting = 0; verdict = 3 };
      machine = record { machine = requesting; memory = replicate 8 0 };
      to_machine = [];
      to_host = [];
      taken = 1;
      heard = 1;
    }
unfolding image events run number low find fields layout first trailer_of entry_of entries demand entries_refusal many segment fits touches by_number on_load
gives_up_lem = refl

pub finishes : (reached 1).host.verdict ≡ 1
unfolding image events run number low find fields layout first trailer_of entry_of entries demand entries_refusal many segment fits touches by_number on_load
finishes = refl

-- With R = 255 all is as with R = 1, computed; and the theorem says so.
pub all_equal : (reached 1 ≡ reached 255) × (taken 1 ≡ taken 255)
unfolding image events run all_taken number low find fields layout first trailer_of entry_of entries demand entries_refusal many segment fits touches by_number on_load
all_equal = (refl, refl)

pub raised-here : (reached 1 ≡ reached 255) × (taken 1 ≡ taken 255)
raised-here = raised_load load_settings machine_settings image [] (replicate 8 0) 1 255 (omega arith) (omega arith) events (inl finishes)

-- ---- the dump, with x for R: its second request is repeated at a timer
abbrev dump_reached : ℕ → World dump.Host End
dump_reached x = dump.after (dump.with_repeats x dumped.s) dumped.ms (7 ∷ 8 ∷ 9 ∷ []) (5 ∷ 5 ∷ 5 ∷ []) dumped.events

abbrev dump_taken : ℕ → List Taken
dump_taken x = dump.all_frames (dump.with_repeats x dumped.s) dumped.ms (7 ∷ 8 ∷ 9 ∷ []) (5 ∷ 5 ∷ 5 ∷ []) dumped.events

-- with R = 0 it is given up there, and the last byte of the buffer is the old one; with R = 1 it is finished
pub dump_gives_up : ((dump_reached 0).host.session.verdict ≡ 3) × ((dump_reached 0).host.buffer ≡ 8 ∷ 9 ∷ 5 ∷ []) × ((dump_reached 1).host.session.verdict ≡ 1)
unfolding run find fields layout low number first bytes_from
dump_gives_up = (refl, refl, refl)

pub dump_all_equal : (dump_reached 1 ≡ dump_reached 255) × (dump_taken 1 ≡ dump_taken 255)
unfolding run all_taken find fields layout low number first bytes_from
dump_all_equal = (refl, refl)

pub dump_raised_here : (dump_reached 1 ≡ dump_reached 255) × (dump_taken 1 ≡ dump_taken 255)
dump_raised_here = raised_dump dumped.s dumped.ms (7 ∷ 8 ∷ 9 ∷ []) (5 ∷ 5 ∷ 5 ∷ []) 1 255 (omega arith) (omega arith) dumped.events dump_gives_up.2

-- ---- hosts that are ours but for what they do with R: on the same list, finished with R = 1, the claim is false of each for R = 2
abbrev Hosts : Type 0
Hosts = ℕ → Ends Session End (Reset load_settings)

abbrev ours : Hosts
ours R = load_ends (with_repeats R load_settings) machine_settings image []

abbrev ends_in : Hosts → ℕ → World Session End
ends_in hosts R = run (hosts R) (fresh_world machine_settings (replicate 8 0)) events

abbrev takes_in : Hosts → ℕ → List Taken
takes_in hosts R = all_taken (hosts R) (on_reset_takes machine_settings) (step (hosts R)) (fresh_world machine_settings (replicate 8 0)) events

abbrev Claim : Hosts → Type 0
Claim hosts = (ends_in hosts 1).host.verdict ≡ 1 → (ends_in hosts 1 ≡ ends_in hosts 2) × (takes_in hosts 1 ≡ takes_in hosts 2)

abbrev with_host : (ℕ → Session → Frame → List ℕ → Turn Session) → (ℕ → Session → List ℕ → Turn Session) → Hosts
with_host frame timer R = link.with_host (ours R) (frame R) (timer R)

-- it is true of ours
pub ours-raised : Claim ours
unfolding image events run all_taken number low find fields layout first trailer_of entry_of entries demand entries_refusal many segment fits touches by_number on_load
ours-raised e = (refl, refl)

-- A host that gives up two repeats early where more than one is allowed.
abbrev hasty : Hosts
hasty = with_host (λ R. (ours R).host_frame) (λ R. (ours (pick (leb 2 R) (R - 2) R)).host_timer)

pub gives-up-early : Claim hasty → ⊥
unfolding image events run all_taken number low find fields layout first trailer_of entry_of entries demand entries_refusal many segment fits touches by_number on_load
gives-up-early c = let z = ap (λ (w : World Session End). w.host.verdict) (c refl).0 in omega arith

-- A host that writes R behind the first frame of a load, which is lost, and not into its repeat: the worlds are the same, and the frames are not.
abbrev marked : ℕ → Turn Session → Turn Session
marked R refuses = refuses
marked R (acts h out) = acts h (map (λ (f : Frame). f ++ (R ∷ [])) out)

abbrev marks : Hosts
marks = with_host (λ R h f b. pick (eqb h.waiting 1) (marked R ((ours R).host_frame h f b)) ((ours R).host_frame h f b)) (λ R. (ours R).host_timer)

pub same_worlds : ends_in marks 1 ≡ ends_in marks 2
unfolding image events run all_taken number low find fields layout first trailer_of entry_of entries demand entries_refusal many segment fits touches by_number on_load
same_worlds = refl

pub marks_a_frame : Claim marks → ⊥
unfolding image events run all_taken host_frames number low find fields layout first trailer_of entry_of entries demand entries_refusal many segment fits touches by_number on_load
marks_a_frame c = let z = ap (λ (t : List Taken). get_or (get_or (host_frames t) 0 []) 8 0) (c refl).1 in omega arith

-- A host that refuses a record with one repeat where more are allowed.
abbrev strict : Hosts
strict = with_host (λ R h f b. pick (leb 2 R && eqb h.repeats 1) refuses ((ours R).host_frame h f b)) (λ R. (ours R).host_timer)

pub refuses_a_record : Claim strict → ⊥
unfolding image events run all_taken number low find fields layout first trailer_of entry_of entries demand entries_refusal many segment fits touches by_number on_load
refuses_a_record c = let z = ap (λ (w : World Session End). w.host.verdict) (c refl).0 in omega arith
