-- The invariant of a dump over the link. It needs no order of frames: each reply names the address that its bytes come from.
use Rattle.std.specs.Prelude.{ℕ, ◌+◌, ◌^◌, ◌<◌, ◌≤◌, min, ◌≡◌, true, ◌||◌, List, [], length}
use Rattle.std.proofs.Math.Path.{refl}
use Rattle.std.proofs.Common.{ap, sym, subst, ◌∙◌, arith, eqb-true, leb-true}
use Rattle.std.proofs.Math.Bool.{and-eq-true_iff}
use Rattle.octets.specs.Number.{low}
use Rattle.buffer.specs.Lay.{over}
use Rattle.octets.specs.TestLaws.{by_cases}
use Rattle.memory.specs.Memory.{bytes_from}
use Rattle.memory.specs.Laws.{length-bytes_from}
use Rattle.message.specs.declared.Fields.{Fields}
use Rattle.message.specs.Message.{Message, request_dump, dump_data, dump_complete}
use Rattle.message.specs.Read.{fields}
use Rattle.message.specs.Read.{part as part_of}
use Rattle.message.specs.Write.{layout}
use Rattle.message.specs.Laws.{request_dump-fields, request_dump_service-fields, dump_data-fields, dump_data-part, dump_complete-fields}
use Rattle.step.specs.Step.{Sending, acts as does}
use Rattle.machine_record.specs.declared.Settings.{Settings as MachineSettings}
use Rattle.machine_record.specs.Record as machine
use Rattle.machine_checks.specs.Checks as machine_checks
use Rattle.machine_checks.specs.Laws.{in_range}
use Rattle.machine_next.specs.Next.{react}
use Rattle.machine_timer.specs.Timer.{asks_dump, on_timer}
use Rattle.counts.specs.declared.Counts.{Counts}
use Rattle.dump_record.specs.declared.Settings.{Settings as DumpSettings}
use Rattle.dump_checks.specs.Checks as dump_checks
use Rattle.link.specs.Link.{Frame, Turn, acts, queued, World}
use Rattle.link.proofs.LinkLaws.{Closed}
use Rattle.link.proofs.EachLaws as each
use Rattle.link.proofs.EachLaws.{Returns, Holds}
use Rattle.link.proofs.CallLaws.{came}
use Rattle.link.specs.MachineEnd.{End, machine_end}
use Rattle.link.proofs.MachineEndLaws.{MachineAct, Becomes, on_frame_lem, on_timer_lem}
use Rattle.link_dump.specs.Model.{Host, dump_ends, fresh_world}
use Rattle.link_dump.proofs.FilledLaws.{filled_with, laid_next}
use Rattle.link_dump.proofs.HostLaws.{Now, Data, missing, ask, Reply, Heard, refused, ignored, begins, asks, finishes, Timed, repeats, gives_up, heard, timed}
use Rattle.link_dump.proofs.AloneLaws as alone
use Rattle.link_dump.proofs.AloneLaws.{Good, Kept, fresh}

-- ---- frames on their way
-- a frame of such a message
abbrev pub Carries : (Message → Type 0) → Frame → Type 0
Carries P f = (m : Message) × P m × (f ≡ layout m)

-- What goes to the machine: requests for some bytes, and the end of the dump.
pub data Asks : Message → Type 0 where
  part : {a n : ℕ} → a < 256 ^ 4 → n < 256 ^ 2 → Asks (request_dump a n)
  complete : Asks dump_complete

-- What goes to the host: the offer, and bytes that are memory from their address on.
pub data Tells (memory : List ℕ) : Message → Type 0 where
  offer : (ms : MachineSettings) (size : ℕ) → size < 256 ^ 4 → Tells memory (asks_dump ms size)
  bytes : {a : ℕ} {d : List ℕ} → a < 256 ^ 4 → length d ≤ 1495 → d ≡ bytes_from memory a (length d) → Tells memory (dump_data a d)

short : (a : ℕ) (d : List ℕ) → length d ≤ 1495 → length (layout (dump_data a d)) ≤ 1500
unfolding layout low
short a d k = omega arith

-- an offer is no data; what a frame of data says
no_data : (version : ℕ) (ms : MachineSettings) (size : ℕ) → size < 256 ^ 4 → (fields version (layout (asks_dump ms size))).code ≡ 14 → ⊥
unfolding layout low
no_data version ms size h e =
    let code = ap (λ (f : Fields). f.code) (request_dump_service-fields version ms.device 1 size 0 [] h (omega arith)) in omega arith

says_data : (version a : ℕ) (d : List ℕ) → a < 256 ^ 4 → length d ≤ 1495
    → ((fields version (layout (dump_data a d))).address ≡ a) × (part_of (layout (dump_data a d)) (fields version (layout (dump_data a d))) ≡ d)
says_data version a d h k = (rw (dump_data-fields version a d h (short a d k)), rw (dump_data-fields version a d h (short a d k)) (dump_data-part a d))

-- so bytes that reach the host are memory's
told : (version : ℕ) (memory : List ℕ) (m : Message) (a : ℕ) (d : List ℕ) → Tells memory m → Data version (layout m) a d → d ≡ bytes_from memory a (length d)
told version memory m a d (offer ms size h) q = absurd (no_data version ms size h q.0)
told version memory m a d (bytes {a = x} {d = y} h k v) q =
    let z = says_data version x y h k in
    let same : y ≡ d = sym z.1 ∙ q.2 in
    let at : x ≡ a = sym z.0 ∙ q.1 in
    rw (same, at) at v

-- every such frame is read, under any version
pub asks_read : (version : ℕ) (m : Message) → Asks m → (fields version (layout m)).refusal ≡ 0
asks_read version m (part {a} {n} k l) = rw (request_dump-fields version a n k l)
asks_read version m complete = rw (dump_complete-fields version)

pub tells-read : (version : ℕ) (memory : List ℕ) (m : Message) → Tells memory m → (fields version (layout m)).refusal ≡ 0
unfolding layout low
tells-read version memory m (offer ms size h) = rw (request_dump_service-fields version ms.device 1 size 0 [] h (omega arith))
tells-read version memory m (bytes {a} {d} h k v) = rw (dump_data-fields version a d h (short a d k))

pub read : (version : ℕ) (P : Message → Type 0) → ((m : Message) → P m → (fields version (layout m)).refusal ≡ 0) → (f : Frame) → Carries P f
    → (fields version f).refusal ≡ 0
read version P reads f c = subst (λ (x : Frame). (fields version x).refusal ≡ 0) (sym c.2) (reads c.0 c.1)

-- ---- the settings
-- What is used of accepted settings.
pub record Given (s : DumpSettings) (ms : MachineSettings) (memory buffer : List ℕ) : Type 0 where
  pub most : s.request_bytes ≤ 1495
  pub some : 1 ≤ s.length
  pub range : s.address + s.length ≤ 256 ^ 4
  pub whole : length buffer ≡ s.length
  pub part-most : ms.reply_bytes ≤ 1495
  pub small : length memory < 256 ^ 4

pub given : (s : DumpSettings) (ms : MachineSettings) (memory buffer : List ℕ)
    → dump_checks.settled s (length buffer) ≡ true → machine_checks.refusal ms machine.offering (length memory) 1500 ≡ 0 → Given s ms memory buffer
given s ms memory buffer e r =
    let host = simp and-eq-true_iff at e in
    let end = in_range ms machine.offering (length memory) 1500 r in
    omega (arith, leb-true, eqb-true)

module _ (s : DumpSettings) (ms : MachineSettings) (memory buffer : List ℕ) (g : Given s ms memory buffer) where
  -- ---- what the host does
  -- A host as it may be: good numbers, and so much of its buffer filled as the record says.
  abbrev pub filled_to : ℕ → List ℕ
  filled_to f = filled_with memory s.address f buffer

  pub record HostHolds (h : Host) : Type 0 where
    pub good : Good s h
    pub held : h.buffer ≡ filled_to h.session.filled

  abbrev HostTurn : Turn Host → Type 0
  HostTurn = Returns HostHolds (Carries Asks)

  -- a request for what is missing
  asks_for : (f : ℕ) → f < s.length → Carries Asks (ask s f)
  asks_for f l = (request_dump (s.address + f) (missing s f), part {a = s.address + f} {n = missing s f} (omega arith) (omega arith), refl)

  module _ (h : Host) (i : HostHolds h) where
    -- the buffer as it was, and with a reply laid over it
    as_was : {w f n k v t : ℕ} {c : Counts} (x : Host) → Good s x → Now x w f n k v t c h.buffer → f ≡ h.session.filled → HostHolds x
    as_was x k n e = record { good = k; held = n.buffer-is ∙ i.held ∙ ap filled_to (sym (n.filled ∙ e)) }

    laid : {w n k v t : ℕ} {m : Counts} (x : Host) (f : Frame) (d : List ℕ) → Good s x → Carries (Tells memory) f → Reply s h.session f d
        → Now x w (h.session.filled + length d) n k v t m (over d h.session.filled h.buffer) → HostHolds x
    laid x f d k c a n =
        record {
          good = k;
          held = n.buffer-is ∙ ap (over d h.session.filled) i.held
              ∙ laid_next memory s.address h.session.filled d buffer (told s.version memory c.0 (s.address + h.session.filled) d c.1 (subst (λ (y : Frame). Data s.version y (s.address + h.session.filled) d) c.2 a.0)) ∙ ap filled_to (sym n.filled);
        }

    on_heard : (f : Frame) (t : Turn Host) → Carries (Tells memory) f → Heard s h f t → Kept s g.some h t → HostTurn t
    on_heard f t c refused kept = tt
    on_heard f t c (ignored x n) kept = (as_was x kept.0 n refl, tt)
    on_heard f t c (begins x w v n) kept = (as_was x kept.0 n (sym (i.good.waiting w).0), (asks_for 0 g.some, tt))
    on_heard f t c (asks x d w a l n) kept =
        (laid x f d kept.0 c a n, (asks_for (h.session.filled + length d) (omega (arith, i.good.filled, a.2)), tt))
    on_heard f t c (finishes x d w a l n) kept = (laid x f d kept.0 c a n, ((dump_complete, complete, refl), tt))

    on_timed : (t : Turn Host) → Timed s h t → Kept s g.some h t → HostTurn t
    on_timed t refused kept = tt
    on_timed t (ignored x n) kept = (as_was x kept.0 n refl, tt)
    on_timed t (repeats x w r n) kept =
        (as_was x kept.0 n refl, (asks_for h.session.filled (i.good.unfinished (λ q. omega (arith, w.1))), tt))
    on_timed t (gives_up x w r n) kept = (as_was x kept.0 n refl, ((dump_complete, complete, refl), tt))

  -- ---- what the machine does
  -- A machine end as it may be: Idle or Offering, its memory the old one.
  pub record EndHolds (e : End) : Type 0 where
    pub state : e.machine.state ≤ 1
    pub held : e.memory ≡ memory

  abbrev EndTurn : Turn End → Type 0
  EndTurn = Returns EndHolds (Carries (Tells memory))

  abbrev Does : MachineAct → Type 0
  Does a = EndTurn (acts (machine_end a.end a.lent) (queued a.sending))

  comes : (t : Turn End) (a : MachineAct) → Becomes t a → Does a → EndTurn t
  comes t a c d = came EndTurn t (machine_end a.end a.lent) (queued a.sending) c tt d

  module _ (e : End) (i : EndHolds e) where
    on_request_lem : (m : Message) → Asks m → Does (react ms e.machine (fields ms.version (layout m)) (layout m) e.memory)
    on_request_lem m (part {a} {n} k l) =
        let most : ℕ = min n ms.reply_bytes in
        let size : length (bytes_from e.memory a most) ≡ most = length-bytes_from e.memory a most in
        rw (request_dump-fields ms.version a n k l)
        (by_cases Does (machine.is 0 e.machine || machine.is 1 e.machine)
        (λ _. (i, ((dump_data a (bytes_from e.memory a most), bytes k (omega arith) (rw (size, i.held)), refl), tt))) (λ _. (i, tt)))
    on_request_lem m complete =
        rw (dump_complete-fields ms.version)
        (by_cases Does (machine.is 1 e.machine) (λ _. (record { state = omega arith; held = i.held }, tt)) (λ _. (i, tt)))

    on_tick : Does (on_timer ms e.machine e.memory)
    on_tick =
        by_cases Says (machine.is 2 e.machine) (λ q. absurd (omega (arith, eqb-true, i.state)))
        (λ _. by_cases Says (machine.is 1 e.machine)
        (λ _. (i, ((asks_dump ms (length e.memory), offer ms (length e.memory) (rw i.held g.small), refl), tt))) (λ _. (i, tt)))
      where
        Says : Sending → Type 0
        Says out = Does (does e.machine e.memory out)

  -- ---- what holds in every reached world
  abbrev pub Inv : World Host End → Type 0
  Inv = Holds (dump_ends s ms) HostHolds EndHolds (Carries Asks) (Carries (Tells memory))

  pub closed : Closed (dump_ends s ms) Inv
  closed =
      each.closed (dump_ends s ms) HostHolds EndHolds (Carries Asks) (Carries (Tells memory)) (record {
        host_frame = λ h f b i c. let x = heard s h f b in on_heard h i f _ c x (alone.on_heard s g.some h i.good f _ x);
        host_timer = λ h b i. let x = timed s h b in on_timed h i _ x (alone.on_timed s g.some h i.good _ x);
        machine_frame = λ e f b i c.
            comes _ (react ms e.machine (fields ms.version f) f e.memory) (on_frame_lem ms e.machine e.memory b f)
            (subst (λ (y : Frame). Does (react ms e.machine (fields ms.version y) y e.memory)) (sym c.2) (on_request_lem e i c.0 c.1));
        machine_timer = λ e b i. comes _ (on_timer ms e.machine e.memory) (on_timer_lem ms e.machine e.memory b) (on_tick e i);
      })

  pub fresh_holds : Inv (fresh_world ms memory buffer)
  unfolding bytes_from
  fresh_holds =
      record {
        host = record { good = fresh s g.some buffer; held = refl };
        end = record { state = omega arith; held = refl };
        to_machine = tt;
        to_host = ((asks_dump ms (length memory), offer ms (length memory) g.small, refl), tt);
      }
