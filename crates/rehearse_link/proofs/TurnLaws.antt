-- A call of an end that is not refused: its frame has at most 1,500 bytes, the reply buffer keeps its 1,500, and no bytes are no frame.
use Rattle.std.specs.Prelude.{ℕ, ◌-◌, ◌≤◌, ◌≡◌, refl, List, [], ◌∷◌, ◌++◌, length, take, drop, eqb, ltb}
use Rattle.std.proofs.Common.{arith, length-append, length-drop, length-take, take_at, ne_eqb, eqb-true}
use Rattle.octets.specs.TestLaws.{by_cases}
use Rattle.message.specs.declared.Fields.{Fields}
use Rattle.message.specs.Read.{fields}
use Rattle.message.specs.Write.{layout}
use Rattle.message.specs.Laws.{begins}
use Rattle.directory.specs.declared.Region.{Region}
use Rattle.directory.specs.Directory.{regions, bytes, trailer}
use Rattle.image.specs.Image.{parts, segment, segment_of, widest}
use Rattle.entries_next.specs.Next.{next as next_place}
use Rattle.entries.specs.Entries.{walk}
use Rattle.step.specs.Step.{Sending, nothing, sends, Act, Outcome, first, call, frame_call, told, gives}
use Rattle.step.specs.Laws.{none}
use Rattle.machine_record.specs.declared.Machine.{Machine}
use Rattle.machine_record.specs.declared.Settings.{Settings as MachineSettings}
use Rattle.machine_record.specs.Record.{is}
use Rattle.machine_next.specs.Next.{react}
use Rattle.machine_next.proofs.ActedLaws.{Acted, ignored, answered, loaded, dumped, completed, looped, react-acted}
use Rattle.machine_timer.specs.Timer.{on_timer}
use Rattle.load_record.specs.declared.Settings.{Settings as LoadSettings}
use Rattle.load_record.specs.declared.Next.{Next}
use Rattle.load_checks.specs.Checks.{frames, given as marked, string_refusal}
use Rattle.load.specs.Load.{does}
use Rattle.load.specs.Laws.{numbered-sent}
use Rattle.job.specs.Turn.{frame_of}
use Rattle.link.specs.Link.{Frame, refuses, acts, turned, queued}
use Rattle.link.proofs.CallLaws.{told_as}
use Rattle.rehearse_link.proofs.RingLaws.{as_frames}

-- at most 1,500 bytes are sent
abbrev pub Short : Sending → Type 0
Short nothing = Unit {0}
Short (sends m) = length (layout m) ≤ 1500

-- ---- what a call leaves that is not refused
pub record Tells {H B : Type 0} (o : Outcome H B) (h : H) (b : B) (out : List Frame) : Type 0 where
  pub end : o.end ≡ h
  pub lent : o.lent ≡ b
  pub reply : length o.reply ≡ 1500
  pub short : length (frame_of o) ≤ 1500
  pub out-is : as_frames (frame_of o) ≡ out

module _ {H B : Type 0} where
  tells-sent : (h : H) (b : B) (reply : List ℕ) (s : Sending) → length reply ≡ 1500 → Short s → Tells (told h b reply s) h b (queued s)
  tells-sent h b reply nothing l w = record { end = refl; lent = refl; reply = l; short = omega arith; out-is = refl }
  tells-sent h b reply (sends m) l w =
      let f : take (length (layout m)) (layout m ++ drop (length (layout m)) reply) ≡ layout m = take_at (layout m) (drop (length (layout m)) reply) (length (layout m)) refl in
      record {
        end = refl;
        lent = refl;
        reply = simp (length-append, length-drop) (omega arith);
        short = rw f w;
        out-is = rw (f, ne_eqb (length (layout m)) 0 (omega (arith, begins m)));
      }

  pub tells : (a : Act H B) (reply : List ℕ) → length reply ≡ 1500 → Short a.sending → Tells (gives a reply) a.end a.lent (queued a.sending)
  tells a reply l w = tells-sent a.end a.lent reply a.sending l w

module _ {H B E : Type 0} (end : H → B → E) where
  pub given : (n : ℕ) (h : H) (b : B) (reply : List ℕ) (a : Act H B) → (turned end (call n h b reply a) ≡ refuses → ⊥) → call n h b reply a ≡ gives a reply
  given n h b reply a = by_cases (λ (o : Outcome H B). (turned end o ≡ refuses → ⊥) → o ≡ gives a reply) (eqb n 0) (λ _ _. refl) (λ e f. absurd (f (rw e)))

  pub acted : (a : Act H B) (reply : List ℕ) → turned end (gives a reply) ≡ acts (end a.end a.lent) (queued a.sending)
  acted a reply = told_as end 0 a.end a.lent reply a refl

  -- a call on no bytes is refused
  pub no_bytes : (version n : ℕ) (f : Frame) (h : H) (b : B) (reply : List ℕ) (does : Fields → Act H B) → length f ≡ 0 → turned end (frame_call version n f h b reply does) ≡ refuses
  unfolding fields
  no_bytes version n f h b reply does e =
      let one : (fields version f).refusal ≡ 1 = rw e in
      let k : first (n ∷ (fields version f).refusal ∷ []) ≡ 0 → ⊥ = λ z. omega (arith, one, (none _ _ (none _ _ z).1).0) in
      by_cases (λ (o : Outcome H B). turned end o ≡ refuses) (eqb (first (n ∷ (fields version f).refusal ∷ [])) 0) (λ t. absurd (k (eqb-true _ 0 t))) (λ t. rw t)

-- ---- what the machine does on a frame while it is neither Idle nor Offering
unfoldable pub Runs : Act Machine (List ℕ) → Type 0
Runs a = (2 ≤ a.end.state) × Short a.sending

module _ (s : MachineSettings) (m : Machine) (memory : List ℕ) (l : 2 ≤ m.state) where
  pub machine_runs : (f : Fields) (frame : List ℕ) → Runs (react s m f frame memory)
  unfolding layout Runs
  machine_runs f frame = go _ (react-acted s m f frame memory)
    where
      go : (act : Act Machine (List ℕ)) → Acted s m f frame memory act → Runs act
      go act ignored = (l, tt)
      go act (answered m' number error h) = (h l, omega arith)
      go act (loaded m' number bytes address h e) = (h, omega arith)
      go act (dumped h) = absurd (omega arith)
      go act (completed e) = absurd (omega arith)
      go act (looped c e) = absurd (omega arith)

  pub timer_runs : Runs (on_timer s m memory)
  unfolding Runs layout
  timer_runs =
      by_cases (λ (x : Sending). (2 ≤ m.state) × Short x) (is 2 m) (λ _. (l, omega arith)) (λ _. rw (ne_eqb m.state 1 (omega arith)) (l, tt))

-- ---- what the host sends
segment-narrow : (S : ℕ) (rs : List Region) (i : ℕ) → (segment S rs i).length ≤ S
unfolding segment
segment-narrow S [] i = omega arith
segment-narrow S (r ∷ rs) i = by_cases (λ (x : Region). x.length ≤ S) (ltb i (parts S r)) (λ _. omega arith) (λ _. segment-narrow S rs (i - parts S r))

-- the empty string is accepted
pub no_string : (s : LoadSettings) → string_refusal s [] ≡ 0
unfolding first walk next_place
no_string s = by_cases (λ (n : ℕ). n ≡ 0) (marked s) (λ _. refl) (λ _. refl)

pub host-short : (s : LoadSettings) (file : List ℕ) (next : Next) → s.segment_size ≤ widest → Short (does s file [] next).sending
unfolding walk next_place
host-short s file next h =
    let i = next.session.position in
    let n = segment-narrow s.segment_size (regions file) i in
    let short : length (segment_of file s.segment_size i).bytes ≤ widest = simp length-take (omega arith) in
    by_cases Short next.sends (λ _. (numbered-sent s [] (frames s file) (trailer file).transfer i (segment_of file s.segment_size i) (λ _. (refl, omega arith)) short).1) (λ _. tt)
