-- Laws of a dump's calls: an accepted call is ready for what is done next, and what goes out by its case.
use Rattle.std.specs.Prelude.{ℕ, ◌+◌, ◌≡◌, refl, true, ◌&&◌, List, length, eqb, leb, ltb}
use Rattle.std.proofs.Common.{◌∙◌, arith, leb-true, eqb-true}
use Rattle.std.proofs.lemmas.Bool.{eqb-false}
use Rattle.buffer.specs.declared.Written.{Written}
use Rattle.octets.specs.TestLaws.{by_cases, both}
use Rattle.buffer.specs.Lay.{Came, written}
use Rattle.message.specs.declared.Fields.{Fields}
use Rattle.message.specs.Message.{request_dump, dump_complete}
use Rattle.message.specs.Read.{fields, part}
use Rattle.message.specs.Write.{sent}
use Rattle.step.specs.Step.{gives, Leaves}
use Rattle.step.specs.Laws.{frame-accepted}
use Rattle.dump_record.specs.declared.Settings.{Settings}
use Rattle.dump_record.specs.declared.Session.{Session}
use Rattle.dump_record.specs.declared.Sends.TheVariants.{Nothing, Request, Complete}
use Rattle.dump_record.specs.declared.Next.{Next}
use Rattle.dump_record.specs.Record.{place, asked, reached, tallied}
use Rattle.dump_next.specs.Next.{takes, react}
use Rattle.dump_timer.specs.Timer.{on_timer}
use Rattle.dump_checks.specs.Checks.{refusal}
use Rattle.dump_checks.proofs.Laws.{bound, Accepted}
use Rattle.dump.specs.Dump.{counted, filled, does, on_frame, dump_frame}
use Rattle.dump.specs.Inner.{Missing, Room, Ready}

-- What is so of what is done next, on a reply of k bytes: replies and frames sent stay, and what is asked for or taken is within the range.
abbrev Follows : Settings → Session → ℕ → Next → Type 0
Follows s h k n =
    (n.session.replies ≡ h.replies) × (n.session.sent ≡ h.sent) × Missing s n.session.filled n.sends × Room n.takes h.filled k s.length

module _ (s : Settings) (h : Session) (size free : ℕ) (a : Accepted s h size free) where
  taken : (k address : ℕ) → (eqb h.waiting 0 && eqb address (place s h) && leb 1 k && leb k (asked s h)) ≡ true → Follows s h k (takes s (reached h (h.filled + k)))
  taken k address e =
      let least = leb-true k (asked s h) (both (eqb h.waiting 0 && eqb address (place s h) && leb 1 k) (leb k (asked s h)) e).1 in
      let within = a.numbers.filled in
      by_cases (Follows s h k) (eqb (h.filled + k) s.length) (λ _. omega arith) (λ d. let other = eqb-false (h.filled + k) s.length d in omega arith)

  on_frame_lem : (f : Fields) → Follows s h f.data_length (react s h f)
  on_frame_lem f =
      let P : Next → Type 0 = Follows s h f.data_length in
      by_cases P (eqb h.verdict 0) (λ _.
      by_cases P (eqb f.code 12) (λ _. by_cases P (eqb h.waiting 1) (λ _. omega (arith, a.ranges.least)) (λ _. omega arith)) (λ _.
      by_cases P (eqb f.code 14) (λ _. by_cases P _ (taken f.data_length f.address) (λ _. omega arith)) (λ _. omega arith))) (λ _. omega arith)

  on_timer_lem : Follows s h 0 (on_timer s h)
  on_timer_lem =
      let P : Next → Type 0 = Follows s h 0 in
      by_cases P (eqb h.verdict 0) (λ v.
      let short = a.numbers.short (eqb-true h.verdict 0 v) in
      by_cases P (eqb h.waiting 0) (λ _. by_cases P (ltb h.repeats s.repeats) (λ _. omega arith) (λ _. omega arith)) (λ _. omega arith)) (λ _. omega arith)

  ready : (k : ℕ) (n : Next) → Follows s h k n → Ready s n free
  ready k n f =
      let r = a.ranges in
      let g = a.numbers in
      record {
        bytes = r.bytes;
        range = r.range;
        missing = f.2;
        replies = omega arith;
        sent = omega (arith, bound h.replies s.repeats (omega arith) r.repeats);
        room = a.room;
      }

  pub ready-frame : (f : Fields) → Ready s (tallied h (react s h f)) free × Room (react s h f).takes h.filled f.data_length size
  ready-frame f = (ready f.data_length (tallied h (react s h f)) (on_frame_lem f), rw a.ranges.whole (on_frame_lem f).3)

  pub ready_timer : Ready s (on_timer s h) free
  ready_timer = ready 0 (on_timer s h) on_timer_lem

-- what goes out, by its case
module _ (s : Settings) (n : Next) (buffer reply : List ℕ) where
  pub tells-nothing : n.sends ≡ Nothing → Leaves (gives (does s n buffer) reply) (counted n) (written 0) buffer reply
  tells-nothing e = rw e (refl, refl, refl, refl)

  module _ {answer : Written} {reply' : List ℕ} where
    pub tells-request : n.sends ≡ Request → Came (sent (request_dump (place s n.session) (asked s n.session)) reply) answer reply'
        → Leaves (gives (does s n buffer) reply) (counted n) answer buffer reply'
    tells-request e c = rw e (refl, c.0, refl, c.1)

    pub tells-complete : n.sends ≡ Complete → Came (sent dump_complete reply) answer reply'
        → Leaves (gives (does s n buffer) reply) (counted n) answer buffer reply'
    tells-complete e c = rw e (refl, c.0, refl, c.1)

-- a step on a frame that is not refused: what is done next, with the frame counted and the bytes taken, is what the call leaves
pub stepped : (s : Settings) (h : Session) (frame buffer reply : List ℕ) (f : Fields) (n t : Next) (filled' : List ℕ) {session : Session} {answer : Written} {reply' : List ℕ}
    → refusal s h (length buffer) (length reply) ≡ 0 → f ≡ fields s.version frame → f.refusal ≡ 0 → n ≡ react s h f → t ≡ tallied h n
    → filled' ≡ filled n.takes (part frame f) h.filled buffer
    → Leaves (gives (does s t filled') reply) session answer filled' reply'
    → Leaves (dump_frame s h frame buffer reply) session answer filled' reply'
stepped s h frame buffer reply f n t filled' z q e r c o l =
    let done = rw (o, c, r, q) at l in
    frame-accepted s.version (refusal s h (length buffer) (length reply)) frame h buffer reply (on_frame s h frame buffer) z (rw q at e) (done.0, done.1, (rw (r, q) at o) ∙ done.2, done.3)
