-- The ways through an accepted call, for both steps.
use Prim.Native.Nat.{ℕ, ◌+◌, ◌*◌, ◌≤◌, ◌<◌}
use mathlib.Core.Path.{◌≡◌, refl, ap, subst}
use mathlib.Core.Bool.{Bool, true, false, cond as pick}
use mathlib.Core.List.{List}
use native.Mathlib.Omega.{arith}
use lib.ListN.{length}
use lib.Dec.{ltb}
use borrow.Author.Tests.{ltb-true, ltb-false}
use Rattle.buffer.specs.declared.Written.{Written}
use Rattle.message.specs.Message.{Message}
use Rattle.directory.specs.Directory.{addresses}
use Rattle.directory.specs.Directory.{regions}
use Rattle.image.specs.Image.{many, segment, widest, cut_refusal}
use Rattle.image.specs.Laws.{file_segment, segment-none}
use Rattle.step.specs.Step.{Sending, nothing, sends, Act, acts, gives, Leaves}
use Rattle.load_record.specs.declared.Settings.{Settings}
use Rattle.load_record.specs.declared.Session.{Session}
use Rattle.load_record.specs.declared.Next.{Next}
use Rattle.load_record.specs.Record.{most_restarts}
use Rattle.load_record.specs.Laws.{Bound}
use Rattle.load_checks.specs.declared.Ruling.{Ruling}
use Rattle.load_checks.specs.Checks.{frames, refusal, accepts}
use Rattle.load.specs.Load.{numbered, frame_message, counted, does}
use Rattle.load_checks.specs.Laws.{Accepted, accepted, restarts-most, most-sent}
use Rattle.load.specs.Inner.{piece, acting, Sendable}

same-sending : (b : Bool) (m n : Message) → (b ≡ true → m ≡ n) → ◌≡◌ {A = Sending} (pick b (sends m) nothing) (pick b (sends n) nothing)
same-sending true m n e = ap sends (e refl)
same-sending false m n e = refl

-- a segment of an accepted image lies within it and fits a frame, and so does 'nowhere', where there is none
found : (s : Settings) (file : List ℕ) (i : ℕ) (b : Bool) → ltb i (many s.segment_size (regions file)) ≡ b → cut_refusal file s.segment_size ≡ 0
    → s.segment_size ≤ widest
    → ((segment s.segment_size (regions file) i).place + (segment s.segment_size (regions file) i).length ≤ length file)
    × ((segment s.segment_size (regions file) i).length ≤ widest)
found s file i true l w n =
    let held = file_segment file s.segment_size w i (ltb-true _ _ l) in (held.within, omega (arith, held.size))
found s file i false l w n =
    let none = segment-none s.segment_size (regions file) i (ltb-false _ _ l) in
    (rw none (omega arith), rw none (omega arith))

module _ (s : Settings) (h : Session) (file string reply : List ℕ) (i : ℕ) {k : Ruling} (e : k ≡ accepts s file i) where
  numbered_as : k.many ≡ frames s file
  numbered_as = ap (λ (r : Ruling). r.many) e

  module _ (z : refusal s h file string reply ≡ 0) where
    pub facts : Accepted s h file string reply
    facts = accepted s h file string reply z

    -- while the record runs, a frame is on its way or yet to come
    pub goes : h.verdict ≡ 0 → h.position < k.many
    goes v = rw numbered_as (facts.fits.goes v)

    -- frame i, if there is one, can be sent
    sendable : i < k.many → Sendable s file string i k reply
    sendable l =
        let a = facts in
        let held = found s file i (ltb i (many s.segment_size (regions file))) refl a.whole a.range.narrow in
        record {
          within = rw (ap (λ (r : Ruling). r.segment) e) held.0;
          short = rw (ap (λ (r : Ruling). r.segment) e) held.1;
          few = omega (arith, numbered_as, a.few);
          room = a.room;
          parameters = a.parameters;
        }

    module _ (next : Next) (b : Bound k.many i h next) where
      pub ready : (next.session.sent ≤ 65536 * (256 * (addresses + 1))) × (next.sends ≡ true → Sendable s file string next.session.position k reply)
      ready =
          let a = facts in
          let often : h.restarts ≤ most_restarts = omega (arith, a.sound.restarts, restarts-most s) in
          let most = most-sent h.restarts (frames s file) s.repeats often a.few a.range.few in (
            rw b.counted (omega (arith, a.fits.counted, most)),
            λ e. rw (b.place e) (sendable (b.inside e)),
          )

      -- the segment found beforehand is the one that goes out
      same-message : next.sends ≡ true
          → numbered s string k.many k.transfer next.session.position (piece file k.segment) ≡ frame_message s file string next.session.position
      same-message g = rw (b.place g, e)

      same : acting s file string k next ≡ does s file string next
      same = ap (acts (counted next) tt) (same-sending next.sends _ _ same-message)

      pub given : {other : Next} → next ≡ other → {session : Session} {answer : Written} {out : List ℕ}
          → Leaves (gives (acting s file string k next) reply) session answer tt out → Leaves (gives (does s file string other) reply) session answer tt out
      given e {session} {answer} {out} l =
          subst (λ (n : Next). Leaves (gives (does s file string n) reply) session answer tt out) e
          (subst (λ (a : Act Session Unit). Leaves (gives a reply) session answer tt out) same l)
