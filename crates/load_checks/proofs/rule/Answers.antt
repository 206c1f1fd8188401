use Prim.Native.Nat.{ℕ, ◌≤◌, ◌<◌}
use mathlib.Core.Path.{◌≡◌, refl, sym, ◌∙◌}
use mathlib.Core.Bool.{Bool, true, false, ◌&&◌}
use mathlib.Core.List.{List, [], ◌∷◌}
use native.Mathlib.Omega.{arith}
use lib.ListN.{length}
use borrow.Author.Tests.{le-leb, lt-leb, ne_eqb}
use Rattle.image.specs.declared.Tally.{Tally}
use Rattle.directory.specs.Directory.{addresses, trailer, regions}
use Rattle.image.specs.Image.{tally, cut_refusal}
use Rattle.directory.specs.Directory.{refusal as image_refusal}
use Rattle.image.specs.Laws.{many-range}
use Rattle.octets.specs.TestLaws.{both}
use Rattle.step.specs.Step.{unless, first}
use Rattle.load_record.specs.declared.Settings.{Settings}
use Rattle.load_record.specs.declared.Session.{Session}
use Rattle.load_checks.specs.Checks.{frames_of, few, consistent, frames, string_refusal, refusal}
use Rattle.load_valid.specs.Valid.{settled, sound}
use Rattle.load_checks.specs.Laws.{set, is-sound, restarts-most, cut-image, frames-few}
use Rattle.step.specs.Laws.{last as last_of}
use Rattle.std.proofs.lemmas.Result.{err_from_is_err_and}
use Rattle.refusal.specs.Laws.{some}
use Rattle.load_checks.proofs.rule.Goals as goal

-- settings or a record that are bad are 10, whichever it is
either : (a b : Bool) (l : List ℕ) → a && b ≡ false → first (unless a 10 ∷ unless b 10 ∷ l) ≡ 10
unfolding first
either true b l e = rw e
either false b l e = refl

-- the refusals in turn: each is the call's if none before it is
module _ (s : Settings) (h : Session) (file string reply : List ℕ) where
  invalid : settled s && sound s h ≡ false → refusal s h file string reply ≡ 10
  invalid bad = either (settled s) (sound s h) _ bad

  module _ (v : settled s && sound s h ≡ true) where
    a : settled s ≡ true
    a = (both (settled s) (sound s h) v).0

    b : sound s h ≡ true
    b = (both (settled s) (sound s h) v).1

    images : image_refusal file ≡ cut_refusal file s.segment_size
    images = cut-image s file (set s a)

    no_room : length reply < 1500 → refusal s h file string reply ≡ 9
    unfolding first
    no_room l = rw (a, b, lt-leb 1500 (length reply) l)

    module _ (l : 1500 ≤ length reply) where
      no-image : {n : ℕ} → cut_refusal file s.segment_size ≡ n → 1 ≤ n → refusal s h file string reply ≡ n
      unfolding first
      no-image {n} e some = rw (a, b, le-leb 1500 (length reply) l, images, e, ne_eqb n 0 (λ z. omega arith))

      module _ (z : cut_refusal file s.segment_size ≡ 0) where
        whole : image_refusal file ≡ 0
        whole = images ∙ z

        too_many : few s (frames s file) ≡ false → refusal s h file string reply ≡ 12
        unfolding first
        too_many bad = rw (a, b, le-leb 1500 (length reply) l, whole, bad)

        module _ (j : few s (frames s file) ≡ true) where
          inconsistent : consistent (frames s file) s h ≡ false → refusal s h file string reply ≡ 10
          unfolding first
          inconsistent bad = rw (a, b, le-leb 1500 (length reply) l, whole, j, bad)

          module _ (good : consistent (frames s file) s h ≡ true) where
            last : refusal s h file string reply ≡ first (string_refusal s string ∷ [])
            unfolding first
            last = rw (a, b, le-leb 1500 (length reply) l, whole, j, good)

pub returns-then-not-valid : goal.returns-then-not-valid
returns-then-not-valid c = let a = c.args in
    invalid a.settings a.session a.file.now a.parameters.now a.reply.now (sym c.if-not-valid.ensures)

pub returns-then-reply-lt1500 : goal.returns-then-reply-lt1500
returns-then-reply-lt1500 c = let a = c.args in
    no_room a.settings a.session a.file.now a.parameters.now a.reply.now (sym c.if-not-valid.ensures) (omega arith)

pub returns-in_err-a : goal.returns-in_err-a
returns-in_err-a c = let a = c.args in
    let p = err_from_is_err_and c.from_residual.result c.from_residual.ensures.1 in
    rw (p.1, p.2)
    (no-image a.settings a.session a.file.now a.parameters.now a.reply.now (sym c.if-not-valid.ensures) (omega arith) c.in_err-a.ensures (some c.in_err-a.field-0.0))

module _ (s : Settings) (file : List ℕ) (i : ℕ) {t : Tally} (e : t ≡ tally (trailer file) s.segment_size i (regions file)) where
  frames-same : (n : ℕ) → n ≡ frames_of s t.segments → n ≡ frames s file
  frames-same n m = rw e at m

  no_more : cut_refusal file s.segment_size ≡ 0 → t.segments ≤ addresses
  no_more z = rw e (many-range file s.segment_size z).1

pub frames-many-requires : goal.frames-many-requires
frames-many-requires c = let a = c.args in
    no_more a.settings a.file.now a.index c.in_ok-a.ensures.1 c.in_ok-a.ensures.0

pub returns-then-not-few : goal.returns-then-not-few
returns-then-not-few c = let a = c.args in
    let n = frames-same a.settings a.file.now a.index c.in_ok-a.ensures.1 _ c.frames-many.ensures in
    too_many a.settings a.session a.file.now a.parameters.now a.reply.now (sym c.if-not-valid.ensures) (omega arith) c.in_ok-a.ensures.0
    (sym (rw n at c.if-not-few.ensures))

pub consistent-requires : goal.consistent-requires
consistent-requires c = let a = c.args in
    let good = both (settled a.settings) (sound a.settings a.session) (sym c.if-not-valid.ensures) in
    let most = no_more a.settings a.file.now a.index c.in_ok-a.ensures.1 c.in_ok-a.ensures.0 in (
      omega (arith, c.frames-many.ensures, (frames-few a.settings c.in_ok-a.a.segments).1),
      (set a.settings good.0).few,
      omega (arith, (is-sound a.settings a.session good.1).restarts, restarts-most a.settings),
    )

pub returns-then-not-consistent : goal.returns-then-not-consistent
returns-then-not-consistent c = let a = c.args in
    let n = frames-same a.settings a.file.now a.index c.in_ok-a.ensures.1 _ c.frames-many.ensures in
    inconsistent a.settings a.session a.file.now a.parameters.now a.reply.now (sym c.if-not-valid.ensures) (omega arith) c.in_ok-a.ensures.0
    (sym (rw n at c.if-not-few.ensures)) (sym (rw n at c.if-not-consistent.ensures))

pub returns-in_err-string_refusal : goal.returns-in_err-string_refusal
returns-in_err-string_refusal c = let a = c.args in
    let n = frames-same a.settings a.file.now a.index c.in_ok-a.ensures.1 _ c.frames-many.ensures in
    let p = err_from_is_err_and c.from_residual-in_err-string_refusal.result c.from_residual-in_err-string_refusal.ensures.1 in
    rw (p.1, p.2)
    (last a.settings a.session a.file.now a.parameters.now a.reply.now (sym c.if-not-valid.ensures) (omega arith) c.in_ok-a.ensures.0
    (sym (rw n at c.if-not-few.ensures)) (sym (rw n at c.if-not-consistent.ensures))
    ∙ last_of _ ∙ sym c.in_err-string_refusal.ensures)

pub returns : goal.returns
returns c = let a = c.args in
    let n = frames-same a.settings a.file.now a.index c.in_ok-a.ensures.1 _ c.frames-many.ensures in (
      last a.settings a.session a.file.now a.parameters.now a.reply.now (sym c.if-not-valid.ensures) (omega arith) c.in_ok-a.ensures.0
          (sym (rw n at c.if-not-few.ensures)) (sym (rw n at c.if-not-consistent.ensures))
          ∙ last_of _ ∙ sym c.in_ok-string_refusal.ensures,
      rw (n, c.in_ok-a.ensures.1),
    )
