use Prim.Native.Nat.{ℕ, ◌≤◌}
use mathlib.Core.Path.{◌≡◌, sym}
use mathlib.Core.List.{List}
use native.Mathlib.Omega.{arith}
use lib.ListN.{length}
use borrow.Author.Rules.{rules}
use borrow.Author.Tests.{le-leb, ne_eqb}
use Rattle.directory.specs.Directory.{trailer, entries, entries_refusal, demand, trailer_refusal}
use Rattle.image.specs.Image.{widest, cut_refusal}
use Rattle.directory.specs.Laws.{placed}
use Rattle.directory.specs.declared.Trailer.{Trailer}
use Rattle.std.proofs.lemmas.Result.{err_from_is_err_and}
use Rattle.refusal.specs.Laws.{some}
use Rattle.image.proofs.survey.Goals as goal

module _ (file : List ℕ) (S : ℕ) (l : 1 ≤ S) (m : S ≤ widest) where
  -- the trailer is refused
  in-trailer : (t : Trailer) (n : ℕ) → t ≡ trailer file → n ≡ trailer_refusal (length file) t → (n ≡ 0 → ⊥) → cut_refusal file S ≡ n
  unfolding demand
  in-trailer t n e w ne =
      rw (← e, le-leb 1 S l, le-leb S widest m, ← w, ne_eqb n 0 ne)

  -- the trailer is accepted, so that the entries decide
  decided : (t : Trailer) (n : ℕ) → t ≡ trailer file → 0 ≡ trailer_refusal (length file) t
      → n ≡ entries_refusal t.directory 0 (entries file t.directory t.count) → cut_refusal file S ≡ n
  unfolding demand
  decided t n e w k = rw (← e, le-leb 1 S l, le-leb S widest m, ← w) (sym k)

pub returns-then-not-contains : goal.returns-then-not-contains
unfolding demand
returns-then-not-contains c = search rules

pub returns-in_err-trailer_refusal : goal.returns-in_err-trailer_refusal
returns-in_err-trailer_refusal c = let a = c.args in
    let p = err_from_is_err_and c.from_residual.result c.from_residual.ensures.1 in
    rw (p.1, p.2)
    (in-trailer a.file.now a.size (search rules) (search rules) _ _ c.read_trailer-t.ensures c.in_err-trailer_refusal.ensures
    (λ z. omega (arith, some c.in_err-trailer_refusal.field-0.0)))

pub walk-requires : goal.walk-requires
walk-requires c = let a = c.args in
    let p = placed (length a.file.now) c.read_trailer-t.result (sym c.in_ok-trailer_refusal.ensures) in
    (omega arith, search rules)

pub returns-in_err-segments : goal.returns-in_err-segments
returns-in_err-segments c = let a = c.args in
    let p = err_from_is_err_and c.from_residual-in_err-segments.result c.from_residual-in_err-segments.ensures.1 in
    rw (p.1, p.2)
    (decided a.file.now a.size (search rules) (search rules) _ _ c.read_trailer-t.ensures c.in_ok-trailer_refusal.ensures (sym c.in_err-segments.ensures))

pub returns : goal.returns
unfolding demand
returns c = let a = c.args in
    search rules
