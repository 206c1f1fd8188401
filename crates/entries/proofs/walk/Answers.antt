use Rattle.std.proofs.Common.{◌≡◌, ℕ, ◌<◌, length, List, [], ◌∷◌, refl, sym, ap, ◌∙◌, arith, drop_of_length-le}
use Rattle.std.proofs.lemmas.List.{take_rest}
use Rattle.entries_next.specs.declared.Place.TheVariants.{Kind}
use Rattle.entries_next.specs.Next.{next}
use Rattle.entries.specs.Entries.{walk}
use Rattle.entries.specs.Laws.{walk_at}
use Rattle.entries.proofs.walk.Goals as goal

empty : (l : List ℕ) → length l < 1 → l ≡ []
empty [] h = refl
empty (x ∷ l) h = absurd (omega arith)

pub returns-then-s-from : goal.returns-then-s-from
unfolding walk
returns-then-s-from c = rw (drop_of_length-le c.args.s.now {i = c.args.from} (omega arith))

pub returns-then-kind-eq0 : goal.returns-then-kind-eq0
unfolding next
returns-then-kind-eq0 c = let l = c.loop-left.left.now in
    let a = c.args in
    let mark = walk_at a.version Kind l 0 c.in-len1-up.len_at_least in
    rw (take_rest l 1) at (c.transfer.ensures a.version) ∙ (sym (rw c.if-kind-eq0.true at mark) ∙ c.loop-left.invariant)

pub returns : goal.returns
unfolding walk
returns c =
    let l = c.loop-left.left.now in
    ap (walk c.args.version Kind) (sym (empty l c.in_default.len_below)) ∙ c.loop-left.invariant
