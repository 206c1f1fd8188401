use Rattle.std.proofs.Common.{◌≡◌, length, drop, sym, ◌∙◌, get_or, min}
use Rattle.std.proofs.lemmas.List.{take_rest}
use Rattle.parameters.specs.Laws.{latest-in, latest-short}
use Rattle.parameters.proofs.find.Goals as goal

pub loop-left-preserved : goal.loop-left-preserved
loop-left-preserved c =
    let l = c.loop-left in
    let s = l.left.now in
    let n = c.min-n.result in
    let size : n ≡ min (get_or s 1 0) (length (drop 2 s)) = rw (c.from.ensures, take_rest s 2) at c.min-n.ensures in
    let on = latest-in c.args.kind l.found.now s n c.in-len2-up.len_at_least size in
    rw (c.later-found.ensures, take_rest s 2, take_rest (drop 2 s) n) (on ∙ l.invariant)

pub returns : goal.returns
returns c = let l = c.loop-left in
    sym (latest-short c.args.kind l.found.now l.left.now c.in_default.len_below) ∙ l.invariant
