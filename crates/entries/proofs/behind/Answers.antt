use Rattle.std.proofs.Common.{◌≡◌, true, ℕ, ◌<◌, ◌≤◌, length, take, drop, List, [], ◌∷◌, get_or, sym, ◌∙◌, arith, length-drop, length-take-le, take-append-drop}
use Rattle.std.proofs.lemmas.List.{take_rest}
use Rattle.entries_next.specs.declared.Place.TheVariants.{Kind}
use Rattle.entries_next.specs.Next.{listed}
use Rattle.entries.specs.Grammar.{Fields}
use Rattle.entries.specs.Entries.{walk}
use Rattle.entries.specs.GrammarLaws.{ten, walk-entry}
use Rattle.entries.proofs.behind.Goals as goal

passed : (version : ℕ) (s : List ℕ) → 2 ≤ length s → get_or s 1 0 ≤ length (drop 2 s) → listed version (get_or s 0 0) (get_or s 1 0) ≡ true → (get_or s 0 0 ≡ 5 → Fields 0 0 (take (get_or s 1 0) (drop 2 s)))
    → (length (drop (get_or s 1 0) (drop 2 s)) < length s) × (walk version Kind (drop (get_or s 1 0) (drop 2 s)) ≡ walk version Kind s)
passed version [] long h l f = absurd (omega arith)
passed version (kind ∷ []) long h l f = absurd (omega arith)
passed version (kind ∷ n ∷ after) long h l f =
    let size : length (take n after) ≡ n = length-take-le n after h in
    let over = rw (size, take-append-drop) at (walk-entry version kind (take n after) (drop n after) (rw size l) f) in
    (simp length-drop (omega arith), sym over)

pub time-requires : goal.time-requires
time-requires c = let a = c.args in
    let s = a.s.now in
    let l = sym c.listed.ensures ∙ c.if-not-listed.false in
    let fits = rw (c.from-size.ensures, take_rest s 2) at c.if-rest-size.false in
    rw (c.from-size.ensures, take_rest s 2) (length-take-le (get_or s 1 0) (drop 2 s) (omega (arith, fits)) ∙ ten a.version (get_or s 0 0) (get_or s 1 0) l (omega (arith, c.if-kind-into.false, c.into.ensures)))

pub returns-then-kind-into : goal.returns-then-kind-into
returns-then-kind-into c = let a = c.args in
    let s = a.s.now in
    let l = sym c.listed.ensures ∙ c.if-not-listed.false in
    let fits = rw (c.from-size.ensures, take_rest s 2) at c.if-rest-size.false in
    rw (c.from-size.ensures, take_rest s 2, take_rest (drop 2 s) (get_or s 1 0)) (passed a.version s c.in-len2-up.len_at_least fits l (λ is5. absurd (c.if-kind-into.true (is5 ∙ sym c.into.ensures))))

pub returns-then-time : goal.returns-then-time
returns-then-time c = let a = c.args in
    let s = a.s.now in
    let l = sym c.listed.ensures ∙ c.if-not-listed.false in
    let fits = rw (c.from-size.ensures, take_rest s 2) at c.if-rest-size.false in
    let fields = rw (c.from-size.ensures, take_rest s 2) at (c.time.ensures c.if-time.true) in
    rw (c.from-size.ensures, take_rest s 2, take_rest (drop 2 s) (get_or s 1 0)) (passed a.version s c.in-len2-up.len_at_least fits l (λ is5. fields))
