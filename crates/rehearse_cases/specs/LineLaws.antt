-- An input that is accepted is three lines, each ended by its only line feed, and nothing else.
use Rattle.std.specs.Prelude.{ℕ, ◌+◌, ◌<◌, ◌≤◌, Bool, true, false, ◌≡◌, refl, List, [], ◌∷◌, ◌++◌, length, get_or, take, drop, eqb}
use Rattle.std.proofs.Common.{ap, ◌∙◌, arith, add-one, add_assoc, length-drop, drop_of_length-le, drop-drop, eqb-true}
use Rattle.std.proofs.Math.Seq.{split_at}
use Rattle.text.specs.Find.{index_after, index_of}
use Rattle.script.specs.Script.{up_to, behind, image_at, events_at, end, settings_line, image_line, events_line}

-- what stands at the place of the first b, and that there is none before it
found : (b : ℕ) (s : List ℕ) → index_of b s < length s → get_or s (index_of b s) 0 ≡ b
unfolding index_of
found b [] h = absurd (omega arith)
found b (c ∷ rest) h = go (eqb c b) refl (found b rest) h
  where
    go : (t : Bool) → eqb c b ≡ t → (index_of b rest < length rest → get_or rest (index_of b rest) 0 ≡ b) → index_after t (index_of b rest) < length (c ∷ rest) → get_or (c ∷ rest) (index_after t (index_of b rest)) 0 ≡ b
    go true e f l = eqb-true c b e
    go false e f l = f (omega arith)

pub none_before : (b : ℕ) (s : List ℕ) → index_of b (take (index_of b s) s) ≡ index_of b s
unfolding index_of
none_before b [] = refl
none_before b (c ∷ rest) = go (eqb c b) refl (none_before b rest)
  where
    go : (t : Bool) → eqb c b ≡ t → index_of b (take (index_of b rest) rest) ≡ index_of b rest → index_of b (take (index_after t (index_of b rest)) (c ∷ rest)) ≡ index_after t (index_of b rest)
    go true e f = refl
    go false e f = rw (e, f)

-- a line, its line feed and the rest
line : (s : List ℕ) (from : ℕ) → behind 10 s from ≤ length s → drop from s ≡ up_to 10 s from ++ (10 ∷ drop (behind 10 s from) s)
line s from h =
    let t = drop from s in
    let l : index_of 10 t < length t = simp length-drop (omega arith) in
    rw (add_assoc, ← drop-drop, add-one) (rw (found 10 t l) at (split_at t (index_of 10 t) 0 l))

pub three-lines : (s : List ℕ) → end s ≡ length s
    → s ≡ settings_line s ++ (10 ∷ (image_line s ++ (10 ∷ (events_line s ++ (10 ∷ [])))))
three-lines s e =
    let a = line s 0 (omega arith) in
    let b = line s (image_at s) (omega arith) in
    let c = line s (events_at s) (omega arith) in
    let d = drop_of_length-le s {i = end s} (omega arith) in
    a ∙ ap (λ (t : List ℕ). settings_line s ++ (10 ∷ t)) (b ∙ ap (λ (t : List ℕ). image_line s ++ (10 ∷ t)) (c ∙ ap (λ (t : List ℕ). events_line s ++ (10 ∷ t)) d))
