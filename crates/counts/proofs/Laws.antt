-- Laws of the counts: which one a frame raises in each case, and that it is one.
use Rattle.std.specs.Prelude.{ℕ, ◌+◌, ◌<◌, ◌≤◌, ◌≡◌, refl, Bool, true, false, ◌&&◌, ◌||◌, cond as pick, eqb, ltb}
use Rattle.std.proofs.Common.{arith, eq-eqb, ne_eqb, eqb-true, lt-ltb, le-ltb, ltb-true}
use Rattle.std.proofs.lemmas.Bool.{eqb-false}
use Rattle.octets.specs.TestLaws.{by_cases, both}
use Rattle.counts.specs.declared.Counts.{Counts}
use Rattle.counts.specs.declared.Standing.{Standing}
use Rattle.counts.specs.Counts.{sum, top, below, start, advance, ignore, reject, begins, tally, passed}

-- every count is below the top
pub record Below (c : Counts) : Type 0 where
  pub starts : c.starts < top
  pub advances : c.advances < top
  pub ignored : c.ignored < top
  pub rejections : c.rejections < top

pub each_below : (c : Counts) → below c ≡ true → Below c
each_below c e =
    let all = both (ltb c.starts top && ltb c.advances top && ltb c.ignored top) (ltb c.rejections top) e in
    let three = both (ltb c.starts top && ltb c.advances top) (ltb c.ignored top) all.0 in
    let two = both (ltb c.starts top) (ltb c.advances top) three.0 in
    record { starts = ltb-true _ _ two.0; advances = ltb-true _ _ two.1; ignored = ltb-true _ _ three.1; rejections = ltb-true _ _ all.1 }

-- as it is if all together are
pub sum_below : (c : Counts) → sum c < top → below c ≡ true
sum_below c l =
    rw (lt-ltb c.starts top (omega arith), lt-ltb c.advances top (omega arith), lt-ltb c.ignored top (omega arith), lt-ltb c.rejections top (omega arith))

-- ---- one frame
module _ (before after : Standing) (c : Counts) where
  -- after the verdict no count rises
  pub over : (before.verdict ≡ 0 → ⊥) → tally before after c ≡ c
  over n = rw (ne_eqb before.verdict 0 n)

  module _ (v : before.verdict ≡ 0) where
    pub first : begins before after ≡ true → tally before after c ≡ start c
    first b = rw (eq-eqb before.verdict 0 v, b)

    module _ (b : begins before after ≡ false) where
      pub further : before.reached < after.reached → tally before after c ≡ advance c
      further l = rw (eq-eqb before.verdict 0 v, b, lt-ltb before.reached after.reached l)

      module _ (l : after.reached ≤ before.reached) where
        pub rejecting : after.verdict ≡ 2 → tally before after c ≡ reject c
        rejecting e = rw (eq-eqb before.verdict 0 v, b, le-ltb before.reached after.reached l, eq-eqb after.verdict 2 e)

        pub ignoring : (after.verdict ≡ 2 → ⊥) → tally before after c ≡ ignore c
        ignoring n = rw (eq-eqb before.verdict 0 v, b, le-ltb before.reached after.reached l, ne_eqb after.verdict 2 n)

-- until there is a verdict exactly one rises, by one
pub one_more : (before after : Standing) (c : Counts) → sum (tally before after c) ≡ sum c + pick (eqb before.verdict 0) 1 0
one_more before after c = go (eqb before.verdict 0)
  where
    More : Counts → Type 0
    More x = sum x ≡ sum c + 1

    go : (running : Bool)
        → sum (pick running (pick (begins before after) (start c) (pick (ltb before.reached after.reached) (advance c) (pick (eqb after.verdict 2) (reject c) (ignore c)))) c)
        ≡ sum c + pick running 1 0
    go true =
        by_cases More (begins before after) (λ _. omega arith) (λ _.
        by_cases More (ltb before.reached after.reached) (λ _. omega arith) (λ _.
        by_cases More (eqb after.verdict 2) (λ _. omega arith) (λ _. omega arith)))
    go false = omega arith

-- a frame that leaves the session where it stands is ignored
standing-still : (r w : ℕ) → ltb r r || (eqb w 1 && eqb w 0) ≡ false
standing-still r w = rw (le-ltb r r (omega arith)) (go (eqb w 1) refl)
  where
    go : (b : Bool) → eqb w 1 ≡ b → (b && eqb w 0) ≡ false
    go true e = ne_eqb w 0 (omega (arith, eqb-true w 1 e))
    go false e = refl

pub unmoved : (x : Standing) (c : Counts) → tally x x c ≡ passed x.verdict c
unmoved x c = go (eqb x.verdict 0) refl
  where
    go : (b : Bool) → eqb x.verdict 0 ≡ b → tally x x c ≡ pick b (ignore c) c
    go true e =
        let v = eqb-true x.verdict 0 e in
        ignoring x x c v (standing-still x.restarts x.waiting) (omega arith) (omega arith)
    go false e = over x x c (eqb-false x.verdict 0 e)
