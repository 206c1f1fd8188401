-- What the four counts of a host's record say of its session (PROTOCOL 6, 'Link').
use Rattle.std.specs.Prelude.{ℕ, ◌+◌, ◌≤◌, ◌≡◌}
use Rattle.counts.specs.declared.Counts.{Counts}

-- With this waiting mark, so many restarts (of a dump none), so many steps forward since (c of a load, the replies taken of a dump) and this
-- verdict: starts is 0 while it waits, and from then on 1 and one for each restart; advances is the steps forward, and if there was a restart
-- perhaps more; rejections is 1 where the verdict is 2, rejected, and 0 elsewhere. With the sum of all four the rest are the ignored ones.
pub record Counted (waiting restarts forward verdict : ℕ) (c : Counts) : Type 0 where
  pub waits : waiting ≡ 1 → c.starts ≡ 0
  pub started : (waiting ≡ 1 → ⊥) → c.starts ≡ restarts + 1
  pub advances : restarts ≡ 0 → c.advances ≡ forward
  pub at_least : forward ≤ c.advances
  pub rejected : verdict ≡ 2 → c.rejections ≡ 1
  pub not-rejected : (verdict ≡ 2 → ⊥) → c.rejections ≡ 0
