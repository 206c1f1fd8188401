-- Element k of a rule's values is the rule's value at k, and there are as many as asked for. Assumes nothing.
use Rattle.std.specs.Prelude.{ℕ, zero, suc, ◌+◌, ◌<◌, ◌≡◌, refl, length, get_or}
use Rattle.std.proofs.Common.{ap, ◌∙◌, sym, add-zero, zero-add, add-suc, suc-add, le_of_suc-le-suc, not-suc-le-zero}
use Rattle.octets.specs.Values.{values}

from : {A : Type 0} (rule : ℕ → A) (d : A) (n i k : ℕ) → k < n → get_or (values rule i n) k d ≡ rule (i + k)
from rule d zero i k h = absurd (not-suc-le-zero h)
from rule d (suc n) i zero h = ap rule (sym (add-zero i))
from rule d (suc n) i (suc k) h = from rule d n (suc i) k (le_of_suc-le-suc h) ∙ ap rule (suc-add i k ∙ sym (add-suc i k))

pub entry : {A : Type 0} (rule : ℕ → A) (d : A) (n k : ℕ) → k < n → get_or (values rule 0 n) k d ≡ rule k
entry rule d n k h = from rule d n 0 k h ∙ ap rule (zero-add k)

pub length-values : {A : Type 0} (rule : ℕ → A) (i n : ℕ) → length (values rule i n) ≡ n
length-values rule i zero = refl
length-values rule i (suc n) = ap suc (length-values rule (suc i) n)
