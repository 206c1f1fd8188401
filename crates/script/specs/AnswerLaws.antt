-- What the parts' answers say.
use Rattle.std.specs.Prelude.{ℕ, ◌+◌, ◌-◌, ◌≤◌, Bool, true, false, cond as pick, Some, None, Ok, Err, ◌≡◌, refl, List, length, take, drop, eqb, leb}
use Rattle.std.specs.Option.{ok_or}
use Rattle.std.proofs.Common.{ap, ◌∙◌, arith, length-drop, take_all, eq-eqb, le-leb}
use Rattle.text.specs.Find.{index_of}
use Rattle.script.specs.Script.{second_at, third_at, memory, size, repeats, image_at, events_at, end, settings_line}
use Rattle.script.specs.Laws.{Cut, cut, cut-first}

-- a value that is given where a test holds
module _ {T : Type 0} where
  pub given : (b : Bool) (v x : T) → Some x ≡ pick b (Some v) None → (b ≡ true) × (x ≡ v)
  given true v x e = (refl, cc)
  given false v x e = let z : ◌≡◌ {A = ℕ} 0 1 = cc in absurd (omega arith)

  pub not-given : (b : Bool) (v : T) → None ≡ pick b (Some v) None → b ≡ false
  not-given true v e = let z : ◌≡◌ {A = ℕ} 0 1 = cc in absurd (omega arith)
  not-given false v e = refl

  pub or_refused : {E : Type 0} (b : Bool) (v : T) (e : E) → ok_or (pick b (Some v) None) e ≡ pick b (Ok v) (Err e)
  or_refused true v e = refl
  or_refused false v e = refl

-- the first line, from where its spaces are
module _ (line : List ℕ) (first second : ℕ) (f : first ≡ 0 + index_of 32 (drop 0 line)) (g : second ≡ (first + 1) + index_of 32 (drop (first + 1) line)) where
  second_cut : Cut 32 line (second_at line) (first + 1) second
  second_cut = cut 32 line (second_at line) (first + 1) second (cut 32 line 0 0 first refl f).next g

  pub third_is : second + 1 ≡ third_at line
  third_is = second_cut.next

  pub two_spaces : second + 1 ≤ length line → leb (third_at line) (length line) ≡ true
  two_spaces h = le-leb (third_at line) (length line) (omega (arith, third_is))

  pub memory_is : take first line ≡ memory line
  memory_is = cut-first 32 line first f

  pub size_is : take (second - (first + 1)) (drop (first + 1) line) ≡ size line
  size_is = second_cut.part

  pub repeats_is : take (length line - (second + 1)) (drop (second + 1) line) ≡ repeats line
  repeats_is = take_all (length line - (second + 1)) (drop (second + 1) line) (simp length-drop (omega arith)) ∙ ap (λ (n : ℕ). drop n line) third_is

-- the input, from where its line feeds are
module _ (s : List ℕ) (first second third : ℕ) (f : first ≡ 0 + index_of 10 (drop 0 s)) (g : second ≡ (first + 1) + index_of 10 (drop (first + 1) s))
    (h : third ≡ (second + 1) + index_of 10 (drop (second + 1) s)) where
  pub image_cut : Cut 10 s (image_at s) (first + 1) second
  image_cut = cut 10 s (image_at s) (first + 1) second (cut 10 s 0 0 first refl f).next g

  pub events_cut : Cut 10 s (events_at s) (second + 1) third
  events_cut = cut 10 s (events_at s) (second + 1) third image_cut.next h

  pub settings_is : take first s ≡ settings_line s
  settings_is = cut-first 10 s first f

  pub three_lines : third + 1 ≡ length s → eqb (end s) (length s) ≡ true
  three_lines e = eq-eqb (end s) (length s) (omega (arith, events_cut.next))

  pub image_from : first + 1 ≡ image_at s
  image_from = (cut 10 s 0 0 first refl f).next
