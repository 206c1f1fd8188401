-- What 'fits' means by addresses; each byte of memory with a load laid over it; the bytes of memory from an address on.
use Prim.Native.Nat.{ℕ, ◌+◌, ◌-◌, ◌≤◌, ◌<◌, min}
use Rattle.std.specs.Prelude.{◌≡◌, refl, Bool, true, false, not, get_or, leb}
use Rattle.std.proofs.Math.Path.{ap, sym, subst}
use Rattle.std.proofs.Common.{◌∙◌, arith, length-take, drop_of_length-le, take_all, take_at, drop_at, length-take-le, drop-drop, get_or-append-add, ext_get_or, leb-true, leb-false, le-leb}
use mathlib.Core.List.{List, ◌++◌, append_assoc}
use Rattle.std.proofs.Math.Decide.{dec_lt}
use Rattle.std.proofs.Math.ListN.{length, take, drop, replicate, length-append, length-drop, get_or-append, get_or-eq_default}
use Rattle.std.proofs.lemmas.List.{length-replicate, take-replicate, get_or-replicate}
use Rattle.std.proofs.Math.Seq.{take-append-le, take-append-add, get_or-append_right, get_or-take, get_or-drop}
use Rattle.octets.specs.TestLaws.{both}
use Rattle.window.specs.declared.Window.{Window}
use Rattle.window.specs.Window.{Lies, InWindow, touches}
use Rattle.window.specs.Laws.{touch_both, both_touch}
use Rattle.memory.specs.Memory.{fits, laid, bytes_from}

-- ---- what fits
-- A load that fits ends no later than memory, and no address lies both in it and in the window; one of which that is so fits.
pub fits-inside : (window : Window) (address n size : ℕ) → fits window address n size ≡ true → address + n ≤ size
unfolding fits
fits-inside window address n size e = leb-true (address + n) size (both (leb (address + n) size) _ e).0

pub fits-clear : (window : Window) (address n size : ℕ) → fits window address n size ≡ true → (a : ℕ) → InWindow window a → Lies address n a → ⊥
unfolding fits
fits-clear window address n size e a x y = no_touch (touches window address n) (both (leb (address + n) size) _ e).1 (both_touch window address n a x y)
  where
    no_touch : (t : Bool) → not t ≡ true → t ≡ true → ⊥
    no_touch t f e = let z : ◌≡◌ {A = ℕ} 0 1 = cc in omega arith

pub clear-fits : (window : Window) (address n size : ℕ) → address + n ≤ size → ((a : ℕ) → InWindow window a → Lies address n a → ⊥)
    → fits window address n size ≡ true
unfolding fits
clear-fits window address n size h f =
    rw (le-leb (address + n) size h) (untouched (touches window address n) (λ t. let z = touch_both window address n t in f z.0 z.1 z.2))
  where
    untouched : (t : Bool) → (t ≡ true → ⊥) → not t ≡ true
    untouched true g = absurd (g refl)
    untouched false g = refl

-- so one that touches the window does not fit
pub touching_unfit : (window : Window) (address n size a : ℕ) → InWindow window a → Lies address n a → fits window address n size ≡ false
touching_unfit window address n size a x y = go (fits window address n size) refl
  where
    go : (b : Bool) → fits window address n size ≡ b → b ≡ false
    go true e = absurd (fits-clear window address n size e a x y)
    go false e = refl

-- where a load fits, one without bytes fits at its address; and two that fit, one behind the other, fit together
pub fits-empty : (window : Window) (address n size : ℕ) → fits window address n size ≡ true → fits window address 0 size ≡ true
fits-empty window address n size e =
    clear-fits window address 0 size (omega (arith, fits-inside window address n size e)) (λ a x y. omega arith)

pub fits-joined : (window : Window) (address m n size : ℕ) → fits window address m size ≡ true → fits window (address + m) n size ≡ true
    → fits window address (m + n) size ≡ true
fits-joined window address m n size e f =
    clear-fits window address (m + n) size (omega (arith, fits-inside window (address + m) n size f)) (λ a x y.
    elim (dec_lt a (address + m)) [
      | yes l ↦ fits-clear window address m size e a x (omega arith, l)
      | no l ↦ fits-clear window (address + m) n size f a x (omega arith, omega arith)
    ])

-- ---- memory with bytes laid over it
module _ (bytes : List ℕ) (address : ℕ) (memory : List ℕ) (h : address + length bytes ≤ length memory) where
  front : length (take address memory) ≡ address
  front = length-take-le address memory (omega arith)

  whole : length (take address memory ++ bytes) ≡ address + length bytes
  whole = rw (length-append, front)

  pub length-laid : length (laid bytes address memory) ≡ length memory
  length-laid = simp (length-append, length-take, length-drop) (omega arith)

  -- what lies before the bytes, up to their end, and behind them
  before : take address (laid bytes address memory) ≡ take address memory
  before = take_at (take address memory) (bytes ++ drop (address + length bytes) memory) address front

  up_to : take (address + length bytes) (laid bytes address memory) ≡ take address memory ++ bytes
  up_to =
      rw (← append_assoc (take address memory) bytes (drop (address + length bytes) memory))
      (take_at (take address memory ++ bytes) (drop (address + length bytes) memory) (address + length bytes) whole)

  behind : drop (address + length bytes) (laid bytes address memory) ≡ drop (address + length bytes) memory
  behind =
      rw (← append_assoc (take address memory) bytes (drop (address + length bytes) memory))
      (drop_at (take address memory ++ bytes) (drop (address + length bytes) memory) (address + length bytes) whole)

  -- laid over twice is laid over once
  pub laid-again : laid bytes address (laid bytes address memory) ≡ laid bytes address memory
  laid-again = rw (before, behind)

  -- each byte: the load's within it, memory's before and behind it
  pub laid-within : (x : ℕ) → x < length bytes → get_or (laid bytes address memory) (address + x) 0 ≡ get_or bytes x 0
  laid-within x l =
      subst (λ (k : ℕ). get_or (laid bytes address memory) (k + x) 0 ≡ get_or bytes x 0) front
      (get_or-append-add (take address memory) (bytes ++ drop (address + length bytes) memory) x 0
      ∙ get_or-append bytes (drop (address + length bytes) memory) 0 x l)

  pub laid-before : (a : ℕ) → a < address → get_or (laid bytes address memory) a 0 ≡ get_or memory a 0
  laid-before a l =
      get_or-append (take address memory) (bytes ++ drop (address + length bytes) memory) 0 a (omega (arith, front))
      ∙ get_or-take address memory a 0 l

  pub laid-behind : (a : ℕ) → address + length bytes ≤ a → get_or (laid bytes address memory) a 0 ≡ get_or memory a 0
  laid-behind a l =
      let end = address + length bytes in
      let same : get_or (drop end (laid bytes address memory)) (a - end) 0 ≡ get_or (drop end memory) (a - end) 0 = ap (λ (m : List ℕ). get_or m (a - end) 0) behind in
      let at : end + (a - end) ≡ a = omega arith in
      subst (λ (k : ℕ). get_or (laid bytes address memory) k 0 ≡ get_or memory k 0) at (simp get_or-drop at same)

-- a load that fits leaves the bytes of the window
pub laid_outside : (window : Window) (bytes : List ℕ) (address : ℕ) (memory : List ℕ) → fits window address (length bytes) (length memory) ≡ true
    → (a : ℕ) → InWindow window a → get_or (laid bytes address memory) a 0 ≡ get_or memory a 0
laid_outside window bytes address memory e a x =
    let inside = fits-inside window address (length bytes) (length memory) e in
    elim (dec_lt a address) [
      | yes l ↦ laid-before bytes address memory inside a l
      | no l ↦ elim (dec_lt a (address + length bytes)) [
        | yes m ↦ absurd (fits-clear window address (length bytes) (length memory) e a x (omega arith, m))
        | no m ↦ laid-behind bytes address memory inside a (omega arith)
      ]
    ]

-- bytes laid one behind the other are their joining laid over
pub laid-joined : (a b : List ℕ) (address : ℕ) (memory : List ℕ) → address + length a + length b ≤ length memory
    → laid b (address + length a) (laid a address memory) ≡ laid (a ++ b) address memory
laid-joined a b address memory h =
    let end = address + length a in
    let rest = drop (end + length b) memory in
    let past : drop (end + length b) (laid a address memory) ≡ rest =
    sym (drop-drop (length b) end (laid a address memory)) ∙ (rw (behind a address memory (omega arith)) (drop-drop (length b) end memory)) in
    let size : address + length (a ++ b) ≡ end + length b = simp length-append (omega arith) in
    rw (up_to a address memory (omega arith), past, size, append_assoc (take address memory) a (b ++ rest), append_assoc a b rest)

-- ---- bytes of memory from an address on
pub take-zeros : (k n : ℕ) → k ≤ n → take k (replicate {A = ℕ} n 0) ≡ replicate k 0
take-zeros k n h = take-replicate k n 0 h

module _ (memory : List ℕ) (address n : ℕ) where
  pub length-bytes_from : length (bytes_from memory address n) ≡ n
  unfolding bytes_from
  length-bytes_from = simp (length-take, length-append, length-drop, length-replicate) (omega arith)

  -- byte k of them is the byte of memory k further on
  pub get_or-bytes_from : (k : ℕ) → k < n → get_or (bytes_from memory address n) k 0 ≡ get_or memory (address + k) 0
  unfolding bytes_from
  get_or-bytes_from k h =
      let rest : List ℕ = drop address memory in
      let zeros : List ℕ = replicate n 0 in
      let size = length-drop address memory in
      get_or-take n (rest ++ zeros) k 0 h
      ∙ (elim (dec_lt k (length rest)) [
        | yes l ↦ get_or-append rest zeros 0 k l ∙ get_or-drop address memory k 0
        | no l ↦ get_or-append_right rest zeros k 0 (omega arith) ∙ (get_or-replicate n (k - length rest) 0 0 (omega arith) ∙ sym (get_or-eq_default memory 0 (omega arith)))
      ])

  -- all of them in memory
  pub bytes_from-inside : address + n ≤ length memory → bytes_from memory address n ≡ take n (drop address memory)
  unfolding bytes_from
  bytes_from-inside h = take-append-le n (drop address memory) (replicate n 0) (rw length-drop (omega arith))

  -- or some beyond: what memory has, then zeros
  pub bytes_from_across : length memory ≤ address + n
      → bytes_from memory address n ≡ drop address memory ++ replicate (n - (length memory - address)) 0
  unfolding bytes_from
  bytes_from_across h =
      let bytes = drop address memory in
      let k = n - (length memory - address) in
      let size : length bytes + k ≡ n = rw length-drop (omega arith) in
      subst (λ (i : ℕ). take i (bytes ++ replicate n 0) ≡ bytes ++ replicate k 0) size
      (take-append-add bytes (replicate n 0) k ∙ ap (λ (l : List ℕ). bytes ++ l) (take-zeros k n (omega arith)))

  -- memory from a place on that is its end, where the address lies beyond
  clamped : (at : ℕ) → at ≡ min address (length memory) → (within : Bool) → leb address (length memory) ≡ within → drop at memory ≡ drop address memory
  clamped at e true t = let same : at ≡ address = omega (arith, leb-true address (length memory) t) in rw same
  clamped at e false t =
      let past = leb-false address (length memory) t in
      drop_of_length-le memory {i = at} (omega arith) ∙ sym (drop_of_length-le memory {i = address} (omega arith))

  pub bytes_from-beyond : (at k : ℕ) (zeros : List ℕ) → at ≡ min address (length memory) → zeros ≡ replicate k 0 → n ≤ k → length memory ≤ address + n
      → take (length memory - at) (drop at memory) ++ take (n - (length memory - at)) zeros ≡ bytes_from memory address n
  bytes_from-beyond at k zeros e z l h =
      let bytes = take_all (length memory - at) (drop at memory) (rw length-drop (omega arith)) ∙ clamped at e (leb address (length memory)) refl in
      let rest : length memory - at ≡ length memory - address = omega arith in
      rw (bytes, z, rest, take-zeros (n - (length memory - address)) k (omega arith)) (sym (bytes_from_across h))

-- bytes from an address on, and those that begin where they end
pub bytes_from-joined : (memory : List ℕ) (address m n : ℕ)
    → bytes_from memory address m ++ bytes_from memory (address + m) n ≡ bytes_from memory address (m + n)
bytes_from-joined memory address m n =
    let one : List ℕ = bytes_from memory address m in
    let two : List ℕ = bytes_from memory (address + m) n in
    let a = length-bytes_from memory address m in
    let b = length-bytes_from memory (address + m) n in
    let c = length-bytes_from memory address (m + n) in
    let size = length-append one two in
    ext_get_or 0 (one ++ two) (bytes_from memory address (m + n)) (omega arith) (λ i h.
    rw (get_or-bytes_from memory address (m + n) i (omega arith))
    (elim (dec_lt i (length one)) [
      | yes l ↦ get_or-append one two 0 i l ∙ get_or-bytes_from memory address m i (omega arith)
      | no l ↦ let at : address + m + (i - length one) ≡ address + i = omega arith in
          get_or-append_right one two i 0 (omega arith) ∙ (get_or-bytes_from memory (address + m) n (i - length one) (omega arith) ∙ ap (λ (k : ℕ). get_or memory k 0) at)
    ]))
