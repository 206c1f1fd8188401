-- Reading a line character by character gives what the line stands for, cut to the buffer's length.
use Rattle.std.specs.Prelude.{ℕ, suc, ◌+◌, ◌*◌, ◌/◌, ◌%◌, ◌<◌, ◌≤◌, ◌≡◌, refl, Bool, true, false, ◌&&◌, not, cond, None, List, [], ◌∷◌, ◌++◌, length, get_or, take, drop, set, ltb}
use Rattle.std.proofs.Common.{sym, ap, subst, ◌∙◌, append_assoc, append-nil, arith, add-one, add-zero, zero-add, length-set, length-take, length-append, length-drop, take-append-drop, drop_of_length-le, drop-cons, take_all, take-suc-set, ltb-true, ltb-false, lt-ltb}
use Rattle.std.proofs.lemmas.List.{take-append-le, set_split}
use Rattle.std.proofs.Math.Seq.{set_out}
use Rattle.buffer.specs.Lay.{Output, refused, written, over, Came}
use Rattle.octets.specs.TestLaws.{by_cases}
use Rattle.digits.specs.Digits.{nibble}
use Rattle.text.specs.Laws.{by_test, placed-short, placed-whole, over-append}
use Rattle.hexadecimal.specs.declared.Line.{Line}
use Rattle.hexadecimal.specs.Hexadecimal.{Decoded, not_hexadecimal, spelled, is_digit, before, hexadecimal, is_hexadecimal, decoded}
use Rattle.hexadecimal.specs.Line.{waits, is_foul, Held, held, opened, stepped, run, ended}

-- character by character
pub run_at : (s : List ℕ) (i : ℕ) (h : Held) → i < length s → run (drop i s) h ≡ run (drop (i + 1) s) (stepped h (get_or s i 0))
unfolding run
run_at s i h l = rw (add-one i, drop-cons s i 0 l)

pub run-done : (s : List ℕ) (i : ℕ) (h : Held) → length s ≤ i → run (drop i s) h ≡ h
unfolding run
run-done s i h l = rw (drop_of_length-le s {i = i} l)

-- the first n bytes
abbrev pub capped : ℕ → Decoded → Decoded
capped n not_hexadecimal = not_hexadecimal
capped n (spelled s) = spelled (take n s)

-- the first n bytes of some bytes and what follows them
abbrev joined : ℕ → List ℕ → Decoded → Decoded
joined n front not_hexadecimal = not_hexadecimal
joined n front (spelled s) = spelled (take n (front ++ s))

-- one byte more, with room for it and without
join-room : (k v : ℕ) (b : List ℕ) (d : Decoded) → k < length b
    → joined (length (set b k v)) (take (k + 1) (set b k v)) d ≡ joined (length b) (take k b) (before v d)
join-room k v b not_hexadecimal h = refl
join-room k v b (spelled s) h = rw (length-set, add-one k, take-suc-set b k v h, append_assoc)

join-full : (k v : ℕ) (b : List ℕ) (d : Decoded) → length b ≤ k
    → joined (length (set b k v)) (take k (set b k v)) d ≡ joined (length b) (take k b) (before v d)
join-full k v b not_hexadecimal h = refl
join-full k v b (spelled s) h =
    let n : length b ≤ length (take k b) = simp length-take (omega arith) in
    rw (set_out b k v h) (ap spelled (take-append-le (length b) (take k b) s n ∙ sym (take-append-le (length b) (take k b) (v ∷ s) n)))

-- a digit is below 16
digit_below : (c : ℕ) → is_digit c ≡ true → nibble c % 16 ≡ nibble c
digit_below c d = omega (arith, ltb-true (nibble c) 16 d)

-- a line between two bytes, with k bytes kept
abbrev between : ℕ → Bool → List ℕ → Held
between k begun buffer = held (record { length = k; high = None; foul = false; begun = begun }) buffer

foul_stays : (cs : List ℕ) (h : Held) → h.line.foul ≡ true → ended (run cs h) ≡ not_hexadecimal
unfolding run
foul_stays [] h e = rw e
foul_stays (c ∷ rest) h e =
    foul_stays rest (stepped h c) (by_cases (λ (l : Line). l.foul ≡ true) (is_digit c) (λ d. by_cases (λ (l : Line). l.foul ≡ true) (waits h.line.high) (λ w. e) (λ w. e)) (λ d. refl))

run-between : (cs : List ℕ) (k : ℕ) (g : Bool) (b : List ℕ) → k ≤ length b → ended (run cs (between k g b)) ≡ joined (length b) (take k b) (hexadecimal cs)
unfolding run hexadecimal
run-between [] k g b l = ap spelled (sym (take_all (length b) (take k b ++ []) (simp (append-nil, length-take) (omega arith)) ∙ append-nil (take k b)))
run-between (x ∷ []) k g b l =
    by_test (is_digit x) (ended (stepped (between k g b) x) ≡ not_hexadecimal) (λ e. simp e) (λ e. rw e)
run-between (x ∷ y ∷ rest) k g b l =
    let v = nibble x * 16 + nibble y in
    let h = stepped (between k g b) x in
    by_test (is_digit x) _
    (λ dx. by_test (is_digit y) _
    (λ dy.
    let whole : joined (length b) (take k b) (hexadecimal (x ∷ y ∷ rest)) ≡ joined (length b) (take k b) (before v (hexadecimal rest)) = rw (dx, dy) in
    by_test (ltb k (length b)) _
    (λ r.
    let s : stepped h y ≡ between (k + 1) true (set b k v) = simp (dx, dy, r, digit_below x dx) in
    let room = ltb-true k (length b) r in
    ap (λ (z : Held). ended (run rest z)) s ∙ run-between rest (k + 1) true (set b k v) (simp length-set (omega arith)) ∙ join-room k v b (hexadecimal rest) room ∙ sym whole)
    (λ r.
    let s : stepped h y ≡ between k true (set b k v) = simp (dx, dy, r, digit_below x dx) in
    ap (λ (z : Held). ended (run rest z)) s ∙ run-between rest k true (set b k v) (simp length-set l) ∙ join-full k v b (hexadecimal rest) (ltb-false k (length b) r) ∙ sym whole))
    (λ fy. foul_stays rest (stepped h y) (rw fy) ∙ (rw (dx, fy))))
    (λ fx. foul_stays (y ∷ rest) h (rw fx) ∙ (rw fx))

join-none : (n : ℕ) (d : Decoded) → joined n [] d ≡ capped n d
join-none n not_hexadecimal = refl
join-none n (spelled s) = refl

-- THE LAW of lines
pub run-decoded : (cs buffer : List ℕ) → ended (run cs (opened buffer)) ≡ capped (length buffer) (hexadecimal cs)
run-decoded cs buffer = run-between cs 0 false buffer (omega arith) ∙ join-none (length buffer) (hexadecimal cs)

-- ---- whether the line is hexadecimal
ended_is : (h : Held) → not (is_foul h.line) ≡ is_hexadecimal (ended h)
ended_is h = by_test (is_foul h.line) _ (λ e. rw e) (λ e. rw e)

capped_is : (n : ℕ) (d : Decoded) → is_hexadecimal (capped n d) ≡ is_hexadecimal d
capped_is n not_hexadecimal = refl
capped_is n (spelled s) = refl

pub run_is : (cs buffer : List ℕ) → not (is_foul (run cs (opened buffer)).line) ≡ is_hexadecimal (hexadecimal cs)
run_is cs buffer = ended_is (run cs (opened buffer)) ∙ ap is_hexadecimal (run-decoded cs buffer) ∙ capped_is (length buffer) (hexadecimal cs)

-- ---- the bytes in a buffer that has room for them
-- bytes whose text has two characters or more: they are digits, and the rest spells the other bytes
record Front (x y : ℕ) (rest s : List ℕ) : Type 0 where
  high : is_digit x ≡ true
  low : is_digit y ≡ true
  behind : List ℕ
  rest-is : hexadecimal rest ≡ spelled behind
  whole_is : s ≡ (nibble x * 16 + nibble y) ∷ behind

front : (x y : ℕ) (rest s : List ℕ) → hexadecimal (x ∷ y ∷ rest) ≡ spelled s → Front x y rest s
unfolding hexadecimal
front x y rest s e = go (is_digit x) (is_digit y) (hexadecimal rest) refl refl refl e
  where
    go : (a b : Bool) (d : Decoded) → is_digit x ≡ a → is_digit y ≡ b → hexadecimal rest ≡ d
        → cond (a && b) (before (nibble x * 16 + nibble y) d) not_hexadecimal ≡ spelled s → Front x y rest s
    go true true (spelled t) p q r e = record { high = p; low = q; behind = t; rest-is = r; whole_is = cc }
    go true true not_hexadecimal p q r e = let z : ◌≡◌ {A = ℕ} 0 1 = cc in absurd (omega arith)
    go true false d p q r e = let z : ◌≡◌ {A = ℕ} 0 1 = cc in absurd (omega arith)
    go false b d p q r e = let z : ◌≡◌ {A = ℕ} 0 1 = cc in absurd (omega arith)

-- one byte more
over-byte : (v : ℕ) (s : List ℕ) (k : ℕ) (b : List ℕ) → k < length b → over s (k + 1) (set b k v) ≡ over (v ∷ s) k b
over-byte v s k b h =
    let e : set b k v ≡ over (v ∷ []) k b = set_split b k v h ∙ (rw (← add-one k)) in
    rw e (over-append (v ∷ []) s k b (omega arith))

-- what a line that spells bytes leaves
abbrev Leaves : Held → ℕ → List ℕ → List ℕ → Type 0
Leaves h k s b = (h.line.length ≡ k + length s) × (h.buffer ≡ over s k b)

run-spelled : (cs : List ℕ) (k : ℕ) (g : Bool) (b s : List ℕ) → hexadecimal cs ≡ spelled s → k + length s ≤ length b → Leaves (run cs (between k g b)) k s b
unfolding run hexadecimal
run-spelled [] k g b s e h =
    let n : s ≡ [] = cc in
    rw n (omega arith, sym (rw add-zero (take-append-drop k b)))
run-spelled (x ∷ []) k g b s e h = let z : ◌≡◌ {A = ℕ} 0 1 = cc in absurd (omega arith)
run-spelled (x ∷ y ∷ rest) k g b s e h =
    let v = nibble x * 16 + nibble y in
    let f = front x y rest s e in
    let t = f.behind in
    let n : length s ≡ suc (length t) = ap length f.whole_is in
    let a : stepped (stepped (between k g b) x) y ≡ between (k + 1) true (set b k v) = simp (f.high, f.low, lt-ltb k (length b) (omega arith), digit_below x f.high) in
    let l = run-spelled rest (k + 1) true (set b k v) t f.rest-is (simp length-set (omega arith)) in
    let m : Leaves (run rest (between (k + 1) true (set b k v))) k (v ∷ t) b = (omega (arith, l.0), l.1 ∙ over-byte v t k b (omega arith)) in
    subst (λ (z : Held). Leaves (run rest z) k s b) (sym a) (rw f.whole_is m)

length-spelled : (cs s : List ℕ) → hexadecimal cs ≡ spelled s → length s ≡ length cs / 2
unfolding hexadecimal
length-spelled [] s e = let n : s ≡ [] = cc in rw n (omega arith)
length-spelled (x ∷ []) s e = let z : ◌≡◌ {A = ℕ} 0 1 = cc in absurd (omega arith)
length-spelled (x ∷ y ∷ rest) s e = let f = front x y rest s e in omega (arith, ap length f.whole_is, length-spelled rest f.behind f.rest-is)

-- the ways through `decoded`
pub decoded-not : (d : Decoded) (out : List ℕ) → is_hexadecimal d ≡ false → Came (decoded d out) (refused 10) out
decoded-not not_hexadecimal out e = (refl, refl)
decoded-not (spelled s) out e = let z : ◌≡◌ {A = ℕ} 0 1 = cc in absurd (omega arith)

module _ (cs out : List ℕ) where
  pub decoded-short : is_hexadecimal (hexadecimal cs) ≡ true → length out < length cs / 2 → Came (decoded (hexadecimal cs) out) (refused 9) out
  decoded-short e h = go (hexadecimal cs) refl e
    where
      go : (d : Decoded) → hexadecimal cs ≡ d → is_hexadecimal d ≡ true → Came (decoded d out) (refused 9) out
      go not_hexadecimal f e = let z : ◌≡◌ {A = ℕ} 0 1 = cc in absurd (omega arith)
      go (spelled s) f e = placed-short s out (omega (arith, length-spelled cs s f))

  pub decoded-whole : is_hexadecimal (hexadecimal cs) ≡ true → length cs / 2 ≤ length out
      → Came (decoded (hexadecimal cs) out) (written (run cs (opened out)).line.length) (run cs (opened out)).buffer
  decoded-whole e h = go (hexadecimal cs) refl e
    where
      go : (d : Decoded) → hexadecimal cs ≡ d → is_hexadecimal d ≡ true → Came (decoded d out) (written (run cs (opened out)).line.length) (run cs (opened out)).buffer
      go not_hexadecimal f e = let z : ◌≡◌ {A = ℕ} 0 1 = cc in absurd (omega arith)
      go (spelled s) f e =
          let l = length-spelled cs s f in
          let r = run-spelled cs 0 false out s f (omega arith) in
          let w = placed-whole s out (omega arith) in
          (ap written (r.0 ∙ zero-add (length s)) ∙ w.0, r.1 ∙ (rw zero-add) ∙ w.1)

-- what a caller may take for granted: the bytes are within the buffer, which keeps its length
pub decoded-within : (d : Decoded) (out : List ℕ) → ((decoded d out).answer.length ≤ length out) × (length (decoded d out).buffer ≡ length out)
decoded-within not_hexadecimal out = (omega arith, refl)
decoded-within (spelled s) out =
    by_cases (λ (o : Output). (o.answer.length ≤ length out) × (length o.buffer ≡ length out)) (ltb (length out) (length s))
    (λ e. (omega arith, refl))
    (λ e. let h = ltb-false (length out) (length s) e in (h, simp (length-append, length-drop) (omega arith)))
