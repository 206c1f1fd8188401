-- What a caller may take for granted of an input that is not refused.
use Rattle.std.specs.Prelude.{ℕ, ◌+◌, ◌<◌, ◌≤◌, Bool, true, false, ◌&&◌, cond as pick, Ok, ◌≡◌, refl, List, length, take, drop, eqb, leb}
use Rattle.std.proofs.Common.{sym, subst, arith, leb-true, eqb-true}
use Rattle.octets.specs.TestLaws.{both}
use Rattle.decimal.specs.Decimal.{is_number, value}
use Rattle.script.specs.Script.{ranges, third_at, memory, size, repeats, is_settings, is_image, only, events, end, settings_line, image_line, events_line, well_formed, malformed, said, checked}
use Rattle.script.specs.declared.Script.{Script}

-- an input that is not refused: its numbers are in their ranges, and its parts lie within it and are what they are to be
pub record Accepted (s : List ℕ) (r : Script) : Type 0 where
  pub short : length s ≤ 8192
  pub memory-least : 1 ≤ r.memory
  pub memory-most : r.memory ≤ 4096
  pub size-least : 1 ≤ r.segment_size
  pub size-most : r.segment_size ≤ 1490
  pub repeats-most : r.repeats ≤ 255
  pub image-within : r.image_at + r.image_length < length s
  pub image-is : is_image (take r.image_length (drop r.image_at s)) ≡ true
  pub events-within : r.events_at + r.events_length < length s
  pub events_are : only events (take r.events_length (drop r.events_at s)) ≡ true

in_range : (low high : ℕ) (s : List ℕ) → ranges low high s ≡ true → (low ≤ value 0 s) × (value 0 s ≤ high)
in_range low high s e =
    let h = both (leb low (value 0 s)) (leb (value 0 s) high) (both (is_number s) (leb low (value 0 s) && leb (value 0 s) high) e).1 in
    (leb-true _ _ h.0, leb-true _ _ h.1)

-- the five tests in turn
parts : (a b c d e : Bool) → a && (b && (c && (d && e))) ≡ true → (a ≡ true) × (b ≡ true) × (c ≡ true) × (d ≡ true) × (e ≡ true)
parts a b c d e h =
    let i = both a (b && (c && (d && e))) h in
    let j = both b (c && (d && e)) i.1 in
    let k = both c (d && e) j.1 in
    let l = both d e k.1 in
    (i.0, j.0, k.0, l.0, l.1)

said-accepted : (s : List ℕ) → well_formed s ≡ true → Accepted s (said s)
said-accepted s h =
    let l = settings_line s in
    let p = parts (leb (length s) 8192) (eqb (end s) (length s)) (is_settings l) (is_image (image_line s)) (only events (events_line s)) h in
    let q = parts true (leb (third_at l) (length l)) (ranges 1 4096 (memory l)) (ranges 1 1490 (size l)) (ranges 0 255 (repeats l)) p.2 in
    let whole = eqb-true (end s) (length s) p.1 in
    let m = in_range 1 4096 (memory l) q.2 in
    let z = in_range 1 1490 (size l) q.3 in
    let r = in_range 0 255 (repeats l) q.4 in
    record {
      short = leb-true (length s) 8192 p.0;
      memory-least = m.0;
      memory-most = m.1;
      size-least = z.0;
      size-most = z.1;
      repeats-most = r.1;
      image-within = omega arith;
      image-is = p.3;
      events-within = omega arith;
      events_are = p.4;
    }

picked : (b : Bool) (r x : Script) → Ok r ≡ pick b (Ok x) malformed → (b ≡ true) × (r ≡ x)
picked true r x e = (refl, cc)
picked false r x e = let z : ◌≡◌ {A = ℕ} 0 1 = cc in absurd (omega arith)

pub accepted : (s : List ℕ) (r : Script) → Ok r ≡ checked s → Accepted s r
accepted s r e =
    let p = picked (well_formed s) r (said s) e in
    subst (λ (t : Script). Accepted s t) (sym p.1) (said-accepted s p.0)
