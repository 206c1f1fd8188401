-- First in, first out: what joins is the last, what leaves is the first, and a full ring drops what comes.
use Rattle.std.specs.Prelude.{ℕ, zero, suc, ◌+◌, ◌-◌, ◌%◌, ◌≤◌, ◌<◌, ◌≡◌, refl, Bool, true, false, cond as pick, List, [], ◌∷◌, ◌++◌, length, get_or, set, take, drop, eqb, leb}
use Rattle.std.proofs.Common.{ap, sym, ◌∙◌, append-nil, arith, add-one, length-append, length-drop, length-set, get_or-set_same, get_or-set_other, take_at, take_all, le-leb, ne_eqb, eqb-true, leb-true, leb-false}
use Rattle.std.proofs.lemmas.Bool.{lt-leb, eqb-false}
use Rattle.octets.specs.TestLaws.{by_cases}
use Rattle.buffer.specs.Lay.{put}
use Rattle.queue.specs.declared.Queue.{Queue}
use Rattle.queue.specs.Queue.{free, leave, first, sent, keeps}
use Rattle.rehearse_link.specs.Ring.{frames_from, frames, Ring}

-- places that are written elsewhere
elsewhere : (lengths : List ℕ) (places : List (List ℕ)) (p x : ℕ) (y : List ℕ) (at n : ℕ) → ((k : ℕ) → k < n → p ≡ (at + k) % 16 → ⊥)
    → frames_from (set lengths p x) (set places p y) at n ≡ frames_from lengths places at n
unfolding frames_from
elsewhere lengths places p x y at zero h = refl
elsewhere lengths places p x y at (suc n) h =
    let here : (at % 16 ≡ p → ⊥) = λ e. h 0 (omega arith) (omega (arith, e)) in
    rw (
      get_or-set_other lengths p (at % 16) x 0 here,
      get_or-set_other places p (at % 16) y [] here,
      elsewhere lengths places p x y (at + 1) n (λ k l e. h (k + 1) (omega arith) (omega (arith, e))),
    )

-- one frame more
more : (lengths : List ℕ) (places : List (List ℕ)) (at n p : ℕ) → p ≡ (at + n) % 16
    → frames_from lengths places at (suc n) ≡ frames_from lengths places at n ++ (take (get_or lengths p 0) (get_or places p []) ∷ [])
unfolding frames_from
more lengths places at zero p e = let z : at % 16 ≡ p = omega arith in rw z
more lengths places at (suc n) p e =
    ap (λ (l : List (List ℕ)). take (get_or lengths (at % 16) 0) (get_or places (at % 16) []) ∷ l) (more lengths places (at + 1) n p (omega arith))

-- the same places of the ring
same : (lengths : List ℕ) (places : List (List ℕ)) (a b n : ℕ) → a % 16 ≡ b % 16 → frames_from lengths places a n ≡ frames_from lengths places b n
unfolding frames_from
same lengths places a b zero e = refl
same lengths places a b (suc n) e = rw (e, same lengths places (a + 1) (b + 1) n (omega arith))

-- a frame in a place that has room for it
put-there : (frame place : List ℕ) → length frame ≤ length place → take (length frame) (put frame 0 place) ≡ frame
put-there frame place h = rw (le-leb (0 + length frame) (length place) (omega arith)) (take_at frame (drop (0 + length frame) place) (length frame) refl)

-- the free place is none of those whose frames wait
apart : (first many k p : ℕ) → many < 16 → k < many → p ≡ (first + k) % 16 → p ≡ (first + many) % 16 → ⊥
apart first many k p l m e f = omega arith

free-is : (first many : ℕ) → (first % 16 + many % 16) % 16 ≡ (first + many) % 16
free-is first many = omega arith

module _ (q : Queue) (places : List (List ℕ)) (r : Ring q places) where
  -- the frame that joins is the last
  pub joins : (frame : List ℕ) → q.many < 16 → (length frame ≡ 0 → ⊥) → length frame ≤ 1500
      → frames (sent q frame) (keeps q frame places) ≡ frames q places ++ (frame ∷ [])
  joins frame l some short =
      let p = free q in
      let at : p ≡ (q.first + q.many) % 16 = free-is q.first q.many in
      let below : p < 16 = omega arith in
      let new = put frame 0 (get_or places p []) in
      let length-is : get_or (set q.lengths p (length frame)) p 0 ≡ length frame = get_or-set_same q.lengths p (length frame) 0 (omega (arith, r.all_lengths)) in
      let place_is : get_or (set places p new) p [] ≡ new = get_or-set_same places p new [] (omega (arith, r.all-places)) in
      let whole : take (length frame) new ≡ frame = put-there frame (get_or places p []) (omega (arith, r.wide p below)) in
      rw (
        ne_eqb (length frame) 0 some,
        lt-leb 16 q.many l,
        add-one q.many,
        more (set q.lengths p (length frame)) (set places p new) q.first q.many p at,
        length-is,
        place_is,
        whole,
        elsewhere q.lengths places p (length frame) new q.first q.many (λ k m e. apart q.first q.many k p l m e at),
      )

  -- a full ring drops the frame
  pub drops : (frame : List ℕ) → 16 ≤ q.many → (length frame ≡ 0 → ⊥) → (sent q frame ≡ q) × (keeps q frame places ≡ places)
  drops frame l some = rw (ne_eqb (length frame) 0 some, le-leb 16 q.many l) (refl, refl)

-- the first frame is in front, and leaves
leaves-from : (lengths : List ℕ) (places : List (List ℕ)) (at n : ℕ) → 0 < n
    → frames_from lengths places at n ≡ take (get_or lengths (at % 16) 0) (get_or places (at % 16) []) ∷ frames_from lengths places ((at % 16 + 1) % 16) (n - 1)
unfolding frames_from
leaves-from lengths places at zero z = absurd (omega arith)
leaves-from lengths places at (suc n) z =
    let e : suc n - 1 ≡ n = omega arith in
    rw (e, same lengths places (at + 1) ((at % 16 + 1) % 16) n (omega arith))

pub leaves : (q : Queue) (places : List (List ℕ)) → 0 < q.many → frames q places ≡ first q places ∷ frames (leave q) places
leaves q places h = rw (ne_eqb q.many 0 (omega arith)) (leaves-from q.lengths places q.first q.many h)

-- ---- a ring stays one, and holds the first 16 frames
pub length_from : (lengths : List ℕ) (places : List (List ℕ)) (at n : ℕ) → length (frames_from lengths places at n) ≡ n
unfolding frames_from
length_from lengths places at zero = refl
length_from lengths places at (suc n) = ap suc (length_from lengths places (at + 1) n)

length-put : (frame place : List ℕ) → length frame ≤ length place → length (put frame 0 place) ≡ length place
length-put frame place h = rw (le-leb (0 + length frame) (length place) (omega arith)) (simp (length-append, length-drop) (omega arith))

-- a frame that was sent: no bytes are none
abbrev pub as_frames : List ℕ → List (List ℕ)
as_frames frame = pick (eqb (length frame) 0) [] (frame ∷ [])

module _ (q : Queue) (places : List (List ℕ)) (r : Ring q places) where
  pub empty-frames : q.many ≡ 0 → frames q places ≡ []
  unfolding frames_from
  empty-frames e = rw e

  pub all-within : take 16 (frames q places) ≡ frames q places
  all-within = take_all 16 (frames q places) (omega (arith, length_from q.lengths places q.first q.many, r.few))

  pub leave_ring : Ring (leave q) places
  leave_ring =
      by_cases (λ (p : Queue). Ring p places) (eqb q.many 0) (λ _. r)
      (λ _. record { few = omega (arith, r.few); all_lengths = r.all_lengths; all-places = r.all-places; wide = r.wide })

  module _ (frame : List ℕ) (short : length frame ≤ 1500) where
    joined_ring : q.many < 16 → Ring (record { first = q.first; many = q.many + 1; lengths = set q.lengths (free q) (length frame) }) (set places (free q) (put frame 0 (get_or places (free q) [])))
    joined_ring l =
        record {
          few = omega arith;
          all_lengths = length-set q.lengths (free q) (length frame) ∙ r.all_lengths;
          all-places = length-set places (free q) (put frame 0 (get_or places (free q) [])) ∙ r.all-places;
          wide = λ k h. at k h (eqb k (free q)) refl;
        }
      where
        at : (k : ℕ) → k < 16 → (b : Bool) → eqb k (free q) ≡ b → length (get_or (set places (free q) (put frame 0 (get_or places (free q) []))) k []) ≡ 1500
        at k h true e =
            let i : free q < 16 = omega arith in
            let w = r.wide (free q) i in
            rw (eqb-true k (free q) e, get_or-set_same places (free q) (put frame 0 (get_or places (free q) [])) [] (omega (arith, r.all-places)))
            (length-put frame (get_or places (free q) []) (omega arith) ∙ w)
        at k h false e = rw (get_or-set_other places (free q) k (put frame 0 (get_or places (free q) [])) [] (eqb-false k (free q) e)) (r.wide k h)

    pub sent_ring : Ring (sent q frame) (keeps q frame places)
    sent_ring = go (eqb (length frame) 0) (leb 16 q.many) refl
      where
        go : (b c : Bool) → leb 16 q.many ≡ c
            → Ring (pick b q (pick c q (record { first = q.first; many = q.many + 1; lengths = set q.lengths (free q) (length frame) })))
            (pick b places (pick c places (set places (free q) (put frame 0 (get_or places (free q) [])))))
        go true c e = r
        go false true e = r
        go false false e = joined_ring (leb-false 16 q.many e)

    pub sent-frames : frames (sent q frame) (keeps q frame places) ≡ take 16 (frames q places ++ as_frames frame)
    sent-frames = go (eqb (length frame) 0) refl
      where
        n : length (frames q places) ≡ q.many
        n = length_from q.lengths places q.first q.many

        some : (length frame ≡ 0 → ⊥) → (c : Bool) → leb 16 q.many ≡ c → frames (sent q frame) (keeps q frame places) ≡ take 16 (frames q places ++ (frame ∷ []))
        some z true e =
            let full : 16 ≤ q.many = leb-true 16 q.many e in
            let d = drops q places r frame full z in
            rw (d.0, d.1) (sym (take_at (frames q places) (frame ∷ []) 16 (omega (arith, n, r.few))))
        some z false e =
            let l : q.many < 16 = leb-false 16 q.many e in
            joins q places r frame l z short ∙ sym (take_all 16 (frames q places ++ (frame ∷ [])) (rw (length-append (frames q places) (frame ∷ [])) (omega (arith, n))))

        go : (b : Bool) → eqb (length frame) 0 ≡ b → frames (sent q frame) (keeps q frame places) ≡ take 16 (frames q places ++ as_frames frame)
        go true e = rw (e, append-nil (frames q places)) (sym all-within)
        go false e = some (eqb-false (length frame) 0 e) (leb 16 q.many) refl ∙ (rw e)
