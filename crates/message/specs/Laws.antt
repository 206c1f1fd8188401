-- The two laws of frames, each over all codes and under each version.
--     read-written    reading what was written yields the fields
--     written_read    writing the fields of an accepted frame yields that frame, byte for byte
use Rattle.std.specs.Prelude.{ℕ, suc, ◌+◌, ◌-◌, ◌^◌, ◌<◌, ◌≤◌, ◌≡◌, Bool, true, false, ◌&&◌, cond, List, [], ◌∷◌, ◌++◌, eqb, ltb, Result, Ok, Err}
use Rattle.std.proofs.Math.Path.{refl, sym}
use Rattle.std.proofs.Common.{ap, ◌∙◌, subst, append_assoc, append-nil, le_antisymm, le_trans, add-one, length-append, length-take, take-append-drop, drop-cons, drop-drop, drop_at, take_at, take_all}
use Rattle.std.proofs.Math.Option.{Option, none, some}
use native.Mathlib.Omega.{arith}
use Rattle.std.proofs.Math.ListN.{length, take, drop, length-drop, drop_of_length-le}
use Rattle.std.proofs.lemmas.List.{get_or_at}
use Rattle.std.proofs.Math.Seq.{take-length}
use borrow.Author.Tests.{eq-eqb, ne_eqb, lt-ltb, le-ltb, eqb-true, eqb-false, ltb-false, ltb-true}
use Rattle.refusal.specs.declared.Refusal.{Refusal}
use Rattle.refusal.specs.Laws.{own, some as some-refusal}
use Rattle.octets.specs.Number.{word, low, Octets}
use Rattle.octets.specs.NumberLaws.{octets-part, length-low, part-bound, number-low, low-number}
use Rattle.buffer.specs.declared.Written.{Written}
use Rattle.octets.specs.TestLaws.{by_cases, both}
use Rattle.buffer.specs.Lay.{Output, written, laid, Came}
use Rattle.entries_next.specs.declared.Place.{Place}
use Rattle.entries_next.specs.declared.Place.TheVariants.{Kind, Size, Value, Time, Transfer, Outside, Excess}
use Rattle.entries.specs.Entries.{walk}
use Rattle.entries.specs.Laws.{walk-ended, accepted}
use Rattle.message.specs.Message.{Message, memory_load_transfer, memory_load, request_program, request_load, request_dump, request_dump_service, dump_data, dump_complete, volunteer, parameters, loop_data, looped_data, program_listed, form_listed, id_length}
use Rattle.message.specs.Read.{byte, last_word, numbers, refused_fields, ended, Row, row, rows, find, judged, frame, fields, Reading, refused, message, stated, said, read, Reads}
use Rattle.message.specs.declared.Fields.{Fields}
use Rattle.message.specs.Write.{Part, entry_list, parts, joined, layout, listed, Sized, write, sent}

-- The columns: refusal, code, number, error; device, format, program type, software form, processor, compatibility; count,
-- receipt, address, transfer address, memory size; place and length of the variable part; place and length of the software id.
abbrev pub columns : ℕ → ℕ → ℕ → ℕ → ℕ → ℕ → ℕ → ℕ → ℕ → ℕ → ℕ → ℕ → ℕ → ℕ → ℕ → ℕ → ℕ → ℕ → ℕ → Fields
columns refusal code number error device format program form processor compatibility count receipt address transfer memory_size data_at data_length id_at id_length =
    record {
      data_at = data_at;
      data_length = data_length;
      id_at = id_at;
      id_length = id_length;
      address = address;
      transfer = transfer;
      memory_size = memory_size;
      count = count;
      receipt = receipt;
      refusal = refusal;
      code = code;
      number = number;
      error = error;
      device = device;
      format = format;
      program = program;
      form = form;
      processor = processor;
      compatibility = compatibility;
    }

-- no frame is empty: it begins with its code
some-joined : (code : ℕ) (ps : List Part) → 0 < length (joined (code ∷ []) ps)
unfolding joined
some-joined code [] = omega arith
some-joined code (part ∷ rest) = omega arith

pub begins : (m : Message) → 0 < length (layout m)
unfolding layout
begins m = some-joined (parts m).0 (parts m).1

-- a message of a listed code whose length is right is read by its row
by_row_lem : (version : ℕ) (m : Message) {row : Row} → find rows (byte (layout m) 0) ≡ some row → row.shortest ≤ length (layout m) → length (layout m) ≤ row.longest
    → fields version (layout m) ≡ judged version row.code row.data_at row.shortest (layout m)
unfolding fields
by_row_lem version m {row} e l h =
    let s = layout m in
    rw (ne_eqb (length s) 0 (omega (arith, begins m)), e, le-ltb (length s) row.shortest l, le-ltb row.longest (length s) h)

-- a frame whose numbers are known is read as the message that they state
read_as : (version : ℕ) (s : List ℕ) {f : Fields} → fields version s ≡ f → read version s ≡ said s f
unfolding read
read_as version s e = ap (said s) e

-- a number that fits its size, in front of the other tests
sized : (x n : ℕ) (rest : Bool) → ltb x (256 ^ n) && rest ≡ true → (x < 256 ^ n) × (rest ≡ true)
sized x n rest h = let z = both (ltb x (256 ^ n)) rest h in (ltb-true x (256 ^ n) z.0, z.1)

-- a part that runs to the frame's end
pub rest : (s : List ℕ) (at : ℕ) → take (length s - at) (drop at s) ≡ drop at s
rest s at = take_all (length s - at) (drop at s) (rw length-drop (omega arith))

-- the number of the last four bytes
last_word_lem : (front : List ℕ) (x : ℕ) → x < 256 ^ 4 → last_word (front ++ low 4 x) ≡ x
last_word_lem front x h =
    let n : length (front ++ low 4 x) - 4 ≡ length front = simp (length-append, length-low) (omega arith) in
    rw (n, drop_at front (low 4 x) (length front) refl, take_all 4 (low 4 x) (simp length-low (omega arith))) (number-low 4 x h)

with_id_written : (version : ℕ) (d f p form : ℕ) (id : List ℕ) (proc : ℕ) (info : List ℕ)
    → program_listed p ≡ true → form_listed form ≡ true → id_length form ≡ length id
    → said (layout (request_program d f p form id proc info)) (judged version 8 6 6 (layout (request_program d f p form id proc info))) ≡ message (request_program d f p form id proc info)
unfolding layout find
with_id_written version d f p form id proc info lp lf li =
    let n = length id in
    let front : List ℕ = 8 ∷ d ∷ f ∷ p ∷ form ∷ id in
    let at : length front ≡ 5 + n = omega arith in
    let next : 6 + n ≡ 5 + n + 1 = omega arith in
    let behind : drop (5 + n + 1) (front ++ (proc ∷ info)) ≡ info =
    sym (drop-drop 1 (5 + n) (front ++ (proc ∷ info))) ∙ ap (drop 1) (drop_at front (proc ∷ info) (5 + n) at) in
    let long : 6 + n ≤ length (front ++ (proc ∷ info)) = simp length-append (omega arith) in
    let size : length (front ++ (proc ∷ info)) - (5 + n + 1) ≡ length info = simp length-append (omega arith) in
    rw (lp, lf, li, le-ltb (length (front ++ (proc ∷ info))) (6 + n) long, take_at id (proc ∷ info) n refl, get_or_at front proc info 0 (5 + n) at, next, behind, size, take-length info)

accepted-end : (p : Place) → ended p ≡ 0 → p ≡ Transfer 0
accepted-end Kind e = absurd (omega arith)
accepted-end (Size kind) e = absurd (omega arith)
accepted-end (Value n) e = absurd (omega arith)
accepted-end (Time k before) e = absurd (omega arith)
accepted-end (Transfer n) e = ap Transfer (by_cases (λ (x : ℕ). x ≡ 0 → n ≡ 0) (eqb n 0) (λ b _. eqb-true n 0 b) (λ b x. absurd (omega arith)) e)
accepted-end Outside e = absurd (omega arith)
accepted-end Excess e = absurd (omega arith)

-- entries are listed if the walk over them ends where an entry's type would stand next, and only then
pub whole-listed : (version : ℕ) (e : List ℕ) → walk version Kind e ≡ Kind → (entry_list e).listed version ≡ true
whole-listed version e k = rw (walk-ended version e (0 ∷ 0 ∷ 0 ∷ 0 ∷ []) k refl)

pub listed-whole : (version : ℕ) (e : List ℕ) → (entry_list e).listed version ≡ true → walk version Kind e ≡ Kind
listed-whole version e l =
    let xs = e ++ (0 ∷ 0 ∷ 0 ∷ 0 ∷ 0 ∷ []) in
    let a = accepted version xs (accepted-end (walk version Kind xs) (eqb-true (ended (walk version Kind xs)) 0 l)) in
    let size : length xs - 5 ≡ length e = simp length-append (omega arith) in
    rw (size, take_at e (0 ∷ 0 ∷ 0 ∷ 0 ∷ 0 ∷ []) (length e) refl) at a.entries

-- The numbers of the frames that pass between the ends, and their variable parts.
pub load_transfer_fields : (version : ℕ) (n a : ℕ) (d : List ℕ) (t : ℕ) → a < 256 ^ 4 → t < 256 ^ 4 → length (layout (memory_load_transfer n a d t)) ≤ 1500
    → fields version (layout (memory_load_transfer n a d t)) ≡ columns 0 0 n 0 0 0 0 0 0 0 0 0 a t 0 6 (length d) 0 0
unfolding layout find low
load_transfer_fields version n a d t ha ht s =
    let size : length (layout (memory_load_transfer n a d t)) - 10 ≡ length d = simp length-append (omega arith) in
    let last : last_word (layout (memory_load_transfer n a d t)) ≡ t = last_word_lem (0 ∷ n ∷ (low 4 a ++ d)) t ht in
    by_row_lem version (memory_load_transfer n a d t) refl (simp length-append (omega arith)) s ∙ (rw (last, size, number-low 4 a ha))

pub load_transfer_part : (n a : ℕ) (d : List ℕ) (t : ℕ) → take (length d) (drop 6 (layout (memory_load_transfer n a d t))) ≡ d
unfolding layout low
load_transfer_part n a d t = take_at d (low 4 t) (length d) refl

pub load_fields : (version : ℕ) (n a : ℕ) (d : List ℕ) → a < 256 ^ 4 → length (layout (memory_load n a d)) ≤ 1500
    → fields version (layout (memory_load n a d)) ≡ columns 0 2 n 0 0 0 0 0 0 0 0 0 a 0 0 6 (length d) 0 0
unfolding layout find low
load_fields version n a d h s =
    let size : length (layout (memory_load n a d)) - 6 ≡ length d = omega arith in
    by_row_lem version (memory_load n a d) refl (omega arith) s ∙ (rw (number-low 4 a h, size))

pub load_part : (n a : ℕ) (d : List ℕ) → take (length d) (drop 6 (layout (memory_load n a d))) ≡ d
unfolding layout low
load_part n a d = take-length d

-- a code 20 that is not refused, whatever its entries are
pub parameters-numbers : (version n : ℕ) (e : List ℕ) (t : ℕ) → t < 256 ^ 4 → length (layout (parameters n e t)) ≤ 1500
    → (fields version (layout (parameters n e t))).refusal ≡ 0 → fields version (layout (parameters n e t)) ≡ columns 0 20 n 0 0 0 0 0 0 0 0 0 0 t 0 2 (length e) 0 0
unfolding layout find low
parameters-numbers version n e t h s z =
    let size : length (layout (parameters n e t)) - 7 ≡ length e = simp length-append (omega arith) in
    let split : 20 ∷ n ∷ (e ++ (0 ∷ low 4 t)) ≡ (20 ∷ n ∷ (e ++ (0 ∷ []))) ++ low 4 t = rw (append_assoc e (0 ∷ []) (low 4 t)) in
    let last : last_word (layout (parameters n e t)) ≡ t = ap (λ (l : List ℕ). last_word l) split ∙ last_word_lem (20 ∷ n ∷ (e ++ (0 ∷ []))) t h in
    let row = by_row_lem version (parameters n e t) refl (simp length-append (omega arith)) s in
    row ∙ go (ended (walk version Kind (e ++ (0 ∷ low 4 t)))) (rw row at z) ∙ (rw (last, size))
  where
    f : Fields
    f = numbers 0 20 2 7 (layout (parameters n e t))

    go : (r : ℕ) → (cond (eqb r 0) f (refused_fields r)).refusal ≡ 0 → cond (eqb r 0) f (refused_fields r) ≡ f
    go r = by_cases (λ (g : Fields). g.refusal ≡ 0 → g ≡ f) (eqb r 0) (λ _ _. refl) (λ b q. absurd (eqb-false r 0 b q))

pub parameters-fields : (version : ℕ) (n : ℕ) (e : List ℕ) (t : ℕ) → (entry_list e).listed version ≡ true → t < 256 ^ 4 → length (layout (parameters n e t)) ≤ 1500
    → fields version (layout (parameters n e t)) ≡ columns 0 20 n 0 0 0 0 0 0 0 0 0 0 t 0 2 (length e) 0 0
unfolding layout find low
parameters-fields version n e t k h s =
    let row = by_row_lem version (parameters n e t) refl (simp length-append (omega arith)) s in
    parameters-numbers version n e t h s (rw (row, walk-ended version e (low 4 t) (listed-whole version e k) (length-low 4 t)))

pub parameters-part : (n : ℕ) (e : List ℕ) (t : ℕ) → take (length e) (drop 2 (layout (parameters n e t))) ≡ e
unfolding layout low
parameters-part n e t = take_at e (0 ∷ low 4 t) (length e) refl

pub request_load-fields : (version : ℕ) (n e : ℕ) → fields version (layout (request_load n e)) ≡ columns 0 10 n e 0 0 0 0 0 0 0 0 0 0 0 0 0 0 0
unfolding layout find
request_load-fields version n e = by_row_lem version (request_load n e) refl (omega arith) (omega arith)

pub request_dump-fields : (version : ℕ) (a n : ℕ) → a < 256 ^ 4 → n < 256 ^ 2 → fields version (layout (request_dump a n)) ≡ columns 0 4 0 0 0 0 0 0 0 0 n 0 a 0 0 0 0 0 0
unfolding layout find low
request_dump-fields version a n ha hn =
    by_row_lem version (request_dump a n) refl (omega arith) (omega arith) ∙ (rw (number-low 4 a ha, number-low 2 n hn))

pub request_dump_service-fields : (version : ℕ) (d f m k : ℕ) (info : List ℕ) → m < 256 ^ 4 → length (layout (request_dump_service d f m k info)) ≤ 1500
    → fields version (layout (request_dump_service d f m k info)) ≡ columns 0 12 0 0 d f 0 0 0 k 0 0 0 0 m 8 (length info) 0 0
unfolding layout find low
request_dump_service-fields version d f m k info h s =
    let size : length (layout (request_dump_service d f m k info)) - 8 ≡ length info = omega arith in
    by_row_lem version (request_dump_service d f m k info) refl (omega arith) s ∙ (rw (number-low 4 m h, size))

pub dump_data-fields : (version : ℕ) (a : ℕ) (d : List ℕ) → a < 256 ^ 4 → length (layout (dump_data a d)) ≤ 1500
    → fields version (layout (dump_data a d)) ≡ columns 0 14 0 0 0 0 0 0 0 0 0 0 a 0 0 5 (length d) 0 0
unfolding layout find low
dump_data-fields version a d h s =
    let size : length (layout (dump_data a d)) - 5 ≡ length d = omega arith in
    by_row_lem version (dump_data a d) refl (omega arith) s ∙ (rw (number-low 4 a h, size))

pub dump_data-part : (a : ℕ) (d : List ℕ) → take (length d) (drop 5 (layout (dump_data a d))) ≡ d
unfolding layout low
dump_data-part a d = take-length d

pub dump_complete-fields : (version : ℕ) → fields version (layout dump_complete) ≡ columns 0 1 0 0 0 0 0 0 0 0 0 0 0 0 0 0 0 0 0
unfolding layout find
dump_complete-fields version = by_row_lem version dump_complete refl (omega arith) (omega arith)

-- the numbers of a program request for an operating system with no software id, as the machine sends it
pub request-program-fields : (version : ℕ) (d p : ℕ) → fields version (layout (request_program d 1 2 255 [] p [])) ≡ columns 0 8 0 0 d 1 2 255 p 0 0 0 0 0 0 6 0 5 0
unfolding layout find
request-program-fields version d p = by_row_lem version (request_program d 1 2 255 [] p []) refl (omega arith) (omega arith)

pub read-written : (version : ℕ) (m : Message) → Sized m → listed version m ≡ true → length (layout m) ≤ 1500 → read version (layout m) ≡ message m
unfolding layout find low
read-written version (memory_load_transfer n a d t) h l s =
    let z = sized a 4 _ h in
    read_as version (layout (memory_load_transfer n a d t)) (load_transfer_fields version n a d t z.0 (sized t 4 true z.1).0 s) ∙ (rw (load_transfer_part n a d t))
read-written version (memory_load n a d) h l s = read_as version (layout (memory_load n a d)) (load_fields version n a d (sized a 4 true h).0 s) ∙ (rw (load_part n a d))
read-written version (request_program d f p form id proc info) h l s =
    let fits = form_listed form && eqb (length id) (id_length form) in
    let c = both (program_listed p) (fits && true) l in
    let e = both (form_listed form) (eqb (length id) (id_length form)) (both fits true c.1).0 in
    let n : id_length form ≡ length id = sym (eqb-true (length id) (id_length form) e.1) in
    read_as version (layout (request_program d f p form id proc info)) (by_row_lem version (request_program d f p form id proc info) refl (simp length-append (omega arith)) s)
    ∙ with_id_written version d f p form id proc info c.0 e.0 n
read-written version (request_load n e) h l s = read_as version (layout (request_load n e)) (request_load-fields version n e)
read-written version (request_dump a n) h l s = read_as version (layout (request_dump a n)) (let z = sized a 4 _ h in request_dump-fields version a n z.0 (sized n 2 true z.1).0)
read-written version (request_dump_service d f m k info) h l s =
    read_as version (layout (request_dump_service d f m k info)) (request_dump_service-fields version d f m k info (sized m 4 true h).0 s) ∙ (rw (take-length info))
read-written version (dump_data a d) h l s = read_as version (layout (dump_data a d)) (dump_data-fields version a d (sized a 4 true h).0 s) ∙ (rw (dump_data-part a d))
read-written version dump_complete h l s = read_as version (layout dump_complete) (dump_complete-fields version)
read-written version volunteer h l s = read_as version (layout volunteer) (by_row_lem version volunteer refl (omega arith) (omega arith))
read-written version (parameters n e t) h l s =
    read_as version (layout (parameters n e t)) (parameters-fields version n e t (both ((entry_list e).listed version) true l).0 (sized t 4 true h).0 s) ∙ (rw (parameters-part n e t))
read-written version (loop_data r d) h l s =
    let size : length (layout (loop_data r d)) - 3 ≡ length d = omega arith in
    read_as version (layout (loop_data r d)) (by_row_lem version (loop_data r d) refl (omega arith) s) ∙ (rw (number-low 2 r (sized r 2 true h).0, size, take-length d))
read-written version (looped_data r d) h l s =
    let size : length (layout (looped_data r d)) - 3 ≡ length d = omega arith in
    read_as version (layout (looped_data r d)) (by_row_lem version (looped_data r d) refl (omega arith) s) ∙ (rw (number-low 2 r (sized r 2 true h).0, size, take-length d))

-- pieces of a frame put together again
on_byte : (s : List ℕ) (j : ℕ) → j < length s → byte s j ∷ drop (j + 1) s ≡ drop j s
on_byte s j h = rw (add-one, drop-cons s j 0 h)

on_part : (s : List ℕ) (j n : ℕ) → take n (drop j s) ++ drop (j + n) s ≡ drop j s
on_part s j n = rw (← drop-drop n j s) (take-append-drop n (drop j s))

on_word : (n : ℕ) (s : List ℕ) (j : ℕ) → Octets s → j + n ≤ length s → low n (word n s j) ++ drop (j + n) s ≡ drop j s
on_word n s j o h =
    let size : length (take n (drop j s)) ≡ n = simp (length-take, length-drop) (omega arith) in
    let bytes : low n (word n s j) ≡ take n (drop j s) = subst (λ (k : ℕ). low k (word n s j) ≡ take n (drop j s)) size (low-number (take n (drop j s)) (octets-part n j s o)) in
    rw bytes (on_part s j n)

last_on_word : (n : ℕ) (s : List ℕ) (j : ℕ) → Octets s → j + n ≡ length s → low n (word n s j) ≡ drop j s
last_on_word n s j o h =
    sym (append-nil (low n (word n s j))) ∙ (rw (← drop_of_length-le s {i = j + n} (omega arith)) (on_word n s j o (omega arith)))

-- What an accepted frame's message gives back: the frame, from fields that are listed and of the right sizes.
abbrev Back : ℕ → List ℕ → Reading → Type 0
Back version s (refused n) = Unit {0}
Back version s (message m) = (layout m ≡ s) × (listed version m ≡ true) × Sized m

-- What holds of the numbers of a frame: the variable part lies within, and the message gives the frame back.
Sound : ℕ → List ℕ → Fields → Type 0
Sound version s f = (f.data_at + f.data_length ≤ length s) × (Octets s → Back version s (said s f))

-- ---- the table of codes
-- every row has something
unfoldable pub Each : (Row → Type 0) → List Row → Type 0
Each R [] = Unit {0}
Each R (row ∷ rest) = R row × Each R rest

infixr 4 ◌&◌
◌&◌ : {A B : Type 0} → A → B → A × B
a & b = (a, b)

-- what holds of no row, and of each row for its code, holds of what is found
pub by_find : {R : Row → Type 0} (P : Option Row → Type 0) (rs : List Row) (code : ℕ) → Each R rs → P none → ((row : Row) → code ≡ row.code → R row → P (some row))
    → P (find rs code)
unfolding find Each
by_find P [] code e n f = n
by_find P (row ∷ rest) code e n f =
    by_cases P (eqb code row.code) (λ b. f row (eqb-true code row.code b) e.0) (λ _. by_find P rest code e.1 n f)

-- what holds of every refusal, and of each row's numbers for a frame whose length is right, holds of every frame's numbers
by_tests : (version : ℕ) (s : List ℕ) {R : Row → Type 0} (P : Fields → Type 0) → Each R rows → ((n : ℕ) → P (refused_fields (suc n)))
    → ((row : Row) → byte s 0 ≡ row.code → row.shortest ≤ length s → length s ≤ row.longest → R row → P (judged version row.code row.data_at row.shortest s)) → P (fields version s)
unfolding fields
by_tests version s P each r f =
    by_cases P (eqb (length s) 0) (λ _. r 0) (λ _.
    by_find (λ (o : Option Row). P (frame version s o)) rows (byte s 0) each (r 2) (λ row e h.
    by_cases P (ltb (length s) row.shortest) (λ _. r 0) (λ l.
    by_cases P (ltb row.longest (length s)) (λ _. r 1) (λ m.
    f row e (ltb-false (length s) row.shortest l) (ltb-false row.longest (length s) m) h))))

-- ---- what is read is written again
module _ (version : ℕ) (s : List ℕ) where
  fits : Octets s → (n j : ℕ) → ltb (word n s j) (256 ^ n) ≡ true
  fits o n j = lt-ltb (word n s j) (256 ^ n) (part-bound n j s o)

  -- the first byte before the rest
  headed : (code : ℕ) → byte s 0 ≡ code → 0 < length s → code ∷ drop 1 s ≡ s
  headed code e h = rw (← e) (on_byte s 0 h)

  sound-refused : (n : ℕ) → Sound version s (refused_fields (suc n))
  unfolding Sound
  sound-refused n = (omega arith, λ _. rw (ne_eqb (suc n) 0 (omega arith)) tt)

  sound-memory_load_transfer : byte s 0 ≡ 0 → 10 ≤ length s → Sound version s (numbers 0 0 6 10 s)
  unfolding layout find Sound
  sound-memory_load_transfer e h =
      let front : 6 + (length s - 10) ≡ length s - 4 = omega arith in (
        omega arith,
        λ o. (
          (rw (last_on_word 4 s (length s - 4) o (omega arith), ← front, on_part s 6 (length s - 10), on_word 4 s 2 o (omega arith), on_byte s 1 (omega arith)) (headed 0 e (omega arith))),
          refl,
          rw (fits o 4 2, fits o 4 (length s - 4)),
        ),
      )

  sound-memory_load : byte s 0 ≡ 2 → 6 ≤ length s → Sound version s (numbers 0 2 6 6 s)
  unfolding layout find Sound
  sound-memory_load e h =
      (omega arith, λ o. ((rw (rest s 6, on_word 4 s 2 o (omega arith), on_byte s 1 (omega arith)) (headed 2 e (omega arith))), refl, rw (fits o 4 2)))

  sound_id : byte s 0 ≡ 8 → 6 + id_length (byte s 4) ≤ length s → program_listed (byte s 3) ≡ true → form_listed (byte s 4) ≡ true
      → Sound version s (numbers 0 8 6 6 s)
  unfolding layout find Sound
  sound_id e l p f =
      let n = id_length (byte s 4) in
      let next : 6 + n ≡ 5 + n + 1 = omega arith in
      let size : length (take n (drop 5 s)) ≡ n = simp (length-take, length-drop) (omega arith) in (
        omega arith,
        λ o. (
          (rw (rest s (6 + n), next, on_byte s (5 + n) (omega arith), on_part s 5 n, on_byte s 4 (omega arith), on_byte s 3 (omega arith), on_byte s 2 (omega arith), on_byte s 1 (omega arith)) (headed 8 e (omega arith))),
          rw (p, f, size, eq-eqb n n refl),
          refl,
        ),
      )

  sound-request_program : byte s 0 ≡ 8 → Sound version s (judged version 8 6 6 s)
  sound-request_program e =
      let n = id_length (byte s 4) in
      let P : ℕ → Type 0 = λ r. Sound version s (cond (eqb r 0) (numbers 0 8 6 6 s) (refused_fields r)) in
      by_cases P (program_listed (byte s 3)) (λ p.
      by_cases P (form_listed (byte s 4)) (λ f.
      by_cases P (ltb (length s) (6 + n)) (λ _. sound-refused 0) (λ l. sound_id e (ltb-false (length s) (6 + n) l) p f))
      (λ _. sound-refused 3)) (λ _. sound-refused 3)

  sound-request_load : byte s 0 ≡ 10 → length s ≡ 3 → Sound version s (numbers 0 10 0 3 s)
  unfolding layout find Sound
  sound-request_load e h =
      (omega arith, λ o. ((rw (← drop_of_length-le s {i = 3} (omega arith), on_byte s 2 (omega arith), on_byte s 1 (omega arith)) (headed 10 e (omega arith))), refl, refl))

  sound-request_dump : byte s 0 ≡ 4 → length s ≡ 7 → Sound version s (numbers 0 4 0 7 s)
  unfolding layout find Sound
  sound-request_dump e h =
      (omega arith, λ o. ((rw (last_on_word 2 s 5 o (omega arith), on_word 4 s 1 o (omega arith)) (headed 4 e (omega arith))), refl, rw (fits o 4 1, fits o 2 5)))

  sound-request_dump_service : byte s 0 ≡ 12 → 8 ≤ length s → Sound version s (numbers 0 12 8 8 s)
  unfolding layout find Sound
  sound-request_dump_service e h = (
    omega arith,
    λ o. (
      (rw (rest s 8, on_byte s 7 (omega arith), on_word 4 s 3 o (omega arith), on_byte s 2 (omega arith), on_byte s 1 (omega arith)) (headed 12 e (omega arith))),
      refl,
      rw (fits o 4 3),
    ),
  )

  sound-dump_data : byte s 0 ≡ 14 → 5 ≤ length s → Sound version s (numbers 0 14 5 5 s)
  unfolding layout find Sound
  sound-dump_data e h = (omega arith, λ o. ((rw (rest s 5, on_word 4 s 1 o (omega arith)) (headed 14 e (omega arith))), refl, rw (fits o 4 1)))

  alone : (code : ℕ) → byte s 0 ≡ code → length s ≡ 1 → code ∷ [] ≡ s
  alone code e h = rw (← drop_of_length-le s {i = 1} (omega arith)) (headed code e (omega arith))

  sound-dump_complete : byte s 0 ≡ 1 → length s ≡ 1 → Sound version s (numbers 0 1 0 1 s)
  unfolding layout find Sound
  sound-dump_complete e h = (omega arith, λ _. (alone 1 e h, refl, refl))

  sound-volunteer : byte s 0 ≡ 3 → length s ≡ 1 → Sound version s (numbers 0 3 0 1 s)
  unfolding layout find Sound
  sound-volunteer e h = (omega arith, λ _. (alone 3 e h, refl, refl))

  sound-entries : byte s 0 ≡ 20 → 7 ≤ length s → ended (walk version Kind (drop 2 s)) ≡ 0 → Sound version s (numbers 0 20 2 7 s)
  unfolding layout find Sound
  sound-entries e h z =
      let a = accepted version (drop 2 s) (accepted-end (walk version Kind (drop 2 s)) z) in
      let size : length (drop 2 s) - 5 ≡ length s - 7 = rw length-drop (omega arith) in
      let last : 2 + (length (drop 2 s) - 4) ≡ length s - 4 = rw length-drop (omega arith) in
      let behind : drop (length (drop 2 s) - 4) (drop 2 s) ≡ drop (length s - 4) s = rw (drop-drop, last) in
      let entries : walk version Kind (take (length s - 7) (drop 2 s)) ≡ Kind = rw (← size) a.entries in
      let joined : take (length s - 7) (drop 2 s) ++ (0 ∷ drop (length s - 4) s) ≡ drop 2 s = sym (rw (size, behind) at a.whole) in (
        omega arith,
        λ o. (
          (rw (last_on_word 4 s (length s - 4) o (omega arith), joined, on_byte s 1 (omega arith)) (headed 20 e (omega arith))),
          rw (whole-listed version (take (length s - 7) (drop 2 s)) entries),
          rw (fits o 4 (length s - 4)),
        ),
      )

  sound-walked : (n : ℕ) → ended (walk version Kind (drop 2 s)) ≡ n → (n ≡ 0 → ⊥) → Sound version s (refused_fields n)
  unfolding Sound
  sound-walked n e ne = (omega arith, λ _. rw (ne_eqb n 0 ne) tt)

  sound-parameters : byte s 0 ≡ 20 → 7 ≤ length s → Sound version s (judged version 20 2 7 s)
  sound-parameters e h =
      let n = ended (walk version Kind (drop 2 s)) in
      by_cases (Sound version s) (eqb n 0) (λ b. sound-entries e h (eqb-true n 0 b)) (λ b. sound-walked n refl (eqb-false n 0 b))

  sound-loop_data : byte s 0 ≡ 24 → 3 ≤ length s → Sound version s (numbers 0 24 3 3 s)
  unfolding layout find Sound
  sound-loop_data e h = (omega arith, λ o. ((rw (rest s 3, on_word 2 s 1 o (omega arith)) (headed 24 e (omega arith))), refl, rw (fits o 2 1)))

  sound-looped_data : byte s 0 ≡ 26 → 3 ≤ length s → Sound version s (numbers 0 26 3 3 s)
  unfolding layout find Sound
  sound-looped_data e h = (omega arith, λ o. ((rw (rest s 3, on_word 2 s 1 o (omega arith)) (headed 26 e (omega arith))), refl, rw (fits o 2 1)))

  -- what holds of a row: a frame of its code whose length is right has numbers that are sound
  abbrev SoundRow : Row → Type 0
  SoundRow row = byte s 0 ≡ row.code → row.shortest ≤ length s → length s ≤ row.longest → Sound version s (judged version row.code row.data_at row.shortest s)

  sound-rows : Each SoundRow rows
  unfolding Each
  sound-rows =
      (λ e l _. sound-memory_load_transfer e l) &
      (λ e l _. sound-memory_load e l) &
      (λ e _ _. sound-request_program e) &
      (λ e l m. sound-request_load e (le_antisymm m l)) &
      (λ e l m. sound-request_dump e (le_antisymm m l)) &
      (λ e l _. sound-request_dump_service e l) &
      (λ e l _. sound-dump_data e l) &
      (λ e l m. sound-dump_complete e (le_antisymm m l)) &
      (λ e l m. sound-volunteer e (le_antisymm m l)) &
      (λ e l _. sound-parameters e l) &
      (λ e l _. sound-loop_data e l) &
      (λ e l _. sound-looped_data e l) & tt

  sound : Sound version s (fields version s)
  sound = by_tests version s (Sound version s) sound-rows sound-refused (λ row e l m h. h e l m)

-- the variable part lies within the frame
pub fields-inside : (version : ℕ) (s : List ℕ) → (fields version s).data_at + (fields version s).data_length ≤ length s
unfolding Sound
fields-inside version s = (sound version s).0

pub written_read : (version : ℕ) (s : List ℕ) → Octets s → (m : Message) → read version s ≡ message m → (layout m ≡ s) × (listed version m ≡ true) × Sized m
unfolding read Sound
written_read version s o m e = subst (Back version s) e ((sound version s).1 o)

-- an accepted frame has at most 1,500 bytes
pub fields-short : (version : ℕ) (s : List ℕ) → (fields version s).refusal ≡ 0 → length s ≤ 1500
unfolding Each
fields-short version s =
    by_tests version s {R = λ (row : Row). row.longest ≤ 1500} (λ (f : Fields). f.refusal ≡ 0 → length s ≤ 1500) (omega arith) (λ n e. absurd (omega arith)) (λ row _ _ m h _. le_trans m h)

-- what is read as a message is not refused, and its numbers state the message
pub accepted-fields : (version : ℕ) (s : List ℕ) (m : Message) → read version s ≡ message m → ((fields version s).refusal ≡ 0) × (stated s (fields version s) (find rows (fields version s).code) ≡ message m)
unfolding read
accepted-fields version s m =
    let f = fields version s in
    by_cases (λ (r : Reading). r ≡ message m → (f.refusal ≡ 0) × (stated s f (find rows f.code) ≡ message m)) (eqb f.refusal 0) (λ b e. (eqb-true f.refusal 0 b, e)) (λ b e. let z : ◌≡◌ {A = ℕ} 0 1 = cc in absurd (omega arith))

-- The two laws, of a writer's answer and buffer.

-- what a writer wrote is read as the fields that it was given
pub read_back : (version : ℕ) (m : Message) (out : List ℕ) → Sized m → (write version m out).answer.refusal ≡ 0
    → read version (take (write version m out).answer.length (write version m out).buffer) ≡ message m
unfolding write
read_back version m out z =
    by_cases P (listed version m) (λ l.
    by_cases P (ltb 1500 (length f)) (λ _ e. absurd (omega arith)) (λ s.
    by_cases P (ltb (length out) (length f)) (λ _ e. absurd (omega arith)) (λ _ _. whole l s))) (λ _ e. absurd (omega arith))
  where
    f : List ℕ
    f = layout m

    P : Output → Type 0
    P o = o.answer.refusal ≡ 0 → read version (take o.answer.length o.buffer) ≡ message m

    whole : listed version m ≡ true → ltb 1500 (length f) ≡ false → read version (take (length f) (f ++ drop (length f) out)) ≡ message m
    whole l s = rw (take_at f (drop (length f) out) (length f) refl) (read-written version m z l (ltb-false 1500 (length f) s))

-- the writer of an accepted frame's fields writes that frame
pub write-back : (version : ℕ) (s : List ℕ) (m : Message) → Octets s → read version s ≡ message m → (out : List ℕ) → length s ≤ length out
    → ((write version m out).answer ≡ written (length s)) × ((write version m out).buffer ≡ s ++ drop (length s) out)
unfolding write
write-back version s m o e out h =
    let b = written_read version s o m e in
    rw (b.1, b.0, le-ltb 1500 (length s) (fields-short version s (accepted-fields version s m e).0), le-ltb (length out) (length s) h) (refl, refl)

-- what reading answers is one and no other by the numbers that it states
pub reads-one : (a b : Result Fields Refusal) (g : Fields) → Reads a g → Reads b g → a ≡ b
reads-one (Ok f) (Ok h) g p q = ap Ok (p.1 ∙ sym q.1)
reads-one (Ok f) (Err r) g p q = absurd (omega (arith, some-refusal r, ap (λ k. k.refusal) q, p.0))
reads-one (Err r) (Ok f) g p q = absurd (omega (arith, some-refusal r, ap (λ k. k.refusal) p, q.0))
reads-one (Err r) (Err s) g p q = ap Err (own r s (ap (λ k. k.refusal) (p ∙ sym q)))

-- a listed message's frame, laid into a buffer, is what its writer gives
pub wrote : (version : ℕ) (m : Message) (out f : List ℕ) {answer : Written} {buffer : List ℕ} → Came (laid f out) answer buffer → f ≡ layout m → listed version m ≡ true
    → Came (write version m out) answer buffer
unfolding write
wrote version m out f c e l = rw (l, ← e) c

-- a listed message of at most 1,500 bytes is sent by its writer
pub write-sent : (version : ℕ) (m : Message) (reply : List ℕ) → listed version m ≡ true → length (layout m) ≤ 1500 → 1500 ≤ length reply → write version m reply ≡ sent m reply
unfolding write
write-sent version m reply l h r =
    rw (l, le-ltb 1500 (length (layout m)) h, le-ltb (length reply) (length (layout m)) (le_trans h r))
