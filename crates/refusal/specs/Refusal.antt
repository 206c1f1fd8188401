-- Refusals and their numbers (PROTOCOL 7, 'Refusals').
use Rattle.std.specs.Prelude.{ℕ, ◌≡◌, eqb, cond as pick, Result, Ok, Err}
use Rattle.refusal.specs.declared.Refusal.{Refusal}
use Rattle.refusal.specs.declared.Refusal.TheVariants.{Short, Long, Code, Field, File, Directory, Entry, Overlap, Buffer, Setting, Memory, Frames}

abbrev pub number : Refusal → ℕ
number Short = 1
number Long = 2
number Code = 3
number Field = 4
number File = 5
number Directory = 6
number Entry = 7
number Overlap = 8
number Buffer = 9
number Setting = 10
number Memory = 11
number Frames = 12

-- the number of what a call answers, 0 for none
abbrev pub number_of : {T : Type 0} → Result T Refusal → ℕ
number_of (Ok x) = 0
number_of (Err r) = number r

-- A call answers refusal n, by its number, or if that is 0, the value v.
abbrev pub Answers : {T : Type 0} → Result T Refusal → ℕ → T → Type 0
Answers (Ok x) n v = (n ≡ 0) × (x ≡ v)
Answers (Err r) n v = n ≡ number r

-- the refusal of a number from 1 to 12
abbrev pub named : ℕ → Refusal
named n =
    pick (eqb n 1) Short
    (pick (eqb n 2) Long
    (pick (eqb n 3) Code
    (pick (eqb n 4) Field
    (pick (eqb n 5) File
    (pick (eqb n 6) Directory
    (pick (eqb n 7) Entry
    (pick (eqb n 8) Overlap
    (pick (eqb n 9) Buffer
    (pick (eqb n 10) Setting
    (pick (eqb n 11) Memory
    Frames))))))))))

-- the same as an equation: what is answered by a refusal's number and a value
abbrev pub outcome : {T : Type 0} → ℕ → T → Result T Refusal
outcome n v = pick (eqb n 0) (Ok v) (Err (named n))
