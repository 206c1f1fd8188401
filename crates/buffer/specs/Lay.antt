-- Laying a frame into a lent buffer: refusals 2 and 9, decided once for every writer (PROTOCOL 7, 'Refusals').
use Rattle.std.specs.Prelude.{ℕ, ◌+◌, Bool, cond as pick, ◌≡◌, List, ◌++◌, Result, Ok, Err, length, take, drop, ltb, leb}
use Rattle.refusal.specs.declared.Refusal.{Refusal}
use Rattle.refusal.specs.Refusal.{number}
use Rattle.buffer.specs.declared.Written.{Written}

-- the bytes fit into a buffer from a place on
abbrev pub fits : List ℕ → ℕ → List ℕ → Bool
fits bytes at buffer = leb (at + length bytes) (length buffer)

-- a buffer with bytes laid over it from a place on
abbrev pub over : List ℕ → ℕ → List ℕ → List ℕ
over bytes at buffer = take at buffer ++ (bytes ++ drop (at + length bytes) buffer)

-- the same where the bytes fit; else the buffer as it was
abbrev pub put : List ℕ → ℕ → List ℕ → List ℕ
put bytes at buffer = pick (fits bytes at buffer) (over bytes at buffer) buffer

-- a writer's answer: the frame's length, or a refusal's number
abbrev pub written : ℕ → Written
written n = record { length = n; refusal = 0 }

abbrev pub refused : ℕ → Written
refused r = record { length = 0; refusal = r }

-- the answer in numbers, as C sees it
abbrev pub written_of : Result ℕ Refusal → Written
written_of (Ok n) = written n
written_of (Err r) = refused (number r)

-- What a writer answers, and its buffer at exit.
pub record Output : Type 0 where
  pub answer : Written
  pub buffer : List ℕ

-- a refusal leaves the buffer as it was
abbrev pub refuse : ℕ → List ℕ → Output
refuse n out = record { answer = refused n; buffer = out }

-- the frame, then what stood behind it; 2 for a frame above 1,500 bytes, then 9 for a buffer that is too short
abbrev pub laid : List ℕ → List ℕ → Output
laid frame out =
    pick (ltb 1500 (length frame)) (refuse 2 out)
    (pick (ltb (length out) (length frame)) (refuse 9 out)
    (record { answer = written (length frame); buffer = frame ++ drop (length frame) out }))

-- what came out is that answer and that buffer
abbrev pub Came : Output → Written → List ℕ → Type 0
Came o answer buffer = (answer ≡ o.answer) × (buffer ≡ o.buffer)
