-- The words beside a transcript: a phrase by its row, and the numbers that it can name.
use Rattle.std.specs.Prelude.{ℕ, ◌+◌, ◌%◌, min, Bool, cond as pick, List, [], ◌∷◌, ◌++◌, eqb, ltb}
use Rattle.message.specs.declared.Fields.{Fields}
use Rattle.text.specs.Text.{chars}
use Rattle.pattern.specs.Pattern.{tabled, filling}
use Rattle.words.specs.declared.Words.{Words}

-- The phrases, by row. #a to #e are the words' numbers, @a to @e the same as addresses.
unfoldable pub phrases : List ℕ
phrases =
    tabled
    ( -- frames, 0 to 8: a the number before the frame's number, b its number, c its data's length, d its address, e the transfer address
    chars "the machine asks for its program" ∷
    chars "the machine has segment number #a and asks for number #b" ∷
    chars "the machine has the last segment and starts at @e" ∷
    chars "the machine has no room for segment number #a" ∷
    chars "the host sends segment number #b, length #c, for address @d" ∷
    chars "the host sends the last segment, number #b, length #c, for address @d" ∷
    chars "the host repeats segment number #b, length #c, for address @d" ∷
    chars "the host repeats the last segment, number #b, length #c, for address @d" ∷
    chars "another frame" ∷
    -- frames on the line: 9 to 13
    chars "no frame of the host is on the line" ∷
    chars "the host's frame is lost on the line" ∷
    chars "no frame of the machine is on the line" ∷
    chars "the machine's frame is lost on the line" ∷
    chars "the line is full: this frame is lost" ∷
    -- steps that send no frame: 14 to 21
    chars "the machine ignores the frame" ∷
    chars "the machine has nothing to ask" ∷
    chars "the host ignores the frame" ∷
    chars "the host has nothing to repeat" ∷
    chars "the host has the last answer: finished" ∷
    chars "the host hears of the error: rejected" ∷
    chars "the host has no repeats left: given up" ∷
    chars "the host has no repeats left for the last segment: unconfirmed" ∷
    -- refusals 10, 5, 6, 7, 8: 22 to 26
    chars "The input is malformed." ∷
    chars "The image file's length is wrong." ∷
    chars "The image's entry count or directory offset is wrong." ∷
    chars "An entry of the image breaks its own rule." ∷
    chars "An entry of the image begins before the last one's end." ∷
    -- what a load report means, 27 waiting, 28 running, 29 to 32 verdicts 1 to 4: a is N, b is c, c one segment more, d the frames
    -- sent, e the transfer address
    chars "The host still waits: nothing of the program is in the machine. Frames sent: #d." ∷
    chars "The load is not finished: of #a segments the machine holds the first #b or the first #c. Frames sent: #d." ∷
    chars "The machine holds the catalogued program and was started at @e. Frames sent: #d." ∷
    chars "The machine rejected a segment: of #a it holds exactly the first #b and was not started. Frames sent: #d." ∷
    chars "The host gave up: of #a segments the machine holds the first #b or the first #c and was not started. Frames sent: #d." ∷
    chars "Unconfirmed: the machine holds all #a segments and was started, or all but the last and was not. Frames sent: #d." ∷ [])

abbrev pub words : ℕ → ℕ → ℕ → ℕ → ℕ → ℕ → Words
words row a b c d e = record { row = row; v = a ∷ b ∷ c ∷ d ∷ e ∷ [] }

-- a phrase without numbers
abbrev pub phrase : ℕ → Words
phrase row = words row 0 0 0 0 0

-- a frame of either end: its code and error; the machine is Started, or not; the host sends a segment, or sends it again
abbrev pub frame_row : ℕ → ℕ → Bool → Bool → ℕ
frame_row code error started again =
    pick (eqb code 8) 0
    (pick (eqb code 10) (pick (eqb error 0) (pick started 2 1) 3)
    (pick (eqb code 2) (pick again 6 4)
    (pick (eqb code 0) (pick again 7 5) 8)))

abbrev pub frame_words : Fields → Bool → ℕ → Bool → Words
frame_words f started transfer again =
    words (frame_row f.code f.error started again) ((f.number + 255) % 256) f.number f.data_length f.address transfer

-- an end's first frame on the line: there is none, or it is dropped
abbrev pub line_row : Bool → Bool → ℕ
line_row host some = pick host (pick some 10 9) (pick some 12 11)

-- a frame for which there is no place
abbrev pub full_row : ℕ
full_row = 13

-- the machine sends nothing: its timer, or a frame that it ignores
abbrev pub machine_row : Bool → ℕ
machine_row timer = pick timer 15 14

-- the host sends nothing; its verdict before and after
abbrev pub host_row : Bool → ℕ → ℕ → ℕ
host_row timer verdict next = pick (eqb verdict next) (pick timer 17 16) (17 + min next 4)

-- a refusal
abbrev pub refusal_row : ℕ → ℕ
refusal_row n = pick (eqb n 5) 23 (pick (eqb n 6) 24 (pick (eqb n 7) 25 (pick (eqb n 8) 26 22)))

-- what a record means of the machine (PROTOCOL 6, 'Link')
abbrev pub report_row : Bool → ℕ → ℕ
report_row waiting verdict = pick waiting 27 (28 + min verdict 4)

-- one segment more, where there is one
abbrev pub further : ℕ → ℕ → ℕ
further c n = pick (ltb c n) (c + 1) n

-- waiting, verdict, c, N, frames sent, transfer address
abbrev pub report_words : Bool → ℕ → ℕ → ℕ → ℕ → ℕ → Words
report_words waiting verdict c n sent transfer = words (report_row waiting verdict) n c (further c n) sent transfer

-- the phrase with its numbers, and a line feed
unfoldable pub spoken : Words → List ℕ
spoken w = filling phrases w.row w.v [] ++ chars "\n"
