-- The rehearsal program's input (PROTOCOL 8, 'Rehearsal'): three lines, each ended by a line feed.
-- A text is the list of its characters' codes; `index_of b` is the place of the first b in one, its length if there is none.
use Rattle.std.specs.Prelude.{ℕ, ◌+◌, Bool, ◌&&◌, cond as pick, Result, Ok, Err, List, length, take, drop, eqb, leb, ltb}
use Rattle.std.specs.List.{list_all}
use Rattle.refusal.specs.declared.Refusal.{Refusal}
use Rattle.refusal.specs.declared.Refusal.TheVariants.{Setting}
use Rattle.text.specs.Find.{index_of}
use Rattle.text.specs.Text.{chars}
use Rattle.decimal.specs.Decimal.{is_number, value}
use Rattle.hexadecimal.specs.Hexadecimal.{hexadecimal, is_hexadecimal}
use Rattle.script.specs.declared.Script.{Script}

-- a text from a place on, up to the first b or the end
abbrev pub up_to : ℕ → List ℕ → ℕ → List ℕ
up_to b s from = take (index_of b (drop from s)) (drop from s)

-- the place behind the first b from a place on; beyond the text's end if there is none
abbrev pub behind : ℕ → List ℕ → ℕ → ℕ
behind b s from = from + index_of b (drop from s) + 1

-- every character is one of the letters
unfoldable pub only : List ℕ → List ℕ → Bool
only letters s = list_all (λ c. ltb (index_of c letters) (length letters)) s

-- a number from low to high
abbrev pub ranges : ℕ → ℕ → List ℕ → Bool
ranges low high s = is_number s && (leb low (value 0 s) && leb (value 0 s) high)

-- ---- the first line: memory length, S and R, one space between
abbrev pub second_at : List ℕ → ℕ
second_at line = behind 32 line 0

abbrev pub third_at : List ℕ → ℕ
third_at line = behind 32 line (second_at line)

abbrev pub memory : List ℕ → List ℕ
memory line = up_to 32 line 0

abbrev pub size : List ℕ → List ℕ
size line = up_to 32 line (second_at line)

abbrev pub repeats : List ℕ → List ℕ
repeats line = drop (third_at line) line

abbrev pub is_settings : List ℕ → Bool
is_settings line =
    leb (third_at line) (length line) && (ranges 1 4096 (memory line) && (ranges 1 1490 (size line) && ranges 0 255 (repeats line)))

-- ---- the second line: an image in capital hexadecimal, two digits a byte
abbrev pub is_image : List ℕ → Bool
is_image line = is_hexadecimal (hexadecimal line)

-- ---- the third line: events, perhaps none
abbrev pub events : List ℕ
events = chars "hkxtuymn"

-- ---- the whole input
abbrev pub image_at : List ℕ → ℕ
image_at s = behind 10 s 0

abbrev pub events_at : List ℕ → ℕ
events_at s = behind 10 s (image_at s)

-- where the fourth line would begin
abbrev pub end : List ℕ → ℕ
end s = behind 10 s (events_at s)

abbrev pub settings_line : List ℕ → List ℕ
settings_line s = up_to 10 s 0

abbrev pub image_line : List ℕ → List ℕ
image_line s = up_to 10 s (image_at s)

abbrev pub events_line : List ℕ → List ℕ
events_line s = up_to 10 s (events_at s)

-- at most 8,192 bytes; three lines and nothing behind them; each line as it is to be
abbrev pub well_formed : List ℕ → Bool
well_formed s =
    leb (length s) 8192 && (eqb (end s) (length s) && (is_settings (settings_line s) && (is_image (image_line s) && only events (events_line s))))

-- refusal 10
abbrev pub malformed : Result Script Refusal
malformed = Err Setting

-- what the input says: its numbers, and where the image's digits and the letters stand
abbrev pub said : List ℕ → Script
said s =
    record {
      memory = value 0 (memory (settings_line s));
      image_at = image_at s;
      image_length = index_of 10 (drop (image_at s) s);
      events_at = events_at s;
      events_length = index_of 10 (drop (events_at s) s);
      segment_size = value 0 (size (settings_line s));
      repeats = value 0 (repeats (settings_line s));
    }

abbrev pub checked : List ℕ → Result Script Refusal
checked s = pick (well_formed s) (Ok (said s)) malformed
