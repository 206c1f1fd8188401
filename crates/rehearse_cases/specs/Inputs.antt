-- Inputs and what the definition says of them: the worked input of PROTOCOL 8, 'Rehearsal', and slips.
use Rattle.std.specs.Prelude.{ℕ, ◌≡◌, refl, Ok, List, [], ◌∷◌, ◌++◌}
use Prim.Native.String.{String}
use Rattle.text.specs.Find.{index_of}
use Rattle.digits.specs.Digits.{nibble}
use Rattle.text.specs.Text.{chars}
use Rattle.decimal.specs.Decimal.{are_digits, value}
use Rattle.hexadecimal.specs.Hexadecimal.{hexadecimal}
use Rattle.script.specs.Script.{only, malformed, checked}

abbrev lines : String → String → String → List ℕ
lines a b c = chars a ++ (10 ∷ (chars b ++ (10 ∷ (chars c ++ (10 ∷ [])))))

pub worked : checked (lines "8 2 1" "0A0B0C0200000000000000030000000300000001000000020000001F000000" "txmhtht")
    ≡ Ok (record { memory = 8; image_at = 6; image_length = 62; events_at = 69; events_length = 7; segment_size = 2; repeats = 1 })
unfolding index_of only are_digits value nibble hexadecimal
worked = refl

-- no image and no events are well formed, and 0 has no leading zero
pub least : checked (lines "1 1 0" "" "")
    ≡ Ok (record { memory = 1; image_at = 6; image_length = 0; events_at = 7; events_length = 0; segment_size = 1; repeats = 0 })
unfolding index_of only are_digits value nibble hexadecimal
least = refl

pub leading_zero : checked (lines "08 2 1" "0A" "h") ≡ malformed
unfolding index_of only are_digits value nibble hexadecimal
leading_zero = refl

pub two-spaces : checked (lines "8  2 1" "0A" "h") ≡ malformed
unfolding index_of only are_digits value nibble hexadecimal
two-spaces = refl

pub too_large : checked (lines "8 2 256" "0A" "h") ≡ malformed
unfolding index_of only are_digits value nibble hexadecimal
too_large = refl

pub many-digits : checked (lines "8 2 18446744073709551617" "0A" "h") ≡ malformed
unfolding index_of only are_digits value nibble hexadecimal
many-digits = refl

pub small_letter : checked (lines "8 2 1" "0a" "h") ≡ malformed
unfolding index_of only are_digits value nibble hexadecimal
small_letter = refl

pub odd : checked (lines "8 2 1" "0A0" "h") ≡ malformed
unfolding index_of only are_digits value nibble hexadecimal
odd = refl

pub capital_event : checked (lines "8 2 1" "0A" "H") ≡ malformed
unfolding index_of only are_digits value nibble hexadecimal
capital_event = refl

pub no_last_feed : checked (chars "8 2 1" ++ (10 ∷ (chars "0A" ++ (10 ∷ chars "h")))) ≡ malformed
unfolding index_of only are_digits value nibble hexadecimal
no_last_feed = refl

pub fourth_line : checked (lines "8 2 1" "0A" "h" ++ (10 ∷ [])) ≡ malformed
unfolding index_of only are_digits value nibble hexadecimal
fourth_line = refl
