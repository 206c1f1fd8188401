-- An image of more regions than there might be once, computed: 65 of one byte each, with a byte between (PROTOCOL 3, 'Files made
-- earlier').
use Rattle.std.specs.Prelude.{ℕ, zero, suc, ◌+◌, ◌*◌, ◌≡◌, refl, List, [], ◌∷◌, ◌++◌}
use Rattle.octets.specs.Number.{number, low}
use Rattle.directory.specs.Directory.{trailer_of, entry_of, entries, regions, demand, entries_refusal, refusal}
use Rattle.image.specs.Image.{many, segment, segment_of}
use Rattle.image.specs.Before.{refusal_before}

-- the bytes i, i + 1 and so on, n of them
unfoldable pub upward : ℕ → ℕ → List ℕ
upward i zero = []
upward i (suc n) = i ∷ upward (i + 1) n

-- the entries of regions i, i + 1 and so on, n of them
unfoldable pub listed : ℕ → ℕ → List ℕ
listed i zero = []
listed i (suc n) = low 4 (2 * i) ++ (low 4 i ++ (low 4 1 ++ listed (i + 1) n))

-- an image of n regions
unfoldable pub image : ℕ → List ℕ
image n = upward 0 n ++ (listed 0 n ++ (low 4 n ++ (low 4 n ++ (low 4 512 ++ low 4 (13 * n + 16)))))

-- 64 were accepted and are, 65 were not and are
pub sixty_four : (refusal_before (image 64) ≡ 0) × (refusal (image 64) ≡ 0)
unfolding upward listed image number low trailer_of entry_of entries demand entries_refusal
sixty_four = (refl, refl)

pub sixty_five : (refusal_before (image 65) ≡ 6) × (refusal (image 65) ≡ 0)
unfolding upward listed image number low trailer_of entry_of entries demand entries_refusal
sixty_five = (refl, refl)

-- the last of 65 segments
pub last-segment : (many 1 (regions (image 65)) ≡ 65) × (segment_of (image 65) 1 64 ≡ record { address = 128; bytes = 64 ∷ [] })
unfolding upward listed image number low trailer_of entry_of entries demand entries_refusal many segment
last-segment = (refl, refl)
