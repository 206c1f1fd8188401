-- The versions of the protocol, by their numbers (PROTOCOL, at its beginning).
use Rattle.std.specs.Prelude.{ℕ, Bool, ◌||◌, cond as pick, eqb}

-- version 2.1 has the number 21, version 3.0.0 the number 30
abbrev pub v21 : ℕ
v21 = 21

abbrev pub v30 : ℕ
v30 = 30

-- the version is 2.1
abbrev pub older : ℕ → Bool
older version = eqb version v21

-- the version is one of the two
abbrev pub known : ℕ → Bool
known version = eqb version v21 || eqb version v30

-- a number that version 2.1 has otherwise
abbrev pub by_version : ℕ → ℕ → ℕ → ℕ
by_version version under_older otherwise = pick (older version) under_older otherwise
