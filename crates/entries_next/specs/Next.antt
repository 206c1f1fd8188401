-- Code 20's entries, end mark and transfer address (PROTOCOL 2, 'Messages', and 7, 'Refusals': bytes in turn): what a byte is
-- follows from the bytes before it.
use Rattle.std.specs.Prelude.{ℕ, ◌+◌, ◌-◌, Bool, false, ◌&&◌, cond as pick, eqb, leb}
use Rattle.version.specs.Version.{by_version}
use Rattle.host_time.specs.HostTime.{field}
use Rattle.entries_next.specs.declared.Place.{Place}
use Rattle.entries_next.specs.declared.Place.TheVariants.{Kind, Size, Value, Time, Transfer, Outside, Excess}

-- ---- the entry rules of a version
-- the longest name, the longest address, and the last entry type
abbrev pub longest_name : ℕ → ℕ
longest_name version = by_version version 6 16

abbrev pub longest_address : ℕ → ℕ
longest_address version = by_version version 2 6

abbrev pub last_kind : ℕ → ℕ
last_kind version = by_version version 4 5

-- an entry of this type may have this length
abbrev pub listed : ℕ → ℕ → ℕ → Bool
listed version kind n =
    leb kind (last_kind version) &&
    pick (eqb kind 1) (leb n (longest_name version))  -- target name
    (pick (eqb kind 2) (leb n (longest_address version))  -- target address
    (pick (eqb kind 3) (leb n (longest_name version))  -- host name
    (pick (eqb kind 4) (leb n (longest_address version))  -- host address
    (pick (eqb kind 5) (eqb n 10)  -- host time
    false))))

-- ---- byte by byte

-- that many more bytes of a value; after the last the next entry's type
abbrev pub more : ℕ → Place
more n = pick (eqb n 0) Kind (Value n)

-- the place after a byte
unfoldable pub next : ℕ → Place → ℕ → Place
next version Kind b = pick (eqb b 0) (Transfer 4) (pick (leb b (last_kind version)) (Size b) Outside)
next version (Size kind) n = pick (listed version kind n) (pick (eqb kind 5) (Time 0 0) (more n)) Outside
next version (Value n) b = more (n - 1)
next version (Time k before) b = pick (field k before b) (pick (eqb k 9) Kind (Time (k + 1) b)) Outside
next version (Transfer n) b = pick (eqb n 0) Excess (Transfer (n - 1))
next version Outside b = Outside
next version Excess b = Excess
