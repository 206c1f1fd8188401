-- What the parameter block says, by the string's entries.
use Rattle.std.proofs.lemmas.List.{get_or_default}
use Rattle.std.specs.Prelude.{ℕ, ◌+◌, ◌-◌, ◌≤◌, ◌<◌, ◌≡◌, true, List, [], ◌⊎◌, length, get_or, Option, Some, None}
use Rattle.std.proofs.Common.{sym, ◌∙◌, ⊎_elim, get_or-take}
use Rattle.std.proofs.Math.Option.{some}
use native.Mathlib.Omega.{arith}
use Rattle.std.proofs.Math.Decide.{dec_lt}
use Rattle.std.proofs.Math.ListN.{get_elem?, get_or-eq_default}
use borrow.Author.Tests.{lt-ltb, le-ltb, eq-eqb, ne_eqb, le-leb}
use Rattle.version.specs.Version.{v21}
use Rattle.parameters.specs.declared.Value.{Value}
use Rattle.parameters.specs.declared.Parameters.{Parameters}
use Rattle.parameters.specs.Parameters.{kept}
use Rattle.holds.specs.Holds.{Absent, Last, Is, Holds}
use Rattle.block.specs.Block.{place, padded, name_cell, cell}
use Rattle.machine_record.specs.declared.Settings.{Settings as MachineSettings}
use Rattle.load_record.specs.declared.Settings.{Settings}
use Rattle.link.specs.MachineEnd.{End}
use Rattle.link_load.specs.Report.{lays_block, block_at, Loaded, Name, target, host, Spelled}

-- ---- a kept value, padded
padded-is : (fill : ℕ) (k : Value) (v : List ℕ) → Is k v → (x : ℕ) → padded fill k x ≡ get_or v x fill
padded-is fill k v i x =
    elim (dec_lt x (length v)) [
      | yes l ↦ rw (i.size, lt-ltb x (length v) l)
          (sym (get_or-take (length v) k.bytes x 0 l) ∙ (rw i.bytes_are) ∙ get_or_default v x 0 fill l)
      | no l ↦ rw (i.size, le-ltb x (length v) (omega arith)) (sym (get_or-eq_default v fill (omega arith)))
    ]

-- a name's bytes, and the first two of one that is empty
named : (k : Value) (v : List ℕ) → Is k v → 1 ≤ length v → (x : ℕ) → name_cell k x ≡ Some (get_or v x 32)
named k v i l x = rw (ne_eqb k.length 0 (λ e. omega (arith, i.size)), padded-is 32 k v i x)

unnamed : (k : Value) → Is k [] → (x : ℕ) → x < 2 → name_cell k x ≡ Some 0
unnamed k i x l = rw (eq-eqb k.length 0 i.size, lt-ltb x 2 l)

unnamed-stays : (k : Value) → Is k [] → (x : ℕ) → 2 ≤ x → name_cell k x ≡ None
unnamed-stays k i x l = rw (eq-eqb k.length 0 i.size, le-ltb x 2 l)

-- ---- the block of parameters that hold what a string says
module _ (p : Parameters) (string : List ℕ) (h : Holds v21 p string) where
  number-cell : (v : List ℕ) → Is p.target_address v → (x : ℕ) → x < 2 → cell p x ≡ Some (get_or v x 0)
  unfolding cell
  number-cell v i x l = rw (lt-ltb x 2 l, padded-is 0 p.target_address v i x)

  -- the value of a name, and its place
  abbrev value_of : {kind from : ℕ} → Name kind from → Value
  value_of target = p.target_name
  value_of host = p.host_name

  name-cell : {kind from : ℕ} (n : Name kind from) (x : ℕ) → x < 6 → cell p (from + x) ≡ name_cell (value_of n) x
  unfolding cell
  name-cell target x l =
      let back : 2 + x - 2 ≡ x = omega arith in rw (le-ltb (2 + x) 2 (omega arith), lt-ltb (2 + x) 8 (omega arith), back)
  name-cell host x l =
      let back : 8 + x - 8 ≡ x = omega arith in
      rw (le-ltb (8 + x) 2 (omega arith), le-ltb (8 + x) 8 (omega arith), lt-ltb (8 + x) 14 (omega arith), back)

  last_name : {kind from : ℕ} (n : Name kind from) (v : List ℕ) → Last v21 kind v string → Is (value_of n) v
  last_name target v l = h.last 1 (omega arith) (omega arith) v l
  last_name host v l = h.last 3 (omega arith) (omega arith) v l

  no_name : {kind from : ℕ} (n : Name kind from) → Absent kind string → Is (value_of n) []
  no_name target a = h.absent 1 (omega arith) (omega arith) a
  no_name host a = h.absent 3 (omega arith) (omega arith) a

  empty_name : {kind from : ℕ} (n : Name kind from) → Absent kind string ⊎ Last v21 kind [] string → Is (value_of n) []
  empty_name n = ⊎_elim (no_name n) (last_name n [])

-- ---- so memory has it after a load that lays the block
module _ (s : Settings) (ms : MachineSettings) (string old : List ℕ) (lays : lays_block s ms ≡ true) (h : Holds v21 (kept string) string) where
  abbrev p : Parameters
  p = kept string

  abbrev at : ℕ
  at = place (length old)

  -- the change at an address is that of the cell
  at-cell : (x : ℕ) (b : Option ℕ) → cell p x ≡ b → block_at s ms string (length old) (at + x) ≡ b
  at-cell x b c = let back : at + x - at ≡ x = omega arith in rw (lays, le-leb at (at + x) (omega arith), back, c)

  pub left_alone : {kind from : ℕ} → Name kind from → Absent kind string ⊎ Last v21 kind [] string → (x : ℕ) → 2 ≤ x → x < 6
      → block_at s ms string (length old) (at + (from + x)) ≡ None
  left_alone {from = from} n q x l u = at-cell (from + x) None (name-cell p string h n x u ∙ unnamed-stays _ (empty_name p string h n q) x l)

module _
    (s : Settings) (ms : MachineSettings) (file string old : List ℕ) (e : End) (loaded : Loaded s ms file string old e) (lays : lays_block s ms ≡ true)
    (h : Holds v21 (kept string) string) where
  -- a byte that the block writes
  is-there : (x b : ℕ) → cell (kept string) x ≡ Some b → get_elem? e.memory (place (length old) + x) ≡ some b
  is-there x b c = loaded.block (place (length old) + x) b (at-cell s ms string old lays h x (Some b) c)

  pub spelled : Spelled string (place (length old)) e.memory
  spelled =
      record {
        number = λ v l x n. is-there x (get_or v x 0) (number-cell (kept string) string h v (h.last 2 (omega arith) (omega arith) v l) x n);
        no_number = λ a x n. is-there x 0 (number-cell (kept string) string h [] (h.absent 2 (omega arith) (omega arith) a) x n);
        name = λ {kind} {from} k v l there x n. is-there (from + x) (get_or v x 32) (name-cell (kept string) string h k x n ∙ named _ v (last_name (kept string) string h k v l) there x);
        no_name = λ {kind} {from} k q x n. is-there (from + x) 0 (name-cell (kept string) string h k x (omega arith) ∙ unnamed _ (empty_name (kept string) string h k q) x n);
      }
