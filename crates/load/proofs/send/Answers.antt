use Prim.Native.Nat.{ℕ, ◌+◌, ◌-◌, ◌%◌}
use mathlib.Core.Path.{◌≡◌}
use mathlib.Core.List.{List}
use native.Mathlib.Nat.{add-sub_cancel_left}
use native.Mathlib.Omega.{arith}
use lib.ListN.{length, take, drop}
use borrow.Author.Tests.{eq-eqb, ne_eqb}
use Rattle.buffer.specs.declared.Written.{Written}
use Rattle.buffer.specs.Lay.{Came}
use Rattle.message.specs.Message.{Message, memory_load_transfer, memory_load, parameters}
use Rattle.message.specs.Write.{write, sent}
use Rattle.image.specs.PartsLaws.{length-bytes}
use Rattle.step.specs.Laws.{sent_by}
use Rattle.load_record.specs.declared.Settings.{Settings}
use Rattle.load_checks.specs.declared.Ruling.{Ruling}
use Rattle.load.specs.Load.{numbered}
use Rattle.load.specs.Laws.{numbered-sent}
use Rattle.load.specs.Inner.{piece, Sendable}
use Rattle.load.proofs.send.Goals as goal

module _ (s : Settings) (file string : List ℕ) (i : ℕ) (k : Ruling) where
  abbrev frame : Message
  frame = numbered s string k.many k.transfer i (piece file k.segment)

  -- the segment's bytes, as they are cut from the file
  abbrev bytes : List ℕ
  bytes = take (k.segment.place + k.segment.length - k.segment.place) (drop k.segment.place file)

  another : (i + 1 ≡ k.many → ⊥) → memory_load (i % 256) k.segment.address bytes ≡ frame
  another e = rw (ne_eqb (i + 1) k.many e, add-sub_cancel_left)

  module _ (e : i + 1 ≡ k.many) where
    with-parameters : s.with_parameters ≡ 1 → parameters (i % 256) string k.transfer ≡ frame
    with-parameters g = rw (eq-eqb (i + 1) k.many e, eq-eqb s.with_parameters 1 g)

    without : (s.with_parameters ≡ 1 → ⊥) → memory_load_transfer (i % 256) k.segment.address bytes k.transfer ≡ frame
    without g = rw (eq-eqb (i + 1) k.many e, ne_eqb s.with_parameters 1 g, add-sub_cancel_left)

  whole : {reply : List ℕ} → Sendable s file string i k reply → {m : Message} {answer : Written} {out : List ℕ} → m ≡ frame
      → Came (write s.version m reply) answer out → Came (sent frame reply) answer out
  whole {reply} r e c =
      let w = numbered-sent s string k.many k.transfer i (piece file k.segment) r.parameters (omega (arith, r.short, length-bytes file k.segment r.within)) in
      sent_by s.version frame reply w.0 w.1 r.room (rw e at c)

pub returns-then-index-k : goal.returns-then-index-k
returns-then-index-k c = whole c.args.settings c.args.file.now c.args.parameters.now c.args.index c.args.k c.requires
    (another c.args.settings c.args.file.now c.args.parameters.now c.args.index c.args.k (λ e. omega arith)) (c.memory_load.ensures c.args.settings.version)

pub returns-then-settings-eq1 : goal.returns-then-settings-eq1
returns-then-settings-eq1 c = whole c.args.settings c.args.file.now c.args.parameters.now c.args.index c.args.k c.requires
    (with-parameters c.args.settings c.args.file.now c.args.parameters.now c.args.index c.args.k (omega arith) (omega arith)) c.parameters.ensures

pub returns : goal.returns
returns c = whole c.args.settings c.args.file.now c.args.parameters.now c.args.index c.args.k c.requires
    (without c.args.settings c.args.file.now c.args.parameters.now c.args.index c.args.k (omega arith) (λ e. omega arith)) (c.memory_load_transfer.ensures c.args.settings.version)
