-- What the machine sends on a frame is listed and has at most 1,500 bytes; a decision, sent and stored, is what the machine does.
use Rattle.std.specs.Prelude.{ℕ, ◌+◌, ◌≤◌, min, ◌≡◌, refl, Bool, true, false, cond as pick, List, length}
use Rattle.std.proofs.Common.{ap, sym, subst, ◌∙◌, arith, length-append, length-take, length-drop}
use Rattle.buffer.specs.declared.Written.{Written}
use Rattle.octets.specs.Number.{Octets}
use Rattle.octets.specs.NumberLaws.{length-low}
use Rattle.buffer.specs.Lay.{Came}
use Rattle.memory.specs.Memory.{deposited}
use Rattle.memory.specs.Laws.{length-bytes_from}
use Rattle.message.specs.declared.Fields.{Fields}
use Rattle.message.specs.Message.{Message, loop_data, looped_data}
use Rattle.message.specs.Read.{message, find, fields, part, read}
use Rattle.message.specs.Write.{layout, write}
use Rattle.message.specs.Laws.{fields-inside, fields-short, written_read}
use Rattle.step.specs.Step.{Sending, nothing, sends, Act, acts, gives, Leaves}
use Rattle.step.specs.Laws.{sent_by, sent-leaves}
use Rattle.machine_record.specs.declared.Settings.{Settings}
use Rattle.machine_record.specs.declared.Machine.{Machine}
use Rattle.parameters.specs.Parameters.{kept}
use Rattle.machine_record.specs.Record.{keeping}
use Rattle.machine_next.specs.declared.Next.{Next}
use Rattle.machine_next.specs.Next.{react, sending, keeps, stored, does}
use Rattle.machine_next.proofs.ActedLaws.{Acted, ignored, answered, loaded, dumped, completed, looped, react-acted}
use Rattle.machine.specs.Inner.{Short}

-- ---- what is sent
-- the data of an accepted loop frame leaves room for the code and the receipt
loop-part : (version : ℕ) (s : List ℕ) → Octets s → (fields version s).refusal ≡ 0 → (fields version s).code ≡ 24
    → length (layout (looped_data (fields version s).receipt (part s (fields version s)))) ≤ 1500
unfolding read find layout
loop-part version s o z e =
    let what = loop_data (fields version s).receipt (part s (fields version s)) in
    let reads : read version s ≡ message what = rw (z, e) in
    let same : length (layout what) ≡ length s = ap length (written_read version s o what reads).0 in
    let size = length-low 2 (fields version s).receipt in
    simp length-append (omega (arith, simp length-append at same, fields-short version s z))

pub react-short : (version : ℕ) (s : Settings) (m : Machine) (memory frame : List ℕ) → Octets frame → (fields version frame).refusal ≡ 0 → s.reply_bytes ≤ 1495
    → Short (react s m (fields version frame) frame memory).sending
unfolding layout
react-short version s m memory frame o z h = go _ (react-acted s m f frame memory)
  where
    f : Fields
    f = fields version frame

    go : (act : Act Machine (List ℕ)) → Acted s m f frame memory act → Short act.sending
    go act ignored = tt
    go act (answered m' number error l) = (λ _. refl, omega arith)
    go act (loaded m' number bytes address l e) = (λ _. refl, omega arith)
    go act (dumped l) =
        let size = length-bytes_from memory f.address (min f.count s.reply_bytes) in
        (λ _. refl, simp (length-append, length-low) (omega arith))
    go act (completed e) = tt
    go act (looped c e) = (λ _. refl, loop-part version frame o z c)

-- a message that goes out is what its writer gives
pub goes-out : (m : Machine) (memory reply : List ℕ) (out : Sending) (what : Message) {answer : Written} {buffer : List ℕ} → out ≡ sends what → Short out
    → 1500 ≤ length reply → ((version : ℕ) → Came (write version what reply) answer buffer) → Leaves (gives (acts m memory out) reply) m answer memory buffer
goes-out m memory reply out what e h room c =
    let short = subst Short e h in
    rw e (sent-leaves m memory what reply (sent_by 0 what reply (short.0 0) short.1 room (c 0)))

-- what was sent stays sent while what was lent changes
lent-changed : (out : Sending) (m : Machine) (memory changed reply : List ℕ) {m' : Machine} {answer : Written} {changed' reply' : List ℕ}
    → Leaves (gives (acts m memory out) reply) m' answer memory reply' → changed' ≡ changed
    → Leaves (gives (acts m changed out) reply) m' answer changed' reply'
lent-changed nothing m memory changed reply l e = (l.0, l.1, e, l.3)
lent-changed (sends what) m memory changed reply l e = (l.0, l.1, e, l.3)

-- ---- a frame that is accepted, and the decision on it
module _ (version : ℕ) (s : Settings) (m : Machine) (frame memory reply : List ℕ) (f : Fields) (next : Next) (h : f ≡ fields version frame)
    (d : (frame memory' : List ℕ) → length (part frame f) ≡ f.data_length → length memory' ≡ length memory → does s f frame memory' next ≡ react s m f frame memory') where
  decided : does s f frame memory next ≡ react s m (fields version frame) frame memory
  decided =
      let inside : f.data_at + f.data_length ≤ length frame = rw h (fields-inside version frame) in
      let size : length (part frame f) ≡ f.data_length = simp (length-take, length-drop) (omega arith) in
      d frame memory size refl ∙ ap (λ (g : Fields). react s m g frame memory) h

  pub decided-short : Octets frame → f.refusal ≡ 0 → s.reply_bytes ≤ 1495 → Short (sending f frame memory next.sends)
  decided-short o z r =
      subst Short (sym (ap (λ (act : Act Machine (List ℕ)). act.sending) decided)) (react-short version s m memory frame o (rw h at z) r)

  -- what is stored of the machine that keeps the entries is what they say
  kept-stored : (b : Bool) → pick b (stored s (pick b (keeping next.machine (kept (part frame f))) next.machine).parameters memory) memory
      ≡ pick b (stored s (kept (part frame f)) memory) memory
  kept-stored true = refl
  kept-stored false = refl

  -- what is kept and sent, then what goes to memory, is what the machine does with the frame
  pub decided-leaves : {keeper m' : Machine} {answer : Written} {memory' reply' : List ℕ} → keeper ≡ keeps f frame next
      → Leaves (gives (acts keeper memory (sending f frame memory next.sends)) reply) m' answer memory reply'
      → memory' ≡ pick next.takes (deposited s.window (part frame f) f.address memory) (pick next.keeps (stored s keeper.parameters memory) memory)
      → Leaves (gives (react s m (fields version frame) frame memory) reply) m' answer memory' reply'
  decided-leaves {keeper} {m'} {answer} {memory'} {reply'} k l e =
      let data-in = deposited s.window (part frame f) f.address memory in
      let same = ap (λ (x : Machine). pick next.takes data-in (pick next.keeps (stored s x.parameters memory) memory)) k in
      subst (λ (act : Act Machine (List ℕ)). Leaves (gives act reply) m' answer memory' reply') decided
      (lent-changed (sending f frame memory next.sends) (keeps f frame next) memory _ reply (rw k at l) (e ∙ same ∙ ap (pick next.takes data-in) (kept-stored next.keeps)))
