-- The lines of `make explain`: words beside a rehearsal's transcript. They change nothing of it.
use Rattle.std.specs.Prelude.{ℕ, ◌-◌, ◌*◌, min, Bool, true, false, ◌&&◌, cond as pick, List, [], ◌∷◌, ◌++◌, length, replicate, eqb, ltb}
use Rattle.version.specs.Version.{v30}
use Rattle.message.specs.Read.{fields}
use Rattle.text.specs.Text.{chars}
use Rattle.hexadecimal.specs.Hexadecimal.{pairs}
use Rattle.machine_record.specs.Record.{is}
use Rattle.queue.specs.declared.Queue.{Queue}
use Rattle.queue.specs.Queue.{is_full, length_of}
use Rattle.words.specs.declared.Words.{Words}
use Rattle.words.specs.Words.{phrase, spoken, frame_words, line_row, machine_row, host_row, full_row, refusal_row, report_words}
use Rattle.transcript.specs.Transcript.{initial}
use Rattle.job.specs.declared.Ends.{Ends}
use Rattle.job.specs.Run.{host_sends}

-- words begin in column 24, or two places behind the bytes
abbrev pub gap : ℕ → ℕ
gap n = 22 - 2 * min n 10

abbrev pub spaces : ℕ → List ℕ
spaces n = replicate n 32

-- a letter and bytes in hexadecimal, and words beside them
abbrev pub beside_line : ℕ → List ℕ → Words → List ℕ
beside_line letter bytes w = letter ∷ chars " " ++ (pairs bytes ++ (spaces (gap (length bytes)) ++ spoken w))

-- an event's letter, and words without numbers
abbrev pub noted_line : ℕ → ℕ → List ℕ
noted_line letter row = beside_line letter [] (phrase row)

-- ---- an event, from the ends before and after it and the frame that it sent, if any
-- a frame is in front
abbrev pub some : Queue → Bool
some q = ltb 0 (length_of q)

-- why no frame was sent
abbrev pub silent_row : ℕ → Ends → Ends → ℕ
silent_row letter before after =
    pick (eqb letter 104) (pick (some before.from_host) (machine_row false) (line_row true false))
    (pick (eqb letter 107) (pick (some before.from_host) (machine_row false) (line_row true false))
    (pick (eqb letter 120) (line_row true (some before.from_host))
    (pick (eqb letter 116) (pick (some before.from_machine) (host_row false before.session.verdict after.session.verdict) (line_row false false))
    (pick (eqb letter 117) (pick (some before.from_machine) (host_row false before.session.verdict after.session.verdict) (line_row false false))
    (pick (eqb letter 121) (line_row false (some before.from_machine))
    (pick (eqb letter 109) (host_row true before.session.verdict after.session.verdict)
    (machine_row true)))))))

-- the host sends a frame again if it counts repeats
abbrev pub sent_words : ℕ → Ends → List ℕ → Words
sent_words letter after frame =
    frame_words (fields v30 frame) (is 4 after.machine) after.machine.transfer (host_sends letter && ltb 0 after.session.repeats)

abbrev pub remark : ℕ → Ends → Ends → List ℕ → List ℕ
remark letter before after frame =
    pick (eqb (length frame) 0) (noted_line letter (silent_row letter before after))
    (beside_line (initial (host_sends letter)) frame (sent_words letter after frame))

-- the sender's queue was full: a frame that it sent is lost
abbrev pub full_before : ℕ → Ends → Bool
full_before letter before = pick (host_sends letter) (is_full before.from_host) (is_full before.from_machine)

abbrev pub lost : ℕ → Ends → List ℕ → List ℕ
lost letter before frame = pick (eqb (length frame) 0) [] (pick (full_before letter before) (noted_line letter full_row) [])

-- ---- at the end: what the last line means of an image of so many segments; what a refusal means
abbrev pub meaning : Ends → ℕ → List ℕ
meaning e many =
    spoken (report_words (eqb e.session.waiting 1) e.session.verdict e.session.position many e.session.sent e.machine.transfer)

abbrev pub reason : ℕ → List ℕ
reason n = spoken (phrase (refusal_row n))
