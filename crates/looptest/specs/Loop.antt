-- The calls of the host's loop test (PROTOCOL 5, 'Host end'): refusals, the count of frames, and what each call leaves. The
-- settings and the data stay the same over a test.
use Rattle.std.specs.Prelude.{ℕ, ◌+◌, Bool, ◌&&◌, cond as pick, List, [], ◌∷◌, length, leb}
use Rattle.version.specs.Version.{known}
use Rattle.message.specs.declared.Fields.{Fields}
use Rattle.message.specs.Message.{loop_data}
use Rattle.message.specs.Read.{part}
use Rattle.step.specs.Step.{nothing, sends, Act, Outcome, unless, first, acts, call, frame_call}
use Rattle.looptest_record.specs.declared.Settings.{Settings}
use Rattle.looptest_record.specs.declared.Session.{Session}
use Rattle.looptest_timer.specs.declared.Next.{Next}
use Rattle.looptest_next.specs.Next.{react}
use Rattle.looptest_timer.specs.Timer.{on_timer}

-- the test has sent its frame once
abbrev pub begun : Session
begun = record { sent = 1; repeats = 0; verdict = 0 }

-- this record with another frame sent
abbrev pub counted : Session → Session
counted h = record { sent = h.sent + 1; repeats = h.repeats; verdict = h.verdict }

-- ---- refusals
-- R and the data are within their ranges, and the version is known
abbrev pub settled : Settings → ℕ → Bool
settled s size = leb s.repeats 255 && leb size 1497 && known s.version

-- the record is none of those that are bad (PROTOCOL 7, 'Refusals')
abbrev pub sound : Settings → Session → Bool
sound s h = leb h.verdict 3 && leb h.repeats s.repeats && leb h.sent (s.repeats + 1)

-- a call's refusal, with data and a reply buffer of so many bytes; 0 is none
abbrev pub refusal : Settings → Session → ℕ → ℕ → ℕ
refusal s h size room = first (unless (settled s size) 10 ∷ unless (sound s h) 10 ∷ unless (leb 1500 room) 9 ∷ [])

-- ---- what the test does
abbrev pub on_frame : Settings → Session → List ℕ → List ℕ → Fields → Act Session (Unit {0})
on_frame s h bytes frame f = acts (react s h bytes f (part frame f)) tt nothing

-- the test's frame goes out
abbrev pub goes_out : Settings → Session → List ℕ → Act Session (Unit {0})
goes_out s h bytes = acts h tt (sends (loop_data s.receipt bytes))

-- what is decided on a timer: the frame again, and counted, or nothing
abbrev pub does : Settings → Next → List ℕ → Act Session (Unit {0})
does s n bytes = pick n.sends (goes_out s (counted n.session) bytes) (acts n.session tt nothing)

-- ---- calls
-- the start: the record and the first frame
abbrev pub loop_start : Settings → List ℕ → List ℕ → Outcome Session (Unit {0})
loop_start s bytes reply = call (refusal s begun (length bytes) (length reply)) begun tt reply (goes_out s begun bytes)

-- a step on a frame
abbrev pub loop_frame : Settings → Session → List ℕ → List ℕ → List ℕ → Outcome Session (Unit {0})
loop_frame s h bytes frame reply = frame_call s.version (refusal s h (length bytes) (length reply)) frame h tt reply (on_frame s h bytes frame)

-- a step on a timer
abbrev pub loop_timer : Settings → Session → List ℕ → List ℕ → Outcome Session (Unit {0})
loop_timer s h bytes reply = call (refusal s h (length bytes) (length reply)) h tt reply (does s (on_timer s h) bytes)
