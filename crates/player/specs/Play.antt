-- What a program that plays a rehearsal prints (PROTOCOL 8, 'Rehearsal'), by what it tells of an event and of the end.
use Rattle.std.specs.Prelude.{ℕ, List, [], ◌∷◌, ◌++◌, replicate}
use Rattle.job.specs.declared.Setup.{Setup}
use Rattle.job.specs.declared.Ends.{Ends}
use Rattle.job.specs.Run.{Run, run, frame, fresh_ends}
use Rattle.rehearse.specs.Rehearse.{event, places}
use Rattle.player.specs.declared.Rehearsal.{Rehearsal}

-- a rehearsal on its way, over the lent memory
abbrev pub run_of : Rehearsal → List ℕ → Run
run_of r memory = run r.ends memory r.host_places r.machine_places r.reply

-- its beginning: no place holds a frame
unfoldable pub start : List ℕ → Run
start memory = run fresh_ends memory places places (replicate 1500 0)

-- the machine's timer is the first event
abbrev pub all : List ℕ → List ℕ
all letters = 110 ∷ letters

module _ (s : Setup) (file : List ℕ) (told : ℕ → Ends → Ends → List ℕ → List ℕ) where
  -- what is told of an event: of the ends before it and after it, and of the frame that was sent
  abbrev pub told_of : Run → ℕ → List ℕ
  told_of w letter = told letter w.ends (event s file w letter).run.ends (frame (event s file w letter))

  -- what is printed: what is told of each event in turn, and of the end
  unfoldable pub printed : (Ends → List ℕ → List ℕ) → Run → List ℕ → List ℕ
  printed last w [] = last w.ends w.memory
  printed last w (letter ∷ rest) = told_of w letter ++ printed last (event s file w letter).run rest
