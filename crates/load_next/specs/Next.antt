-- What the host's end of a load does next on a frame (PROTOCOL 5, 'Host end'). N frames make the load.
use Rattle.std.specs.Prelude.{ℕ, ◌+◌, ◌%◌, Bool, ◌&&◌, cond as pick, eqb, ltb}
use Rattle.message.specs.declared.Fields.{Fields}
use Rattle.load_record.specs.declared.Session.{Session}
use Rattle.load_record.specs.declared.Next.{Next}
use Rattle.load_record.specs.Record.{most_restarts, reached, restarted, ignores, goes_out, ends, more, running}

-- the load may begin again: under the restart setting, once a frame is answered, while there are restarts left
abbrev pub again : ℕ → Session → Bool
again restart h = eqb restart 1 && ltb 0 h.position && ltb h.restarts most_restarts

-- a machine asks for a program of type 2: the first frame goes out, or goes out again
abbrev pub on_request : ℕ → Session → ℕ → Next
on_request restart h program =
    pick (eqb program 2)
    (pick (eqb h.waiting 1) (goes_out (reached h 0))
    (pick (again restart h) (goes_out (restarted h))
    (ignores h)))
    (ignores h)

-- the frame on its way was taken: the next one, or finished
abbrev pub answered : ℕ → Session → Next
answered N h = pick (more N h) (goes_out (reached h (h.position + 1))) (ends (reached h N) 1)

-- the answer to the frame on its way: taken, or rejected
abbrev pub on_answer : ℕ → Session → ℕ → ℕ → Next
on_answer N h number error =
    pick (eqb h.waiting 0 && eqb number ((h.position + 1) % 256)) (pick (eqb error 0) (answered N h) (ends h 2)) (ignores h)

-- on a frame it decides by its code, and by the restart setting; all else is ignored
abbrev pub react : ℕ → ℕ → Session → Fields → Next
react N restart h f =
    running h
    (pick (eqb f.code 8) (on_request restart h f.program)
    (pick (eqb f.code 10) (on_answer N h f.number f.error)
    (ignores h)))
