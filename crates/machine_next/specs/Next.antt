-- What the machine end does on a frame (PROTOCOL 4, 'Machine end').
use Rattle.std.specs.Prelude.{ℕ, min, Bool, true, ◌||◌, cond as pick, List, length, eqb}
use Rattle.version.specs.Version.{older}
use Rattle.block.specs.Block.{place, block}
use Rattle.memory.specs.Memory.{fits, laid, deposited, bytes_from}
use Rattle.message.specs.declared.Fields.{Fields}
use Rattle.message.specs.Message.{request_load, dump_data, looped_data}
use Rattle.message.specs.Read.{part}
use Rattle.step.specs.Step.{Sending, nothing, sends, Act, acts, ignores}
use Rattle.machine_record.specs.declared.Settings.{Settings}
use Rattle.machine_record.specs.declared.Machine.{Machine}
use Rattle.parameters.specs.declared.Parameters.{Parameters}
use Rattle.parameters.specs.Parameters.{kept}
use Rattle.machine_record.specs.Record.{idle, loading, started, keeping, is}
use Rattle.machine_number.specs.Number.{after, heed}
use Rattle.machine_next.specs.declared.Sends.{Sends}
use Rattle.machine_next.specs.declared.Sends.TheVariants.{Nothing, Load, Data, Looped}
use Rattle.machine_next.specs.declared.Next.{Next}

-- ---- the number rule
unfoldable pub by_number : Machine → ℕ → Act Machine (List ℕ) → List ℕ → Act Machine (List ℕ)
by_number m number taken memory =
    pick (eqb (heed m number) 1) taken
    (pick (eqb (heed m number) 2) (acts m memory (sends (request_load m.expected m.error)))
    (ignores m memory))

-- a frame that is taken by a machine with these parameters and does not fit: the reply has the number after it and error 1, and nothing is
-- written or kept
abbrev pub unfit : Parameters → ℕ → List ℕ → Act Machine (List ℕ)
unfit parameters number memory = acts (loading parameters (after number) 1) memory (sends (request_load (after number) 1))

-- a frame that is taken: if it fits, error 0
abbrev pub taken_as : Parameters → ℕ → Bool → Machine → List ℕ → List ℕ → Act Machine (List ℕ)
taken_as parameters number fit fitted laid memory =
    pick fit (acts fitted laid (sends (request_load (after number) 0))) (unfit parameters number memory)

-- ---- a frame, by its code
-- codes 0 and 2; `fitted` is the machine after a load that fits
unfoldable pub on_load : Settings → Machine → ℕ → ℕ → List ℕ → Machine → List ℕ → Act Machine (List ℕ)
on_load s m number address bytes fitted memory =
    by_number m number
    (taken_as m.parameters number (fits s.window address (length bytes) (length memory)) fitted (laid bytes address memory) memory) memory

-- code 20 always fits under 3.0.0, and lays nothing; under 2.1 it fits as a load of its block does, and lays that
abbrev pub parameters_fit : Settings → ℕ → Bool
parameters_fit s size = pick (older s.version) (fits s.window (place size) 14 size) true

abbrev pub parameters_laid : Settings → Parameters → List ℕ → List ℕ
parameters_laid s p memory = pick (older s.version) (laid (block p memory) (place (length memory)) memory) memory

-- if it fits, the machine is started and keeps what the entries say
unfoldable pub on_parameters : Settings → Machine → ℕ → List ℕ → ℕ → List ℕ → Act Machine (List ℕ)
on_parameters s m number entries transfer memory =
    by_number m number
    (taken_as m.parameters number (parameters_fit s (length memory)) (started (kept entries) transfer) (parameters_laid s (kept entries) memory) memory) memory

-- code 4, in Idle or Offering
abbrev pub on_dump : Settings → Machine → ℕ → ℕ → List ℕ → Act Machine (List ℕ)
on_dump s m address count memory =
    pick (is 0 m || is 1 m) (acts m memory (sends (dump_data address (bytes_from memory address (min count s.reply_bytes)))))
    (ignores m memory)

-- code 1 ends Offering
abbrev pub on_complete : Machine → List ℕ → Act Machine (List ℕ)
on_complete m memory = pick (is 1 m) (acts (idle m.parameters) memory nothing) (ignores m memory)

-- code 24, in Idle
abbrev pub on_loop : Machine → ℕ → List ℕ → List ℕ → Act Machine (List ℕ)
on_loop m receipt bytes memory = pick (is 0 m) (acts m memory (sends (looped_data receipt bytes))) (ignores m memory)

abbrev pub react : Settings → Machine → Fields → List ℕ → List ℕ → Act Machine (List ℕ)
react s m f frame memory =
    pick (eqb f.code 0) (on_load s m f.number f.address (part frame f) (started m.parameters f.transfer) memory)
    (pick (eqb f.code 2) (on_load s m f.number f.address (part frame f) (loading m.parameters (after f.number) 0) memory)
    (pick (eqb f.code 20) (on_parameters s m f.number (part frame f) f.transfer memory)
    (pick (eqb f.code 4) (on_dump s m f.address f.count memory)
    (pick (eqb f.code 1) (on_complete m memory)
    (pick (eqb f.code 24) (on_loop m f.receipt (part frame f) memory)
    (ignores m memory))))))

-- ---- the code's decision on a frame, in numbers
-- what goes out
abbrev pub sending : Fields → List ℕ → List ℕ → Sends → Sending
sending f frame memory Nothing = nothing
sending f frame memory (Load number error) = sends (request_load number error)
sending f frame memory (Data n) = sends (dump_data f.address (bytes_from memory f.address n))
sending f frame memory Looped = sends (looped_data f.receipt (part frame f))

abbrev pub next : Machine → Bool → Bool → Sends → Next
next m takes keeps out = record { machine = m; takes = takes; keeps = keeps; sends = out }

-- the machine, with what a frame's entries say if it keeps them
abbrev pub keeps : Fields → List ℕ → Next → Machine
keeps f frame n = pick n.keeps (keeping n.machine (kept (part frame f))) n.machine

-- memory with these parameters stored in it: under 2.1 their block, where it fits
abbrev pub stored : Settings → Parameters → List ℕ → List ℕ
stored s p memory = pick (older s.version) (deposited s.window (block p memory) (place (length memory)) memory) memory

-- memory after the decision: the frame's data goes to it, where it fits, if it is taken; its entries are stored in it, if they are kept
abbrev pub fills : Settings → Fields → List ℕ → List ℕ → Bool → Bool → List ℕ
fills s f frame memory takes keeps =
    pick takes (deposited s.window (part frame f) f.address memory)
    (pick keeps (stored s (kept (part frame f)) memory) memory)

-- what the decision does: what is kept goes into the record, and memory is filled
abbrev pub does : Settings → Fields → List ℕ → List ℕ → Next → Act Machine (List ℕ)
does s f frame memory n = acts (keeps f frame n) (fills s f frame memory n.takes n.keeps) (sending f frame memory n.sends)
