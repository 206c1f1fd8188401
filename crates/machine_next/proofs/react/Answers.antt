use Rattle.std.proofs.Common.{eq-eqb, ne_eqb, arith}
use Rattle.machine_record.specs.Record.{started, loading}
use Rattle.machine_number.specs.Number.{after}
use Rattle.machine_next.proofs.Laws.{does_load, does-parameters}
use Rattle.machine_next.proofs.react.Goals as goal

pub returns-in-0 : goal.returns-in-0
returns-in-0 c = let a = c.args in
    let made = rw (c.fitting-fit.ensures, c.started.ensures) at c.on_load.ensures in
    λ frame memory p q. rw (eq-eqb _ _ c.in-0.is, made) (does_load a.settings a.f frame memory a.machine a.f.number a.f.data_length a.size (started a.machine.parameters a.f.transfer) p q)

pub returns-in-2 : goal.returns-in-2
returns-in-2 c = let a = c.args in
    let made = rw (c.fitting-fit-in-2.ensures, c.loading.ensures, c.after.ensures) at c.on_load-in-2.ensures in
    λ frame memory p q. rw (ne_eqb a.f.code 0 (omega arith), eq-eqb _ _ c.in-2.is, made)
    (does_load a.settings a.f frame memory a.machine a.f.number a.f.data_length a.size (loading a.machine.parameters (after a.f.number) 0) p q)

pub returns-in-20 : goal.returns-in-20
returns-in-20 c = let a = c.args in
    let made = rw (c.parameters_fit-fit.ensures, c.started-fitted.ensures) at c.on_load-in-20.ensures in
    λ frame memory p q. rw (ne_eqb a.f.code 0 (omega arith), ne_eqb a.f.code 2 (omega arith), eq-eqb _ _ c.in-20.is, made)
    (does-parameters a.settings a.f frame memory a.machine a.f.number a.f.transfer a.size q)
