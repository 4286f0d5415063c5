use Rattle.std.proofs.Common.{refl}
use Rattle.cs_cells.proofs.cells.look_up.Goals as goal

pub returns-in-Here-clause-local : goal.returns-in-Here-clause-local
returns-in-Here-clause-local c = λ names frame count extends local unfilled.
    let here = c.in_ok-found.ensures names frame count extends local unfilled in
    (cc, refl)

-- a local doesn't have static values
pub returns-in_ok-static_value-in-First-clause-local : goal.returns-in_ok-static_value-in-First-clause-local
returns-in_ok-static_value-in-First-clause-local c = λ names frame count extends local unfilled.
    let here = c.in_ok-found.ensures names frame count extends local unfilled in
    absurd (cc)

pub returns-in-Some-clause-local : goal.returns-in-Some-clause-local
returns-in-Some-clause-local c = λ names frame count extends local unfilled.
    let here = c.in_ok-found.ensures names frame count extends local unfilled in
    absurd (cc)

pub returns-in-None-clause-local : goal.returns-in-None-clause-local
returns-in-None-clause-local c = λ names frame count extends local unfilled.
    let here = c.in_ok-found.ensures names frame count extends local unfilled in
    absurd (cc)
