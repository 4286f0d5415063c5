use Rattle.cs_cells.proofs.cells.read.Goals as goal

pub returns-in-Known-clause-local : goal.returns-in-Known-clause-local
returns-in-Known-clause-local c = λ names frame count extends local unfilled.
    let known = c.in_ok-value.ensures.local names frame count extends local unfilled in
    (cc, known.1)

-- a local isn't an input
pub returns-in_ok-read_cell-in-Received-clause-local : goal.returns-in_ok-read_cell-in-Received-clause-local
returns-in_ok-read_cell-in-Received-clause-local c = λ names frame count extends local unfilled.
    let known = c.in_ok-value.ensures.local names frame count extends local unfilled in
    absurd (cc)
