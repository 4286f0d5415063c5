-- The pieces of the cases before this number are made, and the numbers that take none of these cases remain.
use Rattle.cs_eval.specs.Cases.{AreFirst, AreLeft}
use Rattle.cs_eval.proofs.cases.select.Given as goal

abbrev pub invariant-loop-number : goal.invariant-loop-number
invariant-loop-number l = record { left : AreLeft l.cases l.number l.left; first : AreFirst l.constraints l.term l.cases l.number l.pieces.items }
