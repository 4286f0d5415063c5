use Rattle.std.proofs.Common.{take}
use Rattle.cs_state.specs.Naming.{naming}
use Rattle.cs_suspects.specs.Solved.{AreInputsOf}
use Rattle.cs_suspects.proofs.numbers.inputs_of.Given as goal

abbrev pub invariant-loop-place : goal.invariant-loop-place
invariant-loop-place l = AreInputsOf l.state.constraints (take l.place (naming l.tables).syms) l.inputs
