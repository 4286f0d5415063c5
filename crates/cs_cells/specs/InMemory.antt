-- The memory that a state represents.
use Rattle.std.specs.Prelude.{◌∷◌, map}
use Rattle.cs_ast.specs.TypedProgram.{TypedProgram}
use Rattle.cs_terms.specs.Term.{Valuation}
use Rattle.cs_meaning.specs.Memory.{Memory}
use Rattle.cs_state.specs.declared.state.State.{State}
use Rattle.cs_state.specs.Naming.{Naming}
use Rattle.cs_state.specs.Objects.{owner, memory_of}

-- the memory of the run that a state represents under a valuation
abbrev pub memory_in : TypedProgram → Naming → State → Valuation → Memory
memory_in program names state valuation = memory_of program names (map owner (state.frame ∷ state.callers)) state.blocks valuation state.store
