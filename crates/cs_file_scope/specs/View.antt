-- What a file declares, as contracts see the types in the code.
use Rattle.std.specs.Prelude.{ℕ, List, map}
use Rattle.indexmap.specs.IndexSet.{IndexSet}
use Rattle.cs_ast.specs.TypedProgram.{file_object, routine}
use Rattle.cs_scopes.specs.declared.scope.Callee.{Callee}
use Rattle.cs_declarations.specs.declared.environment.Environment.{Environment as HeldEnvironment}
use Rattle.cs_declarations.specs.View.{environment_of}
use Rattle.cs_file_scope.specs.declared.filed.Filed.{Filed as HeldFiled}
use Rattle.cs_file_scope.specs.Objects.{Filed, Object}
use Rattle.cs_file_scope.specs.Functions.{Routed}
use Rattle.cs_file_scope.specs.Tags.{Tagging}

abbrev pub filed_of : HeldFiled → Filed
filed_of f = record {
  known = environment_of f.known;
  globals = map file_object f.globals.items;
  order = f.order.keys;
  routines = map routine f.functions.items;
}

-- a function, and the file that has it
abbrev pub routed_of : Callee → HeldFiled → Routed
routed_of callee f = (callee, filed_of f)

-- an object, and the file that has it
abbrev pub object_of : ℕ → HeldFiled → Object
object_of number f = record { number = number; filed = filed_of f }

-- the tags that were named so far
abbrev pub tagging_of : {S : Type 0} → HeldEnvironment → IndexSet (List ℕ) S → Tagging
tagging_of k enums = record { known = environment_of k; enums = enums.keys }
