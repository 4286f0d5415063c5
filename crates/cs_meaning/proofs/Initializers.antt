-- Samples of initializers, parameters with bounds, and file-scope objects.
use Rattle.std.proofs.Common.{ℕ, Bool, ◌+◌, ℤ, pos, negsuc, List, [], ◌∷◌, Some, None, true, false, refl}
use Rattle.cs_types.specs.declared.int_type.IntType.TheVariants.{Int, Char}
use Rattle.cs_types.specs.Shape.{Shape, void, integer, pointer, array, struct}
use Rattle.cs_types.specs.declared.structs.StructType.{StructType}
use Rattle.cs_inputs.specs.declared.path.Root.TheVariants as root
use Rattle.cs_ast.specs.declared.typed.operator.BinOp.TheVariants.{Add}
use Rattle.cs_ast.specs.declared.typed.operator.Order.TheVariants.{PointerFirst}
use Rattle.cs_ast.specs.TypedTree.{Typed, Of, Global, Index, Member, Decay, Convert, Binary, Assign, Value, Parts, Bytes, NoPart, Part, Declare, Run, Return}
use Rattle.cs_ast.specs.TypedProgram.{TypedProgram}
use Rattle.cs_model.specs.declared.kind.Kind.TheVariants as kind
use Rattle.cs_events.specs.declared.event.Label.TheVariants.{Truth, Wrap, Look, Offset}
use Rattle.cs_events.specs.declared.event.Wrap.TheVariants.{Same}
use Rattle.cs_events.specs.declared.outcome.Outcome.TheVariants.{Done, Fault}
use Rattle.cs_events.specs.declared.outcome.Returned.TheVariants as returned
use Rattle.cs_events.specs.Runs as runs
use Rattle.cs_meaning.specs.ProgramRuns.{ProgramRun, RunEnds}
use Rattle.cs_meaning.proofs.Building.{at, int, to_int, literal, local, loaded, value, named, defined, functions, given, event, USUAL, plain, ends_so}

-- int f(int p[3],int i){return p[i];}, where the block after p has three elements
abbrev reads_of_three : TypedProgram
reads_of_three = functions (defined 5 int 2 (record { name = 112 ∷ []; ty = to_int; block = Some 3 } ∷ (named 105 int ∷ [])) 35 (
    Return (at 23) (Some (loaded (Of (at 31) int (Index (value 30 to_int 0) (value 32 int 1) PointerFirst)))) ∷ []) ∷ [])

reads_the_last_of_three : RunEnds reads_of_three 0 (plain (given 105 (pos 2) ∷ (given 112 (pos 1) ∷ []))) USUAL
    (event 31 (Look true) ∷ event 31 (Truth true) ∷ event 31 (Truth true) ∷ event 31 (Wrap Same) ∷ event 31 (Look true) ∷ event 31 (Truth true)
    ∷ event 31 (Truth true) ∷ event 31 (Offset 8) ∷ []) (Done (returned.Number (pos 0)))
unfolding runs.perform
reads_the_last_of_three = ends_so reads_of_three 0 (plain (given 105 (pos 2) ∷ (given 112 (pos 1) ∷ []))) USUAL 40 refl

reads_a_fourth_of_three : RunEnds reads_of_three 0 (plain (given 105 (pos 3) ∷ (given 112 (pos 1) ∷ []))) USUAL
    (event 31 (Look true) ∷ event 31 (Truth true) ∷ event 31 (Truth true) ∷ event 31 (Wrap Same) ∷ event 31 (Look true) ∷ event 31 (Truth true)
    ∷ event 31 (Truth false) ∷ []) (Fault kind.Bounds (at 31))
unfolding runs.perform
reads_a_fourth_of_three = ends_so reads_of_three 0 (plain (given 105 (pos 3) ∷ (given 112 (pos 1) ∷ []))) USUAL 40 refl

-- the first order test fails
reads_before_the_first : RunEnds reads_of_three 0 (plain (given 105 (negsuc 0) ∷ (given 112 (pos 1) ∷ []))) USUAL
    (event 31 (Look true) ∷ event 31 (Truth true) ∷ event 31 (Truth true) ∷ event 31 (Wrap Same) ∷ event 31 (Look true) ∷ event 31 (Truth false)
    ∷ []) (Fault kind.Bounds (at 31))
unfolding runs.perform
reads_before_the_first = ends_so reads_of_three 0 (plain (given 105 (negsuc 0) ∷ (given 112 (pos 1) ∷ []))) USUAL 40 refl

-- null moved by 2
moves_null : RunEnds reads_of_three 0 (plain (given 105 (pos 2) ∷ [])) USUAL (event 31 (Look false) ∷ []) (Fault kind.Null (at 31))
unfolding runs.perform
moves_null = ends_so reads_of_three 0 (plain (given 105 (pos 2) ∷ [])) USUAL 40 refl

-- null moved by 0 remains null, and can't be read
leaves_null : RunEnds reads_of_three 0 (plain []) USUAL (event 31 (Look false) ∷ event 31 (Look false) ∷ []) (Fault kind.Null (at 31))
unfolding runs.perform
leaves_null = ends_so reads_of_three 0 (plain []) USUAL 40 refl

-- int f(int i){char s[4]="a\377";return s[i];}
abbrev text_of : List ℕ → TypedProgram
text_of bytes = functions (defined 5 int 1 (named 105 int ∷ (named 115 (array (integer Char) 4) ∷ [])) 52 (
    Declare (at 32) 1 (Some (Bytes bytes)) ∷ (
    Return (at 41)
    (Some
    (Of (at 49) int
    (Convert
    (loaded
    (Of (at 49) (integer Char) (Index (Of (at 48) (pointer (integer Char)) (Decay (local 48 (array (integer Char) 4) 1))) (value 50 int 0)
    PointerFirst)))))) ∷ [])) ∷ [])

-- a byte past 127 is a negative char
reads_a_byte : RunEnds (text_of (97 ∷ (255 ∷ []))) 0 (plain (given 105 (pos 1) ∷ [])) USUAL
    (event 49 (Look true) ∷ event 49 (Truth true) ∷ event 49 (Truth true) ∷ event 49 (Wrap Same) ∷ event 49 (Look true) ∷ event 49 (Truth true)
    ∷ event 49 (Truth true) ∷ event 49 (Offset 1) ∷ []) (Done (returned.Number (negsuc 0)))
unfolding runs.perform
reads_a_byte = ends_so (text_of (97 ∷ (255 ∷ []))) 0 (plain (given 105 (pos 1) ∷ [])) USUAL 40 refl

-- elements after the text are zero
reads_after_the_text : RunEnds (text_of (97 ∷ (255 ∷ []))) 0 (plain (given 105 (pos 2) ∷ [])) USUAL
    (event 49 (Look true) ∷ event 49 (Truth true) ∷ event 49 (Truth true) ∷ event 49 (Wrap Same) ∷ event 49 (Look true) ∷ event 49 (Truth true)
    ∷ event 49 (Truth true) ∷ event 49 (Offset 2) ∷ []) (Done (returned.Number (pos 0)))
unfolding runs.perform
reads_after_the_text = ends_so (text_of (97 ∷ (255 ∷ []))) 0 (plain (given 105 (pos 2) ∷ [])) USUAL 40 refl

-- int f(int i){int a[2][2]={{1,2},{i}};return a[1][0]+a[1][1];}
abbrev int2 : Shape
int2 = array int 2

abbrev nested_part : ℕ → ℕ → Typed
nested_part column number =
    loaded (Of (at (column + 4)) int
    (Index
    (Of (at (column + 1)) to_int
    (Decay (Of (at (column + 1)) int2 (Index (Of (at column) (pointer int2) (Decay (local column (array int2 2) 1))) (literal (column + 2) 1) PointerFirst))))
    (literal (column + 5) number) PointerFirst))

abbrev nested_list : TypedProgram
nested_list = functions (defined 5 int 1 (named 105 int ∷ (named 97 (array int2 2) ∷ [])) 62 (
    Declare (at 25) 1
    (Some
    (Parts (Part (Parts (Part (Value (literal 28 1)) (Part (Value (literal 30 2)) NoPart))) (Part (Parts (Part (Value (value 34 int 0)) NoPart)) NoPart))))
    ∷ (
    Return (at 38) (Some (Of (at 52) int (Binary Add (nested_part 45 0) (nested_part 53 1)))) ∷ [])) ∷ [])

adds_nested_parts : RunEnds nested_list 0 (plain (given 105 (pos 5) ∷ [])) USUAL
    (event 46 (Look true) ∷ event 46 (Truth true) ∷ event 46 (Truth true) ∷ event 46 (Wrap Same) ∷ event 49 (Look true) ∷ event 49 (Truth true)
    ∷ event 49 (Truth true) ∷ event 49 (Wrap Same) ∷ event 49 (Look true) ∷ event 49 (Truth true) ∷ event 49 (Truth true) ∷ event 49 (Offset 8)
    ∷ event 54 (Look true) ∷ event 54 (Truth true) ∷ event 54 (Truth true) ∷ event 54 (Wrap Same) ∷ event 57 (Look true) ∷ event 57 (Truth true)
    ∷ event 57 (Truth true) ∷ event 57 (Wrap Same) ∷ event 57 (Look true) ∷ event 57 (Truth true) ∷ event 57 (Truth true) ∷ event 57 (Offset 12)
    ∷ event 52 (Wrap Same) ∷ []) (Done (returned.Number (pos 5)))
unfolding runs.perform
adds_nested_parts = ends_so nested_list 0 (plain (given 105 (pos 5) ∷ [])) USUAL 80 refl

-- char c;int f(void){return c;}
abbrev reads_global : Bool → TypedProgram
reads_global constant =
    record (functions (defined 12 int 0 [] 29 (Return (at 20) (Some (Of (at 20) int (Convert (loaded (Of (at 27) (integer Char) (Global 0)))))) ∷ [])
    ∷ [])) {
      globals = record { name = 99 ∷ []; at = at 6; ty = integer Char; constant = constant; initial = None } ∷ [];
    }

abbrev cell_of_c : ℤ → ProgramRun
cell_of_c number = plain ((record { root = root.Global (99 ∷ []); cells = 0 ∷ [] }, number) ∷ [])

reads_an_input : RunEnds (reads_global false) 0 (cell_of_c (pos 100)) USUAL [] (Done (returned.Number (pos 100)))
unfolding runs.perform
reads_an_input = ends_so (reads_global false) 0 (cell_of_c (pos 100)) USUAL 30 refl

an_input_that_does_not_fit_is_zero : RunEnds (reads_global false) 0 (cell_of_c (pos 300)) USUAL [] (Done (returned.Number (pos 0)))
unfolding runs.perform
an_input_that_does_not_fit_is_zero = ends_so (reads_global false) 0 (cell_of_c (pos 300)) USUAL 30 refl

a_const_object_has_no_input : RunEnds (reads_global true) 0 (cell_of_c (pos 100)) USUAL [] (Done (returned.Number (pos 0)))
unfolding runs.perform
a_const_object_has_no_input = ends_so (reads_global true) 0 (cell_of_c (pos 100)) USUAL 30 refl

-- const int c=1;void f(void){c=2;}
abbrev writes_const_object : TypedProgram
writes_const_object =
    record (functions (defined 20 void 0 [] 33 (Run (at 28) (Of (at 29) int (Assign (Of (at 28) int (Global 0)) (literal 30 2))) ∷ []) ∷ [])) {
      globals = record { name = 99 ∷ []; at = at 11; ty = int; constant = true; initial = Some (Value (literal 13 1)) } ∷ [];
    }

writes_a_const_object : RunEnds writes_const_object 0 (plain []) USUAL [] (Fault kind.ConstWrite (at 28))
unfolding runs.perform
writes_a_const_object = ends_so writes_const_object 0 (plain []) USUAL 30 refl

-- struct s{int a;int b;};int f(struct s*p){struct s x;x=p[1];return x.b;}
abbrev pair : StructType
pair = record {
  tag = 115 ∷ [];
  members = Some (record { name = 97 ∷ []; ty = integer Int; offset = 0 } ∷ (record { name = 98 ∷ []; ty = integer Int; offset = 4 } ∷ []));
  size = 8;
  align = 4;
}

abbrev copies_second : TypedProgram
copies_second = record (functions (defined 28 int 1 (named 112 (pointer (struct 0)) ∷ (named 120 (struct 0) ∷ [])) 72 (
    Declare (at 51) 1 None ∷ (
    Run (at 53)
    (Of (at 54) (struct 0)
    (Assign (local 53 (struct 0) 1) (loaded (Of (at 56) (struct 0) (Index (value 55 (pointer (struct 0)) 0) (literal 57 1) PointerFirst))))) ∷ (
    Return (at 60) (Some (loaded (Of (at 68) int (Member (local 67 (struct 0) 1) 4)))) ∷ []))) ∷ [])) { table = pair ∷ [] }

reads_a_struct_of_a_start_block : RunEnds copies_second 0
    (plain ((record { root = root.Param (112 ∷ []); cells = 12 ∷ [] }, pos 9) ∷ (given 112 (pos 1) ∷ []))) USUAL
    (event 56 (Look true) ∷ event 56 (Truth true) ∷ event 56 (Truth true) ∷ event 56 (Wrap Same) ∷ event 56 (Look true) ∷ event 56 (Truth true)
    ∷ event 56 (Truth true) ∷ event 56 (Offset 8) ∷ []) (Done (returned.Number (pos 9)))
unfolding runs.perform
reads_a_struct_of_a_start_block =
    ends_so copies_second 0 (plain ((record { root = root.Param (112 ∷ []); cells = 12 ∷ [] }, pos 9) ∷ (given 112 (pos 1) ∷ []))) USUAL 60 refl
