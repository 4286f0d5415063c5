-- Samples of evaluation: what is evaluated, in which order, and what is inspected.
use Rattle.std.proofs.Common.{ℕ, ℤ, pos, [], ◌∷◌, Some, None, true, false, refl}
use Rattle.cs_types.specs.Shape.{void}
use Rattle.cs_inputs.specs.declared.path.Path.{Path}
use Rattle.cs_inputs.specs.declared.path.Root.TheVariants as root
use Rattle.cs_ast.specs.declared.typed.operator.BinOp.TheVariants.{Add, Sub}
use Rattle.cs_ast.specs.declared.typed.operator.CmpOp.TheVariants.{Differs}
use Rattle.cs_ast.specs.declared.typed.operator.Order.TheVariants.{PointerFirst}
use Rattle.cs_ast.specs.declared.typed.operator.Direction.TheVariants.{Forward}
use Rattle.cs_ast.specs.declared.typed.operator.Gives.TheVariants.{Old}
use Rattle.cs_ast.specs.TypedTree.{Typed, Of, Index, Through, Address, Convert, Binary, Compare, Sum, And, Comma, Move, For, Assign, Call, Free, Statement}
use Rattle.cs_ast.specs.TypedTree.{Block, Declare, Run, While, Switch, Goto, Label, Break, Continue, Return}
use Rattle.cs_ast.specs.TypedProgram.{TypedProgram}
use Rattle.cs_model.specs.declared.kind.Kind.TheVariants as kind
use Rattle.cs_events.specs.declared.event.Label.TheVariants.{Truth, Branch, Case as CaseOf, Wrap, Look, Offset, Callee}
use Rattle.cs_events.specs.declared.event.Wrap.TheVariants.{Same}
use Rattle.cs_events.specs.declared.outcome.Outcome.TheVariants.{Done, Fault, Over}
use Rattle.cs_events.specs.declared.outcome.Budget.TheVariants.{Visits}
use Rattle.cs_events.specs.declared.outcome.Returned.TheVariants as returned
use Rattle.cs_types.specs.declared.data_model.DataModel.TheVariants.{Ilp32}
use Rattle.cs_events.specs.Runs as runs
use Rattle.cs_meaning.specs.ProgramRuns.{RunEnds}
use Rattle.cs_meaning.proofs.Building.{at, int, to_int, literal, local, loaded, value, row, sequence, named, defined, declared, functions, given, input, event}
use Rattle.cs_meaning.proofs.Building.{USUAL, plain, ends_so}

-- int f(int*p,int*q){return p&&q;}
abbrev both : TypedProgram
both =
    functions (defined 5 int 2 (named 112 to_int ∷ (named 113 to_int ∷ [])) 32
    (Return (at 20) (Some (Of (at 28) int (And (value 27 to_int 0) (value 30 to_int 1)))) ∷ []) ∷ [])

-- the right operand isn't evaluated, and has no events
a_left_part_is_false : RunEnds both 0 (plain []) USUAL (event 28 (Look false) ∷ event 28 (Branch false) ∷ []) (Done (returned.Number (pos 0)))
unfolding runs.perform
a_left_part_is_false = ends_so both 0 (plain []) USUAL 30 refl

a_right_part_is_a_truth : RunEnds both 0 (plain (given 112 (pos 1) ∷ (given 113 (pos 1) ∷ []))) USUAL
    (event 28 (Look true) ∷ event 28 (Branch true) ∷ event 28 (Look true) ∷ event 28 (Truth true) ∷ []) (Done (returned.Number (pos 1)))
unfolding runs.perform
a_right_part_is_a_truth = ends_so both 0 (plain (given 112 (pos 1) ∷ (given 113 (pos 1) ∷ []))) USUAL 30 refl

-- int g(void){} and a function with a call of it
abbrev calls_unset : Statement → TypedProgram
calls_unset s = functions (defined 5 int 0 [] 13 [] ∷ (defined 19 void 0 [] 40 (s ∷ []) ∷ []))

abbrev called : ℕ → Typed
called column = Of (at column) int (Call 0 (row []))

-- an expression statement doesn't use the result
drops_a_result : RunEnds (calls_unset (Run (at 30) (called 31))) 1 (plain []) USUAL (event 31 (Callee 0) ∷ []) (Done returned.Nothing)
unfolding runs.perform
drops_a_result = ends_so (calls_unset (Run (at 30) (called 31))) 1 (plain []) USUAL 30 refl

makes_a_result_void : RunEnds (calls_unset (Run (at 30) (Of (at 30) void (Convert (called 31))))) 1 (plain []) USUAL (event 31 (Callee 0) ∷ [])
    (Done returned.Nothing)
unfolding runs.perform
makes_a_result_void = ends_so (calls_unset (Run (at 30) (Of (at 30) void (Convert (called 31))))) 1 (plain []) USUAL 30 refl

a_left_part_of_a_comma : RunEnds (calls_unset (Run (at 30) (Of (at 34) int (Comma (called 31) (literal 35 1))))) 1 (plain []) USUAL (event 31 (Callee 0) ∷ [])
    (Done returned.Nothing)
unfolding runs.perform
a_left_part_of_a_comma = ends_so (calls_unset (Run (at 30) (Of (at 34) int (Comma (called 31) (literal 35 1))))) 1 (plain []) USUAL 30 refl

-- the value of the right operand is that of the comma
a_right_part_of_a_comma : RunEnds (calls_unset (Run (at 30) (Of (at 34) int (Comma (literal 30 1) (called 31))))) 1 (plain []) USUAL
    (event 31 (Callee 0) ∷ []) (Fault kind.Unset (at 31))
unfolding runs.perform
a_right_part_of_a_comma = ends_so (calls_unset (Run (at 30) (Of (at 34) int (Comma (literal 30 1) (called 31))))) 1 (plain []) USUAL 30 refl

-- int f(int*p){return *p++ + *p;}, where the left operand moves the pointer
abbrev steps_on : TypedProgram
steps_on = functions (defined 5 int 1 (named 112 to_int ∷ []) 31 (Return (at 14) (Some (Of (at 26) int (Binary Add
    (loaded (Of (at 21) int (Through (Of (at 23) to_int (Move (local 22 to_int 0) (literal 23 1) Forward Old)))))
    (loaded (Of (at 28) int (Through (value 29 to_int 0))))))) ∷ []) ∷ [])

the_old_pointer_first :
    RunEnds steps_on 0
    (plain ((record { root = root.Param (112 ∷ []); cells = 0 ∷ [] }, pos 20)
    ∷ ((record { root = root.Param (112 ∷ []); cells = 4 ∷ [] }, pos 3) ∷ (given 112 (pos 1) ∷ [])))) USUAL
    (event 23 (Look true) ∷ event 23 (Truth true) ∷ event 23 (Truth true) ∷ event 23 (Wrap Same) ∷ event 21 (Look true) ∷ event 21 (Truth true)
    ∷ event 21 (Truth true) ∷ event 21 (Offset 0) ∷ event 28 (Look true) ∷ event 28 (Truth true) ∷ event 28 (Truth true) ∷ event 28 (Offset 4)
    ∷ event 26 (Wrap Same) ∷ []) (Done (returned.Number (pos 23)))
unfolding runs.perform
the_old_pointer_first =
    ends_so steps_on 0
    (plain ((record { root = root.Param (112 ∷ []); cells = 0 ∷ [] }, pos 20)
    ∷ ((record { root = root.Param (112 ∷ []); cells = 4 ∷ [] }, pos 3) ∷ (given 112 (pos 1) ∷ [])))) USUAL 60 refl

-- int ext(int*p,int*q);int f(void){int a;return ext(&a,&a)+a;}
abbrev writes_twice : TypedProgram
writes_twice = functions (
    declared 5 int (named 112 to_int ∷ (named 113 to_int ∷ [])) (true ∷ (true ∷ [])) ∷ (
    defined 27 int 0 (named 97 int ∷ []) 63 (
    Declare (at 39) 0 None ∷ (
    Return (at 41)
    (Some
    (Of (at 58) int
    (Binary Add (Of (at 51) int (Call 0 (row (Of (at 52) to_int (Address (local 53 int 0)) ∷ (Of (at 55) to_int (Address (local 56 int 0)) ∷ [])))))
    (value 59 int 0)))) ∷ [])) ∷ []))

abbrev wrote : ℕ → ℤ → Path × ℤ
wrote argument number = (record { root = root.Wrote 1 argument; cells = 0 ∷ [] }, number)

-- if two arguments point to one object, the later one's value remains
the_later_argument_holds : RunEnds writes_twice 1 (plain (input (root.Call 1) (pos 10) ∷ (wrote 0 (pos 5) ∷ (wrote 1 (pos 7) ∷ [])))) USUAL
    (event 51 (Callee 0) ∷ event 51 (Look true) ∷ event 51 (Look true) ∷ event 58 (Wrap Same) ∷ []) (Done (returned.Number (pos 17)))
unfolding runs.perform
the_later_argument_holds = ends_so writes_twice 1 (plain (input (root.Call 1) (pos 10) ∷ (wrote 0 (pos 5) ∷ (wrote 1 (pos 7) ∷ [])))) USUAL 60 refl

-- void f(int*p){free(p+1);}
abbrev frees_inside : TypedProgram
frees_inside =
    functions (defined 6 void 1 (named 112 to_int ∷ []) 25
    (Run (at 15) (Of (at 19) void (Free (Of (at 21) to_int (Sum (value 20 to_int 0) (literal 22 1) Forward PointerFirst)))) ∷ []) ∷ [])

frees_after_the_beginning : RunEnds frees_inside 0 (plain (given 112 (pos 1) ∷ [])) USUAL
    (event 21 (Look true) ∷ event 21 (Truth true) ∷ event 21 (Truth true) ∷ event 21 (Wrap Same) ∷ event 19 (Look true) ∷ [])
    (Fault kind.BadFree (at 19))
unfolding runs.perform
frees_after_the_beginning = ends_so frees_inside 0 (plain (given 112 (pos 1) ∷ [])) USUAL 30 refl

-- int f(int n){for(;;){switch(n){case 0:break;default:n=0;continue;}break;}return n;}
abbrev leaves_a_switch : TypedProgram
leaves_a_switch = functions (defined 5 int 1 (named 110 int ∷ []) 83 (
    For (at 14) (sequence []) None None (Block (at 22) (sequence (
    Switch (at 23) (value 30 int 0) (record { value = Some (pos 0); item = 0 } ∷ (record { value = None; item = 1 } ∷ []))
    (sequence (Break (at 40) ∷ (Run (at 54) (Of (at 55) int (Assign (local 54 int 0) (literal 56 0))) ∷ (Continue (at 58) ∷ [])))) ∷ (
    Break (at 68) ∷ [])))) ∷ (
    Return (at 75) (Some (value 82 int 0)) ∷ [])) ∷ [])

-- a `break` leaves the nearest switch, a `continue` continues the loop
breaks_out_of_a_switch_and_continues_a_loop :
    RunEnds leaves_a_switch 0 (plain (given 110 (pos 5) ∷ [])) USUAL (event 23 (CaseOf 1) ∷ event 23 (CaseOf 0) ∷ []) (Done (returned.Number (pos 0)))
unfolding runs.perform
breaks_out_of_a_switch_and_continues_a_loop = ends_so leaves_a_switch 0 (plain (given 110 (pos 5) ∷ [])) USUAL 80 refl

-- int f(int n){goto in;while(n){n=n+1;in:n=n-1;}return n;}, which jumps into a loop
abbrev jumps_in : TypedProgram
jumps_in = functions (defined 5 int 1 (named 110 int ∷ []) 57 (
    Goto (at 14) 0 ∷ (
    While (at 22) (value 28 int 0) (Block (at 30) (sequence (
    Run (at 31) (Of (at 32) int (Assign (local 31 int 0) (Of (at 34) int (Binary Add (value 33 int 0) (literal 35 1))))) ∷ (
    Label (at 37) 0 (Run (at 40) (Of (at 41) int (Assign (local 40 int 0) (Of (at 43) int (Binary Sub (value 42 int 0) (literal 44 1)))))) ∷ [])))) ∷ (
    Return (at 48) (Some (value 55 int 0)) ∷ []))) ∷ [])

-- the loop continues after the label
lands_in_a_loop : RunEnds jumps_in 0 (plain (given 110 (pos 1) ∷ [])) USUAL (event 43 (Wrap Same) ∷ event 22 (Branch false) ∷ [])
    (Done (returned.Number (pos 0)))
unfolding runs.perform
lands_in_a_loop = ends_so jumps_in 0 (plain (given 110 (pos 1) ∷ [])) USUAL 80 refl

-- the label is reached for the fifth time before the head is
turns_and_labels_are_counted_apart : RunEnds jumps_in 0 (plain (given 110 (pos 9) ∷ [])) USUAL
    (event 43 (Wrap Same) ∷ event 22 (Branch true) ∷ event 34 (Wrap Same) ∷ event 43 (Wrap Same) ∷ event 22 (Branch true) ∷ event 34 (Wrap Same)
    ∷ event 43 (Wrap Same) ∷ event 22 (Branch true) ∷ event 34 (Wrap Same) ∷ event 43 (Wrap Same) ∷ event 22 (Branch true) ∷ event 34 (Wrap Same)
    ∷ []) (Over Visits (at 37))
unfolding runs.perform
turns_and_labels_are_counted_apart = ends_so jumps_in 0 (plain (given 110 (pos 9) ∷ [])) USUAL 200 refl

-- int f(int*p,int n){return p[n]!=0;} with the smaller data model
abbrev small : TypedProgram
small = record (functions (defined 5 int 2 (named 112 to_int ∷ (named 110 int ∷ [])) 38 (
    Return (at 20) (Some (Of (at 31) int (Compare Differs (loaded (Of (at 28) int (Index (value 27 to_int 0) (value 29 int 1) PointerFirst))) (literal 33 0))))
    ∷ []) ∷ [])) { model = Ilp32 }

-- there a start block of `int`s has 2^20 elements
reads_the_last_of_a_small_start_block : RunEnds small 0 (plain (given 110 (pos 1048575) ∷ (given 112 (pos 1) ∷ []))) USUAL
    (event 28 (Look true) ∷ event 28 (Truth true) ∷ event 28 (Truth true) ∷ event 28 (Wrap Same) ∷ event 28 (Look true) ∷ event 28 (Truth true)
    ∷ event 28 (Truth true) ∷ event 28 (Offset 4194300) ∷ event 31 (Truth false) ∷ []) (Done (returned.Number (pos 0)))
unfolding runs.perform
reads_the_last_of_a_small_start_block = ends_so small 0 (plain (given 110 (pos 1048575) ∷ (given 112 (pos 1) ∷ []))) USUAL 40 refl

-- and a pointer may move by 2^29 bytes
leaves_the_smaller_bounds : RunEnds small 0 (plain (given 110 (pos 134217729) ∷ (given 112 (pos 1) ∷ []))) USUAL
    (event 28 (Look true) ∷ event 28 (Truth true) ∷ event 28 (Truth false) ∷ []) (Fault kind.Bounds (at 28))
unfolding runs.perform
leaves_the_smaller_bounds = ends_so small 0 (plain (given 110 (pos 134217729) ∷ (given 112 (pos 1) ∷ []))) USUAL 40 refl
