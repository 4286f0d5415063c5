-- Samples of arithmetic.
use Rattle.std.proofs.Common.{pos, negsuc, [], ◌∷◌, true, Some, refl}
use Rattle.cs_types.specs.declared.int_type.IntType.TheVariants.{Int, UChar}
use Rattle.cs_types.specs.Shape.{integer}
use Rattle.cs_ast.specs.declared.typed.operator.BinOp.TheVariants.{Sub, Mul, Div, Shl}
use Rattle.cs_ast.specs.declared.typed.operator.UnOp.TheVariants.{Negate, Complement}
use Rattle.cs_ast.specs.declared.typed.operator.CmpOp.TheVariants.{Equal}
use Rattle.cs_ast.specs.declared.typed.operator.Gives.TheVariants.{Old}
use Rattle.cs_ast.specs.TypedTree.{Of, Binary, Unary, Compare, Update, Return}
use Rattle.cs_ast.specs.TypedProgram.{TypedProgram}
use Rattle.cs_model.specs.declared.kind.Kind.TheVariants.{Divide, Shift}
use Rattle.cs_events.specs.declared.event.Label.TheVariants.{Truth, Wrap}
use Rattle.cs_events.specs.declared.event.Wrap.TheVariants.{Under, Same, Past, Far}
use Rattle.cs_events.specs.declared.outcome.Outcome.TheVariants.{Done, Fault}
use Rattle.cs_events.specs.declared.outcome.Returned.TheVariants.{Number}
use Rattle.cs_events.specs.Runs as runs
use Rattle.cs_meaning.specs.ProgramRuns.{RunEnds}
use Rattle.cs_meaning.proofs.Building.{at, int, literal, local, value, named, defined, functions, given, event, USUAL, plain, ends_so}

-- int f(int x){return 10/x;}
abbrev divides : TypedProgram
divides =
    functions (defined 5 int 1 (named 120 int ∷ []) 26 (Return (at 14) (Some (Of (at 23) int (Binary Div (literal 21 10) (value 24 int 0)))) ∷ []) ∷ [])

-- a division by 0 is a fault, and has no event
divides_by_zero : RunEnds divides 0 (plain []) USUAL [] (Fault Divide (at 23))
unfolding runs.perform
divides_by_zero = ends_so divides 0 (plain []) USUAL 20 refl

divides_by_three : RunEnds divides 0 (plain (given 120 (pos 3) ∷ [])) USUAL (event 23 (Wrap Same) ∷ []) (Done (Number (pos 3)))
unfolding runs.perform
divides_by_three = ends_so divides 0 (plain (given 120 (pos 3) ∷ [])) USUAL 20 refl

-- int f(int x){return x/-1;}, where the result for the least number wraps once
abbrev turns_round : TypedProgram
turns_round =
    functions (defined 5 int 1 (named 120 int ∷ []) 26
    (Return (at 14) (Some (Of (at 22) int (Binary Div (value 21 int 0) (Of (at 23) int (Unary Complement (literal 24 0)))))) ∷ []) ∷ [])

least_by_minus_one : RunEnds turns_round 0 (plain (given 120 (negsuc 2147483647) ∷ [])) USUAL (event 23 (Wrap Same) ∷ event 22 (Wrap Past) ∷ [])
    (Done (Number (negsuc 2147483647)))
unfolding runs.perform
least_by_minus_one = ends_so turns_round 0 (plain (given 120 (negsuc 2147483647) ∷ [])) USUAL 20 refl

-- int f(int x){return 1<<x;}
abbrev shifts : TypedProgram
shifts =
    functions (defined 5 int 1 (named 120 int ∷ []) 26 (Return (at 14) (Some (Of (at 22) int (Binary Shl (literal 21 1) (value 24 int 0)))) ∷ []) ∷ [])

shifts_by_minus_one : RunEnds shifts 0 (plain (given 120 (negsuc 0) ∷ [])) USUAL [] (Fault Shift (at 22))
unfolding runs.perform
shifts_by_minus_one = ends_so shifts 0 (plain (given 120 (negsuc 0) ∷ [])) USUAL 20 refl

shifts_by_width : RunEnds shifts 0 (plain (given 120 (pos 32) ∷ [])) USUAL [] (Fault Shift (at 22))
unfolding runs.perform
shifts_by_width = ends_so shifts 0 (plain (given 120 (pos 32) ∷ [])) USUAL 20 refl

shifts_into_sign : RunEnds shifts 0 (plain (given 120 (pos 31) ∷ [])) USUAL (event 22 (Wrap Past) ∷ []) (Done (Number (negsuc 2147483647)))
unfolding runs.perform
shifts_into_sign = ends_so shifts 0 (plain (given 120 (pos 31) ∷ [])) USUAL 20 refl

-- unsigned char f(unsigned char x){return x--;}, which returns the value before, and -1 doesn't fit the type
abbrev steps_down : TypedProgram
steps_down =
    functions (defined 15 (integer UChar) 1 (named 120 (integer UChar) ∷ []) 46
    (Return (at 34) (Some (Of (at 42) (integer UChar) (Update Sub (local 41 (integer UChar) 0) (literal 42 1) Int Old))) ∷ []) ∷ [])

steps_below_zero : RunEnds steps_down 0 (plain []) USUAL (event 42 (Wrap Same) ∷ event 42 (Wrap Under) ∷ []) (Done (Number (pos 0)))
unfolding runs.perform
steps_below_zero = ends_so steps_down 0 (plain []) USUAL 20 refl

-- int f(int x){return -x==x;}, which holds for the least number after one wrap
abbrev equals_its_negative : TypedProgram
equals_its_negative =
    functions (defined 5 int 1 (named 120 int ∷ []) 27
    (Return (at 14) (Some (Of (at 23) int (Compare Equal (Of (at 21) int (Unary Negate (value 22 int 0))) (value 25 int 0)))) ∷ []) ∷ [])

least_equals_its_negative : RunEnds equals_its_negative 0 (plain (given 120 (negsuc 2147483647) ∷ [])) USUAL
    (event 21 (Wrap Past) ∷ event 23 (Truth true) ∷ []) (Done (Number (pos 1)))
unfolding runs.perform
least_equals_its_negative = ends_so equals_its_negative 0 (plain (given 120 (negsuc 2147483647) ∷ [])) USUAL 20 refl

-- int f(int x){return x*x;}, whose exact result can be far out of range
abbrev squares : TypedProgram
squares =
    functions (defined 5 int 1 (named 120 int ∷ []) 24 (Return (at 14) (Some (Of (at 22) int (Binary Mul (value 21 int 0) (value 23 int 0)))) ∷ []) ∷ [])

squares_far : RunEnds squares 0 (plain (given 120 (pos 1000003) ∷ [])) USUAL (event 22 (Wrap Far) ∷ []) (Done (Number (negsuc 721379958)))
unfolding runs.perform
squares_far = ends_so squares 0 (plain (given 120 (pos 1000003) ∷ [])) USUAL 20 refl
