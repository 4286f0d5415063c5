-- Samples of guesses, used and not used.
use Rattle.std.proofs.Common.{pos, [], ◌∷◌, Some, true, false, refl}
use Rattle.cs_types.specs.declared.int_type.IntType.TheVariants.{Long}
use Rattle.cs_types.specs.Shape.{integer}
use Rattle.cs_ast.specs.declared.typed.operator.BinOp.TheVariants.{Sub, Mul, Div}
use Rattle.cs_ast.specs.declared.typed.operator.CmpOp.TheVariants.{Less, Equal}
use Rattle.cs_ast.specs.declared.typed.operator.Order.TheVariants.{PointerFirst}
use Rattle.cs_ast.specs.declared.typed.operator.Direction.TheVariants.{Forward}
use Rattle.cs_ast.specs.TypedTree.{Of, Null, Binary, Compare, Sum, Block, If, Return}
use Rattle.cs_ast.specs.TypedProgram.{TypedProgram}
use Rattle.cs_model.specs.declared.kind.Kind.TheVariants as kind
use Rattle.cs_events.specs.declared.event.Label.TheVariants.{Truth, Branch, Wrap, Look}
use Rattle.cs_events.specs.declared.event.Wrap.TheVariants.{Same, Guessed}
use Rattle.cs_events.specs.declared.outcome.Outcome.TheVariants.{Done, Fault}
use Rattle.cs_events.specs.declared.outcome.Returned.TheVariants as returned
use Rattle.cs_events.specs.Runs as runs
use Rattle.cs_meaning.specs.ProgramRuns.{RunEnds}
use Rattle.cs_meaning.proofs.Building.{at, int, to_int, literal, value, sequence, named, defined, functions, given, event, guess, USUAL, ends_so}

-- int f(int x,int y){if(x<y){if(y<x)return 1/0;}return 0;}
abbrev contradicts : TypedProgram
contradicts = functions (defined 5 int 2 (named 120 int ∷ (named 121 int ∷ [])) 56 (
    If (at 20) (Of (at 24) int (Compare Less (value 23 int 0) (value 25 int 1))) (Block (at 27) (sequence (
    If (at 28) (Of (at 32) int (Compare Less (value 31 int 1) (value 33 int 0)))
    (Return (at 35) (Some (Of (at 43) int (Binary Div (literal 42 1) (literal 44 0))))) ∷ []))) ∷ (
    Return (at 47) (Some (literal 54 0)) ∷ [])) ∷ [])

-- both comparisons are guessed to hold
two_guesses_are_used : RunEnds contradicts 0 (record { inputs = []; guesses = guess 1 (pos 1) ∷ (guess 3 (pos 1) ∷ []) }) USUAL
    (event 24 (Truth true) ∷ event 20 (Branch true) ∷ event 32 (Truth true) ∷ event 28 (Branch true) ∷ []) (Fault kind.Divide (at 43))
unfolding runs.perform
two_guesses_are_used = ends_so contradicts 0 (record { inputs = []; guesses = guess 1 (pos 1) ∷ (guess 3 (pos 1) ∷ []) }) USUAL 60 refl

-- the test's event can't be guessed, and a guess that is neither 0 nor 1 isn't used for a comparison
a_test_has_no_guess : RunEnds contradicts 0 (record { inputs = []; guesses = guess 1 (pos 2) ∷ (guess 2 (pos 1) ∷ []) }) USUAL
    (event 24 (Truth false) ∷ event 20 (Branch false) ∷ []) (Done (returned.Number (pos 0)))
unfolding runs.perform
a_test_has_no_guess = ends_so contradicts 0 (record { inputs = []; guesses = guess 1 (pos 2) ∷ (guess 2 (pos 1) ∷ []) }) USUAL 60 refl

-- int f(int x,int y){if(x*y==7)return 1/(x-1);return 0;}
abbrev multiplies : TypedProgram
multiplies = functions (defined 5 int 2 (named 120 int ∷ (named 121 int ∷ [])) 55 (
    If (at 20) (Of (at 26) int (Compare Equal (Of (at 24) int (Binary Mul (value 23 int 0) (value 25 int 1))) (literal 28 7)))
    (Return (at 30) (Some (Of (at 38) int (Binary Div (literal 37 1) (Of (at 41) int (Binary Sub (value 40 int 0) (literal 42 1))))))) ∷ (
    Return (at 46) (Some (literal 53 0)) ∷ [])) ∷ [])

a_product_is_guessed : RunEnds multiplies 0 (record { inputs = given 120 (pos 1) ∷ []; guesses = guess 1 (pos 7) ∷ [] }) USUAL
    (event 24 (Wrap Guessed) ∷ event 26 (Truth true) ∷ event 20 (Branch true) ∷ event 41 (Wrap Same) ∷ []) (Fault kind.Divide (at 38))
unfolding runs.perform
a_product_is_guessed = ends_so multiplies 0 (record { inputs = given 120 (pos 1) ∷ []; guesses = guess 1 (pos 7) ∷ [] }) USUAL 60 refl

-- of two guesses at one event the first counts, even if it can't be used
the_first_of_two_counts : RunEnds multiplies 0 (record { inputs = given 120 (pos 1) ∷ []; guesses = guess 1 (pos 4294967296) ∷ (guess 1 (pos 7) ∷ []) })
    USUAL (event 24 (Wrap Same) ∷ event 26 (Truth false) ∷ event 20 (Branch false) ∷ []) (Done (returned.Number (pos 0)))
unfolding runs.perform
the_first_of_two_counts = ends_so multiplies 0 (record { inputs = given 120 (pos 1) ∷ []; guesses = guess 1 (pos 4294967296) ∷ (guess 1 (pos 7) ∷ []) })
    USUAL 60 refl

-- int f(int*p){return p==0;}
abbrev compares_null : TypedProgram
compares_null =
    functions (defined 5 int 1 (named 112 to_int ∷ []) 26
    (Return (at 14) (Some (Of (at 22) int (Compare Equal (value 21 to_int 0) (Of (at 24) to_int Null)))) ∷ []) ∷ [])

-- an equality that the objects decide can't be guessed
no_guess_at_null : RunEnds compares_null 0 (record { inputs = given 112 (pos 1) ∷ []; guesses = guess 3 (pos 1) ∷ [] }) USUAL
    (event 22 (Look true) ∷ event 22 (Look false) ∷ event 22 (Truth false) ∷ []) (Done (returned.Number (pos 0)))
unfolding runs.perform
no_guess_at_null = ends_so compares_null 0 (record { inputs = given 112 (pos 1) ∷ []; guesses = guess 3 (pos 1) ∷ [] }) USUAL 40 refl

-- int f(int*p,long n){return p+n==p;}
abbrev moves_by : TypedProgram
moves_by =
    functions (defined 5 int 2 (named 112 to_int ∷ (named 110 (integer Long) ∷ [])) 35
    (Return (at 21)
    (Some (Of (at 31) int (Compare Equal (Of (at 29) to_int (Sum (value 28 to_int 0) (value 30 (integer Long) 1) Forward PointerFirst)) (value 33 to_int 0))))
    ∷ []) ∷ [])

-- a pointer that leaves the range of offsets
leaves_the_bounds : RunEnds moves_by 0 (record { inputs = given 110 (pos 1125899906842624) ∷ (given 112 (pos 1) ∷ []); guesses = [] }) USUAL
    (event 29 (Look true) ∷ event 29 (Truth true) ∷ event 29 (Truth false) ∷ []) (Fault kind.Bounds (at 29))
unfolding runs.perform
leaves_the_bounds = ends_so moves_by 0 (record { inputs = given 110 (pos 1125899906842624) ∷ (given 112 (pos 1) ∷ []); guesses = [] }) USUAL 40 refl

-- after a guessed order test the sum's own result is 0
a_guess_leads_past_the_bounds :
    RunEnds moves_by 0 (record { inputs = given 110 (pos 1125899906842624) ∷ (given 112 (pos 1) ∷ []); guesses = guess 3 (pos 1) ∷ [] }) USUAL
    (event 29 (Look true) ∷ event 29 (Truth true) ∷ event 29 (Truth true) ∷ event 29 (Wrap Same) ∷ event 31 (Look true) ∷ event 31 (Look true)
    ∷ event 31 (Truth true) ∷ []) (Done (returned.Number (pos 1)))
unfolding runs.perform
a_guess_leads_past_the_bounds =
    ends_so moves_by 0 (record { inputs = given 110 (pos 1125899906842624) ∷ (given 112 (pos 1) ∷ []); guesses = guess 3 (pos 1) ∷ [] }) USUAL 40 refl
