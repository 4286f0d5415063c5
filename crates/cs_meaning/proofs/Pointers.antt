-- Samples of objects, pointers and accesses.
use Rattle.std.proofs.Common.{ℕ, pos, List, [], ◌∷◌, ◌++◌, Some, None, true, false, refl}
use Rattle.cs_types.specs.declared.int_type.IntType.TheVariants.{Int, Char, Long}
use Rattle.cs_types.specs.Shape.{Shape, integer, pointer, array}
use Rattle.cs_ast.specs.declared.typed.operator.BinOp.TheVariants.{Add}
use Rattle.cs_ast.specs.declared.typed.operator.CmpOp.TheVariants.{Less, Equal}
use Rattle.cs_ast.specs.declared.typed.operator.Direction.TheVariants.{Forward}
use Rattle.cs_ast.specs.declared.typed.operator.Order.TheVariants.{PointerFirst}
use Rattle.cs_ast.specs.declared.typed.operator.Gives.TheVariants.{Old}
use Rattle.cs_ast.specs.TypedTree.{Typed, Of, Text, Index, Through, Address, Decay, Convert, Compare, Sum, Difference, Assign, Update, Value, Declare, Run, If}
use Rattle.cs_ast.specs.TypedTree.{For, Return}
use Rattle.cs_ast.specs.TypedProgram.{TypedProgram}
use Rattle.cs_model.specs.declared.kind.Kind.TheVariants as kind
use Rattle.cs_events.specs.declared.event.Event.{Event}
use Rattle.cs_events.specs.declared.event.Label.TheVariants.{Truth, Branch, Wrap, Look, Offset}
use Rattle.cs_events.specs.declared.event.Wrap.TheVariants.{Same}
use Rattle.cs_events.specs.declared.outcome.Outcome.TheVariants.{Done, Fault, Over}
use Rattle.cs_events.specs.declared.outcome.Budget.TheVariants.{Visits}
use Rattle.cs_events.specs.declared.outcome.Returned.TheVariants as returned
use Rattle.cs_events.specs.Runs as runs
use Rattle.cs_meaning.specs.ProgramRuns.{RunEnds}
use Rattle.cs_meaning.proofs.Building.{at, int, to_int, literal, local, loaded, value, sequence, named, defined, functions, given, event, USUAL, plain, ends_so}

-- int f(int n){int a[N];int i;for(i=0;i<n;i++)a[i]=0;return a[0];}
abbrev ints : ℕ → Shape
ints count = array int count

abbrev element : ℕ → ℕ → ℕ → Typed → Typed
element column count name number = Of (at column) int (Index (Of (at name) to_int (Decay (local name (ints count) 1))) number PointerFirst)

abbrev clears : ℕ → TypedProgram
clears count = functions (defined 5 int 1 (named 110 int ∷ (named 97 (ints count) ∷ (named 105 int ∷ []))) 64 (
    Declare (at 18) 1 None ∷ (Declare (at 27) 2 None ∷ (
    For (at 29) (sequence (Run (at 33) (Of (at 34) int (Assign (local 33 int 2) (literal 35 0))) ∷ []))
    (Some (Of (at 38) int (Compare Less (value 37 int 2) (value 39 int 0))))
    (Some (Of (at 42) int (Update Add (local 41 int 2) (literal 42 1) Int Old)))
    (Run (at 45) (Of (at 49) int (Assign (element 46 count 45 (value 47 int 2)) (literal 50 0)))) ∷ (
    Return (at 52) (Some (loaded (element 60 count 59 (literal 61 0)))) ∷ [])))) ∷ [])

-- the events of one iteration of the loop
abbrev round : ℕ → List Event
round offset =
    event 38 (Truth true) ∷ event 29 (Branch true) ∷ event 46 (Look true) ∷ event 46 (Truth true) ∷ event 46 (Truth true) ∷ event 46 (Wrap Same)
    ∷ event 46 (Look true) ∷ event 46 (Truth true) ∷ event 46 (Truth true) ∷ event 46 (Offset offset) ∷ event 42 (Wrap Same) ∷ []

-- a store after the last element is out of bounds: the second of the two order tests fails
stores_after : RunEnds (clears 3) 0 (plain (given 110 (pos 4) ∷ [])) USUAL
    (round 0 ++ round 4 ++ round 8 ++ event 38 (Truth true) ∷ event 29 (Branch true) ∷ event 46 (Look true) ∷ event 46 (Truth true)
    ∷ event 46 (Truth true) ∷ event 46 (Wrap Same) ∷ event 46 (Look true) ∷ event 46 (Truth true) ∷ event 46 (Truth false)
    ∷ []) (Fault kind.Bounds (at 46))
unfolding runs.perform
stores_after = ends_so (clears 3) 0 (plain (given 110 (pos 4) ∷ [])) USUAL 200 refl

-- an element that was never set
reads_unset : RunEnds (clears 3) 0 (plain []) USUAL
    (event 38 (Truth false) ∷ event 29 (Branch false) ∷ event 60 (Look true) ∷ event 60 (Truth true) ∷ event 60 (Truth true) ∷ event 60 (Wrap Same)
    ∷ event 60 (Look true) ∷ event 60 (Truth true) ∷ event 60 (Truth true) ∷ event 60 (Offset 0) ∷ []) (Fault kind.Unset (at 60))
unfolding runs.perform
reads_unset = ends_so (clears 3) 0 (plain []) USUAL 100 refl

-- a fifth visit of a loop head, with a budget of four
turns_too_often : RunEnds (clears 9) 0 (plain (given 110 (pos 4) ∷ [])) USUAL (round 0 ++ round 4 ++ round 8 ++ round 12) (Over Visits (at 29))
unfolding runs.perform
turns_too_often = ends_so (clears 9) 0 (plain (given 110 (pos 4) ∷ [])) USUAL 200 refl

-- int f(void){int a[4];int*p=a+4;if(p==a)return 1;return *p;}
abbrev following : TypedProgram
following = functions (defined 5 int 0 (named 97 (ints 4) ∷ (named 112 to_int ∷ [])) 60 (
    Declare (at 17) 0 None ∷ (
    Declare (at 27) 1 (Some (Value (Of (at 29) to_int (Sum (Of (at 28) to_int (Decay (local 28 (ints 4) 0))) (literal 30 4) Forward PointerFirst)))) ∷ (
    If (at 32) (Of (at 36) int (Compare Equal (value 35 to_int 1) (Of (at 38) to_int (Decay (local 38 (ints 4) 0))))) (Return (at 40) (Some (literal 47 1)))
    ∷ (
    Return (at 49) (Some (loaded (Of (at 56) int (Through (value 57 to_int 1))))) ∷ [])))) ∷ [])

-- a pointer to the end of an array may be computed and compared, but not dereferenced
follows_past_end : RunEnds following 0 (plain []) USUAL
    (event 29 (Look true) ∷ event 29 (Truth true) ∷ event 29 (Truth true) ∷ event 29 (Wrap Same) ∷ event 36 (Look true) ∷ event 36 (Look true)
    ∷ event 36 (Truth false) ∷ event 32 (Branch false) ∷ event 56 (Look true) ∷ event 56 (Truth true) ∷ event 56 (Truth false)
    ∷ []) (Fault kind.Bounds (at 56))
unfolding runs.perform
follows_past_end = ends_so following 0 (plain []) USUAL 60 refl

-- long f(void){int a;int b;return &a-&b;}
abbrev apart : TypedProgram
apart = functions (defined 6 (integer Long) 0 (named 97 int ∷ (named 98 int ∷ [])) 39 (
    Declare (at 18) 0 None ∷ (Declare (at 24) 1 None ∷ (
    Return (at 26) (Some (Of (at 35) (integer Long) (Difference (Of (at 33) to_int (Address (local 34 int 0))) (Of (at 36) to_int (Address (local 37 int 1))))))
    ∷ []))) ∷ [])

subtracts_unrelated : RunEnds apart 0 (plain []) USUAL (event 35 (Look true) ∷ event 35 (Look true) ∷ []) (Fault kind.Unrelated (at 35))
unfolding runs.perform
subtracts_unrelated = ends_so apart 0 (plain []) USUAL 30 refl

-- int f(int*p,int*q){return p<q;}, with both null or neither
abbrev orders : TypedProgram
orders = functions (defined 5 int 2 (named 112 to_int ∷ (named 113 to_int ∷ [])) 31 (
    Return (at 20) (Some (Of (at 28) int (Compare Less (value 27 to_int 0) (value 29 to_int 1)))) ∷ []) ∷ [])

orders_unrelated : RunEnds orders 0 (plain (given 112 (pos 1) ∷ (given 113 (pos 1) ∷ []))) USUAL (event 28 (Look true) ∷ event 28 (Look true) ∷ [])
    (Fault kind.Unrelated (at 28))
unfolding runs.perform
orders_unrelated = ends_so orders 0 (plain (given 112 (pos 1) ∷ (given 113 (pos 1) ∷ []))) USUAL 30 refl

orders_nulls : RunEnds orders 0 (plain []) USUAL (event 28 (Look false) ∷ event 28 (Look false) ∷ event 28 (Truth false) ∷ [])
    (Done (returned.Number (pos 0)))
unfolding runs.perform
orders_nulls = ends_so orders 0 (plain []) USUAL 30 refl

-- void f(void){char*s="ab";s[0]='x';}
abbrev chars : Shape
chars = pointer (integer Char)

abbrev writes_literal : TypedProgram
writes_literal = record (functions (defined 6 int 0 (named 115 chars ∷ []) 35 (
    Declare (at 20) 0 (Some (Value (Of (at 21) chars (Decay (Of (at 21) (array (integer Char) 3) (Text 0)))))) ∷ (
    Run (at 26)
    (Of (at 30) (integer Char) (Assign (Of (at 27) (integer Char) (Index (value 26 chars 0) (literal 28 0) PointerFirst))
    (Of (at 30) (integer Char) (Convert (literal 31 120))))) ∷ [])) ∷ [])) { literals = (97 ∷ (98 ∷ [])) ∷ [] }

-- a store to a string literal is a fault, after the bounds are checked
writes_const : RunEnds writes_literal 0 (plain []) USUAL
    (event 27 (Look true) ∷ event 27 (Truth true) ∷ event 27 (Truth true) ∷ event 27 (Wrap Same) ∷ event 30 (Wrap Same) ∷ event 27 (Look true)
    ∷ event 27 (Truth true) ∷ event 27 (Truth true) ∷ event 27 (Offset 0) ∷ []) (Fault kind.ConstWrite (at 27))
unfolding runs.perform
writes_const = ends_so writes_literal 0 (plain []) USUAL 60 refl
