-- Samples of what a run touches and reads.
use Rattle.std.proofs.Common.{◌≡◌, List, [], ◌∷◌, Option, Some, None, false, refl}
use Rattle.cs_inputs.specs.declared.path.Root.TheVariants as root
use Rattle.cs_ast.specs.declared.typed.operator.BinOp.TheVariants.{Add}
use Rattle.cs_ast.specs.declared.typed.operator.CmpOp.TheVariants.{Less, Differs}
use Rattle.cs_ast.specs.declared.typed.operator.Gives.TheVariants.{Old}
use Rattle.cs_types.specs.declared.int_type.IntType.TheVariants.{Int}
use Rattle.cs_ast.specs.TypedTree.{Of, Global, Compare, Assign, Update, Value, Declare, Run, If, For, Return}
use Rattle.cs_ast.specs.TypedProgram.{TypedProgram}
use Rattle.cs_events.specs.declared.point.PointKind.TheVariants.{Enter, Head, Branch, Return as Returning}
use Rattle.cs_events.specs.declared.input.InputKind.TheVariants.{Integer}
use Rattle.cs_events.specs.declared.input.Lookup.{Lookup}
use Rattle.cs_events.specs.Touches.{Touch, Meets, Loads, Stores, Clears}
use Rattle.cs_events.specs.Runs as runs
use Rattle.cs_events.specs.Runs.{Performed, Continues, Finishes}
use Rattle.cs_meaning.specs.Machine.{State}
use Rattle.cs_meaning.proofs.Building.{at, int, literal, local, loaded, value, sequence, named, defined, functions, USUAL, plain, come_to}

-- the touches of a run that has ended, and the paths that it has read
abbrev touched : Performed State → Option (List Touch × List Lookup)
touched (Continues m log) = None
touched (Finishes outcome log) = Some (log.touches, log.read)

-- int f(int x){int a=1;a=2;if(x!=x)return 3;return a;}
abbrev stores_dead : TypedProgram
stores_dead = functions (defined 5 int 1 (named 120 int ∷ (named 97 int ∷ [])) 52 (
    Declare (at 19) 1 (Some (Value (literal 20 1))) ∷ (
    Run (at 22) (Of (at 23) int (Assign (local 22 int 1) (literal 24 2))) ∷ (
    If (at 26) (Of (at 30) int (Compare Differs (value 29 int 0) (value 32 int 0))) (Return (at 34) (Some (literal 41 3))) ∷ (
    Return (at 43) (Some (value 50 int 1)) ∷ [])))) ∷ [])

-- the store of an initializer has the position of its `=`; a `return` is visited after its value; passing an argument doesn't touch the parameter
touches_locals : touched (come_to stores_dead 0 (plain []) USUAL 60) ≡ Some (
  Meets Enter (at 5)
      ∷ (Stores 0 1 (at 19)
      ∷ (Stores 0 1 (at 23)
      ∷ (Loads 0 0 (at 29) ∷ (Loads 0 0 (at 32) ∷ (Meets Branch (at 26) ∷ (Loads 0 1 (at 50) ∷ (Meets Returning (at 43) ∷ []))))))),
  [],
)
unfolding runs.perform
touches_locals = refl

-- int g;int f(void){int i;for(i=g;i<1;)i++;return i;}
abbrev turns_once : TypedProgram
turns_once = record (functions (defined 11 int 0 (named 105 int ∷ []) 51 (
    Declare (at 23) 0 None ∷ (
    For (at 25) (sequence (Run (at 29) (Of (at 30) int (Assign (local 29 int 0) (loaded (Of (at 31) int (Global 0))))) ∷ []))
    (Some (Of (at 34) int (Compare Less (value 33 int 0) (literal 35 1)))) None
    (Run (at 38) (Of (at 39) int (Update Add (local 38 int 0) (literal 39 1) Int Old))) ∷ (
    Return (at 42) (Some (value 49 int 0)) ∷ []))) ∷ [])) {
      globals = record { name = 103 ∷ []; at = at 5; ty = int; constant = false; initial = None } ∷ [];
    }

-- a head is visited before each test; an update loads and stores; a file-scope object is read, and not touched
touches_turns : touched (come_to turns_once 0 (plain []) USUAL 80) ≡ Some (
  Meets Enter (at 11)
      ∷ (Clears 0 0 (at 23)
      ∷ (Stores 0 0 (at 30)
      ∷ (Meets Head (at 25)
      ∷ (Loads 0 0 (at 33)
      ∷ (Meets Branch (at 25)
      ∷ (Loads 0 0 (at 38)
      ∷ (Stores 0 0 (at 39)
      ∷ (Meets Head (at 25) ∷ (Loads 0 0 (at 33) ∷ (Meets Branch (at 25) ∷ (Loads 0 0 (at 49) ∷ (Meets Returning (at 42) ∷ [])))))))))))),
  record { path = record { root = root.Global (103 ∷ []); cells = 0 ∷ [] }; kind = Integer Int } ∷ [],
)
unfolding runs.perform
touches_turns = refl
