-- Samples of struct members through pointers.
use Rattle.std.proofs.Common.{ℕ, pos, [], ◌∷◌, Some, None, true, false, refl}
use Rattle.cs_types.specs.declared.int_type.IntType.TheVariants.{Int}
use Rattle.cs_types.specs.Shape.{Shape, integer, pointer, struct}
use Rattle.cs_types.specs.declared.structs.StructType.{StructType}
use Rattle.cs_inputs.specs.declared.path.Root.TheVariants as root
use Rattle.cs_ast.specs.declared.typed.operator.CmpOp.TheVariants.{Equal}
use Rattle.cs_ast.specs.TypedTree.{Typed, Of, Null, Member, Arrow, Compare, Assign, Call, Value, Parts, NoPart, Part, Declare, Run, If, Return}
use Rattle.cs_ast.specs.TypedProgram.{TypedProgram}
use Rattle.cs_model.specs.declared.kind.Kind.TheVariants as kind
use Rattle.cs_events.specs.declared.event.Label.TheVariants.{Truth, Branch, Look, Offset, Callee}
use Rattle.cs_events.specs.declared.outcome.Outcome.TheVariants.{Done, Fault}
use Rattle.cs_events.specs.declared.outcome.Returned.TheVariants as returned
use Rattle.cs_events.specs.Runs as runs
use Rattle.cs_meaning.specs.ProgramRuns.{RunEnds}
use Rattle.cs_meaning.proofs.Building.{at, int, literal, local, loaded, value, row, named, defined, declared, functions, given, event, USUAL, plain, ends_so}

-- struct node{int value;struct node*next;};
abbrev node_type : StructType
node_type = record {
  tag = 110 ∷ [];
  members = Some (record { name = 118 ∷ []; ty = integer Int; offset = 0 } ∷ (record { name = 110 ∷ []; ty = pointer (struct 0); offset = 8 } ∷ []));
  size = 16;
  align = 8;
}

abbrev node : Shape
node = struct 0

abbrev to_node : Shape
to_node = pointer (struct 0)

abbrev link : ℕ → Typed → Typed
link column from = Of (at column) to_node (Arrow from 8)

-- int keep(int v);int f(struct node*h){struct node*g;g=h->next;if(keep(g->value))return 0;h->next=g->next;g->next=0;return 1;}
abbrev drops_second : TypedProgram
drops_second = record (functions (
    declared 5 int (named 118 int ∷ []) (false ∷ []) ∷ (
    defined 21 int 1 (named 104 to_node ∷ (named 103 to_node ∷ [])) 126 (
    Declare (at 51) 1 None ∷ (
    Run (at 53) (Of (at 54) to_node (Assign (local 53 to_node 1) (loaded (link 56 (value 55 to_node 0))))) ∷ (
    If (at 63) (Of (at 70) int (Call 0 (row (loaded (Of (at 72) int (Arrow (value 71 to_node 1) 0)) ∷ [])))) (Return (at 81) (Some (literal 88 0))) ∷ (
    Run (at 90) (Of (at 97) to_node (Assign (link 91 (value 90 to_node 0)) (loaded (link 99 (value 98 to_node 1))))) ∷ (
    Run (at 106) (Of (at 113) to_node (Assign (link 107 (value 106 to_node 1)) (Of (at 114) to_node Null))) ∷ (
    Return (at 116) (Some (literal 123 1)) ∷ [])))))) ∷ []))) { table = node_type ∷ [] }

-- int f(void){struct node n={5};return n.next==0;}
abbrev leaves_next_out : TypedProgram
leaves_next_out = record (functions (defined 5 int 0 (named 110 node ∷ []) 60 (
    Declare (at 27) 0 (Some (Parts (Part (Value (literal 29 5)) NoPart))) ∷ (
    Return (at 32) (Some (Of (at 45) int (Compare Equal (loaded (Of (at 40) to_node (Member (local 39 node 0) 8))) (Of (at 47) to_node Null)))) ∷ []))
    ∷ [])) { table = node_type ∷ [] }

head_is_null : RunEnds drops_second 1 (plain []) USUAL (event 56 (Look false) ∷ []) (Fault kind.Null (at 56))
unfolding runs.perform
head_is_null = ends_so drops_second 1 (plain []) USUAL 60 refl

-- the second node of the list is null unless an input says otherwise
second_is_null : RunEnds drops_second 1 (plain (given 104 (pos 1) ∷ [])) USUAL
    (event 56 (Look true) ∷ event 56 (Look true) ∷ event 56 (Truth true) ∷ event 56 (Truth true) ∷ event 56 (Offset 8) ∷ event 72 (Look false) ∷ [])
    (Fault kind.Null (at 72))
unfolding runs.perform
second_is_null = ends_so drops_second 1 (plain (given 104 (pos 1) ∷ [])) USUAL 80 refl

second_is_dropped : RunEnds drops_second 1 (plain ((record { root = root.Param (104 ∷ []); cells = 8 ∷ [] }, pos 1) ∷ (given 104 (pos 1) ∷ []))) USUAL
    (event 56 (Look true) ∷ event 56 (Look true) ∷ event 56 (Truth true) ∷ event 56 (Truth true) ∷ event 56 (Offset 8) ∷ event 72 (Look true)
    ∷ event 72 (Look true) ∷ event 72 (Truth true) ∷ event 72 (Truth true) ∷ event 72 (Offset 0) ∷ event 70 (Callee 0) ∷ event 63 (Branch false)
    ∷ event 91 (Look true) ∷ event 99 (Look true) ∷ event 99 (Look true) ∷ event 99 (Truth true) ∷ event 99 (Truth true) ∷ event 99 (Offset 8)
    ∷ event 91 (Look true) ∷ event 91 (Truth true) ∷ event 91 (Truth true) ∷ event 91 (Offset 8) ∷ event 107 (Look true) ∷ event 107 (Look true)
    ∷ event 107 (Truth true) ∷ event 107 (Truth true) ∷ event 107 (Offset 8) ∷ []) (Done (returned.Number (pos 1)))
unfolding runs.perform
second_is_dropped = ends_so drops_second 1 (plain ((record { root = root.Param (104 ∷ []); cells = 8 ∷ [] }, pos 1) ∷ (given 104 (pos 1) ∷ []))) USUAL
    160 refl

a_member_unsupported_is_null : RunEnds leaves_next_out 0 (plain []) USUAL (event 45 (Look false) ∷ event 45 (Look false) ∷ event 45 (Truth true) ∷ [])
    (Done (returned.Number (pos 1)))
unfolding runs.perform
a_member_unsupported_is_null = ends_so leaves_next_out 0 (plain []) USUAL 40 refl
