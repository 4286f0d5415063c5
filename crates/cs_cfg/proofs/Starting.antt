-- The next control point where a statement is executed follows from where it is placed. For the control points of placed code.
use Rattle.std.proofs.Common.{ℕ, zero, suc, ◌+◌, List, [], ◌∷◌, Option, Some, None, refl, subst}
use Rattle.cs_ast.specs.declared.place.Place.{Place}
use Rattle.cs_ast.specs.TypedTree.{Typed, Initial, Value, Parts, Bytes, Statement, Block, Declare, Run, If, IfElse, While, Do, For, Switch, Goto, Label, Break}
use Rattle.cs_ast.specs.TypedTree.{Continue, Return, Statements, Empty, Then}
use Rattle.cs_ast.specs.TypedProgram.{TypedProgram, Routine}
use Rattle.cs_events.specs.declared.point.PointKind.TheVariants as point
use Rattle.cs_meaning.specs.Initials.{Piece, Evaluated, Spelled, pieces}
use Rattle.cs_meaning.specs.Machine.{body_of}
use Rattle.cs_meaning.specs.CountedPoints.{counted_points}
use Rattle.cs_meaning.specs.Jumps.{landing}
use Rattle.cs_cfg.specs.Graph as graph
use Rattle.cs_cfg.specs.Graph.{Work, Point, Flow, block_of}
use Rattle.cs_cfg.specs.ControlPoints.{Next, met, first_initial, first_some, Targets, for_test, at_label, starts, starts_in, starts_from, in_loop, in_switch}
use Rattle.cs_cfg.specs.GraphPoints.{MeetsNext}
use Rattle.cs_cfg.specs.Executing.{type_in, leaving, last_at, for_test_at, stores_at, declares_at, returns_at, goes_to, executes_at, all_at, from_at}
use Rattle.cs_cfg.specs.PiecePoints.{first_pieces}
use Rattle.cs_cfg.proofs.Pieces.{first_same}
use Rattle.cs_cfg.proofs.Meeting.{joins_meet, does_meets, point_meets, split_meets, switch_meets, same_meets, meets, used_meets}

module _ (program : TypedProgram) (flow : Flow) (routine : Routine) (labels : ℕ → Point) where
  -- the pieces of an initializer
  pub stores_meet : (list : List Piece) (at : Place) (declaration : ℕ) (p q : Point) {next : Next}
      → stores_at program flow routine labels at declaration list p q → MeetsNext flow q next →
      MeetsNext flow p (first_pieces list next)
  stores_meet [] at declaration p q it m = same_meets it m
  stores_meet (Evaluated offset e ∷ others) at declaration p q it m =
      used_meets program flow e 0 p _ it.1 (does_meets at 0 _ it.0 refl (stores_meet others at declaration it.0 q it.2 m))
  stores_meet (Spelled offset bytes ∷ others) at declaration p q it m =
      same_meets it.1 (does_meets at 0 _ it.0 refl (stores_meet others at declaration it.0 q it.2 m))

  initial_meets : (initial : Initial) (at : Place) (declaration : ℕ) (p q : Point) {next : Next}
      → stores_at program flow routine labels at declaration (pieces program (type_in routine declaration) 0 initial) p q →
      MeetsNext flow q next → MeetsNext flow p (first_initial initial next)
  initial_meets initial at declaration p q {next = next} it m =
      let ty = type_in routine declaration in
      subst (MeetsNext flow p) (first_same program initial ty 0 next) (stores_meet (pieces program ty 0 initial) at declaration p q it m)

  -- a declaration
  pub declares_meet : (at : Place) (declaration : ℕ) (initial : Initial) (p q : Point) {next : Next}
      → declares_at program flow routine labels at declaration (Some initial) p q →
      MeetsNext flow q next → MeetsNext flow p (first_initial initial next)
  declares_meet at declaration (Value e) p q it m = used_meets program flow e 0 p _ it (does_meets at 0 _ q refl m)
  declares_meet at declaration (Parts parts) p q it m =
      same_meets it.1 (does_meets at 0 (graph.Zero declaration) it.0 refl (initial_meets (Parts parts) at declaration it.0 q it.2 m))
  declares_meet at declaration (Bytes bytes) p q it m =
      same_meets it.1 (does_meets at 0 (graph.Zero declaration) it.0 refl (initial_meets (Bytes bytes) at declaration it.0 q it.2 m))

  -- the test of a `for`, if it has one, and the body
  pub for_test_meets : (at : Place) (test : Option Typed) (p inside q : Point) {next : Next} → for_test_at program flow at test p inside q
      → MeetsNext flow inside next → MeetsNext flow p (for_test at test next)
  for_test_meets at None p inside q it m = same_meets it.0 m
  for_test_meets at (Some test) p inside q it m = used_meets program flow test 0 p _ it.2 (split_meets at 0 it.0 it.1)

  -- the last part of a `for`
  pub last_meets : (last : Option Typed) (p head : Point) {next : Next} → last_at program flow last p head → MeetsNext flow head next
      → MeetsNext flow p (first_some last next)
  last_meets None p head way m = joins_meet way m
  last_meets (Some e) p head it m = used_meets program flow e 0 p _ it.2 (does_meets it.0 0 graph.Drop it.1 refl (joins_meet it.3 m))

  -- a `return`
  pub returns_meet : (at : Place) (value : Option Typed) (p : Point) → returns_at program flow routine labels at value p
      → MeetsNext flow p (first_some value (met point.Return at))
  returns_meet at None p it = same_meets it (does_meets at 0 graph.Nothing _ refl (point_meets at 1 (graph.Meet point.Return) leaving refl))
  returns_meet at (Some e) p it = used_meets program flow e 0 p _ it (point_meets at 1 (graph.Meet point.Return) leaving refl)

  -- the next control points where jumps lead are those of the targets
  pub record Aims (to : Targets) (out again : Point) : Type 0 where
    pub out_meets : MeetsNext flow out to.out
    pub again_meets : MeetsNext flow again to.again
    pub labels_meet : (label : ℕ) (p q : Point) (following : Next)
        → goes_to program flow routine labels (landing label (body_of routine) 0 []) (labels label) p q →
        MeetsNext flow q following → MeetsNext flow p (at_label (to.labels label) following)

  -- in a loop, and in a `switch`
  pub aims_in_loop : {to : Targets} {out again : Point} (out' again' : Point) {out_next again_next : Next} → Aims to out again
      → MeetsNext flow out' out_next → MeetsNext flow again' again_next → Aims (in_loop to out_next again_next) out' again'
  aims_in_loop out' again' aims m m' = record { out_meets = m; again_meets = m'; labels_meet = aims.labels_meet }

  pub aims_in_switch : {to : Targets} {out again : Point} (out' : Point) {out_next : Next} → Aims to out again → MeetsNext flow out' out_next
      → Aims (in_switch to out_next) out' again
  aims_in_switch out' aims m = record { out_meets = m; again_meets = aims.again_meets; labels_meet = aims.labels_meet }

  mutual
    -- a statement
    pub starts_meet : (s : Statement) {to : Targets} (counted_point : ℕ) (out again p q : Point) {next : Next} → Aims to out again
        → executes_at program flow routine labels s counted_point out again p q →
        MeetsNext flow q next → MeetsNext flow p (starts to s next)
    starts_meet (Block at statements) counted_point out again p q aims it m = all_start statements counted_point out again p q aims it m
    starts_meet (Declare at declaration None) counted_point out again p q aims it m = same_meets it (does_meets at 0 _ q refl m)
    starts_meet (Declare at declaration (Some initial)) counted_point out again p q aims it m = declares_meet at declaration initial p q it m
    starts_meet (Run at e) counted_point out again p q aims it m = meets program flow e 0 p _ it (does_meets at 0 graph.Drop q refl m)
    starts_meet (If at test body) counted_point out again p q aims it m = used_meets program flow test 0 p _ it.2 (split_meets at 0 it.0 it.1)
    starts_meet (IfElse at test body other) counted_point out again p q aims it m = used_meets program flow test 0 p _ it.2 (split_meets at 0 it.0 it.1)
    starts_meet (While at test body) counted_point out again p q aims it m =
        joins_meet it.1 (same_meets it.2.1 (point_meets at 0 (graph.Reach point.Head counted_point) it.2.0 refl))
    starts_meet (Do at body test) counted_point out again p q aims it m =
        joins_meet it.2 (same_meets it.3.1 (point_meets at 0 (graph.Reach point.Head counted_point) it.3.0 refl))
    starts_meet (For at beginning test last body) counted_point out again p q aims it m =
        all_start beginning (counted_point + 1) q again p it.0 (aims_in_switch q aims m) it.2
        (same_meets it.3.2 (point_meets at 0 (graph.Reach point.Head counted_point) it.3.0 refl))
    starts_meet (Switch at value cases statements) counted_point out again p q aims it m = used_meets program flow value 0 p _ it.3 (switch_meets at it.0 it.1)
    starts_meet (Goto at label) counted_point out again p q {next = next} aims it m = aims.labels_meet label p q next it m
    starts_meet (Label at label body) counted_point out again p q aims it m =
        joins_meet it.2 (same_meets it.3 (point_meets at 0 (graph.Reach point.Label counted_point) it.1 refl))
    starts_meet (Break at) counted_point out again p q aims it m = joins_meet it.0 aims.out_meets
    starts_meet (Continue at) counted_point out again p q aims it m = joins_meet it.0 aims.again_meets
    starts_meet (Return at value) counted_point out again p q aims it m = returns_meet at value p it.0

    -- statements one after another
    pub all_start : (statements : Statements) {to : Targets} (counted_point : ℕ) (out again p q : Point) {next : Next} → Aims to out again
        → all_at program flow routine labels statements counted_point out again p q →
        MeetsNext flow q next → MeetsNext flow p (starts_in to statements next)
    all_start Empty counted_point out again p q aims it m = joins_meet it m
    all_start (Then one others) counted_point out again p q aims it m =
        starts_meet one counted_point out again p it.1.0 aims it.1.1
        (joins_meet it.1.2 (all_start others (counted_point + counted_points one) out again it.0 q aims it.2 m))

  -- from the statement with a number on
  pub from_start : (number : ℕ) (statements : Statements) {to : Targets} (counted_point : ℕ) (out again p q : Point) {next : Next} → Aims to out again
      → from_at program flow routine labels number statements counted_point out again p q →
      MeetsNext flow q next → MeetsNext flow p (starts_from to number statements next)
  from_start number Empty counted_point out again p q aims it m = joins_meet it m
  from_start zero (Then one others) counted_point out again p q aims it m = all_start (Then one others) counted_point out again p q aims it m
  from_start (suc number) (Then one others) counted_point out again p q aims it m =
      from_start number others (counted_point + counted_points one) out again p q aims it m
