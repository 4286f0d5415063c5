-- When the code at a point executes a statement and then continues at a point. No temporary is in use at either.
use Rattle.std.specs.Prelude.{◌≡◌, ℤ, ℕ, zero, suc, ◌+◌, ⊤, List, [], ◌∷◌, Option, Some, None, unwrap_or, option_map, slice_get}
use Rattle.cs_types.specs.Shape.{Shape, void}
use Rattle.cs_ast.specs.declared.place.Place.{Place}
use Rattle.cs_ast.specs.declared.typed.statement.Case.{Case}
use Rattle.cs_ast.specs.TypedTree.{Typed, Initial, Value, Parts, Bytes, Statement, Block, Declare, Run, If, IfElse, While, Do, For, Switch, Goto, Label, Break}
use Rattle.cs_ast.specs.TypedTree.{Continue, Return, Statements, Empty, Then, count_of}
use Rattle.cs_ast.specs.TypedProgram.{TypedProgram, Routine, Variable}
use Rattle.cs_events.specs.declared.point.PointKind.TheVariants as point
use Rattle.cs_meaning.specs.Types.{type_of, is_scalar}
use Rattle.cs_meaning.specs.Initials.{Piece, Evaluated, Spelled, pieces}
use Rattle.cs_meaning.specs.Machine.{body_of}
use Rattle.cs_meaning.specs.CountedPoints.{counted_points, counted_points_in}
use Rattle.cs_meaning.specs.Jumps.{Landing, landing}
use Rattle.cs_meaning.specs.Statements.{default_item}
use Rattle.cs_cfg.specs.Graph as graph
use Rattle.cs_cfg.specs.Graph.{SwitchCase, Point, Flow, block_of}
use Rattle.cs_cfg.specs.Placing.{does, split, Joins, evaluates, used}

-- the type of a local of a function
abbrev pub type_in : Routine → ℕ → Shape
type_in routine declaration = unwrap_or (option_map (λ (v : Variable). v.ty) (slice_get routine.variables declaration)) void

-- the frame returns temporary 0
abbrev pub leaving : Point
leaving = record { operations = []; end = graph.Return 0 }

-- the frame returns an unset value
abbrev pub finishing : Point
finishing = record { operations = []; end = graph.Finish }

-- a statement in the code, as a relation of the points to which `break` and `continue` lead, its own point, and the one after it
abbrev pub Part : Type 1
Part = Point → Point → Point → Point → Type 0

module _ (program : TypedProgram) (flow : Flow) where
  -- only jumps lead from the block with a number to a point
  abbrev pub falls_to : ℕ → Point → Type 0
  falls_to block q = Joins program flow (block_of flow block) q

  -- unreachable code is in the graph too: the point is a block, or jumps to one
  abbrev pub IsKept : Point → Type 0
  IsKept q = (block : ℕ) × Joins program flow q (block_of flow block)

  -- a part, and then jumps to a point
  abbrev pub part_to : Part → Point → Point → Point → Point → Type 0
  part_to part out again p q = (v : Point) × part out again p v × Joins program flow v q

  -- a test, and what is at the beginning of its two branches
  abbrev pub tests_at : Place → Typed → Point → (Point → Point → Type 0) → Type 0
  tests_at at test p Ways = (one other : ℕ) × used program flow test 0 p (split at 0 one other) × Ways (block_of flow one) (block_of flow other)

  -- a `while` with this head, and with a point after it (C11 6.8.5.1)
  abbrev pub while_loop : Place → Typed → ℕ → Part → Point → Point → Type 0
  while_loop at test counted_point body head q =
      (r : Point) × (head ≡ does at 0 (graph.Reach point.Head counted_point) r)
      × tests_at at test r (λ one other. part_to body q head one head × Joins program flow other q)

  -- a `do` with this head, and with this point after its body (C11 6.8.5.2)
  abbrev pub do_loop : Place → Typed → ℕ → Part → Point → Point → Point → Type 0
  do_loop at test counted_point body head again q =
      (r : Point) × (head ≡ does at 0 (graph.Reach point.Head counted_point) r) × part_to body q again r again
      × tests_at at test again (λ one other. Joins program flow one head × Joins program flow other q)

  -- the last part of a `for`, which continues at its head
  abbrev pub last_at : Option Typed → Point → Point → Type 0
  last_at None p head = Joins program flow p head
  last_at (Some e) p head = (at : Place) × (w : Point) × used program flow e 0 p (does at 0 graph.Drop w) × Joins program flow w head

  -- the test of a `for`, if it has one, before its body
  abbrev pub for_test_at : Place → Option Typed → Point → Point → Point → Type 0
  for_test_at at None r body q = (r ≡ body) × IsKept q
  for_test_at at (Some test) r body q = tests_at at test r (λ one other. (one ≡ body) × Joins program flow other q)

  -- a `for` with this head, and with this point after its body (C11 6.8.5.3)
  abbrev pub for_loop : Place → Option Typed → Option Typed → ℕ → Part → Point → Point → Point → Type 0
  for_loop at test last counted_point body head again q =
      (r inside : Point) × (head ≡ does at 0 (graph.Reach point.Head counted_point) r) × for_test_at at test r inside q
      × part_to body q again inside again × last_at last again head

  module _ (routine : Routine) (labels : ℕ → Point) where
    -- the pieces of an initializer, stored one after another
    abbrev pub stores_at : Place → ℕ → List Piece → Point → Point → Type 0
    stores_at at declaration [] p q = p ≡ q
    stores_at at declaration (Evaluated offset e ∷ others) p q =
        (r : Point) × used program flow e 0 p (does at 0 (graph.StoreLocal declaration offset (type_of e) (is_scalar (type_in routine declaration))) r)
        × stores_at at declaration others r q
    stores_at at declaration (Spelled offset bytes ∷ others) p q =
        (r : Point) × (p ≡ does at 0 (graph.Spell declaration offset bytes) r) × stores_at at declaration others r q

    -- a declaration (C11 6.7.9)
    abbrev pub declares_at : Place → ℕ → Option Initial → Point → Point → Type 0
    declares_at at declaration None p q = p ≡ does at 0 (graph.Clear declaration (is_scalar (type_in routine declaration))) q
    declares_at at declaration (Some (Value e)) p q =
        used program flow e 0 p (does at 0 (graph.StoreLocal declaration 0 (type_of e) (is_scalar (type_in routine declaration))) q)
    declares_at at declaration (Some (Parts parts)) p q =
        (r : Point) × (p ≡ does at 0 (graph.Zero declaration) r)
        × stores_at at declaration (pieces program (type_in routine declaration) 0 (Parts parts)) r q
    declares_at at declaration (Some (Bytes bytes)) p q =
        (r : Point) × (p ≡ does at 0 (graph.Zero declaration) r)
        × stores_at at declaration (pieces program (type_in routine declaration) 0 (Bytes bytes)) r q

    -- a `return` (C11 6.8.6.4)
    abbrev pub returns_at : Place → Option Typed → Point → Type 0
    returns_at at None p = p ≡ does at 0 graph.Nothing (does at 1 (graph.Meet point.Return) leaving)
    returns_at at (Some e) p = used program flow e 0 p (does at 1 (graph.Meet point.Return) leaving)

    -- the cases of a `switch` with a value lead to the entries of their statements
    abbrev pub case_leads : (ℕ → Point) → Option ℤ → ℕ → List SwitchCase → (List SwitchCase → Type 0) → Type 0
    case_leads entries None item cases Others = Others cases
    case_leads entries (Some value) item [] Others = ⊥
    case_leads entries (Some value) item (one ∷ cases) Others = (one.value ≡ value) × (block_of flow one.block ≡ entries item) × Others cases

    abbrev pub cases_lead : (ℕ → Point) → List Case → List SwitchCase → Type 0
    cases_lead entries [] cases = cases ≡ []
    cases_lead entries (one ∷ others) cases = case_leads entries one.value one.item cases (cases_lead entries others)

    -- a `goto` leads to its label; if there is no such label, to the next statement (C11 6.8.6.1)
    abbrev pub goes_to : Option Landing → Point → Point → Point → Type 0
    goes_to None label p q = Joins program flow p q
    goes_to (Some landing) label p q = Joins program flow p label × IsKept q

    -- a label with a counted point is the point to which its `goto`s lead, if it is the first of its name
    abbrev pub is_led_to : Option Landing → ℕ → Point → Point → Type 0
    is_led_to None counted_point label head = ⊤
    is_led_to (Some landing) counted_point label head = landing.counted_point ≡ counted_point → label ≡ head

    abbrev mutual
      -- the point executes a statement, whose first counted point has this number, and then the graph continues at `q`; `break` and
      -- `continue` lead to `out` and `again`. The first part of a `for` is in the loop for `break`, but outside of it for `continue`
      pub executes_at : Statement → ℕ → Point → Point → Point → Point → Type 0
      executes_at (Block at statements) counted_point out again p q = all_at statements counted_point out again p q
      executes_at (Declare at declaration initial) counted_point out again p q = declares_at at declaration initial p q
      executes_at (Run at e) counted_point out again p q = evaluates program flow e 0 p (does at 0 graph.Drop q)
      executes_at (If at test body) counted_point out again p q =
          tests_at at test p (λ one other. part_to (λ o a x y. executes_at body counted_point o a x y) out again one q × Joins program flow other q)
      executes_at (IfElse at test body following) counted_point out again p q =
          tests_at at test p (λ one other.
          part_to (λ o a x y. executes_at body counted_point o a x y) out again one q
          × part_to (λ o a x y. executes_at following (counted_point + counted_points body) o a x y) out again other q)
      executes_at (While at test body) counted_point out again p q =
          (head : Point) × Joins program flow p head × while_loop at test counted_point (λ o a x y. executes_at body (counted_point + 1) o a x y) head q
      executes_at (Do at body test) counted_point out again p q =
          (head test_at : Point) × Joins program flow p head
          × do_loop at test counted_point (λ o a x y. executes_at body (counted_point + 1) o a x y) head test_at q
      executes_at (For at first test last body) counted_point out again p q =
          (head last_part : Point) × all_at first (counted_point + 1) q again p head
          × for_loop at test last counted_point (λ o a x y. executes_at body (counted_point + 1 + counted_points_in first) o a x y) head last_part q
      executes_at (Switch at value cases statements) counted_point out again p q =
          (ways : List SwitchCase) × (otherwise : ℕ) × (entries : ℕ → Point)
          × used program flow value 0 p (record { operations = []; end = graph.Switch at 0 ways otherwise })
          × ((item : ℕ) → from_at item statements counted_point q again (entries item) q) × cases_lead entries cases ways
          × (block_of flow otherwise ≡ entries (default_item cases (count_of statements)))
          × IsKept (entries 0)
      executes_at (Goto at label) counted_point out again p q = goes_to (landing label (body_of routine) 0 []) (labels label) p q
      executes_at (Label at label body) counted_point out again p q =
          (head r : Point) × Joins program flow p head × (head ≡ does at 0 (graph.Reach point.Label counted_point) r)
          × is_led_to (landing label (body_of routine) 0 []) counted_point (labels label) head × executes_at body (counted_point + 1) out again r q
      executes_at (Break at) counted_point out again p q = Joins program flow p out × IsKept q
      executes_at (Continue at) counted_point out again p q = Joins program flow p again × IsKept q
      executes_at (Return at value) counted_point out again p q = returns_at at value p × IsKept q

      -- statements one after another
      pub all_at : Statements → ℕ → Point → Point → Point → Point → Type 0
      all_at Empty counted_point out again p q = Joins program flow p q
      all_at (Then first others) counted_point out again p q =
          (r : Point) × part_to (λ o a x y. executes_at first counted_point o a x y) out again p r
          × all_at others (counted_point + counted_points first) out again r q

      -- the same for the statements from the one with a number on
      pub from_at : ℕ → Statements → ℕ → Point → Point → Point → Point → Type 0
      from_at number Empty counted_point out again p q = Joins program flow p q
      from_at zero (Then first others) counted_point out again p q =
          (r : Point) × part_to (λ o a x y. executes_at first counted_point o a x y) out again p r
          × all_at others (counted_point + counted_points first) out again r q
      from_at (suc number) (Then first others) counted_point out again p q = from_at number others (counted_point + counted_points first) out again p q
