-- When a state of the code's run represents a state of the reference machine: the point that it has reached does what the machine has
-- still to do. A recursion over the list of things to do.
use Rattle.std.specs.Prelude.{◌≡◌, ℕ, suc, ◌+◌, pos, Bool, List, Option, Some, None, [], ◌∷◌}
use Rattle.cs_types.specs.Shape.{Shape}
use Rattle.cs_ast.specs.declared.place.Place.{Place}
use Rattle.cs_ast.specs.declared.typed.operator.Direction.TheVariants.{Forward}
use Rattle.cs_ast.specs.TypedTree.{Typed, Of, Form, Number, Null, Text, Local, Global, Index, Member, Arrow, Load, Convert, Unary, Not, Binary, Compare, Sum}
use Rattle.cs_ast.specs.TypedTree.{Difference, And, Or, Choice, Assign, Update, Move, Call, Allocate, Free, Statement, If, IfElse, While, Do, For, Switch}
use Rattle.cs_ast.specs.TypedTree.{count_of}
use Rattle.cs_ast.specs.TypedProgram.{TypedProgram, Routine}
use Rattle.cs_events.specs.declared.point.PointKind.TheVariants as point
use Rattle.cs_meaning.specs.Types.{size_of, type_of, integer_of, is_scalar}
use Rattle.cs_meaning.specs.Access.{access_of}
use Rattle.cs_meaning.specs.Machine.{Item, Evaluate, EvaluateUnused, Act, Fetch, Choose, Judge, Use, Drop, Store, Spell, Execute, Decide, Turn, Again, Out}
use Rattle.cs_meaning.specs.Machine.{Begin, End, Give, Leave}
use Rattle.cs_meaning.specs.CountedPoints.{counted_points, counted_points_in}
use Rattle.cs_meaning.specs.Expressions.{count_all}
use Rattle.cs_meaning.specs.Statements.{default_item}
use Rattle.cs_cfg.specs.Graph as graph
use Rattle.cs_cfg.specs.Graph.{Work, SwitchCase, Point, Flow, Code, no_flow, block_of, flow_of}
use Rattle.cs_cfg.specs.Working.{takes, closed_with}
use Rattle.cs_cfg.specs.Placing.{does, split, step_of, Joins, evaluates, used, joined, judged, known}
use Rattle.cs_cfg.specs.Executing.{type_in, leaving, finishing, Part, part_to, while_loop, do_loop, for_loop, cases_lead, executes_at, from_at}

-- a condition on a point, with a number of temporaries in use
abbrev pub Following : Type 1
Following = ℕ → Point → Type 0

-- no point satisfies this
abbrev pub nowhere : Following
nowhere depth p = ⊥

-- an operation, which replaces its operands by a number of temporaries
abbrev pub worked : Place → Work → ℕ → Following → Following
worked at work leaves following depth p = (number : ℕ) × (q : Point) × (depth ≡ takes work + number) × (p ≡ does at number work q)
    × following (leaves + number) q

-- the operation that computes an expression from its operands, if there is one
abbrev pub work_of : TypedProgram → Shape → Form → Option Work
work_of program ty (Number n) = Some (graph.Number n)
work_of program ty Null = Some graph.Null
work_of program ty (Text literal) = Some (graph.Text literal)
work_of program ty (Local declaration) = Some (graph.Local declaration)
work_of program ty (Global global) = Some (graph.Global global)
work_of program ty (Index a i order) = Some (graph.Sum (size_of program ty) Forward order)
work_of program ty (Member a offset) = Some (graph.Member offset)
work_of program ty (Arrow a offset) = Some (graph.Arrow offset)
work_of program ty (Load a) = Some (graph.Load (access_of a))
work_of program ty (Convert a) = Some (graph.Convert (type_of a) ty)
work_of program ty (Unary op a) = Some (graph.Unary op (integer_of ty))
work_of program ty (Not a) = Some graph.Not
work_of program ty (Binary op a b) = Some (graph.Binary op (integer_of ty))
work_of program ty (Compare op a b) = Some (graph.Compare op)
work_of program ty (Sum a n direction order) = Some (graph.Sum (step_of program ty) direction order)
work_of program ty (Difference a b) = Some (graph.Difference (step_of program (type_of a)))
work_of program ty (Assign a b) = Some (graph.Store (access_of a))
work_of program ty (Update op a b works_in gives) = Some (graph.Update op (access_of a) works_in gives)
work_of program ty (Move a n direction gives) = Some (graph.Move (access_of a) (step_of program (type_of a)) direction gives)
work_of program ty (Call function arguments) = Some (graph.Call function (count_all arguments))
work_of program ty (Allocate allocator arguments element) = Some (graph.Allocate allocator element)
work_of program ty (Free a) = Some graph.Free
work_of program ty other = None

-- that operation, applied to the newest temporaries
abbrev pub acts_by : Place → Option Work → Following → Following
acts_by at None following = nowhere
acts_by at (Some work) following = worked at work 1 following

module _ (program : TypedProgram) (flow : Flow) where
  abbrev pub acts_at : Typed → Following → Following
  acts_at (Of at ty form) following = acts_by at (work_of program ty form) following

  -- the load of an update
  abbrev pub fetches_form : Place → Form → Following → Following
  fetches_form at (Update op a b works_in gives) following = worked at (graph.FetchNumber (access_of a) works_in) 3 following
  fetches_form at (Move a n direction gives) following = worked at (graph.FetchPointer (access_of a)) 2 following
  fetches_form at other following = nowhere

  abbrev pub fetches_at : Typed → Following → Following
  fetches_at (Of at ty form) following = fetches_form at form following

  -- a test of the newest temporary, and what is at the beginning of its two branches, with a number of temporaries in use
  abbrev pub splits : Place → (ℕ → Point → Point → Type 0) → Following
  splits at Ways depth p = (number one other : ℕ) × (depth ≡ suc number) × (p ≡ split at number one other)
      × Ways number (block_of flow one) (block_of flow other)

  -- the branch that the first operand of `&&`, `||` or `?:` selects
  abbrev pub chooses_form : Place → Form → Following → Following
  chooses_form at (And a b) following =
      splits at (λ number one other.
      (q : Point) × judged program flow at b number one q × known program flow at (pos 0) number other q × following (suc number) q)
  chooses_form at (Or a b) following =
      splits at (λ number one other.
      (q : Point) × known program flow at (pos 1) number one q × judged program flow at b number other q × following (suc number) q)
  chooses_form at (Choice a b c) following =
      splits at (λ number one other. (q : Point) × joined program flow b number one q × joined program flow c number other q × following (suc number) q)
  chooses_form at other following = nowhere

  abbrev pub chooses_at : Typed → Following → Following
  chooses_at (Of at ty form) following = chooses_form at form following

  module _ (routine : Routine) (labels : ℕ → Point) where
    -- a statement as a part of another
    abbrev pub part_of : Statement → ℕ → Part
    part_of s counted_point out again p q = executes_at program flow routine labels s counted_point out again p q

    -- a loop with a head, with a point after its body, and with a point after the loop
    abbrev pub loops_at : Statement → ℕ → Point → Point → Point → Type 0
    loops_at (While at test body) counted_point head again q =
        (again ≡ head) × while_loop program flow at test counted_point (part_of body (counted_point + 1)) head q
    loops_at (Do at body test) counted_point head again q = do_loop program flow at test counted_point (part_of body (counted_point + 1)) head again q
    loops_at (For at first test last body) counted_point head again q =
        for_loop program flow at test last counted_point (part_of body (counted_point + 1 + counted_points_in first)) head again q
    loops_at other counted_point head again q = ⊥

    -- the branch that the test of a statement, or the value of a `switch`, selects; `out` is where `break` leads in it: after a loop
    abbrev pub decides_at : Statement → ℕ → Point → Point → Following → Point → Type 0
    decides_at (If at test body) counted_point out again following p =
        splits at (λ number one other.
        (q : Point) × part_to program flow (part_of body counted_point) out again one q × Joins program flow other q × following 0 q) 1 p
    decides_at (IfElse at test body else_body) counted_point out again following p =
        splits at (λ number one other.
        (q : Point) × part_to program flow (part_of body counted_point) out again one q
        × part_to program flow (part_of else_body (counted_point + counted_points body)) out again other q × following 0 q) 1 p
    decides_at (While at test body) counted_point out again following p =
        (head : Point) × while_loop program flow at test counted_point (part_of body (counted_point + 1)) head out × following 0 out
        × splits at (λ number one other. part_to program flow (part_of body (counted_point + 1)) out head one head × Joins program flow other out) 1 p
    decides_at (Do at body test) counted_point out again following p =
        (head test_at : Point) × do_loop program flow at test counted_point (part_of body (counted_point + 1)) head test_at out × following 0 out
        × splits at (λ number one other. Joins program flow one head × Joins program flow other out) 1 p
    decides_at (For at first test last body) counted_point out again following p =
        (head last_part : Point) × for_loop program flow at test last counted_point (part_of body (counted_point + 1 + counted_points_in first)) head last_part
        out × following 0 out
        × splits at (λ number one other.
        part_to program flow (part_of body (counted_point + 1 + counted_points_in first)) out last_part one last_part × Joins program flow other out) 1 p
    decides_at (Switch at value cases statements) counted_point out again following p =
        (ways : List SwitchCase) × (otherwise : ℕ) × (entries : ℕ → Point)
        × (p ≡ record { operations = []; end = graph.Switch at 0 ways otherwise })
        × ((item : ℕ) → from_at program flow routine labels item statements counted_point out again (entries item) out)
        × cases_lead program flow routine labels entries cases ways × (block_of flow otherwise ≡ entries (default_item cases (count_of statements)))
        × following 0 out
    decides_at other counted_point out again following p = ⊥

    -- the point does the first thing to do, with `depth` temporaries in use, and then continues with the rest
    abbrev pub item_at : Item → Point → Point → Following → Following
    item_at (Evaluate e) out again following depth p = (q : Point) × used program flow e depth p q × following (suc depth) q
    item_at (EvaluateUnused e) out again following depth p = (q : Point) × evaluates program flow e depth p q × following (suc depth) q
    item_at (Act e) out again following depth p = acts_at e following depth p
    item_at (Fetch e) out again following depth p = fetches_at e following depth p
    item_at (Choose e) out again following depth p = chooses_at e following depth p
    item_at (Judge at) out again following depth p = worked at graph.Judge 1 following depth p
    item_at (Use at) out again following depth p = worked at graph.Use 1 following depth p
    item_at Drop out again following depth p = (at : Place) × worked at graph.Drop 0 following depth p
    item_at (Store at declaration offset ty) out again following depth p =
        (depth ≡ 1) × worked at (graph.StoreLocal declaration offset ty (is_scalar (type_in routine declaration))) 0 following 1 p
    item_at (Spell declaration offset bytes) out again following depth p =
        (depth ≡ 0) × ((at : Place) × worked at (graph.Spell declaration offset bytes) 0 following 0 p)
    item_at (Execute s counted_point) out again following depth p = (depth ≡ 0) × ((q : Point) × part_of s counted_point out again p q × following 0 q)
    item_at (Decide s counted_point) out again following depth p = (depth ≡ 1) × decides_at s counted_point out again following p
    item_at (Turn s counted_point) out again following depth p =
        (depth ≡ 0) × ((after_body : Point) × loops_at s counted_point p after_body out × following 0 out)
    item_at (Again s counted_point) out again following depth p =
        (depth ≡ 0) × (again ≡ p) × ((head : Point) × loops_at s counted_point head p out × following 0 out)
    item_at Out out again following depth p = (depth ≡ 0) × (p ≡ out) × following 0 p
    item_at (Begin at) out again following depth p = (depth ≡ 0) × worked at (graph.Meet point.Enter) 0 following 0 p
    item_at (End at value) out again following depth p =
        (depth ≡ 0) × ((nothing : Bool) × (value ≡ closed_with nothing) × (p ≡ does at 0 (graph.Close nothing) leaving)) × following 0 finishing
    item_at (Give at) out again following depth p = (depth ≡ 1) × (p ≡ does at 1 (graph.Meet point.Return) leaving) × ((q : Point) × following 0 q)
    item_at Leave out again following depth p = (depth ≡ 1) × (p ≡ leaving) × ((q : Point) × following 0 q)

    -- the point does everything to do; `break` and `continue` lead to the two others
    abbrev pub stands_at : List Item → Point → Point → Following
    stands_at [] out again depth p = (p ≡ finishing) × Joins program flow out finishing × Joins program flow again finishing
    stands_at (Out ∷ items) out again depth p =
        item_at Out out again (λ d q. (outer : Point) × ((r : Point) × Joins program flow q r × stands_at items outer again d r)) depth p
    stands_at (Again s counted_point ∷ items) out again depth p =
        item_at (Again s counted_point) out again (λ d q. (outer : Point) × ((r : Point) × Joins program flow q r × stands_at items out outer d r)) depth p
    stands_at (item ∷ items) out again depth p =
        item_at item out again (λ d q. (r : Point) × Joins program flow q r × stands_at items out again d r) depth p
