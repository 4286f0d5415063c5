-- The lowering of syntax in a graph: one point evaluates an expression, or executes a statement, and the graph then continues at another
-- point. A recursion over the syntax. Temporaries below a number are in use; none are when a statement begins or ends.
use Rattle.std.specs.Prelude.{◌≡◌, ℕ, suc, ◌+◌, ℤ, pos, []}
use Rattle.cs_types.specs.Shape.{Shape, void}
use Rattle.cs_ast.specs.declared.place.Place.{Place}
use Rattle.cs_ast.specs.declared.typed.operator.Order.TheVariants.{PointerFirst, AmountFirst}
use Rattle.cs_ast.specs.declared.typed.operator.Direction.TheVariants.{Forward}
use Rattle.cs_ast.specs.TypedTree.{Typed, Of, Form, Number, Null, Text, Local, Global, Through, Index, Member, Arrow, Load, Address, Decay, Convert, Unary, Not}
use Rattle.cs_ast.specs.TypedTree.{Binary, Compare, Sum, Difference, And, Or, Choice, Comma, Assign, Update, Move, Call, Allocate, Free, TypedList, NoMore}
use Rattle.cs_ast.specs.TypedTree.{Further}
use Rattle.cs_ast.specs.TypedProgram.{TypedProgram}
use Rattle.cs_meaning.specs.Types.{size_of, type_of, target_of, integer_of}
use Rattle.cs_meaning.specs.Access.{access_of}
use Rattle.cs_meaning.specs.Expressions.{count_all}
use Rattle.cs_cfg.specs.Graph as graph
use Rattle.cs_cfg.specs.Graph.{Work, Operation, SwitchCase, Point, before, Flow, block_of}
use Rattle.cs_cfg.specs.Working.{allocator_takes}

-- an operation, followed by a point
abbrev pub does : Place → ℕ → Work → Point → Point
does at temporary work following = before (record { at = at; temporary = temporary; work = work }) following

-- a test of a temporary, with no operations before it
abbrev pub split : Place → ℕ → ℕ → ℕ → Point
split at temporary one other = record { operations = []; end = graph.Branch at temporary one other }

-- a check that the result of a call, if the expression is one, was set; other values need no check
abbrev pub used_then : Typed → ℕ → Point → Point
used_then (Of at ty (Call function arguments)) number following = does at number graph.Use following
used_then other number following = following

-- the size in bytes of what a pointer of this type points to
abbrev pub step_of : TypedProgram → Shape → ℕ
step_of program ty = size_of program (target_of ty)

module _ (program : TypedProgram) (flow : Flow) where
  -- only jumps are between two points
  pub data Joins : Point → Point → Type 0 where
    there : {p : Point} → Joins p p
    jumps : {block : ℕ} {q : Point} → Joins (block_of flow block) q → Joins (record { operations = []; end = graph.Jump block }) q

  -- a known number, and then jumps to a point
  abbrev pub known : Place → ℤ → ℕ → Point → Point → Type 0
  known at n number p q = (r : Point) × (p ≡ does at number (graph.Number n) r) × Joins r q

  abbrev mutual
    -- the point evaluates an expression into the temporary with a number, and then continues at the other one
    pub evaluates : Typed → ℕ → Point → Point → Type 0
    evaluates (Of at ty form) number p q = evaluates_form at ty form number p q

    -- the same for an expression whose value is used
    pub used : Typed → ℕ → Point → Point → Type 0
    used (Of at ty form) number p q = evaluates_form at ty form number p (used_then (Of at ty form) number q)

    pub evaluates_form : Place → Shape → Form → ℕ → Point → Point → Type 0
    evaluates_form at ty (Number n) number p q = p ≡ does at number (graph.Number n) q
    evaluates_form at ty Null number p q = p ≡ does at number graph.Null q
    evaluates_form at ty (Text literal) number p q = p ≡ does at number (graph.Text literal) q
    evaluates_form at ty (Local declaration) number p q = p ≡ does at number (graph.Local declaration) q
    evaluates_form at ty (Global global) number p q = p ≡ does at number (graph.Global global) q
    evaluates_form at ty (Through a) number p q = used a number p q
    evaluates_form at ty (Index a i PointerFirst) number p q =
        (r : Point) × used a number p r × used i (suc number) r (does at number (graph.Sum (size_of program ty) Forward PointerFirst) q)
    evaluates_form at ty (Index a i AmountFirst) number p q =
        (r : Point) × used i number p r × used a (suc number) r (does at number (graph.Sum (size_of program ty) Forward AmountFirst) q)
    evaluates_form at ty (Member a offset) number p q = used a number p (does at number (graph.Member offset) q)
    evaluates_form at ty (Arrow a offset) number p q = used a number p (does at number (graph.Arrow offset) q)
    evaluates_form at ty (Load a) number p q = used a number p (does at number (graph.Load (access_of a)) q)
    evaluates_form at ty (Address a) number p q = used a number p q
    evaluates_form at ty (Decay a) number p q = used a number p q
    evaluates_form at void (Convert a) number p q = evaluates a number p (does at number (graph.Convert (type_of a) void) q)
    evaluates_form at ty (Convert a) number p q = used a number p (does at number (graph.Convert (type_of a) ty) q)
    evaluates_form at ty (Unary op a) number p q = used a number p (does at number (graph.Unary op (integer_of ty)) q)
    evaluates_form at ty (Not a) number p q = used a number p (does at number graph.Not q)
    evaluates_form at ty (Binary op a b) number p q = (r : Point) × used a number p r
        × used b (suc number) r (does at number (graph.Binary op (integer_of ty)) q)
    evaluates_form at ty (Compare op a b) number p q = (r : Point) × used a number p r × used b (suc number) r (does at number (graph.Compare op) q)
    evaluates_form at ty (Sum a n direction PointerFirst) number p q =
        (r : Point) × used a number p r × used n (suc number) r (does at number (graph.Sum (step_of program ty) direction PointerFirst) q)
    evaluates_form at ty (Sum a n direction AmountFirst) number p q =
        (r : Point) × used n number p r × used a (suc number) r (does at number (graph.Sum (step_of program ty) direction AmountFirst) q)
    evaluates_form at ty (Difference a b) number p q = (r : Point) × used a number p r
        × used b (suc number) r (does at number (graph.Difference (step_of program (type_of a))) q)
    evaluates_form at ty (And a b) number p q = (one other : ℕ) × used a number p (split at number one other) × judged at b number (block_of flow one) q
        × known at (pos 0) number (block_of flow other) q
    evaluates_form at ty (Or a b) number p q = (one other : ℕ) × used a number p (split at number one other) × known at (pos 1) number (block_of flow one) q
        × judged at b number (block_of flow other) q
    evaluates_form at ty (Choice a b c) number p q = (one other : ℕ) × used a number p (split at number one other) × joined b number (block_of flow one) q
        × joined c number (block_of flow other) q
    evaluates_form at ty (Comma a b) number p q = (r : Point) × evaluates a number p (does at number graph.Drop r) × used b number r q
    evaluates_form at ty (Assign a b) number p q = (r : Point) × used a number p r × used b (suc number) r (does at number (graph.Store (access_of a)) q)
    evaluates_form at ty (Update op a b works_in gives) number p q =
        (r : Point) × used a number p (does at number (graph.FetchNumber (access_of a) works_in) r)
        × used b (3 + number) r (does at number (graph.Update op (access_of a) works_in gives) q)
    evaluates_form at ty (Move a n direction gives) number p q =
        (r : Point) × used a number p (does at number (graph.FetchPointer (access_of a)) r)
        × used n (2 + number) r (does at number (graph.Move (access_of a) (step_of program (type_of a)) direction gives) q)
    evaluates_form at ty (Call function arguments) number p q = used_all arguments number p (does at number (graph.Call function (count_all arguments)) q)
    evaluates_form at ty (Allocate allocator arguments element) number p q =
        (count_all arguments ≡ allocator_takes allocator) × used_all arguments number p (does at number (graph.Allocate allocator element) q)
    evaluates_form at ty (Free a) number p q = used a number p (does at number graph.Free q)

    -- several expressions, one after another
    pub used_all : TypedList → ℕ → Point → Point → Type 0
    used_all NoMore number p q = p ≡ q
    used_all (Further e others) number p q = (r : Point) × used e number p r × used_all others (suc number) r q

    -- an expression, and then jumps to a point
    pub joined : Typed → ℕ → Point → Point → Type 0
    joined (Of at ty form) number p q = (r : Point) × evaluates_form at ty form number p (used_then (Of at ty form) number r) × Joins r q

    -- the same for the right operand of `&&` or `||`, which becomes a truth value
    pub judged : Place → Typed → ℕ → Point → Point → Type 0
    judged place (Of at ty form) number p q = (r : Point)
        × evaluates_form at ty form number p (used_then (Of at ty form) number (does place number graph.Judge r)) × Joins r q
