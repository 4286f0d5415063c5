-- What the lowering of expressions ensures: in every graph with the built blocks, the point `p` evaluates the expression and then continues
-- at `q`; and replacing `q` and the old blocks by `p` and the new blocks adds no control points but those of the expression, and for an
-- expression of integers only integer code.
use Rattle.std.specs.Prelude.{ℕ, suc, ◌+◌, List, ◌++◌, ◌∷◌, Option, Some, None}
use Rattle.cs_types.specs.Shape.{Shape}
use Rattle.cs_ast.specs.declared.place.Place.{Place}
use Rattle.cs_ast.specs.declared.typed.operator.Order.{Order}
use Rattle.cs_ast.specs.declared.typed.operator.Order.TheVariants.{PointerFirst, AmountFirst}
use Rattle.cs_ast.specs.TypedTree.{Typed, Of, Form, Update, Move, TypedList}
use Rattle.cs_ast.specs.TypedProgram.{TypedProgram}
use Rattle.cs_meaning.specs.Access.{access_of}
use Rattle.cs_cfg.specs.ControlPoints.{Next, ControlPoint, first, points, points_of, points_in}
use Rattle.cs_cfg.specs.Fitting.{AddsPoints}
use Rattle.cs_cfg.specs.Graph as graph
use Rattle.cs_cfg.specs.Graph.{Point, Flow, Work, block_of}
use Rattle.cs_cfg.specs.GraphPoints.{MeetsNext}
use Rattle.cs_cfg.specs.Placing.{does, evaluates, evaluates_form, used, used_all}
use Rattle.cs_cfg.specs.Standing.{work_of}
use Rattle.cs_lower.specs.Allocations.{HasArguments, FormHasArguments, AllHaveArguments}
use Rattle.cs_lower.specs.Building.{Built, blocks, Has, Grows}
use Rattle.cs_lower.specs.Integers.{IsOfIntegers, FormIsOfIntegers, AddsIntegers}

-- what code is built for
pub data Task : Type 0 where
  -- an expression, evaluated into the temporary with a number
  evaluated : Typed → ℕ → Task
  -- a form of expressions at a source position, for any type
  formed : Place → Form → ℕ → Task
  -- an expression whose value is used
  used_one : Typed → ℕ → Task
  -- two of them
  used_both : Typed → Typed → ℕ → Task
  -- several expressions whose values are used
  used_row : TypedList → ℕ → Task

-- the allocations in it have their arguments
abbrev pub TaskHasArguments : Task → Type 0
TaskHasArguments (evaluated e number) = HasArguments e
TaskHasArguments (formed at form number) = FormHasArguments form
TaskHasArguments (used_one e number) = HasArguments e
TaskHasArguments (used_both one other number) = HasArguments one × HasArguments other
TaskHasArguments (used_row row number) = AllHaveArguments row

-- it works with integers only, in a function with `count` locals; a row is the arguments of a call
abbrev pub TaskIsOfIntegers : ℕ → Task → Type 0
TaskIsOfIntegers count (evaluated e number) = IsOfIntegers count e
TaskIsOfIntegers count (formed at form number) = FormIsOfIntegers count form
TaskIsOfIntegers count (used_one e number) = IsOfIntegers count e
TaskIsOfIntegers count (used_both one other number) = IsOfIntegers count one × IsOfIntegers count other
TaskIsOfIntegers count (used_row row number) = ⊥

-- its control points, if `following` is reached after it
abbrev pub task_points : Task → Next → List ControlPoint
task_points (evaluated e number) following = points e following
task_points (formed at form number) following = points_of at form following
task_points (used_one e number) following = points e following
task_points (used_both one other number) following = points one (first other following) ++ points other following
task_points (used_row row number) following = points_in row following

-- a point performs it and then continues at the other one
abbrev pub PerformsTask : TypedProgram → Flow → Task → Point → Point → Type 0
PerformsTask program flow (evaluated e number) p q = evaluates program flow e number p q
PerformsTask program flow (formed at form number) p q = (ty : Shape) → evaluates_form program flow at ty form number p q
PerformsTask program flow (used_one e number) p q = used program flow e number p q
PerformsTask program flow (used_both one other number) p q = (r : Point) × used program flow one number p r × used program flow other (suc number) r q
PerformsTask program flow (used_row row number) p q = used_all program flow row number p q

-- an operation, if there is one, followed by a point
abbrev pub does_if : Place → ℕ → Option Work → Point → Point
does_if at number None q = q
does_if at number (Some work) q = does at number work q

-- the operation of an expression on its operands, followed by a point
abbrev pub acted : TypedProgram → Typed → ℕ → Point → Point
acted program (Of at ty form) number q = does_if at number (work_of program ty form) q

-- the load of an update
abbrev pub fetch_of : Form → Option Work
fetch_of (Update op a b works_in gives) = Some (graph.FetchNumber (access_of a) works_in)
fetch_of (Move a n direction gives) = Some (graph.FetchPointer (access_of a))
fetch_of other = None

abbrev pub fetched : Typed → ℕ → Point → Point
fetched (Of at ty form) number q = does_if at number (fetch_of form) q

module _ (program : TypedProgram) where
  -- a point was built for a task, followed by another one
  pub record Lowers (task : Task) (old new : Built) (p q : Point) : Type 0 where
    pub grows : Grows 0 old new
    pub does : (flow : Flow) → Has flow new → TaskHasArguments task → PerformsTask program flow task p q
    pub adds : (flow : Flow) → Has flow new → TaskHasArguments task → (following : Next) → MeetsNext flow q following →
        AddsPoints flow (task_points task following) (q ∷ blocks old) (p ∷ blocks new)
    pub integers : (count : ℕ) → TaskIsOfIntegers count task → AddsIntegers count (q ∷ blocks old) (p ∷ blocks new)

  -- a point evaluates an expression into the temporary with a number
  abbrev pub Evaluates : Typed → ℕ → Built → Built → Point → Point → Type 0
  Evaluates e number old new p q = Lowers (evaluated e number) old new p q

  -- the same for a form of expressions
  abbrev pub EvaluatesForm : Place → Form → ℕ → Built → Built → Point → Point → Type 0
  EvaluatesForm at form number old new p q = Lowers (formed at form number) old new p q

  -- the same for an expression whose value is used
  abbrev pub Uses : Typed → ℕ → Built → Built → Point → Point → Type 0
  Uses e number old new p q = Lowers (used_one e number) old new p q

  -- the same for two expressions
  abbrev pub UsesBoth : Typed → Typed → ℕ → Built → Built → Point → Point → Type 0
  UsesBoth one other number old new p q = Lowers (used_both one other number) old new p q

  -- the same for several expressions
  abbrev pub UsesAll : TypedList → ℕ → Built → Built → Point → Point → Type 0
  UsesAll row number old new p q = Lowers (used_row row number) old new p q

  -- the same for an expression at the beginning of a block
  pub record UsesIn (e : Typed) (number : ℕ) (old new : Built) (block : ℕ) (q : Point) : Type 0 where
    pub grows : Grows 0 old new
    pub does : (flow : Flow) → Has flow new → HasArguments e → used program flow e number (block_of flow block) q
    pub adds : (flow : Flow) → Has flow new → HasArguments e → (following : Next) → MeetsNext flow q following →
        AddsPoints flow (points e following) (q ∷ blocks old) (blocks new)
    pub integers : (count : ℕ) → IsOfIntegers count e → AddsIntegers count (q ∷ blocks old) (blocks new)

  -- the same for the object of an update and its right operand, `more` temporaries above it; the object is loaded in between
  pub record UsesAround (update object right : Typed) (more number : ℕ) (old new : Built) (p q : Point) : Type 0 where
    pub mid : Built
    pub middle : Point
    pub last : Uses right (more + number) old mid middle q
    pub one : Uses object number mid new p (fetched update number middle)

-- a pointer and an amount, in the order of evaluation
abbrev pub earlier : Order → Typed → Typed → Typed
earlier PointerFirst pointer amount = pointer
earlier AmountFirst pointer amount = amount

abbrev pub later : Order → Typed → Typed → Typed
later PointerFirst pointer amount = amount
later AmountFirst pointer amount = pointer
