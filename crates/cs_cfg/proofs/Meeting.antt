-- The next control point from a point follows from where code is placed: that of an expression is its first control point, or the next one
-- after it. For the control points of placed code.
use Rattle.std.proofs.Common.{◌≡◌, ℕ, suc, ◌+◌, ℤ, List, [], Some, None, refl, sym, subst}
use Rattle.cs_types.specs.Shape.{Shape, void, integer, pointer, array, struct}
use Rattle.cs_ast.specs.declared.place.Place.{Place}
use Rattle.cs_ast.specs.declared.typed.operator.Order.TheVariants.{PointerFirst, AmountFirst}
use Rattle.cs_ast.specs.TypedTree.{Typed, Of, Form, Number, Null, Text, Local, Global, Through, Index, Member, Arrow, Load, Address, Decay, Convert, Unary, Not}
use Rattle.cs_ast.specs.TypedTree.{Binary, Compare, Sum, Difference, And, Or, Choice, Comma, Assign, Update, Move, Call, Allocate, Free, TypedList, NoMore}
use Rattle.cs_ast.specs.TypedTree.{Further}
use Rattle.cs_ast.specs.TypedProgram.{TypedProgram}
use Rattle.cs_events.specs.declared.point.PointKind.TheVariants as point
use Rattle.cs_meaning.specs.Types.{type_of}
use Rattle.cs_cfg.specs.Graph as graph
use Rattle.cs_cfg.specs.Graph.{Work, SwitchCase, Point, Flow}
use Rattle.cs_cfg.specs.ControlPoints.{Next, Met, met, first, first_of, first_in}
use Rattle.cs_cfg.specs.GraphPoints.{met_in, by_operation, by_branch, by_switch, MeetsNext, here, past, past_jump}
use Rattle.cs_cfg.specs.Placing.{does, split, used_then, Joins, there, jumps, known, evaluates, used, evaluates_form, used_all, joined, judged}

module _ {flow : Flow} where
  -- through jumps
  pub joins_meet : {program : TypedProgram} {p q : Point} {next : Next} → Joins program flow p q → MeetsNext flow q next → MeetsNext flow p next
  joins_meet there m = m
  joins_meet (jumps way) m = past_jump (joins_meet way m)

  -- through an operation that is no control point
  pub does_meets : (at : Place) (number : ℕ) (work : Work) (q : Point) {next : Next} → met_in at work ≡ None → MeetsNext flow q next
      → MeetsNext flow (does at number work q) next
  does_meets at number work q silent m = past {operation = record { at = at; temporary = number; work = work }} {p = q} silent m

  -- through an operation that is one
  pub point_meets : (at : Place) (number : ℕ) (work : Work) (q : Point) {m : Met} → met_in at work ≡ Some m
      → MeetsNext flow (does at number work q) (Some m)
  point_meets at number work q is = here (by_operation {operation = record { at = at; temporary = number; work = work }} {p = q} is)

  -- a test
  pub split_meets : (at : Place) (number one other : ℕ) → MeetsNext flow (split at number one other) (met point.Branch at)
  split_meets at number one other = here by_branch

  -- a `switch`
  pub switch_meets : (at : Place) (ways : List SwitchCase) (otherwise : ℕ)
      → MeetsNext flow (record { operations = []; end = graph.Switch at 0 ways otherwise }) (met point.Switch at)
  switch_meets at ways otherwise = here by_switch

  -- at an equal point
  pub same_meets : {p q : Point} {next : Next} → p ≡ q → MeetsNext flow q next → MeetsNext flow p next
  same_meets {next = next} e m = subst (λ x. MeetsNext flow x next) (sym e) m

  -- where a value is used
  pub use_meets : (e : Typed) (number : ℕ) (q : Point) {next : Next} → MeetsNext flow q next → MeetsNext flow (used_then e number q) next
  use_meets (Of at ty (Call function arguments)) number q m = does_meets at number graph.Use q refl m
  use_meets (Of at ty other) number q m = m

module _ (program : TypedProgram) (flow : Flow) where
  -- a conversion's part is used, except for a conversion to void
  pub convert_part : {Goal : Type 0} (at : Place) (ty : Shape) (a : Typed) (number : ℕ) (p q : Point)
      → evaluates_form program flow at ty (Convert a) number p q →
      ((work : Work) → met_in at work ≡ None → evaluates program flow a number p (does at number work q) → Goal) →
      ((work : Work) → met_in at work ≡ None → used program flow a number p (does at number work q) → Goal) → Goal
  convert_part at void a number p q it unused goes = unused (graph.Convert (type_of a) void) refl it
  convert_part at (integer to) a number p q it unused goes = goes (graph.Convert (type_of a) (integer to)) refl it
  convert_part at (pointer to) a number p q it unused goes = goes (graph.Convert (type_of a) (pointer to)) refl it
  convert_part at (array element count) a number p q it unused goes = goes (graph.Convert (type_of a) (array element count)) refl it
  convert_part at (struct tag) a number p q it unused goes = goes (graph.Convert (type_of a) (struct tag)) refl it

  mutual
    -- an expression
    pub meets : (e : Typed) (number : ℕ) (p q : Point) {next : Next} → evaluates program flow e number p q → MeetsNext flow q next
        → MeetsNext flow p (first e next)
    meets (Of at ty form) number p q it m = form_meets at ty form number p q it m

    -- an expression whose value is used
    pub used_meets : (e : Typed) (number : ℕ) (p q : Point) {next : Next} → used program flow e number p q → MeetsNext flow q next
        → MeetsNext flow p (first e next)
    used_meets (Of at ty form) number p q it m = form_meets at ty form number p (used_then (Of at ty form) number q) it (use_meets (Of at ty form) number q m)

    pub form_meets : (at : Place) (ty : Shape) (form : Form) (number : ℕ) (p q : Point) {next : Next} → evaluates_form program flow at ty form number p q
        → MeetsNext flow q next → MeetsNext flow p (first_of at form next)
    form_meets at ty (Number n) number p q it m = same_meets it (does_meets at number (graph.Number n) q refl m)
    form_meets at ty Null number p q it m = same_meets it (does_meets at number graph.Null q refl m)
    form_meets at ty (Text literal) number p q it m = same_meets it (does_meets at number (graph.Text literal) q refl m)
    form_meets at ty (Local declaration) number p q it m = same_meets it (does_meets at number (graph.Local declaration) q refl m)
    form_meets at ty (Global global) number p q it m = same_meets it (does_meets at number (graph.Global global) q refl m)
    form_meets at ty (Through a) number p q it m = used_meets a number p q it m
    form_meets at ty (Index a i PointerFirst) number p q it m =
        used_meets a number p it.0 it.1 (used_meets i (suc number) it.0 _ it.2 (does_meets at number _ q refl m))
    form_meets at ty (Index a i AmountFirst) number p q it m =
        used_meets i number p it.0 it.1 (used_meets a (suc number) it.0 _ it.2 (does_meets at number _ q refl m))
    form_meets at ty (Member a offset) number p q it m = used_meets a number p _ it (does_meets at number _ q refl m)
    form_meets at ty (Arrow a offset) number p q it m = used_meets a number p _ it (does_meets at number _ q refl m)
    form_meets at ty (Load a) number p q it m = used_meets a number p _ it (does_meets at number _ q refl m)
    form_meets at ty (Address a) number p q it m = used_meets a number p q it m
    form_meets at ty (Decay a) number p q it m = used_meets a number p q it m
    form_meets at ty (Convert a) number p q it m = convert_part at ty a number p q it
        (λ work silent part. meets a number p _ part (does_meets at number work q silent m))
        (λ work silent part. used_meets a number p _ part (does_meets at number work q silent m))
    form_meets at ty (Unary op a) number p q it m = used_meets a number p _ it (does_meets at number _ q refl m)
    form_meets at ty (Not a) number p q it m = used_meets a number p _ it (does_meets at number _ q refl m)
    form_meets at ty (Binary op a b) number p q it m = used_meets a number p it.0 it.1 (used_meets b (suc number) it.0 _ it.2 (does_meets at number _ q refl m))
    form_meets at ty (Compare op a b) number p q it m =
        used_meets a number p it.0 it.1 (used_meets b (suc number) it.0 _ it.2 (does_meets at number _ q refl m))
    form_meets at ty (Sum a n direction PointerFirst) number p q it m =
        used_meets a number p it.0 it.1 (used_meets n (suc number) it.0 _ it.2 (does_meets at number _ q refl m))
    form_meets at ty (Sum a n direction AmountFirst) number p q it m =
        used_meets n number p it.0 it.1 (used_meets a (suc number) it.0 _ it.2 (does_meets at number _ q refl m))
    form_meets at ty (Difference a b) number p q it m =
        used_meets a number p it.0 it.1 (used_meets b (suc number) it.0 _ it.2 (does_meets at number _ q refl m))
    form_meets at ty (And a b) number p q it m = used_meets a number p _ it.2 (split_meets at number it.0 it.1)
    form_meets at ty (Or a b) number p q it m = used_meets a number p _ it.2 (split_meets at number it.0 it.1)
    form_meets at ty (Choice a b c) number p q it m = used_meets a number p _ it.2 (split_meets at number it.0 it.1)
    form_meets at ty (Comma a b) number p q it m = meets a number p _ it.1 (does_meets at number graph.Drop it.0 refl (used_meets b number it.0 q it.2 m))
    form_meets at ty (Assign a b) number p q it m = used_meets a number p it.0 it.1 (used_meets b (suc number) it.0 _ it.2 (does_meets at number _ q refl m))
    form_meets at ty (Update op a b works_in gives) number p q it m =
        used_meets a number p _ it.1 (does_meets at number _ it.0 refl (used_meets b (3 + number) it.0 _ it.2 (does_meets at number _ q refl m)))
    form_meets at ty (Move a n direction gives) number p q it m =
        used_meets a number p _ it.1 (does_meets at number _ it.0 refl (used_meets n (2 + number) it.0 _ it.2 (does_meets at number _ q refl m)))
    form_meets at ty (Call function arguments) number p q it m = all_meet arguments number p _ it (does_meets at number _ q refl m)
    form_meets at ty (Allocate allocator arguments element) number p q it m = all_meet arguments number p _ it.1 (does_meets at number _ q refl m)
    form_meets at ty (Free a) number p q it m = used_meets a number p _ it (does_meets at number _ q refl m)

    -- a list of expressions
    pub all_meet : (row : TypedList) (number : ℕ) (p q : Point) {next : Next} → used_all program flow row number p q → MeetsNext flow q next
        → MeetsNext flow p (first_in row next)
    all_meet NoMore number p q it m = same_meets it m
    all_meet (Further e others) number p q it m = used_meets e number p it.0 it.1 (all_meet others (suc number) it.0 q it.2 m)

  -- an expression and then jumps, as after both edges of `&&`, `||` and `?:`
  pub joined_meets : (e : Typed) (number : ℕ) (p q : Point) {next : Next} → joined program flow e number p q → MeetsNext flow q next
      → MeetsNext flow p (first e next)
  joined_meets (Of at ty form) number p q it m = form_meets at ty form number p _ it.1 (use_meets (Of at ty form) number it.0 (joins_meet it.2 m))

  pub judged_meets : (place : Place) (e : Typed) (number : ℕ) (p q : Point) {next : Next} → judged program flow place e number p q → MeetsNext flow q next
      → MeetsNext flow p (first e next)
  judged_meets place (Of at ty form) number p q it m =
      form_meets at ty form number p _ it.1 (use_meets (Of at ty form) number _ (does_meets place number graph.Judge it.0 refl (joins_meet it.2 m)))

  pub known_meets : (at : Place) (n : ℤ) (number : ℕ) (p q : Point) {next : Next} → known program flow at n number p q → MeetsNext flow q next
      → MeetsNext flow p next
  known_meets at n number p q it m = same_meets it.1 (does_meets at number (graph.Number n) it.0 refl (joins_meet it.2 m))
