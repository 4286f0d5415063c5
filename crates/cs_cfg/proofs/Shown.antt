-- Each control point of an expression is in the graph, with all of its edges, if the expression is placed at a point of the graph. For
-- the control points of placed code.
use Rattle.std.proofs.Common.{◌≡◌, ℕ, suc, ◌+◌, pos, List, [], ◌∷◌, refl}
use Rattle.cs_types.specs.Shape.{Shape}
use Rattle.cs_ast.specs.declared.place.Place.{Place}
use Rattle.cs_ast.specs.declared.typed.operator.Order.TheVariants.{PointerFirst, AmountFirst}
use Rattle.cs_ast.specs.TypedTree.{Typed, Of, Form, Number, Null, Text, Local, Global, Through, Index, Member, Arrow, Load, Address, Decay, Convert, Unary, Not}
use Rattle.cs_ast.specs.TypedTree.{Binary, Compare, Sum, Difference, And, Or, Choice, Comma, Assign, Update, Move, Call, Allocate, Free, TypedList, NoMore}
use Rattle.cs_ast.specs.TypedTree.{Further}
use Rattle.cs_ast.specs.TypedProgram.{TypedProgram}
use Rattle.cs_cfg.specs.Graph as graph
use Rattle.cs_cfg.specs.Graph.{Work, Point, Flow, block_of}
use Rattle.cs_cfg.specs.ControlPoints.{Next, tested, points, points_of, points_in, ControlPoint}
use Rattle.cs_cfg.specs.GraphPoints.{MeetsNext}
use Rattle.cs_cfg.specs.Placing.{does, split, used_then, evaluates, used, evaluates_form, used_all, joined, judged}
use Rattle.cs_cfg.proofs.Meeting.{does_meets, split_meets, joins_meet, use_meets, convert_part, used_meets, all_meet, judged_meets, joined_meets, known_meets}
use Rattle.cs_cfg.proofs.Keeping.{Kept, kept_block, kept_same, kept_past}
use Rattle.cs_cfg.proofs.Showing.{shown_more, Walked, walked_none, walked_past, walked_use, walked_joins, walked_then, shows_tested}

module _ (program : TypedProgram) (flow : Flow) where
  -- a leaf has none
  leaf : (at : Place) (number : ℕ) (work : Work) (p q : Point) → p ≡ does at number work q → Kept program flow p → Walked program flow q []
  leaf at number work p q it kept = walked_past at number work q (walked_none (kept_same it kept))

  -- a test, and the code on its edges
  pub tests_walk : (at : Place) (number one other : ℕ) {one_next other_next : Next} {q : Point} {others : List ControlPoint}
      → Kept program flow (split at number one other) →
      MeetsNext flow (block_of flow one) one_next → MeetsNext flow (block_of flow other) other_next → Walked program flow q others
      → Walked program flow q (tested at one_next other_next ∷ others)
  tests_walk at number one other kept m m' rest = record { kept = rest.kept; shown = shown_more (shows_tested at number one other kept m m') rest.shown }

  mutual
    -- an expression
    pub walks : (e : Typed) (number : ℕ) (p q : Point) {next : Next} → evaluates program flow e number p q → MeetsNext flow q next → Kept program flow p
        → Walked program flow q (points e next)
    walks (Of at ty form) number p q it m kept = form_walks at ty form number p q it m kept

    -- an expression whose value is used
    pub used_walks : (e : Typed) (number : ℕ) (p q : Point) {next : Next} → used program flow e number p q → MeetsNext flow q next → Kept program flow p
        → Walked program flow q (points e next)
    used_walks (Of at ty form) number p q it m kept =
        walked_use (Of at ty form) number q (form_walks at ty form number p (used_then (Of at ty form) number q) it (use_meets (Of at ty form) number q m) kept)

    -- an expression and then an operation
    then_does : (e : Typed) (number : ℕ) (p : Point) (at : Place) (to : ℕ) (work : Work) (q : Point) {next : Next}
        → used program flow e number p (does at to work q) →
        MeetsNext flow (does at to work q) next → Kept program flow p → Walked program flow q (points e next)
    then_does (Of place ty form) number p at to work q it m kept =
        walked_past at to work q (walked_use (Of place ty form) number (does at to work q)
        (form_walks place ty form number p _ it (use_meets (Of place ty form) number (does at to work q) m) kept))

    pub form_walks : (at : Place) (ty : Shape) (form : Form) (number : ℕ) (p q : Point) {next : Next} → evaluates_form program flow at ty form number p q
        → MeetsNext flow q next → Kept program flow p → Walked program flow q (points_of at form next)
    form_walks at ty (Number n) number p q it m kept = leaf at number _ p q it kept
    form_walks at ty Null number p q it m kept = leaf at number _ p q it kept
    form_walks at ty (Text literal) number p q it m kept = leaf at number _ p q it kept
    form_walks at ty (Local declaration) number p q it m kept = leaf at number _ p q it kept
    form_walks at ty (Global global) number p q it m kept = leaf at number _ p q it kept
    form_walks at ty (Through a) number p q it m kept = used_walks a number p q it m kept
    form_walks at ty (Index a i PointerFirst) number p q it m kept =
        let later = does_meets at number _ q refl m in
        walked_then (used_walks a number p it.0 it.1 (used_meets program flow i (suc number) it.0 _ it.2 later) kept)
        (λ k. then_does i (suc number) it.0 at number _ q it.2 later k)
    form_walks at ty (Index a i AmountFirst) number p q it m kept =
        let later = does_meets at number _ q refl m in
        walked_then (used_walks i number p it.0 it.1 (used_meets program flow a (suc number) it.0 _ it.2 later) kept)
        (λ k. then_does a (suc number) it.0 at number _ q it.2 later k)
    form_walks at ty (Member a offset) number p q it m kept = then_does a number p at number _ q it (does_meets at number _ q refl m) kept
    form_walks at ty (Arrow a offset) number p q it m kept = then_does a number p at number _ q it (does_meets at number _ q refl m) kept
    form_walks at ty (Load a) number p q it m kept = then_does a number p at number _ q it (does_meets at number _ q refl m) kept
    form_walks at ty (Address a) number p q it m kept = used_walks a number p q it m kept
    form_walks at ty (Decay a) number p q it m kept = used_walks a number p q it m kept
    form_walks at ty (Convert a) number p q it m kept = convert_part program flow at ty a number p q it
        (λ work silent part. walked_past at number work q (walks a number p _ part (does_meets at number work q silent m) kept))
        (λ work silent part. then_does a number p at number work q part (does_meets at number work q silent m) kept)
    form_walks at ty (Unary op a) number p q it m kept = then_does a number p at number _ q it (does_meets at number _ q refl m) kept
    form_walks at ty (Not a) number p q it m kept = then_does a number p at number _ q it (does_meets at number _ q refl m) kept
    form_walks at ty (Binary op a b) number p q it m kept =
        let later = does_meets at number _ q refl m in
        walked_then (used_walks a number p it.0 it.1 (used_meets program flow b (suc number) it.0 _ it.2 later) kept)
        (λ k. then_does b (suc number) it.0 at number _ q it.2 later k)
    form_walks at ty (Compare op a b) number p q it m kept =
        let later = does_meets at number _ q refl m in
        walked_then (used_walks a number p it.0 it.1 (used_meets program flow b (suc number) it.0 _ it.2 later) kept)
        (λ k. then_does b (suc number) it.0 at number _ q it.2 later k)
    form_walks at ty (Sum a n direction PointerFirst) number p q it m kept =
        let later = does_meets at number _ q refl m in
        walked_then (used_walks a number p it.0 it.1 (used_meets program flow n (suc number) it.0 _ it.2 later) kept)
        (λ k. then_does n (suc number) it.0 at number _ q it.2 later k)
    form_walks at ty (Sum a n direction AmountFirst) number p q it m kept =
        let later = does_meets at number _ q refl m in
        walked_then (used_walks n number p it.0 it.1 (used_meets program flow a (suc number) it.0 _ it.2 later) kept)
        (λ k. then_does a (suc number) it.0 at number _ q it.2 later k)
    form_walks at ty (Difference a b) number p q it m kept =
        let later = does_meets at number _ q refl m in
        walked_then (used_walks a number p it.0 it.1 (used_meets program flow b (suc number) it.0 _ it.2 later) kept)
        (λ k. then_does b (suc number) it.0 at number _ q it.2 later k)
    form_walks at ty (And a b) number p q it m kept =
        walked_then (used_walks a number p _ it.2 (split_meets at number it.0 it.1) kept) (λ k. tests_walk at number it.0 it.1 k
        (judged_meets program flow at b number _ q it.3 m) (known_meets program flow at (pos 0) number _ q it.4 m)
        (judged_walks at b number _ q it.3 m (kept_block it.0)))
    form_walks at ty (Or a b) number p q it m kept =
        walked_then (used_walks a number p _ it.2 (split_meets at number it.0 it.1) kept) (λ k. tests_walk at number it.0 it.1 k
        (known_meets program flow at (pos 1) number _ q it.3 m) (judged_meets program flow at b number _ q it.4 m)
        (judged_walks at b number _ q it.4 m (kept_block it.1)))
    form_walks at ty (Choice a b c) number p q it m kept =
        walked_then (used_walks a number p _ it.2 (split_meets at number it.0 it.1) kept) (λ k. tests_walk at number it.0 it.1 k
        (joined_meets program flow b number _ q it.3 m) (joined_meets program flow c number _ q it.4 m)
        (walked_then (joined_walks b number _ q it.3 m (kept_block it.0)) (λ _. joined_walks c number _ q it.4 m (kept_block it.1))))
    form_walks at ty (Comma a b) number p q it m kept =
        walked_then (walks a number p _ it.1 (does_meets at number graph.Drop it.0 refl (used_meets program flow b number it.0 q it.2 m)) kept)
        (λ k. used_walks b number it.0 q it.2 m (kept_past at number graph.Drop it.0 k))
    form_walks at ty (Assign a b) number p q it m kept =
        let later = does_meets at number _ q refl m in
        walked_then (used_walks a number p it.0 it.1 (used_meets program flow b (suc number) it.0 _ it.2 later) kept)
        (λ k. then_does b (suc number) it.0 at number _ q it.2 later k)
    form_walks at ty (Update op a b works_in gives) number p q it m kept =
        let later = does_meets at number _ q refl m in
        walked_then (then_does a number p at number _ it.0 it.1 (does_meets at number _ it.0 refl (used_meets program flow b (3 + number) it.0 _ it.2 later))
        kept) (λ k. then_does b (3 + number) it.0 at number _ q it.2 later k)
    form_walks at ty (Move a n direction gives) number p q it m kept =
        let later = does_meets at number _ q refl m in
        walked_then (then_does a number p at number _ it.0 it.1 (does_meets at number _ it.0 refl (used_meets program flow n (2 + number) it.0 _ it.2 later))
        kept) (λ k. then_does n (2 + number) it.0 at number _ q it.2 later k)
    form_walks at ty (Call function arguments) number p q it m kept =
        walked_past at number _ q (all_walk arguments number p _ it (does_meets at number _ q refl m) kept)
    form_walks at ty (Allocate allocator arguments element) number p q it m kept =
        walked_past at number _ q (all_walk arguments number p _ it.1 (does_meets at number _ q refl m) kept)
    form_walks at ty (Free a) number p q it m kept = then_does a number p at number _ q it (does_meets at number _ q refl m) kept

    -- an expression and then jumps, as after both edges of `&&`, `||` and `?:`
    joined_walks : (e : Typed) (number : ℕ) (p q : Point) {next : Next} → joined program flow e number p q → MeetsNext flow q next → Kept program flow p
        → Walked program flow q (points e next)
    joined_walks (Of at ty form) number p q it m kept =
        walked_joins it.2 (walked_use (Of at ty form) number it.0
        (form_walks at ty form number p _ it.1 (use_meets (Of at ty form) number it.0 (joins_meet it.2 m)) kept))

    judged_walks : (place : Place) (e : Typed) (number : ℕ) (p q : Point) {next : Next} → judged program flow place e number p q → MeetsNext flow q next
        → Kept program flow p → Walked program flow q (points e next)
    judged_walks place (Of at ty form) number p q it m kept =
        let later = does_meets place number graph.Judge it.0 refl (joins_meet it.2 m) in
        walked_joins it.2 (walked_past place number graph.Judge it.0
        (walked_use (Of at ty form) number _ (form_walks at ty form number p _ it.1 (use_meets (Of at ty form) number _ later) kept)))

    -- a list of expressions
    pub all_walk : (row : TypedList) (number : ℕ) (p q : Point) {next : Next} → used_all program flow row number p q → MeetsNext flow q next
        → Kept program flow p → Walked program flow q (points_in row next)
    all_walk NoMore number p q it m kept = walked_none (kept_same it kept)
    all_walk (Further e others) number p q it m kept =
        walked_then (used_walks e number p it.0 it.1 (all_meet program flow others (suc number) it.0 q it.2 m) kept)
        (λ k. all_walk others (suc number) it.0 q it.2 m k)
