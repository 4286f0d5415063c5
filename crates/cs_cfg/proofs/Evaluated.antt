-- What evaluating an expression puts on the machine's list is done at the point of the expression. For the simulation.
use Rattle.std.proofs.Common.{◌≡◌, ℕ, suc, ◌+◌, List, ◌∷◌, length, arith, refl, sym, subst}
use Rattle.cs_types.specs.Shape.{Shape, void, integer, pointer, array, struct}
use Rattle.cs_ast.specs.declared.place.Place.{Place}
use Rattle.cs_ast.specs.declared.typed.operator.Order.TheVariants.{PointerFirst, AmountFirst}
use Rattle.cs_ast.specs.TypedTree.{Typed, Of, Form, Number, Null, Text, Local, Global, Through, Index, Member, Arrow, Load, Address, Decay, Convert, Unary, Not}
use Rattle.cs_ast.specs.TypedTree.{Binary, Compare, Sum, Difference, And, Or, Choice, Comma, Assign, Update, Move, Call, Allocate, Free, TypedList, NoMore}
use Rattle.cs_ast.specs.TypedTree.{Further}
use Rattle.cs_ast.specs.TypedProgram.{TypedProgram}
use Rattle.cs_ast.specs.declared.typed.operator.Direction.TheVariants.{Forward}
use Rattle.cs_events.specs.declared.outcome.RunBudgets.{RunBudgets}
use Rattle.cs_events.specs.Simulation.{alone}
use Rattle.cs_meaning.specs.Types.{size_of, type_of, integer_of}
use Rattle.cs_meaning.specs.Access.{access_of}
use Rattle.cs_meaning.specs.Machine.{Item, Evaluate, EvaluateUnused, Act, Fetch, Choose, Use, Drop, to_do}
use Rattle.cs_meaning.specs.Expressions as lists
use Rattle.cs_meaning.specs.Expressions.{uses, count_all}
use Rattle.cs_cfg.specs.Graph as graph
use Rattle.cs_cfg.specs.Graph.{Work, Point, Code}
use Rattle.cs_cfg.specs.Working.{takes}
use Rattle.cs_cfg.specs.Placing.{does, split, step_of, evaluates_form, used, used_all}
use Rattle.cs_cfg.specs.Standing.{worked}
use Rattle.cs_cfg.proofs.Related.{now}
use Rattle.cs_cfg.proofs.Moving.{Home, stands, onward, right_there, with_depth, aligned, Answered}

module _ (code : Code) (program : TypedProgram) {function : ℕ} (home : Home code program function) where
  -- an operation that leaves a temporary in place of its operands
  pub works : (at : Place) (work : Work) (items : List Item) (depth number : ℕ) (p q : Point) → depth ≡ takes work + number
      → p ≡ does at number work q →
      onward code program home items (suc number) q → worked at work 1 (onward code program home items) depth p
  works at work items depth number p q e placed s =
      let one_more : suc number ≡ 1 + number = omega arith in
      (number, q, e, placed, with_depth code program home items q one_more s)

  -- an operation without operands
  leaf : (at : Place) (work : Work) (items : List Item) (depth : ℕ) (p q : Point) → takes work ≡ 0 → p ≡ does at depth work q →
      onward code program home items (suc depth) q → worked at work 1 (onward code program home items) depth p
  leaf at work items depth p q none placed s = let e : depth ≡ takes work + depth = omega arith in works at work items depth depth p q e placed s

  -- one part, then an operation on it
  of_one : (a : Typed) (at : Place) (work : Work) (act : Item) (items : List Item) (depth : ℕ) (p q : Point) →
      ((number : ℕ) (r : Point) → worked at work 1 (onward code program home items) number r → stands code program home (act ∷ items) number r) →
      takes work ≡ 1 → used program home.flow a depth p (does at depth work q) → onward code program home items (suc depth) q
      → stands code program home (Evaluate a ∷ (act ∷ items)) depth p
  of_one a at work act items depth p q acts one placed s =
      let e : suc depth ≡ takes work + depth = omega arith in
      let r = does at depth work q in
      (r, placed, right_there code program home (act ∷ items) (suc depth) r (acts (suc depth) r (works at work items (suc depth) depth r q e refl s)))

  -- two parts, then an operation on them
  of_two : (a b : Typed) (at : Place) (work : Work) (act : Item) (items : List Item) (depth : ℕ) (p r q : Point) →
      ((number : ℕ) (r : Point) → worked at work 1 (onward code program home items) number r → stands code program home (act ∷ items) number r) →
      takes work ≡ 2 → used program home.flow a depth p r → used program home.flow b (suc depth) r (does at depth work q)
      → onward code program home items (suc depth) q →
      stands code program home (Evaluate a ∷ (Evaluate b ∷ (act ∷ items))) depth p
  of_two a b at work act items depth p r q acts two placed also s =
      let e : suc (suc depth) ≡ takes work + depth = omega arith in
      let v = does at depth work q in (
        r,
        placed,
        right_there code program home (Evaluate b ∷ (act ∷ items)) (suc depth) r (
          v,
          also,
          right_there code program home (act ∷ items) (suc (suc depth)) v
              (acts (suc (suc depth)) v (works at work items (suc (suc depth)) depth v q e refl s)),
        ),
      )

  -- a list of expressions
  in_row : (arguments : TypedList) (items : List Item) (depth : ℕ) (p q : Point) → used_all program home.flow arguments depth p q →
      stands code program home items (count_all arguments + depth) q → stands code program home (lists.evaluates_all arguments items) depth p
  in_row NoMore items depth p q placed s =
      let none : count_all NoMore + depth ≡ depth = omega arith in
      subst (λ x. stands code program home items depth x) (sym placed) (subst (λ d. stands code program home items d q) none s)
  in_row (Further e others) items depth p q placed s =
      let more : count_all (Further e others) + depth ≡ count_all others + suc depth = omega arith in
      let following = lists.evaluates_all others items in (
        placed.0,
        placed.1,
        right_there code program home following (suc depth) placed.0
            (in_row others items (suc depth) placed.0 q placed.2 (subst (λ d. stands code program home items d q) more s)),
      )

  -- the same, then an operation on them
  of_row : (arguments : TypedList) (at : Place) (work : Work) (act : Item) (items : List Item) (depth : ℕ) (p q : Point) →
      ((number : ℕ) (r : Point) → worked at work 1 (onward code program home items) number r → stands code program home (act ∷ items) number r) →
      count_all arguments ≡ takes work → used_all program home.flow arguments depth p (does at depth work q)
      → onward code program home items (suc depth) q →
      stands code program home (lists.evaluates_all arguments (act ∷ items)) depth p
  of_row arguments at work act items depth p q acts count placed s =
      let e : count_all arguments + depth ≡ takes work + depth = omega arith in
      let r = does at depth work q in
      in_row arguments (act ∷ items) depth p r placed
      (acts (count_all arguments + depth) r (works at work items (count_all arguments + depth) depth r q e refl s))

  -- a conversion
  converts : (at : Place) (ty : Shape) (a : Typed) (items : List Item) (depth : ℕ) (p q : Point)
      → evaluates_form program home.flow at ty (Convert a) depth p q →
      onward code program home items (suc depth) q → stands code program home (lists.evaluates (Of at ty (Convert a)) items) depth p
  converts at void a items depth p q placed s =
      let e : suc depth ≡ 1 + depth = omega arith in
      let r = does at depth (graph.Convert (type_of a) void) q in
      let acting = Act (Of at void (Convert a)) in (
        r,
        placed,
        right_there code program home (acting ∷ items) (suc depth) r (works at (graph.Convert (type_of a) void) items (suc depth) depth r q e refl s),
      )
  converts at (integer to) a items depth p q placed s =
      of_one a at (graph.Convert (type_of a) (integer to)) (Act (Of at (integer to) (Convert a))) items depth p q (λ n r w. w) refl placed s
  converts at (pointer to) a items depth p q placed s =
      of_one a at (graph.Convert (type_of a) (pointer to)) (Act (Of at (pointer to) (Convert a))) items depth p q (λ n r w. w) refl placed s
  converts at (array element count) a items depth p q placed s =
      of_one a at (graph.Convert (type_of a) (array element count)) (Act (Of at (array element count) (Convert a))) items depth p q (λ n r w. w) refl placed s
  converts at (struct tag) a items depth p q placed s =
      of_one a at (graph.Convert (type_of a) (struct tag)) (Act (Of at (struct tag) (Convert a))) items depth p q (λ n r w. w) refl placed s

  -- the parts of an expression, then what is done with them
  pub parts_stand : (at : Place) (ty : Shape) (form : Form) (items : List Item) (depth : ℕ) (p q : Point)
      → evaluates_form program home.flow at ty form depth p q →
      onward code program home items (suc depth) q → stands code program home (lists.evaluates (Of at ty form) items) depth p
  parts_stand at ty (Number n) items depth p q placed s = leaf at (graph.Number n) items depth p q refl placed s
  parts_stand at ty Null items depth p q placed s = leaf at graph.Null items depth p q refl placed s
  parts_stand at ty (Text literal) items depth p q placed s = leaf at (graph.Text literal) items depth p q refl placed s
  parts_stand at ty (Local declaration) items depth p q placed s = leaf at (graph.Local declaration) items depth p q refl placed s
  parts_stand at ty (Global global) items depth p q placed s = leaf at (graph.Global global) items depth p q refl placed s
  parts_stand at ty (Through a) items depth p q placed s = (q, placed, s)
  parts_stand at ty (Address a) items depth p q placed s = (q, placed, s)
  parts_stand at ty (Decay a) items depth p q placed s = (q, placed, s)
  parts_stand at ty (Index a i PointerFirst) items depth p q placed s =
      of_two a i at (graph.Sum (size_of program ty) Forward PointerFirst) (Act (Of at ty (Index a i PointerFirst))) items depth p placed.0 q (λ n r w. w) refl
      placed.1 placed.2 s
  parts_stand at ty (Index a i AmountFirst) items depth p q placed s =
      of_two i a at (graph.Sum (size_of program ty) Forward AmountFirst) (Act (Of at ty (Index a i AmountFirst))) items depth p placed.0 q (λ n r w. w) refl
      placed.1 placed.2 s
  parts_stand at ty (Member a offset) items depth p q placed s =
      of_one a at (graph.Member offset) (Act (Of at ty (Member a offset))) items depth p q (λ n r w. w) refl placed s
  parts_stand at ty (Arrow a offset) items depth p q placed s =
      of_one a at (graph.Arrow offset) (Act (Of at ty (Arrow a offset))) items depth p q (λ n r w. w) refl placed s
  parts_stand at ty (Load a) items depth p q placed s =
      of_one a at (graph.Load (access_of a)) (Act (Of at ty (Load a))) items depth p q (λ n r w. w) refl placed s
  parts_stand at ty (Convert a) items depth p q placed s = converts at ty a items depth p q placed s
  parts_stand at ty (Unary op a) items depth p q placed s =
      of_one a at (graph.Unary op (integer_of ty)) (Act (Of at ty (Unary op a))) items depth p q (λ n r w. w) refl placed s
  parts_stand at ty (Not a) items depth p q placed s = of_one a at graph.Not (Act (Of at ty (Not a))) items depth p q (λ n r w. w) refl placed s
  parts_stand at ty (Binary op a b) items depth p q placed s =
      of_two a b at (graph.Binary op (integer_of ty)) (Act (Of at ty (Binary op a b))) items depth p placed.0 q (λ n r w. w) refl placed.1 placed.2 s
  parts_stand at ty (Compare op a b) items depth p q placed s =
      of_two a b at (graph.Compare op) (Act (Of at ty (Compare op a b))) items depth p placed.0 q (λ n r w. w) refl placed.1 placed.2 s
  parts_stand at ty (Sum a n direction PointerFirst) items depth p q placed s =
      of_two a n at (graph.Sum (step_of program ty) direction PointerFirst) (Act (Of at ty (Sum a n direction PointerFirst))) items depth p placed.0 q
      (λ n r w. w) refl placed.1 placed.2 s
  parts_stand at ty (Sum a n direction AmountFirst) items depth p q placed s =
      of_two n a at (graph.Sum (step_of program ty) direction AmountFirst) (Act (Of at ty (Sum a n direction AmountFirst))) items depth p placed.0 q
      (λ n r w. w) refl placed.1 placed.2 s
  parts_stand at ty (Difference a b) items depth p q placed s =
      of_two a b at (graph.Difference (step_of program (type_of a))) (Act (Of at ty (Difference a b))) items depth p placed.0 q (λ n r w. w) refl placed.1
      placed.2 s
  parts_stand at ty (And a b) items depth p q placed s =
      let r = split at depth placed.0 placed.1 in
      let choosing = Choose (Of at ty (And a b)) in
      (r, placed.2, right_there code program home (choosing ∷ items) (suc depth) r (depth, placed.0, placed.1, refl, refl, (q, placed.3, placed.4, s)))
  parts_stand at ty (Or a b) items depth p q placed s =
      let r = split at depth placed.0 placed.1 in
      let choosing = Choose (Of at ty (Or a b)) in
      (r, placed.2, right_there code program home (choosing ∷ items) (suc depth) r (depth, placed.0, placed.1, refl, refl, (q, placed.3, placed.4, s)))
  parts_stand at ty (Choice a b c) items depth p q placed s =
      let r = split at depth placed.0 placed.1 in
      let choosing = Choose (Of at ty (Choice a b c)) in
      (r, placed.2, right_there code program home (choosing ∷ items) (suc depth) r (depth, placed.0, placed.1, refl, refl, (q, placed.3, placed.4, s)))
  parts_stand at ty (Comma a b) items depth p q placed s =
      let one_more : suc depth ≡ 1 + depth = omega arith in
      let none : depth ≡ 0 + depth = omega arith in
      let r = placed.0 in
      let v = does at depth graph.Drop r in
      let following = Evaluate b ∷ items in (
        v,
        placed.1,
        right_there code program home (Drop ∷ following) (suc depth) v
            (at, (depth, r, one_more, refl, with_depth code program home following r none (right_there code program home following depth r (q, placed.2, s)))),
      )
  parts_stand at ty (Assign a b) items depth p q placed s =
      of_two a b at (graph.Store (access_of a)) (Act (Of at ty (Assign a b))) items depth p placed.0 q (λ n r w. w) refl placed.1 placed.2 s
  parts_stand at ty (Update op a b works_in gives) items depth p q placed s =
      let one_more : suc depth ≡ 1 + depth = omega arith in
      let e : suc (3 + depth) ≡ 4 + depth = omega arith in
      let expression = Of at ty (Update op a b works_in gives) in
      let work = graph.Update op (access_of a) works_in gives in
      let r = placed.0 in
      let v = does at depth (graph.FetchNumber (access_of a) works_in) r in
      let w = does at depth work q in (
        v,
        placed.1,
        right_there code program home (Fetch expression ∷ (Evaluate b ∷ (Act expression ∷ items))) (suc depth) v (
          depth,
          r,
          one_more,
          refl,
          right_there code program home (Evaluate b ∷ (Act expression ∷ items)) (3 + depth) r (
            w,
            placed.2,
            right_there code program home (Act expression ∷ items) (suc (3 + depth)) w (works at work items (suc (3 + depth)) depth w q e refl s),
          ),
        ),
      )
  parts_stand at ty (Move a n direction gives) items depth p q placed s =
      let one_more : suc depth ≡ 1 + depth = omega arith in
      let e : suc (2 + depth) ≡ 3 + depth = omega arith in
      let expression = Of at ty (Move a n direction gives) in
      let work = graph.Move (access_of a) (step_of program (type_of a)) direction gives in
      let r = placed.0 in
      let v = does at depth (graph.FetchPointer (access_of a)) r in
      let w = does at depth work q in (
        v,
        placed.1,
        right_there code program home (Fetch expression ∷ (Evaluate n ∷ (Act expression ∷ items))) (suc depth) v (
          depth,
          r,
          one_more,
          refl,
          right_there code program home (Evaluate n ∷ (Act expression ∷ items)) (2 + depth) r (
            w,
            placed.2,
            right_there code program home (Act expression ∷ items) (suc (2 + depth)) w (works at work items (suc (2 + depth)) depth w q e refl s),
          ),
        ),
      )
  parts_stand at ty (Call callee arguments) items depth p q placed s =
      of_row arguments at (graph.Call callee (count_all arguments)) (Act (Of at ty (Call callee arguments))) items depth p q (λ n r w. w) refl placed s
  parts_stand at ty (Allocate allocator arguments element) items depth p q placed s =
      of_row arguments at (graph.Allocate allocator element) (Act (Of at ty (Allocate allocator arguments element))) items depth p q (λ n r w. w) placed.0
      placed.1 s
  parts_stand at ty (Free a) items depth p q placed s = of_one a at graph.Free (Act (Of at ty (Free a))) items depth p q (λ n r w. w) refl placed s

  -- an expression whose value is used
  pub used_stands : (e : Typed) (items : List Item) (depth : ℕ) (p q : Point) → used program home.flow e depth p q →
      onward code program home items (suc depth) q → stands code program home (lists.evaluates e (uses e items)) depth p
  used_stands (Of at ty (Call callee arguments)) items depth p q placed s =
      let r = does at depth graph.Use q in
      let e : suc depth ≡ takes graph.Use + depth = omega arith in
      parts_stand at ty (Call callee arguments) (Use at ∷ items) depth p r placed
      (right_there code program home (Use at ∷ items) (suc depth) r (works at graph.Use items (suc depth) depth r q e refl s))
  used_stands (Of at ty form) items depth p q placed s = parts_stand at ty form items depth p q placed s

module _ (code : Code) (program : TypedProgram) (budgets : RunBudgets) where
  -- the machine evaluates an expression, and the code's run stays where it is
  pub evaluate_answers : (e : Typed) → Answered code program budgets (Evaluate e)
  evaluate_answers e items m home here callers s waiting =
      let put = lists.evaluates e (uses e items) in
      alone refl (now (aligned code program (to_do put m) home here callers
      (right_there code program home put (length m.frame.stack) here (used_stands code program home e items (length m.frame.stack) here s.0 s.1 s.2)) waiting))

  -- an expression whose value is dropped or made void
  pub evaluate_unused_answers : (e : Typed) → Answered code program budgets (EvaluateUnused e)
  evaluate_unused_answers (Of at ty form) items m home here callers s waiting =
      let put = lists.evaluates (Of at ty form) items in
      alone refl (now (aligned code program (to_do put m) home here callers
      (right_there code program home put (length m.frame.stack) here (parts_stand code program home at ty form items (length m.frame.stack) here s.0 s.1 s.2))
      waiting))
