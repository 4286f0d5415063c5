-- The code of an expression, by its form: for the contract of `lower_expression`.
use Rattle.std.proofs.Common.{◌≡◌, ℕ, suc, ◌+◌, ◌++◌, List, [], ◌∷◌, Option, Some, None, refl, sym, ap, subst}
use Rattle.std.specs.Prelude.{Result, Ok, Err, IfOk}
use Rattle.cs_types.specs.declared.int_type.IntType.{IntType}
use Rattle.cs_types.specs.declared.ctype.CType.{CType, Void, Int, Pointer', Array', Struct}
use Rattle.cs_types.specs.Shape.{Shape, void, shape_of}
use Rattle.cs_ast.specs.declared.place.Place.{Place}
use Rattle.cs_ast.specs.declared.typed.operator.Allocator.{Allocator}
use Rattle.cs_ast.specs.declared.typed.operator.BinOp.{BinOp}
use Rattle.cs_ast.specs.declared.typed.operator.Direction.{Direction}
use Rattle.cs_ast.specs.declared.typed.operator.Gives.{Gives}
use Rattle.cs_ast.specs.declared.typed.operator.Order.{Order}
use Rattle.cs_ast.specs.declared.typed.operator.Order.TheVariants.{PointerFirst, AmountFirst}
use Rattle.cs_ast.specs.TypedTree.{Typed, Of, Form, Index, Sum, Convert, Update, Move, Call, Allocate, TypedList}
use Rattle.cs_ast.specs.TypedProgram.{TypedProgram}
use Rattle.cs_meaning.specs.Access.{access_of}
use Rattle.cs_cfg.specs.ControlPoints.{Next, ControlPoint, first, points, points_of}
use Rattle.cs_cfg.specs.Fitting.{AddsPoints}
use Rattle.cs_cfg.specs.Graph as graph
use Rattle.cs_cfg.specs.Graph.{Work, Point, Flow}
use Rattle.cs_cfg.specs.GraphPoints.{MeetsNext}
use Rattle.cs_cfg.specs.Placing.{does, evaluates, evaluates_form, used, used_all}
use Rattle.cs_cfg.specs.Standing.{work_of}
use Rattle.cs_cfg.proofs.Choosing.{IsSilent, acts_silently}
use Rattle.cs_cfg.proofs.Fitting.{adds_both, adds_past}
use Rattle.cs_cfg.proofs.Meeting.{does_meets, same_meets, used_meets}
use Rattle.cs_lower.specs.Allocations.{HasArguments}
use Rattle.cs_lower.specs.Building.{Built, blocks, Has, Grows}
use Rattle.cs_lower.specs.Integers.{IsOfIntegers, FormIsOfIntegers, AddsIntegers}
use Rattle.cs_lower.specs.Expressions.{Evaluates, EvaluatesForm, Uses, UsesBoth, UsesAll, UsesAround, earlier, later, does_if, acted, fetched}
use Rattle.cs_lower.proofs.Built.{nothing_more, grows_on, adds_nothing}
use Rattle.cs_lower.proofs.Evaluating.{same_after}
use Rattle.cs_lower.proofs.Integers.{integers_same, integers_both, integers_past, integers_if, integers_after, local_integers, accessed_integer, acts_integers}

-- a property of a value that was made, if one was made
pub if_made : {T E : Type 0} {P Q : T → Type 0} (result : Result T E) → ((made : T) → P made → Q made) → IfOk result P → IfOk result Q
if_made (Ok made) onward h = onward made h
if_made (Err e) onward h = h

module _ {flow : Flow} where
  -- an optional operation that is no control point
  if_meets : (at : Place) (number : ℕ) (work : Option Work) (q : Point) {next : Next} → IsSilent at work → MeetsNext flow q next
      → MeetsNext flow (does_if at number work q) next
  if_meets at number None q silent m = m
  if_meets at number (Some work) q silent m = does_meets at number work q silent m

  if_adds : {some : List ControlPoint} {old new : List Point} (at : Place) (number : ℕ) (work : Option Work) (q : Point) → IsSilent at work
      → AddsPoints flow some (does_if at number work q ∷ old) new → AddsPoints flow some (q ∷ old) new
  if_adds at number None q silent rest = rest
  if_adds at number (Some work) q silent rest = adds_past at number work q silent rest

module _ {program : TypedProgram} {at : Place} {ty : Shape} {number : ℕ} {old new : Built} {p s q : Point} where
  -- the code of an expression's parts, before what is done with them; the form can be replaced by an equal one
  from_parts : {form it : Form} → form ≡ it → s ≡ acted program (Of at ty form) number q → Grows 0 old new
      → ((flow : Flow) → s ≡ acted program (Of at ty it) number q → Has flow new → HasArguments (Of at ty it)
      → evaluates_form program flow at ty it number p q)
      → ((flow : Flow) → Has flow new → HasArguments (Of at ty it) → (following : Next) → MeetsNext flow s following
      → AddsPoints flow (points_of at it following) (s ∷ blocks old) (p ∷ blocks new))
      → ((count : ℕ) → FormIsOfIntegers count it → AddsIntegers count (s ∷ blocks old) (p ∷ blocks new))
      → Evaluates program (Of at ty form) number old new p q
  from_parts {form = form} {it = it} is acts grows does adds integers =
      subst (λ f. s ≡ acted program (Of at ty f) number q → Evaluates program (Of at ty f) number old new p q) (sym is)
      (λ at_once. record {
        grows = grows;
        does = λ flow has args. does flow at_once has args;
        adds = λ flow has args following m.
            let silent = acts_silently program at ty it in
            let work = work_of program ty it in
            if_adds at number work q silent (same_after at_once (adds flow has args following (same_meets at_once (if_meets at number work q silent m))));
        integers = λ count ints.
            integers_if at number (work_of program ty it) q (acts_integers count program ty it ints) (integers_after at_once (integers count ints));
      }) acts

  -- an expression with one part, whose value is used
  pub part : {form it : Form} {a : Typed} → form ≡ it
      → ((flow : Flow) → used program flow a number p (acted program (Of at ty it) number q) → evaluates_form program flow at ty it number p q)
      → (HasArguments (Of at ty it) → HasArguments a) → ((count : ℕ) → FormIsOfIntegers count it → IsOfIntegers count a)
      → ((following : Next) → points a following ≡ points_of at it following)
      → s ≡ acted program (Of at ty form) number q → Uses program a number old new p s
      → Evaluates program (Of at ty form) number old new p q
  part {a = a} is does args integers points_are acts h = from_parts is acts h.grows
      (λ flow at_once has all. does flow (subst (λ r. used program flow a number p r) at_once (h.does flow has (args all))))
      (λ flow has all following m.
      subst (λ some. AddsPoints flow some (s ∷ blocks old) (p ∷ blocks new)) (points_are following) (h.adds flow has (args all) following m))
      (λ count ints. h.integers count (integers count ints))

  -- an expression with two parts, in the order in which they are evaluated
  pub pair : {form it : Form} {a b : Typed} → form ≡ it
      → ((flow : Flow) (r : Point) → used program flow a number p r → used program flow b (suc number) r (acted program (Of at ty it) number q)
      → evaluates_form program flow at ty it number p q)
      → (HasArguments (Of at ty it) → HasArguments a × HasArguments b)
      → ((count : ℕ) → FormIsOfIntegers count it → IsOfIntegers count a × IsOfIntegers count b)
      → ((following : Next) → points a (first b following) ++ points b following ≡ points_of at it following)
      → s ≡ acted program (Of at ty form) number q
      → UsesBoth program a b number old new p s → Evaluates program (Of at ty form) number old new p q
  pair {a = a} {b = b} is does args integers points_are acts h = from_parts is acts h.grows
      (λ flow at_once has all.
      let both = args all in
      let placed = h.does flow has both in
      does flow placed.0 placed.1 (subst (λ r. used program flow b (suc number) placed.0 r) at_once placed.2))
      (λ flow has all following m.
      let both = args all in
      subst (λ some. AddsPoints flow some (s ∷ blocks old) (p ∷ blocks new)) (points_are following) (h.adds flow has both following m))
      (λ count ints. h.integers count (integers count ints))

  -- a conversion to `void` doesn't use the value
  pub convert_away : {form : Form} {a : Typed} → form ≡ Convert a → ty ≡ void → s ≡ acted program (Of at ty form) number q
      → Evaluates program a number old new p s → Evaluates program (Of at ty form) number old new p q
  convert_away {a = a} is none acts h = from_parts is acts h.grows
      (λ flow at_once has all. away flow none (subst (λ r. evaluates program flow a number p r) at_once (h.does flow has all)))
      (λ flow has all following m. h.adds flow has all following m)
      (λ count ints. h.integers count ints)
    where
      away : (flow : Flow) → ty ≡ void → evaluates program flow a number p (acted program (Of at ty (Convert a)) number q)
          → evaluates_form program flow at ty (Convert a) number p q
      away flow is it =
          subst (λ t. evaluates program flow a number p (acted program (Of at t (Convert a)) number q)
          → evaluates_form program flow at t (Convert a) number p q) (sym is) (λ placed. placed) it

  pub call : {form : Form} {row : TypedList} {function : ℕ} → form ≡ Call function row → s ≡ acted program (Of at ty form) number q
      → UsesAll program row number old new p s → Evaluates program (Of at ty form) number old new p q
  call {row = row} is acts parts = from_parts is acts parts.grows
      (λ flow at_once has args. subst (λ r. used_all program flow row number p r) at_once (parts.does flow has args))
      (λ flow has args following m. parts.adds flow has args following m)
      (λ count ints. absurd ints)

  pub allocate : {form : Form} {row : TypedList} {allocator : Allocator} {element : Shape} → form ≡ Allocate allocator row element
      → s ≡ acted program (Of at ty form) number q → UsesAll program row number old new p s → Evaluates program (Of at ty form) number old new p q
  allocate {row = row} is acts parts = from_parts is acts parts.grows
      (λ flow at_once has args. (args.0, subst (λ r. used_all program flow row number p r) at_once (parts.does flow has args.1)))
      (λ flow has args following m. parts.adds flow has args.1 following m)
      (λ count ints. absurd ints)

  -- a form whose parts are lowered before the form is known to be that of the expression
  pub formed : {form it : Form} → form ≡ it
      → ((flow : Flow) → evaluates_form program flow at ty it number p (acted program (Of at ty it) number q)
      → evaluates_form program flow at ty it number p q)
      → s ≡ acted program (Of at ty form) number q → EvaluatesForm program at it number old new p s
      → Evaluates program (Of at ty form) number old new p q
  formed {it = it} is does acts parts = from_parts is acts parts.grows
      (λ flow at_once has args. does flow (subst (λ r. evaluates_form program flow at ty it number p r) at_once (parts.does flow has args ty)))
      (λ flow has args following m. parts.adds flow has args following m)
      (λ count ints. parts.integers count ints)

  -- a pointer and an amount, in their order of evaluation
  pub index : {form : Form} {a b : Typed} (order : Order) → form ≡ Index a b order → s ≡ acted program (Of at ty form) number q
      → UsesBoth program (earlier order a b) (later order a b) number old new p s → Evaluates program (Of at ty form) number old new p q
  index PointerFirst is acts h =
      pair is (λ flow r one other. (r, one, other)) (λ args. (args.0, args.1)) (λ count ints. absurd ints) (λ following. refl) acts h
  index AmountFirst is acts h = pair is (λ flow r one other. (r, one, other)) (λ args. (args.1, args.0)) (λ count ints. absurd ints) (λ following. refl)
      acts h

  pub sum : {form : Form} {a b : Typed} {direction : Direction} (order : Order) → form ≡ Sum a b direction order
      → s ≡ acted program (Of at ty form) number q
      → UsesBoth program (earlier order a b) (later order a b) number old new p s → Evaluates program (Of at ty form) number old new p q
  sum PointerFirst is acts h = pair is (λ flow r one other. (r, one, other)) (λ args. (args.0, args.1)) (λ count ints. absurd ints) (λ following. refl) acts
      h
  sum AmountFirst is acts h = pair is (λ flow r one other. (r, one, other)) (λ args. (args.1, args.0)) (λ count ints. absurd ints) (λ following. refl) acts
      h

-- an expression without parts
pub alone : {program : TypedProgram} {at : Place} {ty : Shape} {number : ℕ} {built : Built} {s q : Point} {form it : Form} → form ≡ it
    → ((flow : Flow) → evaluates_form program flow at ty it number (acted program (Of at ty it) number q) q)
    → ((following : Next) → points_of at it following ≡ []) → s ≡ acted program (Of at ty form) number q
    → Evaluates program (Of at ty form) number built built s q
alone {program = program} {at = at} {ty = ty} {number = number} {built = built} {s = s} {q = q} {it = it} is does points_are acts =
    from_parts is acts (nothing_more built)
    (λ flow at_once has args. subst (λ r. evaluates_form program flow at ty it number r q) (sym at_once) (does flow))
    (λ flow has args following m. subst (λ some. AddsPoints flow some (s ∷ blocks built) (s ∷ blocks built)) (sym (points_are following)) adds_nothing)
    (λ count ints. integers_same)

-- a conversion uses the value, except to `void`
pub convert : {program : TypedProgram} {at : Place} {number : ℕ} {old new : Built} {p s q : Point} {form : Form} {a : Typed} (to : CType)
    → (to ≡ Void → ⊥) → form ≡ Convert a → s ≡ acted program (Of at (shape_of to) form) number q
    → Uses program a number old new p s → Evaluates program (Of at (shape_of to) form) number old new p q
convert Void used is acts h = absurd (used refl)
convert (Int ty) used is acts h = part is (λ flow it. it) (λ args. args) (λ count ints. ints) (λ following. refl) acts h
convert (Pointer' place target) used is acts h = part is (λ flow it. it) (λ args. args) (λ count ints. ints) (λ following. refl) acts h
convert (Array' place element count) used is acts h = part is (λ flow it. it) (λ args. args) (λ count ints. ints) (λ following. refl) acts h
convert (Struct number) used is acts h = part is (λ flow it. it) (λ args. args) (λ count ints. ints) (λ following. refl) acts h

-- updates: the object is loaded between the two parts
module _ {program : TypedProgram} {at : Place} {ty : Shape} {number : ℕ} {old new : Built} {p s q : Point} where
  pub update : {form : Form} {a b : Typed} {op : BinOp} {works_in : IntType} {gives : Gives} → form ≡ Update op a b works_in gives
      → s ≡ acted program (Of at ty form) number q
      → UsesAround program (Of at ty form) a b 3 number old new p s → Evaluates program (Of at ty form) number old new p q
  update {form = form} {a = a} {b = b} {works_in = works_in} is acts parts =
      let load = graph.FetchNumber (access_of a) works_in in
      let r = parts.middle in
      let loads : fetched (Of at ty form) number r ≡ does at number load r = ap (λ f. fetched (Of at ty f) number r) is in
      from_parts is acts (grows_on parts.last.grows parts.one.grows)
      (λ flow at_once has args. (
        r,
        subst (λ u. used program flow a number p u) loads (parts.one.does flow has args.0),
        subst (λ u. used program flow b (3 + number) r u) at_once (parts.last.does flow (parts.one.grows.keeps flow has) args.1),
      ))
      (λ flow has args following m.
      let in_mid = parts.one.grows.keeps flow has in
      let loaded = does_meets at number load r refl (used_meets program flow b (3 + number) r s (parts.last.does flow in_mid args.1) m) in
      let object = parts.one.adds flow has args.0 (first b following) (same_meets loads loaded) in
      adds_both (parts.last.adds flow in_mid args.1 following m) (adds_past at number load r refl (same_after loads object)))
      (λ count ints.
      let before = parts.one.integers count (local_integers ints.0) in
      integers_both (parts.last.integers count ints.1) (integers_past at number load r (accessed_integer ints.0) (integers_after loads before)))

  pub move : {form : Form} {a b : Typed} {direction : Direction} {gives : Gives} → form ≡ Move a b direction gives
      → s ≡ acted program (Of at ty form) number q
      → UsesAround program (Of at ty form) a b 2 number old new p s → Evaluates program (Of at ty form) number old new p q
  move {form = form} {a = a} {b = b} is acts parts =
      let load = graph.FetchPointer (access_of a) in
      let r = parts.middle in
      let loads : fetched (Of at ty form) number r ≡ does at number load r = ap (λ f. fetched (Of at ty f) number r) is in
      from_parts is acts (grows_on parts.last.grows parts.one.grows)
      (λ flow at_once has args. (
        r,
        subst (λ u. used program flow a number p u) loads (parts.one.does flow has args.0),
        subst (λ u. used program flow b (2 + number) r u) at_once (parts.last.does flow (parts.one.grows.keeps flow has) args.1),
      ))
      (λ flow has args following m.
      let in_mid = parts.one.grows.keeps flow has in
      let loaded = does_meets at number load r refl (used_meets program flow b (2 + number) r s (parts.last.does flow in_mid args.1) m) in
      let object = parts.one.adds flow has args.0 (first b following) (same_meets loads loaded) in
      adds_both (parts.last.adds flow in_mid args.1 following m) (adds_past at number load r refl (same_after loads object)))
      (λ count ints. absurd ints)
