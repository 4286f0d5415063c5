-- The code of expressions, one after another: for the contracts of the functions that `lower_expression` calls.
use Rattle.std.proofs.Common.{◌≡◌, ℕ, ℤ, suc, ◌+◌, ◌-◌, ◌≤◌, pos, List, ◌∷◌, length, drop, get_or, drop-cons, refl, sym, ap}
use Rattle.std.proofs.Common.{subst}
use Rattle.std.proofs.Common.{◌∙◌, arith}
use Rattle.cs_types.specs.Shape.{Shape, void}
use Rattle.cs_ast.specs.declared.place.Place.{Place}
use Rattle.cs_ast.specs.declared.typed.expression.Expr.{Expr}
use Rattle.cs_ast.specs.TypedView.{typed, typed_list}
use Rattle.cs_ast.specs.TypedTree.{Typed, Of, And, Or, Choice, Comma, NoMore}
use Rattle.cs_ast.specs.TypedProgram.{TypedProgram}
use Rattle.cs_events.specs.declared.point.PointKind.TheVariants as point
use Rattle.cs_cfg.specs.ControlPoints.{met, ControlPoint, first, first_in, points_in}
use Rattle.cs_cfg.specs.Fitting.{AddsPoints}
use Rattle.cs_cfg.specs.Graph as graph
use Rattle.cs_cfg.specs.Graph.{Point, Flow, block_of}
use Rattle.cs_cfg.specs.Placing.{does, split, used_then, Joins, there, jumps, evaluates, evaluates_form, used, used_all, joined, judged}
use Rattle.cs_cfg.proofs.Choosing.{adds_use, and_adds, or_adds, choice_adds}
use Rattle.cs_cfg.proofs.Fitting.{adds_both, adds_past, then_nothing}
use Rattle.cs_cfg.proofs.Meeting.{joins_meet, does_meets, split_meets, same_meets, use_meets, used_meets, all_meet}
use Rattle.cs_lower.specs.Allocations.{HasArguments, AllHaveArguments}
use Rattle.cs_lower.specs.Building.{jump_to, Built, blocks, Has}
use Rattle.cs_lower.specs.Integers.{AddsIntegers}
use Rattle.cs_lower.specs.Sealing.{Seals}
use Rattle.cs_lower.specs.Expressions.{Evaluates, EvaluatesForm, Uses, UsesBoth, UsesAll, UsesIn}
use Rattle.cs_lower.proofs.Built.{nothing_more, grows_on, adds_nothing}
use Rattle.cs_lower.proofs.Integers.{integers_both, integers_end, integers_past, integers_after, used_integers}

module _ {flow : Flow} {some : List ControlPoint} where
  -- the point after the code can be replaced by an equal one, and so can the point before it
  pub same_after : {old new : List Point} {s t : Point} → s ≡ t → AddsPoints flow some (s ∷ old) new → AddsPoints flow some (t ∷ old) new
  same_after {old = old} {new = new} is adds = subst (λ r. AddsPoints flow some (r ∷ old) new) is adds

  pub same_before : {old new : List Point} {p t : Point} → p ≡ t → AddsPoints flow some old (t ∷ new) → AddsPoints flow some old (p ∷ new)
  same_before {old = old} {new = new} is adds = subst (λ r. AddsPoints flow some old (r ∷ new)) (sym is) adds

-- the two branches of `&&` and `||`, of which one computes the truth of a number and the other is a constant, and the test before them
judged_integers : {count one other : ℕ} {old sealed with_way with_both new : List Point} {q p : Point} (at : Place) (number end : ℕ) (known : ℤ)
    → AddsIntegers count (q ∷ old) sealed → AddsIntegers count (does at number graph.Judge (jump_to end) ∷ sealed) with_way
    → AddsIntegers count (does at number (graph.Number known) (jump_to end) ∷ with_way) with_both
    → AddsIntegers count (split at number one other ∷ with_both) (p ∷ new) → AddsIntegers count (q ∷ old) (p ∷ new)
judged_integers at number end known ends way knows tests =
    integers_both ends (integers_both (integers_end (integers_past at number graph.Judge (jump_to end) tt way))
    (integers_both (integers_end (integers_past at number (graph.Number known) (jump_to end) tt knows)) (integers_end tests)))

module _ (program : TypedProgram) (flow : Flow) where
  -- a jump to a block leads to the point that the block is
  pub jump_joins : (end : ℕ) (q : Point) → block_of flow end ≡ q → Joins program flow (jump_to end) q
  jump_joins end q is = jumps (subst (λ p. Joins program flow p q) (sym is) there)

  used_is : (e : Typed) (number : ℕ) (p q : Point) → evaluates program flow e number p (used_then e number q) → used program flow e number p q
  used_is (Of at ty form) number p q h = h

  joined_is : (e : Typed) (number : ℕ) (p r q : Point) → used program flow e number p r → Joins program flow r q → joined program flow e number p q
  joined_is (Of at ty form) number p r q h j = (r, h, j)

  judged_is : (at : Place) (e : Typed) (number : ℕ) (p r q : Point) → used program flow e number p (does at number graph.Judge r) → Joins program flow r q
      → judged program flow at e number p q
  judged_is place (Of at ty form) number p r q h j = (r, h, j)

module _ {program : TypedProgram} where
  -- an expression whose value is used
  pub uses : {e : Typed} {number : ℕ} {old new : Built} {p s q : Point} → s ≡ used_then e number q → Evaluates program e number old new p s
      → Uses program e number old new p q
  uses {e = e} {number = number} {p = p} {q = q} is h = record {
    grows = h.grows;
    does = λ flow has args. used_is program flow e number p q (subst (λ s. evaluates program flow e number p s) is (h.does flow has args));
    adds = λ flow has args following m. adds_use e number q (same_after is (h.adds flow has args following (same_meets is (use_meets e number q m))));
    integers = λ count ints. used_integers e number q ints (integers_after is (h.integers count ints));
  }

  -- an expression at the beginning of a block
  pub uses_in : {e : Typed} {number block : ℕ} {old mid new : Built} {p q : Point} → Uses program e number old mid p q → Seals mid new block p
      → UsesIn program e number old new block q
  uses_in {e = e} {number = number} {q = q} h seals = record {
    grows = grows_on h.grows seals.grows;
    does = λ flow has args. subst (λ p. used program flow e number p q) (sym (seals.is flow has)) (h.does flow (seals.grows.keeps flow has) args);
    adds = λ flow has args following m. then_nothing (h.adds flow (seals.grows.keeps flow has) args following m) (seals.adds flow);
    integers = λ count ints. integers_both (h.integers count ints) (seals.integers count);
  }

  -- two expressions
  pub uses_both : {one other : Typed} {number next : ℕ} {old mid new : Built} {p r q : Point} → next ≡ 1 + number → Uses program other next old mid r q
      → Uses program one number mid new p r → UsesBoth program one other number old new p q
  uses_both {other = other} {number = number} {next = next} {r = r} {q = q} above last before =
      let is : next ≡ suc number = omega arith in
      record {
        grows = grows_on last.grows before.grows;
        does = λ flow has args.
            (r, before.does flow has args.0, subst (λ (n : ℕ). used program flow other n r q) is (last.does flow (before.grows.keeps flow has) args.1));
        adds = λ flow has args following m.
            let in_mid = before.grows.keeps flow has in
            let other_meets = used_meets program flow other next r q (last.does flow in_mid args.1) m in
            adds_both (last.adds flow in_mid args.1 following m) (before.adds flow has args.0 (first other following) other_meets);
        integers = λ count ints. integers_both (last.integers count ints.1) (before.integers count ints.0);
      }

  -- lists of expressions
  pub uses_none : (number : ℕ) (built : Built) (p : Point) → UsesAll program NoMore number built built p p
  uses_none number built p = record {
    grows = nothing_more built;
    does = λ flow has args. refl;
    adds = λ flow has args following m. adds_nothing;
    integers = λ count ints. absurd ints;
  }

  -- one more expression of a list, whose last one is lowered first
  pub uses_further : {here : ℕ} {old mid new : Built} {p r q : Point} (row : List Expr) (left number : ℕ) (e : Expr) → 1 ≤ left → left ≤ length row
      → e ≡ get_or row (left - 1) e → here ≡ left - 1 + number
      → UsesAll program (typed_list (drop left row)) (left + number) old mid r q → Uses program (typed e) here mid new p r
      → UsesAll program (typed_list (drop (left - 1) row)) (left - 1 + number) old new p q
  uses_further {old = old} {new = new} {p = p} {r = r} {q = q} row left number e some within is at last one =
      let next : left ≡ suc (left - 1) = omega arith in
      let above : left + number ≡ suc (left - 1 + number) = omega arith in
      let cut : drop (left - 1) row ≡ e ∷ drop left row =
      drop-cons row (left - 1) e (omega arith) ∙ (ap (λ x. x ∷ drop (suc (left - 1)) row) (sym is) ∙ ap (λ (n : ℕ). e ∷ drop n row) (sym next)) in
      record {
        grows = grows_on last.grows one.grows;
        does = λ flow has args.
            let both = subst (λ l. AllHaveArguments (typed_list l)) cut args in
            subst (λ l. used_all program flow (typed_list l) (left - 1 + number) p q) (sym cut) (
              r,
              subst (λ (n : ℕ). used program flow (typed e) n p r) at (one.does flow has both.0),
              subst (λ (n : ℕ). used_all program flow (typed_list (drop left row)) n r q) above (last.does flow (one.grows.keeps flow has) both.1),
            );
        adds = λ flow has args following m.
            let both = subst (λ l. AllHaveArguments (typed_list l)) cut args in
            let rest = typed_list (drop left row) in
            let in_mid = one.grows.keeps flow has in
            let meets = all_meet program flow rest (left + number) r q (last.does flow in_mid both.1) m in
            subst (λ l. AddsPoints flow (points_in (typed_list l) following) (q ∷ blocks old) (p ∷ blocks new)) (sym cut)
            (adds_both (last.adds flow in_mid both.1 following m) (one.adds flow has both.0 (first_in rest following) meets));
        integers = λ count ints. absurd ints;
      }

  -- the comma
  pub commas : {at : Place} {a b : Typed} {number : ℕ} {old mid new : Built} {p s r q : Point} → Uses program b number old mid r q
      → s ≡ does at number graph.Drop r → Evaluates program a number mid new p s → EvaluatesForm program at (Comma a b) number old new p q
  commas {at = at} {a = a} {b = b} {number = number} {p = p} {r = r} {q = q} last is one = record {
    grows = grows_on last.grows one.grows;
    does =
        λ flow has args ty. (
          r,
          subst (λ s. evaluates program flow a number p s) is (one.does flow has args.0),
          last.does flow (one.grows.keeps flow has) args.1,
        );
    adds = λ flow has args following m.
        let in_mid = one.grows.keeps flow has in
        let dropped = does_meets at number graph.Drop r refl (used_meets program flow b number r q (last.does flow in_mid args.1) m) in
        adds_both (last.adds flow in_mid args.1 following m)
        (adds_past at number graph.Drop r refl (same_after is (one.adds flow has args.0 (first b following) (same_meets is dropped))));
    integers = λ count ints.
        integers_both (last.integers count ints.1) (integers_past at number graph.Drop r tt (integers_after is (one.integers count ints.0)));
  }

  -- the branches of an operator, each of which ends with a jump to one block
  pub ands : {at : Place} {a b : Typed} {number end one other : ℕ} {old x y z new : Built} {p q s t : Point} → Seals old x end q
      → s ≡ does at number graph.Judge (jump_to end) → UsesIn program b number x y one s
      → Seals y z other (does at number (graph.Number (pos 0)) (jump_to end)) → t ≡ split at number one other → Uses program a number z new p t
      → EvaluatesForm program at (And a b) number old new p q
  ands {at = at} {a = a} {b = b} {number = number} {end = end} {one = one} {other = other} {z = z} {new = new} {p = p} {q = q} ends judges way knows tests
      test =
      let joins : (flow : Flow) → Has flow z → Joins program flow (jump_to end) q = λ flow in_z.
      jump_joins program flow end q (ends.is flow (way.grows.keeps flow (knows.grows.keeps flow in_z))) in
      let placed : (flow : Flow) → Has flow new → HasArguments a × HasArguments b
      → (ty : Shape) → evaluates_form program flow at ty (And a b) number p q = λ flow has args ty.
      let in_z = test.grows.keeps flow has in
      let in_y = knows.grows.keeps flow in_z in (
        one,
        other,
        subst (λ r. used program flow a number p r) tests (test.does flow has args.0),
        judged_is program flow at b number (block_of flow one) (jump_to end) q
            (subst (λ r. used program flow b number (block_of flow one) r) judges (way.does flow in_y args.1)) (joins flow in_z),
        (jump_to end, knows.is flow in_z, joins flow in_z),
      ) in
      record {
        grows = grows_on ends.grows (grows_on way.grows (grows_on knows.grows test.grows));
        does = placed;
        adds = λ flow has args following m.
            let in_z = test.grows.keeps flow has in
            let in_y = knows.grows.keeps flow in_z in
            let truth = does_meets at number graph.Judge (jump_to end) refl (joins_meet (joins flow in_z) m) in
            let right = same_after judges (way.adds flow in_y args.1 following (same_meets judges truth)) in
            let left = same_after tests (test.adds flow has args.0 (met point.Branch at) (same_meets tests (split_meets at number one other))) in
            and_adds program flow at void number end following p q m a b (placed flow has args void) (ends.adds flow) right (knows.adds flow) left;
        integers = λ count ints. judged_integers at number end (pos 0) (ends.integers count) (integers_after judges (way.integers count ints.1))
            (knows.integers count) (integers_after tests (test.integers count ints.0));
      }

  pub ors : {at : Place} {a b : Typed} {number end one other : ℕ} {old x y z new : Built} {p q s t : Point} → Seals old x end q
      → s ≡ does at number graph.Judge (jump_to end) → UsesIn program b number x y other s
      → Seals y z one (does at number (graph.Number (pos 1)) (jump_to end)) → t ≡ split at number one other → Uses program a number z new p t
      → EvaluatesForm program at (Or a b) number old new p q
  ors {at = at} {a = a} {b = b} {number = number} {end = end} {one = one} {other = other} {z = z} {new = new} {p = p} {q = q} ends judges way knows tests test =
      let joins : (flow : Flow) → Has flow z → Joins program flow (jump_to end) q = λ flow in_z.
      jump_joins program flow end q (ends.is flow (way.grows.keeps flow (knows.grows.keeps flow in_z))) in
      let placed : (flow : Flow) → Has flow new → HasArguments a × HasArguments b
      → (ty : Shape) → evaluates_form program flow at ty (Or a b) number p q = λ flow has args ty.
      let in_z = test.grows.keeps flow has in
      let in_y = knows.grows.keeps flow in_z in (
        one,
        other,
        subst (λ r. used program flow a number p r) tests (test.does flow has args.0),
        (jump_to end, knows.is flow in_z, joins flow in_z),
        judged_is program flow at b number (block_of flow other) (jump_to end) q
            (subst (λ r. used program flow b number (block_of flow other) r) judges (way.does flow in_y args.1)) (joins flow in_z),
      ) in
      record {
        grows = grows_on ends.grows (grows_on way.grows (grows_on knows.grows test.grows));
        does = placed;
        adds = λ flow has args following m.
            let in_z = test.grows.keeps flow has in
            let in_y = knows.grows.keeps flow in_z in
            let truth = does_meets at number graph.Judge (jump_to end) refl (joins_meet (joins flow in_z) m) in
            let right = same_after judges (way.adds flow in_y args.1 following (same_meets judges truth)) in
            let left = same_after tests (test.adds flow has args.0 (met point.Branch at) (same_meets tests (split_meets at number one other))) in
            or_adds program flow at void number end following p q m a b (placed flow has args void) (ends.adds flow) right (knows.adds flow) left;
        integers = λ count ints. judged_integers at number end (pos 1) (ends.integers count) (integers_after judges (way.integers count ints.1))
            (knows.integers count) (integers_after tests (test.integers count ints.0));
      }

  pub chooses : {at : Place} {a b c : Typed} {number end one other : ℕ} {old x y z new : Built} {p q t u v : Point} → Seals old x end q
      → u ≡ jump_to end → UsesIn program b number x y one u → v ≡ jump_to end → UsesIn program c number y z other v
      → t ≡ split at number one other → Uses program a number z new p t → EvaluatesForm program at (Choice a b c) number old new p q
  chooses {at = at} {a = a} {b = b} {c = c} {number = number} {end = end} {one = one} {other = other} {y = y} {new = new} {p = p} {q = q} ends jump_one way_one
      jump_other way_other tests test =
      let joins : (flow : Flow) → Has flow y → Joins program flow (jump_to end) q = λ flow in_y.
      jump_joins program flow end q (ends.is flow (way_one.grows.keeps flow in_y)) in
      let placed : (flow : Flow) → Has flow new → HasArguments a × HasArguments b × HasArguments c
      → (ty : Shape) → evaluates_form program flow at ty (Choice a b c) number p q = λ flow has args ty.
      let in_z = test.grows.keeps flow has in
      let in_y = way_other.grows.keeps flow in_z in (
        one,
        other,
        subst (λ r. used program flow a number p r) tests (test.does flow has args.0),
        joined_is program flow b number (block_of flow one) (jump_to end) q
            (subst (λ r. used program flow b number (block_of flow one) r) jump_one (way_one.does flow in_y args.1)) (joins flow in_y),
        joined_is program flow c number (block_of flow other) (jump_to end) q
            (subst (λ r. used program flow c number (block_of flow other) r) jump_other (way_other.does flow in_z args.2)) (joins flow in_y),
      ) in
      record {
        grows = grows_on ends.grows (grows_on way_one.grows (grows_on way_other.grows test.grows));
        does = placed;
        adds = λ flow has args following m.
            let in_z = test.grows.keeps flow has in
            let in_y = way_other.grows.keeps flow in_z in
            let on = joins_meet (joins flow in_y) m in
            let second = same_after jump_one (way_one.adds flow in_y args.1 following (same_meets jump_one on)) in
            let third = same_after jump_other (way_other.adds flow in_z args.2 following (same_meets jump_other on)) in
            let left = same_after tests (test.adds flow has args.0 (met point.Branch at) (same_meets tests (split_meets at number one other))) in
            choice_adds program flow at void number end following p q m a b c (placed flow has args void) (ends.adds flow) second third left;
        integers = λ count ints.
            integers_both (ends.integers count) (integers_both (integers_end (integers_after jump_one (way_one.integers count ints.1)))
            (integers_both (integers_end (integers_after jump_other (way_other.integers count ints.2)))
            (integers_end (integers_after tests (test.integers count ints.0)))));
      }
