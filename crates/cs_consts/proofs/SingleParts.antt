-- The results of the rules of productions with one part: `++` and `--`, prefix operators, members, sizes and sequences.
use Rattle.std.proofs.Common.{◌≡◌, ℤ, List, ap, subst, ◌∙◌, Result, Ok, Err}
use Rattle.std.specs.Prelude.{OnOk}
use Rattle.cs_types.specs.Shape.{Shape}
use Rattle.cs_ast.specs.declared.place.Place.{Place}
use Rattle.cs_ast.specs.declared.typed.expression.Expr.{Expr}
use Rattle.cs_ast.specs.declared.typed.operator.BinOp.{BinOp}
use Rattle.cs_ast.specs.declared.typed.operator.Gives.{Gives}
use Rattle.cs_ast.specs.TypedTree.{Typed}
use Rattle.cs_scopes.specs.declared.context.Context.{Context}
use Rattle.cs_scopes.specs.declared.refusal.TypeRefusal.{TypeRefusal}
use Rattle.cs_scopes.specs.declared.refusal.TypeCode.{TypeCode}
use Rattle.cs_scopes.specs.Verdicts.{Verdict, Fine, Fault, lift, lift2, IsRefused, Yields}
use Rattle.cs_expressions.specs.Stores.{steppable}
use Rattle.cs_scopes.specs.TypeNames.{complete_at}
use Rattle.cs_consts.specs.Typing.{stepped_object, size_alone, measured_arrays, measured_type_name}
use Rattle.cs_scopes.proofs.Lifting.{lift-fine, lift2-fine, lift2-second, lift-refused, lift2-refused-first, lift2-refused-second, yields_as}
use Rattle.cs_scopes.proofs.Lifting.{refused_as}

pub lift_is : {A B : Type 0} (rule : A → Verdict B) (v : Verdict A) (a : A) → v ≡ Fine a → lift rule v ≡ rule a
lift_is rule v a e = ap (lift rule) e ∙ lift-fine rule a

pub lift2_is : {A B C : Type 0} (rule : A → B → Verdict C) (v : Verdict A) (w : Verdict B) (a : A) (b : B) → v ≡ Fine a → w ≡ Fine b
    → lift2 rule v w ≡ rule a b
lift2_is rule v w a b e f = ap (λ x. lift2 rule x w) e ∙ ap (lift2 rule (Fine a)) f ∙ lift2-fine rule a b

-- one typed part, to which the rule is applied
pub part_taken : (rule : Typed → Verdict Typed) (v : Verdict Typed) (e : Typed) (result : Result Expr TypeRefusal) → v ≡ Fine e → Yields (rule e) result
    → Yields (lift rule v) result
part_taken rule v e result f h = yields_as result (lift_is rule v e f) h

pub parts_taken : (rule : Typed → Typed → Verdict Typed) (v w : Verdict Typed) (a b : Typed) (result : Result Expr TypeRefusal) → v ≡ Fine a
    → w ≡ Fine b → Yields (rule a b) result → Yields (lift2 rule v w) result
parts_taken rule v w a b result e f h = yields_as result (lift2_is rule v w a b e f) h

pub second_stops : (rule : Typed → Typed → Verdict Typed) (v w : Verdict Typed) (a : Typed) (r : TypeRefusal) → v ≡ Fine a → IsRefused w r
    → IsRefused (lift2 rule v w) r
second_stops rule v w a r e h = refused_as r (ap (λ x. lift2 rule x w) e) (lift2-refused-second rule a w r h)

-- `++` and `--`
pub step_object_stops : (c : Context) (at : Place) (op : BinOp) (gives : Gives) (v : Verdict Typed) (r : TypeRefusal) → IsRefused v r
    → IsRefused (lift (stepped_object c op gives at) (lift (steppable c.table.list op at) v)) r
step_object_stops c at op gives v r h = lift-refused (stepped_object c op gives at) _ r (lift-refused (steppable c.table.list op at) v r h)

pub step_steppable_stops : (c : Context) (at : Place) (op by : BinOp) (gives : Gives) (v : Verdict Typed) (e : Typed) (r : TypeRefusal) → by ≡ op
    → v ≡ Fine e → IsRefused (steppable c.table.list by at e) r
    → IsRefused (lift (stepped_object c op gives at) (lift (steppable c.table.list op at) v)) r
step_steppable_stops c at op by gives v e r same f h =
    subst (λ o. IsRefused (lift (stepped_object c o gives at) (lift (steppable c.table.list o at) v)) r) same
    (lift-refused (stepped_object c by gives at) _ r (refused_as r (lift_is (steppable c.table.list by at) v e f) h))

pub step_taken : (c : Context) (at : Place) (op by : BinOp) (gives : Gives) (v : Verdict Typed) (e o : Typed) (result : Result Expr TypeRefusal) → by ≡ op
    → v ≡ Fine e → steppable c.table.list by at e ≡ Fine o → Yields (stepped_object c by gives at o) result
    → Yields (lift (stepped_object c op gives at) (lift (steppable c.table.list op at) v)) result
step_taken c at op by gives v e o result same f g h =
    subst (λ x. Yields (lift (stepped_object c x gives at) (lift (steppable c.table.list x at) v)) result) same
    (yields_as result (lift_is (stepped_object c by gives at) _ o (lift_is (steppable c.table.list by at) v e f ∙ g)) h)

-- `sizeof` of a type
module _ (c : Context) (at : Place) (base : Verdict Shape) (ns : List ℤ) (bounds : Verdict (Unit {0})) where
  pub size_base_stops : (r : TypeRefusal) → IsRefused base r → IsRefused (measured_type_name c at base ns bounds) r
  size_base_stops r h =
      lift2-refused-first size_alone _ bounds r (lift-refused (measured_arrays c at ns) _ r (lift-refused (complete_at c.table.list at) base r h))

  module _ (ty : Shape) (is_base : base ≡ Fine ty) where
    pub size_complete_stops : (r : TypeRefusal) → IsRefused (complete_at c.table.list at ty) r → IsRefused (measured_type_name c at base ns bounds) r
    size_complete_stops r h =
        lift2-refused-first size_alone _ bounds r
        (lift-refused (measured_arrays c at ns) _ r (refused_as r (lift_is (complete_at c.table.list at) base ty is_base) h))

    module _ (whole : Shape) (is_whole : complete_at c.table.list at ty ≡ Fine whole) where
      measured_is : lift (measured_arrays c at ns) (lift (complete_at c.table.list at) base) ≡ measured_arrays c at ns whole
      measured_is = lift_is (measured_arrays c at ns) _ whole (lift_is (complete_at c.table.list at) base ty is_base ∙ is_whole)

      pub size_stops : (r : TypeRefusal) → IsRefused (measured_arrays c at ns whole) r → IsRefused (measured_type_name c at base ns bounds) r
      size_stops r h = lift2-refused-first size_alone _ bounds r (refused_as r measured_is h)

      pub size_taken : (size : Typed) → measured_arrays c at ns whole ≡ Fine size → bounds ≡ Fine tt
          → measured_type_name c at base ns bounds ≡ Fine size
      size_taken size is_size none =
          ap (λ x. lift2 size_alone x bounds) (measured_is ∙ is_size) ∙ ap (lift2 size_alone (Fine size)) none ∙ lift2-fine size_alone size tt

      pub size_bounds_stop : (size : Typed) (code : TypeCode) (place : Place) → measured_arrays c at ns whole ≡ Fine size → bounds ≡ Fault code place
          → measured_type_name c at base ns bounds ≡ Fault code place
      size_bounds_stop size code place is_size refused =
          ap (λ x. lift2 size_alone x bounds) (measured_is ∙ is_size) ∙ ap (lift2 size_alone (Fine size)) refused
          ∙ lift2-second size_alone size code place

-- what always holds also holds if a call returns a value
pub on_ok : {A E P : Type 0} (result : Result A E) → P → OnOk result P
on_ok (Ok value) p = p
on_ok (Err error) p = tt
