-- The literals after an initializer begin with those before it: for statements and objects with initializers.
use Rattle.std.proofs.Common.{List, [], ◌∷◌}
use Rattle.std.specs.Prelude.{Some}
use Rattle.cs_types.specs.Shape.{Shape, void, integer, pointer, array, struct}
use Rattle.cs_ast.specs.declared.place.Place.{Place}
use Rattle.cs_ast.specs.declared.raw.expression.RawExpr.{RawExpr}
use Rattle.cs_ast.specs.declared.raw.declaration.RawInitial.{RawInitial}
use Rattle.cs_ast.specs.declared.raw.declaration.RawInitial as first_value
use Rattle.cs_scopes.specs.declared.context.Context.{Context}
use Rattle.cs_consts.specs.Roles.{operand_of}
use Rattle.cs_expressions.specs.Primary.{Literals}
use Rattle.cs_scopes.specs.Faults.{least_code}
use Rattle.cs_scopes.specs.Verdicts.{lift}
use Rattle.cs_declarations.specs.Initializers.{Storage, has_form, types_or_none, Reading, Readings, value_read, expression_read, parts_read}
use Rattle.cs_scopes.specs.Parts.{part_types}
use Rattle.cs_declarations.specs.Initializers.{one_more, initial_read, items_read, whole_fault, scalar_limit, whole_read}
use Rattle.cs_declarations.specs.Initializers.{initial_judged, kept_with, initial_typed}
use Rattle.cs_well_formed.proofs.Names.{Begins, begins-self, begins-trans, literals-begin}
use Rattle.cs_well_formed.proofs.Verdicts.{IfFine, if_fine-any, lift-then, cond-then, unless_fault-then}

-- the literals after an initializer begin with these
abbrev pub GoesOnFrom : Literals → Reading → Type 0
GoesOnFrom literals r = Begins literals r.1

abbrev GoOnFrom : Literals → Readings → Type 0
GoOnFrom literals r = Begins literals r.1

module _ (c : Context) where
  value-begins : (literals : Literals) (ty : Shape) (e : RawExpr)
      → IfFine (lift (value_read literals e.kind.value) (operand_of c literals (Some ty) e)) (GoesOnFrom literals)
  value-begins literals ty e =
      lift-then (λ _. Unit {0}) (GoesOnFrom literals) (value_read literals e.kind.value) _ (if_fine-any (operand_of c literals (Some ty) e))
      (λ v _. literals-begin literals e.kind.value)

  expression-begins : (literals : Literals) (ty : Shape) (e : RawExpr) → IfFine (expression_read c literals ty e) (GoesOnFrom literals)
  expression-begins literals (array element count) e = begins-self literals
  expression-begins literals void e = value-begins literals void e
  expression-begins literals (integer ty) e = value-begins literals (integer ty) e
  expression-begins literals (pointer target) e = value-begins literals (pointer target) e
  expression-begins literals (struct number) e = value-begins literals (struct number) e

  mutual
    initial-begins : (literals : Literals) (ty : Shape) (raw : RawInitial) → IfFine (initial_read c literals ty raw) (GoesOnFrom literals)
    initial-begins literals ty (first_value.TheVariants.Value e) = expression-begins literals ty e
    initial-begins literals ty (first_value.TheVariants.List' shape row comma) =
        lift-then (GoOnFrom literals) (GoesOnFrom literals) parts_read _ (items-begin literals (types_or_none (part_types c.table.list ty)) row) (λ r h. h)

    items-begin : (literals : Literals) (types : List Shape) {n : _} (row : first_value.Row_of-RawInitial n)
        → IfFine (items_read c literals types row) (GoOnFrom literals)
    items-begin literals types first_value.end_of-RawInitial = begins-self literals
    items-begin literals [] (first_value.more_of-RawInitial first others) = begins-self literals
    items-begin literals (ty ∷ types) (first_value.more_of-RawInitial first others) =
        lift-then (GoesOnFrom literals) (GoOnFrom literals) (λ (r : Reading). lift (one_more r.0) (items_read c r.1 types others))
        (initial_read c literals ty first) (initial-begins literals ty first)
        (λ r h.
        lift-then (GoOnFrom r.1) (GoOnFrom literals) (one_more r.0) (items_read c r.1 types others) (items-begin r.1 types others)
        (λ more k. begins-trans literals r.1 more.1 h k))

  pub initial_typed-begins : (literals : Literals) (storage : Storage) (at : Place) (ty : Shape) (raw : RawInitial)
      → IfFine (initial_typed c literals storage at ty raw) (GoesOnFrom literals)
  initial_typed-begins literals storage at ty raw =
      cond-then (GoesOnFrom literals) (has_form c.table.list storage ty raw) _ _
      (λ _. lift-then (GoesOnFrom literals) (GoesOnFrom literals) _ (whole_read c literals storage at ty raw)
      (unless_fault-then (GoesOnFrom literals) at
      (least_code (scalar_limit c.table.list storage ty raw) (whole_fault c literals storage at ty raw)) (initial_read c literals ty raw)
      (λ _. initial-begins literals ty raw))
      (λ r h.
      lift-then (λ _. Unit {0}) (GoesOnFrom literals) (kept_with r.1) (initial_judged c storage at ty r.0)
      (if_fine-any (initial_judged c storage at ty r.0)) (λ found _. h)))
      (λ _. tt)
