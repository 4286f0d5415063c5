-- The results of the rules for declared locals, part by part: for the declarations of blocks.
use Rattle.std.proofs.Common.{◌≡◌, Bool, false, cond, length, refl, ap, ◌∙◌}
use Rattle.cs_types.specs.Shape.{Shape}
use Rattle.cs_ast.specs.declared.raw.declaration.RawInit.{RawInit}
use Rattle.cs_scopes.specs.declared.refusal.TypeCode.TheVariants.{DeclaredTwice}
use Rattle.cs_scopes.specs.declared.refusal.TypeRefusal.{TypeRefusal}
use Rattle.cs_scopes.specs.Verdicts.{Verdict, Fine, Fault, lift, IsRefused}
use Rattle.cs_scopes.proofs.Lifting.{lift-refused}
use Rattle.cs_scopes.proofs.Lifting.{refused_as}
use Rattle.cs_consts.proofs.SingleParts.{lift_is}
use Rattle.cs_declarations.specs.Environment.{is_declared_here}
use Rattle.cs_declarations.specs.Objects.{object_type}
use Rattle.cs_declarations.proofs.FoldedSoFar.{GoesOver}
use Rattle.cs_statements.specs.Locals.{Inside, LocalDeclared, TypedStatements, with_local, local_initialized, local_added, after_local, locals_added}

-- the rule for a local whose name is new, once its type is known
abbrev local_rest : RawInit → Inside → Shape → Verdict LocalDeclared
local_rest d i ty = local_initialized (length i.variables) ty d.declarator.place d.initial (with_local d.declarator.name ty i)

module _ (base : Shape) (d : RawInit) (i : Inside) (new : is_declared_here d.declarator.name i.known ≡ false) where
  local_new : local_added base d i ≡ lift (local_rest d i) (object_type i.known.context base d)
  local_new = ap (λ (b : Bool). cond b (Fault DeclaredTwice d.declarator.place) (lift (local_rest d i) (object_type i.known.context base d))) new

  pub local_type_stops : (r : TypeRefusal) → IsRefused (object_type i.known.context base d) r → IsRefused (local_added base d i) r
  local_type_stops r h = refused_as r local_new (lift-refused (local_rest d i) _ r h)

  pub local_typed : (ty : Shape) → object_type i.known.context base d ≡ Fine ty
      → local_added base d i ≡ local_initialized (length i.variables) ty d.declarator.place d.initial (with_local d.declarator.name ty i)
  local_typed ty e = local_new ∙ lift_is (local_rest d i) _ ty e

-- the rule for a local after statements
abbrev pub local_after : Shape → RawInit → TypedStatements → Verdict TypedStatements
local_after base d so_far = lift (after_local so_far.statements) (local_added base d so_far.inside)

pub locals_over : (base : Shape) → GoesOver (locals_added base) (local_after base)
locals_over base = (λ ds d so_far. refl, λ so_far. refl)
