-- Acts that read no input, with any answers, and the runs that consist of them.
use Rattle.std.proofs.Common.{◌≡◌, ℕ, ℤ, Bool, true, false, List, Option, None, Some}
use Rattle.std.proofs.Common.{if◌then◌else◌, refl, sym, ap, ◌∙◌, subst}
use Rattle.cs_types.specs.declared.data_model.DataModel.{DataModel}
use Rattle.cs_types.specs.declared.int_type.IntType.{IntType}
use Rattle.cs_types.specs.Shape.{Shape}
use Rattle.cs_ast.specs.declared.place.Place.{Place}
use Rattle.cs_ast.specs.declared.typed.operator.BinOp.{BinOp}
use Rattle.cs_ast.specs.declared.typed.operator.BinOp.TheVariants.{Add, Sub, Mul, Div, Rem, Shl, Shr, And, Xor, Or}
use Rattle.cs_ast.specs.declared.typed.operator.CmpOp.{CmpOp}
use Rattle.cs_events.specs.declared.input.Lookup.{Lookup}
use Rattle.cs_events.specs.declared.operation.Operation.{Operation}
use Rattle.cs_events.specs.declared.operation.Operation.TheVariants as operation
use Rattle.cs_events.specs.declared.outcome.Outcome.{Outcome}
use Rattle.cs_events.specs.Objects.{Object, Cell, NumberCell, NullCell, PointerCell, UnsetCell}
use Rattle.cs_events.specs.Touches.{Touch}
use Rattle.cs_events.specs.Acts.{Act, Goes, Stops, Asks, Reaches, Touches}
use Rattle.cs_events.specs.Runs.{Setting, Log, Performed, Continues, Finishes, perform, allows_event, Leads, stays, goes as leads_on}
use Rattle.cs_meaning.specs.Access as access
use Rattle.cs_meaning.specs.Operators as operators

-- what holds for both branches holds for a conditional
pub either : {A : Type 0} (P : A → Type 0) (b : Bool) (one other : A) → P one → P other → P (if b then one else other)
either P true one other first second = first
either P false one other first second = second

module _ {S : Type 0} (Is : S → Type 0) where
  -- an act that reads no input, after which the machine only continues with states for which `Is` holds
  pub data Keeps : Act S → Type 0 where
    goes : {next : S} → Is next → Keeps (Goes next)
    stops : {outcome : Outcome} → Keeps (Stops outcome)
    asks : {at : Place} {operation : Operation} {onward : ℤ → Act S} → ((number : ℤ) → Keeps (onward number)) → Keeps (Asks at operation onward)
    reaches : {at : Place} {object : Object} {offset : ℤ} {act : Act S} → Keeps act → Keeps (Reaches at object offset act)
    touches : {touch : Touch} {act : Act S} → Keeps act → Keeps (Touches touch act)

  -- performing such an act reads nothing
  abbrev pub HasRead : List Lookup → Performed S → Type 0
  HasRead read (Continues next log) = Is next × (log.read ≡ read)
  HasRead read (Finishes outcome log) = log.read ≡ read

  performs : (setting : Setting) {act : Act S} → Keeps act → (log : Log) → HasRead log.read (perform setting log act)
  unfolding perform
  performs setting (goes is) log = (is, refl)
  performs setting stops log = refl
  performs setting (asks keeps) log = either (HasRead log.read) (allows_event setting log) _ _ (performs setting (keeps _) _) refl
  performs setting (reaches keeps) log = either (HasRead log.read) (allows_event setting log) _ _ (performs setting keeps _) refl
  performs setting (touches keeps) log = performs setting keeps _

  module _ (step : S → Act S) (setting : Setting) (each : (m : S) → Is m → Keeps (step m)) where
    on_the_way : {m last : S} {log end : Log} → Leads step setting m log last end → Is m → Is last × (end.read ≡ log.read)
    on_the_way (stays e f) is = (subst Is e is, ap (λ (l : Log). l.read) (sym f))
    on_the_way {m = m} {log = log} (leads_on {next = next} {later = later} e rest) is =
        let one : Is next × (later.read ≡ log.read) = subst (HasRead log.read) e (performs setting (each m is) log) in
        let more = on_the_way rest one.0 in
        (more.0, more.1 ∙ one.1)

    pub at_end : {m last : S} {log before end : Log} {outcome : Outcome} → Leads step setting m log last before
        → perform setting before (step last) ≡ Finishes outcome end → Is m → end.read ≡ log.read
    at_end {last = last} {before = before} leads finishes is =
        let there = on_the_way leads is in
        let one = subst (HasRead before.read) finishes (performs setting (each last there.0) before) in
        one ∙ there.1

  -- operators
  pub truth : (at : Place) (cell : Cell) (onward : Bool → Act S) → ((b : Bool) → Keeps (onward b)) → Keeps (operators.truth at cell onward)
  truth at (NumberCell n) onward keeps = keeps _
  truth at NullCell onward keeps = asks (λ n. keeps false)
  truth at (PointerCell object offset) onward keeps = asks (λ n. keeps true)
  truth at UnsetCell onward keeps = keeps false

  checked : (model : DataModel) (at : Place) (operator : BinOp) (ty : IntType) (right : ℤ) (act : Act S) → Keeps act
      → Keeps (operators.checked model at operator ty right act)
  checked model at Add ty right act keeps = keeps
  checked model at Sub ty right act keeps = keeps
  checked model at Mul ty right act keeps = keeps
  checked model at Div ty right act keeps = either Keeps _ _ act stops keeps
  checked model at Rem ty right act keeps = either Keeps _ _ act stops keeps
  checked model at Shl ty right act keeps = either Keeps _ act _ keeps stops
  checked model at Shr ty right act keeps = either Keeps _ act _ keeps stops
  checked model at And ty right act keeps = keeps
  checked model at Xor ty right act keeps = keeps
  checked model at Or ty right act keeps = keeps

  pub operate : (model : DataModel) (at : Place) (operator : BinOp) (ty : IntType) (left right : ℤ) (onward : ℤ → Act S)
      → ((n : ℤ) → Keeps (onward n)) → Keeps (operators.operate model at operator ty left right onward)
  operate model at operator ty left right onward keeps =
      checked model at operator ty right (Asks at (operation.Binary operator ty left right) onward) (asks keeps)

  pub convert_number : (model : DataModel) (at : Place) (from : Shape) (to : IntType) (number : ℤ) (onward : ℤ → Act S)
      → ((n : ℤ) → Keeps (onward n)) → Keeps (operators.convert_number model at from to number onward)
  convert_number model at from to number onward keeps =
      either Keeps (operators.takes_all model from to) (onward number) (Asks at (operation.Convert to number) onward) (keeps number) (asks keeps)

  look : (at : Place) (cell : Cell) (act : Act S) → Keeps act → Keeps (access.look at cell act)
  look at NullCell act keeps = asks (λ n. keeps)
  look at (PointerCell object offset) act keeps = asks (λ n. keeps)
  look at (NumberCell n) act keeps = keeps
  look at UnsetCell act keeps = keeps

  one_object : (at : Place) (found : Option (ℤ × ℤ)) (act : Act S) → Keeps act → Keeps (operators.one_object at found act)
  one_object at None act keeps = stops
  one_object at (Some offsets) act keeps = keeps

  equality : (at : Place) (operator : CmpOp) (same : Bool) (found : Option (ℤ × ℤ)) (onward : ℤ → Act S) → ((n : ℤ) → Keeps (onward n))
      → Keeps (operators.equality at operator same found onward)
  equality at operator same None onward keeps = asks (λ n. keeps _)
  equality at operator same (Some offsets) onward keeps = asks keeps

  pub compare : (at : Place) (operator : CmpOp) (left right : Cell) (onward : ℤ → Act S) → ((n : ℤ) → Keeps (onward n))
      → Keeps (operators.compare at operator left right onward)
  compare at operator left right onward keeps =
      either Keeps _ _ _
      (look at left _ (look at right _ (either Keeps _ _ _ (one_object at _ _ (asks keeps)) (equality at operator _ _ onward keeps)))) (asks keeps)

  pub touched : (touch : ℕ → Touch) (local : Option ℕ) (act : Act S) → Keeps act → Keeps (access.touches_then touch local act)
  touched touch None act keeps = keeps
  touched touch (Some declaration) act keeps = touches keeps
