-- The values of the items so far, before those of the remaining items: for the loops over items.
use Rattle.std.proofs.Common.{◌≡◌, ℕ, suc, ◌≤◌, List, [], ◌∷◌, ◌++◌, drop, length, Some, None, refl, sym, ap, ◌∙◌, Vec, Global}
use Rattle.std.proofs.Common.{Bool, Option}
use Rattle.std.specs.Option.{option_or}
use Rattle.std.proofs.Math.ListN.{drop_of_length-le}
use Rattle.std.specs.Prelude.{slice_get}
use Rattle.cs_types.specs.Shape.{Shape}
use Rattle.cs_ast.specs.declared.raw.declaration.RawInitial as first_value
use Rattle.cs_ast.specs.declared.raw.declaration.RawInitial.{RawInitial}
use Rattle.cs_ast.specs.declared.raw.expression.RawExpr.{RawExpr}
use Rattle.cs_ast.specs.declared.typed.expression.Expr.{Expr}
use Rattle.cs_ast.specs.declared.typed.statement.Initial.{Initial as Held}
use Rattle.cs_ast.specs.TypedTree.{Initials, Value, NoPart, Part, Parts}
use Rattle.cs_ast.specs.TypedView.{typed, initial, initial_list}
use Rattle.cs_scopes.specs.declared.context.Context.{Context}
use Rattle.cs_ast.specs.declared.place.Place.{Place}
use Rattle.cs_scopes.specs.declared.refusal.TypeCode.{TypeCode}
use Rattle.cs_scopes.specs.declared.refusal.TypeRefusal.{TypeRefusal}
use Rattle.cs_scopes.specs.Faults.{unless_stopped}
use Rattle.cs_consts.specs.Roles.{operand_of}
use Rattle.cs_expressions.specs.Primary.{Literals}
use Rattle.cs_consts.specs.Typing.{literals_after}
use Rattle.cs_scopes.specs.Verdicts.{Verdict, Fine, Fault, lift, IsRefused}
use Rattle.cs_scopes.proofs.Lifting.{lift-fine, lift-fault, lift-refused}
use Rattle.cs_consts.proofs.SingleParts.{lift_is}
use Rattle.cs_scopes.proofs.Lifting.{refused_as}
use Rattle.cs_declarations.specs.Initializers.{Reading, Readings, types_or_none, value_read, expression_read, parts_read, one_more, initial_read}
use Rattle.cs_scopes.specs.Parts.{part_types}
use Rattle.cs_declarations.specs.Initializers.{items_read, list_read}
use Rattle.cs_declarations.proofs.PartTypes.{types_from, types_past}
use Rattle.cs_declarations.proofs.WrittenLists.{items_of}

-- an expression for an object other than an array
module _ (c : Context) (literals : Literals) (ty : Shape) (e : RawExpr)
    (plain : expression_read c literals ty e ≡ lift (value_read literals e.kind.value) (operand_of c literals (Some ty) e)) where
  pub operand_refused : (r : TypeRefusal) → IsRefused (operand_of c literals (Some ty) e) r → IsRefused (expression_read c literals ty e) r
  operand_refused r h = refused_as r plain (lift-refused (value_read literals e.kind.value) _ r h)

  pub operand_read : (v : Expr) (following : Literals) → operand_of c literals (Some ty) e ≡ Fine (typed v)
      → following ≡ literals_after literals e.kind.value → expression_read c literals ty e ≡ Fine (Value (typed v), following)
  operand_read v following h texts = plain ∙ lift_is (value_read literals e.kind.value) _ (typed v) h ∙ ap (λ ls. Fine (Value (typed v), ls)) (sym texts)

-- values before others
abbrev pub before : List Held → Initials → Initials
before [] others = others
before (first ∷ list) others = Part (initial first) (before list others)

-- values that were read before others
abbrev pub following : List Held → Readings → Verdict Readings
following list r = Fine (before list r.0, r.1)

pub before-push : (list : List Held) (v : Held) (others : Initials) → before list (Part (initial v) others) ≡ before (list ++ v ∷ []) others
before-push [] v others = refl
before-push (first ∷ list) v others = ap (Part (initial first)) (before-push list v others)

pub before-all : (list : List Held) → before list NoPart ≡ initial_list list
before-all [] = refl
before-all (first ∷ list) = ap (Part (initial first)) (before-all list)

-- rules that are equal for each value are equal after a result
same_rule : {A B : Type 0} (f g : A → Verdict B) → ((a : A) → f a ≡ g a) → (v : Verdict A) → lift f v ≡ lift g v
same_rule f g h (Fine value) = lift-fine f value ∙ h value ∙ sym (lift-fine g value)
same_rule f g h (Fault code place) = lift-fault f code place ∙ sym (lift-fault g code place)

read-row : (c : Context) (literals : Literals) (types : List Shape) (n : _) (row : first_value.Row_of-RawInitial n)
    → list_read c literals types (first_value.items-the_row-RawInitial n row) ≡ items_read c literals types row
read-row c literals [] n first_value.end_of-RawInitial = refl
read-row c literals (ty ∷ types) n first_value.end_of-RawInitial = refl
read-row c literals [] n (first_value.more_of-RawInitial first others) = refl
read-row c literals (ty ∷ types) n (first_value.more_of-RawInitial first others) =
    same_rule (λ (r : Reading). lift (one_more r.0) (list_read c r.1 types (first_value.items-the_row-RawInitial _ others)))
    (λ (r : Reading). lift (one_more r.0) (items_read c r.1 types others))
    (λ r. ap (lift (one_more r.0)) (read-row c r.1 types _ others)) (initial_read c literals ty first)

no_types : (c : Context) (literals : Literals) (items : List RawInitial) → list_read c literals [] items ≡ Fine (NoPart, literals)
no_types c literals [] = refl
no_types c literals (first ∷ others) = refl

no_items : (c : Context) (literals : Literals) (types : List Shape) → list_read c literals types [] ≡ Fine (NoPart, literals)
no_items c literals [] = refl
no_items c literals (ty ∷ types) = refl

-- the values of a list
module _ (c : Context) (literals : Literals) (ty : Shape) (v : RawInitial) (list : Vec RawInitial Global) (comma : Bool)
    (is : v ≡ first_value.TheVariants.List list comma) where
  pub initial_read-List : initial_read c literals ty v ≡ lift parts_read (list_read c literals (types_or_none (part_types c.table.list ty)) list.items)
  initial_read-List =
      let row = items_of (first_value.TheVariants.List list comma) in
      ap (initial_read c literals ty) is ∙ ap (lift parts_read) (sym (read-row c literals (types_or_none (part_types c.table.list ty)) row.0 row.1))
      ∙ ap (λ xs. lift parts_read (list_read c literals (types_or_none (part_types c.table.list ty)) xs))
      (first_value.items_hidden-the_row-RawInitial-0 list)

  pub list_values : (types : List Shape) → part_types c.table.list ty ≡ Some types
      → initial_read c literals ty v ≡ lift parts_read (list_read c literals types list.items)
  list_values types parts = initial_read-List ∙ ap (λ p. lift parts_read (list_read c literals (types_or_none p) list.items)) parts

  pub list_refused : (types : List Shape) (r : TypeRefusal) → part_types c.table.list ty ≡ Some types
      → IsRefused (list_read c literals types list.items) r → IsRefused (initial_read c literals ty v) r
  list_refused types r parts h = refused_as r (list_values types parts) (lift-refused parts_read _ r h)

  pub list_is : (types : List Shape) (found : Readings) → part_types c.table.list ty ≡ Some types → list_read c literals types list.items ≡ Fine found
      → initial_read c literals ty v ≡ Fine (Parts found.0, found.1)
  list_is types found parts h = list_values types parts ∙ lift_is parts_read _ found h

  pub no_values : part_types c.table.list ty ≡ None → initial_read c literals ty v ≡ Fine (Parts NoPart, literals)
  no_values parts = initial_read-List ∙ ap (λ p. lift parts_read (list_read c literals (types_or_none p) list.items)) parts
      ∙ lift_is parts_read _ (NoPart, literals) (no_types c literals list.items)

-- more values are read after those of a list
regrouped : (list : List Held) (v : Held) (rest : Verdict Readings)
    → lift (following list) (lift (one_more (initial v)) rest) ≡ lift (following (list ++ v ∷ [])) rest
regrouped list v (Fine r) =
    ap (lift (following list)) (lift-fine (one_more (initial v)) r) ∙ lift-fine (following list) (Part (initial v) r.0, r.1)
    ∙ ap (λ all. Fine (all, r.1)) (before-push list v r.0) ∙ sym (lift-fine (following (list ++ v ∷ [])) r)
regrouped list v (Fault code place) =
    ap (lift (following list)) (lift-fault (one_more (initial v)) code place) ∙ lift-fault (following list) code place
    ∙ sym (lift-fault (following (list ++ v ∷ [])) code place)

none_yet : (v : Verdict Readings) → lift (following []) v ≡ v
none_yet (Fine r) = lift-fine (following []) r
none_yet (Fault code place) = lift-fault (following []) code place

-- the first part with a type error
stopped : {A : Type 0} (refused : Option (TypeCode × Place)) {code : TypeCode} {place : Place} (v w whole : Verdict A) → unless_stopped refused v ≡ whole
    → v ≡ Fault code place → unless_stopped (option_or refused (Some (code, place))) w ≡ whole
stopped None v w whole so_far is = sym is ∙ so_far
stopped (Some refusal) v w whole so_far is = so_far

pub nothing_read : (list : List Held) (v : Verdict Readings) → list ≡ [] → lift (following list) v ≡ v
nothing_read list v empty = ap (λ xs. lift (following xs) v) empty ∙ none_yet v

module _ (c : Context) (types : List Shape) (items : List RawInitial) (literals : Literals) (i : ℕ) (refused : Option (TypeCode × Place)) (list : List Held)
    (whole : Verdict Readings)
    (so_far : unless_stopped refused (lift (following list) (list_read c literals (drop i types) (drop i items))) ≡ whole) where
  all_read : list_read c literals (drop i types) (drop i items) ≡ Fine (NoPart, literals)
      → unless_stopped refused (Fine (initial_list list, literals)) ≡ whole
  all_read e =
      ap (unless_stopped refused) (ap (λ all. Fine (all, literals)) (sym (before-all list)) ∙ sym (lift_is (following list) _ (NoPart, literals) e))
      ∙ so_far

  pub read_over : slice_get types i ≡ None → unless_stopped refused (Fine (initial_list list, literals)) ≡ whole
  read_over part = all_read (ap (λ ts. list_read c literals ts (drop i items)) (types_past types i part) ∙ no_types c literals (drop i items))

  pub read_end : length items ≤ i → unless_stopped refused (Fine (initial_list list, literals)) ≡ whole
  read_end past = all_read (ap (list_read c literals (drop i types)) (drop_of_length-le items past) ∙ no_items c literals (drop i types))

  module _ (item : RawInitial) (there : drop i items ≡ item ∷ drop (suc i) items) (ty : Shape) (part : slice_get types i ≡ Some ty) where
    abbrev further : Reading → Verdict Readings
    further r = lift (one_more r.0) (list_read c r.1 (drop (suc i) types) (drop (suc i) items))

    next : list_read c literals (drop i types) (drop i items) ≡ lift further (initial_read c literals ty item)
    next = ap (λ ts. list_read c literals ts (drop i items)) (types_from types i ty part) ∙ ap (list_read c literals (ty ∷ drop (suc i) types)) there

    pub read_stops : (code : TypeCode) (place : Place) (then_literals : Literals) (more : List Held) → initial_read c literals ty item ≡ Fault code place
        → unless_stopped (option_or refused (Some (code, place)))
        (lift (following more) (list_read c then_literals (drop (suc i) types) (drop (suc i) items))) ≡ whole
    read_stops code place then_literals more h = stopped refused _ _ whole so_far
        (ap (lift (following list)) (next ∙ ap (lift further) h ∙ lift-fault further code place) ∙ lift-fault (following list) code place)

    pub read_more : (v : Held) (then_literals : Literals) (more : List Held) → initial_read c literals ty item ≡ Fine (initial v, then_literals)
        → more ≡ list ++ v ∷ []
        → unless_stopped refused (lift (following more) (list_read c then_literals (drop (suc i) types) (drop (suc i) items))) ≡ whole
    read_more v then_literals more h pushed =
        ap (unless_stopped refused)
        (ap (λ xs. lift (following xs) (list_read c then_literals (drop (suc i) types) (drop (suc i) items))) pushed
        ∙ sym (regrouped list v (list_read c then_literals (drop (suc i) types) (drop (suc i) items)))
        ∙ ap (lift (following list)) (sym (next ∙ lift_is further _ (initial v, then_literals) h)))
        ∙ so_far
