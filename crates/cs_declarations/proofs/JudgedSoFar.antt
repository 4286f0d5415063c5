-- The items so far, converted and checked at an `=`, before the remaining ones: for the loop over items.
use Rattle.std.proofs.Common.{◌≡◌, ℕ, suc, List, [], ◌∷◌, ◌++◌, drop, Bool, true, false, Option, Some, None, refl, sym, ap, ◌∙◌, Vec}
use Rattle.std.proofs.Common.{Global}
use Rattle.std.specs.Prelude.{slice_get, if◌then◌else◌}
use Rattle.cs_types.specs.declared.data_model.DataModel.{DataModel}
use Rattle.cs_types.specs.Shape.{Shape}
use Rattle.cs_ast.specs.declared.place.Place.{Place}
use Rattle.cs_ast.specs.declared.typed.statement.Initial as initials
use Rattle.cs_ast.specs.declared.typed.statement.Initial.{Initial as Held}
use Rattle.cs_ast.specs.TypedTree.{Typed, Initial, Initials, Value, NoPart, Part, Parts}
use Rattle.cs_ast.specs.TypedView.{initial, initial_list}
use Rattle.cs_ast.proofs.TypedRows.{initial-List}
use Rattle.cs_scopes.specs.declared.context.Context.{Context}
use Rattle.cs_scopes.specs.declared.refusal.TypeCode.{TypeCode}
use Rattle.cs_scopes.specs.declared.refusal.TypeCode.TheVariants as code_of
use Rattle.cs_scopes.specs.declared.refusal.TypeRefusal.{TypeRefusal}
use Rattle.cs_scopes.specs.Faults.{lesser, least}
use Rattle.cs_expressions.specs.Conversions.{converted}
use Rattle.cs_folding.specs.TypedParts.{type_of}
use Rattle.cs_scopes.specs.Verdicts.{Verdict, Fine, Fault, lift, IsRefused}
use Rattle.cs_scopes.proofs.Lifting.{lift-refused}
use Rattle.cs_consts.proofs.SingleParts.{lift_is}
use Rattle.cs_scopes.proofs.Lifting.{refused_as}
use Rattle.cs_declarations.specs.Initializers.{Storage, types_or_none, is_admitted, value_held, value_judged, part_judged, parts_judged}
use Rattle.cs_scopes.specs.Parts.{part_types}
use Rattle.cs_declarations.specs.Initializers.{before_others}
use Rattle.cs_declarations.proofs.PartTypes.{types_from, types_past}
use Rattle.cs_scopes.proofs.LesserCodes.{lesser-comm, lesser-assoc}
use Rattle.cs_declarations.proofs.ValuesSoFar.{before, before-push, before-all}

-- a value
module _ (model : DataModel) (storage : Storage) (at : Place) (ty : Shape) (v : Typed) where
  pub value_refused : (r : TypeRefusal) → IsRefused (converted model at v ty (type_of v)) r → IsRefused (value_judged model storage at ty v) r
  value_refused r h = lift-refused (value_held model storage at) _ r h

  module _ (w : Typed) (reported : converted model at v ty (type_of v) ≡ Fine w) where
    held_if : (b : Bool) → is_admitted model storage w ≡ b
        → value_judged model storage at ty v ≡ (if b then Fine (Value w) else Fault code_of.Initializer at)
    held_if b e = lift_is (value_held model storage at) _ w reported ∙ ap (λ (t : Bool). if t then Fine (Value w) else Fault code_of.Initializer at) e

    pub value_admitted : is_admitted model storage w ≡ true → value_judged model storage at ty v ≡ Fine (Value w)
    value_admitted e = held_if true e

    pub value_not_admitted : is_admitted model storage w ≡ false → value_judged model storage at ty v ≡ Fault code_of.Initializer at
    value_not_admitted e = held_if false e

no_types : (c : Context) (storage : Storage) (at : Place) (parts : Initials) → parts_judged c storage at [] parts ≡ Fine NoPart
no_types c storage at NoPart = refl
no_types c storage at (Part first others) = refl

no_items : (c : Context) (storage : Storage) (at : Place) (types : List Shape) → parts_judged c storage at types NoPart ≡ Fine NoPart
no_items c storage at [] = refl
no_items c storage at (ty ∷ types) = refl

-- the items of a list
module _ (c : Context) (storage : Storage) (at : Place) (ty : Shape) (v : Held) (list : Vec Held Global) (is : v ≡ initials.TheVariants.List list) where
  judged_list : (found : Option (List Shape)) → part_types c.table.list ty ≡ found
      → part_judged c storage at ty (initial v) ≡ lift (λ all. Fine (Parts all))
      (parts_judged c storage at (types_or_none found) (initial_list list.items))
  judged_list found parts =
      ap (λ v. part_judged c storage at ty (initial v)) is ∙ ap (part_judged c storage at ty) (initial-List list)
      ∙ ap (λ p. lift (λ all. Fine (Parts all)) (parts_judged c storage at (types_or_none p) (initial_list list.items))) parts

  pub judged_refused : (types : List Shape) (r : TypeRefusal) → part_types c.table.list ty ≡ Some types
      → IsRefused (parts_judged c storage at types (initial_list list.items)) r → IsRefused (part_judged c storage at ty (initial v)) r
  judged_refused types r parts h = refused_as r (judged_list (Some types) parts) (lift-refused (λ all. Fine (Parts all)) _ r h)

  pub judged_is : (types : List Shape) (all : Initials) → part_types c.table.list ty ≡ Some types
      → parts_judged c storage at types (initial_list list.items) ≡ Fine all → part_judged c storage at ty (initial v) ≡ Fine (Parts all)
  judged_is types all parts h = judged_list (Some types) parts ∙ lift_is (λ all. Fine (Parts all)) _ all h

  pub judged_none : part_types c.table.list ty ≡ None → part_judged c storage at ty (initial v) ≡ Fine (Parts NoPart)
  judged_none parts = judged_list None parts ∙ lift_is (λ all. Fine (Parts all)) _ NoPart (no_types c storage at (initial_list list.items))

-- items that are converted, or the least code of those that are wrong, before others
abbrev pub joined : Place → Option TypeCode → List Held → Verdict Initials → Verdict Initials
joined at None list (Fine others) = Fine (before list others)
joined at None list (Fault code place) = Fault code at
joined at (Some wrong) list (Fine others) = Fault wrong at
joined at (Some wrong) list (Fault code place) = Fault (lesser wrong code) at

fine_joins : (at : Place) (wrong : Option TypeCode) (list : List Held) (v : Held) (others : Verdict Initials)
    → joined at wrong list (before_others at (Fine (initial v)) others) ≡ joined at wrong (list ++ v ∷ []) others
fine_joins at None list v (Fine others) = ap Fine (before-push list v others)
fine_joins at None list v (Fault code place) = refl
fine_joins at (Some wrong) list v (Fine others) = refl
fine_joins at (Some wrong) list v (Fault code place) = refl

fault_joins : (at : Place) (wrong : Option TypeCode) (list : List Held) (code : TypeCode) (place : Place) (others : Verdict Initials)
    → joined at wrong list (before_others at (Fault code place) others) ≡ joined at (Some (least code wrong)) list others
fault_joins at None list code place (Fine others) = refl
fault_joins at None list code place (Fault other there) = refl
fault_joins at (Some wrong) list code place (Fine others) = ap (λ x. Fault x at) (lesser-comm wrong code)
fault_joins at (Some wrong) list code place (Fault other there) =
    ap (λ x. Fault x at) (sym (lesser-assoc wrong code other) ∙ ap (λ x. lesser x other) (lesser-comm wrong code))

-- no items before others
none_before : (at : Place) (first : Verdict Initial) (others : Verdict Initials)
    → joined at None [] (before_others at first others) ≡ before_others at first others
none_before at (Fine first) (Fine others) = refl
none_before at (Fine first) (Fault code place) = refl
none_before at (Fault code place) (Fine others) = refl
none_before at (Fault code place) (Fault other there) = refl

nothing_yet : (c : Context) (storage : Storage) (at : Place) (types : List Shape) (parts : Initials)
    → joined at None [] (parts_judged c storage at types parts) ≡ parts_judged c storage at types parts
nothing_yet c storage at [] NoPart = refl
nothing_yet c storage at (ty ∷ types) NoPart = refl
nothing_yet c storage at [] (Part first others) = refl
nothing_yet c storage at (ty ∷ types) (Part first others) = none_before at (part_judged c storage at ty first) (parts_judged c storage at types others)

pub nothing_judged : (c : Context) (storage : Storage) (at : Place) (types : List Shape) (items left : List Held) (list : List Held) → list ≡ []
    → left ≡ items → joined at None list (parts_judged c storage at types (initial_list left)) ≡ parts_judged c storage at types (initial_list items)
nothing_judged c storage at types items left list empty same =
    ap (λ xs. joined at None xs (parts_judged c storage at types (initial_list left))) empty ∙ nothing_yet c storage at types (initial_list left)
    ∙ ap (λ xs. parts_judged c storage at types (initial_list xs)) same

module _ (c : Context) (storage : Storage) (at : Place) (types : List Shape) (number : ℕ) (wrong : Option TypeCode) (list left : List Held)
    (whole : Verdict Initials) (so_far : joined at wrong list (parts_judged c storage at (drop number types) (initial_list left)) ≡ whole) where
  pub judged_over : slice_get types number ≡ None → whole ≡ joined at wrong list (Fine NoPart)
  judged_over part = sym so_far ∙ ap (joined at wrong list) (ap (λ ts. parts_judged c storage at ts (initial_list left)) (types_past types number part)
      ∙ no_types c storage at (initial_list left))

  pub judged_end : left ≡ [] → whole ≡ joined at wrong list (Fine NoPart)
  judged_end empty = sym so_far ∙ ap (joined at wrong list) (ap (λ xs. parts_judged c storage at (drop number types) (initial_list xs)) empty
      ∙ no_items c storage at (drop number types))

  module _ (item : Held) (rest : List Held) (there : left ≡ item ∷ rest) (ty : Shape) (part : slice_get types number ≡ Some ty) where
    next : joined at wrong list (before_others at (part_judged c storage at ty (initial item))
        (parts_judged c storage at (drop (suc number) types) (initial_list rest))) ≡ whole
    next =
        sym (ap (λ ts. joined at wrong list (parts_judged c storage at ts (initial_list left))) (types_from types number ty part)
        ∙ ap (λ xs. joined at wrong list (parts_judged c storage at (ty ∷ drop (suc number) types) (initial_list xs))) there)
        ∙ so_far

    pub judged_fine : (v : Held) (more : List Held) → part_judged c storage at ty (initial item) ≡ Fine (initial v) → more ≡ list ++ v ∷ []
        → joined at wrong more (parts_judged c storage at (drop (suc number) types) (initial_list rest)) ≡ whole
    judged_fine v more h pushed =
        ap (λ xs. joined at wrong xs (parts_judged c storage at (drop (suc number) types) (initial_list rest))) pushed
        ∙ sym (ap (λ x. joined at wrong list (before_others at x (parts_judged c storage at (drop (suc number) types) (initial_list rest)))) h
        ∙ fine_joins at wrong list v _)
        ∙ next

    pub judged_wrong : (code : TypeCode) (place : Place) → part_judged c storage at ty (initial item) ≡ Fault code place
        → joined at (Some (least code wrong)) list (parts_judged c storage at (drop (suc number) types) (initial_list rest)) ≡ whole
    judged_wrong code place h =
        sym (ap (λ x. joined at wrong list (before_others at x (parts_judged c storage at (drop (suc number) types) (initial_list rest)))) h
        ∙ fault_joins at wrong list code place _)
        ∙ next

-- the result after the loop
pub reported_wrong : (at : Place) (wrong : Option TypeCode) (list : List Held) (whole : Verdict Initials) (code : TypeCode)
    → whole ≡ joined at wrong list (Fine NoPart) → wrong ≡ Some code → whole ≡ Fault code at
reported_wrong at wrong list whole code h e = h ∙ ap (λ w. joined at w list (Fine NoPart)) e

pub reported_fine : (at : Place) (wrong : Option TypeCode) (list : List Held) (whole : Verdict Initials) → whole ≡ joined at wrong list (Fine NoPart)
    → wrong ≡ None → whole ≡ Fine (initial_list list)
reported_fine at wrong list whole h e = h ∙ ap (λ w. joined at w list (Fine NoPart)) e ∙ ap Fine (before-all list)
