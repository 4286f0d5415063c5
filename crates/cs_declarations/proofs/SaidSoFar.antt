-- Lists of results that are partly read: for the sizes in bounds.
use Rattle.std.proofs.Common.{◌≡◌, ℕ, ℤ, ◌+◌, ◌<◌, List, [], ◌∷◌, ◌++◌, Option, Some, None, length, drop, get_or, refl, sym, ap}
use Rattle.std.proofs.Common.{◌∙◌, append_assoc, rules}
use Rattle.std.specs.Option.{option_or}
use Rattle.std.proofs.lemmas.List.{at_drop_more}
use Rattle.cs_ast.specs.declared.place.Place.{Place}
use Rattle.cs_ast.specs.declared.raw.expression.RawExpr.{RawExpr}
use Rattle.cs_scopes.specs.declared.context.Context.{Context}
use Rattle.cs_scopes.specs.declared.refusal.TypeCode.{TypeCode}
use Rattle.cs_scopes.specs.declared.refusal.TypeCode.TheVariants.{Size}
use Rattle.cs_scopes.specs.declared.refusal.TypeRefusal.{TypeRefusal}
use Rattle.cs_scopes.specs.Verdicts.{Verdict, Fine, Fault, lift, lift2, IsRefused}
use Rattle.cs_scopes.proofs.Lifting.{lift-fault}
use Rattle.cs_declarations.specs.Sizes.{size_said, size_or_one, sizes_said, fault_in, refused_bound, all_said}

-- results after others
abbrev pub following : {A : Type 0} → List A → Verdict (List A) → Verdict (List A)
following before rest = lift (λ others. Fine (before ++ others)) rest

pub following-none : {A : Type 0} (v : Verdict (List A)) → v ≡ following [] v
unfolding lift
following-none (Fine xs) = refl
following-none (Fault code at) = refl

pub following-all : {A : Type 0} (before : List A) → following before (Fine []) ≡ Fine before
unfolding lift
following-all before = search rules

following-more : {A : Type 0} (before : List A) (x : A) (v : Verdict (List A))
    → following before (lift (λ others. Fine (x ∷ others)) v) ≡ following (before ++ x ∷ []) v
unfolding lift
following-more before x (Fine xs) = ap Fine (sym (append_assoc before (x ∷ []) xs))
following-more before x (Fault code at) = refl

following-both : {A : Type 0} (before : List A) (x : A) (v : Verdict (List A))
    → following before (lift2 (λ first others. Fine (first ∷ others)) (Fine x) v) ≡ following (before ++ x ∷ []) v
unfolding lift lift2
following-both before x (Fine xs) = ap Fine (sym (append_assoc before (x ∷ []) xs))
following-both before x (Fault code at) = refl

pub refused_by : {A : Type 0} {v w : Verdict A} (r : TypeRefusal) → v ≡ w → IsRefused w r → IsRefused v r
refused_by r e h = rw e h

option_or-assoc : {A : Type 0} (a b c : Option A) → option_or (option_or a b) c ≡ option_or a (option_or b c)
option_or-assoc None b c = refl
option_or-assoc (Some x) b c = refl

pub option_or-none : {A : Type 0} (a : Option A) → option_or a None ≡ a
option_or-none None = refl
option_or-none (Some x) = refl

module _ (c : Context) (bounds : List (Option RawExpr)) (i : ℕ) (before : List (Option ℤ)) (bound : Option RawExpr) (within : i < length bounds)
    (is : bound ≡ get_or bounds i bound) where
  here : {B : Type 0} (f : List (Option RawExpr) → B) → f (drop i bounds) ≡ f (bound ∷ drop (i + 1) bounds)
  here f = at_drop_more f bounds i bound within ∙ ap (λ b. f (b ∷ drop (i + 1) bounds)) (sym is)

  pub size_taken : (size : Option ℤ) → sizes_said c bounds ≡ before ++ sizes_said c (drop i bounds) → size_or_one (size_said c bound) ≡ size
      → sizes_said c bounds ≡ (before ++ size ∷ []) ++ sizes_said c (drop (i + 1) bounds)
  size_taken size so_far e =
      so_far ∙ ap (λ sizes. before ++ sizes) (here (sizes_said c)) ∙ ap (λ s. before ++ s ∷ sizes_said c (drop (i + 1) bounds)) e
      ∙ sym (append_assoc before (size ∷ []) (sizes_said c (drop (i + 1) bounds)))

  pub refused_taken : (refused : Option (TypeCode × Place)) → refused_bound c bounds ≡ option_or refused (refused_bound c (drop i bounds))
      → refused_bound c bounds ≡ option_or (option_or refused (fault_in (size_said c bound))) (refused_bound c (drop (i + 1) bounds))
  refused_taken refused so_far =
      so_far ∙ ap (option_or refused) (here (refused_bound c))
      ∙ sym (option_or-assoc refused (fault_in (size_said c bound)) (refused_bound c (drop (i + 1) bounds)))

module _ (at : Place) (sizes : List (Option ℤ)) (i : ℕ) (before : List ℤ) (within : i < length sizes)
    (so_far : all_said at sizes ≡ following before (all_said at (drop i sizes))) where
  next_number : all_said at sizes ≡ following before (all_said at (get_or sizes i None ∷ drop (i + 1) sizes))
  next_number = so_far ∙ ap (following before) (at_drop_more (all_said at) sizes i None within)

  pub number_taken : (n : ℤ) → get_or sizes i None ≡ Some n → all_said at sizes ≡ following (before ++ n ∷ []) (all_said at (drop (i + 1) sizes))
  number_taken n e = next_number ∙ ap (λ s. following before (all_said at (s ∷ drop (i + 1) sizes))) e
      ∙ following-more before n (all_said at (drop (i + 1) sizes))

  pub number_missing : get_or sizes i None ≡ None → all_said at sizes ≡ Fault Size at
  number_missing e = next_number ∙ ap (λ s. following before (all_said at (s ∷ drop (i + 1) sizes))) e ∙ lift-fault _ Size at
