-- What the loops over arguments and bounds have typed so far, before the remaining ones: for the cycle of typing.
use Rattle.std.proofs.Common.{◌≡◌, ℕ, ◌+◌, ◌<◌, suc, length, get_or, drop, drop-cons, add-one, ℤ, List, [], ◌∷◌, ◌++◌, append_assoc}
use Rattle.std.proofs.Common.{refl, sym, ap, ◌∙◌, Option, Some, None, map, inl, inr, arith}
use Rattle.std.specs.Prelude.{◌⊎◌, Bool, true, false, nat_le, ◌≤◌, min}
use Rattle.std.proofs.lemmas.Bool.{leb-true, leb-false}
use Rattle.std.proofs.lemmas.List.{drop_all}
use Rattle.std.specs.Option.{option_or}
use Rattle.cs_types.specs.Shape.{Shape}
use Rattle.cs_ast.specs.declared.place.Place.{Place}
use Rattle.cs_ast.specs.declared.raw.expression.RawExpr.{RawExpr}
use Rattle.cs_ast.specs.declared.typed.expression.Expr.{Expr}
use Rattle.cs_ast.specs.TypedTree.{Typed, TypedList, NoMore, Further}
use Rattle.cs_ast.specs.TypedView.{typed, typed_list}
use Rattle.cs_scopes.specs.declared.context.Context.{Context}
use Rattle.cs_consts.specs.declared.purpose.Purpose.{Purpose}
use Rattle.cs_consts.specs.declared.purpose.Purpose.TheVariants.{Constant}
use Rattle.cs_scopes.specs.declared.refusal.TypeCode.{TypeCode}
use Rattle.cs_scopes.specs.Verdicts.{Verdict, Fine, Fault, lift, lift2}
use Rattle.cs_scopes.specs.Faults.{least_code, unless_stopped}
use Rattle.cs_expressions.specs.Conversions.{conversion_fault}
use Rattle.cs_expressions.specs.Primary.{Literals}
use Rattle.cs_consts.specs.Typing.{literals_after, literals_past, formed, done, operand_in, further, arguments_listed, passing_fault}
use Rattle.cs_consts.specs.Typing.{arguments_listed_fault, bound_number, bound_taken, numbers_listed, bounds_listed}
use Rattle.cs_consts.specs.Rows.{put_before, expressions_before}
use Rattle.cs_scopes.proofs.Lifting.{lift-fine, lift-fault, lift2-fine, lift2-second, lift2-first}
use Rattle.cs_scopes.proofs.LesserCodes.{least_code-assoc, least_code-none}

put_before-push : (made : List Expr) (e : Expr) (rest : TypedList) → put_before (made ++ e ∷ []) rest ≡ put_before made (Further (typed e) rest)
put_before-push [] e rest = refl
put_before-push (x ∷ made) e rest = ap (Further (typed x)) (put_before-push made e rest)

put_before-all : (made : List Expr) → put_before made NoMore ≡ typed_list made
put_before-all [] = refl
put_before-all (x ∷ made) = ap (Further (typed x)) (put_before-all made)

-- one more argument
argument_more : (made : List Expr) (e : Expr) (rest : Verdict TypedList)
    → lift (expressions_before made) (lift2 further (Fine (typed e)) rest) ≡ lift (expressions_before (made ++ e ∷ [])) rest
argument_more made e (Fine rest) =
    ap (lift (expressions_before made)) (lift2-fine further (typed e) rest) ∙ lift-fine (expressions_before made) (Further (typed e) rest)
    ∙ ap Fine (sym (put_before-push made e rest)) ∙ sym (lift-fine (expressions_before (made ++ e ∷ [])) rest)
argument_more made e (Fault code place) =
    ap (lift (expressions_before made)) (lift2-second further (typed e) code place) ∙ lift-fault (expressions_before made) code place
    ∙ sym (lift-fault (expressions_before (made ++ e ∷ [])) code place)

-- two equations as one of pairs
pub both : {A B : Type 0} {a b : A} {x y : B} → a ≡ b → x ≡ y → ◌≡◌ {A = A × B} (a, x) (b, y)
both {A} {B} {a} {b} {x} {y} e f = ap (λ z. (z, x)) e ∙ ap (λ z. (b, z)) f

-- there was a type error before
pub some_refused : {A P : Type 0} (refused : Option A) (refusal : A) → option_or refused (Some refusal) ≡ None → P
some_refused None refusal e = absurd cc
some_refused (Some earlier) refusal e = absurd cc

-- one more value, unless an earlier argument has a type error
unless_more : (refused : Option (TypeCode × Place)) (made : List Expr) (e : Expr) (v w whole : Verdict TypedList) → v ≡ lift2 further (Fine (typed e)) w
    → unless_stopped refused (lift (expressions_before made) v) ≡ whole
    → unless_stopped refused (lift (expressions_before (made ++ e ∷ [])) w) ≡ whole
unless_more None made e v w whole is so_far = sym (argument_more made e w) ∙ ap (lift (expressions_before made)) (sym is) ∙ so_far
unless_more (Some refusal) made e v w whole is so_far = so_far

-- the first type error
unless_refused : (refused : Option (TypeCode × Place)) (made : List Expr) (code : TypeCode) (place : Place) (v w rest whole : Verdict TypedList)
    (more : List Expr) → v ≡ lift2 further (Fault code place) w → unless_stopped refused (lift (expressions_before made) v) ≡ whole
    → unless_stopped (option_or refused (Some (code, place))) (lift (expressions_before more) rest) ≡ whole
unless_refused None made code place v w rest whole more is so_far =
    sym (ap (lift (expressions_before made)) (is ∙ lift2-first further code place w) ∙ lift-fault (expressions_before made) code place) ∙ so_far
unless_refused (Some refusal) made code place v w rest whole more is so_far = so_far

module _ (c : Context) (p : Purpose) (at : Place) (ty : Shape) (types following : List Shape) (a : RawExpr) (arguments rest : List RawExpr) (ls ms : Literals)
    (is_types : types ≡ ty ∷ following) (is_arguments : arguments ≡ a ∷ rest) where
  -- the argument
  abbrev value : Verdict Typed
  value = operand_in c p (formed c p ls (Some ty) a.place a.kind.value)

  values_are : (v : Verdict Typed) → value ≡ v
      → arguments_listed c p ls types arguments ≡ lift2 further v (arguments_listed c p (literals_after ls a.kind.value) following rest)
  values_are v is_value =
      ap (λ t. arguments_listed c p ls t arguments) is_types ∙ ap (arguments_listed c p ls (ty ∷ following)) is_arguments
      ∙ ap (λ v. lift2 further v (arguments_listed c p (literals_after ls a.kind.value) following rest)) is_value

  codes_are : (v : Verdict Typed) → value ≡ v → arguments_listed_fault c p ls at types arguments
      ≡ least_code (passing_fault c at ty v) (arguments_listed_fault c p (literals_past v (literals_after ls a.kind.value)) at following rest)
  codes_are v is_value =
      ap (λ t. arguments_listed_fault c p ls at t arguments) is_types ∙ ap (arguments_listed_fault c p ls at (ty ∷ following)) is_arguments
      ∙ ap (λ v. least_code (passing_fault c at ty v) (arguments_listed_fault c p (literals_past v (literals_after ls a.kind.value)) at following rest))
      is_value

  pub argument_taken : (refused : Option (TypeCode × Place)) (made : List Expr) (e : Expr) (whole : Verdict TypedList) → value ≡ Fine (typed e)
      → ms ≡ literals_after ls a.kind.value → unless_stopped refused (lift (expressions_before made) (arguments_listed c p ls types arguments)) ≡ whole
      → unless_stopped refused (lift (expressions_before (made ++ e ∷ [])) (arguments_listed c p ms following rest)) ≡ whole
  argument_taken refused made e whole is_value is_literals so_far =
      unless_more refused made e _ _ whole
      (values_are (Fine (typed e)) is_value ∙ ap (λ l. lift2 further (Fine (typed e)) (arguments_listed c p l following rest)) (sym is_literals)) so_far

  pub argument_stopped : (refused : Option (TypeCode × Place)) (made more : List Expr) (code : TypeCode) (place : Place) (whole : Verdict TypedList)
      → value ≡ Fault code place → unless_stopped refused (lift (expressions_before made) (arguments_listed c p ls types arguments)) ≡ whole
      → unless_stopped (option_or refused (Some (code, place))) (lift (expressions_before more) (arguments_listed c p ms following rest)) ≡ whole
  argument_stopped refused made more code place whole is_value so_far =
      unless_refused refused made code place _ _ _ whole more (values_are (Fault code place) is_value) so_far

  pub code_taken : (least : Option TypeCode) (e : Typed) (whole : Option TypeCode) → value ≡ Fine e → ms ≡ literals_after ls a.kind.value
      → least_code least (arguments_listed_fault c p ls at types arguments) ≡ whole
      → least_code (least_code least (conversion_fault c.model at ty e)) (arguments_listed_fault c p ms at following rest) ≡ whole
  code_taken least e whole is_value is_literals so_far =
      least_code-assoc least (conversion_fault c.model at ty e) (arguments_listed_fault c p ms at following rest)
      ∙ ap (λ l. least_code least (least_code (conversion_fault c.model at ty e) (arguments_listed_fault c p l at following rest))) is_literals
      ∙ ap (least_code least) (sym (codes_are (Fine e) is_value)) ∙ so_far

  pub code_stopped : (least : Option TypeCode) (code : TypeCode) (place : Place) (whole : Option TypeCode) → value ≡ Fault code place → ms ≡ []
      → least_code least (arguments_listed_fault c p ls at types arguments) ≡ whole
      → least_code least (arguments_listed_fault c p ms at following rest) ≡ whole
  code_stopped least code place whole is_value is_literals so_far =
      ap (λ l. least_code least (arguments_listed_fault c p l at following rest)) is_literals
      ∙ ap (least_code least) (sym (codes_are (Fault code place) is_value)) ∙ so_far

-- no argument or no parameter remains
module _ (c : Context) (p : Purpose) (at : Place) (types : List Shape) (arguments : List RawExpr) (ls : Literals) (over : (types ≡ []) ⊎ (arguments ≡ []))
  where
    values_over : (types : List Shape) (arguments : List RawExpr) → (types ≡ []) ⊎ (arguments ≡ [])
        → arguments_listed c p ls types arguments ≡ Fine NoMore
    values_over types [] h = refl
    values_over [] (a ∷ rest) h = refl
    values_over (ty ∷ types) (a ∷ rest) (inl e) = absurd cc
    values_over (ty ∷ types) (a ∷ rest) (inr e) = absurd cc

    codes_over : (types : List Shape) (arguments : List RawExpr) → (types ≡ []) ⊎ (arguments ≡ [])
        → arguments_listed_fault c p ls at types arguments ≡ None
    codes_over types [] h = refl
    codes_over [] (a ∷ rest) h = refl
    codes_over (ty ∷ types) (a ∷ rest) (inl e) = absurd cc
    codes_over (ty ∷ types) (a ∷ rest) (inr e) = absurd cc

    pub arguments_end : (refused : Option (TypeCode × Place)) (made : List Expr) (whole : Verdict TypedList)
        → unless_stopped refused (lift (expressions_before made) (arguments_listed c p ls types arguments)) ≡ whole
        → unless_stopped refused (Fine (typed_list made)) ≡ whole
    arguments_end refused made whole so_far =
        ap (unless_stopped refused) (ap Fine (sym (put_before-all made)) ∙ sym (lift-fine (expressions_before made) NoMore)
        ∙ ap (lift (expressions_before made)) (sym (values_over types arguments over))) ∙ so_far

    pub codes_end : (least whole : Option TypeCode) → least_code least (arguments_listed_fault c p ls at types arguments) ≡ whole → least ≡ whole
    codes_end least whole so_far = sym (least_code-none least) ∙ ap (least_code least) (sym (codes_over types arguments over)) ∙ so_far

-- one of two lists ends before an index
split_min : (a b i : ℕ) → min a b ≤ i → (a ≤ i) ⊎ (b ≤ i)
split_min a b i h = by_test (nat_le a i) refl
  where
    by_test : (t : Bool) → nat_le a i ≡ t → (a ≤ i) ⊎ (b ≤ i)
    by_test true e = inl (leb-true a i e)
    by_test false e = let above = leb-false a i e in inr (omega (arith, h, above))

pub one_over : {A B C : Type 0} (i : ℕ) (xs : List A) (ys : List B) (f : B → C) → min (length xs) (length ys) ≤ i
    → (map f (drop i ys) ≡ []) ⊎ (drop i xs ≡ [])
one_over i xs ys f h = by_end (split_min (length xs) (length ys) i h)
  where
    by_end : (length xs ≤ i) ⊎ (length ys ≤ i) → (map f (drop i ys) ≡ []) ⊎ (drop i xs ≡ [])
    by_end (inl past) = inr (drop_all i xs past)
    by_end (inr past) = inl (ap (map f) (drop_all i ys past))

-- one more bound
bound_passes : (e : Typed) (w : Verdict (Unit {0})) → lift2 bound_taken (Fine e) w ≡ w
unfolding lift2
bound_passes e (Fine tt) = refl
bound_passes e (Fault code place) = refl

bounds_stopped : (refused : Option (TypeCode × Place)) (code : TypeCode) (place : Place) (v w rest whole : Verdict (Unit {0}))
    → v ≡ lift2 bound_taken (Fault code place) w → unless_stopped refused v ≡ whole
    → unless_stopped (option_or refused (Some (code, place))) rest ≡ whole
bounds_stopped None code place v w rest whole is so_far = sym (is ∙ lift2-first bound_taken code place w) ∙ so_far
bounds_stopped (Some refusal) code place v w rest whole is so_far = so_far

module _ (c : Context) (a : RawExpr) (bounds rest : List RawExpr) (ls ms : Literals) (is_bounds : bounds ≡ a ∷ rest) where
  abbrev bound : Verdict Typed
  bound = done c Constant (formed c Constant ls None a.place a.kind.value)

  bounds_are : (v : Verdict Typed) → bound ≡ v → bounds_listed c ls bounds ≡ lift2 bound_taken v (bounds_listed c (literals_after ls a.kind.value) rest)
  bounds_are v is_value = ap (bounds_listed c ls) is_bounds
      ∙ ap (λ v. lift2 bound_taken v (bounds_listed c (literals_after ls a.kind.value) rest)) is_value

  pub number_taken : (made : List ℤ) (n : ℤ) (v : Verdict Typed) (whole : List ℤ) → bound ≡ v → bound_number v ≡ n
      → ms ≡ literals_past v (literals_after ls a.kind.value)
      → whole ≡ made ++ numbers_listed c ls bounds → whole ≡ (made ++ n ∷ []) ++ numbers_listed c ms rest
  number_taken made n v whole is_value is_number is_literals so_far =
      so_far ∙ ap (λ l. made ++ numbers_listed c ls l) is_bounds
      ∙ ap (λ v. made ++ (bound_number v ∷ numbers_listed c (literals_past v (literals_after ls a.kind.value)) rest)) is_value
      ∙ ap (λ m. made ++ (m ∷ numbers_listed c (literals_past v (literals_after ls a.kind.value)) rest)) is_number
      ∙ ap (λ l. made ++ (n ∷ numbers_listed c l rest)) (sym is_literals) ∙ sym (append_assoc made (n ∷ []) (numbers_listed c ms rest))

  pub bound_passed : (refused : Option (TypeCode × Place)) (e : Typed) (whole : Verdict (Unit {0})) → bound ≡ Fine e
      → ms ≡ literals_after ls a.kind.value
      → unless_stopped refused (bounds_listed c ls bounds) ≡ whole → unless_stopped refused (bounds_listed c ms rest) ≡ whole
  bound_passed refused e whole is_value is_literals so_far =
      ap (λ l. unless_stopped refused (bounds_listed c l rest)) is_literals
      ∙ ap (unless_stopped refused) (sym (bounds_are (Fine e) is_value ∙ bound_passes e (bounds_listed c (literals_after ls a.kind.value) rest))) ∙ so_far

  pub bound_stops : (refused : Option (TypeCode × Place)) (code : TypeCode) (place : Place) (whole : Verdict (Unit {0})) → bound ≡ Fault code place
      → unless_stopped refused (bounds_listed c ls bounds) ≡ whole
      → unless_stopped (option_or refused (Some (code, place))) (bounds_listed c ms rest) ≡ whole
  bound_stops refused code place whole is_value so_far =
      bounds_stopped refused code place _ _ _ whole (bounds_are (Fault code place) is_value) so_far

-- no expressions so far
pub none_before : (v : Verdict TypedList) → lift (expressions_before []) v ≡ v
none_before (Fine rest) = lift-fine (expressions_before []) rest
none_before (Fault code place) = lift-fault (expressions_before []) code place

-- the element at an index, before those after it
pub at_place : {A : Type 0} (i : ℕ) (xs : List A) (x : A) → i < length xs → x ≡ get_or xs i x → drop i xs ≡ x ∷ drop (i + 1) xs
at_place i xs x within read = drop-cons xs i x within ∙ ap (λ y. y ∷ drop (suc i) xs) (sym read) ∙ ap (λ j. x ∷ drop j xs) (sym (add-one i))
