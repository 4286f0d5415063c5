-- The pieces of a `switch`: for the contract of `select`.
use Rattle.std.proofs.Common.{◌≡◌, ◌≢◌, ◌⊎◌, ◌↔◌, inl, inr, ℕ, zero, suc, ◌<◌, ◌≤◌, Bool, true, false, not, ◌&&◌, ℤ}
use Rattle.std.proofs.Common.{pos, List, [], ◌∷◌}
use Rattle.std.proofs.Common.{◌++◌, length, Option, Some, None, refl, sym, ap, subst, ◌∙◌, arith, ◌^◌}
use Rattle.std.specs.Prelude.{MatchOption, int_le, neg_ℤ, slice_get, if◌then◌else◌}
use Rattle.std.proofs.lemmas.Option.{same_Some}
use Rattle.std.specs.Ordering.{int_eq}
use Rattle.std.proofs.lemmas.Int.{ints}
use Rattle.cs_types.specs.declared.data_model.DataModel.{DataModel}
use Rattle.cs_cfg.specs.declared.code.SwitchCase.{SwitchCase}
use Rattle.cs_ranges.specs.declared.range_set.Interval.{Interval}
use Rattle.cs_ranges.specs.Interval.{IsInside}
use Rattle.cs_ranges.specs.RangeSet.{contains}
use Rattle.cs_terms.specs.declared.term.Lin.{Lin}
use Rattle.cs_terms.specs.Term.{Valuation, value_of}
use Rattle.cs_constraints.specs.Constraints.{Sets, Fits, Keeps, RulesOut}
use Rattle.cs_events.specs.declared.event.Label.{Label}
use Rattle.cs_events.specs.declared.event.Label.TheVariants as label
use Rattle.cs_eval.specs.declared.piece.Piece.{Piece}
use Rattle.cs_eval.specs.declared.pieces.Shown.{Shown}
use Rattle.cs_eval.specs.Cases.{case_of, asking_of_cases, AreCases, IsBefore, AreFirst, AreLeft, IsCaseAt, IsCasePushed}
use Rattle.cs_eval.specs.Operands.{IsTermBetween, LOWEST, HIGHEST}
use Rattle.cs_eval.specs.Parts.{number_term, unguessed, unguessed_if}
use Rattle.cs_eval.specs.Splits.{Asking, IsPieceOf, Each, HaveOwnLabels, IsCovered}
use Rattle.cs_eval.proofs.Ends.{wide as Ends_wide}
use Rattle.cs_eval.proofs.OperandValues.{value_between}

-- the number of a case
abbrev case_in : Label → ℕ
case_in (label.Truth holds) = 0
case_in (label.Branch holds) = 0
case_in (label.Case number) = number
case_in (label.Wrap wrap) = 0
case_in (label.Look holds) = 0
case_in (label.Offset offset) = 0
case_in (label.Callee function) = 0
case_in (label.Alloc holds) = 0

each_append : (P : Piece → Type 0) (xs ys : List Piece) → Each P xs → Each P ys → Each P (xs ++ ys)
each_append P [] ys h k = k
each_append P (x ∷ xs) ys h k = (h.0, each_append P xs ys h.1 k)

each_weaker : (P Q : Piece → Type 0) → ((piece : Piece) → P piece → Q piece) → (xs : List Piece) → Each P xs → Each Q xs
each_weaker P Q f [] h = tt
each_weaker P Q f (x ∷ xs) h = (f x h.0, each_weaker P Q f xs h.1)

labels_append : (n : ℕ) (xs : List Piece) (piece : Piece) → HaveOwnLabels xs → Each (IsBefore n) xs → piece.label ≡ label.Case n
    → HaveOwnLabels (xs ++ piece ∷ [])
labels_append n [] piece h b e = (tt, tt)
labels_append n (x ∷ xs) piece h b e = (
  each_append (λ other. other.label ≢ x.label) xs (piece ∷ []) h.0 (apart, tt),
  labels_append n xs piece h.1 b.1 e,
)
  where
    apart : piece.label ≢ x.label
    apart same =
        let one : n ≡ b.0.number = ap case_in (sym e ∙ same ∙ b.0.shown) in
        let less = b.0.before in
        absurd (omega arith)

module _ (model : DataModel) (guess : ℕ) (asking : Asking) (v : Valuation) where
  covered_left : (xs ys : List Piece) → IsCovered model guess asking v xs → IsCovered model guess asking v (xs ++ ys)
  covered_left [] ys h = absurd h
  covered_left (x ∷ xs) ys (inl h) = inl h
  covered_left (x ∷ xs) ys (inr h) = inr (covered_left xs ys h)

  covered_right : (xs ys : List Piece) → IsCovered model guess asking v ys → IsCovered model guess asking v (xs ++ ys)
  covered_right [] ys h = h
  covered_right (x ∷ xs) ys h = inr (covered_right xs ys h)

pub none_first : (sets : Sets) (term : Lin) (cases : List SwitchCase) → AreFirst sets term cases 0 []
none_first sets term cases = record {
  each = λ model guess. tt;
  before = tt;
  labels = tt;
  covers = λ v fits less model guess. absurd (omega arith);
}

case_at_most : (cases : List SwitchCase) (x : ℤ) → case_of cases x ≤ length cases
case_at_most [] x = omega arith
case_at_most (one ∷ cases) x = by (int_eq one.value x) (case_at_most cases x)
  where
    by : (b : Bool) → case_of cases x ≤ length cases → (if b then 0 else suc (case_of cases x)) ≤ length (one ∷ cases)
    by true h = omega arith
    by false h = omega (arith, h)

module _ (sets : Sets) (term : Lin) (cases : List SwitchCase) (n : ℕ) (pieces : List Piece) (h : AreFirst sets term cases n pieces) where
  -- no number takes this case
  pub skipped : ((v : Valuation) → Fits v sets → case_of cases (value_of v term) ≢ n) → AreFirst sets term cases (suc n) pieces
  skipped never = record {
    each = h.each;
    before = each_weaker (IsBefore n) (IsBefore (suc n)) more pieces h.before;
    labels = h.labels;
    covers = λ v fits less.
        let other : case_of cases (value_of v term) ≢ n = never v fits in
        h.covers v fits (omega arith);
  }
    where
      more : (piece : Piece) → IsBefore n piece → IsBefore (suc n) piece
      more piece b = let less = b.before in record { number = b.number; before = omega arith; shown = b.shown }

  -- the numbers of this set take it
  module _ (set : List Interval) (takes : (v : Valuation) → Fits v sets
      → (contains set (value_of v term) ≡ true) ↔ (case_of cases (value_of v term) ≡ n)) where
    piece_of : (after : Sets) → Keeps sets term set after → (model : DataModel) (guess : ℕ)
        → IsPieceOf model sets guess (asking_of_cases term cases) (unguessed (label.Case n) (number_term (pos 0)) after)
    piece_of after k model guess = record {
      meaning = record {
        from = λ v fits.
            let both = (k.exactly v).0 fits in (both.0, tt, ap (λ (m : ℕ). label.Case m) ((takes v both.0).0 both.1));
        back = λ v fits followed shown. (k.exactly v).1 (fits, (takes v fits).1 (ap case_in shown));
        answer = λ v fits. refl;
      };
      some = k.some;
      others = λ other apart unmentioned. k.others other unmentioned;
    }

    one_more : (after : Sets) → Keeps sets term set after
        → AreFirst sets term cases (suc n) (pieces ++ unguessed (label.Case n) (number_term (pos 0)) after ∷ [])
    one_more after k =
        let piece = unguessed (label.Case n) (number_term (pos 0)) after in
        let asking = asking_of_cases term cases in
        record {
          each = λ model guess. each_append (IsPieceOf model sets guess asking) pieces (piece ∷ []) (h.each model guess) (piece_of after k model guess, tt);
          before = each_append (IsBefore (suc n)) pieces (piece ∷ []) (each_weaker (IsBefore n) (IsBefore (suc n)) more pieces h.before)
              (record { number = n; before = omega arith; shown = refl }, tt);
          labels = labels_append n pieces piece h.labels h.before refl;
          covers = λ v fits less model guess. elim (earlier (case_of cases (value_of v term)) less) [
            | inl first ↦ covered_left model guess asking v pieces (piece ∷ []) (h.covers v fits first model guess)
            | inr here ↦
                covered_right model guess asking v pieces (piece ∷ []) (inl ((k.exactly v).1 (fits, (takes v fits).1 here)))
          ];
        }
      where
        more : (piece : Piece) → IsBefore n piece → IsBefore (suc n) piece
        more piece b = let less = b.before in record { number = b.number; before = omega arith; shown = b.shown }

        earlier : (m : ℕ) → m < suc n → (m < n) ⊎ (m ≡ n)
        earlier m less = grind arith

    pub pushed : (kept : Option Sets) → MatchOption kept (RulesOut sets term set) (Keeps sets term set)
        → AreFirst sets term cases (suc n) (pieces ++ unguessed_if (label.Case n) (number_term (pos 0)) kept)
    pushed None m =
        subst (λ (ps : List Piece). AreFirst sets term cases (suc n) ps) (sym (append_none pieces))
        (skipped (λ v fits e. let clash : true ≡ false = sym ((takes v fits).1 e) ∙ m v fits in absurd (cc)))
      where
        append_none : (xs : List Piece) → xs ++ [] ≡ xs
        append_none [] = refl
        append_none (x ∷ xs) = ap (λ (ys : List Piece). x ∷ ys) (append_none xs)
    pushed (Some after) m = one_more after m

-- the pieces of all cases and of no case
pub all_cases : (sets : Sets) (term : Lin) (cases : List SwitchCase) (pieces : List Piece)
    → AreFirst sets term cases (suc (length cases)) pieces → AreCases sets term cases pieces
all_cases sets term cases pieces h model guess = record {
  each = h.each model guess;
  labels = h.labels;
  covers = λ v fits.
      let most = case_at_most cases (value_of v term) in
      h.covers v fits (omega arith) model guess;
}

module _ (cases : List SwitchCase) (n : ℕ) (value : ℤ) (left : List Interval) (at : IsCaseAt cases n value) (are : AreLeft cases n left) where
  -- what remains doesn't contain the value of an earlier case
  pub never_taken : contains left value ≡ false → (x : ℤ) → IsInside x → case_of cases x ≢ n
  never_taken out x inside e =
      let same : x ≡ value = at.alone x e in
      let member : contains left x ≡ true = (are x inside).1 (omega (arith, e)) in
      let clash : true ≡ false = sym member ∙ ap (contains left) same ∙ out in
      absurd (cc)

  pub skipped_left : contains left value ≡ false → AreLeft cases (suc n) left
  skipped_left out x inside =
      let other : case_of cases x ≢ n = never_taken out x inside in (
        λ member. let least = (are x inside).0 member in omega arith,
        λ more. (are x inside).1 (omega (arith, more)),
      )

  module _ (inside : IsInside value) (member : contains left value ≡ true) where
    takes_itself : case_of cases value ≡ n
    takes_itself =
        let least = (are value inside).0 member in
        let most = at.reached in
        omega arith

    module _ (taken : List Interval) (numbers : (x : ℤ) → contains taken x ≡ (int_le value x && int_le x value)) where
      pub taken_here : (x : ℤ) → (contains taken x ≡ true) ↔ (case_of cases x ≡ n)
      taken_here x = (
        λ t. let same : x ≡ value = one x (sym (numbers x) ∙ t) in ap (case_of cases) same ∙ takes_itself,
        λ e. numbers x ∙ ap (λ (y : ℤ). int_le value y && int_le y value) (at.alone x e) ∙ itself value,
      )
        where
          one : (x : ℤ) → (int_le value x && int_le x value) ≡ true → x ≡ value
          one x t = grind (arith, ints)

          itself : (y : ℤ) → (int_le y y && int_le y y) ≡ true
          itself y = grind (arith, ints)

      pub taken_left : (rest : List Interval) → ((x : ℤ) → contains rest x ≡ (contains left x && not (contains taken x)))
          → AreLeft cases (suc n) rest
      taken_left rest minus x there = (
        λ t.
            let both = kept (contains left x) (contains taken x) (sym (minus x) ∙ t) in
            let least = (are x there).0 both.0 in
            let other : case_of cases x ≢ n = λ e. no (contains taken x) both.1 ((taken_here x).1 e) in
            omega arith,
        λ more.
            let other : case_of cases x ≢ n = λ e. omega (arith, more, e) in
            minus x
            ∙ keeps (contains left x) (contains taken x) ((are x there).1 (omega (arith, more))) (λ t. other ((taken_here x).0 t)),
      )
        where
          kept : (a b : Bool) → (a && not b) ≡ true → (a ≡ true) × (b ≡ false)
          kept true false e = (refl, refl)
          kept true true e = absurd (cc)
          kept false b e = absurd (cc)

          keeps : (a b : Bool) → a ≡ true → b ≢ true → (a && not b) ≡ true
          keeps true true e d = absurd (d refl)
          keeps true false e d = refl
          keeps false b e d = absurd (cc)

          no : (b : Bool) → b ≡ false → b ≡ true → ⊥
          no b e f = let clash : false ≡ true = sym e ∙ f in absurd (cc)

-- a case whose value isn't among the remaining numbers: no number takes it
pub pushed_none : (sets : Sets) (term : Lin) (n : ℕ) (value : ℤ) (left : List Interval) (pieces : List Piece)
    → IsTermBetween sets LOWEST HIGHEST term → contains left value ≡ false → IsCasePushed sets term n value left left pieces pieces
pushed_none sets term n value left pieces wide out = record {
  left_is = λ cases at are. skipped_left cases n value left at are out;
  first = λ cases at are h.
      skipped sets term cases n pieces h (λ v fits. never_taken cases n value left at are out (value_of v term)
      (Ends_wide (value_of v term) (value_between sets LOWEST HIGHEST term v wide fits)));
}

-- a case whose value is among the remaining numbers
pub pushed_some : (sets : Sets) (term : Lin) (n : ℕ) (value : ℤ) (left taken rest : List Interval) (kept : Option Sets) (before after : List Piece)
    → IsInside value → contains left value ≡ true → ((x : ℤ) → contains taken x ≡ (int_le value x && int_le x value))
    → ((x : ℤ) → contains rest x ≡ (contains left x && not (contains taken x)))
    → MatchOption kept (RulesOut sets term taken) (Keeps sets term taken)
    → after ≡ before ++ unguessed_if (label.Case n) (number_term (pos 0)) kept
    → IsCasePushed sets term n value left rest before after
pushed_some sets term n value left taken rest kept before after inside member numbers minus keeps made = record {
  left_is = λ cases at are. taken_left cases n value left at are inside member taken numbers rest minus;
  first = λ cases at are h.
      subst (λ (ps : List Piece). AreFirst sets term cases (suc n) ps) (sym made)
      (pushed sets term cases n before h taken (λ v fits. taken_here cases n value left at are inside member taken numbers (value_of v term)) kept
      keeps);
}

-- at first all numbers inside remain
pub all_left : (cases : List SwitchCase) (left : List Interval)
    → ((x : ℤ) → contains left x ≡ (int_le (neg_ℤ (pos (2 ^ 126))) x && int_le x (pos (2 ^ 126)))) → AreLeft cases 0 left
all_left cases left numbers x inside = (λ t. omega arith, λ least. numbers x ∙ both x inside)
  where
    both : (x : ℤ) → IsInside x → (int_le (neg_ℤ (pos (2 ^ 126))) x && int_le x (pos (2 ^ 126))) ≡ true
    both x h = let a = h.0 in let b = h.1 in grind (arith, ints)

-- the piece of no case comes last
pub last_pushed : (sets : Sets) (term : Lin) (cases : List SwitchCase) (left : List Interval) (kept : Option Sets) (before after : List Piece)
    → IsTermBetween sets LOWEST HIGHEST term → AreLeft cases (length cases) left → AreFirst sets term cases (length cases) before
    → MatchOption kept (RulesOut sets term left) (Keeps sets term left)
    → after ≡ before ++ unguessed_if (label.Case (length cases)) (number_term (pos 0)) kept → AreCases sets term cases after
last_pushed sets term cases left kept before after wide are first keeps made =
    all_cases sets term cases after (subst (λ (ps : List Piece). AreFirst sets term cases (suc (length cases)) ps) (sym made)
    (pushed sets term cases (length cases) before first left takes kept keeps))
  where
    takes : (v : Valuation) → Fits v sets → (contains left (value_of v term) ≡ true) ↔ (case_of cases (value_of v term) ≡ length cases)
    takes v fits =
        let here = are (value_of v term) (Ends_wide (value_of v term) (value_between sets LOWEST HIGHEST term v wide fits)) in
        let most = case_at_most cases (value_of v term) in (
          λ t. let least = here.0 t in omega arith,
          λ e. here.1 (omega (arith, e)),
        )

same_number : (x y : ℤ) → int_eq x y ≡ true → y ≡ x
same_number x y e = grind (arith, ints)

itself_equal : (x : ℤ) → int_eq x x ≡ true
itself_equal x = grind (arith, ints)

-- the first case
module _ (first : SwitchCase) (cases : List SwitchCase) where
  at_first : (x : ℤ) (b : Bool) → int_eq first.value x ≡ b → case_of (first ∷ cases) x ≡ (if b then 0 else suc (case_of cases x))
  at_first x b e = ap (λ (c : Bool). if c then 0 else suc (case_of cases x)) e

  first_case : IsCaseAt (first ∷ cases) 0 first.value
  first_case = record {
    alone = λ x here. by x (int_eq first.value x) refl here;
    reached = let e = at_first first.value true (itself_equal first.value) in omega (arith, e);
  }
    where
      by : (x : ℤ) (b : Bool) → int_eq first.value x ≡ b → case_of (first ∷ cases) x ≡ 0 → x ≡ first.value
      by x true e here = same_number first.value x e
      by x false e here = absurd (let f = at_first x false e in omega (arith, f, here))

  next_case : (n : ℕ) (value : ℤ) → IsCaseAt cases n value → IsCaseAt (first ∷ cases) (suc n) value
  next_case n value h = record {
    alone = λ x here. by x (int_eq first.value x) refl here;
    reached = most (int_eq first.value value) refl;
  }
    where
      by : (x : ℤ) (b : Bool) → int_eq first.value x ≡ b → case_of (first ∷ cases) x ≡ suc n → x ≡ value
      by x true e here = absurd (let f = at_first x true e in omega (arith, f, here))
      by x false e here = h.alone x (let f = at_first x false e in omega (arith, f, here))

      most : (b : Bool) → int_eq first.value value ≡ b → case_of (first ∷ cases) value ≤ suc n
      most true e = let f = at_first value true e in omega (arith, f)
      most false e = let f = at_first value false e in let g = h.reached in omega (arith, f, g)

-- the case at an index
pub case_at : (cases : List SwitchCase) (n : ℕ) (one : SwitchCase) → slice_get cases n ≡ Some one → IsCaseAt cases n one.value
case_at [] n one e = absurd (cc)
case_at (first ∷ cases) zero one e =
    subst (λ (k : SwitchCase). IsCaseAt (first ∷ cases) 0 k.value) (same_Some first one e) (first_case first cases)
case_at (first ∷ cases) (suc n) one e = next_case first cases n one.value (case_at cases n one e)

-- the pieces with a known label and number
pub case_made : (n : ℕ) (shown : Shown) (kept : Option Sets) (before after : List Piece) → shown.label ≡ label.Case n
    → shown.answer ≡ number_term (pos 0)
    → after ≡ before ++ unguessed_if shown.label shown.answer kept → after ≡ before ++ unguessed_if (label.Case n) (number_term (pos 0)) kept
case_made n shown kept before after e h made =
    made ∙ ap (λ (l : Label). before ++ unguessed_if l shown.answer kept) e
    ∙ ap (λ (a : Lin). before ++ unguessed_if (label.Case n) a kept) h
