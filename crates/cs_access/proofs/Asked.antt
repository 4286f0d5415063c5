-- Querying checkers one by one, and the kinds for which they have conditions: for the contract of `check`.
use Rattle.std.proofs.Common.{◌≡◌, ◌<◌, ◌≤◌, ◌+◌, ℕ, Bool, true, false, List, [], ◌∷◌, ◌++◌, take, drop, get_or, set, map}
use Rattle.std.proofs.Common.{length, refl, sym, ap, ◌∙◌}
use Rattle.std.proofs.Common.{subst, inl, inr, arith, Option, None, Result, Ok, Err}
use Rattle.std.specs.Prelude.{OnOk}
use Rattle.std.specs.Result.{is_ok}
use Rattle.std.proofs.lemmas.List.{take_more, take_more_set, drop_more, drop_all, take_all, map-append, length-set}
use Rattle.cs_model.specs.declared.kind.Kind.{Kind}
use Rattle.cs_terms.specs.Term.{Valuation}
use Rattle.cs_checker.specs.declared.answer.Answer.{Answer}
use Rattle.cs_checker.specs.declared.answer.Cond.{Cond}
use Rattle.cs_checker.specs.declared.subject.Subject.{Subject}
use Rattle.cs_checker.specs.Faults.{is_faulty_for}
use Rattle.cs_checker.specs.Answers.{some_holds, YieldsFaults, HasTermsFor}
use Rattle.cs_checker.specs.Asked.{CountsOne}
use Rattle.cs_checker.proofs.Asking.{rest_step}
use Rattle.cs_access.specs.Checks.{HaveCounted}
use Rattle.cs_access.specs.Kinds.{AreFaultyKinds, IsNextKind, IsListed, HasFaultyValues}
use Rattle.cs_access.specs.declared.checking.FaultyKind.{FaultyKind}
use Rattle.cs_access.proofs.Splits.{has_values}

-- a checker whose answer has no condition, or whose kind is listed
module _ (kind : Kind) (subject : Subject) (answer : Answer) (faults : YieldsFaults kind subject answer.conds) (terms : HasTermsFor subject answer.conds) where
  pub none_next : (found : List FaultyKind) → ((numbers : Valuation) → some_holds answer.conds numbers ≡ false) → IsNextKind subject kind found found
  none_next found never = inl (λ v can. sym (faults v (has_values subject v can)) ∙ never v, refl)

  pub one_next : (found more : List FaultyKind) → IsListed kind answer.conds found more → IsNextKind subject kind found more
  one_next found more (faulty, same, values, added) = inr (faulty, same, exact, added)
    where
      exact : HasFaultyValues subject faulty
      exact v can =
          values subject terms v can ∙ faults v (has_values subject v can) ∙ ap (λ (k : Kind). is_faulty_for k subject v) (sym same)

-- none of two absent conditions holds
pub none_of_two : (conds : List (Option Cond)) (numbers : Valuation) → length conds ≡ 2 → get_or conds 0 None ≡ None → get_or conds 1 None ≡ None
    → some_holds conds numbers ≡ false
unfolding some_holds
none_of_two [] numbers two first second = absurd cc
none_of_two (one ∷ []) numbers two first second = absurd cc
none_of_two (one ∷ other ∷ []) numbers two first second =
    ap (λ o. some_holds (o ∷ other ∷ []) numbers) first ∙ ap (λ o. some_holds (None ∷ o ∷ []) numbers) second
none_of_two (one ∷ other ∷ more ∷ conds) numbers two first second = absurd cc

-- one more kind
pub kinds_more : (subject : Subject) (kinds : List Kind) (kind : Kind) (found more : List FaultyKind) → AreFaultyKinds subject kinds found
    → IsNextKind subject kind found more → AreFaultyKinds subject (kinds ++ kind ∷ []) more
kinds_more subject [] kind found more are (inl none) = inl (none.0, none.1 ∙ are)
kinds_more subject [] kind found more are (inr some) = inr (some.0, [], some.3 ∙ ap (λ l. l ++ some.0 ∷ []) are, some.1, some.2, refl)
kinds_more subject (k ∷ kinds) kind found more (inl none) next = inl (none.0, kinds_more subject kinds kind found more none.1 next)
kinds_more subject (k ∷ kinds) kind found more (inr some) (inl none) =
    inr (some.0, some.1, none.1 ∙ some.2, some.3, some.4, kinds_more subject kinds kind some.1 some.1 some.5 (inl (none.0, refl)))
kinds_more subject (k ∷ kinds) kind found more (inr some) (inr one) =
    inr (
      some.0,
      some.1 ++ one.0 ∷ [],
      one.3 ∙ ap (λ l. l ++ one.0 ∷ []) some.2,
      some.3,
      some.4,
      kinds_more subject kinds kind some.1 (some.1 ++ one.0 ∷ []) some.5 (inr (one.0, one.1, one.2, refl)),
    )

first_of_same : {C : Type 0} (x y : C) (xs ys : List C) → x ∷ xs ≡ y ∷ ys → x ≡ y
first_of_same x y xs ys e = cc

append_nil : {C : Type 0} (xs : List C) → xs ++ [] ≡ xs
append_nil [] = refl
append_nil (x ∷ xs) = ap (λ l. x ∷ l) (append_nil xs)

-- this many checkers were queried: their kinds are kept, each has counted one query, and the kinds with conditions are listed
pub record AreAsked {C : Type 0} (kind : C → Kind) (count : C → ℕ) (subject : Subject) (olds news : List C) (place : ℕ) (complete : Bool)
    (found : List FaultyKind) : Type 0 where
  pub counted : HaveCounted count (take place olds) (take place news)
  pub kinds : map kind (take place news) ≡ map kind (take place olds)
  pub listed : complete ≡ true → AreFaultyKinds subject (map kind (take place olds)) found
  pub rest : drop place news ≡ drop place olds
  pub as_many : length news ≡ length olds

module _ {C : Type 0} (kind : C → Kind) (count : C → ℕ) (subject : Subject) where
  counted_more : (olds news : List C) (old new : C) → HaveCounted count olds news → CountsOne (count old) (count new)
      → HaveCounted count (olds ++ old ∷ []) (news ++ new ∷ [])
  counted_more [] [] old new counted one = (one, tt)
  counted_more [] (n ∷ news) old new counted one = absurd counted
  counted_more (o ∷ olds) [] old new counted one = absurd counted
  counted_more (o ∷ olds) (n ∷ news) old new counted one = (counted.0, counted_more olds news old new counted.1 one)

  pub asked_none : (olds news : List C) (found : List FaultyKind) → news ≡ olds → found ≡ [] → AreAsked kind count subject olds news 0 true found
  asked_none olds news found same none = record {
    counted = tt;
    kinds = refl;
    listed = λ complete. none;
    rest = same;
    as_many = ap length same;
  }

  -- one more checker was queried
  pub asked_more : (olds news : List C) (place : ℕ) (before after : Bool) (found more : List FaultyKind) (d new : C)
      → AreAsked kind count subject olds news place before found → place < length news
      → CountsOne (count (get_or news place d)) (count new) → kind new ≡ kind (get_or news place d)
      → (after ≡ true → (before ≡ true) × IsNextKind subject (kind (get_or news place d)) found more)
      → AreAsked kind count subject olds (set news place new) (place + 1) after more
  asked_more olds news place before after found more d new asked within one same next = record {
    counted =
        rw (olds_split, take_more_set news place new within)
        (counted_more (take place olds) (take place news) (get_or news place d) new asked.counted one);
    kinds =
        ap (map kind) (take_more_set news place new within) ∙ map-append kind (take place news) (new ∷ [])
        ∙ (λ j. asked.kinds j ++ same j ∷ [])
        ∙ sym (ap (map kind) olds_split ∙ map-append kind (take place olds) (get_or news place d ∷ []));
    listed = λ whole.
        subst (λ ks. AreFaultyKinds subject ks more)
        (sym (ap (map kind) olds_split ∙ map-append kind (take place olds) (get_or news place d ∷ [])))
        (kinds_more subject (map kind (take place olds)) (kind (get_or news place d)) found more (asked.listed (next whole).0) (next whole).1);
    rest = rest_step olds news place d new asked.rest within asked.as_many;
    as_many = length-set _ _ _ ∙ asked.as_many;
  }
    where
      within_olds : place < length olds
      within_olds = let many = asked.as_many in omega arith

      here : get_or news place d ≡ get_or olds place d
      here =
          first_of_same (get_or news place d) (get_or olds place d) (drop (place + 1) news) (drop (place + 1) olds)
          (sym (drop_more news place d within) ∙ asked.rest ∙ drop_more olds place d within_olds)

      olds_split : take (place + 1) olds ≡ take place olds ++ get_or news place d ∷ []
      olds_split = take_more olds place d within_olds ∙ ap (λ x. take place olds ++ x ∷ []) (sym here)

  -- the same for any list of checkers that equals the new one
  pub asked_joined : (olds news : List C) (place : ℕ) (before after : Bool) (found more : List FaultyKind) (d new : C) (joined : List C)
      → AreAsked kind count subject olds news place before found → place < length news → joined ≡ set news place new
      → CountsOne (count (get_or news place d)) (count new) → kind new ≡ kind (get_or news place d)
      → (after ≡ true → (before ≡ true) × IsNextKind subject (kind (get_or news place d)) found more)
      → AreAsked kind count subject olds joined (place + 1) after more
  asked_joined olds news place before after found more d new joined asked within is one same next =
      subst (λ (ns : List C). AreAsked kind count subject olds ns (place + 1) after more) (sym is)
      (asked_more olds news place before after found more d new asked within one same next)

-- the list of checkers at the end
all_new : {C : Type 0} (olds news : List C) (n : ℕ) → length news ≡ length olds → n ≡ length olds
    → take n (news ++ drop (length news) olds) ≡ news
all_new olds news n many whole =
    ap (λ rest. take n (news ++ rest)) (drop_all (length news) olds (omega arith)) ∙ ap (take n) (append_nil news) ∙ take_all n news (omega arith)

module _ {C : Type 0} (olds news : List C) (place n : ℕ) (complete : Bool) (found : List FaultyKind) (kind : C → Kind) (count : C → ℕ)
    (subject : Subject) (asked : AreAsked kind count subject olds news place complete found) (over : length news ≤ place) (whole : n ≡ length olds) where
  over_olds : length olds ≤ place
  over_olds = let many = asked.as_many in omega arith

  pub all_counted : HaveCounted count olds (take n (news ++ drop (length news) olds))
  all_counted =
      rw (all_new olds news n asked.as_many whole)
      (subst (λ (os : List C). HaveCounted count os news) (take_all place olds over_olds)
      (subst (λ (ns : List C). HaveCounted count (take place olds) ns) (take_all place news over) asked.counted))

  pub all_kinds : map kind (take n (news ++ drop (length news) olds)) ≡ map kind olds
  all_kinds =
      ap (map kind) (all_new olds news n asked.as_many whole ∙ sym (take_all place news over)) ∙ asked.kinds
      ∙ ap (map kind) (take_all place olds over_olds)

  pub all_listed : complete ≡ true → AreFaultyKinds subject (map kind olds) found
  all_listed is =
      subst (λ (os : List C). AreFaultyKinds subject (map kind os) found) (take_all place olds over_olds) (asked.listed is)

pub when_ok : {A E : Type 0} (result : Result A E) (P : Type 0) (ok : Bool) → ok ≡ is_ok result → ok ≡ true → OnOk result P → P
when_ok (Ok a) P ok is so holds = holds
when_ok (Err e) P ok is so holds = absurd (cc (is, so))
