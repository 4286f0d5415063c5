-- Checkers that are queried one by one: for the contract of `ask_each`.
use Rattle.std.proofs.Common.{◌≡◌, ℕ, ◌+◌, ◌<◌, ◌≤◌, List, [], ◌∷◌, ◌++◌, length, take, drop, get_or, set, map, refl, sym, ap}
use Rattle.std.proofs.Common.{◌∙◌, subst, arith}
use Rattle.std.proofs.lemmas.List.{take_more, take_more_set, drop_more, drop-set-lt, drop_all, take_all}
use Rattle.cs_model.specs.declared.kind.Kind.{Kind}
use Rattle.cs_checker.specs.declared.subject.Subject.{Subject}
use Rattle.cs_checker.specs.declared.answer.Answer.{Answer}
use Rattle.cs_checker.specs.Asked.{IsAnsweredBy, IsAsked}

first_of_same : {C : Type 0} (x y : C) (xs ys : List C) → x ∷ xs ≡ y ∷ ys → x ≡ y
first_of_same x y xs ys e = cc

rest_of_same : {C : Type 0} (x y : C) (xs ys : List C) → x ∷ xs ≡ y ∷ ys → xs ≡ ys
rest_of_same x y xs ys e = cc

append_nil : {C : Type 0} (xs : List C) → xs ++ [] ≡ xs
append_nil [] = refl
append_nil (x ∷ xs) = ap (λ l. x ∷ l) (append_nil xs)

-- the checkers that weren't queried yet are unchanged
pub rest_step : {C : Type 0} (olds news : List C) (i : ℕ) (old new : C) → drop i news ≡ drop i olds → i < length news → length news ≡ length olds
    → drop (i + 1) (set news i new) ≡ drop (i + 1) olds
rest_step olds news i old new rest more same_length =
    let more_old : i < length olds = omega arith in
    drop-set-lt (i + 1) news i new (omega arith)
    ∙ rest_of_same (get_or news i old) (get_or olds i old) (drop (i + 1) news) (drop (i + 1) olds) (sym (drop_more news i old more) ∙ rest
    ∙ drop_more olds i old more_old)

module _ {C : Type 0} (kind : C → Kind) (count : C → ℕ) (subject : Subject) where
  pub asked_after : (olds news : List C) (answers : List Answer) (old new : C) (answer : Answer)
      → IsAsked kind count subject olds news answers → IsAnsweredBy (kind old) (kind new) (count old) (count new) subject answer
      → IsAsked kind count subject (olds ++ old ∷ []) (news ++ new ∷ []) (answers ++ answer ∷ [])
  asked_after [] [] [] old new answer asked by = (by, tt)
  asked_after [] [] (a ∷ answers) old new answer asked by = absurd asked
  asked_after [] (n ∷ news) answers old new answer asked by = absurd asked
  asked_after (o ∷ olds) [] answers old new answer asked by = absurd asked
  asked_after (o ∷ olds) (n ∷ news) [] old new answer asked by = absurd asked
  asked_after (o ∷ olds) (n ∷ news) (a ∷ answers) old new answer asked by = (asked.0, asked_after olds news answers old new answer asked.1 by)

  pub kinds_kept : (olds news : List C) (answers : List Answer) → IsAsked kind count subject olds news answers → map kind news ≡ map kind olds
  kinds_kept [] [] [] asked = refl
  kinds_kept [] [] (a ∷ answers) asked = absurd asked
  kinds_kept [] (n ∷ news) answers asked = absurd asked
  kinds_kept (o ∷ olds) [] answers asked = absurd asked
  kinds_kept (o ∷ olds) (n ∷ news) [] asked = absurd asked
  kinds_kept (o ∷ olds) (n ∷ news) (a ∷ answers) asked = λ i. asked.0.kept i ∷ kinds_kept olds news answers asked.1 i

  -- one more checker was queried
  pub asked_step : (olds news : List C) (i : ℕ) (answers after : List Answer) (d new : C) (answer : Answer)
      → IsAsked kind count subject (take i olds) (take i news) answers → drop i news ≡ drop i olds → i < length news → length news ≡ length olds
      → after ≡ answers ++ answer ∷ []
      → IsAnsweredBy (kind (get_or news i d)) (kind new) (count (get_or news i d)) (count new) subject answer
      → IsAsked kind count subject (take (i + 1) olds) (take (i + 1) (set news i new)) after
  asked_step olds news i answers after d new answer asked rest more same_length grown by =
      let more_old : i < length olds = omega arith in
      let first : get_or news i d ≡ get_or olds i d =
      first_of_same (get_or news i d) (get_or olds i d) (drop (i + 1) news) (drop (i + 1) olds) (sym (drop_more news i d more) ∙ rest
      ∙ drop_more olds i d more_old) in
      let olds_split : take (i + 1) olds ≡ take i olds ++ get_or news i d ∷ [] = take_more olds i d more_old
      ∙ ap (λ x. take i olds ++ x ∷ []) (sym first) in
      rw (olds_split, take_more_set news i new more, grown) (asked_after (take i olds) (take i news) answers (get_or news i d) new answer asked by)

  -- all were queried
  pub asked_all : (olds news : List C) (answers : List Answer) (i n : ℕ) → IsAsked kind count subject (take i olds) (take i news) answers
      → length news ≤ i → length news ≡ length olds → n ≡ length olds → map kind (take n (news ++ drop (length news) olds)) ≡ map kind olds
  asked_all olds news answers i n asked done same_length len =
      let whole : take n (news ++ drop (length news) olds) ≡ news =
      ap (λ rest. take n (news ++ rest)) (drop_all (length news) olds (omega arith)) ∙ ap (take n) (append_nil news) ∙ take_all n news (omega arith) in
      ap (map kind) whole
      ∙ kinds_kept olds news answers
      (subst (λ (os : List C). IsAsked kind count subject os news answers) (take_all i olds (omega arith))
      (subst (λ (ns : List C). IsAsked kind count subject (take i olds) ns answers) (take_all i news done) asked))
