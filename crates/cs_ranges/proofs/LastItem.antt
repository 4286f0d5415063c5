-- A list as its front and its last item: for the functions that write the last item.
use Rattle.std.proofs.Common.{◌≡◌, ◌+◌, ◌-◌, ◌<◌, ℕ, List, [], ◌∷◌, ◌++◌, length, take, set, get_or, sym, ap, ◌∙◌, arith}
use Rattle.std.proofs.Common.{take_all}
use Rattle.std.proofs.lemmas.List.{take_more, take_more_set, length-set}

pub front_last : {X : Type 0} (xs : List X) (n : ℕ) (last : X) → n ≡ length xs → 0 < n → last ≡ get_or xs (n - 1) last
    → xs ≡ take (n - 1) xs ++ last ∷ []
front_last {X} xs n last len some is =
    sym (take_all (n - 1 + 1) xs (omega arith)) ∙ take_more xs (n - 1) last (omega arith)
    ∙ ap (λ (x : X). take (n - 1) xs ++ x ∷ []) (sym is)

-- after the last item is replaced
pub front_new : {X : Type 0} (xs : List X) (n : ℕ) (new : X) → n ≡ length xs → 0 < n → set xs (n - 1) new ≡ take (n - 1) xs ++ new ∷ []
front_new {X} xs n new len some =
    sym (take_all (n - 1 + 1) (set xs (n - 1) new) (omega (arith, length-set xs (n - 1) new)))
    ∙ take_more_set xs (n - 1) new (omega arith)
