-- Tokens taken from the end of a reversed list: for `without_attributes` and `joined`.
use Rattle.std.proofs.Common.{◌≡◌, ◌-◌, List, [], ◌∷◌, ◌++◌, length, length-append, take, reverse, refl, sym, ap, ◌∙◌, arith}
use Rattle.std.proofs.lemmas.List.{reverse-append, reverse-reverse, take-append-le}
use Rattle.cs_ast.specs.declared.token.Token.{Token}

-- the last one of the reversed list is the next one
pub turned_round : (old left : List Token) (token : Token) → old ≡ left ++ token ∷ [] → reverse old ≡ token ∷ reverse left
turned_round old left token is = ap reverse is ∙ reverse-append left (token ∷ [])

take_whole : (xs : List Token) → take (length xs) xs ≡ xs
take_whole [] = refl
take_whole (x ∷ xs) = ap (λ ys. x ∷ ys) (take_whole xs)

-- without it, the others are in order
pub front_turned : (left inside : List Token) (token : Token) → reverse left ≡ token ∷ inside → reverse (take (length left - 1) left) ≡ inside
front_turned left inside token is =
    let whole : left ≡ reverse inside ++ token ∷ [] = sym (reverse-reverse left) ∙ ap reverse is ∙ reverse-append (token ∷ []) inside in
    let size : length left - 1 ≡ length (reverse inside) = omega (arith, ap length whole, length-append (reverse inside) (token ∷ [])) in
    ap (λ n. reverse (take n left)) size ∙ ap (λ ts. reverse (take (length (reverse inside)) ts)) whole
    ∙ ap reverse (take-append-le (length (reverse inside)) (reverse inside) (token ∷ []) (omega arith) ∙ take_whole (reverse inside))
    ∙ reverse-reverse inside
