-- Tokens by their indices: for the contracts of all parts of the parser.
use Rattle.std.proofs.Common.{◌≡◌, ℕ, suc, ◌+◌, ◌<◌, ◌≤◌, ◌⊎◌, inl, inr, List, [], ◌∷◌, ◌++◌, Option, Some, None, length}
use Rattle.std.proofs.Common.{drop, slice_get, get_or, refl, sym, ap, ◌∙◌, subst, arith, add-one, append_assoc}
use Rattle.std.proofs.Math.Seq.{drop-cons}
use Rattle.std.proofs.Math.ListN.{drop_of_length-le}
use Rattle.std.proofs.lemmas.Option.{slice_get_within, get_or_from_slice_get, slice_get-get_or}
use Rattle.std.proofs.lemmas.Bool.{cases_lt}
use Rattle.cs_ast.specs.declared.token.Token.{Token}
use Rattle.cs_ast.specs.declared.token.TokenKind.{TokenKind}
use Rattle.cs_ast.specs.declared.token.TokenKind.TheVariants as token
use Rattle.cs_ast.specs.declared.token.Keyword.{Keyword}
use Rattle.cs_ast.specs.declared.token.Punctuator.{Punctuator}
use Rattle.cs_grammar.specs.Text.{Kinds}
use Rattle.cs_grammar.specs.Parsing.{Near}
use Rattle.cs_expr_parser.specs.Positions.{kinds, first_kind, kind_or_end, punctuator_of, keyword_of, name_of}
use Rattle.cs_expr_parser.specs.Parts.{Spells}

pub kind_of_some : (tokens : List Token) (at : ℕ) (t : Token) → slice_get tokens at ≡ Some t → kind_or_end tokens at ≡ t.kind
kind_of_some tokens at t e =
    let h : at < length tokens = slice_get_within tokens at t e in
    ap first_kind (drop-cons tokens at t h) ∙ ap (λ (x : Token). x.kind) (get_or_from_slice_get tokens at t t e)

pub past_end : (tokens : List Token) (at : ℕ) → slice_get tokens at ≡ None → length tokens ≤ at
past_end [] at e = omega arith
past_end (t ∷ ts) at e =
    elim (cases_lt at (length (t ∷ ts))) [
      | inl less ↦ absurd (let s = slice_get-get_or (t ∷ ts) at t less in cc)
      | inr more ↦ more
    ]

pub kind_of_none : (tokens : List Token) (at : ℕ) → slice_get tokens at ≡ None → kind_or_end tokens at ≡ token.Attribute
kind_of_none tokens at e = ap first_kind (drop_of_length-le tokens (past_end tokens at e))

-- the token at an index, if it isn't the end of input, and the tokens after it
pub stands : (tokens : List Token) (at : ℕ) (kind : TokenKind) → kind_or_end tokens at ≡ kind → (kind ≡ token.Attribute → ⊥)
    → (at < length tokens) × (kinds (drop at tokens) ≡ kind ∷ kinds (drop (at + 1) tokens))
stands [] at kind e ne =
    absurd (ne (sym e ∙ ap first_kind (drop_of_length-le [] {i = at} (omega arith))))
stands (t ∷ ts) at kind e ne =
    elim (cases_lt at (length (t ∷ ts))) [
      | inl less ↦
          let d = drop-cons (t ∷ ts) at t less in
          let k : (get_or (t ∷ ts) at t).kind ≡ kind = sym (ap first_kind d) ∙ e in (
            less,
            ap kinds d ∙ ap (λ (x : TokenKind). x ∷ kinds (drop (suc at) (t ∷ ts))) k
                ∙ ap (λ (n : ℕ). kind ∷ kinds (drop n (t ∷ ts))) (sym (add-one at)),
          )
      | inr more ↦ absurd (ne (sym e ∙ ap first_kind (drop_of_length-le (t ∷ ts) more)))
    ]

near_list : (tokens : List Token) → Near (first_kind tokens) (kinds tokens)
near_list [] = inl refl
near_list (t ∷ ts) = inr (kinds ts, refl)

-- the tokens from an index are at an end, or continue with the first of them
pub near : (tokens : List Token) (at : ℕ) → Near (kind_or_end tokens at) (kinds (drop at tokens))
near tokens at = near_list (drop at tokens)

-- the first of some tokens, by their kinds
pub kinds_first : (tokens : List Token) (kind : TokenKind) (others : Kinds) → kinds tokens ≡ kind ∷ others → first_kind tokens ≡ kind
kinds_first [] kind others e = absurd cc
kinds_first (t ∷ ts) kind others e = cc

-- one token
pub spells_one : (tokens : List Token) (at : ℕ) (kind : TokenKind) → kind_or_end tokens at ≡ kind → (kind ≡ token.Attribute → ⊥)
    → Spells tokens at (at + 1) (λ rest. kind ∷ rest)
spells_one tokens at kind e ne =
    let s = stands tokens at kind e ne in
    let less : at < length tokens = s.0 in
    record { onward = omega arith; within = omega arith; spelled = s.1 }

pub spells_none : (tokens : List Token) (at : ℕ) → at ≤ length tokens → Spells tokens at at (λ rest. rest)
spells_none tokens at within = record { onward = omega arith; within = within; spelled = refl }

-- tokens, followed by others
pub spells_more : (tokens : List Token) (from mid next : ℕ) (f g : Kinds → Kinds) → Spells tokens from mid f → Spells tokens mid next g
    → Spells tokens from next (λ rest. f (g rest))
spells_more tokens from mid next f g a b = record { onward = omega (arith, a.onward, b.onward); within = b.within; spelled = a.spelled ∙ ap f b.spelled }

-- the same tokens, written differently
pub spells_as : (tokens : List Token) (from next : ℕ) (f g : Kinds → Kinds) → Spells tokens from next f → ((rest : Kinds) → f rest ≡ g rest)
    → Spells tokens from next g
spells_as tokens from next f g a same = record { onward = a.onward; within = a.within; spelled = a.spelled ∙ same (kinds (drop next tokens)) }

pub punctuator_is : (kind : TokenKind) (m : Punctuator) → punctuator_of kind ≡ Some m → kind ≡ token.Punctuator m
punctuator_is (token.Punctuator n) m e = cc
punctuator_is (token.Keyword k) m e = absurd cc
punctuator_is (token.Unsupported k) m e = absurd cc
punctuator_is token.Attribute m e = absurd cc
punctuator_is (token.Name k) m e = absurd cc
punctuator_is (token.Number k) m e = absurd cc
punctuator_is (token.Character k) m e = absurd cc
punctuator_is (token.Text k) m e = absurd cc

pub keyword_is : (kind : TokenKind) (m : Keyword) → keyword_of kind ≡ Some m → kind ≡ token.Keyword m
keyword_is (token.Punctuator n) m e = absurd cc
keyword_is (token.Keyword k) m e = cc
keyword_is (token.Unsupported k) m e = absurd cc
keyword_is token.Attribute m e = absurd cc
keyword_is (token.Name k) m e = absurd cc
keyword_is (token.Number k) m e = absurd cc
keyword_is (token.Character k) m e = absurd cc
keyword_is (token.Text k) m e = absurd cc

pub name_is : (kind : TokenKind) (m : List ℕ) → name_of kind ≡ Some m → kind ≡ token.Name m
name_is (token.Punctuator n) m e = absurd cc
name_is (token.Keyword k) m e = absurd cc
name_is (token.Unsupported k) m e = absurd cc
name_is token.Attribute m e = absurd cc
name_is (token.Name k) m e = cc
name_is (token.Number k) m e = absurd cc
name_is (token.Character k) m e = absurd cc
name_is (token.Text k) m e = absurd cc
