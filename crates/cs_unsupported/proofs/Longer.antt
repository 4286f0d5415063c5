-- An expression may continue with an operator and one more operand. For the contract of `is_inside`.
use Rattle.std.proofs.Common.{◌≡◌, ℕ, ◌≤◌, ◌∷◌, refl, ap, arith}
use Rattle.cs_ast.specs.declared.token.TokenKind.TheVariants as token
use Rattle.cs_ast.specs.declared.token.Punctuator.TheVariants as punctuator
use Rattle.cs_ast.specs.declared.raw.operator.InfixOp.TheVariants as operator
use Rattle.cs_ast.specs.declared.raw.operator.PrefixOp.TheVariants as before
use Rattle.cs_ast.specs.RawTree.{Written, Infix, Choice, Assign, Comma, Prefix}
use Rattle.cs_grammar.specs.Levels.{level_of}
use Rattle.cs_grammar.specs.TypeWords.{Names}
use Rattle.cs_grammar.specs.Punctuators.{infix_punctuator, assign_punctuator}
use Rattle.cs_grammar.specs.Text.{Kinds, text}
use Rattle.cs_grammar.specs.Phrases.{IsWell, IsPhrase}
use Rattle.cs_grammar.proofs.StatementParts.{nought}
use Rattle.cs_unsupported.proofs.InsideTraces.{plus}

-- the expression as the left operand of a sum
abbrev summed : Written → Written
summed e = Infix operator.Add e nought

-- the expression with one more operand after its last one
abbrev pub longer : Written → Written
longer (Infix operator.Or l r) = Infix operator.Or l (longer r)
longer (Infix operator.And l r) = Infix operator.And l (longer r)
longer (Infix operator.BitOr l r) = Infix operator.BitOr l (longer r)
longer (Infix operator.BitXor l r) = Infix operator.BitXor l (longer r)
longer (Infix operator.BitAnd l r) = Infix operator.BitAnd l (longer r)
longer (Infix operator.Equal l r) = Infix operator.Equal l (longer r)
longer (Infix operator.Differs l r) = Infix operator.Differs l (longer r)
longer (Infix operator.Less l r) = Infix operator.Less l (longer r)
longer (Infix operator.AtMost l r) = Infix operator.AtMost l (longer r)
longer (Infix operator.More l r) = Infix operator.More l (longer r)
longer (Infix operator.AtLeast l r) = Infix operator.AtLeast l (longer r)
longer (Infix operator.ShiftLeft l r) = Infix operator.ShiftLeft l (longer r)
longer (Infix operator.ShiftRight l r) = Infix operator.ShiftRight l (longer r)
longer (Choice e o z) = Choice e o (longer z)
longer (Assign op l r) = Assign op l (longer r)
longer (Comma l r) = Comma l (longer r)
longer e = summed e

-- the tokens by which the expression continues
abbrev pub following : Kinds → Kinds
following z = plus ∷ text nought z

pub longer_text : (e : Written) (z : Kinds) → text (longer e) z ≡ text e (following z)
longer_text (Infix operator.Or l r) z = ap (λ x. text l (token.Punctuator (infix_punctuator operator.Or) ∷ x)) (longer_text r z)
longer_text (Infix operator.And l r) z = ap (λ x. text l (token.Punctuator (infix_punctuator operator.And) ∷ x)) (longer_text r z)
longer_text (Infix operator.BitOr l r) z = ap (λ x. text l (token.Punctuator (infix_punctuator operator.BitOr) ∷ x)) (longer_text r z)
longer_text (Infix operator.BitXor l r) z = ap (λ x. text l (token.Punctuator (infix_punctuator operator.BitXor) ∷ x)) (longer_text r z)
longer_text (Infix operator.BitAnd l r) z = ap (λ x. text l (token.Punctuator (infix_punctuator operator.BitAnd) ∷ x)) (longer_text r z)
longer_text (Infix operator.Equal l r) z = ap (λ x. text l (token.Punctuator (infix_punctuator operator.Equal) ∷ x)) (longer_text r z)
longer_text (Infix operator.Differs l r) z = ap (λ x. text l (token.Punctuator (infix_punctuator operator.Differs) ∷ x)) (longer_text r z)
longer_text (Infix operator.Less l r) z = ap (λ x. text l (token.Punctuator (infix_punctuator operator.Less) ∷ x)) (longer_text r z)
longer_text (Infix operator.AtMost l r) z = ap (λ x. text l (token.Punctuator (infix_punctuator operator.AtMost) ∷ x)) (longer_text r z)
longer_text (Infix operator.More l r) z = ap (λ x. text l (token.Punctuator (infix_punctuator operator.More) ∷ x)) (longer_text r z)
longer_text (Infix operator.AtLeast l r) z = ap (λ x. text l (token.Punctuator (infix_punctuator operator.AtLeast) ∷ x)) (longer_text r z)
longer_text (Infix operator.ShiftLeft l r) z = ap (λ x. text l (token.Punctuator (infix_punctuator operator.ShiftLeft) ∷ x)) (longer_text r z)
longer_text (Infix operator.ShiftRight l r) z = ap (λ x. text l (token.Punctuator (infix_punctuator operator.ShiftRight) ∷ x)) (longer_text r z)
longer_text (Infix _ l r) z = refl
longer_text (Choice e o w) z = ap (λ x. text e (token.Punctuator punctuator.Question ∷ text o (token.Punctuator punctuator.Colon ∷ x))) (longer_text w z)
longer_text (Assign op l r) z = ap (λ x. text l (token.Punctuator (assign_punctuator op) ∷ x)) (longer_text r z)
longer_text (Comma l r) z = ap (λ x. text l (token.Punctuator punctuator.Comma ∷ x)) (longer_text r z)
longer_text _ z = refl

pub longer_level : (e : Written) (n : ℕ) → n ≤ 11 → n ≤ level_of e → n ≤ level_of (longer e)
longer_level (Infix operator.Or l r) n few b = b
longer_level (Infix operator.And l r) n few b = b
longer_level (Infix operator.BitOr l r) n few b = b
longer_level (Infix operator.BitXor l r) n few b = b
longer_level (Infix operator.BitAnd l r) n few b = b
longer_level (Infix operator.Equal l r) n few b = b
longer_level (Infix operator.Differs l r) n few b = b
longer_level (Infix operator.Less l r) n few b = b
longer_level (Infix operator.AtMost l r) n few b = b
longer_level (Infix operator.More l r) n few b = b
longer_level (Infix operator.AtLeast l r) n few b = b
longer_level (Infix operator.ShiftLeft l r) n few b = b
longer_level (Infix operator.ShiftRight l r) n few b = b
longer_level (Infix _ l r) n few b = few
longer_level (Choice e o z) n few b = b
longer_level (Assign op l r) n few b = b
longer_level (Comma l r) n few b = b
longer_level _ n few b = few

pub longer_well : (names : Names) (e : Written) → IsWell names e → IsWell names (longer e)
longer_well names (Infix operator.Or l r) is = (is.0, is.1, longer_level r 4 (omega arith) is.2, longer_well names r is.3)
longer_well names (Infix operator.And l r) is = (is.0, is.1, longer_level r 5 (omega arith) is.2, longer_well names r is.3)
longer_well names (Infix operator.BitOr l r) is = (is.0, is.1, longer_level r 6 (omega arith) is.2, longer_well names r is.3)
longer_well names (Infix operator.BitXor l r) is = (is.0, is.1, longer_level r 7 (omega arith) is.2, longer_well names r is.3)
longer_well names (Infix operator.BitAnd l r) is = (is.0, is.1, longer_level r 8 (omega arith) is.2, longer_well names r is.3)
longer_well names (Infix operator.Equal l r) is = (is.0, is.1, longer_level r 9 (omega arith) is.2, longer_well names r is.3)
longer_well names (Infix operator.Differs l r) is = (is.0, is.1, longer_level r 9 (omega arith) is.2, longer_well names r is.3)
longer_well names (Infix operator.Less l r) is = (is.0, is.1, longer_level r 10 (omega arith) is.2, longer_well names r is.3)
longer_well names (Infix operator.AtMost l r) is = (is.0, is.1, longer_level r 10 (omega arith) is.2, longer_well names r is.3)
longer_well names (Infix operator.More l r) is = (is.0, is.1, longer_level r 10 (omega arith) is.2, longer_well names r is.3)
longer_well names (Infix operator.AtLeast l r) is = (is.0, is.1, longer_level r 10 (omega arith) is.2, longer_well names r is.3)
longer_well names (Infix operator.ShiftLeft l r) is = (is.0, is.1, longer_level r 11 (omega arith) is.2, longer_well names r is.3)
longer_well names (Infix operator.ShiftRight l r) is = (is.0, is.1, longer_level r 11 (omega arith) is.2, longer_well names r is.3)
longer_well names (Infix _ l r) is = (omega arith, is, omega arith, tt)
longer_well names (Choice e o z) is = (is.0, is.1, is.2, longer_level z 2 (omega arith) is.3, longer_well names z is.4)
longer_well names (Assign op l r) is = (is.0, is.1, longer_level r 1 (omega arith) is.2, longer_well names r is.3)
longer_well names (Comma l r) is = (is.0, longer_level r 1 (omega arith) is.1, longer_well names r is.2)
longer_well names _ is = (omega arith, is, omega arith, tt)

pub longer_phrase : (names : Names) (level : ℕ) (e : Written) → level ≤ 11 → IsPhrase names level e → IsPhrase names level (longer e)
longer_phrase names level e few is = (longer_level e level few is.0, longer_well names e is.1)

-- an expression that begins with an operator
abbrev pub signed : Written
signed = Prefix before.Plus nought

pub signed_phrase : (names : Names) (level : ℕ) → level ≤ 14 → IsPhrase names level signed
signed_phrase names level few = (few, (omega arith, tt))
