-- What follows the first of some tokens: for the contracts of the parts of statements.
use Rattle.std.proofs.Common.{◌≡◌, ℕ, ◌+◌, List, ◌∷◌, ◌++◌, drop, sym, ◌∙◌, arith}
use Rattle.cs_ast.specs.declared.token.Token.{Token}
use Rattle.cs_ast.specs.declared.token.TokenKind.{TokenKind}
use Rattle.cs_ast.specs.declared.token.TokenKind.TheVariants as token
use Rattle.cs_grammar.specs.Text.{Kinds}
use Rattle.cs_expr_parser.specs.Positions.{kinds, kind_or_end}
use Rattle.cs_expr_parser.specs.Parts.{Spells}
use Rattle.cs_expr_parser.proofs.Standing.{stands, kinds_first}
use Rattle.cs_expr_parser.proofs.Stopping.{refused_number}

-- the second of some tokens, the first of which isn't the end of input
pub second_front : (tokens : List Token) (from at : ℕ) (f : TokenKind) (fs : Kinds) → Spells tokens from at (λ rest. (f ∷ fs) ++ rest)
    → (f ≡ token.Attribute → ⊥) → Spells tokens (from + 1) at (λ rest. fs ++ rest)
second_front tokens from at f fs sp some =
    let k : kind_or_end tokens from ≡ f = kinds_first (drop from tokens) f (fs ++ kinds (drop at tokens)) sp.spelled in
    let s = stands tokens from f k some in
    let e : f ∷ kinds (drop (from + 1) tokens) ≡ f ∷ (fs ++ kinds (drop at tokens)) = sym s.1 ∙ sp.spelled in
    let n = refused_number tokens from at (f ∷ fs) sp in
    let w = sp.within in
    record { onward = omega arith; within = w; spelled = cc }
