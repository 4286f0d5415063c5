-- Expressions of one token.
use Rattle.std.specs.Prelude.{◌≡◌, Bool, true, false, not, Option, Some, None}
use Rattle.cs_ast.specs.declared.token.TokenKind.{TokenKind}
use Rattle.cs_ast.specs.declared.token.TokenKind.TheVariants as token
use Rattle.cs_ast.specs.declared.raw.expression.RawExpr.{RawExpr}
use Rattle.cs_ast.specs.declared.raw.expression.RawExprKind.{RawExprKind}
use Rattle.cs_ast.specs.RawTree.{Written, Named, Numeral, Character, Literal}
use Rattle.cs_ast.specs.RawView.{written, written_kind}
use Rattle.cs_grammar.specs.TypeWords.{Names, is_among}

-- the token is a name that is no typedef name, a constant or a string literal
abbrev pub is_leaf : Names → TokenKind → Bool
is_leaf names (token.Name name) = not (is_among names name)
is_leaf names (token.Number constant) = true
is_leaf names (token.Character value) = true
is_leaf names (token.Text bytes) = true
is_leaf names other = false

-- the tree is the expression of the token
abbrev pub IsLeaf : TokenKind → Written → Type 0
IsLeaf (token.Name name) tree = tree ≡ Named name
IsLeaf (token.Number constant) tree = tree ≡ Numeral constant
IsLeaf (token.Character value) tree = tree ≡ Character value
IsLeaf (token.Text bytes) tree = tree ≡ Literal bytes
IsLeaf other tree = ⊥

-- the result for a token: its expression, or none if it is none
abbrev pub IsLeafOf : Names → TokenKind → Option RawExpr → Type 0
IsLeafOf names kind (Some tree) = (is_leaf names kind ≡ true) × IsLeaf kind (written tree)
IsLeafOf names kind None = is_leaf names kind ≡ false

-- the same for an expression without its position
abbrev pub IsLeafKindOf : Names → TokenKind → Option RawExprKind → Type 0
IsLeafKindOf names kind (Some leaf) = (is_leaf names kind ≡ true) × IsLeaf kind (written_kind leaf)
IsLeafKindOf names kind None = is_leaf names kind ≡ false
