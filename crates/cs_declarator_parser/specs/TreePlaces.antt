-- Where the trees that parts of the parser took are placed.
use Rattle.std.specs.Prelude.{ℕ, List, drop}
use Rattle.cs_ast.specs.declared.token.Token.{Token}
use Rattle.cs_declarator_parser.specs.declared.stop.Taken.{Taken}
use Rattle.cs_declarator_parser.specs.declared.stop.Unclosed.{Unclosed}

-- the tree that was taken is placed in the tokens from an index on
abbrev pub TreeAt : {A : Type 0} → (A → List Token → Type 0) → List Token → ℕ → Taken A → Type 0
TreeAt Has tokens from taken = Has taken.tree (drop from tokens)

-- the same for one that may end with an expression
abbrev pub UnclosedTreeAt : {A : Type 0} → (A → List Token → Type 0) → List Token → ℕ → Unclosed A → Type 0
UnclosedTreeAt Has tokens from taken = Has taken.tree (drop from tokens)
