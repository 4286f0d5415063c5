-- The tree of a file has no more tokens and bytes of string literals than the file's text has bytes: for `lexed_files_have_trees`.
use Rattle.std.proofs.Common.{◌≡◌, List, [], ◌∷◌, refl, arith}
use Rattle.std.specs.List.{sum_by}
use Rattle.std.proofs.lemmas.List.Sums.{sum_by-cons}
use Rattle.cs_ast.specs.declared.token.Token.{Token}
use Rattle.cs_lexer.specs.Extent.{token_extent}
use Rattle.cs_expr_parser.specs.Positions.{kinds}
use Rattle.cs_well_formed.specs.Sizes.{text_size}

-- the size of a text is the sum of the sizes of its tokens
pub size_is_extent : (tokens : List Token) → text_size (kinds tokens) ≡ sum_by token_extent tokens
size_is_extent [] = refl
size_is_extent (t ∷ ts) = omega (arith, size_is_extent ts, sum_by-cons token_extent t ts)
