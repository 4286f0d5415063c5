-- No constant of a lexed file's tree is too large: for `lexed_files_have_trees`.
use Rattle.std.proofs.Common.{List, sym}
use Rattle.std.specs.List.{All}
use Rattle.std.proofs.lemmas.List.Elements.{All-map, All-same}
use Rattle.cs_ast.specs.declared.token.Token.{Token}
use Rattle.cs_ast.specs.declared.raw.external.RawExternal.{RawExternal}
use Rattle.cs_ast.specs.HeldTokens.{IsHeldToken, AreHeld}
use Rattle.cs_grammar.specs.FileText.{file_text}
use Rattle.cs_expr_parser.specs.Positions.{kinds}
use Rattle.cs_decl_parser.specs.Files.{parts_of, IsTheFile}

-- if no token has a constant that is too wide, neither does the tree of the tokens
pub tree_held : (tokens : List Token) (tree : List RawExternal) → AreHeld tokens → IsTheFile tokens (parts_of tree)
    → All IsHeldToken (file_text (parts_of tree))
tree_held tokens tree held is =
    All-same IsHeldToken (file_text (parts_of tree)) (kinds tokens) (sym is.spelled) (All-map IsHeldToken (λ (t : Token). t.kind) tokens held)
