-- What the parsed parts of a file imply when a token is refused.
use Rattle.std.specs.Prelude.{◌≡◌, ◌≤◌, false, List, [], take}
use Rattle.cs_ast.specs.declared.token.Token.{Token}
use Rattle.cs_expr_parser.specs.Positions.{kinds}
use Rattle.cs_expr_parser.specs.Parts.{is_deep}
use Rattle.cs_expr_parser.specs.declared.stop.Stop.{Stop}
use Rattle.cs_expr_parser.specs.declared.stop.Stop.TheVariants as stop
use Rattle.cs_unsupported.specs.LastParts.{EndInPart}
use Rattle.cs_decl_parser.specs.declared.externals.Parts.{Parts}

-- nothing has been parsed
pub record IsFresh (parts : Parts) : Type 0 where
  pub list : parts.list.items ≡ []
  pub names : parts.names ≡ []
  pub next : parts.next ≡ 0

-- memory runs out, or a token is refused after the parts; unless the reason is "too deep", the token is in the part that begins
-- after them
abbrev pub StandsAmidst : List Token → Parts → Stop → Type 0
StandsAmidst tokens parts stop.Memory = Unit {0}
StandsAmidst tokens parts (stop.Refused at reason) = (parts.next ≤ at)
    × (is_deep reason ≡ false → EndInPart parts.names (kinds (take at tokens)) parts.next)
