-- The states of the scans, as plain data.
use Rattle.std.specs.Prelude.{List, map, reverse}
use Rattle.cs_ast.specs.declared.token.Token.{Token}
use Rattle.cs_grammar.specs.Text.{Kinds}
use Rattle.cs_unsupported.specs.declared.members.Reading.{Reading}
use Rattle.cs_unsupported.specs.declared.inside.Reading.{Reading as InsideReading}
use Rattle.cs_unsupported.specs.declared.types.Reading.{Reading as TypeReading}
use Rattle.cs_unsupported.specs.Spots.{Spot}
use Rattle.cs_unsupported.specs.Sites.{Site}
use Rattle.cs_unsupported.specs.Parentheses.{Parens}

-- the kinds of tokens
abbrev pub kinds : List Token → Kinds
kinds tokens = map (λ (token : Token). token.kind) tokens

-- the state for members, after some tokens
abbrev pub spot_of : Reading → Spot
spot_of reading = record { phase = reading.phase; following = reading.following; around = reverse reading.around.items }

-- the same for blocks and expressions
abbrev pub site_of : InsideReading → Site
site_of reading = record { within = reading.within; following = reading.following; around = reverse reading.around.items }

-- the same for types between parentheses
abbrev pub parens_of : TypeReading → Parens
parens_of reading = record { following = reading.following; holds = reading.holds; around = reverse reading.around.items }
