-- The constants of a written tree are among its tokens.
use Rattle.std.specs.List.{All}
use Rattle.cs_ast.specs.HeldTokens.{IsHeldToken}
use Rattle.cs_ast.specs.RawTree.{Written}
use Rattle.cs_ast.specs.RawDeclarations.{Initial}
use Rattle.cs_grammar.specs.Text.{Kinds, text}
use Rattle.cs_grammar.specs.FileText.{initial_text}
use Rattle.cs_well_formed.specs.Constants.{HasConstants, InitialHasConstants}

-- if no token is too large, no constant is
abbrev pub TextsHoldConstants : Type 0
TextsHoldConstants = (e : Written) (following : Kinds) → All IsHeldToken (text e following) → HasConstants e

abbrev pub InitialTextsHoldConstants : Type 0
InitialTextsHoldConstants = (i : Initial) (following : Kinds) → All IsHeldToken (initial_text i following) → InitialHasConstants i
