-- External declarations are placed, as they are taken part by part.
use Rattle.std.specs.Prelude.{ℕ, List, drop}
use Rattle.cs_ast.specs.declared.token.Token.{Token}
use Rattle.cs_ast.specs.declared.raw.declaration.RawSpecs.{RawSpecs}
use Rattle.cs_ast.specs.declared.raw.declaration.RawParameters.{RawParameters}
use Rattle.cs_ast.specs.declared.raw.declaration.RawFunction.{RawFunction}
use Rattle.cs_grammar.specs.TypeWords.{Names}
use Rattle.cs_grammar.specs.Text.{pointers_text}
use Rattle.cs_grammar.specs.Places.{StandsAt}
use Rattle.cs_declarator_parser.specs.declared.declarator.Declares.TheVariants as declaring
use Rattle.cs_declarator_parser.specs.declared.declarator.Pointed.{Pointed}
use Rattle.cs_declarator_parser.specs.declared.stop.Taken.{Taken}
use Rattle.cs_declarator_parser.specs.DeclarationAnswers.{IsPointed}
use Rattle.cs_decl_parser.specs.FileAnswers.{IsTypeTaken}
use Rattle.cs_declarator_parser.specs.DeclarationPlaces.{past, HasSpecPlaces, AreParametersPlaced}
use Rattle.cs_decl_parser.specs.FilePlaces.{IsHeadPlaced}

-- the specifiers of an external declaration were taken, and are placed
abbrev pub IsTypePlaced : Names → List Token → ℕ → Taken RawSpecs → Type 0
IsTypePlaced names tokens from type = IsTypeTaken names tokens from type × HasSpecPlaces type.tree (drop from tokens)

-- a name with the pointers before it was taken, and is placed
abbrev pub IsPointedPlaced : Names → List Token → ℕ → Taken Pointed → Type 0
IsPointedPlaced names tokens at pointed =
    IsPointed declaring.Names names tokens at pointed × StandsAt pointed.tree.name.place (past (pointers_text pointed.tree.pointers.items) (drop at tokens))

-- the declarator of a function is placed if its name and its parameters are
abbrev pub IsHeadBuilt : Pointed → RawParameters → RawFunction → Type 0
IsHeadBuilt pointed parameters f =
    (list : List Token) → StandsAt pointed.name.place (past (pointers_text pointed.pointers.items) list)
    → AreParametersPlaced parameters (drop 2 (past (pointers_text pointed.pointers.items) list))
    → IsHeadPlaced f list
