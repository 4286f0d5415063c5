-- The results of the parts that parse external declarations.
use Rattle.std.specs.Prelude.{◌≡◌, ℕ, false, List, ◌∷◌, ◌++◌, Result, Ok, Err}
use Rattle.cs_ast.specs.declared.token.Token.{Token}
use Rattle.cs_ast.specs.declared.token.TokenKind.TheVariants as token
use Rattle.cs_ast.specs.declared.token.Keyword.TheVariants as keyword
use Rattle.cs_ast.specs.declared.token.Punctuator.TheVariants as punctuator
use Rattle.cs_ast.specs.declared.raw.declaration.RawSpecs.{RawSpecs}
use Rattle.cs_ast.specs.RawDeclarations.{Specs, Parameters, Head}
use Rattle.cs_ast.specs.RawDeclarationView.{specs}
use Rattle.cs_grammar.specs.TypeWords.{Names}
use Rattle.cs_grammar.specs.Text.{Kinds}
use Rattle.cs_grammar.specs.FileText.{specs_text, head_text}
use Rattle.cs_grammar.specs.FilePhrases.{AreSpecs, IsHead}
use Rattle.cs_grammar.specs.DeclarationClasses.{FileSpecs}
use Rattle.cs_expr_parser.specs.Positions.{kind_or_end}
use Rattle.cs_expr_parser.specs.Parts.{Spells}
use Rattle.cs_declarator_parser.specs.declared.source.Scope.TheVariants.{Block}
use Rattle.cs_expr_parser.specs.declared.stop.Stop.{Stop}
use Rattle.cs_expr_parser.specs.declared.stop.Stop.TheVariants as stop
use Rattle.cs_declarator_parser.specs.Aptness.{IsApt}
use Rattle.cs_declarator_parser.specs.declared.declarator.Pointed.{Pointed}
use Rattle.cs_declarator_parser.specs.declared.stop.Taken.{Taken}
use Rattle.cs_declarator_parser.specs.Answers.{IsTaken}

-- the specifiers of an external declaration that is no typedef were taken
pub record IsTypeTaken (names : Names) (tokens : List Token) (from : ℕ) (type : Taken RawSpecs) : Type 0 where
  pub taken : IsTaken (FileSpecs names) specs 199 tokens from false type
  pub no_typedef : kind_or_end tokens from ≡ token.Keyword keyword.Typedef → ⊥

-- the declarator of a function has these pointers, this name and these parameters
abbrev pub IsHeadOf : Pointed → Parameters → Head → Type 0
IsHeadOf pointed parameters head = head ≡ record { pointers = pointed.pointers.items; name = pointed.name.name; parameters = parameters }

-- the tokens from one index to another begin the definition of a function, and contain the brace that opens its body
pub record BeginsBody (names : Names) (tokens : List Token) (from at : ℕ) : Type 0 where
  pub type : Specs
  pub head : Head
  pub inside : Kinds
  pub is_type : AreSpecs names type
  pub is_head : IsHead names head
  pub spelled : Spells tokens from at (λ rest. specs_text type (head_text head (token.Punctuator punctuator.OpenBrace ∷ (inside ++ rest))))

-- if a token is refused in the body of a function, the reason is possible in blocks
abbrev pub IsStopInBody : Names → List Token → ℕ → Stop → Type 0
IsStopInBody names tokens from (stop.Refused at reason) = BeginsBody names tokens from at → IsApt Block (kind_or_end tokens at) reason
IsStopInBody names tokens from other = Unit {0}

abbrev pub IsBodyApt : {A : Type 0} → Names → List Token → ℕ → Result A Stop → Type 0
IsBodyApt names tokens from (Ok taken) = Unit {0}
IsBodyApt names tokens from (Err stop) = IsStopInBody names tokens from stop
