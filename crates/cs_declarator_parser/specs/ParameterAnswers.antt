-- The results that the parts that parse parameters return to one another.
use Rattle.std.specs.Prelude.{◌≡◌, ℕ, ◌+◌, ◌⊎◌, Bool, false, List, Option, Some, None, Result, Ok, Err}
use Rattle.std.specs.Option.{is_some}
use Rattle.cs_ast.specs.declared.token.Token.{Token}
use Rattle.cs_ast.specs.declared.raw.declaration.RawParameter.{RawParameter}
use Rattle.cs_ast.specs.RawDeclarations.{Parameter}
use Rattle.cs_ast.specs.RawDeclarationView.{parameter}
use Rattle.cs_grammar.specs.declared.refusal.Reason.{Reason}
use Rattle.cs_grammar.specs.TypeWords.{Names}
use Rattle.cs_grammar.specs.FileText.{parameter_text}
use Rattle.cs_grammar.specs.Parsing.{Took}
use Rattle.cs_grammar.specs.DeclarationClasses.{ends_parameter, ParameterClass}
use Rattle.cs_expr_parser.specs.Positions.{kind_or_end}
use Rattle.cs_expr_parser.specs.Parts.{Spells, IsRefused, is_deep}
use Rattle.cs_expr_parser.specs.declared.stop.Stop.{Stop}
use Rattle.cs_expr_parser.specs.declared.stop.Stop.TheVariants as stop
use Rattle.cs_declarator_parser.specs.declared.stop.Taken.{Taken}
use Rattle.cs_declarator_parser.specs.Answers.{Stops, IsTaken}

-- a token that can't end a parameter is refused after a whole one; only higher parameters continue with it, or none
pub record IsRefusedAfter (names : Names) (limit : ℕ) (tokens : List Token) (from at : ℕ) (reason : Reason) : Type 0 where
  pub whole : Parameter
  pub spelled : Spells tokens from at (parameter_text whole)
  pub unended : ends_parameter (kind_or_end tokens at) ≡ false
  pub took : Took (ParameterClass names) limit whole (kind_or_end tokens at) (is_deep reason)

-- memory runs out, or a token is refused, within a parameter or after a whole one
abbrev pub ParameterStops : Names → ℕ → List Token → ℕ → Stop → Type 0
ParameterStops names limit tokens from (stop.Refused at reason) = IsRefused (ParameterClass names) limit tokens from at reason
    ⊎ IsRefusedAfter names limit tokens from at reason
ParameterStops names limit tokens from other = Stops (ParameterClass names) limit tokens from other

-- a parameter that no higher one continues was taken, or a token is refused
abbrev pub ParameterAnswer : Names → ℕ → List Token → ℕ → Result (Taken RawParameter) Stop → Type 0
ParameterAnswer names limit tokens from (Ok taken) = IsTaken (ParameterClass names) parameter limit tokens from false taken
ParameterAnswer names limit tokens from (Err stop) = ParameterStops names limit tokens from stop

-- the index of the token after a name at `at`, or `at` if there is no name
abbrev pub number_past : ℕ → Option (List ℕ) → ℕ
number_past at None = at
number_past at (Some name) = at + 1

-- a parameter has a name
abbrev pub has_name : RawParameter → Bool
has_name p = is_some p.name
