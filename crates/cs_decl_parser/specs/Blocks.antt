-- The results of the parts that parse blocks, and the classes of their phrases for which the grammar has no name.
use Rattle.std.specs.Prelude.{◌≡◌, ℕ, List, map, Option, Some, None, Result, Ok, Err, Vec}
use Rattle.std.specs.declared.alloc.Global.{Global}
use Rattle.std.specs.Option.{option_map}
use Rattle.cs_ast.specs.declared.token.Token.{Token}
use Rattle.cs_ast.specs.declared.token.TokenKind.TheVariants as token
use Rattle.cs_ast.specs.declared.token.Punctuator.TheVariants as punctuator
use Rattle.cs_ast.specs.declared.raw.statement.RawItem.{RawItem}
use Rattle.cs_ast.specs.declared.raw.statement.RawSwitchItem.{RawSwitchItem}
use Rattle.cs_ast.specs.RawTree.{Written}
use Rattle.cs_ast.specs.RawView.{written}
use Rattle.cs_ast.specs.RawDeclarations.{Specs, Declared}
use Rattle.cs_ast.specs.RawDeclarationView.{specs, declared}
use Rattle.cs_ast.specs.RawStatements.{First, NoFirst, FirstRuns, Items, SwitchItems}
use Rattle.cs_ast.specs.RawStatementView.{first_of, items_list, switch_list}
use Rattle.cs_ast.specs.RawFileHeight.{declaration_height, items_height}
use Rattle.cs_grammar.specs.TypeWords.{Names}
use Rattle.cs_grammar.specs.FileText.{declaration_text, items_text}
use Rattle.cs_grammar.specs.FilePhrases.{AreBlockSpecs, AreDeclared}
use Rattle.cs_grammar.specs.Parsing.{Class, Exactly}
use Rattle.cs_grammar.specs.Composed.{Sequence, Following, ClosedSome}
use Rattle.cs_grammar.specs.FileClasses.{Firsts, BlockRows}
use Rattle.cs_expr_parser.specs.Positions.{kind_or_end}
use Rattle.cs_expr_parser.specs.Parts.{Spells}
use Rattle.cs_expr_parser.specs.declared.stop.Stop.{Stop}
use Rattle.cs_declarator_parser.specs.declared.stop.Taken.{Taken}
use Rattle.cs_decl_parser.specs.declared.block.DeclaredObjects.{DeclaredObjects}
use Rattle.cs_decl_parser.specs.declared.loops.ForParts.{ForParts}
use Rattle.cs_declarator_parser.specs.Answers.{Stops}

-- declarations of objects in blocks
abbrev pub Locals : Names → Class
Locals names = record {
  Tree = Specs × List Declared;
  spell = λ local after. declaration_text local.0 local.1 after;
  tall = λ local. declaration_height local.0 local.1;
  Is = λ local. AreBlockSpecs names local.0 × AreDeclared names local.1;
  Shut = λ local after. Unit {0};
}

abbrev pub local_of : DeclaredObjects → Specs × List Declared
local_of d = (specs d.specs, map declared d.objects.items)

-- the parts between the parentheses of a `for`, with both parentheses
abbrev pub Controls : Names → Class
Controls names =
    Following (token.Punctuator punctuator.OpenParenthesis)
    (Sequence (Firsts names) (Sequence (ClosedSome names 0 (Unit {0}) (token.Punctuator punctuator.Semicolon))
    (ClosedSome names 0 (Unit {0}) (token.Punctuator punctuator.CloseParenthesis))))

abbrev pub control_of : ForParts → First × (Option Written × Option Written)
control_of parts = (first_of parts.first, (option_map written parts.test, option_map written parts.last))

-- the first part of a `for` without a declaration
abbrev pub first_if_any : Option Written → First
first_if_any None = NoFirst
first_if_any (Some e) = FirstRuns e

-- the items of a block and of a `switch`
abbrev pub items_of : Vec RawItem Global → Items
items_of items = items_list items.items

abbrev pub switch_items_of : Vec RawSwitchItem Global → SwitchItems
switch_items_of items = switch_list items.items

-- the items of a block were taken, up to the closing brace
pub record AreTaken (names : Names) (limit : ℕ) (tokens : List Token) (from : ℕ) (taken : Taken (Vec RawItem Global)) : Type 0 where
  pub height_is : taken.height ≡ items_height (items_of taken.tree)
  pub spelled : Spells tokens from taken.next (items_text (items_of taken.tree))
  pub closing : kind_or_end tokens taken.next ≡ token.Punctuator punctuator.CloseBrace
  pub exactly : Exactly (BlockRows names) limit (items_of taken.tree)

-- the items of a block, up to the closing brace, or a token is refused
abbrev pub ItemsAnswers : Names → ℕ → List Token → ℕ → Result (Taken (Vec RawItem Global)) Stop → Type 0
ItemsAnswers names limit tokens from (Ok taken) = AreTaken names limit tokens from taken
ItemsAnswers names limit tokens from (Err stop) = Stops (BlockRows names) limit tokens from stop
