-- The classes of phrases that declarations, statements and files consist of.
use Rattle.std.specs.Prelude.{◌≡◌, ℕ, ◌+◌, max, Bool, true, false, ◌∷◌, Option, Some, None, IsFalse}
use Rattle.cs_ast.specs.declared.token.TokenKind.TheVariants as token
use Rattle.cs_ast.specs.declared.token.Keyword.TheVariants as keyword
use Rattle.cs_ast.specs.declared.token.Punctuator.TheVariants as punctuator
use Rattle.cs_ast.specs.RawTree.{Written}
use Rattle.cs_ast.specs.RawHeight.{height}
use Rattle.cs_ast.specs.RawStatements.{First, Sentence, Item, Declares, Does, Items, SwitchItem, Inside, SwitchItems}
use Rattle.cs_ast.specs.RawFileHeight.{first_height, sentence_height, item_height, items_height, switch_item_height, switch_height}
use Rattle.cs_grammar.specs.TypeWords.{Names}
use Rattle.cs_grammar.specs.Levels.{COMMA}
use Rattle.cs_grammar.specs.Text.{Kinds}
use Rattle.cs_grammar.specs.Phrases.{IsPhrase}
use Rattle.cs_grammar.specs.FileText.{test_text, word_text, first_text, sentence_text, item_text, items_text, switch_item_text, switch_text}
use Rattle.cs_grammar.specs.FilePhrases.{is_open, IsFirst, IsSentence, IsItem, AreItems, IsSwitchItem, AreSwitchItems}
use Rattle.cs_grammar.specs.Parsing.{Class}

-- expressions between parentheses
abbrev pub Tests : Names → Class
Tests names = record { Tree = Written; spell = test_text; tall = height; Is = IsPhrase names COMMA; Shut = λ tree after. Unit {0} }

-- the first part of a `for`, with its semicolon
abbrev pub Firsts : Names → Class
Firsts names = record { Tree = First; spell = first_text; tall = first_height; Is = IsFirst names; Shut = λ tree after. Unit {0} }

-- the first of these tokens isn't `else`
abbrev pub HasNoElse : Kinds → Type 0
HasNoElse (token.Keyword keyword.Else ∷ others) = ⊥
HasNoElse tokens = Unit {0}

-- statements, not followed by an `else` that would belong to them
abbrev pub Sentences : Names → Class
Sentences names = record {
  Tree = Sentence;
  spell = sentence_text;
  tall = sentence_height;
  Is = IsSentence names;
  Shut = λ tree after. is_open tree ≡ true → HasNoElse after;
}

-- the body of an `if`, with the statement after its `else`, if there is one
abbrev pub Branch : Type 0
Branch = Sentence × Option Sentence

abbrev pub branch_text : Sentence → Option Sentence → Kinds → Kinds
branch_text body None rest = sentence_text body rest
branch_text body (Some other) rest = sentence_text body (word_text keyword.Else (sentence_text other rest))

abbrev pub branch_height : Sentence → Option Sentence → ℕ
branch_height body None = sentence_height body
branch_height body (Some other) = max (sentence_height body) (sentence_height other)

abbrev pub IsBranch : Names → Sentence → Option Sentence → Type 0
IsBranch names body None = IsSentence names body
IsBranch names body (Some other) = IsFalse (is_open body) × IsSentence names body × IsSentence names other

abbrev pub IsBranchShut : Option Sentence → Kinds → Type 0
IsBranchShut None after = HasNoElse after
IsBranchShut (Some other) after = is_open other ≡ true → HasNoElse after

abbrev pub Branches : Names → Class
Branches names = record {
  Tree = Branch;
  spell = λ branch. branch_text branch.0 branch.1;
  tall = λ branch. branch_height branch.0 branch.1;
  Is = λ branch. IsBranch names branch.0 branch.1;
  Shut = λ branch after. IsBranchShut branch.1 after;
}

-- an `else` after the item of a block would belong to an `if` in it
abbrev pub is_item_open : Item → Bool
is_item_open (Declares specs objects) = false
is_item_open (Does statement) = is_open statement

-- the items of a block
abbrev pub BlockItems : Names → Class
BlockItems names = record {
  Tree = Item;
  spell = item_text;
  tall = item_height;
  Is = IsItem names;
  Shut = λ tree after. is_item_open tree ≡ true → HasNoElse after;
}

-- the items between the braces of a block, with the closing brace
abbrev pub BlockRows : Names → Class
BlockRows names = record {
  Tree = Items;
  spell = λ tree after. items_text tree (token.Punctuator punctuator.CloseBrace ∷ after);
  tall = items_height;
  Is = AreItems names;
  Shut = λ tree after. Unit {0};
}

abbrev pub is_switch_item_open : SwitchItem → Bool
is_switch_item_open (Inside item) = is_item_open item
is_switch_item_open other = false

-- the items of a `switch`
abbrev pub SwitchParts : Names → Class
SwitchParts names = record {
  Tree = SwitchItem;
  spell = switch_item_text;
  tall = switch_item_height;
  Is = IsSwitchItem names;
  Shut = λ tree after. is_switch_item_open tree ≡ true → HasNoElse after;
}

-- the items between the braces of a `switch`, with the closing brace
abbrev pub SwitchRows : Names → Class
SwitchRows names = record {
  Tree = SwitchItems;
  spell = λ tree after. switch_text tree (token.Punctuator punctuator.CloseBrace ∷ after);
  tall = switch_height;
  Is = AreSwitchItems names;
  Shut = λ tree after. Unit {0};
}

-- the same with both braces, as a node
abbrev pub SwitchBodies : Names → Class
SwitchBodies names = record {
  Tree = SwitchItems;
  spell = λ tree after. token.Punctuator punctuator.OpenBrace ∷ switch_text tree (token.Punctuator punctuator.CloseBrace ∷ after);
  tall = λ tree. 1 + switch_height tree;
  Is = AreSwitchItems names;
  Shut = λ tree after. Unit {0};
}
