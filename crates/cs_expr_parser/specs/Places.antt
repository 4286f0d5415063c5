-- The trees that the parts of the parser return are placed: each node has the position of its token.
use Rattle.std.specs.Prelude.{◌≡◌, ℕ, ◌+◌, List, [], ◌∷◌, drop, slice_get, Bool, true, false, Option, Some, None, Result, Ok, Err}
use Rattle.std.specs.Option.{option_map, option_and_then}
use Rattle.cs_ast.specs.declared.place.Place.{Place}
use Rattle.cs_ast.specs.declared.token.Token.{Token}
use Rattle.cs_ast.specs.declared.raw.expression.RawExpr.{RawExpr}
use Rattle.cs_ast.specs.declared.raw.expression.RawExprKind.{RawExprKind}
use Rattle.cs_ast.specs.declared.raw.name.RawName.{RawName}
use Rattle.cs_ast.specs.declared.raw.written_type.TypeWord.{TypeWord}
use Rattle.cs_ast.specs.declared.raw.written_type.WrittenType.{WrittenType}
use Rattle.cs_grammar.specs.Places.{HasPlaces, HasTagPlace, StandsAt, IsPlaced, before_tag, after_tree, after_words}
use Rattle.cs_expr_parser.specs.declared.stop.Stop.{Stop}
use Rattle.cs_expr_parser.specs.declared.stop.Taken.{Taken}
use Rattle.cs_expr_parser.specs.declared.lists.Listed.{Listed}
use Rattle.cs_expr_parser.specs.Words.{has_tag}
use Rattle.cs_expr_parser.specs.declared.types.NextWord.{NextWord}
use Rattle.cs_expr_parser.specs.declared.types.JoiningWord.{JoiningWord}
use Rattle.cs_expr_parser.specs.declared.types.TakenType.{TakenType}

-- an expression that was taken is placed
abbrev pub IsOkPlaced : List Token → ℕ → Result Taken Stop → Type 0
IsOkPlaced tokens from (Ok taken) = HasPlaces taken.tree (drop from tokens)
IsOkPlaced tokens from (Err stop) = Unit {0}

-- expressions with a punctuator after each are placed
abbrev pub AreInRow : List RawExpr → List Token → Type 0
AreInRow [] tokens = Unit {0}
AreInRow (tree ∷ trees) tokens = HasPlaces tree tokens × AreInRow trees (drop 1 (after_tree tree tokens))

-- the tokens after expressions between brackets
abbrev pub after_brackets : List RawExpr → List Token → List Token
after_brackets [] tokens = tokens
after_brackets (tree ∷ trees) tokens = after_brackets trees (drop 1 (after_tree tree (drop 1 tokens)))

-- expressions between brackets are placed
abbrev pub AreInBrackets : List RawExpr → List Token → Type 0
AreInBrackets [] tokens = Unit {0}
AreInBrackets (tree ∷ trees) tokens = HasPlaces tree (drop 1 tokens) × AreInBrackets trees (drop 1 (after_tree tree (drop 1 tokens)))

-- the expression is placed if one of this form at this position is
abbrev pub PlacesForm : Place → RawExprKind → RawExpr → Type 0
PlacesForm place form node = (tokens : List Token) → IsPlaced place form tokens → HasPlaces node tokens

-- the node is placed if its operand is, after the token at this position
abbrev pub PlacesBefore : Place → RawExpr → RawExpr → Type 0
PlacesBefore place operand node = (tokens : List Token) → StandsAt place tokens → HasPlaces operand (drop 1 tokens) → HasPlaces node tokens

-- the node is placed if its operand is, before the token at this position
abbrev pub PlacesAfter : Place → RawExpr → RawExpr → Type 0
PlacesAfter place operand node = (tokens : List Token) → HasPlaces operand tokens → StandsAt place (after_tree operand tokens) → HasPlaces node tokens

-- the node is placed if its operands are, with the token at this position between them
abbrev pub PlacesBetween : Place → RawExpr → RawExpr → RawExpr → Type 0
PlacesBetween place left right node =
    (tokens : List Token) → HasPlaces left tokens → StandsAt place (after_tree left tokens) → HasPlaces right (drop 1 (after_tree left tokens))
    → HasPlaces node tokens

-- the same with the name of a member as the right part
abbrev pub PlacesMember : Place → RawExpr → RawName → RawExpr → Type 0
PlacesMember place object name node =
    (tokens : List Token) → HasPlaces object tokens → StandsAt place (after_tree object tokens) → StandsAt name.place (drop 1 (after_tree object tokens))
    → HasPlaces node tokens

-- the same with arguments as the right part
abbrev pub PlacesCall : Place → RawExpr → List RawExpr → RawExpr → Type 0
PlacesCall place function arguments node =
    (tokens : List Token) → HasPlaces function tokens → StandsAt place (after_tree function tokens)
    → AreInRow arguments (drop 1 (after_tree function tokens)) → HasPlaces node tokens

-- the conditional expression is placed if its parts are, with a token after each of the first two
abbrev pub PlacesChoice : Place → RawExpr → RawExpr → RawExpr → RawExpr → Type 0
PlacesChoice place test one other node =
    (tokens : List Token) → HasPlaces test tokens → StandsAt place (after_tree test tokens) → HasPlaces one (drop 1 (after_tree test tokens))
    → HasPlaces other (drop 1 (after_tree one (drop 1 (after_tree test tokens)))) → HasPlaces node tokens

-- `sizeof` a type is placed if the type is, after two tokens
abbrev pub PlacesSizeOfType : Place → WrittenType → List RawExpr → RawExpr → Type 0
PlacesSizeOfType place ty bounds node =
    (tokens : List Token) → StandsAt place tokens → HasTagPlace ty (drop 2 tokens) → AreInBrackets bounds (after_words ty (drop 2 tokens))
    → HasPlaces node tokens

-- a cast is placed if the type is, after one token, and the operand after the parenthesis that closes the type
abbrev pub PlacesCast : Place → WrittenType → List RawExpr → RawExpr → RawExpr → Type 0
PlacesCast place ty bounds operand node =
    (tokens : List Token) → StandsAt place tokens → HasTagPlace ty (drop 1 tokens) → AreInBrackets bounds (after_words ty (drop 1 tokens))
    → HasPlaces operand (drop 1 (after_brackets bounds (after_words ty (drop 1 tokens)))) → HasPlaces node tokens

abbrev pub IsRowPlaced : List Token → ℕ → Result Listed Stop → Type 0
IsRowPlaced tokens from (Ok taken) = AreInRow taken.trees.items (drop from tokens)
IsRowPlaced tokens from (Err stop) = Unit {0}

-- the bounds of a type that was taken are placed, and end before a token
pub record AreBoundsFrom (tokens : List Token) (from : ℕ) (taken : Listed) : Type 0 where
  pub brackets : AreInBrackets taken.trees.items (drop from tokens)
  pub ends : drop 1 (after_brackets taken.trees.items (drop from tokens)) ≡ drop taken.next tokens

abbrev pub AreBoundsPlaced : List Token → ℕ → Result Listed Stop → Type 0
AreBoundsPlaced tokens from (Ok taken) = AreBoundsFrom tokens from taken
AreBoundsPlaced tokens from (Err stop) = Unit {0}

-- the expression of one token, if it is one, is placed
abbrev pub IsFoundPlaced : Option RawExpr → List Token → Type 0
IsFoundPlaced (Some tree) tokens = HasPlaces tree tokens
IsFoundPlaced None tokens = Unit {0}

-- the tokens of an expression, which begins at one index, end before another index
abbrev pub EndsAt : List Token → ℕ → RawExpr → ℕ → Type 0
EndsAt tokens from tree next = after_tree tree (drop from tokens) ≡ drop next tokens

-- the node is placed if its operand is
abbrev pub IsBuiltAfter : List Token → Taken → Taken → Type 0
IsBuiltAfter tokens left whole = (from : ℕ) → HasPlaces left.tree (drop from tokens) → EndsAt tokens from left.tree left.next
    → HasPlaces whole.tree (drop from tokens)

-- the node is placed if its two operands are, with one token between them
abbrev pub IsBuiltWith : List Token → Taken → Taken → Taken → Type 0
IsBuiltWith tokens left right whole =
    (from : ℕ) → HasPlaces left.tree (drop from tokens) → EndsAt tokens from left.tree left.next → HasPlaces right.tree (drop (left.next + 1) tokens)
    → HasPlaces whole.tree (drop from tokens)

-- the call is placed if the function and the arguments are
abbrev pub IsBuiltWithRow : List Token → Taken → Listed → Taken → Type 0
IsBuiltWithRow tokens left listed whole =
    (from : ℕ) → HasPlaces left.tree (drop from tokens) → EndsAt tokens from left.tree left.next
    → AreInRow listed.trees.items (drop (left.next + 1) tokens) → HasPlaces whole.tree (drop from tokens)

-- the node is placed if its operand is, with one token before it
abbrev pub IsBuiltBefore : List Token → ℕ → Taken → Taken → Type 0
IsBuiltBefore tokens from operand whole = HasPlaces operand.tree (drop (from + 1) tokens) → HasPlaces whole.tree (drop from tokens)

-- the conditional expression is placed if its three parts are
abbrev pub IsBuiltOfThree : List Token → Taken → Taken → Taken → Taken → Type 0
IsBuiltOfThree tokens test one other whole =
    (from : ℕ) → HasPlaces test.tree (drop from tokens) → EndsAt tokens from test.tree test.next → HasPlaces one.tree (drop (test.next + 1) tokens)
    → EndsAt tokens (test.next + 1) one.tree one.next
    → HasPlaces other.tree (drop (one.next + 1) tokens) → HasPlaces whole.tree (drop from tokens)

-- a type that was taken is placed, and ends before a token
pub record IsTypePlaced (tokens : List Token) (from : ℕ) (taken : TakenType) : Type 0 where
  pub tag : HasTagPlace taken.ty (drop from tokens)
  pub bounds : AreInBrackets taken.bounds.items (after_words taken.ty (drop from tokens))
  pub following : drop 1 (after_brackets taken.bounds.items (after_words taken.ty (drop from tokens))) ≡ drop taken.next tokens

-- `sizeof` the type is placed if the type is, after the keyword and the parenthesis
abbrev pub IsTypeMeasured : List Token → ℕ → TakenType → Taken → Type 0
IsTypeMeasured tokens from taken whole = IsTypePlaced tokens (from + 2) taken → HasPlaces whole.tree (drop from tokens)

-- the cast is placed if the type and the operand are
abbrev pub IsTypeConverting : List Token → ℕ → TakenType → Taken → Taken → Type 0
IsTypeConverting tokens from taken operand whole = IsTypePlaced tokens (from + 1) taken → HasPlaces operand.tree (drop taken.next tokens)
    → HasPlaces whole.tree (drop from tokens)

abbrev pub IsOkTypePlaced : List Token → ℕ → Result TakenType Stop → Type 0
IsOkTypePlaced tokens from (Ok taken) = IsTypePlaced tokens from taken
IsOkTypePlaced tokens from (Err stop) = Unit {0}

-- the tag of a type has the position of its token, if the words of the type begin these tokens
abbrev pub IsTagPlaced : Option Place → List TypeWord → List Token → Type 0
IsTagPlaced tag words tokens = tag ≡ option_map (λ (token : Token). token.place) (option_and_then (λ number. slice_get tokens number) (before_tag words))

-- if a word has a tag, it is returned with the position of its token; else the word is one token
abbrev pub IsTagGiven : Bool → List Token → ℕ → Option Place → ℕ → Type 0
IsTagGiven true tokens at tag after = (place : Place) × (tag ≡ Some place) × StandsAt place (drop (at + 1) tokens)
IsTagGiven false tokens at tag after = (tag ≡ None) × (after ≡ at + 1)

abbrev pub IsNextTagged : List Token → ℕ → Result (Option NextWord) Stop → Type 0
IsNextTagged tokens at (Ok (Some found)) = IsTagGiven (has_tag found.word) tokens at found.tag found.next
IsNextTagged tokens at (Ok None) = Unit {0}
IsNextTagged tokens at (Err stop) = Unit {0}

abbrev pub IsTagStanding : List Token → ℕ → Result (Option NextWord) Stop → Type 0
IsTagStanding tokens at (Ok (Some found)) = IsTagGiven true tokens at found.tag found.next
IsTagStanding tokens at (Ok None) = Unit {0}
IsTagStanding tokens at (Err stop) = Unit {0}

abbrev pub IsJoiningTagged : List Token → ℕ → Result (Option JoiningWord) Stop → Type 0
IsJoiningTagged tokens at (Ok (Some joining)) = IsTagGiven (has_tag joining.found.word) tokens at joining.found.tag joining.found.next
IsJoiningTagged tokens at (Ok None) = Unit {0}
IsJoiningTagged tokens at (Err stop) = Unit {0}

-- the expression of one token, if there is one, is placed wherever it has the position of the token
abbrev pub IsPlacedAnywhere : Option RawExprKind → Type 0
IsPlacedAnywhere (Some leaf) = (place : Place) (tokens : List Token) → StandsAt place tokens → IsPlaced place leaf tokens
IsPlacedAnywhere None = Unit {0}
