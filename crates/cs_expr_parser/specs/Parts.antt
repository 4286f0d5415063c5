-- The results that the parts of the expression parser return to one another.
use Rattle.std.specs.Prelude.{◌≡◌, ℕ, ◌+◌, ◌≤◌, ◌<◌, Bool, true, false, List, [], ◌∷◌, ◌++◌, drop, length, Option, None}
use Rattle.std.specs.Prelude.{if◌then◌else◌, Result, Ok, Err}
use Rattle.cs_ast.specs.declared.token.Token.{Token}
use Rattle.cs_ast.specs.declared.token.TokenKind.{TokenKind}
use Rattle.cs_ast.specs.declared.token.TokenKind.TheVariants as token
use Rattle.cs_ast.specs.declared.token.Punctuator.TheVariants as punctuator
use Rattle.cs_ast.specs.declared.raw.written_type.TypeWord.{TypeWord}
use Rattle.cs_ast.specs.declared.raw.written_type.PointerWord.{PointerWord}
use Rattle.cs_ast.specs.RawTree.{Written, WrittenList, Member, Arrow}
use Rattle.cs_ast.specs.RawView.{written, written_list}
use Rattle.cs_ast.specs.RawHeight.{height, highest}
use Rattle.cs_grammar.specs.declared.refusal.Reason.{Reason}
use Rattle.cs_grammar.specs.declared.refusal.Reason.TheVariants.{Syntax, Unsupported, TooDeep}
use Rattle.cs_grammar.specs.TypeWords.{Names, is_type, is_pointer}
use Rattle.cs_grammar.specs.Levels.{ASSIGN, CHOICE}
use Rattle.cs_grammar.specs.Text.{Kinds, text, listed, words_text, pointers_text, bounds_text, type_text}
use Rattle.cs_grammar.specs.Phrases.{ArePhrases}
use Rattle.cs_grammar.specs.Parsing.{Class, Expressions, Took, Refused, Exactly}
use Rattle.cs_grammar.specs.Chains.{Grows}
use Rattle.cs_expr_parser.specs.Positions.{kinds, kind_or_end, name_of}
use Rattle.cs_expr_parser.specs.Reasons.{reason_of}
use Rattle.cs_expr_parser.specs.declared.stop.Stop.{Stop}
use Rattle.cs_expr_parser.specs.declared.stop.Stop.TheVariants as stop
use Rattle.cs_expr_parser.specs.declared.stop.Taken.{Taken}
use Rattle.cs_expr_parser.specs.declared.lists.Listed.{Listed}
use Rattle.cs_expr_parser.specs.declared.types.TakenType.{TakenType}

-- the reason is that only phrases above the limit continue
abbrev pub is_deep : Reason → Bool
is_deep TooDeep = true
is_deep other = false

-- the tokens from one index to another are these
pub record Spells (tokens : List Token) (from next : ℕ) (spell : Kinds → Kinds) : Type 0 where
  pub onward : from ≤ next
  pub within : next ≤ length tokens
  pub spelled : kinds (drop from tokens) ≡ spell (kinds (drop next tokens))

-- a token is refused: no phrase of the class within the limit continues with it
pub record IsRefused (C : Class) (limit : ℕ) (tokens : List Token) (from at : ℕ) (reason : Reason) : Type 0 where
  pub front : Kinds
  pub spelled : Spells tokens from at (λ rest. front ++ rest)
  pub refused : Refused C limit front (kind_or_end tokens at) (is_deep reason)

-- what is known if no phrase is returned
abbrev pub Stops : Class → ℕ → List Token → ℕ → Stop → Type 0
Stops C limit tokens from stop.Memory = Unit {0}
Stops C limit tokens from (stop.Refused at reason) = IsRefused C limit tokens from at reason

-- an expression of the level was taken
pub record IsTakenFrom (names : Names) (level limit : ℕ) (tokens : List Token) (from : ℕ) (taken : Taken) : Type 0 where
  pub height_is : taken.height ≡ height (written taken.tree)
  pub spelled : Spells tokens from taken.next (text (written taken.tree))
  pub some : from < taken.next
  pub took : Took (Expressions names level) limit (written taken.tree) (kind_or_end tokens taken.next) taken.deep

-- an expression of the level was taken, or a token was refused
abbrev pub Answers : Names → ℕ → ℕ → List Token → ℕ → Result Taken Stop → Type 0
Answers names level limit tokens from (Ok taken) = IsTakenFrom names level limit tokens from taken
Answers names level limit tokens from (Err stop) = Stops (Expressions names level) limit tokens from stop

-- this tree of this height, up to this token, was taken
pub record IsNode (tree : Written) (tall next : ℕ) (deep : Bool) (taken : Taken) : Type 0 where
  pub tree_is : written taken.tree ≡ tree
  pub height_is : taken.height ≡ tall
  pub next_is : taken.next ≡ next
  pub deep_is : taken.deep ≡ deep

-- the result for a dot or an arrow: the name after it, or the refusal of the token after it
abbrev pub IsSelected : Bool → Written → ℕ → ℕ → List Token → Result Taken Stop → Type 0
IsSelected through left tall next tokens (Ok taken) =
    (name : List ℕ) × (kind_or_end tokens (next + 1) ≡ token.Name name)
    × IsNode (if through then Arrow left name else Member left name) (tall + 1) (next + 2) false taken
IsSelected through left tall next tokens (Err stop.Memory) = Unit {0}
IsSelected through left tall next tokens (Err (stop.Refused at reason)) =
    (name_of (kind_or_end tokens (next + 1)) ≡ None) × (at ≡ next + 1) × (reason ≡ reason_of false (kind_or_end tokens (next + 1)) false)

-- a chain so far was taken
pub record IsChainFrom (names : Names) (level limit : ℕ) (tokens : List Token) (from : ℕ) (taken : Taken) : Type 0 where
  pub height_is : taken.height ≡ height (written taken.tree)
  pub spelled : Spells tokens from taken.next (text (written taken.tree))
  pub some : from < taken.next
  pub grows : Grows names level limit (written taken.tree) (kind_or_end tokens taken.next) taken.deep

-- a chain with one more suffix was taken, or a token was refused
abbrev pub ChainAnswers : Names → ℕ → ℕ → List Token → ℕ → Result Taken Stop → Type 0
ChainAnswers names level limit tokens from (Ok taken) = IsChainFrom names level limit tokens from taken
ChainAnswers names level limit tokens from (Err stop) = Stops (Expressions names level) limit tokens from stop

-- lists of phrases, with what closes them
abbrev pub Rows : (WrittenList → Kinds → Kinds) → (WrittenList → Type 0) → Class
Rows spell Is = record { Tree = WrittenList; spell = spell; tall = highest; Is = Is; Shut = λ tree after. Unit {0} }

-- the tokens of arguments, with the parenthesis that closes them
abbrev pub arguments_text : WrittenList → Kinds → Kinds
arguments_text arguments after = listed arguments (token.Punctuator punctuator.CloseParenthesis ∷ after)

-- the tokens of the bounds of a type, with the parenthesis that closes it
abbrev pub closed_bounds_text : WrittenList → Kinds → Kinds
closed_bounds_text bounds after = bounds_text bounds (token.Punctuator punctuator.CloseParenthesis ∷ after)

-- a type's words, pointers and bounds
pub record TypeParts : Type 0 where
  pub words : List TypeWord
  pub pointers : List PointerWord
  pub bounds : WrittenList

-- the parts form a type
pub record IsTypeOf (names : Names) (parts : TypeParts) : Type 0 where
  pub words : is_type names parts.words ≡ true
  pub pointers : is_pointer parts.pointers ≡ true
  pub bounds : ArePhrases names CHOICE parts.bounds

-- the tokens of a type, with the parenthesis that closes it
abbrev pub type_closed_text : TypeParts → Kinds → Kinds
type_closed_text parts after = type_text parts.words parts.pointers parts.bounds (token.Punctuator punctuator.CloseParenthesis ∷ after)

-- the parts of a type that was taken
abbrev pub parts_of : TakenType → TypeParts
parts_of taken = record { words = taken.ty.words.items; pointers = taken.ty.pointers.items; bounds = written_list taken.bounds.items }

-- types with the parenthesis that closes them
abbrev pub Types : Names → Class
Types names = record {
  Tree = TypeParts;
  spell = type_closed_text;
  tall = λ parts. highest parts.bounds;
  Is = IsTypeOf names;
  Shut = λ tree after. Unit {0};
}

-- a list of phrases was taken
pub record IsRowFrom (spell : WrittenList → Kinds → Kinds) (Is : WrittenList → Type 0) (limit : ℕ) (tokens : List Token) (from : ℕ) (taken : Listed) :
    Type 0 where
  pub height_is : taken.height ≡ highest (written_list taken.trees.items)
  pub spelled : Spells tokens from taken.next (spell (written_list taken.trees.items))
  pub exactly : Exactly (Rows spell Is) limit (written_list taken.trees.items)

-- a list of phrases was taken, or a token was refused
abbrev pub RowAnswers : (WrittenList → Kinds → Kinds) → (WrittenList → Type 0) → ℕ → List Token → ℕ → Result Listed Stop → Type 0
RowAnswers spell Is limit tokens from (Ok taken) = IsRowFrom spell Is limit tokens from taken
RowAnswers spell Is limit tokens from (Err stop) = Stops (Rows spell Is) limit tokens from stop

-- a type was taken
pub record IsTypeFrom (names : Names) (limit : ℕ) (tokens : List Token) (from : ℕ) (taken : TakenType) : Type 0 where
  pub height_is : taken.height ≡ highest (written_list taken.bounds.items)
  pub spelled : Spells tokens from taken.next (type_closed_text (parts_of taken))
  pub exactly : Exactly (Types names) limit (parts_of taken)

-- a type was taken, or a token was refused
abbrev pub TypeAnswers : Names → ℕ → List Token → ℕ → Result TakenType Stop → Type 0
TypeAnswers names limit tokens from (Ok taken) = IsTypeFrom names limit tokens from taken
TypeAnswers names limit tokens from (Err stop) = Stops (Types names) limit tokens from stop

-- what was taken lies within the tokens, isn't empty, and is within the limit
abbrev pub IsBounded : ℕ → List Token → ℕ → Result Taken Stop → Type 0
IsBounded limit tokens from (Ok taken) = (from < taken.next) × (taken.next ≤ length tokens) × (1 ≤ taken.height) × (taken.height ≤ limit)
IsBounded limit tokens from (Err (stop.Refused at reason)) = (from ≤ at) × (at ≤ length tokens)
IsBounded limit tokens from (Err stop.Memory) = Unit {0}

abbrev pub IsRowBounded : ℕ → List Token → ℕ → Result Listed Stop → Type 0
IsRowBounded limit tokens from (Ok taken) = (from < taken.next) × (taken.next ≤ length tokens) × (taken.height ≤ limit)
IsRowBounded limit tokens from (Err (stop.Refused at reason)) = (from ≤ at) × (at ≤ length tokens)
IsRowBounded limit tokens from (Err stop.Memory) = Unit {0}

abbrev pub IsTypeBounded : ℕ → List Token → ℕ → Result TakenType Stop → Type 0
IsTypeBounded limit tokens from (Ok taken) = (from < taken.next) × (taken.next ≤ length tokens) × (taken.height ≤ limit)
IsTypeBounded limit tokens from (Err (stop.Refused at reason)) = (from ≤ at) × (at ≤ length tokens)
IsTypeBounded limit tokens from (Err stop.Memory) = Unit {0}

-- what was refused lies within the tokens
abbrev pub IsStopBounded : {Answer : Type 0} → List Token → ℕ → Result Answer Stop → Type 0
IsStopBounded tokens from (Ok taken) = Unit {0}
IsStopBounded tokens from (Err (stop.Refused at reason)) = (from ≤ at) × (at ≤ length tokens)
IsStopBounded tokens from (Err stop.Memory) = Unit {0}
