-- The results of the expression parser.
use Rattle.std.specs.Prelude.{◌≡◌, ℕ, ◌≤◌, ◌<◌, ◌⊎◌, List, [], ◌∷◌, ◌++◌, Option, Some, None, drop, slice_get}
use Rattle.std.specs.Option.{option_map}
use Rattle.cs_ast.specs.declared.place.Place.{Place}
use Rattle.cs_ast.specs.declared.token.Token.{Token}
use Rattle.cs_ast.specs.declared.token.TokenKind.{TokenKind}
use Rattle.cs_ast.specs.RawTree.{Written}
use Rattle.cs_ast.specs.RawView.{written}
use Rattle.cs_ast.specs.RawHeight.{height}
use Rattle.cs_grammar.specs.declared.refusal.Reason.{Reason}
use Rattle.cs_grammar.specs.declared.refusal.Reason.TheVariants.{Syntax, Unsupported, TooDeep}
use Rattle.cs_grammar.specs.declared.refusal.SyntaxRefusal.{SyntaxRefusal}
use Rattle.cs_grammar.specs.declared.refusal.SyntaxRefusal.TheVariants as refusal
use Rattle.cs_grammar.specs.TypeWords.{Names}
use Rattle.cs_grammar.specs.Levels.{COMMA, ASSIGN, CHOICE}
use Rattle.cs_grammar.specs.Text.{Kinds, text}
use Rattle.cs_grammar.specs.Phrases.{IsPhrase, BeginsLowPhrase, IsLowPhrase}
use Rattle.cs_grammar.specs.Refusals.{IsReason}
use Rattle.cs_grammar.specs.Places.{HasPlaces}
use Rattle.cs_grammar.specs.Parsing.{Expressions, Took, Refused}
use Rattle.cs_grammar.specs.Spelling.{unsupported_spelling}
use Rattle.cs_expr_parser.specs.Positions.{kinds, kind_or_end}
use Rattle.cs_expr_parser.specs.Parts.{Spells, IsRefused, is_deep}
use Rattle.cs_expr_parser.specs.LastTokens.{IsReportedAt}
use Rattle.cs_expr_parser.specs.declared.stop.Stop.{Stop}
use Rattle.cs_expr_parser.specs.declared.stop.Stop.TheVariants as stop
use Rattle.cs_expr_parser.specs.declared.answer.ExprLevel.{ExprLevel}
use Rattle.cs_expr_parser.specs.declared.answer.ExprLevel.TheVariants.{Expr, Assign, Cond}
use Rattle.cs_expr_parser.specs.declared.answer.Phrase.{Phrase}

-- the level of a phrase that is requested
abbrev pub level_asked : ExprLevel → ℕ
level_asked Expr = COMMA
level_asked Assign = ASSIGN
level_asked Cond = CHOICE

-- the kind of the token with this index, if there is one
abbrev pub kind_at : List Token → ℕ → Option TokenKind
kind_at tokens at = option_map (λ (token : Token). token.kind) (slice_get tokens at)

-- no phrase of the level within the limit begins with these tokens and the next one
abbrev pub GoesNoFurther : Names → ℕ → ℕ → Kinds → Option TokenKind → Type 0
GoesNoFurther names level limit front (Some next) = BeginsLowPhrase names level limit (front ++ next ∷ []) → ⊥
GoesNoFurther names level limit front None = Unit {0}

-- the tokens from an index on begin with this phrase of the level, and no phrase within the limit is longer; `took` states the
-- same for parsers that continue
pub record IsTaken (names : Names) (level limit : ℕ) (tokens : List Token) (from : ℕ) (phrase : Phrase) : Type 0 where
  pub is_phrase : IsPhrase names level (written phrase.tree)
  pub low : height (written phrase.tree) ≤ limit
  pub height_is : phrase.height ≡ height (written phrase.tree)
  pub spelled : Spells tokens from phrase.next (text (written phrase.tree))
  pub some : from < phrase.next
  pub placed : HasPlaces phrase.tree (drop from tokens)
  pub only : (other : Written) → IsPhrase names level other → text other [] ≡ text (written phrase.tree) [] → other ≡ written phrase.tree
  pub furthest : GoesNoFurther names level limit (text (written phrase.tree) []) (kind_at tokens phrase.next)
  pub otherwise : IsReason names level (text (written phrase.tree) []) (kind_at tokens phrase.next) phrase.otherwise
  pub took : Took (Expressions names level) limit (written phrase.tree) (kind_or_end tokens phrase.next) (is_deep phrase.otherwise)

-- the tokens from one index up to another begin a phrase of the level within the limit, if there are any, but aren't one; with
-- the next token they begin none, for this reason; `refused` states the same for parsers that continue
pub record IsRefusedAt (names : Names) (level limit : ℕ) (tokens : List Token) (from at : ℕ) (reason : Reason) : Type 0 where
  pub front : Kinds
  pub spelled : Spells tokens from at (λ rest. front ++ rest)
  pub begun : (front ≡ []) ⊎ BeginsLowPhrase names level limit front
  pub unfinished : IsLowPhrase names level limit front → ⊥
  pub furthest : GoesNoFurther names level limit front (kind_at tokens at)
  pub why : IsReason names level front (kind_at tokens at) reason
  pub refused : Refused (Expressions names level) limit front (kind_or_end tokens at) (is_deep reason)

-- memory runs out, or a token is refused for the right reason, in the form that the parts of the parser use among each other
abbrev pub IsStopped : Names → ℕ → ℕ → List Token → ℕ → Stop → Type 0
IsStopped names level limit tokens from stop.Memory = Unit {0}
IsStopped names level limit tokens from (stop.Refused at reason) =
    IsRefused (Expressions names level) limit tokens from at reason × IsReportedAt names tokens from at reason

-- the position of the first of these tokens, or of the end of input
abbrev pub first_place : Place → List Token → Place
first_place end [] = end
first_place end (token ∷ tokens) = token.place

-- the position of the token with this index, or of the end of input
abbrev pub place_or_end : List Token → Place → ℕ → Place
place_or_end tokens end at = first_place end (drop at tokens)

-- a refusal of this token, for this reason; or memory runs out
abbrev pub IsRefusalBy : Token → Reason → SyntaxRefusal → Type 0
IsRefusalBy token Syntax (refusal.Syntax place) = place ≡ token.place
IsRefusalBy token Unsupported (refusal.Unsupported place word) = (place ≡ token.place) × (word ≡ unsupported_spelling token.kind)
IsRefusalBy token TooDeep (refusal.TooDeep place) = place ≡ token.place
IsRefusalBy token reason refusal.Memory = Unit {0}
IsRefusalBy token reason other = ⊥

-- a refusal of the token with this index, for this reason; or memory runs out
abbrev pub IsRefusalFor : List Token → Place → ℕ → Reason → SyntaxRefusal → Type 0
IsRefusalFor tokens end at Syntax (refusal.Syntax place) = place ≡ place_or_end tokens end at
IsRefusalFor tokens end at Unsupported (refusal.Unsupported place word) =
    (place ≡ place_or_end tokens end at) × (word ≡ unsupported_spelling (kind_or_end tokens at))
IsRefusalFor tokens end at TooDeep (refusal.TooDeep place) = place ≡ place_or_end tokens end at
IsRefusalFor tokens end at reason refusal.Memory = Unit {0}
IsRefusalFor tokens end at reason other = ⊥

-- the reason for the refusal of this token; the end of input is refused as a syntax error
abbrev pub reason_there : Option TokenKind → Reason → Reason
reason_there (Some next) reason = reason
reason_there None reason = Syntax

-- memory runs out, or the first token is refused with which no phrase of the level within the limit continues
abbrev pub IsRefusal : Names → ℕ → ℕ → List Token → Place → ℕ → SyntaxRefusal → Type 0
IsRefusal names level limit tokens end from refusal.Memory = Unit {0}
IsRefusal names level limit tokens end from other = (at : ℕ) × (reason : Reason) × IsRefusalFor tokens end at reason other
    × IsRefusedAt names level limit tokens from at reason
