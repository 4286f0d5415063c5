-- Each node of a written expression has the position of its token: that of its operator, or its first one if it has none. The
-- name of a member has its own position.
use Rattle.std.specs.Prelude.{◌≡◌, ℕ, suc, List, [], ◌∷◌, drop, Option, None, Some, slice_get}
use Rattle.std.specs.Option.{option_map, option_and_then}
use Rattle.cs_ast.specs.declared.raw.written_type.TypeWord.{TypeWord}
use Rattle.cs_ast.specs.declared.raw.written_type.TypeWord.TheVariants as word
use Rattle.cs_ast.specs.declared.place.Place.{Place}
use Rattle.cs_ast.specs.declared.token.Token.{Token}
use Rattle.cs_ast.specs.declared.raw.expression.RawExpr.{RawExpr}
use Rattle.cs_ast.specs.declared.raw.expression.RawExprKind.{RawExprKind, Row_of-RawExpr, end_of-RawExpr, more_of-RawExpr}
use Rattle.cs_ast.specs.declared.raw.expression.RawExprKind.TheVariants as kind
use Rattle.cs_ast.specs.declared.raw.written_type.WrittenType.{WrittenType}
use Rattle.cs_ast.specs.RawView.{written_kind}
use Rattle.cs_grammar.specs.Text.{size, words_text, pointers_text}
use Rattle.std.specs.Prelude.{length}

-- the position is that of the first of these tokens
abbrev pub StandsAt : Place → List Token → Type 0
StandsAt at [] = ⊥
StandsAt at (token ∷ tokens) = at ≡ token.place

-- the tokens after those of an expression
abbrev pub following : RawExprKind → List Token → List Token
following e tokens = drop (size (written_kind e)) tokens

abbrev pub after_tree : RawExpr → List Token → List Token
after_tree e = following e.kind.value

-- the tokens after those of a type's words and pointers
abbrev pub after_words : WrittenType → List Token → List Token
after_words ty tokens = drop (length (words_text ty.words.items (pointers_text ty.pointers.items []))) tokens

-- the number of tokens before the tag that names a type
abbrev pub before_tag : List TypeWord → Option ℕ
before_tag [] = None
before_tag (word.Struct tag ∷ words) = Some 1
before_tag (word.Enum tag ∷ words) = Some 1
before_tag (other ∷ words) = option_map suc (before_tag words)

-- if a type's words begin these tokens, its tag, if it has one, has the position of its token
abbrev pub HasTagPlace : WrittenType → List Token → Type 0
HasTagPlace ty tokens =
    ty.tag ≡ option_map (λ (token : Token). token.place) (option_and_then (λ number. slice_get tokens number) (before_tag ty.words.items))

-- the tokens after the bounds of a type
abbrev pub after_bounds : {n : _} → Row_of-RawExpr n → List Token → List Token
after_bounds end_of-RawExpr tokens = tokens
after_bounds (more_of-RawExpr at p first others) tokens = after_bounds others (drop 1 (following first (drop 1 tokens)))

abbrev mutual
  -- an expression at a position begins these tokens, and each of its nodes has the position of its token
  pub IsPlaced : Place → RawExprKind → List Token → Type 0
  IsPlaced at (kind.Name name) tokens = StandsAt at tokens
  IsPlaced at (kind.Number constant) tokens = StandsAt at tokens
  IsPlaced at (kind.Character value) tokens = StandsAt at tokens
  IsPlaced at (kind.Text bytes) tokens = StandsAt at tokens
  IsPlaced at (kind.Parenthesis' place p inner) tokens = StandsAt at tokens × IsPlaced place inner (drop 1 tokens)
  IsPlaced at (kind.Index' place p array place' q number) tokens =
      IsPlaced place array tokens × StandsAt at (following array tokens) × IsPlaced place' number (drop 1 (following array tokens))
  IsPlaced at (kind.Call' place p function shape row) tokens =
      IsPlaced place function tokens × StandsAt at (following function tokens) × ArePlaced row (drop 1 (following function tokens))
  IsPlaced at (kind.Member' place p object name) tokens =
      IsPlaced place object tokens × StandsAt at (following object tokens) × StandsAt name.place (drop 1 (following object tokens))
  IsPlaced at (kind.Arrow' place p pointer name) tokens =
      IsPlaced place pointer tokens × StandsAt at (following pointer tokens) × StandsAt name.place (drop 1 (following pointer tokens))
  IsPlaced at (kind.StepAfter' step place p object) tokens = IsPlaced place object tokens × StandsAt at (following object tokens)
  IsPlaced at (kind.StepBefore' step place p object) tokens = StandsAt at tokens × IsPlaced place object (drop 1 tokens)
  IsPlaced at (kind.Prefix' operator place p operand) tokens = StandsAt at tokens × IsPlaced place operand (drop 1 tokens)
  IsPlaced at (kind.SizeOf' place p operand) tokens = StandsAt at tokens × IsPlaced place operand (drop 1 tokens)
  IsPlaced at (kind.SizeOfType' ty shape row) tokens = StandsAt at tokens × HasTagPlace ty (drop 2 tokens)
      × AreBoundsPlaced row (after_words ty (drop 2 tokens))
  IsPlaced at (kind.Cast' ty shape row place p operand) tokens =
      StandsAt at tokens × HasTagPlace ty (drop 1 tokens) × AreBoundsPlaced row (after_words ty (drop 1 tokens))
      × IsPlaced place operand (drop 1 (after_bounds row (after_words ty (drop 1 tokens))))
  IsPlaced at (kind.Infix' operator place p left place' q right) tokens =
      IsPlaced place left tokens × StandsAt at (following left tokens) × IsPlaced place' right (drop 1 (following left tokens))
  IsPlaced at (kind.Choice' place p test place' q one place'' r other) tokens =
      IsPlaced place test tokens × StandsAt at (following test tokens) × IsPlaced place' one (drop 1 (following test tokens))
      × IsPlaced place'' other (drop 1 (following one (drop 1 (following test tokens))))
  IsPlaced at (kind.Assign' operator place p object place' q value) tokens =
      IsPlaced place object tokens × StandsAt at (following object tokens) × IsPlaced place' value (drop 1 (following object tokens))
  IsPlaced at (kind.Comma' place p first place' q second) tokens =
      IsPlaced place first tokens × StandsAt at (following first tokens) × IsPlaced place' second (drop 1 (following first tokens))

  -- the same for expressions with a punctuator after each
  pub ArePlaced : {n : _} → Row_of-RawExpr n → List Token → Type 0
  ArePlaced end_of-RawExpr tokens = Unit {0}
  ArePlaced (more_of-RawExpr at p first others) tokens = IsPlaced at first tokens × ArePlaced others (drop 1 (following first tokens))

  -- the same for expressions between brackets
  pub AreBoundsPlaced : {n : _} → Row_of-RawExpr n → List Token → Type 0
  AreBoundsPlaced end_of-RawExpr tokens = Unit {0}
  AreBoundsPlaced (more_of-RawExpr at p first others) tokens =
      IsPlaced at first (drop 1 tokens) × AreBoundsPlaced others (drop 1 (following first (drop 1 tokens)))

-- the tokens begin with an expression whose nodes have the positions of their tokens
abbrev pub HasPlaces : RawExpr → List Token → Type 0
HasPlaces e tokens = IsPlaced e.place e.kind.value tokens
