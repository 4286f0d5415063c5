-- The results of the parts that parse declarations: words of pointers, names, declarators.
use Rattle.std.specs.Prelude.{◌≡◌, ℕ, ◌+◌, ◌==◌, ◌&&◌, not, Bool, true, false, IsTrue, List, [], ◌∷◌, map, Option, Some, None, Result}
use Rattle.std.specs.Prelude.{Ok, Err}
use Rattle.cs_ast.specs.declared.token.Token.{Token}
use Rattle.cs_ast.specs.declared.token.TokenKind.{TokenKind}
use Rattle.cs_ast.specs.declared.token.TokenKind.TheVariants as token
use Rattle.cs_ast.specs.declared.token.Keyword.TheVariants as keyword
use Rattle.cs_ast.specs.declared.token.Punctuator.TheVariants as punctuator
use Rattle.cs_ast.specs.declared.raw.declaration.RawDeclarator.{RawDeclarator}
use Rattle.cs_ast.specs.declared.raw.name.RawName.{RawName}
use Rattle.cs_ast.specs.declared.raw.written_type.PointerWord.{PointerWord}
use Rattle.cs_ast.specs.declared.raw.written_type.PointerWord.TheVariants as pointer
use Rattle.cs_ast.specs.declared.raw.declaration.RawEnumerator.{RawEnumerator}
use Rattle.cs_ast.specs.declared.raw.declaration.RawInit.{RawInit}
use Rattle.cs_ast.specs.declared.raw.expression.RawExpr.{RawExpr}
use Rattle.cs_ast.specs.RawTree.{Written}
use Rattle.cs_ast.specs.RawView.{written}
use Rattle.cs_ast.specs.RawDeclarations.{Constant}
use Rattle.cs_ast.specs.RawDeclarationView.{declarator, constant, declared}
use Rattle.cs_grammar.specs.declared.refusal.Reason.{Reason}
use Rattle.cs_grammar.specs.TypeWords.{Names, is_pointer}
use Rattle.cs_grammar.specs.Text.{text, pointers_text}
use Rattle.cs_grammar.specs.Phrases.{IsPhrase}
use Rattle.cs_ast.specs.RawHeight.{height}
use Rattle.cs_grammar.specs.FileText.{name_text}
use Rattle.cs_grammar.specs.FilePhrases.{IsFree}
use Rattle.cs_grammar.specs.Parsing.{Class}
use Rattle.cs_grammar.specs.Levels.{CHOICE}
use Rattle.cs_grammar.specs.Composed.{ClosedSome, Trailing}
use Rattle.cs_grammar.specs.DeclarationClasses.{Brackets, Declarators, Constants}
use Rattle.cs_expr_parser.specs.Positions.{kind_or_end}
use Rattle.cs_expr_parser.specs.Parts.{Spells, is_deep}
use Rattle.cs_expr_parser.specs.declared.stop.Stop.{Stop}
use Rattle.cs_expr_parser.specs.declared.stop.Stop.TheVariants as stop
use Rattle.cs_declarator_parser.specs.declared.stop.Taken.{Taken}
use Rattle.cs_declarator_parser.specs.declared.declarator.Declares.{Declares}
use Rattle.cs_declarator_parser.specs.declared.declarator.Declares.TheVariants as declaring
use Rattle.cs_declarator_parser.specs.declared.declarator.Pointed.{Pointed}
use Rattle.cs_declarator_parser.specs.declared.constants.ConstantList.{ConstantList}
use Rattle.cs_expr_parser.specs.declared.answer.ExprLevel.{ExprLevel}
use Rattle.cs_expr_parser.specs.Expression.{level_asked}
use Rattle.cs_ast.specs.declared.token.Punctuator.{Punctuator}
use Rattle.std.specs.Option.{option_map}
use Rattle.cs_declarator_parser.specs.Answers.{Stops, IsTaken, ExactAnswers}

-- the word of pointers that a token is; `const` is one only after a star
abbrev pub IsPointerWord : Bool → TokenKind → Option PointerWord → Type 0
IsPointerWord after_star kind (Some pointer.Star) = kind ≡ token.Punctuator punctuator.Star
IsPointerWord after_star kind (Some pointer.Const) = (kind ≡ token.Keyword keyword.Const) × (after_star ≡ true)
IsPointerWord after_star kind None = (kind ≡ token.Punctuator punctuator.Star → ⊥)
    × (kind ≡ token.Keyword keyword.Const → after_star ≡ true → ⊥)

-- the longest sequence of words of pointers from an index on is this one
pub record ArePointers (tokens : List Token) (from at : ℕ) (words : List PointerWord) : Type 0 where
  pub spelled : Spells tokens from at (pointers_text words)
  pub pointers : IsTrue (is_pointer words)
  pub no_star : kind_or_end tokens at ≡ token.Punctuator punctuator.Star → ⊥
  pub no_const : kind_or_end tokens at ≡ token.Keyword keyword.Const → words ≡ []

-- the name that a token is, if it is allowed
abbrev pub IsNameAt : (List ℕ → Type 0) → TokenKind → Option RawName → Type 0
IsNameAt IsName kind (Some found) = (kind ≡ token.Name found.name) × IsName found.name
IsNameAt IsName kind None = (name : List ℕ) → kind ≡ token.Name name → IsName name → ⊥

-- the names that a declarator may have, and whether a bound may be absent
abbrev pub IsNameFor : Declares → Names → List ℕ → Type 0
IsNameFor declaring.Names names name = IsFree names name
IsNameFor declaring.Members names name = Unit {0}

abbrev pub MayLackFor : Declares → Type 0
MayLackFor declaring.Names = Unit {0}
MayLackFor declaring.Members = ⊥

-- the requested declarators, and their bounds
abbrev pub DeclaratorsFor : Declares → Names → Class
DeclaratorsFor declares names = Declarators (IsNameFor declares names) names (MayLackFor declares)

abbrev pub BracketsFor : Declares → Names → Class
BracketsFor declares names = Brackets names (MayLackFor declares)

-- the limit doesn't allow a bound that may not be absent
abbrev pub has_no_limit : Declares → ℕ → Bool
has_no_limit declaring.Names limit = false
has_no_limit declaring.Members limit = limit == 0

-- the token is an opening bracket
abbrev pub is_bracket : TokenKind → Bool
is_bracket (token.Punctuator punctuator.OpenBracket) = true
is_bracket other = false

-- the token begins a bound that the limit doesn't allow
abbrev pub is_full : Declares → ℕ → TokenKind → Bool
is_full declares limit next = has_no_limit declares limit && is_bracket next

-- the refusal of this token; a higher phrase continues with it exactly if `deep`
abbrev pub RefusesAfter : ℕ → Bool → Stop → Type 0
RefusesAfter number deep (stop.Refused at reason) = (at ≡ number) × (is_deep reason ≡ deep)
RefusesAfter number deep other = ⊥

-- a name with the pointers before it was taken
pub record IsPointed (declares : Declares) (names : Names) (tokens : List Token) (from : ℕ) (taken : Taken Pointed) : Type 0 where
  pub spelled : Spells tokens from taken.next (λ rest. pointers_text taken.tree.pointers.items (token.Name taken.tree.name.name ∷ rest))
  pub pointers : IsTrue (is_pointer taken.tree.pointers.items)
  pub named : IsNameFor declares names taken.tree.name.name

-- no name follows the words of pointers
pub record IsNameMissing (declares : Declares) (names : Names) (tokens : List Token) (from at : ℕ) (reason : Reason) : Type 0 where
  pub words : List PointerWord
  pub pointers : ArePointers tokens from at words
  pub no_name : (name : List ℕ) → kind_or_end tokens at ≡ token.Name name → IsNameFor declares names name → ⊥
  pub plain : is_deep reason ≡ false

abbrev pub PointedAnswers : Declares → Names → List Token → ℕ → Result (Taken Pointed) Stop → Type 0
PointedAnswers declares names tokens from (Ok taken) = IsPointed declares names tokens from taken
PointedAnswers declares names tokens from (Err stop.Memory) = Unit {0}
PointedAnswers declares names tokens from (Err (stop.Refused at reason)) = IsNameMissing declares names tokens from at reason

-- a declarator was taken, which a higher one continues if the limit doesn't allow a bound
abbrev pub IsDeclaratorTaken : Declares → Names → ℕ → List Token → ℕ → Taken RawDeclarator → Type 0
IsDeclaratorTaken declares names limit tokens from taken =
    (inner : ℕ) → limit ≡ 1 + inner
    → IsTaken (DeclaratorsFor declares names) declarator limit tokens from (is_full declares inner (kind_or_end tokens taken.next)) taken

-- the same, or a token is refused
abbrev pub DeclaratorAnswers : Declares → Names → ℕ → List Token → ℕ → Result (Taken RawDeclarator) Stop → Type 0
DeclaratorAnswers declares names limit tokens from (Ok taken) = IsDeclaratorTaken declares names limit tokens from taken
DeclaratorAnswers declares names limit tokens from (Err stop) = Stops (DeclaratorsFor declares names) limit tokens from stop

-- bounds between brackets were taken, or a token is refused
abbrev pub BoundsAnswer : {A : Type 0} → Declares → Names → (A → List (Option Written)) → ℕ → List Token → ℕ → Result (Taken A) Stop
    → Type 0
BoundsAnswer declares names view limit tokens from (Ok taken) =
    IsTaken (BracketsFor declares names) view limit tokens from (is_full declares limit (kind_or_end tokens taken.next)) taken
BoundsAnswer declares names view limit tokens from (Err stop) = Stops (BracketsFor declares names) limit tokens from stop

-- expressions of a level, each with the token that closes it
abbrev pub ClosedExpressions : Names → ℕ → TokenKind → Class
ClosedExpressions names level close = record {
  Tree = Written;
  spell = λ e after. text e (close ∷ after);
  tall = height;
  Is = IsPhrase names level;
  Shut = λ e after. Unit {0};
}

-- an expression of a level with the punctuator that closes it
abbrev pub ClosedAnswer : Names → ExprLevel → Punctuator → ℕ → List Token → ℕ → Result (Taken RawExpr) Stop → Type 0
ClosedAnswer names level closing limit tokens from result =
    ExactAnswers (ClosedExpressions names (level_asked level) (token.Punctuator closing)) written limit tokens from result

-- the same, but the expression may be absent
abbrev pub ClosedIfAnyAnswer : Names → ExprLevel → Punctuator → ℕ → List Token → ℕ → Result (Taken (Option RawExpr)) Stop → Type 0
ClosedIfAnyAnswer names level closing limit tokens from result =
    ExactAnswers (ClosedSome names (level_asked level) (Unit {0}) (token.Punctuator closing)) (option_map written) limit tokens from result

-- constants, and whether a comma follows the last one
abbrev pub constant_row : ConstantList → List Constant × Bool
constant_row taken = (map constant taken.list.items, taken.comma)

-- enumeration constants, with the brace that closes them
abbrev pub ConstantsAnswer : Names → ℕ → List Token → ℕ → Result (Taken ConstantList) Stop → Type 0
ConstantsAnswer names limit tokens from result =
    ExactAnswers (Trailing (Constants names) (token.Punctuator punctuator.CloseBrace)) constant_row limit tokens from result

-- the name of a parameter, which may be absent
abbrev pub ParameterNameAnswer : Names → List Token → ℕ → Result (Taken (Option RawName)) Stop → Type 0
ParameterNameAnswer names tokens at (Ok taken) =
    IsNameAt (IsFree names) (kind_or_end tokens at) taken.tree
    × (kind_or_end tokens at ≡ token.Punctuator punctuator.OpenParenthesis → ⊥)
    × Spells tokens at taken.next (name_text (option_map (λ (n : RawName). n.name) taken.tree))
ParameterNameAnswer names tokens at (Err stop.Memory) = Unit {0}
ParameterNameAnswer names tokens at (Err (stop.Refused refused reason)) =
    (refused ≡ at) × (is_deep reason ≡ false) × (kind_or_end tokens at ≡ token.Punctuator punctuator.OpenParenthesis)

-- a bound after its opening bracket, with the closing one
abbrev pub BoundAnswer : Declares → Names → ℕ → List Token → ℕ → Result (Taken (Option RawExpr)) Stop → Type 0
BoundAnswer declares names limit tokens from result =
    ExactAnswers (ClosedSome names CHOICE (MayLackFor declares) (token.Punctuator punctuator.CloseBracket)) (option_map written) limit tokens from result

-- a constant of this name and this value
abbrev pub IsConstantOf : List ℕ → Option Written → RawEnumerator → Type 0
IsConstantOf name value made = constant made ≡ record { name = name; value = value }

-- a comma, and a closing brace
abbrev pub is_comma : TokenKind → Bool
is_comma (token.Punctuator punctuator.Comma) = true
is_comma other = false

abbrev pub is_closing_brace : TokenKind → Bool
is_closing_brace (token.Punctuator punctuator.CloseBrace) = true
is_closing_brace other = false

-- a comma, and no closing brace after it
abbrev pub goes_on : TokenKind → TokenKind → Bool
goes_on first second = is_comma first && not (is_closing_brace second)

-- the object of a declarator without an initializer
abbrev pub IsAlone : RawDeclarator → RawInit → Type 0
IsAlone d made = declared made ≡ record { declarator = declarator d; initial = None }

-- only `void` is before a closing parenthesis
abbrev pub IsVoidAlone : List Token → ℕ → Type 0
IsVoidAlone tokens from = (kind_or_end tokens from ≡ token.Keyword keyword.Void)
    × (kind_or_end tokens (from + 1) ≡ token.Punctuator punctuator.CloseParenthesis)

-- a designator begins with the token
abbrev pub is_designator : TokenKind → Bool
is_designator (token.Punctuator punctuator.Dot) = true
is_designator (token.Punctuator punctuator.OpenBracket) = true
is_designator other = false
