-- The last tokens of expressions: for the reasons of refusals.
use Rattle.std.proofs.Common.{◌≡◌, ℕ, Bool, true, false, if◌then◌else◌, List, [], ◌∷◌, ◌++◌, refl, sym, ap, ◌∙◌, subst}
use Rattle.std.proofs.lemmas.Bool.{false_from_ne_true}
use Rattle.cs_ast.specs.declared.token.TokenKind.{TokenKind}
use Rattle.cs_ast.specs.declared.token.TokenKind.TheVariants as token
use Rattle.cs_ast.specs.declared.token.Keyword.TheVariants as keyword
use Rattle.cs_ast.specs.declared.token.Punctuator.{Punctuator}
use Rattle.cs_ast.specs.declared.token.Punctuator.TheVariants as punctuator
use Rattle.cs_ast.specs.declared.raw.operator.Step.{Step}
use Rattle.cs_ast.specs.declared.raw.operator.Step.TheVariants.{Up, Down}
use Rattle.cs_ast.specs.declared.raw.operator.PrefixOp.{PrefixOp}
use Rattle.cs_ast.specs.declared.raw.operator.PrefixOp.TheVariants as prefix
use Rattle.cs_ast.specs.declared.raw.operator.InfixOp.{InfixOp}
use Rattle.cs_ast.specs.declared.raw.operator.InfixOp.TheVariants as between
use Rattle.cs_ast.specs.declared.raw.operator.AssignOp.{AssignOp}
use Rattle.cs_ast.specs.declared.raw.operator.AssignOp.TheVariants as store
use Rattle.cs_ast.specs.declared.raw.written_type.TypeWord.{TypeWord}
use Rattle.cs_ast.specs.declared.raw.written_type.TypeWord.TheVariants as word
use Rattle.cs_ast.specs.declared.raw.written_type.IntegerWord.TheVariants.{Char, Short, Int, Long, Signed, Unsigned}
use Rattle.cs_ast.specs.declared.raw.written_type.PointerWord.{PointerWord}
use Rattle.cs_ast.specs.declared.raw.written_type.PointerWord.TheVariants as pointer
use Rattle.cs_ast.specs.RawTree.{Written, WrittenList, Named, Numeral, Character, Literal, Enclosed, Index, Call, Member, Arrow, StepAfter, StepBefore, Prefix}
use Rattle.cs_ast.specs.RawTree.{SizeOf, SizeOfType, Cast, Infix, Choice, Assign, Comma, End, More}
use Rattle.cs_grammar.specs.TypeWords.{Names, is_type}
use Rattle.cs_grammar.specs.Punctuators.{step_punctuator, prefix_punctuator, infix_punctuator, assign_punctuator}
use Rattle.cs_grammar.specs.Text.{Kinds, text, listed, after_commas, bounds_text, words_text, pointers_text, type_text, type_word_text}
use Rattle.cs_grammar.specs.Phrases.{IsWell, ArePhrases}
use Rattle.cs_grammar.specs.FirstTokens.{begins_type, begins_expression}
use Rattle.cs_grammar.proofs.Beginnings.{BeginsWith, expression_begins, type_begins, begins_one}
use Rattle.cs_expr_parser.specs.Reasons.{ends_in_type}
use Rattle.cs_expr_parser.specs.LastTokens.{Last, AnyToken, TagWord, TypeEnd, begin_type, named, closed_by, below, last_of}

abbrev open_parenthesis : TokenKind
open_parenthesis = token.Punctuator punctuator.OpenParenthesis

abbrev close_parenthesis : TokenKind
close_parenthesis = token.Punctuator punctuator.CloseParenthesis

abbrev close_bracket : TokenKind
close_bracket = token.Punctuator punctuator.CloseBracket

-- what the last tokens of an expression are
abbrev pub ending : Written → Last
ending e = if ends_in_type e then TypeEnd else AnyToken

either_named : (b : Bool) → named (if b then TypeEnd else AnyToken) ≡ AnyToken
either_named true = refl
either_named false = refl

-- no name after it is a tag
pub ending_named : (e : Written) → named (ending e) ≡ AnyToken
ending_named e = either_named (ends_in_type e)

pub step_last : (names : Names) (opened : List Bool) (last : Last) (step : Step) (rest : Kinds)
    → last_of names opened last (token.Punctuator (step_punctuator step) ∷ rest) ≡ last_of names opened AnyToken rest
step_last names opened last Up rest = refl
step_last names opened last Down rest = refl

pub prefix_last : (names : Names) (opened : List Bool) (last : Last) (op : PrefixOp) (rest : Kinds)
    → last_of names opened last (token.Punctuator (prefix_punctuator op) ∷ rest) ≡ last_of names opened AnyToken rest
prefix_last names opened last prefix.Address rest = refl
prefix_last names opened last prefix.Through rest = refl
prefix_last names opened last prefix.Plus rest = refl
prefix_last names opened last prefix.Minus rest = refl
prefix_last names opened last prefix.Complement rest = refl
prefix_last names opened last prefix.Not rest = refl

pub infix_last : (names : Names) (opened : List Bool) (last : Last) (op : InfixOp) (rest : Kinds)
    → last_of names opened last (token.Punctuator (infix_punctuator op) ∷ rest) ≡ last_of names opened AnyToken rest
infix_last names opened last between.Or rest = refl
infix_last names opened last between.And rest = refl
infix_last names opened last between.BitOr rest = refl
infix_last names opened last between.BitXor rest = refl
infix_last names opened last between.BitAnd rest = refl
infix_last names opened last between.Equal rest = refl
infix_last names opened last between.Differs rest = refl
infix_last names opened last between.Less rest = refl
infix_last names opened last between.AtMost rest = refl
infix_last names opened last between.More rest = refl
infix_last names opened last between.AtLeast rest = refl
infix_last names opened last between.ShiftLeft rest = refl
infix_last names opened last between.ShiftRight rest = refl
infix_last names opened last between.Add rest = refl
infix_last names opened last between.Subtract rest = refl
infix_last names opened last between.Multiply rest = refl
infix_last names opened last between.Divide rest = refl
infix_last names opened last between.Remainder rest = refl

pub assign_last : (names : Names) (opened : List Bool) (last : Last) (op : AssignOp) (rest : Kinds)
    → last_of names opened last (token.Punctuator (assign_punctuator op) ∷ rest) ≡ last_of names opened AnyToken rest
assign_last names opened last store.Plain rest = refl
assign_last names opened last store.Multiply rest = refl
assign_last names opened last store.Divide rest = refl
assign_last names opened last store.Remainder rest = refl
assign_last names opened last store.Add rest = refl
assign_last names opened last store.Subtract rest = refl
assign_last names opened last store.ShiftLeft rest = refl
assign_last names opened last store.ShiftRight rest = refl
assign_last names opened last store.BitAnd rest = refl
assign_last names opened last store.BitXor rest = refl
assign_last names opened last store.BitOr rest = refl

-- no token that begins a type begins an expression
expression_no_type : (names : Names) (e : Written) (rest : Kinds) → IsWell names e → begin_type names (text e rest) ≡ false
expression_no_type names e rest well =
    let b = expression_begins names e rest well in
    ap (begin_type names) b.are ∙ false_from_ne_true (begins_type names b.first) (λ t. begins_one names b.first b.passes t)

type_begin : (names : Names) (ws : List TypeWord) (rest : Kinds) → is_type names ws ≡ true → begin_type names (words_text ws rest) ≡ true
type_begin names ws rest is = let b = type_begins names ws rest is in ap (begin_type names) b.are ∙ b.passes

listed_no_type : (names : Names) (level : ℕ) (es : WrittenList) (rest : Kinds) → ArePhrases names level es
    → begin_type names (listed es (close_parenthesis ∷ rest)) ≡ false
listed_no_type names level End rest are = refl
listed_no_type names level (More e es) rest are = expression_no_type names e (after_commas es (close_parenthesis ∷ rest)) are.1

-- the last tokens after all of these are those after the rest of them, from some state
abbrev Reaches : Names → List Bool → Last → Kinds → Kinds → Type 0
Reaches names opened last tokens rest = (following : Last) × (last_of names opened last tokens ≡ last_of names opened following rest)

word_last : (names : Names) (opened : List Bool) (last : Last) (w : TypeWord) (rest : Kinds) → Reaches names opened last (type_word_text w rest) rest
word_last names opened last word.Const rest = (AnyToken, refl)
word_last names opened last word.Void rest = (AnyToken, refl)
word_last names opened last (word.Typedef name) rest = (named last, refl)
word_last names opened last (word.Struct tag) rest = (TypeEnd, refl)
word_last names opened last (word.Enum tag) rest = (TypeEnd, refl)
word_last names opened last (word.Integer Char) rest = (AnyToken, refl)
word_last names opened last (word.Integer Short) rest = (AnyToken, refl)
word_last names opened last (word.Integer Int) rest = (AnyToken, refl)
word_last names opened last (word.Integer Long) rest = (AnyToken, refl)
word_last names opened last (word.Integer Signed) rest = (AnyToken, refl)
word_last names opened last (word.Integer Unsigned) rest = (AnyToken, refl)

words_last : (names : Names) (opened : List Bool) (last : Last) (ws : List TypeWord) (rest : Kinds) → Reaches names opened last (words_text ws rest) rest
words_last names opened last [] rest = (last, refl)
words_last names opened last (w ∷ ws) rest =
    let one = word_last names opened last w (words_text ws rest) in
    let others = words_last names opened one.0 ws rest in
    (others.0, one.1 ∙ others.1)

pointers_last : (names : Names) (opened : List Bool) (last : Last) (ps : List PointerWord) (rest : Kinds)
    → Reaches names opened last (pointers_text ps rest) rest
pointers_last names opened last [] rest = (last, refl)
pointers_last names opened last (pointer.Star ∷ ps) rest = pointers_last names opened AnyToken ps rest
pointers_last names opened last (pointer.Const ∷ ps) rest = pointers_last names opened AnyToken ps rest

-- a type after an opening parenthesis, up to the closing one, if its bounds are read like this
type_with : (names : Names) (ws : List TypeWord) (ps : List PointerWord) (bs : WrittenList) (opened : List Bool) (rest : Kinds) → is_type names ws ≡ true
    → ((others : List Bool) (last : Last) → Reaches names others last (bounds_text bs (close_parenthesis ∷ rest)) (close_parenthesis ∷ rest))
    → last_of names (begin_type names (type_text ws ps bs (close_parenthesis ∷ rest)) ∷ opened) AnyToken (type_text ws ps bs (close_parenthesis ∷ rest))
    ≡ last_of names opened TypeEnd rest
type_with names ws ps bs opened rest is reach =
    let w = words_last names (true ∷ opened) AnyToken ws (pointers_text ps (bounds_text bs (close_parenthesis ∷ rest))) in
    let p = pointers_last names (true ∷ opened) w.0 ps (bounds_text bs (close_parenthesis ∷ rest)) in
    let b = reach (true ∷ opened) p.0 in
    ap (λ (x : Bool). last_of names (x ∷ opened) AnyToken (type_text ws ps bs (close_parenthesis ∷ rest)))
    (type_begin names ws (pointers_text ps (bounds_text bs (close_parenthesis ∷ rest))) is)
    ∙ w.1 ∙ p.1 ∙ b.1

mutual
  -- the last tokens of an expression that doesn't follow `struct` or `enum`
  pub text_last : (names : Names) (e : Written) (opened : List Bool) (last : Last) (rest : Kinds) → IsWell names e → named last ≡ AnyToken
      → last_of names opened last (text e rest) ≡ last_of names opened (ending e) rest
  text_last names (Named name) opened last rest well n = ap (λ (x : Last). last_of names opened x rest) n
  text_last names (Numeral v) opened last rest well n = refl
  text_last names (Character v) opened last rest well n = refl
  text_last names (Literal b) opened last rest well n = refl
  text_last names (Enclosed i) opened last rest well n =
      ap (λ (b : Bool). last_of names (b ∷ opened) AnyToken (text i (close_parenthesis ∷ rest)))
      (expression_no_type names i (close_parenthesis ∷ rest) well)
      ∙ text_last names i (false ∷ opened) AnyToken (close_parenthesis ∷ rest) well refl
  text_last names (Index a i) opened last rest well n =
      text_last names a opened last (token.Punctuator punctuator.OpenBracket ∷ text i (close_bracket ∷ rest)) well.1 n
      ∙ text_last names i opened AnyToken (close_bracket ∷ rest) well.2 refl
  text_last names (Call f es) opened last rest well n =
      text_last names f opened last (open_parenthesis ∷ listed es (close_parenthesis ∷ rest)) well.1 n
      ∙ ap (λ (b : Bool). last_of names (b ∷ opened) AnyToken (listed es (close_parenthesis ∷ rest))) (listed_no_type names 1 es rest well.2)
      ∙ (listed_last names 1 es (false ∷ opened) AnyToken (close_parenthesis ∷ rest) well.2 refl).1
  text_last names (Member o m) opened last rest well n = text_last names o opened last (token.Punctuator punctuator.Dot ∷ token.Name m ∷ rest) well.1 n
  text_last names (Arrow o m) opened last rest well n = text_last names o opened last (token.Punctuator punctuator.Arrow ∷ token.Name m ∷ rest) well.1 n
  text_last names (StepAfter s o) opened last rest well n =
      text_last names o opened last (token.Punctuator (step_punctuator s) ∷ rest) well.1 n ∙ step_last names opened (ending o) s rest
  text_last names (StepBefore s o) opened last rest well n = step_last names opened last s (text o rest) ∙ text_last names o opened AnyToken rest well.1 refl
  text_last names (Prefix op o) opened last rest well n = prefix_last names opened last op (text o rest) ∙ text_last names o opened AnyToken rest well.1 refl
  text_last names (SizeOf o) opened last rest well n = text_last names o opened AnyToken rest well.1 refl
  text_last names (SizeOfType ws ps bs) opened last rest well n =
      type_with names ws ps bs opened rest well.0 (λ others before. bounds_last names bs others before (close_parenthesis ∷ rest) well.2)
  text_last names (Cast ws ps bs o) opened last rest well n =
      type_with names ws ps bs opened (text o rest) well.0 (λ others before. bounds_last names bs others before (close_parenthesis ∷ text o rest) well.2)
      ∙ text_last names o opened TypeEnd rest well.4 refl
  text_last names (Infix op l r) opened last rest well n =
      text_last names l opened last (token.Punctuator (infix_punctuator op) ∷ text r rest) well.1 n ∙ infix_last names opened (ending l) op (text r rest)
      ∙ text_last names r opened AnyToken rest well.3 refl
  text_last names (Choice t o e) opened last rest well n =
      text_last names t opened last (token.Punctuator punctuator.Question ∷ text o (token.Punctuator punctuator.Colon ∷ text e rest)) well.1 n
      ∙ text_last names o opened AnyToken (token.Punctuator punctuator.Colon ∷ text e rest) well.2 refl
      ∙ text_last names e opened AnyToken rest well.4 refl
  text_last names (Assign op o v) opened last rest well n =
      text_last names o opened last (token.Punctuator (assign_punctuator op) ∷ text v rest) well.1 n ∙ assign_last names opened (ending o) op (text v rest)
      ∙ text_last names v opened AnyToken rest well.3 refl
  text_last names (Comma l r) opened last rest well n =
      text_last names l opened last (token.Punctuator punctuator.Comma ∷ text r rest) well.0 n ∙ text_last names r opened AnyToken rest well.2 refl

  pub listed_last : (names : Names) (level : ℕ) (es : WrittenList) (opened : List Bool) (last : Last) (rest : Kinds) → ArePhrases names level es
      → named last ≡ AnyToken → Reaches names opened last (listed es rest) rest
  listed_last names level End opened last rest are n = (last, refl)
  listed_last names level (More e es) opened last rest are n =
      let others = commas_last names level es opened (ending e) rest are.2 in
      (others.0, text_last names e opened last (after_commas es rest) are.1 n ∙ others.1)

  commas_last : (names : Names) (level : ℕ) (es : WrittenList) (opened : List Bool) (last : Last) (rest : Kinds) → ArePhrases names level es
      → Reaches names opened last (after_commas es rest) rest
  commas_last names level End opened last rest are = (last, refl)
  commas_last names level (More e es) opened last rest are =
      let others = commas_last names level es opened (ending e) rest are.2 in
      (others.0, text_last names e opened AnyToken (after_commas es rest) are.1 refl ∙ others.1)

  pub bounds_last : (names : Names) (bs : WrittenList) (opened : List Bool) (last : Last) (rest : Kinds) → ArePhrases names 2 bs
      → Reaches names opened last (bounds_text bs rest) rest
  bounds_last names End opened last rest are = (last, refl)
  bounds_last names (More e es) opened last rest are =
      let others = bounds_last names es opened AnyToken rest are.2 in
      (others.0, text_last names e opened AnyToken (close_bracket ∷ bounds_text es rest) are.1 refl ∙ others.1)

-- a type after an opening parenthesis, up to the closing one
pub type_last : (names : Names) (ws : List TypeWord) (ps : List PointerWord) (bs : WrittenList) (opened : List Bool) (rest : Kinds)
    → is_type names ws ≡ true → ArePhrases names 2 bs
    → last_of names (begin_type names (type_text ws ps bs (close_parenthesis ∷ rest)) ∷ opened) AnyToken (type_text ws ps bs (close_parenthesis ∷ rest))
    ≡ last_of names opened TypeEnd rest
type_last names ws ps bs opened rest is are =
    type_with names ws ps bs opened rest is (λ others before. bounds_last names bs others before (close_parenthesis ∷ rest) are)
