-- The first tokens of expressions and of types: for the contracts of the parser of expressions.
use Rattle.std.proofs.Common.{◌≡◌, ℕ, ◌<◌, ◌≤◌, Bool, true, IsTrue, List, [], ◌∷◌, refl, arith}
use Rattle.std.proofs.lemmas.Bool.{not_from_false, both_ways, not-true}
use Rattle.cs_ast.specs.declared.token.TokenKind.{TokenKind}
use Rattle.cs_ast.specs.declared.token.TokenKind.TheVariants as token
use Rattle.cs_ast.specs.declared.token.Keyword.{Keyword}
use Rattle.cs_ast.specs.declared.token.Keyword.TheVariants as keyword
use Rattle.cs_ast.specs.declared.token.Punctuator.TheVariants as punctuator
use Rattle.cs_ast.specs.declared.raw.operator.Step.{Step}
use Rattle.cs_ast.specs.declared.raw.operator.Step.TheVariants.{Up, Down}
use Rattle.cs_ast.specs.declared.raw.operator.PrefixOp.{PrefixOp}
use Rattle.cs_ast.specs.declared.raw.operator.PrefixOp.TheVariants as prefix
use Rattle.cs_ast.specs.declared.raw.written_type.TypeWord.{TypeWord}
use Rattle.cs_ast.specs.declared.raw.written_type.TypeWord.TheVariants as word
use Rattle.cs_ast.specs.declared.raw.written_type.IntegerWord.{IntegerWord}
use Rattle.cs_ast.specs.declared.raw.written_type.IntegerWord.TheVariants.{Char, Short, Int, Long, Signed, Unsigned}
use Rattle.cs_ast.specs.RawTree.{Written, Named, Numeral, Character, Literal, Enclosed, Index, Call, Member, Arrow, StepAfter, StepBefore, Prefix, SizeOf}
use Rattle.cs_ast.specs.RawTree.{SizeOfType, Cast, Infix, Choice, Assign, Comma}
use Rattle.cs_ast.specs.RawHeight.{height}
use Rattle.cs_grammar.specs.TypeWords.{Names, is_among, is_type, names_type, named_by}
use Rattle.cs_grammar.specs.Punctuators.{step_punctuator, prefix_punctuator, infix_punctuator, assign_punctuator}
use Rattle.cs_grammar.specs.Text.{Kinds, text, listed, words_text, type_text, integer_word_text}
use Rattle.cs_grammar.specs.Phrases.{IsPhrase, IsWell}
use Rattle.cs_grammar.specs.FirstTokens.{begins_primary, begins_expression, begins_type, is_sizeof, keyword_begins_type}
use Rattle.cs_grammar.proofs.Levels.{infix_levels}

-- the first of the tokens passes a test
pub record BeginsWith (test : TokenKind → Bool) (tokens : Kinds) : Type 0 where
  pub first : TokenKind
  pub others : Kinds
  pub are : tokens ≡ first ∷ others
  pub passes : test first ≡ true

step_begins : (names : Names) (s : Step) → begins_expression names (token.Punctuator (step_punctuator s)) ≡ true
step_begins names Up = refl
step_begins names Down = refl

prefix_begins : (names : Names) (op : PrefixOp) → begins_expression names (token.Punctuator (prefix_punctuator op)) ≡ true
prefix_begins names prefix.Address = refl
prefix_begins names prefix.Through = refl
prefix_begins names prefix.Plus = refl
prefix_begins names prefix.Minus = refl
prefix_begins names prefix.Complement = refl
prefix_begins names prefix.Not = refl

-- the first token of an expression
pub expression_begins : (names : Names) (e : Written) (after : Kinds) → IsWell names e → BeginsWith (begins_expression names) (text e after)
expression_begins names (Named name) after well = record {
  first = token.Name name;
  others = after;
  are = refl;
  passes = not_from_false (is_among names name) well;
}
expression_begins names (Numeral n) after well = record { first = token.Number n; others = after; are = refl; passes = refl }
expression_begins names (Character v) after well = record { first = token.Character v; others = after; are = refl; passes = refl }
expression_begins names (Literal b) after well = record { first = token.Text b; others = after; are = refl; passes = refl }
expression_begins names (Enclosed i) after well = record {
  first = token.Punctuator punctuator.OpenParenthesis;
  others = text i (token.Punctuator punctuator.CloseParenthesis ∷ after);
  are = refl;
  passes = refl;
}
expression_begins names (Index a n) after well =
    expression_begins names a (token.Punctuator punctuator.OpenBracket ∷ text n (token.Punctuator punctuator.CloseBracket ∷ after)) well.1
expression_begins names (Call f es) after well =
    expression_begins names f (token.Punctuator punctuator.OpenParenthesis ∷ listed es (token.Punctuator punctuator.CloseParenthesis ∷ after)) well.1
expression_begins names (Member o n) after well = expression_begins names o (token.Punctuator punctuator.Dot ∷ token.Name n ∷ after) well.1
expression_begins names (Arrow o n) after well = expression_begins names o (token.Punctuator punctuator.Arrow ∷ token.Name n ∷ after) well.1
expression_begins names (StepAfter s o) after well = expression_begins names o (token.Punctuator (step_punctuator s) ∷ after) well.1
expression_begins names (StepBefore s o) after well =
    record { first = token.Punctuator (step_punctuator s); others = text o after; are = refl; passes = step_begins names s }
expression_begins names (Prefix op o) after well = record {
  first = token.Punctuator (prefix_punctuator op);
  others = text o after;
  are = refl;
  passes = prefix_begins names op;
}
expression_begins names (SizeOf o) after well = record { first = token.Keyword keyword.Sizeof; others = text o after; are = refl; passes = refl }
expression_begins names (SizeOfType ws ps bs) after well =
    record {
      first = token.Keyword keyword.Sizeof;
      others = token.Punctuator punctuator.OpenParenthesis ∷ type_text ws ps bs (token.Punctuator punctuator.CloseParenthesis ∷ after);
      are = refl;
      passes = refl;
    }
expression_begins names (Cast ws ps bs o) after well =
    record {
      first = token.Punctuator punctuator.OpenParenthesis;
      others = type_text ws ps bs (token.Punctuator punctuator.CloseParenthesis ∷ text o after);
      are = refl;
      passes = refl;
    }
expression_begins names (Infix op l r) after well = expression_begins names l (token.Punctuator (infix_punctuator op) ∷ text r after) well.1
expression_begins names (Choice t o e) after well =
    expression_begins names t (token.Punctuator punctuator.Question ∷ text o (token.Punctuator punctuator.Colon ∷ text e after)) well.1
expression_begins names (Assign op l r) after well = expression_begins names l (token.Punctuator (assign_punctuator op) ∷ text r after) well.1
expression_begins names (Comma l r) after well = expression_begins names l (token.Punctuator punctuator.Comma ∷ text r after) well.0

-- the first token of a postfix expression
pub postfix_begins : (names : Names) (e : Written) (after : Kinds) → IsPhrase names 15 e → BeginsWith (begins_primary names) (text e after)
postfix_begins names (Named name) after is = record { first = token.Name name; others = after; are = refl; passes = not_from_false (is_among names name) is.1 }
postfix_begins names (Numeral n) after is = record { first = token.Number n; others = after; are = refl; passes = refl }
postfix_begins names (Character v) after is = record { first = token.Character v; others = after; are = refl; passes = refl }
postfix_begins names (Literal b) after is = record { first = token.Text b; others = after; are = refl; passes = refl }
postfix_begins names (Enclosed i) after is = record {
  first = token.Punctuator punctuator.OpenParenthesis;
  others = text i (token.Punctuator punctuator.CloseParenthesis ∷ after);
  are = refl;
  passes = refl;
}
postfix_begins names (Index a n) after is =
    postfix_begins names a (token.Punctuator punctuator.OpenBracket ∷ text n (token.Punctuator punctuator.CloseBracket ∷ after)) (is.1.0, is.1.1)
postfix_begins names (Call f es) after is =
    postfix_begins names f (token.Punctuator punctuator.OpenParenthesis ∷ listed es (token.Punctuator punctuator.CloseParenthesis ∷ after)) (is.1.0, is.1.1)
postfix_begins names (Member o n) after is = postfix_begins names o (token.Punctuator punctuator.Dot ∷ token.Name n ∷ after) (is.1.0, is.1.1)
postfix_begins names (Arrow o n) after is = postfix_begins names o (token.Punctuator punctuator.Arrow ∷ token.Name n ∷ after) (is.1.0, is.1.1)
postfix_begins names (StepAfter s o) after is = postfix_begins names o (token.Punctuator (step_punctuator s) ∷ after) (is.1.0, is.1.1)
postfix_begins names (StepBefore s o) after is = absurd (omega (arith, is.0))
postfix_begins names (Prefix op o) after is = absurd (omega (arith, is.0))
postfix_begins names (SizeOf o) after is = absurd (omega (arith, is.0))
postfix_begins names (SizeOfType ws ps bs) after is = absurd (omega (arith, is.0))
postfix_begins names (Cast ws ps bs o) after is = absurd (omega (arith, is.0))
postfix_begins names (Infix op l r) after is = absurd (omega (arith, is.0, (infix_levels op).1))
postfix_begins names (Choice t o e) after is = absurd (omega (arith, is.0))
postfix_begins names (Assign op l r) after is = absurd (omega (arith, is.0))
postfix_begins names (Comma l r) after is = absurd (omega (arith, is.0))

-- a unary expression begins with an opening parenthesis and this expression
pub record Inner (names : Names) (tokens : Kinds) (whole : Written) : Type 0 where
  pub inner : Written
  pub rest : Kinds
  pub is_well : IsWell names inner
  pub are : tokens ≡ text inner (token.Punctuator punctuator.CloseParenthesis ∷ rest)
  pub lower : height inner < height whole

inner_up : (names : Names) (tokens : Kinds) (part whole : Written) → height part ≤ height whole → Inner names tokens part → Inner names tokens whole
inner_up names tokens part whole less i = record { inner = i.inner; rest = i.rest; is_well = i.is_well; are = i.are; lower = omega (arith, i.lower) }

step_no_parenthesis : (s : Step) → step_punctuator s ≡ punctuator.OpenParenthesis → ⊥
step_no_parenthesis Up e = cc
step_no_parenthesis Down e = cc

prefix_no_parenthesis : (op : PrefixOp) → prefix_punctuator op ≡ punctuator.OpenParenthesis → ⊥
prefix_no_parenthesis prefix.Address e = cc
prefix_no_parenthesis prefix.Through e = cc
prefix_no_parenthesis prefix.Plus e = cc
prefix_no_parenthesis prefix.Minus e = cc
prefix_no_parenthesis prefix.Complement e = cc
prefix_no_parenthesis prefix.Not e = cc

-- what follows the opening parenthesis at the beginning of a unary expression
pub unary_inner : (names : Names) (e : Written) (after tokens : Kinds) → IsPhrase names 14 e
    → text e after ≡ token.Punctuator punctuator.OpenParenthesis ∷ tokens → Inner names tokens e
unary_inner names (Named name) after tokens is same = absurd cc
unary_inner names (Numeral n) after tokens is same = absurd cc
unary_inner names (Character v) after tokens is same = absurd cc
unary_inner names (Literal b) after tokens is same = absurd cc
unary_inner names (Enclosed i) after tokens is same = record { inner = i; rest = after; is_well = is.1; are = cc; lower = omega arith }
unary_inner names (Index a n) after tokens is same =
    inner_up names tokens a (Index a n) (omega arith)
    (unary_inner names a (token.Punctuator punctuator.OpenBracket ∷ text n (token.Punctuator punctuator.CloseBracket ∷ after)) tokens
    (omega (arith, is.1.0), is.1.1) same)
unary_inner names (Call f es) after tokens is same =
    inner_up names tokens f (Call f es) (omega arith)
    (unary_inner names f (token.Punctuator punctuator.OpenParenthesis ∷ listed es (token.Punctuator punctuator.CloseParenthesis ∷ after)) tokens
    (omega (arith, is.1.0), is.1.1) same)
unary_inner names (Member o n) after tokens is same =
    inner_up names tokens o (Member o n) (omega arith)
    (unary_inner names o (token.Punctuator punctuator.Dot ∷ token.Name n ∷ after) tokens (omega (arith, is.1.0), is.1.1) same)
unary_inner names (Arrow o n) after tokens is same =
    inner_up names tokens o (Arrow o n) (omega arith)
    (unary_inner names o (token.Punctuator punctuator.Arrow ∷ token.Name n ∷ after) tokens (omega (arith, is.1.0), is.1.1) same)
unary_inner names (StepAfter s o) after tokens is same =
    inner_up names tokens o (StepAfter s o) (omega arith)
    (unary_inner names o (token.Punctuator (step_punctuator s) ∷ after) tokens (omega (arith, is.1.0), is.1.1) same)
unary_inner names (StepBefore s o) after tokens is same = absurd (step_no_parenthesis s cc)
unary_inner names (Prefix op o) after tokens is same = absurd (prefix_no_parenthesis op cc)
unary_inner names (SizeOf o) after tokens is same = absurd cc
unary_inner names (SizeOfType ws ps bs) after tokens is same = absurd cc
unary_inner names (Cast ws ps bs o) after tokens is same = absurd (omega (arith, is.0))
unary_inner names (Infix op l r) after tokens is same = absurd (omega (arith, is.0, (infix_levels op).1))
unary_inner names (Choice t o e) after tokens is same = absurd (omega (arith, is.0))
unary_inner names (Assign op l r) after tokens is same = absurd (omega (arith, is.0))
unary_inner names (Comma l r) after tokens is same = absurd (omega (arith, is.0))

integer_begins : (names : Names) (k : IntegerWord) → begins_type names (integer_word_text k) ≡ true
integer_begins names Char = refl
integer_begins names Short = refl
integer_begins names Int = refl
integer_begins names Long = refl
integer_begins names Signed = refl
integer_begins names Unsigned = refl

names_first : (names : Names) (name : List ℕ) (ws : List TypeWord) → names_type names (word.Typedef name ∷ ws) ≡ true → is_among names name ≡ true
names_first names name [] t = t
names_first names name (w ∷ ws) t = cc

-- the first token of a type
pub type_begins : (names : Names) (ws : List TypeWord) (rest : Kinds) → IsTrue (is_type names ws) → BeginsWith (begins_type names) (words_text ws rest)
type_begins names [] rest is = absurd cc
type_begins names (word.Const ∷ ws) rest is = record { first = token.Keyword keyword.Const; others = words_text ws rest; are = refl; passes = refl }
type_begins names (word.Integer k ∷ ws) rest is = record {
  first = integer_word_text k;
  others = words_text ws rest;
  are = refl;
  passes = integer_begins names k;
}
type_begins names (word.Void ∷ ws) rest is = record { first = token.Keyword keyword.Void; others = words_text ws rest; are = refl; passes = refl }
type_begins names (word.Typedef name ∷ ws) rest is =
    record { first = token.Name name; others = words_text ws rest; are = refl; passes = names_first names name (named_by ws) is }
type_begins names (word.Struct tag ∷ ws) rest is = record {
  first = token.Keyword keyword.Struct;
  others = token.Name tag ∷ words_text ws rest;
  are = refl;
  passes = refl;
}
type_begins names (word.Enum tag ∷ ws) rest is = record {
  first = token.Keyword keyword.Enum;
  others = token.Name tag ∷ words_text ws rest;
  are = refl;
  passes = refl;
}

other_keyword : (k : Keyword) → is_sizeof k ≡ true → keyword_begins_type k ≡ true → ⊥
other_keyword keyword.Sizeof e t = cc
other_keyword _ e t = cc

-- no token begins both an expression and a type
pub begins_one : (names : Names) (t : TokenKind) → begins_expression names t ≡ true → begins_type names t ≡ true → ⊥
begins_one names (token.Name name) e t = both_ways (is_among names name) (not-true (is_among names name) e) t
begins_one names (token.Keyword k) e t = other_keyword k e t
begins_one names (token.Number n) e t = cc
begins_one names (token.Character v) e t = cc
begins_one names (token.Text b) e t = cc
begins_one names (token.Punctuator m) e t = cc
begins_one names (token.Unsupported w) e t = cc
begins_one names token.Attribute e t = cc
