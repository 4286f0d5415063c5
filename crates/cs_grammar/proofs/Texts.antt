-- Texts of trees, and what follows them: for the contracts of every parser of phrases.
use Rattle.std.proofs.Common.{◌≡◌, ◌+◌, List, [], ◌∷◌, ◌++◌, length, refl, sym, ap, ◌∙◌}
use Rattle.std.proofs.lemmas.List.{append_cancel_left, length-append}
use Rattle.cs_ast.specs.declared.token.TokenKind.TheVariants as token
use Rattle.cs_ast.specs.declared.token.Keyword.TheVariants as keyword
use Rattle.cs_ast.specs.declared.token.Punctuator.TheVariants as punctuator
use Rattle.cs_ast.specs.declared.raw.written_type.TypeWord.{TypeWord}
use Rattle.cs_ast.specs.declared.raw.written_type.TypeWord.TheVariants as word
use Rattle.cs_ast.specs.declared.raw.written_type.PointerWord.{PointerWord}
use Rattle.cs_ast.specs.RawTree.{Written, WrittenList, Named, Numeral, Character, Literal, Enclosed, Index, Call, Member, Arrow, StepAfter, StepBefore, Prefix}
use Rattle.cs_ast.specs.RawTree.{SizeOf, SizeOfType, Cast, Infix, Choice, Assign, Comma, End, More}
use Rattle.cs_grammar.specs.Punctuators.{step_punctuator, prefix_punctuator, infix_punctuator, assign_punctuator}
use Rattle.cs_grammar.specs.Text.{Kinds, text, listed, after_commas, bounds_text, words_text, type_word_text, pointers_text, pointer_word_text, type_text, size}

pub word_append : (w : TypeWord) (x y : Kinds) → type_word_text w x ++ y ≡ type_word_text w (x ++ y)
word_append word.Const x y = refl
word_append (word.Integer kind) x y = refl
word_append word.Void x y = refl
word_append (word.Typedef name) x y = refl
word_append (word.Struct tag) x y = refl
word_append (word.Enum tag) x y = refl

pub words_append : (ws : List TypeWord) (x y : Kinds) → words_text ws x ++ y ≡ words_text ws (x ++ y)
words_append [] x y = refl
words_append (w ∷ ws) x y = word_append w (words_text ws x) y ∙ ap (type_word_text w) (words_append ws x y)

pub pointers_append : (ps : List PointerWord) (x y : Kinds) → pointers_text ps x ++ y ≡ pointers_text ps (x ++ y)
pointers_append [] x y = refl
pointers_append (p ∷ ps) x y = ap (λ r. pointer_word_text p ∷ r) (pointers_append ps x y)

mutual
  -- what follows a text may be cut off
  pub text_append : (e : Written) (x y : Kinds) → text e x ++ y ≡ text e (x ++ y)
  text_append (Named name) x y = refl
  text_append (Numeral constant) x y = refl
  text_append (Character value) x y = refl
  text_append (Literal bytes) x y = refl
  text_append (Enclosed e) x y =
      ap (λ r. token.Punctuator punctuator.OpenParenthesis ∷ r) (text_append e (token.Punctuator punctuator.CloseParenthesis ∷ x) y)
  text_append (Index a n) x y =
      text_append a (token.Punctuator punctuator.OpenBracket ∷ text n (token.Punctuator punctuator.CloseBracket ∷ x)) y
      ∙ ap (λ r. text a (token.Punctuator punctuator.OpenBracket ∷ r)) (text_append n (token.Punctuator punctuator.CloseBracket ∷ x) y)
  text_append (Call f es) x y =
      text_append f (token.Punctuator punctuator.OpenParenthesis ∷ listed es (token.Punctuator punctuator.CloseParenthesis ∷ x)) y
      ∙ ap (λ r. text f (token.Punctuator punctuator.OpenParenthesis ∷ r)) (listed_append es (token.Punctuator punctuator.CloseParenthesis ∷ x) y)
  text_append (Member e name) x y = text_append e (token.Punctuator punctuator.Dot ∷ token.Name name ∷ x) y
  text_append (Arrow e name) x y = text_append e (token.Punctuator punctuator.Arrow ∷ token.Name name ∷ x) y
  text_append (StepAfter step e) x y = text_append e (token.Punctuator (step_punctuator step) ∷ x) y
  text_append (StepBefore step e) x y = ap (λ r. token.Punctuator (step_punctuator step) ∷ r) (text_append e x y)
  text_append (Prefix op e) x y = ap (λ r. token.Punctuator (prefix_punctuator op) ∷ r) (text_append e x y)
  text_append (SizeOf e) x y = ap (λ r. token.Keyword keyword.Sizeof ∷ r) (text_append e x y)
  text_append (SizeOfType ws ps es) x y =
      ap (λ r. token.Keyword keyword.Sizeof ∷ token.Punctuator punctuator.OpenParenthesis ∷ r)
      ((words_append ws (pointers_text ps (bounds_text es (token.Punctuator punctuator.CloseParenthesis ∷ x))) y
      ∙ ap (words_text ws) (pointers_append ps (bounds_text es (token.Punctuator punctuator.CloseParenthesis ∷ x)) y
      ∙ ap (pointers_text ps) (bounds_append es (token.Punctuator punctuator.CloseParenthesis ∷ x) y))))
  text_append (Cast ws ps es e) x y =
      ap (λ r. token.Punctuator punctuator.OpenParenthesis ∷ r)
      (words_append ws (pointers_text ps (bounds_text es (token.Punctuator punctuator.CloseParenthesis ∷ text e x))) y
      ∙ ap (words_text ws) (pointers_append ps (bounds_text es (token.Punctuator punctuator.CloseParenthesis ∷ text e x)) y
      ∙ ap (pointers_text ps) (bounds_append es (token.Punctuator punctuator.CloseParenthesis ∷ text e x) y))
      ∙ ap (λ r. type_text ws ps es (token.Punctuator punctuator.CloseParenthesis ∷ r)) (text_append e x y))
  text_append (Infix op l r) x y =
      text_append l (token.Punctuator (infix_punctuator op) ∷ text r x) y
      ∙ ap (λ z. text l (token.Punctuator (infix_punctuator op) ∷ z)) (text_append r x y)
  text_append (Choice e l r) x y =
      text_append e (token.Punctuator punctuator.Question ∷ text l (token.Punctuator punctuator.Colon ∷ text r x)) y
      ∙ ap (λ z. text e (token.Punctuator punctuator.Question ∷ z))
      (text_append l (token.Punctuator punctuator.Colon ∷ text r x) y ∙ ap (λ z. text l (token.Punctuator punctuator.Colon ∷ z)) (text_append r x y))
  text_append (Assign op l r) x y =
      text_append l (token.Punctuator (assign_punctuator op) ∷ text r x) y
      ∙ ap (λ z. text l (token.Punctuator (assign_punctuator op) ∷ z)) (text_append r x y)
  text_append (Comma l r) x y =
      text_append l (token.Punctuator punctuator.Comma ∷ text r x) y ∙ ap (λ z. text l (token.Punctuator punctuator.Comma ∷ z)) (text_append r x y)

  pub listed_append : (es : WrittenList) (x y : Kinds) → listed es x ++ y ≡ listed es (x ++ y)
  listed_append End x y = refl
  listed_append (More e es) x y = text_append e (after_commas es x) y ∙ ap (text e) (commas_append es x y)

  pub commas_append : (es : WrittenList) (x y : Kinds) → after_commas es x ++ y ≡ after_commas es (x ++ y)
  commas_append End x y = refl
  commas_append (More e es) x y =
      ap (λ r. token.Punctuator punctuator.Comma ∷ r) (text_append e (after_commas es x) y ∙ ap (text e) (commas_append es x y))

  pub bounds_append : (es : WrittenList) (x y : Kinds) → bounds_text es x ++ y ≡ bounds_text es (x ++ y)
  bounds_append End x y = refl
  bounds_append (More e es) x y =
      ap (λ r. token.Punctuator punctuator.OpenBracket ∷ r)
      (text_append e (token.Punctuator punctuator.CloseBracket ∷ bounds_text es x) y
      ∙ ap (λ r. text e (token.Punctuator punctuator.CloseBracket ∷ r)) (bounds_append es x y))

pub type_append : (ws : List TypeWord) (ps : List PointerWord) (es : WrittenList) (x y : Kinds) → type_text ws ps es x ++ y ≡ type_text ws ps es (x ++ y)
type_append ws ps es x y =
    words_append ws (pointers_text ps (bounds_text es x)) y
    ∙ ap (words_text ws) (pointers_append ps (bounds_text es x) y ∙ ap (pointers_text ps) (bounds_append es x y))

-- a text and what follows it, split
pub text_splits : (e : Written) (x : Kinds) → text e x ≡ text e [] ++ x
text_splits e x = sym (text_append e [] x)

-- what follows a text is determined by the whole
pub text_cancel : (e : Written) (x y : Kinds) → text e x ≡ text e y → x ≡ y
text_cancel e x y same = append_cancel_left (text e []) x y (sym (text_splits e x) ∙ same ∙ text_splits e y)

pub text_length : (e : Written) (x : Kinds) → length (text e x) ≡ size e + length x
text_length e x = ap length (text_splits e x) ∙ length-append (text e []) x
