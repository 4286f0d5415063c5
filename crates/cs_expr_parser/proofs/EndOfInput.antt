-- The end of input isn't a token of an expression: for the contract of `expression`.
use Rattle.std.proofs.Common.{◌≡◌, Bool, true, false, not, ◌&&◌, List, [], ◌∷◌, ◌++◌, refl, sym, ap, ◌∙◌}
use Rattle.std.proofs.lemmas.Bool.{false≢true, and_right}
use Rattle.cs_ast.specs.declared.token.TokenKind.{TokenKind}
use Rattle.cs_ast.specs.declared.token.TokenKind.TheVariants as token
use Rattle.cs_ast.specs.declared.token.Punctuator.TheVariants as punctuator
use Rattle.cs_ast.specs.declared.raw.written_type.TypeWord.{TypeWord}
use Rattle.cs_ast.specs.declared.raw.written_type.TypeWord.TheVariants as word
use Rattle.cs_ast.specs.declared.raw.written_type.IntegerWord.TheVariants.{Char, Short, Int, Long, Signed, Unsigned}
use Rattle.cs_ast.specs.declared.raw.written_type.PointerWord.{PointerWord}
use Rattle.cs_ast.specs.declared.raw.written_type.PointerWord.TheVariants as pointer
use Rattle.cs_ast.specs.RawTree.{Written, WrittenList, Named, Numeral, Character, Literal, Enclosed, Index, Call, Member, Arrow, StepAfter, StepBefore, Prefix}
use Rattle.cs_ast.specs.RawTree.{SizeOf, SizeOfType, Cast, Infix, Choice, Assign, Comma, End, More}
use Rattle.cs_grammar.specs.Punctuators.{step_punctuator, infix_punctuator, assign_punctuator}
use Rattle.cs_grammar.specs.Text.{Kinds, text, listed, after_commas, bounds_text, words_text, pointers_text, type_word_text}

abbrev is_end : TokenKind → Bool
is_end token.Attribute = true
is_end other = false

-- none of the tokens is the end of input
abbrev endless : Kinds → Bool
endless [] = true
endless (kind ∷ kinds) = not (is_end kind) && endless kinds

endless_word : (w : TypeWord) (rest : Kinds) → endless (type_word_text w rest) ≡ endless rest
endless_word word.Const rest = refl
endless_word word.Void rest = refl
endless_word (word.Typedef name) rest = refl
endless_word (word.Struct tag) rest = refl
endless_word (word.Enum tag) rest = refl
endless_word (word.Integer Char) rest = refl
endless_word (word.Integer Short) rest = refl
endless_word (word.Integer Int) rest = refl
endless_word (word.Integer Long) rest = refl
endless_word (word.Integer Signed) rest = refl
endless_word (word.Integer Unsigned) rest = refl

endless_words : (ws : List TypeWord) (rest : Kinds) → endless (words_text ws rest) ≡ endless rest
endless_words [] rest = refl
endless_words (w ∷ ws) rest = endless_word w (words_text ws rest) ∙ endless_words ws rest

endless_pointers : (ps : List PointerWord) (rest : Kinds) → endless (pointers_text ps rest) ≡ endless rest
endless_pointers [] rest = refl
endless_pointers (pointer.Star ∷ ps) rest = endless_pointers ps rest
endless_pointers (pointer.Const ∷ ps) rest = endless_pointers ps rest

abbrev close_parenthesis : TokenKind
close_parenthesis = token.Punctuator punctuator.CloseParenthesis

abbrev close_bracket : TokenKind
close_bracket = token.Punctuator punctuator.CloseBracket

mutual
  endless_text : (e : Written) (rest : Kinds) → endless (text e rest) ≡ endless rest
  endless_text (Named name) rest = refl
  endless_text (Numeral n) rest = refl
  endless_text (Character v) rest = refl
  endless_text (Literal b) rest = refl
  endless_text (Enclosed i) rest = endless_text i (close_parenthesis ∷ rest)
  endless_text (Index a n) rest = endless_text a (token.Punctuator punctuator.OpenBracket ∷ text n (close_bracket ∷ rest))
      ∙ endless_text n (close_bracket ∷ rest)
  endless_text (Call f es) rest = endless_text f (token.Punctuator punctuator.OpenParenthesis ∷ listed es (close_parenthesis ∷ rest))
      ∙ endless_listed es (close_parenthesis ∷ rest)
  endless_text (Member o n) rest = endless_text o (token.Punctuator punctuator.Dot ∷ token.Name n ∷ rest)
  endless_text (Arrow o n) rest = endless_text o (token.Punctuator punctuator.Arrow ∷ token.Name n ∷ rest)
  endless_text (StepAfter s o) rest = endless_text o (token.Punctuator (step_punctuator s) ∷ rest)
  endless_text (StepBefore s o) rest = endless_text o rest
  endless_text (Prefix op o) rest = endless_text o rest
  endless_text (SizeOf o) rest = endless_text o rest
  endless_text (SizeOfType ws ps bs) rest =
      endless_words ws (pointers_text ps (bounds_text bs (close_parenthesis ∷ rest))) ∙ endless_pointers ps (bounds_text bs (close_parenthesis ∷ rest))
      ∙ endless_bounds bs (close_parenthesis ∷ rest)
  endless_text (Cast ws ps bs o) rest =
      endless_words ws (pointers_text ps (bounds_text bs (close_parenthesis ∷ text o rest)))
      ∙ endless_pointers ps (bounds_text bs (close_parenthesis ∷ text o rest))
      ∙ endless_bounds bs (close_parenthesis ∷ text o rest) ∙ endless_text o rest
  endless_text (Infix op l r) rest = endless_text l (token.Punctuator (infix_punctuator op) ∷ text r rest) ∙ endless_text r rest
  endless_text (Choice t o e) rest =
      endless_text t (token.Punctuator punctuator.Question ∷ text o (token.Punctuator punctuator.Colon ∷ text e rest))
      ∙ endless_text o (token.Punctuator punctuator.Colon ∷ text e rest) ∙ endless_text e rest
  endless_text (Assign op o v) rest = endless_text o (token.Punctuator (assign_punctuator op) ∷ text v rest) ∙ endless_text v rest
  endless_text (Comma l r) rest = endless_text l (token.Punctuator punctuator.Comma ∷ text r rest) ∙ endless_text r rest

  endless_listed : (es : WrittenList) (rest : Kinds) → endless (listed es rest) ≡ endless rest
  endless_listed End rest = refl
  endless_listed (More e es) rest = endless_text e (after_commas es rest) ∙ endless_commas es rest

  endless_commas : (es : WrittenList) (rest : Kinds) → endless (after_commas es rest) ≡ endless rest
  endless_commas End rest = refl
  endless_commas (More e es) rest = endless_text e (after_commas es rest) ∙ endless_commas es rest

  endless_bounds : (es : WrittenList) (rest : Kinds) → endless (bounds_text es rest) ≡ endless rest
  endless_bounds End rest = refl
  endless_bounds (More e es) rest = endless_text e (close_bracket ∷ bounds_text es rest) ∙ endless_bounds es rest

end_among : (front more : Kinds) → endless (front ++ token.Attribute ∷ more) ≡ false
end_among [] more = refl
end_among (f ∷ fs) more = and_right (not (is_end f)) (endless (fs ++ token.Attribute ∷ more)) (end_among fs more)

pub no_end : (e : Written) (front more : Kinds) → text e [] ≡ front ++ token.Attribute ∷ more → ⊥
no_end e front more same = false≢true (sym (end_among front more) ∙ ap endless (sym same) ∙ endless_text e [])
