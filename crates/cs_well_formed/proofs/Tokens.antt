-- The constants of a tree are among the tokens of its text: no constant is too large, since the lexer accepts no such token.
use Rattle.std.proofs.Common.{Bool, true, false, List, [], ◌∷◌}
use Rattle.std.specs.List.{AllByRecursion}
use Rattle.std.proofs.lemmas.List.Elements.{recursion_from_All}
use Rattle.cs_ast.specs.declared.raw.written_type.TypeWord.{TypeWord}
use Rattle.cs_ast.specs.declared.raw.written_type.TypeWord.TheVariants as word
use Rattle.cs_ast.specs.declared.raw.written_type.PointerWord.{PointerWord}
use Rattle.cs_ast.specs.RawTree.{Written, WrittenList, Named, Numeral, Character, Literal, Enclosed, Index, Call, Member, Arrow, StepAfter, StepBefore, Prefix}
use Rattle.cs_ast.specs.RawTree.{SizeOf, SizeOfType, Cast, Infix, Choice, Assign, Comma, End, More}
use Rattle.cs_ast.specs.RawDeclarations.{Initial, Single, Listed, Initials, NoItem, MoreItems}
use Rattle.cs_grammar.specs.Text.{Kinds, words_text, pointers_text, text, listed, after_commas, bounds_text}
use Rattle.cs_grammar.specs.FileText.{comma_text, initial_text, initials_text, further_initials_text}
use Rattle.cs_well_formed.specs.Constants.{HasConstants, HaveConstants, InitialHasConstants, InitialsHaveConstants}
use Rattle.cs_ast.specs.HeldTokens.{IsHeldToken}
use Rattle.cs_well_formed.specs.Tokens.{TextsHoldConstants, InitialTextsHoldConstants}

-- no token has a constant that is too wide
abbrev pub AreHeld : Kinds → Type 0
AreHeld tokens = AllByRecursion IsHeldToken tokens

after_words : (words : List TypeWord) (rest : Kinds) → AreHeld (words_text words rest) → AreHeld rest
after_words [] rest h = h
after_words (word.Const ∷ words) rest h = after_words words rest h.1
after_words (word.Integer kind ∷ words) rest h = after_words words rest h.1
after_words (word.Void ∷ words) rest h = after_words words rest h.1
after_words (word.Typedef name ∷ words) rest h = after_words words rest h.1
after_words (word.Struct tag ∷ words) rest h = after_words words rest h.1.1
after_words (word.Enum tag ∷ words) rest h = after_words words rest h.1.1

after_pointers : (pointers : List PointerWord) (rest : Kinds) → AreHeld (pointers_text pointers rest) → AreHeld rest
after_pointers [] rest h = h
after_pointers (p ∷ pointers) rest h = after_pointers pointers rest h.1

mutual
  -- the constants of an expression, and the tokens after it
  pub text-held : (e : Written) (rest : Kinds) → AreHeld (text e rest) → HasConstants e × AreHeld rest
  text-held (Named name) rest h = (tt, h.1)
  text-held (Numeral constant) rest h = h
  text-held (Character value) rest h = h
  text-held (Literal bytes) rest h = (tt, h.1)
  text-held (Enclosed inner) rest h = let one = text-held inner _ h.1 in (one.0, one.1.1)
  text-held (Index array number) rest h = let one = text-held array _ h in let other = text-held number _ one.1.1 in ((one.0, other.0), other.1.1)
  text-held (Call function arguments) rest h = let one = text-held function _ h in let others = listed-held arguments _ one.1.1 in
      ((one.0, others.0), others.1.1)
  text-held (Member object name) rest h = let one = text-held object _ h in (one.0, one.1.1.1)
  text-held (Arrow pointer name) rest h = let one = text-held pointer _ h in (one.0, one.1.1.1)
  text-held (StepAfter step object) rest h = let one = text-held object _ h in (one.0, one.1.1)
  text-held (StepBefore step object) rest h = text-held object rest h.1
  text-held (Prefix operator operand) rest h = text-held operand rest h.1
  text-held (SizeOf operand) rest h = text-held operand rest h.1
  text-held (SizeOfType words pointers bounds) rest h =
      let some = bounds-held bounds _ (after_pointers pointers _ (after_words words _ h.1.1)) in (some.0, some.1.1)
  text-held (Cast words pointers bounds operand) rest h =
      let some = bounds-held bounds _ (after_pointers pointers _ (after_words words _ h.1)) in let one = text-held operand rest some.1.1 in
      ((some.0, one.0), one.1)
  text-held (Infix operator left right) rest h = let one = text-held left _ h in let other = text-held right rest one.1.1 in ((one.0, other.0), other.1)
  text-held (Choice test one other) rest h =
      let a = text-held test _ h in let b = text-held one _ a.1.1 in let c = text-held other rest b.1.1 in ((a.0, b.0, c.0), c.1)
  text-held (Assign operator object value) rest h = let one = text-held object _ h in let other = text-held value rest one.1.1 in ((one.0, other.0), other.1)
  text-held (Comma first second) rest h = let one = text-held first _ h in let other = text-held second rest one.1.1 in ((one.0, other.0), other.1)

  listed-held : (es : WrittenList) (rest : Kinds) → AreHeld (listed es rest) → HaveConstants es × AreHeld rest
  listed-held End rest h = (tt, h)
  listed-held (More first others) rest h = let one = text-held first _ h in let more = after_commas-held others rest one.1 in ((one.0, more.0), more.1)

  after_commas-held : (es : WrittenList) (rest : Kinds) → AreHeld (after_commas es rest) → HaveConstants es × AreHeld rest
  after_commas-held End rest h = (tt, h)
  after_commas-held (More first others) rest h = let one = text-held first _ h.1 in let more = after_commas-held others rest one.1 in ((one.0, more.0), more.1)

  bounds-held : (es : WrittenList) (rest : Kinds) → AreHeld (bounds_text es rest) → HaveConstants es × AreHeld rest
  bounds-held End rest h = (tt, h)
  bounds-held (More first others) rest h = let one = text-held first _ h.1 in let more = bounds-held others rest one.1.1 in ((one.0, more.0), more.1)

following_comma : (comma : Bool) (rest : Kinds) → AreHeld (comma_text comma rest) → AreHeld rest
following_comma true rest h = h.1
following_comma false rest h = h

mutual
  -- the same for an initializer
  pub initial_text-held : (i : Initial) (rest : Kinds) → AreHeld (initial_text i rest) → InitialHasConstants i × AreHeld rest
  initial_text-held (Single e) rest h = text-held e rest h
  initial_text-held (Listed items comma) rest h = let some = initials_text-held items _ h.1 in (some.0, (following_comma comma _ some.1).1)

  initials_text-held : (is : Initials) (rest : Kinds) → AreHeld (initials_text is rest) → InitialsHaveConstants is × AreHeld rest
  initials_text-held NoItem rest h = (tt, h)
  initials_text-held (MoreItems first others) rest h = let one = initial_text-held first _ h in let more = further-held others rest one.1 in
      ((one.0, more.0), more.1)

  further-held : (is : Initials) (rest : Kinds) → AreHeld (further_initials_text is rest) → InitialsHaveConstants is × AreHeld rest
  further-held NoItem rest h = (tt, h)
  further-held (MoreItems first others) rest h = let one = initial_text-held first _ h.1 in let more = further-held others rest one.1 in
      ((one.0, more.0), more.1)

pub texts_hold_constants : TextsHoldConstants
texts_hold_constants e following h = (text-held e following (recursion_from_All IsHeldToken (text e following) h)).0

pub initial_texts_hold_constants : InitialTextsHoldConstants
initial_texts_hold_constants i following h = (initial_text-held i following (recursion_from_All IsHeldToken (initial_text i following) h)).0
