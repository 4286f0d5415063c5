-- The literals after an expression are no more than its text allows: for `typed_nodes_are_bounded`.
use Rattle.std.proofs.Common.{◌≡◌, ℕ, ◌+◌, ◌≤◌, List, [], ◌∷◌, ◌++◌, length, arith}
use Rattle.cs_ast.specs.declared.token.TokenKind.TheVariants as token
use Rattle.cs_ast.specs.declared.token.Punctuator.TheVariants as punctuator
use Rattle.cs_ast.specs.declared.raw.expression.RawExprKind.{Row_of-RawExpr, end_of-RawExpr, more_of-RawExpr}
use Rattle.cs_ast.specs.declared.raw.expression.RawExprKind.TheVariants as kind
use Rattle.cs_ast.specs.RawView.{written_kind, written_row}
use Rattle.cs_ast.specs.RawTree.{Written, WrittenList, Enclosed, Index, Call, Member, Arrow, StepAfter, SizeOfType, Cast, Infix, Choice, Assign, Comma, End}
use Rattle.cs_ast.specs.RawTree.{More}
use Rattle.cs_grammar.specs.Punctuators.{step_punctuator, infix_punctuator, assign_punctuator}
use Rattle.cs_grammar.specs.Text.{pointers_text, text, listed, after_commas, bounds_text}
use Rattle.cs_expressions.specs.Primary.{Literals}
use Rattle.cs_consts.specs.Typing.{literals_after, literals_after_row}
use Rattle.cs_well_formed.specs.Nodes.{literal_nodes}
use Rattle.cs_well_formed.specs.Sizes.{size_of}
use Rattle.cs_well_formed.specs.Bounded.{texts_nodes, TextsGrow, LiteralsAreBounded}
use Rattle.cs_well_formed.proofs.TextSizes.{size-text, size-listed, size-bounds, size-words, size-pointers, all_nodes-append}

-- the size of the text of an expression
abbrev pub sized : Written → ℕ
sized e = size_of (text e)

-- the size of an expression is that of its parts and its own tokens
pub sized-Enclosed : (e : Written) → sized (Enclosed e) ≡ sized e + 2
sized-Enclosed e = omega (arith, size-text e (token.Punctuator punctuator.CloseParenthesis ∷ []))

pub sized-Index : (a n : Written) → sized (Index a n) ≡ sized a + sized n + 2
sized-Index a n =
    omega (
      arith,
      size-text a (token.Punctuator punctuator.OpenBracket ∷ text n (token.Punctuator punctuator.CloseBracket ∷ [])),
      size-text n (token.Punctuator punctuator.CloseBracket ∷ []),
    )

pub sized-Call : (f : Written) (es : WrittenList) → sized (Call f es) ≡ sized f + size_of (listed es) + 2
sized-Call f es =
    omega (
      arith,
      size-text f (token.Punctuator punctuator.OpenParenthesis ∷ listed es (token.Punctuator punctuator.CloseParenthesis ∷ [])),
      size-listed es (token.Punctuator punctuator.CloseParenthesis ∷ []),
    )

pub sized-Member : (e : Written) (name : List ℕ) → sized (Member e name) ≡ sized e + 2
sized-Member e name = omega (arith, size-text e (token.Punctuator punctuator.Dot ∷ token.Name name ∷ []))

pub sized-Arrow : (e : Written) (name : List ℕ) → sized (Arrow e name) ≡ sized e + 2
sized-Arrow e name = omega (arith, size-text e (token.Punctuator punctuator.Arrow ∷ token.Name name ∷ []))

pub sized-StepAfter : (step : _) (e : Written) → sized (StepAfter step e) ≡ sized e + 1
sized-StepAfter step e = omega (arith, size-text e (token.Punctuator (step_punctuator step) ∷ []))

pub sized-Infix : (op : _) (l r : Written) → sized (Infix op l r) ≡ sized l + sized r + 1
sized-Infix op l r = omega (arith, size-text l (token.Punctuator (infix_punctuator op) ∷ text r []))

pub sized-Choice : (t l r : Written) → sized (Choice t l r) ≡ sized t + sized l + sized r + 2
sized-Choice t l r = omega (
  arith,
  size-text t (token.Punctuator punctuator.Question ∷ text l (token.Punctuator punctuator.Colon ∷ text r [])),
  size-text l (token.Punctuator punctuator.Colon ∷ text r []),
)

pub sized-Assign : (op : _) (l r : Written) → sized (Assign op l r) ≡ sized l + sized r + 1
sized-Assign op l r = omega (arith, size-text l (token.Punctuator (assign_punctuator op) ∷ text r []))

pub sized-Comma : (l r : Written) → sized (Comma l r) ≡ sized l + sized r + 1
sized-Comma l r = omega (arith, size-text l (token.Punctuator punctuator.Comma ∷ text r []))

pub sized-SizeOfType : (words : _) (pointers : _) (es : WrittenList) → size_of (bounds_text es) + 3 ≤ sized (SizeOfType words pointers es)
sized-SizeOfType words pointers es =
    omega (
      arith,
      size-words words (pointers_text pointers (bounds_text es (token.Punctuator punctuator.CloseParenthesis ∷ []))),
      size-pointers pointers (bounds_text es (token.Punctuator punctuator.CloseParenthesis ∷ [])),
      size-bounds es (token.Punctuator punctuator.CloseParenthesis ∷ []),
    )

pub sized-Cast : (words : _) (pointers : _) (es : WrittenList) (e : Written) → sized e + 2 ≤ sized (Cast words pointers es e)
sized-Cast words pointers es e =
    omega (
      arith,
      size-words words (pointers_text pointers (bounds_text es (token.Punctuator punctuator.CloseParenthesis ∷ text e []))),
      size-pointers pointers (bounds_text es (token.Punctuator punctuator.CloseParenthesis ∷ text e [])),
      size-bounds es (token.Punctuator punctuator.CloseParenthesis ∷ text e []),
    )

-- a list with a comma before each item, and without the first comma
pub sized-commas : (e : Written) (es : WrittenList) → size_of (after_commas (More e es)) ≡ sized e + size_of (after_commas es) + 1
sized-commas e es = omega (arith, size-text e (after_commas es []))

pub sized-listed : (es : WrittenList) → size_of (after_commas es) ≤ size_of (listed es) + 1
sized-listed End = omega arith
sized-listed (More e es) = omega (arith, size-text e (after_commas es []))

pub sized-bounds : (e : Written) (es : WrittenList) → size_of (bounds_text (More e es)) ≡ sized e + size_of (bounds_text es) + 2
sized-bounds e es = omega (arith, size-text e (token.Punctuator punctuator.CloseBracket ∷ bounds_text es []))

-- literals grow within a bound
grows-self : (literals : Literals) (size : ℕ) → TextsGrow literals literals size
grows-self literals size = record { no_fewer = omega arith; no_more = omega arith }

grows-then : (one other following : Literals) (m n size : ℕ) → TextsGrow one other m → TextsGrow other following n → m + n ≤ size
    → TextsGrow one following size
grows-then one other following m n size h g room = record { no_fewer = omega (arith, h.no_fewer, g.no_fewer); no_more = omega (arith, h.no_more, g.no_more) }

grows-more : (literals following : Literals) (m size : ℕ) → TextsGrow literals following m → m ≤ size → TextsGrow literals following size
grows-more literals following m size h room = record { no_fewer = h.no_fewer; no_more = omega (arith, h.no_more) }

listed-bounds : (es : WrittenList) → size_of (after_commas es) ≤ size_of (bounds_text es)
listed-bounds End = omega arith
listed-bounds (More e es) = omega (arith, sized-commas e es, sized-bounds e es, listed-bounds es)

mutual
  pub literals-grow : LiteralsAreBounded
  literals-grow literals (kind.Name name) = grows-self literals _
  literals-grow literals (kind.Number constant) = grows-self literals _
  literals-grow literals (kind.Character value) = grows-self literals _
  literals-grow literals (kind.Text bytes) = record { no_fewer = omega (arith, more); no_more = omega (arith, more) }
    where
      more : texts_nodes (literals ++ bytes ∷ []) ≡ texts_nodes literals + (length bytes + 1)
      more = omega (arith, all_nodes-append literal_nodes literals (bytes ∷ []))
  literals-grow literals (kind.Parenthesis' place p e) =
      grows-more literals _ (sized (written_kind e)) _ (literals-grow literals e) (omega (arith, sized-Enclosed (written_kind e)))
  literals-grow literals (kind.Index' place p left place' q right) =
      grows-then literals (literals_after literals left) _ (sized (written_kind left)) (sized (written_kind right)) _ (literals-grow literals left)
      (literals-grow (literals_after literals left) right)
      (omega (arith, sized-Index (written_kind left) (written_kind right)))
  literals-grow literals (kind.Call' place p function shape row) =
      grows-more literals _ (size_of (after_commas (written_row row))) _ (row-grows literals row)
      (omega (arith, sized-Call (written_kind function) (written_row row), sized-listed (written_row row)))
  literals-grow literals (kind.Member' place p e name) =
      grows-more literals _ (sized (written_kind e)) _ (literals-grow literals e) (omega (arith, sized-Member (written_kind e) name.name))
  literals-grow literals (kind.Arrow' place p e name) =
      grows-more literals _ (sized (written_kind e)) _ (literals-grow literals e) (omega (arith, sized-Arrow (written_kind e) name.name))
  literals-grow literals (kind.StepAfter' step place p e) =
      grows-more literals _ (sized (written_kind e)) _ (literals-grow literals e) (omega (arith, sized-StepAfter step (written_kind e)))
  literals-grow literals (kind.StepBefore' step place p e) = grows-more literals _ (sized (written_kind e)) _ (literals-grow literals e) (omega arith)
  literals-grow literals (kind.Prefix' operator place p e) = grows-more literals _ (sized (written_kind e)) _ (literals-grow literals e) (omega arith)
  literals-grow literals (kind.SizeOf' place p e) = grows-more literals _ (sized (written_kind e)) _ (literals-grow literals e) (omega arith)
  literals-grow literals (kind.SizeOfType' ty shape row) =
      grows-more literals _ (size_of (after_commas (written_row row))) _ (row-grows literals row)
      (omega (arith, listed-bounds (written_row row), sized-SizeOfType ty.words.items ty.pointers.items (written_row row)))
  literals-grow literals (kind.Cast' ty shape row place p e) =
      grows-more literals _ (sized (written_kind e)) _ (literals-grow literals e)
      (omega (arith, sized-Cast ty.words.items ty.pointers.items (written_row row) (written_kind e)))
  literals-grow literals (kind.Infix' operator place p left place' q right) =
      grows-then literals (literals_after literals left) _ (sized (written_kind left)) (sized (written_kind right)) _ (literals-grow literals left)
      (literals-grow (literals_after literals left) right)
      (omega (arith, sized-Infix operator (written_kind left) (written_kind right)))
  literals-grow literals (kind.Choice' place p test place' q one place'' r other) =
      let following = literals_after literals test in
      grows-then literals (literals_after following one) _ (sized (written_kind test) + sized (written_kind one)) (sized (written_kind other)) _
      (grows-then literals following (literals_after following one) (sized (written_kind test)) (sized (written_kind one)) _ (literals-grow literals test)
      (literals-grow following one) (omega arith))
      (literals-grow (literals_after following one) other)
      (omega (arith, sized-Choice (written_kind test) (written_kind one) (written_kind other)))
  literals-grow literals (kind.Assign' operator place p left place' q right) =
      grows-then literals (literals_after literals left) _ (sized (written_kind left)) (sized (written_kind right)) _ (literals-grow literals left)
      (literals-grow (literals_after literals left) right)
      (omega (arith, sized-Assign operator (written_kind left) (written_kind right)))
  literals-grow literals (kind.Comma' place p left place' q right) =
      grows-then literals (literals_after literals left) _ (sized (written_kind left)) (sized (written_kind right)) _ (literals-grow literals left)
      (literals-grow (literals_after literals left) right)
      (omega (arith, sized-Comma (written_kind left) (written_kind right)))

  row-grows : (literals : Literals) {n : _} (row : Row_of-RawExpr n)
      → TextsGrow literals (literals_after_row literals row) (size_of (after_commas (written_row row)))
  row-grows literals end_of-RawExpr = grows-self literals _
  row-grows literals (more_of-RawExpr place p k rest) =
      grows-then literals (literals_after literals k) _ (sized (written_kind k)) (size_of (after_commas (written_row rest))) _ (literals-grow literals k)
      (row-grows (literals_after literals k) rest)
      (omega (arith, sized-commas (written_kind k) (written_row rest)))
