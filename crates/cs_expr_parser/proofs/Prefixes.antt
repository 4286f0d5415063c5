-- Prefixes of operands: for the contracts of `unary`, `sized` and `cast`.
use Rattle.std.proofs.Common.{◌≡◌, ℕ, suc, ◌+◌, ◌-◌, ◌<◌, ◌≤◌, ◌⊎◌, inl, inr, Bool, true, false, List, [], ◌∷◌, ◌++◌}
use Rattle.std.proofs.Common.{refl, sym, ap, ◌∙◌, subst, arith, Option, Some, None, append_assoc}
use Rattle.std.proofs.lemmas.Bool.{false≢true, both_ways, cases_lt}
use Rattle.cs_ast.specs.declared.token.TokenKind.{TokenKind}
use Rattle.cs_ast.specs.declared.token.TokenKind.TheVariants as token
use Rattle.cs_ast.specs.declared.token.Keyword.TheVariants as keyword
use Rattle.cs_ast.specs.declared.token.Punctuator.{Punctuator}
use Rattle.cs_ast.specs.declared.token.Punctuator.TheVariants as punctuator
use Rattle.cs_ast.specs.declared.raw.operator.Step.{Step}
use Rattle.cs_ast.specs.declared.raw.operator.Step.TheVariants.{Up, Down}
use Rattle.cs_ast.specs.declared.raw.operator.PrefixOp.{PrefixOp}
use Rattle.cs_ast.specs.declared.raw.operator.PrefixOp.TheVariants as prefix
use Rattle.cs_ast.specs.declared.raw.written_type.TypeWord.{TypeWord}
use Rattle.cs_ast.specs.declared.raw.written_type.TypeWord.TheVariants as word
use Rattle.cs_ast.specs.declared.raw.written_type.PointerWord.{PointerWord}
use Rattle.cs_ast.specs.RawTree.{Written, WrittenList, Named, Numeral, Character, Literal, Enclosed, Index, Call, Member, Arrow, StepAfter, StepBefore, Prefix}
use Rattle.cs_ast.specs.RawTree.{SizeOf, SizeOfType, Cast, Infix, Choice, Assign, Comma, End, More}
use Rattle.cs_ast.specs.RawHeight.{height, highest}
use Rattle.cs_grammar.specs.TypeWords.{Names, is_type, is_pointer}
use Rattle.cs_grammar.specs.Levels.{level_of, infix_level}
use Rattle.cs_grammar.specs.Punctuators.{step_punctuator, prefix_punctuator}
use Rattle.cs_grammar.specs.Text.{Kinds, text, words_text, type_text}
use Rattle.cs_grammar.specs.Phrases.{IsPhrase, IsWell, ArePhrases}
use Rattle.cs_grammar.specs.Continuing.{join, punctuator_join, join_of}
use Rattle.cs_grammar.specs.FirstTokens.{begins_primary, begins_expression, begins_type}
use Rattle.cs_grammar.specs.Parsing.{Class, Expressions, Near, IsOver, Begins, BeginsLow, Took, Refused, Exactly}
use Rattle.cs_grammar.proofs.Levels.{infix_levels, text_law, pass_took, pass_refused}
use Rattle.cs_grammar.proofs.Holes.{Lawful, Hole, Filling, Completion, Tail, tail_took, tail_refused, hole_refused, exact_took}
use Rattle.cs_grammar.proofs.Texts.{type_append}
use Rattle.cs_grammar.proofs.Beginnings.{BeginsWith, expression_begins, postfix_begins, type_begins, begins_one, unary_inner, Inner}
use Rattle.cs_expr_parser.specs.Parts.{TypeParts, IsTypeOf, Types, type_closed_text}
use Rattle.cs_expr_parser.specs.Unary.{before_text, prefixed_tree, opens_type}
use Rattle.cs_expr_parser.specs.declared.unary.Before.{Before}
use Rattle.cs_expr_parser.specs.declared.unary.Before.TheVariants as before
use Rattle.cs_expr_parser.proofs.Closings.{zero, height_some, open_parenthesis, close_parenthesis}

-- the level of the operand after this prefix
abbrev pub operand_level : Before → ℕ
operand_level (before.Step by) = 14
operand_level (before.Operator op) = 13
operand_level before.Size = 14

abbrev of_text : TokenKind → Option Before
of_text (token.Punctuator punctuator.Increment) = Some (before.Step Up)
of_text (token.Punctuator punctuator.Decrement) = Some (before.Step Down)
of_text (token.Punctuator punctuator.Ampersand) = Some (before.Operator prefix.Address)
of_text (token.Punctuator punctuator.Star) = Some (before.Operator prefix.Through)
of_text (token.Punctuator punctuator.Plus) = Some (before.Operator prefix.Plus)
of_text (token.Punctuator punctuator.Minus) = Some (before.Operator prefix.Minus)
of_text (token.Punctuator punctuator.Tilde) = Some (before.Operator prefix.Complement)
of_text (token.Punctuator punctuator.Exclamation) = Some (before.Operator prefix.Not)
of_text (token.Keyword keyword.Sizeof) = Some before.Size
of_text other = None

of_text_before : (b : Before) → of_text (before_text b) ≡ Some b
of_text_before (before.Step Up) = refl
of_text_before (before.Step Down) = refl
of_text_before (before.Operator prefix.Address) = refl
of_text_before (before.Operator prefix.Through) = refl
of_text_before (before.Operator prefix.Plus) = refl
of_text_before (before.Operator prefix.Minus) = refl
of_text_before (before.Operator prefix.Complement) = refl
of_text_before (before.Operator prefix.Not) = refl
of_text_before before.Size = refl

before_same : (a b : Before) → before_text a ≡ before_text b → a ≡ b
before_same a b e = let s : Some a ≡ Some b = sym (of_text_before a) ∙ ap of_text e ∙ of_text_before b in cc

before_not_primary : (names : Names) (b : Before) → begins_primary names (before_text b) ≡ false
before_not_primary names (before.Step Up) = refl
before_not_primary names (before.Step Down) = refl
before_not_primary names (before.Operator prefix.Address) = refl
before_not_primary names (before.Operator prefix.Through) = refl
before_not_primary names (before.Operator prefix.Plus) = refl
before_not_primary names (before.Operator prefix.Minus) = refl
before_not_primary names (before.Operator prefix.Complement) = refl
before_not_primary names (before.Operator prefix.Not) = refl
before_not_primary names before.Size = refl

-- a unary expression is a postfix expression, has a prefix before its operand, or is the `sizeof` of a type
pub data IsUnary (names : Names) (e : Written) (after tokens : Kinds) : Type 0 where
  plain : 15 ≤ level_of e → IsUnary names e after tokens
  prefixed : (b : Before) (operand : Written) → e ≡ prefixed_tree b operand → IsPhrase names (operand_level b) operand
      → tokens ≡ before_text b ∷ text operand after → IsUnary names e after tokens
  measured : (parts : TypeParts) → e ≡ SizeOfType parts.words parts.pointers parts.bounds → IsTypeOf names parts
      → tokens ≡ token.Keyword keyword.Sizeof ∷ open_parenthesis ∷ type_closed_text parts after → IsUnary names e after tokens

pub unary_is : (names : Names) (e : Written) (after : Kinds) → IsPhrase names 14 e → IsUnary names e after (text e after)
unary_is names (StepBefore s o) after is = prefixed (before.Step s) o refl (is.1.0, is.1.1) refl
unary_is names (Prefix op o) after is = prefixed (before.Operator op) o refl (is.1.0, is.1.1) refl
unary_is names (SizeOf o) after is = prefixed before.Size o refl (is.1.0, is.1.1) refl
unary_is names (SizeOfType ws ps bs) after is =
    measured (record { words = ws; pointers = ps; bounds = bs }) refl (record { words = is.1.0; pointers = is.1.1; bounds = is.1.2 }) refl
unary_is names (Named name) after is = plain (omega arith)
unary_is names (Numeral n) after is = plain (omega arith)
unary_is names (Character v) after is = plain (omega arith)
unary_is names (Literal b) after is = plain (omega arith)
unary_is names (Enclosed i) after is = plain (omega arith)
unary_is names (Index a n) after is = plain (omega arith)
unary_is names (Call f es) after is = plain (omega arith)
unary_is names (Member o n) after is = plain (omega arith)
unary_is names (Arrow o n) after is = plain (omega arith)
unary_is names (StepAfter s o) after is = plain (omega arith)
unary_is names (Cast ws ps bs o) after is = absurd (omega (arith, is.0))
unary_is names (Infix op l r) after is = absurd (omega (arith, is.0, (infix_levels op).1))
unary_is names (Choice t o e) after is = absurd (omega (arith, is.0))
unary_is names (Assign op l r) after is = absurd (omega (arith, is.0))
unary_is names (Comma l r) after is = absurd (omega (arith, is.0))

-- a phrase of the level of casts is a cast, or a unary expression
pub data IsCast (names : Names) (e : Written) (after tokens : Kinds) : Type 0 where
  tighter : 14 ≤ level_of e → IsCast names e after tokens
  converted : (parts : TypeParts) (operand : Written) → e ≡ Cast parts.words parts.pointers parts.bounds operand → IsTypeOf names parts
      → IsPhrase names 13 operand → tokens ≡ open_parenthesis ∷ type_closed_text parts (text operand after) → IsCast names e after tokens

pub cast_is : (names : Names) (e : Written) (after : Kinds) → IsPhrase names 13 e → IsCast names e after (text e after)
cast_is names (Cast ws ps bs o) after is =
    converted (record { words = ws; pointers = ps; bounds = bs }) o refl (record { words = is.1.0; pointers = is.1.1; bounds = is.1.2 }) (is.1.3, is.1.4) refl
cast_is names (StepBefore s o) after is = tighter (omega arith)
cast_is names (Prefix op o) after is = tighter (omega arith)
cast_is names (SizeOf o) after is = tighter (omega arith)
cast_is names (SizeOfType ws ps bs) after is = tighter (omega arith)
cast_is names (Named name) after is = tighter (omega arith)
cast_is names (Numeral n) after is = tighter (omega arith)
cast_is names (Character v) after is = tighter (omega arith)
cast_is names (Literal b) after is = tighter (omega arith)
cast_is names (Enclosed i) after is = tighter (omega arith)
cast_is names (Index a n) after is = tighter (omega arith)
cast_is names (Call f es) after is = tighter (omega arith)
cast_is names (Member o n) after is = tighter (omega arith)
cast_is names (Arrow o n) after is = tighter (omega arith)
cast_is names (StepAfter s o) after is = tighter (omega arith)
cast_is names (Infix op l r) after is = absurd (omega (arith, is.0, (infix_levels op).1))
cast_is names (Choice t o e) after is = absurd (omega (arith, is.0))
cast_is names (Assign op l r) after is = absurd (omega (arith, is.0))
cast_is names (Comma l r) after is = absurd (omega (arith, is.0))

-- the first of tokens that begin with such a token passes the test
pub passes_first : (test : TokenKind → Bool) (tokens : Kinds) (first : TokenKind) (others : Kinds) → BeginsWith test tokens → tokens ≡ first ∷ others
    → test first ≡ true
passes_first test tokens first others b same = let s : b.first ∷ b.others ≡ first ∷ others = sym b.are ∙ same in let e : first ≡ b.first = cc in
    ap test e ∙ b.passes

pub types_law : (names : Names) → Lawful (Types names)
types_law names = λ parts x y. type_append parts.words parts.pointers parts.bounds (close_parenthesis ∷ x) y

pub type_text_begins : (names : Names) (parts : TypeParts) (after : Kinds) → IsTypeOf names parts
    → BeginsWith (begins_type names) (type_closed_text parts after)
type_text_begins names parts after is = type_begins names parts.words (type_text [] parts.pointers parts.bounds (close_parenthesis ∷ after)) is.words

-- tokens that begin a type begin no expression
pub type_no_expression : (names : Names) (tokens : Kinds) → BeginsWith (begins_type names) tokens → BeginsWith (begins_expression names) tokens → ⊥
type_no_expression names tokens t e = begins_one names t.first (passes_first (begins_expression names) tokens t.first t.others e t.are) t.passes

-- no unary expression begins with a type between parentheses
pub no_type_inner : (names : Names) (e : Written) (after rest : Kinds) (parts : TypeParts) → IsPhrase names 14 e → IsTypeOf names parts
    → text e after ≡ open_parenthesis ∷ type_closed_text parts rest → ⊥
no_type_inner names e after rest parts is ty same =
    let i = unary_inner names e after (type_closed_text parts rest) is same in
    type_no_expression names (type_closed_text parts rest) (type_text_begins names parts rest ty)
    (subst (BeginsWith (begins_expression names)) (sym i.are) (expression_begins names i.inner (close_parenthesis ∷ i.rest) i.is_well))

punctuator_gap : (m : Punctuator) → punctuator_join m ≤ 15 → punctuator_join m ≤ 13
punctuator_gap punctuator.OpenBracket h = absurd (omega (arith, h))
punctuator_gap punctuator.OpenParenthesis h = absurd (omega (arith, h))
punctuator_gap punctuator.Dot h = absurd (omega (arith, h))
punctuator_gap punctuator.Arrow h = absurd (omega (arith, h))
punctuator_gap punctuator.Increment h = absurd (omega (arith, h))
punctuator_gap punctuator.Decrement h = absurd (omega (arith, h))
punctuator_gap _ h = omega arith

-- no token continues a cast or a unary expression
pub join_gap : (tokens : Kinds) → join_of tokens ≤ 15 → join_of tokens ≤ 13
join_gap [] h = omega arith
join_gap (token.Punctuator m ∷ others) h = punctuator_gap m h
join_gap (token.Keyword k ∷ others) h = omega arith
join_gap (token.Unsupported k ∷ others) h = omega arith
join_gap (token.Attribute ∷ others) h = omega arith
join_gap (token.Name k ∷ others) h = omega arith
join_gap (token.Number k ∷ others) h = omega arith
join_gap (token.Character k ∷ others) h = omega arith
join_gap (token.Text k ∷ others) h = omega arith

-- no type between parentheses follows `sizeof`
abbrev pub NoType : Names → Before → Kinds → Type 0
NoType names b following = b ≡ before.Size → (parts : TypeParts) (rest : Kinds) → IsTypeOf names parts
    → following ≡ open_parenthesis ∷ type_closed_text parts rest → ⊥

prefixed_text : (b : Before) (e : Written) (after : Kinds) → text (prefixed_tree b e) after ≡ before_text b ∷ text e after
prefixed_text (before.Step by) e after = refl
prefixed_text (before.Operator op) e after = refl
prefixed_text before.Size e after = refl

pub prefixed_height : (b : Before) (e : Written) → height (prefixed_tree b e) ≡ 1 + height e
prefixed_height (before.Step by) e = refl
prefixed_height (before.Operator op) e = refl
prefixed_height before.Size e = refl

prefixed_phrase : (names : Names) (b : Before) (e : Written) → IsPhrase names (operand_level b) e → IsPhrase names 14 (prefixed_tree b e)
prefixed_phrase names (before.Step by) e is = (omega arith, (is.0, is.1))
prefixed_phrase names (before.Operator op) e is = (omega arith, (is.0, is.1))
prefixed_phrase names before.Size e is = (omega arith, (is.0, is.1))

operand_shut : (b : Before) (after : Kinds) → join_of after ≤ 14 → join_of after ≤ operand_level b
operand_shut (before.Step by) after h = h
operand_shut (before.Operator op) after h = join_gap after (omega arith)
operand_shut before.Size after h = h

zero_phrase : (names : Names) (b : Before) → IsPhrase names (operand_level b) zero
zero_phrase names (before.Step by) = (omega arith, tt)
zero_phrase names (before.Operator op) = (omega arith, tt)
zero_phrase names before.Size = (omega arith, tt)

-- an operand after a prefix
pub before_tail : (names : Names) (limit : ℕ) (b : Before) → 2 ≤ limit
    → Tail (Expressions names 14) (Expressions names (operand_level b)) limit (limit - 1) (before_text b ∷ []) (prefixed_tree b) (NoType names b)
before_tail names limit b least = record {
  started =
      let h = prefixed_height b zero in
      inr (record {
        phrase = prefixed_tree b zero;
        more = text zero [];
        is_phrase = prefixed_phrase names b zero (zero_phrase names b);
        low = omega arith;
        spelled = prefixed_text b zero [];
      });
  invert = λ whole after following is shut fit same.
      elim (unary_is names whole after is) [
        | plain l ↦
            absurd (both_ways (begins_primary names (before_text b)) (before_not_primary names b)
            (passes_first (begins_primary names) (text whole after) (before_text b) following (postfix_begins names whole after (l, is.1)) same))
        | prefixed b' o w i t ↦
            let s : before_text b' ∷ text o after ≡ before_text b ∷ following = sym t ∙ same in
            let k : b' ≡ b = before_same b' b cc in
            (o, w ∙ ap (λ (x : Before). prefixed_tree x o) k, subst (λ (x : Before). IsPhrase names (operand_level x) o) k i, cc)
        | measured parts w ty t ↦
            let s : before_text before.Size ∷ open_parenthesis ∷ type_closed_text parts after ≡ before_text b ∷ following = sym t ∙ same in
            absurd (fit (sym (before_same before.Size b cc)) parts after ty cc)
      ];
  shut = λ part after shut. operand_shut b after shut;
  spelled = λ part after. prefixed_text b part after;
  is_phrase = λ part is. prefixed_phrase names b part is;
  low = λ part is le. let h = prefixed_height b part in omega arith;
  rises = λ part high. let h = prefixed_height b part in omega arith;
}

no_tokens : (names : Names) (e : Written) (after : Kinds) → IsPhrase names 14 e → text e after ≡ [] → ⊥
no_tokens names e after is same = let b = expression_begins names e after is.1 in let s = sym b.are ∙ same in cc

-- what follows `sizeof` is a unary expression, or a type
pub size_is : (names : Names) (e : Written) (after following : Kinds) → IsPhrase names 14 e → text e after ≡ token.Keyword keyword.Sizeof ∷ following
    → ((x : Written) × (e ≡ SizeOf x) × IsPhrase names 14 x × (following ≡ text x after))
    ⊎ ((parts : TypeParts) × (e ≡ SizeOfType parts.words parts.pointers parts.bounds) × IsTypeOf names parts
    × (following ≡ open_parenthesis ∷ type_closed_text parts after))
size_is names e after following is same =
    elim (unary_is names e after is) [
      | plain l ↦
          absurd (both_ways (begins_primary names (before_text before.Size)) (before_not_primary names before.Size)
          (passes_first (begins_primary names) (text e after) (before_text before.Size) following (postfix_begins names e after (l, is.1)) same))
      | prefixed b o w i t ↦
          let s : before_text b ∷ text o after ≡ before_text before.Size ∷ following = sym t ∙ same in
          let k : b ≡ before.Size = before_same b before.Size cc in
          inl (o, w ∙ ap (λ (x : Before). prefixed_tree x o) k, subst (λ (x : Before). IsPhrase names (operand_level x) o) k i, cc)
      | measured parts w ty t ↦ let s = sym t ∙ same in inr (parts, w, ty, cc)
    ]

-- a prefix, and the limit doesn't allow its operand
pub before_full : (names : Names) (limit : ℕ) (b : Before) → limit < 2 → Refused (Expressions names 14) limit [] (before_text b) true
before_full names limit b full = record {
  begun = inl refl;
  never = λ other after following is shut near same.
      elim near [
        | inl none ↦ absurd (no_tokens names other after is (same ∙ none))
        | inr m ↦
            elim (unary_is names other after is) [
              | plain l ↦
                  absurd (both_ways (begins_primary names (before_text b)) (before_not_primary names b)
                  (passes_first (begins_primary names) (text other after) (before_text b) m.0 (postfix_begins names other after (l, is.1)) (same ∙ m.1)))
              | prefixed b' o w i t ↦
                  let h = prefixed_height b' o in
                  let g = height_some o in
                  record {
                    reported = refl;
                    high = subst (λ (x : Written). limit < height x) (sym w) (omega arith);
                    onward = λ none. let z = sym m.1 ∙ none in cc;
                  }
              | measured parts w ty t ↦ record {
                reported = refl;
                high = subst (λ (x : Written). limit < height x) (sym w) (omega arith);
                onward = λ none. let z = sym m.1 ∙ none in cc;
              }
            ]
      ];
  further = λ reported. record {
    phrase = prefixed_tree b zero;
    more = text zero [];
    is_phrase = prefixed_phrase names b zero (zero_phrase names b);
    spelled = prefixed_text b zero [];
  };
}

-- what was taken without a prefix is taken on the level of unary expressions too
pub unary_passes : (names : Names) (limit : ℕ) (e : Written) (next : TokenKind) (deep : Bool) → Took (Expressions names 15) limit e next deep
    → Took (Expressions names 14) limit e next deep
unary_passes names limit e next deep t =
    pass_took names 14 15 limit e next deep (omega arith) t
    (λ other after following is loose shut near same.
    absurd (elim (unary_is names other after is) [
      | plain l ↦ omega arith
      | prefixed b o w i s ↦ both_ways (begins_primary names (before_text b)) (before_not_primary names b)
          (passes_first (begins_primary names) (text e following) (before_text b) (text o after) (postfix_begins names e following t.is_phrase) (sym same
          ∙ s))
      | measured parts w ty s ↦ both_ways (begins_primary names (before_text before.Size)) (before_not_primary names before.Size)
          (passes_first (begins_primary names) (text e following) (before_text before.Size) (open_parenthesis ∷ type_closed_text parts after)
          (postfix_begins names e following t.is_phrase) (sym same ∙ s))
    ]))

-- the tokens of a refused postfix expression don't begin with a prefix
not_before : (names : Names) (limit : ℕ) (front : Kinds) (next : TokenKind) (deep : Bool) (b : Before) (others following : Kinds)
    → Refused (Expressions names 15) limit front next deep → (front ≡ [] → next ≡ before_text b → ⊥) → Near next following
    → before_text b ∷ others ≡ front ++ following → ⊥
not_before names limit [] next deep b others following r none near same =
    elim near [
      | inl e ↦ let s = same ∙ e in cc
      | inr m ↦ let s = same ∙ m.1 in none refl cc
    ]
not_before names limit (f ∷ fs) next deep b others following r none near same =
    elim r.begun [
      | inl e ↦ cc
      | inr l ↦
          let p = passes_first (begins_primary names) (text l.phrase []) f (fs ++ l.more) (postfix_begins names l.phrase [] l.is_phrase) l.spelled in
          let e : before_text b ≡ f = cc in
          both_ways (begins_primary names (before_text b)) (before_not_primary names b) (ap (begins_primary names) e ∙ p)
    ]

pub unary_passes_refused : (names : Names) (limit : ℕ) (front : Kinds) (next : TokenKind) (deep : Bool)
    → ((b : Before) → front ≡ [] → next ≡ before_text b → ⊥) → Refused (Expressions names 15) limit front next deep
    → Refused (Expressions names 14) limit front next deep
unary_passes_refused names limit front next deep none r =
    pass_refused names 14 15 limit front next deep (omega arith) r
    (λ other after following is loose shut near same.
    absurd (elim (unary_is names other after is) [
      | plain l ↦ omega arith
      | prefixed b o w i s ↦ not_before names limit front next deep b (text o after) following r (none b) near (sym s ∙ same)
      | measured parts w ty s ↦ not_before names limit front next deep before.Size (open_parenthesis ∷ type_closed_text parts after) following r
          (none before.Size) near (sym s ∙ same)
    ]))

-- the tokens of a refused unary expression begin no type between parentheses, unless the limit doesn't allow one
pub not_type : (names : Names) (limit : ℕ) (front : Kinds) (next : TokenKind) (deep : Bool) (parts : TypeParts) (rest following : Kinds)
    → Refused (Expressions names 14) limit front next deep → (front ≡ open_parenthesis ∷ [] → begins_type names next ≡ false)
    → IsTypeOf names parts → Near next following → open_parenthesis ∷ type_closed_text parts rest ≡ front ++ following
    → (front ≡ []) × (next ≡ open_parenthesis)
not_type names limit [] next deep parts rest following r none ty near same =
    elim near [
      | inl e ↦ absurd (let s = same ∙ e in cc)
      | inr m ↦ let s = same ∙ m.1 in (refl, cc)
    ]
not_type names limit (f ∷ []) next deep parts rest following r none ty near same =
    let b = type_text_begins names parts rest ty in
    let e : open_parenthesis ≡ f = cc in
    let t : type_closed_text parts rest ≡ following = cc in
    absurd (elim near [
      | inl n ↦ let s = sym b.are ∙ t ∙ n in cc
      | inr m ↦
          let s : b.first ∷ b.others ≡ next ∷ m.0 = sym b.are ∙ t ∙ m.1 in
          let k : next ≡ b.first = cc in
          both_ways (begins_type names next) (none (ap (λ (x : TokenKind). x ∷ []) (sym e))) (ap (begins_type names) k ∙ b.passes)
    ])
not_type names limit (f ∷ g ∷ fs) next deep parts rest following r none ty near same =
    let b = type_text_begins names parts rest ty in
    let e : open_parenthesis ≡ f = cc in
    let t : type_closed_text parts rest ≡ (g ∷ fs) ++ following = cc in
    absurd (elim r.begun [
      | inl n ↦ cc
      | inr l ↦
          let i = unary_inner names l.phrase [] ((g ∷ fs) ++ l.more) l.is_phrase (l.spelled
          ∙ ap (λ (x : TokenKind). x ∷ ((g ∷ fs) ++ l.more)) (sym e)) in
          let w = expression_begins names i.inner (close_parenthesis ∷ i.rest) i.is_well in
          let p = passes_first (begins_expression names) (text i.inner (close_parenthesis ∷ i.rest)) g (fs ++ l.more) w (sym i.are) in
          let s : b.first ∷ b.others ≡ g ∷ (fs ++ following) = sym b.are ∙ t in
          let k : g ≡ b.first = cc in
          begins_one names g p (ap (begins_type names) k ∙ b.passes)
    ])

-- what was taken without a type between parentheses before it is taken on the level of casts too
pub cast_passes : (names : Names) (limit : ℕ) (e : Written) (next : TokenKind) (deep : Bool) → Took (Expressions names 14) limit e next deep
    → Took (Expressions names 13) limit e next deep
cast_passes names limit e next deep t =
    pass_took names 13 14 limit e next deep (omega arith) t
    (λ other after following is loose shut near same.
    absurd (elim (cast_is names other after is) [
      | tighter l ↦ omega arith
      | converted parts o w ty i s ↦ no_type_inner names e following (text o after) parts t.is_phrase ty (sym same ∙ s)
    ]))

pub cast_passes_refused : (names : Names) (limit : ℕ) (front : Kinds) (next : TokenKind) (deep : Bool)
    → (front ≡ open_parenthesis ∷ [] → begins_type names next ≡ false) → Refused (Expressions names 14) limit front next deep
    → Refused (Expressions names 13) limit front next deep
cast_passes_refused names limit front next deep none r =
    pass_refused names 13 14 limit front next deep (omega arith) r
    (λ other after following is loose shut near same.
    elim (cast_is names other after is) [
      | tighter l ↦ absurd (omega arith)
      | converted parts o w ty i s ↦
          let n = not_type names limit front next deep parts (text o after) following r none ty near (sym s ∙ same) in
          let v = r.never (Enclosed zero) [] (open_parenthesis ∷ text zero (close_parenthesis ∷ [])) (omega arith, tt) (omega arith)
          (inr (text zero (close_parenthesis ∷ []), ap (λ (x : TokenKind). x ∷ text zero (close_parenthesis ∷ [])) (sym n.1)))
          (ap (λ (x : Kinds). x ++ (open_parenthesis ∷ text zero (close_parenthesis ∷ []))) (sym n.0)) in
          let full : limit < 2 = v.high in
          let h = height_some o in
          record {
            reported = v.reported;
            high = subst (λ (x : Written). limit < height x) (sym w) (omega arith);
            onward = λ none'. let z = sym s ∙ same ∙ ap (λ (x : Kinds). x ++ following) n.0 ∙ none' in cc;
          }
    ])
