-- Expressions of a level among those of a looser one: for the contracts of the parser of expressions, level by level.
use Rattle.std.proofs.Common.{◌≡◌, ℕ, suc, ◌<◌, ◌≤◌, inl, inr, Bool, true, [], ◌∷◌, ◌++◌, refl, arith}
use Rattle.std.proofs.lemmas.Bool.{cases_lt}
use Rattle.cs_ast.specs.declared.token.TokenKind.{TokenKind}
use Rattle.cs_ast.specs.declared.raw.operator.Step.{Step}
use Rattle.cs_ast.specs.declared.raw.operator.Step.TheVariants.{Up, Down}
use Rattle.cs_ast.specs.declared.raw.operator.InfixOp.{InfixOp}
use Rattle.cs_ast.specs.declared.raw.operator.InfixOp.TheVariants as between
use Rattle.cs_ast.specs.declared.raw.operator.AssignOp.{AssignOp}
use Rattle.cs_ast.specs.declared.raw.operator.AssignOp.TheVariants as assign
use Rattle.cs_ast.specs.RawTree.{Written}
use Rattle.cs_ast.specs.RawHeight.{height}
use Rattle.cs_grammar.specs.TypeWords.{Names}
use Rattle.cs_grammar.specs.Levels.{level_of, infix_level}
use Rattle.cs_grammar.specs.Punctuators.{step_punctuator, infix_punctuator, assign_punctuator}
use Rattle.cs_grammar.specs.Text.{Kinds, text}
use Rattle.cs_grammar.specs.Phrases.{IsPhrase}
use Rattle.cs_grammar.specs.Continuing.{join, punctuator_join, join_of}
use Rattle.cs_grammar.specs.Parsing.{Expressions, Near, IsOver, Begins, Took, Refused}
use Rattle.cs_grammar.proofs.Texts.{text_append}
use Rattle.cs_grammar.proofs.Holes.{Lawful}

pub text_law : (names : Names) (level : ℕ) → Lawful (Expressions names level)
text_law names level = text_append

pub infix_join : (op : InfixOp) → punctuator_join (infix_punctuator op) ≡ suc (infix_level op)
infix_join between.Or = refl
infix_join between.And = refl
infix_join between.BitOr = refl
infix_join between.BitXor = refl
infix_join between.BitAnd = refl
infix_join between.Equal = refl
infix_join between.Differs = refl
infix_join between.Less = refl
infix_join between.AtMost = refl
infix_join between.More = refl
infix_join between.AtLeast = refl
infix_join between.ShiftLeft = refl
infix_join between.ShiftRight = refl
infix_join between.Add = refl
infix_join between.Subtract = refl
infix_join between.Multiply = refl
infix_join between.Divide = refl
infix_join between.Remainder = refl

pub infix_levels : (op : InfixOp) → (3 ≤ infix_level op) × (infix_level op ≤ 12)
infix_levels between.Or = (omega arith, omega arith)
infix_levels between.And = (omega arith, omega arith)
infix_levels between.BitOr = (omega arith, omega arith)
infix_levels between.BitXor = (omega arith, omega arith)
infix_levels between.BitAnd = (omega arith, omega arith)
infix_levels between.Equal = (omega arith, omega arith)
infix_levels between.Differs = (omega arith, omega arith)
infix_levels between.Less = (omega arith, omega arith)
infix_levels between.AtMost = (omega arith, omega arith)
infix_levels between.More = (omega arith, omega arith)
infix_levels between.AtLeast = (omega arith, omega arith)
infix_levels between.ShiftLeft = (omega arith, omega arith)
infix_levels between.ShiftRight = (omega arith, omega arith)
infix_levels between.Add = (omega arith, omega arith)
infix_levels between.Subtract = (omega arith, omega arith)
infix_levels between.Multiply = (omega arith, omega arith)
infix_levels between.Divide = (omega arith, omega arith)
infix_levels between.Remainder = (omega arith, omega arith)

pub assign_join : (op : AssignOp) → punctuator_join (assign_punctuator op) ≡ 2
assign_join assign.Plain = refl
assign_join assign.Multiply = refl
assign_join assign.Divide = refl
assign_join assign.Remainder = refl
assign_join assign.Add = refl
assign_join assign.Subtract = refl
assign_join assign.ShiftLeft = refl
assign_join assign.ShiftRight = refl
assign_join assign.BitAnd = refl
assign_join assign.BitXor = refl
assign_join assign.BitOr = refl

pub step_join : (step : Step) → punctuator_join (step_punctuator step) ≡ 16
step_join Up = refl
step_join Down = refl

-- a phrase of a tighter level is one of a looser level
pub looser : (names : Names) (level tight : ℕ) (e : Written) → level ≤ tight → IsPhrase names tight e → IsPhrase names level e
looser names level tight e less is = (omega (arith, is.0), is.1)

over_level : (names : Names) (level tight limit : ℕ) (deep : Bool) (e : Written) (following : Kinds)
    → IsOver (Expressions names tight) limit deep e following → IsOver (Expressions names level) limit deep e following
over_level names level tight limit deep e following over = record { reported = over.reported; high = over.high; onward = over.onward }

begins_level : (names : Names) (level tight : ℕ) (front : Kinds) → level ≤ tight → Begins (Expressions names tight) front
    → Begins (Expressions names level) front
begins_level names level tight front less b = record {
  phrase = b.phrase;
  more = b.more;
  is_phrase = looser names level tight b.phrase less b.is_phrase;
  spelled = b.spelled;
}

-- what was taken on a tighter level is taken on a looser one too, if nothing looser has this beginning
pub pass_took : (names : Names) (level tight limit : ℕ) (e : Written) (next : TokenKind) (deep : Bool) → level ≤ tight
    → Took (Expressions names tight) limit e next deep
    → ((other : Written) (after following : Kinds) → IsPhrase names level other → level_of other < tight → join_of after ≤ level
    → Near next following → text other after ≡ text e following → IsOver (Expressions names level) limit deep other following)
    → Took (Expressions names level) limit e next deep
pass_took names level tight limit e next deep less t none = record {
  is_phrase = looser names level tight e less t.is_phrase;
  low = t.low;
  only = λ other after following is shut near same.
      elim (cases_lt (level_of other) tight) [
        | inl loose ↦ inr (none other after following is loose shut near same)
        | inr bound ↦
            elim (t.only other after following (bound, is.1) (omega arith) near same) [
              | inl e ↦ inl e
              | inr over ↦ inr (over_level names level tight limit deep other following over)
            ]
      ];
  further = λ reported. begins_level names level tight (text e (next ∷ [])) less (t.further reported);
  joined = λ reported more shut. t.joined reported more (omega arith);
}

pub pass_refused : (names : Names) (level tight limit : ℕ) (front : Kinds) (next : TokenKind) (deep : Bool) → level ≤ tight
    → Refused (Expressions names tight) limit front next deep
    → ((other : Written) (after following : Kinds) → IsPhrase names level other → level_of other < tight → join_of after ≤ level
    → Near next following → text other after ≡ front ++ following → IsOver (Expressions names level) limit deep other following)
    → Refused (Expressions names level) limit front next deep
pass_refused names level tight limit front next deep less r none = record {
  begun = elim r.begun [
    | inl empty ↦ inl empty
    | inr b ↦ inr (record {
      phrase = b.phrase;
      more = b.more;
      is_phrase = looser names level tight b.phrase less b.is_phrase;
      low = b.low;
      spelled = b.spelled;
    })
  ];
  never = λ other after following is shut near same.
      elim (cases_lt (level_of other) tight) [
        | inl loose ↦ none other after following is loose shut near same
        | inr bound ↦ over_level names level tight limit deep other following (r.never other after following (bound, is.1) (omega arith) near same)
      ];
  further = λ reported. begins_level names level tight (front ++ next ∷ []) less (r.further reported);
}

-- what was taken on a tighter level is taken on a looser one, if the looser phrases with this beginning are too high
pub deepen : (names : Names) (level tight limit : ℕ) (e : Written) (next : TokenKind) (deep : Bool) → level ≤ tight
    → Took (Expressions names tight) limit e next deep → ((more : Kinds) → join_of (next ∷ more) ≤ tight) → level < join next
    → ((other : Written) (after following : Kinds) → IsPhrase names level other → level_of other < tight → join_of after ≤ level
    → Near next following → text other after ≡ text e following → (limit < height other) × (following ≡ [] → ⊥))
    → Begins (Expressions names level) (text e (next ∷ [])) → Took (Expressions names level) limit e next true
deepen names level tight limit e next deep less t shut joins high further = record {
  is_phrase = looser names level tight e less t.is_phrase;
  low = t.low;
  only = λ other after following is closed near same.
      elim (cases_lt (level_of other) tight) [
        | inl loose ↦
            let h = high other after following is loose closed near same in
            inr (record { reported = refl; high = h.0; onward = h.1 })
        | inr bound ↦
            elim (t.only other after following (bound, is.1) (omega arith) near same) [
              | inl e ↦ inl e
              | inr over ↦ absurd (t.joined over.reported [] (shut []))
            ]
      ];
  further = λ reported. further;
  joined = λ reported more closed. omega arith;
}
