-- The reasons of refusals, after the tokens so far: for what the parts of the parser report.
use Rattle.std.proofs.Common.{◌≡◌, ℕ, ◌+◌, ◌≤◌, ◌⊎◌, inl, inr, Bool, true, false, ◌&&◌, ◌||◌, if◌then◌else◌, List, []}
use Rattle.std.proofs.Common.{◌∷◌, ◌++◌, length, drop, refl, sym, ap, ◌∙◌, subst, arith, append_assoc, append-nil}
use Rattle.std.proofs.lemmas.Bool.{false≢true}
use Rattle.cs_ast.specs.declared.token.Token.{Token}
use Rattle.cs_ast.specs.declared.token.TokenKind.{TokenKind}
use Rattle.cs_ast.specs.declared.token.TokenKind.TheVariants as token
use Rattle.cs_ast.specs.declared.token.Keyword.TheVariants as keyword
use Rattle.cs_ast.specs.declared.token.Punctuator.{Punctuator}
use Rattle.cs_ast.specs.declared.token.Punctuator.TheVariants as punctuator
use Rattle.cs_ast.specs.declared.raw.written_type.TypeWord.{TypeWord}
use Rattle.cs_ast.specs.declared.raw.written_type.PointerWord.{PointerWord}
use Rattle.cs_ast.specs.RawTree.{Written, WrittenList, Named, Numeral, Character, Literal, Enclosed, Index, Call, Member, Arrow, StepAfter, StepBefore, Prefix}
use Rattle.cs_ast.specs.RawTree.{SizeOf, SizeOfType, Cast, Infix, Choice, Assign, Comma, End, More}
use Rattle.cs_grammar.specs.declared.refusal.Reason.{Reason}
use Rattle.cs_grammar.specs.declared.refusal.Reason.TheVariants.{Syntax, Unsupported, TooDeep}
use Rattle.cs_grammar.specs.TypeWords.{Names, is_type, is_pointer}
use Rattle.cs_grammar.specs.Punctuators.{step_punctuator, prefix_punctuator, infix_punctuator, assign_punctuator}
use Rattle.cs_grammar.specs.Text.{Kinds, text, type_text, bounds_text}
use Rattle.cs_grammar.specs.Phrases.{IsWell, ArePhrases}
use Rattle.cs_grammar.specs.Refusals.{IsUnsupported, EndsWithTag, EndsWithType, struct_after, enum_after, struct_tag_after, enum_tag_after}
use Rattle.cs_grammar.proofs.Texts.{text_append, type_append}
use Rattle.cs_expr_parser.specs.Positions.{kinds, kind_or_end, is_unsupported, is_brace}
use Rattle.cs_expr_parser.specs.Reasons.{plain_reason, reason_of, ends_in_type}
use Rattle.cs_expr_parser.specs.Parts.{Spells}
use Rattle.cs_expr_parser.specs.LastTokens.{Last, AnyToken, TagWord, TypeEnd, begin_type, named, opened_by, last_by, last_of, IsPlainEnd, YieldsUnsupported}
use Rattle.cs_expr_parser.specs.LastTokens.{IsReported}
use Rattle.cs_expr_parser.specs.declared.stop.Stop.{Stop}
use Rattle.cs_expr_parser.specs.declared.stop.Stop.TheVariants as stop
use Rattle.cs_expr_parser.proofs.Standing.{spells_more}
use Rattle.cs_expr_parser.proofs.Stopping.{refused_here}
use Rattle.cs_expr_parser.proofs.LastTokens.{ending, text_last, type_last}

abbrev open_parenthesis : TokenKind
open_parenthesis = token.Punctuator punctuator.OpenParenthesis

abbrev close_parenthesis : TokenKind
close_parenthesis = token.Punctuator punctuator.CloseParenthesis

struct_ends : (names : Names) (before : Kinds) (opened : List Bool) (last : Last)
    → last_of names opened last (before ++ token.Keyword keyword.Struct ∷ []) ≡ AnyToken → ⊥
struct_ends names [] opened last e = cc
struct_ends names (b ∷ bs) opened last e =
    struct_ends names bs (opened_by names opened b (bs ++ token.Keyword keyword.Struct ∷ [])) (last_by opened last b) e

enum_ends : (names : Names) (before : Kinds) (opened : List Bool) (last : Last)
    → last_of names opened last (before ++ token.Keyword keyword.Enum ∷ []) ≡ AnyToken → ⊥
enum_ends names [] opened last e = cc
enum_ends names (b ∷ bs) opened last e = enum_ends names bs (opened_by names opened b (bs ++ token.Keyword keyword.Enum ∷ [])) (last_by opened last b) e

struct_tag_ends : (names : Names) (before : Kinds) (tag : List ℕ) (opened : List Bool) (last : Last)
    → last_of names opened last (before ++ token.Keyword keyword.Struct ∷ token.Name tag ∷ []) ≡ AnyToken → ⊥
struct_tag_ends names [] tag opened last e = cc
struct_tag_ends names (b ∷ bs) tag opened last e =
    struct_tag_ends names bs tag (opened_by names opened b (bs ++ token.Keyword keyword.Struct ∷ token.Name tag ∷ [])) (last_by opened last b) e

enum_tag_ends : (names : Names) (before : Kinds) (tag : List ℕ) (opened : List Bool) (last : Last)
    → last_of names opened last (before ++ token.Keyword keyword.Enum ∷ token.Name tag ∷ []) ≡ AnyToken → ⊥
enum_tag_ends names [] tag opened last e = cc
enum_tag_ends names (b ∷ bs) tag opened last e =
    enum_tag_ends names bs tag (opened_by names opened b (bs ++ token.Keyword keyword.Enum ∷ token.Name tag ∷ [])) (last_by opened last b) e

tag_ends : (names : Names) (front : Kinds) → EndsWithTag front → (opened : List Bool) (last : Last) → last_of names opened last front ≡ AnyToken → ⊥
tag_ends names _ (struct_after before) opened last e = struct_ends names before opened last e
tag_ends names _ (enum_after before) opened last e = enum_ends names before opened last e
tag_ends names _ (struct_tag_after before tag) opened last e = struct_tag_ends names before tag opened last e
tag_ends names _ (enum_tag_after before tag) opened last e = enum_tag_ends names before tag opened last e

closed_type_ends : (names : Names) (before : Kinds) (ws : List TypeWord) (ps : List PointerWord) (bs : WrittenList) → is_type names ws ≡ true
    → ArePhrases names 2 bs → (opened : List Bool) (last : Last)
    → last_of names opened last (before ++ open_parenthesis ∷ type_text ws ps bs (close_parenthesis ∷ [])) ≡ AnyToken → ⊥
closed_type_ends names [] ws ps bs is are opened last e = let z : TypeEnd ≡ AnyToken = sym (type_last names ws ps bs opened [] is are) ∙ e in cc
closed_type_ends names (b ∷ before) ws ps bs is are opened last e =
    closed_type_ends names before ws ps bs is are (opened_by names opened b (before ++ open_parenthesis ∷ type_text ws ps bs (close_parenthesis ∷ [])))
    (last_by opened last b) e

type_ends : (names : Names) (front : Kinds) → EndsWithType names front → (opened : List Bool) (last : Last) → last_of names opened last front ≡ AnyToken
    → ⊥
type_ends names front t opened last e =
    closed_type_ends names t.before t.words t.pointers t.bounds t.type t.phrases opened last (ap (last_of names opened last) (sym t.spelled) ∙ e)

-- a token that is refused as a syntax error isn't unsupported
pub plain_not_unsupported : (names : Names) (front : Kinds) (next : TokenKind) → is_unsupported next ≡ false
    → (is_brace next ≡ true → IsPlainEnd names front) → IsUnsupported names front next → ⊥
plain_not_unsupported names front (token.Unsupported w) l p o = absurd cc
plain_not_unsupported names front (token.Punctuator punctuator.Ellipsis) l p o = absurd cc
plain_not_unsupported names front (token.Punctuator punctuator.OpenBrace) l p (inl t) = tag_ends names front t [] AnyToken (p refl [])
plain_not_unsupported names front (token.Punctuator punctuator.OpenBrace) l p (inr t) = type_ends names front t [] AnyToken (p refl [])
plain_not_unsupported names front (token.Punctuator _) l p o = o
plain_not_unsupported names front (token.Keyword keyword.Static) l p o = absurd cc
plain_not_unsupported names front (token.Keyword keyword.Typedef) l p o = absurd cc
plain_not_unsupported names front (token.Keyword _) l p o = o
plain_not_unsupported names front token.Attribute l p o = o
plain_not_unsupported names front (token.Name n) l p o = o
plain_not_unsupported names front (token.Number n) l p o = o
plain_not_unsupported names front (token.Character n) l p o = o
plain_not_unsupported names front (token.Text n) l p o = o

pub tag_after : (before front : Kinds) → EndsWithTag front → EndsWithTag (before ++ front)
tag_after before _ (struct_after b) = subst EndsWithTag (append_assoc before b (token.Keyword keyword.Struct ∷ [])) (struct_after (before ++ b))
tag_after before _ (enum_after b) = subst EndsWithTag (append_assoc before b (token.Keyword keyword.Enum ∷ [])) (enum_after (before ++ b))
tag_after before _ (struct_tag_after b tag) =
    subst EndsWithTag (append_assoc before b (token.Keyword keyword.Struct ∷ token.Name tag ∷ [])) (struct_tag_after (before ++ b) tag)
tag_after before _ (enum_tag_after b tag) =
    subst EndsWithTag (append_assoc before b (token.Keyword keyword.Enum ∷ token.Name tag ∷ [])) (enum_tag_after (before ++ b) tag)

type_after : (names : Names) (before front : Kinds) → EndsWithType names front → EndsWithType names (before ++ front)
type_after names before front t = record {
  before = before ++ t.before;
  words = t.words;
  pointers = t.pointers;
  bounds = t.bounds;
  type = t.type;
  pointer = t.pointer;
  phrases = t.phrases;
  spelled = ap (λ (x : Kinds). before ++ x) t.spelled
      ∙ sym (append_assoc before t.before (open_parenthesis ∷ type_text t.words t.pointers t.bounds (close_parenthesis ∷ [])));
}

-- what is unsupported after some tokens is unsupported if others precede them, too
unsupported_after : (names : Names) (before front : Kinds) (next : TokenKind) → IsUnsupported names front next → IsUnsupported names (before ++ front) next
unsupported_after names before front (token.Unsupported w) o = tt
unsupported_after names before front (token.Punctuator punctuator.Ellipsis) o = tt
unsupported_after names before front (token.Punctuator punctuator.OpenBrace) (inl t) = inl (tag_after before front t)
unsupported_after names before front (token.Punctuator punctuator.OpenBrace) (inr t) = inr (type_after names before front t)
unsupported_after names before front (token.Punctuator _) o = absurd o
unsupported_after names before front (token.Keyword keyword.Static) o = tt
unsupported_after names before front (token.Keyword keyword.Typedef) o = tt
unsupported_after names before front (token.Keyword _) o = absurd o
unsupported_after names before front token.Attribute o = absurd o
unsupported_after names before front (token.Name n) o = absurd o
unsupported_after names before front (token.Number n) o = absurd o
unsupported_after names before front (token.Character n) o = absurd o
unsupported_after names before front (token.Text n) o = absurd o

-- the last tokens after these and others are those after only the others
abbrev pub Calm : Names → Kinds → Type 0
Calm names before = (opened : List Bool) (front : Kinds)
    → (others : List Bool) × (last_of names opened AnyToken (before ++ front) ≡ last_of names others AnyToken front)

-- the same, whatever precedes these
abbrev pub Resets : Names → Kinds → Type 0
Resets names before = (opened : List Bool) (last : Last) (front : Kinds)
    → (others : List Bool) × (last_of names opened last (before ++ front) ≡ last_of names others AnyToken front)

pub yields_after : (names : Names) (before front : Kinds) (next : TokenKind) (reason : Reason) → Calm names before
    → YieldsUnsupported names front next reason → YieldsUnsupported names (before ++ front) next reason
yields_after names before front next TooDeep calm t = tt
yields_after names before front next Unsupported calm t = unsupported_after names before front next t
yields_after names before front next Syntax calm t = (t.0, λ brace opened. let c = calm opened front in c.1 ∙ t.1 brace c.0)

-- the reason of a part's refusal is right for the whole
pub reported_in : (names : Names) (tokens : List Token) (from mid : ℕ) (before : Kinds) → Spells tokens from mid (λ rest. before ++ rest)
    → Calm names before → (s : Stop) → IsReported names tokens mid s → IsReported names tokens from s
reported_in names tokens from mid before spelled calm stop.Memory t = tt
reported_in names tokens from mid before spelled calm (stop.Refused at reason) t = record {
  front = before ++ t.front;
  spelled =
      let b = spells_more tokens from mid at (λ rest. before ++ rest) (λ rest. t.front ++ rest) spelled t.spelled in
      record { onward = b.onward; within = b.within; spelled = b.spelled ∙ sym (append_assoc before t.front (kinds (drop at tokens))) };
  yields = yields_after names before t.front (kind_or_end tokens at) reason calm t.yields;
}

-- after one more token, the end of a type before it doesn't matter
forgotten : (names : Names) (opened : List Bool) (first : TokenKind) (front : Kinds)
    → last_of names opened TypeEnd (first ∷ front) ≡ last_of names opened AnyToken (first ∷ front)
forgotten names opened (token.Punctuator punctuator.CloseParenthesis) front = refl
forgotten names opened (token.Punctuator _) front = refl
forgotten names opened (token.Keyword _) front = refl
forgotten names opened (token.Unsupported w) front = refl
forgotten names opened token.Attribute front = refl
forgotten names opened (token.Name n) front = refl
forgotten names opened (token.Number n) front = refl
forgotten names opened (token.Character n) front = refl
forgotten names opened (token.Text n) front = refl

-- the same after tokens that end like a type between parentheses, if no brace follows them
abbrev EndsAsType : Names → Kinds → Type 0
EndsAsType names before = (opened : List Bool) (front : Kinds) → last_of names opened AnyToken (before ++ front) ≡ last_of names opened TypeEnd front

yields_after_type : (names : Names) (before front : Kinds) (next : TokenKind) (reason : Reason) → EndsAsType names before
    → (front ≡ [] → is_brace next ≡ false) → YieldsUnsupported names front next reason → YieldsUnsupported names (before ++ front) next reason
yields_after_type names before front next TooDeep ends none t = tt
yields_after_type names before front next Unsupported ends none t = unsupported_after names before front next t
yields_after_type names before [] next Syntax ends none t = (t.0, λ brace opened. absurd (false≢true (sym (none refl) ∙ brace)))
yields_after_type names before (f ∷ fs) next Syntax ends none t =
    (t.0, λ brace opened. ends opened (f ∷ fs) ∙ forgotten names opened f fs ∙ t.1 brace opened)

type_closed : (names : Names) (ws : List TypeWord) (ps : List PointerWord) (bs : WrittenList) → is_type names ws ≡ true → ArePhrases names 2 bs
    → EndsAsType names (open_parenthesis ∷ type_text ws ps bs (close_parenthesis ∷ []))
type_closed names ws ps bs is are opened front =
    ap (λ (x : Kinds). last_of names opened AnyToken (open_parenthesis ∷ x)) (type_append ws ps bs (close_parenthesis ∷ []) front)
    ∙ type_last names ws ps bs opened front is are

pub reported_after_type : (names : Names) (tokens : List Token) (from mid : ℕ) (ws : List TypeWord) (ps : List PointerWord) (bs : WrittenList)
    → is_type names ws ≡ true → ArePhrases names 2 bs
    → Spells tokens from mid (λ rest. (open_parenthesis ∷ type_text ws ps bs (close_parenthesis ∷ [])) ++ rest)
    → is_brace (kind_or_end tokens mid) ≡ false → (s : Stop) → IsReported names tokens mid s → IsReported names tokens from s
reported_after_type names tokens from mid ws ps bs is are spelled none stop.Memory t = tt
reported_after_type names tokens from mid ws ps bs is are spelled none (stop.Refused at reason) t = record {
  front = (open_parenthesis ∷ type_text ws ps bs (close_parenthesis ∷ [])) ++ t.front;
  spelled =
      let b = spells_more tokens from mid at (λ rest. (open_parenthesis ∷ type_text ws ps bs (close_parenthesis ∷ [])) ++ rest) (λ rest. t.front ++ rest)
      spelled t.spelled in
      record {
        onward = b.onward;
        within = b.within;
        spelled = b.spelled ∙ sym (append_assoc (open_parenthesis ∷ type_text ws ps bs (close_parenthesis ∷ [])) t.front (kinds (drop at tokens)));
      };
  yields =
      yields_after_type names (open_parenthesis ∷ type_text ws ps bs (close_parenthesis ∷ [])) t.front (kind_or_end tokens at) reason
      (type_closed names ws ps bs is are)
      (λ empty. ap is_brace (refused_here tokens mid at t.front t.spelled empty) ∙ none) t.yields;
}

brace_or_not : (names : Names) (front : Kinds) (next : TokenKind) (following left brace : Bool) → is_unsupported next ≡ left → is_brace next ≡ brace
    → (left ≡ true → IsUnsupported names front next) → (following ≡ true → brace ≡ true → IsUnsupported names front next)
    → (following ≡ false → IsPlainEnd names front) → YieldsUnsupported names front next (if left || (following && brace) then Unsupported else Syntax)
brace_or_not names front next following true brace l b always ends plain = always refl
brace_or_not names front next true false true l b always ends plain = ends refl refl
brace_or_not names front next true false false l b always ends plain = (l, λ e. absurd (false≢true (sym b ∙ e)))
brace_or_not names front next false false brace l b always ends plain = (l, λ e. plain refl)

always_unsupported : (names : Names) (front : Kinds) (next : TokenKind) → is_unsupported next ≡ true → IsUnsupported names front next
always_unsupported names front (token.Unsupported w) l = tt
always_unsupported names front (token.Punctuator punctuator.Ellipsis) l = tt
always_unsupported names front (token.Punctuator _) l = absurd cc
always_unsupported names front (token.Keyword keyword.Static) l = tt
always_unsupported names front (token.Keyword keyword.Typedef) l = tt
always_unsupported names front (token.Keyword _) l = absurd cc
always_unsupported names front token.Attribute l = absurd cc
always_unsupported names front (token.Name n) l = absurd cc
always_unsupported names front (token.Number n) l = absurd cc
always_unsupported names front (token.Character n) l = absurd cc
always_unsupported names front (token.Text n) l = absurd cc

brace_unsupported : (names : Names) (front : Kinds) (next : TokenKind) → EndsWithTag front ⊎ EndsWithType names front → is_brace next ≡ true
    → IsUnsupported names front next
brace_unsupported names front (token.Punctuator punctuator.OpenBrace) e b = e
brace_unsupported names front (token.Punctuator _) e b = absurd cc
brace_unsupported names front (token.Unsupported w) e b = absurd cc
brace_unsupported names front (token.Keyword k) e b = absurd cc
brace_unsupported names front token.Attribute e b = absurd cc
brace_unsupported names front (token.Name n) e b = absurd cc
brace_unsupported names front (token.Number n) e b = absurd cc
brace_unsupported names front (token.Character n) e b = absurd cc
brace_unsupported names front (token.Text n) e b = absurd cc

-- the reason for a token that no higher phrase continues with
pub yields_plain : (names : Names) (front : Kinds) (next : TokenKind) (following : Bool)
    → (following ≡ true → EndsWithTag front ⊎ EndsWithType names front) → (following ≡ false → IsPlainEnd names front)
    → YieldsUnsupported names front next (plain_reason next following)
yields_plain names front next following ends plain =
    brace_or_not names front next following (is_unsupported next) (is_brace next) refl refl (always_unsupported names front next)
    (λ b brace. brace_unsupported names front next (ends b) brace) plain

pub yields_reason : (names : Names) (front : Kinds) (next : TokenKind) (deep following : Bool)
    → (following ≡ true → EndsWithTag front ⊎ EndsWithType names front) → (following ≡ false → IsPlainEnd names front)
    → YieldsUnsupported names front next (reason_of deep next following)
yields_reason names front next true following ends plain = tt
yields_reason names front next false following ends plain = yields_plain names front next following ends plain

-- an expression whose last part is a type between parentheses ends with one
pub text_ends : (names : Names) (e : Written) → IsWell names e → ends_in_type e ≡ true → EndsWithType names (text e [])
text_ends names (SizeOfType ws ps bs) well e = record {
  before = token.Keyword keyword.Sizeof ∷ [];
  words = ws;
  pointers = ps;
  bounds = bs;
  type = well.0;
  pointer = well.1;
  phrases = well.2;
  spelled = refl;
}
text_ends names (StepBefore s o) well e = type_after names (token.Punctuator (step_punctuator s) ∷ []) (text o []) (text_ends names o well.1 e)
text_ends names (Prefix op o) well e = type_after names (token.Punctuator (prefix_punctuator op) ∷ []) (text o []) (text_ends names o well.1 e)
text_ends names (SizeOf o) well e = type_after names (token.Keyword keyword.Sizeof ∷ []) (text o []) (text_ends names o well.1 e)
text_ends names (Cast ws ps bs o) well e =
    subst (EndsWithType names) (ap (λ (x : Kinds). open_parenthesis ∷ x) (type_append ws ps bs (close_parenthesis ∷ []) (text o [])))
    (type_after names (open_parenthesis ∷ type_text ws ps bs (close_parenthesis ∷ [])) (text o []) (text_ends names o well.4 e))
text_ends names (Infix op l r) well e =
    subst (EndsWithType names) (text_append l (token.Punctuator (infix_punctuator op) ∷ []) (text r []))
    (type_after names (text l (token.Punctuator (infix_punctuator op) ∷ [])) (text r []) (text_ends names r well.3 e))
text_ends names (Choice t o r) well e =
    subst (EndsWithType names) (text_append t (token.Punctuator punctuator.Question ∷ text o (token.Punctuator punctuator.Colon ∷ [])) (text r [])
    ∙ ap (λ (x : Kinds). text t (token.Punctuator punctuator.Question ∷ x)) (text_append o (token.Punctuator punctuator.Colon ∷ []) (text r [])))
    (type_after names (text t (token.Punctuator punctuator.Question ∷ text o (token.Punctuator punctuator.Colon ∷ []))) (text r [])
    (text_ends names r well.4 e))
text_ends names (Assign op o v) well e =
    subst (EndsWithType names) (text_append o (token.Punctuator (assign_punctuator op) ∷ []) (text v []))
    (type_after names (text o (token.Punctuator (assign_punctuator op) ∷ [])) (text v []) (text_ends names v well.3 e))
text_ends names (Comma l r) well e =
    subst (EndsWithType names) (text_append l (token.Punctuator punctuator.Comma ∷ []) (text r []))
    (type_after names (text l (token.Punctuator punctuator.Comma ∷ [])) (text r []) (text_ends names r well.2 e))
text_ends names (Named name) well e = absurd cc
text_ends names (Numeral n) well e = absurd cc
text_ends names (Character v) well e = absurd cc
text_ends names (Literal b) well e = absurd cc
text_ends names (Enclosed i) well e = absurd cc
text_ends names (Index a n) well e = absurd cc
text_ends names (Call f es) well e = absurd cc
text_ends names (Member o n) well e = absurd cc
text_ends names (Arrow o n) well e = absurd cc
text_ends names (StepAfter s o) well e = absurd cc

-- one whose last part isn't ends with none
pub text_plain : (names : Names) (e : Written) → IsWell names e → ends_in_type e ≡ false → IsPlainEnd names (text e [])
text_plain names e well none opened = text_last names e opened AnyToken [] well refl ∙ ap (λ (b : Bool). if b then TypeEnd else AnyToken) none
