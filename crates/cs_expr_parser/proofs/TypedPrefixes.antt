-- Types between parentheses before an operand or after `sizeof`: for the contracts of `cast` and `sized`.
use Rattle.std.proofs.Common.{◌≡◌, ℕ, suc, ◌+◌, ◌-◌, ◌<◌, ◌≤◌, max, ◌⊎◌, inl, inr, Bool, true, false, List, [], ◌∷◌}
use Rattle.std.proofs.Common.{◌++◌, refl, sym, ap, ◌∙◌, subst, arith, append_assoc}
use Rattle.std.proofs.lemmas.Bool.{false≢true, both_ways}
use Rattle.cs_ast.specs.declared.token.TokenKind.{TokenKind}
use Rattle.cs_ast.specs.declared.token.TokenKind.TheVariants as token
use Rattle.cs_ast.specs.declared.token.Keyword.TheVariants as keyword
use Rattle.cs_ast.specs.declared.token.Punctuator.TheVariants as punctuator
use Rattle.cs_ast.specs.declared.raw.written_type.TypeWord.{TypeWord}
use Rattle.cs_ast.specs.declared.raw.written_type.TypeWord.TheVariants as word
use Rattle.cs_ast.specs.RawTree.{Written, WrittenList, Enclosed, SizeOf, SizeOfType, Cast, End, More}
use Rattle.cs_ast.specs.RawHeight.{height, highest}
use Rattle.cs_grammar.specs.TypeWords.{Names}
use Rattle.cs_grammar.specs.Text.{Kinds, text}
use Rattle.cs_grammar.specs.Phrases.{IsPhrase}
use Rattle.cs_grammar.specs.Continuing.{join_of}
use Rattle.cs_grammar.specs.FirstTokens.{begins_expression, begins_type}
use Rattle.cs_grammar.specs.Parsing.{Class, Expressions, Near, IsOver, Begins, BeginsLow, Took, Refused, Exactly}
use Rattle.cs_grammar.proofs.Levels.{text_law}
use Rattle.cs_grammar.proofs.Holes.{Lawful, Hole, Filling, Completion, Tail, tail_took, tail_refused, hole_refused, exact_took, splits}
use Rattle.cs_grammar.proofs.Beginnings.{BeginsWith, expression_begins, unary_inner, begins_one}
use Rattle.cs_expr_parser.specs.Parts.{TypeParts, IsTypeOf, Types, type_closed_text}
use Rattle.cs_expr_parser.specs.Unary.{before_text, prefixed_tree}
use Rattle.cs_expr_parser.specs.declared.unary.Before.{Before}
use Rattle.cs_expr_parser.specs.declared.unary.Before.TheVariants as before
use Rattle.cs_expr_parser.proofs.Closings.{zero, height_some, open_parenthesis, close_parenthesis}
use Rattle.cs_expr_parser.proofs.Prefixes.{IsUnary, plain, prefixed, measured, unary_is, IsCast, tighter, converted, cast_is, passes_first, types_law}
use Rattle.cs_expr_parser.proofs.Prefixes.{type_text_begins, type_no_expression, no_type_inner, NoType, before_tail, size_is, not_type}

abbrev pub sizeof_token : TokenKind
sizeof_token = token.Keyword keyword.Sizeof

-- the tokens begin no expression
abbrev pub NoExpression : Names → Kinds → Type 0
NoExpression names tokens = BeginsWith (begins_expression names) tokens → ⊥

-- the lowest type
abbrev void_type : TypeParts
void_type = record { words = word.Void ∷ []; pointers = []; bounds = End }

void_is : (names : Names) → IsTypeOf names void_type
void_is names = record { words = refl; pointers = refl; bounds = tt }

-- if a type is refused, its tokens begin no expression
pub refused_type : (names : Names) (limit : ℕ) (front : Kinds) (next : TokenKind) (deep : Bool) → Refused (Types names) limit front next deep
    → (front ≡ [] → begins_type names next ≡ true) → (following : Kinds) → Near next following → NoExpression names (front ++ following)
refused_type names limit [] next deep r starts following near e =
    elim near [
      | inl n ↦ let s = sym e.are ∙ n in cc
      | inr m ↦ begins_one names next (passes_first (begins_expression names) following next m.0 e m.1) (starts refl)
    ]
refused_type names limit (f ∷ fs) next deep r starts following near e =
    elim r.begun [
      | inl n ↦ cc
      | inr l ↦
          let t = passes_first (begins_type names) (type_closed_text l.phrase []) f (fs ++ l.more) (type_text_begins names l.phrase [] l.is_phrase) l.spelled in
          begins_one names f (passes_first (begins_expression names) ((f ∷ fs) ++ following) f (fs ++ following) e refl) t
    ]

-- the type of a cast
cast_hole : (names : Names) (limit : ℕ) → 2 ≤ limit
    → Hole (Expressions names 13) (Types names) limit (limit - 1) (open_parenthesis ∷ []) (NoExpression names) (λ rest. Unit {0})
cast_hole names limit least = record {
  started = inr (record {
    phrase = Cast (word.Void ∷ []) [] End zero;
    more = token.Keyword keyword.Void ∷ close_parenthesis ∷ text zero [];
    is_phrase = (omega arith, (refl, refl, tt, omega arith, tt));
    low = omega arith;
    spelled = refl;
  });
  invert = λ whole after following is shut fit same.
      elim (cast_is names whole after is) [
        | tighter l ↦
            let i = unary_inner names whole after following (l, is.1) same in
            absurd (fit (subst (BeginsWith (begins_expression names)) (sym i.are) (expression_begins names i.inner (close_parenthesis ∷ i.rest) i.is_well)))
        | converted parts o w ty i t ↦
            let s = sym t ∙ same in
            record {
              part = parts;
              rest = text o after;
              is_phrase = ty;
              spelled = cc;
              shut = tt;
              after = tt;
              rises = λ high. subst (λ (x : Written). limit < height x) (sym w) (omega (arith, high));
            }
      ];
  complete = λ part is. record {
    whole = Cast part.words part.pointers part.bounds zero;
    more = text zero [];
    is_phrase = (omega arith, (is.words, is.pointers, is.bounds, omega arith, tt));
    spelled = refl;
    low = λ le. omega arith;
  };
}

pub cast_type_refused : (names : Names) (limit : ℕ) → 2 ≤ limit
    → (front : Kinds) (next : TokenKind) (deep : Bool) → (front ≡ [] → begins_type names next ≡ true)
    → Refused (Types names) (limit - 1) front next deep → Refused (Expressions names 13) limit (open_parenthesis ∷ front) next deep
cast_type_refused names limit least front next deep starts r =
    hole_refused (Expressions names 13) (Types names) limit (limit - 1) (open_parenthesis ∷ []) (NoExpression names) (λ rest. Unit {0}) (types_law names)
    (cast_hole names limit least) front next deep (refused_type names (limit - 1) front next deep r starts) r

-- the operand of a cast
cast_tail : (names : Names) (limit : ℕ) (parts : TypeParts) → 2 ≤ limit → Exactly (Types names) (limit - 1) parts
    → Tail (Expressions names 13) (Expressions names 13) limit (limit - 1) (open_parenthesis ∷ type_closed_text parts [])
    (Cast parts.words parts.pointers parts.bounds) (λ rest. Unit {0})
cast_tail names limit parts least e =
    let low' = e.low in
    record {
      started = inr (record {
        phrase = Cast parts.words parts.pointers parts.bounds zero;
        more = text zero [];
        is_phrase = (omega arith, (e.is_phrase.words, e.is_phrase.pointers, e.is_phrase.bounds, omega arith, tt));
        low = omega (arith, low');
        spelled = ap (λ (x : Kinds). open_parenthesis ∷ x) (sym (types_law names parts [] (text zero [])));
      });
      invert = λ whole after following is shut fit same.
          let s : text whole after ≡ open_parenthesis ∷ type_closed_text parts following = same
          ∙ ap (λ (x : Kinds). open_parenthesis ∷ x) (types_law names parts [] following) in
          elim (cast_is names whole after is) [
            | tighter l ↦ absurd (no_type_inner names whole after following parts (l, is.1) e.is_phrase s)
            | converted parts' o w ty i t ↦
                let k : open_parenthesis ∷ type_closed_text parts' (text o after) ≡ open_parenthesis ∷ type_closed_text parts following = sym t ∙ s in
                let x = e.exact parts' (text o after) following ty cc in
                (o, w ∙ ap (λ (p : TypeParts). Cast p.words p.pointers p.bounds o) x.0, i, sym x.1)
          ];
      shut = λ part after shut. shut;
      spelled = λ part after. ap (λ (x : Kinds). open_parenthesis ∷ x) (sym (types_law names parts [] (text part after)));
      is_phrase = λ part is. (omega arith, (e.is_phrase.words, e.is_phrase.pointers, e.is_phrase.bounds, is.0, is.1));
      low = λ part is le. omega (arith, low');
      rises = λ part high. omega arith;
    }

pub cast_refused : (names : Names) (limit : ℕ) (parts : TypeParts) → 2 ≤ limit → Exactly (Types names) (limit - 1) parts
    → (front : Kinds) (next : TokenKind) (deep : Bool) → Refused (Expressions names 13) (limit - 1) front next deep
    → Refused (Expressions names 13) limit ((open_parenthesis ∷ type_closed_text parts []) ++ front) next deep
cast_refused names limit parts least e front next deep r =
    tail_refused (Expressions names 13) (Expressions names 13) limit (limit - 1) (open_parenthesis ∷ type_closed_text parts [])
    (Cast parts.words parts.pointers parts.bounds) (λ rest. Unit {0}) (text_law names 13) (cast_tail names limit parts least e) front next deep
    (λ following near. tt) r

pub cast_took : (names : Names) (limit : ℕ) (parts : TypeParts) → 2 ≤ limit → Exactly (Types names) (limit - 1) parts
    → (part : Written) (next : TokenKind) (deep : Bool) → Took (Expressions names 13) (limit - 1) part next deep
    → Took (Expressions names 13) limit (Cast parts.words parts.pointers parts.bounds part) next deep
cast_took names limit parts least e part next deep t =
    tail_took (Expressions names 13) (Expressions names 13) limit (limit - 1) (open_parenthesis ∷ type_closed_text parts [])
    (Cast parts.words parts.pointers parts.bounds) (λ rest. Unit {0}) (text_law names 13) (cast_tail names limit parts least e) part next deep
    (λ following near. tt) t

-- a parenthesis and a type that the limit doesn't allow
pub cast_full : (names : Names) (limit : ℕ) → limit < 2 → Refused (Expressions names 13) limit [] open_parenthesis true
cast_full names limit full = record {
  begun = inl refl;
  never = λ other after following is shut near same.
      elim near [
        | inl none ↦ absurd (let b = expression_begins names other after is.1 in let s = sym b.are ∙ same ∙ none in cc)
        | inr m ↦
            elim (cast_is names other after is) [
              | tighter l ↦
                  let i = unary_inner names other after m.0 (l, is.1) (same ∙ m.1) in
                  let h = height_some i.inner in
                  let k = i.lower in
                  record { reported = refl; high = omega (arith, k); onward = λ none. let z = sym m.1 ∙ none in cc }
              | converted parts o w ty i t ↦
                  let h = height_some o in
                  record {
                    reported = refl;
                    high = subst (λ (x : Written). limit < height x) (sym w) (omega arith);
                    onward = λ none. let z = sym m.1 ∙ none in cc;
                  }
            ]
      ];
  further = λ reported. record { phrase = Enclosed zero; more = text zero (close_parenthesis ∷ []); is_phrase = (omega arith, tt); spelled = refl };
}

-- the type after `sizeof`
size_tail : (names : Names) (limit : ℕ) → 2 ≤ limit
    → Tail (Expressions names 14) (Types names) limit (limit - 1) (sizeof_token ∷ open_parenthesis ∷ [])
    (λ (parts : TypeParts). SizeOfType parts.words parts.pointers parts.bounds) (NoExpression names)
size_tail names limit least = record {
  started = inr (record {
    phrase = SizeOfType (word.Void ∷ []) [] End;
    more = token.Keyword keyword.Void ∷ close_parenthesis ∷ [];
    is_phrase = (omega arith, (refl, refl, tt));
    low = omega arith;
    spelled = refl;
  });
  invert = λ whole after following is shut fit same.
      elim (size_is names whole after (open_parenthesis ∷ following) is same) [
        | inl x ↦
            let i = unary_inner names x.0 after following x.2 (sym x.3) in
            absurd (fit (subst (BeginsWith (begins_expression names)) (sym i.are) (expression_begins names i.inner (close_parenthesis ∷ i.rest) i.is_well)))
        | inr y ↦ let s = y.3 in (y.0, y.1, y.2, cc)
      ];
  shut = λ part after shut. tt;
  spelled = λ part after. refl;
  is_phrase = λ part is. (omega arith, (is.words, is.pointers, is.bounds));
  low = λ part is le. omega arith;
  rises = λ part high. omega arith;
}

pub size_type_refused : (names : Names) (limit : ℕ) → 2 ≤ limit
    → (front : Kinds) (next : TokenKind) (deep : Bool) → (front ≡ [] → begins_type names next ≡ true)
    → Refused (Types names) (limit - 1) front next deep → Refused (Expressions names 14) limit (sizeof_token ∷ open_parenthesis ∷ front) next deep
size_type_refused names limit least front next deep starts r =
    tail_refused (Expressions names 14) (Types names) limit (limit - 1) (sizeof_token ∷ open_parenthesis ∷ [])
    (λ (parts : TypeParts). SizeOfType parts.words parts.pointers parts.bounds) (NoExpression names) (types_law names) (size_tail names limit least) front
    next deep (refused_type names (limit - 1) front next deep r starts) r

pub size_type_took : (names : Names) (limit : ℕ) → 2 ≤ limit → (parts : TypeParts) (next : TokenKind) → Exactly (Types names) (limit - 1) parts
    → Took (Expressions names 14) limit (SizeOfType parts.words parts.pointers parts.bounds) next false
size_type_took names limit least parts next e =
    tail_took (Expressions names 14) (Types names) limit (limit - 1) (sizeof_token ∷ open_parenthesis ∷ [])
    (λ (parts : TypeParts). SizeOfType parts.words parts.pointers parts.bounds) (NoExpression names) (types_law names) (size_tail names limit least) parts
    next false
    (λ following near x. type_no_expression names (type_closed_text parts following) (type_text_begins names parts following e.is_phrase) x)
    (exact_took (Types names) (limit - 1) parts e next)

-- the expression after `sizeof`
pub size_refused : (names : Names) (limit : ℕ) → 2 ≤ limit
    → (front : Kinds) (next : TokenKind) (deep : Bool) → (front ≡ open_parenthesis ∷ [] → begins_type names next ≡ false)
    → (next ≡ open_parenthesis → 3 ≤ limit) → Refused (Expressions names 14) (limit - 1) front next deep
    → Refused (Expressions names 14) limit (sizeof_token ∷ front) next deep
size_refused names limit least front next deep none wide r =
    tail_refused (Expressions names 14) (Expressions names 14) limit (limit - 1) (sizeof_token ∷ []) SizeOf (NoType names before.Size) (text_law names 14)
    (before_tail names limit before.Size least) front next deep
    (λ following near e parts rest ty same.
    let n = not_type names (limit - 1) front next deep parts rest following r none ty near (sym same) in
    let v = r.never (Enclosed zero) [] (open_parenthesis ∷ text zero (close_parenthesis ∷ [])) (omega arith, tt) (omega arith)
    (inr (text zero (close_parenthesis ∷ []), ap (λ (x : TokenKind). x ∷ text zero (close_parenthesis ∷ [])) (sym n.1)))
    (ap (λ (x : Kinds). x ++ (open_parenthesis ∷ text zero (close_parenthesis ∷ []))) (sym n.0)) in
    let full : limit - 1 < 2 = v.high in
    let w = wide n.1 in
    omega arith)
    r

pub size_took : (names : Names) (limit : ℕ) → 2 ≤ limit → (part : Written) (next : TokenKind) (deep : Bool)
    → Took (Expressions names 14) (limit - 1) part next deep → Took (Expressions names 14) limit (SizeOf part) next deep
size_took names limit least part next deep t =
    tail_took (Expressions names 14) (Expressions names 14) limit (limit - 1) (sizeof_token ∷ []) SizeOf (NoType names before.Size) (text_law names 14)
    (before_tail names limit before.Size least) part next deep
    (λ following near e parts rest ty same. no_type_inner names part following rest parts t.is_phrase ty same) t

-- a parenthesis after `sizeof`, if the limit allows only a type
pub size_full : (names : Names) (front : Kinds) (next : TokenKind) (deep : Bool) → (front ≡ [] → begins_type names next ≡ false)
    → Refused (Expressions names 0) 0 front next deep → Refused (Expressions names 14) 2 (sizeof_token ∷ open_parenthesis ∷ front) next deep
size_full names front next deep none r =
    let empty : front ≡ [] =
    elim r.begun [ inl e ↦ e | inr l ↦ absurd (let h = height_some l.phrase in let k : height l.phrase ≤ 0 = l.low in omega arith) ] in
    record {
      begun = inr (record {
        phrase = SizeOfType (word.Void ∷ []) [] End;
        more = token.Keyword keyword.Void ∷ close_parenthesis ∷ [];
        is_phrase = (omega arith, (refl, refl, tt));
        low = omega arith;
        spelled = ap (λ (x : Kinds). (sizeof_token ∷ open_parenthesis ∷ x) ++ (token.Keyword keyword.Void ∷ close_parenthesis ∷ [])) (sym empty);
      });
      never = λ other after following is shut near same.
          elim (size_is names other after (open_parenthesis ∷ (front ++ following)) is same) [
            | inl x ↦
                let i = unary_inner names x.0 after (front ++ following) x.2 (sym x.3) in
                let v = r.never i.inner (close_parenthesis ∷ i.rest) following (omega arith, i.is_well) (omega arith) near (sym i.are) in
                let h = height_some i.inner in
                let k = i.lower in
                record { reported = v.reported; high = subst (λ (x : Written). 2 < height x) (sym x.1) (omega (arith, k)); onward = v.onward }
            | inr y ↦
                let b = type_text_begins names y.0 after y.2 in
                let s : front ++ following ≡ type_closed_text y.0 after = let z = y.3 in cc in
                let s' : following ≡ b.first ∷ b.others = sym (ap (λ (x : Kinds). x ++ following) empty) ∙ s ∙ b.are in
                absurd (elim near [
                  | inl n ↦ let z = sym s' ∙ n in cc
                  | inr m ↦ let z : next ∷ m.0 ≡ b.first ∷ b.others = sym m.1 ∙ s' in let k : next ≡ b.first = cc in
                      both_ways (begins_type names next) (none empty) (ap (begins_type names) k ∙ b.passes)
                ])
          ];
      further = λ reported.
          let b = r.further reported in
          record {
            phrase = SizeOf (Enclosed b.phrase);
            more = b.more ++ (close_parenthesis ∷ []);
            is_phrase = (omega arith, (omega arith, b.is_phrase.1));
            spelled = ap (λ (x : Kinds). sizeof_token ∷ open_parenthesis ∷ x)
                (splits (Expressions names 0) (text_law names 0) b.phrase (close_parenthesis ∷ [])
                ∙ ap (λ (x : Kinds). x ++ (close_parenthesis ∷ [])) b.spelled ∙ append_assoc (front ++ next ∷ []) b.more (close_parenthesis ∷ []));
          };
    }
