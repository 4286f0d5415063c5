-- Declared objects: a declarator, and the initializer after its `=`. For the contracts of every parser of declarations.
use Rattle.std.proofs.Common.{◌≡◌, ℕ, ◌+◌, ◌<◌, ◌≤◌, ◌⊎◌, inl, inr, Bool, true, [], ◌∷◌, ◌++◌, Option, Some, None}
use Rattle.std.proofs.Common.{MatchOption, refl, sym, ap, ◌∙◌, subst, arith}
use Rattle.std.proofs.lemmas.Bool.{false≢true}
use Rattle.cs_ast.specs.declared.token.TokenKind.{TokenKind}
use Rattle.cs_ast.specs.declared.token.TokenKind.TheVariants as token
use Rattle.cs_ast.specs.declared.token.Punctuator.TheVariants as punctuator
use Rattle.cs_ast.specs.RawDeclarations.{Declarator, Declared, Initial, Single as One}
use Rattle.cs_ast.specs.RawFileHeight.{declarator_height, declared_height}
use Rattle.cs_grammar.specs.TypeWords.{Names}
use Rattle.cs_grammar.specs.Text.{Kinds, text}
use Rattle.cs_grammar.specs.FileText.{declarator_text, first_value_text, initial_text}
use Rattle.cs_grammar.specs.FilePhrases.{IsDeclarator, IsInitial, IsDeclared}
use Rattle.cs_grammar.specs.DeclarationClasses.{Follows, HasNoBracket, ObjectDeclarators, ends_declared, Objects, ends_value, Values}
use Rattle.cs_grammar.specs.Parsing.{Near, IsOver, Took, Refused}
use Rattle.cs_grammar.proofs.FileTexts.{declarator_append, declared_append}
use Rattle.cs_grammar.proofs.Holes.{Lawful, Tail, tail_refused, tail_took}
use Rattle.cs_grammar.proofs.Tails.{Least, near_other}
use Rattle.cs_grammar.proofs.Rows.{Separates}
use Rattle.cs_grammar.proofs.FreshNames.{fresh, fresh_free}
use Rattle.cs_grammar.proofs.Statements.{semicolon}
use Rattle.cs_grammar.proofs.StatementParts.{nought}
use Rattle.cs_grammar.proofs.Declarators.{declarator_of}
use Rattle.cs_grammar.proofs.InitialValues.{value_height, values_law}

abbrev pub equal_token : TokenKind
equal_token = token.Punctuator punctuator.Equal

-- the object with these parts
abbrev pub declared_of : Declarator → Option Initial → Declared
declared_of d o = record { declarator = d; initial = o }

pub objects_law : (names : Names) → Lawful (Objects names)
objects_law names = declared_append

declared_some : (d : Declarator) (o : Option Initial) → 1 ≤ declared_height (declared_of d o)
declared_some d None = omega arith
declared_some d (Some i) = omega arith

abbrev pub least_object : Names → Declared
least_object names = declared_of (declarator_of [] (fresh names) []) None

pub least_is : (names : Names) → IsDeclared names (least_object names)
least_is names = record { declarator = record { pointers = refl; named = fresh_free names; bounds = tt }; initial = tt }

pub objects_below : (names : Names) (other : Declared) → IsDeclared names other → 1 ≤ declared_height other
objects_below names other is = declared_some other.declarator other.initial

abbrev pub objects_least : (names : Names) → Least (Objects names)
objects_least names = record { tree = least_object names; is_phrase = least_is names; below = λ other is. objects_below names other is }

pub semicolon_differs : semicolon ≡ token.Punctuator punctuator.Comma → ⊥
semicolon_differs e = cc

-- objects with commas between them and a semicolon after them
abbrev pub object_row : (names : Names) → Separates (Objects names) semicolon
object_row names = record {
  law = objects_law names;
  least = objects_least names;
  comma = λ d more. refl;
  closed = λ d more. refl;
  differs = semicolon_differs;
}

-- what ends an object isn't a bracket
pub ends_no_bracket : (after : Kinds) → Follows ends_declared after → HasNoBracket after
ends_no_bracket [] f = tt
ends_no_bracket (token.Punctuator punctuator.OpenBracket ∷ x) f = absurd (false≢true f)
ends_no_bracket _ f = tt

declared_never : (names : Names) (limit : ℕ) (front : Kinds) (next : TokenKind) (deep : Bool) → Refused (ObjectDeclarators names) limit front next deep
    → (d : Declarator) (o : Option Initial) (after following : Kinds) → IsDeclarator names d → Follows ends_declared after → Near next following
    → declarator_text d (first_value_text o after) ≡ front ++ following → IsOver (Objects names) limit deep (declared_of d o) following
declared_never names limit front next deep r d None after following is shut near same =
    let v = r.never d after following is (ends_no_bracket after shut) near same in
    record { reported = v.reported; high = v.high; onward = v.onward }
declared_never names limit front next deep r d (Some i) after following is shut near same =
    let v = r.never d (equal_token ∷ initial_text i after) following is tt near same in
    record { reported = v.reported; high = let h = v.high in omega (arith, h); onward = v.onward }

-- the declarator was refused
pub declared_refused : (names : Names) (limit : ℕ) (front : Kinds) (next : TokenKind) (deep : Bool)
    → Refused (ObjectDeclarators names) limit front next deep → Refused (Objects names) limit front next deep
declared_refused names limit front next deep r = record {
  begun = elim r.begun [
    | inl none ↦ inl none
    | inr b ↦ inr (record {
      phrase = declared_of b.phrase None;
      more = b.more;
      is_phrase = record { declarator = b.is_phrase; initial = tt };
      low = b.low;
      spelled = b.spelled;
    })
  ];
  never = λ other after following is shut near same. declared_never names limit front next deep r other.declarator other.initial after following is.declarator
      shut near same;
  further = λ reported. let b = r.further reported in
      record { phrase = declared_of b.phrase None; more = b.more; is_phrase = record { declarator = b.is_phrase; initial = tt }; spelled = b.spelled };
}

declared_only : (names : Names) (limit : ℕ) (d : Declarator) (next : TokenKind) (deep : Bool) → Took (ObjectDeclarators names) limit d next deep
    → (next ≡ equal_token → ⊥) → (c : Declarator) (o : Option Initial) (after following : Kinds) → IsDeclarator names c
    → Follows ends_declared after → Near next following → declarator_text c (first_value_text o after) ≡ declarator_text d following
    → ((declared_of c o ≡ declared_of d None) × (after ≡ following)) ⊎ IsOver (Objects names) limit deep (declared_of c o) following
declared_only names limit d next deep t other c None after following is shut near same =
    elim (t.only c after following is (ends_no_bracket after shut) near same) [
      | inl e ↦ inl (ap (λ (x : Declarator). declared_of x None) e.0, e.1)
      | inr over ↦ inr (record { reported = over.reported; high = over.high; onward = over.onward })
    ]
declared_only names limit d next deep t other c (Some i) after following is shut near same =
    elim (t.only c (equal_token ∷ initial_text i after) following is tt near same) [
      | inl e ↦ absurd (near_other equal_token next following (initial_text i after) other near e.1)
      | inr over ↦ inr (record { reported = over.reported; high = let h = over.high in omega (arith, h); onward = over.onward })
    ]

-- the declarator was taken, and no `=` follows it
pub declared_alone : (names : Names) (limit : ℕ) (d : Declarator) (next : TokenKind) (deep : Bool) → Took (ObjectDeclarators names) limit d next deep
    → (next ≡ equal_token → ⊥) → Took (Objects names) limit (declared_of d None) next deep
declared_alone names limit d next deep t other = record {
  is_phrase = record { declarator = t.is_phrase; initial = tt };
  low = t.low;
  only = λ whole after following is shut near same. declared_only names limit d next deep t other whole.declarator whole.initial after following is.declarator
      shut near same;
  further = λ reported. let b = t.further reported in
      record { phrase = declared_of b.phrase None; more = b.more; is_phrase = record { declarator = b.is_phrase; initial = tt }; spelled = b.spelled };
  joined = λ reported more shut. t.joined reported more (ends_no_bracket (next ∷ more) shut);
}

full_only : (names : Names) (limit : ℕ) (d : Declarator) (deep : Bool) → Took (ObjectDeclarators names) limit d equal_token deep
    → limit < 1 + declarator_height d → (c : Declarator) (o : Option Initial) (after following : Kinds) → IsDeclarator names c
    → Follows ends_declared after → Near equal_token following → declarator_text c (first_value_text o after) ≡ declarator_text d following
    → ((declared_of c o ≡ declared_of d None) × (after ≡ following)) ⊎ IsOver (Objects names) limit true (declared_of c o) following
full_only names limit d deep t full c None after following is shut near same =
    elim (t.only c after following is (ends_no_bracket after shut) near same) [
      | inl e ↦ inl (ap (λ (x : Declarator). declared_of x None) e.0, e.1)
      | inr over ↦ absurd (t.joined over.reported [] tt)
    ]
full_only names limit d deep t full c (Some i) after following is shut near same =
    elim (t.only c (equal_token ∷ initial_text i after) following is tt near same) [
      | inl e ↦
          let h = value_height i in
          let k : declarator_height c ≡ declarator_height d = ap declarator_height e.0 in
          inr (record { reported = refl; high = omega (arith, h, k, full); onward = λ none. let z = e.1 ∙ none in cc })
      | inr over ↦ absurd (t.joined over.reported [] tt)
    ]

-- the declarator was taken, an `=` follows it, and the limit doesn't allow a value
pub declared_full : (names : Names) (limit : ℕ) (d : Declarator) (deep : Bool) → Took (ObjectDeclarators names) limit d equal_token deep
    → limit < 1 + declarator_height d → Took (Objects names) limit (declared_of d None) equal_token true
declared_full names limit d deep t full = record {
  is_phrase = record { declarator = t.is_phrase; initial = tt };
  low = t.low;
  only = λ whole after following is shut near same. full_only names limit d deep t full whole.declarator whole.initial after following is.declarator shut near
      same;
  further = λ reported. record {
    phrase = declared_of d (Some (One nought));
    more = text nought [];
    is_phrase = record { declarator = t.is_phrase; initial = (omega arith, tt) };
    spelled = sym (declarator_append d (equal_token ∷ []) (text nought []));
  };
  joined = λ reported more shut. false≢true shut;
}

follows_value : (after : Kinds) → Follows ends_declared after → Follows ends_value after
follows_value [] f = tt
follows_value (token.Punctuator punctuator.Comma ∷ x) f = refl
follows_value (token.Punctuator punctuator.Semicolon ∷ x) f = refl
follows_value _ f = absurd (false≢true f)

value_invert : (names : Names) (limit : ℕ) (d : Declarator) (deep : Bool) → Took (ObjectDeclarators names) limit d equal_token deep
    → (c : Declarator) (o : Option Initial) (after following : Kinds) → IsDeclarator names c → MatchOption o (Unit {0}) (IsInitial names)
    → Follows ends_declared after → declarator_text c (first_value_text o after) ≡ declarator_text d (equal_token ∷ following)
    → (part : Initial) × (declared_of c o ≡ declared_of d (Some part)) × IsInitial names part × (following ≡ initial_text part after)
value_invert names limit d deep t c None after following is has shut same =
    absurd (elim (t.only c after (equal_token ∷ following) is (ends_no_bracket after shut) (inr (following, refl)) same) [
      | inl e ↦ false≢true (subst (Follows ends_declared) e.1 shut)
      | inr over ↦ t.joined over.reported [] tt
    ])
value_invert names limit d deep t c (Some i) after following is has shut same =
    elim (t.only c (equal_token ∷ initial_text i after) (equal_token ∷ following) is tt (inr (following, refl)) same) [
      | inl e ↦ let k = e.1 in (i, ap (λ (x : Declarator). declared_of x (Some i)) e.0, has, cc)
      | inr over ↦ absurd (t.joined over.reported [] tt)
    ]

-- the declarator was taken, and an `=` follows it: the value remains
pub value_tail : (names : Names) (limit inner : ℕ) → limit ≡ 1 + inner
    → (d : Declarator) (deep : Bool) → Took (ObjectDeclarators names) limit d equal_token deep → declarator_height d ≤ inner
    → Tail (Objects names) (Values names) limit inner (declarator_text d (equal_token ∷ [])) (λ i. declared_of d (Some i)) (λ rest. Unit {0})
value_tail names limit inner less d deep t fits = record {
  started = inr (record {
    phrase = declared_of d (Some (One nought));
    more = text nought [];
    is_phrase = record { declarator = t.is_phrase; initial = (omega arith, tt) };
    low = omega (arith, fits, less);
    spelled = sym (declarator_append d (equal_token ∷ []) (text nought []));
  });
  invert = λ whole after following is shut fit same. value_invert names limit d deep t whole.declarator whole.initial after following is.declarator is.initial
      shut (same ∙ declarator_append d (equal_token ∷ []) following);
  shut = λ part after shut. follows_value after shut;
  spelled = λ part after. sym (declarator_append d (equal_token ∷ []) (initial_text part after));
  is_phrase = λ part is. record { declarator = t.is_phrase; initial = is };
  low = λ part is low. omega (arith, low, fits, less);
  rises = λ part high. omega (arith, high, less);
}

-- the value was refused
pub declared_value_refused : (names : Names) (limit inner : ℕ) → limit ≡ 1 + inner
    → (d : Declarator) (deep : Bool) → Took (ObjectDeclarators names) limit d equal_token deep → declarator_height d ≤ inner
    → (front : Kinds) (next : TokenKind) (deep' : Bool) → Refused (Values names) inner front next deep'
    → Refused (Objects names) limit (declarator_text d (equal_token ∷ []) ++ front) next deep'
declared_value_refused names limit inner less d deep t fits front next deep' r =
    tail_refused (Objects names) (Values names) limit inner (declarator_text d (equal_token ∷ [])) (λ i. declared_of d (Some i)) (λ rest. Unit {0})
    (values_law names) (value_tail names limit inner less d deep t fits) front next deep' (λ following near. tt) r

-- the value was taken
pub declared_value_took : (names : Names) (limit inner : ℕ) → limit ≡ 1 + inner
    → (d : Declarator) (deep : Bool) → Took (ObjectDeclarators names) limit d equal_token deep → declarator_height d ≤ inner
    → (i : Initial) (next : TokenKind) (deep' : Bool) → Took (Values names) inner i next deep'
    → Took (Objects names) limit (declared_of d (Some i)) next deep'
declared_value_took names limit inner less d deep t fits i next deep' t' =
    tail_took (Objects names) (Values names) limit inner (declarator_text d (equal_token ∷ [])) (λ i. declared_of d (Some i)) (λ rest. Unit {0})
    (values_law names) (value_tail names limit inner less d deep t fits) i next deep' (λ following near. tt) t'
