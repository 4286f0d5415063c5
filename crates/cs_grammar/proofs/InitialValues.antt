-- Initializers: expressions and lists between braces. For the contracts of every parser of declarations.
use Rattle.std.proofs.Common.{◌≡◌, ℕ, ◌+◌, ◌<◌, ◌≤◌, max, inl, inr, Bool, true, false, List, [], ◌∷◌, ◌++◌, refl, sym, ap}
use Rattle.std.proofs.Common.{◌∙◌, arith}
use Rattle.std.proofs.lemmas.Bool.{false≢true}
use Rattle.cs_ast.specs.declared.token.TokenKind.{TokenKind}
use Rattle.cs_ast.specs.declared.token.TokenKind.TheVariants as token
use Rattle.cs_ast.specs.declared.token.Punctuator.TheVariants as punctuator
use Rattle.cs_ast.specs.RawTree.{Written}
use Rattle.cs_ast.specs.RawDeclarations.{Initial, Single as One, Listed, Initials, NoItem, MoreItems}
use Rattle.cs_ast.specs.RawFileHeight.{highest_by, initial_height, initials_height}
use Rattle.cs_grammar.specs.TypeWords.{Names}
use Rattle.cs_grammar.specs.Text.{Kinds, text}
use Rattle.cs_grammar.specs.Phrases.{IsPhrase}
use Rattle.cs_grammar.specs.FirstTokens.{begins_expression}
use Rattle.cs_grammar.specs.Continuing.{join_of}
use Rattle.cs_grammar.specs.FileText.{comma_text, with_commas, each_after_comma, initial_text, initials_text, further_initials_text}
use Rattle.cs_grammar.specs.FilePhrases.{AreAll, IsSomeList, IsInitial, AreInitials}
use Rattle.cs_grammar.specs.DeclarationClasses.{Follows, ends_value, Values}
use Rattle.cs_grammar.specs.Parsing.{Expressions, Near, Took, Refused}
use Rattle.cs_grammar.specs.Composed.{Trailing}
use Rattle.cs_grammar.proofs.Levels.{text_law}
use Rattle.cs_grammar.proofs.FileTexts.{initial_append}
use Rattle.cs_grammar.proofs.Beginnings.{expression_begins}
use Rattle.cs_grammar.proofs.FileBeginnings.{first_passes}
use Rattle.cs_grammar.proofs.Optional.{no_empty}
use Rattle.cs_grammar.proofs.Holes.{Lawful}
use Rattle.cs_grammar.proofs.Tails.{Least, full_refused}
use Rattle.cs_grammar.proofs.Rows.{Separates}
use Rattle.cs_grammar.proofs.TrailingRows.{NoneCloses, trailing_law, trailing_least}
use Rattle.cs_grammar.proofs.Pairs.{Single, single_refused, single_took}
use Rattle.cs_grammar.proofs.Statements.{open_brace, close_brace}
use Rattle.cs_grammar.proofs.StatementParts.{nought, expression_height, expression_least}

-- items as a list, and a list as items
abbrev pub items_of : List Initial → Initials
items_of [] = NoItem
items_of (i ∷ list) = MoreItems i (items_of list)

abbrev pub list_of : Initials → List Initial
list_of NoItem = []
list_of (MoreItems i items) = i ∷ list_of items

items_again : (items : Initials) → items_of (list_of items) ≡ items
items_again NoItem = refl
items_again (MoreItems i items) = ap (MoreItems i) (items_again items)

further_text : (list : List Initial) (rest : Kinds) → further_initials_text (items_of list) rest ≡ each_after_comma initial_text list rest
further_text [] rest = refl
further_text (i ∷ list) rest = ap (λ (r : Kinds). token.Punctuator punctuator.Comma ∷ initial_text i r) (further_text list rest)

pub items_text : (list : List Initial) (rest : Kinds) → initials_text (items_of list) rest ≡ with_commas initial_text list rest
items_text [] rest = refl
items_text (i ∷ list) rest = ap (initial_text i) (further_text list rest)

pub items_tall : (list : List Initial) → initials_height (items_of list) ≡ highest_by initial_height list
items_tall [] = refl
items_tall (i ∷ list) = ap (max (initial_height i)) (items_tall list)

items_are : (names : Names) (list : List Initial) → AreAll (IsInitial names) list → AreInitials names (items_of list)
items_are names [] are = tt
items_are names (i ∷ list) are = (are.0, items_are names list are.1)

list_is : (names : Names) (items : Initials) → AreInitials names items → AreAll (IsInitial names) (list_of items)
list_is names NoItem are = tt
list_is names (MoreItems i items) are = (are.0, list_is names items are.1)

pub value_height : (i : Initial) → 1 ≤ initial_height i
value_height (One e) = expression_height e
value_height (Listed items comma) = omega arith

pub values_law : (names : Names) → Lawful (Values names)
values_law names = initial_append

abbrev pub values_least : (names : Names) → Least (Values names)
values_least names = record { tree = One nought; is_phrase = (omega arith, tt); below = λ other is. let h = value_height other in omega (arith, h) }

-- an initializer begins with a token that begins an expression or a list
pub value_first : (names : Names) (i : Initial) (after : Kinds) (t : TokenKind) (more : Kinds) → IsInitial names i → begins_expression names t ≡ false
    → (t ≡ open_brace → ⊥) → initial_text i after ≡ t ∷ more → ⊥
value_first names (One e) after t more is none brace same =
    false≢true (sym none ∙ first_passes (begins_expression names) (text e after) t more (expression_begins names e after is.1) same)
value_first names (Listed items comma) after t more is none brace same = brace cc

pub value_has : (names : Names) (i : Initial) (after : Kinds) → IsInitial names i → initial_text i after ≡ [] → ⊥
value_has names (One e) after is same = no_empty names 1 e after is same
value_has names (Listed items comma) after is same = cc

pub brace_differs : close_brace ≡ token.Punctuator punctuator.Comma → ⊥
brace_differs e = cc

abbrev pub value_row : (names : Names) → Separates (Values names) close_brace
value_row names = record { law = values_law names; least = values_least names; comma = λ d more. refl; closed = λ d more. refl; differs = brace_differs }

pub no_value_closes : (names : Names) → NoneCloses (Values names) close_brace
no_value_closes names = λ i after more is same. value_first names i after close_brace more is refl (λ e. cc) same

-- what ends an initializer doesn't continue an expression
pub value_shut : (after : Kinds) → Follows ends_value after → join_of after ≤ 1
value_shut [] f = omega arith
value_shut (token.Punctuator punctuator.Comma ∷ x) f = omega arith
value_shut (token.Punctuator punctuator.Semicolon ∷ x) f = omega arith
value_shut (token.Punctuator punctuator.CloseBrace ∷ x) f = omega arith
value_shut _ f = absurd (false≢true f)

-- the first token isn't a brace
abbrev pub HasNoBrace : Kinds → Type 0
HasNoBrace following = (more : Kinds) → following ≡ open_brace ∷ more → ⊥

pub one_invert : (names : Names) (whole : Initial) (after following : Kinds) → IsInitial names whole → HasNoBrace following
    → initial_text whole after ≡ following → (part : Written) × (whole ≡ One part) × IsPhrase names 1 part × (following ≡ text part after)
one_invert names (One e) after following is fit same = (e, refl, is, sym same)
one_invert names (Listed items comma) after following is fit same = absurd (fit (initials_text items (comma_text comma (close_brace ∷ after))) (sym same))

-- an expression
abbrev pub value_single : (names : Names) → Single (Values names) (Expressions names 1) 0 [] One HasNoBrace
value_single names = record {
  production = record {
    invert = λ whole after following is fit same. one_invert names whole after following is fit same;
    shut = λ part after shut. value_shut after shut;
    spelled = λ part after. refl;
    is_phrase = λ part is. is;
    taller = λ part. omega arith;
  };
  law = text_law names 1;
  least = expression_least names 1 (omega arith);
}

no_brace_text : (names : Names) (e : Written) (x : Kinds) → IsPhrase names 1 e → HasNoBrace (text e x)
no_brace_text names e x is more same = false≢true (first_passes (begins_expression names) (text e x) open_brace more (expression_begins names e x is.1) same)

front_no_brace : (names : Names) (limit : ℕ) (front : Kinds) (next : TokenKind) (deep : Bool) → (front ≡ [] → next ≡ open_brace → ⊥)
    → Refused (Expressions names 1) limit front next deep → (following : Kinds) → Near next following → HasNoBrace (front ++ following)
front_no_brace names limit [] next deep other r following near more same =
    elim near [ inl e ↦ let z = sym same ∙ e in cc | inr m ↦ let z : open_brace ∷ more ≡ next ∷ m.0 = sym same ∙ m.1 in other refl cc ]
front_no_brace names limit (f ∷ fs) next deep other r following near more same =
    elim r.begun [
      | inl e ↦ cc
      | inr b ↦
          let k : f ≡ open_brace = cc in
          no_brace_text names b.phrase [] b.is_phrase (fs ++ b.more) (b.spelled ∙ ap (λ (x : TokenKind). x ∷ (fs ++ b.more)) k)
    ]

-- the expression was refused
pub value_refused : (names : Names) (limit : ℕ) → 1 ≤ limit
    → (front : Kinds) (next : TokenKind) (deep : Bool) → (front ≡ [] → next ≡ open_brace → ⊥)
    → Refused (Expressions names 1) limit front next deep → Refused (Values names) limit front next deep
value_refused names limit some front next deep other r =
    single_refused (value_single names) limit limit (omega arith, some) front next deep (front_no_brace names limit front next deep other r) r

-- the expression was taken
pub value_took : (names : Names) (limit : ℕ) → 1 ≤ limit
    → (e : Written) (next : TokenKind) (deep : Bool) → Took (Expressions names 1) limit e next deep → Took (Values names) limit (One e) next deep
value_took names limit some e next deep t =
    single_took (value_single names) limit limit (omega arith, some) e next deep (λ following near. no_brace_text names e following t.is_phrase) t

-- the list with these items
abbrev pub listed_of : List Initial × Bool → Initial
listed_of row = Listed (items_of row.0) row.1

abbrev pub ListRow : Type 0
ListRow = List Initial × Bool

pub listed_is : (names : Names) (list : List Initial) (comma : Bool) → IsSomeList list → AreAll (IsInitial names) list
    → IsInitial names (Listed (items_of list) comma)
listed_is names [] comma some are = absurd some
listed_is names (i ∷ list) comma some are = (are.0, items_are names list are.1)

pub list_invert : (names : Names) (whole : Initial) (after following : Kinds) → IsInitial names whole
    → initial_text whole after ≡ open_brace ∷ following
    → (part : ListRow) × (whole ≡ listed_of part) × (IsSomeList part.0 × AreAll (IsInitial names) part.0)
    × (following ≡ with_commas initial_text part.0 (comma_text part.1 (close_brace ∷ after)))
list_invert names (One e) after following is same = absurd (no_brace_text names e after is following same)
list_invert names (Listed NoItem comma) after following is same = absurd is
list_invert names (Listed (MoreItems i items) comma) after following is same = (
  (i ∷ list_of items, comma),
  ap (λ (x : Initials). Listed (MoreItems i x) comma) (sym (items_again items)),
  (tt, (is.0, list_is names items is.1)),
  let k : following ≡ initial_text i (further_initials_text items (comma_text comma (close_brace ∷ after))) = cc in
      k ∙ ap (λ (x : Initials). initial_text i (further_initials_text x (comma_text comma (close_brace ∷ after)))) (sym (items_again items))
      ∙ ap (initial_text i) (further_text (list_of items) (comma_text comma (close_brace ∷ after))),
)

-- items between braces
abbrev pub list_single : (names : Names) → Single (Values names) (Trailing (Values names) close_brace) 1 (open_brace ∷ []) listed_of (λ rest. Unit {0})
list_single names = record {
  production = record {
    invert = λ whole after following is fit same. list_invert names whole after following is same;
    shut = λ part after shut. tt;
    spelled = λ part after. ap (λ (r : Kinds). open_brace ∷ r) (items_text part.0 (comma_text part.1 (close_brace ∷ after)));
    is_phrase = λ part is. listed_is names part.0 part.1 is.0 is.1;
    taller = λ part. ap (λ (n : ℕ). 1 + n) (items_tall part.0);
  };
  law = trailing_law (Values names) close_brace (values_law names);
  least = trailing_least (Values names) close_brace (values_least names);
}

items_height : (names : Names) (items : Initials) (comma : Bool) → IsInitial names (Listed items comma) → 2 ≤ initial_height (Listed items comma)
items_height names NoItem comma is = absurd is
items_height names (MoreItems i items) comma is = let h = value_height i in omega (arith, h)

brace_high : (names : Names) (limit : ℕ) → limit < 2 → (i : Initial) (after more : Kinds) → IsInitial names i
    → initial_text i after ≡ open_brace ∷ more → limit < initial_height i
brace_high names limit full (One e) after more is same = absurd (no_brace_text names e after is more same)
brace_high names limit full (Listed items comma) after more is same = let h = items_height names items comma is in omega (arith, h, full)

-- the limit doesn't allow a list
pub list_full : (names : Names) (limit : ℕ) → limit < 2 → Refused (Values names) limit [] open_brace true
list_full names limit full =
    full_refused (Values names) limit open_brace (value_has names) (λ i after more is same. brace_high names limit full i after more is same)
    (record {
      phrase = Listed (MoreItems (One nought) NoItem) false;
      more = text nought (close_brace ∷ []);
      is_phrase = ((omega arith, tt), tt);
      spelled = refl;
    })
