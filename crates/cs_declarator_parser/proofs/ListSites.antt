-- Lists between braces, enumeration constants and initializers: the result of each return. For the contracts of `constants`,
-- `constant`, `initial` and `items`.
use Rattle.std.proofs.Common.{◌≡◌, ℕ, ◌+◌, ◌<◌, ◌≤◌, ◌&&◌, not, Bool, true, false, if◌then◌else◌, map, Some, None, List, []}
use Rattle.std.proofs.Common.{◌∷◌, length, refl, sym, ap, ◌∙◌, subst, arith}
use Rattle.std.proofs.lemmas.Bool.{false≢true}
use Rattle.cs_ast.specs.declared.token.Token.{Token}
use Rattle.cs_ast.specs.declared.token.TokenKind.{TokenKind}
use Rattle.cs_ast.specs.declared.token.TokenKind.TheVariants as token
use Rattle.cs_ast.specs.declared.token.Punctuator.TheVariants as punctuator
use Rattle.cs_ast.specs.declared.raw.declaration.RawEnumerator.{RawEnumerator}
use Rattle.cs_ast.specs.declared.raw.declaration.RawInitial.{RawInitial}
use Rattle.cs_ast.specs.declared.raw.expression.RawExpr.{RawExpr}
use Rattle.cs_ast.specs.RawView.{written}
use Rattle.cs_ast.specs.RawDeclarations.{Initial, MoreItems, Single as One}
use Rattle.cs_ast.specs.RawDeclarationView.{constant, initial, initials_list}
use Rattle.cs_grammar.specs.declared.refusal.Reason.{Reason}
use Rattle.cs_grammar.specs.declared.refusal.Reason.TheVariants.{TooDeep}
use Rattle.cs_grammar.specs.TypeWords.{Names}
use Rattle.cs_grammar.specs.Text.{Kinds, text}
use Rattle.cs_grammar.specs.FileText.{initial_text, comma_text}
use Rattle.cs_grammar.specs.FirstTokens.{begins_expression}
use Rattle.cs_grammar.specs.FilePhrases.{IsFree}
use Rattle.cs_grammar.specs.Parsing.{Class, Expressions, Took, Refused}
use Rattle.cs_grammar.specs.Composed.{Trailing}
use Rattle.cs_grammar.specs.DeclarationClasses.{Constants, Values}
use Rattle.cs_grammar.proofs.Holes.{exact_took}
use Rattle.cs_grammar.proofs.Tails.{none_refused}
use Rattle.cs_grammar.proofs.Pairs.{single_took}
use Rattle.cs_grammar.proofs.Rows.{comma_token, Separates}
use Rattle.cs_grammar.proofs.Bodies.{ConstantValues, constant_of, constant_single, constant_missing, constant_alone, constant_full, constant_value_refused}
use Rattle.cs_grammar.proofs.Bodies.{constant_value_took}
use Rattle.cs_grammar.proofs.InitialValues.{items_of, items_text, items_tall, value_first, value_has, value_refused, value_took, listed_of, list_single}
use Rattle.cs_grammar.proofs.InitialValues.{list_full}
use Rattle.cs_expr_parser.specs.Positions.{kind_or_end}
use Rattle.cs_expr_parser.specs.Parts.{Spells, IsRefused, is_deep}
use Rattle.cs_declarator_parser.specs.declared.source.Scope.{Scope}
use Rattle.cs_expr_parser.specs.declared.stop.Stop.{Stop}
use Rattle.cs_expr_parser.specs.declared.stop.Stop.TheVariants as stop
use Rattle.cs_declarator_parser.specs.declared.stop.Unclosed.{Unclosed}
use Rattle.cs_declarator_parser.specs.Reasons.{plain_reason}
use Rattle.cs_declarator_parser.specs.Answers.{Stops, IsUnclosed}
use Rattle.cs_declarator_parser.specs.DeclarationAnswers.{IsNameAt, IsConstantOf, goes_on, is_comma, is_closing_brace, is_designator}
use Rattle.cs_expr_parser.proofs.Standing.{spells_one, spells_none, spells_more, spells_as}
use Rattle.cs_expr_parser.proofs.Stopping.{refused_here}
use Rattle.cs_declarator_parser.proofs.PartStops.{stops_in, stops_pass, stops_plain, plain_flat, single_stops, no_fits}
use Rattle.cs_declarator_parser.specs.Aptness.{IsApt}
use Rattle.cs_declarator_parser.proofs.RowSites.{TrailingRow, trailing_missing, IsRowTaken}

abbrev pub close_brace : TokenKind
close_brace = token.Punctuator punctuator.CloseBrace

pub comma_stands : (next : TokenKind) → is_comma next ≡ true → next ≡ comma_token
comma_stands (token.Punctuator punctuator.Comma) e = refl
comma_stands _ e = absurd cc

pub brace_stands : (next : TokenKind) → is_closing_brace next ≡ true → next ≡ close_brace
brace_stands (token.Punctuator punctuator.CloseBrace) e = refl
brace_stands _ e = absurd cc

list_goes_on : (first second : Bool) → (first && not second) ≡ true → (first ≡ true) × (second ≡ false)
list_goes_on true false e = (refl, refl)
list_goes_on true true e = absurd (false≢true e)
list_goes_on false second e = absurd (false≢true e)

-- another phrase is expected after a comma
pub next_stands : (first second : TokenKind) → goes_on first second ≡ true → (first ≡ comma_token) × (second ≡ close_brace → ⊥)
next_stands first second e =
    let b = list_goes_on (is_comma first) (is_closing_brace second) e in
    (comma_stands first b.0, λ k. false≢true (sym b.1 ∙ ap is_closing_brace k))

list_ends : (first second : Bool) → (first && not second) ≡ false → first ≡ true → second ≡ true
list_ends true true e f = refl
list_ends true false e f = absurd (false≢true (sym e))
list_ends false second e f = absurd (false≢true f)

-- the token after a comma that ends a list is a brace
pub brace_after : (first second : TokenKind) → goes_on first second ≡ false → first ≡ comma_token → second ≡ close_brace
brace_after first second e k = brace_stands second (list_ends (is_comma first) (is_closing_brace second) e (ap is_comma k))

-- no brace closes a list
pub list_unclosed : (D : Class) (limit : ℕ) → (s : Separates D close_brace)
    → (none : (d : D.Tree) (after more : Kinds) → D.Is d → D.spell d after ≡ close_brace ∷ more → ⊥)
    → (tokens : List Token) (from : ℕ) (done : List D.Tree) (last : D.Tree) (next : ℕ) (reason : Reason) (tall : ℕ)
    → TrailingRow D close_brace limit tokens from done last next (is_deep reason) tall
    → (comma : Bool) → ((comma ≡ true → kind_or_end tokens next ≡ comma_token) × (kind_or_end tokens next ≡ comma_token → comma ≡ true))
    → goes_on (kind_or_end tokens next) (kind_or_end tokens (next + 1)) ≡ false
    → (kind_or_end tokens (if comma then next + 1 else next) ≡ close_brace → ⊥)
    → IsRefused (Trailing D close_brace) limit tokens from (if comma then next + 1 else next) reason
list_unclosed D limit s none tokens from done last next reason tall r true stands ends other =
    absurd (other (brace_after (kind_or_end tokens next) (kind_or_end tokens (next + 1)) ends (stands.0 refl)))
list_unclosed D limit s none tokens from done last next reason tall r false stands ends other =
    trailing_missing D close_brace limit s none tokens from done last next reason tall r (λ k. false≢true (stands.1 k)) other

-- the token that doesn't close the list is the one after its last part
pub unclosed_apt : (scope : Scope) (tokens : List Token) (next : ℕ) (reason : Reason) (comma : Bool)
    → (comma ≡ true → kind_or_end tokens next ≡ comma_token) → goes_on (kind_or_end tokens next) (kind_or_end tokens (next + 1)) ≡ false
    → (kind_or_end tokens (if comma then next + 1 else next) ≡ close_brace → ⊥) → IsApt scope (kind_or_end tokens next) reason
    → IsApt scope (kind_or_end tokens (if comma then next + 1 else next)) reason
unclosed_apt scope tokens next reason true stands ends other a =
    absurd (other (brace_after (kind_or_end tokens next) (kind_or_end tokens (next + 1)) ends (stands refl)))
unclosed_apt scope tokens next reason false stands ends other a = a

-- what was taken of a class, written differently
pub unclosed_as : {A : Type 0} (C : Class) (view : A → C.Tree) (limit : ℕ) (tokens : List Token) (from : ℕ) (tree : C.Tree) (tall next : ℕ)
    (deep : Bool) (taken : Unclosed A) → tall ≡ C.tall tree → Spells tokens from next (C.spell tree) → Took C limit tree (kind_or_end tokens next) deep
    → view taken.tree ≡ tree → taken.height ≡ tall → taken.next ≡ next → is_deep taken.otherwise ≡ deep
    → IsUnclosed C view limit tokens from taken
unclosed_as C view limit tokens from tree tall next deep taken h sp t is tallness number why = record {
  height_is = tallness ∙ h ∙ ap C.tall (sym is);
  spelled =
      subst (λ (n : ℕ). Spells tokens from n (C.spell (view taken.tree))) (sym number)
      (subst (λ (x : C.Tree). Spells tokens from next (C.spell x)) (sym is) sp);
  took =
      subst (λ (n : ℕ). Took C limit (view taken.tree) (kind_or_end tokens n) (is_deep taken.otherwise)) (sym number)
      (subst (λ (d : Bool). Took C limit (view taken.tree) (kind_or_end tokens next) d) (sym why)
      (subst (λ (x : C.Tree). Took C limit x (kind_or_end tokens next) deep) (sym is) t));
}

-- the next token can't be the name of a constant
pub constant_stops : (names : Names) (limit : ℕ) (tokens : List Token) (from : ℕ) (scope : Scope) (s : Stop) → from ≤ length tokens
    → IsNameAt (IsFree names) (kind_or_end tokens from) None → s ≡ stop.Refused from (plain_reason scope (kind_or_end tokens from))
    → Stops (Constants names) limit tokens from s
constant_stops names limit tokens from scope s within none is =
    stops_plain (Constants names) limit tokens from from scope [] s (spells_none tokens from within) is
    (constant_missing names limit (kind_or_end tokens from) none)

name_spelled : (tokens : List Token) (from : ℕ) (name : List ℕ) → kind_or_end tokens from ≡ token.Name name
    → Spells tokens from (from + 1) (λ rest. token.Name name ∷ rest)
name_spelled tokens from name k = spells_one tokens from (token.Name name) k (λ x. cc)

-- a constant without a value
pub lone_taken : (names : Names) (limit inner : ℕ) → limit ≡ 1 + inner
    → (tokens : List Token) (from : ℕ) (name : List ℕ) → kind_or_end tokens from ≡ token.Name name → IsFree names name
    → (kind_or_end tokens (from + 1) ≡ token.Punctuator punctuator.Equal → ⊥)
    → (scope : Scope) (taken : Unclosed RawEnumerator) → IsConstantOf name None taken.tree → taken.height ≡ 1 → taken.next ≡ from + 1
    → taken.otherwise ≡ plain_reason scope (kind_or_end tokens (from + 1)) → IsUnclosed (Constants names) constant limit tokens from taken
lone_taken names limit inner less tokens from name k free other scope taken is tall next why =
    unclosed_as (Constants names) constant limit tokens from (constant_of name None) 1 (from + 1) false taken (omega arith) (name_spelled tokens from name k)
    (single_took (constant_single names name free) limit inner (less, omega arith) None (kind_or_end tokens (from + 1)) false (λ following near. tt)
    (constant_alone names inner (kind_or_end tokens (from + 1)) other))
    is tall next (ap is_deep why ∙ plain_flat scope (kind_or_end tokens (from + 1)))

-- the limit doesn't allow a value
pub lone_full : (names : Names) (limit : ℕ) → 1 ≤ limit → limit < 2
    → (tokens : List Token) (from : ℕ) (name : List ℕ) → kind_or_end tokens from ≡ token.Name name → IsFree names name
    → kind_or_end tokens (from + 1) ≡ token.Punctuator punctuator.Equal → (taken : Unclosed RawEnumerator) → IsConstantOf name None taken.tree
    → taken.height ≡ 1 → taken.next ≡ from + 1 → taken.otherwise ≡ TooDeep → IsUnclosed (Constants names) constant limit tokens from taken
lone_full names limit some little tokens from name k free equal taken is tall next why =
    unclosed_as (Constants names) constant limit tokens from (constant_of name None) 1 (from + 1) true taken (omega arith) (name_spelled tokens from name k)
    (subst (λ (x : TokenKind). Took (Constants names) limit (constant_of name None) x true) (sym equal)
    (single_took (constant_single names name free) limit 0 (omega arith, omega arith) None (token.Punctuator punctuator.Equal) true (λ following near. tt)
    (constant_full names)))
    is tall next (ap is_deep why)

two_on : (tokens : List Token) (from : ℕ) → kind_or_end tokens (from + 1) ≡ token.Punctuator punctuator.Equal
    → Spells tokens (from + 1) (from + 2) (λ rest. token.Punctuator punctuator.Equal ∷ rest)
two_on tokens from equal = subst (λ (n : ℕ). Spells tokens (from + 1) n (λ rest. token.Punctuator punctuator.Equal ∷ rest))
    (let e : from + 1 + 1 ≡ from + 2 = omega arith in e) (spells_one tokens (from + 1) (token.Punctuator punctuator.Equal) equal (λ x. cc))

-- the value of a constant was refused
pub value_stops : (names : Names) (limit inner : ℕ) → limit ≡ 1 + inner → 1 ≤ inner
    → (tokens : List Token) (from : ℕ) (name : List ℕ) → kind_or_end tokens from ≡ token.Name name → IsFree names name
    → kind_or_end tokens (from + 1) ≡ token.Punctuator punctuator.Equal → (s : Stop) → Stops (Expressions names 2) inner tokens (from + 2) s
    → Stops (Constants names) limit tokens from s
value_stops names limit inner less some tokens from name k free equal s r =
    single_stops (constant_single names name free) limit inner (less, omega arith) tokens from (from + 1) (name_spelled tokens from name k)
    (no_fits tokens (from + 1)) s
    (stops_in (ConstantValues names) (Expressions names 2) inner inner tokens (from + 1) (from + 2) (token.Punctuator punctuator.Equal ∷ [])
    (two_on tokens from equal)
    (λ front at deep here x. constant_value_refused names inner some front (kind_or_end tokens at) deep x) s r)

pub value_taken : (names : Names) (limit inner : ℕ) → limit ≡ 1 + inner → 1 ≤ inner
    → (tokens : List Token) (from : ℕ) (name : List ℕ) → kind_or_end tokens from ≡ token.Name name → IsFree names name
    → kind_or_end tokens (from + 1) ≡ token.Punctuator punctuator.Equal
    → (value : Unclosed RawExpr) → IsUnclosed (Expressions names 2) written inner tokens (from + 2) value
    → (taken : Unclosed RawEnumerator) → IsConstantOf name (Some (written value.tree)) taken.tree → taken.height ≡ value.height + 1
    → taken.next ≡ value.next → taken.otherwise ≡ value.otherwise → IsUnclosed (Constants names) constant limit tokens from taken
value_taken names limit inner less some tokens from name k free equal value v taken is tall next why =
    unclosed_as (Constants names) constant limit tokens from (constant_of name (Some (written value.tree))) (value.height + 1) value.next
    (is_deep value.otherwise) taken
    (let h = v.height_is in omega (arith, h))
    (spells_more tokens from (from + 1) value.next (λ rest. token.Name name ∷ rest)
    (λ rest. token.Punctuator punctuator.Equal ∷ text (written value.tree) rest) (name_spelled tokens from name k)
    (spells_more tokens (from + 1) (from + 2) value.next (λ rest. token.Punctuator punctuator.Equal ∷ rest) (text (written value.tree))
    (two_on tokens from equal) v.spelled))
    (single_took (constant_single names name free) limit inner (less, omega arith) (Some (written value.tree)) (kind_or_end tokens value.next)
    (is_deep value.otherwise) (λ following near. tt)
    (constant_value_took names inner some (written value.tree) (kind_or_end tokens value.next) (is_deep value.otherwise) v.took))
    is tall next (ap is_deep why)

-- no initializer begins with the token
pub no_value_stops : (names : Names) (limit : ℕ) (tokens : List Token) (from : ℕ) (reason : Reason) → from ≤ length tokens → is_deep reason ≡ false
    → begins_expression names (kind_or_end tokens from) ≡ false → (kind_or_end tokens from ≡ token.Punctuator punctuator.OpenBrace → ⊥)
    → IsRefused (Values names) limit tokens from from reason
no_value_stops names limit tokens from reason within plain none other = record {
  front = [];
  spelled = spells_none tokens from within;
  refused =
      subst (λ (d : Bool). Refused (Values names) limit [] (kind_or_end tokens from) d) (sym plain)
      (none_refused (Values names) limit (kind_or_end tokens from) (λ i after is same. value_has names i after is same)
      (λ i after more is same. value_first names i after (kind_or_end tokens from) more is none other same));
}

-- the expression was refused
pub single_value_stops : (names : Names) (limit : ℕ) → 1 ≤ limit
    → (tokens : List Token) (from : ℕ) → (kind_or_end tokens from ≡ token.Punctuator punctuator.OpenBrace → ⊥)
    → (s : Stop) → Stops (Expressions names 1) limit tokens from s → Stops (Values names) limit tokens from s
single_value_stops names limit some tokens from other s r =
    stops_pass (Values names) (Expressions names 1) limit limit tokens from
    (λ front at deep here x.
    value_refused names limit some front (kind_or_end tokens at) deep (λ empty brace. other (sym (refused_here tokens from at front here empty) ∙ brace))
    x) s r

pub single_value_taken : (names : Names) (limit : ℕ) → 1 ≤ limit
    → (tokens : List Token) (from : ℕ) (value : Unclosed RawExpr) → IsUnclosed (Expressions names 1) written limit tokens from value
    → (taken : Unclosed RawInitial) → initial taken.tree ≡ One (written value.tree) → taken.height ≡ value.height → taken.next ≡ value.next
    → taken.otherwise ≡ value.otherwise → IsUnclosed (Values names) initial limit tokens from taken
single_value_taken names limit some tokens from value v taken is tall next why =
    unclosed_as (Values names) initial limit tokens from (One (written value.tree)) value.height value.next (is_deep value.otherwise) taken v.height_is
    v.spelled
    (value_took names limit some (written value.tree) (kind_or_end tokens value.next) (is_deep value.otherwise) v.took) is tall next (ap is_deep why)

-- the limit doesn't allow a list
pub list_full_stops : (names : Names) (limit : ℕ) (tokens : List Token) (from : ℕ) → from ≤ length tokens → limit < 2
    → kind_or_end tokens from ≡ token.Punctuator punctuator.OpenBrace → IsRefused (Values names) limit tokens from from TooDeep
list_full_stops names limit tokens from within little k = record {
  front = [];
  spelled = spells_none tokens from within;
  refused = subst (λ (x : TokenKind). Refused (Values names) limit [] x true) (sym k) (list_full names limit little);
}

-- the items between the braces were refused
pub items_stop : (names : Names) (limit inner : ℕ) → limit ≡ 1 + inner → 1 ≤ inner
    → (tokens : List Token) (from : ℕ) → kind_or_end tokens from ≡ token.Punctuator punctuator.OpenBrace
    → (s : Stop) → Stops (Trailing (Values names) close_brace) inner tokens (from + 1) s → Stops (Values names) limit tokens from s
items_stop names limit inner less some tokens from k s r =
    single_stops (list_single names) limit inner (less, some) tokens from (from + 1)
    (spells_one tokens from (token.Punctuator punctuator.OpenBrace) k (λ x. cc)) (no_fits tokens (from + 1)) s r

pub items_taken : (names : Names) (limit inner : ℕ) → limit ≡ 1 + inner → 1 ≤ inner
    → (tokens : List Token) (from next : ℕ) → kind_or_end tokens from ≡ token.Punctuator punctuator.OpenBrace
    → (row : List Initial × Bool) (tall : ℕ) → IsRowTaken (Values names) close_brace inner tokens (from + 1) next row tall
    → (taken : Unclosed RawInitial) → initial taken.tree ≡ listed_of row → taken.height ≡ tall + 1 → taken.next ≡ next
    → is_deep taken.otherwise ≡ false → IsUnclosed (Values names) initial limit tokens from taken
items_taken names limit inner less some tokens from next k row tall r taken is tallness number why =
    unclosed_as (Values names) initial limit tokens from (listed_of row) (tall + 1) next false taken
    (let h = r.height_is in let g = items_tall row.0 in omega (arith, h, g))
    (spells_as tokens from next (λ rest. token.Punctuator punctuator.OpenBrace ∷ (Trailing (Values names) close_brace).spell row rest)
    (initial_text (listed_of row))
    (spells_more tokens from (from + 1) next (λ rest. token.Punctuator punctuator.OpenBrace ∷ rest) ((Trailing (Values names) close_brace).spell row)
    (spells_one tokens from (token.Punctuator punctuator.OpenBrace) k (λ x. cc)) r.spelled)
    (λ rest. ap (λ (x : Kinds). token.Punctuator punctuator.OpenBrace ∷ x) (sym (items_text row.0 (comma_text row.1 (close_brace ∷ rest))))))
    (single_took (list_single names) limit inner (less, some) row (kind_or_end tokens next) false (λ following near. tt)
    (exact_took (Trailing (Values names) close_brace) inner row r.exactly (kind_or_end tokens next)))
    is tallness number why

-- the items of a list, as a list
pub items_listed : (list : List RawInitial) → initials_list list ≡ items_of (map initial list)
items_listed [] = refl
items_listed (i ∷ is) = ap (MoreItems (initial i)) (items_listed is)

designator_is : (next : TokenKind) → is_designator next ≡ true
    → ((names : Names) → begins_expression names next ≡ false) × (next ≡ token.Punctuator punctuator.OpenBrace → ⊥)
designator_is (token.Punctuator punctuator.Dot) e = (λ names. refl, λ k. cc)
designator_is (token.Punctuator punctuator.OpenBracket) e = (λ names. refl, λ k. cc)
designator_is _ e = absurd cc

-- a designator
pub designator_stops : (names : Names) (limit : ℕ) (tokens : List Token) (from : ℕ) (reason : Reason) → from ≤ length tokens
    → is_deep reason ≡ false → is_designator (kind_or_end tokens from) ≡ true → IsRefused (Values names) limit tokens from from reason
designator_stops names limit tokens from reason within plain is =
    let d = designator_is (kind_or_end tokens from) is in
    no_value_stops names limit tokens from reason within plain (d.0 names) d.1
