-- Each return of the parts that parse `for`, over indices of tokens.
use Rattle.std.proofs.Common.{◌≡◌, ℕ, ◌+◌, ◌-◌, ◌≤◌, max, inl, inr, Bool, true, false, List, [], ◌∷◌, ◌++◌, map, Option, Some}
use Rattle.std.proofs.Common.{None, length, refl, sym, ap, ◌∙◌, subst, arith}
use Rattle.std.proofs.lemmas.Bool.{false≢true}
use Rattle.std.specs.Option.{option_map}
use Rattle.cs_ast.specs.declared.token.Token.{Token}
use Rattle.cs_ast.specs.declared.token.TokenKind.{TokenKind}
use Rattle.cs_ast.specs.declared.token.Keyword.TheVariants as keyword
use Rattle.cs_ast.specs.declared.token.Punctuator.TheVariants as punctuator
use Rattle.cs_ast.specs.declared.raw.expression.RawExpr.{RawExpr}
use Rattle.cs_ast.specs.declared.raw.statement.RawFirst.{RawFirst}
use Rattle.cs_ast.specs.declared.raw.statement.RawStmt.{RawStmt}
use Rattle.cs_ast.specs.RawTree.{Written}
use Rattle.cs_ast.specs.RawView.{written}
use Rattle.cs_ast.specs.RawDeclarations.{Specs, Declared}
use Rattle.cs_ast.specs.RawDeclarationView.{specs, declared}
use Rattle.cs_ast.specs.RawStatements.{First, NoFirst, FirstRuns, FirstDeclares, Sentence, For}
use Rattle.cs_ast.specs.RawStatementView.{first_of, statement_of}
use Rattle.cs_ast.specs.RawFileHeight.{height_of_some, first_height}
use Rattle.cs_grammar.specs.TypeWords.{Names}
use Rattle.cs_grammar.specs.Text.{Kinds}
use Rattle.cs_grammar.specs.FirstTokens.{begins_expression, begins_type}
use Rattle.cs_grammar.specs.FileText.{declared_text, with_commas, some_text, declaration_text, first_text}
use Rattle.cs_grammar.specs.FilePhrases.{IsFirst}
use Rattle.cs_grammar.specs.FileClasses.{Firsts, Sentences}
use Rattle.cs_grammar.specs.Parsing.{Class, Near, Exactly}
use Rattle.cs_grammar.specs.Composed.{Sequence, ClosedSome}
use Rattle.cs_grammar.proofs.Beginnings.{expression_begins, begins_one}
use Rattle.cs_grammar.proofs.FileBeginnings.{block_specs_begin, first_passes}
use Rattle.cs_grammar.proofs.Holes.{Lawful, tail_refused}
use Rattle.cs_grammar.proofs.Tails.{Least, Production}
use Rattle.cs_grammar.proofs.Sequences.{sequence_law, sequence_least, after_law, after_least, after_tail, after_wrong, first_refused, exact_then_refused}
use Rattle.cs_grammar.proofs.Sequences.{exact_both}
use Rattle.cs_grammar.proofs.Pairs.{Pair}
use Rattle.cs_grammar.proofs.Optional.{some_law, some_least}
use Rattle.cs_grammar.proofs.Statements.{open_parenthesis, close_parenthesis, semicolon, word, runs_first, for_production}
use Rattle.cs_grammar.proofs.StatementParts.{sentences_law, sentences_least, firsts_law, firsts_least}
use Rattle.cs_expr_parser.specs.Positions.{kind_or_end}
use Rattle.cs_expr_parser.specs.Parts.{Spells}
use Rattle.cs_declarator_parser.specs.declared.source.Scope.TheVariants as scope
use Rattle.cs_expr_parser.specs.declared.stop.Stop.{Stop}
use Rattle.cs_declarator_parser.specs.declared.stop.Taken.{Taken}
use Rattle.cs_decl_parser.specs.declared.block.DeclaredObjects.{DeclaredObjects}
use Rattle.cs_decl_parser.specs.declared.loops.ForParts.{ForParts}
use Rattle.cs_decl_parser.specs.Nodes.{IsNode}
use Rattle.cs_declarator_parser.specs.Answers.{Stops, IsExactly, IsTaken}
use Rattle.cs_decl_parser.specs.Blocks.{Locals, local_of, Controls, control_of, first_if_any}
use Rattle.cs_expr_parser.proofs.Standing.{spells_none, spells_more}
use Rattle.cs_declarator_parser.proofs.PartStops.{StandingExactly, IsPlainStop, near_start, stops_in, stops_pass, stops_plain, front_of, pair_first_stops}
use Rattle.cs_declarator_parser.proofs.PartStops.{pair_second_stops, pair_stands}
use Rattle.cs_decl_parser.proofs.StatementSites.{word_stands, punctuator_stands, taken_stands, exact_stands, node_taken}
use Rattle.cs_decl_parser.proofs.Passing.{pass_stops, pass_exactly}
use Rattle.cs_decl_parser.proofs.LocalSites.{locals_law}

-- whether the first token begins a type
abbrev pub IsTyped : Bool → Names → Kinds → Type 0
IsTyped typed names tokens = (first : TokenKind) (more : Kinds) → tokens ≡ first ∷ more → begins_type names first ≡ typed

near_typed : (typed : Bool) (names : Names) (first : TokenKind) (tokens : Kinds) → begins_type names first ≡ typed → Near first tokens
    → IsTyped typed names tokens
near_typed typed names first tokens e near t more same =
    elim near [
      | inl none ↦ let z = sym same ∙ none in absurd cc
      | inr m ↦
          let z : t ∷ more ≡ first ∷ m.0 = sym same ∙ m.1 in
          let k : t ≡ first = cc in
          ap (begins_type names) k ∙ e
    ]

not_type : (names : Names) (t : TokenKind) (b : Bool) → begins_type names t ≡ b → begins_expression names t ≡ true → begins_type names t ≡ false
not_type names t false k e = k
not_type names t true k e = absurd (begins_one names t e k)

declares_invert : (names : Names) (whole : First) (after following : Kinds) → IsFirst names whole → IsTyped true names following
    → first_text whole after ≡ following → (part : Specs × List Declared) × (whole ≡ FirstDeclares part.0 part.1) × (Locals names).Is part
    × (following ≡ declaration_text part.0 part.1 after)
declares_invert names (FirstDeclares specs objects) after following is fit same = ((specs, objects), refl, is, sym same)
declares_invert names NoFirst after following is fit same = absurd (false≢true (fit semicolon after (sym same)))
declares_invert names (FirstRuns e) after following is fit same =
    let b = expression_begins names e (semicolon ∷ after) is.1 in
    absurd (begins_one names b.first b.passes (fit b.first b.others (sym same ∙ b.are)))

declares_production : (names : Names) → Production (Firsts names) (Locals names) 0 [] (λ part. FirstDeclares part.0 part.1) (IsTyped true names)
declares_production names = record {
  invert = λ whole after following is fit same. declares_invert names whole after following is fit same;
  shut = λ part after shut. tt;
  spelled = λ part after. refl;
  is_phrase = λ part is. is;
  taller = λ part. omega arith;
}

abbrev pub SomeBefore : Names → TokenKind → Class
SomeBefore names close = ClosedSome names 0 (Unit {0}) close

runs_invert : (names : Names) (whole : First) (after following : Kinds) → IsFirst names whole → IsTyped false names following
    → first_text whole after ≡ following → (part : Option Written) × (whole ≡ first_if_any part) × (SomeBefore names semicolon).Is part
    × (following ≡ some_text part (semicolon ∷ after))
runs_invert names NoFirst after following is fit same = (None, refl, tt, sym same)
runs_invert names (FirstRuns e) after following is fit same = (Some e, refl, is, sym same)
runs_invert names (FirstDeclares specs objects) after following is fit same =
    let b = block_specs_begin names specs (with_commas declared_text objects (semicolon ∷ after)) is.0 in
    absurd (false≢true (sym (fit b.first b.others (sym same ∙ b.are)) ∙ b.passes))

runs_spelled : (part : Option Written) (after : Kinds) → first_text (first_if_any part) after ≡ some_text part (semicolon ∷ after)
runs_spelled None after = refl
runs_spelled (Some e) after = refl

runs_is : (names : Names) (part : Option Written) → (SomeBefore names semicolon).Is part → IsFirst names (first_if_any part)
runs_is names None is = tt
runs_is names (Some e) is = is

runs_taller : (part : Option Written) → first_height (first_if_any part) ≡ 0 + height_of_some part
runs_taller None = omega arith
runs_taller (Some e) = omega arith

runs_production : (names : Names) → Production (Firsts names) (SomeBefore names semicolon) 0 [] first_if_any (IsTyped false names)
runs_production names = record {
  invert = λ whole after following is fit same. runs_invert names whole after following is fit same;
  shut = λ part after shut. tt;
  spelled = λ part after. runs_spelled part after;
  is_phrase = λ part is. runs_is names part is;
  taller = λ part. runs_taller part;
}

runs_typed : (names : Names) (part : Option Written) (following : Kinds) → (SomeBefore names semicolon).Is part
    → IsTyped false names (some_text part (semicolon ∷ following))
runs_typed names None following is first more same = let k : semicolon ≡ first = cc in ap (begins_type names) (sym k)
runs_typed names (Some e) following is first more same =
    not_type names first (begins_type names first) refl (runs_first names e (semicolon ∷ following) first more is same)

first_is : (names : Names) (limit : ℕ) (tokens : List Token) (from next : ℕ) (tree : First) (tall : ℕ) (whole : Taken RawFirst)
    → first_of whole.tree ≡ tree → whole.height ≡ tall → tall ≡ first_height tree → whole.next ≡ next
    → StandingExactly (Firsts names) limit tokens from next tree → IsExactly (Firsts names) first_of limit tokens from whole
first_is names limit tokens from next tree tall whole e height h later s = record {
  height_is = height ∙ h ∙ ap first_height (sym e);
  spelled = subst (λ (m : ℕ). Spells tokens from m (first_text (first_of whole.tree))) (sym later)
      (subst (λ (x : First). Spells tokens from next (first_text x)) (sym e) s.spelled);
  exactly = subst (λ (x : First). Exactly (Firsts names) limit x) (sym e) s.exactly;
}

-- the first part of a `for` is a declaration, which was refused
pub first_declares_stops : (names : Names) (limit : ℕ) (tokens : List Token) (from : ℕ) → begins_type names (kind_or_end tokens from) ≡ true
    → (s : Stop) → Stops (Locals names) limit tokens from s → Stops (Firsts names) limit tokens from s
first_declares_stops names limit tokens from e s r =
    pass_stops (Firsts names) (Locals names) (λ part. FirstDeclares part.0 part.1) (IsTyped true names) (declares_production names) (locals_law names) limit
    tokens from
    (λ front at here following near.
    near_typed true names (kind_or_end tokens from) (front ++ following) e (near_start tokens from at front here following near)) s r

-- a declaration was taken
pub first_declares_taken : (names : Names) (limit : ℕ) (tokens : List Token) (from : ℕ) (inner : Taken DeclaredObjects) (whole : Taken RawFirst)
    → IsExactly (Locals names) local_of limit tokens from inner
    → first_of whole.tree ≡ FirstDeclares (specs inner.tree.specs) (map declared inner.tree.objects.items) → whole.height ≡ inner.height
    → whole.next ≡ inner.next → IsExactly (Firsts names) first_of limit tokens from whole
first_declares_taken names limit tokens from inner whole t tree height later =
    let type = specs inner.tree.specs in
    let objects = map declared inner.tree.objects.items in
    let x = t.exactly in
    first_is names limit tokens from inner.next (FirstDeclares type objects) inner.height whole tree height t.height_is later
    (pass_exactly (Firsts names) (Locals names) (λ part. FirstDeclares part.0 part.1) (IsTyped true names) (declares_production names) limit tokens from
    inner.next (local_of inner.tree)
    (λ following first more same.
    first_passes (begins_type names) (declaration_text type objects following) first more
    (block_specs_begin names type (with_commas declared_text objects (semicolon ∷ following)) x.is_phrase.0) same)
    (exact_stands (Locals names) local_of limit tokens from inner t))

-- it isn't a declaration, and was refused
pub first_runs_stops : (names : Names) (limit : ℕ) (tokens : List Token) (from : ℕ) → begins_type names (kind_or_end tokens from) ≡ false
    → (s : Stop) → Stops (SomeBefore names semicolon) limit tokens from s → Stops (Firsts names) limit tokens from s
first_runs_stops names limit tokens from e s r =
    pass_stops (Firsts names) (SomeBefore names semicolon) first_if_any (IsTyped false names) (runs_production names) (some_law names 0 (Unit {0}) semicolon)
    limit tokens from
    (λ front at here following near.
    near_typed false names (kind_or_end tokens from) (front ++ following) e (near_start tokens from at front here following near)) s r

-- it was taken
pub first_runs_taken : (names : Names) (limit : ℕ) (tokens : List Token) (from : ℕ) (value : Taken (Option RawExpr)) (whole : Taken RawFirst)
    → IsExactly (SomeBefore names semicolon) (option_map written) limit tokens from value
    → first_of whole.tree ≡ first_if_any (option_map written value.tree) → whole.height ≡ value.height → whole.next ≡ value.next
    → IsExactly (Firsts names) first_of limit tokens from whole
first_runs_taken names limit tokens from value whole t tree height later =
    let part = option_map written value.tree in
    let x = t.exactly in
    let h = runs_taller part in
    let v = t.height_is in
    first_is names limit tokens from value.next (first_if_any part) value.height whole tree height (omega (arith, h, v)) later
    (pass_exactly (Firsts names) (SomeBefore names semicolon) first_if_any (IsTyped false names) (runs_production names) limit tokens from value.next part
    (λ following. runs_typed names part following x.is_phrase) (exact_stands (SomeBefore names semicolon) (option_map written) limit tokens from value t))

-- the parts between the parentheses of a `for`
abbrev Ends : Names → Class
Ends names = Sequence (SomeBefore names semicolon) (SomeBefore names close_parenthesis)

abbrev Parts : Names → Class
Parts names = Sequence (Firsts names) (Ends names)

some_before_law : (names : Names) (close : TokenKind) → Lawful (SomeBefore names close)
some_before_law names close = some_law names 0 (Unit {0}) close

abbrev some_before_least : (names : Names) (close : TokenKind) → Least (SomeBefore names close)
some_before_least names close = some_least names 0 (Unit {0}) close tt

ends_law : (names : Names) → Lawful (Ends names)
ends_law names = sequence_law (SomeBefore names semicolon) (SomeBefore names close_parenthesis) (some_before_law names semicolon)
    (some_before_law names close_parenthesis)

abbrev ends_least : (names : Names) → Least (Ends names)
ends_least names = sequence_least (SomeBefore names semicolon) (SomeBefore names close_parenthesis) (some_before_least names semicolon)
    (some_before_least names close_parenthesis)

parts_law : (names : Names) → Lawful (Parts names)
parts_law names = sequence_law (Firsts names) (Ends names) (firsts_law names) (ends_law names)

abbrev parts_least : (names : Names) → Least (Parts names)
parts_least names = sequence_least (Firsts names) (Ends names) (firsts_least names) (ends_least names)

abbrev pub controls_least : (names : Names) → Least (Controls names)
controls_least names = after_least open_parenthesis (Parts names) (parts_least names)

pub controls_law : (names : Names) → Lawful (Controls names)
controls_law names = after_law open_parenthesis (Parts names) (parts_law names)

-- no parenthesis follows `for`
pub control_missing : (names : Names) (limit : ℕ) (tokens : List Token) (from : ℕ) (s : Stop) → from ≤ length tokens
    → (kind_or_end tokens from ≡ open_parenthesis → ⊥) → IsPlainStop scope.Block tokens from s → Stops (Controls names) limit tokens from s
control_missing names limit tokens from s within other is =
    stops_plain (Controls names) limit tokens from from scope.Block [] s (spells_none tokens from within) is
    (after_wrong open_parenthesis (Parts names) limit (kind_or_end tokens from) other)

parts_stop : (names : Names) (limit : ℕ) (tokens : List Token) (from : ℕ) → kind_or_end tokens from ≡ open_parenthesis
    → (s : Stop) → Stops (Parts names) limit tokens (from + 1) s → Stops (Controls names) limit tokens from s
parts_stop names limit tokens from k s r =
    stops_in (Controls names) (Parts names) limit limit tokens from (from + 1) (open_parenthesis ∷ [])
    (punctuator_stands tokens from punctuator.OpenParenthesis k)
    (λ front at deep here x.
    tail_refused (Controls names) (Parts names) limit limit (open_parenthesis ∷ []) (λ d. d) (λ rest. Unit {0}) (parts_law names)
    (after_tail open_parenthesis (Parts names) limit (parts_least names) (omega arith)) front (kind_or_end tokens at) deep (λ following near. tt) x) s r

-- the first part was refused
pub control_first_stops : (names : Names) (limit : ℕ) (tokens : List Token) (from : ℕ) → kind_or_end tokens from ≡ open_parenthesis
    → (s : Stop) → Stops (Firsts names) limit tokens (from + 1) s → Stops (Controls names) limit tokens from s
control_first_stops names limit tokens from k s r =
    parts_stop names limit tokens from k s
    (stops_pass (Parts names) (Firsts names) limit limit tokens (from + 1)
    (λ front at deep here x.
    first_refused (Firsts names) (Ends names) limit (firsts_law names) (λ c d after is is' shut. tt) (ends_least names) (omega arith) front
    (kind_or_end tokens at) deep x) s r)

ends_stop : (names : Names) (limit : ℕ) (tokens : List Token) (from : ℕ) (first : Taken RawFirst) → kind_or_end tokens from ≡ open_parenthesis
    → IsExactly (Firsts names) first_of limit tokens (from + 1) first → (s : Stop) → Stops (Ends names) limit tokens first.next s
    → Stops (Controls names) limit tokens from s
ends_stop names limit tokens from first k f s r =
    parts_stop names limit tokens from k s
    (stops_in (Parts names) (Ends names) limit limit tokens (from + 1) first.next (first_text (first_of first.tree) [])
    (front_of (Firsts names) (firsts_law names) tokens (from + 1) first.next (first_of first.tree) f.spelled)
    (λ front at deep here x.
    exact_then_refused (Firsts names) (Ends names) limit (firsts_law names) (ends_law names) (ends_least names) (omega arith) (first_of first.tree)
    f.exactly front (kind_or_end tokens at) deep x) s r)

-- the test was refused
pub control_test_stops : (names : Names) (limit : ℕ) (tokens : List Token) (from : ℕ) (first : Taken RawFirst)
    → kind_or_end tokens from ≡ open_parenthesis → IsExactly (Firsts names) first_of limit tokens (from + 1) first
    → (s : Stop) → Stops (SomeBefore names semicolon) limit tokens first.next s → Stops (Controls names) limit tokens from s
control_test_stops names limit tokens from first k f s r =
    ends_stop names limit tokens from first k f s
    (stops_pass (Ends names) (SomeBefore names semicolon) limit limit tokens first.next
    (λ front at deep here x.
    first_refused (SomeBefore names semicolon) (SomeBefore names close_parenthesis) limit (some_before_law names semicolon) (λ c d after is is' shut. tt)
    (some_before_least names close_parenthesis) (omega arith) front (kind_or_end tokens at) deep x) s r)

-- the last part was refused
pub control_last_stops : (names : Names) (limit : ℕ) (tokens : List Token) (from : ℕ) (first : Taken RawFirst) (test : Taken (Option RawExpr))
    → kind_or_end tokens from ≡ open_parenthesis → IsExactly (Firsts names) first_of limit tokens (from + 1) first
    → IsExactly (SomeBefore names semicolon) (option_map written) limit tokens first.next test
    → (s : Stop) → Stops (SomeBefore names close_parenthesis) limit tokens test.next s → Stops (Controls names) limit tokens from s
control_last_stops names limit tokens from first test k f t s r =
    ends_stop names limit tokens from first k f s
    (stops_in (Ends names) (SomeBefore names close_parenthesis) limit limit tokens first.next test.next
    ((SomeBefore names semicolon).spell (option_map written test.tree) [])
    (front_of (SomeBefore names semicolon) (some_before_law names semicolon) tokens first.next test.next (option_map written test.tree) t.spelled)
    (λ front at deep here x.
    exact_then_refused (SomeBefore names semicolon) (SomeBefore names close_parenthesis) limit (some_before_law names semicolon)
    (some_before_law names close_parenthesis) (some_before_least names close_parenthesis) (omega arith) (option_map written test.tree) t.exactly front
    (kind_or_end tokens at) deep x) s r)

-- all were taken
pub control_taken : (names : Names) (limit : ℕ) (tokens : List Token) (from : ℕ) (first : Taken RawFirst) (test last : Taken (Option RawExpr))
    (whole : Taken ForParts) → kind_or_end tokens from ≡ open_parenthesis → IsExactly (Firsts names) first_of limit tokens (from + 1) first
    → IsExactly (SomeBefore names semicolon) (option_map written) limit tokens first.next test
    → IsExactly (SomeBefore names close_parenthesis) (option_map written) limit tokens test.next last
    → control_of whole.tree ≡ (first_of first.tree, (option_map written test.tree, option_map written last.tree))
    → whole.height ≡ max (max first.height test.height) last.height → whole.next ≡ last.next
    → IsExactly (Controls names) control_of limit tokens from whole
control_taken names limit tokens from first test last whole k f t l tree height later =
    let fh = f.height_is in
    let th = t.height_is in
    let lh = l.height_is in
    let parts : (Controls names).Tree = (first_of first.tree, (option_map written test.tree, option_map written last.tree)) in
    let both = exact_both (SomeBefore names semicolon) (SomeBefore names close_parenthesis) limit (option_map written test.tree) (option_map written last.tree)
    t.exactly l.exactly in
    let all = exact_both (Firsts names) (Ends names) limit (first_of first.tree) (option_map written test.tree, option_map written last.tree) f.exactly both in
    let e : Exactly (Controls names) limit parts =
    record { is_phrase = all.is_phrase; low = all.low; exact = λ other after following is same. all.exact other after following is cc } in
    let h : max (max first.height test.height) last.height ≡ (Controls names).tall parts = omega (arith, fh, th, lh) in
    record {
      height_is = height ∙ h ∙ ap (λ (p : (Controls names).Tree). (Controls names).tall p) (sym tree);
      spelled =
          subst (λ (m : ℕ). Spells tokens from m ((Controls names).spell (control_of whole.tree))) (sym later)
          (subst (λ (p : (Controls names).Tree). Spells tokens from last.next ((Controls names).spell p)) (sym tree)
          (spells_more tokens from (from + 1) last.next (λ rest. open_parenthesis ∷ rest) ((Parts names).spell parts)
          (punctuator_stands tokens from punctuator.OpenParenthesis k)
          (spells_more tokens (from + 1) first.next last.next (first_text (first_of first.tree))
          ((Ends names).spell (option_map written test.tree, option_map written last.tree)) f.spelled
          (spells_more tokens first.next test.next last.next ((SomeBefore names semicolon).spell (option_map written test.tree))
          ((SomeBefore names close_parenthesis).spell (option_map written last.tree)) t.spelled l.spelled))));
      exactly = subst (λ (p : (Controls names).Tree). Exactly (Controls names) limit p) (sym tree) e;
    }

-- a `for` consists of the parts between its parentheses, and a statement
abbrev for_of : (First × (Option Written × Option Written)) × Sentence → Sentence
for_of part = For part.0.0 part.0.1.0 part.0.1.1 part.1

abbrev for_pair : (names : Names) → Pair (Sentences names) (Controls names) (Sentences names) 1 (word keyword.For ∷ []) for_of
for_pair names = record {
  production = record {
    invert = λ whole after following is fit same.
        let f = (for_production names).invert whole after following is fit same in
        let p = f.0 in
        (((p.0, (p.1.0, p.1.1.0)), p.1.1.1), f.1, (((f.2.0, (f.2.1.0, f.2.1.1.0))), f.2.1.1.1), f.3);
    shut = λ part after shut. shut;
    spelled = λ part after. refl;
    is_phrase = λ part is. (is.0.0, is.0.1.0, is.0.1.1, is.1);
    taller = λ part. omega arith;
  };
  law_first = controls_law names;
  law_second = sentences_law names;
  joins = λ c d after is is' shut. tt;
  least_first = controls_least names;
  least_second = sentences_least names;
}

-- a part between the parentheses was refused
pub for_control_stops : (names : Names) (limit : ℕ) (tokens : List Token) (from : ℕ) → 2 ≤ limit → kind_or_end tokens from ≡ word keyword.For
    → (s : Stop) → Stops (Controls names) (limit - 1) tokens (from + 1) s → Stops (Sentences names) limit tokens from s
for_control_stops names limit tokens from enough k s r =
    pair_first_stops (for_pair names) limit (limit - 1) (omega arith, omega arith, omega arith) tokens from (from + 1) (word_stands tokens from keyword.For k) s
    r

-- the body was refused
pub for_body_stops : (names : Names) (limit : ℕ) (tokens : List Token) (from : ℕ) (control : Taken ForParts) → 2 ≤ limit
    → kind_or_end tokens from ≡ word keyword.For → IsExactly (Controls names) control_of (limit - 1) tokens (from + 1) control
    → (s : Stop) → Stops (Sentences names) (limit - 1) tokens control.next s → Stops (Sentences names) limit tokens from s
for_body_stops names limit tokens from control enough k c s r =
    pair_second_stops (for_pair names) limit (limit - 1) (omega arith, omega arith, omega arith) tokens from (from + 1) control.next
    (word_stands tokens from keyword.For k) (control_of control.tree) (exact_stands (Controls names) control_of (limit - 1) tokens (from + 1) control c) s r

for_height : (names : Names) (a b : ℕ) (c : (Controls names).Tree) (body : Sentence) → a ≡ (Controls names).tall c → b ≡ (Sentences names).tall body
    → max a b + 1 ≡ (Sentences names).tall (For c.0 c.1.0 c.1.1 body)
for_height names a b c body e f = omega (arith, e, f)

-- a `for` was taken
pub for_taken : (names : Names) (limit : ℕ) (tokens : List Token) (from : ℕ) (control : Taken ForParts) (body whole : Taken RawStmt) → 2 ≤ limit
    → kind_or_end tokens from ≡ word keyword.For → IsExactly (Controls names) control_of (limit - 1) tokens (from + 1) control
    → IsTaken (Sentences names) statement_of (limit - 1) tokens control.next false body
    → IsNode (For (first_of control.tree.first) (option_map written control.tree.test) (option_map written control.tree.last) (statement_of body.tree))
    (max control.height body.height + 1) body.next whole → IsTaken (Sentences names) statement_of limit tokens from false whole
for_taken names limit tokens from control body whole enough k c b n =
    node_taken names limit tokens from
    (For (first_of control.tree.first) (option_map written control.tree.test) (option_map written control.tree.last) (statement_of body.tree))
    (max control.height body.height + 1) body.next whole n
    (for_height names control.height body.height (control_of control.tree) (statement_of body.tree) c.height_is b.height_is)
    (pair_stands (for_pair names) limit (limit - 1) (omega arith, omega arith, omega arith) tokens from (from + 1) control.next body.next
    (word_stands tokens from keyword.For k) (control_of control.tree) (exact_stands (Controls names) control_of (limit - 1) tokens (from + 1) control c)
    false (statement_of body.tree)
    (taken_stands (Sentences names) statement_of (limit - 1) tokens control.next false body b))
