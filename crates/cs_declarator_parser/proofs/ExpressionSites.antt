-- Expressions as parts of declarations and statements: the result of each return. For the contracts of `expression` and its callers.
use Rattle.std.proofs.Common.{◌≡◌, ℕ, ◌+◌, ◌≤◌, inl, inr, false, IsTrue, Option, Some, None, List, [], ◌∷◌, ◌++◌, refl, sym, ap}
use Rattle.std.proofs.Common.{◌∙◌, subst, arith}
use Rattle.std.proofs.lemmas.Bool.{false≢true}
use Rattle.cs_ast.specs.declared.token.Token.{Token}
use Rattle.cs_ast.specs.declared.token.TokenKind.{TokenKind}
use Rattle.cs_ast.specs.declared.token.TokenKind.TheVariants as token
use Rattle.cs_ast.specs.declared.token.Punctuator.{Punctuator}
use Rattle.cs_ast.specs.declared.token.Punctuator.TheVariants as punctuator
use Rattle.cs_ast.specs.declared.raw.expression.RawExpr.{RawExpr}
use Rattle.cs_ast.specs.RawTree.{Written}
use Rattle.cs_ast.specs.RawView.{written}
use Rattle.cs_ast.specs.RawHeight.{height}
use Rattle.cs_grammar.specs.declared.refusal.Reason.{Reason}
use Rattle.cs_grammar.specs.TypeWords.{Names}
use Rattle.cs_grammar.specs.Text.{Kinds, text}
use Rattle.cs_grammar.specs.Phrases.{IsPhrase}
use Rattle.cs_grammar.specs.Parsing.{Expressions, Near, Took, Refused, Exactly}
use Rattle.cs_grammar.specs.Composed.{ClosedSome}
use Rattle.cs_grammar.specs.FileClasses.{Tests}
use Rattle.cs_grammar.proofs.Levels.{text_law}
use Rattle.cs_grammar.proofs.Holes.{Tail, closed_law, closed_refused, closed_wrong, closed_exact, tail_refused}
use Rattle.cs_grammar.proofs.Tails.{first_or, none_refused}
use Rattle.std.specs.Option.{option_map}
use Rattle.cs_ast.specs.RawFileHeight.{height_of_some}
use Rattle.cs_grammar.proofs.Sequences.{after_tail, closed_least}
use Rattle.cs_grammar.proofs.StatementParts.{expression_least}
use Rattle.cs_grammar.proofs.Optional.{Closes, IsUnclosed, no_close, some_none}
use Rattle.cs_expr_parser.specs.Positions.{kind_or_end}
use Rattle.cs_expr_parser.specs.Parts.{Spells, is_deep}
use Rattle.cs_expr_parser.specs.Expression.{IsStopped}
use Rattle.cs_expr_parser.specs.Expression.{IsTaken as IsPhraseTaken}
use Rattle.cs_expr_parser.specs.declared.answer.Phrase.{Phrase}
use Rattle.cs_expr_parser.proofs.Standing.{spells_one, spells_more}
use Rattle.cs_expr_parser.specs.declared.stop.Stop.{Stop}
use Rattle.cs_expr_parser.specs.declared.stop.Stop.TheVariants as stop
use Rattle.cs_declarator_parser.specs.declared.stop.Taken.{Taken}
use Rattle.cs_declarator_parser.specs.declared.stop.Unclosed.{Unclosed}
use Rattle.cs_declarator_parser.specs.Bounds.{IsPhraseOf, StopsInside}
use Rattle.cs_declarator_parser.specs.Answers.{Stops, IsExactly, IsUnclosed as IsUnclosedTaken, closes}
use Rattle.cs_declarator_parser.specs.DeclarationAnswers.{ClosedExpressions, MayLackFor}
use Rattle.cs_declarator_parser.specs.declared.declarator.Declares.{Declares}
use Rattle.cs_declarator_parser.specs.declared.declarator.Declares.TheVariants as declaring
use Rattle.cs_declarator_parser.specs.declared.source.Scope.TheVariants as scope
use Rattle.cs_declarator_parser.specs.Aptness.{IsApt, IsStopApt}
use Rattle.cs_declarator_parser.proofs.AptReasons.{expression_apt, reported_apt}
use Rattle.cs_declarator_parser.proofs.PartStops.{stops_in, stops_pass, front_of, near_start}

-- what the parser of expressions took
pub phrase_taken : (names : Names) (level limit : ℕ) (tokens : List Token) (from : ℕ) (phrase : Phrase) (taken : Unclosed RawExpr)
    → IsPhraseOf phrase taken → IsPhraseTaken names level limit tokens from phrase
    → IsUnclosedTaken (Expressions names level) written limit tokens from taken
phrase_taken names level limit tokens from phrase taken is t = record {
  height_is = is.1 ∙ t.height_is ∙ ap (λ (e : RawExpr). height (written e)) (sym is.0);
  spelled =
      subst (λ (n : ℕ). Spells tokens from n (text (written taken.tree))) (sym is.2)
      (subst (λ (e : RawExpr). Spells tokens from phrase.next (text (written e))) (sym is.0) t.spelled);
  took =
      subst (λ (n : ℕ). Took (Expressions names level) limit (written taken.tree) (kind_or_end tokens n) (is_deep taken.otherwise)) (sym is.2)
      (subst (λ (r : Reason). Took (Expressions names level) limit (written taken.tree) (kind_or_end tokens phrase.next) (is_deep r)) (sym is.3)
      (subst (λ (e : RawExpr). Took (Expressions names level) limit (written e) (kind_or_end tokens phrase.next) (is_deep phrase.otherwise)) (sym is.0)
      t.took));
}

-- the reason for the token after it, if nothing else continues with that token
pub phrase_apt : (names : Names) (level limit : ℕ) (tokens : List Token) (from : ℕ) (phrase : Phrase) (taken : Unclosed RawExpr) → IsPhraseOf phrase taken
    → IsPhraseTaken names level limit tokens from phrase → IsApt scope.Block (kind_or_end tokens taken.next) taken.otherwise
phrase_apt names level limit tokens from phrase taken is t =
    subst (λ (n : ℕ). IsApt scope.Block (kind_or_end tokens n) taken.otherwise) (sym is.2)
    (subst (λ (r : Reason). IsApt scope.Block (kind_or_end tokens phrase.next) r) (sym is.3)
    (expression_apt names level (text (written phrase.tree) []) tokens phrase.next phrase.otherwise t.otherwise))

-- what it refused
pub phrase_stops : (names : Names) (level limit : ℕ) (tokens : List Token) (from : ℕ) (s : Stop) → IsStopped names level limit tokens from s
    → Stops (Expressions names level) limit tokens from s
phrase_stops names level limit tokens from stop.Memory r = tt
phrase_stops names level limit tokens from (stop.Refused at reason) r = r.0

pub phrase_inside : (names : Names) (level limit : ℕ) (tokens : List Token) (from : ℕ) (s : Stop) → IsStopped names level limit tokens from s
    → StopsInside tokens from s
phrase_inside names level limit tokens from stop.Memory r = tt
phrase_inside names level limit tokens from (stop.Refused at reason) r = let sp = r.0.spelled in (sp.onward, sp.within)

pub stopped_apt : (names : Names) (level limit : ℕ) (tokens : List Token) (from : ℕ) (s : Stop) → IsStopped names level limit tokens from s
    → IsStopApt scope.Block tokens s
stopped_apt names level limit tokens from stop.Memory r = tt
stopped_apt names level limit tokens from (stop.Refused at reason) r = reported_apt names tokens from at reason r.1

-- the punctuators that close expressions of each level
pub punctuator_closes : (names : Names) (level : ℕ) (m : Punctuator) → IsTrue (closes m) → Closes names level (token.Punctuator m)
punctuator_closes names level punctuator.CloseParenthesis is = record { shut = omega arith; begins_none = refl }
punctuator_closes names level punctuator.CloseBracket is = record { shut = omega arith; begins_none = refl }
punctuator_closes names level punctuator.Semicolon is = record { shut = omega arith; begins_none = refl }
punctuator_closes names level punctuator.Colon is = record { shut = omega arith; begins_none = refl }
punctuator_closes names level _ is = absurd (false≢true is)

-- the expression was refused
pub closed_stops : (names : Names) (level limit : ℕ) (m : Punctuator) → IsTrue (closes m)
    → (tokens : List Token) (from : ℕ) (s : Stop) → Stops (Expressions names level) limit tokens from s
    → Stops (ClosedExpressions names level (token.Punctuator m)) limit tokens from s
closed_stops names level limit m is tokens from s r =
    let c = punctuator_closes names level m is in
    stops_pass (ClosedExpressions names level (token.Punctuator m)) (Expressions names level) limit limit tokens from
    (λ front at deep here x.
    closed_refused (Expressions names level) (token.Punctuator m) limit (text_law names level) (λ part more. c.shut) front (kind_or_end tokens at) deep x)
    s r

-- another token follows it
pub closed_missing : (names : Names) (level limit : ℕ) (m : Punctuator) → IsTrue (closes m)
    → (tokens : List Token) (from : ℕ) (taken : Unclosed RawExpr) → IsUnclosedTaken (Expressions names level) written limit tokens from taken
    → (kind_or_end tokens taken.next ≡ token.Punctuator m → ⊥)
    → Stops (ClosedExpressions names level (token.Punctuator m)) limit tokens from (stop.Refused taken.next taken.otherwise)
closed_missing names level limit m is tokens from taken t other =
    let c = punctuator_closes names level m is in
    record {
      front = text (written taken.tree) [];
      spelled = front_of (Expressions names level) (text_law names level) tokens from taken.next (written taken.tree) t.spelled;
      refused = closed_wrong (Expressions names level) (token.Punctuator m) limit (text_law names level) (λ part more. c.shut) (written taken.tree)
          (kind_or_end tokens taken.next) (is_deep taken.otherwise) t.took other;
    }

-- the token that closes it follows
pub closed_taken : (names : Names) (level limit : ℕ) (m : Punctuator) → IsTrue (closes m)
    → (tokens : List Token) (from : ℕ) (taken : Unclosed RawExpr) (whole : Taken RawExpr)
    → IsUnclosedTaken (Expressions names level) written limit tokens from taken → kind_or_end tokens taken.next ≡ token.Punctuator m
    → whole.tree ≡ taken.tree → whole.height ≡ taken.height → whole.next ≡ taken.next + 1
    → IsExactly (ClosedExpressions names level (token.Punctuator m)) written limit tokens from whole
closed_taken names level limit m is tokens from taken whole t k tree tall next =
    let c = punctuator_closes names level m is in
    record {
      height_is = tall ∙ t.height_is ∙ ap (λ (e : RawExpr). height (written e)) (sym tree);
      spelled =
          subst (λ (n : ℕ). Spells tokens from n ((ClosedExpressions names level (token.Punctuator m)).spell (written whole.tree))) (sym next)
          (subst (λ (e : RawExpr). Spells tokens from (taken.next + 1) ((ClosedExpressions names level (token.Punctuator m)).spell (written e))) (sym tree)
          (spells_more tokens from taken.next (taken.next + 1) (text (written taken.tree)) (λ rest. token.Punctuator m ∷ rest) t.spelled
          (spells_one tokens taken.next (token.Punctuator m) k (λ x. cc))));
      exactly =
          subst (λ (e : RawExpr). Exactly (ClosedExpressions names level (token.Punctuator m)) limit (written e)) (sym tree)
          (closed_exact (Expressions names level) (token.Punctuator m) limit (λ part more. c.shut) (written taken.tree) (is_deep taken.otherwise)
          (subst (λ (x : TokenKind). Took (Expressions names level) limit (written taken.tree) x (is_deep taken.otherwise)) k t.took));
    }

none_some : (names : Names) (level : ℕ) (MayLack : Type 0) (close : TokenKind) (whole : Option Written) (after following : Kinds)
    → (ClosedSome names level MayLack close).Is whole → IsUnclosed close following
    → (ClosedSome names level MayLack close).spell whole after ≡ following
    → (part : Written) × (whole ≡ Some part) × IsPhrase names level part × (following ≡ text part (close ∷ after))
none_some names level MayLack close None after following is other same = absurd (other after (sym same))
none_some names level MayLack close (Some e) after following is other same = (e, refl, is, sym same)

-- an expression that may be absent, if the next token doesn't close it
pub some_tail : (names : Names) (level : ℕ) (MayLack : Type 0) (close : TokenKind) (limit : ℕ)
    → Tail (ClosedSome names level MayLack close) (ClosedExpressions names level close) limit limit [] Some (IsUnclosed close)
some_tail names level MayLack close limit = record {
  started = inl refl;
  invert = λ whole after following is shut fit same. none_some names level MayLack close whole after following is fit same;
  shut = λ part after shut. tt;
  spelled = λ part after. refl;
  is_phrase = λ part is. is;
  low = λ part is low. low;
  rises = λ part high. high;
}

full_some : (names : Names) (level : ℕ) (close : TokenKind) (whole : Option Written) (after following : Kinds) → (ClosedSome names level ⊥ close).Is whole
    → (ClosedSome names level ⊥ close).spell whole after ≡ following
    → (part : Written) × (whole ≡ Some part) × IsPhrase names level part × (following ≡ text part (close ∷ after))
full_some names level close None after following is same = absurd is
full_some names level close (Some e) after following is same = (e, refl, is, sym same)

-- an expression that may not be absent
full_tail : (names : Names) (close : TokenKind) (limit : ℕ)
    → Tail (ClosedSome names 2 ⊥ close) (ClosedExpressions names 2 close) limit limit [] Some (λ rest. Unit {0})
full_tail names close limit = record {
  started = inl refl;
  invert = λ whole after following is shut fit same. full_some names 2 close whole after following is same;
  shut = λ part after shut. tt;
  spelled = λ part after. refl;
  is_phrase = λ part is. is;
  low = λ part is low. low;
  rises = λ part high. high;
}

unclosed_near : (close next : TokenKind) (following : Kinds) → (next ≡ close → ⊥) → Near next following → IsUnclosed close following
unclosed_near close next following other near more same =
    elim near [ inl none ↦ let z = sym same ∙ none in cc | inr m ↦ let z : next ∷ m.0 ≡ close ∷ more = sym m.1 ∙ same in other cc ]

-- it was refused
pub some_stops : (names : Names) (level : ℕ) (MayLack : Type 0) (close : TokenKind) (limit : ℕ) (tokens : List Token) (from : ℕ)
    → (kind_or_end tokens from ≡ close → ⊥) → (s : Stop) → Stops (ClosedExpressions names level close) limit tokens from s
    → Stops (ClosedSome names level MayLack close) limit tokens from s
some_stops names level MayLack close limit tokens from other s r =
    stops_pass (ClosedSome names level MayLack close) (ClosedExpressions names level close) limit limit tokens from
    (λ front at deep here x.
    tail_refused (ClosedSome names level MayLack close) (ClosedExpressions names level close) limit limit [] Some (IsUnclosed close)
    (closed_law (Expressions names level) close (text_law names level)) (some_tail names level MayLack close limit) front (kind_or_end tokens at) deep
    (λ following near. unclosed_near close (kind_or_end tokens from) (front ++ following) other (near_start tokens from at front here following near)) x) s r

some_exact : (names : Names) (level : ℕ) (MayLack : Type 0) (close : TokenKind) (limit : ℕ) → Closes names level close
    → (e : Written) → Exactly (ClosedExpressions names level close) limit e
    → (other : Option Written) (after following : Kinds) → (ClosedSome names level MayLack close).Is other
    → (ClosedSome names level MayLack close).spell other after ≡ text e (close ∷ following) → (other ≡ Some e) × (after ≡ following)
some_exact names level MayLack close limit c e x None after following is same =
    absurd (no_close names level close c e (close ∷ following) after x.is_phrase (sym same))
some_exact names level MayLack close limit c e x (Some o) after following is same =
    let k = x.exact o after following is same in
    (ap Some k.0, k.1)

-- it was taken
pub some_exactly : (names : Names) (level : ℕ) (MayLack : Type 0) (close : TokenKind) (limit : ℕ) → Closes names level close
    → (e : Written) → Exactly (ClosedExpressions names level close) limit e → Exactly (ClosedSome names level MayLack close) limit (Some e)
some_exactly names level MayLack close limit c e x = record {
  is_phrase = x.is_phrase;
  low = x.low;
  exact = λ other after following is same. some_exact names level MayLack close limit c e x other after following is same;
}

-- it was absent
pub none_taken : (names : Names) (level limit : ℕ) (m : Punctuator) → IsTrue (closes m)
    → (tokens : List Token) (from : ℕ) (whole : Taken (Option RawExpr)) → kind_or_end tokens from ≡ token.Punctuator m → whole.tree ≡ None
    → whole.height ≡ 0 → whole.next ≡ from + 1
    → IsExactly (ClosedSome names level (Unit {0}) (token.Punctuator m)) (option_map written) limit tokens from whole
none_taken names level limit m is tokens from whole k tree tall next = record {
  height_is = tall ∙ ap (λ (e : Option RawExpr). height_of_some (option_map written e)) (sym tree);
  spelled =
      subst (λ (n : ℕ). Spells tokens from n ((ClosedSome names level (Unit {0}) (token.Punctuator m)).spell (option_map written whole.tree))) (sym next)
      (subst (λ (e : Option RawExpr). Spells tokens from (from + 1) ((ClosedSome names level (Unit {0}) (token.Punctuator m)).spell (option_map written e)))
      (sym tree)
      (spells_one tokens from (token.Punctuator m) k (λ x. cc)));
  exactly =
      subst (λ (e : Option RawExpr). Exactly (ClosedSome names level (Unit {0}) (token.Punctuator m)) limit (option_map written e)) (sym tree)
      (some_none names level (Unit {0}) (token.Punctuator m) limit (punctuator_closes names level m is) tt);
}

-- it is present
pub some_taken : (names : Names) (level : ℕ) (MayLack : Type 0) (limit : ℕ) (m : Punctuator) → IsTrue (closes m)
    → (tokens : List Token) (from : ℕ) (taken : Taken RawExpr) (whole : Taken (Option RawExpr))
    → IsExactly (ClosedExpressions names level (token.Punctuator m)) written limit tokens from taken → whole.tree ≡ Some taken.tree
    → whole.height ≡ taken.height → whole.next ≡ taken.next
    → IsExactly (ClosedSome names level MayLack (token.Punctuator m)) (option_map written) limit tokens from whole
some_taken names level MayLack limit m is tokens from taken whole t tree tall next = record {
  height_is = tall ∙ t.height_is ∙ ap (λ (e : Option RawExpr). height_of_some (option_map written e)) (sym tree);
  spelled =
      subst (λ (n : ℕ). Spells tokens from n ((ClosedSome names level MayLack (token.Punctuator m)).spell (option_map written whole.tree))) (sym next)
      (subst (λ (e : Option RawExpr). Spells tokens from taken.next ((ClosedSome names level MayLack (token.Punctuator m)).spell (option_map written e)))
      (sym tree) t.spelled);
  exactly =
      subst (λ (e : Option RawExpr). Exactly (ClosedSome names level MayLack (token.Punctuator m)) limit (option_map written e)) (sym tree)
      (some_exactly names level MayLack (token.Punctuator m) limit (punctuator_closes names level m is) (written taken.tree) t.exactly);
}

-- no expression between parentheses begins with another token
pub test_missing : (names : Names) (limit : ℕ) (next : TokenKind) → (next ≡ token.Punctuator punctuator.OpenParenthesis → ⊥)
    → Refused (Tests names) limit [] next false
test_missing names limit next other =
    none_refused (Tests names) limit next (λ e after is same. cc) (λ e after more is same. other (sym (ap (λ (k : Kinds). first_or k next) same)))

abbrev test_tail : (names : Names) (limit : ℕ) → 1 ≤ limit
    → Tail (Tests names) (ClosedExpressions names 0 (token.Punctuator punctuator.CloseParenthesis)) limit limit
    (token.Punctuator punctuator.OpenParenthesis ∷ []) (λ e. e) (λ rest. Unit {0})
test_tail names limit some = after_tail (token.Punctuator punctuator.OpenParenthesis) (ClosedExpressions names 0 (token.Punctuator punctuator.CloseParenthesis))
    limit (closed_least (Expressions names 0) (token.Punctuator punctuator.CloseParenthesis) (expression_least names 0 (omega arith))) some

-- what is between the parentheses was refused
pub test_stops : (names : Names) (limit : ℕ) → 1 ≤ limit
    → (tokens : List Token) (from : ℕ) → kind_or_end tokens from ≡ token.Punctuator punctuator.OpenParenthesis
    → (s : Stop) → Stops (ClosedExpressions names 0 (token.Punctuator punctuator.CloseParenthesis)) limit tokens (from + 1) s
    → Stops (Tests names) limit tokens from s
test_stops names limit some tokens from k s r =
    stops_in (Tests names) (ClosedExpressions names 0 (token.Punctuator punctuator.CloseParenthesis)) limit limit tokens from (from + 1)
    (token.Punctuator punctuator.OpenParenthesis ∷ []) (spells_one tokens from (token.Punctuator punctuator.OpenParenthesis) k (λ x. cc))
    (λ front at deep here x.
    tail_refused (Tests names) (ClosedExpressions names 0 (token.Punctuator punctuator.CloseParenthesis)) limit limit
    (token.Punctuator punctuator.OpenParenthesis ∷ []) (λ e. e) (λ rest. Unit {0})
    (closed_law (Expressions names 0) (token.Punctuator punctuator.CloseParenthesis) (text_law names 0)) (test_tail names limit some) front
    (kind_or_end tokens at) deep (λ following near. tt) x) s r

pub test_taken : (names : Names) (limit : ℕ) (tokens : List Token) (from : ℕ) → kind_or_end tokens from ≡ token.Punctuator punctuator.OpenParenthesis
    → (taken : Taken RawExpr) → IsExactly (ClosedExpressions names 0 (token.Punctuator punctuator.CloseParenthesis)) written limit tokens (from + 1) taken
    → IsExactly (Tests names) written limit tokens from taken
test_taken names limit tokens from k taken t = record {
  height_is = t.height_is;
  spelled = spells_more tokens from (from + 1) taken.next (λ rest. token.Punctuator punctuator.OpenParenthesis ∷ rest)
      ((ClosedExpressions names 0 (token.Punctuator punctuator.CloseParenthesis)).spell (written taken.tree))
      (spells_one tokens from (token.Punctuator punctuator.OpenParenthesis) k (λ x. cc)) t.spelled;
  exactly = record {
    is_phrase = t.exactly.is_phrase;
    low = t.exactly.low;
    exact = λ other after following is same. t.exactly.exact other after following is cc;
  };
}

-- a bound of a member, which may not be absent
pub member_bound_stops : (names : Names) (limit : ℕ) (tokens : List Token) (from : ℕ) (s : Stop)
    → Stops (ClosedExpressions names 2 (token.Punctuator punctuator.CloseBracket)) limit tokens from s
    → Stops (ClosedSome names 2 ⊥ (token.Punctuator punctuator.CloseBracket)) limit tokens from s
member_bound_stops names limit tokens from s r =
    stops_pass (ClosedSome names 2 ⊥ (token.Punctuator punctuator.CloseBracket)) (ClosedExpressions names 2 (token.Punctuator punctuator.CloseBracket)) limit
    limit tokens from
    (λ front at deep here x.
    tail_refused (ClosedSome names 2 ⊥ (token.Punctuator punctuator.CloseBracket)) (ClosedExpressions names 2 (token.Punctuator punctuator.CloseBracket))
    limit limit [] Some (λ rest. Unit {0}) (closed_law (Expressions names 2) (token.Punctuator punctuator.CloseBracket) (text_law names 2))
    (full_tail names (token.Punctuator punctuator.CloseBracket) limit) front (kind_or_end tokens at) deep
    (λ following near. tt) x) s r

pub bound_stops : (declares : Declares) (names : Names) (limit : ℕ) (tokens : List Token) (from : ℕ) (s : Stop) → declares ≡ declaring.Members
    → Stops (ClosedExpressions names 2 (token.Punctuator punctuator.CloseBracket)) limit tokens from s
    → Stops (ClosedSome names 2 (MayLackFor declares) (token.Punctuator punctuator.CloseBracket)) limit tokens from s
bound_stops declaring.Members names limit tokens from s is r = member_bound_stops names limit tokens from s r
bound_stops declaring.Names names limit tokens from s is r = absurd cc
