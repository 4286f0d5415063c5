-- Lists of phrases: for the contracts of `arguments` and `bounds`.
use Rattle.std.proofs.Common.{◌≡◌, ℕ, suc, ◌+◌, ◌-◌, ◌<◌, ◌≤◌, max, ◌⊎◌, inl, inr, Bool, true, false, List, [], ◌∷◌}
use Rattle.std.proofs.Common.{◌++◌, refl, sym, ap, ◌∙◌, subst, arith, append_assoc}
use Rattle.std.proofs.lemmas.Bool.{false≢true}
use Rattle.cs_ast.specs.declared.token.TokenKind.{TokenKind}
use Rattle.cs_ast.specs.declared.token.TokenKind.TheVariants as token
use Rattle.cs_ast.specs.declared.token.Punctuator.{Punctuator}
use Rattle.cs_ast.specs.declared.token.Punctuator.TheVariants as punctuator
use Rattle.cs_ast.specs.declared.raw.expression.RawExpr.{RawExpr}
use Rattle.cs_ast.specs.RawTree.{Written, WrittenList, End, More}
use Rattle.cs_ast.specs.RawHeight.{height, highest}
use Rattle.cs_ast.specs.RawView.{written, written_list}
use Rattle.cs_grammar.specs.TypeWords.{Names}
use Rattle.cs_grammar.specs.Levels.{level_of}
use Rattle.cs_grammar.specs.Text.{Kinds, text, listed, after_commas, bounds_text}
use Rattle.cs_grammar.specs.Phrases.{IsPhrase, ArePhrases}
use Rattle.cs_grammar.specs.Continuing.{join, join_of}
use Rattle.cs_grammar.specs.FirstTokens.{begins_expression}
use Rattle.cs_grammar.specs.Parsing.{Class, Expressions, Near, IsOver, Begins, BeginsLow, Took, Refused, Exactly}
use Rattle.cs_grammar.proofs.Levels.{text_law}
use Rattle.cs_grammar.proofs.Holes.{Lawful, Hole, Filling, Completion, hole_refused, hole_wrong, ClosedBy, closed_law, closed_refused, closed_wrong}
use Rattle.cs_grammar.proofs.Holes.{closed_exact}
use Rattle.cs_grammar.proofs.Texts.{text_append, listed_append, bounds_append}
use Rattle.cs_grammar.proofs.Beginnings.{BeginsWith, expression_begins}
use Rattle.cs_expr_parser.specs.Parts.{Rows, arguments_text, closed_bounds_text}
use Rattle.cs_expr_parser.proofs.Closings.{zero, height_some, close_parenthesis}

abbrev comma_token : TokenKind
comma_token = token.Punctuator punctuator.Comma

-- trees, followed by others
abbrev pub joined : WrittenList → WrittenList → WrittenList
joined End others = others
joined (More first rest) others = More first (joined rest others)

-- the tokens of trees with a comma after each
abbrev pub row_text : WrittenList → Kinds → Kinds
row_text End after = after
row_text (More first rest) after = text first (comma_token ∷ row_text rest after)

pub joined_more : (es : WrittenList) (x : Written) (rest : WrittenList) → joined (joined es (More x End)) rest ≡ joined es (More x rest)
joined_more End x rest = refl
joined_more (More e es) x rest = ap (More e) (joined_more es x rest)

pub row_more : (es : WrittenList) (x : Written) (after : Kinds) → row_text (joined es (More x End)) after ≡ row_text es (text x (comma_token ∷ after))
row_more End x after = refl
row_more (More e es) x after = ap (λ (r : Kinds). text e (comma_token ∷ r)) (row_more es x after)

pub row_append : (es : WrittenList) (x y : Kinds) → row_text es x ++ y ≡ row_text es (x ++ y)
row_append End x y = refl
row_append (More e es) x y = text_append e (comma_token ∷ row_text es x) y ∙ ap (λ (r : Kinds). text e (comma_token ∷ r)) (row_append es x y)

pub row_listed : (es : WrittenList) (x : Written) (rest : WrittenList) (after : Kinds)
    → listed (joined es (More x rest)) after ≡ row_text es (text x (after_commas rest after))
row_listed End x rest after = refl
row_listed (More e End) x rest after = refl
row_listed (More e (More f es)) x rest after = ap (λ (r : Kinds). text e (comma_token ∷ r)) (row_listed (More f es) x rest after)

pub highest_joined : (es fs : WrittenList) → highest (joined es fs) ≡ max (highest es) (highest fs)
highest_joined End fs = omega arith
highest_joined (More e es) fs = let h = highest_joined es fs in omega arith

pub phrases_joined : (names : Names) (level : ℕ) (es fs : WrittenList) → ArePhrases names level es → ArePhrases names level fs
    → ArePhrases names level (joined es fs)
phrases_joined names level End fs a b = b
phrases_joined names level (More e es) fs a b = (a.0, a.1, phrases_joined names level es fs a.2 b)

pub phrases_rest : (names : Names) (level : ℕ) (es fs : WrittenList) → ArePhrases names level (joined es fs) → ArePhrases names level fs
phrases_rest names level End fs a = a
phrases_rest names level (More e es) fs a = phrases_rest names level es fs a.2

-- the list of a vector with one more tree
pub list_more : (xs : List RawExpr) (x : RawExpr) → written_list (xs ++ x ∷ []) ≡ joined (written_list xs) (More (written x) End)
list_more [] x = refl
list_more (e ∷ es) x = ap (More (written e)) (list_more es x)

pub arguments_law : (names : Names) → Lawful (Rows arguments_text (ArePhrases names 1))
arguments_law names = λ es x y. listed_append es (close_parenthesis ∷ x) y

pub bounds_law : (names : Names) → Lawful (Rows closed_bounds_text (ArePhrases names 2))
bounds_law names = λ es x y. bounds_append es (close_parenthesis ∷ x) y

-- what all arguments with this beginning continue with
abbrev pub ArgumentsGoOn : Names → WrittenList → Type 0
ArgumentsGoOn names done = (other : WrittenList) (after following : Kinds) → ArePhrases names 1 other
    → arguments_text other after ≡ row_text done following
    → (rest : WrittenList) × (other ≡ joined done rest) × (arguments_text rest after ≡ following) × (rest ≡ End → done ≡ End)

pub none_go_on : (names : Names) → ArgumentsGoOn names End
none_go_on names other after following is same = (other, refl, same, λ e. refl)

commas_shut : (es : WrittenList) (after : Kinds) → join_of (after_commas es (close_parenthesis ∷ after)) ≤ 1
commas_shut End after = omega arith
commas_shut (More e es) after = omega arith

no_expression_closes : (names : Names) (e : Written) (after following : Kinds) → IsPhrase names 1 e → close_parenthesis ∷ following ≡ text e after
    → ⊥
no_expression_closes names e after following is same =
    let b = expression_begins names e after is.1 in
    let s : b.first ∷ b.others ≡ close_parenthesis ∷ following = sym b.are ∙ sym same in
    let k : close_parenthesis ≡ b.first = cc in
    let p : begins_expression names close_parenthesis ≡ true = ap (begins_expression names) k ∙ b.passes in
    false≢true p

step : (names : Names) (limit : ℕ) (done : WrittenList) (last : Written) (deep : Bool) → Took (Expressions names 1) limit last comma_token deep
    → (other : WrittenList) (after following : Kinds) (rest : WrittenList) → other ≡ joined done rest → ArePhrases names 1 (joined done rest)
    → arguments_text rest after ≡ text last (comma_token ∷ following)
    → (rest' : WrittenList) × (other ≡ joined (joined done (More last End)) rest') × (arguments_text rest' after ≡ following)
    × (rest' ≡ End → joined done (More last End) ≡ End)
step names limit done last deep t other after following End o is same =
    absurd (no_expression_closes names last (comma_token ∷ following) after t.is_phrase same)
step names limit done last deep t other after following (More x End) o is same =
    let p = phrases_rest names 1 done (More x End) is in
    absurd (elim (t.only x (close_parenthesis ∷ after) (comma_token ∷ following) (p.0, p.1) (omega arith) (inr (following, refl)) same) [
      | inl e ↦ let z = e.1 in cc
      | inr over ↦ t.joined over.reported [] (omega arith)
    ])
step names limit done last deep t other after following (More x (More y ys)) o is same =
    let p = phrases_rest names 1 done (More x (More y ys)) is in
    elim (t.only x (after_commas (More y ys) (close_parenthesis ∷ after)) (comma_token ∷ following) (p.0, p.1) (omega arith) (inr (following, refl)) same) [
      | inl e ↦
          let z = e.1 in
          (More y ys, o ∙ ap (λ (w : Written). joined done (More w (More y ys))) e.0 ∙ sym (joined_more done last (More y ys)), cc, λ n. absurd cc)
      | inr over ↦ absurd (t.joined over.reported [] (omega arith))
    ]

pub one_goes_on : (names : Names) (limit : ℕ) (done : WrittenList) (last : Written) (deep : Bool) → ArgumentsGoOn names done
    → Took (Expressions names 1) limit last comma_token deep → ArgumentsGoOn names (joined done (More last End))
one_goes_on names limit done last deep go t other after following is same =
    let f = go other after (text last (comma_token ∷ following)) is (same ∙ row_more done last following) in
    step names limit done last deep t other after following f.0 f.1 (subst (ArePhrases names 1) f.1 is) f.2

-- the tokens don't begin with the closing parenthesis
abbrev pub NotClosed : Kinds → Type 0
NotClosed following = (more : Kinds) → following ≡ close_parenthesis ∷ more → ⊥

-- the first argument doesn't begin with the closing parenthesis
abbrev pub Unclosed : WrittenList → Kinds → Type 0
Unclosed done following = done ≡ End → NotClosed following

-- what follows an argument: a comma or the closing parenthesis
abbrev pub EndsArgument : Kinds → Type 0
EndsArgument rest = ((more : Kinds) × (rest ≡ comma_token ∷ more)) ⊎ ((more : Kinds) × (rest ≡ close_parenthesis ∷ more))

ends_argument : (es : WrittenList) (after : Kinds) → EndsArgument (after_commas es (close_parenthesis ∷ after))
ends_argument End after = inr (after, refl)
ends_argument (More e es) after = inl (text e (after_commas es (close_parenthesis ∷ after)), refl)

argument_filling : (names : Names) (limit : ℕ) (done rest : WrittenList) (whole : WrittenList) (after following : Kinds) → whole ≡ joined done rest
    → ArePhrases names 1 (joined done rest) → (rest ≡ End → done ≡ End) → Unclosed done following → arguments_text rest after ≡ following
    → Filling (Rows arguments_text (ArePhrases names 1)) (Expressions names 1) limit limit EndsArgument whole following
argument_filling names limit done End whole after following w is ended unclosed same = absurd (unclosed (ended refl) after (sym same))
argument_filling names limit done (More x xs) whole after following w is ended unclosed same =
    let p = phrases_rest names 1 done (More x xs) is in
    record {
      part = x;
      rest = after_commas xs (close_parenthesis ∷ after);
      is_phrase = (p.0, p.1);
      spelled = sym same;
      shut = commas_shut xs after;
      after = ends_argument xs after;
      rises = λ high. subst (λ (e : WrittenList). limit < highest e) (sym w) (let h = highest_joined done (More x xs) in omega (arith, high));
    }

pub argument_hole : (names : Names) (limit : ℕ) (done : WrittenList) → ArePhrases names 1 done → highest done ≤ limit
    → (done ≡ End ⊎ (1 ≤ limit)) → ArgumentsGoOn names done
    → Hole (Rows arguments_text (ArePhrases names 1)) (Expressions names 1) limit limit (row_text done []) (Unclosed done) EndsArgument
argument_hole names limit done are low some go = record {
  started = elim some [
    | inl e ↦ inl (ap (λ (d : WrittenList). row_text d []) e)
    | inr least ↦ inr (record {
      phrase = joined done (More zero End);
      more = text zero (close_parenthesis ∷ []);
      is_phrase = phrases_joined names 1 done (More zero End) are (omega arith, tt, tt);
      low = let h = highest_joined done (More zero End) in omega arith;
      spelled = row_listed done zero End (close_parenthesis ∷ []) ∙ sym (row_append done [] (text zero (close_parenthesis ∷ [])));
    })
  ];
  invert = λ whole after following is shut fit same.
      let f = go whole after following is (same ∙ row_append done [] following) in
      argument_filling names limit done f.0 whole after following f.1 (subst (ArePhrases names 1) f.1 is) f.3 fit f.2;
  complete = λ part is. record {
    whole = joined done (More part End);
    more = close_parenthesis ∷ [];
    is_phrase = phrases_joined names 1 done (More part End) are (is.0, is.1, tt);
    spelled = row_listed done part End (close_parenthesis ∷ []) ∙ sym (row_append done [] (text part (close_parenthesis ∷ [])));
    low = λ le. let h = highest_joined done (More part End) in omega arith;
  };
}

-- no argument begins with the closing parenthesis
expression_open : (names : Names) (e : Written) (after : Kinds) → IsPhrase names 1 e → NotClosed (text e after)
expression_open names e after is more same = no_expression_closes names e after more is (sym same)

refused_open : (names : Names) (limit : ℕ) (front : Kinds) (next : TokenKind) (deep : Bool) → Refused (Expressions names 1) limit front next deep
    → (front ≡ [] → next ≡ close_parenthesis → ⊥) → (following : Kinds) → Near next following → NotClosed (front ++ following)
refused_open names limit [] next deep r unclosed following near more same =
    elim near [ inl n ↦ let z = sym same ∙ n in cc | inr m ↦ let z = sym same ∙ m.1 in unclosed refl cc ]
refused_open names limit (f ∷ fs) next deep r unclosed following near more same =
    elim r.begun [
      | inl n ↦ cc
      | inr l ↦
          let e : f ≡ close_parenthesis = cc in
          expression_open names l.phrase [] l.is_phrase (fs ++ l.more) (l.spelled ∙ ap (λ (k : TokenKind). k ∷ (fs ++ l.more)) e)
    ]

pub argument_refused : (names : Names) (limit : ℕ) (done : WrittenList) → ArePhrases names 1 done → highest done ≤ limit
    → (done ≡ End ⊎ (1 ≤ limit)) → ArgumentsGoOn names done
    → (front : Kinds) (next : TokenKind) (deep : Bool) → (done ≡ End → front ≡ [] → next ≡ close_parenthesis → ⊥)
    → Refused (Expressions names 1) limit front next deep → Refused (Rows arguments_text (ArePhrases names 1)) limit (row_text done [] ++ front) next deep
argument_refused names limit done are low some go front next deep unclosed r =
    hole_refused (Rows arguments_text (ArePhrases names 1)) (Expressions names 1) limit limit (row_text done []) (Unclosed done) EndsArgument (text_law names 1)
    (argument_hole names limit done are low some go) front next deep
    (λ following near none. refused_open names limit front next deep r (unclosed none) following near) r

pub argument_wrong : (names : Names) (limit : ℕ) (done : WrittenList) → ArePhrases names 1 done → highest done ≤ limit
    → (done ≡ End ⊎ (1 ≤ limit)) → ArgumentsGoOn names done → (last : Written) (next : TokenKind) (deep : Bool) → (next ≡ comma_token → ⊥)
    → (next ≡ close_parenthesis → ⊥) → Took (Expressions names 1) limit last next deep
    → Refused (Rows arguments_text (ArePhrases names 1)) limit (row_text done [] ++ text last []) next deep
argument_wrong names limit done are low some go last next deep comma close t =
    hole_wrong (Rows arguments_text (ArePhrases names 1)) (Expressions names 1) limit limit (row_text done []) (Unclosed done) EndsArgument (text_law names 1)
    (argument_hole names limit done are low some go) last next deep
    (λ following near none. expression_open names last following t.is_phrase) t
    (λ a. elim a [ inl m ↦ let z = m.1 in cc | inr m ↦ let z = m.1 in cc ])
    (λ more a. elim a [ inl m ↦ let z = m.1 in comma cc | inr m ↦ let z = m.1 in close cc ])

none_exact : (names : Names) (other : WrittenList) (after following : Kinds) → ArePhrases names 1 other
    → arguments_text other after ≡ close_parenthesis ∷ following → (other ≡ End) × (after ≡ following)
none_exact names End after following is same = (refl, cc)
none_exact names (More x xs) after following is same =
    absurd (no_expression_closes names x (after_commas xs (close_parenthesis ∷ after)) following (is.0, is.1) (sym same))

-- no arguments
pub no_arguments : (names : Names) (limit : ℕ) → Exactly (Rows arguments_text (ArePhrases names 1)) limit End
no_arguments names limit = record {
  is_phrase = tt;
  low = omega arith;
  exact = λ other after following is same. none_exact names other after following is same;
}

last_exact : (names : Names) (limit : ℕ) (done : WrittenList) (last : Written) (deep : Bool) → Took (Expressions names 1) limit last close_parenthesis deep
    → (other : WrittenList) (after following : Kinds) (rest : WrittenList) → other ≡ joined done rest → ArePhrases names 1 (joined done rest)
    → arguments_text rest after ≡ text last (close_parenthesis ∷ following) → (other ≡ joined done (More last End)) × (after ≡ following)
last_exact names limit done last deep t other after following End o is same =
    absurd (no_expression_closes names last (close_parenthesis ∷ following) after t.is_phrase same)
last_exact names limit done last deep t other after following (More x End) o is same =
    let p = phrases_rest names 1 done (More x End) is in
    elim (t.only x (close_parenthesis ∷ after) (close_parenthesis ∷ following) (p.0, p.1) (omega arith) (inr (following, refl)) same) [
      | inl e ↦ let z = e.1 in (o ∙ ap (λ (w : Written). joined done (More w End)) e.0, cc)
      | inr over ↦ absurd (t.joined over.reported [] (omega arith))
    ]
last_exact names limit done last deep t other after following (More x (More y ys)) o is same =
    let p = phrases_rest names 1 done (More x (More y ys)) is in
    absurd (elim (t.only x (after_commas (More y ys) (close_parenthesis ∷ after)) (close_parenthesis ∷ following) (p.0, p.1) (omega arith)
    (inr (following, refl)) same) [
      | inl e ↦ let z = e.1 in cc
      | inr over ↦ t.joined over.reported [] (omega arith)
    ])

-- the last argument
pub arguments_exact : (names : Names) (limit : ℕ) (done : WrittenList) → ArePhrases names 1 done → highest done ≤ limit → ArgumentsGoOn names done
    → (last : Written) (deep : Bool) → Took (Expressions names 1) limit last close_parenthesis deep
    → Exactly (Rows arguments_text (ArePhrases names 1)) limit (joined done (More last End))
arguments_exact names limit done are low go last deep t =
    let low' : height last ≤ limit = t.low in
    record {
      is_phrase = phrases_joined names 1 done (More last End) are (t.is_phrase.0, t.is_phrase.1, tt);
      low = let h = highest_joined done (More last End) in omega arith;
      exact = λ other after following is same.
          let f = go other after (text last (close_parenthesis ∷ following)) is (same ∙ row_listed done last End (close_parenthesis ∷ following)) in
          last_exact names limit done last deep t other after following f.0 f.1 (subst (ArePhrases names 1) f.1 is) f.2;
    }

abbrev open_bracket : TokenKind
open_bracket = token.Punctuator punctuator.OpenBracket

abbrev close_bracket : TokenKind
close_bracket = token.Punctuator punctuator.CloseBracket

-- what all bounds with this beginning continue with
abbrev pub BoundsGoOn : Names → WrittenList → Type 0
BoundsGoOn names done = (other : WrittenList) (after following : Kinds) → ArePhrases names 2 other
    → closed_bounds_text other after ≡ bounds_text done following
    → (rest : WrittenList) × (other ≡ joined done rest) × (closed_bounds_text rest after ≡ following)

pub no_bounds : (names : Names) → BoundsGoOn names End
no_bounds names other after following is same = (other, refl, same)

pub bounds_more : (es : WrittenList) (x : Written) (after : Kinds)
    → bounds_text (joined es (More x End)) after ≡ bounds_text es (open_bracket ∷ text x (close_bracket ∷ after))
bounds_more End x after = refl
bounds_more (More e es) x after = ap (λ (r : Kinds). open_bracket ∷ text e (close_bracket ∷ r)) (bounds_more es x after)

bound_next : (names : Names) (limit : ℕ) (done : WrittenList) (last : Written) → Exactly (ClosedBy (Expressions names 2) close_bracket) limit last
    → (other : WrittenList) (after following : Kinds) (rest : WrittenList) → other ≡ joined done rest → ArePhrases names 2 (joined done rest)
    → closed_bounds_text rest after ≡ open_bracket ∷ text last (close_bracket ∷ following)
    → (rest' : WrittenList) × (other ≡ joined (joined done (More last End)) rest') × (closed_bounds_text rest' after ≡ following)
bound_next names limit done last x other after following End o is same = absurd cc
bound_next names limit done last x other after following (More e es) o is same =
    let p = phrases_rest names 2 done (More e es) is in
    let s : text e (close_bracket ∷ bounds_text es (close_parenthesis ∷ after)) ≡ text last (close_bracket ∷ following) = cc in
    let k = x.exact e (bounds_text es (close_parenthesis ∷ after)) following (p.0, p.1) s in
    (es, o ∙ ap (λ (w : Written). joined done (More w es)) k.0 ∙ sym (joined_more done last es), k.1)

pub bound_goes_on : (names : Names) (limit : ℕ) (done : WrittenList) (last : Written) → BoundsGoOn names done
    → Exactly (ClosedBy (Expressions names 2) close_bracket) limit last → BoundsGoOn names (joined done (More last End))
bound_goes_on names limit done last go x other after following is same =
    let f = go other after (open_bracket ∷ text last (close_bracket ∷ following)) is (same ∙ bounds_more done last following) in
    bound_next names limit done last x other after following f.0 f.1 (subst (ArePhrases names 2) f.1 is) f.2

bound_filling : (names : Names) (limit : ℕ) (done rest : WrittenList) (whole : WrittenList) (after following : Kinds) → whole ≡ joined done rest
    → ArePhrases names 2 (joined done rest) → closed_bounds_text rest after ≡ open_bracket ∷ following
    → Filling (Rows closed_bounds_text (ArePhrases names 2)) (ClosedBy (Expressions names 2) close_bracket) limit limit (λ rest. Unit {0}) whole following
bound_filling names limit done End whole after following w is same = absurd cc
bound_filling names limit done (More x xs) whole after following w is same =
    let p = phrases_rest names 2 done (More x xs) is in
    record {
      part = x;
      rest = bounds_text xs (close_parenthesis ∷ after);
      is_phrase = (p.0, p.1);
      spelled = cc;
      shut = tt;
      after = tt;
      rises = λ high. subst (λ (e : WrittenList). limit < highest e) (sym w) (let h = highest_joined done (More x xs) in omega (arith, high));
    }

bound_hole : (names : Names) (limit : ℕ) (done : WrittenList) → ArePhrases names 2 done → highest done ≤ limit → 1 ≤ limit → BoundsGoOn names done
    → Hole (Rows closed_bounds_text (ArePhrases names 2)) (ClosedBy (Expressions names 2) close_bracket) limit limit (bounds_text done (open_bracket ∷ []))
    (λ rest. Unit {0}) (λ rest. Unit {0})
bound_hole names limit done are low least go =
    let apart : (following : Kinds) → bounds_text done (open_bracket ∷ []) ++ following ≡ bounds_text done (open_bracket ∷ following) = λ following.
    bounds_append done (open_bracket ∷ []) following in
    let with_one : (x : Written) (after : Kinds)
    → closed_bounds_text (joined done (More x End)) after ≡ bounds_text done (open_bracket ∷ text x (close_bracket ∷ close_parenthesis ∷ after)) =
    λ x after. bounds_more done x (close_parenthesis ∷ after) in
    record {
      started = inr (record {
        phrase = joined done (More zero End);
        more = text zero (close_bracket ∷ close_parenthesis ∷ []);
        is_phrase = phrases_joined names 2 done (More zero End) are (omega arith, tt, tt);
        low = let h = highest_joined done (More zero End) in omega arith;
        spelled = with_one zero [] ∙ sym (apart (text zero (close_bracket ∷ close_parenthesis ∷ [])));
      });
      invert = λ whole after following is shut fit same.
          let f = go whole after (open_bracket ∷ following) is (same ∙ apart following) in
          bound_filling names limit done f.0 whole after following f.1 (subst (ArePhrases names 2) f.1 is) f.2;
      complete = λ part is. record {
        whole = joined done (More part End);
        more = close_parenthesis ∷ [];
        is_phrase = phrases_joined names 2 done (More part End) are (is.0, is.1, tt);
        spelled = with_one part [] ∙ sym (apart (text part (close_bracket ∷ close_parenthesis ∷ [])));
        low = λ le. let h = highest_joined done (More part End) in omega arith;
      };
    }

pub bound_refused : (names : Names) (limit : ℕ) (done : WrittenList) → ArePhrases names 2 done → highest done ≤ limit → 1 ≤ limit
    → BoundsGoOn names done → (front : Kinds) (next : TokenKind) (deep : Bool) → Refused (Expressions names 2) limit front next deep
    → Refused (Rows closed_bounds_text (ArePhrases names 2)) limit (bounds_text done (open_bracket ∷ []) ++ front) next deep
bound_refused names limit done are low least go front next deep r =
    hole_refused (Rows closed_bounds_text (ArePhrases names 2)) (ClosedBy (Expressions names 2) close_bracket) limit limit
    (bounds_text done (open_bracket ∷ [])) (λ rest. Unit {0}) (λ rest. Unit {0}) (closed_law (Expressions names 2) close_bracket (text_law names 2))
    (bound_hole names limit done are low least go) front next deep (λ following near. tt)
    (closed_refused (Expressions names 2) close_bracket limit (text_law names 2) (λ part more. omega arith) front next deep r)

pub bound_wrong : (names : Names) (limit : ℕ) (done : WrittenList) → ArePhrases names 2 done → highest done ≤ limit → 1 ≤ limit
    → BoundsGoOn names done → (last : Written) (next : TokenKind) (deep : Bool) → Took (Expressions names 2) limit last next deep
    → (next ≡ close_bracket → ⊥)
    → Refused (Rows closed_bounds_text (ArePhrases names 2)) limit (bounds_text done (open_bracket ∷ []) ++ text last []) next deep
bound_wrong names limit done are low least go last next deep t other =
    hole_refused (Rows closed_bounds_text (ArePhrases names 2)) (ClosedBy (Expressions names 2) close_bracket) limit limit
    (bounds_text done (open_bracket ∷ [])) (λ rest. Unit {0}) (λ rest. Unit {0}) (closed_law (Expressions names 2) close_bracket (text_law names 2))
    (bound_hole names limit done are low least go) (text last []) next deep (λ following near. tt)
    (closed_wrong (Expressions names 2) close_bracket limit (text_law names 2) (λ part more. omega arith) last next deep t other)

pub bound_exact : (names : Names) (limit : ℕ) (last : Written) (deep : Bool) → Took (Expressions names 2) limit last close_bracket deep
    → Exactly (ClosedBy (Expressions names 2) close_bracket) limit last
bound_exact names limit last deep t = closed_exact (Expressions names 2) close_bracket limit (λ part more. omega arith) last deep t

bounds_closed : (names : Names) (done : WrittenList) (other : WrittenList) (after following : Kinds) (rest : WrittenList) → other ≡ joined done rest
    → closed_bounds_text rest after ≡ close_parenthesis ∷ following → (other ≡ joined done End) × (after ≡ following)
bounds_closed names done other after following End o same = (o, cc)
bounds_closed names done other after following (More x xs) o same = absurd cc

joined_end : (es : WrittenList) → joined es End ≡ es
joined_end End = refl
joined_end (More e es) = ap (More e) (joined_end es)

pub bounds_exact : (names : Names) (limit : ℕ) (done : WrittenList) → ArePhrases names 2 done → highest done ≤ limit → BoundsGoOn names done
    → Exactly (Rows closed_bounds_text (ArePhrases names 2)) limit done
bounds_exact names limit done are low go = record {
  is_phrase = are;
  low = low;
  exact = λ other after following is same.
      let f = go other after (close_parenthesis ∷ following) is same in
      let k = bounds_closed names done other after following f.0 f.1 f.2 in
      (k.0 ∙ joined_end done, k.1);
}

bounds_first : (rest : WrittenList) (after : Kinds) (next : TokenKind) (more : Kinds) → (next ≡ open_bracket → ⊥)
    → (next ≡ close_parenthesis → ⊥) → closed_bounds_text rest after ≡ next ∷ more → ⊥
bounds_first End after next more o c same = c cc
bounds_first (More x xs) after next more o c same = o cc

bounds_some : (rest : WrittenList) (after : Kinds) → closed_bounds_text rest after ≡ [] → ⊥
bounds_some End after same = cc
bounds_some (More x xs) after same = cc

pub bounds_wrong : (names : Names) (limit : ℕ) (done : WrittenList) → ArePhrases names 2 done → highest done ≤ limit → BoundsGoOn names done
    → (next : TokenKind) → (next ≡ open_bracket → ⊥) → (next ≡ close_parenthesis → ⊥)
    → Refused (Rows closed_bounds_text (ArePhrases names 2)) limit (bounds_text done []) next false
bounds_wrong names limit done are low go next o c = record {
  begun = inr (record {
    phrase = done;
    more = close_parenthesis ∷ [];
    is_phrase = are;
    low = low;
    spelled = sym (bounds_append done [] (close_parenthesis ∷ []));
  });
  never = λ other after following is shut near same.
      let f = go other after following is (same ∙ bounds_append done [] following) in
      absurd (elim near [
        | inl n ↦ bounds_some f.0 after (f.2 ∙ n)
        | inr m ↦ bounds_first f.0 after next m.0 o c (f.2 ∙ m.1)
      ]);
  further = λ reported. absurd (false≢true reported);
}
