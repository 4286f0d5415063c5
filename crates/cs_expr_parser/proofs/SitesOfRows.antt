-- The returns of `arguments` and `bounds`, over indices of tokens.
use Rattle.std.proofs.Common.{◌≡◌, ℕ, suc, ◌+◌, ◌<◌, ◌≤◌, max, ◌⊎◌, inl, inr, Bool, true, false, List, [], ◌∷◌, ◌++◌}
use Rattle.std.proofs.Common.{length, refl, sym, ap, ◌∙◌, subst, arith, append_assoc, append-nil}
use Rattle.cs_ast.specs.declared.token.Token.{Token}
use Rattle.cs_ast.specs.declared.token.TokenKind.{TokenKind}
use Rattle.cs_ast.specs.declared.token.TokenKind.TheVariants as token
use Rattle.cs_ast.specs.declared.token.Punctuator.TheVariants as punctuator
use Rattle.cs_ast.specs.declared.raw.expression.RawExpr.{RawExpr}
use Rattle.cs_ast.specs.RawTree.{Written, WrittenList, End, More}
use Rattle.cs_ast.specs.RawView.{written, written_list}
use Rattle.cs_ast.specs.RawHeight.{height, highest}
use Rattle.cs_grammar.specs.TypeWords.{Names}
use Rattle.cs_grammar.specs.Text.{Kinds, text, listed, bounds_text}
use Rattle.cs_grammar.specs.Phrases.{ArePhrases}
use Rattle.cs_grammar.specs.Parsing.{Class, Expressions, Took, Refused, Exactly}
use Rattle.cs_grammar.proofs.Texts.{bounds_append, text_append, text_splits}
use Rattle.cs_expr_parser.specs.Positions.{kinds, kind_or_end}
use Rattle.cs_expr_parser.specs.Reasons.{plain_reason}
use Rattle.cs_expr_parser.specs.Parts.{Spells, Stops, IsTakenFrom, IsRowFrom, Rows, arguments_text, closed_bounds_text, is_deep}
use Rattle.cs_expr_parser.specs.declared.stop.Stop.{Stop}
use Rattle.cs_expr_parser.specs.declared.stop.Stop.TheVariants as stop
use Rattle.cs_expr_parser.specs.declared.stop.Taken.{Taken}
use Rattle.cs_expr_parser.specs.declared.lists.Listed.{Listed}
use Rattle.cs_expr_parser.proofs.Closings.{height_some, close_parenthesis}
use Rattle.cs_expr_parser.proofs.Standing.{spells_none, spells_more, spells_as}
use Rattle.cs_expr_parser.proofs.Stopping.{IsRefusalAfter, refused_after, refused_at, refused_here, plain_not_deep, stops_in}
use Rattle.cs_expr_parser.proofs.Sites.{punctuator_stands, taken_front}
use Rattle.cs_expr_parser.proofs.RowsOfTrees.{joined, row_text, row_more, row_append, row_listed, highest_joined, phrases_joined, list_more, ArgumentsGoOn}
use Rattle.cs_expr_parser.proofs.RowsOfTrees.{none_go_on, one_goes_on, argument_refused, argument_wrong, no_arguments, arguments_exact, BoundsGoOn, no_bounds}
use Rattle.cs_expr_parser.proofs.RowsOfTrees.{bounds_more, bound_goes_on, bound_refused, bound_wrong, bound_exact, bounds_exact, bounds_wrong}

abbrev comma_token : TokenKind
comma_token = token.Punctuator punctuator.Comma

abbrev open_bracket : TokenKind
open_bracket = token.Punctuator punctuator.OpenBracket

abbrev close_bracket : TokenKind
close_bracket = token.Punctuator punctuator.CloseBracket

-- the arguments so far, each with a comma after it, and the last one
pub record ArgumentsSoFar (names : Names) (limit : ℕ) (tokens : List Token) (from : ℕ) (done : WrittenList) (height : ℕ) (last : Taken) : Type 0 where
  pub at : ℕ
  pub spelled : Spells tokens from at (row_text done)
  pub last_is : IsTakenFrom names 1 limit tokens at last
  pub are : ArePhrases names 1 done
  pub goes_on : ArgumentsGoOn names done
  pub height_is : height ≡ max (highest done) last.height
  pub low : highest done ≤ limit

-- no argument comes next
pub arguments_none : (names : Names) (limit : ℕ) (tokens : List Token) (from : ℕ) (whole : Listed) → kind_or_end tokens from ≡ close_parenthesis
    → whole.trees.items ≡ [] → whole.height ≡ 0 → whole.next ≡ from + 1 → IsRowFrom arguments_text (ArePhrases names 1) limit tokens from whole
arguments_none names limit tokens from whole k empty tall next = record {
  height_is = tall ∙ ap (λ (x : List RawExpr). highest (written_list x)) (sym empty);
  spelled =
      subst (λ (n : ℕ). Spells tokens from n (arguments_text (written_list whole.trees.items))) (sym next)
      (subst (λ (x : List RawExpr). Spells tokens from (from + 1) (arguments_text (written_list x))) (sym empty)
      (punctuator_stands tokens from punctuator.CloseParenthesis k));
  exactly = subst (λ (x : List RawExpr). Exactly (Rows arguments_text (ArePhrases names 1)) limit (written_list x)) (sym empty) (no_arguments names limit);
}

-- the first argument was refused
pub first_argument_stops : (names : Names) (limit : ℕ) (tokens : List Token) (from : ℕ) → from ≤ length tokens
    → (kind_or_end tokens from ≡ close_parenthesis → ⊥) → (s : Stop) → Stops (Expressions names 1) limit tokens from s
    → Stops (Rows arguments_text (ArePhrases names 1)) limit tokens from s
first_argument_stops names limit tokens from within some s r =
    stops_in (Rows arguments_text (ArePhrases names 1)) (Expressions names 1) limit limit tokens from from [] (spells_none tokens from within)
    (λ front at deep sp x.
    argument_refused names limit End tt (omega arith) (inl refl) (none_go_on names) front (kind_or_end tokens at) deep
    (λ none empty k. some (sym (refused_here tokens from at front sp empty) ∙ k)) x) s r

pub first_argument : (names : Names) (limit : ℕ) (tokens : List Token) (from : ℕ) (last : Taken) → from ≤ length tokens
    → IsTakenFrom names 1 limit tokens from last → ArgumentsSoFar names limit tokens from End last.height last
first_argument names limit tokens from last within t = record {
  at = from;
  spelled = spells_none tokens from within;
  last_is = t;
  are = tt;
  goes_on = none_go_on names;
  height_is = omega arith;
  low = omega arith;
}

joined_some : (es : WrittenList) (x : Written) → joined es (More x End) ≡ End → ⊥
joined_some End x e = cc
joined_some (More f fs) x e = cc

with_comma : (names : Names) (limit : ℕ) (tokens : List Token) (at : ℕ) (last : Taken) → IsTakenFrom names 1 limit tokens at last
    → kind_or_end tokens last.next ≡ comma_token → Took (Expressions names 1) limit (written last.tree) comma_token last.deep
with_comma names limit tokens at last t k = subst (λ (x : TokenKind). Took (Expressions names 1) limit (written last.tree) x last.deep) k t.took

one_low : (names : Names) (limit : ℕ) (tokens : List Token) (at : ℕ) (done : WrittenList) (last : Taken) → IsTakenFrom names 1 limit tokens at last
    → highest done ≤ limit → highest (joined done (More (written last.tree) End)) ≤ limit
one_low names limit tokens at done last t low =
    let h = highest_joined done (More (written last.tree) End) in
    let l : height (written last.tree) ≤ limit = t.took.low in
    omega arith

-- the arguments with one more, and its comma
pub one_spelled : (names : Names) (limit : ℕ) (tokens : List Token) (from : ℕ) (done : WrittenList) (tall : ℕ) (last : Taken)
    → ArgumentsSoFar names limit tokens from done tall last → kind_or_end tokens last.next ≡ comma_token
    → Spells tokens from (last.next + 1) (row_text (joined done (More (written last.tree) End)))
one_spelled names limit tokens from done tall last a k =
    spells_as tokens from (last.next + 1) (λ rest. row_text done (text (written last.tree) (comma_token ∷ rest)))
    (row_text (joined done (More (written last.tree) End)))
    (spells_more tokens from a.at (last.next + 1) (row_text done) (λ rest. text (written last.tree) (comma_token ∷ rest)) a.spelled
    (spells_more tokens a.at last.next (last.next + 1) (text (written last.tree)) (λ rest. comma_token ∷ rest) a.last_is.spelled
    (punctuator_stands tokens last.next punctuator.Comma k)))
    (λ rest. sym (row_more done (written last.tree) rest))

pub one_are : (names : Names) (limit : ℕ) (tokens : List Token) (from : ℕ) (done : WrittenList) (tall : ℕ) (last : Taken)
    → ArgumentsSoFar names limit tokens from done tall last → ArePhrases names 1 (joined done (More (written last.tree) End))
one_are names limit tokens from done tall last a =
    phrases_joined names 1 done (More (written last.tree) End) a.are (a.last_is.took.is_phrase.0, a.last_is.took.is_phrase.1, tt)

-- the argument after a comma was refused
pub next_argument_stops : (names : Names) (limit : ℕ) (tokens : List Token) (from : ℕ) (done : WrittenList) (tall : ℕ) (last : Taken)
    → ArgumentsSoFar names limit tokens from done tall last → kind_or_end tokens last.next ≡ comma_token
    → (s : Stop) → Stops (Expressions names 1) limit tokens (last.next + 1) s → Stops (Rows arguments_text (ArePhrases names 1)) limit tokens from s
next_argument_stops names limit tokens from done tall last a k s r =
    let t = with_comma names limit tokens a.at last a.last_is k in
    let some : 1 ≤ limit = (let h = height_some (written last.tree) in let l : height (written last.tree) ≤ limit = t.low in omega arith) in
    stops_in (Rows arguments_text (ArePhrases names 1)) (Expressions names 1) limit limit tokens from (last.next + 1)
    (row_text (joined done (More (written last.tree) End)) [])
    (spells_as tokens from (last.next + 1) (row_text (joined done (More (written last.tree) End)))
    (λ rest. row_text (joined done (More (written last.tree) End)) [] ++ rest) (one_spelled names limit tokens from done tall last a k)
    (λ rest. sym (row_append (joined done (More (written last.tree) End)) [] rest)))
    (λ front at deep sp x.
    argument_refused names limit (joined done (More (written last.tree) End))
    (phrases_joined names 1 done (More (written last.tree) End) a.are (t.is_phrase.0, t.is_phrase.1, tt))
    (one_low names limit tokens a.at done last a.last_is a.low) (inr some)
    (one_goes_on names limit done (written last.tree) last.deep a.goes_on t) front (kind_or_end tokens at) deep
    (λ none empty c. joined_some done (written last.tree) none) x) s r

pub next_argument : (names : Names) (limit : ℕ) (tokens : List Token) (from : ℕ) (done : WrittenList) (tall : ℕ) (last another : Taken)
    → ArgumentsSoFar names limit tokens from done tall last → kind_or_end tokens last.next ≡ comma_token
    → IsTakenFrom names 1 limit tokens (last.next + 1) another
    → ArgumentsSoFar names limit tokens from (joined done (More (written last.tree) End)) (max tall another.height) another
next_argument names limit tokens from done tall last another a k f =
    let t = with_comma names limit tokens a.at last a.last_is k in
    record {
      at = last.next + 1;
      spelled = one_spelled names limit tokens from done tall last a k;
      last_is = f;
      are = phrases_joined names 1 done (More (written last.tree) End) a.are (t.is_phrase.0, t.is_phrase.1, tt);
      goes_on = one_goes_on names limit done (written last.tree) last.deep a.goes_on t;
      height_is = let h = highest_joined done (More (written last.tree) End) in let l = a.height_is in let g = a.last_is.height_is in omega arith;
      low = one_low names limit tokens a.at done last a.last_is a.low;
    }

-- neither a comma nor the closing parenthesis follows an argument
pub arguments_unclosed : (names : Names) (limit : ℕ) (tokens : List Token) (from : ℕ) (done : WrittenList) (tall : ℕ) (last : Taken) (s : Stop)
    → ArgumentsSoFar names limit tokens from done tall last → (kind_or_end tokens last.next ≡ comma_token → ⊥)
    → (kind_or_end tokens last.next ≡ close_parenthesis → ⊥) → IsRefusalAfter tokens last s
    → Stops (Rows arguments_text (ArePhrases names 1)) limit tokens from s
arguments_unclosed names limit tokens from done tall last s a comma close is =
    let some : 1 ≤ limit = (let h = height_some (written last.tree) in let l : height (written last.tree) ≤ limit = a.last_is.took.low in omega arith) in
    refused_after (Rows arguments_text (ArePhrases names 1)) limit tokens from last s (row_text done [] ++ text (written last.tree) []) is
    (spells_as tokens from last.next (λ rest. row_text done (text (written last.tree) rest))
    (λ rest. (row_text done [] ++ text (written last.tree) []) ++ rest)
    (spells_more tokens from a.at last.next (row_text done) (text (written last.tree)) a.spelled a.last_is.spelled)
    (λ rest. ap (row_text done) (text_splits (written last.tree) rest) ∙ sym (row_append done [] (text (written last.tree) [] ++ rest))
    ∙ sym (append_assoc (row_text done []) (text (written last.tree) []) rest)))
    (argument_wrong names limit done a.are a.low (inr some) a.goes_on (written last.tree) (kind_or_end tokens last.next) last.deep comma close a.last_is.took)

pub arguments_taken : (names : Names) (limit : ℕ) (tokens : List Token) (from : ℕ) (done : List RawExpr) (tall : ℕ) (last : Taken) (whole : Listed)
    → ArgumentsSoFar names limit tokens from (written_list done) tall last → kind_or_end tokens last.next ≡ close_parenthesis
    → whole.trees.items ≡ done ++ last.tree ∷ [] → whole.height ≡ tall → whole.next ≡ last.next + 1
    → IsRowFrom arguments_text (ArePhrases names 1) limit tokens from whole
arguments_taken names limit tokens from done tall last whole a k items tallness next =
    let all : written_list whole.trees.items ≡ joined (written_list done) (More (written last.tree) End) = ap written_list items
    ∙ list_more done last.tree in
    record {
      height_is =
          let h = highest_joined (written_list done) (More (written last.tree) End) in
          let l = a.height_is in
          let g = a.last_is.height_is in
          let e : tall ≡ highest (joined (written_list done) (More (written last.tree) End)) = omega arith in
          tallness ∙ e ∙ ap highest (sym all);
      spelled =
          subst (λ (n : ℕ). Spells tokens from n (arguments_text (written_list whole.trees.items))) (sym next)
          (subst (λ (x : WrittenList). Spells tokens from (last.next + 1) (arguments_text x)) (sym all)
          (spells_as tokens from (last.next + 1) (λ rest. row_text (written_list done) (text (written last.tree) (close_parenthesis ∷ rest)))
          (arguments_text (joined (written_list done) (More (written last.tree) End)))
          (spells_more tokens from a.at (last.next + 1) (row_text (written_list done)) (λ rest. text (written last.tree) (close_parenthesis ∷ rest))
          a.spelled
          (spells_more tokens a.at last.next (last.next + 1) (text (written last.tree)) (λ rest. close_parenthesis ∷ rest) a.last_is.spelled
          (punctuator_stands tokens last.next punctuator.CloseParenthesis k)))
          (λ rest. sym (row_listed (written_list done) (written last.tree) End (close_parenthesis ∷ rest)))));
      exactly =
          subst (λ (x : WrittenList). Exactly (Rows arguments_text (ArePhrases names 1)) limit x) (sym all)
          (arguments_exact names limit (written_list done) a.are a.low a.goes_on (written last.tree) last.deep
          (subst (λ (x : TokenKind). Took (Expressions names 1) limit (written last.tree) x last.deep) k a.last_is.took));
    }

-- the bounds so far
pub record BoundsSoFar (names : Names) (limit : ℕ) (tokens : List Token) (from next : ℕ) (done : WrittenList) (height : ℕ) : Type 0 where
  pub spelled : Spells tokens from next (bounds_text done)
  pub are : ArePhrases names 2 done
  pub goes_on : BoundsGoOn names done
  pub height_is : height ≡ highest done
  pub low : highest done ≤ limit

pub bounds_none : (names : Names) (limit : ℕ) (tokens : List Token) (from : ℕ) → from ≤ length tokens → BoundsSoFar names limit tokens from from End 0
bounds_none names limit tokens from within = record {
  spelled = spells_none tokens from within;
  are = tt;
  goes_on = no_bounds names;
  height_is = refl;
  low = omega arith;
}

-- the bounds so far, and the bracket of the next one
pub bracket_spelled : (names : Names) (limit : ℕ) (tokens : List Token) (from next : ℕ) (done : WrittenList) (tall : ℕ)
    → BoundsSoFar names limit tokens from next done tall → kind_or_end tokens next ≡ open_bracket
    → Spells tokens from (next + 1) (λ rest. bounds_text done (open_bracket ∷ rest))
bracket_spelled names limit tokens from next done tall b k =
    spells_more tokens from next (next + 1) (bounds_text done) (λ rest. open_bracket ∷ rest) b.spelled
    (punctuator_stands tokens next punctuator.OpenBracket k)

pub bound_stops : (names : Names) (limit : ℕ) (tokens : List Token) (from next : ℕ) (done : WrittenList) (tall : ℕ) → 1 ≤ limit
    → BoundsSoFar names limit tokens from next done tall → kind_or_end tokens next ≡ open_bracket
    → (s : Stop) → Stops (Expressions names 2) limit tokens (next + 1) s → Stops (Rows closed_bounds_text (ArePhrases names 2)) limit tokens from s
bound_stops names limit tokens from next done tall some b k s r =
    stops_in (Rows closed_bounds_text (ArePhrases names 2)) (Expressions names 2) limit limit tokens from (next + 1) (bounds_text done (open_bracket ∷ []))
    (spells_as tokens from (next + 1) (λ rest. bounds_text done (open_bracket ∷ rest)) (λ rest. bounds_text done (open_bracket ∷ []) ++ rest)
    (bracket_spelled names limit tokens from next done tall b k) (λ rest. sym (bounds_append done (open_bracket ∷ []) rest)))
    (λ front at deep sp x. bound_refused names limit done b.are b.low some b.goes_on front (kind_or_end tokens at) deep x) s r

-- no bracket closes the bound
pub bound_unclosed : (names : Names) (limit : ℕ) (tokens : List Token) (from next : ℕ) (done : WrittenList) (tall : ℕ) (bound : Taken) (s : Stop)
    → 1 ≤ limit → BoundsSoFar names limit tokens from next done tall → kind_or_end tokens next ≡ open_bracket
    → IsTakenFrom names 2 limit tokens (next + 1) bound → (kind_or_end tokens bound.next ≡ close_bracket → ⊥) → IsRefusalAfter tokens bound s
    → Stops (Rows closed_bounds_text (ArePhrases names 2)) limit tokens from s
bound_unclosed names limit tokens from next done tall bound s some b k t other is =
    refused_after (Rows closed_bounds_text (ArePhrases names 2)) limit tokens from bound s
    (bounds_text done (open_bracket ∷ []) ++ text (written bound.tree) []) is
    (spells_as tokens from bound.next (λ rest. bounds_text done (open_bracket ∷ text (written bound.tree) rest))
    (λ rest. (bounds_text done (open_bracket ∷ []) ++ text (written bound.tree) []) ++ rest)
    (spells_more tokens from (next + 1) bound.next (λ rest. bounds_text done (open_bracket ∷ rest)) (text (written bound.tree))
    (bracket_spelled names limit tokens from next done tall b k) t.spelled)
    (λ rest.
    ap (λ (x : Kinds). bounds_text done (open_bracket ∷ x)) (text_splits (written bound.tree) rest)
    ∙ sym (bounds_append done (open_bracket ∷ []) (text (written bound.tree) [] ++ rest))
    ∙ sym (append_assoc (bounds_text done (open_bracket ∷ [])) (text (written bound.tree) []) rest)))
    (bound_wrong names limit done b.are b.low some b.goes_on (written bound.tree) (kind_or_end tokens bound.next) bound.deep t.took other)

pub next_bound : (names : Names) (limit : ℕ) (tokens : List Token) (from next : ℕ) (done : List RawExpr) (tall : ℕ) (bound : Taken) (items : List RawExpr)
    → BoundsSoFar names limit tokens from next (written_list done) tall → kind_or_end tokens next ≡ open_bracket
    → IsTakenFrom names 2 limit tokens (next + 1) bound → kind_or_end tokens bound.next ≡ close_bracket → items ≡ done ++ bound.tree ∷ []
    → BoundsSoFar names limit tokens from (bound.next + 1) (written_list items) (max tall bound.height)
next_bound names limit tokens from next done tall bound items b k t c is =
    let all : written_list items ≡ joined (written_list done) (More (written bound.tree) End) = ap written_list is ∙ list_more done bound.tree in
    let low' : height (written bound.tree) ≤ limit = t.took.low in
    let h = highest_joined (written_list done) (More (written bound.tree) End) in
    let exact = bound_exact names limit (written bound.tree) bound.deep
    (subst (λ (x : TokenKind). Took (Expressions names 2) limit (written bound.tree) x bound.deep) c t.took) in
    subst (λ (x : WrittenList). BoundsSoFar names limit tokens from (bound.next + 1) x (max tall bound.height)) (sym all) (record {
      spelled =
          spells_as tokens from (bound.next + 1) (λ rest.
          bounds_text (written_list done) (open_bracket ∷ text (written bound.tree) (close_bracket ∷ rest)))
          (bounds_text (joined (written_list done) (More (written bound.tree) End)))
          (spells_more tokens from (next + 1) (bound.next + 1) (λ rest. bounds_text (written_list done) (open_bracket ∷ rest))
          (λ rest. text (written bound.tree) (close_bracket ∷ rest)) (bracket_spelled names limit tokens from next (written_list done) tall b k)
          (spells_more tokens (next + 1) bound.next (bound.next + 1) (text (written bound.tree)) (λ rest. close_bracket ∷ rest) t.spelled
          (punctuator_stands tokens bound.next punctuator.CloseBracket c)))
          (λ rest. sym (bounds_more (written_list done) (written bound.tree) rest));
      are = phrases_joined names 2 (written_list done) (More (written bound.tree) End) b.are (t.took.is_phrase.0, t.took.is_phrase.1, tt);
      goes_on = bound_goes_on names limit (written_list done) (written bound.tree) b.goes_on exact;
      height_is = let l = b.height_is in let g = t.height_is in omega arith;
      low = let l = b.low in omega arith;
    })

-- the next token is neither another bound nor the closing parenthesis
pub bounds_unclosed : (names : Names) (limit : ℕ) (tokens : List Token) (from next : ℕ) (done : WrittenList) (tall : ℕ) (s : Stop) (after_type : Bool)
    → BoundsSoFar names limit tokens from next done tall → (kind_or_end tokens next ≡ open_bracket → ⊥)
    → (kind_or_end tokens next ≡ close_parenthesis → ⊥) → s ≡ stop.Refused next (plain_reason (kind_or_end tokens next) after_type)
    → Stops (Rows closed_bounds_text (ArePhrases names 2)) limit tokens from s
bounds_unclosed names limit tokens from next done tall s after_type b no_bracket close is =
    subst (Stops (Rows closed_bounds_text (ArePhrases names 2)) limit tokens from) (sym is)
    (refused_at (Rows closed_bounds_text (ArePhrases names 2)) limit tokens from next (plain_reason (kind_or_end tokens next) after_type) false
    (bounds_text done [])
    (spells_as tokens from next (bounds_text done) (λ rest. bounds_text done [] ++ rest) b.spelled (λ rest. sym (bounds_append done [] rest)))
    (plain_not_deep (kind_or_end tokens next) after_type)
    (bounds_wrong names limit done b.are b.low b.goes_on (kind_or_end tokens next) no_bracket close))

pub bounds_taken : (names : Names) (limit : ℕ) (tokens : List Token) (from next : ℕ) (tall : ℕ) (whole : Listed)
    → BoundsSoFar names limit tokens from next (written_list whole.trees.items) tall → kind_or_end tokens next ≡ close_parenthesis
    → whole.height ≡ tall → whole.next ≡ next + 1 → IsRowFrom closed_bounds_text (ArePhrases names 2) limit tokens from whole
bounds_taken names limit tokens from next tall whole b k tallness number = record {
  height_is = tallness ∙ b.height_is;
  spelled =
      subst (λ (n : ℕ). Spells tokens from n (closed_bounds_text (written_list whole.trees.items))) (sym number)
      (spells_more tokens from next (next + 1) (bounds_text (written_list whole.trees.items)) (λ rest. close_parenthesis ∷ rest) b.spelled
      (punctuator_stands tokens next punctuator.CloseParenthesis k));
  exactly = bounds_exact names limit (written_list whole.trees.items) b.are b.low b.goes_on;
}
