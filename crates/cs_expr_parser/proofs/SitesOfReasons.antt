-- What each return of the parser's parts implies for the reason of a refusal, over indices of tokens.
use Rattle.std.proofs.Common.{◌≡◌, ℕ, suc, ◌+◌, ◌-◌, ◌<◌, ◌≤◌, max, ◌⊎◌, inl, inr, Bool, true, false, ◌&&◌}
use Rattle.std.proofs.Common.{if◌then◌else◌, List, [], ◌∷◌, ◌++◌, Result, Ok, Err, length, drop, refl, sym, ap, ◌∙◌, subst, arith}
use Rattle.std.proofs.Common.{append_assoc, append-nil}
use Rattle.std.proofs.lemmas.Bool.{false≢true}
use Rattle.cs_ast.specs.declared.token.Token.{Token}
use Rattle.cs_ast.specs.declared.token.TokenKind.{TokenKind}
use Rattle.cs_ast.specs.declared.token.TokenKind.TheVariants as token
use Rattle.cs_ast.specs.declared.token.Keyword.TheVariants as keyword
use Rattle.cs_ast.specs.declared.token.Punctuator.{Punctuator}
use Rattle.cs_ast.specs.declared.token.Punctuator.TheVariants as punctuator
use Rattle.cs_ast.specs.declared.raw.operator.InfixOp.{InfixOp}
use Rattle.cs_ast.specs.declared.raw.operator.AssignOp.{AssignOp}
use Rattle.cs_ast.specs.declared.raw.written_type.TypeWord.{TypeWord}
use Rattle.cs_ast.specs.declared.raw.written_type.TypeWord.TheVariants as word
use Rattle.cs_ast.specs.declared.raw.written_type.IntegerWord.TheVariants.{Char, Short, Int, Long, Signed, Unsigned}
use Rattle.cs_ast.specs.declared.raw.written_type.PointerWord.{PointerWord}
use Rattle.cs_ast.specs.declared.raw.written_type.PointerWord.TheVariants as pointer
use Rattle.cs_ast.specs.declared.raw.expression.RawExpr.{RawExpr}
use Rattle.cs_ast.specs.RawTree.{Written, WrittenList, End, More}
use Rattle.cs_ast.specs.RawView.{written, written_list}
use Rattle.cs_grammar.specs.declared.refusal.Reason.{Reason}
use Rattle.cs_grammar.specs.TypeWords.{Names, named_by}
use Rattle.cs_grammar.specs.Punctuators.{infix_punctuator, assign_punctuator}
use Rattle.cs_grammar.specs.Text.{Kinds, text, bounds_text, words_text, pointers_text, type_text, type_word_text}
use Rattle.cs_grammar.specs.Phrases.{IsWell, ArePhrases}
use Rattle.cs_grammar.specs.Refusals.{IsUnsupported, EndsWithTag, EndsWithType, struct_after, enum_after, struct_tag_after, enum_tag_after}
use Rattle.cs_grammar.proofs.Texts.{text_append, bounds_append, word_append, words_append}
use Rattle.cs_expr_parser.specs.Positions.{kinds, kind_or_end, is_brace, name_of}
use Rattle.cs_expr_parser.specs.Reasons.{plain_reason, reason_of, ends_in_type}
use Rattle.cs_expr_parser.specs.Parts.{Spells, IsTakenFrom, IsChainFrom, IsTypeFrom, IsSelected, parts_of, type_closed_text}
use Rattle.cs_expr_parser.specs.Words.{has_tag, last_tagged, is_last_tag, IsTagMissing, JoiningAnswer, IsWordsFrom, IsPointersFrom, PointersAnswer}
use Rattle.cs_expr_parser.specs.Unary.{before_text}
use Rattle.cs_expr_parser.specs.LastTokens.{Last, AnyToken, TagWord, TypeEnd, begin_type, named, opened_by, last_by, last_of, IsPlainEnd, YieldsUnsupported}
use Rattle.cs_expr_parser.specs.LastTokens.{YieldsAfter, IsReportedAt, IsReported, IsStopReported, IsReportedAfter, IsStopReportedAfter}
use Rattle.cs_expr_parser.specs.declared.stop.Stop.{Stop}
use Rattle.cs_expr_parser.specs.declared.stop.Stop.TheVariants as stop
use Rattle.cs_expr_parser.specs.declared.stop.Taken.{Taken}
use Rattle.cs_expr_parser.specs.declared.unary.Before.{Before}
use Rattle.cs_expr_parser.specs.declared.unary.Before.TheVariants as before
use Rattle.cs_expr_parser.specs.declared.types.TypeWords.{TypeWords}
use Rattle.cs_expr_parser.specs.declared.types.PointerWords.{PointerWords}
use Rattle.cs_expr_parser.specs.declared.types.TakenType.{TakenType}
use Rattle.cs_expr_parser.proofs.Standing.{spells_none, spells_more, spells_as}
use Rattle.cs_expr_parser.proofs.Stopping.{IsRefusalAfter, IsRefusalAt}
use Rattle.cs_expr_parser.proofs.Sites.{punctuator_stands, taken_front, front_and_punctuator}
use Rattle.cs_expr_parser.proofs.RowsOfTrees.{joined, row_text, row_append}
use Rattle.cs_expr_parser.proofs.SitesOfLevels.{choice_front}
use Rattle.cs_expr_parser.proofs.SitesOfRows.{ArgumentsSoFar, BoundsSoFar, one_spelled, one_are, bracket_spelled}
use Rattle.cs_expr_parser.proofs.SitesOfTypes.{words_and_pointers}
use Rattle.cs_expr_parser.proofs.SitesOfWords.{WordsSoFar, keyword_stands, nothing_named}
use Rattle.cs_expr_parser.proofs.SitesOfPrefixes.{before_stands, cast_front, size_front, parenthesis_stands}
use Rattle.cs_expr_parser.proofs.TypesInside.{head_text}
use Rattle.cs_expr_parser.proofs.TypedPrefixes.{sizeof_token}
use Rattle.cs_expr_parser.proofs.LastTokens.{ending, text_last, step_last, prefix_last, infix_last, assign_last, bounds_last}
use Rattle.cs_expr_parser.proofs.Telling.{Calm, Resets, reported_in, reported_after_type, yields_plain, yields_reason, yields_after, tag_after, text_ends}
use Rattle.cs_expr_parser.proofs.Telling.{text_plain}

abbrev open_parenthesis : TokenKind
open_parenthesis = token.Punctuator punctuator.OpenParenthesis

abbrev close_parenthesis : TokenKind
close_parenthesis = token.Punctuator punctuator.CloseParenthesis

-- the first token was refused
pub reported_first : (names : Names) (tokens : List Token) (at : ℕ) (deep : Bool) (s : Stop) → at ≤ length tokens → IsRefusalAt tokens at deep s
    → IsReported names tokens at s
reported_first names tokens at deep s within is =
    subst (IsReported names tokens at) (sym is) (record {
      front = [];
      spelled = spells_none tokens at within;
      yields = yields_reason names [] (kind_or_end tokens at) deep false (λ b. absurd (false≢true b)) (λ b opened. refl);
    })

-- the token after an expression was refused
pub reported_after : (names : Names) (level limit : ℕ) (tokens : List Token) (from : ℕ) (taken : Taken) (s : Stop)
    → IsTakenFrom names level limit tokens from taken → IsRefusalAfter tokens taken s → IsReported names tokens from s
reported_after names level limit tokens from taken s t is =
    subst (IsReported names tokens from) (sym is) (record {
      front = text (written taken.tree) [];
      spelled = taken_front tokens from taken.next (written taken.tree) t.spelled;
      yields =
          yields_reason names (text (written taken.tree) []) (kind_or_end tokens taken.next) taken.deep (ends_in_type (written taken.tree))
          (λ b. inr (text_ends names (written taken.tree) t.took.is_phrase.1 b)) (λ b. text_plain names (written taken.tree) t.took.is_phrase.1 b);
    })

calm_parenthesis : (names : Names) → Calm names (open_parenthesis ∷ [])
calm_parenthesis names opened front = (begin_type names front ∷ opened, refl)

-- after an opening parenthesis
pub reported_in_parenthesis : (names : Names) (tokens : List Token) (from : ℕ) → kind_or_end tokens from ≡ open_parenthesis
    → (s : Stop) → IsReported names tokens (from + 1) s → IsReported names tokens from s
reported_in_parenthesis names tokens from k s t =
    reported_in names tokens from (from + 1) (open_parenthesis ∷ []) (parenthesis_stands tokens from k) (calm_parenthesis names) s t

calm_text : (names : Names) (e : Written) (tail : Kinds) → IsWell names e → Resets names tail → Calm names (text e tail)
calm_text names e tail well resets opened front =
    let r = resets opened (ending e) front in
    (r.0, ap (last_of names opened AnyToken) (text_append e tail front) ∙ text_last names e opened AnyToken (tail ++ front) well refl ∙ r.1)

pub resets_bracket : (names : Names) → Resets names (token.Punctuator punctuator.OpenBracket ∷ [])
resets_bracket names opened last front = (opened, refl)

pub resets_parenthesis : (names : Names) → Resets names (open_parenthesis ∷ [])
resets_parenthesis names opened last front = (begin_type names front ∷ opened, refl)

pub resets_member : (names : Names) (through : Bool) → Resets names (token.Punctuator (if through then punctuator.Arrow else punctuator.Dot) ∷ [])
resets_member names true opened last front = (opened, refl)
resets_member names false opened last front = (opened, refl)

pub resets_infix : (names : Names) (op : InfixOp) → Resets names (token.Punctuator (infix_punctuator op) ∷ [])
resets_infix names op opened last front = (opened, infix_last names opened last op front)

pub resets_assign : (names : Names) (op : AssignOp) → Resets names (token.Punctuator (assign_punctuator op) ∷ [])
resets_assign names op opened last front = (opened, assign_last names opened last op front)

pub resets_comma : (names : Names) → Resets names (token.Punctuator punctuator.Comma ∷ [])
resets_comma names opened last front = (opened, refl)

pub resets_question : (names : Names) → Resets names (token.Punctuator punctuator.Question ∷ [])
resets_question names opened last front = (opened, refl)

-- after an operand and a punctuator
reported_operand : (names : Names) (tokens : List Token) (from : ℕ) (left : Taken) (m : Punctuator) → IsWell names (written left.tree)
    → Spells tokens from left.next (text (written left.tree)) → kind_or_end tokens left.next ≡ token.Punctuator m
    → Resets names (token.Punctuator m ∷ []) → (s : Stop) → IsReported names tokens (left.next + 1) s → IsReported names tokens from s
reported_operand names tokens from left m well spelled k resets s t =
    reported_in names tokens from (left.next + 1) (text (written left.tree) (token.Punctuator m ∷ []))
    (front_and_punctuator tokens from left.next (written left.tree) m spelled k)
    (calm_text names (written left.tree) (token.Punctuator m ∷ []) well resets) s t

pub reported_in_chain : (names : Names) (level limit : ℕ) (tokens : List Token) (from : ℕ) (left : Taken) (m : Punctuator)
    → IsChainFrom names level limit tokens from left → kind_or_end tokens left.next ≡ token.Punctuator m → Resets names (token.Punctuator m ∷ [])
    → (s : Stop) → IsReported names tokens (left.next + 1) s → IsReported names tokens from s
reported_in_chain names level limit tokens from left m c k resets s t = reported_operand names tokens from left m c.grows.is_phrase.1 c.spelled k resets s t

pub reported_in_operand : (names : Names) (level limit : ℕ) (tokens : List Token) (from : ℕ) (left : Taken) (m : Punctuator)
    → IsTakenFrom names level limit tokens from left → kind_or_end tokens left.next ≡ token.Punctuator m → Resets names (token.Punctuator m ∷ [])
    → (s : Stop) → IsReported names tokens (left.next + 1) s → IsReported names tokens from s
reported_in_operand names level limit tokens from left m c k resets s t = reported_operand names tokens from left m c.took.is_phrase.1 c.spelled k resets s t

-- after a dot or an arrow
pub reported_member : (names : Names) (limit : ℕ) (tokens : List Token) (from : ℕ) (left : Taken) (through : Bool) (answer : Result Taken Stop)
    → IsChainFrom names 15 limit tokens from left → kind_or_end tokens left.next ≡ token.Punctuator (if through then punctuator.Arrow else punctuator.Dot)
    → left.next < length tokens → IsSelected through (written left.tree) left.height left.next tokens answer → IsStopReported names tokens from answer
reported_member names limit tokens from left through (Ok whole) c k within n = tt
reported_member names limit tokens from left through (Err stop.Memory) c k within n = tt
reported_member names limit tokens from left through (Err (stop.Refused at reason)) c k within (none, number, why) =
    reported_in_chain names 15 limit tokens from left (if through then punctuator.Arrow else punctuator.Dot) c k (resets_member names through)
    (stop.Refused at reason)
    (subst (λ (x : ℕ). IsReported names tokens (left.next + 1) (stop.Refused x reason)) (sym number)
    (reported_first names tokens (left.next + 1) false (stop.Refused (left.next + 1) reason) (omega arith) (ap (stop.Refused (left.next + 1)) why)))

-- after a test, the second operand and a colon
pub reported_other : (names : Names) (limit : ℕ) (tokens : List Token) (from : ℕ) (test one : Taken) → IsTakenFrom names 3 limit tokens from test
    → kind_or_end tokens test.next ≡ token.Punctuator punctuator.Question → IsTakenFrom names 0 (limit - 1) tokens (test.next + 1) one
    → kind_or_end tokens one.next ≡ token.Punctuator punctuator.Colon → (s : Stop) → IsReported names tokens (one.next + 1) s
    → IsReported names tokens from s
reported_other names limit tokens from test one t k o c s r =
    reported_in_operand names 3 limit tokens from test punctuator.Question t k (resets_question names) s
    (reported_in_operand names 0 (limit - 1) tokens (test.next + 1) one punctuator.Colon o c (λ opened last front. (opened, refl)) s r)

calm_row : (names : Names) (es : WrittenList) → ArePhrases names 1 es → Calm names (row_text es [])
calm_row names End are opened front = (opened, refl)
calm_row names (More e es) are opened front =
    let r = calm_row names es are.2 opened front in (
      r.0,
      ap (last_of names opened AnyToken) (text_append e (token.Punctuator punctuator.Comma ∷ row_text es []) front)
          ∙ text_last names e opened AnyToken (token.Punctuator punctuator.Comma ∷ row_text es [] ++ front) are.1 refl ∙ r.1,
    )

-- after arguments and a comma
pub reported_argument : (names : Names) (limit : ℕ) (tokens : List Token) (from : ℕ) (done : WrittenList) (tall : ℕ) (last : Taken)
    → ArgumentsSoFar names limit tokens from done tall last → kind_or_end tokens last.next ≡ token.Punctuator punctuator.Comma
    → (s : Stop) → IsReported names tokens (last.next + 1) s → IsReported names tokens from s
reported_argument names limit tokens from done tall last a k s t =
    reported_in names tokens from (last.next + 1) (row_text (joined done (More (written last.tree) End)) [])
    (spells_as tokens from (last.next + 1) (row_text (joined done (More (written last.tree) End)))
    (λ rest. row_text (joined done (More (written last.tree) End)) [] ++ rest) (one_spelled names limit tokens from done tall last a k)
    (λ rest. sym (row_append (joined done (More (written last.tree) End)) [] rest)))
    (calm_row names (joined done (More (written last.tree) End)) (one_are names limit tokens from done tall last a)) s t

-- the token after the last argument was refused
pub reported_after_argument : (names : Names) (limit : ℕ) (tokens : List Token) (from : ℕ) (done : WrittenList) (tall : ℕ) (last : Taken) (s : Stop)
    → ArgumentsSoFar names limit tokens from done tall last → IsRefusalAfter tokens last s → IsReported names tokens from s
reported_after_argument names limit tokens from done tall last s a is =
    reported_in names tokens from a.at (row_text done [])
    (spells_as tokens from a.at (row_text done) (λ rest. row_text done [] ++ rest) a.spelled (λ rest. sym (row_append done [] rest)))
    (calm_row names done a.are) s (reported_after names 1 limit tokens a.at last s a.last_is is)

resets_bounds : (names : Names) (es : WrittenList) → ArePhrases names 2 es → Resets names (bounds_text es (token.Punctuator punctuator.OpenBracket ∷ []))
resets_bounds names End are opened last front = (opened, refl)
resets_bounds names (More e es) are opened last front =
    let r = resets_bounds names es are.2 opened AnyToken front in (
      r.0,
      ap (last_of names opened AnyToken)
          (text_append e (token.Punctuator punctuator.CloseBracket ∷ bounds_text es (token.Punctuator punctuator.OpenBracket ∷ [])) front)
          ∙ text_last names e opened AnyToken (token.Punctuator punctuator.CloseBracket ∷ bounds_text es (token.Punctuator punctuator.OpenBracket ∷ [])
          ++ front) are.1 refl ∙ r.1,
    )

-- which parentheses are open after some tokens, and what the last tokens are
reached : (names : Names) (before front : Kinds) (opened : List Bool) (last : Last)
    → (others : List Bool) × (following : Last) × (last_of names opened last (before ++ front) ≡ last_of names others following front)
reached names [] front opened last = (opened, last, refl)
reached names (b ∷ bs) front opened last = reached names bs front (opened_by names opened b (bs ++ front)) (last_by opened last b)

-- after these tokens, those before them don't matter
calm_after : (names : Names) (before mid : Kinds) → Resets names mid → Calm names (before ++ mid)
calm_after names before mid resets opened front =
    let r = reached names before (mid ++ front) opened AnyToken in
    let s = resets r.0 r.1 front in
    (s.0, ap (last_of names opened AnyToken) (append_assoc before mid front) ∙ r.2 ∙ s.1)

-- a bound was refused
pub reported_bound : (names : Names) (limit : ℕ) (tokens : List Token) (from next : ℕ) (done : WrittenList) (tall : ℕ) (before : Kinds)
    → BoundsSoFar names limit tokens from next done tall → kind_or_end tokens next ≡ token.Punctuator punctuator.OpenBracket
    → (s : Stop) → IsReported names tokens (next + 1) s → IsReportedAfter names before tokens from s
reported_bound names limit tokens from next done tall before b k stop.Memory t = tt
reported_bound names limit tokens from next done tall before b k (stop.Refused at reason) t = record {
  front = bounds_text done (token.Punctuator punctuator.OpenBracket ∷ []) ++ t.front;
  spelled =
      let sp = spells_as tokens from (next + 1) (λ rest. bounds_text done (token.Punctuator punctuator.OpenBracket ∷ rest))
      (λ rest. bounds_text done (token.Punctuator punctuator.OpenBracket ∷ []) ++ rest) (bracket_spelled names limit tokens from next done tall b k)
      (λ rest. sym (bounds_append done (token.Punctuator punctuator.OpenBracket ∷ []) rest)) in
      let q = spells_more tokens from (next + 1) at (λ rest. bounds_text done (token.Punctuator punctuator.OpenBracket ∷ []) ++ rest)
      (λ rest. t.front ++ rest) sp t.spelled in
      record {
        onward = q.onward;
        within = q.within;
        spelled = q.spelled ∙ sym (append_assoc (bounds_text done (token.Punctuator punctuator.OpenBracket ∷ [])) t.front (kinds (drop at tokens)));
      };
  yields =
      subst (λ (x : Kinds). YieldsUnsupported names x (kind_or_end tokens at) reason)
      (append_assoc before (bounds_text done (token.Punctuator punctuator.OpenBracket ∷ [])) t.front)
      (yields_after names (before ++ bounds_text done (token.Punctuator punctuator.OpenBracket ∷ [])) t.front (kind_or_end tokens at) reason
      (calm_after names before (bounds_text done (token.Punctuator punctuator.OpenBracket ∷ [])) (resets_bounds names done b.are)) t.yields);
}

plain_bounds : (names : Names) (es : WrittenList) (opened : List Bool) → ArePhrases names 2 es
    → last_of names opened AnyToken (bounds_text es []) ≡ AnyToken
plain_bounds names End opened are = refl
plain_bounds names (More e es) opened are = text_last names e opened AnyToken (token.Punctuator punctuator.CloseBracket ∷ bounds_text es []) are.1 refl
    ∙ plain_bounds names es opened are.2

-- bounds don't end with a tag or a type
bounds_plain : (names : Names) (before : Kinds) (e : Written) (es : WrittenList) → ArePhrases names 2 (More e es)
    → IsPlainEnd names (before ++ bounds_text (More e es) [])
bounds_plain names before e es are opened =
    let r = reached names before (bounds_text (More e es) []) opened AnyToken in
    r.2 ∙ text_last names e r.0 AnyToken (token.Punctuator punctuator.CloseBracket ∷ bounds_text es []) are.1 refl ∙ plain_bounds names es r.0 are.2

yields_bare : (names : Names) (before : Kinds) (next : TokenKind) (following : Bool) → YieldsAfter names before following
    → YieldsUnsupported names before next (plain_reason next following)
yields_bare names before next true yields = yields_plain names before next true (λ b. inl yields) (λ b. absurd (false≢true (sym b)))
yields_bare names before next false yields = yields_plain names before next false (λ b. absurd (false≢true b)) (λ b. yields)

bounds_tell : (names : Names) (before : Kinds) (next : TokenKind) (items : List RawExpr) (tag : Bool) → ArePhrases names 2 (written_list items)
    → YieldsAfter names before tag
    → YieldsUnsupported names (before ++ bounds_text (written_list items) []) next (plain_reason next (is_last_tag tag items))
bounds_tell names before next [] tag are yields =
    subst (λ (x : Kinds). YieldsUnsupported names x next (plain_reason next tag)) (sym (append-nil before)) (yields_bare names before next tag yields)
bounds_tell names before next (x ∷ xs) tag are yields =
    yields_plain names (before ++ bounds_text (written_list (x ∷ xs)) []) next false (λ b. absurd (false≢true b))
    (λ b. bounds_plain names before (written x) (written_list xs) are)

-- the token after bounds was refused
pub reported_after_bounds : (names : Names) (limit : ℕ) (tokens : List Token) (from next : ℕ) (items : List RawExpr) (tall : ℕ) (before : Kinds)
    (tag : Bool) (s : Stop) → BoundsSoFar names limit tokens from next (written_list items) tall → YieldsAfter names before tag
    → s ≡ stop.Refused next (plain_reason (kind_or_end tokens next) (is_last_tag tag items)) → IsReportedAfter names before tokens from s
reported_after_bounds names limit tokens from next items tall before tag s b yields is =
    subst (IsReportedAfter names before tokens from) (sym is) (record {
      front = bounds_text (written_list items) [];
      spelled = spells_as tokens from next (bounds_text (written_list items)) (λ rest. bounds_text (written_list items) [] ++ rest) b.spelled
          (λ rest. sym (bounds_append (written_list items) [] rest));
      yields = bounds_tell names before (kind_or_end tokens next) items tag b.are yields;
    })

-- the parser of pointers fails only if memory runs out
pub reported_pointers : (names : Names) (tokens : List Token) (from at : ℕ) (s : Stop) → PointersAnswer tokens at (Err s) → IsReported names tokens from s
reported_pointers names tokens from at stop.Memory p = tt
reported_pointers names tokens from at (stop.Refused number reason) p = absurd p

-- the bounds of a type were refused
pub reported_bounds : (names : Names) (tokens : List Token) (from : ℕ) (words : TypeWords) (pointers : PointerWords) → IsWordsFrom names tokens from words
    → IsPointersFrom tokens words.next pointers → (s : Stop)
    → IsReportedAfter names (words_text words.words.items (pointers_text pointers.words.items [])) tokens pointers.next s → IsReported names tokens from s
reported_bounds names tokens from words pointers w p stop.Memory t = tt
reported_bounds names tokens from words pointers w p (stop.Refused at reason) t = record {
  front = words_text words.words.items (pointers_text pointers.words.items []) ++ t.front;
  spelled =
      let sp = spells_as tokens from pointers.next (λ rest. words_text words.words.items (pointers_text pointers.words.items rest))
      (λ rest. words_text words.words.items (pointers_text pointers.words.items []) ++ rest) (words_and_pointers names tokens from words pointers w p)
      (λ rest. sym (head_text words.words.items pointers.words.items rest)) in
      let q = spells_more tokens from pointers.next at (λ rest. words_text words.words.items (pointers_text pointers.words.items []) ++ rest)
      (λ rest. t.front ++ rest) sp t.spelled in
      record {
        onward = q.onward;
        within = q.within;
        spelled = q.spelled ∙ sym (append_assoc (words_text words.words.items (pointers_text pointers.words.items [])) t.front (kinds (drop at tokens)));
      };
  yields = t.yields;
}

-- a prefix
calm_before : (names : Names) (b : Before) → Calm names (before_text b ∷ [])
calm_before names (before.Step by) opened front = (opened, step_last names opened AnyToken by front)
calm_before names (before.Operator op) opened front = (opened, prefix_last names opened AnyToken op front)
calm_before names before.Size opened front = (opened, refl)

pub reported_before : (names : Names) (tokens : List Token) (from : ℕ) (b : Before) → kind_or_end tokens from ≡ before_text b
    → (s : Stop) → IsReported names tokens (from + 1) s → IsReported names tokens from s
reported_before names tokens from b k s t =
    reported_in names tokens from (from + 1) (before_text b ∷ []) (before_stands tokens from b k) (calm_before names b) s t

-- after `sizeof` and a parenthesis
pub reported_in_size : (names : Names) (tokens : List Token) (from : ℕ) → kind_or_end tokens from ≡ before_text before.Size
    → kind_or_end tokens (from + 1) ≡ open_parenthesis → (s : Stop) → IsReported names tokens (from + 2) s → IsReported names tokens from s
reported_in_size names tokens from k o s t =
    reported_in names tokens from (from + 2) (sizeof_token ∷ open_parenthesis ∷ []) (size_front tokens from k o)
    (λ opened front. (begin_type names front ∷ opened, refl)) s t

pub reported_size_answer : (names : Names) (tokens : List Token) (from : ℕ) (answer : Result Taken Stop)
    → kind_or_end tokens from ≡ before_text before.Size → kind_or_end tokens (from + 1) ≡ open_parenthesis
    → IsStopReported names tokens (from + 2) answer → IsStopReported names tokens from answer
reported_size_answer names tokens from (Ok taken) k o t = tt
reported_size_answer names tokens from (Err s) k o t = reported_in_size names tokens from k o s t

-- after a type between parentheses
pub reported_in_cast : (names : Names) (limit : ℕ) (tokens : List Token) (from : ℕ) (taken : TakenType) → kind_or_end tokens from ≡ open_parenthesis
    → IsTypeFrom names limit tokens (from + 1) taken → is_brace (kind_or_end tokens taken.next) ≡ false
    → (s : Stop) → IsReported names tokens taken.next s → IsReported names tokens from s
reported_in_cast names limit tokens from taken k t none s r =
    reported_after_type names tokens from taken.next taken.ty.words.items taken.ty.pointers.items (written_list taken.bounds.items) t.exactly.is_phrase.words
    t.exactly.is_phrase.bounds (cast_front names limit tokens from taken k t) none s r

-- a brace after the type of a cast
pub reported_brace : (names : Names) (limit : ℕ) (tokens : List Token) (from : ℕ) (taken : TakenType) (s : Stop)
    → kind_or_end tokens from ≡ open_parenthesis → IsTypeFrom names limit tokens (from + 1) taken
    → s ≡ stop.Refused taken.next (plain_reason (kind_or_end tokens taken.next) true) → IsReported names tokens from s
reported_brace names limit tokens from taken s k t is =
    subst (IsReported names tokens from) (sym is) (record {
      front = open_parenthesis ∷ type_closed_text (parts_of taken) [];
      spelled = cast_front names limit tokens from taken k t;
      yields =
          yields_plain names (open_parenthesis ∷ type_closed_text (parts_of taken) []) (kind_or_end tokens taken.next) true
          (λ b. inr (record {
            before = [];
            words = taken.ty.words.items;
            pointers = taken.ty.pointers.items;
            bounds = written_list taken.bounds.items;
            type = t.exactly.is_phrase.words;
            pointer = t.exactly.is_phrase.pointers;
            phrases = t.exactly.is_phrase.bounds;
            spelled = refl;
          }))
          (λ b. absurd (false≢true (sym b)));
    })

tag_word_ends : (before : Kinds) (is_struct : Bool) → EndsWithTag (before ++ token.Keyword (if is_struct then keyword.Struct else keyword.Enum) ∷ [])
tag_word_ends before true = struct_after before
tag_word_ends before false = enum_after before

abbrev tag_end : Bool → Last
tag_end b = if b then TypeEnd else AnyToken

tag_end_named : (b : Bool) → named (tag_end b) ≡ AnyToken
tag_end_named true = refl
tag_end_named false = refl

word_end : (names : Names) (opened : List Bool) (last : Last) (w : TypeWord) (rest : Kinds) → named last ≡ AnyToken
    → last_of names opened last (type_word_text w rest) ≡ last_of names opened (tag_end (has_tag w)) rest
word_end names opened last word.Const rest n = refl
word_end names opened last word.Void rest n = refl
word_end names opened last (word.Typedef name) rest n = ap (λ (x : Last). last_of names opened x rest) n
word_end names opened last (word.Struct tag) rest n = refl
word_end names opened last (word.Enum tag) rest n = refl
word_end names opened last (word.Integer Char) rest n = refl
word_end names opened last (word.Integer Short) rest n = refl
word_end names opened last (word.Integer Int) rest n = refl
word_end names opened last (word.Integer Long) rest n = refl
word_end names opened last (word.Integer Signed) rest n = refl
word_end names opened last (word.Integer Unsigned) rest n = refl

words_end : (names : Names) (opened : List Bool) (last : Last) (ws : List TypeWord) (rest : Kinds) → named last ≡ AnyToken
    → (ws ≡ [] → last ≡ AnyToken) → last_of names opened last (words_text ws rest) ≡ last_of names opened (tag_end (last_tagged ws)) rest
words_end names opened last [] rest n e = ap (λ (x : Last). last_of names opened x rest) (e refl)
words_end names opened last (w ∷ []) rest n e = word_end names opened last w rest n
words_end names opened last (w ∷ v ∷ ws) rest n e =
    word_end names opened last w (words_text (v ∷ ws) rest) n
    ∙ words_end names opened (tag_end (has_tag w)) (v ∷ ws) rest (tag_end_named (has_tag w)) (λ z. absurd cc)

consts_untagged : (ws : List TypeWord) → named_by ws ≡ [] → last_tagged ws ≡ false
consts_untagged [] e = refl
consts_untagged (word.Const ∷ []) e = refl
consts_untagged (word.Const ∷ v ∷ ws) e = consts_untagged (v ∷ ws) e
consts_untagged (word.Void ∷ ws) e = absurd cc
consts_untagged (word.Integer k ∷ ws) e = absurd cc
consts_untagged (word.Typedef name ∷ ws) e = absurd cc
consts_untagged (word.Struct tag ∷ ws) e = absurd cc
consts_untagged (word.Enum tag ∷ ws) e = absurd cc

tagged_ends : (ws : List TypeWord) → last_tagged ws ≡ true → EndsWithTag (words_text ws [])
tagged_ends [] t = absurd cc
tagged_ends (word.Struct tag ∷ []) t = struct_tag_after [] tag
tagged_ends (word.Enum tag ∷ []) t = enum_tag_after [] tag
tagged_ends (word.Const ∷ []) t = absurd cc
tagged_ends (word.Void ∷ []) t = absurd cc
tagged_ends (word.Integer k ∷ []) t = absurd cc
tagged_ends (word.Typedef name ∷ []) t = absurd cc
tagged_ends (w ∷ v ∷ ws) t =
    subst EndsWithTag (word_append w [] (words_text (v ∷ ws) [])) (tag_after (type_word_text w []) (words_text (v ∷ ws) []) (tagged_ends (v ∷ ws) t))

pointers_plain : (names : Names) (opened : List Bool) (ps : List PointerWord) → last_of names opened AnyToken (pointers_text ps []) ≡ AnyToken
pointers_plain names opened [] = refl
pointers_plain names opened (pointer.Star ∷ ps) = pointers_plain names opened ps
pointers_plain names opened (pointer.Const ∷ ps) = pointers_plain names opened ps

some_pointers : (names : Names) (opened : List Bool) (last : Last) (p : PointerWord) (ps : List PointerWord)
    → last_of names opened last (pointers_text (p ∷ ps) []) ≡ AnyToken
some_pointers names opened last pointer.Star ps = pointers_plain names opened ps
some_pointers names opened last pointer.Const ps = pointers_plain names opened ps

words_tell : (names : Names) (ws : List TypeWord) (tagged : Bool) → tagged ≡ last_tagged ws → YieldsAfter names (words_text ws []) tagged
words_tell names ws true t = tagged_ends ws (sym t)
words_tell names ws false t = λ opened. words_end names opened AnyToken ws [] refl (λ e. refl) ∙ ap tag_end (sym t)

-- whether a type's words and pointers end with a tag
pub type_yields : (names : Names) (ws : List TypeWord) (ps : List PointerWord) (tagged : Bool) → tagged ≡ last_tagged ws
    → YieldsAfter names (words_text ws (pointers_text ps [])) (is_last_tag tagged ps)
type_yields names ws [] tagged t = words_tell names ws tagged t
type_yields names ws (p ∷ ps) tagged t =
    λ opened. words_end names opened AnyToken ws (pointers_text (p ∷ ps) []) refl (λ e. refl) ∙ some_pointers names opened (tag_end (last_tagged ws)) p ps

-- a tag is missing
tag_reported : (names : Names) (tokens : List Token) (from next : ℕ) (words : List TypeWord) (reason : Reason) (is_struct : Bool)
    → Spells tokens from next (words_text words) → kind_or_end tokens next ≡ token.Keyword (if is_struct then keyword.Struct else keyword.Enum)
    → reason ≡ plain_reason (kind_or_end tokens (next + 1)) true → IsReportedAt names tokens from (next + 1) reason
tag_reported names tokens from next words reason is_struct sp stands why = record {
  front = words_text words [] ++ token.Keyword (if is_struct then keyword.Struct else keyword.Enum) ∷ [];
  spelled =
      spells_as tokens from (next + 1) (λ rest. words_text words (token.Keyword (if is_struct then keyword.Struct else keyword.Enum) ∷ rest))
      (λ rest. (words_text words [] ++ token.Keyword (if is_struct then keyword.Struct else keyword.Enum) ∷ []) ++ rest)
      (spells_more tokens from next (next + 1) (words_text words) (λ rest. token.Keyword (if is_struct then keyword.Struct else keyword.Enum) ∷ rest) sp
      (keyword_stands tokens next (if is_struct then keyword.Struct else keyword.Enum) stands))
      (λ rest.
      sym (words_append words [] (token.Keyword (if is_struct then keyword.Struct else keyword.Enum) ∷ rest))
      ∙ sym (append_assoc (words_text words []) (token.Keyword (if is_struct then keyword.Struct else keyword.Enum) ∷ []) rest));
  yields =
      subst (YieldsUnsupported names (words_text words [] ++ token.Keyword (if is_struct then keyword.Struct else keyword.Enum) ∷ [])
      (kind_or_end tokens (next + 1))) (sym why)
      (yields_plain names (words_text words [] ++ token.Keyword (if is_struct then keyword.Struct else keyword.Enum) ∷ []) (kind_or_end tokens (next + 1))
      true (λ b. inl (tag_word_ends (words_text words []) is_struct)) (λ b. absurd (false≢true (sym b))));
}

pub reported_word : (names : Names) (tokens : List Token) (from next : ℕ) (words : List TypeWord) (s : Stop) → Spells tokens from next (words_text words)
    → JoiningAnswer names words tokens next (Err s) → IsReported names tokens from s
reported_word names tokens from next words stop.Memory sp j = tt
reported_word names tokens from next words (stop.Refused refused reason) sp (missing, none, why) =
    subst (λ (at : ℕ). IsReported names tokens from (stop.Refused at reason)) (sym missing.refused_is)
    (tag_reported names tokens from next words reason missing.is_struct sp missing.stands (why
    ∙ ap (λ (at : ℕ). plain_reason (kind_or_end tokens at) true) missing.refused_is))

-- the words so far name no type
pub reported_no_type : (names : Names) (tokens : List Token) (from next : ℕ) (words : List TypeWord) (s : Stop) → Spells tokens from next (words_text words)
    → named_by words ≡ [] → IsRefusalAt tokens next false s → IsReported names tokens from s
reported_no_type names tokens from next words s sp none is =
    subst (IsReported names tokens from) (sym is) (record {
      front = words_text words [];
      spelled = spells_as tokens from next (words_text words) (λ rest. words_text words [] ++ rest) sp (λ rest. sym (words_append words [] rest));
      yields =
          yields_plain names (words_text words []) (kind_or_end tokens next) false (λ b. absurd (false≢true b))
          (λ b opened. words_end names opened AnyToken words [] refl (λ e. refl) ∙ ap tag_end (consts_untagged words none));
    })
