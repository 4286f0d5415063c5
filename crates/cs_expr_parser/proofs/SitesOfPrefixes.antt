-- The returns of `unary`, `sized` and `cast`, over indices of tokens.
use Rattle.std.proofs.Common.{◌≡◌, ℕ, suc, ◌+◌, ◌-◌, ◌<◌, ◌≤◌, max, ◌⊎◌, inl, inr, Bool, true, false, Result, Ok, Err, Option}
use Rattle.std.proofs.Common.{Some, None, List, [], ◌∷◌, ◌++◌, length, drop, map, refl, sym, ap, ◌∙◌, subst, arith, append_assoc, append-nil}
use Rattle.std.proofs.Common.{length-drop}
use Rattle.std.proofs.lemmas.Bool.{false≢true, both_ways, cases_lt}
use Rattle.cs_ast.specs.declared.token.Token.{Token}
use Rattle.cs_ast.specs.declared.token.TokenKind.{TokenKind}
use Rattle.cs_ast.specs.declared.token.TokenKind.TheVariants as token
use Rattle.cs_ast.specs.declared.token.Keyword.TheVariants as keyword
use Rattle.cs_ast.specs.declared.token.Punctuator.{Punctuator}
use Rattle.cs_ast.specs.declared.token.Punctuator.TheVariants as punctuator
use Rattle.cs_ast.specs.declared.raw.operator.Step.{Step}
use Rattle.cs_ast.specs.declared.raw.operator.PrefixOp.{PrefixOp}
use Rattle.cs_ast.specs.RawTree.{Written, WrittenList, Named, Numeral, Character, Literal, Enclosed, Index, Call, Member, Arrow, StepAfter, StepBefore, Prefix}
use Rattle.cs_ast.specs.RawTree.{SizeOf, SizeOfType, Cast, Infix, Choice, Assign, Comma}
use Rattle.cs_ast.specs.RawView.{written, written_list}
use Rattle.cs_ast.specs.RawHeight.{height, highest}
use Rattle.cs_grammar.specs.declared.refusal.Reason.{Reason}
use Rattle.cs_grammar.specs.TypeWords.{Names}
use Rattle.cs_grammar.specs.Text.{Kinds, text}
use Rattle.cs_grammar.specs.FirstTokens.{begins_type}
use Rattle.cs_grammar.specs.Parsing.{Class, Expressions, Near, Took, Refused, Exactly}
use Rattle.cs_grammar.specs.FirstTokens.{begins_expression}
use Rattle.cs_grammar.proofs.Beginnings.{expression_begins}
use Rattle.cs_grammar.proofs.Levels.{text_law}
use Rattle.cs_grammar.proofs.Holes.{tail_took, tail_refused}
use Rattle.cs_expr_parser.specs.Positions.{kinds, kind_or_end, is_brace}
use Rattle.cs_expr_parser.specs.Parts.{Spells, Stops, Answers, IsTakenFrom, IsTypeFrom, IsNode, IsBounded, Types, parts_of, type_closed_text, TypeParts}
use Rattle.cs_expr_parser.specs.Reasons.{plain_reason}
use Rattle.cs_expr_parser.specs.Unary.{before_text, prefixed_tree, opens_type, IsOperatorAt}
use Rattle.cs_expr_parser.specs.declared.unary.Before.{Before}
use Rattle.cs_expr_parser.specs.declared.unary.Before.TheVariants as before
use Rattle.cs_expr_parser.specs.declared.types.TakenType.{TakenType}
use Rattle.cs_expr_parser.specs.declared.stop.Stop.{Stop}
use Rattle.cs_expr_parser.specs.declared.stop.Stop.TheVariants as stop
use Rattle.cs_expr_parser.specs.declared.stop.Taken.{Taken}
use Rattle.cs_expr_parser.proofs.Standing.{kinds_first, spells_none, spells_one, spells_more, spells_as}
use Rattle.cs_expr_parser.proofs.Stopping.{IsRefusalAt, refused_first, refused_here, refused_number, refused_at, plain_not_deep, stops_in, stops_pass}
use Rattle.cs_expr_parser.proofs.Sites.{node_taken, punctuator_stands, taken_front}
use Rattle.cs_expr_parser.proofs.Closings.{height_some, open_parenthesis, close_parenthesis}
use Rattle.cs_expr_parser.proofs.Prefixes.{operand_level, before_tail, before_full, NoType, prefixed_height, unary_passes, unary_passes_refused, cast_passes}
use Rattle.cs_expr_parser.proofs.Prefixes.{cast_passes_refused, types_law}
use Rattle.cs_expr_parser.proofs.TypedPrefixes.{sizeof_token, cast_full, cast_type_refused, cast_refused, cast_took, size_type_refused, size_type_took}
use Rattle.cs_expr_parser.proofs.TypedPrefixes.{size_refused, size_took, size_full}

keyword_stands : (tokens : List Token) (at : ℕ) → kind_or_end tokens at ≡ token.Keyword keyword.Sizeof
    → Spells tokens at (at + 1) (λ rest. token.Keyword keyword.Sizeof ∷ rest)
keyword_stands tokens at e = spells_one tokens at (token.Keyword keyword.Sizeof) e (λ x. cc)

pub before_stands : (tokens : List Token) (at : ℕ) (b : Before) → kind_or_end tokens at ≡ before_text b
    → Spells tokens at (at + 1) (λ rest. before_text b ∷ rest)
before_stands tokens at (before.Step by) e = spells_one tokens at (before_text (before.Step by)) e (λ x. cc)
before_stands tokens at (before.Operator op) e = spells_one tokens at (before_text (before.Operator op)) e (λ x. cc)
before_stands tokens at before.Size e = spells_one tokens at (before_text before.Size) e (λ x. cc)

-- no prefix comes before an operand
pub unary_none_stops : (names : Names) (limit : ℕ) (tokens : List Token) (from : ℕ) → ((b : Before) → kind_or_end tokens from ≡ before_text b → ⊥)
    → (s : Stop) → Stops (Expressions names 15) limit tokens from s → Stops (Expressions names 14) limit tokens from s
unary_none_stops names limit tokens from none s r =
    stops_pass (Expressions names 14) (Expressions names 15) limit tokens from
    (λ front at deep sp x. unary_passes_refused names limit front (kind_or_end tokens at) deep
    (λ b empty e.
    none b (subst (λ (n : ℕ). kind_or_end tokens n ≡ before_text b) (let k = refused_number tokens from at front sp in
    let l : length front ≡ 0 = ap length empty in omega arith) e)) x) s r

pub unary_none : (names : Names) (limit : ℕ) (tokens : List Token) (from : ℕ) (taken : Taken) → IsTakenFrom names 15 limit tokens from taken
    → IsTakenFrom names 14 limit tokens from taken
unary_none names limit tokens from taken t = record {
  height_is = t.height_is;
  spelled = t.spelled;
  some = t.some;
  took = unary_passes names limit (written taken.tree) (kind_or_end tokens taken.next) taken.deep t.took;
}

-- the operand of a prefix operator, `++` or `--` was refused
pub operand_stops : (names : Names) (limit : ℕ) (tokens : List Token) (from : ℕ) (b : Before) → 2 ≤ limit → (b ≡ before.Size → ⊥)
    → kind_or_end tokens from ≡ before_text b → (s : Stop) → Stops (Expressions names (operand_level b)) (limit - 1) tokens (from + 1) s
    → Stops (Expressions names 14) limit tokens from s
operand_stops names limit tokens from b least other k s r =
    stops_in (Expressions names 14) (Expressions names (operand_level b)) limit (limit - 1) tokens from (from + 1) (before_text b ∷ [])
    (before_stands tokens from b k)
    (λ front at deep sp x.
    tail_refused (Expressions names 14) (Expressions names (operand_level b)) limit (limit - 1) (before_text b ∷ []) (prefixed_tree b) (NoType names b)
    (text_law names (operand_level b)) (before_tail names limit b least) front (kind_or_end tokens at) deep (λ following near e. absurd (other e)) x) s r

prefixed_text : (b : Before) (e : Written) (after : Kinds) → before_text b ∷ text e after ≡ text (prefixed_tree b e) after
prefixed_text (before.Step by) e after = refl
prefixed_text (before.Operator op) e after = refl
prefixed_text before.Size e after = refl

pub operand_taken : (names : Names) (limit : ℕ) (tokens : List Token) (from : ℕ) (b : Before) (operand whole : Taken) → 2 ≤ limit
    → (b ≡ before.Size → ⊥) → kind_or_end tokens from ≡ before_text b → IsTakenFrom names (operand_level b) (limit - 1) tokens (from + 1) operand
    → IsNode (prefixed_tree b (written operand.tree)) (operand.height + 1) operand.next operand.deep whole → IsTakenFrom names 14 limit tokens from whole
operand_taken names limit tokens from b operand whole least other k t n =
    let h = t.height_is in
    let g = prefixed_height b (written operand.tree) in
    let s = t.some in
    node_taken names 14 limit tokens from whole (prefixed_tree b (written operand.tree)) (operand.height + 1) operand.next operand.deep n (omega arith)
    (spells_as tokens from operand.next (λ rest. before_text b ∷ text (written operand.tree) rest) (text (prefixed_tree b (written operand.tree)))
    (spells_more tokens from (from + 1) operand.next (λ rest. before_text b ∷ rest) (text (written operand.tree)) (before_stands tokens from b k) t.spelled)
    (λ rest. prefixed_text b (written operand.tree) rest))
    (omega arith)
    (tail_took (Expressions names 14) (Expressions names (operand_level b)) limit (limit - 1) (before_text b ∷ []) (prefixed_tree b) (NoType names b)
    (text_law names (operand_level b)) (before_tail names limit b least) (written operand.tree) (kind_or_end tokens operand.next) operand.deep
    (λ following near e. absurd (other e)) t.took)

-- the result without a prefix
pub unary_none_answer : (names : Names) (limit : ℕ) (tokens : List Token) (from : ℕ) (answer : Result Taken Stop)
    → IsOperatorAt (kind_or_end tokens from) None → Answers names 15 limit tokens from answer → Answers names 14 limit tokens from answer
unary_none_answer names limit tokens from (Ok taken) none a = unary_none names limit tokens from taken a
unary_none_answer names limit tokens from (Err s) none a = unary_none_stops names limit tokens from none s a

-- the limit doesn't allow an operand
pub unary_full : (names : Names) (limit : ℕ) (tokens : List Token) (from : ℕ) (b : Before) (s : Stop) → from ≤ length tokens → limit < 2
    → kind_or_end tokens from ≡ before_text b → IsRefusalAt tokens from true s → Stops (Expressions names 14) limit tokens from s
unary_full names limit tokens from b s within full k is =
    refused_first (Expressions names 14) limit tokens from true s within is
    (subst (λ (x : TokenKind). Refused (Expressions names 14) limit [] x true) (sym k) (before_full names limit b full))

-- a parenthesis and a type after it
pub opens_is : (names : Names) (first second : TokenKind) → opens_type names first second ≡ true
    → (first ≡ open_parenthesis) × (begins_type names second ≡ true)
opens_is names (token.Punctuator punctuator.OpenParenthesis) second o = (refl, o)
opens_is names (token.Punctuator _) second o = absurd cc
opens_is names (token.Keyword k) second o = absurd cc
opens_is names (token.Unsupported k) second o = absurd cc
opens_is names token.Attribute second o = absurd cc
opens_is names (token.Name k) second o = absurd cc
opens_is names (token.Number k) second o = absurd cc
opens_is names (token.Character k) second o = absurd cc
opens_is names (token.Text k) second o = absurd cc

opens_not : (names : Names) (first second : TokenKind) → opens_type names first second ≡ false → first ≡ open_parenthesis
    → begins_type names second ≡ false
opens_not names first second o e = subst (λ (x : TokenKind). opens_type names x second ≡ false) e o

-- if the tokens before a refused token are only a parenthesis, the refused token begins no type
no_type_begins : (names : Names) (tokens : List Token) (from at : ℕ) (front : Kinds)
    → opens_type names (kind_or_end tokens from) (kind_or_end tokens (from + 1)) ≡ false → Spells tokens from at (λ rest. front ++ rest)
    → front ≡ open_parenthesis ∷ [] → begins_type names (kind_or_end tokens at) ≡ false
no_type_begins names tokens from at front o sp alone =
    let n = refused_number tokens from at front sp in
    let l : length front ≡ 1 = ap length alone in
    let e : from + 1 ≡ at = omega arith in
    let first = kinds_first (drop from tokens) open_parenthesis (kinds (drop at tokens)) (sp.spelled
    ∙ ap (λ (x : Kinds). x ++ kinds (drop at tokens)) alone) in
    subst (λ (x : ℕ). begins_type names (kind_or_end tokens x) ≡ false) e
    (opens_not names (kind_or_end tokens from) (kind_or_end tokens (from + 1)) o first)

-- the result without a type between parentheses
pub cast_none_answer : (names : Names) (limit : ℕ) (tokens : List Token) (from : ℕ) (answer : Result Taken Stop)
    → opens_type names (kind_or_end tokens from) (kind_or_end tokens (from + 1)) ≡ false → Answers names 14 limit tokens from answer
    → Answers names 13 limit tokens from answer
cast_none_answer names limit tokens from (Ok taken) none t = record {
  height_is = t.height_is;
  spelled = t.spelled;
  some = t.some;
  took = cast_passes names limit (written taken.tree) (kind_or_end tokens taken.next) taken.deep t.took;
}
cast_none_answer names limit tokens from (Err s) none r =
    stops_pass (Expressions names 13) (Expressions names 14) limit tokens from
    (λ front at deep sp x. cast_passes_refused names limit front (kind_or_end tokens at) deep (no_type_begins names tokens from at front none sp) x) s r

-- the limit doesn't allow a cast
pub cast_full_stops : (names : Names) (limit : ℕ) (tokens : List Token) (from : ℕ) (s : Stop) → from ≤ length tokens → limit < 2
    → kind_or_end tokens from ≡ open_parenthesis → IsRefusalAt tokens from true s → Stops (Expressions names 13) limit tokens from s
cast_full_stops names limit tokens from s within full k is =
    refused_first (Expressions names 13) limit tokens from true s within is
    (subst (λ (x : TokenKind). Refused (Expressions names 13) limit [] x true) (sym k) (cast_full names limit full))

pub parenthesis_stands : (tokens : List Token) (at : ℕ) → kind_or_end tokens at ≡ open_parenthesis
    → Spells tokens at (at + 1) (λ rest. open_parenthesis ∷ rest)
parenthesis_stands tokens at k = punctuator_stands tokens at punctuator.OpenParenthesis k

-- the type of a cast was refused
pub cast_type_stops : (names : Names) (limit : ℕ) (tokens : List Token) (from : ℕ) → 2 ≤ limit → kind_or_end tokens from ≡ open_parenthesis
    → begins_type names (kind_or_end tokens (from + 1)) ≡ true → (s : Stop) → Stops (Types names) (limit - 1) tokens (from + 1) s
    → Stops (Expressions names 13) limit tokens from s
cast_type_stops names limit tokens from least k starts s r =
    stops_in (Expressions names 13) (Types names) limit (limit - 1) tokens from (from + 1) (open_parenthesis ∷ []) (parenthesis_stands tokens from k)
    (λ front at deep sp x.
    cast_type_refused names limit least front (kind_or_end tokens at) deep
    (λ empty. ap (begins_type names) (refused_here tokens (from + 1) at front sp empty) ∙ starts) x) s r

-- a token that begins no expression
first_refused : (names : Names) (level limit : ℕ) (next : TokenKind) → begins_expression names next ≡ false
    → Refused (Expressions names level) limit [] next false
first_refused names level limit next none = record {
  begun = inl refl;
  never = λ other after following is shut near same.
      let b = expression_begins names other after is.1 in
      absurd (elim near [
        | inl e ↦ let z = sym b.are ∙ same ∙ e in cc
        | inr m ↦ let z : b.first ∷ b.others ≡ next ∷ m.0 = sym b.are ∙ same ∙ m.1 in let e : next ≡ b.first = cc in
            both_ways (begins_expression names next) none (ap (begins_expression names) e ∙ b.passes)
      ]);
  further = λ reported. absurd (false≢true reported);
}

-- a parenthesis and the type after it
pub cast_front : (names : Names) (limit : ℕ) (tokens : List Token) (from : ℕ) (taken : TakenType) → kind_or_end tokens from ≡ open_parenthesis
    → IsTypeFrom names limit tokens (from + 1) taken
    → Spells tokens from taken.next (λ rest. (open_parenthesis ∷ type_closed_text (parts_of taken) []) ++ rest)
cast_front names limit tokens from taken k t =
    spells_as tokens from taken.next (λ rest. open_parenthesis ∷ type_closed_text (parts_of taken) rest)
    (λ rest. (open_parenthesis ∷ type_closed_text (parts_of taken) []) ++ rest)
    (spells_more tokens from (from + 1) taken.next (λ rest. open_parenthesis ∷ rest) (type_closed_text (parts_of taken)) (parenthesis_stands tokens from k)
    t.spelled)
    (λ rest. ap (λ (x : Kinds). open_parenthesis ∷ x) (sym (types_law names (parts_of taken) [] rest)))

pub brace_begins_none : (names : Names) (kind : TokenKind) → is_brace kind ≡ true → begins_expression names kind ≡ false
brace_begins_none names (token.Punctuator punctuator.OpenBrace) b = refl
brace_begins_none names (token.Punctuator _) b = absurd cc
brace_begins_none names (token.Keyword k) b = absurd cc
brace_begins_none names (token.Unsupported k) b = absurd cc
brace_begins_none names token.Attribute b = absurd cc
brace_begins_none names (token.Name k) b = absurd cc
brace_begins_none names (token.Number k) b = absurd cc
brace_begins_none names (token.Character k) b = absurd cc
brace_begins_none names (token.Text k) b = absurd cc

-- a brace after the type of a cast
pub cast_brace_stops : (names : Names) (limit : ℕ) (tokens : List Token) (from : ℕ) (taken : TakenType) (s : Stop) → 2 ≤ limit
    → kind_or_end tokens from ≡ open_parenthesis → IsTypeFrom names (limit - 1) tokens (from + 1) taken
    → begins_expression names (kind_or_end tokens taken.next) ≡ false → s ≡ stop.Refused taken.next (plain_reason (kind_or_end tokens taken.next) true)
    → Stops (Expressions names 13) limit tokens from s
cast_brace_stops names limit tokens from taken s least k t none is =
    subst (Stops (Expressions names 13) limit tokens from) (sym is)
    (refused_at (Expressions names 13) limit tokens from taken.next (plain_reason (kind_or_end tokens taken.next) true) false
    ((open_parenthesis ∷ type_closed_text (parts_of taken) []) ++ [])
    (spells_as tokens from taken.next (λ rest. (open_parenthesis ∷ type_closed_text (parts_of taken) []) ++ rest)
    (λ rest. ((open_parenthesis ∷ type_closed_text (parts_of taken) []) ++ []) ++ rest) (cast_front names (limit - 1) tokens from taken k t)
    (λ rest. sym (append_assoc (open_parenthesis ∷ type_closed_text (parts_of taken) []) [] rest)))
    (plain_not_deep (kind_or_end tokens taken.next) true)
    (cast_refused names limit (parts_of taken) least t.exactly [] (kind_or_end tokens taken.next) false
    (first_refused names 13 (limit - 1) (kind_or_end tokens taken.next) none)))

-- the operand of a cast was refused
pub cast_operand_stops : (names : Names) (limit : ℕ) (tokens : List Token) (from : ℕ) (taken : TakenType) → 2 ≤ limit
    → kind_or_end tokens from ≡ open_parenthesis → IsTypeFrom names (limit - 1) tokens (from + 1) taken
    → (s : Stop) → Stops (Expressions names 13) (limit - 1) tokens taken.next s → Stops (Expressions names 13) limit tokens from s
cast_operand_stops names limit tokens from taken least k t s r =
    stops_in (Expressions names 13) (Expressions names 13) limit (limit - 1) tokens from taken.next (open_parenthesis ∷ type_closed_text (parts_of taken) [])
    (cast_front names (limit - 1) tokens from taken k t)
    (λ front at deep sp x. cast_refused names limit (parts_of taken) least t.exactly front (kind_or_end tokens at) deep x) s r

pub cast_taken : (names : Names) (limit : ℕ) (tokens : List Token) (from : ℕ) (taken : TakenType) (operand whole : Taken) → 2 ≤ limit
    → kind_or_end tokens from ≡ open_parenthesis → IsTypeFrom names (limit - 1) tokens (from + 1) taken
    → IsTakenFrom names 13 (limit - 1) tokens taken.next operand
    → IsNode (Cast taken.ty.words.items taken.ty.pointers.items (written_list taken.bounds.items) (written operand.tree))
    (max taken.height operand.height + 1) operand.next operand.deep whole → IsTakenFrom names 13 limit tokens from whole
cast_taken names limit tokens from taken operand whole least k t o n =
    let ht = t.height_is in
    let ho = o.height_is in
    let st = t.spelled.onward in
    let so = o.some in
    node_taken names 13 limit tokens from whole (Cast taken.ty.words.items taken.ty.pointers.items (written_list taken.bounds.items) (written operand.tree))
    (max taken.height operand.height + 1) operand.next operand.deep n (omega arith)
    (spells_more tokens from (from + 1) operand.next (λ rest. open_parenthesis ∷ rest)
    (λ rest. type_closed_text (parts_of taken) (text (written operand.tree) rest)) (parenthesis_stands tokens from k)
    (spells_more tokens (from + 1) taken.next operand.next (type_closed_text (parts_of taken)) (text (written operand.tree)) t.spelled o.spelled))
    (omega arith)
    (cast_took names limit (parts_of taken) least t.exactly (written operand.tree) (kind_or_end tokens operand.next) operand.deep o.took)

-- `sizeof` and a parenthesis
pub size_front : (tokens : List Token) (from : ℕ) → kind_or_end tokens from ≡ before_text before.Size
    → kind_or_end tokens (from + 1) ≡ open_parenthesis → Spells tokens from (from + 2) (λ rest. sizeof_token ∷ open_parenthesis ∷ rest)
size_front tokens from k o =
    subst (λ (x : ℕ). Spells tokens from x (λ rest. sizeof_token ∷ open_parenthesis ∷ rest)) (let e : from + 1 + 1 ≡ from + 2 = omega arith in e)
    (spells_more tokens from (from + 1) (from + 1 + 1) (λ rest. sizeof_token ∷ rest) (λ rest. open_parenthesis ∷ rest) (keyword_stands tokens from k)
    (parenthesis_stands tokens (from + 1) o))

after_two : (tokens : List Token) (from : ℕ) → kind_or_end tokens (from + 2) ≡ kind_or_end tokens (from + 1 + 1)
after_two tokens from = ap (kind_or_end tokens) (let e : from + 2 ≡ from + 1 + 1 = omega arith in e)

-- the type after `sizeof` was refused
pub size_type_stops : (names : Names) (limit : ℕ) (tokens : List Token) (from : ℕ) → 2 ≤ limit → kind_or_end tokens from ≡ before_text before.Size
    → opens_type names (kind_or_end tokens (from + 1)) (kind_or_end tokens (from + 1 + 1)) ≡ true
    → (s : Stop) → Stops (Types names) (limit - 1) tokens (from + 2) s → Stops (Expressions names 14) limit tokens from s
size_type_stops names limit tokens from least k opens s r =
    let o = opens_is names (kind_or_end tokens (from + 1)) (kind_or_end tokens (from + 1 + 1)) opens in
    stops_in (Expressions names 14) (Types names) limit (limit - 1) tokens from (from + 2) (sizeof_token ∷ open_parenthesis ∷ [])
    (size_front tokens from k o.0)
    (λ front at deep sp x.
    size_type_refused names limit least front (kind_or_end tokens at) deep
    (λ empty. ap (begins_type names) (refused_here tokens (from + 2) at front sp empty ∙ after_two tokens from) ∙ o.1) x) s r

pub size_type_taken : (names : Names) (limit : ℕ) (tokens : List Token) (from : ℕ) (taken : TakenType) (whole : Taken) → 2 ≤ limit
    → kind_or_end tokens from ≡ before_text before.Size → opens_type names (kind_or_end tokens (from + 1)) (kind_or_end tokens (from + 1 + 1)) ≡ true
    → IsTypeFrom names (limit - 1) tokens (from + 2) taken
    → IsNode (SizeOfType taken.ty.words.items taken.ty.pointers.items (written_list taken.bounds.items)) (max taken.height 1 + 1) taken.next false whole
    → IsTakenFrom names 14 limit tokens from whole
size_type_taken names limit tokens from taken whole least k opens t n =
    let o = opens_is names (kind_or_end tokens (from + 1)) (kind_or_end tokens (from + 1 + 1)) opens in
    let ht = t.height_is in
    let st = t.spelled.onward in
    node_taken names 14 limit tokens from whole (SizeOfType taken.ty.words.items taken.ty.pointers.items (written_list taken.bounds.items))
    (max taken.height 1 + 1) taken.next false n (omega arith)
    (spells_more tokens from (from + 2) taken.next (λ rest. sizeof_token ∷ open_parenthesis ∷ rest) (type_closed_text (parts_of taken))
    (size_front tokens from k o.0) t.spelled)
    (omega arith)
    (size_type_took names limit least (parts_of taken) (kind_or_end tokens taken.next) t.exactly)

-- the result if the limit allows only a type after the parenthesis
pub size_full_answer : (names : Names) (limit : ℕ) (tokens : List Token) (from : ℕ) (answer : Result Taken Stop) → limit ≡ 2
    → kind_or_end tokens from ≡ before_text before.Size → kind_or_end tokens (from + 1) ≡ open_parenthesis
    → opens_type names (kind_or_end tokens (from + 1)) (kind_or_end tokens (from + 1 + 1)) ≡ false → IsBounded 0 tokens (from + 2) answer
    → Answers names 0 0 tokens (from + 2) answer → Answers names 14 limit tokens from answer
size_full_answer names limit tokens from (Ok taken) two k o none bound t = absurd (let l = bound.2 in let h = bound.3 in omega arith)
size_full_answer names limit tokens from (Err s) two k o none bound r =
    let begins = opens_not names (kind_or_end tokens (from + 1)) (kind_or_end tokens (from + 1 + 1)) none o in
    subst (λ (n : ℕ). Stops (Expressions names 14) n tokens from s) (sym two)
    (stops_in (Expressions names 14) (Expressions names 0) 2 0 tokens from (from + 2) (sizeof_token ∷ open_parenthesis ∷ []) (size_front tokens from k o)
    (λ front at deep sp x.
    size_full names front (kind_or_end tokens at) deep (λ empty.
    ap (begins_type names) (refused_here tokens (from + 2) at front sp empty ∙ after_two tokens from) ∙ begins) x) s r)

one_token : (front : Kinds) (k : TokenKind) (more : Kinds) → k ∷ [] ≡ front ++ more → (front ≡ []) ⊎ (front ≡ k ∷ [])
one_token [] k more e = inl refl
one_token (f ∷ []) k more e = inr (cc)
one_token (f ∷ g ∷ fs) k more e = absurd cc

-- if the limit allows only one token, none is taken before a refusal
leaf_alone : (names : Names) (e : Written) → height e ≤ 1 → (k : TokenKind) × (text e [] ≡ k ∷ [])
leaf_alone names (Named name) low = (token.Name name, refl)
leaf_alone names (Numeral n) low = (token.Number n, refl)
leaf_alone names (Character v) low = (token.Character v, refl)
leaf_alone names (Literal b) low = (token.Text b, refl)
leaf_alone names (Enclosed i) low = absurd (let h = height_some i in omega arith)
leaf_alone names (Index a n) low = absurd (let h = height_some a in omega arith)
leaf_alone names (Call f es) low = absurd (let h = height_some f in omega arith)
leaf_alone names (Member o n) low = absurd (let h = height_some o in omega arith)
leaf_alone names (Arrow o n) low = absurd (let h = height_some o in omega arith)
leaf_alone names (StepAfter s o) low = absurd (let h = height_some o in omega arith)
leaf_alone names (StepBefore s o) low = absurd (let h = height_some o in omega arith)
leaf_alone names (Prefix op o) low = absurd (let h = height_some o in omega arith)
leaf_alone names (SizeOf o) low = absurd (let h = height_some o in omega arith)
leaf_alone names (SizeOfType ws ps bs) low = absurd (omega arith)
leaf_alone names (Cast ws ps bs o) low = absurd (let h = height_some o in omega arith)
leaf_alone names (Infix op l r) low = absurd (let h = height_some l in omega arith)
leaf_alone names (Choice t o e) low = absurd (let h = height_some t in omega arith)
leaf_alone names (Assign op l r) low = absurd (let h = height_some l in omega arith)
leaf_alone names (Comma l r) low = absurd (let h = height_some l in omega arith)

nothing_before : (names : Names) (front : Kinds) (next : TokenKind) (deep : Bool) → Refused (Expressions names 14) 1 front next deep → front ≡ []
nothing_before names front next deep r =
    elim r.begun [
      | inl e ↦ e
      | inr l ↦
          let k = leaf_alone names l.phrase l.low in
          elim (one_token front k.0 l.more (sym k.1 ∙ l.spelled)) [
            | inl e ↦ e
            | inr e ↦
                let v = r.never l.phrase [] [] l.is_phrase (omega arith) (inl refl) (k.1 ∙ sym e ∙ sym (append-nil front)) in
                absurd (v.onward refl)
          ]
    ]

wide_enough : (names : Names) (limit : ℕ) (tokens : List Token) (from at : ℕ) (front : Kinds) (deep : Bool) → 2 ≤ limit
    → (limit ≡ 2 → kind_or_end tokens from ≡ open_parenthesis → ⊥) → Spells tokens from at (λ rest. front ++ rest)
    → Refused (Expressions names 14) (limit - 1) front (kind_or_end tokens at) deep → kind_or_end tokens at ≡ open_parenthesis → 3 ≤ limit
wide_enough names limit tokens from at front deep least full sp r k =
    elim (cases_lt limit 3) [
      | inl two ↦
          let e : limit ≡ 2 = omega arith in
          let one : limit - 1 ≡ 1 = omega arith in
          let empty = nothing_before names front (kind_or_end tokens at) deep
          (subst (λ (n : ℕ). Refused (Expressions names 14) n front (kind_or_end tokens at) deep) one r) in
          absurd (full e (sym (refused_here tokens from at front sp empty) ∙ k))
      | inr more ↦ more
    ]

-- the expression after `sizeof` was refused
pub size_stops : (names : Names) (limit : ℕ) (tokens : List Token) (from : ℕ) → 2 ≤ limit → kind_or_end tokens from ≡ before_text before.Size
    → opens_type names (kind_or_end tokens (from + 1)) (kind_or_end tokens (from + 1 + 1)) ≡ false
    → (limit ≡ 2 → kind_or_end tokens (from + 1) ≡ open_parenthesis → ⊥)
    → (s : Stop) → Stops (Expressions names 14) (limit - 1) tokens (from + 1) s → Stops (Expressions names 14) limit tokens from s
size_stops names limit tokens from least k none full s r =
    stops_in (Expressions names 14) (Expressions names 14) limit (limit - 1) tokens from (from + 1) (sizeof_token ∷ []) (keyword_stands tokens from k)
    (λ front at deep sp x.
    size_refused names limit least front (kind_or_end tokens at) deep (no_type_begins names tokens (from + 1) at front none sp)
    (wide_enough names limit tokens (from + 1) at front deep least full sp x) x) s r

pub size_taken : (names : Names) (limit : ℕ) (tokens : List Token) (from : ℕ) (operand whole : Taken) → 2 ≤ limit
    → kind_or_end tokens from ≡ before_text before.Size → IsTakenFrom names 14 (limit - 1) tokens (from + 1) operand
    → IsNode (SizeOf (written operand.tree)) (operand.height + 1) operand.next operand.deep whole → IsTakenFrom names 14 limit tokens from whole
size_taken names limit tokens from operand whole least k t n =
    let h = t.height_is in
    let s = t.some in
    node_taken names 14 limit tokens from whole (SizeOf (written operand.tree)) (operand.height + 1) operand.next operand.deep n (omega arith)
    (spells_more tokens from (from + 1) operand.next (λ rest. sizeof_token ∷ rest) (text (written operand.tree)) (keyword_stands tokens from k) t.spelled)
    (omega arith)
    (size_took names limit least (written operand.tree) (kind_or_end tokens operand.next) operand.deep t.took)
