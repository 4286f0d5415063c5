-- The returns of `choice` and `assign`, over indices of tokens.
use Rattle.std.proofs.Common.{◌≡◌, ℕ, suc, ◌+◌, ◌-◌, ◌<◌, ◌≤◌, max, ◌⊎◌, inl, inr, Bool, true, false, List, [], ◌∷◌}
use Rattle.std.proofs.Common.{◌++◌, length, drop, map, refl, sym, ap, ◌∙◌, subst, arith, append_assoc, append-nil}
use Rattle.std.proofs.lemmas.List.{length-append}
use Rattle.cs_ast.specs.declared.token.Token.{Token}
use Rattle.cs_ast.specs.declared.token.TokenKind.{TokenKind}
use Rattle.cs_ast.specs.declared.token.TokenKind.TheVariants as token
use Rattle.cs_ast.specs.declared.token.Punctuator.{Punctuator}
use Rattle.cs_ast.specs.declared.token.Punctuator.TheVariants as punctuator
use Rattle.cs_ast.specs.declared.raw.operator.AssignOp.{AssignOp}
use Rattle.cs_ast.specs.RawTree.{Written, Choice, Assign}
use Rattle.cs_ast.specs.RawView.{written}
use Rattle.cs_ast.specs.RawHeight.{height}
use Rattle.cs_grammar.specs.declared.refusal.Reason.{Reason}
use Rattle.cs_grammar.specs.TypeWords.{Names}
use Rattle.cs_grammar.specs.Levels.{level_of}
use Rattle.cs_grammar.specs.Punctuators.{assign_punctuator}
use Rattle.cs_grammar.specs.Text.{Kinds, text}
use Rattle.cs_grammar.specs.Parsing.{Class, Expressions, Took, Refused, Exactly}
use Rattle.cs_grammar.proofs.Holes.{ClosedBy}
use Rattle.cs_grammar.proofs.Texts.{text_append, text_splits}
use Rattle.cs_expr_parser.specs.Positions.{kinds, kind_or_end}
use Rattle.cs_expr_parser.specs.Parts.{Spells, Stops, IsTakenFrom, IsNode, is_deep}
use Rattle.cs_expr_parser.specs.declared.stop.Stop.{Stop}
use Rattle.cs_expr_parser.specs.declared.stop.Stop.TheVariants as stop
use Rattle.cs_expr_parser.specs.declared.stop.Taken.{Taken}
use Rattle.cs_expr_parser.proofs.Standing.{spells_one, spells_more, spells_as}
use Rattle.cs_expr_parser.proofs.Stopping.{IsRefusalAfter, refused_after, stops_in, stops_pass}
use Rattle.cs_expr_parser.proofs.Sites.{node_taken, punctuator_stands, taken_front, front_and_punctuator}
use Rattle.cs_expr_parser.proofs.Looser.{choice_passes, choice_head_refused, choice_deep, one_refused, one_wrong, one_exact, other_refused, other_took}
use Rattle.cs_expr_parser.proofs.Looser.{assign_passes, assign_head_refused, assign_deep, value_refused, value_took}

abbrev question : TokenKind
question = token.Punctuator punctuator.Question

abbrev colon : TokenKind
colon = token.Punctuator punctuator.Colon

with_question : (names : Names) (limit : ℕ) (tokens : List Token) (from : ℕ) (test : Taken) → IsTakenFrom names 3 limit tokens from test
    → kind_or_end tokens test.next ≡ question → Took (Expressions names 3) limit (written test.tree) question test.deep
with_question names limit tokens from test t k = subst (λ (x : TokenKind). Took (Expressions names 3) limit (written test.tree) x test.deep) k t.took

low_test : (names : Names) (limit : ℕ) (tokens : List Token) (from : ℕ) (test : Taken) → IsTakenFrom names 3 limit tokens from test
    → test.height < limit → height (written test.tree) < limit
low_test names limit tokens from test t low = let h = t.height_is in omega arith

-- no conditional expression
pub choice_none : (names : Names) (limit : ℕ) (tokens : List Token) (from : ℕ) (test : Taken) → IsTakenFrom names 3 limit tokens from test
    → (kind_or_end tokens test.next ≡ question → ⊥) → IsTakenFrom names 2 limit tokens from test
choice_none names limit tokens from test t none = record {
  height_is = t.height_is;
  spelled = t.spelled;
  some = t.some;
  took = choice_passes names limit (written test.tree) (kind_or_end tokens test.next) test.deep none t.took;
}

-- the limit doesn't allow a conditional expression
pub choice_full : (names : Names) (limit : ℕ) (tokens : List Token) (from : ℕ) (test whole : Taken) → IsTakenFrom names 3 limit tokens from test
    → kind_or_end tokens test.next ≡ question → limit ≤ test.height → IsNode (written test.tree) test.height test.next true whole
    → IsTakenFrom names 2 limit tokens from whole
choice_full names limit tokens from test whole t k full n =
    let h = t.height_is in
    node_taken names 2 limit tokens from whole (written test.tree) test.height test.next true n h t.spelled t.some
    (subst (λ (x : TokenKind). Took (Expressions names 2) limit (written test.tree) x true) (sym k)
    (choice_deep names limit (written test.tree) test.deep (omega arith) (with_question names limit tokens from test t k)))

-- the second operand was refused
pub one_stops : (names : Names) (limit : ℕ) (tokens : List Token) (from : ℕ) (test : Taken) → IsTakenFrom names 3 limit tokens from test
    → kind_or_end tokens test.next ≡ question → test.height < limit → (s : Stop) → Stops (Expressions names 0) (limit - 1) tokens (test.next + 1) s
    → Stops (Expressions names 2) limit tokens from s
one_stops names limit tokens from test t k low s r =
    stops_in (Expressions names 2) (Expressions names 0) limit (limit - 1) tokens from (test.next + 1) (text (written test.tree) (question ∷ []))
    (front_and_punctuator tokens from test.next (written test.tree) punctuator.Question t.spelled k)
    (λ front at deep sp x.
    one_refused names limit (written test.tree) test.deep (low_test names limit tokens from test t low) (with_question names limit tokens from test t k)
    front (kind_or_end tokens at) deep x) s r

-- no colon follows the second operand
pub one_unclosed : (names : Names) (limit : ℕ) (tokens : List Token) (from : ℕ) (test one : Taken) (s : Stop) → IsTakenFrom names 3 limit tokens from test
    → kind_or_end tokens test.next ≡ question → test.height < limit → IsTakenFrom names 0 (limit - 1) tokens (test.next + 1) one
    → (kind_or_end tokens one.next ≡ colon → ⊥) → IsRefusalAfter tokens one s → Stops (Expressions names 2) limit tokens from s
one_unclosed names limit tokens from test one s t k low o other is =
    refused_after (Expressions names 2) limit tokens from one s (text (written test.tree) (question ∷ []) ++ text (written one.tree) []) is
    (spells_as tokens from one.next (λ rest. text (written test.tree) (question ∷ []) ++ (text (written one.tree) [] ++ rest))
    (λ rest. (text (written test.tree) (question ∷ []) ++ text (written one.tree) []) ++ rest)
    (spells_more tokens from (test.next + 1) one.next (λ rest. text (written test.tree) (question ∷ []) ++ rest)
    (λ rest. text (written one.tree) [] ++ rest)
    (front_and_punctuator tokens from test.next (written test.tree) punctuator.Question t.spelled k)
    (taken_front tokens (test.next + 1) one.next (written one.tree) o.spelled))
    (λ rest. sym (append_assoc (text (written test.tree) (question ∷ [])) (text (written one.tree) []) rest)))
    (one_wrong names limit (written test.tree) test.deep (low_test names limit tokens from test t low) (with_question names limit tokens from test t k)
    (written one.tree) (kind_or_end tokens one.next) one.deep o.took other)

one_is : (names : Names) (limit : ℕ) (tokens : List Token) (from : ℕ) (one : Taken) → IsTakenFrom names 0 limit tokens from one
    → kind_or_end tokens one.next ≡ colon → Exactly (ClosedBy (Expressions names 0) colon) limit (written one.tree)
one_is names limit tokens from one o k =
    one_exact names limit (written one.tree) one.deep (subst (λ (x : TokenKind). Took (Expressions names 0) limit (written one.tree) x one.deep) k o.took)

-- the tokens of a conditional expression up to its colon
pub choice_front : (names : Names) (limit : ℕ) (tokens : List Token) (from : ℕ) (test one : Taken) → IsTakenFrom names 3 limit tokens from test
    → kind_or_end tokens test.next ≡ question → IsTakenFrom names 0 (limit - 1) tokens (test.next + 1) one → kind_or_end tokens one.next ≡ colon
    → Spells tokens from (one.next + 1) (λ rest. text (written test.tree) (question ∷ text (written one.tree) (colon ∷ rest)))
choice_front names limit tokens from test one t k o c =
    spells_more tokens from test.next (one.next + 1) (text (written test.tree)) (λ rest. question ∷ text (written one.tree) (colon ∷ rest)) t.spelled
    (spells_more tokens test.next (test.next + 1) (one.next + 1) (λ rest. question ∷ rest) (λ rest. text (written one.tree) (colon ∷ rest))
    (punctuator_stands tokens test.next punctuator.Question k)
    (spells_more tokens (test.next + 1) one.next (one.next + 1) (text (written one.tree)) (λ rest. colon ∷ rest) o.spelled
    (punctuator_stands tokens one.next punctuator.Colon c)))

-- the third operand was refused
pub other_stops : (names : Names) (limit : ℕ) (tokens : List Token) (from : ℕ) (test one : Taken) → IsTakenFrom names 3 limit tokens from test
    → kind_or_end tokens test.next ≡ question → test.height < limit → IsTakenFrom names 0 (limit - 1) tokens (test.next + 1) one
    → kind_or_end tokens one.next ≡ colon → (s : Stop) → Stops (Expressions names 2) (limit - 1) tokens (one.next + 1) s
    → Stops (Expressions names 2) limit tokens from s
other_stops names limit tokens from test one t k low o c s r =
    stops_in (Expressions names 2) (Expressions names 2) limit (limit - 1) tokens from (one.next + 1)
    (text (written test.tree) (question ∷ text (written one.tree) (colon ∷ [])))
    (spells_as tokens from (one.next + 1) (λ rest. text (written test.tree) (question ∷ text (written one.tree) (colon ∷ rest)))
    (λ rest. text (written test.tree) (question ∷ text (written one.tree) (colon ∷ [])) ++ rest)
    (choice_front names limit tokens from test one t k o c)
    (λ rest.
    sym (text_append (written test.tree) (question ∷ text (written one.tree) (colon ∷ [])) rest
    ∙ ap (λ (x : Kinds). text (written test.tree) (question ∷ x)) (text_append (written one.tree) (colon ∷ []) rest))))
    (λ front at deep sp x.
    other_refused names limit (written test.tree) (written one.tree) test.deep (low_test names limit tokens from test t low)
    (with_question names limit tokens from test t k) (one_is names (limit - 1) tokens (test.next + 1) one o c) front (kind_or_end tokens at) deep x) s r

-- the conditional expression with these three parts
pub choice_taken : (names : Names) (limit : ℕ) (tokens : List Token) (from : ℕ) (test one other whole : Taken)
    → IsTakenFrom names 3 limit tokens from test → kind_or_end tokens test.next ≡ question → test.height < limit
    → IsTakenFrom names 0 (limit - 1) tokens (test.next + 1) one → kind_or_end tokens one.next ≡ colon
    → IsTakenFrom names 2 (limit - 1) tokens (one.next + 1) other
    → IsNode (Choice (written test.tree) (written one.tree) (written other.tree)) (max (max test.height one.height) other.height + 1) other.next other.deep
    whole → IsTakenFrom names 2 limit tokens from whole
choice_taken names limit tokens from test one other whole t k low o c x n =
    let ht = t.height_is in
    let ho = o.height_is in
    let hx = x.height_is in
    let st = t.some in
    let so = o.some in
    let sx = x.some in
    node_taken names 2 limit tokens from whole (Choice (written test.tree) (written one.tree) (written other.tree))
    (max (max test.height one.height) other.height + 1) other.next other.deep n (omega arith)
    (spells_more tokens from (one.next + 1) other.next (λ rest. text (written test.tree) (question ∷ text (written one.tree) (colon ∷ rest)))
    (text (written other.tree)) (choice_front names limit tokens from test one t k o c) x.spelled)
    (omega arith)
    (other_took names limit (written test.tree) (written one.tree) test.deep (low_test names limit tokens from test t low)
    (with_question names limit tokens from test t k) (one_is names (limit - 1) tokens (test.next + 1) one o c) (written other.tree)
    (kind_or_end tokens other.next) other.deep x.took)

-- no assignment
pub assign_none : (names : Names) (limit : ℕ) (tokens : List Token) (from : ℕ) (object : Taken) → IsTakenFrom names 2 limit tokens from object
    → ((op : AssignOp) → kind_or_end tokens object.next ≡ token.Punctuator (assign_punctuator op) → 14 ≤ level_of (written object.tree) → ⊥)
    → IsTakenFrom names 1 limit tokens from object
assign_none names limit tokens from object t none = record {
  height_is = t.height_is;
  spelled = t.spelled;
  some = t.some;
  took = assign_passes names limit (written object.tree) (kind_or_end tokens object.next) object.deep none t.took;
}

with_store : (names : Names) (limit : ℕ) (tokens : List Token) (from : ℕ) (object : Taken) (op : AssignOp) → IsTakenFrom names 2 limit tokens from object
    → kind_or_end tokens object.next ≡ token.Punctuator (assign_punctuator op)
    → Took (Expressions names 2) limit (written object.tree) (token.Punctuator (assign_punctuator op)) object.deep
with_store names limit tokens from object op t k = subst (λ (x : TokenKind). Took (Expressions names 2) limit (written object.tree) x object.deep) k t.took

pub assign_full : (names : Names) (limit : ℕ) (tokens : List Token) (from : ℕ) (object whole : Taken) (op : AssignOp)
    → IsTakenFrom names 2 limit tokens from object → kind_or_end tokens object.next ≡ token.Punctuator (assign_punctuator op)
    → 14 ≤ level_of (written object.tree) → limit ≤ object.height → IsNode (written object.tree) object.height object.next true whole
    → IsTakenFrom names 1 limit tokens from whole
assign_full names limit tokens from object whole op t k bound full n =
    let h = t.height_is in
    node_taken names 1 limit tokens from whole (written object.tree) object.height object.next true n h t.spelled t.some
    (subst (λ (x : TokenKind). Took (Expressions names 1) limit (written object.tree) x true) (sym k)
    (assign_deep names limit (written object.tree) op object.deep (omega arith) bound (with_store names limit tokens from object op t k)))

pub value_stops : (names : Names) (limit : ℕ) (tokens : List Token) (from : ℕ) (object : Taken) (op : AssignOp)
    → IsTakenFrom names 2 limit tokens from object → kind_or_end tokens object.next ≡ token.Punctuator (assign_punctuator op)
    → 14 ≤ level_of (written object.tree) → object.height < limit → (s : Stop) → Stops (Expressions names 1) (limit - 1) tokens (object.next + 1) s
    → Stops (Expressions names 1) limit tokens from s
value_stops names limit tokens from object op t k bound low s r =
    stops_in (Expressions names 1) (Expressions names 1) limit (limit - 1) tokens from (object.next + 1)
    (text (written object.tree) (token.Punctuator (assign_punctuator op) ∷ []))
    (front_and_punctuator tokens from object.next (written object.tree) (assign_punctuator op) t.spelled k)
    (λ front at deep sp x.
    value_refused names limit (written object.tree) op object.deep (let h = t.height_is in
    omega arith) bound (with_store names limit tokens from object op t k) front (kind_or_end tokens at) deep x) s r

pub assign_taken : (names : Names) (limit : ℕ) (tokens : List Token) (from : ℕ) (object value whole : Taken) (op : AssignOp)
    → IsTakenFrom names 2 limit tokens from object → kind_or_end tokens object.next ≡ token.Punctuator (assign_punctuator op)
    → 14 ≤ level_of (written object.tree) → object.height < limit → IsTakenFrom names 1 (limit - 1) tokens (object.next + 1) value
    → IsNode (Assign op (written object.tree) (written value.tree)) (max object.height value.height + 1) value.next value.deep whole
    → IsTakenFrom names 1 limit tokens from whole
assign_taken names limit tokens from object value whole op t k bound low v n =
    let ho = t.height_is in
    let hv = v.height_is in
    let so = t.some in
    let sv = v.some in
    node_taken names 1 limit tokens from whole (Assign op (written object.tree) (written value.tree)) (max object.height value.height + 1) value.next value.deep
    n (omega arith)
    (spells_more tokens from object.next value.next (text (written object.tree))
    (λ rest. token.Punctuator (assign_punctuator op) ∷ text (written value.tree) rest) t.spelled
    (spells_more tokens object.next (object.next + 1) value.next (λ rest. token.Punctuator (assign_punctuator op) ∷ rest) (text (written value.tree))
    (punctuator_stands tokens object.next (assign_punctuator op) k) v.spelled))
    (omega arith)
    (value_took names limit (written object.tree) op object.deep (omega arith) bound (with_store names limit tokens from object op t k) (written value.tree)
    (kind_or_end tokens value.next) value.deep v.took)

-- the test was refused
pub test_stops : (names : Names) (limit : ℕ) (tokens : List Token) (from : ℕ) (s : Stop) → Stops (Expressions names 3) limit tokens from s
    → Stops (Expressions names 2) limit tokens from s
test_stops names limit tokens from s r =
    stops_pass (Expressions names 2) (Expressions names 3) limit tokens from
    (λ front at deep sp x. choice_head_refused names limit front (kind_or_end tokens at) deep x) s r

-- the object was refused
pub object_stops : (names : Names) (limit : ℕ) (tokens : List Token) (from : ℕ) (s : Stop) → Stops (Expressions names 2) limit tokens from s
    → Stops (Expressions names 1) limit tokens from s
object_stops names limit tokens from s r =
    stops_pass (Expressions names 1) (Expressions names 2) limit tokens from
    (λ front at deep sp x. assign_head_refused names limit front (kind_or_end tokens at) deep x) s r
