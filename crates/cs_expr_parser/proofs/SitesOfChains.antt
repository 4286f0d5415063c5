-- The returns of `postfix`, `suffixed`, `infix` and `comma`, over indices of tokens.
use Rattle.std.proofs.Common.{◌≡◌, ℕ, suc, ◌+◌, ◌-◌, ◌<◌, ◌≤◌, max, ◌⊎◌, inl, inr, Bool, true, false, if◌then◌else◌, List}
use Rattle.std.proofs.Common.{[], ◌∷◌, ◌++◌, Option, Some, None, Result, Ok, Err, length, refl, sym, ap, ◌∙◌, subst, arith, add-one}
use Rattle.cs_ast.specs.declared.token.Token.{Token}
use Rattle.cs_ast.specs.declared.token.TokenKind.{TokenKind}
use Rattle.cs_ast.specs.declared.token.TokenKind.TheVariants as token
use Rattle.cs_ast.specs.declared.token.Punctuator.{Punctuator}
use Rattle.cs_ast.specs.declared.token.Punctuator.TheVariants as punctuator
use Rattle.cs_ast.specs.declared.raw.operator.Step.{Step}
use Rattle.cs_ast.specs.declared.raw.operator.InfixOp.{InfixOp}
use Rattle.cs_ast.specs.RawTree.{Written, WrittenList, Index, Call, Member, Arrow, StepAfter, Infix, Comma}
use Rattle.cs_ast.specs.RawView.{written, written_list}
use Rattle.cs_ast.specs.RawHeight.{height, highest}
use Rattle.cs_grammar.specs.TypeWords.{Names}
use Rattle.cs_grammar.specs.Levels.{infix_level}
use Rattle.cs_grammar.specs.Punctuators.{step_punctuator, infix_punctuator}
use Rattle.cs_grammar.specs.Text.{Kinds, text}
use Rattle.cs_grammar.specs.Phrases.{IsPhrase, ArePhrases}
use Rattle.cs_grammar.specs.Continuing.{join, join_of}
use Rattle.cs_grammar.specs.Parsing.{Class, Expressions, Took, Refused, Begins}
use Rattle.cs_grammar.specs.Chains.{Grows}
use Rattle.cs_grammar.proofs.Holes.{Lawful, ClosedBy, closed_law, closed_refused, closed_wrong, closed_exact, exact_took, Ended, ended_law, ended_exact}
use Rattle.cs_grammar.proofs.Holes.{AnyName, name_law, name_exact, name_refused}
use Rattle.cs_grammar.proofs.Levels.{text_law, infix_join}
use Rattle.cs_grammar.proofs.Chains.{IsChain, Addition, addition_took, grows_head}
use Rattle.cs_expr_parser.specs.Positions.{kinds, kind_or_end, name_of, IsSuffixAt}
use Rattle.cs_expr_parser.specs.Operators.{IsInfixAt}
use Rattle.cs_expr_parser.specs.Reasons.{reason_of}
use Rattle.cs_expr_parser.specs.Parts.{Spells, Stops, IsTakenFrom, IsChainFrom, IsRowFrom, IsNode, IsSelected, ChainAnswers, Rows, arguments_text, is_deep}
use Rattle.cs_grammar.specs.declared.refusal.Reason.{Reason}
use Rattle.cs_expr_parser.specs.declared.stop.Stop.{Stop}
use Rattle.cs_expr_parser.specs.declared.stop.Stop.TheVariants as stop
use Rattle.cs_expr_parser.specs.declared.stop.Taken.{Taken}
use Rattle.cs_expr_parser.specs.declared.lists.Listed.{Listed}
use Rattle.cs_expr_parser.proofs.Standing.{spells_one, spells_none, spells_more, spells_as, name_is}
use Rattle.cs_expr_parser.proofs.Stopping.{IsRefusalAfter, refused_after, refused_at, deep_reason, stops_in, stops_pass}
use Rattle.cs_expr_parser.proofs.Sites.{node_chain, punctuator_stands, taken_front, front_and_punctuator, addition_stops, chain_ends, chain_full}
use Rattle.cs_expr_parser.proofs.RowsOfTrees.{arguments_law}
use Rattle.cs_expr_parser.proofs.Suffixes.{index_addition, call_addition, member_addition, arrow_addition, step_addition, infix_addition, comma_addition}
use Rattle.cs_expr_parser.proofs.Heads.{head_refused}
use Rattle.cs_expr_parser.proofs.Joining.{postfix_chain, infix_chain, comma_chain, some_suffix, no_suffix, no_infix, no_comma, postfix_further, infix_further}
use Rattle.cs_expr_parser.proofs.Joining.{comma_further}

-- the first operand was refused
head_stops : (names : Names) (level limit : ℕ) (tokens : List Token) (from : ℕ) → IsChain level
    → (s : Stop) → Stops (Expressions names (suc level)) limit tokens from s → Stops (Expressions names level) limit tokens from s
head_stops names level limit tokens from c s r =
    stops_pass (Expressions names level) (Expressions names (suc level)) limit tokens from
    (λ front at deep sp x. head_refused names level limit front (kind_or_end tokens at) deep c x) s r

-- the chain that is the first operand
chain_head : (names : Names) (level limit : ℕ) (tokens : List Token) (from : ℕ) (taken : Taken) → IsChain level
    → IsTakenFrom names (suc level) limit tokens from taken → IsChainFrom names level limit tokens from taken
chain_head names level limit tokens from taken c t = record {
  height_is = t.height_is;
  spelled = t.spelled;
  some = t.some;
  grows = grows_head names level limit (written taken.tree) (kind_or_end tokens taken.next) taken.deep c t.took;
}

-- a suffix was taken
addition_taken : (names : Names) (level limit : ℕ) (tokens : List Token) (from : ℕ) (left : Taken) (m : Punctuator) (D : Class) (inner : ℕ)
    (build : D.Tree → Written) (part : D.Tree) (tall next : ℕ) (deep : Bool) (whole : Taken) → IsChainFrom names level limit tokens from left
    → kind_or_end tokens left.next ≡ token.Punctuator m → Addition names level (written left.tree) limit (token.Punctuator m) D inner build
    → Took D inner part (kind_or_end tokens next) deep → Spells tokens (left.next + 1) next (D.spell part) → IsNode (build part) tall next deep whole
    → tall ≡ height (build part) → IsChainFrom names level limit tokens from whole
addition_taken names level limit tokens from left m D inner build part tall next deep whole c k a t sp n h =
    let s = c.some in
    let o = sp.onward in
    node_chain names level limit tokens from whole (build part) tall next deep n h
    (spells_as tokens from next (λ rest. text (written left.tree) (token.Punctuator m ∷ D.spell part rest)) (text (build part))
    (spells_more tokens from left.next next (text (written left.tree)) (λ rest. token.Punctuator m ∷ D.spell part rest) c.spelled
    (spells_more tokens left.next (left.next + 1) next (λ rest. token.Punctuator m ∷ rest) (D.spell part) (punctuator_stands tokens left.next m k) sp))
    (λ rest. sym (a.spelled part rest)))
    (omega arith)
    (addition_took names level (written left.tree) limit (token.Punctuator m) D inner build left.deep
    (subst (λ (x : TokenKind). Grows names level limit (written left.tree) x left.deep) k c.grows) a part (kind_or_end tokens next) deep t)

-- the left operand of a chain that was taken, with its height
low_left : (names : Names) (level limit : ℕ) (tokens : List Token) (from : ℕ) (left : Taken) → IsChainFrom names level limit tokens from left
    → left.height < limit → height (written left.tree) < limit
low_left names level limit tokens from left c low = let h = c.height_is in omega arith

pub postfix_head_stops : (names : Names) (limit : ℕ) (tokens : List Token) (from : ℕ) (s : Stop) → Stops (Expressions names 16) limit tokens from s
    → Stops (Expressions names 15) limit tokens from s
postfix_head_stops names limit tokens from s r = head_stops names 15 limit tokens from postfix_chain s r

pub postfix_head : (names : Names) (limit : ℕ) (tokens : List Token) (from : ℕ) (taken : Taken) → IsTakenFrom names 16 limit tokens from taken
    → IsChainFrom names 15 limit tokens from taken
postfix_head names limit tokens from taken t = chain_head names 15 limit tokens from taken postfix_chain t

pub postfix_ends : (names : Names) (limit : ℕ) (tokens : List Token) (from : ℕ) (left : Taken) → IsChainFrom names 15 limit tokens from left
    → IsSuffixAt (kind_or_end tokens left.next) None → IsTakenFrom names 15 limit tokens from left
postfix_ends names limit tokens from left c none = chain_ends names 15 limit tokens from left c (no_suffix (kind_or_end tokens left.next) none)

pub postfix_full : (names : Names) (limit : ℕ) (tokens : List Token) (from : ℕ) (left whole : Taken) (m : Punctuator)
    → IsChainFrom names 15 limit tokens from left → IsSuffixAt (kind_or_end tokens left.next) (Some m) → limit ≤ left.height
    → IsNode (written left.tree) left.height left.next true whole → IsTakenFrom names 15 limit tokens from whole
postfix_full names limit tokens from left whole m c s full n =
    chain_full names 15 limit tokens from left whole c (some_suffix (kind_or_end tokens left.next) m s) full
    (postfix_further names (written left.tree) (kind_or_end tokens left.next) m s c.grows.is_phrase) n

-- the subscript of an element was refused
pub index_stops : (names : Names) (limit : ℕ) (tokens : List Token) (from : ℕ) (left : Taken) → IsChainFrom names 15 limit tokens from left
    → kind_or_end tokens left.next ≡ token.Punctuator punctuator.OpenBracket → left.height < limit
    → (s : Stop) → Stops (Expressions names 0) (limit - 1) tokens (left.next + 1) s → Stops (Expressions names 15) limit tokens from s
index_stops names limit tokens from left c k low s r =
    addition_stops names 15 limit tokens from left punctuator.OpenBracket (ClosedBy (Expressions names 0) (token.Punctuator punctuator.CloseBracket))
    (limit - 1) (Index (written left.tree)) (closed_law (Expressions names 0) (token.Punctuator punctuator.CloseBracket) (text_law names 0)) c k
    (index_addition names (written left.tree) limit c.grows.is_phrase (low_left names 15 limit tokens from left c low)) s
    (stops_pass (ClosedBy (Expressions names 0) (token.Punctuator punctuator.CloseBracket)) (Expressions names 0) (limit - 1) tokens (left.next + 1)
    (λ front at deep sp x.
    closed_refused (Expressions names 0) (token.Punctuator punctuator.CloseBracket) (limit - 1) (text_law names 0) (λ more. omega arith) front
    (kind_or_end tokens at) deep x) s r)

-- no bracket closes the subscript of an element
pub index_unclosed : (names : Names) (limit : ℕ) (tokens : List Token) (from : ℕ) (left number : Taken) (s : Stop)
    → IsChainFrom names 15 limit tokens from left → kind_or_end tokens left.next ≡ token.Punctuator punctuator.OpenBracket → left.height < limit
    → IsTakenFrom names 0 (limit - 1) tokens (left.next + 1) number → (kind_or_end tokens number.next ≡ token.Punctuator punctuator.CloseBracket → ⊥)
    → IsRefusalAfter tokens number s → Stops (Expressions names 15) limit tokens from s
index_unclosed names limit tokens from left number s c k low t other is =
    addition_stops names 15 limit tokens from left punctuator.OpenBracket (ClosedBy (Expressions names 0) (token.Punctuator punctuator.CloseBracket))
    (limit - 1) (Index (written left.tree)) (closed_law (Expressions names 0) (token.Punctuator punctuator.CloseBracket) (text_law names 0)) c k
    (index_addition names (written left.tree) limit c.grows.is_phrase (low_left names 15 limit tokens from left c low)) s
    (refused_after (ClosedBy (Expressions names 0) (token.Punctuator punctuator.CloseBracket)) (limit - 1) tokens (left.next + 1) number s
    (text (written number.tree) []) is (taken_front tokens (left.next + 1) number.next (written number.tree) t.spelled)
    (closed_wrong (Expressions names 0) (token.Punctuator punctuator.CloseBracket) (limit - 1) (text_law names 0) (λ more. omega arith) (written number.tree)
    (kind_or_end tokens number.next) number.deep t.took other))

pub index_taken : (names : Names) (limit : ℕ) (tokens : List Token) (from : ℕ) (left number whole : Taken) → IsChainFrom names 15 limit tokens from left
    → kind_or_end tokens left.next ≡ token.Punctuator punctuator.OpenBracket → left.height < limit
    → IsTakenFrom names 0 (limit - 1) tokens (left.next + 1) number → kind_or_end tokens number.next ≡ token.Punctuator punctuator.CloseBracket
    → IsNode (Index (written left.tree) (written number.tree)) (max left.height number.height + 1) (number.next + 1) false whole
    → IsChainFrom names 15 limit tokens from whole
index_taken names limit tokens from left number whole c k low t close n =
    let hl = c.height_is in
    let hn = t.height_is in
    addition_taken names 15 limit tokens from left punctuator.OpenBracket (ClosedBy (Expressions names 0) (token.Punctuator punctuator.CloseBracket))
    (limit - 1) (Index (written left.tree)) (written number.tree) (max left.height number.height + 1) (number.next + 1) false whole c k
    (index_addition names (written left.tree) limit c.grows.is_phrase (low_left names 15 limit tokens from left c low))
    (exact_took (ClosedBy (Expressions names 0) (token.Punctuator punctuator.CloseBracket)) (limit - 1) (written number.tree)
    (closed_exact (Expressions names 0) (token.Punctuator punctuator.CloseBracket) (limit - 1) (λ more. omega arith) (written number.tree) number.deep
    (subst (λ (x : TokenKind). Took (Expressions names 0) (limit - 1) (written number.tree) x number.deep) close t.took))
    (kind_or_end tokens (number.next + 1)))
    (spells_more tokens (left.next + 1) number.next (number.next + 1) (text (written number.tree)) (λ rest. token.Punctuator punctuator.CloseBracket ∷ rest)
    t.spelled (punctuator_stands tokens number.next punctuator.CloseBracket close))
    n (omega arith)

-- the arguments were refused
pub call_stops : (names : Names) (limit : ℕ) (tokens : List Token) (from : ℕ) (left : Taken) → IsChainFrom names 15 limit tokens from left
    → kind_or_end tokens left.next ≡ token.Punctuator punctuator.OpenParenthesis → left.height < limit
    → (s : Stop) → Stops (Rows arguments_text (ArePhrases names 1)) (limit - 2) tokens (left.next + 1) s
    → Stops (Expressions names 15) limit tokens from s
call_stops names limit tokens from left c k low s r =
    addition_stops names 15 limit tokens from left punctuator.OpenParenthesis (Rows arguments_text (ArePhrases names 1)) (limit - 2) (Call (written left.tree))
    (arguments_law names) c k
    (call_addition names (written left.tree) limit c.grows.is_phrase (low_left names 15 limit tokens from left c low)) s r

pub call_taken : (names : Names) (limit : ℕ) (tokens : List Token) (from : ℕ) (left : Taken) (listed : Listed) (whole : Taken)
    → IsChainFrom names 15 limit tokens from left → kind_or_end tokens left.next ≡ token.Punctuator punctuator.OpenParenthesis → left.height < limit
    → IsRowFrom arguments_text (ArePhrases names 1) (limit - 2) tokens (left.next + 1) listed
    → IsNode (Call (written left.tree) (written_list listed.trees.items)) (max left.height (listed.height + 1) + 1) listed.next false whole
    → IsChainFrom names 15 limit tokens from whole
call_taken names limit tokens from left listed whole c k low t n =
    let hl = c.height_is in
    let hn = t.height_is in
    addition_taken names 15 limit tokens from left punctuator.OpenParenthesis (Rows arguments_text (ArePhrases names 1)) (limit - 2) (Call (written left.tree))
    (written_list listed.trees.items) (max left.height (listed.height + 1) + 1) listed.next false whole c k
    (call_addition names (written left.tree) limit c.grows.is_phrase (low_left names 15 limit tokens from left c low))
    (exact_took (Rows arguments_text (ArePhrases names 1)) (limit - 2) (written_list listed.trees.items) t.exactly (kind_or_end tokens listed.next))
    t.spelled n (omega arith)

-- a name
spells_name : (tokens : List Token) (at : ℕ) (name : List ℕ) → kind_or_end tokens (at + 1) ≡ token.Name name
    → Spells tokens (at + 1) (at + 2) (λ rest. token.Name name ∷ rest)
spells_name tokens at name k =
    subst (λ (x : ℕ). Spells tokens (at + 1) x (λ rest. token.Name name ∷ rest)) (let e : at + 1 + 1 ≡ at + 2 = omega arith in
    e) (spells_one tokens (at + 1) (token.Name name) k (λ x. cc))

no_name : (next : TokenKind) → name_of next ≡ None → (name : List ℕ) → next ≡ token.Name name → ⊥
no_name next none name e = let z : name_of (token.Name name) ≡ None = ap name_of (sym e) ∙ none in cc

-- no name follows a dot or an arrow
unnamed : (tokens : List Token) (at : ℕ) (reason : Reason) → at ≤ length tokens → name_of (kind_or_end tokens at) ≡ None
    → reason ≡ reason_of false (kind_or_end tokens at) false → Stops AnyName 0 tokens at (stop.Refused at reason)
unnamed tokens at reason within none why =
    refused_at AnyName 0 tokens at at reason false [] (spells_none tokens at within) (ap is_deep why ∙ deep_reason false (kind_or_end tokens at) false)
    (name_refused 0 (kind_or_end tokens at) (no_name (kind_or_end tokens at) none))

member_named : (names : Names) (limit : ℕ) (tokens : List Token) (from : ℕ) (left whole : Taken) (through : Bool) (name : List ℕ)
    → IsChainFrom names 15 limit tokens from left → kind_or_end tokens left.next ≡ token.Punctuator (if through then punctuator.Arrow else punctuator.Dot)
    → left.height < limit → kind_or_end tokens (left.next + 1) ≡ token.Name name
    → IsNode (if through then Arrow (written left.tree) name else Member (written left.tree) name) (left.height + 1) (left.next + 2) false whole
    → IsChainFrom names 15 limit tokens from whole
member_named names limit tokens from left whole false name c k low named n =
    let hl = c.height_is in
    addition_taken names 15 limit tokens from left punctuator.Dot AnyName 0 (Member (written left.tree)) name (left.height + 1) (left.next + 2) false whole c k
    (member_addition names (written left.tree) limit c.grows.is_phrase (low_left names 15 limit tokens from left c low))
    (exact_took AnyName 0 name (name_exact 0 name) (kind_or_end tokens (left.next + 2)))
    (spells_name tokens left.next name named) n (omega arith)
member_named names limit tokens from left whole true name c k low named n =
    let hl = c.height_is in
    addition_taken names 15 limit tokens from left punctuator.Arrow AnyName 0 (Arrow (written left.tree)) name (left.height + 1) (left.next + 2) false whole c k
    (arrow_addition names (written left.tree) limit c.grows.is_phrase (low_left names 15 limit tokens from left c low))
    (exact_took AnyName 0 name (name_exact 0 name) (kind_or_end tokens (left.next + 2)))
    (spells_name tokens left.next name named) n (omega arith)

member_unnamed : (names : Names) (limit : ℕ) (tokens : List Token) (from : ℕ) (left : Taken) (through : Bool) (s : Stop)
    → IsChainFrom names 15 limit tokens from left → kind_or_end tokens left.next ≡ token.Punctuator (if through then punctuator.Arrow else punctuator.Dot)
    → left.height < limit → Stops AnyName 0 tokens (left.next + 1) s → Stops (Expressions names 15) limit tokens from s
member_unnamed names limit tokens from left false s c k low r =
    addition_stops names 15 limit tokens from left punctuator.Dot AnyName 0 (Member (written left.tree)) name_law c k
    (member_addition names (written left.tree) limit c.grows.is_phrase (low_left names 15 limit tokens from left c low)) s r
member_unnamed names limit tokens from left true s c k low r =
    addition_stops names 15 limit tokens from left punctuator.Arrow AnyName 0 (Arrow (written left.tree)) name_law c k
    (arrow_addition names (written left.tree) limit c.grows.is_phrase (low_left names 15 limit tokens from left c low)) s r

-- the result for a dot or an arrow
pub member_answer : (names : Names) (limit : ℕ) (tokens : List Token) (from : ℕ) (left : Taken) (through : Bool) (answer : Result Taken Stop)
    → IsChainFrom names 15 limit tokens from left → kind_or_end tokens left.next ≡ token.Punctuator (if through then punctuator.Arrow else punctuator.Dot)
    → left.next < length tokens → left.height < limit → IsSelected through (written left.tree) left.height left.next tokens answer
    → ChainAnswers names 15 limit tokens from answer
member_answer names limit tokens from left through (Ok whole) c k within low (name, named, n) =
    member_named names limit tokens from left whole through name c k low named n
member_answer names limit tokens from left through (Err stop.Memory) c k within low none = tt
member_answer names limit tokens from left through (Err (stop.Refused at reason)) c k within low (none, number, why) =
    member_unnamed names limit tokens from left through (stop.Refused at reason) c k low
    (subst (λ (x : ℕ). Stops AnyName 0 tokens (left.next + 1) (stop.Refused x reason)) (sym number)
    (unnamed tokens (left.next + 1) reason (omega arith) none why))

-- `++` or `--` after an operand
pub step_taken : (names : Names) (limit : ℕ) (tokens : List Token) (from : ℕ) (left whole : Taken) (by : Step)
    → IsChainFrom names 15 limit tokens from left → kind_or_end tokens left.next ≡ token.Punctuator (step_punctuator by) → left.next < length tokens
    → left.height < limit → IsNode (StepAfter by (written left.tree)) (left.height + 1) (left.next + 1) false whole
    → IsChainFrom names 15 limit tokens from whole
step_taken names limit tokens from left whole by c k within low n =
    let hl = c.height_is in
    addition_taken names 15 limit tokens from left (step_punctuator by) Ended 0 (λ (end : Unit {0}). StepAfter by (written left.tree)) tt (left.height + 1)
    (left.next + 1) false whole c k
    (step_addition names (written left.tree) limit by c.grows.is_phrase (low_left names 15 limit tokens from left c low))
    (exact_took Ended 0 tt (ended_exact 0) (kind_or_end tokens (left.next + 1)))
    (spells_none tokens (left.next + 1) (omega arith)) n (omega arith)

pub infix_head_stops : (names : Names) (level limit : ℕ) (tokens : List Token) (from : ℕ) → 3 ≤ level → level ≤ 12
    → (s : Stop) → Stops (Expressions names (level + 1)) limit tokens from s → Stops (Expressions names level) limit tokens from s
infix_head_stops names level limit tokens from some few s r =
    head_stops names level limit tokens from (infix_chain level some few) s
    (subst (λ (n : ℕ). Stops (Expressions names n) limit tokens from s) (add-one level) r)

pub infix_head : (names : Names) (level limit : ℕ) (tokens : List Token) (from : ℕ) (taken : Taken) → 3 ≤ level → level ≤ 12
    → IsTakenFrom names (level + 1) limit tokens from taken → IsChainFrom names level limit tokens from taken
infix_head names level limit tokens from taken some few t =
    chain_head names level limit tokens from taken (infix_chain level some few)
    (subst (λ (n : ℕ). IsTakenFrom names n limit tokens from taken) (add-one level) t)

pub infix_ends : (names : Names) (level limit : ℕ) (tokens : List Token) (from : ℕ) (left : Taken) → 3 ≤ level → level ≤ 12
    → IsChainFrom names level limit tokens from left → IsInfixAt level (kind_or_end tokens left.next) None
    → IsTakenFrom names level limit tokens from left
infix_ends names level limit tokens from left some few c none =
    chain_ends names level limit tokens from left c (no_infix level (kind_or_end tokens left.next) some few none)

infix_joins : (level : ℕ) (kind : TokenKind) (op : InfixOp) → IsInfixAt level kind (Some op) → join kind ≡ suc level
infix_joins level kind op s = ap join s.0 ∙ infix_join op ∙ ap suc s.1

pub infix_full : (names : Names) (level limit : ℕ) (tokens : List Token) (from : ℕ) (left whole : Taken) (op : InfixOp)
    → IsChainFrom names level limit tokens from left → IsInfixAt level (kind_or_end tokens left.next) (Some op) → limit ≤ left.height
    → IsNode (written left.tree) left.height left.next true whole → IsTakenFrom names level limit tokens from whole
infix_full names level limit tokens from left whole op c s full n =
    chain_full names level limit tokens from left whole c (infix_joins level (kind_or_end tokens left.next) op s) full
    (infix_further names level (written left.tree) (kind_or_end tokens left.next) op s c.grows.is_phrase) n

infix_adds : (names : Names) (level : ℕ) (left : Written) (limit : ℕ) (op : InfixOp) → infix_level op ≡ level → IsPhrase names level left
    → height left < limit → Addition names level left limit (token.Punctuator (infix_punctuator op)) (Expressions names (level + 1)) (limit - 1)
    (Infix op left)
infix_adds names level left limit op l is low =
    subst (λ (n : ℕ). Addition names n left limit (token.Punctuator (infix_punctuator op)) (Expressions names (n + 1)) (limit - 1) (Infix op left)) l
    (subst (λ (n : ℕ). Addition names (infix_level op) left limit (token.Punctuator (infix_punctuator op)) (Expressions names n) (limit - 1) (Infix op left))
    (sym (add-one (infix_level op)))
    (infix_addition names left limit op (subst (λ (n : ℕ). IsPhrase names n left) (sym l) is) low))

pub right_stops : (names : Names) (level limit : ℕ) (tokens : List Token) (from : ℕ) (left : Taken) (op : InfixOp)
    → IsChainFrom names level limit tokens from left → IsInfixAt level (kind_or_end tokens left.next) (Some op) → left.height < limit
    → (s : Stop) → Stops (Expressions names (level + 1)) (limit - 1) tokens (left.next + 1) s → Stops (Expressions names level) limit tokens from s
right_stops names level limit tokens from left op c k low s r =
    addition_stops names level limit tokens from left (infix_punctuator op) (Expressions names (level + 1)) (limit - 1) (Infix op (written left.tree))
    (text_law names (level + 1)) c k.0
    (infix_adds names level (written left.tree) limit op k.1 c.grows.is_phrase (low_left names level limit tokens from left c low)) s r

pub infix_taken : (names : Names) (level limit : ℕ) (tokens : List Token) (from : ℕ) (left right whole : Taken) (op : InfixOp)
    → IsChainFrom names level limit tokens from left → IsInfixAt level (kind_or_end tokens left.next) (Some op) → left.height < limit
    → IsTakenFrom names (level + 1) (limit - 1) tokens (left.next + 1) right
    → IsNode (Infix op (written left.tree) (written right.tree)) (max left.height right.height + 1) right.next right.deep whole
    → IsChainFrom names level limit tokens from whole
infix_taken names level limit tokens from left right whole op c k low t n =
    let hl = c.height_is in
    let hr = t.height_is in
    addition_taken names level limit tokens from left (infix_punctuator op) (Expressions names (level + 1)) (limit - 1) (Infix op (written left.tree))
    (written right.tree) (max left.height right.height + 1) right.next right.deep whole c k.0
    (infix_adds names level (written left.tree) limit op k.1 c.grows.is_phrase (low_left names level limit tokens from left c low))
    t.took t.spelled n (omega arith)

pub comma_head_stops : (names : Names) (limit : ℕ) (tokens : List Token) (from : ℕ) (s : Stop) → Stops (Expressions names 1) limit tokens from s
    → Stops (Expressions names 0) limit tokens from s
comma_head_stops names limit tokens from s r = head_stops names 0 limit tokens from comma_chain s r

pub comma_head : (names : Names) (limit : ℕ) (tokens : List Token) (from : ℕ) (taken : Taken) → IsTakenFrom names 1 limit tokens from taken
    → IsChainFrom names 0 limit tokens from taken
comma_head names limit tokens from taken t = chain_head names 0 limit tokens from taken comma_chain t

pub comma_ends : (names : Names) (limit : ℕ) (tokens : List Token) (from : ℕ) (left : Taken) → IsChainFrom names 0 limit tokens from left
    → (kind_or_end tokens left.next ≡ token.Punctuator punctuator.Comma → ⊥) → IsTakenFrom names 0 limit tokens from left
comma_ends names limit tokens from left c none = chain_ends names 0 limit tokens from left c (no_comma (kind_or_end tokens left.next) none)

pub comma_full : (names : Names) (limit : ℕ) (tokens : List Token) (from : ℕ) (left whole : Taken) → IsChainFrom names 0 limit tokens from left
    → kind_or_end tokens left.next ≡ token.Punctuator punctuator.Comma → limit ≤ left.height
    → IsNode (written left.tree) left.height left.next true whole → IsTakenFrom names 0 limit tokens from whole
comma_full names limit tokens from left whole c k full n =
    chain_full names 0 limit tokens from left whole c (ap join k) full
    (comma_further names (written left.tree) (kind_or_end tokens left.next) k c.grows.is_phrase) n

pub second_stops : (names : Names) (limit : ℕ) (tokens : List Token) (from : ℕ) (left : Taken) → IsChainFrom names 0 limit tokens from left
    → kind_or_end tokens left.next ≡ token.Punctuator punctuator.Comma → left.height < limit
    → (s : Stop) → Stops (Expressions names 1) (limit - 1) tokens (left.next + 1) s → Stops (Expressions names 0) limit tokens from s
second_stops names limit tokens from left c k low s r =
    addition_stops names 0 limit tokens from left punctuator.Comma (Expressions names 1) (limit - 1) (Comma (written left.tree)) (text_law names 1) c k
    (comma_addition names (written left.tree) limit c.grows.is_phrase (low_left names 0 limit tokens from left c low)) s r

pub comma_taken : (names : Names) (limit : ℕ) (tokens : List Token) (from : ℕ) (left second whole : Taken) → IsChainFrom names 0 limit tokens from left
    → kind_or_end tokens left.next ≡ token.Punctuator punctuator.Comma → left.height < limit
    → IsTakenFrom names 1 (limit - 1) tokens (left.next + 1) second
    → IsNode (Comma (written left.tree) (written second.tree)) (max left.height second.height + 1) second.next second.deep whole
    → IsChainFrom names 0 limit tokens from whole
comma_taken names limit tokens from left second whole c k low t n =
    let hl = c.height_is in
    let hr = t.height_is in
    addition_taken names 0 limit tokens from left punctuator.Comma (Expressions names 1) (limit - 1) (Comma (written left.tree)) (written second.tree)
    (max left.height second.height + 1) second.next second.deep whole c k
    (comma_addition names (written left.tree) limit c.grows.is_phrase (low_left names 0 limit tokens from left c low))
    t.took t.spelled n (omega arith)
