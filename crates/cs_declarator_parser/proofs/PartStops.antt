-- Refusals and phrases inside others, over indices of tokens: for the contracts of all parts of declarations and statements.
use Rattle.std.proofs.Common.{◌≡◌, ℕ, ◌+◌, ◌≤◌, Bool, true, false, if◌then◌else◌, List, [], ◌∷◌, ◌++◌, length, drop, refl}
use Rattle.std.proofs.Common.{sym, subst, append_assoc}
use Rattle.cs_ast.specs.declared.token.Token.{Token}
use Rattle.cs_ast.specs.declared.token.TokenKind.{TokenKind}
use Rattle.cs_ast.specs.declared.token.TokenKind.TheVariants as token
use Rattle.cs_grammar.specs.declared.refusal.Reason.{Reason}
use Rattle.cs_grammar.specs.declared.refusal.Reason.TheVariants.{Syntax, Unsupported, TooDeep}
use Rattle.cs_grammar.specs.Text.{Kinds}
use Rattle.cs_grammar.specs.Parsing.{Class, Near, Took, Refused, Exactly}
use Rattle.cs_grammar.proofs.Holes.{Lawful, splits, ClosedBy, closed_refused, closed_wrong, closed_exact, exact_took}
use Rattle.cs_grammar.proofs.Tails.{first_or, near_first}
use Rattle.cs_grammar.proofs.Pairs.{Pair, HasLimit, pair_first_refused, pair_second_refused, pair_took, Single, HasPlace, single_refused, single_took}
use Rattle.cs_expr_parser.specs.Positions.{kinds, kind_or_end}
use Rattle.cs_expr_parser.specs.Parts.{Spells, IsRefused, is_deep}
use Rattle.cs_expr_parser.proofs.Standing.{kinds_first, spells_one, spells_none, spells_more, spells_as}
use Rattle.cs_expr_parser.proofs.Stopping.{refused_here}
use Rattle.cs_declarator_parser.specs.declared.source.Scope.{Scope}
use Rattle.cs_expr_parser.specs.declared.stop.Stop.{Stop}
use Rattle.cs_expr_parser.specs.declared.stop.Stop.TheVariants as stop
use Rattle.cs_declarator_parser.specs.Reasons.{is_unsupported, plain_reason}
use Rattle.cs_declarator_parser.specs.Answers.{Stops}

either_flat : (b : Bool) → is_deep (if b then Unsupported else Syntax) ≡ false
either_flat true = refl
either_flat false = refl

-- the reason is that no phrase of any height continues
pub plain_flat : (scope : Scope) (next : TokenKind) → is_deep (plain_reason scope next) ≡ false
plain_flat scope next = either_flat (is_unsupported scope next)

-- what a refusal inside a part implies for the whole
abbrev pub Lifts : Class → Class → ℕ → ℕ → List Token → ℕ → Kinds → Type 0
Lifts C D limit inner tokens mid before =
    (front : Kinds) (at : ℕ) (deep : Bool) → Spells tokens mid at (λ rest. front ++ rest) → Refused D inner front (kind_or_end tokens at) deep
    → Refused C limit (before ++ front) (kind_or_end tokens at) deep

refused_in : (C D : Class) (limit inner : ℕ) (tokens : List Token) (from mid : ℕ) (before : Kinds) → Spells tokens from mid (λ rest. before ++ rest)
    → Lifts C D limit inner tokens mid before → (at : ℕ) (reason : Reason) → IsRefused D inner tokens mid at reason
    → IsRefused C limit tokens from at reason
refused_in C D limit inner tokens from mid before spelled lift at reason r = record {
  front = before ++ r.front;
  spelled =
      spells_as tokens from at (λ rest. before ++ (r.front ++ rest)) (λ rest. (before ++ r.front) ++ rest)
      (spells_more tokens from mid at (λ rest. before ++ rest) (λ rest. r.front ++ rest) spelled r.spelled)
      (λ rest. sym (append_assoc before r.front rest));
  refused = lift r.front at (is_deep reason) r.spelled r.refused;
}

-- a part was refused
pub stops_in : (C D : Class) (limit inner : ℕ) (tokens : List Token) (from mid : ℕ) (before : Kinds) → Spells tokens from mid (λ rest. before ++ rest)
    → Lifts C D limit inner tokens mid before → (s : Stop) → Stops D inner tokens mid s → Stops C limit tokens from s
stops_in C D limit inner tokens from mid before spelled lift stop.Memory s = tt
stops_in C D limit inner tokens from mid before spelled lift (stop.Refused at reason) s =
    refused_in C D limit inner tokens from mid before spelled lift at reason s

refused_pass : (C D : Class) (limit inner : ℕ) (tokens : List Token) (from : ℕ) → Lifts C D limit inner tokens from []
    → (at : ℕ) (reason : Reason) → IsRefused D inner tokens from at reason → IsRefused C limit tokens from at reason
refused_pass C D limit inner tokens from lift at reason r =
    record { front = r.front; spelled = r.spelled; refused = lift r.front at (is_deep reason) r.spelled r.refused }

-- what is refused as one class is refused as another
pub stops_pass : (C D : Class) (limit inner : ℕ) (tokens : List Token) (from : ℕ) → Lifts C D limit inner tokens from []
    → (s : Stop) → Stops D inner tokens from s → Stops C limit tokens from s
stops_pass C D limit inner tokens from lift stop.Memory s = tt
stops_pass C D limit inner tokens from lift (stop.Refused at reason) s = refused_pass C D limit inner tokens from lift at reason s

-- the refusal of a token that no phrase of any height continues with
abbrev pub IsPlainStop : Scope → List Token → ℕ → Stop → Type 0
IsPlainStop scope tokens at s = s ≡ stop.Refused at (plain_reason scope (kind_or_end tokens at))

-- the token after these is refused, and no phrase of any height continues with it
pub stops_plain : (C : Class) (limit : ℕ) (tokens : List Token) (from at : ℕ) (scope : Scope) (front : Kinds) (s : Stop)
    → Spells tokens from at (λ rest. front ++ rest) → IsPlainStop scope tokens at s → Refused C limit front (kind_or_end tokens at) false
    → Stops C limit tokens from s
stops_plain C limit tokens from at scope front s spelled is r =
    subst (Stops C limit tokens from) (sym is)
    (record {
      front = front;
      spelled = spelled;
      refused = subst (λ (d : Bool). Refused C limit front (kind_or_end tokens at) d) (sym (plain_flat scope (kind_or_end tokens at))) r;
    })

-- the first token is refused, since only phrases that are too high begin with it
pub stops_full : (C : Class) (limit : ℕ) (tokens : List Token) (from : ℕ) (s : Stop) → from ≤ length tokens → s ≡ stop.Refused from TooDeep
    → Refused C limit [] (kind_or_end tokens from) true → Stops C limit tokens from s
stops_full C limit tokens from s within is r =
    subst (Stops C limit tokens from) (sym is) (record { front = []; spelled = spells_none tokens from within; refused = r })

-- the tokens of a phrase, before others
pub front_of : (C : Class) → Lawful C → (tokens : List Token) (from next : ℕ) (tree : C.Tree) → Spells tokens from next (C.spell tree)
    → Spells tokens from next (λ rest. C.spell tree [] ++ rest)
front_of C law tokens from next tree sp = spells_as tokens from next (C.spell tree) (λ rest. C.spell tree [] ++ rest) sp (λ rest. splits C law tree rest)

-- the first of some tokens, or the next one if there are none
pub first_front : (tokens : List Token) (from at : ℕ) (front : Kinds) → Spells tokens from at (λ rest. front ++ rest)
    → first_or front (kind_or_end tokens at) ≡ kind_or_end tokens from
first_front tokens from at [] sp = refused_here tokens from at [] sp refl
first_front tokens from at (f ∷ fs) sp = sym (kinds_first (drop from tokens) f (fs ++ kinds (drop at tokens)) sp.spelled)

-- tokens that were refused, followed by any tokens after the next one, continue with the first token
pub near_start : (tokens : List Token) (from at : ℕ) (front : Kinds) → Spells tokens from at (λ rest. front ++ rest)
    → (following : Kinds) → Near (kind_or_end tokens at) following → Near (kind_or_end tokens from) (front ++ following)
near_start tokens from at front sp following near =
    near_first front (kind_or_end tokens at) (kind_or_end tokens from) (first_front tokens from at front sp) following near

-- a phrase that was taken, with its tokens
pub record Standing (C : Class) (limit : ℕ) (tokens : List Token) (from next : ℕ) (deep : Bool) (tree : C.Tree) : Type 0 where
  pub spelled : Spells tokens from next (C.spell tree)
  pub took : Took C limit tree (kind_or_end tokens next) deep

-- the same for one that is determined by its tokens
pub record StandingExactly (C : Class) (limit : ℕ) (tokens : List Token) (from next : ℕ) (tree : C.Tree) : Type 0 where
  pub spelled : Spells tokens from next (C.spell tree)
  pub exactly : Exactly C limit tree

-- the first of two parts was refused
pub pair_first_stops : {S C D : Class} {plus : ℕ} {before : Kinds} {build : C.Tree × D.Tree
    → S.Tree} (pair : Pair S C D plus before build) (limit inner : ℕ) → HasLimit pair limit inner
    → (tokens : List Token) (from mid : ℕ) → Spells tokens from mid (λ rest. before ++ rest) → (s : Stop) → Stops C inner tokens mid s
    → Stops S limit tokens from s
pair_first_stops {S} {C} {D} {plus} {before} pair limit inner has tokens from mid sp s r =
    stops_in S C limit inner tokens from mid before sp (λ front at deep here x. pair_first_refused pair limit inner has front (kind_or_end tokens at) deep x) s
    r

-- the second of two parts was refused
pub pair_second_stops : {S C D : Class} {plus : ℕ} {before : Kinds} {build : C.Tree × D.Tree
    → S.Tree} (pair : Pair S C D plus before build) (limit inner : ℕ) → HasLimit pair limit inner
    → (tokens : List Token) (from mid next : ℕ) → Spells tokens from mid (λ rest. before ++ rest)
    → (c : C.Tree) → StandingExactly C inner tokens mid next c → (s : Stop) → Stops D inner tokens next s → Stops S limit tokens from s
pair_second_stops {S} {C} {D} {plus} {before} pair limit inner has tokens from mid next sp c e s r =
    stops_in S D limit inner tokens from next (before ++ C.spell c [])
    (spells_as tokens from next (λ rest. before ++ (C.spell c [] ++ rest)) (λ rest. (before ++ C.spell c []) ++ rest)
    (spells_more tokens from mid next (λ rest. before ++ rest) (λ rest. C.spell c [] ++ rest) sp (front_of C pair.law_first tokens mid next c e.spelled))
    (λ rest. sym (append_assoc before (C.spell c []) rest)))
    (λ front at deep here x.
    subst (λ (k : Kinds). Refused S limit k (kind_or_end tokens at) deep) (sym (append_assoc before (C.spell c []) front))
    (pair_second_refused pair limit inner has c e.exactly front (kind_or_end tokens at) deep x)) s r

-- both parts were taken
pub pair_stands : {S C D : Class} {plus : ℕ} {before : Kinds} {build : C.Tree × D.Tree → S.Tree} (pair : Pair S C D plus before build) (limit inner : ℕ)
    → HasLimit pair limit inner → (tokens : List Token) (from mid between next : ℕ) → Spells tokens from mid (λ rest. before ++ rest)
    → (c : C.Tree) → StandingExactly C inner tokens mid between c → (deep : Bool) (d : D.Tree) → Standing D inner tokens between next deep d
    → Standing S limit tokens from next deep (build (c, d))
pair_stands {S} {C} {D} {plus} {before} {build} pair limit inner has tokens from mid between next sp c e deep d t = record {
  spelled =
      spells_as tokens from next (λ rest. before ++ C.spell c (D.spell d rest)) (S.spell (build (c, d)))
      (spells_more tokens from mid next (λ rest. before ++ rest) (λ rest. C.spell c (D.spell d rest)) sp
      (spells_more tokens mid between next (C.spell c) (D.spell d) e.spelled t.spelled))
      (λ rest. sym (pair.production.spelled (c, d) rest));
  took = pair_took pair limit inner has c e.exactly d (kind_or_end tokens next) deep t.took;
}

-- the tokens of a part fit, whichever of them is refused
abbrev pub FitsAll : (Kinds → Type 0) → List Token → ℕ → Type 0
FitsAll Fit tokens mid = (front : Kinds) (at : ℕ) → Spells tokens mid at (λ rest. front ++ rest)
    → (following : Kinds) → Near (kind_or_end tokens at) following → Fit (front ++ following)

-- the one part was refused
pub single_stops : {S D : Class} {plus : ℕ} {before : Kinds} {build : D.Tree → S.Tree} {Fit : Kinds
    → Type 0} (single : Single S D plus before build Fit) (limit inner : ℕ) → HasPlace single limit inner
    → (tokens : List Token) (from mid : ℕ) → Spells tokens from mid (λ rest. before ++ rest) → FitsAll Fit tokens mid
    → (s : Stop) → Stops D inner tokens mid s → Stops S limit tokens from s
single_stops {S} {D} {plus} {before} {build} {Fit} single limit inner has tokens from mid sp fits s r =
    stops_in S D limit inner tokens from mid before sp (λ front at deep here x.
    single_refused single limit inner has front (kind_or_end tokens at) deep (fits front at here) x) s r

-- the one part was taken
pub single_stands : {S D : Class} {plus : ℕ} {before : Kinds} {build : D.Tree → S.Tree} {Fit : Kinds
    → Type 0} (single : Single S D plus before build Fit) (limit inner : ℕ) → HasPlace single limit inner
    → (tokens : List Token) (from mid next : ℕ) → Spells tokens from mid (λ rest. before ++ rest)
    → (deep : Bool) (part : D.Tree) → ((following : Kinds) → Near (kind_or_end tokens next) following → Fit (D.spell part following))
    → Standing D inner tokens mid next deep part → Standing S limit tokens from next deep (build part)
single_stands {S} {D} {plus} {before} {build} {Fit} single limit inner has tokens from mid next sp deep part fits t = record {
  spelled =
      spells_as tokens from next (λ rest. before ++ D.spell part rest) (S.spell (build part))
      (spells_more tokens from mid next (λ rest. before ++ rest) (D.spell part) sp t.spelled)
      (λ rest. sym (single.production.spelled part rest));
  took = single_took single limit inner has part (kind_or_end tokens next) deep fits t.took;
}

-- the same where any tokens fit
pub no_fits : (tokens : List Token) (mid : ℕ) → FitsAll (λ rest. Unit {0}) tokens mid
no_fits tokens mid = λ front at here following near. tt

-- a phrase that is determined by its tokens was taken
pub exactly_stands : (C : Class) (limit : ℕ) (tokens : List Token) (from next : ℕ) (tree : C.Tree) → StandingExactly C limit tokens from next tree
    → Standing C limit tokens from next false tree
exactly_stands C limit tokens from next tree e = record { spelled = e.spelled; took = exact_took C limit tree e.exactly (kind_or_end tokens next) }

-- the token that closes phrases of a class may follow each of them
abbrev pub Closing : Class → TokenKind → Type 0
Closing D close = (part : D.Tree) (more : Kinds) → D.Shut part (close ∷ more)

-- a phrase was refused before the token that closes it
pub closed_stops : (D : Class) (close : TokenKind) → Lawful D → Closing D close
    → (limit : ℕ) (tokens : List Token) (from : ℕ) (s : Stop) → Stops D limit tokens from s → Stops (ClosedBy D close) limit tokens from s
closed_stops D close law shut limit tokens from s r =
    stops_pass (ClosedBy D close) D limit limit tokens from (λ front at deep here x.
    closed_refused D close limit law shut front (kind_or_end tokens at) deep x) s r

-- the token that closes it doesn't follow a phrase
pub closed_missing : (D : Class) (close : TokenKind) → Lawful D → Closing D close
    → (limit : ℕ) (tokens : List Token) (from next : ℕ) (scope : Scope) (tree : D.Tree) (s : Stop) → Standing D limit tokens from next false tree
    → (kind_or_end tokens next ≡ close → ⊥) → IsPlainStop scope tokens next s → Stops (ClosedBy D close) limit tokens from s
closed_missing D close law shut limit tokens from next scope tree s t other is =
    stops_plain (ClosedBy D close) limit tokens from next scope (D.spell tree []) s (front_of D law tokens from next tree t.spelled) is
    (closed_wrong D close limit law shut tree (kind_or_end tokens next) false t.took other)

-- it follows the phrase
pub closed_stands : (D : Class) (close : TokenKind) → Closing D close → (close ≡ token.Attribute → ⊥)
    → (limit : ℕ) (tokens : List Token) (from next : ℕ) (tree : D.Tree) → Standing D limit tokens from next false tree
    → kind_or_end tokens next ≡ close → StandingExactly (ClosedBy D close) limit tokens from (next + 1) tree
closed_stands D close shut some limit tokens from next tree t k = record {
  spelled = spells_more tokens from next (next + 1) (D.spell tree) (λ rest. close ∷ rest) t.spelled (spells_one tokens next close k some);
  exactly = closed_exact D close limit shut tree false (subst (λ (x : TokenKind). Took D limit tree x false) k t.took);
}
