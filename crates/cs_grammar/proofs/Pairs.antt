-- Productions of two parts: for the contracts of every parser of declarations, statements and files. Each return of a function
-- that parses two parts is covered by one of these lemmas.
use Rattle.std.proofs.Common.{◌≡◌, ℕ, ◌+◌, ◌≤◌, Bool, true, [], ◌∷◌, ◌++◌, arith}
use Rattle.cs_ast.specs.declared.token.TokenKind.{TokenKind}
use Rattle.cs_grammar.specs.Text.{Kinds}
use Rattle.cs_grammar.specs.Parsing.{Class, Near, Took, Refused, Exactly}
use Rattle.cs_grammar.specs.Composed.{Sequence}
use Rattle.cs_grammar.proofs.Holes.{Lawful}
use Rattle.cs_grammar.proofs.Tails.{first_or, Least, Production}
use Rattle.cs_grammar.proofs.Sequences.{Joins, sequence_law, sequence_least, first_refused, second_wrong, exact_then_refused, exact_then_took, then_refused}
use Rattle.cs_grammar.proofs.Sequences.{then_took, made_refused, made_took}

-- phrases of S consist of these tokens, one of C and one of D
pub record Pair (S C D : Class) (plus : ℕ) (before : Kinds) (build : C.Tree × D.Tree → S.Tree) : Type 0 where
  pub production : Production S (Sequence C D) plus before build (λ rest. Unit {0})
  pub law_first : Lawful C
  pub law_second : Lawful D
  pub joins : Joins C D
  pub least_first : Least C
  pub least_second : Least D

-- the limit allows the lowest phrases of both
abbrev pub HasLimit : {S C D : Class} {plus : ℕ} {before : Kinds} {build : C.Tree × D.Tree → S.Tree} → Pair S C D plus before build → ℕ → ℕ
    → Type 0
HasLimit {S} {C} {D} {plus} pair limit inner = (limit ≡ plus + inner) × (C.tall pair.least_first.tree ≤ inner) × (D.tall pair.least_second.tree ≤ inner)

made : {S C D : Class} {plus : ℕ} {before : Kinds} {build : C.Tree × D.Tree → S.Tree} (pair : Pair S C D plus before build) (limit inner : ℕ)
    → HasLimit pair limit inner → (front : Kinds) (next : TokenKind) (deep : Bool) → Refused (Sequence C D) inner front next deep
    → Refused S limit (before ++ front) next deep
made {S} {C} {D} {plus} {before} {build} pair limit inner has front next deep r =
    made_refused S (Sequence C D) plus before build (λ rest. Unit {0}) limit inner has.0 pair.production
    (sequence_least C D pair.least_first pair.least_second) (let a = has.1 in let b = has.2 in
    omega (arith, a, b)) (sequence_law C D pair.law_first pair.law_second) front next deep (λ following near. tt) r

-- the first part was refused
pub pair_first_refused : {S C D : Class} {plus : ℕ} {before : Kinds} {build : C.Tree × D.Tree
    → S.Tree} (pair : Pair S C D plus before build) (limit inner : ℕ) → HasLimit pair limit inner
    → (front : Kinds) (next : TokenKind) (deep : Bool) → Refused C inner front next deep → Refused S limit (before ++ front) next deep
pair_first_refused {S} {C} {D} pair limit inner has front next deep r =
    made pair limit inner has front next deep (first_refused C D inner pair.law_first pair.joins pair.least_second has.2 front next deep r)

-- the first part was taken before a token with which no second part begins
pub pair_wrong : {S C D : Class} {plus : ℕ} {before : Kinds} {build : C.Tree × D.Tree → S.Tree} (pair : Pair S C D plus before build) (limit inner : ℕ)
    → HasLimit pair limit inner → (c : C.Tree) (next : TokenKind) (deep : Bool) → Took C inner c next deep
    → ((d : D.Tree) (after : Kinds) → D.Is d → D.spell d after ≡ [] → ⊥)
    → ((d : D.Tree) (after more : Kinds) → D.Is d → D.spell d after ≡ next ∷ more → ⊥) → Refused S limit (before ++ C.spell c []) next deep
pair_wrong {S} {C} {D} pair limit inner has c next deep t some none =
    made pair limit inner has (C.spell c []) next deep (second_wrong C D inner pair.law_first pair.joins pair.least_second has.2 c next deep t some none)

-- the first part was taken, whatever follows it, and the second refused
pub pair_second_refused : {S C D : Class} {plus : ℕ} {before : Kinds} {build : C.Tree × D.Tree
    → S.Tree} (pair : Pair S C D plus before build) (limit inner : ℕ) → HasLimit pair limit inner → (c : C.Tree) → Exactly C inner c
    → (front : Kinds) (next : TokenKind) (deep : Bool) → Refused D inner front next deep → Refused S limit (before ++ (C.spell c [] ++ front)) next deep
pair_second_refused {S} {C} {D} pair limit inner has c e front next deep r =
    made pair limit inner has (C.spell c [] ++ front) next deep
    (exact_then_refused C D inner pair.law_first pair.law_second pair.least_second has.2 c e front next deep r)

-- the same if the first part was taken before a token that may follow it
pub pair_then_refused : {S C D : Class} {plus : ℕ} {before : Kinds} {build : C.Tree × D.Tree
    → S.Tree} (pair : Pair S C D plus before build) (limit inner : ℕ) → HasLimit pair limit inner
    → (c : C.Tree) (first : TokenKind) (deep : Bool) → Took C inner c first deep → (deep ≡ true → C.Shut c (first ∷ []))
    → (front : Kinds) (next : TokenKind) (deep' : Bool) → first_or front next ≡ first → Refused D inner front next deep'
    → Refused S limit (before ++ (C.spell c [] ++ front)) next deep'
pair_then_refused {S} {C} {D} pair limit inner has c first deep t settled front next deep' starts r =
    made pair limit inner has (C.spell c [] ++ front) next deep'
    (then_refused C D inner pair.law_first pair.law_second pair.joins pair.least_second has.2 c first deep t settled front next deep' starts r)

took : {S C D : Class} {plus : ℕ} {before : Kinds} {build : C.Tree × D.Tree → S.Tree} (pair : Pair S C D plus before build) (limit inner : ℕ)
    → HasLimit pair limit inner → (part : C.Tree × D.Tree) (next : TokenKind) (deep : Bool) → Took (Sequence C D) inner part next deep
    → Took S limit (build part) next deep
took {S} {C} {D} {plus} {before} {build} pair limit inner has part next deep t =
    made_took S (Sequence C D) plus before build (λ rest. Unit {0}) limit inner has.0 pair.production (sequence_least C D pair.least_first pair.least_second)
    (let a = has.1 in let b = has.2 in omega (arith, a, b)) (sequence_law C D pair.law_first pair.law_second) part next deep (λ following near. tt) t

-- both parts were taken
pub pair_took : {S C D : Class} {plus : ℕ} {before : Kinds} {build : C.Tree × D.Tree → S.Tree} (pair : Pair S C D plus before build) (limit inner : ℕ)
    → HasLimit pair limit inner → (c : C.Tree) → Exactly C inner c → (d : D.Tree) (next : TokenKind) (deep : Bool) → Took D inner d next deep
    → Took S limit (build (c, d)) next deep
pair_took {S} {C} {D} pair limit inner has c e d next deep t =
    took pair limit inner has (c, d) next deep (exact_then_took C D inner pair.law_first pair.law_second pair.least_second has.2 c e d next deep t)

-- the same if the first part was taken before a token that may follow it
pub pair_then_took : {S C D : Class} {plus : ℕ} {before : Kinds} {build : C.Tree × D.Tree
    → S.Tree} (pair : Pair S C D plus before build) (limit inner : ℕ) → HasLimit pair limit inner
    → (c : C.Tree) (first : TokenKind) (deep : Bool) → Took C inner c first deep → (deep ≡ true → C.Shut c (first ∷ []))
    → (d : D.Tree) (next : TokenKind) (deep' : Bool) → first_or (D.spell d []) next ≡ first → Took D inner d next deep'
    → Took S limit (build (c, d)) next deep'
pair_then_took {S} {C} {D} pair limit inner has c first deep t settled d next deep' starts t' =
    took pair limit inner has (c, d) next deep'
    (then_took C D inner pair.law_first pair.law_second pair.joins pair.least_second has.2 c first deep t settled d next deep' starts t')

-- phrases of S consist of these tokens and one of D
pub record Single (S D : Class) (plus : ℕ) (before : Kinds) (build : D.Tree → S.Tree) (Fit : Kinds → Type 0) : Type 0 where
  pub production : Production S D plus before build Fit
  pub law : Lawful D
  pub least : Least D

-- the limit allows the lowest of them
abbrev pub HasPlace : {S D : Class} {plus : ℕ} {before : Kinds} {build : D.Tree → S.Tree} {Fit : Kinds → Type 0} → Single S D plus before build Fit
    → ℕ → ℕ → Type 0
HasPlace {S} {D} {plus} single limit inner = (limit ≡ plus + inner) × (D.tall single.least.tree ≤ inner)

-- the part was refused
pub single_refused : {S D : Class} {plus : ℕ} {before : Kinds} {build : D.Tree → S.Tree} {Fit : Kinds
    → Type 0} (single : Single S D plus before build Fit) (limit inner : ℕ) → HasPlace single limit inner
    → (front : Kinds) (next : TokenKind) (deep : Bool) → ((following : Kinds) → Near next following → Fit (front ++ following))
    → Refused D inner front next deep → Refused S limit (before ++ front) next deep
single_refused {S} {D} {plus} {before} {build} {Fit} single limit inner has front next deep fit r =
    made_refused S D plus before build Fit limit inner has.0 single.production single.least has.1 single.law front next deep fit r

-- the part was taken
pub single_took : {S D : Class} {plus : ℕ} {before : Kinds} {build : D.Tree → S.Tree} {Fit : Kinds
    → Type 0} (single : Single S D plus before build Fit) (limit inner : ℕ) → HasPlace single limit inner
    → (part : D.Tree) (next : TokenKind) (deep : Bool) → ((following : Kinds) → Near next following → Fit (D.spell part following))
    → Took D inner part next deep → Took S limit (build part) next deep
single_took {S} {D} {plus} {before} {build} {Fit} single limit inner has part next deep fit t =
    made_took S D plus before build Fit limit inner has.0 single.production single.least has.1 single.law part next deep fit t
