-- Lists that grow at their end: for the loops of every parser of declarations, statements and files.
use Rattle.std.proofs.Common.{◌≡◌, ℕ, Bool, true, false, [], ◌∷◌, ◌++◌, sym, ◌∙◌, subst}
use Rattle.cs_ast.specs.declared.token.TokenKind.{TokenKind}
use Rattle.cs_grammar.specs.Text.{Kinds}
use Rattle.cs_grammar.specs.Parsing.{Class, Near, Took, Refused, Exactly}
use Rattle.cs_grammar.proofs.Holes.{Lawful, splits, Tail, tail_refused, tail_took, exact_took}
use Rattle.cs_grammar.proofs.Tails.{tail_start, tail_then, tail_as}
use Rattle.cs_grammar.proofs.Rows.{Listing, row_tail, row_refused}
use Rattle.cs_grammar.proofs.Sequences.{took_exact}

-- lists can be appended, and a list has tokens without those that close it
pub record Growing (L C : Class) (all : Listing L C) : Type 0 where
  pub append : L.Tree → L.Tree → L.Tree
  pub row_text : L.Tree → Kinds → Kinds
  pub append_more : (done : L.Tree) (c : C.Tree) (rest : L.Tree) → append (append done (all.more c all.none)) rest ≡ append done (all.more c rest)
  pub append_none : (done : L.Tree) → append done all.none ≡ done
  pub none_append : (rest : L.Tree) → append all.none rest ≡ rest
  pub none_text : (x : Kinds) → row_text all.none x ≡ x
  pub text_more : (done : L.Tree) (c : C.Tree) (x : Kinds) → row_text (append done (all.more c all.none)) x ≡ row_text done (C.spell c x)
  pub row_append : (done : L.Tree) (x y : Kinds) → row_text done x ++ y ≡ row_text done (x ++ y)
  pub law : Lawful L

-- the list so far was taken, and what fits may follow it
abbrev pub GrownSoFar : {L C : Class} {all : Listing L C} → Growing L C all → ℕ → L.Tree → (Kinds → Type 0) → Type 0
GrownSoFar {L} grow limit done Fit = Tail L L limit limit (grow.row_text done []) (grow.append done) Fit

-- nothing was taken so far
pub grown_none : {L C : Class} {all : Listing L C} (grow : Growing L C all) (limit : ℕ) → GrownSoFar grow limit all.none (λ rest. Unit {0})
grown_none {L} {C} {all} grow limit =
    tail_as L L limit limit [] (grow.row_text all.none []) (λ rest. rest) (grow.append all.none) (λ rest. Unit {0}) (λ rest. Unit {0}) (tail_start L limit)
    (sym (grow.none_text [])) (λ rest. sym (grow.none_append rest)) (λ following fit. tt)

-- one more phrase was taken
pub grown_more : {L C : Class} {all : Listing L C} (grow : Growing L C all) (limit : ℕ) (done : L.Tree) (Fit : Kinds → Type 0)
    → GrownSoFar grow limit done Fit → (c : C.Tree) (next : TokenKind) (deep : Bool) → Took C limit c next deep
    → (deep ≡ true → C.Shut c (next ∷ [])) → ((following : Kinds) → Near next following → Fit (C.spell c following))
    → GrownSoFar grow limit (grow.append done (all.more c all.none)) (Near next)
grown_more {L} {C} {all} grow limit done Fit so_far c next deep t settled fits =
    tail_as L L limit limit (grow.row_text done [] ++ C.spell c []) (grow.row_text (grow.append done (all.more c all.none)) [])
    (λ rest. grow.append done (all.more c rest)) (grow.append (grow.append done (all.more c all.none))) (Near next) (Near next)
    (tail_then L L L limit limit limit (grow.row_text done []) (C.spell c []) (grow.append done) (all.more c) Fit (Near next) grow.law so_far
    (row_tail L C limit all c next deep t settled) (λ following near. subst Fit (splits C all.law c following) (fits following near)))
    (grow.row_append done [] (C.spell c []) ∙ sym (grow.text_more done c []))
    (λ rest. sym (grow.append_more done c rest)) (λ following fit. fit)

-- a phrase of the list was refused, and the refused tokens don't end the list
pub grown_refused : {L C : Class} {all : Listing L C} (grow : Growing L C all) (limit : ℕ) (done : L.Tree) (Fit : Kinds → Type 0)
    → GrownSoFar grow limit done Fit → (front : Kinds) (next : TokenKind) (deep : Bool)
    → ((following : Kinds) → Near next following → Fit (front ++ following))
    → ((after following : Kinds) → L.Shut all.none after → Near next following → L.spell all.none after ≡ front ++ following → ⊥)
    → Refused C limit front next deep → Refused L limit (grow.row_text done [] ++ front) next deep
grown_refused {L} {C} {all} grow limit done Fit so_far front next deep fits unended r =
    tail_refused L L limit limit (grow.row_text done []) (grow.append done) Fit grow.law so_far front next deep fits
    (row_refused L C limit all front next deep unended r)

-- the list ends
pub grown_took : {L C : Class} {all : Listing L C} (grow : Growing L C all) (limit : ℕ) (done : L.Tree) (Fit : Kinds → Type 0)
    → GrownSoFar grow limit done Fit → ((following : Kinds) → Fit (L.spell all.none following)) → Exactly L limit all.none
    → (next : TokenKind) → Took L limit done next false
grown_took {L} {C} {all} grow limit done Fit so_far fits x next =
    subst (λ (w : L.Tree). Took L limit w next false) (grow.append_none done)
    (tail_took L L limit limit (grow.row_text done []) (grow.append done) Fit grow.law so_far all.none next false (λ following near. fits following)
    (exact_took L limit all.none x next))

-- the same, whatever follows, if any token may follow
pub grown_exact : {L C : Class} {all : Listing L C} (grow : Growing L C all) (limit : ℕ) (done : L.Tree) (Fit : Kinds → Type 0)
    → GrownSoFar grow limit done Fit → ((following : Kinds) → Fit (L.spell all.none following)) → Exactly L limit all.none
    → ((other : L.Tree) (after : Kinds) → L.Shut other after) → (some : TokenKind) → Exactly L limit done
grown_exact {L} grow limit done Fit so_far fits x shut some = took_exact L limit done (grown_took grow limit done Fit so_far fits x) shut some
