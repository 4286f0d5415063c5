-- A name that isn't among some tokens, and what the last token implies: for the contracts of `last_joint` and `new_name`.
use Rattle.std.proofs.Common.{◌≡◌, ◌∙◌, sym, ℕ, suc, ◌+◌, ◌-◌, ◌<◌, ◌≤◌, max, List, [], ◌∷◌, Some, length, replicate}
use Rattle.std.proofs.Common.{slice_get, get_or, drop, drop-cons, add-one, ap, subst, arith}
use Rattle.std.proofs.lemmas.List.{length-replicate}
use Rattle.std.proofs.lemmas.Grind.{common_steps}
use Rattle.std.specs.Ordering.{ord_max, nat_cmp}
use Rattle.cs_ast.specs.declared.token.Token.{Token}
use Rattle.cs_ast.specs.declared.token.TokenKind.{TokenKind}
use Rattle.cs_ast.specs.declared.token.TokenKind.TheVariants as token
use Rattle.cs_grammar.specs.Text.{Kinds}
use Rattle.cs_unsupported.specs.declared.declarators.Joint.{Joint}
use Rattle.cs_unsupported.specs.Readings.{kinds}
use Rattle.cs_unsupported.specs.Declarators.{joint_after, ending, IsNew, IsNameWithin, AreNamesWithin}

-- the greater of two lengths
pub max_is : (a b : ℕ) → ord_max nat_cmp a b ≡ max a b
max_is a b = grind (arith, common_steps)

-- what the last token implies
pub ending_last : (tokens : List Token) (t : Token) (j : Joint) → slice_get tokens (length tokens - 1) ≡ Some t
    → ending (kinds tokens) j ≡ joint_after t.kind
ending_last [] t j e = absurd cc
ending_last (u ∷ []) t j e =
    let same : u ≡ t = cc in
    ap (λ (x : Token). joint_after x.kind) same
ending_last (u ∷ v ∷ tokens) t j e =
    let most : length (u ∷ v ∷ tokens) - 1 ≡ suc (length (v ∷ tokens) - 1) = omega arith in
    ending_last (v ∷ tokens) t (joint_after u.kind) (sym (ap (slice_get (u ∷ v ∷ tokens)) most) ∙ e)

longer_name : (most : ℕ) (name : List ℕ) (kind : TokenKind) → IsNameWithin most kind → most < length name → kind ≡ token.Name name → ⊥
longer_name most name (token.Name other) within long e =
    let same : other ≡ name = cc in
    let l = ap length same in
    omega (arith, within, long, l)
longer_name most name (token.Keyword k) within long e = cc
longer_name most name (token.Unsupported w) within long e = cc
longer_name most name token.Attribute within long e = cc
longer_name most name (token.Number n) within long e = cc
longer_name most name (token.Character v) within long e = cc
longer_name most name (token.Text b) within long e = cc
longer_name most name (token.Punctuator m) within long e = cc

-- a longer name is new
pub longer_new : (most : ℕ) (name : List ℕ) (ks : Kinds) → AreNamesWithin most ks → most < length name → IsNew name ks
longer_new most name [] within long = tt
longer_new most name (k ∷ ks) within long = (longer_name most name k within.0 long, longer_new most name ks within.1 long)

pub kind_within : (less most : ℕ) (kind : TokenKind) → less ≤ most → IsNameWithin less kind → IsNameWithin most kind
kind_within less most (token.Name name) l within = omega (arith, l, within)
kind_within less most (token.Keyword k) l within = tt
kind_within less most (token.Unsupported w) l within = tt
kind_within less most token.Attribute l within = tt
kind_within less most (token.Number n) l within = tt
kind_within less most (token.Character v) l within = tt
kind_within less most (token.Text b) l within = tt
kind_within less most (token.Punctuator m) l within = tt

pub kinds_within : (less most : ℕ) (ks : Kinds) → less ≤ most → AreNamesWithin less ks → AreNamesWithin most ks
kinds_within less most [] l within = tt
kinds_within less most (k ∷ ks) l within = (kind_within less most k l within.0, kinds_within less most ks l within.1)

-- one more of the remaining tokens
pub item_within : (most i : ℕ) (tokens : List Token) (t : Token) → i < length tokens → t ≡ get_or tokens i t → IsNameWithin most t.kind
    → AreNamesWithin most (kinds (drop (i + 1) tokens)) → AreNamesWithin most (kinds (drop i tokens))
item_within most i tokens t within read first others =
    let there : drop i tokens ≡ t ∷ drop (i + 1) tokens = drop-cons tokens i t within ∙ ap (λ (x : Token). x ∷ drop (suc i) tokens) (sym read)
    ∙ ap (λ (j : ℕ). t ∷ drop j tokens) (sym (add-one i)) in
    subst (λ (x : List Token). AreNamesWithin most (kinds x)) (sym there) (first, others)

-- the sum of the lengths of the names among the tokens
abbrev limit : Kinds → ℕ
limit [] = 0
limit (token.Name name ∷ ks) = length name + limit ks
limit (k ∷ ks) = limit ks

first_within : (k : TokenKind) (ks : Kinds) → IsNameWithin (limit (k ∷ ks)) k
first_within (token.Name name) ks = omega arith
first_within (token.Keyword k) ks = tt
first_within (token.Unsupported w) ks = tt
first_within token.Attribute ks = tt
first_within (token.Number n) ks = tt
first_within (token.Character v) ks = tt
first_within (token.Text b) ks = tt
first_within (token.Punctuator m) ks = tt

limit_grows : (k : TokenKind) (ks : Kinds) → limit ks ≤ limit (k ∷ ks)
limit_grows (token.Name name) ks = omega arith
limit_grows (token.Keyword k) ks = omega arith
limit_grows (token.Unsupported w) ks = omega arith
limit_grows token.Attribute ks = omega arith
limit_grows (token.Number n) ks = omega arith
limit_grows (token.Character v) ks = omega arith
limit_grows (token.Text b) ks = omega arith
limit_grows (token.Punctuator m) ks = omega arith

all_within : (ks : Kinds) → AreNamesWithin (limit ks) ks
all_within [] = tt
all_within (k ∷ ks) = (first_within k ks, kinds_within (limit ks) (limit (k ∷ ks)) ks (limit_grows k ks) (all_within ks))

-- some name is new
pub some_new : (ks : Kinds) → (new : List ℕ) × IsNew new ks
some_new ks =
    let zero' : ℕ = 0 in
    let n = length-replicate (suc (limit ks)) zero' in
    (replicate (suc (limit ks)) zero', longer_new (limit ks) (replicate (suc (limit ks)) zero') ks (all_within ks) (omega (arith, n)))
