-- The numbers of paths before and after one is set: for the contract of `Inputs::set`.
use Rattle.std.proofs.Common.{◌≡◌, ◌≢◌, ℕ, List, subst, sym, ap, refl, false}
use Rattle.std.specs.Prelude.{ℤ, pos, Option, unwrap_or, Result, Ok, Err, OnOk, OnErr, MatchResult}
use Rattle.std.specs.BTreeMap.{insert_entry}
use Rattle.std.specs.Ordering.{is_eq}
use Rattle.std.specs.declared.cmp.Ordering.{Ordering}
use Rattle.std.specs.declared.cmp.Ordering.TheVariants.{Less, Equal, Greater}
use Rattle.cs_inputs.specs.declared.path.Path.{Path}
use Rattle.cs_inputs.specs.PathOrder.{path_order}
use Rattle.cs_inputs.specs.Inputs.{IsInOrder, number_at}
use Rattle.cs_inputs.proofs.PathOrderLaws.{path_order-total, path_order-tie}
use Rattle.cs_inputs.proofs.SortedEntries.{lookup_here, lookup_elsewhere, insert-sorted}

not_tied : (r : Ordering) → (r ≡ Equal → ⊥) → is_eq r ≡ false
not_tied Less h = refl
not_tied Equal h = absurd (h refl)
not_tied Greater h = refl

pub number_at-here : (entries : List (Path × ℤ)) (path : Path) (number : ℤ) → number_at (insert_entry path_order entries path number) path ≡ number
number_at-here entries path number = ap (λ (o : Option ℤ). unwrap_or o (pos 0)) (lookup_here path_order-total entries path number)

pub number_at-elsewhere : (entries : List (Path × ℤ)) (path : Path) (number : ℤ) (q : Path) → q ≢ path
    → number_at (insert_entry path_order entries path number) q ≡ number_at entries q
number_at-elsewhere entries path number q n =
    ap (λ (o : Option ℤ). unwrap_or o (pos 0))
    (lookup_elsewhere path_order-total entries path q number (not_tied (path_order q path) (λ e. n (path_order-tie q path e))))

pub in_order_after : (entries : List (Path × ℤ)) (path : Path) (number : ℤ) → IsInOrder entries
    → IsInOrder (insert_entry path_order entries path number)
in_order_after entries path number h = insert-sorted path_order-total entries path number h

-- what follows if a call succeeds
pub then_OnOk : {T E : Type 0} {P Q : Type 0} (r : Result T E) → OnOk r P → (P → Q) → OnOk r Q
then_OnOk (Ok x) p f = f p
then_OnOk (Err e) p f = tt

-- entries remain in order, whether a path was set or refused
pub in_order_either : {T E : Type 0} (r : Result T E) (old new : List (Path × ℤ)) (path : Path) (number : ℤ) → IsInOrder old
    → OnOk r (new ≡ insert_entry path_order old path number) → OnErr r (new ≡ old) → IsInOrder new
in_order_either (Ok x) old new path number h ok err = subst IsInOrder (sym ok) (in_order_after old path number h)
in_order_either (Err e) old new path number h ok err = subst IsInOrder (sym err) h

-- the result of a search among entries in order
pub place_from_search : (r : Result ℕ ℕ) (P Q : ℕ → Type 0) (N : Type 0) → N → MatchResult r P (λ i. N → Q i) → MatchResult r P Q
place_from_search (Ok i) P Q N n h = h
place_from_search (Err i) P Q N n h = h n
