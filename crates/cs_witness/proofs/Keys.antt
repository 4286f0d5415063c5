-- The keys of inputs after a path was set. For the contracts of `listing` and of `copies`.
use Rattle.std.proofs.Common.{◌≡◌, ℕ, zero, suc, ◌+◌, ◌<◌, ℤ, List, [], ◌∷◌, ◌++◌, length, take, drop, get_or, inl, inr, ◌⊎◌}
use Rattle.std.proofs.Common.{refl, sym, ap, ◌∙◌, subst, arith}
use Rattle.std.specs.Prelude.{All, Contains, ◌↔◌}
use Rattle.std.specs.Map.{keys_of}
use Rattle.std.specs.BTreeMap.{insert_entry}
use Rattle.std.specs.List.Sorted.{IsStrictlySortedBy, IsPartitionPoint}
use Rattle.std.specs.Ordering.{match_ordering, ordering_reverse}
use Rattle.std.specs.declared.cmp.Ordering.{Ordering}
use Rattle.std.specs.declared.cmp.Ordering.TheVariants.{Less, Equal, Greater}
use Rattle.std.proofs.lemmas.List.{length-take, take_more, get_or-map, get_or-take, map-append, take-map}
use Rattle.std.proofs.lemmas.List.Elements.{All-cons, All-contains, All-contains_itself, Contains-append_left, Contains-append_right, Contains-append_cases}
use Rattle.std.proofs.lemmas.Map.Views.{All-keys-insert_entry}
use Rattle.std.proofs.lemmas.Map.Keys.{Less-from_sorted}
use Rattle.std.proofs.lemmas.Map.Entries.{length-keys_of}
use Rattle.cs_inputs.specs.declared.path.Path.{Path}
use Rattle.cs_inputs.specs.PathOrder.{path_order}
use Rattle.cs_inputs.specs.Inputs.{IsInOrder, number_at}
use Rattle.cs_inputs.proofs.PathOrderLaws.{path_order-total, path_order-tie}
use Rattle.cs_inputs.proofs.SortedEntries.{insert_missed}
use Rattle.cs_inputs.proofs.InputNumbers.{number_at-here, number_at-elsewhere, in_order_after}
use Rattle.cs_witness.specs.Listing.{AgreesWith, Adds}

head : {K : Type 0} (P : K → Type 0) (x : K) (xs : List K) → All P (x ∷ xs) → P x
head P x xs all = all 0 x (omega arith)

tail : {K : Type 0} (P : K → Type 0) (x : K) (xs : List K) → All P (x ∷ xs) → All P xs
tail P x xs all k d there = all (suc k) d (omega arith)

module _ {K X : Type 0} {R : K → K → Ordering} (tie : (x y : K) → R x y ≡ Equal → x ≡ y) (P : K → Type 0) where
  -- what holds for the keys after an insertion held for those before, and holds for the new one
  held : (es : List (K × X)) (k : K) (v : X) → All P (keys_of (insert_entry R es k v)) → All P (keys_of es) × P k
  held [] k v all = (λ i d there. absurd (omega arith), head P k [] all)
  held (f ∷ fs) k v all = at (R k f.0) refl (held fs k v) all
    where
      at : (r : Ordering) → R k f.0 ≡ r → (All P (keys_of (insert_entry R fs k v)) → All P (keys_of fs) × P k)
          → All P (keys_of (match_ordering r ((k, v) ∷ f ∷ fs) ((f.0, v) ∷ fs) (f ∷ insert_entry R fs k v))) → All P (keys_of (f ∷ fs)) × P k
      at Less is inner all = (tail P k (f.0 ∷ keys_of fs) all, head P k (f.0 ∷ keys_of fs) all)
      at Equal is inner all = (all, subst P (sym (tie k f.0 is)) (head P f.0 (keys_of fs) all))
      at Greater is inner all =
          let rest = inner (tail P f.0 (keys_of (insert_entry R fs k v)) all) in
          (All-cons P f.0 (keys_of fs) (head P f.0 (keys_of (insert_entry R fs k v)) all) rest.0, rest.1)

-- the only item of a list
only : {A : Type 0} (x y : A) → Contains (x ∷ []) y → x ≡ y
only x y (zero, before, is) = is
only x y (suc k, before, is) = absurd (omega arith)

module _ (entries : List (Path × ℤ)) (path : Path) (number : ℤ) where
  abbrev Set : List (Path × ℤ)
  Set = insert_entry path_order entries path number

  pub keys_set : (q : Path) → Contains (keys_of Set) q ↔ (Contains (keys_of entries) q ⊎ Contains (path ∷ []) q)
  keys_set q = (forth, back)
    where
      kept : (Q : Path → Type 0) → All Q (keys_of Set) → All Q (keys_of entries) × Q path
      kept Q all = held path_order-tie Q entries path number all

      forth : Contains (keys_of Set) q → Contains (keys_of entries) q ⊎ Contains (path ∷ []) q
      forth here =
          let before : All (λ p. Contains (keys_of entries) p ⊎ Contains (path ∷ []) p) (keys_of entries) =
          λ k d there. inl (All-contains_itself (keys_of entries) k d there) in
          let new : Contains (path ∷ []) path = (0, omega arith, refl) in
          All-contains (λ p. Contains (keys_of entries) p ⊎ Contains (path ∷ []) p) (keys_of Set) q
          (All-keys-insert_entry path_order path number (λ p. Contains (keys_of entries) p ⊎ Contains (path ∷ []) p) entries before (inr new)) here

      back : (Contains (keys_of entries) q ⊎ Contains (path ∷ []) q) → Contains (keys_of Set) q
      back (inl here) =
          let all = kept (Contains (keys_of Set)) (All-contains_itself (keys_of Set)) in
          All-contains (Contains (keys_of Set)) (keys_of entries) q all.0 here
      back (inr here) =
          let all = kept (Contains (keys_of Set)) (All-contains_itself (keys_of Set)) in
          subst (Contains (keys_of Set)) (only path q here) all.1

-- an order that is its own reverse is `Equal`
own_order : (r : Ordering) → r ≡ ordering_reverse r → r ≡ Equal
own_order Less e = absurd (cc)
own_order Equal e = refl
own_order Greater e = absurd (cc)

pub same_order : (q path : Path) → q ≡ path → path_order q path ≡ Equal
same_order q path e =
    subst (λ p. path_order q p ≡ Equal) e (own_order (path_order q q) (path_order-total.antisymm q q))

-- a path is set to the number that others have there
pub adds_one : (given old : List (Path × ℤ)) (path : Path) → Adds given (path ∷ []) old (insert_entry path_order old path (number_at given path))
adds_one given old path = record {
  listed = keys_set old path (number_at given path);
  agrees = λ agrees q here. at q agrees ((keys_set old path (number_at given path) q).0 here) (path_order q path) refl;
  in_order = in_order_after old path (number_at given path);
}
  where
    is_path : (q : Path) → path ≡ q → number_at (insert_entry path_order old path (number_at given path)) q ≡ number_at given q
    is_path q e =
        subst (λ p. number_at (insert_entry path_order old path (number_at given path)) p ≡ number_at given p) e
        (number_at-here old path (number_at given path))

    at : (q : Path) → AgreesWith given old → (Contains (keys_of old) q ⊎ Contains (path ∷ []) q) → (r : Ordering) → path_order q path ≡ r
        → number_at (insert_entry path_order old path (number_at given path)) q ≡ number_at given q
    at q agrees (inr here) r is = is_path q (only path q here)
    at q agrees (inl here) Equal is = is_path q (sym (path_order-tie q path is))
    at q agrees (inl here) Less is =
        number_at-elsewhere old path (number_at given path) q (λ e. let tied = sym is ∙ same_order q path e in cc) ∙ agrees q here
    at q agrees (inl here) Greater is =
        number_at-elsewhere old path (number_at given path) q (λ e. let tied = sym is ∙ same_order q path e in cc) ∙ agrees q here

pub adds_none : (given old : List (Path × ℤ)) → Adds given [] old old
adds_none given old = record {
  listed = λ path. (λ here. inl here, λ either. either_none either);
  agrees = λ agrees. agrees;
  in_order = λ ordered. ordered;
}
  where
    either_none : {path : Path} → (Contains (keys_of old) path ⊎ Contains [] path) → Contains (keys_of old) path
    either_none (inl here) = here
    either_none (inr here) = absurd (let before = here.1 in omega arith)

-- paths that are added after other ones
pub adds_then : (given : List (Path × ℤ)) (paths more : List Path) (old middle new : List (Path × ℤ)) → Adds given paths old middle
    → Adds given more middle new → Adds given (paths ++ more) old new
adds_then given paths more old middle new one other = record {
  listed = λ path. (
    λ here. forth path ((other.listed path).0 here),
    λ either. (other.listed path).1 (back path either),
  );
  agrees = λ agrees. other.agrees (one.agrees agrees);
  in_order = λ ordered. other.in_order (one.in_order ordered);
}
  where
    from_middle : (path : Path) → (Contains (keys_of old) path ⊎ Contains paths path) → Contains (keys_of old) path ⊎ Contains (paths ++ more) path
    from_middle path (inl here) = inl here
    from_middle path (inr here) = inr (Contains-append_left paths more path here)

    forth : (path : Path) → (Contains (keys_of middle) path ⊎ Contains more path) → Contains (keys_of old) path ⊎ Contains (paths ++ more) path
    forth path (inl here) = from_middle path ((one.listed path).0 here)
    forth path (inr here) = inr (Contains-append_right paths more path here)

    back_from : (path : Path) → (Contains paths path ⊎ Contains more path) → Contains (keys_of middle) path ⊎ Contains more path
    back_from path (inl here) = inl ((one.listed path).1 (inr here))
    back_from path (inr here) = inr here

    back : (path : Path) → (Contains (keys_of old) path ⊎ Contains (paths ++ more) path) → Contains (keys_of middle) path ⊎ Contains more path
    back path (inl here) = inl ((one.listed path).1 (inl here))
    back path (inr here) = back_from path (Contains-append_cases paths more path here)

-- inserting the next entry of an ordered list into its first entries puts it at their end
pub set_last : (entries : List (Path × ℤ)) (k : ℕ) (d : Path × ℤ) → IsInOrder entries → k < length entries
    → insert_entry path_order (take k entries) (get_or entries k d).0 (get_or entries k d).1 ≡ take (k + 1) entries
set_last entries k d ordered there =
    let e = get_or entries k d in
    let count : length (take k entries) ≡ k = length-take k entries ∙ omega arith in
    let less : (j : ℕ) (f : Path × ℤ) → j < k → path_order (get_or (take k entries) j f).0 e.0 ≡ Less = λ j f before.
    let keys = Less-from_sorted path_order (keys_of entries) j k d.0 ordered before (let n = length-keys_of entries in omega arith) in
    let low = get_or-map (λ (x : Path × ℤ). x.0) entries j f d.0 (omega arith) in
    let high = get_or-map (λ (x : Path × ℤ). x.0) entries k d d.0 there in
    let taken = get_or-take k entries j f before in
    (λ i. path_order (taken i).0 e.0) ∙ (λ i. path_order (sym low i) (sym high i)) ∙ keys in
    let point : IsPartitionPoint (λ (x : Path × ℤ). path_order x.0 e.0 ≡ Less) (λ (x : Path × ℤ).
    path_order x.0 e.0 ≡ Greater) (take k entries) (length (take k entries)) =
    (λ j f low high. less j f (omega arith), λ j f low high. absurd (omega arith)) in
    sym (insert_missed path_order-total (take k entries) e.0 e.1 (length (take k entries)) (omega arith) point)
    ∙ ap2_last (take k entries) (e.0, e.1)
    ∙ sym (take_more entries k d there)
  where
    ap2_last : {A : Type 0} (xs : List A) (x : A) → take (length xs) xs ++ x ∷ drop (length xs) xs ≡ xs ++ x ∷ []
    ap2_last [] x = refl
    ap2_last (y ∷ ys) x = ap (λ l. y ∷ l) (ap2_last ys x)

none_in_order : IsInOrder []
unfolding IsStrictlySortedBy
none_in_order = tt

-- parameters and read paths, added to no inputs
module _ (given : List (Path × ℤ)) (parameters read : List Path) (middle new : List (Path × ℤ)) (one : Adds given parameters [] middle)
    (other : Adds given read middle new) where
  from_parameters : (path : Path) → (Contains (keys_of {X = ℤ} []) path ⊎ Contains parameters path) → Contains parameters path ⊎ Contains read path
  from_parameters path (inl here) = absurd (let before = here.1 in omega arith)
  from_parameters path (inr here) = inl here

  forth_from : (path : Path) → (Contains (keys_of middle) path ⊎ Contains read path) → Contains parameters path ⊎ Contains read path
  forth_from path (inl here) = from_parameters path ((one.listed path).0 here)
  forth_from path (inr here) = inr here

  back_to : (path : Path) → (Contains parameters path ⊎ Contains read path) → Contains (keys_of new) path
  back_to path (inl here) = (other.listed path).1 (inl ((one.listed path).1 (inr here)))
  back_to path (inr here) = (other.listed path).1 (inr here)

  pub lists_just : (path : Path) → Contains (keys_of new) path ↔ (Contains parameters path ⊎ Contains read path)
  lists_just path = (λ here. forth_from path ((other.listed path).0 here), back_to path)

  pub lists_alike : AgreesWith given new
  lists_alike = other.agrees (one.agrees (λ path here. absurd (let before = here.1 in omega arith)))

  pub lists_in_order : IsInOrder new
  lists_in_order = other.in_order (one.in_order none_in_order)

-- the next path of two lists is the same
pub keys_more : (one other : List (Path × ℤ)) (i : ℕ) (a b : Path × ℤ) → i < length one → i < length other → a ≡ get_or one i a
    → b ≡ get_or other i b
    → a.0 ≡ b.0 → keys_of (take i one) ≡ keys_of (take i other) → keys_of (take (i + 1) one) ≡ keys_of (take (i + 1) other)
keys_more one other i a b below below' is is' same before =
    let mine : take (i + 1) one ≡ take i one ++ a ∷ [] = take_more one i a below ∙ ap (λ (e : Path × ℤ). take i one ++ e ∷ []) (sym is) in
    let its : take (i + 1) other ≡ take i other ++ b ∷ [] = take_more other i b below' ∙ ap (λ (e : Path × ℤ). take i other ++ e ∷ []) (sym is') in
    ap keys_of mine ∙ map-append (λ (e : Path × ℤ). e.0) (take i one) (a ∷ [])
    ∙ (λ j. before j ++ same j ∷ [])
    ∙ sym (ap keys_of its ∙ map-append (λ (e : Path × ℤ). e.0) (take i other) (b ∷ []))

-- the next key
pub keys_push : (entries : List (Path × ℤ)) (i : ℕ) (e : Path × ℤ) → i < length entries → e ≡ get_or entries i e
    → keys_of (take (i + 1) entries) ≡ keys_of (take i entries) ++ e.0 ∷ []
keys_push entries i e below is =
    ap keys_of (take_more entries i e below ∙ ap (λ (x : Path × ℤ). take i entries ++ x ∷ []) (sym is))
    ∙ map-append (λ (x : Path × ℤ). x.0) (take i entries) (e ∷ [])

-- the key of an entry
pub key_at : (entries : List (Path × ℤ)) (i : ℕ) (e : Path × ℤ) → i < length entries → e ≡ get_or entries i e → get_or (keys_of entries) i e.0 ≡ e.0
key_at entries i e below is = get_or-map (λ (x : Path × ℤ). x.0) entries i e e.0 below ∙ ap (λ (x : Path × ℤ). x.0) (sym is)

-- the entries of lists with the same keys have the same keys
pub same_key : (one other : List (Path × ℤ)) (i : ℕ) (a b : Path × ℤ) → i < length one → i < length other → a ≡ get_or one i a
    → b ≡ get_or other i b
    → keys_of one ≡ keys_of other → (get_or one i a).0 ≡ (get_or other i b).0
same_key one other i a b below below' is is' same =
    sym (get_or-map (λ (x : Path × ℤ). x.0) one i a a.0 below)
    ∙ ap (λ ks. get_or ks i a.0) same
    ∙ get_or-map (λ (x : Path × ℤ). x.0) other i b a.0 below'

-- parameters are the first locals
pub ruleset takes = (take-map)
