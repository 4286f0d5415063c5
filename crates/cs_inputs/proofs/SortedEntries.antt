-- Entries in the order of their keys: where a key's entry is, and what an insertion changes. For the contracts of
-- `Inputs`.
use Rattle.std.proofs.Common.{◌≡◌, ℕ, zero, suc, ◌+◌, ◌<◌, ◌≤◌, false, List, [], ◌∷◌, ◌++◌, length, take, drop, set, get_or}
use Rattle.std.proofs.Common.{sym, ◌∙◌, ap, refl, arith, cond}
use Rattle.std.specs.Prelude.{Some, None}
use Rattle.std.specs.List.{AllByRecursion}
use Rattle.std.specs.List.Sorted.{IsStrictlySortedBy, IsPartitionPoint, IsNonDecreasingBy}
use Rattle.std.specs.Map.{lookup, keys_of}
use Rattle.std.specs.BTreeMap.{is_at, insert_entry}
use Rattle.std.specs.Cmp.{IsTotalOrder}
use Rattle.std.specs.Ordering.{ordering_reverse, ordering_index, is_eq, is_lt, match_ordering}
use Rattle.std.specs.declared.cmp.Ordering.{Ordering}
use Rattle.std.specs.declared.cmp.Ordering.TheVariants.{Less, Equal, Greater}
use Rattle.std.proofs.lemmas.List.{get_or-map}
use Rattle.std.proofs.lemmas.List.Sorted.{searchable_from_sorted}
use Rattle.std.proofs.lemmas.Map.Keys.{Less-from_sorted}
use Rattle.std.proofs.lemmas.Map.Entries.{length-keys_of}

module _ {K : Type 0} {R : K → K → Ordering} (o : IsTotalOrder R) where
  -- ---- the order, reversed
  pub flip-Less : (x y : K) → R x y ≡ Less → R y x ≡ Greater
  flip-Less x y e = o.antisymm y x ∙ ap ordering_reverse e

  pub flip-Greater : (x y : K) → R x y ≡ Greater → R y x ≡ Less
  flip-Greater x y e = o.antisymm y x ∙ ap ordering_reverse e

  pub flip-Equal : (x y : K) → R x y ≡ Equal → R y x ≡ Equal
  flip-Equal x y e = o.antisymm y x ∙ ap ordering_reverse e

  self-Equal : (x : K) → R x x ≡ Equal
  self-Equal x = own (R x x) (o.antisymm x x)
    where
      own : (r : Ordering) → r ≡ ordering_reverse r → r ≡ Equal
      own Less e = absurd (cc)
      own Equal e = refl
      own Greater e = absurd (cc)

  through : (x y : K) (ks : List K) → R x y ≡ Less → AllByRecursion (λ z. R y z ≡ Less) ks → AllByRecursion (λ z. R x z ≡ Less) ks
  through x y [] e h = tt
  through x y (z ∷ zs) e h = (o.trans x y z e h.0, through x y zs e h.1)

module _ {K X : Type 0} {R : K → K → Ordering} (o : IsTotalOrder R) where
  -- a key below all keys of a list is below the one at each index
  below : (e : K × X) (es : List (K × X)) (j : ℕ) (d : K × X) → AllByRecursion (λ y. R e.0 y ≡ Less) (keys_of es) → j < length es
      → R e.0 (get_or es j d).0 ≡ Less
  below e [] j d h p = absurd (omega arith)
  below e (f ∷ fs) zero d h p = h.0
  below e (f ∷ fs) (suc j) d h p = below e fs j d h.1 (omega arith)

  -- ---- the search's premise
  adjacent : (es : List (K × X)) (k : ℕ) (d : K × X) → IsStrictlySortedBy R (keys_of es) → k + 1 < length es
      → is_lt (R (get_or es (k + 1) d).0 (get_or es k d).0) ≡ false
  adjacent es k d h p =
      let fits : k + 1 < length (keys_of es) = omega (arith, length-keys_of es) in
      let keys = Less-from_sorted R (keys_of es) k (k + 1) d.0 h (omega arith) fits in
      let low = get_or-map (λ (e : K × X). e.0) es k d d.0 (omega arith) in
      let high = get_or-map (λ (e : K × X). e.0) es (k + 1) d d.0 p in
      let less : R (get_or es k d).0 (get_or es (k + 1) d).0 ≡ Less = (λ i. R (sym low i) (sym high i)) ∙ keys in
      ap is_lt (flip-Less o (get_or es k d).0 (get_or es (k + 1) d).0 less)

  pub searchable : (es : List (K × X)) (k : K) → IsStrictlySortedBy R (keys_of es) → IsNonDecreasingBy (λ (e : K × X). ordering_index (R e.0 k)) es
  searchable es k h = searchable_from_sorted o (λ (e : K × X). e.0) es k (λ j d low high. adjacent es j d h high)

  -- ---- a key's entry
  pub lookup_found : (es : List (K × X)) (k : K) (i : ℕ) (d : K × X) → IsStrictlySortedBy R (keys_of es) → i < length es
      → R (get_or es i d).0 k ≡ Equal → lookup (is_at (R k)) es ≡ Some (get_or es i d).1
  unfolding IsStrictlySortedBy
  lookup_found [] k i d h p e = absurd (omega arith)
  lookup_found (f ∷ fs) k zero d h p e = ap (λ t. cond (is_eq t) (Some f.1) (lookup (is_at (R k)) fs)) (flip-Equal o f.0 k e)
  lookup_found (f ∷ fs) k (suc i) d h p e =
      let first : R f.0 (get_or fs i d).0 ≡ Less = below f fs i d h.0 (omega arith) in
      let past : R k f.0 ≡ Greater = flip-Less o f.0 k (sym (less_with f.0 k (get_or fs i d).0 e) ∙ first) in
      ap (λ t. cond (is_eq t) (Some f.1) (lookup (is_at (R k)) fs)) past ∙ lookup_found fs k i d h.1 (omega arith) e
    where
      less_with : (x y z : K) → R z y ≡ Equal → R x z ≡ R x y
      less_with x y z e = o.antisymm x z ∙ ap ordering_reverse (o.congr z y x e) ∙ sym (o.antisymm x y)

  pub lookup_missed : (es : List (K × X)) (k : K) (i : ℕ)
      → IsPartitionPoint (λ (e : K × X). R e.0 k ≡ Less) (λ (e : K × X). R e.0 k ≡ Greater) es i → lookup (is_at (R k)) es ≡ None
  lookup_missed [] k i h = refl
  lookup_missed (f ∷ fs) k zero h =
      let past : R k f.0 ≡ Less = flip-Greater o f.0 k (h.1 0 f (omega arith) (omega arith)) in
      ap (λ t. cond (is_eq t) (Some f.1) (lookup (is_at (R k)) fs)) past
      ∙ lookup_missed fs k zero (λ j d low high. absurd (omega arith), λ j d low high. h.1 (suc j) d (omega arith) (omega arith))
  lookup_missed (f ∷ fs) k (suc i) h =
      let past : R k f.0 ≡ Greater = flip-Less o f.0 k (h.0 0 f (omega arith) (omega arith)) in
      ap (λ t. cond (is_eq t) (Some f.1) (lookup (is_at (R k)) fs)) past
      ∙ lookup_missed fs k i (λ j d low high. h.0 (suc j) d (omega arith) (omega arith), λ j d low high. h.1 (suc j) d (omega arith) (omega arith))

  -- ---- an insertion
  pub insert_found : (es : List (K × X)) (k : K) (v : X) (i : ℕ) (d : K × X) → IsStrictlySortedBy R (keys_of es) → i < length es
      → R (get_or es i d).0 k ≡ Equal → set es i ((get_or es i d).0, v) ≡ insert_entry R es k v
  unfolding IsStrictlySortedBy
  insert_found [] k v i d h p e = absurd (omega arith)
  insert_found (f ∷ fs) k v zero d h p e =
      sym (ap (λ t. match_ordering t ((k, v) ∷ f ∷ fs) ((f.0, v) ∷ fs) (f ∷ insert_entry R fs k v)) (flip-Equal o f.0 k e))
  insert_found (f ∷ fs) k v (suc i) d h p e =
      let first : R f.0 (get_or fs i d).0 ≡ Less = below f fs i d h.0 (omega arith) in
      let past : R k f.0 ≡ Greater = flip-Less o f.0 k (sym (less_with f.0 k (get_or fs i d).0 e) ∙ first) in
      ap (λ rest. f ∷ rest) (insert_found fs k v i d h.1 (omega arith) e)
      ∙ sym (ap (λ t. match_ordering t ((k, v) ∷ f ∷ fs) ((f.0, v) ∷ fs) (f ∷ insert_entry R fs k v)) past)
    where
      less_with : (x y z : K) → R z y ≡ Equal → R x z ≡ R x y
      less_with x y z e = o.antisymm x z ∙ ap ordering_reverse (o.congr z y x e) ∙ sym (o.antisymm x y)

  pub insert_missed : (es : List (K × X)) (k : K) (v : X) (i : ℕ) → i ≤ length es
      → IsPartitionPoint (λ (e : K × X). R e.0 k ≡ Less) (λ (e : K × X). R e.0 k ≡ Greater) es i
      → take i es ++ (k, v) ∷ drop i es ≡ insert_entry R es k v
  insert_missed [] k v zero p h = refl
  insert_missed [] k v (suc i) p h = absurd (omega arith)
  insert_missed (f ∷ fs) k v zero p h =
      let past : R k f.0 ≡ Less = flip-Greater o f.0 k (h.1 0 f (omega arith) (omega arith)) in
      sym (ap (λ t. match_ordering t ((k, v) ∷ f ∷ fs) ((f.0, v) ∷ fs) (f ∷ insert_entry R fs k v)) past)
  insert_missed (f ∷ fs) k v (suc i) p h =
      let past : R k f.0 ≡ Greater = flip-Less o f.0 k (h.0 0 f (omega arith) (omega arith)) in
      ap (λ rest. f ∷ rest) (insert_missed fs k v i (omega arith) (
        λ j d low high. h.0 (suc j) d (omega arith) (omega arith),
        λ j d low high. h.1 (suc j) d (omega arith) (omega arith),
      )) ∙ sym (ap (λ t. match_ordering t ((k, v) ∷ f ∷ fs) ((f.0, v) ∷ fs) (f ∷ insert_entry R fs k v)) past)

  -- keys remain above a lesser one
  above-insert : (x : K) (es : List (K × X)) (k : K) (v : X) → R x k ≡ Less → AllByRecursion (λ y. R x y ≡ Less) (keys_of es)
      → AllByRecursion (λ y. R x y ≡ Less) (keys_of (insert_entry R es k v))
  above-insert x [] k v e h = (e, tt)
  above-insert x (f ∷ fs) k v e h = at (R k f.0) (above-insert x fs k v e h.1)
    where
      at : (r : Ordering) → AllByRecursion (λ y. R x y ≡ Less) (keys_of (insert_entry R fs k v))
          → AllByRecursion (λ y. R x y ≡ Less) (keys_of (match_ordering r ((k, v) ∷ f ∷ fs) ((f.0, v) ∷ fs) (f ∷ insert_entry R fs k v)))
      at Less rest = (e, (h.0, h.1))
      at Equal rest = (h.0, h.1)
      at Greater rest = (h.0, rest)

  -- an insertion keeps the order
  pub insert-sorted : (es : List (K × X)) (k : K) (v : X) → IsStrictlySortedBy R (keys_of es) → IsStrictlySortedBy R (keys_of (insert_entry R es k v))
  unfolding IsStrictlySortedBy
  insert-sorted [] k v h = (tt, tt)
  insert-sorted (f ∷ fs) k v h = at (R k f.0) refl (insert-sorted fs k v h.1)
    where
      at : (r : Ordering) → R k f.0 ≡ r → IsStrictlySortedBy R (keys_of (insert_entry R fs k v))
          → IsStrictlySortedBy R (keys_of (match_ordering r ((k, v) ∷ f ∷ fs) ((f.0, v) ∷ fs) (f ∷ insert_entry R fs k v)))
      at Less is rest = ((is, through o k f.0 (keys_of fs) is h.0), (h.0, h.1))
      at Equal is rest = (h.0, h.1)
      at Greater is rest = (above-insert f.0 fs k v (flip-Greater o k f.0 is) h.0, rest)

  -- the key has its new value
  pub lookup_here : (es : List (K × X)) (k : K) (v : X) → lookup (is_at (R k)) (insert_entry R es k v) ≡ Some v
  lookup_here [] k v = ap (λ t. cond (is_eq t) (Some v) None) (self-Equal o k)
  lookup_here (f ∷ fs) k v = at (R k f.0) refl (lookup_here fs k v)
    where
      at : (r : Ordering) → R k f.0 ≡ r → lookup (is_at (R k)) (insert_entry R fs k v) ≡ Some v
          → lookup (is_at (R k)) (match_ordering r ((k, v) ∷ f ∷ fs) ((f.0, v) ∷ fs) (f ∷ insert_entry R fs k v)) ≡ Some v
      at Less is rest = ap (λ t. cond (is_eq t) (Some v) (lookup (is_at (R k)) (f ∷ fs))) (self-Equal o k)
      at Equal is rest = ap (λ t. cond (is_eq t) (Some v) (lookup (is_at (R k)) fs)) is
      at Greater is rest = ap (λ t. cond (is_eq t) (Some f.1) (lookup (is_at (R k)) (insert_entry R fs k v))) is ∙ rest

  -- and every other key has its own
  pub lookup_elsewhere : (es : List (K × X)) (k q : K) (v : X) → is_eq (R q k) ≡ false
      → lookup (is_at (R q)) (insert_entry R es k v) ≡ lookup (is_at (R q)) es
  lookup_elsewhere [] k q v n = ap (λ t. cond t (Some v) None) n
  lookup_elsewhere (f ∷ fs) k q v n = at (R k f.0) refl (lookup_elsewhere fs k q v n)
    where
      at : (r : Ordering) → R k f.0 ≡ r → lookup (is_at (R q)) (insert_entry R fs k v) ≡ lookup (is_at (R q)) fs
          → lookup (is_at (R q)) (match_ordering r ((k, v) ∷ f ∷ fs) ((f.0, v) ∷ fs) (f ∷ insert_entry R fs k v)) ≡ lookup (is_at (R q)) (f ∷ fs)
      at Less is rest = ap (λ t. cond t (Some v) (lookup (is_at (R q)) (f ∷ fs))) n
      at Equal is rest =
          let same : R q f.0 ≡ R q k = o.antisymm q f.0 ∙ ap ordering_reverse (sym (o.congr k f.0 q is)) ∙ sym (o.antisymm q k) in
          let miss : is_eq (R q f.0) ≡ false = ap is_eq same ∙ n in
          ap (λ t. cond t (Some v) (lookup (is_at (R q)) fs)) miss ∙ sym (ap (λ t. cond t (Some f.1) (lookup (is_at (R q)) fs)) miss)
      at Greater is rest = ap (cond (is_eq (R q f.0)) (Some f.1)) rest
