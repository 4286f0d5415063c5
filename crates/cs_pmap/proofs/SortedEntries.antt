-- Where a key is in a list of ascending entries, relative to one of them: for `get`, `inserted` and `removed` of the tree.
use Rattle.std.proofs.Common.{◌≡◌, Bool, true, false, cond, not, ◌&&◌, T, List, [], ◌∷◌, ◌++◌, refl, sym, ap, subst, ◌∙◌}
use Rattle.std.proofs.Common.{append_assoc}
use Rattle.std.specs.Prelude.{None, Some, IsTrue, filter}
use Rattle.std.specs.declared.cmp.Ordering.{Ordering}
use Rattle.std.specs.declared.cmp.Ordering.TheVariants.{Less, Equal, Greater}
use Rattle.std.specs.Ordering.{is_lt, is_eq, ordering_reverse, eq_by_cmp}
use Rattle.std.specs.Cmp.{IsTotalOrder}
use Rattle.std.specs.FinMap.{find, put, is_sorted}
use Rattle.std.specs.FinMap.Entries.{by_order, is_sorted-put}
use Rattle.std.proofs.lemmas.List.Elements.{filter-append}

pub first_part : (a b : Bool) → IsTrue (a && b) → IsTrue a
first_part true b h = refl
first_part false b h = h

pub second_part : (a b : Bool) → IsTrue (a && b) → IsTrue b
second_part true b h = h
second_part false b h = cc

pub less_from_lt : (r : Ordering) → IsTrue (is_lt r) → r ≡ Less
less_from_lt Less h = refl
less_from_lt Equal h = cc
less_from_lt Greater h = cc

-- std's lemmas on sorted entries use `T`
pub T-IsTrue : (b : Bool) → IsTrue b → T b
T-IsTrue b h = subst T (sym h) tt

pub IsTrue-T : (b : Bool) → T b → IsTrue b
IsTrue-T true h = refl
IsTrue-T false h = absurd h

-- a key that is at least e is above each key below e
above_front : {K : Type 0} {R : K → K → Ordering} → IsTotalOrder R → (k y e : K) → is_lt (R k e) ≡ false → R y e ≡ Less → R k y ≡ Greater
above_front {R = R} o k y e n p =
    elim (R k e) as (λ r. R k e ≡ r → is_lt r ≡ false → R k y ≡ Greater) [
      | Less ↦ λ q n. absurd (subst T n tt)
      | Equal ↦ λ q n. o.congr k e y q ∙ o.antisymm e y ∙ ap ordering_reverse p
      | Greater ↦ λ q n. o.antisymm k y ∙ ap ordering_reverse (o.trans y e k p (o.antisymm e k ∙ ap ordering_reverse q))
    ] refl n

module _ {K X : Type 0} (R : K → K → Ordering) where
  abbrev pub Sorted : List (K × X) → Type 0
  Sorted es = IsTrue (is_sorted R es)

  -- without the entries whose key ties with k
  abbrev pub without : K → List (K × X) → List (K × X)
  without k es = filter (λ e. not (eq_by_cmp R k e.0)) es

  pub next_above : (e f : K × X) (es : List (K × X)) → Sorted (e ∷ f ∷ es) → R e.0 f.0 ≡ Less
  next_above e f es s = less_from_lt _ (first_part _ _ (first_part _ _ s))

  pub sorted_tail : (e : K × X) (es : List (K × X)) → Sorted (e ∷ es) → Sorted es
  sorted_tail e es s = second_part _ _ s

  pub sorted_back : (l m : List (K × X)) → Sorted (l ++ m) → Sorted m
  sorted_back [] m s = s
  sorted_back (e ∷ l) m s = sorted_back l m (sorted_tail e (l ++ m) s)

  find-append_none : (k : K) (l m : List (K × X)) → find R k l ≡ None → find R k (l ++ m) ≡ find R k m
  find-append_none k [] m n = refl
  find-append_none k (y ∷ t) m n =
      elim (eq_by_cmp R k y.0) as (λ b. cond b (Some y.1) (find R k t) ≡ None → cond b (Some y.1) (find R k (t ++ m)) ≡ find R k m) [
        | true ↦ λ q. cc
        | false ↦ λ q. find-append_none k t m q
      ] n

  find-append_past : (k : K) (l m : List (K × X)) → find R k m ≡ None → find R k (l ++ m) ≡ find R k l
  find-append_past k [] m n = n
  find-append_past k (y ∷ t) m n = ap (λ w. cond (eq_by_cmp R k y.0) (Some y.1) w) (find-append_past k t m n)

  pub without_missing : (k : K) (es : List (K × X)) → find R k es ≡ None → without k es ≡ es
  without_missing k [] n = refl
  without_missing k (y ∷ t) n =
      elim (eq_by_cmp R k y.0) as (λ b. cond b (Some y.1) (find R k t) ≡ None → cond (not b) (y ∷ without k t) (without k t) ≡ y ∷ t) [
        | true ↦ λ q. cc
        | false ↦ λ q. ap (λ w. y ∷ w) (without_missing k t q)
      ] n

  pub put_left : (k : K) (v : X) (l : List (K × X)) (e : K × X) (r : List (K × X)) → R k e.0 ≡ Less
      → put R k v (l ++ e ∷ r) ≡ put R k v l ++ e ∷ r
  put_left k v [] e r p = ap (λ w. by_order w ((k, v) ∷ e ∷ r) ((e.0, v) ∷ r) (e ∷ put R k v r)) p
  put_left k v (y ∷ t) e r p =
      elim (R k y.0) as (λ w.
      by_order w ((k, v) ∷ y ∷ (t ++ e ∷ r)) ((y.0, v) ∷ (t ++ e ∷ r)) (y ∷ put R k v (t ++ e ∷ r))
      ≡ by_order w ((k, v) ∷ y ∷ t) ((y.0, v) ∷ t) (y ∷ put R k v t) ++ e ∷ r) [
        | Less ↦ refl
        | Equal ↦ refl
        | Greater ↦ ap (λ w. y ∷ w) (put_left k v t e r p)
      ]

  module _ (o : IsTotalOrder R) where
    pub sorted_cons : (e f : K × X) (es : List (K × X)) → R e.0 f.0 ≡ Less → Sorted (f ∷ es) → Sorted (e ∷ f ∷ es)
    sorted_cons e f es p s =
        subst Sorted (ap (λ r. by_order r (e ∷ f ∷ es) ((f.0, e.1) ∷ es) (f ∷ put R e.0 e.1 es)) p)
        (IsTrue-T _ (is_sorted-put R o e.0 e.1 (f ∷ es) (T-IsTrue _ s)))

    pub sorted_front : (l m : List (K × X)) → Sorted (l ++ m) → Sorted l
    sorted_front [] m s = refl
    sorted_front (e ∷ []) m s = refl
    sorted_front (e ∷ f ∷ l) m s =
        sorted_cons e f l (next_above e f (l ++ m) s) (sorted_front (f ∷ l) m (sorted_tail e ((f ∷ l) ++ m) s))

    pub sorted_inner_right : (x : List (K × X)) (e : K × X) (y : List (K × X)) (f : K × X) (z : List (K × X)) → Sorted ((x ++ e ∷ y) ++ f ∷ z)
        → Sorted (y ++ f ∷ z)
    sorted_inner_right x e y f z s =
        sorted_tail e (y ++ f ∷ z) (sorted_back x (e ∷ (y ++ f ∷ z)) (subst Sorted (append_assoc x (e ∷ y) (f ∷ z)) s))

    pub sorted_inner_left : (x : List (K × X)) (e : K × X) (y : List (K × X)) (f : K × X) (z : List (K × X)) → Sorted (x ++ e ∷ (y ++ f ∷ z))
        → Sorted (x ++ e ∷ y)
    sorted_inner_left x e y f z s = sorted_front (x ++ e ∷ y) (f ∷ z) (subst Sorted (sym (append_assoc x (e ∷ y) (f ∷ z))) s)

    pub rises_past : (y e : K × X) (t r : List (K × X)) → Sorted (y ∷ (t ++ e ∷ r)) → R y.0 e.0 ≡ Less
    rises_past y e [] r s = next_above y e r s
    rises_past y e (f ∷ t) r s =
        o.trans y.0 f.0 e.0 (next_above y f (t ++ e ∷ r) s) (rises_past f e t r (sorted_tail y ((f ∷ t) ++ e ∷ r) s))

    find_past : (k : K) (e : K × X) (r : List (K × X)) → R k e.0 ≡ Less → Sorted (e ∷ r) → find R k (e ∷ r) ≡ None
    find_past k e [] p s = ap (λ w. cond (is_eq w) (Some e.1) None) p
    find_past k e (f ∷ r) p s =
        ap (λ w. cond (is_eq w) (Some e.1) (find R k (f ∷ r))) p
        ∙ find_past k f r (o.trans k e.0 f.0 p (next_above e f r s)) (sorted_tail e (f ∷ r) s)

    find_after : (k : K) (e : K × X) (r : List (K × X)) → R k e.0 ≡ Equal → Sorted (e ∷ r) → find R k r ≡ None
    find_after k e [] p s = refl
    find_after k e (f ∷ r) p s = find_past k f r (o.congr k e.0 f.0 p ∙ next_above e f r s) (sorted_tail e (f ∷ r) s)

    find_before : (k : K) (l : List (K × X)) (e : K × X) (r : List (K × X)) → is_lt (R k e.0) ≡ false → Sorted (l ++ e ∷ r) → find R k l ≡ None
    find_before k [] e r n s = refl
    find_before k (y ∷ t) e r n s =
        ap (λ w. cond (is_eq w) (Some y.1) (find R k t)) (above_front o k y.0 e.0 n (rises_past y e t r s))
        ∙ find_before k t e r n (sorted_tail y (t ++ e ∷ r) s)

    -- a look-up, by comparing the key to the entry e
    pub find_left : (k : K) (l : List (K × X)) (e : K × X) (r : List (K × X)) → R k e.0 ≡ Less → Sorted (l ++ e ∷ r)
        → find R k (l ++ e ∷ r) ≡ find R k l
    find_left k l e r p s = find-append_past k l (e ∷ r) (find_past k e r p (sorted_back l (e ∷ r) s))

    pub find_middle : (k : K) (l : List (K × X)) (e : K × X) (r : List (K × X)) → R k e.0 ≡ Equal → Sorted (l ++ e ∷ r)
        → find R k (l ++ e ∷ r) ≡ Some e.1
    find_middle k l e r p s =
        find-append_none k l (e ∷ r) (find_before k l e r (ap is_lt p) s) ∙ ap (λ w. cond (is_eq w) (Some e.1) (find R k r)) p

    pub find_right : (k : K) (l : List (K × X)) (e : K × X) (r : List (K × X)) → R k e.0 ≡ Greater → Sorted (l ++ e ∷ r)
        → find R k (l ++ e ∷ r) ≡ find R k r
    find_right k l e r p s =
        find-append_none k l (e ∷ r) (find_before k l e r (ap is_lt p) s) ∙ ap (λ w. cond (is_eq w) (Some e.1) (find R k r)) p

    -- an insertion, likewise
    pub put_middle : (k : K) (v : X) (l : List (K × X)) (e : K × X) (r : List (K × X)) → R k e.0 ≡ Equal → Sorted (l ++ e ∷ r)
        → put R k v (l ++ e ∷ r) ≡ l ++ (e.0, v) ∷ r
    put_middle k v [] e r p s = ap (λ w. by_order w ((k, v) ∷ e ∷ r) ((e.0, v) ∷ r) (e ∷ put R k v r)) p
    put_middle k v (y ∷ t) e r p s =
        ap (λ w. by_order w ((k, v) ∷ y ∷ (t ++ e ∷ r)) ((y.0, v) ∷ (t ++ e ∷ r)) (y ∷ put R k v (t ++ e ∷ r)))
        (above_front o k y.0 e.0 (ap is_lt p) (rises_past y e t r s))
        ∙ ap (λ w. y ∷ w) (put_middle k v t e r p (sorted_tail y (t ++ e ∷ r) s))

    pub put_right : (k : K) (v : X) (l : List (K × X)) (e : K × X) (r : List (K × X)) → R k e.0 ≡ Greater → Sorted (l ++ e ∷ r)
        → put R k v (l ++ e ∷ r) ≡ l ++ e ∷ put R k v r
    put_right k v [] e r p s = ap (λ w. by_order w ((k, v) ∷ e ∷ r) ((e.0, v) ∷ r) (e ∷ put R k v r)) p
    put_right k v (y ∷ t) e r p s =
        ap (λ w. by_order w ((k, v) ∷ y ∷ (t ++ e ∷ r)) ((y.0, v) ∷ (t ++ e ∷ r)) (y ∷ put R k v (t ++ e ∷ r)))
        (above_front o k y.0 e.0 (ap is_lt p) (rises_past y e t r s))
        ∙ ap (λ w. y ∷ w) (put_right k v t e r p (sorted_tail y (t ++ e ∷ r) s))

    -- a removal, likewise
    pub without_left : (k : K) (l : List (K × X)) (e : K × X) (r : List (K × X)) → R k e.0 ≡ Less → Sorted (l ++ e ∷ r)
        → without k (l ++ e ∷ r) ≡ without k l ++ e ∷ r
    without_left k l e r p s =
        filter-append (λ y. not (eq_by_cmp R k y.0)) l (e ∷ r)
        ∙ ap (λ w. without k l ++ w) (without_missing k (e ∷ r) (find_past k e r p (sorted_back l (e ∷ r) s)))

    without_front : (k : K) (l : List (K × X)) (e : K × X) (r : List (K × X)) → is_lt (R k e.0) ≡ false → Sorted (l ++ e ∷ r)
        → without k (l ++ e ∷ r) ≡ l ++ without k (e ∷ r)
    without_front k l e r n s =
        filter-append (λ y. not (eq_by_cmp R k y.0)) l (e ∷ r)
        ∙ ap (λ w. w ++ without k (e ∷ r)) (without_missing k l (find_before k l e r n s))

    pub without_middle : (k : K) (l : List (K × X)) (e : K × X) (r : List (K × X)) → R k e.0 ≡ Equal → Sorted (l ++ e ∷ r)
        → without k (l ++ e ∷ r) ≡ l ++ r
    without_middle k l e r p s =
        without_front k l e r (ap is_lt p) s
        ∙ ap (λ w. l ++ cond (not (is_eq w)) (e ∷ without k r) (without k r)) p
        ∙ ap (λ w. l ++ w) (without_missing k r (find_after k e r p (sorted_back l (e ∷ r) s)))

    pub without_right : (k : K) (l : List (K × X)) (e : K × X) (r : List (K × X)) → R k e.0 ≡ Greater → Sorted (l ++ e ∷ r)
        → without k (l ++ e ∷ r) ≡ l ++ e ∷ without k r
    without_right k l e r p s =
        without_front k l e r (ap is_lt p) s ∙ ap (λ w. l ++ cond (not (is_eq w)) (e ∷ without k r) (without k r)) p
