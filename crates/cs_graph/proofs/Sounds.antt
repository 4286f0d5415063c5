-- Graphs stay sound: for the contracts of `Graph`.
use Rattle.std.proofs.Common.{◌≡◌, ◌⊎◌, ◌<◌, ◌+◌, ℕ, zero, suc, Bool, true, false, List, [], ◌∷◌, ◌++◌, Option, None, Some}
use Rattle.std.proofs.Common.{length, slice_get}
use Rattle.std.proofs.Common.{refl, sym, ap, ◌∙◌, inl, inr, subst, arith, length-append, IfSome, IfNone}
use Rattle.std.specs.Map.{keys_of, lookup}
use Rattle.cs_graph.specs.Waiting.{IsWaiting, HasJoined, IsGiven}
use Rattle.std.proofs.Common.{cond}
use Rattle.std.specs.Option.{option_map}
use Rattle.std.proofs.lemmas.List.{map-append}
use Rattle.std.proofs.lemmas.Option.{none-some, same_Some, slice_get-map}
use Rattle.cs_graph.specs.Sound.{IsSound}
use Rattle.cs_graph.specs.Contents.{contents}
use Rattle.cs_graph.specs.Adding.{IsSeenAt, IsNew}

module _ {K R : Type 0} where
  -- if only rows wait that waited before
  sound_fewer : (es : List (K × ℕ)) (rows : List R) (before after : List (ℕ × ℕ)) (nodes : ℕ)
      → ((v r : ℕ) → IsWaiting after v r → IsWaiting before v r) → IsSound es rows before nodes → IsSound es rows after nodes
  sound_fewer es rows before after nodes fewer sound = record {
    as_many = sound.as_many;
    numbers = sound.numbers;
    waiting = λ v r there. sound.waiting v r (fewer v r there);
    few = sound.few;
    most = sound.most;
  }

  -- one was taken, or none was waiting
  pub sound_taken : (taken : Option ℕ) (es : List (K × ℕ)) (rows : List R) (before after : List (ℕ × ℕ)) (nodes : ℕ)
      → IfSome taken (λ row. IsGiven row before after) → IfNone taken ((before ≡ []) × (after ≡ [])) → IsSound es rows before nodes
      → IsSound es rows after nodes
  sound_taken None es rows before after nodes some none sound =
      subst (λ work. IsSound es rows work nodes) (none.0 ∙ sym none.1) sound
  sound_taken (Some row) es rows before after nodes some none sound = sound_fewer es rows before after nodes some.none_more sound

module _ {K : Type 0} (test : K → Bool) where
  record Found (es : List (K × ℕ)) (number : ℕ) : Type 0 where
    place : ℕ
    entry : K × ℕ
    at : slice_get es place ≡ Some entry
    passes : test entry.0 ≡ true
    is : entry.1 ≡ number

  -- the number beside a key that passes the test
  found : (es : List (K × ℕ)) (number : ℕ) → lookup test es ≡ Some number → Found es number
  found [] number e = absurd (none-some number e)
  found (x ∷ es) number e = by (test x.0) refl (λ rest. found es number rest) e
    where
      by : (b : Bool) → test x.0 ≡ b → (lookup test es ≡ Some number → Found es number)
          → cond b (Some x.1) (lookup test es) ≡ Some number → Found (x ∷ es) number
      by true t further h = record { place = 0; entry = x; at = refl; passes = t; is = same_Some x.1 number h }
      by false t further h =
          let rest = further h in
          record { place = suc rest.place; entry = rest.entry; at = rest.at; passes = rest.passes; is = rest.is }

  -- no key passes the test
  pub none_passes : (es : List (K × ℕ)) → lookup test es ≡ None → (place : ℕ) (other : K) → slice_get (keys_of es) place ≡ Some other
      → test other ≡ false
  none_passes [] e place other at = absurd (none-some other at)
  none_passes (x ∷ es) e place other at = by (test x.0) refl (λ rest. none_passes es rest) e place at
    where
      by : (b : Bool) → test x.0 ≡ b → (lookup test es ≡ None → (p : ℕ) (o : K) → slice_get (keys_of es) p ≡ Some o → test o ≡ false)
          → cond b (Some x.1) (lookup test es) ≡ None → (p : ℕ) → slice_get (keys_of (x ∷ es)) p ≡ Some other → test other ≡ false
      by true t further h p a = absurd (none-some x.1 (sym h))
      by false t further h zero a = subst (λ k. test k ≡ false) (same_Some x.0 other a) t
      by false t further h (suc p) a = further h p other a

  pub passes_none : (es : List (K × ℕ)) → ((place : ℕ) (other : K) → slice_get (keys_of es) place ≡ Some other → test other ≡ false)
      → lookup test es ≡ None
  passes_none [] none = refl
  passes_none (x ∷ es) none = simp (none 0 x.0 refl) (passes_none es (λ place other at. none (suc place) other at))

module _ {K R : Type 0} (eq : K → K → Bool) (key : K) where
  -- a row with an equal key exists
  pub seen : (es : List (K × ℕ)) (rows : List R) (work : List (ℕ × ℕ)) (nodes number : ℕ) → IsSound es rows work nodes
      → lookup (eq key) es ≡ Some number → IsSeenAt eq key number (keys_of es)
  seen es rows work nodes number sound e =
      let f = found (eq key) es number e in
      let place : f.place ≡ number = sym (sound.numbers f.place f.entry f.at) ∙ f.is in (
        f.entry.0,
        subst (λ p. slice_get (keys_of es) p ≡ Some f.entry.0) place
            (slice_get-map (λ (x : K × ℕ). x.0) es f.place ∙ ap (option_map (λ (x : K × ℕ). x.0)) f.at),
        f.passes,
      )

get_last : {X : Type 0} (xs : List X) (x y : X) (place : ℕ) → slice_get (xs ++ x ∷ []) place ≡ Some y
    → (slice_get xs place ≡ Some y) ⊎ ((place ≡ length xs) × (x ≡ y))
get_last [] x y zero at = inr (refl, same_Some x y at)
get_last [] x y (suc place) at = absurd (none-some y at)
get_last (z ∷ xs) x y zero at = inl at
get_last (z ∷ xs) x y (suc place) at = elim (get_last xs x y place at) [
  | inl old ↦ inl old
  | inr new ↦ inr (ap suc new.0, new.1)
]

module _ {K R : Type 0} where
  -- a row was added
  pub sound_added : (key : K) (visits number : ℕ) (row : R) (es fs : List (K × ℕ)) (rows more : List R) (work waiting : List (ℕ × ℕ)) (nodes : ℕ)
      → fs ≡ es ++ (key, number) ∷ [] → more ≡ rows ++ row ∷ [] → HasJoined visits number work waiting → number ≡ length rows
      → length rows < nodes
      → IsSound es rows work nodes → IsSound fs more waiting nodes
  sound_added key visits number row es fs rows more work waiting nodes entries grown joins next few sound =
      let longer : length more ≡ length rows + 1 = ap length grown ∙ length-append rows (row ∷ []) in
      record {
        as_many = ap length entries ∙ length-append es ((key, number) ∷ []) ∙ ap (λ n. n + 1) sound.as_many ∙ sym longer;
        numbers = λ place entry at. elim (get_last es (key, number) entry place (subst (λ l. slice_get l place ≡ Some entry) entries at)) [
          | inl old ↦ sound.numbers place entry old
          | inr new ↦ ap (λ (x : K × ℕ). x.1) (sym new.1) ∙ next ∙ sym sound.as_many ∙ sym new.0
        ];
        waiting = λ v r there. elim ((joins v r).0 there) [
          | inl same ↦ omega (arith, same.1, next, longer)
          | inr old ↦ let h = sound.waiting v r old in omega (arith, longer)
        ];
        few = omega (arith, longer);
        most = sound.most;
      }

  pub is_new : (key : K) (visits number : ℕ) (row : R) (es fs : List (K × ℕ)) (rows more : List R) (work waiting : List (ℕ × ℕ)) (nodes : ℕ)
      → fs ≡ es ++ (key, number) ∷ [] → more ≡ rows ++ row ∷ [] → HasJoined visits number work waiting → number ≡ length rows
      → IsNew key visits row number (contents es rows work nodes) (contents fs more waiting nodes)
  is_new key visits number row es fs rows more work waiting nodes entries grown joins next = record {
    next = next;
    keys = ap keys_of entries ∙ map-append (λ (x : K × ℕ). x.0) es ((key, number) ∷ []);
    rows = grown;
    work = joins;
    nodes = refl;
  }
