-- The inputs of a suspect, symbol by symbol.
use Rattle.std.proofs.Common.{◌≡◌, ◌≢◌, ◌<◌, ◌+◌, ℕ, suc, ℤ, pos, Bool, true, false, true≢false, cond, List, [], ◌∷◌, ◌++◌, length, take}
use Rattle.std.proofs.Common.{get_or, refl, sym, ap, ◌∙◌, subst, arith}
use Rattle.std.specs.Prelude.{None, Some, slice_get}
use Rattle.std.specs.Cmp.{eq_by_cmp_equiv}
use Rattle.std.specs.Ordering.{is_eq}
use Rattle.std.specs.declared.cmp.Ordering.{Ordering}
use Rattle.std.specs.declared.cmp.Ordering.TheVariants.{Less, Equal, Greater}
use Rattle.std.proofs.lemmas.List.{take_more, length-take, get_or-take}
use Rattle.std.proofs.lemmas.Option.{slice_get_within, get_or_from_slice_get, slice_get-get_or}
use Rattle.cs_inputs.specs.declared.path.Path.{Path}
use Rattle.cs_inputs.specs.Inputs.{number_at}
use Rattle.cs_inputs.specs.PathOrder.{path_order}
use Rattle.cs_inputs.proofs.PathOrderLaws.{path_order-total, path_order-tie}
use Rattle.cs_terms.specs.declared.symbol.SymName.{SymName}
use Rattle.cs_terms.specs.declared.symbol.SymName.TheVariants.{Input, Guess}
use Rattle.cs_terms.specs.Table.{HasEachOnce}
use Rattle.cs_terms.specs.Term.{Valuation}
use Rattle.cs_events.specs.Objects.{is_equal}
use Rattle.cs_state.specs.Valuations.{is_input_at, input_of}
use Rattle.cs_constraints.specs.Constraints.{Sets}
use Rattle.cs_suspects.specs.Solved.{IsNumberOf, AreInputsOf, IsPut}

equal_by : (o : Ordering) → is_eq o ≡ true → is_equal o ≡ true
equal_by Less e = absurd (true≢false (sym e))
equal_by Equal e = refl
equal_by Greater e = absurd (true≢false (sym e))

-- a symbol is that of an input exactly if its name is the input's
pub is_input_itself : (p : Path) → is_input_at p (Input p) ≡ true
is_input_itself p = equal_by (path_order p p) ((eq_by_cmp_equiv path_order-total).refl p)

tied : (o : Ordering) → is_equal o ≡ true → o ≡ Equal
tied Less e = absurd (true≢false (sym e))
tied Equal e = refl
tied Greater e = absurd (true≢false (sym e))

pub is_input_same : (p : Path) (name : SymName) → is_input_at p name ≡ true → name ≡ Input p
is_input_same p (Input q) e = ap Input (sym (path_order-tie p q (tied (path_order p q) e)))
is_input_same p (Guess event) e = absurd (true≢false (sym e))

-- setting a path's number
pub put_number : (p : Path) (number : ℤ) (before after : List (Path × ℤ)) → number_at after p ≡ number
    → ((q : Path) → q ≢ p → number_at after q ≡ number_at before q) → IsPut (Input p) number before after
put_number p number before after here elsewhere = record {
  here = λ q is unset. subst (λ (name : SymName). (r : Path) → name ≡ Input r → number_at after r ≡ number) refl
      (λ r same. ap (number_at after) (of_input p r same) ∙ here) q (is_input_same q (Input p) is);
  elsewhere = λ q other. elsewhere q (λ same. true≢false (sym (is_input_itself p) ∙ ap (λ (r : Path). is_input_at r (Input p)) (sym same) ∙ other));
}
  where
    of_input : (one other : Path) → Input one ≡ Input other → other ≡ one
    of_input one other same = cc

-- a path without a symbol has the number 0
none_has : (names : List SymName) (v : Valuation) (p : Path) → ((k : ℕ) → slice_get names k ≡ Some (Input p) → ⊥) → input_of names v p ≡ pos 0
none_has [] v p none = refl
none_has (name ∷ names) v p none = by (is_input_at p name) refl (none_has names (λ symbol. v (suc symbol)) p (λ k there. none (suc k) there))
  where
    by : (is : Bool) → is_input_at p name ≡ is → input_of names (λ symbol. v (suc symbol)) p ≡ pos 0 → input_of (name ∷ names) v p ≡ pos 0
    by true e later = absurd (none 0 (ap Some (is_input_same p name e)))
    by false e later = ap (λ t. cond t (v 0) (input_of names (λ symbol. v (suc symbol)) p)) e ∙ later

-- one more symbol: the path of its input has its number, if no earlier symbol has this path; all other paths keep theirs
here_more : (names : List SymName) (v : Valuation) (p : Path) (name : SymName) → is_input_at p name ≡ true
    → ((k : ℕ) → slice_get names k ≡ Some (Input p) → ⊥) → input_of (names ++ name ∷ []) v p ≡ v (length names)
here_more [] v p name is none = ap (λ t. cond t (v 0) (pos 0)) is
here_more (first ∷ names) v p name is none =
    by (is_input_at p first) refl (here_more names (λ symbol. v (suc symbol)) p name is (λ k there. none (suc k) there))
  where
    by : (it : Bool) → is_input_at p first ≡ it → input_of (names ++ name ∷ []) (λ symbol. v (suc symbol)) p ≡ v (suc (length names))
        → input_of (first ∷ (names ++ name ∷ [])) v p ≡ v (suc (length names))
    by true e later = absurd (none 0 (ap Some (is_input_same p first e)))
    by false e later = ap (λ t. cond t (v 0) (input_of (names ++ name ∷ []) (λ symbol. v (suc symbol)) p)) e ∙ later

others_same : (names : List SymName) (v : Valuation) (p : Path) (name : SymName) → is_input_at p name ≡ false
    → input_of (names ++ name ∷ []) v p ≡ input_of names v p
others_same [] v p name other = ap (λ t. cond t (v 0) (pos 0)) other
others_same (first ∷ names) v p name other = ap (cond (is_input_at p first) (v 0)) (others_same names (λ symbol. v (suc symbol)) p name other)

-- inputs with the numbers of the first symbols, and of the next one
pub put_next : (sets : Sets) (names : List SymName) (k : ℕ) (name : SymName) (number : ℤ) (before after : List (Path × ℤ)) → HasEachOnce names
    → slice_get names k ≡ Some name → IsNumberOf sets k number → IsPut name number before after → AreInputsOf sets (take k names) before
    → AreInputsOf sets (take (k + 1) names) after
put_next sets names k name number before after once there is put earlier v solution p = by (is_input_at p name) refl
  where
    within : k < length names
    within = slice_get_within names k name there

    next : take (k + 1) names ≡ take k names ++ name ∷ []
    next = take_more names k name within ∙ ap (λ (it : SymName). take k names ++ it ∷ []) (get_or_from_slice_get names k name name there)

    none : is_input_at p name ≡ true → (j : ℕ) → slice_get (take k names) j ≡ Some (Input p) → ⊥
    none it j at =
        let below : j < length (take k names) = slice_get_within (take k names) j (Input p) at in
        let fewer = length-take k names in
        let early : j < k = omega (arith, below, fewer, within) in
        let all : slice_get names j ≡ Some (Input p) =
        slice_get-get_or names j name (omega (arith, early, within)) ∙ ap Some (sym (get_or-take k names j name early)
        ∙ get_or_from_slice_get (take k names) j (Input p) name at) in
        let same : j ≡ k = once j k (Input p) all (there ∙ ap Some (is_input_same p name it)) in
        omega (arith, early, same)

    by : (it : Bool) → is_input_at p name ≡ it → number_at after p ≡ input_of (take (k + 1) names) v p
    by true e =
        let unset : number_at before p ≡ pos 0 = earlier v solution p ∙ none_has (take k names) v p (none e) in
        let size : length (take k names) ≡ k = omega (arith, length-take k names, within) in
        put.here p e unset ∙ is v solution ∙ ap v (sym size) ∙ sym (here_more (take k names) v p name e (none e))
        ∙ ap (λ (they : List SymName). input_of they v p) (sym next)
    by false e =
        put.elsewhere p e ∙ earlier v solution p ∙ sym (others_same (take k names) v p name e)
        ∙ ap (λ (they : List SymName). input_of they v p) (sym next)

-- each number below the length has a name
pub not_there : (names : List SymName) (k : ℕ) → slice_get names k ≡ None → k < length names → ⊥
not_there names k none within =
    let clash : None ≡ Some (get_or names k (Guess 0)) = sym none ∙ slice_get-get_or names k (Guess 0) within in
    absurd (cc)
