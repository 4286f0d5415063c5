-- The keys of a graph represent the live parts of its rows, also after a row was added: for `HaveKeys`.
use Rattle.std.proofs.Common.{◌≡◌, inl, inr, ◌<◌, ◌+◌, ℕ, zero, suc, List, [], ◌∷◌, ◌++◌, length, Some, slice_get, refl, sym, ap}
use Rattle.std.proofs.Common.{◌∙◌, subst, arith}
use Rattle.std.proofs.lemmas.List.{length-append}
use Rattle.std.proofs.lemmas.Option.{same_Some, slice_get_within}
use Rattle.cs_keys.specs.Live.{live_part}
use Rattle.cs_keys.specs.Words.{words_of}
use Rattle.cs_graph.specs.Adding.{IsNew}
use Rattle.cs_explored.specs.declared.explored.Row.{Row}
use Rattle.cs_explored.specs.Placing.{RowGraph}
use Rattle.cs_coverage.specs.Closing.{HaveKeys}
use Rattle.cs_coverage.proofs.ClosedGraphs.{kept_place, last_or_before, last_there}

-- a list has an element at each index below its length
pub some_there : {A : Type 0} (xs : List A) (place : ℕ) → place < length xs → (x : A) × (slice_get xs place ≡ Some x)
some_there [] place within = absurd (omega (arith, within))
some_there (x ∷ xs) zero within = (x, refl)
some_there (x ∷ xs) (suc place) within = some_there xs place (omega (arith, within))

module _ (before after : RowGraph) (row : Row) (visits number : ℕ) (keys : HaveKeys before) (long : length before.keys ≡ length before.rows)
    (new : IsNew (words_of (live_part row.state.value)) visits row number before after) where
  pub keys_joined : HaveKeys after
  keys_joined place key found at there =
      elim (last_or_before before.rows row found place (subst (λ (rows : List Row). slice_get rows place ≡ Some found) new.rows there)) [
        | inl old ↦
            let within = slice_get_within before.rows place found old in
            let kept = some_there before.keys place (omega (arith, within, long)) in
            let more = kept_place before.keys (words_of (live_part row.state.value) ∷ []) place kept.0 kept.1 in
            let same = same_Some key kept.0 (sym (subst (λ (keys : List (List ℕ)). slice_get keys place ≡ Some key) new.keys at) ∙ more) in
            same ∙ keys place kept.0 found kept.1 old
        | inr last ↦
            let place_is : place ≡ length before.keys = last.0 ∙ sym long in
            let at_last = subst (λ n. slice_get (before.keys ++ words_of (live_part row.state.value) ∷ []) n ≡ Some key) place_is
            (subst (λ (keys : List (List ℕ)). slice_get keys place ≡ Some key) new.keys at) in
            same_Some key (words_of (live_part row.state.value)) (sym at_last ∙ last_there before.keys (words_of (live_part row.state.value)))
            ∙ ap (λ (r : Row). words_of (live_part r.state.value)) (sym last.1)
      ]

  -- there are as many keys as rows
  pub long_joined : length after.keys ≡ length after.rows
  long_joined =
      ap length new.keys ∙ length-append before.keys (words_of (live_part row.state.value) ∷ []) ∙ ap (λ n. n + 1) long
      ∙ sym (ap length new.rows ∙ length-append before.rows (row ∷ []))
