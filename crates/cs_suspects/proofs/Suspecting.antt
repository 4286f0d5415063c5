-- Suspects of chosen ends, one after another.
use Rattle.std.proofs.Common.{◌≡◌, ℕ, List, [], ◌∷◌, ◌++◌, sym, ap, ◌∙◌, subst, inl, inr, arith}
use Rattle.std.specs.Prelude.{Some, slice_get, Contains}
use Rattle.std.proofs.lemmas.List.Elements.{Contains-append_left, Contains-push, Contains-push_cases}
use Rattle.std.proofs.lemmas.Option.{same_Some, slice_get_within, get_or_from_slice_get}
use Rattle.cs_explored.specs.declared.explored.End.{End}
use Rattle.cs_state.specs.Naming.{Naming}
use Rattle.cs_suspect_types.specs.declared.suspect.Suspect.{Suspect}
use Rattle.cs_suspects.specs.Chosen.{AreAllChosen}
use Rattle.cs_suspects.specs.Suspected.{IsSuspectOf, AreSuspectsOf, AreAllSuspected}

-- some suspect ends as the end does
abbrev IsSuspected : List Suspect → End → Type 0
IsSuspected suspects end = (suspect : Suspect) × Contains suspects suspect × (suspect.what ≡ end.outcome)

-- the suspects of the numbers so far
pub record SuspectedSoFar (names : Naming) (ends : List End) (numbers : List ℕ) (suspects : List Suspect) : Type 0 where
  pub each : AreSuspectsOf names ends suspects
  pub all : (number : ℕ) (end : End) → Contains numbers number → slice_get ends number ≡ Some end → IsSuspected suspects end

nothing_in : {X : Type 0} (x : X) → Contains [] x → ⊥
nothing_in x (k, within, at) = absurd (omega (arith, within))

pub suspected_none : (names : Naming) (ends : List End) → SuspectedSoFar names ends [] []
suspected_none names ends = record {
  each = λ suspect among. absurd (nothing_in suspect among);
  all = λ number end among at. absurd (nothing_in number among);
}

pub suspected_next : (names : Naming) (ends : List End) (numbers : List ℕ) (suspects : List Suspect) (number : ℕ) (end : End) (suspect : Suspect)
    → slice_get ends number ≡ Some end → IsSuspectOf names end suspect → SuspectedSoFar names ends numbers suspects
    → SuspectedSoFar names ends (numbers ++ number ∷ []) (suspects ++ suspect ∷ [])
suspected_next names ends numbers suspects number end suspect at of_end so_far = record {
  each = λ it among. elim (Contains-push_cases suspects suspect it among) [
    | inl earlier ↦ so_far.each it earlier
    | inr same ↦
        let within = slice_get_within ends number end at in
        subst (λ (s : Suspect). (e : End) × Contains ends e × IsSuspectOf names e s) same
        (end, (number, within, get_or_from_slice_get ends number end end at), of_end)
  ];
  all = λ n it among there. elim (Contains-push_cases numbers number n among) [
    | inl earlier ↦
        let found = so_far.all n it earlier there in
        (found.0, Contains-append_left suspects (suspect ∷ []) found.0 found.1, found.2)
    | inr same ↦
        let one : end ≡ it = same_Some end it (sym at ∙ ap (slice_get ends) same ∙ there) in
        (suspect, Contains-push suspects suspect, of_end.what ∙ ap (λ (e : End). e.outcome) one)
  ];
}

pub all_suspected : (names : Naming) (ends : List End) (numbers : List ℕ) (suspects : List Suspect) → AreAllChosen ends numbers
    → SuspectedSoFar names ends numbers suspects → AreAllSuspected ends suspects
all_suspected names ends numbers suspects chosen so_far end among finding =
    let it = chosen end among finding in
    let found = so_far.all it.0 it.1 it.2 it.3 in
    (found.0, found.1, found.2 ∙ it.4)
