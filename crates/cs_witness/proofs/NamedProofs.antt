-- When partners are named for all guesses of an evident suspect's pool, it convinces the judge and yields grounds. For the contract of `grounds_of`.
use Rattle.std.proofs.Common.{◌≡◌, ℕ, zero, suc, ℤ, List, [], ◌∷◌, ◌++◌, map, length, Some, slice_get, refl, sym, ap, ◌∙◌, subst, arith}
use Rattle.std.specs.Prelude.{All, option_map, Vec}
use Rattle.std.specs.declared.alloc.Global.{Global}
use Rattle.std.specs.Map.{keys_of}
use Rattle.std.proofs.lemmas.Option.{slice_get-map, slice_get_within}
use Rattle.cs_types.specs.declared.data_model.DataModel.{DataModel}
use Rattle.cs_inputs.specs.declared.path.Path.{Path}
use Rattle.cs_ast.specs.declared.place.Place.{Place}
use Rattle.cs_events.specs.declared.event.Event.{Event}
use Rattle.cs_events.specs.declared.operation.Operation.{Operation}
use Rattle.cs_meaning.specs.ProgramRuns.{ProgramRun}
use Rattle.cs_results.specs.declared.run.Others.{Others}
use Rattle.cs_results.specs.declared.run.Others.TheVariants.{One, Two}
use Rattle.cs_findings.specs.Runs.{AllRelated}
use Rattle.cs_findings.specs.GoodFindings.{AllOthers}
use Rattle.cs_findings.specs.Grounds.{Pair}
use Rattle.cs_judge.specs.declared.pool.Kept.{Kept}
use Rattle.cs_judge.specs.declared.pool.Partners.{Partners}
use Rattle.cs_judge.specs.declared.pool.Replay.{Replay}
use Rattle.cs_judge.specs.Proving.{Bare, IsPartner, ProvesGuess, FindAllProofs, AreProved, bare as judged}
use Rattle.cs_suspect_types.specs.declared.suspect.SuspectedGuess.{SuspectedGuess}
use Rattle.cs_witness.specs.declared.entry.Entry.{Entry}
use Rattle.cs_witness.specs.Grounding.{IsAlikeAt, HasGroundsIn}
use Rattle.cs_witness.specs.Keeping.{KeepsRuns, bare}
use Rattle.cs_witness.specs.Pooling.{IsShownReplay, AddsAllCorners, HasCornersOf, HaveProofs, AreNamed, IsEvidentRun}
use Rattle.cs_witness.proofs.EvidentPools.{have_proofs, list_alike}
use Rattle.cs_witness.proofs.Namings.{there_is}

-- an item of an image is the image of some item
mapped_at : {A B : Type 0} (f : A → B) (xs : List A) (n : ℕ) (y : B) → slice_get (map f xs) n ≡ Some y
    → (x : A) × (slice_get xs n ≡ Some x) × (f x ≡ y)
mapped_at f [] n y there = let no : ⊥ = cc in absurd no
mapped_at f (x ∷ xs) zero y there = (x, refl, cc)
mapped_at f (x ∷ xs) (suc n) y there = mapped_at f xs n y there

-- what the judge sees of a replay, from what is kept of it
abbrev seen : ProgramRun × List Event × List Kept → Bare
seen it = record { guesses = it.0.guesses; events = it.1; kept = it.2 }

judged_by_bare : (pool : List Replay) → map judged pool ≡ map seen (map bare pool)
judged_by_bare [] = refl
judged_by_bare (replay ∷ pool) = ap (λ (l : List Bare). judged replay ∷ l) (judged_by_bare pool)

module _ (old new : List Replay) (keeps : KeepsRuns old new) where
  judged_same : map judged new ≡ map judged old
  judged_same = judged_by_bare new ∙ ap (map seen) keeps ∙ sym (judged_by_bare old)

  was : (number : ℕ) (mine : Replay) → slice_get new number ≡ Some mine → (before : Replay) × (slice_get old number ≡ Some before) × (bare before ≡ bare mine)
  was number mine there =
      mapped_at bare old number (bare mine)
      (sym (ap (λ l. slice_get l number) keeps) ∙ slice_get-map bare new number ∙ ap (option_map bare) there)

  module _ (model : DataModel) (rows : List (Vec Partners Global)) (have : HaveProofs model old) (finds : FindAllProofs model old rows)
      (named : AreNamed rows new) where
    are_proved : AreProved model new
    are_proved number mine place there within =
        let before = was number mine there in
        let same : judged before.0 ≡ judged mine = ap seen before.2 in
        let guesses : length before.0.run.guesses.items ≡ length mine.run.guesses.items = ap (λ (b : Bare). length b.guesses) same in
        let below = slice_get_within old number before.0 before.1 in
        let many = finds.count in
        let row = there_is rows number (omega arith) in
        let finds_here = finds.each number before.0 row.0 before.1 row.1 in
        let few = finds_here.count in
        let partners = there_is row.0.items place (omega arith) in
        let proves = finds_here.each place partners.0 partners.1 (have number before.0 place before.1 (omega arith)) in
        record {
          partners = partners.0;
          named = ap (λ l. slice_get l place) (named number mine row.0 there row.1) ∙ partners.1;
          proves = subst (λ (b : Bare). ProvesGuess (map judged new) b place model partners.0) same
              (subst (λ (p : List Bare). ProvesGuess p (judged before.0) place model partners.0) (sym judged_same) proves);
        }

  alike_yet : (inputs : List (Path × ℤ))
      → ((number : ℕ) (mine : Replay) → slice_get old number ≡ Some mine → keys_of mine.run.inputs ≡ keys_of inputs)
      → (number : ℕ) (mine : Replay) → slice_get new number ≡ Some mine → keys_of mine.run.inputs ≡ keys_of inputs
  alike_yet inputs alike number mine there =
      let before = was number mine there in
      ap (λ (it : ProgramRun × List Event × List Kept). keys_of it.0.inputs) (sym before.2) ∙ alike number before.0 before.1

module _ (pool : List Replay) (inputs : List (Path × ℤ))
    (alike : (number : ℕ) (mine : Replay) → slice_get pool number ≡ Some mine → keys_of mine.run.inputs ≡ keys_of inputs) where
  module _ (mine : Bare) (place passed : ℕ) (at : Place)
      (operation : Operation) where
    alike_at : (number : ℕ) (pair : Pair) → IsPartner (map judged pool) mine place passed at operation number pair → IsAlikeAt pool inputs number
    alike_at number pair is =
        let it = mapped_at judged pool number is.other is.there in
        record { replay = it.0; there = it.1; paths = alike number it.0 it.1 }

    all_alike : (numbers : Others ℕ) (pairs : Others Pair) → AllRelated (IsPartner (map judged pool) mine place passed at operation) numbers pairs
        → AllOthers (IsAlikeAt pool inputs) numbers
    all_alike (One number) (One pair) are = alike_at number pair are
    all_alike (One number) (Two pair next) are = absurd are
    all_alike (Two number second) (One pair) are = absurd are
    all_alike (Two number second) (Two pair next) are = (alike_at number pair are.0, alike_at second next are.1)

  -- each guess with a proof has a ground in the pool
  has_grounds : (model : DataModel) → AreProved model pool → (mine : Replay) → slice_get pool 0 ≡ Some mine → HasGroundsIn pool mine inputs
  has_grounds model are mine there number within =
      let it = are 0 mine number there within in
      let proves = it.proves in
      record {
        guess = proves.guess;
        listed = proves.guessed.listed;
        place = record {
          at = proves.at;
          is = record {
            passed = proves.passed;
            number = proves.guessed.number;
            operation = proves.operation;
            kept = proves.guessed.kept;
          };
        };
        partners = it.partners;
        named = it.named;
        alike = all_alike (judged mine) number proves.passed proves.at proves.operation it.partners.others proves.pairs proves.are;
      }

-- what the judge and the grounds require of a pool
pub record IsProvedPool (model : DataModel) (pool : List Replay) (inputs : List (Path × ℤ)) : Type 0 where
  pub proved : AreProved model pool
  pub grounds : (mine : Replay) → slice_get pool 0 ≡ Some mine → HasGroundsIn pool mine inputs

pub proved_pool : (entry : Entry) (items : List SuspectedGuess) (run : ProgramRun) (shown : Replay) (one two three four : List Replay)
    (rows : List (Vec Partners Global))
    → IsShownReplay entry run shown → one ≡ shown ∷ [] → AddsAllCorners entry run items one two
    → (HaveProofs entry.program.now.model two → three ≡ two) → FindAllProofs entry.program.now.model three rows → KeepsRuns three four → AreNamed rows four
    → IsEvidentRun entry items run → IsProvedPool entry.program.now.model four run.inputs
proved_pool entry items run shown one two three four rows first begins adds none finds keeps named is =
    let model = entry.program.now.model in
    let more = adds.more in
    let pool : two ≡ shown ∷ more = adds.is ∙ ap (λ (l : List Replay). l ++ more) begins in
    let each : All (HasCornersOf entry run (shown ∷ more)) items = subst (λ (l : List Replay). All (HasCornersOf entry run l) items) pool adds.each in
    let have_first = have_proofs entry items run is shown first more each adds.only in
    let alike_first = list_alike entry items run is shown first more each adds.only in
    let have_two : HaveProofs model two = subst (HaveProofs model) (sym pool) have_first in
    let same : three ≡ shown ∷ more = none have_two ∙ pool in
    let have : HaveProofs model three = subst (HaveProofs model) (sym same) have_first in
    let alike = subst (λ (l : List Replay). (number : ℕ) (mine : Replay) → slice_get l number ≡ Some mine
    → keys_of mine.run.inputs ≡ keys_of run.inputs) (sym same) alike_first in
    let proved = are_proved three four keeps model rows have finds named in
    record { proved = proved; grounds = has_grounds four run.inputs (alike_yet three four keeps run.inputs alike) model proved }
