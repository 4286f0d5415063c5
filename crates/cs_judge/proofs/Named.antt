-- Partners that prove a guess are in the pool.
use Rattle.std.proofs.Common.{ℕ, ◌<◌, List, length}
use Rattle.std.proofs.lemmas.Option.{slice_get_within}
use Rattle.cs_types.specs.declared.data_model.DataModel.{DataModel}
use Rattle.cs_ast.specs.declared.place.Place.{Place}
use Rattle.cs_events.specs.declared.operation.Operation.{Operation}
use Rattle.cs_results.specs.declared.run.Others.{Others}
use Rattle.cs_results.specs.declared.run.Others.TheVariants.{One, Two}
use Rattle.cs_findings.specs.GoodFindings.{AllOthers}
use Rattle.cs_findings.specs.Grounds.{Pair}
use Rattle.cs_findings.specs.Runs.{AllRelated}
use Rattle.cs_judge.specs.declared.pool.Partners.{Partners}
use Rattle.cs_judge.specs.Proving.{Bare, IsPartner, ProvesGuess}

module _ (pool : List Bare) (mine : Bare) (place : ℕ) where
  all_within : (passed : ℕ) (at : Place) (operation : Operation) (numbers : Others ℕ) (pairs : Others Pair)
      → AllRelated (IsPartner pool mine place passed at operation) numbers pairs → AllOthers (λ number. number < length pool) numbers
  all_within passed at operation (One number) (One pair) it = slice_get_within pool number it.other it.there
  all_within passed at operation (Two one two) (Two first second) are =
      (slice_get_within pool one are.0.other are.0.there, slice_get_within pool two are.1.other are.1.there)
  all_within passed at operation (One number) (Two first second) are = absurd are
  all_within passed at operation (Two one two) (One pair) are = absurd are

  pub named_within : (model : DataModel) (partners : Partners) → ProvesGuess pool mine place model partners
      → AllOthers (λ number. number < length pool) partners.others
  named_within model partners it = all_within it.passed it.at it.operation partners.others it.pairs it.are
