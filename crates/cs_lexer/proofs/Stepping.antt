-- How far bytes move a position: for `spot_after`.
use Rattle.std.proofs.Common.{◌≡◌, ℕ, List, drop}
use Rattle.cs_lexer.specs.declared.spot.Spot.{Spot}
use Rattle.cs_lexer.specs.Spots.{spot_after, IsWithin}

-- so many of the first bytes lead to this position
pub record Stepped (spot : Spot) (bytes : List ℕ) (index : ℕ) (at : Spot) : Type 0 where
  pub same : spot_after spot bytes ≡ spot_after at (drop index bytes)
  pub within : IsWithin spot index at
