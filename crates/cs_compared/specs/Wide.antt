-- Products of more than 128 bits, and operands whose products are computed.
use Rattle.std.specs.Prelude.{◌≡◌, ◌^◌, ◌≤◌, ℤ, pos, ◌*ℤ◌, ◌+ℤ◌, ◌≤ℤ◌, ◌<ℤ◌, unsigned_abs}
use Rattle.cs_results.specs.declared.run.Others.{Others}
use Rattle.cs_results.specs.declared.run.Others.TheVariants.{One, Two}
use Rattle.cs_findings.specs.Grounds.{Pair}
use Rattle.cs_compared.specs.declared.lines.Wide.{Wide}

-- the number that a split number represents
abbrev pub value_of : Wide → ℤ
value_of wide = wide.high *ℤ pos (2 ^ 32) +ℤ wide.low

-- a number split at 2^32, rounded down
pub record IsSplit (wide : Wide) (number : ℤ) : Type 0 where
  pub value : value_of wide ≡ number
  pub low : pos 0 ≤ℤ wide.low
  pub below : wide.low <ℤ pos (2 ^ 32)

-- operands whose products can be computed: all integers of C and offsets, and both parts of an order test
pub record IsSmall (pair : Pair) : Type 0 where
  pub left : unsigned_abs pair.0 ≤ 2 ^ 66
  pub right : unsigned_abs pair.1 ≤ 2 ^ 87

-- the same for one or two others
abbrev pub AreSmall : Others Pair → Type 0
AreSmall (One first) = IsSmall first
AreSmall (Two first second) = IsSmall first × IsSmall second
