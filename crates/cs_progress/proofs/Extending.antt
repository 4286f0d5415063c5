-- Names that extend others: for the contracts of functions that number base regions.
use Rattle.cs_state.specs.Naming.{Naming, Extends}

pub extends_same : (names : Naming) → Extends names names
extends_same names = record { syms = λ place name e. e; bases = λ place name e. e; types = λ place name e. e }

pub extends_on : (one two three : Naming) → Extends one two → Extends two three → Extends one three
extends_on one two three first second = record {
  syms = λ place name e. second.syms place name (first.syms place name e);
  bases = λ place name e. second.bases place name (first.bases place name e);
  types = λ place name e. second.types place name (first.types place name e);
}
