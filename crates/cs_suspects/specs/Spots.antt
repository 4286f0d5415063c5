-- Positions as keys of a map, which keeps them in order, and the cuts that are listed.
use Rattle.std.specs.Prelude.{ℕ, List, [], ◌∷◌, Option, None, Some, Contains}
use Rattle.std.specs.Ordering.{nat_cmp, ordering_then}
use Rattle.std.specs.declared.cmp.Ordering.{Ordering}
use Rattle.cs_ast.specs.declared.place.Place.{Place}
use Rattle.cs_results.specs.declared.result.Cut.{Cut}
use Rattle.cs_results.specs.declared.result.Cut.TheVariants.{Nodes, Splits}

-- a file, a line and a column
abbrev pub Spot : Type 0
Spot = ℕ × (ℕ × ℕ)

abbrev pub place_of : Spot → Place
place_of spot = record { file = spot.0; line = spot.1.0; column = spot.1.1 }

-- keys are ordered by file, line and column
abbrev pub spot_order : Spot → Spot → Ordering
spot_order one other =
    ordering_then (nat_cmp one.0 other.0) (ordering_then (nat_cmp one.1.0 other.1.0) (nat_cmp one.1.1 other.1.1))

-- the cut of an access with this number of offsets
abbrev pub cut_of_access : Spot × ℕ → Cut
cut_of_access entry = Splits (place_of entry.0) entry.1

-- the cut of this many nodes, if there was one
abbrev pub cut_of_nodes : Option ℕ → List Cut
cut_of_nodes None = []
cut_of_nodes (Some nodes) = Nodes nodes ∷ []

-- a cut of the nodes, or of an access
abbrev pub IsNodes : Cut → Type 0
IsNodes (Nodes nodes) = Unit {0}
IsNodes (Splits place count) = ⊥

abbrev pub IsSplits : Cut → Type 0
IsSplits (Nodes nodes) = ⊥
IsSplits (Splits place count) = Unit {0}

-- each listed cut of the nodes is one of the exploration's
abbrev pub HasNodesOf : List Cut → List Cut → Type 0
HasNodesOf cuts listed = (nodes : ℕ) → Contains listed (Nodes nodes) → Contains cuts (Nodes nodes)
