-- When names of symbols are equal: for the contract of `number_of`.
use Rattle.std.proofs.Common.{◌≡◌, Bool, true, false, refl, rules, ap}
use Rattle.std.specs.Prelude.{nat_eq, ◌&&◌}
use Rattle.std.specs.Cmp.{IsEquivalence}
use Rattle.std.specs.Cmp.Lexicographic.{pointwise}
use Rattle.std.proofs.lemmas.Bool.{eqb-true}
use Rattle.cs_names.proofs.Comparisons.{same_bytes}
use Rattle.cs_inputs.specs.declared.path.Root.{Root}
use Rattle.cs_inputs.specs.declared.path.Root.TheVariants.{Param, Global, Call, Wrote, Malloc}
use Rattle.cs_inputs.specs.contracts.path.RootPartialEq.TheImpl.{eq-value as root_eq}
use Rattle.cs_inputs.specs.contracts.path.PathPartialEq.TheImpl.{eq-value as path_eq}
use Rattle.cs_inputs.specs.declared.path.Path.{Path}
use Rattle.cs_terms.specs.declared.symbol.SymName.{SymName}
use Rattle.cs_terms.specs.declared.symbol.SymName.TheVariants.{Input, Guess}
use Rattle.cs_terms.specs.contracts.symbol.SymNamePartialEq.TheImpl.{eq-value}

and-true : (a b : Bool) → (a && b) ≡ true → (a ≡ true) × (b ≡ true)
and-true true b h = (refl, h)
and-true false b h = absurd (cc)

-- what `==` of names computes
abbrev pub eq : SymName → SymName → Bool
eq = eq-value.it

pub eq-laws : IsEquivalence eq
eq-laws = search rules

-- roots and paths that are equal by `==` are the same
root_eq-true : (a b : Root) → root_eq.it a b ≡ true → a ≡ b
root_eq-true (Param a) (Param b) h = ap Param (same_bytes a b h)
root_eq-true (Global a) (Global b) h = ap Global (same_bytes a b h)
root_eq-true (Call a) (Call b) h = ap Call (eqb-true a b h)
root_eq-true (Wrote a x) (Wrote b y) h =
    let both = and-true (nat_eq a b) (nat_eq x y) h in
    let calls = eqb-true a b both.0 in
    let arguments = eqb-true x y both.1 in
    λ i. Wrote (calls i) (arguments i)
root_eq-true (Malloc a) (Malloc b) h = ap Malloc (eqb-true a b h)
root_eq-true a b h = absurd (cc)

path_eq-true : (a b : Path) → path_eq.it a b ≡ true → a ≡ b
path_eq-true a b h =
    let both = and-true (root_eq.it a.root b.root) (pointwise nat_eq a.cells b.cells) h in
    let roots = root_eq-true a.root b.root both.0 in
    let cells = same_bytes a.cells b.cells both.1 in
    λ i. record { root = roots i; cells = cells i }

-- names that are equal by `==` are the same
pub eq-true : (x y : SymName) → eq x y ≡ true → x ≡ y
eq-true (Input p) (Input q) h = ap Input (path_eq-true p q h)
eq-true (Input p) (Guess q) h = absurd (cc)
eq-true (Guess p) (Input q) h = absurd (cc)
eq-true (Guess p) (Guess q) h = ap Guess (eqb-true p q h)
