-- Base regions that compare equal are the same: for the contract of `number_of`.
use Rattle.std.proofs.Common.{◌≡◌, true, false, refl, rules, ap, ◌&&◌, Bool}
use Rattle.std.specs.Prelude.{nat_eq}
use Rattle.std.specs.Cmp.Lexicographic.{pointwise}
use Rattle.cs_names.proofs.Comparisons.{same_bytes, equal_to_same}
use Rattle.cs_inputs.specs.declared.path.Path.{Path}
use Rattle.cs_inputs.specs.declared.path.Root.{Root}
use Rattle.cs_inputs.specs.declared.path.Root.TheVariants.{Param, Global as GlobalRoot, Call, Wrote, Malloc}
use Rattle.cs_inputs.specs.contracts.path.RootPartialEq.TheImpl as root
use Rattle.cs_inputs.specs.contracts.path.PathPartialEq.TheImpl as path
use Rattle.cs_regions.specs.declared.base.Base.{Base}
use Rattle.cs_regions.specs.declared.base.Base.TheVariants.{Entry, Global, Literal, Local, Heap}
use Rattle.cs_regions.specs.contracts.base.BasePartialEq.TheImpl.{eq-value}

same_root : (x y : Root) → root.eq-value.it x y ≡ true → x ≡ y
same_root (Param a) (Param b) e = ap Param (same_bytes a b e)
same_root (GlobalRoot a) (GlobalRoot b) e = ap GlobalRoot (same_bytes a b e)
same_root (Call a) (Call b) e = search rules
same_root (Wrote a x) (Wrote b y) e = search rules
same_root (Malloc a) (Malloc b) e = search rules
same_root x y e = cc

both : (a b : Bool) → a && b ≡ true → (a ≡ true) × (b ≡ true)
both true b e = (refl, e)
both false b e = cc

same_path : (x y : Path) → path.eq-value.it x y ≡ true → x ≡ y
same_path x y e =
    let parts = both (root.eq-value.it x.root y.root) (pointwise nat_eq x.cells y.cells) e in
    let roots = same_root x.root y.root parts.0 in
    let cells = same_bytes x.cells y.cells parts.1 in
    λ i. record { root = roots i; cells = cells i }

pub same_base : (x y : Base) → eq-value.it x y ≡ true → x ≡ y
same_base (Entry p) (Entry q) e = ap Entry (same_path p q e)
same_base (Global a) (Global b) e = search rules
same_base (Literal a) (Literal b) e = search rules
same_base (Local f a) (Local g b) e = search rules
same_base (Heap a) (Heap b) e = search rules
same_base x y e = cc

root_itself : (x : Root) → root.eq-value.it x x ≡ true
root_itself (Param a) = equal_to_same a a refl
root_itself (GlobalRoot a) = equal_to_same a a refl
root_itself (Call a) = search rules
root_itself (Wrote a x) = search rules
root_itself (Malloc a) = search rules

path_itself : (x : Path) → path.eq-value.it x x ≡ true
path_itself x = rw (root_itself x.root, equal_to_same x.cells x.cells refl) refl

pub base_itself : (x : Base) → eq-value.it x x ≡ true
base_itself (Entry p) = path_itself p
base_itself (Global a) = search rules
base_itself (Literal a) = search rules
base_itself (Local f a) = search rules
base_itself (Heap a) = search rules
