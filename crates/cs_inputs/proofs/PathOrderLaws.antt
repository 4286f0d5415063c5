-- Path order is a total order, in which only equal paths compare as equal: for the contracts of `Inputs`.
use Rattle.std.proofs.Common.{◌≡◌, ℕ, zero, suc, List, [], ◌∷◌, sym, ◌∙◌, ap, refl, subst}
use Rattle.std.specs.Cmp.{IsTotalOrder, on_total, then_total}
use Rattle.std.specs.Cmp.Lexicographic.{slice_cmp, nat_list_cmp_total}
use Rattle.std.specs.Ordering.{nat_cmp, ordering_then}
use Rattle.std.specs.declared.cmp.Ordering.{Ordering}
use Rattle.std.specs.declared.cmp.Ordering.TheVariants.{Less, Equal, Greater}
use Rattle.cs_names.proofs.Comparisons.{tied_bytes}
use Rattle.cs_inputs.specs.declared.path.Root.{Root}
use Rattle.cs_inputs.specs.declared.path.Root.TheVariants.{Param, Global, Call, Wrote, Malloc}
use Rattle.cs_inputs.specs.declared.path.Path.{Path}
use Rattle.cs_inputs.specs.PathOrder.{root_order, path_order}

-- a root as a list of numbers, with the same order
root_key : Root → List ℕ
root_key (Param name) = 0 ∷ name
root_key (Global name) = 1 ∷ name
root_key (Call call) = 2 ∷ call ∷ []
root_key (Wrote call argument) = 3 ∷ call ∷ argument ∷ []
root_key (Malloc number) = 4 ∷ number ∷ []

then-Equal : (o : Ordering) → ordering_then o Equal ≡ o
then-Equal Less = refl
then-Equal Equal = refl
then-Equal Greater = refl

root_key-order : (a b : Root) → slice_cmp nat_cmp (root_key a) (root_key b) ≡ root_order a b
unfolding root_key
root_key-order (Param a) (Param b) = refl
root_key-order (Param a) (Global b) = refl
root_key-order (Param a) (Call b) = refl
root_key-order (Param a) (Wrote b y) = refl
root_key-order (Param a) (Malloc b) = refl
root_key-order (Global a) (Param b) = refl
root_key-order (Global a) (Global b) = refl
root_key-order (Global a) (Call b) = refl
root_key-order (Global a) (Wrote b y) = refl
root_key-order (Global a) (Malloc b) = refl
root_key-order (Call a) (Param b) = refl
root_key-order (Call a) (Global b) = refl
root_key-order (Call a) (Call b) = then-Equal (nat_cmp a b)
root_key-order (Call a) (Wrote b y) = refl
root_key-order (Call a) (Malloc b) = refl
root_key-order (Wrote a x) (Param b) = refl
root_key-order (Wrote a x) (Global b) = refl
root_key-order (Wrote a x) (Call b) = refl
root_key-order (Wrote a x) (Wrote b y) = ap (ordering_then (nat_cmp a b)) (then-Equal (nat_cmp x y))
root_key-order (Wrote a x) (Malloc b) = refl
root_key-order (Malloc a) (Param b) = refl
root_key-order (Malloc a) (Global b) = refl
root_key-order (Malloc a) (Call b) = refl
root_key-order (Malloc a) (Wrote b y) = refl
root_key-order (Malloc a) (Malloc b) = then-Equal (nat_cmp a b)

root_order-total : IsTotalOrder root_order
root_order-total =
    let keys : IsTotalOrder (λ (a b : Root). slice_cmp nat_cmp (root_key a) (root_key b)) = on_total root_key nat_list_cmp_total in
    subst (λ (R : Root → Root → Ordering). IsTotalOrder R) (λ i a b. root_key-order a b i) keys

pub path_order-total : IsTotalOrder path_order
path_order-total =
    let roots : IsTotalOrder (λ (a b : Path). root_order a.root b.root) = on_total (λ (p : Path). p.root) root_order-total in
    let cells : IsTotalOrder (λ (a b : Path). slice_cmp nat_cmp a.cells b.cells) = on_total (λ (p : Path). p.cells) nat_list_cmp_total in
    then_total roots cells

-- the root with a key
root_with : List ℕ → Root
root_with [] = Param []
root_with (zero ∷ name) = Param name
root_with (suc zero ∷ name) = Global name
root_with (suc (suc zero) ∷ []) = Param []
root_with (suc (suc zero) ∷ call ∷ rest) = Call call
root_with (suc (suc (suc zero)) ∷ []) = Param []
root_with (suc (suc (suc zero)) ∷ call ∷ []) = Param []
root_with (suc (suc (suc zero)) ∷ call ∷ argument ∷ rest) = Wrote call argument
root_with (suc (suc (suc (suc kind))) ∷ []) = Param []
root_with (suc (suc (suc (suc kind))) ∷ number ∷ rest) = Malloc number

root_with-key : (r : Root) → root_with (root_key r) ≡ r
unfolding root_key root_with
root_with-key (Param name) = refl
root_with-key (Global name) = refl
root_with-key (Call call) = refl
root_with-key (Wrote call argument) = refl
root_with-key (Malloc number) = refl

root_order-tie : (a b : Root) → root_order a b ≡ Equal → a ≡ b
root_order-tie a b e =
    let keys = tied_bytes (root_key a) (root_key b) (root_key-order a b ∙ e) in
    sym (root_with-key a) ∙ ap root_with keys ∙ root_with-key b

both_tie : (first second : Ordering) → ordering_then first second ≡ Equal → (first ≡ Equal) × (second ≡ Equal)
both_tie Less second e = absurd (cc)
both_tie Equal second e = (refl, e)
both_tie Greater second e = absurd (cc)

-- paths that compare as equal are the same
pub path_order-tie : (a b : Path) → path_order a b ≡ Equal → a ≡ b
path_order-tie a b e =
    let ties = both_tie (root_order a.root b.root) (slice_cmp nat_cmp a.cells b.cells) e in
    let roots = root_order-tie a.root b.root ties.0 in
    let cells = tied_bytes a.cells b.cells ties.1 in
    λ i. record { root = roots i; cells = cells i }
