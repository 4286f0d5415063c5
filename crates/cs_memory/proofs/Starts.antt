-- The start block of an unknown pointer is changed or added: for the contracts of `change_start` and `add_if_new`.
use Rattle.std.proofs.Common.{◌≡◌, Option, Some, None, true, false, cond, refl, sym, ap, ◌∙◌, subst}
use Rattle.std.specs.Prelude.{option_map, if◌then◌else◌, IsSome, is_some}
use Rattle.std.specs.BTreeMap.{BTreeMap, get_by, WritesThrough, Updates}
use Rattle.std.specs.Ordering.{is_eq}
use mathlib.Core.Path.{fun_ext}
use Rattle.std.specs.declared.cmp.Ordering.{Ordering}
use Rattle.std.specs.declared.cmp.Ordering.TheVariants.{Less, Equal, Greater}
use Rattle.cs_inputs.specs.declared.path.Path.{Path}
use Rattle.cs_inputs.specs.PathOrder.{path_order}
use Rattle.cs_inputs.proofs.PathOrderLaws.{path_order-tie}
use Rattle.cs_events.specs.Objects.{is_equal}
use Rattle.cs_meaning.specs.Memory as meaning
use Rattle.cs_objects.specs.declared.blocks.Block.{Block}
use Rattle.cs_objects.specs.BlockView.{block_of}
use Rattle.cs_memory.specs.MemoryView.{start_in}

-- the block exists and is changed
pub start_changed : (cmp : Path → Path → Ordering) (compare found : Path
    → Ordering) (m n : BTreeMap Path Block) (path : Path) (old new : Block) (f : meaning.Block → meaning.Block)
    → ((p q : Path) → cmp p q ≡ path_order p q) → ((q : Path) → compare q ≡ path_order path q) → ((q : Path) → found q ≡ path_order path q)
    → WritesThrough cmp compare m new n → Some old ≡ get_by found m → block_of new ≡ f (block_of old)
    → (other : Path) → start_in n other ≡ (if is_equal (path_order path other) then option_map f (start_in m other) else start_in m other)
start_changed cmp compare found m n path old new f orders compares finds writes there same other =
    let e : cmp ≡ path_order = fun_ext (λ p. fun_ext (orders p)) in
    let e' : compare ≡ path_order path = fun_ext compares in
    let e'' : found ≡ path_order path = fun_ext finds in
    let w : WritesThrough cmp (path_order path) m new n = subst (λ (k : Path → Ordering). WritesThrough cmp k m new n) e' writes in
    let w' : WritesThrough path_order (path_order path) m new n = subst (λ (k : Path → Path → Ordering). WritesThrough k (path_order path) m new n) e w in
    let there' : Some old ≡ get_by (path_order path) m = subst (λ (k : Path → Ordering). Some old ≡ get_by k m) e'' there in
    let some : IsSome (get_by (path_order path) m) = subst (λ (o : Option Block). IsSome o) there' refl in
    by_order there' (path_order path other) refl ((w'.3 some).0 other)
  where
    by_order : Some old ≡ get_by (path_order path) m → (o : Ordering) → path_order path other ≡ o
        → get_by (path_order other) n ≡ cond (is_eq o) (Some new) (get_by (path_order other) m)
        → start_in n other ≡ (if is_equal o then option_map f (start_in m other) else start_in m other)
    by_order here Less e u = ap (option_map block_of) u
    by_order here Greater e u = ap (option_map block_of) u
    by_order here Equal e u =
        let found : Some old ≡ get_by (path_order other) m = subst (λ (p : Path). Some old ≡ get_by (path_order p) m) (path_order-tie path other e) here in
        ap (option_map block_of) u ∙ (ap Some same ∙ ap (λ (b : Option Block). option_map f (option_map block_of b)) found)

-- the block doesn't exist
pub start_stays : (found : Path → Ordering) (m : BTreeMap Path Block) (path : Path) (f : meaning.Block → meaning.Block)
    → ((q : Path) → found q ≡ path_order path q) → None ≡ get_by found m
    → (other : Path) → start_in m other ≡ (if is_equal (path_order path other) then option_map f (start_in m other) else start_in m other)
start_stays found m path f finds none other =
    let e : found ≡ path_order path = fun_ext finds in
    by_order (subst (λ (k : Path → Ordering). None ≡ get_by k m) e none) (path_order path other) refl
  where
    by_order : None ≡ get_by (path_order path) m → (o : Ordering) → path_order path other ≡ o
        → start_in m other ≡ (if is_equal o then option_map f (start_in m other) else start_in m other)
    by_order none' Less e = refl
    by_order none' Greater e = refl
    by_order none' Equal e =
        let here : None ≡ get_by (path_order other) m = subst (λ (p : Path). None ≡ get_by (path_order p) m) (path_order-tie path other e) none' in
        ap (option_map block_of) (sym here) ∙ ap (λ (b : Option Block). option_map f (option_map block_of b)) here

-- the block exists, and remains the same
pub start_there : (found : Path → Ordering) (m : BTreeMap Path Block) (path : Path) (block : meaning.Block) → ((q : Path) → found q ≡ path_order path q)
    → true ≡ is_some (get_by found m) → (other : Path)
    → start_in m other ≡ (if is_equal (path_order path other) then meaning.or_new block (start_in m other) else start_in m other)
start_there found m path block finds some other =
    let e : found ≡ path_order path = fun_ext finds in
    by_order (subst (λ (k : Path → Ordering). true ≡ is_some (get_by k m)) e some) (path_order path other) refl
  where
    stays : (there : Option Block) → true ≡ is_some there → option_map block_of there ≡ meaning.or_new block (option_map block_of there)
    stays (Some b) h = refl
    stays None h = cc

    by_order : true ≡ is_some (get_by (path_order path) m) → (o : Ordering) → path_order path other ≡ o
        → start_in m other ≡ (if is_equal o then meaning.or_new block (start_in m other) else start_in m other)
    by_order some' Less e = refl
    by_order some' Greater e = refl
    by_order some' Equal e = stays (get_by (path_order other) m)
        (subst (λ (p : Path). true ≡ is_some (get_by (path_order p) m)) (path_order-tie path other e) some')

-- the block doesn't exist, and is added
pub start_added : (cmp : Path → Path → Ordering) (found : Path → Ordering) (m n : BTreeMap Path Block) (path : Path) (new : Block)
    → ((p q : Path) → cmp p q ≡ path_order p q) → ((q : Path) → found q ≡ path_order path q) → false ≡ is_some (get_by found m)
    → Updates cmp m n path (Some new) → (other : Path)
    → start_in n other ≡ (if is_equal (path_order path other) then meaning.or_new (block_of new) (start_in m other) else start_in m other)
start_added cmp found m n path new orders finds none updates other =
    let e : cmp ≡ path_order = fun_ext (λ p. fun_ext (orders p)) in
    let e' : found ≡ path_order path = fun_ext finds in
    let u : Updates path_order m n path (Some new) = subst (λ (k : Path → Path → Ordering). Updates k m n path (Some new)) e updates in
    by_order (subst (λ (k : Path → Ordering). false ≡ is_some (get_by k m)) e' none) (path_order path other) refl (u.0 other)
  where
    comes : (there : Option Block) → false ≡ is_some there → Some (block_of new) ≡ meaning.or_new (block_of new) (option_map block_of there)
    comes (Some b) h = cc
    comes None h = refl

    by_order : false ≡ is_some (get_by (path_order path) m) → (o : Ordering) → path_order path other ≡ o
        → get_by (path_order other) n ≡ cond (is_eq o) (Some new) (get_by (path_order other) m)
        → start_in n other ≡ (if is_equal o then meaning.or_new (block_of new) (start_in m other) else start_in m other)
    by_order none' Less e u = ap (option_map block_of) u
    by_order none' Greater e u = ap (option_map block_of) u
    by_order none' Equal e u = ap (option_map block_of) u
        ∙ comes (get_by (path_order other) m) (subst (λ (p : Path). false ≡ is_some (get_by (path_order p) m)) (path_order-tie path other e) none')
