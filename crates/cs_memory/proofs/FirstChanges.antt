-- The first change of a static object, which `get` borrows: for the contract of `change_first`.
use Rattle.std.proofs.Common.{◌≡◌, ◌==◌, ℕ, Bool, true, false, List, Bor, Option, Some, None, refl, sym, ap, ◌∙◌, subst, arith}
use Rattle.std.specs.Prelude.{option_copied, slice_get}
use Rattle.std.specs.Slice.{IsItemAt}
use Rattle.std.specs.BTreeMap.{BTreeMap, get, Updates}
use Rattle.std.specs.Ordering.{nat_cmp}
use Rattle.std.proofs.lemmas.Bool.Decides.{nat_tests}
use Rattle.std.proofs.lemmas.Option.{slice_get_past, slice_get-get_or}
use Rattle.cs_meaning.specs.Memory as meaning
use Rattle.cs_objects.specs.declared.blocks.Block.{Block}
use Rattle.cs_objects.specs.BlockView.{block_of}
use Rattle.cs_memory.specs.MemoryView.{changed_at, static_at}

-- the element that is borrowed, if there is one
pub lent : {X : Type 0} (xs : List X) (i : ℕ) (r : Option (Bor X)) → IsItemAt xs i r → option_copied r ≡ slice_get xs i
lent xs i None is = sym (slice_get_past xs i is.3)
lent xs i (Some x) is =
    let found = is.3 in
    sym (slice_get-get_or xs i x.now found.0 ∙ ap Some (sym (found.1 x.now)))

-- a static object is changed for the first time
pub first_changed : (m n : BTreeMap ℕ Block) (row : List Block) (number : ℕ) (old copy new : Block) (f : meaning.Block → meaning.Block)
    → get nat_cmp m number ≡ None → slice_get row number ≡ Some old → block_of copy ≡ block_of old → block_of new ≡ f (block_of copy)
    → Updates nat_cmp m n number (Some new) → (k : ℕ) → static_at n row k ≡ changed_at f number (static_at m row) k
first_changed m n row number old copy new f none there copied same updates k = by_test (number == k) refl
  where
    by_test : (b : Bool) → (number == k) ≡ b → static_at n row k ≡ changed_at f number (static_at m row) k
    by_test true e =
        let here : number ≡ k = grind (arith, nat_tests) in
        let written : get nat_cmp n k ≡ Some new = grind (arith, nat_tests, updates.0 k, here) in
        let before : get nat_cmp m k ≡ None = subst (λ (q : ℕ). get nat_cmp m q ≡ None) here none in
        let stood : slice_get row k ≡ Some old = subst (λ (q : ℕ). slice_get row q ≡ Some old) here there in
        rw (e, written, before, stood, same, copied) refl
    by_test false e =
        let kept : get nat_cmp n k ≡ get nat_cmp m k = grind (arith, nat_tests, updates.0 k, e) in
        rw (e, kept) refl
