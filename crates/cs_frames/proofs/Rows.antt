-- A list of objects that is built one by one: for the contract of `local_blocks`.
use Rattle.std.proofs.Common.{◌≡◌, ℕ, zero, suc, ◌+◌, ◌<◌, ◌≤◌, nat_lt, Bool, true, false, List, [], ◌∷◌, ◌++◌, length}
use Rattle.std.proofs.Common.{Option, Some, None, refl, sym, ap, ◌∙◌, arith}
use Rattle.std.specs.Prelude.{option_map}
use Rattle.std.proofs.lemmas.Bool.Decides.{nat_tests}
use Rattle.std.proofs.lemmas.Option.{slice_get_past}
use Rattle.cs_meaning.specs.Memory as meaning
use Rattle.cs_objects.specs.declared.blocks.Block.{Block}
use Rattle.cs_objects.specs.BlockView.{block_of, block_at}

-- an object of a row, after one more is appended
with_more : (row : List Block) (more : Block) (n : ℕ) → n < length row → block_at (row ++ more ∷ []) n ≡ block_at row n
with_more [] more n h = absurd (omega arith)
with_more (b ∷ row) more zero h = refl
with_more (b ∷ row) more (suc n) h = with_more row more n (omega arith)

with_last : (row : List Block) (more : Block) → block_at (row ++ more ∷ []) (length row) ≡ Some (block_of more)
with_last [] more = refl
with_last (b ∷ row) more = with_last row more

-- the length of a row, after one more is appended
pub longer : (row : List Block) (more : Block) → length (row ++ more ∷ []) ≡ length row + 1
longer [] more = refl
longer (b ∷ row) more =
    let e = longer row more in
    omega arith

module _ (wanted : ℕ → Option meaning.Block) (row : List Block) (count : ℕ) (long : length row ≡ count) (are : (n : ℕ) → n < count
    → block_at row n ≡ wanted n) where
  -- one more object, which is the wanted one
  pub one_more_block : (more : Block) → Some (block_of more) ≡ wanted count → (n : ℕ) → n < count + 1 → block_at (row ++ more ∷ []) n ≡ wanted n
  one_more_block more new n h = at (nat_lt n count) refl
    where
      at : (b : Bool) → nat_lt n count ≡ b → block_at (row ++ more ∷ []) n ≡ wanted n
      at true e =
          let within : n < count = grind (arith, nat_tests) in
          with_more row more n (omega arith) ∙ are n within
      at false e =
          let past : count ≤ n = grind (arith, nat_tests) in
          let here : n ≡ length row = omega arith in
          ap (block_at (row ++ more ∷ [])) here ∙ (with_last row more ∙ (new ∙ ap wanted (sym long ∙ sym here)))

  -- all wanted objects are there
  pub all_blocks : ((n : ℕ) → count ≤ n → wanted n ≡ None) → (n : ℕ) → block_at row n ≡ wanted n
  all_blocks none n = at (nat_lt n count) refl
    where
      at : (b : Bool) → nat_lt n count ≡ b → block_at row n ≡ wanted n
      at true e =
          let within : n < count = grind (arith, nat_tests) in
          are n within
      at false e =
          let past : count ≤ n = grind (arith, nat_tests) in
          ap (option_map block_of) (slice_get_past row n (omega arith)) ∙ sym (none n past)
