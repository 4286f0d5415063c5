-- The order tests of a moved pointer: for the contract of `moved`.
use Rattle.std.proofs.Common.{◌≡◌, ◌+ℤ◌, ◌-ℤ◌, ◌*ℤ◌, neg_ℤ, ℕ, ℤ, pos, negsuc, sym, arith}
use Rattle.std.proofs.lemmas.Int.{ints}
use Rattle.cs_types.specs.declared.data_model.DataModel.{DataModel}
use Rattle.cs_types.specs.DataModel.{offset_bound_of}
use Rattle.cs_ast.specs.declared.place.Place.{Place}
use Rattle.cs_events.specs.declared.operation.Operation.TheVariants.{Sum}
use Rattle.cs_events.specs.Acts.{Act, Asks}
use Rattle.cs_meaning.specs.Access.{ordered}
use Rattle.cs_cfg.specs.Working.{CodeState}
use Rattle.cs_operators.specs.Pointing.{moved_within}

-- minus a number
pub back : (n : ℤ) → n *ℤ negsuc 0 ≡ neg_ℤ n
back n = grind (arith, ints)

-- the distance of a number from a bound
pub up_to : (n bound : ℤ) → (n *ℤ negsuc 0) +ℤ bound ≡ bound -ℤ n
up_to n bound = grind (arith, ints)

module _ (model : DataModel) (at : Place) (offset amount : ℤ) (size : ℕ) (onward : ℤ → Act CodeState) where
  -- what comes after the second order test, and after the first
  abbrev pub after_second : Act CodeState
  after_second = Asks at (Sum offset amount size) onward

  abbrev pub after_first : Act CodeState
  after_first = ordered at (pos (offset_bound_of model) -ℤ offset) (neg_ℤ (amount *ℤ pos size)) after_second

  pub first_test : (shifted bytes : ℤ) → shifted ≡ offset +ℤ pos (offset_bound_of model) → bytes ≡ amount *ℤ pos size
      → moved_within model at offset amount size onward ≡ ordered at shifted bytes after_first
  first_test shifted bytes is_shifted is_bytes = λ i. ordered at (sym is_shifted i) (sym is_bytes i) after_first

  pub second_test : (left bytes : ℤ) → left ≡ pos (offset_bound_of model) -ℤ offset → bytes ≡ neg_ℤ (amount *ℤ pos size)
      → after_first ≡ ordered at left bytes after_second
  second_test left bytes is_left is_bytes = λ i. ordered at (sym is_left i) (sym is_bytes i) after_second
