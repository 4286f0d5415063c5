-- Moving an inspected pointer: for the contract of `sum`.
use Rattle.std.proofs.Common.{◌≡◌, ◌≢◌, ℕ, ℤ, Option, None, Some, refl, ap, ◌∙◌}
use Rattle.cs_types.specs.declared.data_model.DataModel.{DataModel}
use Rattle.cs_ast.specs.declared.place.Place.{Place}
use Rattle.cs_regions.specs.declared.base.Base.{Base}
use Rattle.cs_events.specs.Objects.{Cell, NumberCell, NullCell, PointerCell, UnsetCell}
use Rattle.cs_events.specs.Acts.{Act}
use Rattle.cs_meaning.specs.Access as access
use Rattle.cs_meaning.specs.Operators as operators
use Rattle.cs_cfg.specs.Working.{CodeState}
use Rattle.cs_state.specs.Cells.{pointer_to}
use Rattle.cs_progress.specs.Seeing.{IsNoPointer}
use Rattle.cs_operators.specs.Pointing.{moved_within}

module _ (model : DataModel) (at : Place) (amount : ℤ) (size : ℕ) (onward : Cell → Act CodeState) where
  -- the act after the inspection
  abbrev pub after_look : Cell → Act CodeState
  after_look NullCell = operators.unmoved at amount (onward NullCell)
  after_look (PointerCell object offset) = moved_within model at offset amount size (λ moved. onward (PointerCell object moved))
  after_look (NumberCell n) = onward UnsetCell
  after_look UnsetCell = onward UnsetCell

  pub looks_first : (cell : Cell) → operators.sum model at cell amount size onward ≡ access.look at cell (after_look cell)
  looks_first NullCell = refl
  looks_first (PointerCell object offset) = refl
  looks_first (NumberCell n) = refl
  looks_first UnsetCell = refl

  pub moves_null : (cell : Cell) → cell ≡ NullCell → after_look cell ≡ operators.unmoved at amount (onward NullCell)
  moves_null cell null = ap after_look null

  moves_named : (base : Option Base) (offset : ℤ) → base ≢ None
      → after_look (pointer_to base offset) ≡ moved_within model at offset amount size (λ moved. onward (pointer_to base moved))
  moves_named None offset named = absurd (named refl)
  moves_named (Some base) offset named = refl

  pub moves_pointer : (cell : Cell) (base : Option Base) (offset : ℤ) → base ≢ None → cell ≡ pointer_to base offset
      → after_look cell ≡ moved_within model at offset amount size (λ moved. onward (pointer_to base moved))
  moves_pointer cell base offset named is = ap after_look is ∙ moves_named base offset named

  pub moves_nothing : (cell : Cell) → IsNoPointer cell → after_look cell ≡ onward UnsetCell
  moves_nothing (NumberCell n) none = refl
  moves_nothing UnsetCell none = refl
  moves_nothing NullCell none = absurd none
  moves_nothing (PointerCell object offset) none = absurd none
