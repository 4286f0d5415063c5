-- What a conversion doesn't change: for the contract of `convert`.
use Rattle.std.proofs.Common.{◌≡◌, ◌<◌, ℤ, pos, Bool, true, false, true≢false, List, [], ◌∷◌, length, drop, map, Option, None, Some}
use Rattle.std.proofs.Common.{slice_get, if◌then◌else◌, refl, sym, ap, ◌∙◌, arith}
use Rattle.std.specs.Option.{unwrap_or}
use Rattle.std.proofs.lemmas.List.{length-map, length-reverse}
use Rattle.cs_types.specs.declared.data_model.DataModel.{DataModel}
use Rattle.cs_types.specs.declared.int_type.IntType.{IntType}
use Rattle.cs_types.specs.Shape.{Shape, integer}
use Rattle.cs_ast.specs.declared.place.Place.{Place}
use Rattle.cs_ast.specs.TypedProgram.{TypedProgram}
use Rattle.cs_terms.specs.declared.term.Lin.{Lin}
use Rattle.cs_terms.specs.Term.{Valuation, value_of}
use Rattle.cs_regions.specs.declared.base.Base.{Base}
use Rattle.cs_events.specs.Objects.{NumberCell, NullCell, UnsetCell}
use Rattle.cs_events.specs.Acts.{Act, Goes}
use Rattle.cs_meaning.specs.Initials.{number_in}
use Rattle.cs_meaning.specs.Machine.{Operand, Scalar as OfCell, push, push_cell, pop, operand_at, cell_of, cell_at}
use Rattle.cs_meaning.specs.Operators as operators
use Rattle.cs_cfg.specs.Graph.{Point, Code}
use Rattle.cs_cfg.specs.Working.{CodeState}
use Rattle.cs_store.specs.declared.value.Value.TheVariants as value
use Rattle.cs_state.specs.declared.state.State.{State}
use Rattle.cs_state.specs.declared.temporary.Temporary.{Temporary}
use Rattle.cs_state.specs.declared.temporary.Temporary.TheVariants as temporary
use Rattle.cs_state.specs.Cells.{Blocks, block_of, is_there, pointer_to, operand_of}
use Rattle.cs_state.specs.Meaning.{meaning}
use Rattle.cs_state.specs.Naming.{Naming}
use Rattle.cs_operators.specs.Pointing.{is_number}
use Rattle.cs_operators.proofs.Computed.{stands}

-- the newest operand, popped and pushed again
put_back : (stack : List Operand) (other : Operand) → 0 < length stack → unwrap_or (slice_get stack 0) other ∷ drop 1 stack ≡ stack
put_back [] other some = absurd (omega (arith, some))
put_back (newest ∷ stack) other some = refl

-- popping the newest operand and pushing it again changes nothing
pub same_again : (code : Code) (names : Naming) (program : TypedProgram) (state : State) (v : Valuation) → 0 < length state.frame.temporaries
    → push (operand_at (meaning code names program state v) 0) (pop (meaning code names program state v)) ≡ meaning code names program state v
same_again code names program state v some =
    let m = meaning code names program state v in
    let as_many = length-reverse (map (operand_of names.bases state.blocks v) state.frame.temporaries)
    ∙ length-map state.frame.temporaries (operand_of names.bases state.blocks v) in
    ap (λ stack. record m { frame = record m.frame { stack = stack } }) (put_back m.frame.stack (OfCell UnsetCell) (omega (arith, some, as_many)))

module _ (model : DataModel) (at : Place) (from : Shape) (ty : IntType) (bases : List Base) (blocks : Blocks) (v : Valuation)
    (onward : Operand → Act CodeState) where
  pointer_kept : (base : Option Base) (offset : ℤ)
      → operators.convert model at from (integer ty) (OfCell (pointer_to base offset)) onward ≡ onward (OfCell (pointer_to base offset))
  pointer_kept None offset = refl
  pointer_kept (Some base) offset = refl

  start_kept : (there : Bool) (base : Option Base) (offset : ℤ)
      → operators.convert model at from (integer ty) (OfCell (if there then pointer_to base offset else NullCell)) onward
      ≡ onward (OfCell (if there then pointer_to base offset else NullCell))
  start_kept true base offset = pointer_kept base offset
  start_kept false base offset = refl

  -- a conversion to an integer type keeps what isn't a number
  pub kept : (operand : Temporary) → is_number operand ≡ false
      → operators.convert model at from (integer ty) (operand_of bases blocks v operand) onward ≡ onward (operand_of bases blocks v operand)
  kept (temporary.Scalar (value.Number term)) other = absurd (true≢false other)
  kept (temporary.Scalar value.Null) other = refl
  kept (temporary.Scalar (value.At base offset)) other = pointer_kept (slice_get bases base) (value_of v offset)
  kept (temporary.Scalar (value.Start base offset)) other = start_kept (is_there v (block_of blocks base)) (slice_get bases base) (pos offset)
  kept (temporary.Scalar value.Unset) other = refl
  kept (temporary.Whole values) other = refl
  kept temporary.Nothing other = refl

  -- a number is converted
  number_converted : (operand : Temporary) (number : ℤ) → is_number operand ≡ true
      → ((term : Lin) → operand ≡ temporary.Scalar (value.Number term) → value_of v term ≡ number)
      → operators.convert model at from (integer ty) (operand_of bases blocks v operand) onward
      ≡ operators.convert_number model at from ty number (λ made. onward (OfCell (NumberCell made)))
  number_converted (temporary.Scalar (value.Number term)) number holds is =
      ap (λ n. operators.convert_number model at from ty n (λ made. onward (OfCell (NumberCell made)))) (is term refl)
  number_converted (temporary.Scalar value.Null) number holds is = absurd (true≢false (sym holds))
  number_converted (temporary.Scalar (value.At base offset)) number holds is = absurd (true≢false (sym holds))
  number_converted (temporary.Scalar (value.Start base offset)) number holds is = absurd (true≢false (sym holds))
  number_converted (temporary.Scalar value.Unset) number holds is = absurd (true≢false (sym holds))
  number_converted (temporary.Whole values) number holds is = absurd (true≢false (sym holds))
  number_converted temporary.Nothing number holds is = absurd (true≢false (sym holds))

-- the conversion of a number in a state
pub is_converted : (model other : DataModel) → model ≡ other → (at : Place) (from : Shape) (ty : IntType)
    (code : Code) (names : Naming) (program : TypedProgram) (state : State) (todo : Point) (v : Valuation) (operand : Temporary)
    → is_number operand ≡ true
    → operand_at (meaning code names program state v) 0 ≡ operand_of names.bases state.blocks v operand
    → (number : ℤ) → number_in (cell_at (meaning code names program state v) 0) ≡ number
    → operators.convert model at from (integer ty) (operand_at (stands code names program state todo v) 0)
    (λ made. Goes (push made (pop (stands code names program state todo v))))
    ≡ operators.convert_number other at from ty number
    (λ made. Goes (push_cell (NumberCell made) (pop (stands code names program state todo v))))
is_converted model other same at from ty code names program state todo v operand is_one operand_is number is =
    let onward : Operand → Act CodeState = λ made. Goes (push made (pop (stands code names program state todo v))) in
    (λ i. operators.convert (same i) at from (integer ty) (operand_is i) onward)
    ∙ number_converted other at from ty names.bases state.blocks v onward operand number is_one
    (λ term is_term. sym (ap (λ o. number_in (cell_of (operand_of names.bases state.blocks v o))) is_term)
    ∙ sym (ap (λ o. number_in (cell_of o)) operand_is) ∙ is)
