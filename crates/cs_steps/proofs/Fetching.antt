-- The value that an update loads, and its number in the type of the operator: for the contracts of `push_converted` and `fetch_number`.
use Rattle.std.proofs.Common.{◌≡◌, ℕ, ℤ, Bool, List, [], ◌∷◌, ◌++◌, Result, Ok, Err, IsErr, IsErrAnd, OnOk, IfErr, true≢false, sym, ap}
use Rattle.std.proofs.Common.{◌∙◌}
use Rattle.std.proofs.lemmas.List.Elements.{All-push}
use Rattle.std.proofs.lemmas.Result.{on_ok_weaker}
use Rattle.cs_types.specs.declared.data_model.DataModel.{DataModel}
use Rattle.cs_types.specs.declared.int_type.IntType.{IntType}
use Rattle.cs_types.specs.Shape.{Shape}
use Rattle.cs_ast.specs.declared.place.Place.{Place}
use Rattle.cs_ast.specs.TypedProgram.{TypedProgram}
use Rattle.cs_terms.specs.Term.{Valuation, value_of}
use Rattle.cs_terms.specs.declared.term.Lin.{Lin}
use Rattle.cs_constraints.specs.Constraints.{Fits}
use Rattle.cs_events.specs.Objects.{NumberCell}
use Rattle.cs_events.specs.Acts.{Act, Goes}
use Rattle.cs_meaning.specs.Initials.{number_in}
use Rattle.cs_meaning.specs.Machine.{Operand, cell_of, push, push_cell, to_do}
use Rattle.cs_meaning.specs.Operators.{convert_number}
use Rattle.cs_cfg.specs.Graph.{Point, Code}
use Rattle.cs_cfg.specs.Working.{CodeState}
use Rattle.cs_store.specs.declared.value.Value.TheVariants as value
use Rattle.cs_state.specs.declared.state.State.{State}
use Rattle.cs_state.specs.declared.temporary.Temporary.{Temporary}
use Rattle.cs_state.specs.declared.temporary.Temporary.TheVariants.{Scalar}
use Rattle.cs_state.specs.Cells.{operand_of}
use Rattle.cs_state.specs.Naming.{Naming}
use Rattle.cs_regions.specs.declared.base.Base.{Base}
use Rattle.cs_progress.specs.declared.pause.Pause.{Pause}
use Rattle.cs_progress.specs.declared.pause.Pause.TheVariants as pause
use Rattle.cs_progress.specs.declared.progress.Progress.{Progress}
use Rattle.cs_progress.specs.Acting.{Gives, WaitsFor}
use Rattle.cs_progress.specs.Locals.{MayAllBeIn, AreIn}
use Rattle.cs_progress.specs.Stepping.{StaysInFrame, KeepsLocals}
use Rattle.cs_progress.proofs.Looks.{leads_same}
use Rattle.cs_progress.proofs.Composing.{leads_on, waits_on}
use Rattle.cs_progress.proofs.Carrying.{no_wait}
use Rattle.cs_progress.proofs.KeptLocals.{stays, locals_kept}
use Rattle.cs_operators.proofs.Computed.{stands}
use Rattle.cs_steps.specs.Fetching.{ArePushed, MeanPushed, converts_beside, Fetches}

module _ (before after : State) {T : Type 0} (answer : Result T Pause) (first second : Temporary)
    (pushed : OnOk answer (ArePushed first second before after)) where
  pub both_stay : OnOk answer (StaysInFrame before after)
  both_stay = on_ok_weaker answer (stays (before.frame.temporaries ++ first ∷ [] ++ second ∷ []) before after) pushed

  -- what was pushed may be in the frame
  pub both_keep : (MayAllBeIn before first → MayAllBeIn before second)
      → OnOk answer (MayAllBeIn before first → (program : TypedProgram) (bases : List Base) (known : ℕ → Bool)
      → KeepsLocals program bases known before after)
  both_keep inside =
      on_ok_weaker answer
      (λ is given program bases known have.
      let here = AreIn program bases known before.frame in
      locals_kept program bases known (before.frame.temporaries ++ first ∷ [] ++ second ∷ []) before after is
      (All-push here (before.frame.temporaries ++ first ∷ []) second
      (All-push here before.frame.temporaries first have.temporaries (given program bases known have)) (inside given program bases known have)) have) pushed

-- an error that is returned is waited for
pub fetch_handed : {T : Type 0} (code : Code) (names : Naming) (program : TypedProgram) (before after : State) (earlier later : Progress)
    (answer : Result T Pause) (rest : Valuation → CodeState → Act CodeState) (why : Pause) → IsErr answer × IsErrAnd answer (λ e. e ≡ why)
    → (why ≡ pause.Waits → (todo : Point)
    → WaitsFor names.bases before earlier.used later.first (λ v. rest v (stands code names program before todo v)))
    → Fetches code names program before after earlier later answer rest
fetch_handed {T} code names program before after earlier later answer rest why is waits = by_case answer is
  where
    by_case : (r : Result T Pause) → IsErr r × IsErrAnd r (λ e. e ≡ why) → Fetches code names program before after earlier later r rest
    by_case (Ok made) is = absurd (true≢false (sym is.0))
    by_case (Err e) is = record { done = tt; waits = λ so. waits (sym is.1 ∙ so) }

module _ (code : Code) (names : Naming) (program : TypedProgram) (before : State) (model : DataModel) (at : Place) (from : Shape) (to : IntType)
    (loaded : Temporary) (term : Lin)
    (number : (v : Valuation) → Fits v before.constraints → number_in (cell_of (operand_of names.bases before.blocks v loaded)) ≡ value_of v term) where
  abbrev operand : Valuation → Operand
  operand v = operand_of names.bases before.blocks v loaded

  -- what follows with the converted number
  abbrev beside : Point → Valuation → ℤ → Act CodeState
  beside todo v made = Goes (push_cell (NumberCell made) (push (operand v) (stands code names program before todo v)))

  abbrev part : Valuation → (ℤ → Act CodeState) → Act CodeState
  part v = convert_number model at from to (value_of v term)

  begins : (todo : Point) (v : Valuation) → Fits v before.constraints
      → converts_beside model at from to (operand v) (stands code names program before todo v) ≡ part v (beside todo v)
  begins todo v fits = ap (λ n. convert_number model at from to n (beside todo v)) (number v fits)

  module _ {T : Type 0} (after : State) (earlier later : Progress) (answer : Result T Pause) where
    abbrev pub IsFetch : Type 0
    IsFetch = Fetches code names program before after earlier later answer (λ v. converts_beside model at from to (operand v))

    -- the number is converted, and both are pushed
    pub fetched : (made : Lin) → Gives before earlier.used later.used part (λ v. value_of v made)
        → OnOk answer (MeanPushed loaded (Scalar (value.Number made)) before after) → IfErr answer (λ why. why ≡ pause.Memory) → IsFetch
    fetched made gives means memory = by_case answer means memory
      where
        by_case : (r : Result T Pause) → OnOk r (MeanPushed loaded (Scalar (value.Number made)) before after) → IfErr r (λ why. why ≡ pause.Memory)
            → Fetches code names program before after earlier later r (λ v. converts_beside model at from to (operand v))
        by_case (Ok done) means memory = record {
          done = λ todo cells v fits.
              leads_on cells _ _ _ (converts_beside model at from to (operand v) (stands code names program before todo v)) (part v (beside todo v)) _
              (leads_same cells _ _ _ (begins todo v fits))
              (leads_on cells _ _ _ (part v (beside todo v)) (beside todo v (value_of v made)) _ (gives cells v fits (beside todo v))
              (leads_same cells _ _ _ (ap (λ m. Goes (to_do todo m)) (sym (means code names program v)))));
          waits = tt;
        }
        by_case (Err why) means memory = record { done = tt; waits = λ waits. no_wait why memory waits }

    -- the conversion is waited for
    pub conversion_waits : (why : Pause) → IsErr answer × IsErrAnd answer (λ e. e ≡ why)
        → (why ≡ pause.Waits → (onward : ℤ → Act CodeState) → WaitsFor names.bases before earlier.used later.first (λ v. part v onward))
        → IsFetch
    conversion_waits why is waits =
        fetch_handed code names program before after earlier later answer (λ v. converts_beside model at from to (operand v)) why is
        (λ so todo cells v fits.
        waits_on cells _ _ (converts_beside model at from to (operand v) (stands code names program before todo v)) (part v (beside todo v))
        names.bases before v later.first (leads_same cells _ _ _ (begins todo v fits)) (waits so (beside todo v) cells v fits))
