-- Updates of integer variables: for the contracts of `updated` and `update`.
use Rattle.std.proofs.Common.{◌≡◌, ℕ, ℤ, Result, refl, sym, ap, ◌∙◌, subst}
use Rattle.cs_types.specs.declared.data_model.DataModel.{DataModel}
use Rattle.cs_types.specs.declared.int_type.IntType.{IntType}
use Rattle.cs_types.specs.Shape.{Shape, integer}
use Rattle.cs_inputs.specs.declared.path.Path.{Path}
use Rattle.cs_ast.specs.declared.place.Place.{Place}
use Rattle.cs_ast.specs.declared.typed.operator.BinOp.{BinOp}
use Rattle.cs_ast.specs.declared.typed.operator.Gives.{Gives as WhatGives}
use Rattle.cs_ast.specs.TypedProgram.{TypedProgram}
use Rattle.cs_terms.specs.declared.term.Lin.{Lin}
use Rattle.cs_terms.specs.Term.{Valuation, value_of}
use Rattle.cs_constraints.specs.Constraints.{Fits}
use Rattle.cs_events.specs.declared.outcome.RunBudgets.{RunBudgets}
use Rattle.cs_events.specs.Objects.{NumberCell}
use Rattle.cs_events.specs.Acts.{Act, Goes}
use Rattle.cs_meaning.specs.Access.{Access, store_object}
use Rattle.cs_meaning.specs.Expressions.{given, stores_to}
use Rattle.cs_meaning.specs.Machine.{Scalar, push, pop_many, with_memory, operand_at}
use Rattle.cs_meaning.specs.Operators.{operate, convert_number}
use Rattle.cs_meaning.specs.Types.{integer_of}
use Rattle.cs_cfg.specs.Graph.{Point, Code, Update}
use Rattle.cs_cfg.specs.Working.{CodeState, do_work}
use Rattle.cs_store.specs.declared.value.Value.{Value}
use Rattle.cs_store.specs.declared.value.Value.TheVariants as value
use Rattle.cs_state.specs.declared.state.State.{State}
use Rattle.cs_state.specs.declared.temporary.Temporary.{Temporary}
use Rattle.cs_state.specs.declared.temporary.Temporary.TheVariants as temporary
use Rattle.cs_state.specs.Meaning.{meaning}
use Rattle.cs_state.specs.Naming.{Naming}
use Rattle.cs_progress.specs.declared.next.Next.{Next}
use Rattle.cs_progress.specs.declared.pause.Pause.{Pause}
use Rattle.cs_progress.specs.declared.progress.Progress.{Progress}
use Rattle.cs_progress.specs.Acting.{Gives, CarriesOut, WaitsFor}
use Rattle.cs_progress.specs.Operands.{IsCellAt, IsNumberAt}
use Rattle.cs_progress.proofs.Looks.{leads_same}
use Rattle.cs_progress.proofs.Composing.{leads_on, waits_on}
use Rattle.cs_progress.proofs.Carrying.{carries_on}
use Rattle.cs_operators.proofs.Computed.{stands, AllLead}
use Rattle.cs_cells.specs.InMemory.{memory_in}
use Rattle.cs_steps.specs.Storing.{store_part}
use Rattle.cs_steps.specs.Updating.{update_part, IsGiven}
use Rattle.cs_steps.proofs.Assigning.{stored_left}

module _ (code : Code) (names : Naming) (program : TypedProgram) (state : State) (model : DataModel) (at : Place) (operator : BinOp)
    (works_in object : IntType) where
  abbrev pub updates : Valuation → (ℤ → Act CodeState) → Act CodeState
  updates = update_part model at operator works_in object (meaning code names program state)

  module _ (left right : Lin) (left_is : IsNumberAt state 1 left) (right_is : IsNumberAt state 0 right) where
    abbrev operates : Valuation → (ℤ → Act CodeState) → Act CodeState
    operates v = operate model at operator works_in (value_of v left) (value_of v right)

    abbrev converts : (ℤ → Act CodeState) → ℤ → Act CodeState
    converts onward number = convert_number model at (integer works_in) object number onward

    -- an update begins with its operator
    updates_begin : (v : Valuation) → Fits v state.constraints → (onward : ℤ → Act CodeState) → updates v onward ≡ operates v (converts onward)
    updates_begin v fits onward = λ i.
        operate model at operator works_in (left_is code names program v fits i) (right_is code names program v fits i) (converts onward)

    pub update_stands : (earlier : ℕ) (first : Next)
        → ((onward : ℤ → Act CodeState) → WaitsFor names.bases state earlier first (λ v. operates v onward))
        → (onward : ℤ → Act CodeState) → WaitsFor names.bases state earlier first (λ v. updates v onward)
    update_stands earlier first waits onward cells v fits =
        waits_on cells _ _ (updates v onward) (operates v (converts onward)) names.bases state v first
        (leads_same cells _ _ _ (updates_begin v fits onward)) (waits (converts onward) cells v fits)

    -- and then converts the result
    pub update_carries : (earlier middle later : Progress) (result : Lin) (answer : Result Lin Pause) (from : Shape) (to : IntType)
        → from ≡ integer works_in → to ≡ object → Gives state earlier.used middle.used operates (λ v. value_of v result)
        → CarriesOut names.bases state middle later answer (λ v. convert_number model at from to (value_of v result)) (λ made v. value_of v made)
        → CarriesOut names.bases state earlier later answer updates (λ made v. value_of v made)
    update_carries earlier middle later result answer from to from_is to_is gives carries =
        carries_on state names.bases earlier later answer middle updates (λ v onward. converts onward (value_of v result)) (λ made v. value_of v made)
        (λ cells v fits onward.
        leads_on cells _ _ _ (updates v onward) (operates v (converts onward)) (converts onward (value_of v result))
        (leads_same cells _ _ _ (updates_begin v fits onward)) (gives cells v fits (converts onward)))
        (subst (λ (s : Shape). CarriesOut names.bases state middle later answer (λ v. convert_number model at s object (value_of v result))
        (λ made v. value_of v made)) from_is
        (subst (λ (t : IntType). CarriesOut names.bases state middle later answer (λ v. convert_number model at from t (value_of v result))
        (λ made v. value_of v made)) to_is carries))

module _ (code : Code) (names : Naming) (program : TypedProgram) (budgets : RunBudgets) (before : State) (model : DataModel) (same : program.model ≡ model)
    (at : Place) (operator : BinOp) (access : Access) (works_in : IntType) (gives : WhatGives) where
  abbrev pub update_act : CodeState → Act CodeState
  update_act = do_work code program budgets at (Update operator access works_in gives)

  abbrev part : Valuation → (ℤ → Act CodeState) → Act CodeState
  part = updates code names program before model at operator works_in (integer_of access.ty)

  -- what follows with the number
  abbrev next : Point → Valuation → ℤ → Act CodeState
  next todo v number =
      let m = stands code names program before todo v in
      stores_to program at access 3 (Scalar (NumberCell number)) 4 (given gives (operand_at m 2) (Scalar (NumberCell number))) m

  update_is : (todo : Point) (v : Valuation) → update_act (stands code names program before todo v) ≡ part v (next todo v)
  update_is todo v =
      ap (λ (d : DataModel). update_part d at operator works_in (integer_of access.ty) (meaning code names program before) v (next todo v)) same

  -- if its number is waited for, nothing was stored yet
  pub update_waits : (earlier : ℕ) (first : Next) → ((onward : ℤ → Act CodeState) → WaitsFor names.bases before earlier first (λ v. part v onward))
      → (todo : Point) → WaitsFor names.bases before earlier first (λ v. update_act (stands code names program before todo v))
  update_waits earlier first waits todo cells v fits =
      waits_on cells _ _ (update_act (stands code names program before todo v)) (part v (next todo v)) names.bases before v first
      (leads_same cells _ _ _ (update_is todo v)) (waits (next todo v) cells v fits)

  -- an update leads to a store of its number
  pub update_leads : (stored : Lin) (left : Temporary) (place : Value) → IsCellAt before 3 place
      → IsGiven before gives 2 (temporary.Scalar (value.Number stored)) left → (earlier middle : ℕ)
      → Gives before earlier middle part (λ v. value_of v stored) → (todo : Point)
      → AllLead code names program before earlier middle (λ v. update_act (stands code names program before todo v))
      (λ v. store_part program names before at access place (temporary.Scalar (value.Number stored)) v (stored_left code names program before 4 left todo v))
  update_leads stored left place place_is left_is earlier middle through todo cells v fits =
      let m = stands code names program before todo v in
      let given_is = sym (left_is code names program v) in
      leads_on cells _ _ _ (update_act m) (next todo v (value_of v stored)) _
      (leads_on cells _ _ _ (update_act m) (part v (next todo v)) (next todo v (value_of v stored))
      (leads_same cells _ _ _ (update_is todo v)) (through cells v fits (next todo v)))
      (leads_same cells _ (next todo v (value_of v stored)) _ (λ i.
      store_object program (memory_in program names before v) before.frame.number at access (place_is code names program v i)
      (Scalar (NumberCell (value_of v stored))) (λ memory. Goes (push (given_is i) (with_memory memory (pop_many 4 m))))))
