-- An operation carries out all of a part of its act, if the beginning of that leads to what it has carried out: for the contracts of operations.
use Rattle.std.proofs.Common.{◌≡◌, ℕ, List, Result, Ok, Err, IsErr, IsErrAnd, true≢false, sym, ◌∙◌, subst}
use Rattle.cs_inputs.specs.declared.path.Path.{Path}
use Rattle.cs_terms.specs.Term.{Valuation}
use Rattle.cs_constraints.specs.Constraints.{Fits}
use Rattle.cs_events.specs.declared.input.InputKind.{InputKind}
use Rattle.cs_events.specs.Objects.{Cell}
use Rattle.cs_events.specs.Acts.{Act}
use Rattle.cs_cfg.specs.Working.{CodeState}
use Rattle.cs_regions.specs.declared.base.Base.{Base}
use Rattle.cs_state.specs.declared.state.State.{State}
use Rattle.cs_progress.specs.declared.pause.Pause.{Pause}
use Rattle.cs_progress.specs.declared.pause.Pause.TheVariants as pause
use Rattle.cs_progress.specs.declared.progress.Progress.{Progress}
use Rattle.cs_progress.specs.Acting.{Leads, WaitsFor, CarriesOut, Passes}
use Rattle.cs_progress.specs.Answering.{answers_left}
use Rattle.cs_progress.proofs.Composing.{leads_on, waits_on}

is_memory : Pause → Type 0
is_memory pause.Memory = Unit {0}
is_memory pause.Waits = ⊥

-- running out of memory isn't a wait
pub no_wait : {A : Type 0} (why : Pause) → why ≡ pause.Memory → why ≡ pause.Waits → A
unfolding is_memory
no_wait why memory waits = absurd (subst is_memory (sym memory ∙ waits) tt)

module _ (state : State) where
  -- under each valuation that fits, an act leads to another one after some answers
  abbrev pub LeadsTo : {Given : Type 0} → ℕ → ℕ → (Valuation → (Given → Act CodeState) → Act CodeState)
      → (Valuation → (Given → Act CodeState) → Act CodeState) → Type 0
  LeadsTo {Given} before after one two =
      (cells : Path → InputKind → Cell) (v : Valuation) → Fits v state.constraints → (onward : Given → Act CodeState)
      → Leads cells (answers_left state before v) (answers_left state after v) (one v onward) (two v onward)

  module _ (bases : List Base) {T : Type 0} (before after : Progress) (answer : Result T Pause) where
    -- an error that is returned is waited for
    pub handed : {Given : Type 0} (part : Valuation → (Given → Act CodeState) → Act CodeState) (value : T → Valuation → Given) (why : Pause)
        → IsErr answer × IsErrAnd answer (λ e. e ≡ why)
        → (why ≡ pause.Waits → (onward : Given → Act CodeState) → WaitsFor bases state before.used after.first (λ v. part v onward))
        → CarriesOut bases state before after answer part value
    handed part value why is waits = by_case answer is
      where
        by_case : (r : Result T Pause) → IsErr r × IsErrAnd r (λ e. e ≡ why) → CarriesOut bases state before after r part value
        by_case (Ok made) is = absurd (true≢false (sym is.0))
        by_case (Err e) is = record { through = tt; waits = λ so. waits (sym is.1 ∙ so) }

    pub handed_check : (part : Valuation → Act CodeState → Act CodeState) (why : Pause) → IsErr answer × IsErrAnd answer (λ e. e ≡ why)
        → (why ≡ pause.Waits → (act : Act CodeState) → WaitsFor bases state before.used after.first (λ v. part v act))
        → Passes bases state before after answer part
    handed_check part why is waits = by_case answer is
      where
        by_case : (r : Result T Pause) → IsErr r × IsErrAnd r (λ e. e ≡ why) → Passes bases state before after r part
        by_case (Ok made) is = absurd (true≢false (sym is.0))
        by_case (Err e) is = record { through = tt; waits = λ so. waits (sym is.1 ∙ so) }

    -- a part begins with what leads to a shorter part, which is carried out
    pub carries_on : {Given : Type 0} (middle : Progress) (part rest : Valuation → (Given → Act CodeState) → Act CodeState)
        (value : T → Valuation → Given)
        → LeadsTo before.used middle.used part rest → CarriesOut bases state middle after answer rest value
        → CarriesOut bases state before after answer part value
    carries_on middle part rest value leads carries = by_case answer carries
      where
        by_case : (r : Result T Pause) → CarriesOut bases state middle after r rest value → CarriesOut bases state before after r part value
        by_case (Ok made) carries = record {
          through = λ cells v fits onward.
              leads_on cells _ _ _ (part v onward) (rest v onward) (onward (value made v))
              (leads cells v fits onward) (carries.through cells v fits onward);
          waits = tt;
        }
        by_case (Err why) carries = record {
          through = tt;
          waits = λ waits onward cells v fits.
              waits_on cells _ _ (part v onward) (rest v onward) bases state v after.first
              (leads cells v fits onward) (carries.waits waits onward cells v fits);
        }

    pub passes_on : (middle : Progress) (part rest : Valuation → Act CodeState → Act CodeState)
        → ((cells : Path → InputKind → Cell) (v : Valuation) → Fits v state.constraints → (act : Act CodeState)
        → Leads cells (answers_left state before.used v) (answers_left state middle.used v) (part v act) (rest v act))
        → Passes bases state middle after answer rest → Passes bases state before after answer part
    passes_on middle part rest leads passes = by_case answer passes
      where
        by_case : (r : Result T Pause) → Passes bases state middle after r rest → Passes bases state before after r part
        by_case (Ok done) passes = record {
          through = λ cells v fits act.
              leads_on cells _ _ _ (part v act) (rest v act) act (leads cells v fits act) (passes.through cells v fits act);
          waits = tt;
        }
        by_case (Err why) passes = record {
          through = tt;
          waits = λ waits act cells v fits.
              waits_on cells _ _ (part v act) (rest v act) bases state v after.first (leads cells v fits act) (passes.waits waits act cells v fits);
        }
