-- A `switch` shows the case of its number, and continues with that case's block: for the contract of `switch`.
use Rattle.std.proofs.Common.{◌≡◌, ℕ, ◌+◌, ◌≤◌, ℤ, List, [], ◌∷◌, length, sym, ap, ◌∙◌, subst}
use Rattle.cs_inputs.specs.declared.path.Path.{Path}
use Rattle.cs_ast.specs.declared.place.Place.{Place}
use Rattle.cs_ast.specs.TypedProgram.{TypedProgram}
use Rattle.cs_terms.specs.declared.term.Lin.{Lin}
use Rattle.cs_terms.specs.Term.{Valuation, value_of}
use Rattle.cs_constraints.specs.Constraints.{Fits}
use Rattle.cs_events.specs.declared.input.InputKind.{InputKind}
use Rattle.cs_events.specs.Objects.{Cell}
use Rattle.cs_events.specs.Acts.{Act, Goes}
use Rattle.cs_event_runs.specs.Left.{left_of}
use Rattle.cs_meaning.specs.Initials.{number_in}
use Rattle.cs_meaning.specs.Machine.{pop, cell_at}
use Rattle.cs_cfg.specs.Graph.{SwitchCase, Switch, Code}
use Rattle.cs_cfg.specs.Working.{CodeState}
use Rattle.cs_cfg.specs.CodeSteps.{enters, way_of, goes_way, do_end}
use Rattle.cs_state.specs.declared.state.State.{State}
use Rattle.cs_state.specs.Meaning.{meaning}
use Rattle.cs_state.specs.Naming.{Naming}
use Rattle.cs_progress.specs.Acting.{UsesAll, Leads}
use Rattle.cs_progress.specs.Operands.{IsNumberAt}
use Rattle.cs_progress.specs.Stepping.{ShowsCase}
use Rattle.cs_spots.specs.AtSpots.{EndsAt}
use Rattle.cs_spots.proofs.CutMeanings.{uncut_means}

module _ (code : Code) (names : Naming) (program : TypedProgram) (state : State) (at : Place) (temporary : ℕ) (cases : List SwitchCase) (otherwise : ℕ)
    (few : length state.frame.temporaries ≤ temporary + 1) (term : Lin) (is : IsNumberAt state 0 term) where
  abbrev run : Valuation → CodeState
  run v = meaning code names program state v

  abbrev switches : Valuation → Act CodeState
  switches v = do_end code (Switch at temporary cases otherwise) (run v)

  -- the act continues with the case of the term's value
  way_taken : (v : Valuation) → Fits v state.constraints → switches v ≡ goes_way code at (way_of cases otherwise (value_of v term) 0) (pop (run v))
  way_taken v fits =
      ap (λ m. goes_way code at (way_of cases otherwise (number_in (cell_at m 0)) 0) (pop m)) (uncut_means code names program v (temporary + 1) state few)
      ∙ ap (λ number. goes_way code at (way_of cases otherwise number 0) (pop (run v))) (is code names program v fits)

  -- the case comes first if no answer remains
  pub case_shows : EndsAt code (Switch at temporary cases otherwise) state.frame.spot
      → (cells : Path → InputKind → Cell) (answers : List ℤ) (v : Valuation)
      → Fits v state.constraints → answers ≡ [] → ShowsCase code state v at term (left_of cells answers (switches v))
  unfolding left_of
  case_shows stands cells answers v fits none = record {
    temporary = temporary;
    cases = cases;
    otherwise = otherwise;
    stands = stands;
    onward = λ number. Goes (enters code (way_of cases otherwise (value_of v term) 0).block (pop (run v)));
    shows = λ i. left_of cells (none i) (way_taken v fits i);
  }

  -- and otherwise the act leads to its block
  pub case_leads : (cells : Path → InputKind → Cell) (before after : List ℤ) (number : ℤ) (block : ℕ) (next : CodeState) (v : Valuation)
      → Fits v state.constraints → before ≡ number ∷ after → (way_of cases otherwise (value_of v term) 0).block ≡ block → next ≡ pop (run v)
      → Leads cells before after (switches v) (Goes (enters code block next))
  unfolding left_of UsesAll
  case_leads cells before after number block next v fits answered leads popped uses = (
    (λ i. left_of cells (answered i) (way_taken v fits i)) ∙ (λ i. Goes (enters code (leads i) (sym popped i))),
    subst (λ answers. UsesAll cells answers (goes_way code at (way_of cases otherwise (value_of v term) 0) (pop (run v)))) answered
        (subst (UsesAll cells before) (way_taken v fits) uses),
  )
