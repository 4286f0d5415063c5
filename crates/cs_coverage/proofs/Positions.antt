-- A closed graph covers all positions of runs without guesses, under their own numbers: for `CoversPositions`, `CoversOwn` and `Covers`.
use Rattle.std.proofs.Common.{ℕ, List, [], refl, ◌∙◌}
use Rattle.std.specs.Prelude.{Bool}
use Rattle.cs_ast.specs.TypedProgram.{TypedProgram}
use Rattle.cs_events.specs.declared.outcome.RunBudgets.{RunBudgets}
use Rattle.cs_events.specs.Acts.{Act}
use Rattle.cs_events.specs.Runs.{Setting, Log, read_cell}
use Rattle.cs_event_runs.specs.Left.{left_of}
use Rattle.cs_cfg.specs.Graph.{Code}
use Rattle.cs_cfg.specs.Working.{CodeState}
use Rattle.cs_regions.specs.Numbering.{IsNumbered}
use Rattle.cs_terms.specs.Term.{Valuation}
use Rattle.cs_state.specs.declared.state.State.{State}
use Rattle.cs_state.specs.Meaning.{StandsFor}
use Rattle.cs_state.specs.Naming.{Naming, naming}
use Rattle.cs_state.specs.Valuations.{cell_read}
use Rattle.cs_explored.specs.declared.explored.Explored.{Explored}
use Rattle.cs_explored.specs.declared.watch.Rule.{Rule}
use Rattle.cs_cfg.specs.IntegerCode.{HasIntegerCode}
use Rattle.cs_progress.specs.Locals.{HasLocalsAlone}
use Rattle.cs_successors.specs.EntryRuns.{setting_with}
use Rattle.cs_successors.specs.Coming.{IsAt}
use Rattle.cs_coverage.specs.Closing.{AreNames, IsClosed}
use Rattle.cs_coverage.specs.Covering.{HasAllNodes, Covers}
use Rattle.cs_coverage.specs.Positions.{CoversPositions, CoversOwn}
use Rattle.cs_coverage.proofs.Coverage.{stands_at_row, stands_at_end}
use Rattle.cs_coverage.proofs.LiveAgreement.{agrees_on_live}
use Rattle.cs_coverage.proofs.LocalsRead.{any_cells}

-- names extend themselves
pub themselves : (names : Naming) → IsNumbered names.bases → AreNames names names
themselves names numbered = record {
  extend = record { syms = λ place name there. there; bases = λ place name there. there; types = λ place name there. there };
  numbered = numbered;
}

module _ (code : Code) (program : TypedProgram) (budgets : RunBudgets) (names : Naming) (state : State) {known : ℕ → Bool}
    (locals : HasLocalsAlone program names.bases known state) where
  -- a state of integer code that a run has reached represents it, as cells of inputs don't matter
  pub stands_for : HasIntegerCode code program state.frame.spot.function → (setting : Setting) (valuation : Valuation) (left : Act CodeState)
      (log : Log) → IsAt code program budgets names state setting valuation left log
      → StandsFor code program budgets names state valuation (left_of (read_cell setting) [] left) log
  stands_for integers setting valuation left log at = record {
    fits = at.fits;
    left =
        at.same
        ∙ any_cells program names known state locals valuation code budgets integers (read_cell setting)
        (cell_read state.model names.syms valuation);
    passed = at.passed;
  }

module _ (code : Code) (program : TypedProgram) (entry : ℕ) (budgets : RunBudgets) (rules : List Rule) (explored : Explored)
    (numbered : IsNumbered (naming explored.tables).bases)
    (closed : HasAllNodes explored.cuts.items
    → IsClosed code program entry budgets rules (naming explored.tables) explored.rows.items explored.ends.items (λ number. ⊥)) where
  abbrev names : Naming
  names = naming explored.tables

  abbrev are : AreNames names names
  are = themselves names numbered

  -- the states of rows and ends are of integer code, in which no cells of inputs matter
  pub covers_own : CoversOwn code program entry budgets rules explored
  covers_own = record {
    positions = λ all inputs steps left log has none.
        let at = stands_at_row code program entry budgets rules names explored.rows.items explored.ends.items (closed all) names are inputs steps log steps
        left log refl has in
        let state = ((closed all).states at.number at.row at.there).integer names are in
        record {
          position = record {
            number = at.number;
            row = at.row;
            there = at.there;
            valuation = at.valuation;
            stands = stands_for code program budgets names at.row.state.value state.locals state.integers (setting_with program budgets inputs []) at.valuation
                left log at.at;
          };
          phase = at.phase;
          agrees = at.agrees;
        };
    endings = λ all inputs steps outcome log runs none.
        let at = stands_at_end code program entry budgets rules names explored.rows.items explored.ends.items (closed all) names are inputs steps log steps
        outcome log refl runs in
        record {
          ending = record {
            number = at.number;
            end = at.end;
            there = at.there;
            ended = at.ended;
            last = at.last;
            before = at.before;
            ends_with = at.ends_with;
            valuation = at.valuation;
            stands = stands_for code program budgets names at.end.state.value at.locals at.integers (setting_with program budgets inputs []) at.valuation
                at.last at.before at.at;
            returned = at.returned;
          };
          phase = at.phase;
          agrees = at.agrees;
        };
  }

  -- and the same under the run's own numbers of all symbols of their live parts
  pub covers_live : Covers code program entry budgets rules explored
  covers_live = record {
    positions = λ all inputs steps left log has none.
        let at = stands_at_row code program entry budgets rules names explored.rows.items explored.ends.items (closed all) names are inputs steps log steps
        left log refl has in
        let row = (closed all).states at.number at.row at.there in
        let state = row.integer names are in
        record {
          number = at.number;
          row = at.row;
          there = at.there;
          stands = record {
            valuation = at.valuation;
            stands = stands_for code program budgets names at.row.state.value state.locals state.integers (setting_with program budgets inputs []) at.valuation
                left log at.at;
            agrees = agrees_on_live program names.bases at.row.state.value _ at.valuation row.plain at.agrees;
            phase = at.phase;
          };
        };
    endings = λ all inputs steps outcome log runs none.
        let at = stands_at_end code program entry budgets rules names explored.rows.items explored.ends.items (closed all) names are inputs steps log steps
        outcome log refl runs in
        record {
          number = at.number;
          end = at.end;
          there = at.there;
          ended = at.ended;
          last = at.last;
          before = at.before;
          ends_with = at.ends_with;
          stands = record {
            valuation = at.valuation;
            stands = stands_for code program budgets names at.end.state.value at.locals at.integers (setting_with program budgets inputs []) at.valuation
                at.last at.before at.at;
            agrees = agrees_on_live program names.bases at.end.state.value _ at.valuation at.plain at.agrees;
            phase = at.phase;
          };
        };
  }

  -- so all positions are covered
  pub covers_positions : CoversPositions code program entry budgets explored
  covers_positions = record {
    positions = λ all inputs steps left log has none. (covers_own.positions all inputs steps left log has none).position;
    endings = λ all inputs steps outcome log runs none. (covers_own.endings all inputs steps outcome log runs none).ending;
  }
