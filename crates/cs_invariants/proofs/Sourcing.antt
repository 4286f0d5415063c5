-- During an exploration, rows and ends have sources: for the contracts of `explore`, `begin`, `expand` and `expand_all`.
use Rattle.std.proofs.Common.{◌≡◌, ℕ, Bool, true, false, List, [], ◌∷◌, ◌++◌, map, Some, length, slice_get, refl, sym, ap, ◌∙◌, subst}
use Rattle.std.specs.Global.{Box}
use Rattle.std.proofs.lemmas.List.{append-nil}
use Rattle.cs_ast.specs.TypedProgram.{TypedProgram}
use Rattle.cs_events.specs.declared.outcome.RunBudgets.{RunBudgets}
use Rattle.cs_cfg.specs.Graph.{Code}
use Rattle.cs_terms.specs.Table.{HasEachOnce}
use Rattle.cs_regions.specs.Numbering.{IsNumbered}
use Rattle.cs_meaning.specs.Machine.{routine_of}
use Rattle.cs_meaning.specs.Steps.{parameters_of}
use Rattle.cs_results.specs.declared.result.Cut.{Cut}
use Rattle.cs_state.specs.declared.state.State.{State}
use Rattle.cs_state.specs.declared.tables.Tables.{Tables}
use Rattle.cs_state.specs.Naming.{Naming, naming, Extends}
use Rattle.cs_state.specs.Starting.{IsStart, DifferInName}
use Rattle.cs_keys.specs.Live.{live_part}
use Rattle.cs_keys.specs.Words.{words_of}
use Rattle.cs_graph.specs.Adding.{with_work}
use Rattle.cs_graph.specs.Waiting.{IsGiven}
use Rattle.cs_explored.specs.declared.child.Child.{Child}
use Rattle.cs_explored.specs.declared.explored.End.{End}
use Rattle.cs_explored.specs.declared.explored.Explored.{Explored}
use Rattle.cs_explored.specs.declared.explored.Row.{Row}
use Rattle.cs_explored.specs.declared.findings.Findings.{Findings}
use Rattle.cs_explored.specs.declared.watch.Rule.{Rule}
use Rattle.cs_explored.specs.Found.{IsPlaced}
use Rattle.cs_explored.specs.Placing.{RowGraph, child_row, first_row, end_of_row, PlacesFirst, PlacesUntilFull, PlacesChildren, KeepsEnds, AddsEnds}
use Rattle.cs_explored.specs.Placing.{AddsCuts}
use Rattle.cs_successors.specs.Coming.{StateEnd, ComesOfState}
use Rattle.cs_successors.specs.declared.exploration.Exploration.{Exploration}
use Rattle.cs_successors.specs.Explorations.{code_of, limits_of}
use Rattle.cs_coverage.specs.Closing.{Waits, IsOpen, AreNames}
use Rattle.cs_coverage.proofs.ClosedGraphs.{earlier_names}
use Rattle.cs_coverage.proofs.Positions.{themselves}
use Rattle.cs_coverage.proofs.StartBlocks.{no_blocks}
use Rattle.cs_exactness.specs.Graphs.{IsExactGraph}
use Rattle.cs_exactness.specs.Sources.{IsFirstRow, ComesOfRow, AreSourced, IsSourcedGraph, UnderNames}
use Rattle.cs_exactness.proofs.ExactGraphs.{exact_graph}
use Rattle.cs_exactness.proofs.FirstStates.{first_state}
use Rattle.cs_exactness.proofs.SourcedGraphs.{sources_given, sources_expanded, sources_refused, sources_nothing, sources_begun, sourced_first}
use Rattle.cs_exactness.proofs.SourcedRows.{sourced_but}
use Rattle.cs_exactness.proofs.Walking.{integer_row}
use Rattle.cs_guesses.specs.Graphs.{IsGuessedGraph}
use Rattle.cs_guesses.proofs.Asked.{are_asked}
use Rattle.cs_guesses.proofs.Cornered.{are_cornered}
use Rattle.cs_guesses.proofs.Real.{are_real}
use Rattle.cs_invariants.specs.Exploring.{program_of, ExploresIntegers, HasSources, HasRefused, IsDone}
use Rattle.cs_invariants.proofs.Exploring.{ComesOf}

module _ (exploration : Exploration) (entry : ℕ) (explores : ExploresIntegers exploration entry) where
  abbrev code : Code
  code = code_of exploration

  abbrev program : TypedProgram
  program = program_of exploration

  abbrev budgets : RunBudgets
  budgets = limits_of exploration

  abbrev rules : List Rule
  rules = exploration.rules.now

  abbrev IsGraph : Naming → RowGraph → List End → (List (ℕ × ℕ) → ℕ → Type 0) → Type 0
  IsGraph names graph ends Open = IsSourcedGraph code program entry budgets names rules graph ends Open

  -- one more row was refused, whose source is a row too
  abbrev pub IsRefused : Findings → Type 0
  IsRefused findings = HasRefused exploration entry (naming findings.tables) findings.graph.rows findings.ends.items findings.graph.nodes

  -- the first row
  module _ (before after : Findings) (state : Box State) (start : IsStart code program entry (naming before.tables) state.value)
      (differ : DifferInName (parameters_of (routine_of program entry))) (once : HasEachOnce (naming before.tables).syms) where
    first_is : (names : Naming) → AreNames (naming before.tables) names → HasEachOnce names.syms
        → IsFirstRow code program entry budgets names rules (first_row state)
    first_is names are each = record {
      itself = refl;
      no_event = refl;
      no_guess = refl;
      first =
          first_state code program entry budgets (naming before.tables) names state.value start are.extend are.numbered once each explores.works differ
          (no_blocks code program entry (naming before.tables) state.value start explores.works.parameters) rules start.phase;
    }

    begun : (added : Bool) → before.graph.keys ≡ [] → before.graph.rows ≡ []
        → IsPlaced (words_of (live_part state.value)) (first_row state) added before after → (names : Naming)
        → AreNames (naming before.tables) names → HasEachOnce names.syms → IsGraph names after.graph [] Waits
    begun false no_keys no_rows placed names are each =
        subst (λ (graph : RowGraph). IsGraph names graph [] Waits) (sym placed.0.2)
        (sources_nothing code program entry budgets names rules before.graph no_keys no_rows)
    begun true no_keys no_rows placed names are each =
        sources_begun code program entry budgets names rules before.graph after.graph (first_row state) no_keys no_rows placed.0 (first_is names are each)

    pub begun_sources : (added : Bool) → before.graph.keys ≡ [] → before.graph.rows ≡ [] → before.ends.items ≡ [] → KeepsEnds before after
        → IsPlaced (words_of (live_part state.value)) (first_row state) added before after → HasSources exploration entry Waits after
    begun_sources added no_keys no_rows no_ends keeps placed names are each =
        subst (λ (ends : List End). IsGraph names after.graph ends Waits) (sym (keeps.ends ∙ no_ends))
        (begun added no_keys no_rows placed names (subst (λ (tables : Tables). AreNames (naming tables) names) keeps.tables are) each)

    -- or it was refused
    pub begun_refused : before.graph.rows ≡ [] → before.ends.items ≡ [] → KeepsEnds before after
        → IsPlaced (words_of (live_part state.value)) (first_row state) false before after → IsRefused after
    begun_refused no_rows no_ends keeps placed = record {
      full = subst (λ (graph : RowGraph). length graph.rows ≡ graph.nodes) (sym placed.0.2) placed.0.1;
      refused = first_row state;
      sources = λ names are each.
          let rows : after.graph.rows ≡ [] = ap (λ (graph : RowGraph). graph.rows) placed.0.2 ∙ no_rows in
          let known = subst (λ (tables : Tables). AreNames (naming tables) names) keeps.tables are in
          subst (λ (all : List Row). AreSourced code program entry budgets names rules (all ++ first_row state ∷ []) after.ends.items (λ number. ⊥))
          (sym rows)
          (subst (λ (ends : List End). AreSourced code program entry budgets names rules (first_row state ∷ []) ends (λ number. ⊥))
          (sym (keeps.ends ∙ no_ends))
          (sourced_first code program entry budgets names rules (first_row state) (λ number. ⊥) (first_is names known each)));
    }

  -- the next row is taken from the worklist
  pub given_sources : (before : Findings) (graph : RowGraph) (row : ℕ) → IsGiven row before.graph.work graph.work
      → graph ≡ with_work graph.work before.graph
      → HasSources exploration entry Waits before → HasSources exploration entry (IsOpen row) (record before { graph = graph })
  given_sources before graph row given rest sources names are each =
      sources_given code program entry budgets names rules before.graph graph before.ends.items row given rest (sources names are each)

  -- the successors of a row were added, as far as the budget of nodes allowed
  module _ (before ended cut after : Findings) (tables : Tables) (row : ℕ) (from : Row) (there : slice_get before.graph.rows row ≡ Some from)
      (made : List Child) (endings : List StateEnd) (cuts : List Cut) (extends : Extends (naming before.tables) (naming tables))
      (adds : AddsEnds row endings (record before { tables = tables }) ended) (cutting : AddsCuts cuts ended cut) (keeps : KeepsEnds cut after)
      (comes : ComesOf exploration (naming tables) from.state.value made endings cuts) (gone : ¬ Waits before.graph.work row)
      (sources : HasSources exploration entry (IsOpen row) before) where
    ends_are : after.ends.items ≡ before.ends.items ++ map (end_of_row row) endings
    ends_are = keeps.ends ∙ cutting.ends ∙ adds.ends

    tables_are : after.tables ≡ tables
    tables_are = keeps.tables ∙ cutting.rows.tables ∙ adds.rows.tables

    graph_is : cut.graph ≡ before.graph
    graph_is = cutting.rows.graph ∙ adds.rows.graph

    first_placed : (added : Bool) → PlacesChildren row made added cut after → PlacesFirst row made cut.graph after.graph
    first_placed true places = record { some = made; left = []; all = sym (append-nil made); placed = places.0 }
    first_placed false places = places.0.first

    -- all successors of the row, under the names that the tables have now
    module _ (names : Naming) (known : AreNames (naming tables) names) (each : HasEachOnce names.syms) where
      graph_there : IsGraph names before.graph before.ends.items (IsOpen row)
      graph_there = sources names (earlier_names extends known) each

      all_there : ComesOfState code program budgets names rules from.state.value made endings × (cuts ≡ [])
      all_there =
          comes names program (record { model = refl; limit = explores.limit; extends = known.extend; numbered = known.numbered })
          (integer_row code program entry budgets names rules before.graph.rows graph_there.sourced.rows_come row from there)

      from_row : ComesOfRow code program entry budgets names rules before.graph.rows row made endings
      from_row = record { row = from; there = there; all = all_there.0 }

    pub no_cuts : IsNumbered (naming tables).bases → HasEachOnce (naming tables).syms → cuts ≡ []
    no_cuts numbered once = (all_there (naming tables) (themselves (naming tables) numbered) once).1

    pub expanded_sources : (added : Bool) → PlacesChildren row made added cut after → HasSources exploration entry Waits after
    expanded_sources added places names are each =
        let known : AreNames (naming tables) names = subst (λ (t : Tables). AreNames (naming t) names) tables_are are in
        subst (λ (ends : List End). IsGraph names after.graph ends Waits) (sym ends_are)
        (sources_expanded code program entry budgets names rules row made endings before.graph after.graph before.ends.items (from_row names known each) gone
        (subst (λ (g : RowGraph). PlacesFirst row made g after.graph) graph_is (first_placed added places)) (graph_there names known each))

    -- the next child was refused
    expanded_refused : (places : PlacesUntilFull row made before.graph after.graph) → IsRefused after
    expanded_refused places = record {
      full = places.full;
      refused = child_row row places.refused;
      sources = λ names are each.
          let known : AreNames (naming tables) names = subst (λ (t : Tables). AreNames (naming t) names) tables_are are in
          subst (λ (ends : List End). AreSourced code program entry budgets names rules (after.graph.rows ++ child_row row places.refused ∷ []) ends
          (λ number. ⊥)) (sym ends_are)
          (sources_refused code program entry budgets names rules row made endings before.graph after.graph before.ends.items (from_row names known each) gone
          places.first (graph_there names known each) places.refused places.next places.unseen);
    }

    pub is_refused : PlacesChildren row made false cut after → IsRefused after
    is_refused places = expanded_refused (subst (λ (g : RowGraph). PlacesUntilFull row made g after.graph) graph_is places.0)

  -- nothing more is added
  pub done_sources : (findings : Findings) (graph : RowGraph) → graph.rows ≡ findings.graph.rows → HasSources exploration entry Waits findings
      → UnderNames (naming findings.tables) (λ names.
      AreSourced code program entry budgets names rules graph.rows findings.ends.items (λ number. ⊥))
  done_sources findings graph same sources names are each =
      subst (λ (rows : List Row). AreSourced code program entry budgets names rules rows findings.ends.items (λ number. ⊥)) (sym same)
      (sourced_but code program entry budgets names rules findings.graph.rows findings.ends.items (λ number. ⊥) (Waits findings.graph.work)
      (λ number never. absurd never) (sources names are each).sourced)

  -- what was found in the end has sources
  module _ (findings : Findings) (explored : Explored) (numbered : IsNumbered (naming findings.tables).bases)
      (once : HasEachOnce (naming findings.tables).syms) (rows : explored.rows.items ≡ findings.graph.rows)
      (ends : explored.ends.items ≡ findings.ends.items) (tables : explored.tables ≡ findings.tables) (done : IsDone exploration entry findings) where
    abbrev last_names : Naming
    last_names = naming explored.tables

    sourced_at_last : AreSourced code program entry budgets last_names rules explored.rows.items explored.ends.items (λ number. ⊥)
    sourced_at_last =
        let sourced = done.sources (naming findings.tables) (themselves (naming findings.tables) numbered) once in
        subst (λ (t : Tables). AreSourced code program entry budgets (naming t) rules explored.rows.items explored.ends.items (λ number. ⊥)) (sym tables)
        (subst (λ (l : List Row). AreSourced code program entry budgets (naming findings.tables) rules l explored.ends.items (λ number. ⊥)) (sym rows)
        (subst (λ (l : List End). AreSourced code program entry budgets (naming findings.tables) rules findings.graph.rows l (λ number. ⊥)) (sym ends)
        sourced))

    -- so it is exact
    pub graph_at_last : IsExactGraph code program entry budgets last_names rules explored.rows.items explored.ends.items
    graph_at_last = exact_graph code program entry budgets last_names rules explored.rows.items explored.ends.items (λ number. ⊥) sourced_at_last

    -- and so is what states note about guesses
    pub guesses_at_last : IsGuessedGraph code program entry budgets last_names explored.rows.items explored.ends.items
    guesses_at_last = record {
      asked = are_asked code program entry budgets last_names rules explored.rows.items explored.ends.items (λ number. ⊥) sourced_at_last;
      real = are_real code program entry budgets last_names rules explored.rows.items explored.ends.items (λ number. ⊥) sourced_at_last;
      corners = are_cornered code program entry budgets last_names rules explored.rows.items explored.ends.items (λ number. ⊥) sourced_at_last;
    }
