-- The invariant of an exploration, and what holds when it is done: for the contracts of `begin`, `expand`, `expand_all` and `explore`.
use Rattle.std.proofs.Common.{◌≡◌, inl, inr, ℕ, Bool, true, false, List, [], ◌∷◌, ◌++◌, Some, slice_get, refl, sym, ap, ◌∙◌, subst}
use Rattle.std.specs.Prelude.{All}
use Rattle.std.specs.Global.{Box}
use Rattle.std.proofs.lemmas.List.Elements.{All-nil, All-cons}
use Rattle.cs_ast.specs.TypedProgram.{TypedProgram}
use Rattle.cs_events.specs.declared.outcome.RunBudgets.{RunBudgets}
use Rattle.cs_cfg.specs.Graph.{Code}
use Rattle.cs_terms.specs.Table.{HasEachOnce}
use Rattle.cs_regions.specs.Numbering.{IsNumbered}
use Rattle.cs_meaning.specs.Machine.{routine_of}
use Rattle.cs_meaning.specs.Steps.{parameters_of}
use Rattle.cs_results.specs.declared.result.Cut.{Cut}
use Rattle.cs_results.specs.declared.result.Cut.TheVariants.{Nodes}
use Rattle.cs_state.specs.declared.state.State.{State}
use Rattle.cs_state.specs.declared.tables.Tables.{Tables}
use Rattle.cs_state.specs.Naming.{naming, Extends}
use Rattle.cs_state.specs.Starting.{IsStart, DifferInName}
use Rattle.cs_keys.specs.Laws.{KeysAreExact}
use Rattle.cs_keys.specs.Live.{live_part}
use Rattle.cs_keys.specs.Words.{words_of}
use Rattle.cs_graph.specs.Adding.{with_work}
use Rattle.cs_graph.specs.Waiting.{IsGiven}
use Rattle.cs_explored.specs.declared.child.Child.{Child}
use Rattle.cs_explored.specs.declared.explored.End.{End}
use Rattle.cs_explored.specs.declared.explored.Explored.{Explored}
use Rattle.cs_explored.specs.declared.explored.Row.{Row}
use Rattle.cs_explored.specs.declared.findings.Findings.{Findings}
use Rattle.cs_explored.specs.declared.watch.Rule.{Rule}
use Rattle.cs_explored.specs.Found.{IsPlaced, IsSound}
use Rattle.cs_explored.specs.Placing.{RowGraph, first_row, PlacesChildren, KeepsEnds, AddsEnds, AddsCuts, IsPlain}
use Rattle.cs_successors.specs.Coming.{StateEnd}
use Rattle.cs_successors.specs.declared.exploration.Exploration.{Exploration}
use Rattle.cs_successors.specs.Explorations.{code_of, limits_of}
use Rattle.cs_coverage.specs.Closing.{Waits, IsOpen}
use Rattle.cs_coverage.proofs.Positions.{themselves}
use Rattle.cs_exactness.proofs.ExactGraphs.{exact_graph, finds_faults}
use Rattle.cs_guesses.proofs.Asked.{are_asked}
use Rattle.cs_guesses.proofs.Cornered.{are_cornered}
use Rattle.cs_guesses.proofs.Real.{are_real}
use Rattle.cs_guesses.specs.Cuts.{IsCutForNodes}
use Rattle.cs_invariants.specs.Exploring.{program_of, ExploresIntegers, HasSources, HasReasons, IsUncut, IsKept, IsDone, LeadsOn}
use Rattle.cs_invariants.proofs.Exploring.{ComesOf, full_for_nodes, begun_graph, given_graph, expanded_graph, done_graph}
use Rattle.cs_invariants.proofs.Sourcing.{begun_sources, begun_refused, given_sources, no_cuts, expanded_sources, is_refused, done_sources}

module _ (exploration : Exploration) (entry : ℕ) (explores : ExploresIntegers exploration entry) where
  abbrev code : Code
  code = code_of exploration

  abbrev program : TypedProgram
  program = program_of exploration

  abbrev budgets : RunBudgets
  budgets = limits_of exploration

  abbrev rules : List Rule
  rules = exploration.rules.now

  -- the first row was added, or refused
  module _ (before after : Findings) (state : Box State) (start : IsStart code program entry (naming before.tables) state.value)
      (differ : DifferInName (parameters_of (routine_of program entry))) (once : HasEachOnce (naming before.tables).syms)
      (plain : IsPlain state.value) (no_keys : before.graph.keys ≡ []) (no_rows : before.graph.rows ≡ []) (no_ends : before.ends.items ≡ [])
      (none_cut : before.cuts.items ≡ []) (nodes : after.nodes ≡ before.nodes) (keeps : KeepsEnds before after) where
    begun_reasons : (added : Bool) → IsPlaced (words_of (live_part state.value)) (first_row state) added before after → HasReasons exploration entry after
    begun_reasons true placed = inl (placed.1 ∙ none_cut)
    begun_reasons false placed = inr (
      placed.1 ∙ (λ i. none_cut i ++ Nodes (sym nodes i) ∷ []),
      begun_refused exploration entry explores before after state start differ once no_rows no_ends keeps placed,
    )

    begun_uncut : (added : Bool) → IsPlaced (words_of (live_part state.value)) (first_row state) added before after → IsUncut after
    begun_uncut true placed number row there = placed.1 ∙ none_cut
    begun_uncut false placed number row there =
        let rows : after.graph.rows ≡ [] = ap (λ (graph : RowGraph). graph.rows) placed.0.2 ∙ no_rows in
        let at : slice_get [] number ≡ Some row = subst (λ (rows : List Row). slice_get rows number ≡ Some row) rows there in
        cc

    pub begun_kept : (added : Bool) → IsPlaced (words_of (live_part state.value)) (first_row state) added before after
        → IsKept exploration entry Waits after
    begun_kept added placed = record {
      closed = begun_graph exploration entry explores before after state start differ once plain added no_keys no_rows no_ends keeps placed;
      sources = begun_sources exploration entry explores before after state start differ once added no_keys no_rows no_ends keeps placed;
      reasons = begun_reasons added placed;
      uncut = begun_uncut added placed;
    }

  -- the next row is taken from the worklist
  pub given_kept : (before : Findings) (graph : RowGraph) (row : ℕ) → IsGiven row before.graph.work graph.work
      → graph ≡ with_work graph.work before.graph
      → IsKept exploration entry Waits before → IsKept exploration entry (IsOpen row) (record before { graph = graph })
  given_kept before graph row given rest kept = record {
    closed = given_graph exploration entry explores before graph row given rest kept.closed;
    sources = given_sources exploration entry explores before graph row given rest kept.sources;
    reasons = subst (λ (g : RowGraph). HasReasons exploration entry (record before { graph = g })) (sym rest) kept.reasons;
    uncut = subst (λ (g : RowGraph). IsUncut (record before { graph = g })) (sym rest) kept.uncut;
  }

  -- the successors of a row were added, as far as the budget of nodes allowed
  module _ (exact : KeysAreExact) (before ended cut after : Findings) (tables : Tables) (row : ℕ) (from : Row)
      (there : slice_get before.graph.rows row ≡ Some from) (made : List Child) (endings : List StateEnd) (cuts : List Cut)
      (extends : Extends (naming before.tables) (naming tables)) (adds : AddsEnds row endings (record before { tables = tables }) ended)
      (cutting : AddsCuts cuts ended cut) (keeps : KeepsEnds cut after) (comes : ComesOf exploration (naming tables) from.state.value made endings cuts)
      (gone : ¬ Waits before.graph.work row) (numbered : IsNumbered (naming tables).bases) (once : HasEachOnce (naming tables).syms)
      (nodes : after.nodes ≡ cut.nodes) (kept : IsKept exploration entry (IsOpen row) before) where
    none_cut : cut.cuts.items ≡ []
    none_cut =
        cutting.cuts ∙ (λ i. adds.cuts i ++ cuts)
        ∙ (λ i. kept.uncut row from there i ++ no_cuts exploration entry explores before ended cut after tables row from there made endings cuts extends adds
        cutting keeps comes gone kept.sources numbered once i)

    after_sources : (added : Bool) → PlacesChildren row made added cut after → HasSources exploration entry Waits after
    after_sources added places =
        expanded_sources exploration entry explores before ended cut after tables row from there made endings cuts extends adds cutting keeps comes gone
        kept.sources added places

    pub expanded_kept : (added : Bool) → PlacesChildren row made added cut after → LeadsOn exploration entry added after
    expanded_kept true places = record {
      closed =
          expanded_graph exploration entry explores exact before ended cut after tables row from there made endings cuts extends adds cutting keeps comes places
          kept.closed;
      sources = after_sources true places;
      reasons = inl (places.1 ∙ none_cut);
      uncut = λ number found at. places.1 ∙ none_cut;
    }
    expanded_kept false places = record {
      closed = λ all. absurd (full_for_nodes cut after places.1 all);
      sources = done_sources exploration entry explores after after.graph refl (after_sources false places);
      reasons = inr (
        places.1 ∙ (λ i. none_cut i ++ Nodes (sym nodes i) ∷ []),
        is_refused exploration entry explores before ended cut after tables row from there made endings cuts extends adds cutting keeps comes gone kept.sources
            places,
      );
    }

  -- at last no row waits
  pub done_empty : (findings : Findings) (graph : RowGraph) → findings.graph.work ≡ [] → graph ≡ with_work graph.work findings.graph
      → IsKept exploration entry Waits findings → IsDone exploration entry (record findings { graph = graph })
  done_empty findings graph none rest kept = record {
    closed = done_graph exploration entry explores findings graph none rest kept.closed;
    sources = done_sources exploration entry explores findings graph (ap (λ (g : RowGraph). g.rows) rest) kept.sources;
    reasons = subst (λ (g : RowGraph). HasReasons exploration entry (record findings { graph = g })) (sym rest) kept.reasons;
  }

  -- each cut has its reason then
  module _ (findings : Findings) (explored : Explored) (numbered : IsNumbered (naming findings.tables).bases)
      (once : HasEachOnce (naming findings.tables).syms) (sound : IsSound findings) (budget : findings.nodes ≡ exploration.budgets.nodes)
      (rows : explored.rows.items ≡ findings.graph.rows) (ends : explored.ends.items ≡ findings.ends.items)
      (cuts : explored.cuts.items ≡ findings.cuts.items) (tables : explored.tables ≡ findings.tables) where
    abbrev CutFor : Tables → List Row → List End → Cut → Type 0
    CutFor given found ended cut =
        IsCutForNodes code program entry budgets (naming given) rules found ended exploration.budgets.nodes cut

    reasons_found : HasReasons exploration entry findings → All (CutFor findings.tables findings.graph.rows findings.ends.items) findings.cuts.items
    reasons_found (inl none) =
        subst (All (CutFor findings.tables findings.graph.rows findings.ends.items)) (sym none)
        (All-nil (CutFor findings.tables findings.graph.rows findings.ends.items))
    reasons_found (inr (one, refused)) =
        let sourced = refused.sources (naming findings.tables) (themselves (naming findings.tables) numbered) once in
        subst (All (CutFor findings.tables findings.graph.rows findings.ends.items)) (sym one)
        (All-cons (CutFor findings.tables findings.graph.rows findings.ends.items) (Nodes findings.nodes) []
        (record {
          nodes = findings.nodes;
          is = refl;
          reason = record {
            budget = budget;
            full = refused.full ∙ sound.budget;
            refused = refused.refused;
            exact =
                exact_graph code program entry budgets (naming findings.tables) rules (findings.graph.rows ++ refused.refused ∷ []) findings.ends.items
                (λ number. ⊥) sourced;
            guesses = record {
              asked =
                  are_asked code program entry budgets (naming findings.tables) rules (findings.graph.rows ++ refused.refused ∷ []) findings.ends.items
                  (λ number. ⊥) sourced;
              real =
                  are_real code program entry budgets (naming findings.tables) rules (findings.graph.rows ++ refused.refused ∷ []) findings.ends.items
                  (λ number. ⊥) sourced;
              corners =
                  are_cornered code program entry budgets (naming findings.tables) rules (findings.graph.rows ++ refused.refused ∷ []) findings.ends.items
                  (λ number. ⊥) sourced;
            };
            finds =
                finds_faults code program entry budgets (naming findings.tables) rules (findings.graph.rows ++ refused.refused ∷ []) findings.ends.items
                (λ number. ⊥) sourced;
          };
        })
        (All-nil (CutFor findings.tables findings.graph.rows findings.ends.items)))

    pub reasons_at_last : HasReasons exploration entry findings → All (CutFor explored.tables explored.rows.items explored.ends.items) explored.cuts.items
    reasons_at_last reasons =
        subst (λ (t : Tables). All (CutFor t explored.rows.items explored.ends.items) explored.cuts.items) (sym tables)
        (subst (λ (l : List Row). All (CutFor findings.tables l explored.ends.items) explored.cuts.items) (sym rows)
        (subst (λ (l : List End). All (CutFor findings.tables findings.graph.rows l) explored.cuts.items) (sym ends)
        (subst (All (CutFor findings.tables findings.graph.rows findings.ends.items)) (sym cuts) (reasons_found reasons))))
