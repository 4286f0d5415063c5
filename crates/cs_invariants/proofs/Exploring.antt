-- During an exploration, the graph stays closed, except for the rows that are open: for the contracts of `begin`, `expand` and `expand_all`.
use Rattle.std.proofs.Common.{◌≡◌, ℕ, Bool, true, false, List, [], ◌∷◌, ◌++◌, map, Some, slice_get, refl, sym, ap, ◌∙◌, subst}
use Rattle.std.specs.Prelude.{Contains}
use Rattle.std.specs.Global.{Box}
use Rattle.std.proofs.lemmas.List.Elements.{Contains-push, Contains-append_left}
use Rattle.cs_ast.specs.TypedProgram.{TypedProgram}
use Rattle.cs_events.specs.declared.outcome.RunBudgets.{RunBudgets}
use Rattle.cs_cfg.specs.Graph.{Code}
use Rattle.cs_terms.specs.Table.{HasEachOnce}
use Rattle.cs_regions.specs.Numbering.{IsNumbered}
use Rattle.cs_meaning.specs.Machine.{routine_of}
use Rattle.cs_meaning.specs.Steps.{parameters_of}
use Rattle.cs_results.specs.declared.result.Cut.{Cut}
use Rattle.cs_results.specs.declared.result.Cut.TheVariants.{Nodes}
use Rattle.cs_state.specs.declared.state.State.{State}
use Rattle.cs_state.specs.declared.tables.Tables.{Tables}
use Rattle.cs_state.specs.Naming.{Naming, naming, Extends}
use Rattle.cs_state.specs.Starting.{IsStart, DifferInName}
use Rattle.cs_keys.specs.Laws.{KeysAreExact}
use Rattle.cs_keys.specs.Live.{live_part}
use Rattle.cs_keys.specs.Words.{words_of}
use Rattle.cs_graph.specs.Adding.{with_work}
use Rattle.cs_graph.specs.Waiting.{IsGiven}
use Rattle.cs_explored.specs.declared.child.Child.{Child}
use Rattle.cs_explored.specs.declared.explored.End.{End}
use Rattle.cs_explored.specs.declared.explored.Explored.{Explored}
use Rattle.cs_explored.specs.declared.explored.Row.{Row}
use Rattle.cs_explored.specs.declared.findings.Findings.{Findings}
use Rattle.cs_explored.specs.declared.watch.Rule.{Rule}
use Rattle.cs_explored.specs.Found.{IsPlaced}
use Rattle.cs_explored.specs.Placing.{IsPlain, RowGraph, first_row, end_of_row, PlacesAll, PlacesChildren, KeepsEnds, AddsEnds, AddsCuts}
use Rattle.cs_successors.specs.Coming.{StateEnd, IsIntegerState, ComesOfState}
use Rattle.cs_successors.specs.declared.exploration.Exploration.{Exploration}
use Rattle.cs_successors.specs.Explorations.{code_of, limits_of, Explores}
use Rattle.cs_coverage.specs.Closing.{Waits, IsOpen, IsRowState, IsClosed, IsClosedGraph}
use Rattle.cs_coverage.specs.Covering.{HasAllNodes, Covers}
use Rattle.cs_coverage.specs.Positions.{CoversPositions, CoversOwn}
use Rattle.cs_coverage.proofs.OwnStarts.{is_beginning}
use Rattle.cs_coverage.proofs.BeginningStates.{begins_integer}
use Rattle.cs_coverage.proofs.Coverage.{element}
use Rattle.cs_coverage.proofs.ExpandedRows.{IsFound, graph_given, graph_later, graph_expanded, graph_done, graph_begun}
use Rattle.cs_coverage.proofs.Positions.{covers_positions, covers_own, covers_live}
use Rattle.cs_coverage.proofs.StartBlocks.{no_blocks}
use Rattle.cs_invariants.specs.Exploring.{program_of, ExploresIntegers, IsOpenGraph, IsClosedAtLast}

-- these children and ends are all successors of a state, and nothing is cut there, if it is one of integer code
abbrev pub ComesOf : Exploration → Naming → State → List Child → List StateEnd → List Cut → Type 0
ComesOf exploration given state made ends cuts =
    (names : Naming) (program : TypedProgram) → Explores exploration given names program
    → IsIntegerState (code_of exploration) program (limits_of exploration) names state
    → ComesOfState (code_of exploration) program (limits_of exploration) names exploration.rules.now state made ends × (cuts ≡ [])

-- if no node is cut in the end, none was before
all_before : (cuts more : List Cut) → HasAllNodes (cuts ++ more) → HasAllNodes cuts
all_before cuts more all nodes is = all nodes (Contains-append_left cuts more (Nodes nodes) is)

-- if a row was refused, something was cut
pub full_for_nodes : (before after : Findings) → after.cuts.items ≡ before.cuts.items ++ Nodes before.nodes ∷ [] → ¬ HasAllNodes after.cuts.items
full_for_nodes before after cuts all =
    all before.nodes (subst (λ (l : List Cut). Contains l (Nodes before.nodes)) (sym cuts) (Contains-push before.cuts.items (Nodes before.nodes)))

module _ (exploration : Exploration) (entry : ℕ) (explores : ExploresIntegers exploration entry) where
  abbrev code : Code
  code = code_of exploration

  abbrev program : TypedProgram
  program = program_of exploration

  abbrev budgets : RunBudgets
  budgets = limits_of exploration

  abbrev rules : List Rule
  rules = exploration.rules.now

  abbrev IsGraph : Naming → RowGraph → List End → (List (ℕ × ℕ) → ℕ → Type 0) → Type 0
  IsGraph given graph ends Open = IsClosedGraph code program entry budgets rules given graph ends Open

  -- the first row
  module _ (before after : Findings) (state : Box State) (start : IsStart code program entry (naming before.tables) state.value)
      (differ : DifferInName (parameters_of (routine_of program entry))) (once : HasEachOnce (naming before.tables).syms)
      (plain : IsPlain state.value) where
    first_state : IsRowState code program entry budgets rules (naming before.tables) state.value
    first_state = record {
      integer = λ names are.
          begins_integer code program entry budgets (naming before.tables) names state.value start are.extend are.numbered once explores.works differ
          (no_blocks code program entry (naming before.tables) state.value start explores.works.parameters);
      plain = plain;
    }

    pub begun_graph : (added : Bool) → before.graph.keys ≡ [] → before.graph.rows ≡ [] → before.ends.items ≡ [] → KeepsEnds before after
        → IsPlaced (words_of (live_part state.value)) (first_row state) added before after → IsOpenGraph exploration entry Waits after
    begun_graph false no_keys no_rows no_ends keeps placed all = absurd (full_for_nodes before after placed.1 all)
    begun_graph true no_keys no_rows no_ends keeps placed all =
        subst (λ (tables : Tables). IsGraph (naming tables) after.graph after.ends.items Waits) (sym keeps.tables)
        (subst (λ (ends : List End). IsGraph (naming before.tables) after.graph ends Waits) (sym (keeps.ends ∙ no_ends))
        (graph_begun code program entry budgets rules (naming before.tables) before.graph after.graph (first_row state) no_keys no_rows placed.0 first_state
        (λ names are.
        is_beginning code program entry budgets (naming before.tables) names state.value start are.extend are.numbered once explores.works differ
        (no_blocks code program entry (naming before.tables) state.value start explores.works.parameters))))

  -- the next row is taken from the worklist
  pub given_graph : (before : Findings) (graph : RowGraph) (row : ℕ) → IsGiven row before.graph.work graph.work
      → graph ≡ with_work graph.work before.graph
      → IsOpenGraph exploration entry Waits before → IsOpenGraph exploration entry (IsOpen row) (record before { graph = graph })
  given_graph before graph row given rest open_graph all =
      graph_given code program entry budgets rules (naming before.tables) before.graph graph before.ends.items row given rest (open_graph all)

  -- no row waits
  pub done_graph : (findings : Findings) (graph : RowGraph) → findings.graph.work ≡ [] → graph ≡ with_work graph.work findings.graph
      → IsOpenGraph exploration entry Waits findings → IsClosedAtLast exploration entry (record findings { graph = graph })
  done_graph findings graph none rest open_graph all =
      subst (λ (rows : List Row). IsClosed code program entry budgets rules (naming findings.tables) rows findings.ends.items (λ number. ⊥))
      (sym (ap (λ (g : RowGraph). g.rows) rest))
      (graph_done code program entry budgets rules (naming findings.tables) findings.graph findings.ends.items none (open_graph all))

  -- all successors of a row were added
  module _ (exact : KeysAreExact) (before ended cut after : Findings) (tables : Tables) (row : ℕ) (from : Row)
      (there : slice_get before.graph.rows row ≡ Some from) (made : List Child) (endings : List StateEnd) (cuts : List Cut)
      (extends : Extends (naming before.tables) (naming tables)) (adds : AddsEnds row endings (record before { tables = tables }) ended)
      (cutting : AddsCuts cuts ended cut) (keeps : KeepsEnds cut after) (comes : ComesOf exploration (naming tables) from.state.value made endings cuts) where
    ends_are : after.ends.items ≡ before.ends.items ++ map (end_of_row row) endings
    ends_are = keeps.ends ∙ cutting.ends ∙ adds.ends

    tables_are : after.tables ≡ tables
    tables_are = keeps.tables ∙ cutting.rows.tables ∙ adds.rows.tables

    graph_is : cut.graph ≡ before.graph
    graph_is = cutting.rows.graph ∙ adds.rows.graph

    cuts_are : cut.cuts.items ≡ before.cuts.items ++ cuts
    cuts_are = cutting.cuts ∙ ap (λ (l : List Cut). l ++ cuts) adds.cuts

    found_of : (graph : IsGraph (naming tables) before.graph (before.ends.items ++ map (end_of_row row) endings) (IsOpen row))
        → ((place : ℕ) (child : Child) → slice_get made place ≡ Some child → IsPlain child.state.value)
        → IsFound code program entry budgets rules (naming tables) from.state.value made endings
    found_of graph plain = record {
      comes = λ names are.
          (comes names program (record { model = refl; limit = explores.limit; extends = are.extend; numbered = are.numbered })
          ((graph.closed.states row from there).integer names are)).0;
      plain = plain;
      ends_plain = λ place one at. element (λ (one : StateEnd). IsPlain one.1.value) endings place one at adds.plain;
    }

    expanded : (plain : (place : ℕ) (child : Child) → slice_get made place ≡ Some child → IsPlain child.state.value)
        → PlacesAll row made before.graph after.graph → IsGraph (naming before.tables) before.graph before.ends.items (IsOpen row)
        → IsGraph (naming tables) after.graph (before.ends.items ++ map (end_of_row row) endings) Waits
    expanded plain places graph =
        let later =
        graph_later code program entry budgets rules (naming before.tables) (naming tables) extends before.graph before.ends.items
        (map (end_of_row row) endings) (IsOpen row) graph in
        graph_expanded code program entry budgets rules exact (naming tables) before.graph after.graph before.ends.items row from there made endings
        (found_of later plain) places later

    pub expanded_graph : PlacesChildren row made true cut after → IsOpenGraph exploration entry (IsOpen row) before
        → IsOpenGraph exploration entry Waits after
    expanded_graph places open_graph all =
        let before_all = all_before before.cuts.items cuts (subst HasAllNodes (places.1 ∙ cuts_are) all) in
        subst (λ (later : Tables). IsGraph (naming later) after.graph after.ends.items Waits) (sym tables_are)
        (subst (λ (ends : List End). IsGraph (naming tables) after.graph ends Waits) (sym ends_are)
        (expanded
        (λ place child at. element (λ (child : Child). IsPlain child.state.value) made place child at places.2)
        (subst (λ (graph : RowGraph). PlacesAll row made graph after.graph) graph_is places.0) (open_graph before_all)))

  -- a closed graph covers all positions
  module _ (findings : Findings) (explored : Explored) (numbered : IsNumbered (naming findings.tables).bases)
      (rows : explored.rows.items ≡ findings.graph.rows) (ends : explored.ends.items ≡ findings.ends.items)
      (cuts : explored.cuts.items ≡ findings.cuts.items) (tables : explored.tables ≡ findings.tables) (done : IsClosedAtLast exploration entry findings)
    where
      last_numbered : IsNumbered (naming explored.tables).bases
      last_numbered = subst (λ (t : Tables). IsNumbered (naming t).bases) (sym tables) numbered

      closed_at_last : HasAllNodes explored.cuts.items
          → IsClosed code program entry budgets rules (naming explored.tables) explored.rows.items explored.ends.items (λ number. ⊥)
      closed_at_last all =
          subst (λ (t : Tables). IsClosed code program entry budgets rules (naming t) explored.rows.items explored.ends.items (λ number. ⊥)) (sym tables)
          (subst (λ (l : List Row). IsClosed code program entry budgets rules (naming findings.tables) l explored.ends.items (λ number. ⊥)) (sym rows)
          (subst (λ (l : List End). IsClosed code program entry budgets rules (naming findings.tables) findings.graph.rows l (λ number. ⊥)) (sym ends)
          (done (subst HasAllNodes cuts all))))

      pub covered : CoversPositions code program entry budgets explored
      covered = covers_positions code program entry budgets rules explored last_numbered closed_at_last

      -- with the phases of their events, under the runs' own numbers
      pub own_covered : CoversOwn code program entry budgets rules explored
      own_covered = covers_own code program entry budgets rules explored last_numbered closed_at_last

      -- and under those of all symbols of their live parts
      pub live_covered : Covers code program entry budgets rules explored
      live_covered = covers_live code program entry budgets rules explored last_numbered closed_at_last
