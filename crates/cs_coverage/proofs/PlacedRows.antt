-- A closed graph in which all children of a row were placed stays closed, and has rows for all of them: for the exploration of a row.
use Rattle.std.proofs.Common.{◌≡◌, inl, inr, ℕ, zero, suc, List, [], ◌∷◌, ◌++◌, length, Some, slice_get, refl, sym, ap, ◌∙◌, subst}
use Rattle.std.proofs.Common.{arith}
use Rattle.std.specs.Prelude.{nat_eq}
use Rattle.std.specs.Cmp.Lexicographic.{pointwise, bytes_decides}
use Rattle.std.proofs.lemmas.List.{append-nil, append_assoc}
use Rattle.std.proofs.lemmas.Option.{same_Some, slice_get_within}
use Rattle.cs_ast.specs.TypedProgram.{TypedProgram}
use Rattle.cs_events.specs.declared.outcome.RunBudgets.{RunBudgets}
use Rattle.cs_cfg.specs.Graph.{Code}
use Rattle.cs_state.specs.Naming.{Naming}
use Rattle.cs_keys.specs.Laws.{KeysAreExact}
use Rattle.cs_keys.specs.Live.{live_part}
use Rattle.cs_keys.specs.Words.{words_of}
use Rattle.cs_graph.specs.Adding.{IsSeenAt, IsAdded}
use Rattle.cs_graph.specs.declared.adding.Added.{Added}
use Rattle.cs_graph.specs.declared.adding.Added.TheVariants.{New, Old}
use Rattle.cs_explored.specs.declared.child.Child.{Child}
use Rattle.cs_explored.specs.declared.explored.End.{End}
use Rattle.cs_explored.specs.declared.explored.Row.{Row}
use Rattle.cs_explored.specs.declared.watch.Rule.{Rule}
use Rattle.cs_coverage.specs.Closing.{IsOpen, HasRowFor, IsRowState, IsClosed, IsClosedGraph}
use Rattle.cs_explored.specs.Placing.{RowGraph, child_row, PlacesAll}
use Rattle.cs_coverage.proofs.ClosedGraphs.{last_there, row_kept, closed_with_row}
use Rattle.cs_coverage.proofs.RowKeys.{some_there, keys_joined, long_joined}

module _ (code : Code) (program : TypedProgram) (entry : ℕ) (budgets : RunBudgets) (rules : List Rule) (given : Naming) (ends : List End) (open_row : ℕ)
    (exact : KeysAreExact) where
  abbrev IsGraph : RowGraph → Type 0
  IsGraph graph = IsClosedGraph code program entry budgets rules given graph ends (IsOpen open_row)

  -- the row with an equal key
  seen_row : (graph : RowGraph) (child : Child) (number : ℕ) → IsGraph graph → IsRowState code program entry budgets rules given child.state.value
      → IsSeenAt (pointwise nat_eq) (words_of (live_part child.state.value)) number graph.keys → HasRowFor graph.rows child
  seen_row graph child number is state seen =
      let within = slice_get_within graph.keys number seen.0 seen.1 in
      let there = some_there graph.rows number (omega (arith, within, is.long)) in
      let key = is.keys number seen.0 there.0 seen.1 there.1 in
      let words = (bytes_decides (words_of (live_part child.state.value)) seen.0).0 seen.2 in
      record {
        number = number;
        row = there.0;
        there = there.1;
        same = (exact child.state.value there.0.state.value).0 (words ∙ key);
        plain = state.plain;
      }

  -- further rows come after the ones that were there
  abbrev pub HasMore : RowGraph → RowGraph → Type 0
  HasMore before after = (more : List Row) × (after.rows ≡ before.rows ++ more)

  pub record PlacedOne (child : Child) (before after : RowGraph) : Type 0 where
    pub has : HasRowFor after.rows child
    pub graph : IsGraph after
    pub more : HasMore before after

  place_one : (parent : ℕ) (child : Child) (before after : RowGraph) (visits : ℕ) (added : Added) → IsGraph before
      → IsRowState code program entry budgets rules given child.state.value
      → IsAdded (pointwise nat_eq) (words_of (live_part child.state.value)) visits (child_row parent child) added before after
      → PlacedOne child before after
  place_one parent child before after visits (Old number) is state (seen, same) = record {
    has = subst (λ (g : RowGraph). HasRowFor g.rows child) (sym same) (seen_row before child number is state seen);
    graph = subst IsGraph (sym same) is;
    more = ([], ap (λ (g : RowGraph). g.rows) same ∙ sym (append-nil before.rows));
  }
  place_one parent child before after visits (New number) is state (unseen, room, new) =
      let row = child_row parent child in
      let joined : (v r : ℕ) → _ = new.work in
      record {
        has = record {
          number = length before.rows;
          row = row;
          there = subst (λ (rows : List Row). slice_get rows (length before.rows) ≡ Some row) (sym new.rows) (last_there before.rows row);
          same = refl;
          plain = state.plain;
        };
        graph = record {
          keys = keys_joined before after row visits number is.keys is.long new;
          long = long_joined before after row visits number is.keys is.long new;
          closed =
              subst (λ (rows : List Row). IsClosed code program entry budgets rules given rows ends (IsOpen open_row after.work)) (sym new.rows)
              (closed_with_row code program entry budgets rules given before.rows ends row (IsOpen open_row after.work) (IsOpen open_row before.work)
              (λ n waits. elim waits [
                | inl w ↦ inl (w.0, (new.work w.0 n).1 (inr w.1))
                | inr same ↦ inr same
              ])
              (inl (visits, (new.work visits (length before.rows)).1 (inl (refl, sym new.next)))) state is.closed);
        };
        more = (row ∷ [], new.rows);
      }

  -- all children have rows
  abbrev pub HaveRows : List Child → List Row → Type 0
  HaveRows made rows = (place : ℕ) (child : Child) → slice_get made place ≡ Some child → HasRowFor rows child

  abbrev pub AreRowStates : List Child → Type 0
  AreRowStates made = (place : ℕ) (child : Child) → slice_get made place ≡ Some child
      → IsRowState code program entry budgets rules given child.state.value

  pub record PlacedAll (made : List Child) (before after : RowGraph) : Type 0 where
    pub have : HaveRows made after.rows
    pub graph : IsGraph after
    pub more : HasMore before after

  pub placed : (parent : ℕ) (made : List Child) (before after : RowGraph) → IsGraph before → AreRowStates made → PlacesAll parent made before after
      → PlacedAll made before after
  placed parent [] before after is states same = record {
    have = λ place child there. cc;
    graph = subst IsGraph (sym same) is;
    more = ([], ap (λ (g : RowGraph). g.rows) same ∙ sym (append-nil before.rows));
  }
  placed parent (child ∷ made) before after is states (between, first, rest) =
      let one = place_one parent child before between first.0 first.1 is (states 0 child refl) first.2 in
      let others = placed parent made between after one.graph (λ place other there. states (suc place) other there) rest in
      record {
        have = have_both child made between.rows after.rows others.more.0 others.more.1 one.has others.have;
        graph = others.graph;
        more = (
          one.more.0 ++ others.more.0,
          others.more.1 ∙ ap (λ (rows : List Row). rows ++ others.more.0) one.more.1 ∙ append_assoc before.rows one.more.0 others.more.0,
        );
      }
    where
      have_both : (child : Child) (made : List Child) (rows later more : List Row) → later ≡ rows ++ more → HasRowFor rows child → HaveRows made later
          → HaveRows (child ∷ made) later
      have_both child made rows later more is has have zero other there =
          subst (HasRowFor later) (same_Some child other there)
          (subst (λ (all : List Row). HasRowFor all child) (sym is) (row_kept rows more child has))
      have_both child made rows later more is has have (suc place) other there = have place other there
