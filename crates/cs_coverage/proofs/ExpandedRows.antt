-- A row is expanded once all its successors are added; the graph is closed, except for the rows that wait: for the contracts of the exploration.
use Rattle.std.proofs.Common.{◌≡◌, inl, ℕ, zero, suc, List, [], ◌∷◌, ◌++◌, map, length, Some, slice_get, refl, sym, ap, ◌∙◌, subst}
use Rattle.std.proofs.Common.{arith}
use Rattle.std.specs.Global.{Box}
use Rattle.std.specs.Prelude.{option_map, Contains, nat_eq}
use Rattle.std.specs.Cmp.Lexicographic.{pointwise}
use Rattle.std.proofs.lemmas.Option.{same_Some, slice_get-map}
use Rattle.cs_ast.specs.TypedProgram.{TypedProgram}
use Rattle.cs_events.specs.declared.outcome.Outcome.{Outcome}
use Rattle.cs_events.specs.declared.outcome.RunBudgets.{RunBudgets}
use Rattle.cs_cfg.specs.Graph.{Code}
use Rattle.cs_state.specs.declared.state.State.{State}
use Rattle.cs_state.specs.Naming.{Naming, Extends}
use Rattle.cs_keys.specs.Laws.{KeysAreExact}
use Rattle.cs_keys.specs.Live.{live_part}
use Rattle.cs_keys.specs.Words.{words_of}
use Rattle.cs_graph.specs.Adding.{with_work, IsAdded}
use Rattle.cs_graph.specs.declared.adding.Added.{Added}
use Rattle.cs_graph.specs.declared.adding.Added.TheVariants.{New, Old}
use Rattle.cs_graph.specs.Waiting.{IsGiven}
use Rattle.cs_explored.specs.declared.child.Child.{Child}
use Rattle.cs_explored.specs.declared.explored.End.{End}
use Rattle.cs_explored.specs.declared.explored.Row.{Row}
use Rattle.cs_explored.specs.declared.watch.Rule.{Rule}
use Rattle.cs_successors.specs.Coming.{IsChildOf, ComesOfState}
use Rattle.cs_explored.specs.Placing.{RowGraph, PlacesRow, PlacesAll, end_of_row, IsPlain}
use Rattle.cs_coverage.specs.Closing.{Waits, IsOpen, AreNames, IsBeginning, IsListed, IsRowState, IsExpanded, IsClosed, IsClosedGraph}
use Rattle.cs_coverage.proofs.Coverage.{element}
use Rattle.cs_coverage.proofs.ClosedGraphs.{kept_place, closed_later, closed_with_ends, closed_but, closed_given, closed_expanded}
use Rattle.cs_coverage.proofs.PlacedRows.{placed}

-- an element of the second of two lists
behind : {A : Type 0} (xs ys : List A) (place : ℕ) (y : A) → slice_get ys place ≡ Some y → (at : ℕ) × (slice_get (xs ++ ys) at ≡ Some y)
behind [] ys place y there = (place, there)
behind (x ∷ xs) ys place y there = let rest = behind xs ys place y there in (suc rest.0, rest.1)

nowhere : {A : Type 0} (place : ℕ) (x : A) → slice_get [] place ≡ Some x → ⊥
nowhere place x there = cc

-- the only element of a list
alone : {A : Type 0} (x : A) (place : ℕ) (y : A) → slice_get (x ∷ []) place ≡ Some y → (place ≡ 0) × (x ≡ y)
alone x zero y there = (refl, same_Some x y there)
alone x (suc place) y there = cc

-- the only key is that of the only row
only : (row : Row) (words : List ℕ) (place : ℕ) (key : List ℕ) (found : Row) → slice_get (words ∷ []) place ≡ Some key
    → slice_get (row ∷ []) place ≡ Some found → words ≡ words_of (live_part row.state.value) → key ≡ words_of (live_part found.state.value)
only row words place key found at there is =
    sym (alone words place key at).1 ∙ is ∙ ap (λ (r : Row). words_of (live_part r.state.value)) (alone row place found there).1

module _ (code : Code) (program : TypedProgram) (entry : ℕ) (budgets : RunBudgets) (rules : List Rule) where
  abbrev IsGraph : Naming → RowGraph → List End → (List (ℕ × ℕ) → ℕ → Type 0) → Type 0
  IsGraph given graph ends Open = IsClosedGraph code program entry budgets rules given graph ends Open

  -- a row is taken from the worklist
  pub graph_given : (given : Naming) (before after : RowGraph) (ends : List End) (row : ℕ) → IsGiven row before.work after.work
      → after ≡ with_work after.work before → IsGraph given before ends Waits → IsGraph given after ends (IsOpen row)
  graph_given given before after ends row is rest graph =
      subst (λ (g : RowGraph). IsGraph given g ends (IsOpen row)) (sym rest)
      (record {
        keys = graph.keys;
        long = graph.long;
        closed = closed_given code program entry budgets rules given before.rows ends row before.work after.work is graph.closed;
      })

  -- the tables have more names, and more ends are listed
  pub graph_later : (given later : Naming) → Extends given later → (graph : RowGraph) (ends more : List End) (Open : List (ℕ × ℕ) → ℕ → Type 0)
      → IsGraph given graph ends Open → IsGraph later graph (ends ++ more) Open
  graph_later given later extends graph ends more Open is = record {
    keys = is.keys;
    long = is.long;
    closed =
        closed_with_ends code program entry budgets rules later graph.rows ends more (Open graph.work)
        (closed_later code program entry budgets rules given later extends graph.rows ends (Open graph.work) is.closed);
  }

  -- the successors of a state, with all that a graph requires of them
  pub record IsFound (given : Naming) (state : State) (made : List Child) (endings : List (Outcome × Box State)) : Type 0 where
    pub comes : (names : Naming) → AreNames given names → ComesOfState code program budgets names rules state made endings
    pub plain : (place : ℕ) (child : Child) → slice_get made place ≡ Some child → IsPlain child.state.value
    pub ends_plain : (place : ℕ) (one : Outcome × Box State) → slice_get endings place ≡ Some one → IsPlain one.1.value

  module _ (exact : KeysAreExact) (given : Naming) (before after : RowGraph) (ends : List End) (row : ℕ) (from : Row)
      (there : slice_get before.rows row ≡ Some from) (made : List Child) (endings : List (Outcome × Box State))
      (found : IsFound given from.state.value made endings) where
    children_states : (place : ℕ) (child : Child) → slice_get made place ≡ Some child
        → IsRowState code program entry budgets rules given child.state.value
    children_states place child at = record {
      integer = λ names are.
          (element (IsChildOf code program budgets names rules from.state.value) made place child at (found.comes names are).children).integer;
      plain = found.plain place child at;
    }

    listed_behind : (place : ℕ) (one : Outcome × Box State) → slice_get endings place ≡ Some one
        → IsListed (ends ++ map (end_of_row row) endings) row one
    listed_behind place one at =
        let at_map = slice_get-map (end_of_row row) endings place ∙ ap (option_map (end_of_row row)) at in
        let listed = behind ends (map (end_of_row row) endings) place (end_of_row row one) at_map in
        record { place = listed.0; there = listed.1 }

    -- all ends and children were added
    pub graph_expanded : PlacesAll row made before after → IsGraph given before (ends ++ map (end_of_row row) endings) (IsOpen row)
        → IsGraph given after (ends ++ map (end_of_row row) endings) Waits
    graph_expanded places graph =
        let done = placed code program entry budgets rules given (ends ++ map (end_of_row row) endings) row exact row made before after graph children_states
        places in
        record {
          keys = done.graph.keys;
          long = done.graph.long;
          closed =
              closed_expanded code program entry budgets rules given after.rows (ends ++ map (end_of_row row) endings) row after.work
              (λ other at.
              let kept = kept_place before.rows done.more.0 row from there in
              let same = same_Some from other
              (sym kept ∙ subst (λ (rows : List Row). slice_get rows row ≡ Some other) done.more.1 at) in
              subst (IsExpanded code program entry budgets rules given after.rows (ends ++ map (end_of_row row) endings) row) same
              (record { made = made; endings = endings; comes = found.comes; children = done.have; listed = listed_behind; plain = found.ends_plain }))
              done.graph.closed;
        }

  -- no row waits
  pub graph_done : (given : Naming) (graph : RowGraph) (ends : List End) → graph.work ≡ [] → IsGraph given graph ends Waits
      → IsClosed code program entry budgets rules given graph.rows ends (λ number. ⊥)
  graph_done given graph ends none is =
      closed_but code program entry budgets rules given graph.rows ends (λ number. ⊥) (Waits graph.work)
      (λ number waits. nobody (waits.0, number) (subst (λ (work : List (ℕ × ℕ)). Contains work (waits.0, number)) none waits.1)) is.closed
    where
      nobody : (x : ℕ × ℕ) → Contains [] x → ⊥
      nobody x (k, within, at) = omega (arith, within)

  -- the first row was added, with the words of its live part as its key
  begun : (given : Naming) (before after : RowGraph) (row : Row) (words : List ℕ) → words ≡ words_of (live_part row.state.value) → before.keys ≡ []
      → before.rows ≡ [] → (visits : ℕ) (added : Added) → IsAdded (pointwise nat_eq) words visits row added before after
      → IsRowState code program entry budgets rules given row.state.value
      → ((names : Naming) → AreNames given names → IsBeginning code program entry names row.state.value)
      → IsGraph given after [] Waits
  begun given before after row words says no_keys no_rows visits (Old number) is state begins =
      absurd (nowhere number is.0.0 (subst (λ (keys : List (List ℕ)). slice_get keys number ≡ Some is.0.0) no_keys is.0.1))
  begun given before after row words says no_keys no_rows visits (New number) is state begins =
      let keys : after.keys ≡ words ∷ [] = is.2.keys ∙ ap (λ (l : List (List ℕ)). l ++ words ∷ []) no_keys in
      let rows : after.rows ≡ row ∷ [] = is.2.rows ∙ ap (λ (l : List Row). l ++ row ∷ []) no_rows in
      let number_is : number ≡ 0 = is.2.next ∙ ap length no_rows in
      record {
        keys = λ place key found at there.
            only row words place key found (subst (λ (l : List (List ℕ)). slice_get l place ≡ Some key) keys at)
            (subst (λ (l : List Row). slice_get l place ≡ Some found) rows there) says;
        long = ap length keys ∙ sym (ap length rows);
        closed = record {
          first = record { row = row; there = subst (λ (l : List Row). slice_get l 0 ≡ Some row) (sym rows) refl; begins = begins };
          states = λ place found there.
              subst (λ (r : Row). IsRowState code program entry budgets rules given r.state.value)
              (alone row place found (subst (λ (l : List Row). slice_get l place ≡ Some found) rows there)).1 state;
          expanded = λ place found there not.
              let first = alone row place found (subst (λ (l : List Row). slice_get l place ≡ Some found) rows there) in
              absurd (not (visits, (is.2.work visits place).1 (inl (refl, first.0 ∙ sym number_is))));
        };
      }

  pub graph_begun : (given : Naming) (before after : RowGraph) (row : Row) → before.keys ≡ [] → before.rows ≡ [] → PlacesRow row before after
      → IsRowState code program entry budgets rules given row.state.value
      → ((names : Naming) → AreNames given names → IsBeginning code program entry names row.state.value)
      → IsGraph given after [] Waits
  graph_begun given before after row no_keys no_rows places state begins =
      begun given before after row (words_of (live_part row.state.value)) refl no_keys no_rows places.0 places.1 places.2 state begins
