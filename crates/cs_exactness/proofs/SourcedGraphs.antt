-- The rows and ends of a graph have sources throughout an exploration: at its beginning, as a row is taken from the worklist, and as its successors are added.
use Rattle.std.proofs.Common.{◌≡◌, ◌≢◌, inl, inr, ◌<◌, ◌+◌, ℕ, zero, suc, List, [], ◌∷◌, ◌++◌, map, length, Some, slice_get}
use Rattle.std.proofs.Common.{refl, sym, ap, ◌∙◌, subst}
use Rattle.std.proofs.Common.{arith}
use Rattle.std.specs.Prelude.{nat_eq}
use Rattle.std.specs.Cmp.Lexicographic.{pointwise}
use Rattle.std.proofs.lemmas.Option.{same_Some, slice_get_within}
use Rattle.cs_ast.specs.TypedProgram.{TypedProgram}
use Rattle.cs_events.specs.declared.event.Event.{Event}
use Rattle.cs_events.specs.declared.outcome.RunBudgets.{RunBudgets}
use Rattle.cs_cfg.specs.Graph.{Code}
use Rattle.cs_state.specs.Naming.{Naming}
use Rattle.cs_keys.specs.Live.{live_part}
use Rattle.cs_keys.specs.Words.{words_of}
use Rattle.cs_graph.specs.Adding.{IsAdded, IsUnseen, with_work}
use Rattle.cs_graph.specs.declared.adding.Added.{Added}
use Rattle.cs_graph.specs.declared.adding.Added.TheVariants.{New, Old}
use Rattle.cs_graph.specs.Waiting.{IsWaiting, IsGiven}
use Rattle.cs_explored.specs.declared.child.Child.{Child}
use Rattle.cs_explored.specs.declared.explored.End.{End}
use Rattle.cs_explored.specs.declared.explored.Row.{Row}
use Rattle.cs_explored.specs.declared.watch.Rule.{Rule}
use Rattle.cs_explored.specs.Placing.{RowGraph, child_row, end_of_row, PlacesRow, PlacesAll, PlacesFirst}
use Rattle.cs_successors.specs.Coming.{StateEnd}
use Rattle.cs_coverage.specs.Closing.{Waits, IsOpen, IsListed}
use Rattle.cs_coverage.proofs.ClosedGraphs.{kept_place}
use Rattle.cs_coverage.proofs.RowKeys.{keys_joined, long_joined}
use Rattle.cs_exactness.specs.Sources.{IsFirstRow, ComesOfRow, AreSourced, IsSourcedGraph}
use Rattle.cs_exactness.proofs.SourcedRows.{AreFirst, listed_there, sourced_but, comes_more, sourced_ends, first_none, sourced_child, firsts_more, unlike_all}

-- an empty list has no element
nowhere : {A : Type 0} (xs : List A) → xs ≡ [] → (place : ℕ) (x : A) → slice_get xs place ≡ Some x → ⊥
nowhere xs none place x there = let at : slice_get [] place ≡ Some x = subst (λ l. slice_get l place ≡ Some x) none there in cc

-- the only element of a list
alone : {A : Type 0} (x : A) (place : ℕ) (y : A) → slice_get (x ∷ []) place ≡ Some y → (place ≡ 0) × (x ≡ y)
alone x zero y there = (refl, same_Some x y there)
alone x (suc place) y there = cc

module _ (code : Code) (program : TypedProgram) (entry : ℕ) (budgets : RunBudgets) (names : Naming) (rules : List Rule) where
  abbrev IsGraph : RowGraph → List End → (List (ℕ × ℕ) → ℕ → Type 0) → Type 0
  IsGraph graph ends Open = IsSourcedGraph code program entry budgets names rules graph ends Open

  abbrev Comes : List Row → ℕ → List Child → List StateEnd → Type 0
  Comes rows number made endings = ComesOfRow code program entry budgets names rules rows number made endings

  abbrev Sourced : List Row → List End → (ℕ → Type 0) → Type 0
  Sourced rows ends Are = AreSourced code program entry budgets names rules rows ends Are

  -- the next row is taken from the worklist
  pub sources_given : (before after : RowGraph) (ends : List End) (row : ℕ) → IsGiven row before.work after.work → after ≡ with_work after.work before
      → IsGraph before ends Waits → IsGraph after ends (IsOpen row)
  sources_given before after ends row given rest is =
      subst (λ (g : RowGraph). IsGraph g ends (IsOpen row)) (sym rest)
      (record {
        keys = is.keys;
        long = is.long;
        sourced = sourced_but code program entry budgets names rules before.rows ends (IsOpen row after.work) (Waits before.work) waited is.sourced;
      })
    where
      waited : (number : ℕ) → IsOpen row after.work number → Waits before.work number
      waited number (inl waits) = (waits.0, given.none_more waits.0 number waits.1)
      waited number (inr same) = (given.visits, subst (λ (n : ℕ). IsWaiting before.work given.visits n) (sym same) given.waited)

  -- a row that was taken, with its children and ends
  module _ (row : ℕ) (made : List Child) (endings : List StateEnd) where
    module _ (ends : List End) (listed : (place : ℕ) (one : StateEnd) → slice_get endings place ≡ Some one → IsListed ends row one) where
      -- this many of its children were placed
      record IsStage (count : ℕ) (graph : RowGraph) : Type 0 where
        sources : IsGraph graph ends Waits
        from : Comes graph.rows row made endings
        gone : ¬ Waits graph.work row
        firsts : AreFirst code program entry budgets names rules graph.rows row made count

      module _ (count : ℕ) (child : Child) (at : slice_get made count ≡ Some child) (before : RowGraph) (is : IsStage count before) where
        abbrev more : List Row
        more = before.rows ++ child_row row child ∷ []

        -- the key of the child existed
        placed_old : IsStage (suc count) before
        placed_old = record {
          sources = is.sources;
          from = is.from;
          gone = is.gone;
          firsts = λ number found event there leads same.
              let one = is.firsts number found event there leads same in
              let early = one.2 in
              (one.0, one.1, omega (arith, early), one.3, one.4);
        }

        place_one : (after : RowGraph) (visits : ℕ) (added : Added)
            → IsAdded (pointwise nat_eq) (words_of (live_part child.state.value)) visits (child_row row child) added before after
            → IsStage (suc count) after
        place_one after visits (Old number) (seen, same) = subst (IsStage (suc count)) (sym same) placed_old
        place_one after visits (New number) (unseen, room, new) = record {
          sources = record {
            keys = keys_joined before after (child_row row child) visits number is.sources.keys is.sources.long new;
            long = long_joined before after (child_row row child) visits number is.sources.keys is.sources.long new;
            sourced = subst (λ (rows : List Row). Sourced rows ends (Waits after.work)) (sym new.rows)
                (sourced_child code program entry budgets names rules row before.rows made endings is.from ends (Waits after.work) (Waits before.work)
                is.sources.sourced count child at is.firsts still_gone fewer unlike listed);
          };
          from = subst (λ (rows : List Row). Comes rows row made endings) (sym new.rows)
              (comes_more code program entry budgets names rules before.rows (child_row row child ∷ []) row made endings is.from);
          gone = still_gone;
          firsts = subst (λ (rows : List Row). AreFirst code program entry budgets names rules rows row made (suc count)) (sym new.rows)
              (firsts_more code program entry budgets names rules row before.rows made endings is.from ends (Waits after.work) (Waits before.work)
              is.sources.sourced count child at is.firsts still_gone fewer unlike listed);
        }
          where
            fewer : (n : ℕ) → n < length before.rows → Waits after.work n → Waits before.work n
            fewer n within waits = elim ((new.work waits.0 n).0 waits.1) [
              | inl joined ↦ let last = joined.1 in let next = new.next in absurd (omega (arith, within, last, next))
              | inr waited ↦ (waits.0, waited)
            ]

            still_gone : ¬ Waits after.work row
            still_gone waits = is.gone (fewer row (slice_get_within before.rows row is.from.row is.from.there) waits)

            unlike : (n : ℕ) (found : Row) → slice_get before.rows n ≡ Some found → live_part found.state.value ≢ live_part child.state.value
            unlike = unlike_all code program entry budgets names rules before is.sources.keys is.sources.long (child_row row child) unseen

      place_all : (todo : List Child) (count : ℕ) (before after : RowGraph)
          → ((i : ℕ) (child : Child) → slice_get todo i ≡ Some child → slice_get made (count + i) ≡ Some child) → IsStage count before
          → PlacesAll row todo before after → IsStage (count + length todo) after
      place_all [] count before after each is same =
          subst (λ (n : ℕ). IsStage n after) (omega arith) (subst (IsStage count) (sym same) is)
      place_all (child ∷ todo) count before after each is (between, first, rest) =
          let none : count + 0 ≡ count = omega arith in
          let at : slice_get made count ≡ Some child = subst (λ (n : ℕ). slice_get made n ≡ Some child) none (each 0 child refl) in
          subst (λ (n : ℕ). IsStage n after) (omega arith)
          (place_all todo (suc count) between after
          (λ i other there. subst (λ (n : ℕ). slice_get made n ≡ Some other) (omega arith) (each (suc i) other there))
          (place_one count child at before is between first.0 first.1 first.2) rest)

      -- its next child would be one of it too, if the budget of nodes allowed it
      refused : (count : ℕ) (child : Child) → slice_get made count ≡ Some child → (graph : RowGraph) → IsStage count graph
          → IsUnseen (pointwise nat_eq) (words_of (live_part child.state.value)) graph.keys
          → Sourced (graph.rows ++ child_row row child ∷ []) ends (λ number. ⊥)
      refused count child at graph is unseen =
          sourced_child code program entry budgets names rules row graph.rows made endings is.from ends (λ number. ⊥) (Waits graph.work) is.sources.sourced
          count child at is.firsts (λ never. never) (λ number within never. absurd never)
          (unlike_all code program entry budgets names rules graph is.sources.keys is.sources.long (child_row row child) unseen) listed

    -- its ends were added, and its first children
    module _ (before after : RowGraph) (ends : List End) (from : Comes before.rows row made endings) (gone : ¬ Waits before.work row)
        (places : PlacesFirst row made before after) (is : IsGraph before ends (IsOpen row)) where
      abbrev all_ends : List End
      all_ends = ends ++ map (end_of_row row) endings

      placed : IsStage all_ends (listed_there ends row endings) (length places.some) after
      placed =
          subst (λ (n : ℕ). IsStage all_ends (listed_there ends row endings) n after) (omega arith)
          (place_all all_ends (listed_there ends row endings) places.some 0 before after
          (λ i child there.
          subst (λ (n : ℕ). slice_get made n ≡ Some child) (omega arith)
          (subst (λ (l : List Child). slice_get l i ≡ Some child) (sym places.all) (kept_place places.some places.left i child there)))
          (record {
            sources = record {
              keys = is.keys;
              long = is.long;
              sourced = sourced_ends code program entry budgets names rules row before.rows made endings from ends (Waits before.work)
                  (IsOpen row before.work) is.sourced (inr refl) (λ number waits. inl waits) gone;
            };
            from = from;
            gone = gone;
            firsts = first_none code program entry budgets names rules row before.rows made endings from ends (Waits before.work) (IsOpen row before.work)
                is.sourced (inr refl) (λ number waits. inl waits) gone;
          }) places.placed)

      pub sources_expanded : IsGraph after all_ends Waits
      sources_expanded = placed.sources

      -- and the next one was refused
      pub sources_refused : (child : Child) → slice_get made (length places.some) ≡ Some child
          → IsUnseen (pointwise nat_eq) (words_of (live_part child.state.value)) after.keys
          → Sourced (after.rows ++ child_row row child ∷ []) all_ends (λ number. ⊥)
      sources_refused child at unseen = refused all_ends (listed_there ends row endings) (length places.some) child at after placed unseen

  -- an empty graph
  pub sources_nothing : (graph : RowGraph) → graph.keys ≡ [] → graph.rows ≡ [] → IsGraph graph [] Waits
  sources_nothing graph no_keys no_rows = record {
    keys = λ place key row at there. absurd (nowhere graph.rows no_rows place row there);
    long = ap length no_keys ∙ sym (ap length no_rows);
    sourced = record {
      rows_come = λ number row there. absurd (nowhere graph.rows no_rows number row there);
      ends_come = λ number end there. cc;
      keys_differ = λ one other first second here there same. absurd (nowhere graph.rows no_rows one first here);
      siblings_differ = λ one other first second here there at too parents leads again labels. absurd (nowhere graph.rows no_rows one first at);
      ends_differ = λ one other first second here there. cc;
      ends_listed = λ number row event there. absurd (nowhere graph.rows no_rows number row there);
      no_children = λ number row event there. absurd (nowhere graph.rows no_rows number row there);
      no_ends = λ number end there. cc;
    };
  }

  -- only the first row
  pub sourced_first : (row : Row) (Are : ℕ → Type 0) → IsFirstRow code program entry budgets names rules row → Sourced (row ∷ []) [] Are
  sourced_first row Are first = record {
    rows_come = λ number found there.
        let one = alone row number found there in
        inl (one.0, subst (IsFirstRow code program entry budgets names rules) one.1 first);
    ends_come = λ number end there. cc;
    keys_differ = λ one other found second here there same. (alone row one found here).0 ∙ sym (alone row other second there).0;
    siblings_differ = λ one other found second here there at too parents leads again labels. (alone row one found at).0 ∙ sym (alone row other second too).0;
    ends_differ = λ one other found second here there. cc;
    ends_listed = λ number found event there leads. absurd (no_event number found event there leads);
    no_children = λ number found event there leads. absurd (no_event number found event there leads);
    no_ends = λ number end there. cc;
  }
    where
      no_event : (number : ℕ) (found : Row) (event : Event) → slice_get (row ∷ []) number ≡ Some found → found.event ≡ Some event → ⊥
      no_event number found event there leads =
          let wrong = sym first.no_event ∙ ap (λ (r : Row). r.event) (alone row number found there).1 ∙ leads in
          cc

  -- the first row was added
  begun : (before after : RowGraph) (row : Row) → before.keys ≡ [] → before.rows ≡ [] → (visits : ℕ) (added : Added)
      → IsAdded (pointwise nat_eq) (words_of (live_part row.state.value)) visits row added before after
      → IsFirstRow code program entry budgets names rules row → IsGraph after [] Waits
  begun before after row no_keys no_rows visits (Old number) (seen, same) first = absurd (nowhere before.keys no_keys number seen.0 seen.1)
  begun before after row no_keys no_rows visits (New number) (unseen, room, new) first =
      let nothing = sources_nothing before no_keys no_rows in
      let rows : after.rows ≡ row ∷ [] = new.rows ∙ ap (λ (l : List Row). l ++ row ∷ []) no_rows in
      record {
        keys = keys_joined before after row visits number nothing.keys nothing.long new;
        long = long_joined before after row visits number nothing.keys nothing.long new;
        sourced = subst (λ (l : List Row). Sourced l [] (Waits after.work)) (sym rows) (sourced_first row (Waits after.work) first);
      }

  pub sources_begun : (before after : RowGraph) (row : Row) → before.keys ≡ [] → before.rows ≡ [] → PlacesRow row before after
      → IsFirstRow code program entry budgets names rules row → IsGraph after [] Waits
  sources_begun before after row no_keys no_rows places first = begun before after row no_keys no_rows places.0 places.1 places.2 first
