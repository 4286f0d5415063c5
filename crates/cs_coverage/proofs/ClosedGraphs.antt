-- A closed graph stays closed as it grows: as names, ends and rows are added, and as a row is taken from the worklist and its successors are added.
use Rattle.std.proofs.Common.{◌≡◌, ◌⊎◌, inl, inr, ◌<◌, ℕ, zero, suc, List, [], ◌∷◌, ◌++◌, length, Some, slice_get, refl, sym, ap}
use Rattle.std.proofs.Common.{subst, arith}
use Rattle.std.proofs.lemmas.Bool.{cases_order}
use Rattle.std.proofs.lemmas.Option.{same_Some}
use Rattle.cs_ast.specs.TypedProgram.{TypedProgram}
use Rattle.cs_events.specs.declared.outcome.RunBudgets.{RunBudgets}
use Rattle.cs_cfg.specs.Graph.{Code}
use Rattle.cs_state.specs.declared.state.State.{State}
use Rattle.cs_state.specs.Naming.{Naming, Extends}
use Rattle.cs_graph.specs.Waiting.{IsGiven}
use Rattle.cs_explored.specs.declared.child.Child.{Child}
use Rattle.cs_explored.specs.declared.explored.End.{End}
use Rattle.cs_explored.specs.declared.explored.Row.{Row}
use Rattle.cs_explored.specs.declared.watch.Rule.{Rule}
use Rattle.cs_coverage.specs.Closing.{Waits, IsOpen, HasRowFor, AreNames, IsRowState, IsExpanded, IsClosed}

-- an element keeps its index as a list grows
pub kept_place : {A : Type 0} (xs ys : List A) (place : ℕ) (x : A) → slice_get xs place ≡ Some x → slice_get (xs ++ ys) place ≡ Some x
kept_place [] ys place x there = cc
kept_place (y ∷ xs) ys zero x there = there
kept_place (y ∷ xs) ys (suc place) x there = kept_place xs ys place x there

-- an element of a list with one more is an earlier one or the new one
pub last_or_before : {A : Type 0} (xs : List A) (y x : A) (place : ℕ) → slice_get (xs ++ y ∷ []) place ≡ Some x
    → (slice_get xs place ≡ Some x) ⊎ ((place ≡ length xs) × (x ≡ y))
last_or_before [] y x zero there = inr (refl, sym (same_Some y x there))
last_or_before [] y x (suc place) there = cc
last_or_before (z ∷ xs) y x zero there = inl there
last_or_before (z ∷ xs) y x (suc place) there =
    elim (last_or_before xs y x place there) [
      | inl before ↦ inl before
      | inr last ↦ inr (ap suc last.0, last.1)
    ]

pub last_there : {A : Type 0} (xs : List A) (y : A) → slice_get (xs ++ y ∷ []) (length xs) ≡ Some y
last_there [] y = refl
last_there (x ∷ xs) y = last_there xs y

-- names that extend later ones extend earlier ones
pub earlier_names : {given later names : Naming} → Extends given later → AreNames later names → AreNames given names
earlier_names more are = record {
  extend = record {
    syms = λ place name there. are.extend.syms place name (more.syms place name there);
    bases = λ place name there. are.extend.bases place name (more.bases place name there);
    types = λ place name there. are.extend.types place name (more.types place name there);
  };
  numbered = are.numbered;
}

differ : (number row : ℕ) → (number < row) ⊎ (row < number) → number ≡ row → ⊥
differ number row (inl below) same = omega (arith, below, same)
differ number row (inr above) same = omega (arith, above, same)

pub row_kept : (rows more : List Row) (child : Child) → HasRowFor rows child → HasRowFor (rows ++ more) child
row_kept rows more child has = record {
  number = has.number;
  row = has.row;
  there = kept_place rows more has.number has.row has.there;
  same = has.same;
  plain = has.plain;
}

module _ (code : Code) (program : TypedProgram) (entry : ℕ) (budgets : RunBudgets) (rules : List Rule) where
  -- more names
  module _ (given later : Naming) (extends : Extends given later) where
    pub state_later : (state : State) → IsRowState code program entry budgets rules given state → IsRowState code program entry budgets rules later state
    state_later state is = record { integer = λ names are. is.integer names (earlier_names extends are); plain = is.plain }

    expanded_later : (rows : List Row) (ends : List End) (number : ℕ) (row : Row) → IsExpanded code program entry budgets rules given rows ends number row
        → IsExpanded code program entry budgets rules later rows ends number row
    expanded_later rows ends number row is = record {
      made = is.made;
      endings = is.endings;
      comes = λ names are. is.comes names (earlier_names extends are);
      children = is.children;
      listed = is.listed;
      plain = is.plain;
    }

    pub closed_later : (rows : List Row) (ends : List End) (Are : ℕ → Type 0) → IsClosed code program entry budgets rules given rows ends Are
        → IsClosed code program entry budgets rules later rows ends Are
    closed_later rows ends Are is = record {
      first = record {
        row = is.first.row;
        there = is.first.there;
        begins = λ names are. is.first.begins names (earlier_names extends are);
      };
      states = λ number row there. state_later row.state.value (is.states number row there);
      expanded = λ number row there not. expanded_later rows ends number row (is.expanded number row there not);
    }

  module _ (given : Naming) where
    -- more rows and ends
    expanded_more : (rows more : List Row) (ends others : List End) (number : ℕ) (row : Row)
        → IsExpanded code program entry budgets rules given rows ends number row
        → IsExpanded code program entry budgets rules given (rows ++ more) (ends ++ others) number row
    expanded_more rows more ends others number row is = record {
      made = is.made;
      endings = is.endings;
      comes = is.comes;
      children = λ place child there. row_kept rows more child (is.children place child there);
      listed = λ place one there.
          let listed = is.listed place one there in
          record { place = listed.place; there = kept_place ends others listed.place _ listed.there };
      plain = is.plain;
    }

    pub closed_with_ends : (rows : List Row) (ends others : List End) (Are : ℕ → Type 0)
        → IsClosed code program entry budgets rules given rows ends Are
        → IsClosed code program entry budgets rules given rows (ends ++ others) Are
    closed_with_ends rows ends others Are is = record {
      first = is.first;
      states = is.states;
      expanded = λ number row there not.
          let parts = is.expanded number row there not in
          record {
            made = parts.made;
            endings = parts.endings;
            comes = parts.comes;
            children = parts.children;
            listed = λ place one there.
                let listed = parts.listed place one there in
                record { place = listed.place; there = kept_place ends others listed.place _ listed.there };
            plain = parts.plain;
          };
    }

    -- one more row, which waits
    pub closed_with_row : (rows : List Row) (ends : List End) (new : Row) (Are Were : ℕ → Type 0)
        → ((number : ℕ) → Were number → Are number) → Are (length rows) → IsRowState code program entry budgets rules given new.state.value
        → IsClosed code program entry budgets rules given rows ends Were
        → IsClosed code program entry budgets rules given (rows ++ new ∷ []) ends Are
    closed_with_row rows ends new Are Were waits joined state is = record {
      first = record {
        row = is.first.row;
        there = kept_place rows (new ∷ []) 0 is.first.row is.first.there;
        begins = is.first.begins;
      };
      states = λ number row there. elim (last_or_before rows new row number there) [
        | inl before ↦ is.states number row before
        | inr last ↦ subst (λ (r : Row). IsRowState code program entry budgets rules given r.state.value) (sym last.1) state
      ];
      expanded = λ number row there not. elim (last_or_before rows new row number there) [
        | inl before ↦
            let parts = is.expanded number row before (λ were. not (waits number were)) in
            record {
              made = parts.made;
              endings = parts.endings;
              comes = parts.comes;
              children = λ place child at. row_kept rows (new ∷ []) child (parts.children place child at);
              listed = parts.listed;
              plain = parts.plain;
            }
        | inr last ↦ absurd (not (subst Are (sym last.0) joined))
      ];
    }

    -- other rows wait: all that did, or those whose children are there
    pub closed_but : (rows : List Row) (ends : List End) (Are Were : ℕ → Type 0) → ((number : ℕ) → Were number → Are number)
        → IsClosed code program entry budgets rules given rows ends Were → IsClosed code program entry budgets rules given rows ends Are
    closed_but rows ends Are Were waits is = record {
      first = is.first;
      states = is.states;
      expanded = λ number row there not. is.expanded number row there (λ were. not (waits number were));
    }

    -- a row is taken from the worklist
    pub closed_given : (rows : List Row) (ends : List End) (row : ℕ) (before after : List (ℕ × ℕ)) → IsGiven row before after
        → IsClosed code program entry budgets rules given rows ends (Waits before)
        → IsClosed code program entry budgets rules given rows ends (IsOpen row after)
    closed_given rows ends row before after is closed = record {
      first = closed.first;
      states = closed.states;
      expanded = λ number found there not. closed.expanded number found there
          (λ waits. not (inl (waits.0, is.others waits.0 number waits.1 (λ same. not (inr same)))));
    }

    -- all successors of the row that was taken are there
    pub closed_expanded : (rows : List Row) (ends : List End) (row : ℕ) (work : List (ℕ × ℕ))
        → ((found : Row) → slice_get rows row ≡ Some found → IsExpanded code program entry budgets rules given rows ends row found)
        → IsClosed code program entry budgets rules given rows ends (IsOpen row work)
        → IsClosed code program entry budgets rules given rows ends (Waits work)
    closed_expanded rows ends row work expanded closed = record {
      first = closed.first;
      states = closed.states;
      expanded = λ number found there not. elim (cases_order number row) [
        | inl same ↦
            subst (λ n. IsExpanded code program entry budgets rules given rows ends n found) (sym same)
            (expanded found (subst (λ n. slice_get rows n ≡ Some found) same there))
        | inr apart ↦ closed.expanded number found there (λ open_row. elim open_row [
          | inl waits ↦ not waits
          | inr same ↦ differ number row apart same
        ])
      ];
    }
