-- The meaning of states of which only the first temporaries remain: for the contracts of steps.
use Rattle.std.proofs.Common.{◌≡◌, ℕ, ◌+◌, ◌-◌, ◌≤◌, min, List, [], ◌∷◌, length, map, take, if◌then◌else◌, refl, sym, ap}
use Rattle.std.proofs.Common.{◌∙◌, subst, arith}
use Rattle.std.proofs.lemmas.List.{length-map, length-reverse, length-take, take_min, take_all, take-take}
use Rattle.cs_ast.specs.TypedProgram.{TypedProgram}
use Rattle.cs_terms.specs.Term.{Valuation}
use Rattle.cs_events.specs.Acts.{Goes}
use Rattle.cs_meaning.specs.Initials.{number_in}
use Rattle.cs_meaning.specs.Operators.{branch}
use Rattle.cs_meaning.specs.Machine.{Operand, CallFrame, with_stack, pop, pop_many, operand_at, cell_at}
use Rattle.cs_meaning.specs.Calls.{leave_to, leave}
use Rattle.cs_cfg.specs.Graph.{BlockEnd, Jump, Branch, Switch, Return, Finish, Point, Code}
use Rattle.cs_cfg.specs.Working.{CodeState, cut}
use Rattle.cs_cfg.specs.CodeSteps.{enters, way_of, goes_way, do_end}
use Rattle.cs_state.specs.declared.state.State.{State}
use Rattle.cs_state.specs.declared.temporary.Temporary.{Temporary}
use Rattle.cs_state.specs.Cells.{operand_of}
use Rattle.cs_state.specs.Meaning.{meaning}
use Rattle.cs_state.specs.Naming.{Naming}
use Rattle.cs_state.specs.Writes.{with_temporaries}
use Rattle.cs_progress.specs.Stepping.{IsCutTo, IsCutForEnd, IsCutFor}
use Rattle.cs_progress.proofs.OperandsMean.{dropped}

-- cutting twice is cutting once
pub cut_once : (number : ℕ) (before after : State) → IsCutTo number before after → IsCutTo number after after
cut_once number before after is =
    subst (λ (state : State). IsCutTo number state state) (sym is)
    (ap (λ (temporaries : List Temporary). with_temporaries temporaries before) (sym (take-take number number before.frame.temporaries (omega arith))))

-- at most this many temporaries remain
pub cut_below : (number : ℕ) (before after : State) → IsCutTo number before after → length after.frame.temporaries ≤ number
cut_below number before after is =
    let long = ap (λ (state : State). length state.frame.temporaries) is ∙ length-take number before.frame.temporaries in
    omega (arith, long)

-- only temporaries are cut
pub cut_shared : (end : BlockEnd) (before after : State) → IsCutForEnd end before after
    → (temporaries : List Temporary) × (after ≡ with_temporaries temporaries before)
cut_shared (Jump block) before after is = (before.frame.temporaries, is)
cut_shared (Branch at temporary one other) before after is = (take (temporary + 1) before.frame.temporaries, is)
cut_shared (Switch at temporary cases otherwise) before after is = (take (temporary + 1) before.frame.temporaries, is)
cut_shared (Return temporary) before after is = (take (temporary + 1) before.frame.temporaries, is)
cut_shared Finish before after is = (before.frame.temporaries, is)

pub cut_for : (end : BlockEnd) (before after : State) → IsCutForEnd end before after → IsCutFor end after
cut_for (Jump block) before after is = tt
cut_for (Branch at temporary one other) before after is = cut_below (temporary + 1) before after is
cut_for (Switch at temporary cases otherwise) before after is = cut_below (temporary + 1) before after is
cut_for (Return temporary) before after is = cut_below (temporary + 1) before after is
cut_for Finish before after is = tt

-- a state with at most this many temporaries isn't changed by the cut
pub uncut : (number : ℕ) (state : State) → length state.frame.temporaries ≤ number → IsCutTo number state state
uncut number state few =
    ap (λ (temporaries : List Temporary). with_temporaries temporaries state) (sym (take_all number state.frame.temporaries few))

module _ (code : Code) (names : Naming) (program : TypedProgram) (v : Valuation) where
  -- the run's state that a state represents
  abbrev run : State → CodeState
  run state = meaning code names program state v

  -- and the run's state is cut alike
  pub cut_means : (number : ℕ) (before after : State) → IsCutTo number before after → run after ≡ cut number (run before)
  cut_means number before after is =
      let temporaries = before.frame.temporaries in
      let shown = map (operand_of names.bases before.blocks v) temporaries in
      let long : length (run before).frame.stack ≡ length temporaries =
      length-reverse shown ∙ length-map temporaries (operand_of names.bases before.blocks v) in
      dropped before after (min number (length temporaries)) (length temporaries - number) (omega arith)
      (is ∙ ap (λ (left : List Temporary). with_temporaries left before) (sym (take_min number temporaries))) code names program v
      ∙ ap (λ n. pop_many (n - number) (run before)) (sym long)

  cut_both : (number : ℕ) (before after : State) → IsCutTo number before after → cut number (run before) ≡ cut number (run after)
  cut_both number before after is = sym (cut_means number before after is) ∙ cut_means number after after (cut_once number before after is)

  -- if a state has at most this many temporaries, the cut doesn't change the run's state
  pub uncut_means : (number : ℕ) (state : State) → length state.frame.temporaries ≤ number → cut number (run state) ≡ run state
  uncut_means number state few = sym (cut_means number state state (uncut number state few))

  -- when a frame is left, its operands don't matter
  left_cut : (callers : List (CallFrame Point)) (given : Operand) (stack : List Operand) (m : CodeState)
      → leave_to callers given m ≡ leave_to callers given (with_stack stack m)
  left_cut [] given stack m = refl
  left_cut (caller ∷ callers) given stack m = refl

  -- the end of a block does the same if its temporaries are cut before
  pub end_cut : (end : BlockEnd) (before after : State) → IsCutForEnd end before after → do_end code end (run before) ≡ do_end code end (run after)
  end_cut (Jump block) before after is = ap (λ (s : State). do_end code (Jump block) (run s)) (sym is)
  end_cut (Branch at temporary one other) before after is =
      ap (λ m. branch at (cell_at m 0) (λ holds. Goes (enters code (if holds then one else other) (pop m)))) (cut_both (temporary + 1) before after is)
  end_cut (Switch at temporary cases otherwise) before after is =
      ap (λ m. goes_way code at (way_of cases otherwise (number_in (cell_at m 0)) 0) (pop m)) (cut_both (temporary + 1) before after is)
  end_cut (Return temporary) before after is =
      left_cut (run before).callers (operand_at (cut (temporary + 1) (run before)) 0) (cut (temporary + 1) (run before)).frame.stack (run before)
      ∙ (λ i. leave (operand_at (cut_both (temporary + 1) before after is i) 0) (sym (cut_means (temporary + 1) before after is) i))
  end_cut Finish before after is = ap (λ (s : State). do_end code Finish (run s)) (sym is)
