use Rattle.std.proofs.Common.{◌≡◌, Bool, true, false, [], ◌∷◌, refl, sym, ap, ◌∙◌, subst}
use Rattle.std.specs.Prelude.{Result, Ok, Err, OnOk}
use Rattle.std.specs.Global.{Box}
use Rattle.cs_ast.specs.declared.place.Place.{Place}
use Rattle.cs_terms.specs.declared.term.Lin.{Lin}
use Rattle.cs_events.specs.declared.outcome.Outcome.{Outcome}
use Rattle.cs_access.specs.declared.checking.Checked.{Checked}
use Rattle.cs_eval.specs.declared.question.Question.{Question}
use Rattle.cs_state.specs.declared.state.State.{State}
use Rattle.cs_state.specs.Naming.{Naming, naming, Extends}
use Rattle.cs_progress.specs.declared.next.Next.{Next}
use Rattle.cs_progress.specs.declared.next.Next.TheVariants as next
use Rattle.cs_progress.specs.Stepping.{StepsInLocals}
use Rattle.cs_spots.specs.AtSpots.{came_to}
use Rattle.cs_successors.specs.Coming.{OutcomesDiffer}
use Rattle.cs_children.specs.declared.children.Children.{Children}
use Rattle.cs_successors.specs.declared.exploration.Exploration.{Exploration}
use Rattle.cs_children.specs.Adding.{Adds, AddsPieces, AddsFaulty, KeepApart}
use Rattle.cs_pieces.specs.Pieces.{AreOfQuestion, AreOfSwitch, GoesOn}
use Rattle.cs_children.specs.Finding.{FindsAll, FindsSoFar}
use Rattle.cs_successors.specs.Explorations.{code_of, model_of, limits_of}
use Rattle.cs_children.proofs.Found.{has_every_kind, finds_none_yet, none_differ, finds_done, finds_rest, finds_no_rest, finds_end}
use Rattle.cs_children.proofs.Found.{finds_answers, finds_cases, finds_nowhere, extends_on}
use Rattle.cs_children.proofs.children.Children.find_with.Goals as goal
use Rattle.cs_children.proofs.children.Children.find_with.Goals.{in-Done, in-Checks+in_ok-checked-in-Checks+else-not-branch}

both_ok : {X Y P Q R : Type 0} (r : Result X Y) → (P → Q → R) → OnOk r P → OnOk r Q → OnOk r R
both_ok (Ok x) f p q = f p q
both_ok (Err e) f p q = tt

-- what comes first if the operation isn't done, and if it is
came_eq : (done : Bool) (first what : Next) → done ≡ false → what ≡ first → came_to done first ≡ what
came_eq done first what waits is = ap (λ (b : Bool). came_to b first) waits ∙ sym is

came_done : (done : Bool) (first : Next) → done ≡ true → came_to done first ≡ next.Done
came_done done first over = ap (λ (b : Bool). came_to b first) over

ok_given : {X Y P : Type 0} (r : Result X Y) → P → OnOk r P
ok_given (Ok x) p = p
ok_given (Err e) p = tt

-- the successors found before a step, and the step
module _ (exploration : Exploration) (given later : Naming) (more : Extends given later) (before state : State) (found : Children)
    (so_far : FindsSoFar exploration given before state found) (apart : OutcomesDiffer found.ends.items)
    (old new : State) (what : Next)
    (steps : StepsInLocals (code_of exploration) (model_of exploration) (limits_of exploration) later old new what) (is_old : old ≡ state) where
  stepped : (now : Next) → what ≡ now → StepsInLocals (code_of exploration) (model_of exploration) (limits_of exploration) later state new now
  stepped now is =
      subst (λ (s : State). StepsInLocals (code_of exploration) (model_of exploration) (limits_of exploration) later s new now) is_old
      (subst (StepsInLocals (code_of exploration) (model_of exploration) (limits_of exploration) later old new) is steps)

  step_done : what ≡ next.Done → FindsSoFar exploration later before new found
  step_done is = finds_done exploration given before state found so_far later more new (stepped next.Done is)

  module _ (at : Place) (checked : Box Checked) (is : what ≡ next.Checks at checked) (middle after : State) (is_new : middle ≡ new) (all : Children)
      (goes : Bool) (adds : AddsFaulty at checked.value.faults.items found all) (on : GoesOn checked.value.rest goes middle after) where
    on_new : GoesOn checked.value.rest goes new after
    on_new = subst (λ (s : State). GoesOn checked.value.rest goes s after) is_new on

    step_rest : goes ≡ true → FindsSoFar exploration later before after all
    step_rest is_true =
        finds_rest exploration given before state found so_far later more new at checked (stepped (next.Checks at checked) is) all after goes adds on_new
        is_true

    step_no_rest : goes ≡ false → KeepApart found all → FindsAll exploration later before all
    step_no_rest is_false keeps =
        finds_no_rest exploration given before state found so_far later more new at checked (stepped (next.Checks at checked) is) all after goes adds on_new
        is_false (keeps apart)

  module _ {X Y : Type 0} (result : Result X Y) (box : Box State) (is_new : new ≡ box.value) (all : Children) (keeps : OnOk result (KeepApart found all))
    where
      boxed : (now : Next) → what ≡ now
          → StepsInLocals (code_of exploration) (model_of exploration) (limits_of exploration) later state box.value now
      boxed now is = subst (λ (s : State). StepsInLocals (code_of exploration) (model_of exploration) (limits_of exploration) later state s now) is_new
          (stepped now is)

      step_end : (outcome : Outcome) → what ≡ next.Ends outcome → OnOk result (Adds found all [] ((outcome, box) ∷ []))
          → OnOk result (FindsAll exploration later before all)
      step_end outcome is adds =
          both_ok result (λ (added : Adds found all [] ((outcome, box) ∷ [])) (kept : KeepApart found all).
          finds_end exploration given before state found so_far later more box outcome (boxed (next.Ends outcome) is) all added (kept apart)) adds keeps

      step_answers : (at : Place) (asked : Question) → what ≡ next.Asks at asked → (last : Naming) → Extends later last
          → OnOk result (AddsPieces exploration.budgets.events exploration.rules.now box at (AreOfQuestion (model_of exploration) last box.value asked) found
          all)
          → OnOk result (FindsAll exploration last before all)
      step_answers at asked is last extends adds =
          both_ok result (λ (added : AddsPieces exploration.budgets.events exploration.rules.now box at
          (AreOfQuestion (model_of exploration) last box.value asked) found all) (kept : KeepApart found all).
          finds_answers exploration given before state found so_far later more box at asked (boxed (next.Asks at asked) is) last extends all added
          (kept apart)) adds keeps

      step_cases : (at : Place) (term : Lin) → what ≡ next.Selects at term
          → OnOk result (AddsPieces exploration.budgets.events exploration.rules.now box at (AreOfSwitch (code_of exploration) box.value term) found all)
          → OnOk result (FindsAll exploration later before all)
      step_cases at term is adds =
          both_ok result (λ (added : AddsPieces exploration.budgets.events exploration.rules.now box at
          (AreOfSwitch (code_of exploration) box.value term) found all) (kept : KeepApart found all).
          finds_cases exploration given before state found so_far later more box at term (boxed (next.Selects at term) is) all added (kept apart)) adds keeps

pub loop-init : goal.loop-init
loop-init g c = record {
  kinds = refl;
  extends = record { syms = λ place name there. there; bases = λ place name there. there; types = λ place name there. there };
  found = λ every none. finds_none_yet c.args.exploration.now (naming c.args.tables.now) c.args.state.value c.args.self.now none;
  apart = λ none. none_differ c.args.self.now none;
}

pub returns-then-not-branch-clause-all : goal.returns-then-not-branch-clause-all
returns-then-not-branch-clause-all g c = λ every none.
    let first = came_eq c.in_ok-proceed.field-0 c.proceed.new.attempt.progress.first c.replace.result c.if-branch.false c.replace.ensures.value in
    let came = came_to c.in_ok-proceed.field-0 c.proceed.new.attempt.progress.first in
    let steps = c.in_ok-proceed.ensures.steps (has_every_kind _ _ _ c.loop.invariant.kinds every) in
    let done = c.in_ok-checked-in-Checks in
    step_no_rest c.args.exploration.now (naming c.loop.tables) (naming c.proceed.new.tables) c.proceed.ensures.extends c.args.state.value c.loop.state.value
    c.loop.self (c.loop.invariant.found every none) (c.loop.invariant.apart none) c.deref_mut.result.now c.proceed.new.state came steps
    c.deref_mut.ensures.value c.in-Checks.at c.in-Checks.checked (first ∙ c.in-Checks.is) c.deref_mut-in-Checks.result.now c.checked.new.state
    c.deref_mut-in-Checks.ensures.value c.checked.new.self done.field-0 done.ensures.adds done.ensures.rest c.if-not-branch.true done.ensures.apart

pub returns-in-Ends-clause-all : goal.returns-in-Ends-clause-all
returns-in-Ends-clause-all g c = λ every none.
    let first = came_eq c.in_ok-proceed.field-0 c.proceed.new.attempt.progress.first c.replace.result c.if-branch.false c.replace.ensures.value in
    let came = came_to c.in_ok-proceed.field-0 c.proceed.new.attempt.progress.first in
    let steps = c.in_ok-proceed.ensures.steps (has_every_kind _ _ _ c.loop.invariant.kinds every) in
    step_end c.args.exploration.now (naming c.loop.tables) (naming c.proceed.new.tables) c.proceed.ensures.extends c.args.state.value c.loop.state.value
    c.loop.self (c.loop.invariant.found every none) (c.loop.invariant.apart none) c.deref_mut.result.now c.proceed.new.state came steps
    c.deref_mut.ensures.value c.end.result _ refl c.end.new.self c.end.ensures.apart c.in-Ends.outcome (first ∙ c.in-Ends.is) c.end.ensures.adds

pub returns-in-Asks-clause-all : goal.returns-in-Asks-clause-all
returns-in-Asks-clause-all g c = λ every none.
    let first = came_eq c.in_ok-proceed.field-0 c.proceed.new.attempt.progress.first c.replace.result c.if-branch.false c.replace.ensures.value in
    let came = came_to c.in_ok-proceed.field-0 c.proceed.new.attempt.progress.first in
    let steps = c.in_ok-proceed.ensures.steps (has_every_kind _ _ _ c.loop.invariant.kinds every) in
    step_answers c.args.exploration.now (naming c.loop.tables) (naming c.proceed.new.tables) c.proceed.ensures.extends c.args.state.value c.loop.state.value
    c.loop.self (c.loop.invariant.found every none) (c.loop.invariant.apart none) c.deref_mut.result.now c.proceed.new.state came steps
    c.deref_mut.ensures.value c.ask.result _ refl c.ask.new.self c.ask.ensures.apart c.in-Asks.at c.in-Asks.question (first ∙ c.in-Asks.is)
    (naming c.ask.new.tables) c.ask.ensures.extends c.ask.ensures.adds

pub returns-in-Selects-clause-all : goal.returns-in-Selects-clause-all
returns-in-Selects-clause-all g c = λ every none.
    let first = came_eq c.in_ok-proceed.field-0 c.proceed.new.attempt.progress.first c.replace.result c.if-branch.false c.replace.ensures.value in
    let came = came_to c.in_ok-proceed.field-0 c.proceed.new.attempt.progress.first in
    let steps = c.in_ok-proceed.ensures.steps (has_every_kind _ _ _ c.loop.invariant.kinds every) in
    step_cases c.args.exploration.now (naming c.loop.tables) (naming c.proceed.new.tables) c.proceed.ensures.extends c.args.state.value c.loop.state.value
    c.loop.self (c.loop.invariant.found every none) (c.loop.invariant.apart none) c.deref_mut.result.now c.proceed.new.state came steps
    c.deref_mut.ensures.value c.select.result _ refl c.select.new.self c.select.ensures.apart c.in-Selects.at c.in-Selects.term (first ∙ c.in-Selects.is)
    c.select.ensures.adds

pub returns-in-Reaches-clause-all : goal.returns-in-Reaches-clause-all
returns-in-Reaches-clause-all g c = λ every none.
    let first = came_eq c.in_ok-proceed.field-0 c.proceed.new.attempt.progress.first c.replace.result c.if-branch.false c.replace.ensures.value in
    let came = came_to c.in_ok-proceed.field-0 c.proceed.new.attempt.progress.first in
    let steps = c.in_ok-proceed.ensures.steps (has_every_kind _ _ _ c.loop.invariant.kinds every) in
    let reaches = c.in-Reaches in
    ok_given c.reach.result
    (finds_nowhere c.args.exploration.now (naming c.loop.tables) c.args.state.value c.loop.state.value c.loop.self (c.loop.invariant.found every none)
    (naming c.proceed.new.tables) c.proceed.ensures.extends c.proceed.new.state reaches.at reaches.field-1 reaches.offset
    (stepped c.args.exploration.now (naming c.loop.tables) (naming c.proceed.new.tables) c.proceed.ensures.extends c.args.state.value c.loop.state.value
    c.loop.self (c.loop.invariant.found every none) (c.loop.invariant.apart none) c.deref_mut.result.now c.proceed.new.state came steps
    c.deref_mut.ensures.value (next.Reaches reaches.at reaches.field-1 reaches.offset) (first ∙ reaches.is)) c.reach.new.self)

pub loop-preserved : goal.loop-preserved
loop-preserved g c = record {
  kinds = c.proceed.ensures.kinds ∙ c.loop.invariant.kinds;
  extends = extends_on (naming c.args.tables.now) (naming c.loop.tables) (naming c.proceed.new.tables) c.loop.invariant.extends c.proceed.ensures.extends;
  found = λ every none.
      let first = came_eq c.in_ok-proceed.field-0 c.proceed.new.attempt.progress.first c.replace.result c.if-branch.false c.replace.ensures.value in
      let came = came_to c.in_ok-proceed.field-0 c.proceed.new.attempt.progress.first in
      let steps = c.in_ok-proceed.ensures.steps (has_every_kind _ _ _ c.loop.invariant.kinds every) in
      let exploration = c.args.exploration.now in
      let later = naming c.proceed.new.tables in
      let before = c.args.state.value in
      elim c.match-replace.branch [
        | in-Done w ↦
            subst (λ (s : State). FindsSoFar exploration later before s c.match-replace.self) (ap (λ (b : Box State). b.value) (sym w.state-is))
            (subst (FindsSoFar exploration later before c.proceed.new.state) (sym w.self-is)
            (step_done exploration (naming c.loop.tables) later c.proceed.ensures.extends before c.loop.state.value c.loop.self
            (c.loop.invariant.found every none) (c.loop.invariant.apart none) c.deref_mut.result.now c.proceed.new.state came steps
            c.deref_mut.ensures.value (first ∙ w.in-Done.is)))
        | in-Checks+in_ok-checked-in-Checks+else-not-branch w ↦
            let done = w.in_ok-checked-in-Checks in
            subst (λ (s : State). FindsSoFar exploration later before s c.match-replace.self) (ap (λ (b : Box State). b.value) (sym w.state-is))
            (subst (FindsSoFar exploration later before w.checked.new.state) (sym w.self-is)
            (step_rest exploration (naming c.loop.tables) later c.proceed.ensures.extends before c.loop.state.value c.loop.self
            (c.loop.invariant.found every none) (c.loop.invariant.apart none) c.deref_mut.result.now c.proceed.new.state came steps
            c.deref_mut.ensures.value w.in-Checks.at w.in-Checks.checked (first ∙ w.in-Checks.is) w.deref_mut-in-Checks.result.now w.checked.new.state
            w.deref_mut-in-Checks.ensures.value w.checked.new.self done.field-0 done.ensures.adds done.ensures.rest w.if-not-branch.false))
      ];
  apart = λ none. elim c.match-replace.branch [
    | in-Done w ↦ subst (λ (f : Children). OutcomesDiffer f.ends.items) (sym w.self-is) (c.loop.invariant.apart none)
    | in-Checks+in_ok-checked-in-Checks+else-not-branch w ↦
        subst (λ (f : Children). OutcomesDiffer f.ends.items) (sym w.self-is) (w.in_ok-checked-in-Checks.ensures.apart (c.loop.invariant.apart none))
  ];
}

pub loop-preserved-then-branch : goal.loop-preserved-then-branch
loop-preserved-then-branch g c = record {
  kinds = c.proceed.ensures.kinds ∙ c.loop.invariant.kinds;
  extends = extends_on (naming c.args.tables.now) (naming c.loop.tables) (naming c.proceed.new.tables) c.loop.invariant.extends c.proceed.ensures.extends;
  found = λ every none.
      let came = came_to c.in_ok-proceed.field-0 c.proceed.new.attempt.progress.first in
      let steps = c.in_ok-proceed.ensures.steps (has_every_kind _ _ _ c.loop.invariant.kinds every) in
      step_done c.args.exploration.now (naming c.loop.tables) (naming c.proceed.new.tables) c.proceed.ensures.extends c.args.state.value c.loop.state.value
      c.loop.self (c.loop.invariant.found every none) (c.loop.invariant.apart none) c.deref_mut.result.now c.proceed.new.state
      came steps c.deref_mut.ensures.value
      (came_done c.in_ok-proceed.field-0 c.proceed.new.attempt.progress.first c.if-branch.true);
  apart = c.loop.invariant.apart;
}
