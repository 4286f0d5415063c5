-- The machine and the code's run take the same edge after the first part of `&&`, `||` or `?:`. For the simulation.
use Rattle.std.proofs.Common.{◌≡◌, ℕ, suc, ◌+◌, ℤ, pos, Bool, true, false, not, if◌then◌else◌, List, ◌∷◌, length, drop, arith, refl}
use Rattle.std.proofs.Common.{sym, ap, ◌∙◌, subst}
use Rattle.cs_types.specs.Shape.{Shape}
use Rattle.cs_ast.specs.declared.place.Place.{Place}
use Rattle.cs_ast.specs.TypedTree.{Typed, Of, Form, And, Or, Choice}
use Rattle.cs_ast.specs.TypedProgram.{TypedProgram}
use Rattle.cs_events.specs.declared.outcome.RunBudgets.{RunBudgets}
use Rattle.cs_events.specs.Objects.{NumberCell}
use Rattle.cs_meaning.specs.Machine.{Item, Evaluate, Choose, Judge, CallFrame, State, to_do, push_cell, pop}
use Rattle.cs_meaning.specs.Expressions.{goes_on_to, goes_to}
use Rattle.cs_cfg.specs.Graph as graph
use Rattle.cs_cfg.specs.Graph.{Point, Code, block_of}
use Rattle.cs_cfg.specs.Working.{takes}
use Rattle.cs_cfg.specs.Placing.{does, known, joined, judged}
use Rattle.cs_cfg.proofs.Acting.{as_code, dropped}
use Rattle.cs_cfg.proofs.Related.{CallersStand, Related, now, soon}
use Rattle.cs_cfg.proofs.Moving.{Home, stands, onward, right_there, jumps_to, with_depth, aligned, Answered, code_works, branch_answers}
use Rattle.cs_cfg.proofs.Evaluated.{works}

module _ (code : Code) (program : TypedProgram) {function : ℕ} (home : Home code program function) where
  -- the right part of `&&` or `||`
  judged_stands : (at : Place) (b : Typed) (items : List Item) (number : ℕ) (p q : Point) → judged program home.flow at b number p q →
      onward code program home items (suc number) q → stands code program home (Evaluate b ∷ (Judge at ∷ items)) number p
  judged_stands at (Of place ty form) items number p q placed s =
      let r = placed.0 in
      let v = does at number graph.Judge r in
      let e : suc number ≡ takes graph.Judge + number = omega arith in
      let following = jumps_to code program home items (suc number) placed.2 s in (
        v,
        placed.1,
        right_there code program home (Judge at ∷ items) (suc number) v
            (works code program home at graph.Judge items (suc number) number v r e refl following),
      )

  -- the second or the third part of `?:`
  joined_stands : (b : Typed) (items : List Item) (number : ℕ) (p q : Point) → joined program home.flow b number p q →
      onward code program home items (suc number) q → stands code program home (Evaluate b ∷ items) number p
  joined_stands (Of place ty form) items number p q placed s = (placed.0, placed.1, jumps_to code program home items (suc number) placed.2 s)

module _ (code : Code) (program : TypedProgram) (budgets : RunBudgets) where
  -- the states after the tested operand is dropped are related
  tested : (items : List Item) (m : State) (home : Home code program m.frame.function) (number : ℕ) (p : Point) (callers : List (CallFrame Point)) →
      length m.frame.stack ≡ suc number → stands code program home items number p → CallersStand code program m.callers callers
      → Related code program budgets (to_do items (pop m)) (as_code p callers (pop m))
  tested items m home number p callers deep s waiting =
      let e : length m.frame.stack ≡ 1 + number = omega arith in
      let fewer = sym (dropped 1 number m.frame.stack e) in
      now (aligned code program (to_do items (pop m)) home p callers
      (with_depth code program home items p fewer (right_there code program home items number p s)) waiting)

  -- the number is known: the code pushes it in a step of its own
  puts_known : (at : Place) (n : ℤ) (items : List Item) (m : State) (home : Home code program m.frame.function) (number : ℕ) (p q : Point)
      (callers : List (CallFrame Point)) →
      length m.frame.stack ≡ suc number → known program home.flow at n number p q → onward code program home items (suc number) q
      → CallersStand code program m.callers callers →
      Related code program budgets (push_cell (NumberCell n) (pop (to_do items m))) (as_code p callers (pop m))
  puts_known at n items m home number p q callers deep placed s waiting =
      let e : length m.frame.stack ≡ 1 + number = omega arith in
      let fewer = dropped 1 number m.frame.stack e in
      let r = placed.0 in
      let next = push_cell (NumberCell n) (pop (to_do items m)) in
      let following = jumps_to code program home items (suc number) placed.2 s in
      let enough : length (drop 1 m.frame.stack) ≡ takes (graph.Number n) + number = fewer ∙ omega arith in
      let related = now (aligned code program next home r callers (with_depth code program home items r (sym (ap suc fewer)) following) waiting) in
      subst (λ x. Related code program budgets next (as_code x callers (pop m))) (sym placed.1)
      (soon (code_works code program budgets at (graph.Number n) number r callers (pop m) enough) related)

  -- `&&` (C11 6.5.13)
  goes_and : (at : Place) (b : Typed) (items : List Item) (m : State) (home : Home code program m.frame.function) (number one other : ℕ) (q : Point)
      (callers : List (CallFrame Point)) →
      length m.frame.stack ≡ suc number → judged program home.flow at b number (block_of home.flow one) q
      → known program home.flow at (pos 0) number (block_of home.flow other) q →
      onward code program home items (suc number) q → CallersStand code program m.callers callers →
      (holds : Bool) → Related code program budgets (goes_on_to holds at b false (pop (to_do items m)))
      (as_code (block_of home.flow (if holds then one else other)) callers (pop m))
  goes_and at b items m home number one other q callers deep right number_known s waiting true =
      tested (Evaluate b ∷ (Judge at ∷ items)) m home number (block_of home.flow one) callers deep
      (judged_stands code program home at b items number (block_of home.flow one) q right s) waiting
  goes_and at b items m home number one other q callers deep right number_known s waiting false =
      puts_known at (pos 0) items m home number (block_of home.flow other) q callers deep number_known s waiting

  -- `||` (C11 6.5.14)
  goes_or : (at : Place) (b : Typed) (items : List Item) (m : State) (home : Home code program m.frame.function) (number one other : ℕ) (q : Point)
      (callers : List (CallFrame Point)) →
      length m.frame.stack ≡ suc number → known program home.flow at (pos 1) number (block_of home.flow one) q
      → judged program home.flow at b number (block_of home.flow other) q →
      onward code program home items (suc number) q → CallersStand code program m.callers callers →
      (holds : Bool) → Related code program budgets (goes_on_to (not holds) at b true (pop (to_do items m)))
      (as_code (block_of home.flow (if holds then one else other)) callers (pop m))
  goes_or at b items m home number one other q callers deep number_known right s waiting true =
      puts_known at (pos 1) items m home number (block_of home.flow one) q callers deep number_known s waiting
  goes_or at b items m home number one other q callers deep number_known right s waiting false =
      tested (Evaluate b ∷ (Judge at ∷ items)) m home number (block_of home.flow other) callers deep
      (judged_stands code program home at b items number (block_of home.flow other) q right s) waiting

  -- `?:` (C11 6.5.15)
  goes_choice : (b c : Typed) (items : List Item) (m : State) (home : Home code program m.frame.function) (number one other : ℕ) (q : Point)
      (callers : List (CallFrame Point)) →
      length m.frame.stack ≡ suc number → joined program home.flow b number (block_of home.flow one) q
      → joined program home.flow c number (block_of home.flow other) q →
      onward code program home items (suc number) q → CallersStand code program m.callers callers →
      (holds : Bool) → Related code program budgets (goes_to (if holds then b else c) (pop (to_do items m)))
      (as_code (block_of home.flow (if holds then one else other)) callers (pop m))
  goes_choice b c items m home number one other q callers deep second third s waiting true =
      tested (Evaluate b ∷ items) m home number (block_of home.flow one) callers deep
      (joined_stands code program home b items number (block_of home.flow one) q second s) waiting
  goes_choice b c items m home number one other q callers deep second third s waiting false =
      tested (Evaluate c ∷ items) m home number (block_of home.flow other) callers deep
      (joined_stands code program home c items number (block_of home.flow other) q third s) waiting

  choices_answer : (at : Place) (ty : Shape) (form : Form) → Answered code program budgets (Choose (Of at ty form))
  choices_answer at ty (And a b) items m home here callers s waiting =
      branch_answers code program budgets (Choose (Of at ty (And a b))) items m home at s.0 s.1 s.2 here callers
      (λ holds. goes_on_to holds at b false (pop (to_do items m))) s.3 s.4 refl
      (goes_and at b items m home s.0 s.1 s.2 s.5.0 callers s.3 s.5.1 s.5.2 s.5.3 waiting)
  choices_answer at ty (Or a b) items m home here callers s waiting =
      branch_answers code program budgets (Choose (Of at ty (Or a b))) items m home at s.0 s.1 s.2 here callers
      (λ holds. goes_on_to (not holds) at b true (pop (to_do items m))) s.3 s.4 refl
      (goes_or at b items m home s.0 s.1 s.2 s.5.0 callers s.3 s.5.1 s.5.2 s.5.3 waiting)
  choices_answer at ty (Choice a b c) items m home here callers s waiting =
      branch_answers code program budgets (Choose (Of at ty (Choice a b c))) items m home at s.0 s.1 s.2 here callers
      (λ holds. goes_to (if holds then b else c) (pop (to_do items m))) s.3 s.4 refl
      (goes_choice b c items m home s.0 s.1 s.2 s.5.0 callers s.3 s.5.1 s.5.2 s.5.3 waiting)
  choices_answer at ty form items m home here callers s waiting = absurd s

  pub choose_answers : (e : Typed) → Answered code program budgets (Choose e)
  choose_answers (Of at ty form) = choices_answer at ty form
