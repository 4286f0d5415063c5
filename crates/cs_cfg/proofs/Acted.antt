-- Each operation of the code does with the newest temporaries what the first thing to do does with the newest values. Calls are elsewhere.
-- For the simulation.
use Rattle.std.proofs.Common.{◌≡◌, ℕ, suc, ◌+◌, List, ◌∷◌, length, drop, Option, Some, None, arith, refl, ◌∙◌}
use Rattle.cs_types.specs.Shape.{Shape}
use Rattle.cs_ast.specs.declared.place.Place.{Place}
use Rattle.cs_ast.specs.TypedTree.{Typed, Of, Form, Update, Move}
use Rattle.cs_ast.specs.TypedProgram.{TypedProgram}
use Rattle.cs_events.specs.declared.outcome.RunBudgets.{RunBudgets}
use Rattle.cs_events.specs.Objects.{NumberCell}
use Rattle.cs_events.specs.Simulation.{Yields, both_go}
use Rattle.cs_meaning.specs.Types.{type_of}
use Rattle.cs_meaning.specs.Initials.{number_in, truth_cell}
use Rattle.cs_meaning.specs.Access.{access_of}
use Rattle.cs_meaning.specs.Calls.{call}
use Rattle.cs_meaning.specs.Machine.{Operand, Scalar, Whole, Nothing, Item, Act, Fetch, Judge, Use, Drop, CallFrame, State, to_do, push, push_cell, with_memory}
use Rattle.cs_meaning.specs.Machine.{operand_at, cell_of, cell_at}
use Rattle.cs_meaning.specs.Expressions.{count_all, use_result}
use Rattle.cs_cfg.specs.Graph as graph
use Rattle.cs_cfg.specs.Graph.{Work, Point, Code}
use Rattle.cs_cfg.specs.Working.{do_work}
use Rattle.cs_cfg.specs.Standing.{work_of, acts_by}
use Rattle.cs_cfg.proofs.Alike.{yields_set, yields_load, yields_truth, yields_shows, yields_convert_number}
use Rattle.cs_cfg.proofs.Acting.{as_code, dropped, Leaves, YieldsBy, acts_tell, put}
use Rattle.cs_cfg.proofs.Related.{CallersStand, Related}
use Rattle.cs_cfg.proofs.Moving.{Home, onward, with_depth, leaves, Answer, Answered, worked_answers}

module _ (code : Code) (program : TypedProgram) (budgets : RunBudgets) where
  -- one more operand
  pub leaves_one : (items : List Item) (m : State) (home : Home code program m.frame.function) (number : ℕ) (q : Point) (callers : List (CallFrame Point)) →
      onward code program home items (1 + number) q → CallersStand code program m.callers callers
      → Leaves (Related code program budgets) code program budgets (to_do items m) q callers (suc number)
  leaves_one items m home number q callers on waiting =
      let one_more : 1 + number ≡ suc number = omega arith in
      leaves code program budgets (to_do items m) home q callers (suc number) (with_depth code program home items q one_more on) waiting

  -- an operand is dropped
  pub drop_answers : Answered code program budgets Drop
  drop_answers items m home here callers s waiting =
      worked_answers code program budgets Drop items m home s.0 graph.Drop 0 here callers s.1 (λ number q e on.
      let h = leaves code program budgets (to_do items m) home q callers (0 + number) on waiting in
      let fewer : length (drop 1 m.frame.stack) ≡ 0 + number = dropped 1 number m.frame.stack e ∙ omega arith in
      both_go (h _ (record { function = refl; number = refl; todo = refl; visits = refl; callers = refl; deep = fewer })))

  -- the result of a call is used
  uses_tell : (at : Place) (operand : Operand) (items : List Item) (m : State) (q : Point) (callers : List (CallFrame Point)) →
      Related code program budgets (to_do items m) (as_code q callers m)
      → Yields (Related code program budgets) (use_result at operand (to_do items m)) (use_result at operand (as_code q callers m))
  uses_tell at (Scalar cell) items m q callers h = yields_set (Related code program budgets) at cell (both_go h)
  uses_tell at (Whole cells) items m q callers h = both_go h
  uses_tell at Nothing items m q callers h = both_go h

  pub use_answers : (at : Place) → Answered code program budgets (Use at)
  use_answers at items m home here callers s waiting =
      worked_answers code program budgets (Use at) items m home at graph.Use 1 here callers s (λ number q e on.
      let h = leaves code program budgets (to_do items m) home q callers (1 + number) on waiting in
      uses_tell at (operand_at m 0) items m q callers
      (h (to_do items m) (record { function = refl; number = refl; todo = refl; visits = refl; callers = refl; deep = e })))

  -- the right part of `&&` or `||` is converted to its truth value
  pub judge_answers : (at : Place) → Answered code program budgets (Judge at)
  judge_answers at items m home here callers s waiting =
      let R = Related code program budgets in
      worked_answers code program budgets (Judge at) items m home at graph.Judge 1 here callers s (λ number q e on.
      let h = leaves_one items m home number q callers on waiting in
      yields_truth R at (cell_at m 0) (λ holds.
      yields_shows R at _
      (both_go (put R code program budgets (to_do items m) _ q callers 1 number (Scalar (truth_cell holds)) e h refl refl refl refl refl refl))))

  -- the load of an update
  fetches_answer : (at : Place) (ty : Shape) (form : Form) → Answered code program budgets (Fetch (Of at ty form))
  fetches_answer at ty (Update op a b works_in gives) items m home here callers s waiting =
      let R = Related code program budgets in
      worked_answers code program budgets (Fetch (Of at ty (Update op a b works_in gives))) items m home at (graph.FetchNumber (access_of a) works_in) 3 here
      callers s (λ number q e on.
      let h = leaves code program budgets (to_do items m) home q callers (3 + number) on waiting in
      let more : suc (suc (length m.frame.stack)) ≡ 3 + number = omega (arith, e) in
      yields_load R program m.memory m.frame.number (access_of a) (cell_at m 0) (λ memory operand.
      yields_convert_number R program.model at (type_of a) works_in (number_in (cell_of operand)) (λ n.
      both_go (h (push_cell (NumberCell n) (push operand (with_memory memory (to_do items m))))
      (record { function = refl; number = refl; todo = refl; visits = refl; callers = refl; deep = more })))))
  fetches_answer at ty (Move a n direction gives) items m home here callers s waiting =
      let R = Related code program budgets in
      worked_answers code program budgets (Fetch (Of at ty (Move a n direction gives))) items m home at (graph.FetchPointer (access_of a)) 2 here callers s
      (λ number q e on.
      let h = leaves code program budgets (to_do items m) home q callers (2 + number) on waiting in
      let more : suc (length m.frame.stack) ≡ 2 + number = omega (arith, e) in
      yields_load R program m.memory m.frame.number (access_of a) (cell_at m 0) (λ memory operand.
      both_go (h (push operand (with_memory memory (to_do items m)))
      (record { function = refl; number = refl; todo = refl; visits = refl; callers = refl; deep = more }))))
  fetches_answer at ty form items m home here callers s waiting = absurd s

  pub fetch_answers : (e : Typed) → Answered code program budgets (Fetch e)
  fetch_answers (Of at ty form) = fetches_answer at ty form

  -- what an expression does with its parts, by the operation that does it
  acts_answer : (at : Place) (ty : Shape) (form : Form) (work : Option Work) (items : List Item) (m : State) (home : Home code program m.frame.function)
      (here : Point) (callers : List (CallFrame Point)) →
      acts_by at work (onward code program home items) (length m.frame.stack) here → CallersStand code program m.callers callers →
      ((number : ℕ) (q : Point) → onward code program home items (1 + number) q
      → YieldsBy (Related code program budgets) code program budgets at ty form work (to_do items m) q callers number) →
      Answer code program budgets (to_do (Act (Of at ty form) ∷ items) m) (as_code here callers m)
  acts_answer at ty form None items m home here callers s waiting yields = absurd s
  acts_answer at ty form (Some work) items m home here callers s waiting yields =
      worked_answers code program budgets (Act (Of at ty form)) items m home at work 1 here callers s
      (λ number q e on. yields number q on e (leaves_one items m home number q callers on waiting))

  -- what a call does with its arguments, which is proved in another file
  abbrev pub CallsTell : Type 0
  CallsTell = (at : Place) (callee count : ℕ) (items : List Item) (m : State) (home : Home code program m.frame.function) (q : Point)
      (callers : List (CallFrame Point)) (number : ℕ) →
      length m.frame.stack ≡ count + number → onward code program home items (suc number) q → CallersStand code program m.callers callers →
      Yields (Related code program budgets) (call program budgets at callee count (to_do items m))
      (do_work code program budgets at (graph.Call callee count) (as_code q callers m))

  pub act_answers : CallsTell → (e : Typed) → Answered code program budgets (Act e)
  act_answers calls (Of at ty form) items m home here callers s waiting =
      acts_answer at ty form (work_of program ty form) items m home here callers s waiting (λ number q on.
      acts_tell (Related code program budgets) code program budgets at ty form (to_do items m) q callers number (λ callee arguments e h.
      let one_more : 1 + number ≡ suc number = omega arith in
      calls at callee (count_all arguments) items m home q callers number e (with_depth code program home items q one_more on) waiting))
