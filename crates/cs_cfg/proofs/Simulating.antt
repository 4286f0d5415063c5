-- The run of placed code follows the reference machine step by step: related states simulate each other, whatever is to be done first.
use Rattle.std.proofs.Common.{◌≡◌, ℕ, List, [], ◌∷◌, length, refl}
use Rattle.cs_ast.specs.TypedTree.{Statement, Block, Declare, Run, If, IfElse, While, Do, For, Switch, Goto, Label, Break, Continue, Return}
use Rattle.cs_ast.specs.TypedProgram.{TypedProgram}
use Rattle.cs_events.specs.declared.outcome.RunBudgets.{RunBudgets}
use Rattle.cs_events.specs.Simulation.{Simulates}
use Rattle.cs_meaning.specs.Machine.{Item, Evaluate, EvaluateUnused, Act, Fetch, Choose, Judge, Use, Drop, Store, Spell, Execute, Decide, Turn, Again, Out}
use Rattle.cs_meaning.specs.Machine.{Begin, End, Give, Leave, CallFrame, State, to_do, routine_of, body_of}
use Rattle.cs_meaning.specs.Jumps.{landing}
use Rattle.cs_meaning.specs.Steps.{at_end, step}
use Rattle.cs_cfg.specs.Graph.{Point, Code}
use Rattle.cs_cfg.specs.CodeSteps.{code_step}
use Rattle.cs_cfg.specs.Executing.{executes_at}
use Rattle.cs_cfg.specs.Standing.{decides_at}
use Rattle.cs_cfg.specs.Placed.{IsPlaced}
use Rattle.cs_cfg.proofs.Acting.{as_code}
use Rattle.cs_cfg.proofs.Related.{CallersStand, Related}
use Rattle.cs_cfg.proofs.Moving.{Home, stands, onward, Answer, answers_all, answers_here}
use Rattle.cs_cfg.proofs.Evaluated.{evaluate_answers, evaluate_unused_answers}
use Rattle.cs_cfg.proofs.Acted.{drop_answers, use_answers, judge_answers, fetch_answers, act_answers}
use Rattle.cs_cfg.proofs.Called.{calls_tell}
use Rattle.cs_cfg.proofs.Chosen.{choose_answers}
use Rattle.cs_cfg.proofs.Executed.{block_answers, run_answers, if_answers, if_else_answers, while_answers, do_answers, for_answers, switch_answers}
use Rattle.cs_cfg.proofs.Executed.{goto_answers, label_answers, break_answers, continue_answers, return_answers}
use Rattle.cs_cfg.proofs.Stored.{declare_answers, store_answers, spell_answers}
use Rattle.cs_cfg.proofs.Decided.{if_decides, if_else_decides, while_decides, do_decides, for_decides}
use Rattle.cs_cfg.proofs.Switched.{switch_decides}
use Rattle.cs_cfg.proofs.Looped.{turn_answers, again_answers}
use Rattle.cs_cfg.proofs.Left.{nothing_answers, out_answers, begin_answers, end_answers, give_answers, leave_answers}

module _ (code : Code) (program : TypedProgram) (budgets : RunBudgets) where
  module _ (m : State) (home : Home code program m.frame.function) (callers : List (CallFrame Point)) (waiting : CallersStand code program m.callers callers)
    where
      -- a statement
      execute_answers : (s : Statement) (counted_point : ℕ) (items : List Item) (p q : Point) → length m.frame.stack ≡ 0
          → onward code program home items 0 q →
          executes_at program home.flow (routine_of program m.frame.function) home.lowers.labels s counted_point home.out home.again p q
          → Answer code program budgets (to_do (Execute s counted_point ∷ items) m) (as_code p callers m)
      execute_answers (Block at statements) counted_point items p q empty rest it =
          block_answers code program budgets m home callers waiting empty counted_point items p q rest at statements it
      execute_answers (Declare at declaration initial) counted_point items p q empty rest it =
          declare_answers code program budgets m home callers waiting empty counted_point items p q rest at declaration initial it
      execute_answers (Run at e) counted_point items p q empty rest it =
          run_answers code program budgets m home callers waiting empty counted_point items p q rest at e it
      execute_answers (If at test body) counted_point items p q empty rest it =
          if_answers code program budgets m home callers waiting empty counted_point items p q rest at test body it
      execute_answers (IfElse at test body other) counted_point items p q empty rest it =
          if_else_answers code program budgets m home callers waiting empty counted_point items p q rest at test body other it
      execute_answers (While at test body) counted_point items p q empty rest it =
          while_answers code program budgets m home callers waiting empty counted_point items p q rest at test body it
      execute_answers (Do at body test) counted_point items p q empty rest it =
          do_answers code program budgets m home callers waiting empty counted_point items p q rest at body test it
      execute_answers (For at first test last body) counted_point items p q empty rest it =
          for_answers code program budgets m home callers waiting empty counted_point items p q rest at first test last body it
      execute_answers (Switch at value cases statements) counted_point items p q empty rest it =
          switch_answers code program budgets m home callers waiting empty counted_point items p q rest at value cases statements it
      execute_answers (Goto at wanted) counted_point items p q empty rest it =
          let routine = routine_of program m.frame.function in
          goto_answers code program budgets m home callers waiting empty counted_point items p q rest at wanted
          (landing wanted (body_of routine) 0 (at_end routine)) refl it
      execute_answers (Label at label body) counted_point items p q empty rest it =
          label_answers code program budgets m home callers waiting empty counted_point items p q rest at label body it
      execute_answers (Break at) counted_point items p q empty rest it =
          break_answers code program budgets m home callers waiting empty counted_point items p q rest at it
      execute_answers (Continue at) counted_point items p q empty rest it =
          continue_answers code program budgets m home callers waiting empty counted_point items p q rest at it
      execute_answers (Return at value) counted_point items p q empty rest it =
          return_answers code program budgets m home callers waiting empty counted_point items p q rest at value it

      -- the edge of a statement
      decide_answers : (s : Statement) (counted_point : ℕ) (items : List Item) (p : Point) → length m.frame.stack ≡ 1 →
          decides_at program home.flow (routine_of program m.frame.function) home.lowers.labels s counted_point home.out home.again
          (λ d q. onward code program home items d q) p →
          Answer code program budgets (to_do (Decide s counted_point ∷ items) m) (as_code p callers m)
      decide_answers (If at test body) counted_point items p single it =
          if_decides code program budgets m home callers waiting counted_point items p single at test body it
      decide_answers (IfElse at test body other) counted_point items p single it =
          if_else_decides code program budgets m home callers waiting counted_point items p single at test body other it
      decide_answers (While at test body) counted_point items p single it =
          while_decides code program budgets m home callers waiting counted_point items p single at test body it
      decide_answers (Do at body test) counted_point items p single it =
          do_decides code program budgets m home callers waiting counted_point items p single at body test it
      decide_answers (For at first test last body) counted_point items p single it =
          for_decides code program budgets m home callers waiting counted_point items p single at first test last body it
      decide_answers (Switch at value cases statements) counted_point items p single it =
          switch_decides code program budgets m home callers waiting counted_point items p single at value cases statements it
      decide_answers other counted_point items p single it = absurd it

      -- whatever is to be done
      todo_answers : IsPlaced code program → (todo : List Item) (p : Point) → stands code program home todo (length m.frame.stack) p
          → Answer code program budgets (to_do todo m) (as_code p callers m)
      todo_answers placed [] p it = nothing_answers code program budgets m home callers waiting p it
      todo_answers placed ((Evaluate e) ∷ items) p it = evaluate_answers code program budgets e items m home p callers it waiting
      todo_answers placed ((EvaluateUnused e) ∷ items) p it = evaluate_unused_answers code program budgets e items m home p callers it waiting
      todo_answers placed ((Act e) ∷ items) p it =
          act_answers code program budgets (calls_tell code program budgets placed) e items m home p callers it waiting
      todo_answers placed ((Fetch e) ∷ items) p it = fetch_answers code program budgets e items m home p callers it waiting
      todo_answers placed ((Choose e) ∷ items) p it = choose_answers code program budgets e items m home p callers it waiting
      todo_answers placed ((Judge at) ∷ items) p it = judge_answers code program budgets at items m home p callers it waiting
      todo_answers placed ((Use at) ∷ items) p it = use_answers code program budgets at items m home p callers it waiting
      todo_answers placed (Drop ∷ items) p it = drop_answers code program budgets items m home p callers it waiting
      todo_answers placed ((Store at declaration offset ty) ∷ items) p it =
          store_answers code program budgets m home callers waiting at declaration offset ty items p it
      todo_answers placed ((Spell declaration offset bytes) ∷ items) p it =
          spell_answers code program budgets m home callers waiting declaration offset bytes items p it
      todo_answers placed ((Execute s counted_point) ∷ items) p it = execute_answers s counted_point items p it.1.0 it.0 it.1.2 it.1.1
      todo_answers placed ((Decide s counted_point) ∷ items) p it = decide_answers s counted_point items p it.0 it.1
      todo_answers placed ((Turn s counted_point) ∷ items) p it =
          turn_answers code program budgets m home callers waiting it.0 s counted_point items p it.1.0 it.1.2 it.1.1
      todo_answers placed ((Again s counted_point) ∷ items) p it =
          again_answers code program budgets m home callers waiting it.0 counted_point items p it.2.2.0 it.2.0 it.2.2.1 s it.2.1
      todo_answers placed (Out ∷ items) p it = out_answers code program budgets m home callers waiting items p it
      todo_answers placed ((Begin at) ∷ items) p it = begin_answers code program budgets m home callers waiting at items p it
      todo_answers placed ((End at value) ∷ items) p it = end_answers code program budgets m home callers waiting at value items p it
      todo_answers placed ((Give at) ∷ items) p it = give_answers code program budgets m home callers waiting at items p it
      todo_answers placed (Leave ∷ items) p it = leave_answers code program budgets m home callers waiting items p it

  -- related states simulate each other
  pub placed_simulates : IsPlaced code program → Simulates (Related code program budgets) (step program budgets) (code_step code program budgets)
  placed_simulates placed = answers_all code program budgets (λ m t aligned.
      answers_here code program budgets m t aligned (λ home here callers s waiting. todo_answers m home callers waiting placed m.frame.todo here s))
