-- A test decides the edge of a statement, and a number the case of a `switch`, in the simulation (C11 6.8.4).
use Rattle.std.proofs.Common.{◌≡◌, ℕ, suc, ◌+◌, Bool, true, false, List, ◌∷◌, length, drop, Option, if◌then◌else◌, arith, refl, sym}
use Rattle.cs_ast.specs.declared.place.Place.{Place}
use Rattle.cs_ast.specs.TypedTree.{Typed, Statement, If, IfElse, While, Do, For, Statements}
use Rattle.cs_ast.specs.TypedProgram.{TypedProgram}
use Rattle.cs_events.specs.declared.outcome.RunBudgets.{RunBudgets}
use Rattle.cs_events.specs.Acts.{Goes}
use Rattle.cs_meaning.specs.Operators.{branch}
use Rattle.cs_meaning.specs.Machine.{Item, Execute, Decide, Turn, Again, CallFrame, State, to_do, pop, cell_at, routine_of}
use Rattle.cs_meaning.specs.CountedPoints.{counted_points, counted_points_in}
use Rattle.cs_meaning.specs.Steps.{do_item}
use Rattle.cs_cfg.specs.Graph.{Point, Code, block_of}
use Rattle.cs_cfg.specs.Placing.{split, Joins, there}
use Rattle.cs_cfg.specs.Standing.{decides_at}
use Rattle.cs_cfg.proofs.Acting.{as_code, dropped}
use Rattle.cs_cfg.proofs.Related.{CallersStand, now}
use Rattle.cs_cfg.proofs.Moving.{Home, onward, jumps_to, with_depth, aligned, Answer, branch_answers}
use Rattle.cs_cfg.proofs.Executed.{home_with}

module _ (code : Code) (program : TypedProgram) (budgets : RunBudgets) (m : State) (home : Home code program m.frame.function)
    (callers : List (CallFrame Point)) (waiting : CallersStand code program m.callers callers) where
  -- the point to which a test leads does the things to do, with targets of `break` and `continue` of its own
  abbrev pub Leads : List Item → Point → Type 0
  Leads items p = (out : Point) × ((again : Point) × onward code program (home_with code program budgets home out again) items 0 p)

  split_answers : (item : Item) (items : List Item) (at : Place) (number one other : ℕ) (p : Point) (next : Bool → List Item) → length m.frame.stack ≡ 1
      → 1 ≡ suc number → p ≡ split at number one other →
      do_item program budgets item (to_do items m) ≡ branch at (cell_at m 0) (λ holds. Goes (to_do (next holds) (pop m))) →
      ((holds : Bool) → Leads (next holds) (block_of home.flow (if holds then one else other))) →
      Answer code program budgets (to_do (item ∷ items) m) (as_code p callers m)
  split_answers item items at number one other p next deep single here e s =
      let left : 0 ≡ length (drop 1 m.frame.stack) = sym (dropped 1 0 m.frame.stack deep) in
      let deep' : length m.frame.stack ≡ suc number = omega arith in
      branch_answers code program budgets item items m home at number one other p callers (λ holds. to_do (next holds) (pop m)) deep' here e
      (λ holds. let to = home_with code program budgets home (s holds).0 (s holds).1.0 in
      let block = block_of home.flow (if holds then one else other) in
      now (aligned code program (to_do (next holds) (pop m)) to block callers (with_depth code program to (next holds) block left (s holds).1.1) waiting))

  module _ (counted_point : ℕ) (items : List Item) (p : Point) (single : length m.frame.stack ≡ 1) where
    -- the machine and the code's run simulate each other where the edge of a statement is to be decided
    abbrev Decides : Statement → Type 0
    Decides s = decides_at program home.flow (routine_of program m.frame.function) home.lowers.labels s counted_point home.out home.again
        (λ d q. onward code program home items d q) p →
        Answer code program budgets (to_do (Decide s counted_point ∷ items) m) (as_code p callers m)

    -- what is to be done after the statement, after jumps
    after_jumps : {x y : Point} → Joins program home.flow x y → onward code program home items 0 y → Leads items x
    after_jumps way rest = (home.out, (home.again, jumps_to code program home items 0 way rest))

    pub if_decides : (at : Place) (test : Typed) (body : Statement) → Decides (If at test body)
    if_decides at test body it = split_answers (Decide (If at test body) counted_point) items at it.0 it.1 it.2 p
        (λ holds. if holds then Execute body counted_point ∷ items else items) single it.3 it.4 refl elim [
          | true ↦
              (home.out, (home.again, (block_of home.flow it.1, there, (refl, (it.5.1.0, it.5.1.1, jumps_to code program home items 0 it.5.1.2 it.5.3)))))
          | false ↦ after_jumps it.5.2 it.5.3
        ]

    pub if_else_decides : (at : Place) (test : Typed) (body other : Statement) → Decides (IfElse at test body other)
    if_else_decides at test body other it =
        split_answers (Decide (IfElse at test body other) counted_point) items at it.0 it.1 it.2 p
        (λ holds. if holds then Execute body counted_point ∷ items else Execute other (counted_point + counted_points body) ∷ items) single it.3 it.4
        refl elim [
          | true ↦
              (home.out, (home.again, (block_of home.flow it.1, there, (refl, (it.5.1.0, it.5.1.1, jumps_to code program home items 0 it.5.1.2 it.5.3)))))
          | false ↦
              (home.out, (home.again, (block_of home.flow it.2, there, (refl, (it.5.2.0, it.5.2.1, jumps_to code program home items 0 it.5.2.2 it.5.3)))))
        ]

    pub while_decides : (at : Place) (test : Typed) (body : Statement) → Decides (While at test body)
    while_decides at test body it =
        let way = it.3 in
        split_answers (Decide (While at test body) counted_point) items at way.0 way.1 way.2 p
        (λ holds. if holds then Execute body (counted_point + 1) ∷ (Again (While at test body) counted_point ∷ items) else items) single way.3 way.4
        refl elim [
          | true ↦ (
            home.out,
            (
              it.0,
              (block_of home.flow way.1, there, (refl, (way.5.0.0, way.5.0.1, (it.0, way.5.0.2, (refl, refl, (it.0, (refl, it.1), (home.again, it.2))))))),
            ),
          )
          | false ↦ after_jumps way.5.1 it.2
        ]

    pub do_decides : (at : Place) (body : Statement) (test : Typed) → Decides (Do at body test)
    do_decides at body test it =
        let way = it.4 in
        split_answers (Decide (Do at body test) counted_point) items at way.0 way.1 way.2 p
        (λ holds. if holds then Turn (Do at body test) counted_point ∷ items else items) single way.3 way.4 refl elim [
          | true ↦ (home.out, (home.again, (it.0, way.5.0, (refl, (it.1, it.2, it.3)))))
          | false ↦ after_jumps way.5.1 it.3
        ]

    pub for_decides : (at : Place) (first : Statements) (test last : Option Typed) (body : Statement) → Decides (For at first test last body)
    for_decides at first test last body it =
        let way = it.4 in
        let loop = For at first test last body in
        split_answers (Decide loop counted_point) items at way.0 way.1 way.2 p
        (λ holds. if holds then Execute body (counted_point + 1 + counted_points_in first) ∷ (Again loop counted_point ∷ items) else items) single
        way.3 way.4 refl elim [
          | true ↦ (
            home.out,
            (it.1, (block_of home.flow way.1, there, (refl, (way.5.0.0, way.5.0.1, (it.1, way.5.0.2, (refl, refl, (it.0, it.2, (home.again, it.3)))))))),
          )
          | false ↦ after_jumps way.5.1 it.3
        ]
