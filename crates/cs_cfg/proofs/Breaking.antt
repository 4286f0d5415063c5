-- Where `break` and `continue` lead, the code does what the reference machine has to do there (C11 6.8.6.2, 6.8.6.3).
use Rattle.std.proofs.Common.{◌≡◌, ℕ, List, [], ◌∷◌, Option, Some, None, refl, sym, subst}
use Rattle.cs_ast.specs.declared.place.Place.{Place}
use Rattle.cs_ast.specs.TypedTree.{Of, Form, And, Or, Choice, Update, Move, Statement, If, IfElse, While, Do, For, Switch}
use Rattle.cs_ast.specs.TypedProgram.{TypedProgram, Routine}
use Rattle.cs_meaning.specs.Machine.{Item, Evaluate, EvaluateUnused, Act, Fetch, Choose, Judge, Use, Drop, Store, Spell, Execute, Decide, Turn, Again, Out}
use Rattle.cs_meaning.specs.Machine.{Begin, End, Give, Leave}
use Rattle.cs_meaning.specs.Jumps.{broken_out, continued}
use Rattle.cs_cfg.specs.Graph.{Work, Point, Flow}
use Rattle.cs_cfg.specs.Placing.{there}
use Rattle.cs_cfg.specs.Standing.{Following, worked, work_of, acts_by, fetches_form, chooses_form, loops_at, decides_at, item_at, stands_at}
use Rattle.cs_cfg.specs.Executing.{finishing}
use Rattle.cs_cfg.proofs.Arriving.{Arrives}

-- the continuation holds at some point
abbrev Somewhere : Following → Type 0
Somewhere following = (depth : ℕ) × ((p : Point) × following depth p)

-- after an operation
after_work : (at : Place) (work : Work) (leaves : ℕ) (following : Following) (depth : ℕ) (p : Point) → worked at work leaves following depth p
    → Somewhere following
after_work at work leaves following depth p it = (_, (it.1, it.4))

after_act : (at : Place) (work : Option Work) (following : Following) (depth : ℕ) (p : Point) → acts_by at work following depth p → Somewhere following
after_act at None following depth p it = absurd it
after_act at (Some work) following depth p it = after_work at work 1 following depth p it

module _ (program : TypedProgram) (flow : Flow) where
  -- after the load of an update
  after_fetch : (at : Place) (form : Form) (following : Following) (depth : ℕ) (p : Point) → fetches_form program flow at form following depth p
      → Somewhere following
  after_fetch at (Update op a b works_in gives) following depth p it = after_work _ _ _ following depth p it
  after_fetch at (Move a n direction gives) following depth p it = after_work _ _ _ following depth p it
  after_fetch at other following depth p it = absurd it

  -- after both edges of `&&`, `||` and `?:`
  after_choice : (at : Place) (form : Form) (following : Following) (depth : ℕ) (p : Point) → chooses_form program flow at form following depth p
      → Somewhere following
  after_choice at (And a b) following depth p it = (_, (it.5.0, it.5.3))
  after_choice at (Or a b) following depth p it = (_, (it.5.0, it.5.3))
  after_choice at (Choice a b c) following depth p it = (_, (it.5.0, it.5.3))
  after_choice at other following depth p it = absurd it

  module _ (routine : Routine) (labels : ℕ → Point) where
    -- the edge of a test, or of a `switch`
    after_decision : (s : Statement) (counted_point : ℕ) (out again : Point) (following : Following) (p : Point)
        → decides_at program flow routine labels s counted_point out again following p → Somewhere following
    after_decision (If at test body) counted_point out again following p it = (_, (it.5.0, it.5.3))
    after_decision (IfElse at test body other) counted_point out again following p it = (_, (it.5.0, it.5.3))
    after_decision (While at test body) counted_point out again following p it = (_, (out, it.2))
    after_decision (Do at body test) counted_point out again following p it = (_, (out, it.3))
    after_decision (For at first test last body) counted_point out again following p it = (_, (out, it.3))
    after_decision (Switch at value cases statements) counted_point out again following p it = (_, (out, it.7))
    after_decision other counted_point out again following p it = absurd it

    -- after the first thing to do
    after_item : (item : Item) (out again : Point) (following : Following) (depth : ℕ) (p : Point)
        → item_at program flow routine labels item out again following depth p → Somewhere following
    after_item (Evaluate e) out again following depth p it = (_, (it.0, it.2))
    after_item (EvaluateUnused e) out again following depth p it = (_, (it.0, it.2))
    after_item (Act (Of at ty form)) out again following depth p it = after_act at (work_of program ty form) following depth p it
    after_item (Fetch (Of at ty form)) out again following depth p it = after_fetch at form following depth p it
    after_item (Choose (Of at ty form)) out again following depth p it = after_choice at form following depth p it
    after_item (Judge at) out again following depth p it = after_work _ _ _ following depth p it
    after_item (Use at) out again following depth p it = after_work _ _ _ following depth p it
    after_item Drop out again following depth p it = after_work _ _ _ following depth p it.1
    after_item (Store at declaration offset ty) out again following depth p it = after_work _ _ _ following 1 p it.1
    after_item (Spell declaration offset bytes) out again following depth p it = after_work _ _ _ following 0 p it.1.1
    after_item (Execute s counted_point) out again following depth p it = (_, (it.1.0, it.1.2))
    after_item (Decide s counted_point) out again following depth p it = after_decision s counted_point out again following p it.1
    after_item (Turn s counted_point) out again following depth p it = (_, (out, it.1.2))
    after_item (Again s counted_point) out again following depth p it = (_, (out, it.2.2))
    after_item Out out again following depth p it = (_, (p, it.2))
    after_item (Begin at) out again following depth p it = after_work _ _ _ following 0 p it.1
    after_item (End at value) out again following depth p it = (_, (finishing, it.2))
    after_item (Give at) out again following depth p it = (_, it.2)
    after_item Leave out again following depth p it = (_, it.2)

    -- what remains after the nearest loop or `switch` is done where `break` leads, and what remains after the body of the nearest loop
    -- where `continue` does
    pub record Escapes (items : List Item) (out again : Point) : Type 0 where
      pub broken_outer : Point
      pub broken_again : Point
      pub broken : Arrives program flow routine labels (broken_out items) broken_outer broken_again 0 out
      pub continued_out : Point
      pub continued_again : Point
      pub continues : Arrives program flow routine labels (continued items) continued_out continued_again 0 again

    -- the same with one more thing to do first, which is neither
    passes : (item : Item) (items : List Item) (out again : Point) → broken_out (item ∷ items) ≡ broken_out items
        → continued (item ∷ items) ≡ continued items → Escapes items out again → Escapes (item ∷ items) out again
    passes item items out again e f it = record {
      broken_outer = it.broken_outer;
      broken_again = it.broken_again;
      broken = subst (λ rest. Arrives program flow routine labels rest it.broken_outer it.broken_again 0 out) (sym e) it.broken;
      continued_out = it.continued_out;
      continued_again = it.continued_again;
      continues = subst (λ rest. Arrives program flow routine labels rest it.continued_out it.continued_again 0 again) (sym f) it.continues;
    }

    -- from any point that does the things to do
    pub escapes : (items : List Item) (out again : Point) (depth : ℕ) (p : Point) → stands_at program flow routine labels items out again depth p
        → Escapes items out again
    escapes [] out again depth p it = record {
      broken_outer = out;
      broken_again = again;
      broken = (finishing, it.1, (refl, it.1, it.2));
      continued_out = out;
      continued_again = again;
      continues = (finishing, it.2, (refl, it.1, it.2));
    }
    escapes (Out ∷ items) out again depth p it =
        let rest = escapes items it.2.0 again 0 it.2.1.0 it.2.1.2 in
        record {
          broken_outer = it.2.0;
          broken_again = again;
          broken = subst (λ x. Arrives program flow routine labels items it.2.0 again 0 x) it.1 it.2.1;
          continued_out = rest.continued_out;
          continued_again = rest.continued_again;
          continues = rest.continues;
        }
    escapes (Again s counted_point ∷ items) out again depth p it =
        let rest = escapes items out it.2.2.0 0 it.2.2.1.0 it.2.2.1.2 in
        record {
          broken_outer = rest.broken_outer;
          broken_again = rest.broken_again;
          broken = rest.broken;
          continued_out = out;
          continued_again = again;
          continues =
              (again, there, (refl, refl, (it.2.0, subst (λ x. loops_at program flow routine labels s counted_point it.2.0 x out) (sym it.1) it.2.1, it.2.2)));
        }
    escapes ((Evaluate e) ∷ items) out again depth p it =
        let rest = after_item (Evaluate e) out again (Arrives program flow routine labels items out again) depth p it in
        passes (Evaluate e) items out again refl refl (escapes items out again rest.0 rest.1.1.0 rest.1.1.2)
    escapes ((EvaluateUnused e) ∷ items) out again depth p it =
        let rest = after_item (EvaluateUnused e) out again (Arrives program flow routine labels items out again) depth p it in
        passes (EvaluateUnused e) items out again refl refl (escapes items out again rest.0 rest.1.1.0 rest.1.1.2)
    escapes ((Act e) ∷ items) out again depth p it =
        let rest = after_item (Act e) out again (Arrives program flow routine labels items out again) depth p it in
        passes (Act e) items out again refl refl (escapes items out again rest.0 rest.1.1.0 rest.1.1.2)
    escapes ((Fetch e) ∷ items) out again depth p it =
        let rest = after_item (Fetch e) out again (Arrives program flow routine labels items out again) depth p it in
        passes (Fetch e) items out again refl refl (escapes items out again rest.0 rest.1.1.0 rest.1.1.2)
    escapes ((Choose e) ∷ items) out again depth p it =
        let rest = after_item (Choose e) out again (Arrives program flow routine labels items out again) depth p it in
        passes (Choose e) items out again refl refl (escapes items out again rest.0 rest.1.1.0 rest.1.1.2)
    escapes ((Judge at) ∷ items) out again depth p it =
        let rest = after_item (Judge at) out again (Arrives program flow routine labels items out again) depth p it in
        passes (Judge at) items out again refl refl (escapes items out again rest.0 rest.1.1.0 rest.1.1.2)
    escapes ((Use at) ∷ items) out again depth p it =
        let rest = after_item (Use at) out again (Arrives program flow routine labels items out again) depth p it in
        passes (Use at) items out again refl refl (escapes items out again rest.0 rest.1.1.0 rest.1.1.2)
    escapes (Drop ∷ items) out again depth p it =
        let rest = after_item Drop out again (Arrives program flow routine labels items out again) depth p it in
        passes Drop items out again refl refl (escapes items out again rest.0 rest.1.1.0 rest.1.1.2)
    escapes ((Store at declaration offset ty) ∷ items) out again depth p it =
        let rest = after_item (Store at declaration offset ty) out again (Arrives program flow routine labels items out again) depth p it in
        passes (Store at declaration offset ty) items out again refl refl (escapes items out again rest.0 rest.1.1.0 rest.1.1.2)
    escapes ((Spell declaration offset bytes) ∷ items) out again depth p it =
        let rest = after_item (Spell declaration offset bytes) out again (Arrives program flow routine labels items out again) depth p it in
        passes (Spell declaration offset bytes) items out again refl refl (escapes items out again rest.0 rest.1.1.0 rest.1.1.2)
    escapes ((Execute s counted_point) ∷ items) out again depth p it =
        let rest = after_item (Execute s counted_point) out again (Arrives program flow routine labels items out again) depth p it in
        passes (Execute s counted_point) items out again refl refl (escapes items out again rest.0 rest.1.1.0 rest.1.1.2)
    escapes ((Decide s counted_point) ∷ items) out again depth p it =
        let rest = after_item (Decide s counted_point) out again (Arrives program flow routine labels items out again) depth p it in
        passes (Decide s counted_point) items out again refl refl (escapes items out again rest.0 rest.1.1.0 rest.1.1.2)
    escapes ((Turn s counted_point) ∷ items) out again depth p it =
        let rest = after_item (Turn s counted_point) out again (Arrives program flow routine labels items out again) depth p it in
        passes (Turn s counted_point) items out again refl refl (escapes items out again rest.0 rest.1.1.0 rest.1.1.2)
    escapes ((Begin at) ∷ items) out again depth p it =
        let rest = after_item (Begin at) out again (Arrives program flow routine labels items out again) depth p it in
        passes (Begin at) items out again refl refl (escapes items out again rest.0 rest.1.1.0 rest.1.1.2)
    escapes ((End at value) ∷ items) out again depth p it =
        let rest = after_item (End at value) out again (Arrives program flow routine labels items out again) depth p it in
        passes (End at value) items out again refl refl (escapes items out again rest.0 rest.1.1.0 rest.1.1.2)
    escapes ((Give at) ∷ items) out again depth p it =
        let rest = after_item (Give at) out again (Arrives program flow routine labels items out again) depth p it in
        passes (Give at) items out again refl refl (escapes items out again rest.0 rest.1.1.0 rest.1.1.2)
    escapes (Leave ∷ items) out again depth p it =
        let rest = after_item Leave out again (Arrives program flow routine labels items out again) depth p it in
        passes Leave items out again refl refl (escapes items out again rest.0 rest.1.1.0 rest.1.1.2)
