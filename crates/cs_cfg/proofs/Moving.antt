-- How states of the machine and of the code's run stay related: first silent jumps, then one operation for one thing to do. For the
-- simulation.
use Rattle.std.proofs.Common.{◌≡◌, ℕ, suc, ◌+◌, ◌-◌, List, ◌∷◌, length, drop, Option, Some, unwrap_or, if◌then◌else◌, Bool, arith}
use Rattle.std.proofs.Common.{refl, sym, ap, ◌∙◌, subst}
use Rattle.cs_ast.specs.declared.place.Place.{Place}
use Rattle.cs_ast.specs.TypedTree.{Statement}
use Rattle.cs_ast.specs.TypedProgram.{TypedProgram}
use Rattle.cs_events.specs.declared.outcome.RunBudgets.{RunBudgets}
use Rattle.cs_events.specs.Acts.{Goes}
use Rattle.cs_events.specs.Simulation.{Yields, both_go, Answers, together, first, Simulates}
use Rattle.cs_meaning.specs.Machine.{Operand, Item, CallFrame, Frame, State, to_do, with_stack, pop, cell_at, routine_of}
use Rattle.cs_meaning.specs.Operators.{branch}
use Rattle.cs_meaning.specs.Steps.{do_item, step}
use Rattle.cs_cfg.specs.Graph.{Work, Point, Flow, Code, no_flow, block_of, flow_of}
use Rattle.cs_cfg.specs.Working.{CodeState, takes, cut, do_work}
use Rattle.cs_cfg.specs.CodeSteps.{enters, code_step}
use Rattle.cs_cfg.specs.Placing.{does, split, Joins, there, jumps}
use Rattle.cs_cfg.specs.Standing.{Following, worked, stands_at}
use Rattle.cs_cfg.specs.Placed.{LowersBody}
use Rattle.cs_cfg.proofs.Alike.{yields_branch}
use Rattle.cs_cfg.proofs.Acting.{as_code, Leaves}
use Rattle.cs_cfg.proofs.Related.{FrameStands, CallersStand, Aligned, Related, now, soon}

-- jumps, and then more jumps
pub joins_on : {program : TypedProgram} {flow : Flow} {p q r : Point} → Joins program flow p q → Joins program flow q r → Joins program flow p r
joins_on there onward = onward
joins_on (jumps way) onward = jumps (joins_on way onward)

-- with exactly as many temporaries in use as are needed, none is dropped
nothing_below : (k : ℕ) (operands : List Operand) → length operands ≡ k → drop (length operands - k) operands ≡ operands
nothing_below k operands e = let none : length operands - k ≡ 0 = omega arith in ap (λ count. drop count operands) none

pub uncut : (k : ℕ) (p : Point) (callers : List (CallFrame Point)) (m : State) → length m.frame.stack ≡ k
    → cut k (as_code p callers m) ≡ as_code p callers m
uncut k p callers m e = ap (λ stack. with_stack stack (as_code p callers m)) (nothing_below k m.frame.stack e)

module _ (code : Code) (program : TypedProgram) where
  -- the graph of a function, which executes its body, and the two points to which `break` and `continue` lead
  pub record Home (function : ℕ) : Type 0 where
    pub body : Statement
    pub has_body : (routine_of program function).body ≡ Some body
    pub flow : Flow
    pub has_flow : flow_of code function ≡ Some flow
    pub lowers : LowersBody program (routine_of program function) body flow
    pub out : Point
    pub again : Point

  -- a point of the graph does all that is to be done
  abbrev pub stands : {function : ℕ} → Home function → List Item → Following
  stands {function = function} home items depth p =
      stands_at program home.flow (routine_of program function) home.lowers.labels items home.out home.again depth p

  -- the same after jumps
  abbrev pub onward : {function : ℕ} → Home function → List Item → Following
  onward home items depth q = (r : Point) × Joins program home.flow q r × stands home items depth r

  pub right_there : {function : ℕ} (home : Home function) (items : List Item) (depth : ℕ) (p : Point) → stands home items depth p
      → onward home items depth p
  right_there home items depth p s = (p, there, s)

  pub jumps_to : {function : ℕ} (home : Home function) (items : List Item) (depth : ℕ) {p q : Point} →
      Joins program home.flow p q → onward home items depth q → onward home items depth p
  jumps_to home items depth way s = (s.0, joins_on way s.1, s.2)

  -- the same with an equal number of temporaries in use
  pub with_depth : {function : ℕ} (home : Home function) (items : List Item) {depth other : ℕ} (p : Point) →
      depth ≡ other → onward home items depth p → onward home items other p
  with_depth home items p e s = subst (λ d. onward home items d p) e s

  -- a frame of the code's run at a point that does what one of the machine's frames has to do
  pub frame_at : (frame : Frame) (home : Home frame.function) (depth : ℕ) (p : Point) →
      onward home frame.todo depth p
      → FrameStands code program depth frame (record {
        function = frame.function;
        number = frame.number;
        todo = p;
        stack = frame.stack;
        visits = frame.visits;
      })
  frame_at frame home depth p s = record {
    function = refl;
    number = refl;
    stack = refl;
    visits = refl;
    body = home.body;
    has_body = home.has_body;
    flow = home.flow;
    has_flow = home.has_flow;
    lowers = home.lowers;
    out = home.out;
    again = home.again;
    here = s.0;
    joins = s.1;
    stands = s.2;
  }

  pub aligned : (m : State) (home : Home m.frame.function) (p : Point) (callers : List (CallFrame Point)) →
      onward home m.frame.todo (length m.frame.stack) p → CallersStand code program m.callers callers → Aligned code program m (as_code p callers m)
  aligned m home p callers s waiting = record {
    frame = frame_at m.frame home (length m.frame.stack) p s;
    callers = waiting;
    memory = refl;
    frames = refl;
    allocations = refl;
    calls = refl;
  }

  -- the graph of a frame's function
  abbrev pub home_of : {depth : ℕ} {frame : Frame} {other : CallFrame Point} → FrameStands code program depth frame other → Home frame.function
  home_of s = record { body = s.body; has_body = s.has_body; flow = s.flow; has_flow = s.has_flow; lowers = s.lowers; out = s.out; again = s.again }

  -- the code's state is determined by the machine's, the point and the callers
  pub reported_by : {m : State} {t : CodeState} → Aligned code program m t → t ≡ as_code t.frame.todo t.callers m
  reported_by {m = m} {t = t} a = λ i. record {
    frame = record { function = a.frame.function i; number = a.frame.number i; todo = t.frame.todo; stack = a.frame.stack i; visits = a.frame.visits i };
    callers = t.callers;
    memory = a.memory i;
    frames = a.frames i;
    allocations = a.allocations i;
    calls = a.calls i;
  }

  -- the block with a number in the graph of the function that runs
  pub enters_block : (block : ℕ) (p : Point) (callers : List (CallFrame Point)) (m : State) (home : Home m.frame.function) →
      enters code block (as_code p callers m) ≡ as_code (block_of home.flow block) callers m
  enters_block block p callers m home = ap (λ flow. as_code (block_of (unwrap_or flow no_flow) block) callers m) home.has_flow

  module _ (budgets : RunBudgets) where
    -- the machine and the code's run simulate each other
    abbrev pub Answer : State → CodeState → Type 0
    Answer m t = Answers (Related code program budgets) (step program budgets) (code_step code program budgets) m t

    -- it suffices to show this for aligned states
    pub answers_all : ((m : State) (t : CodeState) → Aligned code program m t → Answer m t) →
        Simulates (Related code program budgets) (step program budgets) (code_step code program budgets)
    answers_all h m t (now a) = h m t a
    answers_all h m t (soon e r) = first e r (answers_all h m _ r)

    -- jumps are silent
    pub arrives : (m : State) (home : Home m.frame.function) (p here : Point) (callers : List (CallFrame Point)) → Joins program home.flow p here →
        stands home m.frame.todo (length m.frame.stack) here → CallersStand code program m.callers callers → Answer m (as_code here callers m)
        → Answer m (as_code p callers m)
    arrives m home p here callers there s waiting h = h
    arrives m home p here callers (jumps {block = block} way) s waiting h =
        first (ap Goes (enters_block block p callers m home)) (now (aligned m home (block_of home.flow block) callers (here, way, s) waiting))
        (arrives m home (block_of home.flow block) here callers way s waiting h)

    -- it suffices to show this where the code's run is exactly at the point that does the machine's list
    pub answers_here : (m : State) (t : CodeState) → Aligned code program m t →
        ((home : Home m.frame.function) (here : Point) (callers : List (CallFrame Point)) →
        stands home m.frame.todo (length m.frame.stack) here → CallersStand code program m.callers callers → Answer m (as_code here callers m))
        → Answer m t
    answers_here m t a h =
        let home = home_of a.frame in
        subst (Answer m) (sym (reported_by a))
        (arrives m home t.frame.todo a.frame.here t.callers a.frame.joins a.frame.stands a.callers (h home a.frame.here t.callers a.frame.stands a.callers))

    -- if the code's run is exactly where the first thing to do is done, the machine and the run simulate each other
    abbrev pub Answered : Item → Type 0
    Answered item = (items : List Item) (m : State) (home : Home m.frame.function) (here : Point) (callers : List (CallFrame Point)) →
        stands home (item ∷ items) (length m.frame.stack) here → CallersStand code program m.callers callers
        → Answer (to_do (item ∷ items) m) (as_code here callers m)

    -- a state with the same frame except for its operands, in which a point does what is to be done
    pub leaves : (m : State) (home : Home m.frame.function) (q : Point) (callers : List (CallFrame Point)) (depth : ℕ) →
        onward home m.frame.todo depth q → CallersStand code program m.callers callers
        → Leaves (Related code program budgets) code program budgets m q callers depth
    leaves m home q callers depth s waiting next after =
        let there_too = subst (λ f. (h : Home f) × onward h m.frame.todo depth q) (sym after.function) (home, s) in
        let deep = subst (λ d. onward there_too.0 m.frame.todo d q) (sym after.deep) there_too.1 in
        now (aligned next there_too.0 q callers (subst (λ items. onward there_too.0 items (length next.frame.stack) q) (sym after.todo) deep)
        (subst (λ frames. CallersStand code program frames callers) (sym after.callers) waiting))

    -- an operation works on the newest temporaries
    pub code_works : (at : Place) (work : Work) (number : ℕ) (q : Point) (callers : List (CallFrame Point)) (m : State)
        → length m.frame.stack ≡ takes work + number →
        code_step code program budgets (as_code (does at number work q) callers m) ≡ do_work code program budgets at work (as_code q callers m)
    code_works at work number q callers m e = let enough : length m.frame.stack ≡ number + takes work = omega arith in
        ap (do_work code program budgets at work) (uncut (number + takes work) q callers m enough)

    -- an operation yields the same as the first thing to do
    pub work_answers : (item : Item) (items : List Item) (m : State) (at : Place) (work : Work) (number : ℕ) (p q : Point) (callers : List (CallFrame Point))
        →
        length m.frame.stack ≡ takes work + number → p ≡ does at number work q →
        Yields (Related code program budgets) (do_item program budgets item (to_do items m)) (do_work code program budgets at work (as_code q callers m)) →
        Answer (to_do (item ∷ items) m) (as_code p callers m)
    work_answers item items m at work number p q callers deep e yields =
        subst (λ x. Answer (to_do (item ∷ items) m) (as_code x callers m)) (sym e)
        (together (subst (Yields (Related code program budgets) (do_item program budgets item (to_do items m)))
        (sym (code_works at work number q callers m deep)) yields))

    -- the same where the relation of states determines which operation it is
    pub worked_answers : (item : Item) (items : List Item) (m : State) (home : Home m.frame.function) (at : Place) (work : Work) (count : ℕ) (here : Point)
        (callers : List (CallFrame Point)) →
        worked at work count (onward home items) (length m.frame.stack) here →
        ((number : ℕ) (q : Point) → length m.frame.stack ≡ takes work + number → onward home items (count + number) q →
        Yields (Related code program budgets) (do_item program budgets item (to_do items m)) (do_work code program budgets at work (as_code q callers m))) →
        Answer (to_do (item ∷ items) m) (as_code here callers m)
    worked_answers item items m home at work count here callers s yields =
        work_answers item items m at work s.0 here s.1 callers s.2 s.3 (yields s.0 s.1 s.2 s.4)

    -- a test of the newest temporary
    code_branches : (at : Place) (number one other : ℕ) (callers : List (CallFrame Point)) (m : State) (home : Home m.frame.function)
        → length m.frame.stack ≡ suc number →
        code_step code program budgets (as_code (split at number one other) callers m)
        ≡ branch at (cell_at m 0) (λ holds. Goes (as_code (block_of home.flow (if holds then one else other)) callers (pop m)))
    code_branches at number one other callers m home e =
        let enough : length m.frame.stack ≡ number + 1 = omega arith in
        let ways = λ (t : CodeState). branch at (cell_at t 0) (λ holds. Goes (enters code (if holds then one else other) (pop t))) in
        let goes = λ (flow : Option Flow).
        branch at (cell_at m 0) (λ holds. Goes (as_code (block_of (unwrap_or flow no_flow) (if holds then one else other)) callers (pop m))) in
        ap ways (uncut (number + 1) (split at number one other) callers m enough) ∙ ap goes home.has_flow

    -- a test yields the same as the first thing to do, if the state after each truth is related to the code's at the block of that edge
    pub branch_answers : (item : Item) (items : List Item) (m : State) (home : Home m.frame.function) (at : Place) (number one other : ℕ) (here : Point)
        (callers : List (CallFrame Point)) (next : Bool → State) →
        length m.frame.stack ≡ suc number → here ≡ split at number one other →
        do_item program budgets item (to_do items m) ≡ branch at (cell_at m 0) (λ holds. Goes (next holds)) →
        ((holds : Bool) → Related code program budgets (next holds) (as_code (block_of home.flow (if holds then one else other)) callers (pop m))) →
        Answer (to_do (item ∷ items) m) (as_code here callers m)
    branch_answers item items m home at number one other here callers next deep placed does_so related =
        let R = Related code program budgets in
        let yields = yields_branch R at (cell_at m 0) {f = λ holds. Goes (next holds)} {g = λ holds.
        Goes (as_code (block_of home.flow (if holds then one else other)) callers (pop m))} (λ holds. both_go (related holds)) in
        let code_yields = subst (Yields R (branch at (cell_at m 0) (λ holds. Goes (next holds)))) (sym (code_branches at number one other callers m home deep))
        yields in
        subst (λ x. Answer (to_do (item ∷ items) m) (as_code x callers m)) (sym placed)
        (together (subst (λ act. Yields R act (code_step code program budgets (as_code (split at number one other) callers m))) (sym does_so) code_yields))
