-- How the parts of `find` extend what was found before: for its contract.
use Rattle.std.proofs.Common.{◌≡◌, ℕ, suc, ◌+◌, ◌<◌, ◌≤◌, ℤ, Bool, true, false, List, [], ◌∷◌, ◌++◌, map}
use Rattle.std.proofs.Common.{if◌then◌else◌, refl, sym, ap, ◌∙◌, subst, arith}
use Rattle.std.specs.List.{Any}
use Rattle.std.specs.Global.{Box}
use Rattle.std.specs.Ordering.{int_eq}
use Rattle.std.proofs.lemmas.List.{append-nil}
use Rattle.cs_inputs.specs.declared.path.Path.{Path}
use Rattle.cs_types.specs.declared.data_model.DataModel.{DataModel}
use Rattle.cs_ast.specs.declared.place.Place.{Place}
use Rattle.cs_ast.specs.TypedProgram.{TypedProgram}
use Rattle.cs_model.specs.declared.kind.Kind.{Kind}
use Rattle.cs_terms.specs.declared.term.Lin.{Lin}
use Rattle.cs_terms.specs.Term.{Valuation, value_of}
use Rattle.cs_constraints.specs.Constraints.{Fits}
use Rattle.cs_events.specs.declared.event.Label.TheVariants as label
use Rattle.cs_events.specs.declared.input.InputKind.{InputKind}
use Rattle.cs_events.specs.declared.operation.Operation.{Operation}
use Rattle.cs_events.specs.declared.operation.Operation.TheVariants as operation
use Rattle.cs_events.specs.declared.outcome.Outcome.{Outcome}
use Rattle.cs_events.specs.declared.outcome.RunBudgets.{RunBudgets}
use Rattle.cs_events.specs.Objects.{Object, Cell, UnsetCell}
use Rattle.cs_events.specs.Acts.{Act, Asks, Reaches, Stops}
use Rattle.cs_events.specs.Runs.{Setting, Log, read_cell}
use Rattle.cs_cfg.specs.declared.code.SwitchCase.{SwitchCase}
use Rattle.cs_cfg.specs.Graph as graph
use Rattle.cs_cfg.specs.GraphView as view
use Rattle.cs_cfg.specs.Spots.{point_of}
use Rattle.cs_cfg.specs.Working.{CodeState}
use Rattle.cs_cfg.specs.CodeSteps.{way_of}
use Rattle.cs_access.specs.declared.checking.Checked.{Checked}
use Rattle.cs_eval.specs.declared.question.Question.{Question}
use Rattle.cs_eval.specs.Cases.{case_of, asking_of_cases}
use Rattle.cs_eval.specs.Followed.{AreAnswers, asking_of}
use Rattle.cs_eval.specs.Noted.{NotesGuess}
use Rattle.cs_eval.specs.Splits.{Each}
use Rattle.cs_state.specs.declared.state.State.{State}
use Rattle.cs_state.specs.Meaning.{meaning}
use Rattle.cs_state.specs.Naming.{Naming, Extends}
use Rattle.cs_progress.specs.declared.next.Next.{Next}
use Rattle.cs_progress.specs.declared.next.Next.TheVariants as next
use Rattle.cs_progress.specs.Locals.{HasLocalsAlone}
use Rattle.cs_progress.specs.Stepping.{StepsInLocals, Steps, Waits, EndsAs, ShowsCase, BeginsIn, next_left}
use Rattle.cs_operators.specs.Asking.{HasEveryKind}
use Rattle.cs_explored.specs.declared.child.Child.{Child}
use Rattle.cs_explored.specs.declared.watch.Rule.{Rule}
use Rattle.cs_children.specs.declared.children.Children.{Children}
use Rattle.cs_successors.specs.declared.exploration.Exploration.{Exploration}
use Rattle.cs_pieces.specs.Pieces.{ComesOfPieces, over, shows}
use Rattle.cs_children.specs.Adding.{Adds, AddsPieces, AddsFaulty}
use Rattle.cs_pieces.specs.Pieces.{AreOfQuestion, AreOfSwitch, GoesOn}
use Rattle.cs_successors.specs.Coming.{is_declared, IsIntegerState, MentionsNoOthers, StateEnd, OutcomesDiffer, IsAt, EndsIn, ComesOfState}
use Rattle.cs_successors.specs.Coming.{IsReachedFrom}
use Rattle.cs_successors.specs.EntryRuns.{stays}
use Rattle.cs_children.specs.Finding.{AreNone, FindsAll, FindsSoFar}
use Rattle.cs_successors.specs.Explorations.{code_of, model_of, limits_of, Explores}
use Rattle.cs_pieces.proofs.FaultyParts.{rest_reached, nothing_left}
use Rattle.cs_pieces.proofs.IntegerActs.{IsOfIntegers, ShowsNumbers, asks, left_shows, code_shows}
use Rattle.cs_pieces.proofs.NotedGuesses.{question_noted, none_noted}
use Rattle.cs_pieces.proofs.OwnLabels.{question_tells, cases_tell}
use Rattle.cs_pieces.proofs.PiecesCome.{Shows, pieces_come, over_comes}
use Rattle.cs_pieces.proofs.Reaching.{Comes, one_end_comes, comes_of, reached_on, reached_itself}
use Rattle.cs_pieces.proofs.SilentSteps.{done_reached, waits_reached, begins_in}
use Rattle.cs_pieces.proofs.StandingFirst.{stands_first}
use Rattle.cs_pieces.proofs.UsedGuesses.{guess_is_used}

-- names that extend others extend what these extend
pub extends_on : (one two three : Naming) → Extends one two → Extends two three → Extends one three
extends_on one two three first second = record {
  syms = λ place name there. second.syms place name (first.syms place name there);
  bases = λ place name there. second.bases place name (first.bases place name there);
  types = λ place name there. second.types place name (first.types place name there);
}

explores_before : (exploration : Exploration) (one two names : Naming) (program : TypedProgram) → Extends one two
    → Explores exploration two names program → Explores exploration one names program
explores_before exploration one two names program more explores = record {
  model = explores.model;
  limit = explores.limit;
  extends = extends_on one two names more explores.extends;
  numbered = explores.numbered;
}

-- checkers that keep their kinds still have every kind
pub has_every_kind : {Checker : Type 0} (kind : Checker → Kind) (before after : List Checker) → map kind after ≡ map kind before
    → HasEveryKind kind before → HasEveryKind kind after
has_every_kind kind before after same every = λ fault. subst (Any (λ one. one ≡ fault)) (sym same) (every fault)

-- no successor was found yet
pub finds_none_yet : (exploration : Exploration) (given : Naming) (state : State) (found : Children) → AreNone found
    → FindsSoFar exploration given state state found
finds_none_yet exploration given state found none = record {
  made = none.made;
  cuts = none.cuts;
  reached = λ names program explores is.
      subst (IsReachedFrom (code_of exploration) program (limits_of exploration) names state state) (sym none.ends)
      (reached_itself (code_of exploration) program (limits_of exploration) names state is);
}

pub none_differ : (found : Children) → AreNone found → OutcomesDiffer found.ends.items
none_differ found none = subst OutcomesDiffer (sym none.ends) (λ one other first second here there. cc)

-- the first operation of an act of integer code
shown_plain : {S : Type 0} {at : Place} {one : Operation} {onward : ℤ → Act S} → ShowsNumbers (Asks at one onward) → IsOfIntegers one
shown_plain (asks plain onward) = plain

never_reaches : {S : Type 0} {at : Place} {object : Object} {offset : ℤ} {act : Act S} → ShowsNumbers (Reaches at object offset act) → ⊥
never_reaches numbers = elim numbers [ ]

-- the number of a case
way_number : (cases : List SwitchCase) (otherwise count : ℕ) (number : ℤ)
    → (way_of (map view.switch_case cases) otherwise number count).number ≡ count + case_of cases number
way_number [] otherwise count number = omega arith
way_number (one ∷ cases) otherwise count number = by (int_eq one.value number) (way_number cases otherwise (count + 1) number)
  where
    by : (b : Bool) → (way_of (map view.switch_case cases) otherwise number (count + 1)).number ≡ count + 1 + case_of cases number
        → (if b then record { number = count; block = one.block } else way_of (map view.switch_case cases) otherwise number (count + 1)).number
        ≡ count + (if b then 0 else suc (case_of cases number))
    by true rest = omega arith
    by false rest = omega (arith, rest)

module _ (code : graph.Code) (program : TypedProgram) (budgets : RunBudgets) (names : Naming) (rules : List Rule) (box : Box State)
    (is : IsIntegerState code program budgets names box.value) where
  abbrev Left : (Path → InputKind → Cell) → Valuation → Act CodeState
  Left cells v = next_left code names program budgets cells box.value v

  -- an end is the only successor of a state whose runs all end so
  end_comes : (outcome : Outcome)
      → ((cells : Path → InputKind → Cell) (v : Valuation) → Fits v box.value.constraints → EndsAs names.bases box.value v outcome (Left cells v))
      → Comes code program budgets names rules box.value [] ((outcome, box) ∷ [])
  end_comes outcome first =
      one_end_comes code program budgets names rules box is outcome (λ setting v left log goes here. ends_so setting v left log here)
    where
      ends_so : (setting : Setting) (v : Valuation) (left : Act CodeState) (log : Log) → IsAt code program budgets names box.value setting v left log
          → EndsIn code program budgets names outcome box.value setting v left log
      ends_so setting v left log here =
          let end = first (read_cell setting) v here.fits in
          let stands = stands_first setting log left (Stops end.last) (here.same ∙ end.stops) in
          record {
            last = left;
            before = log;
            ended = end.last;
            after = stands.0;
            proceeds = stays refl refl;
            comes = here;
            ends = stands.2;
            same = end.same;
            returned = end.has_returned;
          }

  -- the children of a question's pieces are all successors of a state in which it comes first
  answers_come : (at : Place) (asked : Question) (limit : ℕ) (model : DataModel) (given : Naming) → limit ≡ budgets.events → program.model ≡ model
      → Extends given names → Shows code program budgets names rules box.value is at (asking_of program.model box.value.constraints asked)
      → (made : List Child) (ends : List StateEnd) → ComesOfPieces limit rules box at (AreOfQuestion model given box.value asked) made ends
      → Comes code program budgets names rules box.value made ends
  answers_come at asked limit model given same models extends first made ends (shows {pieces = pieces} guess room are match) =
      pieces_come code program budgets names rules box.value is at guess (asking_of program.model box.value.constraints asked) first
      (λ v number fits may. record {
        used_is = guess_is_used program.model box.value.constraints asked v number may;
        fresh = are.fresh;
        named = extends.syms guess.0 _ are.named;
      })
      (subst (λ (n : ℕ). box.value.counters.events < n) same room) (question_tells program.model box.value.constraints asked) pieces made
      (subst (λ (m : DataModel). AreAnswers m box.value.constraints guess.0 asked pieces) (sym models) are.answers)
      (question_noted program.model box.value.constraints asked pieces
      (subst (λ (m : DataModel). Each (NotesGuess m box.value.constraints asked) pieces) (sym models) are.notes)) match
  answers_come at asked limit model given same models extends first made ends (over full) =
      over_comes code program budgets names rules box is at (asking_of program.model box.value.constraints asked) first
      (subst (λ (n : ℕ). n ≤ box.value.counters.events) same full)

  -- and so are those of a `switch`
  module _ (at : Place) (term : Lin)
      (first : (cells : Path → InputKind → Cell) (v : Valuation) → Fits v box.value.constraints
      → ShowsCase code box.value v at term (Left cells v)) where
    -- the case that is shown, by the cases at the spot
    case_shows : (temporary : ℕ) (cases : List graph.SwitchCase) (otherwise : ℕ) (place : Place)
        → point_of code box.value.frame.spot ≡ record { operations = []; end = graph.Switch place temporary cases otherwise }
        → (cells : Path → InputKind → Cell) (v : Valuation) → Fits v box.value.constraints
        → (onward : ℤ → Act CodeState)
        × (Left cells v ≡ Asks at (operation.Show (label.Case (way_of cases otherwise (value_of v term) 0).number)) onward)
    case_shows temporary cases otherwise place stands cells v fits =
        let one = first cells v fits in
        let ends : graph.Switch at one.temporary one.cases one.otherwise ≡ graph.Switch place temporary cases otherwise =
        ap (λ (p : graph.Point). p.end) (sym one.stands ∙ stands) in
        let same : one.cases ≡ cases = cc in
        let too : one.otherwise ≡ otherwise = cc in (
          one.onward,
          one.shows ∙ (λ i. Asks at (operation.Show (label.Case (way_of (same i) (too i) (value_of v term) 0).number)) one.onward),
        )

    cases_come : (limit : ℕ) → limit ≡ budgets.events → (made : List Child) (ends : List StateEnd)
        → ComesOfPieces limit rules box at (AreOfSwitch code box.value term) made ends → Comes code program budgets names rules box.value made ends
    cases_come limit same made ends (shows {pieces = pieces} guess room are match) =
        pieces_come code program budgets names rules box.value is at guess (asking_of_cases term are.cases)
        (λ cells v fits.
        let shown = case_shows are.temporary (map view.switch_case are.cases) are.otherwise are.place are.stands cells v fits in
        let number = way_number are.cases are.otherwise 0 (value_of v term) in
        let case : (way_of (map view.switch_case are.cases) are.otherwise (value_of v term) 0).number ≡ case_of are.cases (value_of v term) =
        omega (arith, number) in
        ((tt, tt), (shown.0, shown.1 ∙ ap (λ (n : ℕ). Asks at (operation.Show (label.Case n)) shown.0) case)))
        (λ v number fits may. absurd may) (subst (λ (n : ℕ). box.value.counters.events < n) same room)
        (cases_tell program.model term are.cases) pieces made (are.selects program.model guess.0)
        (none_noted program.model box.value.constraints guess.0 (asking_of_cases term are.cases) (λ v number may. may) pieces
        (are.selects program.model guess.0).each) match
    cases_come limit same made ends (over full) =
        let one = first (λ path kind. UnsetCell) is.possible.0 is.possible.1 in
        over_comes code program budgets names rules box is at (record {
          operation = λ v. operation.Show (label.Case (way_of one.cases one.otherwise (value_of v term) 0).number);
          IsFollowed = λ v. Unit {0};
          IsGuess = λ v number. ⊥;
          Mentions = λ symbol. ⊥;
        })
        (λ cells v fits. ((tt, tt), case_shows one.temporary one.cases one.otherwise at one.stands cells v fits))
        (subst (λ (n : ℕ). n ≤ box.value.counters.events) same full)

module _ (exploration : Exploration) (given : Naming) (before state : State) (found : Children) (so_far : FindsSoFar exploration given before state found)
    (later : Naming) (more : Extends given later) where
  abbrev code : graph.Code
  code = code_of exploration

  abbrev limits : RunBudgets
  limits = limits_of exploration

  abbrev rules : List Rule
  rules = exploration.rules.now

  abbrev Stepped : State → Next → Type 0
  Stepped after what = StepsInLocals code (model_of exploration) limits later state after what

  module _ (names : Naming) (program : TypedProgram) (explores : Explores exploration later names program)
      (is : IsIntegerState code program limits names before) where
    reached : IsReachedFrom code program limits names before state found.ends.items
    reached = so_far.reached names program (explores_before exploration given later names program more explores) is

    stepped : (after : State) (what : Next) → Stepped after what
        → Steps code names program limits state after what × MentionsNoOthers code program limits names state after
    stepped after what steps = (
      (by_known (is_declared state.constraints) reached.integer.locals).0,
      λ known mentioned. (by_known known mentioned).1,
    )
      where
        by_known : (known : ℕ → Bool) → HasLocalsAlone program names.bases known state
            → Steps code names program limits state after what × HasLocalsAlone program names.bases known after
        by_known known mentioned =
            steps.steps names program known explores.model explores.extends explores.numbered mentioned reached.integer.integers
            reached.integer.possible reached.integer.uses

    further : (after : State) → IsReachedFrom code program limits names state after []
        → IsReachedFrom code program limits names before after found.ends.items
    further after onward =
        subst (IsReachedFrom code program limits names before after) (append-nil found.ends.items)
        (reached_on code program limits names before state found.ends.items reached after [] onward)

    -- an operation that waits
    module _ (after : State) (what : Next) (waits : Waits code names program limits state after what)
        (mentions : MentionsNoOthers code program limits names state after) where
      waiting : IsReachedFrom code program limits names state after []
      waiting = waits_reached code program limits names state after reached.integer mentions what waits

      first_in : (cells : Path → InputKind → Cell) (v : Valuation) → Fits v after.constraints
          → BeginsIn code names.bases after v what (next_left code names program limits cells after v)
      first_in = begins_in code program limits names state after reached.integer mentions what waits

      shows_numbers : (cells : Path → InputKind → Cell) (v : Valuation) → ShowsNumbers (next_left code names program limits cells after v)
      shows_numbers cells v =
          left_shows cells (map (value_of v) after.answers)
          (code_shows code program limits after.frame.spot (meaning code names program after v) refl waiting.integer.integers)

      -- its successors are those of the state before
      finished : (made : List Child) (ends : List StateEnd) (all : Children) → Comes code program limits names rules after made ends
          → Adds found all made ends → OutcomesDiffer all.ends.items
          → ComesOfState code program limits names rules before all.made.items all.ends.items × (all.cuts.items ≡ [])
      finished made ends all comes adds differ =
          let are : all.made.items ≡ made = adds.children ∙ ap (λ xs. xs ++ made) so_far.made in (
            subst (λ xs. ComesOfState code program limits names rules before xs all.ends.items) (sym are)
                (subst (ComesOfState code program limits names rules before made) (sym adds.endings)
                (comes_of code program limits names rules before after found.ends.items (further after waiting) made ends comes
                (subst OutcomesDiffer adds.endings differ))),
            adds.cuts ∙ so_far.cuts,
          )

  -- an operation is done
  pub finds_done : (after : State) → Stepped after next.Done → FindsSoFar exploration later before after found
  finds_done after steps = record {
    made = so_far.made;
    cuts = so_far.cuts;
    reached = λ names program explores is.
        let (done, mentions) = stepped names program explores is after next.Done steps in
        further names program explores is after
        (done_reached code program limits names state after (reached names program explores is).integer mentions done);
  }

  module _ (middle : State) (at : Place) (checked : Box Checked) (steps : Stepped middle (next.Checks at checked)) where
    -- faulty parts have ended, and the rest continues
    pub finds_rest : (all : Children) (after : State) (goes : Bool) → AddsFaulty at checked.value.faults.items found all
        → GoesOn checked.value.rest goes middle after → goes ≡ true → FindsSoFar exploration later before after all
    finds_rest all after goes (ends, adds, match) on is_true = record {
      made = adds.children ∙ append-nil found.made.items ∙ so_far.made;
      cuts = adds.cuts ∙ so_far.cuts;
      reached = λ names program explores is.
          let (waits, mentions) = stepped names program explores is middle (next.Checks at checked) steps in
          let here = waiting names program explores is middle (next.Checks at checked) waits mentions in
          subst (IsReachedFrom code program limits names before after) (sym adds.endings)
          (reached_on code program limits names before middle found.ends.items (further names program explores is middle here) after ends
          (rest_reached code program limits names middle here.integer at checked.value ends
          (first_in names program explores is middle (next.Checks at checked) waits mentions) match goes after on is_true));
    }

    -- or all have ended
    pub finds_no_rest : (all : Children) (after : State) (goes : Bool) → AddsFaulty at checked.value.faults.items found all
        → GoesOn checked.value.rest goes middle after → goes ≡ false → OutcomesDiffer all.ends.items → FindsAll exploration later before all
    finds_no_rest all after goes (ends, adds, match) on is_false differ = λ names program explores is.
        let (waits, mentions) = stepped names program explores is middle (next.Checks at checked) steps in
        let here = waiting names program explores is middle (next.Checks at checked) waits mentions in
        finished names program explores is middle (next.Checks at checked) waits mentions [] ends all
        (nothing_left code program limits names middle here.integer at checked.value ends
        (first_in names program explores is middle (next.Checks at checked) waits mentions) match rules goes after on is_false) adds differ

  -- the run ends
  pub finds_end : (box : Box State) (outcome : Outcome) → Stepped box.value (next.Ends outcome) → (all : Children)
      → Adds found all [] ((outcome, box) ∷ []) → OutcomesDiffer all.ends.items → FindsAll exploration later before all
  finds_end box outcome steps all adds differ = λ names program explores is.
      let (waits, mentions) = stepped names program explores is box.value (next.Ends outcome) steps in
      let here = waiting names program explores is box.value (next.Ends outcome) waits mentions in
      let first = first_in names program explores is box.value (next.Ends outcome) waits mentions in
      finished names program explores is box.value (next.Ends outcome) waits mentions [] ((outcome, box) ∷ []) all
      (end_comes code program limits names rules box here.integer outcome first) adds differ

  -- a question comes first
  pub finds_answers : (box : Box State) (at : Place) (asked : Question) → Stepped box.value (next.Asks at asked) → (last : Naming) → Extends later last
      → (all : Children)
      → AddsPieces exploration.budgets.events rules box at (AreOfQuestion (model_of exploration) last box.value asked) found all
      → OutcomesDiffer all.ends.items → FindsAll exploration last before all
  finds_answers box at asked steps last extends all (made, ends, adds, comes) differ = λ names program explores is.
      let early = explores_before exploration later last names program extends explores in
      let (waits, mentions) = stepped names program early is box.value (next.Asks at asked) steps in
      let here = waiting names program early is box.value (next.Asks at asked) waits mentions in
      let first = first_in names program early is box.value (next.Asks at asked) waits mentions in
      let numbers = shows_numbers names program early is box.value (next.Asks at asked) waits mentions in
      finished names program early is box.value (next.Asks at asked) waits mentions made ends all
      (answers_come code program limits names rules box here.integer at asked exploration.budgets.events (model_of exploration) last explores.limit
      explores.model explores.extends
      (λ cells v fits. (shown_plain (subst ShowsNumbers (first cells v fits).1 (numbers cells v)), first cells v fits)) made ends comes) adds differ

  -- a `switch` shows its case
  pub finds_cases : (box : Box State) (at : Place) (term : Lin) → Stepped box.value (next.Selects at term) → (all : Children)
      → AddsPieces exploration.budgets.events rules box at (AreOfSwitch code box.value term) found all
      → OutcomesDiffer all.ends.items → FindsAll exploration later before all
  finds_cases box at term steps all (made, ends, adds, comes) differ = λ names program explores is.
      let (waits, mentions) = stepped names program explores is box.value (next.Selects at term) steps in
      let here = waiting names program explores is box.value (next.Selects at term) waits mentions in
      let first = first_in names program explores is box.value (next.Selects at term) waits mentions in
      finished names program explores is box.value (next.Selects at term) waits mentions made ends all
      (cases_come code program limits names rules box here.integer at term first exploration.budgets.events explores.limit made ends comes) adds differ

  -- no access shows its offset
  pub finds_nowhere : (after : State) (at : Place) (base : ℕ) (offset : Lin) → Stepped after (next.Reaches at base offset) → (all : Children)
      → FindsAll exploration later before all
  finds_nowhere after at base offset steps all = λ names program explores is.
      let (waits, mentions) = stepped names program explores is after (next.Reaches at base offset) steps in
      let here = waiting names program explores is after (next.Reaches at base offset) waits mentions in
      let first = first_in names program explores is after (next.Reaches at base offset) waits mentions in
      let numbers = shows_numbers names program explores is after (next.Reaches at base offset) waits mentions in
      let there = first (λ path kind. UnsetCell) here.integer.possible.0 here.integer.possible.1 in
      absurd (never_reaches (subst ShowsNumbers there.3 (numbers (λ path kind. UnsetCell) here.integer.possible.0)))
