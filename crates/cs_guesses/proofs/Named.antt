-- The symbols that a guessed question mentions have names: a run depends only on the numbers of named symbols, and reaches one question. For `IsCornered`.
use Rattle.std.proofs.Common.{◌≡◌, inl, inr, ℕ, suc, List, [], ◌∷◌, length, map, Option, None, Some}
use Rattle.std.proofs.Common.{if◌then◌else◌, slice_get, refl, sym, ap, ◌∙◌, subst, arith}
use Rattle.std.specs.Prelude.{Contains}
use Rattle.std.specs.FinMap as finite
use Rattle.std.proofs.lemmas.List.{length-map}
use Rattle.cs_inputs.specs.declared.path.Path.{Path}
use Rattle.cs_ast.specs.declared.place.Place.{Place}
use Rattle.cs_ast.specs.TypedProgram.{TypedProgram}
use Rattle.cs_terms.specs.declared.symbol.Sym.{Sym}
use Rattle.cs_terms.specs.declared.symbol.SymName.{SymName}
use Rattle.cs_terms.specs.declared.symbol.SymName.TheVariants.{Guess as GuessAt}
use Rattle.cs_terms.specs.declared.term.Lin.{Lin}
use Rattle.cs_terms.specs.Term.{Valuation, value_of, IsTerm}
use Rattle.cs_constraints.specs.Constraints.{Sets, Fits, IsDeclared}
use Rattle.cs_events.specs.declared.event.Event.{Event}
use Rattle.cs_events.specs.declared.guess.Guess.{Guess}
use Rattle.cs_events.specs.declared.operation.Operation.{Operation}
use Rattle.cs_events.specs.declared.outcome.RunBudgets.{RunBudgets}
use Rattle.cs_events.specs.Acts.{Act}
use Rattle.cs_events.specs.Pending.{IsPending}
use Rattle.cs_events.specs.PendingEvents.{Pending, Operates}
use Rattle.cs_events.specs.Runs.{Setting, guess_at}
use Rattle.cs_events.proofs.PendingLaws.{one_pending}
use Rattle.cs_event_runs.specs.First.{Step}
use Rattle.cs_event_runs.proofs.Pendings.{shown_is_pending}
use Rattle.cs_cfg.specs.Graph.{Code}
use Rattle.cs_cfg.specs.CodeSteps.{code_step}
use Rattle.cs_cfg.specs.Working.{CodeState}
use Rattle.cs_state.specs.declared.asked.Asked.{Asked}
use Rattle.cs_state.specs.declared.state.State.{State}
use Rattle.cs_state.specs.Naming.{Naming}
use Rattle.cs_state.specs.Valuations.{is_input_at, input_of, guess_of, guesses_of}
use Rattle.cs_eval.specs.declared.question.Question.{Question}
use Rattle.cs_eval.specs.declared.question.Question.TheVariants as question
use Rattle.cs_eval.specs.Followed.{Mentions, IsFollowed}
use Rattle.cs_eval.specs.Operands.{IsReadyOperand, IsSeveral}
use Rattle.cs_eval.specs.Questions.{operation_of}
use Rattle.cs_eval.specs.Ready.{IsReadyPart, HasReadyOperands}
use Rattle.cs_explored.specs.declared.explored.Row.{Row}
use Rattle.cs_explored.specs.declared.watch.Rule.{Rule}
use Rattle.cs_findings.specs.Operands.{operands}
use Rattle.cs_corners.specs.Corners.{operands_under}
use Rattle.cs_corners.proofs.Ends.{AllEnds, all_ends}
use Rattle.cs_corners.proofs.Moving.{is_over}
use Rattle.cs_corners.proofs.Opposite.{opposite, opposite_is, opposite_differs}
use Rattle.cs_corners.proofs.Terms.{fixed_or_movable}
use Rattle.cs_successors.specs.EntryRuns.{setting_with, start_of, PassesTo}
use Rattle.cs_exactness.specs.Sources.{HasSource}
use Rattle.cs_guesses.specs.Cornered.{IsNamed}
use Rattle.cs_guesses.proofs.Origins.{IsMadeAt, comes_to_question, made_along}
use Rattle.cs_guesses.proofs.ProgramRuns.{after_start}
use Rattle.cs_guesses.proofs.SameEnds.{named}

-- valuations agree on the named symbols
abbrev AgreeOn : List SymName → Valuation → Valuation → Type 0
AgreeOn names v w = (n : ℕ) (name : SymName) → slice_get names n ≡ Some name → w n ≡ v n

-- then inputs have the same numbers
same_input : (names : List SymName) (v w : Valuation) → AgreeOn names v w → (path : Path) → input_of names w path ≡ input_of names v path
same_input [] v w agree path = refl
same_input (name ∷ names) v w agree path = λ i.
    if is_input_at path name
    then agree 0 name refl i
    else same_input names (λ symbol. v (suc symbol)) (λ symbol. w (suc symbol)) (λ n other there. agree (suc n) other there) path i

-- and so have guesses
same_guesses : (v w : Valuation) (asked : List Asked) → ((one : Asked) → Contains asked one → w one.guess.0 ≡ v one.guess.0)
    → map (guess_of w) asked ≡ map (guess_of v) asked
same_guesses v w [] agree = refl
same_guesses v w (one ∷ asked) agree =
    let first = agree one (0, omega arith, refl) in
    let rest = same_guesses v w asked (λ other (k, within, at). agree other (suc k, omega (arith, within), at)) in
    λ i. record { event = one.event; number = first i } ∷ rest i

same_operation : (at : Place) (one other : Operation) → Operates at other ≡ Operates at one → one ≡ other
same_operation at one other e = cc

module _ (code : Code) (program : TypedProgram) (entry : ℕ) (budgets : RunBudgets) (setting : Setting) (events : List Event) where
  abbrev step : CodeState → Act CodeState
  step = code_step code program budgets

  abbrev start : CodeState
  start = start_of code program entry budgets setting

  pends_next : (pending : Pending) → PassesTo code program entry budgets setting events pending
      → IsPending step setting start (suc (length events)) pending
  pends_next pending there =
      let shows = after_start code program entry budgets setting there.shows in
      let count : length there.steps ≡ length events = sym (length-map there.steps (λ (one : Step). one.event)) ∙ ap length there.passes in
      subst (λ (n : ℕ). IsPending step setting start (suc n) pending) count
      (subst (IsPending step setting start (suc (length there.steps))) there.pends (shown_is_pending step setting start shows))

  -- a run reaches only one operation
  one_operation : (at : Place) (one other : Operation) → PassesTo code program entry budgets setting events (Operates at one)
      → PassesTo code program entry budgets setting events (Operates at other) → one ≡ other
  one_operation at one other first second =
      same_operation at one other
      (one_pending setting (suc (length events)) step start (Operates at one) (Operates at other) (pends_next (Operates at one) first)
      (pends_next (Operates at other) second))

module _ (code : Code) (program : TypedProgram) (entry : ℕ) (budgets : RunBudgets) (names : Naming) (rules : List Rule) (rows : List Row)
    (come : (number : ℕ) (row : Row) → slice_get rows number ≡ Some row → HasSource code program entry budgets names rules rows number row)
    (state : State) (chain : List Event) (asked : Asked)
    (made : IsMadeAt code program entry budgets names rules rows come state chain asked) where
  abbrev sets : Sets
  sets = made.noted.sets

  abbrev row : State
  row = made.row.state.value

  abbrev meant : Question
  meant = made.noted.noted.meant

  abbrev setting_at : Valuation → Setting
  setting_at v = setting_with program budgets (input_of names.syms v) (guesses_of v row.asked)

  -- the operation is the same under valuations that agree on the named symbols
  same_question : (v w : Valuation) → Fits v sets → Fits w sets → AgreeOn names.syms v w → operation_of v meant ≡ operation_of w meant
  same_question v w fits others agree =
      made.noted.noted.same v fits
      ∙ one_operation code program entry budgets (setting_at v) made.before made.child.event.place (operation_of v made.noted.given)
      (operation_of w made.noted.given)
      (comes_to_question code program entry budgets names rules rows come made (setting_at v) v fits
      (record { goes = record { model = refl; limits = refl }; inputs = refl }) (λ event early. refl))
      (comes_to_question code program entry budgets names rules rows come made (setting_at v) w others
      (record { goes = record { model = refl; limits = refl }; inputs = λ i path. sym (same_input names.syms v w agree path) i })
      (λ event early. ap (λ (guesses : List Guess). guess_at guesses event) (sym guesses)))
      ∙ sym (made.noted.noted.same w others)
    where
      guesses : guesses_of w row.asked ≡ guesses_of v row.asked
      guesses = same_guesses v w (finite.values row.asked) (λ one among.
          agree one.guess.0 (GuessAt one.event) (made_along code program entry budgets names rules rows come made.leads made.row made.there one among).named)

  -- so a symbol with two numbers has a name, if the operation isn't the same under both
  module _ (v : Valuation) (fits : Fits v sets) (term : Lin) (is_term : IsTerm term) (declared : IsDeclared sets term.sym) (several : IsSeveral sets term)
      (tells : (u w : Valuation) → operation_of u meant ≡ operation_of w meant → value_of u term ≡ value_of w term) where
    ends : AllEnds sets
    ends = all_ends sets made.noted.inhabited

    other : Valuation
    other = opposite sets ends (λ (s : Sym). term.sym ≡ Some s) (is_over term.sym) declared v

    unnamed : (s : Sym) → term.sym ≡ Some s → slice_get names.syms s.0 ≡ None → ⊥
    unfolding other
    unnamed s over none = elim (fixed_or_movable sets ends term declared) [
      | inl fixed ↦ elim fixed [
        | inl no_symbol ↦ let wrong : Some s ≡ None = sym over ∙ no_symbol in cc
        | inr one ↦ several one.0 one.1
      ]
      | inr movable ↦
          let moved = opposite_is sets ends (λ (s : Sym). term.sym ≡ Some s) (is_over term.sym) declared v in
          let agree : AgreeOn names.syms v other = λ n name there. moved.others (named n) (λ same.
          let wrong : None ≡ Some name = sym none ∙ ap (λ (t : Sym). slice_get names.syms t.0) (one_symbol s (named n) (sym over ∙ same)) ∙ there in
          cc) in
          opposite_differs sets ends (λ (s : Sym). term.sym ≡ Some s) (is_over term.sym) declared v term is_term movable movable.over
          (sym (tells v other (same_question v other fits (moved.fits fits) agree)))
    ]
      where
        one_symbol : (s t : Sym) → Some s ≡ Some t → s ≡ t
        one_symbol s t e = cc

    of_term : (s : Sym) → term.sym ≡ Some s → IsNamed names s
    of_term s over = by (slice_get names.syms s.0) refl
      where
        by : (name : Option SymName) → slice_get names.syms s.0 ≡ name → IsNamed names s
        by None none = absurd (unnamed s over none)
        by (Some name) there = (name, there)

  module _ (v : Valuation) (fits : Fits v sets) (inexact : ¬ IsFollowed program.model sets meant v) where
    abbrev Tells : Question → Lin → Type 0
    Tells asks term = (u w : Valuation) → operation_of u asks ≡ operation_of w asks → value_of u term ≡ value_of w term

    of_operand : (asks : Question) → meant ≡ asks → (term : Lin) → IsReadyOperand sets term → Tells asks term → (s : Sym) → term.sym ≡ Some s
        → IsNamed names s
    of_operand asks same term is tells =
        of_term v fits term is.prepared.is_term is.prepared.declared is.several (subst (λ (q : Question). Tells q term) (sym same) tells)

    of_part : (asks : Question) → meant ≡ asks → (term : Lin) → IsReadyPart sets term → Tells asks term → (s : Sym) → term.sym ≡ Some s
        → IsNamed names s
    of_part asks same term is tells =
        of_term v fits term is.0.is_term is.0.declared is.1 (subst (λ (q : Question). Tells q term) (sym same) tells)

    tells_left : (asks : Question) (u w : Valuation) → operation_of u asks ≡ operation_of w asks → (operands_under asks u).0 ≡ (operands_under asks w).0
    tells_left asks u w same = ap (λ (o : Operation). (operands o).0) same

    tells_right : (asks : Question) (u w : Valuation) → operation_of u asks ≡ operation_of w asks
        → (operands_under asks u).1 ≡ (operands_under asks w).1
    tells_right asks u w same = ap (λ (o : Operation). (operands o).1) same

    by_question : (asks : Question) → meant ≡ asks → HasReadyOperands sets asks → ¬ IsFollowed program.model sets asks v
        → (s : Sym) → Mentions asks s
        → IsNamed names s
    by_question (question.Binary op ty left right) same are not s (inl over) =
        of_operand (question.Binary op ty left right) same left are.0 (tells_left (question.Binary op ty left right)) s over
    by_question (question.Binary op ty left right) same are not s (inr over) =
        of_operand (question.Binary op ty left right) same right are.1 (tells_right (question.Binary op ty left right)) s over
    by_question (question.Unary op ty term) same are not s mentions = absurd (not tt)
    by_question (question.Convert ty term) same are not s over =
        of_operand (question.Convert ty term) same term are (tells_left (question.Convert ty term)) s over
    by_question (question.Compare op left right) same are not s (inl over) =
        of_operand (question.Compare op left right) same left are.0 (tells_left (question.Compare op left right)) s over
    by_question (question.Compare op left right) same are not s (inr over) =
        of_operand (question.Compare op left right) same right are.1 (tells_right (question.Compare op left right)) s over
    by_question (question.Order left right) same are not s (inl over) =
        of_part (question.Order left right) same left are.0 (tells_left (question.Order left right)) s over
    by_question (question.Order left right) same are not s (inr over) =
        of_part (question.Order left right) same right are.1 (tells_right (question.Order left right)) s over
    by_question (question.Product left right) same are not s (inl over) =
        of_operand (question.Product left right) same left are.0 (tells_left (question.Product left right)) s over
    by_question (question.Product left right) same are not s (inr over) =
        of_operand (question.Product left right) same right are.1 (tells_right (question.Product left right)) s over
    by_question (question.Sum left right size) same are not s (inl over) =
        of_operand (question.Sum left right size) same left are.0 (tells_left (question.Sum left right size)) s over
    by_question (question.Sum left right size) same are not s (inr over) =
        of_operand (question.Sum left right size) same right are.1 (tells_right (question.Sum left right size)) s over
    by_question (question.Difference left right size) same are not s (inl over) =
        of_operand (question.Difference left right size) same left are.0 (tells_left (question.Difference left right size)) s over
    by_question (question.Difference left right size) same are not s (inr over) =
        of_operand (question.Difference left right size) same right are.1 (tells_right (question.Difference left right size)) s over
    by_question (question.Test tested term) same are not s mentions = absurd (not tt)
    by_question (question.Callee function) same are not s mentions = absurd (not tt)

    -- the symbols that the question mentions have names
    pub mentioned_named : (s : Sym) → Mentions meant s → IsNamed names s
    mentioned_named = by_question meant refl made.noted.noted.operands inexact
