-- Corners show that each guess of a row's or an end's state is real: for `HasCorners`.
use Rattle.std.proofs.Common.{◌≡◌, ◌<◌, ℕ, List, [], ◌∷◌, ◌++◌, length, Some, slice_get, refl, sym, ap, ◌∙◌, subst, arith}
use Rattle.std.specs.Prelude.{Contains}
use Rattle.std.specs.FinMap as finite
use Rattle.std.proofs.lemmas.List.{append_assoc}
use Rattle.cs_ast.specs.declared.place.Place.{Place}
use Rattle.cs_ast.specs.TypedProgram.{TypedProgram}
use Rattle.cs_terms.specs.declared.symbol.Sym.{Sym}
use Rattle.cs_terms.specs.declared.term.Lin.{Lin}
use Rattle.cs_terms.specs.Term.{Valuation}
use Rattle.cs_constraints.specs.Constraints.{Fits}
use Rattle.cs_events.specs.declared.event.Event.{Event}
use Rattle.cs_events.specs.declared.outcome.RunBudgets.{RunBudgets}
use Rattle.cs_events.specs.PendingEvents.{Operates}
use Rattle.cs_cfg.specs.Graph.{Code}
use Rattle.cs_state.specs.declared.asked.Asked.{Asked}
use Rattle.cs_state.specs.declared.asked.Asks.{Asks}
use Rattle.cs_state.specs.declared.asked.Asks.TheVariants as asks
use Rattle.cs_state.specs.declared.state.State.{State}
use Rattle.cs_state.specs.Naming.{Naming}
use Rattle.cs_state.specs.Valuations.{guesses_of}
use Rattle.cs_eval.specs.declared.question.Question.{Question}
use Rattle.cs_eval.specs.Followed.{Mentions, IsFollowed}
use Rattle.cs_eval.specs.Noted.{IsQuestionOf}
use Rattle.cs_eval.specs.Questions.{operation_of}
use Rattle.cs_explored.specs.declared.explored.End.{End}
use Rattle.cs_explored.specs.declared.explored.Row.{Row}
use Rattle.cs_explored.specs.declared.watch.Rule.{Rule}
use Rattle.cs_findings.specs.RealGuesses.{Comes}
use Rattle.cs_findings.specs.Runs.{before}
use Rattle.cs_findings.proofs.EarlierGuesses.{guesses_kept}
use Rattle.cs_compared.specs.Wide.{IsSmall}
use Rattle.cs_corners.specs.Corners.{operands_under}
use Rattle.cs_corners.proofs.Questions.{same_operation}
use Rattle.cs_successors.specs.Coming.{IsAskedByIntegers}
use Rattle.cs_exactness.specs.Noted.{EachState}
use Rattle.cs_exactness.specs.Sources.{HasSource, AreSourced}
use Rattle.cs_exactness.proofs.NotedEvents.{passed}
use Rattle.cs_guesses.specs.Cornered.{IsNamed, IsAtEnds, HasReasonAt, ComesTo, IsCornered, HasCorners}
use Rattle.cs_guesses.specs.Real.{run_at, IsLoweredEntry}
use Rattle.cs_guesses.proofs.Asked.{come, fits_sets, moved_in, ranges, not_followed, integers, operands, may_be, made_at_end}
use Rattle.cs_guesses.proofs.AtEnds.{left_mentioned, ends_moved, reason_at}
use Rattle.cs_guesses.proofs.Coming.{comes_too}
use Rattle.cs_guesses.proofs.Named.{mentioned_named}
use Rattle.cs_guesses.proofs.Operands.{divisor_of}
use Rattle.cs_guesses.proofs.Origins.{IsMadeAt, made_along}
use Rattle.cs_guesses.proofs.Sizes.{computable, small}

-- equal lists have equal first parts of the same length, and the same next element
split_alike : {A : Type 0} (xs ys : List A) (x y : A) (us ws : List A) → length xs ≡ length ys → xs ++ x ∷ us ≡ ys ++ y ∷ ws
    → (xs ≡ ys) × (x ≡ y)
split_alike [] [] x y us ws count same = let first : x ≡ y = cc in (refl, first)
split_alike [] (b ∷ ys) x y us ws count same = cc
split_alike (a ∷ xs) [] x y us ws count same = cc
split_alike (a ∷ xs) (b ∷ ys) x y us ws count same =
    let first : a ≡ b = cc in
    let tails : xs ++ x ∷ us ≡ ys ++ y ∷ ws = cc in
    let rest = split_alike xs ys x y us ws (omega (arith, count)) tails in
    (λ i. first i ∷ rest.0 i, rest.1)

-- for integer code, what is noted determines the question
one_question : (kind : Asks) (left right : Lin) (one other : Question) (v : Valuation) → IsQuestionOf kind left right one
    → IsQuestionOf kind left right other → IsAskedByIntegers (operation_of v one) → one ≡ other
one_question (asks.Binary op ty) left right one other v first second is = first ∙ sym second
one_question (asks.Convert ty) left right one other v first second is = first ∙ sym second
one_question (asks.Compare op) left right one other v first second is = first ∙ sym second
one_question asks.Order left right one other v first second is = first ∙ sym second
one_question asks.Product left right one other v first second is = first ∙ sym second
one_question asks.Sum left right one other v first second is = absurd (subst (λ (q : Question). IsAskedByIntegers (operation_of v q)) first.1 is)
one_question asks.Difference left right one other v first second is =
    absurd (subst (λ (q : Question). IsAskedByIntegers (operation_of v q)) first.1 is)

module _ (code : Code) (program : TypedProgram) (entry : ℕ) (budgets : RunBudgets) (names : Naming) (rules : List Rule) (rows : List Row)
    (ends : List End) (Are : ℕ → Type 0) (sourced : AreSourced code program entry budgets names rules rows ends Are)
    (lowered : IsLoweredEntry code program entry) where
  abbrev sources : (number : ℕ) (row : Row) → slice_get rows number ≡ Some row → HasSource code program entry budgets names rules rows number row
  sources = come code program entry budgets names rules rows ends Are sourced

  abbrev MadeAt : State → List Event → Asked → Type 0
  MadeAt state chain asked = IsMadeAt code program entry budgets names rules rows sources state chain asked

  -- a guess of a state that was made along its chain, and a valuation that fits
  module _ (state : State) (chain : List Event) (asked : Asked) (made : MadeAt state chain asked) (w : Valuation) (fits : Fits w state.constraints) where
    abbrev meant : Question
    meant = made.noted.noted.meant

    fitted : Fits w made.noted.sets
    fitted = fits_sets code program entry budgets names rules rows ends Are sourced state chain asked made w fits

    by_integers : IsAskedByIntegers (operation_of w meant)
    by_integers = integers code program entry budgets names rules rows ends Are sourced state chain asked made w fits

    inexact : ¬ IsFollowed program.model made.noted.sets meant w
    inexact = not_followed code program entry budgets names rules rows ends Are sourced state chain asked made w fits

    names_them : (s : Sym) → Mentions meant s → IsNamed names s
    names_them = mentioned_named code program entry budgets names rules rows sources state chain asked made w fitted inexact

    -- corners of any valuation give the ground to guess
    reason : (v : Valuation) → HasReasonAt program.model names asked meant v w
    reason v =
        reason_at names asked meant made.noted.noted.asked made.noted.sets
        (ranges code program entry budgets names rules rows ends Are sourced state chain asked made) names_them v program.model w
        (operands code program entry budgets names rules rows ends Are sourced state chain asked made w fits)
        (divisor_of made.noted.sets w meant by_integers) inexact
        (may_be code program entry budgets names rules rows ends Are sourced state chain asked made w fits)
        (computable made.noted.sets w fitted meant made.noted.noted.operands by_integers)
        (small made.noted.sets w fitted meant made.noted.noted.operands by_integers)

  -- a state whose guesses were made along its chain, one of them, and a valuation that fits
  module _ (state : State) (chain : List Event) (made : (asked : Asked) → Contains (finite.values state.asked) asked → MadeAt state chain asked)
      (asked : Asked) (among : Contains (finite.values state.asked) asked) (v : Valuation) (fits : Fits v state.constraints) where
    abbrev here : MadeAt state chain asked
    here = made asked among

    abbrev asks_it : Question
    asks_it = here.noted.noted.meant

    abbrev ComesHere : ℕ → Valuation → List Event → Place → Question → Type 0
    ComesHere event w events at question = ComesTo program entry budgets names state event events at question w

    count : here.row.state.value.counters.events ≡ length here.before
    count = passed code program entry budgets names rules rows sources here.leads here.row here.there

    -- the state's own run and those of its corners
    own_comes : Comes program entry budgets (run_at names state v) here.before (Operates here.child.event.place (operation_of v asks_it))
    own_comes =
        comes_too code program entry budgets names rules rows sources lowered state chain asked here (run_at names state v) v
        (fitted state chain asked here v fits) refl
        (λ at early. let number = here.event in here.lists v at (omega (arith, early, count, number)))

    corner_comes : (w : Valuation) → IsAtEnds names asked v w
        → ComesHere asked.event w here.before here.child.event.place asks_it × IsSmall (operands_under asks_it w)
    corner_comes w at_ends =
        let there = moved_in code program entry budgets names rules rows ends Are sourced state chain asked here v w fits
        (ends_moved names asked v w at_ends) in
        let by_integers = subst IsAskedByIntegers (sym (here.noted.noted.same w there)) (here.noted.divides w there) in (
          comes_too code program entry budgets names rules rows sources lowered state chain asked here (before asked.event (run_at names state w)) w
              there refl (λ at early. let number = here.event in
              guesses_kept (guesses_of w state.asked) asked.event at (omega (arith, early, count, number))
              ∙ here.lists w at (omega (arith, early, count, number))),
          small here.noted.sets w there asks_it here.noted.noted.operands by_integers,
        )

    -- a corner of a later guess also fits the row before that guess, on whose chain this guess was made
    module _ (other : Asked) (w : Valuation) (is_among : Contains (finite.values state.asked) other) (after : asked.event < other.event)
        (at_ends : IsAtEnds names other v w) where
      abbrev later : MadeAt state chain other
      later = made other is_among

      abbrev row : State
      row = later.row.state.value

      row_fits : Fits w row.constraints
      row_fits =
          later.noted.within w
          (moved_in code program entry budgets names rules rows ends Are sourced state chain other later v w fits (ends_moved names other v w at_ends))

      again : MadeAt row later.before asked
      again =
          made_along code program entry budgets names rules rows sources later.leads later.row later.there asked (later.among asked after among)

      -- at the same event
      same_events : (again.before ≡ here.before) × (again.child.event ≡ here.child.event)
      same_events =
          let one = again.event in
          let number = here.event in
          split_alike again.before here.before again.child.event here.child.event (again.more ++ later.child.event ∷ later.more) here.more
          (omega (arith, one, number))
          (sym (later.along ∙ ap (λ (l : List Event). l ++ later.child.event ∷ later.more) again.along
          ∙ append_assoc again.before (again.child.event ∷ again.more) (later.child.event ∷ later.more))
          ∙ here.along)

      same_meant : again.noted.noted.meant ≡ asks_it
      same_meant =
          one_question asked.asks asked.left asked.right again.noted.noted.meant asks_it w again.noted.noted.asked here.noted.noted.asked
          (by_integers row later.before asked again w row_fits)

      comes_again : ComesHere other.event w again.before again.child.event.place again.noted.noted.meant
      comes_again =
          comes_too code program entry budgets names rules rows sources lowered row later.before asked again (before other.event (run_at names state w)) w
          (fitted row later.before asked again w row_fits) refl
          (λ at early.
          let number = again.event in
          let passed_there = passed code program entry budgets names rules rows sources again.leads again.row again.there in
          guesses_kept (guesses_of w state.asked) other.event at (omega (arith, early, passed_there, number, after))
          ∙ later.lists w at (omega (arith, early, passed_there, number, after))
          ∙ again.lists w at (omega (arith, early, passed_there, number)))

      comes_later : ComesHere other.event w here.before here.child.event.place asks_it × HasReasonAt program.model names asked asks_it v w
      comes_later = (
        subst (λ (events : List Event). ComesHere other.event w events here.child.event.place asks_it) same_events.0
            (subst (λ (event : Event). ComesHere other.event w again.before event.place asks_it) same_events.1
            (subst (ComesHere other.event w again.before again.child.event.place) same_meant comes_again)),
        subst (λ (question : Question). HasReasonAt program.model names asked question v w) same_meant
            (reason row later.before asked again w row_fits v),
      )

    is_cornered : IsCornered program entry budgets names state asked v
    is_cornered = record {
      passed = here.before;
      number = here.event;
      at = here.child.event.place;
      meant = asks_it;
      asks = here.noted.noted.asked;
      same = λ w. same_operation program.model here.noted.sets asks_it v w (inexact state chain asked here v fits);
      left_named = λ s over.
          names_them state chain asked here v fits s (left_mentioned asked.asks asked.left asked.right asks_it here.noted.noted.asked s over);
      comes = own_comes;
      reason = reason state chain asked here v fits v;
      corners = corner_comes;
      later = comes_later;
    }

  -- corners show all guesses of rows and ends
  pub are_cornered : EachState rows ends (λ number state chain. HasCorners program entry budgets names state)
  are_cornered = record {
    of_rows = λ number row chain there leads v asked fits among.
        is_cornered row.state.value chain (made_along code program entry budgets names rules rows sources leads row there) asked among v fits;
    of_ends = λ number end chain there leads v asked fits among.
        is_cornered end.state.value chain
        (made_at_end code program entry budgets names rules rows ends Are sourced end (sourced.ends_come number end there) chain leads) asked among v fits;
  }
