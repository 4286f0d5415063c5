-- The successors of a state whose operation shows a label: for the contract of `find`.
use Rattle.std.proofs.Common.{◌≡◌, ◌≢◌, ℕ, zero, suc, ◌+◌, ◌<◌, ◌≤◌, ℤ, Bool, true, false, List, [], ◌∷◌, ◌++◌, Option}
use Rattle.std.proofs.Common.{None}
use Rattle.std.proofs.Common.{Some, All, map, inl, inr, refl, sym, ap, ◌∙◌, subst, arith}
use Rattle.std.specs.Prelude.{slice_get, option_map, unwrap_or, is_some, IsTrue}
use Rattle.std.specs.FinMap as finite
use Rattle.std.specs.Global.{Box}
use Rattle.std.proofs.lemmas.List.{map-append}
use Rattle.std.proofs.lemmas.List.Elements.{All-nil, All-cons, All-push}
use Rattle.cs_inputs.specs.declared.path.Path.{Path}
use Rattle.cs_ast.specs.declared.place.Place.{Place}
use Rattle.cs_ast.specs.TypedProgram.{TypedProgram}
use Rattle.cs_terms.specs.declared.symbol.Sym.{Sym}
use Rattle.cs_terms.specs.declared.symbol.SymName.TheVariants.{Guess as GuessAt}
use Rattle.cs_terms.specs.declared.term.Lin.{Lin}
use Rattle.cs_terms.specs.Term.{Valuation, value_of, value_at, value_with}
use Rattle.cs_ranges.specs.Affine.{affine}
use Rattle.cs_ranges.specs.RangeSet.{contains}
use Rattle.cs_events.specs.declared.operation.Operation.{Operation}
use Rattle.cs_event_runs.specs.Left.{left_of}
use Rattle.cs_successors.proofs.Agreeing.{values_agree, means_alike}
use Rattle.cs_constraints.specs.Constraints.{Sets, set_of, Fits}
use Rattle.cs_events.specs.declared.event.Event.{Event}
use Rattle.cs_events.specs.declared.event.Label.{Label}
use Rattle.cs_events.specs.declared.input.InputKind.{InputKind}
use Rattle.cs_events.specs.declared.outcome.Outcome.TheVariants.{Over}
use Rattle.cs_events.specs.declared.outcome.Budget.TheVariants.{Events}
use Rattle.cs_events.specs.declared.outcome.RunBudgets.{RunBudgets}
use Rattle.cs_events.specs.Objects.{Cell, UnsetCell}
use Rattle.cs_events.specs.Operations.{guess_range, own_result, result_with, truth_number, shows}
use Rattle.cs_events.specs.PendingEvents.{Operates}
use Rattle.cs_events.specs.Acts.{Act, Asks}
use Rattle.cs_events.specs.Runs.{Setting, Log, guess_at, read_cell, used}
use Rattle.cs_event_runs.specs.First.{Step, first_of}
use Rattle.cs_cfg.specs.Graph.{Code}
use Rattle.cs_cfg.specs.Working.{CodeState}
use Rattle.cs_cfg.specs.CodeSteps.{code_step}
use Rattle.cs_eval.specs.declared.piece.Guessed.{Guessed}
use Rattle.cs_eval.specs.declared.piece.Piece.{Piece}
use Rattle.cs_eval.specs.Parts.{with_number}
use Rattle.cs_eval.specs.Splits.{Asking, IsExact, IsOfGuess, IsPieceWith, IsPieceOf, Each, HaveOwnLabels, IsIn, IsCovered, IsSplit}
use Rattle.cs_eval.proofs.OperandValues.{decide, with_number-same, with_number-other, fits_with}
use Rattle.cs_state.specs.declared.asked.Asked.{Asked}
use Rattle.cs_state.specs.declared.state.State.{State}
use Rattle.cs_state.specs.Cells.{block_of}
use Rattle.cs_state.specs.Meaning.{meaning}
use Rattle.cs_state.specs.Naming.{Naming}
use Rattle.cs_progress.specs.Acting.{UsesAll}
use Rattle.cs_cfg.specs.IntegerCode.{HasIntegerCode}
use Rattle.cs_progress.specs.Locals.{IsOver, HasLocalsAlone}
use Rattle.cs_progress.specs.Stepping.{next_act, next_left, UsesAnswers}
use Rattle.cs_explored.specs.declared.child.Child.{Child}
use Rattle.cs_explored.specs.declared.watch.Rule.{Rule}
use Rattle.cs_explored.specs.Answering.{leads_on}
use Rattle.cs_explored.specs.Watching.{IsPhaseAfter, IsPhaseAfterLabel}
use Rattle.cs_pieces.specs.Pieces.{asked_for, AreNotedAfter, IsOfPiece, AreOfPieces}
use Rattle.cs_pieces.specs.Settled.{DependsOn}
use Rattle.cs_successors.specs.EntryRuns.{LeavesAfter, stays}
use Rattle.cs_successors.specs.Coming.{is_declared, IsIntegerState, AreGuessesAfter, IsTruth, GoesBy, IsAt, PassesTo, GuessesAs, EndsIn, IsChildOf, IsEndOf}
use Rattle.cs_successors.specs.Coming.{IsAskedByIntegers, IsNotedAt, ListsNoneOrTruth, GivesOwn, MentionsGuess, ComesToChild}
use Rattle.cs_successors.proofs.Passing.{one_alone}
use Rattle.cs_pieces.proofs.DeclaredSymbols.{stays_declared, over_declared, locals_more, answers_more}
use Rattle.cs_pieces.proofs.GuessedAsked.{guesses_after, noted_there, asked_before}
use Rattle.cs_pieces.proofs.IntegerActs.{IsOfIntegers}
use Rattle.cs_pieces.proofs.NotedGuesses.{IsNotedOf, NotesAsked}
use Rattle.cs_pieces.proofs.OneMoreAnswer.{uses_one}
use Rattle.cs_pieces.proofs.OwnLabels.{TellsFollowed}
use Rattle.cs_pieces.proofs.PassedPieces.{event_with, step_with, asks_over, comes_to_step, only_step, passes_piece}
use Rattle.cs_pieces.proofs.Reaching.{Comes, one_end_comes}
use Rattle.cs_pieces.proofs.UsedGuesses.{used_none, own_leads_on}

abbrev no_cells : Path → InputKind → Cell
no_cells path kind = UnsetCell

-- changing a symbol's number to the one that it has changes nothing
with_own : (symbol : ℕ) (number : ℤ) (v : Valuation) → v symbol ≡ number → with_number symbol number v ≡ v
with_own symbol number v own_number = λ i other. same other i
  where
    same : (other : ℕ) → with_number symbol number v other ≡ v other
    same other = elim (decide other symbol) [
      | inl one ↦ with_number-same symbol number v other one ∙ sym own_number ∙ ap v (sym one)
      | inr differs ↦ with_number-other symbol number v other differs
    ]

module _ (code : Code) (program : TypedProgram) (budgets : RunBudgets) (names : Naming) (rules : List Rule) (state : State)
    (is : IsIntegerState code program budgets names state) (at : Place) where
  -- what comes first under each valuation that fits: an operation of integer code
  abbrev pub Shows : Asking → Type 0
  Shows asking = (cells : Path → InputKind → Cell) (v : Valuation) → Fits v state.constraints
      → IsOfIntegers (asking.operation v)
      × ((onward : ℤ → Act CodeState) × (next_left code names program budgets cells state v ≡ Asks at (asking.operation v) onward))

  -- a number that may be guessed is used, and is that of a new symbol, which represents the guess at the next event
  pub record IsUsed (guess : Sym) (asking : Asking) (v : Valuation) (number : ℤ) : Type 0 where
    pub used_is : used (guess_range program.model (asking.operation v)) (Some number) ≡ Some number
    pub fresh : set_of state.constraints guess.0 ≡ None
    pub named : slice_get names.syms guess.0 ≡ Some (GuessAt (state.counters.events + 1))

  module _ (guess : Sym) (asking : Asking) (first : Shows asking)
      (may : (v : Valuation) (number : ℤ) → Fits v state.constraints → asking.IsGuess v number → IsUsed guess asking v number)
      (room : state.counters.events < budgets.events) (tells : TellsFollowed program.model asking) where
    abbrev Exact : Piece → Type 0
    Exact piece = IsExact program.model state.constraints asking piece

    abbrev Notes : Piece → Type 0
    Notes piece = NotesAsked program.model state.constraints asking piece

    abbrev OfGuess : Piece → Type 0
    OfGuess piece = IsOfGuess program.model state.constraints guess.0 asking piece

    -- the valuations of a piece
    with_fits : (given : Option Guessed) (piece : Piece) → IsPieceWith program.model state.constraints guess.0 asking given piece → (v : Valuation)
        → Fits v piece.constraints → Fits v state.constraints
    with_fits None piece exact v fits = (exact.from v fits).0
    with_fits (Some guessed) piece inexact v fits = (inexact.from v fits).0

    -- a valuation with another number for the guess agrees on declared symbols
    beside_guess : (number : ℤ) (v : Valuation) → set_of state.constraints guess.0 ≡ None
        → (symbol : ℕ) → is_declared state.constraints symbol ≡ true → with_number guess.0 number v symbol ≡ v symbol
    beside_guess number v fresh symbol declared = with_number-other guess.0 number v symbol (λ same.
        let none : is_declared state.constraints symbol ≡ false = ap (λ (s : ℕ). is_declared state.constraints s) same ∙ ap is_some fresh in
        let wrong : true ≡ false = sym declared ∙ none in
        cc)

    -- the operation is the same under valuations that agree on the symbols that the state mentions
    same_operation : (known : ℕ → Bool) → HasLocalsAlone program names.bases known state → (v w : Valuation) → Fits v state.constraints
        → Fits w state.constraints → ((symbol : ℕ) → known symbol ≡ true → w symbol ≡ v symbol) → asking.operation v ≡ asking.operation w
    same_operation known mentioned v w fits others agree =
        let (onward, one) = (first no_cells v fits).1 in
        let (further, other) = (first no_cells w others).1 in
        let left : next_left code names program budgets no_cells state w ≡ next_left code names program budgets no_cells state v
        = (λ i. left_of no_cells (values_agree known v w agree state.answers mentioned.answers i)
        (code_step code program budgets (means_alike known v w agree code names program state mentioned is.blocks i))) in
        operations (asking.operation v) (asking.operation w) onward further (sym one ∙ sym left ∙ other)
      where
        operations : (o p : Operation) (f g : ℤ → Act CodeState) → Asks at o f ≡ Asks at p g → o ≡ p
        operations o p f g e = cc

    module _ (piece : Piece) (child : Child) (is_piece : IsPieceOf program.model state.constraints guess.0 asking piece)
        (of : IsOfPiece rules state at guess piece child) where
      abbrev after : State
      after = child.state.value

      abbrev answer : Lin
      answer = of.answer

      sets_are : after.constraints ≡ piece.constraints
      sets_are = ap (λ (s : State). s.constraints) of.state

      fits_piece : (v : Valuation) → Fits v after.constraints → Fits v piece.constraints
      fits_piece v fits = subst (λ (sets : Sets). Fits v sets) sets_are fits

      fits_after : (v : Valuation) → Fits v piece.constraints → Fits v after.constraints
      fits_after v fits = subst (λ (sets : Sets). Fits v sets) (sym sets_are) fits

      fits_state : (v : Valuation) → Fits v after.constraints → Fits v state.constraints
      fits_state v fits = with_fits piece.guessed piece is_piece.meaning v (fits_piece v fits)

      number_is : after.counters.events ≡ state.counters.events + 1
      number_is = ap (λ (s : State). s.counters.events) of.state

      -- a child continues with its piece's own answer
      own_leads : leads_on piece.label piece.answer ≡ piece.answer
      own_leads = by piece.guessed is_piece.meaning
        where
          some : Valuation
          some = is_piece.some.0

          of_label : (given : Option ℤ) → Fits some state.constraints → shows program.model (asking.operation some) given ≡ piece.label
              → leads_on piece.label piece.answer ≡ piece.answer
          of_label given fits label =
              ap (λ l. leads_on l piece.answer) (sym label)
              ∙ own_leads_on program.model (asking.operation some) given piece.answer (first no_cells some fits).0.0

          by : (guessed : Option Guessed) → IsPieceWith program.model state.constraints guess.0 asking guessed piece
              → leads_on piece.label piece.answer ≡ piece.answer
          by None exact = let from = exact.from some is_piece.some.1 in of_label None from.0 from.2
          by (Some what) inexact = let from = inexact.from some is_piece.some.1 in of_label (Some (some guess.0)) from.0 from.3

      -- whose values are the same
      answer_is : (v : Valuation) → Fits v state.constraints → value_of v answer ≡ value_of v piece.answer
      answer_is v fits = of.settled.values v fits ∙ ap (value_of v) own_leads

      -- the state of the child is one of integers only
      more : (symbol : ℕ) → is_declared state.constraints symbol ≡ true → is_declared after.constraints symbol ≡ true
      more = stays_declared state.constraints after.constraints (is_piece.some.0, fits_after is_piece.some.0 is_piece.some.1) fits_state

      over_answer : IsOver (is_declared after.constraints) answer
      over_answer = subst (λ (sets : Sets). IsOver (is_declared sets) answer) (sym sets_are) (over_declared piece.constraints answer of.declared)

      as_after : after ≡ record state {
        constraints = after.constraints;
        answers = state.answers ++ answer ∷ [];
        counters = after.counters;
        asked = after.asked;
        phase = after.phase;
      }
      as_after = of.state ∙ (λ i. record state {
        constraints = sym sets_are i;
        answers = state.answers ++ answer ∷ [];
        counters = ap (λ (s : State). s.counters) (sym of.state) i;
        asked = after.asked;
        phase = after.phase;
      })

      same_meaning : (v : Valuation) → meaning code names program after v ≡ meaning code names program state v
      same_meaning v = ap (λ (s : State). meaning code names program s v) of.state

      uses_answer : (cells : Path → InputKind → Cell) (v : Valuation) → Fits v after.constraints → UsesAnswers code names program budgets cells after v
      uses_answer cells v fits =
          let fitted = fits_state v fits in
          let (onward, asks) = (first cells v fitted).1 in
          subst (λ (s : State). UsesAnswers code names program budgets cells s v) (sym of.state)
          (subst (λ answers. UsesAll cells answers (next_act code names program budgets state v))
          (sym (map-append (value_of v) state.answers (answer ∷ [])))
          (uses_one cells (map (value_of v) state.answers) (value_of v answer) (next_act code names program budgets state v)
          at (asking.operation v) onward asks (is.uses cells v fitted)))

      asked_after : AreGuessesAfter (state.counters.events + 1) child.guess state.asked after.asked
      asked_after =
          subst (λ (given : Option Sym). AreGuessesAfter (state.counters.events + 1) given state.asked after.asked) (sym of.guessed)
          (guesses_after (state.counters.events + 1) guess piece.guessed state.asked after.asked of.asked)

      child_integer : IsIntegerState code program budgets names after
      child_integer = record {
        model = ap (λ (s : State). s.model) of.state ∙ is.model;
        integers = subst (λ (s : State). HasIntegerCode code program s.frame.spot.function) (sym of.state) is.integers;
        locals = locals_more (is_declared state.constraints) (is_declared after.constraints) more program names.bases state after
            (state.answers ++ answer ∷ []) is.locals as_after
            (All-push (IsOver (is_declared after.constraints)) state.answers answer
            (answers_more (is_declared state.constraints) (is_declared after.constraints) more state.answers is.locals.answers) over_answer);
        blocks = λ base. ap (λ (s : State). block_of s.blocks base) of.state ∙ is.blocks base;
        uses = uses_answer;
        possible = (is_piece.some.0, fits_after is_piece.some.0 is_piece.some.1);
        guessed = λ asked among.
            subst (λ (n : ℕ). asked.event ≤ n) (sym number_is)
            (asked_before state.counters.events child.guess state.asked after.asked is.guessed asked_after asked among);
      }

      -- the answer depends only on symbols that the state mentions and on that of the guess
      module _ (known : ℕ → Bool) (mentioned : HasLocalsAlone program names.bases known state) (symbol : Sym) (over : answer.sym ≡ Some symbol)
          (depends : DependsOn state.constraints answer symbol) (unknown : known symbol.0 ≡ false) where
        abbrev base : Valuation
        base = is_piece.some.0

        base_fits : Fits base state.constraints
        base_fits = with_fits piece.guessed piece is_piece.meaning base is_piece.some.1

        -- with another number for the symbol
        abbrev with_other : ℤ → Valuation
        with_other number = with_number symbol.0 number base

        other_fits : (number : ℤ) → IsTrue (contains depends.set number) → Fits (with_other number) state.constraints
        other_fits number has = fits_with state.constraints symbol.0 depends.set number base depends.there has base_fits

        other_shows : (number : ℤ) → IsTrue (contains depends.set number) → asking.operation base ≡ asking.operation (with_other number)
        other_shows number has = same_operation known mentioned base (with_other number) base_fits (other_fits number has) (λ one is_known.
            with_number-other symbol.0 number base one (λ same.
            let wrong : true ≡ false = sym is_known ∙ ap known same ∙ unknown in
            cc))

        own_answer : (number : ℤ) → IsTrue (contains depends.set number) → value_of (with_other number) piece.answer ≡ value_of base piece.answer
        own_answer number has = by piece.guessed refl is_piece.meaning
          where
            same : asking.operation base ≡ asking.operation (with_other number)
            same = other_shows number has

            by : (guessed : Option Guessed) → piece.guessed ≡ guessed → IsPieceWith program.model state.constraints guess.0 asking guessed piece
                → value_of (with_other number) piece.answer ≡ value_of base piece.answer
            by None none exact =
                let from = exact.from base is_piece.some.1 in
                let fits = exact.back (with_other number) (other_fits number has)
                (tells.alike base (with_other number) from.1 (ap (λ o. shows program.model o None) same))
                (ap (λ o. shows program.model o None) (sym same) ∙ from.2) in
                exact.answer (with_other number) fits ∙ ap (own_result program.model) (sym same) ∙ sym (exact.answer base is_piece.some.1)
            by (Some what) some inexact =
                let from = inexact.from base is_piece.some.1 in
                let guessed : ℤ = base guess.0 in
                let fresh = (may base guessed from.0 from.2).fresh in
                let same_guess : with_other number guess.0 ≡ guessed = with_number-other symbol.0 number base guess.0 (λ one.
                let wrong : None ≡ Some depends.set = sym fresh ∙ ap (set_of state.constraints) one ∙ depends.there in
                cc) in
                let kept = inexact.back (with_other number) guessed (other_fits number has) (λ followed.
                from.1 (tells.alike (with_other number) base followed (ap (λ o. shows program.model o None) (sym same))))
                (tells.may base (with_other number) guessed same from.2) (ap (λ o. shows program.model o (Some guessed)) (sym same) ∙ from.3) in
                let fits = subst (λ (u : Valuation). Fits u piece.constraints) (with_own guess.0 guessed (with_other number) same_guess) kept in
                inexact.answer (with_other number) fits ∙ same_guess ∙ sym (inexact.answer base is_piece.some.1)

        value_then : (number : ℤ) → IsTrue (contains depends.set number) → value_at answer number ≡ value_of base piece.answer
        value_then number has =
            ap (λ (o : Option Sym). value_with (λ s. number) o answer.slope answer.at answer.value) over
            ∙ ap (affine answer.slope answer.at answer.value) (sym (with_number-same symbol.0 number base symbol.0 refl))
            ∙ sym (ap (λ (o : Option Sym). value_with (with_other number) o answer.slope answer.at answer.value) over)
            ∙ of.settled.values (with_other number) (other_fits number has) ∙ ap (value_of (with_other number)) own_leads ∙ own_answer number has

        depends_not : ⊥
        depends_not = depends.differ (value_then depends.one depends.has_one ∙ sym (value_then depends.other depends.has_other))

      child_mentions : MentionsGuess code program budgets names state child
      child_mentions known more mentioned includes with_guess =
          locals_more known more includes program names.bases state after (state.answers ++ answer ∷ []) mentioned as_after
          (All-push (IsOver more) state.answers answer (answers_more known more includes state.answers mentioned.answers) over)
        where
          over : IsOver more answer
          over symbol is = elim (of.settled.over symbol is) [
            | inl guessed ↦ with_guess symbol guessed
            | inr depends ↦ by (known symbol.0) refl depends
          ]
            where
              by : (b : Bool) → known symbol.0 ≡ b → DependsOn state.constraints answer symbol → more symbol.0 ≡ true
              by true is_known depends = includes symbol.0 is_known
              by false unknown depends = absurd (depends_not known mentioned symbol is depends unknown)

      -- runs pass the child's event and reach it
      module _ (setting : Setting) (v : Valuation) (left : Act CodeState) (log : Log) (goes : GoesBy code program budgets names setting)
          (here : IsAt code program budgets names state setting v left log) where
        passes_with : (given : Option ℤ)
            → used (guess_range program.model (asking.operation v)) (guess_at setting.guesses (suc state.counters.events)) ≡ given
            → (other : Valuation) → Fits other after.constraints
            → ((symbol : ℕ) → is_declared state.constraints symbol ≡ true → other symbol ≡ v symbol)
            → value_of other answer ≡ result_with program.model (asking.operation v) given
            → (to : PassesTo code program budgets names after setting other left log)
            × (to.one.event ≡ event_with program.model at (asking.operation v) given)
            × (to.one.answer ≡ result_with program.model (asking.operation v) given)
        passes_with given uses other fits agree value =
            let (onward, asks) = (first (read_cell setting) v here.fits).1 in
            passes_piece code program budgets names state is at setting v left log goes here (asking.operation v) onward asks room given uses after
            answer other (ap (λ (s : State). s.answers) of.state) (same_meaning other) number_is agree value fits

        labelled : (given : Option ℤ) → shows program.model (asking.operation v) given ≡ piece.label
            → event_with program.model at (asking.operation v) given ≡ child.event
        labelled given label = ap (λ l. record { place = at; label = l }) label ∙ sym of.event

        abbrev own : ℤ
        own = own_result program.model (asking.operation v)

        -- a run reaches the child under a valuation that fits it, if its listed guess agrees with the valuation
        child_passes : Fits v after.constraints → GuessesAs code program budgets names setting child v
            → (to : PassesTo code program budgets names after setting v left log) × (to.one.event ≡ child.event)
        child_passes fits agrees = by piece.guessed refl is_piece.meaning
          where
            given : (guessed : Option Guessed) → piece.guessed ≡ guessed
                → guess_at setting.guesses (suc state.counters.events) ≡ option_map (λ (symbol : Sym). v symbol.0) (option_map (λ what. guess) guessed)
            given guessed are =
                let next : suc state.counters.events ≡ after.counters.events = (let n = number_is in omega (arith, n)) in
                ap (guess_at setting.guesses) next ∙ agrees
                ∙ ap (option_map (λ (symbol : Sym). v symbol.0)) (of.guessed ∙ ap (option_map (λ what. guess)) are)

            by : (guessed : Option Guessed) → piece.guessed ≡ guessed → IsPieceWith program.model state.constraints guess.0 asking guessed piece
                → (to : PassesTo code program budgets names after setting v left log) × (to.one.event ≡ child.event)
            by None none exact =
                let from = exact.from v (fits_piece v fits) in
                let to = passes_with None (ap (used (guess_range program.model (asking.operation v))) (given None none) ∙ used_none _) v fits
                (λ symbol declared. refl) (answer_is v here.fits ∙ exact.answer v (fits_piece v fits)) in
                (to.0, to.1 ∙ labelled None from.2)
            by (Some what) some inexact =
                let from = inexact.from v (fits_piece v fits) in
                let is_used = may v (v guess.0) here.fits from.2 in
                let to = passes_with (Some (v guess.0)) (ap (used (guess_range program.model (asking.operation v))) (given (Some what) some)
                ∙ is_used.used_is)
                v fits (λ symbol declared. refl)
                (answer_is v here.fits ∙ inexact.answer v (fits_piece v fits)) in
                (to.0, to.1 ∙ labelled (Some (v guess.0)) from.3)

        -- a run reaches the child under a valuation of its piece, without a guess
        covers_piece : (made : List Child) (place : ℕ) → slice_get made place ≡ Some child
            → guess_at setting.guesses (suc state.counters.events) ≡ None → IsIn program.model guess.0 asking v piece.guessed piece
            → ComesToChild code program budgets names made setting v left log
        covers_piece made place there without within = by piece.guessed refl is_piece.meaning within
          where
            unused : used (guess_range program.model (asking.operation v)) (guess_at setting.guesses (suc state.counters.events)) ≡ None
            unused = ap (used (guess_range program.model (asking.operation v))) without ∙ used_none _

            by : (guessed : Option Guessed) → piece.guessed ≡ guessed → IsPieceWith program.model state.constraints guess.0 asking guessed piece
                → IsIn program.model guess.0 asking v guessed piece → ComesToChild code program budgets names made setting v left log
            by None none exact fits =
                let from = exact.from v fits in
                let no_guess : child.guess ≡ None = of.guessed ∙ ap (option_map (λ what. guess)) none in
                let to = passes_with None unused v (fits_after v fits) (λ symbol declared. refl)
                (answer_is v here.fits ∙ exact.answer v fits) in
                record {
                  place = place;
                  child = child;
                  there = there;
                  after = v;
                  to = to.0;
                  others = λ symbol differs. refl;
                  guess = λ symbol some. let wrong : None ≡ Some symbol = sym no_guess ∙ some in cc;
                  shown = λ none. to.1 ∙ labelled None from.2;
                  phases = λ watched phase next is.
                      subst (λ (event : Event). IsPhaseAfter watched phase event next) (sym (to.1 ∙ labelled None from.2)) is;
                }
            by (Some what) some inexact fits =
                let other : Valuation = with_number guess.0 own v in
                let from = inexact.from other fits in
                let is_used = may other (other guess.0) from.0 from.2 in
                let has_guess : child.guess ≡ Some guess = of.guessed ∙ ap (option_map (λ what. guess)) some in
                let own_is : other guess.0 ≡ own = with_number-same guess.0 own v guess.0 refl in
                let to = passes_with None unused other (fits_after other fits) (beside_guess own v is_used.fresh)
                (answer_is other from.0 ∙ inexact.answer other fits ∙ own_is) in
                record {
                  place = place;
                  child = child;
                  there = there;
                  after = other;
                  to = to.0;
                  others = λ symbol differs. with_number-other guess.0 own v symbol.0 (λ same.
                      differs (has_guess ∙ ap (λ (n : ℕ). Some (record { 0 = n })) (sym same)));
                  guess = λ symbol has.
                      let same : guess ≡ symbol = cc in
                      ap (λ (s : Sym). other s.0) (sym same) ∙ own_is ∙ sym to.2;
                  shown = λ none. let wrong : Some guess ≡ None = sym has_guess ∙ none in cc;
                  phases = λ watched phase next is.
                      subst (λ (event : Event). IsPhaseAfter watched phase event next) (sym to.1)
                      (tells.phases v other (other guess.0) from.2 watched phase at next
                      (subst (λ (l : Label). IsPhaseAfterLabel watched phase at l next) (sym from.3)
                      (subst (λ (event : Event). IsPhaseAfter watched phase event next) of.event is)));
                }

        not_used : guess_at setting.guesses (suc state.counters.events) ≡ None
            → used (guess_range program.model (asking.operation v)) (guess_at setting.guesses (suc state.counters.events)) ≡ None
        not_used without = ap (used (guess_range program.model (asking.operation v))) without ∙ used_none _

        -- a run that passes the child's event next
        module _ (one : Step) (rest : Act CodeState) (later : Log)
            (leaves : LeavesAfter (code_step code program budgets) setting (first_of setting log left) (one ∷ []) rest later)
            (same : one.event ≡ child.event) where
          abbrev Uses : Option ℤ → Type 0
          Uses given = used (guess_range program.model (asking.operation v)) (guess_at setting.guesses (suc state.counters.events)) ≡ given

          step_is : (given : Option ℤ) → Uses given → step_with program.model at (asking.operation v) given ≡ one
          step_is given uses =
              let (onward, asks) = (first (read_cell setting) v here.fits).1 in
              only_step code program budgets names state is at setting v left log goes here (asking.operation v) onward asks room given uses one rest later
              leaves

          own_label : (given : Option ℤ) → Uses given → shows program.model (asking.operation v) given ≡ piece.label
          own_label given uses = ap (λ (s : Step). s.event.label) (step_is given uses) ∙ ap (λ (event : Event). event.label) (same ∙ of.event)

          -- has reached the child, if its valuation is one of the piece
          at_child : (given : Option ℤ) → Uses given → Fits v piece.constraints
              → value_of v piece.answer ≡ result_with program.model (asking.operation v) given
              → IsAt code program budgets names after setting v rest later
          at_child given uses fits value =
              let to = passes_with given uses v (fits_after v fits) (λ symbol declared. refl)
              (answer_is v here.fits ∙ value) in
              let that = one_alone (code_step code program budgets) setting to.0.leaves leaves in
              subst (λ (act : Act CodeState). IsAt code program budgets names after setting v act later) that.1
              (subst (λ (l : Log). IsAt code program budgets names after setting v to.0.rest l) that.2 to.0.comes)

          -- an exact piece keeps all valuations under which its label is shown
          by_exact : Exact piece → guess_at setting.guesses (suc state.counters.events) ≡ None
              → IsAt code program budgets names after setting v rest later
          by_exact exact without =
              let some = exact.from is_piece.some.0 is_piece.some.1 in
              let label = own_label None (not_used without) in
              let fits = exact.back v here.fits (tells.alike is_piece.some.0 v some.1 (some.2 ∙ sym label)) label in
              at_child None (not_used without) fits (exact.answer v fits)

          -- and one with the guess of a test those under which the guess symbol is the truth with which it continues
          by_test : OfGuess piece → (given : Option ℤ) → Uses given → IsTruth piece.label
              → (truth : Bool) → result_with program.model (asking.operation v) given ≡ truth_number truth
              → v guess.0 ≡ result_with program.model (asking.operation v) given → IsAt code program budgets names after setting v rest later
          by_test inexact given uses shown truth number own_number =
              let other : Valuation = is_piece.some.0 in
              let some = inexact.from other is_piece.some.1 in
              let test = tells.test v other (other guess.0) some.2 (subst IsTruth (sym some.3) shown) in
              let result : ℤ = result_with program.model (asking.operation v) given in
              let label : shows program.model (asking.operation v) (Some result) ≡ piece.label
              = test.shown (Some result) ∙ sym (test.shown given) ∙ own_label given uses in
              let kept = inexact.back v result here.fits (λ followed. some.1 (test.followed followed))
              (subst (asking.IsGuess v) (sym number) (test.may truth)) label in
              let fits = subst (λ (u : Valuation). Fits u piece.constraints) (with_own guess.0 result v own_number) kept in
              at_child given uses fits (inexact.answer v fits ∙ own_number)

          comes_back : ListsNoneOrTruth setting child → GivesOwn setting child one.answer v → IsAt code program budgets names after setting v rest later
          comes_back lists gives = by piece.guessed refl is_piece.meaning lists
            where
              next : suc state.counters.events ≡ after.counters.events
              next = let n = number_is in omega (arith, n)

              guess_is : (guessed : Option Guessed) → piece.guessed ≡ guessed → child.guess ≡ option_map (λ what. guess) guessed
              guess_is guessed are = of.guessed ∙ ap (option_map (λ what. guess)) are

              by : (guessed : Option Guessed) → piece.guessed ≡ guessed → IsPieceWith program.model state.constraints guess.0 asking guessed piece
                  → ListsNoneOrTruth setting child → IsAt code program budgets names after setting v rest later
              by None none exact (inl without) = by_exact exact (ap (guess_at setting.guesses) next ∙ without)
              by None none exact (inr (some, shown, listed)) =
                  let wrong : false ≡ true = sym (ap is_some (guess_is None none)) ∙ some in
                  cc
              by (Some what) some inexact (inl without) =
                  let uses = not_used (ap (guess_at setting.guesses) next ∙ without) in
                  let other : Valuation = is_piece.some.0 in
                  let from = inexact.from other is_piece.some.1 in
                  let shown = tells.truth v other (other guess.0) from.2 (from.3 ∙ sym (own_label None uses)) in
                  let test = tells.test v other (other guess.0) from.2 shown in
                  by_test inexact None uses (subst IsTruth from.3 shown) test.own.0 test.own.1
                  (gives guess (guess_is (Some what) some) ∙ ap (λ o. unwrap_or o one.answer) without
                  ∙ ap (λ (s : Step). s.answer) (sym (step_is None uses)))
              by (Some what) some inexact (inr (there, shown, listed)) = elim listed [
                | inl zero_listed ↦ truth_listed false zero_listed
                | inr one_listed ↦ truth_listed true one_listed
              ]
                where
                  truth_listed : (truth : Bool) → guess_at setting.guesses after.counters.events ≡ Some (truth_number truth)
                      → IsAt code program budgets names after setting v rest later
                  truth_listed truth is_listed =
                      let label : IsTruth piece.label = subst IsTruth (ap (λ (event : Event). event.label) of.event) shown in
                      let other : Valuation = is_piece.some.0 in
                      let from = inexact.from other is_piece.some.1 in
                      let test = tells.test v other (other guess.0) from.2 (subst IsTruth (sym from.3) label) in
                      let uses = ap (used (guess_range program.model (asking.operation v))) (ap (guess_at setting.guesses) next ∙ is_listed)
                      ∙ (may v (truth_number truth) here.fits (test.may truth)).used_is in
                      by_test inexact (Some (truth_number truth)) uses label truth refl
                      (gives guess (guess_is (Some what) some) ∙ ap (λ o. unwrap_or o one.answer) is_listed)

      -- what the child notes about its guess
      noted_with : (what : Guessed) → piece.guessed ≡ Some what → IsNotedOf program.model state.constraints asking what
          → IsNotedAt code program budgets names state child (asked_for (state.counters.events + 1) guess what)
      noted_with what some of_asked = record {
        sets = state.constraints;
        inhabited = λ symbol set there. (is.possible.0 symbol, is.possible.1 symbol set there);
        given = of_asked.given;
        noted = of_asked.noted;
        within = λ v fits. fits;
        kept = fits_state;
        divides = λ v fits. subst IsAskedByIntegers (of_asked.operation v) (first no_cells v fits).0.1;
        comes = λ setting v left log goes here fits.
            let (onward, asks) = (first (read_cell setting) v fits).1 in
            record {
              one = step_with program.model at (asking.operation v) _;
              shows = comes_to_step code program budgets names state is at setting v left log goes here (asking.operation v) onward asks room _ refl;
              pends = λ i. Operates (ap (λ (event : Event). event.place) (sym of.event) i) (of_asked.operation v i);
            };
        inexact = λ v fits.
            let from = inexact.from v (fits_piece v fits) in
            (λ followed. from.1 (of_asked.followed v followed), of_asked.guesses v (v guess.0) from.2);
        own = λ setting v left rest log later one goes here leaves. here.fits;
      }
        where
          inexact : OfGuess piece
          inexact = subst (λ (given : Option Guessed). IsPieceWith program.model state.constraints guess.0 asking given piece) some is_piece.meaning

      child_notes : Notes piece → (symbol : Sym) (asked : Asked) → child.guess ≡ Some symbol
          → finite.get after.asked (after.counters.events, 0) ≡ Some asked → IsNotedAt code program budgets names state child asked
      child_notes notes symbol asked has found = by piece.guessed refl of.asked
        where
          by : (guessed : Option Guessed) → piece.guessed ≡ guessed → AreNotedAfter (state.counters.events + 1) guess guessed state.asked after.asked
              → IsNotedAt code program budgets names state child asked
          by None none same =
              let wrong : None ≡ Some symbol = sym (of.guessed ∙ ap (option_map (λ what. guess)) none) ∙ has in
              cc
          by (Some what) some same =
              let there = noted_there (state.counters.events + 1) guess what state.asked after.asked same in
              let both : Some asked ≡ Some (asked_for (state.counters.events + 1) guess what)
              = sym found ∙ ap (λ (n : ℕ). finite.get after.asked (n, 0)) number_is ∙ there in
              let is_noted : asked ≡ asked_for (state.counters.events + 1) guess what = cc in
              subst (IsNotedAt code program budgets names state child) (sym is_noted) (noted_with what some (notes what some))

      -- the piece has a child
      is_child : Notes piece → IsChildOf code program budgets names rules state child
      is_child notes = record {
        integer = child_integer;
        number = (let n = number_is in omega (arith, n));
        phase = of.phase;
        named = λ symbol has. by_guess symbol has piece.guessed refl is_piece.meaning;
        asked = subst (λ (n : ℕ). AreGuessesAfter n child.guess state.asked after.asked) (sym number_is) asked_after;
        notes = child_notes notes;
        blocks = ap (λ (s : State). s.blocks) of.state;
        fits = fits_state;
        passes = λ setting v left log goes here fits agrees. child_passes setting v left log goes here fits agrees;
        mentions = child_mentions;
        back = λ setting v left rest log later one goes here leaves same lists gives. comes_back setting v left log goes here one rest later leaves same lists
            gives;
      }
        where
          by_guess : (symbol : Sym) → child.guess ≡ Some symbol → (guessed : Option Guessed) → piece.guessed ≡ guessed
              → IsPieceWith program.model state.constraints guess.0 asking guessed piece
              → slice_get names.syms symbol.0 ≡ Some (GuessAt after.counters.events)
          by_guess symbol has None none exact =
              let wrong : None ≡ Some symbol = sym (of.guessed ∙ ap (option_map (λ what. guess)) none) ∙ has in
              cc
          by_guess symbol has (Some what) some inexact =
              let from = inexact.from is_piece.some.0 is_piece.some.1 in
              let is_used = may is_piece.some.0 (is_piece.some.0 guess.0) from.0 from.2 in
              let both : Some guess ≡ Some symbol = sym (of.guessed ∙ ap (option_map (λ what. guess)) some) ∙ has in
              let same : guess ≡ symbol = cc in
              ap (λ (s : Sym). slice_get names.syms s.0) (sym same) ∙ is_used.named ∙ ap (λ (n : ℕ). Some (GuessAt n)) (sym number_is)

    abbrev IsPiece : Piece → Type 0
    IsPiece piece = IsPieceOf program.model state.constraints guess.0 asking piece

    are_children : (pieces : List Piece) (made : List Child) → Each IsPiece pieces → Each Notes pieces
        → AreOfPieces rules state at guess pieces made → All (IsChildOf code program budgets names rules state) made
    are_children [] [] each notes match = All-nil (IsChildOf code program budgets names rules state)
    are_children [] (child ∷ made) each notes match = absurd match
    are_children (piece ∷ pieces) [] each notes match = absurd match
    are_children (piece ∷ pieces) (child ∷ made) each notes match =
        All-cons (IsChildOf code program budgets names rules state) child made (is_child piece child each.0 match.0 notes.0)
        (are_children pieces made each.1 notes.1 match.1)

    module _ (setting : Setting) (v : Valuation) (left : Act CodeState) (log : Log) (goes : GoesBy code program budgets names setting)
        (here : IsAt code program budgets names state setting v left log)
        (without : guess_at setting.guesses (suc state.counters.events) ≡ None) where
      comes_to_one : (pieces : List Piece) (made : List Child) → Each IsPiece pieces → AreOfPieces rules state at guess pieces made
          → IsCovered program.model guess.0 asking v pieces → ComesToChild code program budgets names made setting v left log
      comes_to_one [] made each match covered = absurd covered
      comes_to_one (piece ∷ pieces) [] each match covered = absurd match
      comes_to_one (piece ∷ pieces) (child ∷ made) each match (inl within) =
          covers_piece piece child each.0 match.0 setting v left log goes here (child ∷ made) 0 refl without within
      comes_to_one (piece ∷ pieces) (child ∷ made) each match (inr covered) =
          let later = comes_to_one pieces made each.1 match.1 covered in
          record {
            place = suc later.place;
            child = later.child;
            there = later.there;
            after = later.after;
            to = later.to;
            others = later.others;
            guess = later.guess;
            shown = later.shown;
            phases = later.phases;
          }

    label_is : (piece : Piece) (child : Child) → IsOfPiece rules state at guess piece child → child.event.label ≡ piece.label
    label_is piece child of = ap (λ (event : Event). event.label) of.event

    others_differ : (pieces : List Piece) (made : List Child) (label : Label) → AreOfPieces rules state at guess pieces made
        → Each (λ other. other.label ≢ label) pieces → (k : ℕ) (child : Child) → slice_get made k ≡ Some child → child.event.label ≢ label
    others_differ [] [] label match each k child there = cc
    others_differ [] (one ∷ made) label match each k child there = absurd match
    others_differ (piece ∷ pieces) [] label match each k child there = absurd match
    others_differ (piece ∷ pieces) (one ∷ made) label match each zero child there = λ same.
        let this : one ≡ child = cc in
        each.0 (sym (label_is piece one match.0) ∙ ap (λ (c : Child). c.event.label) this ∙ same)
    others_differ (piece ∷ pieces) (one ∷ made) label match each (suc k) child there = others_differ pieces made label match.1 each.1 k child there

    labels_differ : (pieces : List Piece) (made : List Child) → AreOfPieces rules state at guess pieces made → HaveOwnLabels pieces
        → (one other : ℕ) (first second : Child) → slice_get made one ≡ Some first → slice_get made other ≡ Some second
        → first.event.label ≡ second.event.label → one ≡ other
    labels_differ [] [] match apart one other first second here there same = cc
    labels_differ [] (child ∷ made) match apart one other first second here there same = absurd match
    labels_differ (piece ∷ pieces) [] match apart one other first second here there same = absurd match
    labels_differ (piece ∷ pieces) (child ∷ made) match apart zero zero first second here there same = refl
    labels_differ (piece ∷ pieces) (child ∷ made) match apart zero (suc other) first second here there same =
        let this : child ≡ first = cc in
        absurd (others_differ pieces made piece.label match.1 apart.0 other second there
        (sym same ∙ ap (λ (c : Child). c.event.label) (sym this) ∙ label_is piece child match.0))
    labels_differ (piece ∷ pieces) (child ∷ made) match apart (suc one) zero first second here there same =
        let this : child ≡ second = cc in
        absurd (others_differ pieces made piece.label match.1 apart.0 one first here
        (same ∙ ap (λ (c : Child). c.event.label) (sym this) ∙ label_is piece child match.0))
    labels_differ (piece ∷ pieces) (child ∷ made) match apart (suc one) (suc other) first second here there same =
        ap suc (labels_differ pieces made match.1 apart.1 one other first second here there same)

    -- the children of all pieces are the only successors of the state
    pub pieces_come : (pieces : List Piece) (made : List Child) → IsSplit program.model state.constraints guess.0 asking pieces
        → Each Notes pieces → AreOfPieces rules state at guess pieces made → Comes code program budgets names rules state made []
    pieces_come pieces made split notes match = record {
      children = are_children pieces made split.each notes match;
      endings = All-nil (IsEndOf code program budgets names state);
      covers = λ setting v left log goes here without. inl
          (comes_to_one setting v left log goes here without pieces made split.each match (split.covers v here.fits));
      labels_differ = labels_differ pieces made match split.labels;
    }

-- if the budget of events is used up, the end is the only successor of a state
module _ (code : Code) (program : TypedProgram) (budgets : RunBudgets) (names : Naming) (rules : List Rule) (box : Box State)
    (is : IsIntegerState code program budgets names box.value) (at : Place) (asking : Asking)
    (first : Shows code program budgets names rules box.value is at asking) (full : budgets.events ≤ box.value.counters.events) where
  ends_over : (setting : Setting) (v : Valuation) (left : Act CodeState) (log : Log) → GoesBy code program budgets names setting
      → IsAt code program budgets names box.value setting v left log
      → EndsIn code program budgets names (Over Events at) box.value setting v left log
  ends_over setting v left log goes here =
      let shown = (first (read_cell setting) v here.fits).1 in
      let end = asks_over code program budgets names box.value is at setting v left log goes here (asking.operation v) shown.0 shown.1 full in
      record {
        last = left;
        before = log;
        ended = Over Events at;
        after = end.0;
        proceeds = stays refl refl;
        comes = here;
        ends = end.1;
        same = refl;
        returned = tt;
      }

  pub over_comes : Comes code program budgets names rules box.value [] ((Over Events at, box) ∷ [])
  over_comes = one_end_comes code program budgets names rules box is (Over Events at) ends_over
