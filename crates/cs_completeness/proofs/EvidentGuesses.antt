-- The suspected guesses of an end of an exploration are evident: the corners of the valuation are those of the suspected guess.
use Rattle.std.proofs.Common.{◌≡◌, ◌≢◌, ◌⊎◌, inl, inr, ◌<◌, ℕ, ℤ, List, [], ◌∷◌, map, length, Option, None, Some, All}
use Rattle.std.proofs.Common.{slice_get}
use Rattle.std.proofs.Common.{refl, sym, ap, ◌∙◌, subst, arith}
use Rattle.std.specs.Prelude.{option_map, Contains}
use Rattle.std.specs.FinMap as finite
use Rattle.std.proofs.Math.ListN.{get_or-map}
use Rattle.std.proofs.lemmas.List.{length-map}
use Rattle.std.proofs.lemmas.List.Elements.{All-map, All-contains, All-weaker, All-contains_itself}
use Rattle.std.proofs.lemmas.Option.{same_Some, slice_get-map, slice_get_within, get_or_from_slice_get}
use Rattle.cs_inputs.specs.declared.path.Path.{Path}
use Rattle.cs_inputs.specs.Inputs.{number_at}
use Rattle.cs_ast.specs.TypedProgram.{TypedProgram}
use Rattle.cs_terms.specs.Table.{HasEachOnce}
use Rattle.cs_terms.specs.Term.{Valuation}
use Rattle.cs_events.specs.declared.guess.Guess.{Guess}
use Rattle.cs_events.specs.declared.operation.Operation.{Operation}
use Rattle.cs_events.specs.declared.outcome.RunBudgets.{RunBudgets}
use Rattle.cs_events.specs.PendingEvents.{Operates}
use Rattle.cs_meaning.specs.ProgramRuns.{ProgramRun}
use Rattle.cs_cfg.specs.Graph.{Code}
use Rattle.cs_state.specs.declared.asked.Asked.{Asked}
use Rattle.cs_state.specs.declared.state.State.{State}
use Rattle.cs_state.specs.Naming.{Naming}
use Rattle.cs_state.specs.Valuations.{input_of, guess_of, guesses_of}
use Rattle.cs_eval.specs.Questions.{operation_of}
use Rattle.cs_results.specs.declared.run.Others.{Others}
use Rattle.cs_results.specs.declared.run.Others.TheVariants.{One, Two}
use Rattle.cs_findings.specs.GoodFindings.{AllOthers}
use Rattle.cs_findings.specs.Grounds.{Pair}
use Rattle.cs_findings.specs.Operands.{operands, with_operands}
use Rattle.cs_findings.specs.RealGuesses.{Comes}
use Rattle.cs_findings.specs.Runs.{before, each_other}
use Rattle.cs_compared.specs.Wide.{IsSmall}
use Rattle.cs_suspect_types.specs.declared.suspect.Suspect.{Suspect}
use Rattle.cs_suspect_types.specs.declared.suspect.SuspectedGuess.{SuspectedGuess}
use Rattle.cs_suspects.specs.Suspected.{suspected}
use Rattle.cs_coverage.specs.IntegerEntries.{IsIntegerEntry}
use Rattle.cs_exactness.specs.Noted.{IsInEventOrder}
use Rattle.cs_completeness.proofs.GuessOrder.{comes_later}
use Rattle.cs_corners.specs.Corners.{EachIs, operands_under}
use Rattle.cs_guesses.specs.Cornered.{IsAtEnds, HasOtherCorner, HasReasonAt, IsCornered, ComesTo}
use Rattle.cs_guesses.specs.Real.{run_at, IsLoweredEntry}
use Rattle.cs_guesses.proofs.ProgramRuns.{same_inputs, from_mapped}
use Rattle.cs_witness.specs.Evidence.{Changes, AreCorners, is_input, changed, changed_guess, IsRunOf, IsChanged, HasReason, KeepsPair, ChangedCome}
use Rattle.cs_witness.specs.Evidence.{IsEvidentGuess}
use Rattle.cs_completeness.proofs.ChangedNumbers.{Move, after, changes_of, earlier, IsNamedGuess, inputs_after, number_after, guesses_after}
use Rattle.cs_completeness.proofs.CornerMoves.{HasOneRange, IsUnnamed, is_of, KeepsUnnamed, keeps_unnamed, HasMoves, corners_move, some_corners}
use Rattle.cs_completeness.proofs.SameOperands.{operands_alike, no_ground}
use Rattle.cs_completeness.proofs.SameParameters.{AreAlike, comes_alike}

-- an element of a list's image, by its index
pub from_place : {A B : Type 0} (f : A → B) (xs : List A) (place : ℕ) (y : B) → slice_get (map f xs) place ≡ Some y
    → (x : A) × (slice_get xs place ≡ Some x) × (y ≡ f x)
from_place {A = A} {B = B} f xs place y is = by (slice_get xs place) refl
  where
    by : (found : Option A) → slice_get xs place ≡ found → (x : A) × (slice_get xs place ≡ Some x) × (y ≡ f x)
    by None none =
        let nothing : ◌≡◌ {A = Option B} None (Some y) = ap (option_map f) (sym none) ∙ sym (slice_get-map f xs place) ∙ is in
        cc
    by (Some x) there =
        let same : Some (f x) ≡ Some y = ap (option_map f) (sym there) ∙ sym (slice_get-map f xs place) ∙ is in
        (x, there, sym (same_Some (f x) y same))

pub at_place : {A : Type 0} (xs : List A) (place : ℕ) (x : A) → slice_get xs place ≡ Some x → Contains xs x
at_place {A = A} xs place x is = (place, slice_get_within xs place x is, get_or_from_slice_get xs place x x is)

within_map : {A B : Type 0} (f : A → B) (xs : List A) (x : A) → Contains xs x → Contains (map f xs) (f x)
within_map f xs x (place, within, at) =
    (place, let same = length-map xs f in omega (arith, within, same), get_or-map f xs place x ∙ ap f at)

pub maps_once : {A B C : Type 0} (f : A → B) (g : B → C) (h : A → C) → ((x : A) → g (f x) ≡ h x) → (xs : List A) → map g (map f xs) ≡ map h xs
maps_once f g h same [] = refl
maps_once f g h same (x ∷ xs) =
    let rest = maps_once f g h same xs in
    λ i. same x i ∷ rest i

module _ (code : Code) (program : TypedProgram) (entry : ℕ) (budgets : RunBudgets) (names : Naming) (lowered : IsLoweredEntry code program entry)
    (works : IsIntegerEntry code program entry) (once : HasEachOnce names.syms) (state : State) (v : Valuation) (suspect : Suspect)
    (inputs : (path : Path) → number_at suspect.inputs path ≡ input_of names.syms v path)
    (guesses : suspect.guesses.items ≡ map (suspected names v) (finite.values state.asked)) where
  abbrev all : List Asked
  all = finite.values state.asked

  pub suspected_guesses : map (λ (guess : SuspectedGuess). guess.guess) suspect.guesses.items ≡ guesses_of v state.asked
  suspected_guesses =
      ap (map (λ (guess : SuspectedGuess). guess.guess)) guesses
      ∙ maps_once (suspected names v) (λ (guess : SuspectedGuess). guess.guess) (guess_of v) (λ asked. refl) all

  -- a run of the suspect is alike to the valuation's
  pub alike : (run : ProgramRun) → IsRunOf program entry suspect run → AreAlike code program entry budgets lowered works (run_at names state v) run
  alike run is = record {
    inputs = λ path parameter.
        ap (λ (given : Path → ℤ). given path) (same_inputs names.syms v) ∙ sym (inputs path) ∙ sym (is.inputs path parameter);
    guesses = sym (is.guesses ∙ suspected_guesses);
  }

  module _ (named : (asked : Asked) → Contains all asked → IsNamedGuess names.syms asked) where
    all_named : All (IsNamedGuess names.syms) all
    all_named = All-weaker (Contains all) (IsNamedGuess names.syms) named all (All-contains_itself all)

    -- and with changes it is alike to that of the valuation after the moves
    changed_alike : (moves : List (Move names.syms)) (event : ℕ) (run other : ProgramRun) → IsRunOf program entry suspect run
        → IsChanged program entry (changes_of names.syms moves) event run other
        → AreAlike code program entry budgets lowered works (before event (run_at names state (after names.syms moves v))) other
    changed_alike moves event run other is so = record {
      inputs = λ path parameter.
          ap (λ (given : Path → ℤ). given path) (same_inputs names.syms (after names.syms moves v))
          ∙ inputs_after names.syms once moves v path
          ∙ ap (changed (is_input path) (changes_of names.syms moves)) (sym (inputs path) ∙ sym (is.inputs path parameter))
          ∙ sym (so.inputs path parameter);
      guesses =
          guesses_after names.syms once moves v event all all_named
          ∙ sym (so.guesses
          ∙ ap (λ (list : List Guess). map (changed_guess (changes_of names.syms moves)) (earlier event list)) (is.guesses ∙ suspected_guesses));
    }

    -- one guess
    module _ (asked : Asked) (among : Contains all asked) (cornered : IsCornered program entry budgets names state asked v)
        (one_range : HasOneRange asked) where
      abbrev operation : Operation
      operation = operation_of v cornered.meant

      come_changed : (moves : List (Move names.syms)) (event : ℕ)
          → ComesTo program entry budgets names state event cornered.passed cornered.at cornered.meant (after names.syms moves v)
          → ChangedCome program entry budgets suspect (changes_of names.syms moves) event cornered.passed cornered.at operation
          (operands_under cornered.meant (after names.syms moves v))
      come_changed moves event comes run other is so =
          subst (λ (o : Operation). Comes program entry budgets other cornered.passed (Operates cornered.at o))
          (sym (cornered.same (after names.syms moves v)))
          (comes_alike code program entry budgets lowered works (before event (run_at names state (after names.syms moves v))) other
          (changed_alike moves event run other is so) cornered.passed (Operates cornered.at (operation_of (after names.syms moves v) cornered.meant)) comes)

      keeps : (w : Valuation) → KeepsPair operation (operands_under cornered.meant w)
      keeps w = ap operands (cornered.same w)

      module _ (changes : List Changes) (has : HasMoves names once asked v changes) where
        abbrev pair_of : List (Move names.syms) → Pair
        pair_of moves = operands_under cornered.meant (after names.syms moves v)

        abbrev pairs : List Pair
        pairs = map pair_of has.moves

        abbrev HasNone : Type 0
        HasNone = IsUnnamed names asked.left.sym × IsUnnamed names asked.right.sym

        -- the operands under each valuation with ends are among these pairs
        among_pairs : (w : Valuation) → IsAtEnds names asked v w → Contains pairs (operands_under cornered.meant w) ⊎ HasNone
        among_pairs w ends = elim (has.each w ends) [
          | inl (moves, there, left, right) ↦
              inl (subst (Contains pairs)
              (sym (operands_alike w (after names.syms moves v) asked.asks asked.left asked.right cornered.meant cornered.asks left right))
              (within_map pair_of has.moves moves there))
          | inr none ↦ inr none
        ]

        -- symbols without names keep their numbers; so if no operand has a named symbol, all operands are the same
        same_everywhere : HasNone → (w x : Valuation) → KeepsUnnamed names once asked v w → KeepsUnnamed names once asked v x
            → operands_under cornered.meant x ≡ operands_under cornered.meant w
        same_everywhere none w x kept also =
            operands_alike x w asked.asks asked.left asked.right cornered.meant cornered.asks
            (λ own is. also own (none.0 own is) ∙ sym (kept own (none.0 own is))) (λ own is. also own (none.1 own is) ∙ sym (kept own (none.1 own is)))

        none_differs : HasNone → (w : Valuation) → KeepsUnnamed names once asked v w
            → (others : Others Valuation) → EachIs (IsAtEnds names asked v) others
            → AllOthers (λ (pair : Pair). pair ≡ operands_under cornered.meant w) (each_other (operands_under cornered.meant) others)
        none_differs none w kept (One x) ends = same_everywhere none w x kept (keeps_unnamed names once asked v x ends)
        none_differs none w kept (Two x y) ends = (
          same_everywhere none w x kept (keeps_unnamed names once asked v x ends.0),
          same_everywhere none w y kept (keeps_unnamed names once asked v y ends.1),
        )

        module _ (w : Valuation) (kept : KeepsUnnamed names once asked v w) (reason : HasReasonAt program.model names asked cornered.meant v w) where
          has_some : ¬ HasNone
          has_some none =
              no_ground program.model (operation_of w cornered.meant) (each_other (operands_under cornered.meant) reason.others)
              (none_differs none w kept reason.others reason.at_ends) reason.has_reason

          there : (x : Valuation) → IsAtEnds names asked v x → Contains pairs (operands_under cornered.meant x)
          there x ends = elim (among_pairs x ends) [ inl is ↦ is | inr none ↦ absurd (has_some none) ]

          others_there : (others : Others Valuation) → EachIs (IsAtEnds names asked v) others
              → AllOthers (Contains pairs) (each_other (operands_under cornered.meant) others)
          others_there (One x) ends = there x ends
          others_there (Two x y) ends = (there x ends.0, there y ends.1)

          differs : (operand : Pair → ℤ) → HasOtherCorner names asked cornered.meant v w operand
              → (pair : Pair) × Contains pairs pair × (operand pair ≢ operand (operands_under cornered.meant w))
          differs operand other = (operands_under cornered.meant other.0, there other.0 other.1, other.2)

          has_reason : HasReason program (operation_of w cornered.meant) (w asked.guess.0) pairs
          has_reason = record {
            others = each_other (operands_under cornered.meant) reason.others;
            among = others_there reason.others reason.at_ends;
            computable = reason.computable;
            small = reason.small;
            corners_small = All-map IsSmall pair_of has.moves
                (All-weaker (λ (moves : List (Move names.syms)). IsAtEnds names asked v (after names.syms moves v))
                (λ (moves : List (Move names.syms)). IsSmall (pair_of moves)) (λ moves ends. (cornered.corners (after names.syms moves v) ends).1) has.moves
                has.at_ends);
            has_reason = reason.has_reason;
            used = reason.used;
            left = elim reason.left [ inl fits ↦ inl fits | inr other ↦ inr (differs (λ (pair : Pair). pair.0) other) ];
            right = elim reason.right [ inl fits ↦ inl fits | inr other ↦ inr (differs (λ (pair : Pair). pair.1) other) ];
          }

    -- all guesses
    module _ (cornered : (asked : Asked) → Contains all asked → IsCornered program entry budgets names state asked v)
        (one_range : (asked : Asked) → Contains all asked → HasOneRange asked) (in_order : IsInEventOrder state) where
      -- each list of a guess's corners has moves
      have_moves : (asked : Asked) → Contains all asked → (changes : List Changes)
          → AreCorners (suspected names v asked).left (suspected names v asked).right changes → HasMoves names once asked v changes
      have_moves asked among changes are =
          corners_move names once asked v (suspected names v asked).left (suspected names v asked).right
          (is_of names asked.left.sym asked.ends.left) (is_of names asked.right.sym asked.ends.right) (one_range asked among)
          changes are

      module _ (number : ℕ) (asked : Asked) (is : slice_get all number ≡ Some asked) where
        among : Contains all asked
        among = at_place all number asked is

        abbrev own : IsCornered program entry budgets names state asked v
        own = cornered asked among

        abbrev guess : SuspectedGuess
        guess = suspected names v asked

        corners : (changes : List Changes) × AreCorners guess.left guess.right changes
        corners =
            some_corners names once asked v guess.left guess.right (is_of names asked.left.sym asked.ends.left)
            (is_of names asked.right.sym asked.ends.right)

        has : HasMoves names once asked v corners.0
        has = have_moves asked among corners.0 corners.1

        abbrev its_pairs : List Pair
        its_pairs = pairs asked among own (one_range asked among) corners.0 has

        at_ends : (moves : List (Move names.syms)) → Contains has.moves moves → IsAtEnds names asked v (after names.syms moves v)
        at_ends moves there =
            All-contains (λ (one : List (Move names.syms)). IsAtEnds names asked v (after names.syms one v)) has.moves moves has.at_ends there

        abbrev ComesWith : Changes → Pair → Type 0
        ComesWith changes pair =
            KeepsPair (operation asked among own (one_range asked among)) pair
            × ChangedCome program entry budgets suspect changes asked.event own.passed own.at (operation asked among own (one_range asked among)) pair

        come : (corner : ℕ) (changes : Changes) (pair : Pair) → slice_get corners.0 corner ≡ Some changes → slice_get its_pairs corner ≡ Some pair
            → ComesWith changes pair
        come corner changes pair there here =
            let one = from_place (changes_of names.syms) has.moves corner changes
            (subst (λ (list : List Changes). slice_get list corner ≡ Some changes) has.are there) in
            let other = from_place (pair_of asked among own (one_range asked among) corners.0 has) has.moves corner pair here in
            let same : one.0 ≡ other.0 = same_Some one.0 other.0 (sym one.1 ∙ other.1) in
            let w : Valuation = after names.syms one.0 v in
            let ends = at_ends one.0 (at_place has.moves corner one.0 one.1) in
            let is_pair : operands_under own.meant w ≡ pair
            = ap (λ (moves : List (Move names.syms)). operands_under own.meant (after names.syms moves v)) same ∙ sym other.2 in
            subst (λ (c : Changes). ComesWith c pair) (sym one.2)
            (subst (ComesWith (changes_of names.syms one.0)) is_pair
            (keeps asked among own (one_range asked among) w, come_changed asked among own (one_range asked among) one.0 asked.event (own.corners w ends).0))

        -- the corners of later guesses
        abbrev ComesLater : Changes → SuspectedGuess → Type 0
        ComesLater changes other =
            (pair : Pair) × KeepsPair (operation asked among own (one_range asked among)) pair
            × ChangedCome program entry budgets suspect changes other.guess.event own.passed own.at (operation asked among own (one_range asked among)) pair
            × HasReason program (with_operands (operation asked among own (one_range asked among)) pair) (changed_guess changes guess.guess).number its_pairs

        come_later : (later : ℕ) (other : Asked) → number < later → slice_get all later ≡ Some other → (moves : List (Move names.syms))
            → IsAtEnds names other v (after names.syms moves v) → ComesLater (changes_of names.syms moves) (suspected names v other)
        come_later later other before there moves ends =
            let w : Valuation = after names.syms moves v in
            let got = own.later other w (at_place all later other there) (comes_later state in_order number later asked other before is there) ends in
            let reason = has_reason asked among own (one_range asked among) corners.0 has w (keeps_unnamed names once other v w ends) got.1 in (
              operands_under own.meant w,
              keeps asked among own (one_range asked among) w,
              come_changed asked among own (one_range asked among) moves other.event got.0,
              subst (λ (o : Operation). HasReason program o (changed_guess (changes_of names.syms moves) guess.guess).number its_pairs) (sym (own.same w))
                  (subst (λ (n : ℤ). HasReason program (operation_of w own.meant) n its_pairs)
                  (number_after names.syms once moves v asked.guess.0 asked.event (named asked among)) reason),
            )

        corners_come_later : (later : ℕ) (other : SuspectedGuess) (its : List Changes) (changes : Changes) → number < later
            → slice_get suspect.guesses.items later ≡ Some other → AreCorners other.left other.right its → Contains its changes
            → ComesLater changes other
        corners_come_later later other its changes before there are within =
            let found = from_place (suspected names v) all later other
            (subst (λ (list : List SuspectedGuess). slice_get list later ≡ Some other) guesses there) in
            let moved = have_moves found.0 (at_place all later found.0 found.1) its
            (subst (λ (g : SuspectedGuess). AreCorners g.left g.right its) found.2 are) in
            let one = from_mapped (changes_of names.syms) moved.moves changes (subst (λ (list : List Changes). Contains list changes) moved.are within) in
            let ends = All-contains (λ (moves : List (Move names.syms)). IsAtEnds names found.0 v (after names.syms moves v)) moved.moves one.0
            moved.at_ends one.1 in
            subst (λ (c : Changes). ComesLater c other) one.2
            (subst (ComesLater (changes_of names.syms one.0)) (sym found.2) (come_later later found.0 before found.1 one.0 ends))

        pub guess_evident : IsEvidentGuess program entry budgets suspect number guess
        guess_evident = record {
          before = own.passed;
          event = own.number;
          at = own.at;
          operation = operation asked among own (one_range asked among);
          comes = λ run of.
              comes_alike code program entry budgets lowered works (run_at names state v) run (alike run of) own.passed
              (Operates own.at (operation asked among own (one_range asked among))) own.comes;
          corners = corners.0;
          are_corners = corners.1;
          pairs = its_pairs;
          as_many =
              length-map has.moves (pair_of asked among own (one_range asked among) corners.0 has)
              ∙ sym (ap length has.are ∙ length-map has.moves (changes_of names.syms));
          corners_come = come;
          reason = has_reason asked among own (one_range asked among) corners.0 has v (λ symbol unnamed. refl) own.reason;
          later = corners_come_later;
        }
