-- The pool of an evident suspect has a proof for each guess of each of its runs. For the contract of `grounds_of`.
use Rattle.std.proofs.Common.{◌≡◌, ◌≢◌, ◌⊎◌, inl, inr, ℕ, zero, suc, ◌<◌, ◌≤◌, nat_lt, ℤ, List, [], ◌∷◌, map, take, length, Option, Some, None, slice_get}
use Rattle.std.proofs.Common.{Bool, IsTrue, refl, sym, ap, ◌∙◌, subst, arith}
use Rattle.std.specs.Prelude.{All, Contains, filter, option_map}
use Rattle.std.specs.Map.{keys_of}
use Rattle.std.proofs.lemmas.List.{length-map, length-take, take_all}
use Rattle.std.proofs.lemmas.List.Elements.{All-contains}
use Rattle.std.proofs.lemmas.Option.{slice_get-map, slice_get-get_or, slice_get_within}
use Rattle.cs_ast.specs.TypedProgram.{TypedProgram, typed_program}
use Rattle.cs_events.specs.declared.guess.Guess.{Guess}
use Rattle.cs_events.specs.declared.operation.Operation.{Operation}
use Rattle.cs_events.specs.declared.operation.Operation.TheVariants.{Binary, Unary, Convert, Compare, Order, Product, Sum, Difference, Show}
use Rattle.cs_meaning.specs.ProgramRuns.{ProgramRun}
use Rattle.cs_results.specs.declared.run.Others.{Others}
use Rattle.cs_results.specs.declared.run.Others.TheVariants.{One, Two}
use Rattle.cs_events.specs.PendingEvents as pending
use Rattle.cs_meaning.specs.Steps.{step}
use Rattle.cs_meaning.specs.ProgramRuns.{setting_of}
use Rattle.cs_findings.specs.RealGuesses.{Comes}
use Rattle.cs_findings.proofs.Passing.{pends_in_budget}
use Rattle.cs_judge.specs.Agreement.{AreBefore, AreAtEvents}
use Rattle.cs_findings.specs.Runs.{run_of, run_budgets, AllRelated}
use Rattle.cs_findings.specs.GoodFindings.{AllOthers}
use Rattle.cs_findings.specs.Grounds.{Pair}
use Rattle.cs_findings.specs.Narrower.{fits_left, fits_right}
use Rattle.cs_findings.specs.Operands.{operands, with_operands}
use Rattle.cs_compared.specs.Wide.{IsSmall, AreSmall}
use Rattle.cs_judge.specs.declared.pool.Partners.{Partners}
use Rattle.cs_judge.specs.declared.pool.Replay.{Replay}
use Rattle.cs_judge.specs.declared.pool.Kept.TheVariants.{Operates}
use Rattle.cs_judge.specs.Proving.{IsPartner, HasOther, HasProof, bare as judged}
use Rattle.cs_suspect_types.specs.declared.suspect.Suspect.{Suspect}
use Rattle.cs_suspect_types.specs.declared.suspect.SuspectedGuess.{SuspectedGuess}
use Rattle.cs_witness.specs.declared.entry.Entry.{Entry}
use Rattle.cs_witness.specs.Corners.{IsCorner}
use Rattle.cs_witness.specs.Evidence.{Changes, AreCorners, changed_guess, IsChanged, HasReason, KeepsPair, IsEvidentGuess}
use Rattle.cs_witness.specs.Pooling.{IsShownReplay, IsCornerReplay, IsSomeCorner, HasCornersOf, HaveProofs, IsEvidentRun}
use Rattle.cs_witness.proofs.GuessLists.{at_image, agree_first, are_before, before_all, filter_first, at_events, later_event}
use Rattle.cs_witness.proofs.Namings.{there_is}
use Rattle.cs_witness.proofs.Standings.{StandsAt, stands}

-- an item that a list contains is at some index, and conversely
pub contained_at : {A : Type 0} (xs : List A) (x : A) → Contains xs x → (n : ℕ) × (slice_get xs n ≡ Some x)
contained_at xs x (n, below, is) = (n, slice_get-get_or xs n x below ∙ ap Some is)

pub at_contained : {A : Type 0} (xs : List A) (n : ℕ) (x : A) → slice_get xs n ≡ Some x → Contains xs x
at_contained [] n x there = let no : ⊥ = cc in absurd no
at_contained (y ∷ xs) zero x there = let same : y ≡ x = cc in (0, omega arith, same)
at_contained (y ∷ xs) (suc n) x there =
    let it = at_contained xs n x there in
    (suc it.0, let below = it.1 in omega arith, it.2)

-- replacing operands twice is replacing them by the last ones; replacing them by an operation's own changes nothing
with_again : (operation : Operation) (one other : Pair) → with_operands (with_operands operation one) other ≡ with_operands operation other
with_again (Binary operator ty left right) one other = refl
with_again (Unary operator ty operand) one other = refl
with_again (Convert ty number) one other = refl
with_again (Compare operator left right) one other = refl
with_again (Order first second) one other = refl
with_again (Product count size) one other = refl
with_again (Sum offset amount size) one other = refl
with_again (Difference left right size) one other = refl
with_again (Show what) one other = refl

with_own : (operation : Operation) → with_operands operation (operands operation) ≡ operation
with_own (Binary operator ty left right) = refl
with_own (Unary operator ty operand) = refl
with_own (Convert ty number) = refl
with_own (Compare operator left right) = refl
with_own (Order first second) = refl
with_own (Product count size) = refl
with_own (Sum offset amount size) = refl
with_own (Difference left right size) = refl
with_own (Show what) = refl

-- no changes
same_guesses : (guesses : List Guess) → guesses ≡ map (changed_guess []) guesses
same_guesses [] = refl
same_guesses (guess ∷ guesses) = ap (λ (l : List Guess). guess ∷ l) (same_guesses guesses)

small_others : (corners : List Pair) (others : Others Pair) → All IsSmall corners → AllOthers (Contains corners) others → AreSmall others
small_others corners (One first) all among = All-contains IsSmall corners first all among
small_others corners (Two first second) all among =
    (All-contains IsSmall corners first all among.0, All-contains IsSmall corners second all among.1)

module _ (entry : Entry) (suspect : Suspect) (pool : List Replay) where
  abbrev program : TypedProgram
  program = typed_program entry.program.now

  abbrev guesses : List Guess
  guesses = map (λ (guess : SuspectedGuess). guess.guess) suspect.guesses.items

  -- what a replay shows of a guess of the suspect, for which it has another number
  record Sees (number : ℕ) (guess : SuspectedGuess) (is : IsEvidentGuess program entry.function (run_budgets entry.budgets) suspect number guess)
      (changes : Changes) (mine : Replay) : Type 0 where
    pair : Pair
    keeps : KeepsPair is.operation pair
    stands_there : StandsAt mine is.before is.at (with_operands is.operation pair)
    reason : HasReason program (with_operands is.operation pair) (changed_guess changes guess.guess).number is.pairs

  -- a replay has the first guesses of the suspect, with some changes, and shows them
  record IsSeen (mine : Replay) : Type 0 where
    count : ℕ
    changes : Changes
    within : count ≤ length guesses
    lists : mine.run.guesses.items ≡ map (changed_guess changes) (take count guesses)
    sees : (number : ℕ) (guess : SuspectedGuess) → number < count → slice_get suspect.guesses.items number ≡ Some guess
        → (is : IsEvidentGuess program entry.function (run_budgets entry.budgets) suspect number guess) → Sees number guess is changes mine

  -- a replay of a corner of a guess
  record IsAtCorner (number : ℕ) (guess : SuspectedGuess) (is : IsEvidentGuess program entry.function (run_budgets entry.budgets) suspect number guess)
      (pair : Pair) : Type 0 where
    place : ℕ
    other : Replay
    there : slice_get pool place ≡ Some other
    changes : Changes
    lists : other.run.guesses.items ≡ map (changed_guess changes) (take number guesses)
    keeps : KeepsPair is.operation pair
    stands_there : StandsAt other is.before is.at (with_operands is.operation pair)

  module _ (mine : Replay) (seen : IsSeen mine) (number : ℕ) (guess : SuspectedGuess) (early : number < seen.count)
      (there : slice_get suspect.guesses.items number ≡ Some guess)
      (is : IsEvidentGuess program entry.function (run_budgets entry.budgets) suspect number guess)
      (sees : Sees number guess is seen.changes mine)
      (corners : (pair : Pair) → Contains is.pairs pair → IsAtCorner number guess is pair)
      (ascend : (index : ℕ) (g : Guess) → slice_get guesses index ≡ Some g → (changes : Changes) (count : ℕ)
      → AreBefore index g.event (map (changed_guess changes) (take count guesses))) where
    abbrev operation : Operation
    operation = with_operands is.operation sees.pair

    abbrev passed : ℕ
    passed = length is.before

    listed_there : slice_get guesses number ≡ Some guess.guess
    listed_there = slice_get-map (λ (g : SuspectedGuess). g.guess) suspect.guesses.items number ∙ ap (option_map (λ (g : SuspectedGuess). g.guess)) there

    mine_guess : slice_get mine.run.guesses.items number ≡ Some (changed_guess seen.changes guess.guess)
    mine_guess =
        ap (λ l. slice_get l number) seen.lists
        ∙ at_image (changed_guess seen.changes) seen.count guesses number guess.guess early listed_there

    partner : (pair : Pair) → (it : IsAtCorner number guess is pair)
        → IsPartner (map judged pool) (judged mine) number passed is.at operation it.place pair
    partner pair it =
        let again = with_again is.operation sees.pair pair in
        record {
          other = judged it.other;
          there = slice_get-map judged pool it.place ∙ ap (option_map judged) it.there;
          listed = subst (λ l. AreAtEvents number l it.other.run.guesses.items) (sym seen.lists)
              (subst (AreAtEvents number (map (changed_guess seen.changes) (take seen.count guesses))) (sym it.lists)
              (at_events seen.changes it.changes seen.count number guesses (omega arith) seen.within));
          enough = it.stands_there.enough;
          agree = agree_first passed mine.events.items it.other.events.items (sees.stands_there.first ∙ sym it.stands_there.first);
          kept = it.stands_there.kept ∙ ap (λ o. Some (Operates is.at o)) (sym again);
          same = ap operands again ∙ it.keeps;
        }

    abbrev Partner : ℕ → Pair → Type 0
    Partner = IsPartner (map judged pool) (judged mine) number passed is.at operation

    partners_of : (others : Others Pair) → AllOthers (Contains is.pairs) others → (numbers : Others ℕ) × AllRelated Partner numbers others
    partners_of (One first) among = let it = corners first among in (One it.place, partner first it)
    partners_of (Two first second) among =
        let it = corners first among.0 in
        let next = corners second among.1 in
        (Two it.place next.place, (partner first it, partner second next))

    abbrev Fits : (Operation → ℤ → Bool) → Type 0
    Fits fits = IsTrue (fits operation (changed_guess seen.changes guess.guess).number)

    side : (fits : Operation → ℤ → Bool) (operand : Pair → ℤ)
        → (Fits fits ⊎ ((pair : Pair) × Contains is.pairs pair × (operand pair ≢ operand (operands operation))))
        → (named : Option ℕ) × (Fits fits ⊎ HasOther (map judged pool) (judged mine) number passed is.at operation operand named)
    side fits operand (inl fit) = (None, inl fit)
    side fits operand (inr (pair, among, differs)) =
        let it = corners pair among in
        (Some it.place, inr (record { number = it.place; is = refl; both = pair; partner = partner pair it; differs = differs }))

    proved : HasProof (map judged pool) (judged mine) number program.model
    proved =
        let reason = sees.reason in
        let others = partners_of reason.others reason.among in
        let left = side fits_left (λ pair. pair.0) reason.left in
        let right = side fits_right (λ pair. pair.1) reason.right in
        let partners : Partners = record { others = others.0; left = left.0; right = right.0 } in (
          partners,
          record {
            guess = changed_guess seen.changes guess.guess;
            passed = passed;
            at = is.at;
            operation = operation;
            guessed = record {
              listed = mine_guess;
              number = is.event;
              before = subst (AreBefore number guess.guess.event) (sym seen.lists)
                  (ascend number guess.guess listed_there seen.changes seen.count);
              enough = sees.stands_there.enough;
              kept = sees.stands_there.kept;
            };
            pairs = reason.others;
            are = others.1;
            computable = reason.computable;
            small = reason.small;
            others_small = small_others is.pairs reason.others reason.corners_small reason.among;
            has_reason = reason.has_reason;
            used = reason.used;
            left = left.1;
            right = right.1;
          },
        )

-- the pool of a run of an evident suspect
module _ (entry : Entry) (items : List SuspectedGuess) (run : ProgramRun) (is : IsEvidentRun entry items run) (shown : Replay)
    (first : IsShownReplay entry run shown) (more : List Replay) (each : All (HasCornersOf entry run (shown ∷ more)) items)
    (only : All (IsSomeCorner entry run items) more) where
  abbrev suspect : Suspect
  suspect = is.suspect

  abbrev the_program : TypedProgram
  the_program = typed_program entry.program.now

  abbrev the_guesses : List Guess
  the_guesses = map (λ (guess : SuspectedGuess). guess.guess) suspect.guesses.items

  abbrev pool : List Replay
  pool = shown ∷ more

  abbrev Evident : ℕ → SuspectedGuess → Type 0
  Evident number guess = IsEvidentGuess the_program entry.function (run_budgets entry.budgets) suspect number guess

  listed : (number : ℕ) (guess : SuspectedGuess) → slice_get suspect.guesses.items number ≡ Some guess → slice_get the_guesses number ≡ Some guess.guess
  listed number guess there =
      slice_get-map (λ (g : SuspectedGuess). g.guess) suspect.guesses.items number ∙ ap (option_map (λ (g : SuspectedGuess). g.guess)) there

  -- a corner of a guess, as a run that is changed
  is_changed : (changes : Changes) (event : ℕ) (other : ProgramRun) → IsCorner changes event run other
      → IsChanged the_program entry.function changes event run other
  is_changed changes event other corner =
      record { inputs = λ path parameter. corner.numbers path (is.parameters path parameter); guesses = corner.guesses }

  corner_guesses : (number : ℕ) (guess : SuspectedGuess) (changes : Changes) (other : Replay) → slice_get suspect.guesses.items number ≡ Some guess
      → IsCornerReplay entry run guess.guess.event changes other → other.run.guesses.items ≡ map (changed_guess changes) (take number the_guesses)
  corner_guesses number guess changes other there corner =
      corner.corner.guesses
      ∙ ap (λ (l : List Guess). map (changed_guess changes) (filter (λ (g : Guess). nat_lt g.event guess.guess.event) l)) is.is.guesses
      ∙ ap (map (changed_guess changes))
      (filter_first number guess.guess.event the_guesses (before_all the_guesses is.evident.ascending number guess.guess (listed number guess there)))

  -- the corner of a guess at a pair of operands
  at_corner : (number : ℕ) (guess : SuspectedGuess) → slice_get suspect.guesses.items number ≡ Some guess → (it : Evident number guess) (pair : Pair)
      → Contains it.pairs pair → IsAtCorner entry suspect pool number guess it pair
  at_corner number guess there it pair among =
      let spot = contained_at it.pairs pair among in
      let below = slice_get_within it.pairs spot.0 pair spot.1 in
      let many = it.as_many in
      let changes = there_is it.corners spot.0 (omega arith) in
      let known = it.corners_come spot.0 changes.0 pair changes.1 spot.1 in
      let guess_among : Contains items guess = subst (λ l. Contains l guess) is.same (at_contained suspect.guesses.items number guess there) in
      let has = All-contains (HasCornersOf entry run pool) items guess each guess_among it.corners changes.0 it.are_corners
      (at_contained it.corners spot.0 changes.0 changes.1) in
      let replay = has.0 in
      let place = contained_at pool replay has.1 in
      let comes = known.1 run (run_of replay.run) is.is (is_changed changes.0 guess.guess.event (run_of replay.run) has.2.corner) in
      record {
        place = place.0;
        other = replay;
        there = place.1;
        changes = changes.0;
        lists = corner_guesses number guess changes.0 replay there has.2;
        keeps = known.0;
        stands_there = stands entry guess.guess.event replay it.before it.at (with_operands it.operation pair) has.2.replayed comes
            (let e = it.event in omega arith);
      }

  -- the run shown shows all guesses
  shown_seen : IsSeen entry suspect pool shown
  shown_seen = record {
    count = length the_guesses;
    changes = [];
    within = omega arith;
    lists = ap (λ (r : ProgramRun). r.guesses) first.same ∙ is.is.guesses ∙ same_guesses the_guesses
        ∙ ap (map (changed_guess [])) (sym (take_all (length the_guesses) the_guesses (omega arith)));
    sees = λ number guess early there it.
        let own = with_own it.operation in
        let comes = it.comes run is.is in
        let early = pends_in_budget (step the_program (run_budgets entry.budgets)) (setting_of the_program run (run_budgets entry.budgets)) comes.pends in
        let standing = stands entry entry.budgets.events shown it.before it.at it.operation first.replayed
        (subst (λ (r : ProgramRun). Comes the_program entry.function (run_budgets entry.budgets) r it.before (pending.Operates it.at it.operation))
        (sym first.same) comes) early in
        record {
          pair = operands it.operation;
          keeps = ap operands own;
          stands_there = subst (StandsAt shown it.before it.at) (sym own) standing;
          reason = subst (λ o. HasReason the_program o guess.guess.number it.pairs) (sym own) it.reason;
        };
  }

  -- the corner of a guess shows the guesses before it
  corner_seen : (later : ℕ) (other : SuspectedGuess) (all : List Changes) (changes : Changes) (replay : Replay)
      → slice_get suspect.guesses.items later ≡ Some other → AreCorners other.left other.right all → Contains all changes
      → IsCornerReplay entry run other.guess.event changes replay → IsSeen entry suspect pool replay
  corner_seen later other all changes replay there are one corner = record {
    count = later;
    changes = changes;
    within = let n = slice_get_within the_guesses later other.guess (listed later other there) in omega arith;
    lists = corner_guesses later other changes replay there corner;
    sees = λ number guess early there' it.
        let known = it.later later other all changes early there are one in
        let comes = known.2 run (run_of replay.run) is.is (is_changed changes other.guess.event (run_of replay.run) corner.corner) in
        let after = later_event the_guesses is.evident.ascending number later guess.guess other.guess (listed number guess there')
        (listed later other there) early in
        record {
          pair = known.0;
          keeps = known.1;
          stands_there = stands entry other.guess.event replay it.before it.at (with_operands it.operation known.0) corner.replayed comes
              (let e = it.event in omega arith);
          reason = known.3;
        };
  }

  seen : (number : ℕ) (mine : Replay) → slice_get pool number ≡ Some mine → IsSeen entry suspect pool mine
  seen zero mine there = let same : shown ≡ mine = cc in subst (IsSeen entry suspect pool) same shown_seen
  seen (suc number) mine there =
      let some = All-contains (IsSomeCorner entry run items) more mine only (at_contained more number mine there) in
      let among = contained_at suspect.guesses.items some.guess (subst (λ l. Contains l some.guess) (sym is.same) some.among) in
      corner_seen among.0 some.guess some.all some.changes mine among.1 some.are some.one some.is

  pub have_proofs : HaveProofs entry.program.now.model pool
  have_proofs number mine place there within =
      let it = seen number mine there in
      let a : length mine.run.guesses.items ≡ length (map (changed_guess it.changes) (take it.count the_guesses)) = ap length it.lists in
      let b = length-map (take it.count the_guesses) (changed_guess it.changes) in
      let c = length-take it.count the_guesses in
      let d = length-map suspect.guesses.items (λ (guess : SuspectedGuess). guess.guess) in
      let fits = it.within in
      let early : place < it.count = omega arith in
      let guess = there_is suspect.guesses.items place (omega arith) in
      let evident = is.evident.guesses place guess.0 guess.1 in
      proved entry suspect pool mine it place guess.0 early guess.1 evident (it.sees place guess.0 early guess.1 evident)
      (at_corner place guess.0 guess.1 evident)
      (λ index g at changes count. are_before the_guesses is.evident.ascending changes count index g at)

  -- the runs of the pool list the same paths
  pub list_alike : (number : ℕ) (mine : Replay) → slice_get pool number ≡ Some mine → keys_of mine.run.inputs ≡ keys_of run.inputs
  list_alike zero mine there =
      let same : shown ≡ mine = cc in
      subst (λ (r : Replay). keys_of r.run.inputs ≡ keys_of run.inputs) same (ap (λ (r : ProgramRun). keys_of r.inputs) first.same)
  list_alike (suc number) mine there =
      (All-contains (IsSomeCorner entry run items) more mine only (at_contained more number mine there)).is.corner.paths
