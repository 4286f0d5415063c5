-- Each state has exactly the guesses of the events that lead to its row, in order, and the phase that the rules determine for these: for `EachNotesEvents`.
use Rattle.std.proofs.Common.{◌≡◌, ◌⊎◌, ◌<◌, inl, inr, ℕ, suc, Bool, true, false, cond, List, [], ◌∷◌, ◌++◌, length, map, None}
use Rattle.std.proofs.Common.{Some, slice_get, refl}
use Rattle.std.proofs.Common.{Option, sym, ap, ◌∙◌, subst, arith}
use Rattle.std.specs.Prelude.{Contains}
use Rattle.std.specs.FinMap as finite
use Rattle.std.specs.FinMap.{find, put, entries-insert}
use Rattle.std.specs.FinMap.Entries.{by_order}
use Rattle.std.specs.Cmp.{nat_cmp_is}
use Rattle.std.specs.Ordering.{eq_by_cmp, nat_cmp, ordering_then}
use Rattle.std.specs.declared.cmp.Ordering.{Ordering}
use Rattle.std.specs.declared.cmp.Ordering.TheVariants.{Greater}
use Rattle.std.proofs.lemmas.List.{length-append, map-append}
use Rattle.std.proofs.lemmas.List.Elements.{Contains-push, Contains-push_cases, Contains-append_left}
use Rattle.std.proofs.lemmas.Option.{same_Some}
use Rattle.cs_pmap.specs.Keys.{key_cmp, EntryList}
use Rattle.cs_pmap.proofs.AtBranch.{key_cmp_total}
use Rattle.cs_store.proofs.Keys.{same_key}
use Rattle.cs_ast.specs.TypedProgram.{TypedProgram}
use Rattle.cs_terms.specs.declared.symbol.Sym.{Sym}
use Rattle.cs_events.specs.declared.event.Event.{Event}
use Rattle.cs_events.specs.declared.outcome.RunBudgets.{RunBudgets}
use Rattle.cs_cfg.specs.Graph.{Code}
use Rattle.cs_state.specs.declared.asked.Asked.{Asked}
use Rattle.cs_state.specs.declared.state.State.{State}
use Rattle.cs_state.specs.Naming.{Naming}
use Rattle.cs_state.specs.Valuations.{Guessed as Guesses}
use Rattle.cs_explored.specs.declared.explored.End.{End}
use Rattle.cs_explored.specs.declared.explored.Row.{Row}
use Rattle.cs_explored.specs.declared.watch.Rule.{Rule}
use Rattle.cs_successors.specs.Coming.{AreGuessesAfter, IsEndOf}
use Rattle.cs_coverage.proofs.Coverage.{element}
use Rattle.cs_coverage.proofs.LiveMeaning.{none_there}
use Rattle.cs_exactness.specs.Chains.{IsChain, first, further, IsGuessedAlong, here as guessed_here, before as guessed_before}
use Rattle.cs_coverage.specs.Phases.{IsPhaseAlong, begins, follows}
use Rattle.cs_exactness.specs.Noted.{HasGuess, NotesEvents, EachNotesEvents}
use Rattle.cs_exactness.specs.Sources.{HasSource, IsOfParent, AreSourced}
use Rattle.cs_exactness.proofs.Guesses.{AreNumbered}
use Rattle.cs_exactness.proofs.Walking.{child_is, first_is, next_is, integer_row, numbered}

-- no number is below 0, nothing is in an empty list, and None isn't a symbol
none_below : (number : ℕ) → number < 0 → ⊥
none_below number below = omega (arith, below)

nobody : (asked : Asked) → Contains [] asked → ⊥
nobody asked (k, within, at) = omega (arith, within)

no_mark : (mark : Sym) (row : Row) → row.guess ≡ None → row.guess ≡ Some mark → ⊥
no_mark mark row none some = let wrong : None ≡ Some mark = sym none ∙ some in cc

-- a later event has a greater key
later_key : (earlier event : ℕ) → earlier < event → key_cmp (event, 0) (earlier, 0) ≡ Greater
later_key earlier event late = ap (λ (o : Ordering). ordering_then o (nat_cmp 0 0)) (sym (nat_cmp_is event earlier Greater late))

-- the keys of all guesses are below a number
abbrev AreBelow : ℕ → EntryList Asked → Type 0
AreBelow event [] = Unit {0}
AreBelow event (entry ∷ entries) = (entry.1.event < event) × AreBelow event entries

-- a guess at a later event is added at the end
put_last : (event : ℕ) (one : Asked) (entries : EntryList Asked) → AreNumbered entries → AreBelow event entries
    → put key_cmp (event, 0) one entries ≡ entries ++ ((event, 0), one) ∷ []
put_last event one [] are below = refl
put_last event one (entry ∷ entries) are below =
    let greater : key_cmp (event, 0) entry.0 ≡ Greater = ap (key_cmp (event, 0)) are.0 ∙ later_key entry.1.event event below.0 in
    ap (λ (o : Ordering). by_order o (((event, 0), one) ∷ entry ∷ entries) ((entry.0, one) ∷ entries) (entry ∷ put key_cmp (event, 0) one entries))
    greater
    ∙ ap (λ (rest : EntryList Asked). entry ∷ rest) (put_last event one entries are.1 below.1)

below_all : (event : ℕ) (entries : EntryList Asked)
    → ((asked : Asked) → Contains (map (λ (e : (ℕ × ℕ) × Asked). e.1) entries) asked → asked.event < event) → AreBelow event entries
below_all event [] all = tt
below_all event (entry ∷ entries) all = (
  all entry.1 (Contains-append_left (entry.1 ∷ []) (map (λ (e : (ℕ × ℕ) × Asked). e.1) entries) entry.1 (Contains-push [] entry.1)),
  below_all event entries (λ asked among. all asked (behind_one entry.1 (map (λ (e : (ℕ × ℕ) × Asked). e.1) entries) asked among)),
)
  where
    behind_one : (x : Asked) (xs : List Asked) (y : Asked) → Contains xs y → Contains (x ∷ xs) y
    behind_one x xs y (k, within, at) = (suc k, omega (arith, within), at)

-- what is found at a key has its event
found_under : (key : ℕ × ℕ) (asked : Asked) (entries : EntryList Asked) → AreNumbered entries → find key_cmp key entries ≡ Some asked
    → key ≡ (asked.event, 0)
found_under key asked [] are found = cc
found_under key asked (entry ∷ entries) are found =
    by (eq_by_cmp key_cmp key entry.0) refl (λ later. found_under key asked entries are.1 later) found
  where
    by : (tied : Bool) → eq_by_cmp key_cmp key entry.0 ≡ tied → (find key_cmp key entries ≡ Some asked → key ≡ (asked.event, 0))
        → cond tied (Some entry.1) (find key_cmp key entries) ≡ Some asked → key ≡ (asked.event, 0)
    by true tied rest is =
        same_key key entry.0 tied ∙ are.0 ∙ ap (λ (a : Asked). (a.event, 0)) (same_Some entry.1 asked is)
    by false tied rest is = rest is

-- the values after one more guess
pub values_after : (event : ℕ) (one : Asked) (before after : Guesses) → AreNumbered (finite.entries before)
    → ((asked : Asked) → Contains (finite.values before) asked → asked.event < event) → after ≡ finite.insert before (event, 0) one
    → finite.values after ≡ finite.values before ++ one ∷ []
values_after event one before after are early same =
    ap finite.values same
    ∙ ap (map (λ (e : (ℕ × ℕ) × Asked). e.1)) (entries-insert key_cmp_total before (event, 0) one
    ∙ put_last event one (finite.entries before) are (below_all event (finite.entries before) early))
    ∙ map-append (λ (e : (ℕ × ℕ) × Asked). e.1) (finite.entries before) (((event, 0), one) ∷ [])

module _ (code : Code) (program : TypedProgram) (entry : ℕ) (budgets : RunBudgets) (names : Naming) (rules : List Rule) (rows : List Row)
    (come : (number : ℕ) (row : Row) → slice_get rows number ≡ Some row → HasSource code program entry budgets names rules rows number row) where
  abbrev OfParent : ℕ → Row → Type 0
  OfParent number row = IsOfParent code program entry budgets names rules rows number row

  -- a state has passed as many events as lead to it
  pub passed : {number : ℕ} {chain : List Event} → IsChain rows number chain → (row : Row) → slice_get rows number ≡ Some row
      → row.state.value.counters.events ≡ length chain
  passed (first at none) row there = (first_is code program entry budgets names rules rows come row there).first.starts.events
  passed (further {number = number} {row = found} {event = event} {events = events} at before leads chain) row there =
      let same : found ≡ row = same_Some found row (sym at ∙ there) in
      let of = next_is code program entry budgets names rules rows come number row there event (ap (λ (r : Row). r.event) (sym same) ∙ leads) in
      let earlier = passed chain of.parent.row
      (subst (λ (r : Row). slice_get rows r.parent ≡ Some of.parent.row) (sym same) of.parent.there) in
      ap (λ (r : Row). r.state.value.counters.events) of.same ∙ (child_is code program entry budgets names rules rows come number row of).number
      ∙ ap suc earlier ∙ (let all = length-append events (event ∷ []) in omega (arith, all))

  -- the guesses of a row's state are its parent's, and one more if its child has a guess
  module _ (number : ℕ) (row : Row) (of : OfParent number row) (numbers : AreNumbered (finite.entries of.parent.row.state.value.asked)) where
    abbrev parent : State
    parent = of.parent.row.state.value

    abbrev state : State
    state = of.child.state.value

    -- earlier guesses are before it
    pub early : (asked : Asked) → Contains (finite.values parent.asked) asked → asked.event < state.counters.events
    early asked among =
        let integer = integer_row code program entry budgets names rules rows come row.parent of.parent.row of.parent.there in
        let le = integer.guessed asked among in
        let next = (child_is code program entry budgets names rules rows come number row of).number in
        omega (arith, le, next)

    after : AreGuessesAfter state.counters.events of.child.guess parent.asked state.asked
    after = (child_is code program entry budgets names rules rows come number row of).asked

    pub guess_kept : (event : ℕ) (mark : Sym) → HasGuess parent event mark → HasGuess state event mark
    guess_kept event mark (asked, among, at, stands) = by of.child.guess after
      where
        by : (guess : Option Sym) → AreGuessesAfter state.counters.events guess parent.asked state.asked → HasGuess state event mark
        by None same = (asked, subst (λ (m : Guesses). Contains (finite.values m) asked) (sym same) among, at, stands)
        by (Some symbol) (one, number, guess, same) =
            let values = values_after state.counters.events one parent.asked state.asked numbers early same in
            let kept = Contains-append_left (finite.values parent.asked) (one ∷ []) asked among in
            (asked, subst (λ (l : List Asked). Contains l asked) (sym values) kept, at, stands)

    pub guess_new : (mark : Sym) → of.child.guess ≡ Some mark → HasGuess state state.counters.events mark
    guess_new mark is = by of.child.guess is after
      where
        by : (guess : Option Sym) → guess ≡ Some mark → AreGuessesAfter state.counters.events guess parent.asked state.asked
            → HasGuess state state.counters.events mark
        by None e same = cc
        by (Some symbol) e (one, number, guess, same) =
            let values = values_after state.counters.events one parent.asked state.asked numbers early same in
            let last = subst (λ (l : List Asked). Contains l one) (sym values) (Contains-push (finite.values parent.asked) one) in
            (one, last, number, guess ∙ same_Some symbol mark e)

    pub guess_split : (event : ℕ) (mark : Sym) → HasGuess state event mark
        → HasGuess parent event mark ⊎ ((event ≡ state.counters.events) × (of.child.guess ≡ Some mark))
    guess_split event mark (asked, among, at, stands) = by of.child.guess refl after
      where
        by : (guess : Option Sym) → of.child.guess ≡ guess → AreGuessesAfter state.counters.events guess parent.asked state.asked
            → HasGuess parent event mark ⊎ ((event ≡ state.counters.events) × (of.child.guess ≡ Some mark))
        by None is same = inl (asked, subst (λ (m : Guesses). Contains (finite.values m) asked) same among, at, stands)
        by (Some symbol) is (one, number, guess, same) =
            let values = values_after state.counters.events one parent.asked state.asked numbers early same in
            let among_values = subst (λ (l : List Asked). Contains l asked) values among in
            elim (Contains-push_cases (finite.values parent.asked) one asked among_values) [
              | inl before ↦ inl (asked, before, at, stands)
              | inr last ↦
                  let when = sym at ∙ ap (λ (a : Asked). a.event) (sym last) ∙ number in
                  let which = is ∙ ap Some (sym guess ∙ ap (λ (a : Asked). a.guess) last ∙ stands) in
                  inr (when, which)
            ]

  -- a row with its parent
  pub of_row : (number : ℕ) (found row : Row) → found ≡ row → slice_get rows number ≡ Some row → (event : Event) → found.event ≡ Some event
      → OfParent number row
  of_row number found row same there event leads =
      next_is code program entry budgets names rules rows come number row there event (ap (λ (r : Row). r.event) (sym same) ∙ leads)

  pub parent_there : (number : ℕ) (found row : Row) → found ≡ row → (of : OfParent number row) → slice_get rows found.parent ≡ Some of.parent.row
  parent_there number found row same of = subst (λ (r : Row). slice_get rows r.parent ≡ Some of.parent.row) (sym same) of.parent.there

  -- each guess of a state was made along its chain
  made_along : {number : ℕ} {chain : List Event} → IsChain rows number chain → (row : Row) → slice_get rows number ≡ Some row
      → (when : ℕ) (mark : Sym) → HasGuess row.state.value when mark → IsGuessedAlong rows number when mark
  made_along (first at none) row there when mark (asked, among, event_is, stands) =
      let starts = (first_is code program entry budgets names rules rows come row there).first.starts in
      let values : finite.values row.state.value.asked ≡ []
      = ap finite.values starts.guesses ∙ ap (map (λ (e : (ℕ × ℕ) × Asked). e.1)) (none_there {V = Asked}) in
      absurd (nobody asked (subst (λ (l : List Asked). Contains l asked) values among))
  made_along (further {number = number} {row = found} {event = event} {events = events} at before leads chain) row there when mark has =
      let same : found ≡ row = same_Some found row (sym at ∙ there) in
      let of = of_row number found row same there event leads in
      let earlier = parent_there number found row same of in
      let numbers = numbered code program entry budgets names rules rows come chain of.parent.row earlier in
      let child_has = subst (λ (s : State). HasGuess s when mark) (ap (λ (r : Row). r.state.value) of.same) has in
      elim (guess_split number row of numbers when mark child_has) [
        | inl earlier_has ↦ guessed_before at before (made_along chain of.parent.row earlier when mark earlier_has)
        | inr new ↦
            let whole : IsChain rows number (events ++ event ∷ []) = further at before leads chain in
            let many = ap (λ (r : Row). r.state.value.counters.events) (sym of.same) ∙ passed whole row there in
            let guess : found.guess ≡ Some mark = ap (λ (r : Row). r.guess) (same ∙ of.same) ∙ new.1 in
            subst (λ (n : ℕ). IsGuessedAlong rows number n mark) (sym (new.0 ∙ many)) (guessed_here at guess whole)
      ]

  -- each guess along the chain is one of the state
  noted : {number when : ℕ} {mark : Sym} → IsGuessedAlong rows number when mark → {chain : List Event} → IsChain rows number chain → (row : Row)
      → slice_get rows number ≡ Some row → HasGuess row.state.value when mark
  noted {mark = mark} (guessed_here {row = found} at guess (first at' none)) chain row there =
      let same : found ≡ row = same_Some found row (sym at ∙ there) in
      let no_guess = (first_is code program entry budgets names rules rows come row there).no_guess in
      absurd (no_mark mark row no_guess (ap (λ (r : Row). r.guess) (sym same) ∙ guess))
  noted {number = number} {mark = mark} (guessed_here {row = found} at guess
      (further {row = found'} {event = event} {events = events} at' before leads earlier_chain)) chain row there =
      let same : found ≡ row = same_Some found row (sym at ∙ there) in
      let too : found' ≡ row = same_Some found' row (sym at' ∙ there) in
      let of = of_row number found' row too there event leads in
      let numbers = numbered code program entry budgets names rules rows come earlier_chain of.parent.row (parent_there number found' row too of) in
      let new = guess_new number row of numbers mark (ap (λ (r : Row). r.guess) (sym of.same ∙ sym same) ∙ guess) in
      let whole : IsChain rows number (events ++ event ∷ []) = further at' before leads earlier_chain in
      let many = ap (λ (r : Row). r.state.value.counters.events) (sym of.same) ∙ passed whole row there in
      subst (λ (s : State). HasGuess s (length (events ++ event ∷ [])) mark) (ap (λ (r : Row). r.state.value) (sym of.same))
      (subst (λ (n : ℕ). HasGuess of.child.state.value n mark) many new)
  noted (guessed_before {row = found} at before along) (first at' none) row there = absurd (none_below found.parent before)
  noted {number = number} {when = when} {mark = mark} (guessed_before {row = found} at before along)
      (further {row = found'} {event = event} {events = events} at' before' leads chain) row there =
      let same : found ≡ row = same_Some found row (sym at ∙ there) in
      let too : found' ≡ row = same_Some found' row (sym at' ∙ there) in
      let of = of_row number found' row too there event leads in
      let numbers = numbered code program entry budgets names rules rows come chain of.parent.row (parent_there number found' row too of) in
      let earlier_chain = subst (λ (r : Row). IsChain rows r.parent events) (too ∙ sym same) chain in
      let has = noted along earlier_chain of.parent.row (parent_there number found row same of) in
      subst (λ (s : State). HasGuess s when mark) (ap (λ (r : Row). r.state.value) (sym of.same)) (guess_kept number row of numbers when mark has)

  -- the phase
  phase_along : {number : ℕ} {chain : List Event} → IsChain rows number chain → (row : Row) → slice_get rows number ≡ Some row
      → IsPhaseAlong rules chain row.state.value.phase
  phase_along (first at none) row there =
      subst (IsPhaseAlong rules []) (sym (first_is code program entry budgets names rules rows come row there).first.phase) begins
  phase_along (further {number = number} {row = found} {event = event} {events = events} at before leads chain) row there =
      let same : found ≡ row = same_Some found row (sym at ∙ there) in
      let of = of_row number found row same there event leads in
      let is = child_is code program entry budgets names rules rows come number row of in
      let passes : of.child.event ≡ event
      = same_Some of.child.event event (ap (λ (r : Row). r.event) (sym of.same) ∙ ap (λ (r : Row). r.event) (sym same) ∙ leads) in
      let earlier = phase_along chain of.parent.row (parent_there number found row same of) in
      subst (IsPhaseAlong rules (events ++ event ∷ [])) (ap (λ (r : Row). r.state.value.phase) (sym of.same))
      (subst (λ (e : Event). IsPhaseAlong rules (events ++ e ∷ []) of.child.state.value.phase) passes (follows of.child.event earlier is.phase))

  -- all that a state notes
  notes : (number : ℕ) (row : Row) (chain : List Event) → slice_get rows number ≡ Some row → IsChain rows number chain
      → (noting : State) → noting.asked ≡ row.state.value.asked → noting.phase ≡ row.state.value.phase → NotesEvents rules rows number noting chain
  notes number row chain there leads noting same phase_same = record {
    in_order = λ key asked found.
        found_under key asked (finite.entries row.state.value.asked)
        (numbered code program entry budgets names rules rows come leads row there)
        (sym (finite.get-entries row.state.value.asked key) ∙ ap (λ (m : Guesses). finite.get m key) (sym same) ∙ found);
    guesses = λ when mark. (
      λ along. subst (λ (m : Guesses). Holds m when mark) (sym same) (noted along leads row there),
      λ has. made_along leads row there when mark (subst (λ (m : Guesses). Holds m when mark) same has),
    );
    phase = subst (IsPhaseAlong rules chain) (sym phase_same) (phase_along leads row there);
  }
    where
      Holds : Guesses → ℕ → Sym → Type 0
      Holds guesses when mark = (asked : Asked) × Contains (finite.values guesses) asked × (asked.event ≡ when) × (asked.guess ≡ mark)

  pub each_notes : (ends : List End) (Are : ℕ → Type 0) → AreSourced code program entry budgets names rules rows ends Are
      → EachNotesEvents rules rows ends
  each_notes ends Are sourced = record {
    of_rows = λ number row chain there leads. notes number row chain there leads row.state.value refl refl;
    of_ends = λ number end chain there leads.
        let of = sourced.ends_come number end there in
        let is = element (IsEndOf code program budgets names of.from.row.state.value) of.endings of.place of.one of.at of.from.all.endings in
        notes end.row of.from.row chain of.from.there leads end.state.value (ap (λ (e : End). e.state.value.asked) of.same ∙ is.asked)
        (ap (λ (e : End). e.state.value.phase) of.same ∙ is.phase);
  }
