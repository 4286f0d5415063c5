-- In a closed graph in which no row waits, each run without guesses has a row at its beginning and directly after each of its events, and an end at its end.
use Rattle.std.proofs.Common.{◌≡◌, ◌⊎◌, inl, inr, ℕ, suc, ℤ, List, [], ◌∷◌, ◌++◌, map, length, refl, sym, ap, ◌∙◌, subst, arith}
use Rattle.std.proofs.lemmas.List.{append-nil, append_assoc, length-append, map-append}
use Rattle.std.proofs.lemmas.List.Elements.{All-get_or}
use Rattle.std.proofs.lemmas.Option.{slice_get_within, get_or_from_slice_get}
use Rattle.std.specs.Prelude.{slice_get, Some, All}
use Rattle.cs_inputs.specs.declared.path.Path.{Path}
use Rattle.cs_ast.specs.TypedProgram.{TypedProgram}
use Rattle.cs_events.specs.declared.event.Event.{Event}
use Rattle.cs_events.specs.declared.outcome.Outcome.{Outcome}
use Rattle.cs_events.specs.declared.outcome.RunBudgets.{RunBudgets}
use Rattle.cs_events.specs.Acts.{Act}
use Rattle.cs_events.specs.Runs.{Setting, Log, empty, read_cell}
use Rattle.cs_event_runs.specs.First.{Step, Ended, first_of}
use Rattle.cs_event_runs.specs.Left.{left_of}
use Rattle.cs_event_runs.specs.ByEvents.{RunsTo, ends as run_ends, shows as run_shows, silently as run_silently}
use Rattle.cs_cfg.specs.Graph.{Code}
use Rattle.cs_cfg.specs.Working.{CodeState}
use Rattle.cs_terms.specs.Term.{Valuation, value_of}
use Rattle.cs_state.specs.Naming.{Naming}
use Rattle.cs_explored.specs.declared.explored.End.{End}
use Rattle.cs_explored.specs.declared.explored.Row.{Row}
use Rattle.cs_explored.specs.declared.watch.Rule.{Rule}
use Rattle.cs_progress.specs.Stepping.{end_of, result_in, HasReturned}
use Rattle.cs_successors.specs.EntryRuns.{events_of, setting_with, step_of, start_of, LeavesAfter, now, later, unseen, Proceeds, stays, HasLeft, begins, passes}
use Rattle.cs_successors.specs.EntryRuns.{EndsAfter}
use Rattle.cs_successors.specs.Coming.{is_declared, IsChildOf, IsEndOf, ComesToChild, ComesToEnd}
use Rattle.cs_keys.specs.Live.{LivePart}
use Rattle.cs_coverage.specs.Agreeing.{agreeing, AreBlocksOver}
use Rattle.cs_coverage.specs.Closing.{AreNames, IsClosed}
use Rattle.cs_coverage.specs.OwnNumbers.{own_valuation}
use Rattle.cs_coverage.specs.Phases.{IsPhaseAlong, begins as phase_begins, follows}
use Rattle.cs_coverage.specs.Standing.{StandsAtRow, StandsAtEnd}
use Rattle.cs_coverage.proofs.AgreeingRuns.{gives_own, blocks_themselves, child_agrees, merged_agrees}
use Rattle.cs_coverage.proofs.Merging.{merged}
use Rattle.cs_successors.proofs.Passing.{passes_some, as_proceeds, after_one, ends_after_one, leaves_no_end, ends_alone}
use Rattle.cs_successors.proofs.Proceeding.{proceeds_on}

tail_is : (one other : Step) (steps more : List Step) → one ∷ steps ≡ other ∷ more → more ≡ steps
tail_is one other steps more e = cc

head_is : (one other : Step) (steps more : List Step) → one ∷ steps ≡ other ∷ more → other ≡ one
head_is one other steps more e = cc

-- what holds for all elements holds for the one at an index
pub element : {A : Type 0} (P : A → Type 0) (xs : List A) (place : ℕ) (x : A) → slice_get xs place ≡ Some x → All P xs → P x
element P xs place x there all =
    subst P (get_or_from_slice_get xs place x x there) (All-get_or P xs place x (slice_get_within xs place x there) all)

not_none : {A : Type 0} (other : Step) (more : List Step) → [] ≡ other ∷ more → A
not_none other more e = cc

module _ (code : Code) (program : TypedProgram) (entry : ℕ) (budgets : RunBudgets) (rules : List Rule) (given : Naming) (rows : List Row)
    (ends : List End) (closed : IsClosed code program entry budgets rules given rows ends (λ number. ⊥)) (names : Naming) (are : AreNames given names)
    (inputs : Path → ℤ) (all : List Step) (last : Log) where
  abbrev here : Setting
  here = setting_with program budgets inputs []

  -- the numbers that symbols have in the whole run
  abbrev own : Valuation
  own = own_valuation program entry names here all last

  abbrev AtRow : List Step → Act CodeState → Log → Type 0
  AtRow steps left log = StandsAtRow code program entry budgets names rules rows here own steps left log

  abbrev step : CodeState → Act CodeState
  step = step_of code program entry budgets

  -- at its beginning a run is at the first row
  at_first : (left : Act CodeState) (log : Log) → left ≡ step (start_of code program entry budgets here) → log ≡ empty → AtRow [] left log
  at_first left log is none =
      let begins = closed.first.begins names are in
      let means = begins.own budgets inputs [] all last in
      record {
        number = 0;
        row = closed.first.row;
        there = closed.first.there;
        valuation = own;
        at = record {
          fits = means.0;
          same =
              ap (left_of (read_cell here) []) is
              ∙ (λ i. left_of (read_cell here) (map (value_of own) (sym begins.answers i)) (step (sym means.1 i)));
          passed = ap (λ (l : Log). length l.events) none ∙ sym begins.events;
        };
        count = begins.events;
        phase = subst (IsPhaseAlong rules []) (sym begins.phase) phase_begins;
        agrees = record {
          known = is_declared closed.first.row.state.value.constraints;
          mentions = ((closed.states 0 closed.first.row closed.first.there).integer names are).locals;
          agrees = λ symbol known. refl;
          blocks = blocks_themselves own closed.first.row.state.value.blocks;
        };
      }

  -- from a row a run reaches a child or an end
  comes : {passed : List Step} (left : Act CodeState) (log : Log) (at : AtRow passed left log)
      → let parts = closed.expanded at.number at.row at.there (λ waits. waits) in
      ComesToChild code program budgets names parts.made here at.valuation left log
      ⊎ ComesToEnd code program budgets names parts.endings here at.valuation left log
  comes left log at =
      ((closed.expanded at.number at.row at.there (λ waits. waits)).comes names are).covers here at.valuation left log
      (record { model = refl; limits = refl }) at.at refl

  -- a run that reaches a child is at a row then
  at_child : {passed : List Step} (left : Act CodeState) (log : Log) (at : AtRow passed left log)
      (child : ComesToChild code program budgets names (closed.expanded at.number at.row at.there (λ waits. waits)).made here at.valuation left log)
      (more : List Step) → all ≡ passed ++ child.to.one ∷ more → AtRow (passed ++ child.to.one ∷ []) child.to.rest child.to.later
  at_child {passed = passed} left log at child more all_are =
      let parts = closed.expanded at.number at.row at.there (λ waits. waits) in
      let found = parts.children child.place child.child child.there in
      let state = closed.states found.number found.row found.there in
      let integer = state.integer names are in
      let possible = integer.possible in
      let is = element (IsChildOf code program budgets names rules at.row.state.value) parts.made child.place child.child child.there
      (parts.comes names are).children in
      record {
        number = found.number;
        row = found.row;
        there = found.there;
        valuation = _;
        at = merged code program budgets names child.child.state.value found.row.state.value found.same
            (record { plain = found.plain; blocks = is.integer.blocks }) (record { plain = state.plain; blocks = integer.blocks }) child.after
            possible.0 possible.1 here child.to.rest child.to.later child.to.comes;
        count =
            ap (λ (l : LivePart). l.counters.events) (sym found.same) ∙ is.number ∙ ap suc at.count
            ∙ (let long = length-append passed (child.to.one ∷ []) in omega (arith, long));
        phase =
            subst (λ (events : List Event). IsPhaseAlong rules events found.row.state.value.phase)
            (sym (map-append (λ (it : Step). it.event) passed (child.to.one ∷ [])))
            (subst (IsPhaseAlong rules (events_of passed ++ child.to.one.event ∷ [])) (ap (λ (l : LivePart). l.phase) found.same)
            (follows child.to.one.event at.phase (child.phases rules at.row.state.value.phase child.child.state.value.phase is.phase)));
        agrees =
            merged_agrees program names.bases child.child.state.value found.row.state.value found.same
            (record { plain = found.plain; blocks = is.integer.blocks }) (record { plain = state.plain; blocks = integer.blocks })
            (is_declared found.row.state.value.constraints) integer.locals own child.after possible.0 child.to.comes.fits
            (child_agrees code program budgets names at.row.state.value child.child is.mentions is.blocks own at.valuation child.after at.agrees child.others
            (λ symbol guessed. child.guess symbol guessed
            ∙ sym (gives_own program entry budgets names inputs [] all last child.child.state.value.counters.events symbol (is.named symbol guessed)
            passed more child.to.one all_are (is.number ∙ ap suc at.count))));
      }

  -- directly after each event
  positions : (passed steps more : List Step) → all ≡ passed ++ (steps ++ more) → (between left : Act CodeState) (before log : Log)
      → AtRow passed between before → LeavesAfter step here (first_of here before between) steps left log → AtRow (passed ++ steps) left log
  positions passed [] more all_are between left before log at leaves = absurd (passes_some step here leaves refl)
  positions passed (one ∷ steps) more all_are between left before log at leaves =
      elim (comes between before at) [
        | inl child ↦ elim (after_one step here child.to.leaves leaves) [
          | inl last_one ↦
              let one_is : child.to.one ≡ one = head_is one child.to.one steps [] last_one.0 in
              let next : AtRow (passed ++ child.to.one ∷ []) child.to.rest child.to.later
              = at_child between before at child (steps ++ more) (all_are ∙ (λ i. passed ++ sym one_is i ∷ (steps ++ more))) in
              subst (λ (l : List Step). AtRow (passed ++ l) left log) (sym last_one.0)
              (subst (λ act. AtRow (passed ++ child.to.one ∷ []) act log) last_one.1
              (subst (λ l. AtRow (passed ++ child.to.one ∷ []) child.to.rest l) last_one.2 next))
          | inr further ↦
              let one_is : child.to.one ≡ one = head_is one child.to.one steps further.0 further.1 in
              let next : AtRow (passed ++ child.to.one ∷ []) child.to.rest child.to.later
              = at_child between before at child (steps ++ more) (all_are ∙ (λ i. passed ++ sym one_is i ∷ (steps ++ more))) in
              let there : all ≡ (passed ++ child.to.one ∷ []) ++ (steps ++ more)
              = all_are ∙ (λ i. passed ++ sym one_is i ∷ (steps ++ more)) ∙ sym (append_assoc passed (child.to.one ∷ []) (steps ++ more)) in
              let rest = positions (passed ++ child.to.one ∷ []) steps more there child.to.rest left child.to.later log next
              (subst (λ s. LeavesAfter step here (first_of here child.to.later child.to.rest) s left log)
              (tail_is one child.to.one steps further.0 further.1) further.2) in
              subst (λ (l : List Step). AtRow l left log)
              (append_assoc passed (child.to.one ∷ []) steps ∙ (λ i. passed ++ one_is i ∷ steps)) rest
        ]
        | inr end ↦ absurd (leaves_no_end step here end.ending.proceeds end.ending.ends leaves)
      ]

  pub stands_at_row : (steps : List Step) (left : Act CodeState) (log : Log) → all ≡ steps → HasLeft code program entry budgets here steps left log
      → AtRow steps left log
  stands_at_row steps left log all_are (begins is none) = at_first left log is none
  stands_at_row steps left log all_are (passes (now e)) = cc
  stands_at_row steps left log all_are (passes (later e rest)) = cc
  stands_at_row steps left log all_are (passes (unseen {next = next} {before = before} e rest)) =
      let nexts : next ≡ start_of code program entry budgets here = cc in
      let logs : before ≡ empty = cc in
      positions [] steps [] (all_are ∙ sym (append-nil steps)) (step next) left before log (at_first (step next) before (ap step nexts) logs) rest

  -- at its end, after the steps that it has passed so far and those that remain
  endings : (passed steps : List Step) → all ≡ passed ++ steps
      → (between : Act CodeState) (before : Log) (outcome : Outcome) (log : Log) → AtRow passed between before
      → Proceeds step here (step (start_of code program entry budgets here)) empty passed between before
      → RunsTo step here (first_of here before between) steps outcome log
      → StandsAtEnd code program entry budgets names rules ends here own (passed ++ steps) outcome log
  endings passed [] all_are between before outcome log at way runs =
      elim (comes between before at) [
        | inl child ↦
            let more = ends_after_one step here child.to.leaves runs in
            not_none child.to.one more.0 more.1
        | inr end ↦
            let parts = closed.expanded at.number at.row at.there (λ waits. waits) in
            let listed = parts.listed end.place end.end end.there in
            let that = ends_alone step here end.ending.proceeds end.ending.ends runs in
            let one = element (IsEndOf code program budgets names at.row.state.value) parts.endings end.place end.end end.there
            (parts.comes names are).endings in
            record {
              number = listed.place;
              end = record { row = at.number; outcome = end.end.0; state = end.end.1 };
              there = listed.there;
              ended = end.ending.same ∙ ap end_of (sym that.outcome_is);
              last = end.ending.last;
              before = end.ending.before;
              ends_with = record {
                proceeds = proceeds_on step here way end.ending.proceeds;
                ends =
                    subst (λ o. first_of here end.ending.before end.ending.last ≡ Ended o log) (sym that.outcome_is)
                    (subst (λ l. first_of here end.ending.before end.ending.last ≡ Ended end.ending.ended l) (sym that.log_is) end.ending.ends);
              };
              valuation = at.valuation;
              at = end.ending.comes;
              phase =
                  subst (λ (all : List Step). IsPhaseAlong rules (events_of all) end.end.1.value.phase) (sym (append-nil passed))
                  (subst (IsPhaseAlong rules (events_of passed)) (sym one.phase) at.phase);
              locals = one.locals;
              integers = one.integers;
              agrees = record {
                known = at.agrees.known;
                mentions = one.mentions at.agrees.known at.agrees.mentions;
                agrees = at.agrees.agrees;
                blocks = subst (AreBlocksOver (agreeing own at.valuation)) (sym one.blocks) at.agrees.blocks;
              };
              plain = parts.plain end.place end.end end.there;
              returned =
                  subst (λ o. HasReturned o (result_in names.bases end.end.1.value.blocks at.valuation end.end.1.value.result)) (sym that.outcome_is)
                  end.ending.returned;
            }
      ]
  endings passed (one ∷ steps) all_are between before outcome log at way runs =
      elim (comes between before at) [
        | inl child ↦
            let more = ends_after_one step here child.to.leaves runs in
            let same = head_is one child.to.one steps more.0 more.1 in
            subst (λ (l : List Step). StandsAtEnd code program entry budgets names rules ends here own l outcome log)
            (append_assoc passed (child.to.one ∷ []) steps ∙ (λ i. passed ++ same i ∷ steps))
            (endings (passed ++ child.to.one ∷ []) steps
            (all_are ∙ (λ i. passed ++ sym same i ∷ steps) ∙ sym (append_assoc passed (child.to.one ∷ []) steps)) child.to.rest child.to.later outcome
            log
            (at_child between before at child steps (all_are ∙ (λ i. passed ++ sym same i ∷ steps)))
            (proceeds_on step here way (as_proceeds step here child.to.leaves))
            (subst (λ s. RunsTo step here (first_of here child.to.later child.to.rest) s outcome log) (tail_is one child.to.one steps more.0 more.1) more.2))
        | inr end ↦
            let that = ends_alone step here end.ending.proceeds end.ending.ends runs in
            not_none one steps (sym that.none)
      ]

  pub stands_at_end : (steps : List Step) (outcome : Outcome) (log : Log) → all ≡ steps → EndsAfter code program entry budgets here steps outcome log
      → StandsAtEnd code program entry budgets names rules ends here own steps outcome log
  stands_at_end steps outcome log all_are (run_ends e) = cc
  stands_at_end steps outcome log all_are (run_shows e rest) = cc
  stands_at_end steps outcome log all_are (run_silently {next = next} {log = before} e rest) =
      let nexts : next ≡ start_of code program entry budgets here = cc in
      let logs : before ≡ empty = cc in
      endings [] steps all_are (step next) before outcome log (at_first (step next) before (ap step nexts) logs) (stays (ap step (sym nexts)) (sym logs)) rest
