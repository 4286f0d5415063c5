-- Silent steps of a state: an operation that is done, and one that waits. For the contract of `find`.
use Rattle.std.proofs.Common.{◌≡◌, ℕ, List, [], ◌∷◌, Option, None, Some, length, map, refl, sym, ap, ◌∙◌, subst, arith, inl}
use Rattle.std.specs.Prelude.{reverse, option_map, Contains, ◌≤◌}
use Rattle.std.proofs.lemmas.List.Elements.{All-nil}
use Rattle.std.specs.FinMap as finite
use Rattle.cs_inputs.specs.declared.path.Path.{Path}
use Rattle.cs_ast.specs.TypedProgram.{TypedProgram}
use Rattle.cs_terms.specs.Term.{Valuation, value_of}
use Rattle.cs_constraints.specs.Constraints.{Sets, Fits}
use Rattle.cs_events.specs.declared.input.InputKind.{InputKind}
use Rattle.cs_events.specs.declared.outcome.RunBudgets.{RunBudgets}
use Rattle.cs_events.specs.Objects.{Cell}
use Rattle.cs_events.specs.Acts.{Act, Goes}
use Rattle.cs_events.specs.Runs.{Setting, Log, read_cell}
use Rattle.cs_event_runs.specs.Left.{left_of}
use Rattle.cs_meaning.specs.Machine.{to_do}
use Rattle.cs_meaning.specs.Memory.{Memory}
use Rattle.cs_cfg.specs.declared.code.Spot.{Spot}
use Rattle.cs_cfg.specs.Graph.{Code}
use Rattle.cs_cfg.specs.Instructions.{jump_from, JumpsTo, here, jumps}
use Rattle.cs_cfg.specs.Spots.{SpotState, at_points, point_of, begins}
use Rattle.cs_cfg.specs.Working.{CodeState}
use Rattle.cs_cfg.specs.CodeSteps.{code_step}
use Rattle.cs_cfg.proofs.SpotStates.{silent}
use Rattle.cs_state.specs.declared.state.Counters.{Counters}
use Rattle.cs_state.specs.declared.state.State.{State}
use Rattle.cs_state.specs.Cells.{Blocks, block_of, operand_of}
use Rattle.cs_state.specs.Meaning.{meaning, frame_of}
use Rattle.cs_state.specs.Naming.{Naming}
use Rattle.cs_state.specs.Objects.{Owner, owner, memory_of}
use Rattle.cs_state.specs.Writes.{at_spot}
use Rattle.cs_progress.specs.declared.next.Next.{Next}
use Rattle.cs_progress.specs.Acting.{UsesAll}
use Rattle.cs_cfg.specs.IntegerCode.{HasIntegerCode}
use Rattle.cs_progress.specs.Locals.{HasLocalsAlone}
use Rattle.cs_progress.specs.Stepping.{IsDone, Waits, KeepsKnown, BeginsIn, next_act, next_left, UsesAnswers}
use Rattle.cs_successors.specs.EntryRuns.{Proceeds, silently, stays}
use Rattle.cs_successors.specs.Coming.{is_declared, IsIntegerState, MentionsNoOthers, GoesBy, IsAt, ComesSilently, IsEndOf, IsReachedFrom}
use Rattle.cs_pieces.proofs.OneMoreAnswer.{uses_none}
use Rattle.cs_successors.proofs.Proceeding.{leads_silently}
use Rattle.cs_pieces.proofs.StandingFirst.{stands_first}

-- jumps stay in their function
one_function : (code : Code) {spot last : Spot} → JumpsTo code spot last → spot.function ≡ last.function
one_function code here = refl
one_function code (jumps {spot = spot} {next = next} is way) = by (jump_from (point_of code spot)) is ∙ one_function code way
  where
    by : (block : Option ℕ) → option_map (begins spot.function) block ≡ Some next → spot.function ≡ next.function
    by None is = cc
    by (Some block) is = let same : begins spot.function block ≡ next = cc in ap (λ (s : Spot). s.function) same

module _ (code : Code) (program : TypedProgram) (budgets : RunBudgets) (names : Naming) where
  abbrev step : CodeState → Act CodeState
  step = code_step code program budgets

  -- the machine state of a run at a spot, without callers
  abbrev spotted : Memory → Spot → State → Valuation → SpotState
  spotted memory spot state v = record {
    frame = record {
      function = spot.function;
      number = state.frame.number;
      todo = spot;
      stack = reverse (map (operand_of names.bases state.blocks v) state.frame.temporaries);
      visits = state.frame.visits;
    };
    callers = [];
    memory = memory;
    frames = state.counters.frames;
    allocations = state.counters.allocations;
    calls = state.counters.calls;
  }

  abbrev owned : State → ℕ → List Owner
  owned state function = record { number = state.frame.number; function = function } ∷ map owner state.callers

  abbrev memory_with : State → Valuation → ℕ → Memory
  memory_with state v function = memory_of program names (owned state function) state.blocks v state.store

  abbrev points : Memory → Spot → State → Valuation → CodeState
  points memory spot state v = at_points code (to_do spot (spotted memory spot state v))

  -- the machine state that a state without callers represents
  at_spots : (state : State) (v : Valuation) (spot : Spot) → state.callers ≡ []
      → meaning code names program (at_spot spot state) v ≡ points (memory_with state v spot.function) spot state v
  at_spots state v spot none = λ i. record (points (memory_with state v spot.function) spot state v) {
    callers = ap (map (frame_of code names (at_spot spot state) v)) none i;
  }

  -- a run whose state is at a spot reaches the spots to which jumps lead
  jumped : (setting : Setting) (log : Log) (state : State) (v : Valuation) (spot : Spot) → state.callers ≡ [] → JumpsTo code spot state.frame.spot
      → Proceeds step setting (step (meaning code names program (at_spot spot state) v)) log [] (step (meaning code names program state v)) log
  jumped setting log state v spot none way =
      let same : spot.function ≡ state.frame.spot.function = one_function code way in
      let begin : meaning code names program (at_spot spot state) v ≡ points (memory_with state v spot.function) spot state v = at_spots state v spot none in
      let end : points (memory_with state v spot.function) state.frame.spot state v ≡ meaning code names program state v =
      ap (λ (function : ℕ). points (memory_with state v function) state.frame.spot state v) same ∙ sym (at_spots state v state.frame.spot none) in
      subst (λ (m : CodeState). Proceeds step setting (step m) log [] (step (meaning code names program state v)) log) (sym begin)
      (subst (λ (m : CodeState). Proceeds step setting (step (points (memory_with state v spot.function) spot state v)) log [] (step m) log) end
      (leads_silently step setting
      (silent code program budgets setting log (spotted (memory_with state v spot.function) spot state v) way) (omega arith)))

  module _ (before after : State) (is : IsIntegerState code program budgets names before) (known : KeepsKnown before after)
      (function : after.frame.spot.function ≡ before.frame.spot.function)
      (mentions : MentionsNoOthers code program budgets names before after)
      (uses : (cells : Path → InputKind → Cell) (v : Valuation) → Fits v before.constraints
      → UsesAnswers code names program budgets cells after v) where
    fits_before : (v : Valuation) → Fits v after.constraints → Fits v before.constraints
    fits_before v fits = subst (λ (sets : Sets). Fits v sets) known.constraints fits

    fits_after : (v : Valuation) → Fits v before.constraints → Fits v after.constraints
    fits_after v fits = subst (λ (sets : Sets). Fits v sets) (sym known.constraints) fits

    -- the state remains one of integers only
    stays_integer : IsIntegerState code program budgets names after
    stays_integer = record {
      model = known.model ∙ is.model;
      integers = subst (λ (f : ℕ). HasIntegerCode code program f) (sym function) is.integers;
      locals = subst (λ (sets : Sets). HasLocalsAlone program names.bases (is_declared sets) after) (sym known.constraints)
          (mentions (is_declared before.constraints) is.locals);
      blocks = λ base. ap (λ (blocks : Blocks). block_of blocks base) known.blocks ∙ is.blocks base;
      uses = λ cells v fits. uses cells v (fits_before v fits);
      possible = (is.possible.0, fits_after is.possible.0 is.possible.1);
      guessed = λ asked among.
          subst (λ (counters : Counters). asked.event ≤ counters.events) (sym known.counters)
          (is.guessed asked (subst (λ guesses. Contains (finite.values guesses) asked) known.asked among));
    }

    -- runs reach it silently
    silently_reached : ((setting : Setting) (v : Valuation) (left : Act CodeState) (log : Log) → GoesBy code program budgets names setting
        → IsAt code program budgets names before setting v left log → ComesSilently code program budgets names after setting v left log)
        → IsReachedFrom code program budgets names before after []
    silently_reached comes = record {
      integer = stays_integer;
      events = ap (λ (counters : Counters). counters.events) known.counters;
      phase = known.phase;
      asked = known.asked;
      blocks = known.blocks;
      mentions = mentions;
      fits = fits_before;
      endings = All-nil (IsEndOf code program budgets names before);
      comes = λ setting v left log goes at fits. comes setting v left log goes at;
      covers = λ setting v left log goes at. inl (fits_after v at.fits);
    }

  module _ (before after : State) (is : IsIntegerState code program budgets names before)
      (mentions : MentionsNoOthers code program budgets names before after) where
    -- an operation that is done
    pub done_reached : IsDone code names program budgets before after → IsReachedFrom code program budgets names before after []
    done_reached done =
        silently_reached before after is done.known done.function mentions
        (λ cells v fits.
        subst (λ answers. UsesAll cells (map (value_of v) answers) (next_act code names program budgets after v)) (sym done.answers)
        (uses_none cells (next_act code names program budgets after v)))
        (λ setting v left log goes at.
        let stands = at.same ∙ done.goes (read_cell setting) v at.fits (is.uses (read_cell setting) v at.fits) in
        let first = stands_first setting log left (Goes (meaning code names program (at_spot done.spot after) v)) stands in
        record {
          rest = next_act code names program budgets after v;
          later = first.0;
          proceeds = silently first.2 (jumped setting first.0 after v done.spot (mentions (is_declared before.constraints) is.locals).callers done.jumps);
          comes = record {
            fits = subst (λ (sets : Sets). Fits v sets) (sym done.known.constraints) at.fits;
            same = ap (λ answers. left_of (read_cell setting) (map (value_of v) answers) (next_act code names program budgets after v)) (sym done.answers);
            passed = ap length first.1 ∙ at.passed ∙ sym (ap (λ (counters : Counters). counters.events) done.known.counters);
          };
        })

    module _ (first : Next) (waits : Waits code names program budgets before after first) where
      same_left : (cells : Path → InputKind → Cell) (v : Valuation)
          → next_left code names program budgets cells after v ≡ next_left code names program budgets cells before v
      same_left cells v = λ i. left_of cells (map (value_of v) (waits.answers i)) (waits.same v i)

      same_uses : (cells : Path → InputKind → Cell) (v : Valuation) → UsesAnswers code names program budgets cells before v
          → UsesAnswers code names program budgets cells after v
      same_uses cells v uses =
          subst (λ answers. UsesAll cells (map (value_of v) answers) (next_act code names program budgets after v)) (sym waits.answers)
          (subst (UsesAll cells (map (value_of v) before.answers)) (sym (waits.same v)) uses)

      -- an operation that waits
      pub waits_reached : IsReachedFrom code program budgets names before after []
      waits_reached =
          silently_reached before after is waits.known waits.function mentions (λ cells v fits. same_uses cells v (is.uses cells v fits))
          (λ setting v left log goes at. record {
            rest = left;
            later = log;
            proceeds = stays refl refl;
            comes = record {
              fits = subst (λ (sets : Sets). Fits v sets) (sym waits.known.constraints) at.fits;
              same = at.same ∙ sym (same_left (read_cell setting) v);
              passed = at.passed ∙ sym (ap (λ (counters : Counters). counters.events) waits.known.counters);
            };
          })

      -- and what comes first then
      pub begins_in : (cells : Path → InputKind → Cell) (v : Valuation) → Fits v after.constraints
          → BeginsIn code names.bases after v first (next_left code names program budgets cells after v)
      begins_in cells v fits =
          let fitted = subst (λ (sets : Sets). Fits v sets) waits.known.constraints fits in
          subst (BeginsIn code names.bases after v first) (sym (same_left cells v)) (waits.begins cells v fitted (is.uses cells v fitted))
