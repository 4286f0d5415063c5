-- A run that has reached a state has reached each other state with an equal live part: for the merging of rows.
use Rattle.std.proofs.Common.{◌≡◌, ℕ, List, [], ◌∷◌, map, Option, None, Some, refl, sym, ap, ◌∙◌, subst}
use Rattle.std.specs.Prelude.{option_map, unwrap_or, is_some, IsTrue, reverse}
use Rattle.std.specs.Option.{option_and_then}
use Rattle.std.specs.FinMap as finite
use Rattle.std.proofs.lemmas.Simd.{map-map}
use Rattle.cs_inputs.specs.declared.path.Path.{Path}
use Rattle.cs_ast.specs.TypedProgram.{TypedProgram}
use Rattle.cs_events.specs.declared.input.InputKind.{InputKind}
use Rattle.cs_events.specs.declared.outcome.RunBudgets.{RunBudgets}
use Rattle.cs_events.specs.Acts.{Act}
use Rattle.cs_events.specs.Objects.{Object, StartBlock, GlobalObject, LiteralObject, LocalObject, HeapBlock, Cell}
use Rattle.cs_events.specs.Runs.{Setting, Log, read_cell}
use Rattle.cs_event_runs.specs.Left.{left_of}
use Rattle.cs_meaning.specs.Memory.{Block as Known}
use Rattle.cs_cfg.specs.Graph.{Code}
use Rattle.cs_cfg.specs.Spots.{point_of}
use Rattle.cs_cfg.specs.Working.{CodeState}
use Rattle.cs_cfg.specs.CodeSteps.{code_step}
use Rattle.cs_terms.specs.Term.{Valuation, value_of}
use Rattle.cs_constraints.specs.Constraints.{set_of, Fits}
use Rattle.cs_store.specs.declared.value.Fill.TheVariants.{Unset as UnsetFill}
use Rattle.cs_store.specs.declared.value.Value.{Value}
use Rattle.cs_store.specs.Contents.{Contents, filled, bindings_of}
use Rattle.cs_store.specs.Held.{contents_of}
use Rattle.cs_store.proofs.Keys.{no_offsets}
use Rattle.cs_state.specs.declared.frame.Frame.{Frame}
use Rattle.cs_state.specs.declared.state.State.{State}
use Rattle.cs_state.specs.Cells.{block_of, is_there, cell_of, operand_of}
use Rattle.cs_state.specs.Meaning.{frame_of, meaning}
use Rattle.cs_state.specs.Naming.{Naming}
use Rattle.cs_state.specs.Objects.{Owner, owner, owner_numbered, local_of, block_there, written_over, contents_in, number_of, unwritten, memory_of}
use Rattle.cs_keys.specs.Live.{LiveFrame, LiveRegion, LivePart, live_term, live_temporary, live_frame, live_binding, live_region}
use Rattle.cs_keys.specs.Live.{live_part}
use Rattle.cs_explored.specs.Placing.{IsPlain}
use Rattle.cs_progress.specs.Stepping.{next_left}
use Rattle.cs_successors.specs.Coming.{IsAt}
use Rattle.cs_coverage.proofs.AlikeEntries.{FindsAlike, said_alike, get_alike, map_keyed, map_alike}
use Rattle.cs_coverage.proofs.LiveTerms.{same_value}
use Rattle.cs_coverage.proofs.LiveMeaning.{none_there, SameBlock, SameContents, there_alike, found_made, same_operand, same_written}
use Rattle.cs_coverage.proofs.Patched.{patched, patched_fits, patched_agrees}

-- an empty region has no bindings
nothing_bound : bindings_of (filled UnsetFill) ≡ []
nothing_bound = ap (map (λ (e : (ℕ × ℕ) × Value). (e.0.0, e.1))) (none_there {V = Value})

some_found : {V : Type 0} (o : Option V) → IsTrue (is_some o) → (v : V) × (o ≡ Some v)
some_found None h = cc
some_found (Some v) h = (v, refl)

-- a state whose live part describes all of it: it has no block, and plain keys
pub record SaysAll (state : State) : Type 0 where
  pub plain : IsPlain state
  pub blocks : (base : ℕ) → block_of state.blocks base ≡ None

module _ (one two : State) (same : live_part one ≡ live_part two) (says : SaysAll one) (tells : SaysAll two) (valuation other : Valuation)
    (agrees : (symbol : ℕ) → set_of one.constraints symbol ≡ set_of two.constraints symbol → other symbol ≡ valuation symbol) where
  -- blocks
  blocks_alike : (base : ℕ) → FindsAlike (SameBlock one.constraints two.constraints) (block_of one.blocks base) (block_of two.blocks base)
  blocks_alike base =
      subst (λ o. FindsAlike (SameBlock one.constraints two.constraints) o (block_of two.blocks base)) (sym (says.blocks base))
      (subst (λ o. FindsAlike (SameBlock one.constraints two.constraints) None o) (sym (tells.blocks base)) tt)

  blocks_there : (base : ℕ) → is_there valuation (block_of one.blocks base) ≡ is_there other (block_of two.blocks base)
  blocks_there base =
      there_alike one.constraints two.constraints valuation other agrees (block_of one.blocks base) (block_of two.blocks base) (blocks_alike base)

  -- frames
  module _ (code : Code) (names : Naming) where
    frame_alike : (f g : Frame) → live_frame one.constraints f ≡ live_frame two.constraints g
        → frame_of code names one valuation f ≡ frame_of code names two other g
    frame_alike f g is =
        let numbers : f.number ≡ g.number = ap (λ (l : LiveFrame). l.number) is in
        let spots : f.spot ≡ g.spot = ap (λ (l : LiveFrame). l.spot) is in
        let visits : f.visits ≡ g.visits = ap (λ (l : LiveFrame). l.visits) is in
        let operands =
        map_alike (live_temporary one.constraints) (live_temporary two.constraints) (operand_of names.bases one.blocks valuation)
        (operand_of names.bases two.blocks other)
        (same_operand one.constraints two.constraints valuation other agrees names.bases one.blocks two.blocks blocks_there)
        f.temporaries g.temporaries (ap (λ (l : LiveFrame). l.temporaries) is) in
        λ i. record {
          function = (spots i).function;
          number = numbers i;
          todo = point_of code (spots i);
          stack = reverse (operands i);
          visits = visits i;
        }

    frames_alike : map (frame_of code names one valuation) one.callers ≡ map (frame_of code names two other) two.callers
    frames_alike =
        map_alike (live_frame one.constraints) (live_frame two.constraints) (frame_of code names one valuation) (frame_of code names two other)
        frame_alike one.callers two.callers (ap (λ (l : LivePart). l.callers) same)

  owner_alike : (f g : Frame) → live_frame one.constraints f ≡ live_frame two.constraints g → owner f ≡ owner g
  owner_alike f g is =
      let numbers : f.number ≡ g.number = ap (λ (l : LiveFrame). l.number) is in
      let spots : f.spot ≡ g.spot = ap (λ (l : LiveFrame). l.spot) is in
      λ i. record { number = numbers i; function = (spots i).function }

  owners_alike : map owner (one.frame ∷ one.callers) ≡ map owner (two.frame ∷ two.callers)
  owners_alike =
      let first = owner_alike one.frame two.frame (ap (λ (l : LivePart). l.frame) same) in
      let rest =
      map_alike (live_frame one.constraints) (live_frame two.constraints) owner owner owner_alike one.callers two.callers
      (ap (λ (l : LivePart). l.callers) same) in
      λ i. first i ∷ rest i

  -- the store
  regions_alike : (base : ℕ)
      → FindsAlike (SameContents one.constraints two.constraints) (finite.get one.store (base, 0)) (finite.get two.store (base, 0))
  regions_alike base =
      let fused_one = map-map (live_region one.constraints) (λ (e : (ℕ × ℕ) × Contents). (e.0.0, e.1)) (finite.entries one.store) in
      let fused_two = map-map (live_region two.constraints) (λ (e : (ℕ × ℕ) × Contents). (e.0.0, e.1)) (finite.entries two.store) in
      get_alike (SameContents one.constraints two.constraints) (base, 0) one.store two.store
      (said_alike (λ (e : (ℕ × ℕ) × Contents). live_region one.constraints (e.0.0, e.1))
      (λ (e : (ℕ × ℕ) × Contents). live_region two.constraints (e.0.0, e.1)) (λ l. l.base) (SameContents one.constraints two.constraints) (λ e. refl)
      (λ e. refl) (λ e f is. (ap (λ (l : LiveRegion). l.fill) is, ap (λ (l : LiveRegion). l.bindings) is)) (finite.entries one.store)
      (finite.entries two.store)
      (map_keyed one.store (λ key there. let found = some_found (finite.get one.store key) there in says.plain.store.regions key found.0 found.1))
      (map_keyed two.store (λ key there. let found = some_found (finite.get two.store key) there in tells.plain.store.regions key found.0 found.1))
      (sym fused_one ∙ ap (λ (l : LivePart). l.regions) same ∙ fused_two))

  nothing_alike : SameContents one.constraints two.constraints (filled UnsetFill) (filled UnsetFill)
  nothing_alike =
      (refl, ap (map (live_binding one.constraints)) nothing_bound ∙ sym (ap (map (live_binding two.constraints)) nothing_bound))

  pub contents_alike : (base : ℕ) → SameContents one.constraints two.constraints (contents_of one.store base) (contents_of two.store base)
  contents_alike base = by (finite.get one.store (base, 0)) (finite.get two.store (base, 0)) (regions_alike base)
    where
      by : (c d : Option Contents) → FindsAlike (SameContents one.constraints two.constraints) c d
          → SameContents one.constraints two.constraints (unwrap_or c (filled UnsetFill)) (unwrap_or d (filled UnsetFill))
      by None None alike = nothing_alike
      by None (Some d) alike = absurd alike
      by (Some c) None alike = absurd alike
      by (Some c) (Some d) alike = alike

  module _ (program : TypedProgram) (names : Naming) where
    written_alike : (base : Option ℕ) (block : Known)
        → written_over (cell_of names.bases one.blocks valuation) (contents_in one.store base) block
        ≡ written_over (cell_of names.bases two.blocks other) (contents_in two.store base) block
    written_alike None block =
        same_written one.constraints two.constraints valuation other agrees names.bases one.blocks two.blocks blocks_there
        (filled UnsetFill) (filled UnsetFill) no_offsets no_offsets nothing_alike block
    written_alike (Some base) block =
        same_written one.constraints two.constraints valuation other agrees names.bases one.blocks two.blocks blocks_there
        (contents_of one.store base) (contents_of two.store base) (says.plain.store.bindings base) (tells.plain.store.bindings base) (contents_alike base) block

    base_alike : (object : Object) (base : Option ℕ)
        → option_and_then (block_there program names (map owner (one.frame ∷ one.callers)) one.blocks valuation object) base
        ≡ option_and_then (block_there program names (map owner (two.frame ∷ two.callers)) two.blocks other object) base
    base_alike object None = refl
    base_alike object (Some base) =
        found_made one.constraints two.constraints valuation other agrees names.types object (block_of one.blocks base)
        (block_of two.blocks base) (blocks_alike base)

    unwritten_alike : (object : Object)
        → unwritten program names (map owner (one.frame ∷ one.callers)) one.blocks valuation object
        ≡ unwritten program names (map owner (two.frame ∷ two.callers)) two.blocks other object
    unwritten_alike (StartBlock path) = base_alike (StartBlock path) (number_of names.bases (StartBlock path))
    unwritten_alike (GlobalObject global) = refl
    unwritten_alike (LiteralObject literal) = refl
    unwritten_alike (LocalObject frame declaration) =
        ap (λ (owners : List Owner). option_and_then (λ it. local_of program it declaration) (owner_numbered frame owners)) owners_alike
    unwritten_alike (HeapBlock allocation) = base_alike (HeapBlock allocation) (number_of names.bases (HeapBlock allocation))

    memory_alike : (object : Object)
        → memory_of program names (map owner (one.frame ∷ one.callers)) one.blocks valuation one.store object
        ≡ memory_of program names (map owner (two.frame ∷ two.callers)) two.blocks other two.store object
    memory_alike object =
        let there = unwritten_alike object in
        let written = written_alike (number_of names.bases object) in
        λ i. option_map (λ block. written block i) (there i)

    -- both states represent the same machine state
    pub meaning_alike : (code : Code) → meaning code names program one valuation ≡ meaning code names program two other
    meaning_alike code =
        let frame = frame_alike code names one.frame two.frame (ap (λ (l : LivePart). l.frame) same) in
        let callers = frames_alike code names in
        let counters : one.counters ≡ two.counters = ap (λ (l : LivePart). l.counters) same in
        let memory = memory_alike in
        λ i. record {
          frame = frame i;
          callers = callers i;
          memory = λ object. memory object i;
          frames = (counters i).frames;
          allocations = (counters i).allocations;
          calls = (counters i).calls;
        }

    answers_alike : map (value_of valuation) one.answers ≡ map (value_of other) two.answers
    answers_alike =
        map_alike (live_term one.constraints) (live_term two.constraints) (value_of valuation) (value_of other)
        (same_value one.constraints two.constraints valuation other agrees) one.answers two.answers (ap (λ (l : LivePart). l.answers) same)

    -- and what remains of the operation in progress is the same
    pub left_alike : (code : Code) (budgets : RunBudgets) (cells : Path → InputKind → Cell)
        → next_left code names program budgets cells one valuation ≡ next_left code names program budgets cells two other
    left_alike code budgets cells =
        let act = ap (code_step code program budgets) (meaning_alike code) in
        let answers = answers_alike in
        λ i. left_of cells (answers i) (act i)

-- equal live parts have the same number of events
events_alike : (one two : State) → live_part one ≡ live_part two → one.counters.events ≡ two.counters.events
events_alike one two same = ap (λ (l : LivePart). l.counters.events) same

module _ (code : Code) (program : TypedProgram) (budgets : RunBudgets) (names : Naming) where
  -- a run that has reached a state has reached each state with an equal live part
  pub merged : (one two : State) → live_part one ≡ live_part two → SaysAll one → SaysAll two → (valuation possible : Valuation)
      → Fits possible two.constraints → (setting : Setting) (left : Act CodeState) (log : Log)
      → IsAt code program budgets names one setting valuation left log
      → IsAt code program budgets names two setting (patched two.constraints valuation possible) left log
  merged one two same says tells valuation possible fits setting left log at = record {
    fits = patched_fits two.constraints valuation possible fits;
    same =
        at.same
        ∙ left_alike one two same says tells valuation (patched two.constraints valuation possible)
        (patched_agrees two.constraints one.constraints valuation possible at.fits) program names code budgets (read_cell setting);
    passed = at.passed ∙ events_alike one two same;
  }
