-- A state has the same live part with other sets, if these are the same for the symbols that it mentions: for `AgreesOnLive`.
use Rattle.std.proofs.Common.{◌≡◌, ℕ, Bool, true, List, [], ◌∷◌, map, Option, None, Some, All, if◌then◌else◌, refl, sym, ap, ◌∙◌, subst}
use Rattle.std.specs.Prelude.{option_map, is_some}
use Rattle.std.specs.Option.{option_map_or, unwrap_or}
use Rattle.std.specs.FinMap as finite
use Rattle.std.proofs.lemmas.List.Elements.{All-head, All-tail, All-map}
use Rattle.cs_ast.specs.TypedProgram.{TypedProgram}
use Rattle.cs_terms.specs.declared.symbol.Sym.{Sym}
use Rattle.cs_terms.specs.declared.term.Lin.{Lin}
use Rattle.cs_constraints.specs.Constraints.{Sets, set_of}
use Rattle.cs_regions.specs.declared.base.Base.{Base}
use Rattle.cs_store.specs.declared.value.Value.{Value}
use Rattle.cs_store.specs.declared.value.Value.TheVariants as value
use Rattle.cs_store.specs.declared.value.Fill.TheVariants.{Unset}
use Rattle.cs_store.specs.declared.value.Binding.TheVariants.{Direct, Fill}
use Rattle.cs_store.specs.Contents.{Contents, bindings_of, filled}
use Rattle.cs_store.specs.Held.{contents_of, regions_of}
use Rattle.cs_store.specs.Listings.{origin_of, has_origin}
use Rattle.cs_state.specs.declared.block.Block.{Block}
use Rattle.cs_state.specs.declared.read_cells.ReadCell.{ReadCell}
use Rattle.cs_state.specs.declared.state.State.{State}
use Rattle.cs_state.specs.declared.temporary.Temporary.{Temporary}
use Rattle.cs_state.specs.declared.temporary.Temporary.TheVariants as temporary
use Rattle.cs_state.specs.Cells.{Blocks}
use Rattle.cs_state.specs.ReadLists.{cells_in_order}
use Rattle.cs_state.specs.Writes.{with_constraints}
use Rattle.cs_cfg.specs.IntegerCode.{count_of_locals}
use Rattle.cs_keys.specs.Live.{Linear, Far, Number, At, Scalar}
use Rattle.cs_keys.specs.Live.{live_symbol, live_over, live_term, live_value, live_temporary, live_frame, live_binding, live_region, live_entry, live_read}
use Rattle.cs_keys.specs.Live.{live_blocks, live_reads, live_part}
use Rattle.cs_explored.specs.Placing.{IsPlain}
use Rattle.cs_progress.specs.Locals.{IsOver, PointsToLocal, PointToLocals, AreIn, HasLocalsAlone}
use Rattle.cs_coverage.specs.Agreeing.{IsBlockOver, AreBlocksOver}
use Rattle.cs_coverage.proofs.AllEntries.{all_entries, all_read, OfCell}

-- functions that are equal on all elements have equal images
mapped : {A B : Type 0} (P : A → Type 0) (f g : A → B) → ((x : A) → P x → f x ≡ g x) → (xs : List A) → All P xs → map f xs ≡ map g xs
mapped P f g equal [] all = refl
mapped P f g equal (x ∷ xs) all =
    let head = equal x (All-head P x xs all) in
    let tail = mapped P f g equal xs (All-tail P x xs all) in
    λ i. head i ∷ tail i

module _ (sets others : Sets) (known : ℕ → Bool) (same : (symbol : ℕ) → known symbol ≡ true → set_of sets symbol ≡ set_of others symbol) where
  symbol_same : (s : Sym) → known s.0 ≡ true → live_symbol sets s ≡ live_symbol others s
  symbol_same s is = λ i. record { number = s.0; set = same s.0 is i }

  over_same : (over : Option Sym) (term : Lin) → ((s : Sym) → over ≡ Some s → known s.0 ≡ true) → live_over sets over term ≡ live_over others over term
  over_same None term is = refl
  over_same (Some s) term is =
      let symbols = symbol_same s (is s refl) in
      λ i. if has_origin term
      then Linear (record { slope = term.slope; origin = origin_of term; symbol = symbols i })
      else Far (record { slope = term.slope; at = term.at; value = term.value; symbol = symbols i })

  term_same : (term : Lin) → IsOver known term → live_term sets term ≡ live_term others term
  term_same term is = over_same term.sym term is

  value_same : (bases : List Base) (frame count : ℕ) (given : Value) → PointsToLocal bases known frame count given
      → live_value sets given ≡ live_value others given
  value_same bases frame count (value.Number term) is = ap Number (term_same term is)
  value_same bases frame count value.Null is = refl
  value_same bases frame count (value.At base offset) is = ap (At base) (term_same offset is.1)
  value_same bases frame count (value.Start base offset) is = refl
  value_same bases frame count value.Unset is = refl

  temporary_same : (bases : List Base) (frame count : ℕ) (given : Temporary) → PointToLocals bases known frame count given
      → live_temporary sets given ≡ live_temporary others given
  temporary_same bases frame count (temporary.Scalar given) is = ap Scalar (value_same bases frame count given is)
  temporary_same bases frame count (temporary.Whole values) is = absurd is
  temporary_same bases frame count temporary.Nothing is = refl

  returned_same : (bases : List Base) (frame count : ℕ) (result : Option Value)
      → ((given : Value) → result ≡ Some given → PointsToLocal bases known frame count given)
      → option_map (live_value sets) result ≡ option_map (live_value others) result
  returned_same bases frame count None is = refl
  returned_same bases frame count (Some given) is = ap (λ v. Some v) (value_same bases frame count given (is given refl))

  block_same : (entry : (ℕ × ℕ) × Block) → IsBlockOver known entry.1 → live_entry sets entry ≡ live_entry others entry
  block_same entry is =
      let extents = term_same entry.1.extent is.0 in
      let symbols = symbol_same entry.1.sym is.1 in
      λ i. record {
        base = entry.0.0;
        extent = extents i;
        standing = entry.1.standing;
        element = entry.1.element.0;
        symbol = symbols i;
        made_by = entry.1.made_by;
      }

  pub blocks_same : (blocks : Blocks) → AreBlocksOver known blocks → live_blocks sets blocks ≡ live_blocks others blocks
  blocks_same blocks are =
      mapped (λ (entry : (ℕ × ℕ) × Block). IsBlockOver known entry.1) (live_entry sets) (live_entry others) block_same (finite.entries blocks) are

  read_same : (cell : ReadCell) → known cell.sym.0 ≡ true → live_read sets cell ≡ live_read others cell
  read_same cell is = let symbols = symbol_same cell.sym is in λ i. record { base = cell.base; offset = cell.offset; symbol = symbols i }

  module _ (program : TypedProgram) (bases : List Base) (state : State) (has : HasLocalsAlone program bases known state) (plain : IsPlain state) where
    abbrev count : ℕ
    count = count_of_locals program state.frame.spot.function

    frames_same : live_frame sets state.frame ≡ live_frame others state.frame
    frames_same =
        let temporaries =
        mapped (AreIn program bases known state.frame) (live_temporary sets) (live_temporary others) (temporary_same bases state.frame.number count)
        state.frame.temporaries has.temporaries in
        λ i. record { number = state.frame.number; spot = state.frame.spot; temporaries = temporaries i; visits = state.frame.visits }

    callers_same : map (live_frame sets) state.callers ≡ map (live_frame others) state.callers
    callers_same = ap (map (live_frame sets)) has.callers ∙ sym (ap (map (live_frame others)) has.callers)

    answers_same : map (live_term sets) state.answers ≡ map (live_term others) state.answers
    answers_same = mapped (IsOver known) (live_term sets) (live_term others) term_same state.answers has.answers

    abbrev Bound : ℕ × Value → Type 0
    Bound bound = PointsToLocal bases known state.frame.number count bound.1

    -- the bindings of a base region have equal live parts
    abbrev IsSame : ℕ × Contents → Type 0
    IsSame region = map (live_binding sets) (bindings_of region.1) ≡ map (live_binding others) (bindings_of region.1)

    bound_same : (key : ℕ × ℕ) (contents : Contents) → finite.get state.store key ≡ Some contents → IsSame (key.0, contents)
    bound_same key contents is =
        mapped Bound (live_binding sets) (live_binding others)
        (λ bound inside. let values = value_same bases state.frame.number count bound.1 inside in λ i. (bound.0, values i))
        (bindings_of contents)
        (All-map Bound (λ (e : (ℕ × ℕ) × Value). (e.0.0, e.1)) (finite.entries contents.direct)
        (all_entries (λ offset given. PointsToLocal bases known state.frame.number count given) contents.direct inside))
      where
        there : contents_of state.store key.0 ≡ contents
        there =
            ap (λ (found : Option Contents). unwrap_or found (filled Unset))
            (subst (λ (n : ℕ). finite.get state.store (key.0, n) ≡ Some contents) (plain.store.regions key contents is) is)

        inside : (offset : ℕ × ℕ) (given : Value) → finite.get contents.direct offset ≡ Some given
            → PointsToLocal bases known state.frame.number count given
        inside offset given here =
            let bound : finite.get (contents_of state.store key.0).direct offset ≡ Some given
            = ap (λ (c : Contents). finite.get c.direct offset) there ∙ here in
            let zero = plain.store.bindings key.0 offset (ap is_some bound) in
            let first : finite.get (contents_of state.store key.0).direct (offset.0, 0) ≡ Some given
            = subst (λ (n : ℕ). finite.get (contents_of state.store key.0).direct (offset.0, n) ≡ Some given) zero bound in
            has.stored key.0 offset.0 given
            (ap (λ found. option_map_or (λ given. Direct given) found (Fill (contents_of state.store key.0).fill)) first)

    regions_same : map (live_region sets) (regions_of state.store) ≡ map (live_region others) (regions_of state.store)
    regions_same =
        mapped IsSame (live_region sets) (live_region others)
        (λ region bindings. λ i. record { base = region.0; fill = region.1.fill; bindings = bindings i })
        (regions_of state.store)
        (All-map IsSame (λ (e : (ℕ × ℕ) × Contents). (e.0.0, e.1)) (finite.entries state.store)
        (all_entries (λ key contents. IsSame (key.0, contents)) state.store bound_same))

    reads_same : live_reads sets state.read ≡ live_reads others state.read
    reads_same =
        mapped (OfCell (λ symbol. known symbol ≡ true) state.read) (live_read sets) (live_read others) read_same (cells_in_order state.read)
        (all_read (λ symbol. known symbol ≡ true) state.read plain.read has.read)

module _ (program : TypedProgram) (bases : List Base) (known agreeing : ℕ → Bool) (state : State) (has : HasLocalsAlone program bases known state)
    (blocks : AreBlocksOver agreeing state.blocks) (plain : IsPlain state) (sets : Sets)
    (same : (symbol : ℕ) → known symbol ≡ true → set_of sets symbol ≡ set_of state.constraints symbol)
    (equal : (symbol : ℕ) → agreeing symbol ≡ true → set_of sets symbol ≡ set_of state.constraints symbol) where
  pub live_same : live_part (with_constraints sets state) ≡ live_part state
  live_same =
      let frame = frames_same sets state.constraints known same program bases state has plain in
      let callers = callers_same sets state.constraints known same program bases state has plain in
      let answers = answers_same sets state.constraints known same program bases state has plain in
      let returned = returned_same sets state.constraints known same bases state.frame.number (count_of_locals program state.frame.spot.function)
      state.result has.result in
      let regions = regions_same sets state.constraints known same program bases state has plain in
      let read = reads_same sets state.constraints known same program bases state has plain in
      let held = blocks_same sets state.constraints agreeing equal state.blocks blocks in
      λ i. record {
        frame = frame i;
        callers = callers i;
        answers = answers i;
        returned = returned i;
        regions = regions i;
        blocks = held i;
        read = read i;
        model = state.model;
        counters = state.counters;
        phase = state.phase;
      }
