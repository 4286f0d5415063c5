-- States with equal live parts mention the same symbols: for the merging of rows.
use Rattle.std.proofs.Common.{◌≡◌, ℕ, Bool, true, List, [], ◌∷◌, Option, None, Some, map, All, refl, sym, ap, ◌∙◌, subst}
use Rattle.std.specs.Prelude.{option_map}
use Rattle.std.specs.Option.{option_map_or}
use Rattle.std.specs.FinMap as finite
use Rattle.std.proofs.lemmas.List.Elements.{All-nil, All-cons, All-head, All-tail}
use Rattle.std.proofs.lemmas.Option.{same_Some}
use Rattle.cs_ast.specs.TypedProgram.{TypedProgram}
use Rattle.cs_terms.specs.declared.symbol.Sym.{Sym}
use Rattle.cs_terms.specs.declared.term.Lin.{Lin}
use Rattle.cs_terms.specs.Term.{Valuation}
use Rattle.cs_pmap.specs.Keys.{EntryList}
use Rattle.cs_constraints.specs.Constraints.{set_of}
use Rattle.cs_regions.specs.declared.base.Base.{Base}
use Rattle.cs_store.specs.declared.value.Value.{Value}
use Rattle.cs_store.specs.declared.value.Value.TheVariants as value
use Rattle.cs_store.specs.declared.value.Binding.TheVariants.{Direct, Fill}
use Rattle.cs_store.specs.Held.{contents_of, held}
use Rattle.cs_state.specs.declared.block.Block.{Block}
use Rattle.cs_state.specs.declared.read_cells.ReadCell.{ReadCell}
use Rattle.cs_state.specs.declared.state.State.{State}
use Rattle.cs_state.specs.ReadCells.{read_at}
use Rattle.cs_state.specs.ReadLists.{cells_in_order}
use Rattle.cs_state.specs.declared.temporary.Temporary.{Temporary}
use Rattle.cs_state.specs.declared.temporary.Temporary.TheVariants as temporary
use Rattle.cs_cfg.specs.IntegerCode.{count_of_locals}
use Rattle.cs_keys.specs.Live.{LiveSymbol, LiveBlock, LiveRead, LivePart, live_symbol, live_term, live_value, live_temporary, live_entry, live_read, live_part}
use Rattle.cs_keys.proofs.Lines.{same_values}
use Rattle.cs_progress.specs.Locals.{IsOver, PointsToLocal, PointToLocals, HasLocalsAlone}
use Rattle.cs_coverage.specs.Agreeing.{IsBlockOver, AreBlocksOver}
use Rattle.cs_coverage.proofs.AlikeEntries.{FindsAlike}
use Rattle.cs_coverage.proofs.AllEntries.{all_read, each_read}
use Rattle.cs_coverage.proofs.Beginnings.{bound_in}
use Rattle.cs_coverage.proofs.LiveMeaning.{SameValue, direct_alike}
use Rattle.cs_coverage.proofs.Merging.{SaysAll, contents_alike}

module _ (one two : State) (known kept : ℕ → Bool)
    (keeps : (symbol : ℕ) → known symbol ≡ true → set_of one.constraints symbol ≡ set_of two.constraints symbol → kept symbol ≡ true) where
  -- terms with equal live parts are over the same symbol, with the same numbers
  over_alike : (x y : Lin) → live_term one.constraints x ≡ live_term two.constraints y → IsOver known x → IsOver kept y
  over_alike x y same over symbol is =
      let function = same_values one.constraints two.constraints x y same in
      by x.sym refl (function.symbol ∙ ap (option_map (live_symbol two.constraints)) is)
    where
      by : (found : Option Sym) → x.sym ≡ found
          → option_map (live_symbol one.constraints) x.sym ≡ Some (live_symbol two.constraints symbol) → kept symbol.0 ≡ true
      by None none alike =
          let wrong : None ≡ Some (live_symbol two.constraints symbol) = ap (option_map (live_symbol one.constraints)) (sym none) ∙ alike in
          cc
      by (Some found) there alike =
          let said : live_symbol one.constraints found ≡ live_symbol two.constraints symbol
          = same_Some (live_symbol one.constraints found) (live_symbol two.constraints symbol)
          (ap (option_map (live_symbol one.constraints)) (sym there) ∙ alike) in
          let numbers : found.0 ≡ symbol.0 = ap (λ (l : LiveSymbol). l.number) said in
          let sets : set_of one.constraints found.0 ≡ set_of two.constraints symbol.0 = ap (λ (l : LiveSymbol). l.set) said in
          keeps symbol.0 (ap known (sym numbers) ∙ over found there) (ap (set_of one.constraints) (sym numbers) ∙ sets)

  -- values
  points_alike : (bases : List Base) (declared : ℕ → Bool) (frame count other number : ℕ) (x y : Value)
      → live_value one.constraints x ≡ live_value two.constraints y → PointsToLocal bases known frame count x
      → PointsToLocal bases declared other number y → PointsToLocal bases kept other number y
  points_alike bases declared frame count other number (value.Number x) (value.Number y) same over has =
      let terms : live_term one.constraints x ≡ live_term two.constraints y = cc in
      over_alike x y terms over
  points_alike bases declared frame count other number (value.At base x) (value.At place y) same over has =
      let terms : live_term one.constraints x ≡ live_term two.constraints y = cc in
      (has.0, over_alike x y terms over.1)
  points_alike bases declared frame count other number x value.Null same over has = tt
  points_alike bases declared frame count other number x value.Unset same over has = tt
  points_alike bases declared frame count other number x (value.Start base offset) same over has = absurd has
  points_alike bases declared frame count other number x y same over has = cc

  -- temporaries
  all_alike : (bases : List Base) (declared : ℕ → Bool) (frame count other number : ℕ) (x y : Temporary)
      → live_temporary one.constraints x ≡ live_temporary two.constraints y → PointToLocals bases known frame count x
      → PointToLocals bases declared other number y → PointToLocals bases kept other number y
  all_alike bases declared frame count other number (temporary.Scalar x) (temporary.Scalar y) same over has =
      let values : live_value one.constraints x ≡ live_value two.constraints y = cc in
      points_alike bases declared frame count other number x y values over has
  all_alike bases declared frame count other number x temporary.Nothing same over has = tt
  all_alike bases declared frame count other number x (temporary.Whole ys) same over has = absurd has
  all_alike bases declared frame count other number x y same over has = cc

  answers_alike : (xs ys : List Lin) → map (live_term one.constraints) xs ≡ map (live_term two.constraints) ys → All (IsOver known) xs
      → All (IsOver kept) ys
  answers_alike xs [] same over = All-nil (IsOver kept)
  answers_alike [] (y ∷ ys) same over = cc
  answers_alike (x ∷ xs) (y ∷ ys) same over =
      let first : live_term one.constraints x ≡ live_term two.constraints y = cc in
      let rest : map (live_term one.constraints) xs ≡ map (live_term two.constraints) ys = cc in
      All-cons (IsOver kept) y ys (over_alike x y first (All-head (IsOver known) x xs over))
      (answers_alike xs ys rest (All-tail (IsOver known) x xs over))

  returned_alike : (bases : List Base) (declared : ℕ → Bool) (frame count other number : ℕ) (x y : Option Value)
      → option_map (live_value one.constraints) x ≡ option_map (live_value two.constraints) y
      → ((given : Value) → x ≡ Some given → PointsToLocal bases known frame count given)
      → ((given : Value) → y ≡ Some given → PointsToLocal bases declared other number given) → (given : Value) → y ≡ Some given
      → PointsToLocal bases kept other number given
  returned_alike bases declared frame count other number x None same over has given is = cc
  returned_alike bases declared frame count other number None (Some y) same over has given is = cc
  returned_alike bases declared frame count other number (Some x) (Some y) same over has given is =
      let values : live_value one.constraints x ≡ live_value two.constraints y = cc in
      subst (PointsToLocal bases kept other number) (same_Some y given is)
      (points_alike bases declared frame count other number x y values (over x refl) (has y refl))

  -- symbols of blocks and of what was read
  symbol_alike : (x y : Sym) → live_symbol one.constraints x ≡ live_symbol two.constraints y → known x.0 ≡ true → kept y.0 ≡ true
  symbol_alike x y same is =
      let numbers : x.0 ≡ y.0 = ap (λ (l : LiveSymbol). l.number) same in
      let sets : set_of one.constraints x.0 ≡ set_of two.constraints y.0 = ap (λ (l : LiveSymbol). l.set) same in
      keeps y.0 (ap known (sym numbers) ∙ is) (ap (set_of one.constraints) (sym numbers) ∙ sets)

  blocks_over : (xs ys : EntryList Block) → map (live_entry one.constraints) xs ≡ map (live_entry two.constraints) ys
      → All (λ (entry : (ℕ × ℕ) × Block). IsBlockOver known entry.1) xs → All (λ (entry : (ℕ × ℕ) × Block). IsBlockOver kept entry.1) ys
  blocks_over xs [] same over = All-nil (λ (entry : (ℕ × ℕ) × Block). IsBlockOver kept entry.1)
  blocks_over [] (y ∷ ys) same over = cc
  blocks_over (x ∷ xs) (y ∷ ys) same over =
      let first : live_entry one.constraints x ≡ live_entry two.constraints y = cc in
      let rest : map (live_entry one.constraints) xs ≡ map (live_entry two.constraints) ys = cc in
      let is = All-head (λ (entry : (ℕ × ℕ) × Block). IsBlockOver known entry.1) x xs over in
      All-cons (λ (entry : (ℕ × ℕ) × Block). IsBlockOver kept entry.1) y ys (
        over_alike x.1.extent y.1.extent (ap (λ (l : LiveBlock). l.extent) first) is.0,
        symbol_alike x.1.sym y.1.sym (ap (λ (l : LiveBlock). l.symbol) first) is.1,
      )
      (blocks_over xs ys rest (All-tail (λ (entry : (ℕ × ℕ) × Block). IsBlockOver known entry.1) x xs over))

  pub blocks_mentioned : live_part one ≡ live_part two → AreBlocksOver known one.blocks → AreBlocksOver kept two.blocks
  blocks_mentioned same = blocks_over (finite.entries one.blocks) (finite.entries two.blocks) (ap (λ (l : LivePart). l.blocks) same)

  reads_over : (xs ys : List ReadCell) → map (live_read one.constraints) xs ≡ map (live_read two.constraints) ys
      → All (λ (cell : ReadCell). known cell.sym.0 ≡ true) xs → All (λ (cell : ReadCell). kept cell.sym.0 ≡ true) ys
  reads_over xs [] same over = All-nil (λ (cell : ReadCell). kept cell.sym.0 ≡ true)
  reads_over [] (y ∷ ys) same over = cc
  reads_over (x ∷ xs) (y ∷ ys) same over =
      let first : live_read one.constraints x ≡ live_read two.constraints y = cc in
      let rest : map (live_read one.constraints) xs ≡ map (live_read two.constraints) ys = cc in
      All-cons (λ (cell : ReadCell). kept cell.sym.0 ≡ true) y ys
      (symbol_alike x.sym y.sym (ap (λ (l : LiveRead). l.symbol) first) (All-head (λ (cell : ReadCell). known cell.sym.0 ≡ true) x xs over))
      (reads_over xs ys rest (All-tail (λ (cell : ReadCell). known cell.sym.0 ≡ true) x xs over))

  module _ (bases : List Base) (declared : ℕ → Bool) (frame count other number : ℕ) where
    temporaries_alike : (xs ys : List Temporary) → map (live_temporary one.constraints) xs ≡ map (live_temporary two.constraints) ys
        → All (PointToLocals bases known frame count) xs → All (PointToLocals bases declared other number) ys
        → All (PointToLocals bases kept other number) ys
    temporaries_alike xs [] same over has = All-nil (PointToLocals bases kept other number)
    temporaries_alike [] (y ∷ ys) same over has = cc
    temporaries_alike (x ∷ xs) (y ∷ ys) same over has =
        let first : live_temporary one.constraints x ≡ live_temporary two.constraints y = cc in
        let rest : map (live_temporary one.constraints) xs ≡ map (live_temporary two.constraints) ys = cc in
        All-cons (PointToLocals bases kept other number) y ys
        (all_alike bases declared frame count other number x y first (All-head (PointToLocals bases known frame count) x xs over)
        (All-head (PointToLocals bases declared other number) y ys has))
        (temporaries_alike xs ys rest (All-tail (PointToLocals bases known frame count) x xs over)
        (All-tail (PointToLocals bases declared other number) y ys has))

  module _ (program : TypedProgram) (bases : List Base) (declared : ℕ → Bool) (same : live_part one ≡ live_part two) (says : SaysAll one)
      (tells : SaysAll two) (mentioned : HasLocalsAlone program bases known one) (has : HasLocalsAlone program bases declared two)
      (possible : Valuation) where
    abbrev frame : ℕ
    frame = one.frame.number

    abbrev count : ℕ
    count = count_of_locals program one.frame.spot.function

    -- what is bound in one of them is bound in the other
    stored : (base offset : ℕ) (given : Value) → held two.store base offset ≡ Direct given
        → PointsToLocal bases kept two.frame.number (count_of_locals program two.frame.spot.function) given
    stored base offset given is =
        by (finite.get (contents_of one.store base).direct (offset, 0)) refl
        (subst (λ found. FindsAlike (SameValue one.constraints two.constraints) (finite.get (contents_of one.store base).direct (offset, 0)) found)
        bound
        (direct_alike one.constraints two.constraints (contents_of one.store base) (contents_of two.store base) (says.plain.store.bindings base)
        (tells.plain.store.bindings base) (contents_alike one two same says tells possible possible (λ symbol equal. refl) base) offset))
      where
        bound : finite.get (contents_of two.store base).direct (offset, 0) ≡ Some given
        bound = bound_in (finite.get (contents_of two.store base).direct (offset, 0)) (contents_of two.store base).fill given is

        by : (found : Option Value) → finite.get (contents_of one.store base).direct (offset, 0) ≡ found
            → FindsAlike (SameValue one.constraints two.constraints) (finite.get (contents_of one.store base).direct (offset, 0)) (Some given)
            → PointsToLocal bases kept two.frame.number (count_of_locals program two.frame.spot.function) given
        by None none alike =
            absurd (subst (λ found. FindsAlike (SameValue one.constraints two.constraints) found (Some given)) none alike)
        by (Some x) there alike =
            points_alike bases declared frame count two.frame.number (count_of_locals program two.frame.spot.function) x given
            (subst (λ found. FindsAlike (SameValue one.constraints two.constraints) found (Some given)) there alike)
            (mentioned.stored base offset x
            (ap (λ found. option_map_or (λ given. Direct given) found (Fill (contents_of one.store base).fill)) there))
            (has.stored base offset given is)

    read : (base offset : ℕ) (symbol : Sym) → read_at two.read base offset ≡ Some symbol → kept symbol.0 ≡ true
    read =
        each_read (λ symbol. kept symbol ≡ true) two.read
        (reads_over (cells_in_order one.read) (cells_in_order two.read) (ap (λ (l : LivePart). l.read) same)
        (all_read (λ symbol. known symbol ≡ true) one.read says.plain.read mentioned.read))

    pub mentioned_alike : HasLocalsAlone program bases kept two
    mentioned_alike = record {
      callers = has.callers;
      answers = answers_alike one.answers two.answers (ap (λ (l : LivePart). l.answers) same) mentioned.answers;
      temporaries =
          temporaries_alike bases declared frame count two.frame.number (count_of_locals program two.frame.spot.function)
          one.frame.temporaries two.frame.temporaries (ap (λ (l : LivePart). l.frame.temporaries) same) mentioned.temporaries has.temporaries;
      stored = stored;
      filled = has.filled;
      result =
          returned_alike bases declared frame count two.frame.number (count_of_locals program two.frame.spot.function) one.result two.result
          (ap (λ (l : LivePart). l.returned) same) mentioned.result has.result;
      read = read;
    }
