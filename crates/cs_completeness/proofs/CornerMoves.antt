-- The corners of a suspected guess are valuations: the symbols of its operands have the noted ends. For `IsEvidentGuess`.
use Rattle.std.proofs.Common.{◌≡◌, ◌≢◌, ◌⊎◌, inl, inr, ℕ, ℤ, List, [], ◌∷◌, map, Option, None, Some, All, slice_get}
use Rattle.std.proofs.Common.{refl, sym, ap, ◌∙◌, subst, arith}
use Rattle.std.specs.Prelude.{Contains}
use Rattle.std.proofs.lemmas.Bool.Decides.{eqb_tells}
use Rattle.std.proofs.lemmas.List.Elements.{All-nil, All-from_recursion}
use Rattle.std.proofs.lemmas.Option.{same_Some}
use Rattle.cs_ranges.specs.declared.range_set.Interval.{Interval}
use Rattle.cs_terms.specs.Table.{HasEachOnce}
use Rattle.cs_terms.specs.Term.{Valuation}
use Rattle.cs_terms.specs.declared.symbol.Sym.{Sym}
use Rattle.cs_terms.specs.declared.symbol.SymName.{SymName}
use Rattle.cs_state.specs.declared.asked.Asked.{Asked}
use Rattle.cs_state.specs.Naming.{Naming}
use Rattle.cs_suspect_types.specs.declared.suspect.OperandRange.{OperandRange}
use Rattle.cs_guesses.specs.Cornered.{HasEnd, IsAtEnds, IsNamed, IsOfOperand}
use Rattle.cs_suspects.specs.Suspected.{range_of, named_range}
use Rattle.cs_witness.specs.Evidence.{Changes, AreCorners, of_right, of_left, of_one, of_both, ends_of, four_of}
use Rattle.cs_completeness.proofs.ChangedNumbers.{with_number, number_there, number_elsewhere, Move, after, changes_of}

-- both valuations have the same number for the symbol, if there is one
abbrev pub AgreeAt : Option Sym → Valuation → Valuation → Type 0
AgreeAt symbol v w = (sym : Sym) → symbol ≡ Some sym → v sym.0 ≡ w sym.0

-- two ranges of one symbol are equal
abbrev pub HasOneRange : Asked → Type 0
HasOneRange asked = (sym : Sym) → asked.left.sym ≡ Some sym → asked.right.sym ≡ Some sym → asked.ends.left ≡ asked.ends.right

no_symbol : (symbol : Option Sym) → symbol ≡ None → (other : Sym) → symbol ≡ Some other → ⊥
no_symbol symbol none other is = cc

same_symbol : (one other : Sym) → one.0 ≡ other.0 → one ≡ other
same_symbol one other same = λ i. record { 0 = same i }

the_symbol : (symbol : Option Sym) (one other : Sym) → symbol ≡ Some one → symbol ≡ Some other → one.0 ≡ other.0
the_symbol symbol one other is there = ap (λ (s : Sym). s.0) (same_Some one other (sym is ∙ there))

no_name : (found : Option SymName) → found ≡ None → (name : SymName) → found ≡ Some name → ⊥
no_name found none name is = cc

module _ (names : Naming) where
  -- the symbol has no name
  abbrev pub IsUnnamed : Option Sym → Type 0
  IsUnnamed symbol = (other : Sym) → symbol ≡ Some other → ¬ IsNamed names other

  -- the range belongs to the symbol, if this has a name
  pub data IsOf (symbol : Option Sym) (ends : Interval) : Option OperandRange → Type 0 where
    without : IsUnnamed symbol → IsOf symbol ends None
    with_range : (own : Sym) (range : OperandRange) → symbol ≡ Some own → slice_get names.syms own.0 ≡ Some range.symbol → range.least ≡ ends.low
        → range.greatest ≡ ends.high → IsOf symbol ends (Some range)

  pub is_of : (symbol : Option Sym) (ends : Interval) → IsOf symbol ends (range_of names symbol ends)
  is_of None ends = without (λ other is. absurd (no_symbol None refl other is))
  is_of (Some own) ends = by (slice_get names.syms own.0) refl
    where
      by : (found : Option SymName) → slice_get names.syms own.0 ≡ found → IsOf (Some own) ends (range_of names (Some own) ends)
      by (Some name) is = rw is (with_range own (named_range ends name) refl is refl refl)
      by None is = rw is (without (λ other same named.
          let there : slice_get names.syms own.0 ≡ Some named.0
          = subst (λ (symbol : ℕ). slice_get names.syms symbol ≡ Some named.0) (sym (the_symbol (Some own) own other refl same)) named.1 in
          absurd (no_name (slice_get names.syms own.0) is named.0 there)))

  module _ (once : HasEachOnce names.syms) (asked : Asked) (v : Valuation) where
    abbrev Moves : Type 0
    Moves = List (Move names.syms)

    abbrev moved : Moves → Valuation
    moved moves = after names.syms moves v

    -- the symbols of the operands have no names, or their numbers are those of one of these corners
    abbrev pub IsLikeOne : List Moves → Valuation → Type 0
    IsLikeOne corners w =
        ((moves : Moves) × Contains corners moves × AgreeAt asked.left.sym w (moved moves) × AgreeAt asked.right.sym w (moved moves))
        ⊎ (IsUnnamed asked.left.sym × IsUnnamed asked.right.sym)

    -- symbols without names keep their numbers
    abbrev pub KeepsUnnamed : Valuation → Type 0
    KeepsUnnamed w = (other : Sym) → ¬ IsNamed names other → w other.0 ≡ v other.0

    pub keeps_unnamed : (w : Valuation) → IsAtEnds names asked v w → KeepsUnnamed w
    keeps_unnamed w ends other unnamed = ends.others other (λ it. unnamed it.1)

    -- the changes are those of corners, and each valuation with ends is like one of these
    pub record HasMoves (changes : List Changes) : Type 0 where
      pub moves : List Moves
      pub are : changes ≡ map (changes_of names.syms) moves
      pub at_ends : All (λ (one : Moves). IsAtEnds names asked v (moved one)) moves
      pub each : (w : Valuation) → IsAtEnds names asked v w → IsLikeOne moves w

    -- one symbol, with its two ends
    module _ (own : Sym) (range : OperandRange) (there : slice_get names.syms own.0 ≡ Some range.symbol) where
      abbrev one : ℤ → Moves
      one number = record { symbol = own.0; name = range.symbol; there = there; number = number } ∷ []

      own_named : IsNamed names own
      own_named = (range.symbol, there)

      -- an operand's symbol has no name, or is this one with these ends
      abbrev IsOverOne : Option Sym → Interval → Type 0
      IsOverOne symbol ends = IsUnnamed symbol ⊎ ((symbol ≡ Some own) × (range.least ≡ ends.low) × (range.greatest ≡ ends.high))

      abbrev IsItsEnd : ℤ → Type 0
      IsItsEnd number = (number ≡ range.least) ⊎ (number ≡ range.greatest)

      its_number : (symbol : Option Sym) → symbol ≡ Some own → (number : ℤ) (other : Sym) → symbol ≡ Some other
          → moved (one number) other.0 ≡ number
      its_number symbol is number other same =
          subst (λ (s : ℕ). moved (one number) s ≡ number) (the_symbol symbol own other is same) (number_there own.0 number v)

      has_end : (symbol : Option Sym) (ends : Interval) → IsOverOne symbol ends → (number : ℤ) → IsItsEnd number
          → HasEnd names symbol ends (moved (one number))
      has_end symbol ends (inl none) number is = λ other there named. absurd (none other there named)
      has_end symbol ends (inr (is, low, high)) number (inl least) = λ other there named. inl (its_number symbol is number other there ∙ least ∙ low)
      has_end symbol ends (inr (is, low, high)) number (inr most) = λ other there named. inr (its_number symbol is number other there ∙ most ∙ high)

      agrees : (symbol : Option Sym) (ends : Interval) → IsOverOne symbol ends → (w : Valuation) → KeepsUnnamed w
          → (number : ℤ) → w own.0 ≡ number
          → AgreeAt symbol w (moved (one number))
      agrees symbol ends (inl none) w kept number same =
          λ other there. kept other (none other there)
          ∙ sym (number_elsewhere own.0 number v other.0 (λ equal.
          none other there (subst (IsNamed names) (same_symbol own other (sym equal)) own_named)))
      agrees symbol ends (inr (is, low, high)) w kept number same =
          λ other there.
          subst (λ (s : ℕ). w s ≡ number) (the_symbol symbol own other is there) same ∙ sym (its_number symbol is number other there)

      its_end : (symbol : Option Sym) (ends : Interval) → IsOverOne symbol ends → symbol ≡ Some own → (w : Valuation) → HasEnd names symbol ends w
          → IsItsEnd (w own.0)
      its_end symbol ends (inl none) is w has = absurd (none own is own_named)
      its_end symbol ends (inr (same, low, high)) is w has = elim (has own is own_named) [
        | inl least ↦ inl (least ∙ sym low)
        | inr most ↦ inr (most ∙ sym high)
      ]

      module _ (left : IsOverOne asked.left.sym asked.ends.left) (right : IsOverOne asked.right.sym asked.ends.right)
          (some : (asked.left.sym ≡ Some own) ⊎ (asked.right.sym ≡ Some own)) where
        others : (number : ℤ) (other : Sym) → ¬ IsOfOperand names asked other → moved (one number) other.0 ≡ v other.0
        others number other apart =
            number_elsewhere own.0 number v other.0 (λ same.
            let it : own ≡ other = same_symbol own other (sym same) in
            apart (subst (IsOfOperand names asked) it (some, own_named)))

        at_end : (number : ℤ) → IsItsEnd number → IsAtEnds names asked v (moved (one number))
        at_end number is = record {
          left = has_end asked.left.sym asked.ends.left left number is;
          right = has_end asked.right.sym asked.ends.right right number is;
          others = others number;
        }

        abbrev both : List Moves
        both = one range.least ∷ one range.greatest ∷ []

        like : (w : Valuation) → KeepsUnnamed w → IsItsEnd (w own.0) → IsLikeOne both w
        like w kept (inl least) = inl (
          one range.least,
          (0, omega arith, refl),
          agrees asked.left.sym asked.ends.left left w kept range.least least,
          agrees asked.right.sym asked.ends.right right w kept range.least least,
        )
        like w kept (inr most) = inl (
          one range.greatest,
          (1, omega arith, refl),
          agrees asked.left.sym asked.ends.left left w kept range.greatest most,
          agrees asked.right.sym asked.ends.right right w kept range.greatest most,
        )

        over_one : HasMoves (((range.symbol, range.least) ∷ []) ∷ ((range.symbol, range.greatest) ∷ []) ∷ [])
        over_one = record {
          moves = both;
          are = refl;
          at_ends = All-from_recursion (λ (moves : Moves). IsAtEnds names asked v (moved moves)) both
              (at_end range.least (inl refl), (at_end range.greatest (inr refl), tt));
          each = λ w ends. like w (keeps_unnamed w ends) (elim some [
            | inl is ↦ its_end asked.left.sym asked.ends.left left is w ends.left
            | inr is ↦ its_end asked.right.sym asked.ends.right right is w ends.right
          ]);
        }

    -- two symbols, with all choices of their ends
    module _ (first second : Sym) (left right : OperandRange) (is_first : asked.left.sym ≡ Some first)
        (is_second : asked.right.sym ≡ Some second)
        (there : slice_get names.syms first.0 ≡ Some left.symbol) (here : slice_get names.syms second.0 ≡ Some right.symbol)
        (apart : first.0 ≢ second.0) (left_low : left.least ≡ asked.ends.left.low) (left_high : left.greatest ≡ asked.ends.left.high)
        (right_low : right.least ≡ asked.ends.right.low) (right_high : right.greatest ≡ asked.ends.right.high) where
      abbrev two : ℤ → ℤ → Moves
      two x y =
          record { symbol = first.0; name = left.symbol; there = there; number = x }
          ∷ record { symbol = second.0; name = right.symbol; there = here; number = y } ∷ []

      at_first : (x y : ℤ) (other : Sym) → asked.left.sym ≡ Some other → moved (two x y) other.0 ≡ x
      at_first x y other is =
          subst (λ (s : ℕ). moved (two x y) s ≡ x) (the_symbol asked.left.sym first other is_first is)
          (number_elsewhere second.0 y (with_number first.0 x v) first.0 apart ∙ number_there first.0 x v)

      at_second : (x y : ℤ) (other : Sym) → asked.right.sym ≡ Some other → moved (two x y) other.0 ≡ y
      at_second x y other is =
          subst (λ (s : ℕ). moved (two x y) s ≡ y) (the_symbol asked.right.sym second other is_second is)
          (number_there second.0 y (with_number first.0 x v))

      beside : (x y : ℤ) (other : Sym) → ¬ IsOfOperand names asked other → moved (two x y) other.0 ≡ v other.0
      beside x y other none =
          number_elsewhere second.0 y (with_number first.0 x v) other.0
          (λ same. none (subst (IsOfOperand names asked) (same_symbol second other (sym same)) (inr is_second, (right.symbol, here))))
          ∙ number_elsewhere first.0 x v other.0
          (λ same. none (subst (IsOfOperand names asked) (same_symbol first other (sym same)) (inl is_first, (left.symbol, there))))

      is_left : (x y : ℤ) → (x ≡ left.least) ⊎ (x ≡ left.greatest) → HasEnd names asked.left.sym asked.ends.left (moved (two x y))
      is_left x y (inl least) = λ other so named. inl (at_first x y other so ∙ least ∙ left_low)
      is_left x y (inr most) = λ other so named. inr (at_first x y other so ∙ most ∙ left_high)

      is_right : (x y : ℤ) → (y ≡ right.least) ⊎ (y ≡ right.greatest) → HasEnd names asked.right.sym asked.ends.right (moved (two x y))
      is_right x y (inl least) = λ other so named. inl (at_second x y other so ∙ least ∙ right_low)
      is_right x y (inr most) = λ other so named. inr (at_second x y other so ∙ most ∙ right_high)

      is_corner : (x y : ℤ) → (x ≡ left.least) ⊎ (x ≡ left.greatest) → (y ≡ right.least) ⊎ (y ≡ right.greatest)
          → IsAtEnds names asked v (moved (two x y))
      is_corner x y one other = record { left = is_left x y one; right = is_right x y other; others = beside x y }

      abbrev all_four : List Moves
      all_four =
          two left.least right.least ∷ two left.least right.greatest ∷ two left.greatest right.least ∷ two left.greatest right.greatest ∷ []

      like_two : (w : Valuation) (x y : ℤ) → w first.0 ≡ x → w second.0 ≡ y
          → AgreeAt asked.left.sym w (moved (two x y)) × AgreeAt asked.right.sym w (moved (two x y))
      like_two w x y one other = (
        λ s is. subst (λ (n : ℕ). w n ≡ x) (the_symbol asked.left.sym first s is_first is) one ∙ sym (at_first x y s is),
        λ s is. subst (λ (n : ℕ). w n ≡ y) (the_symbol asked.right.sym second s is_second is) other ∙ sym (at_second x y s is),
      )

      among : (w : Valuation) → (w first.0 ≡ asked.ends.left.low) ⊎ (w first.0 ≡ asked.ends.left.high)
          → (w second.0 ≡ asked.ends.right.low) ⊎ (w second.0 ≡ asked.ends.right.high) → IsLikeOne all_four w
      among w (inl one) (inl other) =
          let like = like_two w left.least right.least (one ∙ sym left_low) (other ∙ sym right_low) in
          inl (two left.least right.least, (0, omega arith, refl), like.0, like.1)
      among w (inl one) (inr other) =
          let like = like_two w left.least right.greatest (one ∙ sym left_low) (other ∙ sym right_high) in
          inl (two left.least right.greatest, (1, omega arith, refl), like.0, like.1)
      among w (inr one) (inl other) =
          let like = like_two w left.greatest right.least (one ∙ sym left_high) (other ∙ sym right_low) in
          inl (two left.greatest right.least, (2, omega arith, refl), like.0, like.1)
      among w (inr one) (inr other) =
          let like = like_two w left.greatest right.greatest (one ∙ sym left_high) (other ∙ sym right_high) in
          inl (two left.greatest right.greatest, (3, omega arith, refl), like.0, like.1)

      abbrev OfMoves : Moves → Type 0
      OfMoves moves = IsAtEnds names asked v (moved moves)

      over_two : HasMoves (four_of left right)
      over_two = record {
        moves = all_four;
        are = refl;
        at_ends = All-from_recursion OfMoves all_four (
          is_corner left.least right.least (inl refl) (inl refl),
          (
            is_corner left.least right.greatest (inl refl) (inr refl),
            (is_corner left.greatest right.least (inr refl) (inl refl), (is_corner left.greatest right.greatest (inr refl) (inr refl), tt)),
          ),
        );
        each = λ w ends. among w (ends.left first is_first (left.symbol, there)) (ends.right second is_second (right.symbol, here));
      }

    -- each list of corners has moves
    pub corners_move : (left right : Option OperandRange) → IsOf asked.left.sym asked.ends.left left → IsOf asked.right.sym asked.ends.right right
        → HasOneRange asked → (changes : List Changes) → AreCorners left right changes → HasMoves changes
    corners_move None None (without none) (without nothing) one_range _ of_right =
        record { moves = []; are = refl; at_ends = All-nil (λ (moves : Moves). IsAtEnds names asked v (moved moves)); each = λ w ends. inr (none, nothing) }
    corners_move None (Some right) (without none) (with_range s _ is there low high) one_range _ of_right =
        over_one s right there (inl none) (inr (is, low, high)) (inr is)
    corners_move (Some left) None (with_range s _ is there low high) (without none) one_range _ of_left =
        over_one s left there (inr (is, low, high)) (inl none) (inl is)
    corners_move (Some left) (Some right) (with_range s _ is there low high) (with_range t _ is' there' low' high') one_range _ (of_one same) =
        let equal : t ≡ s = same_symbol t s
        (once t.0 s.0 left.symbol (subst (λ (n : SymName). slice_get names.syms t.0 ≡ Some n) (sym same) there') there) in
        let also : asked.right.sym ≡ Some s = is' ∙ ap (λ (z : Sym). Some z) equal in
        let ends = one_range s is also in
        over_one s left there (inr (is, low, high))
        (inr (also, low ∙ ap (λ (e : Interval). e.low) ends, high ∙ ap (λ (e : Interval). e.high) ends)) (inl is)
    corners_move (Some left) (Some right) (with_range s _ is there low high) (with_range t _ is' there' low' high') one_range _ (of_both apart) =
        let differ : s.0 ≢ t.0 = λ same.
        apart (same_Some left.symbol right.symbol
        (sym there ∙ ap (slice_get names.syms) same ∙ there')) in
        over_two s t left right is is' there there' differ low high low' high'

    -- and there is such a list
    pub some_corners : (left right : Option OperandRange) → IsOf asked.left.sym asked.ends.left left → IsOf asked.right.sym asked.ends.right right
        → (changes : List Changes) × AreCorners left right changes
    some_corners None right is is' = (ends_of right, of_right)
    some_corners (Some left) None is is' = (ends_of (Some left), of_left)
    some_corners (Some left) (Some right) (with_range s _ is there low high) (with_range t _ is' there' low' high') = elim (eqb_tells s.0 t.0) [
      | inl same ↦
          (ends_of (Some left), of_one (same_Some left.symbol right.symbol (sym there ∙ ap (slice_get names.syms) same.1 ∙ there')))
      | inr apart ↦ (
        four_of left right,
        of_both (λ same.
            apart.1 (once s.0 t.0 left.symbol there (subst (λ (n : SymName). slice_get names.syms t.0 ≡ Some n) (sym same) there'))),
      )
    ]
