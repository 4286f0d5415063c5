-- The pieces of an operation that shows a wrap are a split: for the contracts of integer operators, conversions and pointers.
use Rattle.std.proofs.Common.{◌≡◌, ◌≢◌, ◌⊎◌, inl, inr, ℕ, zero, suc, true, ℤ, pos, negsuc, ◌*ℤ◌, List, [], ◌∷◌}
use Rattle.std.proofs.Common.{◌++◌, Option}
use Rattle.std.proofs.Common.{Some, None, refl, sym, ap, subst, ◌∙◌, arith}
use Rattle.std.specs.Prelude.{IsTrue}
use Rattle.std.proofs.lemmas.Bool.{false≢true}
use Rattle.std.proofs.lemmas.Int.{ints}
use Rattle.std.proofs.lemmas.Option.{none-some, same_Some}
use Rattle.cs_ranges.specs.declared.range_set.Interval.{Interval}
use Rattle.cs_ranges.specs.RangeSet.{contains}
use Rattle.cs_ranges.proofs.Lines.{over_yields}
use Rattle.cs_types.specs.declared.data_model.DataModel.{DataModel}
use Rattle.cs_types.specs.declared.int_type.IntType.{IntType}
use Rattle.cs_types.specs.Wrap.{wrapped}
use Rattle.cs_terms.specs.declared.symbol.Sym.{Sym}
use Rattle.cs_terms.specs.declared.term.Lin.{Lin}
use Rattle.cs_terms.specs.declared.product.Piece.{Piece as Part}
use Rattle.cs_terms.specs.Pieces.{IsFar, IsPiece, IsFarPiece, IsProductOn, IsProductPiece, product_quotient_of}
use Rattle.cs_terms.specs.Term.{Valuation, value_of, value_at, HasNoOtherSymbol}
use Rattle.cs_constraints.specs.Constraints.{Sets, set_of, Fits, AreInhabited, IsNarrowed}
use Rattle.cs_constraints.proofs.Assuming.{fitting, value_of-symbol}
use Rattle.cs_events.specs.declared.event.Label.{Label}
use Rattle.cs_events.specs.declared.event.Label.TheVariants as label
use Rattle.cs_events.specs.declared.event.Wrap.{Wrap}
use Rattle.cs_events.specs.declared.event.Wrap.TheVariants.{Under, Same, Past, Guessed}
use Rattle.cs_events.specs.Operations.{own_quotient, own_result, shows, wrap_of}
use Rattle.cs_eval.specs.declared.guesses.Inexact.{Inexact}
use Rattle.cs_eval.specs.declared.piece.Guessed.{Guessed as Asked}
use Rattle.cs_eval.specs.declared.piece.Piece.{Piece}
use Rattle.cs_eval.specs.Guesses.{HasNumbers, symbol_term}
use Rattle.cs_eval.specs.Operands.{IsBetween}
use Rattle.cs_eval.specs.Parts.{unguessed}
use Rattle.cs_eval.specs.Splits.{Asking, IsExact, IsOfGuess, IsPieceWith, IsPieceOf, KeepsOthers, Each, HaveOwnLabels, IsIn, IsCovered, IsSplit}
use Rattle.cs_eval.specs.Wraps.{IsPartPiece, IsOfPart, IsWrapGuess, IsWholeGuess, IsFarGuess, IsOfFar, AreOfProduct}
use Rattle.cs_eval.proofs.OnePiece.{both_in}
use Rattle.cs_eval.proofs.OperandValues.{decide, value_of-none}
use Rattle.cs_eval.proofs.PieceLists.{AllShow, each_append, none_shows, labels_append, covered_left, covered_right}
use Rattle.cs_eval.proofs.TruthPieces.{declared_fits, fits_declared}

-- an operation that shows a wrap
pub record IsWrap (model : DataModel) (asking : Asking) : Type 0 where
  pub shown : (v : Valuation) → shows model (asking.operation v) None ≡ label.Wrap (wrap_of (own_quotient model (asking.operation v)))
  pub shown_guess : (v : Valuation) (number : ℤ) → shows model (asking.operation v) (Some number) ≡ label.Wrap Guessed

-- the numbers that may be guessed are those between the ends, and the own result is among them where the operation isn't followed
pub record AreGuesses (model : DataModel) (before : Sets) (asking : Asking) (numbers : Interval) : Type 0 where
  pub to : (v : Valuation) (number : ℤ) → Fits v before → IsBetween numbers.low numbers.high number → asking.IsGuess v number
  pub from : (v : Valuation) (number : ℤ) → Fits v before → asking.IsGuess v number → IsBetween numbers.low numbers.high number
  pub own : (v : Valuation) → Fits v before → ¬ asking.IsFollowed v → IsBetween numbers.low numbers.high (own_result model (asking.operation v))

-- the wrap of a label
abbrev wrap_in : Label → Wrap
wrap_in (label.Truth holds) = Same
wrap_in (label.Branch holds) = Same
wrap_in (label.Case number) = Same
wrap_in (label.Wrap wrap) = wrap
wrap_in (label.Look holds) = Same
wrap_in (label.Offset offset) = Same
wrap_in (label.Callee function) = Same
wrap_in (label.Alloc holds) = Same

-- a near quotient, and the wrap that it shows
pub record IsShownAs (quotient : ℤ) (wrap : Wrap) : Type 0 where
  pub shown : wrap_of quotient ≡ wrap
  pub alone : (x : ℤ) → wrap_of x ≡ wrap → x ≡ quotient
  pub near : ¬ IsFar quotient

alone_under : (x : ℤ) → wrap_of x ≡ Under → x ≡ negsuc 0
alone_under (pos zero) e = absurd (cc)
alone_under (pos (suc zero)) e = absurd (cc)
alone_under (pos (suc (suc n))) e = absurd (cc)
alone_under (negsuc zero) e = refl
alone_under (negsuc (suc n)) e = absurd (cc)

alone_same : (x : ℤ) → wrap_of x ≡ Same → x ≡ pos 0
alone_same (pos zero) e = refl
alone_same (pos (suc zero)) e = absurd (cc)
alone_same (pos (suc (suc n))) e = absurd (cc)
alone_same (negsuc zero) e = absurd (cc)
alone_same (negsuc (suc n)) e = absurd (cc)

alone_past : (x : ℤ) → wrap_of x ≡ Past → x ≡ pos 1
alone_past (pos zero) e = absurd (cc)
alone_past (pos (suc zero)) e = refl
alone_past (pos (suc (suc n))) e = absurd (cc)
alone_past (negsuc zero) e = absurd (cc)
alone_past (negsuc (suc n)) e = absurd (cc)

shown_under : IsShownAs (negsuc 0) Under
shown_under = record { shown = refl; alone = alone_under; near = λ far. far.0 refl }

shown_same : IsShownAs (pos 0) Same
shown_same = record { shown = refl; alone = alone_same; near = λ far. far.1 refl }

shown_past : IsShownAs (pos 1) Past
shown_past = record { shown = refl; alone = alone_past; near = λ far. far.2 refl }

-- a quotient is one of the three near ones, or far
pub which_quotient : (x : ℤ) → (x ≡ negsuc 0) ⊎ ((x ≡ pos 0) ⊎ ((x ≡ pos 1) ⊎ IsFar x))
which_quotient (pos zero) = inr (inl refl)
which_quotient (pos (suc zero)) = inr (inr (inl refl))
which_quotient (pos (suc (suc n))) =
    inr (inr (inr (λ e. absurd (omega (arith, ints)), λ e. absurd (omega (arith, ints)), λ e. absurd (omega (arith, ints)))))
which_quotient (negsuc zero) = inl refl
which_quotient (negsuc (suc n)) = inr (inr (inr (λ e. absurd (omega (arith, ints)), λ e. absurd (omega (arith, ints)), λ e. absurd (omega (arith, ints)))))

-- the valuations that fit after a symbol's range is narrowed to a set
module _ (before after : Sets) (s : ℕ) (range set : List Interval) (known : set_of before s ≡ Some range) (narrowed : IsNarrowed before s set after) where
  pub narrowed_fits : ((x : ℤ) → IsTrue (contains set x) → IsTrue (contains range x)) → (v : Valuation) → Fits v after
      → Fits v before × IsTrue (contains set (v s))
  narrowed_fits within v fits = (
    λ t found e. elim (decide t s) [
      | inl same ↦
          let own : range ≡ found = same_Some range found (sym known ∙ ap (set_of before) (sym same) ∙ e) in
          ap (λ (z : List Interval). contains z (v t)) (sym own) ∙ ap (λ (n : ℕ). contains range (v n)) same
          ∙ within (v s) (fits s set narrowed.here)
      | inr differ ↦ fits t found (narrowed.elsewhere t differ ∙ e)
    ],
    fits s set narrowed.here,
  )

  pub fits_narrowed : (v : Valuation) → Fits v before → IsTrue (contains set (v s)) → Fits v after
  fits_narrowed v fits member t found e = elim (decide t s) [
    | inl same ↦
        let own : set ≡ found = same_Some set found (sym narrowed.here ∙ ap (set_of after) (sym same) ∙ e) in
        ap (λ (z : List Interval). contains z (v t)) (sym own) ∙ ap (λ (n : ℕ). contains set (v n)) same ∙ member
    | inr differ ↦ fits t found (sym (narrowed.elsewhere t differ) ∙ e)
  ]

-- the value of a term over at most one symbol, by the symbol's number
pub value_of-over : (v : Valuation) (term : Lin) (s : Sym) → HasNoOtherSymbol term.sym (Some s) → value_of v term ≡ value_at term (v s.0)
value_of-over v term s h = by term.sym refl
  where
    by : (symbol : Option Sym) → term.sym ≡ symbol → value_of v term ≡ value_at term (v s.0)
    by None e = value_of-none v term e ∙ sym (value_of-none (λ symbol. v s.0) term e)
    by (Some t) e = value_of-symbol v term t e ∙ ap (λ (k : Sym). value_at term (v k.0)) (sym (same_Some s t (h t e)))

module _ (model : DataModel) (before : Sets) (guess : ℕ) (asking : Asking) (is : IsWrap model asking) where
  -- one piece for all valuations, under each of which the operation is followed
  pub one_split : (wrap : Wrap) (answer : Lin) (pieces : List Piece) → pieces ≡ unguessed (label.Wrap wrap) answer before ∷ []
      → AreInhabited before → ((v : Valuation) → Fits v before → asking.IsFollowed v)
      → ((v : Valuation) → Fits v before → wrap_of (own_quotient model (asking.operation v)) ≡ wrap)
      → ((v : Valuation) → Fits v before → value_of v answer ≡ own_result model (asking.operation v)) → IsSplit model before guess asking pieces
  one_split wrap answer pieces made inhabited followed same own =
      let piece = unguessed (label.Wrap wrap) answer before in
      let piece_is : IsPieceOf model before guess asking piece = record {
        meaning = record {
          from = λ v fits. (fits, followed v fits, is.shown v ∙ ap (λ (w : Wrap). label.Wrap w) (same v fits));
          back = λ v fits followed_too shown. fits;
          answer = own;
        };
        some = fitting before inhabited;
        others = λ other apart unmentioned. refl;
      } in
      subst (λ (ps : List Piece). IsSplit model before guess asking ps) (sym made)
      (record { each = (piece_is, tt); labels = (tt, tt); covers = λ v fits. inl fits })

  -- a guess under the valuations for which the operation isn't followed
  module _ (inexact : Inexact) (middle : Sets) (piece : Piece) (fresh : set_of middle guess ≡ None)
      (from : (v : Valuation) → Fits v middle → Fits v before × ¬ asking.IsFollowed v)
      (back : (v : Valuation) → Fits v before → ¬ asking.IsFollowed v → Fits v middle)
      (guesses : (numbers : Interval) → HasNumbers model inexact numbers → AreGuesses model before asking numbers)
      (h : IsWrapGuess model middle guess inexact piece) where
    may : AreGuesses model before asking h.numbers
    may = guesses h.numbers h.are

    member : (number : ℤ) → IsBetween h.numbers.low h.numbers.high number → contains h.piece_is.set number ≡ true
    member number b = h.piece_is.numbers_are number ∙ both_in h.numbers.low h.numbers.high number b

    guess_meaning : IsOfGuess model before guess asking piece
    guess_meaning = record {
      from = λ v fits.
          let d = declared_fits middle piece.constraints guess h.piece_is.set fresh h.piece_is.declared v fits in
          let f = from v d.0 in
          let b = over_yields h.numbers.low h.numbers.high (v guess) (sym (h.piece_is.numbers_are (v guess)) ∙ d.1) in
          (f.0, f.1, may.to v (v guess) f.0 b, is.shown_guess v (v guess) ∙ sym h.piece_is.shown);
      back = λ v number fits unfollowed allowed shown.
          fits_declared middle piece.constraints guess h.piece_is.set fresh h.piece_is.declared v number (back v fits unfollowed)
          (member number (may.from v number fits allowed));
      answer = λ v fits. ap (value_of v) h.piece_is.answer ∙ value_of-symbol_term v;
    }
      where
        value_of-symbol_term : (v : Valuation) → value_of v (symbol_term (record { 0 = guess })) ≡ v guess
        value_of-symbol_term v = omega (arith, ints)

    pub guess_piece : KeepsOthers before guess asking piece → IsPieceOf model before guess asking piece
    guess_piece others = record {
      meaning = subst (λ (o : Option Asked). IsPieceWith model before guess asking o piece) (sym h.piece_is.guessed) guess_meaning;
      some = fitting piece.constraints h.piece_is.inhabited;
      others = others;
    }

    pub guess_covers : (v : Valuation) → Fits v before → ¬ asking.IsFollowed v → IsIn model guess asking v piece.guessed piece
    guess_covers v fits unfollowed =
        subst (λ (o : Option Asked). IsIn model guess asking v o piece) (sym h.piece_is.guessed)
        (fits_declared middle piece.constraints guess h.piece_is.set fresh h.piece_is.declared v (own_result model (asking.operation v))
        (back v fits unfollowed) (member (own_result model (asking.operation v)) (may.own v fits unfollowed)))

  -- an operation whose whole result is guessed
  pub whole_split : (inexact : Inexact) (pieces : List Piece) → set_of before guess ≡ None
      → ((v : Valuation) → Fits v before → ¬ asking.IsFollowed v)
      → ((numbers : Interval) → HasNumbers model inexact numbers → AreGuesses model before asking numbers)
      → IsWholeGuess model before guess inexact pieces → IsSplit model before guess asking pieces
  whole_split inexact pieces fresh unfollowed guesses h =
      let from : (v : Valuation) → Fits v before → Fits v before × ¬ asking.IsFollowed v = λ v fits. (fits, unfollowed v fits) in
      let back : (v : Valuation) → Fits v before → ¬ asking.IsFollowed v → Fits v before = λ v fits not. fits in
      subst (λ (ps : List Piece). IsSplit model before guess asking ps) (sym h.made) (record {
        each = (
          guess_piece inexact before h.piece fresh from back guesses h.guessed (λ other apart unmentioned.
              h.guessed.piece_is.declared.elsewhere other.0 apart),
          tt,
        );
        labels = (tt, tt);
        covers = λ v fits. inl (guess_covers inexact before h.piece fresh from back guesses h.guessed v fits (unfollowed v fits));
      })

-- an operation whose exact result is a term's value times a factor, over a symbol
pub record IsWrapOver (model : DataModel) (before : Sets) (asking : Asking) (s : Sym) (range : List Interval) (ty : IntType) (term : Lin) (factor : ℤ)
    : Type 0 where
  pub wrap : IsWrap model asking
  pub known : set_of before s.0 ≡ Some range
  pub over : term.sym ≡ Some s
  pub quotient : (v : Valuation) → Fits v before → own_quotient model (asking.operation v) ≡ product_quotient_of model ty term factor (v s.0)
  pub own : (v : Valuation) → Fits v before → own_result model (asking.operation v) ≡ wrapped model ty (value_at term (v s.0) *ℤ factor)
  pub near : (v : Valuation) → Fits v before → ¬ IsFar (own_quotient model (asking.operation v)) → asking.IsFollowed v
  pub mentioned : asking.Mentions s

-- if a guess is requested, far quotients aren't followed
pub record IsFarGuessed (model : DataModel) (before : Sets) (asking : Asking) (inexact : Inexact) : Type 0 where
  pub far : (v : Valuation) → Fits v before → IsFar (own_quotient model (asking.operation v)) → ¬ asking.IsFollowed v
  pub guesses : (numbers : Interval) → HasNumbers model inexact numbers → AreGuesses model before asking numbers

abbrev pub IsAskedFor : DataModel → Sets → Asking → Option Inexact → Type 0
IsAskedFor model before asking None = Unit {0}
IsAskedFor model before asking (Some inexact) = IsFarGuessed model before asking inexact

module _ (model : DataModel) (before : Sets) (guess : ℕ) (asking : Asking) (s : Sym) (range : List Interval) (ty : IntType) (term : Lin) (factor : ℤ)
    (given : IsWrapOver model before asking s range ty term factor) where
  abbrev quotient : ℤ → ℤ
  quotient x = product_quotient_of model ty term factor x

  in_range : (v : Valuation) → Fits v before → IsTrue (contains range (v s.0))
  in_range v fits = fits s.0 range given.known

  not_mentioned : (other : Sym) → ¬ asking.Mentions other → other.0 ≢ s.0
  not_mentioned other un e =
      let made : ℕ → Sym = λ k. record { 0 = k } in un (subst (λ (k : ℕ). asking.Mentions (made k)) (sym e) given.mentioned)

  -- the pieces with one wrap
  record IsGroup (wrap : Wrap) (pieces : List Piece) : Type 0 where
    each : Each (IsPieceOf model before guess asking) pieces
    labels : HaveOwnLabels pieces
    shown : AllShow (label.Wrap wrap) pieces

  no_group : (wrap : Wrap) (pieces : List Piece) → pieces ≡ [] → IsGroup wrap pieces
  no_group wrap pieces made = subst (λ (ps : List Piece). IsGroup wrap ps) (sym made) (record { each = tt; labels = tt; shown = tt })

  one_group : (wrap : Wrap) (pieces : List Piece) (piece : Piece) → pieces ≡ piece ∷ [] → IsPieceOf model before guess asking piece
      → piece.label ≡ label.Wrap wrap → IsGroup wrap pieces
  one_group wrap pieces piece made h shown =
      subst (λ (ps : List Piece). IsGroup wrap ps) (sym made) (record { each = (h, tt); labels = (tt, tt); shown = (shown, tt) })

  -- one near quotient
  module _ (q : ℤ) (wrap : Wrap) (near : IsShownAs q wrap) where
    part_meaning : (part : Part) (piece : Piece) → IsPiece quotient range q part.range → IsProductOn model ty term factor part
        → IsPartPiece before s wrap part piece → IsExact model before asking piece
    part_meaning part piece cut on h = record {
      from = λ v fits.
          let b = narrowed_fits before piece.constraints s.0 range part.range given.known h.narrowed (λ x t. ((cut x).0 t).0) v fits in
          let e : own_quotient model (asking.operation v) ≡ q = given.quotient v b.0 ∙ ((cut (v s.0)).0 b.1).1 in (
            b.0,
            given.near v b.0 (λ far. near.near (subst (λ (n : ℤ). IsFar n) e far)),
            given.wrap.shown v ∙ ap (λ (n : ℤ). label.Wrap (wrap_of n)) e ∙ ap (λ (w : Wrap). label.Wrap w) near.shown ∙ sym h.shown,
          );
      back = λ v fits followed shown.
          let w : wrap_of (own_quotient model (asking.operation v)) ≡ wrap = ap wrap_in (sym (given.wrap.shown v) ∙ shown ∙ h.shown) in
          let e : quotient (v s.0) ≡ q = sym (given.quotient v fits) ∙ near.alone (own_quotient model (asking.operation v)) w in
          fits_narrowed before piece.constraints s.0 range part.range given.known h.narrowed v fits ((cut (v s.0)).1 (in_range v fits, e));
      answer = λ v fits.
          let b = narrowed_fits before piece.constraints s.0 range part.range given.known h.narrowed (λ x t. ((cut x).0 t).0) v fits in
          h.answer v fits ∙ value_of-over v part.product s (λ t e. sym given.over ∙ on.symbol t e) ∙ on.value (v s.0) b.1 ∙ sym (given.own v b.0);
    }

    part_piece : (part : Part) (piece : Piece) → IsPiece quotient range q part.range → IsProductOn model ty term factor part
        → IsPartPiece before s wrap part piece → IsPieceOf model before guess asking piece
    part_piece part piece cut on h = record {
      meaning = subst (λ (o : Option Asked). IsPieceWith model before guess asking o piece) (sym h.unguessed) (part_meaning part piece cut on h);
      some = fitting piece.constraints h.inhabited;
      others = λ other apart un. h.narrowed.elsewhere other.0 (not_mentioned other un);
    }

    part_group : (part : Option Part) (pieces : List Piece) → IsProductPiece model ty term factor range q part → IsOfPart before s wrap part pieces
        → IsGroup wrap pieces
    part_group None pieces cut h = no_group wrap pieces h
    part_group (Some part) pieces cut (inl h) = no_group wrap pieces h.1
    part_group (Some part) pieces cut (inr h) = one_group wrap pieces h.0 h.1 (part_piece part h.0 cut.0 cut.1 h.2) h.2.shown

    part_covers : (v : Valuation) → Fits v before → quotient (v s.0) ≡ q → (part : Option Part) (pieces : List Piece)
        → IsProductPiece model ty term factor range q part → IsOfPart before s wrap part pieces → IsCovered model guess asking v pieces
    part_covers v fits e None pieces cut h = absurd (cut (v s.0) (in_range v fits) e)
    part_covers v fits e (Some part) pieces cut (inl h) =
        absurd (false≢true (sym (h.0 (v s.0)) ∙ (cut.0 (v s.0)).1 (in_range v fits, e)))
    part_covers v fits e (Some part) pieces cut (inr h) =
        subst (λ (ps : List Piece). IsCovered model guess asking v ps) (sym h.1)
        (inl (subst (λ (o : Option Asked). IsIn model guess asking v o h.0) (sym h.2.unguessed)
        (fits_narrowed before h.0.constraints s.0 range part.range given.known h.2.narrowed v fits ((cut.0 (v s.0)).1 (in_range v fits, e)))))

  -- the far quotients
  module _ (far : List Interval) (cut : IsFarPiece quotient range far) (fresh : set_of before guess ≡ None) where
    module _ (inexact : Inexact) (asked : IsFarGuessed model before asking inexact) (piece : Piece)
        (h : IsFarGuess model before guess s far inexact piece) where
      far_from : (v : Valuation) → Fits v h.between → Fits v before × ¬ asking.IsFollowed v
      far_from v fits =
          let b = narrowed_fits before h.between s.0 range far given.known h.narrowed (λ x t. ((cut x).0 t).0) v fits in
          (b.0, asked.far v b.0 (subst (λ (n : ℤ). IsFar n) (sym (given.quotient v b.0)) ((cut (v s.0)).0 b.1).1))

      far_back : (v : Valuation) → Fits v before → ¬ asking.IsFollowed v → Fits v h.between
      far_back v fits unfollowed = elim (which_quotient (own_quotient model (asking.operation v))) [
        | inl e ↦ absurd (unfollowed (given.near v fits (λ f. f.0 e)))
        | inr (inl e) ↦ absurd (unfollowed (given.near v fits (λ f. f.1 e)))
        | inr (inr (inl e)) ↦ absurd (unfollowed (given.near v fits (λ f. f.2 e)))
        | inr (inr (inr f)) ↦
            fits_narrowed before h.between s.0 range far given.known h.narrowed v fits
            ((cut (v s.0)).1 (in_range v fits, subst (λ (n : ℤ). IsFar n) (given.quotient v fits) f))
      ]

      still_fresh : set_of h.between guess ≡ None
      still_fresh = h.narrowed.elsewhere guess (λ e. none-some range (sym fresh ∙ ap (set_of before) e ∙ given.known)) ∙ fresh

      far_piece : IsPieceOf model before guess asking piece
      far_piece =
          guess_piece model before guess asking given.wrap inexact h.between piece still_fresh far_from far_back asked.guesses h.guessed
          (λ other apart un.
          h.guessed.piece_is.declared.elsewhere other.0 apart ∙ h.narrowed.elsewhere other.0 (not_mentioned other un))

      far_in : (v : Valuation) → Fits v before → ¬ asking.IsFollowed v → IsIn model guess asking v piece.guessed piece
      far_in v fits unfollowed =
          guess_covers model before guess asking given.wrap inexact h.between piece still_fresh far_from far_back asked.guesses h.guessed v fits
          unfollowed

    far_group : (asked : Option Inexact) (pieces : List Piece) → IsAskedFor model before asking asked → IsOfFar model before guess s far asked pieces
        → IsGroup Guessed pieces
    far_group None pieces a h = no_group Guessed pieces h.1
    far_group (Some inexact) pieces a (inl h) = no_group Guessed pieces h.1
    far_group (Some inexact) pieces a (inr h) = one_group Guessed pieces h.0 h.1 (far_piece inexact a h.0 h.2) h.2.guessed.piece_is.shown

    far_covers : (v : Valuation) → Fits v before → IsFar (quotient (v s.0)) → (asked : Option Inexact) (pieces : List Piece)
        → IsAskedFor model before asking asked → IsOfFar model before guess s far asked pieces → IsCovered model guess asking v pieces
    far_covers v fits f None pieces a h = absurd (false≢true (sym (h.0 (v s.0)) ∙ (cut (v s.0)).1 (in_range v fits, f)))
    far_covers v fits f (Some inexact) pieces a (inl h) = absurd (false≢true (sym (h.0 (v s.0)) ∙ (cut (v s.0)).1 (in_range v fits, f)))
    far_covers v fits f (Some inexact) pieces a (inr h) =
        subst (λ (ps : List Piece). IsCovered model guess asking v ps) (sym h.1)
        (inl (far_in inexact a h.0 h.2 v fits (a.far v fits (subst (λ (n : ℤ). IsFar n) (sym (given.quotient v fits)) f))))

-- the labels of the four kinds of pieces differ
under_same : label.Wrap Under ≢ label.Wrap Same
under_same e = let w : Under ≡ Same = ap wrap_in e in absurd (cc)

under_past : label.Wrap Under ≢ label.Wrap Past
under_past e = let w : Under ≡ Past = ap wrap_in e in absurd (cc)

same_past : label.Wrap Same ≢ label.Wrap Past
same_past e = let w : Same ≡ Past = ap wrap_in e in absurd (cc)

under_guessed : label.Wrap Under ≢ label.Wrap Guessed
under_guessed e = let w : Under ≡ Guessed = ap wrap_in e in absurd (cc)

same_guessed : label.Wrap Same ≢ label.Wrap Guessed
same_guessed e = let w : Same ≡ Guessed = ap wrap_in e in absurd (cc)

past_guessed : label.Wrap Past ≢ label.Wrap Guessed
past_guessed e = let w : Past ≡ Guessed = ap wrap_in e in absurd (cc)

-- the pieces of a symbol's numbers by wrap quotients
pub product_split : (model : DataModel) (before : Sets) (guess : ℕ) (asking : Asking) (ty : IntType) (term : Lin) (factor : ℤ) (asked : Option Inexact)
    (pieces : List Piece) → set_of before guess ≡ None
    → ((s : Sym) (range : List Interval) → term.sym ≡ Some s → set_of before s.0 ≡ Some range
    → IsWrapOver model before asking s range ty term factor)
    → IsAskedFor model before asking asked → AreOfProduct model before guess ty term factor asked pieces → IsSplit model before guess asking pieces
product_split model before guess asking ty term factor asked pieces fresh over a h =
    let s = h.sym in
    let range = h.range in
    let given = over s range h.over h.known in
    let m = h.made in
    let under = part_group model before guess asking s range ty term factor given (negsuc 0) Under shown_under h.parts.under m.under h.cut.under m.under_is in
    let same = part_group model before guess asking s range ty term factor given (pos 0) Same shown_same h.parts.same m.same h.cut.same m.same_is in
    let past = part_group model before guess asking s range ty term factor given (pos 1) Past shown_past h.parts.past m.past h.cut.past m.past_is in
    let far = far_group model before guess asking s range ty term factor given h.parts.far h.cut.far fresh asked m.far a m.far_is in
    let IsSo : Piece → Type 0 = λ piece. IsPieceOf model before guess asking piece in
    let two = m.under ++ m.same in
    let three = two ++ m.past in
    let covers : (v : Valuation) → Fits v before → IsCovered model guess asking v (three ++ m.far) = λ v fits.
    elim (which_quotient (product_quotient_of model ty term factor (v s.0))) [
      | inl e ↦ covered_left model guess asking v three m.far (covered_left model guess asking v two m.past
          (covered_left model guess asking v m.under m.same
          (part_covers model before guess asking s range ty term factor given (negsuc 0) Under shown_under v fits e h.parts.under m.under h.cut.under
          m.under_is)))
      | inr (inl e) ↦ covered_left model guess asking v three m.far (covered_left model guess asking v two m.past
          (covered_right model guess asking v m.under m.same
          (part_covers model before guess asking s range ty term factor given (pos 0) Same shown_same v fits e h.parts.same m.same h.cut.same
          m.same_is)))
      | inr (inr (inl e)) ↦ covered_left model guess asking v three m.far (covered_right model guess asking v two m.past
          (part_covers model before guess asking s range ty term factor given (pos 1) Past shown_past v fits e h.parts.past m.past h.cut.past
          m.past_is))
      | inr (inr (inr f)) ↦ covered_right model guess asking v three m.far
          (far_covers model before guess asking s range ty term factor given h.parts.far h.cut.far fresh v fits f asked m.far a m.far_is)
    ] in
    subst (λ (ps : List Piece). IsSplit model before guess asking ps) (sym m.made) (record {
      each = each_append IsSo three m.far (each_append IsSo two m.past (each_append IsSo m.under m.same under.each same.each) past.each) far.each;
      labels = labels_append (label.Wrap Guessed) three m.far
          (labels_append (label.Wrap Past) two m.past
          (labels_append (label.Wrap Same) m.under m.same under.labels same.labels
          (none_shows (label.Wrap Under) (label.Wrap Same) m.under under_same under.shown) same.shown)
          past.labels
          (each_append (λ piece. piece.label ≢ label.Wrap Past) m.under m.same
          (none_shows (label.Wrap Under) (label.Wrap Past) m.under under_past under.shown)
          (none_shows (label.Wrap Same) (label.Wrap Past) m.same same_past same.shown))
          past.shown)
          far.labels
          (each_append (λ piece. piece.label ≢ label.Wrap Guessed) two m.past
          (each_append (λ piece. piece.label ≢ label.Wrap Guessed) m.under m.same
          (none_shows (label.Wrap Under) (label.Wrap Guessed) m.under under_guessed under.shown)
          (none_shows (label.Wrap Same) (label.Wrap Guessed) m.same same_guessed same.shown))
          (none_shows (label.Wrap Past) (label.Wrap Guessed) m.past past_guessed past.shown))
          far.shown;
      covers = covers;
    })
