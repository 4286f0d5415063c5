-- The pieces of an operation that is followed in two halves: for tests, comparisons and order tests.
use Rattle.std.proofs.Common.{◌≡◌, ◌≢◌, inl, inr, ℕ, Bool, true, false, List, ◌++◌, Option, Some, None, Result, Ok}
use Rattle.std.proofs.Common.{Err, refl, sym, ap, ◌∙◌}
use Rattle.std.specs.Prelude.{IfOk}
use Rattle.cs_types.specs.declared.data_model.DataModel.{DataModel}
use Rattle.cs_terms.specs.declared.symbol.Sym.{Sym}
use Rattle.cs_terms.specs.declared.term.Lin.{Lin}
use Rattle.cs_terms.specs.Term.{Valuation, value_of}
use Rattle.cs_constraints.specs.Constraints.{Sets, Fits}
use Rattle.cs_events.specs.declared.event.Label.{Label}
use Rattle.cs_events.specs.Operations.{own_result, shows}
use Rattle.cs_eval.specs.declared.halves.Halves.{Halves}
use Rattle.cs_eval.specs.declared.piece.Piece.{Piece}
use Rattle.cs_eval.specs.declared.pieces.Shown.{Shown}
use Rattle.cs_eval.specs.Parts.{Truths, IsPart, IsHalf, AreHalves, unguessed, unguessed_if}
use Rattle.cs_eval.specs.Splits.{Asking, IsExact, IsPieceOf, Each, HaveOwnLabels, IsCovered, IsSplit}

-- what an operation shows for a truth, and the number with which it continues
pub record IsShownBy (model : DataModel) (before : Sets) (asking : Asking) (truth : Truths) (label : Bool → Label) (number : Bool → Lin) : Type 0 where
  pub followed : (v : Valuation) → Fits v before → asking.IsFollowed v
  pub shown : (v : Valuation) → Fits v before → shows model (asking.operation v) None ≡ label (truth v)
  pub own : (v : Valuation) → Fits v before → value_of v (number (truth v)) ≡ own_result model (asking.operation v)
  pub apart : label false ≢ label true

module _ (model : DataModel) (before : Sets) (guess : ℕ) (asking : Asking) (symbol : Option Sym) (truth : Truths) (label : Bool → Label)
    (number : Bool → Lin) (given : IsShownBy model before asking truth label number)
    (mentioned : (s : Sym) → symbol ≡ Some s → asking.Mentions s) where
  one_label : (a b : Bool) → label a ≡ label b → a ≡ b
  one_label true true e = refl
  one_label true false e = absurd (given.apart (sym e))
  one_label false true e = absurd (given.apart e)
  one_label false false e = refl

  exact_half : (holds : Bool) (after : Sets) → IsPart before symbol truth holds after
      → IsExact model before asking (unguessed (label holds) (number holds) after)
  exact_half holds after part = record {
    from = λ v fits.
        let both = (part.exactly v).0 fits in (both.0, given.followed v both.0, given.shown v both.0 ∙ ap label both.1);
    back = λ v fits followed shown. (part.exactly v).1 (fits, one_label (truth v) holds (sym (given.shown v fits) ∙ shown));
    answer = λ v fits.
        let both = (part.exactly v).0 fits in ap (λ (b : Bool). value_of v (number b)) (sym both.1) ∙ given.own v both.0;
  }

  each_half : (holds : Bool) (half : Option Sets) → IsHalf before symbol truth holds half
      → Each (IsPieceOf model before guess asking) (unguessed_if (label holds) (number holds) half)
  each_half holds None h = tt
  each_half holds (Some after) part = (
    record {
      meaning = exact_half holds after part;
      some = part.some;
      others = λ other apart unmentioned. part.others other (λ e. unmentioned (mentioned other e));
    },
    tt,
  )

  both_halves : (held failed : Option Sets) → IsHalf before symbol truth true held → IsHalf before symbol truth false failed
      → Each (IsPieceOf model before guess asking) (unguessed_if (label true) (number true) held ++ unguessed_if (label false) (number false) failed)
  both_halves None failed h k = each_half false failed k
  both_halves (Some held) failed h k = ((each_half true (Some held) h).0, each_half false failed k)

  own_labels : (held failed : Option Sets)
      → HaveOwnLabels (unguessed_if (label true) (number true) held ++ unguessed_if (label false) (number false) failed)
  own_labels None None = tt
  own_labels None (Some failed) = (tt, tt)
  own_labels (Some held) None = (tt, tt)
  own_labels (Some held) (Some failed) = ((given.apart, tt), (tt, tt))

  in_held : (v : Valuation) → Fits v before → truth v ≡ true → (held failed : Option Sets) → IsHalf before symbol truth true held
      → IsCovered model guess asking v (unguessed_if (label true) (number true) held ++ unguessed_if (label false) (number false) failed)
  in_held v fits t None failed h = absurd (let e : true ≡ false = sym t ∙ h v fits in cc)
  in_held v fits t (Some held) failed h = inl ((h.exactly v).1 (fits, t))

  in_failed : (v : Valuation) → Fits v before → truth v ≡ false → (held failed : Option Sets) → IsHalf before symbol truth false failed
      → IsCovered model guess asking v (unguessed_if (label true) (number true) held ++ unguessed_if (label false) (number false) failed)
  in_failed v fits t held None k = absurd (let e : false ≡ true = sym t ∙ k v fits in cc)
  in_failed v fits t None (Some failed) k = inl ((k.exactly v).1 (fits, t))
  in_failed v fits t (Some held) (Some failed) k = inr (inl ((k.exactly v).1 (fits, t)))

  covered : (v : Valuation) → Fits v before → (b : Bool) → truth v ≡ b → (held failed : Option Sets) → IsHalf before symbol truth true held
      → IsHalf before symbol truth false failed
      → IsCovered model guess asking v (unguessed_if (label true) (number true) held ++ unguessed_if (label false) (number false) failed)
  covered v fits true t held failed h k = in_held v fits t held failed h
  covered v fits false t held failed h k = in_failed v fits t held failed k

  pub halves_split : (halves : Halves) → AreHalves before symbol truth halves
      → IsSplit model before guess asking (unguessed_if (label true) (number true) halves.holds ++ unguessed_if (label false) (number false) halves.fails)
  halves_split halves h = record {
    each = both_halves halves.holds halves.fails h.holds h.fails;
    labels = own_labels halves.holds halves.fails;
    covers = λ v fits. covered v fits (truth v) refl halves.holds halves.fails h.holds h.fails;
  }

-- pieces with known labels and numbers
pub same_pieces : (held failed : Shown) (l m : Label) (a b : Lin) (halves : Halves) (pieces : List Piece) → held.label ≡ l → held.answer ≡ a
    → failed.label ≡ m → failed.answer ≡ b
    → pieces ≡ unguessed_if held.label held.answer halves.holds ++ unguessed_if failed.label failed.answer halves.fails
    → pieces ≡ unguessed_if l a halves.holds ++ unguessed_if m b halves.fails
same_pieces held failed l m a b halves pieces held_label held_answer failed_label failed_answer made =
    made
    ∙ ap (λ (x : Label). unguessed_if x held.answer halves.holds ++ unguessed_if failed.label failed.answer halves.fails) held_label
    ∙ ap (λ (x : Lin). unguessed_if l x halves.holds ++ unguessed_if failed.label failed.answer halves.fails) held_answer
    ∙ ap (λ (x : Label). unguessed_if l a halves.holds ++ unguessed_if x failed.answer halves.fails) failed_label
    ∙ ap (λ (x : Lin). unguessed_if l a halves.holds ++ unguessed_if m x halves.fails) failed_answer

-- two facts of a result
pub if_ok_both : {X Y : Type 0} (r : Result X Y) (P Q R : X → Type 0) → ((x : X) → P x → Q x → R x) → IfOk r P → IfOk r Q → IfOk r R
if_ok_both (Ok x) P Q R f p q = f x p q
if_ok_both (Err e) P Q R f p q = tt
