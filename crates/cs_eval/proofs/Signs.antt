-- Whether the ends of a number's values decide its comparison with 0: for the contract of `followed_by_sign`.
use Rattle.std.proofs.Common.{◌≡◌, ◌⊎◌, inl, inr, Bool, true, false, ◌||◌, ℤ, pos, ◌-ℤ◌, refl, sym, ap, ◌∙◌, arith}
use Rattle.std.specs.Prelude.{int_lt, int_le}
use Rattle.std.proofs.lemmas.Int.{ints}
use Rattle.cs_ranges.specs.declared.range_set.Interval.{Interval}
use Rattle.cs_ast.specs.declared.typed.operator.CmpOp.{CmpOp}
use Rattle.cs_ast.specs.declared.typed.operator.CmpOp.TheVariants.{Less, AtMost, More, AtLeast, Equal, Differs}
use Rattle.cs_terms.specs.Term.{Valuation}
use Rattle.cs_constraints.specs.Constraints.{Sets, Fits}
use Rattle.cs_events.specs.Operations.{compares}
use Rattle.cs_eval.specs.Followed.{Numbers, Always, IsDecided}
use Rattle.cs_eval.specs.Operands.{IsBetween}
use Rattle.cs_signs.specs.Signs.{holds_between, opposite_of}

pub compares-diff : (op : CmpOp) (x y : ℤ) → compares op x y ≡ compares op (x -ℤ y) (pos 0)
compares-diff Less x y = grind (arith, ints)
compares-diff AtMost x y = grind (arith, ints)
compares-diff More x y = grind (arith, ints)
compares-diff AtLeast x y = grind (arith, ints)
compares-diff Equal x y = grind (arith, ints)
compares-diff Differs x y = grind (arith, ints)

pub sign_true : (op : CmpOp) (ends : Interval) (n : ℤ) → holds_between op ends ≡ true → IsBetween ends.low ends.high n
    → compares op n (pos 0) ≡ true
sign_true Less ends n h b = grind (arith, ints)
sign_true AtMost ends n h b = grind (arith, ints)
sign_true More ends n h b = grind (arith, ints)
sign_true AtLeast ends n h b = grind (arith, ints)
sign_true Equal ends n h b = absurd (cc)
sign_true Differs ends n h b = grind (arith, ints)

pub sign_false : (op : CmpOp) (ends : Interval) (n : ℤ) → holds_between (opposite_of op) ends ≡ true → IsBetween ends.low ends.high n
    → compares op n (pos 0) ≡ false
sign_false Less ends n h b = grind (arith, ints)
sign_false AtMost ends n h b = grind (arith, ints)
sign_false More ends n h b = grind (arith, ints)
sign_false AtLeast ends n h b = grind (arith, ints)
sign_false Equal ends n h b = grind (arith, ints)
sign_false Differs ends n h b = absurd (cc)

-- the ends of an equation decide that all numbers are above 0, or all below
above_or_below : (low high : ℤ) → (int_lt (pos 0) low || int_lt high (pos 0)) ≡ true
    → ((n : ℤ) → IsBetween low high n → compares More n (pos 0) ≡ true) ⊎ ((n : ℤ) → IsBetween low high n → compares Less n (pos 0) ≡ true)
above_or_below low high h = by (int_lt (pos 0) low) refl
  where
    by : (b : Bool) → int_lt (pos 0) low ≡ b
        → ((n : ℤ) → IsBetween low high n → compares More n (pos 0) ≡ true)
        ⊎ ((n : ℤ) → IsBetween low high n → compares Less n (pos 0) ≡ true)
    by true e = inl (λ n b. grind (arith, ints))
    by false e = inr (λ n b. grind (arith, ints))

module _ (sets : Sets) (number : Numbers) (ends : Interval) (bounds : (v : Valuation) → Fits v sets → IsBetween ends.low ends.high (number v)) where
  apart : (int_lt (pos 0) ends.low || int_lt ends.high (pos 0)) ≡ true → Always sets More number true ⊎ Always sets Less number true
  apart h = elim (above_or_below ends.low ends.high h) [
    | inl above ↦ inl (λ v fits. above (number v) (bounds v fits))
    | inr below ↦ inr (λ v fits. below (number v) (bounds v fits))
  ]

  always_true : (op : CmpOp) → holds_between op ends ≡ true → Always sets op number true
  always_true op h = λ v fits. sign_true op ends (number v) h (bounds v fits)

  always_false : (op : CmpOp) → holds_between (opposite_of op) ends ≡ true → Always sets op number false
  always_false op h = λ v fits. sign_false op ends (number v) h (bounds v fits)

  pub decided_true : (op : CmpOp) → holds_between op ends ≡ true → IsDecided sets op number
  decided_true Less h = inl (always_true Less h)
  decided_true AtMost h = inl (always_true AtMost h)
  decided_true More h = inl (always_true More h)
  decided_true AtLeast h = inl (always_true AtLeast h)
  decided_true Equal h = absurd (cc)
  decided_true Differs h = apart h

  pub decided_false : (op : CmpOp) → holds_between (opposite_of op) ends ≡ true → IsDecided sets op number
  decided_false Less h = inr (always_false Less h)
  decided_false AtMost h = inr (always_false AtMost h)
  decided_false More h = inr (always_false More h)
  decided_false AtLeast h = inr (always_false AtLeast h)
  decided_false Equal h = apart h
  decided_false Differs h = absurd (cc)

-- the number reaches both ends
module _ (sets : Sets) (number : Numbers) (ends : Interval) (v w : Valuation) (v_fits : Fits v sets) (w_fits : Fits w sets)
    (low : number v ≡ ends.low) (high : number w ≡ ends.high) where
  at_low : (op : CmpOp) (b : Bool) → Always sets op number b → compares op ends.low (pos 0) ≡ b
  at_low op b h = ap (λ (n : ℤ). compares op n (pos 0)) (sym low) ∙ h v v_fits

  at_high : (op : CmpOp) (b : Bool) → Always sets op number b → compares op ends.high (pos 0) ≡ b
  at_high op b h = ap (λ (n : ℤ). compares op n (pos 0)) (sym high) ∙ h w w_fits

  neither : (l h : ℤ) → (int_lt (pos 0) l || int_lt h (pos 0)) ≡ false → compares More l (pos 0) ≡ true → ⊥
  neither l h e t = grind (arith, ints)

  nor : (l h : ℤ) → (int_lt (pos 0) l || int_lt h (pos 0)) ≡ false → compares Less h (pos 0) ≡ true → ⊥
  nor l h e t = grind (arith, ints)

  open_equation : (int_lt (pos 0) ends.low || int_lt ends.high (pos 0)) ≡ false → ¬ (Always sets More number true ⊎ Always sets Less number true)
  open_equation e (inl a) = neither ends.low ends.high e (at_low More true a)
  open_equation e (inr a) = nor ends.low ends.high e (at_high Less true a)

  clash : (b : Bool) → b ≡ true → b ≡ false → ⊥
  clash b e f = let g : true ≡ false = sym e ∙ f in absurd (cc)

  less_clash : (n : ℤ) → compares Less n (pos 0) ≡ false → int_le (pos 0) n ≡ false → ⊥
  less_clash n e f = grind (arith, ints)

  at_most_clash : (n : ℤ) → compares AtMost n (pos 0) ≡ false → int_lt (pos 0) n ≡ false → ⊥
  at_most_clash n e f = grind (arith, ints)

  more_clash : (n : ℤ) → compares More n (pos 0) ≡ false → int_le n (pos 0) ≡ false → ⊥
  more_clash n e f = grind (arith, ints)

  at_least_clash : (n : ℤ) → compares AtLeast n (pos 0) ≡ false → int_lt n (pos 0) ≡ false → ⊥
  at_least_clash n e f = grind (arith, ints)

  pub undecided : (op : CmpOp) → holds_between op ends ≡ false → holds_between (opposite_of op) ends ≡ false → ¬ IsDecided sets op number
  undecided Less e f (inl a) = clash (int_lt ends.high (pos 0)) (at_high Less true a) e
  undecided Less e f (inr a) = less_clash ends.low (at_low Less false a) f
  undecided AtMost e f (inl a) = clash (int_le ends.high (pos 0)) (at_high AtMost true a) e
  undecided AtMost e f (inr a) = at_most_clash ends.low (at_low AtMost false a) f
  undecided More e f (inl a) = clash (int_lt (pos 0) ends.low) (at_low More true a) e
  undecided More e f (inr a) = more_clash ends.high (at_high More false a) f
  undecided AtLeast e f (inl a) = clash (int_le (pos 0) ends.low) (at_low AtLeast true a) e
  undecided AtLeast e f (inr a) = at_least_clash ends.high (at_high AtLeast false a) f
  undecided Equal e f d = open_equation f d
  undecided Differs e f d = open_equation e d

-- a decision depends only on the numbers
pub same_decision : (sets : Sets) (op : CmpOp) (f g : Numbers) → ((v : Valuation) → Fits v sets → f v ≡ g v) → IsDecided sets op f
    → IsDecided sets op g
same_decision sets op f g same d = by op d
  where
    moved : (o : CmpOp) (b : Bool) → Always sets o f b → Always sets o g b
    moved o b a = λ v fits. ap (λ (n : ℤ). compares o n (pos 0)) (sym (same v fits)) ∙ a v fits

    by : (o : CmpOp) → IsDecided sets o f → IsDecided sets o g
    by Less (inl a) = inl (moved Less true a)
    by Less (inr a) = inr (moved Less false a)
    by AtMost (inl a) = inl (moved AtMost true a)
    by AtMost (inr a) = inr (moved AtMost false a)
    by More (inl a) = inl (moved More true a)
    by More (inr a) = inr (moved More false a)
    by AtLeast (inl a) = inl (moved AtLeast true a)
    by AtLeast (inr a) = inr (moved AtLeast false a)
    by Equal (inl a) = inl (moved More true a)
    by Equal (inr a) = inr (moved Less true a)
    by Differs (inl a) = inl (moved More true a)
    by Differs (inr a) = inr (moved Less true a)
