-- The kinds of comparisons: for the contracts of `compare` and `compare_pointers`.
use Rattle.std.proofs.Common.{◌≡◌, ◌⊎◌, inl, inr, ℤ, Bool, true, false, ◌||◌, if◌then◌else◌, refl, ap, ◌∙◌}
use Rattle.cs_ast.specs.declared.place.Place.{Place}
use Rattle.cs_ast.specs.declared.typed.operator.CmpOp.{CmpOp}
use Rattle.cs_ast.specs.declared.typed.operator.CmpOp.TheVariants.{Less, AtMost, More, AtLeast, Equal, Differs}
use Rattle.cs_events.specs.declared.operation.Operation.TheVariants.{Compare}
use Rattle.cs_events.specs.Objects.{Cell}
use Rattle.cs_events.specs.Acts.{Act, Asks}
use Rattle.cs_meaning.specs.Access.{look}
use Rattle.cs_meaning.specs.Initials.{number_in}
use Rattle.cs_meaning.specs.Operators as operators
use Rattle.cs_cfg.specs.Working.{CodeState}

equal_asked : (operator : CmpOp) → (operator ≡ Equal) ⊎ (operator ≡ Differs) → operators.asks_order operator ≡ false
equal_asked operator (inl is) = ap operators.asks_order is
equal_asked operator (inr is) = ap operators.asks_order is

order_asked : (operator : CmpOp) → (operator ≡ Less) ⊎ ((operator ≡ AtMost) ⊎ ((operator ≡ More) ⊎ (operator ≡ AtLeast)))
    → operators.asks_order operator ≡ true
order_asked operator (inl is) = ap operators.asks_order is
order_asked operator (inr (inl is)) = ap operators.asks_order is
order_asked operator (inr (inr (inl is))) = ap operators.asks_order is
order_asked operator (inr (inr (inr is))) = ap operators.asks_order is

pub second_holds : (a b : Bool) → b ≡ true → (a || b) ≡ true
second_holds true b is = refl
second_holds false b is = is

module _ (at : Place) (operator : CmpOp) (one other : Cell) (onward : ℤ → Act CodeState) where
  abbrev pub ordered : Act CodeState
  ordered = operators.in_relation at (operators.related one other) (λ first second. Asks at (Compare operator first second) onward)

  abbrev pub equal : Act CodeState
  equal = operators.equality at operator (operators.both_null one other) (operators.in_one_object one other) onward

  pub equal_pointers : (operator ≡ Equal) ⊎ (operator ≡ Differs)
      → operators.compare_pointers at operator one other onward ≡ look at one (look at other equal)
  equal_pointers is = ap (λ order. look at one (look at other (if order then ordered else equal))) (equal_asked operator is)

  pub ordered_pointers : (operator ≡ Less) ⊎ ((operator ≡ AtMost) ⊎ ((operator ≡ More) ⊎ (operator ≡ AtLeast)))
      → operators.compare_pointers at operator one other onward ≡ look at one (look at other ordered)
  ordered_pointers is = ap (λ order. look at one (look at other (if order then ordered else equal))) (order_asked operator is)

  abbrev numbers : Act CodeState
  numbers = Asks at (Compare operator (number_in one) (number_in other)) onward

  pub pointers_compared : (operators.is_pointer one || operators.is_pointer other) ≡ true
      → operators.compare at operator one other onward ≡ operators.compare_pointers at operator one other onward
  pointers_compared some = ap (λ pointer. if pointer then operators.compare_pointers at operator one other onward else numbers) some

  pub numbers_compared : (m n : ℤ) → operators.is_pointer one ≡ false → operators.is_pointer other ≡ false → number_in one ≡ m
      → number_in other ≡ n
      → operators.compare at operator one other onward ≡ Asks at (Compare operator m n) onward
  numbers_compared m n no_first no_second first second =
      (λ i. if no_first i || no_second i then operators.compare_pointers at operator one other onward else numbers)
      ∙ (λ i. Asks at (Compare operator (first i) (second i)) onward)
