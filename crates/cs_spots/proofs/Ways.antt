-- The block for a number among the cases of a `switch`: for the contract of `way`.
use Rattle.std.proofs.Common.{◌≡◌, ℕ, ◌+◌, ◌<◌, ℤ, Bool, true, false, List, [], ◌∷◌, length, map, get_or, drop, if◌then◌else◌}
use Rattle.std.proofs.Common.{refl, sym, ap, ◌∙◌}
use Rattle.std.specs.Ordering.{int_eq}
use Rattle.std.proofs.lemmas.Bool.Decides.{same_from_decides, Decides-like, Decides-int_eq}
use Rattle.std.proofs.lemmas.List.{at_drop_more}
use Rattle.cs_cfg.specs.declared.code.SwitchCase as declared
use Rattle.cs_cfg.specs.Graph.{SwitchCase}
use Rattle.cs_cfg.specs.GraphView.{switch_case}
use Rattle.cs_cfg.specs.CodeSteps.{way_of}

int_eq_swapped : (one other : ℤ) → int_eq one other ≡ int_eq other one
int_eq_swapped one other =
    same_from_decides (int_eq one other) (int_eq other one) (Decides-int_eq one other)
    (Decides-like (int_eq other one) (λ e. sym e) (λ e. sym e) (Decides-int_eq other one))

module _ (otherwise : ℕ) (number : ℤ) where
  -- the block to which the number leads
  abbrev pub led : List SwitchCase → ℕ
  led cases = (way_of cases otherwise number 0).block

  -- which doesn't depend on the number at which the cases begin
  any_count : (cases : List SwitchCase) (one other : ℕ) → (way_of cases otherwise number one).block ≡ (way_of cases otherwise number other).block
  any_count [] one other = refl
  any_count (first ∷ cases) one other = decided (any_count cases (one + 1) (other + 1)) (int_eq first.value number)
    where
      decided : (way_of cases otherwise number (one + 1)).block ≡ (way_of cases otherwise number (other + 1)).block → (b : Bool)
          → (if b then (record { number = one; block = first.block }) else way_of cases otherwise number (one + 1)).block
          ≡ (if b then (record { number = other; block = first.block }) else way_of cases otherwise number (other + 1)).block
      decided others true = refl
      decided others false = others

  first_led : (first : SwitchCase) (cases : List SwitchCase) (b : Bool) → int_eq number first.value ≡ b
      → led (first ∷ cases) ≡ (if b then first.block else led cases)
  first_led first cases b e =
      ap (λ (holds : Bool). (if holds then (record { number = 0; block = first.block }) else way_of cases otherwise number 1).block)
      (int_eq_swapped first.value number ∙ e)
      ∙ chosen b
    where
      chosen : (b : Bool) → (if b then (record { number = 0; block = first.block }) else way_of cases otherwise number 1).block
          ≡ (if b then first.block else led cases)
      chosen true = refl
      chosen false = any_count cases 1 0

  -- the next case has the number, or doesn't have it
  pub next_led : (cases : List declared.SwitchCase) (index : ℕ) (other : declared.SwitchCase) (b : Bool) → index < length cases
      → int_eq number (get_or cases index other).value ≡ b
      → led (map switch_case (drop index cases))
      ≡ (if b then (get_or cases index other).block else led (map switch_case (drop (index + 1) cases)))
  next_led cases index other b within e =
      at_drop_more (λ (left : List declared.SwitchCase). led (map switch_case left)) cases index other within
      ∙ first_led (switch_case (get_or cases index other)) (map switch_case (drop (index + 1) cases)) b e
