-- The number of steps of a run, for any machine whose steps are acts.
use Rattle.std.specs.Prelude.{◌≡◌, ℕ, zero, suc, ⊤}
use Rattle.std.specs.Coded.{Unit-prop}
use mathlib.Core.HLevel.{Σ_prop_path, ⊥_prop}
use Rattle.std.proofs.Common.{refl, ap}
use Rattle.cs_events.specs.Acts.{Act}
use Rattle.cs_events.specs.Runs.{Setting, Log, Performed, Continues, Finishes, perform}

module _ {State : Type 0} (step : State → Act State) (setting : Setting) where
  -- after this result, the run has exactly so many steps left
  abbrev pub HasLeft : ℕ → Performed State → Type 0
  HasLeft zero (Finishes outcome log) = ⊤
  HasLeft zero (Continues next log) = ⊥
  HasLeft (suc steps) (Finishes outcome log) = ⊥
  HasLeft (suc steps) (Continues next log) = HasLeft steps (perform setting log (step next))

  -- the run from a state and a log has some number of steps after its next one
  abbrev pub HasLength : State → Log → Type 0
  HasLength m log = (steps : ℕ) × HasLeft steps (perform setting log (step m))

  left_prop : (steps : ℕ) (done : Performed State) → IsProp (HasLeft steps done)
  left_prop zero (Finishes outcome log) = Unit-prop
  left_prop zero (Continues next log) = ⊥_prop
  left_prop (suc steps) (Finishes outcome log) = ⊥_prop
  left_prop (suc steps) (Continues next log) = left_prop steps (perform setting log (step next))

  one_left : (steps others : ℕ) (done : Performed State) → HasLeft steps done → HasLeft others done → steps ≡ others
  one_left zero zero done one other = refl
  one_left zero (suc others) (Finishes outcome log) one other = absurd other
  one_left zero (suc others) (Continues next log) one other = absurd one
  one_left (suc steps) zero (Finishes outcome log) one other = absurd one
  one_left (suc steps) zero (Continues next log) one other = absurd other
  one_left (suc steps) (suc others) (Finishes outcome log) one other = absurd one
  one_left (suc steps) (suc others) (Continues next log) one other = ap suc (one_left steps others (perform setting log (step next)) one other)

  -- there is at most one such number
  pub HasLength-prop : (m : State) (log : Log) → IsProp (HasLength m log)
  HasLength-prop m log = λ one other.
      Σ_prop_path (λ steps. left_prop steps (perform setting log (step m))) (one_left one.0 other.0 (perform setting log (step m)) one.1 other.1)
