-- Deterministic steps: two paths from one beginning meet. For the uniqueness of a literal's bytes and of a text's cutting.
use Rattle.std.proofs.Common.{◌≡◌, ◌⊎◌, inl, inr, refl, sym, subst}

module _ {S : Type 0} where
  -- steps lead from one state to another
  pub data Onward (Step : S → S → Type 0) : S → S → Type 0 where
    stays : {s t : S} → s ≡ t → Onward Step s t
    goes : {s t u : S} → Step s t → Onward Step t u → Onward Step s u

  -- from a state there is at most one step
  abbrev pub IsDetermined : (S → S → Type 0) → Type 0
  IsDetermined Step = (s t u : S) → Step s t → Step s u → t ≡ u

  -- from a state there is no step
  abbrev pub IsStuck : (S → S → Type 0) → S → Type 0
  IsStuck Step s = (t : S) → Step s t → ⊥

  pub one_further : (Step : S → S → Type 0) (s t u : S) → Onward Step s t → Step t u → Onward Step s u
  one_further Step s t u (stays e) step = goes (subst (λ x. Step x u) (sym e) step) (stays refl)
  one_further Step s t u (goes {t = x} first rest) step = goes first (one_further Step x t u rest step)

  meet : (Step : S → S → Type 0) → IsDetermined Step → (a s t : S) → Onward Step a s → Onward Step a t → Onward Step s t ⊎ Onward Step t s
  meet Step once a s t (stays e) way = inl (subst (λ x. Onward Step x t) e way)
  meet Step once a s t (goes first rest) (stays e) = inr (subst (λ x. Onward Step x s) e (goes first rest))
  meet Step once a s t (goes {t = x} first rest) (goes {t = y} other more) =
      meet Step once x s t rest (subst (λ z. Onward Step z t) (sym (once a x y first other)) more)

  stuck_at : (Step : S → S → Type 0) (s t : S) → Onward Step s t → IsStuck Step s → s ≡ t
  stuck_at Step s t (stays e) stuck = e
  stuck_at Step s t (goes {t = x} first rest) stuck = absurd (stuck x first)

  -- the steps from a beginning end in only one state
  pub one_end : (Step : S → S → Type 0) → IsDetermined Step → (a s t : S) → Onward Step a s → IsStuck Step s → Onward Step a t → IsStuck Step t
      → s ≡ t
  one_end Step once a s t way stuck other ended = elim (meet Step once a s t way other) [
    | inl onward ↦ stuck_at Step s t onward stuck
    | inr onward ↦ sym (stuck_at Step t s onward ended)
  ]
