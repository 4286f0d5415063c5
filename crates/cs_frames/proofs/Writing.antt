-- What is written through the arguments from an index on: for the contract of `write_arguments`.
use Rattle.std.proofs.Common.{◌≡◌, ℕ, zero, suc, ◌+◌, ◌<◌, Bool, true, false, List, [], ◌∷◌, drop, ◌⊎◌, inl, inr, refl, length}
use Rattle.std.proofs.Common.{arith}
use Rattle.cs_ast.specs.declared.place.Place.{Place}
use Rattle.cs_ast.specs.TypedProgram.{TypedProgram}
use Rattle.cs_events.specs.Acts.{Act}
use Rattle.cs_meaning.specs.Machine.{Operand, State, cell_of}
use Rattle.cs_meaning.specs.Memory.{Memory}
use Rattle.cs_meaning.specs.Calls.{wrote_path, write_through, write_arguments}

module _ (program : TypedProgram) (at : Place) (call argument : ℕ) (memory : Memory) (onward : Memory → Act State) where
  -- an argument that may be written through
  pub writes_first : (written others : List Bool) (operand : Operand) (operands rest : List Operand) → written ≡ true ∷ others
      → operands ≡ operand ∷ rest → write_arguments program at call argument written operands memory onward
      ≡ write_through program at (wrote_path call argument) (cell_of operand) memory
      (λ after. write_arguments program at call (argument + 1) others rest after onward)
  writes_first written others operand operands rest w o = rw (w, o) refl

  -- an argument that may not
  pub passes_first : (written others : List Bool) (operand : Operand) (operands rest : List Operand) → written ≡ false ∷ others
      → operands ≡ operand ∷ rest → write_arguments program at call argument written operands memory onward
      ≡ write_arguments program at call (argument + 1) others rest memory onward
  passes_first written others operand operands rest w o = rw (w, o) refl

  -- no argument remains
  pub writes_none : (written : List Bool) (operands : List Operand) → (written ≡ []) ⊎ (operands ≡ [])
      → write_arguments program at call argument written operands memory onward ≡ onward memory
  writes_none written operands (inl w) = rw w refl
  writes_none [] operands (inr o) = refl
  writes_none (true ∷ others) operands (inr o) = rw o refl
  writes_none (false ∷ others) operands (inr o) = rw o refl

-- an element of a list, and those after it
pub there_at : {A : Type 0} (xs : List A) (i : ℕ) → i < length xs → (x : A) × (drop i xs ≡ x ∷ drop (i + 1) xs)
there_at [] i h = absurd (omega arith)
there_at (x ∷ xs) zero h = (x, refl)
there_at (x ∷ xs) (suc i) h =
    let found = there_at xs i (omega arith) in
    let e : suc i + 1 ≡ suc (i + 1) = omega arith in
    (found.0, rw e found.1)
