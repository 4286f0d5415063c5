-- Scalars that are read one after another: for the contracts of `read_all` and `read_each`.
use Rattle.std.proofs.Common.{◌≡◌, ℕ, zero, suc, ◌<◌, length, get_or, arith, ◌+◌, List, [], ◌∷◌, ◌++◌, map, Some, drop}
use Rattle.std.proofs.Common.{refl, sym, ap, ◌∙◌}
use Rattle.std.proofs.Common.{append_assoc}
use Rattle.std.proofs.lemmas.List.{append-nil}
use mathlib.Core.Path.{fun_ext}
use Rattle.cs_ast.specs.TypedProgram.{TypedProgram}
use Rattle.cs_events.specs.Acts.{Act}
use Rattle.cs_events.specs.Objects.{Object, Cell}
use Rattle.cs_events.specs.Runs.{Setting, Log, Performed, perform}
use Rattle.cs_meaning.specs.Machine.{State}
use Rattle.cs_objects.specs.declared.blocks.Block.{Block as Stored}
use Rattle.cs_run_log.specs.declared.logs.Stop.{Stop}
use Rattle.cs_values.specs.declared.objects.Cell.{Cell as Held}
use Rattle.cs_values.specs.View.{cell_of}
use Rattle.cs_objects.specs.BlockView.{block_of, written_at}
use Rattle.cs_objects.proofs.Written.{written_from}
use Rattle.cs_memory.specs.Reaching.{HoldsAll}
use Rattle.cs_run_log.specs.Pieces.{finished}
use Rattle.cs_run_log.proofs.Chains.{ends_following}
use Rattle.cs_meaning.specs.Memory.{Memory}
use Rattle.cs_meaning.specs.Access.{read, read_all}

module _ (s : Setting) (program : TypedProgram) (object : Object) (from : ℕ) where
  -- one more scalar was read
  pub one_more_read : (log later : Log) (memory after : Memory) (left rest : List ℕ) (x : ℕ) (done more : List Cell) (cell : Cell) → left ≡ x ∷ rest
      → more ≡ done ++ cell ∷ []
      → ((onward : Memory → Cell → Act State) → perform s log (read program memory object (from + x) onward) ≡ perform s later (onward after cell))
      → (onward : Memory → List Cell → Act State)
      → perform s log (read_all program memory object from left (λ a r. onward a (done ++ r)))
      ≡ perform s later (read_all program after object from rest (λ a r. onward a (more ++ r)))
  one_more_read log later memory after left rest x done more cell split added reads onward =
      rw split (reads (λ a c. read_all program a object from rest (λ b r. onward b (done ++ (c ∷ r))))
      ∙ ap (λ (k : Memory → List Cell → Act State). perform s later (read_all program after object from rest k))
      (fun_ext (λ a. fun_ext (λ r. ap (onward a) (same r)))))
    where
      same : (r : List Cell) → done ++ (cell ∷ r) ≡ more ++ r
      same r = sym (append_assoc done (cell ∷ []) r) ∙ ap (λ xs. xs ++ r) (sym added)

  -- no scalar remains to be read
  pub all_read : (log : Log) (memory : Memory) (left : List ℕ) (done : List Cell) → left ≡ []
      → (onward : Memory → List Cell → Act State)
      → perform s log (read_all program memory object from left (λ a r. onward a (done ++ r))) ≡ perform s log (onward memory done)
  all_read log memory left done none onward =
      rw none (ap (λ xs. perform s log (onward memory xs)) (append-nil done))

  -- the run ends at the next scalar
  pub ends_reading : (stop : Stop) (log later : Log) (memory : Memory) (left rest : List ℕ) (x : ℕ) (done : List Cell) (first : Performed State)
      (onward : Memory → List Cell → Act State) → left ≡ x ∷ rest
      → ((k : Memory → Cell → Act State) → perform s log (read program memory object (from + x) k)
      ≡ finished stop later (perform s log (read program memory object (from + x) k)))
      → first ≡ perform s log (read_all program memory object from left (λ a r. onward a (done ++ r))) → first ≡ finished stop later first
  ends_reading stop log later memory left rest x done first onward split ends same =
      ends_following stop later same (rw split (ends (λ a c. read_all program a object from rest (λ b r. onward b (done ++ (c ∷ r))))))

-- cells that were written are read as they are
pub written_read : (memory : Memory) (object : Object) (block : Stored) (from : ℕ) (offsets : List ℕ) (cells : List Held)
    → memory object ≡ Some (block_of block) → written_from block from offsets ≡ map (λ (cell : Held). Some (cell_of cell)) cells
    → HoldsAll memory object from offsets (map cell_of cells)
written_read memory object block from [] [] there same program onward = refl
written_read memory object block from [] (cell ∷ cells) there same program onward = absurd (cc)
written_read memory object block from (offset ∷ offsets) [] there same program onward = absurd (cc)
written_read memory object block from (offset ∷ offsets) (cell ∷ cells) there same program onward =
    let here : written_at block (from + offset) ≡ Some (cell_of cell) = cc in
    let others : written_from block from offsets ≡ map (λ (c : Held). Some (cell_of c)) cells = cc in
    rw (there, here) (written_read memory object block from offsets cells there others program (λ after rest. onward after (cell_of cell ∷ rest)))

-- the element of a list at an index, and those after it
pub drop-step : {A : Type 0} (xs : List A) (i : ℕ) (d : A) → i < length xs → drop i xs ≡ get_or xs i d ∷ drop (i + 1) xs
drop-step [] i d h = absurd (omega arith)
drop-step (x ∷ xs) zero d h = refl
drop-step (x ∷ xs) (suc i) d h = let e : suc i + 1 ≡ suc (i + 1) = omega arith in rw e (drop-step xs i d (omega arith))
