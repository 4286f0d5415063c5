-- Ascending pieces, and the one that is nearest to an offset: for the contracts of `ascend` and `nearest`.
use Rattle.std.proofs.Common.{◌≡◌, ℕ, zero, suc, ◌<◌, ◌≤◌, Bool, true, false, List, [], ◌∷◌, map, length, take, drop, get_or, refl, sym}
use Rattle.std.proofs.Common.{◌∙◌, arith}
use Rattle.std.specs.Prelude.{nat_le, ◌&&◌, IsTrue}
use Rattle.std.proofs.lemmas.Bool.Decides.{nat_tests}
use Rattle.cs_types.specs.Shape.{Shape}
use Rattle.cs_ast.specs.TypedProgram.{TypedProgram}
use Rattle.cs_events.specs.Objects.{Cell}
use Rattle.cs_meaning.specs.Initials.{initial_cell, zero_of}
use Rattle.cs_objects.specs.declared.blocks.Piece.{Piece}
use Rattle.cs_objects.specs.declared.blocks.Piece.TheVariants as piece
use Rattle.cs_objects.specs.BlockView.{piece_of}
use Rattle.cs_objects.specs.PieceOrder.{start_of, end_of, ascends_from}

-- ascending pieces: the first one begins at the offset or after it, and the others ascend from its end
pub first_rises : (from : ℕ) (p : Piece) (ps : List Piece) → IsTrue (ascends_from from (p ∷ ps))
    → (from ≤ start_of p) × IsTrue (ascends_from (end_of p) ps)
first_rises from p ps rises = by_test (nat_le from (start_of p)) refl rises
  where
    by_test : (b : Bool) → nat_le from (start_of p) ≡ b → IsTrue (b && ascends_from (end_of p) ps)
        → (from ≤ start_of p) × IsTrue (ascends_from (end_of p) ps)
    by_test true e h = (grind (arith, nat_tests), h)
    by_test false e h = absurd (cc)

-- one more piece ascends
pub one_more_rises : (from : ℕ) (p : Piece) (ps : List Piece) → IsTrue (nat_le from (start_of p)) → IsTrue (ascends_from (end_of p) ps)
    → IsTrue (ascends_from from (p ∷ ps))
one_more_rises from p ps below rises = by_test (nat_le from (start_of p)) below
  where
    by_test : (b : Bool) → IsTrue b → IsTrue (b && ascends_from (end_of p) ps)
    by_test true h = rises
    by_test false h = absurd (cc)

-- a piece doesn't begin after its end
start_to_end : (p : Piece) → start_of p ≤ end_of p
start_to_end (piece.Value from e) = omega arith
start_to_end (piece.Text from bytes) = omega arith

module _ (program : TypedProgram) (scalar : Shape) (offset : ℕ) where
  -- the initial value of the scalar, by these pieces
  abbrev holds : List Piece → Cell
  holds ps = initial_cell program scalar (map piece_of ps) offset

  -- a piece that begins after the offset
  past_one : (p : Piece) (ps : List Piece) → offset < start_of p → holds (p ∷ ps) ≡ holds ps
  past_one (piece.Value from e) ps past = grind (arith, nat_tests)
  past_one (piece.Text from bytes) ps past = grind (arith, nat_tests)

  -- a piece that ends at the offset or before it
  ended_one : (p : Piece) (ps : List Piece) → end_of p ≤ offset → holds (p ∷ ps) ≡ holds ps
  ended_one (piece.Value from e) ps ended = grind (arith, nat_tests)
  ended_one (piece.Text from bytes) ps ended = grind (arith, nat_tests)

  -- if the others have nothing for the scalar, only the first piece counts
  alone : (p : Piece) (ps : List Piece) → holds ps ≡ zero_of scalar → holds (p ∷ []) ≡ holds (p ∷ ps)
  alone (piece.Value from e) ps none = grind (arith, none)
  alone (piece.Text from bytes) ps none = grind (arith, none)

  -- all pieces begin after the offset
  pub all_past : (ps : List Piece) → ((k : ℕ) (d : Piece) → k < length ps → offset < start_of (get_or ps k d)) → holds ps ≡ zero_of scalar
  all_past [] past = refl
  all_past (p ∷ ps) past = past_one p ps (past 0 p (omega arith)) ∙ all_past ps (λ k d below. past (suc k) d (omega (arith, below)))

  -- the last of ascending pieces that begins at the offset or before it
  pub nearest_alone : (from last : ℕ) (ps : List Piece) → IsTrue (ascends_from from ps) → last < length ps
      → ((k : ℕ) (d : Piece) → k ≤ last → start_of (get_or ps k d) ≤ offset)
      → ((k : ℕ) (d : Piece) → last < k → k < length ps → offset < start_of (get_or ps k d)) → holds (take 1 (drop last ps)) ≡ holds ps
  nearest_alone from last [] rises within before past = absurd (omega (arith, within))
  nearest_alone from zero (p ∷ ps) rises within before past =
      alone p ps (all_past ps (λ k d below. past (suc k) d (omega arith) (omega (arith, below))))
  nearest_alone from (suc last) (p ∷ []) rises within before past = absurd (omega (arith, within))
  nearest_alone from (suc last) (p ∷ q ∷ ps) rises within before past =
      let rest = (first_rises from p (q ∷ ps) rises).1 in
      let next : end_of p ≤ start_of q = (first_rises (end_of p) q ps rest).0 in
      let there : start_of q ≤ offset = before 1 p (omega arith) in
      nearest_alone (end_of p) last (q ∷ ps) rest (omega (arith, within)) (λ k d up. before (suc k) d (omega (arith, up)))
      (λ k d after below. past (suc k) d (omega (arith, after)) (omega (arith, below)))
      ∙ sym (ended_one p (q ∷ ps) (omega (arith, next, there)))

-- each ascending piece begins at the first offset or after it
starts_from : (from : ℕ) (ps : List Piece) → IsTrue (ascends_from from ps) → (k : ℕ) (d : Piece) → k < length ps → from ≤ start_of (get_or ps k d)
starts_from from [] rises k d below = absurd (omega (arith, below))
starts_from from (p ∷ ps) rises zero d below = (first_rises from p ps rises).0
starts_from from (p ∷ ps) rises (suc k) d below =
    let both = first_rises from p ps rises in
    let after : end_of p ≤ start_of (get_or ps k d) = starts_from (end_of p) ps both.1 k d (omega (arith, below)) in
    omega (arith, both.0, start_to_end p, after)

-- ascending pieces begin in their order
pub starts_rise : (from : ℕ) (ps : List Piece) → IsTrue (ascends_from from ps) → (i j : ℕ) (d : Piece) → i ≤ j → j < length ps
    → start_of (get_or ps i d) ≤ start_of (get_or ps j d)
starts_rise from [] rises i j d up below = absurd (omega (arith, below))
starts_rise from (p ∷ ps) rises zero zero d up below = omega arith
starts_rise from (p ∷ ps) rises zero (suc j) d up below =
    let both = first_rises from p ps rises in
    let after : end_of p ≤ start_of (get_or ps j d) = starts_from (end_of p) ps both.1 j d (omega (arith, below)) in
    omega (arith, start_to_end p, after)
starts_rise from (p ∷ ps) rises (suc i) zero d up below = absurd (omega (arith, up))
starts_rise from (p ∷ ps) rises (suc i) (suc j) d up below =
    starts_rise (end_of p) ps (first_rises from p ps rises).1 i j d (omega (arith, up)) (omega (arith, below))
