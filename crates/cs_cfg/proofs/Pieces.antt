-- The control points of an initializer are those of its pieces, whatever the type of the object. For the control points of placed code and
-- for the builder of a graph.
use Rattle.std.proofs.Common.{◌≡◌, ℕ, ◌+◌, List, [], ◌∷◌, ◌++◌, refl, sym, ap, ◌∙◌, append_assoc, append-nil}
use Rattle.cs_types.specs.Shape.{Shape}
use Rattle.cs_ast.specs.TypedTree.{Initial, Value, Parts, Bytes, Initials, NoPart, Part}
use Rattle.cs_ast.specs.TypedProgram.{TypedProgram}
use Rattle.cs_meaning.specs.Types.{part_type, part_offset}
use Rattle.cs_meaning.specs.Initials.{Piece, Evaluated, Spelled, pieces, pieces_from}
use Rattle.cs_cfg.specs.ControlPoints.{Next, first, points, first_initial, first_parts, points_initial, points_parts}
use Rattle.cs_cfg.specs.PiecePoints.{first_pieces, points_pieces}

-- two lists of pieces, one after the other
first_append : (xs ys : List Piece) (following : Next) → first_pieces (xs ++ ys) following ≡ first_pieces xs (first_pieces ys following)
first_append [] ys following = refl
first_append (Evaluated offset e ∷ xs) ys following = ap (first e) (first_append xs ys following)
first_append (Spelled offset bytes ∷ xs) ys following = first_append xs ys following

points_append : (xs ys : List Piece) (following : Next)
    → points_pieces (xs ++ ys) following ≡ points_pieces xs (first_pieces ys following) ++ points_pieces ys following
points_append [] ys following = refl
points_append (Evaluated offset e ∷ xs) ys following =
    ap (λ next. points e next ++ points_pieces (xs ++ ys) following) (first_append xs ys following)
    ∙ ap (λ rest. points e (first_pieces xs (first_pieces ys following)) ++ rest) (points_append xs ys following)
    ∙ sym (append_assoc (points e (first_pieces xs (first_pieces ys following))) (points_pieces xs (first_pieces ys following)) (points_pieces ys following))
points_append (Spelled offset bytes ∷ xs) ys following = points_append xs ys following

module _ (program : TypedProgram) where
  mutual
    -- the first control point
    pub first_same : (initial : Initial) (shape : Shape) (from : ℕ) (following : Next)
        → first_pieces (pieces program shape from initial) following ≡ first_initial initial following
    first_same (Value e) shape from following = refl
    first_same (Bytes bytes) shape from following = refl
    first_same (Parts parts) shape from following = first_parts_same parts shape from 0 following

    first_parts_same : (parts : Initials) (shape : Shape) (from number : ℕ) (following : Next)
        → first_pieces (pieces_from program shape from number parts) following ≡ first_parts parts following
    first_parts_same NoPart shape from number following = refl
    first_parts_same (Part one others) shape from number following =
        let ty = part_type program shape number in
        let place = from + part_offset program shape number in
        first_append (pieces program ty place one) (pieces_from program shape from (number + 1) others) following
        ∙ ap (first_pieces (pieces program ty place one)) (first_parts_same others shape from (number + 1) following)
        ∙ first_same one ty place (first_parts others following)

  mutual
    -- all control points
    pub points_same : (initial : Initial) (shape : Shape) (from : ℕ) (following : Next)
        → points_pieces (pieces program shape from initial) following ≡ points_initial initial following
    points_same (Value e) shape from following = append-nil (points e following)
    points_same (Bytes bytes) shape from following = refl
    points_same (Parts parts) shape from following = points_parts_same parts shape from 0 following

    points_parts_same : (parts : Initials) (shape : Shape) (from number : ℕ) (following : Next)
        → points_pieces (pieces_from program shape from number parts) following ≡ points_parts parts following
    points_parts_same NoPart shape from number following = refl
    points_parts_same (Part one others) shape from number following =
        let ty = part_type program shape number in
        let place = from + part_offset program shape number in
        let rest = pieces_from program shape from (number + 1) others in
        points_append (pieces program ty place one) rest following
        ∙ ap (λ next. points_pieces (pieces program ty place one) next ++ points_pieces rest following)
        (first_parts_same others shape from (number + 1) following)
        ∙ ap (λ them. points_pieces (pieces program ty place one) (first_parts others following) ++ them)
        (points_parts_same others shape from (number + 1) following)
        ∙ ap (λ them. them ++ points_parts others following) (points_same one ty place (first_parts others following))
