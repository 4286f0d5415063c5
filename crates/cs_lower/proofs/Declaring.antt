-- The code of declarations: for the contracts of the functions in `initializers`.
use Rattle.std.proofs.Common.{◌≡◌, Bool, ℕ, suc, ◌+◌, ◌-◌, ◌≤◌, List, [], ◌∷◌, ◌++◌, append-nil, length, drop, get_or}
use Rattle.std.proofs.Common.{drop-cons, map, Some, None, refl, sym, ap, subst, ◌∙◌, arith}
use Rattle.cs_types.specs.Shape.{Shape}
use Rattle.cs_ast.specs.declared.place.Place.{Place}
use Rattle.cs_ast.specs.TypedTree.{Typed, Initial, Value, Parts, Bytes, Initials, NoPart, Part}
use Rattle.cs_ast.specs.TypedProgram.{TypedProgram, Routine}
use Rattle.cs_meaning.specs.Types.{type_of, is_scalar, part_type, part_offset}
use Rattle.cs_meaning.specs.Initials.{Piece, Evaluated, Spelled, pieces, pieces_from}
use Rattle.cs_cfg.specs.ControlPoints.{Next, points, points_initial}
use Rattle.cs_cfg.specs.Executing.{type_in, stores_at}
use Rattle.cs_cfg.specs.Fitting.{AddsPoints}
use Rattle.cs_cfg.specs.Graph as graph
use Rattle.cs_cfg.specs.Graph.{Point, Flow}
use Rattle.cs_cfg.specs.PiecePoints.{first_pieces, points_pieces}
use Rattle.cs_cfg.specs.Placing.{does, used}
use Rattle.cs_cfg.proofs.Fitting.{adds_both, adds_past, adds_silent, then_nothing}
use Rattle.cs_cfg.proofs.Meeting.{does_meets, same_meets}
use Rattle.cs_cfg.proofs.Pieces.{points_same}
use Rattle.cs_cfg.proofs.Starting.{stores_meet}
use Rattle.cs_objects.specs.declared.blocks.Piece.{Piece as CodePiece}
use Rattle.cs_objects.specs.BlockView.{piece_of}
use Rattle.cs_lower.specs.Allocations.{InitialHasArguments, InitialsHaveArguments, PiecesHaveArguments}
use Rattle.cs_lower.specs.Building.{Built}
use Rattle.cs_lower.specs.Integers.{PiecesAreOfIntegers}
use Rattle.cs_lower.specs.Expressions.{Uses}
use Rattle.cs_lower.specs.Statements.{labels_in, StoresPieces, Declares}
use Rattle.cs_lower.proofs.Built.{nothing_more, grows_on}
use Rattle.cs_lower.proofs.Evaluating.{same_after, same_before}
use Rattle.cs_lower.proofs.Integers.{integers_same, integers_both, integers_past, integers_after, integers_before}

all_have : (some more : List Piece) → PiecesHaveArguments some → PiecesHaveArguments more → PiecesHaveArguments (some ++ more)
all_have [] more a b = b
all_have (Evaluated offset e ∷ others) more a b = (a.0, all_have others more a.1 b)
all_have (Spelled offset bytes ∷ others) more a b = all_have others more a b

mutual
  -- if the allocations of an initializer have their arguments, so do those of its pieces
  pieces_have : (program : TypedProgram) (shape : Shape) (from : ℕ) (initial : Initial) → InitialHasArguments initial
      → PiecesHaveArguments (pieces program shape from initial)
  pieces_have program shape from (Value e) has = (has, tt)
  pieces_have program shape from (Bytes bytes) has = tt
  pieces_have program shape from (Parts parts) has = parts_have program shape from 0 parts has

  parts_have : (program : TypedProgram) (shape : Shape) (from number : ℕ) (parts : Initials) → InitialsHaveArguments parts
      → PiecesHaveArguments (pieces_from program shape from number parts)
  parts_have program shape from number NoPart has = tt
  parts_have program shape from number (Part first others) has =
      all_have (pieces program (part_type program shape number) (from + part_offset program shape number) first)
      (pieces_from program shape from (number + 1) others)
      (pieces_have program (part_type program shape number) (from + part_offset program shape number) first has.0)
      (parts_have program shape from (number + 1) others has.1)

-- a piece before others
stored_before : (program : TypedProgram) (routine : Routine) (at : Place) (declaration : ℕ) (flow : Flow) (one : Piece) (others : List Piece) (p r q : Point)
    → stores_at program flow routine (labels_in routine flow) at declaration (one ∷ []) p r
    → stores_at program flow routine (labels_in routine flow) at declaration others r q
    → stores_at program flow routine (labels_in routine flow) at declaration (one ∷ others) p q
stored_before program routine at declaration flow (Evaluated offset e) others p r q first rest = (
  r,
  subst (λ s. used program flow e 0 p (does at 0 (graph.StoreLocal declaration offset (type_of e) (is_scalar (type_in routine declaration))) s)) first.2
      first.1,
  rest,
)
stored_before program routine at declaration flow (Spelled offset bytes) others p r q first rest =
    (r, first.1 ∙ ap (does at 0 (graph.Spell declaration offset bytes)) first.2, rest)

first_has : (one : Piece) (others : List Piece) → PiecesHaveArguments (one ∷ others) → PiecesHaveArguments (one ∷ []) × PiecesHaveArguments others
first_has (Evaluated offset e) others has = ((has.0, tt), has.1)
first_has (Spelled offset bytes) others has = (tt, has)

first_integers : (count : ℕ) (one : Piece) (others : List Piece) → PiecesAreOfIntegers count (one ∷ others)
    → PiecesAreOfIntegers count (one ∷ []) × PiecesAreOfIntegers count others
first_integers count (Evaluated offset e) others ints = ((ints.0, tt), ints.1)
first_integers count (Spelled offset bytes) others ints = absurd ints

-- the control points of an expression, and of a piece that is one
module _ {flow : Flow} where
  as_piece : {old new : List Point} (offset : ℕ) (e : Typed) (next : Next) → AddsPoints flow (points e next) old new
      → AddsPoints flow (points_pieces (Evaluated offset e ∷ []) next) old new
  as_piece {old = old} {new = new} offset e next adds = subst (λ some. AddsPoints flow some old new) (sym (append-nil (points e next))) adds

  as_value : {old new : List Point} (offset : ℕ) (e : Typed) (next : Next) → AddsPoints flow (points_pieces (Evaluated offset e ∷ []) next) old new
      → AddsPoints flow (points e next) old new
  as_value {old = old} {new = new} offset e next adds = subst (λ some. AddsPoints flow some old new) (append-nil (points e next)) adds

  -- a piece before others
  adds_before : (one : Piece) (others : List Piece) (following : Next) {old between new : List Point}
      → AddsPoints flow (points_pieces others following) old between
      → AddsPoints flow (points_pieces (one ∷ []) (first_pieces others following)) between new
      → AddsPoints flow (points_pieces (one ∷ others) following) old new
  adds_before (Evaluated offset e) others following rest one = adds_both rest (as_value offset e (first_pieces others following) one)
  adds_before (Spelled offset bytes) others following rest one = then_nothing rest one

-- the object is set to zero before its pieces are stored
zeroed_first : (program : TypedProgram) {flow : Flow} {at : Place} {declaration : ℕ} {old new : List Point} {p r : Point} (shape : Shape) (initial : Initial)
    (following : Next) → p ≡ does at 0 (graph.Zero declaration) r
    → AddsPoints flow (points_pieces (pieces program shape 0 initial) following) old (r ∷ new)
    → AddsPoints flow (points_initial initial following) old (p ∷ new)
zeroed_first program {flow = flow} {at = at} {declaration = declaration} {old = old} {new = new} {p = p} {r = r} shape initial following zeroed stored =
    subst (λ some. AddsPoints flow some old (p ∷ new)) (points_same program initial shape 0 following)
    (same_before zeroed (then_nothing stored (adds_silent at 0 (graph.Zero declaration) r refl)))

module _ {program : TypedProgram} {routine : Routine} where
  -- the store of a value
  pub value_stored : {at : Place} {declaration offset : ℕ} {e : Typed} {ty : Shape} {scalar : Bool} {old new : Built} {p s q : Point} → ty ≡ type_of e
      → scalar ≡ is_scalar (type_in routine declaration) → s ≡ does at 0 (graph.StoreLocal declaration offset ty scalar) q
      → Uses program e 0 old new p s → StoresPieces program routine at declaration (Evaluated offset e ∷ []) old new p q
  value_stored {at = at} {declaration = declaration} {offset = offset} {e = e} {ty = ty} {scalar = scalar} {p = p} {s = s} {q = q} of_type of_local stores h =
      let store = graph.StoreLocal declaration offset (type_of e) (is_scalar (type_in routine declaration)) in
      let is : s ≡ does at 0 store q = stores
      ∙ (ap (λ t. does at 0 (graph.StoreLocal declaration offset t scalar) q) of_type
      ∙ ap (λ b. does at 0 (graph.StoreLocal declaration offset (type_of e) b) q) of_local) in
      record {
        grows = h.grows;
        does = λ flow has args. (q, subst (λ s. used program flow e 0 p s) is (h.does flow has args.0), refl);
        adds = λ flow has args following m.
            as_piece offset e following
            (adds_past at 0 store q refl (same_after is (h.adds flow has args.0 following (same_meets is (does_meets at 0 store q refl m)))));
        integers = λ count below ints. integers_past at 0 store q below (integers_after is (h.integers count ints.0));
      }

  -- the store of a string literal
  pub text_stored : {at : Place} {declaration offset : ℕ} {bytes : List ℕ} {built : Built} {p q : Point}
      → p ≡ does at 0 (graph.Spell declaration offset bytes) q → StoresPieces program routine at declaration (Spelled offset bytes ∷ []) built built p q
  text_stored {at = at} {declaration = declaration} {offset = offset} {bytes = bytes} {built = built} {q = q} is = record {
    grows = nothing_more built;
    does = λ flow has args. (q, is, refl);
    adds = λ flow has args following m. same_before is (adds_silent at 0 (graph.Spell declaration offset bytes) q refl);
    integers = λ count below ints. absurd ints;
  }

  pub stored_then : {at : Place} {declaration : ℕ} {one : Piece} {others : List Piece} {old mid new : Built} {p r q : Point}
      → StoresPieces program routine at declaration others old mid r q → StoresPieces program routine at declaration (one ∷ []) mid new p r
      → StoresPieces program routine at declaration (one ∷ others) old new p q
  stored_then {at = at} {declaration = declaration} {one = one} {others = others} {p = p} {r = r} {q = q} rest first = record {
    grows = grows_on rest.grows first.grows;
    does = λ flow has args.
        let both = first_has one others args in
        stored_before program routine at declaration flow one others p r q (first.does flow has both.0) (rest.does flow (first.grows.keeps flow has) both.1);
    adds = λ flow has args following m.
        let both = first_has one others args in
        let in_mid = first.grows.keeps flow has in
        let meets = stores_meet program flow routine (labels_in routine flow) others at declaration r q (rest.does flow in_mid both.1) m in
        adds_before one others following (rest.adds flow in_mid both.1 following m) (first.adds flow has both.0 (first_pieces others following) meets);
    integers = λ count below ints.
        let both = first_integers count one others ints in
        integers_both (rest.integers count below both.1) (first.integers count below both.0);
  }

  -- one more piece of a list, whose last one is lowered first
  pub stored_further : {at : Place} {declaration : ℕ} {old mid new : Built} {p r q : Point} (row : List CodePiece) (left : ℕ) (one : CodePiece)
      → 1 ≤ left → left ≤ length row → one ≡ get_or row (left - 1) one
      → StoresPieces program routine at declaration (map piece_of (drop left row)) old mid r q
      → StoresPieces program routine at declaration (piece_of one ∷ []) mid new p r
      → StoresPieces program routine at declaration (map piece_of (drop (left - 1) row)) old new p q
  stored_further {at = at} {declaration = declaration} {old = old} {new = new} {p = p} {q = q} row left one some within is rest first =
      let next : left ≡ suc (left - 1) = omega arith in
      let cut : drop (left - 1) row ≡ one ∷ drop left row =
      drop-cons row (left - 1) one (omega arith)
      ∙ (ap (λ x. x ∷ drop (suc (left - 1)) row) (sym is) ∙ ap (λ (n : ℕ). one ∷ drop n row) (sym next)) in
      subst (λ l. StoresPieces program routine at declaration (map piece_of l) old new p q) (sym cut) (stored_then rest first)

  -- a declaration without an initializer, with a value, and with parts or a string literal
  pub declared_unset : {at : Place} {declaration : ℕ} {built : Built} {p q : Point}
      → p ≡ does at 0 (graph.Clear declaration (is_scalar (type_in routine declaration))) q → Declares program routine at declaration None built built p q
  declared_unset {at = at} {declaration = declaration} {built = built} {q = q} is = record {
    grows = nothing_more built;
    does = λ flow has args. is;
    adds = λ flow has args to following m. same_before is (adds_silent at 0 (graph.Clear declaration (is_scalar (type_in routine declaration))) q refl);
    integers = λ count below ints.
        integers_before is (integers_past at 0 (graph.Clear declaration (is_scalar (type_in routine declaration))) q below integers_same);
  }

  pub declared_value : {at : Place} {declaration : ℕ} {e : Typed} {old new : Built} {p q : Point}
      → StoresPieces program routine at declaration (Evaluated 0 e ∷ []) old new p q
      → Declares program routine at declaration (Some (Value e)) old new p q
  declared_value {at = at} {declaration = declaration} {e = e} {p = p} h = record {
    grows = h.grows;
    does = λ flow has args.
        let stored = h.does flow has (args, tt) in
        subst (λ r. used program flow e 0 p (does at 0 (graph.StoreLocal declaration 0 (type_of e) (is_scalar (type_in routine declaration))) r)) stored.2
        stored.1;
    adds = λ flow has args to following m. as_value 0 e following (h.adds flow has (args, tt) following m);
    integers = λ count below ints. h.integers count below (ints, tt);
  }

  pub declared_parts : {at : Place} {declaration : ℕ} {initial : Initial} {parts : Initials} {old new : Built} {p r q : Point} → initial ≡ Parts parts
      → p ≡ does at 0 (graph.Zero declaration) r
      → StoresPieces program routine at declaration (pieces program (type_in routine declaration) 0 initial) old new r q
      → Declares program routine at declaration (Some initial) old new p q
  declared_parts {at = at} {declaration = declaration} {parts = parts} {old = old} {new = new} {p = p} {r = r} {q = q} is zeroed h =
      subst (λ i. StoresPieces program routine at declaration (pieces program (type_in routine declaration) 0 i) old new r q
      → Declares program routine at declaration (Some i) old new p q) (sym is)
      (λ stored. record {
        grows = stored.grows;
        does = λ flow has args. (r, zeroed, stored.does flow has (pieces_have program (type_in routine declaration) 0 (Parts parts) args));
        adds = λ flow has args to following m. zeroed_first program (type_in routine declaration) (Parts parts) following zeroed
            (stored.adds flow has (pieces_have program (type_in routine declaration) 0 (Parts parts) args) following m);
        integers = λ count below ints. absurd ints;
      }) h

  pub declared_text : {at : Place} {declaration : ℕ} {initial : Initial} {bytes : List ℕ} {old new : Built} {p r q : Point} → initial ≡ Bytes bytes
      → p ≡ does at 0 (graph.Zero declaration) r
      → StoresPieces program routine at declaration (pieces program (type_in routine declaration) 0 initial) old new r q
      → Declares program routine at declaration (Some initial) old new p q
  declared_text {at = at} {declaration = declaration} {bytes = bytes} {old = old} {new = new} {p = p} {r = r} {q = q} is zeroed h =
      subst (λ i. StoresPieces program routine at declaration (pieces program (type_in routine declaration) 0 i) old new r q
      → Declares program routine at declaration (Some i) old new p q) (sym is)
      (λ stored. record {
        grows = stored.grows;
        does = λ flow has args. (r, zeroed, stored.does flow has (pieces_have program (type_in routine declaration) 0 (Bytes bytes) args));
        adds = λ flow has args to following m. zeroed_first program (type_in routine declaration) (Bytes bytes) following zeroed
            (stored.adds flow has (pieces_have program (type_in routine declaration) 0 (Bytes bytes) args) following m);
        integers = λ count below ints. absurd ints;
      }) h
