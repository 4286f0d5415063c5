-- The positions of nodes, from those of their parts: for the contracts of the nodes.
use Rattle.std.proofs.Common.{◌≡◌, ℕ, suc, ◌<◌, length, get_or, Option, Result, Ok, Err, List, [], ◌∷◌, Vec, Global, drop, refl, sym, ap}
use Rattle.std.proofs.Common.{◌∙◌, subst}
use Rattle.std.specs.Prelude.{IfOk}
use Rattle.std.proofs.Math.Seq.{drop-cons}
use Rattle.cs_ast.specs.declared.place.Place.{Place}
use Rattle.cs_ast.specs.declared.token.Token.{Token}
use Rattle.cs_ast.specs.declared.raw.written_type.WrittenType.{WrittenType}
use Rattle.cs_ast.specs.declared.raw.expression.RawExpr.{RawExpr}
use Rattle.cs_ast.specs.declared.raw.expression.RawExprKind.{RawExprKind, Row_of-RawExpr, end_of-RawExpr, more_of-RawExpr, items-the_row-RawExpr}
use Rattle.cs_ast.specs.declared.raw.expression.RawExprKind.{items_hidden-the_row-RawExpr-0}
use Rattle.cs_ast.specs.declared.raw.expression.RawExprKind.TheVariants as kind
use Rattle.cs_grammar.specs.Places.{HasPlaces, IsPlaced, ArePlaced, AreBoundsPlaced, HasTagPlace, StandsAt, following, after_tree, after_words, after_bounds}
use Rattle.cs_expr_parser.specs.Places.{AreInRow, AreInBrackets, after_brackets, IsFoundPlaced}
use Rattle.cs_ast.proofs.RawRows.{row_of}

row_in : (n : _) (row : Row_of-RawExpr n) (list : List Token) → AreInRow (items-the_row-RawExpr n row) list → ArePlaced row list
row_in n end_of-RawExpr list a = tt
row_in n (more_of-RawExpr at p first others) list a = (a.0, row_in _ others (drop 1 (following first list)) a.1)

brackets_in : (n : _) (row : Row_of-RawExpr n) (list : List Token) → AreInBrackets (items-the_row-RawExpr n row) list → AreBoundsPlaced row list
brackets_in n end_of-RawExpr list a = tt
brackets_in n (more_of-RawExpr at p first others) list a = (a.0, brackets_in _ others (drop 1 (following first (drop 1 list))) a.1)

brackets_after : (n : _) (row : Row_of-RawExpr n) (list : List Token) → after_bounds row list ≡ after_brackets (items-the_row-RawExpr n row) list
brackets_after n end_of-RawExpr list = refl
brackets_after n (more_of-RawExpr at p first others) list = brackets_after _ others (drop 1 (following first (drop 1 list)))

pub call_placed : (function : RawExpr) (arguments : Vec RawExpr Global) (at : Place) (list : List Token) → HasPlaces function list
    → StandsAt at (after_tree function list) → AreInRow arguments.items (drop 1 (after_tree function list))
    → IsPlaced at (kind.Call function arguments) list
call_placed function arguments at list a b d =
    let row = row_of (kind.Call function arguments) in
    let following = drop 1 (after_tree function list) in
    (a, b, row_in row.0 row.1 following (subst (λ (es : List RawExpr). AreInRow es following) (sym (items_hidden-the_row-RawExpr-0 arguments)) d))

pub size_of_type_placed : (ty : WrittenType) (bounds : Vec RawExpr Global) (at : Place) (list : List Token) → StandsAt at list
    → HasTagPlace ty (drop 2 list) → AreInBrackets bounds.items (after_words ty (drop 2 list)) → IsPlaced at (kind.SizeOfType ty bounds) list
size_of_type_placed ty bounds at list a b d =
    let row = row_of (kind.SizeOfType ty bounds) in
    let brackets = after_words ty (drop 2 list) in
    (a, b, brackets_in row.0 row.1 brackets (subst (λ (es : List RawExpr). AreInBrackets es brackets) (sym (items_hidden-the_row-RawExpr-0 bounds)) d))

pub cast_placed : (ty : WrittenType) (bounds : Vec RawExpr Global) (operand : RawExpr) (at : Place) (list : List Token) → StandsAt at list
    → HasTagPlace ty (drop 1 list) → AreInBrackets bounds.items (after_words ty (drop 1 list))
    → HasPlaces operand (drop 1 (after_brackets bounds.items (after_words ty (drop 1 list)))) → IsPlaced at (kind.Cast ty bounds operand) list
cast_placed ty bounds operand at list a b d e =
    let row = row_of (kind.Cast ty bounds operand) in
    let items = sym (items_hidden-the_row-RawExpr-0 bounds) in
    let brackets = after_words ty (drop 1 list) in (
      a,
      b,
      brackets_in row.0 row.1 brackets (subst (λ (es : List RawExpr). AreInBrackets es brackets) items d),
      subst (λ (t : List Token). HasPlaces operand (drop 1 t)) (sym (brackets_after row.0 row.1 brackets))
          (subst (λ (es : List RawExpr). HasPlaces operand (drop 1 (after_brackets es brackets))) items e),
    )

-- the expression of the token at an index
pub leaf_at_placed : {E : Type 0} (tokens : List Token) (at : ℕ) (t : Token) (answer : Result (Option RawExpr) E) → at < length tokens
    → t ≡ get_or tokens at t → IfOk answer (λ found. (others : List Token) → IsFoundPlaced found (t ∷ others))
    → IfOk answer (λ found. IsFoundPlaced found (drop at tokens))
leaf_at_placed tokens at t (Ok found) less e f =
    subst (IsFoundPlaced found) (sym (drop-cons tokens at t less ∙ ap (λ (x : Token). x ∷ drop (suc at) tokens) (sym e))) (f (drop (suc at) tokens))
leaf_at_placed tokens at t (Err x) less e f = tt
