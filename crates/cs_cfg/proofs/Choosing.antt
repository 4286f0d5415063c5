-- What an expression does with its parts is no control point; `&&`, `||` and `?:` add no control points but their own, if the point after
-- has become a block, and their edges. For the builder of a graph.
use Rattle.std.specs.Prelude.{⊤}
use Rattle.std.proofs.Common.{◌≡◌, Option, Some, None, ℕ, pos, List, [], ◌∷◌, ◌++◌, refl}
use Rattle.cs_types.specs.Shape.{Shape}
use Rattle.cs_ast.specs.declared.place.Place.{Place}
use Rattle.cs_ast.specs.TypedTree.{Typed, Of, Form, Number, Null, Text, Local, Global, Index, Member, Arrow, Load, Convert, Unary, Not, Binary, Compare, Sum}
use Rattle.cs_ast.specs.TypedTree.{Difference, And, Or, Choice, Assign, Update, Move, Call, Allocate, Free}
use Rattle.cs_ast.specs.TypedProgram.{TypedProgram}
use Rattle.cs_events.specs.declared.point.PointKind.TheVariants as point
use Rattle.cs_cfg.specs.Graph as graph
use Rattle.cs_cfg.specs.Graph.{Work, Point, Flow}
use Rattle.cs_cfg.specs.ControlPoints.{Next, met, first, tested, ControlPoint, points, points_of}
use Rattle.cs_cfg.specs.GraphPoints.{met_in, MeetsNext}
use Rattle.cs_cfg.specs.Fitting.{AddsPoints}
use Rattle.cs_cfg.specs.Placing.{does, split, used_then, evaluates_form}
use Rattle.cs_cfg.specs.Standing.{work_of}
use Rattle.cs_cfg.proofs.Meeting.{judged_meets, known_meets, joined_meets}
use Rattle.cs_cfg.proofs.Fitting.{includes_none, jump_to, fit_jump, fit_silent, includes_first, includes_second, includes_one, includes_others, fit_split}
use Rattle.cs_cfg.proofs.Fitting.{adds_past}

-- an operation, if there is one, is no control point
abbrev pub IsSilent : Place → Option Work → Type 0
IsSilent at None = ⊤
IsSilent at (Some work) = met_in at work ≡ None

-- what an expression does with its parts
pub acts_silently : (program : TypedProgram) (at : Place) (ty : Shape) (form : Form) → IsSilent at (work_of program ty form)
acts_silently program at ty (Number n) = refl
acts_silently program at ty Null = refl
acts_silently program at ty (Text literal) = refl
acts_silently program at ty (Local declaration) = refl
acts_silently program at ty (Global global) = refl
acts_silently program at ty (Index a i order) = refl
acts_silently program at ty (Member a offset) = refl
acts_silently program at ty (Arrow a offset) = refl
acts_silently program at ty (Load a) = refl
acts_silently program at ty (Convert a) = refl
acts_silently program at ty (Unary op a) = refl
acts_silently program at ty (Not a) = refl
acts_silently program at ty (Binary op a b) = refl
acts_silently program at ty (Compare op a b) = refl
acts_silently program at ty (Sum a n direction order) = refl
acts_silently program at ty (Difference a b) = refl
acts_silently program at ty (Assign a b) = refl
acts_silently program at ty (Update op a b works_in gives) = refl
acts_silently program at ty (Move a n direction gives) = refl
acts_silently program at ty (Call function arguments) = refl
acts_silently program at ty (Allocate allocator arguments element) = refl
acts_silently program at ty (Free a) = refl
acts_silently program at ty other = tt

-- the use of a value, before more code
pub adds_use : {flow : Flow} {some : List ControlPoint} {old new : List Point} (e : Typed) (number : ℕ) (q : Point)
    → AddsPoints flow some (used_then e number q ∷ old) new → AddsPoints flow some (q ∷ old) new
adds_use (Of at ty (Call function arguments)) number q rest = adds_past at number graph.Use q refl rest
adds_use (Of at ty other) number q rest = rest

module _ (program : TypedProgram) (flow : Flow) (at : Place) (ty : Shape) (number block : ℕ) (following : Next) (p q : Point)
    (m : MeetsNext flow q following) {old sealed with_way with_both new : List Point} where
  -- the point after becomes a block, to which both edges jump; then the right part is built, then the known truth, then the left part
  pub and_adds : (a b : Typed) (it : evaluates_form program flow at ty (And a b) number p q) → AddsPoints flow [] (q ∷ old) sealed →
      AddsPoints flow (points b following) (does at number graph.Judge (jump_to block) ∷ sealed) with_way
      → AddsPoints flow [] (does at number (graph.Number (pos 0)) (jump_to block) ∷ with_way) with_both →
      AddsPoints flow (points a (met point.Branch at)) (split at number it.0 it.1 ∷ with_both) (p ∷ new)
      → AddsPoints flow (points_of at (And a b) following) (q ∷ old) (p ∷ new)
  and_adds a b it end right other left = record {
    keeps = λ all includes fit.
        let before = points a (met point.Branch at) in
        let own = tested at (first b following) following ∷ points b following in
        let has = includes_second before own includes in
        let way = right.keeps all (includes_others has)
        (fit_silent at number graph.Judge (jump_to block) refl (fit_jump block (end.keeps all includes_none fit))) in
        let both = other.keeps all includes_none (fit_silent at number (graph.Number (pos 0)) (jump_to block) refl (fit_jump block way)) in
        left.keeps all (includes_first before own includes)
        (fit_split at number it.0 it.1 (includes_one has) (judged_meets program flow at b number _ q it.3 m)
        (known_meets program flow at (pos 0) number _ q it.4 m) both);
  }

  pub or_adds : (a b : Typed) (it : evaluates_form program flow at ty (Or a b) number p q) → AddsPoints flow [] (q ∷ old) sealed →
      AddsPoints flow (points b following) (does at number graph.Judge (jump_to block) ∷ sealed) with_way
      → AddsPoints flow [] (does at number (graph.Number (pos 1)) (jump_to block) ∷ with_way) with_both →
      AddsPoints flow (points a (met point.Branch at)) (split at number it.0 it.1 ∷ with_both) (p ∷ new)
      → AddsPoints flow (points_of at (Or a b) following) (q ∷ old) (p ∷ new)
  or_adds a b it end right other left = record {
    keeps = λ all includes fit.
        let before = points a (met point.Branch at) in
        let own = tested at following (first b following) ∷ points b following in
        let has = includes_second before own includes in
        let way = right.keeps all (includes_others has)
        (fit_silent at number graph.Judge (jump_to block) refl (fit_jump block (end.keeps all includes_none fit))) in
        let both = other.keeps all includes_none (fit_silent at number (graph.Number (pos 1)) (jump_to block) refl (fit_jump block way)) in
        left.keeps all (includes_first before own includes)
        (fit_split at number it.0 it.1 (includes_one has) (known_meets program flow at (pos 1) number _ q it.3 m)
        (judged_meets program flow at b number _ q it.4 m) both);
  }

  -- one of the two parts first, and then the other
  pub choice_adds : (a b c : Typed) (it : evaluates_form program flow at ty (Choice a b c) number p q) → AddsPoints flow [] (q ∷ old) sealed →
      AddsPoints flow (points b following) (jump_to block ∷ sealed) with_way → AddsPoints flow (points c following) (jump_to block ∷ with_way) with_both
      →
      AddsPoints flow (points a (met point.Branch at)) (split at number it.0 it.1 ∷ with_both) (p ∷ new)
      → AddsPoints flow (points_of at (Choice a b c) following) (q ∷ old) (p ∷ new)
  choice_adds a b c it end one two left = record {
    keeps = λ all includes fit.
        let before = points a (met point.Branch at) in
        let own = tested at (first b following) (first c following) ∷ (points b following ++ points c following) in
        let has = includes_second before own includes in
        let way = one.keeps all (includes_first (points b following) (points c following) (includes_others has))
        (fit_jump block (end.keeps all includes_none fit)) in
        let both = two.keeps all (includes_second (points b following) (points c following) (includes_others has)) (fit_jump block way) in
        left.keeps all (includes_first before own includes)
        (fit_split at number it.0 it.1 (includes_one has) (joined_meets program flow b number _ q it.3 m) (joined_meets program flow c number _ q it.4 m) both);
  }
