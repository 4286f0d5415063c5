-- Integer code, piece by piece: for the integer code of integer functions.
use Rattle.std.proofs.Common.{◌≡◌, ℕ, List, [], ◌∷◌, Option, Some, None, refl, sym, subst}
use Rattle.std.specs.Prelude.{All, Contains}
use Rattle.std.specs.Option.{IfSome}
use Rattle.std.proofs.lemmas.List.Elements.{All-cons, All-contains, All-head, All-nil, All-tail, All-weaker}
use Rattle.cs_types.specs.Shape.{Shape}
use Rattle.cs_ast.specs.declared.place.Place.{Place}
use Rattle.cs_ast.specs.TypedTree.{Typed, Of, Form, Number, Local, Load, Convert, Unary, Not}
use Rattle.cs_ast.specs.TypedTree.{Binary, Compare, And, Or, Choice, Comma, Assign, Update, Call}
use Rattle.cs_ast.specs.TypedProgram.{TypedProgram}
use Rattle.cs_meaning.specs.Access.{access_of}
use Rattle.cs_cfg.specs.Graph.{BlockEnd, Operation, Point, Work}
use Rattle.cs_cfg.specs.IntegerCode.{IsIntegerOperation, IsIntegerPoint, IsIntegerWork, IsOfInteger}
use Rattle.cs_cfg.specs.Placing.{does, used_then}
use Rattle.cs_cfg.specs.Standing.{work_of}
use Rattle.cs_lower.specs.Expressions.{does_if}
use Rattle.cs_lower.specs.Integers.{IsIntegerLocal, IsOfIntegers, FormIsOfIntegers, AddsIntegers}

module _ {count : ℕ} where
  -- the same blocks, and all of them except the first
  pub integers_same : {some : List Point} → AddsIntegers count some some
  integers_same = record { keeps = λ all. all }

  pub integers_less : {block : Point} {blocks : List Point} → AddsIntegers count (block ∷ blocks) blocks
  integers_less {block = block} {blocks = blocks} = record { keeps = λ all. All-tail (IsIntegerPoint count) block blocks all }

  -- one after another
  pub integers_both : {old between new : List Point} → AddsIntegers count old between → AddsIntegers count between new → AddsIntegers count old new
  integers_both one other = record { keeps = λ all. other.keeps (one.keeps all) }

  -- a point without operations, with which other code begins
  pub integers_end : {end : BlockEnd} {old new : List Point} → AddsIntegers count (record { operations = []; end = end } ∷ old) new
      → AddsIntegers count old new
  integers_end {end = end} {old = old} rest = record {
    keeps = λ all.
        rest.keeps (All-cons (IsIntegerPoint count) (record { operations = []; end = end }) old (All-nil (IsIntegerOperation count)) all);
  }

  -- an operation before the first of the blocks
  pub integers_past : {old new : List Point} (at : Place) (number : ℕ) (work : Work) (q : Point) → IsIntegerWork count work
      → AddsIntegers count (does at number work q ∷ old) new → AddsIntegers count (q ∷ old) new
  integers_past {old = old} at number work q is rest = record {
    keeps = λ all.
        let first = All-head (IsIntegerPoint count) q old all in
        let others = All-tail (IsIntegerPoint count) q old all in
        let operation : Operation = record { at = at; temporary = number; work = work } in
        rest.keeps (All-cons (IsIntegerPoint count) (does at number work q) old
        (All-cons (IsIntegerOperation count) operation q.operations is first) others);
  }

  -- an optional operation
  pub integers_if : {old new : List Point} (at : Place) (number : ℕ) (work : Option Work) (q : Point) → IfSome work (IsIntegerWork count)
      → AddsIntegers count (does_if at number work q ∷ old) new → AddsIntegers count (q ∷ old) new
  integers_if at number None q is rest = rest
  integers_if at number (Some work) q is rest = integers_past at number work q is rest

  -- blocks that were there before
  pub integers_among : {old new : List Point} → All (Contains old) new → AddsIntegers count old new
  integers_among {old = old} {new = new} among = record {
    keeps = λ all. All-weaker (Contains old) (IsIntegerPoint count) (λ p in_old. All-contains (IsIntegerPoint count) old p all in_old) new among;
  }

  -- code that is built between a point and the block that the point becomes
  pub integers_between : {old with_point with_code new : List Point} {p r : Point} → AddsIntegers count old (r ∷ with_point)
      → AddsIntegers count with_point (p ∷ with_code) → AddsIntegers count (r ∷ with_code) new → AddsIntegers count old (p ∷ new)
  integers_between {with_point = with_point} {with_code = with_code} {new = new} {p = p} {r = r} before code after = record {
    keeps = λ all.
        let is = IsIntegerPoint count in
        let pointed = before.keeps all in
        let coded = code.keeps (All-tail is r with_point pointed) in
        let made = after.keeps (All-cons is r with_code (All-head is r with_point pointed) (All-tail is p with_code coded)) in
        All-cons is p new (All-head is p with_code coded) made;
  }

  -- the first point can be replaced by an equal one
  pub integers_after : {old new : List Point} {s t : Point} → s ≡ t → AddsIntegers count (s ∷ old) new → AddsIntegers count (t ∷ old) new
  integers_after {old = old} {new = new} is adds = subst (λ r. AddsIntegers count (r ∷ old) new) is adds

  pub integers_before : {old new : List Point} {p t : Point} → p ≡ t → AddsIntegers count old (t ∷ new) → AddsIntegers count old (p ∷ new)
  integers_before {old = old} {new = new} is adds = subst (λ r. AddsIntegers count old (r ∷ new)) (sym is) adds

  -- a local is an object of an integer type, and is accessed as one
  pub local_integers : {object : Typed} → IsIntegerLocal count object → IsOfIntegers count object
  local_integers local = subst (IsOfIntegers count) (sym local.is) local.below

  pub accessed_integer : {object : Typed} → IsIntegerLocal count object → IsOfInteger (access_of object)
  accessed_integer local = subst (λ e. IsOfInteger (access_of e)) (sym local.is) (record { direct = refl; ty = local.ty; of = refl })

  -- an integer expression isn't a call, whose result would be checked
  pub used_integers : {old new : List Point} (e : Typed) (number : ℕ) (q : Point) → IsOfIntegers count e
      → AddsIntegers count (used_then e number q ∷ old) new → AddsIntegers count (q ∷ old) new
  used_integers (Of at ty (Call function arguments)) number q ints rest = absurd ints
  used_integers (Of at ty other) number q ints rest = rest

-- what an integer expression does with its parts works with integers only
pub acts_integers : (count : ℕ) (program : TypedProgram) (ty : Shape) (form : Form) → FormIsOfIntegers count form
    → IfSome (work_of program ty form) (IsIntegerWork count)
acts_integers count program ty (Number n) ints = tt
acts_integers count program ty (Local declaration) ints = ints
acts_integers count program ty (Load object) ints = accessed_integer ints
acts_integers count program ty (Convert a) ints = tt
acts_integers count program ty (Unary op a) ints = tt
acts_integers count program ty (Not a) ints = tt
acts_integers count program ty (Binary op a b) ints = tt
acts_integers count program ty (Compare op a b) ints = tt
acts_integers count program ty (And a b) ints = tt
acts_integers count program ty (Or a b) ints = tt
acts_integers count program ty (Choice a b c) ints = tt
acts_integers count program ty (Comma a b) ints = tt
acts_integers count program ty (Assign object b) ints = accessed_integer ints.0
acts_integers count program ty (Update op object b works_in gives) ints = accessed_integer ints.0
acts_integers count program ty other ints = absurd ints
