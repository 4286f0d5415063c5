-- The weights of lists of items.
use Rattle.std.proofs.Common.{◌≡◌, ℕ, ◌+◌, ◌<◌, ◌≤◌, List, [], ◌∷◌, ◌++◌, refl, ap, arith}
use Rattle.cs_types.specs.Shape.{Shape, void, integer, pointer, array, struct}
use Rattle.cs_ast.specs.declared.place.Place.{Place}
use Rattle.cs_ast.specs.declared.typed.operator.Order.{Order}
use Rattle.cs_ast.specs.declared.typed.operator.Order.TheVariants.{PointerFirst, AmountFirst}
use Rattle.cs_ast.specs.TypedTree.{Typed, Of, Form, Number, Null, Text, Local, Global, Through, Index, Member, Arrow, Load, Address, Decay, Convert, Unary, Not}
use Rattle.cs_ast.specs.TypedTree.{Binary, Compare, Sum, Difference, And, Or, Choice, Comma, Assign, Update, Move, Call, Allocate, Free, TypedList, NoMore}
use Rattle.cs_ast.specs.TypedTree.{Further, Initial, Value, Parts, Bytes, Initials, NoPart, Part, Statements, Empty, Then}
use Rattle.cs_ast.specs.TypedProgram.{TypedProgram}
use Rattle.cs_meaning.specs.Types.{type_of, part_type, part_offset}
use Rattle.cs_meaning.specs.Initials.{Piece, Evaluated, Spelled, pieces, pieces_from}
use Rattle.cs_meaning.specs.Machine.{Item, Evaluate, EvaluateUnused, Act as Acting, Fetch, Choose, Judge, Use, Drop, Store, Spell, Execute, Decide, Turn, Again}
use Rattle.cs_meaning.specs.Machine.{Out, Begin, End, Give, Leave}
use Rattle.cs_meaning.specs.CountedPoints.{counted_points}
use Rattle.cs_meaning.specs.Jumps.{executes, broken_out, continued}
use Rattle.cs_meaning.specs.Expressions.{evaluates_all, evaluates_both, evaluates_operand, evaluates_form, evaluates, uses}
use Rattle.cs_meaning.specs.Statements.{stores_pieces}
use Rattle.cs_meaning.proofs.Weights.{weigh, weigh_form, weigh_all, weigh_initial, weigh_initials, weigh_statements, weigh_items}

-- the weight of a list of statements is the sum of their weights
pub executes_weigh : (statements : Statements) (counted_point : ℕ) (following : List Item)
    → weigh_items (executes statements counted_point following) ≡ weigh_statements statements + weigh_items following
executes_weigh Empty counted_point following = omega arith
executes_weigh (Then first others) counted_point following =
    let rest = executes_weigh others (counted_point + counted_points first) following in
    omega arith

-- the stores of a list of pieces follow one another
stores_append : (at : Place) (declaration : ℕ) (ones others : List Piece) (following : List Item)
    → stores_pieces at declaration (ones ++ others) following ≡ stores_pieces at declaration ones (stores_pieces at declaration others following)
stores_append at declaration [] others following = refl
stores_append at declaration (Evaluated offset e ∷ ones) others following =
    ap (λ items. Evaluate e ∷ (Store at declaration offset (type_of e) ∷ items)) (stores_append at declaration ones others following)
stores_append at declaration (Spelled offset bytes ∷ ones) others following =
    ap (λ items. Spell declaration offset bytes ∷ items) (stores_append at declaration ones others following)

mutual
  -- an initializer weighs as much as its pieces
  pub pieces_weigh : (program : TypedProgram) (at : Place) (declaration : ℕ) (ty : Shape) (from : ℕ) (initial : Initial) (following : List Item)
      → weigh_items (stores_pieces at declaration (pieces program ty from initial) following) ≡ weigh_initial initial + weigh_items following
  pieces_weigh program at declaration ty from (Value e) following = omega arith
  pieces_weigh program at declaration ty from (Bytes bytes) following = refl
  pieces_weigh program at declaration ty from (Parts parts) following = parts_weigh program at declaration ty from 0 parts following

  parts_weigh : (program : TypedProgram) (at : Place) (declaration : ℕ) (ty : Shape) (from number : ℕ) (parts : Initials) (following : List Item)
      → weigh_items (stores_pieces at declaration (pieces_from program ty from number parts) following) ≡ weigh_initials parts + weigh_items following
  parts_weigh program at declaration ty from number NoPart following = omega arith
  parts_weigh program at declaration ty from number (Part first others) following =
      let ones = pieces program (part_type program ty number) (from + part_offset program ty number) first in
      let more = pieces_from program ty from (number + 1) others in
      let split = ap weigh_items (stores_append at declaration ones more following) in
      let a = pieces_weigh program at declaration (part_type program ty number) (from + part_offset program ty number) first
      (stores_pieces at declaration more following) in
      let b = parts_weigh program at declaration ty from (number + 1) others following in
      omega arith

-- the items that remain after a loop, or after its body, weigh no more
pub broken_light : (items : List Item) → weigh_items (broken_out items) ≤ weigh_items items
broken_light [] = omega arith
broken_light ((Evaluate e) ∷ items) =
    let rest = broken_light items in
    omega arith
broken_light ((EvaluateUnused e) ∷ items) =
    let rest = broken_light items in
    omega arith
broken_light ((Acting e) ∷ items) =
    let rest = broken_light items in
    omega arith
broken_light ((Fetch e) ∷ items) =
    let rest = broken_light items in
    omega arith
broken_light ((Choose e) ∷ items) =
    let rest = broken_light items in
    omega arith
broken_light ((Judge at) ∷ items) =
    let rest = broken_light items in
    omega arith
broken_light ((Use at) ∷ items) =
    let rest = broken_light items in
    omega arith
broken_light (Drop ∷ items) =
    let rest = broken_light items in
    omega arith
broken_light ((Store at declaration offset ty) ∷ items) =
    let rest = broken_light items in
    omega arith
broken_light ((Spell declaration offset bytes) ∷ items) =
    let rest = broken_light items in
    omega arith
broken_light ((Execute s counted_point) ∷ items) =
    let rest = broken_light items in
    omega arith
broken_light ((Decide s counted_point) ∷ items) =
    let rest = broken_light items in
    omega arith
broken_light ((Turn s counted_point) ∷ items) =
    let rest = broken_light items in
    omega arith
broken_light ((Again s counted_point) ∷ items) =
    let rest = broken_light items in
    omega arith
broken_light (Out ∷ items) = omega arith
broken_light ((Begin at) ∷ items) =
    let rest = broken_light items in
    omega arith
broken_light ((End at value) ∷ items) =
    let rest = broken_light items in
    omega arith
broken_light ((Give at) ∷ items) =
    let rest = broken_light items in
    omega arith
broken_light (Leave ∷ items) =
    let rest = broken_light items in
    omega arith

pub continued_light : (items : List Item) → weigh_items (continued items) ≤ weigh_items items
continued_light [] = omega arith
continued_light ((Evaluate e) ∷ items) =
    let rest = continued_light items in
    omega arith
continued_light ((EvaluateUnused e) ∷ items) =
    let rest = continued_light items in
    omega arith
continued_light ((Acting e) ∷ items) =
    let rest = continued_light items in
    omega arith
continued_light ((Fetch e) ∷ items) =
    let rest = continued_light items in
    omega arith
continued_light ((Choose e) ∷ items) =
    let rest = continued_light items in
    omega arith
continued_light ((Judge at) ∷ items) =
    let rest = continued_light items in
    omega arith
continued_light ((Use at) ∷ items) =
    let rest = continued_light items in
    omega arith
continued_light (Drop ∷ items) =
    let rest = continued_light items in
    omega arith
continued_light ((Store at declaration offset ty) ∷ items) =
    let rest = continued_light items in
    omega arith
continued_light ((Spell declaration offset bytes) ∷ items) =
    let rest = continued_light items in
    omega arith
continued_light ((Execute s counted_point) ∷ items) =
    let rest = continued_light items in
    omega arith
continued_light ((Decide s counted_point) ∷ items) =
    let rest = continued_light items in
    omega arith
continued_light ((Turn s counted_point) ∷ items) =
    let rest = continued_light items in
    omega arith
continued_light ((Again s counted_point) ∷ items) = omega arith
continued_light (Out ∷ items) =
    let rest = continued_light items in
    omega arith
continued_light ((Begin at) ∷ items) =
    let rest = continued_light items in
    omega arith
continued_light ((End at value) ∷ items) =
    let rest = continued_light items in
    omega arith
continued_light ((Give at) ∷ items) =
    let rest = continued_light items in
    omega arith
continued_light (Leave ∷ items) =
    let rest = continued_light items in
    omega arith

-- the weight of a call's arguments is the sum of their weights
all_weigh : (arguments : TypedList) (following : List Item) → weigh_items (evaluates_all arguments following) ≡ weigh_all arguments + weigh_items following
all_weigh NoMore following = omega arith
all_weigh (Further first others) following =
    let rest = all_weigh others following in
    omega arith

-- a pointer and an amount weigh the same in either order
both_weigh : (one amount : Typed) (order : Order) (following : List Item)
    → weigh_items (evaluates_both one amount order following) ≡ (weigh one + weigh amount) + weigh_items following
both_weigh one amount PointerFirst following = omega arith
both_weigh one amount AmountFirst following = omega arith

operand_weighs : (ty : Shape) (a : Typed) (following : List Item) → weigh_items (evaluates_operand ty a following) ≡ weigh a + weigh_items following
operand_weighs void a following = refl
operand_weighs (integer kind) a following = refl
operand_weighs (pointer target) a following = refl
operand_weighs (array element count) a following = refl
operand_weighs (struct number) a following = refl

-- the parts of an expression, with what is done with them, weigh at least two less than the expression
parts_light : (e : Typed) (ty : Shape) (form : Form) (following : List Item)
    → weigh_items (evaluates_form e ty form following) ≤ (weigh_form form + 2) + weigh_items following
parts_light e ty (Number n) following = omega arith
parts_light e ty Null following = omega arith
parts_light e ty (Text literal) following = omega arith
parts_light e ty (Local declaration) following = omega arith
parts_light e ty (Global global) following = omega arith
parts_light e ty (Through a) following = omega arith
parts_light e ty (Index a i order) following =
    let both = both_weigh a i order (Acting e ∷ following) in
    omega arith
parts_light e ty (Member a offset) following = omega arith
parts_light e ty (Arrow a offset) following = omega arith
parts_light e ty (Load a) following = omega arith
parts_light e ty (Address a) following = omega arith
parts_light e ty (Decay a) following = omega arith
parts_light e ty (Convert a) following =
    let operand = operand_weighs ty a (Acting e ∷ following) in
    omega arith
parts_light e ty (Unary op a) following = omega arith
parts_light e ty (Not a) following = omega arith
parts_light e ty (Binary op a b) following = omega arith
parts_light e ty (Compare op a b) following = omega arith
parts_light e ty (Sum a n direction order) following =
    let both = both_weigh a n order (Acting e ∷ following) in
    omega arith
parts_light e ty (Difference a b) following = omega arith
parts_light e ty (And a b) following = omega arith
parts_light e ty (Or a b) following = omega arith
parts_light e ty (Choice a b c) following = omega arith
parts_light e ty (Comma a b) following = omega arith
parts_light e ty (Assign a b) following = omega arith
parts_light e ty (Update op a b works_in gives) following = omega arith
parts_light e ty (Move a n direction gives) following = omega arith
parts_light e ty (Call function arguments) following =
    let all = all_weigh arguments (Acting e ∷ following) in
    omega arith
parts_light e ty (Allocate allocator arguments element) following =
    let all = all_weigh arguments (Acting e ∷ following) in
    omega arith
parts_light e ty (Free a) following = omega arith

-- the check of a call's result weighs one
uses_light : (e : Typed) (following : List Item) → weigh_items (uses e following) ≤ 1 + weigh_items following
uses_light (Of at ty (Number n)) following = omega arith
uses_light (Of at ty Null) following = omega arith
uses_light (Of at ty (Text literal)) following = omega arith
uses_light (Of at ty (Local declaration)) following = omega arith
uses_light (Of at ty (Global global)) following = omega arith
uses_light (Of at ty (Through a)) following = omega arith
uses_light (Of at ty (Index a i order)) following = omega arith
uses_light (Of at ty (Member a offset)) following = omega arith
uses_light (Of at ty (Arrow a offset)) following = omega arith
uses_light (Of at ty (Load a)) following = omega arith
uses_light (Of at ty (Address a)) following = omega arith
uses_light (Of at ty (Decay a)) following = omega arith
uses_light (Of at ty (Convert a)) following = omega arith
uses_light (Of at ty (Unary op a)) following = omega arith
uses_light (Of at ty (Not a)) following = omega arith
uses_light (Of at ty (Binary op a b)) following = omega arith
uses_light (Of at ty (Compare op a b)) following = omega arith
uses_light (Of at ty (Sum a n direction order)) following = omega arith
uses_light (Of at ty (Difference a b)) following = omega arith
uses_light (Of at ty (And a b)) following = omega arith
uses_light (Of at ty (Or a b)) following = omega arith
uses_light (Of at ty (Choice a b c)) following = omega arith
uses_light (Of at ty (Comma a b)) following = omega arith
uses_light (Of at ty (Assign a b)) following = omega arith
uses_light (Of at ty (Update op a b works_in gives)) following = omega arith
uses_light (Of at ty (Move a n direction gives)) following = omega arith
uses_light (Of at ty (Call function arguments)) following = omega arith
uses_light (Of at ty (Allocate allocator arguments element)) following = omega arith
uses_light (Of at ty (Free a)) following = omega arith

-- an expression weighs more than its parts, what is done with them, and the check of its result
pub evaluates_light : (e : Typed) (following : List Item) → weigh_items (evaluates e (uses e following)) < weigh e + weigh_items following
evaluates_light (Of at ty form) following =
    let a = parts_light (Of at ty form) ty form (uses (Of at ty form) following) in
    let b = uses_light (Of at ty form) following in
    omega arith

pub unused_light : (e : Typed) (following : List Item) → weigh_items (evaluates e following) < weigh e + weigh_items following
unused_light (Of at ty form) following =
    let a = parts_light (Of at ty form) ty form following in
    omega arith
