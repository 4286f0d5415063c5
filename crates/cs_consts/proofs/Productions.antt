-- The result of each production's rule if the parts are typed, or one of them has a type error: for the cycle of typing.
use Rattle.std.proofs.Common.{◌≡◌, ℕ, List, true, false, cond, eqb, Option, Some, None, length, refl, sym, ap, arith}
use Rattle.std.proofs.lemmas.Bool.Decides.{nat_tests}
use Rattle.std.proofs.Common.{◌∙◌, Result, subst, map}
use Rattle.std.specs.Prelude.{vec_len}
use Rattle.std.proofs.lemmas.List.{length-map}
use Rattle.cs_types.specs.declared.ctype.CType.{CType}
use Rattle.cs_types.specs.Shape.{Shape, shape_of}
use Rattle.cs_ast.specs.declared.place.Place.{Place}
use Rattle.cs_ast.specs.declared.raw.expression.RawExpr.{RawExpr}
use Rattle.cs_ast.specs.declared.raw.operator.AssignOp.{AssignOp}
use Rattle.cs_ast.specs.declared.raw.operator.InfixOp.{InfixOp}
use Rattle.cs_ast.specs.declared.raw.operator.InfixOp.TheVariants as infix_op
use Rattle.cs_ast.specs.declared.raw.written_type.WrittenType.{WrittenType}
use Rattle.cs_ast.specs.declared.typed.expression.Expr.{Expr}
use Rattle.cs_ast.specs.TypedTree.{Typed, TypedList}
use Rattle.cs_scopes.specs.declared.context.Context.{Context}
use Rattle.cs_consts.specs.declared.purpose.Purpose.{Purpose}
use Rattle.cs_scopes.specs.declared.refusal.TypeRefusal.{TypeRefusal}
use Rattle.cs_scopes.specs.declared.refusal.TypeRefusal.TheVariants as refusal
use Rattle.cs_scopes.specs.declared.refusal.TypeCode.{TypeCode}
use Rattle.cs_scopes.specs.declared.refusal.TypeCode.TheVariants as code
use Rattle.cs_scopes.specs.declared.scope.DeclaredFunction.{DeclaredFunction}
use Rattle.cs_scopes.specs.Meanings.{Signature, signature_of}
use Rattle.cs_scopes.specs.Verdicts.{Verdict, Fine, Fault, lift, lift2, lift3, IsRefused, Yields}
use Rattle.cs_scopes.specs.Faults.{least_code, unless_fault}
use Rattle.cs_folding.specs.TypedParts.{type_of}
use Rattle.cs_expressions.specs.Objects.{valued, operand}
use Rattle.cs_expressions.specs.Stores.{led}
use Rattle.cs_consts.specs.Constants.{finished}
use Rattle.cs_consts.specs.Operands.{left_operand_fault}
use Rattle.cs_expressions.specs.Operators.{combined, tested}
use Rattle.cs_expressions.specs.Calls.{called, parameters_of, call_fault}
use Rattle.cs_expressions.specs.Primary.{Literals}
use Rattle.cs_consts.specs.Typing.{literals_after, formed, done, value_in, operand_in, purpose_after, purpose_if, right_target, left_side}
use Rattle.cs_consts.specs.Typing.{left_fault, between, indexed_values, subscript_formed}
use Rattle.cs_consts.specs.Typing.{stored, stored_to, infix_formed, choice_formed, chosen_values, store_formed, cast_formed, cast_to, cast_type, base_in}
use Rattle.cs_consts.specs.Typing.{given_shape}
use Rattle.cs_consts.specs.Typing.{call_formed, call_or_not, call_with, no_function, arguments_listed, arguments_listed_fault}
use Rattle.cs_scopes.proofs.Lifting.{lift-fine, lift2-fine, lift3-fine, lift-refused, lift2-refused-first, lift2-refused-second, lift3-refused-first}
use Rattle.cs_scopes.proofs.Lifting.{lift3-refused-second, lift3-refused-third, yields_as, refused_as}

-- the expression, finished for its purpose, and its value
pub done_stops : (c : Context) (p : Purpose) (v : Verdict Typed) (r : TypeRefusal) → IsRefused v r → IsRefused (done c p v) r
unfolding done
done_stops c p v r h = lift-refused (finished c.model p) v r h

pub done_is : (c : Context) (p : Purpose) (v : Verdict Typed) (e : Typed) → v ≡ Fine e → done c p v ≡ finished c.model p e
unfolding done
done_is c p v e h = ap (lift (finished c.model p)) h ∙ lift-fine (finished c.model p) e

pub value_stops : (c : Context) (p : Purpose) (v : Verdict Typed) (r : TypeRefusal) → IsRefused (done c p v) r → IsRefused (value_in c p v) r
unfolding value_in
value_stops c p v r h = lift-refused (valued c.table.list) (done c p v) r h

pub value_is : (c : Context) (p : Purpose) (v : Verdict Typed) (e : Typed) → done c p v ≡ Fine e → value_in c p v ≡ valued c.table.list e
unfolding value_in
value_is c p v e h = ap (lift (valued c.table.list)) h ∙ lift-fine (valued c.table.list) e

pub operand_stops : (c : Context) (p : Purpose) (v : Verdict Typed) (r : TypeRefusal) → IsRefused (done c p v) r → IsRefused (operand_in c p v) r
unfolding operand_in
operand_stops c p v r h = lift-refused (operand c.table.list) (done c p v) r h

pub operand_is : (c : Context) (p : Purpose) (v : Verdict Typed) (e : Typed) → done c p v ≡ Fine e → operand_in c p v ≡ operand c.table.list e
unfolding operand_in
operand_is c p v e h = ap (lift (operand c.table.list)) h ∙ lift-fine (operand c.table.list) e

-- an operator on two operands
between-fine : (at : Place) (asks : Shape → Option TypeCode) (rule : Typed → Typed → Verdict Typed) (l : Typed) (w : Verdict Typed)
    → between at asks rule (Fine l) w ≡ lift (rule l) (led at (asks (type_of l)) w)
unfolding between
between-fine at asks rule l w = refl

between-fault : (at : Place) (asks : Shape → Option TypeCode) (rule : Typed → Typed → Verdict Typed) (c : TypeCode) (place : Place) (w : Verdict Typed)
    → between at asks rule (Fault c place) w ≡ Fault c place
unfolding between
between-fault at asks rule c place w = refl

between_left_stops : (at : Place) (asks : Shape → Option TypeCode) (rule : Typed → Typed → Verdict Typed) (v w : Verdict Typed) (r : TypeRefusal)
    → IsRefused v r → IsRefused (between at asks rule v w) r
between_left_stops at asks rule v w (refusal.Code c place) e = ap (λ x. between at asks rule x w) e ∙ between-fault at asks rule c place w
between_left_stops at asks rule v w refusal.Memory e = tt

between_right_stops : (at : Place) (asks : Shape → Option TypeCode) (rule : Typed → Typed → Verdict Typed) (l : Typed) (w : Verdict Typed)
    (fault : Option TypeCode) (r : TypeRefusal) → fault ≡ asks (type_of l) → IsRefused (led at fault w) r
    → IsRefused (between at asks rule (Fine l) w) r
between_right_stops at asks rule l w fault r is h =
    refused_as r (between-fine at asks rule l w)
    (lift-refused (rule l) (led at (asks (type_of l)) w) r (subst (λ f. IsRefused (led at f w) r) is h))

between_is : (at : Place) (asks : Shape → Option TypeCode) (rule : Typed → Typed → Verdict Typed) (l s : Typed) (w : Verdict Typed)
    (fault : Option TypeCode) → fault ≡ asks (type_of l) → led at fault w ≡ Fine s → between at asks rule (Fine l) w ≡ rule l s
between_is at asks rule l s w fault is h =
    between-fine at asks rule l w ∙ ap (lift (rule l)) (subst (λ f. led at f w ≡ Fine s) is h) ∙ lift-fine (rule l) s

pub infix_left_stops : (c : Context) (p : Purpose) (ls : Literals) (at : Place) (op : InfixOp) (left right : RawExpr) (r : TypeRefusal)
    → IsRefused (operand_in c p (formed c p ls None left.place left.kind.value)) r → IsRefused (infix_formed c p ls at op left right) r
infix_left_stops c p ls at op left right r h =
    between_left_stops at (left_operand_fault c.table.list op) (combined c.model c.table.list op at) _ _ r h

infix_left_is : (c : Context) (p : Purpose) (ls : Literals) (at : Place) (op : InfixOp) (left right : RawExpr) (one : Verdict Typed) (l : Typed)
    → one ≡ Fine l → between at (left_operand_fault c.table.list op) (combined c.model c.table.list op at) one
    (operand_in c (purpose_after op p one) (formed c (purpose_after op p one) (literals_after ls left.kind.value) None right.place right.kind.value))
    ≡ between at (left_operand_fault c.table.list op) (combined c.model c.table.list op at) (Fine l)
    (operand_in c (purpose_after op p (Fine l)) (formed c (purpose_after op p (Fine l)) (literals_after ls left.kind.value) None right.place right.kind.value))
infix_left_is c p ls at op left right one l e =
    ap (λ x.
    between at (left_operand_fault c.table.list op) (combined c.model c.table.list op at) x
    (operand_in c (purpose_after op p x) (formed c (purpose_after op p x) (literals_after ls left.kind.value) None right.place right.kind.value))) e

right_operand : (c : Context) (right : RawExpr) (x y : Purpose) (ls ms : Literals) → x ≡ y → ls ≡ ms
    → operand_in c y (formed c y ms None right.place right.kind.value) ≡ operand_in c x (formed c x ls None right.place right.kind.value)
right_operand c right x y ls ms e f =
    sym (ap (λ z. operand_in c z (formed c z ls None right.place right.kind.value)) e
    ∙ ap (λ z. operand_in c y (formed c y z None right.place right.kind.value)) f)

-- the right operand, with the literals before it and its purpose
abbrev right_in : Context → RawExpr → Literals → Purpose → Verdict Typed
right_in c right ms following = operand_in c following (formed c following ms None right.place right.kind.value)

infix_is : (c : Context) (p : Purpose) (ls ms : Literals) (at : Place) (op : InfixOp) (left right : RawExpr) (l : Typed) (following : Purpose)
    → operand_in c p (formed c p ls None left.place left.kind.value) ≡ Fine l → following ≡ purpose_after op p (Fine l)
    → ms ≡ literals_after ls left.kind.value → infix_formed c p ls at op left right
    ≡ between at (left_operand_fault c.table.list op) (combined c.model c.table.list op at) (Fine l) (right_in c right ms following)
infix_is c p ls ms at op left right l following e f g =
    infix_left_is c p ls at op left right _ l e
    ∙ ap (between at (left_operand_fault c.table.list op) (combined c.model c.table.list op at) (Fine l)) (right_operand c right following _ ms _ f g)

pub infix_right_stops : (c : Context) (p : Purpose) (ls ms : Literals) (at : Place) (op : InfixOp) (left right : RawExpr) (l : Typed) (following : Purpose)
    (fault : Option TypeCode) (r : TypeRefusal) → operand_in c p (formed c p ls None left.place left.kind.value) ≡ Fine l
    → following ≡ purpose_after op p (Fine l) → ms ≡ literals_after ls left.kind.value → fault ≡ left_operand_fault c.table.list op (type_of l)
    → IsRefused (led at fault (operand_in c following (formed c following ms None right.place right.kind.value))) r
    → IsRefused (infix_formed c p ls at op left right) r
infix_right_stops c p ls ms at op left right l following fault r e f g is h =
    refused_as r (infix_is c p ls ms at op left right l following e f g)
    (between_right_stops at (left_operand_fault c.table.list op) (combined c.model c.table.list op at) l (right_in c right ms following) fault r is h)

pub infix_taken : (c : Context) (p : Purpose) (ls ms : Literals) (at : Place) (op : InfixOp) (left right : RawExpr) (l s : Typed) (following : Purpose)
    (fault : Option TypeCode) (result : Result Expr TypeRefusal) → operand_in c p (formed c p ls None left.place left.kind.value) ≡ Fine l
    → following ≡ purpose_after op p (Fine l) → ms ≡ literals_after ls left.kind.value → fault ≡ left_operand_fault c.table.list op (type_of l)
    → led at fault (operand_in c following (formed c following ms None right.place right.kind.value)) ≡ Fine s
    → Yields (combined c.model c.table.list op at l s) result → Yields (infix_formed c p ls at op left right) result
infix_taken c p ls ms at op left right l s following fault result e f g is h k =
    yields_as result (infix_is c p ls ms at op left right l following e f g
    ∙ between_is at (left_operand_fault c.table.list op) (combined c.model c.table.list op at) l s (right_in c right ms following) fault is h) k

-- a subscript
pub subscript_left_stops : (c : Context) (p : Purpose) (ls : Literals) (at : Place) (left right : RawExpr) (r : TypeRefusal)
    → IsRefused (operand_in c p (formed c p ls None left.place left.kind.value)) r → IsRefused (subscript_formed c p ls at left right) r
subscript_left_stops c p ls at left right r h =
    between_left_stops at (left_operand_fault c.table.list infix_op.Add) (indexed_values c at) _ _ r h

subscript_is : (c : Context) (p : Purpose) (ls ms : Literals) (at : Place) (left right : RawExpr) (l : Typed)
    → operand_in c p (formed c p ls None left.place left.kind.value) ≡ Fine l → ms ≡ literals_after ls left.kind.value
    → subscript_formed c p ls at left right
    ≡ between at (left_operand_fault c.table.list infix_op.Add) (indexed_values c at) (Fine l) (right_in c right ms p)
subscript_is c p ls ms at left right l e g =
    ap (λ x. between at (left_operand_fault c.table.list infix_op.Add) (indexed_values c at) x (right_in c right (literals_after ls left.kind.value) p)) e
    ∙ ap (between at (left_operand_fault c.table.list infix_op.Add) (indexed_values c at) (Fine l)) (right_operand c right p p ms _ refl g)

pub subscript_right_stops : (c : Context) (p : Purpose) (ls ms : Literals) (at : Place) (left right : RawExpr) (l : Typed) (fault : Option TypeCode)
    (r : TypeRefusal) → operand_in c p (formed c p ls None left.place left.kind.value) ≡ Fine l → ms ≡ literals_after ls left.kind.value
    → fault ≡ left_operand_fault c.table.list infix_op.Add (type_of l)
    → IsRefused (led at fault (operand_in c p (formed c p ms None right.place right.kind.value))) r
    → IsRefused (subscript_formed c p ls at left right) r
subscript_right_stops c p ls ms at left right l fault r e g is h =
    refused_as r (subscript_is c p ls ms at left right l e g)
    (between_right_stops at (left_operand_fault c.table.list infix_op.Add) (indexed_values c at) l (right_in c right ms p) fault r is h)

pub subscript_taken : (c : Context) (p : Purpose) (ls ms : Literals) (at : Place) (left right : RawExpr) (l s : Typed) (fault : Option TypeCode)
    (result : Result Expr TypeRefusal) → operand_in c p (formed c p ls None left.place left.kind.value) ≡ Fine l
    → ms ≡ literals_after ls left.kind.value → fault ≡ left_operand_fault c.table.list infix_op.Add (type_of l)
    → led at fault (operand_in c p (formed c p ms None right.place right.kind.value)) ≡ Fine s → Yields (indexed_values c at l s) result
    → Yields (subscript_formed c p ls at left right) result
subscript_taken c p ls ms at left right l s fault result e g is h k =
    yields_as result (subscript_is c p ls ms at left right l e g
    ∙ between_is at (left_operand_fault c.table.list infix_op.Add) (indexed_values c at) l s (right_in c right ms p) fault is h) k

-- a conditional expression
choice_is : (c : Context) (p : Purpose) (ls : Literals) (at : Place) (test one other : RawExpr) (yields : Verdict Typed) (t : Typed) → yields ≡ Fine t
    → lift3 (chosen_values c at) yields
    (value_in c (purpose_if true p yields) (formed c (purpose_if true p yields) (literals_after ls test.kind.value) None one.place one.kind.value))
    (value_in c (purpose_if false p yields)
    (formed c (purpose_if false p yields) (literals_after (literals_after ls test.kind.value) one.kind.value) None other.place other.kind.value))
    ≡ lift3 (chosen_values c at) (Fine t)
    (value_in c (purpose_if true p (Fine t)) (formed c (purpose_if true p (Fine t)) (literals_after ls test.kind.value) None one.place one.kind.value))
    (value_in c (purpose_if false p (Fine t))
    (formed c (purpose_if false p (Fine t)) (literals_after (literals_after ls test.kind.value) one.kind.value) None other.place other.kind.value))
choice_is c p ls at test one other yields t e =
    ap (λ x.
    lift3 (chosen_values c at) x (value_in c (purpose_if true p x)
    (formed c (purpose_if true p x) (literals_after ls test.kind.value) None one.place one.kind.value))
    (value_in c (purpose_if false p x)
    (formed c (purpose_if false p x) (literals_after (literals_after ls test.kind.value) one.kind.value) None other.place other.kind.value))) e

test_is : (at : Place) (v : Verdict Typed) (e t : Typed) → v ≡ Fine e → tested at e ≡ Fine t → lift (tested at) v ≡ Fine t
test_is at v e t f g = ap (lift (tested at)) f ∙ lift-fine (tested at) e ∙ g

branch : (c : Context) (e : RawExpr) (x y : Purpose) (ls ms : Literals) → x ≡ y → ls ≡ ms
    → value_in c y (formed c y ms None e.place e.kind.value) ≡ value_in c x (formed c x ls None e.place e.kind.value)
branch c e x y ls ms f g = sym (ap (λ z. value_in c z (formed c z ls None e.place e.kind.value)) f
    ∙ ap (λ z. value_in c y (formed c y z None e.place e.kind.value)) g)

pub choice_test_stops : (c : Context) (p : Purpose) (ls : Literals) (at : Place) (test one other : RawExpr) (r : TypeRefusal)
    → IsRefused (operand_in c p (formed c p ls None test.place test.kind.value)) r → IsRefused (choice_formed c p ls at test one other) r
choice_test_stops c p ls at test one other r h = lift3-refused-first (chosen_values c at) _ _ _ r (lift-refused (tested at) _ r h)

pub choice_tested_stops : (c : Context) (p : Purpose) (ls : Literals) (at : Place) (test one other : RawExpr) (e : Typed) (r : TypeRefusal)
    → operand_in c p (formed c p ls None test.place test.kind.value) ≡ Fine e → IsRefused (tested at e) r
    → IsRefused (choice_formed c p ls at test one other) r
choice_tested_stops c p ls at test one other e r f h =
    lift3-refused-first (chosen_values c at) _ _ _ r (refused_as r (ap (lift (tested at)) f ∙ lift-fine (tested at) e) h)

pub choice_one_stops : (c : Context) (p : Purpose) (ls ms : Literals) (at : Place) (test one other : RawExpr) (e t : Typed) (following : Purpose)
    (r : TypeRefusal) → operand_in c p (formed c p ls None test.place test.kind.value) ≡ Fine e → tested at e ≡ Fine t
    → following ≡ purpose_if true p (Fine t) → ms ≡ literals_after ls test.kind.value
    → IsRefused (value_in c following (formed c following ms None one.place one.kind.value)) r → IsRefused (choice_formed c p ls at test one other) r
choice_one_stops c p ls ms at test one other e t following r f g k m h =
    refused_as r (choice_is c p ls at test one other _ t (test_is at _ e t f g))
    (lift3-refused-second (chosen_values c at) t _ _ r (refused_as r (branch c one following _ ms _ k m) h))

pub choice_other_stops : (c : Context) (p : Purpose) (ls ms ns : Literals) (at : Place) (test one other : RawExpr) (e t o : Typed) (following last : Purpose)
    (r : TypeRefusal) → operand_in c p (formed c p ls None test.place test.kind.value) ≡ Fine e → tested at e ≡ Fine t
    → following ≡ purpose_if true p (Fine t) → last ≡ purpose_if false p (Fine t) → ms ≡ literals_after ls test.kind.value
    → ns ≡ literals_after ms one.kind.value → value_in c following (formed c following ms None one.place one.kind.value) ≡ Fine o
    → IsRefused (value_in c last (formed c last ns None other.place other.kind.value)) r → IsRefused (choice_formed c p ls at test one other) r
choice_other_stops c p ls ms ns at test one other e t o following last r f g k l m n h i =
    refused_as r (choice_is c p ls at test one other _ t (test_is at _ e t f g)
    ∙ ap (λ x.
    lift3 (chosen_values c at) (Fine t) x
    (value_in c (purpose_if false p (Fine t))
    (formed c (purpose_if false p (Fine t)) (literals_after (literals_after ls test.kind.value) one.kind.value) None other.place other.kind.value)))
    (branch c one following _ ms _ k m ∙ h))
    (lift3-refused-third (chosen_values c at) t o _ r (refused_as r (branch c other last _ ns _ l (n ∙ ap (λ x. literals_after x one.kind.value) m)) i))

pub choice_taken : (c : Context) (p : Purpose) (ls ms ns : Literals) (at : Place) (test one other : RawExpr) (e t o q : Typed) (following last : Purpose)
    (result : Result Expr TypeRefusal) → operand_in c p (formed c p ls None test.place test.kind.value) ≡ Fine e → tested at e ≡ Fine t
    → following ≡ purpose_if true p (Fine t) → last ≡ purpose_if false p (Fine t) → ms ≡ literals_after ls test.kind.value
    → ns ≡ literals_after ms one.kind.value → value_in c following (formed c following ms None one.place one.kind.value) ≡ Fine o
    → value_in c last (formed c last ns None other.place other.kind.value) ≡ Fine q → Yields (chosen_values c at t o q) result
    → Yields (choice_formed c p ls at test one other) result
choice_taken c p ls ms ns at test one other e t o q following last result f g k l m n h i j =
    yields_as result (choice_is c p ls at test one other _ t (test_is at _ e t f g)
    ∙ ap (λ x.
    lift3 (chosen_values c at) (Fine t) x
    (value_in c (purpose_if false p (Fine t))
    (formed c (purpose_if false p (Fine t)) (literals_after (literals_after ls test.kind.value) one.kind.value) None other.place other.kind.value)))
    (branch c one following _ ms _ k m ∙ h)
    ∙ ap (lift3 (chosen_values c at) (Fine t) (Fine o)) (branch c other last _ ns _ l (n ∙ ap (λ x. literals_after x one.kind.value) m) ∙ i)
    ∙ lift3-fine (chosen_values c at) t o q) j

-- an assignment operator
left_is : (at : Place) (op : AssignOp) (v : Verdict Typed) (e o : Typed) → v ≡ Fine e → left_side op at e ≡ Fine o
    → lift (left_side op at) v ≡ Fine o
left_is at op v e o f g = ap (lift (left_side op at)) f ∙ lift-fine (left_side op at) e ∙ g

right_side : (c : Context) (p : Purpose) (value : RawExpr) (ls ms : Literals) (s t : Option Shape) → ls ≡ ms → s ≡ t
    → operand_in c p (formed c p ms t value.place value.kind.value) ≡ operand_in c p (formed c p ls s value.place value.kind.value)
right_side c p value ls ms s t e f =
    sym (ap (λ z. operand_in c p (formed c p z s value.place value.kind.value)) e
    ∙ ap (λ z. operand_in c p (formed c p ms z value.place value.kind.value)) f)

-- its right operand, with the literals before it and its target
abbrev right_of : (c : Context) (p : Purpose) (value : RawExpr) (ms : Literals) (target : Option Shape) → Verdict Typed
right_of c p value ms target = operand_in c p (formed c p ms target value.place value.kind.value)

store_is : (c : Context) (p : Purpose) (ls ms : Literals) (at : Place) (op : AssignOp) (object value : RawExpr) (e o : Typed) (target : Option Shape)
    → done c p (formed c p ls None object.place object.kind.value) ≡ Fine e → left_side op at e ≡ Fine o → ms ≡ literals_after ls object.kind.value
    → target ≡ right_target op (Fine o) → store_formed c p ls at op object value ≡ stored_to c op at (right_of c p value ms target) o
store_is c p ls ms at op object value e o target f g k m =
    let left = left_is at op _ e o f g in
    ap (λ x. lift (stored_to c op at (right_of c p value (literals_after ls object.kind.value) (right_target op x))) x) left
    ∙ lift-fine (stored_to c op at (right_of c p value (literals_after ls object.kind.value) (right_target op (Fine o)))) o
    ∙ ap (λ x. stored_to c op at x o) (right_side c p value ms _ target _ k m)

pub store_object_stops : (c : Context) (p : Purpose) (ls : Literals) (at : Place) (op : AssignOp) (object value : RawExpr) (r : TypeRefusal)
    → IsRefused (done c p (formed c p ls None object.place object.kind.value)) r → IsRefused (store_formed c p ls at op object value) r
store_object_stops c p ls at op object value r h = lift-refused _ _ r (lift-refused (left_side op at) _ r h)

pub store_left_stops : (c : Context) (p : Purpose) (ls : Literals) (at : Place) (op : AssignOp) (object value : RawExpr) (e : Typed) (r : TypeRefusal)
    → done c p (formed c p ls None object.place object.kind.value) ≡ Fine e → IsRefused (left_side op at e) r
    → IsRefused (store_formed c p ls at op object value) r
store_left_stops c p ls at op object value e r f h =
    lift-refused _ _ r (refused_as r (ap (lift (left_side op at)) f ∙ lift-fine (left_side op at) e) h)

pub store_value_stops : (c : Context) (p : Purpose) (ls ms : Literals) (at : Place) (op : AssignOp) (object value : RawExpr) (e o : Typed)
    (target : Option Shape) (r : TypeRefusal) → done c p (formed c p ls None object.place object.kind.value) ≡ Fine e → left_side op at e ≡ Fine o
    → ms ≡ literals_after ls object.kind.value → target ≡ right_target op (Fine o)
    → IsRefused (led at (left_fault c op (type_of o)) (operand_in c p (formed c p ms target value.place value.kind.value))) r
    → IsRefused (store_formed c p ls at op object value) r
store_value_stops c p ls ms at op object value e o target r f g k m h =
    refused_as r (store_is c p ls ms at op object value e o target f g k m) (lift-refused (stored c op at o) _ r h)

pub store_taken : (c : Context) (p : Purpose) (ls ms : Literals) (at : Place) (op : AssignOp) (object value : RawExpr) (e o v : Typed) (target : Option Shape)
    (result : Result Expr TypeRefusal) → done c p (formed c p ls None object.place object.kind.value) ≡ Fine e → left_side op at e ≡ Fine o
    → ms ≡ literals_after ls object.kind.value → target ≡ right_target op (Fine o)
    → led at (left_fault c op (type_of o)) (operand_in c p (formed c p ms target value.place value.kind.value)) ≡ Fine v
    → Yields (stored c op at o v) result → Yields (store_formed c p ls at op object value) result
store_taken c p ls ms at op object value e o v target result f g k m h i =
    yields_as result (store_is c p ls ms at op object value e o target f g k m
    ∙ ap (lift (stored c op at o)) h ∙ lift-fine (stored c op at o) v) i

-- a cast
pub cast_type_stops : (c : Context) (p : Purpose) (ls : Literals) (at : Place) (ty : WrittenType) (bounds : ℕ) (e : RawExpr) (r : TypeRefusal)
    → IsRefused (cast_type at bounds (base_in c at ty)) r → IsRefused (cast_formed c p ls at ty bounds e) r
cast_type_stops c p ls at ty bounds e r h = lift2-refused-first (cast_to c at) _ _ r h

cast_is : (c : Context) (p : Purpose) (ls : Literals) (at : Place) (e : RawExpr) (v : Verdict Shape) (target : Shape) → v ≡ Fine target
    → lift2 (cast_to c at) v (done c p (formed c p ls (given_shape v) e.place e.kind.value))
    ≡ lift2 (cast_to c at) (Fine target) (done c p (formed c p ls (Some target) e.place e.kind.value))
cast_is c p ls at e v target f = ap (λ x. lift2 (cast_to c at) x (done c p (formed c p ls (given_shape x) e.place e.kind.value))) f

pub cast_operand_stops : (c : Context) (p : Purpose) (ls : Literals) (at : Place) (ty : WrittenType) (bounds : ℕ) (e : RawExpr) (target : Shape)
    (r : TypeRefusal) → cast_type at bounds (base_in c at ty) ≡ Fine target → IsRefused (done c p (formed c p ls (Some target) e.place e.kind.value)) r
    → IsRefused (cast_formed c p ls at ty bounds e) r
cast_operand_stops c p ls at ty bounds e target r f h = refused_as r (cast_is c p ls at e _ target f) (lift2-refused-second (cast_to c at) target _ r h)

pub cast_taken : (c : Context) (p : Purpose) (ls : Literals) (at : Place) (ty : WrittenType) (bounds : ℕ) (e : RawExpr) (target : Shape) (v : Typed)
    (result : Result Expr TypeRefusal) → cast_type at bounds (base_in c at ty) ≡ Fine target
    → done c p (formed c p ls (Some target) e.place e.kind.value) ≡ Fine v → Yields (cast_to c at target v) result
    → Yields (cast_formed c p ls at ty bounds e) result
cast_taken c p ls at ty bounds e target v result f g h =
    yields_as result (cast_is c p ls at e _ target f ∙ ap (lift2 (cast_to c at) (Fine target)) g ∙ lift2-fine (cast_to c at) target v) h

-- a call
call_none : (c : Context) (at : Place) (target : Option Shape) (found : Option Signature) (count : ℕ) (v : Verdict Typed) (fault : Option TypeCode)
    (values : Verdict TypedList) → found ≡ None → call_or_not c at target found count v fault values ≡ lift (no_function at) v
unfolding call_or_not
call_none c at target found count v fault values e = ap (λ x. call_or_not c at target x count v fault values) e

call_some : (c : Context) (at : Place) (target : Option Shape) (f : Signature) (count : ℕ) (v : Verdict Typed) (fault : Option TypeCode)
    (values : Verdict TypedList) → call_or_not c at target (Some f) count v fault values
    ≡ unless_fault at (least_code (call_fault target count f) fault) (lift (call_with c at target f) values)
unfolding call_or_not
call_some c at target f count v fault values = refl

-- the type error of one result, or else another result
abbrev refused_alike : {A B : Type 0} → Verdict B → Verdict A → Verdict B
refused_alike otherwise (Fine value) = otherwise
refused_alike otherwise (Fault code place) = Fault code place

-- a result after a position where a code may hold
fault_refused : {A B : Type 0} (at : Place) (fault : Option TypeCode) (rule : A → Verdict B) (v : Verdict A) (r : TypeRefusal)
    → IsRefused (unless_fault at fault v) r → IsRefused (unless_fault at fault (lift rule v)) r
fault_refused at None rule v r h = lift-refused rule v r h
fault_refused at (Some code) rule v (refusal.Code other place) h = ap (refused_alike (Fault code at)) h
fault_refused at (Some code) rule v refusal.Memory h = tt

fault_fine : {A B : Type 0} (at : Place) (fault : Option TypeCode) (rule : A → Verdict B) (v : Verdict A) (a : A) → unless_fault at fault v ≡ Fine a
    → unless_fault at fault (lift rule v) ≡ rule a
fault_fine at None rule v a h = ap (lift rule) h ∙ lift-fine rule a
fault_fine at (Some code) rule v a h = absurd cc

no_fault : {A : Type 0} (at : Place) (fault : Option TypeCode) (v : Verdict A) (a : A) → unless_fault at fault v ≡ Fine a → fault ≡ None
no_fault at None v a h = refl
no_fault at (Some code) v a h = absurd cc

first_none : (a b : Option TypeCode) → least_code a b ≡ None → a ≡ None
first_none None b h = refl
first_none (Some code) b h = absurd cc

counted : (n count : ℕ) (other : Option TypeCode) → cond (eqb n count) other (Some code.ArgumentCount) ≡ None → n ≡ count
counted n count other h = elim (eqb n count) as (λ t. eqb n count ≡ t → cond t other (Some code.ArgumentCount) ≡ None → n ≡ count) [
  | true ↦ λ e _. grind (arith, nat_tests)
  | false ↦ λ _ p. absurd cc
] refl h

-- a call without a type error at its position has an argument for each parameter
pub call_counts : {A : Type 0} (at : Place) (target : Option Shape) (count : ℕ) (f : Signature) (fault : Option TypeCode) (v : Verdict A) (a : A)
    → unless_fault at (least_code (call_fault target count f) fault) v ≡ Fine a → length f.parameters ≡ count
unfolding call_fault
call_counts at target count f fault v a h =
    counted (length f.parameters) count _ (first_none (call_fault target count f) fault (no_fault at (least_code (call_fault target count f) fault) v a h))

-- the same for the declared function
pub call_passes : {A : Type 0} (at : Place) (target : Option Shape) (count : ℕ) (f : DeclaredFunction) (said : Option TypeCode) (fault : Option TypeCode)
    (v : Verdict A) (a : A) → said ≡ call_fault target count (signature_of f) → unless_fault at (least_code said fault) v ≡ Fine a
    → count ≡ vec_len f.parameters
call_passes at target count f said fault v a is h =
    let counts = call_counts at target count (signature_of f) fault v a (subst (λ s. unless_fault at (least_code s fault) v ≡ Fine a) is h) in
    omega (arith, counts, f.parameters.ok.0, length-map f.parameters.items (λ (ty : CType). shape_of ty))

module _ (c : Context) (p : Purpose) (ls : Literals) (target : Option Shape) (at : Place) (function : RawExpr) (arguments : List RawExpr) where
  pub call_other_stops : (r : TypeRefusal) → called c.scope.declarations function.kind.value ≡ None
      → IsRefused (operand_in c p (formed c p ls None function.place function.kind.value)) r → IsRefused (call_formed c p ls target at function arguments) r
  call_other_stops r e h = refused_as r (call_none c at target _ (length arguments) _ _ _ e) (lift-refused (no_function at) _ r h)

  pub call_other : (v : Typed) → called c.scope.declarations function.kind.value ≡ None
      → operand_in c p (formed c p ls None function.place function.kind.value) ≡ Fine v
      → IsRefused (call_formed c p ls target at function arguments) (refusal.Code code.OperandTypes at)
  call_other v e f = call_none c at target _ (length arguments) _ _ _ e ∙ ap (lift (no_function at)) f ∙ lift-fine (no_function at) v

  module _ (f : Signature) (is_function : called c.scope.declarations function.kind.value ≡ Some f) where
    -- the arguments, unless the call has a type error at its position
    abbrev passed : Verdict TypedList
    passed = unless_fault at (least_code (call_fault target (length arguments) f) (arguments_listed_fault c p ls at f.parameters arguments))
        (arguments_listed c p ls f.parameters arguments)

    call_is : call_formed c p ls target at function arguments
        ≡ unless_fault at (least_code (call_fault target (length arguments) f) (arguments_listed_fault c p ls at f.parameters arguments))
        (lift (call_with c at target f) (arguments_listed c p ls f.parameters arguments))
    call_is =
        ap (λ x.
        call_or_not c at target x (length arguments) (operand_in c p (formed c p ls None function.place function.kind.value))
        (arguments_listed_fault c p ls at (parameters_of x) arguments) (arguments_listed c p ls (parameters_of x) arguments)) is_function
        ∙ call_some c at target f (length arguments) _ _ _

    pub call_arguments_stop : (r : TypeRefusal) → IsRefused passed r → IsRefused (call_formed c p ls target at function arguments) r
    call_arguments_stop r h = refused_as r call_is (fault_refused at _ (call_with c at target f) _ r h)

    pub call_taken : (values : TypedList) (result : Result Expr TypeRefusal) → passed ≡ Fine values → Yields (call_with c at target f values) result
        → Yields (call_formed c p ls target at function arguments) result
    call_taken values result e h = yields_as result (call_is ∙ fault_fine at _ (call_with c at target f) _ values e) h
