-- The results of the rules on lvalues, stores and calls have positions of their operands, and a few nodes more: for `typed_nodes_are_bounded`.
use Rattle.std.proofs.Common.{ℕ, suc, ◌+◌, ◌≤◌, List, [], ◌∷◌, Option, Some, None, arith}
use Rattle.cs_types.specs.declared.data_model.DataModel.{DataModel}
use Rattle.cs_types.specs.declared.structs.StructType.{StructType}
use Rattle.cs_types.specs.Layout.{members_of}
use Rattle.cs_types.specs.Members.{Member}
use Rattle.cs_types.specs.Shape.{Shape, void, integer, pointer, array, struct}
use Rattle.cs_ast.specs.declared.place.Place.{Place}
use Rattle.cs_ast.specs.declared.raw.operator.AssignOp.{AssignOp}
use Rattle.cs_ast.specs.declared.typed.operator.Allocator.{Allocator}
use Rattle.cs_ast.specs.declared.typed.operator.Allocator.TheVariants as allocator
use Rattle.cs_ast.specs.declared.typed.operator.BinOp.{BinOp}
use Rattle.cs_ast.specs.declared.typed.operator.Gives.{Gives}
use Rattle.cs_ast.specs.declared.typed.operator.Order.{Order}
use Rattle.cs_ast.specs.declared.typed.operator.Order.TheVariants.{PointerFirst, AmountFirst}
use Rattle.cs_ast.specs.TypedTree.{Typed, TypedList, NoMore, Further}
use Rattle.cs_scopes.specs.declared.context.Context.{Context}
use Rattle.cs_scopes.specs.declared.scope.Callee.{Callee}
use Rattle.cs_scopes.specs.declared.scope.Callee.TheVariants.{Malloc, Calloc, Free, Numbered}
use Rattle.cs_scopes.specs.Meanings.{Signature}
use Rattle.cs_scopes.specs.declared.refusal.TypeCode.{TypeCode}
use Rattle.cs_scopes.specs.Verdicts.{Verdict, Fine, Fault}
use Rattle.cs_scopes.specs.Faults.{least_code}
use Rattle.cs_folding.specs.TypedParts.{type_of, form_of}
use Rattle.cs_expressions.specs.Objects.{is_object}
use Rattle.cs_types.specs.Kinds.{is_void, is_complete}
use Rattle.cs_expressions.specs.Places.{address_of, through, element, indexed, member_in, member_after, struct_number, struct_after, member_by}
use Rattle.cs_scopes.specs.Members.{member_found}
use Rattle.cs_expressions.specs.Places.{object_member}
use Rattle.cs_expressions.specs.Places.{selected, selected_through}
use Rattle.cs_expressions.specs.Stores.{is_stored_to, assignable, assigned, is_additive, updatable_as, updatable, updated_fault, led, moved_by_step, steppable}
use Rattle.cs_expressions.specs.Stores.{updated, taken_in, stepped}
use Rattle.cs_expressions.specs.Calls.{parameters_of, call_fault, before_others, converted_list, allocated, freed, call_by, call_of}
use Rattle.cs_consts.specs.Typing.{is_plain, operator_of, left_side, left_fault, stored_by, stored, stored_to, call_with, call_or_not, no_function}
use Rattle.cs_well_formed.specs.Nodes.{expression_nodes, row_nodes}
use Rattle.cs_well_formed.specs.Places.{RowStandsAmong}
use Rattle.cs_well_formed.proofs.Verdicts.{IfFine, if_fine-any, if_fine-weaker, lift-then, lift2-then, cond-then, weighed-then, led-then}
use Rattle.cs_well_formed.proofs.Verdicts.{unless_fault-then}
use Rattle.cs_well_formed.proofs.FittingValues.{Fits, fits-more, converted-fits, in_type-fits}

-- a list of expressions at these positions, with at most so many nodes
pub record FitInRow (Is : Place → Type 0) (room : ℕ) (row : TypedList) : Type 0 where
  pub stand : RowStandsAmong Is row
  pub nodes : row_nodes row ≤ room

-- the length of a list
abbrev pub row_count : TypedList → ℕ
row_count NoMore = 0
row_count (Further first others) = suc (row_count others)

module _ (Is : Place → Type 0) where
  module _ (at : Place) (here : Is at) where
    -- `&`, and the objects that pointers point to
    pub address_of-fits : (room : ℕ) (e : Typed) → Fits Is room e → IfFine (address_of at e) (Fits Is (room + 1))
    unfolding address_of
    address_of-fits room e h =
        cond-then (Fits Is (room + 1)) (is_void (type_of e)) _ _
        (λ _. tt)
        (λ _. cond-then (Fits Is (room + 1)) (is_object (form_of e)) _ _
        (λ _. record { stands = (here, h.stands); nodes = omega (arith, h.nodes) })
        (λ _. tt))

    pub through-fits : (room : ℕ) (e : Typed) (ty : Shape) → Fits Is room e → IfFine (through at e ty) (Fits Is (room + 1))
    unfolding through
    through-fits room e (pointer target) h =
        cond-then (Fits Is (room + 1)) (is_void target) _ _ (λ _. tt) (λ _. record { stands = (here, h.stands); nodes = omega (arith, h.nodes) })
    through-fits room e ty h = tt

    -- subscripts
    element-fits : (table : List StructType) (m n : ℕ) (e number : Typed) (target : Shape) (order : Order) → Fits Is m e → Fits Is n number
        → IfFine (element table at e number target order) (Fits Is (m + n + 1))
    unfolding element
    element-fits table m n e number target order h k =
        cond-then (Fits Is (m + n + 1)) (is_complete table target) _ _
        (λ _. record { stands = (here, (h.stands, k.stands)); nodes = omega (arith, h.nodes, k.nodes) }) (λ _. tt)

    pub indexed-fits : (table : List StructType) (m n : ℕ) (left right : Typed) (t u : Shape) → Fits Is m left → Fits Is n right
        → IfFine (indexed table at left right t u) (Fits Is (m + n + 1))
    unfolding indexed
    indexed-fits table m n left right (pointer t) (integer u) h k = element-fits table m n left right t PointerFirst h k
    indexed-fits table m n left right (integer t) (pointer u) h k =
        if_fine-weaker (Fits Is (n + m + 1)) (Fits Is (m + n + 1)) (element table at right left u AmountFirst)
        (element-fits table n m right left u AmountFirst k h)
        (λ e. fits-more Is (n + m + 1) (m + n + 1) e (omega arith))
    indexed-fits table m n left right t u h k = tt

    -- members
    member_by-fits : (room : ℕ) (table : List StructType) (name_at : Place) (name : List ℕ) (rule : Member → Verdict Typed) (number : Option ℕ)
        → ((m : Member) → IfFine (rule m) (Fits Is room)) → IfFine (member_by table at name_at name rule number) (Fits Is room)
    member_by-fits room table name_at name rule (Some number) fits =
        lift-then (λ _. Unit {0}) (Fits Is room) rule (member_found name_at name (members_of table number)) (if_fine-any _) (λ m _. fits m)
    member_by-fits room table name_at name rule None fits = tt

    object_member-fits : (table : List StructType) (name_at : Place) (name : List ℕ) (room : ℕ) (e : Typed) (number : Option ℕ) → Fits Is room e
        → IfFine (object_member table at name_at name e number) (Fits Is (room + 1))
    object_member-fits table name_at name room e (Some number) h =
        cond-then (Fits Is (room + 1)) (is_object (form_of e)) _ _
        (λ _.
        member_by-fits (room + 1) table name_at name (member_in at e) (Some number)
        (λ m. record { stands = (here, h.stands); nodes = omega (arith, h.nodes) }))
        (λ _. tt)
    object_member-fits table name_at name room e None h = tt

    pub selected-fits : (table : List StructType) (name_at : Place) (name : List ℕ) (room : ℕ) (e : Typed) → Fits Is room e
        → IfFine (selected table at name_at name e) (Fits Is (room + 1))
    unfolding selected
    selected-fits table name_at name room e h =
        cond-then (Fits Is (room + 1)) (is_void (type_of e)) _ _
        (λ _. tt)
        (λ _. object_member-fits table name_at name room e (struct_number (type_of e)) h)

    pub selected_through-fits : (table : List StructType) (name_at : Place) (name : List ℕ) (room : ℕ) (e : Typed) (ty : Shape) → Fits Is room e
        → IfFine (selected_through table at name_at name e ty) (Fits Is (room + 1))
    unfolding selected_through
    selected_through-fits table name_at name room e ty h =
        member_by-fits (room + 1) table name_at name (member_after at e) (struct_after ty)
        (λ m. record { stands = (here, h.stands); nodes = omega (arith, h.nodes) })

    -- `++` and `--`
    pub stepped-fits : (model : DataModel) (op : BinOp) (gives : Gives) (room : ℕ) (e : Typed) (ty : Shape) → Fits Is room e
        → IfFine (stepped model op gives at e ty) (Fits Is (room + 2))
    unfolding stepped
    stepped-fits model op gives room e (integer s) h = record { stands = (here, (h.stands, (here, tt))); nodes = omega (arith, h.nodes) }
    stepped-fits model op gives room e (pointer target) h = record { stands = (here, (h.stands, (here, tt))); nodes = omega (arith, h.nodes) }
    stepped-fits model op gives room e ty h = tt

    -- assignments
    updated-fits : (model : DataModel) (op : BinOp) (m n : ℕ) (object value : Typed) (t u : Shape) → Fits Is m object → Fits Is n value
        → IfFine (updated model op at object value t u) (Fits Is (m + n + 2))
    unfolding updated
    updated-fits model op m n object value (integer t) (integer u) h k =
        let taken = in_type-fits Is at here n (taken_in model op t u) value k in
        record { stands = (here, (h.stands, taken.stands)); nodes = omega (arith, h.nodes, taken.nodes) }
    updated-fits model op m n object value (pointer target) (integer u) h k =
        record { stands = (here, (h.stands, k.stands)); nodes = omega (arith, h.nodes, k.nodes) }
    updated-fits model op m n object value t u h k = tt

    stored_by-fits : (c : Context) (op : AssignOp) (m n : ℕ) (object value : Typed) → Fits Is m object → Fits Is n value
        → IfFine (stored_by c op at object value) (Fits Is (m + n + 2))
    unfolding stored_by
    stored_by-fits c op m n object value h k =
        cond-then (Fits Is (m + n + 2)) (is_plain op) _ _
        (λ _. lift-then (Fits Is (n + 1)) (Fits Is (m + n + 2)) (assigned at object) _
        (converted-fits Is at here c.model n value (type_of object) (type_of value) k)
        (λ r g. record { stands = (here, (h.stands, g.stands)); nodes = omega (arith, h.nodes, g.nodes) }))
        (λ _. updated-fits c.model (operator_of op) m n object value (type_of object) (type_of value) h k)

    stored-fits : (c : Context) (op : AssignOp) (m n : ℕ) (object value : Typed) → Fits Is m object → Fits Is n value
        → IfFine (stored c op at object value) (Fits Is (m + n + 2))
    unfolding stored
    stored-fits c op m n object value h k =
        weighed-then (Fits Is (m + n + 2)) at (left_fault c op (type_of object)) (stored_by c op at object value)
        (λ _. stored_by-fits c op m n object value h k)

    pub stored_to-fits : (c : Context) (op : AssignOp) (m n : ℕ) (right : Verdict Typed) (object : Typed) → Fits Is m object → IfFine right (Fits Is n)
        → IfFine (stored_to c op at right object) (Fits Is (m + n + 2))
    stored_to-fits c op m n right object h given =
        lift-then (Fits Is n) (Fits Is (m + n + 2)) (stored c op at object) (led at (left_fault c op (type_of object)) right)
        (led-then (Fits Is n) at (left_fault c op (type_of object)) right given) (λ v k. stored-fits c op m n object v h k)

    -- each argument is converted to the type of its parameter
    before-fits : (m n : ℕ) (v : Verdict Typed) (w : Verdict TypedList) → IfFine v (Fits Is m) → IfFine w (FitInRow Is n)
        → IfFine (before_others at v w) (FitInRow Is (m + n))
    before-fits m n (Fine e) (Fine others) h k = record { stand = (h.stands, k.stand); nodes = omega (arith, h.nodes, k.nodes) }
    before-fits m n (Fine e) (Fault code place) h k = tt
    before-fits m n (Fault code place) (Fine others) h k = tt
    before-fits m n (Fault code place) (Fault other there) h k = tt

    converted_list-fits : (model : DataModel) (types : List Shape) (values : TypedList) → RowStandsAmong Is values
        → IfFine (converted_list model at types values) (FitInRow Is (row_nodes values + row_count values))
    converted_list-fits model [] values h = record { stand = tt; nodes = omega arith }
    converted_list-fits model (ty ∷ types) NoMore h = record { stand = tt; nodes = omega arith }
    converted_list-fits model (ty ∷ types) (Further e others) h =
        if_fine-weaker (FitInRow Is ((expression_nodes e + 1) + (row_nodes others + row_count others)))
        (FitInRow Is (row_nodes (Further e others) + row_count (Further e others))) _
        (before-fits (expression_nodes e + 1) (row_nodes others + row_count others) _ _
        (converted-fits Is at here model (expression_nodes e) e ty (type_of e) (record { stands = h.0; nodes = omega arith }))
        (converted_list-fits model types others h.1))
        (λ row g. record { stand = g.stand; nodes = omega (arith, g.nodes) })

    -- calls
    allocated-fits : (room : ℕ) (a : Allocator) (arguments : TypedList) (to : Option Shape) → FitInRow Is room arguments
        → IfFine (allocated at a arguments to) (Fits Is (room + 1))
    allocated-fits room a arguments (Some (pointer ty)) h = record { stands = (here, h.stand); nodes = omega (arith, h.nodes) }
    allocated-fits room a arguments (Some void) h = tt
    allocated-fits room a arguments (Some (integer ty)) h = tt
    allocated-fits room a arguments (Some (array element count)) h = tt
    allocated-fits room a arguments (Some (struct number)) h = tt
    allocated-fits room a arguments None h = tt

    freed-fits : (room : ℕ) (arguments : TypedList) → FitInRow Is room arguments → IfFine (freed at arguments) (Fits Is (room + 1))
    freed-fits room NoMore h = tt
    freed-fits room (Further e NoMore) h = record { stands = (here, h.stand.0); nodes = omega (arith, h.nodes) }
    freed-fits room (Further e (Further e' others)) h = tt

    call_by-fits : (room : ℕ) (target : Option Shape) (callee : Callee) (ty : Shape) (arguments : TypedList) → FitInRow Is room arguments
        → IfFine (call_by at target callee ty arguments) (Fits Is (room + 1))
    call_by-fits room target (Numbered number) ty arguments h = record { stands = (here, h.stand); nodes = omega (arith, h.nodes) }
    call_by-fits room target Malloc ty arguments h = allocated-fits room allocator.Malloc arguments target h
    call_by-fits room target Calloc ty arguments h = allocated-fits room allocator.Calloc arguments target h
    call_by-fits room target Free ty arguments h = freed-fits room arguments h

    -- a call with arguments whose nodes and number are within the bound
    call_with-fits : (c : Context) (room : ℕ) (target : Option Shape) (f : Signature) (values : TypedList) → RowStandsAmong Is values
        → row_nodes values + row_count values ≤ room → IfFine (call_with c at target f values) (Fits Is (room + 1))
    unfolding call_with call_of
    call_with-fits c room target f values h small =
        lift-then (FitInRow Is room) (Fits Is (room + 1)) (call_of at target f) _
        (if_fine-weaker (FitInRow Is (row_nodes values + row_count values)) (FitInRow Is room) _ (converted_list-fits c.model (parameters_of (Some f)) values h)
        (λ row g. record { stand = g.stand; nodes = omega (arith, g.nodes) }))
        (λ row g. call_by-fits room target f.callee f.result row g)

    pub call-fits : (c : Context) (room : ℕ) (target : Option Shape) (function : Option Signature) (count : ℕ) (v : Verdict Typed)
        (fault : Option TypeCode) (values : Verdict TypedList) → IfFine values (λ vs. RowStandsAmong Is vs × (row_nodes vs + row_count vs ≤ room))
        → IfFine (call_or_not c at target function count v fault values) (Fits Is (room + 1))
    unfolding call_or_not
    call-fits c room target None count v fault values given =
        lift-then (λ _. Unit {0}) (Fits Is (room + 1)) (no_function at) v (if_fine-any v) (λ _ _. tt)
    call-fits c room target (Some f) count v fault values given =
        unless_fault-then (Fits Is (room + 1)) at (least_code (call_fault target count f) fault) _
        (λ _.
        lift-then (λ vs. RowStandsAmong Is vs × (row_nodes vs + row_count vs ≤ room)) (Fits Is (room + 1)) (call_with c at target f) values given
        (λ vs h. call_with-fits c room target f vs h.0 h.1))

  -- objects that are stored to
  updatable_as-fits : (op : BinOp) (at : Place) (room : ℕ) (e : Typed) (ty : Shape) → Fits Is room e → IfFine (updatable_as op at e ty) (Fits Is room)
  unfolding updatable_as
  updatable_as-fits op at room e (integer ty) h = h
  updatable_as-fits op at room e (pointer target) h = cond-then (Fits Is room) (is_additive op) _ _ (λ _. h) (λ _. tt)
  updatable_as-fits op at room e ty h = tt

  updatable-fits : (op : BinOp) (at : Place) (room : ℕ) (e : Typed) → Fits Is room e → IfFine (updatable op at e) (Fits Is room)
  unfolding updatable
  updatable-fits op at room e h =
      cond-then (Fits Is room) (is_void (type_of e)) _ _
      (λ _. tt)
      (λ _. cond-then (Fits Is room) (is_stored_to e) _ _ (λ _. updatable_as-fits op at room e (type_of e) h) (λ _. tt))

  pub steppable-fits : (table : List StructType) (op : BinOp) (at : Place) (room : ℕ) (e : Typed) → Fits Is room e
      → IfFine (steppable table op at e) (Fits Is room)
  unfolding steppable
  steppable-fits table op at room e h =
      lift-then (Fits Is room) (Fits Is room) (moved_by_step table at) (updatable op at e) (updatable-fits op at room e h)
      (λ o g. weighed-then (Fits Is room) at (updated_fault table (type_of o)) (Fine o) (λ _. g))

  assignable-fits : (at : Place) (room : ℕ) (e : Typed) → Fits Is room e → IfFine (assignable at e) (Fits Is room)
  unfolding assignable
  assignable-fits at room e h =
      cond-then (Fits Is room) (is_void (type_of e)) _ _ (λ _. tt) (λ _. cond-then (Fits Is room) (is_stored_to e) _ _ (λ _. h) (λ _. tt))

  pub left_side-fits : (op : AssignOp) (at : Place) (room : ℕ) (e : Typed) → Fits Is room e → IfFine (left_side op at e) (Fits Is room)
  unfolding left_side
  left_side-fits op at room e h =
      cond-then (Fits Is room) (is_plain op) _ _ (λ _. assignable-fits at room e h) (λ _. updatable-fits (operator_of op) at room e h)
