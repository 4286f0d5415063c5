-- A typed initializer is bounded by its text, first with the values that are read, then with their conversions at the `=`: for
-- `typed_nodes_are_bounded`.
use Rattle.std.proofs.Common.{◌≡◌, ℕ, ◌+◌, ◌*◌, ◌≤◌, Bool, true, false, List, [], ◌∷◌, length, Some, is_some, arith}
use Rattle.cs_types.specs.Shape.{Shape, void, integer, pointer, array, struct}
use Rattle.cs_ast.specs.declared.place.Place.{Place}
use Rattle.cs_ast.specs.declared.token.Punctuator.TheVariants as punctuator
use Rattle.cs_ast.specs.declared.raw.expression.RawExpr.{RawExpr}
use Rattle.cs_ast.specs.declared.raw.expression.RawExprKind.{RawExprKind}
use Rattle.cs_ast.specs.declared.raw.expression.RawExprKind.TheVariants as kind
use Rattle.cs_ast.specs.declared.raw.declaration.RawInitial.{RawInitial, Row_of-RawInitial, end_of-RawInitial, more_of-RawInitial}
use Rattle.cs_ast.specs.declared.raw.declaration.RawInitial.TheVariants as first_value
use Rattle.cs_ast.specs.RawView.{written_kind, written}
use Rattle.cs_ast.specs.RawDeclarations.{Initial as WrittenInitial, Listed, Initials as WrittenInitials, NoItem, MoreItems}
use Rattle.cs_ast.specs.RawDeclarationView.{initial, initials}
use Rattle.cs_ast.specs.TypedTree.{Typed, Initial, Value, Parts, Bytes, Initials, NoPart, Part}
use Rattle.cs_grammar.specs.FileText.{punctuator_text, initial_text, initials_text, further_initials_text}
use Rattle.cs_scopes.specs.declared.context.Context.{Context}
use Rattle.cs_scopes.specs.Verdicts.{Verdict, Fine, Fault, lift}
use Rattle.cs_folding.specs.TypedParts.{type_of}
use Rattle.cs_expressions.specs.Primary.{Literals}
use Rattle.cs_consts.specs.Roles.{operand_of}
use Rattle.cs_declarations.specs.Initializers.{Storage, InFile, InFunction, text_of, is_admitted, has_form, Reading, Readings, value_read}
use Rattle.cs_scopes.specs.Parts.{part_types}
use Rattle.cs_declarations.specs.Initializers.{expression_read, types_or_none, parts_read, one_more, initial_read, items_read, is_braceless, value_held}
use Rattle.cs_scopes.specs.Faults.{least_code}
use Rattle.cs_declarations.specs.Initializers.{value_judged, before_others, part_judged, parts_judged, initial_judged, kept_with}
use Rattle.cs_declarations.specs.Initializers.{whole_fault, scalar_limit, whole_read, initial_typed}
use Rattle.cs_well_formed.specs.Nodes.{expression_nodes, initial_nodes, initials_nodes}
use Rattle.cs_well_formed.specs.Places.{StandsAmong, InitialStandsAmong, InitialsStandAmong}
use Rattle.cs_well_formed.specs.WrittenPlaces.{ExpressionAmong, ValuesAmong, AllValuesAmong}
use Rattle.cs_well_formed.specs.Sizes.{size_of}
use Rattle.cs_well_formed.specs.Bounded.{texts_nodes, IsBoundedInitial, InitialsAreBounded}
use Rattle.cs_well_formed.proofs.Verdicts.{IfFine, if_fine-at, lift-then, cond-then, unless_fault-then}
use Rattle.cs_well_formed.proofs.TextSizes.{size-initial, size-initials}
use Rattle.cs_well_formed.proofs.LiteralsAfter.{sized, literals-grow}
use Rattle.cs_well_formed.proofs.FittingValues.{Fits, converted-fits}
use Rattle.cs_well_formed.proofs.FittingTyping.{room_of}
use Rattle.cs_well_formed.proofs.FittingDoors.{sized-some, operand_of-fits}

-- items, each preceded by a comma, and the same without the first comma
sized-items : (first : WrittenInitial) (others : WrittenInitials)
    → size_of (further_initials_text (MoreItems first others)) ≡ size_of (initial_text first) + size_of (further_initials_text others) + 1
sized-items first others = omega (arith, size-initial first (further_initials_text others []))

sized-further : (items : WrittenInitials) → size_of (further_initials_text items) ≤ size_of (initials_text items) + 1
sized-further NoItem = omega arith
sized-further (MoreItems first others) = omega (arith, size-initial first (further_initials_text others []))

sized-list : (items : WrittenInitials) (comma : Bool) → size_of (initials_text items) + 2 ≤ size_of (initial_text (Listed items comma))
sized-list items true = omega (arith, size-initials items (punctuator_text punctuator.Comma (punctuator_text punctuator.CloseBrace [])))
sized-list items false = omega (arith, size-initials items (punctuator_text punctuator.CloseBrace []))

-- the bytes of a string literal are counted in its token
text-room : (k : RawExprKind) → length (text_of k) + 1 ≤ sized (written_kind k)
text-room (kind.Text bytes) = omega arith
text-room other = omega (arith, sized-some (written_kind other))

module _ (Is : Place → Type 0) where
  -- an initializer whose values aren't converted yet, within a bound that has room for their conversions
  record IsReadBy (literals : Literals) (size : ℕ) (r : Reading) : Type 0 where
    stands : InitialStandsAmong Is r.0
    no_fewer : texts_nodes literals ≤ texts_nodes r.1
    no_more : 2 * initial_nodes r.0 + texts_nodes r.1 ≤ texts_nodes literals + 16 * size

  record AreReadBy (literals : Literals) (size : ℕ) (r : Readings) : Type 0 where
    stand : InitialsStandAmong Is r.0
    no_fewer : texts_nodes literals ≤ texts_nodes r.1
    no_more : 2 * initials_nodes r.0 + texts_nodes r.1 ≤ texts_nodes literals + 16 * size

  module _ (c : Context) where
    value-read : (literals : Literals) (ty : Shape) (e : RawExpr) → ExpressionAmong Is e
        → IfFine (lift (value_read literals e.kind.value) (operand_of c literals (Some ty) e)) (IsReadBy literals (sized (written e)))
    value-read literals ty e among =
        lift-then (Fits Is (room_of e.kind.value + 1)) (IsReadBy literals (sized (written e))) (value_read literals e.kind.value)
        (operand_of c literals (Some ty) e) (operand_of-fits Is c literals e among (Some ty))
        (λ v h. let grown = literals-grow literals e.kind.value in record {
          stands = h.stands;
          no_fewer = grown.no_fewer;
          no_more = omega (arith, h.nodes, grown.no_more, sized-some (written e));
        })

    expression-read : (literals : Literals) (ty : Shape) (e : RawExpr) → ExpressionAmong Is e
        → IfFine (expression_read c literals ty e) (IsReadBy literals (sized (written e)))
    expression-read literals (array element count) e among = record { stands = tt; no_fewer = omega arith; no_more = omega (arith, text-room e.kind.value) }
    expression-read literals void e among = value-read literals void e among
    expression-read literals (integer ty) e among = value-read literals (integer ty) e among
    expression-read literals (pointer target) e among = value-read literals (pointer target) e among
    expression-read literals (struct number) e among = value-read literals (struct number) e among

    mutual
      initial-read : (literals : Literals) (ty : Shape) (raw : RawInitial) → ValuesAmong Is raw
          → IfFine (initial_read c literals ty raw) (IsReadBy literals (size_of (initial_text (initial raw))))
      initial-read literals ty (first_value.Value e) among = expression-read literals ty e among
      initial-read literals ty (first_value.List' shape row comma) among =
          let further = size_of (further_initials_text (initials row)) in
          lift-then (AreReadBy literals further) (IsReadBy literals (size_of (initial_text (Listed (initials row) comma)))) parts_read _
          (items-read literals (types_or_none (part_types c.table.list ty)) row among)
          (λ r h.
          record {
            stands = h.stand;
            no_fewer = h.no_fewer;
            no_more = omega (arith, h.no_more, sized-further (initials row), sized-list (initials row) comma);
          })

      items-read : (literals : Literals) (types : List Shape) {n : _} (row : Row_of-RawInitial n) → AllValuesAmong Is row
          → IfFine (items_read c literals types row) (AreReadBy literals (size_of (further_initials_text (initials row))))
      items-read literals types end_of-RawInitial among = record { stand = tt; no_fewer = omega arith; no_more = omega arith }
      items-read literals [] (more_of-RawInitial first others) among = record { stand = tt; no_fewer = omega arith; no_more = omega arith }
      items-read literals (ty ∷ types) (more_of-RawInitial first others) among =
          let size = size_of (initial_text (initial first)) in
          let further = size_of (further_initials_text (initials others)) in
          let all = size_of (further_initials_text (MoreItems (initial first) (initials others))) in
          lift-then (IsReadBy literals size) (AreReadBy literals all) _ (initial_read c literals ty first) (initial-read literals ty first among.0)
          (λ r h. lift-then (AreReadBy r.1 further) (AreReadBy literals all) (one_more r.0) _ (items-read r.1 types others among.1)
          (λ more k. record {
            stand = (h.stands, k.stand);
            no_fewer = omega (arith, h.no_fewer, k.no_fewer);
            no_more = omega (arith, h.no_more, k.no_more, sized-items (initial first) (initials others));
          }))

    -- values that the `=` has converted: each has at most one more node
    record IsJudged (i found : Initial) : Type 0 where
      stands : InitialStandsAmong Is found
      nodes : initial_nodes found ≤ 2 * initial_nodes i

    record AreJudged (i found : Initials) : Type 0 where
      stand : InitialsStandAmong Is found
      nodes : initials_nodes found ≤ 2 * initials_nodes i

    module _ (storage : Storage) (at : Place) (here : Is at) where
      value-judged : (ty : Shape) (v : Typed) → StandsAmong Is v → IfFine (value_judged c.model storage at ty v) (IsJudged (Value v))
      value-judged ty v h =
          lift-then (Fits Is (expression_nodes v + 1)) (IsJudged (Value v)) (value_held c.model storage at) _
          (converted-fits Is at here c.model (expression_nodes v) v ty (type_of v) (record { stands = h; nodes = omega arith }))
          (λ r g.
          cond-then (IsJudged (Value v)) (is_admitted c.model storage r) _ _ (λ _. record { stands = g.stands; nodes = omega (arith, g.nodes) })
          (λ _. tt))

      before-judged : (i : Initial) (is : Initials) (v : Verdict Initial) (w : Verdict Initials) → IfFine v (IsJudged i) → IfFine w (AreJudged is)
          → IfFine (before_others at v w) (AreJudged (Part i is))
      before-judged i is (Fine first) (Fine others) h k = record { stand = (h.stands, k.stand); nodes = omega (arith, h.nodes, k.nodes) }
      before-judged i is (Fine first) (Fault code place) h k = tt
      before-judged i is (Fault code place) (Fine others) h k = tt
      before-judged i is (Fault code place) (Fault other there) h k = tt

      mutual
        part-judged : (ty : Shape) (i : Initial) → InitialStandsAmong Is i → IfFine (part_judged c storage at ty i) (IsJudged i)
        part-judged ty (Value v) h = cond-then (IsJudged (Value v)) (is_braceless ty (type_of v)) _ _ (λ _. tt) (λ _. value-judged ty v h)
        part-judged ty (Bytes bytes) h = record { stands = tt; nodes = omega arith }
        part-judged ty (Parts parts) h =
            lift-then (AreJudged parts) (IsJudged (Parts parts)) (λ all. Fine (Parts all)) _
            (parts-judged (types_or_none (part_types c.table.list ty)) parts h)
            (λ all k. record { stands = k.stand; nodes = omega (arith, k.nodes) })

        parts-judged : (types : List Shape) (parts : Initials) → InitialsStandAmong Is parts
            → IfFine (parts_judged c storage at types parts) (AreJudged parts)
        parts-judged types NoPart h = record { stand = tt; nodes = omega arith }
        parts-judged [] (Part first others) h = record { stand = tt; nodes = omega arith }
        parts-judged (ty ∷ types) (Part first others) h = before-judged first others _ _ (part-judged ty first h.0) (parts-judged types others h.1)

      judged : (ty : Shape) (i : Initial) → InitialStandsAmong Is i → IfFine (initial_judged c storage at ty i) (IsJudged i)
      judged ty (Value v) h = value-judged ty v h
      judged ty (Bytes bytes) h = part-judged ty (Bytes bytes) h
      judged ty (Parts parts) h = part-judged ty (Parts parts) h

      -- an initializer
      pub initial-fits : (literals : Literals) (ty : Shape) (raw : RawInitial) → ValuesAmong Is raw
          → IfFine (initial_typed c literals storage at ty raw)
          (λ (r : Reading). IsBoundedInitial Is literals r.1 (size_of (initial_text (initial raw))) r.0)
      initial-fits literals ty raw among =
          let size = size_of (initial_text (initial raw)) in
          cond-then (λ (r : Reading). IsBoundedInitial Is literals r.1 size r.0) (has_form c.table.list storage ty raw) _ _
          (λ _.
          lift-then (IsReadBy literals size) (λ (r : Reading). IsBoundedInitial Is literals r.1 size r.0) _ (whole_read c literals storage at ty raw)
          (unless_fault-then (IsReadBy literals size) at
          (least_code (scalar_limit c.table.list storage ty raw) (whole_fault c literals storage at ty raw)) (initial_read c literals ty raw)
          (λ _. initial-read literals ty raw among))
          (λ r h. lift-then (IsJudged r.0) (λ (found : Reading). IsBoundedInitial Is literals found.1 size found.0) (kept_with r.1) _
          (judged ty r.0 h.stands)
          (λ found k. record {
            stands = k.stands;
            nodes = omega (arith, k.nodes, h.no_more, h.no_fewer);
            with_texts = omega (arith, k.nodes, h.no_more);
          })))
          (λ _. tt)

  pub initials_are_bounded : InitialsAreBounded Is
  initials_are_bounded c literals following storage at ty raw found here among is =
      if_fine-at (λ (r : Reading). IsBoundedInitial Is literals r.1 (size_of (initial_text (initial raw))) r.0) (initial_typed c literals storage at ty raw)
      (found, following)
      (initial-fits c storage at here literals ty raw among) is
