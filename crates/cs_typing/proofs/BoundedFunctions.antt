-- Functions of a file have positions of the written ones, and no more nodes than their text allows: for the contract of `typed`.
use Rattle.std.proofs.Common.{◌≡◌, ℕ, suc, ◌+◌, ◌*◌, ◌≤◌, Bool, List, [], ◌∷◌, length, ap, arith}
use Rattle.std.specs.Prelude.{Option, Some, None, IfSome, is_some}
use Rattle.std.proofs.lemmas.List.{length_push}
use Rattle.std.proofs.lemmas.List.Elements.{recursion_from_All}
use Rattle.cs_types.specs.Shape.{Shape}
use Rattle.cs_ast.specs.declared.place.Place.{Place}
use Rattle.cs_ast.specs.declared.raw.declaration.RawFunction.{RawFunction}
use Rattle.cs_ast.specs.declared.raw.declaration.RawParameter.{RawParameter}
use Rattle.cs_ast.specs.declared.raw.declaration.RawParameters.{RawParameters}
use Rattle.cs_ast.specs.declared.raw.declaration.RawParameters.TheVariants as parameter_lists
use Rattle.cs_ast.specs.declared.raw.external.RawBody.{RawBody}
use Rattle.cs_ast.specs.declared.token.Punctuator.TheVariants as punctuator
use Rattle.cs_ast.specs.declared.token.TokenKind.TheVariants as token
use Rattle.cs_ast.specs.RawDeclarationView.{parameters, head}
use Rattle.cs_ast.specs.RawStatementView.{items_list}
use Rattle.cs_ast.specs.TypedProgram.{Variable, Routine}
use Rattle.cs_grammar.specs.Text.{Kinds}
use Rattle.cs_grammar.specs.FileText.{punctuator_text, parameters_text, head_text, items_text}
use Rattle.cs_grammar.proofs.FileTexts.{items_append}
use Rattle.cs_scopes.specs.declared.refusal.TypeCode.TheVariants.{DeclaredTwice, IncompleteType}
use Rattle.cs_scopes.specs.declared.scope.Callee.{Callee}
use Rattle.cs_scopes.specs.declared.scope.Callee.TheVariants.{Malloc, Calloc, Free, Numbered}
use Rattle.cs_scopes.specs.Meanings.{Meaning, Typedef, Constant, Global, Local, Function, Declaration}
use Rattle.cs_scopes.specs.TypeNames.{starred}
use Rattle.cs_scopes.specs.Verdicts.{Fine, Fault, lift}
use Rattle.cs_declarations.specs.Bodies.{specs_type}
use Rattle.cs_declarations.specs.Environment.{Environment, meaning_here, entered}
use Rattle.cs_declarations.specs.Parameters.{Head, with_parameter, parameter_passed, parameter_typed, parameters_after}
use Rattle.cs_declarations.specs.Parameters.{no_parameter, parameters_typed, after_twice, twice_after}
use Rattle.cs_statements.specs.Statements.{in_a_row, no_statements, body_typed}
use Rattle.cs_file_scope.specs.Objects.{Filed}
use Rattle.cs_file_scope.specs.Functions.{is_result, same_types, types_of, may_be_function, bodiless, number_in, Routed, new_function, function_of}
use Rattle.cs_file_scope.specs.Functions.{declared_once}
use Rattle.cs_typing.specs.Functions.{declared_inside}
use Rattle.cs_typing.specs.Functions.{bodied, with_body, at_beginning, where_in, body_added, completed, outside_of, headed, resulted, function_added}
use Rattle.cs_well_formed.specs.Bounded.{texts_nodes}
use Rattle.cs_well_formed.specs.Nodes.{statements_nodes, routine_nodes}
use Rattle.cs_well_formed.specs.Places.{RoutineStandsAmong}
use Rattle.cs_well_formed.specs.Sizes.{text_size, size_of}
use Rattle.cs_well_formed.specs.WrittenPlaces.{ItemAmong, BodyAmong}
use Rattle.cs_well_formed.proofs.TextSizes.{size-following, size-pointers, size-parameters}
use Rattle.cs_well_formed.proofs.Verdicts.{IfFine, if_fine-any, if_fine-weaker, lift-then, cond-then}
use Rattle.cs_statements.proofs.WellStatements.{both-fine}
use Rattle.cs_statements.proofs.BoundedParts.{IsHead, parameters-bounded}
use Rattle.cs_statements.proofs.BoundedTexts.{parameters_count}
use Rattle.cs_statements.proofs.BoundedStatements.{weight, HasRoom, body-fits}
use Rattle.cs_typing.proofs.FilesSoFar.{changed-All}
use Rattle.cs_typing.proofs.BoundedObjects.{changed-nodes, FiledFits, fits-less, fits-known}
use Rattle.cs_typing.proofs.RepeatedNames.{once-then}

-- ---- parameters

-- this many variables more
abbrev HasMore : Head → ℕ → Head → Type 0
HasMore before more head = length head.variables ≡ length before.variables + more

parameter-one : (p : RawParameter) (before : Head) → IfFine (parameter_typed p before) (HasMore before 1)
parameter-one p before =
    let words = after_twice before.twice (specs_type before.known p.place p.specs) in
    lift-then (λ _. Unit {0}) (HasMore before 1) _ words (if_fine-any words)
    (λ found _.
    let passed = after_twice (twice_after p before.twice found.1) (parameter_passed found.1.context p (starred p.pointers.items found.0)) in
    lift-then (λ _. Unit {0}) (HasMore before 1) (with_parameter p before found.1) passed (if_fine-any passed)
    (λ passed _. length_push before.variables _))

parameters-more : (ps : List RawParameter) (before : Head) → IfFine (parameters_after ps before) (HasMore before (length ps))
parameters-more [] before = omega arith
parameters-more (p ∷ ps) before =
    lift-then (HasMore before 1) (HasMore before (suc (length ps))) (parameters_after ps) (parameter_typed p before) (parameter-one p before)
    (λ one h.
    if_fine-weaker (HasMore one (length ps)) (HasMore before (suc (length ps))) (parameters_after ps one) (parameters-more ps one)
    (λ head k. omega (arith, h, k)))

-- at most as many variables as the text of the parameters allows
abbrev FewVariables : RawParameters → Head → Type 0
FewVariables raw head = length head.variables ≤ suc (size_of (parameters_text (parameters raw)))

few-variables : (k : Environment) (raw : RawParameters) → IfFine (parameters_typed k raw) (FewVariables raw)
few-variables k parameter_lists.Empty = omega arith
few-variables k parameter_lists.Void = omega arith
few-variables k (parameter_lists.List list) =
    let begun : Head = no_parameter k in
    if_fine-weaker (HasMore begun (length list.items)) (FewVariables (parameter_lists.List list)) (parameters_after list.items begun)
    (parameters-more list.items begun)
    (λ head h. omega (arith, h, parameters_count list.items))

module _ (Is : Place → Type 0) (room : ℕ) where
  -- ---- declared functions

  abbrev RoutedFits : ℕ → Routed → Type 0
  RoutedFits more r = FiledFits Is room more r.1

  new_function-fits : (f : Filed) (d : RawFunction) (result : Shape) (variables : List Variable) (written : List Bool) (more : ℕ) → Is d.place
      → FiledFits Is room (more + (length variables + length written) + 1) f → RoutedFits more (new_function f d result variables written)
  new_function-fits f d result variables written more here h =
      let slot = number_in f.order d.name in
      let change : Routine → Routine = λ blank. bodiless d result variables written in
      record {
        globals = h.globals;
        routines = changed-All change (RoutineStandsAmong Is) slot f.routines (λ x _ _. record { at = here; closes = here; body = tt }) h.routines;
        nodes = (let e = changed-nodes routine_nodes change (length variables + length written + 1) (λ x. omega arith) slot f.routines in let n = h.nodes in
            omega (arith, e, n));
      }

  function_of-fits : (f : Filed) (d : RawFunction) (result : Shape) (variables : List Variable) (written : List Bool) (m : Option Meaning) (more : ℕ)
      → Is d.place → FiledFits Is room (more + (length variables + length written) + 1) f
      → IfFine (function_of f d result variables written m) (RoutedFits more)
  function_of-fits f d result variables written (Some (Function before)) more here h =
      cond-then (RoutedFits more) (same_types before.parameters (types_of variables)) (Fine (before.callee, f)) (Fault DeclaredTwice d.place)
      (λ _. fits-less Is room f (more + (length variables + length written) + 1) more (omega arith) h) (λ _. tt)
  function_of-fits f d result variables written None more here h = new_function-fits f d result variables written more here h
  function_of-fits f d result variables written (Some (Typedef ty)) more here h = new_function-fits f d result variables written more here h
  function_of-fits f d result variables written (Some (Constant value)) more here h = new_function-fits f d result variables written more here h
  function_of-fits f d result variables written (Some (Global number ty)) more here h = new_function-fits f d result variables written more here h
  function_of-fits f d result variables written (Some (Local number ty)) more here h = new_function-fits f d result variables written more here h

  -- ---- bodies

  -- the size of the body's text, or of the semicolon in its place, and what follows
  abbrev pub ending_length : Option RawBody → Kinds → ℕ
  ending_length None rest = text_size (punctuator_text punctuator.Semicolon rest)
  ending_length (Some body) rest =
      text_size (punctuator_text punctuator.OpenBrace (items_text (items_list body.items.items) (punctuator_text punctuator.CloseBrace rest)))

  body-longer : (body : RawBody) (rest : Kinds) (more : ℕ) → 24 * text_size rest ≤ more + 24 * ending_length (Some body) rest
  body-longer body rest more =
      let items = size-following (items_text (items_list body.items.items)) (items_append (items_list body.items.items))
      (punctuator_text punctuator.CloseBrace rest) in
      omega (arith, items)

  abbrev After : Kinds → Filed → Type 0
  After rest = FiledFits Is room (24 * text_size rest)

  body_added-fits : (d : RawFunction) (body : RawBody) (result : Shape) (variables : List Variable) (inner : List Declaration) (callee : Callee) (f : Filed)
      (rest : Kinds) → Is d.place → BodyAmong Is body → FiledFits Is room (length variables + 24 * ending_length (Some body) rest) f
      → IfFine (body_added d body result variables inner callee f) (After rest)
  body_added-fits d body result variables inner Malloc f rest here among h = fits-less Is room f _ _ (body-longer body rest (length variables)) h
  body_added-fits d body result variables inner Calloc f rest here among h = fits-less Is room f _ _ (body-longer body rest (length variables)) h
  body_added-fits d body result variables inner Free f rest here among h = fits-less Is room f _ _ (body-longer body rest (length variables)) h
  body_added-fits d body result variables inner (Numbered number) f rest here among h =
      let following = punctuator_text punctuator.CloseBrace rest in
      let begun = at_beginning f variables inner in
      let inside = weight begun + 24 * text_size (items_text (items_list body.items.items) following) in
      lift-then (HasRoom Is inside (text_size following)) (After rest) (with_body d body number f)
      (body_typed (where_in result body) body.items.items (no_statements begun))
      (body-fits Is inside (where_in result body) body.items.items (no_statements begun) following
      (recursion_from_All (ItemAmong Is) body.items.items among.inside) (tt, omega arith))
      (λ reported g. record {
        globals = h.globals;
        routines = changed-All (bodied d body reported) (RoutineStandsAmong Is) number f.routines
            (λ x _ _. record { at = here; closes = among.closing; body = (among.opening, g.0) }) h.routines;
        nodes =
            (let e = changed-nodes routine_nodes (bodied d body reported)
            (length reported.inside.variables + statements_nodes (in_a_row reported.statements) + 1) (λ x. omega arith) number f.routines in
            let n = h.nodes in
            let m = g.1 in
            omega (arith, e, n, m));
      })

  completed-fits : (d : RawFunction) (body : Option RawBody) (result : Shape) (variables : List Variable) (inner : List Declaration) (r : Routed) (rest : Kinds)
      → Is d.place → IfSome body (BodyAmong Is) → RoutedFits (length variables + 24 * ending_length body rest) r
      → IfFine (completed d body result variables inner r) (After rest)
  completed-fits d None result variables inner r rest here among h = fits-less Is room r.1 _ _ (omega arith) h
  completed-fits d (Some body) result variables inner r rest here among h = body_added-fits d body result variables inner r.0 r.1 rest here among h

  -- ---- functions

  headed-fits : (d : RawFunction) (body : Option RawBody) (f : Filed) (result : Shape) (h : Head) (rest : Kinds) → Is d.place → IfSome body (BodyAmong Is)
      → IsHead (entered f.known) d.parameters h → FewVariables d.parameters h → (following : Kinds) → text_size following ≡ ending_length body rest
      → FiledFits Is room (24 * text_size (head_text (head d) following)) f → IfFine (headed d body f result h) (After rest)
  headed-fits d body f result h rest here among bounded few following ends fits =
      lift-then (RoutedFits more) (After rest) (completed d body result h.variables (declared_inside f.known h.known)) _
      (lift-then (RoutedFits more) (RoutedFits more) (declared_once h.twice) _
      (function_of-fits (outside_of f h) d result h.variables h.written (meaning_here d.name (outside_of f h).known) more here outside)
      (λ r k. once-then (RoutedFits more) h.twice r k))
      (λ r k. completed-fits d body result h.variables (declared_inside f.known h.known) r rest here among k)
    where
      more : ℕ
      more = length h.variables + 24 * ending_length body rest

      passed : Kinds
      passed = parameters_text (parameters d.parameters) (punctuator_text punctuator.CloseParenthesis following)

      outside : FiledFits Is room (more + (length h.variables + length h.written) + 1) (outside_of f h)
      outside =
          let same : texts_nodes h.known.literals ≡ texts_nodes f.known.literals = ap texts_nodes bounded.literals in
          let n = bounded.nodes in
          let stars = size-pointers d.pointers.items (token.Name d.name ∷ punctuator_text punctuator.OpenParenthesis passed) in
          let list = size-parameters (parameters d.parameters) (punctuator_text punctuator.CloseParenthesis following) in
          fits-known Is room f _ _ _ (omega (arith, same, n, stars, list, few, ends)) fits

  -- a declared function, with its body if it has one
  pub function_added-fits : (d : RawFunction) (body : Option RawBody) (f : Filed) (ty : Shape) (rest : Kinds) → Is d.place → IfSome body (BodyAmong Is)
      → (following : Kinds) → text_size following ≡ ending_length body rest → FiledFits Is room (24 * text_size (head_text (head d) following)) f
      → IfFine (function_added d body f ty) (After rest)
  function_added-fits d body f ty rest here among following ends fits =
      let result = starred d.pointers.items ty in
      let v = parameters_typed (entered f.known) d.parameters in
      cond-then (After rest) (may_be_function f (is_some body) result (meaning_here d.name f.known)) (resulted d body f result) (Fault DeclaredTwice d.place)
      (λ _. cond-then (After rest) (is_result result) (lift (headed d body f result) v) (Fault IncompleteType d.place)
      (λ _. lift-then (λ h. IsHead (entered f.known) d.parameters h × FewVariables d.parameters h) (After rest) (headed d body f result) v
      (both-fine (IsHead (entered f.known) d.parameters) (FewVariables d.parameters) v (parameters-bounded (entered f.known) d.parameters)
      (few-variables (entered f.known) d.parameters))
      (λ h k. headed-fits d body f result h rest here among k.0 k.1 following ends fits))
      (λ _. tt))
      (λ _. tt)
