-- If the structs that are known before statements have layouts, so do those after them: for the contract of `typed`.
use Rattle.std.proofs.Common.{◌≡◌, ◌∙◌, ℕ, ℤ, List, [], ◌∷◌}
use Rattle.std.specs.Prelude.{Option, Some, None, length}
use Rattle.cs_types.specs.declared.data_model.DataModel.{DataModel}
use Rattle.cs_types.specs.Shape.{Shape}
use Rattle.cs_ast.specs.declared.place.Place.{Place}
use Rattle.cs_ast.specs.declared.raw.declaration.RawSpecs.{RawSpecs}
use Rattle.cs_ast.specs.declared.raw.declaration.RawFirstValue.{RawFirstValue}
use Rattle.cs_ast.specs.declared.raw.declaration.RawInit.{RawInit}
use Rattle.cs_ast.specs.declared.raw.expression.RawExpr.{RawExpr}
use Rattle.cs_ast.specs.declared.raw.statement.RawStmtKind as kinds
use Rattle.cs_ast.specs.declared.raw.statement.RawStmtKind.{RawStmtKind}
use Rattle.cs_ast.specs.declared.raw.statement.RawStmtKind.TheVariants as kind
use Rattle.cs_ast.specs.declared.raw.statement.RawItem.{RawItem}
use Rattle.cs_ast.specs.declared.raw.statement.RawItem as items
use Rattle.cs_ast.specs.declared.raw.statement.RawSwitchItem as switches
use Rattle.cs_ast.specs.declared.raw.statement.RawFirst.{RawFirst}
use Rattle.cs_ast.specs.declared.raw.statement.RawFirst.TheVariants as first_part
use Rattle.cs_scopes.specs.declared.refusal.TypeCode.TheVariants.{DeclaredTwice, Jump, Return}
use Rattle.cs_folding.specs.TypedParts.{type_of}
use Rattle.cs_scopes.specs.Verdicts.{Fault, lift}
use Rattle.cs_consts.specs.Roles.{value_of, assigned_value, test_of, selector_of, discarded_value}
use Rattle.cs_declarations.specs.Bodies.{specs_type}
use Rattle.cs_declarations.specs.Initializers.{InFunction, initial_typed}
use Rattle.cs_declarations.specs.LaidOut.{IsSound}
use Rattle.cs_declarations.specs.Objects.{object_type}
use Rattle.cs_declarations.specs.Environment.{Environment, model_of, is_declared_here}
use Rattle.cs_declarations.proofs.FineVerdicts.{IfFine, IfFine-lift, IfFine-lift_any, IfFine-cond}
use Rattle.cs_declarations.proofs.SoundBodies.{TypeGoesOn, specs_type-GoesOn}
use Rattle.cs_declarations.proofs.SoundStructs.{GoesOn}
use Rattle.cs_statements.specs.Locals.{Inside, LocalDeclared, TypedStatements, with_local, local_initialized, local_added, locals_added}
use Rattle.cs_statements.specs.Statements.{word_fault, after_word}
use Rattle.cs_statements.specs.Statements.{Where, Part, Switching, in_loop, in_switch, part, past, tested_in, dropped_in, tested_if, dropped_if, is_void}
use Rattle.cs_statements.specs.Statements.{value_returned, returned, label_number, goto_typed, is_first, meeting, in_block, declaration_typed, first_place}
use Rattle.cs_statements.specs.Statements.{no_statements, first_typed, case_put, case_added, selected, statement_typed, item_typed, items_typed}
use Rattle.cs_statements.specs.Statements.{switch_item_typed, switch_typed, body_typed}
use Rattle.cs_statements.proofs.AfterWords.{after_word-sound}

-- the structs that are known are laid out, under this data model
abbrev pub IsLaidUnder : DataModel → Environment → Type 0
IsLaidUnder m k = IsSound k × (model_of k ≡ m)

pub following : (m : DataModel) (k after : Environment) → IsLaidUnder m k → GoesOn k after → IsLaidUnder m after
following m k after h g = (g.sound, g.same_model ∙ h.1)

module _ (m : DataModel) where
  -- the structs that are known inside of a function, and after parts of one
  abbrev pub InsideIsSound : Inside → Type 0
  InsideIsSound i = IsLaidUnder m i.known

  abbrev pub PartIsSound : {A : Type 0} → Part A → Type 0
  PartIsSound p = IsLaidUnder m p.inside.known

  abbrev pub ReportedIsSound : TypedStatements → Type 0
  ReportedIsSound t = IsLaidUnder m t.inside.known

  abbrev LocalIsSound : LocalDeclared → Type 0
  LocalIsSound one = IsLaidUnder m one.inside.known

  abbrev SwitchingIsSound : Switching → Type 0
  SwitchingIsSound s = IsLaidUnder m s.reported.inside.known

  -- ---- expressions

  tested_in-sound : (at : Place) (i : Inside) (e : RawExpr) → InsideIsSound i → IfFine (tested_in at i e) PartIsSound
  tested_in-sound at i e h = IfFine-lift_any (part (past e i)) (test_of i.known.context i.known.literals at e) PartIsSound (λ a. h)

  dropped_in-sound : (i : Inside) (e : RawExpr) → InsideIsSound i → IfFine (dropped_in i e) PartIsSound
  dropped_in-sound i e h = IfFine-lift_any (part (past e i)) (discarded_value i.known.context i.known.literals e) PartIsSound (λ a. h)

  tested_if-sound : (at : Place) (i : Inside) (e : Option RawExpr) → InsideIsSound i → IfFine (tested_if at i e) PartIsSound
  tested_if-sound at i None h = h
  tested_if-sound at i (Some e) h = IfFine-lift _ (tested_in at i e) PartIsSound PartIsSound (tested_in-sound at i e h) (λ p g. g)

  dropped_if-sound : (i : Inside) (e : Option RawExpr) → InsideIsSound i → IfFine (dropped_if i e) PartIsSound
  dropped_if-sound i None h = h
  dropped_if-sound i (Some e) h = IfFine-lift _ (dropped_in i e) PartIsSound PartIsSound (dropped_in-sound i e h) (λ p g. g)

  selected-sound : (at : Place) (i : Inside) (e : RawExpr) → InsideIsSound i → IfFine (selected at i e) PartIsSound
  selected-sound at i e h = IfFine-lift_any (part (past e i)) (selector_of i.known.context i.known.literals at e) PartIsSound (λ a. h)

  value_returned-sound : (w : Where) (at : Place) (i : Inside) (e : RawExpr) → InsideIsSound i → IfFine (value_returned w at i e) PartIsSound
  value_returned-sound w at i e h =
      IfFine-cond (is_void w.returns) (Fault Return at) (lift (part (past e i)) (assigned_value i.known.context i.known.literals at w.returns e)) PartIsSound
      (λ yes. tt)
      (λ no. IfFine-lift_any (part (past e i)) (assigned_value i.known.context i.known.literals at w.returns e) PartIsSound (λ a. h))

  returned-sound : (w : Where) (at : Place) (i : Inside) (e : Option RawExpr) → InsideIsSound i → IfFine (returned w at i e) PartIsSound
  returned-sound w at i None h = IfFine-cond (is_void w.returns) (part i None) (Fault Return at) PartIsSound (λ yes. h) (λ no. tt)
  returned-sound w at i (Some e) h = IfFine-lift _ (value_returned w at i e) PartIsSound PartIsSound (value_returned-sound w at i e h) (λ p g. g)

  goto_typed-sound : (at : Place) (i : Inside) (number : Option ℕ) → InsideIsSound i → IfFine (goto_typed at i number) PartIsSound
  goto_typed-sound at i (Some number) h = h
  goto_typed-sound at i None h = tt

  -- ---- declarations

  local_initialized-sound : (number : ℕ) (ty : Shape) (at : Place) (first : Option RawFirstValue) (i : Inside) → InsideIsSound i
      → IfFine (local_initialized number ty at first i) LocalIsSound
  local_initialized-sound number ty at None i h = h
  local_initialized-sound number ty at (Some value) i h =
      IfFine-lift_any _ (initial_typed i.known.context i.known.literals InFunction value.place ty value.initial) LocalIsSound (λ r. h)

  local_added-sound : (base : Shape) (d : RawInit) (i : Inside) → InsideIsSound i → IfFine (local_added base d i) LocalIsSound
  local_added-sound base d i h =
      IfFine-cond (is_declared_here d.declarator.name i.known) (Fault DeclaredTwice d.declarator.place) _ LocalIsSound (λ twice. tt)
      (λ new. IfFine-lift_any _ (object_type i.known.context base d) LocalIsSound
      (λ ty. local_initialized-sound (length i.variables) ty d.declarator.place d.initial (with_local d.declarator.name ty i) h))

  pub locals_added-sound : (base : Shape) (ds : List RawInit) (so_far : TypedStatements) → ReportedIsSound so_far
      → IfFine (locals_added base ds so_far) ReportedIsSound
  locals_added-sound base [] so_far h = h
  locals_added-sound base (d ∷ ds) so_far h =
      IfFine-lift (locals_added base ds) _ ReportedIsSound ReportedIsSound
      (IfFine-lift _ (local_added base d so_far.inside) LocalIsSound ReportedIsSound (local_added-sound base d so_far.inside h) (λ one g. g))
      (λ reported g. locals_added-sound base ds reported g)

  declaration_typed-sound : (s : RawSpecs) (objects : List RawInit) (so_far : TypedStatements) → ReportedIsSound so_far
      → IfFine (declaration_typed s objects so_far) ReportedIsSound
  declaration_typed-sound s objects so_far h =
      IfFine-lift _ (specs_type so_far.inside.known (first_place objects) s) (TypeGoesOn so_far.inside.known) ReportedIsSound
      (specs_type-GoesOn so_far.inside.known (first_place objects) s h.0)
      (λ ty g. locals_added-sound ty.0 objects _ (following m so_far.inside.known ty.1 h g))

  first_typed-sound : (i : Inside) (first : RawFirst) → InsideIsSound i → IfFine (first_typed i first) ReportedIsSound
  first_typed-sound i first_part.Empty h = h
  first_typed-sound i (first_part.Run e) h = IfFine-lift _ (dropped_in i e) PartIsSound ReportedIsSound (dropped_in-sound i e h) (λ p g. g)
  first_typed-sound i (first_part.Declare s objects) h = declaration_typed-sound s objects.items (no_statements i) h

  -- ---- statements

  case_added-sound : (at : Place) (so_far : Switching) (value : Option ℤ) → SwitchingIsSound so_far → IfFine (case_added at so_far value) SwitchingIsSound
  case_added-sound at so_far value h = IfFine-lift_any _ (case_put at value (length so_far.reported.statements) so_far.cases) SwitchingIsSound (λ cases. h)

  mutual
    pub statement_typed-sound : (w : Where) (i : Inside) (at : Place) (k : RawStmtKind) → InsideIsSound i → IfFine (statement_typed w i at k) PartIsSound
    statement_typed-sound w i at (kind.Block' shape row) h =
        IfFine-lift _ (items_typed w row (no_statements (in_block i))) ReportedIsSound PartIsSound (items_typed-sound w row (no_statements (in_block i)) h)
        (λ reported g. g)
    statement_typed-sound w i at kind.Empty h = h
    statement_typed-sound w i at (kind.Run e) h = IfFine-lift _ (dropped_in i e) PartIsSound PartIsSound (dropped_in-sound i e h) (λ p g. g)
    statement_typed-sound w i at (kind.If' test place p body) h =
        IfFine-lift _ (tested_in at i test) PartIsSound PartIsSound (tested_in-sound at i test h)
        (λ t g. IfFine-lift _ (statement_typed w t.inside place body) PartIsSound PartIsSound (statement_typed-sound w t.inside place body g) (λ b g'. g'))
    statement_typed-sound w i at (kind.IfElse' test place p body place' q other) h =
        IfFine-lift _ (tested_in at i test) PartIsSound PartIsSound (tested_in-sound at i test h)
        (λ t g. IfFine-lift _ (statement_typed w t.inside place body) PartIsSound PartIsSound (statement_typed-sound w t.inside place body g)
        (λ one g'.
        IfFine-lift _ (statement_typed w one.inside place' other) PartIsSound PartIsSound (statement_typed-sound w one.inside place' other g')
        (λ b g''. g'')))
    statement_typed-sound w i at (kind.While' test place p body) h =
        IfFine-lift _ (tested_in at i test) PartIsSound PartIsSound (tested_in-sound at i test h)
        (λ t g.
        IfFine-lift _ (statement_typed (in_loop w) t.inside place body) PartIsSound PartIsSound (statement_typed-sound (in_loop w) t.inside place body g)
        (λ b g'. g'))
    statement_typed-sound w i at (kind.Do' place p body test) h =
        IfFine-lift _ (after_word at (word_fault at i (Some test)) (statement_typed (in_loop w) i place body)) PartIsSound PartIsSound
        (after_word-sound PartIsSound at (word_fault at i (Some test)) (statement_typed (in_loop w) i place body)
        (statement_typed-sound (in_loop w) i place body h))
        (λ b g. IfFine-lift _ (tested_in at b.inside test) PartIsSound PartIsSound (tested_in-sound at b.inside test g) (λ t g'. g'))
    statement_typed-sound w i at (kind.For' first test last place p body) h =
        IfFine-lift _ (after_word at (word_fault at (in_block i) test) (first_typed (in_block i) first)) ReportedIsSound PartIsSound
        (after_word-sound ReportedIsSound at (word_fault at (in_block i) test) (first_typed (in_block i) first) (first_typed-sound (in_block i) first h))
        (λ f g. IfFine-lift _ (tested_if at f.inside test) PartIsSound PartIsSound (tested_if-sound at f.inside test g)
        (λ t g'. IfFine-lift _ (dropped_if t.inside last) PartIsSound PartIsSound (dropped_if-sound t.inside last g')
        (λ l g''.
        IfFine-lift _ (statement_typed (in_loop w) l.inside place body) PartIsSound PartIsSound (statement_typed-sound (in_loop w) l.inside place body g'')
        (λ b g'''. g'''))))
    statement_typed-sound w i at (kind.Switch' value shape row) h =
        IfFine-lift _ (selected at i value) PartIsSound PartIsSound (selected-sound at i value h)
        (λ v g.
        IfFine-lift _ (switch_typed (in_switch w) (type_of v.found) row (record { cases = []; reported = no_statements (in_block v.inside) }))
        SwitchingIsSound PartIsSound
        (switch_typed-sound (in_switch w) (type_of v.found) row (record { cases = []; reported = no_statements (in_block v.inside) }) g) (λ s g'. g'))
    statement_typed-sound w i at (kind.Goto label) h = goto_typed-sound at i (label_number label w.labels) h
    statement_typed-sound w i at kind.Continue h = IfFine-cond w.continues _ (Fault Jump at) PartIsSound (λ yes. h) (λ no. tt)
    statement_typed-sound w i at kind.Break h = IfFine-cond w.breaks _ (Fault Jump at) PartIsSound (λ yes. h) (λ no. tt)
    statement_typed-sound w i at (kind.Return value) h =
        IfFine-lift _ (returned w at i value) PartIsSound PartIsSound (returned-sound w at i value h) (λ p g. g)
    statement_typed-sound w i at (kind.Label' name place p body) h =
        IfFine-cond (is_first i (label_number name w.labels)) _ (Fault Jump at) PartIsSound
        (λ first.
        IfFine-lift _ (statement_typed w (meeting i) place body) PartIsSound PartIsSound (statement_typed-sound w (meeting i) place body h) (λ b g. g))
        (λ other. tt)

    pub item_typed-sound : (w : Where) (item : RawItem) (so_far : TypedStatements) → ReportedIsSound so_far
        → IfFine (item_typed w item so_far) ReportedIsSound
    item_typed-sound w (items.TheVariants.Declare s objects) so_far h = declaration_typed-sound s objects.items so_far h
    item_typed-sound w (items.TheVariants.Run' place p body) so_far h =
        IfFine-lift _ (statement_typed w so_far.inside place body) PartIsSound ReportedIsSound (statement_typed-sound w so_far.inside place body h) (λ p g. g)

    items_typed-sound : {n : _} → (w : Where) (row : kinds.Row_of-RawItem n) (so_far : TypedStatements) → ReportedIsSound so_far
        → IfFine (items_typed w row so_far) ReportedIsSound
    items_typed-sound w kinds.end_of-RawItem so_far h = h
    items_typed-sound w (kinds.more_of-RawItem first others) so_far h =
        IfFine-lift _ (item_typed w first so_far) ReportedIsSound ReportedIsSound (item_typed-sound w first so_far h)
        (λ reported g. items_typed-sound w others reported g)

    switch_item_typed-sound : (w : Where) (ty : Shape) (item : switches.RawSwitchItem) (so_far : Switching) → SwitchingIsSound so_far
        → IfFine (switch_item_typed w ty item so_far) SwitchingIsSound
    switch_item_typed-sound w ty (switches.TheVariants.Case at value) so_far h =
        IfFine-lift_any _ (value_of so_far.reported.inside.known.context value) SwitchingIsSound (λ n. case_added-sound at so_far _ h)
    switch_item_typed-sound w ty (switches.TheVariants.Default at) so_far h = case_added-sound at so_far None h
    switch_item_typed-sound w ty (switches.TheVariants.Item i) so_far h =
        IfFine-lift _ (item_typed w i so_far.reported) ReportedIsSound SwitchingIsSound (item_typed-sound w i so_far.reported h) (λ reported g. g)

    switch_typed-sound : {n : _} → (w : Where) (ty : Shape) (row : kinds.Row_of-RawSwitchItem n) (so_far : Switching) → SwitchingIsSound so_far
        → IfFine (switch_typed w ty row so_far) SwitchingIsSound
    switch_typed-sound w ty kinds.end_of-RawSwitchItem so_far h = h
    switch_typed-sound w ty (kinds.more_of-RawSwitchItem first others) so_far h =
        IfFine-lift _ (switch_item_typed w ty first so_far) SwitchingIsSound SwitchingIsSound (switch_item_typed-sound w ty first so_far h)
        (λ s g. switch_typed-sound w ty others s g)

  -- the body of a function
  pub body_typed-sound : (w : Where) (list : List RawItem) (so_far : TypedStatements) → ReportedIsSound so_far
      → IfFine (body_typed w list so_far) ReportedIsSound
  body_typed-sound w [] so_far h = h
  body_typed-sound w (first ∷ others) so_far h =
      IfFine-lift (body_typed w others) (item_typed w first so_far) ReportedIsSound ReportedIsSound (item_typed-sound w first so_far h)
      (λ reported g. body_typed-sound w others reported g)
