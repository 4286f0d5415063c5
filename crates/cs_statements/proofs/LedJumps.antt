-- A typed statement has the labels of the written one, numbered in their order, and its jumps have targets: for well-formed functions.
use Rattle.std.proofs.Common.{◌≡◌, ◌∙◌, ℕ, ℤ, ◌+◌, ◌<◌, suc, Bool, true, false, cond, List, [], ◌∷◌, ◌++◌, length, refl, sym}
use Rattle.std.proofs.Common.{ap, subst, arith, zero-add}
use Rattle.std.specs.Prelude.{nat_eq, Option, Some, None, IfSome}
use Rattle.std.specs.List.{position_from}
use Rattle.std.specs.Cmp.Lexicographic.{pointwise}
use Rattle.std.proofs.lemmas.List.{length-append}
use Rattle.std.proofs.lemmas.Iterator.Adapters.{position_from-zero}
use Rattle.cs_types.specs.Shape.{Shape}
use Rattle.cs_ast.specs.declared.place.Place.{Place}
use Rattle.cs_ast.specs.declared.raw.declaration.RawSpecs.{RawSpecs}
use Rattle.cs_ast.specs.declared.raw.declaration.RawFirstValue.{RawFirstValue}
use Rattle.cs_ast.specs.declared.raw.declaration.RawInit.{RawInit}
use Rattle.cs_ast.specs.declared.raw.expression.RawExpr.{RawExpr}
use Rattle.cs_ast.specs.declared.raw.statement.RawStmtKind as kinds
use Rattle.cs_ast.specs.declared.raw.statement.RawStmtKind.{RawStmtKind}
use Rattle.cs_ast.specs.declared.raw.statement.RawStmtKind.TheVariants as kind
use Rattle.cs_ast.specs.declared.raw.statement.RawItem.{RawItem}
use Rattle.cs_ast.specs.declared.raw.statement.RawItem as items
use Rattle.cs_ast.specs.declared.raw.statement.RawSwitchItem as switches
use Rattle.cs_ast.specs.declared.raw.statement.RawFirst.{RawFirst}
use Rattle.cs_ast.specs.declared.raw.statement.RawFirst.TheVariants as first_part
use Rattle.cs_ast.specs.TypedTree.{Typed, Statement}
use Rattle.cs_scopes.specs.declared.refusal.TypeCode.TheVariants.{Jump, Return}
use Rattle.cs_consts.specs.Roles.{value_of, assigned_value, test_of, selector_of, discarded_value}
use Rattle.cs_folding.specs.TypedParts.{type_of}
use Rattle.cs_scopes.specs.Verdicts.{Verdict, Fault, lift}
use Rattle.cs_declarations.specs.Bodies.{specs_type}
use Rattle.cs_declarations.specs.Initializers.{InFunction, initial_typed}
use Rattle.cs_declarations.specs.Environment.{is_declared_here}
use Rattle.cs_declarations.specs.Objects.{object_type}
use Rattle.cs_statements.specs.Locals.{Inside, LocalDeclared, TypedStatements, with_local, local_held, local_initialized, local_added, after_local}
use Rattle.cs_statements.specs.Locals.{locals_added}
use Rattle.cs_statements.specs.Statements.{word_fault, after_word}
use Rattle.cs_statements.specs.Statements.{Where, Part, Switching, in_loop, in_switch, in_a_row, part, past, tested_in, dropped_in, some_found, tested_if}
use Rattle.cs_statements.specs.Statements.{dropped_if, is_void, value_returned, returned, label_number, goto_typed, is_first, meeting, in_block, declared_in}
use Rattle.cs_statements.specs.Statements.{declaration_typed, first_place, no_statements, telling, ran_first, first_typed, case_put, case_added}
use Rattle.cs_statements.specs.Statements.{with_statements, labels_of, labels_of_item, labels_in, labels_of_switch_item, labels_in_switch, labels_of_items}
use Rattle.cs_statements.specs.Statements.{block_made, run_made, if_made, if_else_made, while_made, do_made, for_made, switch_made, return_made, label_made}
use Rattle.cs_statements.specs.Statements.{selected, statement_typed, item_typed, items_typed, switch_item_typed, switch_typed, body_typed}
use Rattle.cs_well_formed.specs.Statements.{label_count, label_counts, AreNumbered, AllAreNumbered, JumpsLead, AllJumpsLead}
use Rattle.cs_well_formed.proofs.Verdicts.{IfFine, if_fine-any, if_fine-weaker, lift-then, cond-then}
use Rattle.cs_statements.proofs.AfterWords.{after_word-then}

-- the number of labels in a list of statements
abbrev row_labels : List Statement → ℕ
row_labels statements = label_counts (in_a_row statements)

-- no label occurs in between
abbrev SameMet : Inside → Inside → Type 0
SameMet i j = j.met ≡ i.met

abbrev PartSameMet : {A : Type 0} → Inside → Part A → Type 0
PartSameMet i p = SameMet i p.inside

-- ---- lists of statements

count-push : (before : List Statement) (s : Statement) → row_labels (before ++ s ∷ []) ≡ row_labels before + label_count s
count-push [] s = omega arith
count-push (first ∷ before) s = let rest = count-push before s in omega (arith, rest)

numbered-push : (n : ℕ) (before : List Statement) (s : Statement) → AllAreNumbered n (in_a_row before) → AreNumbered (n + row_labels before) s
    → AllAreNumbered n (in_a_row (before ++ s ∷ []))
numbered-push n [] s h k = let e : n + 0 ≡ n = omega arith in (subst (λ m. AreNumbered m s) e k, tt)
numbered-push n (first ∷ before) s h k =
    let e : n + (label_count first + row_labels before) ≡ (n + label_count first) + row_labels before = omega arith in
    (h.0, numbered-push (n + label_count first) before s h.1 (subst (λ m. AreNumbered m s) e k))

jumps-push : (w : Where) (before : List Statement) (s : Statement) → AllJumpsLead w.breaks w.continues (in_a_row before) → JumpsLead w.breaks w.continues s
    → AllJumpsLead w.breaks w.continues (in_a_row (before ++ s ∷ []))
jumps-push w [] s h k = (k, tt)
jumps-push w (first ∷ before) s h k = (h.0, jumps-push w before s h.1 k)

-- a statement with this number of labels, which have the next numbers
pub record PartIsLed (w : Where) (i : Inside) (n : ℕ) (p : Part Statement) : Type 0 where
  pub count : label_count p.found ≡ n
  pub met : p.inside.met ≡ i.met + n
  pub numbered : AreNumbered i.met p.found
  pub jumps : JumpsLead w.breaks w.continues p.found

-- statements with this number of labels more than those before them
pub record ReportedIsLed (w : Where) (so_far : TypedStatements) (n : ℕ) (reported : TypedStatements) : Type 0 where
  pub count : row_labels reported.statements ≡ row_labels so_far.statements + n
  pub met : reported.inside.met ≡ so_far.inside.met + n
  pub numbered : (first : ℕ) → so_far.inside.met ≡ first + row_labels so_far.statements → AllAreNumbered first (in_a_row so_far.statements)
      → AllAreNumbered first (in_a_row reported.statements)
  pub jumps : AllJumpsLead w.breaks w.continues (in_a_row so_far.statements) → AllJumpsLead w.breaks w.continues (in_a_row reported.statements)

abbrev SwitchIsLed : Where → Switching → ℕ → Switching → Type 0
SwitchIsLed w so_far n s = ReportedIsLed w so_far.reported n s.reported

-- a statement after a part without labels
led-following : (w : Where) (i j : Inside) (n : ℕ) (p : Part Statement) → SameMet i j → PartIsLed w j n p → PartIsLed w i n p
led-following w i j n p same h = record {
  count = h.count;
  met = h.met ∙ ap (λ m. m + n) same;
  numbered = subst (λ m. AreNumbered m p.found) same h.numbered;
  jumps = h.jumps;
}

none-led : (w : Where) (so_far reported : TypedStatements) → reported.statements ≡ so_far.statements → SameMet so_far.inside reported.inside
    → ReportedIsLed w so_far 0 reported
none-led w so_far reported is same = record {
  count = ap row_labels is ∙ omega arith;
  met = same ∙ omega arith;
  numbered = λ first _ h. subst (λ ss. AllAreNumbered first (in_a_row ss)) (sym is) h;
  jumps = λ h. subst (λ ss. AllJumpsLead w.breaks w.continues (in_a_row ss)) (sym is) h;
}

one-led : (w : Where) (so_far : TypedStatements) (p : Part Statement) (n : ℕ) → PartIsLed w so_far.inside n p
    → ReportedIsLed w so_far n (record { statements = so_far.statements ++ p.found ∷ []; inside = p.inside })
one-led w so_far p n h = record {
  count = count-push so_far.statements p.found ∙ ap (λ k. row_labels so_far.statements + k) h.count;
  met = h.met;
  numbered = λ first at rows. numbered-push first so_far.statements p.found rows (subst (λ m. AreNumbered m p.found) at h.numbered);
  jumps = λ rows. jumps-push w so_far.statements p.found rows h.jumps;
}

more-led : (w : Where) (a b c : TypedStatements) (n m : ℕ) → ReportedIsLed w a n b → ReportedIsLed w b m c → ReportedIsLed w a (n + m) c
more-led w a b c n m h k = record {
  count = k.count ∙ omega (arith, h.count);
  met = k.met ∙ omega (arith, h.met);
  numbered = λ first at rows. k.numbered first (h.met ∙ omega (arith, at, h.count)) (h.numbered first at rows);
  jumps = λ rows. k.jumps (h.jumps rows);
}

-- statements with the labels of two parts
names-led : (w : Where) (a c : TypedStatements) (first others : List (List ℕ)) → ReportedIsLed w a (length first + length others) c
    → ReportedIsLed w a (length (first ++ others)) c
names-led w a c first others h = subst (λ n. ReportedIsLed w a n c) (sym (length-append first others)) h

-- ---- expressions

past-same : (i : Inside) (e : RawExpr) (v : Verdict Typed) → IfFine (lift (part (past e i)) v) (PartSameMet i)
past-same i e v = lift-then (λ _. Unit {0}) (PartSameMet i) (part (past e i)) v (if_fine-any v) (λ _ _. refl)

tested_in-same : (at : Place) (i : Inside) (e : RawExpr) → IfFine (tested_in at i e) (PartSameMet i)
tested_in-same at i e = past-same i e (test_of i.known.context i.known.literals at e)

dropped_in-same : (i : Inside) (e : RawExpr) → IfFine (dropped_in i e) (PartSameMet i)
dropped_in-same i e = past-same i e (discarded_value i.known.context i.known.literals e)

some-same : (i : Inside) (v : Verdict (Part Typed)) → IfFine v (PartSameMet i) → IfFine (lift some_found v) (PartSameMet i)
some-same i v h = lift-then (PartSameMet i) (PartSameMet i) some_found v h (λ p same. same)

tested_if-same : (at : Place) (i : Inside) (e : Option RawExpr) → IfFine (tested_if at i e) (PartSameMet i)
tested_if-same at i None = refl
tested_if-same at i (Some e) = some-same i (tested_in at i e) (tested_in-same at i e)

dropped_if-same : (i : Inside) (e : Option RawExpr) → IfFine (dropped_if i e) (PartSameMet i)
dropped_if-same i None = refl
dropped_if-same i (Some e) = some-same i (dropped_in i e) (dropped_in-same i e)

returned-same : (w : Where) (at : Place) (i : Inside) (e : Option RawExpr) → IfFine (returned w at i e) (PartSameMet i)
returned-same w at i None = cond-then (PartSameMet i) (is_void w.returns) _ (Fault Return at) (λ _. refl) (λ _. tt)
returned-same w at i (Some e) =
    some-same i (value_returned w at i e)
    (cond-then (PartSameMet i) (is_void w.returns) (Fault Return at) _ (λ _. tt)
    (λ _. past-same i e (assigned_value i.known.context i.known.literals at w.returns e)))

-- ---- declarations have no labels

record HasNone (i : Inside) (one : LocalDeclared) : Type 0 where
  count : label_count one.statement ≡ 0
  met : SameMet i one.inside
  numbered : (n : ℕ) → AreNumbered n one.statement
  jumps : (w : Where) → JumpsLead w.breaks w.continues one.statement

local_initialized-none : (number : ℕ) (ty : Shape) (at : Place) (first : Option RawFirstValue) (i : Inside)
    → IfFine (local_initialized number ty at first i) (HasNone i)
local_initialized-none number ty at None i = record { count = refl; met = refl; numbered = λ n. tt; jumps = λ w. tt }
local_initialized-none number ty at (Some value) i =
    lift-then (λ _. Unit {0}) (HasNone i) (local_held number value.place i) _
    (if_fine-any (initial_typed i.known.context i.known.literals InFunction value.place ty value.initial))
    (λ r _. record { count = refl; met = refl; numbered = λ n. tt; jumps = λ w. tt })

local_added-none : (base : Shape) (d : RawInit) (i : Inside) → IfFine (local_added base d i) (HasNone i)
local_added-none base d i =
    cond-then (HasNone i) (is_declared_here d.declarator.name i.known) _ _ (λ _. tt)
    (λ _. lift-then (λ _. Unit {0}) (HasNone i) _ _ (if_fine-any (object_type i.known.context base d))
    (λ ty _.
    if_fine-weaker (HasNone (with_local d.declarator.name ty i)) (HasNone i)
    (local_initialized (length i.variables) ty d.declarator.place d.initial (with_local d.declarator.name ty i))
    (local_initialized-none (length i.variables) ty d.declarator.place d.initial (with_local d.declarator.name ty i))
    (λ one h. record { count = h.count; met = h.met; numbered = h.numbered; jumps = h.jumps })))

local-led : (w : Where) (so_far : TypedStatements) (one : LocalDeclared) → HasNone so_far.inside one
    → ReportedIsLed w so_far 0 (record { statements = so_far.statements ++ one.statement ∷ []; inside = one.inside })
local-led w so_far one h =
    one-led w so_far (record { found = one.statement; inside = one.inside }) 0
    (record { count = h.count; met = h.met ∙ omega arith; numbered = h.numbered so_far.inside.met; jumps = h.jumps w })

locals_added-led : (w : Where) (base : Shape) (ds : List RawInit) (so_far : TypedStatements) → IfFine (locals_added base ds so_far) (ReportedIsLed w so_far 0)
locals_added-led w base [] so_far = none-led w so_far so_far refl refl
locals_added-led w base (d ∷ ds) so_far =
    lift-then (ReportedIsLed w so_far 0) (ReportedIsLed w so_far 0) (locals_added base ds) _
    (lift-then (HasNone so_far.inside) (ReportedIsLed w so_far 0) (after_local so_far.statements) _ (local_added-none base d so_far.inside)
    (λ one none. local-led w so_far one none))
    (λ reported h. if_fine-weaker (ReportedIsLed w reported 0) (ReportedIsLed w so_far 0) (locals_added base ds reported) (locals_added-led w base ds reported)
    (λ after k. more-led w so_far reported after 0 0 h k))

declaration_typed-led : (w : Where) (s : RawSpecs) (objects : List RawInit) (so_far : TypedStatements)
    → IfFine (declaration_typed s objects so_far) (ReportedIsLed w so_far 0)
declaration_typed-led w s objects so_far =
    lift-then (λ _. Unit {0}) (ReportedIsLed w so_far 0) (declared_in s objects so_far) _
    (if_fine-any (specs_type so_far.inside.known (first_place objects) s))
    (λ ty _.
    let known : TypedStatements = record {
      statements = so_far.statements;
      inside = record { known = ty.1; variables = so_far.inside.variables; met = so_far.inside.met };
    } in
    if_fine-weaker (ReportedIsLed w known 0) (ReportedIsLed w so_far 0) (locals_added ty.0 objects known) (locals_added-led w ty.0 objects known)
    (λ after h. more-led w so_far known after 0 0 (none-led w so_far known refl refl) h))

-- the first clause of a `for` is outside of the loop
first_typed-led : (w : Where) (i : Inside) (first : RawFirst) → IfFine (first_typed i first) (ReportedIsLed w (no_statements i) 0)
first_typed-led w i first_part.Empty = none-led w (no_statements i) (no_statements i) refl refl
first_typed-led w i (first_part.Run e) =
    lift-then (PartSameMet i) (ReportedIsLed w (no_statements i) 0) (ran_first e.place) (dropped_in i e) (dropped_in-same i e)
    (λ p same. record { count = refl; met = same ∙ omega arith; numbered = λ _ _ _. (tt, tt); jumps = λ _. (tt, tt) })
first_typed-led w i (first_part.Declare s objects) = declaration_typed-led w s objects.items (no_statements i)

-- ---- statements

-- a statement after a part without labels
after_same : {A : Type 0} (w : Where) (i : Inside) (n : ℕ) (rule : Part A → Verdict (Part Statement)) (v : Verdict (Part A)) → IfFine v (PartSameMet i)
    → ((p : Part A) → SameMet i p.inside → IfFine (rule p) (PartIsLed w i n)) → IfFine (lift rule v) (PartIsLed w i n)
after_same w i n rule v h go = lift-then (PartSameMet i) (PartIsLed w i n) rule v h go

-- a context outside of loops, with the labels of another one
abbrev no_loop : Where → Where
no_loop w = record { returns = w.returns; labels = w.labels; breaks = false; continues = false }

case_added-led : (w : Where) (at : Place) (so_far : Switching) (value : Option ℤ) → IfFine (case_added at so_far value) (SwitchIsLed w so_far 0)
case_added-led w at so_far value =
    lift-then (λ _. Unit {0}) (SwitchIsLed w so_far 0) _ _ (if_fine-any (case_put at value (length so_far.reported.statements) so_far.cases))
    (λ cases _. none-led w so_far.reported so_far.reported refl refl)

mutual
  pub statement_typed-led : (w : Where) (i : Inside) (at : Place) (k : RawStmtKind) → IfFine (statement_typed w i at k) (PartIsLed w i (length (labels_of k)))
  statement_typed-led w i at (kind.Block' shape row) =
      lift-then (ReportedIsLed w (no_statements (in_block i)) (length (labels_in row))) (PartIsLed w i (length (labels_in row))) (block_made at i) _
      (items_typed-led w row (no_statements (in_block i)))
      (λ reported h. record {
        count = h.count ∙ zero-add (length (labels_in row));
        met = h.met;
        numbered = h.numbered i.met (omega arith) tt;
        jumps = h.jumps tt;
      })
  statement_typed-led w i at kind.Empty = record { count = refl; met = omega arith; numbered = tt; jumps = tt }
  statement_typed-led w i at (kind.Run e) =
      after_same w i 0 (run_made at) (dropped_in i e) (dropped_in-same i e)
      (λ p same. record { count = refl; met = same ∙ omega arith; numbered = tt; jumps = tt })
  statement_typed-led w i at (kind.If' test place p body) =
      let n = length (labels_of body) in
      after_same w i n _ (tested_in at i test) (tested_in-same at i test)
      (λ t same. lift-then (PartIsLed w t.inside n) (PartIsLed w i n) (if_made at t.found) _ (statement_typed-led w t.inside place body)
      (λ b h. let led = led-following w i t.inside n b same h in record { count = led.count; met = led.met; numbered = led.numbered; jumps = led.jumps }))
  statement_typed-led w i at (kind.IfElse' test place p body place' q other) =
      let n = length (labels_of body) in
      let m = length (labels_of other) in
      let all = length-append (labels_of body) (labels_of other) in
      after_same w i (length (labels_of body ++ labels_of other)) _ (tested_in at i test) (tested_in-same at i test)
      (λ t same.
      lift-then (PartIsLed w t.inside n) (PartIsLed w i (length (labels_of body ++ labels_of other))) _ _ (statement_typed-led w t.inside place body)
      (λ one h. let first = led-following w i t.inside n one same h in
      lift-then (PartIsLed w one.inside m) (PartIsLed w i (length (labels_of body ++ labels_of other))) (if_else_made at t.found one.found) _
      (statement_typed-led w one.inside place' other)
      (λ b k. record {
        count = omega (arith, all, first.count, k.count);
        met = omega (arith, all, first.met, k.met);
        numbered = (first.numbered, subst (λ l. AreNumbered l b.found) (first.met ∙ ap (λ l. i.met + l) (sym first.count)) k.numbered);
        jumps = (first.jumps, k.jumps);
      })))
  statement_typed-led w i at (kind.While' test place p body) =
      let n = length (labels_of body) in
      after_same w i n _ (tested_in at i test) (tested_in-same at i test)
      (λ t same. lift-then (PartIsLed (in_loop w) t.inside n) (PartIsLed w i n) (while_made at t.found) _ (statement_typed-led (in_loop w) t.inside place body)
      (λ b h. let led = led-following (in_loop w) i t.inside n b same h in
      record { count = led.count; met = led.met; numbered = led.numbered; jumps = led.jumps }))
  statement_typed-led w i at (kind.Do' place p body test) =
      let n = length (labels_of body) in
      lift-then (PartIsLed (in_loop w) i n) (PartIsLed w i n) _ (after_word at (word_fault at i (Some test)) (statement_typed (in_loop w) i place body))
      (after_word-then (PartIsLed (in_loop w) i n) at (word_fault at i (Some test)) (statement_typed (in_loop w) i place body)
      (statement_typed-led (in_loop w) i place body))
      (λ b h. lift-then (PartSameMet b.inside) (PartIsLed w i n) (do_made at b.found) (tested_in at b.inside test) (tested_in-same at b.inside test)
      (λ t same. record { count = h.count; met = same ∙ h.met; numbered = h.numbered; jumps = h.jumps }))
  statement_typed-led w i at (kind.For' first test last place p body) =
      let n = length (labels_of body) in
      let Begun = ReportedIsLed (no_loop w) (no_statements (in_block i)) 0 in
      lift-then Begun (PartIsLed w i n) _ (after_word at (word_fault at (in_block i) test) (first_typed (in_block i) first))
      (after_word-then Begun at (word_fault at (in_block i) test) (first_typed (in_block i) first) (first_typed-led (no_loop w) (in_block i) first))
      (λ f begun. lift-then (PartSameMet f.inside) (PartIsLed w i n) _ (tested_if at f.inside test) (tested_if-same at f.inside test)
      (λ t one. lift-then (PartSameMet t.inside) (PartIsLed w i n) _ (dropped_if t.inside last) (dropped_if-same t.inside last)
      (λ l other.
      lift-then (PartIsLed (in_loop w) l.inside n) (PartIsLed w i n) (for_made at i f.statements t.found l.found) _
      (statement_typed-led (in_loop w) l.inside place body)
      (λ b h.
      let same : l.inside.met ≡ i.met = omega (arith, begun.met, one, other) in
      let led = led-following (in_loop w) i l.inside n b same h in
      record { count = led.count; met = led.met; numbered = (begun.count, led.numbered); jumps = (begun.jumps tt, led.jumps) }))))
  statement_typed-led w i at (kind.Switch' value shape row) =
      let n = length (labels_in_switch row) in
      after_same w i n _ (selected at i value) (past-same i value (selector_of i.known.context i.known.literals at value))
      (λ v same. let begun : Switching = record { cases = []; reported = no_statements (in_block v.inside) } in
      lift-then (SwitchIsLed (in_switch w) begun n) (PartIsLed w i n) (switch_made at i v.found) _ (switch_typed-led (in_switch w) (type_of v.found) row begun)
      (λ s h. record {
        count = h.count ∙ zero-add n;
        met = h.met ∙ ap (λ m. m + n) same;
        numbered = h.numbered i.met (same ∙ omega arith) tt;
        jumps = h.jumps tt;
      }))
  statement_typed-led w i at (kind.Goto label) = goto-led (label_number label w.labels)
    where
      goto-led : (number : Option ℕ) → IfFine (goto_typed at i number) (PartIsLed w i 0)
      goto-led (Some number) = record { count = refl; met = omega arith; numbered = tt; jumps = tt }
      goto-led None = tt
  statement_typed-led w i at kind.Continue =
      cond-then (PartIsLed w i 0) w.continues _ (Fault Jump at) (λ leads. record { count = refl; met = omega arith; numbered = tt; jumps = leads }) (λ _. tt)
  statement_typed-led w i at kind.Break =
      cond-then (PartIsLed w i 0) w.breaks _ (Fault Jump at) (λ leads. record { count = refl; met = omega arith; numbered = tt; jumps = leads }) (λ _. tt)
  statement_typed-led w i at (kind.Return value) =
      after_same w i 0 (return_made at) (returned w at i value) (returned-same w at i value)
      (λ p same. record { count = refl; met = same ∙ omega arith; numbered = tt; jumps = tt })
  statement_typed-led w i at (kind.Label' name place p body) =
      let n = length (labels_of body) in
      cond-then (PartIsLed w i (length (name ∷ labels_of body))) (is_first i (label_number name w.labels)) _ (Fault Jump at)
      (λ _.
      lift-then (PartIsLed w (meeting i) n) (PartIsLed w i (length (name ∷ labels_of body))) (label_made at i.met) _
      (statement_typed-led w (meeting i) place body)
      (λ b h. let next : i.met + 1 ≡ suc i.met = omega arith in
      record {
        count = ap suc h.count;
        met = h.met ∙ omega arith;
        numbered = (refl, subst (λ m. AreNumbered m b.found) next h.numbered);
        jumps = h.jumps;
      }))
      (λ _. tt)

  item_typed-led : (w : Where) (item : RawItem) (so_far : TypedStatements)
      → IfFine (item_typed w item so_far) (ReportedIsLed w so_far (length (labels_of_item item)))
  item_typed-led w (items.TheVariants.Declare s objects) so_far = declaration_typed-led w s objects.items so_far
  item_typed-led w (items.TheVariants.Run' place p body) so_far =
      lift-then (PartIsLed w so_far.inside (length (labels_of body))) (ReportedIsLed w so_far (length (labels_of body))) (telling so_far.statements) _
      (statement_typed-led w so_far.inside place body)
      (λ p h. one-led w so_far p (length (labels_of body)) h)

  items_typed-led : {n : _} → (w : Where) (row : kinds.Row_of-RawItem n) (so_far : TypedStatements)
      → IfFine (items_typed w row so_far) (ReportedIsLed w so_far (length (labels_in row)))
  items_typed-led w kinds.end_of-RawItem so_far = none-led w so_far so_far refl refl
  items_typed-led w (kinds.more_of-RawItem first others) so_far =
      lift-then (ReportedIsLed w so_far (length (labels_of_item first))) (ReportedIsLed w so_far (length (labels_of_item first ++ labels_in others)))
      (items_typed w others) _ (item_typed-led w first so_far)
      (λ reported h.
      if_fine-weaker (ReportedIsLed w reported (length (labels_in others))) (ReportedIsLed w so_far (length (labels_of_item first ++ labels_in others))) _
      (items_typed-led w others reported)
      (λ after k. names-led w so_far after (labels_of_item first) (labels_in others) (more-led w so_far reported after _ _ h k)))

  switch_item_typed-led : (w : Where) (ty : Shape) (item : switches.RawSwitchItem) (so_far : Switching)
      → IfFine (switch_item_typed w ty item so_far) (SwitchIsLed w so_far (length (labels_of_switch_item item)))
  switch_item_typed-led w ty (switches.TheVariants.Case at value) so_far =
      lift-then (λ _. Unit {0}) (SwitchIsLed w so_far 0) _ _ (if_fine-any (value_of so_far.reported.inside.known.context value))
      (λ n _. case_added-led w at so_far _)
  switch_item_typed-led w ty (switches.TheVariants.Default at) so_far = case_added-led w at so_far None
  switch_item_typed-led w ty (switches.TheVariants.Item i) so_far =
      lift-then (ReportedIsLed w so_far.reported (length (labels_of_item i))) (SwitchIsLed w so_far (length (labels_of_item i))) (with_statements so_far) _
      (item_typed-led w i so_far.reported) (λ reported h. h)

  switch_typed-led : {n : _} → (w : Where) (ty : Shape) (row : kinds.Row_of-RawSwitchItem n) (so_far : Switching)
      → IfFine (switch_typed w ty row so_far) (SwitchIsLed w so_far (length (labels_in_switch row)))
  switch_typed-led w ty kinds.end_of-RawSwitchItem so_far = none-led w so_far.reported so_far.reported refl refl
  switch_typed-led w ty (kinds.more_of-RawSwitchItem first others) so_far =
      lift-then (SwitchIsLed w so_far (length (labels_of_switch_item first)))
      (SwitchIsLed w so_far (length (labels_of_switch_item first ++ labels_in_switch others))) (switch_typed w ty others) _
      (switch_item_typed-led w ty first so_far)
      (λ s h.
      if_fine-weaker (SwitchIsLed w s (length (labels_in_switch others)))
      (SwitchIsLed w so_far (length (labels_of_switch_item first ++ labels_in_switch others))) _ (switch_typed-led w ty others s)
      (λ after k.
      names-led w so_far.reported after.reported (labels_of_switch_item first) (labels_in_switch others)
      (more-led w so_far.reported s.reported after.reported _ _ h k)))

-- the body of a function
pub body_typed-led : (w : Where) (list : List RawItem) (so_far : TypedStatements)
    → IfFine (body_typed w list so_far) (ReportedIsLed w so_far (length (labels_of_items list)))
body_typed-led w [] so_far = none-led w so_far so_far refl refl
body_typed-led w (first ∷ others) so_far =
    lift-then (ReportedIsLed w so_far (length (labels_of_item first))) (ReportedIsLed w so_far (length (labels_of_item first ++ labels_of_items others)))
    (body_typed w others) _ (item_typed-led w first so_far)
    (λ reported h.
    if_fine-weaker (ReportedIsLed w reported (length (labels_of_items others)))
    (ReportedIsLed w so_far (length (labels_of_item first ++ labels_of_items others))) _ (body_typed-led w others reported)
    (λ after k. names-led w so_far after (labels_of_item first) (labels_of_items others) (more-led w so_far reported after _ _ h k)))

-- ---- the number of a label

number_from-below : {A : Type 0} (p : A → Bool) (i : ℕ) (xs : List A) (end : ℕ) → i + length xs ≡ end
    → IfSome (position_from p i xs) (λ n. n < end)
number_from-below p i [] end is = tt
number_from-below p i (x ∷ xs) end is = by_test (p x) (number_from-below p (i + 1) xs end (omega (arith, is)))
  where
    by_test : (b : Bool) → IfSome (position_from p (i + 1) xs) (λ n. n < end) → IfSome (cond b (Some i) (position_from p (i + 1) xs)) (λ n. n < end)
    by_test true h = omega (arith, is)
    by_test false h = h

-- the number of a label that is found is below the number of labels
pub label_number-below : (name : List ℕ) (labels : List (List ℕ)) → IfSome (label_number name labels) (λ n. n < length labels)
label_number-below name labels =
    let named : List ℕ → Bool = λ other. pointwise nat_eq other name in
    subst (λ o. IfSome o (λ n. n < length labels)) (sym (position_from-zero named labels))
    (number_from-below named 0 labels (length labels) (zero-add (length labels)))
