use Rattle.std.proofs.Common.{◌≡◌, ℕ, List, ◌∷◌, [], length, drop, reverse, rules, sym, ap, subst, ◌∙◌, arith}
use Rattle.std.proofs.lemmas.List.{reverse-append}
use Rattle.std.specs.Prelude.{option_map, option_copied}
use Rattle.cs_ast.specs.declared.typed.statement.Stmt.{Stmt}
use Rattle.cs_ast.specs.declared.typed.statement.StmtKind.TheViews.{sized-For, size-StmtKind, size_is-Stmt}
use Rattle.cs_ast.specs.TypedTree.{Block, Declare, Run, If, IfElse, While, Do, For, Switch, Goto, Label, Break, Continue, Return}
use Rattle.cs_ast.specs.TypedProgram.{typed_program, routine}
use Rattle.cs_ast.specs.TypedView.{typed, some_typed, initial, statement, statement_at, statement_list}
use Rattle.cs_lower.specs.Building.{built_of, point_of}
use Rattle.cs_lower.specs.Statements.{block_at, ExecutesAll, EntersAll}
use Rattle.cs_lower.proofs.Executing as made
use Rattle.cs_lower.proofs.Executing.{as_statement, executes_none, executes_further, executes_in}
use Rattle.cs_lower.proofs.ForLoops.{for_turned, for_made}
use Rattle.cs_lower.proofs.Forms.{if_made}
use Rattle.cs_lower.proofs.Leaving as leave
use Rattle.cs_objects.proofs.StatementForms.{block_is, for_is, switch_is}
use Rattle.cs_lower.proofs.Switching.{enters_none, enters_further, switch_made, dropped}
use Rattle.cs_lower.proofs.TurningLoops.{while_made, do_made}
use Rattle.cs_lower.proofs.context.Lowering.+statements.Goals as goal

pub lower_statement-returns-in-Block : goal.lower_statement-returns-in-Block
lower_statement-returns-in-Block t c =
    let is = block_is c.args.s.now c.in-Block.statements (sym c.deref.ensures ∙ c.in-Block.is)
    ∙ ap (λ l. Block c.args.s.now.place (statement_list l)) (sym c.deref-in-Block.ensures.value) in
    if_made c.lower_all.result (λ strip h. as_statement is (made.block h)) c.lower_all.ensures

pub lower_statement-returns-in-Declare : goal.lower_statement-returns-in-Declare
lower_statement-returns-in-Declare t c =
    let d = c.in-Declare.declaration in
    let is : statement c.args.s.now ≡ Declare c.args.s.now.place d (option_map initial (option_copied c.as_ref.result)) =
    ap (statement_at c.args.s.now.place) (sym c.deref.ensures ∙ c.in-Declare.is)
    ∙ ap (λ o. Declare c.args.s.now.place d (option_map initial o)) (sym c.as_ref.ensures.value) in
    if_made c.lower_declaration.result (λ strip h. as_statement is (made.declare h)) c.lower_declaration.ensures

pub lower_statement-returns-in-Run : goal.lower_statement-returns-in-Run
lower_statement-returns-in-Run t c =
    let is : statement c.args.s.now ≡ Run c.args.s.now.place (typed c.in-Run.e) =
    ap (statement_at c.args.s.now.place) (sym c.deref.ensures ∙ c.in-Run.is) in
    if_made c.lower_run.result (λ strip h. as_statement is (h c.args.exits.out c.args.exits.again)) c.lower_run.ensures

pub lower_statement-returns-in-If : goal.lower_statement-returns-in-If
lower_statement-returns-in-If t c =
    let is : statement c.args.s.now ≡ If c.args.s.now.place (typed c.in-If.test) (statement c.in-If.body) = search rules in
    if_made c.lower_if.result (λ strip h. as_statement is h) c.lower_if.ensures

pub lower_statement-returns-in-IfElse : goal.lower_statement-returns-in-IfElse
lower_statement-returns-in-IfElse t c =
    let is : statement c.args.s.now ≡ IfElse c.args.s.now.place (typed c.in-IfElse.test) (statement c.in-IfElse.body) (statement c.in-IfElse.other) =
    search rules in
    if_made c.lower_if_else.result (λ strip h. as_statement is h) c.lower_if_else.ensures

pub lower_if-returns : goal.lower_if-returns
lower_if-returns t c = made.if c.in_ok-end.ensures c.in_ok-one.ensures c.in_ok-made.ensures

pub lower_if_else-returns : goal.lower_if_else-returns
lower_if_else-returns t c = made.if_else c.in_ok-end.ensures c.in_ok-other.ensures c.in_ok-one.ensures c.in_ok-made.ensures

pub lower_statement-returns-in-While : goal.lower_statement-returns-in-While
lower_statement-returns-in-While t c =
    let is : statement c.args.s.now ≡ While c.args.s.now.place (typed c.in-While.test) (statement c.in-While.body) = search rules in
    if_made c.lower_while.result (λ strip h. as_statement is (h c.args.exits.out c.args.exits.again)) c.lower_while.ensures

pub lower_statement-returns-in-Do : goal.lower_statement-returns-in-Do
lower_statement-returns-in-Do t c =
    let is : statement c.args.s.now ≡ Do c.args.s.now.place (statement c.in-Do.body) (typed c.in-Do.test) = search rules in
    if_made c.lower_do.result (λ strip h. as_statement is (h c.args.exits.out c.args.exits.again)) c.lower_do.ensures

pub lower_statement-lower_for-requires : goal.lower_statement-lower_for-requires
lower_statement-lower_for-requires t c =
    let deeper = size_is-Stmt c.args.s.now in
    let parts = ap size-StmtKind (sym c.deref.ensures ∙ c.in-For.is) ∙ sized-For c.in-For.first c.in-For.test c.in-For.last c.in-For.body in
    (grind arith, c.requires)

pub lower_statement-returns-in-For : goal.lower_statement-returns-in-For
lower_statement-returns-in-For t c =
    let s = c.args.s.now in
    let first = statement_list c.deref-in-For.result.now in
    let test = some_typed c.in-For.test in
    let last = some_typed c.in-For.last in
    let is : statement s ≡ For s.place first test last (statement c.in-For.body) =
    for_is s c.in-For.first c.in-For.test c.in-For.last c.in-For.body (sym c.deref.ensures ∙ c.in-For.is)
    ∙ ap (λ l. For s.place (statement_list l) test last (statement c.in-For.body)) (sym c.deref-in-For.ensures.value) in
    if_made c.lower_for.result (λ strip h. as_statement is (h c.args.exits.out)) c.lower_for.ensures

pub lower_statement-returns-in-Switch : goal.lower_statement-returns-in-Switch
lower_statement-returns-in-Switch t c =
    let statements = c.in-Switch.list.items in
    let is : statement c.args.s.now ≡ Switch c.args.s.now.place (typed c.in-Switch.value) c.deref-in-Switch-2.result.now
    (statement_list c.deref-in-Switch.result.now) =
    switch_is c.args.s.now c.in-Switch.value c.in-Switch.cases c.in-Switch.list (sym c.deref.ensures ∙ c.in-Switch.is)
    ∙ (ap (λ l. Switch c.args.s.now.place (typed c.in-Switch.value) l (statement_list statements)) (sym c.deref-in-Switch-2.ensures.value)
    ∙ ap (λ l. Switch c.args.s.now.place (typed c.in-Switch.value) c.deref-in-Switch-2.result.now (statement_list l))
    (sym c.deref-in-Switch.ensures.value)) in
    if_made c.lower_switch.result (λ strip h. as_statement is (h c.args.exits.out)) c.lower_switch.ensures

pub lower_statement-returns-in-Goto : goal.lower_statement-returns-in-Goto
lower_statement-returns-in-Goto t c =
    let is : statement c.args.s.now ≡ Goto c.args.s.now.place c.in-Goto.label = ap (statement_at c.args.s.now.place) (sym c.deref.ensures ∙ c.in-Goto.is) in
    if_made c.lower_goto.result (λ strip h. as_statement is (h c.args.s.now.place c.args.exits.out c.args.exits.again)) c.lower_goto.ensures

pub lower_statement-returns-in-Label : goal.lower_statement-returns-in-Label
lower_statement-returns-in-Label t c =
    let is : statement c.args.s.now ≡ Label c.args.s.now.place c.in-Label.field-0 (statement c.in-Label.body) = search rules in
    if_made c.lower_label.result (λ strip h. as_statement is (h c.in-Label.field-0)) c.lower_label.ensures

pub lower_statement-returns-in-Break : goal.lower_statement-returns-in-Break
lower_statement-returns-in-Break t c =
    let is : statement c.args.s.now ≡ Break c.args.s.now.place = ap (statement_at c.args.s.now.place) (sym c.deref.ensures ∙ c.in-Break.is) in
    if_made c.lower_jump.result (λ strip h. as_statement is (leave.break h)) c.lower_jump.ensures

pub lower_statement-returns-in-Continue : goal.lower_statement-returns-in-Continue
lower_statement-returns-in-Continue t c =
    let is : statement c.args.s.now ≡ Continue c.args.s.now.place = ap (statement_at c.args.s.now.place) (sym c.deref.ensures ∙ c.in-Continue.is) in
    if_made c.lower_jump-in-Continue.result (λ strip h. as_statement is (leave.continue h)) c.lower_jump-in-Continue.ensures

pub lower_statement-returns-in_ok-keep-in-Return : goal.lower_statement-returns-in_ok-keep-in-Return
lower_statement-returns-in_ok-keep-in-Return t c =
    let is : statement c.args.s.now ≡ Return c.args.s.now.place (option_map typed (option_copied c.as_ref-in-Return.result)) =
    ap (statement_at c.args.s.now.place) (sym c.deref.ensures ∙ c.in-Return.is)
    ∙ ap (λ o. Return c.args.s.now.place (option_map typed o)) (sym c.as_ref-in-Return.ensures.value) in
    if_made c.lower_return.result (λ strip h. as_statement is (leave.returns c.in_ok-keep-in-Return.ensures h)) c.lower_return.ensures

pub lower_all-loop-left-preserved : goal.lower_all-loop-left-preserved
lower_all-loop-left-preserved t c = record {
  within = omega arith;
  made = executes_further c.args.statements.now c.loop-left.left c.index-statements-left.result (omega arith) c.loop-left.invariant.within
      c.index-statements-left.is c.loop-left.invariant.made c.in_ok-made.ensures;
}

pub lower_all-returns : goal.lower_all-returns
lower_all-returns t c =
    let none : c.loop-left.left ≡ 0 = omega arith in
    subst (λ (k : ℕ).
    ExecutesAll (typed_program c.args.self.now.program.now) (routine c.args.self.now.function.now) (statement_list (drop k c.args.statements.now))
    c.args.exits.out c.args.exits.again (built_of c.args.graph.now) (built_of c.loop-left.graph) (point_of c.loop-left.made) (point_of c.args.following))
    none c.loop-left.invariant.made

pub lower_entries-loop-left-preserved : goal.lower_entries-loop-left-preserved
lower_entries-loop-left-preserved t c =
    let more = ap reverse c.in_ok-push.ensures.items ∙ reverse-append c.loop-left.entries.items (c.in_ok-next.next ∷ []) in
    record {
      within = omega arith;
      next = sym (ap (λ l. block_at l c.args.end 0) more);
      made = enters_further c.args.statements.now c.loop-left.left c.index-statements-left.result (omega arith) c.loop-left.invariant.within
          c.index-statements-left.is c.loop-left.invariant.next more c.loop-left.invariant.made c.in_ok-next.ensures;
    }

pub lower_entries-returns : goal.lower_entries-returns
lower_entries-returns t c =
    let none : c.loop-left.left ≡ 0 = omega arith in
    let Enters : ℕ → List ℕ → Type 0 = λ k l.
    EntersAll (typed_program c.args.self.now.program.now) (routine c.args.self.now.function.now) (statement_list (drop k c.args.statements.now))
    c.args.exits.out c.args.exits.again (built_of c.args.graph.now) (built_of c.loop-left.graph) l c.args.end in
    subst (λ l. Enters 0 l) (sym c.reverse.ensures.items) (subst (λ (k : ℕ). Enters k (reverse c.loop-left.entries.items)) none c.loop-left.invariant.made)

pub lower_way_out-returns : goal.lower_way_out-returns
lower_way_out-returns t c = executes_in c.jump.ensures c.in_ok-made.ensures c.in_ok-block.ensures

pub lower_label-returns : goal.lower_label-returns
lower_label-returns t c = λ label.
    made.label {counted_point = c.in_ok-counted_point.counted_point} {inner = c.in_ok-inner.inner} {old = built_of c.args.graph.now}
    c.in_ok-counted_point.ensures c.in_ok-inner.ensures c.in_ok-made.ensures c.in_ok-seal_counted_point.ensures c.jump.ensures

pub lower_switch-returns : goal.lower_switch-returns
lower_switch-returns t c = λ out.
    let Entered : List ℕ → Type 0 = λ l.
    EntersAll (typed_program c.args.self.now.program.now) (routine c.args.self.now.function.now) (statement_list c.args.statements.now) c.in_ok-end.end
    c.args.around (built_of c.seal.new.self) (built_of c.lower_entries.new.graph) l c.in_ok-end.end in
    let entered = subst (λ l. Entered l) (sym c.deref.ensures.value) c.in_ok-entries.ensures in
    switch_made c.in_ok-end.ensures entered c.in_ok-made.ensures

pub lower_while-returns : goal.lower_while-returns
lower_while-returns t c = λ out again.
    while_made {head = c.in_ok-head.head} {old = built_of c.args.graph.now} c.in_ok-head.ensures c.in_ok-inner.ensures c.in_ok-end.ensures c.in_ok-one.ensures
    c.in_ok-turned.ensures c.in_ok-seal_counted_point.ensures c.jump.ensures

pub lower_do-returns : goal.lower_do-returns
lower_do-returns t c = λ out again.
    do_made {head = c.in_ok-start.start} {old = built_of c.args.graph.now} c.in_ok-start.ensures c.in_ok-inner.ensures c.in_ok-end.ensures
    c.in_ok-tested.ensures c.in_ok-again.ensures c.jump.ensures c.in_ok-turned.ensures c.in_ok-seal_counted_point.ensures c.jump-2.ensures

pub lower_for-returns : goal.lower_for-returns
lower_for-returns t c = λ out.
    let place = c.args.place in
    let first = statement_list c.args.first.now in
    let test = option_map typed (option_copied c.as_ref-test.result) in
    let body = statement c.args.body.now in
    let is : For place first (some_typed c.args.test.now) (some_typed c.args.last.now) body
    ≡ For place first test (option_map typed (option_copied c.as_ref-last.result)) body =
    ap (λ o. For place first (option_map typed o) (some_typed c.args.last.now) body) (sym c.as_ref-test.ensures.value)
    ∙ ap (λ o. For place first test (option_map typed o) body) (sym c.as_ref-last.ensures.value) in
    as_statement is
    (for_made
    (for_turned {counted = c.in_ok-before.before} {inside = c.in_ok-inside.inside} {inner = c.in_ok-inner.inner} {head = c.in_ok-head.head} {old =
    built_of c.args.graph.now}
    c.in_ok-head.ensures c.in_ok-inner.ensures c.in_ok-before.ensures c.in_ok-inside.ensures c.in_ok-end.ensures c.in_ok-turn.ensures c.jump.ensures
    c.in_ok-made.ensures c.in_ok-strip.ensures)
    c.jump-2.ensures c.in_ok-entry.ensures c.in_ok-seal_counted_point.ensures)

pub lower_all-loop-left-init : goal.lower_all-loop-left-init
lower_all-loop-left-init t c = record {
  within = omega arith;
  made =
      subst (λ l.
      ExecutesAll (typed_program c.args.self.now.program.now) (routine c.args.self.now.function.now) (statement_list l) c.args.exits.out c.args.exits.again
      (built_of c.args.graph.now) (built_of c.args.graph.now) (point_of c.args.following) (point_of c.args.following))
      (sym (dropped c.args.statements.now (length c.args.statements.now) (omega arith)))
      (executes_none c.args.exits.out c.args.exits.again (built_of c.args.graph.now) (point_of c.args.following));
}

pub lower_entries-loop-left-init : goal.lower_entries-loop-left-init
lower_entries-loop-left-init t c =
    let none = ap reverse c.new-entries.ensures.items in
    let Enters : List Stmt → List ℕ → Type 0 = λ l blocks.
    EntersAll (typed_program c.args.self.now.program.now) (routine c.args.self.now.function.now) (statement_list l) c.args.exits.out c.args.exits.again
    (built_of c.args.graph.now) (built_of c.args.graph.now) blocks c.args.end in
    record {
      within = omega arith;
      next = sym (ap (λ l. block_at l c.args.end 0) none);
      made = subst (λ l. Enters l (reverse c.new-entries.result.items)) (sym (dropped c.args.statements.now (length c.args.statements.now) (omega arith)))
          (subst (λ b. Enters [] b) (sym none) (enters_none c.args.exits.out c.args.exits.again (built_of c.args.graph.now) c.args.end));
    }
