-- The statements from the index on are lowered.
use Rattle.std.proofs.Common.{◌≡◌, ◌+◌, ◌*◌, ◌≤◌, max, length, drop, reverse}
use Rattle.cs_ast.specs.declared.typed.statement.Stmt.{size-Stmt}
use Rattle.cs_ast.specs.TypedProgram.{typed_program, routine}
use Rattle.cs_ast.specs.TypedView.{statement_list}
use Rattle.cs_lower.specs.Building.{point_of, built_of}
use Rattle.cs_lower.specs.Statements.{block_at, ExecutesAll, EntersAll}
use Rattle.cs_lower.proofs.context.Lowering.+statements.Given as goal

abbrev pub invariant-lower_all-loop-left : goal.invariant-lower_all-loop-left
invariant-lower_all-loop-left l = record {
  within : l.left ≤ length l.statements;
  made : ExecutesAll (typed_program l.self.program.now) (routine l.self.function.now) (statement_list (drop l.left l.statements)) l.exits.out l.exits.again
      (built_of l.initial.graph) (built_of l.graph) (point_of l.made) (point_of l.fn.following);
}

abbrev pub decreases-lower_all-loop-left : goal.decreases-lower_all-loop-left
decreases-lower_all-loop-left l = l.left

abbrev pub invariant-lower_entries-loop-left : goal.invariant-lower_entries-loop-left
invariant-lower_entries-loop-left l = record {
  within : l.left ≤ length l.statements;
  next : l.next ≡ block_at (reverse l.entries.items) l.end 0;
  made : EntersAll (typed_program l.self.program.now) (routine l.self.function.now) (statement_list (drop l.left l.statements)) l.exits.out l.exits.again
      (built_of l.initial.graph) (built_of l.graph) (reverse l.entries.items) l.end;
}

abbrev pub decreases-lower_entries-loop-left : goal.decreases-lower_entries-loop-left
decreases-lower_entries-loop-left l = l.left

-- The measures: the height of the statements, then the order of the functions for them.
abbrev pub decreases-lower_statement : goal.decreases-lower_statement
decreases-lower_statement l = 4 * size-Stmt l.s.now

abbrev pub decreases-lower_way_out : goal.decreases-lower_way_out
decreases-lower_way_out l = 4 * size-Stmt l.s.now + 1

abbrev pub decreases-lower_all : goal.decreases-lower_all
decreases-lower_all l = 4 * goal.size-lower_all l + 1

abbrev pub decreases-lower_entries : goal.decreases-lower_entries
decreases-lower_entries l = 4 * goal.size-lower_entries l + 2

abbrev pub decreases-lower_switch : goal.decreases-lower_switch
decreases-lower_switch l = 4 * goal.size-lower_switch l + 3

abbrev pub decreases-lower_label : goal.decreases-lower_label
decreases-lower_label l = 4 * size-Stmt l.body.now + 1

abbrev pub decreases-lower_if : goal.decreases-lower_if
decreases-lower_if l = 4 * size-Stmt l.body.now + 2

abbrev pub decreases-lower_if_else : goal.decreases-lower_if_else
decreases-lower_if_else l = 4 * max (size-Stmt l.body.now) (size-Stmt l.otherwise.now) + 2

abbrev pub decreases-lower_while : goal.decreases-lower_while
decreases-lower_while l = 4 * size-Stmt l.body.now + 2

abbrev pub decreases-lower_do : goal.decreases-lower_do
decreases-lower_do l = 4 * size-Stmt l.body.now + 2

abbrev pub decreases-lower_for : goal.decreases-lower_for
decreases-lower_for l = 4 * max (goal.size-lower_for l) (size-Stmt l.body.now) + 2
