use Rattle.std.proofs.Common.{◌≡◌, ◌+◌, suc, Some, get_or, refl, subst, rules, arith}
use Rattle.std.specs.List.{All}
use Rattle.std.specs.BTreeMap.{get}
use Rattle.std.specs.Ordering.{nat_cmp}
use Rattle.cs_objects.proofs.Written.{one_more_found}
use Rattle.cs_objects.proofs.blocks.Block.written_cells.Goals as goal

pub loop-offset-init : goal.loop-offset-init
loop-offset-init c = record {
  cells = rw c.in_ok-cells.ensures.items refl;
  entries = λ k d below. ((c.range-entries.ensures.in_range (search rules)).0 k d below).1;
}

pub loop-offset-preserved : goal.loop-offset-preserved
loop-offset-preserved c =
    let block = c.args.self.now in
    let i = c.loop-offset.offset-index in
    let all = subst (λ es. All (λ e. get nat_cmp block.written e.0 ≡ Some e.1) es) c.in-Some.ensures.steps c.loop-offset.invariant.entries in
    let first = all 0 (c.in-Some.at.now, c.in-Some.cell.now) (omega arith) in
    let place : c.args.from + get_or c.args.offsets.now i 0 ≡ c.in-Some.at.now = search rules in
    record {
      cells = one_more_found block c.args.from c.args.offsets.now i c.in-Some.at.now c.in-Some.cell.now c.in_ok-copy.field-0 c.loop-offset.cells.items
          c.push.new.self.items c.loop-offset-test.true place first c.in_ok-copy.ensures c.in_ok-push.ensures.items c.loop-offset.invariant.cells;
      entries = λ k d below. all (suc k) d (omega (arith, below));
    }
