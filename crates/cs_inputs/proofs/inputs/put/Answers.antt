use Rattle.std.proofs.Common.{rules, ◌≡◌, ◌<◌, ◌≤◌, length, set, get_or, ap, ◌∙◌}
use Rattle.std.specs.Prelude.{ℤ, FitsSigned}
use Rattle.std.specs.Int.{w128}
use Rattle.std.specs.List.{insert}
use Rattle.std.specs.List.Sorted.{IsPartitionPoint}
use Rattle.std.specs.declared.cmp.Ordering.TheVariants.{Less, Equal, Greater}
use Rattle.std.proofs.lemmas.Int.{to_z-of_z}
use Rattle.cs_inputs.specs.declared.path.Path.{Path}
use Rattle.cs_inputs.specs.PathOrder.{path_order}
use Rattle.cs_inputs.proofs.PathOrderLaws.{path_order-total}
use Rattle.cs_inputs.proofs.SortedEntries.{insert_found, insert_missed}
use Rattle.cs_inputs.proofs.inputs.put.Goals as goal

pub returns-in-Ok-clause-ok : goal.returns-in-Ok-clause-ok
returns-in-Ok-clause-ok c =
    let entries = c.args.entries.now.items in
    let read = c.index_mut.result.now in
    let here : path_order (get_or entries c.in-Ok.at read).0 c.args.path ≡ Equal = rw c.as_slice.ensures.value at (c.in-Ok.ensures.place read) in
    let within : c.in-Ok.at < length entries = rw c.as_slice.ensures.value at c.in-Ok.ensures.within in
    ap (λ n. set entries c.in-Ok.at (read.0, n)) (to_z-of_z w128 c.args.number c.ranges.number)
    ∙ ap (λ (e : Path × ℤ). set entries c.in-Ok.at (e.0, c.args.number)) c.index_mut.ensures.value
    ∙ insert_found path_order-total entries c.args.path c.args.number c.in-Ok.at read c.requires within here

pub returns-in_ok-insert-in-Err-clause-ok : goal.returns-in_ok-insert-in-Err-clause-ok
returns-in_ok-insert-in-Err-clause-ok c =
    let entries = c.args.entries.now.items in
    let fits : FitsSigned w128 c.args.number = c.ranges.number in
    let gap : IsPartitionPoint (λ (e : Path × ℤ). path_order e.0 c.args.path ≡ Less) (λ (e : Path × ℤ).
    path_order e.0 c.args.path ≡ Greater) entries c.in-Err.at = rw c.as_slice.ensures.value at c.in-Err.ensures.place in
    let within : c.in-Err.at ≤ length entries = rw c.as_slice.ensures.value at c.in-Err.ensures.within in
    let put : c.insert.new.self.items ≡ insert entries c.in-Err.at (c.args.path, c.args.number) = search rules in
    put ∙ insert_missed path_order-total entries c.args.path c.args.number c.in-Err.at within gap
