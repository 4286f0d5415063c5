use Rattle.std.proofs.Common.{◌≡◌, ◌<◌, length, ap, sym, ◌∙◌, rules, get_or}
use Rattle.std.specs.Prelude.{ℤ, pos, Option, unwrap_or, FitsSigned}
use Rattle.std.specs.Int.{w128}
use Rattle.std.specs.List.Sorted.{IsPartitionPoint}
use Rattle.std.specs.declared.cmp.Ordering.TheVariants.{Less, Equal, Greater}
use Rattle.std.proofs.lemmas.Int.{to_z-of_z}
use Rattle.cs_inputs.specs.declared.path.Path.{Path}
use Rattle.cs_inputs.specs.PathOrder.{path_order}
use Rattle.cs_inputs.specs.Inputs.{number_at}
use Rattle.cs_inputs.proofs.PathOrderLaws.{path_order-total}
use Rattle.cs_inputs.proofs.SortedEntries.{lookup_found, lookup_missed}
use Rattle.cs_inputs.proofs.inputs.Inputs.get.Goals as goal

pub returns-in-Ok : goal.returns-in-Ok
returns-in-Ok c =
    let entries = c.self.inside.entries.items in
    let read = c.index.result.now in
    let here : path_order (get_or entries c.in-Ok.at read).0 c.args.path.now ≡ Equal = rw c.as_slice.ensures.value at (c.in-Ok.ensures.place read) in
    let within : c.in-Ok.at < length entries = rw c.as_slice.ensures.value at c.in-Ok.ensures.within in
    let fits : FitsSigned w128 read.1 = search rules in
    let found = lookup_found path_order-total entries c.args.path.now c.in-Ok.at read c.self.invariant within here in
    to_z-of_z w128 read.1 fits ∙ ap (λ (e : Path × ℤ). e.1) c.index.ensures ∙ sym (ap (λ (o : Option ℤ). unwrap_or o (pos 0)) found)
    ∙ ap (λ es. number_at es c.args.path.now) c.self.view_is

pub returns-in-Err : goal.returns-in-Err
returns-in-Err c =
    let entries = c.self.inside.entries.items in
    let gap : IsPartitionPoint (λ (e : Path × ℤ). path_order e.0 c.args.path.now ≡ Less) (λ (e : Path × ℤ).
    path_order e.0 c.args.path.now ≡ Greater) entries c.in-Err.field-0 = rw c.as_slice.ensures.value at c.in-Err.ensures.place in
    sym (ap (λ (o : Option ℤ). unwrap_or o (pos 0)) (lookup_missed path_order-total entries c.args.path.now c.in-Err.field-0 gap))
    ∙ ap (λ es. number_at es c.args.path.now) c.self.view_is
