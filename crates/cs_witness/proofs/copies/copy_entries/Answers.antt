use Rattle.std.proofs.Common.{◌≡◌, ◌+◌, ◌<◌, ◌≤◌, ℤ, FitsSigned, length, take, get_or, ap, ◌∙◌, arith, rules}
use Rattle.std.specs.Int.{w128}
use Rattle.std.proofs.lemmas.Int.{to_z-of_z}
use Rattle.std.proofs.lemmas.List.{take_all}
use Rattle.std.specs.BTreeMap.{insert_entry}
use Rattle.cs_inputs.specs.declared.path.Path.{Path}
use Rattle.cs_inputs.specs.PathOrder.{path_order}
use Rattle.cs_witness.proofs.Keys.{set_last}
use Rattle.cs_witness.proofs.copies.copy_entries.Goals as goal

pub loop-entry-preserved : goal.loop-entry-preserved
loop-entry-preserved c =
    let entries = c.args.entries.now in
    let i = c.loop-entry.entry-index in
    let entry = c.entry-item.result in
    let below : i < length entries = omega arith in
    let fits : FitsSigned w128 entry.1 = search rules in
    let plain = to_z-of_z w128 entry.1 fits in
    let done : insert_entry path_order (take i entries) (get_or entries i entry).0 (get_or entries i entry).1 ≡ take (i + 1) entries =
    set_last entries i entry c.requires below in
    let there : insert_entry path_order (take i entries) entry.0 entry.1 ≡ take (i + 1) entries =
    ap (λ (e : Path × ℤ). insert_entry path_order (take i entries) e.0 e.1) c.entry-item.is ∙ done in
    rw (plain, c.in_ok-path.ensures, c.loop-entry.invariant, there) at c.in_ok-set.ensures.ok

pub returns : goal.returns
returns c =
    let none : length c.args.entries.now ≤ c.loop-entry.entry-index = omega arith in
    c.loop-entry.invariant ∙ take_all c.loop-entry.entry-index c.args.entries.now none
