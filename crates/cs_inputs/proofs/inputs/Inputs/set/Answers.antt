use Rattle.std.proofs.Common.{◌≡◌, ap, ◌∙◌}
use Rattle.std.specs.Prelude.{FitsSigned, OnOk}
use Rattle.std.specs.Int.{w128}
use Rattle.std.specs.BTreeMap.{insert_entry}
use Rattle.std.proofs.lemmas.Int.{to_z-of_z}
use Rattle.cs_inputs.specs.PathOrder.{path_order}
use Rattle.cs_inputs.specs.Inputs.{number_at}
use Rattle.cs_inputs.proofs.InputNumbers.{in_order_either, then_OnOk, number_at-here, number_at-elsewhere}
use Rattle.cs_inputs.proofs.inputs.Inputs.set.Goals as goal

-- the entries after `put`
changed : (c : goal.After-put) → OnOk c.put.result (c.put.new.entries.items ≡ insert_entry path_order c.self.inside.entries.items c.args.path c.args.number)
changed c =
    let fits : FitsSigned w128 c.args.number = c.ranges.number in
    simp to_z-of_z at c.put.ensures.ok

pub invariant_of-self : goal.invariant_of-self
invariant_of-self c = in_order_either c.put.result c.self.inside.entries.items c.put.new.entries.items c.args.path c.args.number c.self.invariant (changed c)
    c.put.ensures.err

pub returns-clause-here : goal.returns-clause-here
returns-clause-here c = then_OnOk c.put.result (changed c) (λ e.
    ap (λ entries. number_at entries c.args.path) e ∙ number_at-here c.self.inside.entries.items c.args.path c.args.number)

pub returns-clause-elsewhere : goal.returns-clause-elsewhere
returns-clause-elsewhere c =
    then_OnOk c.put.result (changed c)
    (λ e q n. ap (λ entries. number_at entries q) e ∙ number_at-elsewhere c.self.inside.entries.items c.args.path c.args.number q n
    ∙ ap (λ entries. number_at entries q) c.self.view_is)
