use Rattle.std.proofs.Common.{ap, ◌∙◌}
use Rattle.std.proofs.lemmas.Result.{on_ok_weaker}
use Rattle.cs_constraints.specs.Constraints.{set_of}
use Rattle.cs_constraints.proofs.Declared.{set_of-here, set_of-elsewhere, inhabited-after}
use Rattle.cs_constraints.proofs.constraints.Constraints.declare.Goals as goal

pub invariant_of-self : goal.invariant_of-self
invariant_of-self c =
    let inserted = rw c.in_ok-numbers.ensures at c.insert.ensures.ok in
    inhabited-after c.insert.result c.self.inside.sets c.insert.new.self c.args.sym.0 c.args.set c.self.invariant c.requires inserted
    c.insert.ensures.err

pub returns-clause-here : goal.returns-clause-here
returns-clause-here c =
    let inserted = rw c.in_ok-numbers.ensures at c.insert.ensures.ok in
    on_ok_weaker c.insert.result (λ e. rw e (set_of-here c.self.inside.sets c.args.sym.0 c.args.set)) inserted

pub returns-clause-elsewhere : goal.returns-clause-elsewhere
returns-clause-elsewhere c =
    let inserted = rw c.in_ok-numbers.ensures at c.insert.ensures.ok in
    on_ok_weaker c.insert.result
    (λ e other differ. rw e (set_of-elsewhere c.self.inside.sets c.args.sym.0 other c.args.set differ ∙ ap (λ z. set_of z other) c.self.view_is))
    inserted
