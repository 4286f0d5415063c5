use Rattle.std.proofs.Common.{ap, cond, ◌∙◌}
use Rattle.std.specs.Prelude.{Some}
use Rattle.cs_constraints.specs.Constraints.{set_of}
use Rattle.cs_constraints.specs.Sets.{has_sym}
use Rattle.cs_constraints.proofs.Declared.{set_of-keyed, inhabited-keyed}
use Rattle.cs_constraints.proofs.constraints.Constraints.declare_all.Goals as goal

pub returns-clause-sets : goal.returns-clause-sets
returns-clause-sets c =
    rw (c.in_ok-insert_all.ensures.ok, c.deref.ensures.value, c.in_ok-entries.ensures) (λ s.
    set_of-keyed c.args.syms.now c.args.set.now c.self.inside.sets s
    ∙ ap (λ z. cond (has_sym c.args.syms.now s) (Some c.args.set.now) (set_of z s)) c.self.view_is)

pub invariant_of-self-2 : goal.invariant_of-self-2
invariant_of-self-2 c =
    inhabited-keyed c.args.syms.now c.args.set.now c.self.inside.sets (c.deref.ensures.value ∙ c.in_ok-entries.ensures) c.in_ok-insert_all.ensures.ok
    c.self.invariant c.requires
