use Rattle.std.proofs.Common.{refl, sym, ◌∙◌, subst}
use Rattle.cs_graph.specs.Adding.{IsUnseen, IsSeenAt}
use Rattle.cs_graph.proofs.Sounds.{none_passes, seen}
use Rattle.cs_graph.proofs.graph.Graph.add.Goals as goal

pub add_new-requires : goal.add_new-requires
add_new-requires g c =
    subst (λ now. IsUnseen g.K.PartialEq.eq c.args.key now.keys) c.self.view_is
    (none_passes (g.K.PartialEq.eq c.args.key) c.self.inside.keys.entries (sym c.number_of.ensures ∙ c.in-None.is))

pub returns-in-Some-clause-added : goal.returns-in-Some-clause-added
returns-in-Some-clause-added g c = (
  subst (λ now. IsSeenAt g.K.PartialEq.eq c.args.key c.in-Some.number now.keys) c.self.view_is
      (seen g.K.PartialEq.eq c.args.key c.self.inside.keys.entries c.self.inside.rows.items c.self.inside.work c.self.inside.nodes c.in-Some.number
      c.self.invariant (sym c.number_of.ensures ∙ c.in-Some.is)),
  refl,
)

pub returns-in_ok-add_new-in-None-clause-added : goal.returns-in_ok-add_new-in-None-clause-added
returns-in_ok-add_new-in-None-clause-added g c = (
  subst (λ now. IsUnseen g.K.PartialEq.eq c.args.key now.keys) c.self.view_is
      (none_passes (g.K.PartialEq.eq c.args.key) c.self.inside.keys.entries (sym c.number_of.ensures ∙ c.in-None.is)),
  c.in_ok-add_new-in-None.ensures.below_limit,
  c.in_ok-add_new-in-None.ensures.new,
)
