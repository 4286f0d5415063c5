use Rattle.std.proofs.Common.{refl, sym, ◌∙◌}
use Rattle.cs_inputs.proofs.PathOrderLaws.{path_order-tie}
use Rattle.cs_witness.proofs.Keys.{same_order}
use Rattle.cs_witness.proofs.listing.same_path.Goals as goal

pub returns-in-Equal : goal.returns-in-Equal
returns-in-Equal c = ((λ passes. path_order-tie c.args.one.now c.args.other.now (sym c.order.ensures ∙ c.in-Equal.is)), (λ same. refl))

pub returns-in-Less : goal.returns-in-Less
returns-in-Less c = (
  (λ no. absurd (cc)),
  (λ same.
      let tied = same_order c.args.one.now c.args.other.now same in
      let less = sym c.order.ensures ∙ c.in-Less.is in
      absurd (cc)),
)

pub returns-in-Greater : goal.returns-in-Greater
returns-in-Greater c = (
  (λ no. absurd (cc)),
  (λ same.
      let tied = same_order c.args.one.now c.args.other.now same in
      let greater = sym c.order.ensures ∙ c.in-Greater.is in
      absurd (cc)),
)
