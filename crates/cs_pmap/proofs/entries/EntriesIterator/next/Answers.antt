use Rattle.std.proofs.Common.{[], ◌∷◌, ◌++◌, ap, ◌∙◌, arith, rules}
use Rattle.cs_pmap.proofs.Stack.{not_blank, popped, stepped}
use Rattle.cs_pmap.proofs.entries.EntriesIterator.next.Goals as goal

pub invariant_of-self-in_err-branch : goal.invariant_of-self-in_err-branch
invariant_of-self-in_err-branch g c =
    let items = c.in_ok-top.ensures.items ∙ ap (λ t. c.pop.new.self.items ++ t ∷ []) c.in_err-branch.was in
    absurd (not_blank _ c.self.inside.stack.items c.pop.new.self.items c.self.invariant items)

pub returns-in_err-branch-clause-steps : goal.returns-in_err-branch-clause-steps
returns-in_err-branch-clause-steps g c =
    let items = c.in_ok-top.ensures.items ∙ ap (λ t. c.pop.new.self.items ++ t ∷ []) c.in_err-branch.was in
    absurd (not_blank _ c.self.inside.stack.items c.pop.new.self.items c.self.invariant items)

pub push_left_sides-requires : goal.push_left_sides-requires
push_left_sides-requires g c =
    let items = c.in_ok-top.ensures.items ∙ ap (λ t. c.pop.new.self.items ++ t ∷ []) c.in_ok-branch.was in
    let left = popped _ _ c.self.inside.stack.items c.pop.new.self.items c.in_ok-branch.branch c.self.invariant items c.in_ok-top.ensures.capacity in
    (omega arith, (left.rest, omega (arith, left.fits, left.balanced.height)))

pub returns-clause-steps : goal.returns-clause-steps
returns-clause-steps g c =
    let items = c.in_ok-top.ensures.items ∙ ap (λ t. c.pop.new.self.items ++ t ∷ []) c.in_ok-branch.was in
    stepped c.self.inside.stack.items c.pop.new.self.items c.in_ok-branch.branch c.self.view_is items c.push_left_sides.ensures.entries

pub returns-clause-goes : goal.returns-clause-goes
returns-clause-goes g c =
    let items = c.in_ok-top.ensures.items ∙ ap (λ t. c.pop.new.self.items ++ t ∷ []) c.in_ok-branch.was in
    let step = stepped c.self.inside.stack.items c.pop.new.self.items c.in_ok-branch.branch c.self.view_is items c.push_left_sides.ensures.entries in
    search (rules, step)
