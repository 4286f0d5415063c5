use Rattle.std.proofs.Common.{rules, ◌≡◌, [], ◌∷◌, ◌++◌, length, arith, ap, ◌∙◌}
use Rattle.std.proofs.lemmas.Grind.{common_steps}
use Rattle.cs_statements.proofs.LabelPlaces.{numbered_push}
use Rattle.cs_statements.proofs.labels.Labels.add.Goals as goal

pub invariant_of-self-in_default : goal.invariant_of-self-in_default
invariant_of-self-in_default c =
    let labels = c.self.inside.list.items in
    let is : c.in_ok-number.number ≡ length labels = first_of (search rules, grind (arith, common_steps)) in
    numbered_push c.self.inside.numbers c.enter.new.numbers labels c.push.new.self.items c.args.name.now c.in_ok-number.number c.self.invariant is
    (c.in_ok-push.ensures.items ∙ ap (λ name. labels ++ name ∷ []) c.in_ok-copy.ensures) c.in_default.ensures.entered
