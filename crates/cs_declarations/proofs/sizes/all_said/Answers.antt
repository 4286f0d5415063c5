use Rattle.std.proofs.Common.{◌≡◌, ◌+◌, ◌∷◌, ◌++◌, [], rules, FitsSigned, sym, ap, ◌∙◌}
use Rattle.std.specs.Prelude.{drop}
use Rattle.std.specs.Int.{w128}
use Rattle.std.proofs.lemmas.Int.{to_z-of_z}
use Rattle.std.proofs.lemmas.List.{drop_all}
use Rattle.cs_declarations.specs.Sizes.{all_said}
use Rattle.cs_declarations.proofs.SaidSoFar.{following, following-none, following-all, number_taken, number_missing}
use Rattle.cs_declarations.proofs.sizes.all_said.Goals as goal

pub loop-size-init : goal.loop-size-init
loop-size-init c =
    let said = all_said c.args.place c.args.sizes.now in
    following-none said ∙ ap (λ items. following items said) (sym c.new-numbers.ensures.items)

pub returns-in-None : goal.returns-in-None
returns-in-None c = number_missing c.args.place c.args.sizes.now c.loop-size.size-index c.loop-size.numbers.items c.loop-size-test.true c.loop-size.invariant
    c.in-None.is

pub loop-size-preserved : goal.loop-size-preserved
loop-size-preserved c =
    let rest = all_said c.args.place (drop (c.loop-size.size-index + 1) c.args.sizes.now) in
    let fits : FitsSigned w128 c.in-Some.number = search rules in
    let pushed : c.push.new.self.items ≡ c.loop-size.numbers.items ++ c.in-Some.number ∷ [] = simp to_z-of_z at c.in_ok-push-in-Some.ensures.items in
    number_taken c.args.place c.args.sizes.now c.loop-size.size-index c.loop-size.numbers.items c.loop-size-test.true c.loop-size.invariant c.in-Some.number
    c.in-Some.is
    ∙ ap (λ items. following items rest) (sym pushed)

pub returns : goal.returns
returns c = c.loop-size.invariant
    ∙ ap (λ sizes. following c.loop-size.numbers.items (all_said c.args.place sizes))
    (drop_all c.loop-size.size-index c.args.sizes.now c.loop-size-test.false) ∙ following-all c.loop-size.numbers.items
