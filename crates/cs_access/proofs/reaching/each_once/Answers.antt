use Rattle.std.proofs.Common.{[], inl, inr, sym, ◌∙◌, refl, subst, arith, rules}
use Rattle.std.proofs.lemmas.Int.{ints}
use Rattle.cs_access.specs.Numbers.{HasEach}
use Rattle.cs_access.proofs.Ascending.{IsPushed, each_once_are, pushed_as}
use Rattle.cs_access.proofs.reaching.each_once.Goals.{then-first-second+in_ok-push, else-first-second, then-second-third+in_ok-push-2, else-second-third}
use Rattle.cs_access.proofs.reaching.each_once.Goals as goal

pub returns : goal.returns
returns c =
    let one : IsPushed c.args.first c.args.second [] c.if-first-second.numbers.items = elim c.if-first-second.branch [
      | then-first-second+in_ok-push w ↦ inl (
        omega (arith, ints),
        (λ j. (w.numbers-is j).items)
            ∙ pushed_as [] c.new-numbers.result.items _ _ c.args.first c.new-numbers.ensures.items w.in_ok-push.ensures.items (search rules),
      )
      | else-first-second w ↦ inr (omega (arith, ints), (λ j. (w.numbers-is j).items) ∙ c.new-numbers.ensures.items)
    ] in
    let two : IsPushed c.args.second c.args.third c.if-first-second.numbers.items c.if-second-third.numbers.items = elim c.if-second-third.branch [
      | then-second-third+in_ok-push-2 w ↦ inl (
        omega (arith, ints),
        (λ j. (w.numbers-is j).items)
            ∙ pushed_as c.if-first-second.numbers.items _ _ _ c.args.second refl w.in_ok-push-2.ensures.items (search rules),
      )
      | else-second-third w ↦ inr (omega (arith, ints), λ j. (w.numbers-is j).items)
    ] in
    subst (HasEach c.args.first c.args.second c.args.third)
    (sym (pushed_as c.if-second-third.numbers.items _ c.push-2.new.self.items _ c.args.third refl c.in_ok-push-3.ensures.items (search rules)))
    (each_once_are c.args.first c.args.second c.args.third c.if-first-second.numbers.items c.if-second-third.numbers.items c.requires.second
    c.requires.third one two)
