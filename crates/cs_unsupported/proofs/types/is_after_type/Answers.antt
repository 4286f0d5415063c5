-- What holds for the tokens of the external declaration holds for all.
use Rattle.std.proofs.Common.{◌≡◌, ◌↔◌, Bool, false, IsTrue, sym, ap, ◌∙◌, subst, drop}
use Rattle.cs_grammar.specs.Text.{Kinds}
use Rattle.cs_grammar.specs.FileRefusals.{IsAfterType}
use Rattle.cs_unsupported.specs.Parentheses.{the_outside, run}
use Rattle.cs_unsupported.specs.Readings.{kinds}
use Rattle.cs_unsupported.proofs.LastParts.{kinds_sliced, front_in, count_kinds}
use Rattle.cs_unsupported.proofs.types.is_after_type.Goals as goal

pub returns : goal.returns
returns c = λ b ends.
    let names = c.args.names.now in
    let front = kinds c.args.before.now in
    let reported : c.in_ok-closes.closes ≡ run names (drop c.args.from front) the_outside false = c.in_ok-closes.ensures
    ∙ ap (λ (x : Kinds). run names x the_outside false) (kinds_sliced c.args.from c.args.before.now) in
    subst (λ (x : Bool). IsTrue x ↔ IsAfterType front) (sym reported)
    (front_in names front c.args.from (count_kinds c.args.from c.args.before.now c.requires.within) b ends)
