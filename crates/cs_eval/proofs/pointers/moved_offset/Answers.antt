use Rattle.std.proofs.Common.{◌≡◌, pos, rules, to_z, of_z, Option}
use Rattle.std.specs.Int.{w128}
use Rattle.std.proofs.lemmas.Result.{IfOk-weaker}
use Rattle.cs_terms.specs.declared.term.Lin.{Lin}
use Rattle.cs_eval.proofs.Offsets.{moved_offset}
use Rattle.cs_eval.proofs.pointers.moved_offset.Goals as goal

pub returns : goal.returns
returns c =
    let factor : to_z w128 (of_z w128 c.from-factor.result) ≡ pos c.args.size = search rules in
    let scaled = c.scale-by.ensures in
    IfOk-weaker {X = Option Lin} _ _ _
    (λ (sum : Option Lin). λ h.
    moved_offset c.args.offset c.args.amount c.scale-by.result c.args.size sum c.requires.amount scaled.term (rw factor at scaled.slope) scaled.symbol
    (λ v. rw factor at (scaled.value v)) h)
    c.added.ensures
