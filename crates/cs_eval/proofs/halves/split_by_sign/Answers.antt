use Rattle.std.proofs.Common.{true, false, pos}
use Rattle.cs_terms.specs.Term.{value_of}
use Rattle.cs_events.specs.Operations.{compares}
use Rattle.cs_eval.specs.Parts.{Truths}
use Rattle.cs_eval.proofs.Assumed.{half_of}
use Rattle.cs_eval.proofs.OperandValues.{value_between}
use Rattle.cs_eval.proofs.halves.split_by_sign.Goals as goal

pub returns : goal.returns
returns c =
    let sets = c.args.constraints.now in
    let term = c.args.term in
    let op = c.args.op in
    let truth : Truths = λ v. compares op (value_of v term) (pos 0) in
    record {
      holds = half_of sets term c.in_ok-sets.sets.with truth true
          (λ v fits. c.in_ok-sets.ensures.with (value_of v term) (value_between sets _ _ term v c.requires fits))
          c.in_ok-holds.holds c.in_ok-holds.ensures;
      fails = half_of sets term c.in_ok-sets.sets.without truth false
          (λ v fits. c.in_ok-sets.ensures.without (value_of v term) (value_between sets _ _ term v c.requires fits))
          c.in_ok-fails.fails c.in_ok-fails.ensures;
    }
