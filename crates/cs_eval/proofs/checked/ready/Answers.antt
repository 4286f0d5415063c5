use Rattle.cs_eval.proofs.CheckedTerms.{integer_values, prepared_several}
use Rattle.cs_eval.proofs.checked.ready.Goals as goal

pub prepared-operand-requires-clause-values : goal.prepared-operand-requires-clause-values
prepared-operand-requires-clause-values c = integer_values c.args.constraints.now c.args.term c.in_ok-check_integers.ensures.integers

pub returns : goal.returns
returns c = record {
  ready = record {
    prepared = c.prepared-operand.ensures.prepared c.in_ok-check_integers.ensures.integers;
    integers = c.in_ok-check_integers-2.ensures.integers;
    several = prepared_several c.args.constraints.now c.args.term c.prepared-operand.result c.prepared-operand.ensures.constant
        c.prepared-operand.ensures.function;
  };
  form = record {
    declared = c.in_ok-check_integers.ensures.integers.declared;
    value = c.prepared-operand.ensures.value;
    constant = c.prepared-operand.ensures.constant;
    function = c.prepared-operand.ensures.function;
  };
}
