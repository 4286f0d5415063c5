use Rattle.std.proofs.Common.{◌<◌, ◌≤◌, length, set, ◌∙◌, arith}
use Rattle.std.proofs.lemmas.List.{length-set}
use Rattle.cs_witness.proofs.Namings.{named_more, named_all}
use Rattle.cs_witness.proofs.PoolLemmas.{named_one, named_on}
use Rattle.cs_witness.proofs.pools.name_partners.Goals as goal

pub loop-number-preserved : goal.loop-number-preserved
loop-number-preserved c =
    let pool = c.loop-number.pool.items in
    let number = c.loop-number.number in
    let within : number < length pool = omega arith in
    record {
      runs = named_on c.args.pool.now.items pool (set pool number c.name.new.replay) c.loop-number.invariant.runs
          (named_one pool number c.index_mut.result.now c.name.new.replay within c.in_ok-name.ensures.same c.index_mut.ensures.value);
      count = length-set pool number c.name.new.replay ∙ c.loop-number.invariant.count;
      named = named_more c.args.found.now pool number c.name.new.replay c.row_at.result.now c.loop-number.invariant.named c.row_at.ensures
          c.in_ok-name.ensures.named;
    }

pub returns-clause-named : goal.returns-clause-named
returns-clause-named c =
    let pool = c.loop-number.pool.items in
    let none : length pool ≤ c.loop-number.number = omega arith in
    named_all c.args.found.now pool c.loop-number.number c.loop-number.invariant.named none
