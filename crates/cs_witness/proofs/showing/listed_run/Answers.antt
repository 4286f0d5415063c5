use Rattle.cs_witness.proofs.Showings.{listed_gives}
use Rattle.cs_witness.proofs.showing.listed_run.Goals as goal

pub returns-clause-listed : goal.returns-clause-listed
returns-clause-listed c =
    let entry = c.args.entry.now in
    let lists = rw c.as_slice-2.ensures.value at c.in_ok-inputs.ensures in
    let gives = rw c.as_slice.ensures.value at c.in_ok-replayed.ensures in
    record {
      gives = listed_gives entry c.args.given.now c.in_ok-inputs.inputs c.args.guesses.items c.in_ok-replayed.replayed gives lists;
      in_order = lists.in_order;
      listed = lists.listed;
    }
