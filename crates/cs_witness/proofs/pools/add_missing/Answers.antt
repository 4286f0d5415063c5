use Rattle.std.proofs.Common.{◌<◌, length, refl, sym, ◌∙◌, subst, arith}
use Rattle.std.specs.Prelude.{All}
use Rattle.cs_witness.specs.Pooling.{IsFound}
use Rattle.cs_witness.proofs.Namings.{there_is, row_all}
use Rattle.cs_witness.proofs.PoolLemmas.{widens_none, widens_on}
use Rattle.cs_witness.proofs.pools.add_missing.Goals as goal

pub loop-number-init : goal.loop-number-init
loop-number-init c = record { widens = widens_none c.args.entry.now c.args.pool.now.items; none = λ all. refl }

pub loop-number-preserved : goal.loop-number-preserved
loop-number-preserved c =
    let found = c.args.found.now in
    let number = c.loop-number.number in
    let within : number < length found = omega arith in
    record {
      widens = widens_on c.args.entry.now c.args.pool.now.items c.loop-number.pool.items c.add_missing_of.new.pool.items c.loop-number.invariant.widens
          c.in_ok-add_missing_of.ensures.widens;
      none = λ all.
          let row = there_is found number within in
          let same = c.row_at.ensures row.0 row.1 in
          c.in_ok-add_missing_of.ensures.none (subst (All IsFound) (sym same) (row_all found number row.0 all row.1)) ∙ c.loop-number.invariant.none all;
    }
