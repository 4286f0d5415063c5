use Rattle.std.proofs.Common.{◌≡◌, ◌-◌, ◌^◌, ◌≤◌, length, refl, sym, ◌∙◌, subst, arith}
use Rattle.cs_judge.specs.Proving.{FindAllProofs}
use Rattle.cs_witness.specs.Pooling.{HaveProofs, AreFound}
use Rattle.cs_witness.proofs.PoolLemmas.{widens_none, widens_on}
use Rattle.cs_witness.proofs.Namings.{all_found, no_wider}
use Rattle.cs_witness.proofs.pools.add_further_corners.Goals as goal

pub loop-round-init : goal.loop-round-init
loop-round-init c = record { widens = widens_none c.args.entry.now c.args.pool.now.items; none = λ have. refl }

pub loop-round-preserved : goal.loop-round-preserved
loop-round-preserved c =
    let entry = c.args.entry.now in
    let model = entry.program.now.model in
    let old = c.args.pool.now.items in
    let pool = c.loop-round.pool.items in
    let new = c.add_missing.new.pool.items in
    record {
      widens = widens_on entry old pool new c.loop-round.invariant.widens c.in_ok-add_missing.ensures.widens;
      none = λ have.
          let same = c.loop-round.invariant.none have in
          let count = c.loop-round.pool.ok.0 in
          let few : length pool ≤ 2 ^ 64 - 1 = omega (arith, c.len-before.ensures, c.len-before.type_inv) in
          let finds : FindAllProofs model pool c.in_ok-found.found.items = rw c.as_slice.ensures.value at c.in_ok-found.ensures.found in
          let all : AreFound c.in_ok-found.found.items =
          all_found model pool (subst (HaveProofs model) (sym same) have) few c.in_ok-found.found.items finds in
          c.in_ok-add_missing.ensures.none (rw c.as_slice-in-loop-round.ensures.value all) ∙ same;
    }

pub returns-then-len-before-clause-widens : goal.returns-then-len-before-clause-widens
returns-then-len-before-clause-widens c =
    widens_on c.args.entry.now c.args.pool.now.items c.loop-round.pool.items c.add_missing.new.pool.items c.loop-round.invariant.widens
    c.in_ok-add_missing.ensures.widens

pub returns-then-len-before-clause-none : goal.returns-then-len-before-clause-none
returns-then-len-before-clause-none c have =
    let pool = c.loop-round.pool in
    let new = c.add_missing.new.pool in
    let count : length new.items ≡ length pool.items =
    omega (arith, pool.ok.0, new.ok.0, c.len-before.ensures, c.len-in-loop-round.ensures, c.if-len-before.true) in
    no_wider c.args.entry.now pool.items new.items c.in_ok-add_missing.ensures.widens count ∙ c.loop-round.invariant.none have

pub returns-then-len-before-clause-found : goal.returns-then-len-before-clause-found
returns-then-len-before-clause-found c =
    let model = c.args.entry.now.program.now.model in
    let pool = c.loop-round.pool in
    let new = c.add_missing.new.pool in
    let rows = c.in_ok-found.found.items in
    let count : length new.items ≡ length pool.items =
    omega (arith, pool.ok.0, new.ok.0, c.len-before.ensures, c.len-in-loop-round.ensures, c.if-len-before.true) in
    let finds : FindAllProofs model pool.items rows = rw c.as_slice.ensures.value at c.in_ok-found.ensures.found in
    subst (λ l. FindAllProofs model l rows) (sym (no_wider c.args.entry.now pool.items new.items c.in_ok-add_missing.ensures.widens count)) finds

pub returns-clause-found : goal.returns-clause-found
returns-clause-found c = rw c.as_slice-2.ensures.value at c.partners-2.ensures.found
