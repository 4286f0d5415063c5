use Rattle.std.proofs.Common.{◌≡◌, false, refl, sym, subst, length}
use Rattle.std.proofs.lemmas.Iterator.{YieldsList-from_slice, YieldsList-from_zip}
use Rattle.std.proofs.lemmas.Iterator.Consumers.{YieldsList-turn}
use Rattle.cs_judge.specs.declared.pool.Partners.{Partners}
use Rattle.cs_suspect_types.specs.declared.suspect.SuspectedGuess.{SuspectedGuess}
use Rattle.cs_witness.specs.Pooling.{IsFound}
use Rattle.cs_witness.proofs.Namings.{zipped_all}
use Rattle.cs_witness.proofs.PoolLemmas.{widens_none, widens_on}
use Rattle.cs_witness.proofs.pools.add_missing_of.Goals as goal

pub loop-guess-init : goal.loop-guess-init
loop-guess-init c = record { widens = widens_none c.args.entry.now c.args.pool.now.items; none = λ all. refl }

pub loop-guess-preserved-then-len-most : goal.loop-guess-preserved-then-len-most
loop-guess-preserved-then-len-most c = record {
  widens = widens_on c.args.entry.now c.args.pool.now.items c.loop-guess.pool.items c.add_corners_of.new.pool.items c.loop-guess.invariant.widens
      c.in_ok-add_corners_of.ensures;
  none = λ all.
      let yields = YieldsList-from_zip {s = c.into_iter-guess-iterator.result} (YieldsList-from_slice c.args.guesses.now cc)
      (YieldsList-from_slice c.args.row.now cc) in
      let turn = YieldsList-turn yields c.loop-guess.yielded c.loop-guess.guess-iterator c.loop-guess.yielded_by c.next.result c.next.new.self
      (c.in-Some.guess, c.in-Some.partners) c.in-Some.is c.next.ensures.steps in
      let there = zipped_all IsFound c.args.guesses.now c.args.row.now all (length c.loop-guess.yielded) (c.in-Some.guess.now, c.in-Some.partners.now)
      turn.0 in
      let found : IsFound c.in-Some.partners.now = subst (λ (p : SuspectedGuess × Partners). IsFound p.1) (sym turn.1) there in
      let no : c.is_missing.result ≡ false = c.is_missing.ensures found in
      absurd (cc);
}
