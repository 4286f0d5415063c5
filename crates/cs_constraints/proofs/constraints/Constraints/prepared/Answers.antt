use Rattle.cs_constraints.proofs.PreparedTerms.{value_kept, none_prepared, over_prepared, prepared_add, prepared_scale}
use Rattle.cs_constraints.proofs.constraints.Constraints.prepared.Goals as goal

pub prepared_over-requires-clause-values : goal.prepared_over-requires-clause-values
prepared_over-requires-clause-values c =
    let own = c.in-Some.ensures.0 in
    c.requires.values own.sym c.in-Some.range.now own.symbol_is own.set_is

pub returns-in-Some-clause-value : goal.returns-in-Some-clause-value
returns-in-Some-clause-value c = λ v. value_kept _ c.args.term _ _ v c.in-Some.ensures.0 c.prepared_over.ensures

pub returns-in-Some-clause-prepared : goal.returns-in-Some-clause-prepared
returns-in-Some-clause-prepared c = λ i. over_prepared _ c.args.term _ _ c.requires.term c.in-Some.ensures.0 i c.prepared_over.ensures

pub returns-in-Some-clause-adds : goal.returns-in-Some-clause-adds
returns-in-Some-clause-adds c =
    λ i other h. prepared_add _ _ other (over_prepared _ c.args.term _ _ c.requires.term c.in-Some.ensures.0 i c.prepared_over.ensures) h

pub returns-in-Some-clause-scales : goal.returns-in-Some-clause-scales
returns-in-Some-clause-scales c =
    λ i factor small.
    prepared_scale c.args.self.now _ factor (over_prepared _ c.args.term _ _ c.requires.term c.in-Some.ensures.0 i c.prepared_over.ensures) small

pub returns-in-None-clause-prepared : goal.returns-in-None-clause-prepared
returns-in-None-clause-prepared c = none_prepared c.args.self.now c.args.term c.requires.term c.in-None.ensures

pub returns-in-None-clause-adds : goal.returns-in-None-clause-adds
returns-in-None-clause-adds c =
    λ i other h. prepared_add c.args.self.now _ other (none_prepared c.args.self.now c.args.term c.requires.term c.in-None.ensures i) h

pub returns-in-None-clause-scales : goal.returns-in-None-clause-scales
returns-in-None-clause-scales c =
    λ i factor small. prepared_scale c.args.self.now _ factor (none_prepared c.args.self.now c.args.term c.requires.term c.in-None.ensures i) small
