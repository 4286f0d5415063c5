use Rattle.std.proofs.Common.{◌∙◌, ap, cond}
use Rattle.std.specs.Prelude.{None}
use Rattle.std.specs.FinMap.{get}
use Rattle.cs_store.proofs.Regions.{same_lookup, no_lookup, found_in, absent_from}
use Rattle.cs_store.proofs.store.Store.drop_frame.Goals as goal

pub returns-clause-dropped : goal.returns-clause-dropped
returns-clause-dropped c = λ b o there.
    no_lookup _ b o (c.in_ok-self-inside.ensures.others b ∙ ap (λ t. cond t None (get c.self.inside.regions (b, 0))) (found_in c.args.bases.now b there))

pub returns-clause-others : goal.returns-clause-others
returns-clause-others c = λ b o absent.
    rw (← c.self.view_is) (same_lookup _ _ b o (c.in_ok-self-inside.ensures.others b
    ∙ ap (λ t. cond t None (get c.self.inside.regions (b, 0))) (absent_from c.args.bases.now b absent)))
