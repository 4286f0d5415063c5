use Rattle.std.proofs.Common.{Result, Ok, Err, rules}
use Rattle.std.specs.Prelude.{OnOk}
use Rattle.cs_objects.specs.BlockView.{change_of}
use Rattle.cs_memory.proofs.Starts.{start_changed, start_stays}
use Rattle.cs_memory.proofs.memory.change_start.Goals as goal

-- what follows from the result of a call that succeeds
on_ok : {T E P Q : Type 0} (r : Result T E) → (P → Q) → OnOk r P → OnOk r Q
on_ok (Ok x) f p = f p
on_ok (Err e) f p = tt

pub returns-in-Some : goal.returns-in-Some
returns-in-Some c =
    on_ok c.change.result (λ same.
    start_changed _ _ _ c.args.starts.now (c.get_mut.follows.lender c.change.new.self) c.args.path.now c.in-Some.block.now c.change.new.self
    (change_of c.args.change) (λ p q. search rules) (λ q. search rules) (λ q. search rules) (c.get_mut.follows.holds c.change.new.self)
    c.in-Some.ensures.value same) c.change.ensures

pub returns-in-None : goal.returns-in-None
returns-in-None c =
    rw c.get_mut.follows.holds-at-none (start_stays _ c.args.starts.now c.args.path.now (change_of c.args.change) (λ q. search rules) c.in-None.ensures.value)
