use Rattle.std.proofs.Common.{rules}
use Rattle.cs_objects.specs.BlockView.{block_of}
use Rattle.cs_memory.proofs.Starts.{start_there, start_added}
use Rattle.cs_memory.proofs.memory.add_if_new.Goals as goal

pub returns-then-contains_key : goal.returns-then-contains_key
returns-then-contains_key c =
    start_there _ c.args.starts.now c.args.path (block_of c.args.block) (λ q. search rules) (rw c.if-contains_key.true at c.contains_key.ensures)

pub returns-in-Ok : goal.returns-in-Ok
returns-in-Ok c =
    start_added _ _ c.args.starts.now c.insert.new.self c.args.path c.args.block (λ p q. search rules) (λ q. search rules)
    (rw c.if-contains_key.false at c.contains_key.ensures) c.in-Ok.ensures.updates
