use Rattle.std.proofs.Common.{rules}
use Rattle.cs_memory.proofs.Rows.{frame_added}
use Rattle.cs_memory.proofs.memory.Memory.add_frame.Goals as goal

pub returns-clause-memory : goal.returns-clause-memory
returns-clause-memory c = frame_added c.args.self.now c.push.new.self c.args.locals (search rules)
