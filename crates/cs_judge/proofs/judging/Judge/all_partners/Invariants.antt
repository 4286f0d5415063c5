use Rattle.std.proofs.Common.{◌≡◌, Some, slice_get, Vec}
use Rattle.std.specs.declared.alloc.Global.{Global}
use Rattle.cs_judge.specs.declared.pool.Partners.{Partners}
use Rattle.cs_judge.specs.declared.pool.Replay.{Replay}
use Rattle.cs_judge.specs.Partnering.{FindsRow}
use Rattle.cs_judge.proofs.Finding.{AreAt}
use Rattle.cs_judge.proofs.judging.Judge.all_partners.Given as goal

abbrev pub invariant-loop-number : goal.invariant-loop-number
invariant-loop-number l =
    AreAt (λ number (row : Vec Partners Global). (mine : Replay) → slice_get l.self.pool.now number ≡ Some mine → FindsRow l.self mine row.items)
    l.number l.all.items
