use Rattle.std.proofs.Common.{◌≡◌, ℕ, drop}
use Rattle.std.specs.Option.{unwrap_or}
use Rattle.cs_store.specs.Held.{held}
use Rattle.cs_store.specs.Writes.{last_decided, held_after}
use Rattle.cs_store.proofs.write.replayed.Given as goal

abbrev pub invariant-loop-write : goal.invariant-loop-write
invariant-loop-write l =
    (b o : ℕ) → unwrap_or (last_decided (drop l.write-index l.writes) b o) (held l.store b o) ≡ held_after l.writes b o
