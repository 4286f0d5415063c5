use Rattle.std.proofs.Common.{◌≡◌, take}
use Rattle.std.specs.Prelude.{vec_len}
use Rattle.cs_scopes.specs.Entries.{Indexed}
use Rattle.cs_scopes.proofs.entries.drop_after.Given as goal

abbrev pub invariant-loop-list : goal.invariant-loop-list
invariant-loop-list l = record {
  indexed : Indexed l.places l.list.items;
  left : take l.outer l.list.items ≡ take l.outer l.initial.list.items;
}

abbrev pub decreases-loop-list : goal.decreases-loop-list
decreases-loop-list l = vec_len l.list
