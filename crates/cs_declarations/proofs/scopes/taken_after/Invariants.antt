use Rattle.std.proofs.Common.{◌≡◌, ◌++◌, map, take, reverse, length}
use Rattle.cs_scopes.specs.Meanings.{declaration_of}
use Rattle.cs_declarations.proofs.scopes.taken_after.Given as goal

abbrev pub invariant-loop-declarations : goal.invariant-loop-declarations
invariant-loop-declarations l = record {
  left : take l.outer l.declarations ≡ take l.outer l.initial.declarations;
  all : l.declarations ++ map declaration_of (reverse l.list.items) ≡ l.initial.declarations;
}

abbrev pub decreases-loop-declarations : goal.decreases-loop-declarations
decreases-loop-declarations l = length l.declarations
