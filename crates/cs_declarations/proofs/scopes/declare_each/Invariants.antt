use Rattle.std.proofs.Common.{◌≡◌, ◌++◌, map, reverse}
use Rattle.std.specs.Prelude.{vec_len}
use Rattle.cs_scopes.specs.Meanings.{declaration_of}
use Rattle.cs_declarations.proofs.scopes.declare_each.Given as goal

abbrev pub invariant-loop-declaration : goal.invariant-loop-declaration
invariant-loop-declaration l = l.declarations ++ map declaration_of (reverse l.list.items)
    ≡ l.initial.declarations ++ map declaration_of (reverse l.initial.list.items)

abbrev pub decreases-loop-declaration : goal.decreases-loop-declaration
decreases-loop-declaration l = vec_len l.list
