use Rattle.std.proofs.Common.{◌≡◌, drop}
use Rattle.cs_declarations.specs.Bodies.{constants_declared}
use Rattle.cs_declarations.specs.View.{counting}
use Rattle.cs_declarations.proofs.enums.declare_constants.Given as goal

abbrev pub invariant-loop-constant : goal.invariant-loop-constant
invariant-loop-constant l = record {
  reported : constants_declared l.constants (counting l.initial.next l.initial.known)
      ≡ constants_declared (drop l.constant-index l.constants) (counting l.next l.known);
  tags : l.known.context.scope.tags ≡ l.initial.known.context.scope.tags;
  reading : l.known.reading.items ≡ l.initial.known.reading.items;
}
