use Rattle.std.proofs.Common.{◌≡◌, ◌++◌, drop}
use Rattle.std.specs.Option.{option_or}
use Rattle.cs_declarations.specs.Sizes.{sizes_said, refused_bound}
use Rattle.cs_declarations.proofs.sizes.sizes_said.Given as goal

abbrev pub invariant-loop-bound : goal.invariant-loop-bound
invariant-loop-bound l = record {
  list : sizes_said l.context l.bounds ≡ l.list.items ++ sizes_said l.context (drop l.bound-index l.bounds);
  refused : refused_bound l.context l.bounds ≡ option_or l.refused (refused_bound l.context (drop l.bound-index l.bounds));
}
