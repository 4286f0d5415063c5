use Rattle.std.proofs.Common.{◌≡◌, drop}
use Rattle.cs_types.specs.Shape.{shape_of}
use Rattle.cs_scopes.specs.TypeNames.{starred}
use Rattle.cs_scopes.proofs.type_names.starred.Given as goal

abbrev pub invariant-loop-word : goal.invariant-loop-word
invariant-loop-word l = starred (drop l.word-index l.words) (shape_of l.ty) ≡ starred l.words (shape_of l.initial.ty)
