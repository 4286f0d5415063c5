use Rattle.std.proofs.Common.{◌≡◌, drop}
use Rattle.cs_file_scope.specs.View.{filed_of}
use Rattle.cs_typing.specs.Files.{file_typed}
use Rattle.cs_typing.proofs.file.with_externals.Given as goal

abbrev pub invariant-loop-external : goal.invariant-loop-external
invariant-loop-external l = file_typed l.file (filed_of l.initial.filed) ≡ file_typed (drop l.external-index l.file) (filed_of l.filed)
