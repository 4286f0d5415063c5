use Rattle.std.proofs.Common.{subst}
use Rattle.cs_scopes.specs.Verdicts.{Answers}
use Rattle.cs_file_scope.specs.Objects.{Filed}
use Rattle.cs_file_scope.specs.View.{filed_of}
use Rattle.cs_typing.specs.Files.{file_typed}
use Rattle.cs_typing.proofs.file.typed_file.Goals as goal

pub returns : goal.returns
returns c =
    subst (λ (f : Filed). Answers filed_of (file_typed c.args.file.now f) c.with_externals.result) c.in_ok-filed.ensures c.with_externals.ensures
