use Rattle.std.proofs.Common.{◌≡◌, [], drop}
use Rattle.std.specs.Prelude.{None}
use Rattle.cs_declarations.specs.View.{environment_of}
use Rattle.cs_file_scope.specs.Tags.{tokens_read}
use Rattle.cs_file_scope.specs.View.{tagging_of}
use Rattle.cs_file_scope.proofs.tags.declare_tags.Given as goal

abbrev pub invariant-loop-token : goal.invariant-loop-token
invariant-loop-token l =
    tokens_read l.before (drop l.token-index l.tokens) (tagging_of l.known l.enums)
    ≡ tokens_read None l.tokens (record { known = environment_of l.initial.known; enums = [] })
