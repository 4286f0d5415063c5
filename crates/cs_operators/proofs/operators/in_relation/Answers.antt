use Rattle.std.proofs.Common.{◌≡◌, false, ◌&&◌, ◌∙◌}
use Rattle.cs_operators.proofs.Relations.{is_null, some_first, some_second, related_apart}
use Rattle.cs_operators.proofs.operators.in_relation.Goals as goal
use Rattle.cs_operators.proofs.operators.in_relation.Goals.{in_default-via-in-Null+in_default, in_default-via-in_default}

pub returns-in_default : goal.returns-in_default
returns-in_default c = λ bases v one other once left_named right_named left right.
    let apart : (is_null c.args.left && is_null c.args.right) ≡ false =
    elim c.in_default.branch [
      | in_default-via-in-Null+in_default w ↦ some_second c.args.left c.args.right w.in_default.not-Null-1
      | in_default-via-in_default w ↦ some_first c.args.left c.args.right w.in_default.not-Null-0
    ] in
    related_apart bases v c.args.left c.args.right one other left_named right_named left right apart
    ∙ c.in_one_object.ensures bases v one other once left_named right_named left right
