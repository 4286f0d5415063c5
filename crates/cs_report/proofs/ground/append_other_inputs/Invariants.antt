-- Printed so far: the lines of the inputs before the index.
use Rattle.std.proofs.Common.{◌≡◌, ◌++◌, ℤ, take, codes}
use Rattle.std.specs.List.{flat_map}
use Rattle.std.specs.Fmt.{decimal}
use Rattle.cs_inputs.specs.declared.path.Path.{Path}
use Rattle.cs_report_parts.specs.RunLines.{input_text}
use Rattle.cs_report.proofs.ground.append_other_inputs.Given as goal

abbrev pub invariant-loop-input : goal.invariant-loop-input
invariant-loop-input l = l.text.items ≡ l.initial.text.items
    ++ flat_map (λ (input : Path × ℤ). (codes "    other " ++ decimal l.number ++ codes " " ++ input_text input) ++ codes "\n") (take l.input-index l.inputs)
