use Rattle.std.proofs.Common.{◌≡◌, ℤ, List, ap, ◌∙◌, subst}
use Rattle.std.specs.Prelude.{All, IfOk, IfNone}
use Rattle.cs_inputs.specs.declared.path.Path.{Path}
use Rattle.cs_findings.specs.Neighbours.{neighbours}
use Rattle.cs_witness.specs.Witnesses.{IsElsewhereOf}
use Rattle.cs_witness.proofs.neighbours.confirmed.Goals as goal

pub returns-clause-elsewhere : goal.returns-clause-elsewhere
returns-clause-elsewhere c =
    let entry = c.args.entry.now in
    let tried : c.as_slice-2.result.now ≡ neighbours entry.program.now.constants.items c.args.inputs.now =
    c.as_slice-2.ensures.value ∙ c.in_ok-tries.ensures ∙ ap (λ (l : List ℤ). neighbours l c.args.inputs.now) c.as_slice.ensures.value in
    subst (λ (l : List (List (Path × ℤ))). IfOk c.first_plain.result (λ found. IfNone found (All (IsElsewhereOf entry c.args.what) l))) tried
    c.first_plain.ensures.elsewhere
