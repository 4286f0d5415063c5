use Rattle.std.proofs.Common.{◌≡◌, ℕ, suc, ◌+◌, List, ◌++◌, ap, sym, ◌∙◌, arith}
use Rattle.std.specs.List.{flat_map, range_with_len}
use Rattle.cs_generate.specs.GeneratedFile.{line_of, generated_file}
use Rattle.cs_generate.proofs.Ranges.{one_more}
use Rattle.cs_generate.proofs.file.generate_text.Goals as goal

pub loop-number-preserved : goal.loop-number-preserved
loop-number-preserved c =
    let next : suc c.loop-number.number ≡ c.loop-number.number + 1 = omega arith in
    c.in_ok-append_line.ensures ∙ ap (λ (t : List ℕ). t ++ line_of c.args.seed c.loop-number.number) c.loop-number.invariant
    ∙ sym (one_more (line_of c.args.seed) c.loop-number.number) ∙ ap (generated_file c.args.seed) next
