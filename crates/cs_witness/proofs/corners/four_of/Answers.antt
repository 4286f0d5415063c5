use Rattle.std.proofs.Common.{◌≡◌, [], ◌∷◌, ◌++◌, List, FitsSigned, ap, ◌∙◌, rules}
use Rattle.std.specs.Int.{w128}
use Rattle.std.proofs.lemmas.Int.{to_z-of_z}
use Rattle.cs_results.specs.declared.run.Run.{Run}
use Rattle.cs_findings.specs.Runs.{run_of}
use Rattle.cs_witness.proofs.CornerLemmas.{pushed_two, four_runs}
use Rattle.cs_witness.proofs.corners.four_of.Goals as goal

pub returns : goal.returns
returns c =
    let left = c.args.left.now in
    let right = c.args.right.now in
    let a : FitsSigned w128 left.least = search rules in
    let b : FitsSigned w128 left.greatest = search rules in
    let c' : FitsSigned w128 right.least = search rules in
    let d : FitsSigned w128 right.greatest = search rules in
    let left_least = to_z-of_z w128 left.least a in
    let left_greatest = to_z-of_z w128 left.greatest b in
    let right_least = to_z-of_z w128 right.least c' in
    let right_greatest = to_z-of_z w128 right.greatest d in
    let one = c.in_ok-both_of.field-0 in
    let two = c.in_ok-both_of-2.field-0 in
    let three = c.in_ok-both_of-3.field-0 in
    let four = c.in_ok-both_of-4.field-0 in
    let half = pushed_two c.new-corners.result.items c.push.new.self.items c.push-2.new.self.items one two c.new-corners.ensures.items
    c.in_ok-push.ensures.items c.in_ok-push-2.ensures.items in
    let pushed : c.push-4.new.self.items ≡ one ∷ two ∷ three ∷ four ∷ [] =
    c.in_ok-push-4.ensures.items ∙ ap (λ (l : List Run). l ++ four ∷ []) (c.in_ok-push-3.ensures.items ∙ ap (λ (l : List Run). l ++ three ∷ []) half) in
    four_runs c.args.event (run_of c.args.run.now) left right c.push-4.new.self.items one two three four pushed
    (rw (left_least, right_least) at c.in_ok-both_of.ensures) (rw (left_least, right_greatest) at c.in_ok-both_of-2.ensures)
    (rw (left_greatest, right_least) at c.in_ok-both_of-3.ensures) (rw (left_greatest, right_greatest) at c.in_ok-both_of-4.ensures)
