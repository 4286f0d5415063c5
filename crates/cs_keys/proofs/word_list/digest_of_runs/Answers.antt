use Rattle.std.proofs.Common.{◌∙◌, ap, sym, take, get_or}
use Rattle.std.specs.List.{concat}
use Rattle.std.proofs.lemmas.List.{take_more}
use Rattle.cs_word_lists.specs.Digest.{digest_of}
use Rattle.cs_keys.proofs.Divided.{one_more_run}
use Rattle.cs_keys.proofs.word_list.digest_of_runs.Goals as goal

pub loop-run-preserved : goal.loop-run-preserved
loop-run-preserved c =
    let digest = c.digest_after-digest.ensures _ c.loop-run.invariant in
    let more = ap concat (take_more c.args.runs.now c.loop-run.run-index c.run-item.result c.loop-run-test.true)
    ∙ one_more_run (take c.loop-run.run-index c.args.runs.now) (get_or c.args.runs.now c.loop-run.run-index c.run-item.result) in
    (rw (c.words.ensures, c.run-item.is) at digest) ∙ ap digest_of (sym more)
