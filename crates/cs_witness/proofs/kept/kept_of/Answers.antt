use Rattle.std.proofs.Common.{◌<◌, ◌≤◌, ◌++◌, ◌∷◌, [], List, length, map, take, sym, ap, ◌∙◌, arith}
use Rattle.std.proofs.lemmas.List.{take_all, take_more, map-append}
use Rattle.cs_run_log.specs.declared.logs.Pending.{Pending}
use Rattle.cs_run_log.specs.LogView.{pending_of}
use Rattle.cs_witness.specs.Keeping.{noted}
use Rattle.cs_witness.proofs.kept.kept_of.Goals as goal

pub loop-one-preserved : goal.loop-one-preserved
loop-one-preserved c =
    let log = c.args.pending.now in
    let i = c.loop-one.one-index in
    let one = c.one-item.result in
    let below : i < length log = omega arith in
    c.in_ok-push.ensures.items
    ∙ (λ j. c.loop-one.invariant j ++ c.kept_at.ensures j ∷ [])
    ∙ sym (map-append noted (map pending_of (take i log)) (pending_of one ∷ []))
    ∙ ap (map noted) (sym (map-append pending_of (take i log) (one ∷ [])))
    ∙ ap (λ (l : List Pending). map noted (map pending_of l))
    (sym (take_more log i one below ∙ ap (λ (p : Pending). take i log ++ p ∷ []) (sym c.one-item.is)))

pub returns : goal.returns
returns c =
    let log = c.args.pending.now in
    let none : length log ≤ c.loop-one.one-index = omega arith in
    c.loop-one.invariant ∙ ap (λ (l : List Pending). map noted (map pending_of l)) (take_all c.loop-one.one-index log none)
