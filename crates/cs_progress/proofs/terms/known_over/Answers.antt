use Rattle.std.proofs.Common.{◌≡◌, ℤ, to_z, of_z, sym, ap, ◌∙◌, rules}
use Rattle.std.specs.Int.{w128}
use Rattle.cs_terms.specs.declared.term.Lin.{Lin}
use Rattle.cs_terms.proofs.Narrow.{inside_same}
use Rattle.cs_progress.specs.Known.{function_at}
use Rattle.cs_progress.proofs.KnownTerms.{one_value, same_over}
use Rattle.cs_progress.proofs.terms.known_over.Goals as goal

pub returns-then-least-greatest : goal.returns-then-least-greatest
returns-then-least-greatest c =
    let least = c.in-Some-Some.least in
    let greatest = c.in-Some-Some.greatest in
    let same : least ≡ greatest =
    sym (inside_same least c.in-Some-Some.ensures.inside) ∙ ap (to_z w128) c.if-least-greatest.true
    ∙ inside_same greatest c.in-Some-Some.ensures'.inside in
    let first = c.in-Some-Some-2.first in
    let own : to_z w128 (of_z w128 first) ≡ first = search rules in
    let value : first ≡ function_at c.args.term least =
    c.in-Some-Some-2.ensures ∙ ap (λ (n : ℤ). function_at c.args.term n) (inside_same least c.in-Some-Some.ensures.inside) in
    one_value c.args.range.now c.args.term c.constant.result least greatest c.in-Some-Some.ensures.least c.in-Some-Some.ensures'.greatest same
    (ap (λ (t : Lin). t.sym) c.constant.ensures)
    (ap (λ (t : Lin). t.value) c.constant.ensures ∙ own ∙ value)

pub returns : goal.returns
returns c = same_over c.args.range.now c.args.term c.seen_from.result c.requires c.seen_from.ensures.symbol c.seen_from.ensures.values
