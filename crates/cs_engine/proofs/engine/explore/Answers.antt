use Rattle.std.proofs.Common.{◌∙◌}
use Rattle.cs_invariants.proofs.Exploring.{covered, own_covered, live_covered}
use Rattle.cs_invariants.proofs.Sourcing.{graph_at_last, guesses_at_last}
use Rattle.cs_invariants.proofs.Keeping.{reasons_at_last}
use Rattle.cs_engine.proofs.engine.explore.Goals as goal

pub returns-clause-covers : goal.returns-clause-covers
returns-clause-covers g c every explores =
    covered c.args.exploration.now c.args.entry explores c.expand_all.new.findings c.explored.result c.have_each_once.ensures.bases
    c.explored.ensures.rows c.explored.ensures.all_ends c.explored.ensures.cuts c.explored.ensures.tables
    (c.in_ok-expand_all.ensures.done every c.args.entry explores (c.in_ok-findings.ensures.begins explores)).closed

pub returns-clause-agrees : goal.returns-clause-agrees
returns-clause-agrees g c every explores =
    own_covered c.args.exploration.now c.args.entry explores c.expand_all.new.findings c.explored.result c.have_each_once.ensures.bases
    c.explored.ensures.rows c.explored.ensures.all_ends c.explored.ensures.cuts c.explored.ensures.tables
    (c.in_ok-expand_all.ensures.done every c.args.entry explores (c.in_ok-findings.ensures.begins explores)).closed

pub returns-clause-live : goal.returns-clause-live
returns-clause-live g c every explores =
    live_covered c.args.exploration.now c.args.entry explores c.expand_all.new.findings c.explored.result c.have_each_once.ensures.bases
    c.explored.ensures.rows c.explored.ensures.all_ends c.explored.ensures.cuts c.explored.ensures.tables
    (c.in_ok-expand_all.ensures.done every c.args.entry explores (c.in_ok-findings.ensures.begins explores)).closed

pub returns-clause-exact : goal.returns-clause-exact
returns-clause-exact g c every explores =
    let graph = graph_at_last c.args.exploration.now c.args.entry explores c.expand_all.new.findings c.explored.result c.have_each_once.ensures.bases
    c.have_each_once.ensures.syms c.explored.ensures.rows c.explored.ensures.all_ends c.explored.ensures.tables
    (c.in_ok-expand_all.ensures.done every c.args.entry explores (c.in_ok-findings.ensures.begins explores)) in
    (graph.exact, graph.distinct, graph.noted)

pub returns-clause-own : goal.returns-clause-own
returns-clause-own g c every explores =
    (graph_at_last c.args.exploration.now c.args.entry explores c.expand_all.new.findings c.explored.result c.have_each_once.ensures.bases
    c.have_each_once.ensures.syms c.explored.ensures.rows c.explored.ensures.all_ends c.explored.ensures.tables
    (c.in_ok-expand_all.ensures.done every c.args.entry explores (c.in_ok-findings.ensures.begins explores))).own

pub returns-clause-cuts : goal.returns-clause-cuts
returns-clause-cuts g c every explores =
    reasons_at_last c.args.exploration.now c.args.entry explores c.expand_all.new.findings c.explored.result c.have_each_once.ensures.bases
    c.have_each_once.ensures.syms (c.in_ok-expand_all.ensures.grows.sound c.in_ok-findings.ensures.sound)
    (c.in_ok-expand_all.ensures.grows.nodes ∙ c.in_ok-findings.ensures.nodes) c.explored.ensures.rows c.explored.ensures.all_ends c.explored.ensures.cuts
    c.explored.ensures.tables (c.in_ok-expand_all.ensures.done every c.args.entry explores (c.in_ok-findings.ensures.begins explores)).reasons

pub returns-clause-guesses : goal.returns-clause-guesses
returns-clause-guesses g c every explores =
    guesses_at_last c.args.exploration.now c.args.entry explores c.expand_all.new.findings c.explored.result c.have_each_once.ensures.bases
    c.have_each_once.ensures.syms c.explored.ensures.rows c.explored.ensures.all_ends c.explored.ensures.tables
    (c.in_ok-expand_all.ensures.done every c.args.entry explores (c.in_ok-findings.ensures.begins explores))

pub explored-requires : goal.explored-requires
explored-requires g c = c.in_ok-expand_all.ensures.grows.sound c.in_ok-findings.ensures.sound
