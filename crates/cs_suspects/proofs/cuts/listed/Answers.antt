use Rattle.cs_suspects.proofs.ListedCuts.{are_listed, has_nodes_of, nothing_cut, nodes_alone}
use Rattle.cs_suspects.proofs.cuts.listed.Goals as goal

pub returns-clause-sorted : goal.returns-clause-sorted
returns-clause-sorted c =
    are_listed c.nodes_of.result c.in_ok-listed.listed.items c.list_splits.new.listed.items c.in_ok-splits.splits.entries c.in_ok-listed.ensures
    c.in_ok-list_splits.ensures c.in_ok-splits.ensures.ordered

pub returns-clause-nodes : goal.returns-clause-nodes
returns-clause-nodes c =
    has_nodes_of c.nodes_of.result c.args.cuts.now c.in_ok-listed.listed.items c.list_splits.new.listed.items c.in_ok-splits.splits.entries
    c.in_ok-listed.ensures c.in_ok-list_splits.ensures c.nodes_of.ensures

pub returns-clause-some : goal.returns-clause-some
returns-clause-some c =
    nothing_cut c.nodes_of.result c.args.cuts.now c.in_ok-listed.listed.items c.list_splits.new.listed.items c.in_ok-splits.splits.entries
    c.in_ok-listed.ensures c.in_ok-list_splits.ensures c.nodes_of.ensures c.in_ok-splits.ensures.some

pub returns-clause-alone : goal.returns-clause-alone
returns-clause-alone c =
    nodes_alone c.nodes_of.result c.args.cuts.now c.in_ok-listed.listed.items c.list_splits.new.listed.items c.in_ok-splits.splits.entries
    c.in_ok-listed.ensures c.in_ok-list_splits.ensures c.in_ok-splits.ensures.none
