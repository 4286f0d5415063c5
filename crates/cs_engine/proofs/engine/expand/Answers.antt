use Rattle.std.proofs.Common.{◌≡◌, Some, refl, sym, ap, ◌∙◌, subst, slice_get}
use Rattle.std.specs.Prelude.{List}
use Rattle.std.proofs.lemmas.Option.{slice_get-get_or}
use Rattle.cs_results.specs.declared.result.Cut.{Cut}
use Rattle.cs_explored.specs.Placing.{AddsCuts}
use Rattle.cs_explored.specs.declared.explored.Row.{Row}
use Rattle.cs_explored.proofs.Growing.{grows_on, grows_same}
use Rattle.cs_state.specs.declared.state.State.{State}
use Rattle.cs_state.specs.Naming.{naming}
use Rattle.cs_invariants.proofs.Exploring.{ComesOf}
use Rattle.cs_invariants.proofs.Keeping.{expanded_kept}
use Rattle.cs_engine.proofs.engine.expand.Goals as goal

pub returns-clause-grows : goal.returns-clause-grows
returns-clause-grows g c =
    grows_on c.args.findings.now (record c.args.findings.now { tables = c.find.new.tables }) c.add_all.new.self
    (grows_same c.args.findings.now (record c.args.findings.now { tables = c.find.new.tables }) refl refl refl refl)
    (grows_on (record c.args.findings.now { tables = c.find.new.tables }) c.add_ends.new.self c.add_all.new.self c.in_ok-add_ends.ensures.grows
    (grows_on c.add_ends.new.self c.add_cuts.new.self c.add_all.new.self c.in_ok-add_cuts.ensures.grows c.in_ok-added.ensures.grows))

pub returns-clause-expands : goal.returns-clause-expands
returns-clause-expands g c every entry explores gone kept =
    let from : Row = c.in-Some.from.now in
    let there : slice_get c.args.findings.now.graph.rows c.args.row ≡ Some from =
    ap (λ (rows : List Row). slice_get rows c.args.row) (sym c.rows.ensures)
    ∙ slice_get-get_or c.rows.result.now c.args.row from c.in-Some.ensures.lookup.3.0 ∙ ap Some (sym (c.in-Some.ensures.lookup.3.1 from)) in
    let same : c.in_ok-state.state.value ≡ from.state.value =
    c.in_ok-state.ensures.ok ∙ c.in_ok-copy.ensures ∙ c.deref.ensures in
    let comes : ComesOf c.args.exploration.now (naming c.find.new.tables) from.state.value c.find.new.self.made.items c.find.new.self.ends.items
    c.find.new.self.cuts.items =
    subst (λ (state : State). ComesOf c.args.exploration.now (naming c.find.new.tables) state c.find.new.self.made.items c.find.new.self.ends.items
    c.find.new.self.cuts.items) same (c.in_ok-find.ensures.all every c.new-children.ensures) in
    let cutting : AddsCuts c.find.new.self.cuts.items c.add_ends.new.self c.add_cuts.new.self =
    subst (λ (cuts : List Cut). AddsCuts cuts c.add_ends.new.self c.add_cuts.new.self) c.deref-2.ensures.value c.in_ok-add_cuts.ensures.adds in
    expanded_kept c.args.exploration.now entry explores c.keys_are_exact.ensures c.args.findings.now c.add_ends.new.self c.add_cuts.new.self
    c.add_all.new.self c.find.new.tables c.args.row from there c.find.new.self.made.items c.find.new.self.ends.items c.find.new.self.cuts.items
    c.find.ensures.extends c.in_ok-add_ends.ensures.adds cutting c.in_ok-added.ensures.rest comes gone c.have_each_once.ensures.bases
    c.have_each_once.ensures.syms c.in_ok-added.ensures.grows.nodes kept c.in_ok-added.added c.in_ok-added.ensures.all
