use Rattle.std.proofs.Common.{◌≡◌, refl, sym, ap, ◌∙◌, subst}
use Rattle.cs_state.specs.declared.state.State.{State}
use Rattle.cs_state.specs.Naming.{naming}
use Rattle.cs_state.specs.Starting.{IsStart}
use Rattle.cs_successors.specs.Explorations.{code_of}
use Rattle.cs_invariants.specs.Exploring.{program_of}
use Rattle.cs_explored.specs.declared.findings.Findings.{Findings}
use Rattle.cs_explored.specs.Placing.{RowGraph}
use Rattle.cs_explored.proofs.Growing.{grows_on, grows_same}
use Rattle.cs_invariants.proofs.Keeping.{begun_kept}
use Rattle.cs_engine.proofs.engine.begin.Goals as goal

pub returns-clause-sound : goal.returns-clause-sound
returns-clause-sound c =
    (grows_on c.new-findings.result (record c.new-findings.result { tables = c.start.new.tables }) c.add_first.new.self
    (grows_same c.new-findings.result (record c.new-findings.result { tables = c.start.new.tables }) refl refl refl refl)
    c.in_ok-add_first.ensures.grows).sound c.new-findings.ensures.sound

pub returns-clause-nodes : goal.returns-clause-nodes
returns-clause-nodes c = c.in_ok-add_first.ensures.grows.nodes ∙ c.new-findings.ensures.nodes

pub returns-clause-begins : goal.returns-clause-begins
returns-clause-begins c explores =
    let fresh : Findings = record c.new-findings.result { tables = c.start.new.tables } in
    let boxed : c.in_ok-state-2.state.value ≡ c.in_ok-state.state = let e = c.in_ok-state-2.ensures.ok in cc in
    let begins = subst (λ (state : State). IsStart (code_of c.args.exploration.now) (program_of c.args.exploration.now) c.args.entry
    (naming c.start.new.tables) state) (sym boxed) c.in_ok-state.ensures.start in
    let no_keys = ap (λ (g : RowGraph). g.keys) c.new-findings.ensures.graph in
    let no_rows = ap (λ (g : RowGraph). g.rows) c.new-findings.ensures.graph in
    begun_kept c.args.exploration.now c.args.entry explores fresh c.add_first.new.self c.in_ok-state-2.state begins c.in_ok-state.ensures.names
    c.have_each_once.ensures.syms c.in_ok-add_first.ensures.plain no_keys no_rows c.new-findings.ensures.no_ends c.new-findings.ensures.no_cuts
    c.in_ok-add_first.ensures.grows.nodes c.in_ok-add_first.ensures.rest c.in_ok-add_first.field-0 c.in_ok-add_first.ensures.placed
