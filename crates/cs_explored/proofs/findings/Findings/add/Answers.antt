use Rattle.std.proofs.Common.{List, ℕ, refl, sym, subst}
use Rattle.std.specs.Prelude.{nat_eq}
use Rattle.std.specs.Cmp.Lexicographic.{pointwise}
use Rattle.cs_graph.specs.Adding.{IsAdded, IsUnseen}
use Rattle.cs_explored.proofs.Growing.{grows_added}
use Rattle.cs_explored.proofs.findings.Findings.add.Goals as goal

pub returns-in-Ok-clause-placed : goal.returns-in-Ok-clause-placed
returns-in-Ok-clause-placed c =
    let row = c.list.new.row in
    let key = rw c.deref.ensures at c.in_ok-key.ensures in
    let added =
    subst (λ (key : List ℕ). IsAdded (pointwise nat_eq) key c.visits_of-visits.result row c.in-Ok.field-0 c.args.self.now.graph c.add.new.self) key
    c.in-Ok.ensures.added in
    rw (sym c.in_ok-list.ensures) ((c.visits_of-visits.result, c.in-Ok.field-0, added), refl)

pub returns-in-Ok-clause-grows : goal.returns-in-Ok-clause-grows
returns-in-Ok-clause-grows c =
    grows_added c.args.self.now (record c.args.self.now { graph = c.add.new.self }) c.in_ok-key.key c.visits_of-visits.result c.list.new.row
    c.in-Ok.field-0 refl refl (rw c.in_ok-list.ensures c.requires.parent) c.in-Ok.ensures.added

pub returns-in_ok-push-in-Err-Full-clause-placed : goal.returns-in_ok-push-in-Err-Full-clause-placed
returns-in_ok-push-in-Err-Full-clause-placed c =
    let key = rw c.deref.ensures at c.in_ok-key.ensures in
    let refused = rw c.in-Err-Full.field-0-is at c.in-Err-Full.ensures.refused in
    rw (sym c.in_ok-list.ensures) ((
      (subst (λ (key : List ℕ). IsUnseen (pointwise nat_eq) key c.args.self.now.graph.keys) key refused.0, refused.1, refused.2),
      c.in_ok-push-in-Err-Full.ensures.items,
    )
    )
