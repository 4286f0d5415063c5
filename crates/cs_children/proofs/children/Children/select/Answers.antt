use Rattle.std.proofs.Common.{◌≡◌, ◌≤◌, ◌<◌, [], List, rules, sym, ap, ◌∙◌, subst}
use Rattle.cs_cfg.specs.declared.code.SwitchCase.{SwitchCase}
use Rattle.cs_cfg.specs.declared.code.BlockEnd.{BlockEnd}
use Rattle.cs_cfg.specs.Graph.{Point}
use Rattle.cs_cfg.specs.GraphView as view
use Rattle.cs_cfg.specs.Spots.{point_of}
use Rattle.cs_eval.specs.Cases.{AreCases}
use Rattle.cs_state.specs.declared.state.State.{State}
use Rattle.cs_pieces.specs.Pieces.{AreOfSwitch}
use Rattle.cs_successors.specs.Explorations.{code_of}
use Rattle.cs_children.proofs.AddedPieces.{over_added, pieces_added, full_of, room_of}
use Rattle.cs_children.proofs.children.Children.select.Goals as goal

abbrev at_end : BlockEnd → Point
at_end end = record { operations = []; end = view.block_end end }

pub returns-then-is_none-clause-adds : goal.returns-then-is_none-clause-adds
returns-then-is_none-clause-adds c =
    let state = c.args.state.value in
    let limit = c.args.exploration.now.budgets.events in
    let same : c.deref.result.now ≡ state = search rules in
    over_added c.end.result limit c.args.exploration.now.rules.now c.args.state c.args.at
    (AreOfSwitch (code_of c.args.exploration.now) state c.args.term) c.args.self.now c.end.new.self c.over.result
    c.over.ensures (subst (λ (s : State). limit ≤ s.counters.events) same
    (full_of c.event_after.result limit c.deref.result.now.counters.events c.is_none.result c.event_after.ensures c.is_none.ensures c.if-is_none.true))
    c.end.ensures.adds

pub returns-clause-adds : goal.returns-clause-adds
returns-clause-adds c =
    let state = c.args.state.value in
    let limit = c.args.exploration.now.budgets.events in
    let code = code_of c.args.exploration.now in
    let found = c.in-End-Switch in
    let same : c.deref.result.now ≡ state = search rules in
    let too : c.deref-2.result.now ≡ state = search rules in
    let yet : c.deref-3.result.now ≡ state = search rules in
    pieces_added c.add_all.result limit c.args.exploration.now.rules.now c.args.state c.args.at
    (AreOfSwitch code state c.args.term) c.args.self.now c.add_all.new.self _
    c.in_ok-pieces.pieces.items (subst (λ (s : State). s.counters.events < limit) same
    (room_of c.event_after.result limit c.deref.result.now.counters.events c.is_none.result c.event_after.ensures c.is_none.ensures c.if-is_none.false))
    (record {
      place = found.field-0-0;
      temporary = found.field-0-1;
      cases = found.cases.items;
      otherwise = found.field-0-3;
      stands = ap (λ (s : State). point_of code s.frame.spot) (sym too) ∙ found.ensures.first
          ∙ ap at_end found.field-0-is;
      selects = subst (λ (s : State). AreCases s.constraints c.args.term found.cases.items c.in_ok-pieces.pieces.items) yet
          (subst (λ (cases : List SwitchCase). AreCases c.deref-3.result.now.constraints c.args.term cases c.in_ok-pieces.pieces.items)
          c.as_slice-cases.ensures.value c.in_ok-pieces.ensures);
    }) c.add_all.ensures
