use Rattle.std.proofs.Common.{◌≡◌, List, [], ◌∷◌, ◌++◌, suc, length, rules, refl, sym, ap, ◌∙◌, arith}
use Rattle.std.proofs.lemmas.List.{append_assoc}
use Rattle.std.specs.Vec.Iter.{into_iter_items}
use Rattle.cs_access.specs.declared.checking.FaultyPart.{FaultyPart}
use Rattle.cs_events.specs.declared.outcome.Outcome.TheVariants.{Fault}
use Rattle.cs_pieces.specs.Pieces.{IsFaultyEnd}
use Rattle.cs_successors.specs.Coming.{StateEnd}
use Rattle.cs_children.proofs.Apart.{adds_none, adds_on, matches_on}
use Rattle.cs_children.proofs.children.Children.end_faulty.Goals as goal

pub loop-fault-init : goal.loop-fault-init
loop-fault-init c =
    let items = c.into_iter-fault-iterator.ensures.into_iter_gives.0 in
    record {
      lengths = c.into_iter-fault-iterator.ensures.into_iter_gives.1 ∙ c.args.faults.ok.0 ∙ sym (ap length items);
      so_far = ([], [], sym items, adds_none c.args.self.now, tt);
      apart = λ differ. differ;
    }

pub loop-fault-preserved : goal.loop-fault-preserved
loop-fault-preserved c =
    let (done, ends, whole, adds, match) = c.loop-fault.invariant.so_far in
    let fault = c.in-Some.fault in
    let left = into_iter_items c.next.new.self in
    let there : into_iter_items c.loop-fault.fault-iterator ≡ fault ∷ left = c.in-Some.ensures.steps.0 in
    let short : length (into_iter_items c.loop-fault.fault-iterator) ≡ suc (length left) = ap length there in
    let same : c.in_ok-state.state.value ≡ fault.state = search rules in
    let one : StateEnd = (Fault fault.kind c.args.at, c.in_ok-state.state) in
    record {
      lengths = omega (arith, short, c.loop-fault.invariant.lengths, c.in-Some.ensures.steps.1);
      so_far = (
        done ++ fault ∷ [],
        ends ++ one ∷ [],
        whole ∙ ap (λ (rest : List FaultyPart). done ++ rest) there ∙ sym (append_assoc done (fault ∷ []) left),
        adds_on c.args.self.now c.loop-fault.self c.end.new.self [] [] ends (one ∷ []) adds c.in_ok-end.ensures.adds,
        matches_on (IsFaultyEnd c.args.at) done (fault ∷ []) ends (one ∷ []) match ((refl, same), tt),
      );
      apart = λ differ. c.in_ok-end.ensures.apart (c.loop-fault.invariant.apart differ);
    }
