use Rattle.std.proofs.Common.{◌≡◌, ◌<◌, List, get_or, true, false, length, arith, ap, ◌∙◌, sym, subst}
use Rattle.cs_model.specs.declared.kind.Kind.{Kind}
use Rattle.cs_terms.specs.Term.{Valuation}
use Rattle.cs_checker.specs.Answers.{some_holds, YieldsFaults}
use Rattle.cs_checker.specs.Asked.{CountsOne}
use Rattle.std.specs.Result.{is_ok}
use Rattle.cs_access.specs.Kinds.{IsNextKind, IsListed}
use Rattle.cs_access.specs.declared.checking.FaultyKind.{FaultyKind}
use Rattle.cs_access.proofs.Asked.{asked_none, asked_joined, none_next, one_next, none_of_two, when_ok}
use Rattle.cs_access.proofs.checking.faulty_kinds.Goals as goal
use Rattle.cs_access.proofs.checking.faulty_kinds.Goals.{in-None, in_default, then-complete, else-complete}

not_both : true ≡ false → ⊥
not_both e = cc

pub loop-checker-init : goal.loop-checker-init
loop-checker-init g c =
    asked_none _ _ c.args.subject.now c.args.checkers.now.items c.deref_mut-checker-items.result.now c.new-found.result.items
    c.deref_mut-checker-items.ensures.value c.new-found.ensures.items

pub loop-checker-preserved : goal.loop-checker-preserved
loop-checker-preserved g c =
    let within : c.loop-checker.checker-index < length c.loop-checker.checker-items = omega arith in
    let subject = c.args.subject.now in
    let answer = c.examine.result in
    let found = c.loop-checker.found.items in
    let box = c.deref_box_mut-1.result.now.0 in
    let new = c.examine.new.self in
    let faults = c.examine.ensures.0 in
    let terms = c.examine.ensures.1.0 in
    let same = c.examine.ensures.1.1.0 in
    let counted = c.examine.ensures.1.1.1 in
    let here = c.deref_box_mut-1.ensures.value.1 in
    let item = get_or c.loop-checker.checker-items c.loop-checker.checker-index c.checker-item.result in
    let kind = (goal.Checker-dyn g (item.vtable, item.value)).kind_of item.value in
    let is_new = subst (λ object. (goal.Checker-dyn g (box, new)).kind_of new ≡ (goal.Checker-dyn g object).kind_of object.1) here same in
    let has_counted = subst (λ object. CountsOne ((goal.Checker-dyn g object).count_of object.1) ((goal.Checker-dyn g (box, new)).count_of new)) here
    counted in
    let yields = subst (λ object. YieldsFaults ((goal.Checker-dyn g object).kind_of object.1) subject answer.conds) here faults in
    let so_far : c.if-complete.complete ≡ true → (c.loop-checker.complete ≡ true) × (is_ok c.match-examine-offset0.added ≡ true) = λ whole.
    elim c.if-complete.branch [
      | then-complete w ↦ (w.if-complete.true, sym w.is_ok-complete.ensures.value ∙ sym w.complete-is ∙ whole)
      | else-complete w ↦ absurd (not_both (sym whole ∙ w.complete-is ∙ w.if-complete.false))
    ] in
    elim c.match-examine-offset0.branch [
      | in-None w ↦
          let never : (numbers : Valuation) → some_holds answer.conds numbers ≡ false = λ numbers.
          none_of_two answer.conds numbers c.examine.type_inv.1.1.0.1.0.1 w.in-None.enum_told_along-1-is w.in-None.enum_told_along-in-None-1-is in
          asked_joined _ _ subject c.args.checkers.now.items c.loop-checker.checker-items c.loop-checker.checker-index c.loop-checker.complete
          c.if-complete.complete found c.match-examine-offset0.found.items c.checker-item.result _ c.match-examine-offset0.checker-items
          c.loop-checker.invariant within w.checker-items-is has_counted is_new
          (λ whole. (
            (so_far whole).0,
            subst (λ (more : List FaultyKind). IsNextKind subject kind found more) (sym (ap (λ v. v.items) w.found-is))
                (none_next kind subject answer yields terms found never),
          ))
      | in_default w ↦
          let is_kind = subst (λ object. w.kind.result ≡ (goal.Checker-dyn g object).kind_of object.1) w.deref_box-1.ensures.1 w.kind.ensures ∙ is_new in
          asked_joined _ _ subject c.args.checkers.now.items c.loop-checker.checker-items c.loop-checker.checker-index c.loop-checker.complete
          c.if-complete.complete found c.match-examine-offset0.found.items c.checker-item.result _ c.match-examine-offset0.checker-items
          c.loop-checker.invariant within w.checker-items-is has_counted is_new
          (λ whole. (
            (so_far whole).0,
            subst (λ (more : List FaultyKind). IsNextKind subject kind found more) (sym (ap (λ v. v.items) w.found-is))
                (one_next kind subject answer yields terms found w.list_kind-added.new.found.items
                (subst (λ (k : Kind). IsListed k answer.conds found w.list_kind-added.new.found.items) is_kind
                (when_ok _ _ _ (ap is_ok w.added-is) (so_far whole).1 w.list_kind-added.ensures))),
          ))
    ]
