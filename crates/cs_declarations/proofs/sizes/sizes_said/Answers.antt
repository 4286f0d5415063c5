use Rattle.std.proofs.Common.{◌≡◌, ◌+◌, ◌++◌, ◌∷◌, [], Some, refl, sym, ap, subst, ◌∙◌, append-nil}
use Rattle.std.specs.Prelude.{drop, pos}
use Rattle.std.specs.Option.{option_or}
use Rattle.std.proofs.lemmas.List.{drop_all}
use Rattle.cs_scopes.specs.Verdicts.{Fine, Fault, IsRefused}
use Rattle.cs_declarations.specs.Sizes.{size_said, size_or_one, sizes_said, fault_in, refused_bound}
use Rattle.cs_declarations.proofs.SaidSoFar.{size_taken, refused_taken, option_or-none}
use Rattle.cs_declarations.proofs.sizes.sizes_said.Goals as goal
use Rattle.cs_declarations.proofs.sizes.sizes_said.Goals.{in-Ok+in_ok-push-in-Ok, in-Err-Code+in_ok-push-in-Err-Code}

pub loop-bound-init : goal.loop-bound-init
loop-bound-init c = record {
  list = ap (λ items. items ++ sizes_said c.args.context.now c.args.bounds.now) (sym c.new-list.ensures.items);
  refused = refl;
}

pub loop-bound-preserved : goal.loop-bound-preserved
loop-bound-preserved c =
    let context = c.args.context.now in
    let i = c.loop-bound.bound-index in
    let sizes = sizes_said context (drop (i + 1) c.args.bounds.now) in
    let faults = refused_bound context (drop (i + 1) c.args.bounds.now) in
    elim c.match-size_said.branch [
      | in-Ok+in_ok-push-in-Ok w ↦
          let said : size_said context c.bound-item.result ≡ Fine w.in-Ok.size = w.in-Ok.ensures in
          let items : c.match-size_said.list.items ≡ c.loop-bound.list.items ++ w.in-Ok.size ∷ [] =
          ap (λ list. list.items) w.list-is ∙ w.in_ok-push-in-Ok.ensures.items in
          record {
            list = size_taken context c.args.bounds.now i c.loop-bound.list.items c.bound-item.result c.loop-bound-test.true c.bound-item.is w.in-Ok.size
                c.loop-bound.invariant.list (ap size_or_one said)
                ∙ ap (λ items. items ++ sizes) (sym items);
            refused = refused_taken context c.args.bounds.now i c.loop-bound.list.items c.bound-item.result c.loop-bound-test.true c.bound-item.is
                c.loop-bound.refused c.loop-bound.invariant.refused
                ∙ ap (λ r. option_or r faults)
                (ap (λ v. option_or c.loop-bound.refused (fault_in v)) said ∙ option_or-none c.loop-bound.refused ∙ sym w.refused-is);
          }
      | in-Err-Code+in_ok-push-in-Err-Code w ↦
          let said : size_said context c.bound-item.result ≡ Fault w.in-Err-Code.code w.in-Err-Code.place =
          subst (IsRefused (size_said context c.bound-item.result)) w.in-Err-Code.field-0-is w.in-Err-Code.ensures in
          let items : c.match-size_said.list.items ≡ c.loop-bound.list.items ++ Some (pos 1) ∷ [] =
          ap (λ list. list.items) w.list-is ∙ w.in_ok-push-in-Err-Code.ensures.items in
          record {
            list = size_taken context c.args.bounds.now i c.loop-bound.list.items c.bound-item.result c.loop-bound-test.true c.bound-item.is (Some (pos 1))
                c.loop-bound.invariant.list (ap size_or_one said)
                ∙ ap (λ items. items ++ sizes) (sym items);
            refused = refused_taken context c.args.bounds.now i c.loop-bound.list.items c.bound-item.result c.loop-bound-test.true c.bound-item.is
                c.loop-bound.refused c.loop-bound.invariant.refused
                ∙ ap (λ r. option_or r faults)
                (ap (λ v. option_or c.loop-bound.refused (fault_in v)) said ∙ sym (w.refused-is ∙ w.first_of-refused.ensures));
          }
    ]

pub returns-clause-list : goal.returns-clause-list
returns-clause-list c =
    sym (c.loop-bound.invariant.list
    ∙ ap (λ bounds. c.loop-bound.list.items ++ sizes_said c.args.context.now bounds)
    (drop_all c.loop-bound.bound-index c.args.bounds.now c.loop-bound-test.false) ∙ append-nil c.loop-bound.list.items)

pub returns-clause-refused : goal.returns-clause-refused
returns-clause-refused c =
    sym (c.loop-bound.invariant.refused
    ∙ ap (λ bounds. option_or c.loop-bound.refused (refused_bound c.args.context.now bounds))
    (drop_all c.loop-bound.bound-index c.args.bounds.now c.loop-bound-test.false) ∙ option_or-none c.loop-bound.refused)
