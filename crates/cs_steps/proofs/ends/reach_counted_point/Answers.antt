use Rattle.std.proofs.Common.{◌≡◌, ℕ, ◌+◌, List, Some, None, sym, ap, ◌∙◌, subst, arith}
use Rattle.std.specs.Prelude.{slice_get}
use Rattle.std.proofs.lemmas.Option.{slice_get-get_or, slice_get_past}
use Rattle.cs_cfg.specs.GraphView as view
use Rattle.cs_spots.proofs.Counting.{none_over, full_over, waits_over, point_reached}
use Rattle.cs_steps.proofs.ends.reach_counted_point.Goals as goal

pub returns-in_default : goal.returns-in_default
returns-in_default c = record {
  work = λ given names program known model extends numbered have integer.
      let code = view.code c.args.context.now.code.now in
      let state = c.args.state.now in
      let point = c.args.point in
      let budgets = c.args.context.now.setting.now.budgets in
      let past = slice_get_past c.as_slice.result.now point.number c.in_default.ensures.lookup.3 in
      let none : slice_get state.frame.visits point.number ≡ None =
      subst (λ (visits : List ℕ). slice_get visits point.number ≡ None) c.as_slice.ensures past in
      waits_over code names program known budgets point.place point.kind point.number state c.finish.result c.args.progress.now c.finish.new.self
      c.finish.ensures.first (none_over code names program known budgets point.place point.kind point.number state none);
}

pub returns-then-count-context : goal.returns-then-count-context
returns-then-count-context c = record {
  work = λ given names program known model extends numbered have integer.
      let code = view.code c.args.context.now.code.now in
      let state = c.args.state.now in
      let point = c.args.point in
      let budgets = c.args.context.now.setting.now.budgets in
      let found = c.in-Some.ensures.lookup.3 in
      let count = c.in-Some.count.now in
      let there : slice_get state.frame.visits point.number ≡ Some count =
      subst (λ (visits : List ℕ). slice_get visits point.number ≡ Some count) c.as_slice.ensures
      (slice_get-get_or c.as_slice.result.now point.number count found.0 ∙ ap (λ (n : ℕ). Some n) (sym (found.1 count))) in
      waits_over code names program known budgets point.place point.kind point.number state c.finish-then-count-context.result c.args.progress.now
      c.finish-then-count-context.new.self c.finish-then-count-context.ensures.first
      (full_over code names program known budgets point.place point.kind point.number state count there c.if-count-context.true);
}

pub returns : goal.returns
returns c = record {
  work = λ given names program known model extends numbered have integer.
      let code = view.code c.args.context.now.code.now in
      let state = c.args.state.now in
      let point = c.args.point in
      let budgets = c.args.context.now.setting.now.budgets in
      let found = c.in-Some.ensures.lookup.3 in
      let count = c.in-Some.count.now in
      let there : slice_get state.frame.visits point.number ≡ Some count =
      subst (λ (visits : List ℕ). slice_get visits point.number ≡ Some count) c.as_slice.ensures
      (slice_get-get_or c.as_slice.result.now point.number count found.0 ∙ ap (λ (n : ℕ). Some n) (sym (found.1 count))) in
      let more : c.in_ok-count.count ≡ count + 1 = grind (arith, c.checked_add.ensures, c.ok_or.ensures, c.in_ok-count.ensures) in
      let made = rw more at c.in_ok-count_visit.ensures.ok in
      let means = rw more at c.in_ok-count_visit.ensures.means in
      point_reached code names program known budgets point.place point.kind point.number state c.count_visit.new.self count there
      c.if-count-context.false made means c.args.progress.now c.go_on.new.state c.go_on.result have
      c.go_on.ensures.moved_on c.go_on.ensures.memory;
}
