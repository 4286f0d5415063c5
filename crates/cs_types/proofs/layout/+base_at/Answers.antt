use Rattle.std.proofs.Common.{rules, ◌≡◌, inl, inr, ap, subst, sym}
use Rattle.std.specs.Prelude.{Some, None}
use Rattle.std.specs.Option.{option_map}
use Rattle.cs_types.specs.Shape.{Shape, shape_of}
use Rattle.cs_types.specs.Layout.{Layout, layout_of}
use Rattle.cs_types.specs.LeafSearch.{layout_within}
use Rattle.cs_types.proofs.Arrays.{array_parts, no_size, past_elements, in_element, same_base}
use Rattle.cs_types.proofs.layout.+base_at.Goals as goal
use Rattle.cs_types.proofs.layout.+base_at.Goals.{then-size-eq0-via-then-size-eq0, then-size-eq0-via-else-size-eq0+then-offset-size}

pub returns-in_err-size-in-Array : goal.returns-in_err-size-in-Array
returns-in_err-size-in-Array t c = λ depth layout d h.
    let table = c.args.table.now.list in
    let element = shape_of c.in-Array.element.value in
    let own = subst (λ (s : Shape). layout_within c.args.model table depth s ≡ Some layout) (ap shape_of c.in-Array.is) h in
    let none : None ≡ option_map (λ (l : Layout). l.size) (layout_of c.args.model table element) = search rules in
    absurd (no_size c.args.model table depth element c.in-Array.count layout d own none)

pub returns-then-size-eq0 : goal.returns-then-size-eq0
returns-then-size-eq0 t c = λ depth layout d h.
    let table = c.args.table.now.list in
    let element = shape_of c.in-Array.element.value in
    let own = subst (λ (s : Shape). layout_within c.args.model table depth s ≡ Some layout) (ap shape_of c.in-Array.is) h in
    let size : Some c.in_ok-size-in-Array.size ≡ option_map (λ (l : Layout). l.size) (layout_of c.args.model table element) = search rules in
    past_elements c.args.model table depth element c.in-Array.count layout c.in_ok-size-in-Array.size c.args.offset d own size
    (elim c.then-size-eq0.branch [
      | then-size-eq0-via-then-size-eq0 w ↦ inl w.if-size-eq0.true
      | then-size-eq0-via-else-size-eq0+then-offset-size w ↦ inr w.if-offset-size.true
    ])

pub returns-else-offset-size : goal.returns-else-offset-size
returns-else-offset-size t c = λ depth layout d h.
    let table = c.args.table.now.list in
    let element = shape_of c.in-Array.element.value in
    let own = subst (λ (s : Shape). layout_within c.args.model table depth s ≡ Some layout) (ap shape_of c.in-Array.is) h in
    let size : Some c.in_ok-size-in-Array.size ≡ option_map (λ (l : Layout). l.size) (layout_of c.args.model table element) = search rules in
    let parts = array_parts c.args.model table depth element c.in-Array.count layout d own in
    let inner = subst (λ (s : Shape). layout_within c.args.model table depth s ≡ Some parts.inner) (sym (ap shape_of c.deref-in-Array.ensures)) parts.laid in
    let same = in_element c.args.model table depth element c.in-Array.count layout c.in_ok-size-in-Array.size c.args.offset parts size c.if-size-eq0.false
    c.if-offset-size.false in
    same_base c.args.model table depth layout parts.inner c.args.offset _ c.base_at.result same (c.base_at.ensures depth parts.inner d inner)
