use Rattle.std.proofs.Common.{◌≡◌, ◌-◌, Some, None, rules, sym, ap, ◌∙◌}
use Rattle.std.specs.Prelude.{option_copied}
use Rattle.cs_types.specs.Layout.{members_of}
use Rattle.cs_types.specs.Shape.{shape_of}
use Rattle.cs_scopes.specs.Scalars.{scalars_alone, scalars_times, scalars_with, scalars_of_members, struct_scalars}
use Rattle.cs_scopes.proofs.ScalarCounts.{scalars-times, struct_scalars-members, member_past, member_there, members_counted}
use Rattle.cs_scopes.proofs.scalars.+scalars.Goals as goal

pub scalars-returns : goal.scalars-returns
scalars-returns t c =
    c.scalars_times.ensures
    ∙ ap (λ i. scalars_times i (shape_of c.args.ty.now)) (c.scalars_alone-inner.ensures
    ∙ ap (scalars_alone (struct_scalars c.args.table.now.list c.args.depth)) c.innermost.ensures)
    ∙ scalars-times (struct_scalars c.args.table.now.list c.args.depth) (shape_of c.args.ty.now)

pub struct_scalars-returns-in_err-all : goal.struct_scalars-returns-in_err-all
struct_scalars-returns-in_err-all t c =
    let e : c.from_residual-in_err-all.result ≡ None = search rules in
    let there : members_of c.args.table.now.list c.args.number ≡ Some c.as_slice-member-items.result.now = sym c.members_of.ensures
    ∙ ap option_copied c.in-Some.is ∙ ap Some (sym c.as_slice-member-items.ensures) in
    e ∙ sym (struct_scalars-members c.args.table.now.list c.args.depth c.args.number c.if-depth-eq0.false
    ∙ ap (scalars_of_members (scalars_with (struct_scalars c.args.table.now.list (c.args.depth - 1)))) there
    ∙ sym c.loop-member.invariant
    ∙ member_past (scalars_with (struct_scalars c.args.table.now.list (c.args.depth - 1))) c.loop-member.all c.in_ok-own.own c.loop-member.member-index
    c.as_slice-member-items.result.now c.member-item.result (member_there c.loop-member.member-index c.as_slice-member-items.result.now c.member-item.result
    c.loop-member-test.true c.member-item.is) (ap (scalars_with (struct_scalars c.args.table.now.list (c.args.depth - 1))) (sym c.ty.ensures)
    ∙ sym c.scalars.ensures ∙ c.in_ok-own.was) (sym c.few_more.ensures ∙ c.in_err-all.was))

pub struct_scalars-returns : goal.struct_scalars-returns
struct_scalars-returns t c =
    let there : members_of c.args.table.now.list c.args.number ≡ Some c.as_slice-member-items.result.now = sym c.members_of.ensures
    ∙ ap option_copied c.in-Some.is ∙ ap Some (sym c.as_slice-member-items.ensures) in
    sym (members_counted (scalars_with (struct_scalars c.args.table.now.list (c.args.depth - 1))) c.loop-member.all c.loop-member.member-index
    c.as_slice-member-items.result.now c.loop-member-test.false)
    ∙ c.loop-member.invariant
    ∙ sym (struct_scalars-members c.args.table.now.list c.args.depth c.args.number c.if-depth-eq0.false
    ∙ ap (scalars_of_members (scalars_with (struct_scalars c.args.table.now.list (c.args.depth - 1)))) there)
