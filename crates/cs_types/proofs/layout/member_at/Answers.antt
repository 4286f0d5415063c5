use Rattle.std.proofs.Common.{rules, ◌≡◌, ℕ, ◌≤◌, sym, subst}
use Rattle.std.specs.Prelude.{Some, None}
use Rattle.cs_types.specs.Layout.{complete_of}
use Rattle.cs_types.specs.LeafSearch.{last_at}
use Rattle.cs_types.proofs.StructTables.{IsComplete, complete-IsComplete}
use Rattle.cs_types.proofs.MemberSearch.{last_at-before}
use Rattle.cs_types.proofs.Entering.{before_members, in_member}
use Rattle.cs_types.proofs.layout.member_at.Goals as goal

pub returns-in_err-member : goal.returns-in_err-member
returns-in_err-member c = λ depth layout d e.
    let found = c.in_ok-complete_struct.field-0.now in
    let complete : complete_of c.args.table.now.list c.args.number ≡ Some found = search rules in
    let has : found.members ≡ Some c.in_ok-members.members.now = search rules in
    let at : IsComplete c.args.table.now.list c.args.number found =
    record {
      members = c.in_ok-members.members.now;
      stands = (complete-IsComplete c.args.table.now.list c.args.number found complete).stands;
      has_members = has;
    } in
    let none : last_at c.args.offset c.in_ok-members.members.now ≡ None = search rules in
    rw c.from_residual-in_err-member.ensures (before_members c.args.model c.args.table.now.list c.args.number depth c.args.offset found layout c.requires at d e
    none)

pub overflow_sub-result : goal.overflow_sub-result
overflow_sub-result c =
    let last : last_at c.args.offset c.as_slice.result.now ≡ Some c.in_ok-member.member.now = search rules in
    subst (λ (n : ℕ). n ≤ c.args.offset) (sym c.offset.ensures) (last_at-before c.args.offset c.as_slice.result.now c.in_ok-member.member.now last)

pub returns : goal.returns
returns c = λ depth layout d e.
    let found = c.in_ok-complete_struct.field-0.now in
    let complete : complete_of c.args.table.now.list c.args.number ≡ Some found = search rules in
    let has : found.members ≡ Some c.in_ok-members.members.now = search rules in
    let at : IsComplete c.args.table.now.list c.args.number found =
    record {
      members = c.in_ok-members.members.now;
      stands = (complete-IsComplete c.args.table.now.list c.args.number found complete).stands;
      has_members = has;
    } in
    let last : last_at c.args.offset c.in_ok-members.members.now ≡ Some c.in_ok-member.member.now = search rules in
    rw c.ty.ensures (rw c.offset.ensures
    (in_member c.args.model c.args.table.now.list c.args.number depth c.args.offset found layout c.in_ok-member.member.now c.requires at d e last))
