use Rattle.std.proofs.Common.{◌≡◌, ℕ, ◌+◌, ◌≤◌, ◌<◌, List, cond, take, get_or, length, ap, sym, subst, ◌∙◌, arith, option_copied}
use Rattle.std.proofs.Common.{true, false}
use Rattle.std.specs.Prelude.{Option, Some, nat_le}
use Rattle.std.proofs.lemmas.List.{take_more}
use Rattle.std.proofs.lemmas.Bool.Decides.{nat_tests}
use Rattle.cs_types.specs.Members.{Member}
use Rattle.cs_types.specs.LeafSearch.{last_at}
use Rattle.cs_types.proofs.MemberSearch.{last_at-push}
use Rattle.cs_types.proofs.layout.last_member.Goals as goal
use Rattle.cs_types.proofs.layout.last_member.Goals.{then-offset, else-offset}

taken : (o i : ℕ) (ms : List Member) (m : Member) → i < length ms → m ≡ get_or ms i m
    → last_at o (take (i + 1) ms) ≡ cond (nat_le m.offset o) (Some m) (last_at o (take i ms))
taken o i ms m h e =
    ap (last_at o) (take_more ms i m h) ∙ last_at-push o (take i ms) (get_or ms i m)
    ∙ ap (λ (x : Member). cond (nat_le x.offset o) (Some x) (last_at o (take i ms))) (sym e)

found : (o : ℕ) (m : Member) (before : Option Member) → m.offset ≤ o → cond (nat_le m.offset o) (Some m) before ≡ Some m
found o m before h = ap (λ t. cond t (Some m) before) (let e : nat_le m.offset o ≡ true = grind (arith, nat_tests) in e)

passed : (o : ℕ) (m : Member) (before : Option Member) → o < m.offset → cond (nat_le m.offset o) (Some m) before ≡ before
passed o m before h = ap (λ t. cond t (Some m) before) (let e : nat_le m.offset o ≡ false = grind (arith, nat_tests) in e)

pub loop-member-preserved : goal.loop-member-preserved
loop-member-preserved c =
    let step = taken c.args.offset c.loop-member.member-index c.args.members.now c.member-item.result c.loop-member-test.true c.member-item.is in
    elim c.if-offset.branch [
      | then-offset w ↦ ap option_copied w.last-is
          ∙ sym (step ∙ found c.args.offset c.member-item.result (last_at c.args.offset (take c.loop-member.member-index c.args.members.now))
          (subst (λ (n : ℕ). n ≤ c.args.offset) c.offset.ensures w.if-offset.true))
      | else-offset w ↦ ap option_copied w.last-is ∙ c.loop-member.invariant
          ∙ sym (step ∙ passed c.args.offset c.member-item.result (last_at c.args.offset (take c.loop-member.member-index c.args.members.now))
          (subst (λ (n : ℕ). c.args.offset < n) c.offset.ensures w.if-offset.false))
    ]
