use Rattle.std.proofs.Common.{◌≡◌, option_copied, take}
use Rattle.cs_types.specs.LeafSearch.{last_at}
use Rattle.cs_types.proofs.layout.last_member.Given as goal

abbrev pub invariant-loop-member : goal.invariant-loop-member
invariant-loop-member l = option_copied l.last ≡ last_at l.offset (take l.member-index l.members)
