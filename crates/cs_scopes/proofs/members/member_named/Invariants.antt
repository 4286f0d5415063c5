use Rattle.std.proofs.Common.{◌≡◌, drop}
use Rattle.cs_scopes.specs.Members.{member_named}
use Rattle.cs_scopes.proofs.members.member_named.Given as goal

abbrev pub invariant-loop-member : goal.invariant-loop-member
invariant-loop-member l = member_named l.name (drop l.member-index l.members) ≡ member_named l.name l.members
