-- Structs in structs: for the contract of `begins_in_struct`.
use Rattle.std.proofs.Common.{◌≡◌, ◌==◌, ◌&&◌, ℕ, zero, suc, ◌-◌, ◌<◌, false, List, [], Some, ap, ◌∙◌, arith}
use Rattle.std.specs.Prelude.{unwrap_or, ◌||◌}
use Rattle.cs_types.specs.Members.{Member}
use Rattle.cs_types.specs.Layout.{members_of}
use Rattle.cs_ast.specs.TypedProgram.{TypedProgram}
use Rattle.cs_meaning.specs.Types.{begins_in_struct, some_member}
use Rattle.cs_objects.specs.TypeView.{in_member}

-- except for the wanted struct itself at offset 0, a struct begins there exactly if it does in a member
pub struct_members : (program : TypedProgram) (wanted depth number offset : ℕ) (members : List Member) → 0 < depth
    → ((number == wanted) && (offset == 0)) ≡ false → members_of program.table number ≡ Some members
    → begins_in_struct program wanted depth number offset ≡ some_member (in_member program wanted (depth - 1) offset) members
struct_members program wanted zero number offset members above away is = absurd (omega arith)
struct_members program wanted (suc depth) number offset members above away is =
    let less : suc depth - 1 ≡ depth = omega arith in
    rw less (ap (λ here. here || some_member (in_member program wanted depth offset) (unwrap_or (members_of program.table number) [])) away
    ∙ ap (λ found. some_member (in_member program wanted depth offset) (unwrap_or found [])) is)
