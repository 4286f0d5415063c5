-- Structs as lists of numbers, with which proofs distinguish them.
use Rattle.std.specs.Prelude.{ℕ, List, Option, refl}
use Rattle.std.specs.Coded.{Coded, code_by, coded×, coded_ℕ, coded_list, coded_option}
use Rattle.cs_types.specs.declared.structs.StructType.{StructType}
use Rattle.cs_types.specs.Members.{Member}
use Rattle.cs_types.specs.Codes.{members_code}

abbrev pub struct_code : Coded StructType
struct_code =
    code_by (List ℕ × (Option (List Member) × (ℕ × ℕ)))
    (coded× (coded_list coded_ℕ) (coded× (coded_option members_code) (coded× coded_ℕ coded_ℕ)))
    (λ s. (s.tag, (s.members, (s.size, s.align))))
    (λ p. record { tag = p.0; members = p.1.0; size = p.1.1.0; align = p.1.1.1 })
    (λ _. refl)

abbrev pub structs_code : Coded (List StructType)
structs_code = coded_list struct_code
