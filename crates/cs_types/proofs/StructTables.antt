-- What a laid out table implies for its structs: for the contracts of `size`, `align` and `leaf_at`.
use Rattle.std.proofs.Common.{◌≡◌, ℕ, List, sym, ◌∙◌, ap, refl}
use Rattle.std.specs.Prelude.{Option, Some, None, slice_get}
use Rattle.std.specs.Option.{option_map, option_and_then}
use Rattle.cs_types.specs.declared.data_model.DataModel.{DataModel}
use Rattle.cs_types.specs.Members.{Member}
use Rattle.cs_types.specs.declared.structs.StructType.{StructType}
use Rattle.cs_types.specs.Shape.{struct}
use Rattle.cs_types.specs.Layout.{Layout, IsLaidOut, IsLaid, layout_of, complete_of}

-- a complete struct is in the table and has members
pub record IsComplete (table : List StructType) (number : ℕ) (found : StructType) : Type 0 where
  pub members : List Member
  pub stands : slice_get table number ≡ Some found
  pub has_members : found.members ≡ Some members

with_members : (s found : StructType) (members : Option (List Member)) → s.members ≡ members → option_map (λ _. s) members ≡ Some found
    → (ms : List Member) × (s ≡ found) × (s.members ≡ Some ms)
with_members s found None e h = cc
with_members s found (Some ms) e h = (ms, cc, e)

from_found : (o : Option StructType) (found : StructType) → option_and_then (λ (s : StructType). option_map (λ _. s) s.members) o ≡ Some found
    → (ms : List Member) × (o ≡ Some found) × (found.members ≡ Some ms)
from_found None found h = cc
from_found (Some s) found h =
    let parts = with_members s found s.members refl h in
    (parts.0, ap Some parts.1, ap (λ (x : StructType). x.members) (sym parts.1) ∙ parts.2)

pub complete-IsComplete : (table : List StructType) (number : ℕ) (found : StructType) → complete_of table number ≡ Some found
    → IsComplete table number found
complete-IsComplete table number found h =
    let parts = from_found (slice_get table number) found h in
    record { members = parts.0; stands = parts.1; has_members = parts.2 }

pub laid : (model : DataModel) (table : List StructType) (number : ℕ) (found : StructType) → IsLaidOut model table
    → (at : IsComplete table number found) → IsLaid model table number found at.members
laid model table number found h at = (h number found at.members at.stands at.has_members).1

-- the size that the table has for a struct
pub laid-size : (model : DataModel) (table : List StructType) (number : ℕ) (found : StructType) → IsLaidOut model table
    → complete_of table number ≡ Some found → Some found.size ≡ option_map (λ (layout : Layout). layout.size) (layout_of model table (struct number))
laid-size model table number found h e = sym (laid model table number found h (complete-IsComplete table number found e)).size

-- and the alignment
pub laid-align : (model : DataModel) (table : List StructType) (number : ℕ) (found : StructType) → IsLaidOut model table
    → complete_of table number ≡ Some found → Some found.align ≡ option_map (λ (layout : Layout). layout.align) (layout_of model table (struct number))
laid-align model table number found h e = sym (laid model table number found h (complete-IsComplete table number found e)).align
