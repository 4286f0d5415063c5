-- What a cell holds after a list of writes: what the last write to it determines.
use Rattle.std.specs.Prelude.{ℕ, nat_eq, ◌&&◌, List, [], ◌∷◌, Option, None, Some, if◌then◌else◌}
use Rattle.std.specs.Option.{option_map, option_or, unwrap_or}
use Rattle.std.specs.List.{list_any}
use Rattle.cs_store.specs.declared.value.Fill.TheVariants.{Unset}
use Rattle.cs_store.specs.declared.value.Binding.{Binding}
use Rattle.cs_store.specs.declared.value.Binding.TheVariants as found
use Rattle.cs_store.specs.declared.write.Write.{Write}
use Rattle.cs_store.specs.declared.write.Write.TheVariants.{Bind, Default, Leaves, Drop}
use Rattle.cs_store.specs.Contents.{last_leaf}

-- what a cell holds after a write, if the write determines it
abbrev pub decided : Write → ℕ → ℕ → Option Binding
decided (Bind b o value) base offset = if nat_eq b base && nat_eq o offset then Some (found.Direct value) else None
decided (Default b fill) base offset = if nat_eq b base then Some (found.Fill fill) else None
decided (Leaves b leaves) base offset =
    if nat_eq b base then option_map (λ value. found.Direct value) (last_leaf leaves.items offset) else None
decided (Drop bases) base offset = if list_any (λ b. nat_eq base b) bases.items then Some (found.Fill Unset) else None

-- what a cell holds after the last of the writes that determine it
abbrev pub last_decided : List Write → ℕ → ℕ → Option Binding
last_decided [] base offset = None
last_decided (write ∷ later) base offset = option_or (last_decided later base offset) (decided write base offset)

-- what a cell holds after writes, in order, to an empty store: the last value bound there since the last fill or drop of its base region,
-- or else the fill
abbrev pub held_after : List Write → ℕ → ℕ → Binding
held_after writes base offset = unwrap_or (last_decided writes base offset) (found.Fill Unset)
