-- The things to do after a search for a label.
use Rattle.std.specs.Prelude.{◌≡◌, ℕ, ◌+◌, ◌==◌, if◌then◌else◌, List, ◌∷◌, Option, Some, None, Vec}
use Rattle.std.specs.declared.alloc.Global.{Global}
use Rattle.cs_ast.specs.declared.place.Place.{Place}
use Rattle.cs_ast.specs.TypedTree.{Statement}
use Rattle.cs_meaning.specs.Jumps as jumps
use Rattle.cs_meaning.specs.Machine.{Item as ToDo, Execute}
use Rattle.cs_run_state.specs.declared.items.Item.{Item}
use Rattle.cs_frames.specs.declared.landing.Landing.{Landing}
use Rattle.cs_run_state.specs.MachineView.{todo_of}

-- the label was found as wanted, with these things to do there; or there is none, and the things to do are the same as before
abbrev pub lands_at : Option jumps.Landing → Vec Item Global → Vec Item Global → Option Landing → Type 0
lands_at wanted old new None = (wanted ≡ None) × (todo_of new.items ≡ todo_of old.items)
lands_at wanted old new (Some found) = wanted ≡ Some (record { counted_point = found.counted_point; at = found.place; todo = todo_of new.items })

-- the label in a labeled statement at a source position
abbrev pub label_landing : ℕ → ℕ → Place → Statement → ℕ → List ToDo → Option jumps.Landing
label_landing wanted label at body counted_point following =
    if label == wanted
    then Some (record { counted_point = counted_point; at = at; todo = Execute body (counted_point + 1) ∷ following })
    else jumps.landing wanted body (counted_point + 1) following
