-- The interpreter's view of an access, as that of the reference machine.
use Rattle.cs_types.specs.Shape.{shape_of}
use Rattle.cs_meaning.specs.Access as access
use Rattle.cs_objects.specs.declared.access.Access.{Access}

-- an access
abbrev pub access_of : Access → access.Access
access_of a = record { at = a.place; ty = shape_of a.ty.now; direct = a.direct; local = a.local }
