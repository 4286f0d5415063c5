-- The kinds of faults that a list of checkers finds.
use Rattle.std.specs.Prelude.{◌≡◌, List}
use Rattle.std.specs.List.{Any}
use Rattle.cs_model.specs.declared.kind.Kind.{Kind}

-- each kind of fault is among these
abbrev pub AreAllKinds : List Kind → Type 0
AreAllKinds kinds = (fault : Kind) → Any (λ one. one ≡ fault) kinds
