-- Which reports are selected: those of the requested kinds.
use Rattle.std.specs.Prelude.{Bool, false, ◌==◌, List, [], ◌∷◌}
use Rattle.std.specs.List.{list_any}
use Rattle.cs_model.specs.declared.kind.Kind.{Kind}
use Rattle.cs_model.specs.declared.kind.Kind.TheVariants.{Null, Divide, Unset, Bounds, DoubleFree, Freed, BadFree, DeadLocal, Shift, Unrelated, ConstWrite}
use Rattle.cs_model.specs.Kinds.{kind_number}
use Rattle.cs_events.specs.declared.outcome.Outcome.{Outcome}
use Rattle.cs_events.specs.declared.outcome.Outcome.TheVariants.{Done, Fault, Over}
use Rattle.cs_results.specs.declared.finding.Finding.{Finding}
use Rattle.cs_results.specs.declared.result.EntryResult.{EntryResult}

-- every kind, by number
abbrev pub every_kind : List Kind
every_kind = Null ∷ Divide ∷ Unset ∷ Bounds ∷ DoubleFree ∷ Freed ∷ BadFree ∷ DeadLocal ∷ Shift ∷ Unrelated ∷ ConstWrite ∷ []

-- whether an outcome is a fault of this kind
abbrev pub is_kind : Kind → Outcome → Bool
is_kind kind (Fault other at) = kind_number kind == kind_number other
is_kind kind (Done returned) = false
is_kind kind (Over budget at) = false

-- a report is selected if its kind is one of the requested ones
abbrev pub is_selected : List Kind → Outcome → Bool
is_selected kinds what = list_any (λ kind. is_kind kind what) kinds

-- whether one of the findings is a report of one of these kinds
abbrev pub has_report : List Kind → List Finding → Bool
has_report kinds findings = list_any (λ (f : Finding). is_selected kinds f.what) findings

-- whether a report of one of these kinds is listed
abbrev pub lists_report : List Kind → List EntryResult → Bool
lists_report kinds results = list_any (λ (r : EntryResult). has_report kinds r.reports.items) results
