-- The line of a replayed run's outcome.
use Rattle.std.specs.Prelude.{ℕ, List, [], ◌++◌, codes}
use Rattle.std.specs.Fmt.{signed_decimal}
use Rattle.cs_model.specs.Kinds.{kind_name}
use Rattle.cs_model.specs.Places.{place_text}
use Rattle.cs_events.specs.Budgets.{budget_name}
use Rattle.cs_events.specs.declared.outcome.Outcome.{Outcome}
use Rattle.cs_events.specs.declared.outcome.Outcome.TheVariants.{Done, Fault, Over}
use Rattle.cs_events.specs.declared.outcome.Returned.{Returned}
use Rattle.cs_events.specs.declared.outcome.Returned.TheVariants.{Nothing, Number, Null, Object, Unset}

-- what an entry returned, after a space
abbrev pub returned_text : Returned → List ℕ
returned_text Nothing = []
returned_text (Number n) = codes " " ++ signed_decimal n
returned_text Null = codes " null"
returned_text Object = codes " object"
returned_text Unset = codes " unset"

-- `done`, `done RETURNED`, `fault KIND PLACE` or `over BUDGET PLACE`, where positions name files by number
abbrev pub replay_line : List (List ℕ) → Outcome → List ℕ
replay_line files (Done returned) = codes "done" ++ returned_text returned ++ codes "\n"
replay_line files (Fault kind at) = codes "fault " ++ kind_name kind ++ codes " " ++ place_text files at ++ codes "\n"
replay_line files (Over budget at) = codes "over " ++ budget_name budget ++ codes " " ++ place_text files at ++ codes "\n"
