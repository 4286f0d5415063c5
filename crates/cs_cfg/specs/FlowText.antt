-- The text of the flow of a program. Every line ends with a line feed.
use Rattle.std.specs.Prelude.{ℕ, true, false, List, [], ◌++◌, Option, Some, None, codes}
use Rattle.std.specs.List.{flat_map}
use Rattle.std.specs.Fmt.{decimal}
use Rattle.cs_ast.specs.declared.place.Place.{Place}
use Rattle.cs_ast.specs.TypedTree.{Statement}
use Rattle.cs_ast.specs.TypedProgram.{TypedProgram, Routine}
use Rattle.cs_model.specs.Places.{place_text}
use Rattle.cs_events.specs.declared.point.PointKind.{PointKind}
use Rattle.cs_events.specs.declared.point.PointKind.TheVariants.{Enter, Head, Label, Branch, Switch, Return, End}
use Rattle.cs_cfg.specs.ControlPoints.{Exit, Onward, TruthOf, CaseOf, Next, Way, ControlPoint, control_points}

abbrev pub kind_text : PointKind → List ℕ
kind_text Enter = codes "enter"
kind_text Head = codes "head"
kind_text Label = codes "label"
kind_text Branch = codes "branch"
kind_text Switch = codes "switch"
kind_text Return = codes "return"
kind_text End = codes "end"

-- the text of a way out of a point; empty if it is the only one
abbrev pub exit_text : Exit → List ℕ
exit_text Onward = []
exit_text (TruthOf true) = codes " true"
exit_text (TruthOf false) = codes " false"
exit_text (CaseOf number) = codes " case " ++ decimal number

-- `KIND PLACE`
abbrev pub point_text : List (List ℕ) → PointKind → Place → List ℕ
point_text files kind at = kind_text kind ++ codes " " ++ place_text files at

-- `  KIND PLACE WAY -> KIND PLACE`: a way out of a point, if it reaches another point
abbrev pub next_line : List (List ℕ) → ControlPoint → Exit → Next → List ℕ
next_line files one exit None = []
next_line files one exit (Some next) = codes "  " ++ point_text files one.kind one.at ++ exit_text exit ++ codes " -> " ++ point_text files next.kind next.at
    ++ codes "\n"

abbrev pub way_line : List (List ℕ) → ControlPoint → Way → List ℕ
way_line files one way = next_line files one way.exit way.next

-- the lines of a point: one for each way
abbrev pub point_lines : List (List ℕ) → ControlPoint → List ℕ
point_lines files one = flat_map (way_line files one) one.ways

-- the flow of a function with a body: its name, and the lines of its points
abbrev pub routine_text : List (List ℕ) → Routine → Option Statement → List ℕ
routine_text files routine None = []
routine_text files routine (Some body) = codes "flow " ++ routine.name ++ codes "\n" ++ flat_map (point_lines files) (control_points routine)

-- the flow of a program, function by function
abbrev pub program_flow : TypedProgram → List ℕ
program_flow program = flat_map (λ (routine : Routine). routine_text program.files routine routine.body) program.routines
