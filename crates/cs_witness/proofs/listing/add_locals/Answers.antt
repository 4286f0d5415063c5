use Rattle.std.proofs.Common.{◌≡◌, ◌+◌, ◌<◌, ◌≤◌, List, [], ◌∷◌, ◌++◌, length, map, take, sym, ap, ◌∙◌, subst, arith}
use Rattle.std.proofs.lemmas.List.{take_more, take_all, map-append}
use Rattle.cs_inputs.specs.declared.path.Path.{Path}
use Rattle.cs_ast.specs.declared.typed.program.Local.{Local}
use Rattle.cs_ast.specs.TypedProgram.{variable}
use Rattle.cs_meaning.specs.Calls.{root_path}
use Rattle.cs_inputs.specs.declared.path.Root.TheVariants.{Param}
use Rattle.cs_meaning.specs.Steps.{parameter_path}
use Rattle.cs_witness.specs.Listing.{Adds}
use Rattle.cs_witness.proofs.Keys.{adds_none, adds_then}
use Rattle.cs_witness.proofs.listing.add_locals.Goals as goal

pub loop-parameter-init : goal.loop-parameter-init
loop-parameter-init c = adds_none c.args.given.now c.args.inputs.now

pub loop-parameter-preserved : goal.loop-parameter-preserved
loop-parameter-preserved c =
    let read = c.args.parameters.now in
    let i = c.loop-parameter.parameter-index in
    let lookup = c.parameter-item.result in
    let below : i < length read = omega arith in
    let taken : take (i + 1) read ≡ take i read ++ lookup ∷ [] = take_more read i lookup below
    ∙ ap (λ (l : Local). take i read ++ l ∷ []) (sym c.parameter-item.is) in
    let path : Local → Path = λ l. parameter_path (variable l) in
    let paths : map parameter_path (map variable (take (i + 1) read)) ≡ map parameter_path (map variable (take i read)) ++ path lookup ∷ [] =
    ap (λ l. map parameter_path (map variable l)) taken ∙ ap (map parameter_path) (map-append variable (take i read) (lookup ∷ []))
    ∙ map-append parameter_path (map variable (take i read)) (variable lookup ∷ []) in
    let one : Adds c.args.given.now (path lookup ∷ []) c.loop-parameter.inputs c.add.new.inputs =
    subst (λ (p : Path). Adds c.args.given.now (p ∷ []) c.loop-parameter.inputs c.add.new.inputs) (c.root_path-path.ensures
    ∙ ap (λ name. root_path (Param name)) c.in_ok-copy.ensures) c.in_ok-add.ensures in
    subst (λ l. Adds c.args.given.now l c.args.inputs.now c.add.new.inputs) (sym paths)
    (adds_then c.args.given.now (map parameter_path (map variable (take i read))) (path lookup ∷ []) c.args.inputs.now c.loop-parameter.inputs
    c.add.new.inputs
    c.loop-parameter.invariant one)

pub returns : goal.returns
returns c =
    let read = c.args.parameters.now in
    let none : length read ≤ c.loop-parameter.parameter-index = omega arith in
    subst (λ (l : List Local). Adds c.args.given.now (map parameter_path (map variable l)) c.args.inputs.now c.loop-parameter.inputs)
    (take_all c.loop-parameter.parameter-index read none) c.loop-parameter.invariant
