use Rattle.std.proofs.Common.{◌≡◌, ℕ, ◌+◌, ◌<◌, ◌≤◌, ℤ, FitsSigned, List, [], ◌∷◌, ◌++◌, map, take, drop, length, get_or, sym}
use Rattle.std.proofs.Common.{ap, ◌∙◌, arith, rules}
use Rattle.std.specs.Int.{w128}
use Rattle.std.proofs.lemmas.Int.{to_z-of_z}
use Rattle.std.proofs.lemmas.List.{take_more, drop_more, at_drop_all}
use Rattle.cs_ast.specs.declared.typed.program.Local.{Local}
use Rattle.cs_ast.specs.TypedProgram.{Variable, typed_program, variable}
use Rattle.cs_inputs.specs.declared.path.Path.{Path}
use Rattle.cs_inputs.specs.declared.path.Root.TheVariants as root
use Rattle.cs_inputs.specs.Inputs.{number_at}
use Rattle.cs_meaning.specs.Calls.{root_path}
use Rattle.cs_meaning.specs.Machine as machine
use Rattle.cs_meaning.specs.Memory.{Memory}
use Rattle.cs_meaning.specs.Inputs.{opened}
use Rattle.cs_meaning.specs.Steps.{parameter_path, received, with_received}
use Rattle.cs_values.specs.declared.objects.Operand.{Operand}
use Rattle.cs_values.specs.declared.objects.Operand.TheVariants as operand
use Rattle.cs_values.specs.View.{cell_of, operand_of}
use Rattle.cs_memory.specs.MemoryView.{memory_of}
use Rattle.cs_objects.proofs.Pushing.{map-push}
use Rattle.cs_frames.proofs.starting.received.Goals as goal

-- one more parameter and its value
more_values : (gives : Variable → machine.Operand) (made after : List Operand) (last : Operand) (locals : List Local) (i : ℕ) (local : Local)
    → i < length locals → local ≡ get_or locals i local → map operand_of made ≡ map gives (map variable (take i locals))
    → after ≡ made ++ last ∷ [] → operand_of last ≡ gives (variable local) → map operand_of after ≡ map gives (map variable (take (i + 1) locals))
more_values gives made after last locals i local below is before pushed same =
    let one : take (i + 1) locals ≡ take i locals ++ local ∷ [] = take_more locals i local below
    ∙ ap (λ (l : Local). take i locals ++ l ∷ []) (sym is) in
    let all : map variable (take (i + 1) locals) ≡ map variable (take i locals) ++ variable local ∷ [] = ap (map variable) one
    ∙ map-push variable (take i locals) local in
    let there : map gives (map variable (take (i + 1) locals)) ≡ map gives (map variable (take i locals)) ++ gives (variable local) ∷ [] =
    ap (map gives) all ∙ map-push gives (map variable (take i locals)) (variable local) in
    let here : map operand_of after ≡ map operand_of made ++ operand_of last ∷ [] = ap (map operand_of) pushed ∙ map-push operand_of made last in
    here ∙ (ap (λ (l : List machine.Operand). l ++ operand_of last ∷ []) before
    ∙ (ap (λ (o : machine.Operand). map gives (map variable (take i locals)) ++ o ∷ []) same ∙ sym there))

-- a parameter before the others
one_before : (locals : List Local) (i : ℕ) (local : Local) → i < length locals → local ≡ get_or locals i local
    → map variable (drop i locals) ≡ variable local ∷ map variable (drop (i + 1) locals)
one_before locals i local below is =
    ap (map variable) (drop_more locals i local below ∙ ap (λ (l : Local). l ∷ drop (i + 1) locals) (sym is))

pub loop-parameter-preserved : goal.loop-parameter-preserved
loop-parameter-preserved c =
    let program = typed_program c.args.setting.now.program.now in
    let numbers : Path → ℤ = number_at c.args.setting.now.inputs.now in
    let locals = c.args.parameters.now in
    let i = c.loop-parameter.parameter-index in
    let local = c.parameter-item.result in
    let v = variable local in
    let below : i < length locals = omega arith in
    let path : c.root_path-path.result ≡ parameter_path v = c.root_path-path.ensures
    ∙ ap (λ (name : List ℕ). root_path (root.Param name)) c.in_ok-copy.ensures in
    let number : c.get-number.result ≡ numbers (parameter_path v) = c.get-number.ensures ∙ ap numbers path in
    let fits : FitsSigned w128 c.get-number.result = search rules in
    let plain = to_z-of_z w128 c.get-number.result fits in
    let kind = c.input_kind.ensures in
    let cell : cell_of c.in_ok-cell.cell ≡ received program numbers v = rw (path, plain, number, kind) at c.in_ok-cell.ensures in
    let opens : memory_of c.open.new.self ≡ opened program (parameter_path v) v.ty v.block (received program numbers v) (memory_of c.loop-parameter.memory) =
    rw (path, cell) at c.in_ok-open.ensures.memory in
    record {
      values = more_values (λ p. machine.Scalar (received program numbers p)) c.loop-parameter.made.items c.push.new.self.items
          (operand.Scalar c.in_ok-cell.cell) locals i local below c.parameter-item.is c.loop-parameter.invariant.values c.in_ok-push.ensures.items
          (ap machine.Scalar cell);
      memory = ap (with_received program numbers (map variable (drop (i + 1) locals))) opens
          ∙ (sym (ap (λ (vs : List Variable). with_received program numbers vs (memory_of c.loop-parameter.memory))
          (one_before locals i local below c.parameter-item.is)) ∙ c.loop-parameter.invariant.memory);
      counts = record {
        frames = c.in_ok-open.ensures.counts.frames ∙ c.loop-parameter.invariant.counts.frames;
        allocations = c.in_ok-open.ensures.counts.allocations ∙ c.loop-parameter.invariant.counts.allocations;
      };
    }

pub returns-clause-memory : goal.returns-clause-memory
returns-clause-memory c =
    let gone : Memory → List Local → Memory = λ memory locals.
    with_received (typed_program c.args.setting.now.program.now) (number_at c.args.setting.now.inputs.now) (map variable locals) memory in
    let none : length c.args.parameters.now ≤ c.loop-parameter.parameter-index = omega arith in
    sym (at_drop_all (gone (memory_of c.loop-parameter.memory)) c.args.parameters.now c.loop-parameter.parameter-index none)
    ∙ c.loop-parameter.invariant.memory
