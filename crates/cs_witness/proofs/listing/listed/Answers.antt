use Rattle.std.proofs.Common.{map, [], subst}
use Rattle.cs_ast.specs.TypedProgram.{typed_program}
use Rattle.cs_meaning.specs.Machine.{routine_of}
use Rattle.cs_meaning.specs.Steps.{parameters_of, parameter_path}
use Rattle.cs_witness.specs.Listing.{Adds, path_read}
use Rattle.cs_witness.proofs.Keys.{lists_just, lists_alike, lists_in_order}
use Rattle.cs_witness.proofs.listing.listed.Goals as goal

pub returns : goal.returns
returns c =
    let given = c.args.given.now in
    let program = typed_program c.args.entry.now.program.now in
    let parameters = map parameter_path (parameters_of (routine_of program c.args.entry.now.function)) in
    let read = map path_read c.args.read.now in
    let middle = c.add_parameters.new.inputs in
    let new = c.add_read.new.inputs in
    let one : Adds given parameters [] middle = subst (λ old. Adds given parameters old middle) c.new-inputs.ensures c.in_ok-add_parameters.ensures in
    record {
      in_order = lists_in_order given parameters read middle new one c.in_ok-add_read.ensures;
      listed = lists_just given parameters read middle new one c.in_ok-add_read.ensures;
      agrees = lists_alike given parameters read middle new one c.in_ok-add_read.ensures;
    }
