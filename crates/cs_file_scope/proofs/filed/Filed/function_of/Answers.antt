use Rattle.std.proofs.Common.{◌≡◌, true, false, Some, map, rules}
use Rattle.cs_types.specs.Shape.{shape_of}
use Rattle.cs_ast.specs.TypedProgram.{variable}
use Rattle.cs_scopes.specs.Meanings.{Function, signature_of}
use Rattle.cs_declarations.specs.Environment.{meaning_here}
use Rattle.cs_declarations.specs.View.{environment_of}
use Rattle.cs_file_scope.specs.Functions.{same_types, types_of}
use Rattle.cs_file_scope.specs.View.{filed_of}
use Rattle.cs_file_scope.proofs.FunctionAgain.{declared_again}
use Rattle.cs_file_scope.proofs.filed.Filed.function_of.Goals as goal

pub returns-then-same_types : goal.returns-then-same_types
returns-then-same_types c =
    let f = filed_of c.args.self.now in
    let d = c.args.head.now in
    let before = signature_of c.in-Some-Function.before in
    let parameters = map variable c.args.parameters.now.parameters.items in
    let is : Some (Function (signature_of c.in-Some-Function.before)) ≡ meaning_here c.args.head.now.name (environment_of c.args.self.now.known) =
    first_of (search rules, cc) in
    let types : true ≡ same_types (signature_of c.in-Some-Function.before).parameters (types_of (map variable c.args.parameters.now.parameters.items)) =
    first_of (cc, search rules) in
    declared_again f d (shape_of c.args.returns.now) parameters c.args.parameters.now.written.items (meaning_here d.name (environment_of c.args.self.now.known))
    before true is types

pub returns-else-same_types : goal.returns-else-same_types
returns-else-same_types c =
    let f = filed_of c.args.self.now in
    let d = c.args.head.now in
    let before = signature_of c.in-Some-Function.before in
    let parameters = map variable c.args.parameters.now.parameters.items in
    let is : Some (Function (signature_of c.in-Some-Function.before)) ≡ meaning_here c.args.head.now.name (environment_of c.args.self.now.known) =
    first_of (search rules, cc) in
    let types : false ≡ same_types (signature_of c.in-Some-Function.before).parameters (types_of (map variable c.args.parameters.now.parameters.items)) =
    first_of (cc, search rules) in
    declared_again f d (shape_of c.args.returns.now) parameters c.args.parameters.now.written.items (meaning_here d.name (environment_of c.args.self.now.known))
    before false is types
