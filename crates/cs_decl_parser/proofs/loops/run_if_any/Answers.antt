use Rattle.std.proofs.Common.{Option, subst}
use Rattle.cs_ast.specs.declared.raw.expression.RawExpr.{RawExpr}
use Rattle.cs_declarator_parser.specs.DeclarationPlaces.{IsSomePlaced}
use Rattle.cs_decl_parser.proofs.loops.run_if_any.Goals as goal

pub returns-in-Some-clause-placed : goal.returns-in-Some-clause-placed
returns-in-Some-clause-placed c = λ list value. subst (λ (e : Option RawExpr). IsSomePlaced e list) c.in-Some.is value

pub returns-in-None-clause-placed : goal.returns-in-None-clause-placed
returns-in-None-clause-placed c = λ list value. tt
