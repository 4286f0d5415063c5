-- Typing refuses each part of a file at its first failing position in the order of tokens, with the least code there, and nothing else.
use Rattle.std.specs.Prelude.{ℕ, List, Option}
use Rattle.cs_types.specs.declared.data_model.DataModel.{DataModel}
use Rattle.cs_types.specs.Shape.{Shape}
use Rattle.cs_ast.specs.declared.place.Place.{Place}
use Rattle.cs_ast.specs.declared.raw.declaration.RawDeclarator.{RawDeclarator}
use Rattle.cs_ast.specs.declared.raw.declaration.RawFunction.{RawFunction}
use Rattle.cs_ast.specs.declared.raw.declaration.RawInit.{RawInit}
use Rattle.cs_ast.specs.declared.raw.declaration.RawInitial.{RawInitial}
use Rattle.cs_ast.specs.declared.raw.declaration.RawSpecs.{RawSpecs}
use Rattle.cs_ast.specs.declared.raw.expression.RawExpr.{RawExpr}
use Rattle.cs_ast.specs.declared.raw.expression.RawExprKind.{RawExprKind}
use Rattle.cs_ast.specs.declared.raw.external.RawBody.{RawBody}
use Rattle.cs_ast.specs.declared.raw.external.RawExternal.{RawExternal}
use Rattle.cs_ast.specs.declared.raw.statement.RawStmtKind.{RawStmtKind}
use Rattle.cs_ast.specs.declared.token.Token.{Token}
use Rattle.cs_scopes.specs.declared.context.Context.{Context}
use Rattle.cs_expressions.specs.Primary.{Literals}
use Rattle.cs_consts.specs.declared.purpose.Purpose.{Purpose}
use Rattle.cs_consts.specs.Roles.{value_of}
use Rattle.cs_consts.specs.Typing.{formed}
use Rattle.cs_declarations.specs.Bodies.{declarator_type, specs_type, typedefs_added}
use Rattle.cs_declarations.specs.Environment.{Environment}
use Rattle.cs_declarations.specs.Initializers.{Storage, initial_typed}
use Rattle.cs_statements.specs.Locals.{Inside, TypedStatements}
use Rattle.cs_statements.specs.Statements.{Where, declaration_typed, statement_typed}
use Rattle.cs_file_scope.specs.Objects.{Filed, objects_added}
use Rattle.cs_file_scope.specs.Beginning.{begun}
use Rattle.cs_typing.specs.Files.{file_typed}
use Rattle.cs_typing.specs.Functions.{function_typed}
use Rattle.cs_typing.specs.Programs.{typed}
use Rattle.cs_first_faults.specs.Declarators.{named_failures}
use Rattle.cs_first_faults.specs.Expressions.{failures}
use Rattle.cs_first_faults.specs.Failures.{IsFirst}
use Rattle.cs_first_faults.specs.Files.{function_failures, file_failures}
use Rattle.cs_first_faults.specs.Initials.{initial_failures}
use Rattle.cs_first_faults.specs.Objects.{objects_failures}
use Rattle.cs_first_faults.specs.Roles.{constant_failures}
use Rattle.cs_first_faults.specs.Statements.{declaration_failures, statement_failures}
use Rattle.cs_first_faults.specs.Types.{specs_failures, typedefs_failures}

-- expressions (C11 6.5), for any purpose and any target
abbrev pub ExpressionsAreRefusedWhereTheyFailFirst : Type 0
ExpressionsAreRefusedWhereTheyFailFirst =
    (c : Context) (purpose : Purpose) (literals : Literals) (target : Option Shape) (at : Place) (e : RawExprKind)
    → IsFirst (formed c purpose literals target at e) (failures c purpose literals target at e)

-- constant expressions (C11 6.6)
abbrev pub ConstantsAreRefusedWhereTheyFailFirst : Type 0
ConstantsAreRefusedWhereTheyFailFirst = (c : Context) (e : RawExpr) → IsFirst (value_of c e) (constant_failures c e)

-- initializers (C11 6.7.9)
abbrev pub InitializersAreRefusedWhereTheyFailFirst : Type 0
InitializersAreRefusedWhereTheyFailFirst =
    (c : Context) (literals : Literals) (storage : Storage) (at : Place) (ty : Shape) (written : RawInitial)
    → IsFirst (initial_typed c literals storage at ty written) (initial_failures c literals storage at ty written)

-- declarations (C11 6.7): specifiers, declarators, and what is declared with them
pub record DeclarationsAreRefusedWhereTheyFailFirst : Type 0 where
  pub words : (k : Environment) (at : Place) (s : RawSpecs) → IsFirst (specs_type k at s) (specs_failures k at s)
  pub declarators : (c : Context) (base : Shape) (count : Option ℕ) (d : RawDeclarator)
      → IsFirst (declarator_type c base count d) (named_failures c base count d)
  pub typedefs : (base : Shape) (names : List RawDeclarator) (k : Environment) → IsFirst (typedefs_added base names k) (typedefs_failures base names k)
  pub objects : (s : RawSpecs) (base : Shape) (list : List RawInit) (f : Filed) → IsFirst (objects_added s base list f) (objects_failures s base list f)
  pub locals : (s : RawSpecs) (list : List RawInit) (so_far : TypedStatements)
      → IsFirst (declaration_typed s list so_far) (declaration_failures s list so_far)

-- statements (C11 6.8)
abbrev pub StatementsAreRefusedWhereTheyFailFirst : Type 0
StatementsAreRefusedWhereTheyFailFirst =
    (w : Where) (i : Inside) (at : Place) (s : RawStmtKind) → IsFirst (statement_typed w i at s) (statement_failures w i at s)

-- functions (C11 6.9.1), declared or defined, whose result has a type
abbrev pub FunctionsAreRefusedWhereTheyFailFirst : Type 0
FunctionsAreRefusedWhereTheyFailFirst =
    (d : RawFunction) (body : Option RawBody) (f : Filed) (result : Shape)
    → IsFirst (function_typed d body f result) (function_failures d body f result)

-- files (C11 6.9): whole ones, and parts of a file after any others
pub record FilesAreRefusedWhereTheyFailFirst : Type 0 where
  pub whole : (model : DataModel) (files : List (List ℕ)) (tokens : List Token) (tree : List RawExternal)
      → IsFirst (typed model files tokens tree) (file_failures tree (begun model tokens tree))
  pub parts : (tree : List RawExternal) (f : Filed) → IsFirst (file_typed tree f) (file_failures tree f)
