-- The laws of this crate.
use Rattle.cs_file_scope.specs.Beginning.{begun}
use Rattle.cs_typing.specs.Files.{typed_file}
use Rattle.cs_first_faults.specs.Laws.{ExpressionsAreRefusedWhereTheyFailFirst, ConstantsAreRefusedWhereTheyFailFirst}
use Rattle.cs_first_faults.specs.Laws.{InitializersAreRefusedWhereTheyFailFirst, DeclarationsAreRefusedWhereTheyFailFirst}
use Rattle.cs_first_faults.specs.Laws.{StatementsAreRefusedWhereTheyFailFirst, FunctionsAreRefusedWhereTheyFailFirst, FilesAreRefusedWhereTheyFailFirst}
use Rattle.cs_first_faults.proofs.Expressions.{formed-first}
use Rattle.cs_first_faults.proofs.Files.{function-first, file-first}
use Rattle.cs_first_faults.proofs.Initials.{initial-first}
use Rattle.cs_first_faults.proofs.Names.{value_of-first, declarator-first, first-made}
use Rattle.cs_first_faults.proofs.Objects.{objects-first}
use Rattle.cs_first_faults.proofs.Statements.{declaration-first, statement-first}
use Rattle.cs_first_faults.proofs.Types.{specs-first, typedefs-first}

pub expressions_are_refused_where_they_fail_first : ExpressionsAreRefusedWhereTheyFailFirst
expressions_are_refused_where_they_fail_first = formed-first

pub constants_are_refused_where_they_fail_first : ConstantsAreRefusedWhereTheyFailFirst
constants_are_refused_where_they_fail_first = value_of-first

pub initializers_are_refused_where_they_fail_first : InitializersAreRefusedWhereTheyFailFirst
initializers_are_refused_where_they_fail_first = initial-first

pub declarations_are_refused_where_they_fail_first : DeclarationsAreRefusedWhereTheyFailFirst
declarations_are_refused_where_they_fail_first = record {
  words = specs-first;
  declarators = declarator-first;
  typedefs = typedefs-first;
  objects = objects-first;
  locals = declaration-first;
}

pub statements_are_refused_where_they_fail_first : StatementsAreRefusedWhereTheyFailFirst
statements_are_refused_where_they_fail_first = statement-first

pub functions_are_refused_where_they_fail_first : FunctionsAreRefusedWhereTheyFailFirst
functions_are_refused_where_they_fail_first = function-first

pub files_are_refused_where_they_fail_first : FilesAreRefusedWhereTheyFailFirst
files_are_refused_where_they_fail_first = record {
  whole = λ model files tokens tree. first-made _ (typed_file model tokens tree) _ (file-first tree (begun model tokens tree));
  parts = file-first;
}
