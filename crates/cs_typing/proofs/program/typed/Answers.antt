use Rattle.cs_file_scope.specs.View.{filed_of}
use Rattle.cs_typing.proofs.ProgramsLaidOut.{laid_out, made}
use Rattle.cs_typing.proofs.WellFiles.{well_formed}
use Rattle.cs_typing.proofs.program.typed.Goals as goal

pub returns-clause-reported : goal.returns-clause-reported
returns-clause-reported c =
    made c.args.model c.args.files.now c.in_ok-copied.field-0.items c.args.tokens.now c.args.file.now (filed_of c.in_ok-known.field-0)
    c.in_ok-constants_of.field-0.items
    c.in_ok-known.ensures c.in_ok-copied.ensures c.in_ok-constants_of.ensures

pub returns-clause-laid_out : goal.returns-clause-laid_out
returns-clause-laid_out c = laid_out c.args.model c.args.files.now c.args.tokens.now c.args.file.now _ (returns-clause-reported c)

pub returns-clause-well_formed : goal.returns-clause-well_formed
returns-clause-well_formed c = well_formed c.args.model c.args.files.now c.args.tokens.now c.args.file.now _ (returns-clause-reported c)
