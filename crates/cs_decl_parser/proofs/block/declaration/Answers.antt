-- Each return is the refusal of the first token, of the specifiers or of the objects, or all were taken.
use Rattle.std.proofs.Common.{◌≡◌, Err, refl, sym, subst, arith, rules}
use Rattle.cs_declarator_parser.specs.Answers.{ExactAnswers}
use Rattle.cs_decl_parser.specs.Blocks.{Locals, local_of}
use Rattle.cs_decl_parser.proofs.LocalSites.{local_none, local_type_stops, local_objects_stop, local_taken}
use Rattle.cs_decl_parser.proofs.PlacingStatements.{declaration_placed}
use Rattle.cs_decl_parser.proofs.block.declaration.Goals as goal

pub returns-then-limit-lt2-clause-parsed : goal.returns-then-limit-lt2-clause-parsed
returns-then-limit-lt2-clause-parsed c =
    local_none c.args.source.now.names.now c.args.limit c.args.source.now.tokens.now c.args.from c.refuse_deep.result c.requires.within c.if-limit-lt2.true
    c.requires.typed c.refuse_deep.ensures.is

pub returns-in_err-specs-clause-parsed : goal.returns-in_err-specs-clause-parsed
returns-in_err-specs-clause-parsed c =
    let e : c.from_residual.result ≡ Err c.in_err-specs.field-0.0 = search rules in
    subst (ExactAnswers (Locals c.args.source.now.names.now) local_of c.args.limit c.args.source.now.tokens.now c.args.from) (sym e)
    (local_type_stops c.args.source.now.names.now c.args.limit c.args.source.now.tokens.now c.args.from c.if-limit-lt2.false c.requires.within
    c.in_err-specs.field-0.0 c.in_err-specs.ensures.parsed)

pub returns-in_err-objects-clause-parsed : goal.returns-in_err-objects-clause-parsed
returns-in_err-objects-clause-parsed c =
    let e : c.from_residual-in_err-objects.result ≡ Err c.in_err-objects.field-0.0 = search rules in
    subst (ExactAnswers (Locals c.args.source.now.names.now) local_of c.args.limit c.args.source.now.tokens.now c.args.from) (sym e)
    (local_objects_stop c.args.source.now.names.now c.args.limit c.args.source.now.tokens.now c.args.from c.in_ok-specs.specs c.if-limit-lt2.false
    c.requires.within c.in_ok-specs.ensures.parsed c.in_err-objects.field-0.0 c.in_err-objects.ensures.parsed)

pub returns-clause-parsed : goal.returns-clause-parsed
returns-clause-parsed c =
    let h = c.max.ensures in
    local_taken c.args.source.now.names.now c.args.limit c.args.source.now.tokens.now c.args.from c.in_ok-specs.specs c.in_ok-objects.objects _
    c.if-limit-lt2.false c.requires.within c.in_ok-specs.ensures.parsed c.in_ok-objects.ensures.parsed refl (omega arith) refl

pub returns-clause-placed : goal.returns-clause-placed
returns-clause-placed c =
    declaration_placed c.args.source.now.tokens.now c.args.from c.in_ok-specs.specs.next c.in_ok-specs.specs.tree c.in_ok-objects.objects.tree.items
    c.in_ok-specs.ensures.parsed.spelled c.in_ok-specs.ensures.placed c.in_ok-objects.ensures.placed
