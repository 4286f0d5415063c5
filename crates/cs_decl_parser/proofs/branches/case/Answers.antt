-- Each return is the refusal of the keyword or of the value, or both were taken.
use Rattle.std.proofs.Common.{◌≡◌, Err, refl, sym, subst, arith, rules}
use Rattle.cs_ast.specs.RawStatementView.{switch_item}
use Rattle.cs_grammar.specs.FileClasses.{SwitchParts}
use Rattle.cs_declarator_parser.specs.Answers.{Answers}
use Rattle.cs_decl_parser.proofs.BlockSites.{case_full, case_stops, case_taken}
use Rattle.cs_decl_parser.proofs.PlacingStatements.{case_placed}
use Rattle.cs_decl_parser.proofs.branches.case.Goals as goal

pub returns-then-limit-eq0-clause-parsed : goal.returns-then-limit-eq0-clause-parsed
returns-then-limit-eq0-clause-parsed c =
    case_full c.args.source.now.names.now c.args.limit c.args.source.now.tokens.now c.args.from c.refuse_deep.result (let w = c.requires.within in
    omega arith) c.if-limit-eq0.true c.requires.stands c.refuse_deep.ensures.is

pub returns-in_err-value-clause-parsed : goal.returns-in_err-value-clause-parsed
returns-in_err-value-clause-parsed c =
    let e : c.from_residual.result ≡ Err c.in_err-value.field-0.0 = search rules in
    subst (Answers (SwitchParts c.args.source.now.names.now) switch_item c.args.limit c.args.source.now.tokens.now c.args.from) (sym e)
    (case_stops c.args.source.now.names.now c.args.limit c.args.source.now.tokens.now c.args.from (let some = c.if-limit-eq0.false in
    omega arith) c.requires.stands c.in_err-value.field-0.0 c.in_err-value.ensures.parsed)

pub returns-clause-parsed : goal.returns-clause-parsed
returns-clause-parsed c =
    case_taken c.args.source.now.names.now c.args.limit c.args.source.now.tokens.now c.args.from c.in_ok-value.value _ (let some = c.if-limit-eq0.false in
    omega arith) c.requires.stands c.in_ok-value.ensures.parsed refl refl refl

pub returns-clause-placed : goal.returns-clause-placed
returns-clause-placed c =
    case_placed c.args.source.now.tokens.now c.args.from c.place_at.result c.in_ok-value.value.tree c.place_at.ensures c.in_ok-value.ensures.placed
