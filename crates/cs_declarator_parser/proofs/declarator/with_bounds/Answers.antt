use Rattle.std.proofs.Common.{◌≡◌, ◌+◌, ◌-◌, Err, refl, sym, subst, arith, rules}
use Rattle.cs_ast.specs.RawDeclarationView.{bounds_of}
use Rattle.cs_declarator_parser.specs.DeclarationAnswers.{DeclaratorAnswers}
use Rattle.cs_declarator_parser.proofs.DeclaratorSites.{bounds_stop, declarator_taken}
use Rattle.cs_declarator_parser.proofs.Placing.{bounds_after}
use Rattle.cs_declarator_parser.proofs.declarator.with_bounds.Goals as goal

pub returns-in_err-bounds-clause-parsed : goal.returns-in_err-bounds-clause-parsed
returns-in_err-bounds-clause-parsed c = λ from p.
    let e : c.from_residual.result ≡ Err c.in_err-bounds.field-0.0 = search rules in
    let less : c.args.limit ≡ 1 + (c.args.limit - 1) = let some = c.requires.some in omega arith in
    subst (DeclaratorAnswers c.args.declares c.args.source.now.names.now c.args.limit c.args.source.now.tokens.now from) (sym e)
    (bounds_stop c.args.declares c.args.source.now.names.now c.args.limit (c.args.limit - 1) less c.args.source.now.tokens.now from c.args.pointed p
    c.in_err-bounds.field-0.0 c.in_err-bounds.ensures.parsed)

pub returns-clause-parsed : goal.returns-clause-parsed
returns-clause-parsed c = λ from p.
    let less : c.args.limit ≡ 1 + (c.args.limit - 1) = let some = c.requires.some in omega arith in
    declarator_taken (λ list. bounds_of list.items) c.args.declares c.args.source.now.names.now c.args.limit (c.args.limit - 1) less
    c.args.source.now.tokens.now from c.args.pointed p c.in_ok-bounds.bounds c.in_ok-bounds.ensures.parsed _ refl refl refl

pub returns-clause-placed : goal.returns-clause-placed
returns-clause-placed c = λ from p at. (
  at,
  bounds_after c.args.pointed.tree.pointers.items c.args.pointed.tree.name.name c.args.source.now.tokens.now from c.args.pointed.next
      c.in_ok-bounds.bounds.tree.items p.spelled c.in_ok-bounds.ensures.placed,
)
