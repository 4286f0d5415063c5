use Rattle.std.proofs.Common.{◌≡◌, ◌-◌, Err, refl, sym, subst, arith, rules}
use Rattle.cs_ast.specs.RawDeclarationView.{bounds_of}
use Rattle.cs_declarator_parser.specs.ParameterAnswers.{ParameterAnswer}
use Rattle.cs_declarator_parser.proofs.ParameterSites.{tail_stops, tail_stands, after_specs_stops, stopped, parameter_stands, parameter_taken}
use Rattle.cs_declarator_parser.proofs.ParameterSites.{pointers_no_const}
use Rattle.cs_declarator_parser.proofs.ParameterSites.{name_stops, specs_stop}
use Rattle.cs_declarator_parser.proofs.PlacingParameters.{parameter_placed}
use Rattle.cs_declarator_parser.specs.declared.source.Scope.TheVariants as scope
use Rattle.cs_declarator_parser.specs.Aptness.{IsAnswerApt}
use Rattle.cs_declarator_parser.proofs.AptReasons.{stop_apt}
use Rattle.cs_declarator_parser.proofs.parameters.parameter.Goals as goal

pub returns-in_err-specs-clause-parsed : goal.returns-in_err-specs-clause-parsed
returns-in_err-specs-clause-parsed c =
    let enough = c.requires.enough in
    let e : c.from_residual.result ≡ Err c.in_err-specs.field-0.0 = search rules in
    subst (ParameterAnswer c.args.source.now.names.now c.args.limit c.args.source.now.tokens.now c.args.from) (sym e)
    (specs_stop c.args.source.now.names.now c.args.limit (c.args.limit - 1) (omega arith) (omega arith) c.args.source.now.tokens.now c.args.from
    c.requires.within c.in_err-specs.field-0.0 c.in_err-specs.ensures.parsed)

pub returns-in_err-name-clause-parsed : goal.returns-in_err-name-clause-parsed
returns-in_err-name-clause-parsed c =
    let enough = c.requires.enough in
    let e : c.from_residual-in_err-name.result ≡ Err c.in_err-name.field-0.0 = search rules in
    subst (ParameterAnswer c.args.source.now.names.now c.args.limit c.args.source.now.tokens.now c.args.from) (sym e)
    (name_stops c.args.source.now.names.now c.args.limit (c.args.limit - 1) (omega arith) (omega arith) c.args.source.now.tokens.now c.args.from
    c.in_ok-pointers.pointers.next c.in_ok-specs.specs c.in_ok-specs.ensures.parsed c.in_ok-pointers.pointers.tree.items c.in_ok-pointers.ensures.pointers
    c.in_err-name.field-0.0 c.in_err-name.ensures.name)

pub returns-in_err-bounds-clause-parsed : goal.returns-in_err-bounds-clause-parsed
returns-in_err-bounds-clause-parsed c =
    let enough = c.requires.enough in
    let e : c.from_residual-in_err-bounds.result ≡ Err c.in_err-bounds.field-0.0 = search rules in
    let n = c.in_ok-name.ensures.name in
    subst (ParameterAnswer c.args.source.now.names.now c.args.limit c.args.source.now.tokens.now c.args.from) (sym e)
    (stopped c.args.source.now.names.now c.args.limit c.args.source.now.tokens.now c.args.from c.in_err-bounds.field-0.0
    (after_specs_stops c.args.source.now.names.now c.args.limit (c.args.limit - 1) (omega arith) (omega arith) c.args.source.now.tokens.now c.args.from
    c.in_ok-specs.specs c.in_ok-specs.ensures.parsed c.in_err-bounds.field-0.0
    (tail_stops c.args.source.now.names.now (c.args.limit - 1) c.args.source.now.tokens.now c.in_ok-specs.specs.next c.in_ok-pointers.pointers.next
    c.in_ok-name.name.next c.in_ok-pointers.pointers.tree.items c.in_ok-name.name.tree
    (record {
      pointers = c.in_ok-pointers.ensures.pointers;
      no_const = pointers_no_const c.args.source.now.names.now (c.args.limit - 1) c.args.source.now.tokens.now c.args.from c.in_ok-pointers.pointers.next
          c.in_ok-specs.specs c.in_ok-pointers.pointers.tree.items c.in_ok-specs.ensures.parsed c.in_ok-pointers.ensures.pointers;
      named = n.0;
      spelled = n.2;
    }) c.in_err-bounds.field-0.0 c.in_err-bounds.ensures.parsed)))

pub returns-clause-parsed : goal.returns-clause-parsed
returns-clause-parsed c =
    let enough = c.requires.enough in
    let n = c.in_ok-name.ensures.name in
    let s = c.in_ok-specs.ensures.parsed.height_is in
    let b = c.in_ok-bounds.ensures.parsed in
    let h = b.height_is in
    let m = c.max.ensures in
    parameter_taken c.args.source.now.names.now c.args.limit c.args.source.now.tokens.now c.args.from c.in_ok-bounds.bounds.next _
    (parameter_stands c.args.source.now.names.now c.args.limit (c.args.limit - 1) (omega arith) (omega arith) c.args.source.now.tokens.now c.args.from
    c.in_ok-bounds.bounds.next c.in_ok-specs.specs c.in_ok-specs.ensures.parsed _
    (tail_stands c.args.source.now.names.now (c.args.limit - 1) c.args.source.now.tokens.now c.in_ok-specs.specs.next c.in_ok-pointers.pointers.next
    c.in_ok-name.name.next c.in_ok-bounds.bounds.next c.in_ok-pointers.pointers.tree.items c.in_ok-name.name.tree
    (record {
      pointers = c.in_ok-pointers.ensures.pointers;
      no_const = pointers_no_const c.args.source.now.names.now (c.args.limit - 1) c.args.source.now.tokens.now c.args.from c.in_ok-pointers.pointers.next
          c.in_ok-specs.specs c.in_ok-pointers.pointers.tree.items c.in_ok-specs.ensures.parsed c.in_ok-pointers.ensures.pointers;
      named = n.0;
      spelled = n.2;
    }) (bounds_of c.in_ok-bounds.bounds.tree.items) b.spelled b.took))
    _ refl (omega arith) refl

pub returns-clause-placed : goal.returns-clause-placed
returns-clause-placed c =
    let n = c.in_ok-name.ensures.name in
    parameter_placed _ c.args.source.now.tokens.now c.args.from c.in_ok-specs.specs.next c.in_ok-pointers.pointers.next c.in_ok-name.name.next
    c.place_at.ensures c.in_ok-specs.ensures.placed c.in_ok-specs.ensures.parsed.spelled c.in_ok-pointers.ensures.pointers.spelled n.2
    c.in_ok-name.ensures.placed c.in_ok-bounds.ensures.placed

pub returns-in_err-bounds-clause-apt : goal.returns-in_err-bounds-clause-apt
returns-in_err-bounds-clause-apt c =
    let e : c.from_residual-in_err-bounds.result ≡ Err c.in_err-bounds.field-0.0 = search rules in
    subst (IsAnswerApt scope.File c.args.source.now.tokens.now) (sym e)
    (stop_apt scope.File c.args.source.now.tokens.now c.in_err-bounds.field-0.0 c.in_err-bounds.ensures.apt)
