use Rattle.std.proofs.Common.{Option, drop, refl, subst}
use Rattle.cs_ast.specs.declared.raw.name.RawName.{RawName}
use Rattle.cs_expr_parser.specs.Positions.{kind_or_end}
use Rattle.cs_declarator_parser.specs.DeclarationAnswers.{IsNameAt, IsNameFor}
use Rattle.cs_declarator_parser.proofs.DeclaratorSites.{name_pointed, pointed_missing}
use Rattle.cs_grammar.specs.Text.{pointers_text}
use Rattle.cs_grammar.specs.Places.{StandsAt}
use Rattle.cs_grammar.proofs.Texts.{pointers_append}
use Rattle.cs_declarator_parser.specs.DeclarationPlaces.{IsNamePlaced}
use Rattle.cs_declarator_parser.proofs.Placing.{after_text}
use Rattle.cs_declarator_parser.proofs.declarator.pointed_name.Goals as goal

pub returns-in_default-clause-parsed : goal.returns-in_default-clause-parsed
returns-in_default-clause-parsed c =
    pointed_missing c.args.declares c.args.source.now.names.now c.args.source.now.tokens.now c.args.from c.in_ok-pointers.pointers.next
    c.in_ok-pointers.pointers.tree.items c.in_ok-pointers.ensures.pointers
    (subst (λ (x : Option RawName).
    IsNameAt (IsNameFor c.args.declares c.args.source.now.names.now) (kind_or_end c.args.source.now.tokens.now c.in_ok-pointers.pointers.next) x)
    c.in_default.is c.in_ok-name.ensures.name)
    c.refuse_but.result c.refuse_but.ensures.plain

pub returns-clause-parsed : goal.returns-clause-parsed
returns-clause-parsed c =
    let n =
    subst (λ (x : Option RawName).
    IsNameAt (IsNameFor c.args.declares c.args.source.now.names.now) (kind_or_end c.args.source.now.tokens.now c.in_ok-pointers.pointers.next) x)
    c.in-Some.is c.in_ok-name.ensures.name in
    name_pointed c.args.declares c.args.source.now.names.now c.args.source.now.tokens.now c.args.from c.in_ok-pointers.pointers.next
    c.in_ok-pointers.pointers.tree.items c.in-Some.name.name _ c.in_ok-pointers.ensures.pointers n.0 n.1 refl refl refl

pub returns-clause-placed : goal.returns-clause-placed
returns-clause-placed c =
    after_text (StandsAt c.in-Some.name.place) (pointers_text c.in_ok-pointers.pointers.tree.items) (pointers_append c.in_ok-pointers.pointers.tree.items)
    c.args.source.now.tokens.now c.args.from c.in_ok-pointers.pointers.next c.in_ok-pointers.ensures.pointers.spelled
    (subst (λ (x : Option RawName). IsNamePlaced x (drop c.in_ok-pointers.pointers.next c.args.source.now.tokens.now)) c.in-Some.is
    c.in_ok-name.ensures.placed)
