-- The positions of a parameter, from those of its parts: for the clauses on positions of the parts that parse parameters.
use Rattle.std.proofs.Common.{ℕ, List, drop, ap, ◌∙◌}
use Rattle.std.specs.Option.{option_map}
use Rattle.cs_ast.specs.declared.token.Token.{Token}
use Rattle.cs_ast.specs.declared.raw.name.RawName.{RawName}
use Rattle.cs_ast.specs.declared.raw.declaration.RawParameter.{RawParameter}
use Rattle.cs_ast.specs.RawDeclarationView.{specs, parameter}
use Rattle.cs_grammar.specs.Text.{Kinds, pointers_text}
use Rattle.cs_grammar.specs.FileText.{name_text, specs_text, parameter_text}
use Rattle.cs_grammar.specs.Places.{StandsAt}
use Rattle.cs_grammar.proofs.Texts.{pointers_append}
use Rattle.cs_grammar.proofs.FileTexts.{name_append, specs_append, parameter_append}
use Rattle.cs_expr_parser.specs.Parts.{Spells}
use Rattle.cs_declarator_parser.specs.DeclarationPlaces.{IsNamePlaced, AreBracketsPlaced, HasSpecPlaces, IsParameterPlaced}
use Rattle.cs_expr_parser.proofs.Standing.{spells_more}
use Rattle.cs_declarator_parser.proofs.Placing.{IsFramed, after_text}

pub parameter_framed : (p : RawParameter) → IsFramed (parameter_text (parameter p))
parameter_framed p = parameter_append (parameter p)

framed_both : (f g : Kinds → Kinds) → IsFramed f → IsFramed g → IsFramed (λ rest. f (g rest))
framed_both f g first second = λ x y. first (g x) y ∙ ap f (second x y)

pub parameter_placed : (p : RawParameter) (tokens : List Token) (from after_specs after_pointers after_name : ℕ) → StandsAt p.place (drop from tokens)
    → HasSpecPlaces p.specs (drop from tokens) → Spells tokens from after_specs (specs_text (specs p.specs))
    → Spells tokens after_specs after_pointers (pointers_text p.pointers.items)
    → Spells tokens after_pointers after_name (name_text (option_map (λ (n : RawName). n.name) p.name)) → IsNamePlaced p.name (drop after_pointers tokens)
    → AreBracketsPlaced p.bounds.items (drop after_name tokens) → IsParameterPlaced p (drop from tokens)
parameter_placed p tokens from after_specs after_pointers after_name at inside first second third named bounds =
    let before = specs_text (specs p.specs) in
    let stars = pointers_text p.pointers.items in
    let name = name_text (option_map (λ (n : RawName). n.name) p.name) in
    let pointed = framed_both before stars (specs_append (specs p.specs)) (pointers_append p.pointers.items) in
    let front = spells_more tokens from after_specs after_pointers before stars first second in
    record {
      at = at;
      specs_are = inside;
      name_is = after_text (IsNamePlaced p.name) (λ rest. before (stars rest)) pointed tokens from after_pointers front named;
      bounds_are =
          after_text (AreBracketsPlaced p.bounds.items) (λ rest. before (stars (name rest)))
          (framed_both (λ rest. before (stars rest)) name pointed (name_append (option_map (λ (n : RawName). n.name) p.name))) tokens from after_name
          (spells_more tokens from after_pointers after_name (λ rest. before (stars rest)) name front third) bounds;
    }
