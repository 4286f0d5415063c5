use Rattle.std.proofs.Common.{◌≡◌, Some, refl, sym, ap, subst, ◌∙◌}
use Rattle.std.specs.Option.{option_copied}
use Rattle.cs_types.specs.Shape.{shape_of}
use Rattle.cs_ast.specs.declared.raw.written_type.TypeWord.TheVariants as word
use Rattle.cs_scopes.specs.Verdicts.{Fine}
use Rattle.cs_scopes.specs.Scopes.{newest, tagged}
use Rattle.cs_scopes.specs.TypeNames.{whole_word, typedef_at, enum_at}
use Rattle.cs_declarations.specs.Answered.{AnswersWith}
use Rattle.cs_declarations.specs.Bodies.{plain_words, word_type}
use Rattle.cs_declarations.specs.View.{environment_of, typing}
use Rattle.cs_declarations.proofs.Beside.{known_beside}
use Rattle.cs_declarations.proofs.bodies.word_type.Goals as goal

pub returns-in-Some-Typedef-clause-reported : goal.returns-in-Some-Typedef-clause-reported
returns-in-Some-Typedef-clause-reported c =
    let k = environment_of c.args.known.now in
    let all = plain_words c.args.words.now in
    let named : whole_word all ≡ Some (word.Typedef c.in-Some-Typedef.name) = sym c.whole_word.ensures ∙ ap option_copied c.in-Some-Typedef.is
    ∙ ap Some c.in-Some-Typedef.field-0-is in
    subst (λ w. AnswersWith typing (word_type k (Some c.args.tag) c.args.place all w) c.typedef_type.result c.args.known.now) (sym named)
    (known_beside shape_of (λ ty. Fine (ty, k)) typing (typedef_at c.args.place (newest c.in-Some-Typedef.name c.args.known.now.context.scope.declarations))
    c.typedef_type.result c.args.known.now (λ ty. refl) c.typedef_type.ensures)

pub returns-in-Some-Enum-clause-reported : goal.returns-in-Some-Enum-clause-reported
returns-in-Some-Enum-clause-reported c =
    let k = environment_of c.args.known.now in
    let all = plain_words c.args.words.now in
    let named : whole_word all ≡ Some (word.Enum c.in-Some-Enum.name) = sym c.whole_word.ensures ∙ ap option_copied c.in-Some-Enum.is
    ∙ ap Some c.in-Some-Enum.field-0-is in
    subst (λ w. AnswersWith typing (word_type k (Some c.args.tag) c.args.place all w) c.enum_type.result c.args.known.now) (sym named)
    (known_beside shape_of (λ ty. Fine (ty, k)) typing (enum_at c.args.tag (tagged c.in-Some-Enum.name c.args.known.now.context.scope.tags)) c.enum_type.result
    c.args.known.now (λ ty. refl) c.enum_type.ensures)
