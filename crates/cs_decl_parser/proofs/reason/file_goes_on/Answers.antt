-- The last token is too deep, or the end of input after it is refused, exactly if a file continues with it.
use Rattle.std.proofs.Common.{◌≡◌, List, [], ◌∷◌, ◌++◌, refl, ap, ◌∙◌, subst}
use Rattle.cs_ast.specs.declared.token.Token.{Token}
use Rattle.cs_decl_parser.specs.Files.{parts_of, IsTheFile}
use Rattle.cs_decl_parser.specs.FileStops.{IsStoppedAt, FileStops}
use Rattle.cs_decl_parser.proofs.Copies.{token_same}
use Rattle.cs_decl_parser.proofs.GoingOn.{goes_on_whole, goes_on_after}
use Rattle.cs_decl_parser.proofs.reason.file_goes_on.Goals as goal

pub returns-in-Err-Refused : goal.returns-in-Err-Refused
returns-in-Err-Refused c =
    let copied = c.in_ok-tokens.ensures.items_if_clones_equal token_same in
    let all : c.deref.result.now ≡ c.args.before.now ++ c.args.next ∷ [] = c.deref.ensures.value ∙ c.in_ok-push.ensures.items
    ∙ ap (λ (x : List Token). x ++ c.args.next ∷ []) copied in
    goes_on_after c.args.before.now c.args.next c.in-Err-Refused.at c.in-Err-Refused.reason c.is_deep_or_past.result c.is_deep_or_past.ensures
    (subst (λ (x : List Token). IsStoppedAt x c.in-Err-Refused.at c.in-Err-Refused.reason) all
    (subst (FileStops c.deref.result.now) c.in-Err-Refused.field-0-is c.in-Err-Refused.ensures.refused).stopped)

pub returns-in-Ok : goal.returns-in-Ok
returns-in-Ok c = λ b.
    let copied = c.in_ok-tokens.ensures.items_if_clones_equal token_same in
    let all : c.deref.result.now ≡ c.args.before.now ++ c.args.next ∷ [] = c.deref.ensures.value ∙ c.in_ok-push.ensures.items
    ∙ ap (λ (x : List Token). x ++ c.args.next ∷ []) copied in
    let file = parts_of c.read.new.self.list.items in
    (λ t. goes_on_whole c.args.before.now c.args.next file (subst (λ (x : List Token). IsTheFile x file) all c.in-Ok.ensures.file), λ f. refl)
