use Rattle.std.proofs.Common.{◌≡◌, ◌<◌, ◌∙◌, ℕ, List, length, false, ap, sym, subst, arith}
use Rattle.std.specs.Prelude.{◌==◌}
use Rattle.std.proofs.lemmas.Bool.Decides.{nat_tests}
use Rattle.cs_lexer.specs.declared.lexeme.Lexeme.TheVariants.{Gap, Marker, Token}
use Rattle.cs_lexer.specs.Pieces.{Begins}
use Rattle.cs_lexer.specs.Cuttings.{marked_spot}
use Rattle.cs_lexer.proofs.Advancing.{advances}
use Rattle.cs_lexer.proofs.CutSoFar.{cut_begins, fewer_left, gap_step, token_step, marker_step}
use Rattle.cs_lexer.proofs.cut.cut.Goals as goal

some_left : (xs : List ℕ) → (length xs == 0) ≡ false → 0 < length xs
some_left xs h = grind (arith, nat_tests)

pub loop-rest-init : goal.loop-rest-init
loop-rest-init c = cut_begins c.args.text.now c.in_ok-files.files c.new-tokens.result.items c.start-spot.result c.in_ok-files.ensures c.new-tokens.ensures.items
    c.start-spot.ensures

pub loop-rest-smaller-in-Gap : goal.loop-rest-smaller-in-Gap
loop-rest-smaller-in-Gap c =
    let some = some_left c.loop-rest.rest.now (sym c.is_empty.ensures ∙ c.loop-rest-test.true) in
    let is : Begins c.loop-rest.spot.is_line_start c.loop-rest.rest.now (Gap c.in-Gap.size) =
    subst (λ found. Begins c.loop-rest.spot.is_line_start c.loop-rest.rest.now found) c.in-Gap.is c.in_ok-size.ensures in
    fewer_left c.in-Gap.size c.loop-rest.rest.now c.following-rest.result.now
    (advances c.loop-rest.spot.is_line_start c.loop-rest.rest.now (Gap c.in-Gap.size) some is) some c.following-rest.ensures

pub loop-rest-preserved-in-Gap : goal.loop-rest-preserved-in-Gap
loop-rest-preserved-in-Gap c =
    let some = some_left c.loop-rest.rest.now (sym c.is_empty.ensures ∙ c.loop-rest-test.true) in
    let is : Begins c.loop-rest.spot.is_line_start c.loop-rest.rest.now (Gap c.in-Gap.size) =
    subst (λ found. Begins c.loop-rest.spot.is_line_start c.loop-rest.rest.now found) c.in-Gap.is c.in_ok-size.ensures in
    gap_step c.loop-rest.invariant some c.in-Gap.size c.spot_after-spot.result c.following-rest.result.now is
    (rw c.front.ensures at c.spot_after-spot.ensures.value) (rw c.front.ensures at c.spot_after-spot.ensures.within) c.following-rest.ensures

pub loop-rest-smaller-in-Marker : goal.loop-rest-smaller-in-Marker
loop-rest-smaller-in-Marker c =
    let some = some_left c.loop-rest.rest.now (sym c.is_empty.ensures ∙ c.loop-rest-test.true) in
    let is : Begins c.loop-rest.spot.is_line_start c.loop-rest.rest.now (Marker c.in-Marker.size c.in-Marker.next c.in-Marker.name) =
    subst (λ found. Begins c.loop-rest.spot.is_line_start c.loop-rest.rest.now found) c.in-Marker.is c.in_ok-size.ensures in
    fewer_left c.in-Marker.size c.loop-rest.rest.now c.following-rest-in-Marker.result.now
    (advances c.loop-rest.spot.is_line_start c.loop-rest.rest.now (Marker c.in-Marker.size c.in-Marker.next c.in-Marker.name) some is).0 some
    c.following-rest-in-Marker.ensures

pub loop-rest-preserved-in-Marker : goal.loop-rest-preserved-in-Marker
loop-rest-preserved-in-Marker c =
    let some = some_left c.loop-rest.rest.now (sym c.is_empty.ensures ∙ c.loop-rest-test.true) in
    let is : Begins c.loop-rest.spot.is_line_start c.loop-rest.rest.now (Marker c.in-Marker.size c.in-Marker.next c.in-Marker.name) =
    subst (λ found. Begins c.loop-rest.spot.is_line_start c.loop-rest.rest.now found) c.in-Marker.is c.in_ok-size.ensures in
    marker_step c.loop-rest.invariant some c.in-Marker.size c.in-Marker.next c.in-Marker.name c.in_ok-file-in-Marker.file c.marked_spot-spot.result
    c.following-rest-in-Marker.result.now c.marked_file.new.files is c.in_ok-file-in-Marker.ensures.value c.in_ok-file-in-Marker.ensures.added
    (c.marked_spot-spot.ensures ∙ ap (λ bytes. marked_spot c.loop-rest.spot c.in_ok-file-in-Marker.file c.in-Marker.next bytes)
    c.front-in-Marker.ensures) c.following-rest-in-Marker.ensures

pub loop-rest-smaller : goal.loop-rest-smaller
loop-rest-smaller c =
    let some = some_left c.loop-rest.rest.now (sym c.is_empty.ensures ∙ c.loop-rest-test.true) in
    let is : Begins c.loop-rest.spot.is_line_start c.loop-rest.rest.now (Token c.in-Token.size c.in-Token.kind) =
    subst (λ found. Begins c.loop-rest.spot.is_line_start c.loop-rest.rest.now found) c.in-Token.is c.in_ok-size.ensures in
    fewer_left c.in-Token.size c.loop-rest.rest.now c.following-rest-in-Token.result.now
    (advances c.loop-rest.spot.is_line_start c.loop-rest.rest.now (Token c.in-Token.size c.in-Token.kind) some is) some c.following-rest-in-Token.ensures

pub loop-rest-preserved : goal.loop-rest-preserved
loop-rest-preserved c =
    let some = some_left c.loop-rest.rest.now (sym c.is_empty.ensures ∙ c.loop-rest-test.true) in
    let is : Begins c.loop-rest.spot.is_line_start c.loop-rest.rest.now (Token c.in-Token.size c.in-Token.kind) =
    subst (λ found. Begins c.loop-rest.spot.is_line_start c.loop-rest.rest.now found) c.in-Token.is c.in_ok-size.ensures in
    token_step c.loop-rest.invariant some c.in-Token.size c.in-Token.kind c.spot_after-spot-in-Token.result c.following-rest-in-Token.result.now
    c.push.new.self.items is c.in_ok-push-in-Token.ensures.items (rw c.front-in-Token.ensures at c.spot_after-spot-in-Token.ensures.value)
    (rw c.front-in-Token.ensures at c.spot_after-spot-in-Token.ensures.within) c.following-rest-in-Token.ensures
