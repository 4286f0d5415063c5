use Rattle.std.proofs.lemmas.Result.{IfOk-weaker}
use Rattle.cs_types.specs.Wrap.{wrap_quotient}
use Rattle.cs_terms.specs.Near.{IsCut}
use Rattle.cs_terms.specs.Pieces.{ArePieces, quotient_of}
use Rattle.cs_terms.proofs.Cutting.{pieces_from_cut, yields_value}
use Rattle.cs_terms.proofs.pieces.wrap_pieces.Goals as goal

pub returns : goal.returns
returns c =
    let model = c.args.model in
    let ty = c.args.ty in
    let term = c.args.term in
    let range = c.args.range.now in
    let near = c.of_type.result in
    let quotients = c.of_type.ensures.quotients in
    let under = yields_value (wrap_quotient model ty) range term _ near.under quotients.under in
    let same = yields_value (wrap_quotient model ty) range term _ near.same quotients.same in
    let past = yields_value (wrap_quotient model ty) range term _ near.past quotients.past in
    IfOk-weaker _ (IsCut near term range) (ArePieces (quotient_of model ty term) range)
    (λ pieces. pieces_from_cut (quotient_of model ty term) near term range pieces under same past)
    c.cut.ensures
