use Rattle.std.proofs.Common.{◌≡◌, false, sym, ◌∙◌}
use Rattle.std.proofs.lemmas.Result.{IfOk-weaker}
use Rattle.cs_types.specs.Shape.{shape_of}
use Rattle.cs_meaning.specs.Operators as operators
use Rattle.cs_progress.specs.Locals.{IsOverKnown}
use Rattle.cs_operators.proofs.Asked.{asked}
use Rattle.cs_operators.proofs.operators.convert_number.Goals as goal

pub returns-clause-act : goal.returns-clause-act
returns-clause-act c = λ bases.
    let partly : operators.takes_all c.args.model (shape_of c.args.types.0.now) c.args.types.1 ≡ false =
    sym c.takes_all.ensures ∙ c.if-takes_all.false in
    asked c.args.state.now c.args.at _ bases c.args.progress.now c.ask.new.self c.ask.result _
    (λ v fits onward. rw partly) c.ask.ensures.answered c.ask.ensures.none c.ask.ensures.first

pub returns-clause-over : goal.returns-clause-over
returns-clause-over c =
    let state = c.args.state.now in
    IfOk-weaker c.ask.result (IsOverKnown state) (λ made. IsOverKnown state c.args.number → IsOverKnown state made) (λ made over given. over)
    c.ask.ensures.over
