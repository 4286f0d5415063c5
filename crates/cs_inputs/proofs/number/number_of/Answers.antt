use Rattle.std.proofs.Common.{◌≡◌, [], ◌∷◌}
use Rattle.std.proofs.lemmas.Bool.Decides.{Decides-eqb}
use Rattle.std.proofs.lemmas.Slice.Eq.{strip_prefix_is}
use Rattle.cs_inputs.proofs.NumberTexts.{minus_refused, plain_refused, too_low}
use Rattle.cs_inputs.proofs.number.number_of.Goals as goal

pub returns-in_err-magnitude-in-Some : goal.returns-in_err-magnitude-in-Some
returns-in_err-magnitude-in-Some c =
    let is : c.args.text.now ≡ 45 ∷ c.in-Some.digits.now =
    rw c.in-Some.is at (strip_prefix_is Decides-eqb c.args.text.now (45 ∷ []) c.strip_prefix.result c.strip_prefix.ensures.cases) in
    minus_refused c.args.text.now c.in-Some.digits.now is c.in_err-magnitude-in-Some.field-0.0 c.from_residual.result c.in_err-magnitude-in-Some.ensures
    c.from_residual.ensures.1

pub returns-then-magnitude-gt-MOST_BELOW_ZERO : goal.returns-then-magnitude-gt-MOST_BELOW_ZERO
returns-then-magnitude-gt-MOST_BELOW_ZERO c =
    let is : c.args.text.now ≡ 45 ∷ c.in-Some.digits.now =
    rw c.in-Some.is at (strip_prefix_is Decides-eqb c.args.text.now (45 ∷ []) c.strip_prefix.result c.strip_prefix.ensures.cases) in
    let read = c.in_ok-magnitude-in-Some.ensures in
    too_low c.args.text.now c.in-Some.digits.now c.in_ok-magnitude-in-Some.magnitude is read.0 read.1 c.if-magnitude-gt-MOST_BELOW_ZERO.true

pub returns-in_err-magnitude_of-in-None : goal.returns-in_err-magnitude_of-in-None
returns-in_err-magnitude_of-in-None c =
    let plain = rw c.in-None.is at (strip_prefix_is Decides-eqb c.args.text.now (45 ∷ []) c.strip_prefix.result c.strip_prefix.ensures.cases) in
    plain_refused c.args.text.now plain c.in_err-magnitude_of-in-None.field-0.0 c.from_residual-in_err-magnitude_of-in-None.result
    c.in_err-magnitude_of-in-None.ensures c.from_residual-in_err-magnitude_of-in-None.ensures.1
