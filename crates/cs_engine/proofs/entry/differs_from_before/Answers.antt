use Rattle.std.proofs.Common.{◌≡◌, ◌<◌, true, length, refl, arith, below_more}
use Rattle.std.specs.Prelude.{nat_eq}
use Rattle.std.specs.Cmp.Lexicographic.{pointwise, bytes_decides}
use Rattle.std.proofs.lemmas.Option.{slice_get_read}
use Rattle.cs_engine.proofs.Parameters.{IsOther, is_other}
use Rattle.cs_engine.proofs.entry.differs_from_before.Goals as goal

pub loop-earlier-preserved : goal.loop-earlier-preserved
loop-earlier-preserved c =
    let all = c.args.parameters.now in
    let one = c.index-parameters-earlier.result in
    let other = c.index-parameters-number.result in
    let early : c.loop-earlier.earlier < length all = omega (arith, c.requires) in
    below_more (IsOther all c.args.number) c.loop-earlier.earlier c.loop-earlier.invariant
    (is_other all c.args.number c.loop-earlier.earlier one other
    (slice_get_read all (length all) c.loop-earlier.earlier one refl early c.index-parameters-earlier.is)
    (slice_get_read all (length all) c.args.number other refl (omega (arith, c.requires)) c.index-parameters-number.is)
    (λ same. let h : pointwise nat_eq one.name other.name ≡ true = (bytes_decides one.name other.name).1 same in cc))
