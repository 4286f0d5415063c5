use Rattle.std.proofs.Common.{rules, ◌≡◌, ℤ, pos, ◌*ℤ◌, arith}
use Rattle.std.specs.Prelude.{negsuc, neg_ℤ}
use Rattle.std.proofs.lemmas.Int.{ints}
use Rattle.cs_types.specs.IntType.{modulus_of}
use Rattle.cs_eval.specs.Operands.{IsRaised}
use Rattle.cs_eval.proofs.PartPieces.{same_raised, converted_part, converted_far}
use Rattle.cs_eval.proofs.wraps.converted_parts.Goals as goal

one_turn_up : (m by : ℤ) → by ≡ m → by ≡ neg_ℤ (negsuc 0 *ℤ m)
one_turn_up m by e = omega (arith, ints)

no_turn : (m : ℤ) → pos 0 ≡ neg_ℤ (pos 0 *ℤ m)
no_turn m = omega (arith, ints)

one_turn_down : (m by : ℤ) → by ≡ m → neg_ℤ by ≡ neg_ℤ (pos 1 *ℤ m)
one_turn_down m by e = omega (arith, ints)

pub returns : goal.returns
returns c =
    let model = c.args.setting.now.model in
    let ty = c.args.ty in
    let exact = c.args.exact in
    let m : ℤ = pos (modulus_of model ty) in
    let by : ℤ = c.modulus-modulus.result in
    let pieces = c.in_ok-under.field-0 in
    let by_is : by ≡ m = c.modulus-modulus.ensures in
    let up : IsRaised exact by c.in_ok-moved.field-0 = search rules in
    let down : IsRaised exact (neg_ℤ by) c.in_ok-moved_back.field-0 = search rules in
    record {
      under = converted_part model ty exact c.args.range.now c.requires.term (negsuc 0) by pieces.under c.in_ok-moved.field-0 c.part-under.result
          c.in_ok-under.ensures.under up (one_turn_up m by by_is) c.part-under.ensures;
      same = converted_part model ty exact c.args.range.now c.requires.term (pos 0) (pos 0) pieces.same exact c.part.result
          c.in_ok-under.ensures.same (same_raised exact) (no_turn m) c.part.ensures;
      past = converted_part model ty exact c.args.range.now c.requires.term (pos 1) (neg_ℤ by) pieces.past c.in_ok-moved_back.field-0
          c.part-past.result c.in_ok-under.ensures.past down (one_turn_down m by by_is) c.part-past.ensures;
      far = converted_far model ty exact c.args.range.now c.requires.term pieces.far c.in_ok-under.ensures.far;
    }
