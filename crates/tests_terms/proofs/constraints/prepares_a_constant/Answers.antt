use Rattle.std.proofs.Common.{◌≡◌, pos, sym, ap, ◌∙◌, arith}
use Rattle.std.proofs.lemmas.Int.{ints}
use Rattle.std.proofs.lemmas.Option.{same_Some}
use Rattle.cs_ranges.specs.RangeSet.{contains}
use Rattle.cs_ranges.proofs.Lines.{over_yields}
use Rattle.cs_terms.specs.declared.symbol.Sym.{Sym}
use Rattle.cs_constraints.specs.Constraints.{set_of}
use Rattle.tests_terms.proofs.constraints.prepares_a_constant.Goals as goal

pub prepared-prepared-requires-clause-values : goal.prepared-prepared-requires-clause-values
prepared-prepared-requires-clause-values g c = λ s set e f x t.
    let first : 0 ≡ s.0 = ap (λ (z : Sym). z.0) (same_Some (record { 0 = 0 }) s e) in
    let own : c.in_ok-nine.nine ≡ set = same_Some c.in_ok-nine.nine set (sym c.in_ok-declare.ensures.here ∙ ap (set_of c.declare.new.self) first ∙ f) in
    let bounds = over_yields (pos 9) (pos 9) x (sym (c.in_ok-nine.ensures.numbers x) ∙ ap (λ z. contains z x) own ∙ t) in
    (omega (arith, ints, bounds), omega (arith, ints, bounds))
