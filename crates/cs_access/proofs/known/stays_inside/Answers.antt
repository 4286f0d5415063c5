use Rattle.std.proofs.Common.{◌≡◌, ◌≢◌, ◌^◌, ℤ, pos, neg_ℤ, Option, None, Some, refl, sym, subst}
use Rattle.cs_ranges.specs.Affine.{affine}
use Rattle.cs_ranges.specs.Interval.{IsInside}
use Rattle.cs_ranges.proofs.Lines.{affine-between}
use Rattle.cs_terms.specs.declared.symbol.Sym.{Sym}
use Rattle.cs_terms.specs.Term.{value_with}
use Rattle.cs_terms.proofs.Narrow.{inside_same}
use Rattle.cs_access.proofs.known.stays_inside.Goals as goal

over_symbol : (symbol : Option Sym) (slope at value x : ℤ) → symbol ≢ None → value_with (λ s. x) symbol slope at value ≡ affine slope at value x
over_symbol None slope at value x there = absurd (there refl)
over_symbol (Some s) slope at value x there = refl

pub returns-then-is_inside_at : goal.returns-then-is_inside_at
returns-then-is_inside_at c = λ yes x has.
    let term = c.args.term in
    let ends = c.in-Some-Some in
    let before = rw (inside_same ends.first ends.ensures.inside) at (c.if-is_inside_at.ensures refl) in
    let after = rw (inside_same ends.last ends.ensures'.inside) at (c.is_inside_at-then-is_inside_at.ensures yes) in
    subst IsInside (sym (over_symbol term.sym term.slope term.at term.value x c.requires.symbol))
    (affine-between (neg_ℤ (pos (2 ^ 126))) (pos (2 ^ 126)) term.slope term.at term.value ends.first ends.last x
    (ends.ensures.least.least x has) (ends.ensures'.greatest.greatest x has) before after)
