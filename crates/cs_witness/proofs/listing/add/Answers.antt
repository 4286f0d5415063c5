use Rattle.std.proofs.Common.{◌∷◌, [], FitsSigned, sym, subst, rules}
use Rattle.std.specs.Int.{w128}
use Rattle.std.proofs.lemmas.Int.{to_z-of_z}
use Rattle.cs_witness.specs.Listing.{Adds}
use Rattle.cs_witness.proofs.Keys.{adds_one}
use Rattle.cs_witness.proofs.listing.add.Goals as goal

pub returns : goal.returns
returns c =
    let fits : FitsSigned w128 c.get-number.result = search rules in
    let plain = to_z-of_z w128 c.get-number.result fits in
    let set = rw (plain, c.get-number.ensures) at c.in_ok-set.ensures.ok in
    subst (Adds c.args.given.now (c.args.path ∷ []) c.args.inputs.now) (sym set) (adds_one c.args.given.now c.args.inputs.now c.args.path)
