-- A longer name is new.
use Rattle.std.proofs.Common.{◌≡◌, ap, ◌∙◌, length, ◌+◌, arith}
use Rattle.std.proofs.lemmas.List.{length-replicate}
use Rattle.cs_unsupported.specs.Readings.{kinds}
use Rattle.cs_unsupported.proofs.NewNames.{longer_new}
use Rattle.cs_unsupported.proofs.declarators.new_name.Goals as goal

pub returns : goal.returns
returns c =
    let count : length c.from_vec.result ≡ c.longest_name.result + 1 = ap length c.from_vec.ensures
    ∙ ap length (c.in_ok-bytes.ensures.items_if_clones_equal (λ y e. e)) ∙ length-replicate (c.longest_name.result + 1) 97 in
    longer_new c.longest_name.result c.from_vec.result (kinds c.args.tokens.now) c.longest_name.ensures.within (omega (arith, count))
