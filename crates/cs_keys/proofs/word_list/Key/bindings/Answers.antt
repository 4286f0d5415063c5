use Rattle.std.proofs.lemmas.Result.{on_ok_weaker}
use Rattle.cs_store.specs.Contents.{bindings_of}
use Rattle.cs_keys.proofs.word_list.Key.bindings.Goals as goal

pub returns-in-Some : goal.returns-in-Some
returns-in-Some c =
    on_ok_weaker c.listing-in-Some.result (λ written. written (bindings_of c.args.region.now) c.in-Some.ensures) c.listing-in-Some.ensures

pub returns : goal.returns
returns c =
    on_ok_weaker c.listing-3.result (λ written. written (bindings_of c.args.region.now) c.in_ok-listing.ensures) c.listing-3.ensures
