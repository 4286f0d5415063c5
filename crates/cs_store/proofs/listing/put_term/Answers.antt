use Rattle.std.proofs.Common.{rules}
use Rattle.cs_store.specs.Listings.{origin_of, has_origin}
use Rattle.cs_store.proofs.Listings.{is_there}
use Rattle.cs_store.proofs.listing.put_term.Goals as goal

pub returns : goal.returns
returns c =
    let term = c.args.term.now in
    let found = is_there (has_origin term) (origin_of term) c.in-Some-origin.origin c.in-Some-origin.ensures in
    search (rules, found)
