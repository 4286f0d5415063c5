use Rattle.std.proofs.Common.{vec_items}
use Rattle.cs_store.specs.Contents.{bindings_of}
use Rattle.cs_store.proofs.Listings.{IsPartlyListed}
use Rattle.cs_store.proofs.region.Region.list.Given as goal

abbrev pub invariant-loop-offset : goal.invariant-loop-offset
invariant-loop-offset l = IsPartlyListed (bindings_of l.self) l.words (vec_items l.symbols) l.count l.offset-iterator
