use Rattle.std.proofs.Common.{◌≡◌, length, arith}
use Rattle.cs_scopes.proofs.DeclaredNames.{still_indexed}
use Rattle.cs_scopes.proofs.entries.add.Goals as goal

pub returns-clause-indexed : goal.returns-clause-indexed
returns-clause-indexed c =
    let place : c.len-place.result ≡ length c.args.list.now.items = omega (arith, c.len-place.ensures, c.args.list.now.ok.0) in
    still_indexed c.args.places.now c.enter.new.places c.args.list.now.items c.push.new.self.items
    (record { declaration = c.args.declaration; before = c.place_of-before.result }) c.in_ok-name.name c.len-place.result c.requires c.in_ok-name.ensures
    place c.place_of-before.ensures c.in_ok-push.ensures.items c.in_default.ensures.entered
