use Rattle.std.proofs.Common.{Some, None, sym, ◌∙◌}
use Rattle.cs_scopes.proofs.DeclaredNames.{after_says}
use Rattle.cs_scopes.proofs.entries.is_after.Goals as goal

pub returns-in-Some : goal.returns-in-Some
returns-in-Some c = after_says c.args.places.now c.args.list.now c.args.name.now c.args.outer (Some c.in-Some.place) c.requires (sym c.in-Some.is
    ∙ c.place_of.ensures)

pub returns-in-None : goal.returns-in-None
returns-in-None c = after_says c.args.places.now c.args.list.now c.args.name.now c.args.outer None c.requires (sym c.in-None.is ∙ c.place_of.ensures)
