use Rattle.std.proofs.Common.{◌≡◌, None, rules, sym, ap, ◌∙◌}
use Rattle.std.specs.Prelude.{option_copied}
use Rattle.std.specs.Option.{option_map}
use Rattle.cs_scopes.specs.Meanings.{meaning_of}
use Rattle.cs_scopes.proofs.DeclaredNames.{newest_none, newest_some, found_past, found_is}
use Rattle.cs_scopes.proofs.entries.find.Goals as goal

pub returns-in_err-place : goal.returns-in_err-place
returns-in_err-place c =
    let e : c.from_residual.result ≡ None = search rules in
    ap (λ r. option_map meaning_of (option_copied r)) e
    ∙ sym (newest_none c.args.places.now c.args.list.now c.args.name.now c.requires (sym c.place_of.ensures ∙ c.in_err-place.was))

pub returns-in_err-entry : goal.returns-in_err-entry
returns-in_err-entry c =
    absurd (found_past c.args.list.now _ c.in_ok-place.place
    (newest_some c.args.places.now c.args.list.now c.args.name.now c.in_ok-place.place c.requires (sym c.place_of.ensures ∙ c.in_ok-place.was))
    c.in_err-entry.ensures.lookup.3)

pub returns : goal.returns
returns c =
    found_is c.args.list.now _ c.in_ok-place.place c.in_ok-entry.entry.now
    (newest_some c.args.places.now c.args.list.now c.args.name.now c.in_ok-place.place c.requires (sym c.place_of.ensures ∙ c.in_ok-place.was))
    c.in_ok-entry.ensures.lookup.1
