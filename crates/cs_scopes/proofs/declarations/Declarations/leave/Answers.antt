use Rattle.std.proofs.Common.{take, sym, ap, ◌∙◌}
use Rattle.std.proofs.lemmas.List.{take-map}
use Rattle.cs_scopes.specs.declared.entries.Entry.{Entry}
use Rattle.cs_scopes.specs.Meanings.{declaration_of}
use Rattle.cs_scopes.specs.Entries.{declarations_in}
use Rattle.cs_scopes.proofs.declarations.Declarations.leave.Goals as goal

pub returns : goal.returns
returns c =
    ap declarations_in c.drop_after.ensures.left
    ∙ sym (take-map (λ (e : Entry). declaration_of e.declaration) c.args.outer c.self.inside.list.items)
    ∙ ap (take c.args.outer) c.self.view_is
