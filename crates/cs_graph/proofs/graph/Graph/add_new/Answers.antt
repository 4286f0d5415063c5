use Rattle.std.proofs.Common.{◌≡◌, ◌<◌, sym, ◌∙◌, ap, subst, arith, None, length, ◌++◌, [], ◌∷◌}
use Rattle.std.specs.Map.{lookup}
use Rattle.cs_graph.specs.Adding.{IsUnseen, IsNew}
use Rattle.cs_graph.specs.Contents.{contents}
use Rattle.cs_graph.proofs.Sounds.{passes_none, sound_added, is_new}
use Rattle.cs_graph.proofs.graph.Graph.add_new.Goals as goal

pub add-requires : goal.add-requires
add-requires g c other there =
    let row = c.self.invariant.waiting other c.len-number.result there in
    omega (arith, row, c.len-number.ensures, c.self.inside.rows.ok.0)

pub put-requires-clause-new : goal.put-requires-clause-new
put-requires-clause-new g c =
    let unseen = subst (λ now. IsUnseen g.K.PartialEq.eq c.args.key now.keys) (sym c.self.view_is) c.requires in
    subst (λ entries. lookup (g.K.PartialEq.eq c.args.key) entries ≡ None) (sym c.reserve.ensures.keys)
    (passes_none (g.K.PartialEq.eq c.args.key) c.self.inside.keys.entries unseen)

pub invariant_of-self-2 : goal.invariant_of-self-2
invariant_of-self-2 g c =
    let next : c.len-number.result ≡ length c.self.inside.rows.items = omega (arith, c.len-number.ensures, c.self.inside.rows.ok.0) in
    let few : length c.self.inside.rows.items < c.self.inside.nodes = omega (arith, c.self.invariant.few) in
    sound_added c.args.key c.args.visits c.len-number.result c.args.row c.self.inside.keys.entries c.put.new.keys.entries c.self.inside.rows.items
    c.put.new.rows.items c.self.inside.work c.add.new.self c.self.inside.nodes (c.put.ensures.keys
    ∙ ap (λ es. es ++ (c.args.key, c.len-number.result) ∷ []) c.reserve.ensures.keys) (c.put.ensures.rows
    ∙ ap (λ rows. rows ++ c.args.row ∷ []) c.reserve.ensures.rows) c.in_ok-add.ensures.ok next few c.self.invariant

pub returns-clause-new : goal.returns-clause-new
returns-clause-new g c =
    let next : c.len-number.result ≡ length c.self.inside.rows.items = omega (arith, c.len-number.ensures, c.self.inside.rows.ok.0) in
    subst (λ before. IsNew c.args.key c.args.visits c.args.row c.len-number.result before
    (contents c.put.new.keys.entries c.put.new.rows.items c.add.new.self c.self.inside.nodes)) c.self.view_is
    (is_new c.args.key c.args.visits c.len-number.result c.args.row c.self.inside.keys.entries c.put.new.keys.entries c.self.inside.rows.items
    c.put.new.rows.items c.self.inside.work c.add.new.self c.self.inside.nodes (c.put.ensures.keys
    ∙ ap (λ es. es ++ (c.args.key, c.len-number.result) ∷ []) c.reserve.ensures.keys) (c.put.ensures.rows
    ∙ ap (λ rows. rows ++ c.args.row ∷ []) c.reserve.ensures.rows) c.in_ok-add.ensures.ok next)
