use Rattle.std.proofs.Common.{◌≡◌, ℕ, sym, ap, ◌∙◌}
use Rattle.std.proofs.lemmas.Result.{IfOk-weaker}
use Rattle.cs_store.specs.declared.value.Value.TheVariants.{Unset}
use Rattle.cs_store.specs.declared.value.Fill.TheVariants as fill
use Rattle.cs_store.specs.declared.value.Binding.{Binding}
use Rattle.cs_store.specs.declared.value.Binding.TheVariants.{Fill}
use Rattle.cs_store.specs.Held.{held}
use Rattle.cs_state.specs.Naming.{Naming, naming, Extends}
use Rattle.cs_progress.specs.Locals.{IsLocalOf, value_held}
use Rattle.cs_cells.specs.declared.cells.Contents.{Contents}
use Rattle.cs_cells.specs.declared.cells.Contents.TheVariants.{Here}
use Rattle.cs_cells.proofs.cells.found.Goals as goal

pub returns-in-Fill : goal.returns-in-Fill
returns-in-Fill c =
    let is : held c.args.state.now.store c.args.base c.args.offset ≡ Fill c.in-Fill.fill = sym c.load.ensures ∙ c.in-Fill.is in
    IfOk-weaker c.unbound.result
    (λ (contents : Contents). (names : Naming) (frame count : ℕ) → Extends (naming c.args.tables.now) names
    → IsLocalOf names.bases frame count c.args.base → c.in-Fill.fill ≡ fill.Unset → contents ≡ Here Unset) _
    (λ contents here names frame count extends local unfilled.
    here names frame count extends local (unfilled c.in-Fill.fill is) ∙ ap (λ (it : Binding). Here (value_held it)) (sym is)) c.unbound.ensures
