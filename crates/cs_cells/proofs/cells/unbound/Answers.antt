use Rattle.std.proofs.Common.{◌≡◌, ℕ}
use Rattle.std.proofs.lemmas.Result.{IfOk-weaker}
use Rattle.cs_store.specs.declared.value.Value.TheVariants.{Unset}
use Rattle.cs_state.specs.Naming.{Naming, naming, Extends}
use Rattle.cs_progress.specs.Locals.{IsLocalOf}
use Rattle.cs_cells.specs.declared.cells.Contents.{Contents}
use Rattle.cs_cells.specs.declared.cells.Contents.TheVariants.{Here}
use Rattle.cs_cells.proofs.cells.unbound.Goals as goal

pub returns-in-Unset : goal.returns-in-Unset
returns-in-Unset c =
    IfOk-weaker c.unwritten.result
    (λ (contents : Contents). (names : Naming) (frame count : ℕ) → Extends (naming c.args.tables.now) names
    → IsLocalOf names.bases frame count c.args.base → contents ≡ Here Unset) _
    (λ contents here names frame count extends local same. here names frame count extends local) c.unwritten.ensures
