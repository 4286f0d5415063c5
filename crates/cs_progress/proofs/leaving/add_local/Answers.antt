use Rattle.std.proofs.Common.{◌≡◌, inl, inr, ℕ, List, ◌∷◌, [], ◌++◌, length, Some, slice_get, sym, ap, subst, ◌∙◌}
use Rattle.cs_regions.specs.declared.base.Base.TheVariants.{Local}
use Rattle.cs_state.specs.Naming.{naming}
use Rattle.cs_progress.proofs.Lists.{item_of_more, more_items}
use Rattle.cs_progress.proofs.leaving.add_local.Goals as goal

pub returns-clause-locals : goal.returns-clause-locals
returns-clause-locals c =
    let before = c.args.bases.now.items in
    let frame = c.args.frame in
    let base = c.in_ok-base.base in
    let named = (naming c.base.new.self).bases in
    let items : c.push.new.self.items ≡ before ++ base ∷ [] = c.in_ok-push.ensures.items in
    let number : c.in-Ok.decl ≡ c.args.declaration = c.in-Ok.ensures.1 in
    let many = c.requires.as_many in
    record {
      as_many = ap length items ∙ more_items before base c.args.declaration many;
      each = λ declaration n e.
          elim (item_of_more before base n declaration (subst (λ (ns : List ℕ). slice_get ns declaration ≡ Some n) items e)) [
            | inl earlier ↦ c.in_ok-base.ensures.extends.bases n (Local frame declaration) (c.requires.each declaration n earlier)
            | inr last ↦
                ap (slice_get named) last.1 ∙ c.in_ok-base.ensures.named
                ∙ ap (λ (k : ℕ). Some (Local frame k)) (number ∙ sym many ∙ sym last.0)
          ];
      once = λ some. c.in_ok-base.ensures.once;
    }
