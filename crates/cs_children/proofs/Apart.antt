-- Ends whose outcomes differ, and lists that grow: for the contracts of `end`, `end_faulty` and `add_all`.
use Rattle.std.proofs.Common.{◌≡◌, ◌≢◌, ℕ, List, [], ◌∷◌, ◌++◌, Some, inl, inr, refl, sym, ap, ◌∙◌, subst}
use Rattle.std.specs.Prelude.{slice_get}
use Rattle.std.specs.List.{AllZip}
use Rattle.std.proofs.lemmas.List.{append-nil, append_assoc}
use Rattle.std.proofs.lemmas.Option.{slice_get_within, get_or_from_slice_get}
use Rattle.cs_progress.proofs.Lists.{item_of_more}
use Rattle.cs_explored.specs.declared.child.Child.{Child}
use Rattle.cs_children.specs.declared.children.Children.{Children}
use Rattle.cs_children.specs.Adding.{Adds, KeepApart, HaveOthers}
use Rattle.cs_successors.specs.Coming.{StateEnd, OutcomesDiffer}

-- an end with another outcome
module _ (ends : List StateEnd) (end : StateEnd) (others : HaveOthers end.0 ends) (differ : OutcomesDiffer ends) where
  other_outcome : (k : ℕ) (found : StateEnd) → slice_get ends k ≡ Some found → found.0 ≢ end.0
  other_outcome k found there =
      subst (λ (e : StateEnd). e.0 ≢ end.0) (get_or_from_slice_get ends k found found there) (others k found (slice_get_within ends k found there))

  pub apart_push : OutcomesDiffer (ends ++ end ∷ [])
  apart_push one other first second here there same = elim (item_of_more ends end first one here) [
    | inl earlier ↦ elim (item_of_more ends end second other there) [
      | inl too ↦ differ one other first second earlier too same
      | inr last ↦ absurd (other_outcome one first earlier (same ∙ ap (λ (e : StateEnd). e.0) last.1))
    ]
    | inr last ↦ elim (item_of_more ends end second other there) [
      | inl earlier ↦ absurd (other_outcome other second earlier (sym same ∙ ap (λ (e : StateEnd). e.0) last.1))
      | inr too ↦ last.0 ∙ sym too.0
    ]
  ]

pub ends_apart : (before after : Children) (end : StateEnd) → after.ends.items ≡ before.ends.items ++ end ∷ [] → HaveOthers end.0 before.ends.items
    → KeepApart before after
ends_apart before after end is others = λ differ. subst OutcomesDiffer (sym is) (apart_push before.ends.items end others differ)

-- no end is added
pub same_apart : (before after : Children) (made : List Child) → Adds before after made [] → KeepApart before after
same_apart before after made adds = λ differ. subst OutcomesDiffer (sym (adds.endings ∙ append-nil before.ends.items)) differ

-- one part of the work after the other
pub adds_on : (before middle after : Children) (made more : List Child) (ends others : List StateEnd) → Adds before middle made ends
    → Adds middle after more others → Adds before after (made ++ more) (ends ++ others)
adds_on before middle after made more ends others first second = record {
  children = second.children ∙ ap (λ xs. xs ++ more) first.children ∙ append_assoc before.made.items made more;
  endings = second.endings ∙ ap (λ xs. xs ++ others) first.endings ∙ append_assoc before.ends.items ends others;
  cuts = second.cuts ∙ first.cuts;
}

pub adds_none : (children : Children) → Adds children children [] []
adds_none children = record { children = sym (append-nil children.made.items); endings = sym (append-nil children.ends.items); cuts = refl }

-- lists that match, and what is added to both
pub matches_on : {A B : Type 0} (R : A → B → Type 0) (xs more : List A) (ys others : List B) → AllZip R xs ys → AllZip R more others
    → AllZip R (xs ++ more) (ys ++ others)
matches_on R [] more [] others match rest = rest
matches_on R [] more (y ∷ ys) others match rest = absurd match
matches_on R (x ∷ xs) more [] others match rest = absurd match
matches_on R (x ∷ xs) more (y ∷ ys) others match rest = (match.0, matches_on R xs more ys others match.1 rest)
