-- One branch more or less on an iterator's stack: for `next` and `push_left_sides`.
use Rattle.std.proofs.Common.{◌≡◌, ℕ, ◌+◌, ◌-◌, ◌<◌, ◌≤◌, List, [], ◌∷◌, ◌++◌, length, sym, ap, subst, ◌∙◌}
use Rattle.std.proofs.Common.{append_assoc, length-append, arith}
use Rattle.std.proofs.lemmas.List.{append-nil}
use Rattle.std.specs.Prelude.{Option, None, Some}
use Rattle.std.specs.Borrow.{Bor}
use Rattle.cs_pmap.specs.Keys.{EntryList}
use Rattle.cs_pmap.specs.Pending.{pending, FitsCapacity}
use Rattle.cs_pmap.specs.Tree.{IsBalanced, branch_entries}
use Rattle.cs_pmap.specs.declared.tree.Branch.{Branch}

module _ {V : Type 0} where
  pub pending-push : (bs : List (Option (Bor (Branch V)))) (b : Bor (Branch V))
      → pending (bs ++ Some b ∷ []) ≡ (b.now.key, b.now.value) ∷ (b.now.right.0 ++ pending bs)
  pending-push [] b = ap (λ r. (b.now.key, b.now.value) ∷ r) (sym (append-nil b.now.right.0))
  pending-push (None ∷ cs) b = pending-push cs b
  pending-push (Some c ∷ cs) b =
      rw (pending-push cs b) (ap (λ r. (b.now.key, b.now.value) ∷ r) (append_assoc b.now.right.0 (pending cs) ((c.now.key, c.now.value) ∷ c.now.right.0)))

  pub FitsCapacity-push : (room : ℕ) (bs : List (Option (Bor (Branch V)))) (b : Bor (Branch V)) → FitsCapacity room bs → b.now.height + length bs ≤ room
      → IsBalanced b.now → FitsCapacity room (bs ++ Some b ∷ [])
  FitsCapacity-push room [] b h fits balanced = (omega arith, balanced, tt)
  FitsCapacity-push room (None ∷ cs) b h fits balanced = absurd h
  FitsCapacity-push room (Some c ∷ cs) b h fits balanced = (h.0, h.1, FitsCapacity-push (room - 1) cs b h.2 (omega arith) balanced)

  -- what holds after the last branch was popped from the stack
  pub record Popped (room : ℕ) (bs : List (Option (Bor (Branch V)))) (b : Branch V) : Type 0 where
    pub rest : FitsCapacity room bs
    pub fits : b.height + length bs ≤ room
    pub balanced : IsBalanced b

  FitsCapacity-pop : (room : ℕ) (bs : List (Option (Bor (Branch V)))) (b : Bor (Branch V)) → FitsCapacity room (bs ++ Some b ∷ []) → Popped room bs b.now
  FitsCapacity-pop room [] b h = record { rest = tt; fits = omega arith; balanced = h.1 }
  FitsCapacity-pop room (None ∷ cs) b h = absurd h
  FitsCapacity-pop room (Some c ∷ cs) b h =
      let under = FitsCapacity-pop (room - 1) cs b h.2 in
      let positive : 0 < b.now.height = omega (arith, under.balanced.height) in
      record { rest = (h.0, h.1, under.rest); fits = omega (arith, under.fits); balanced = under.balanced }

  pub popped : (room same_room : ℕ) (items bs : List (Option (Bor (Branch V)))) (b : Bor (Branch V)) → FitsCapacity room items → items ≡ bs ++ Some b ∷ []
      → same_room ≡ room → Popped same_room bs b.now
  popped room same_room items bs b h e r = rw r (FitsCapacity-pop room bs b (subst (FitsCapacity room) e h))

  no_blank : (room : ℕ) (bs : List (Option (Bor (Branch V)))) → FitsCapacity room (bs ++ None ∷ []) → ⊥
  no_blank room [] h = h
  no_blank room (None ∷ cs) h = h
  no_blank room (Some c ∷ cs) h = no_blank (room - 1) cs h.2

  -- no item of the stack is empty
  pub not_blank : (room : ℕ) (items bs : List (Option (Bor (Branch V)))) → FitsCapacity room items → items ≡ bs ++ None ∷ [] → ⊥
  not_blank room items bs h e = no_blank room bs (subst (FitsCapacity room) e h)

  -- a branch's tree has at least one level
  pub tall : {tree : EntryList V × ℕ} (b : Bor (Branch V)) → (tree ≡ (branch_entries b.now, b.now.height)) × IsBalanced b.now → 0 < tree.1
  tall b is = rw is.0 (omega (arith, is.1.height))

  -- while a tree's left sides are pushed: the stack fits, so does the tree, and together they have all entries
  pub record Descends (room : ℕ) (bs : List (Option (Bor (Branch V)))) (tree : EntryList V × ℕ) (all : EntryList V) : Type 0 where
    pub fits : FitsCapacity room bs
    pub tree_fits : tree.1 + length bs ≤ room
    pub entries : tree.0 ++ pending bs ≡ all

  pub Descends-push : {all : EntryList V} {tree : EntryList V × ℕ} (room same_room : ℕ) (bs more : List (Option (Bor (Branch V)))) (b : Bor (Branch V))
      → Descends room bs tree all → (tree ≡ (branch_entries b.now, b.now.height)) × IsBalanced b.now → same_room ≡ room → more ≡ bs ++ Some b ∷ []
      → Descends same_room more b.now.left all
  Descends-push {all} {tree} room same_room bs more b down is w e =
      let tall : tree.1 ≡ b.now.height = ap (λ t. t.1) is.0 in
      let pushed = length-append bs (Some b ∷ []) in
      record {
        fits = rw (e, w) (FitsCapacity-push room bs b down.fits (omega (arith, down.tree_fits)) is.1);
        tree_fits = rw (e, w) (omega (arith, down.tree_fits, is.1.height));
        entries = rw (e, pending-push bs b) (sym (append_assoc b.now.left.0 ((b.now.key, b.now.value) ∷ b.now.right.0) (pending bs))
            ∙ ap (λ t. t.0 ++ pending bs) (sym is.0) ∙ down.entries);
      }

  -- the entry that a step of the iterator returns, and the entries that remain, if b was popped from bs and the left sides of b's right side were pushed
  pub stepped : {all after : EntryList V} (items bs : List (Option (Bor (Branch V)))) (b : Bor (Branch V)) → pending items ≡ all → items ≡ bs ++ Some b ∷ []
      → after ≡ b.now.right.0 ++ pending bs → all ≡ (b.now.key, b.now.value) ∷ after
  stepped items bs b view popped rest = sym view ∙ ap pending popped ∙ pending-push bs b ∙ ap (λ r. (b.now.key, b.now.value) ∷ r) (sym rest)
