-- The last member that begins at or before an offset has the scalar there. For the contracts of `leaf_at` and its parts.
use Rattle.std.proofs.Common.{◌≡◌, ℕ, suc, ◌+◌, ◌-◌, ◌<◌, ◌≤◌, ◌⊎◌, inl, inr, Bool, true, false, List, [], ◌∷◌, ◌++◌}
use Rattle.std.proofs.Common.{sym, ◌∙◌, ap, refl, subst, arith, map, cond, leb-true}
use Rattle.std.specs.Prelude.{Option, Some, None, nat_le}
use Rattle.std.specs.Option.{option_and_then, option_or}
use Rattle.std.specs.List.{All}
use Rattle.std.proofs.lemmas.Bool.Decides.{nat_tests}
use Rattle.cs_types.specs.Members.{Member}
use Rattle.cs_types.specs.Shape.{Shape}
use Rattle.cs_types.specs.Layout.{Layout, round_up, moved, side_by_side, offsets, member_layouts, scalar_at}
use Rattle.cs_types.specs.LeafSearch.{last_at}
use Rattle.cs_types.proofs.Leaves.{Within, Within-moved, outside, scalar_at-append, scalar_at-moved, option_or-None, round_up-least, AllSound}
use Rattle.cs_types.proofs.Nesting.{first_member}

-- the scalar in the layout of the found member, at the rest of the offset
abbrev pub at_member : (Shape → Option Layout) → ℕ → Option Member → Option Shape
at_member of_type offset None = None
at_member of_type offset (Some m) = option_and_then (λ (l : Layout). scalar_at (offset - m.offset) l.leaves) (of_type m.ty)

-- the last of some members and more
last_cases : (o : ℕ) (m found : Member) (later : Option Member) (t : Bool) → option_or later (cond t (Some m) None) ≡ Some found
    → (later ≡ Some found) ⊎ ((later ≡ None) × (t ≡ true) × (m ≡ found))
last_cases o m found None true h = inr (refl, refl, cc)
last_cases o m found None false h = absurd (cc)
last_cases o m found (Some other) t h = inl h

-- a found member begins at or before the offset, and not before the offset where the members start
pub last_at-bounds : (o from : ℕ) (ms : List Member) (ls : List Layout) (found : Member) → map (λ (m : Member). m.offset) ms ≡ offsets from ls
    → AllSound ls → last_at o ms ≡ Some found → (from ≤ found.offset) × (found.offset ≤ o)
last_at-bounds o from [] ls found e s h = absurd (cc)
last_at-bounds o from (m ∷ ms) [] found e s h = absurd (cc)
last_at-bounds o from (m ∷ ms) (l ∷ ls) found e s h =
    let at : ℕ = round_up from l.align in
    let own : m.offset ≡ at = cc in
    let rest : map (λ (m : Member). m.offset) ms ≡ offsets (at + l.size) ls = cc in
    let least = round_up-least from l.align s.0.aligned in
    elim (last_cases o m found (last_at o ms) (nat_le m.offset o) h) [
      | inl later ↦
          let bounds = last_at-bounds o (at + l.size) ms ls found rest s.1 later in
          (omega arith, bounds.1)
      | inr here ↦
          let begins : m.offset ≤ o = leb-true m.offset o here.1 in
          let same : m.offset ≡ found.offset = ap (λ (x : Member). x.offset) here.2 in
          (omega arith, omega arith)
    ]

-- if no later member is found, the scalar is that of the first one
only_first : (of_type : Shape → Option Layout) (o at : ℕ) (m : Member) (l : Layout) → of_type m.ty ≡ Some l → m.offset ≡ at
    → Within 0 l.size l.leaves → (t : Bool) → nat_le m.offset o ≡ t → scalar_at o (moved at l.leaves) ≡ at_member of_type o (cond t (Some m) None)
only_first of_type o at m l own begins w true is =
    let before : m.offset ≤ o = leb-true m.offset o is in
    scalar_at-moved at o l.leaves (omega arith) ∙ ap (λ x. scalar_at (o - x) l.leaves) (sym begins)
    ∙ sym (ap (option_and_then (λ (x : Layout). scalar_at (o - m.offset) x.leaves)) own)
only_first of_type o at m l own begins w false is =
    let after : o < at = grind (arith, nat_tests) in
    outside o (at + 0) (at + l.size) (moved at l.leaves) (Within-moved at 0 l.size l.leaves w) (inl (omega arith))

-- the scalar at an offset of consecutive members is that of the last one that begins at or before it
pub scalar_at-members : (of_type : Shape → Option Layout) (o from : ℕ) (ms : List Member) (ls : List Layout) → member_layouts of_type ms ≡ Some ls
    → map (λ (m : Member). m.offset) ms ≡ offsets from ls → AllSound ls
    → scalar_at o (side_by_side from ls).leaves ≡ at_member of_type o (last_at o ms)
scalar_at-members of_type o from [] ls h e s =
    let none : ls ≡ [] = cc in
    ap (λ x. scalar_at o (side_by_side from x).leaves) none
scalar_at-members of_type o from (m ∷ ms) [] h e s = absurd (cc)
scalar_at-members of_type o from (m ∷ ms) (l ∷ ls) h e s =
    let parts = first_member of_type m ms (l ∷ ls) h in
    let own : of_type m.ty ≡ Some l = cc in
    let others : member_layouts of_type ms ≡ Some ls = cc in
    let at : ℕ = round_up from l.align in
    let begins : m.offset ≡ at = cc in
    let rest : map (λ (m : Member). m.offset) ms ≡ offsets (at + l.size) ls = cc in
    let following = scalar_at-members of_type o (at + l.size) ms ls others rest s.1 in
    let split = scalar_at-append o (moved at l.leaves) (side_by_side (at + l.size) ls).leaves in
    split ∙ step (last_at o ms) refl own begins rest s following
  where
    step : (later : Option Member) → last_at o ms ≡ later → of_type m.ty ≡ Some l → m.offset ≡ round_up from l.align
        → map (λ (m : Member). m.offset) ms ≡ offsets (round_up from l.align + l.size) ls → AllSound (l ∷ ls)
        → scalar_at o (side_by_side (round_up from l.align + l.size) ls).leaves ≡ at_member of_type o later
        → option_or (scalar_at o (moved (round_up from l.align) l.leaves)) (scalar_at o (side_by_side (round_up from l.align + l.size) ls).leaves)
        ≡ at_member of_type o (option_or later (cond (nat_le m.offset o) (Some m) None))
    step (Some found) is own begins rest s following =
        let at : ℕ = round_up from l.align in
        let bounds = last_at-bounds o (at + l.size) ms ls found rest s.1 is in
        let before = outside o (at + 0) (at + l.size) (moved at l.leaves) (Within-moved at 0 l.size l.leaves s.0.within) (inr (omega arith)) in
        ap (λ x. option_or x (scalar_at o (side_by_side (at + l.size) ls).leaves)) before ∙ following
    step None is own begins rest s following =
        let at : ℕ = round_up from l.align in
        ap (option_or (scalar_at o (moved at l.leaves))) following ∙ option_or-None (scalar_at o (moved at l.leaves))
        ∙ only_first of_type o at m l own begins s.0.within (nat_le m.offset o) refl

-- a found member is one of the members
pub last_at-All : (P : Member → Type 0) (o : ℕ) (ms : List Member) (found : Member) → All P ms → last_at o ms ≡ Some found → P found
last_at-All P o [] found h e = absurd (cc)
last_at-All P o (m ∷ ms) found h e =
    elim (last_cases o m found (last_at o ms) (nat_le m.offset o) e) [
      | inl later ↦ last_at-All P o ms found (λ k d p. h (suc k) d (omega arith)) later
      | inr here ↦ subst P here.2 (h 0 m (omega arith))
    ]

-- and has a layout
pub last_at-laid : (of_type : Shape → Option Layout) (o : ℕ) (ms : List Member) (ls : List Layout) (found : Member)
    → member_layouts of_type ms ≡ Some ls → last_at o ms ≡ Some found → (l : Layout) × (of_type found.ty ≡ Some l)
last_at-laid of_type o [] ls found h e = absurd (cc)
last_at-laid of_type o (m ∷ ms) ls found h e =
    let parts = first_member of_type m ms ls h in
    elim (last_cases o m found (last_at o ms) (nat_le m.offset o) e) [
      | inl later ↦ last_at-laid of_type o ms parts.rest found parts.others later
      | inr here ↦ (parts.first, subst (λ (x : Member). of_type x.ty ≡ Some parts.first) here.2 parts.laid)
    ]

-- one more member
pub last_at-push : (o : ℕ) (ms : List Member) (m : Member) → last_at o (ms ++ m ∷ []) ≡ cond (nat_le m.offset o) (Some m) (last_at o ms)
last_at-push o [] m = refl
last_at-push o (x ∷ xs) m = ap (λ later. option_or later (cond (nat_le x.offset o) (Some x) None)) (last_at-push o xs m) ∙ by_test (nat_le m.offset o)
  where
    by_test : (t : Bool) → option_or (cond t (Some m) (last_at o xs)) (cond (nat_le x.offset o) (Some x) None)
        ≡ cond t (Some m) (option_or (last_at o xs) (cond (nat_le x.offset o) (Some x) None))
    by_test true = refl
    by_test false = refl

pub last_at-before : (o : ℕ) (ms : List Member) (found : Member) → last_at o ms ≡ Some found → found.offset ≤ o
last_at-before o [] found e = absurd (cc)
last_at-before o (m ∷ ms) found e =
    elim (last_cases o m found (last_at o ms) (nat_le m.offset o) e) [
      | inl later ↦ last_at-before o ms found later
      | inr here ↦ subst (λ (x : Member). x.offset ≤ o) here.2 (leb-true m.offset o here.1)
    ]
