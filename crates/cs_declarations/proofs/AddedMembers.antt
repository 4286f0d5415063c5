-- Members of a layout, and one more after them: for the layout of a struct's members.
use Rattle.std.proofs.Common.{◌≡◌, ℕ, ◌+◌, max, List, [], ◌∷◌, ◌++◌, sym, ◌∙◌, ap, refl, arith}
use Rattle.std.specs.Prelude.{Option, Some}
use Rattle.std.specs.Option.{option_map, option_and_then}
use Rattle.cs_types.specs.Members.{Member}
use Rattle.cs_types.specs.Shape.{Shape}
use Rattle.cs_types.specs.Layout.{Layout, round_up, side_by_side, offsets, member_layouts}
use Rattle.cs_types.proofs.Nesting.{first_member}

pub offsets-push : (from : ℕ) (ls : List Layout) (l : Layout)
    → offsets from (ls ++ l ∷ []) ≡ offsets from ls ++ round_up (side_by_side from ls).size l.align ∷ []
offsets-push from [] l = refl
offsets-push from (first ∷ rest) l = ap (λ os. round_up from first.align ∷ os) (offsets-push (round_up from first.align + first.size) rest l)

pub size-push : (from : ℕ) (ls : List Layout) (l : Layout)
    → (side_by_side from (ls ++ l ∷ [])).size ≡ round_up (side_by_side from ls).size l.align + l.size
size-push from [] l = refl
size-push from (first ∷ rest) l = size-push (round_up from first.align + first.size) rest l

pub align-push : (from : ℕ) (ls : List Layout) (l : Layout) → (side_by_side from (ls ++ l ∷ [])).align ≡ max (side_by_side from ls).align l.align
align-push from [] l = omega arith
align-push from (first ∷ rest) l =
    let following = align-push (round_up from first.align + first.size) rest l in
    omega arith

pub layouts-push : (of_type : Shape → Option Layout) (ms : List Member) (m : Member) (ls : List Layout) (l : Layout) → member_layouts of_type ms ≡ Some ls
    → of_type m.ty ≡ Some l → member_layouts of_type (ms ++ m ∷ []) ≡ Some (ls ++ l ∷ [])
layouts-push of_type [] m ls l h e =
    let none : [] ≡ ls = cc in
    ap (option_and_then (λ (first : Layout). Some (first ∷ []))) e ∙ ap (λ xs. Some (xs ++ l ∷ [])) none
layouts-push of_type (x ∷ xs) m ls l h e =
    let parts = first_member of_type x xs ls h in
    let others = layouts-push of_type xs m parts.rest l parts.others e in
    ap (option_and_then (λ (first : Layout). option_map (λ rest. first ∷ rest) (member_layouts of_type (xs ++ m ∷ [])))) parts.laid
    ∙ ap (option_map (λ rest. parts.first ∷ rest)) others ∙ ap (λ ys. Some (ys ++ l ∷ [])) (sym parts.whole)
