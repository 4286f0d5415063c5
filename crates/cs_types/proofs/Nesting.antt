-- Layouts at a nesting depth of structs: a greater depth changes no layout, and every layout is sound. For the contract of
-- `leaf_at`.
use Rattle.std.proofs.Common.{◌≡◌, ℕ, zero, suc, ◌+◌, ◌-◌, ◌<◌, ◌≤◌, List, [], ◌∷◌, sym, ◌∙◌, ap, refl, subst, arith}
use Rattle.std.proofs.Common.{lit<}
use Rattle.std.specs.Prelude.{Option, Some, None}
use Rattle.std.specs.Option.{option_map, option_and_then}
use Rattle.cs_types.specs.declared.data_model.DataModel.{DataModel}
use Rattle.cs_types.specs.declared.data_model.DataModel.TheVariants.{Lp64, Ilp32}
use Rattle.cs_types.specs.declared.int_type.IntType.{IntType}
use Rattle.cs_types.specs.declared.int_type.IntType.TheVariants.{Char, SChar, UChar, Short, UShort, Int, UInt, Long, ULong, LLong, ULLong}
use Rattle.cs_types.specs.Members.{Member}
use Rattle.cs_types.specs.declared.structs.StructType.{StructType}
use Rattle.cs_types.specs.IntType.{bytes_of, word_bytes}
use Rattle.cs_types.specs.Shape.{Shape, void, integer, pointer, array, struct}
use Rattle.cs_types.specs.Layout.{Layout, round_up, repeated, alone, side_by_side, padded, layout_with, member_layouts, members_of, struct_layout}
use Rattle.cs_types.specs.LeafSearch.{layout_within}
use Rattle.cs_types.proofs.Leaves.{Within-wider, Within-row, Within-side_by_side, side_by_side-aligned, round_up-least, IsSound, AllSound}

-- -- parts of results that exist

pub mapped : {A B : Type 0} (f : A → B) (o : Option A) (b : B) → option_map f o ≡ Some b → (a : A) × (o ≡ Some a) × (b ≡ f a)
mapped f None b h = absurd (cc)
mapped f (Some a) b h = (a, refl, cc)

pub chained : {A B : Type 0} (f : A → Option B) (o : Option A) (b : B) → option_and_then f o ≡ Some b → (a : A) × (o ≡ Some a) × (f a ≡ Some b)
chained f None b h = absurd (cc)
chained f (Some a) b h = (a, refl, h)

-- the layouts of a first member and of the others
pub record FirstMember (of_type : Shape → Option Layout) (m : Member) (ms : List Member) (ls : List Layout) : Type 0 where
  pub first : Layout
  pub rest : List Layout
  pub laid : of_type m.ty ≡ Some first
  pub others : member_layouts of_type ms ≡ Some rest
  pub whole : ls ≡ first ∷ rest

pub first_member : (of_type : Shape → Option Layout) (m : Member) (ms : List Member) (ls : List Layout) → member_layouts of_type (m ∷ ms) ≡ Some ls
    → FirstMember of_type m ms ls
first_member of_type m ms ls h =
    let first = chained (λ (l : Layout). option_map (λ rest. l ∷ rest) (member_layouts of_type ms)) (of_type m.ty) ls h in
    let rest = mapped (λ rest. first.0 ∷ rest) (member_layouts of_type ms) ls first.2 in
    record { first = first.0; rest = rest.0; laid = first.1; others = rest.1; whole = rest.2 }

-- ---- a greater depth changes no layout

-- the second function has every layout that the first has
abbrev pub Extends : {K : Type 0} → (K → Option Layout) → (K → Option Layout) → Type 0
Extends {K} f g = (k : K) (l : Layout) → f k ≡ Some l → g k ≡ Some l

pub layout_with-Extends : (model : DataModel) (f g : ℕ → Option Layout) → Extends f g → Extends (layout_with model f) (layout_with model g)
layout_with-Extends model f g e void l h = h
layout_with-Extends model f g e (integer ty) l h = h
layout_with-Extends model f g e (pointer target) l h = h
layout_with-Extends model f g e (array element count) l h =
    let parts = mapped (repeated count) (layout_with model f element) l h in
    ap (option_map (repeated count)) (layout_with-Extends model f g e element parts.0 parts.1) ∙ ap Some (sym parts.2)
layout_with-Extends model f g e (struct number) l h = e number l h

pub member_layouts-Extends : (f g : Shape → Option Layout) → Extends f g → (ms : List Member) (ls : List Layout) → member_layouts f ms ≡ Some ls
    → member_layouts g ms ≡ Some ls
member_layouts-Extends f g e [] ls h = h
member_layouts-Extends f g e (m ∷ ms) ls h =
    let parts = first_member f m ms ls h in
    let first = e m.ty parts.first parts.laid in
    let others = member_layouts-Extends f g e ms parts.rest parts.others in
    ap (option_and_then (λ (l : Layout). option_map (λ rest. l ∷ rest) (member_layouts g ms))) first
    ∙ ap (option_map (λ rest. parts.first ∷ rest)) others ∙ ap Some (sym parts.whole)

pub struct_layout-deeper : (model : DataModel) (table : List StructType) (depth : ℕ)
    → Extends (struct_layout model table depth) (struct_layout model table (suc depth))
struct_layout-deeper model table zero k l h = absurd (cc)
struct_layout-deeper model table (suc depth) k l h =
    let outer = layout_with-Extends model (struct_layout model table depth) (struct_layout model table (suc depth)) (struct_layout-deeper model table depth) in
    let shallow : List Member → Option Layout = λ ms. option_map (λ ls. padded (side_by_side 0 ls)) (member_layouts (layout_within model table depth) ms) in
    let deep : List Member → Option Layout = λ ms.
    option_map (λ ls. padded (side_by_side 0 ls)) (member_layouts (layout_within model table (suc depth)) ms) in
    let members = chained shallow (members_of table k) l h in
    let layouts = mapped (λ ls. padded (side_by_side 0 ls)) (member_layouts (layout_within model table depth) members.0) l members.2 in
    let lifted = member_layouts-Extends (layout_within model table depth) (layout_within model table (suc depth)) outer members.0 layouts.0 layouts.1 in
    ap (option_and_then deep) members.1 ∙ ap (option_map (λ ls. padded (side_by_side 0 ls))) lifted ∙ ap Some (sym layouts.2)

struct_layout-by : (model : DataModel) (table : List StructType) (depth more : ℕ)
    → Extends (struct_layout model table depth) (struct_layout model table (more + depth))
struct_layout-by model table depth zero k l h =
    subst (λ (d : ℕ). struct_layout model table d k ≡ Some l) (let e : depth ≡ 0 + depth = omega arith in e) h
struct_layout-by model table depth (suc more) k l h =
    let e : suc (more + depth) ≡ suc more + depth = omega arith in
    subst (λ (d : ℕ). struct_layout model table d k ≡ Some l) e
    (struct_layout-deeper model table (more + depth) k l (struct_layout-by model table depth more k l h))

pub struct_layout-Extends : (model : DataModel) (table : List StructType) (depth deeper : ℕ) → depth ≤ deeper
    → Extends (struct_layout model table depth) (struct_layout model table deeper)
struct_layout-Extends model table depth deeper h k l g =
    let e : (deeper - depth) + depth ≡ deeper = omega arith in
    subst (λ (d : ℕ). struct_layout model table d k ≡ Some l) e (struct_layout-by model table depth (deeper - depth) k l g)

pub layout_within-Extends : (model : DataModel) (table : List StructType) (depth deeper : ℕ) → depth ≤ deeper
    → Extends (layout_within model table depth) (layout_within model table deeper)
layout_within-Extends model table depth deeper h =
    layout_with-Extends model (struct_layout model table depth) (struct_layout model table deeper) (struct_layout-Extends model table depth deeper h)

-- ---- every layout is sound

alone-IsSound : (bytes : ℕ) (scalar : Shape) → 0 < bytes → IsSound (alone bytes scalar)
alone-IsSound bytes scalar h = record { aligned = h; within = (omega arith, h, tt) }

word_bytes-above : (model : DataModel) → 0 < word_bytes model
word_bytes-above Lp64 = lit< tt
word_bytes-above Ilp32 = lit< tt

bytes_of-above : (model : DataModel) (ty : IntType) → 0 < bytes_of model ty
bytes_of-above model Char = lit< tt
bytes_of-above model SChar = lit< tt
bytes_of-above model UChar = lit< tt
bytes_of-above model Short = lit< tt
bytes_of-above model UShort = lit< tt
bytes_of-above model Int = lit< tt
bytes_of-above model UInt = lit< tt
bytes_of-above model Long = word_bytes-above model
bytes_of-above model ULong = word_bytes-above model
bytes_of-above model LLong = lit< tt
bytes_of-above model ULLong = lit< tt

-- a function returns only sound layouts
abbrev pub GivesSound : {K : Type 0} → (K → Option Layout) → Type 0
GivesSound {K} f = (k : K) (l : Layout) → f k ≡ Some l → IsSound l

sound_as : (l m : Layout) → Some m ≡ Some l → IsSound m → IsSound l
sound_as l m e h = let P : Layout → Type 0 = λ x. IsSound x in subst P (let f : m ≡ l = cc in f) h

layout_with-GivesSound : (model : DataModel) (f : ℕ → Option Layout) → GivesSound f → GivesSound (layout_with model f)
layout_with-GivesSound model f s void l h = absurd (cc)
layout_with-GivesSound model f s (integer ty) l h = sound_as l _ h (alone-IsSound (bytes_of model ty) (integer ty) (bytes_of-above model ty))
layout_with-GivesSound model f s (pointer target) l h = sound_as l _ h (alone-IsSound (word_bytes model) (pointer target) (word_bytes-above model))
layout_with-GivesSound model f s (array element count) l h =
    let parts = mapped (repeated count) (layout_with model f element) l h in
    let inner = layout_with-GivesSound model f s element parts.0 parts.1 in
    sound_as l (repeated count parts.0) (ap Some (sym parts.2)) (record { aligned = inner.aligned; within = Within-row count parts.0 inner.within })
layout_with-GivesSound model f s (struct number) l h = s number l h

pub member_layouts-AllSound : (f : Shape → Option Layout) → GivesSound f → (ms : List Member) (ls : List Layout) → member_layouts f ms ≡ Some ls
    → AllSound ls
member_layouts-AllSound f s [] ls h = subst AllSound (let e : [] ≡ ls = cc in e) tt
member_layouts-AllSound f s (m ∷ ms) ls h =
    let parts = first_member f m ms ls h in
    subst AllSound (sym parts.whole) (s m.ty parts.first parts.laid, member_layouts-AllSound f s ms parts.rest parts.others)

padded-IsSound : (ls : List Layout) → AllSound ls → IsSound (padded (side_by_side 0 ls))
padded-IsSound ls h =
    let aligned = side_by_side-aligned 0 ls h in
    record {
      aligned = aligned;
      within = Within-wider 0 (side_by_side 0 ls).size 0 (round_up (side_by_side 0 ls).size (side_by_side 0 ls).align) (side_by_side 0 ls).leaves (omega arith)
          (round_up-least (side_by_side 0 ls).size (side_by_side 0 ls).align aligned) (Within-side_by_side 0 ls h);
    }

pub struct_layout-GivesSound : (model : DataModel) (table : List StructType) (depth : ℕ) → GivesSound (struct_layout model table depth)
struct_layout-GivesSound model table zero k l h = absurd (cc)
struct_layout-GivesSound model table (suc depth) k l h =
    let shallow : List Member → Option Layout = λ ms. option_map (λ ls. padded (side_by_side 0 ls)) (member_layouts (layout_within model table depth) ms) in
    let members = chained shallow (members_of table k) l h in
    let layouts = mapped (λ ls. padded (side_by_side 0 ls)) (member_layouts (layout_within model table depth) members.0) l members.2 in
    let inner = layout_with-GivesSound model (struct_layout model table depth) (struct_layout-GivesSound model table depth) in
    sound_as l _ (ap Some (sym layouts.2))
    (padded-IsSound layouts.0 (member_layouts-AllSound (layout_within model table depth) inner members.0 layouts.0 layouts.1))

pub layout_within-GivesSound : (model : DataModel) (table : List StructType) (depth : ℕ) → GivesSound (layout_within model table depth)
layout_within-GivesSound model table depth = layout_with-GivesSound model (struct_layout model table depth) (struct_layout-GivesSound model table depth)
