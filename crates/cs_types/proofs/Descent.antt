-- The descent from a type to the scalar at an offset: for the loop of `leaf_at`.
use Rattle.std.proofs.Common.{◌≡◌, ℕ, zero, suc, ◌-◌, ◌<◌, ◌≤◌, List, length, sym, ◌∙◌, ap, refl, subst, arith}
use Rattle.std.specs.Prelude.{Option, Some, None, is_some}
use Rattle.std.specs.Option.{option_map, option_and_then}
use Rattle.std.specs.Borrow.{Bor}
use Rattle.cs_types.specs.declared.ctype.CType.{CType}
use Rattle.cs_types.specs.declared.data_model.DataModel.{DataModel}
use Rattle.cs_types.specs.declared.layout.Base.TheVariants.{Scalar, Inside}
use Rattle.cs_types.specs.declared.structs.StructType.{StructType}
use Rattle.cs_types.specs.Shape.{Shape, shape_of}
use Rattle.cs_types.specs.Layout.{Layout, complete_count, struct_layout, layout_of, leaf_of, scalar_at, HasSmallSizes}
use Rattle.cs_types.specs.LeafSearch.{layout_within, DividesArrays, EntersMember}
use Rattle.std.proofs.lemmas.List.Sums.{count_by-le-length}
use Rattle.cs_types.proofs.Nesting.{mapped}

-- the search is at a type with a layout, whose scalar at the rest of the offset is the result for the whole
-- (`depth` structs may still be nested there, and the search has at least as many turns)
pub record Reaches (model : DataModel) (table : List StructType) (turns : ℕ) (held : Shape) (rest : ℕ) (wanted : Option Shape) : Type 0 where
  pub depth : ℕ
  pub turns_left : depth ≤ turns
  pub nested : depth ≤ complete_count table
  pub small : HasSmallSizes model table held
  pub layout : Layout
  pub laid : layout_within model table depth held ≡ Some layout
  pub same : wanted ≡ scalar_at rest layout.leaves

-- it begins at a type that has a size
pub begins : (model : DataModel) (table : List StructType) (shape : Shape) (offset size : ℕ) → HasSmallSizes model table shape
    → Some size ≡ option_map (λ (l : Layout). l.size) (layout_of model table shape)
    → Reaches model table (length table) shape offset (leaf_of model table shape offset)
begins model table shape offset size small e =
    let parts = mapped (λ (l : Layout). l.size) (layout_of model table shape) size (sym e) in
    record {
      depth = complete_count table;
      turns_left = count_by-le-length (λ (s : StructType). is_some s.members) table;
      nested = omega arith;
      small = small;
      layout = parts.0;
      laid = parts.1;
      same = ap (option_and_then (λ (l : Layout). scalar_at offset l.leaves)) parts.1;
    }

-- a type without a size has no scalar
pub no_layout : (model : DataModel) (table : List StructType) (shape : Shape) (offset : ℕ)
    → None ≡ option_map (λ (l : Layout). l.size) (layout_of model table shape) → leaf_of model table shape offset ≡ None
no_layout model table shape offset e = go (layout_of model table shape) e
  where
    go : (o : Option Layout) → None ≡ option_map (λ (l : Layout). l.size) o → option_and_then (λ (l : Layout). scalar_at offset l.leaves) o ≡ None
    go None e = refl
    go (Some l) e = absurd (cc)

-- if dividing arrays finds nothing, there is no scalar
pub none_found : (model : DataModel) (table : List StructType) (turns : ℕ) (held : Shape) (rest : ℕ) (wanted : Option Shape)
    → Reaches model table turns held rest wanted → DividesArrays model table held rest None → wanted ≡ None
none_found model table turns held rest wanted r d = r.same ∙ d r.depth r.layout r.nested r.laid

-- a scalar that is found is the result
pub scalar_found : (model : DataModel) (table : List StructType) (turns : ℕ) (held : Shape) (rest : ℕ) (wanted : Option Shape) (found : Bor CType)
    → Reaches model table turns held rest wanted → DividesArrays model table held rest (Some (Scalar found)) → wanted ≡ Some (shape_of found.now)
scalar_found model table turns held rest wanted found r d = r.same ∙ d r.depth r.layout r.nested r.laid

-- a struct that is found has a layout, in which the scalar at the rest of the offset is the result
pub record InStruct (model : DataModel) (table : List StructType) (turns number inside : ℕ) (wanted : Option Shape) : Type 0 where
  pub depth : ℕ
  pub turns_left : depth ≤ turns
  pub nested : depth ≤ complete_count table
  pub layout : Layout
  pub laid : struct_layout model table depth number ≡ Some layout
  pub same : wanted ≡ scalar_at inside layout.leaves

pub struct_found : (model : DataModel) (table : List StructType) (turns : ℕ) (held : Shape) (rest : ℕ) (wanted : Option Shape) (number inside : ℕ)
    → Reaches model table turns held rest wanted → DividesArrays model table held rest (Some (Inside number inside))
    → InStruct model table turns number inside wanted
struct_found model table turns held rest wanted number inside r d =
    let base = d r.depth r.layout r.nested r.laid in
    record { depth = r.depth; turns_left = r.turns_left; nested = r.nested; layout = base.0; laid = base.1; same = r.same ∙ base.2 }

-- the depth of a struct that has a layout is at least one
inner_depth : (model : DataModel) (table : List StructType) (depth number : ℕ) (layout : Layout) → struct_layout model table depth number ≡ Some layout
    → (inner : ℕ) × (depth ≡ suc inner)
inner_depth model table zero number layout laid = absurd (cc)
inner_depth model table (suc depth) number layout laid = (depth, refl)

-- a turn remains if a struct is entered
pub struct-turn : (model : DataModel) (table : List StructType) (turns number inside : ℕ) (wanted : Option Shape)
    → InStruct model table turns number inside wanted → 0 < turns
struct-turn model table turns number inside wanted s =
    let inner = inner_depth model table s.depth number s.layout s.laid in
    let step = inner.1 in
    let enough = s.turns_left in
    omega arith

-- if no member contains the offset, there is no scalar
pub no_member : (model : DataModel) (table : List StructType) (turns number inside : ℕ) (wanted : Option Shape)
    → InStruct model table turns number inside wanted → EntersMember model table number inside None → wanted ≡ None
no_member model table turns number inside wanted s e =
    let inner = inner_depth model table s.depth number s.layout s.laid in
    let laid = subst (λ (d : ℕ). struct_layout model table d number ≡ Some s.layout) inner.1 s.laid in
    let nested = subst (λ (d : ℕ). d ≤ complete_count table) inner.1 s.nested in
    s.same ∙ e inner.0 s.layout nested laid

-- the search continues in the member that contains it
pub member_found : (model : DataModel) (table : List StructType) (turns number inside : ℕ) (wanted : Option Shape) (held : Bor CType) (rest : ℕ)
    → InStruct model table turns number inside wanted → EntersMember model table number inside (Some (held, rest))
    → Reaches model table (turns - 1) (shape_of held.now) rest wanted
member_found model table turns number inside wanted held rest s e =
    let inner = inner_depth model table s.depth number s.layout s.laid in
    let laid = subst (λ (d : ℕ). struct_layout model table d number ≡ Some s.layout) inner.1 s.laid in
    let nested = subst (λ (d : ℕ). d ≤ complete_count table) inner.1 s.nested in
    let found = e inner.0 s.layout nested laid in
    let step = inner.1 in
    let enough = s.turns_left in
    record {
      depth = inner.0;
      turns_left = omega arith;
      nested = omega arith;
      small = found.small;
      layout = found.inner;
      laid = found.laid;
      same = s.same ∙ found.same;
    }
