-- A type with a size has a layout of this size, if the structs have layouts: for the members of structs.
use Rattle.std.proofs.Common.{◌≡◌, ℕ, ◌*◌, ◌≤◌, ◌^◌, nat_le, sym, ◌∙◌, ap, refl, subst, arith, List, leb-true}
use Rattle.std.specs.Prelude.{Option, Some, IfSome}
use Rattle.std.specs.Option.{option_map}
use Rattle.std.proofs.lemmas.Option.{cond_some}
use Rattle.cs_types.specs.declared.data_model.DataModel.{DataModel}
use Rattle.cs_types.specs.declared.structs.StructType.{StructType}
use Rattle.cs_types.specs.IntType.{bytes_of, word_bytes}
use Rattle.cs_types.specs.Shape.{Shape, void, integer, pointer, array, struct}
use Rattle.cs_types.specs.Layout.{Layout, alone, repeated, complete_of, layout_of, HasSmallSizes, IsLaidOut}
use Rattle.cs_types.proofs.Nesting.{mapped, chained}
use Rattle.cs_types.proofs.StructTables.{complete-IsComplete}
use Rattle.cs_scopes.specs.Sizes.{limited, bytes_in}
use Rattle.cs_declarations.specs.Bodies.{align_said, align_in}

-- the type has a layout of so many bytes, with an alignment by the rules, and the sizes in it are bounded
pub record HasLayout (model : DataModel) (table : List StructType) (shape : Shape) (bytes : ℕ) : Type 0 where
  pub layout : Layout
  pub laid : layout_of model table shape ≡ Some layout
  pub size : layout.size ≡ bytes
  pub align : layout.align ≡ align_in model table shape
  pub small : HasSmallSizes model table shape

limited-few : (n bytes : ℕ) → limited n ≡ Some bytes → (bytes ≡ n) × (bytes ≤ 2 ^ 20)
limited-few n bytes h =
    let parts = cond_some (nat_le n (2 ^ 20)) n bytes h in
    let few : n ≤ 2 ^ 20 = leb-true n (2 ^ 20) parts.0 in
    (sym parts.1, subst (λ (m : ℕ). m ≤ 2 ^ 20) parts.1 few)

small_at : (model : DataModel) (table : List StructType) (shape : Shape) (l : Layout) (bytes : ℕ) → layout_of model table shape ≡ Some l
    → l.size ≡ bytes → bytes ≤ 2 ^ 20 → IfSome (layout_of model table shape) (λ layout. layout.size ≤ 2 ^ 40)
small_at model table shape l bytes laid size few =
    let P : Option Layout → Type 0 = λ o. IfSome o (λ layout. layout.size ≤ 2 ^ 40) in
    let fits : l.size ≤ 2 ^ 40 = omega arith in
    subst P (sym laid) fits

pub bytes_in-HasLayout : (model : DataModel) (table : List StructType) → IsLaidOut model table
    → (shape : Shape) (bytes : ℕ) → bytes_in model table shape ≡ Some bytes → HasLayout model table shape bytes
bytes_in-HasLayout model table sound void bytes h = absurd (cc)
bytes_in-HasLayout model table sound (integer ty) bytes h =
    record { layout = alone (bytes_of model ty) (integer ty); laid = refl; size = cc; align = refl; small = tt }
bytes_in-HasLayout model table sound (pointer target) bytes h =
    record { layout = alone (word_bytes model) (pointer target); laid = refl; size = cc; align = refl; small = tt }
bytes_in-HasLayout model table sound (array element count) bytes h =
    let parts = chained (λ inner. limited (count * inner)) (bytes_in model table element) bytes h in
    let few = limited-few (count * parts.0) bytes parts.2 in
    let inner = bytes_in-HasLayout model table sound element parts.0 parts.1 in
    let laid : layout_of model table (array element count) ≡ Some (repeated count inner.layout) = ap (option_map (repeated count)) inner.laid in
    let size : count * inner.layout.size ≡ bytes = ap (λ n. count * n) inner.size ∙ sym few.0 in
    record {
      layout = repeated count inner.layout;
      laid = laid;
      size = size;
      align = inner.align;
      small = (inner.small, small_at model table (array element count) (repeated count inner.layout) bytes laid size few.1);
    }
bytes_in-HasLayout model table sound (struct number) bytes h =
    let parts = chained (λ (s : StructType). limited s.size) (complete_of table number) bytes h in
    let found = parts.0 in
    let few = limited-few found.size bytes parts.2 in
    let at = complete-IsComplete table number found parts.1 in
    let both = sound number found at.members at.stands at.has_members in
    let whole = mapped (λ (layout : Layout). layout.size) (layout_of model table (struct number)) found.size both.1.size in
    let aligned : Some whole.0.align ≡ Some found.align = sym (ap (option_map (λ (layout : Layout). layout.align)) whole.1) ∙ both.1.align in
    let same : whole.0.align ≡ found.align = cc in
    record {
      layout = whole.0;
      laid = whole.1;
      size = sym whole.2 ∙ sym few.0;
      align = same ∙ ap align_said (sym parts.1);
      small = both.0;
    }
