-- One more parameter has received its input: for the contract of `receive_all`.
use Rattle.std.proofs.Common.{◌≡◌, ◌≢◌, ◌⊎◌, ◌+◌, ◌<◌, ◌≤◌, ℕ, List, refl, sym, ap, ◌∙◌, subst, inl, inr, arith}
use Rattle.std.specs.Prelude.{Option, None, Some, slice_get}
use Rattle.std.proofs.lemmas.Option.{same_Some}
use Rattle.std.proofs.lemmas.Bool.Decides.{eqb_tells}
use Rattle.cs_ranges.specs.declared.range_set.Interval.{Interval}
use Rattle.cs_inputs.specs.declared.path.Path.{Path}
use Rattle.cs_terms.specs.declared.symbol.SymName.TheVariants.{Input}
use Rattle.cs_constraints.specs.Constraints.{set_of}
use Rattle.cs_regions.specs.declared.base.Base.TheVariants.{Entry, Local}
use Rattle.cs_store.specs.declared.value.Value.{Value}
use Rattle.cs_store.specs.declared.value.Fill as store
use Rattle.cs_store.specs.declared.value.Fill.TheVariants.{Unset as UnsetFill}
use Rattle.cs_store.specs.declared.value.Binding.{Binding}
use Rattle.cs_store.specs.declared.value.Binding.TheVariants.{Direct, Fill}
use Rattle.cs_store.specs.Held.{held}
use Rattle.cs_ast.specs.TypedProgram.{TypedProgram, Variable}
use Rattle.cs_meaning.specs.Steps.{parameter_path}
use Rattle.cs_state.specs.declared.block.Block.{Block}
use Rattle.cs_state.specs.declared.state.State.{State}
use Rattle.cs_state.specs.Cells.{block_of}
use Rattle.cs_state.specs.Naming.{Naming, Extends}
use Rattle.cs_state.specs.ReadCells.{read_at}
use Rattle.cs_state.specs.Starting.{HoldsValue, HoldsInput, IsParameter, HasReceived, DifferInName, Receives, Gives, IsPointer}
use Rattle.cs_types.specs.Shape.{Shape, void, integer, pointer, array, struct}
use Rattle.cs_state.specs.Writes.{with_memory, with_known}
use Rattle.cs_state.proofs.Received.{IsGiven, given, holds_kept, same_input, same_entry, same_local, same_name}

-- a direct binding isn't a fill
IsFill : Binding → Type 0
IsFill (Direct value) = ⊥
IsFill (Fill fill) = Unit {0}

pub direct_no_fill : (value : Value) (fill : store.Fill) → Direct value ≡ Fill fill → ⊥
unfolding IsFill
direct_no_fill value fill e = subst IsFill (sym e) tt

pub extends_itself : (names : Naming) → Extends names names
extends_itself names = record { syms = λ place name there. there; bases = λ place name there. there; types = λ place name there. there }

pub extends_further : {one two three : Naming} → Extends one two → Extends two three → Extends one three
extends_further e f = record {
  syms = λ place name there. f.syms place name (e.syms place name there);
  bases = λ place name there. f.bases place name (e.bases place name there);
  types = λ place name there. f.types place name (e.types place name there);
}

module _ (program : TypedProgram) {names after : Naming} (e : Extends names after) (variables : List Variable) (count : ℕ) (v : Variable)
    (old new : State) (h : HasReceived program names variables count old) (there : slice_get variables count ≡ Some v) (d : DifferInName variables)
    (r : Receives program after count v old new) where
  abbrev path : Path
  path = parameter_path v

  abbrev is : IsGiven program after v.ty path v.block r.value old r.between
  is = given program after path v.block r.value old r.between v.ty r.gives

  now : IsParameter variables (count + 1) v count
  now = record { early = omega arith; there = there }

  still : {w : Variable} {number : ℕ} → IsParameter variables count w number → IsParameter variables (count + 1) w number
  still p = record { early = omega (arith, p.early); there = p.there }

  same_constraints : (s : ℕ) → set_of new.constraints s ≡ set_of r.between.constraints s
  same_constraints s = ap (λ (t : State). set_of t.constraints s) r.rest

  same_blocks : (b : ℕ) → block_of new.blocks b ≡ block_of r.between.blocks b
  same_blocks b = ap (λ (t : State). block_of t.blocks b) r.rest

  -- an earlier parameter has another path
  other_path : (number : ℕ) (w : Variable) → IsParameter variables count w number → parameter_path w ≡ path → ⊥
  other_path number w p same =
      let one : number ≡ count = d number count w v p.there there (same_name w v same) in
      omega (arith, p.early, one)

  held_before : (b o : ℕ) → (b ≢ r.base) ⊎ (o ≢ 0) → held new.store b o ≡ held old.store b o
  held_before b o differ = r.elsewhere b o differ ∙ ap (λ s. held s b o) is.store

  newest : HoldsInput program after count v new
  newest = record {
    value = r.value;
    base = r.base;
    named = r.named;
    here = r.here;
    holds = holds_kept program (extends_itself after) path v.block r.value r.between new (λ s named. same_constraints s) (λ b named. same_blocks b) v.ty
        is.holds;
  }

  earlier : (number : ℕ) (w : Variable) → IsParameter variables count w number → HoldsInput program after number w new
  earlier number w p =
      let it : HoldsInput program names number w old = h.each number w p in
      let named = e.bases it.base (Local 0 number) it.named in
      let differ : it.base ≢ r.base = λ same.
      let one : number ≡ count
      = same_local number count (sym named ∙ subst (λ (b : ℕ). slice_get after.bases b ≡ Some (Local 0 count)) (sym same) r.named) in
      omega (arith, p.early, one) in
      record {
        value = it.value;
        base = it.base;
        named = named;
        here = held_before it.base 0 (inl differ) ∙ it.here;
        holds = holds_kept program e (parameter_path w) w.block it.value old new
            (λ s has. same_constraints s ∙ is.symbol_kept s (λ named. other_path number w p (same_input (parameter_path w) path (sym has ∙ named))))
            (λ b has. same_blocks b ∙ is.block_kept b (λ named. other_path number w p (same_entry (parameter_path w) path (sym has ∙ named))))
            w.ty it.holds;
      }

  each_more : (number : ℕ) (w : Variable) → IsParameter variables (count + 1) w number → HoldsInput program after number w new
  each_more number w p =
      elim (eqb_tells number count) [
        | inl same ↦
            let one : v ≡ w = same_Some v w (sym there ∙ subst (λ (n : ℕ). slice_get variables n ≡ Some w) same.1 p.there) in
            subst (λ (n : ℕ). HoldsInput program after n w new) (sym same.1) (subst (λ (u : Variable). HoldsInput program after count u new) one newest)
        | inr differ ↦ earlier number w (record { early = omega (arith, p.early, differ.1); there = p.there })
      ]

  abbrev Bound : ℕ → ℕ → Type 0
  Bound b o = (o ≡ 0) × (number : ℕ) × (w : Variable) × IsParameter variables (count + 1) w number × (slice_get after.bases b ≡ Some (Local 0 number))

  bound_before : (b o : ℕ) (value : Value) → (b ≢ r.base) ⊎ (o ≢ 0) → held new.store b o ≡ Direct value → Bound b o
  bound_before b o value differ here =
      let it = h.bound b o value (sym (held_before b o differ) ∙ here) in
      (it.0, it.1, it.2, still it.3, e.bases b (Local 0 it.1) it.4)

  bound_more : (b o : ℕ) (value : Value) → held new.store b o ≡ Direct value → Bound b o
  bound_more b o value here =
      elim (eqb_tells b r.base) [
        | inl same ↦
            elim (eqb_tells o 0) [
              | inl zero ↦ (zero.1, count, v, now, subst (λ (n : ℕ). slice_get after.bases n ≡ Some (Local 0 count)) (sym same.1) r.named)
              | inr other ↦ bound_before b o value (inr other.1) here
            ]
        | inr other ↦ bound_before b o value (inl other.1) here
      ]

  unfilled_more : (b o : ℕ) (fill : store.Fill) → held new.store b o ≡ Fill fill → fill ≡ UnsetFill
  unfilled_more b o fill here =
      elim (eqb_tells b r.base) [
        | inl same ↦
            elim (eqb_tells o 0) [
              | inl zero ↦
                  absurd (direct_no_fill r.value fill (sym r.here
                  ∙ subst (λ (n : ℕ). held new.store n 0 ≡ Fill fill) same.1 (subst (λ (n : ℕ). held new.store b n ≡ Fill fill) zero.1 here)))
              | inr other ↦ h.unfilled b o fill (sym (held_before b o (inr other.1)) ∙ here)
            ]
        | inr other ↦ h.unfilled b o fill (sym (held_before b o (inl other.1)) ∙ here)
      ]

  read_more : (b o : ℕ) → read_at new.read b o ≡ None
  read_more b o =
      elim (eqb_tells b r.base) [
        | inl same ↦
            elim (eqb_tells o 0) [
              | inl zero ↦ (λ i. read_at new.read (same.1 i) (zero.1 i)) ∙ r.unread
              | inr other ↦ r.read b o (inr other.1) ∙ before
            ]
        | inr other ↦ r.read b o (inl other.1) ∙ before
      ]
    where
      before : read_at r.between.read b o ≡ None
      before = ap (λ m. read_at m b o) is.read ∙ h.read b o

  abbrev Blocked : ℕ → Type 0
  Blocked b = (number : ℕ) × (w : Variable) × IsParameter variables (count + 1) w number × (slice_get after.bases b ≡ Some (Entry (parameter_path w)))
      × IsPointer w.ty

  blocks_more : (b : ℕ) (block : Block) → block_of new.blocks b ≡ Some block → Blocked b
  blocks_more b block here =
      elim (is.block_new b block (sym (same_blocks b) ∙ here)) [
        | inl before ↦
            let it = h.blocks b block before in
            (it.0, it.1, still it.2, e.bases b (Entry (parameter_path it.1)) it.3, it.4)
        | inr new_one ↦ (count, v, now, new_one.0, new_one.1)
      ]

  abbrev Symbolized : ℕ → Type 0
  Symbolized s = (number : ℕ) × (w : Variable) × IsParameter variables (count + 1) w number × (slice_get after.syms s ≡ Some (Input (parameter_path w)))

  symbols_more : (s : ℕ) (set : List Interval) → set_of new.constraints s ≡ Some set → Symbolized s
  symbols_more s set here =
      elim (is.symbol_new s set (sym (same_constraints s) ∙ here)) [
        | inl before ↦
            let it = h.symbols s set before in
            (it.0, it.1, still it.2, e.syms s (Input (parameter_path it.1)) it.3)
        | inr named ↦ (count, v, now, named)
      ]

  pub received_more : HasReceived program after variables (count + 1) new
  received_more = record {
    each = each_more;
    bound = bound_more;
    unfilled = unfilled_more;
    read = read_more;
    blocks = blocks_more;
    symbols = symbols_more;
  }

-- receiving a parameter's input changes only what is known
known_given : (program : TypedProgram) (names : Naming) (shape : Shape) (path : Path) (count : Option ℕ) (value : Value) (old new : State)
    → Gives program names shape path count value old new → new ≡ with_known new old
known_given program names void at count value old new g = g.1 ∙ ap (λ (s : State). with_known s old) (sym g.1)
known_given program names (integer ty) at count value old new g = g.rest ∙ ap (λ (s : State). with_known s old) (sym g.rest)
known_given program names (pointer target) at count value old new g = g.rest ∙ ap (λ (s : State). with_known s old) (sym g.rest)
known_given program names (array element length) at count value old new g = g.1 ∙ ap (λ (s : State). with_known s old) (sym g.1)
known_given program names (struct number) at count value old new g = g.1 ∙ ap (λ (s : State). with_known s old) (sym g.1)

known_over : (old between new : State) → between ≡ with_known between old → new ≡ with_memory new.store new.read between → new ≡ with_known new old
known_over old between new known rest =
    rest ∙ ap (λ (s : State). with_memory new.store new.read s) known
    ∙ ap (λ (s : State). with_known (with_memory new.store new.read s) old) (sym rest)

pub known_received : (program : TypedProgram) (names : Naming) (number : ℕ) (v : Variable) (first old new : State)
    → old ≡ with_known old first → Receives program names number v old new → new ≡ with_known new first
known_received program names number v first old new known r =
    let step : new ≡ with_known new old
    = known_over old r.between new (known_given program names v.ty (parameter_path v) v.block r.value old r.between r.gives) r.rest in
    step ∙ ap (λ (s : State). with_known new s) known
