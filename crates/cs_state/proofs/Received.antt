-- One more parameter holds its input: for the contracts of `receive` and `receive_all`.
use Rattle.std.proofs.Common.{◌≡◌, ◌≢◌, ◌⊎◌, ◌+◌, ◌<◌, ◌≤◌, ℕ, ℤ, List, [], length, refl, sym, ap, ◌∙◌, subst, inl}
use Rattle.std.proofs.Common.{inr, arith}
use Rattle.std.specs.Prelude.{Option, None, Some, slice_get}
use Rattle.std.specs.FinMap as finite
use Rattle.std.proofs.lemmas.Option.{same_Some}
use Rattle.std.proofs.lemmas.Bool.Decides.{eqb_tells}
use Rattle.cs_pmap.specs.Keys.{key_cmp}
use Rattle.cs_store.proofs.Keys.{get_here, get_elsewhere}
use Rattle.cs_ranges.specs.declared.range_set.Interval.{Interval}
use Rattle.cs_types.specs.Shape.{Shape, void, integer, pointer, array, struct}
use Rattle.cs_inputs.specs.declared.path.Path.{Path}
use Rattle.cs_inputs.specs.declared.path.Root.{Root}
use Rattle.cs_inputs.specs.declared.path.Root.TheVariants.{Param, Global, Call, Wrote, Malloc}
use Rattle.cs_terms.specs.declared.symbol.SymName.{SymName}
use Rattle.cs_terms.specs.declared.symbol.SymName.TheVariants.{Input, Guess}
use Rattle.cs_terms.specs.declared.symbol.Sym.{Sym}
use Rattle.cs_constraints.specs.Constraints.{set_of}
use Rattle.cs_regions.specs.declared.base.Base.{Base}
use Rattle.cs_regions.specs.declared.base.Base.TheVariants.{Entry, Local, Literal, Heap}
use Rattle.cs_regions.specs.declared.base.Base.TheVariants as base
use Rattle.cs_store.specs.declared.value.Value.{Value}
use Rattle.cs_store.specs.declared.value.Value.TheVariants as values
use Rattle.cs_store.specs.declared.value.Fill as store
use Rattle.cs_store.specs.declared.value.Fill.TheVariants as fill
use Rattle.cs_store.specs.declared.value.Binding.{Binding}
use Rattle.cs_store.specs.declared.value.Binding.TheVariants.{Direct, Fill}
use Rattle.cs_store.specs.Held.{held}
use Rattle.cs_ast.specs.TypedProgram.{TypedProgram, Variable}
use Rattle.cs_types.specs.declared.int_type.IntType.{IntType}
use Rattle.cs_events.specs.Operations.{numbers_of, TRUTHS}
use Rattle.cs_meaning.specs.Steps.{parameter_path}
use Rattle.cs_state.specs.declared.block.Block.{Block}
use Rattle.cs_state.specs.declared.state.State.{State}
use Rattle.cs_state.specs.Cells.{block_of}
use Rattle.cs_state.specs.Naming.{Naming, Extends}
use Rattle.cs_state.specs.Starting.{Ranges, Declares, IsAfter, GivesNumber, GivesPointer, HoldsNumber, HoldsPointer, Gives, Receives, HoldsValue, IsPointer}
use Rattle.cs_state.specs.Starting.{HoldsInput, IsParameter, HasReceived, DifferInName}

-- the name in a path of a parameter
name_in_root : Root → List ℕ
name_in_root (Param name) = name
name_in_root other = []

path_in_sym : SymName → Option Path
path_in_sym (Input path) = Some path
path_in_sym other = None

path_in_base : Base → Option Path
path_in_base (Entry path) = Some path
path_in_base other = None

number_in_base : Base → ℕ
number_in_base (Local frame number) = number
number_in_base other = 0

pub same_input : (p q : Path) → Some (Input p) ≡ Some (Input q) → p ≡ q
unfolding path_in_sym
same_input p q e = same_Some p q (ap path_in_sym (same_Some (Input p) (Input q) e))

pub same_entry : (p q : Path) → Some (Entry p) ≡ Some (Entry q) → p ≡ q
unfolding path_in_base
same_entry p q e = same_Some p q (ap path_in_base (same_Some (Entry p) (Entry q) e))

pub same_local : (j k : ℕ) → Some (Local 0 j) ≡ Some (Local 0 k) → j ≡ k
unfolding number_in_base
same_local j k e = ap number_in_base (same_Some (Local 0 j) (Local 0 k) e)

pub same_name : (v w : Variable) → parameter_path v ≡ parameter_path w → v.name ≡ w.name
unfolding name_in_root
same_name v w e = ap (λ (p : Path). name_in_root p.root) e

module _ {names after : Naming} (e : Extends names after) where
  pub ranges_later : {path : Path} {range : ℤ × ℤ} {sym : Sym} {state : State} → Ranges names path range sym state → Ranges after path range sym state
  ranges_later {path = path} {sym = sym} r =
      record { named = e.syms sym.0 (Input path) r.named; set = r.set; here = r.here; numbers = r.numbers }

  pub declares_later : {path : Path} {range : ℤ × ℤ} {sym : Sym} {old new : State} → Declares names path range sym old new
      → Declares after path range sym old new
  declares_later d = record { ranges = ranges_later d.ranges; elsewhere = d.elsewhere }

  pub after_later : {path : Path} {element : Shape} {bytes : ℕ} {sym : Sym} {base : ℕ} {block : Block} → IsAfter names path element bytes sym base block
      → IsAfter after path element bytes sym base block
  after_later {path = path} {element = element} {base = base} a =
      record { named = e.bases base (Entry path) a.named; number = a.number; typed = e.types a.number.0 element a.typed; block_is = a.block_is }

  number_later : {path : Path} {range : ℤ × ℤ} {value : Value} {old new : State} → GivesNumber names path range value old new
      → GivesNumber after path range value old new
  number_later g = record { sym = g.sym; value_is = g.value_is; declares = declares_later g.declares; rest = g.rest }

  pointer_later : {path : Path} {element : Shape} {bytes : ℕ} {value : Value} {old new : State} → GivesPointer names path element bytes value old new
      → GivesPointer after path element bytes value old new
  pointer_later g = record {
    sym = g.sym;
    base = g.base;
    block = g.block;
    value_is = g.value_is;
    declares = declares_later g.declares;
    is_after = after_later g.is_after;
    rest = g.rest;
  }

  pub gives_later : (program : TypedProgram) (shape : Shape) (path : Path) (count : Option ℕ) (value : Value) (old new : State)
      → Gives program names shape path count value old new → Gives program after shape path count value old new
  gives_later program void path count value old new g = g
  gives_later program (integer ty) path count value old new g = number_later g
  gives_later program (pointer target) path count value old new g = pointer_later g
  gives_later program (array element length) path count value old new g = g
  gives_later program (struct number) path count value old new g = g

-- what receiving an input does, whatever its type: the value that it holds, and which parts of the state are unchanged
pub record IsGiven (program : TypedProgram) (names : Naming) (shape : Shape) (path : Path) (count : Option ℕ) (value : Value) (old new : State)
    : Type 0 where
  pub holds : HoldsValue program names shape path count value new
  pub store : new.store ≡ old.store
  pub read : new.read ≡ old.read
  pub block_new : (b : ℕ) (block : Block) → block_of new.blocks b ≡ Some block
      → (block_of old.blocks b ≡ Some block) ⊎ ((slice_get names.bases b ≡ Some (Entry path)) × IsPointer shape)
  pub block_kept : (b : ℕ) → slice_get names.bases b ≢ Some (Entry path) → block_of new.blocks b ≡ block_of old.blocks b
  pub symbol_new : (s : ℕ) (set : List Interval) → set_of new.constraints s ≡ Some set
      → (set_of old.constraints s ≡ Some set) ⊎ (slice_get names.syms s ≡ Some (Input path))
  pub symbol_kept : (s : ℕ) → slice_get names.syms s ≢ Some (Input path) → set_of new.constraints s ≡ set_of old.constraints s

module _ {names : Naming} {path : Path} {range : ℤ × ℤ} {it : Sym} {old new : State} (d : Declares names path range it old new) where
  declared_kept : (s : ℕ) → slice_get names.syms s ≢ Some (Input path) → set_of new.constraints s ≡ set_of old.constraints s
  declared_kept s other = d.elsewhere s (λ same. other (subst (λ (n : ℕ). slice_get names.syms n ≡ Some (Input path)) (sym same) d.ranges.named))

  declared_new : (s : ℕ) (set : List Interval) → set_of new.constraints s ≡ Some set
      → (set_of old.constraints s ≡ Some set) ⊎ (slice_get names.syms s ≡ Some (Input path))
  declared_new s set there =
      elim (eqb_tells s it.0) [
        | inl same ↦ inr (subst (λ (n : ℕ). slice_get names.syms n ≡ Some (Input path)) (sym same.1) d.ranges.named)
        | inr differ ↦ inl (sym (d.elsewhere s differ.1) ∙ there)
      ]

module _ (program : TypedProgram) (names : Naming) (path : Path) (count : Option ℕ) (value : Value) (old new : State) where
  -- the state is unchanged
  given_unset : (shape : Shape) → HoldsValue program names shape path count value new → new ≡ old
      → IsGiven program names shape path count value old new
  given_unset shape holds same = record {
    holds = holds;
    store = ap (λ (s : State). s.store) same;
    read = ap (λ (s : State). s.read) same;
    block_new = λ b block there. inl (sym (ap (λ (s : State). block_of s.blocks b) same) ∙ there);
    block_kept = λ b other. ap (λ (s : State). block_of s.blocks b) same;
    symbol_new = λ s set there. inl (sym (ap (λ (t : State). set_of t.constraints s) same) ∙ there);
    symbol_kept = λ s other. ap (λ (t : State). set_of t.constraints s) same;
  }

  given_number : (ty : IntType) → GivesNumber names path (numbers_of program.model ty) value old new
      → IsGiven program names (integer ty) path count value old new
  given_number ty g = record {
    holds = record { sym = g.sym; value_is = g.value_is; ranges = g.declares.ranges };
    store = ap (λ (s : State). s.store) g.rest;
    read = ap (λ (s : State). s.read) g.rest;
    block_new = λ b block there. inl (sym (ap (λ (s : State). block_of s.blocks b) g.rest) ∙ there);
    block_kept = λ b other. ap (λ (s : State). block_of s.blocks b) g.rest;
    symbol_new = declared_new g.declares;
    symbol_kept = declared_kept g.declares;
  }

  given_pointer : (target : Shape) → Gives program names (pointer target) path count value old new
      → IsGiven program names (pointer target) path count value old new
  given_pointer target g =
      let blocks : new.blocks ≡ finite.insert old.blocks (g.base, 0) g.block = ap (λ (s : State). s.blocks) g.rest in
      record {
        holds = record {
          sym = g.sym;
          base = g.base;
          block = g.block;
          value_is = g.value_is;
          ranges = g.declares.ranges;
          is_after = g.is_after;
          there = ap (λ m. block_of m g.base) blocks ∙ get_here old.blocks g.base g.block;
        };
        store = ap (λ (s : State). s.store) g.rest;
        read = ap (λ (s : State). s.read) g.rest;
        block_new = λ b block there.
            elim (eqb_tells b g.base) [
              | inl same ↦
                  inr (subst (λ (n : ℕ). slice_get names.bases n ≡ Some (Entry path)) (sym same.1) g.is_after.named, (target, refl))
              | inr differ ↦ inl (sym (get_elsewhere old.blocks g.base b g.block differ.1) ∙ sym (ap (λ m. block_of m b) blocks) ∙ there)
            ];
        block_kept = λ b other.
            ap (λ m. block_of m b) blocks
            ∙ get_elsewhere old.blocks g.base b g.block
            (λ same. other (subst (λ (n : ℕ). slice_get names.bases n ≡ Some (Entry path)) (sym same) g.is_after.named));
        symbol_new = declared_new g.declares;
        symbol_kept = declared_kept g.declares;
      }

  pub given : (shape : Shape) → Gives program names shape path count value old new → IsGiven program names shape path count value old new
  given void g = given_unset void g.0 g.1
  given (integer ty) g = given_number ty g
  given (pointer target) g = given_pointer target g
  given (array element number) g = given_unset (array element number) g.0 g.1
  given (struct number) g = given_unset (struct number) g.0 g.1

-- what a parameter holds, it holds in a later state in which its symbol and its block are the same
module _ (program : TypedProgram) {names after : Naming} (e : Extends names after) (path : Path) (count : Option ℕ) (value : Value) (old new : State)
    (symbols : (s : ℕ) → slice_get after.syms s ≡ Some (Input path) → set_of new.constraints s ≡ set_of old.constraints s)
    (blocks : (b : ℕ) → slice_get after.bases b ≡ Some (Entry path) → block_of new.blocks b ≡ block_of old.blocks b) where
  ranges_kept : (range : ℤ × ℤ) (it : Sym) → Ranges names path range it old → Ranges after path range it new
  ranges_kept range it r =
      let named = e.syms it.0 (Input path) r.named in
      record { named = named; set = r.set; here = symbols it.0 named ∙ r.here; numbers = r.numbers }

  pub holds_kept : (shape : Shape) → HoldsValue program names shape path count value old → HoldsValue program after shape path count value new
  holds_kept void h = h
  holds_kept (integer ty) h = record { sym = h.sym; value_is = h.value_is; ranges = ranges_kept (numbers_of program.model ty) h.sym h.ranges }
  holds_kept (pointer target) h = record {
    sym = h.sym;
    base = h.base;
    block = h.block;
    value_is = h.value_is;
    ranges = ranges_kept TRUTHS h.sym h.ranges;
    is_after = after_later e h.is_after;
    there = blocks h.base (e.bases h.base (Entry path) h.is_after.named) ∙ h.there;
  }
  holds_kept (array element number) h = h
  holds_kept (struct number) h = h
