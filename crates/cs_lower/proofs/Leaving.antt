-- The code of statements that jump, as `break`: for the contracts of `lower_goto` and `lower_statement`.
use Rattle.std.proofs.Common.{◌≡◌, ℕ, [], ◌∷◌, Option, Some, None, sym, subst}
use Rattle.std.specs.Prelude.{option_map, unwrap_or}
use Rattle.cs_ast.specs.declared.place.Place.{Place}
use Rattle.cs_ast.specs.TypedTree.{Typed, Goto, Break, Continue, Return}
use Rattle.cs_ast.specs.TypedProgram.{TypedProgram, Routine}
use Rattle.cs_meaning.specs.Machine.{body_of}
use Rattle.cs_meaning.specs.Jumps.{Landing, landing}
use Rattle.cs_cfg.specs.Fitting.{AddsPoints}
use Rattle.cs_cfg.specs.Graph.{Point, Flow, block_of}
use Rattle.cs_cfg.specs.Placing.{Joins, there, jumps}
use Rattle.cs_cfg.specs.Executing.{IsKept, goes_to}
use Rattle.cs_cfg.proofs.Fitting.{adds_jump, nothing_then, then_nothing}
use Rattle.cs_lower.specs.Building.{jump_to, Built, blocks}
use Rattle.cs_lower.specs.Integers.{AddsIntegers}
use Rattle.cs_lower.specs.Keeping.{Keeps, LeadsOff}
use Rattle.cs_lower.specs.Labels.{point_of_label}
use Rattle.cs_lower.specs.Statements.{labels_in, Executes, Returns}
use Rattle.cs_lower.proofs.Built.{nothing_more, grows_on, adds_nothing}
use Rattle.cs_lower.proofs.Evaluating.{same_before}
use Rattle.cs_lower.proofs.Integers.{integers_same, integers_both, integers_end, integers_before}

jump_leads : {program : TypedProgram} (flow : Flow) (block : ℕ) (p : Point) → p ≡ jump_to block → Joins program flow p (block_of flow block)
jump_leads {program = program} flow block p is = subst (λ r. Joins program flow r (block_of flow block)) (sym is) (jumps there)

-- the code after it is kept, and adds no control points
led_off : (flow : Flow) {block : ℕ} {old new : Built} {p q : Point} → LeadsOff old new block p q
    → AddsPoints flow [] (q ∷ blocks old) (p ∷ blocks new)
led_off flow {block = block} h = same_before h.is (then_nothing (h.keeps.adds flow) (adds_jump block))

led_integers : {count block : ℕ} {old new : Built} {p q : Point} → LeadsOff old new block p q → AddsIntegers count (q ∷ blocks old) (p ∷ blocks new)
led_integers {count = count} h = integers_before h.is (integers_both (h.keeps.integers count) (integers_end integers_same))

module _ {program : TypedProgram} {routine : Routine} where
  pub break : {at : Place} {out again : ℕ} {old new : Built} {p q : Point} → LeadsOff old new out p q
      → Executes program routine (Break at) out again old new p q
  break {out = out} {p = p} h = record {
    grows = h.keeps.grows;
    does = λ flow has args counted_point e. (jump_leads flow out p h.is, h.keeps.kept program flow has);
    adds = λ flow has args counted_point e to aims following m. led_off flow h;
    integers = λ count ints. led_integers h;
  }

  pub continue : {at : Place} {out again : ℕ} {old new : Built} {p q : Point} → LeadsOff old new again p q
      → Executes program routine (Continue at) out again old new p q
  continue {again = again} {p = p} h = record {
    grows = h.keeps.grows;
    does = λ flow has args counted_point e. (jump_leads flow again p h.is, h.keeps.kept program flow has);
    adds = λ flow has args counted_point e to aims following m. led_off flow h;
    integers = λ count ints. led_integers h;
  }

  -- a `goto`
  pub goto_there : {at : Place} {label counted_point out again : ℕ} {old new : Built} {p q : Point} → point_of_label routine label ≡ Some counted_point
      → LeadsOff old new counted_point p q → Executes program routine (Goto at label) out again old new p q
  goto_there {label = label} {counted_point = counted_point} {p = p} {q = q} found h = record {
    grows = h.keeps.grows;
    does = λ flow has args n e. goes flow (landing label (body_of routine) 0 []) found (h.keeps.kept program flow has);
    adds = λ flow has args n e to aims following m. led_off flow h;
    integers = λ count ints. led_integers h;
  }
    where
      goes : (flow : Flow) (o : Option Landing) → option_map (λ (l : Landing). l.counted_point) o ≡ Some counted_point → IsKept program flow q
          → goes_to program flow routine (labels_in routine flow) o (block_of flow (unwrap_or (option_map (λ (l : Landing). l.counted_point) o) 0)) p q
      goes flow None none is_kept = cc
      goes flow (Some l) some is_kept =
          let same : l.counted_point ≡ counted_point = cc in
          (subst (λ (m : ℕ). Joins program flow p (block_of flow m)) (sym same) (jump_leads flow counted_point p h.is), is_kept)

  pub goto_nowhere : {at : Place} {label out again : ℕ} {built : Built} {p : Point} → point_of_label routine label ≡ None
      → Executes program routine (Goto at label) out again built built p p
  goto_nowhere {label = label} {built = built} {p = p} none = record {
    grows = nothing_more built;
    does = λ flow has args n e. goes flow (landing label (body_of routine) 0 []) none;
    adds = λ flow has args n e to aims following m. adds_nothing;
    integers = λ count ints. integers_same;
  }
    where
      goes : (flow : Flow) (o : Option Landing) → option_map (λ (l : Landing). l.counted_point) o ≡ None
          → goes_to program flow routine (labels_in routine flow) o (block_of flow (unwrap_or (option_map (λ (l : Landing). l.counted_point) o) 0)) p p
      goes flow None nothing = there
      goes flow (Some l) some = cc

  -- a `return`
  pub returns : {at : Place} {value : Option Typed} {out again : ℕ} {old mid new : Built} {p q : Point} → Keeps old mid q
      → Returns program routine at value mid new p → Executes program routine (Return at value) out again old new p q
  returns keeps h = record {
    grows = grows_on keeps.grows h.grows;
    does = λ flow has args counted_point e. (h.does flow has args, keeps.kept program flow (h.grows.keeps flow has));
    adds = λ flow has args counted_point e to aims following m. nothing_then (keeps.adds flow) (h.adds flow has args to following);
    integers = λ count ints. integers_both (keeps.integers count) (h.integers count ints);
  }
