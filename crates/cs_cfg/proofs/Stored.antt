-- Declarations, and storing in declared objects, in the simulation (C11 6.7.9).
use Rattle.std.proofs.Common.{◌≡◌, ℕ, ◌+◌, List, [], ◌∷◌, length, drop, Option, Some, None, arith, refl, sym, subst}
use Rattle.cs_types.specs.Shape.{Shape}
use Rattle.cs_ast.specs.declared.place.Place.{Place}
use Rattle.cs_ast.specs.TypedTree.{Initial, Value, Parts, Bytes, Declare}
use Rattle.cs_ast.specs.TypedProgram.{TypedProgram, Routine}
use Rattle.cs_events.specs.declared.outcome.RunBudgets.{RunBudgets}
use Rattle.cs_events.specs.Touches.{Clears, Stores}
use Rattle.cs_events.specs.Objects.{LocalObject}
use Rattle.cs_events.specs.Acts.{Goes}
use Rattle.cs_events.specs.Simulation.{Yields, both_go}
use Rattle.cs_meaning.specs.Types.{type_of, is_scalar}
use Rattle.cs_meaning.specs.Initials.{Piece, Evaluated, Spelled, pieces}
use Rattle.cs_meaning.specs.Memory.{UnsetFill, ZeroFill, changed}
use Rattle.cs_meaning.specs.Access.{write_operand, write_bytes}
use Rattle.cs_meaning.specs.Machine.{Item, Evaluate, Store, Spell, Execute, CallFrame, State, to_do, pop, with_memory, operand_at, routine_of}
use Rattle.cs_meaning.specs.Steps.{do_item}
use Rattle.cs_meaning.specs.Statements.{if_scalar, local_type, refilled, stores_pieces}
use Rattle.cs_cfg.specs.Graph as graph
use Rattle.cs_cfg.specs.Graph.{Point, Flow, Code}
use Rattle.cs_cfg.specs.Placing.{does, there}
use Rattle.cs_cfg.specs.Executing.{type_in, stores_at, declares_at}
use Rattle.cs_cfg.proofs.Acting.{as_code, dropped}
use Rattle.cs_cfg.proofs.Alike.{yields_touches}
use Rattle.cs_cfg.proofs.Related.{CallersStand, Related, now}
use Rattle.cs_cfg.proofs.Moving.{Home, stands, onward, with_depth, aligned, Answer, work_answers}
use Rattle.cs_cfg.proofs.Arriving.{Arrives}
use Rattle.cs_cfg.proofs.Executed.{silently}

module _ (program : TypedProgram) (flow : Flow) (routine : Routine) (labels : ℕ → Point) where
  -- the pieces of an initializer, one after another
  pub pieces_arrive : (at : Place) (declaration : ℕ) (ones : List Piece) (items : List Item) (out again p q : Point)
      → stores_at program flow routine labels at declaration ones p q →
      Arrives program flow routine labels items out again 0 q → Arrives program flow routine labels (stores_pieces at declaration ones items) out again 0 p
  pieces_arrive at declaration [] items out again p q it rest = subst (λ x. Arrives program flow routine labels items out again 0 x) (sym it) rest
  pieces_arrive at declaration (Evaluated offset e ∷ ones) items out again p q it rest =
      let stored = does at 0 (graph.StoreLocal declaration offset (type_of e) (is_scalar (type_in routine declaration))) it.0 in
      (p, there, (stored, it.1, (stored, there, (refl, (0, it.0, refl, refl, pieces_arrive at declaration ones items out again it.0 q it.2 rest)))))
  pieces_arrive at declaration (Spelled offset bytes ∷ ones) items out again p q it rest =
      (p, there, (refl, (at, (0, it.0, refl, it.1, pieces_arrive at declaration ones items out again it.0 q it.2 rest))))

module _ (code : Code) (program : TypedProgram) (budgets : RunBudgets) (m : State) (home : Home code program m.frame.function)
    (callers : List (CallFrame Point)) (waiting : CallersStand code program m.callers callers) where
  module _ (empty : length m.frame.stack ≡ 0) (counted_point : ℕ) (items : List Item) (p q : Point) (rest : onward code program home items 0 q) where
    -- zeros, and then the pieces of an initializer
    zero_answers : (at : Place) (declaration : ℕ) (initial : Initial) (ones : List Piece) (r : Point)
        → do_item program budgets (Execute (Declare at declaration (Some initial)) counted_point) (to_do items m)
        ≡ Goes (to_do (stores_pieces at declaration ones items) (refilled ZeroFill declaration m)) →
        p ≡ does at 0 (graph.Zero declaration) r
        → stores_at program home.flow (routine_of program m.frame.function) home.lowers.labels at declaration ones r q →
        Answer code program budgets (to_do (Execute (Declare at declaration (Some initial)) counted_point ∷ items) m) (as_code p callers m)
    zero_answers at declaration initial ones r e here it =
        let next = to_do (stores_pieces at declaration ones items) (refilled ZeroFill declaration m) in
        let s = pieces_arrive program home.flow (routine_of program m.frame.function) home.lowers.labels at declaration ones items home.out home.again r q it
        rest in
        let deep = with_depth code program home (stores_pieces at declaration ones items) r (sym empty) s in
        let reported : Yields (Related code program budgets) (Goes next) (Goes (as_code r callers next)) =
        both_go (now (aligned code program next home r callers deep waiting)) in
        work_answers code program budgets (Execute (Declare at declaration (Some initial)) counted_point) items m at (graph.Zero declaration) 0 p r callers
        empty here
        (subst (λ act. Yields (Related code program budgets) act (Goes (as_code r callers next))) (sym e) reported)

    -- a declaration
    pub declare_answers : (at : Place) (declaration : ℕ) (initial : Option Initial)
        → declares_at program home.flow (routine_of program m.frame.function) home.lowers.labels at declaration initial p q →
        Answer code program budgets (to_do (Execute (Declare at declaration initial) counted_point ∷ items) m) (as_code p callers m)
    declare_answers at declaration None it =
        let next = refilled UnsetFill declaration (to_do items m) in
        let scalar = is_scalar (type_in (routine_of program m.frame.function) declaration) in
        work_answers code program budgets (Execute (Declare at declaration None) counted_point) items m at (graph.Clear declaration scalar) 0 p q callers empty
        it
        (yields_touches (Related code program budgets) (λ local. Clears m.frame.number local at) (if_scalar (local_type program declaration m) declaration)
        (both_go (now (aligned code program next home q callers (with_depth code program home items q (sym empty) rest) waiting))))
    declare_answers at declaration (Some (Value e)) it =
        let stored = does at 0 (graph.StoreLocal declaration 0 (type_of e) (is_scalar (type_in (routine_of program m.frame.function) declaration))) q in
        silently code program budgets (Execute (Declare at declaration (Some (Value e))) counted_point) items
        (Evaluate e ∷ Store at declaration 0 (type_of e) ∷ items) m home p callers empty refl
        (p, there, (stored, it, (stored, there, (refl, (0, q, refl, refl, rest))))) waiting
    declare_answers at declaration (Some (Parts parts)) it =
        zero_answers at declaration (Parts parts) (pieces program (local_type program declaration m) 0 (Parts parts)) it.0 refl it.1 it.2
    declare_answers at declaration (Some (Bytes bytes)) it =
        zero_answers at declaration (Bytes bytes) (pieces program (local_type program declaration m) 0 (Bytes bytes)) it.0 refl it.1 it.2

  -- the newest value is stored in a declared object
  pub store_answers : (at : Place) (declaration offset : ℕ) (ty : Shape) (items : List Item) (p : Point)
      → stands code program home (Store at declaration offset ty ∷ items) (length m.frame.stack) p →
      Answer code program budgets (to_do (Store at declaration offset ty ∷ items) m) (as_code p callers m)
  store_answers at declaration offset ty items p it =
      let deep : length m.frame.stack ≡ 1 + it.1.0 = omega arith in
      let others : length (drop 1 m.frame.stack) ≡ it.1.0 = dropped 1 it.1.0 m.frame.stack deep in
      let left : 0 + it.1.0 ≡ length (drop 1 m.frame.stack) = omega arith in
      let memory = changed (write_operand program ty offset (operand_at m 0)) (LocalObject m.frame.number declaration) m.memory in
      let next = with_memory memory (pop (to_do items m)) in
      let scalar = is_scalar (type_in (routine_of program m.frame.function) declaration) in
      work_answers code program budgets (Store at declaration offset ty) items m at (graph.StoreLocal declaration offset ty scalar) it.1.0 p it.1.1 callers deep
      it.1.3
      (yields_touches (Related code program budgets) (λ local. Stores m.frame.number local at) (if_scalar (local_type program declaration m) declaration)
      (both_go (now (aligned code program next home it.1.1 callers (with_depth code program home items it.1.1 left it.1.4) waiting))))

  -- bytes are stored in a declared object
  pub spell_answers : (declaration offset : ℕ) (bytes : List ℕ) (items : List Item) (p : Point)
      → stands code program home (Spell declaration offset bytes ∷ items) (length m.frame.stack) p →
      Answer code program budgets (to_do (Spell declaration offset bytes ∷ items) m) (as_code p callers m)
  spell_answers declaration offset bytes items p it =
      let deep : length m.frame.stack ≡ 0 + it.1.1.0 = omega arith in
      let next = with_memory (changed (write_bytes program offset bytes) (LocalObject m.frame.number declaration) m.memory) (to_do items m) in
      work_answers code program budgets (Spell declaration offset bytes) items m it.1.0 (graph.Spell declaration offset bytes) it.1.1.0 p it.1.1.1 callers deep
      it.1.1.3
      (both_go (now (aligned code program next home it.1.1.1 callers (with_depth code program home items it.1.1.1 (sym deep) it.1.1.4) waiting)))
