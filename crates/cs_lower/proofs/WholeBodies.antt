-- The code of a function, and of all functions: for the contracts of `lower_whole`, `lower_body`, `lower_function` and `lower`.
use Rattle.std.specs.Prelude.{slice_get, unwrap_or, option_map, Contains}
use Rattle.std.specs.List.{All}
use Rattle.std.specs.Option.{IfSome}
use Rattle.std.proofs.Common.{◌≡◌, ℕ, zero, suc, ◌+◌, ◌<◌, ◌≤◌, nat_lt, Bool, true, false, List, [], ◌∷◌, ◌++◌, length, map}
use Rattle.std.proofs.Common.{get_or, Option, Some, None, refl, sym, ap, subst, ◌∙◌, arith}
use Rattle.std.proofs.lemmas.Option.{slice_get_past, slice_get-map, slice_get-get_or}
use Rattle.std.proofs.lemmas.List.Elements.{All-nil}
use Rattle.std.proofs.lemmas.Bool.{false≢true}
use Rattle.std.proofs.lemmas.Bool.Decides.{nat_tests}
use Rattle.cs_ast.specs.TypedTree.{Statement}
use Rattle.cs_ast.specs.TypedProgram.{TypedProgram, Routine}
use Rattle.cs_events.specs.declared.point.PointKind.TheVariants as point
use Rattle.cs_meaning.specs.Machine.{no_routine, NOWHERE, routine_of}
use Rattle.cs_meaning.specs.CountedPoints.{counted_points}
use Rattle.cs_meaning.specs.Calls.{falls_off}
use Rattle.cs_cfg.specs.ControlPoints.{flows, end_of, body_targets, control_points}
use Rattle.cs_cfg.specs.Fitting.{BlockFits, AllFit, GraphFits, CodeFits, AddsPoints}
use Rattle.cs_cfg.specs.Graph as graph
use Rattle.cs_cfg.specs.Graph.{Point, Flow, Code, block_of, flow_of}
use Rattle.cs_cfg.specs.IntegerCode.{count_of_locals, IsIntegerPoint}
use Rattle.cs_cfg.specs.Working.{closed_with}
use Rattle.cs_cfg.specs.Placing.{does, Joins, there}
use Rattle.cs_cfg.specs.Executing.{leaving, finishing, executes_at}
use Rattle.cs_cfg.specs.Lowered.{is_there, IsLowered}
use Rattle.cs_cfg.specs.Placed.{LowersBody, IsPlaced}
use Rattle.cs_cfg.proofs.AddedPoints.{graph_fits}
use Rattle.cs_cfg.proofs.Entered.{executed}
use Rattle.cs_cfg.proofs.Fitting.{block_end, fit_none, fit_more, fit_among, includes_none}
use Rattle.cs_cfg.proofs.Meeting.{point_meets, same_meets}
use Rattle.cs_cfg.proofs.ReadOff.{aims, reads_off}
use Rattle.cs_cfg.proofs.Returned.{is_lowered}
use Rattle.cs_lower.specs.Allocations.{StatementHasArguments, AllocationsHaveArguments}
use Rattle.cs_lower.specs.Building.{Built, blocks, Has}
use Rattle.cs_lower.specs.Sealing.{Seals}
use Rattle.cs_lower.specs.Statements.{labels_in, Aims, Executes}
use Rattle.cs_lower.specs.Functions.{BeginsBody, IsGraphOf, WorksAs, HasGraph}
use Rattle.cs_lower.specs.Integers.{KeepsIntegers}
use Rattle.cs_lower.proofs.Aiming.{aims_from}
use Rattle.cs_lower.proofs.Built.{more_and_more}
use Rattle.cs_lower.proofs.Evaluating.{same_after}
use Rattle.cs_lower.proofs.Integers.{integers_both, integers_end, integers_past, integers_among, integers_after}

module _ {program : TypedProgram} {routine : Routine} where
  -- a body between its beginning and its end
  pub body_made : {body : Statement} {finish entry : ℕ} {nothing : Bool} {old x y new : Built} {f inside following s : Point} → Seals old x finish f
      → f ≡ finishing → closed_with nothing ≡ falls_off routine.returns
      → following ≡ does routine.closes 0 (graph.Close nothing) leaving → Executes program routine body finish finish x y inside following
      → s ≡ does routine.at 0 (graph.Meet point.Enter) inside → Seals y new entry s
      → BeginsBody program routine body old new entry
  body_made {body = body} {finish = finish} {entry = entry} {nothing = nothing} {x = x} {y = y} {new = new} {inside = inside} {following = following} finishes
      finish_is gives closes executes enters begins =
      let c = begins.grows.counts in
      let d = begins.grows.same in
      let in_y : (flow : Flow) → Has flow new → Has flow y = begins.grows.keeps in
      let finish_at : (flow : Flow) → Has flow new → block_of flow finish ≡ finishing = λ flow has.
      finishes.is flow (executes.grows.keeps flow (in_y flow has)) ∙ finish_is in
      let first : length new.heads ≡ new.counted_points → 0 + length y.heads ≡ y.counted_points = λ all. omega arith in
      let lowers : (flow : Flow) → Has flow new → StatementHasArguments body → length new.heads ≡ new.counted_points → flow.entry ≡ entry
      → flow.counted_points ≡ counted_points body → LowersBody program routine body flow =
      λ flow has args all starts counts.
      let At : Point → Point → Type 0 = λ o a. executes_at program flow routine (labels_in routine flow) body 0 o a inside following in
      record {
        labels = labels_in routine flow;
        inside = inside;
        following = following;
        nothing = nothing;
        begins = ap (block_of flow) starts ∙ (begins.is flow has ∙ enters);
        executes = subst (λ o. At o finishing) (finish_at flow has)
            (subst (λ a. At (block_of flow finish) a) (finish_at flow has) (executes.does flow (in_y flow has) args 0 (first all)));
        ends = subst (λ p. Joins program flow following p) closes there;
        gives = gives;
        counts = counts;
      } in
      record {
        grows = more_and_more 0 (counted_points body) (counted_points body) finishes.grows
            (more_and_more (counted_points body) 0 (counted_points body) executes.grows begins.grows (omega arith)) (omega arith);
        does = lowers;
        fits = λ flow has args all starts counts has_body fit.
            let low = lowers flow has args all starts counts in
            let is = sym (finish_at flow has) in
            let At : Point → Point → Type 0 = λ o a. Aims program routine flow (body_targets routine) o a in
            let aims_here = subst (λ a. At (block_of flow finish) a) is
            (subst (λ o. At o finishing) is (aims_from (aims program flow routine body has_body low))) in
            let end_met = same_meets closes (point_meets routine.closes 0 (graph.Close nothing) leaving refl) in
            let made = same_after closes (executes.adds flow (in_y flow has) args 0 (first all) (body_targets routine) aims_here (end_of routine) end_met) in
            let Made : Statement → Type 0 = λ b.
            AddsPoints flow (flows (body_targets routine) b (end_of routine)) (does routine.closes 0 (graph.Close nothing) leaving ∷ blocks x)
            (inside ∷ blocks y) in
            let finished = (finishes.adds flow).keeps (control_points routine) includes_none
            (fit_more (subst (λ p. BlockFits flow (control_points routine) p) (sym finish_is) (block_end graph.Finish refl)) fit) in
            graph_fits program flow routine body has_body low (blocks new) (subst (λ b. Made b) (sym (executed routine body has_body)) made)
            (same_after enters (begins.adds flow)) finished;
        integers = λ count ints.
            let finished = integers_end (integers_after finish_is (finishes.integers count)) in
            let ended = integers_after closes (executes.integers count ints) in
            let made = integers_end (integers_past routine.closes 0 (graph.Close nothing) leaving tt ended) in
            integers_both finished (integers_both made
            (integers_past routine.at 0 (graph.Meet point.Enter) inside tt (integers_after enters (begins.integers count))));
      }

  -- the whole graph of a body
  pub whole_body : {body : Statement} {entry count : ℕ} {old new : Built} {flow : Flow} → BeginsBody program routine body old new entry
      → old ≡ record { counted_points = count; heads = []; others = [] } → count ≡ counted_points body
      → (length new.heads ≡ new.counted_points → Has flow new) → All (Contains (blocks new)) flow.blocks → flow.entry ≡ entry
      → flow.counted_points ≡ new.counted_points → routine.body ≡ Some body → StatementHasArguments body → IsGraphOf program routine body flow
  whole_body {old = old} {new = new} {flow = flow} begins starts counted has no_other first with_counted_point has_body args =
      let none : length old.heads ≡ 0 = ap (λ (b : Built). length b.heads) starts in
      let count = ap (λ (b : Built). b.counted_points) starts in
      let c = begins.grows.counts in
      let d = begins.grows.same in
      let all : length new.heads ≡ new.counted_points = omega arith in
      let nothing_yet = subst (λ (b : Built). AllFit flow (control_points routine) (blocks b)) (sym starts) fit_none in
      record {
        lowers = begins.does flow (has all) args all first (omega arith);
        fits = fit_among flow.blocks (blocks new) no_other (begins.fits flow (has all) args all first (omega arith) has_body nothing_yet);
      }

  -- and it is integer code, if the body works with integers only
  pub whole_integers : {body : Statement} {entry count : ℕ} {old new : Built} (flow : Flow) → BeginsBody program routine body old new entry
      → old ≡ record { counted_points = count; heads = []; others = [] } → All (Contains (blocks new)) flow.blocks → WorksAs body flow
  whole_integers flow begins starts no_other = λ count ints.
      let nothing_yet = subst (λ (b : Built). All (IsIntegerPoint count) (blocks b)) (sym starts) (All-nil (IsIntegerPoint count)) in
      (integers_among no_other).keeps ((begins.integers count ints).keeps nothing_yet)

  -- a function with a body has a graph
  pub has_graph : {body : Statement} {flow : Flow} → routine.body ≡ Some body → (StatementHasArguments body → IsGraphOf program routine body flow)
      → WorksAs body flow → HasGraph program routine (Some flow)
  has_graph {body = body} {flow = flow} is lowers works = record {
    there = ap is_there (sym is);
    lowers = λ other graph other_is graph_is args.
        let same : body ≡ other = cc in
        let alike : flow ≡ graph = cc in
        subst (λ b. IsGraphOf program routine b graph) same
        (subst (λ f. IsGraphOf program routine body f) alike (lowers (subst StatementHasArguments (sym same) args)));
    integers = λ other graph other_is graph_is.
        let same : body ≡ other = cc in
        let alike : flow ≡ graph = cc in
        subst (λ b. WorksAs b graph) same (subst (λ f. WorksAs body f) alike works);
  }

  -- a function without a body has none
  pub has_none : routine.body ≡ None → HasGraph program routine None
  has_none is = record { there = ap is_there (sym is); lowers = λ body flow none some args. cc; integers = λ body flow none some. cc }

-- the graphs of the first functions
pub record HasGraphsBelow (program : TypedProgram) (count : ℕ) (graphs : List (Option Flow)) : Type 0 where
  pub counts : length graphs ≡ count
  pub has : (n : ℕ) → n < count → HasGraph program (routine_of program n) (unwrap_or (slice_get graphs n) None)

pub no_graphs : (program : TypedProgram) → HasGraphsBelow program 0 []
no_graphs program = record { counts = refl; has = λ n less. absurd (omega arith) }

module _ {X : Type 0} where
  before_last : (xs : List X) (x : X) (n : ℕ) → n < length xs → slice_get (xs ++ x ∷ []) n ≡ slice_get xs n
  before_last [] x n h = absurd (omega arith)
  before_last (y ∷ xs) x zero h = refl
  before_last (y ∷ xs) x (suc n) h = before_last xs x n (omega arith)

  at_last : (xs : List X) (x : X) → slice_get (xs ++ x ∷ []) (length xs) ≡ Some x
  at_last [] x = refl
  at_last (y ∷ xs) x = at_last xs x

  one_longer : (xs : List X) (x : X) → length (xs ++ x ∷ []) ≡ length xs + 1
  one_longer [] x = refl
  one_longer (y ∷ xs) x =
      let e = one_longer xs x in
      omega arith

-- one more graph
pub one_more_graph : {program : TypedProgram} {count : ℕ} {graphs more : List (Option Flow)} (graph : Option Flow) → more ≡ graphs ++ graph ∷ []
    → HasGraphsBelow program count graphs → HasGraph program (routine_of program count) graph → HasGraphsBelow program (count + 1) more
one_more_graph {program = program} {count = count} {graphs = graphs} {more = more} graph is below new = record {
  counts = ap length is ∙ (one_longer graphs graph ∙ ap (λ (n : ℕ). n + 1) below.counts);
  has = λ n less. at n less (nat_lt n count) refl;
}
  where
    at : (n : ℕ) → n < count + 1 → (b : Bool) → nat_lt n count ≡ b → HasGraph program (routine_of program n) (unwrap_or (slice_get more n) None)
    at n less true e =
        let counts = below.counts in
        let within : n < count = grind (arith, nat_tests) in
        subst (λ g. HasGraph program (routine_of program n) (unwrap_or g None))
        (sym (ap (λ l. slice_get l n) is ∙ before_last graphs graph n (omega arith))) (below.has n within)
    at n less false e =
        let counts = below.counts in
        let past : count ≤ n = grind (arith, nat_tests) in
        let last : count ≡ n = omega arith in
        let here : n ≡ length graphs = omega arith in
        subst (λ g. HasGraph program (routine_of program n) (unwrap_or g None))
        (sym (ap (λ l. slice_get l n) is ∙ (ap (slice_get (graphs ++ graph ∷ [])) here ∙ at_last graphs graph)))
        (subst (λ (k : ℕ). HasGraph program (routine_of program k) graph) last new)

-- a property of the graph of each body holds of a graph that exists, if exactly the functions with a body have one
if_there : {P : Flow → Type 0} (body : Option Statement) (graph : Option Flow) → is_there graph ≡ is_there body
    → ((b : Statement) (flow : Flow) → body ≡ Some b → graph ≡ Some flow → P flow) → IfSome graph P
if_there body None same each = tt
if_there None (Some flow) same each = absurd (false≢true (sym same))
if_there (Some body) (Some flow) same each = each body flow refl refl

graph_fits_if : (routine : Routine) (graph : Option Flow) → IfSome graph (λ flow. AllFit flow (control_points routine) flow.blocks)
    → GraphFits routine graph
graph_fits_if routine None fits = tt
graph_fits_if routine (Some flow) fits = fits

-- all graphs
module _ {program : TypedProgram} {count : ℕ} {graphs : List (Option Flow)} (all : count ≡ length program.routines)
    (below : HasGraphsBelow program count graphs) where
  none_past : (n : ℕ) → count ≤ n → HasGraph program (routine_of program n) (unwrap_or (slice_get graphs n) None)
  none_past n past =
      let counts = below.counts in
      let no_graph : unwrap_or (slice_get graphs n) None ≡ None = ap (λ g. unwrap_or g None) (slice_get_past graphs n (omega arith)) in
      let nobody : (routine_of program n).body ≡ None =
      ap (λ (r : Option Routine). (unwrap_or r (no_routine NOWHERE)).body) (slice_get_past program.routines n (omega arith)) in
      subst (λ g. HasGraph program (routine_of program n) g) (sym no_graph) (has_none nobody)

  graph_at : (n : ℕ) (b : Bool) → nat_lt n count ≡ b → HasGraph program (routine_of program n) (unwrap_or (slice_get graphs n) None)
  graph_at n true e =
      let within : n < count = grind (arith, nat_tests) in
      below.has n within
  graph_at n false e =
      let past : count ≤ n = grind (arith, nat_tests) in
      none_past n past

  graph_of : (n : ℕ) → HasGraph program (routine_of program n) (unwrap_or (slice_get graphs n) None)
  graph_of n = graph_at n (nat_lt n count) refl

  -- the graph of an integer function is integer code
  pub all_integers : KeepsIntegers (record { flows = graphs }) program
  all_integers n ints flow is =
      let Works : Flow → Type 0 = λ (f : Flow). All (IsIntegerPoint (count_of_locals program n)) f.blocks in
      let graph = unwrap_or (slice_get graphs n) None in
      let works : IfSome graph Works = if_there (routine_of program n).body graph (graph_of n).there
      (λ body f has_body has_flow. (graph_of n).integers body f has_body has_flow (count_of_locals program n) (ints body has_body)) in
      subst (λ g. IfSome g Works) is works

  module _ (args : AllocationsHaveArguments program) where
    -- each executes the body of its function
    pub all_placed : IsPlaced (record { flows = graphs }) program
    all_placed = record {
      graphs = λ n. (graph_of n).there;
      bodies = λ n body flow has_body has_flow. ((graph_of n).lowers body flow has_body has_flow (args n body has_body)).lowers;
    }

    -- and has only the control points of its function
    all_fit : CodeFits (record { flows = graphs }) program
    all_fit n =
        graph_fits_if (routine_of program n) (unwrap_or (slice_get graphs n) None)
        (if_there (routine_of program n).body (unwrap_or (slice_get graphs n) None) (graph_of n).there
        (λ body flow has_body has_flow. ((graph_of n).lowers body flow has_body has_flow (args n body has_body)).fits))

    pub all_lowered : IsLowered (record { flows = graphs }) program
    all_lowered = is_lowered (record { flows = graphs }) program all_placed (reads_off (record { flows = graphs }) program all_placed all_fit)

-- the function with a number
pub routine_there : {X : Type 0} (routine : X → Routine) (functions : List X) (program : TypedProgram) (n : ℕ) (function : X)
    → program.routines ≡ map routine functions → suc n ≤ length functions → function ≡ get_or functions n function
    → routine_of program n ≡ routine function
routine_there routine functions program n function is within at =
    ap (λ (r : Option Routine). unwrap_or r (no_routine NOWHERE))
    (ap (λ l. slice_get l n) is ∙ (slice_get-map routine functions n
    ∙ ap (option_map routine) (slice_get-get_or functions n function within ∙ ap Some (sym at))))
