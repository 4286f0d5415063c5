-- What the lowering of statements ensures: in every graph with the built blocks, the point `p` executes the statement and then continues
-- at `q`; and replacing `q` and the old blocks by `p` and the new blocks adds no control points but those of the statement, and for a
-- statement of integers only integer code.
use Rattle.std.specs.Prelude.{◌≡◌, ◌<◌, ℕ, ◌+◌, List, [], ◌∷◌, ◌++◌, length, Option, unwrap_or, slice_get}
use Rattle.cs_ast.specs.declared.place.Place.{Place}
use Rattle.cs_ast.specs.TypedTree.{Typed, Initial, Statement, Declare, Return, Statements, count_of}
use Rattle.cs_ast.specs.TypedProgram.{TypedProgram, Routine}
use Rattle.cs_meaning.specs.Initials.{Piece}
use Rattle.cs_meaning.specs.Jumps.{landing}
use Rattle.cs_meaning.specs.Machine.{body_of}
use Rattle.cs_meaning.specs.CountedPoints.{counted_points, counted_points_in}
use Rattle.cs_cfg.specs.ControlPoints.{Next, points_some, Targets, for_tested, for_points, at_label, flows, flows_in}
use Rattle.cs_cfg.specs.Fitting.{AddsPoints}
use Rattle.cs_cfg.specs.Graph.{Point, Flow, block_of}
use Rattle.cs_cfg.specs.GraphPoints.{MeetsNext}
use Rattle.cs_cfg.specs.PiecePoints.{points_pieces}
use Rattle.cs_cfg.specs.Executing.{goes_to, executes_at, all_at, from_at, for_test_at, last_at, returns_at, declares_at, stores_at}
use Rattle.cs_lower.specs.Allocations.{OptionHasArguments, OptionInitialHasArguments, PiecesHaveArguments, StatementHasArguments, StatementsHaveArguments}
use Rattle.cs_lower.specs.Labels.{point_of_label}
use Rattle.cs_lower.specs.Building.{jump_to, Built, blocks, Has, Grows}
use Rattle.cs_lower.specs.Integers.{OptionIsOfIntegers, InitialIsOfIntegers, PiecesAreOfIntegers, StatementIsOfIntegers, StatementsAreOfIntegers, AddsIntegers}

-- the target of the `goto`s to a label of a function: the block of the label's counted point
abbrev pub labels_in : Routine → Flow → ℕ → Point
labels_in routine flow label = block_of flow (unwrap_or (point_of_label routine label) 0)

-- the block of the statement with a number, or the one after all of them
abbrev pub block_at : List ℕ → ℕ → ℕ → ℕ
block_at blocks end item = unwrap_or (slice_get blocks item) end

module _ (program : TypedProgram) (routine : Routine) where
  -- at the points to which `break`, `continue` and `goto` lead, the code reaches what the targets name
  pub record Aims (flow : Flow) (to : Targets) (out again : Point) : Type 0 where
    pub out_meets : MeetsNext flow out to.out
    pub again_meets : MeetsNext flow again to.again
    pub labels_meet : (label : ℕ) (p q : Point) (following : Next)
        → goes_to program flow routine (labels_in routine flow) (landing label (body_of routine) 0 []) (labels_in routine flow label) p q →
        MeetsNext flow q following → MeetsNext flow p (at_label (to.labels label) following)

  -- a point executes a statement; `break` and `continue` lead to two blocks
  pub record Executes (s : Statement) (out again : ℕ) (old new : Built) (p q : Point) : Type 0 where
    pub grows : Grows (counted_points s) old new
    pub does : (flow : Flow) → Has flow new → StatementHasArguments s → (counted_point : ℕ) → counted_point + length new.heads ≡ new.counted_points
        →
        executes_at program flow routine (labels_in routine flow) s counted_point (block_of flow out) (block_of flow again) p q
    pub adds : (flow : Flow) → Has flow new → StatementHasArguments s → (counted_point : ℕ) → counted_point + length new.heads ≡ new.counted_points
        → (to : Targets) → Aims flow to (block_of flow out) (block_of flow again) →
        (following : Next) → MeetsNext flow q following → AddsPoints flow (flows to s following) (q ∷ blocks old) (p ∷ blocks new)
    pub integers : (count : ℕ) → StatementIsOfIntegers count s → AddsIntegers count (q ∷ blocks old) (p ∷ blocks new)

  -- the same for consecutive statements
  pub record ExecutesAll (statements : Statements) (out again : ℕ) (old new : Built) (p q : Point) : Type 0 where
    pub grows : Grows (counted_points_in statements) old new
    pub does : (flow : Flow) → Has flow new → StatementsHaveArguments statements
        → (counted_point : ℕ) → counted_point + length new.heads ≡ new.counted_points →
        all_at program flow routine (labels_in routine flow) statements counted_point (block_of flow out) (block_of flow again) p q
    pub adds : (flow : Flow) → Has flow new → StatementsHaveArguments statements
        → (counted_point : ℕ) → counted_point + length new.heads ≡ new.counted_points
        → (to : Targets) → Aims flow to (block_of flow out) (block_of flow again) →
        (following : Next) → MeetsNext flow q following → AddsPoints flow (flows_in to statements following) (q ∷ blocks old) (p ∷ blocks new)
    pub integers : (count : ℕ) → StatementsAreOfIntegers count statements → AddsIntegers count (q ∷ blocks old) (p ∷ blocks new)

  -- the same for a statement at the beginning of a block, followed by a jump
  pub record ExecutesIn (s : Statement) (out again : ℕ) (old new : Built) (block end : ℕ) : Type 0 where
    pub grows : Grows (counted_points s) old new
    pub does : (flow : Flow) → Has flow new → StatementHasArguments s → (counted_point : ℕ) → counted_point + length new.heads ≡ new.counted_points
        →
        executes_at program flow routine (labels_in routine flow) s counted_point (block_of flow out) (block_of flow again) (block_of flow block) (jump_to end)
    pub adds : (flow : Flow) → Has flow new → StatementHasArguments s → (counted_point : ℕ) → counted_point + length new.heads ≡ new.counted_points
        → (to : Targets) → Aims flow to (block_of flow out) (block_of flow again) →
        (following : Next) → MeetsNext flow (block_of flow end) following → AddsPoints flow (flows to s following) (jump_to end ∷ blocks old) (blocks new)
    pub integers : (count : ℕ) → StatementIsOfIntegers count s → AddsIntegers count (blocks old) (blocks new)

  -- consecutive statements, each at the beginning of a block, followed by a block
  pub record EntersAll (statements : Statements) (out again : ℕ) (old new : Built) (entries : List ℕ) (end : ℕ) : Type 0 where
    pub grows : Grows (counted_points_in statements) old new
    pub counts : length entries ≡ count_of statements
    pub does : (flow : Flow) → Has flow new → StatementsHaveArguments statements
        → (counted_point : ℕ) → counted_point + length new.heads ≡ new.counted_points → (item : ℕ) →
        from_at program flow routine (labels_in routine flow) item statements counted_point (block_of flow out) (block_of flow again)
        (block_of flow (block_at entries end item)) (block_of flow end)
    pub adds : (flow : Flow) → Has flow new → StatementsHaveArguments statements
        → (counted_point : ℕ) → counted_point + length new.heads ≡ new.counted_points
        → (to : Targets) → Aims flow to (block_of flow out) (block_of flow again) →
        (following : Next) → MeetsNext flow (block_of flow end) following → AddsPoints flow (flows_in to statements following) (blocks old) (blocks new)
    pub integers : (count : ℕ) → StatementsAreOfIntegers count statements → AddsIntegers count (blocks old) (blocks new)

  -- pieces of an initializer are stored, one after another
  pub record StoresPieces (at : Place) (declaration : ℕ) (pieces : List Piece) (old new : Built) (p q : Point) : Type 0 where
    pub grows : Grows 0 old new
    pub does : (flow : Flow) → Has flow new → PiecesHaveArguments pieces
        → stores_at program flow routine (labels_in routine flow) at declaration pieces p q
    pub adds : (flow : Flow) → Has flow new → PiecesHaveArguments pieces → (following : Next) → MeetsNext flow q following
        → AddsPoints flow (points_pieces pieces following) (q ∷ blocks old) (p ∷ blocks new)
    pub integers : (count : ℕ) → declaration < count → PiecesAreOfIntegers count pieces → AddsIntegers count (q ∷ blocks old) (p ∷ blocks new)

  -- a declaration
  pub record Declares (at : Place) (declaration : ℕ) (initial : Option Initial) (old new : Built) (p q : Point) : Type 0 where
    pub grows : Grows 0 old new
    pub does : (flow : Flow) → Has flow new → OptionInitialHasArguments initial
        → declares_at program flow routine (labels_in routine flow) at declaration initial p q
    pub adds : (flow : Flow) → Has flow new → OptionInitialHasArguments initial → (to : Targets) (following : Next) → MeetsNext flow q following →
        AddsPoints flow (flows to (Declare at declaration initial) following) (q ∷ blocks old) (p ∷ blocks new)
    pub integers : (count : ℕ) → declaration < count → InitialIsOfIntegers count initial → AddsIntegers count (q ∷ blocks old) (p ∷ blocks new)

  -- a `return`
  pub record Returns (at : Place) (value : Option Typed) (old new : Built) (p : Point) : Type 0 where
    pub grows : Grows 0 old new
    pub does : (flow : Flow) → Has flow new → OptionHasArguments value → returns_at program flow routine (labels_in routine flow) at value p
    pub adds : (flow : Flow) → Has flow new → OptionHasArguments value
        → (to : Targets) (following : Next) → AddsPoints flow (flows to (Return at value) following) (blocks old) (p ∷ blocks new)
    pub integers : (count : ℕ) → OptionIsOfIntegers count value → AddsIntegers count (blocks old) (p ∷ blocks new)

-- the optional test of a `for`, when no temporary is in use, and a branch to one of two blocks
pub record TestsFor (program : TypedProgram) (at : Place) (test : Option Typed) (old new : Built) (p body : Point) (end : ℕ) : Type 0 where
  pub grows : Grows 0 old new
  pub does : (flow : Flow) (q : Point) → Has flow new → OptionHasArguments test → block_of flow end ≡ q → for_test_at program flow at test p body q
  pub adds : (flow : Flow) → Has flow new → OptionHasArguments test → (inside following : Next) → MeetsNext flow body inside
      → MeetsNext flow (block_of flow end) following →
      AddsPoints flow (for_tested at test inside following ++ for_points at test) (body ∷ blocks old) (p ∷ blocks new)
  pub integers : (count : ℕ) → OptionIsOfIntegers count test → AddsIntegers count (body ∷ blocks old) (p ∷ blocks new)

-- the last part of a `for`, with a jump to its head
pub record EndsFor (program : TypedProgram) (last : Option Typed) (old new : Built) (block head : ℕ) : Type 0 where
  pub grows : Grows 0 old new
  pub does : (flow : Flow) → Has flow new → OptionHasArguments last → last_at program flow last (block_of flow block) (block_of flow head)
  pub adds : (flow : Flow) → Has flow new → OptionHasArguments last → (following : Next) → MeetsNext flow (block_of flow head) following →
      AddsPoints flow (points_some last following) (jump_to head ∷ blocks old) (blocks new)
  pub integers : (count : ℕ) → OptionIsOfIntegers count last → AddsIntegers count (blocks old) (blocks new)
