-- A graph after a row is added.
use Rattle.std.specs.Prelude.{◌≡◌, ◌<◌, ℕ, Bool, true, false, List, [], ◌∷◌, ◌++◌, Some, length, slice_get}
use Rattle.cs_graph.specs.Contents.{Contents}
use Rattle.cs_graph.specs.Waiting.{HasJoined}
use Rattle.cs_graph.specs.declared.adding.Added.{Added}
use Rattle.cs_graph.specs.declared.adding.Added.TheVariants.{New, Old}
use Rattle.cs_graph.specs.declared.adding.GraphRefusal.{GraphRefusal}
use Rattle.cs_graph.specs.declared.adding.GraphRefusal.TheVariants.{Full, Memory}

module _ {K : Type 0} (eq : K → K → Bool) where
  -- no key is equal to this one
  abbrev pub IsUnseen : K → List K → Type 0
  IsUnseen key keys = (place : ℕ) (other : K) → slice_get keys place ≡ Some other → eq key other ≡ false

  -- the key at this place is equal to this one
  abbrev pub IsSeenAt : K → ℕ → List K → Type 0
  IsSeenAt key place keys = (other : K) × (slice_get keys place ≡ Some other) × (eq key other ≡ true)

module _ {K R : Type 0} where
  -- a graph without rows, with a budget of this many nodes
  abbrev pub empty : ℕ → Contents K R
  empty nodes = record { keys = []; rows = []; work = []; nodes = nodes }

  -- the graph with another worklist
  abbrev pub with_work : List (ℕ × ℕ) → Contents K R → Contents K R
  with_work work graph = record graph { work = work }

  -- the row is appended, under the next number, and waits
  pub record IsNew (key : K) (visits : ℕ) (row : R) (number : ℕ) (before after : Contents K R) : Type 0 where
    pub next : number ≡ length before.rows
    pub keys : after.keys ≡ before.keys ++ key ∷ []
    pub rows : after.rows ≡ before.rows ++ row ∷ []
    pub work : HasJoined visits number before.work after.work
    pub nodes : after.nodes ≡ before.nodes

module _ {K R : Type 0} (eq : K → K → Bool) where
  -- a row with an equal key exists and nothing changes, or none does and the row is added
  abbrev pub IsAdded : K → ℕ → R → Added → Contents K R → Contents K R → Type 0
  IsAdded key visits row (Old number) before after = IsSeenAt eq key number before.keys × (after ≡ before)
  IsAdded key visits row (New number) before after =
      IsUnseen eq key before.keys × (length before.rows < before.nodes) × IsNew key visits row number before after

  -- nothing changes: the key is new and the number of rows is at its limit, or memory ran out
  abbrev pub IsRefused : K → GraphRefusal → Contents K R → Contents K R → Type 0
  IsRefused key Full before after = IsUnseen eq key before.keys × (length before.rows ≡ before.nodes) × (after ≡ before)
  IsRefused key Memory before after = after ≡ before
