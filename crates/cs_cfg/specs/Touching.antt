-- What the code touches at a spot, whatever the run: a control point, or a load, a store or a clearing of a scalar local.
use Rattle.std.specs.Prelude.{◌≡◌, ℕ, true, List, [], ◌∷◌, ◌++◌, ◌⊎◌, Option, Some, None, option_map}
use Rattle.std.specs.Option.{option_and_then, option_to_list}
use Rattle.cs_ast.specs.declared.place.Place.{Place}
use Rattle.cs_events.specs.declared.point.PointKind.TheVariants as point
use Rattle.cs_events.specs.Touches as run
use Rattle.cs_events.specs.Runs.{Performed, Continues, Finishes}
use Rattle.cs_meaning.specs.Access.{Access}
use Rattle.cs_cfg.specs.declared.code.Spot.{Spot}
use Rattle.cs_cfg.specs.declared.touch.Touch.{Touch}
use Rattle.cs_cfg.specs.declared.touch.Touch.TheVariants as touch
use Rattle.cs_cfg.specs.Graph.{Work, Load, Store, FetchNumber, Update, FetchPointer, Move, Clear, StoreLocal, Reach, Meet, Close, Operation, BlockEnd, Branch}
use Rattle.cs_cfg.specs.Graph.{Switch, Point, Code}
use Rattle.cs_cfg.specs.Spots.{point_in, point_at}

-- the touch of a load, if its object is a scalar local; its position is that of the expression that designates the object
abbrev pub touch_of_load : Access → Option Touch
touch_of_load access = option_map (λ declaration. touch.Load declaration access.at) access.local

-- the touch of a store, at the position of the storing operation
abbrev pub touch_of_store : Place → Access → Option Touch
touch_of_store at access = option_map (λ declaration. touch.Store declaration at) access.local

-- what an operation at a place touches
abbrev pub touch_of_work : Place → Work → Option Touch
touch_of_work at (Load access) = touch_of_load access
touch_of_work at (FetchNumber access works_in) = touch_of_load access
touch_of_work at (FetchPointer access) = touch_of_load access
touch_of_work at (Store access) = touch_of_store at access
touch_of_work at (Update operator access works_in gives) = touch_of_store at access
touch_of_work at (Move access bytes direction gives) = touch_of_store at access
touch_of_work at (Clear declaration true) = Some (touch.Clear declaration at)
touch_of_work at (StoreLocal declaration offset ty true) = Some (touch.Store declaration at)
touch_of_work at (Reach kind counted_point) = Some (touch.Point kind at)
touch_of_work at (Meet kind) = Some (touch.Point kind at)
touch_of_work at (Close nothing) = Some (touch.Point point.End at)
touch_of_work at other = None

abbrev pub touch_of : Operation → Option Touch
touch_of operation = touch_of_work operation.at operation.work

-- what the end of a block touches
abbrev pub touch_of_end : BlockEnd → Option Touch
touch_of_end (Branch at temporary one other) = Some (touch.Point point.Branch at)
touch_of_end (Switch at temporary cases otherwise) = Some (touch.Point point.Switch at)
touch_of_end other = None

-- the touch of the first instruction at a point
abbrev pub touch_first : List Operation → BlockEnd → Option Touch
touch_first [] end = touch_of_end end
touch_first (operation ∷ operations) end = touch_of operation

-- what the code touches at a point, at a number in a block, and at a spot
abbrev pub touch_from : Point → Option Touch
touch_from p = touch_first p.operations p.end

abbrev pub touch_in : Point → ℕ → Option Touch
touch_in block number = option_and_then touch_from (point_in block number)

abbrev pub touch_at : Code → Spot → Option Touch
touch_at code spot = option_and_then touch_from (point_at code spot)

-- this touch, in a frame of a run
abbrev pub in_frame : ℕ → Touch → run.Touch
in_frame frame (touch.Point kind at) = run.Meets kind at
in_frame frame (touch.Load declaration at) = run.Loads frame declaration at
in_frame frame (touch.Store declaration at) = run.Stores frame declaration at
in_frame frame (touch.Clear declaration at) = run.Clears frame declaration at

-- what a step touched, after earlier touches: exactly this if the run continues, and at most this if it ends
abbrev pub HasTouched : {S : Type 0} → List run.Touch → Option run.Touch → Performed S → Type 0
HasTouched before reported (Continues next log) = log.touches ≡ before ++ option_to_list reported
HasTouched before reported (Finishes outcome log) = (log.touches ≡ before) ⊎ (log.touches ≡ before ++ option_to_list reported)
