-- Jumps (C11 6.8.6): the things to do at the targets of `break`, `continue` and `goto`.
use Rattle.std.specs.Prelude.{ℕ, ◌+◌, ◌==◌, List, [], ◌∷◌, Option, Some, None, if◌then◌else◌}
use Rattle.cs_ast.specs.declared.place.Place.{Place}
use Rattle.cs_ast.specs.TypedTree.{Statement, Block, Declare, Run, If, IfElse, While, Do, For, Switch, Goto, Label, Break, Continue, Return, Statements, Empty}
use Rattle.cs_ast.specs.TypedTree.{Then}
use Rattle.cs_meaning.specs.Machine.{Item, Execute, Again, Out}
use Rattle.cs_meaning.specs.CountedPoints.{counted_points, counted_points_in}

-- consecutive statements, the first counted point of which has this number, before the other things to do
abbrev pub executes : Statements → ℕ → List Item → List Item
executes Empty counted_point following = following
executes (Then first others) counted_point following = Execute first counted_point ∷ executes others (counted_point + counted_points first) following

-- the things to do after the nearest loop or `switch`
abbrev pub broken_out : List Item → List Item
broken_out [] = []
broken_out (Out ∷ following) = following
broken_out (item ∷ following) = broken_out following

-- the things to do after the body of the nearest loop
abbrev pub continued : List Item → List Item
continued [] = []
continued (Again s counted_point ∷ following) = Again s counted_point ∷ following
continued (item ∷ following) = continued following

-- a label: its counted point, its source position, and the things to do once it is reached
pub record Landing : Type 0 where
  pub counted_point : ℕ
  pub at : Place
  pub todo : List Item

-- the first of two landings
abbrev pub first_of_two : Option Landing → Option Landing → Option Landing
first_of_two (Some landing) other = Some landing
first_of_two None other = other

abbrev mutual
  -- the label in a statement, if it is there; `counted_point` numbers the statement's first counted point, `following` is to do after the statement
  pub landing : ℕ → Statement → ℕ → List Item → Option Landing
  landing wanted (Block at statements) counted_point following = landing_in wanted statements counted_point following
  landing wanted (Declare at declaration initial) counted_point following = None
  landing wanted (Run at e) counted_point following = None
  landing wanted (If at test body) counted_point following = landing wanted body counted_point following
  landing wanted (IfElse at test body other) counted_point following =
      first_of_two (landing wanted body counted_point following) (landing wanted other (counted_point + counted_points body) following)
  landing wanted (While at test body) counted_point following =
      landing wanted body (counted_point + 1) (Again (While at test body) counted_point ∷ (Out ∷ following))
  landing wanted (Do at body test) counted_point following =
      landing wanted body (counted_point + 1) (Again (Do at body test) counted_point ∷ (Out ∷ following))
  landing wanted (For at first test last body) counted_point following =
      landing wanted body (counted_point + 1 + counted_points_in first) (Again (For at first test last body) counted_point ∷ (Out ∷ following))
  landing wanted (Switch at value cases statements) counted_point following = landing_in wanted statements counted_point (Out ∷ following)
  landing wanted (Goto at label) counted_point following = None
  landing wanted (Label at label body) counted_point following =
      if label == wanted
      then Some (record { counted_point = counted_point; at = at; todo = Execute body (counted_point + 1) ∷ following })
      else landing wanted body (counted_point + 1) following
  landing wanted (Break at) counted_point following = None
  landing wanted (Continue at) counted_point following = None
  landing wanted (Return at value) counted_point following = None

  -- the same in consecutive statements
  pub landing_in : ℕ → Statements → ℕ → List Item → Option Landing
  landing_in wanted Empty counted_point following = None
  landing_in wanted (Then first others) counted_point following =
      first_of_two (landing wanted first counted_point (executes others (counted_point + counted_points first) following))
      (landing_in wanted others (counted_point + counted_points first) following)
