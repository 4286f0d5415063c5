-- What is at a point where jumps lead to what is to be done: for jumps of the program and for lists of statements.
use Rattle.std.proofs.Common.{ℕ, zero, suc, ◌+◌, List, ◌∷◌, refl}
use Rattle.cs_ast.specs.TypedTree.{Statement, Statements, Empty, Then}
use Rattle.cs_ast.specs.TypedProgram.{TypedProgram, Routine}
use Rattle.cs_meaning.specs.Machine.{Item, Again, Out}
use Rattle.cs_meaning.specs.CountedPoints.{counted_points}
use Rattle.cs_meaning.specs.Jumps.{executes}
use Rattle.cs_meaning.specs.Statements.{executes_from}
use Rattle.cs_cfg.specs.Graph.{Point, Flow}
use Rattle.cs_cfg.specs.Placing.{Joins, there}
use Rattle.cs_cfg.specs.Executing.{all_at, from_at}
use Rattle.cs_cfg.proofs.Moving.{joins_on}
use Rattle.cs_cfg.specs.Standing.{Following, loops_at, stands_at}

module _ (program : TypedProgram) (flow : Flow) (routine : Routine) (labels : ℕ → Point) where
  -- only jumps separate a point from the one that does the things to do
  abbrev pub Arrives : List Item → Point → Point → Following
  Arrives items out again depth p = (r : Point) × Joins program flow p r × stands_at program flow routine labels items out again depth r

  -- more jumps before
  pub arrives_from : {p q : Point} (items : List Item) (out again : Point) (depth : ℕ) → Joins program flow p q → Arrives items out again depth q
      → Arrives items out again depth p
  arrives_from items out again depth way s = (s.0, joins_on way s.1, s.2)

  -- after the body of a loop
  pub again_stands : (s : Statement) (counted_point : ℕ) (items : List Item) (head after_body following out again : Point) →
      loops_at program flow routine labels s counted_point head after_body following → Arrives items out again 0 following →
      stands_at program flow routine labels (Again s counted_point ∷ Out ∷ items) following after_body 0 after_body
  again_stands s counted_point items head after_body following out again loop rest =
      (refl, refl, (head, loop, (again, (following, there, (refl, refl, (out, rest))))))

  -- after a `switch` and after a loop
  pub out_stands : (items : List Item) (following out again : Point) → Arrives items out again 0 following
      → stands_at program flow routine labels (Out ∷ items) following again 0 following
  out_stands items following out again rest = (refl, refl, (out, rest))

  -- a list of statements
  pub row_arrives : (statements : Statements) (counted_point : ℕ) (items : List Item) (out again p q : Point) →
      all_at program flow routine labels statements counted_point out again p q → Arrives items out again 0 q
      → Arrives (executes statements counted_point items) out again 0 p
  row_arrives Empty counted_point items out again p q way rest = arrives_from items out again 0 way rest
  row_arrives (Then first others) counted_point items out again p q it rest = (
    p,
    there,
    (
      refl,
      (
        it.1.0,
        it.1.1,
        arrives_from (executes others (counted_point + counted_points first) items) out again 0 it.1.2
            (row_arrives others (counted_point + counted_points first) items out again it.0 q it.2 rest),
      ),
    ),
  )

  -- the same from the statement with a number
  pub rest_arrives : (number : ℕ) (statements : Statements) (counted_point : ℕ) (items : List Item) (out again p q : Point) →
      from_at program flow routine labels number statements counted_point out again p q → Arrives items out again 0 q
      → Arrives (executes_from number statements counted_point items) out again 0 p
  rest_arrives number Empty counted_point items out again p q way rest = arrives_from items out again 0 way rest
  rest_arrives zero (Then first others) counted_point items out again p q it rest = row_arrives (Then first others) counted_point items out again p q it rest
  rest_arrives (suc number) (Then first others) counted_point items out again p q it rest =
      rest_arrives number others (counted_point + counted_points first) items out again p q it rest

  -- from the first statement: all of them
  pub from_first : (statements : Statements) (counted_point : ℕ) (out again p q : Point)
      → from_at program flow routine labels 0 statements counted_point out again p q
      → all_at program flow routine labels statements counted_point out again p q
  from_first Empty counted_point out again p q it = it
  from_first (Then first others) counted_point out again p q it = it
