-- All control points in the blocks of a graph keep fitting those of a list while code is built from its end. For the builder of a
-- graph.
use Rattle.std.specs.Prelude.{◌⊎◌, Contains, slice_get}
use Rattle.std.specs.List.{All}
use Rattle.std.proofs.Common.{◌≡◌, ℕ, true, false, List, [], ◌∷◌, ◌++◌, length, Some, None, if◌then◌else◌, arith, refl, sym, ap}
use Rattle.std.proofs.Common.{◌∙◌, subst, inl, inr}
use Rattle.std.proofs.lemmas.List.Elements.{All-nil, All-cons, All-head, All-tail, All-append, All-weaker, All-contains, All-contains_itself}
use Rattle.std.proofs.lemmas.List.Elements.{Contains-append_left, Contains-append_right}
use Rattle.cs_ast.specs.declared.place.Place.{Place}
use Rattle.cs_events.specs.declared.point.PointKind.{PointKind}
use Rattle.cs_events.specs.declared.point.PointKind.TheVariants as point
use Rattle.cs_cfg.specs.Graph.{Work, Operation, SwitchCase, BlockEnd, Jump, Branch, Switch, Point, Flow, block_of}
use Rattle.cs_cfg.specs.ControlPoints.{Met, Next, the_point, Exit, Onward, TruthOf, CaseOf, way, ControlPoint, passed, tested, last_point}
use Rattle.cs_cfg.specs.GraphPoints.{met_in, goes_on, IsMet, by_operation, by_branch, Leads, onward, on_truth, on_case, on_no_case, MeetsNext, IsRest}
use Rattle.cs_cfg.specs.Fitting.{Fits, FitsSome, BlockFits, AllFit, Includes, AddsPoints}
use Rattle.cs_cfg.specs.Placing.{does, split}
use Rattle.cs_cfg.proofs.Keeping.{met_at, met_of, is_met}

-- the edges out of a point, by what the point does first
abbrev pub LeadsBy : Flow → Met → List Operation → BlockEnd → Exit → Point → Type 0
LeadsBy flow m (operation ∷ operations) end Onward q = (goes_on m.kind ≡ true) × (q ≡ record { operations = operations; end = end })
LeadsBy flow m [] (Branch at temporary one other) (TruthOf holds) q = q ≡ block_of flow (if holds then one else other)
LeadsBy flow m [] (Switch at temporary cases otherwise) (CaseOf number) q =
    ((taken : SwitchCase) × (slice_get cases number ≡ Some taken) × (q ≡ block_of flow taken.block))
    ⊎ ((number ≡ length cases) × (q ≡ block_of flow otherwise))
LeadsBy flow m operations end exit q = ⊥

pub leads_by : {flow : Flow} {p q : Point} {m : Met} {exit : Exit} → Leads flow p m exit q → LeadsBy flow m p.operations p.end exit q
leads_by (onward is further) = (further, refl)
leads_by on_truth = refl
leads_by (on_case {taken = taken} is) = inl (taken, is, refl)
leads_by on_no_case = inr (refl, refl)

module _ {flow : Flow} where
  -- the head of a loop, a label or the beginning of a body
  pub fits_passed : {kind : PointKind} {at : Place} {next : Next} (number : ℕ) (work : Work) (q : Point) → met_in at work ≡ Some (the_point kind at)
      → MeetsNext flow q next →
      Fits flow (passed kind at next) (does at number work q)
  fits_passed {kind = kind} {at = at} {next = next} number work q is m = record {
    meets = by_operation {operation = record { at = at; temporary = number; work = work }} {p = q} is;
    leads = λ exit r l. here exit r (leads_by l);
  }
    where
      here : (exit : Exit) (r : Point) → LeadsBy flow (the_point kind at) (does at number work q).operations q.end exit r
          → (after : Next) × Contains (way Onward next ∷ []) (way exit after) × MeetsNext flow r after
      here Onward r it = (next, (0, omega arith, refl), subst (λ x. MeetsNext flow x next) (sym it.1) m)
      here (TruthOf holds) r it = absurd it
      here (CaseOf case) r it = absurd it

  -- a `return` or the end of a body
  pub fits_last : {kind : PointKind} {at : Place} (number : ℕ) (work : Work) (q : Point) → met_in at work ≡ Some (the_point kind at)
      → goes_on kind ≡ false → Fits flow (last_point kind at) (does at number work q)
  fits_last {kind = kind} {at = at} number work q is last = record {
    meets = by_operation {operation = record { at = at; temporary = number; work = work }} {p = q} is;
    leads = λ exit r l. here exit r (leads_by l);
  }
    where
      here : (exit : Exit) (r : Point) → LeadsBy flow (the_point kind at) (does at number work q).operations q.end exit r
          → (after : Next) × Contains [] (way exit after) × MeetsNext flow r after
      here Onward r it =
          let both : false ≡ true = sym last ∙ it.0 in
          cc
      here (TruthOf holds) r it = absurd it
      here (CaseOf case) r it = absurd it

  -- a test
  pub fits_tested : {one_next other_next : Next} (at : Place) (number one other : ℕ) → MeetsNext flow (block_of flow one) one_next
      → MeetsNext flow (block_of flow other) other_next →
      Fits flow (tested at one_next other_next) (split at number one other)
  fits_tested {one_next = a} {other_next = b} at number one other m m' = record { meets = by_branch; leads = λ exit r l. here exit r (leads_by l) }
    where
      here : (exit : Exit) (r : Point) → LeadsBy flow (the_point point.Branch at) [] (Branch at number one other) exit r →
          (after : Next) × Contains (way (TruthOf true) a ∷ (way (TruthOf false) b ∷ [])) (way exit after) × MeetsNext flow r after
      here (TruthOf true) r it = (a, (0, omega arith, refl), subst (λ x. MeetsNext flow x a) (sym it) m)
      here (TruthOf false) r it = (b, (1, omega arith, refl), subst (λ x. MeetsNext flow x b) (sym it) m')
      here Onward r it = absurd it
      here (CaseOf case) r it = absurd it

-- the rest of a block is all of it, or part of what follows its first operation
abbrev RestAfter : List Operation → BlockEnd → Point → Type 0
RestAfter [] end p = ⊥
RestAfter (operation ∷ operations) end p = IsRest (record { operations = operations; end = end }) p

tail_of : List Operation → List Operation
tail_of [] = []
tail_of (operation ∷ operations) = operations

rest_is : (operations : List Operation) (end : BlockEnd) (p : Point) (done : List Operation) → operations ≡ done ++ p.operations → end ≡ p.end
    → (record { operations = operations; end = end } ≡ p) ⊎ RestAfter operations end p
unfolding tail_of
rest_is operations end p [] e f = inl (λ i. record { operations = e i; end = f i })
rest_is [] end p (first ∷ done) e f = cc
rest_is (operation ∷ operations) end p (first ∷ done) e f = inr (record { done = done; left = ap tail_of e; ends = f })

module _ {flow : Flow} {points : List ControlPoint} where
  -- an operation that is no control point
  pub block_silent : (at : Place) (number : ℕ) (work : Work) (q : Point) → met_in at work ≡ None → BlockFits flow points q
      → BlockFits flow points (does at number work q)
  block_silent at number work q silent fits =
      record { each = λ p m rest is. cases p m is (rest_is (does at number work q).operations q.end p rest.done rest.left rest.ends) }
    where
      cases : (p : Point) (m : Met) → IsMet p m → (does at number work q ≡ p) ⊎ IsRest q p → FitsSome flow points p m
      cases p m is (inl here) =
          let none : None ≡ Some m = sym silent ∙ ap met_of here ∙ is_met is in
          cc
      cases p m is (inr following) = fits.each p m following is

  -- one that is a control point and fits
  pub block_point : {one : ControlPoint} (at : Place) (number : ℕ) (work : Work) (q : Point) → Contains points one → Fits flow one (does at number work q)
      → BlockFits flow points q → BlockFits flow points (does at number work q)
  block_point {one = one} at number work q among fit fits =
      record { each = λ p m rest is. cases p m is (rest_is (does at number work q).operations q.end p rest.done rest.left rest.ends) }
    where
      cases : (p : Point) (m : Met) → IsMet p m → (does at number work q ≡ p) ⊎ IsRest q p → FitsSome flow points p m
      cases p m is (inl here) =
          let both : Some (the_point one.kind one.at) ≡ Some m = sym (is_met fit.meets) ∙ ap met_of here ∙ is_met is in
          let same : the_point one.kind one.at ≡ m = cc in
          (one, among, same, subst (Fits flow one) here fit)
      cases p m is (inr following) = fits.each p m following is

  -- an end that is no control point, as a jump
  pub block_end : (end : BlockEnd) → met_at [] end ≡ None → BlockFits flow points (record { operations = []; end = end })
  block_end end silent = record { each = λ p m rest is. cases p m is (rest_is [] end p rest.done rest.left rest.ends) }
    where
      cases : (p : Point) (m : Met) → IsMet p m → (record { operations = []; end = end } ≡ p) ⊎ ⊥ → FitsSome flow points p m
      cases p m is (inl here) =
          let none : None ≡ Some m = sym silent ∙ ap met_of here ∙ is_met is in
          cc
      cases p m is (inr following) = absurd following

  -- one that is a control point and fits
  pub block_choice : {one : ControlPoint} (end : BlockEnd) → Contains points one → Fits flow one (record { operations = []; end = end })
      → BlockFits flow points (record { operations = []; end = end })
  block_choice {one = one} end among fit = record { each = λ p m rest is. cases p m is (rest_is [] end p rest.done rest.left rest.ends) }
    where
      cases : (p : Point) (m : Met) → IsMet p m → (record { operations = []; end = end } ≡ p) ⊎ ⊥ → FitsSome flow points p m
      cases p m is (inl here) =
          let both : Some (the_point one.kind one.at) ≡ Some m = sym (is_met fit.meets) ∙ ap met_of here ∙ is_met is in
          let same : the_point one.kind one.at ≡ m = cc in
          (one, among, same, subst (Fits flow one) here fit)
      cases p m is (inr following) = absurd following

  -- lists of blocks
  pub fit_none : AllFit flow points []
  fit_none = record { all = All-nil (BlockFits flow points) }

  pub fit_more : {block : Point} {blocks : List Point} → BlockFits flow points block → AllFit flow points blocks → AllFit flow points (block ∷ blocks)
  fit_more {block = block} {blocks = blocks} first fit = record { all = All-cons (BlockFits flow points) block blocks first fit.all }

  pub fit_first : {block : Point} {blocks : List Point} → AllFit flow points (block ∷ blocks) → BlockFits flow points block
  fit_first {block = block} {blocks = blocks} fit = All-head (BlockFits flow points) block blocks fit.all

  pub fit_others : {block : Point} {blocks : List Point} → AllFit flow points (block ∷ blocks) → AllFit flow points blocks
  fit_others {block = block} {blocks = blocks} fit = record { all = All-tail (BlockFits flow points) block blocks fit.all }

  -- blocks that are among others, in any order
  pub fit_among : (some blocks : List Point) → All (Contains blocks) some → AllFit flow points blocks → AllFit flow points some
  fit_among some blocks among fit =
      record {
        all = All-weaker (Contains blocks) (BlockFits flow points) (λ block contains. All-contains (BlockFits flow points) blocks block fit.all contains) some
            among;
      }

  -- an operation before the first of them
  pub fit_silent : {blocks : List Point} (at : Place) (number : ℕ) (work : Work) (q : Point) → met_in at work ≡ None → AllFit flow points (q ∷ blocks)
      → AllFit flow points (does at number work q ∷ blocks)
  fit_silent at number work q silent fit = fit_more (block_silent at number work q silent (fit_first fit)) (fit_others fit)

  pub fit_point : {one : ControlPoint} {blocks : List Point} (at : Place) (number : ℕ) (work : Work) (q : Point) → Contains points one
      → Fits flow one (does at number work q) →
      AllFit flow points (q ∷ blocks) → AllFit flow points (does at number work q ∷ blocks)
  fit_point at number work q among fits fit = fit_more (block_point at number work q among fits (fit_first fit)) (fit_others fit)

-- a list that includes others includes each part of them
module _ {points : List ControlPoint} where
  pub includes_none : Includes points []
  includes_none = record { all = All-nil (Contains points) }

  pub includes_part : {all some : List ControlPoint} → Includes points all → All (Contains all) some → Includes points some
  includes_part {all = all} {some = some} whole part =
      record { all = All-weaker (Contains all) (Contains points) (λ one among. All-contains (Contains points) all one whole.all among) some part }

  pub includes_first : (xs ys : List ControlPoint) → Includes points (xs ++ ys) → Includes points xs
  includes_first xs ys whole =
      includes_part whole (All-weaker (Contains xs) (Contains (xs ++ ys)) (λ one among. Contains-append_left xs ys one among) xs (All-contains_itself xs))

  pub includes_second : (xs ys : List ControlPoint) → Includes points (xs ++ ys) → Includes points ys
  includes_second xs ys whole =
      includes_part whole (All-weaker (Contains ys) (Contains (xs ++ ys)) (λ one among. Contains-append_right xs ys one among) ys (All-contains_itself ys))

  pub includes_both : (xs ys : List ControlPoint) → Includes points xs → Includes points ys → Includes points (xs ++ ys)
  includes_both xs ys first rest = record { all = All-append (Contains points) xs ys first.all rest.all }

  pub includes_one : {one : ControlPoint} {others : List ControlPoint} → Includes points (one ∷ others) → Contains points one
  includes_one {one = one} {others = others} whole = All-head (Contains points) one others whole.all

  pub includes_others : {one : ControlPoint} {others : List ControlPoint} → Includes points (one ∷ others) → Includes points others
  includes_others {one = one} {others = others} whole = record { all = All-tail (Contains points) one others whole.all }

-- a jump to a block, without operations
abbrev pub jump_to : ℕ → Point
jump_to block = record { operations = []; end = Jump block }

module _ {flow : Flow} where
  -- a jump before blocks that fit
  pub fit_jump : {points : List ControlPoint} {blocks : List Point} (block : ℕ) → AllFit flow points blocks
      → AllFit flow points (jump_to block ∷ blocks)
  fit_jump block fit = fit_more (block_end (Jump block) refl) fit

  -- a test before blocks that fit
  pub fit_split : {points : List ControlPoint} {blocks : List Point} {one_next other_next : Next} (at : Place) (number one other : ℕ)
      → Contains points (tested at one_next other_next) →
      MeetsNext flow (block_of flow one) one_next → MeetsNext flow (block_of flow other) other_next → AllFit flow points blocks
      → AllFit flow points (split at number one other ∷ blocks)
  fit_split at number one other among m m' fit = fit_more (block_choice (Branch at number one other) among (fits_tested at number one other m m')) fit

  -- the same blocks, some of them, or the same in another order
  pub adds_among : (old new : List Point) → All (Contains old) new → AddsPoints flow [] old new
  adds_among old new among = record { keeps = λ points includes fit. fit_among new old among fit }

  -- a jump, with which other code begins
  pub adds_jump : {blocks : List Point} (block : ℕ) → AddsPoints flow [] blocks (jump_to block ∷ blocks)
  adds_jump block = record { keeps = λ points includes fit. fit_jump block fit }

  -- an operation before the first of the blocks
  pub adds_silent : {blocks : List Point} (at : Place) (number : ℕ) (work : Work) (q : Point) → met_in at work ≡ None
      → AddsPoints flow [] (q ∷ blocks) (does at number work q ∷ blocks)
  adds_silent at number work q silent = record { keeps = λ points includes fit. fit_silent at number work q silent fit }

  -- one after another: what is done first is added last, since code is built from its end
  pub adds_both : {xs ys : List ControlPoint} {old between new : List Point} → AddsPoints flow ys old between → AddsPoints flow xs between new
      → AddsPoints flow (xs ++ ys) old new
  adds_both {xs = xs} {ys = ys} later sooner =
      record { keeps = λ points includes fit. sooner.keeps points (includes_first xs ys includes) (later.keeps points (includes_second xs ys includes) fit) }

  -- the same if one of them adds nothing
  pub nothing_then : {some : List ControlPoint} {old between new : List Point} → AddsPoints flow [] old between → AddsPoints flow some between new
      → AddsPoints flow some old new
  nothing_then first rest = record { keeps = λ points includes fit. rest.keeps points includes (first.keeps points includes_none fit) }

  pub then_nothing : {some : List ControlPoint} {old between new : List Point} → AddsPoints flow some old between → AddsPoints flow [] between new
      → AddsPoints flow some old new
  then_nothing first rest = record { keeps = λ points includes fit. rest.keeps points includes_none (first.keeps points includes fit) }

  -- an operation that is no control point, before more code
  pub adds_past : {some : List ControlPoint} {old new : List Point} (at : Place) (number : ℕ) (work : Work) (q : Point) → met_in at work ≡ None →
      AddsPoints flow some (does at number work q ∷ old) new → AddsPoints flow some (q ∷ old) new
  adds_past at number work q silent rest = nothing_then (adds_silent at number work q silent) rest
