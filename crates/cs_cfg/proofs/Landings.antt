-- If a label is in what a graph executes, a `goto` lands: its target reaches the label's counted point, and what the reference machine has
-- to do from there follows (C11 6.8.6.1).
use Rattle.std.proofs.Common.{◌≡◌, ℕ, ◌+◌, ◌==◌, Bool, true, false, List, [], ◌∷◌, Option, Some, None, option_map, if◌then◌else◌}
use Rattle.std.proofs.Common.{refl, ap, ◌∙◌, subst, eqb-true}
use Rattle.cs_ast.specs.declared.place.Place.{Place}
use Rattle.cs_ast.specs.TypedTree.{Statement, Block, Declare, Run, If, IfElse, While, Do, For, Switch, Goto, Label, Break, Continue, Return, Statements, Empty}
use Rattle.cs_ast.specs.TypedTree.{Then}
use Rattle.cs_ast.specs.TypedProgram.{TypedProgram, Routine}
use Rattle.cs_events.specs.declared.point.PointKind.TheVariants as point
use Rattle.cs_meaning.specs.Machine.{Item, Execute, Again, Out, body_of}
use Rattle.cs_meaning.specs.CountedPoints.{counted_points, counted_points_in}
use Rattle.cs_meaning.specs.Jumps.{executes, Landing, first_of_two, landing, landing_in}
use Rattle.cs_cfg.specs.Graph as graph
use Rattle.cs_cfg.specs.Graph.{Point, Flow, block_of}
use Rattle.cs_cfg.specs.Placing.{does, Joins, there}
use Rattle.cs_cfg.specs.Executing.{goes_to, is_led_to, executes_at, all_at}
use Rattle.cs_cfg.proofs.Arriving.{Arrives, arrives_from, again_stands, out_stands, row_arrives, from_first}

-- what is observed of a landing, in this file mostly its counted point
abbrev pub seen_of : {A : Type 0} → (ℕ → Place → A) → Option Landing → Option A
seen_of see landing = option_map (λ (l : Landing). see l.counted_point l.at) landing

abbrev pub counted_point_of : Option Landing → Option ℕ
counted_point_of landing = seen_of (λ counted_point at. counted_point) landing

module _ {A : Type 0} (see : ℕ → Place → A) where
  -- the first of two landings is observed alike if both are
  first_seen : (one one' other other' : Option Landing) → seen_of see one ≡ seen_of see one' → seen_of see other ≡ seen_of see other'
      → seen_of see (first_of_two one other) ≡ seen_of see (first_of_two one' other')
  first_seen (Some l) (Some l') other other' e f = e
  first_seen (Some l) None other other' e f = cc
  first_seen None (Some l') other other' e f = cc
  first_seen None None other other' e f = f

  -- the same for a label that is the wanted one, or not
  label_seen : (found : Bool) (l l' : Landing) (one other : Option Landing) → see l.counted_point l.at ≡ see l'.counted_point l'.at
      → seen_of see one ≡ seen_of see other → seen_of see (if found then Some l else one) ≡ seen_of see (if found then Some l' else other)
  label_seen true l l' one other e f = ap Some e
  label_seen false l l' one other e f = f

  mutual
    -- whatever is to be done after a statement, a label in it is observed alike
    pub seen_alike : (wanted : ℕ) (s : Statement) (counted_point : ℕ) (items items' : List Item)
        → seen_of see (landing wanted s counted_point items) ≡ seen_of see (landing wanted s counted_point items')
    seen_alike wanted (Block at statements) counted_point items items' = seen_alike_in wanted statements counted_point items items'
    seen_alike wanted (Declare at declaration initial) counted_point items items' = refl
    seen_alike wanted (Run at e) counted_point items items' = refl
    seen_alike wanted (If at test body) counted_point items items' = seen_alike wanted body counted_point items items'
    seen_alike wanted (IfElse at test body other) counted_point items items' =
        first_seen (landing wanted body counted_point items) (landing wanted body counted_point items')
        (landing wanted other (counted_point + counted_points body) items) (landing wanted other (counted_point + counted_points body) items')
        (seen_alike wanted body counted_point items items') (seen_alike wanted other (counted_point + counted_points body) items items')
    seen_alike wanted (While at test body) counted_point items items' =
        seen_alike wanted body (counted_point + 1) (Again (While at test body) counted_point ∷ (Out ∷ items))
        (Again (While at test body) counted_point ∷ (Out ∷ items'))
    seen_alike wanted (Do at body test) counted_point items items' =
        seen_alike wanted body (counted_point + 1) (Again (Do at body test) counted_point ∷ (Out ∷ items))
        (Again (Do at body test) counted_point ∷ (Out ∷ items'))
    seen_alike wanted (For at first test last body) counted_point items items' =
        seen_alike wanted body (counted_point + 1 + counted_points_in first) (Again (For at first test last body) counted_point ∷ (Out ∷ items))
        (Again (For at first test last body) counted_point ∷ (Out ∷ items'))
    seen_alike wanted (Switch at value cases statements) counted_point items items' =
        seen_alike_in wanted statements counted_point (Out ∷ items) (Out ∷ items')
    seen_alike wanted (Goto at label) counted_point items items' = refl
    seen_alike wanted (Label at label body) counted_point items items' =
        label_seen (label == wanted) _ _ _ _ refl (seen_alike wanted body (counted_point + 1) items items')
    seen_alike wanted (Break at) counted_point items items' = refl
    seen_alike wanted (Continue at) counted_point items items' = refl
    seen_alike wanted (Return at value) counted_point items items' = refl

    seen_alike_in : (wanted : ℕ) (statements : Statements) (counted_point : ℕ) (items items' : List Item)
        → seen_of see (landing_in wanted statements counted_point items) ≡ seen_of see (landing_in wanted statements counted_point items')
    seen_alike_in wanted Empty counted_point items items' = refl
    seen_alike_in wanted (Then first others) counted_point items items' =
        first_seen (landing wanted first counted_point (executes others (counted_point + counted_points first) items))
        (landing wanted first counted_point (executes others (counted_point + counted_points first) items'))
        (landing_in wanted others (counted_point + counted_points first) items) (landing_in wanted others (counted_point + counted_points first) items')
        (seen_alike wanted first counted_point (executes others (counted_point + counted_points first) items)
        (executes others (counted_point + counted_points first) items')) (seen_alike_in wanted others (counted_point + counted_points first) items items')

-- so a label's counted point is the same, and its position
pub counted_points_alike : (wanted : ℕ) (s : Statement) (counted_point : ℕ) (items items' : List Item)
    → counted_point_of (landing wanted s counted_point items) ≡ counted_point_of (landing wanted s counted_point items')
counted_points_alike wanted s counted_point items items' = seen_alike (λ counted_point at. counted_point) wanted s counted_point items items'

abbrev pub place_of : Option Landing → Option Place
place_of landing = seen_of (λ counted_point at. at) landing

pub placed_alike : (wanted : ℕ) (s : Statement) (counted_point : ℕ) (items items' : List Item)
    → place_of (landing wanted s counted_point items) ≡ place_of (landing wanted s counted_point items')
placed_alike wanted s counted_point items items' = seen_alike (λ counted_point at. at) wanted s counted_point items items'

-- the first of two is one of them
first_is : {Goal : Type 0} (one other : Option Landing) (l : Landing) → first_of_two one other ≡ Some l → (one ≡ Some l → Goal)
    → (other ≡ Some l → Goal) → Goal
first_is (Some l') other l e take skip = take e
first_is None other l e take skip = skip e

module _ (program : TypedProgram) (flow : Flow) (routine : Routine) (labels : ℕ → Point) where
  -- the point at which a label's counted point is reached, the target of its `goto`s if the label is the first of its name; then the things to do
  pub record Lands (wanted : ℕ) (l : Landing) : Type 0 where
    pub head : Point
    pub inside : Point
    pub reaches : head ≡ does l.at 0 (graph.Reach point.Label l.counted_point) inside
    pub led : is_led_to program flow routine labels (landing wanted (body_of routine) 0 []) l.counted_point (labels wanted) head
    pub out : Point
    pub again : Point
    pub stands : Arrives program flow routine labels l.todo out again 0 inside

  -- a label is the wanted one, or that one is inside
  at_label : (wanted label counted_point : ℕ) (at : Place) (body : Statement) (items : List Item) (l : Landing) (head inside q out again : Point)
      → head ≡ does at 0 (graph.Reach point.Label counted_point) inside →
      is_led_to program flow routine labels (landing label (body_of routine) 0 []) counted_point (labels label) head
      → executes_at program flow routine labels body (counted_point + 1) out again inside q →
      Arrives program flow routine labels items out again 0 q → (landing wanted body (counted_point + 1) items ≡ Some l → Lands wanted l) →
      (found : Bool) → (label == wanted) ≡ found
      → (if found then Some (record { counted_point = counted_point; at = at; todo = Execute body (counted_point + 1) ∷ items })
      else landing wanted body (counted_point + 1) items) ≡ Some l → Lands wanted l
  at_label wanted label counted_point at body items l head inside q out again reaches led it following deeper true same e =
      let here : Landing = record { counted_point = counted_point; at = at; todo = Execute body (counted_point + 1) ∷ items } in
      let is_here : here ≡ l = cc in
      let named : label ≡ wanted = eqb-true label wanted same in
      subst (Lands wanted) is_here (record {
        head = head;
        inside = inside;
        reaches = reaches;
        led = subst (λ name. is_led_to program flow routine labels (landing name (body_of routine) 0 []) counted_point (labels name) head) named led;
        out = out;
        again = again;
        stands = (inside, there, (refl, (q, it, following)));
      })
  at_label wanted label counted_point at body items l head inside q out again reaches led it following deeper false same e = deeper e

  mutual
    -- a label in a statement
    pub lands_in : (wanted : ℕ) (s : Statement) (counted_point : ℕ) (items : List Item) (l : Landing) (out again p q : Point) →
        executes_at program flow routine labels s counted_point out again p q → Arrives program flow routine labels items out again 0 q
        → landing wanted s counted_point items ≡ Some l → Lands wanted l
    lands_in wanted (Block at statements) counted_point items l out again p q it s e = lands_among wanted statements counted_point items l out again p q it s e
    lands_in wanted (Declare at declaration initial) counted_point items l out again p q it s e = cc
    lands_in wanted (Run at expression) counted_point items l out again p q it s e = cc
    lands_in wanted (If at test body) counted_point items l out again p q it s e =
        lands_in wanted body counted_point items l out again (block_of flow it.0) it.3.0.0 it.3.0.1
        (arrives_from program flow routine labels items out again 0 it.3.0.2 s) e
    lands_in wanted (IfElse at test body other) counted_point items l out again p q it s e =
        first_is (landing wanted body counted_point items) (landing wanted other (counted_point + counted_points body) items) l e
        (λ f.
        lands_in wanted body counted_point items l out again (block_of flow it.0) it.3.0.0 it.3.0.1
        (arrives_from program flow routine labels items out again 0 it.3.0.2 s) f)
        (λ f.
        lands_in wanted other (counted_point + counted_points body) items l out again (block_of flow it.1) it.3.1.0 it.3.1.1
        (arrives_from program flow routine labels items out again 0 it.3.1.2 s) f)
    lands_in wanted (While at test body) counted_point items l out again p q it s e =
        let loop = again_stands program flow routine labels (While at test body) counted_point items it.0 it.0 q out again (refl, it.2) s in
        lands_in wanted body (counted_point + 1) (Again (While at test body) counted_point ∷ Out ∷ items) l q it.0 (block_of flow it.2.2.0) it.2.2.3.0.0
        it.2.2.3.0.1
        (it.0, it.2.2.3.0.2, loop) e
    lands_in wanted (Do at body test) counted_point items l out again p q it s e =
        let loop = again_stands program flow routine labels (Do at body test) counted_point items it.0 it.1 q out again it.3 s in
        lands_in wanted body (counted_point + 1) (Again (Do at body test) counted_point ∷ Out ∷ items) l q it.1 it.3.0 it.3.2.0 it.3.2.1
        (it.1, it.3.2.2, loop) e
    lands_in wanted (For at first test last body) counted_point items l out again p q it s e =
        let loop = again_stands program flow routine labels (For at first test last body) counted_point items it.0 it.1 q out again it.3 s in
        lands_in wanted body (counted_point + 1 + counted_points_in first) (Again (For at first test last body) counted_point ∷ Out ∷ items) l q it.1 it.3.1
        it.3.4.0 it.3.4.1 (it.1, it.3.4.2, loop) e
    lands_in wanted (Switch at value cases statements) counted_point items l out again p q it s e =
        lands_among wanted statements counted_point (Out ∷ items) l q again (it.2 0) q
        (from_first program flow routine labels statements counted_point q again (it.2 0) q (it.4 0))
        (q, there, out_stands program flow routine labels items q out again s) e
    lands_in wanted (Goto at label) counted_point items l out again p q it s e = cc
    lands_in wanted (Label at label body) counted_point items l out again p q it s e =
        at_label wanted label counted_point at body items l it.0 it.1 q out again it.3 it.4 it.5 s
        (λ f. lands_in wanted body (counted_point + 1) items l out again it.1 q it.5 s f) (label == wanted) refl e
    lands_in wanted (Break at) counted_point items l out again p q it s e = cc
    lands_in wanted (Continue at) counted_point items l out again p q it s e = cc
    lands_in wanted (Return at value) counted_point items l out again p q it s e = cc

    -- a label in a list of statements
    lands_among : (wanted : ℕ) (statements : Statements) (counted_point : ℕ) (items : List Item) (l : Landing) (out again p q : Point) →
        all_at program flow routine labels statements counted_point out again p q → Arrives program flow routine labels items out again 0 q
        → landing_in wanted statements counted_point items ≡ Some l → Lands wanted l
    lands_among wanted Empty counted_point items l out again p q it s e = cc
    lands_among wanted (Then first others) counted_point items l out again p q it s e =
        let others_stand = row_arrives program flow routine labels others (counted_point + counted_points first) items out again it.0 q it.2 s in
        first_is (landing wanted first counted_point (executes others (counted_point + counted_points first) items))
        (landing_in wanted others (counted_point + counted_points first) items) l e
        (λ f.
        lands_in wanted first counted_point (executes others (counted_point + counted_points first) items) l out again p it.1.0 it.1.1
        (arrives_from program flow routine labels (executes others (counted_point + counted_points first) items) out again 0 it.1.2 others_stand) f)
        (λ f. lands_among wanted others (counted_point + counted_points first) items l out again it.0 q it.2 s f)

  -- if a label has a landing, it has one whatever is to be done at the end, with the same counted point
  led_same : (wanted : ℕ) (first : Option Landing) (l : Landing) (head : Point) → counted_point_of first ≡ counted_point_of (Some l)
      → is_led_to program flow routine labels first l.counted_point (labels wanted) head → labels wanted ≡ head
  led_same wanted None l head e led = cc
  led_same wanted (Some l') l head e led =
      let same : l'.counted_point ≡ l.counted_point = cc in
      led same

  -- a `goto` in the body of a function lands
  pub record Landed (wanted : ℕ) (l : Landing) : Type 0 where
    pub inside : Point
    pub reaches : labels wanted ≡ does l.at 0 (graph.Reach point.Label l.counted_point) inside
    pub out : Point
    pub again : Point
    pub stands : Arrives program flow routine labels l.todo out again 0 inside

  pub goto_lands : (wanted : ℕ) (items : List Item) (l : Landing) (out again inside following : Point)
      → executes_at program flow routine labels (body_of routine) 0 out again inside following →
      Arrives program flow routine labels items out again 0 following → landing wanted (body_of routine) 0 items ≡ Some l → Landed wanted l
  goto_lands wanted items l out again inside following it rest e =
      let lands = lands_in wanted (body_of routine) 0 items l out again inside following it rest e in
      let with_counted_point = counted_points_alike wanted (body_of routine) 0 [] items ∙ ap counted_point_of e in
      let led = led_same wanted (landing wanted (body_of routine) 0 []) l lands.head with_counted_point lands.led in
      record { inside = lands.inside; reaches = led ∙ lands.reaches; out = lands.out; again = lands.again; stands = lands.stands }

  -- and one without a label continues
  nothing_led : (first : Option Landing) (label p q : Point) → counted_point_of first ≡ None → goes_to program flow routine labels first label p q
      → Joins program flow p q
  nothing_led None label p q e way = way
  nothing_led (Some l) label p q e way = cc

  pub goto_goes_on : (wanted : ℕ) (items : List Item) (p q : Point) → landing wanted (body_of routine) 0 items ≡ None
      → goes_to program flow routine labels (landing wanted (body_of routine) 0 []) (labels wanted) p q → Joins program flow p q
  goto_goes_on wanted items p q e way =
      nothing_led (landing wanted (body_of routine) 0 []) (labels wanted) p q (counted_points_alike wanted (body_of routine) 0 [] items
      ∙ ap counted_point_of e) way

  -- one with a label jumps to it
  somewhere_led : (first : Option Landing) (l : Landing) (label p q : Point) → counted_point_of first ≡ Some l.counted_point
      → goes_to program flow routine labels first label p q → Joins program flow p label
  somewhere_led None l label p q e way = cc
  somewhere_led (Some l') l label p q e way = way.0

  pub goto_jumps : (wanted : ℕ) (items : List Item) (l : Landing) (p q : Point) → landing wanted (body_of routine) 0 items ≡ Some l
      → goes_to program flow routine labels (landing wanted (body_of routine) 0 []) (labels wanted) p q → Joins program flow p (labels wanted)
  goto_jumps wanted items l p q e way =
      somewhere_led (landing wanted (body_of routine) 0 []) l (labels wanted) p q (counted_points_alike wanted (body_of routine) 0 [] items
      ∙ ap counted_point_of e) way

  -- a `goto` with a label also continues from the label itself
  stays_led : (first : Option Landing) (l : Landing) (label p q : Point) → counted_point_of first ≡ Some l.counted_point
      → goes_to program flow routine labels first label p q → goes_to program flow routine labels first label label q
  stays_led None l label p q e way = cc
  stays_led (Some l') l label p q e way = (there, way.1)

  pub goto_stays : (wanted : ℕ) (items : List Item) (l : Landing) (p q : Point) → landing wanted (body_of routine) 0 items ≡ Some l
      → goes_to program flow routine labels (landing wanted (body_of routine) 0 []) (labels wanted) p q →
      goes_to program flow routine labels (landing wanted (body_of routine) 0 []) (labels wanted) (labels wanted) q
  goto_stays wanted items l p q e way =
      stays_led (landing wanted (body_of routine) 0 []) l (labels wanted) p q (counted_points_alike wanted (body_of routine) 0 [] items
      ∙ ap counted_point_of e) way
