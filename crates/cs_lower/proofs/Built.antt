-- How built code grows: for the contracts of `GraphBuilder`, and for every lemma on code that is built part by part.
use Rattle.std.proofs.Common.{◌≡◌, ℕ, zero, suc, ◌+◌, List, [], ◌∷◌, ◌++◌, length, map, reverse, Option, Some, refl, sym, ap, subst}
use Rattle.std.proofs.Common.{◌∙◌, arith}
use Rattle.std.specs.Prelude.{Contains, slice_get, unwrap_or}
use Rattle.std.specs.List.{All}
use Rattle.std.proofs.lemmas.List.{reverse-append, length-reverse, map-append}
use Rattle.std.proofs.lemmas.List.Elements.{All-append, All-cons, All-head, All-nil, All-weaker, All-contains_itself, Contains-append_left}
use Rattle.std.proofs.lemmas.List.Elements.{Contains-append_right}
use Rattle.cs_ast.specs.declared.place.Place.{Place}
use Rattle.cs_events.specs.declared.point.PointKind.{PointKind}
use Rattle.cs_cfg.specs.Fitting.{AddsPoints}
use Rattle.cs_cfg.specs.Graph.{Point, no_point, Flow, Reach}
use Rattle.cs_cfg.specs.Placing.{does}
use Rattle.cs_cfg.proofs.Fitting.{adds_among}
use Rattle.cs_lower.specs.Building.{Built, blocks, Has, Grows}
use Rattle.cs_lower.specs.Sealing.{Seals, SealsCountedPoint}
use Rattle.cs_lower.proofs.Integers.{integers_past, integers_among}

module _ {X : Type 0} where
  -- an element of a list keeps its index if more is appended
  kept : (xs ys : List X) (n : ℕ) (x : X) → slice_get xs n ≡ Some x → slice_get (xs ++ ys) n ≡ Some x
  kept [] ys n x e = cc
  kept (y ∷ xs) ys zero x e = e
  kept (y ∷ xs) ys (suc n) x e = kept xs ys n x e

  following : (xs ys : List X) (n : ℕ) → slice_get (xs ++ ys) (length xs + n) ≡ slice_get ys n
  following [] ys n = ap (slice_get ys) (omega arith)
  following (x ∷ xs) ys n =
      let e : suc (length xs) + n ≡ suc (length xs + n) = omega arith in
      ap (slice_get ((x ∷ xs) ++ ys)) e ∙ following xs ys n

  newest : (xs : List X) (x : X) → slice_get (xs ++ x ∷ []) (length xs) ≡ Some x
  newest [] x = refl
  newest (y ∷ xs) x = newest xs x

  longer : (xs : List X) (x : X) → length (xs ++ x ∷ []) ≡ 1 + length xs
  longer [] x = refl
  longer (y ∷ xs) x =
      let e = longer xs x in
      omega arith

  -- the index of an element in the reversed list
  from_end : (xs : List X) (n m : ℕ) (x : X) → slice_get xs n ≡ Some x → m + suc n ≡ length xs → slice_get (reverse xs) m ≡ Some x
  from_end [] n m x e h = cc
  from_end (y ∷ xs) zero m x e h =
      let last : m ≡ length (reverse xs) = omega (arith, length-reverse xs) in
      ap (slice_get (reverse (y ∷ xs))) last
      ∙ (ap (λ (l : List X). slice_get l (length (reverse xs))) (reverse-append (y ∷ []) xs) ∙ (newest (reverse xs) y ∙ e))
  from_end (y ∷ xs) (suc n) m x e h =
      ap (λ (l : List X). slice_get l m) (reverse-append (y ∷ []) xs) ∙ kept (reverse xs) (y ∷ []) m x (from_end xs n m x e (omega arith))

-- a mapped list, reversed
pub map_reverse : {X Y : Type 0} (f : X → Y) (xs : List X) → map f (reverse xs) ≡ reverse (map f xs)
map_reverse f [] = refl
map_reverse f (x ∷ xs) =
    ap (map f) (reverse-append (x ∷ []) xs)
    ∙ (map-append f (reverse xs) (x ∷ [])
    ∙ (ap (λ l. l ++ f x ∷ []) (map_reverse f xs) ∙ sym (reverse-append (f x ∷ []) (map f xs))))

-- growth is reflexive and transitive
pub nothing_more : (built : Built) → Grows 0 built built
nothing_more built = record { same = refl; counts = omega arith; keeps = λ flow has. has }

pub more_and_more : {old mid new : Built} (m n k : ℕ) → Grows m old mid → Grows n mid new → k ≡ m + n → Grows k old new
more_and_more m n k first second e =
    let f = first.counts in
    let s = second.counts in
    record {
      same = second.same ∙ first.same;
      counts = omega arith;
      keeps = λ flow has. first.keeps flow (second.keeps flow has);
    }

-- the same without counted points
pub grows_on : {old mid new : Built} → Grows 0 old mid → Grows 0 mid new → Grows 0 old new
grows_on first second = more_and_more 0 0 0 first second refl

module _ {X : Type 0} where
  -- the elements of a list are among those of a longer one, and so are those of its tail
  among_left : (xs ys : List X) → All (Contains (xs ++ ys)) xs
  among_left xs ys = All-weaker (Contains xs) (Contains (xs ++ ys)) (λ x in_xs. Contains-append_left xs ys x in_xs) xs (All-contains_itself xs)

  among_right : (xs ys : List X) → All (Contains (xs ++ ys)) ys
  among_right xs ys = All-weaker (Contains ys) (Contains (xs ++ ys)) (λ x in_ys. Contains-append_right xs ys x in_ys) ys (All-contains_itself ys)

  pub among_rest : (x : X) (xs : List X) → All (Contains (x ∷ xs)) xs
  among_rest x xs = among_right (x ∷ []) xs

  -- a list with one more element at its end
  among_last : (x : X) (xs ys : List X) → All (Contains (x ∷ (xs ++ ys))) (xs ++ (ys ++ x ∷ []))
  among_last x xs ys =
      let whole = x ∷ (xs ++ ys) in
      let rest = among_rest x (xs ++ ys) in
      let wider = λ (zs : List X) (some : All (Contains (xs ++ ys)) zs).
      All-weaker (Contains (xs ++ ys)) (Contains whole) (λ z in_rest. Contains-append_right (x ∷ []) (xs ++ ys) z in_rest) zs some in
      All-append (Contains whole) xs (ys ++ x ∷ []) (wider xs (among_left xs ys))
      (All-append (Contains whole) ys (x ∷ []) (wider ys (among_right xs ys))
      (All-cons (Contains whole) x [] (All-head (Contains whole) x (xs ++ ys) (All-contains_itself whole)) (All-nil (Contains whole))))

  -- a list with one more element in the middle
  among_middle : (x : X) (xs ys : List X) → All (Contains (x ∷ (xs ++ ys))) ((xs ++ x ∷ []) ++ ys)
  among_middle x xs ys =
      let whole = x ∷ (xs ++ ys) in
      let wider = λ (zs : List X) (some : All (Contains (xs ++ ys)) zs).
      All-weaker (Contains (xs ++ ys)) (Contains whole) (λ z in_rest. Contains-append_right (x ∷ []) (xs ++ ys) z in_rest) zs some in
      All-append (Contains whole) (xs ++ x ∷ []) ys
      (All-append (Contains whole) xs (x ∷ []) (wider xs (among_left xs ys))
      (All-cons (Contains whole) x [] (All-head (Contains whole) x (xs ++ ys) (All-contains_itself whole)) (All-nil (Contains whole))))
      (wider ys (among_right xs ys))

  -- a list, reversed
  among_reverse : (xs : List X) → All (Contains xs) (reverse xs)
  among_reverse [] = All-nil (Contains [])
  among_reverse (x ∷ xs) =
      let whole = x ∷ xs in
      let rest = All-weaker (Contains xs) (Contains whole) (λ z in_rest. Contains-append_right (x ∷ []) xs z in_rest) (reverse xs) (among_reverse xs) in
      subst (All (Contains whole)) (sym (reverse-append (x ∷ []) xs))
      (All-append (Contains whole) (reverse xs) (x ∷ []) rest
      (All-cons (Contains whole) x [] (All-head (Contains whole) x xs (All-contains_itself whole)) (All-nil (Contains whole))))

  -- two lists, the first of them reversed
  pub among_reversed : (xs ys : List X) → All (Contains (xs ++ ys)) (reverse xs ++ ys)
  among_reversed xs ys =
      let first = All-weaker (Contains xs) (Contains (xs ++ ys)) (λ x in_xs. Contains-append_left xs ys x in_xs) (reverse xs) (among_reverse xs) in
      All-append (Contains (xs ++ ys)) (reverse xs) ys first (among_right xs ys)

-- the same blocks add no control points
pub adds_nothing : {flow : Flow} {some : List Point} → AddsPoints flow [] some some
adds_nothing = record { keeps = λ points includes fit. fit }

-- one more block
pub pushed : (old : Built) (p : Point) → Seals old (record old { others = old.others ++ p ∷ [] }) (old.counted_points + length old.others) p
pushed old p = record {
  grows = record {
    same = refl;
    counts = omega arith;
    keeps = λ flow has. record {
      heads = has.heads;
      others = λ n q at. has.others n q (kept old.others (p ∷ []) n q at);
    };
  };
  is = λ flow has. has.others (length old.others) p (newest old.others p);
  adds = λ flow. adds_among (p ∷ blocks old) (old.heads ++ (old.others ++ p ∷ [])) (among_last p old.heads old.others);
  integers = λ count. integers_among (among_last p old.heads old.others);
}

-- one more block, which is that of a counted point
pub pushed_counted_point : (old : Built) (kind : PointKind) (at : Place) (p : Point) (number : ℕ) → number + suc (length old.heads) ≡ old.counted_points
    → SealsCountedPoint old (record old { heads = old.heads ++ does at 0 (Reach kind number) p ∷ [] }) kind at p
pushed_counted_point old kind at p number is_last = record {
  grows = record {
    same = refl;
    counts = longer old.heads (does at 0 (Reach kind number) p);
    keeps = λ flow has. record {
      heads = λ n counted_point q got. has.heads n counted_point q (kept old.heads (does at 0 (Reach kind number) p ∷ []) n q got);
      others = has.others;
    };
  };
  is = λ flow has counted_point e.
      let same : number ≡ counted_point = omega arith in
      has.heads (length old.heads) counted_point (does at 0 (Reach kind number) p) (newest old.heads (does at 0 (Reach kind number) p)) e
      ∙ ap (λ (k : ℕ). does at 0 (Reach kind k) p) same;
  adds = λ flow counted_point e.
      let same : number ≡ counted_point = omega arith in
      let head = does at 0 (Reach kind number) p in
      subst (λ (k : ℕ). AddsPoints flow [] (does at 0 (Reach kind k) p ∷ blocks old) ((old.heads ++ head ∷ []) ++ old.others)) same
      (adds_among (head ∷ blocks old) ((old.heads ++ head ∷ []) ++ old.others) (among_middle head old.heads old.others));
  integers = λ count.
      let head = does at 0 (Reach kind number) p in
      integers_past at 0 (Reach kind number) p tt (integers_among (among_middle head old.heads old.others));
}

-- a graph of all blocks that were built
pub whole : (heads others : List Point) (entry counted_points : ℕ) → length heads ≡ counted_points
    → Has (record { blocks = reverse heads ++ others; entry = entry; counted_points = counted_points })
    (record { counted_points = counted_points; heads = heads; others = others })
whole heads others entry counted_points all = record {
  heads = λ n counted_point p got e.
      let at : counted_point + suc n ≡ length heads = omega arith in
      ap (λ (q : Option Point). unwrap_or q no_point) (kept (reverse heads) others counted_point p (from_end heads n counted_point p got at));
  others = λ n p got.
      let at : counted_points + n ≡ length (reverse heads) + n = omega (arith, length-reverse heads) in
      ap (λ (q : Option Point). unwrap_or q no_point) (ap (slice_get (reverse heads ++ others)) at ∙ (following (reverse heads) others n ∙ got));
}

-- the same for a list and a block that are known to be equal to these
pub sealed : (old new : Built) (block : ℕ) (p : Point) → new ≡ record old { others = old.others ++ p ∷ [] }
    → block ≡ old.counted_points + length old.others → Seals old new block p
sealed old new block p is number =
    subst (λ (n : ℕ). Seals old new n p) (sym number)
    (subst (λ (b : Built). Seals old b (old.counted_points + length old.others) p) (sym is) (pushed old p))

pub sealed_counted_point : (old new : Built) (kind : PointKind) (at : Place) (p : Point) (number : ℕ)
    → new ≡ record old { heads = old.heads ++ does at 0 (Reach kind number) p ∷ [] } → number + suc (length old.heads) ≡ old.counted_points
    → SealsCountedPoint old new kind at p
sealed_counted_point old new kind at p number is last =
    subst (λ (b : Built). SealsCountedPoint old b kind at p) (sym is) (pushed_counted_point old kind at p number last)

-- a mapped list with one more element at its end
pub map_push : {X Y : Type 0} (f : X → Y) (xs new : List X) (x : X) (y : Y) → new ≡ xs ++ x ∷ [] → f x ≡ y → map f new ≡ map f xs ++ y ∷ []
map_push f xs new x y is seen = ap (map f) is ∙ (map-append f xs (x ∷ []) ∙ ap (λ z. map f xs ++ z ∷ []) seen)
