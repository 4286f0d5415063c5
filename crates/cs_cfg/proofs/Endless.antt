-- More jumps from a spot than the function has blocks never end: for `Code::settled`.
use Rattle.std.specs.Prelude.{◌⊎◌}
use Rattle.std.proofs.Common.{◌≡◌, ℕ, zero, suc, ◌+◌, ◌-◌, ◌<◌, ◌≤◌, nat_lt, Bool, true, false, Option, Some, None, inl, inr, refl}
use Rattle.std.proofs.Common.{sym, ap, ◌∙◌, subst, arith, length}
use Rattle.std.specs.Prelude.{option_map, unwrap_or, slice_get}
use Rattle.std.specs.Option.{option_and_then}
use Rattle.std.proofs.lemmas.Bool.Decides.{nat_tests}
use Rattle.std.proofs.lemmas.Option.{slice_get_within}
use Rattle.cs_cfg.specs.declared.code.Spot.{Spot}
use Rattle.cs_cfg.specs.Graph.{Point, Flow, Code, no_point, flow_of}
use Rattle.cs_cfg.specs.Spots.{point_in, point_of, begins, block_count}
use Rattle.cs_cfg.specs.Instructions.{jump_from, jump_at, JumpsTo, here, jumps, JumpsForEver}

-- how many of the numbers below one have a property
abbrev bit : Bool → ℕ
bit true = 1
bit false = 0

abbrev count : (ℕ → Bool) → ℕ → ℕ
count p zero = 0
count p (suc n) = bit (p n) + count p n

count_most : (p : ℕ → Bool) (n : ℕ) → count p n ≤ n
count_most p zero = omega arith
count_most p (suc n) = added (p n) (count_most p n)
  where
    added : (b : Bool) → count p n ≤ n → bit b + count p n ≤ suc n
    added true l = omega arith
    added false l = omega arith

-- a number with the property is counted
counted : (p : ℕ → Bool) (n b : ℕ) → b < n → p b ≡ true → 1 ≤ count p n
counted p zero b l h = absurd (omega arith)
counted p (suc n) b l h = decided (λ below. counted p n b below h) (nat_lt b n) refl
  where
    more : (first : Bool) → 1 ≤ count p n → 1 ≤ bit first + count p n
    more true l = omega arith
    more false l = omega arith

    decided : (b < n → 1 ≤ count p n) → (below : Bool) → nat_lt b n ≡ below → 1 ≤ bit (p n) + count p n
    decided rest true e = more (p n) (rest (grind (arith, nat_tests)))
    decided rest false e =
        let same : b ≡ n = grind (arith, nat_tests) in
        let one : p n ≡ true = subst (λ k. p k ≡ true) same h in
        subst (λ (first : Bool). 1 ≤ bit first + count p n) (sym one) (omega arith)

module _ (p q : ℕ → Bool) (less : (b : ℕ) → q b ≡ true → p b ≡ true) where
  -- a narrower property has no more numbers
  fewer : (n : ℕ) → count q n ≤ count p n
  fewer zero = omega arith
  fewer (suc n) = both (q n) (p n) (less n) (fewer n)
    where
      both : (one other : Bool) → (one ≡ true → other ≡ true) → count q n ≤ count p n → bit one + count q n ≤ bit other + count p n
      both true true h l = omega arith
      both true false h l = let wrong : false ≡ true = h refl in absurd cc
      both false true h l = omega arith
      both false false h l = omega arith

  -- and fewer, unless it is as wide
  drops : (n : ℕ) → count q n < count p n ⊎ ((b : ℕ) → b < n → p b ≡ true → q b ≡ true)
  drops zero = inr (λ b l h. absurd (omega arith))
  drops (suc n) = both (q n) (p n) refl refl (drops n)
    where
      wide : q n ≡ p n → ((b : ℕ) → b < n → p b ≡ true → q b ≡ true) → (b : ℕ) → b < suc n → p b ≡ true → q b ≡ true
      wide same rest b l h = decided (nat_lt b n) refl
        where
          decided : (below : Bool) → nat_lt b n ≡ below → q b ≡ true
          decided true e = rest b (grind (arith, nat_tests)) h
          decided false e =
              let last : b ≡ n = grind (arith, nat_tests) in
              subst (λ k. q k ≡ true) (sym last) (same ∙ subst (λ k. p k ≡ true) last h)

      both : (one other : Bool) → q n ≡ one → p n ≡ other → count q n < count p n ⊎ ((b : ℕ) → b < n → p b ≡ true → q b ≡ true)
          → bit one + count q n < bit other + count p n ⊎ ((b : ℕ) → b < suc n → p b ≡ true → q b ≡ true)
      both true true e f (inl l) = inl (omega arith)
      both true true e f (inr rest) = inr (wide (e ∙ sym f) rest)
      both true false e f found = let wrong : p n ≡ true = less n e in absurd cc
      both false true e f found = let l = fewer n in inl (omega arith)
      both false false e f (inl l) = inl (omega arith)
      both false false e f (inr rest) = inr (wide (e ∙ sym f) rest)

-- a partial function on numbers, which is defined only below a bound
module _ (next : ℕ → Option ℕ) (bound : ℕ) (inside : (b c : ℕ) → next b ≡ Some c → b < bound) where
  -- it can be applied so many times from a number
  abbrev lasts_with : Option Bool → Bool
  lasts_with None = false
  lasts_with (Some more) = more

  abbrev lasts : ℕ → ℕ → Bool
  lasts zero b = true
  lasts (suc times) b = lasts_with (option_map (lasts times) (next b))

  -- what it leads to, once more
  record Onward (times b : ℕ) : Type 0 where
    to : ℕ
    leads : next b ≡ Some to
    rest : lasts times to ≡ true

  onward : (times b : ℕ) → lasts (suc times) b ≡ true → Onward times b
  onward times b h = found (next b) refl h
    where
      found : (to : Option ℕ) → next b ≡ to → lasts_with (option_map (lasts times) to) ≡ true → Onward times b
      found None e h = cc
      found (Some c) e h = record { to = c; leads = e; rest = h }

  back : (times b c : ℕ) → next b ≡ Some c → lasts times c ≡ true → lasts (suc times) b ≡ true
  back times b c e h = ap (λ to. lasts_with (option_map (lasts times) to)) e ∙ h

  -- then also one time fewer
  once_less : (times b : ℕ) → lasts (suc times) b ≡ true → lasts times b ≡ true
  once_less zero b h = refl
  once_less (suc times) b h =
      let on = onward (suc times) b h in
      back times b on.to on.leads (once_less times on.to on.rest)

  less_often : (more times often b : ℕ) → often ≡ more + times → lasts often b ≡ true → lasts times b ≡ true
  less_often zero times often b e h = let same : often ≡ times = omega arith in subst (λ n. lasts n b ≡ true) same h
  less_often (suc more) times often b e h =
      let same : often ≡ suc (more + times) = omega arith in
      less_often more times (more + times) b refl (once_less (more + times) b (subst (λ n. lasts n b ≡ true) same h))

  -- what can be applied so many times can be applied once more
  abbrev Steady : ℕ → Type 0
  Steady times = (b : ℕ) → lasts times b ≡ true → lasts (suc times) b ≡ true

  steady_on : (times : ℕ) → Steady times → Steady (suc times)
  steady_on times steady b h =
      let on = onward times b h in
      back (suc times) b on.to on.leads (steady on.to on.rest)

  always : (more times often : ℕ) → often ≡ more + times → Steady times → Steady often
  always zero times often e steady = let same : times ≡ often = omega arith in subst Steady same steady
  always (suc more) times often e steady =
      let same : suc (more + times) ≡ often = omega arith in
      subst Steady same (steady_on (more + times) (always more times (more + times) refl steady))

  for_ever : (more times often b : ℕ) → often ≡ more + times → Steady times → lasts times b ≡ true → lasts often b ≡ true
  for_ever zero times often b e steady h = let same : times ≡ often = omega arith in subst (λ n. lasts n b ≡ true) same h
  for_ever (suc more) times often b e steady h =
      let same : suc (more + times) ≡ often = omega arith in
      subst (λ n. lasts n b ≡ true) same
      (always more times (more + times) refl steady b (for_ever more times (more + times) b refl steady h))

  -- it is steady after so many times, or few numbers remain from which it can be applied so many times
  found : (times : ℕ) → ((fewer : ℕ) × (fewer ≤ times) × Steady (suc fewer)) ⊎ (count (lasts (suc times)) bound + times ≤ bound)
  found zero = let most = count_most (lasts 1) bound in inr (omega arith)
  found (suc times) = after (found times) (drops (lasts (suc times)) (lasts (suc (suc times))) (once_less (suc times)) bound)
    where
      steady : ((b : ℕ) → b < bound → lasts (suc times) b ≡ true → lasts (suc (suc times)) b ≡ true) → Steady (suc times)
      steady same b h =
          let on = onward times b h in
          same b (inside b on.to on.leads) h

      after : ((fewer : ℕ) × (fewer ≤ times) × Steady (suc fewer)) ⊎ (count (lasts (suc times)) bound + times ≤ bound) →
          count (lasts (suc (suc times))) bound < count (lasts (suc times)) bound
          ⊎ ((b : ℕ) → b < bound → lasts (suc times) b ≡ true → lasts (suc (suc times)) b ≡ true)
          → ((fewer : ℕ) × (fewer ≤ suc times) × Steady (suc fewer)) ⊎ (count (lasts (suc (suc times))) bound + suc times ≤ bound)
      after (inl it) other = let l = it.1 in inl (it.0, omega arith, it.2)
      after (inr few) (inl l) = inr (omega arith)
      after (inr few) (inr same) = inl (times, omega arith, steady same)

  -- what can be applied more times than there are numbers below the bound can be applied any number of times
  endless : (b : ℕ) → lasts (suc bound) b ≡ true → (times : ℕ) → lasts times b ≡ true
  endless b h times = decided (found bound)
    where
      decided : ((fewer : ℕ) × (fewer ≤ bound) × Steady (suc fewer)) ⊎ (count (lasts (suc bound)) bound + bound ≤ bound) → lasts times b ≡ true
      decided (inl it) =
          let l = it.1 in
          let so_often : lasts (suc it.0) b ≡ true = less_often (bound - it.0) (suc it.0) (suc bound) b (omega arith) h in
          let more = for_ever times (suc it.0) (times + suc it.0) b refl it.2 so_often in
          less_often (suc it.0) times (times + suc it.0) b (omega arith) more
      decided (inr few) =
          let on = onward bound b h in
          let one = counted (lasts (suc bound)) bound b (inside b on.to on.leads) h in
          absurd (omega arith)

-- so many jumps lead from one spot to another
pub data Hops (code : Code) (spot : Spot) : Spot → ℕ → Type 0 where
  none : Hops code spot spot 0
  more : {middle last : Spot} {n m : ℕ} → Hops code spot middle n → jump_at code middle ≡ Some last → m ≡ n + 1 → Hops code spot last m

-- the point at which a block of a graph begins
abbrev start_of : ℕ → Option Flow → Point
start_of block flow = unwrap_or (option_and_then (λ one. point_in one 0) (option_and_then (λ (f : Flow). slice_get f.blocks block) flow)) no_point

module _ (code : Code) where
  -- one more jump
  jumps_on : {spot middle last : Spot} → JumpsTo code spot middle → jump_at code middle ≡ Some last → JumpsTo code spot last
  jumps_on here e = jumps e here
  jumps_on (jumps f way) e = jumps f (jumps_on way e)

  pub jumps_by : {spot last : Spot} {n : ℕ} → Hops code spot last n → JumpsTo code spot last
  jumps_by none = here
  jumps_by (more way e f) = jumps_on (jumps_by way) e

  -- a jump from a spot, by its block
  pub record Jump (spot last : Spot) : Type 0 where
    pub block : ℕ
    pub from : jump_from (point_of code spot) ≡ Some block
    pub is : last ≡ begins spot.function block

  pub jump_parts : (spot last : Spot) → jump_at code spot ≡ Some last → Jump spot last
  jump_parts spot last e = found (jump_from (point_of code spot)) refl e
    where
      found : (block : Option ℕ) → jump_from (point_of code spot) ≡ block → option_map (begins spot.function) block ≡ Some last → Jump spot last
      found None f e = cc
      found (Some block) f e =
          let same : begins spot.function block ≡ last = cc in
          record { block = block; from = f; is = sym same }

  module _ (function : ℕ) where
    -- the block to which a block of the function jumps at once
    abbrev jump : ℕ → Option ℕ
    jump block = jump_from (point_of code (begins function block))

    inside : (block next : ℕ) → jump block ≡ Some next → block < block_count code function
    inside block next e = in_flow (flow_of code function) e
      where
        in_blocks : (flow : Flow) (one : Option Point) → slice_get flow.blocks block ≡ one
            → jump_from (unwrap_or (option_and_then (λ one. point_in one 0) one) no_point) ≡ Some next → block < length flow.blocks
        in_blocks flow None f e = cc
        in_blocks flow (Some one) f e = slice_get_within flow.blocks block one f

        in_flow : (flow : Option Flow) → jump_from (start_of block flow) ≡ Some next
            → block < unwrap_or (option_map (λ (f : Flow). length f.blocks) flow) 0
        in_flow None e = cc
        in_flow (Some flow) e = in_blocks flow (slice_get flow.blocks block) refl e

    abbrev follows : ℕ → ℕ → Bool
    follows times block = lasts jump (block_count code function) inside times block

    -- so many jumps follow from a spot
    abbrev follows_at : ℕ → Spot → Bool
    follows_at zero spot = true
    follows_at (suc times) spot = lasts_with jump (block_count code function) inside (option_map (follows times) (jump_from (point_of code spot)))

    from_block : (times block : ℕ) → follows times block ≡ true → follows_at times (begins function block) ≡ true
    from_block zero block h = refl
    from_block (suc times) block h = h

    to_block : (times block : ℕ) → follows_at times (begins function block) ≡ true → follows times block ≡ true
    to_block zero block h = refl
    to_block (suc times) block h = h

    -- one jump before others
    hop_back : (times : ℕ) (spot last : Spot) → spot.function ≡ function → jump_at code spot ≡ Some last → follows_at times last ≡ true
        → follows_at (suc times) spot ≡ true
    hop_back times spot last own e h =
        let one = jump_parts spot last e in
        let same : last ≡ begins function one.block = one.is ∙ ap (λ f. begins f one.block) own in
        let rest : follows times one.block ≡ true = to_block times one.block (subst (λ s. follows_at times s ≡ true) same h) in
        ap (λ to. lasts_with jump (block_count code function) inside (option_map (follows times) to)) one.from ∙ rest

    own_function : {spot last : Spot} {n : ℕ} → Hops code spot last n → spot.function ≡ function → last.function ≡ function
    own_function none own = own
    own_function (more {middle = middle} {last = last} way e f) own =
        let one = jump_parts middle last e in
        ap (λ (s : Spot). s.function) one.is ∙ own_function way own

    chain : {spot last : Spot} {n : ℕ} (times all : ℕ) → Hops code spot last n → all ≡ n + times → spot.function ≡ function
        → follows_at times last ≡ true
        → follows_at all spot ≡ true
    chain {spot = spot} times all none sum own h =
        let same : times ≡ all = omega arith in
        subst (λ n. follows_at n spot ≡ true) same h
    chain {spot = spot} times all (more {middle = middle} {last = last} {n = n} way e f) sum own h =
        let total : all ≡ n + suc times = omega arith in
        chain (suc times) all way total own (hop_back times middle last (own_function way own) e h)

    -- any number of jumps follow from a spot
    abbrev Always : Spot → Type 0
    Always spot = (times : ℕ) → follows_at times spot ≡ true

    -- a jump, and the jumps after it
    record Hop (times : ℕ) (spot : Spot) : Type 0 where
      to : ℕ
      leads : jump_from (point_of code spot) ≡ Some to
      rest : follows times to ≡ true

    hop : (times : ℕ) (spot : Spot) → follows_at (suc times) spot ≡ true → Hop times spot
    hop times spot h = found (jump_from (point_of code spot)) refl h
      where
        found : (to : Option ℕ) → jump_from (point_of code spot) ≡ to
            → lasts_with jump (block_count code function) inside (option_map (follows times) to) ≡ true → Hop times spot
        found None e h = cc
        found (Some block) e h = record { to = block; leads = e; rest = h }

    always_on : {spot last : Spot} → spot.function ≡ function → Always spot → JumpsTo code spot last
        → (next : Spot) × (jump_at code last ≡ Some next)
    always_on {spot = spot} own always here =
        let one = hop 0 spot (always 1) in
        (begins spot.function one.to, ap (option_map (begins spot.function)) one.leads)
    always_on {spot = spot} own always (jumps {next = next} e way) =
        let one = jump_parts spot next e in
        let same : next ≡ begins function one.block = one.is ∙ ap (λ f. begins f one.block) own in
        let rest : (times : ℕ) → follows_at times next ≡ true = λ times.
        let after = hop times spot (always (suc times)) in
        let to_same : Some after.to ≡ Some one.block = sym after.leads ∙ one.from in
        let block_same : after.to ≡ one.block = cc in
        subst (λ s. follows_at times s ≡ true) (sym same) (from_block times one.block (subst (λ b. follows times b ≡ true) block_same after.rest)) in
        always_on (ap (λ (s : Spot). s.function) same) rest way

    -- more jumps than there are blocks
    pub jumps_for_ever : {spot last : Spot} (n : ℕ) → Hops code spot last n → spot.function ≡ function → block_count code function + 2 ≤ n
        → JumpsForEver code spot
    jumps_for_ever {spot = spot} n way own many last to =
        let so_often : follows_at n spot ≡ true = chain 0 n way (omega arith) own refl in
        always_on own (from_first so_often) to
      where
        from_first : follows_at n spot ≡ true → Always spot
        from_first so_often zero = refl
        from_first so_often (suc times) =
            let less : n ≡ suc (n - 1) = omega arith in
            let one = hop (n - 1) spot (subst (λ k. follows_at k spot ≡ true) less so_often) in
            let enough = less_often jump (block_count code function) inside (n - 1 - (block_count code function + 1)) (suc (block_count code function)) (n - 1)
            one.to (omega arith) one.rest in
            let ever = endless jump (block_count code function) inside one.to enough times in
            ap (λ to. lasts_with jump (block_count code function) inside (option_map (follows times) to)) one.leads ∙ ever
