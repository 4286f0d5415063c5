-- Closed parentheses, counted from the end of a list: for `closings` and `without_attributes`.
use Rattle.std.proofs.Common.{◌≡◌, ℕ, zero, suc, ◌+◌, ◌-◌, ◌<◌, ◌≤◌, inl, inr, Bool, true, false, cond, List, [], ◌∷◌, ◌++◌}
use Rattle.std.proofs.Common.{length, length-append, append_assoc, take, drop, length-take, reverse, get_or, Option, Some, None, refl, sym, ap, ◌∙◌}
use Rattle.std.proofs.Common.{subst, arith}
use Rattle.std.specs.Prelude.{nat_le, nat_lt, is_some, option_map, unwrap_or, pred}
use Rattle.std.proofs.lemmas.List.{take-append-drop, reverse-append, length-reverse, take-append-le, take_more, get_or_append_left, get_or-append_right}
use Rattle.std.proofs.lemmas.Bool.{and_parts, cases_lt}
use Rattle.std.proofs.lemmas.Bool.Decides.{nat_tests}
use Rattle.cs_ast.specs.declared.token.Token.{Token}
use Rattle.cs_lexer.proofs.Turned.{turned_round, front_turned}
use Rattle.cs_lexer.specs.Attributes.{is_attribute, opens, closes, depth_after, length_to_close, surplus_before, surplus_of, begins_group, group_length}
use Rattle.cs_lexer.specs.Attributes.{has_group, without_attributes, IsClosings}

is_some_suc : (o : Option ℕ) → is_some (option_map suc o) ≡ is_some o
is_some_suc None = refl
is_some_suc (Some n) = refl

one_step : (opening closing : Bool) (depth surplus : ℕ)
    → nat_le (cond opening (suc (suc depth)) (cond closing depth (suc depth))) surplus
    ≡ nat_le (suc depth) (cond opening (pred surplus) (cond closing (suc surplus) surplus))
one_step true closing depth zero = grind (arith, nat_tests)
one_step true closing depth (suc surplus) = grind (arith, nat_tests)
one_step false true depth surplus = grind (arith, nat_tests)
one_step false false depth surplus = refl

-- so many open parentheses are closed exactly if the surplus of closing ones is at least as great
pub closed_by_surplus : (tokens : List Token) (depth : ℕ) → is_some (length_to_close tokens depth) ≡ nat_le depth (surplus_of tokens)
closed_by_surplus tokens zero = grind (arith, nat_tests)
closed_by_surplus [] (suc depth) = grind (arith, nat_tests)
closed_by_surplus (token ∷ tokens) (suc depth) =
    is_some_suc (length_to_close tokens (depth_after token (suc depth))) ∙ closed_by_surplus tokens (depth_after token (suc depth))
    ∙ one_step (opens token.kind) (closes token.kind) depth (surplus_of tokens)

-- the surplus and the results, for the first of the reversed tokens
pub record Counted (reversed : List Token) (index surplus : ℕ) (made : List Bool) : Type 0 where
  pub surplus_is : surplus ≡ surplus_of (reverse (take index reversed))
  pub length_is : length made ≡ suc index
  pub each : (count : ℕ) → count ≤ index → get_or made count false ≡ is_some (length_to_close (reverse (take count reversed)) 1)
  pub low : surplus ≤ index

one_lower : (opening closing : Bool) (surplus : ℕ) → cond opening (pred surplus) (cond closing (suc surplus) surplus) ≤ suc surplus
one_lower true closing zero = omega arith
one_lower true closing (suc surplus) = omega arith
one_lower false true surplus = omega arith
one_lower false false surplus = omega arith

one_answer : (made more : List Bool) (index count : ℕ) (answer : Bool) → length made ≡ suc index → more ≡ made ++ answer ∷ []
    → count ≡ suc index → get_or more count false ≡ answer
one_answer made more index count answer size is at =
    rw (is, at) (get_or-append_right made (answer ∷ []) (suc index) (suc index) false size (omega arith)
    ∙ (let none : suc index - suc index ≡ 0 = omega arith in rw none refl))

pub count_more : (reversed : List Token) (index surplus later : ℕ) (made more : List Bool) (token : Token) → Counted reversed index surplus made
    → index < length reversed → token ≡ get_or reversed index token → later ≡ surplus_before token surplus → more ≡ made ++ nat_lt 0 later ∷ []
    → Counted reversed (index + 1) later more
count_more reversed index surplus later made more token so_far within item step pushed =
    let cut : take (index + 1) reversed ≡ take index reversed ++ token ∷ [] = take_more reversed index token within
    ∙ ap (λ t. take index reversed ++ t ∷ []) (sym item) in
    let turned : reverse (take (index + 1) reversed) ≡ token ∷ reverse (take index reversed) = ap reverse cut
    ∙ reverse-append (take index reversed) (token ∷ []) in
    let now : later ≡ surplus_of (reverse (take (index + 1) reversed)) = step ∙ ap (λ n. surplus_before token n) so_far.surplus_is
    ∙ sym (ap surplus_of turned) in
    let answer : nat_lt 0 later ≡ is_some (length_to_close (reverse (take (index + 1) reversed)) 1) = ap (λ n. nat_le 1 n) now
    ∙ sym (closed_by_surplus (reverse (take (index + 1) reversed)) 1) in
    record {
      surplus_is = now;
      length_is = omega (arith, so_far.length_is, ap length pushed, length-append made (nat_lt 0 later ∷ []));
      each = λ count below. elim (cases_lt index count) [
        | inl above ↦ (let last : count ≡ suc index = omega arith in
            one_answer made more index count (nat_lt 0 later) so_far.length_is pushed last ∙ answer
            ∙ ap (λ n. is_some (length_to_close (reverse (take n reversed)) 1)) (let same : index + 1 ≡ count = omega arith in same))
        | inr before ↦ rw pushed (get_or_append_left made (nat_lt 0 later ∷ []) false count (omega (arith, so_far.length_is)) ∙ so_far.each count before)
      ];
      low = omega (arith, so_far.low, step, one_lower (opens token.kind) (closes token.kind) surplus);
    }

-- the remaining tokens, in reverse order, and those that are kept so far
pub record Sifted (tokens left : List Token) (closings : List Bool) (depth : ℕ) (kept : List Token) : Type 0 where
  pub closed : IsClosings left closings
  pub skipped : ℕ
  pub to_close : length_to_close (reverse left) depth ≡ Some skipped
  pub rest : kept ++ without_attributes skipped (reverse left) ≡ without_attributes 0 tokens
  pub bounded : length left + depth ≤ length tokens + 1

-- the results also hold for fewer of the reversed tokens
closings_front : (front others : List Token) (closings : List Bool) → IsClosings (front ++ others) closings → IsClosings front closings
closings_front front others closings h = record {
  enough = omega (arith, h.enough, length-append front others);
  each = λ count below. h.each count (omega (arith, below, length-append front others))
      ∙ ap (λ ts. is_some (length_to_close (reverse ts) 1)) (take-append-le count front others below);
}

-- a parenthesis that closes after a token and others closes after these others
pub record ClosesIn (o : Option ℕ) (skipped : ℕ) : Type 0 where
  pub fewer : ℕ
  pub is : o ≡ Some fewer
  pub one : skipped ≡ suc fewer

one_fewer : (o : Option ℕ) (skipped : ℕ) → option_map suc o ≡ Some skipped → ClosesIn o skipped
one_fewer None skipped h = absurd cc
one_fewer (Some n) skipped h = record { fewer = n; is = refl; one = cc }

one_deeper : (opening closing : Bool) (depth : ℕ) → cond opening (suc (suc depth)) (cond closing depth (suc depth)) ≤ suc (suc depth)
one_deeper true closing depth = omega arith
one_deeper false true depth = omega arith
one_deeper false false depth = omega arith

-- a token of an attribute is dropped
pub sift_skipped : (tokens old left : List Token) (closings : List Bool) (depth later : ℕ) (kept : List Token) (token : Token)
    → Sifted tokens old closings (suc depth) kept → old ≡ left ++ token ∷ [] → later ≡ depth_after token (suc depth)
    → Sifted tokens left closings later kept
sift_skipped tokens old left closings depth later kept token so_far is step =
    let turned = turned_round old left token is in
    let fewer = one_fewer (length_to_close (reverse left) (depth_after token (suc depth))) so_far.skipped (rw turned at so_far.to_close) in
    record {
      closed = closings_front left (token ∷ []) closings (subst (λ ts. IsClosings ts closings) is so_far.closed);
      skipped = fewer.fewer;
      to_close = ap (λ d. length_to_close (reverse left) d) step ∙ fewer.is;
      rest = sym (ap (λ ts. kept ++ without_attributes so_far.skipped ts) turned
          ∙ ap (λ n. kept ++ without_attributes n (token ∷ reverse left)) fewer.one) ∙ so_far.rest;
      bounded = omega (arith, so_far.bounded, ap length is, length-append left (token ∷ []), step, one_deeper (opens token.kind) (closes token.kind) depth);
    }

some_zero : (skipped : ℕ) → ◌≡◌ {A = Option ℕ} (Some 0) (Some skipped) → skipped ≡ 0
some_zero skipped h = cc

-- outside of attributes the next token decides
next_token : (tokens old left : List Token) (closings : List Bool) (kept : List Token) (token : Token) → Sifted tokens old closings 0 kept
    → old ≡ left ++ token ∷ []
    → kept ++ cond (has_group token (reverse left)) (without_attributes (group_length (reverse left)) (reverse left))
    (token ∷ without_attributes 0 (reverse left)) ≡ without_attributes 0 tokens
next_token tokens old left closings kept token so_far is =
    sym (ap (λ n. kept ++ without_attributes n (reverse old)) (some_zero so_far.skipped so_far.to_close)
    ∙ ap (λ ts. kept ++ without_attributes 0 ts) (turned_round old left token is)) ∙ so_far.rest

-- a token that begins no attribute is kept
pub sift_kept : (tokens old left : List Token) (closings : List Bool) (kept more : List Token) (token : Token) → Sifted tokens old closings 0 kept
    → old ≡ left ++ token ∷ [] → has_group token (reverse left) ≡ false → more ≡ kept ++ token ∷ [] → Sifted tokens left closings 0 more
sift_kept tokens old left closings kept more token so_far is alone pushed =
    record {
      closed = closings_front left (token ∷ []) closings (subst (λ ts. IsClosings ts closings) is so_far.closed);
      skipped = 0;
      to_close = refl;
      rest = ap (λ ts. ts ++ without_attributes 0 (reverse left)) pushed ∙ append_assoc kept (token ∷ []) (without_attributes 0 (reverse left))
          ∙ sym (ap (λ t. kept ++ cond t (without_attributes (group_length (reverse left)) (reverse left)) (token ∷ without_attributes 0 (reverse left)))
          alone) ∙ next_token tokens old left closings kept token so_far is;
      bounded = omega (arith, so_far.bounded, ap length is, length-append left (token ∷ []));
    }

-- the reversed tokens that begin a group, without the opening parenthesis
pub record GroupOf (left : List Token) : Type 0 where
  pub opening : Token
  pub inside : List Token
  pub count : ℕ
  pub is : reverse left ≡ opening ∷ inside
  pub closed : length_to_close inside 1 ≡ Some count

some_count : (o : Option ℕ) → is_some o ≡ true → (count : ℕ) × (o ≡ Some count)
some_count None h = absurd cc
some_count (Some n) h = (n, refl)

group_of_list : (left list : List Token) → reverse left ≡ list → begins_group list ≡ true → GroupOf left
group_of_list left [] is h = absurd cc
group_of_list left (token ∷ tokens) is h =
    let found = some_count (length_to_close tokens 1) (and_parts (opens token.kind) (is_some (length_to_close tokens 1)) h).1 in
    record { opening = token; inside = tokens; count = found.0; is = is; closed = found.1 }

front_of : (left : List Token) (group : GroupOf left) → reverse (take (length left - 1) left) ≡ group.inside
front_of left group = front_turned left group.inside group.opening group.is

front_is : (left : List Token) → take (length left - 1) left ++ drop (length left - 1) left ≡ left
front_is left = take-append-drop (length left - 1) left

-- an attribute's word and the parenthesis after it are dropped
pub sift_group : (tokens old left inner : List Token) (closings : List Bool) (kept : List Token) (token : Token) → Sifted tokens old closings 0 kept
    → old ≡ left ++ token ∷ [] → has_group token (reverse left) ≡ true → inner ≡ take (length left - 1) left
    → Sifted tokens inner closings 1 kept
sift_group tokens old left inner closings kept token so_far is begins cut =
    let group = group_of_list left (reverse left) refl (and_parts (is_attribute token.kind) (begins_group (reverse left)) begins).1 in
    let turned : reverse inner ≡ group.inside = ap reverse cut ∙ front_of left group in
    let counted : group_length (reverse left) ≡ suc group.count = ap group_length group.is ∙ ap (λ o. suc (unwrap_or o 0)) group.closed in
    let outer = closings_front left (token ∷ []) closings (subst (λ ts. IsClosings ts closings) is so_far.closed) in
    let some : 0 < length left = omega (arith, ap length group.is, length-reverse left) in
    record {
      closed = subst (λ ts. IsClosings ts closings) (sym cut)
          (closings_front (take (length left - 1) left) (drop (length left - 1) left) closings
          (subst (λ ts. IsClosings ts closings) (sym (front_is left)) outer));
      skipped = group.count;
      to_close = ap (λ ts. length_to_close ts 1) turned ∙ group.closed;
      rest = ap (λ ts. kept ++ without_attributes group.count ts) turned
          ∙ sym (ap (λ n. kept ++ without_attributes n (reverse left)) counted ∙ ap (λ ts. kept ++ without_attributes (suc group.count) ts) group.is)
          ∙ sym (ap (λ t. kept ++ cond t (without_attributes (group_length (reverse left)) (reverse left)) (token ∷ without_attributes 0 (reverse left)))
          begins) ∙ next_token tokens old left closings kept token so_far is;
      bounded = omega (arith, so_far.bounded, ap length is, length-append left (token ∷ []), ap length cut, length-take (length left - 1) left);
    }

-- the same, by tests on the depth
pub in_group : (tokens old left : List Token) (closings : List Bool) (depth later : ℕ) (kept : List Token) (token : Token) → 0 < depth
    → Sifted tokens old closings depth kept → old ≡ left ++ token ∷ [] → later ≡ depth_after token depth → Sifted tokens left closings later kept
in_group tokens old left closings zero later kept token inside so_far is step = absurd (omega arith)
in_group tokens old left closings (suc depth) later kept token inside so_far is step =
    sift_skipped tokens old left closings depth later kept token so_far is step

none_open : (depth : ℕ) → depth ≤ 0 → depth ≡ 0
none_open depth h = omega arith

pub outside : (tokens old : List Token) (closings : List Bool) (depth : ℕ) (kept : List Token) → depth ≤ 0 → Sifted tokens old closings depth kept
    → Sifted tokens old closings 0 kept
outside tokens old closings depth kept h so_far = subst (λ d. Sifted tokens old closings d kept) (none_open depth h) so_far

pub still_outside : (tokens left : List Token) (closings : List Bool) (depth : ℕ) (kept : List Token) → depth ≤ 0 → Sifted tokens left closings 0 kept
    → Sifted tokens left closings depth kept
still_outside tokens left closings depth kept h so_far = subst (λ d. Sifted tokens left closings d kept) (sym (none_open depth h)) so_far
