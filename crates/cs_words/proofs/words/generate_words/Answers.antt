use Rattle.std.proofs.Common.{◌≡◌, ◌<◌, ◌∷◌, length, ap, ◌∙◌, arith}
use Rattle.std.specs.Prelude.{ℕ, List}
use Rattle.std.proofs.lemmas.Bool.Decides.{nat_tests}
use Rattle.cs_words.specs.declared.verb.Verb.TheVariants as verbs
use Rattle.cs_words.specs.Meaning.{words_text}
use Rattle.cs_words.proofs.WordLists.{first_text, rest_within, seed_missing, seed_refused, size_missing, no_size, third_refused, generated}
use Rattle.cs_words.proofs.words.generate_words.Goals as goal

pub returns-in_default : goal.returns-in_default
returns-in_default c = seed_missing c.args.words.now c.in_ok-found.found.rest.now c.in_ok-found.found.settings c.refused.result c.in_ok-found.ensures
    c.in_default.ensures.cases c.refused.ensures

pub refused-requires-in_default-number_in : goal.refused-requires-in_default-number_in
refused-requires-in_default-number_in c =
    rest_within verbs.Generate c.args.words.now c.in_ok-found.found.rest.now c.in_ok-found.found.settings c.in_ok-found.ensures

pub returns-in_default-number_in : goal.returns-in_default-number_in
returns-in_default-number_in c =
    let first : words_text c.in_ok-found.found.rest.now ≡ c.as_bytes.result.now ∷ words_text c.in-Some.others.now =
    first_text c.in_ok-found.found.rest.now c.in-Some.seed.now c.in-Some.others.now c.as_bytes.result.now c.in-Some.ensures.cases.0
    c.as_bytes.ensures.value in
    seed_refused c.args.words.now c.in_ok-found.found.rest.now c.in-Some.others.now c.in_ok-found.found.settings c.as_bytes.result.now
    c.refused-in_default-number_in.result c.in_ok-found.ensures first c.in_default-number_in.ensures c.refused-in_default-number_in.ensures

pub returns-in_default-split_first : goal.returns-in_default-split_first
returns-in_default-split_first c =
    let first : words_text c.in_ok-found.found.rest.now ≡ c.as_bytes.result.now ∷ words_text c.in-Some.others.now =
    first_text c.in_ok-found.found.rest.now c.in-Some.seed.now c.in-Some.others.now c.as_bytes.result.now c.in-Some.ensures.cases.0
    c.as_bytes.ensures.value in
    size_missing c.args.words.now c.in_ok-found.found.rest.now c.in-Some.others.now c.in_ok-found.found.settings c.as_bytes.result.now
    c.in-Some-number_in.seed c.refused-in_default-split_first.result c.in_ok-found.ensures first c.in-Some-number_in.ensures
    c.in_default-split_first.ensures.cases c.refused-in_default-split_first.ensures

pub returns-in_default-number_in-2 : goal.returns-in_default-number_in-2
returns-in_default-number_in-2 c =
    let first : words_text c.in_ok-found.found.rest.now ≡ c.as_bytes.result.now ∷ words_text c.in-Some.others.now =
    first_text c.in_ok-found.found.rest.now c.in-Some.seed.now c.in-Some.others.now c.as_bytes.result.now c.in-Some.ensures.cases.0
    c.as_bytes.ensures.value in
    let second : words_text c.in-Some.others.now ≡ c.as_bytes-2.result.now ∷ words_text c.in-Some-split_first.more.now =
    first_text c.in-Some.others.now c.in-Some-split_first.size.now c.in-Some-split_first.more.now c.as_bytes-2.result.now
    c.in-Some-split_first.ensures.cases.0 c.as_bytes-2.ensures.value in
    no_size c.args.words.now c.in_ok-found.found.rest.now c.in-Some.others.now c.in-Some-split_first.more.now c.in_ok-found.found.settings
    c.as_bytes.result.now c.as_bytes-2.result.now c.in-Some-number_in.seed c.refused-in_default-number_in-2.result c.in_ok-found.ensures first
    c.in-Some-number_in.ensures second c.in_default-number_in-2.ensures c.refused-in_default-number_in-2.ensures

pub returns-then-not-is_empty : goal.returns-then-not-is_empty
returns-then-not-is_empty c =
    let some : 0 < length c.in-Some-split_first.more.now = grind (arith, nat_tests) in
    let first : words_text c.in_ok-found.found.rest.now ≡ c.as_bytes.result.now ∷ words_text c.in-Some.others.now =
    first_text c.in_ok-found.found.rest.now c.in-Some.seed.now c.in-Some.others.now c.as_bytes.result.now c.in-Some.ensures.cases.0
    c.as_bytes.ensures.value in
    let second : words_text c.in-Some.others.now ≡ c.as_bytes-2.result.now ∷ words_text c.in-Some-split_first.more.now =
    first_text c.in-Some.others.now c.in-Some-split_first.size.now c.in-Some-split_first.more.now c.as_bytes-2.result.now
    c.in-Some-split_first.ensures.cases.0 c.as_bytes-2.ensures.value in
    third_refused c.args.words.now c.in_ok-found.found.rest.now c.in-Some-split_first.more.now c.in_ok-found.found.settings c.as_bytes.result.now
    c.as_bytes-2.result.now c.in-Some-number_in.seed c.in-Some-number_in-2.size c.refused-then-not-is_empty.result c.in_ok-found.ensures
    (first ∙ ap (λ (w : List (List ℕ)). c.as_bytes.result.now ∷ w) second) c.in-Some-number_in.ensures c.in-Some-number_in-2.ensures some
    c.refused-then-not-is_empty.ensures

pub returns : goal.returns
returns c =
    let none : length c.in-Some-split_first.more.now ≡ 0 = grind (arith, nat_tests) in
    let first : words_text c.in_ok-found.found.rest.now ≡ c.as_bytes.result.now ∷ words_text c.in-Some.others.now =
    first_text c.in_ok-found.found.rest.now c.in-Some.seed.now c.in-Some.others.now c.as_bytes.result.now c.in-Some.ensures.cases.0
    c.as_bytes.ensures.value in
    let second : words_text c.in-Some.others.now ≡ c.as_bytes-2.result.now ∷ words_text c.in-Some-split_first.more.now =
    first_text c.in-Some.others.now c.in-Some-split_first.size.now c.in-Some-split_first.more.now c.as_bytes-2.result.now
    c.in-Some-split_first.ensures.cases.0 c.as_bytes-2.ensures.value in
    generated c.args.words.now c.in_ok-found.found.rest.now c.in-Some-split_first.more.now c.in_ok-found.found.settings c.as_bytes.result.now
    c.as_bytes-2.result.now c.in-Some-number_in.seed c.in-Some-number_in-2.size c.in_ok-found.ensures
    (first ∙ ap (λ (w : List (List ℕ)). c.as_bytes.result.now ∷ w) second) c.in-Some-number_in.ensures c.in-Some-number_in-2.ensures none
