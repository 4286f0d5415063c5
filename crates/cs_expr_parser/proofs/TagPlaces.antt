-- The position of a type's tag: for the contract of `type_words`.
use Rattle.std.proofs.Common.{◌≡◌, ℕ, suc, ◌+◌, ◌<◌, ◌≤◌, Bool, true, false, List, [], ◌∷◌, ◌++◌, Option, Some, None, length}
use Rattle.std.proofs.Common.{drop, slice_get, refl, sym, ap, ◌∙◌, subst, arith, length-append}
use Rattle.std.specs.Option.{option_map, option_and_then, option_or}
use Rattle.std.specs.Prelude.{Result, Ok, Err}
use Rattle.cs_ast.specs.declared.place.Place.{Place}
use Rattle.cs_ast.specs.declared.token.Token.{Token}
use Rattle.cs_ast.specs.declared.token.Keyword.{Keyword}
use Rattle.cs_ast.specs.declared.raw.written_type.TypeWord.{TypeWord}
use Rattle.cs_ast.specs.declared.raw.written_type.TypeWord.TheVariants as word
use Rattle.std.proofs.Math.Seq.{drop-cons}
use Rattle.std.proofs.Math.ListN.{drop_of_length-le}
use Rattle.std.proofs.lemmas.Option.{slice_get_within, get_or_from_slice_get}
use Rattle.std.proofs.lemmas.List.{drop-drop}
use Rattle.cs_grammar.specs.Places.{before_tag, StandsAt}
use Rattle.cs_grammar.specs.declared.type_words.TypeSoFar.{TypeSoFar}
use Rattle.cs_expr_parser.specs.Words.{has_tag, word_of_tag, TagAnswer, IsIntegerAt}
use Rattle.cs_expr_parser.specs.declared.stop.Stop.{Stop}
use Rattle.cs_expr_parser.specs.declared.types.NextWord.{NextWord}
use Rattle.cs_expr_parser.specs.Places.{IsTagPlaced, IsTagGiven, IsTagStanding, IsNextTagged}
use Rattle.cs_expr_parser.proofs.Standing.{past_end}

-- a position is that of the token with this index
place_stands : (tokens : List Token) (at : ℕ) (place : Place) (found : Option Token) → slice_get tokens at ≡ found → StandsAt place (drop at tokens)
    → Some place ≡ option_map (λ (token : Token). token.place) found
place_stands tokens at place None e s = absurd (subst (StandsAt place) (drop_of_length-le tokens (past_end tokens at e)) s)
place_stands tokens at place (Some t) e s =
    let less = slice_get_within tokens at t e in
    let d = drop-cons tokens at t less in
    ap Some (subst (StandsAt place) d s ∙ ap (λ (x : Token). x.place) (get_or_from_slice_get tokens at t t e))

-- the tag of the words so far has its position; if they have none, each is one token
pub record TagSoFar (tokens : List Token) (from next : ℕ) (words : List TypeWord) (tag : Option Place) : Type 0 where
  pub placed : IsTagPlaced tag words (drop from tokens)
  pub absent : tag ≡ None → before_tag words ≡ None
  pub counted : before_tag words ≡ None → next ≡ from + length words

pub no_tag : (tokens : List Token) (from : ℕ) → TagSoFar tokens from from [] None
no_tag tokens from = record { placed = refl; absent = λ e. refl; counted = λ e. omega arith }

abbrev tag_number : Bool → ℕ → Option ℕ
tag_number true n = Some n
tag_number false n = None

abbrev first_some : {A : Type 0} → Option A → Option A → Option A
first_some (Some x) other = Some x
first_some None other = other

one_tag : (w : TypeWord) → before_tag (w ∷ []) ≡ tag_number (has_tag w) 1
one_tag word.Const = refl
one_tag (word.Integer k) = refl
one_tag word.Void = refl
one_tag (word.Typedef name) = refl
one_tag (word.Struct tag) = refl
one_tag (word.Enum tag) = refl

later : (found : Option ℕ) (b : Bool) (n : ℕ)
    → option_map suc (first_some found (tag_number b n)) ≡ first_some (option_map suc found) (tag_number b (suc n))
later (Some x) b n = refl
later None true n = refl
later None false n = refl

-- the index of the tag of words with one more
more_tag : (words : List TypeWord) (w : TypeWord)
    → before_tag (words ++ w ∷ []) ≡ first_some (before_tag words) (tag_number (has_tag w) (suc (length words)))
more_tag [] w = one_tag w
more_tag (word.Struct tag ∷ ws) w = refl
more_tag (word.Enum tag ∷ ws) w = refl
more_tag (word.Const ∷ ws) w = ap (option_map suc) (more_tag ws w) ∙ later (before_tag ws) (has_tag w) (suc (length ws))
more_tag (word.Integer k ∷ ws) w = ap (option_map suc) (more_tag ws w) ∙ later (before_tag ws) (has_tag w) (suc (length ws))
more_tag (word.Void ∷ ws) w = ap (option_map suc) (more_tag ws w) ∙ later (before_tag ws) (has_tag w) (suc (length ws))
more_tag (word.Typedef name ∷ ws) w = ap (option_map suc) (more_tag ws w) ∙ later (before_tag ws) (has_tag w) (suc (length ws))

abbrev place_in : List Token → Option ℕ → Option Place
place_in tokens number = option_map (λ (token : Token). token.place) (option_and_then (λ n. slice_get tokens n) number)

either_is : (old new : Option Place) → option_or old new ≡ first_some old new
either_is (Some x) new = refl
either_is None new = refl

tag_has : (is_struct : Bool) (tag : List ℕ) → has_tag (word_of_tag is_struct tag) ≡ true
tag_has true tag = refl
tag_has false tag = refl

-- one more word, where the tag so far is known
tag_known : (tokens : List Token) (from next after : ℕ) (words : List TypeWord) (w : TypeWord) (number : Option ℕ) (old : Option Place)
    (new joined : Option Place) (tagged : Bool) → before_tag words ≡ number → tagged ≡ has_tag w → old ≡ place_in (drop from tokens) number
    → (old ≡ None → number ≡ None) → (number ≡ None → next ≡ from + length words) → joined ≡ first_some old new
    → IsTagGiven tagged tokens next new after → TagSoFar tokens from after (words ++ w ∷ []) joined
tag_known tokens from next after words w (Some n) None new joined tagged b t p a c j g = absurd (let z = a refl in cc)
tag_known tokens from next after words w (Some n) (Some place) new joined tagged b t p a c j g =
    let all : before_tag (words ++ w ∷ []) ≡ Some n = more_tag words w
    ∙ ap (λ (x : Option ℕ). first_some x (tag_number (has_tag w) (suc (length words)))) b in
    record {
      placed = j ∙ p ∙ ap (place_in (drop from tokens)) (sym all);
      absent = λ e. absurd (let z = sym j ∙ e in cc);
      counted = λ e. absurd (let z = sym all ∙ e in cc);
    }
tag_known tokens from next after words w None (Some place) new joined tagged b t p a c j g = absurd cc
tag_known tokens from next after words w None None new joined true b t p a c j (place, is, stands) =
    let all : before_tag (words ++ w ∷ []) ≡ Some (suc (length words)) =
    more_tag words w ∙ ap (λ (x : Option ℕ). first_some x (tag_number (has_tag w) (suc (length words)))) b
    ∙ ap (λ (x : Bool). tag_number x (suc (length words))) (sym t) in
    let number = c refl in
    let here : from + suc (length words) ≡ next + 1 = omega arith in
    let there : StandsAt place (drop (suc (length words)) (drop from tokens)) =
    subst (StandsAt place) (sym (drop-drop (suc (length words)) from tokens ∙ ap (λ (x : ℕ). drop x tokens) here)) stands in
    record {
      placed = j ∙ is ∙ place_stands (drop from tokens) (suc (length words)) place (slice_get (drop from tokens) (suc (length words))) refl there
          ∙ ap (place_in (drop from tokens)) (sym all);
      absent = λ e. absurd (let z = sym is ∙ sym j ∙ e in cc);
      counted = λ e. absurd (let z = sym all ∙ e in cc);
    }
tag_known tokens from next after words w None None new joined false b t p a c j g =
    let all : before_tag (words ++ w ∷ []) ≡ None =
    more_tag words w ∙ ap (λ (x : Option ℕ). first_some x (tag_number (has_tag w) (suc (length words)))) b
    ∙ ap (λ (x : Bool). tag_number x (suc (length words))) (sym t) in
    let number = c refl in
    let more = length-append words (w ∷ []) in
    record {
      placed = j ∙ g.0 ∙ ap (place_in (drop from tokens)) (sym all);
      absent = λ e. all;
      counted = λ e. let k = g.1 in omega arith;
    }

-- one more word of a type
pub one_more_tag : (tokens : List Token) (from next after : ℕ) (words : List TypeWord) (w : TypeWord) (old new joined : Option Place)
    → TagSoFar tokens from next words old → joined ≡ option_or old new → IsTagGiven (has_tag w) tokens next new after
    → TagSoFar tokens from after (words ++ w ∷ []) joined
one_more_tag tokens from next after words w old new joined t j g =
    tag_known tokens from next after words w (before_tag words) old new joined (has_tag w) refl refl t.placed t.absent t.counted (j ∙ either_is old new) g

-- a tag that comes next
pub tag_next : (is_struct : Bool) (tokens : List Token) (at : ℕ) (so_far : TypeSoFar) (answer : Result (Option NextWord) Stop)
    → TagAnswer is_struct tokens at so_far answer → IsTagStanding tokens at answer → IsNextTagged tokens at answer
tag_next is_struct tokens at so_far (Ok (Some found)) (tag, k, w, n, fresh) s =
    subst (λ (b : Bool). IsTagGiven b tokens at found.tag found.next) (sym (ap has_tag w ∙ tag_has is_struct tag)) s
tag_next is_struct tokens at so_far (Ok None) t s = tt
tag_next is_struct tokens at so_far (Err stop) t s = tt

-- a word without a tag
pub untagged_given : (tokens : List Token) (at : ℕ) (found : NextWord) (w : TypeWord) → found.word ≡ w → has_tag w ≡ false → found.tag ≡ None
    → found.next ≡ at + 1 → IsTagGiven (has_tag found.word) tokens at found.tag found.next
untagged_given tokens at found w is none tag next =
    subst (λ (b : Bool). IsTagGiven b tokens at found.tag found.next) (sym (ap has_tag is ∙ none)) (tag, next)

pub integer_given : (tokens : List Token) (at : ℕ) (kind : Keyword) (found : Option NextWord) → IsIntegerAt kind at found
    → IsNextTagged tokens at (Ok found)
integer_given tokens at kind (Some found) (one, is, w, n, tag) = untagged_given tokens at found (word.Integer one) w refl tag n
integer_given tokens at kind None n = tt
