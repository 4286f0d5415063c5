-- The runs of corners: the numbers that are changed in inputs and guesses. For the contracts of `corners`.
use Rattle.std.proofs.Common.{◌≡◌, ℕ, zero, suc, ◌+◌, ◌<◌, nat_lt, ℤ, List, [], ◌∷◌, ◌++◌, map, length, take, drop, set, get_or}
use Rattle.std.proofs.Common.{if◌then◌else◌, refl, sym, ap, ◌∙◌, subst, arith}
use Rattle.std.specs.Prelude.{Contains, filter, Bool, Option, Some, None, Result, Ok, Err, IfOk}
use Rattle.std.specs.Map.{keys_of}
use Rattle.std.specs.BTreeMap.{insert_entry}
use Rattle.std.specs.List.Sorted.{IsStrictlySortedBy}
use Rattle.std.specs.Ordering.{match_ordering}
use Rattle.std.specs.declared.cmp.Ordering.{Ordering}
use Rattle.std.specs.declared.cmp.Ordering.TheVariants.{Less, Equal, Greater}
use Rattle.std.proofs.lemmas.List.Elements.{All-contains, All-from_recursion}
use Rattle.cs_inputs.specs.declared.path.Path.{Path}
use Rattle.cs_inputs.specs.PathOrder.{path_order}
use Rattle.cs_inputs.specs.Inputs.{IsInOrder, number_at}
use Rattle.cs_inputs.proofs.PathOrderLaws.{path_order-total, path_order-tie}
use Rattle.cs_inputs.proofs.SortedEntries.{flip-Less}
use Rattle.cs_inputs.proofs.InputNumbers.{number_at-here, number_at-elsewhere}
use Rattle.cs_terms.specs.declared.symbol.SymName.{SymName}
use Rattle.cs_terms.specs.declared.symbol.SymName.TheVariants.{Input}
use Rattle.cs_events.specs.declared.guess.Guess.{Guess}
use Rattle.cs_events.specs.Objects.{is_equal}
use Rattle.cs_meaning.specs.ProgramRuns.{ProgramRun}
use Rattle.cs_witness.specs.Evidence.{Changes, of_right, of_left, ends_of, four_of}
use Rattle.cs_witness.specs.Evidence.{is_input, is_guess, changed, changed_guess}
use Rattle.cs_results.specs.declared.run.Run.{Run}
use Rattle.cs_findings.specs.Runs.{run_of}
use Rattle.cs_suspect_types.specs.declared.suspect.OperandRange.{OperandRange}
use Rattle.cs_witness.specs.Corners.{IsPutInput, IsPut, IsCorner, AreRunsOf, AreCornersOf}
use Rattle.cs_witness.proofs.Keys.{same_order}

-- setting a path that is listed keeps the list of paths
module _ (k : Path) (v : ℤ) where
  not_first : (f : Path × ℤ) (fs : List (Path × ℤ)) → (path_order k f.0 ≡ Equal → ⊥) → Contains (keys_of (f ∷ fs)) k → Contains (keys_of fs) k
  not_first f fs other (zero, before, is) = absurd (other (same_order k f.0 (sym is)))
  not_first f fs other (suc n, before, is) = (n, omega arith, is)

  pub keys_again : (es : List (Path × ℤ)) → IsInOrder es → Contains (keys_of es) k → keys_of (insert_entry path_order es k v) ≡ keys_of es
  unfolding IsStrictlySortedBy
  keys_again [] ordered here = absurd (let before = here.1 in omega arith)
  keys_again (f ∷ fs) ordered here = at (path_order k f.0) refl (keys_again fs ordered.1)
    where
      at : (r : Ordering) → path_order k f.0 ≡ r → (Contains (keys_of fs) k → keys_of (insert_entry path_order fs k v) ≡ keys_of fs)
          → keys_of (match_ordering r ((k, v) ∷ f ∷ fs) ((f.0, v) ∷ fs) (f ∷ insert_entry path_order fs k v)) ≡ keys_of (f ∷ fs)
      at Less is rest =
          let later : Contains (keys_of fs) k = not_first f fs (λ e. let no : ⊥ = cc in no) here in
          let above : path_order f.0 k ≡ Less =
          All-contains (λ z. path_order f.0 z ≡ Less) (keys_of fs) k (All-from_recursion (λ z. path_order f.0 z ≡ Less) (keys_of fs) ordered.0) later in
          let below = flip-Less path_order-total f.0 k above in
          let no : ⊥ = cc in
          absurd no
      at Equal is rest = refl
      at Greater is rest = ap (λ ks. f.0 ∷ ks) (rest (not_first f fs (λ e. let no : ⊥ = cc in no) here))

-- the number of a path after one was set, by whether it is that path
numbers_at : (old new : List (Path × ℤ)) (path : Path) (number : ℤ) (other : Path) (r : Ordering) → path_order other path ≡ r
    → (path ≡ other → number_at new other ≡ number) → ((other ≡ path → ⊥) → number_at new other ≡ number_at old other)
    → number_at new other ≡ (if is_equal r then number else number_at old other)
numbers_at old new path number other Less is here elsewhere = elsewhere (λ e. let tied = same_order other path e in let no : ⊥ = cc in no)
numbers_at old new path number other Equal is here elsewhere = here (sym (path_order-tie other path is))
numbers_at old new path number other Greater is here elsewhere = elsewhere (λ e. let tied = same_order other path e in let no : ⊥ = cc in no)

pub put_listed : (es : List (Path × ℤ)) (path : Path) (number : ℤ) → IsInOrder es → Contains (keys_of es) path
    → IsPutInput path number es (insert_entry path_order es path number)
put_listed es path number ordered here =
    let new = insert_entry path_order es path number in
    record {
      paths = keys_again path number es ordered here;
      numbers = λ other there. numbers_at es new path number other (path_order other path) refl
          (λ e. subst (λ p. number_at new p ≡ number) e (number_at-here es path number))
          (λ apart. number_at-elsewhere es path number other apart);
    }

pub put_unlisted : (es : List (Path × ℤ)) (path : Path) (number : ℤ) → (Contains (keys_of es) path → ⊥) → IsPutInput path number es es
put_unlisted es path number none = record {
  paths = refl;
  numbers = λ other there. numbers_at es es path number other (path_order other path) refl
      (λ e. absurd (none (subst (Contains (keys_of es)) (sym e) there))) (λ apart. refl);
}

-- guesses that keep their numbers are unchanged
pub none_put : (guesses : List Guess) → guesses ≡ map (λ (guess : Guess). record guess { number = guess.number }) guesses
none_put [] = refl
none_put (guess ∷ guesses) = ap (λ (l : List Guess). guess ∷ l) (none_put guesses)

-- the items of a list are changed in place, one after another
module _ {A : Type 0} (f : A → A) where
  pub place_read : (xs : List A) (i : ℕ) (d : A) → i < length xs → get_or (map f (take i xs) ++ drop i xs) i d ≡ get_or xs i d
  place_read [] i d below = absurd (omega arith)
  place_read (x ∷ xs) zero d below = refl
  place_read (x ∷ xs) (suc i) d below = place_read xs i d (omega arith)

  place_set_suc : (xs : List A) (i : ℕ) (d : A) → i < length xs
      → set (map f (take i xs) ++ drop i xs) i (f (get_or xs i d)) ≡ map f (take (suc i) xs) ++ drop (suc i) xs
  place_set_suc [] i d below = absurd (omega arith)
  place_set_suc (x ∷ xs) zero d below = refl
  place_set_suc (x ∷ xs) (suc i) d below = ap (λ (l : List A). f x ∷ l) (place_set_suc xs i d (omega arith))

  pub place_set : (xs : List A) (i : ℕ) (d : A) → i < length xs
      → set (map f (take i xs) ++ drop i xs) i (f (get_or xs i d)) ≡ map f (take (i + 1) xs) ++ drop (i + 1) xs
  place_set xs i d below =
      let next : suc i ≡ i + 1 = omega arith in
      place_set_suc xs i d below ∙ ap (λ n. map f (take n xs) ++ drop n xs) next

-- one more change
changed_more : (is : SymName → Bool) (changes : Changes) (symbol : SymName) (number old : ℤ)
    → changed is (changes ++ (symbol, number) ∷ []) old ≡ (if is symbol then number else changed is changes old)
changed_more is [] symbol number old = refl
changed_more is (change ∷ changes) symbol number old = changed_more is changes symbol number (if is change.0 then change.1 else old)

guesses_more : (changes : Changes) (symbol : SymName) (number : ℤ) (guesses : List Guess)
    → map (λ (guess : Guess). record guess { number = if is_guess guess.event symbol then number else guess.number }) (map (changed_guess changes) guesses)
    ≡ map (changed_guess (changes ++ (symbol, number) ∷ [])) guesses
guesses_more changes symbol number [] = refl
guesses_more changes symbol number (guess ∷ guesses) =
    let one = changed_more (is_guess guess.event) changes symbol number guess.number in
    let rest = guesses_more changes symbol number guesses in
    λ i. record guess { number = sym one i } ∷ rest i

pub corner_more : (changes : Changes) (symbol : SymName) (number : ℤ) (event : ℕ) (run middle other : ProgramRun) → IsCorner changes event run middle
    → IsPut symbol number middle other → IsCorner (changes ++ (symbol, number) ∷ []) event run other
corner_more changes symbol number event run middle other one put = record {
  paths = put.paths ∙ one.paths;
  numbers = λ path there.
      put.numbers path (subst (λ ks. Contains ks path) (sym one.paths) there)
      ∙ ap (λ (old : ℤ). if is_input path symbol then number else old) (one.numbers path there)
      ∙ sym (changed_more (is_input path) changes symbol number (number_at run.inputs path));
  guesses = put.guesses
      ∙ ap (map (λ (guess : Guess). record guess { number = if is_guess guess.event symbol then number else guess.number })) one.guesses
      ∙ guesses_more changes symbol number (filter (λ (guess : Guess). nat_lt guess.event event) run.guesses);
}

-- setting the number of a path
pub path_put : (symbol : SymName) (path : Path) (number : ℤ) (old : ProgramRun) (inputs : List (Path × ℤ)) → symbol ≡ Input path
    → IsPutInput path number old.inputs inputs → IsPut symbol number old (record { inputs = inputs; guesses = old.guesses })
path_put symbol path number old inputs is put =
    subst (λ s. IsPut s number old (record { inputs = inputs; guesses = old.guesses })) (sym is)
    (record { paths = put.paths; numbers = put.numbers; guesses = none_put old.guesses })

-- two items that were pushed one after the other
pub pushed_two : {A : Type 0} (none one both : List A) (a b : A) → none ≡ [] → one ≡ none ++ a ∷ [] → both ≡ one ++ b ∷ [] → both ≡ a ∷ b ∷ []
pushed_two none one both a b e f g = g ∙ ap (λ l. l ++ b ∷ []) (f ∙ ap (λ l. l ++ a ∷ []) e)

-- the runs for the ends of one range, and for the corners of two
module _ (event : ℕ) (run : ProgramRun) where
  pub two_runs : (range : OperandRange) (corners : List Run) (a b : Run) → corners ≡ a ∷ b ∷ []
      → IsCorner ((range.symbol, range.least) ∷ []) event run (run_of a) → IsCorner ((range.symbol, range.greatest) ∷ []) event run (run_of b)
      → AreRunsOf event run (ends_of (Some range)) corners
  two_runs range corners a b are one other = subst (AreRunsOf event run (ends_of (Some range))) (sym are) (one, (other, tt))

  pub four_runs : (left right : OperandRange) (corners : List Run) (a b c d : Run) → corners ≡ a ∷ b ∷ c ∷ d ∷ []
      → IsCorner ((left.symbol, left.least) ∷ (right.symbol, right.least) ∷ []) event run (run_of a)
      → IsCorner ((left.symbol, left.least) ∷ (right.symbol, right.greatest) ∷ []) event run (run_of b)
      → IsCorner ((left.symbol, left.greatest) ∷ (right.symbol, right.least) ∷ []) event run (run_of c)
      → IsCorner ((left.symbol, left.greatest) ∷ (right.symbol, right.greatest) ∷ []) event run (run_of d)
      → AreRunsOf event run (four_of left right) corners
  four_runs left right corners a b c d are one two three four =
      subst (AreRunsOf event run (four_of left right)) (sym are) (one, (two, (three, (four, tt))))

  pub right_runs : (left right : Option OperandRange) (corners : List Run) → left ≡ None → AreRunsOf event run (ends_of right) corners
      → AreCornersOf left right event run corners
  right_runs left right corners none each =
      subst (λ l. AreCornersOf l right event run corners) (sym none) (record { all = ends_of right; are = of_right; each = each })

  pub left_runs : (left right : Option OperandRange) (range : OperandRange) (corners : List Run) → left ≡ Some range → right ≡ None
      → AreRunsOf event run (ends_of (Some range)) corners → AreCornersOf left right event run corners
  left_runs left right range corners is none each =
      subst (λ l. AreCornersOf l right event run corners) (sym is)
      (subst (λ r. AreCornersOf (Some range) r event run corners) (sym none) (record { all = ends_of (Some range); are = of_left; each = each }))

  pub both_runs : (left right : Option OperandRange) (first second : OperandRange) (corners : List Run) → left ≡ Some first → right ≡ Some second
      → AreCornersOf (Some first) (Some second) event run corners → AreCornersOf left right event run corners
  both_runs left right first second corners is is' of =
      subst (λ l. AreCornersOf l right event run corners) (sym is) (subst (λ r. AreCornersOf (Some first) r event run corners) (sym is') of)

-- a weaker fact of a result
pub if_ok : {T E : Type 0} {P Q : T → Type 0} (r : Result T E) → ((x : T) → P x → Q x) → IfOk r P → IfOk r Q
if_ok (Ok x) f h = f x h
if_ok (Err e) f h = tt
