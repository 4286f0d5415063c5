-- Lists of words that are kept in runs: a key after a write, its digest, and whether two of them have the same bytes.
use Rattle.std.proofs.Common.{◌≡◌, ℕ, ◌-◌, ◌≤◌, Bool, true, false, List, [], ◌∷◌, ◌++◌, length, take, drop, refl, sym, ap}
use Rattle.std.proofs.Common.{◌∙◌, nat_eq, append_assoc, true≢false}
use Rattle.std.specs.Bool.{one_answer}
use Rattle.std.specs.Cmp.Lexicographic.{pointwise, bytes_decides}
use Rattle.std.specs.List.{concat, flat_map}
use Rattle.std.proofs.Math.Seq.{take-length}
use Rattle.std.proofs.lemmas.List.{length-drop, append-nil, append_cancel_left, take-append-drop, take-append-le}
use Rattle.std.proofs.lemmas.List.Folds.{concat-append}
use Rattle.std.proofs.lemmas.List.Concat.{flat_map-append}
use Rattle.cs_word_lists.specs.Bytes.{bytes_of_word, bytes_of, words_in}
use Rattle.cs_word_lists.proofs.Coding.{words_back}
use Rattle.cs_keys.specs.Runs.{all_words}

-- the words after the last run are a run, and further words another one
pub shared_after : (runs : List (List ℕ)) (tail words : List ℕ)
    → all_words ((runs ++ tail ∷ []) ++ words ∷ []) [] ≡ all_words runs tail ++ words
shared_after runs tail words =
    append-nil _ ∙ concat-append (runs ++ tail ∷ []) (words ∷ [])
    ∙ (λ i. (concat-append runs (tail ∷ []) ∙ ap (λ last. concat runs ++ last) (append-nil tail)) i ++ append-nil words i)

pub one_more_run : (runs : List (List ℕ)) (run : List ℕ) → concat (runs ++ run ∷ []) ≡ concat runs ++ run
one_more_run runs run = concat-append runs (run ∷ []) ∙ ap (λ last. concat runs ++ last) (append-nil run)

-- the bytes of all words
bytes_of_runs : (runs : List (List ℕ)) → flat_map bytes_of runs ≡ bytes_of (concat runs)
bytes_of_runs [] = refl
bytes_of_runs (run ∷ runs) =
    ap (λ rest. bytes_of run ++ rest) (bytes_of_runs runs) ∙ sym (flat_map-append bytes_of_word run (concat runs))

pub all_bytes : (runs : List (List ℕ)) (tail : List ℕ) → flat_map bytes_of runs ++ bytes_of tail ≡ bytes_of (all_words runs tail)
all_bytes runs tail =
    ap (λ first. first ++ bytes_of tail) (bytes_of_runs runs) ∙ sym (flat_map-append bytes_of_word (concat runs) tail)

-- words are equal if their bytes are
pub same_bytes : (one other : List ℕ) → pointwise nat_eq (bytes_of one) (bytes_of other) ≡ pointwise nat_eq one other
same_bytes one other =
    one_answer _ _ (bytes_decides (bytes_of one) (bytes_of other)) (
      λ same. ap bytes_of ((bytes_decides one other).0 same),
      λ same. (bytes_decides one other).1 (sym (words_back one) ∙ ap words_in same ∙ words_back other),
    )

-- lists with the same beginning are equal if their rests are
alike_after : (front a b : List ℕ) → pointwise nat_eq (front ++ a) (front ++ b) ≡ pointwise nat_eq a b
alike_after front a b =
    one_answer _ _ (bytes_decides (front ++ a) (front ++ b)) (
      λ same. ap (λ rest. front ++ rest) ((bytes_decides a b).0 same),
      λ same. (bytes_decides a b).1 (append_cancel_left front a b same),
    )

-- the part of a run from an index to its end
pub from_place : (n : ℕ) (run : List ℕ) → take (length run - n) (drop n run) ≡ drop n run
from_place n run = ap (λ count. take count (drop n run)) (sym (length-drop n run)) ∙ take-length (drop n run)

split : (n : ℕ) (run rest : List ℕ) → take n run ++ (drop n run ++ rest) ≡ run ++ rest
split n run rest = sym (append_assoc (take n run) (drop n run) rest) ∙ ap (λ whole. whole ++ rest) (take-append-drop n run)

pub go_on_after : (n : ℕ) (r s a b : List ℕ) → pointwise nat_eq (take n r) (take n s) ≡ true
    → pointwise nat_eq (drop n r ++ a) (drop n s ++ b) ≡ pointwise nat_eq (r ++ a) (s ++ b)
go_on_after n r s a b alike =
    let same = (bytes_decides (take n r) (take n s)).0 alike in
    sym (alike_after (take n r) (drop n r ++ a) (drop n s ++ b))
    ∙ (λ i. pointwise nat_eq (split n r a i) ((ap (λ front. front ++ (drop n s ++ b)) same ∙ split n s b) i))

pub differ_after : (n : ℕ) (r s a b : List ℕ) → n ≤ length r → n ≤ length s → pointwise nat_eq (take n r) (take n s) ≡ false
    → false ≡ pointwise nat_eq (r ++ a) (s ++ b)
differ_after n r s a b in_r in_s differ = by (pointwise nat_eq (r ++ a) (s ++ b)) refl
  where
    by : (t : Bool) → pointwise nat_eq (r ++ a) (s ++ b) ≡ t → false ≡ t
    by true same =
        let whole = (bytes_decides (r ++ a) (s ++ b)).0 same in
        let front = sym (take-append-le n r a in_r) ∙ ap (take n) whole ∙ take-append-le n s b in_s in
        absurd (true≢false (sym ((bytes_decides (take n r) (take n s)).1 front) ∙ differ))
    by false same = refl
