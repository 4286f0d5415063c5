-- The replays of corners that are added to a pool. For the contracts of `pools`.
use Rattle.std.proofs.Common.{◌≡◌, ℕ, zero, suc, List, [], ◌∷◌, ◌++◌, refl, sym, ap, ◌∙◌, subst, arith}
use Rattle.std.specs.Prelude.{All, Contains, Option, Some, None}
use Rattle.std.proofs.lemmas.List.{append-nil, append_assoc}
use Rattle.std.proofs.lemmas.List.Elements.{All-nil, All-cons, All-push, All-append, All-weaker}
use Rattle.std.proofs.lemmas.List.Elements.{Contains-append_left, Contains-append_right, Contains-push}
use Rattle.cs_meaning.specs.ProgramRuns.{ProgramRun}
use Rattle.cs_results.specs.declared.run.Run.{Run}
use Rattle.cs_findings.specs.Runs.{run_of}
use Rattle.cs_findings.specs.GoodFindings.{IsEach}
use Rattle.cs_judge.specs.declared.pool.Replay.{Replay}
use Rattle.cs_suspect_types.specs.declared.suspect.OperandRange.{OperandRange}
use Rattle.cs_suspect_types.specs.declared.suspect.SuspectedGuess.{SuspectedGuess}
use Rattle.cs_witness.specs.declared.entry.Entry.{Entry}
use Rattle.cs_witness.specs.Corners.{IsCorner, AreCornersOf}
use Rattle.cs_witness.specs.Evidence.{Changes, AreCorners, of_right, of_left, of_one, of_both}
use Rattle.cs_witness.specs.Pooling.{IsReplayUpTo, IsCornerReplay, AddsCorners, AddsAllCorners, IsSomeCorner, HasCornersOf}
use Rattle.cs_witness.proofs.Keepings.{each_more}

-- two ranges determine one list of corners
pub one_corners : (left right : Option OperandRange) (one other : List Changes) → AreCorners left right one → AreCorners left right other → one ≡ other
one_corners None right one other of_right of_right = refl
one_corners (Some left) None one other of_left of_left = refl
one_corners (Some left) (Some right) one other (of_one same) (of_one same') = refl
one_corners (Some left) (Some right) one other (of_one same) (of_both apart) = absurd (apart same)
one_corners (Some left) (Some right) one other (of_both apart) (of_one same) = absurd (apart same)
one_corners (Some left) (Some right) one other (of_both apart) (of_both apart') = refl

-- items that are related to those of another list
module _ {A B : Type 0} (R : A → B → Type 0) where
  pub each_has : (xs : List A) (ys : List B) (x : A) → IsEach R xs ys → Contains xs x → (y : B) × Contains ys y × R x y
  each_has [] ys x each here = absurd (let before = here.1 in omega arith)
  each_has (a ∷ xs) [] x each here = absurd each
  each_has (a ∷ xs) (b ∷ ys) x each (zero, before, is) = (b, (0, omega arith, refl), subst (λ z. R z b) is each.0)
  each_has (a ∷ xs) (b ∷ ys) x each (suc n, before, is) =
      let it = each_has xs ys x each.1 (n, omega arith, is) in
      (it.0, (suc it.1.0, let there = it.1.1 in omega arith, it.1.2), it.2)

  abbrev IsOf : List A → B → Type 0
  IsOf xs y = (x : A) × Contains xs x × R x y

  later_of : (a : A) (xs : List A) (y : B) → IsOf xs y → IsOf (a ∷ xs) y
  later_of a xs y it = (it.0, (suc it.1.0, let there = it.1.1 in omega arith, it.1.2), it.2)

  pub each_of : (xs : List A) (ys : List B) → IsEach R xs ys → All (IsOf xs) ys
  each_of [] [] each = All-nil (IsOf [])
  each_of [] (b ∷ ys) each = absurd each
  each_of (a ∷ xs) [] each = All-nil (IsOf (a ∷ xs))
  each_of (a ∷ xs) (b ∷ ys) each =
      All-cons (IsOf (a ∷ xs)) b ys (a, (0, omega arith, refl), each.0) (All-weaker (IsOf xs) (IsOf (a ∷ xs)) (later_of a xs) ys (each_of xs ys each.1))

-- the composition of two relations of items
each_through : {A B C : Type 0} (R : A → B → Type 0) (S : B → C → Type 0) (T : A → C → Type 0) → ((x : A) (y : B) (z : C) → R x y → S y z → T x z)
    → (xs : List A) (ys : List B) (zs : List C) → IsEach R xs ys → IsEach S ys zs → IsEach T xs zs
each_through R S T f [] [] [] one other = tt
each_through R S T f [] [] (z ∷ zs) one other = absurd other
each_through R S T f [] (y ∷ ys) zs one other = absurd one
each_through R S T f (x ∷ xs) [] zs one other = absurd one
each_through R S T f (x ∷ xs) (y ∷ ys) [] one other = absurd other
each_through R S T f (x ∷ xs) (y ∷ ys) (z ∷ zs) one other = (f x y z one.0 other.0, each_through R S T f xs ys zs one.1 other.1)

module _ (entry : Entry) (event : ℕ) where
  -- the replay of a run up to the event
  abbrev pub IsReplayed : Run → Replay → Type 0
  IsReplayed corner replay = (run_of replay.run ≡ run_of corner) × IsReplayUpTo entry event replay

  -- the replays of these runs joined a pool
  pub record Joined (corners : List Run) (old new : List Replay) : Type 0 where
    pub more : List Replay
    pub is : new ≡ old ++ more
    pub each : IsEach IsReplayed corners more

  pub joined_none : (old : List Replay) → Joined [] old old
  joined_none old = record { more = []; is = sym (append-nil old); each = tt }

  pub joined_one : (corners : List Run) (corner : Run) (old middle new : List Replay) (replay : Replay) → Joined corners old middle
      → new ≡ middle ++ replay ∷ [] → run_of replay.run ≡ run_of corner → IsReplayUpTo entry event replay → Joined (corners ++ corner ∷ []) old new
  joined_one corners corner old middle new replay one pushed same replayed = record {
    more = one.more ++ replay ∷ [];
    is = pushed ∙ ap (λ (l : List Replay). l ++ replay ∷ []) one.is ∙ append_assoc old one.more (replay ∷ []);
    each = each_more IsReplayed corners one.more corner replay one.each (same, replayed);
  }

module _ (entry : Entry) (run : ProgramRun) where
  corner_replay : (event : ℕ) (changes : Changes) (corner : Run) (replay : Replay) → IsCorner changes event run (run_of corner)
      → IsReplayed entry event corner replay → IsCornerReplay entry run event changes replay
  corner_replay event changes corner replay is replayed =
      record { corner = subst (IsCorner changes event run) (sym replayed.0) is; replayed = replayed.1 }

  pub adds_corners : (guess : SuspectedGuess) (corners : List Run) (old new : List Replay) → AreCornersOf guess.left guess.right guess.guess.event run corners
      → Joined entry guess.guess.event corners old new → AddsCorners entry run guess old new
  adds_corners guess corners old new are joined = record {
    more = joined.more;
    is = joined.is;
    all = are.all;
    are = are.are;
    each = each_through (λ changes corner. IsCorner changes guess.guess.event run (run_of corner)) (IsReplayed entry guess.guess.event)
        (IsCornerReplay entry run guess.guess.event) (corner_replay guess.guess.event) are.all corners joined.more are.each joined.each;
  }

  pub adds_none : (old : List Replay) → AddsAllCorners entry run [] old old
  adds_none old = record {
    more = [];
    is = sym (append-nil old);
    each = All-nil (HasCornersOf entry run old);
    only = All-nil (IsSomeCorner entry run []);
  }

  has_more : (pool more : List Replay) (guess : SuspectedGuess) → HasCornersOf entry run pool guess → HasCornersOf entry run (pool ++ more) guess
  has_more pool more guess has all changes are one =
      let it = has all changes are one in
      (it.0, Contains-append_left pool more it.0 it.1, it.2)

  has_these : (guess : SuspectedGuess) (old new : List Replay) → AddsCorners entry run guess old new → HasCornersOf entry run new guess
  has_these guess old new adds all changes are one =
      let same = one_corners guess.left guess.right all adds.all are adds.are in
      let it = each_has (IsCornerReplay entry run guess.guess.event) adds.all adds.more changes adds.each (subst (λ l. Contains l changes) same one) in
      (it.0, subst (λ l. Contains l it.0) (sym adds.is) (Contains-append_right old adds.more it.0 it.1), it.2)

  some_more : (guesses more : List SuspectedGuess) (replay : Replay) → IsSomeCorner entry run guesses replay
      → IsSomeCorner entry run (guesses ++ more) replay
  some_more guesses more replay it = record {
    guess = it.guess;
    among = Contains-append_left guesses more it.guess it.among;
    all = it.all;
    are = it.are;
    changes = it.changes;
    one = it.one;
    is = it.is;
  }

  pub adds_more : (guesses : List SuspectedGuess) (guess : SuspectedGuess) (old middle new : List Replay) → AddsAllCorners entry run guesses old middle
      → AddsCorners entry run guess middle new → AddsAllCorners entry run (guesses ++ guess ∷ []) old new
  adds_more guesses guess old middle new one other = record {
    more = one.more ++ other.more;
    is = other.is ∙ ap (λ (l : List Replay). l ++ other.more) one.is ∙ append_assoc old one.more other.more;
    each = All-push (HasCornersOf entry run new) guesses guess
        (All-weaker (HasCornersOf entry run middle) (HasCornersOf entry run new)
        (λ g has. subst (λ l. HasCornersOf entry run l g) (sym other.is) (has_more middle other.more g has)) guesses one.each)
        (has_these guess middle new other);
    only = All-append (IsSomeCorner entry run (guesses ++ guess ∷ [])) one.more other.more
        (All-weaker (IsSomeCorner entry run guesses) (IsSomeCorner entry run (guesses ++ guess ∷ [])) (some_more guesses (guess ∷ [])) one.more one.only)
        (All-weaker (λ replay. (changes : Changes) × Contains other.all changes × IsCornerReplay entry run guess.guess.event changes replay)
        (IsSomeCorner entry run (guesses ++ guess ∷ []))
        (λ replay it. record {
          guess = guess;
          among = Contains-push guesses guess;
          all = other.all;
          are = other.are;
          changes = it.0;
          one = it.1;
          is = it.2;
        }) other.more (each_of (IsCornerReplay entry run guess.guess.event) other.all other.more other.each));
  }
