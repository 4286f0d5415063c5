-- What follows for an act if checkers of all kinds find no fault, and what a fault that they find does: for the contract of `check`.
use Rattle.std.proofs.Common.{◌≡◌, ℕ, zero, suc, ℤ, inl, inr, Bool, true, false, true≢false, List, [], ◌∷◌, length, map, All, Any, Result, Ok}
use Rattle.std.proofs.Common.{Err, IsErr, OnOk, refl, sym, ap, ◌∙◌, subst, arith}
use Rattle.std.proofs.lemmas.List.{length-map, length-drop}
use Rattle.std.proofs.lemmas.List.Folds.{list_any_at, Any-from_list_any}
use Rattle.std.specs.List.{list_any}
use Rattle.cs_inputs.specs.declared.path.Path.{Path}
use Rattle.cs_ast.specs.declared.place.Place.{Place}
use Rattle.cs_model.specs.declared.kind.Kind.{Kind}
use Rattle.cs_terms.specs.Term.{Valuation, value_of}
use Rattle.cs_constraints.specs.Constraints.{Fits}
use Rattle.cs_checker.specs.declared.subject.Subject.{Subject}
use Rattle.cs_checker.specs.Faults.{is_faulty_for}
use Rattle.cs_events.specs.declared.input.InputKind.{InputKind}
use Rattle.cs_events.specs.declared.outcome.Outcome.TheVariants.{Fault}
use Rattle.cs_events.specs.Objects.{Cell}
use Rattle.cs_events.specs.Acts.{Act, Stops}
use Rattle.cs_event_runs.specs.Left.{left_of}
use Rattle.cs_cfg.specs.Working.{CodeState}
use Rattle.cs_state.specs.declared.state.State.{State}
use Rattle.cs_access.specs.Checks.{is_faulty, AreFaults}
use Rattle.cs_access.specs.declared.checking.FaultyPart.{FaultyPart}
use Rattle.cs_progress.specs.Acting.{UsesAll, Leads}
use Rattle.cs_progress.specs.Answering.{answers_left, IsAnsweredLater}
use Rattle.cs_progress.proofs.Looks.{leads_same}
use Rattle.cs_operators.specs.Asking.{IsCheckOf, KeepKinds, HasEveryKind}

not_true : (b : Bool) → (b ≡ true → ⊥) → b ≡ false
not_true true never = absurd (never refl)
not_true false never = refl

-- an element doesn't pass a test that no element of its list passes
none_passes : {X : Type 0} (p : X → Bool) (xs : List X) (x : X) → list_any p xs ≡ false → Any (λ y. y ≡ x) xs → p x ≡ false
none_passes p xs x none (k, y, within, at_k, same) =
    not_true (p x) (λ holds. true≢false (sym (list_any_at p xs k y within (ap p (at_k ∙ same) ∙ holds)) ∙ none))

-- a fact about the first element and all others
all_more : {X : Type 0} (P : X → Type 0) (x : X) (xs : List X) → P x → All P xs → All P (x ∷ xs)
all_more P x xs one more zero d within = one
all_more P x xs one more (suc k) d within = more k d (omega arith)

all_none : {X : Type 0} (P : X → Type 0) → All P []
all_none P k d within = absurd (omega arith)

-- if an event was answered later, some answer remains
pub some_left : (state : State) (used : ℕ) (v : Valuation) → IsAnsweredLater state used → answers_left state used v ≡ [] → ⊥
some_left state used v later none =
    let long = length-drop used (map (value_of v) state.answers) in
    let all = length-map state.answers (value_of v) in
    let short = ap length none in
    omega (arith, later, long, all, short)

module _ (cells : Path → InputKind → Cell) (subject : Subject) (at : Place) (v : Valuation) (kinds : List Kind)
    (checked : Act CodeState → Act CodeState) (is : IsCheckOf subject at v checked) where
  -- no checker finds a fault
  pub silent_leads : (answers : List ℤ) (act : Act CodeState) → ((fault : Kind) → Any (λ one. one ≡ fault) kinds)
      → is_faulty kinds subject v ≡ false → Leads cells answers answers (checked act) act
  silent_leads answers act every silent =
      leads_same cells answers (checked act) act
      (is.good (λ fault. none_passes (λ kind. is_faulty_for kind subject v) kinds fault silent (every fault)) act)

  stops_nowhere : (answers : List ℤ) (act : Act CodeState) → (answers ≡ [] → ⊥) → is_faulty kinds subject v ≡ true
      → Leads cells answers answers (checked act) act
  unfolding UsesAll
  stops_nowhere answers act some faulty uses =
      let (k, kind, within, at_k, holds) = Any-from_list_any (λ kind. is_faulty_for kind subject v) kinds faulty in
      absurd (some (subst (UsesAll cells answers) (is.faulty kind holds act) uses))

  -- an event was answered later, so there was no fault before it
  pub later_leads : (answers : List ℤ) (act : Act CodeState) → ((fault : Kind) → Any (λ one. one ≡ fault) kinds) → (answers ≡ [] → ⊥)
      → Leads cells answers answers (checked act) act
  later_leads answers act every some = by_truth (is_faulty kinds subject v) refl
    where
      by_truth : (b : Bool) → is_faulty kinds subject v ≡ b → Leads cells answers answers (checked act) act
      by_truth true faulty = stops_nowhere answers act some faulty
      by_truth false silent = silent_leads answers act every silent

  abbrev pub IsFaultOf : List ℤ → Act CodeState → FaultyPart → Type 0
  IsFaultOf answers act part = Fits v part.state.constraints → left_of cells answers (checked act) ≡ Stops (Fault part.kind at)

  one_fault : (answers : List ℤ) (act : Act CodeState) (kind : Kind) → is_faulty_for kind subject v ≡ true
      → left_of cells answers (checked act) ≡ Stops (Fault kind at)
  unfolding left_of
  one_fault answers act kind faulty = ap (left_of cells answers) (is.faulty kind faulty act)

  -- each faulty part stops with the fault of its kind
  pub faults_begin : (before : State) (asked : List Kind) (parts : List FaultyPart) → AreFaults before subject asked parts
      → (answers : List ℤ) (act : Act CodeState) → All (IsFaultOf answers act) parts
  faults_begin before [] parts are answers act = subst (All (IsFaultOf answers act)) (sym are) (all_none (IsFaultOf answers act))
  faults_begin before (kind ∷ kinds) parts (inl none) answers act = faults_begin before kinds parts none.1 answers act
  faults_begin before (kind ∷ kinds) parts (inr (part, rest, all, its_kind, is_part, others)) answers act =
      subst (All (IsFaultOf answers act)) (sym all)
      (all_more (IsFaultOf answers act) part rest
      (λ fits.
      let both = (is_part.exactly v).0 fits in
      one_fault answers act part.kind (ap (λ k. is_faulty_for k subject v) its_kind ∙ both.1))
      (faults_begin before kinds rest others answers act))

-- in case of an error nothing is claimed about success
pub failed : {T E : Type 0} (answer : Result T E) (P : Type 0) → IsErr answer → OnOk answer P
failed (Ok made) P is = absurd (true≢false (sym is))
failed (Err why) P is = tt

-- if checkers keep their kinds, each kind still has a checker
pub every_kept : {Checker : Type 0} (kind : Checker → Kind) (before after : List Checker) → KeepKinds kind before after
    → HasEveryKind kind before → HasEveryKind kind after
every_kept kind before after keeps every fault = subst (Any (λ one. one ≡ fault)) (sym keeps) (every fault)
