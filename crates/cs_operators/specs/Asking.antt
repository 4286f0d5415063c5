-- The checkers that an operation queries, and what follows for its act if they find no fault.
use Rattle.std.specs.Prelude.{◌≡◌, true, false, List, map}
use Rattle.cs_model.specs.declared.kind.Kind.{Kind}
use Rattle.cs_ast.specs.declared.place.Place.{Place}
use Rattle.cs_terms.specs.Term.{Valuation}
use Rattle.cs_constraints.specs.Constraints.{Fits}
use Rattle.cs_checker.specs.declared.subject.Subject.{Subject}
use Rattle.cs_checker.specs.Faults.{is_faulty_for}
use Rattle.cs_checker.specs.Kinds.{AreAllKinds}
use Rattle.cs_events.specs.declared.outcome.Outcome.TheVariants.{Fault}
use Rattle.cs_events.specs.Acts.{Act, Stops}
use Rattle.cs_cfg.specs.Working.{CodeState}
use Rattle.cs_state.specs.declared.state.State.{State}
use Rattle.cs_access.specs.Checks.{is_faulty}

-- the checkers keep their kinds and their order
abbrev pub KeepKinds : {Checker : Type 0} → (Checker → Kind) → List Checker → List Checker → Type 0
KeepKinds kind before after = map kind after ≡ map kind before

-- what is about to be done is a fault of one of these kinds under no valuation that fits the state
abbrev pub IsNoFault : State → Subject → List Kind → Type 0
IsNoFault state subject kinds = (valuation : Valuation) → Fits valuation state.constraints → is_faulty kinds subject valuation ≡ false

-- each kind of faults has a checker
abbrev pub HasEveryKind : {Checker : Type 0} → (Checker → Kind) → List Checker → Type 0
HasEveryKind kind checkers = AreAllKinds (map kind checkers)

-- an act begins with a check of the subject: it stops with a fault of each kind for which the subject is faulty, and continues if there is none
pub record IsCheckOf (subject : Subject) (at : Place) (valuation : Valuation) (checked : Act CodeState → Act CodeState) : Type 0 where
  pub faulty : (kind : Kind) → is_faulty_for kind subject valuation ≡ true → (act : Act CodeState) → checked act ≡ Stops (Fault kind at)
  pub good : ((kind : Kind) → is_faulty_for kind subject valuation ≡ false) → (act : Act CodeState) → checked act ≡ act

-- this holds under each valuation that fits
abbrev pub ChecksFor : State → Subject → Place → (Valuation → Act CodeState → Act CodeState) → Type 0
ChecksFor state subject at checked = (valuation : Valuation) → Fits valuation state.constraints → IsCheckOf subject at valuation (checked valuation)
