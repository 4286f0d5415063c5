-- The part between a keyword and its test is typed as without the keyword, if it is right.
use Rattle.std.proofs.Common.{Option, Some, None}
use Rattle.cs_ast.specs.declared.place.Place.{Place}
use Rattle.cs_scopes.specs.declared.refusal.TypeCode.{TypeCode}
use Rattle.cs_scopes.specs.Verdicts.{Verdict, Fine, Fault}
use Rattle.cs_declarations.proofs.FineVerdicts as sound
use Rattle.cs_well_formed.proofs.Verdicts.{IfFine}
use Rattle.cs_statements.specs.Statements.{after_word}

pub after_word-then : {A : Type 0} (P : A → Type 0) (at : Place) (fault : Option TypeCode) (v : Verdict A) → IfFine v P → IfFine (after_word at fault v) P
after_word-then P at None v held = held
after_word-then P at (Some code) (Fine value) held = held
after_word-then P at (Some code) (Fault other place) held = tt

pub after_word-sound : {A : Type 0} (P : A → Type 0) (at : Place) (fault : Option TypeCode) (v : Verdict A) → sound.IfFine v P
    → sound.IfFine (after_word at fault v) P
after_word-sound P at None v held = held
after_word-sound P at (Some code) (Fine value) held = held
after_word-sound P at (Some code) (Fault other place) held = tt
