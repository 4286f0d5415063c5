-- How a run ends, given how its answer was written: for the clauses of the top call.
use Rattle.std.proofs.Common.{◌≡◌, ℕ, List, Option, sym, ◌∙◌, subst}
use Rattle.std.specs.Prelude.{Result, Ok, Err, OnOk, OnErr}
use Rattle.std.specs.Io.KnownBytes.{Appends}
use Rattle.cs_io.specs.declared.write.WriteRefusal.{WriteRefusal}
use Rattle.cs_model.specs.declared.kind.Kind.{Kind}
use Rattle.cs_answers.specs.declared.status.Status.{Status}
use Rattle.cs_answers.specs.declared.status.Status.TheVariants.{ReadFault, WriteFault, Memory}
use Rattle.cs_answers.specs.Statuses.{ended_with}
use Rattle.cs_app.specs.Answers.{IsAnswered, IsDone, IsRead, IsRefusedWith, IsWhole, IsWritten}

-- a run that ends with this status has written the whole text
pub ends_written : (checked : List Kind) (words : List (List ℕ)) (left : Option (List ℕ)) (status ended : Status) (text : List ℕ)
    (written : Result (Unit {0}) WriteRefusal)
    (before now : Option (List ℕ)) → ended ≡ ended_with status written → IsWhole checked words left status text
    → OnOk written (Appends before now text) → IsDone ended → IsWritten checked words left ended before now
ends_written checked words left status ended text (Ok written) before now is whole appended done =
    subst (λ s. IsWritten checked words left s before now) (sym is) (text, whole, appended)
ends_written checked words left status ended text (Err refusal) before now is whole appended done = absurd (subst IsDone is done)

-- and has read the file, if it was read for the answer
pub ends_read : (status ended : Status) (written : Result (Unit {0}) WriteRefusal) (at_end : Type 0) → ended ≡ ended_with status written
    → (IsRead status → at_end) → IsRead ended → at_end
ends_read status ended (Ok written) at_end is read this = read (subst IsRead is this)
ends_read status ended (Err refusal) at_end is read this = absurd (subst IsRead is this)

-- a run with an answer has no read fault, and didn't run out of memory
pub no_read_fault : {A : Type 0} (status ended : Status) (written : Result (Unit {0}) WriteRefusal) → ended ≡ ended_with status written
    → IsDone status → ended ≡ ReadFault → A
no_read_fault status ended (Ok written) is done fault = absurd (subst IsDone (sym is ∙ fault) done)
no_read_fault status ended (Err refusal) is done fault = absurd cc

pub no_want_of_memory : {A : Type 0} (status ended : Status) (written : Result (Unit {0}) WriteRefusal) → ended ≡ ended_with status written
    → IsDone status → ended ≡ Memory → A
no_want_of_memory status ended (Ok written) is done memory = absurd (subst IsDone (sym is ∙ memory) done)
no_want_of_memory status ended (Err refusal) is done memory = absurd cc

-- its write fault is one of the sink
pub sink_failed : (status ended : Status) (written : Result (Unit {0}) WriteRefusal) (fault : Type 0) → ended ≡ ended_with status written
    → IsDone status → OnErr written fault → ended ≡ WriteFault → fault
sink_failed status ended (Ok written) fault is done rose failed = absurd (subst IsDone (sym is ∙ failed) done)
sink_failed status ended (Err refusal) fault is done rose failed = rose

-- a run with an answer ends with it if the sink doesn't fail
pub ends_answered : (status ended : Status) (written : Result (Unit {0}) WriteRefusal) (fault : Type 0) → ended ≡ ended_with status written
    → IsAnswered status → OnErr written fault → (fault → ⊥) → IsAnswered ended
ends_answered status ended (Ok written) fault is answered rose none = subst IsAnswered (sym is) answered
ends_answered status ended (Err refusal) fault is answered rose none = absurd (none rose)

-- and the same for the line of a refusal
pub ends_refused : (line text : List ℕ) (status ended : Status) (written : Result (Unit {0}) WriteRefusal) (before now : Option (List ℕ))
    (fault : Type 0) → ended ≡ ended_with status written → (Appends before now text → IsRefusedWith line status before now)
    → OnOk written (Appends before now text) → OnErr written fault → (fault → ⊥) → IsRefusedWith line ended before now
ends_refused line text status ended (Ok written) before now fault is refused appended rose none =
    subst (λ s. IsRefusedWith line s before now) (sym is) (refused appended)
ends_refused line text status ended (Err refusal) before now fault is refused appended rose none = absurd (none rose)
