-- The rest of an act after some answers: answers follow one another, and the answer to the first event of a run is its number.
use Rattle.std.proofs.Common.{◌≡◌, ℤ, Bool, true, false, List, [], ◌∷◌, ◌++◌, if◌then◌else◌, refl, ap, ◌∙◌}
use Rattle.cs_inputs.specs.declared.path.Path.{Path}
use Rattle.cs_events.specs.declared.input.InputKind.{InputKind}
use Rattle.cs_events.specs.Objects.{Cell}
use Rattle.cs_events.specs.Operations.{is_true, truth_number}
use Rattle.cs_events.specs.Acts.{Act, Goes, Stops, Reads, Asks, Allocates, Reaches, Touches}
use Rattle.cs_events.specs.Runs.{Setting, Log, with_read, with_touch, allows_event, read_cell}
use Rattle.cs_event_runs.specs.Left.{left_of}
use Rattle.cs_event_runs.specs.First.{First, Silent, Shown, Ended, first_of}

-- the number of a truth value represents it
true_as_said : (b : Bool) → is_true (truth_number b) ≡ b
true_as_said true = refl
true_as_said false = refl

module _ {State : Type 0} where
  -- answers one after another
  pub left_after : (cells : Path → InputKind → Cell) (answers more : List ℤ) (act : Act State)
      → left_of cells (answers ++ more) act ≡ left_of cells more (left_of cells answers act)
  unfolding left_of
  left_after cells answers more (Goes next) = refl
  left_after cells answers more (Stops outcome) = refl
  left_after cells answers more (Reads path kind onward) = left_after cells answers more (onward (cells path kind))
  left_after cells answers more (Touches touch act) = left_after cells answers more act
  left_after cells [] more (Asks at operation onward) = refl
  left_after cells [] more (Allocates at path onward) = refl
  left_after cells [] more (Reaches at object offset act) = refl
  left_after cells (answer ∷ answers) more (Asks at operation onward) = left_after cells answers more (onward answer)
  left_after cells (answer ∷ answers) more (Allocates at path onward) = left_after cells answers more (onward (is_true answer))
  left_after cells (answer ∷ answers) more (Reaches at object offset act) = left_after cells answers more act

  -- with the number of its first event as the answer, the rest of an act is the rest that the run has
  abbrev Answered : Setting → Act State → First State → Type 0
  Answered setting act (Silent next log) = left_of (read_cell setting) [] act ≡ Goes next
  Answered setting act (Shown shown left log) = (answers : List ℤ)
      → left_of (read_cell setting) (shown.answer ∷ answers) act ≡ left_of (read_cell setting) answers left
  Answered setting act (Ended outcome log) = Unit {0}

  either : (setting : Setting) (act : Act State) (room : Bool) (one other : First State) → Answered setting act one → Answered setting act other
      → Answered setting act (if room then one else other)
  either setting act true one other a b = a
  either setting act false one other a b = b

  -- reads and touches don't change the rest of an act
  same_left : (setting : Setting) (one other : Act State) (first : First State)
      → ((answers : List ℤ) → left_of (read_cell setting) answers one ≡ left_of (read_cell setting) answers other) → Answered setting other first
      → Answered setting one first
  same_left setting one other (Silent next log) same it = same [] ∙ it
  same_left setting one other (Shown shown left log) same it = λ answers. same (shown.answer ∷ answers) ∙ it answers
  same_left setting one other (Ended outcome log) same it = tt

  pub answered : (setting : Setting) (log : Log) (act : Act State) → Answered setting act (first_of setting log act)
  unfolding left_of first_of
  answered setting log (Goes next) = refl
  answered setting log (Stops outcome) = tt
  answered setting log (Reads path kind onward) =
      same_left setting (Reads path kind onward) (onward (read_cell setting path kind)) _ (λ answers. refl)
      (answered setting (with_read log path kind) (onward (read_cell setting path kind)))
  answered setting log (Touches touch act) = same_left setting (Touches touch act) act _ (λ answers. refl) (answered setting (with_touch log touch) act)
  answered setting log (Asks at operation onward) = either setting (Asks at operation onward) (allows_event setting log) _ _ (λ answers. refl) tt
  answered setting log (Allocates at path onward) =
      either setting (Allocates at path onward) (allows_event setting log) _ _
      (λ answers. ap (λ b. left_of (read_cell setting) answers (onward b)) (true_as_said (is_true (setting.inputs path)))) tt
  answered setting log (Reaches at object offset act) = either setting (Reaches at object offset act) (allows_event setting log) _ _ (λ answers. refl) tt
