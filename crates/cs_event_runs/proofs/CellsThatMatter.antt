-- A run depends only on the cells that its inputs determine where it reads them: with other inputs that determine the same cells it is the same.
use Rattle.std.proofs.Common.{◌≡◌, ℤ, Bool, true, false, List, [], ◌∷◌, ◌++◌, if◌then◌else◌, refl, sym, ap, ◌∙◌, subst}
use Rattle.std.proofs.lemmas.List.{append-nil, append_assoc}
use Rattle.cs_inputs.specs.declared.path.Path.{Path}
use Rattle.cs_ast.specs.declared.place.Place.{Place}
use Rattle.cs_events.specs.declared.event.Event.{Event}
use Rattle.cs_events.specs.declared.event.Label.TheVariants.{Alloc}
use Rattle.cs_events.specs.declared.outcome.Outcome.{Outcome}
use Rattle.cs_events.specs.declared.outcome.Outcome.TheVariants.{Over}
use Rattle.cs_events.specs.declared.outcome.Budget.TheVariants.{Events}
use Rattle.cs_events.specs.PendingEvents.{Tries}
use Rattle.cs_types.specs.declared.data_model.DataModel.{DataModel}
use Rattle.cs_events.specs.declared.input.InputKind.{InputKind}
use Rattle.cs_events.specs.declared.input.InputKind.TheVariants.{Integer, Pointer, Allocation, Nothing}
use Rattle.cs_events.specs.declared.input.Lookup.{Lookup}
use Rattle.cs_events.specs.InputCells.{input_cell}
use Rattle.cs_events.specs.Operations.{is_true, truth_number}
use Rattle.cs_events.specs.Acts.{Act, Goes, Stops, Reads, Asks, Allocates, Reaches, Touches}
use Rattle.cs_events.specs.Runs.{Setting, Log, EndsFrom, with_event, with_read, with_touch, allows_event, number_of}
use Rattle.cs_events.specs.Runs.{with_operation, with_allocation, with_access, read_cell}
use Rattle.cs_event_runs.specs.First.{Step, First, Silent, Shown, Ended, operated, tried, accessed, first_of}
use Rattle.cs_event_runs.specs.ByEvents.{RunsTo, ends, shows, silently}
use Rattle.cs_event_runs.specs.Settings.{log_in, GiveAlike, Agree, with_inputs}
use Rattle.cs_event_runs.proofs.EventLaws.{ends_by_events, events_by_end}

-- if inputs agree on a longer list, they agree on its beginning, and on its last element
beginning : (model : DataModel) (one other : Path → ℤ) (lookups more : List Lookup) → Agree model one other (lookups ++ more)
    → Agree model one other lookups
beginning model one other [] more agree = tt
beginning model one other (lookup ∷ lookups) more agree = (agree.0, beginning model one other lookups more agree.1)

at_last : (model : DataModel) (one other : Path → ℤ) (lookups : List Lookup) (lookup : Lookup) → Agree model one other (lookups ++ lookup ∷ [])
    → GiveAlike model one other lookup
at_last model one other [] lookup agree = agree.0
at_last model one other (first ∷ lookups) lookup agree = at_last model one other lookups lookup agree.1

-- inputs that determine the same for a lookup determine the same cell
one_cell : (model : DataModel) (one other : Path → ℤ) (path : Path) (kind : InputKind) → GiveAlike model one other (record { path = path; kind = kind })
    → input_cell model path kind (one path) ≡ input_cell model path kind (other path)
one_cell model one other path (Integer ty) alike = alike
one_cell model one other path Pointer alike = alike
one_cell model one other path Allocation alike = refl
one_cell model one other path Nothing alike = refl

module _ {State : Type 0} (setting : Setting) where
  -- the lookups before what comes first extend those of the log
  abbrev Reads_on : Log → First State → Type 0
  Reads_on log first = (more : List Lookup) × ((log_in first).read ≡ log.read ++ more)

  none_more : (log : Log) (first : First State) → (log_in first).read ≡ log.read → Reads_on log first
  none_more log first e = ([], e ∙ sym (append-nil log.read))

  one_more : (log : Log) (path : Path) (kind : InputKind) (first : First State) → Reads_on (with_read log path kind) first → Reads_on log first
  one_more log path kind first later =
      let lookup : Lookup = record { path = path; kind = kind } in
      (lookup ∷ later.0, later.1 ∙ append_assoc log.read (lookup ∷ []) later.0)

  both : (log : Log) (room : Bool) (one other : First State) → Reads_on log one → Reads_on log other → Reads_on log (if room then one else other)
  both log true one other a b = a
  both log false one other a b = b

  reads_on : (log : Log) (act : Act State) → Reads_on log (first_of setting log act)
  unfolding first_of
  reads_on log (Goes next) = none_more log (Silent next log) refl
  reads_on log (Stops outcome) = none_more log (Ended outcome log) refl
  reads_on log (Reads path kind onward) =
      one_more log path kind (first_of setting (with_read log path kind) (onward (read_cell setting path kind)))
      (reads_on (with_read log path kind) (onward (read_cell setting path kind)))
  reads_on log (Touches touch act) = reads_on (with_touch log touch) act
  reads_on log (Asks at operation onward) =
      both log (allows_event setting log) _ _
      (none_more log (Shown (operated setting log at operation) (onward (number_of setting log operation))
      (with_operation setting log at operation)) refl) (none_more log (Ended (Over Events at) log) refl)
  reads_on log (Allocates at path onward) =
      both log (allows_event setting log) _ _ (record { path = path; kind = Allocation } ∷ [], refl) (none_more log (Ended (Over Events at) log) refl)
  reads_on log (Reaches at object offset act) =
      both log (allows_event setting log) _ _ (none_more log (Shown (accessed at object offset) act (with_access log at object offset)) refl)
      (none_more log (Ended (Over Events at) log) refl)

  -- inputs that agree on the paths up to what comes first agree on those of the log
  agree_before : (other : Path → ℤ) (log : Log) (act : Act State) → Agree setting.model setting.inputs other (log_in (first_of setting log act)).read
      → Agree setting.model setting.inputs other log.read
  agree_before other log act agree =
      let more = reads_on log act in
      beginning setting.model setting.inputs other log.read more.0 (subst (Agree setting.model setting.inputs other) more.1 agree)

  -- with inputs that agree there, the same comes first
  module _ (other : Path → ℤ) where
    allocates_alike : (room : Bool) (log : Log) (at : Place) (path : Path) (onward : Bool → Act State) →
        Agree setting.model setting.inputs other
        (log_in (if room then Shown (tried setting at path) (onward (is_true (setting.inputs path))) (with_allocation setting log at path)
        else Ended (Over Events at) log)).read →
        (if room then Shown (tried (with_inputs other setting) at path) (onward (is_true (other path)))
        (with_allocation (with_inputs other setting) log at path)
        else Ended (Over Events at) log)
        ≡ (if room then Shown (tried setting at path) (onward (is_true (setting.inputs path))) (with_allocation setting log at path)
        else Ended (Over Events at) log)
    allocates_alike true log at path onward agree =
        let e = at_last setting.model setting.inputs other log.read (record { path = path; kind = Allocation }) agree in
        let event : Bool → Event = λ b. record { place = at; label = Alloc b } in
        ap (λ b. Shown (record { pending = Tries at path; event = event b; answer = truth_number b }) (onward b)
        (with_event (with_read log path Allocation) (Tries at path) (event b))) (sym e)
    allocates_alike false log at path onward agree = refl

    first_alike : (log : Log) (act : Act State) → Agree setting.model setting.inputs other (log_in (first_of setting log act)).read
        → first_of (with_inputs other setting) log act ≡ first_of setting log act
    unfolding first_of
    first_alike log (Goes next) agree = refl
    first_alike log (Stops outcome) agree = refl
    first_alike log (Reads path kind onward) agree =
        let reported = agree_before other (with_read log path kind) (onward (read_cell setting path kind)) agree in
        let e = one_cell setting.model setting.inputs other path kind (at_last setting.model setting.inputs other log.read _ reported) in
        ap (λ c. first_of (with_inputs other setting) (with_read log path kind) (onward c)) (sym e)
        ∙ first_alike (with_read log path kind) (onward (read_cell setting path kind)) agree
    first_alike log (Touches touch act) agree = first_alike (with_touch log touch) act agree
    first_alike log (Asks at operation onward) agree = refl
    first_alike log (Allocates at path onward) agree = allocates_alike (allows_event setting log) log at path onward agree
    first_alike log (Reaches at object offset act) agree = refl

    module _ (step : State → Act State) where
      -- inputs that agree on all that a run reads agree on what it has read before
      agree_so_far : {first : First State} {steps : List Step} {outcome : Outcome} {end : Log} → RunsTo step setting first steps outcome end
          → Agree setting.model setting.inputs other end.read → Agree setting.model setting.inputs other (log_in first).read
      agree_so_far (ends e) agree = subst (λ f. Agree setting.model setting.inputs other (log_in f).read) (sym e) agree
      agree_so_far (shows {left = left} {log = log} e rest) agree =
          subst (λ f. Agree setting.model setting.inputs other (log_in f).read) (sym e) (agree_before other log left (agree_so_far rest agree))
      agree_so_far (silently {next = next} {log = log} e rest) agree =
          subst (λ f. Agree setting.model setting.inputs other (log_in f).read) (sym e) (agree_before other log (step next) (agree_so_far rest agree))

      runs_alike : {first : First State} {steps : List Step} {outcome : Outcome} {end : Log} → RunsTo step setting first steps outcome end
          → Agree setting.model setting.inputs other end.read → RunsTo step (with_inputs other setting) first steps outcome end
      runs_alike (ends e) agree = ends e
      runs_alike (shows {left = left} {log = log} {steps = steps} {outcome = outcome} {end = end} e rest) agree =
          let same = first_alike log left (agree_so_far rest agree) in
          shows e (subst (λ f. RunsTo step (with_inputs other setting) f steps outcome end) (sym same) (runs_alike rest agree))
      runs_alike (silently {next = next} {log = log} {steps = steps} {outcome = outcome} {end = end} e rest) agree =
          let same = first_alike log (step next) (agree_so_far rest agree) in
          silently e (subst (λ f. RunsTo step (with_inputs other setting) f steps outcome end) (sym same) (runs_alike rest agree))

      -- with inputs that agree on all that a run reads, the run is the same
      pub reads_alone_matter : {m : State} {log end : Log} {outcome : Outcome} → EndsFrom step setting m log outcome end
          → Agree setting.model setting.inputs other end.read → EndsFrom step (with_inputs other setting) m log outcome end
      reads_alone_matter {m = m} {log = log} {end = end} {outcome = outcome} one agree =
          let found = events_by_end step setting one in
          let same = first_alike log (step m) (agree_so_far found.runs agree) in
          ends_by_events step (with_inputs other setting)
          (subst (λ f. RunsTo step (with_inputs other setting) f found.steps outcome end) (sym same) (runs_alike found.runs agree))
