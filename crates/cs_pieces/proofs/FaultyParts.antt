-- The faulty parts of a state end, and the rest continues: for the contract of `find`.
use Rattle.std.proofs.Common.{◌≡◌, ℕ, suc, Bool, true, false, not, List, [], ◌∷◌, ◌||◌, All, inl, inr, refl, sym, ap, ◌∙◌, subst}
use Rattle.std.specs.Prelude.{◌⊎◌, Contains, ◌≤◌}
use Rattle.std.specs.FinMap as finite
use Rattle.std.proofs.lemmas.List.Elements.{All-nil, All-cons, All-head, All-tail}
use Rattle.cs_inputs.specs.declared.path.Path.{Path}
use Rattle.cs_ast.specs.declared.place.Place.{Place}
use Rattle.cs_ast.specs.TypedProgram.{TypedProgram}
use Rattle.cs_model.specs.declared.kind.Kind.{Kind}
use Rattle.cs_terms.specs.Term.{Valuation}
use Rattle.cs_constraints.specs.Constraints.{Fits}
use Rattle.cs_checker.specs.declared.subject.Subject.{Subject}
use Rattle.cs_checker.specs.Faults.{is_faulty_for}
use Rattle.cs_events.specs.declared.input.InputKind.{InputKind}
use Rattle.cs_events.specs.declared.outcome.Outcome.TheVariants.{Fault}
use Rattle.cs_events.specs.declared.outcome.RunBudgets.{RunBudgets}
use Rattle.cs_events.specs.Objects.{Cell, UnsetCell}
use Rattle.cs_events.specs.Acts.{Act, Stops}
use Rattle.cs_events.specs.Runs.{Setting, Log, read_cell}
use Rattle.cs_cfg.specs.Graph.{Code}
use Rattle.cs_cfg.specs.Working.{CodeState}
use Rattle.cs_access.specs.Checks.{IsPart, AreFaults, IsRest, is_faulty}
use Rattle.cs_access.specs.declared.checking.Checked.{Checked}
use Rattle.cs_access.specs.declared.checking.FaultyPart.{FaultyPart}
use Rattle.cs_access.specs.declared.checking.Rest.{Rest}
use Rattle.cs_access.specs.declared.checking.Rest.TheVariants.{Whole, Part, Nothing}
use Rattle.cs_state.specs.declared.state.State.{State}
use Rattle.cs_state.specs.Cells.{block_of}
use Rattle.cs_state.specs.Naming.{Naming}
use Rattle.cs_state.specs.Writes.{with_constraints}
use Rattle.cs_progress.specs.Acting.{BeginsWithCheck, ComesOf}
use Rattle.cs_cfg.specs.IntegerCode.{HasIntegerCode}
use Rattle.cs_progress.specs.Locals.{HasLocalsAlone}
use Rattle.cs_progress.specs.Stepping.{next_left, UsesAnswers}
use Rattle.cs_explored.specs.declared.watch.Rule.{Rule}
use Rattle.cs_pieces.specs.Pieces.{AreFaultyEnds}
use Rattle.cs_pieces.specs.Pieces.{IsFaultyEnd, GoesOn}
use Rattle.cs_successors.specs.EntryRuns.{stays}
use Rattle.cs_successors.specs.Coming.{is_declared, IsIntegerState, MentionsNoOthers, StateEnd, IsAt, EndsIn, IsEndOf, ComesToEnd, IsReachedFrom}
use Rattle.cs_pieces.proofs.DeclaredSymbols.{stays_declared, locals_more, answers_more}
use Rattle.cs_pieces.proofs.Reaching.{Comes, ends_come}
use Rattle.cs_pieces.proofs.StandingFirst.{stands_first}

-- some test holds, or none
decided : (b : Bool) → (b ≡ true) ⊎ (b ≡ false)
decided true = inl refl
decided false = inr refl

module _ (code : Code) (program : TypedProgram) (budgets : RunBudgets) (names : Naming) (state : State)
    (is : IsIntegerState code program budgets names state) where
  module _ (test : Valuation → Bool) (part : State) (is_part : IsPart state test part) where
    part_fits : (v : Valuation) → Fits v part.constraints → Fits v state.constraints
    part_fits v fits = ((is_part.exactly v).0 fits).0

    -- the next act of a part of a state is the state's
    part_left : (cells : Path → InputKind → Cell) (v : Valuation)
        → next_left code names program budgets cells part v ≡ next_left code names program budgets cells state v
    part_left cells v = ap (λ (s : State). next_left code names program budgets cells s v) is_part.rest

    part_at : (setting : Setting) (v : Valuation) (left : Act CodeState) (log : Log) → IsAt code program budgets names state setting v left log
        → Fits v part.constraints → IsAt code program budgets names part setting v left log
    part_at setting v left log at fits = record {
      fits = fits;
      same = at.same ∙ sym (part_left (read_cell setting) v);
      passed = at.passed ∙ sym (ap (λ (s : State). s.counters.events) is_part.rest);
    }

    -- and mentions no other symbols
    part_mentions : MentionsNoOthers code program budgets names state part
    part_mentions known mentioned = subst (HasLocalsAlone program names.bases known) (sym is_part.rest) (record {
      callers = mentioned.callers;
      answers = mentioned.answers;
      temporaries = mentioned.temporaries;
      stored = mentioned.stored;
      filled = mentioned.filled;
      result = mentioned.result;
      read = mentioned.read;
    })

    -- and is a state of integers only
    part_integer : IsIntegerState code program budgets names part
    part_integer = record {
      model = ap (λ (s : State). s.model) is_part.rest ∙ is.model;
      integers = subst (λ (s : State). HasIntegerCode code program s.frame.spot.function) (sym is_part.rest) is.integers;
      locals = locals_more (is_declared state.constraints) (is_declared part.constraints) more program names.bases state part state.answers is.locals
          (is_part.rest ∙ same) (answers_more (is_declared state.constraints) (is_declared part.constraints) more state.answers is.locals.answers);
      blocks = λ base. ap (λ (s : State). block_of s.blocks base) is_part.rest ∙ is.blocks base;
      uses = λ cells v fits.
          subst (λ (s : State). UsesAnswers code names program budgets cells s v) (sym is_part.rest) (is.uses cells v (part_fits v fits));
      possible = is_part.some;
      guessed = λ asked among.
          subst (λ (s : State). asked.event ≤ s.counters.events) (sym is_part.rest)
          (is.guessed asked (subst (λ (s : State). Contains (finite.values s.asked) asked) is_part.rest among));
    }
      where
        more : (symbol : ℕ) → is_declared state.constraints symbol ≡ true → is_declared part.constraints symbol ≡ true
        more = stays_declared state.constraints part.constraints is_part.some part_fits

        same : with_constraints part.constraints state ≡ record state {
          constraints = part.constraints;
          answers = state.answers;
          counters = part.counters;
          asked = part.asked;
          phase = part.phase;
        }
        same = λ i. record state {
          constraints = part.constraints;
          answers = state.answers;
          counters = ap (λ (s : State). s.counters) (sym is_part.rest) i;
          asked = ap (λ (s : State). s.asked) (sym is_part.rest) i;
          phase = ap (λ (s : State). s.phase) (sym is_part.rest) i;
        }

  module _ (at : Place) where
    -- under each valuation that fits a faulty part, the operation in progress stops with the fault
    abbrev IsFault : FaultyPart → Type 0
    IsFault part = (cells : Path → InputKind → Cell) (v : Valuation) → Fits v state.constraints → Fits v part.state.constraints
        → next_left code names program budgets cells state v ≡ Stops (Fault part.kind at)

    module _ (test : Valuation → Bool) (part : FaultyPart) (end : StateEnd) (is_part : IsPart state test part.state) (fault : IsFault part)
        (is_end : IsFaultyEnd at part end) where
      faulty_fits : (v : Valuation) → Fits v end.1.value.constraints → Fits v part.state.constraints
      faulty_fits v fits = subst (λ (s : State). Fits v s.constraints) is_end.1 fits

      part_ends : (setting : Setting) (v : Valuation) (left : Act CodeState) (log : Log) → IsAt code program budgets names state setting v left log
          → Fits v part.state.constraints → EndsIn code program budgets names end.0 end.1.value setting v left log
      part_ends setting v left log here fits =
          let first = stands_first setting log left (Stops (Fault part.kind at)) (here.same ∙ fault (read_cell setting) v here.fits fits) in
          record {
            last = left;
            before = log;
            ended = Fault part.kind at;
            after = first.0;
            proceeds = stays refl refl;
            comes = subst (λ (s : State). IsAt code program budgets names s setting v left log) (sym is_end.1)
                (part_at test part.state is_part setting v left log here fits);
            ends = first.2;
            same = is_end.0;
            returned = tt;
          }

      -- a faulty part is an end
      part_is_end : IsEndOf code program budgets names state end
      part_is_end = record {
        model = ap (λ (s : State). s.model) is_end.1 ∙ (part_integer test part.state is_part).model;
        possible = subst (λ (s : State). (v : Valuation) × Fits v s.constraints) (sym is_end.1) is_part.some;
        fits = λ v fits. part_fits test part.state is_part v (faulty_fits v fits);
        phase = ap (λ (s : State). s.phase) is_end.1 ∙ ap (λ (s : State). s.phase) is_part.rest;
        asked = ap (λ (s : State). s.asked) is_end.1 ∙ ap (λ (s : State). s.asked) is_part.rest;
        blocks = ap (λ (s : State). s.blocks) is_end.1 ∙ ap (λ (s : State). s.blocks) is_part.rest;
        mentions = λ known mentioned.
            subst (HasLocalsAlone program names.bases known) (sym is_end.1) (part_mentions test part.state is_part known mentioned);
        locals = subst (λ (s : State). HasLocalsAlone program names.bases (is_declared s.constraints) s) (sym is_end.1)
            (part_integer test part.state is_part).locals;
        integers = subst (λ (s : State). HasIntegerCode code program s.frame.spot.function) (sym is_end.1)
            (part_integer test part.state is_part).integers;
        ends = λ setting v left log goes here fits. part_ends setting v left log here (faulty_fits v fits);
      }

    module _ (subject : Subject) where
      -- the parts of a check are ends
      parts_are_ends : (kinds : List Kind) (parts : List FaultyPart) (ends : List StateEnd) → AreFaults state subject kinds parts
          → All IsFault parts → AreFaultyEnds at parts ends → All (IsEndOf code program budgets names state) ends
      parts_are_ends [] parts ends are faults match = none ends (subst (λ (ps : List FaultyPart). AreFaultyEnds at ps ends) are match)
        where
          none : (ends : List StateEnd) → AreFaultyEnds at [] ends → All (IsEndOf code program budgets names state) ends
          none [] match = All-nil (IsEndOf code program budgets names state)
          none (end ∷ ends) match = absurd match
      parts_are_ends (kind ∷ kinds) parts ends (inl never) faults match = parts_are_ends kinds parts ends never.1 faults match
      parts_are_ends (kind ∷ kinds) parts ends (inr (part, rest, all, its_kind, is_part, others)) faults match =
          some ends (subst (λ (ps : List FaultyPart). AreFaultyEnds at ps ends) all match)
          (λ ends match. parts_are_ends kinds rest ends others (All-tail IsFault part rest (subst (All IsFault) all faults)) match)
        where
          each : All IsFault (part ∷ rest)
          each = subst (All IsFault) all faults

          some : (ends : List StateEnd) → AreFaultyEnds at (part ∷ rest) ends
              → ((ends : List StateEnd) → AreFaultyEnds at rest ends → All (IsEndOf code program budgets names state) ends)
              → All (IsEndOf code program budgets names state) ends
          some [] match more = absurd match
          some (end ∷ ends) match more =
              All-cons (IsEndOf code program budgets names state) end ends
              (part_is_end (is_faulty_for kind subject) part end is_part (All-head IsFault part rest each) match.0) (more ends match.1)

      -- and if the operation is faulty, one of them has the fault
      parts_cover : (kinds : List Kind) (parts : List FaultyPart) (ends : List StateEnd) → AreFaults state subject kinds parts
          → All IsFault parts → AreFaultyEnds at parts ends
          → (setting : Setting) (v : Valuation) (left : Act CodeState) (log : Log) → IsAt code program budgets names state setting v left log
          → is_faulty kinds subject v ≡ true → ComesToEnd code program budgets names ends setting v left log
      parts_cover [] parts ends are faults match setting v left log here faulty = cc
      parts_cover (kind ∷ kinds) parts ends (inl never) faults match setting v left log here faulty =
          parts_cover kinds parts ends never.1 faults match setting v left log here
          (sym (ap (λ (b : Bool). b || is_faulty kinds subject v) (never.0 v here.fits)) ∙ faulty)
      parts_cover (kind ∷ kinds) parts ends (inr (part, rest, all, its_kind, is_part, others)) faults match setting v left log here faulty =
          some ends (subst (λ (ps : List FaultyPart). AreFaultyEnds at ps ends) all match) (decided (is_faulty_for kind subject v))
          (λ fails ends match.
          parts_cover kinds rest ends others (All-tail IsFault part rest (subst (All IsFault) all faults)) match setting v left log here
          (sym (ap (λ (b : Bool). b || is_faulty kinds subject v) fails) ∙ faulty))
        where
          each : All IsFault (part ∷ rest)
          each = subst (All IsFault) all faults

          some : (ends : List StateEnd) → AreFaultyEnds at (part ∷ rest) ends
              → (is_faulty_for kind subject v ≡ true) ⊎ (is_faulty_for kind subject v ≡ false)
              → (is_faulty_for kind subject v ≡ false → (ends : List StateEnd) → AreFaultyEnds at rest ends
              → ComesToEnd code program budgets names ends setting v left log)
              → ComesToEnd code program budgets names ends setting v left log
          some [] match holds more = absurd match
          some (end ∷ ends) match (inl holds) more = record {
            place = 0;
            end = end;
            there = refl;
            ending = part_ends (is_faulty_for kind subject) part end is_part (All-head IsFault part rest each) match.0 setting v left log here
                ((is_part.exactly v).1 (here.fits, holds));
          }
          some (end ∷ ends) match (inr fails) more =
              let later = more fails ends match.1 in
              record { place = suc later.place; end = later.end; there = later.there; ending = later.ending }

    module _ (checked : Checked) (ends : List StateEnd)
        (begins : (cells : Path → InputKind → Cell) (v : Valuation) → Fits v state.constraints
        → BeginsWithCheck state v at checked (next_left code names program budgets cells state v))
        (match : AreFaultyEnds at checked.faults.items ends) where
      abbrev no_cells : Path → InputKind → Cell
      no_cells path kind = UnsetCell

      parts : ComesOf state checked
      parts = (begins no_cells is.possible.0 is.possible.1).parts

      faults : All IsFault checked.faults.items
      faults = λ k d within cells v fits. (begins cells v fits).faults k d within

      end_each : All (IsEndOf code program budgets names state) ends
      end_each = parts_are_ends parts.subject parts.kinds checked.faults.items ends parts.faults faults match

      cover : (setting : Setting) (v : Valuation) (left : Act CodeState) (log : Log) → IsAt code program budgets names state setting v left log
          → is_faulty parts.kinds parts.subject v ≡ true → ComesToEnd code program budgets names ends setting v left log
      cover = parts_cover parts.subject parts.kinds checked.faults.items ends parts.faults faults match

      -- the rest continues
      pub rest_reached : (goes : Bool) (after : State) → GoesOn checked.rest goes state after → goes ≡ true
          → IsReachedFrom code program budgets names state after ends
      rest_reached goes after on is_true = by checked.rest parts.rest on
        where
          by : (rest : Rest) → IsRest state parts.subject parts.kinds rest → GoesOn rest goes state after
              → IsReachedFrom code program budgets names state after ends
          by Whole none on =
              subst (λ (s : State). IsReachedFrom code program budgets names state s ends) (sym on.1) (record {
                integer = is;
                events = refl;
                phase = refl;
                asked = refl;
                blocks = refl;
                mentions = λ known mentioned. mentioned;
                fits = λ v fits. fits;
                endings = end_each;
                comes = λ setting v left log goes here fits. record { rest = left; later = log; proceeds = stays refl refl; comes = here };
                covers = λ setting v left log goes here. inl here.fits;
              })
          by (Part part) is_part on =
              let test : Valuation → Bool = λ v. not (is_faulty parts.kinds parts.subject v) in
              subst (λ (s : State). IsReachedFrom code program budgets names state s ends) (sym on.1) (record {
                integer = part_integer test part.value is_part;
                events = ap (λ (s : State). s.counters.events) is_part.rest;
                phase = ap (λ (s : State). s.phase) is_part.rest;
                asked = ap (λ (s : State). s.asked) is_part.rest;
                blocks = ap (λ (s : State). s.blocks) is_part.rest;
                mentions = part_mentions test part.value is_part;
                fits = part_fits test part.value is_part;
                endings = end_each;
                comes = λ setting v left log goes here fits.
                    record { rest = left; later = log; proceeds = stays refl refl; comes = part_at test part.value is_part setting v left log here fits };
                covers = λ setting v left log goes here. elim (decided (is_faulty parts.kinds parts.subject v)) [
                  | inl holds ↦ inr (cover setting v left log here holds)
                  | inr fails ↦ inl ((is_part.exactly v).1 (here.fits, ap not fails))
                ];
              })
          by Nothing all on = let wrong : true ≡ false = sym is_true ∙ on.0 in cc

      -- or there is no rest
      pub nothing_left : (rules : List Rule) (goes : Bool) (after : State) → GoesOn checked.rest goes state after → goes ≡ false
          → Comes code program budgets names rules state [] ends
      nothing_left rules goes after on is_false =
          ends_come code program budgets names rules state ends end_each
          (λ setting v left log goes here. cover setting v left log here (all_faulty checked.rest parts.rest on v here.fits))
        where
          all_faulty : (rest : Rest) → IsRest state parts.subject parts.kinds rest → GoesOn rest goes state after
              → (v : Valuation) → Fits v state.constraints → is_faulty parts.kinds parts.subject v ≡ true
          all_faulty Whole none on = let wrong : true ≡ false = sym on.0 ∙ is_false in cc
          all_faulty (Part part) is_part on = let wrong : true ≡ false = sym on.0 ∙ is_false in cc
          all_faulty Nothing all on = all
