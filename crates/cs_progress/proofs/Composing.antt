-- Parts of an act, one after the other: for the contracts of operations.
use Rattle.std.proofs.Common.{◌≡◌, ℤ, List, [], ◌∷◌, sym, ap, ◌∙◌, subst}
use Rattle.cs_inputs.specs.declared.path.Path.{Path}
use Rattle.cs_ast.specs.declared.place.Place.{Place}
use Rattle.cs_terms.specs.Term.{Valuation}
use Rattle.cs_events.specs.declared.input.InputKind.{InputKind}
use Rattle.cs_events.specs.declared.operation.Operation.{Operation}
use Rattle.cs_events.specs.Objects.{Cell}
use Rattle.cs_events.specs.Acts.{Act, Asks}
use Rattle.cs_event_runs.specs.Left.{left_of}
use Rattle.cs_cfg.specs.Working.{CodeState}
use Rattle.cs_regions.specs.declared.base.Base.{Base}
use Rattle.cs_state.specs.declared.state.State.{State}
use Rattle.cs_progress.specs.declared.next.Next.{Next}
use Rattle.cs_progress.specs.Acting.{UsesAll, Leads, BeginsWith}

module _ (cells : Path → InputKind → Cell) where
  -- two parts of an act, one after the other
  pub leads_on : (a b c : List ℤ) (one two three : Act CodeState)
      → Leads cells a b one two → Leads cells b c two three → Leads cells a c one three
  leads_on a b c one two three first second uses =
      let led = first uses in
      let further = second led.1 in
      (led.0 ∙ further.0, further.1)

  -- what comes first after a part comes first before it
  pub waits_on : (a b : List ℤ) (one two : Act CodeState) (bases : List Base) (state : State) (valuation : Valuation) (first : Next)
      → Leads cells a b one two → (UsesAll cells b two → BeginsWith bases state valuation first (left_of cells b two))
      → UsesAll cells a one → BeginsWith bases state valuation first (left_of cells a one)
  waits_on a b one two bases state valuation first leads stands uses =
      let led = leads uses in
      subst (BeginsWith bases state valuation first) (sym led.0) (stands led.1)

  -- an operation is answered by the next answer
  pub leads_answered : (before after : List ℤ) (number : ℤ) (at : Place) (operation : Operation) (onward : ℤ → Act CodeState)
      → before ≡ number ∷ after → Leads cells before after (Asks at operation onward) (onward number)
  unfolding left_of UsesAll
  leads_answered before after number at operation onward next uses = (
    ap (λ answers. left_of cells answers (Asks at operation onward)) next,
    subst (λ answers. UsesAll cells answers (Asks at operation onward)) next uses,
  )

  -- an operation comes first if no answer remains
  pub asks_first : (answers : List ℤ) (at : Place) (operation : Operation) (onward : ℤ → Act CodeState)
      → answers ≡ [] → left_of cells answers (Asks at operation onward) ≡ Asks at operation onward
  unfolding left_of
  asks_first answers at operation onward none = ap (λ given. left_of cells given (Asks at operation onward)) none
