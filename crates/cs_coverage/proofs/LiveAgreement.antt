-- A valuation that agrees on what a state mentions agrees on all symbols on which its live part depends: for `Covers`.
use Rattle.std.proofs.Common.{◌≡◌, ◌≢◌, ℕ, Bool, true, false, List, refl, sym, ap, ◌∙◌}
use Rattle.std.proofs.lemmas.Bool.Decides.{Decides-int_eq}
use Rattle.cs_ast.specs.TypedProgram.{TypedProgram}
use Rattle.cs_terms.specs.Term.{Valuation}
use Rattle.cs_regions.specs.declared.base.Base.{Base}
use Rattle.cs_state.specs.declared.state.State.{State}
use Rattle.cs_explored.specs.Placing.{IsPlain}
use Rattle.cs_coverage.specs.Agreeing.{agreeing, AgreesOnMentioned}
use Rattle.cs_coverage.specs.Covering.{AgreesOnLive}
use Rattle.cs_coverage.proofs.LiveSame.{live_same}

pub agrees_on_live : (program : TypedProgram) (bases : List Base) (state : State) (own valuation : Valuation) → IsPlain state
    → AgreesOnMentioned program bases state own valuation → AgreesOnLive state own valuation
agrees_on_live program bases state own valuation plain agrees symbol live = by (agreeing own valuation symbol) refl
  where
    by : (same : Bool) → agreeing own valuation symbol ≡ same → valuation symbol ≡ own symbol
    by true is = (Decides-int_eq (valuation symbol) (own symbol)).0 is
    by false not =
        absurd (live.differs (live_same program bases agrees.known (agreeing own valuation) state agrees.mentions agrees.blocks plain live.sets
        (λ other is. live.elsewhere other (apart other ((Decides-int_eq (valuation other) (own other)).1 (agrees.agrees other is))))
        (λ other is. live.elsewhere other (apart other is))))
      where
        -- a symbol with the run's own number differs from one without
        apart : (other : ℕ) → agreeing own valuation other ≡ true → other ≢ symbol
        apart other is same =
            let wrong : true ≡ false = sym is ∙ ap (agreeing own valuation) same ∙ not in
            cc
