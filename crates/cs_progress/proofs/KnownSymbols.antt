-- Terms over known symbols: for the contracts of `number_in`, `answer` and `ask`.
use Rattle.std.proofs.Common.{◌≡◌, ℕ, ℤ, Bool, Result, IfOk, sym, ap, ◌∙◌}
use Rattle.std.proofs.lemmas.Option.{none-some}
use Rattle.std.proofs.lemmas.Result.{IfOk-weaker}
use Rattle.cs_terms.specs.declared.term.Lin.{Lin}
use Rattle.cs_terms.specs.Term.{HasNoOtherSymbol}
use Rattle.cs_checker.specs.Answers.{constant}
use Rattle.cs_state.specs.declared.state.State.{State}
use Rattle.cs_progress.specs.Locals.{IsOver, IsOverKnown}

-- a constant has no symbol
pub constant_over : (known : ℕ → Bool) (number : ℤ) → IsOver known (constant number)
constant_over known number = λ symbol is. absurd (none-some symbol is)

pub constant_known : (state : State) (term : Lin) (number : ℤ) → term ≡ constant number → IsOverKnown state term
constant_known state term number is = λ program bases known have symbol there. absurd (none-some symbol (sym (ap (λ (t : Lin). t.sym) is) ∙ there))

-- a term over no other symbol than a known one is over known symbols
pub known_symbol : {E : Type 0} (state : State) (term : Lin) (answer : Result Lin E) → IsOverKnown state term
    → IfOk answer (λ made. HasNoOtherSymbol made.sym term.sym) → IfOk answer (IsOverKnown state)
known_symbol state term answer over same =
    IfOk-weaker answer (λ made. HasNoOtherSymbol made.sym term.sym) (IsOverKnown state)
    (λ made no_other program bases known have symbol there. over program bases known have symbol (no_other symbol there)) same
