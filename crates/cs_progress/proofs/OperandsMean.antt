-- Operands of a state, and their values in the represented state of the code's run.
use Rattle.std.proofs.Common.{◌≡◌, ℕ, ◌+◌, List, map, take, drop, reverse, length, sym, ap, ◌∙◌}
use Rattle.std.proofs.lemmas.List.{length-map, take-map}
use Rattle.cs_meaning.specs.Machine.{Operand, with_stack}
use Rattle.cs_state.specs.declared.state.State.{State}
use Rattle.cs_state.specs.Cells.{operand_of}
use Rattle.cs_state.specs.Meaning.{meaning}
use Rattle.cs_state.specs.Writes.{with_temporaries}
use Rattle.cs_progress.specs.Operands.{MeansDropped}
use Rattle.cs_progress.proofs.Lists.{first_last}

stack_dropped : {A B : Type 0} (f : A → B) (xs : List A) (left count : ℕ) → left + count ≡ length xs
    → reverse (map f (take left xs)) ≡ drop count (reverse (map f xs))
stack_dropped f xs left count e = ap reverse (sym (take-map f left xs)) ∙ first_last (map f xs) left count (e ∙ sym (length-map xs f))

pub dropped : (state after : State) (left count : ℕ) → left + count ≡ length state.frame.temporaries
    → after ≡ with_temporaries (take left state.frame.temporaries) state → MeansDropped count state after
dropped state after left count e is = λ code names program v.
    ap (λ (s : State). meaning code names program s v) is
    ∙ ap (λ (stack : List Operand). with_stack stack (meaning code names program state v))
    (stack_dropped (operand_of names.bases state.blocks v) state.frame.temporaries left count e)
