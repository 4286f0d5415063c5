use Rattle.std.proofs.Common.{◌≡◌, ◌≤◌, take, drop, length, vec_capacity}
use Rattle.cs_checker.specs.Asked.{IsAsked}
use Rattle.cs_checker.proofs.checker.ask_each.Given as goal

abbrev pub invariant-loop-checker : goal.invariant-loop-checker
invariant-loop-checker g l =
    IsAsked (λ b. (goal.Checker-dyn g (b.vtable, b.value)).kind_of b.value) (λ b. (goal.Checker-dyn g (b.vtable, b.value)).count_of b.value)
    l.subject (take l.checker-index l.fn.checkers.items) (take l.checker-index l.checker-items) l.answers.items
    × (drop l.checker-index l.checker-items ≡ drop l.checker-index l.fn.checkers.items)
    × (length l.checker-items ≡ length l.fn.checkers.items)
    × (length l.answers.items ≡ l.checker-index)
    × (length l.checker-items ≤ vec_capacity l.answers)
