use Rattle.std.proofs.Common.{rules, of_calls, ◌≡◌, ℕ, ◌-◌, ◌<◌, ◌≤◌, true, false, sym, arith}
use Rattle.std.specs.Prelude.{nat_le}
use Rattle.std.proofs.lemmas.Bool.Decides.{nat_tests}
use Rattle.std.proofs.lemmas.Fn.{always_returns_same}
use Rattle.cs_objects.specs.PieceOrder.{start_of}
use Rattle.cs_objects.proofs.Searching.{all_past, nearest_alone, starts_rise}
use Rattle.cs_objects.proofs.pieces.nearest.Goals as goal

-- if the larger number is at most the offset, so is the smaller one
at_or_before : (a b offset : ℕ) → a ≤ b → nat_le b offset ≡ true → nat_le a offset ≡ true
at_or_before a b offset up below = grind (arith, nat_tests)

at_most : (a b : ℕ) → nat_le a b ≡ true → a ≤ b
at_most a b e = grind (arith, nat_tests)

above : (a b : ℕ) → nat_le a b ≡ false → b < a
above a b e = grind (arith, nat_tests)

pub returns-then-count-eq0 : goal.returns-then-count-eq0
returns-then-count-eq0 c =
    let pieces = c.args.pieces.now in
    let point = c.partition_point-count.ensures.partitioned (λ p. nat_le (start_of p) c.args.offset)
    (always_returns_same _ _ _ (λ a r f k. search (rules, of_calls)))
    (λ i j d up below there. at_or_before _ _ _ (starts_rise 0 pieces c.requires i j d up below) there) in
    λ program scalar.
    sym (all_past program scalar c.args.offset pieces (λ k d below. above _ _ (point.1 k d (omega (arith, c.if-count-eq0.true)) below)))

pub returns-else-count-eq0 : goal.returns-else-count-eq0
returns-else-count-eq0 c =
    let pieces = c.args.pieces.now in
    let count = c.partition_point-count.result in
    let bound = c.partition_point-count.ensures.bound in
    let point = c.partition_point-count.ensures.partitioned (λ p. nat_le (start_of p) c.args.offset)
    (always_returns_same _ _ _ (λ a r f k. search (rules, of_calls)))
    (λ i j d up below there. at_or_before _ _ _ (starts_rise 0 pieces c.requires i j d up below) there) in
    let one : count - (count - 1) ≡ 1 = omega arith in
    rw one
    (λ program scalar.
    nearest_alone program scalar c.args.offset 0 (count - 1) pieces c.requires (omega arith)
    (λ k d up. at_most _ _ (point.0 k d (omega arith) (omega (arith, up, c.if-count-eq0.false))))
    (λ k d after below. above _ _ (point.1 k d (omega (arith, after)) below)))
