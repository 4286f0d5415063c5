use Rattle.std.proofs.Common.{◌≡◌, ◌∙◌, ◌++◌, ◌≤◌, length, take, nat_eq, rules, true, false}
use Rattle.std.specs.List.{flat_map}
use Rattle.std.specs.Cmp.Lexicographic.{pointwise}
use Rattle.cs_word_lists.specs.Bytes.{bytes_of}
use Rattle.cs_keys.proofs.Divided.{from_place, go_on_after, differ_after}
use Rattle.cs_keys.proofs.compared.are_same.Goals as goal

pub returns-then-ne : goal.returns-then-ne
returns-then-ne c =
    let one = c.go_on.new.self in
    let other = c.go_on-in-loop-one.new.self in
    let count = c.min-count.result in
    let in_one : count ≤ length one.run.now = search rules in
    let in_other : count ≤ length other.run.now = search rules in
    let differ : pointwise nat_eq (take count one.run.now) (take count other.run.now) ≡ false = search rules in
    differ_after count one.run.now other.run.now (flat_map bytes_of one.later.now ++ one.last.now)
    (flat_map bytes_of other.later.now ++ other.last.now) in_one in_other differ
    ∙ (λ i. pointwise nat_eq (c.go_on.ensures.same i) (c.go_on-in-loop-one.ensures.same i))
    ∙ c.loop-one.invariant

pub loop-one-preserved : goal.loop-one-preserved
loop-one-preserved c =
    let one = c.go_on.new.self in
    let other = c.go_on-in-loop-one.new.self in
    let count = c.min-count.result in
    let alike : pointwise nat_eq (take count one.run.now) (take count other.run.now) ≡ true = search rules in
    let whole = go_on_after count one.run.now other.run.now (flat_map bytes_of one.later.now ++ one.last.now)
    (flat_map bytes_of other.later.now ++ other.last.now) alike
    ∙ (λ i. pointwise nat_eq (c.go_on.ensures.same i) (c.go_on-in-loop-one.ensures.same i))
    ∙ c.loop-one.invariant in
    (λ i.
    pointwise nat_eq (from_place count one.run.now i ++ (flat_map bytes_of one.later.now ++ one.last.now))
    (from_place count other.run.now i ++ (flat_map bytes_of other.later.now ++ other.last.now)))
    ∙ whole
