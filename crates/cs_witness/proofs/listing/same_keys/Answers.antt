use Rattle.std.proofs.Common.{◌≡◌, ◌<◌, ◌≤◌, IsTrue, false, length, refl, sym, ap, ◌∙◌, arith, rules}
use Rattle.std.specs.Prelude.{ℤ}
use Rattle.std.specs.Map.{keys_of}
use Rattle.cs_inputs.specs.declared.path.Path.{Path}
use Rattle.std.proofs.lemmas.List.{take_all}
use Rattle.std.proofs.lemmas.Map.Entries.{length-keys_of}
use Rattle.cs_witness.proofs.Keys.{keys_more, same_key}
use Rattle.cs_witness.proofs.listing.same_keys.Goals as goal

pub returns-then-one-other : goal.returns-then-one-other
returns-then-one-other c =
    let one = c.args.one.now in
    let other = c.args.other.now in (
      λ no. absurd (cc),
      λ same.
          let lengths = ap length same in
          let a = length-keys_of one in
          let b = length-keys_of other in
          absurd (omega arith),
    )

pub returns-then-not-same_path : goal.returns-then-not-same_path
returns-then-not-same_path c =
    let one = c.args.one.now in
    let other = c.args.other.now in
    let i = c.loop-index.index in
    let no : c.same_path.result ≡ false = search rules in
    let below : i < length one = omega arith in
    let below' : i < length other = omega arith in (
      λ none. absurd (cc),
      λ same.
          let yes = c.same_path.ensures.1
          (same_key one other i c.index-one-index.result c.index-other-index.result below below' c.index-one-index.is c.index-other-index.is same) in
          absurd (cc),
    )

pub loop-index-preserved : goal.loop-index-preserved
loop-index-preserved c =
    let one = c.args.one.now in
    let other = c.args.other.now in
    let passes : IsTrue c.same_path.result = search rules in
    let below : c.loop-index.index < length one = omega arith in
    let below' : c.loop-index.index < length other = omega arith in
    keys_more one other c.loop-index.index c.index-one-index.result c.index-other-index.result below below' c.index-one-index.is c.index-other-index.is
    (ap (λ (e : Path × ℤ). e.0) c.index-one-index.is ∙ c.same_path.ensures.0 passes ∙ sym (ap (λ (e : Path × ℤ). e.0) c.index-other-index.is))
    c.loop-index.invariant

pub returns : goal.returns
returns c =
    let one = c.args.one.now in
    let other = c.args.other.now in
    let none : length one ≤ c.loop-index.index = omega arith in
    let none' : length other ≤ c.loop-index.index = omega arith in
    (λ _. sym (ap keys_of (take_all c.loop-index.index one none)) ∙ c.loop-index.invariant ∙ ap keys_of (take_all c.loop-index.index other none'), λ _. refl)
