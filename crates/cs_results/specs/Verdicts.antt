-- The verdicts of entries: their words, and tests for each of them.
use Rattle.std.specs.Prelude.{ℕ, Bool, true, false, List, codes}
use Rattle.cs_results.specs.declared.result.Verdict.{Verdict}
use Rattle.cs_results.specs.declared.result.Verdict.TheVariants.{Complete, Bounded, Cut}

abbrev pub verdict_name : Verdict → List ℕ
verdict_name Complete = codes "complete"
verdict_name Bounded = codes "bounded"
verdict_name Cut = codes "cut"

abbrev pub is_complete : Verdict → Bool
is_complete Complete = true
is_complete Bounded = false
is_complete Cut = false

abbrev pub is_bounded : Verdict → Bool
is_bounded Complete = false
is_bounded Bounded = true
is_bounded Cut = false

abbrev pub is_cut : Verdict → Bool
is_cut Complete = false
is_cut Bounded = false
is_cut Cut = true
