-- How a proof distinguishes maps from symbols to sets.
use Rattle.std.specs.Prelude.{ℤ, List, refl}
use Rattle.std.specs.Coded.{Coded, code_by, coded×, coded_ℕ, coded_ℤ, coded_list}
use Rattle.std.specs.FinMap as map
use Rattle.cs_pmap.specs.Keys.{key_cmp}
use Rattle.cs_ranges.specs.declared.range_set.Interval.{Interval}

-- an interval is stored as the pair of its ends
abbrev pub interval_code : Coded Interval
interval_code =
    code_by (ℤ × ℤ) (coded× coded_ℤ coded_ℤ) (λ i. (i.low, i.high)) (λ ends. record { low = ends.0; high = ends.1 }) (λ i. refl)

-- a map as its entries
abbrev pub sets_code : Coded (map.FinMap key_cmp (List Interval))
sets_code = map.code (coded× coded_ℕ coded_ℕ) (coded_list interval_code)
