use Rattle.std.specs.Prelude.{ℤ, ◌+ℤ◌, ◌-ℤ◌, ◌*ℤ◌}

-- the affine function with this slope and this value at the number `at`
abbrev pub affine : ℤ → ℤ → ℤ → ℤ → ℤ
affine slope at value s = value +ℤ slope *ℤ (s -ℤ at)
