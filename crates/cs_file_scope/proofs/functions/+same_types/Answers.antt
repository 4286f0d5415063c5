use Rattle.std.proofs.Common.{◌≡◌, ◌≤◌, length, arith, rules}
use Rattle.cs_file_scope.proofs.ParameterTypes.{more_types, fewer_types}
use Rattle.cs_file_scope.proofs.functions.+same_types.Goals as goal

pub returns-in-empty-len1-up : goal.returns-in-empty-len1-up
returns-in-empty-len1-up t c =
    let none : length c.args.types.now ≡ 0 = first_of (search rules, omega (arith, c.in-empty-len1-up), grind arith) in
    let some : 1 ≤ length c.args.parameters.now = first_of (search rules, omega (arith, c.in-empty-len1-up), grind arith) in
    fewer_types c.args.types.now c.args.parameters.now none some

pub returns-in-len1-up-empty : goal.returns-in-len1-up-empty
returns-in-len1-up-empty t c =
    let some : 1 ≤ length c.args.types.now = first_of (search rules, omega (arith, c.in-len1-up-empty), grind arith) in
    let none : length c.args.parameters.now ≡ 0 = first_of (search rules, omega (arith, c.in-len1-up-empty), grind arith) in
    more_types c.args.types.now c.args.parameters.now some none
