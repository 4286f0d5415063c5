use Rattle.std.specs.Prelude.{FitsSigned, Ok}
use Rattle.std.specs.Int.{w128}
use Rattle.std.proofs.lemmas.Int.{to_z-of_z}
use Rattle.cs_inputs.specs.InputText.{SpellsInput}
use Rattle.cs_inputs.proofs.InputTexts.{IsRight, right_err, accepts, refuses, round_trip, path_refused, number_refused, input_is}
use Rattle.cs_inputs.proofs.NumberTexts.{fits_machine}
use Rattle.cs_inputs.proofs.input_text.parse.Goals as goal

-- the result is right if the path is refused
with_no_path : (c : goal.After-from_residual) → IsRight c.args.text.now c.from_residual.result
with_no_path c = path_refused c.args.text.now c.split_before.result.0.now c.split_before.result.1.now c.in-Some.number.now c.in-Some.field-0-0.now
    c.split_before.ensures c.in-Some.ensures.cases.0 c.in_err-path.field-0.0 c.from_residual.result c.in_err-path.ensures c.from_residual.ensures.1

pub returns-in_err-path-clause-accepts : goal.returns-in_err-path-clause-accepts
returns-in_err-path-clause-accepts c = accepts c.args.text.now c.from_residual.result (with_no_path c)

pub returns-in_err-path-clause-err : goal.returns-in_err-path-clause-err
returns-in_err-path-clause-err c = right_err c.args.text.now c.from_residual.result (with_no_path c)

pub returns-in_err-path-clause-refuses : goal.returns-in_err-path-clause-refuses
returns-in_err-path-clause-refuses c = refuses c.args.text.now c.from_residual.result (with_no_path c)

pub returns-in_err-path-clause-round_trip : goal.returns-in_err-path-clause-round_trip
returns-in_err-path-clause-round_trip c = round_trip c.args.text.now c.from_residual.result (with_no_path c)

-- if the number is refused
with_no_number : (c : goal.After-drop-path-in_err-number) → IsRight c.args.text.now c.from_residual-in_err-number.result
with_no_number c = number_refused c.args.text.now c.split_before.result.0.now c.split_before.result.1.now c.in-Some.number.now c.in-Some.field-0-0.now
    c.split_before.ensures c.in-Some.ensures.cases.0 c.in_ok-path.path c.in_ok-path.ensures c.in_err-number.field-0.0 c.from_residual-in_err-number.result
    c.in_err-number.ensures c.from_residual-in_err-number.ensures.1

pub returns-in_err-number-clause-accepts : goal.returns-in_err-number-clause-accepts
returns-in_err-number-clause-accepts c = accepts c.args.text.now c.from_residual-in_err-number.result (with_no_number c)

pub returns-in_err-number-clause-err : goal.returns-in_err-number-clause-err
returns-in_err-number-clause-err c = right_err c.args.text.now c.from_residual-in_err-number.result (with_no_number c)

pub returns-in_err-number-clause-refuses : goal.returns-in_err-number-clause-refuses
returns-in_err-number-clause-refuses c = refuses c.args.text.now c.from_residual-in_err-number.result (with_no_number c)

pub returns-in_err-number-clause-round_trip : goal.returns-in_err-number-clause-round_trip
returns-in_err-number-clause-round_trip c = round_trip c.args.text.now c.from_residual-in_err-number.result (with_no_number c)

-- and if both are read
with_both : (c : goal.In_ok-number) → SpellsInput c.args.text.now c.in_ok-path.path c.in_ok-number.number
with_both c = input_is c.args.text.now c.split_before.result.0.now c.split_before.result.1.now c.in-Some.number.now c.in-Some.field-0-0.now
    c.split_before.ensures c.in-Some.ensures.cases.0 c.in_ok-path.path c.in_ok-path.ensures c.in_ok-number.number c.in_ok-number.ensures

fits : (c : goal.In_ok-number) → FitsSigned w128 c.in_ok-number.number
fits c = fits_machine c.in_ok-number.number c.in_ok-number.ensures.1

pub returns-clause-ok : goal.returns-clause-ok
returns-clause-ok c = let whole = fits c in simp to_z-of_z (with_both c)

pub returns-clause-accepts : goal.returns-clause-accepts
returns-clause-accepts c = let whole = fits c in simp to_z-of_z (accepts c.args.text.now (Ok (c.in_ok-path.path, c.in_ok-number.number)) (with_both c))

pub returns-clause-refuses : goal.returns-clause-refuses
returns-clause-refuses c = let whole = fits c in simp to_z-of_z (refuses c.args.text.now (Ok (c.in_ok-path.path, c.in_ok-number.number)) (with_both c))

pub returns-clause-round_trip : goal.returns-clause-round_trip
returns-clause-round_trip c = let whole = fits c in simp to_z-of_z (round_trip c.args.text.now (Ok (c.in_ok-path.path, c.in_ok-number.number)) (with_both c))
