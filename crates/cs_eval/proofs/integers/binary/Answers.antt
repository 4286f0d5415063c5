use Rattle.cs_ast.specs.declared.typed.operator.BinOp.TheVariants.{Div, Shr, Xor, Or}
use Rattle.cs_eval.proofs.BinaryPieces.{binary_given, guessed_answers, not_both, div_guesses, shr_guesses, xor_guesses, or_guesses}
use Rattle.cs_eval.proofs.integers.binary.Goals as goal

pub returns-in-Add : goal.returns-in-Add
returns-in-Add c = rw c.in-Add.is c.plus.ensures

pub returns-in-Sub : goal.returns-in-Sub
returns-in-Sub c = rw c.in-Sub.is c.minus.ensures

pub returns-in-Mul : goal.returns-in-Mul
returns-in-Mul c = rw c.in-Mul.is c.times.ensures

pub returns-in-Shl : goal.returns-in-Shl
returns-in-Shl c = rw c.in-Shl.is c.shifted.ensures

pub returns-in-Rem : goal.returns-in-Rem
returns-in-Rem c = rw c.in-Rem.is c.remainder.ensures

pub returns-in-And : goal.returns-in-And
returns-in-And c = rw c.in-And.is c.masked.ensures

pub returns-in-Div : goal.returns-in-Div
returns-in-Div c =
    let model = c.args.setting.now.model in
    let sets = c.args.setting.now.constraints.now in
    let guess = c.args.setting.now.guess.0 in
    let given = binary_given sets guess c.args.left c.args.right c.requires.left c.requires.right c.requires.symbol c.requires.fresh in
    rw c.in-Div.is (
    guessed_answers model sets guess Div c.args.ty c.args.left c.args.right given (div_guesses model sets c.args.ty c.args.left c.args.right)
    (not_both sets guess c.args.left c.args.right given) _ (rw c.in-Div.is at c.guessed.ensures)
    )

pub returns-in-Shr : goal.returns-in-Shr
returns-in-Shr c =
    let model = c.args.setting.now.model in
    let sets = c.args.setting.now.constraints.now in
    let guess = c.args.setting.now.guess.0 in
    let given = binary_given sets guess c.args.left c.args.right c.requires.left c.requires.right c.requires.symbol c.requires.fresh in
    rw c.in-Shr.is (
    guessed_answers model sets guess Shr c.args.ty c.args.left c.args.right given (shr_guesses model sets c.args.ty c.args.left c.args.right)
    (not_both sets guess c.args.left c.args.right given) _ (rw c.in-Shr.is at c.guessed-in-Shr.ensures)
    )

pub returns-in-Xor : goal.returns-in-Xor
returns-in-Xor c =
    let model = c.args.setting.now.model in
    let sets = c.args.setting.now.constraints.now in
    let guess = c.args.setting.now.guess.0 in
    let given = binary_given sets guess c.args.left c.args.right c.requires.left c.requires.right c.requires.symbol c.requires.fresh in
    rw c.in-Xor.is (
    guessed_answers model sets guess Xor c.args.ty c.args.left c.args.right given (xor_guesses model sets c.args.ty c.args.left c.args.right)
    (not_both sets guess c.args.left c.args.right given) _ (rw c.in-Xor.is at c.guessed-in-Xor.ensures)
    )

pub returns-in-Or : goal.returns-in-Or
returns-in-Or c =
    let model = c.args.setting.now.model in
    let sets = c.args.setting.now.constraints.now in
    let guess = c.args.setting.now.guess.0 in
    let given = binary_given sets guess c.args.left c.args.right c.requires.left c.requires.right c.requires.symbol c.requires.fresh in
    rw c.in-Or.is (
    guessed_answers model sets guess Or c.args.ty c.args.left c.args.right given (or_guesses model sets c.args.ty c.args.left c.args.right)
    (not_both sets guess c.args.left c.args.right given) _ (rw c.in-Or.is at c.guessed-in-Or.ensures)
    )
