use Rattle.std.proofs.Common.{◌≡◌, ◌∷◌, ◌≤◌, length, arith}
use Rattle.std.proofs.lemmas.Int.{to_z-of_z}
use Rattle.cs_inputs.proofs.NumberTexts.{fits_machine}
use Rattle.cs_words.specs.Meaning.{words_text}
use Rattle.cs_words.proofs.EnteredInputs.{one_more}
use Rattle.cs_words.proofs.WordLists.{first_text, no_input_there}
use Rattle.cs_words.proofs.inputs.inputs_of.Goals as goal

pub returns-in-Err : goal.returns-in-Err
returns-in-Err c =
    let first : words_text c.loop-word.rest.now ≡ c.as_bytes.result.now ∷ words_text c.in-Some.others.now =
    first_text c.loop-word.rest.now c.in-Some.word.now c.in-Some.others.now c.as_bytes.result.now c.in-Some.ensures.cases.0 c.as_bytes.ensures.value in
    no_input_there c.args.words.now c.args.following.now c.loop-word.rest.now c.in-Some.others.now c.loop-word.inputs c.as_bytes.result.now c.parse.result
    c.in-Err.cause c.refused_for.result c.loop-word.invariant.0 first c.in-Err.is c.parse.ensures.accepts c.refused_for.ensures

pub loop-word-preserved : goal.loop-word-preserved
loop-word-preserved c =
    let first : words_text c.loop-word.rest.now ≡ c.as_bytes.result.now ∷ words_text c.in-Some.others.now =
    first_text c.loop-word.rest.now c.in-Some.word.now c.in-Some.others.now c.as_bytes.result.now c.in-Some.ensures.cases.0 c.as_bytes.ensures.value in
    let fits = fits_machine c.in-Ok.number c.in-Ok.ensures.ok.within in
    let left : length c.in-Some.others.now ≤ length c.args.words.now = omega (arith, c.in-Some.ensures.cases.1, c.loop-word.invariant.1) in (
      one_more (words_text c.args.following.now) c.loop-word.inputs c.set.new.self (words_text c.loop-word.rest.now) c.as_bytes.result.now
          (words_text c.in-Some.others.now) c.in-Ok.path c.in-Ok.number c.loop-word.invariant.0 first c.in-Ok.ensures.ok
          (simp to_z-of_z at c.in_ok-set-in-Ok.ensures.ok),
      left,
    )
