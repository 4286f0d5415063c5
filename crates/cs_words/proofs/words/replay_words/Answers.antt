use Rattle.std.proofs.Common.{◌≡◌, ◌∷◌, ap, sym, ◌∙◌}
use Rattle.cs_inputs.specs.PathText.{is_name}
use Rattle.cs_words.specs.Meaning.{words_text}
use Rattle.cs_words.proofs.WholeWords.{replay_right}
use Rattle.cs_words.proofs.WordLists.{first_text, missing_entry, no_name_there, input_refused}
use Rattle.cs_words.proofs.words.replay_words.Goals as goal

pub returns-in_default : goal.returns-in_default
returns-in_default c = missing_entry c.args.words.now c.in_ok-found.found.rest.now c.in_ok-found.found.settings c.refused.result c.in_ok-found.ensures
    c.in_default.ensures.cases c.refused.ensures

pub returns-then-not-is_name : goal.returns-then-not-is_name
returns-then-not-is_name c =
    let first : words_text c.in_ok-found.found.rest.now ≡ c.as_bytes.result.now ∷ words_text c.in-Some.others.now =
    first_text c.in_ok-found.found.rest.now c.in-Some.entry.now c.in-Some.others.now c.as_bytes.result.now c.in-Some.ensures.cases.0
    c.as_bytes.ensures.value in
    no_name_there c.args.words.now c.in_ok-found.found.rest.now c.in-Some.others.now c.in_ok-found.found.settings c.as_bytes.result.now
    c.refused-then-not-is_name.result c.in_ok-found.ensures first (sym c.is_name.ensures ∙ c.if-not-is_name.true) c.refused-then-not-is_name.ensures

pub returns-in_err-inputs : goal.returns-in_err-inputs
returns-in_err-inputs c =
    let first : words_text c.in_ok-found.found.rest.now ≡ c.as_bytes.result.now ∷ words_text c.in-Some.others.now =
    first_text c.in_ok-found.found.rest.now c.in-Some.entry.now c.in-Some.others.now c.as_bytes.result.now c.in-Some.ensures.cases.0
    c.as_bytes.ensures.value in
    input_refused c.args.words.now c.in_ok-found.found.rest.now c.in-Some.others.now c.in_ok-found.found.settings c.as_bytes.result.now
    c.in_err-inputs.field-0.0 c.from_residual-in_err-inputs.result c.in_ok-found.ensures first (sym c.is_name.ensures ∙ c.if-not-is_name.false)
    c.in_err-inputs.ensures c.from_residual-in_err-inputs.ensures.1

pub returns : goal.returns
returns c =
    let entry = c.in_ok-from_slice.field-0 in
    let is : entry ≡ c.as_bytes.result.now = c.in_ok-from_slice.ensures ∙ c.as_bytes-2.ensures.value ∙ sym c.as_bytes.ensures.value in
    let first : words_text c.in_ok-found.found.rest.now ≡ entry ∷ words_text c.in-Some.others.now =
    first_text c.in_ok-found.found.rest.now c.in-Some.entry.now c.in-Some.others.now entry c.in-Some.ensures.cases.0 (is ∙ c.as_bytes.ensures.value) in
    replay_right (words_text c.args.words.now) c.in_ok-found.found.settings (words_text c.in_ok-found.found.rest.now)
    (record { budgets = c.run_budgets.result; entry = entry; inputs = c.in_ok-inputs.inputs; model = c.data_model.result }) (words_text c.in-Some.others.now)
    c.in_ok-found.ensures first (ap is_name is ∙ sym c.is_name.ensures ∙ c.if-not-is_name.false) c.in_ok-inputs.ensures c.run_budgets.ensures.visits
    c.run_budgets.ensures.depth c.run_budgets.ensures.events c.data_model.ensures
