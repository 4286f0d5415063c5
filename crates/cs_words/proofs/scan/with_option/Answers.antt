use Rattle.std.proofs.Common.{◌≡◌, true, false, ap, sym, ◌∙◌, subst, inl, inr}
use Rattle.std.specs.Prelude.{◌⊎◌}
use Rattle.cs_words.specs.Options.{OptionName, takes}
use Rattle.cs_words.specs.Scan.{is_set, setting_in, text_in}
use Rattle.cs_words.proofs.WordLists.{first_text, unfit_option, joined_step, after_step, nothing_after, IsValueRead}
use Rattle.cs_words.proofs.scan.with_option.Goals as goal
use Rattle.cs_words.proofs.scan.with_option.Goals.{then-not-takes-via-then-not-takes, then-not-takes-via-else-not-takes+then-has}

fault : (c : goal.After-refused) → (takes c.args.verb (setting_in c.args.option) ≡ false)
    ⊎ (is_set (setting_in c.args.option) c.args.found.settings ≡ true)
fault c =
    elim c.then-not-takes.branch [
      | then-not-takes-via-then-not-takes w ↦ inl (sym (c.takes.ensures ∙ ap (takes c.args.verb) c.setting-setting.ensures) ∙ w.if-not-takes.true)
      | then-not-takes-via-else-not-takes+then-has w ↦
          inr (sym (w.has.ensures ∙ ap (λ (s : OptionName). is_set s c.args.found.settings) c.setting-setting.ensures) ∙ w.if-has.true)
    ]

pub returns-then-not-takes-clause-read : goal.returns-then-not-takes-clause-read
returns-then-not-takes-clause-read c =
    unfit_option c.args.verb c.args.words.now c.args.found.rest.now c.args.others.now c.args.found.settings c.args.option c.refused.result c.requires.read
    c.requires.first c.refused.ensures (fault c)

pub returns-in-With-clause-read : goal.returns-in-With-clause-read
returns-in-With-clause-read c =
    let taken : takes c.args.verb (setting_in c.args.option) ≡ true = sym (c.takes.ensures ∙ ap (takes c.args.verb) c.setting-setting.ensures)
    ∙ c.if-not-takes.false in
    let unset : is_set (setting_in c.args.option) c.args.found.settings ≡ false =
    sym (c.has.ensures ∙ ap (λ (s : OptionName). is_set s c.args.found.settings) c.setting-setting.ensures) ∙ c.if-has.false in
    joined_step c.args.verb c.args.words.now c.args.found.rest.now c.args.others.now c.args.found.settings c.args.option c.in-With.text.now c.with_value.result
    c.requires.read c.requires.first (ap text_in c.in-With.is) taken unset
    (subst (λ (s : OptionName).
    IsValueRead c.args.words.now c.args.found.rest.now c.args.others.now s c.in-With.text.now c.args.found.settings c.with_value.result)
    c.setting-setting.ensures c.with_value.ensures)

pub returns-in-Some-clause-read : goal.returns-in-Some-clause-read
returns-in-Some-clause-read c =
    let taken : takes c.args.verb (setting_in c.args.option) ≡ true = sym (c.takes.ensures ∙ ap (takes c.args.verb) c.setting-setting.ensures)
    ∙ c.if-not-takes.false in
    let unset : is_set (setting_in c.args.option) c.args.found.settings ≡ false =
    sym (c.has.ensures ∙ ap (λ (s : OptionName). is_set s c.args.found.settings) c.setting-setting.ensures) ∙ c.if-has.false in
    after_step c.args.verb c.args.words.now c.args.found.rest.now c.args.others.now c.in-Some.left.now c.args.found.settings c.args.option c.as_bytes.result.now
    c.with_value-in-Some.result c.requires.read c.requires.first (ap text_in c.in-Alone.is)
    (first_text c.args.others.now c.in-Some.text.now c.in-Some.left.now c.as_bytes.result.now c.in-Some.ensures.cases.0 c.as_bytes.ensures.value) taken
    unset (subst (λ (s : OptionName).
    IsValueRead c.args.words.now c.args.others.now c.in-Some.left.now s c.as_bytes.result.now c.args.found.settings c.with_value-in-Some.result)
    c.setting-setting.ensures c.with_value-in-Some.ensures)

pub returns-in-None-clause-read : goal.returns-in-None-clause-read
returns-in-None-clause-read c =
    let taken : takes c.args.verb (setting_in c.args.option) ≡ true = sym (c.takes.ensures ∙ ap (takes c.args.verb) c.setting-setting.ensures)
    ∙ c.if-not-takes.false in
    let unset : is_set (setting_in c.args.option) c.args.found.settings ≡ false =
    sym (c.has.ensures ∙ ap (λ (s : OptionName). is_set s c.args.found.settings) c.setting-setting.ensures) ∙ c.if-has.false in
    nothing_after c.args.verb c.args.words.now c.args.found.rest.now c.args.others.now c.args.found.settings c.args.option c.refused-in-None.result
    c.requires.read c.requires.first (ap text_in c.in-Alone.is) c.in-None.ensures.cases taken unset c.refused-in-None.ensures
