use Rattle.std.proofs.Common.{refl, sym, ◌∙◌, subst}
use Rattle.cs_scopes.specs.Verdicts.{IsRefused}
use Rattle.cs_program.proofs.OneTyping.{same_typing}
use Rattle.cs_program.proofs.program.typed_as.Goals as goal

pub returns-in-Ok-clause-program : goal.returns-in-Ok-clause-program
returns-in-Ok-clause-program c =
    let same = same_typing c.args.lexed c.args.model c.args.model c.deref.result.now c.deref-2.result.now c.args.tree.now
    refl c.deref.ensures.value c.deref-2.ensures.value in
    λ file parsed.
    record {
      lexed = c.args.lexed;
      tree = c.args.tree.now;
      accepted = record { parsed = parsed; typed = sym same ∙ c.in-Ok.ensures.reported };
      names = refl;
    }

pub returns-in-Err-clause-refused : goal.returns-in-Err-clause-refused
returns-in-Err-clause-refused c =
    let same = same_typing c.args.lexed c.args.model c.args.model c.deref.result.now c.deref-2.result.now c.args.tree.now
    refl c.deref.ensures.value c.deref-2.ensures.value in
    λ file parsed.
    record {
      lexed = c.args.lexed;
      tree = c.args.tree.now;
      parsed = parsed;
      refused = subst (λ verdict. IsRefused verdict c.in-Err.refusal) same c.in-Err.ensures.reported;
      names = refl;
    }
