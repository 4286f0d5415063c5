use Rattle.std.proofs.Common.{refl, sym, ap, subst, Option, Some, None}
use Rattle.cs_grammar.specs.declared.type_words.TypeSoFar.{TypeSoFar}
use Rattle.cs_grammar.specs.TypeWords.{is_const, is_integer_word}
use Rattle.cs_grammar.specs.TypesSoFar.{IsExtended}
use Rattle.cs_grammar.proofs.WordsOfTypes.{extends_nothing, extends_by_integer, extends_integers}
use Rattle.cs_grammar.proofs.type_words.TypeSoFar.with.Goals as goal

pub returns-in_err-joined-in-Integers-Integer : goal.returns-in_err-joined-in-Integers-Integer
returns-in_err-joined-in-Integers-Integer c = λ names words d k.
    subst (λ (o : Option TypeSoFar). IsExtended names words c.args.next.now o) (sym c.from_residual.ensures)
    (extends_integers names c.args.self words c.args.next.now _ _ None c.in-Integers-Integer.is-0 c.in-Integers-Integer.is-1
    (λ f. c.in_err-joined-in-Integers-Integer.ensures f) d)

pub returns-in-Nothing-Integer : goal.returns-in-Nothing-Integer
returns-in-Nothing-Integer c = λ names words d k.
    extends_by_integer names c.args.self words c.args.next.now _ c.with.result c.in-Nothing-Integer.is-0 c.in-Nothing-Integer.is-1 (c.with.ensures refl) d

pub returns-in_ok-joined-in-Integers-Integer : goal.returns-in_ok-joined-in-Integers-Integer
returns-in_ok-joined-in-Integers-Integer c = λ names words d k.
    extends_integers names c.args.self words c.args.next.now _ _ (Some c.in_ok-joined-in-Integers-Integer.field-0) c.in-Integers-Integer.is-0
    c.in-Integers-Integer.is-1 (λ f. c.in_ok-joined-in-Integers-Integer.ensures f) d

pub returns-in-Nothing-Typedef : goal.returns-in-Nothing-Typedef
returns-in-Nothing-Typedef c = λ names words d k.
    extends_nothing names c.args.self words c.args.next.now c.in-Nothing-Typedef.is-0 (ap is_const c.in-Nothing-Typedef.is-1)
    (ap is_integer_word c.in-Nothing-Typedef.is-1) d k

pub returns-in-Nothing-Struct : goal.returns-in-Nothing-Struct
returns-in-Nothing-Struct c = λ names words d k.
    extends_nothing names c.args.self words c.args.next.now c.in-Nothing-Struct.is-0 (ap is_const c.in-Nothing-Struct.is-1)
    (ap is_integer_word c.in-Nothing-Struct.is-1) d k

pub returns-in-Nothing-Enum : goal.returns-in-Nothing-Enum
returns-in-Nothing-Enum c = λ names words d k.
    extends_nothing names c.args.self words c.args.next.now c.in-Nothing-Enum.is-0 (ap is_const c.in-Nothing-Enum.is-1)
    (ap is_integer_word c.in-Nothing-Enum.is-1) d k
