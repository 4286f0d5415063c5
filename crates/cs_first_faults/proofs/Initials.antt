-- Initializers are refused at their first failing position.
use Rattle.std.proofs.Common.{◌≡◌, refl, sym, ap, subst, ◌∙◌, Bool, true, false, if◌then◌else◌, List, [], ◌∷◌, ◌++◌, Option, Some}
use Rattle.std.proofs.Common.{None}
use Rattle.std.specs.Prelude.{option_to_list}
use mathlib.Core.Former.{Count}
use Rattle.cs_types.specs.Shape.{Shape, void, integer, pointer, array, struct}
use Rattle.cs_ast.specs.declared.place.Place.{Place}
use Rattle.cs_ast.specs.declared.raw.declaration.RawInitial as first_value
use Rattle.cs_ast.specs.declared.raw.declaration.RawInitial.{RawInitial}
use Rattle.cs_ast.specs.declared.raw.expression.RawExpr.{RawExpr}
use Rattle.cs_ast.specs.TypedTree.{Initial, Parts, Initials, NoPart, Part}
use Rattle.cs_scopes.specs.declared.context.Context.{Context}
use Rattle.cs_scopes.specs.declared.refusal.TypeCode.{TypeCode}
use Rattle.cs_scopes.specs.declared.refusal.TypeCode.TheVariants.{Initializer}
use Rattle.cs_scopes.specs.Faults.{least, least_code, code_in, unless_fault}
use Rattle.cs_scopes.specs.Verdicts.{Verdict, Fine, Fault, lift}
use Rattle.cs_scopes.proofs.LesserCodes.{least_code-assoc}
use Rattle.cs_expressions.specs.Primary.{Literals}
use Rattle.cs_consts.specs.Roles.{operand_of}
use Rattle.cs_declarations.specs.Initializers.{Storage, has_form, Reading, Readings, expression_read, types_or_none, parts_read, one_more}
use Rattle.cs_scopes.specs.Parts.{part_types}
use Rattle.cs_declarations.specs.Initializers.{initial_read, items_read, before_others, part_judged, parts_judged, initial_judged, literals_read}
use Rattle.cs_declarations.specs.Initializers.{reading_fault, item_fault, items_fault, initial_fault, whole_fault, scalar_limit, whole_read, kept_with}
use Rattle.cs_declarations.specs.Initializers.{initial_typed}
use Rattle.cs_first_faults.specs.Failures.{FailingPlace, failing_at, codes_of, if_typed, IsFirst}
use Rattle.cs_first_faults.specs.Initials.{item_codes, items_codes, list_codes, whole_codes, expression_failures, read_failures, items_failures}
use Rattle.cs_first_faults.specs.Initials.{initial_failures}
use Rattle.cs_first_faults.proofs.Firsts.{first-row}
use Rattle.cs_first_faults.proofs.Calls.{least_among, least-before}
use Rattle.cs_first_faults.proofs.Names.{operand_of-first, first-made}

-- ---- the codes of items

both-least : (some more : List TypeCode) → least_code (least_among some) (least_among more) ≡ least_among (some ++ more)
both-least [] more = refl
both-least (code ∷ others) more =
    ap (λ x. least_code x (least_among more)) (sym (least-before code others))
    ∙ least_code-assoc (Some code) (least_among others) (least_among more)
    ∙ ap (least_code (Some code)) (both-least others more)
    ∙ least-before code (others ++ more)

reading-least : (rule : Initial → Verdict Initial) (v : Verdict Reading)
    → reading_fault rule v ≡ least_among (if_typed (λ (r : Reading). codes_of (rule r.0)) v)
reading-least rule (Fault code place) = refl
reading-least rule (Fine r) = by_verdict (rule r.0) where
  by_verdict : (v : Verdict Initial) → code_in v ≡ least_among (codes_of v)
  by_verdict (Fine x) = refl
  by_verdict (Fault code place) = refl

mutual
  item-least : (c : Context) (literals : Literals) (storage : Storage) (at : Place) (ty : Shape) (written : RawInitial)
      → item_fault c literals storage at ty written ≡ least_among (item_codes c literals storage at ty written)
  item-least c literals storage at ty (first_value.TheVariants.Value e) = reading-least (part_judged c storage at ty) (expression_read c literals ty e)
  item-least c literals storage at ty (first_value.TheVariants.List' shape row comma) =
      items-least c literals storage at (types_or_none (part_types c.table.list ty)) row

  items-least : {n : Count} (c : Context) (literals : Literals) (storage : Storage) (at : Place) (types : List Shape) (row : first_value.Row_of-RawInitial n)
      → items_fault c literals storage at types row ≡ least_among (items_codes c literals storage at types row)
  items-least c literals storage at types first_value.end_of-RawInitial = refl
  items-least c literals storage at [] (first_value.more_of-RawInitial first others) = refl
  items-least c literals storage at (ty ∷ types) (first_value.more_of-RawInitial first others) =
      let following = literals_read (initial_read c literals ty first) in
      ap (λ x. least_code x (items_fault c following storage at types others)) (item-least c literals storage at ty first)
      ∙ ap (least_code (least_among (item_codes c literals storage at ty first))) (items-least c following storage at types others)
      ∙ both-least (item_codes c literals storage at ty first) (items_codes c following storage at types others)

list-least : (c : Context) (literals : Literals) (storage : Storage) (at : Place) (ty : Shape) (written : RawInitial)
    → initial_fault c literals storage at ty written ≡ least_among (list_codes c literals storage at ty written)
list-least c literals storage at ty (first_value.TheVariants.Value e) = refl
list-least c literals storage at ty (first_value.TheVariants.List' shape row comma) =
    items-least c literals storage at (types_or_none (part_types c.table.list ty)) row

whole-least : (c : Context) (literals : Literals) (storage : Storage) (at : Place) (ty : Shape) (written : RawInitial)
    → whole_fault c literals storage at ty written ≡ least_among (whole_codes c literals storage at ty written)
whole-least c literals storage at ty (first_value.TheVariants.Value e) = reading-least (initial_judged c storage at ty) (expression_read c literals ty e)
whole-least c literals storage at ty (first_value.TheVariants.List' shape row comma) =
    items-least c literals storage at (types_or_none (part_types c.table.list ty)) row

limit-least : (limit : Option TypeCode) (codes : List TypeCode) → least_code limit (least_among codes) ≡ least_among (option_to_list limit ++ codes)
limit-least None codes = refl
limit-least (Some limit) codes = least-before limit codes

-- ---- the codes at the `=` for typed values are all of its codes

lift-cases : {A B P : Type 0} (rule : A → Verdict B) (v : Verdict A) (b : B) → lift rule v ≡ Fine b
    → ((a : A) → v ≡ Fine a → rule a ≡ Fine b → P) → P
unfolding lift
lift-cases rule (Fine a) b h follows = follows a refl h
lift-cases rule (Fault code place) b h follows = absurd cc

code-kept : {A B : Type 0} (made : A → B) (v : Verdict A) → code_in v ≡ code_in (lift (λ a. Fine (made a)) v)
unfolding lift
code-kept made (Fine a) = refl
code-kept made (Fault code place) = refl

kept-code : (literals : Literals) (v : Verdict Initial) → code_in (lift (kept_with literals) v) ≡ code_in v
unfolding lift
kept-code literals (Fine found) = refl
kept-code literals (Fault code place) = refl

both-said : (at : Place) (v : Verdict Initial) (w : Verdict Initials) → least_code (code_in v) (code_in w) ≡ code_in (before_others at v w)
both-said at (Fine first) (Fine others) = refl
both-said at (Fine first) (Fault code place) = refl
both-said at (Fault code place) (Fine others) = refl
both-said at (Fault code place) (Fault other there) = refl

-- the value of a result
abbrev was_read : {A : Type 0} → A → Verdict (A × Literals) → A
was_read other (Fine r) = r.0
was_read other (Fault code place) = other

one-judged : (c : Context) (storage : Storage) (at : Place) (ty : Shape) (types : List Shape) (one : Reading) (more r : Readings)
    (said others_said : Option TypeCode) → said ≡ code_in (part_judged c storage at ty one.0)
    → others_said ≡ code_in (parts_judged c storage at types more.0) → one_more one.0 more ≡ Fine r
    → least_code said others_said ≡ code_in (parts_judged c storage at (ty ∷ types) r.0)
one-judged c storage at ty types one more r said others_said first others made =
    ap (λ x. least_code x others_said) first ∙ ap (least_code (code_in (part_judged c storage at ty one.0))) others
    ∙ both-said at (part_judged c storage at ty one.0) (parts_judged c storage at types more.0)
    ∙ ap (λ v. code_in (parts_judged c storage at (ty ∷ types) (was_read (Part one.0 more.0) v))) made

all-judged : (c : Context) (storage : Storage) (at : Place) (ty : Shape) (all : Readings) (r : Reading) (said : Option TypeCode)
    → said ≡ code_in (parts_judged c storage at (types_or_none (part_types c.table.list ty)) all.0) → parts_read all ≡ Fine r
    → said ≡ code_in (part_judged c storage at ty r.0)
all-judged c storage at ty all r said is made =
    is ∙ code-kept Parts (parts_judged c storage at (types_or_none (part_types c.table.list ty)) all.0)
    ∙ ap (λ v. code_in (part_judged c storage at ty (was_read (Parts all.0) v))) made

mutual
  item-judged : (c : Context) (literals : Literals) (storage : Storage) (at : Place) (ty : Shape) (written : RawInitial) (r : Reading)
      → initial_read c literals ty written ≡ Fine r → item_fault c literals storage at ty written ≡ code_in (part_judged c storage at ty r.0)
  item-judged c literals storage at ty (first_value.TheVariants.Value e) r is = ap (reading_fault (part_judged c storage at ty)) is
  item-judged c literals storage at ty (first_value.TheVariants.List' shape row comma) r is =
      let types = types_or_none (part_types c.table.list ty) in
      lift-cases {P = items_fault c literals storage at types row ≡ code_in (part_judged c storage at ty r.0)} parts_read
      (items_read c literals types row) r is
      (λ all reads made.
      all-judged c storage at ty all r (items_fault c literals storage at types row) (items-judged c literals storage at types row all reads) made)

  items-judged : {n : Count} (c : Context) (literals : Literals) (storage : Storage) (at : Place) (types : List Shape) (row : first_value.Row_of-RawInitial n)
      (r : Readings) → items_read c literals types row ≡ Fine r
      → items_fault c literals storage at types row ≡ code_in (parts_judged c storage at types r.0)
  items-judged c literals storage at types first_value.end_of-RawInitial r is =
      ap (λ v. code_in (parts_judged c storage at types (was_read NoPart v))) is
  items-judged c literals storage at [] (first_value.more_of-RawInitial first others) r is =
      ap (λ v. code_in (parts_judged c storage at [] (was_read NoPart v))) is
  items-judged c literals storage at (ty ∷ types) (first_value.more_of-RawInitial first others) r is =
      let said = item_fault c literals storage at ty first in
      let others_said = items_fault c (literals_read (initial_read c literals ty first)) storage at types others in
      let Judged = least_code said others_said ≡ code_in (parts_judged c storage at (ty ∷ types) r.0) in
      lift-cases {P = Judged} (λ (r : Reading). lift (one_more r.0) (items_read c r.1 types others)) (initial_read c literals ty first) r is
      (λ one reads follows.
      lift-cases {P = Judged} (one_more one.0) (items_read c one.1 types others) r follows
      (λ more goes made.
      one-judged c storage at ty types one more r said others_said (item-judged c literals storage at ty first one reads)
      (ap (λ v. items_fault c (literals_read v) storage at types others) reads ∙ items-judged c one.1 storage at types others more goes) made))

whole-judged : (c : Context) (literals : Literals) (storage : Storage) (at : Place) (ty : Shape) (written : RawInitial) (r : Reading)
    → initial_read c literals ty written ≡ Fine r → whole_fault c literals storage at ty written ≡ code_in (initial_judged c storage at ty r.0)
whole-judged c literals storage at ty (first_value.TheVariants.Value e) r is = ap (reading_fault (initial_judged c storage at ty)) is
whole-judged c literals storage at ty (first_value.TheVariants.List' shape row comma) r is =
    let types = types_or_none (part_types c.table.list ty) in
    lift-cases {P = items_fault c literals storage at types row ≡ code_in (initial_judged c storage at ty r.0)} parts_read
    (items_read c literals types row) r is
    (λ all reads made.
    items-judged c literals storage at types row all reads ∙ code-kept Parts (parts_judged c storage at types all.0)
    ∙ ap (λ v. code_in (initial_judged c storage at ty (was_read (Parts all.0) v))) made)

-- ---- the values

expression-first : (c : Context) (literals : Literals) (ty : Shape) (e : RawExpr)
    → IsFirst (expression_read c literals ty e) (expression_failures c literals ty e)
expression-first c literals (array element count) e = refl
expression-first c literals void e = first-made _ (operand_of c literals (Some void) e) _ (operand_of-first c literals (Some void) e)
expression-first c literals (integer t) e = first-made _ (operand_of c literals (Some (integer t)) e) _ (operand_of-first c literals (Some (integer t)) e)
expression-first c literals (pointer t) e = first-made _ (operand_of c literals (Some (pointer t)) e) _ (operand_of-first c literals (Some (pointer t)) e)
expression-first c literals (struct n) e = first-made _ (operand_of c literals (Some (struct n)) e) _ (operand_of-first c literals (Some (struct n)) e)

mutual
  read-first : (c : Context) (literals : Literals) (ty : Shape) (written : RawInitial)
      → IsFirst (initial_read c literals ty written) (read_failures c literals ty written)
  read-first c literals ty (first_value.TheVariants.Value e) = expression-first c literals ty e
  read-first c literals ty (first_value.TheVariants.List' shape row comma) =
      first-made _ (items_read c literals (types_or_none (part_types c.table.list ty)) row) _
      (items-first c literals (types_or_none (part_types c.table.list ty)) row)

  items-first : {n : Count} (c : Context) (literals : Literals) (types : List Shape) (row : first_value.Row_of-RawInitial n)
      → IsFirst (items_read c literals types row) (items_failures c literals types row)
  items-first c literals types first_value.end_of-RawInitial = refl
  items-first c literals [] (first_value.more_of-RawInitial first others) = refl
  items-first c literals (ty ∷ types) (first_value.more_of-RawInitial first others) =
      first-row (λ (r : Reading). lift (one_more r.0) (items_read c r.1 types others)) (initial_read c literals ty first)
      (read_failures c literals ty first) (λ v. items_failures c (literals_read v) types others) (read-first c literals ty first)
      (λ r. first-made _ (items_read c r.1 types others) _ (items-first c r.1 types others))

-- ---- the whole

whole-first : (at : Place) (codes : List TypeCode) (rule : Reading → Verdict Reading) (read : Verdict Reading) (following : List FailingPlace)
    → IsFirst read following → (codes ≡ [] → (r : Reading) → read ≡ Fine r → code_in (rule r) ≡ None)
    → IsFirst (lift rule (unless_fault at (least_among codes) read)) (failing_at at codes ++ following)
unfolding lift
whole-first at (code ∷ others) rule read following h fine = refl
whole-first at [] rule (Fault code place) following h fine = h
whole-first at [] rule (Fine r) following h fine = by_verdict (rule r) (fine refl r refl) where
  by_verdict : (v : Verdict Reading) → code_in v ≡ None → IsFirst v following
  by_verdict (Fine x) is = h
  by_verdict (Fault code place) is = absurd cc

none-said : (limit : Option TypeCode) (codes : List TypeCode) → option_to_list limit ++ codes ≡ [] → codes ≡ []
none-said None codes is = is
none-said (Some limit) codes is = absurd cc

-- for a wrong form, the least of its code and those of the items
form-first : (at : Place) (some : List TypeCode)
    → IsFirst {A = Reading} (Fault (least Initializer (least_among some)) at) (failing_at at (Initializer ∷ some))
form-first at [] = refl
form-first at (code ∷ others) = refl

pub initial-first : (c : Context) (literals : Literals) (storage : Storage) (at : Place) (ty : Shape) (written : RawInitial)
    → IsFirst (initial_typed c literals storage at ty written) (initial_failures c literals storage at ty written)
initial-first c literals storage at ty written =
    by_form (has_form c.table.list storage ty written) (lift asked (whole_read c literals storage at ty written))
    (Fault (least Initializer (initial_fault c literals storage at ty written)) at)
    (failing_at at (option_to_list limit ++ codes) ++ read_failures c literals ty written)
    (failing_at at (Initializer ∷ list_codes c literals storage at ty written))
    (subst (λ fault. IsFirst (lift asked (unless_fault at fault read)) (failing_at at (option_to_list limit ++ codes) ++ read_failures c literals ty written))
    (sym (ap (least_code limit) (whole-least c literals storage at ty written) ∙ limit-least limit codes))
    (whole-first at (option_to_list limit ++ codes) asked read (read_failures c literals ty written) (read-first c literals ty written)
    (λ none r is. kept-code r.1 (initial_judged c storage at ty r.0)
    ∙ sym (whole-judged c literals storage at ty written r is) ∙ whole-least c literals storage at ty written
    ∙ ap least_among (none-said limit codes none))))
    (subst (λ fault. IsFirst {A = Reading} (Fault (least Initializer fault) at) (failing_at at (Initializer ∷ list_codes c literals storage at ty written)))
    (sym (list-least c literals storage at ty written)) (form-first at (list_codes c literals storage at ty written)))
  where
    limit : Option TypeCode
    limit = scalar_limit c.table.list storage ty written

    codes : List TypeCode
    codes = whole_codes c literals storage at ty written

    read : Verdict Reading
    read = initial_read c literals ty written

    asked : Reading → Verdict Reading
    asked r = lift (kept_with r.1) (initial_judged c storage at ty r.0)

    by_form : (test : Bool) (v w : Verdict Reading) (ones others : List FailingPlace) → IsFirst v ones → IsFirst w others
        → IsFirst (if test then v else w) (if test then ones else others)
    by_form true v w ones others h k = h
    by_form false v w ones others h k = k
