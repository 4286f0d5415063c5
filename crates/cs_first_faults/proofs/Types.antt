-- Specifiers are refused at their first failing position.
use Rattle.std.proofs.Common.{refl, ℕ, ℤ, pos, Bool, true, false, if◌then◌else◌, List, [], ◌∷◌, ◌++◌, Option, Some, None}
use Rattle.std.specs.Prelude.{nat_le, ◌+◌, ◌^◌}
use mathlib.Core.Former.{Count}
use Rattle.cs_types.specs.Layout.{round_up}
use Rattle.cs_types.specs.Shape.{Shape}
use Rattle.cs_ast.specs.declared.place.Place.{Place}
use Rattle.cs_ast.specs.declared.raw.declaration.RawDeclarator.{RawDeclarator}
use Rattle.cs_ast.specs.declared.raw.declaration.RawEnumerator.{RawEnumerator}
use Rattle.cs_ast.specs.declared.raw.declaration.RawSpecs.{RawSpecs}
use Rattle.cs_ast.specs.declared.raw.declaration.SpecWord as words
use Rattle.cs_ast.specs.declared.raw.declaration.SpecWord.{SpecWord}
use Rattle.cs_ast.specs.declared.raw.expression.RawExpr.{RawExpr}
use Rattle.cs_ast.specs.declared.raw.written_type.TypeWord.{TypeWord}
use Rattle.cs_scopes.specs.declared.context.Context.{Context}
use Rattle.cs_scopes.specs.declared.refusal.TypeCode.TheVariants as codes
use Rattle.cs_scopes.specs.Sizes.{bytes_in}
use Rattle.cs_scopes.specs.TypeNames.{whole_word, tag_place, complete_at}
use Rattle.cs_scopes.specs.Verdicts.{Verdict, Fault, lift}
use Rattle.cs_consts.specs.Roles.{value_of}
use Rattle.cs_declarations.specs.Environment.{Environment, is_declared_here}
use Rattle.cs_declarations.specs.Bodies.{Typing, Laying, nothing_laid, Counting, Opening, Body, word_type, has_member, placed_if, member_added}
use Rattle.cs_declarations.specs.Bodies.{declarator_type, member_declared, members_declared, is_int, number_said, constant_added, constant_declared}
use Rattle.cs_declarations.specs.Bodies.{constants_declared, enum_body, is_new_enum, opening, group_declared, first_name, align_in}
use Rattle.cs_declarations.specs.Bodies.{plain_row, plain_words, row_type, members_read, words_type, specs_type, typedef_added, typedefs_added}
use Rattle.cs_first_faults.specs.Failures.{FailingPlace, failing_at, unless, failing, IsFirst}
use Rattle.cs_first_faults.specs.Roles.{constant_failures}
use Rattle.cs_first_faults.specs.Declarators.{bounds_failures, declarator_codes}
use Rattle.cs_first_faults.specs.Types.{member_failures, members_failures, number_failures, enumerator_failures, enumerators_failures, enum_failures}
use Rattle.cs_first_faults.specs.Types.{row_failures, body_failures, words_failures, specs_failures, typedef_failures, typedefs_failures}
use Rattle.cs_first_faults.proofs.Firsts.{first-failing, first-then}
use Rattle.cs_first_faults.proofs.Names.{IsNamed, lift-named, if-named, complete-named, value_of-first, declarator-first, declarator-after}
use Rattle.cs_first_faults.proofs.Names.{rule-at-name, rule-after, after-both, twice-first, first-made}

-- ---- members

placed-named : (c : Context) (at : Place) (name : List ℕ) (ty : Shape) (bytes : Option ℕ) (before : Laying)
    → IsNamed at (placed_if c at name ty bytes before)
placed-named c at name ty (Some bytes) before =
    if-named at (nat_le (round_up before.size (align_in c.model c.table.list ty) + bytes) (2 ^ 20)) _ _ tt (refl, refl)
placed-named c at name ty None before = (refl, refl)

member-named : (c : Context) (at : Place) (name : List ℕ) (before : Laying) (ty : Shape) → IsNamed at (member_added c at name before ty)
member-named c at name before ty =
    lift-named at (λ whole. placed_if c at name whole (bytes_in c.model c.table.list whole) before) (complete_at c.table.list at ty)
    (complete-named c.table.list at ty) (λ whole. placed-named c at name whole (bytes_in c.model c.table.list whole) before)

member-first : (c : Context) (base : Shape) (d : RawDeclarator) (before : Laying)
    → IsFirst (member_declared c base d before) (member_failures c base d before)
member-first c base d before =
    twice-first d.place (has_member d.name before.members) _ _ (bounds_failures c d.bounds.items)
    (after-both (declarator_codes c base None d) _ (declarator-after c base None d)
    (rule-after d.place (member_added c d.place d.name before) (declarator_type c base None d) (member-named c d.place d.name before)))
    (rule-at-name d.place (member_added c d.place d.name before) (declarator_type c base None d) (declarator_codes c base None d)
    (bounds_failures c d.bounds.items) (declarator-first c base None d) (member-named c d.place d.name before))

members-first : (c : Context) (base : Shape) (ds : List RawDeclarator) (before : Laying)
    → IsFirst (members_declared c base ds before) (members_failures c base ds before)
members-first c base [] before = refl
members-first c base (d ∷ ds) before =
    first-then (members_declared c base ds) (member_declared c base d before) (member_failures c base d before) (members_failures c base ds)
    (member-first c base d before) (members-first c base ds)

-- ---- enumeration constants

number-first : (c : Context) (next : ℤ) (value : Option RawExpr) → IsFirst (number_said c next value) (number_failures c value)
number-first c next None = refl
number-first c next (Some e) = first-made (λ v. v.1) (value_of c e) (constant_failures c e) (value_of-first c e)

constant-named : (at : Place) (name : List ℕ) (k : Environment) (n : ℤ) → IsNamed at (constant_added at name k n)
constant-named at name k n = if-named at (is_int k n) _ _ tt (refl, refl)

enumerator-first : (e : RawEnumerator) (so_far : Counting) → IsFirst (constant_declared e so_far) (enumerator_failures e so_far)
enumerator-first e so_far =
    twice-first e.place (is_declared_here e.name so_far.known) _ _ (number_failures so_far.known.context e.value)
    (rule-after e.place (constant_added e.place e.name so_far.known) (number_said so_far.known.context so_far.next e.value)
    (constant-named e.place e.name so_far.known))
    (rule-at-name e.place (constant_added e.place e.name so_far.known) (number_said so_far.known.context so_far.next e.value) []
    (number_failures so_far.known.context e.value) (number-first so_far.known.context so_far.next e.value)
    (constant-named e.place e.name so_far.known))

enumerators-first : (es : List RawEnumerator) (so_far : Counting) → IsFirst (constants_declared es so_far) (enumerators_failures es so_far)
enumerators-first [] so_far = refl
enumerators-first (e ∷ es) so_far =
    first-then (constants_declared es) (constant_declared e so_far) (enumerator_failures e so_far) (enumerators_failures es) (enumerator-first e so_far)
    (enumerators-first es)

enum-first : (k : Environment) (at : Place) (name : Option (List ℕ)) (constants : List RawEnumerator)
    → IsFirst (enum_body k at name constants) (enum_failures k at name constants)
enum-first k at name constants =
    by_test (is_new_enum k name) _ _ (first-made _ (constants_declared constants (record { next = pos 0; known = k })) _
    (enumerators-first constants (record { next = pos 0; known = k })))
  where
    by_test : (test : Bool) (v : Verdict Typing) (failures : List FailingPlace) → IsFirst v failures
        → IsFirst (if test then v else Fault codes.DeclaredTwice at) (failing_at at (unless test codes.DeclaredTwice) ++ failures)
    by_test true v failures h = h
    by_test false v failures h = refl

-- ---- specifiers

mutual
  row-first : {n : Count} (k : Environment) (at_tag : Option Place) (at : Place) (all : List TypeWord) (row : words.Row_of-SpecWord n)
      → IsFirst (row_type k at_tag at all row) (row_failures k at_tag at all row)
  row-first k at_tag at all words.end_of-SpecWord = first-failing (word_type k at_tag at all (whole_word all))
  row-first k at_tag at all (words.more_of-SpecWord words.TheVariants.Static others) = row-first k at_tag at all others
  row-first k at_tag at all (words.more_of-SpecWord (words.TheVariants.Plain w) others) = row-first k at_tag at all others
  row-first k at_tag at all (words.more_of-SpecWord (words.TheVariants.Struct' name shape row) others) =
      first-then _ (opening (tag_place at at_tag) name k) (failing (opening (tag_place at at_tag) name k))
      (λ (o : Opening). body_failures o.known row nothing_laid) (first-failing (opening (tag_place at at_tag) name k))
      (λ o. first-made _ (members_read o.known row nothing_laid) _ (body-first o.known row nothing_laid))
  row-first k at_tag at all (words.more_of-SpecWord (words.TheVariants.Enum name constants comma) others) =
      enum-first k (tag_place at at_tag) name constants.items

  body-first : {n : Count} (k : Environment) (row : words.Row_of-RawMember n) (before : Laying)
      → IsFirst (members_read k row before) (body_failures k row before)
  body-first k words.end_of-RawMember before = refl
  body-first k (words.more_of-RawMember shape row tag declarators others) before =
      let ty = row_type k tag (first_name declarators.items) (plain_row row) row in
      first-then _ (lift (group_declared declarators.items before) ty) _ (λ (read : Body). body_failures read.known others read.laying)
      (first-then (group_declared declarators.items before) ty (row_failures k tag (first_name declarators.items) (plain_row row) row)
      (λ (t : Typing). members_failures t.1.context t.0 declarators.items before)
      (row-first k tag (first_name declarators.items) (plain_row row) row)
      (λ t. first-made _ (members_declared t.1.context t.0 declarators.items before) _ (members-first t.1.context t.0 declarators.items before)))
      (λ read. body-first read.known others read.laying)

words-first : (k : Environment) (at_tag : Option Place) (at : Place) (all : List TypeWord) (list : List SpecWord)
    → IsFirst (words_type k at_tag at all list) (words_failures k at_tag at all list)
words-first k at_tag at all [] = first-failing (word_type k at_tag at all (whole_word all))
words-first k at_tag at all (words.TheVariants.Static ∷ others) = words-first k at_tag at all others
words-first k at_tag at all (words.TheVariants.Plain w ∷ others) = words-first k at_tag at all others
words-first k at_tag at all (words.TheVariants.Struct' name shape row ∷ others) =
    first-then _ (opening (tag_place at at_tag) name k) (failing (opening (tag_place at at_tag) name k))
    (λ (o : Opening). body_failures o.known row nothing_laid) (first-failing (opening (tag_place at at_tag) name k))
    (λ o. first-made _ (members_read o.known row nothing_laid) _ (body-first o.known row nothing_laid))
words-first k at_tag at all (words.TheVariants.Enum name constants comma ∷ others) = enum-first k (tag_place at at_tag) name constants.items

pub specs-first : (k : Environment) (at : Place) (s : RawSpecs) → IsFirst (specs_type k at s) (specs_failures k at s)
specs-first k at s = words-first k s.tag at (plain_words s.words.items) s.words.items

-- ---- typedefs

typedef-first : (base : Shape) (d : RawDeclarator) (k : Environment) → IsFirst (typedef_added base d k) (typedef_failures base d k)
typedef-first base d k =
    twice-first d.place (is_declared_here d.name k) _ (declarator_codes k.context base None d) (bounds_failures k.context d.bounds.items)
    (declarator-after k.context base None d)
    (first-made _ (declarator_type k.context base None d) _ (declarator-first k.context base None d))

pub typedefs-first : (base : Shape) (ds : List RawDeclarator) (k : Environment) → IsFirst (typedefs_added base ds k) (typedefs_failures base ds k)
typedefs-first base [] k = refl
typedefs-first base (d ∷ ds) k =
    first-then (typedefs_added base ds) (typedef_added base d k) (typedef_failures base d k) (typedefs_failures base ds) (typedef-first base d k)
    (typedefs-first base ds)
