-- The failing positions of specifiers (C11 6.7.2), with the bodies of structs and enums, and of typedefs. What follows a declaration can
-- only be checked if the declaration is right: what it declares isn't known otherwise.
use Rattle.std.specs.Prelude.{ℕ, pos, not, [], ◌∷◌, ◌++◌, List, Option, Some, None}
use Rattle.cs_types.specs.Shape.{Shape}
use Rattle.cs_ast.specs.declared.place.Place.{Place}
use Rattle.cs_ast.specs.declared.raw.declaration.RawDeclarator.{RawDeclarator}
use Rattle.cs_ast.specs.declared.raw.declaration.RawEnumerator.{RawEnumerator}
use Rattle.cs_ast.specs.declared.raw.declaration.RawSpecs.{RawSpecs}
use Rattle.cs_ast.specs.declared.raw.declaration.SpecWord as words
use Rattle.cs_ast.specs.declared.raw.declaration.SpecWord.{SpecWord}
use Rattle.cs_ast.specs.declared.raw.expression.RawExpr.{RawExpr}
use Rattle.cs_ast.specs.declared.raw.written_type.TypeWord.{TypeWord}
use Rattle.cs_scopes.specs.declared.context.Context.{Context}
use Rattle.cs_scopes.specs.declared.refusal.TypeCode.TheVariants.{DeclaredTwice}
use Rattle.cs_scopes.specs.TypeNames.{whole_word, tag_place}
use Rattle.cs_scopes.specs.Verdicts.{lift}
use Rattle.cs_declarations.specs.Environment.{Environment, is_declared_here}
use Rattle.cs_declarations.specs.Bodies.{Typing, Laying, nothing_laid, Counting, Opening, Body, word_type, has_member, member_added, declarator_type}
use Rattle.cs_declarations.specs.Bodies.{member_declared, number_said, constant_added, constant_declared, is_new_enum, opening, group_declared}
use Rattle.cs_declarations.specs.Bodies.{first_name, plain_row, plain_words, row_type, typedef_added}
use Rattle.cs_first_faults.specs.Failures.{FailingPlace, failing_at, unless, codes_of, failing, if_typed}
use Rattle.cs_first_faults.specs.Roles.{constant_failures}
use Rattle.cs_first_faults.specs.Declarators.{bounds_failures, declarator_codes}

-- a member: at its name, a name that is new in its struct (2), a complete type (6), within the size of objects (7)
abbrev pub member_failures : Context → Shape → RawDeclarator → Laying → List FailingPlace
member_failures c base d before =
    failing_at d.place
    (unless (not (has_member d.name before.members)) DeclaredTwice
    ++ (declarator_codes c base None d
    ++ if_typed (λ ty. codes_of (member_added c d.place d.name before ty)) (declarator_type c base None d)))
    ++ bounds_failures c d.bounds.items

abbrev pub members_failures : Context → Shape → List RawDeclarator → Laying → List FailingPlace
members_failures c base [] before = []
members_failures c base (d ∷ ds) before =
    member_failures c base d before ++ if_typed (λ (laying : Laying). members_failures c base ds laying) (member_declared c base d before)

-- the value of an enumeration constant, if one is written
abbrev pub number_failures : Context → Option RawExpr → List FailingPlace
number_failures c None = []
number_failures c (Some e) = constant_failures c e

-- an enumeration constant: at its name, a new name (2) for a number that `int` can represent (15)
abbrev pub enumerator_failures : RawEnumerator → Counting → List FailingPlace
enumerator_failures e so_far =
    failing_at e.place
    (unless (not (is_declared_here e.name so_far.known)) DeclaredTwice
    ++ ([] ++ if_typed (λ n. codes_of (constant_added e.place e.name so_far.known n)) (number_said so_far.known.context so_far.next e.value)))
    ++ number_failures so_far.known.context e.value

abbrev pub enumerators_failures : List RawEnumerator → Counting → List FailingPlace
enumerators_failures [] so_far = []
enumerators_failures (e ∷ es) so_far =
    enumerator_failures e so_far ++ if_typed (λ (next : Counting). enumerators_failures es next) (constant_declared e so_far)

-- an enum with its constants: at its tag, a new tag (2)
abbrev pub enum_failures : Environment → Place → Option (List ℕ) → List RawEnumerator → List FailingPlace
enum_failures k at name constants =
    failing_at at (unless (is_new_enum k name) DeclaredTwice) ++ enumerators_failures constants (record { next = pos 0; known = k })

abbrev mutual
  -- specifiers: a tag that is known for the keyword before it (1, 2); a struct that gets a body has no members before it (2)
  pub row_failures : {n : _} → Environment → Option Place → Place → List TypeWord → words.Row_of-SpecWord n → List FailingPlace
  row_failures k at_tag at all words.end_of-SpecWord = failing (word_type k at_tag at all (whole_word all))
  row_failures k at_tag at all (words.more_of-SpecWord words.TheVariants.Static others) = row_failures k at_tag at all others
  row_failures k at_tag at all (words.more_of-SpecWord (words.TheVariants.Plain w) others) = row_failures k at_tag at all others
  row_failures k at_tag at all (words.more_of-SpecWord (words.TheVariants.Struct' name shape row) others) =
      failing (opening (tag_place at at_tag) name k)
      ++ if_typed (λ (o : Opening). body_failures o.known row nothing_laid) (opening (tag_place at at_tag) name k)
  row_failures k at_tag at all (words.more_of-SpecWord (words.TheVariants.Enum name constants comma) others) =
      enum_failures k (tag_place at at_tag) name constants.items

  -- the members of a body, group by group
  pub body_failures : {n : _} → Environment → words.Row_of-RawMember n → Laying → List FailingPlace
  body_failures k words.end_of-RawMember before = []
  body_failures k (words.more_of-RawMember shape row tag declarators others) before =
      let ty = row_type k tag (first_name declarators.items) (plain_row row) row in
      row_failures k tag (first_name declarators.items) (plain_row row) row
      ++ if_typed (λ (t : Typing). members_failures t.1.context t.0 declarators.items before) ty
      ++ if_typed (λ (read : Body). body_failures read.known others read.laying) (lift (group_declared declarators.items before) ty)

-- the same for the words in a list
abbrev pub words_failures : Environment → Option Place → Place → List TypeWord → List SpecWord → List FailingPlace
words_failures k at_tag at all [] = failing (word_type k at_tag at all (whole_word all))
words_failures k at_tag at all (words.TheVariants.Static ∷ others) = words_failures k at_tag at all others
words_failures k at_tag at all (words.TheVariants.Plain w ∷ others) = words_failures k at_tag at all others
words_failures k at_tag at all (words.TheVariants.Struct' name shape row ∷ others) =
    failing (opening (tag_place at at_tag) name k)
    ++ if_typed (λ (o : Opening). body_failures o.known row nothing_laid) (opening (tag_place at at_tag) name k)
words_failures k at_tag at all (words.TheVariants.Enum name constants comma ∷ others) = enum_failures k (tag_place at at_tag) name constants.items

abbrev pub specs_failures : Environment → Place → RawSpecs → List FailingPlace
specs_failures k at s = words_failures k s.tag at (plain_words s.words.items) s.words.items

-- the name of a typedef: a new one (2)
abbrev pub typedef_failures : Shape → RawDeclarator → Environment → List FailingPlace
typedef_failures base d k =
    failing_at d.place (unless (not (is_declared_here d.name k)) DeclaredTwice ++ declarator_codes k.context base None d)
    ++ bounds_failures k.context d.bounds.items

abbrev pub typedefs_failures : Shape → List RawDeclarator → Environment → List FailingPlace
typedefs_failures base [] k = []
typedefs_failures base (d ∷ ds) k =
    typedef_failures base d k ++ if_typed (λ (known : Environment). typedefs_failures base ds known) (typedef_added base d k)
