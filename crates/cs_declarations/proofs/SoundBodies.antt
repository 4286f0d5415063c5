-- After the types that specifiers name, with the bodies of structs and enums, the structs have layouts: for the contract of `specs_type`.
use Rattle.std.proofs.Common.{ℕ, ℤ, pos, ◌+ℤ◌, List, [], ◌∷◌, Result, OnOk}
use Rattle.std.specs.Prelude.{Option, Some, None}
use mathlib.Core.Former.{Count}
use Rattle.cs_types.specs.declared.ctype.CType.{CType}
use Rattle.cs_types.specs.declared.int_type.IntType.TheVariants.{Int}
use Rattle.cs_types.specs.Shape.{integer}
use Rattle.cs_ast.specs.declared.place.Place.{Place}
use Rattle.cs_ast.specs.declared.raw.declaration.RawSpecs.{RawSpecs}
use Rattle.cs_ast.specs.declared.raw.declaration.RawMember.{RawMember}
use Rattle.cs_ast.specs.declared.raw.declaration.RawDeclarator.{RawDeclarator}
use Rattle.cs_ast.specs.declared.raw.declaration.RawEnumerator.{RawEnumerator}
use Rattle.cs_ast.specs.declared.raw.declaration.SpecWord as words
use Rattle.cs_ast.specs.declared.raw.declaration.SpecWord.{SpecWord}
use Rattle.cs_ast.specs.declared.raw.written_type.TypeWord.{TypeWord}
use Rattle.cs_ast.specs.declared.raw.written_type.TypeWord.TheVariants as word
use Rattle.cs_scopes.specs.declared.refusal.TypeCode.TheVariants.{DeclaredTwice, NotConstant}
use Rattle.cs_scopes.specs.declared.refusal.TypeRefusal.{TypeRefusal}
use Rattle.cs_scopes.specs.declared.scope.TagMeaning.TheVariants as tag
use Rattle.cs_scopes.specs.Verdicts.{Verdict, Fine, Fault, lift}
use Rattle.cs_scopes.specs.Meanings.{Constant}
use Rattle.cs_scopes.specs.Scopes.{newest}
use Rattle.cs_scopes.specs.TypeNames.{whole_word, tag_place, typedef_at, enum_at}
use Rattle.cs_declarations.specs.declared.environment.Environment.{Environment as Held}
use Rattle.cs_declarations.specs.Answered.{AnswersWith}
use Rattle.cs_declarations.specs.Environment.{Environment, model_of, table_of, declarations_of, declaring, is_declared_here}
use Rattle.cs_declarations.specs.Bodies.{Typing, Laying, Opening, Body, Counting, nothing_laid, tag_in, word_type, is_int, constant_added, number_said}
use Rattle.cs_declarations.specs.Bodies.{constant_declared, constants_declared, with_enum_tag, is_new_enum, enum_body, opening, struct_read, members_declared}
use Rattle.cs_declarations.specs.Bodies.{group_declared, first_name, plain_row, plain_words, row_type, members_read, words_type, group_of, members_of_list}
use Rattle.cs_declarations.specs.Bodies.{struct_body, specs_type}
use Rattle.cs_declarations.specs.LaidOut.{IsSound}
use Rattle.cs_declarations.specs.View.{environment_of, typing}
use Rattle.cs_declarations.proofs.FineVerdicts.{IfFine, IfFine-lift, IfFine-lift_any, IfFine-cond, answer-IfFine}
use Rattle.cs_declarations.proofs.SoundLayings.{IsLaying, nothing_laid-IsLaying, members_declared-IsLaying}
use Rattle.cs_declarations.proofs.SoundStructs.{GoesOn, GoesOn-same, GoesOn-trans, IsLaying-GoesOn, with_tag-GoesOn, struct_named-GoesOn, IsOpened}
use Rattle.cs_declarations.proofs.SoundStructs.{opening-IsOpened, IsRead, struct_read-GoesOn}

-- what is known after a type, and after constants of an enum
abbrev pub TypeGoesOn : Environment → Typing → Type 0
TypeGoesOn k t = GoesOn k t.1

abbrev CountGoesOn : Environment → Counting → Type 0
CountGoesOn k so_far = GoesOn k so_far.known

-- ---- specifiers without a body

pub word_type-GoesOn : (k : Environment) (at_tag : Option Place) (at : Place) (all : List TypeWord) (w : Option TypeWord) → IsSound k
    → IfFine (word_type k at_tag at all w) (TypeGoesOn k)
word_type-GoesOn k at_tag at all None sound = GoesOn-same k sound
word_type-GoesOn k at_tag at all (Some (word.Typedef name)) sound =
    IfFine-lift_any (λ ty. Fine (ty, k)) (typedef_at at (newest name (declarations_of k))) (TypeGoesOn k) (λ ty. GoesOn-same k sound)
word_type-GoesOn k at_tag at all (Some (word.Struct name)) sound = struct_named-GoesOn (tag_place at at_tag) name k (tag_in k name) sound
word_type-GoesOn k at_tag at all (Some (word.Enum name)) sound =
    IfFine-lift_any (λ ty. Fine (ty, k)) (enum_at (tag_place at at_tag) (tag_in k name)) (TypeGoesOn k) (λ ty. GoesOn-same k sound)
word_type-GoesOn k at_tag at all (Some (word.Integer kind)) sound = GoesOn-same k sound
word_type-GoesOn k at_tag at all (Some word.Void) sound = GoesOn-same k sound
word_type-GoesOn k at_tag at all (Some word.Const) sound = GoesOn-same k sound

-- ---- enums

constant_declared-GoesOn : (k : Environment) (e : RawEnumerator) (so_far : Counting) → CountGoesOn k so_far
    → IfFine (constant_declared e so_far) (CountGoesOn k)
constant_declared-GoesOn k e so_far g =
    let add : ℤ → Verdict Counting = constant_added e.place e.name so_far.known in
    let said = number_said so_far.known.context so_far.next e.value in
    IfFine-cond (is_declared_here e.name so_far.known) (Fault DeclaredTwice e.place) (lift add said) (CountGoesOn k)
    (λ twice. tt)
    (λ new.
    IfFine-lift_any add said (CountGoesOn k) (λ n.
    IfFine-cond (is_int so_far.known n) (Fine (record { next = n +ℤ pos 1; known = declaring e.name (Constant n) so_far.known }))
    (Fault NotConstant e.place) (CountGoesOn k) (λ fits. still n) (λ past. tt)))
  where
    -- declarations change no struct
    still : (n : ℤ) → GoesOn k (declaring e.name (Constant n) so_far.known)
    still n = g

constants_declared-GoesOn : (k : Environment) (es : List RawEnumerator) (so_far : Counting) → CountGoesOn k so_far
    → IfFine (constants_declared es so_far) (CountGoesOn k)
constants_declared-GoesOn k [] so_far g = g
constants_declared-GoesOn k (e ∷ es) so_far g =
    IfFine-lift (constants_declared es) (constant_declared e so_far) (CountGoesOn k) (CountGoesOn k) (constant_declared-GoesOn k e so_far g)
    (λ following h. constants_declared-GoesOn k es following h)

with_enum_tag-GoesOn : (k between : Environment) (name : Option (List ℕ)) → GoesOn k between → GoesOn k (with_enum_tag name between)
with_enum_tag-GoesOn k between None g = g
with_enum_tag-GoesOn k between (Some name) g = with_tag-GoesOn k between name tag.Enum tt g

pub enum_body-GoesOn : (k : Environment) (at : Place) (name : Option (List ℕ)) (constants : List RawEnumerator) → IsSound k
    → IfFine (enum_body k at name constants) (TypeGoesOn k)
enum_body-GoesOn k at name constants sound =
    let rule : Counting → Verdict Typing = λ all. Fine (integer Int, with_enum_tag name all.known) in
    let counted = constants_declared constants (record { next = pos 0; known = k }) in
    IfFine-cond (is_new_enum k name) (lift rule counted) (Fault DeclaredTwice at) (TypeGoesOn k)
    (λ new.
    IfFine-lift rule counted (CountGoesOn k) (TypeGoesOn k)
    (constants_declared-GoesOn k constants (record { next = pos 0; known = k }) (GoesOn-same k sound)) (λ all g. with_enum_tag-GoesOn k all.known name g))
    (λ twice. tt)

-- ---- structs

group_declared-IsRead : (k : Environment) (ds : List RawDeclarator) (before : Laying) (v : Verdict Typing) → IsLaying (model_of k) (table_of k) before
    → IfFine v (TypeGoesOn k) → IfFine (lift (group_declared ds before) v) (IsRead k)
group_declared-IsRead k ds before v laying typed = IfFine-lift (group_declared ds before) v (TypeGoesOn k) (IsRead k) typed at_type
  where
    at_type : (t : Typing) → TypeGoesOn k t → IfFine (group_declared ds before t) (IsRead k)
    at_type t g =
        IfFine-lift (λ laying. Fine (record { laying = laying; known = t.1 })) (members_declared t.1.context t.0 ds before)
        (IsLaying (model_of t.1) (table_of t.1)) (IsRead k)
        (members_declared-IsLaying t.1.context t.0 ds before g.sound.laid_out (IsLaying-GoesOn k t.1 g before laying))
        (λ laying h. (g, h))

IsRead-trans : (k between : Environment) (b : Body) → GoesOn k between → IsRead between b → IsRead k b
IsRead-trans k between b g h = (GoesOn-trans k between b.known g h.0, h.1)

-- more members after those that were read
further : (k : Environment) (read : Body) (v : Verdict Body) → GoesOn k read.known → IfFine v (IsRead read.known) → IfFine v (IsRead k)
further k read (Fine b) g h = IsRead-trans k read.known b g h
further k read (Fault code at) g h = tt

-- a body whose members are read by some rule
body-GoesOn : (k : Environment) (at : Place) (name : Option (List ℕ)) (read : Environment → Verdict Body) → IsSound k
    → ((o : Opening) → IsOpened k o → IfFine (read o.known) (IsRead o.known))
    → IfFine (lift (λ (o : Opening). lift (struct_read o k.reading name) (read o.known)) (opening at name k)) (TypeGoesOn k)
body-GoesOn k at name read sound reads =
    IfFine-lift (λ (o : Opening). lift (struct_read o k.reading name) (read o.known)) (opening at name k) (IsOpened k) (TypeGoesOn k)
    (opening-IsOpened at name k sound)
    (λ o is_opened.
    IfFine-lift (struct_read o k.reading name) (read o.known) (IsRead o.known) (TypeGoesOn k) (reads o is_opened)
    (λ b is_read. struct_read-GoesOn k o is_opened name b is_read))

mutual
  pub row_type-GoesOn : (n : Count) (row : words.Row_of-SpecWord n) (k : Environment) (at_tag : Option Place) (at : Place) (all : List TypeWord) → IsSound k
      → IfFine (row_type k at_tag at all row) (TypeGoesOn k)
  row_type-GoesOn n words.end_of-SpecWord k at_tag at all sound = word_type-GoesOn k at_tag at all (whole_word all) sound
  row_type-GoesOn n (words.more_of-SpecWord words.TheVariants.Static others) k at_tag at all sound = row_type-GoesOn _ others k at_tag at all sound
  row_type-GoesOn n (words.more_of-SpecWord (words.TheVariants.Plain w) others) k at_tag at all sound = row_type-GoesOn _ others k at_tag at all sound
  row_type-GoesOn n (words.more_of-SpecWord (words.TheVariants.Struct' name shape row) others) k at_tag at all sound =
      body-GoesOn k (tag_place at at_tag) name (λ inner. members_read inner row nothing_laid) sound
      (λ o is_opened. members_read-IsRead _ row o.known nothing_laid is_opened.sound (nothing_laid-IsLaying (model_of o.known) (table_of o.known)))
  row_type-GoesOn n (words.more_of-SpecWord (words.TheVariants.Enum name constants comma) others) k at_tag at all sound =
      enum_body-GoesOn k (tag_place at at_tag) name constants.items sound

  pub members_read-IsRead : (n : Count) (row : words.Row_of-RawMember n) (k : Environment) (before : Laying) → IsSound k
      → IsLaying (model_of k) (table_of k) before → IfFine (members_read k row before) (IsRead k)
  members_read-IsRead n words.end_of-RawMember k before sound laying = (GoesOn-same k sound, laying)
  members_read-IsRead n (words.more_of-RawMember shape row at_tag declarators others) k before sound laying =
      IfFine-lift (λ (read : Body). members_read read.known others read.laying)
      (lift (group_declared declarators.items before) (row_type k at_tag (first_name declarators.items) (plain_row row) row)) (IsRead k) (IsRead k)
      (group_declared-IsRead k declarators.items before (row_type k at_tag (first_name declarators.items) (plain_row row) row) laying
      (row_type-GoesOn _ row k at_tag (first_name declarators.items) (plain_row row) sound))
      (λ read h. further k read (members_read read.known others read.laying) h.0 (members_read-IsRead _ others read.known read.laying h.0.sound h.1))

-- the type that a list of specifiers names
pub words_type-GoesOn : (k : Environment) (at_tag : Option Place) (at : Place) (all : List TypeWord) (ws : List SpecWord) → IsSound k
    → IfFine (words_type k at_tag at all ws) (TypeGoesOn k)
words_type-GoesOn k at_tag at all [] sound = word_type-GoesOn k at_tag at all (whole_word all) sound
words_type-GoesOn k at_tag at all (words.TheVariants.Static ∷ others) sound = words_type-GoesOn k at_tag at all others sound
words_type-GoesOn k at_tag at all (words.TheVariants.Plain w ∷ others) sound = words_type-GoesOn k at_tag at all others sound
words_type-GoesOn k at_tag at all (words.TheVariants.Struct' name shape row ∷ others) sound =
    body-GoesOn k (tag_place at at_tag) name (λ inner. members_read inner row nothing_laid) sound
    (λ o is_opened. members_read-IsRead _ row o.known nothing_laid is_opened.sound (nothing_laid-IsLaying (model_of o.known) (table_of o.known)))
words_type-GoesOn k at_tag at all (words.TheVariants.Enum name constants comma ∷ others) sound =
    enum_body-GoesOn k (tag_place at at_tag) name constants.items sound

-- the type of the specifiers before declarators
pub specs_type-GoesOn : (k : Environment) (at : Place) (s : RawSpecs) → IsSound k → IfFine (specs_type k at s) (TypeGoesOn k)
specs_type-GoesOn k at s sound = words_type-GoesOn k s.tag at (plain_words s.words.items) s.words.items sound

-- ---- members in lists

pub group_of-IsRead : (k : Environment) (group : RawMember) (before : Laying) → IsSound k → IsLaying (model_of k) (table_of k) before
    → IfFine (group_of k group before) (IsRead k)
group_of-IsRead k group before sound laying =
    group_declared-IsRead k group.declarators.items before (specs_type k (first_name group.declarators.items) group.specs) laying
    (specs_type-GoesOn k (first_name group.declarators.items) group.specs sound)

pub members_of_list-IsRead : (k : Environment) (groups : List RawMember) (before : Laying) → IsSound k → IsLaying (model_of k) (table_of k) before
    → IfFine (members_of_list k groups before) (IsRead k)
members_of_list-IsRead k [] before sound laying = (GoesOn-same k sound, laying)
members_of_list-IsRead k (group ∷ groups) before sound laying =
    IfFine-lift (λ (read : Body). members_of_list read.known groups read.laying) (group_of k group before) (IsRead k) (IsRead k)
    (group_of-IsRead k group before sound laying)
    (λ read h. further k read (members_of_list read.known groups read.laying) h.0 (members_of_list-IsRead read.known groups read.laying h.0.sound h.1))

-- the struct that a body makes complete
pub struct_body-GoesOn : (k : Environment) (at : Place) (name : Option (List ℕ)) (groups : List RawMember) → IsSound k
    → IfFine (struct_body k at name groups) (TypeGoesOn k)
struct_body-GoesOn k at name groups sound =
    body-GoesOn k at name (λ inner. members_of_list inner groups nothing_laid) sound
    (λ o is_opened. members_of_list-IsRead o.known groups nothing_laid is_opened.sound (nothing_laid-IsLaying (model_of o.known) (table_of o.known)))

-- after a function that returns this type
pub specs_type-leaves : (k : Environment) (at : Place) (s : RawSpecs) (r : Result CType TypeRefusal) (after : Held)
    → AnswersWith typing (specs_type k at s) r after → IsSound k → OnOk r (IsSound (environment_of after))
specs_type-leaves k at s r after reported sound =
    answer-IfFine typing (specs_type k at s) r after (TypeGoesOn k) (IsSound (environment_of after)) reported (specs_type-GoesOn k at s sound)
    (λ ty g. g.sound)
