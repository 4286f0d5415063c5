-- The types that specifiers name, with the bodies of structs and enums (C11 6.7.2).
use Rattle.std.specs.Prelude.{ℕ, ◌+◌, ◌^◌, ℤ, pos, ◌+ℤ◌, nat_le, nat_eq, int_le, Bool, true, false, not, ◌&&◌, ◌||◌}
use Rattle.std.specs.Prelude.{if◌then◌else◌, List, [], ◌∷◌, ◌++◌, length, max, slice_set, Option, Some, None, is_some}
use Rattle.std.specs.List.{list_any}
use Rattle.std.specs.Cmp.Lexicographic.{pointwise}
use Rattle.cs_types.specs.declared.data_model.DataModel.{DataModel}
use Rattle.cs_types.specs.declared.int_type.IntType.TheVariants.{Int}
use Rattle.cs_types.specs.declared.structs.StructType.{StructType}
use Rattle.cs_types.specs.IntType.{bytes_of, word_bytes, least_of, greatest_of}
use Rattle.cs_types.specs.Layout.{round_up, complete_of, members_of}
use Rattle.cs_types.specs.Members.{Member}
use Rattle.cs_types.specs.Shape.{Shape, void, integer, pointer, array, struct}
use Rattle.cs_ast.specs.declared.place.Place.{Place}
use Rattle.cs_ast.specs.declared.raw.declaration.RawSpecs.{RawSpecs}
use Rattle.cs_ast.specs.declared.raw.declaration.RawMember.{RawMember}
use Rattle.cs_ast.specs.declared.raw.declaration.SpecWord as words
use Rattle.cs_ast.specs.declared.raw.declaration.SpecWord.{SpecWord}
use Rattle.cs_ast.specs.declared.raw.declaration.RawDeclarator.{RawDeclarator}
use Rattle.cs_ast.specs.declared.raw.declaration.RawEnumerator.{RawEnumerator}
use Rattle.cs_ast.specs.declared.raw.expression.RawExpr.{RawExpr}
use Rattle.cs_ast.specs.declared.raw.written_type.IntegerWord.{IntegerWord}
use Rattle.cs_ast.specs.declared.raw.written_type.TypeWord.{TypeWord}
use Rattle.cs_ast.specs.declared.raw.written_type.TypeWord.TheVariants as word
use Rattle.cs_scopes.specs.declared.context.Context.{Context}
use Rattle.cs_scopes.specs.declared.refusal.TypeCode.TheVariants as code
use Rattle.cs_scopes.specs.declared.scope.TagMeaning.{TagMeaning}
use Rattle.cs_scopes.specs.declared.scope.TagMeaning.TheVariants as tag
use Rattle.cs_scopes.specs.Verdicts.{Verdict, Fine, Fault, lift}
use Rattle.cs_scopes.specs.Meanings.{Typedef, Constant}
use Rattle.cs_scopes.specs.Scopes.{newest, tagged}
use Rattle.cs_consts.specs.Roles.{value_of}
use Rattle.cs_scopes.specs.Layouts.{struct_of}
use Rattle.cs_scopes.specs.Sizes.{bytes_in}
use Rattle.cs_scopes.specs.TypeNames.{is_word, integer_type, whole_word, typedef_at, enum_at, tag_place, starred, complete_at}
use Rattle.cs_declarations.specs.Environment.{Environment, model_of, table_of, declarations_of, with_table, with_reading, with_tag, declaring, is_declared_here}
use Rattle.cs_declarations.specs.Sizes.{sizes_said, refused_bound, unless_refused, bounded, extent_of, filled}

-- a type, and what is known after it
abbrev pub Typing : Type 0
Typing = Shape × Environment

-- a struct without its members
abbrev pub empty_struct : List ℕ → StructType
empty_struct name = record { tag = name; members = None; size = 0; align = 0 }

-- after adding a struct, which has no members yet
abbrev pub with_struct : List ℕ → Environment → Environment
with_struct name k = with_table (table_of k ++ empty_struct name ∷ []) k

-- after adding a struct with a new tag
abbrev pub with_tagged_struct : List ℕ → Environment → Environment
with_tagged_struct name k = with_tag name (tag.Struct (length (table_of k))) (with_struct name k)

-- the meaning of a tag
abbrev pub tag_in : Environment → List ℕ → Option TagMeaning
tag_in k name = tagged name k.context.scope.tags

-- the struct with a tag that no body follows: the tag may be new (C11 6.7.2.3, paragraph 8)
abbrev pub struct_named : Place → List ℕ → Environment → Option TagMeaning → Verdict Typing
struct_named at name k (Some (tag.Struct number)) = Fine (struct number, k)
struct_named at name k (Some tag.Enum) = Fault code.DeclaredTwice at
struct_named at name k None = Fine (struct (length (table_of k)), with_tagged_struct name k)

-- the type of specifiers without a body, at the position of what requires it; one of them may name a type that isn't an integer type
abbrev pub word_type : Environment → Option Place → Place → List TypeWord → Option TypeWord → Verdict Typing
word_type k at_tag at all None = Fine (integer (integer_type all), k)
word_type k at_tag at all (Some (word.Typedef name)) = lift (λ ty. Fine (ty, k)) (typedef_at at (newest name (declarations_of k)))
word_type k at_tag at all (Some (word.Struct name)) = struct_named (tag_place at at_tag) name k (tag_in k name)
word_type k at_tag at all (Some (word.Enum name)) = lift (λ ty. Fine (ty, k)) (enum_at (tag_place at at_tag) (tag_in k name))
word_type k at_tag at all (Some other) = Fine (void, k)

-- the alignment of a struct
abbrev pub align_said : Option StructType → ℕ
align_said (Some s) = s.align
align_said None = 1

-- the alignment of a complete type (C11 6.2.8)
abbrev pub align_in : DataModel → List StructType → Shape → ℕ
align_in model table void = 1
align_in model table (integer ty) = bytes_of model ty
align_in model table (pointer target) = word_bytes model
align_in model table (array element count) = align_in model table element
align_in model table (struct number) = align_said (complete_of table number)

-- the members of a struct so far, with their size and alignment in bytes
pub record Laying : Type 0 where
  pub members : List Member
  pub size : ℕ
  pub align : ℕ

abbrev pub nothing_laid : Laying
nothing_laid = record { members = []; size = 0; align = 1 }

-- one of the members has this name
abbrev pub has_member : List ℕ → List Member → Bool
has_member name members = list_any (λ (m : Member). pointwise nat_eq m.name name) members

-- a member of this size and alignment in bytes, after others (C11 6.7.2.1, paragraph 15)
abbrev pub placed : Place → List ℕ → Shape → ℕ → ℕ → Laying → Verdict Laying
placed at name ty bytes align before =
    if nat_le (round_up before.size align + bytes) (2 ^ 20)
    then Fine (record {
      members = before.members ++ record { name = name; ty = ty; offset = round_up before.size align } ∷ [];
      size = round_up before.size align + bytes;
      align = max before.align align;
    })
    else Fault code.Size at

-- the same for a complete type, which may be too large for any object
abbrev pub placed_if : Context → Place → List ℕ → Shape → Option ℕ → Laying → Verdict Laying
placed_if c at name ty (Some bytes) before = placed at name ty bytes (align_in c.model c.table.list ty) before
placed_if c at name ty None before = Fault code.Size at

-- the members after one more, whose type has to be complete (C11 6.7.2.1, paragraphs 3 and 9)
abbrev pub member_added : Context → Place → List ℕ → Laying → Shape → Verdict Laying
member_added c at name before ty =
    lift (λ whole. placed_if c at name whole (bytes_in c.model c.table.list whole) before) (complete_at c.table.list at ty)

-- the type that a declarator gives its name, after the type of the specifiers; an array without a size has `count` elements.
-- The name comes before the bounds, so that a fault at its position comes first
abbrev pub declarator_type : Context → Shape → Option ℕ → RawDeclarator → Verdict Shape
declarator_type c base count d =
    lift (λ whole.
    lift (unless_refused (refused_bound c d.bounds.items))
    (lift (filled c d.place count) (extent_of c d.place whole (sizes_said c d.bounds.items))))
    (bounded c d.place (starred d.pointers.items base) d.bounds.items)

-- the members after that of a declarator, whose name is new in the struct
abbrev pub member_declared : Context → Shape → RawDeclarator → Laying → Verdict Laying
member_declared c base d before =
    if has_member d.name before.members then Fault code.DeclaredTwice d.place
    else lift (member_added c d.place d.name before) (declarator_type c base None d)

abbrev pub members_declared : Context → Shape → List RawDeclarator → Laying → Verdict Laying
members_declared c base [] before = Fine before
members_declared c base (d ∷ ds) before = lift (members_declared c base ds) (member_declared c base d before)

-- after the struct with this number got these members (C11 6.7.2.1, paragraph 17)
abbrev pub with_members : ℕ → List ℕ → Laying → Environment → Environment
with_members number name laying k =
    with_table (slice_set (table_of k) number (struct_of name laying.members laying.size laying.align)) k

-- a number that `int` can represent (C11 6.7.2.2, paragraph 2)
abbrev pub is_int : Environment → ℤ → Bool
is_int k n = int_le (least_of (model_of k) Int) n && int_le n (greatest_of (model_of k) Int)

-- a constant with its number, which `int` has to represent, and the next number, which is one more
pub record Counting : Type 0 where
  pub next : ℤ
  pub known : Environment

abbrev pub constant_added : Place → List ℕ → Environment → ℤ → Verdict Counting
constant_added at name k n =
    if is_int k n then Fine (record { next = n +ℤ pos 1; known = declaring name (Constant n) k }) else Fault code.NotConstant at

-- the number that is written for a constant, or else the next one
abbrev pub number_said : Context → ℤ → Option RawExpr → Verdict ℤ
number_said c next None = Fine next
number_said c next (Some e) = lift (λ v. Fine v.1) (value_of c e)

-- an enumeration constant (C11 6.7.2.2)
abbrev pub constant_declared : RawEnumerator → Counting → Verdict Counting
constant_declared e so_far =
    if is_declared_here e.name so_far.known then Fault code.DeclaredTwice e.place
    else lift (constant_added e.place e.name so_far.known) (number_said so_far.known.context so_far.next e.value)

abbrev pub constants_declared : List RawEnumerator → Counting → Verdict Counting
constants_declared [] so_far = Fine so_far
constants_declared (e ∷ es) so_far = lift (constants_declared es) (constant_declared e so_far)

-- after the body of an enum, whose tag, if it has one, is known from there on
abbrev pub with_enum_tag : Option (List ℕ) → Environment → Environment
with_enum_tag None k = k
with_enum_tag (Some name) k = with_tag name tag.Enum k

-- the tag of a body is new
abbrev pub is_new_enum : Environment → Option (List ℕ) → Bool
is_new_enum k None = true
is_new_enum k (Some name) = not (is_some (tag_in k name))

abbrev pub enum_body : Environment → Place → Option (List ℕ) → List RawEnumerator → Verdict Typing
enum_body k at name constants =
    if is_new_enum k name
    then lift (λ (all : Counting). Fine (integer Int, with_enum_tag name all.known)) (constants_declared constants (record { next = pos 0; known = k }))
    else Fault code.DeclaredTwice at

-- the struct whose body begins: it is new or has no body yet, not even one that is being read
pub record Opening : Type 0 where
  pub number : ℕ
  pub known : Environment

abbrev pub is_among : ℕ → List ℕ → Bool
is_among n ns = list_any (λ m. nat_eq m n) ns

abbrev pub opened : ℕ → Environment → Opening
opened number k = record { number = number; known = with_reading (k.reading ++ number ∷ []) k }

abbrev pub opening_tagged : Place → List ℕ → Environment → Option TagMeaning → Verdict Opening
opening_tagged at name k (Some (tag.Struct number)) =
    if is_among number k.reading || is_some (members_of (table_of k) number) then Fault code.DeclaredTwice at else Fine (opened number k)
opening_tagged at name k (Some tag.Enum) = Fault code.DeclaredTwice at
opening_tagged at name k None = Fine (opened (length (table_of k)) (with_tagged_struct name k))

abbrev pub opening : Place → Option (List ℕ) → Environment → Verdict Opening
opening at (Some name) k = opening_tagged at name k (tag_in k name)
opening at None k = Fine (opened (length (table_of k)) (with_struct [] k))

-- the name that a struct has in the table: its tag, or the empty name
abbrev pub name_or_none : Option (List ℕ) → List ℕ
name_or_none (Some name) = name
name_or_none None = []

-- members so far, and what is known after them
pub record Body : Type 0 where
  pub laying : Laying
  pub known : Environment

-- a body that was read: the struct has its members
abbrev pub struct_read : Opening → List ℕ → Option (List ℕ) → Body → Verdict Typing
struct_read o before name body = Fine (struct o.number, with_reading before (with_members o.number (name_or_none name) body.laying body.known))

abbrev pub group_declared : List RawDeclarator → Laying → Typing → Verdict Body
group_declared declarators before ty =
    lift (λ laying. Fine (record { laying = laying; known = ty.1 })) (members_declared ty.1.context ty.0 declarators before)

-- the position of the first name of some declarators, which requires their type
abbrev pub first_name : List RawDeclarator → Place
first_name [] = record { file = 0; line = 0; column = 0 }
first_name (d ∷ ds) = d.place

-- the words without a body
abbrev pub plain_row : {n : _} → words.Row_of-SpecWord n → List TypeWord
plain_row words.end_of-SpecWord = []
plain_row (words.more_of-SpecWord (words.TheVariants.Plain w) others) = w ∷ plain_row others
plain_row (words.more_of-SpecWord other others) = plain_row others

abbrev mutual
  -- the type of specifiers, of which `all` are the words without a body and the row is still to be read, with the position of their tag;
  -- it is reported at the position of what requires it
  pub row_type : {n : _} → Environment → Option Place → Place → List TypeWord → words.Row_of-SpecWord n → Verdict Typing
  row_type k at_tag at all words.end_of-SpecWord = word_type k at_tag at all (whole_word all)
  row_type k at_tag at all (words.more_of-SpecWord words.TheVariants.Static others) = row_type k at_tag at all others
  row_type k at_tag at all (words.more_of-SpecWord (words.TheVariants.Plain w) others) = row_type k at_tag at all others
  row_type k at_tag at all (words.more_of-SpecWord (words.TheVariants.Struct' name shape row) others) =
      lift (λ (o : Opening). lift (struct_read o k.reading name) (members_read o.known row nothing_laid)) (opening (tag_place at at_tag) name k)
  row_type k at_tag at all (words.more_of-SpecWord (words.TheVariants.Enum name constants comma) others) =
      enum_body k (tag_place at at_tag) name constants.items

  -- the members of a body, group by group
  pub members_read : {n : _} → Environment → words.Row_of-RawMember n → Laying → Verdict Body
  members_read k words.end_of-RawMember before = Fine (record { laying = before; known = k })
  members_read k (words.more_of-RawMember shape row tag declarators others) before =
      lift (λ (read : Body). members_read read.known others read.laying)
      (lift (group_declared declarators.items before) (row_type k tag (first_name declarators.items) (plain_row row) row))

-- the words of a list without a body
abbrev pub plain_words : List SpecWord → List TypeWord
plain_words [] = []
plain_words (words.TheVariants.Plain w ∷ others) = w ∷ plain_words others
plain_words (other ∷ others) = plain_words others

-- the word is this word of an integer type
abbrev pub is_kind : IntegerWord → SpecWord → Bool
is_kind kind (words.TheVariants.Plain w) = is_word kind w
is_kind kind other = false

-- the type of specifiers, with the position of their tag and of what requires it
abbrev pub words_type : Environment → Option Place → Place → List TypeWord → List SpecWord → Verdict Typing
words_type k at_tag at all [] = word_type k at_tag at all (whole_word all)
words_type k at_tag at all (words.TheVariants.Static ∷ others) = words_type k at_tag at all others
words_type k at_tag at all (words.TheVariants.Plain w ∷ others) = words_type k at_tag at all others
words_type k at_tag at all (words.TheVariants.Struct' name shape row ∷ others) =
    lift (λ (o : Opening). lift (struct_read o k.reading name) (members_read o.known row nothing_laid)) (opening (tag_place at at_tag) name k)
words_type k at_tag at all (words.TheVariants.Enum name constants comma ∷ others) = enum_body k (tag_place at at_tag) name constants.items

-- the members of a group, after others
abbrev pub group_of : Environment → RawMember → Laying → Verdict Body
group_of k group before =
    lift (group_declared group.declarators.items before)
    (words_type k group.specs.tag (first_name group.declarators.items) (plain_words group.specs.words.items) group.specs.words.items)

-- the members of groups, one after another
abbrev pub members_of_list : Environment → List RawMember → Laying → Verdict Body
members_of_list k [] before = Fine (record { laying = before; known = k })
members_of_list k (group ∷ groups) before = lift (λ (read : Body). members_of_list read.known groups read.laying) (group_of k group before)

-- the struct that its body completes, at the position of its tag
abbrev pub struct_body : Environment → Place → Option (List ℕ) → List RawMember → Verdict Typing
struct_body k at name groups =
    lift (λ (o : Opening). lift (struct_read o k.reading name) (members_of_list o.known groups nothing_laid)) (opening at name k)

-- the type of the specifiers before declarators (C11 6.7.2)
abbrev pub specs_type : Environment → Place → RawSpecs → Verdict Typing
specs_type k at s = words_type k s.tag at (plain_words s.words.items) s.words.items

-- after the declaration of a typedef name (C11 6.7.8)
abbrev pub typedef_added : Shape → RawDeclarator → Environment → Verdict Environment
typedef_added base d k =
    if is_declared_here d.name k then Fault code.DeclaredTwice d.place
    else lift (λ ty. Fine (declaring d.name (Typedef ty) k)) (declarator_type k.context base None d)

abbrev pub typedefs_added : Shape → List RawDeclarator → Environment → Verdict Environment
typedefs_added base [] k = Fine k
typedefs_added base (d ∷ ds) k = lift (typedefs_added base ds) (typedef_added base d k)
