-- New declarations come after those in scope, and each parameter has its mark: for scopes that end, and for the heads of functions.
use Rattle.std.proofs.Common.{◌≡◌, ◌∙◌, ℕ, List, [], ◌∷◌, ◌++◌, append_assoc, length, take, inl, inr, refl, sym, ap, arith}
use Rattle.std.specs.Prelude.{◌||◌, Option, Some, None, is_some, pos, ℤ}
use Rattle.std.specs.List.{All}
use Rattle.std.proofs.lemmas.List.{append-nil, length_push, take_at}
use Rattle.std.proofs.lemmas.List.Elements.{All-nil, All-cons, All-append, All-push}
use Rattle.cs_types.specs.Layout.{members_of}
use Rattle.cs_types.specs.Shape.{Shape, void, integer, pointer, array, struct}
use Rattle.cs_types.specs.declared.int_type.IntType.TheVariants.{Int}
use Rattle.cs_ast.specs.declared.place.Place.{Place}
use Rattle.cs_ast.specs.declared.raw.name.RawName.{RawName}
use Rattle.cs_ast.specs.declared.raw.declaration.RawSpecs.{RawSpecs}
use Rattle.cs_ast.specs.declared.raw.declaration.SpecWord as words
use Rattle.cs_ast.specs.declared.raw.declaration.SpecWord.{SpecWord}
use Rattle.cs_ast.specs.declared.raw.declaration.RawDeclarator.{RawDeclarator}
use Rattle.cs_ast.specs.declared.raw.declaration.RawEnumerator.{RawEnumerator}
use Rattle.cs_ast.specs.declared.raw.declaration.RawParameter.{RawParameter}
use Rattle.cs_ast.specs.declared.raw.declaration.RawParameters.{RawParameters}
use Rattle.cs_ast.specs.declared.raw.declaration.RawParameters.TheVariants as parameter_lists
use Rattle.cs_ast.specs.declared.raw.written_type.TypeWord.{TypeWord}
use Rattle.cs_ast.specs.declared.raw.written_type.TypeWord.TheVariants as word
use Rattle.cs_ast.specs.TypedProgram.{Variable}
use Rattle.cs_scopes.specs.declared.context.Context.{Context}
use Rattle.cs_scopes.specs.declared.scope.TagMeaning.{TagMeaning}
use Rattle.cs_scopes.specs.declared.scope.TagMeaning.TheVariants as tag
use Rattle.cs_scopes.specs.Meanings.{Meaning, Typedef, Constant, Global, Local, Function, Declaration}
use Rattle.cs_scopes.specs.Verdicts.{Verdict, Fine, lift}
use Rattle.cs_scopes.specs.Scopes.{newest}
use Rattle.cs_scopes.specs.TypeNames.{whole_word, typedef_at, enum_at, tag_place, starred, array_of}
use Rattle.cs_declarations.specs.Environment.{Environment, table_of, declarations_of, with_tag, declaring, is_declared_here}
use Rattle.cs_declarations.specs.Bodies.{Typing, with_struct, with_tagged_struct, tag_in, struct_named, word_type, Laying, nothing_laid, declarator_type}
use Rattle.cs_declarations.specs.Bodies.{members_declared, is_int, Counting, constant_added, number_said, constant_declared, constants_declared, with_enum_tag}
use Rattle.cs_declarations.specs.Bodies.{is_new_enum, enum_body, Opening, is_among, opened, opening_tagged, opening, Body, struct_read, group_declared}
use Rattle.cs_declarations.specs.Bodies.{first_name, plain_row, row_type, members_read, plain_words, words_type, specs_type, typedefs_added}
use Rattle.cs_declarations.specs.Sizes.{sizes_said, refused_bound, unless_refused, bounded, element_of}
use Rattle.cs_declarations.specs.Parameters.{Head, Passed, place_of, name_in, plainly_passed, array_passed, passed, naming, with_parameter}
use Rattle.cs_declarations.specs.Parameters.{parameter_passed, parameter_typed, parameters_after, no_parameter, parameters_typed, twice_after}
use Rattle.cs_well_formed.specs.Expressions.{IsScalar}
use Rattle.cs_well_formed.proofs.Verdicts.{IfFine, if_fine-any, if_fine-weaker, lift-then, cond-then, unless_refused-then, after_twice-then}

-- one list is the beginning of another
abbrev pub Starts : {A : Type 0} → List A → List A → Type 0
Starts first all = (rest : List _) × (all ≡ first ++ rest)

pub starts-self : {A : Type 0} (a : List A) → Starts a a
starts-self a = ([], sym (append-nil a))

pub starts-trans : {A : Type 0} (a b c : List A) → Starts a b → Starts b c → Starts a c
starts-trans a b c h k = (h.0 ++ k.0, k.1 ∙ ap (λ xs. xs ++ k.0) h.1 ∙ append_assoc a h.0 k.0)

pub start-take : {A : Type 0} (first all : List A) → Starts first all → take (length first) all ≡ first
start-take first all h = ap (take (length first)) h.1 ∙ take_at first h.0 (length first) refl

-- the declaration of something other than a function
abbrev pub IsPlain : Meaning → Type 0
IsPlain (Typedef ty) = Unit {0}
IsPlain (Constant value) = Unit {0}
IsPlain (Global number ty) = Unit {0}
IsPlain (Local number ty) = Unit {0}
IsPlain (Function f) = ⊥

-- what is known after a part: its declarations come after those of the same scope before it, and none is a function
pub record DeclaresOn (k m : Environment) : Type 0 where
  pub more : List Declaration
  pub declarations : declarations_of m ≡ declarations_of k ++ more
  pub plain : All (λ (d : Declaration). IsPlain d.meaning) more
  pub outer : m.outer ≡ k.outer

pub on-starts : (k m : Environment) → DeclaresOn k m → Starts (declarations_of k) (declarations_of m)
on-starts k m h = (h.more, h.declarations)

-- if only structs, tags, bodies or literals have changed
pub same-on : (k m : Environment) → declarations_of m ≡ declarations_of k → m.outer ≡ k.outer → DeclaresOn k m
same-on k m is outer = record {
  more = [];
  declarations = is ∙ sym (append-nil (declarations_of k));
  plain = All-nil (λ (d : Declaration). IsPlain d.meaning);
  outer = outer;
}

pub on-self : (k : Environment) → DeclaresOn k k
on-self k = same-on k k refl refl

pub on-trans : (k m n : Environment) → DeclaresOn k m → DeclaresOn m n → DeclaresOn k n
on-trans k m n h g = record {
  more = h.more ++ g.more;
  declarations = g.declarations ∙ ap (λ ds. ds ++ g.more) h.declarations ∙ append_assoc (declarations_of k) h.more g.more;
  plain = All-append (λ (d : Declaration). IsPlain d.meaning) h.more g.more h.plain g.plain;
  outer = g.outer ∙ h.outer;
}

pub declaring-on : (name : List ℕ) (meaning : Meaning) (k : Environment) → IsPlain meaning → DeclaresOn k (declaring name meaning k)
declaring-on name meaning k plain = record {
  more = record { name = name; meaning = meaning } ∷ [];
  declarations = refl;
  plain = All-cons (λ (d : Declaration). IsPlain d.meaning) (record { name = name; meaning = meaning }) [] plain
      (All-nil (λ (d : Declaration). IsPlain d.meaning));
  outer = refl;
}

-- ---- the specifiers before declarators

abbrev pub TypeDeclaresOn : Environment → Typing → Type 0
TypeDeclaresOn k r = DeclaresOn k r.1

abbrev CountDeclaresOn : Environment → Counting → Type 0
CountDeclaresOn k r = DeclaresOn k r.known

abbrev BodyDeclaresOn : Environment → Body → Type 0
BodyDeclaresOn k b = DeclaresOn k b.known

abbrev OpeningDeclaresOn : Environment → Opening → Type 0
OpeningDeclaresOn k o = DeclaresOn k o.known

struct_named-on : (at : Place) (name : List ℕ) (k : Environment) (meaning : Option TagMeaning) → IfFine (struct_named at name k meaning) (TypeDeclaresOn k)
struct_named-on at name k (Some (tag.Struct number)) = on-self k
struct_named-on at name k (Some tag.Enum) = tt
struct_named-on at name k None = same-on k (with_tagged_struct name k) refl refl

same_type-on : (k : Environment) (v : Verdict Shape) → IfFine (lift (λ ty. Fine (ty, k)) v) (TypeDeclaresOn k)
same_type-on k v = lift-then (λ _. Unit {0}) (TypeDeclaresOn k) (λ ty. Fine (ty, k)) v (if_fine-any v) (λ _ _. on-self k)

word_type-on : (k : Environment) (at_tag : Option Place) (at : Place) (all : List TypeWord) (one : Option TypeWord)
    → IfFine (word_type k at_tag at all one) (TypeDeclaresOn k)
word_type-on k at_tag at all None = on-self k
word_type-on k at_tag at all (Some (word.Typedef name)) = same_type-on k (typedef_at at (newest name (declarations_of k)))
word_type-on k at_tag at all (Some (word.Struct name)) = struct_named-on (tag_place at at_tag) name k (tag_in k name)
word_type-on k at_tag at all (Some (word.Enum name)) = same_type-on k (enum_at (tag_place at at_tag) (tag_in k name))
word_type-on k at_tag at all (Some word.Const) = on-self k
word_type-on k at_tag at all (Some (word.Integer kind)) = on-self k
word_type-on k at_tag at all (Some word.Void) = on-self k

constant_declared-on : (e : RawEnumerator) (so_far : Counting) → IfFine (constant_declared e so_far) (CountDeclaresOn so_far.known)
constant_declared-on e so_far =
    cond-then (CountDeclaresOn so_far.known) (is_declared_here e.name so_far.known) _ _ (λ _. tt)
    (λ _.
    lift-then (λ _. Unit {0}) (CountDeclaresOn so_far.known) (constant_added e.place e.name so_far.known) _
    (if_fine-any (number_said so_far.known.context so_far.next e.value))
    (λ n _. cond-then (CountDeclaresOn so_far.known) (is_int so_far.known n) _ _ (λ _. declaring-on e.name (Constant n) so_far.known tt) (λ _. tt)))

constants_declared-on : (es : List RawEnumerator) (so_far : Counting) → IfFine (constants_declared es so_far) (CountDeclaresOn so_far.known)
constants_declared-on [] so_far = on-self so_far.known
constants_declared-on (e ∷ es) so_far =
    lift-then (CountDeclaresOn so_far.known) (CountDeclaresOn so_far.known) (constants_declared es) _ (constant_declared-on e so_far)
    (λ r first.
    if_fine-weaker (CountDeclaresOn r.known) (CountDeclaresOn so_far.known) (constants_declared es r) (constants_declared-on es r)
    (λ x others. on-trans so_far.known r.known x.known first others))

enum_tag-on : (name : Option (List ℕ)) (k : Environment) → DeclaresOn k (with_enum_tag name k)
enum_tag-on None k = on-self k
enum_tag-on (Some name) k = same-on k (with_tag name tag.Enum k) refl refl

enum_body-on : (k : Environment) (at : Place) (name : Option (List ℕ)) (constants : List RawEnumerator)
    → IfFine (enum_body k at name constants) (TypeDeclaresOn k)
enum_body-on k at name constants =
    cond-then (TypeDeclaresOn k) (is_new_enum k name) _ _
    (λ _. lift-then (CountDeclaresOn k) (TypeDeclaresOn k) (λ (all : Counting). Fine (integer Int, with_enum_tag name all.known)) _
    (constants_declared-on constants (record { next = pos 0; known = k }))
    (λ all counted. on-trans k all.known (with_enum_tag name all.known) counted (enum_tag-on name all.known)))
    (λ _. tt)

opening_tagged-on : (at : Place) (name : List ℕ) (k : Environment) (meaning : Option TagMeaning)
    → IfFine (opening_tagged at name k meaning) (OpeningDeclaresOn k)
opening_tagged-on at name k (Some (tag.Struct number)) =
    cond-then (OpeningDeclaresOn k) (is_among number k.reading || is_some (members_of (table_of k) number)) _ _ (λ _. tt)
    (λ _. same-on k (opened number k).known refl refl)
opening_tagged-on at name k (Some tag.Enum) = tt
opening_tagged-on at name k None = same-on k (opened (length (table_of k)) (with_tagged_struct name k)).known refl refl

opening-on : (at : Place) (name : Option (List ℕ)) (k : Environment) → IfFine (opening at name k) (OpeningDeclaresOn k)
opening-on at (Some name) k = opening_tagged-on at name k (tag_in k name)
opening-on at None k = same-on k (opened (length (table_of k)) (with_struct [] k)).known refl refl

struct_read-on : (k : Environment) (o : Opening) (before : List ℕ) (name : Option (List ℕ)) (v : Verdict Body) → DeclaresOn k o.known
    → IfFine v (BodyDeclaresOn o.known) → IfFine (lift (struct_read o before name) v) (TypeDeclaresOn k)
struct_read-on k o before name v h read =
    lift-then (BodyDeclaresOn o.known) (TypeDeclaresOn k) (struct_read o before name) v read
    (λ body inside. let all = on-trans k o.known body.known h inside in
    record { more = all.more; declarations = all.declarations; plain = all.plain; outer = all.outer })

group_declared-on : (k : Environment) (declarators : List RawDeclarator) (before : Laying) (ty : Typing) → DeclaresOn k ty.1
    → IfFine (group_declared declarators before ty) (BodyDeclaresOn k)
group_declared-on k declarators before ty h =
    lift-then (λ _. Unit {0}) (BodyDeclaresOn k) (λ laying. Fine (record { laying = laying; known = ty.1 })) _
    (if_fine-any (members_declared ty.1.context ty.0 declarators before)) (λ _ _. h)

mutual
  row_type-on : {n : _} (k : Environment) (at_tag : Option Place) (at : Place) (all : List TypeWord) (row : words.Row_of-SpecWord n)
      → IfFine (row_type k at_tag at all row) (TypeDeclaresOn k)
  row_type-on k at_tag at all words.end_of-SpecWord = word_type-on k at_tag at all (whole_word all)
  row_type-on k at_tag at all (words.more_of-SpecWord words.TheVariants.Static others) = row_type-on k at_tag at all others
  row_type-on k at_tag at all (words.more_of-SpecWord (words.TheVariants.Plain w) others) = row_type-on k at_tag at all others
  row_type-on k at_tag at all (words.more_of-SpecWord (words.TheVariants.Struct' name shape row) others) =
      lift-then (OpeningDeclaresOn k) (TypeDeclaresOn k) (λ (o : Opening). lift (struct_read o k.reading name) (members_read o.known row nothing_laid)) _
      (opening-on (tag_place at at_tag) name k)
      (λ o h. struct_read-on k o k.reading name _ h (members_read-on o.known row nothing_laid))
  row_type-on k at_tag at all (words.more_of-SpecWord (words.TheVariants.Enum name constants comma) others) =
      enum_body-on k (tag_place at at_tag) name constants.items

  members_read-on : {n : _} (k : Environment) (row : words.Row_of-RawMember n) (before : Laying) → IfFine (members_read k row before) (BodyDeclaresOn k)
  members_read-on k words.end_of-RawMember before = on-self k
  members_read-on k (words.more_of-RawMember shape row tag declarators others) before =
      lift-then (BodyDeclaresOn k) (BodyDeclaresOn k) (λ (read : Body). members_read read.known others read.laying) _
      (lift-then (TypeDeclaresOn k) (BodyDeclaresOn k) (group_declared declarators.items before) _
      (row_type-on k tag (first_name declarators.items) (plain_row row) row)
      (λ ty h. group_declared-on k declarators.items before ty h))
      (λ read h.
      if_fine-weaker (BodyDeclaresOn read.known) (BodyDeclaresOn k) (members_read read.known others read.laying)
      (members_read-on read.known others read.laying) (λ b inside. on-trans k read.known b.known h inside))

words_type-on : (k : Environment) (at_tag : Option Place) (at : Place) (all : List TypeWord) (list : List SpecWord)
    → IfFine (words_type k at_tag at all list) (TypeDeclaresOn k)
words_type-on k at_tag at all [] = word_type-on k at_tag at all (whole_word all)
words_type-on k at_tag at all (words.TheVariants.Static ∷ others) = words_type-on k at_tag at all others
words_type-on k at_tag at all (words.TheVariants.Plain w ∷ others) = words_type-on k at_tag at all others
words_type-on k at_tag at all (words.TheVariants.Struct' name shape row ∷ others) =
    lift-then (OpeningDeclaresOn k) (TypeDeclaresOn k) (λ (o : Opening). lift (struct_read o k.reading name) (members_read o.known row nothing_laid)) _
    (opening-on (tag_place at at_tag) name k)
    (λ o h. struct_read-on k o k.reading name _ h (members_read-on o.known row nothing_laid))
words_type-on k at_tag at all (words.TheVariants.Enum name constants comma ∷ others) = enum_body-on k (tag_place at at_tag) name constants.items

-- after the specifiers before declarators
pub specs_type-on : (k : Environment) (at : Place) (raw : RawSpecs) → IfFine (specs_type k at raw) (TypeDeclaresOn k)
specs_type-on k at raw = words_type-on k raw.tag at (plain_words raw.words.items) raw.words.items

-- after typedefs
pub typedefs_added-on : (base : Shape) (ds : List RawDeclarator) (k : Environment) → IfFine (typedefs_added base ds k) (DeclaresOn k)
typedefs_added-on base [] k = on-self k
typedefs_added-on base (d ∷ ds) k =
    lift-then (DeclaresOn k) (DeclaresOn k) (typedefs_added base ds) _
    (cond-then (DeclaresOn k) (is_declared_here d.name k) _ _ (λ _. tt)
    (λ _.
    lift-then (λ _. Unit {0}) (DeclaresOn k) (λ ty. Fine (declaring d.name (Typedef ty) k)) _ (if_fine-any (declarator_type k.context base None d))
    (λ ty _. declaring-on d.name (Typedef ty) k tt)))
    (λ m first.
    if_fine-weaker (DeclaresOn m) (DeclaresOn k) (typedefs_added base ds m) (typedefs_added-on base ds m) (λ n others. on-trans k m n first others))

-- ---- parameters

-- each variable is a scalar
abbrev pub AreScalars : List Variable → Type 0
AreScalars variables = All (λ (v : Variable). IsScalar v.ty) variables

abbrev IsPassed : Passed → Type 0
IsPassed found = IsScalar found.ty

plainly-passed : (at : Place) (ty : Shape) → IfFine (plainly_passed at ty) IsPassed
plainly-passed at void = tt
plainly-passed at (struct number) = tt
plainly-passed at (array element count) = inr (element, refl)
plainly-passed at (integer kind) = inl (kind, refl)
plainly-passed at (pointer target) = inr (target, refl)

array-passed : (c : Context) (at : Place) (size : Option ℤ) (element : Shape) → IfFine (array_passed c at size element) IsPassed
array-passed c at (Some n) element =
    lift-then (λ _. Unit {0}) IsPassed _ _ (if_fine-any (array_of c.model c.table.list at n element)) (λ whole _. inr (element, refl))
array-passed c at None element = inr (element, refl)

bounds-passed : (c : Context) (at : Place) (base : Shape) (sizes : List (Option ℤ)) → IfFine (passed c at base sizes) IsPassed
bounds-passed c at base [] = plainly-passed at base
bounds-passed c at base (first ∷ others) =
    lift-then (λ _. Unit {0}) IsPassed (array_passed c at first) _ (if_fine-any (element_of c at base others)) (λ element _. array-passed c at first element)

-- a parameter is passed as a scalar (C11 6.7.6.3, paragraph 7)
parameter-passed : (c : Context) (p : RawParameter) (base : Shape) → IfFine (parameter_passed c p base) IsPassed
parameter-passed c p base =
    lift-then (λ _. Unit {0}) IsPassed _ _ (if_fine-any (bounded c (place_of p.place p.name) base p.bounds.items))
    (λ whole _.
    lift-then IsPassed IsPassed (unless_refused (refused_bound c p.bounds.items)) _
    (bounds-passed c (place_of p.place p.name) whole (sizes_said c p.bounds.items))
    (λ found m. unless_refused-then IsPassed (refused_bound c p.bounds.items) found m))

record HeadGrows (before after : Head) : Type 0 where
  known : DeclaresOn before.known after.known
  written : length before.written ≡ length before.variables → length after.written ≡ length after.variables
  scalars : AreScalars before.variables → AreScalars after.variables

naming-on : (name : Option RawName) (number : ℕ) (ty : Shape) (k : Environment) → DeclaresOn k (naming name number ty k)
naming-on None number ty k = on-self k
naming-on (Some name) number ty k = declaring-on name.name (Local number ty) k tt

one-more : {A B : Type 0} (marks : List A) (variables : List B) (mark : A) (v : B) → length marks ≡ length variables
    → length (marks ++ mark ∷ []) ≡ length (variables ++ v ∷ [])
one-more marks variables mark v is = let one = length_push marks mark in let other = length_push variables v in omega (arith, is, one, other)

parameter_typed-grows : (p : RawParameter) (before : Head) → IfFine (parameter_typed p before) (HeadGrows before)
parameter_typed-grows p before =
    lift-then (TypeDeclaresOn before.known) (HeadGrows before) _ _
    (after_twice-then (TypeDeclaresOn before.known) before.twice _ (specs_type-on before.known p.place p.specs))
    (λ found h. lift-then IsPassed (HeadGrows before) (with_parameter p before found.1) _
    (after_twice-then IsPassed (twice_after p before.twice found.1) _ (parameter-passed found.1.context p (starred p.pointers.items found.0)))
    (λ way scalar. record {
      known = on-trans before.known found.1 _ h (naming-on p.name (length before.variables) way.ty found.1);
      written = λ is. one-more before.written before.variables _ _ is;
      scalars = λ all. All-push (λ (v : Variable). IsScalar v.ty) before.variables (record { name = name_in p.name; ty = way.ty; block = way.block }) all
          scalar;
    }))

parameters_after-grow : (ps : List RawParameter) (before : Head) → IfFine (parameters_after ps before) (HeadGrows before)
parameters_after-grow [] before = record { known = on-self before.known; written = λ is. is; scalars = λ all. all }
parameters_after-grow (p ∷ ps) before =
    lift-then (HeadGrows before) (HeadGrows before) (parameters_after ps) _ (parameter_typed-grows p before)
    (λ head first. if_fine-weaker (HeadGrows head) (HeadGrows before) (parameters_after ps head) (parameters_after-grow ps head)
    (λ after others. record {
      known = on-trans before.known head.known after.known first.known others.known;
      written = λ is. others.written (first.written is);
      scalars = λ all. others.scalars (first.scalars all);
    }))

-- after the parameters of a function, which are scalars, each with its mark
pub record HeadDeclaresOn (k : Environment) (head : Head) : Type 0 where
  pub known : DeclaresOn k head.known
  pub written : length head.written ≡ length head.variables
  pub scalars : AreScalars head.variables

no-parameter : (k : Environment) → HeadDeclaresOn k (no_parameter k)
no-parameter k = record { known = on-self k; written = refl; scalars = All-nil (λ (v : Variable). IsScalar v.ty) }

pub parameters_typed-on : (k : Environment) (raw : RawParameters) → IfFine (parameters_typed k raw) (HeadDeclaresOn k)
parameters_typed-on k parameter_lists.Empty = no-parameter k
parameters_typed-on k parameter_lists.Void = no-parameter k
parameters_typed-on k (parameter_lists.List list) =
    if_fine-weaker (HeadGrows (no_parameter k)) (HeadDeclaresOn k) _
    (parameters_after-grow list.items (no_parameter k))
    (λ head h. record { known = h.known; written = h.written refl; scalars = h.scalars (All-nil (λ (v : Variable). IsScalar v.ty)) })
