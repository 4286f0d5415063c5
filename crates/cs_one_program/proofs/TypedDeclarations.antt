-- Specifiers, typedefs and parameters with the same parts at the same positions are typed alike.
use Rattle.std.proofs.Common.{◌≡◌, ℕ, ℤ, pos, not, ◌&&◌, ◌||◌, if◌then◌else◌, List, [], ◌∷◌, ◌++◌, length, Bool, Option, Some}
use Rattle.std.proofs.Common.{None}
use Rattle.std.proofs.Common.{refl, ap, ◌∙◌}
use Rattle.std.specs.List.{list_any}
use mathlib.Core.Former.{Count}
use Rattle.cs_types.specs.Shape.{Shape, integer}
use Rattle.cs_types.specs.declared.int_type.IntType.TheVariants.{Int}
use Rattle.cs_ast.specs.declared.place.Place.{Place}
use Rattle.cs_ast.specs.declared.raw.expression.RawExpr.{RawExpr}
use Rattle.cs_ast.specs.declared.raw.written_type.TypeWord.{TypeWord}
use Rattle.cs_ast.specs.declared.raw.written_type.PointerWord.{PointerWord}
use Rattle.cs_ast.specs.declared.raw.declaration.RawDeclarator.{RawDeclarator}
use Rattle.cs_ast.specs.declared.raw.declaration.RawEnumerator.{RawEnumerator}
use Rattle.cs_ast.specs.declared.raw.declaration.SpecWord as words
use Rattle.cs_ast.specs.declared.raw.declaration.SpecWord.{SpecWord}
use Rattle.cs_ast.specs.declared.raw.declaration.RawSpecs.{RawSpecs}
use Rattle.cs_ast.specs.declared.raw.declaration.RawParameter.{RawParameter}
use Rattle.cs_ast.specs.declared.raw.declaration.RawParameters.{RawParameters}
use Rattle.cs_scopes.specs.declared.context.Context.{Context}
use Rattle.cs_scopes.specs.declared.refusal.TypeCode.TheVariants.{DeclaredTwice}
use Rattle.cs_scopes.specs.Meanings.{Typedef}
use Rattle.cs_scopes.specs.TypeNames.{starred, tag_place}
use Rattle.cs_scopes.specs.Verdicts.{Fine, Fault, lift}
use Rattle.cs_declarations.specs.Environment.{Environment, declaring, is_declared_here}
use Rattle.cs_declarations.specs.Sizes.{unless_refused}
use Rattle.cs_declarations.specs.Bodies.{Typing, Laying, nothing_laid, has_member, member_added, member_declared, members_declared}
use Rattle.cs_declarations.specs.Bodies.{Counting, constant_added, number_said, constant_declared, constants_declared, with_enum_tag, is_new_enum, enum_body}
use Rattle.cs_declarations.specs.Bodies.{Opening, opening, Body, struct_read, group_declared, first_name, plain_row, row_type, members_read, plain_words}
use Rattle.cs_declarations.specs.Bodies.{words_type, specs_type, typedef_added, typedefs_added}
use Rattle.cs_scopes.specs.Constness.{is_const_word, has_const}
use Rattle.cs_declarations.specs.Parameters.{place_of, name_in, Passed, passed, is_pointer}
use Rattle.cs_scopes.specs.Constness.{consts_after, elements_const, target_const, points_to_const}
use Rattle.cs_declarations.specs.Parameters.{Head, naming, is_free_name, twice_after, after_twice, with_parameter, parameter_passed}
use Rattle.cs_declarations.specs.Parameters.{parameter_typed, parameters_after, no_parameter, parameters_typed}
use Rattle.cs_scopes.specs.Constness.{is_constant_by, is_constant_object}
use Rattle.cs_one_program.specs.SameExpressions.{SameExpr, Pairwise, none, more, IfBoth, absent, present}
use Rattle.cs_one_program.specs.SameDeclarations.{SameBounds, SameDeclarator, SameConstant, SameSpec, Static, Plain, Struct, Enum, SameSpecs, NoSpec}
use Rattle.cs_one_program.specs.SameDeclarations.{MoreSpecs, SameMembers, NoMember, MoreMembers, SameBefore, SameParameter, SameParameters, Empty}
use Rattle.cs_one_program.specs.SameDeclarations.{Void, Several}
use Rattle.cs_one_program.proofs.TypedInitials.{value_same, sizes_same, refused_same, bounded_same, declarator_same}

-- ---- the members of structs and the constants of enums

member_same : (c : Context) (base : Shape) (before : Laying) {d d' : RawDeclarator} → SameDeclarator d d'
    → member_declared c base d before ≡ member_declared c base d' before
member_same c base before h = λ i.
    if has_member (h.name i) before.members then Fault DeclaredTwice (h.at i)
    else lift (member_added c (h.at i) (h.name i) before) (declarator_same c base {count = None} {count' = None} refl h i)

members_same : (c : Context) (base : Shape) (before : Laying) {ds ds' : List RawDeclarator} → Pairwise SameDeclarator ds ds'
    → members_declared c base ds before ≡ members_declared c base ds' before
members_same c base before none = refl
members_same c base before (more h all) = λ i. lift (λ after. members_same c base after all i) (member_same c base before h i)

number_same : (c : Context) (next : ℤ) {e e' : Option RawExpr} → IfBoth SameExpr e e' → number_said c next e ≡ number_said c next e'
number_same c next absent = refl
number_same c next (present h) = λ i. lift (λ v. Fine v.1) (value_same c h i)

constant_same : (so_far : Counting) {e e' : RawEnumerator} → SameConstant e e' → constant_declared e so_far ≡ constant_declared e' so_far
constant_same so_far h = λ i.
    if is_declared_here (h.name i) so_far.known then Fault DeclaredTwice (h.at i)
    else lift (constant_added (h.at i) (h.name i) so_far.known) (number_same so_far.known.context so_far.next h.value i)

constants_same : (so_far : Counting) {es es' : List RawEnumerator} → Pairwise SameConstant es es'
    → constants_declared es so_far ≡ constants_declared es' so_far
constants_same so_far none = refl
constants_same so_far (more h all) = λ i. lift (λ after. constants_same after all i) (constant_same so_far h i)

enum_same : (k : Environment) (at : Place) (name : Option (List ℕ)) {es es' : List RawEnumerator} → Pairwise SameConstant es es'
    → enum_body k at name es ≡ enum_body k at name es'
enum_same k at name h = λ i.
    if is_new_enum k name
    then lift (λ (all : Counting). Fine (integer Int, with_enum_tag name all.known)) (constants_same (record { next = pos 0; known = k }) h i)
    else Fault DeclaredTwice at

first_name_same : {ds ds' : List RawDeclarator} → Pairwise SameDeclarator ds ds' → first_name ds ≡ first_name ds'
first_name_same none = refl
first_name_same (more h all) = h.at

plain_row_same : {n m : Count} {row : words.Row_of-SpecWord n} {row' : words.Row_of-SpecWord m} → SameSpecs n m row row'
    → plain_row row ≡ plain_row row'
plain_row_same NoSpec = refl
plain_row_same (MoreSpecs Static others) = plain_row_same others
plain_row_same (MoreSpecs (Plain {w = w}) others) = ap (λ all. w ∷ all) (plain_row_same others)
plain_row_same (MoreSpecs (Struct members) others) = plain_row_same others
plain_row_same (MoreSpecs (Enum constants) others) = plain_row_same others

group_same : (before : Laying) {ds ds' : List RawDeclarator} → Pairwise SameDeclarator ds ds' → group_declared ds before ≡ group_declared ds' before
group_same before h = λ i (ty : Typing). lift (λ laying. Fine (record { laying = laying; known = ty.1 })) (members_same ty.1.context ty.0 before h i)

mutual
  row_same : (k : Environment) (tag : Option Place) (at : Place) (all : List TypeWord) {n m : Count} {row : words.Row_of-SpecWord n}
      {row' : words.Row_of-SpecWord m} → SameSpecs n m row row' → row_type k tag at all row ≡ row_type k tag at all row'
  row_same k tag at all NoSpec = refl
  row_same k tag at all (MoreSpecs Static others) = row_same k tag at all others
  row_same k tag at all (MoreSpecs Plain others) = row_same k tag at all others
  row_same k tag at all (MoreSpecs (Struct {tag = name} members) others) = λ i.
      lift (λ (o : Opening). lift (struct_read o k.reading name) (members_read_same o.known nothing_laid members i)) (opening (tag_place at tag) name k)
  row_same k tag at all (MoreSpecs (Enum {tag = name} constants) others) = enum_same k (tag_place at tag) name constants

  members_read_same : (k : Environment) (before : Laying) {n m : Count} {row : words.Row_of-RawMember n} {row' : words.Row_of-RawMember m}
      → SameMembers n m row row' → members_read k row before ≡ members_read k row' before
  members_read_same k before NoMember = refl
  members_read_same k before (MoreMembers {row = row} {row' = row'} {tag = tag} {declarators = list} {declarators' = list'} specs declarators others) =
      let ty : row_type k tag (first_name list.items) (plain_row row) row ≡ row_type k tag (first_name list'.items) (plain_row row') row' =
      (λ i. row_type k tag (first_name_same declarators i) (plain_row_same specs i) row)
      ∙ row_same k tag (first_name list'.items) (plain_row row') specs in λ i.
      lift (λ (read : Body). members_read_same read.known read.laying others i) (lift (group_same before declarators i) (ty i))

-- ---- specifiers

plain_words_same : {ws ws' : List SpecWord} → Pairwise SameSpec ws ws' → plain_words ws ≡ plain_words ws'
plain_words_same none = refl
plain_words_same (more Static others) = plain_words_same others
plain_words_same (more (Plain {w = w}) others) = ap (λ all. w ∷ all) (plain_words_same others)
plain_words_same (more (Struct members) others) = plain_words_same others
plain_words_same (more (Enum constants) others) = plain_words_same others

words_same : (k : Environment) (tag : Option Place) (at : Place) (all : List TypeWord) {ws ws' : List SpecWord} → Pairwise SameSpec ws ws'
    → words_type k tag at all ws ≡ words_type k tag at all ws'
words_same k tag at all none = refl
words_same k tag at all (more Static others) = words_same k tag at all others
words_same k tag at all (more Plain others) = words_same k tag at all others
words_same k tag at all (more (Struct {tag = name} members) others) = λ i.
    lift (λ (o : Opening). lift (struct_read o k.reading name) (members_read_same o.known nothing_laid members i)) (opening (tag_place at tag) name k)
words_same k tag at all (more (Enum {tag = name} constants) others) = enum_same k (tag_place at tag) name constants

pub specs_same : (k : Environment) {at at' : Place} {s s' : RawSpecs} → at ≡ at' → SameBefore s s' → specs_type k at s ≡ specs_type k at' s'
specs_same k {at' = at'} {s = s} {s' = s'} place h =
    (λ i. words_type k (h.tag i) (place i) (plain_words_same h.words i) s.words.items)
    ∙ words_same k s'.tag at' (plain_words s'.words.items) h.words

const_word_same : {w w' : SpecWord} → SameSpec w w' → is_const_word w ≡ is_const_word w'
const_word_same Static = refl
const_word_same Plain = refl
const_word_same (Struct members) = refl
const_word_same (Enum constants) = refl

const_words_same : {ws ws' : List SpecWord} → Pairwise SameSpec ws ws' → list_any is_const_word ws ≡ list_any is_const_word ws'
const_words_same none = refl
const_words_same (more h all) = λ i. const_word_same h i || const_words_same all i

const_same : {s s' : RawSpecs} → SameBefore s s' → has_const s ≡ has_const s'
const_same h = const_words_same h.words

typedef_same : (base : Shape) (k : Environment) {d d' : RawDeclarator} → SameDeclarator d d' → typedef_added base d k ≡ typedef_added base d' k
typedef_same base k h = λ i.
    if is_declared_here (h.name i) k then Fault DeclaredTwice (h.at i)
    else lift (λ ty. Fine (declaring (h.name i) (Typedef ty) k)) (declarator_same k.context base {count = None} {count' = None} refl h i)

pub typedefs_same : (base : Shape) (k : Environment) {ds ds' : List RawDeclarator} → Pairwise SameDeclarator ds ds'
    → typedefs_added base ds k ≡ typedefs_added base ds' k
typedefs_same base k none = refl
typedefs_same base k (more h all) = λ i. lift (λ after. typedefs_same base after all i) (typedef_same base k h i)

constant_by_same : {s s' : RawSpecs} (consts : List Bool) → SameBefore s s' → is_constant_by s consts ≡ is_constant_by s' consts
constant_by_same [] h = const_same h
constant_by_same (last ∷ others) h = refl

pub constant_object_same : {s s' : RawSpecs} {pointers pointers' : List PointerWord} → SameBefore s s' → pointers ≡ pointers'
    → is_constant_object s pointers ≡ is_constant_object s' pointers'
constant_object_same {s' = s'} {pointers = pointers} h stars =
    constant_by_same (consts_after pointers) h ∙ ap (λ all. is_constant_object s' all) stars

-- ---- parameters

elements_const_same : {s s' : RawSpecs} (consts : List Bool) → SameBefore s s' → elements_const s consts ≡ elements_const s' consts
elements_const_same [] h = const_same h
elements_const_same (last ∷ others) h = refl

target_const_same : {s s' : RawSpecs} (consts : List Bool) → SameBefore s s' → target_const s consts ≡ target_const s' consts
target_const_same [] h = refl
target_const_same (last ∷ []) h = const_same h
target_const_same (last ∷ before ∷ others) h = refl

points_same : {s s' : RawSpecs} {pointers pointers' : List PointerWord} {bounds bounds' : List (Option RawExpr)} → SameBefore s s'
    → pointers ≡ pointers' → SameBounds bounds bounds' → points_to_const s pointers bounds ≡ points_to_const s' pointers' bounds'
points_same {s' = s'} {pointers = pointers} h stars none =
    target_const_same (consts_after pointers) h ∙ ap (λ all. target_const s' (consts_after all)) stars
points_same {s' = s'} {pointers = pointers} h stars (more b all) =
    elements_const_same (consts_after pointers) h ∙ ap (λ all. elements_const s' (consts_after all)) stars

twice_same : {p p' : RawParameter} (twice : Option Place) (k : Environment) → SameParameter p p' → twice_after p twice k ≡ twice_after p' twice k
twice_same (Some at) k h = refl
twice_same None k h = λ i. if is_free_name (h.name i) k then None else Some (place_of (h.at i) (h.name i))

passed_same : (c : Context) {p p' : RawParameter} (base : Shape) → SameParameter p p' → parameter_passed c p base ≡ parameter_passed c p' base
passed_same c base h =
    let stands = bounded_same c {base = base} {base' = base} (λ i. place_of (h.at i) (h.name i)) refl h.bounds in λ i.
    lift (λ whole. lift (unless_refused (refused_same c h.bounds i)) (passed c (place_of (h.at i) (h.name i)) whole (sizes_same c h.bounds i)))
    (stands i)

with_same : {p p' : RawParameter} (before : Head) (k : Environment) → SameParameter p p' → with_parameter p before k ≡ with_parameter p' before k
with_same before k h = λ i (found : Passed). Fine (record {
  variables = before.variables ++ record { name = name_in (h.name i); ty = found.ty; block = found.block } ∷ [];
  written = before.written ++ (is_pointer found.ty && not (points_same h.specs h.pointers h.bounds i)) ∷ [];
  twice = twice_same before.twice k h i;
  known = naming (h.name i) (length before.variables) found.ty k;
})

parameter_same : {p p' : RawParameter} (before : Head) → SameParameter p p' → parameter_typed p before ≡ parameter_typed p' before
parameter_same {p = p} {p' = p'} before h =
    let passing : (found : Typing) → parameter_passed found.1.context p (starred p.pointers.items found.0)
    ≡ parameter_passed found.1.context p' (starred p'.pointers.items found.0) =
    λ found. passed_same found.1.context (starred p.pointers.items found.0) h
    ∙ ap (λ pointers. parameter_passed found.1.context p' (starred pointers found.0)) h.pointers in λ i.
    lift (λ (found : Typing).
    lift (with_same before found.1 h i) (after_twice (twice_same before.twice found.1 h i) (passing found i)))
    (after_twice before.twice (specs_same before.known h.at h.specs i))

parameters_after_same : {ps ps' : List RawParameter} (before : Head) → Pairwise SameParameter ps ps'
    → parameters_after ps before ≡ parameters_after ps' before
parameters_after_same before none = refl
parameters_after_same before (more h all) = λ i. lift (λ after. parameters_after_same after all i) (parameter_same before h i)

pub parameters_same : (k : Environment) {ps ps' : RawParameters} → SameParameters ps ps' → parameters_typed k ps ≡ parameters_typed k ps'
parameters_same k Empty = refl
parameters_same k Void = refl
parameters_same k (Several all) = parameters_after_same (no_parameter k) all
