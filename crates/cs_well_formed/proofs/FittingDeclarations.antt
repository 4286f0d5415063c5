-- Declarations make no more structs and members known than their text allows: for `declarations_are_bounded`.
use Rattle.std.proofs.Common.{◌≡◌, ℕ, ◌+◌, ◌*◌, ◌≤◌, ◌||◌, List, [], ◌∷◌, length, map, Option, Some, None, is_some, refl}
use Rattle.std.proofs.Common.{◌∙◌, arith}
use Rattle.std.specs.Prelude.{pos, nat_le, ◌^◌}
use Rattle.std.proofs.lemmas.List.{length_push}
use Rattle.cs_types.specs.declared.structs.StructType.{StructType}
use Rattle.cs_types.specs.Layout.{round_up, members_of}
use Rattle.cs_types.specs.Shape.{Shape, integer}
use Rattle.cs_types.specs.declared.int_type.IntType.TheVariants.{Int}
use Rattle.cs_ast.specs.declared.place.Place.{Place}
use Rattle.cs_ast.specs.declared.token.TokenKind.TheVariants as token
use Rattle.cs_ast.specs.declared.token.Punctuator.TheVariants as punctuator
use Rattle.cs_ast.specs.declared.raw.name.RawName.{RawName}
use Rattle.cs_ast.specs.declared.raw.declaration.RawSpecs.{RawSpecs}
use Rattle.cs_ast.specs.declared.raw.declaration.SpecWord as words
use Rattle.cs_ast.specs.declared.raw.declaration.SpecWord.{SpecWord}
use Rattle.cs_ast.specs.declared.raw.declaration.RawDeclarator.{RawDeclarator}
use Rattle.cs_ast.specs.declared.raw.declaration.RawEnumerator.{RawEnumerator}
use Rattle.cs_ast.specs.declared.raw.declaration.RawParameter.{RawParameter}
use Rattle.cs_ast.specs.declared.raw.declaration.RawParameters.{RawParameters}
use Rattle.cs_ast.specs.declared.raw.declaration.RawParameters.TheVariants as parameter_lists
use Rattle.cs_ast.specs.declared.raw.written_type.TypeWord.{TypeWord}
use Rattle.cs_ast.specs.declared.raw.written_type.TypeWord.TheVariants as word
use Rattle.cs_ast.specs.RawDeclarations.{Declarator, Spec, Static, Plain, StructBody, Specs, MoreSpecs, Members, MoreMembers, Parameter}
use Rattle.cs_ast.specs.RawDeclarationView.{declarator, spec, specs_row, members, specs_list, specs, parameter, parameters}
use Rattle.cs_grammar.specs.Text.{pointers_text, integer_word_text}
use Rattle.cs_grammar.specs.FileText.{punctuator_text, each_after_comma, with_commas, brackets_text, name_text, declarator_text, spec_text, specs_text}
use Rattle.cs_grammar.specs.FileText.{members_text, parameter_text, parameters_text}
use Rattle.cs_grammar.proofs.FileTexts.{declarator_append}
use Rattle.cs_scopes.specs.declared.context.Context.{Context}
use Rattle.cs_scopes.specs.declared.scope.TagMeaning.{TagMeaning}
use Rattle.cs_scopes.specs.declared.scope.TagMeaning.TheVariants as tag
use Rattle.cs_scopes.specs.Meanings.{Typedef}
use Rattle.cs_scopes.specs.Verdicts.{Verdict, Fine, lift}
use Rattle.cs_scopes.specs.Scopes.{newest}
use Rattle.cs_scopes.specs.Sizes.{bytes_in}
use Rattle.cs_scopes.specs.TypeNames.{whole_word, typedef_at, enum_at, tag_place, starred, complete_at}
use Rattle.cs_declarations.specs.Environment.{Environment, table_of, declarations_of, declaring, is_declared_here}
use Rattle.cs_declarations.specs.Bodies.{Typing, empty_struct, with_struct, with_tagged_struct, tag_in, struct_named, word_type, align_in, Laying, nothing_laid}
use Rattle.cs_declarations.specs.Bodies.{has_member, placed_if, member_added, member_declared, declarator_type, members_declared, is_int, Counting}
use Rattle.cs_declarations.specs.Bodies.{constant_added, number_said, constant_declared, constants_declared, with_enum_tag, is_new_enum, enum_body, Opening}
use Rattle.cs_declarations.specs.Bodies.{is_among, opening_tagged, opening, name_or_none, Body, struct_read, group_declared, first_name, plain_row, row_type}
use Rattle.cs_declarations.specs.Bodies.{members_read, plain_words, words_type, specs_type, typedef_added, typedefs_added}
use Rattle.cs_declarations.specs.Parameters.{Head, Passed, name_in, may_write, naming, with_parameter, parameter_passed, parameter_typed}
use Rattle.cs_declarations.specs.Parameters.{parameters_after, no_parameter, parameters_typed, after_twice, twice_after}
use Rattle.cs_well_formed.specs.Nodes.{struct_nodes}
use Rattle.cs_well_formed.specs.Sizes.{size_of}
use Rattle.cs_well_formed.specs.Bounded.{known_nodes, IsBoundedHead, WordsAreBounded, TypedefsAreBounded, ParametersAreBounded}
use Rattle.cs_well_formed.proofs.Verdicts.{IfFine, if_fine-at, if_fine-any, if_fine-weaker, lift-then, cond-then, after_twice-then}
use Rattle.cs_well_formed.proofs.TextSizes.{size-pointers, size-declarator, size-with_commas, size-spec, size-specs, size-members, size-parameter, token-some}
use Rattle.cs_well_formed.proofs.TextSizes.{all_nodes-append, all_nodes-set}

-- what is known after a part of the text: the same literals, and at most so many more structs and members
pub record Adds (count : ℕ) (k m : Environment) : Type 0 where
  pub literals : m.literals ≡ k.literals
  pub structs : known_nodes m ≤ known_nodes k + count

adds-none : (k : Environment) → Adds 0 k k
adds-none k = record { literals = refl; structs = omega arith }

adds-more : (a b : ℕ) (k m : Environment) → a ≤ b → Adds a k m → Adds b k m
adds-more a b k m room h = record { literals = h.literals; structs = omega (arith, h.structs) }

adds-then : (a b : ℕ) (k m n : Environment) → Adds a k m → Adds b m n → Adds (a + b) k n
adds-then a b k m n h g = record { literals = g.literals ∙ h.literals; structs = omega (arith, h.structs, g.structs) }

-- one more struct
adds-struct : (name : List ℕ) (k : Environment) → Adds 1 k (with_struct name k)
adds-struct name k = record { literals = refl; structs = omega (arith, all_nodes-append struct_nodes (table_of k) (empty_struct name ∷ [])) }

adds-tagged : (name : List ℕ) (k : Environment) → Adds 1 k (with_tagged_struct name k)
adds-tagged name k = let one = adds-struct name k in record { literals = refl; structs = one.structs }

abbrev AddsTo : ℕ → Environment → Typing → Type 0
AddsTo count k r = Adds count k r.1

-- a specifier adds at most one struct
abbrev word_count : Option TypeWord → ℕ
word_count None = 0
word_count (Some w) = 1

whole-counted : (all : List TypeWord) → word_count (whole_word all) ≤ length all
whole-counted [] = omega arith
whole-counted (word.Const ∷ all) = omega (arith, whole-counted all)
whole-counted (word.Integer kind ∷ all) = omega (arith, whole-counted all)
whole-counted (word.Void ∷ all) = omega arith
whole-counted (word.Typedef name ∷ all) = omega arith
whole-counted (word.Struct name ∷ all) = omega arith
whole-counted (word.Enum name ∷ all) = omega arith

same-adds : (count : ℕ) (k : Environment) (v : Verdict Shape) → IfFine (lift (λ ty. Fine (ty, k)) v) (AddsTo count k)
same-adds count k v = lift-then (λ _. Unit {0}) (AddsTo count k) (λ ty. Fine (ty, k)) v (if_fine-any v)
    (λ _ _. adds-more 0 count k k (omega arith) (adds-none k))

struct_named-adds : (at : Place) (name : List ℕ) (k : Environment) (meaning : Option TagMeaning) → IfFine (struct_named at name k meaning) (AddsTo 1 k)
struct_named-adds at name k (Some (tag.Struct number)) = adds-more 0 1 k k (omega arith) (adds-none k)
struct_named-adds at name k (Some tag.Enum) = tt
struct_named-adds at name k None = adds-tagged name k

word_type-adds : (k : Environment) (at_tag : Option Place) (at : Place) (all : List TypeWord) (one : Option TypeWord)
    → IfFine (word_type k at_tag at all one) (AddsTo (word_count one) k)
word_type-adds k at_tag at all None = adds-none k
word_type-adds k at_tag at all (Some (word.Typedef name)) = same-adds 1 k (typedef_at at (newest name (declarations_of k)))
word_type-adds k at_tag at all (Some (word.Struct name)) = struct_named-adds (tag_place at at_tag) name k (tag_in k name)
word_type-adds k at_tag at all (Some (word.Enum name)) = same-adds 1 k (enum_at (tag_place at at_tag) (tag_in k name))
word_type-adds k at_tag at all (Some word.Const) = adds-more 0 1 k k (omega arith) (adds-none k)
word_type-adds k at_tag at all (Some (word.Integer kind)) = adds-more 0 1 k k (omega arith) (adds-none k)
word_type-adds k at_tag at all (Some word.Void) = adds-more 0 1 k k (omega arith) (adds-none k)

-- the type that specifiers name, within the bound of the text
word_type-fits : (k : Environment) (at_tag : Option Place) (at : Place) (all : List TypeWord) (size : ℕ) → length all ≤ size
    → IfFine (word_type k at_tag at all (whole_word all)) (AddsTo (16 * size) k)
word_type-fits k at_tag at all size small =
    if_fine-weaker (AddsTo (word_count (whole_word all)) k) (AddsTo (16 * size) k) _ (word_type-adds k at_tag at all (whole_word all))
    (λ r h. adds-more (word_count (whole_word all)) (16 * size) k r.1 (omega (arith, whole-counted all)) h)

-- the constants of an enum add no struct
abbrev CountsOn : Environment → Counting → Type 0
CountsOn k r = Adds 0 k r.known

constant_declared-adds : (e : RawEnumerator) (so_far : Counting) → IfFine (constant_declared e so_far) (CountsOn so_far.known)
constant_declared-adds e so_far =
    cond-then (CountsOn so_far.known) (is_declared_here e.name so_far.known) _ _ (λ _. tt)
    (λ _.
    lift-then (λ _. Unit {0}) (CountsOn so_far.known) (constant_added e.place e.name so_far.known) _
    (if_fine-any (number_said so_far.known.context so_far.next e.value))
    (λ n _. cond-then (CountsOn so_far.known) (is_int so_far.known n) _ _ (λ _. record { literals = refl; structs = omega arith }) (λ _. tt)))

constants_declared-adds : (es : List RawEnumerator) (so_far : Counting) → IfFine (constants_declared es so_far) (CountsOn so_far.known)
constants_declared-adds [] so_far = adds-none so_far.known
constants_declared-adds (e ∷ es) so_far =
    lift-then (CountsOn so_far.known) (CountsOn so_far.known) (constants_declared es) _ (constant_declared-adds e so_far)
    (λ r first.
    if_fine-weaker (CountsOn r.known) (CountsOn so_far.known) (constants_declared es r) (constants_declared-adds es r)
    (λ x others. adds-then 0 0 so_far.known r.known x.known first others))

enum_tag-adds : (count : ℕ) (k m : Environment) (name : Option (List ℕ)) → Adds 0 k m → Adds count k (with_enum_tag name m)
enum_tag-adds count k m None h = record { literals = h.literals; structs = omega (arith, h.structs) }
enum_tag-adds count k m (Some name) h = record { literals = h.literals; structs = omega (arith, h.structs) }

enum_body-adds : (count : ℕ) (k : Environment) (at : Place) (name : Option (List ℕ)) (constants : List RawEnumerator)
    → IfFine (enum_body k at name constants) (AddsTo count k)
enum_body-adds count k at name constants =
    cond-then (AddsTo count k) (is_new_enum k name) _ _
    (λ _. lift-then (CountsOn k) (AddsTo count k) (λ (all : Counting). Fine (integer Int, with_enum_tag name all.known)) _
    (constants_declared-adds constants (record { next = pos 0; known = k }))
    (λ all counted. enum_tag-adds count k all.known name counted))
    (λ _. tt)

-- the struct whose body begins here
abbrev OpensOn : Environment → Opening → Type 0
OpensOn k o = Adds 1 k o.known

opening_tagged-adds : (at : Place) (name : List ℕ) (k : Environment) (meaning : Option TagMeaning) → IfFine (opening_tagged at name k meaning) (OpensOn k)
opening_tagged-adds at name k (Some (tag.Struct number)) =
    cond-then (OpensOn k) (is_among number k.reading || is_some (members_of (table_of k) number)) _ _ (λ _. tt)
    (λ _. record { literals = refl; structs = omega arith })
opening_tagged-adds at name k (Some tag.Enum) = tt
opening_tagged-adds at name k None = let one = adds-tagged name k in record { literals = refl; structs = one.structs }

opening-adds : (at : Place) (name : Option (List ℕ)) (k : Environment) → IfFine (opening at name k) (OpensOn k)
opening-adds at (Some name) k = opening_tagged-adds at name k (tag_in k name)
opening-adds at None k = let one = adds-struct [] k in record { literals = refl; structs = one.structs }

-- members so far: at most one more for each declarator
abbrev LaysOn : Laying → ℕ → Laying → Type 0
LaysOn before count after = length after.members ≤ length before.members + count

placed_if-lays : (c : Context) (at : Place) (name : List ℕ) (ty : Shape) (bytes : Option ℕ) (before : Laying)
    → IfFine (placed_if c at name ty bytes before) (LaysOn before 1)
placed_if-lays c at name ty (Some bytes) before =
    cond-then (LaysOn before 1) (nat_le (round_up before.size (align_in c.model c.table.list ty) + bytes) (2 ^ 20)) _ _
    (λ _. omega (arith, length_push before.members (record { name = name; ty = ty; offset = round_up before.size (align_in c.model c.table.list ty) })))
    (λ _. tt)
placed_if-lays c at name ty None before = tt

member_declared-lays : (c : Context) (base : Shape) (d : RawDeclarator) (before : Laying) → IfFine (member_declared c base d before) (LaysOn before 1)
member_declared-lays c base d before =
    cond-then (LaysOn before 1) (has_member d.name before.members) _ _ (λ _. tt)
    (λ _. lift-then (λ _. Unit {0}) (LaysOn before 1) (member_added c d.place d.name before) _ (if_fine-any (declarator_type c base None d))
    (λ ty _. lift-then (λ _. Unit {0}) (LaysOn before 1) _ _ (if_fine-any (complete_at c.table.list d.place ty))
    (λ whole _. placed_if-lays c d.place d.name whole (bytes_in c.model c.table.list whole) before)))

members_declared-lay : (c : Context) (base : Shape) (ds : List RawDeclarator) (before : Laying)
    → IfFine (members_declared c base ds before) (LaysOn before (length ds))
members_declared-lay c base [] before = omega arith
members_declared-lay c base (d ∷ ds) before =
    lift-then (LaysOn before 1) (LaysOn before (length (d ∷ ds))) (members_declared c base ds) _ (member_declared-lays c base d before)
    (λ one h. if_fine-weaker (LaysOn one (length ds)) (LaysOn before (length (d ∷ ds))) _ (members_declared-lay c base ds one)
    (λ all g. more one all h g))
  where
    more : (one all : Laying) → LaysOn before 1 one → LaysOn one (length ds) all → LaysOn before (length (d ∷ ds)) all
    more one all h g = omega arith

-- a declarator has at least one token
sized-declarator : (d : Declarator) → 1 ≤ size_of (declarator_text d)
sized-declarator d = omega (arith, size-pointers d.pointers (token.Name d.name ∷ brackets_text d.bounds []))

sized-each : (ds : List RawDeclarator) → length ds ≤ size_of (each_after_comma declarator_text (map declarator ds))
sized-each [] = omega arith
sized-each (d ∷ ds) = omega (arith, size-declarator (declarator d) (each_after_comma declarator_text (map declarator ds) []), sized-each ds)

sized-declarators : (ds : List RawDeclarator) → length ds ≤ size_of (with_commas declarator_text (map declarator ds))
sized-declarators [] = omega arith
sized-declarators (d ∷ ds) = omega (
  arith,
  size-declarator (declarator d) (each_after_comma declarator_text (map declarator ds) []),
  sized-declarator (declarator d),
  sized-each ds,
)

-- a specifier has at least one token
sized-word : (w : TypeWord) → 1 ≤ size_of (spec_text (Plain w))
sized-word word.Const = omega arith
sized-word (word.Integer kind) = omega (arith, token-some (integer_word_text kind))
sized-word word.Void = omega arith
sized-word (word.Typedef name) = omega arith
sized-word (word.Struct tag) = omega arith
sized-word (word.Enum tag) = omega arith

-- the body of a struct, with its keyword and its braces
sized-body : (name : Option (List ℕ)) (ms : Members) → size_of (members_text ms) + 3 ≤ size_of (spec_text (StructBody name ms))
sized-body None ms = omega (arith, size-members ms (punctuator_text punctuator.CloseBrace []))
sized-body (Some name) ms = omega (arith, size-members ms (punctuator_text punctuator.CloseBrace []))

sized-specs : (first : Spec) (others : Specs) → size_of (specs_text (MoreSpecs first others)) ≡ size_of (spec_text first) + size_of (specs_text others)
sized-specs first others = size-spec first (specs_text others [])

sized-group : (s : Specs) (ds : List Declarator) (others : Members)
    → size_of (members_text (MoreMembers s ds others)) ≡ size_of (specs_text s) + size_of (with_commas declarator_text ds) + size_of (members_text others)
    + 1
sized-group s ds others =
    omega (
      arith,
      size-specs s (with_commas declarator_text ds (punctuator_text punctuator.Semicolon (members_text others []))),
      size-with_commas declarator_text declarator_append ds (punctuator_text punctuator.Semicolon (members_text others [])),
    )

plain_row-room : {n : _} (row : words.Row_of-SpecWord n) → length (plain_row row) ≤ size_of (specs_text (specs_row row))
plain_row-room words.end_of-SpecWord = omega arith
plain_row-room (words.more_of-SpecWord words.TheVariants.Static others) = omega (arith, sized-specs Static (specs_row others), plain_row-room others)
plain_row-room (words.more_of-SpecWord (words.TheVariants.Plain w) others) =
    omega (arith, sized-specs (Plain w) (specs_row others), sized-word w, plain_row-room others)
plain_row-room (words.more_of-SpecWord (words.TheVariants.Struct' name shape row) others) =
    omega (arith, sized-specs (spec (words.TheVariants.Struct' name shape row)) (specs_row others), plain_row-room others)
plain_row-room (words.more_of-SpecWord (words.TheVariants.Enum name constants comma) others) =
    omega (arith, sized-specs (spec (words.TheVariants.Enum name constants comma)) (specs_row others), plain_row-room others)

plain_words-room : (list : List SpecWord) → length (plain_words list) ≤ size_of (specs_text (specs_list list))
plain_words-room [] = omega arith
plain_words-room (words.TheVariants.Static ∷ others) = omega (arith, sized-specs Static (specs_list others), plain_words-room others)
plain_words-room (words.TheVariants.Plain w ∷ others) = omega (arith, sized-specs (Plain w) (specs_list others), sized-word w, plain_words-room others)
plain_words-room (words.TheVariants.Struct' name shape row ∷ others) =
    omega (arith, sized-specs (spec (words.TheVariants.Struct' name shape row)) (specs_list others), plain_words-room others)
plain_words-room (words.TheVariants.Enum name constants comma ∷ others) =
    omega (arith, sized-specs (spec (words.TheVariants.Enum name constants comma)) (specs_list others), plain_words-room others)

-- the members so far, and the structs that their types add
record BodyFits (before : Laying) (size : ℕ) (k : Environment) (b : Body) : Type 0 where
  literals : b.known.literals ≡ k.literals
  nodes : known_nodes b.known + length b.laying.members ≤ known_nodes k + length before.members + 16 * size

struct_read-fits : (k : Environment) (o : Opening) (reading : List ℕ) (name : Option (List ℕ)) (v : Verdict Body) (inside size : ℕ) → OpensOn k o
    → IfFine v (BodyFits nothing_laid inside o.known) → inside + 3 ≤ size → IfFine (lift (struct_read o reading name) v) (AddsTo (16 * size) k)
struct_read-fits k o reading name v inside size h read room =
    lift-then (BodyFits nothing_laid inside o.known) (AddsTo (16 * size) k) (struct_read o reading name) v read
    (λ body fits. record {
      literals = fits.literals ∙ h.literals;
      structs =
          let laid : StructType = record {
            tag = name_or_none name;
            members = Some body.laying.members;
            size = round_up body.laying.size body.laying.align;
            align = body.laying.align;
          } in
          omega (arith, all_nodes-set struct_nodes (table_of body.known) o.number laid, fits.nodes, h.structs);
    })

group-fits : (k : Environment) (declarators : List RawDeclarator) (before : Laying) (ty : Typing) (size : ℕ) → AddsTo (16 * size) k ty
    → IfFine (group_declared declarators before ty) (BodyFits before (size + size_of (with_commas declarator_text (map declarator declarators))) k)
group-fits k declarators before ty size h =
    lift-then (LaysOn before (length declarators)) (BodyFits before (size + size_of (with_commas declarator_text (map declarator declarators))) k)
    (λ laying. Fine (record { laying = laying; known = ty.1 })) _
    (members_declared-lay ty.1.context ty.0 declarators before)
    (λ laying laid. record { literals = h.literals; nodes = omega (arith, h.structs, laid, sized-declarators declarators) })

mutual
  row_type-fits : {n : _} (k : Environment) (at_tag : Option Place) (at : Place) (all : List TypeWord) (row : words.Row_of-SpecWord n) (size : ℕ)
      → length all ≤ size → size_of (specs_text (specs_row row)) ≤ size → IfFine (row_type k at_tag at all row) (AddsTo (16 * size) k)
  row_type-fits k at_tag at all words.end_of-SpecWord size plain room = word_type-fits k at_tag at all size plain
  row_type-fits k at_tag at all (words.more_of-SpecWord words.TheVariants.Static others) size plain room =
      row_type-fits k at_tag at all others size plain (omega (arith, sized-specs Static (specs_row others)))
  row_type-fits k at_tag at all (words.more_of-SpecWord (words.TheVariants.Plain w) others) size plain room =
      row_type-fits k at_tag at all others size plain (omega (arith, sized-specs (Plain w) (specs_row others)))
  row_type-fits k at_tag at all (words.more_of-SpecWord (words.TheVariants.Struct' name shape row) others) size plain room =
      let inside = size_of (members_text (members row)) in
      lift-then (OpensOn k) (AddsTo (16 * size) k) (λ (o : Opening). lift (struct_read o k.reading name) (members_read o.known row nothing_laid)) _
      (opening-adds (tag_place at at_tag) name k)
      (λ o h. struct_read-fits k o k.reading name _ inside size h (members_read-fits o.known row nothing_laid)
      (omega (arith, room, sized-body name (members row), sized-specs (StructBody name (members row)) (specs_row others))))
  row_type-fits k at_tag at all (words.more_of-SpecWord (words.TheVariants.Enum name constants comma) others) size plain room =
      enum_body-adds (16 * size) k (tag_place at at_tag) name constants.items

  members_read-fits : {n : _} (k : Environment) (row : words.Row_of-RawMember n) (before : Laying)
      → IfFine (members_read k row before) (BodyFits before (size_of (members_text (members row))) k)
  members_read-fits k words.end_of-RawMember before = record { literals = refl; nodes = omega arith }
  members_read-fits k (words.more_of-RawMember shape row tag declarators others) before =
      let size = size_of (specs_text (specs_row row)) in
      let group = size + size_of (with_commas declarator_text (map declarator declarators.items)) in
      let rest = size_of (members_text (members others)) in
      let whole = size_of (members_text (MoreMembers (specs_row row) (map declarator declarators.items) (members others))) in
      lift-then (BodyFits before group k) (BodyFits before whole k) (λ (read : Body). members_read read.known others read.laying) _
      (lift-then (AddsTo (16 * size) k) (BodyFits before group k) (group_declared declarators.items before) _
      (row_type-fits k tag (first_name declarators.items) (plain_row row) row size (plain_row-room row) (omega arith))
      (λ ty h. group-fits k declarators.items before ty size h))
      (λ read h.
      if_fine-weaker (BodyFits read.laying rest read.known) (BodyFits before whole k) (members_read read.known others read.laying)
      (members_read-fits read.known others read.laying)
      (λ b g.
      record {
        literals = g.literals ∙ h.literals;
        nodes = omega (arith, h.nodes, g.nodes, sized-group (specs_row row) (map declarator declarators.items) (members others));
      }))

words_type-fits : (k : Environment) (at_tag : Option Place) (at : Place) (all : List TypeWord) (list : List SpecWord) (size : ℕ) → length all ≤ size
    → size_of (specs_text (specs_list list)) ≤ size → IfFine (words_type k at_tag at all list) (AddsTo (16 * size) k)
words_type-fits k at_tag at all [] size plain room = word_type-fits k at_tag at all size plain
words_type-fits k at_tag at all (words.TheVariants.Static ∷ others) size plain room =
    words_type-fits k at_tag at all others size plain (omega (arith, sized-specs Static (specs_list others)))
words_type-fits k at_tag at all (words.TheVariants.Plain w ∷ others) size plain room =
    words_type-fits k at_tag at all others size plain (omega (arith, sized-specs (Plain w) (specs_list others)))
words_type-fits k at_tag at all (words.TheVariants.Struct' name shape row ∷ others) size plain room =
    let inside = size_of (members_text (members row)) in
    lift-then (OpensOn k) (AddsTo (16 * size) k) (λ (o : Opening). lift (struct_read o k.reading name) (members_read o.known row nothing_laid)) _
    (opening-adds (tag_place at at_tag) name k)
    (λ o h. struct_read-fits k o k.reading name _ inside size h (members_read-fits o.known row nothing_laid)
    (omega (arith, room, sized-body name (members row), sized-specs (StructBody name (members row)) (specs_list others))))
words_type-fits k at_tag at all (words.TheVariants.Enum name constants comma ∷ others) size plain room =
    enum_body-adds (16 * size) k (tag_place at at_tag) name constants.items

-- the specifiers before declarators
specs_type-fits : (k : Environment) (at : Place) (raw : RawSpecs) → IfFine (specs_type k at raw) (AddsTo (16 * size_of (specs_text (specs raw))) k)
specs_type-fits k at raw =
    words_type-fits k raw.tag at (plain_words raw.words.items) raw.words.items (size_of (specs_text (specs raw))) (plain_words-room raw.words.items)
    (omega arith)

pub words_are_bounded : WordsAreBounded
words_are_bounded k m at raw ty is =
    let h = if_fine-at (AddsTo (16 * size_of (specs_text (specs raw))) k) (specs_type k at raw) (ty, m) (specs_type-fits k at raw) is in
    record { literals = h.literals; structs = h.structs }

-- typedefs add no structs
typedef_added-adds : (base : Shape) (d : RawDeclarator) (k : Environment) → IfFine (typedef_added base d k) (Adds 0 k)
typedef_added-adds base d k =
    cond-then (Adds 0 k) (is_declared_here d.name k) _ _ (λ _. tt)
    (λ _.
    lift-then (λ _. Unit {0}) (Adds 0 k) (λ ty. Fine (declaring d.name (Typedef ty) k)) _ (if_fine-any (declarator_type k.context base None d))
    (λ ty _. record { literals = refl; structs = omega arith }))

typedefs_added-adds : (base : Shape) (ds : List RawDeclarator) (k : Environment) → IfFine (typedefs_added base ds k) (Adds 0 k)
typedefs_added-adds base [] k = adds-none k
typedefs_added-adds base (d ∷ ds) k =
    lift-then (Adds 0 k) (Adds 0 k) (typedefs_added base ds) _ (typedef_added-adds base d k)
    (λ m first.
    if_fine-weaker (Adds 0 m) (Adds 0 k) (typedefs_added base ds m) (typedefs_added-adds base ds m) (λ n others. adds-then 0 0 k m n first others))

pub typedefs_are_bounded : TypedefsAreBounded
typedefs_are_bounded k m base names is =
    let h = if_fine-at (Adds 0 k) (typedefs_added base names k) m (typedefs_added-adds base names k) is in
    record { literals = h.literals; structs = omega (arith, h.structs) }

-- parameters after others, with the marks of those that may be written through
record HeadFits (before : Head) (count : ℕ) (after : Head) : Type 0 where
  literals : after.known.literals ≡ before.known.literals
  nodes : length after.variables + length after.written + known_nodes after.known
      ≤ length before.variables + length before.written + known_nodes before.known + count

naming-adds : (name : Option RawName) (number : ℕ) (ty : Shape) (k : Environment) → Adds 0 k (naming name number ty k)
naming-adds None number ty k = adds-none k
naming-adds (Some name) number ty k = record { literals = refl; structs = omega arith }

with_parameter-fits : (p : RawParameter) (before : Head) (k : Environment) (found : Passed) (count : ℕ) → Adds count before.known k
    → IfFine (with_parameter p before k found) (HeadFits before (count + 2))
with_parameter-fits p before k found count h =
    let named = naming-adds p.name (length before.variables) found.ty k in
    record {
      literals = named.literals ∙ h.literals;
      nodes = omega (
        arith,
        h.structs,
        named.structs,
        length_push before.variables (record { name = name_in p.name; ty = found.ty; block = found.block }),
        length_push before.written (may_write p found.ty),
      );
    }

parameter_typed-fits : (p : RawParameter) (before : Head)
    → IfFine (parameter_typed p before) (HeadFits before (16 * size_of (specs_text (specs p.specs)) + 2))
parameter_typed-fits p before =
    let size = size_of (specs_text (specs p.specs)) in
    lift-then (AddsTo (16 * size) before.known) (HeadFits before (16 * size + 2)) _ _
    (after_twice-then (AddsTo (16 * size) before.known) before.twice _ (specs_type-fits before.known p.place p.specs))
    (λ found h.
    lift-then (λ _. Unit {0}) (HeadFits before (16 * size + 2)) (with_parameter p before found.1) _
    (if_fine-any (after_twice (twice_after p before.twice found.1) (parameter_passed found.1.context p (starred p.pointers.items found.0))))
    (λ passed _. with_parameter-fits p before found.1 passed (16 * size) h))

sized-parameter : (p : Parameter) → size_of (specs_text p.specs) ≤ size_of (parameter_text p)
sized-parameter p = omega (arith, size-specs p.specs (pointers_text p.pointers (name_text p.name (brackets_text p.bounds []))))

parameters_after-fits : (ps : List RawParameter) (before : Head)
    → IfFine (parameters_after ps before) (HeadFits before (16 * size_of (each_after_comma parameter_text (map parameter ps))))
parameters_after-fits [] before = record { literals = refl; nodes = omega arith }
parameters_after-fits (p ∷ ps) before =
    let one = 16 * size_of (specs_text (specs p.specs)) + 2 in
    let rest = size_of (each_after_comma parameter_text (map parameter ps)) in
    let all = 16 * size_of (each_after_comma parameter_text (map parameter (p ∷ ps))) in
    lift-then (HeadFits before one) (HeadFits before all) (parameters_after ps) _ (parameter_typed-fits p before)
    (λ head first. if_fine-weaker (HeadFits head (16 * rest)) (HeadFits before all) (parameters_after ps head) (parameters_after-fits ps head)
    (λ after others. record {
      literals = others.literals ∙ first.literals;
      nodes = omega (
        arith,
        first.nodes,
        others.nodes,
        sized-parameter (parameter p),
        size-parameter (parameter p) (each_after_comma parameter_text (map parameter ps) []),
      );
    }))

sized-parameters : (ps : List RawParameter) → size_of (each_after_comma parameter_text (map parameter ps))
    ≤ size_of (with_commas parameter_text (map parameter ps)) + 1
sized-parameters [] = omega arith
sized-parameters (p ∷ ps) = omega (arith, size-parameter (parameter p) (each_after_comma parameter_text (map parameter ps) []))

parameters_typed-fits : (k : Environment) (raw : RawParameters)
    → IfFine (parameters_typed k raw) (λ head. IsBoundedHead k head (size_of (parameters_text (parameters raw))))
parameters_typed-fits k parameter_lists.Empty = record { literals = refl; nodes = omega arith }
parameters_typed-fits k parameter_lists.Void = record { literals = refl; nodes = omega arith }
parameters_typed-fits k (parameter_lists.List list) =
    let before : Head = no_parameter k in
    if_fine-weaker (HeadFits before (16 * size_of (each_after_comma parameter_text (map parameter list.items))))
    (λ head. IsBoundedHead k head (size_of (with_commas parameter_text (map parameter list.items)))) _
    (parameters_after-fits list.items before)
    (λ head h. record { literals = h.literals; nodes = omega (arith, h.nodes, sized-parameters list.items) })

pub parameters_are_bounded : ParametersAreBounded
parameters_are_bounded k raw head is =
    if_fine-at (λ (h : Head). IsBoundedHead k h (size_of (parameters_text (parameters raw)))) (parameters_typed k raw) head (parameters_typed-fits k raw) is
