-- The types that are written in declarations name structs of the table: for the law `types_are_named`.
use Rattle.std.proofs.Common.{◌≡◌, ℕ, suc, ◌+◌, ◌≤◌, ◌<◌, Bool, true, false, cond, ◌||◌, ◌&&◌, List, [], ◌∷◌, ◌++◌}
use Rattle.std.proofs.Common.{length, Option, Some, None, is_some, arith}
use Rattle.std.specs.Prelude.{ℤ, pos, unsigned_abs, nat_le, ◌^◌, IfSome}
use Rattle.std.specs.List.{All}
use Rattle.std.proofs.lemmas.List.{length-append, length-set}
use Rattle.std.proofs.lemmas.List.Elements.{All-nil, All-push, All-set, All-take, All-weaker, recursion_from_All, All-head, All-tail}
use Rattle.cs_types.specs.declared.int_type.IntType.TheVariants.{Int}
use Rattle.cs_types.specs.declared.structs.StructType.{StructType}
use Rattle.cs_types.specs.Layout.{round_up, members_of}
use Rattle.cs_types.specs.Members.{Member}
use Rattle.cs_types.specs.Shape.{Shape, void, integer, pointer, array, struct}
use Rattle.cs_ast.specs.declared.place.Place.{Place}
use Rattle.cs_ast.specs.declared.raw.name.RawName.{RawName}
use Rattle.cs_ast.specs.declared.raw.declaration.RawSpecs.{RawSpecs}
use Rattle.cs_ast.specs.declared.raw.declaration.SpecWord as words
use Rattle.cs_ast.specs.declared.raw.declaration.SpecWord.{SpecWord}
use Rattle.cs_ast.specs.declared.raw.declaration.RawDeclarator.{RawDeclarator}
use Rattle.cs_ast.specs.declared.raw.declaration.RawEnumerator.{RawEnumerator}
use Rattle.cs_ast.specs.declared.raw.declaration.RawInit.{RawInit}
use Rattle.cs_ast.specs.declared.raw.declaration.RawParameter.{RawParameter}
use Rattle.cs_ast.specs.declared.raw.declaration.RawParameters.{RawParameters}
use Rattle.cs_ast.specs.declared.raw.declaration.RawParameters.TheVariants as parameter_lists
use Rattle.cs_ast.specs.declared.raw.expression.RawExpr.{RawExpr}
use Rattle.cs_ast.specs.declared.raw.written_type.PointerWord.{PointerWord}
use Rattle.cs_ast.specs.declared.raw.written_type.TypeWord.{TypeWord}
use Rattle.cs_ast.specs.declared.raw.written_type.TypeWord.TheVariants as word
use Rattle.cs_ast.specs.declared.raw.written_type.WrittenType.{WrittenType}
use Rattle.cs_ast.specs.TypedProgram.{Variable}
use Rattle.cs_scopes.specs.declared.context.Context.{Context}
use Rattle.cs_scopes.specs.declared.scope.Tag.{Tag}
use Rattle.cs_scopes.specs.declared.scope.TagMeaning.{TagMeaning}
use Rattle.cs_scopes.specs.declared.scope.TagMeaning.TheVariants as tag
use Rattle.cs_scopes.specs.Meanings.{Meaning, Typedef, Constant, Global, Local, Function, Declaration}
use Rattle.cs_scopes.specs.Verdicts.{Verdict, Fine, Fault, lift}
use Rattle.cs_scopes.specs.Scopes.{newest, tagged}
use Rattle.cs_scopes.specs.Sizes.{bytes_in}
use Rattle.cs_types.specs.Kinds.{is_complete}
use Rattle.cs_scopes.specs.TypeNames.{whole_word, typedef_at, struct_at, enum_at, based, type_named, after_stars, tag_place, is_star, starred, is_array_size}
use Rattle.cs_scopes.specs.TypeNames.{array_of, arrayed, complete_at}
use Rattle.cs_consts.specs.Typing.{castable, cast_type, given_shape, base_in}
use Rattle.cs_declarations.specs.Environment.{Environment, table_of, declarations_of, with_tag, declaring, is_declared_here, entered, left}
use Rattle.cs_declarations.specs.Bodies.{Typing, empty_struct, with_struct, with_tagged_struct, tag_in, struct_named, word_type, Laying, nothing_laid}
use Rattle.cs_declarations.specs.Bodies.{has_member, placed, placed_if, member_added, declarator_type, member_declared, members_declared, with_members, is_int}
use Rattle.cs_declarations.specs.Bodies.{Counting, constant_added, number_said, constant_declared, constants_declared, with_enum_tag, is_new_enum, enum_body}
use Rattle.cs_declarations.specs.Bodies.{Opening, is_among, opening_tagged, opening, name_or_none, Body, struct_read, group_declared, first_name, plain_row}
use Rattle.cs_declarations.specs.Bodies.{row_type, members_read, plain_words, words_type, specs_type, typedefs_added}
use Rattle.cs_declarations.specs.LaidOut.{IsOfTable}
use Rattle.cs_declarations.specs.Sizes.{sizes_said, refused_bound, unless_refused, all_said, bounded, element_of, Extent, Whole, Unsized, outermost, extent_of}
use Rattle.cs_declarations.specs.Sizes.{filled}
use Rattle.cs_declarations.specs.Objects.{count_given, object_type}
use Rattle.cs_declarations.specs.Parameters.{Head, Passed, place_of, plainly_passed, array_passed, passed, naming, with_parameter}
use Rattle.cs_declarations.specs.Parameters.{parameter_passed, parameter_typed, parameters_after, no_parameter, parameters_typed, twice_after}
use Rattle.cs_well_formed.specs.Structs.{NamesStructs, MembersName, VariablesName}
use Rattle.cs_well_formed.specs.Agreement.{IsNamed, KnownTypesAreNamed}
use Rattle.cs_well_formed.specs.Naming.{WordsAreNamed, TypedefsAreNamed, ParametersAreNamed, ObjectsAreNamed}
use Rattle.cs_well_formed.proofs.Verdicts.{IfFine, if_fine-at, if_fine-any, if_fine-weaker, lift-then, cond-then, unless_refused-then, after_twice-then}
use Rattle.cs_well_formed.proofs.Names.{newest-holds}
use Rattle.cs_well_formed.proofs.Structs.{names-longer, members-longer, structs-longer, variables-longer, meaning-longer, tag-longer}

-- ---- types over a table
module _ (table : List StructType) where
  abbrev Names : Shape → Type 0
  Names ty = NamesStructs table ty

  typedef_at-named : (at : Place) (m : Option Meaning) → IfSome m (IsNamed table) → IfFine (typedef_at at m) Names
  typedef_at-named at (Some (Typedef ty)) h = h
  typedef_at-named at (Some (Constant value)) h = tt
  typedef_at-named at (Some (Global number ty)) h = tt
  typedef_at-named at (Some (Local number ty)) h = tt
  typedef_at-named at (Some (Function f)) h = tt
  typedef_at-named at None h = tt

  newest-named : (name : List ℕ) (ds : List Declaration) → All (λ (d : Declaration). IsNamed table d.meaning) ds
      → IfSome (newest name ds) (IsNamed table)
  newest-named name ds h = newest-holds (IsNamed table) name ds (recursion_from_All (λ (d : Declaration). IsNamed table d.meaning) ds h)

  picked : (b : Bool) (m : TagMeaning) (o : Option TagMeaning) → IsOfTable table m → IfSome o (IsOfTable table)
      → IfSome (cond b (Some m) o) (IsOfTable table)
  picked true m o h k = h
  picked false m o h k = k

  tagged-named : (name : List ℕ) (tags : List Tag) → All (λ (t : Tag). IsOfTable table t.meaning) tags → IfSome (tagged name tags) (IsOfTable table)
  tagged-named name [] h = tt
  tagged-named name (t ∷ ts) h =
      picked _ t.meaning (tagged name ts) (All-head (λ (t : Tag). IsOfTable table t.meaning) t ts h)
      (tagged-named name ts (All-tail (λ (t : Tag). IsOfTable table t.meaning) t ts h))

  struct_at-named : (at : Place) (m : Option TagMeaning) → IfSome m (IsOfTable table) → IfFine (struct_at at m) Names
  struct_at-named at (Some (tag.Struct number)) h = h
  struct_at-named at (Some tag.Enum) h = tt
  struct_at-named at None h = tt

  enum_at-named : (at : Place) (m : Option TagMeaning) → IfFine (enum_at at m) Names
  enum_at-named at (Some (tag.Struct number)) = tt
  enum_at-named at (Some tag.Enum) = tt
  enum_at-named at None = tt

  pub starred-named : (stars : List PointerWord) (ty : Shape) → Names ty → Names (starred stars ty)
  starred-named [] ty h = h
  starred-named (star ∷ stars) ty h = starred-named stars _ (one (is_star star))
    where
      one : (b : Bool) → Names (cond b (pointer ty) ty)
      one true = h
      one false = h

  array_of-named : (model : _) (at : Place) (n : ℤ) (element : Shape) → Names element → IfFine (array_of model table at n element) Names
  unfolding array_of
  array_of-named model at n element h =
      cond-then Names (is_array_size n && is_some (bytes_in model table (array element (unsigned_abs n)))) _ _ (λ _. h) (λ _. tt)

  arrayed-named : (model : _) (at : Place) (base : Shape) (ns : List ℤ) → Names base → IfFine (arrayed model table at base ns) Names
  arrayed-named model at base [] h = h
  arrayed-named model at base (n ∷ ns) h =
      lift-then Names Names (array_of model table at n) (arrayed model table at base ns) (arrayed-named model at base ns h)
      (λ element k. array_of-named model at n element k)

  complete_at-named : (at : Place) (ty : Shape) → Names ty → IfFine (complete_at table at ty) Names
  unfolding complete_at
  complete_at-named at ty h = cond-then Names (is_complete table ty) _ _ (λ _. h) (λ _. tt)

-- ---- declarators
module _ (c : Context) where
  abbrev NamesHere : Shape → Type 0
  NamesHere ty = NamesStructs c.table.list ty

  bounded-named : (at : Place) (base : Shape) (bounds : List (Option RawExpr)) → NamesHere base → IfFine (bounded c at base bounds) NamesHere
  bounded-named at base [] h = h
  bounded-named at base (bound ∷ bounds) h = complete_at-named c.table.list at base h

  element_of-named : (at : Place) (base : Shape) (others : List (Option ℤ)) → NamesHere base → IfFine (element_of c at base others) NamesHere
  element_of-named at base others h =
      lift-then (λ _. Unit {0}) NamesHere (arrayed c.model c.table.list at base) (all_said at others) (if_fine-any (all_said at others))
      (λ ns _. arrayed-named c.table.list c.model at base ns h)

  abbrev ExtentNames : Extent → Type 0
  ExtentNames (Whole ty) = NamesHere ty
  ExtentNames (Unsized element) = NamesHere element

  outermost-named : (at : Place) (size : Option ℤ) (element : Shape) → NamesHere element → IfFine (outermost c at size element) ExtentNames
  outermost-named at (Some n) element h =
      lift-then NamesHere ExtentNames (λ ty. Fine (Whole ty)) (array_of c.model c.table.list at n element) (array_of-named c.table.list c.model at n element h)
      (λ ty k. k)
  outermost-named at None element h = h

  extent_of-named : (at : Place) (base : Shape) (sizes : List (Option ℤ)) → NamesHere base → IfFine (extent_of c at base sizes) ExtentNames
  extent_of-named at base [] h = h
  extent_of-named at base (first ∷ others) h =
      lift-then NamesHere ExtentNames (outermost c at first) (element_of c at base others) (element_of-named at base others h)
      (λ element k. outermost-named at first element k)

  filled-named : (at : Place) (count : Option ℕ) (extent : Extent) → ExtentNames extent → IfFine (filled c at count extent) NamesHere
  filled-named at count (Whole ty) h = h
  filled-named at (Some n) (Unsized element) h = array_of-named c.table.list c.model at (pos n) element h
  filled-named at None (Unsized element) h = tt

  pub declarator_type-named : (base : Shape) (count : Option ℕ) (d : RawDeclarator) → NamesHere base → IfFine (declarator_type c base count d) NamesHere
  declarator_type-named base count d h =
      let sizes = sizes_said c d.bounds.items in
      let refused = refused_bound c d.bounds.items in
      lift-then NamesHere NamesHere (λ whole. lift (unless_refused refused) (lift (filled c d.place count) (extent_of c d.place whole sizes))) _
      (bounded-named d.place (starred d.pointers.items base) d.bounds.items (starred-named c.table.list d.pointers.items base h))
      (λ whole k.
      lift-then NamesHere NamesHere (unless_refused refused) _
      (lift-then ExtentNames NamesHere (filled c d.place count) _ (extent_of-named d.place whole sizes k)
      (λ extent m. filled-named d.place count extent m))
      (λ ty m. unless_refused-then NamesHere refused ty m))

  -- the type of a declared object
  pub object_type-named : (base : Shape) (d : RawInit) → NamesHere base → IfFine (object_type c base d) NamesHere
  object_type-named base d h =
      lift-then NamesHere NamesHere (complete_at c.table.list d.declarator.place) _ (declarator_type-named base (count_given d.initial) d.declarator h)
      (λ ty k. complete_at-named c.table.list d.declarator.place ty k)

  -- members so far
  abbrev LayingNames : Laying → Type 0
  LayingNames laying = MembersName c.table.list laying.members

  placed-named : (at : Place) (name : List ℕ) (ty : Shape) (bytes align : ℕ) (before : Laying) → NamesHere ty → LayingNames before
      → IfFine (placed at name ty bytes align before) LayingNames
  placed-named at name ty bytes align before h k =
      cond-then LayingNames (nat_le (round_up before.size align + bytes) (2 ^ 20)) _ _
      (λ _. All-push (λ (m : Member). NamesStructs c.table.list m.ty) before.members _ k h) (λ _. tt)

  placed_if-named : (at : Place) (name : List ℕ) (ty : Shape) (size : Option ℕ) (before : Laying) → NamesHere ty → LayingNames before
      → IfFine (placed_if c at name ty size before) LayingNames
  placed_if-named at name ty (Some bytes) before h k = placed-named at name ty bytes _ before h k
  placed_if-named at name ty None before h k = tt

  member_declared-named : (base : Shape) (d : RawDeclarator) (before : Laying) → NamesHere base → LayingNames before
      → IfFine (member_declared c base d before) LayingNames
  member_declared-named base d before h k =
      cond-then LayingNames (has_member d.name before.members) _ _ (λ _. tt)
      (λ _. lift-then NamesHere LayingNames (member_added c d.place d.name before) (declarator_type c base None d) (declarator_type-named base None d h)
      (λ ty n.
      lift-then NamesHere LayingNames (λ whole. placed_if c d.place d.name whole (bytes_in c.model c.table.list whole) before)
      (complete_at c.table.list d.place ty)
      (complete_at-named c.table.list d.place ty n) (λ whole m. placed_if-named d.place d.name whole (bytes_in c.model c.table.list whole) before m k)))

  members_declared-named : (base : Shape) (ds : List RawDeclarator) (before : Laying) → NamesHere base → LayingNames before
      → IfFine (members_declared c base ds before) LayingNames
  members_declared-named base [] before h k = k
  members_declared-named base (d ∷ ds) before h k =
      lift-then LayingNames LayingNames (members_declared c base ds) (member_declared c base d before) (member_declared-named base d before h k)
      (λ laying m. members_declared-named base ds laying h m)

  -- the adjusted types of parameters
  abbrev PassedNames : Passed → Type 0
  PassedNames found = NamesHere found.ty

  plainly_passed-named : (at : Place) (ty : Shape) → NamesHere ty → IfFine (plainly_passed at ty) PassedNames
  plainly_passed-named at void h = tt
  plainly_passed-named at (struct number) h = tt
  plainly_passed-named at (array element count) h = h
  plainly_passed-named at (integer kind) h = tt
  plainly_passed-named at (pointer target) h = h

  array_passed-named : (at : Place) (size : Option ℤ) (element : Shape) → NamesHere element → IfFine (array_passed c at size element) PassedNames
  array_passed-named at (Some n) element h =
      lift-then (λ _. Unit {0}) PassedNames _ _ (if_fine-any (array_of c.model c.table.list at n element)) (λ whole _. h)
  array_passed-named at None element h = h

  passed-named : (at : Place) (base : Shape) (sizes : List (Option ℤ)) → NamesHere base → IfFine (passed c at base sizes) PassedNames
  passed-named at base [] h = plainly_passed-named at base h
  passed-named at base (first ∷ others) h =
      lift-then NamesHere PassedNames (array_passed c at first) (element_of c at base others) (element_of-named at base others h)
      (λ element k. array_passed-named at first element k)

  parameter_passed-named : (p : RawParameter) (base : Shape) → NamesHere base → IfFine (parameter_passed c p base) PassedNames
  parameter_passed-named p base h =
      let sizes = sizes_said c p.bounds.items in
      let refused = refused_bound c p.bounds.items in
      lift-then NamesHere PassedNames (λ whole. lift (unless_refused refused) (passed c (place_of p.place p.name) whole sizes)) _
      (bounded-named (place_of p.place p.name) base p.bounds.items h)
      (λ whole k.
      lift-then PassedNames PassedNames (unless_refused refused) _ (passed-named (place_of p.place p.name) whole sizes k)
      (λ found m. unless_refused-then PassedNames refused found m))

  -- a written type between parentheses
  module _ (known : KnownTypesAreNamed c) where
    based-named : (at : Place) (ty : WrittenType) (one : Option TypeWord) → IfFine (based c.scope.declarations c.scope.tags at ty one) NamesHere
    unfolding based
    based-named at ty None = tt
    based-named at ty (Some (word.Typedef name)) =
        typedef_at-named c.table.list at (newest name c.scope.declarations) (newest-named c.table.list name c.scope.declarations known.declarations)
    based-named at ty (Some (word.Struct name)) =
        struct_at-named c.table.list (tag_place at ty.tag) (tagged name c.scope.tags) (tagged-named c.table.list name c.scope.tags known.tags)
    based-named at ty (Some (word.Enum name)) = enum_at-named c.table.list (tag_place at ty.tag) (tagged name c.scope.tags)
    based-named at ty (Some word.Const) = tt
    based-named at ty (Some (word.Integer kind)) = tt
    based-named at ty (Some word.Void) = tt

    pub base_in-named : (at : Place) (ty : WrittenType) → IfFine (base_in c at ty) NamesHere
    unfolding type_named
    base_in-named at ty =
        lift-then NamesHere NamesHere (after_stars ty) _ (based-named at ty (whole_word ty.words.items))
        (λ base h. starred-named c.table.list ty.pointers.items base h)

    castable-named : (at : Place) (ty : Shape) → NamesHere ty → IfFine (castable at ty) NamesHere
    castable-named at void h = tt
    castable-named at (integer kind) h = tt
    castable-named at (pointer target) h = h
    castable-named at (array element count) h = tt
    castable-named at (struct number) h = tt

    -- the type of a cast
    pub cast_type-named : (at : Place) (count : ℕ) (ty : WrittenType) → IfFine (cast_type at count (base_in c at ty)) NamesHere
    unfolding cast_type
    cast_type-named at ℕ.zero ty = lift-then NamesHere NamesHere (castable at) (base_in c at ty) (base_in-named at ty) (λ base h. castable-named at base h)
    cast_type-named at (ℕ.suc n) ty = tt

pub given_shape-named : (P : Shape → Type 0) (v : Verdict Shape) → IfFine v P → IfSome (given_shape v) P
given_shape-named P (Fine ty) h = h
given_shape-named P (Fault code place) h = tt

-- ---- what is known after declarations

-- types name structs of the table, which is no shorter than before
pub record NamedOn (k m : Environment) : Type 0 where
  pub known : KnownTypesAreNamed m.context
  pub longer : length (table_of k) ≤ length (table_of m)

pub named_on-self : (k : Environment) → KnownTypesAreNamed k.context → NamedOn k k
named_on-self k h = record { known = h; longer = omega arith }

pub named_on-trans : (k m n : Environment) → NamedOn k m → NamedOn m n → NamedOn k n
named_on-trans k m n g h = record { known = h.known; longer = omega (arith, g.longer, h.longer) }

-- one more struct, which has no members yet
module _ (k : Environment) (name : List ℕ) (h : KnownTypesAreNamed k.context) where
  abbrev longer_table : List StructType
  longer_table = table_of k ++ empty_struct name ∷ []

  one-longer : suc (length (table_of k)) ≤ length longer_table
  one-longer = let e = length-append (table_of k) (empty_struct name ∷ []) in omega (arith, e)

  no-shorter : length (table_of k) ≤ length longer_table
  no-shorter = let e = one-longer in omega (arith, e)

  struct-known : KnownTypesAreNamed (with_struct name k).context
  struct-known = record {
    declarations = All-weaker (λ (d : Declaration). IsNamed (table_of k) d.meaning) (λ (d : Declaration). IsNamed longer_table d.meaning)
        (λ d n. meaning-longer (table_of k) longer_table no-shorter d.meaning n) (declarations_of k) h.declarations;
    tags = All-weaker (λ (t : Tag). IsOfTable (table_of k) t.meaning) (λ (t : Tag). IsOfTable longer_table t.meaning)
        (λ t n. tag-longer (table_of k) longer_table no-shorter t.meaning n) k.context.scope.tags h.tags;
    members = All-push (λ (s : StructType). IfSome s.members (MembersName longer_table)) (table_of k) (empty_struct name)
        (structs-longer (table_of k) longer_table no-shorter (table_of k) h.members) tt;
  }

  struct-named : NamedOn k (with_struct name k)
  struct-named = record { known = struct-known; longer = no-shorter }

tag-known : (k : Environment) (name : List ℕ) (meaning : TagMeaning) → IsOfTable (table_of k) meaning → KnownTypesAreNamed k.context
    → KnownTypesAreNamed (with_tag name meaning k).context
tag-known k name meaning is h = record {
  declarations = h.declarations;
  tags = All-push (λ (t : Tag). IsOfTable (table_of k) t.meaning) k.context.scope.tags (record { name = name; meaning = meaning }) h.tags is;
  members = h.members;
}

pub tagged_struct-named : (name : List ℕ) (k : Environment) → KnownTypesAreNamed k.context → NamedOn k (with_tagged_struct name k)
tagged_struct-named name k h = record {
  known = tag-known (with_struct name k) name (tag.Struct (length (table_of k))) (one-longer k name h) (struct-known k name h);
  longer = no-shorter k name h;
}

pub declaring-known : (name : List ℕ) (meaning : Meaning) (k : Environment) → IsNamed (table_of k) meaning → KnownTypesAreNamed k.context
    → KnownTypesAreNamed (declaring name meaning k).context
declaring-known name meaning k is h = record {
  declarations = All-push (λ (d : Declaration). IsNamed (table_of k) d.meaning) (declarations_of k) (record { name = name; meaning = meaning }) h.declarations
      is;
  tags = h.tags;
  members = h.members;
}

declaring-named : (name : List ℕ) (meaning : Meaning) (k : Environment) → IsNamed (table_of k) meaning → KnownTypesAreNamed k.context
    → NamedOn k (declaring name meaning k)
declaring-named name meaning k is h = record { known = declaring-known name meaning k is h; longer = omega arith }

-- after a scope begins, and after one ends (C11 6.2.1, paragraph 4)
pub entered-known : (k : Environment) → KnownTypesAreNamed k.context → KnownTypesAreNamed (entered k).context
entered-known k h = record { declarations = h.declarations; tags = h.tags; members = h.members }

pub left-known : (before k : Environment) → KnownTypesAreNamed k.context → KnownTypesAreNamed (left before k).context
left-known before k h = record {
  declarations = All-take (λ (d : Declaration). IsNamed (table_of k) d.meaning) (length (declarations_of before)) (declarations_of k) h.declarations;
  tags = h.tags;
  members = h.members;
}

-- ---- the specifiers before declarators

abbrev pub TypeNamed : Environment → Typing → Type 0
TypeNamed k r = NamedOn k r.1 × NamesStructs (table_of r.1) r.0

abbrev CountNamed : Environment → Counting → Type 0
CountNamed k r = NamedOn k r.known

abbrev BodyNamed : Environment → Body → Type 0
BodyNamed k b = NamedOn k b.known × MembersName (table_of b.known) b.laying.members

abbrev OpeningNamed : Environment → Opening → Type 0
OpeningNamed k o = NamedOn k o.known × (o.number < length (table_of o.known))

tag_in-named : (k : Environment) (name : List ℕ) → KnownTypesAreNamed k.context → IfSome (tag_in k name) (IsOfTable (table_of k))
tag_in-named k name h = tagged-named (table_of k) name k.context.scope.tags h.tags

struct_named-named : (at : Place) (name : List ℕ) (k : Environment) (meaning : Option TagMeaning) → KnownTypesAreNamed k.context
    → IfSome meaning (IsOfTable (table_of k)) → IfFine (struct_named at name k meaning) (TypeNamed k)
struct_named-named at name k (Some (tag.Struct number)) h is = (named_on-self k h, is)
struct_named-named at name k (Some tag.Enum) h is = tt
struct_named-named at name k None h is = (tagged_struct-named name k h, one-longer k name h)

same_type-named : (k : Environment) (v : Verdict Shape) → KnownTypesAreNamed k.context → IfFine v (NamesStructs (table_of k))
    → IfFine (lift (λ ty. Fine (ty, k)) v) (TypeNamed k)
same_type-named k v h is = lift-then (NamesStructs (table_of k)) (TypeNamed k) (λ ty. Fine (ty, k)) v is (λ ty n. (named_on-self k h, n))

word_type-named : (k : Environment) (at_tag : Option Place) (at : Place) (all : List TypeWord) (one : Option TypeWord) → KnownTypesAreNamed k.context
    → IfFine (word_type k at_tag at all one) (TypeNamed k)
word_type-named k at_tag at all None h = (named_on-self k h, tt)
word_type-named k at_tag at all (Some (word.Typedef name)) h =
    same_type-named k (typedef_at at (newest name (declarations_of k))) h
    (typedef_at-named (table_of k) at (newest name (declarations_of k)) (newest-named (table_of k) name (declarations_of k) h.declarations))
word_type-named k at_tag at all (Some (word.Struct name)) h = struct_named-named (tag_place at at_tag) name k (tag_in k name) h (tag_in-named k name h)
word_type-named k at_tag at all (Some (word.Enum name)) h =
    same_type-named k (enum_at (tag_place at at_tag) (tag_in k name)) h (enum_at-named (table_of k) (tag_place at at_tag) (tag_in k name))
word_type-named k at_tag at all (Some word.Const) h = (named_on-self k h, tt)
word_type-named k at_tag at all (Some (word.Integer kind)) h = (named_on-self k h, tt)
word_type-named k at_tag at all (Some word.Void) h = (named_on-self k h, tt)

constant_declared-named : (e : RawEnumerator) (so_far : Counting) → KnownTypesAreNamed so_far.known.context
    → IfFine (constant_declared e so_far) (CountNamed so_far.known)
constant_declared-named e so_far h =
    cond-then (CountNamed so_far.known) (is_declared_here e.name so_far.known) _ _ (λ _. tt)
    (λ _.
    lift-then (λ _. Unit {0}) (CountNamed so_far.known) (constant_added e.place e.name so_far.known) _
    (if_fine-any (number_said so_far.known.context so_far.next e.value))
    (λ n _. cond-then (CountNamed so_far.known) (is_int so_far.known n) _ _ (λ _. declaring-named e.name (Constant n) so_far.known tt h) (λ _. tt)))

constants_declared-named : (es : List RawEnumerator) (so_far : Counting) → KnownTypesAreNamed so_far.known.context
    → IfFine (constants_declared es so_far) (CountNamed so_far.known)
constants_declared-named [] so_far h = named_on-self so_far.known h
constants_declared-named (e ∷ es) so_far h =
    lift-then (CountNamed so_far.known) (CountNamed so_far.known) (constants_declared es) _ (constant_declared-named e so_far h)
    (λ r first.
    if_fine-weaker (CountNamed r.known) (CountNamed so_far.known) (constants_declared es r) (constants_declared-named es r first.known)
    (λ x others. named_on-trans so_far.known r.known x.known first others))

enum_tag-named : (name : Option (List ℕ)) (k : Environment) → KnownTypesAreNamed k.context → NamedOn k (with_enum_tag name k)
enum_tag-named None k h = named_on-self k h
enum_tag-named (Some name) k h = record { known = tag-known k name tag.Enum tt h; longer = omega arith }

enum_body-named : (k : Environment) (at : Place) (name : Option (List ℕ)) (constants : List RawEnumerator) → KnownTypesAreNamed k.context
    → IfFine (enum_body k at name constants) (TypeNamed k)
enum_body-named k at name constants h =
    cond-then (TypeNamed k) (is_new_enum k name) _ _
    (λ _. lift-then (CountNamed k) (TypeNamed k) (λ (all : Counting). Fine (integer Int, with_enum_tag name all.known)) _
    (constants_declared-named constants (record { next = pos 0; known = k }) h)
    (λ all counted. (named_on-trans k all.known (with_enum_tag name all.known) counted (enum_tag-named name all.known counted.known), tt)))
    (λ _. tt)

opening_tagged-named : (at : Place) (name : List ℕ) (k : Environment) (meaning : Option TagMeaning) → KnownTypesAreNamed k.context
    → IfSome meaning (IsOfTable (table_of k)) → IfFine (opening_tagged at name k meaning) (OpeningNamed k)
opening_tagged-named at name k (Some (tag.Struct number)) h is =
    cond-then (OpeningNamed k) (is_among number k.reading || is_some (members_of (table_of k) number)) _ _ (λ _. tt)
    (λ _. (record { known = h; longer = omega arith }, is))
opening_tagged-named at name k (Some tag.Enum) h is = tt
opening_tagged-named at name k None h is = let one = tagged_struct-named name k h in (record { known = one.known; longer = one.longer }, one-longer k name h)

opening-named : (at : Place) (name : Option (List ℕ)) (k : Environment) → KnownTypesAreNamed k.context → IfFine (opening at name k) (OpeningNamed k)
opening-named at (Some name) k h = opening_tagged-named at name k (tag_in k name) h (tag_in-named k name h)
opening-named at None k h = let one = struct-named k [] h in (record { known = one.known; longer = one.longer }, one-longer k [] h)

-- a struct has the members of its body
struct_read-known : (k : Environment) (number : ℕ) (name : List ℕ) (laying : Laying) → MembersName (table_of k) laying.members
    → KnownTypesAreNamed k.context → NamedOn k (with_members number name laying k)
struct_read-known k number name laying named h = record {
  known = record {
    declarations = All-weaker (λ (d : Declaration). IsNamed (table_of k) d.meaning) (λ (d : Declaration). IsNamed after d.meaning)
        (λ d n. meaning-longer (table_of k) after still d.meaning n) (declarations_of k) h.declarations;
    tags = All-weaker (λ (t : Tag). IsOfTable (table_of k) t.meaning) (λ (t : Tag). IsOfTable after t.meaning)
        (λ t n. tag-longer (table_of k) after still t.meaning n) k.context.scope.tags h.tags;
    members = All-set (λ (s : StructType). IfSome s.members (MembersName after)) (table_of k) number _
        (members-longer (table_of k) after still laying.members named) (structs-longer (table_of k) after still (table_of k) h.members);
  };
  longer = still;
}
  where
    after : List StructType
    after = table_of (with_members number name laying k)

    still : length (table_of k) ≤ length after
    still = let e : length after ≡ length (table_of k) = length-set (table_of k) number _ in omega (arith, e)

struct_read-named : (k : Environment) (o : Opening) (before : List ℕ) (name : Option (List ℕ)) (v : Verdict Body) → OpeningNamed k o
    → IfFine v (BodyNamed o.known) → IfFine (lift (struct_read o before name) v) (TypeNamed k)
struct_read-named k o before name v h read =
    lift-then (BodyNamed o.known) (TypeNamed k) (struct_read o before name) v read
    (λ body inside.
    let made = struct_read-known body.known o.number (name_or_none name) body.laying inside.1 inside.0.known in
    let all = named_on-trans k body.known (with_members o.number (name_or_none name) body.laying body.known) (named_on-trans k o.known body.known h.0 inside.0)
    made in
    (record { known = all.known; longer = all.longer }, omega (arith, h.1, inside.0.longer, made.longer)))

group_declared-named : (k : Environment) (declarators : List RawDeclarator) (before : Laying) (ty : Typing) → MembersName (table_of k) before.members
    → TypeNamed k ty → IfFine (group_declared declarators before ty) (BodyNamed k)
group_declared-named k declarators before ty laying h =
    lift-then (λ (l : Laying). MembersName (table_of ty.1) l.members) (BodyNamed k) (λ laying. Fine (record { laying = laying; known = ty.1 })) _
    (members_declared-named ty.1.context ty.0 declarators before h.1 (members-longer (table_of k) (table_of ty.1) h.0.longer before.members laying))
    (λ l n. (h.0, n))

mutual
  row_type-named : {n : _} (k : Environment) (at_tag : Option Place) (at : Place) (all : List TypeWord) (row : words.Row_of-SpecWord n)
      → KnownTypesAreNamed k.context → IfFine (row_type k at_tag at all row) (TypeNamed k)
  row_type-named k at_tag at all words.end_of-SpecWord h = word_type-named k at_tag at all (whole_word all) h
  row_type-named k at_tag at all (words.more_of-SpecWord words.TheVariants.Static others) h = row_type-named k at_tag at all others h
  row_type-named k at_tag at all (words.more_of-SpecWord (words.TheVariants.Plain w) others) h = row_type-named k at_tag at all others h
  row_type-named k at_tag at all (words.more_of-SpecWord (words.TheVariants.Struct' name shape row) others) h =
      lift-then (OpeningNamed k) (TypeNamed k) (λ (o : Opening). lift (struct_read o k.reading name) (members_read o.known row nothing_laid)) _
      (opening-named (tag_place at at_tag) name k h)
      (λ o g.
      struct_read-named k o k.reading name _ g
      (members_read-named o.known row nothing_laid g.0.known (All-nil (λ (m : Member). NamesStructs (table_of o.known) m.ty))))
  row_type-named k at_tag at all (words.more_of-SpecWord (words.TheVariants.Enum name constants comma) others) h =
      enum_body-named k (tag_place at at_tag) name constants.items h

  members_read-named : {n : _} (k : Environment) (row : words.Row_of-RawMember n) (before : Laying) → KnownTypesAreNamed k.context
      → MembersName (table_of k) before.members → IfFine (members_read k row before) (BodyNamed k)
  members_read-named k words.end_of-RawMember before h laying = (named_on-self k h, laying)
  members_read-named k (words.more_of-RawMember shape row tag declarators others) before h laying =
      lift-then (BodyNamed k) (BodyNamed k) (λ (read : Body). members_read read.known others read.laying) _
      (lift-then (TypeNamed k) (BodyNamed k) (group_declared declarators.items before) _
      (row_type-named k tag (first_name declarators.items) (plain_row row) row h)
      (λ ty g. group_declared-named k declarators.items before ty laying g))
      (λ read g. if_fine-weaker (BodyNamed read.known) (BodyNamed k) (members_read read.known others read.laying)
      (members_read-named read.known others read.laying g.0.known g.1) (λ b inside. (named_on-trans k read.known b.known g.0 inside.0, inside.1)))

words_type-named : (k : Environment) (at_tag : Option Place) (at : Place) (all : List TypeWord) (list : List SpecWord) → KnownTypesAreNamed k.context
    → IfFine (words_type k at_tag at all list) (TypeNamed k)
words_type-named k at_tag at all [] h = word_type-named k at_tag at all (whole_word all) h
words_type-named k at_tag at all (words.TheVariants.Static ∷ others) h = words_type-named k at_tag at all others h
words_type-named k at_tag at all (words.TheVariants.Plain w ∷ others) h = words_type-named k at_tag at all others h
words_type-named k at_tag at all (words.TheVariants.Struct' name shape row ∷ others) h =
    lift-then (OpeningNamed k) (TypeNamed k) (λ (o : Opening). lift (struct_read o k.reading name) (members_read o.known row nothing_laid)) _
    (opening-named (tag_place at at_tag) name k h)
    (λ o g.
    struct_read-named k o k.reading name _ g
    (members_read-named o.known row nothing_laid g.0.known (All-nil (λ (m : Member). NamesStructs (table_of o.known) m.ty))))
words_type-named k at_tag at all (words.TheVariants.Enum name constants comma ∷ others) h = enum_body-named k (tag_place at at_tag) name constants.items h

-- the specifiers before declarators
pub specs_type-named : (k : Environment) (at : Place) (raw : RawSpecs) → KnownTypesAreNamed k.context → IfFine (specs_type k at raw) (TypeNamed k)
specs_type-named k at raw h = words_type-named k raw.tag at (plain_words raw.words.items) raw.words.items h

-- typedefs
pub typedefs_added-named : (base : Shape) (ds : List RawDeclarator) (k : Environment) → NamesStructs (table_of k) base → KnownTypesAreNamed k.context
    → IfFine (typedefs_added base ds k) (NamedOn k)
typedefs_added-named base [] k is h = named_on-self k h
typedefs_added-named base (d ∷ ds) k is h =
    lift-then (NamedOn k) (NamedOn k) (typedefs_added base ds) _
    (cond-then (NamedOn k) (is_declared_here d.name k) _ _ (λ _. tt)
    (λ _.
    lift-then (NamesStructs (table_of k)) (NamedOn k) (λ ty. Fine (declaring d.name (Typedef ty) k)) _ (declarator_type-named k.context base None d is)
    (λ ty n. declaring-named d.name (Typedef ty) k n h)))
    (λ m first.
    if_fine-weaker (NamedOn m) (NamedOn k) (typedefs_added base ds m)
    (typedefs_added-named base ds m (names-longer (table_of k) (table_of m) first.longer base is) first.known)
    (λ n others. named_on-trans k m n first others))

-- ---- parameters

abbrev pub HeadNamed : Environment → Head → Type 0
HeadNamed k head = NamedOn k head.known × VariablesName (table_of head.known) head.variables

naming-known : (name : Option RawName) (number : ℕ) (ty : Shape) (k : Environment) → KnownTypesAreNamed k.context → NamedOn k (naming name number ty k)
naming-known None number ty k h = named_on-self k h
naming-known (Some name) number ty k h = declaring-named name.name (Local number ty) k tt h

with_parameter-named : (p : RawParameter) (before : Head) (k : Environment) (found : Passed) → VariablesName (table_of before.known) before.variables
    → NamedOn before.known k → NamesStructs (table_of k) found.ty →
    IfFine (with_parameter p before k found) (HeadNamed before.known)
with_parameter-named p before k found variables h is = (
  named_on-trans before.known k after h following,
  All-push (λ (v : Variable). NamesStructs (table_of after) v.ty) before.variables _
      (variables-longer (table_of k) (table_of after) following.longer before.variables
      (variables-longer (table_of before.known) (table_of k) h.longer before.variables variables))
      (names-longer (table_of k) (table_of after) following.longer found.ty is),
)
  where
    after : Environment
    after = naming p.name (length before.variables) found.ty k

    following : NamedOn k after
    following = naming-known p.name (length before.variables) found.ty k h.known

parameter_typed-named : (p : RawParameter) (before : Head) → VariablesName (table_of before.known) before.variables
    → KnownTypesAreNamed before.known.context → IfFine (parameter_typed p before) (HeadNamed before.known)
parameter_typed-named p before variables h =
    lift-then (TypeNamed before.known) (HeadNamed before.known) _ _
    (after_twice-then (TypeNamed before.known) before.twice _ (specs_type-named before.known p.place p.specs h))
    (λ found g.
    let PassedHere : Passed → Type 0 = λ way. NamesStructs (table_of found.1) way.ty in
    lift-then PassedHere (HeadNamed before.known) (with_parameter p before found.1) _
    (after_twice-then PassedHere (twice_after p before.twice found.1) (parameter_passed found.1.context p (starred p.pointers.items found.0))
    (parameter_passed-named found.1.context p (starred p.pointers.items found.0) (starred-named (table_of found.1) p.pointers.items found.0 g.1)))
    (λ way n. with_parameter-named p before found.1 way variables g.0 n))

parameters_after-named : (ps : List RawParameter) (before : Head) → VariablesName (table_of before.known) before.variables
    → KnownTypesAreNamed before.known.context → IfFine (parameters_after ps before) (HeadNamed before.known)
parameters_after-named [] before variables h = (named_on-self before.known h, variables)
parameters_after-named (p ∷ ps) before variables h =
    lift-then (HeadNamed before.known) (HeadNamed before.known) (parameters_after ps) _ (parameter_typed-named p before variables h)
    (λ head first.
    if_fine-weaker (HeadNamed head.known) (HeadNamed before.known) (parameters_after ps head) (parameters_after-named ps head first.1 first.0.known)
    (λ after others. (named_on-trans before.known head.known after.known first.0 others.0, others.1)))

-- the parameters of a function
pub parameters_typed-named : (k : Environment) (raw : RawParameters) → KnownTypesAreNamed k.context → IfFine (parameters_typed k raw) (HeadNamed k)
parameters_typed-named k parameter_lists.Empty h = (named_on-self k h, All-nil (λ (v : Variable). NamesStructs (table_of k) v.ty))
parameters_typed-named k parameter_lists.Void h = (named_on-self k h, All-nil (λ (v : Variable). NamesStructs (table_of k) v.ty))
parameters_typed-named k (parameter_lists.List list) h =
    parameters_after-named list.items (no_parameter k) (All-nil (λ (v : Variable). NamesStructs (table_of k) v.ty)) h

pub words_are_named : WordsAreNamed
words_are_named k m at raw ty h is = let found = if_fine-at (TypeNamed k) (specs_type k at raw) (ty, m) (specs_type-named k at raw h) is in
    (found.1, found.0.known)

pub typedefs_are_named : TypedefsAreNamed
typedefs_are_named k m base names is h reported =
    (if_fine-at (NamedOn k) (typedefs_added base names k) m (typedefs_added-named base names k is h) reported).known

pub parameters_are_named : ParametersAreNamed
parameters_are_named k raw head h is = let found = if_fine-at (HeadNamed k) (parameters_typed k raw) head (parameters_typed-named k raw h) is in
    (found.1, found.0.known)

pub objects_are_named : ObjectsAreNamed
objects_are_named c base d ty h is = if_fine-at (NamesStructs c.table.list) (object_type c base d) ty (object_type-named c base d h) is
