-- What declarations make known: for the typing of statements and files after them.
use Rattle.std.proofs.Common.{◌≡◌, ◌≢◌, ℕ, ◌≤◌, zero, suc, Bool, true, false, ◌||◌, List, [], ◌∷◌, ◌++◌, length, set}
use Rattle.std.proofs.Common.{slice_get, Option, Some, None, is_some, refl, sym, ap, ◌∙◌, subst, arith}
use Rattle.std.specs.Prelude.{ℤ, pos, ◌≤ℤ◌, int_le}
use Rattle.std.specs.Option.{option_and_then}
use Rattle.std.proofs.lemmas.Int.{ints}
use Rattle.std.proofs.lemmas.List.{length-append, length-set, get_or-set_other}
use Rattle.std.proofs.lemmas.List.Elements.{All-push}
use Rattle.std.proofs.lemmas.Option.{option_and_then_some, slice_get_within, slice_get_read, get_or_from_slice_get}
use Rattle.cs_types.specs.declared.int_type.IntType.TheVariants.{Int}
use Rattle.cs_types.specs.declared.structs.StructType.{StructType}
use Rattle.cs_types.specs.IntType.{InRange, least_of, greatest_of}
use Rattle.cs_types.specs.Layout.{members_of}
use Rattle.cs_types.specs.Members.{Member}
use Rattle.cs_types.specs.Shape.{Shape, integer}
use Rattle.cs_ast.specs.declared.place.Place.{Place}
use Rattle.cs_ast.specs.declared.raw.name.RawName.{RawName}
use Rattle.cs_ast.specs.declared.raw.declaration.RawSpecs.{RawSpecs}
use Rattle.cs_ast.specs.declared.raw.declaration.SpecWord as words
use Rattle.cs_ast.specs.declared.raw.declaration.SpecWord.{SpecWord}
use Rattle.cs_ast.specs.declared.raw.declaration.RawDeclarator.{RawDeclarator}
use Rattle.cs_ast.specs.declared.raw.declaration.RawEnumerator.{RawEnumerator}
use Rattle.cs_ast.specs.declared.raw.declaration.RawInit.{RawInit}
use Rattle.cs_ast.specs.declared.raw.declaration.RawParameter.{RawParameter}
use Rattle.cs_ast.specs.declared.raw.declaration.RawParameters.{RawParameters}
use Rattle.cs_ast.specs.declared.raw.declaration.RawParameters.TheVariants as parameter_lists
use Rattle.cs_ast.specs.declared.raw.written_type.TypeWord.{TypeWord}
use Rattle.cs_ast.specs.declared.raw.written_type.TypeWord.TheVariants as word
use Rattle.cs_ast.specs.TypedProgram.{Variable}
use Rattle.cs_scopes.specs.declared.context.Context.{Context}
use Rattle.cs_scopes.specs.declared.scope.TagMeaning.{TagMeaning}
use Rattle.cs_scopes.specs.declared.scope.TagMeaning.TheVariants as tag
use Rattle.cs_scopes.specs.Meanings.{Meaning, Typedef, Constant, Local, Declaration}
use Rattle.cs_scopes.specs.Verdicts.{Verdict, Fine, lift}
use Rattle.cs_scopes.specs.Scopes.{newest}
use Rattle.cs_types.specs.Kinds.{is_complete}
use Rattle.cs_scopes.specs.TypeNames.{whole_word, typedef_at, enum_at, tag_place, starred, complete_at}
use Rattle.cs_declarations.specs.Environment.{Environment, table_of, declarations_of, with_table, with_reading, with_tag, declaring, is_declared_here}
use Rattle.cs_declarations.specs.Bodies.{Typing, empty_struct, with_struct, with_tagged_struct, tag_in, struct_named, word_type, Laying, nothing_laid}
use Rattle.cs_declarations.specs.Bodies.{declarator_type, members_declared, with_members, is_int, Counting, constant_added, number_said, constant_declared}
use Rattle.cs_declarations.specs.Bodies.{constants_declared, with_enum_tag, is_new_enum, enum_body, Opening, is_among, opened, opening_tagged, opening}
use Rattle.cs_declarations.specs.Bodies.{name_or_none, Body, struct_read, group_declared, first_name, plain_row, row_type, members_read, plain_words}
use Rattle.cs_declarations.specs.Bodies.{words_type, specs_type, typedef_added, typedefs_added}
use Rattle.cs_declarations.specs.Objects.{count_given, object_type}
use Rattle.cs_declarations.specs.Parameters.{Head, Passed, naming, with_parameter, parameter_passed, parameter_typed, parameters_after}
use Rattle.cs_declarations.specs.Parameters.{no_parameter, parameters_typed, after_twice, twice_after}
use Rattle.cs_well_formed.specs.Expressions.{Setting, IsWhole}
use Rattle.cs_well_formed.specs.Agreement.{Keeps, IsThere, Agrees}
use Rattle.cs_well_formed.specs.Leading.{Leads, AreVariables, WordsLead, TypedefsLead, ParametersLead, ObjectsAreWhole}
use Rattle.cs_well_formed.proofs.Verdicts.{IfFine, if_fine-at, if_fine-any, if_fine-weaker, lift-then, cond-then, after_twice-then, both_true}
use Rattle.cs_well_formed.proofs.Objects.{complete-IsWhole}
use Rattle.cs_well_formed.proofs.Structs.{keeps-self, keeps-trans}

-- no struct with members has this number
abbrev pub IsOpen : List StructType → ℕ → Type 0
IsOpen table number = (n : ℕ) (members : List Member) → members_of table n ≡ Some members → n ≢ number

found-append : (xs ys : List StructType) (i : ℕ) (x : StructType) → slice_get xs i ≡ Some x → slice_get (xs ++ ys) i ≡ Some x
found-append [] ys i x h = absurd cc
found-append (y ∷ xs) ys zero x h = h
found-append (y ∷ xs) ys (suc i) x h = found-append xs ys i x h

found-set : (xs : List StructType) (i j : ℕ) (v x : StructType) → j ≢ i → slice_get xs j ≡ Some x → slice_get (set xs i v) j ≡ Some x
found-set xs i j v x apart h =
    let within = slice_get_within xs j x h in
    slice_get_read (set xs i v) (length xs) j x (sym (length-set xs i v)) within (sym (get_or-set_other xs i j v x apart ∙ get_or_from_slice_get xs j x x h))

-- members in one table are those in another table that has the struct too
kept : (one other : List StructType) → ((n : ℕ) (x : StructType) → slice_get one n ≡ Some x → slice_get other n ≡ Some x)
    → (number : ℕ) (members : List Member) → members_of one number ≡ Some members → members_of other number ≡ Some members
kept one other has number members h =
    option_and_then_some (λ (laid : StructType). laid.members) (slice_get one number) members h
    (λ laid at is. ap (option_and_then (λ (x : StructType). x.members)) (has number laid at) ∙ is)

keeps-append : (table more : List StructType) → Keeps table (table ++ more)
keeps-append table more = record {
  members = kept table (table ++ more) (λ n x at. found-append table more n x at);
  longer = let e = length-append table more in omega (arith, e);
}

-- the number after those of all structs is open
last-open : (table : List StructType) → IsOpen table (length table)
last-open table n members h =
    option_and_then_some (λ (laid : StructType). laid.members) (slice_get table n) members h
    (λ laid at _ is. let within = slice_get_within table n laid at in absurd (omega arith))

-- a struct without members is open
none-open : (table : List StructType) (number : ℕ) → is_some (members_of table number) ≡ false → IsOpen table number
none-open table number none n members h is =
    let there : is_some (members_of table number) ≡ true = ap (λ i. is_some (members_of table i)) (sym is) ∙ ap is_some h in
    absurd cc

either-false : (a b : Bool) → (a || b) ≡ false → b ≡ false
either-false true b h = absurd cc
either-false false b h = h

module _ (s : Setting) where
  leads-self : (k : Environment) → Leads s k k
  leads-self k = record { model = refl; literals = refl; table = keeps-self (table_of k); declarations = λ h. h }

  pub leads-trans : (k m n : Environment) → Leads s k m → Leads s m n → Leads s k n
  leads-trans k m n h g = record {
    model = g.model ∙ h.model;
    literals = g.literals ∙ h.literals;
    table = keeps-trans (table_of k) (table_of m) (table_of n) h.table g.table;
    declarations = λ there. g.declarations (h.declarations there);
  }

  leads-table : (k : Environment) (table : List StructType) → Keeps (table_of k) table → Leads s k (with_table table k)
  leads-table k table keeps = record { model = refl; literals = refl; table = keeps; declarations = λ h. h }

  leads-struct : (name : List ℕ) (k : Environment) → Leads s k (with_struct name k)
  leads-struct name k = leads-table k (table_of k ++ empty_struct name ∷ []) (keeps-append (table_of k) (empty_struct name ∷ []))

  leads-tag : (name : List ℕ) (meaning : TagMeaning) (k : Environment) → Leads s k (with_tag name meaning k)
  leads-tag name meaning k = record { model = refl; literals = refl; table = keeps-self (table_of k); declarations = λ h. h }

  leads-reading : (reading : List ℕ) (k : Environment) → Leads s k (with_reading reading k)
  leads-reading reading k = record { model = refl; literals = refl; table = keeps-self (table_of k); declarations = λ h. h }

  pub leads-tagged : (name : List ℕ) (k : Environment) → Leads s k (with_tagged_struct name k)
  leads-tagged name k = leads-trans k (with_struct name k) (with_tagged_struct name k) (leads-struct name k)
      (leads-tag name (tag.Struct (length (table_of k))) (with_struct name k))

  -- after a declaration, if the program has what is declared
  pub leads-declaring : (name : List ℕ) (meaning : Meaning) (k : Environment) → IsThere s meaning → Leads s k (declaring name meaning k)
  leads-declaring name meaning k there = record {
    model = refl;
    literals = refl;
    table = keeps-self (table_of k);
    declarations = λ h. All-push (λ (d : Declaration). IsThere s d.meaning) (declarations_of k) (record { name = name; meaning = meaning }) h there;
  }

  -- the type of some specifiers
  abbrev LeadsTo : Environment → Typing → Type 0
  LeadsTo k r = Leads s k r.1

  struct_named-leads : (at : Place) (name : List ℕ) (k : Environment) (meaning : Option TagMeaning) → IfFine (struct_named at name k meaning) (LeadsTo k)
  struct_named-leads at name k (Some (tag.Struct number)) = leads-self k
  struct_named-leads at name k (Some tag.Enum) = tt
  struct_named-leads at name k None = leads-tagged name k

  same-leads : (k : Environment) (v : Verdict Shape) → IfFine (lift (λ ty. Fine (ty, k)) v) (LeadsTo k)
  same-leads k v = lift-then (λ _. Unit {0}) (LeadsTo k) (λ ty. Fine (ty, k)) v (if_fine-any v) (λ _ _. leads-self k)

  word_type-leads : (k : Environment) (at_tag : Option Place) (at : Place) (all : List TypeWord) (one : Option TypeWord)
      → IfFine (word_type k at_tag at all one) (LeadsTo k)
  word_type-leads k at_tag at all None = leads-self k
  word_type-leads k at_tag at all (Some (word.Typedef name)) = same-leads k (typedef_at at (newest name (declarations_of k)))
  word_type-leads k at_tag at all (Some (word.Struct name)) = struct_named-leads (tag_place at at_tag) name k (tag_in k name)
  word_type-leads k at_tag at all (Some (word.Enum name)) = same-leads k (enum_at (tag_place at at_tag) (tag_in k name))
  word_type-leads k at_tag at all (Some word.Const) = leads-self k
  word_type-leads k at_tag at all (Some (word.Integer kind)) = leads-self k
  word_type-leads k at_tag at all (Some word.Void) = leads-self k

  -- the constants of an enum
  int-InRange : (k : Environment) (n : ℤ) → k.context.model ≡ s.program.model → is_int k n ≡ true → InRange s.program.model Int n
  int-InRange k n same h =
      let ends = both_true (int_le (least_of k.context.model Int) n) (int_le n (greatest_of k.context.model Int)) h in
      subst (λ m. InRange m Int n) same (record {
        from_least = from_test (least_of k.context.model Int) n ends.0;
        to_greatest = from_test n (greatest_of k.context.model Int) ends.1;
      })
    where
      from_test : (a b : ℤ) → int_le a b ≡ true → a ≤ℤ b
      from_test a b t = grind (arith, ints)

  abbrev CountsTo : Environment → Counting → Type 0
  CountsTo k r = Leads s k r.known

  constant_added-leads : (at : Place) (name : List ℕ) (k : Environment) (n : ℤ) → k.context.model ≡ s.program.model
      → IfFine (constant_added at name k n) (CountsTo k)
  constant_added-leads at name k n same =
      cond-then (CountsTo k) (is_int k n) _ _ (λ h. leads-declaring name (Constant n) k (int-InRange k n same h)) (λ _. tt)

  constant_declared-leads : (e : RawEnumerator) (so_far : Counting) → so_far.known.context.model ≡ s.program.model
      → IfFine (constant_declared e so_far) (CountsTo so_far.known)
  constant_declared-leads e so_far same =
      cond-then (CountsTo so_far.known) (is_declared_here e.name so_far.known) _ _ (λ _. tt)
      (λ _.
      lift-then (λ _. Unit {0}) (CountsTo so_far.known) (constant_added e.place e.name so_far.known) _
      (if_fine-any (number_said so_far.known.context so_far.next e.value)) (λ n _. constant_added-leads e.place e.name so_far.known n same))

  constants_declared-leads : (es : List RawEnumerator) (so_far : Counting) → so_far.known.context.model ≡ s.program.model
      → IfFine (constants_declared es so_far) (CountsTo so_far.known)
  constants_declared-leads [] so_far same = leads-self so_far.known
  constants_declared-leads (e ∷ es) so_far same =
      lift-then (CountsTo so_far.known) (CountsTo so_far.known) (constants_declared es) _ (constant_declared-leads e so_far same)
      (λ r first.
      if_fine-weaker (CountsTo r.known) (CountsTo so_far.known) (constants_declared es r) (constants_declared-leads es r (first.model ∙ same))
      (λ x others. leads-trans so_far.known r.known x.known first others))

  leads-enum_tag : (name : Option (List ℕ)) (k : Environment) → Leads s k (with_enum_tag name k)
  leads-enum_tag None k = leads-self k
  leads-enum_tag (Some name) k = leads-tag name tag.Enum k

  enum_body-leads : (k : Environment) (at : Place) (name : Option (List ℕ)) (constants : List RawEnumerator) → k.context.model ≡ s.program.model
      → IfFine (enum_body k at name constants) (LeadsTo k)
  enum_body-leads k at name constants same =
      cond-then (LeadsTo k) (is_new_enum k name) _ _
      (λ _. lift-then (CountsTo k) (LeadsTo k) (λ (all : Counting). Fine (integer Int, with_enum_tag name all.known)) _
      (constants_declared-leads constants (record { next = pos 0; known = k }) same)
      (λ all counted. leads-trans k all.known (with_enum_tag name all.known) counted (leads-enum_tag name all.known)))
      (λ _. tt)

  -- the struct whose body begins here
  record IsOpening (k : Environment) (o : Opening) : Type 0 where
    known : Leads s k o.known
    is_open : IsOpen (table_of k) o.number

  opening_tagged-opens : (at : Place) (name : List ℕ) (k : Environment) (meaning : Option TagMeaning)
      → IfFine (opening_tagged at name k meaning) (IsOpening k)
  opening_tagged-opens at name k (Some (tag.Struct number)) =
      cond-then (IsOpening k) (is_among number k.reading || is_some (members_of (table_of k) number)) _ _ (λ _. tt)
      (λ h.
      record {
        known = leads-reading (k.reading ++ number ∷ []) k;
        is_open = none-open (table_of k) number (either-false (is_among number k.reading) (is_some (members_of (table_of k) number)) h);
      })
  opening_tagged-opens at name k (Some tag.Enum) = tt
  opening_tagged-opens at name k None = record {
    known = leads-trans k (with_tagged_struct name k) (opened (length (table_of k)) (with_tagged_struct name k)).known (leads-tagged name k)
        (leads-reading (k.reading ++ length (table_of k) ∷ []) (with_tagged_struct name k));
    is_open = last-open (table_of k);
  }

  opening-opens : (at : Place) (name : Option (List ℕ)) (k : Environment) → IfFine (opening at name k) (IsOpening k)
  opening-opens at (Some name) k = opening_tagged-opens at name k (tag_in k name)
  opening-opens at None k = record {
    known = leads-trans k (with_struct [] k) (opened (length (table_of k)) (with_struct [] k)).known (leads-struct [] k)
        (leads-reading (k.reading ++ length (table_of k) ∷ []) (with_struct [] k));
    is_open = last-open (table_of k);
  }

  -- a struct that was open before its body gets its members, and the other structs keep theirs
  leads-members : (k m : Environment) (number : ℕ) (name before : List ℕ) (laying : Laying) → Leads s k m → IsOpen (table_of k) number
      → Leads s k (with_reading before (with_members number name laying m))
  leads-members k m number name before laying h is_open = record {
    model = h.model;
    literals = h.literals;
    table = record { members = λ n members is. kept_there n members is (h.table.members n members is); longer = no_shorter };
    declarations = h.declarations;
  }
    where
      set_there : (v : StructType) (n : ℕ) (members : List Member) → n ≢ number → members_of (table_of m) n ≡ Some members
          → members_of (set (table_of m) number v) n ≡ Some members
      set_there v n members apart has =
          option_and_then_some (λ (laid : StructType). laid.members) (slice_get (table_of m) n) members has
          (λ laid at is. ap (option_and_then (λ (x : StructType). x.members)) (found-set (table_of m) number n v laid apart at) ∙ is)

      no_shorter : length (table_of k) ≤ length (table_of (with_reading before (with_members number name laying m)))
      no_shorter =
          let same : length (table_of (with_reading before (with_members number name laying m))) ≡ length (table_of m) = length-set (table_of m) number _ in
          omega (arith, same, h.table.longer)

      kept_there : (n : ℕ) (members : List Member) → members_of (table_of k) n ≡ Some members → members_of (table_of m) n ≡ Some members
          → members_of (table_of (with_reading before (with_members number name laying m))) n ≡ Some members
      kept_there n members is has = set_there _ n members (is_open n members is) has

  abbrev BodyLeads : Environment → Body → Type 0
  BodyLeads k b = Leads s k b.known

  struct_read-leads : (k : Environment) (o : Opening) (before : List ℕ) (name : Option (List ℕ)) (v : Verdict Body) → IsOpening k o
      → IfFine v (BodyLeads o.known) → IfFine (lift (struct_read o before name) v) (LeadsTo k)
  struct_read-leads k o before name v h read =
      lift-then (BodyLeads o.known) (LeadsTo k) (struct_read o before name) v read
      (λ body inside. leads-members k body.known o.number (name_or_none name) before body.laying (leads-trans k o.known body.known h.known inside) h.is_open)

  group_declared-leads : (k : Environment) (declarators : List RawDeclarator) (before : Laying) (ty : Typing) → Leads s k ty.1
      → IfFine (group_declared declarators before ty) (BodyLeads k)
  group_declared-leads k declarators before ty h =
      lift-then (λ _. Unit {0}) (BodyLeads k) (λ laying. Fine (record { laying = laying; known = ty.1 })) _
      (if_fine-any (members_declared ty.1.context ty.0 declarators before)) (λ _ _. h)

  mutual
    row_type-leads : {n : _} (k : Environment) (at_tag : Option Place) (at : Place) (all : List TypeWord) (row : words.Row_of-SpecWord n)
        → k.context.model ≡ s.program.model → IfFine (row_type k at_tag at all row) (LeadsTo k)
    row_type-leads k at_tag at all words.end_of-SpecWord same = word_type-leads k at_tag at all (whole_word all)
    row_type-leads k at_tag at all (words.more_of-SpecWord words.TheVariants.Static others) same = row_type-leads k at_tag at all others same
    row_type-leads k at_tag at all (words.more_of-SpecWord (words.TheVariants.Plain w) others) same = row_type-leads k at_tag at all others same
    row_type-leads k at_tag at all (words.more_of-SpecWord (words.TheVariants.Struct' name shape row) others) same =
        lift-then (IsOpening k) (LeadsTo k) (λ (o : Opening). lift (struct_read o k.reading name) (members_read o.known row nothing_laid)) _
        (opening-opens (tag_place at at_tag) name k)
        (λ o h. struct_read-leads k o k.reading name _ h (members_read-leads o.known row nothing_laid (h.known.model ∙ same)))
    row_type-leads k at_tag at all (words.more_of-SpecWord (words.TheVariants.Enum name constants comma) others) same =
        enum_body-leads k (tag_place at at_tag) name constants.items same

    members_read-leads : {n : _} (k : Environment) (row : words.Row_of-RawMember n) (before : Laying) → k.context.model ≡ s.program.model
        → IfFine (members_read k row before) (BodyLeads k)
    members_read-leads k words.end_of-RawMember before same = leads-self k
    members_read-leads k (words.more_of-RawMember shape row tag declarators others) before same =
        lift-then (BodyLeads k) (BodyLeads k) (λ (read : Body). members_read read.known others read.laying) _
        (lift-then (LeadsTo k) (BodyLeads k) (group_declared declarators.items before) _
        (row_type-leads k tag (first_name declarators.items) (plain_row row) row same)
        (λ ty h. group_declared-leads k declarators.items before ty h))
        (λ read h.
        if_fine-weaker (BodyLeads read.known) (BodyLeads k) (members_read read.known others read.laying)
        (members_read-leads read.known others read.laying (h.model ∙ same)) (λ b inside. leads-trans k read.known b.known h inside))

  words_type-leads : (k : Environment) (at_tag : Option Place) (at : Place) (all : List TypeWord) (list : List SpecWord) → k.context.model ≡ s.program.model
      → IfFine (words_type k at_tag at all list) (LeadsTo k)
  words_type-leads k at_tag at all [] same = word_type-leads k at_tag at all (whole_word all)
  words_type-leads k at_tag at all (words.TheVariants.Static ∷ others) same = words_type-leads k at_tag at all others same
  words_type-leads k at_tag at all (words.TheVariants.Plain w ∷ others) same = words_type-leads k at_tag at all others same
  words_type-leads k at_tag at all (words.TheVariants.Struct' name shape row ∷ others) same =
      lift-then (IsOpening k) (LeadsTo k) (λ (o : Opening). lift (struct_read o k.reading name) (members_read o.known row nothing_laid)) _
      (opening-opens (tag_place at at_tag) name k)
      (λ o h. struct_read-leads k o k.reading name _ h (members_read-leads o.known row nothing_laid (h.known.model ∙ same)))
  words_type-leads k at_tag at all (words.TheVariants.Enum name constants comma ∷ others) same =
      enum_body-leads k (tag_place at at_tag) name constants.items same

  -- the specifiers before declarators
  pub specs_type-leads : (k : Environment) (at : Place) (raw : RawSpecs) → k.context.model ≡ s.program.model → IfFine (specs_type k at raw) (LeadsTo k)
  specs_type-leads k at raw same = words_type-leads k raw.tag at (plain_words raw.words.items) raw.words.items same

  typedef_added-leads : (base : Shape) (d : RawDeclarator) (k : Environment) → IfFine (typedef_added base d k) (Leads s k)
  typedef_added-leads base d k =
      cond-then (Leads s k) (is_declared_here d.name k) _ _ (λ _. tt)
      (λ _.
      lift-then (λ _. Unit {0}) (Leads s k) (λ ty. Fine (declaring d.name (Typedef ty) k)) _ (if_fine-any (declarator_type k.context base None d))
      (λ ty _. leads-declaring d.name (Typedef ty) k tt))

  -- typedefs
  pub typedefs_added-leads : (base : Shape) (ds : List RawDeclarator) (k : Environment) → IfFine (typedefs_added base ds k) (Leads s k)
  typedefs_added-leads base [] k = leads-self k
  typedefs_added-leads base (d ∷ ds) k =
      lift-then (Leads s k) (Leads s k) (typedefs_added base ds) _ (typedef_added-leads base d k)
      (λ m first.
      if_fine-weaker (Leads s m) (Leads s k) (typedefs_added base ds m) (typedefs_added-leads base ds m) (λ n others. leads-trans k m n first others))

-- if the variables of a list are those of the function, so are those of its beginning
variables-before : (s : Setting) (variables : List Variable) (v : Variable) → AreVariables s (variables ++ v ∷ []) → AreVariables s variables
variables-before s variables v h number w is = h number w (found variables number is)
  where
    found : (vs : List Variable) (i : ℕ) → slice_get vs i ≡ Some w → slice_get (vs ++ v ∷ []) i ≡ Some w
    found [] i is = absurd cc
    found (x ∷ vs) zero is = is
    found (x ∷ vs) (suc i) is = found vs i is

last-variable : (variables : List Variable) (v : Variable) → slice_get (variables ++ v ∷ []) (length variables) ≡ Some v
last-variable [] v = refl
last-variable (x ∷ vs) v = last-variable vs v

-- parameters, if they are the first variables of the function
module _ (s : Setting) where
  record HeadLeads (before : Head) (after : Head) : Type 0 where
    model : after.known.context.model ≡ before.known.context.model
    known : AreVariables s after.variables → Leads s before.known after.known
    variables : AreVariables s after.variables → AreVariables s before.variables

  naming-leads : (name : Option RawName) (number : ℕ) (ty : Shape) (k : Environment) → IsThere s (Local number ty) → Leads s k (naming name number ty k)
  naming-leads None number ty k there = leads-self s k
  naming-leads (Some name) number ty k there = leads-declaring s name.name (Local number ty) k there

  naming-model : (name : Option RawName) (number : ℕ) (ty : Shape) (k : Environment) → (naming name number ty k).context.model ≡ k.context.model
  naming-model None number ty k = refl
  naming-model (Some name) number ty k = refl

  with_parameter-leads : (p : RawParameter) (before : Head) (k : Environment) (found : Passed) → Leads s before.known k
      → IfFine (with_parameter p before k found) (HeadLeads before)
  with_parameter-leads p before k found h = record {
    model = naming-model p.name (length before.variables) found.ty k ∙ h.model;
    known = λ are. let at = are (length before.variables) _ (last-variable before.variables _) in
        leads-trans s before.known k _ h (naming-leads p.name (length before.variables) found.ty k at);
    variables = variables-before s before.variables _;
  }

  parameter_typed-leads : (p : RawParameter) (before : Head) → before.known.context.model ≡ s.program.model
      → IfFine (parameter_typed p before) (HeadLeads before)
  parameter_typed-leads p before same =
      lift-then (LeadsTo s before.known) (HeadLeads before) _ _
      (after_twice-then (LeadsTo s before.known) before.twice _ (specs_type-leads s before.known p.place p.specs same))
      (λ found h.
      lift-then (λ _. Unit {0}) (HeadLeads before) (with_parameter p before found.1) _
      (if_fine-any (after_twice (twice_after p before.twice found.1) (parameter_passed found.1.context p (starred p.pointers.items found.0))))
      (λ passed _. with_parameter-leads p before found.1 passed h))

  no_parameter-leads : (before : Head) → HeadLeads before before
  no_parameter-leads before = record { model = refl; known = λ _. leads-self s before.known; variables = λ h. h }

  parameters_after-leads : (ps : List RawParameter) (before : Head) → before.known.context.model ≡ s.program.model
      → IfFine (parameters_after ps before) (HeadLeads before)
  parameters_after-leads [] before same = no_parameter-leads before
  parameters_after-leads (p ∷ ps) before same =
      lift-then (HeadLeads before) (HeadLeads before) (parameters_after ps) _ (parameter_typed-leads p before same)
      (λ head first. if_fine-weaker (HeadLeads head) (HeadLeads before) (parameters_after ps head) (parameters_after-leads ps head (first.model ∙ same))
      (λ after others. record {
        model = others.model ∙ first.model;
        known = λ are. leads-trans s before.known head.known after.known (first.known (others.variables are)) (others.known are);
        variables = λ are. first.variables (others.variables are);
      }))

  abbrev nothing_before : Environment → Head
  nothing_before k = no_parameter k

  -- the parameters of a function
  pub parameters_typed-leads : (k : Environment) (raw : RawParameters) → k.context.model ≡ s.program.model
      → IfFine (parameters_typed k raw) (λ head. AreVariables s head.variables → Leads s k head.known)
  parameters_typed-leads k parameter_lists.Empty same = λ _. leads-self s k
  parameters_typed-leads k parameter_lists.Void same = λ _. leads-self s k
  parameters_typed-leads k (parameter_lists.List list) same =
      if_fine-weaker (HeadLeads (nothing_before k)) (λ head. AreVariables s head.variables → Leads s k head.known) _
      (parameters_after-leads list.items (nothing_before k) same) (λ head h. h.known)

-- the type of a declared object is complete
pub object_type-whole : (s : Setting) (c : Context) → Agrees s c → (base : Shape) (d : RawInit) → IfFine (object_type c base d) (IsWhole s.program)
unfolding complete_at
object_type-whole s c agrees base d =
    lift-then (λ _. Unit {0}) (IsWhole s.program) (complete_at c.table.list d.declarator.place) _
    (if_fine-any (declarator_type c base (count_given d.initial) d.declarator))
    (λ ty _. cond-then (IsWhole s.program) (is_complete c.table.list ty) _ _ (λ h. complete-IsWhole s c agrees ty h) (λ _. tt))

pub words_lead : WordsLead
words_lead s k m at raw ty same is = if_fine-at (λ (r : Typing). Leads s k r.1) (specs_type k at raw) (ty, m) (specs_type-leads s k at raw same) is

pub typedefs_lead : TypedefsLead
typedefs_lead s k m base names is = if_fine-at (Leads s k) (typedefs_added base names k) m (typedefs_added-leads s base names k) is

pub parameters_lead : ParametersLead
parameters_lead s k raw head same are is =
    if_fine-at (λ (h : Head). AreVariables s h.variables → Leads s k h.known) (parameters_typed k raw) head (parameters_typed-leads s k raw same) is are

pub objects_are_whole : ObjectsAreWhole
objects_are_whole s c base d ty agrees is = if_fine-at (IsWhole s.program) (object_type c base d) ty (object_type-whole s c agrees base d) is
