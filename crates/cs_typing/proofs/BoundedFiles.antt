-- Typed files have positions of the written ones, and few nodes: for the contract of `typed`.
use Rattle.std.proofs.Common.{◌≡◌, ℕ, ◌+◌, ◌*◌, ◌≤◌, ◌<◌, ◌^◌, ℤ, Bool, true, false, cond, List, [], ◌∷◌, ◌++◌}
use Rattle.std.proofs.Common.{length, map, refl, arith}
use Rattle.std.specs.Prelude.{Some, None, nat_eq, ◌||◌, option_to_list}
use Rattle.std.specs.List.{All, AllByRecursion, list_any}
use Rattle.std.specs.Ordering.{int_eq}
use Rattle.std.specs.Cmp.Lexicographic.{pointwise}
use Rattle.std.proofs.lemmas.List.{length_push, length-append}
use Rattle.std.proofs.lemmas.List.Elements.{recursion_from_All, All-nil, All-map}
use Rattle.indexmap.specs.IndexSet.{insert_key, insert_all}
use Rattle.cs_types.specs.declared.data_model.DataModel.{DataModel}
use Rattle.cs_types.specs.Shape.{Shape}
use Rattle.cs_ast.specs.declared.place.Place.{Place}
use Rattle.cs_ast.specs.declared.token.Token.{Token}
use Rattle.cs_ast.specs.declared.token.TokenKind.{TokenKind}
use Rattle.cs_ast.specs.declared.token.TokenKind.TheVariants as token
use Rattle.cs_ast.specs.declared.token.Punctuator.TheVariants as punctuator
use Rattle.cs_ast.specs.declared.raw.declaration.RawSpecs.{RawSpecs}
use Rattle.cs_ast.specs.declared.raw.external.RawExternal.{RawExternal}
use Rattle.cs_ast.specs.declared.raw.external.RawExternalKind.{RawExternalKind}
use Rattle.cs_ast.specs.declared.raw.external.RawExternalKind.TheVariants as external_kind
use Rattle.cs_ast.specs.RawDeclarationView.{declared, declarator, specs, head}
use Rattle.cs_ast.specs.RawStatementView.{items_list, external_of, external}
use Rattle.cs_ast.specs.TypedProgram.{TypedProgram}
use Rattle.cs_grammar.specs.Text.{Kinds}
use Rattle.cs_grammar.specs.FileText.{punctuator_text, with_commas, declarator_text, declared_text, specs_text, head_text, items_text, external_text}
use Rattle.cs_grammar.specs.FileText.{externals_text, file_text}
use Rattle.cs_grammar.proofs.FileTexts.{declared_append, items_append, head_append}
use Rattle.cs_scopes.specs.Verdicts.{Verdict, Fine}
use Rattle.cs_declarations.specs.Bodies.{Typing, specs_type, typedefs_added}
use Rattle.cs_file_scope.specs.Objects.{Filed, with_known, objects_added}
use Rattle.cs_file_scope.specs.Order.{is_of_library, is_defined, placed, all_placed, order_of}
use Rattle.cs_file_scope.specs.Beginning.{blank, beginning, begun}
use Rattle.cs_file_scope.specs.Tags.{tags_declared}
use Rattle.cs_typing.specs.Files.{specs_of, external_declared, external_read, external_typed, file_typed, typed_file}
use Rattle.cs_typing.specs.Programs.{number_before, numbers_in, constants_in, program_of, typed}
use Rattle.cs_well_formed.specs.Files.{IsFileTree}
use Rattle.cs_well_formed.specs.Nodes.{all_nodes, routine_nodes, program_nodes}
use Rattle.cs_well_formed.specs.Places.{IsOfFiles, ObjectStandsAmong, RoutineStandsAmong, ProgramStandsAmong}
use Rattle.cs_well_formed.specs.Sizes.{text_size, size_of}
use Rattle.cs_well_formed.specs.WrittenPlaces.{DeclaredAmong, ExternalKindAmong, ExternalAmong}
use Rattle.cs_well_formed.proofs.TextSizes.{size-following, size-specs, size-with_commas, all_nodes-cons}
use Rattle.cs_well_formed.proofs.Verdicts.{IfFine, if_fine-at, if_fine-weaker, lift-then}
use Rattle.cs_statements.proofs.BoundedParts.{IsTyping, words-bounded, AreTypedefs, typedefs-bounded, grows-by}
use Rattle.cs_statements.proofs.BoundedTexts.{declarators_size}
use Rattle.cs_typing.proofs.DeclaredTags.{tags-few}
use Rattle.cs_typing.proofs.BoundedObjects.{FiledFits, fits-less, fits-known, objects_added-fits}
use Rattle.cs_typing.proofs.BoundedFunctions.{function_added-fits}

-- ---- names and numbers, each once

module _ {T : Type 0} (eq : T → T → Bool) where
  key-added : (ks : List T) (k : T) → length (insert_key eq ks k) ≤ length ks + 1
  key-added ks k = by_test (list_any (eq k) ks)
    where
      by_test : (there : Bool) → length (cond there ks (ks ++ k ∷ [])) ≤ length ks + 1
      by_test true = omega arith
      by_test false = let e = length_push ks k in omega (arith, e)

  keys-added : (ks xs : List T) → length (insert_all eq ks xs) ≤ length ks + length xs
  keys-added ks [] = omega arith
  keys-added ks (x ∷ xs) = let one = key-added ks x in let more = keys-added (insert_key eq ks x) xs in omega (arith, one, more)

one-number : (kind : TokenKind) (following : List ℤ) → length (number_before kind following) ≤ length following + 1
one-number (token.Number constant) following = omega arith
one-number other following = omega arith

few-numbers : (tokens : List Token) → length (numbers_in tokens) ≤ length tokens
few-numbers [] = omega arith
few-numbers (t ∷ ts) = let one = one-number t.kind (numbers_in ts) in let more = few-numbers ts in omega (arith, one, more)

-- there are at most as many constants as tokens
few-constants : (tokens : List Token) → length (constants_in tokens) ≤ length tokens
few-constants tokens = let all = few-numbers tokens in let each = keys-added int_eq [] (numbers_in tokens) in omega (arith, all, each)

placed-once : (defined : List ℕ → Bool) (kind : RawExternalKind) → length (option_to_list (placed defined kind)) ≤ 1
placed-once defined (external_kind.Type s) = omega arith
placed-once defined (external_kind.Typedef s names) = omega arith
placed-once defined (external_kind.Objects s objects) = omega arith
placed-once defined (external_kind.Definition s d body) = omega arith
placed-once defined (external_kind.Function s d) = by_test (is_of_library d.name || defined d.name)
  where
    by_test : (no : Bool) → length (option_to_list (cond no None (Some d.name))) ≤ 1
    by_test true = omega arith
    by_test false = omega arith

-- an external declaration has at least one token
some-token : (kind : RawExternalKind) (rest : Kinds) → 1 + text_size rest ≤ text_size (external_text (external_of kind) rest)
some-token (external_kind.Type s) rest = let e = size-specs (specs s) (punctuator_text punctuator.Semicolon rest) in omega (arith, e)
some-token (external_kind.Typedef s names) rest =
    let following = punctuator_text punctuator.Semicolon rest in
    let e = size-specs (specs s) (with_commas declarator_text (map declarator names.items) following) in
    let d = declarators_size (map declarator names.items) following in
    omega (arith, e, d)
some-token (external_kind.Objects s objects) rest =
    let following = punctuator_text punctuator.Semicolon rest in
    let e = size-specs (specs s) (with_commas declared_text (map declared objects.items) following) in
    let d = size-with_commas declared_text declared_append (map declared objects.items) following in
    omega (arith, e, d)
some-token (external_kind.Function s d) rest =
    let following = punctuator_text punctuator.Semicolon rest in
    let e = size-specs (specs s) (head_text (head d) following) in
    let h = size-following (head_text (head d)) (head_append (head d)) following in
    omega (arith, e, h)
some-token (external_kind.Definition s d body) rest =
    let close = punctuator_text punctuator.CloseBrace rest in
    let following = punctuator_text punctuator.OpenBrace (items_text (items_list body.items.items) close) in
    let e = size-specs (specs s) (head_text (head d) following) in
    let h = size-following (head_text (head d)) (head_append (head d)) following in
    let i = size-following (items_text (items_list body.items.items)) (items_append (items_list body.items.items)) close in
    omega (arith, e, h, i)

few-placed : (defined : List ℕ → Bool) (file : List RawExternal) (rest : Kinds)
    → length (all_placed defined file) + text_size rest ≤ text_size (externals_text (map external file) rest)
few-placed defined [] rest = omega arith
few-placed defined (e ∷ es) rest =
    let one = placed-once defined e.kind in
    let parts = length-append (option_to_list (placed defined e.kind)) (all_placed defined es) in
    let some = some-token e.kind (externals_text (map external es) rest) in
    let more = few-placed defined es rest in
    omega (arith, one, parts, some, more)

-- there are at most as many functions as the file's text allows
few-functions : (file : List RawExternal) → length (order_of file) ≤ text_size (file_text (map external file))
few-functions file =
    let defined : List ℕ → Bool = λ name. is_defined name file in
    let all = few-placed defined file [] in
    let each = keys-added (pointwise nat_eq) [] (all_placed defined file) in
    omega (arith, all, each)

blank-nodes : (order : List (List ℕ)) → all_nodes routine_nodes (map blank order) ≡ length order
blank-nodes [] = omega arith
blank-nodes (name ∷ order) = let e = all_nodes-cons routine_nodes (blank name) (map blank order) in let more = blank-nodes order in omega (arith, e, more)

-- ---- files

module _ (Is : Place → Type 0) (room : ℕ) where
  abbrev After : Kinds → Filed → Type 0
  After rest = FiledFits Is room (24 * text_size rest)

  -- after the specifiers before declarators
  words-fit : (f : Filed) (s : RawSpecs) (ty : Typing) (following : Kinds) → IsTyping f.known s ty → After (specs_text (specs s) following) f
      → After following (with_known ty.1 f)
  words-fit f s ty following g h =
      let long = size-specs (specs s) following in
      let grown = grows-by f.known ty.1 (size_of (specs_text (specs s))) g in
      fits-known Is room f ty.1 _ _ (omega (arith, long, grown)) h

  -- the tokens after the specifiers of an external declaration
  abbrev after_words : RawExternalKind → Kinds → Kinds
  after_words (external_kind.Type s) rest = punctuator_text punctuator.Semicolon rest
  after_words (external_kind.Typedef s names) rest = with_commas declarator_text (map declarator names.items) (punctuator_text punctuator.Semicolon rest)
  after_words (external_kind.Objects s objects) rest = with_commas declared_text (map declared objects.items) (punctuator_text punctuator.Semicolon rest)
  after_words (external_kind.Function s d) rest = head_text (head d) (punctuator_text punctuator.Semicolon rest)
  after_words (external_kind.Definition s d body) rest =
      head_text (head d) (punctuator_text punctuator.OpenBrace (items_text (items_list body.items.items) (punctuator_text punctuator.CloseBrace rest)))

  -- after a semicolon
  passed-semicolon : (v : Verdict Filed) (rest : Kinds) → IfFine v (After (punctuator_text punctuator.Semicolon rest)) → IfFine v (After rest)
  passed-semicolon v rest h = if_fine-weaker (After (punctuator_text punctuator.Semicolon rest)) (After rest) v h
      (λ g k. fits-less Is room g _ _ (omega arith) k)

  declared-fits : (kind : RawExternalKind) (f : Filed) (base : Shape) (rest : Kinds) → ExternalKindAmong Is kind → After (after_words kind rest) f
      → IfFine (external_declared kind f base) (After rest)
  declared-fits (external_kind.Type s) f base rest among h = fits-less Is room f _ _ (omega arith) h
  declared-fits (external_kind.Typedef s names) f base rest among h =
      let long = declarators_size (map declarator names.items) (punctuator_text punctuator.Semicolon rest) in
      lift-then (AreTypedefs f.known) (After rest) _ (typedefs_added base names.items f.known) (typedefs-bounded f.known base names.items)
      (λ k g. let grown = grows-by f.known k 0 g in fits-known Is room f k _ _ (omega (arith, long, grown)) h)
  declared-fits (external_kind.Objects s objects) f base rest among h =
      passed-semicolon (objects_added s base objects.items f) rest
      (objects_added-fits Is room s base objects.items f (punctuator_text punctuator.Semicolon rest) (recursion_from_All (DeclaredAmong Is) objects.items among)
      h)
  declared-fits (external_kind.Function s d) f base rest among h =
      function_added-fits Is room d None f base rest among tt (punctuator_text punctuator.Semicolon rest) refl h
  declared-fits (external_kind.Definition s d body) f base rest among h =
      function_added-fits Is room d (Some body) f base rest among.0 among.1
      (punctuator_text punctuator.OpenBrace (items_text (items_list body.items.items) (punctuator_text punctuator.CloseBrace rest))) refl h

  -- the specifiers of an external declaration are in its text
  words-first : (kind : RawExternalKind) (rest : Kinds)
      → text_size (specs_text (specs (specs_of kind)) (after_words kind rest)) ≤ text_size (external_text (external_of kind) rest)
  words-first (external_kind.Type s) rest = omega arith
  words-first (external_kind.Typedef s names) rest = omega arith
  words-first (external_kind.Objects s objects) rest = omega arith
  words-first (external_kind.Function s d) rest = omega arith
  words-first (external_kind.Definition s d body) rest = omega arith

  external-fits : (at : Place) (kind : RawExternalKind) (f : Filed) (rest : Kinds) → ExternalKindAmong Is kind
      → After (external_text (external_of kind) rest) f → IfFine (external_typed at kind f) (After rest)
  external-fits at kind f rest among h =
      lift-then (IsTyping f.known (specs_of kind)) (After rest) (external_read kind f) (specs_type f.known at (specs_of kind))
      (words-bounded f.known at (specs_of kind))
      (λ ty g.
      let first = words-first kind rest in
      declared-fits kind (with_known ty.1 f) ty.0 rest among
      (words-fit f (specs_of kind) ty (after_words kind rest) g (fits-less Is room f _ _ (omega (arith, first)) h)))

  file-fits : (file : List RawExternal) (f : Filed) → AllByRecursion (ExternalAmong Is) file → After (externals_text (map external file) []) f
      → IfFine (file_typed file f) (After [])
  file-fits [] f among h = h
  file-fits (e ∷ es) f among h =
      let following = externals_text (map external es) [] in
      lift-then (After following) (After []) (file_typed es) (external_typed e.place e.kind f) (external-fits e.place e.kind f following among.0 h)
      (λ g k. file-fits es g among.1 k)

-- the position of functions that aren't declared
abbrev blank_place : Place
blank_place = record { file = 0; line = 1; column = 1 }

module _ (Is : Place → Type 0) (blank_is : Is blank_place) where
  pub typed_file-fits : (model : DataModel) (tokens : List Token) (file : List RawExternal) → All (ExternalAmong Is) file
      → IfFine (typed_file model tokens file) (FiledFits Is (25 * text_size (file_text (map external file)) + length tokens) 0)
  typed_file-fits model tokens file among =
      file-fits Is _ file (begun model tokens file) (recursion_from_All (ExternalAmong Is) file among)
      (fits-known Is room blanks (tags_declared tokens blanks.known) _ _ (let few = tags-few tokens blanks.known in omega (arith, few)) before)
    where
      size : ℕ
      size = text_size (file_text (map external file))

      room : ℕ
      room = 25 * size + length tokens

      blanks : Filed
      blanks = beginning model (order_of file)

      before : FiledFits Is room (24 * size + length tokens) blanks
      before = record {
        globals = All-nil (ObjectStandsAmong Is);
        routines = All-map (RoutineStandsAmong Is) blank (order_of file) (λ i name within. record { at = blank_is; closes = blank_is; body = tt });
        nodes = (let e = blank-nodes (order_of file) in let few = few-functions file in omega (arith, e, few));
      }

-- a program whose positions are in its files, with a bounded number of nodes
abbrev IsBoundedProgram : TypedProgram → Type 0
IsBoundedProgram p = ProgramStandsAmong (IsOfFiles (length p.files)) p × (program_nodes p < 2 ^ 28)

typed-bounded : (model : DataModel) (files : List (List ℕ)) (tokens : List Token) (file : List RawExternal) → IsFileTree files tokens file
    → IfFine (typed model files tokens file) IsBoundedProgram
typed-bounded model files tokens file tree =
    let Is : Place → Type 0 = IsOfFiles (length files) in
    lift-then (FiledFits Is (25 * text_size (file_text (map external file)) + length tokens) 0) IsBoundedProgram
    (λ (f : Filed). Fine (program_of model files tokens f)) (typed_file model tokens file)
    (typed_file-fits Is tree.some_file model tokens file tree.placed)
    (λ f h. (
      record { globals = h.globals; routines = h.routines },
      omega (arith, h.nodes, few-constants tokens, tree.short, tree.few_tokens, tree.few_files),
    ))

pub typed_is_bounded : (model : DataModel) (files : List (List ℕ)) (tokens : List Token) (file : List RawExternal) (p : TypedProgram)
    → IsFileTree files tokens file → typed model files tokens file ≡ Fine p
    → ProgramStandsAmong (IsOfFiles (length p.files)) p × (program_nodes p < 2 ^ 28)
typed_is_bounded model files tokens file p tree reported =
    if_fine-at IsBoundedProgram (typed model files tokens file) p (typed-bounded model files tokens file tree) reported
