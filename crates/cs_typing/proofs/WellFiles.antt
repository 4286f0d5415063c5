-- A typed program is well formed, if its tree is one of a file's text: for the contract of `typed`.
use Rattle.std.proofs.Common.{◌≡◌, ℕ, ◌<◌, ◌^◌, List, [], ◌∷◌, length, inl, refl, sym, ap, subst, arith}
use Rattle.std.specs.Prelude.{Some, None, IfSome}
use Rattle.std.proofs.lemmas.List.{append-nil, length-map}
use Rattle.std.proofs.lemmas.List.Elements.{All-nil, All-map, All-from_recursion}
use Rattle.cs_types.specs.declared.data_model.DataModel.{DataModel}
use Rattle.cs_types.specs.declared.structs.StructType.{StructType}
use Rattle.cs_types.specs.Layout.{IsLaidOut}
use Rattle.cs_types.specs.Shape.{Shape}
use Rattle.cs_ast.specs.declared.place.Place.{Place}
use Rattle.cs_ast.specs.declared.token.Token.{Token}
use Rattle.cs_ast.specs.declared.raw.external.RawExternal.{RawExternal}
use Rattle.cs_ast.specs.declared.raw.external.RawExternalKind.{RawExternalKind}
use Rattle.cs_ast.specs.declared.raw.external.RawExternalKind.TheVariants as external_kind
use Rattle.cs_ast.specs.TypedProgram.{TypedProgram, Variable, FileObject}
use Rattle.cs_scopes.specs.declared.scope.Tag.{Tag}
use Rattle.cs_scopes.specs.Meanings.{Declaration}
use Rattle.cs_scopes.specs.Verdicts.{Fine, lift}
use Rattle.cs_declarations.specs.Bodies.{Typing, specs_type, typedefs_added}
use Rattle.cs_declarations.specs.Environment.{Environment, table_of}
use Rattle.cs_declarations.specs.LaidOut.{IsOfTable}
use Rattle.cs_declarations.proofs.FineVerdicts.{IfFine-at}
use Rattle.cs_file_scope.specs.Objects.{Filed, with_known}
use Rattle.cs_file_scope.specs.Order.{order_of}
use Rattle.cs_file_scope.specs.Beginning.{allocators, blank, beginning, begun}
use Rattle.cs_typing.specs.Files.{specs_of, external_declared, external_read, external_typed, file_typed, typed_file}
use Rattle.cs_typing.specs.Programs.{program_of, typed}
use Rattle.cs_well_formed.specs.Structs.{NamesStructs, MembersName, HasNamedTypes, TypesAreNamed}
use Rattle.cs_well_formed.specs.Expressions.{IsScalar, IsWhole}
use Rattle.cs_well_formed.specs.Programs.{outside, IsWellGlobal, IsWellRoutine, IsWellFormed}
use Rattle.cs_well_formed.specs.Agreement.{IsNamed, IsThere}
use Rattle.cs_well_formed.specs.Leading.{Leads}
use Rattle.cs_well_formed.specs.Nodes.{program_nodes}
use Rattle.cs_well_formed.specs.Places.{IsOfFiles, ProgramStandsAmong}
use Rattle.cs_well_formed.specs.Files.{IsFileTree}
use Rattle.cs_well_formed.proofs.Verdicts.{IfFine, if_fine-at, if_fine-weaker, lift-then}
use Rattle.cs_well_formed.proofs.Leading.{specs_type-leads, typedefs_added-leads}
use Rattle.cs_well_formed.proofs.NamedTypes.{NamedOn, TypeNamed, specs_type-named, typedefs_added-named}
use Rattle.cs_well_formed.proofs.Naming.{program-named}
use Rattle.cs_well_formed.proofs.Structs.{keeps-self}
use Rattle.cs_statements.proofs.DeclarationsAfter.{starts-self, DeclaresOn, TypeDeclaresOn, specs_type-on, typedefs_added-on}
use Rattle.cs_statements.proofs.HeldConstants.{ExternalHasConstants, FileHasConstants, file_text-held}
use Rattle.cs_statements.proofs.WellStatements.{both-fine}
use Rattle.cs_typing.proofs.BoundedFiles.{typed_is_bounded}
use Rattle.cs_typing.proofs.DeclaredTags.{tags-add}
use Rattle.cs_typing.proofs.FilesSoFar.{HasNumber, IsCounted, with_parts, Kept, Has, IsWellSoFar, Adds, adds-self, adds-trans, leads-following, known-adds}
use Rattle.cs_typing.proofs.OrderedNames.{ExternalIsPlaced, FileIsPlaced, order_of-placed}
use Rattle.cs_typing.proofs.SoundFiles.{FiledIsSound, typed_file-sound}
use Rattle.cs_typing.proofs.WellObjects.{objects_added-adds}
use Rattle.cs_typing.proofs.WellFunctions.{itself, function_added-adds}

module _ (p : TypedProgram) (laid : IsLaidOut p.model p.table) where
  external_declared-adds : (k : RawExternalKind) (f : Filed) (base : Shape) → NamesStructs (table_of f.known) base → Kept p f → ExternalIsPlaced f.order k
      → ExternalHasConstants k → IfFine (external_declared k f base) (Adds p f)
  external_declared-adds (external_kind.Type s) f base named kept placed fit = adds-self p f kept
  external_declared-adds (external_kind.Typedef s names) f base named kept placed fit =
      let v = typedefs_added base names.items f.known in
      lift-then (λ (k : Environment). Leads (outside (with_parts p f)) f.known k × (DeclaresOn f.known k × NamedOn f.known k)) (Adds p f)
      (λ k. Fine (with_known k f)) v
      (both-fine (Leads (outside (with_parts p f)) f.known) (λ (k : Environment). DeclaresOn f.known k × NamedOn f.known k) v
      (typedefs_added-leads (outside (with_parts p f)) base names.items f.known)
      (both-fine (DeclaresOn f.known) (NamedOn f.known) v (typedefs_added-on base names.items f.known)
      (typedefs_added-named base names.items f.known named kept.types.known)))
      (λ k h. known-adds p f k kept (leads-following p f k h.0 h.1.0 h.1.1.known))
  external_declared-adds (external_kind.Objects s objects) f base named kept placed fit = objects_added-adds p laid s base objects.items f named kept fit
  external_declared-adds (external_kind.Function s d) f base named kept placed fit = function_added-adds p laid d None f base named kept placed tt
  external_declared-adds (external_kind.Definition s d body) f base named kept placed fit =
      function_added-adds p laid d (Some body) f base named kept placed fit

  external_typed-adds : (at : Place) (k : RawExternalKind) (f : Filed) → Kept p f → ExternalIsPlaced f.order k → ExternalHasConstants k
      → IfFine (external_typed at k f) (Adds p f)
  external_typed-adds at k f kept placed fit =
      let v = specs_type f.known at (specs_of k) in
      lift-then (λ (r : Typing). Leads (outside (with_parts p f)) f.known r.1 × (TypeDeclaresOn f.known r × TypeNamed f.known r)) (Adds p f)
      (external_read k f) v
      (both-fine (λ (r : Typing). Leads (outside (with_parts p f)) f.known r.1) (λ (r : Typing). TypeDeclaresOn f.known r × TypeNamed f.known r) v
      (specs_type-leads (outside (with_parts p f)) f.known at (specs_of k) kept.model)
      (both-fine (TypeDeclaresOn f.known) (TypeNamed f.known) v (specs_type-on f.known at (specs_of k))
      (specs_type-named f.known at (specs_of k) kept.types.known)))
      (λ r h.
      let words = known-adds p f r.1 kept (leads-following p f r.1 h.0 h.1.0 h.1.1.0.known) in
      if_fine-weaker (Adds p (with_known r.1 f)) (Adds p f) (external_declared k (with_known r.1 f) r.0)
      (external_declared-adds k (with_known r.1 f) r.0 h.1.1.1 words.kept placed fit)
      (λ g more. adds-trans p f (with_known r.1 f) g words more))

  file_typed-adds : (file : List RawExternal) (f : Filed) → Kept p f → FileIsPlaced f.order file → FileHasConstants file
      → IfFine (file_typed file f) (Adds p f)
  file_typed-adds [] f kept placed fit = adds-self p f kept
  file_typed-adds (e ∷ es) f kept placed fit =
      lift-then (Adds p f) (Adds p f) (file_typed es) _ (external_typed-adds e.place e.kind f kept placed.0 fit.0)
      (λ g h.
      if_fine-weaker (Adds p g) (Adds p f) (file_typed es g)
      (file_typed-adds es g h.kept (subst (λ order. FileIsPlaced order es) (sym h.order) placed.1) fit.1)
      (λ k more. adds-trans p f g k h more))

  -- a function that isn't declared yet has no types of structs
  blank-named : (table : List StructType) (name : List ℕ) → HasNamedTypes table (blank name)
  blank-named table name = record { returns = tt; variables = All-nil (λ (v : Variable). NamesStructs table v.ty) }

  -- before a file the functions of the library are known, and its own are blank
  beginning-kept : (order : List (List ℕ)) → Kept p (beginning p.model order)
  beginning-kept order = record {
    model = refl;
    outer = refl;
    library = starts-self (allocators p.model);
    order = length-map order blank;
    declared = All-from_recursion (λ (d : Declaration). IsThere (outside (with_parts p (beginning p.model order))) d.meaning) (allocators p.model)
        ((refl, refl), ((refl, refl), ((refl, refl), tt)));
    numbered = All-from_recursion (λ (d : Declaration). HasNumber order d.name d.meaning) (allocators p.model) (tt, (tt, (tt, tt)));
    counted = All-map IsCounted blank order (λ i name within. omega arith);
    types = record {
      known = record {
        declarations = All-from_recursion (λ (d : Declaration). IsNamed [] d.meaning) (allocators p.model) (tt, (tt, (tt, tt)));
        tags = All-nil (λ (t : Tag). IsOfTable [] t.meaning);
        members = All-nil (λ (s : StructType). IfSome s.members (MembersName []));
      };
      globals = All-nil (λ (g : FileObject). NamesStructs [] g.ty);
      routines = All-map (HasNamedTypes []) blank order (λ i name within. blank-named [] _);
    };
  }

  blank-well : (name : List ℕ) → IsWellRoutine p (blank name)
  blank-well name = record {
    returns = inl refl;
    parameters = omega arith;
    passed = All-nil IsScalar;
    variables = All-nil (λ (v : Variable). IsWhole p v.ty);
    written = refl;
    named = blank-named p.table name;
    body = tt;
  }

  beginning-well : (order : List (List ℕ)) → IsWellSoFar p (beginning p.model order)
  beginning-well order = record {
    globals = All-nil (IsWellGlobal p);
    routines = All-map (IsWellRoutine p) blank order (λ i name within. blank-well _);
  }

-- the program of a typed file is well formed
file-well : (model : DataModel) (files : List (List ℕ)) (tokens : List Token) (file : List RawExternal) (f : Filed)
    → typed_file model tokens file ≡ Fine f
    → IsFileTree files tokens file → IsWellFormed (program_of model files tokens f)
unfolding lift
file-well model files tokens file f is tree = record {
  laid_out = laid;
  globals = all.globals;
  routines = all.routines;
  structs = program-named p types all.globals all.routines;
  placed = bounds.0;
  few = bounds.1;
}
  where
    p : TypedProgram
    p = program_of model files tokens f

    fit : FileHasConstants file
    fit = file_text-held file tree.held

    bounds : ProgramStandsAmong (IsOfFiles (length files)) p × (program_nodes p < 2 ^ 28)
    bounds = typed_is_bounded model files tokens file p tree (ap (lift (λ (f : Filed). Fine (program_of model files tokens f))) is)

    laid : IsLaidOut model (table_of f.known)
    laid =
        let sound = IfFine-at (typed_file model tokens file) (FiledIsSound model) f is (typed_file-sound model tokens file) in
        subst (λ (m : DataModel). IsLaidOut m (table_of f.known)) sound.1 sound.0.laid_out

    blanks : Filed
    blanks = beginning model (order_of file)

    tags : Adds p blanks (begun model tokens file)
    tags = tags-add p blanks tokens (beginning-kept p laid (order_of file))

    adds : Adds p blanks f
    adds = adds-trans p blanks (begun model tokens file) f tags
        (if_fine-at (Adds p (begun model tokens file)) (typed_file model tokens file) f
        (file_typed-adds p laid file (begun model tokens file) tags.kept (order_of-placed file) fit) is)

    types : TypesAreNamed p
    types = record { members = adds.kept.types.known.members; globals = adds.kept.types.globals; routines = adds.kept.types.routines }

    has : Has p f
    has = record { table = keeps-self p.table; types = types; texts = ([], sym (append-nil f.known.literals)); there = adds.kept.declared }

    all : IsWellSoFar p f
    all = adds.well has (beginning-well p laid (order_of file))

pub typed-well : (model : DataModel) (files : List (List ℕ)) (tokens : List Token) (file : List RawExternal) → IsFileTree files tokens file
    → IfFine (typed model files tokens file) IsWellFormed
typed-well model files tokens file tree =
    lift-then (λ f. typed_file model tokens file ≡ Fine f) IsWellFormed (λ (f : Filed). Fine (program_of model files tokens f))
    (typed_file model tokens file) (itself (typed_file model tokens file))
    (λ f is. file-well model files tokens file f is tree)

pub well_formed : (model : DataModel) (files : List (List ℕ)) (tokens : List Token) (file : List RawExternal) (p : TypedProgram)
    → typed model files tokens file ≡ Fine p → IsFileTree files tokens file → IsWellFormed p
well_formed model files tokens file p reported tree =
    if_fine-at IsWellFormed (typed model files tokens file) p (typed-well model files tokens file tree) reported
