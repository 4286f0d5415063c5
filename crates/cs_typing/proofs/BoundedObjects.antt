-- File-scope objects have positions of the written ones, and no more nodes than their text allows: for the contract of `typed`.
use Rattle.std.proofs.Common.{◌≡◌, ℕ, zero, suc, ◌+◌, ◌*◌, ◌≤◌, false, List, [], ◌∷◌, ◌++◌, map, arith}
use Rattle.std.specs.Prelude.{Option, Some, None, IfSome, is_some}
use Rattle.std.specs.Option.{option_map}
use Rattle.std.specs.List.{All, AllByRecursion}
use Rattle.std.proofs.lemmas.List.Elements.{All-push}
use Rattle.cs_types.specs.Shape.{Shape, same_shape}
use Rattle.cs_ast.specs.declared.place.Place.{Place}
use Rattle.cs_ast.specs.declared.raw.declaration.RawSpecs.{RawSpecs}
use Rattle.cs_ast.specs.declared.raw.declaration.RawDeclarator.{RawDeclarator}
use Rattle.cs_ast.specs.declared.raw.declaration.RawFirstValue.{RawFirstValue}
use Rattle.cs_ast.specs.declared.raw.declaration.RawInit.{RawInit}
use Rattle.cs_ast.specs.RawDeclarationView.{initial, declared, declarator}
use Rattle.cs_ast.specs.TypedProgram.{FileObject}
use Rattle.cs_grammar.specs.Text.{Kinds}
use Rattle.cs_grammar.specs.FileText.{each_after_comma, with_commas, first_value_text, declared_text}
use Rattle.cs_scopes.specs.declared.refusal.TypeCode.TheVariants.{DeclaredTwice}
use Rattle.cs_scopes.specs.Meanings.{Meaning, Typedef, Constant, Global, Local, Function}
use Rattle.cs_scopes.specs.Verdicts.{Fine, Fault}
use Rattle.cs_declarations.specs.Initializers.{InFile}
use Rattle.cs_declarations.specs.Environment.{Environment, meaning_here}
use Rattle.cs_declarations.specs.Objects.{object_type}
use Rattle.cs_scopes.specs.Constness.{is_constant_object}
use Rattle.cs_file_scope.specs.Objects.{Filed, Object, with_known, is_completed, may_be_object, new_object, object_of, changed, made_constant, holding}
use Rattle.cs_file_scope.specs.Objects.{with_initial, object_initialized, marked, object_added, objects_added}
use Rattle.cs_well_formed.specs.Nodes.{initial_nodes, all_nodes, object_nodes, routine_nodes}
use Rattle.cs_well_formed.specs.Places.{ObjectStandsAmong, RoutineStandsAmong}
use Rattle.cs_well_formed.specs.Sizes.{text_size}
use Rattle.cs_well_formed.specs.WrittenPlaces.{FirstValueAmong, DeclaredAmong}
use Rattle.cs_well_formed.proofs.TextSizes.{size-initial, all_nodes-append, all_nodes-cons}
use Rattle.cs_well_formed.proofs.Verdicts.{IfFine, if_fine-any, lift-then, cond-then}
use Rattle.cs_statements.proofs.BoundedParts.{nodes_known, IsFirst, first-bounded}
use Rattle.cs_statements.proofs.BoundedTexts.{declarator_size}
use Rattle.cs_typing.proofs.FilesSoFar.{changed-All}

-- the nodes of a list with one more element, and of one with a changed element
module _ {A : Type 0} (count : A → ℕ) where
  push-nodes : (xs : List A) (x : A) → all_nodes count (xs ++ x ∷ []) ≡ all_nodes count xs + count x
  push-nodes xs x = let e = all_nodes-append count xs (x ∷ []) in omega (arith, e)

  pub changed-nodes : (change : A → A) (more : ℕ) → ((x : A) → count (change x) ≤ count x + more)
      → (number : ℕ) (xs : List A) → all_nodes count (changed number change xs) ≤ all_nodes count xs + more
  changed-nodes change more each number [] = omega arith
  changed-nodes change more each zero (x ∷ xs) = omega (arith, each x, all_nodes-cons count x xs, all_nodes-cons count (change x) xs)
  changed-nodes change more each (suc number) (x ∷ xs) =
      omega (arith, changed-nodes change more each number xs, all_nodes-cons count x xs, all_nodes-cons count x (changed number change xs))

-- the nodes of a file so far: those of what is known, of its objects and of its functions
abbrev pub filed_nodes : Filed → ℕ
filed_nodes f = nodes_known f.known + all_nodes object_nodes f.globals + all_nodes routine_nodes f.routines

-- a file so far, within a bound that leaves room for so many more nodes
pub record FiledFits (Is : Place → Type 0) (room more : ℕ) (f : Filed) : Type 0 where
  pub globals : All (ObjectStandsAmong Is) f.globals
  pub routines : All (RoutineStandsAmong Is) f.routines
  pub nodes : filed_nodes f + more ≤ room

module _ (Is : Place → Type 0) (room : ℕ) where
  pub fits-less : (f : Filed) (more less : ℕ) → less ≤ more → FiledFits Is room more f → FiledFits Is room less f
  fits-less f more less le h = record { globals = h.globals; routines = h.routines; nodes = (let k = h.nodes in omega (arith, le, k)) }

  -- after a part that makes more known
  pub fits-known : (f : Filed) (k : Environment) (more less : ℕ) → nodes_known k + less ≤ nodes_known f.known + more → FiledFits Is room more f
      → FiledFits Is room less (with_known k f)
  fits-known f k more less le h = record { globals = h.globals; routines = h.routines; nodes = (let n = h.nodes in omega (arith, le, n)) }

module _ (Is : Place → Type 0) (room : ℕ) where
  abbrev ObjectFits : ℕ → Object → Type 0
  ObjectFits more o = FiledFits Is room more o.filed

  new_object-fits : (f : Filed) (d : RawDeclarator) (ty : Shape) (more : ℕ) → Is d.place → FiledFits Is room (more + 1) f
      → ObjectFits more (new_object f d ty)
  new_object-fits f d ty more here h =
      let object : FileObject = record { name = d.name; at = d.place; ty = ty; constant = false; initial = None } in
      record {
        globals = All-push (ObjectStandsAmong Is) f.globals object h.globals (record { at = here; initial = tt });
        routines = h.routines;
        nodes = (let e = push-nodes object_nodes f.globals object in let n = h.nodes in omega (arith, e, n));
      }

  object_of-fits : (f : Filed) (d : RawDeclarator) (before : Option Meaning) (ty : Shape) (more : ℕ) → Is d.place → FiledFits Is room (more + 1) f
      → IfFine (object_of f d before ty) (ObjectFits more)
  object_of-fits f d (Some (Global number ty')) ty more here h =
      cond-then (ObjectFits more) (same_shape ty' ty) (Fine (record { number = number; filed = f })) (Fault DeclaredTwice d.place)
      (λ _. fits-less Is room f (more + 1) more (omega arith) h) (λ _. tt)
  object_of-fits f d None ty more here h = new_object-fits f d ty more here h
  object_of-fits f d (Some (Typedef t)) ty more here h = new_object-fits f d ty more here h
  object_of-fits f d (Some (Constant value)) ty more here h = new_object-fits f d ty more here h
  object_of-fits f d (Some (Local number t)) ty more here h = new_object-fits f d ty more here h
  object_of-fits f d (Some (Function g)) ty more here h = new_object-fits f d ty more here h

  marked-fits : (s : RawSpecs) (d : RawDeclarator) (o : Object) (more : ℕ) → ObjectFits more o → IfFine (marked s d o) (ObjectFits more)
  marked-fits s d o more h =
      let change = made_constant (is_constant_object s d.pointers.items) in
      record {
        globals = changed-All change (ObjectStandsAmong Is) o.number o.filed.globals (λ x _ k. record { at = k.at; initial = k.initial }) h.globals;
        routines = h.routines;
        nodes = (let e = changed-nodes object_nodes change 0 (λ x. omega arith) o.number o.filed.globals in let n = h.nodes in omega (arith, e, n));
      }

  abbrev first_length : Option RawFirstValue → Kinds → ℕ
  first_length first rest = text_size (first_value_text (option_map (λ (v : RawFirstValue). initial v.initial) first) rest)

  object_initialized-fits : (ty : Shape) (first : Option RawFirstValue) (o : Object) (rest : Kinds) → IfSome first (FirstValueAmong Is)
      → ObjectFits (24 * first_length first rest) o → IfFine (object_initialized ty first o) (FiledFits Is room (24 * text_size rest))
  object_initialized-fits ty None o rest among h = h
  object_initialized-fits ty (Some value) o rest among h =
      let f = o.filed in
      let long = size-initial (initial value.initial) rest in
      lift-then (IsFirst Is f.known.context f.known.literals value.initial) (FiledFits Is room (24 * text_size rest)) (with_initial o.number f) _
      (first-bounded Is f.known.context f.known.literals InFile value.place ty value.initial among.equals among.values)
      (λ r k. record {
        globals = changed-All (holding r.0) (ObjectStandsAmong Is) o.number f.globals (λ x _ g. record { at = g.at; initial = k.stands }) h.globals;
        routines = h.routines;
        nodes = (let e = changed-nodes object_nodes (holding r.0) (initial_nodes r.0) (λ x. omega arith) o.number f.globals in
            let n = h.nodes in
            let m = k.with_texts in
            omega (arith, e, n, m, long));
      })

  object_added-fits : (s : RawSpecs) (base : Shape) (d : RawInit) (f : Filed) (rest : Kinds) → DeclaredAmong Is d
      → FiledFits Is room (24 * text_size (declared_text (declared d) rest)) f → IfFine (object_added s base d f) (FiledFits Is room (24 * text_size rest))
  object_added-fits s base d f rest among h =
      cond-then After (may_be_object f.globals (is_completed f base d.declarator) (is_some d.initial) before) _ (Fault DeclaredTwice d.declarator.place)
      (λ _. lift-then (λ _. Unit {0}) After _ (object_type f.known.context base d) (if_fine-any (object_type f.known.context base d))
      (λ ty _.
      lift-then (ObjectFits following) After (object_initialized ty d.initial) _
      (lift-then (ObjectFits following) (ObjectFits following) (marked s d.declarator) _
      (object_of-fits f d.declarator before ty following among.name (fits-less Is room f _ (following + 1) (omega (arith, named)) h))
      (λ o k. marked-fits s d.declarator o following k))
      (λ o k. object_initialized-fits ty d.initial o rest among.initial k)))
      (λ _. tt)
    where
      before : Option Meaning
      before = meaning_here d.declarator.name f.known

      After : Filed → Type 0
      After = FiledFits Is room (24 * text_size rest)

      following : ℕ
      following = 24 * first_length d.initial rest

      named : 1 + first_length d.initial rest ≤ text_size (declared_text (declared d) rest)
      named = declarator_size (declarator d.declarator) (first_value_text (option_map (λ (v : RawFirstValue). initial v.initial) d.initial) rest)

  further-objects : (s : RawSpecs) (base : Shape) (ds : List RawInit) (f : Filed) (rest : Kinds) → AllByRecursion (DeclaredAmong Is) ds
      → FiledFits Is room (24 * text_size (each_after_comma declared_text (map declared ds) rest)) f
      → IfFine (objects_added s base ds f) (FiledFits Is room (24 * text_size rest))
  further-objects s base [] f rest among h = h
  further-objects s base (d ∷ ds) f rest among h =
      let following = each_after_comma declared_text (map declared ds) rest in
      lift-then (FiledFits Is room (24 * text_size following)) (FiledFits Is room (24 * text_size rest)) (objects_added s base ds) (object_added s base d f)
      (object_added-fits s base d f following among.0 (fits-less Is room f _ _ (omega arith) h)) (λ g k. further-objects s base ds g rest among.1 k)

  pub objects_added-fits : (s : RawSpecs) (base : Shape) (ds : List RawInit) (f : Filed) (rest : Kinds) → AllByRecursion (DeclaredAmong Is) ds
      → FiledFits Is room (24 * text_size (with_commas declared_text (map declared ds) rest)) f
      → IfFine (objects_added s base ds f) (FiledFits Is room (24 * text_size rest))
  objects_added-fits s base [] f rest among h = h
  objects_added-fits s base (d ∷ ds) f rest among h =
      let following = each_after_comma declared_text (map declared ds) rest in
      lift-then (FiledFits Is room (24 * text_size following)) (FiledFits Is room (24 * text_size rest)) (objects_added s base ds) (object_added s base d f)
      (object_added-fits s base d f following among.0 h)
      (λ g k. further-objects s base ds g rest among.1 k)
