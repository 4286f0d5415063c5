-- Files up to some part: what their names denote exists, and their objects and functions are well formed: for the contract of `typed`.
use Rattle.std.proofs.Common.{◌≡◌, ◌≢◌, ◌∙◌, ℕ, zero, suc, ◌≤◌, Bool, true, false, cond, List, [], ◌∷◌, ◌++◌, length, take}
use Rattle.std.proofs.Common.{refl, sym, ap, subst, arith}
use Rattle.std.specs.Prelude.{nat_eq, Option, Some, None, IfSome, is_some, slice_get}
use Rattle.std.specs.Option.{option_or}
use Rattle.std.specs.List.{All, AllByRecursion}
use Rattle.std.specs.Cmp.Lexicographic.{pointwise}
use Rattle.std.proofs.lemmas.List.Elements.{All-nil, All-same, All-take, All-append, All-weaker, All-from_recursion, recursion_from_All}
use Rattle.std.proofs.lemmas.Option.{same_Some, none-some}
use Rattle.cs_types.specs.Shape.{Shape}
use Rattle.cs_ast.specs.TypedProgram.{TypedProgram, Variable, FileObject, Routine}
use Rattle.cs_scopes.specs.declared.scope.Callee.{Callee}
use Rattle.cs_scopes.specs.declared.scope.Callee.TheVariants.{Malloc, Calloc, Free, Numbered}
use Rattle.cs_scopes.specs.Meanings.{Meaning, Typedef, Constant, Global, Local, Function, Declaration}
use Rattle.cs_scopes.specs.Scopes.{newest}
use Rattle.cs_declarations.specs.Environment.{Environment, model_of, table_of, declarations_of}
use Rattle.cs_file_scope.specs.Objects.{Filed, with_known, changed}
use Rattle.cs_file_scope.specs.Functions.{number_in}
use Rattle.cs_file_scope.specs.Beginning.{allocators}
use Rattle.cs_well_formed.specs.Structs.{NamesStructs, HasNamedTypes, TypesAreNamed}
use Rattle.cs_well_formed.specs.Expressions.{Setting, parameter_types}
use Rattle.cs_well_formed.specs.Programs.{outside, IsWellGlobal, IsWellRoutine}
use Rattle.cs_well_formed.specs.Agreement.{Keeps, KnownTypesAreNamed, IsThere, Agrees, AreFirst}
use Rattle.cs_well_formed.specs.Growth.{Grows}
use Rattle.cs_well_formed.specs.Leading.{Leads}
use Rattle.cs_well_formed.proofs.Growth.{IsThere-grown}
use Rattle.cs_well_formed.proofs.Structs.{keeps-self, keeps-trans, globals-longer, routines-longer}
use Rattle.cs_statements.proofs.DeclarationsAfter.{Starts, starts-trans, start-take, IsPlain, DeclaresOn, on-starts}

-- ---- lists

pub start-All : {A : Type 0} (P : A → Type 0) (first all : List A) → Starts first all → All P all → All P first
start-All P first all h held = All-same P first (take (length first) all) (sym (start-take first all h)) (All-take P (length first) all held)

pub found-start : {A : Type 0} (first all : List A) (number : ℕ) (x : A) → Starts first all → slice_get first number ≡ Some x
    → slice_get all number ≡ Some x
found-start first all number x h is = ap (λ xs. slice_get xs number) h.1 ∙ found first number is
  where
    found : (xs : List _) (i : ℕ) → slice_get xs i ≡ Some x → slice_get (xs ++ h.0) i ≡ Some x
    found [] i at = absurd (none-some x at)
    found (y ∷ xs) zero at = at
    found (y ∷ xs) (suc i) at = found xs i at

pub both-All : {A : Type 0} (P Q : A → Type 0) (xs : List A) → All P xs → All Q xs → All (λ x. P x × Q x) xs
both-All P Q xs h k = λ i d within. (h i d within, k i d within)

-- a list with one changed element
module _ {A : Type 0} (change : A → A) where
  pub changed-length : (number : ℕ) (xs : List A) → length (changed number change xs) ≡ length xs
  changed-length number [] = refl
  changed-length zero (x ∷ xs) = refl
  changed-length (suc number) (x ∷ xs) = ap suc (changed-length number xs)

  pub changed-at : (number : ℕ) (xs : List A) (x : A) → slice_get xs number ≡ Some x → slice_get (changed number change xs) number ≡ Some (change x)
  changed-at number [] x is = absurd (none-some x is)
  changed-at zero (y ∷ xs) x is = ap (λ z. Some (change z)) (same_Some y x is)
  changed-at (suc number) (y ∷ xs) x is = changed-at number xs x is

  pub changed-other : (number other : ℕ) (xs : List A) → other ≢ number → slice_get (changed number change xs) other ≡ slice_get xs other
  changed-other number other [] apart = refl
  changed-other zero zero (y ∷ xs) apart = absurd (apart refl)
  changed-other zero (suc other) (y ∷ xs) apart = refl
  changed-other (suc number) zero (y ∷ xs) apart = refl
  changed-other (suc number) (suc other) (y ∷ xs) apart = changed-other number other xs (λ is. apart (ap suc is))

  -- the element at an index afterwards is the one before, or the changed one
  pub changed-found : (Q : A → A → Type 0) (number other : ℕ) (xs : List A) (x : A) → ((y : A) → Q y y)
      → ((y : A) → slice_get xs number ≡ Some y → Q (change y) y) → slice_get xs other ≡ Some x
      → (y : A) × (slice_get (changed number change xs) other ≡ Some y) × Q y x
  changed-found Q number other [] x self at is = absurd (none-some x is)
  changed-found Q zero zero (y ∷ xs) x self at is = (change y, refl, subst (Q (change y)) (same_Some y x is) (at y refl))
  changed-found Q zero (suc other) (y ∷ xs) x self at is = (x, is, self x)
  changed-found Q (suc number) zero (y ∷ xs) x self at is = (x, is, self x)
  changed-found Q (suc number) (suc other) (y ∷ xs) x self at is = changed-found Q number other xs x self at is

  pub changed-All : (P : A → Type 0) (number : ℕ) (xs : List A) → ((x : A) → slice_get xs number ≡ Some x → P x → P (change x)) → All P xs
      → All P (changed number change xs)
  changed-All P number xs still held = All-from_recursion P (changed number change xs) (by_recursion number xs still (recursion_from_All P xs held))
    where
      by_recursion : (n : ℕ) (ys : List A) → ((x : A) → slice_get ys n ≡ Some x → P x → P (change x)) → AllByRecursion P ys
          → AllByRecursion P (changed n change ys)
      by_recursion n [] still' h = tt
      by_recursion zero (y ∷ ys) still' h = (still' y refl h.0, h.1)
      by_recursion (suc n) (y ∷ ys) still' h = (h.0, by_recursion n ys still' h.1)

-- ---- the meanings of names

newest-held : (P : Meaning → Type 0) (name : List ℕ) (ds : List Declaration) → AllByRecursion (λ (d : Declaration). P d.meaning) ds
    → IfSome (newest name ds) P
newest-held P name [] h = tt
newest-held P name (d ∷ ds) h = later (newest name ds) (newest-held P name ds h.1)
  where
    here : (b : Bool) → IfSome (cond b (Some d.meaning) None) P
    here true = h.0
    here false = tt

    later : (o : Option Meaning) → IfSome o P → IfSome (option_or o (cond (pointwise nat_eq d.name name) (Some d.meaning) None)) P
    later (Some m) held = held
    later None held = here (pointwise nat_eq d.name name)

-- a name has one of the meanings that are declared
pub newest-All : (P : Meaning → Type 0) (name : List ℕ) (ds : List Declaration) → All (λ (d : Declaration). P d.meaning) ds → IfSome (newest name ds) P
newest-All P name ds h = newest-held P name ds (recursion_from_All (λ (d : Declaration). P d.meaning) ds h)

-- a declaration of another name
abbrev pub IsOther : List ℕ → Declaration → Type 0
IsOther name d = pointwise nat_eq d.name name ≡ false

-- a name that isn't in scope has no declaration
pub newest-none : (name : List ℕ) (ds : List Declaration) → newest name ds ≡ None → All (IsOther name) ds
newest-none name ds none = All-from_recursion (IsOther name) ds (by_recursion ds none)
  where
    here : (m : Meaning) (b : Bool) → cond b (Some m) None ≡ None → b ≡ false
    here m true is = absurd (none-some m (sym is))
    here m false is = refl

    by_recursion : (es : List Declaration) → newest name es ≡ None → AllByRecursion (IsOther name) es
    by_recursion [] is = tt
    by_recursion (d ∷ es) is = later (newest name es) refl is (by_recursion es)
      where
        later : (o : Option Meaning) → newest name es ≡ o → option_or o (cond (pointwise nat_eq d.name name) (Some d.meaning) None) ≡ None
            → (newest name es ≡ None → AllByRecursion (IsOther name) es) → AllByRecursion (IsOther name) (d ∷ es)
        later (Some m) found gone others = absurd (none-some m (sym gone))
        later None found gone others = (here d.meaning (pointwise nat_eq d.name name) gone, others found)

-- a name that has a meaning still has one after further declarations
pub newest-start : (name : List ℕ) (first rest : List Declaration) → is_some (newest name first) ≡ true → is_some (newest name (first ++ rest)) ≡ true
newest-start name [] rest h = absurd cc
newest-start name (d ∷ first) rest h = later (newest name first) (newest name (first ++ rest)) h (newest-start name first rest)
  where
    here : Option Meaning
    here = cond (pointwise nat_eq d.name name) (Some d.meaning) None

    following : (p : Option Meaning) → is_some here ≡ true → is_some (option_or p here) ≡ true
    following (Some m) is = refl
    following None is = is

    first_one : (p : Option Meaning) → is_some p ≡ true → is_some (option_or p here) ≡ true
    first_one (Some m) is = refl
    first_one None is = absurd cc

    later : (o p : Option Meaning) → is_some (option_or o here) ≡ true → (is_some o ≡ true → is_some p ≡ true)
        → is_some (option_or p here) ≡ true
    later (Some m) p is goes = first_one p (goes refl)
    later None p is goes = following p is

-- the function has the number of its name
abbrev pub IsNumberOf : List (List ℕ) → List ℕ → Callee → Type 0
IsNumberOf order name Malloc = Unit {0}
IsNumberOf order name Calloc = Unit {0}
IsNumberOf order name Free = Unit {0}
IsNumberOf order name (Numbered number) = number ≡ number_in order name

abbrev pub HasNumber : List (List ℕ) → List ℕ → Meaning → Type 0
HasNumber order name (Function f) = IsNumberOf order name f.callee
HasNumber order name (Typedef ty) = Unit {0}
HasNumber order name (Constant value) = Unit {0}
HasNumber order name (Global number ty) = Unit {0}
HasNumber order name (Local number ty) = Unit {0}

plain-number : (order : List (List ℕ)) (name : List ℕ) (m : Meaning) → IsPlain m → HasNumber order name m
plain-number order name (Function f) h = absurd h
plain-number order name (Typedef ty) h = tt
plain-number order name (Constant value) h = tt
plain-number order name (Global number ty) h = tt
plain-number order name (Local number ty) h = tt

-- what names denote outside of functions exists inside of each
pub there-inside : (s : Setting) (m : Meaning) → IsThere (outside s.program) m → IsThere s m
there-inside s (Typedef ty) h = tt
there-inside s (Constant value) h = h
there-inside s (Global number ty) h = h
there-inside s (Local number ty) h = absurd (none-some h.0 h.1)
there-inside s (Function f) h = h

-- ---- files so far, in a program

-- the parameters of a function are among its variables
abbrev pub IsCounted : Routine → Type 0
IsCounted r = r.parameters ≤ length r.variables

-- the types that are declared so far name structs of the table
pub record TypesSoFar (f : Filed) : Type 0 where
  pub known : KnownTypesAreNamed f.known.context
  pub globals : All (λ (g : FileObject). NamesStructs (table_of f.known) g.ty) f.globals
  pub routines : All (HasNamedTypes (table_of f.known)) f.routines

-- they still do after a part that changes no object and no function
types-following : (f : Filed) (k : Environment) → TypesSoFar f → length (table_of f.known) ≤ length (table_of k) → KnownTypesAreNamed k.context
    → TypesSoFar (with_known k f)
types-following f k types longer named = record {
  known = named;
  globals = globals-longer (table_of f.known) (table_of k) longer f.globals types.globals;
  routines = routines-longer (table_of f.known) (table_of k) longer f.routines types.routines;
}

module _ (p : TypedProgram) where
  -- the program with the objects and functions of a file so far
  abbrev pub with_parts : Filed → TypedProgram
  with_parts f = record p { globals = f.globals; routines = f.routines }

  -- what is declared so far exists, each function at its number
  pub record Kept (f : Filed) : Type 0 where
    pub model : model_of f.known ≡ p.model
    pub outer : f.known.outer ≡ 0
    pub library : Starts (allocators p.model) (declarations_of f.known)
    pub order : length f.routines ≡ length f.order
    pub declared : All (λ (d : Declaration). IsThere (outside (with_parts f)) d.meaning) (declarations_of f.known)
    pub numbered : All (λ (d : Declaration). HasNumber f.order d.name d.meaning) (declarations_of f.known)
    pub counted : All IsCounted f.routines
    pub types : TypesSoFar f

  -- the program has what is known so far, and its declared types name structs
  pub record Has (f : Filed) : Type 0 where
    pub table : Keeps (table_of f.known) p.table
    pub texts : AreFirst p f.known.literals
    pub there : All (λ (d : Declaration). IsThere (outside p) d.meaning) (declarations_of f.known)
    pub types : TypesAreNamed p

  -- the objects and functions so far are well formed in the program
  pub record IsWellSoFar (f : Filed) : Type 0 where
    pub globals : All (IsWellGlobal p) f.globals
    pub routines : All (IsWellRoutine p) f.routines

  -- after a part of a file
  pub record Adds (f g : Filed) : Type 0 where
    pub order : g.order ≡ f.order
    pub kept : Kept g
    pub longer : length (table_of f.known) ≤ length (table_of g.known)
    pub before : Has g → Has f
    pub well : Has g → IsWellSoFar f → IsWellSoFar g

  pub adds-self : (f : Filed) → Kept f → Adds f f
  adds-self f kept = record { order = refl; kept = kept; longer = omega arith; before = λ has. has; well = λ has w. w }

  pub adds-trans : (f g h : Filed) → Adds f g → Adds g h → Adds f h
  adds-trans f g h one other = record {
    order = other.order ∙ one.order;
    kept = other.kept;
    longer = omega (arith, one.longer, other.longer);
    before = λ has. one.before (other.before has);
    well = λ has w. other.well has (one.well (other.before has) w);
  }

  -- what is known so far agrees with the program
  pub file-agrees : (f : Filed) → Kept f → Has f → Agrees (outside p) f.known.context
  file-agrees f kept has = record {
    model = kept.model;
    table = has.table;
    declarations = has.there;
    named = kept.types.known;
    types = record { program = has.types; variables = All-nil (λ (v : Variable). NamesStructs p.table v.ty); returns = tt };
  }

  -- the object with this number has this type
  abbrev pub HasGlobal : Filed → ℕ → Shape → Type 0
  HasGlobal f number ty = (g : FileObject) × (slice_get f.globals number ≡ Some g) × (g.ty ≡ ty)

  abbrev pub HasRoutine : Filed → ℕ → Routine → Type 0
  HasRoutine f number r = (o : Routine) × (slice_get f.routines number ≡ Some o) × (o.returns ≡ r.returns) × (parameter_types o ≡ parameter_types r)

  -- what exists remains, if objects and functions keep their types
  pub there-kept : (f g : Filed) → ((number : ℕ) (x : FileObject) → slice_get f.globals number ≡ Some x → HasGlobal g number x.ty)
      → ((number : ℕ) (r : Routine) → slice_get f.routines number ≡ Some r → HasRoutine g number r)
      → (m : Meaning) → IsThere (outside (with_parts f)) m → IsThere (outside (with_parts g)) m
  there-kept f g globals routines m h = IsThere-grown (outside (with_parts f)) (outside (with_parts g)) grows m h
    where
      grows : Grows (outside (with_parts f)) (outside (with_parts g))
      grows = record {
        program = record { model = refl; table = keeps-self p.table; literals = λ number bytes is. is; globals = globals; routines = routines };
        variables = λ number v is. (v, is, refl);
        labels = omega arith;
        returns = refl;
      }

  pub all-there-kept : (f g : Filed) → ((number : ℕ) (x : FileObject) → slice_get f.globals number ≡ Some x → HasGlobal g number x.ty)
      → ((number : ℕ) (r : Routine) → slice_get f.routines number ≡ Some r → HasRoutine g number r)
      → (ds : List Declaration) → All (λ (d : Declaration). IsThere (outside (with_parts f)) d.meaning) ds
      → All (λ (d : Declaration). IsThere (outside (with_parts g)) d.meaning) ds
  all-there-kept f g globals routines ds all =
      All-weaker (λ (d : Declaration). IsThere (outside (with_parts f)) d.meaning) (λ (d : Declaration). IsThere (outside (with_parts g)) d.meaning)
      (λ d h. there-kept f g globals routines d.meaning h) ds all

  -- what is known after specifiers, typedefs and parameters
  pub record KnownAfter (f : Filed) (k : Environment) : Type 0 where
    pub model : model_of k ≡ model_of f.known
    pub literals : k.literals ≡ f.known.literals
    pub table : Keeps (table_of f.known) (table_of k)
    pub named : KnownTypesAreNamed k.context
    pub on : DeclaresOn f.known k
    pub declared : All (λ (d : Declaration). IsThere (outside (with_parts f)) d.meaning) (declarations_of f.known)
        → All (λ (d : Declaration). IsThere (outside (with_parts f)) d.meaning) (declarations_of k)

  pub leads-following : (f : Filed) (k : Environment) → Leads (outside (with_parts f)) f.known k → DeclaresOn f.known k → KnownTypesAreNamed k.context
      → KnownAfter f k
  leads-following f k leads on named = record {
    model = leads.model;
    literals = leads.literals;
    table = leads.table;
    named = named;
    on = on;
    declared = leads.declarations;
  }

  pub known-adds : (f : Filed) (k : Environment) → Kept f → KnownAfter f k → Adds f (with_known k f)
  known-adds f k kept h = record {
    order = refl;
    kept = record {
      model = h.model ∙ kept.model;
      outer = h.on.outer ∙ kept.outer;
      library = starts-trans (allocators p.model) (declarations_of f.known) (declarations_of k) kept.library (on-starts f.known k h.on);
      order = kept.order;
      declared = h.declared kept.declared;
      numbered = All-same numbered (declarations_of k) (declarations_of f.known ++ h.on.more) h.on.declarations
          (All-append numbered (declarations_of f.known) h.on.more kept.numbered
          (All-weaker (λ (d : Declaration). IsPlain d.meaning) numbered (λ d plain. plain-number f.order d.name d.meaning plain) h.on.more h.on.plain));
      counted = kept.counted;
      types = types-following f k kept.types h.table.longer h.named;
    };
    longer = h.table.longer;
    before = λ has. record {
      table = keeps-trans (table_of f.known) (table_of k) p.table h.table has.table;
      texts = subst (AreFirst p) h.literals has.texts;
      there = start-All (λ (d : Declaration). IsThere (outside p) d.meaning) (declarations_of f.known) (declarations_of k) (on-starts f.known k h.on)
          has.there;
      types = has.types;
    };
    well = λ has w. record { globals = w.globals; routines = w.routines };
  }
    where
      numbered : Declaration → Type 0
      numbered d = HasNumber f.order d.name d.meaning
