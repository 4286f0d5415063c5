-- Names and string literals are well formed: the rules of names, and the order of literals.
use Rattle.std.proofs.Common.{◌≡◌, ℕ, Bool, true, false, cond, List, [], ◌∷◌, ◌++◌, append_assoc, length, Option, Some, None, slice_get, refl}
use Rattle.std.proofs.Common.{sym, ap, ◌∙◌}
use Rattle.std.specs.Prelude.{nat_eq, nat_le, IfSome}
use Rattle.std.specs.Option.{option_or}
use Rattle.std.specs.List.{AllByRecursion}
use Rattle.std.specs.Cmp.Lexicographic.{pointwise}
use Rattle.std.proofs.lemmas.List.{append-nil}
use Rattle.std.proofs.lemmas.List.Elements.{recursion_from_All}
use Rattle.cs_types.specs.declared.int_type.IntType.TheVariants.{Int}
use Rattle.cs_ast.specs.declared.place.Place.{Place}
use Rattle.cs_ast.specs.declared.raw.expression.RawExprKind.{RawExprKind, Row_of-RawExpr, end_of-RawExpr, more_of-RawExpr}
use Rattle.cs_ast.specs.declared.raw.expression.RawExprKind.TheVariants as kind
use Rattle.cs_scopes.specs.declared.context.Context.{Context}
use Rattle.cs_scopes.specs.Meanings.{Meaning, Typedef, Constant, Global, Local, Function, Declaration}
use Rattle.cs_scopes.specs.Scopes.{newest}
use Rattle.cs_expressions.specs.Calls.{function_in, called}
use Rattle.cs_expressions.specs.Primary.{Literals, named, text_at}
use Rattle.cs_consts.specs.Typing.{literals_after, literals_after_row}
use Rattle.cs_ast.specs.TypedProgram.{TypedProgram}
use Rattle.cs_well_formed.specs.Expressions.{Setting, IsWell}
use Rattle.cs_well_formed.specs.Agreement.{IsFunction, IsThere, Agrees, AreFirst}
use Rattle.cs_well_formed.proofs.Verdicts.{IfFine, cond-then}

-- one list is the beginning of another
abbrev pub Begins : Literals → Literals → Type 0
Begins first all = (rest : Literals) × (all ≡ first ++ rest)

pub begins-trans : (a b c : Literals) → Begins a b → Begins b c → Begins a c
begins-trans a b c h k = (h.0 ++ k.0, k.1 ∙ ap (λ xs. xs ++ k.0) h.1 ∙ append_assoc a h.0 k.0)

pub begins-self : (a : Literals) → Begins a a
begins-self a = ([], sym (append-nil a))

mutual
  -- the literals after an expression begin with those before it
  pub literals-begin : (literals : Literals) (k : RawExprKind) → Begins literals (literals_after literals k)
  literals-begin literals (kind.Name name) = begins-self literals
  literals-begin literals (kind.Number constant) = begins-self literals
  literals-begin literals (kind.Character value) = begins-self literals
  literals-begin literals (kind.Text bytes) = (bytes ∷ [], refl)
  literals-begin literals (kind.Parenthesis' place p inner) = literals-begin literals inner
  literals-begin literals (kind.Index' place p left place' q right) =
      begins-trans _ _ _ (literals-begin literals left) (literals-begin (literals_after literals left) right)
  literals-begin literals (kind.Call' place p function shape row) = literals-begin_row literals row
  literals-begin literals (kind.Member' place p object name) = literals-begin literals object
  literals-begin literals (kind.Arrow' place p e name) = literals-begin literals e
  literals-begin literals (kind.StepAfter' step place p object) = literals-begin literals object
  literals-begin literals (kind.StepBefore' step place p object) = literals-begin literals object
  literals-begin literals (kind.Prefix' operator place p e) = literals-begin literals e
  literals-begin literals (kind.SizeOf' place p e) = literals-begin literals e
  literals-begin literals (kind.SizeOfType' ty shape row) = literals-begin_row literals row
  literals-begin literals (kind.Cast' ty shape row place p e) = literals-begin literals e
  literals-begin literals (kind.Infix' operator place p left place' q right) =
      begins-trans _ _ _ (literals-begin literals left) (literals-begin (literals_after literals left) right)
  literals-begin literals (kind.Choice' place p test place' q one place'' r other) =
      begins-trans _ _ _ (literals-begin literals test)
      (begins-trans _ _ _ (literals-begin (literals_after literals test) one) (literals-begin (literals_after (literals_after literals test) one) other))
  literals-begin literals (kind.Assign' operator place p object place' q value) =
      begins-trans _ _ _ (literals-begin literals object) (literals-begin (literals_after literals object) value)
  literals-begin literals (kind.Comma' place p first place' q second) =
      begins-trans _ _ _ (literals-begin literals first) (literals-begin (literals_after literals first) second)

  -- the same for a list of expressions
  pub literals-begin_row : (literals : Literals) {n : _} (row : Row_of-RawExpr n) → Begins literals (literals_after_row literals row)
  literals-begin_row literals end_of-RawExpr = begins-self literals
  literals-begin_row literals (more_of-RawExpr place p k rest) =
      begins-trans _ _ _ (literals-begin literals k) (literals-begin_row (literals_after literals k) rest)

-- the literals of a part are the first ones of the program, if those of the whole are
pub first-part : (p : TypedProgram) (some all : Literals) → Begins some all → AreFirst p all → AreFirst p some
first-part p some all h k = begins-trans some all p.literals h k

literal-found : (before : Literals) (bytes : List ℕ) (rest : Literals) → slice_get ((before ++ bytes ∷ []) ++ rest) (length before) ≡ Some bytes
literal-found [] bytes rest = refl
literal-found (first ∷ before) bytes rest = literal-found before bytes rest

-- a string literal
pub text-well : (s : Setting) (literals : Literals) (at : Place) (bytes : List ℕ) → AreFirst s.program (literals ++ bytes ∷ [])
    → IfFine (text_at literals at bytes) (IsWell s)
unfolding text_at
text-well s literals at bytes texts =
    cond-then (IsWell s) (nat_le (length bytes) 65535) _ _
    (λ _. (bytes, ap (λ all. slice_get all (length literals)) texts.1 ∙ literal-found literals bytes texts.0, refl))
    (λ _. tt)

option_or-some : {A : Type 0} (P : A → Type 0) (o p : Option A) → IfSome o P → IfSome p P → IfSome (option_or o p) P
option_or-some P (Some x) p h k = h
option_or-some P None p h k = k

cond_some-holds : {A : Type 0} (P : A → Type 0) (t : Bool) (x : A) → P x → IfSome (cond t (Some x) None) P
cond_some-holds P true x h = h
cond_some-holds P false x h = tt

pub newest-holds : (P : Meaning → Type 0) (name : List ℕ) (ds : List Declaration) → AllByRecursion (λ (d : Declaration). P d.meaning) ds
    → IfSome (newest name ds) P
newest-holds P name [] h = tt
newest-holds P name (d ∷ ds) h =
    option_or-some P (newest name ds) _ (newest-holds P name ds h.1) (cond_some-holds P (pointwise nat_eq d.name name) d.meaning h.0)

module _ (s : Setting) (c : Context) (agrees : Agrees s c) where
  -- what a name denotes exists in the program
  pub newest-there : (name : List ℕ) → IfSome (newest name c.scope.declarations) (IsThere s)
  newest-there name = newest-holds (IsThere s) name c.scope.declarations
      (recursion_from_All (λ (d : Declaration). IsThere s d.meaning) c.scope.declarations agrees.declarations)

  function_in-there : (m : Option Meaning) → IfSome m (IsThere s) → IfSome (function_in m) (λ f. IsFunction s.program f.callee f)
  function_in-there (Some (Function f)) h = h
  function_in-there (Some (Typedef ty)) h = tt
  function_in-there (Some (Constant value)) h = tt
  function_in-there (Some (Global number ty)) h = tt
  function_in-there (Some (Local number ty)) h = tt
  function_in-there None h = tt

  -- the function that is called exists in the program
  pub called-there : (k : RawExprKind) → IfSome (called c.scope.declarations k) (λ f. IsFunction s.program f.callee f)
  called-there (kind.Name name) = function_in-there (newest name c.scope.declarations) (newest-there name)
  called-there (kind.Parenthesis' place p inner) = called-there inner
  called-there other = tt

-- a name is well formed
pub named-well : (s : Setting) (at : Place) (m : Option Meaning) → IfSome m (IsThere s) → IfFine (named at m) (IsWell s)
unfolding named
named-well s at (Some (Constant n)) h = (Int, refl, h)
named-well s at (Some (Global number ty)) h = h
named-well s at (Some (Local number ty)) h = h
named-well s at (Some (Function f)) h = tt
named-well s at (Some (Typedef ty)) h = tt
named-well s at None h = tt
