-- The facts on typed expressions, initializers and declarations from which the bounds of typed programs follow: for the contract of `typed`.
use Rattle.std.proofs.Common.{◌≡◌, ℕ, ◌+◌, ◌*◌, ◌≤◌, List, ap, refl, arith}
use Rattle.cs_types.specs.Shape.{Shape}
use Rattle.cs_ast.specs.declared.place.Place.{Place}
use Rattle.cs_ast.specs.declared.raw.declaration.RawInitial.{RawInitial}
use Rattle.cs_ast.specs.declared.raw.declaration.RawParameters.{RawParameters}
use Rattle.cs_ast.specs.declared.raw.declaration.RawDeclarator.{RawDeclarator}
use Rattle.cs_ast.specs.declared.raw.declaration.RawSpecs.{RawSpecs}
use Rattle.cs_ast.specs.declared.raw.expression.RawExpr.{RawExpr}
use Rattle.cs_ast.specs.RawDeclarationView.{initial, specs, parameters}
use Rattle.cs_scopes.specs.declared.context.Context.{Context}
use Rattle.cs_consts.specs.Roles.{assigned_value, test_of, selector_of, discarded_value}
use Rattle.cs_expressions.specs.Primary.{Literals}
use Rattle.cs_scopes.specs.Verdicts.{Verdict, Fine, Fault}
use Rattle.cs_declarations.specs.Bodies.{Typing, specs_type, typedefs_added}
use Rattle.cs_declarations.specs.Initializers.{Storage, Reading, initial_typed}
use Rattle.cs_declarations.specs.Environment.{Environment}
use Rattle.cs_declarations.specs.Parameters.{Head, parameters_typed}
use Rattle.cs_grammar.specs.FileText.{initial_text, specs_text, parameters_text}
use Rattle.cs_well_formed.specs.Bounded.{IsBoundedBy, IsBoundedInitial, Grows, IsBoundedHead, texts_nodes, known_nodes}
use Rattle.cs_well_formed.specs.Sizes.{size_of}
use Rattle.cs_well_formed.specs.WrittenPlaces.{ExpressionAmong, ValuesAmong}
use Rattle.cs_well_formed.proofs.FittingDeclarations.{words_are_bounded, typedefs_are_bounded, parameters_are_bounded}
use Rattle.cs_well_formed.proofs.FittingDoors.{assigned_are_bounded, tests_are_bounded, selectors_are_bounded, discarded_are_bounded}
use Rattle.cs_well_formed.proofs.FittingInitials.{initials_are_bounded}
use Rattle.cs_well_formed.proofs.Verdicts.{IfFine}

-- the nodes of the string literals and structs that are known, with their members
abbrev pub nodes_known : Environment → ℕ
nodes_known k = texts_nodes k.literals + known_nodes k

-- to prove a property of a result, prove it of each value that the result may be
by_value : {A : Type 0} (P : A → Type 0) (v : Verdict A) → ((a : A) → v ≡ Fine a → P a) → IfFine v P
by_value P (Fine a) h = h a refl
by_value P (Fault code place) h = tt

module _ (Is : Place → Type 0) (c : Context) (literals : Literals) where
  pub assigned-bounded : (at : Place) (target : Shape) (e : RawExpr) → Is at → ExpressionAmong Is e
      → IfFine (assigned_value c literals at target e) (IsBoundedBy Is literals e)
  assigned-bounded at target e here among =
      by_value (IsBoundedBy Is literals e) (assigned_value c literals at target e) (λ v is. assigned_are_bounded Is c literals at target e v here among is)

  pub test-bounded : (at : Place) (e : RawExpr) → ExpressionAmong Is e → IfFine (test_of c literals at e) (IsBoundedBy Is literals e)
  test-bounded at e among = by_value (IsBoundedBy Is literals e) (test_of c literals at e) (λ v is. tests_are_bounded Is c literals at e v among is)

  pub selector-bounded : (at : Place) (e : RawExpr) → Is at → ExpressionAmong Is e → IfFine (selector_of c literals at e) (IsBoundedBy Is literals e)
  selector-bounded at e here among =
      by_value (IsBoundedBy Is literals e) (selector_of c literals at e) (λ v is. selectors_are_bounded Is c literals at e v here among is)

  pub discarded-bounded : (e : RawExpr) → ExpressionAmong Is e → IfFine (discarded_value c literals e) (IsBoundedBy Is literals e)
  discarded-bounded e among = by_value (IsBoundedBy Is literals e) (discarded_value c literals e) (λ v is. discarded_are_bounded Is c literals e v among is)

  abbrev pub IsFirst : RawInitial → Reading → Type 0
  IsFirst raw r = IsBoundedInitial Is literals r.1 (size_of (initial_text (initial raw))) r.0

  pub first-bounded : (storage : Storage) (at : Place) (ty : Shape) (raw : RawInitial) → Is at → ValuesAmong Is raw
      → IfFine (initial_typed c literals storage at ty raw) (IsFirst raw)
  first-bounded storage at ty raw here among =
      by_value (IsFirst raw) (initial_typed c literals storage at ty raw) (λ r is. initials_are_bounded Is c literals r.1 storage at ty raw r.0 here among is)

module _ (k : Environment) where
  abbrev pub IsTyping : RawSpecs → Typing → Type 0
  IsTyping s ty = Grows k ty.1 (size_of (specs_text (specs s)))

  pub words-bounded : (at : Place) (s : RawSpecs) → IfFine (specs_type k at s) (IsTyping s)
  words-bounded at s = by_value (IsTyping s) (specs_type k at s) (λ ty is. words_are_bounded k ty.1 at s ty.0 is)

  abbrev pub AreTypedefs : Environment → Type 0
  AreTypedefs m = Grows k m 0

  pub typedefs-bounded : (base : Shape) (names : List RawDeclarator) → IfFine (typedefs_added base names k) AreTypedefs
  typedefs-bounded base names = by_value AreTypedefs (typedefs_added base names k) (λ m is. typedefs_are_bounded k m base names is)

  abbrev pub IsHead : RawParameters → Head → Type 0
  IsHead raw head = IsBoundedHead k head (size_of (parameters_text (parameters raw)))

  pub parameters-bounded : (raw : RawParameters) → IfFine (parameters_typed k raw) (IsHead raw)
  parameters-bounded raw = by_value (IsHead raw) (parameters_typed k raw) (λ head is. parameters_are_bounded k raw head is)

-- after a text of some size, at most 16 times as many more nodes are known
pub grows-by : (k m : Environment) (size : ℕ) → Grows k m size → nodes_known m ≤ nodes_known k + 16 * size
grows-by k m size g = let same : texts_nodes m.literals ≡ texts_nodes k.literals = ap texts_nodes g.literals in omega (arith, g.structs, same)
