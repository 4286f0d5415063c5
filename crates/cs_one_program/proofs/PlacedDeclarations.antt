-- Declarations with the same parts and with the positions of the same tokens are the same, except for memory addresses.
use Rattle.std.proofs.Common.{◌≡◌, List, [], ◌∷◌, Option, Some, None, drop, map, refl, sym, ap, subst, ◌∙◌}
use Rattle.std.specs.Option.{option_map}
use mathlib.Core.Former.{Count}
use Rattle.cs_ast.specs.declared.token.Token.{Token}
use Rattle.cs_ast.specs.declared.raw.expression.RawExpr.{RawExpr}
use Rattle.cs_ast.specs.declared.raw.name.RawName.{RawName}
use Rattle.cs_ast.specs.declared.raw.declaration.SpecWord as words
use Rattle.cs_ast.specs.declared.raw.declaration.SpecWord.{SpecWord}
use Rattle.cs_ast.specs.declared.raw.declaration.RawDeclarator.{RawDeclarator}
use Rattle.cs_ast.specs.declared.raw.declaration.RawInitial as first_value
use Rattle.cs_ast.specs.declared.raw.declaration.RawInitial.{RawInitial}
use Rattle.cs_ast.specs.declared.raw.declaration.RawFirstValue.{RawFirstValue}
use Rattle.cs_ast.specs.declared.raw.declaration.RawInit.{RawInit}
use Rattle.cs_ast.specs.declared.raw.declaration.RawParameters.{RawParameters}
use Rattle.cs_ast.specs.declared.raw.declaration.RawParameters.TheVariants as parameter_lists
use Rattle.cs_ast.specs.RawView.{written}
use Rattle.cs_ast.specs.RawDeclarations as tree
use Rattle.cs_ast.specs.RawDeclarations.{Declarator, Constant, Spec, Specs, Members, Initial, Initials, Declared, Parameter, Parameters, Head}
use Rattle.cs_ast.specs.RawDeclarationView.{bounds_of, declarator, constant, spec, specs_row, members, specs_list, specs, initial, initials, declared}
use Rattle.cs_ast.specs.RawDeclarationView.{parameter, parameters, head}
use Rattle.cs_grammar.specs.Text.{Kinds, pointers_text}
use Rattle.cs_grammar.specs.FileText.{name_text, brackets_text, declarator_text, constant_text, spec_text, specs_text, initial_text, declared_text}
use Rattle.cs_grammar.specs.FileText.{parameter_text, with_commas}
use Rattle.cs_grammar.specs.Places.{HasPlaces}
use Rattle.cs_declarator_parser.specs.DeclarationPlaces.{past, AreInRow, AreSideBySide, IsSomePlaced, AreBracketsPlaced, IsDeclaratorPlaced}
use Rattle.cs_declarator_parser.specs.DeclarationPlaces.{AreDeclaratorsPlaced, IsConstantPlaced, tag_place, in_body, IsSpecPlaced, AreSpecsPlaced}
use Rattle.cs_declarator_parser.specs.DeclarationPlaces.{AreMembersPlaced, HasSpecPlaces, IsInitialPlaced, AreInitialsPlaced, IsFirstValuePlaced}
use Rattle.cs_declarator_parser.specs.DeclarationPlaces.{IsDeclaredPlaced, AreObjectsPlaced, IsNamePlaced, IsParameterPlaced, AreParametersPlaced}
use Rattle.cs_decl_parser.specs.FilePlaces.{IsHeadPlaced}
use Rattle.cs_one_program.specs.SameExpressions.{Pairwise, none, more, IfBoth, absent, present, SameExpr}
use Rattle.cs_one_program.specs.SameDeclarations as same
use Rattle.cs_one_program.specs.SameDeclarations.{SameBounds, SameDeclarator, SameConstant, SameInitial, SameInitials, SameFirstValue, SameInit, SameSpec}
use Rattle.cs_one_program.specs.SameDeclarations.{SameSpecs, SameMembers, SameBefore, SameParameter, SameParameters, SameFunction}
use Rattle.cs_one_program.proofs.PlacedExpressions.{stands_same, expression_same}

-- ---- lists and optional parts

abbrev pub ListFits : {B : Type 0} → List B → List B → Type 0
ListFits [] [] = Unit {0}
ListFits (b ∷ bs) (b' ∷ bs') = (b ≡ b') × (bs ≡ bs')
ListFits _ _ = ⊥

list_fits_itself : {B : Type 0} (bs : List B) → ListFits bs bs
list_fits_itself [] = tt
list_fits_itself (b ∷ bs) = (refl, refl)

pub list_fits : {B : Type 0} {bs bs' : List B} → bs ≡ bs' → ListFits bs bs'
list_fits {bs = bs} e = subst (ListFits bs) e (list_fits_itself bs)

abbrev pub OptionFits : {B : Type 0} → Option B → Option B → Type 0
OptionFits None None = Unit {0}
OptionFits (Some b) (Some b') = b ≡ b'
OptionFits _ _ = ⊥

option_fits_itself : {B : Type 0} (b : Option B) → OptionFits b b
option_fits_itself None = tt
option_fits_itself (Some b) = refl

pub option_fits : {B : Type 0} {b b' : Option B} → b ≡ b' → OptionFits b b'
option_fits {b = b} e = subst (OptionFits b) e (option_fits_itself b)

-- values with the positions of the same tokens and equal views are the same
abbrev pub Alike : {A B : Type 0} → (A → List Token → Type 0) → (A → B) → (A → A → Type 0) → Type 0
Alike {A = A} Has see Same = (a a' : A) (tokens tokens' : List Token) → tokens ≡ tokens' → Has a tokens → Has a' tokens' → see a ≡ see a'
    → Same a a'

pub in_row : {A B : Type 0} (Has : A → List Token → Type 0) (see : A → B) (text : B → Kinds → Kinds) (Same : A → A → Type 0)
    → Alike Has see Same
    → (list list' : List A) (tokens tokens' : List Token) → tokens ≡ tokens' → AreInRow Has (λ a. text (see a)) list tokens
    → AreInRow Has (λ a. text (see a)) list' tokens' → ListFits (map see list) (map see list') → Pairwise Same list list'
in_row Has see text Same each [] [] tokens tokens' t h h' w = none
in_row Has see text Same each (a ∷ all) (a' ∷ all') tokens tokens' t h h' w =
    more (each a a' _ _ t h.0 h'.0 w.0)
    (in_row Has see text Same each all all' _ _ (λ i. drop 1 (past (text (w.0 i)) (t i))) h.1 h'.1 (list_fits w.1))
in_row Has see text Same each _ _ tokens tokens' t h h' w = absurd w

pub side_by_side : {A B : Type 0} (Has : A → List Token → Type 0) (see : A → B) (text : B → Kinds → Kinds) (Same : A → A → Type 0)
    → Alike Has see Same
    → (list list' : List A) (tokens tokens' : List Token) → tokens ≡ tokens' → AreSideBySide Has (λ a. text (see a)) list tokens
    → AreSideBySide Has (λ a. text (see a)) list' tokens' → ListFits (map see list) (map see list') → Pairwise Same list list'
side_by_side Has see text Same each [] [] tokens tokens' t h h' w = none
side_by_side Has see text Same each (a ∷ all) (a' ∷ all') tokens tokens' t h h' w =
    more (each a a' _ _ t h.0 h'.0 w.0)
    (side_by_side Has see text Same each all all' _ _ (λ i. past (text (w.0 i)) (t i)) h.1 h'.1 (list_fits w.1))
side_by_side Has see text Same each _ _ tokens tokens' t h h' w = absurd w

-- ---- declarators

pub expr_alike : Alike HasPlaces written SameExpr
expr_alike e e' tokens tokens' t h h' w = expression_same e e' t h h' w

some_fits_alike : (e e' : Option RawExpr) (tokens tokens' : List Token) → tokens ≡ tokens' → IsSomePlaced e tokens → IsSomePlaced e' tokens'
    → OptionFits (option_map written e) (option_map written e') → IfBoth SameExpr e e'
some_fits_alike None None tokens tokens' t h h' w = absent
some_fits_alike (Some e) (Some e') tokens tokens' t h h' w = present (expression_same e e' t h h' w)
some_fits_alike _ _ tokens tokens' t h h' w = absurd w

pub some_alike : Alike IsSomePlaced (option_map written) (IfBoth SameExpr)
some_alike e e' tokens tokens' t h h' w = some_fits_alike e e' tokens tokens' t h h' (option_fits w)

bounds_alike : Alike AreBracketsPlaced bounds_of SameBounds
bounds_alike bs bs' tokens tokens' t h h' w =
    side_by_side (λ bound tokens. IsSomePlaced bound (drop 1 tokens)) (option_map written) (λ b. brackets_text (b ∷ [])) (IfBoth SameExpr)
    (λ b b' tokens tokens' t h h' w. some_alike b b' _ _ (ap (drop 1) t) h h' w) bs bs' tokens tokens' t h h' (list_fits w)

pub declarator_alike : Alike IsDeclaratorPlaced declarator SameDeclarator
declarator_alike d d' tokens tokens' t h h' w =
    let pointers = ap (λ (d : Declarator). d.pointers) w in
    let named : past (pointers_text d.pointers.items) tokens ≡ past (pointers_text d'.pointers.items) tokens' =
    λ i. past (pointers_text (pointers i)) (t i) in
    record {
      pointers = pointers;
      at = stands_same named h.0 h'.0;
      name = ap (λ (d : Declarator). d.name) w;
      bounds = bounds_alike d.bounds.items d'.bounds.items _ _ (ap (drop 1) named) h.1 h'.1 (ap (λ (d : Declarator). d.bounds) w);
    }

pub declarators_alike : (ds ds' : List RawDeclarator) (tokens tokens' : List Token) → tokens ≡ tokens' → AreDeclaratorsPlaced ds tokens
    → AreDeclaratorsPlaced ds' tokens' → map declarator ds ≡ map declarator ds' → Pairwise SameDeclarator ds ds'
declarators_alike ds ds' tokens tokens' t h h' w =
    in_row IsDeclaratorPlaced declarator declarator_text SameDeclarator declarator_alike ds ds' tokens tokens' t h h' (list_fits w)

constant_alike : Alike IsConstantPlaced constant SameConstant
constant_alike e e' tokens tokens' t h h' w = record {
  at = stands_same t h.0 h'.0;
  name = ap (λ (c : Constant). c.name) w;
  value = some_alike e.value e'.value _ _ (ap (drop 2) t) h.1 h'.1 (ap (λ (c : Constant). c.value) w);
}

-- ---- initializers

abbrev InitialFits : Initial → Initial → Type 0
InitialFits (tree.Single e) (tree.Single e') = e ≡ e'
InitialFits (tree.Listed row comma) (tree.Listed row' comma') = (row ≡ row') × (comma ≡ comma')
InitialFits _ _ = ⊥

initial_fits_itself : (v : Initial) → InitialFits v v
initial_fits_itself (tree.Single e) = refl
initial_fits_itself (tree.Listed row comma) = (refl, refl)

initial_fits : {v v' : Initial} → v ≡ v' → InitialFits v v'
initial_fits {v = v} e = subst (InitialFits v) e (initial_fits_itself v)

abbrev InitialsFit : Initials → Initials → Type 0
InitialsFit tree.NoItem tree.NoItem = Unit {0}
InitialsFit (tree.MoreItems v all) (tree.MoreItems v' all') = (v ≡ v') × (all ≡ all')
InitialsFit _ _ = ⊥

initials_fit_itself : (v : Initials) → InitialsFit v v
initials_fit_itself tree.NoItem = tt
initials_fit_itself (tree.MoreItems v all) = (refl, refl)

initials_fit : {v v' : Initials} → v ≡ v' → InitialsFit v v'
initials_fit {v = v} e = subst (InitialsFit v) e (initials_fit_itself v)

mutual
  initial_alike : (v v' : RawInitial) (tokens tokens' : List Token) → tokens ≡ tokens' → IsInitialPlaced v tokens → IsInitialPlaced v' tokens'
      → InitialFits (initial v) (initial v') → SameInitial v v'
  initial_alike (first_value.TheVariants.Value e) (first_value.TheVariants.Value e') tokens tokens' t h h' w = same.Value (expression_same e e' t h h' w)
  initial_alike (first_value.TheVariants.List' shape row comma) (first_value.TheVariants.List' shape' row' comma') tokens tokens' t h h' w =
      subst (λ v. SameInitial (first_value.TheVariants.List' shape row comma) v) (λ i. first_value.TheVariants.List' shape' row' (w.1 i))
      (same.Listed (initials_alike row row' _ _ (ap (drop 1) t) h h' (initials_fit w.0)))
  initial_alike _ _ tokens tokens' t h h' w = absurd w

  initials_alike : {n m : Count} (row : first_value.Row_of-RawInitial n) (row' : first_value.Row_of-RawInitial m) (tokens tokens' : List Token)
      → tokens ≡ tokens' → AreInitialsPlaced row tokens → AreInitialsPlaced row' tokens' → InitialsFit (initials row) (initials row')
      → SameInitials n m row row'
  initials_alike first_value.end_of-RawInitial first_value.end_of-RawInitial tokens tokens' t h h' w = same.NoItem
  initials_alike (first_value.more_of-RawInitial v row) (first_value.more_of-RawInitial v' row') tokens tokens' t h h' w =
      same.MoreItems (initial_alike v v' _ _ t h.0 h'.0 (initial_fits w.0))
      (initials_alike row row' _ _ (λ i. drop 1 (past (initial_text (w.0 i)) (t i))) h.1 h'.1 (initials_fit w.1))
  initials_alike _ _ tokens tokens' t h h' w = absurd w

first_value_alike : (v v' : Option RawFirstValue) (tokens tokens' : List Token) → tokens ≡ tokens' → IsFirstValuePlaced v tokens
    → IsFirstValuePlaced v' tokens'
    → OptionFits (option_map (λ (v : RawFirstValue). initial v.initial) v) (option_map (λ (v : RawFirstValue). initial v.initial) v')
    → IfBoth SameFirstValue v v'
first_value_alike None None tokens tokens' t h h' w = absent
first_value_alike (Some v) (Some v') tokens tokens' t h h' w =
    present (record { at = stands_same t h.0 h'.0; initial = initial_alike v.initial v'.initial _ _ (ap (drop 1) t) h.1 h'.1 (initial_fits w) })
first_value_alike _ _ tokens tokens' t h h' w = absurd w

init_alike : Alike IsDeclaredPlaced declared SameInit
init_alike d d' tokens tokens' t h h' w =
    let said = ap (λ (d : Declared). d.declarator) w in
    record {
      declarator = declarator_alike d.declarator d'.declarator _ _ t h.0 h'.0 said;
      initial =
          first_value_alike d.initial d'.initial _ _ (λ i. past (declarator_text (said i)) (t i)) h.1 h'.1 (option_fits (ap (λ (d : Declared). d.initial) w));
    }

pub objects_alike : (ds ds' : List RawInit) (tokens tokens' : List Token) → tokens ≡ tokens' → AreObjectsPlaced ds tokens → AreObjectsPlaced ds' tokens'
    → map declared ds ≡ map declared ds' → Pairwise SameInit ds ds'
objects_alike ds ds' tokens tokens' t h h' w =
    in_row IsDeclaredPlaced declared declared_text SameInit init_alike ds ds' tokens tokens' t h h' (list_fits w)

-- ---- specifiers

abbrev SpecFits : Spec → Spec → Type 0
SpecFits tree.Static tree.Static = Unit {0}
SpecFits (tree.Plain w) (tree.Plain w') = w ≡ w'
SpecFits (tree.StructBody tag all) (tree.StructBody tag' all') = (tag ≡ tag') × (all ≡ all')
SpecFits (tree.EnumBody tag all comma) (tree.EnumBody tag' all' comma') = (tag ≡ tag') × (all ≡ all') × (comma ≡ comma')
SpecFits _ _ = ⊥

spec_fits_itself : (s : Spec) → SpecFits s s
spec_fits_itself tree.Static = tt
spec_fits_itself (tree.Plain w) = refl
spec_fits_itself (tree.StructBody tag all) = (refl, refl)
spec_fits_itself (tree.EnumBody tag all comma) = (refl, refl, refl)

spec_fits : {s s' : Spec} → s ≡ s' → SpecFits s s'
spec_fits {s = s} e = subst (SpecFits s) e (spec_fits_itself s)

abbrev SpecsFit : Specs → Specs → Type 0
SpecsFit tree.NoSpec tree.NoSpec = Unit {0}
SpecsFit (tree.MoreSpecs s all) (tree.MoreSpecs s' all') = (s ≡ s') × (all ≡ all')
SpecsFit _ _ = ⊥

specs_fit_itself : (s : Specs) → SpecsFit s s
specs_fit_itself tree.NoSpec = tt
specs_fit_itself (tree.MoreSpecs s all) = (refl, refl)

specs_fit : {s s' : Specs} → s ≡ s' → SpecsFit s s'
specs_fit {s = s} e = subst (SpecsFit s) e (specs_fit_itself s)

abbrev MembersFit : Members → Members → Type 0
MembersFit tree.NoMember tree.NoMember = Unit {0}
MembersFit (tree.MoreMembers s ds all) (tree.MoreMembers s' ds' all') = (s ≡ s') × (ds ≡ ds') × (all ≡ all')
MembersFit _ _ = ⊥

members_fit_itself : (m : Members) → MembersFit m m
members_fit_itself tree.NoMember = tt
members_fit_itself (tree.MoreMembers s ds all) = (refl, refl, refl)

members_fit : {m m' : Members} → m ≡ m' → MembersFit m m'
members_fit {m = m} e = subst (MembersFit m) e (members_fit_itself m)

mutual
  spec_alike : (s s' : SpecWord) (tokens tokens' : List Token) → tokens ≡ tokens' → IsSpecPlaced s tokens → IsSpecPlaced s' tokens'
      → SpecFits (spec s) (spec s') → SameSpec s s'
  spec_alike words.TheVariants.Static words.TheVariants.Static tokens tokens' t h h' w = same.Static
  spec_alike (words.TheVariants.Plain word) (words.TheVariants.Plain word') tokens tokens' t h h' w =
      subst (λ s. SameSpec (words.TheVariants.Plain word) s) (ap words.TheVariants.Plain w) same.Plain
  spec_alike (words.TheVariants.Struct' tag shape row) (words.TheVariants.Struct' tag' shape' row') tokens tokens' t h h' w =
      subst (λ s. SameSpec (words.TheVariants.Struct' tag shape row) s) (λ i. words.TheVariants.Struct' (w.0 i) shape' row')
      (same.Struct (members_alike row row' _ _ (λ i. in_body (w.0 i) (t i)) h h' (members_fit w.1)))
  spec_alike (words.TheVariants.Enum tag all comma) (words.TheVariants.Enum tag' all' comma') tokens tokens' t h h' w =
      subst (λ s. SameSpec (words.TheVariants.Enum tag all comma) s) (λ i. words.TheVariants.Enum (w.0 i) all' (w.2 i))
      (same.Enum
      (in_row IsConstantPlaced constant constant_text SameConstant constant_alike all.items all'.items _ _ (λ i. in_body (w.0 i) (t i)) h h'
      (list_fits w.1)))
  spec_alike _ _ tokens tokens' t h h' w = absurd w

  specs_row_alike : {n m : Count} (row : words.Row_of-SpecWord n) (row' : words.Row_of-SpecWord m) (tokens tokens' : List Token) → tokens ≡ tokens'
      → AreSpecsPlaced row tokens → AreSpecsPlaced row' tokens' → SpecsFit (specs_row row) (specs_row row') → SameSpecs n m row row'
  specs_row_alike words.end_of-SpecWord words.end_of-SpecWord tokens tokens' t h h' w = same.NoSpec
  specs_row_alike (words.more_of-SpecWord s row) (words.more_of-SpecWord s' row') tokens tokens' t h h' w =
      same.MoreSpecs (spec_alike s s' _ _ t h.0 h'.0 (spec_fits w.0))
      (specs_row_alike row row' _ _ (λ i. past (spec_text (w.0 i)) (t i)) h.1 h'.1 (specs_fit w.1))
  specs_row_alike _ _ tokens tokens' t h h' w = absurd w

  members_alike : {n m : Count} (row : words.Row_of-RawMember n) (row' : words.Row_of-RawMember m) (tokens tokens' : List Token) → tokens ≡ tokens'
      → AreMembersPlaced row tokens → AreMembersPlaced row' tokens' → MembersFit (members row) (members row') → SameMembers n m row row'
  members_alike words.end_of-RawMember words.end_of-RawMember tokens tokens' t h h' w = same.NoMember
  members_alike (words.more_of-RawMember shape row tag ds others) (words.more_of-RawMember shape' row' tag' ds' others') tokens tokens' t h h' w =
      let named : past (specs_text (specs_row row)) tokens ≡ past (specs_text (specs_row row')) tokens' = λ i. past (specs_text (w.0 i)) (t i) in
      let tags : tag ≡ tag' = h.0 ∙ (λ i. tag_place (w.0 i) (t i)) ∙ sym h'.0 in
      subst (λ r. SameMembers _ _ (words.more_of-RawMember shape row tag ds others) r) (λ i. words.more_of-RawMember shape' row' (tags i) ds' others')
      (same.MoreMembers (specs_row_alike row row' _ _ t h.1 h'.1 (specs_fit w.0))
      (declarators_alike ds.items ds'.items _ _ named h.2 h'.2 w.1)
      (members_alike others others' _ _ (λ i. drop 1 (past (with_commas declarator_text (w.1 i)) (named i))) h.3 h'.3 (members_fit w.2)))
  members_alike _ _ tokens tokens' t h h' w = absurd w

spec_list_alike : (ws ws' : List SpecWord) (tokens tokens' : List Token) → tokens ≡ tokens'
    → AreSideBySide IsSpecPlaced (λ w. spec_text (spec w)) ws tokens → AreSideBySide IsSpecPlaced (λ w. spec_text (spec w)) ws' tokens'
    → SpecsFit (specs_list ws) (specs_list ws') → Pairwise SameSpec ws ws'
spec_list_alike [] [] tokens tokens' t h h' w = none
spec_list_alike (s ∷ all) (s' ∷ all') tokens tokens' t h h' w =
    more (spec_alike s s' _ _ t h.0 h'.0 (spec_fits w.0))
    (spec_list_alike all all' _ _ (λ i. past (spec_text (w.0 i)) (t i)) h.1 h'.1 (specs_fit w.1))
spec_list_alike _ _ tokens tokens' t h h' w = absurd w

pub specs_alike : Alike HasSpecPlaces specs SameBefore
specs_alike s s' tokens tokens' t h h' w = record {
  tag = h.tag ∙ (λ i. tag_place (w i) (t i)) ∙ sym h'.tag;
  words = spec_list_alike s.words.items s'.words.items _ _ t h.inside h'.inside (specs_fit w);
}

-- ---- parameters

parameter_name_alike : (name name' : Option RawName) (tokens tokens' : List Token) → tokens ≡ tokens' → IsNamePlaced name tokens
    → IsNamePlaced name' tokens' → OptionFits (option_map (λ (n : RawName). n.name) name) (option_map (λ (n : RawName). n.name) name') → name ≡ name'
parameter_name_alike None None tokens tokens' t h h' w = refl
parameter_name_alike (Some name) (Some name') tokens tokens' t h h' w =
    let at = stands_same t h h' in λ i. Some (record { place = at i; name = w i })
parameter_name_alike _ _ tokens tokens' t h h' w = absurd w

parameter_alike : Alike IsParameterPlaced parameter SameParameter
parameter_alike p p' tokens tokens' t h h' w =
    let before = ap (λ (p : Parameter). p.specs) w in
    let pointers = ap (λ (p : Parameter). p.pointers) w in
    let name = ap (λ (p : Parameter). p.name) w in
    record {
      at = stands_same t h.at h'.at;
      specs = specs_alike p.specs p'.specs _ _ t h.specs_are h'.specs_are before;
      pointers = pointers;
      name =
          parameter_name_alike p.name p'.name _ _ (λ i. past (λ rest. specs_text (before i) (pointers_text (pointers i) rest)) (t i)) h.name_is h'.name_is
          (option_fits name);
      bounds =
          bounds_alike p.bounds.items p'.bounds.items _ _
          (λ i. past (λ rest. specs_text (before i) (pointers_text (pointers i) (name_text (name i) rest))) (t i)) h.bounds_are h'.bounds_are
          (ap (λ (p : Parameter). p.bounds) w);
    }

abbrev ParametersFit : Parameters → Parameters → Type 0
ParametersFit tree.NoParameter tree.NoParameter = Unit {0}
ParametersFit tree.VoidAlone tree.VoidAlone = Unit {0}
ParametersFit (tree.ParameterList all) (tree.ParameterList all') = all ≡ all'
ParametersFit _ _ = ⊥

parameters_fit_itself : (p : Parameters) → ParametersFit p p
parameters_fit_itself tree.NoParameter = tt
parameters_fit_itself tree.VoidAlone = tt
parameters_fit_itself (tree.ParameterList all) = refl

parameters_fit : {p p' : Parameters} → p ≡ p' → ParametersFit p p'
parameters_fit {p = p} e = subst (ParametersFit p) e (parameters_fit_itself p)

parameters_alike : (p p' : RawParameters) (tokens tokens' : List Token) → tokens ≡ tokens' → AreParametersPlaced p tokens
    → AreParametersPlaced p' tokens' → ParametersFit (parameters p) (parameters p') → SameParameters p p'
parameters_alike parameter_lists.Empty parameter_lists.Empty tokens tokens' t h h' w = same.Empty
parameters_alike parameter_lists.Void parameter_lists.Void tokens tokens' t h h' w = same.Void
parameters_alike (parameter_lists.List all) (parameter_lists.List all') tokens tokens' t h h' w =
    same.Several
    (in_row IsParameterPlaced parameter parameter_text SameParameter parameter_alike all.items all'.items tokens tokens' t h h' (list_fits w))
parameters_alike _ _ tokens tokens' t h h' w = absurd w

pub head_alike : Alike IsHeadPlaced head SameFunction
head_alike f f' tokens tokens' t h h' w =
    let pointers = ap (λ (f : Head). f.pointers) w in
    let named : past (pointers_text f.pointers.items) tokens ≡ past (pointers_text f'.pointers.items) tokens' =
    λ i. past (pointers_text (pointers i)) (t i) in
    record {
      pointers = pointers;
      at = stands_same named h.0 h'.0;
      name = ap (λ (f : Head). f.name) w;
      parameters =
          parameters_alike f.parameters f'.parameters _ _ (ap (drop 2) named) h.1 h'.1 (parameters_fit (ap (λ (f : Head). f.parameters) w));
    }
