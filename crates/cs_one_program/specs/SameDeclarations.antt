-- Written declarations that have the same parts at the same positions.
use Rattle.std.specs.Prelude.{◌≡◌, List, Option, Vec}
use Rattle.std.specs.declared.alloc.Global.{Global}
use mathlib.Core.Former.{Count}
use Rattle.cs_ast.specs.declared.raw.declaration.RawSpecs.{RawSpecs}
use Rattle.cs_ast.specs.declared.raw.declaration.SpecWord as words
use Rattle.cs_ast.specs.declared.raw.declaration.SpecWord.{SpecWord}
use Rattle.cs_ast.specs.declared.raw.declaration.RawDeclarator.{RawDeclarator}
use Rattle.cs_ast.specs.declared.raw.declaration.RawEnumerator.{RawEnumerator}
use Rattle.cs_ast.specs.declared.raw.declaration.RawInitial as first_value
use Rattle.cs_ast.specs.declared.raw.declaration.RawInitial.{RawInitial}
use Rattle.cs_ast.specs.declared.raw.declaration.RawFirstValue.{RawFirstValue}
use Rattle.cs_ast.specs.declared.raw.declaration.RawInit.{RawInit}
use Rattle.cs_ast.specs.declared.raw.declaration.RawParameter.{RawParameter}
use Rattle.cs_ast.specs.declared.raw.declaration.RawParameters.{RawParameters}
use Rattle.cs_ast.specs.declared.raw.declaration.RawParameters.TheVariants as parameter_lists
use Rattle.cs_ast.specs.declared.raw.declaration.RawFunction.{RawFunction}
use Rattle.cs_ast.specs.declared.raw.expression.RawExpr.{RawExpr}
use Rattle.cs_one_program.specs.SameExpressions.{Pairwise, IfBoth, SameExpr}

-- bounds between brackets, which may be empty
abbrev pub SameBounds : List (Option RawExpr) → List (Option RawExpr) → Type 0
SameBounds = Pairwise (IfBoth SameExpr)

pub record SameDeclarator (d other : RawDeclarator) : Type 0 where
  pub pointers : d.pointers.items ≡ other.pointers.items
  pub at : d.place ≡ other.place
  pub name : d.name ≡ other.name
  pub bounds : SameBounds d.bounds.items other.bounds.items

pub record SameConstant (e other : RawEnumerator) : Type 0 where
  pub at : e.place ≡ other.place
  pub name : e.name ≡ other.name
  pub value : IfBoth SameExpr e.value other.value

mutual
  -- initializers
  pub data SameInitial : RawInitial → RawInitial → Type 0 where
    Value : {e e' : RawExpr} → SameExpr e e' → SameInitial (first_value.TheVariants.Value e) (first_value.TheVariants.Value e')
    Listed : {shape shape' : _} {row : _} {row' : _} {comma : _} → SameInitials _ _ row row'
        → SameInitial (first_value.TheVariants.List' shape row comma) (first_value.TheVariants.List' shape' row' comma)

  pub data SameInitials : (n m : Count) → first_value.Row_of-RawInitial n → first_value.Row_of-RawInitial m → Type 0 where
    NoItem : SameInitials _ _ first_value.end_of-RawInitial first_value.end_of-RawInitial
    MoreItems : {first first' : RawInitial} {n m : Count} {others : first_value.Row_of-RawInitial n} {others' : first_value.Row_of-RawInitial m}
        → SameInitial first first' → SameInitials _ _ others others'
        → SameInitials _ _ (first_value.more_of-RawInitial first others) (first_value.more_of-RawInitial first' others')

pub record SameFirstValue (v other : RawFirstValue) : Type 0 where
  pub at : v.place ≡ other.place
  pub initial : SameInitial v.initial other.initial

pub record SameInit (d other : RawInit) : Type 0 where
  pub declarator : SameDeclarator d.declarator other.declarator
  pub initial : IfBoth SameFirstValue d.initial other.initial

mutual
  -- specifiers, some of which have a body
  pub data SameSpec : SpecWord → SpecWord → Type 0 where
    Static : SameSpec words.TheVariants.Static words.TheVariants.Static
    Plain : {w : _} → SameSpec (words.TheVariants.Plain w) (words.TheVariants.Plain w)
    Struct : {tag : _} {shape shape' : _} {row : _} {row' : _} → SameMembers _ _ row row'
        → SameSpec (words.TheVariants.Struct' tag shape row) (words.TheVariants.Struct' tag shape' row')
    Enum : {tag : _} {constants constants' : Vec RawEnumerator Global} {comma : _} → Pairwise SameConstant constants.items constants'.items
        → SameSpec (words.TheVariants.Enum tag constants comma) (words.TheVariants.Enum tag constants' comma)

  pub data SameSpecs : (n m : Count) → words.Row_of-SpecWord n → words.Row_of-SpecWord m → Type 0 where
    NoSpec : SameSpecs _ _ words.end_of-SpecWord words.end_of-SpecWord
    MoreSpecs : {first first' : SpecWord} {n m : Count} {others : words.Row_of-SpecWord n} {others' : words.Row_of-SpecWord m}
        → SameSpec first first' → SameSpecs _ _ others others'
        → SameSpecs _ _ (words.more_of-SpecWord first others) (words.more_of-SpecWord first' others')

  pub data SameMembers : (n m : Count) → words.Row_of-RawMember n → words.Row_of-RawMember m → Type 0 where
    NoMember : SameMembers _ _ words.end_of-RawMember words.end_of-RawMember
    MoreMembers : {shape shape' : _} {row : _} {row' : _} {tag : _} {declarators declarators' : Vec RawDeclarator Global} {n m : Count}
        {others : words.Row_of-RawMember n} {others' : words.Row_of-RawMember m}
        → SameSpecs _ _ row row' → Pairwise SameDeclarator declarators.items declarators'.items → SameMembers _ _ others others'
        → SameMembers _ _ (words.more_of-RawMember shape row tag declarators others) (words.more_of-RawMember shape' row' tag declarators' others')

-- the specifiers before declarators
pub record SameBefore (s other : RawSpecs) : Type 0 where
  pub tag : s.tag ≡ other.tag
  pub words : Pairwise SameSpec s.words.items other.words.items

pub record SameParameter (p other : RawParameter) : Type 0 where
  pub at : p.place ≡ other.place
  pub specs : SameBefore p.specs other.specs
  pub pointers : p.pointers.items ≡ other.pointers.items
  pub name : p.name ≡ other.name
  pub bounds : SameBounds p.bounds.items other.bounds.items

pub data SameParameters : RawParameters → RawParameters → Type 0 where
  Empty : SameParameters parameter_lists.Empty parameter_lists.Empty
  Void : SameParameters parameter_lists.Void parameter_lists.Void
  Several : {list list' : Vec RawParameter Global} → Pairwise SameParameter list.items list'.items
      → SameParameters (parameter_lists.List list) (parameter_lists.List list')

pub record SameFunction (f other : RawFunction) : Type 0 where
  pub pointers : f.pointers.items ≡ other.pointers.items
  pub at : f.place ≡ other.place
  pub name : f.name ≡ other.name
  pub parameters : SameParameters f.parameters other.parameters
