-- The program's trees of written declarations as plain data.
use Rattle.std.specs.Prelude.{List, [], ◌∷◌, map, Option}
use Rattle.std.specs.Option.{option_map}
use Rattle.cs_ast.specs.declared.raw.expression.RawExpr.{RawExpr}
use Rattle.cs_ast.specs.declared.raw.declaration.RawSpecs.{RawSpecs}
use Rattle.cs_ast.specs.declared.raw.declaration.RawMember.{RawMember}
use Rattle.cs_ast.specs.declared.raw.declaration.SpecWord as words
use Rattle.cs_ast.specs.declared.raw.declaration.SpecWord.{SpecWord}
use Rattle.cs_ast.specs.declared.raw.declaration.RawDeclarator.{RawDeclarator}
use Rattle.cs_ast.specs.declared.raw.declaration.RawEnumerator.{RawEnumerator}
use Rattle.cs_ast.specs.declared.raw.declaration.RawInitial as first_value
use Rattle.cs_ast.specs.declared.raw.declaration.RawInitial.{RawInitial}
use Rattle.cs_ast.specs.declared.raw.declaration.RawFirstValue.{RawFirstValue}
use Rattle.cs_ast.specs.declared.raw.declaration.RawInit.{RawInit}
use Rattle.cs_ast.specs.declared.raw.name.RawName.{RawName}
use Rattle.cs_ast.specs.declared.raw.declaration.RawParameter.{RawParameter}
use Rattle.cs_ast.specs.declared.raw.declaration.RawParameters.{RawParameters}
use Rattle.cs_ast.specs.declared.raw.declaration.RawParameters.TheVariants as parameter_lists
use Rattle.cs_ast.specs.declared.raw.declaration.RawFunction.{RawFunction}
use Rattle.cs_ast.specs.RawTree.{Written}
use Rattle.cs_ast.specs.RawView.{written}
use Rattle.cs_ast.specs.RawDeclarations.{Declarator, Constant, Spec, Static, Plain, StructBody, EnumBody, Specs, NoSpec, MoreSpecs, Members, NoMember}
use Rattle.cs_ast.specs.RawDeclarations.{MoreMembers, Initial, Single, Listed, Initials, NoItem, MoreItems, Declared, Parameter, Parameters, NoParameter}
use Rattle.cs_ast.specs.RawDeclarations.{VoidAlone, ParameterList, Head}

abbrev pub bounds_of : List (Option RawExpr) → List (Option Written)
bounds_of bounds = map (option_map written) bounds

abbrev pub declarator : RawDeclarator → Declarator
declarator d = record { pointers = d.pointers.items; name = d.name; bounds = bounds_of d.bounds.items }

abbrev pub constant : RawEnumerator → Constant
constant e = record { name = e.name; value = option_map written e.value }

abbrev mutual
  -- a word before the declarators
  pub spec : SpecWord → Spec
  spec words.TheVariants.Static = Static
  spec (words.TheVariants.Plain w) = Plain w
  spec (words.TheVariants.Struct' tag shape row) = StructBody tag (members row)
  spec (words.TheVariants.Enum tag constants comma) = EnumBody tag (map constant constants.items) comma

  -- the words of a `Vec` inside a tree
  pub specs_row : {n : _} → words.Row_of-SpecWord n → Specs
  specs_row words.end_of-SpecWord = NoSpec
  specs_row (words.more_of-SpecWord first others) = MoreSpecs (spec first) (specs_row others)

  -- the members of a `Vec` inside a tree
  pub members : {n : _} → words.Row_of-RawMember n → Members
  members words.end_of-RawMember = NoMember
  members (words.more_of-RawMember shape row tag declarators others) = MoreMembers (specs_row row) (map declarator declarators.items) (members others)

-- the words of a list
abbrev pub specs_list : List SpecWord → Specs
specs_list [] = NoSpec
specs_list (first ∷ others) = MoreSpecs (spec first) (specs_list others)

abbrev pub specs : RawSpecs → Specs
specs s = specs_list s.words.items

-- the members of a list
abbrev pub members_list : List RawMember → Members
members_list [] = NoMember
members_list (m ∷ others) = MoreMembers (specs m.specs) (map declarator m.declarators.items) (members_list others)

abbrev mutual
  -- an initializer
  pub initial : RawInitial → Initial
  initial (first_value.TheVariants.Value e) = Single (written e)
  initial (first_value.TheVariants.List' shape row comma) = Listed (initials row) comma

  -- the items of a `Vec` inside a tree
  pub initials : {n : _} → first_value.Row_of-RawInitial n → Initials
  initials first_value.end_of-RawInitial = NoItem
  initials (first_value.more_of-RawInitial first others) = MoreItems (initial first) (initials others)

-- the items of a list
abbrev pub initials_list : List RawInitial → Initials
initials_list [] = NoItem
initials_list (first ∷ others) = MoreItems (initial first) (initials_list others)

abbrev pub declared : RawInit → Declared
declared d = record { declarator = declarator d.declarator; initial = option_map (λ (v : RawFirstValue). initial v.initial) d.initial }

abbrev pub parameter : RawParameter → Parameter
parameter p = record {
  specs = specs p.specs;
  pointers = p.pointers.items;
  name = option_map (λ (n : RawName). n.name) p.name;
  bounds = bounds_of p.bounds.items;
}

abbrev pub parameters : RawParameters → Parameters
parameters parameter_lists.Empty = NoParameter
parameters parameter_lists.Void = VoidAlone
parameters (parameter_lists.List list) = ParameterList (map parameter list.items)

abbrev pub head : RawFunction → Head
head f = record { pointers = f.pointers.items; name = f.name; parameters = parameters f.parameters }
