-- Written declarations as plain data, without positions.
use Rattle.std.specs.Prelude.{ℕ, Bool, List, Option}
use Rattle.cs_ast.specs.declared.raw.written_type.TypeWord.{TypeWord}
use Rattle.cs_ast.specs.declared.raw.written_type.PointerWord.{PointerWord}
use Rattle.cs_ast.specs.RawTree.{Written}

-- a declared name, with the pointers before it and the array bounds after it, which may be empty
pub record Declarator : Type 0 where
  pub pointers : List PointerWord
  pub name : List ℕ
  pub bounds : List (Option Written)

-- an enumeration constant, and the expression after its `=`
pub record Constant : Type 0 where
  pub name : List ℕ
  pub value : Option Written

mutual
  -- a word before the declarators, or a type with its body; the list of an `enum` may end with a comma
  pub data Spec : Type 0 where
    Static : Spec
    Plain : (w : TypeWord) → Spec
    StructBody : (tag : Option (List ℕ)) (members : Members) → Spec
    EnumBody : (tag : Option (List ℕ)) (constants : List Constant) (comma : Bool) → Spec

  -- declaration specifiers: the words before the declarators
  pub data Specs : Type 0 where
    NoSpec : Specs
    MoreSpecs : (first : Spec) (others : Specs) → Specs

  -- members, grouped by the specifiers that they share
  pub data Members : Type 0 where
    NoMember : Members
    MoreMembers : (specs : Specs) (declarators : List Declarator) (others : Members) → Members

mutual
  -- an initializer: an expression, or items between braces, which may end with a comma
  pub data Initial : Type 0 where
    Single : (value : Written) → Initial
    Listed : (items : Initials) (comma : Bool) → Initial

  -- items between braces
  pub data Initials : Type 0 where
    NoItem : Initials
    MoreItems : (first : Initial) (others : Initials) → Initials

-- a declared object, and its initializer
pub record Declared : Type 0 where
  pub declarator : Declarator
  pub initial : Option Initial

-- a parameter, whose name may be absent
pub record Parameter : Type 0 where
  pub specs : Specs
  pub pointers : List PointerWord
  pub name : Option (List ℕ)
  pub bounds : List (Option Written)

-- the parameters between a function's parentheses
pub data Parameters : Type 0 where
  NoParameter : Parameters
  VoidAlone : Parameters
  ParameterList : (parameters : List Parameter) → Parameters

-- a function's declarator: its name with its parameters
pub record Head : Type 0 where
  pub pointers : List PointerWord
  pub name : List ℕ
  pub parameters : Parameters
