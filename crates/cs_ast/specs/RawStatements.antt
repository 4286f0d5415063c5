-- Written statements and files as plain data, without positions.
use Rattle.std.specs.Prelude.{ℕ, List, Option}
use Rattle.cs_ast.specs.RawTree.{Written}
use Rattle.cs_ast.specs.RawDeclarations.{Specs, Declarator, Declared, Head}

-- the first part of a `for`
pub data First : Type 0 where
  NoFirst : First
  FirstRuns : (e : Written) → First
  FirstDeclares : (specs : Specs) (objects : List Declared) → First

mutual
  -- a written statement
  pub data Sentence : Type 0 where
    Block : (items : Items) → Sentence
    Nothing : Sentence
    Runs : (e : Written) → Sentence
    If : (test : Written) (body : Sentence) → Sentence
    IfElse : (test : Written) (body other : Sentence) → Sentence
    While : (test : Written) (body : Sentence) → Sentence
    Do : (body : Sentence) (test : Written) → Sentence
    For : (first : First) (test last : Option Written) (body : Sentence) → Sentence
    Switch : (value : Written) (items : SwitchItems) → Sentence
    Goto : (label : List ℕ) → Sentence
    Continue : Sentence
    Break : Sentence
    Return : (value : Option Written) → Sentence
    Label : (name : List ℕ) (body : Sentence) → Sentence

  -- an item of a block
  pub data Item : Type 0 where
    Declares : (specs : Specs) (objects : List Declared) → Item
    Does : (statement : Sentence) → Item

  pub data Items : Type 0 where
    NoItem : Items
    MoreItems : (first : Item) (others : Items) → Items

  -- an item of a `switch`: a label, or an item that any block may have
  pub data SwitchItem : Type 0 where
    Case : (value : Written) → SwitchItem
    Default : SwitchItem
    Inside : (item : Item) → SwitchItem

  pub data SwitchItems : Type 0 where
    NoSwitchItem : SwitchItems
    MoreSwitchItems : (first : SwitchItem) (others : SwitchItems) → SwitchItems

-- an external declaration
pub data External : Type 0 where
  TypeAlone : (specs : Specs) → External
  Typedef : (specs : Specs) (names : List Declarator) → External
  Objects : (specs : Specs) (objects : List Declared) → External
  Function : (specs : Specs) (head : Head) → External
  Definition : (specs : Specs) (head : Head) (body : Items) → External
