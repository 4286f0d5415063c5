-- What is known at a point of a file: the structs, the tags, the declarations in scope and the string literals before it.
use Rattle.std.specs.Prelude.{ℕ, ◌∷◌, [], ◌++◌, List, drop, take, length, Bool, Option, is_some}
use Rattle.cs_types.specs.declared.data_model.DataModel.{DataModel}
use Rattle.cs_types.specs.declared.structs.StructType.{StructType}
use Rattle.cs_scopes.specs.declared.context.Context.{Context}
use Rattle.cs_scopes.specs.declared.scope.TagMeaning.{TagMeaning}
use Rattle.cs_scopes.specs.Meanings.{Declaration, Meaning}
use Rattle.cs_scopes.specs.Scopes.{newest}
use Rattle.cs_expressions.specs.Primary.{Literals}

-- the declarations of the innermost scope are those after the first `outer`; `reading` are the structs whose bodies are being read
pub record Environment : Type 0 where
  pub context : Context
  pub reading : List ℕ
  pub outer : ℕ
  pub literals : Literals

-- the data model, the structs, and the declarations in scope
abbrev pub model_of : Environment → DataModel
model_of k = k.context.model

abbrev pub table_of : Environment → List StructType
table_of k = k.context.table.list

abbrev pub declarations_of : Environment → List Declaration
declarations_of k = k.context.scope.declarations

-- with other structs
abbrev pub with_table : List StructType → Environment → Environment
with_table table k = record {
  context = record { model = k.context.model; table = record { list = table }; scope = k.context.scope };
  reading = k.reading;
  outer = k.outer;
  literals = k.literals;
}

-- with other bodies being read
abbrev pub with_reading : List ℕ → Environment → Environment
with_reading reading k = record { context = k.context; reading = reading; outer = k.outer; literals = k.literals }

-- after other string literals
abbrev pub with_literals : Literals → Environment → Environment
with_literals literals k = record { context = k.context; reading = k.reading; outer = k.outer; literals = literals }

-- after a new tag (C11 6.2.1, paragraph 7)
abbrev pub with_tag : List ℕ → TagMeaning → Environment → Environment
with_tag name meaning k = record {
  context = record {
    model = k.context.model;
    table = k.context.table;
    scope = record { declarations = k.context.scope.declarations; tags = k.context.scope.tags ++ record { name = name; meaning = meaning } ∷ [] };
  };
  reading = k.reading;
  outer = k.outer;
  literals = k.literals;
}

-- with other declarations in scope, of which those after the first `outer` are of the innermost scope
abbrev pub with_declarations : List Declaration → ℕ → Environment → Environment
with_declarations declarations outer k = record {
  context = record { model = k.context.model; table = k.context.table; scope = record { declarations = declarations; tags = k.context.scope.tags } };
  reading = k.reading;
  outer = outer;
  literals = k.literals;
}

-- after the declaration of a name
abbrev pub declaring : List ℕ → Meaning → Environment → Environment
declaring name meaning k = with_declarations (declarations_of k ++ record { name = name; meaning = meaning } ∷ []) k.outer k

-- the meaning that a name was declared with in the innermost scope
abbrev pub meaning_here : List ℕ → Environment → Option Meaning
meaning_here name k = newest name (drop k.outer (declarations_of k))

-- the name is declared in the innermost scope (C11 6.7, paragraph 3)
abbrev pub is_declared_here : List ℕ → Environment → Bool
is_declared_here name k = is_some (meaning_here name k)

-- inside a new scope (C11 6.2.1, paragraph 4)
abbrev pub entered : Environment → Environment
entered k = with_declarations (declarations_of k) (length (declarations_of k)) k

-- where a scope begins: how many declarations precede it, and how many the enclosing one
pub record ScopeSnapshot : Type 0 where
  pub declarations : ℕ
  pub outer : ℕ

abbrev pub snapshot_of : Environment → ScopeSnapshot
snapshot_of k = record { declarations = length (declarations_of k); outer = k.outer }

-- after a scope: the declarations of the enclosing scope remain; structs, tags and literals stay
abbrev pub left_to : ScopeSnapshot → Environment → Environment
left_to m k = with_declarations (take m.declarations (declarations_of k)) m.outer k

abbrev pub left : Environment → Environment → Environment
left before k = left_to (snapshot_of before) k
