pub mod SameExpressions
pub mod SameDeclarations
pub mod SameTrees
pub mod Laws
