pub mod HeightsOfNodes
pub mod RawDeclarationRows
pub mod RawRows
pub mod RawStatementRows
pub mod TypedRows
