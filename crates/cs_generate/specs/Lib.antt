pub mod GeneratedFile
