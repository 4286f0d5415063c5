-- The typing of a tree, for the same tokens in another form: for the functions that continue with the program of a tree.
use Rattle.std.proofs.Common.{◌≡◌, ℕ, List, ap, ◌∙◌, subst}
use Rattle.cs_types.specs.declared.data_model.DataModel.{DataModel}
use Rattle.cs_ast.specs.declared.token.Token.{Token}
use Rattle.cs_ast.specs.declared.raw.external.RawExternal.{RawExternal}
use Rattle.cs_lexer.specs.declared.lexer.Lexed.{Lexed}
use Rattle.cs_lexer.proofs.OneLexing.{lexed_once}
use Rattle.cs_decl_parser.specs.Files.{parts_of, IsTheFile}
use Rattle.cs_decl_parser.specs.FilePlaces.{AreFilePlaced}
use Rattle.cs_typing.specs.Programs.{typed}
use Rattle.cs_one_program.proofs.Laws.{files_have_one_program}
use Rattle.cs_program.specs.Trees.{Parses, typed_tree}

-- the same model, files and tokens in another form
pub same_typing : (lexed : Lexed) (model model' : DataModel) (files : List (List ℕ)) (tokens : List Token) (tree : List RawExternal) → model' ≡ model
    → files ≡ lexed.files.items → tokens ≡ lexed.list.items → typed model' files tokens tree ≡ typed_tree model lexed tree
same_typing lexed model model' files tokens tree same_model same_files same_tokens =
    ap (λ m. typed m files tokens tree) same_model ∙ ap (λ fs. typed model fs tokens tree) same_files
    ∙ ap (λ ts. typed model lexed.files.items ts tree) same_tokens

-- a tree of one list of tokens is a tree of an equal list
pub parses_again : (file : List ℕ) (lexed other : Lexed) (one two : List RawExternal) → Parses file lexed one → Parses file other two
    → Parses file lexed two
parses_again file lexed other one two h i =
    let same = lexed_once file other lexed i.has_tokens h.has_tokens in
    record {
      short = h.short;
      has_tokens = h.has_tokens;
      is_the_file = subst (λ tokens. IsTheFile tokens (parts_of two)) same.list i.is_the_file;
      placed = subst (λ tokens. AreFilePlaced two tokens) same.list i.placed;
    }

-- and has the same typing
pub typed_again : (model : DataModel) (file : List ℕ) (lexed other : Lexed) (one two : List RawExternal) → Parses file lexed one → Parses file other two
    → typed_tree model other two ≡ typed_tree model lexed two
typed_again model file lexed other one two h i =
    let same = lexed_once file other lexed i.has_tokens h.has_tokens in
    ap (λ files. typed model files other.list.items two) same.files ∙ ap (λ tokens. typed model lexed.files.items tokens two) same.list

-- all trees of a file have the same typing
pub one_typing : (model : DataModel) (file : List ℕ) (lexed other : Lexed) (one two : List RawExternal) → Parses file lexed one → Parses file other two
    → typed_tree model other two ≡ typed_tree model lexed one
one_typing model file lexed other one two h i =
    let also = parses_again file lexed other one two h i in
    typed_again model file lexed other one two h i
    ∙ files_have_one_program model lexed.files.items lexed.list.items two one (record { is_the_file = also.is_the_file; placed = also.placed })
    (record { is_the_file = h.is_the_file; placed = h.placed })
