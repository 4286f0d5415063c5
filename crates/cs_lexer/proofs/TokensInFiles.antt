-- The tokens of a text are in the files that it names, whose number is bounded: for `lexed_texts_are_bounded`.
use Rattle.std.proofs.Common.{ℕ, zero, suc, ◌+◌, ◌<◌, ◌≤◌, Bool, true, false, cond, List, [], ◌∷◌, length, length-drop, Option, Some}
use Rattle.std.proofs.Common.{None, arith}
use Rattle.std.specs.Prelude.{is_some}
use Rattle.std.specs.List.{All, AllByRecursion}
use Rattle.std.proofs.lemmas.List.Elements.{All-nil, All-push, All-same, All-from_recursion, recursion_from_All}
use Rattle.cs_ast.specs.declared.token.Token.{Token}
use Rattle.cs_lexer.specs.declared.lexeme.Lexeme.TheVariants as found
use Rattle.cs_lexer.specs.declared.spot.Spot.{Spot}
use Rattle.cs_lexer.specs.Attributes.{has_group, group_length, without_attributes}
use Rattle.cs_lexer.specs.Cuttings.{Reaches, begins, gap, marker, token, token_at, files_after}
use Rattle.cs_lexer.specs.Texts.{text_of_kind, after_text, joined_to, joined}
use Rattle.cs_lexer.specs.Lexing.{tokens_of}
use Rattle.cs_lexer.specs.Extent.{LexedTokensHaveFiles, LexedFilesAreFew}
use Rattle.cs_lexer.proofs.Advancing.{LineFits, advances}
use Rattle.cs_lexer.proofs.CutSoFar.{one_file_more}
use Rattle.cs_lexer.proofs.FilesNamed.{no_fewer, is_named}

-- a token is in one of so many files
abbrev IsIn : ℕ → Token → Type 0
IsIn count t = t.place.file < count

-- and in one of more files
still-in : (count more : ℕ) (list : List Token) → count ≤ more → AllByRecursion (IsIn count) list → AllByRecursion (IsIn more) list
still-in count more [] le h = tt
still-in count more (t ∷ ts) le h = (let here : t.place.file < count = h.0 in omega arith, still-in count more ts le h.1)

-- ---- the pieces of a text

pieces-in : (text : List ℕ) (files : List (List ℕ)) (list : List Token) (spot : Spot) (rest : List ℕ) → Reaches text files list spot rest
    → All (IsIn (length files)) list
pieces-in text files list spot rest begins = All-nil (IsIn (length files))
pieces-in text files list spot rest (gap {files = fs} {spot = at} {rest = left} size before some piece) = pieces-in text fs list at left before
pieces-in text files list spot rest (marker {files = fs} {spot = at} {rest = left} size next name before some piece) =
    All-from_recursion (IsIn (length (files_after fs name))) list
    (still-in (length fs) (length (files_after fs name)) list (files_kept fs name)
    (recursion_from_All (IsIn (length fs)) list (pieces-in text fs list at left before)))
  where
    files_kept : (fs : List (List ℕ)) (name : Option (List ℕ)) → length fs ≤ length (files_after fs name)
    files_kept fs None = omega arith
    files_kept fs (Some name) = no_fewer fs name
pieces-in text files list spot rest (token {files = fs} {list = earlier} {spot = at} {rest = left} size kind before some piece) =
    All-push (IsIn (length fs)) earlier (token_at kind at.place) (pieces-in text fs earlier at left before) (is_named text fs earlier at left before)

-- the remaining text has at least one byte for each further file
pub files_fit : (text : List ℕ) (files : List (List ℕ)) (list : List Token) (spot : Spot) (rest : List ℕ) → Reaches text files list spot rest
    → length files + length rest ≤ length text + 1
files_fit text files list spot rest begins = omega arith
files_fit text files list spot rest (gap {files = fs} {spot = at} {rest = left} size before some piece) =
    omega (arith, files_fit text fs list at left before, length-drop size left)
files_fit text files list spot rest (marker {files = fs} {spot = at} {rest = left} size next name before some piece) =
    let more : (0 < size) × LineFits next = advances at.is_line_start left (found.Marker size next name) some piece in
    omega (arith, files_fit text fs list at left before, length-drop size left, one_file_more fs name, more.0)
files_fit text files list spot rest (token {files = fs} {list = earlier} {spot = at} {rest = left} size kind before some piece) =
    omega (arith, files_fit text fs earlier at left before, length-drop size left)

-- ---- its tokens

kept-in : (count skipped : ℕ) (list : List Token) → AllByRecursion (IsIn count) list → AllByRecursion (IsIn count) (without_attributes skipped list)
kept-in count skipped [] h = tt
kept-in count (suc skipped) (t ∷ ts) h = kept-in count skipped ts h.1
kept-in count zero (t ∷ ts) h = by_test (has_group t ts) (kept-in count (group_length ts) ts h.1) (kept-in count 0 ts h.1)
  where
    by_test : (b : Bool) → AllByRecursion (IsIn count) (without_attributes (group_length ts) ts) → AllByRecursion (IsIn count) (without_attributes 0 ts)
        → AllByRecursion (IsIn count) (cond b (without_attributes (group_length ts) ts) (t ∷ without_attributes 0 ts))
    by_test true following next = following
    by_test false following next = (h.0, next)

following-in : (count : ℕ) (list : List Token) → AllByRecursion (IsIn count) list → AllByRecursion (IsIn count) (after_text list)
following-in count [] h = tt
following-in count (t ∷ ts) h = by_test (is_some (text_of_kind t.kind))
  where
    by_test : (b : Bool) → AllByRecursion (IsIn count) (cond b ts (t ∷ ts))
    by_test true = h.1
    by_test false = h

joined_to-in : (count : ℕ) (bytes : Option (List ℕ)) (t : Token) (list : List Token) → IsIn count t → AllByRecursion (IsIn count) list
    → AllByRecursion (IsIn count) (joined_to bytes t list)
joined_to-in count None t list h k = (h, k)
joined_to-in count (Some bytes) t list h k = (h, following-in count list k)

joined-in : (count : ℕ) (list : List Token) → AllByRecursion (IsIn count) list → AllByRecursion (IsIn count) (joined list)
joined-in count [] h = tt
joined-in count (t ∷ ts) h = joined_to-in count (text_of_kind t.kind) t (joined ts) h.0 (joined-in count ts h.1)

pub lexed_tokens_have_files : LexedTokensHaveFiles
lexed_tokens_have_files text lexed h =
    let count = length lexed.files.items in
    let pieces = recursion_from_All (IsIn count) h.pieces (pieces-in text lexed.files.items h.pieces h.whole.spot [] h.whole.reaches) in
    let named : h.whole.spot.place.file < count = is_named text lexed.files.items h.pieces h.whole.spot [] h.whole.reaches in
    record {
      some_file = omega arith;
      each =
          All-same (IsIn count) lexed.list.items (tokens_of h.pieces) h.tokens_are
          (All-from_recursion (IsIn count) (tokens_of h.pieces) (joined-in count (without_attributes 0 h.pieces) (kept-in count 0 h.pieces pieces)));
    }

pub lexed_files_are_few : LexedFilesAreFew
lexed_files_are_few text lexed h = omega (arith, files_fit text lexed.files.items h.pieces h.whole.spot [] h.whole.reaches)
