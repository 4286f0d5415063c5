-- The part of a text that has been cut, and that its positions fit their types: for the loop of `cut`.
use Rattle.std.proofs.Common.{◌≡◌, ℕ, ◌+◌, ◌<◌, ◌≤◌, true, false, cond, nat_lt, List, [], ◌∷◌, ◌++◌, length, take, drop, Option}
use Rattle.std.proofs.Common.{Some, None, length-append, length-drop, length-take, sym, ap, ◌∙◌, subst, arith}
use Rattle.std.specs.Prelude.{codes, ◌==◌}
use Rattle.cs_ast.specs.declared.token.Token.{Token}
use Rattle.cs_lexer.specs.declared.spot.Spot.{Spot}
use Rattle.cs_ast.specs.declared.token.TokenKind.{TokenKind}
use Rattle.cs_lexer.specs.declared.lexeme.Lexeme.TheVariants as found
use Rattle.cs_lexer.specs.Files.{file_number}
use Rattle.cs_lexer.specs.Pieces.{Begins}
use Rattle.cs_lexer.specs.Spots.{start, line_of, column_on, step, spot_after, IsWithin}
use Rattle.cs_lexer.specs.Cuttings.{Reaches, begins, gap, marker, token, token_at, file_after, files_after, marked_spot}
use Rattle.cs_lexer.proofs.Advancing.{LineFits, advances}

-- the text is cut up to this rest; files, lines and columns stay within their bounds when the length of the rest is added
pub record CutSoFar (text : List ℕ) (files : List (List ℕ)) (list : List Token) (spot : Spot) (rest : List ℕ) : Type 0 where
  pub reaches : Reaches text files list spot rest
  pub within : length rest ≤ length text
  pub files_fit : length files + length rest ≤ length text + 1
  pub line_fits : spot.place.line + length rest ≤ 2147483647 + length text
  pub column_fits : spot.place.column + length rest ≤ length text + 1

pub cut_begins : (text : List ℕ) (files : List (List ℕ)) (list : List Token) (spot : Spot) → files ≡ codes "<input>" ∷ [] → list ≡ []
    → spot ≡ start → CutSoFar text files list spot text
cut_begins text files list spot f l s = record {
  reaches = subst (λ fs. Reaches text fs list spot text) (sym f)
      (subst (λ ts. Reaches text (codes "<input>" ∷ []) ts spot text) (sym l)
      (subst (λ at. Reaches text (codes "<input>" ∷ []) [] at text) (sym s) begins));
  within = omega arith;
  files_fit = omega (arith, ap length f);
  line_fits = omega (arith, ap (λ at. at.place.line) s);
  column_fits = omega (arith, ap (λ at. at.place.column) s);
}

-- a piece makes the rest shorter
pub fewer_left : (size : ℕ) (rest left : List ℕ) → 0 < size → 0 < length rest → left ≡ drop size rest → length left < length rest
fewer_left size rest left piece some is = omega (arith, ap length is, length-drop size rest)

-- the sum of a position's line or column and the length of the rest doesn't grow
line_later : (spot later : Spot) (size : ℕ) (rest left : List ℕ) → IsWithin spot (length (take size rest)) later → left ≡ drop size rest
    → later.place.line + length left ≤ spot.place.line + length rest
line_later spot later size rest left within is = omega (arith, within.line, ap length is, length-drop size rest, length-take size rest)

column_later : (spot later : Spot) (size : ℕ) (rest left : List ℕ) → IsWithin spot (length (take size rest)) later → left ≡ drop size rest
    → later.place.column + length left ≤ spot.place.column + length rest
column_later spot later size rest left within is = omega (arith, within.column, ap length is, length-drop size rest, length-take size rest)

step_within : (spot : Spot) (b : ℕ) → IsWithin spot 1 (step spot b)
step_within spot b = elim (b == 10) as (λ t. IsWithin spot 1 (cond t (line_of spot.place.file (spot.place.line + 1)) (column_on spot b))) [
  | true ↦ record { line = omega arith; column = omega arith }
  | false ↦ record { line = omega arith; column = omega arith }
]

spot_within : (spot : Spot) (bytes : List ℕ) → IsWithin spot (length bytes) (spot_after spot bytes)
spot_within spot [] = record { line = omega arith; column = omega arith }
spot_within spot (b ∷ bytes) =
    let first = step_within spot b in
    let rest = spot_within (step spot b) bytes in
    record { line = omega (arith, first.line, rest.line); column = omega (arith, first.column, rest.column) }

pub one_file_more : (files : List (List ℕ)) (name : Option (List ℕ)) → length (files_after files name) ≤ length files + 1
one_file_more files None = omega arith
one_file_more files (Some name) =
    elim (nat_lt (file_number files name) (length files)) as (λ t. length (cond t files (files ++ name ∷ [])) ≤ length files + 1) [
      | true ↦ omega arith
      | false ↦ omega (arith, length-append files (name ∷ []))
    ]

marked_line : (spot : Spot) (file : ℕ) (next : Option ℕ) (size : ℕ) (rest left text : List ℕ) → LineFits next → left ≡ drop size rest
    → length rest ≤ length text → spot.place.line + length rest ≤ 2147483647 + length text
    → (marked_spot spot file next (take size rest)).place.line + length left ≤ 2147483647 + length text
marked_line spot file None size rest left text fits is within line =
    omega (arith, line_later spot (spot_after spot (take size rest)) size rest left (spot_within spot (take size rest)) is)
marked_line spot file (Some next) size rest left text fits is within line = omega (arith, ap length is, length-drop size rest)

marked_column : (spot : Spot) (file : ℕ) (next : Option ℕ) (size : ℕ) (rest left text : List ℕ) → left ≡ drop size rest
    → length rest ≤ length text → spot.place.column + length rest ≤ length text + 1
    → (marked_spot spot file next (take size rest)).place.column + length left ≤ length text + 1
marked_column spot file None size rest left text is within column =
    omega (arith, column_later spot (spot_after spot (take size rest)) size rest left (spot_within spot (take size rest)) is)
marked_column spot file (Some next) size rest left text is within column = omega (arith, ap length is, length-drop size rest)

module _ {text : List ℕ} {files : List (List ℕ)} {list : List Token} {spot : Spot} {rest : List ℕ} (so_far : CutSoFar text files list spot rest)
    (some : 0 < length rest) where
  pub gap_step : (size : ℕ) (later : Spot) (left : List ℕ) → Begins spot.is_line_start rest (found.Gap size)
      → later ≡ spot_after spot (take size rest) → IsWithin spot (length (take size rest)) later → left ≡ drop size rest
      → CutSoFar text files list later left
  gap_step size later left is moved within cut = record {
    reaches = subst (λ at. Reaches text files list at left) (sym moved)
        (subst (λ bytes. Reaches text files list (spot_after spot (take size rest)) bytes) (sym cut) (gap size so_far.reaches some is));
    within = omega (arith, so_far.within, ap length cut, length-drop size rest);
    files_fit = omega (arith, so_far.files_fit, ap length cut, length-drop size rest);
    line_fits = omega (arith, so_far.line_fits, line_later spot later size rest left within cut);
    column_fits = omega (arith, so_far.column_fits, column_later spot later size rest left within cut);
  }

  pub token_step : (size : ℕ) (kind : TokenKind) (later : Spot) (left : List ℕ) (more : List Token)
      → Begins spot.is_line_start rest (found.Token size kind) → more ≡ list ++ token_at kind spot.place ∷ []
      → later ≡ spot_after spot (take size rest) → IsWithin spot (length (take size rest)) later → left ≡ drop size rest
      → CutSoFar text files more later left
  token_step size kind later left more is pushed moved within cut = record {
    reaches = subst (λ ts. Reaches text files ts later left) (sym pushed)
        (subst (λ at. Reaches text files (list ++ token_at kind spot.place ∷ []) at left) (sym moved)
        (subst (λ bytes. Reaches text files (list ++ token_at kind spot.place ∷ []) (spot_after spot (take size rest)) bytes) (sym cut)
        (token size kind so_far.reaches some is)));
    within = omega (arith, so_far.within, ap length cut, length-drop size rest);
    files_fit = omega (arith, so_far.files_fit, ap length cut, length-drop size rest);
    line_fits = omega (arith, so_far.line_fits, line_later spot later size rest left within cut);
    column_fits = omega (arith, so_far.column_fits, column_later spot later size rest left within cut);
  }

  pub marker_step : (size : ℕ) (next : Option ℕ) (name : Option (List ℕ)) (file : ℕ) (later : Spot) (left : List ℕ) (more : List (List ℕ))
      → Begins spot.is_line_start rest (found.Marker size next name) → file ≡ file_after files spot name → more ≡ files_after files name
      → later ≡ marked_spot spot file next (take size rest) → left ≡ drop size rest → CutSoFar text more list later left
  marker_step size next name file later left more is named added moved cut =
      let piece : (0 < size) × LineFits next = advances spot.is_line_start rest (found.Marker size next name) some is in record {
        reaches = subst (λ fs. Reaches text fs list later left) (sym added)
            (subst (λ at. Reaches text (files_after files name) list at left) (sym (moved ∙ ap (λ n. marked_spot spot n next (take size rest)) named))
            (subst (λ bytes. Reaches text (files_after files name) list (marked_spot spot (file_after files spot name) next (take size rest)) bytes) (sym cut)
            (marker size next name so_far.reaches some is)));
        within = omega (arith, so_far.within, ap length cut, length-drop size rest);
        files_fit = omega (arith, so_far.files_fit, ap length cut, length-drop size rest, ap length added, one_file_more files name, piece);
        line_fits = rw moved (marked_line spot file next size rest left text piece.1 cut so_far.within so_far.line_fits);
        column_fits = rw moved (marked_column spot file next size rest left text cut so_far.within so_far.column_fits);
      }
