-- The file of a position is one that the text names: for the refusals of `tokens`.
use Rattle.std.proofs.Common.{◌≡◌, ℕ, ◌+◌, ◌<◌, ◌≤◌, true, false, cond, nat_lt, List, [], ◌∷◌, ◌++◌, length, take, Option, Some}
use Rattle.std.proofs.Common.{None, length-append, refl, ◌∙◌, ap, subst, arith}
use Rattle.std.specs.Prelude.{◌==◌}
use Rattle.std.proofs.lemmas.Bool.Decides.{nat_tests}
use Rattle.std.proofs.lemmas.List.Sums.{prefix_len-le-length}
use Rattle.cs_ast.specs.declared.place.Place.{Place}
use Rattle.cs_ast.specs.declared.token.Token.{Token}
use Rattle.cs_lexer.specs.declared.spot.Spot.{Spot}
use Rattle.cs_lexer.specs.declared.lexeme.Fault.{Fault}
use Rattle.cs_lexer.specs.declared.cut.End.{End}
use Rattle.cs_lexer.specs.declared.cut.End.TheVariants.{Refused}
use Rattle.cs_lexer.specs.Files.{file_number, with_file}
use Rattle.cs_lexer.specs.Spots.{line_of, column_on, step, spot_after}
use Rattle.cs_lexer.specs.Cuttings.{Reaches, begins, gap, marker, token, file_after, files_after, marked_spot, IsRefusedAt, EndsAs}

step_file : (spot : Spot) (b : ℕ) → (step spot b).place.file ≡ spot.place.file
step_file spot b =
    elim (b == 10) as (λ t.
    (cond t (line_of spot.place.file (spot.place.line + 1)) (column_on spot b)).place.file ≡ spot.place.file) [ true ↦ refl | false ↦ refl ]

same_file : (spot : Spot) (bytes : List ℕ) → (spot_after spot bytes).place.file ≡ spot.place.file
same_file spot [] = refl
same_file spot (b ∷ bytes) = same_file (step spot b) bytes ∙ step_file spot b

within : (files : List (List ℕ)) (name : List ℕ) → file_number files name ≤ length files
within files name = prefix_len-le-length _ files

numbered : (files : List (List ℕ)) (name : List ℕ) → file_number files name < length (with_file files name)
numbered files name = elim (nat_lt (file_number files name) (length files)) as (λ t.
    nat_lt (file_number files name) (length files) ≡ t → file_number files name < length (cond t files (files ++ name ∷ []))) [
      | true ↦ λ e. grind (arith, nat_tests)
      | false ↦ λ _. omega (arith, length-append files (name ∷ []), within files name)
    ] refl

pub no_fewer : (files : List (List ℕ)) (name : List ℕ) → length files ≤ length (with_file files name)
no_fewer files name = elim (nat_lt (file_number files name) (length files)) as (λ t. length files ≤ length (cond t files (files ++ name ∷ []))) [
  | true ↦ omega arith
  | false ↦ omega (arith, length-append files (name ∷ []))
]

marked_file : (files : List (List ℕ)) (spot : Spot) (next : Option ℕ) (name : Option (List ℕ)) (bytes : List ℕ) → spot.place.file < length files
    → (marked_spot spot (file_after files spot name) next bytes).place.file < length (files_after files name)
marked_file files spot None None bytes h = omega (arith, same_file spot bytes)
marked_file files spot None (Some name) bytes h = omega (arith, same_file spot bytes, no_fewer files name)
marked_file files spot (Some line) None bytes h = h
marked_file files spot (Some line) (Some name) bytes h = numbered files name

-- the position that cutting has reached is in a file that the text names
pub is_named : (text : List ℕ) (files : List (List ℕ)) (list : List Token) (spot : Spot) (rest : List ℕ) → Reaches text files list spot rest
    → spot.place.file < length files
is_named text _ _ _ _ begins = omega arith
is_named text _ _ _ _ (gap {files} {list} {spot} {rest} size reaches some is) =
    omega (arith, is_named text files list spot rest reaches, same_file spot (take size rest))
is_named text _ _ _ _ (marker {files} {list} {spot} {rest} size next name reaches some is) =
    marked_file files spot next name (take size rest) (is_named text files list spot rest reaches)
is_named text _ _ _ _ (token {files} {list} {spot} {rest} size kind reaches some is) =
    omega (arith, is_named text files list spot rest reaches, same_file spot (take size rest))

-- the first fault is in a file that the text names
pub fault_named : (text : List ℕ) (files : List (List ℕ)) (list : List Token) (place : Place) (fault : Fault) → IsRefusedAt text files list place fault
    → place.file < length files
fault_named text files list place fault r =
    omega (arith, is_named text files r.before r.spot r.rest r.reaches, ap (λ (p : Place). p.file) r.place_is, same_file r.spot (take r.size r.rest))

pub end_named : (text : List ℕ) (files : List (List ℕ)) (list : List Token) (place : Place) (end : End) (fault : Fault) → end ≡ Refused fault
    → EndsAs text files list place end → place.file < length files
end_named text files list place end fault is ends = fault_named text files list place fault (subst (λ e. EndsAs text files list place e) is ends)
