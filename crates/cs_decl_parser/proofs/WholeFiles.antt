-- Tokens that are a file are refused only if memory runs out: for `files_are_not_refused`, and for programs above.
use Rattle.std.specs.Option.{option_map}
use Rattle.std.proofs.Common.{◌≡◌, ℕ, ◌≤◌, List, [], ◌∷◌, ◌++◌, Option, Some, None, length, drop, slice_get, refl, sym, ap, ◌∙◌}
use Rattle.std.proofs.Common.{subst, arith}
use Rattle.std.proofs.Common.{append_assoc, append-nil, length-drop}
use Rattle.std.proofs.lemmas.Option.{slice_get_within}
use Rattle.std.proofs.Math.ListN.{drop_of_length-le}
use Rattle.cs_ast.specs.declared.place.Place.{Place}
use Rattle.cs_ast.specs.declared.token.Token.{Token}
use Rattle.cs_ast.specs.declared.token.TokenKind.{TokenKind}
use Rattle.cs_ast.specs.RawStatements.{External}
use Rattle.cs_grammar.specs.declared.refusal.Reason.{Reason}
use Rattle.cs_grammar.specs.declared.refusal.SyntaxRefusal.{SyntaxRefusal}
use Rattle.cs_grammar.specs.declared.refusal.SyntaxRefusal.TheVariants as refusal
use Rattle.cs_grammar.specs.Text.{Kinds}
use Rattle.cs_grammar.specs.FilePhrases.{BeginsLowFile}
use Rattle.cs_expr_parser.specs.Positions.{kinds, first_kind}
use Rattle.cs_expr_parser.specs.Parts.{Spells}
use Rattle.cs_expr_parser.proofs.Standing.{past_end, kind_of_some}
use Rattle.cs_decl_parser.specs.Files.{IsTheFile, GoesOnLow, IsFileRefusedAt, IsFileRefusal}

pub with_first : (front : Kinds) (rest : List Token) → 1 ≤ length rest → front ++ kinds rest ≡ (front ++ first_kind rest ∷ []) ++ kinds (drop 1 rest)
with_first front [] some = absurd (omega (arith, some))
with_first front (token ∷ rest) some = sym (append_assoc front (token.kind ∷ []) (kinds rest))

-- the file continues with each of its tokens, and with its end
goes_on : (tokens : List Token) (file : List External) (front : Kinds) (at : ℕ) → IsTheFile tokens file → Spells tokens 0 at (λ rest. front ++ rest)
    → (found : Option Token) → slice_get tokens at ≡ found → GoesOnLow 200 front (option_map (λ (t : Token). t.kind) found)
goes_on tokens file front at h s (Some t) e =
    let less = slice_get_within tokens at t e in
    subst (λ (next : TokenKind). BeginsLowFile 200 (front ++ next ∷ [])) (kind_of_some tokens at t e) (record {
      file = file;
      more = kinds (drop 1 (drop at tokens));
      is_file = h.is_file;
      low = h.low;
      spelled = sym h.spelled ∙ s.spelled ∙ with_first front (drop at tokens) (omega (arith, less, length-drop at tokens));
    })
goes_on tokens file front at h s None e =
    let all = past_end tokens at e in (
      file,
      h.is_file,
      h.low,
      sym h.spelled ∙ s.spelled ∙ ap (λ rest. front ++ kinds rest) (drop_of_length-le tokens all) ∙ append-nil front,
    )

not_refused : (tokens : List Token) (file : List External) (at : ℕ) (reason : Reason) → IsTheFile tokens file → IsFileRefusedAt tokens at reason → ⊥
not_refused tokens file at reason h r = r.furthest (goes_on tokens file r.front at h r.spelled (slice_get tokens at) refl)

pub file_or_refused : (tokens : List Token) (end : Place) (file : List External) (r : SyntaxRefusal) → IsTheFile tokens file → IsFileRefusal tokens end r
    → r ≡ refusal.Memory
file_or_refused tokens end file refusal.Memory h i = refl
file_or_refused tokens end file (refusal.Syntax place) h i = absurd (not_refused tokens file i.0 i.1 h i.3)
file_or_refused tokens end file (refusal.Unsupported place word) h i = absurd (not_refused tokens file i.0 i.1 h i.3)
file_or_refused tokens end file (refusal.TooDeep place) h i = absurd (not_refused tokens file i.0 i.1 h i.3)
