-- Tokens have at most one refusal: for `refusals_are_one`.
use Rattle.std.specs.Option.{option_map}
use Rattle.std.proofs.Common.{◌≡◌, ℕ, ◌<◌, inl, inr, List, [], ◌∷◌, ◌++◌, Option, Some, None, length, drop, slice_get, refl, sym, ap}
use Rattle.std.proofs.Common.{◌∙◌, subst, arith}
use Rattle.std.proofs.Common.{append_assoc, length-append, length-drop}
use Rattle.std.proofs.lemmas.Bool.{cases_lt}
use Rattle.std.proofs.lemmas.List.{append_cancel_right}
use Rattle.std.proofs.lemmas.Option.{slice_get_within}
use Rattle.cs_ast.specs.declared.place.Place.{Place}
use Rattle.cs_ast.specs.declared.token.Token.{Token}
use Rattle.cs_ast.specs.declared.token.TokenKind.{TokenKind}
use Rattle.cs_grammar.specs.declared.refusal.Reason.{Reason}
use Rattle.cs_grammar.specs.declared.refusal.Reason.TheVariants.{Syntax, Unsupported, TooDeep}
use Rattle.cs_grammar.specs.declared.refusal.SyntaxRefusal.{SyntaxRefusal}
use Rattle.cs_grammar.specs.declared.refusal.SyntaxRefusal.TheVariants as refusal
use Rattle.cs_grammar.specs.Spelling.{unsupported_spelling}
use Rattle.cs_grammar.specs.Text.{Kinds}
use Rattle.cs_grammar.specs.FilePhrases.{BeginsLowFile}
use Rattle.cs_grammar.specs.FileRefusals.{IsFileReason}
use Rattle.cs_expr_parser.specs.Positions.{kinds, kind_or_end}
use Rattle.cs_expr_parser.specs.Parts.{Spells}
use Rattle.cs_expr_parser.specs.Expression.{kind_at, place_or_end, IsRefusalFor}
use Rattle.cs_expr_parser.proofs.Standing.{past_end, kind_of_some}
use Rattle.cs_expr_parser.proofs.Stopping.{refused_number}
use Rattle.cs_unsupported.proofs.InsideFiles.{split}
use Rattle.cs_decl_parser.specs.Files.{GoesOnLow, IsFileRefusedAt, IsFileRefusal, RefusalsAreOne}
use Rattle.cs_decl_parser.proofs.WholeFiles.{with_first}

-- a file that begins with tokens continues with each of them
goes_on_before : (tokens : List Token) (at other : ℕ) (one two : Kinds) → Spells tokens 0 at (λ rest. one ++ rest)
    → Spells tokens 0 other (λ rest. two ++ rest) → at < other → BeginsLowFile 200 two → (found : Option Token) → slice_get tokens at ≡ found
    → GoesOnLow 200 one (option_map (λ (t : Token). t.kind) found)
goes_on_before tokens at other one two s t less b (Some token) e =
    let within = slice_get_within tokens at token e in
    let next : Kinds = kind_or_end tokens at ∷ [] in
    let later : Kinds = kinds (drop 1 (drop at tokens)) in
    let rest : Kinds = kinds (drop other tokens) in
    let same : (one ++ next) ++ later ≡ two ++ rest = sym (with_first one (drop at tokens) (omega (arith, within, length-drop at tokens)))
    ∙ sym s.spelled ∙ t.spelled in
    let first = refused_number tokens 0 at one s in
    let second = refused_number tokens 0 other two t in
    subst (λ (kind : TokenKind). BeginsLowFile 200 (one ++ kind ∷ [])) (kind_of_some tokens at token e)
    (elim (split (one ++ next) later two rest same) [
      | inl i ↦ record {
        file = b.file;
        more = i.0 ++ b.more;
        is_file = b.is_file;
        low = b.low;
        spelled = b.spelled ∙ ap (λ (x : Kinds). x ++ b.more) i.1 ∙ append_assoc (one ++ next) i.0 b.more;
      }
      | inr i ↦
          let long = sym (length-append one next) ∙ ap length i.2 ∙ length-append two (i.0 ∷ i.1) in
          absurd (omega (arith, long, first, second, less))
    ])
goes_on_before tokens at other one two s t less b None e = absurd (let all = past_end tokens at e in let within = t.within in omega arith)

-- no token is refused before another one
never_later : (tokens : List Token) (at other : ℕ) (reason reason' : Reason) → IsFileRefusedAt tokens at reason → IsFileRefusedAt tokens other reason'
    → at < other → ⊥
never_later tokens at other reason reason' r s less =
    r.furthest (goes_on_before tokens at other r.front s.front r.spelled s.spelled less s.begun (slice_get tokens at) refl)

same_number : (tokens : List Token) (at other : ℕ) (reason reason' : Reason) → IsFileRefusedAt tokens at reason → IsFileRefusedAt tokens other reason'
    → at ≡ other
same_number tokens at other reason reason' r s =
    elim (cases_lt at other) [
      | inl less ↦ absurd (never_later tokens at other reason reason' r s less)
      | inr most ↦ elim (cases_lt other at) [
        | inl less ↦ absurd (never_later tokens other at reason' reason s r less)
        | inr least ↦ omega (arith, most, least)
      ]
    ]

same_front : (tokens : List Token) (at other : ℕ) (one two : Kinds) → Spells tokens 0 at (λ rest. one ++ rest)
    → Spells tokens 0 other (λ rest. two ++ rest) → at ≡ other → one ≡ two
same_front tokens at other one two s t same =
    append_cancel_right one two (kinds (drop at tokens))
    (sym s.spelled ∙ t.spelled ∙ ap (λ (n : ℕ). two ++ kinds (drop n tokens)) (sym same))

one_reason : (front : Kinds) (next : Option TokenKind) (reason reason' : Reason) → IsFileReason front next reason → IsFileReason front next reason'
    → reason ≡ reason'
one_reason front next TooDeep TooDeep r s = refl
one_reason front next Unsupported Unsupported r s = refl
one_reason front next Syntax Syntax r s = refl
one_reason front next TooDeep Unsupported r s = absurd (s.0 r)
one_reason front next TooDeep Syntax r s = absurd (s.0 r)
one_reason front next Unsupported TooDeep r s = absurd (r.0 s)
one_reason front next Syntax TooDeep r s = absurd (r.0 s)
one_reason front next Unsupported Syntax r s = absurd (s.1 r.1)
one_reason front next Syntax Unsupported r s = absurd (r.1 s.1)

same_reason : (tokens : List Token) (at other : ℕ) (reason reason' : Reason) → IsFileRefusedAt tokens at reason → IsFileRefusedAt tokens other reason'
    → at ≡ other → reason ≡ reason'
same_reason tokens at other reason reason' r s same =
    one_reason r.front (kind_at tokens at) reason reason' r.why
    (subst (λ (front : Kinds). IsFileReason front (kind_at tokens at) reason') (sym (same_front tokens at other r.front s.front r.spelled s.spelled same))
    (subst (λ (n : ℕ). IsFileReason s.front (kind_at tokens n) reason') (sym same) s.why))

-- the refusal of a token, or of the end of input, for a reason
abbrev the_refusal : List Token → Place → ℕ → Reason → SyntaxRefusal
the_refusal tokens end at Syntax = refusal.Syntax (place_or_end tokens end at)
the_refusal tokens end at Unsupported = refusal.Unsupported (place_or_end tokens end at) (unsupported_spelling (kind_or_end tokens at))
the_refusal tokens end at TooDeep = refusal.TooDeep (place_or_end tokens end at)

is_the_refusal : (tokens : List Token) (end : Place) (at : ℕ) (reason : Reason) (r : SyntaxRefusal) → IsRefusalFor tokens end at reason r
    → (r ≡ refusal.Memory → ⊥) → r ≡ the_refusal tokens end at reason
is_the_refusal tokens end at Syntax (refusal.Syntax place) f some = ap refusal.Syntax f
is_the_refusal tokens end at Unsupported (refusal.Unsupported place word) f some =
    ap (λ (p : Place). refusal.Unsupported p word) f.0 ∙ ap (λ (w : List ℕ). refusal.Unsupported (place_or_end tokens end at) w) f.1
is_the_refusal tokens end at TooDeep (refusal.TooDeep place) f some = ap refusal.TooDeep f
is_the_refusal tokens end at reason refusal.Memory f some = absurd (some refl)
is_the_refusal tokens end at Syntax (refusal.Unsupported place word) f some = absurd f
is_the_refusal tokens end at Syntax (refusal.TooDeep place) f some = absurd f
is_the_refusal tokens end at Unsupported (refusal.Syntax place) f some = absurd f
is_the_refusal tokens end at Unsupported (refusal.TooDeep place) f some = absurd f
is_the_refusal tokens end at TooDeep (refusal.Syntax place) f some = absurd f
is_the_refusal tokens end at TooDeep (refusal.Unsupported place word) f some = absurd f

-- where and why tokens are refused
abbrev Why : List Token → Place → SyntaxRefusal → Type 0
Why tokens end r = (at : ℕ) × (reason : Reason) × IsRefusalFor tokens end at reason r × IsFileRefusedAt tokens at reason

why : (tokens : List Token) (end : Place) (r : SyntaxRefusal) → IsFileRefusal tokens end r → (r ≡ refusal.Memory → ⊥) → Why tokens end r
why tokens end (refusal.Syntax place) f some = f
why tokens end (refusal.Unsupported place word) f some = f
why tokens end (refusal.TooDeep place) f some = f
why tokens end refusal.Memory f some = absurd (some refl)

pub refusals_are_one : RefusalsAreOne
refusals_are_one tokens end one other is is' some some' =
    let r = why tokens end one is some in
    let s = why tokens end other is' some' in
    let same = same_number tokens r.0 s.0 r.1 s.1 r.3 s.3 in
    is_the_refusal tokens end r.0 r.1 one r.2 some ∙ ap (λ (n : ℕ). the_refusal tokens end n r.1) same
    ∙ ap (λ (x : Reason). the_refusal tokens end s.0 x) (same_reason tokens r.0 s.0 r.1 s.1 r.3 s.3 same)
    ∙ sym (is_the_refusal tokens end s.0 s.1 other s.2 some')
