-- Whether a file continues with a token, from the result of the parser for the tokens with that one appended: for the contract
-- of `file_goes_on`.
use Rattle.std.proofs.Common.{◌≡◌, ℕ, zero, suc, ◌+◌, ◌<◌, ◌≤◌, ◌↔◌, Bool, true, false, IsTrue, ◌⊎◌, inl, inr, List, []}
use Rattle.std.proofs.Common.{◌∷◌, ◌++◌, length, drop, refl, sym, ap, ◌∙◌, subst, arith, append_assoc, append-nil, length-drop}
use Rattle.std.proofs.lemmas.Bool.{cases_lt}
use Rattle.std.proofs.lemmas.List.{append_cancel_right, map-append}
use Rattle.std.proofs.Math.ListN.{drop_of_length-le}
use Rattle.cs_ast.specs.declared.token.Token.{Token}
use Rattle.cs_ast.specs.declared.token.TokenKind.{TokenKind}
use Rattle.cs_ast.specs.RawStatements.{External}
use Rattle.cs_grammar.specs.declared.refusal.Reason.{Reason}
use Rattle.cs_grammar.specs.Text.{Kinds}
use Rattle.cs_grammar.specs.FilePhrases.{BeginsFile, BeginsLowFile}
use Rattle.cs_expr_parser.specs.Positions.{kinds, first_kind, kind_or_end}
use Rattle.cs_expr_parser.specs.Parts.{is_deep}
use Rattle.cs_decl_parser.specs.Files.{IsTheFile}
use Rattle.cs_decl_parser.specs.FileStops.{IsStoppedAt}

kinds_after : (before : List Token) (next : Token) → kinds (before ++ next ∷ []) ≡ kinds before ++ next.kind ∷ []
kinds_after before next = map-append (λ (t : Token). t.kind) before (next ∷ [])

-- they are a file
pub goes_on_whole : (before : List Token) (next : Token) (file : List External) → IsTheFile (before ++ next ∷ []) file
    → BeginsFile (kinds before ++ next.kind ∷ [])
goes_on_whole before next file f = record {
  file = file;
  more = [];
  is_file = f.is_file;
  spelled = sym f.spelled ∙ kinds_after before next ∙ sym (append-nil (kinds before ++ next.kind ∷ []));
}

drop_after : (at : ℕ) (before : List Token) (next : Token) → at ≤ length before → drop at (before ++ next ∷ []) ≡ drop at before ++ next ∷ []
drop_after zero before next less = refl
drop_after (suc at) [] next less = absurd (omega (arith, less))
drop_after (suc at) (t ∷ before) next less = drop_after at before next (omega (arith, less))

-- the tokens before the one that is refused
front_is : (before : List Token) (next : Token) (at : ℕ) (reason : Reason) (r : IsStoppedAt (before ++ next ∷ []) at reason) → at ≤ length before
    → kinds before ≡ r.front ++ kinds (drop at before)
front_is before next at reason r less =
    append_cancel_right (kinds before) (r.front ++ kinds (drop at before)) (next.kind ∷ [])
    (sym (kinds_after before next) ∙ r.spelled.spelled ∙ ap (λ (x : List Token). r.front ++ kinds x) (drop_after at before next less)
    ∙ ap (λ (x : Kinds). r.front ++ x) (kinds_after (drop at before) next)
    ∙ sym (append_assoc r.front (kinds (drop at before)) (next.kind ∷ [])))

with_first : (front : Kinds) (rest : List Token) → 1 ≤ length rest → front ++ kinds rest ≡ (front ++ first_kind rest ∷ []) ++ kinds (drop 1 rest)
with_first front [] some = absurd (omega (arith, some))
with_first front (token ∷ rest) some = sym (append_assoc front (token.kind ∷ []) (kinds rest))

first_after : (rest : List Token) (next : Token) → 1 ≤ length rest → first_kind (rest ++ next ∷ []) ≡ first_kind rest
first_after [] next some = absurd (omega (arith, some))
first_after (token ∷ rest) next some = refl

count : (before : List Token) (next : Token) → length (before ++ next ∷ []) ≡ length before + 1
count [] next = refl
count (t ∷ before) next = let c = count before next in omega (arith, c)

-- none of the tokens before is refused, if a file within the limit begins with them
not_before : (before : List Token) (next : Token) (at : ℕ) (reason : Reason) → IsStoppedAt (before ++ next ∷ []) at reason
    → BeginsLowFile 200 (kinds before) → at < length before → ⊥
not_before before next at reason r b less =
    let n = count before next in
    let some : 1 ≤ length (drop at before) = omega (arith, less, length-drop at before) in
    let within : at < length (before ++ next ∷ []) = omega (arith, less, n) in
    let here : kind_or_end (before ++ next ∷ []) at ≡ first_kind (drop at before) = ap first_kind (drop_after at before next (omega (arith, less)))
    ∙ first_after (drop at before) next some in
    let more : Kinds = kinds (drop 1 (drop at before)) in
    let begun : BeginsLowFile 200 (r.front ++ first_kind (drop at before) ∷ []) = record {
      file = b.file;
      more = more ++ b.more;
      is_file = b.is_file;
      low = b.low;
      spelled =
          b.spelled ∙ ap (λ (x : Kinds). x ++ b.more) (front_is before next at reason r (omega (arith, less)) ∙ with_first r.front (drop at before) some)
          ∙ append_assoc (r.front ++ first_kind (drop at before) ∷ []) more b.more;
    } in
    r.furthest within (subst (λ (k : TokenKind). BeginsLowFile 200 (r.front ++ k ∷ [])) (sym here) begun)

any_height : (front : Kinds) → BeginsLowFile 200 front → BeginsFile front
any_height front b = record { file = b.file; more = b.more; is_file = b.is_file; spelled = b.spelled }

-- the end of input after all of them is refused
at_the_end : (before : List Token) (next : Token) (at : ℕ) (reason : Reason) → IsStoppedAt (before ++ next ∷ []) at reason → length before < at
    → BeginsFile (kinds before ++ next.kind ∷ [])
at_the_end before next at reason r less =
    let n = count before next in
    let all : length (before ++ next ∷ []) ≤ at = omega (arith, less, n) in
    let same : kinds (before ++ next ∷ []) ≡ r.front = r.spelled.spelled
    ∙ ap (λ (x : List Token). r.front ++ kinds x) (drop_of_length-le (before ++ next ∷ []) all) ∙ append-nil r.front in
    subst BeginsFile (sym same ∙ kinds_after before next) (any_height r.front r.begun)

last_kind : (before : List Token) (next : Token) → kind_or_end (before ++ next ∷ []) (length before) ≡ next.kind
last_kind [] next = refl
last_kind (t ∷ before) next = last_kind before next

-- the last one is refused
last_front : (before : List Token) (next : Token) (at : ℕ) (reason : Reason) (r : IsStoppedAt (before ++ next ∷ []) at reason) → at ≡ length before
    → r.front ++ kind_or_end (before ++ next ∷ []) at ∷ [] ≡ kinds before ++ next.kind ∷ []
last_front before next at reason r same =
    let all : length before ≤ at = omega (arith, same) in
    let front : kinds before ≡ r.front = front_is before next at reason r (omega (arith, same))
    ∙ ap (λ (x : List Token). r.front ++ kinds x) (drop_of_length-le before all) ∙ append-nil r.front in
    ap (λ (x : Kinds). x ++ kind_or_end (before ++ next ∷ []) at ∷ []) (sym front)
    ∙ ap (λ (k : TokenKind). kinds before ++ k ∷ []) (ap (λ (n : ℕ). kind_or_end (before ++ next ∷ []) n) same ∙ last_kind before next)

reported_deep : (b : Bool) → (b ≡ false → ⊥) → IsTrue b
reported_deep true none = refl
reported_deep false none = absurd (none refl)

deep_or_end : (before : List Token) (next : Token) (at : ℕ) (reason : Reason) → IsStoppedAt (before ++ next ∷ []) at reason → at ≡ length before
    → IsTrue (is_deep reason) ↔ BeginsFile (kinds before ++ next.kind ∷ [])
deep_or_end before next at reason r same =
    let n = count before next in
    let within : at < length (before ++ next ∷ []) = omega (arith, same, n) in
    let e = last_front before next at reason r same in
    (λ d. subst BeginsFile e (r.deep within d), λ b. reported_deep (is_deep reason) (λ f. r.flat within f (subst BeginsFile (sym e) b)))

-- a token is refused: the last one as too deep, or the end of input
pub goes_on_after : (before : List Token) (next : Token) (at : ℕ) (reason : Reason) (on : Bool)
    → (IsTrue on ↔ ((length before < at) ⊎ (is_deep reason ≡ true))) → IsStoppedAt (before ++ next ∷ []) at reason
    → BeginsLowFile 200 (kinds before) → IsTrue on ↔ BeginsFile (kinds before ++ next.kind ∷ [])
goes_on_after before next at reason on is r b =
    elim (cases_lt at (length before)) [
      | inl less ↦ absurd (not_before before next at reason r b less)
      | inr all ↦ elim (cases_lt (length before) at) [
        | inl past ↦ (λ t. at_the_end before next at reason r past, λ f. is.1 (inl past))
        | inr most ↦
            let d = deep_or_end before next at reason r (omega (arith, all, most)) in
            (λ t. elim (is.0 t) [ inl past ↦ absurd (omega (arith, past, most)) | inr deep ↦ d.0 deep ], λ f. is.1 (inr (d.1 f)))
      ]
    ]
