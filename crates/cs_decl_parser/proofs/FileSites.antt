-- Each return of the parser of files, over indices of tokens.
use Rattle.std.specs.Option.{option_map}
use Rattle.std.proofs.Common.{◌≡◌, ℕ, suc, get_or, Option, ◌<◌, ◌≤◌, inl, inr, Bool, false, List, [], ◌∷◌, ◌++◌, map, length, drop}
use Rattle.std.proofs.Common.{take, refl, sym, ap, ◌∙◌, subst, arith, append_assoc, append-nil, length-append, length-drop, drop_at, Some, None}
use Rattle.std.proofs.Common.{slice_get}
use Rattle.std.proofs.lemmas.Bool.{false≢true}
use Rattle.std.proofs.lemmas.Option.{slice_get_within}
use Rattle.std.proofs.lemmas.List.{append_cancel_right, take-append-drop, map-append, length-map}
use Rattle.std.proofs.Math.Seq.{drop-cons}
use Rattle.std.proofs.Math.ListN.{drop_of_length-le}
use Rattle.cs_ast.specs.declared.place.Place.{Place}
use Rattle.cs_ast.specs.declared.token.Token.{Token}
use Rattle.cs_ast.specs.declared.token.TokenKind.{TokenKind}
use Rattle.cs_ast.specs.declared.raw.declaration.RawDeclarator.{RawDeclarator}
use Rattle.cs_ast.specs.declared.raw.external.RawExternal.{RawExternal}
use Rattle.cs_ast.specs.RawDeclarationView.{declarator}
use Rattle.cs_ast.specs.RawStatements.{External}
use Rattle.cs_ast.specs.RawStatementView.{external}
use Rattle.cs_grammar.specs.declared.refusal.Reason.{Reason}
use Rattle.cs_grammar.specs.declared.refusal.SyntaxRefusal.{SyntaxRefusal}
use Rattle.cs_grammar.specs.declared.refusal.SyntaxRefusal.TheVariants as refusal
use Rattle.cs_grammar.specs.TypeWords.{Names}
use Rattle.cs_grammar.specs.Text.{Kinds}
use Rattle.cs_grammar.specs.FileText.{externals_text, external_text}
use Rattle.cs_grammar.specs.FilePhrases.{with_name, with_names, names_after, IsFile, BeginsLowFile}
use Rattle.cs_grammar.specs.FileRefusals.{IsFileReason}
use Rattle.cs_grammar.specs.Parsing.{Refused}
use Rattle.cs_grammar.specs.DeclarationClasses.{Externals}
use Rattle.cs_grammar.proofs.FileTexts.{external_append, externals_append}
use Rattle.cs_grammar.proofs.FileRules.{FileSoFar, file_none, file_more, file_refused, file_unfinished, file_took}
use Rattle.cs_expr_parser.specs.Positions.{kinds, kind_or_end}
use Rattle.cs_expr_parser.specs.Parts.{Spells, IsRefused, is_deep}
use Rattle.cs_expr_parser.specs.Expression.{kind_at, reason_there, IsRefusalFor}
use Rattle.cs_expr_parser.specs.declared.stop.Stop.{Stop}
use Rattle.cs_expr_parser.specs.declared.stop.Stop.TheVariants as stop
use Rattle.cs_declarator_parser.specs.declared.stop.Taken.{Taken}
use Rattle.cs_declarator_parser.specs.Answers.{Stops, IsExactly}
use Rattle.cs_decl_parser.specs.Files.{parts_of, IsTheFile, GoesOnLow, IsFileRefusedAt, IsFileRefusal}
use Rattle.cs_decl_parser.specs.FileStops.{IsTokenRefusedAt, IsPartRefusedAt, FileStops}
use Rattle.cs_decl_parser.specs.declared.externals.Parts.{Parts}
use Rattle.cs_decl_parser.specs.ReadParts.{StandsAmidst}
use Rattle.cs_unsupported.specs.LastParts.{BeginsWith, EndInPart}
use Rattle.cs_unsupported.proofs.InsideFiles.{split}
use Rattle.cs_declarator_parser.specs.declared.source.Scope.TheVariants as scope
use Rattle.cs_declarator_parser.specs.Aptness.{IsApt, IsStopApt}
use Rattle.cs_decl_parser.proofs.FileReasonsHere.{reason_of_kind}
use Rattle.cs_grammar.proofs.FileReasons.{end_reason}
use Rattle.cs_expr_parser.proofs.Standing.{past_end, kind_of_some, spells_none, spells_more, spells_as}
use Rattle.cs_expr_parser.proofs.Stopping.{refused_number}

-- so many external declarations were taken, after which these are the typedef names
pub record PartsSoFar (names : Names) (tokens : List Token) (done : List External) (next : ℕ) : Type 0 where
  pub spelled : Spells tokens 0 next (externals_text done)
  pub so_far : FileSoFar names 200 done

pub parts_none : (tokens : List Token) → PartsSoFar [] tokens [] 0
parts_none tokens = record { spelled = spells_none tokens 0 (omega arith); so_far = file_none 200 }

text_more : (done more : List External) (x : Kinds) → externals_text (done ++ more) x ≡ externals_text done (externals_text more x)
text_more [] more x = refl
text_more (d ∷ ds) more x = ap (external_text d) (text_more ds more x)

parts_push : (done : List RawExternal) (e : RawExternal) → parts_of (done ++ e ∷ []) ≡ parts_of done ++ external e ∷ []
parts_push [] e = refl
parts_push (d ∷ ds) e = ap (λ (x : List External). external d ∷ x) (parts_push ds e)

-- one more was taken
pub parts_more : (names later : Names) (tokens : List Token) (done all : List RawExternal) (next : ℕ) (taken : Taken RawExternal)
    → PartsSoFar names tokens (parts_of done) next → IsExactly (Externals names) external 200 tokens next taken
    → later ≡ names_after names (external taken.tree) → all ≡ done ++ taken.tree ∷ [] → PartsSoFar later tokens (parts_of all) taken.next
parts_more names later tokens done all next taken s t n e =
    let list : parts_of all ≡ parts_of done ++ external taken.tree ∷ [] = ap parts_of e ∙ parts_push done taken.tree in
    let more : PartsSoFar (names_after names (external taken.tree)) tokens (parts_of done ++ external taken.tree ∷ []) taken.next = record {
      spelled =
          spells_as tokens 0 taken.next (λ rest. externals_text (parts_of done) (external_text (external taken.tree) rest))
          (externals_text (parts_of done ++ external taken.tree ∷ []))
          (spells_more tokens 0 next taken.next (externals_text (parts_of done)) (external_text (external taken.tree)) s.spelled t.spelled)
          (λ rest. sym (text_more (parts_of done) (external taken.tree ∷ []) rest));
      so_far = file_more names 200 (parts_of done) (external taken.tree) s.so_far t.exactly;
    } in
    subst (λ (m : Names). PartsSoFar m tokens (parts_of all) taken.next) (sym n)
    (subst (λ (x : List External). PartsSoFar (names_after names (external taken.tree)) tokens x taken.next) (sym list) more)

-- an external declaration was refused
part_refused : (names : Names) (tokens : List Token) (done : List External) (next at : ℕ) (reason : Reason) → next < length tokens
    → PartsSoFar names tokens done next → IsRefused (Externals names) 200 tokens next at reason → IsApt scope.File (kind_or_end tokens at) reason
    → IsPartRefusedAt tokens at reason
part_refused names tokens done next at reason some s r apt =
    let f = file_refused names 200 done s.so_far r.front (kind_or_end tokens at) (is_deep reason) r.refused in
    let sp : Spells tokens 0 at (λ rest. (externals_text done [] ++ r.front) ++ rest) =
    spells_as tokens 0 at (λ rest. externals_text done (r.front ++ rest)) (λ rest. (externals_text done [] ++ r.front) ++ rest)
    (spells_more tokens 0 next at (externals_text done) (λ rest. r.front ++ rest) s.spelled r.spelled)
    (λ rest. sym (externals_append done [] (r.front ++ rest)) ∙ sym (append_assoc (externals_text done []) r.front rest)) in
    record {
      stopped = record {
        front = externals_text done [] ++ r.front;
        spelled = sp;
        begun = f.begun;
        furthest = λ within. f.never;
        deep = λ within. f.further;
        flat = λ within. f.nothing;
        unfinished = λ ends file is same.
            file_unfinished names 200 done s.so_far r.front (kind_or_end tokens at) (is_deep reason)
            (λ none. let n = refused_number tokens next at r.front r.spelled in let l : length r.front ≡ 0 = ap length none in
            omega (arith, n, l, ends, some)) r.refused file is same;
      };
      why = λ within e. reason_of_kind (externals_text done [] ++ r.front) (kind_or_end tokens at) reason f.further f.nothing apt e;
    }

-- the tokens after those that were taken are in the next external declaration
ends_in : (names : Names) (front more : Kinds) (next : TokenKind) (rest : List External) → IsFile names rest → externals_text rest [] ≡ front ++ more
    → Refused (Externals names) 200 front next false → 0 < length front → BeginsWith names front rest
ends_in names [] more next rest is e r some = absurd (omega (arith, some))
ends_in names (k ∷ front) more next [] is e r some = absurd cc
ends_in names (k ∷ front) more next (x ∷ xs) is e r some =
    elim (split (external_text x []) (externals_text xs []) (k ∷ front) more (external_append x [] (externals_text xs []) ∙ e)) [
      | inl s ↦
          absurd (false≢true (r.never x s.0 [] is.0 tt (inl refl) (sym (external_append x [] s.0) ∙ sym s.1 ∙ sym (append-nil (k ∷ front)))).reported)
      | inr s ↦ record { whole = x; others = xs; more = s.0 ∷ s.1; parts_are = refl; is = is.0; spelled = s.2 }
    ]

-- in each file that begins with the tokens before the refused one
amidst : (names : Names) (tokens : List Token) (done : List External) (next at : ℕ) (reason : Reason) → PartsSoFar names tokens done next
    → IsRefused (Externals names) 200 tokens next at reason → is_deep reason ≡ false → EndInPart names (kinds (take at tokens)) next
amidst names tokens done next at reason s r flat file more is same =
    let text : Kinds = externals_text done [] in
    let sp : Spells tokens 0 at (λ rest. (text ++ r.front) ++ rest) =
    spells_as tokens 0 at (λ rest. externals_text done (r.front ++ rest)) (λ rest. (text ++ r.front) ++ rest)
    (spells_more tokens 0 next at (externals_text done) (λ rest. r.front ++ rest) s.spelled r.spelled)
    (λ rest. sym (externals_append done [] (r.front ++ rest)) ∙ sym (append_assoc text r.front rest)) in
    let front : kinds (take at tokens) ≡ text ++ r.front =
    append_cancel_right (kinds (take at tokens)) (text ++ r.front) (kinds (drop at tokens))
    (sym (map-append (λ (t : Token). t.kind) (take at tokens) (drop at tokens)) ∙ ap kinds (take-append-drop at tokens) ∙ sp.spelled) in
    let all : kinds tokens ≡ text ++ kinds (drop next tokens) = s.spelled.spelled ∙ sym (externals_append done [] (kinds (drop next tokens))) in
    let count = ap length all ∙ length-append text (kinds (drop next tokens)) in
    let l1 = length-map tokens (λ (t : Token). t.kind) in
    let l2 = length-map (drop next tokens) (λ (t : Token). t.kind) in
    let l3 = length-drop next tokens in
    let within = s.spelled.within in
    let begins : length text ≡ next = omega (arith, count, l1, l2, l3, within) in
    let f = s.so_far.invert file [] (r.front ++ more) is refl tt (same ∙ ap (λ (x : Kinds). x ++ more) front ∙ append_assoc text r.front more) in
    let part : drop next (kinds (take at tokens)) ≡ r.front = ap (drop next) front ∙ drop_at text r.front next begins in
    record {
      done = done;
      others = f.0;
      file_is = f.1;
      begins = begins;
      ends = λ some.
          let n = ap length front ∙ length-append text r.front in
          subst (λ (x : Kinds). BeginsWith names x f.0) (sym part)
          (ends_in names r.front more (kind_or_end tokens at) f.0 f.2 (sym f.3)
          (subst (λ (deep : Bool). Refused (Externals names) 200 r.front (kind_or_end tokens at) deep) flat r.refused) (omega (arith, some, n, begins)));
    }

pub stands_amidst : (parts : Parts) (tokens : List Token) (done : List External) → PartsSoFar parts.names tokens done parts.next
    → (s : Stop) → Stops (Externals parts.names) 200 tokens parts.next s → StandsAmidst tokens parts s
stands_amidst parts tokens done p stop.Memory r = tt
stands_amidst parts tokens done p (stop.Refused at reason) r = (r.spelled.onward, λ flat. amidst parts.names tokens done parts.next at reason p r flat)

pub file_stops : (names : Names) (tokens : List Token) (done : List External) (next : ℕ) → next < length tokens → PartsSoFar names tokens done next
    → (s : Stop) → Stops (Externals names) 200 tokens next s → IsStopApt scope.File tokens s → FileStops tokens s
file_stops names tokens done next some s stop.Memory r apt = tt
file_stops names tokens done next some s (stop.Refused at reason) r apt = part_refused names tokens done next at reason some s r apt

-- all external declarations were taken
pub file_taken : (names : Names) (tokens : List Token) (done : List External) (next : ℕ) → length tokens ≤ next → PartsSoFar names tokens done next
    → IsTheFile tokens done
file_taken names tokens done next all s =
    let t = file_took names 200 done s.so_far in
    let sp = s.spelled in
    record {
      is_file = t.0;
      low = t.1;
      spelled = sp.spelled ∙ ap (λ (rest : List Token). externals_text done (kinds rest)) (drop_of_length-le tokens all);
      only = t.2;
    }

-- no file continues with the token, or with the end of input, for the right reason; the end of input is a syntax error
refused_next : (tokens : List Token) (at : ℕ) (reason : Reason) (found : Option Token) → slice_get tokens at ≡ found
    → (r : IsTokenRefusedAt tokens at reason)
    → (GoesOnLow 200 r.stopped.front (option_map (λ (token : Token). token.kind) found) → ⊥)
    × IsFileReason r.stopped.front (option_map (λ (token : Token). token.kind) found)
    (reason_there (option_map (λ (token : Token). token.kind) found) reason)
refused_next tokens at reason (Some t) e r =
    let less = slice_get_within tokens at t e in
    let same = kind_of_some tokens at t e in (
      subst (λ (x : TokenKind). BeginsLowFile 200 (r.stopped.front ++ x ∷ []) → ⊥) same (r.stopped.furthest less),
      subst (λ (x : TokenKind). IsFileReason r.stopped.front (Some x) reason) same (r.why less),
    )
refused_next tokens at reason None e r =
    let none = r.stopped.unfinished (omega (arith, past_end tokens at e, r.stopped.spelled.within)) in
    (λ f. none f.0 f.1 f.3, end_reason r.stopped.front none)

refused_there : (tokens : List Token) (at : ℕ) (reason : Reason) → IsTokenRefusedAt tokens at reason
    → IsFileRefusedAt tokens at (reason_there (kind_at tokens at) reason)
refused_there tokens at reason r =
    let next = refused_next tokens at reason (slice_get tokens at) refl r in
    record { front = r.stopped.front; spelled = r.stopped.spelled; begun = r.stopped.begun; furthest = next.0; why = next.1 }

with_stop : (tokens : List Token) (end : Place) (at : ℕ) (reason : Reason) (r : SyntaxRefusal) → IsRefusalFor tokens end at reason r
    → IsFileRefusedAt tokens at reason → IsFileRefusal tokens end r
with_stop tokens end at reason refusal.Memory h s = tt
with_stop tokens end at reason (refusal.Syntax place) h s = (at, reason, h, s)
with_stop tokens end at reason (refusal.Unsupported place word) h s = (at, reason, h, s)
with_stop tokens end at reason (refusal.TooDeep place) h s = (at, reason, h, s)

-- the refusal of a token, or of the end of input
pub token_refusal : (tokens : List Token) (end : Place) (at : ℕ) (reason : Reason) (r : SyntaxRefusal)
    → IsRefusalFor tokens end at (reason_there (kind_at tokens at) reason) r → IsTokenRefusedAt tokens at reason → IsFileRefusal tokens end r
token_refusal tokens end at reason r f s = with_stop tokens end at (reason_there (kind_at tokens at) reason) r f (refused_there tokens at reason s)

-- the names of a typedef, one after another
pub with_next : (names : Names) (list : List RawDeclarator) (at : ℕ) (d : RawDeclarator) → at < length list
    → with_names names (map declarator (drop at list)) ≡ with_names (with_name names (get_or list at d).name) (map declarator (drop (suc at) list))
with_next names list at d less = ap (λ (x : List RawDeclarator). with_names names (map declarator x)) (drop-cons list at d less)
