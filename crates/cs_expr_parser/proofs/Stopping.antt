-- Refusals inside a phrase, over indices of tokens: for the contracts of all parts of the parser.
use Rattle.std.proofs.Common.{◌≡◌, ℕ, ◌+◌, ◌-◌, ◌<◌, ◌≤◌, ◌⊎◌, inl, inr, Bool, true, false, ◌&&◌, ◌||◌}
use Rattle.std.proofs.Common.{if◌then◌else◌, List, [], ◌∷◌, ◌++◌, length, drop, refl, sym, ap, ◌∙◌, subst, arith, append_assoc}
use Rattle.std.proofs.Common.{length-drop}
use Rattle.std.proofs.lemmas.List.{length-append, length-map}
use Rattle.cs_ast.specs.declared.token.Token.{Token}
use Rattle.cs_ast.specs.declared.token.TokenKind.{TokenKind}
use Rattle.cs_ast.specs.RawView.{written}
use Rattle.cs_grammar.specs.declared.refusal.Reason.{Reason}
use Rattle.cs_grammar.specs.declared.refusal.Reason.TheVariants.{Syntax, Unsupported, TooDeep}
use Rattle.cs_grammar.specs.Text.{Kinds}
use Rattle.cs_grammar.specs.Parsing.{Class, Refused}
use Rattle.cs_expr_parser.specs.Positions.{kinds, kind_or_end, is_unsupported, is_brace}
use Rattle.cs_expr_parser.specs.Reasons.{plain_reason, reason_of, ends_in_type}
use Rattle.cs_expr_parser.specs.Parts.{Spells, IsRefused, Stops, is_deep}
use Rattle.cs_expr_parser.specs.declared.stop.Stop.{Stop}
use Rattle.cs_expr_parser.specs.declared.stop.Stop.TheVariants as stop
use Rattle.cs_expr_parser.specs.declared.stop.Taken.{Taken}
use Rattle.cs_expr_parser.proofs.Standing.{spells_none, spells_more}

not_deep : (b : Bool) → is_deep (if b then Unsupported else Syntax) ≡ false
not_deep true = refl
not_deep false = refl

pub plain_not_deep : (next : TokenKind) (after_type : Bool) → is_deep (plain_reason next after_type) ≡ false
plain_not_deep next after_type = not_deep (is_unsupported next || (after_type && is_brace next))

-- the reason states whether a higher phrase continues
pub deep_reason : (deep : Bool) (next : TokenKind) (after_type : Bool) → is_deep (reason_of deep next after_type) ≡ deep
deep_reason true next after_type = refl
deep_reason false next after_type = plain_not_deep next after_type

-- the token at an index is refused after these
pub refused_at : (C : Class) (limit : ℕ) (tokens : List Token) (from at : ℕ) (reason : Reason) (deep : Bool) (front : Kinds)
    → Spells tokens from at (λ rest. front ++ rest) → is_deep reason ≡ deep → Refused C limit front (kind_or_end tokens at) deep
    → Stops C limit tokens from (stop.Refused at reason)
refused_at C limit tokens from at reason deep front spelled is r =
    record { front = front; spelled = spelled; refused = subst (λ (d : Bool). Refused C limit front (kind_or_end tokens at) d) (sym is) r }

-- the refusal of the token after what was taken
abbrev pub IsRefusalAfter : List Token → Taken → Stop → Type 0
IsRefusalAfter tokens taken s = s ≡ stop.Refused taken.next (reason_of taken.deep (kind_or_end tokens taken.next) (ends_in_type (written taken.tree)))

-- the token after what was taken is refused
pub refused_after : (C : Class) (limit : ℕ) (tokens : List Token) (from : ℕ) (taken : Taken) (s : Stop) (front : Kinds) → IsRefusalAfter tokens taken s
    → Spells tokens from taken.next (λ rest. front ++ rest) → Refused C limit front (kind_or_end tokens taken.next) taken.deep
    → Stops C limit tokens from s
refused_after C limit tokens from taken s front is spelled r =
    subst (Stops C limit tokens from) (sym is)
    (refused_at C limit tokens from taken.next (reason_of taken.deep (kind_or_end tokens taken.next) (ends_in_type (written taken.tree))) taken.deep front
    spelled (deep_reason taken.deep (kind_or_end tokens taken.next) (ends_in_type (written taken.tree))) r)

-- the refusal of the token at an index
abbrev pub IsRefusalAt : List Token → ℕ → Bool → Stop → Type 0
IsRefusalAt tokens at deep s = s ≡ stop.Refused at (reason_of deep (kind_or_end tokens at) false)

-- the first token is refused
pub refused_first : (C : Class) (limit : ℕ) (tokens : List Token) (from : ℕ) (deep : Bool) (s : Stop) → from ≤ length tokens
    → IsRefusalAt tokens from deep s → Refused C limit [] (kind_or_end tokens from) deep → Stops C limit tokens from s
refused_first C limit tokens from deep s within is r =
    subst (Stops C limit tokens from) (sym is)
    (refused_at C limit tokens from from (reason_of deep (kind_or_end tokens from) false) deep [] (spells_none tokens from within)
    (deep_reason deep (kind_or_end tokens from) false) r)

-- a refusal on a tighter level is one on a looser level
pub stops_pass : (C D : Class) (limit : ℕ) (tokens : List Token) (from : ℕ)
    → ((front : Kinds) (at : ℕ) (deep : Bool) → Spells tokens from at (λ rest. front ++ rest) → Refused D limit front (kind_or_end tokens at) deep
    → Refused C limit front (kind_or_end tokens at) deep) → (s : Stop) → Stops D limit tokens from s → Stops C limit tokens from s
stops_pass C D limit tokens from lift stop.Memory s = tt
stops_pass C D limit tokens from lift (stop.Refused at reason) s =
    record { front = s.front; spelled = s.spelled; refused = lift s.front at (is_deep reason) s.spelled s.refused }

-- the tokens between two indices are as many as the indices differ by
pub refused_number : (tokens : List Token) (from at : ℕ) (front : Kinds) → Spells tokens from at (λ rest. front ++ rest) → at ≡ from + length front
refused_number tokens from at front sp =
    let a : length (kinds (drop from tokens)) ≡ length tokens - from = length-map (drop from tokens) (λ (t : Token). t.kind) ∙ length-drop from tokens in
    let b : length (kinds (drop at tokens)) ≡ length tokens - at = length-map (drop at tokens) (λ (t : Token). t.kind) ∙ length-drop at tokens in
    let c : length (kinds (drop from tokens)) ≡ length front + length (kinds (drop at tokens)) = ap length sp.spelled
    ∙ length-append front (kinds (drop at tokens)) in
    let w = sp.within in
    let o = sp.onward in
    omega arith

-- after no tokens, the first token was refused
pub refused_here : (tokens : List Token) (from at : ℕ) (front : Kinds) → Spells tokens from at (λ rest. front ++ rest) → front ≡ []
    → kind_or_end tokens at ≡ kind_or_end tokens from
refused_here tokens from at front sp none =
    let n = refused_number tokens from at front sp in
    let l : length front ≡ 0 = ap length none in
    let e : at ≡ from = omega arith in
    ap (kind_or_end tokens) e

-- a part was refused
pub stops_in : (C D : Class) (limit inner : ℕ) (tokens : List Token) (from mid : ℕ) (before : Kinds) → Spells tokens from mid (λ rest. before ++ rest)
    → ((front : Kinds) (at : ℕ) (deep : Bool) → Spells tokens mid at (λ rest. front ++ rest) → Refused D inner front (kind_or_end tokens at) deep
    → Refused C limit (before ++ front) (kind_or_end tokens at) deep) → (s : Stop) → Stops D inner tokens mid s → Stops C limit tokens from s
stops_in C D limit inner tokens from mid before spelled lift stop.Memory s = tt
stops_in C D limit inner tokens from mid before spelled lift (stop.Refused at reason) s =
    record {
      front = before ++ s.front;
      spelled =
          let b = spells_more tokens from mid at (λ rest. before ++ rest) (λ rest. s.front ++ rest) spelled s.spelled in
          record { onward = b.onward; within = b.within; spelled = b.spelled ∙ sym (append_assoc before s.front (kinds (drop at tokens))) };
      refused = lift s.front at (is_deep reason) s.spelled s.refused;
    }
