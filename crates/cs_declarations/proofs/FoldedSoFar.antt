-- Rules on a list that is partly read: for the loops over constants, members, typedefs and parameters.
use Rattle.std.proofs.Common.{◌≡◌, ℕ, ◌+◌, ◌<◌, ◌≤◌, List, [], ◌∷◌, length, drop, get_or, sym, ap, ◌∙◌}
use Rattle.std.proofs.lemmas.List.{at_drop_more, drop_all}
use Rattle.cs_scopes.specs.declared.refusal.TypeRefusal.{TypeRefusal}
use Rattle.cs_scopes.specs.Verdicts.{Verdict, Fine, lift, IsRefused}
use Rattle.cs_scopes.proofs.Lifting.{lift-fine, lift-refused}
use Rattle.cs_declarations.proofs.SaidSoFar.{refused_by}

-- a rule on a list applies a rule to the first element, then itself to the others
abbrev pub GoesOver : {D S : Type 0} → (List D → S → Verdict S) → (D → S → Verdict S) → Type 0
GoesOver {D} {S} whole part = ((parts : List D) (first : D) (before : S) → whole (first ∷ parts) before ≡ lift (whole parts) (part first before))
    × ((before : S) → whole [] before ≡ Fine before)

at_part : {D S : Type 0} (whole : List D → S → Verdict S) (part : D → S → Verdict S) → GoesOver whole part
    → (parts : List D) (i : ℕ) (d : D) (v : Verdict S) (before : S) → i < length parts → d ≡ get_or parts i d → v ≡ whole (drop i parts) before
    → v ≡ lift (whole (drop (i + 1) parts)) (part d before)
at_part whole part over parts i d v before within is so_far =
    so_far ∙ at_drop_more (λ ps. whole ps before) parts i d within ∙ ap (λ p. whole (p ∷ drop (i + 1) parts) before) (sym is)
    ∙ over.0 (drop (i + 1) parts) d before

pub part_taken : {D S : Type 0} (whole : List D → S → Verdict S) (part : D → S → Verdict S) → GoesOver whole part
    → (parts : List D) (i : ℕ) (d : D) (v : Verdict S) (before after : S) → i < length parts → d ≡ get_or parts i d
    → v ≡ whole (drop i parts) before → part d before ≡ Fine after → v ≡ whole (drop (i + 1) parts) after
part_taken whole part over parts i d v before after within is so_far e =
    at_part whole part over parts i d v before within is so_far ∙ ap (lift (whole (drop (i + 1) parts))) e ∙ lift-fine (whole (drop (i + 1) parts)) after

pub part_stops : {D S : Type 0} (whole : List D → S → Verdict S) (part : D → S → Verdict S) → GoesOver whole part
    → (parts : List D) (i : ℕ) (d : D) (v : Verdict S) (before : S) (r : TypeRefusal) → i < length parts → d ≡ get_or parts i d
    → v ≡ whole (drop i parts) before → IsRefused (part d before) r → IsRefused v r
part_stops whole part over parts i d v before r within is so_far h =
    refused_by r (at_part whole part over parts i d v before within is so_far) (lift-refused (whole (drop (i + 1) parts)) (part d before) r h)

pub parts_end : {D S : Type 0} (whole : List D → S → Verdict S) (part : D → S → Verdict S) → GoesOver whole part
    → (parts : List D) (i : ℕ) (v : Verdict S) (before : S) → length parts ≤ i → v ≡ whole (drop i parts) before → v ≡ Fine before
parts_end whole part over parts i v before past so_far = so_far ∙ ap (λ ps. whole ps before) (drop_all i parts past) ∙ over.1 before
