-- The lines of the kinds' reports: for `append_kind` and `append_kinds`.
use Rattle.std.proofs.Common.{◌≡◌, ℕ, ◌+◌, ◌<◌, Bool, List, [], ◌∷◌, ◌++◌, codes, take, length, get_or, ap, sym, ◌∙◌, append_assoc, append-nil}
use Rattle.std.proofs.Common.{add-one, OnOk, Result, Ok, Err}
use Rattle.std.proofs.Math.Seq.{take-suc}
use Rattle.std.proofs.lemmas.Bool.{ne_eqb}
use Rattle.std.proofs.lemmas.Grind.{flat_map-append}
use Rattle.std.specs.List.{flat_map}
use Rattle.std.specs.Prelude.{nat_eq, if◌then◌else◌}
use Rattle.std.specs.Fmt.{decimal}
use Rattle.cs_model.specs.declared.kind.Kind.{Kind}
use Rattle.cs_model.specs.Kinds.{kind_name}
use Rattle.cs_results.specs.declared.result.EntryResult.{EntryResult}
use Rattle.cs_report_parts.specs.RunLines.{text_of}
use Rattle.cs_report.specs.SummaryLines.{reports_of, count_line, kind_lines}

-- the text of a count, if there is one
abbrev text_with : List ℕ → ℕ → List ℕ
text_with name n = text_of (if nat_eq n 0 then [] else count_line (codes "report " ++ name) n ∷ [])

pub no_kind : (text : List ℕ) (results : List EntryResult) (kind : Kind) (count : ℕ) → count ≡ reports_of kind results → count ≡ 0
    → text ≡ text ++ text_of (kind_lines results kind)
no_kind text results kind count is none = sym (append-nil text) ∙ ap (λ (n : ℕ). text ++ text_with (kind_name kind) n) (sym none ∙ is)

joined : (word name gap number feed : List ℕ) → word ++ (name ++ (gap ++ (number ++ feed))) ≡ ((((word ++ name) ++ gap) ++ number) ++ feed) ++ []
joined word name gap number feed = simp (append_assoc, append-nil)

line_with : (name : List ℕ) (n : ℕ) → (n ≡ 0 → ⊥)
    → codes "report " ++ (name ++ (codes " " ++ (decimal n ++ codes "\n"))) ≡ text_with name n
line_with name n some = joined (codes "report ") name (codes " ") (decimal n) (codes "\n")
    ∙ ap (λ (none : Bool). text_of (if none then [] else count_line (codes "report " ++ name) n ∷ [])) (sym (ne_eqb n 0 some))

pub kind_counted : {E : Type 0} (r : Result (Unit {0}) E) (text after : List ℕ) (results : List EntryResult) (kind : Kind) (count : ℕ)
    → count ≡ reports_of kind results → (count ≡ 0 → ⊥)
    → OnOk r (after ≡ text ++ (codes "report " ++ (kind_name kind ++ (codes " " ++ (decimal count ++ codes "\n")))))
    → OnOk r (after ≡ text ++ text_of (kind_lines results kind))
kind_counted (Ok x) text after results kind count is some printed =
    printed ∙ ap (λ (t : List ℕ). text ++ t) (line_with (kind_name kind) count some ∙ ap (text_with (kind_name kind)) is)
kind_counted (Err e) text after results kind count is some printed = tt

-- the lines of one kind more
pub lines_more : {X : Type 0} (f : X → List ℕ) (xs : List X) (i : ℕ) (d : X) (start text after : List ℕ) → i < length xs
    → text ≡ start ++ flat_map f (take i xs) → after ≡ text ++ f (get_or xs i d) → after ≡ start ++ flat_map f (take (i + 1) xs)
lines_more f xs i d start text after below before more =
    let one : List ℕ = f (get_or xs i d) in
    let taken : flat_map f (take (i + 1) xs) ≡ flat_map f (take i xs) ++ one =
    ap (λ (n : ℕ). flat_map f (take n xs)) (add-one i) ∙ ap (flat_map f) (take-suc xs i d below)
    ∙ flat_map-append f (take i xs) (get_or xs i d ∷ []) ∙ ap (λ (t : List ℕ). flat_map f (take i xs) ++ t) (append-nil one) in
    more ∙ ap (λ (t : List ℕ). t ++ one) before ∙ append_assoc start (flat_map f (take i xs)) one ∙ ap (λ (t : List ℕ). start ++ t) (sym taken)
