-- The edges of a `switch` are those of its cases with a value, and that of any other number (C11 6.8.4.2). For the control points of
-- placed code.
use Rattle.std.specs.Prelude.{◌⊎◌, Contains, slice_get}
use Rattle.std.specs.List.{All}
use Rattle.std.proofs.Common.{◌≡◌, ℕ, zero, suc, ◌+◌, ℤ, List, [], ◌∷◌, length, Option, Some, None, arith, refl, sym, ap, ◌∙◌, subst}
use Rattle.std.proofs.Common.{inl, inr}
use Rattle.std.proofs.lemmas.List.Elements.{All-nil, All-cons, Contains-append_right}
use Rattle.cs_ast.specs.declared.place.Place.{Place}
use Rattle.cs_ast.specs.declared.typed.statement.Case.{Case}
use Rattle.cs_ast.specs.TypedTree.{Statements}
use Rattle.cs_ast.specs.TypedProgram.{TypedProgram, Routine}
use Rattle.cs_events.specs.declared.point.PointKind.TheVariants as point
use Rattle.cs_meaning.specs.Statements.{has_value}
use Rattle.cs_cfg.specs.Graph as graph
use Rattle.cs_cfg.specs.Graph.{SwitchCase, Point, Flow, block_of}
use Rattle.cs_cfg.specs.ControlPoints.{Next, the_point, Exit, Onward, TruthOf, CaseOf, way, Way, Targets, starts_from, with_case, case_ways, switched}
use Rattle.cs_cfg.specs.GraphPoints.{by_switch, on_case, on_no_case, IsMet, MeetsNext}
use Rattle.cs_cfg.specs.Fitting.{Fits}
use Rattle.cs_cfg.specs.Executing.{case_leads, cases_lead}
use Rattle.cs_cfg.proofs.Fitting.{LeadsBy, leads_by}
use Rattle.cs_cfg.proofs.Keeping.{Kept, occurs}
use Rattle.cs_cfg.proofs.Meeting.{same_meets}
use Rattle.cs_cfg.proofs.Showing.{GoesOn, Shows}

-- a test of a number for the cases of a `switch`
abbrev pub chooses : Place → List SwitchCase → ℕ → Point
chooses at ways otherwise = record { operations = []; end = graph.Switch at 0 ways otherwise }

-- the rest of the code's cases, from the one with a number
record Left (ways : List SwitchCase) (number : ℕ) (left : List SwitchCase) : Type 0 where
  count : number + length left ≡ length ways
  same : (k : ℕ) → slice_get ways (number + k) ≡ slice_get left k

left_all : (ways : List SwitchCase) → Left ways 0 ways
left_all ways = record {
  count = omega arith;
  same = λ k. let e : 0 + k ≡ k = omega arith in ap (slice_get ways) e;
}

left_next : (ways : List SwitchCase) (number : ℕ) (one : SwitchCase) (left : List SwitchCase) → Left ways number (one ∷ left)
    → Left ways (number + 1) left
left_next ways number one left l = record {
  count =
      let e : number + suc (length left) ≡ length ways = l.count in
      omega arith;
  same = λ k. let e : number + 1 + k ≡ number + suc k = omega arith in ap (slice_get ways) e ∙ l.same (suc k);
}

module _ (program : TypedProgram) (flow : Flow) (routine : Routine) (labels : ℕ → Point) (entries : ℕ
    → Point) (to : Targets) (statements : Statements) (following : Next)
    (enters : (item : ℕ) → MeetsNext flow (entries item) (starts_from to item statements following)) where
  module _ (at : Place) (ways : List SwitchCase) (otherwise : ℕ) (rest : Next) (none : MeetsNext flow (block_of flow otherwise) rest) where
    -- each edge of a list is in the graph
    abbrev IsThere : List Way → Type 0
    IsThere them = All (GoesOn flow (chooses at ways otherwise) (switched at [])) them

    -- the edge of a case, if it has a value, and those of the others
    one_there : (value : Option ℤ) (item number : ℕ) (left : List SwitchCase) (Others : List SwitchCase → Type 0) (others : ℕ → List Way)
        → Left ways number left →
        case_leads program flow routine labels entries value item left Others
        → ((from : ℕ) (after_it : List SwitchCase) → Left ways from after_it → Others after_it → IsThere (others from)) →
        IsThere (with_case value number (starts_from to item statements following) (others (number + has_value value)))
    one_there None item number left Others others l it more =
        let same : number ≡ number + 0 = omega arith in
        more (number + 0) left (subst (λ n. Left ways n left) same l) it
    one_there (Some value) item number [] Others others l it more = absurd it
    one_there (Some value) item number (one ∷ left) Others others l it more =
        let here : number + 0 ≡ number = omega arith in
        let taken : slice_get ways number ≡ Some one = sym (ap (slice_get ways) here) ∙ l.same 0 in
        All-cons (GoesOn flow (chooses at ways otherwise) (switched at [])) (way (CaseOf number) (starts_from to item statements following))
        (others (number + 1)) (
          block_of flow one.block,
          on_case {number = number} {taken = one} taken,
          same_meets it.1 (enters item),
        ) (more (number + 1) left (left_next ways number one left l) it.2)

    all_there : (cases : List Case) (number : ℕ) (left : List SwitchCase) → Left ways number left
        → cases_lead program flow routine labels entries cases left → IsThere (case_ways to cases number statements following rest)
    all_there [] number left l it =
        let count : number + length left ≡ length ways = l.count in
        let empty : length left ≡ 0 = ap length it in
        let last : length ways ≡ number = omega arith in
        let P = GoesOn flow (chooses at ways otherwise) (switched at []) in
        subst (λ n. IsThere (way (CaseOf n) rest ∷ [])) last
        (All-cons P (way (CaseOf (length ways)) rest) [] (block_of flow otherwise, on_no_case, none) (All-nil P))
    all_there (one ∷ cases) number left l it =
        one_there one.value one.item number left (cases_lead program flow routine labels entries cases)
        (λ from. case_ways to cases from statements following rest) l it
        (λ from left' l' it'. all_there cases from left' l' it')

    -- a `switch` is in the graph, with all of its edges
    pub shows_switched : (cases : List Case) → Kept program flow (chooses at ways otherwise) → cases_lead program flow routine labels entries cases ways →
        Shows flow (switched at (case_ways to cases 0 statements following rest))
    shows_switched cases kept it =
        let here : IsMet (chooses at ways otherwise) (the_point point.Switch at) = by_switch in
        record { there = chooses at ways otherwise; occurs = occurs kept here; meets = here; ways = all_there cases 0 ways (left_all ways) it }

    -- the edge of a list that a number of a case takes
    abbrev Found : List Way → ℕ → SwitchCase → Type 0
    Found them number taken = (next : Next) × Contains them (way (CaseOf number) next) × MeetsNext flow (block_of flow taken.block) next

    found_after : (first : Way) (them : List Way) (number number' : ℕ) (taken : SwitchCase) → number ≡ number' → Found them number taken
        → Found (first ∷ them) number' taken
    found_after first them number number' taken e it =
        (it.0, Contains-append_right (first ∷ []) them _ (subst (λ n. Contains them (way (CaseOf n) it.0)) e it.1), it.2)

    one_found : (value : Option ℤ) (item number : ℕ) (left : List SwitchCase) (Others : List SwitchCase → Type 0) (others : ℕ → List Way)
        → case_leads program flow routine labels entries value item left Others →
        ((from : ℕ) (after_it : List SwitchCase) → Others after_it → (k : ℕ) (taken : SwitchCase) → slice_get after_it k ≡ Some taken
        → Found (others from) (from + k) taken) →
        (k : ℕ) (taken : SwitchCase) → slice_get left k ≡ Some taken
        → Found (with_case value number (starts_from to item statements following) (others (number + has_value value))) (number + k) taken
    one_found None item number left Others others it more k taken is =
        let same : number + 0 + k ≡ number + k = omega arith in
        subst (λ n. Found (others (number + 0)) n taken) same (more (number + 0) left it k taken is)
    one_found (Some value) item number [] Others others it more k taken is = absurd it
    one_found (Some value) item number (one ∷ left) Others others it more zero taken is =
        let same : number ≡ number + 0 = omega arith in
        let here : one ≡ taken = cc in
        let next = starts_from to item statements following in
        subst (λ n. Found (way (CaseOf number) next ∷ others (number + 1)) n taken) same
        (next, (0, omega arith, refl), subst (λ (c : SwitchCase). MeetsNext flow (block_of flow c.block) next) here (same_meets it.1 (enters item)))
    one_found (Some value) item number (one ∷ left) Others others it more (suc k) taken is =
        let same : number + 1 + k ≡ number + suc k = omega arith in
        found_after (way (CaseOf number) (starts_from to item statements following)) (others (number + 1)) (number + 1 + k) (number + suc k) taken same
        (more (number + 1) left it.2 k taken is)

    found : (cases : List Case) (number : ℕ) (left : List SwitchCase) → cases_lead program flow routine labels entries cases left
        → (k : ℕ) (taken : SwitchCase) → slice_get left k ≡ Some taken →
        Found (case_ways to cases number statements following rest) (number + k) taken
    found [] number left it k taken is =
        let none : None ≡ Some taken = sym (ap (λ (list : List SwitchCase). slice_get list k) it) ∙ is in
        cc
    found (one ∷ cases) number left it k taken is =
        one_found one.value one.item number left (cases_lead program flow routine labels entries cases)
        (λ from. case_ways to cases from statements following rest) it
        (λ from left' it' k' taken' is'. found cases from left' it' k' taken' is') k taken is

    -- the edge of any other number
    one_last : (value : Option ℤ) (item number : ℕ) (left : List SwitchCase) (Others : List SwitchCase → Type 0) (others : ℕ → List Way)
        → case_leads program flow routine labels entries value item left Others →
        ((from : ℕ) (after_it : List SwitchCase) → Others after_it → Contains (others from) (way (CaseOf (from + length after_it)) rest)) →
        Contains (with_case value number (starts_from to item statements following) (others (number + has_value value)))
        (way (CaseOf (number + length left)) rest)
    one_last None item number left Others others it more =
        let same : number + 0 + length left ≡ number + length left = omega arith in
        subst (λ n. Contains (others (number + 0)) (way (CaseOf n) rest)) same (more (number + 0) left it)
    one_last (Some value) item number [] Others others it more = absurd it
    one_last (Some value) item number (one ∷ left) Others others it more =
        let same : number + 1 + length left ≡ number + suc (length left) = omega arith in
        subst (λ n. Contains (way (CaseOf number) (starts_from to item statements following) ∷ others (number + 1)) (way (CaseOf n) rest)) same
        (Contains-append_right (way (CaseOf number) (starts_from to item statements following) ∷ []) (others (number + 1)) _ (more (number + 1) left it.2))

    last_found : (cases : List Case) (number : ℕ) (left : List SwitchCase) → cases_lead program flow routine labels entries cases left
        → Contains (case_ways to cases number statements following rest) (way (CaseOf (number + length left)) rest)
    last_found [] number left it =
        let empty : length left ≡ 0 = ap length it in
        let same : number ≡ number + length left = omega arith in
        subst (λ n. Contains (way (CaseOf number) rest ∷ []) (way (CaseOf n) rest)) same (0, omega arith, refl)
    last_found (one ∷ cases) number left it =
        one_last one.value one.item number left (cases_lead program flow routine labels entries cases)
        (λ from. case_ways to cases from statements following rest) it (λ from left' it'. last_found cases from left' it')

    -- an edge that is taken is one of the list
    abbrev Says : List Case → Exit → Point → Type 0
    Says cases exit q = (next : Next) × Contains (case_ways to cases 0 statements following rest) (way exit next) × MeetsNext flow q next

    case_says : (cases : List Case) → cases_lead program flow routine labels entries cases ways → (number : ℕ) (q : Point) →
        ((taken : SwitchCase) × (slice_get ways number ≡ Some taken) × (q ≡ block_of flow taken.block))
        ⊎ ((number ≡ length ways) × (q ≡ block_of flow otherwise)) → Says cases (CaseOf number) q
    case_says cases it number q (inl one) =
        let goes = found cases 0 ways it number one.0 one.1 in
        let same : 0 + number ≡ number = omega arith in
        (goes.0, subst (λ n. Contains (case_ways to cases 0 statements following rest) (way (CaseOf n) goes.0)) same goes.1, same_meets one.2 goes.2)
    case_says cases it number q (inr one) =
        let last : 0 + length ways ≡ number = omega (arith, one.0) in (
          rest,
          subst (λ n. Contains (case_ways to cases 0 statements following rest) (way (CaseOf n) rest)) last (last_found cases 0 ways it),
          same_meets one.1 none,
        )

    -- a test of the number has no other edges
    pub fits_switched : (cases : List Case) → cases_lead program flow routine labels entries cases ways
        → Fits flow (switched at (case_ways to cases 0 statements following rest)) (chooses at ways otherwise)
    fits_switched cases it = record { meets = by_switch; leads = λ exit q l. says exit q (leads_by l) }
      where
        says : (exit : Exit) (q : Point) → LeadsBy flow (the_point point.Switch at) [] (graph.Switch at 0 ways otherwise) exit q → Says cases exit q
        says (CaseOf number) q l = case_says cases it number q l
        says Onward q l = absurd l
        says (TruthOf holds) q l = absurd l
