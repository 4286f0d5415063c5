-- Rows and ends still have sources after a child or the ends of a row were added: for the invariant of an exploration.
use Rattle.std.proofs.Common.{◌≡◌, ◌≢◌, ◌⊎◌, inl, inr, ◌<◌, ◌+◌, ℕ, zero, suc, List, [], ◌∷◌, ◌++◌, map, length, Some}
use Rattle.std.proofs.Common.{slice_get, refl, sym, ap, ◌∙◌, subst}
use Rattle.std.proofs.Common.{arith}
use Rattle.std.specs.Prelude.{nat_eq, option_map}
use Rattle.std.specs.Cmp.Lexicographic.{pointwise, bytes_decides}
use Rattle.std.proofs.lemmas.List.{append-nil}
use Rattle.std.proofs.lemmas.Option.{same_Some, slice_get_within, slice_get-map}
use Rattle.cs_ast.specs.TypedProgram.{TypedProgram}
use Rattle.cs_events.specs.declared.event.Event.{Event}
use Rattle.cs_events.specs.declared.outcome.RunBudgets.{RunBudgets}
use Rattle.cs_cfg.specs.Graph.{Code}
use Rattle.cs_state.specs.Naming.{Naming}
use Rattle.cs_keys.specs.Live.{live_part}
use Rattle.cs_keys.specs.Words.{words_of}
use Rattle.cs_graph.specs.Adding.{IsUnseen}
use Rattle.cs_explored.specs.declared.child.Child.{Child}
use Rattle.cs_explored.specs.declared.explored.End.{End}
use Rattle.cs_explored.specs.declared.explored.Row.{Row}
use Rattle.cs_explored.specs.declared.watch.Rule.{Rule}
use Rattle.cs_explored.specs.Placing.{RowGraph, child_row, end_of_row}
use Rattle.cs_successors.specs.Coming.{StateEnd}
use Rattle.cs_coverage.specs.Closing.{HaveKeys, IsListed}
use Rattle.cs_coverage.proofs.ClosedGraphs.{kept_place, last_or_before}
use Rattle.cs_coverage.proofs.RowKeys.{some_there}
use Rattle.cs_exactness.specs.Distinct.{KeysDiffer, SiblingsDiffer, EndsDiffer}
use Rattle.cs_exactness.specs.Sources.{HasSource, ComesOfRow, IsOfRow, HasEnds, AreSourced}

-- an element of a list, or of one after it
behind_or_before : {A B : Type 0} (f : A → B) (xs : List B) (ys : List A) (place : ℕ) (z : B) → slice_get (xs ++ map f ys) place ≡ Some z
    → (slice_get xs place ≡ Some z) ⊎ ((at : ℕ) × (y : A) × (place ≡ length xs + at) × (slice_get ys at ≡ Some y) × (z ≡ f y))
behind_or_before f [] [] place z there = cc
behind_or_before f [] (y ∷ ys) zero z there = inr (zero, y, refl, refl, sym (same_Some (f y) z there))
behind_or_before f [] (y ∷ ys) (suc place) z there = elim (behind_or_before f [] ys place z there) [
  | inl nowhere ↦ cc
  | inr found ↦ let at = found.2 in inr (suc found.0, found.1, omega (arith, at), found.3, found.4)
]
behind_or_before f (x ∷ xs) ys zero z there = inl there
behind_or_before f (x ∷ xs) ys (suc place) z there = elim (behind_or_before f xs ys place z there) [
  | inl before ↦ inl before
  | inr found ↦ let at = found.2 in inr (found.0, found.1, omega (arith, at), found.3, found.4)
]

-- the ends of a row that were added are listed
pub listed_there : (ends : List End) (row : ℕ) (endings : List StateEnd) (place : ℕ) (one : StateEnd) → slice_get endings place ≡ Some one
    → IsListed (ends ++ map (end_of_row row) endings) row one
listed_there [] row endings place one at =
    record { place = place; there = slice_get-map (end_of_row row) endings place ∙ ap (option_map (end_of_row row)) at }
listed_there (end ∷ ends) row endings place one at =
    let rest = listed_there ends row endings place one at in
    record { place = suc rest.place; there = rest.there }

module _ (code : Code) (program : TypedProgram) (entry : ℕ) (budgets : RunBudgets) (names : Naming) (rules : List Rule) where
  abbrev Comes : List Row → ℕ → List Child → List StateEnd → Type 0
  Comes rows number made endings = ComesOfRow code program entry budgets names rules rows number made endings

  abbrev Source : List Row → ℕ → Row → Type 0
  Source rows number row = HasSource code program entry budgets names rules rows number row

  abbrev Sourced : List Row → List End → (ℕ → Type 0) → Type 0
  Sourced rows ends Are = AreSourced code program entry budgets names rules rows ends Are

  -- fewer rows are open
  pub sourced_but : (rows : List Row) (ends : List End) (Are Were : ℕ → Type 0) → ((number : ℕ) → Are number → Were number)
      → Sourced rows ends Were
      → Sourced rows ends Are
  sourced_but rows ends Are Were fewer is = record {
    rows_come = is.rows_come;
    ends_come = is.ends_come;
    keys_differ = is.keys_differ;
    siblings_differ = is.siblings_differ;
    ends_differ = is.ends_differ;
    ends_listed = is.ends_listed;
    no_children = λ number row event there leads open_row. is.no_children number row event there leads (fewer row.parent open_row);
    no_ends = λ number end there open_row. is.no_ends number end there (fewer end.row open_row);
  }

  -- more rows
  pub comes_more : (rows more : List Row) (number : ℕ) (made : List Child) (endings : List StateEnd) → Comes rows number made endings
      → Comes (rows ++ more) number made endings
  comes_more rows more number made endings is = record {
    row = is.row;
    there = kept_place rows more number is.row is.there;
    all = is.all;
  }

  source_more : (rows more : List Row) (number : ℕ) (row : Row) → Source rows number row → Source (rows ++ more) number row
  source_more rows more number row (inl first) = inl first
  source_more rows more number row (inr of) = inr (record {
    before = of.before;
    made = of.made;
    endings = of.endings;
    parent = comes_more rows more row.parent of.made of.endings of.parent;
    place = of.place;
    child = of.child;
    at = of.at;
    same = of.same;
  })

  end_more : (rows more : List Row) (end : End) → IsOfRow code program entry budgets names rules rows end
      → IsOfRow code program entry budgets names rules (rows ++ more) end
  end_more rows more end of = record {
    made = of.made;
    endings = of.endings;
    from = comes_more rows more end.row of.made of.endings of.from;
    place = of.place;
    one = of.one;
    at = of.at;
    same = of.same;
  }

  abbrev Listed : List Row → List End → ℕ → Type 0
  Listed rows ends number = HasEnds code program entry budgets names rules rows ends number

  -- the ends of a row remain listed with more rows and ends
  listed_more : (rows more : List Row) (ends added : List End) (number : ℕ) → Listed rows ends number → Listed (rows ++ more) (ends ++ added) number
  listed_more rows more ends added number has = record {
    made = has.made;
    endings = has.endings;
    from = comes_more rows more number has.made has.endings has.from;
    listed = λ place one at.
        let is = has.listed place one at in
        record { place = is.place; there = kept_place ends added is.place (end_of_row number one) is.there };
  }

  -- the children of a row that exist are among its first ones, up to this number
  abbrev pub AreFirst : List Row → ℕ → List Child → ℕ → Type 0
  AreFirst rows row made count = (number : ℕ) (found : Row) (event : Event) → slice_get rows number ≡ Some found → found.event ≡ Some event
      → found.parent ≡ row
      → (place : ℕ) × (child : Child) × (place < count) × (slice_get made place ≡ Some child) × (child.event ≡ event)

  -- a row that was taken, all of whose successors are known
  module _ (row : ℕ) (rows : List Row) (made : List Child) (endings : List StateEnd) (from : Comes rows row made endings) where
    -- its ends are added
    module _ (ends : List End) (Are Were : ℕ → Type 0) (sourced : Sourced rows ends Were) (open_row : Were row)
        (fewer : (number : ℕ) → Are number → Were number) (gone : ¬ Are row) where
      abbrev all_ends : List End
      all_ends = ends ++ map (end_of_row row) endings

      end_comes : (number : ℕ) (end : End) → slice_get all_ends number ≡ Some end → IsOfRow code program entry budgets names rules rows end
      end_comes number end there = elim (behind_or_before (end_of_row row) ends endings number end there) [
        | inl before ↦ sourced.ends_come number end before
        | inr found ↦
            subst (IsOfRow code program entry budgets names rules rows) (sym found.4)
            (record { made = made; endings = endings; from = from; place = found.0; one = found.1; at = found.3; same = refl })
      ]

      -- an end that existed is of another row
      of_another : (number at : ℕ) (first second : End) (one : StateEnd) → slice_get ends number ≡ Some first → second ≡ end_of_row row one
          → first.row ≡ second.row → ⊥
      of_another number at first second one there is same =
          sourced.no_ends number first there (subst Were (sym (same ∙ ap (λ (e : End). e.row) is)) open_row)

      ends_differ : EndsDiffer all_ends
      ends_differ one other first second here there rows_same outcomes_same =
          elim (behind_or_before (end_of_row row) ends endings one first here) [
            | inl before ↦ elim (behind_or_before (end_of_row row) ends endings other second there) [
              | inl too ↦ sourced.ends_differ one other first second before too rows_same outcomes_same
              | inr found ↦ absurd (of_another one found.0 first second found.1 before found.4 rows_same)
            ]
            | inr found ↦ elim (behind_or_before (end_of_row row) ends endings other second there) [
              | inl before ↦ absurd (of_another other found.0 second first found.1 before found.4 (sym rows_same))
              | inr too ↦
                  let outcome = ap (λ (e : End). e.outcome) (sym found.4) ∙ outcomes_same ∙ ap (λ (e : End). e.outcome) too.4 in
                  let places = from.all.outcomes_differ found.0 too.0 found.1 too.1 found.3 too.3 outcome in
                  found.2 ∙ ap (λ (n : ℕ). length ends + n) places ∙ sym too.2
            ]
          ]

      pub sourced_ends : Sourced rows all_ends Are
      sourced_ends = record {
        rows_come = sourced.rows_come;
        ends_come = end_comes;
        keys_differ = sourced.keys_differ;
        siblings_differ = sourced.siblings_differ;
        ends_differ = ends_differ;
        ends_listed = λ number found event there leads.
            subst (λ (l : List Row). Listed l all_ends found.parent) (append-nil rows)
            (listed_more rows [] ends (map (end_of_row row) endings) found.parent (sourced.ends_listed number found event there leads));
        no_children = λ number found event there leads is_open. sourced.no_children number found event there leads (fewer found.parent is_open);
        no_ends = λ number end there is_open. elim (behind_or_before (end_of_row row) ends endings number end there) [
          | inl before ↦ sourced.no_ends number end before (fewer end.row is_open)
          | inr found ↦ gone (subst Are (ap (λ (e : End). e.row) found.4) is_open)
        ];
      }

      -- no child of it exists
      pub first_none : AreFirst rows row made 0
      first_none number found event there leads same = absurd (sourced.no_children number found event there leads (subst Were (sym same) open_row))

    -- its next child is added
    module _ (ends : List End) (Are Were : ℕ → Type 0) (sourced : Sourced rows ends Were) (count : ℕ) (child : Child)
        (at : slice_get made count ≡ Some child)
        (firsts : AreFirst rows row made count) (gone : ¬ Are row) (fewer : (number : ℕ) → number < length rows → Are number → Were number)
        (unlike : (number : ℕ) (found : Row) → slice_get rows number ≡ Some found
        → live_part found.state.value ≢ live_part child.state.value)
        (listed : (place : ℕ) (one : StateEnd) → slice_get endings place ≡ Some one → IsListed ends row one) where
      abbrev new : Row
      new = child_row row child

      abbrev all_rows : List Row
      all_rows = rows ++ new ∷ []

      row_comes : (number : ℕ) (found : Row) → slice_get all_rows number ≡ Some found → Source all_rows number found
      row_comes number found there = elim (last_or_before rows new found number there) [
        | inl before ↦ source_more rows (new ∷ []) number found (sourced.rows_come number found before)
        | inr last ↦
            subst (Source all_rows number) (sym last.1) (inr (record {
              before = let within = slice_get_within rows row from.row from.there in omega (arith, within, last.0);
              made = made;
              endings = endings;
              parent = comes_more rows (new ∷ []) row made endings from;
              place = count;
              child = child;
              at = at;
              same = refl;
            }))
      ]

      keys_differ : KeysDiffer all_rows
      keys_differ one other first second here there same = elim (last_or_before rows new first one here) [
        | inl before ↦ elim (last_or_before rows new second other there) [
          | inl too ↦ sourced.keys_differ one other first second before too same
          | inr last ↦ absurd (unlike one first before (same ∙ ap (λ (r : Row). live_part r.state.value) last.1))
        ]
        | inr last ↦ elim (last_or_before rows new second other there) [
          | inl before ↦ absurd (unlike other second before (sym same ∙ ap (λ (r : Row). live_part r.state.value) last.1))
          | inr too ↦ last.0 ∙ sym too.0
        ]
      ]

      -- a child that existed has another label
      of_others : (number : ℕ) (first second : Row) (here there : Event) → slice_get rows number ≡ Some first → first.event ≡ Some here
          → second ≡ new
          → second.event ≡ Some there → first.parent ≡ second.parent → here.label ≡ there.label → ⊥
      of_others number first second here there found leads is too parents labels =
          let one = firsts number first here found leads (parents ∙ ap (λ (r : Row). r.parent) is) in
          let event : child.event ≡ there = same_Some child.event there (sym (ap (λ (r : Row). r.event) is) ∙ too) in
          let places = from.all.labels_differ one.0 count one.1 child one.3 at
          (ap (λ (e : Event). e.label) one.4 ∙ labels ∙ ap (λ (e : Event). e.label) (sym event)) in
          let early = one.2 in
          omega (arith, early, places)

      siblings_differ : SiblingsDiffer all_rows
      siblings_differ one other first second here there at_one at_other parents leads too labels = elim (last_or_before rows new first one at_one) [
        | inl before ↦ elim (last_or_before rows new second other at_other) [
          | inl again ↦ sourced.siblings_differ one other first second here there before again parents leads too labels
          | inr last ↦ absurd (of_others one first second here there before leads last.1 too parents labels)
        ]
        | inr last ↦ elim (last_or_before rows new second other at_other) [
          | inl before ↦ absurd (of_others other second first there here before too last.1 leads (sym parents) (sym labels))
          | inr again ↦ last.0 ∙ sym again.0
        ]
      ]

      -- the parent of a row that existed is there
      parent_there : (number : ℕ) (found : Row) (event : Event) → slice_get rows number ≡ Some found → found.event ≡ Some event
          → found.parent < length rows
      parent_there number found event there leads = elim (sourced.rows_come number found there) [
        | inl first ↦ let none = first.1.no_event in cc
        | inr of ↦ slice_get_within rows found.parent of.parent.row of.parent.there
      ]

      no_children : (number : ℕ) (found : Row) (event : Event) → slice_get all_rows number ≡ Some found → found.event ≡ Some event
          → ¬ Are found.parent
      no_children number found event there leads is_open = elim (last_or_before rows new found number there) [
        | inl before ↦
            sourced.no_children number found event before leads (fewer found.parent (parent_there number found event before leads) is_open)
        | inr last ↦ gone (subst Are (ap (λ (r : Row). r.parent) last.1) is_open)
      ]

      ends_listed : (number : ℕ) (found : Row) (event : Event) → slice_get all_rows number ≡ Some found → found.event ≡ Some event
          → Listed all_rows ends found.parent
      ends_listed number found event there leads = elim (last_or_before rows new found number there) [
        | inl before ↦
            subst (λ (l : List End). Listed all_rows l found.parent) (append-nil ends)
            (listed_more rows (new ∷ []) ends [] found.parent (sourced.ends_listed number found event before leads))
        | inr last ↦
            subst (Listed all_rows ends) (sym (ap (λ (r : Row). r.parent) last.1))
            (record { made = made; endings = endings; from = comes_more rows (new ∷ []) row made endings from; listed = listed })
      ]

      pub sourced_child : Sourced all_rows ends Are
      sourced_child = record {
        rows_come = row_comes;
        ends_come = λ number end there. end_more rows (new ∷ []) end (sourced.ends_come number end there);
        keys_differ = keys_differ;
        siblings_differ = siblings_differ;
        ends_differ = sourced.ends_differ;
        ends_listed = ends_listed;
        no_children = no_children;
        no_ends = λ number end there is_open.
            let of = sourced.ends_come number end there in
            sourced.no_ends number end there (fewer end.row (slice_get_within rows end.row of.from.row of.from.there) is_open);
      }

      -- it is one of the first children
      pub firsts_more : AreFirst all_rows row made (suc count)
      firsts_more number found event there leads same = elim (last_or_before rows new found number there) [
        | inl before ↦
            let one = firsts number found event before leads same in
            let early = one.2 in
            (one.0, one.1, omega (arith, early), one.3, one.4)
        | inr last ↦ (count, child, omega arith, at, same_Some child.event event (sym (ap (λ (r : Row). r.event) last.1) ∙ leads))
      ]

  -- a row whose key is new differs in its live part from all others
  pub unlike_all : (graph : RowGraph) → HaveKeys graph → length graph.keys ≡ length graph.rows → (row : Row)
      → IsUnseen (pointwise nat_eq) (words_of (live_part row.state.value)) graph.keys
      → (number : ℕ) (found : Row) → slice_get graph.rows number ≡ Some found → live_part found.state.value ≢ live_part row.state.value
  unlike_all graph keys long row unseen number found there same =
      let within = slice_get_within graph.rows number found there in
      let key = some_there graph.keys number (omega (arith, within, long)) in
      let says : key.0 ≡ words_of (live_part found.state.value) = keys number key.0 found key.1 there in
      let words : words_of (live_part row.state.value) ≡ key.0 = ap words_of (sym same) ∙ sym says in
      let equal = (bytes_decides (words_of (live_part row.state.value)) key.0).1 words in
      let other = unseen number key.0 key.1 in
      cc
