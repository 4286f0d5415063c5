-- Adding children, ends and cuts one after another: for the contracts of `Findings`.
use Rattle.std.proofs.Common.{◌≡◌, ◌<◌, ℕ, Bool, true, false, List, [], ◌∷◌, ◌++◌, map, length, take, Some, slice_get, refl, sym, ap, ◌∙◌, subst}
use Rattle.std.proofs.Common.{arith}
use Rattle.std.specs.Prelude.{drop, nat_eq}
use Rattle.std.specs.Cmp.Lexicographic.{pointwise}
use Rattle.std.proofs.lemmas.List.{append-nil, append_assoc, map-append, map-id, take-append-drop}
use Rattle.std.proofs.lemmas.List.Elements.{All-nil, All-push}
use Rattle.std.specs.Global.{Box}
use Rattle.cs_results.specs.declared.result.Cut.{Cut}
use Rattle.cs_results.specs.declared.result.Cut.TheVariants.{Nodes}
use Rattle.cs_events.specs.declared.outcome.Outcome.{Outcome}
use Rattle.cs_state.specs.declared.state.State.{State}
use Rattle.cs_graph.specs.Adding.{IsUnseen}
use Rattle.cs_explored.specs.declared.child.Child.{Child}
use Rattle.cs_explored.specs.declared.explored.End.{End}
use Rattle.cs_explored.specs.declared.findings.Findings.{Findings}
use Rattle.cs_explored.specs.declared.explored.Row.{Row}
use Rattle.cs_explored.specs.Found.{Grows, IsPlaced}
use Rattle.cs_keys.specs.Live.{live_part}
use Rattle.cs_keys.specs.Words.{words_of}
use Rattle.cs_explored.specs.Placing.{RowGraph, child_row, end_of_row, PlacesRow, PlacesAll, PlacesChildren, KeepsEnds, KeepsRows, AddsEnds, AddsCuts}
use Rattle.cs_explored.specs.Placing.{IsPlain, ArePlainChildren}
use Rattle.cs_explored.proofs.Growing.{grows_not, grows_on, grows_same, grows_end}

-- these children were placed so far, and nothing was cut
pub record PlacedSoFar (row : ℕ) (made : List Child) (before after : Findings) : Type 0 where
  pub grows : Grows before after
  pub placed : PlacesAll row made before.graph after.graph
  pub cuts : after.cuts.items ≡ before.cuts.items
  pub rest : KeepsEnds before after
  pub plain : ArePlainChildren made

-- these ends were added so far
pub record EndedSoFar (row : ℕ) (new : List (Outcome × Box State)) (before after : Findings) : Type 0 where
  pub grows : Grows before after
  pub adds : AddsEnds row new before after

-- these cuts were added so far
pub record CutSoFar (new : List Cut) (before after : Findings) : Type 0 where
  pub grows : Grows before after
  pub adds : AddsCuts new before after

-- at the beginning
pub placed_none : (row : ℕ) (findings : Findings) → PlacedSoFar row [] findings findings
placed_none row findings = record {
  grows = grows_not findings;
  placed = refl;
  cuts = refl;
  rest = record { ends = refl; tables = refl };
  plain = All-nil (λ (child : Child). IsPlain child.state.value);
}

pub ended_none : (row : ℕ) (findings : Findings) → EndedSoFar row [] findings findings
ended_none row findings = record {
  grows = grows_not findings;
  adds = record {
    ends = sym (append-nil findings.ends.items);
    plain = All-nil (λ (one : Outcome × Box State). IsPlain one.1.value);
    cuts = refl;
    rows = record { graph = refl; tables = refl };
  };
}

pub cut_none : (findings : Findings) → CutSoFar [] findings findings
cut_none findings = record {
  grows = grows_not findings;
  adds = record { cuts = sym (append-nil findings.cuts.items); ends = refl; rows = record { graph = refl; tables = refl } };
}

-- one more child
pub place_more : (row : ℕ) (made : List Child) (child : Child) (before between after : RowGraph) → PlacesAll row made before between
    → PlacesRow (child_row row child) between after → PlacesAll row (made ++ child ∷ []) before after
place_more row [] child before between after same first = (after, subst (λ g. PlacesRow (child_row row child) g after) same first, refl)
place_more row (one ∷ made) child before between after (middle, places, rest) first =
    (middle, places, place_more row made child middle between after rest first)

pub keeps_on : (first second third : Findings) → KeepsEnds first second → KeepsEnds second third → KeepsEnds first third
keeps_on first second third one other = record { ends = other.ends ∙ one.ends; tables = other.tables ∙ one.tables }

-- one more end
pub end_more : (row : ℕ) (new : List (Outcome × Box State)) (one : Outcome × Box State) (before between after : Findings)
    → AddsEnds row new before between → after.ends.items ≡ between.ends.items ++ end_of_row row one ∷ [] → after.cuts.items ≡ between.cuts.items
    → KeepsRows between after → IsPlain one.1.value → AddsEnds row (new ++ one ∷ []) before after
end_more row new one before between after adds ends cuts rows plain = record {
  ends =
      ends ∙ ap (λ (l : List End). l ++ end_of_row row one ∷ []) adds.ends
      ∙ append_assoc before.ends.items (map (end_of_row row) new) (end_of_row row one ∷ [])
      ∙ ap (λ (l : List End). before.ends.items ++ l) (sym (map-append (end_of_row row) new (one ∷ [])));
  plain = All-push (λ (e : Outcome × Box State). IsPlain e.1.value) new one adds.plain plain;
  cuts = cuts ∙ adds.cuts;
  rows = record { graph = rows.graph ∙ adds.rows.graph; tables = rows.tables ∙ adds.rows.tables };
}

-- one more cut
pub cut_more : (new : List Cut) (one : Cut) (before between after : Findings) → AddsCuts new before between
    → after.cuts.items ≡ between.cuts.items ++ one ∷ [] → after.ends.items ≡ between.ends.items → KeepsRows between after
    → AddsCuts (new ++ one ∷ []) before after
cut_more new one before between after adds cuts ends rows = record {
  cuts = cuts ∙ ap (λ (l : List Cut). l ++ one ∷ []) adds.cuts ∙ append_assoc before.cuts.items new (one ∷ []);
  ends = ends ∙ adds.ends;
  rows = record { graph = rows.graph ∙ adds.rows.graph; tables = rows.tables ∙ adds.rows.tables };
}

-- one more child was placed
pub place_next : (row : ℕ) (made : List Child) (child : Child) (before between after : Findings) (new : Row) (added : Bool) → new ≡ child_row row child
    → added ≡ true → IsPlaced (words_of (live_part new.state.value)) new added between after → Grows between after → KeepsEnds between after
    → IsPlain new.state.value → PlacedSoFar row made before between → PlacedSoFar row (made ++ child ∷ []) before after
place_next row made child before between after new false is there placed grows rest plain so_far = cc
place_next row made child before between after new true is there placed grows rest plain so_far = record {
  grows = grows_on before between after so_far.grows grows;
  placed = place_more row made child before.graph between.graph after.graph so_far.placed
      (subst (λ (r : Row). PlacesRow r between.graph after.graph) is placed.0);
  cuts = placed.1 ∙ so_far.cuts;
  rest = keeps_on before between after so_far.rest rest;
  plain = All-push (λ (child : Child). IsPlain child.state.value) made child so_far.plain
      (subst (λ (r : Row). IsPlain r.state.value) is plain);
}

-- the next child was refused, since the graph was full
pub placed_first : (row : ℕ) (made taken : List Child) (child : Child) (before between after : Findings) (new : Row) (added : Bool)
    → new ≡ child_row row child → added ≡ false → IsPlaced (words_of (live_part new.state.value)) new added between after
    → PlacedSoFar row taken before between → map (λ (child : Child). child) taken ≡ take (length taken) made
    → slice_get made (length taken) ≡ Some child → PlacesChildren row made false before after
placed_first row made taken child before between after new true is full placed so_far are next = cc
placed_first row made taken child before between after new false is full placed so_far are next = (
  record {
    first = record {
      some = taken;
      left = drop (length taken) made;
      all = sym (take-append-drop (length taken) made) ∙ ap (λ (l : List Child). l ++ drop (length taken) made) (sym are ∙ map-id taken);
      placed = subst (λ (g : RowGraph). PlacesAll row taken before.graph g) (sym placed.0.2) so_far.placed;
    };
    refused = child;
    next = next;
    unseen = subst (λ (g : RowGraph). IsUnseen (pointwise nat_eq) (words_of (live_part child.state.value)) g.keys) (sym placed.0.2)
        (subst (λ (r : Row). IsUnseen (pointwise nat_eq) (words_of (live_part r.state.value)) between.graph.keys) is placed.0.0);
    full = subst (λ (g : RowGraph). length g.rows ≡ g.nodes) (sym placed.0.2) placed.0.1;
  },
  placed.1 ∙ (λ i. so_far.cuts i ++ Nodes (so_far.grows.nodes i) ∷ []),
)

-- one more end was added
pub end_next : (row : ℕ) (new : List (Outcome × Box State)) (one : Outcome × Box State) (before between after : Findings) → after.nodes ≡ between.nodes
    → after.graph ≡ between.graph → after.cuts.items ≡ between.cuts.items → after.tables ≡ between.tables
    → after.ends.items ≡ between.ends.items ++ end_of_row row one ∷ [] → row < length before.graph.rows → IsPlain one.1.value
    → EndedSoFar row new before between → EndedSoFar row (new ++ one ∷ []) before after
end_next row new one before between after nodes graph cuts tables ends there plain so_far =
    let longer = so_far.grows.rows in
    record {
      grows = grows_on before between after so_far.grows
          (grows_end between after (end_of_row row one) nodes graph ends (omega (arith, longer, there)));
      adds = end_more row new one before between after so_far.adds ends cuts (record { graph = graph; tables = tables }) plain;
    }

-- one more cut was added
pub cut_next : (new : List Cut) (one : Cut) (before between after : Findings) → after.nodes ≡ between.nodes → after.graph ≡ between.graph
    → after.ends.items ≡ between.ends.items → after.tables ≡ between.tables → after.cuts.items ≡ between.cuts.items ++ one ∷ []
    → CutSoFar new before between → CutSoFar (new ++ one ∷ []) before after
cut_next new one before between after nodes graph ends tables cuts so_far = record {
  grows = grows_on before between after so_far.grows
      (grows_same between after nodes (ap (λ (g : RowGraph). g.nodes) graph) (ap (λ (g : RowGraph). g.rows) graph) ends);
  adds = cut_more new one before between after so_far.adds cuts ends (record { graph = graph; tables = tables });
}
