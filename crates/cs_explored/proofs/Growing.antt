-- Findings grow, and stay sound: for the contracts of `Findings`.
use Rattle.std.proofs.Common.{◌≡◌, ◌<◌, ◌≤◌, ◌⊎◌, inl, inr, ℕ, zero, suc, ◌+◌, List, [], ◌∷◌, ◌++◌, Some, length, slice_get, refl, sym, ap, ◌∙◌, subst, arith}
use Rattle.std.proofs.Common.{length-append}
use Rattle.std.specs.Prelude.{nat_eq}
use Rattle.std.specs.Cmp.Lexicographic.{pointwise}
use Rattle.std.proofs.lemmas.List.Elements.{All-push}
use Rattle.std.proofs.lemmas.Option.{none-some, same_Some}
use Rattle.cs_graph.specs.Contents.{Contents}
use Rattle.cs_graph.specs.Adding.{IsAdded, empty, with_work}
use Rattle.cs_graph.specs.declared.adding.Added.{Added}
use Rattle.cs_graph.specs.declared.adding.Added.TheVariants.{New, Old}
use Rattle.cs_explored.specs.declared.explored.Row.{Row}
use Rattle.cs_explored.specs.declared.explored.End.{End}
use Rattle.cs_explored.specs.declared.findings.Findings.{Findings}
use Rattle.cs_explored.specs.Found.{ComesFromBefore, AreLinked, AreOfRows, IsSound, Grows}

pub grows_not : (findings : Findings) → Grows findings findings
grows_not findings = record { nodes = refl; rows = omega arith; sound = λ sound. sound }

pub grows_on : (first second third : Findings) → Grows first second → Grows second third → Grows first third
grows_on first second third one other = record {
  nodes = other.nodes ∙ one.nodes;
  rows = omega (arith, one.rows, other.rows);
  sound = λ sound. other.sound (one.sound sound);
}

-- an element of a list, or the one after it
get_last : {X : Type 0} (xs : List X) (x y : X) (place : ℕ) → slice_get (xs ++ x ∷ []) place ≡ Some y
    → (slice_get xs place ≡ Some y) ⊎ ((place ≡ length xs) × (x ≡ y))
get_last [] x y zero at = inr (refl, same_Some x y at)
get_last [] x y (suc place) at = absurd (none-some y at)
get_last (z ∷ xs) x y zero at = inl at
get_last (z ∷ xs) x y (suc place) at = elim (get_last xs x y place at) [
  | inl old ↦ inl old
  | inr new ↦ inr (ap suc new.0, new.1)
]

-- one more row that comes from one before it
linked_more : (rows : List Row) (row : Row) → ComesFromBefore (length rows) row → AreLinked rows → AreLinked (rows ++ row ∷ [])
linked_more rows row from linked number other at =
    elim (get_last rows row other number at) [
      | inl old ↦ linked number other old
      | inr last ↦ subst (λ (r : Row). ComesFromBefore number r) last.1 (subst (λ (n : ℕ). ComesFromBefore n row) (sym last.0) from)
    ]

-- ends of rows remain so with more rows
ends_stay : (rows more : List Row) (ends : List End) → length rows ≤ length more → AreOfRows rows ends → AreOfRows more ends
ends_stay rows more ends longer of k d within = let h = of k d within in omega (arith, longer, h)

-- existing rows are kept, and the new ones are linked too
grows_where : (before after : Findings) → after.nodes ≡ before.nodes → after.graph.nodes ≡ before.graph.nodes
    → length before.graph.rows ≤ length after.graph.rows → (IsSound before → length after.graph.rows ≤ before.nodes)
    → (AreLinked before.graph.rows → AreLinked after.graph.rows)
    → (AreOfRows before.graph.rows before.ends.items → AreOfRows after.graph.rows after.ends.items) → Grows before after
grows_where before after nodes budget longer few linked ends = record {
  nodes = nodes;
  rows = longer;
  sound = λ sound. record {
    budget = budget ∙ sound.budget ∙ sym nodes;
    few = let h = few sound in omega (arith, h, nodes);
    linked = linked sound.linked;
    ends = ends sound.ends;
  };
}

-- the rows are the same ones, and so are the ends
pub grows_same : (before after : Findings) → after.nodes ≡ before.nodes → after.graph.nodes ≡ before.graph.nodes
    → after.graph.rows ≡ before.graph.rows → after.ends.items ≡ before.ends.items → Grows before after
grows_same before after nodes budget rows ends =
    let longer : length before.graph.rows ≤ length after.graph.rows = let e = ap length rows in omega (arith, e) in
    grows_where before after nodes budget longer (λ sound. let e = ap length rows in let h = sound.few in omega (arith, e, h))
    (subst AreLinked (sym rows))
    (λ of. subst (AreOfRows after.graph.rows) (sym ends) (ends_stay before.graph.rows after.graph.rows before.ends.items longer of))

-- one more end, of an existing row
pub grows_end : (before after : Findings) (end : End) → after.nodes ≡ before.nodes → after.graph ≡ before.graph
    → after.ends.items ≡ before.ends.items ++ end ∷ [] → end.row < length before.graph.rows → Grows before after
grows_end before after end nodes graph ends of_row =
    let rows : after.graph.rows ≡ before.graph.rows = ap (λ (g : Contents (List ℕ) Row). g.rows) graph in
    let longer : length before.graph.rows ≤ length after.graph.rows = let e = ap length rows in omega (arith, e) in
    let there : end.row < length after.graph.rows = omega (arith, longer, of_row) in
    grows_where before after nodes (ap (λ (g : Contents (List ℕ) Row). g.nodes) graph) longer
    (λ sound. let e = ap length rows in let h = sound.few in omega (arith, e, h)) (subst AreLinked (sym rows))
    (λ of. subst (AreOfRows after.graph.rows) (sym ends) (All-push (λ (e : End). e.row < length after.graph.rows) before.ends.items end
    (ends_stay before.graph.rows after.graph.rows before.ends.items longer of) there))

-- a row with an equal key existed, or the row is the new last one
pub grows_added : (before after : Findings) (key : List ℕ) (visits : ℕ) (row : Row) (added : Added) → after.nodes ≡ before.nodes
    → after.ends.items ≡ before.ends.items → ComesFromBefore (length before.graph.rows) row
    → IsAdded (pointwise nat_eq) key visits row added before.graph after.graph → Grows before after
grows_added before after key visits row (Old number) nodes ends from is =
    grows_same before after nodes (ap (λ (g : Contents (List ℕ) Row). g.nodes) is.1) (ap (λ (g : Contents (List ℕ) Row). g.rows) is.1) ends
grows_added before after key visits row (New number) nodes ends from is =
    let rows : after.graph.rows ≡ before.graph.rows ++ row ∷ [] = is.2.rows in
    let one : length after.graph.rows ≡ length before.graph.rows + 1 = ap length rows ∙ length-append before.graph.rows (row ∷ []) in
    let longer : length before.graph.rows ≤ length after.graph.rows = omega (arith, one) in
    grows_where before after nodes is.2.nodes longer (λ sound. let h = is.1 in let e = sound.budget in omega (arith, one, h, e))
    (λ linked. subst AreLinked (sym rows) (linked_more before.graph.rows row from linked))
    (λ of. subst (AreOfRows after.graph.rows) (sym ends) (ends_stay before.graph.rows after.graph.rows before.ends.items longer of))

-- nothing was found yet
pub sound_nothing : (findings : Findings) → findings.graph ≡ empty findings.nodes → findings.ends.items ≡ [] → IsSound findings
sound_nothing findings graph ends =
    let rows : findings.graph.rows ≡ [] = ap (λ (g : Contents (List ℕ) Row). g.rows) graph in
    let none : length findings.graph.rows ≡ 0 = ap length rows in
    record {
      budget = ap (λ (g : Contents (List ℕ) Row). g.nodes) graph;
      few = omega (arith, none);
      linked = λ number row at. absurd (none-some row (sym (ap (λ rs. slice_get rs number) rows) ∙ at));
      ends = subst (AreOfRows findings.graph.rows) (sym ends) (λ k d within. absurd (omega arith));
    }

-- only the worklist has changed
pub grows_worked : (before : Findings) (graph : Contents (List ℕ) Row) → graph ≡ with_work graph.work before.graph
    → Grows before (record before { graph = graph })
grows_worked before graph is =
    grows_same before (record before { graph = graph }) refl (ap (λ (g : Contents (List ℕ) Row). g.nodes) is)
    (ap (λ (g : Contents (List ℕ) Row). g.rows) is) refl

-- a row that exists is there with more rows
pub from_before : (before after : Findings) (row : Row) → Grows before after → row.parent < length before.graph.rows
    → ComesFromBefore (length after.graph.rows) row
from_before before after row grows there = let h = grows.rows in inl (omega (arith, h, there))
