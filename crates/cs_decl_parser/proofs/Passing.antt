-- Phrases of one class that are phrases of another, and lists of phrases: for the contracts of the parts that parse blocks.
use Rattle.std.proofs.Common.{◌≡◌, ℕ, ◌≤◌, max, inl, inr, Bool, false, List, [], ◌∷◌, ◌++◌, length, drop, refl, sym, ap, ◌∙◌}
use Rattle.std.proofs.Common.{arith}
use Rattle.std.proofs.lemmas.Bool.{false≢true}
use Rattle.cs_ast.specs.declared.token.Token.{Token}
use Rattle.cs_ast.specs.declared.token.TokenKind.{TokenKind}
use Rattle.cs_grammar.specs.Text.{Kinds}
use Rattle.cs_grammar.specs.Parsing.{Class, Near, Exactly}
use Rattle.cs_grammar.proofs.Beginnings.{BeginsWith}
use Rattle.cs_grammar.proofs.Holes.{Lawful, splits, Tail, tail_refused, tail_took}
use Rattle.cs_grammar.proofs.Tails.{near_other, tail_as, Production}
use Rattle.cs_grammar.proofs.Rows.{Listing}
use Rattle.cs_grammar.proofs.GrowingRows.{Growing, GrownSoFar, grown_none, grown_more, grown_refused, grown_exact}
use Rattle.cs_grammar.proofs.Statements.{close_brace}
use Rattle.cs_expr_parser.specs.Positions.{kinds, kind_or_end}
use Rattle.cs_expr_parser.specs.Parts.{Spells}
use Rattle.cs_expr_parser.specs.declared.stop.Stop.{Stop}
use Rattle.cs_declarator_parser.specs.Answers.{Stops}
use Rattle.cs_expr_parser.proofs.Standing.{kinds_first, spells_none, spells_more, spells_as}
use Rattle.cs_declarator_parser.proofs.PartStops.{Standing, StandingExactly, FitsAll, near_start, stops_in, stops_pass}

pub pass_tail : (C D : Class) (build : D.Tree → C.Tree) (Fit : Kinds → Type 0) (limit : ℕ) → Production C D 0 [] build Fit
    → Tail C D limit limit [] build Fit
pass_tail C D build Fit limit p = record {
  started = inl refl;
  invert = λ whole after following is shut fit same. p.invert whole after following is fit same;
  shut = p.shut;
  spelled = p.spelled;
  is_phrase = p.is_phrase;
  low = λ part is low. let t = p.taller part in omega (arith, t, low);
  rises = λ part high. let t = p.taller part in omega (arith, t, high);
}

-- a phrase of D was refused, and those of C with this beginning consist of one
pub pass_stops : (C D : Class) (build : D.Tree → C.Tree) (Fit : Kinds → Type 0) → Production C D 0 [] build Fit → Lawful D
    → (limit : ℕ) (tokens : List Token) (from : ℕ) → FitsAll Fit tokens from → (s : Stop) → Stops D limit tokens from s
    → Stops C limit tokens from s
pass_stops C D build Fit p law limit tokens from fits s r =
    stops_pass C D limit limit tokens from (λ front at deep here x.
    tail_refused C D limit limit [] build Fit law (pass_tail C D build Fit limit p) front (kind_or_end tokens at) deep (fits front at here) x) s r

-- a phrase of D was taken
pub pass_stands : (C D : Class) (build : D.Tree → C.Tree) (Fit : Kinds → Type 0) → Production C D 0 [] build Fit → Lawful D
    → (limit : ℕ) (tokens : List Token) (from next : ℕ) (deep : Bool) (part : D.Tree) → ((following : Kinds) → Fit (D.spell part following))
    → Standing D limit tokens from next deep part → Standing C limit tokens from next deep (build part)
pass_stands C D build Fit p law limit tokens from next deep part fits t = record {
  spelled = spells_as tokens from next (D.spell part) (C.spell (build part)) t.spelled (λ rest. sym (p.spelled part rest));
  took = tail_took C D limit limit [] build Fit law (pass_tail C D build Fit limit p) part (kind_or_end tokens next) deep (λ following near. fits following)
      t.took;
}

-- the same for a phrase that is determined by its tokens
pub pass_exactly : (C D : Class) (build : D.Tree → C.Tree) (Fit : Kinds → Type 0) → Production C D 0 [] build Fit
    → (limit : ℕ) (tokens : List Token) (from next : ℕ) (part : D.Tree) → ((following : Kinds) → Fit (D.spell part following))
    → StandingExactly D limit tokens from next part → StandingExactly C limit tokens from next (build part)
pass_exactly C D build Fit p limit tokens from next part fits t =
    let x = t.exactly in
    record {
      spelled = spells_as tokens from next (D.spell part) (C.spell (build part)) t.spelled (λ rest. sym (p.spelled part rest));
      exactly = record {
        is_phrase = p.is_phrase part x.is_phrase;
        low = let h = p.taller part in let l = x.low in omega (arith, h, l);
        exact = λ other after following is same.
            let f = p.invert other after (D.spell part following) is (fits following) (same ∙ p.spelled part following) in
            let e = x.exact f.0 after following f.2 (sym f.3) in
            (f.1 ∙ ap build e.0, e.1);
      };
    }

-- the first token of a phrase is determined by it, whatever follows it
pub begins_near : (C : Class) → Lawful C → (test : TokenKind → Bool) (tokens : List Token) (from next : ℕ) (c : C.Tree)
    → BeginsWith test (C.spell c []) → Spells tokens from next (C.spell c) → (following : Kinds) → Near (kind_or_end tokens from) (C.spell c following)
begins_near C law test tokens from next c b sp following =
    let text : (x : Kinds) → C.spell c x ≡ b.first ∷ (b.others ++ x) = λ x. splits C law c x ∙ ap (λ (y : Kinds). y ++ x) b.are in
    let k : kind_or_end tokens from ≡ b.first =
    kinds_first (drop from tokens) b.first (b.others ++ kinds (drop next tokens)) (sp.spelled ∙ text (kinds (drop next tokens))) in
    inr (b.others ++ following, text following ∙ ap (λ (t : TokenKind). t ∷ (b.others ++ following)) (sym k))

-- a list so far, with its tokens
pub record RowSoFar {L C : Class} {all : Listing L C} (grow : Growing L C all) (limit : ℕ) (tokens : List Token) (from : ℕ) (done : L.Tree)
    (tall next : ℕ) : Type 0 where
  pub spelled : Spells tokens from next (grow.row_text done)
  pub height_is : tall ≡ L.tall done
  pub so_far : GrownSoFar grow limit done (Near (kind_or_end tokens next))

-- nothing was taken so far
pub row_none : {L C : Class} {all : Listing L C} (grow : Growing L C all) (limit : ℕ) (tokens : List Token) (from : ℕ) → from ≤ length tokens
    → RowSoFar grow limit tokens from all.none 0 from
row_none {L} {C} {all} grow limit tokens from within = record {
  spelled = spells_as tokens from from (λ rest. rest) (grow.row_text all.none) (spells_none tokens from within) (λ rest. sym (grow.none_text rest));
  height_is = sym all.tall_none;
  so_far = tail_as L L limit limit (grow.row_text all.none []) (grow.row_text all.none []) (grow.append all.none) (grow.append all.none) (λ rest. Unit {0})
      (Near (kind_or_end tokens from)) (grown_none grow limit) refl (λ part. refl) (λ following near. tt);
}

-- a list ends with a closing brace
abbrev pub EndsWithBrace : {L C : Class} (all : Listing L C) → Type 0
EndsWithBrace {L} all = (after : Kinds) → L.spell all.none after ≡ close_brace ∷ after

-- a phrase of the list was refused
pub row_stops : {L C : Class} {all : Listing L C} (grow : Growing L C all) → EndsWithBrace all
    → (limit : ℕ) (tokens : List Token) (from : ℕ) (done : L.Tree) (tall next : ℕ) → RowSoFar grow limit tokens from done tall next
    → (kind_or_end tokens next ≡ close_brace → ⊥) → (s : Stop) → Stops C limit tokens next s → Stops L limit tokens from s
row_stops {L} {C} {all} grow ends limit tokens from done tall next row open_here s r =
    stops_in L C limit limit tokens from next (grow.row_text done [])
    (spells_as tokens from next (grow.row_text done) (λ rest. grow.row_text done [] ++ rest) row.spelled (λ rest. sym (grow.row_append done [] rest)))
    (λ front at deep here x.
    grown_refused grow limit done (Near (kind_or_end tokens next)) row.so_far front (kind_or_end tokens at) deep (near_start tokens next at front here)
    (λ after following shut near same.
    near_other close_brace (kind_or_end tokens next) (front ++ following) after open_here (near_start tokens next at front here following near)
    (sym (ends after) ∙ same)) x) s r

-- one more phrase was taken
pub row_more : {L C : Class} {all : Listing L C} (grow : Growing L C all) (limit : ℕ) (tokens : List Token) (from : ℕ) (done : L.Tree) (tall next : ℕ)
    → RowSoFar grow limit tokens from done tall next → (c : C.Tree) (later : ℕ) → Standing C limit tokens next later false c
    → (test : TokenKind → Bool) → BeginsWith test (C.spell c []) → L.tall (grow.append done (all.more c all.none)) ≡ max (L.tall done) (C.tall c)
    → RowSoFar grow limit tokens from (grow.append done (all.more c all.none)) (max tall (C.tall c)) later
row_more {L} {C} {all} grow limit tokens from done tall next row c later t test b high =
    let h = row.height_is in
    record {
      spelled =
          spells_as tokens from later (λ rest. grow.row_text done (C.spell c rest)) (grow.row_text (grow.append done (all.more c all.none)))
          (spells_more tokens from next later (grow.row_text done) (C.spell c) row.spelled t.spelled)
          (λ rest. sym (grow.text_more done c rest));
      height_is = omega (arith, h, high);
      so_far = grown_more grow limit done (Near (kind_or_end tokens next)) row.so_far c (kind_or_end tokens later) false t.took
          (λ reported. absurd (false≢true reported)) (λ following near. begins_near C all.law test tokens next later c b t.spelled following);
    }

-- the closing brace follows the list
pub row_exactly : {L C : Class} {all : Listing L C} (grow : Growing L C all) → EndsWithBrace all
    → (limit : ℕ) (tokens : List Token) (from : ℕ) (done : L.Tree) (tall next : ℕ) → RowSoFar grow limit tokens from done tall next
    → kind_or_end tokens next ≡ close_brace → Exactly L limit all.none → ((other : L.Tree) (after : Kinds) → L.Shut other after)
    → Exactly L limit done
row_exactly {L} {C} {all} grow ends limit tokens from done tall next row closing x shut =
    grown_exact grow limit done (Near (kind_or_end tokens next)) row.so_far
    (λ following. inr (following, ends following ∙ ap (λ (t : TokenKind). t ∷ following) (sym closing))) x shut close_brace
