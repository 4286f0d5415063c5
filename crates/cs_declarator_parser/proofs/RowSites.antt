-- Phrases with commas between them, over indices of tokens: the result of each return of their loops. For the contracts of
-- `declarators`, `with_others` and `parameter_list`, and of the lists that may end with a comma.
use Rattle.std.proofs.Common.{◌≡◌, ℕ, ◌+◌, ◌≤◌, max, Bool, true, false, if◌then◌else◌, List, [], ◌∷◌, ◌++◌, length, refl, sym}
use Rattle.std.proofs.Common.{ap, ◌∙◌, subst, arith, append_assoc}
use Rattle.std.proofs.lemmas.Grind.{common_steps}
use Rattle.std.specs.Ordering.{ord_max, nat_cmp}
use Rattle.cs_ast.specs.declared.token.Token.{Token}
use Rattle.cs_ast.specs.declared.token.TokenKind.{TokenKind}
use Rattle.cs_ast.specs.declared.token.TokenKind.TheVariants as token
use Rattle.cs_ast.specs.RawFileHeight.{highest_by}
use Rattle.cs_grammar.specs.declared.refusal.Reason.{Reason}
use Rattle.cs_grammar.specs.Text.{Kinds}
use Rattle.cs_grammar.specs.FileText.{with_commas, each_after_comma}
use Rattle.cs_grammar.specs.Parsing.{Class, Took, Exactly}
use Rattle.cs_grammar.specs.Composed.{Separated, Trailing}
use Rattle.cs_grammar.proofs.Holes.{Lawful, splits}
use Rattle.cs_grammar.proofs.Rows.{comma_token, Separates, SoFar, before_commas, before_more, before_append, so_far_none, so_far_more, so_far_refused}
use Rattle.cs_grammar.proofs.Rows.{so_far_wrong, so_far_exact}
use Rattle.cs_grammar.proofs.TrailingRows.{TrailingSoFar, CommaSoFar, NoneCloses, NotClosed, Opens, trailing_start, trailing_refused, trailing_wrong}
use Rattle.cs_grammar.proofs.TrailingRows.{trailing_comma, trailing_exact, comma_exact, comma_more, comma_refused, opens_not_closed}
use Rattle.cs_expr_parser.specs.Positions.{kind_or_end}
use Rattle.cs_expr_parser.specs.Parts.{Spells, IsRefused, is_deep}
use Rattle.cs_expr_parser.proofs.Standing.{spells_one, spells_none, spells_more, spells_as}
use Rattle.cs_expr_parser.proofs.Stopping.{refused_here}
use Rattle.cs_expr_parser.specs.declared.stop.Stop.{Stop}
use Rattle.cs_declarator_parser.specs.declared.stop.Taken.{Taken}
use Rattle.cs_declarator_parser.specs.Answers.{Stops, IsExactly}
use Rattle.cs_declarator_parser.proofs.PartStops.{stops_in, stops_pass}

-- the greater of two heights
pub max_is : (a b : ℕ) → ord_max nat_cmp a b ≡ max a b
max_is a b = grind (arith, common_steps)

comma_some : comma_token ≡ token.Attribute → ⊥
comma_some e = cc

-- the height of a list and one more
pub highest_more : {A : Type 0} (by : A → ℕ) (done : List A) (a : A) → highest_by by (done ++ a ∷ []) ≡ max (highest_by by done) (by a)
highest_more by [] a = omega arith
highest_more by (d ∷ ds) a = let h = highest_more by ds a in omega (arith, h)

after_last : {A : Type 0} (spell : A → Kinds → Kinds) (done : List A) (last : A) (rest : Kinds)
    → each_after_comma spell (done ++ last ∷ []) rest ≡ comma_token ∷ before_commas spell done (spell last rest)
after_last spell [] last rest = refl
after_last spell (d ∷ ds) last rest = ap (λ (x : Kinds). comma_token ∷ spell d x) (after_last spell ds last rest)

-- the tokens of phrases with commas between them
pub commas_last : {A : Type 0} (spell : A → Kinds → Kinds) (done : List A) (last : A) (rest : Kinds)
    → with_commas spell (done ++ last ∷ []) rest ≡ before_commas spell done (spell last rest)
commas_last spell [] last rest = refl
commas_last spell (d ∷ ds) last rest = ap (spell d) (after_last spell ds last rest)

-- phrases with a comma after each were taken, and one more
pub record RowSoFar (D : Class) (close : TokenKind) (limit : ℕ) (tokens : List Token) (from : ℕ) (done : List D.Tree) (last : D.Tree) (next : ℕ)
    (deep : Bool) (tall : ℕ) : Type 0 where
  pub at : ℕ
  pub spelled : Spells tokens from at (before_commas D.spell done)
  pub so_far : SoFar D close limit done
  pub last_spelled : Spells tokens at next (D.spell last)
  pub took : Took D limit last (kind_or_end tokens next) deep
  pub height_is : tall ≡ max (highest_by D.tall done) (D.tall last)

pub row_first : (D : Class) (close : TokenKind) (limit : ℕ) → (s : Separates D close) → D.tall s.least.tree ≤ limit
    → (tokens : List Token) (from : ℕ) → from ≤ length tokens
    → (first : D.Tree) (next : ℕ) (deep : Bool) (tall : ℕ) → Spells tokens from next (D.spell first)
    → Took D limit first (kind_or_end tokens next) deep → tall ≡ D.tall first → RowSoFar D close limit tokens from [] first next deep tall
row_first D close limit s fits tokens from within first next deep tall sp t h = record {
  at = from;
  spelled = spells_none tokens from within;
  so_far = so_far_none D close limit s fits;
  last_spelled = sp;
  took = t;
  height_is = omega (arith, h);
}

-- a comma follows the last phrase
comma_spelled : (D : Class) (close : TokenKind) (limit : ℕ) (tokens : List Token) (from : ℕ) (done : List D.Tree) (last : D.Tree) (next : ℕ) (deep : Bool)
    (tall : ℕ) → RowSoFar D close limit tokens from done last next deep tall → kind_or_end tokens next ≡ comma_token
    → Spells tokens from (next + 1) (before_commas D.spell (done ++ last ∷ []))
comma_spelled D close limit tokens from done last next deep tall r k =
    spells_as tokens from (next + 1) (λ rest. before_commas D.spell done (D.spell last (comma_token ∷ rest))) (before_commas D.spell (done ++ last ∷ []))
    (spells_more tokens from r.at (next + 1) (before_commas D.spell done) (λ rest. D.spell last (comma_token ∷ rest)) r.spelled
    (spells_more tokens r.at next (next + 1) (D.spell last) (λ rest. comma_token ∷ rest) r.last_spelled (spells_one tokens next comma_token k comma_some)))
    (λ rest. sym (before_more D done last rest))

comma_so_far : (D : Class) (close : TokenKind) (limit : ℕ) → (s : Separates D close) → D.tall s.least.tree ≤ limit
    → (tokens : List Token) (from : ℕ) (done : List D.Tree) (last : D.Tree) (next : ℕ) (deep : Bool) (tall : ℕ)
    → RowSoFar D close limit tokens from done last next deep tall → kind_or_end tokens next ≡ comma_token → SoFar D close limit (done ++ last ∷ [])
comma_so_far D close limit s fits tokens from done last next deep tall r k =
    so_far_more D close limit s fits done last deep r.so_far (subst (λ (x : TokenKind). Took D limit last x deep) k r.took)

pub row_next : (D : Class) (close : TokenKind) (limit : ℕ) → (s : Separates D close) → D.tall s.least.tree ≤ limit
    → (tokens : List Token) (from : ℕ) (done : List D.Tree) (last : D.Tree) (next : ℕ) (deep : Bool) (tall : ℕ)
    → RowSoFar D close limit tokens from done last next deep tall → kind_or_end tokens next ≡ comma_token
    → (another : D.Tree) (next' : ℕ) (deep' : Bool) (tall' : ℕ) → Spells tokens (next + 1) next' (D.spell another)
    → Took D limit another (kind_or_end tokens next') deep' → tall' ≡ D.tall another
    → RowSoFar D close limit tokens from (done ++ last ∷ []) another next' deep' (max tall tall')
row_next D close limit s fits tokens from done last next deep tall r k another next' deep' tall' sp t h = record {
  at = next + 1;
  spelled = comma_spelled D close limit tokens from done last next deep tall r k;
  so_far = comma_so_far D close limit s fits tokens from done last next deep tall r k;
  last_spelled = sp;
  took = t;
  height_is = let m = highest_more D.tall done last in let g = r.height_is in omega (arith, m, g, h);
}

-- the first phrase was refused
pub row_first_stops : (D : Class) (close : TokenKind) (limit : ℕ) → (s : Separates D close) → D.tall s.least.tree ≤ limit
    → (tokens : List Token) (from : ℕ) (stop : Stop) → Stops D limit tokens from stop → Stops (Separated D close) limit tokens from stop
row_first_stops D close limit s fits tokens from stop r =
    stops_pass (Separated D close) D limit limit tokens from (λ front at deep here x.
    so_far_refused D close limit s [] (so_far_none D close limit s fits) front (kind_or_end tokens at) deep x) stop r

-- a phrase after a comma was refused
pub row_next_stops : (D : Class) (close : TokenKind) (limit : ℕ) → (s : Separates D close) → D.tall s.least.tree ≤ limit
    → (tokens : List Token) (from : ℕ) (done : List D.Tree) (last : D.Tree) (next : ℕ) (deep : Bool) (tall : ℕ)
    → RowSoFar D close limit tokens from done last next deep tall → kind_or_end tokens next ≡ comma_token
    → (stop : Stop) → Stops D limit tokens (next + 1) stop → Stops (Separated D close) limit tokens from stop
row_next_stops D close limit s fits tokens from done last next deep tall r k stop x =
    stops_in (Separated D close) D limit limit tokens from (next + 1) (before_commas D.spell (done ++ last ∷ []) [])
    (spells_as tokens from (next + 1) (before_commas D.spell (done ++ last ∷ [])) (λ rest. before_commas D.spell (done ++ last ∷ []) [] ++ rest)
    (comma_spelled D close limit tokens from done last next deep tall r k)
    (λ rest. sym (before_append D s.law (done ++ last ∷ []) [] rest)))
    (λ front at deep' here y.
    so_far_refused D close limit s (done ++ last ∷ []) (comma_so_far D close limit s fits tokens from done last next deep tall r k) front
    (kind_or_end tokens at) deep' y) stop x

last_front : (D : Class) → Lawful D → (tokens : List Token) (from at next : ℕ) (done : List D.Tree) (last : D.Tree)
    → Spells tokens from at (before_commas D.spell done) → Spells tokens at next (D.spell last)
    → Spells tokens from next (λ rest. (before_commas D.spell done [] ++ D.spell last []) ++ rest)
last_front D law tokens from at next done last sp sp' =
    spells_as tokens from next (λ rest. before_commas D.spell done (D.spell last rest)) (λ rest. (before_commas D.spell done [] ++ D.spell last []) ++ rest)
    (spells_more tokens from at next (before_commas D.spell done) (D.spell last) sp sp')
    (λ rest. ap (before_commas D.spell done) (splits D law last rest) ∙ sym (before_append D law done [] (D.spell last [] ++ rest))
    ∙ sym (append_assoc (before_commas D.spell done []) (D.spell last []) rest))

-- neither a comma nor the closing token follows the last phrase
pub row_wrong : (D : Class) (close : TokenKind) (limit : ℕ) → (s : Separates D close)
    → (tokens : List Token) (from : ℕ) (done : List D.Tree) (last : D.Tree) (next : ℕ) (reason : Reason) (tall : ℕ)
    → RowSoFar D close limit tokens from done last next (is_deep reason) tall → (kind_or_end tokens next ≡ comma_token → ⊥)
    → (kind_or_end tokens next ≡ close → ⊥) → IsRefused (Separated D close) limit tokens from next reason
row_wrong D close limit s tokens from done last next reason tall r comma closed = record {
  front = before_commas D.spell done [] ++ D.spell last [];
  spelled = last_front D s.law tokens from r.at next done last r.spelled r.last_spelled;
  refused = so_far_wrong D close limit s done r.so_far last (kind_or_end tokens next) (is_deep reason) r.took comma closed;
}

-- the next token closes the list
pub row_taken : {B : Type 0} (D : Class) (close : TokenKind) (limit : ℕ) → (s : Separates D close) → (close ≡ token.Attribute → ⊥)
    → (view : B → List D.Tree) (tokens : List Token) (from : ℕ) (done : List D.Tree) (last : D.Tree) (next : ℕ) (deep : Bool) (tall : ℕ)
    → RowSoFar D close limit tokens from done last next deep tall → kind_or_end tokens next ≡ close
    → (taken : Taken B) → view taken.tree ≡ done ++ last ∷ [] → taken.height ≡ tall → taken.next ≡ next + 1
    → IsExactly (Separated D close) view limit tokens from taken
row_taken D close limit s some view tokens from done last next deep tall r k taken tree tallness number = record {
  height_is = let m = highest_more D.tall done last in let g = r.height_is in let e : tall ≡ highest_by D.tall (done ++ last ∷ []) = omega (arith, m, g) in
      tallness ∙ e ∙ ap (highest_by D.tall) (sym tree);
  spelled =
      subst (λ (n : ℕ). Spells tokens from n ((Separated D close).spell (view taken.tree))) (sym number)
      (subst (λ (x : List D.Tree). Spells tokens from (next + 1) ((Separated D close).spell x)) (sym tree)
      (spells_as tokens from (next + 1) (λ rest. before_commas D.spell done (D.spell last (close ∷ rest))) ((Separated D close).spell (done ++ last ∷ []))
      (spells_more tokens from r.at (next + 1) (before_commas D.spell done) (λ rest. D.spell last (close ∷ rest)) r.spelled
      (spells_more tokens r.at next (next + 1) (D.spell last) (λ rest. close ∷ rest) r.last_spelled (spells_one tokens next close k some)))
      (λ rest. sym (commas_last D.spell done last (close ∷ rest)))));
  exactly =
      subst (λ (x : List D.Tree). Exactly (Separated D close) limit x) (sym tree)
      (so_far_exact D close limit s done r.so_far last deep (subst (λ (x : TokenKind). Took D limit last x deep) k r.took));
}

-- what may follow phrases with a comma after each: anything at the beginning, later not the closing token
abbrev pub FitFor : {A : Type 0} → TokenKind → List A → Kinds → Type 0
FitFor close [] following = Unit {0}
FitFor close (a ∷ all) following = NotClosed close following

-- phrases with a comma after each were taken, and one more; a comma may end the list
pub record TrailingRow (D : Class) (close : TokenKind) (limit : ℕ) (tokens : List Token) (from : ℕ) (done : List D.Tree) (last : D.Tree) (next : ℕ)
    (deep : Bool) (tall : ℕ) : Type 0 where
  pub at : ℕ
  pub spelled : Spells tokens from at (before_commas D.spell done)
  pub so_far : TrailingSoFar D close limit done (FitFor close done)
  pub last_spelled : Spells tokens at next (D.spell last)
  pub took : Took D limit last (kind_or_end tokens next) deep
  pub height_is : tall ≡ max (highest_by D.tall done) (D.tall last)

pub trailing_first : (D : Class) (close : TokenKind) (limit : ℕ) → (s : Separates D close) → D.tall s.least.tree ≤ limit
    → (tokens : List Token) (from : ℕ) → from ≤ length tokens
    → (first : D.Tree) (next : ℕ) (deep : Bool) (tall : ℕ) → Spells tokens from next (D.spell first)
    → Took D limit first (kind_or_end tokens next) deep → tall ≡ D.tall first → TrailingRow D close limit tokens from [] first next deep tall
trailing_first D close limit s fits tokens from within first next deep tall sp t h = record {
  at = from;
  spelled = spells_none tokens from within;
  so_far = trailing_start D close limit s fits;
  last_spelled = sp;
  took = t;
  height_is = omega (arith, h);
}

opens_for : (D : Class) (close : TokenKind) → NoneCloses D close → (done : List D.Tree) → Opens D (FitFor close done)
opens_for D close none [] = λ d following is. tt
opens_for D close none (d ∷ ds) = opens_not_closed D close none

trailing_spelled : (D : Class) (close : TokenKind) (limit : ℕ) (tokens : List Token) (from : ℕ) (done : List D.Tree) (last : D.Tree) (next : ℕ)
    (deep : Bool) (tall : ℕ) → TrailingRow D close limit tokens from done last next deep tall → kind_or_end tokens next ≡ comma_token
    → Spells tokens from (next + 1) (before_commas D.spell (done ++ last ∷ []))
trailing_spelled D close limit tokens from done last next deep tall r k =
    spells_as tokens from (next + 1) (λ rest. before_commas D.spell done (D.spell last (comma_token ∷ rest))) (before_commas D.spell (done ++ last ∷ []))
    (spells_more tokens from r.at (next + 1) (before_commas D.spell done) (λ rest. D.spell last (comma_token ∷ rest)) r.spelled
    (spells_more tokens r.at next (next + 1) (D.spell last) (λ rest. comma_token ∷ rest) r.last_spelled (spells_one tokens next comma_token k comma_some)))
    (λ rest. sym (before_more D done last rest))

comma_row : (D : Class) (close : TokenKind) (limit : ℕ) → (s : Separates D close) → NoneCloses D close
    → (tokens : List Token) (from : ℕ) (done : List D.Tree) (last : D.Tree) (next : ℕ) (deep : Bool) (tall : ℕ)
    → TrailingRow D close limit tokens from done last next deep tall → kind_or_end tokens next ≡ comma_token
    → CommaSoFar D close limit (done ++ last ∷ [])
comma_row D close limit s none tokens from done last next deep tall r k =
    trailing_comma D close limit s done (FitFor close done) (opens_for D close none done) r.so_far last deep
    (subst (λ (x : TokenKind). Took D limit last x deep) k r.took)

fit_more : (D : Class) (close : TokenKind) (limit : ℕ) (done : List D.Tree) (last : D.Tree)
    → TrailingSoFar D close limit (done ++ last ∷ []) (NotClosed close)
    → TrailingSoFar D close limit (done ++ last ∷ []) (FitFor close (done ++ last ∷ []))
fit_more D close limit [] last t = t
fit_more D close limit (d ∷ ds) last t = t

pub trailing_next : (D : Class) (close : TokenKind) (limit : ℕ) → (s : Separates D close) → D.tall s.least.tree ≤ limit → NoneCloses D close
    → (tokens : List Token) (from : ℕ) (done : List D.Tree) (last : D.Tree) (next : ℕ) (deep : Bool) (tall : ℕ)
    → TrailingRow D close limit tokens from done last next deep tall → kind_or_end tokens next ≡ comma_token
    → (another : D.Tree) (next' : ℕ) (deep' : Bool) (tall' : ℕ) → Spells tokens (next + 1) next' (D.spell another)
    → Took D limit another (kind_or_end tokens next') deep' → tall' ≡ D.tall another
    → TrailingRow D close limit tokens from (done ++ last ∷ []) another next' deep' (max tall tall')
trailing_next D close limit s fits none tokens from done last next deep tall r k another next' deep' tall' sp t h = record {
  at = next + 1;
  spelled = trailing_spelled D close limit tokens from done last next deep tall r k;
  so_far =
      fit_more D close limit done last
      (comma_more D close limit s fits (done ++ last ∷ []) (comma_row D close limit s none tokens from done last next deep tall r k));
  last_spelled = sp;
  took = t;
  height_is = let m = highest_more D.tall done last in let g = r.height_is in omega (arith, m, g, h);
}

-- the first phrase was refused
pub trailing_first_stops : (D : Class) (close : TokenKind) (limit : ℕ) → (s : Separates D close) → D.tall s.least.tree ≤ limit
    → (tokens : List Token) (from : ℕ) (stop : Stop) → Stops D limit tokens from stop → Stops (Trailing D close) limit tokens from stop
trailing_first_stops D close limit s fits tokens from stop r =
    stops_pass (Trailing D close) D limit limit tokens from (λ front at deep here x.
    trailing_refused D close limit s [] (λ rest. Unit {0}) (trailing_start D close limit s fits) front (kind_or_end tokens at) deep (λ following near. tt)
    x) stop r

-- a phrase after a comma was refused
pub trailing_next_stops : (D : Class) (close : TokenKind) (limit : ℕ) → (s : Separates D close) → D.tall s.least.tree ≤ limit → NoneCloses D close
    → (tokens : List Token) (from : ℕ) (done : List D.Tree) (last : D.Tree) (next : ℕ) (deep : Bool) (tall : ℕ)
    → TrailingRow D close limit tokens from done last next deep tall → kind_or_end tokens next ≡ comma_token
    → (kind_or_end tokens (next + 1) ≡ close → ⊥) → (stop : Stop) → Stops D limit tokens (next + 1) stop
    → Stops (Trailing D close) limit tokens from stop
trailing_next_stops D close limit s fits none tokens from done last next deep tall r k other stop x =
    stops_in (Trailing D close) D limit limit tokens from (next + 1) (before_commas D.spell (done ++ last ∷ []) [])
    (spells_as tokens from (next + 1) (before_commas D.spell (done ++ last ∷ [])) (λ rest. before_commas D.spell (done ++ last ∷ []) [] ++ rest)
    (trailing_spelled D close limit tokens from done last next deep tall r k)
    (λ rest. sym (before_append D s.law (done ++ last ∷ []) [] rest)))
    (λ front at deep' here y.
    comma_refused D close limit s none (done ++ last ∷ [])
    (comma_more D close limit s fits (done ++ last ∷ []) (comma_row D close limit s none tokens from done last next deep tall r k)) front
    (kind_or_end tokens at) deep'
    (λ empty closed. other (sym (refused_here tokens (next + 1) at front here empty) ∙ closed)) y) stop x

-- neither a comma nor the closing token follows the last phrase
pub trailing_missing : (D : Class) (close : TokenKind) (limit : ℕ) → (s : Separates D close) → NoneCloses D close
    → (tokens : List Token) (from : ℕ) (done : List D.Tree) (last : D.Tree) (next : ℕ) (reason : Reason) (tall : ℕ)
    → TrailingRow D close limit tokens from done last next (is_deep reason) tall → (kind_or_end tokens next ≡ comma_token → ⊥)
    → (kind_or_end tokens next ≡ close → ⊥) → IsRefused (Trailing D close) limit tokens from next reason
trailing_missing D close limit s none tokens from done last next reason tall r comma closed = record {
  front = before_commas D.spell done [] ++ D.spell last [];
  spelled = last_front D s.law tokens from r.at next done last r.spelled r.last_spelled;
  refused = trailing_wrong D close limit s done (FitFor close done) (opens_for D close none done) r.so_far last (kind_or_end tokens next) (is_deep reason)
      r.took comma closed;
}

-- the next token closes the list, after a comma or not
row_closed : (D : Class) (close : TokenKind) (limit : ℕ) → (s : Separates D close) → NoneCloses D close
    → (tokens : List Token) (from : ℕ) (done : List D.Tree) (last : D.Tree) (next : ℕ) (deep : Bool) (tall : ℕ)
    → TrailingRow D close limit tokens from done last next deep tall → (comma : Bool) → (comma ≡ true → kind_or_end tokens next ≡ comma_token)
    → kind_or_end tokens (if comma then next + 1 else next) ≡ close → Exactly (Trailing D close) limit (done ++ last ∷ [], comma)
row_closed D close limit s none tokens from done last next deep tall r true comma k =
    comma_exact D close limit s none (done ++ last ∷ []) (comma_row D close limit s none tokens from done last next deep tall r (comma refl))
row_closed D close limit s none tokens from done last next deep tall r false comma k =
    trailing_exact D close limit s done (FitFor close done) (opens_for D close none done) r.so_far last deep
    (subst (λ (x : TokenKind). Took D limit last x deep) k r.took)

closed_spelled : (D : Class) (close : TokenKind) (limit : ℕ) → (close ≡ token.Attribute → ⊥)
    → (tokens : List Token) (from : ℕ) (done : List D.Tree) (last : D.Tree) (next : ℕ) (deep : Bool) (tall : ℕ)
    → TrailingRow D close limit tokens from done last next deep tall → (comma : Bool) → (comma ≡ true → kind_or_end tokens next ≡ comma_token)
    → kind_or_end tokens (if comma then next + 1 else next) ≡ close
    → Spells tokens from ((if comma then next + 1 else next) + 1) ((Trailing D close).spell (done ++ last ∷ [], comma))
closed_spelled D close limit some tokens from done last next deep tall r true comma k =
    spells_as tokens from (next + 1 + 1) (λ rest. before_commas D.spell done (D.spell last (comma_token ∷ close ∷ rest)))
    ((Trailing D close).spell (done ++ last ∷ [], true))
    (spells_more tokens from r.at (next + 1 + 1) (before_commas D.spell done) (λ rest. D.spell last (comma_token ∷ close ∷ rest)) r.spelled
    (spells_more tokens r.at next (next + 1 + 1) (D.spell last) (λ rest. comma_token ∷ close ∷ rest) r.last_spelled
    (spells_more tokens next (next + 1) (next + 1 + 1) (λ rest. comma_token ∷ rest) (λ rest. close ∷ rest)
    (spells_one tokens next comma_token (comma refl) comma_some) (spells_one tokens (next + 1) close k some))))
    (λ rest. sym (commas_last D.spell done last (comma_token ∷ close ∷ rest)))
closed_spelled D close limit some tokens from done last next deep tall r false comma k =
    spells_as tokens from (next + 1) (λ rest. before_commas D.spell done (D.spell last (close ∷ rest)))
    ((Trailing D close).spell (done ++ last ∷ [], false))
    (spells_more tokens from r.at (next + 1) (before_commas D.spell done) (λ rest. D.spell last (close ∷ rest)) r.spelled
    (spells_more tokens r.at next (next + 1) (D.spell last) (λ rest. close ∷ rest) r.last_spelled (spells_one tokens next close k some)))
    (λ rest. sym (commas_last D.spell done last (close ∷ rest)))

-- a list that was taken
pub record IsRowTaken (D : Class) (close : TokenKind) (limit : ℕ) (tokens : List Token) (from next : ℕ) (row : List D.Tree × Bool) (tall : ℕ) :
    Type 0 where
  pub height_is : tall ≡ highest_by D.tall row.0
  pub spelled : Spells tokens from next ((Trailing D close).spell row)
  pub exactly : Exactly (Trailing D close) limit row

pub trailing_taken : (D : Class) (close : TokenKind) (limit : ℕ) → (s : Separates D close) → (close ≡ token.Attribute → ⊥) → NoneCloses D close
    → (tokens : List Token) (from : ℕ) (done : List D.Tree) (last : D.Tree) (next : ℕ) (deep : Bool) (tall : ℕ)
    → TrailingRow D close limit tokens from done last next deep tall → (comma : Bool) → (comma ≡ true → kind_or_end tokens next ≡ comma_token)
    → kind_or_end tokens (if comma then next + 1 else next) ≡ close
    → IsRowTaken D close limit tokens from ((if comma then next + 1 else next) + 1) (done ++ last ∷ [], comma) tall
trailing_taken D close limit s some none tokens from done last next deep tall r comma following k = record {
  height_is = let m = highest_more D.tall done last in let g = r.height_is in omega (arith, m, g);
  spelled = closed_spelled D close limit some tokens from done last next deep tall r comma following k;
  exactly = row_closed D close limit s none tokens from done last next deep tall r comma following k;
}

-- the same for the result
pub row_is_exact : {B : Type 0} (D : Class) (close : TokenKind) (limit : ℕ) (view : B
    → List D.Tree × Bool) (tokens : List Token) (from next : ℕ) (row : List D.Tree × Bool) (tall : ℕ) (taken : Taken B)
    → IsRowTaken D close limit tokens from next row tall → view taken.tree ≡ row → taken.height ≡ tall → taken.next ≡ next
    → IsExactly (Trailing D close) view limit tokens from taken
row_is_exact D close limit view tokens from next row tall taken r tree tallness number = record {
  height_is = tallness ∙ r.height_is ∙ ap (λ (x : List D.Tree × Bool). highest_by D.tall x.0) (sym tree);
  spelled =
      subst (λ (n : ℕ). Spells tokens from n ((Trailing D close).spell (view taken.tree))) (sym number)
      (subst (λ (x : List D.Tree × Bool). Spells tokens from next ((Trailing D close).spell x)) (sym tree) r.spelled);
  exactly = subst (λ (x : List D.Tree × Bool). Exactly (Trailing D close) limit x) (sym tree) r.exactly;
}
