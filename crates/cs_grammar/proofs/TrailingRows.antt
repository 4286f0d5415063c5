-- Lists of phrases with commas between them and perhaps one after them: for initializer lists and for enumeration constants.
use Rattle.std.proofs.Common.{◌≡◌, ℕ, ◌+◌, ◌≤◌, max, inl, inr, Bool, true, false, List, [], ◌∷◌, ◌++◌, Option, Some, None, refl}
use Rattle.std.proofs.Common.{sym, ap, ◌∙◌, subst, arith, append_assoc, append-nil}
use Rattle.cs_ast.specs.declared.token.TokenKind.{TokenKind}
use Rattle.cs_ast.specs.RawFileHeight.{highest_by}
use Rattle.cs_grammar.specs.Text.{Kinds}
use Rattle.cs_grammar.specs.FileText.{comma_text, with_commas, each_after_comma}
use Rattle.cs_grammar.specs.FilePhrases.{AreAll, IsSomeList}
use Rattle.cs_grammar.specs.Parsing.{Class, Near, Took, Refused, Exactly}
use Rattle.cs_grammar.specs.Composed.{Sequence, Trailing, FurtherTrailing}
use Rattle.cs_grammar.proofs.FileTexts.{each_append, comma_append}
use Rattle.cs_grammar.proofs.Holes.{Lawful, splits, Tail, tail_refused, tail_took, exact_took}
use Rattle.cs_grammar.proofs.Tails.{tail_then, tail_as, Least, Production, production_tail}
use Rattle.cs_grammar.proofs.Sequences.{Joins, sequence_law, sequence_least, first_refused, second_tail, second_wrong, took_exact}
use Rattle.cs_grammar.proofs.Rows.{Separates, comma_token, before_commas, before_more, before_append, separated_below}

-- what follows a comma: only the token that closes the list, or a phrase of D and others
abbrev pub Rest : Class → Type 0
Rest D = Option (D.Tree × (List D.Tree × Bool))

abbrev pub rest_text : (D : Class) → TokenKind → Rest D → Kinds → Kinds
rest_text D close None after = close ∷ after
rest_text D close (Some row) after = D.spell row.0 (each_after_comma D.spell row.1.0 (comma_text row.1.1 (close ∷ after)))

abbrev pub rest_height : (D : Class) → Rest D → ℕ
rest_height D None = 0
rest_height D (Some row) = max (D.tall row.0) (highest_by D.tall row.1.0)

abbrev pub IsRest : (D : Class) → Rest D → Type 0
IsRest D None = Unit {0}
IsRest D (Some row) = D.Is row.0 × AreAll D.Is row.1.0

abbrev pub AfterComma : Class → TokenKind → Class
AfterComma D close = record { Tree = Rest D; spell = rest_text D close; tall = rest_height D; Is = IsRest D; Shut = λ rest after. Unit {0} }

-- the token that closes a list begins no phrase of it
abbrev pub NoneCloses : Class → TokenKind → Type 0
NoneCloses D close = (d : D.Tree) (after more : Kinds) → D.Is d → D.spell d after ≡ close ∷ more → ⊥

pub trailing_law : (D : Class) (close : TokenKind) → Lawful D → Lawful (Trailing D close)
trailing_law D close law ([], comma) x y = comma_append comma (close ∷ x) y
trailing_law D close law (d ∷ ds, comma) x y =
    law d (each_after_comma D.spell ds (comma_text comma (close ∷ x))) y
    ∙ ap (λ (r : Kinds). D.spell d r) (each_append D.spell law ds (comma_text comma (close ∷ x)) y
    ∙ ap (λ (r : Kinds). each_after_comma D.spell ds r) (comma_append comma (close ∷ x) y))

pub further_trailing_law : (D : Class) (close : TokenKind) → Lawful D → Lawful (FurtherTrailing D close)
further_trailing_law D close law row x y =
    each_append D.spell law row.0 (comma_text row.1 (close ∷ x)) y
    ∙ ap (λ (r : Kinds). each_after_comma D.spell row.0 r) (comma_append row.1 (close ∷ x) y)

rest_law : (D : Class) (close : TokenKind) → Lawful D → Lawful (AfterComma D close)
rest_law D close law None x y = refl
rest_law D close law (Some row) x y =
    law row.0 (each_after_comma D.spell row.1.0 (comma_text row.1.1 (close ∷ x))) y
    ∙ ap (λ (r : Kinds). D.spell row.0 r) (further_trailing_law D close law row.1 x y)

abbrev pub further_trailing_least : (D : Class) (close : TokenKind) → Least (FurtherTrailing D close)
further_trailing_least D close = record { tree = ([], false); is_phrase = tt; below = λ other is. omega arith }

abbrev rest_least : (D : Class) (close : TokenKind) → Least (AfterComma D close)
rest_least D close = record { tree = None; is_phrase = tt; below = λ other is. omega arith }

abbrev pub trailing_least : (D : Class) (close : TokenKind) → Least D → Least (Trailing D close)
trailing_least D close least = record {
  tree = (least.tree ∷ [], false);
  is_phrase = (tt, (least.is_phrase, tt));
  below = λ other is. let b = separated_below D least other.0 is.0 is.1 in omega (arith, b);
}

further_trailing_joins : (D : Class) (close : TokenKind) → Separates D close → Joins D (FurtherTrailing D close)
further_trailing_joins D close s d ([], false) after is all shut = s.closed d after
further_trailing_joins D close s d ([], true) after is all shut = s.comma d (close ∷ after)
further_trailing_joins D close s d (e ∷ es, comma) after is all shut =
    s.comma d (D.spell e (each_after_comma D.spell es (comma_text comma (close ∷ after))))

-- a phrase, others, and perhaps a comma
abbrev row_of : (D : Class) → D.Tree × (List D.Tree × Bool) → List D.Tree × Bool
row_of D part = (part.0 ∷ part.1.0, part.1.1)

abbrev Made : (D : Class) → (whole : List D.Tree × Bool) → (part : D.Tree × (List D.Tree × Bool)) → Type 0
Made D whole part = whole ≡ row_of D part

trailing_invert : (D : Class) (close : TokenKind) (list : List D.Tree) (comma : Bool) (after following : Kinds) → IsSomeList list → AreAll D.Is list
    → with_commas D.spell list (comma_text comma (close ∷ after)) ≡ following
    → (part : D.Tree × (List D.Tree × Bool)) × Made D (list, comma) part × (D.Is part.0 × AreAll D.Is part.1.0)
    × (following ≡ D.spell part.0 (each_after_comma D.spell part.1.0 (comma_text part.1.1 (close ∷ after))))
trailing_invert D close [] comma after following some is same = absurd some
trailing_invert D close (d ∷ ds) comma after following some is same = ((d, (ds, comma)), refl, is, sym same)

trailing_production : (D : Class) (close : TokenKind)
    → Production (Trailing D close) (Sequence D (FurtherTrailing D close)) 0 [] (row_of D) (λ rest. Unit {0})
trailing_production D close = record {
  invert = λ whole after following is fit same. trailing_invert D close whole.0 whole.1 after following is.0 is.1 same;
  shut = λ part after shut. tt;
  spelled = λ part after. refl;
  is_phrase = λ part is. (tt, is);
  taller = λ part. omega arith;
}

-- what follows a comma, as a list after the comma
abbrev after_comma : (D : Class) → Rest D → List D.Tree × Bool
after_comma D None = ([], true)
after_comma D (Some row) = row_of D row

abbrev MadeRest : (D : Class) → (whole : List D.Tree × Bool) → Rest D → Type 0
MadeRest D whole part = whole ≡ after_comma D part

further_trailing_invert : (D : Class) (close : TokenKind) → (close ≡ comma_token → ⊥)
    → (list : List D.Tree) (comma : Bool) (after following : Kinds) → AreAll D.Is list
    → each_after_comma D.spell list (comma_text comma (close ∷ after)) ≡ comma_token ∷ following
    → (part : Rest D) × MadeRest D (list, comma) part × IsRest D part × (following ≡ rest_text D close part after)
further_trailing_invert D close differs [] false after following is same = absurd (differs cc)
further_trailing_invert D close differs [] true after following is same = (None, refl, tt, cc)
further_trailing_invert D close differs (d ∷ ds) comma after following is same = (Some (d, (ds, comma)), refl, is, cc)

rest_spelled : (D : Class) (close : TokenKind) (part : Rest D) (after : Kinds)
    → (FurtherTrailing D close).spell (after_comma D part) after ≡ comma_token ∷ rest_text D close part after
rest_spelled D close None after = refl
rest_spelled D close (Some row) after = refl

rest_is : (D : Class) (part : Rest D) → IsRest D part → AreAll D.Is (after_comma D part).0
rest_is D None is = tt
rest_is D (Some row) is = is

rest_taller : (D : Class) (part : Rest D) → highest_by D.tall (after_comma D part).0 ≡ 0 + rest_height D part
rest_taller D None = refl
rest_taller D (Some row) = omega arith

comma_production : (D : Class) (close : TokenKind) → (close ≡ comma_token → ⊥)
    → Production (FurtherTrailing D close) (AfterComma D close) 0 (comma_token ∷ []) (after_comma D) (λ rest. Unit {0})
comma_production D close differs = record {
  invert = λ whole after following is fit same. further_trailing_invert D close differs whole.0 whole.1 after following is same;
  shut = λ part after shut. tt;
  spelled = λ part after. rest_spelled D close part after;
  is_phrase = λ part is. rest_is D part is;
  taller = λ part. rest_taller D part;
}

-- the first token doesn't close the list
abbrev pub NotClosed : TokenKind → Kinds → Type 0
NotClosed close following = (more : Kinds) → following ≡ close ∷ more → ⊥

rest_invert : (D : Class) (close : TokenKind) (whole : Rest D) (after following : Kinds) → IsRest D whole → NotClosed close following
    → rest_text D close whole after ≡ following → (part : D.Tree × (List D.Tree × Bool)) × (whole ≡ Some part)
    × (D.Is part.0 × AreAll D.Is part.1.0) × (following ≡ D.spell part.0 (each_after_comma D.spell part.1.0 (comma_text part.1.1 (close ∷ after))))
rest_invert D close None after following is open_here same = absurd (open_here after (sym same))
rest_invert D close (Some row) after following is open_here same = (row, refl, is, sym same)

rest_production : (D : Class) (close : TokenKind) → Production (AfterComma D close) (Sequence D (FurtherTrailing D close)) 0 [] Some (NotClosed close)
rest_production D close = record {
  invert = λ whole after following is fit same. rest_invert D close whole after following is fit same;
  shut = λ part after shut. tt;
  spelled = λ part after. refl;
  is_phrase = λ part is. is;
  taller = λ part. omega arith;
}

pair_law : (D : Class) (close : TokenKind) → Lawful D → Lawful (Sequence D (FurtherTrailing D close))
pair_law D close law = sequence_law D (FurtherTrailing D close) law (further_trailing_law D close law)

abbrev pair_least : (D : Class) (close : TokenKind) → Least D → Least (Sequence D (FurtherTrailing D close))
pair_least D close least = sequence_least D (FurtherTrailing D close) least (further_trailing_least D close)

-- phrases so far, followed by a phrase and others
abbrev pub rows_of : (D : Class) → List D.Tree → D.Tree × (List D.Tree × Bool) → List D.Tree × Bool
rows_of D done part = (done ++ part.0 ∷ part.1.0, part.1.1)

-- phrases so far, each with a comma after it, followed by what comes after the last comma
abbrev pub commas_of : (D : Class) → List D.Tree → Rest D → List D.Tree × Bool
commas_of D done rest = (done ++ (after_comma D rest).0, (after_comma D rest).1)

-- so many phrases were taken, each with a comma after it, and another one is expected if the next tokens fit
abbrev pub TrailingSoFar : (D : Class) → TokenKind → ℕ → List D.Tree → (Kinds → Type 0) → Type 0
TrailingSoFar D close limit done Fit =
    Tail (Trailing D close) (Sequence D (FurtherTrailing D close)) limit limit (before_commas D.spell done []) (rows_of D done) Fit

-- the same, where the list may also end
abbrev pub CommaSoFar : (D : Class) → TokenKind → ℕ → List D.Tree → Type 0
CommaSoFar D close limit done = Tail (Trailing D close) (AfterComma D close) limit limit (before_commas D.spell done []) (commas_of D done) (λ rest. Unit {0})

-- all phrases fit
abbrev pub Opens : (D : Class) → (Kinds → Type 0) → Type 0
Opens D Fit = (d : D.Tree) (following : Kinds) → D.Is d → Fit (D.spell d following)

-- at the beginning of a list
pub trailing_start : (D : Class) (close : TokenKind) (limit : ℕ) → (s : Separates D close) → D.tall s.least.tree ≤ limit
    → TrailingSoFar D close limit [] (λ rest. Unit {0})
trailing_start D close limit s fits =
    production_tail (Trailing D close) (Sequence D (FurtherTrailing D close)) 0 [] (row_of D) (λ rest. Unit {0}) limit limit (omega arith)
    (trailing_production D close) (pair_least D close s.least) (omega (arith, fits))

-- a phrase of the list was refused
pub trailing_refused : (D : Class) (close : TokenKind) (limit : ℕ) → (s : Separates D close) → (done : List D.Tree) (Fit : Kinds → Type 0)
    → TrailingSoFar D close limit done Fit → (front : Kinds) (next : TokenKind) (deep : Bool)
    → ((following : Kinds) → Near next following → Fit (front ++ following)) → Refused D limit front next deep
    → Refused (Trailing D close) limit (before_commas D.spell done [] ++ front) next deep
trailing_refused D close limit s done Fit so_far front next deep fit r =
    tail_refused (Trailing D close) (Sequence D (FurtherTrailing D close)) limit limit (before_commas D.spell done []) (rows_of D done) Fit
    (pair_law D close s.law) so_far front next deep fit
    (first_refused D (FurtherTrailing D close) limit s.law (further_trailing_joins D close s) (further_trailing_least D close) (omega arith) front next deep r)

trailing_some : (D : Class) (close : TokenKind) (list : List D.Tree) (comma : Bool) (after : Kinds)
    → each_after_comma D.spell list (comma_text comma (close ∷ after)) ≡ [] → ⊥
trailing_some D close [] false after same = cc
trailing_some D close [] true after same = cc
trailing_some D close (d ∷ ds) comma after same = cc

trailing_first : (D : Class) (close next : TokenKind) → (next ≡ comma_token → ⊥) → (next ≡ close → ⊥)
    → (list : List D.Tree) (comma : Bool) (after more : Kinds) → each_after_comma D.spell list (comma_text comma (close ∷ after)) ≡ next ∷ more
    → ⊥
trailing_first D close next no_comma no_close [] false after more same = no_close cc
trailing_first D close next no_comma no_close [] true after more same = no_comma cc
trailing_first D close next no_comma no_close (d ∷ ds) comma after more same = no_comma cc

-- a phrase was taken, and neither a comma nor the closing token follows it
pub trailing_wrong : (D : Class) (close : TokenKind) (limit : ℕ) → (s : Separates D close) → (done : List D.Tree) (Fit : Kinds → Type 0) → Opens D Fit
    → TrailingSoFar D close limit done Fit → (last : D.Tree) (next : TokenKind) (deep : Bool) → Took D limit last next deep
    → (next ≡ comma_token → ⊥) → (next ≡ close → ⊥)
    → Refused (Trailing D close) limit (before_commas D.spell done [] ++ D.spell last []) next deep
trailing_wrong D close limit s done Fit opens so_far last next deep t no_comma no_close =
    tail_refused (Trailing D close) (Sequence D (FurtherTrailing D close)) limit limit (before_commas D.spell done []) (rows_of D done) Fit
    (pair_law D close s.law) so_far (D.spell last []) next deep
    (λ following near. subst Fit (splits D s.law last following) (opens last following t.is_phrase))
    (second_wrong D (FurtherTrailing D close) limit s.law (further_trailing_joins D close s) (further_trailing_least D close) (omega arith) last next deep t
    (λ d after is same. trailing_some D close d.0 d.1 after same)
    (λ d after more is same. trailing_first D close next no_comma no_close d.0 d.1 after more same))

-- a phrase was taken: the rest of the list remains
last_tail : (D : Class) (close : TokenKind) (limit : ℕ) → (s : Separates D close) → (done : List D.Tree) (Fit : Kinds → Type 0) → Opens D Fit
    → TrailingSoFar D close limit done Fit → (last : D.Tree) (next : TokenKind) (deep : Bool) → Took D limit last next deep → D.Shut last (next ∷ [])
    → Tail (Trailing D close) (FurtherTrailing D close) limit limit (before_commas D.spell done [] ++ D.spell last []) (λ d. rows_of D done (last, d))
    (Near next)
last_tail D close limit s done Fit opens so_far last next deep t shut =
    tail_then (Trailing D close) (Sequence D (FurtherTrailing D close)) (FurtherTrailing D close) limit limit limit (before_commas D.spell done [])
    (D.spell last []) (rows_of D done) (λ d. (last, d)) Fit (Near next) (pair_law D close s.law) so_far
    (second_tail D (FurtherTrailing D close) limit s.law (further_trailing_joins D close s) (further_trailing_least D close) (omega arith) last next deep t
    (λ reported. shut))
    (λ following near. subst Fit (splits D s.law last following) (opens last following t.is_phrase))

abbrev pair : (D : Class) → List D.Tree → Bool → List D.Tree × Bool
pair D list comma = (list, comma)

abbrev Same : (D : Class) → List D.Tree × Bool → List D.Tree × Bool → Type 0
Same D one other = one ≡ other

more_rows : (D : Class) (done : List D.Tree) (last : D.Tree) (list : List D.Tree) (comma : Bool)
    → Same D (done ++ last ∷ list, comma) ((done ++ last ∷ []) ++ list, comma)
more_rows D done last list comma = ap (λ (r : List D.Tree). pair D r comma) (sym (append_assoc done (last ∷ []) list))

end_is : (D : Class) (close : TokenKind) → (close ≡ comma_token → ⊥)
    → (list : List D.Tree) (comma : Bool) (after following : Kinds)
    → each_after_comma D.spell list (comma_text comma (close ∷ after)) ≡ close ∷ following
    → (Same D (list, comma) ([], false)) × (after ≡ following)
end_is D close differs [] false after following same = (refl, cc)
end_is D close differs [] true after following same = absurd (differs cc)
end_is D close differs (d ∷ ds) comma after following same = absurd (differs cc)

-- a phrase was taken, and the closing token follows it
pub trailing_took : (D : Class) (close : TokenKind) (limit : ℕ) → (s : Separates D close) → (done : List D.Tree) (Fit : Kinds → Type 0) → Opens D Fit
    → TrailingSoFar D close limit done Fit → (last : D.Tree) (deep : Bool) → Took D limit last close deep
    → (next : TokenKind) → Took (Trailing D close) limit (done ++ last ∷ [], false) next false
trailing_took D close limit s done Fit opens so_far last deep t next =
    tail_took (Trailing D close) (FurtherTrailing D close) limit limit (before_commas D.spell done [] ++ D.spell last []) (λ d. rows_of D done (last, d))
    (Near close) (further_trailing_law D close s.law) (last_tail D close limit s done Fit opens so_far last close deep t (s.closed last [])) ([], false)
    next false (λ following near. inr (following, refl))
    (exact_took (FurtherTrailing D close) limit ([], false) (record {
      is_phrase = tt;
      low = omega arith;
      exact = λ other after following is same. end_is D close s.differs other.0 other.1 after following same;
    }) next)

-- a phrase was taken, and a comma follows it
pub trailing_comma : (D : Class) (close : TokenKind) (limit : ℕ) → (s : Separates D close) → (done : List D.Tree) (Fit : Kinds → Type 0) → Opens D Fit
    → TrailingSoFar D close limit done Fit → (last : D.Tree) (deep : Bool) → Took D limit last comma_token deep
    → CommaSoFar D close limit (done ++ last ∷ [])
trailing_comma D close limit s done Fit opens so_far last deep t =
    let rest = last_tail D close limit s done Fit opens so_far last comma_token deep t (s.comma last []) in
    let more = production_tail (FurtherTrailing D close) (AfterComma D close) 0 (comma_token ∷ []) (after_comma D) (λ rest. Unit {0}) limit limit
    (omega arith) (comma_production D close s.differs) (rest_least D close) (omega arith) in
    tail_as (Trailing D close) (AfterComma D close) limit limit ((before_commas D.spell done [] ++ D.spell last []) ++ comma_token ∷ [])
    (before_commas D.spell (done ++ last ∷ []) []) (λ part. rows_of D done (last, after_comma D part)) (commas_of D (done ++ last ∷ []))
    (λ rest. Unit {0}) (λ rest. Unit {0})
    (tail_then (Trailing D close) (FurtherTrailing D close) (AfterComma D close) limit limit limit (before_commas D.spell done [] ++ D.spell last [])
    (comma_token ∷ []) (λ d. rows_of D done (last, d)) (after_comma D) (Near comma_token) (λ rest. Unit {0}) (further_trailing_law D close s.law) rest
    more (λ following fit. inr (following, refl)))
    (append_assoc (before_commas D.spell done []) (D.spell last []) (comma_token ∷ [])
    ∙ before_append D s.law done [] (D.spell last [] ++ comma_token ∷ [])
    ∙ ap (λ (x : Kinds). before_commas D.spell done x) (s.law last [] (comma_token ∷ [])) ∙ sym (before_more D done last []))
    (λ part. more_rows D done last (after_comma D part).0 (after_comma D part).1) (λ following fit. tt)

closed_is : (D : Class) (close : TokenKind) → NoneCloses D close → (whole : Rest D) (after following : Kinds) → IsRest D whole
    → rest_text D close whole after ≡ close ∷ following → (whole ≡ None) × (after ≡ following)
closed_is D close none None after following is same = (refl, cc)
closed_is D close none (Some row) after following is same =
    absurd (none row.0 (each_after_comma D.spell row.1.0 (comma_text row.1.1 (close ∷ after))) following is.0 same)

-- the closing token follows a comma
pub comma_took : (D : Class) (close : TokenKind) (limit : ℕ) → (s : Separates D close) → NoneCloses D close
    → (done : List D.Tree) → CommaSoFar D close limit done → (next : TokenKind) → Took (Trailing D close) limit (done, true) next false
comma_took D close limit s none done so_far next =
    subst (λ (list : List D.Tree). Took (Trailing D close) limit (list, true) next false) (append-nil done)
    (tail_took (Trailing D close) (AfterComma D close) limit limit (before_commas D.spell done []) (commas_of D done) (λ rest. Unit {0})
    (rest_law D close s.law) so_far None next false (λ following near. tt)
    (exact_took (AfterComma D close) limit None (record {
      is_phrase = tt;
      low = omega arith;
      exact = λ other after following is same. closed_is D close none other after following is same;
    }) next))

-- after a comma another phrase is expected, unless the next token closes the list
pub comma_more : (D : Class) (close : TokenKind) (limit : ℕ) → (s : Separates D close) → D.tall s.least.tree ≤ limit
    → (done : List D.Tree) → CommaSoFar D close limit done → TrailingSoFar D close limit done (NotClosed close)
comma_more D close limit s fits done so_far =
    tail_as (Trailing D close) (Sequence D (FurtherTrailing D close)) limit limit (before_commas D.spell done [] ++ []) (before_commas D.spell done [])
    (λ part. commas_of D done (Some part)) (rows_of D done) (NotClosed close) (NotClosed close)
    (tail_then (Trailing D close) (AfterComma D close) (Sequence D (FurtherTrailing D close)) limit limit limit (before_commas D.spell done []) []
    (commas_of D done) Some (λ rest. Unit {0}) (NotClosed close) (rest_law D close s.law) so_far
    (production_tail (AfterComma D close) (Sequence D (FurtherTrailing D close)) 0 [] Some (NotClosed close) limit limit (omega arith) (rest_production D close)
    (pair_least D close s.least) (omega (arith, fits))) (λ following fit. tt))
    (append-nil (before_commas D.spell done [])) (λ part. refl) (λ following fit. fit)

-- no phrase begins with the token that closes the list
pub opens_not_closed : (D : Class) (close : TokenKind) → NoneCloses D close → Opens D (NotClosed close)
opens_not_closed D close none d following is more same = none d following more is same

front_not_closed : (D : Class) (close : TokenKind) (limit : ℕ) → NoneCloses D close
    → (front : Kinds) (next : TokenKind) (deep : Bool) → (front ≡ [] → next ≡ close → ⊥) → Refused D limit front next deep
    → (following : Kinds) → Near next following → NotClosed close (front ++ following)
front_not_closed D close limit none [] next deep other r following near more same =
    elim near [ inl e ↦ let z = sym same ∙ e in cc | inr m ↦ let z : close ∷ more ≡ next ∷ m.0 = sym same ∙ m.1 in other refl cc ]
front_not_closed D close limit none (f ∷ fs) next deep other r following near more same =
    elim r.begun [
      | inl e ↦ cc
      | inr b ↦
          let k : f ≡ close = cc in
          none b.phrase [] (fs ++ b.more) b.is_phrase (b.spelled ∙ ap (λ (x : TokenKind). x ∷ (fs ++ b.more)) k)
    ]

-- a phrase after a comma was refused
pub comma_refused : (D : Class) (close : TokenKind) (limit : ℕ) → (s : Separates D close) → NoneCloses D close
    → (done : List D.Tree) → TrailingSoFar D close limit done (NotClosed close)
    → (front : Kinds) (next : TokenKind) (deep : Bool) → (front ≡ [] → next ≡ close → ⊥) → Refused D limit front next deep
    → Refused (Trailing D close) limit (before_commas D.spell done [] ++ front) next deep
comma_refused D close limit s none done so_far front next deep other r =
    trailing_refused D close limit s done (NotClosed close) so_far front next deep (front_not_closed D close limit none front next deep other r) r

-- lists that were taken, whatever follows them
pub trailing_exact : (D : Class) (close : TokenKind) (limit : ℕ) → (s : Separates D close) → (done : List D.Tree) (Fit : Kinds → Type 0) → Opens D Fit
    → TrailingSoFar D close limit done Fit → (last : D.Tree) (deep : Bool) → Took D limit last close deep
    → Exactly (Trailing D close) limit (done ++ last ∷ [], false)
trailing_exact D close limit s done Fit opens so_far last deep t =
    took_exact (Trailing D close) limit (done ++ last ∷ [], false) (trailing_took D close limit s done Fit opens so_far last deep t) (λ other after. tt)
    close

pub comma_exact : (D : Class) (close : TokenKind) (limit : ℕ) → (s : Separates D close) → NoneCloses D close
    → (done : List D.Tree) → CommaSoFar D close limit done → Exactly (Trailing D close) limit (done, true)
comma_exact D close limit s none done so_far =
    took_exact (Trailing D close) limit (done, true) (comma_took D close limit s none done so_far) (λ other after. tt) close
