-- The index of a name's last declaration: for the look-up among declarations and tags, for adding one, and for the end of a scope.
use Rattle.std.proofs.Common.{◌≡◌, ◌⊎◌, inl, inr, ℕ, suc, zero, Bool, true, false, cond, List, [], ◌∷◌, ◌++◌}
use Rattle.std.proofs.Common.{length, slice_get, get_or, ◌≤◌, Option, Some, None, refl, sym, ap, ◌∙◌, subst, arith, drop, take, is_some}
use Rattle.std.proofs.Common.{append_assoc}
use Rattle.std.specs.Prelude.{nat_eq, MatchOption}
use Rattle.std.specs.Map.{lookup}
use Rattle.std.proofs.Math.Dec.{leb-zero, leb-suc-zero, leb-suc-suc}
use Rattle.std.proofs.lemmas.List.{length-map, map-append}
use Rattle.std.proofs.lemmas.Option.{slice_get_within, slice_get-get_or, slice_get-map}
use Rattle.std.specs.Option.{option_map, option_or}
use Rattle.std.specs.Cmp.Lexicographic.{pointwise, bytes_decides}
use Rattle.indexmap.specs.IndexMap.{IndexMap, insert_entry}
use Rattle.indexmap.proofs.CallerLemmas.{insert_entry-new}
use Rattle.cs_scopes.specs.declared.entries.Entry.{Entry}
use Rattle.cs_scopes.specs.Meanings.{Meaning, Declaration, meaning_of, declaration_of}
use Rattle.cs_scopes.specs.declared.scope.TagMeaning.{TagMeaning}
use Rattle.cs_scopes.specs.Scopes.{newest, tagged}
use Rattle.cs_scopes.specs.Entries.{declarations_in, newest_place, place_at, Indexed, HasEntered, is_after, tag_of, tags_in}

-- the declaration at this index has this meaning
pub record Found (ds : List Declaration) (m : Option Meaning) (i : ℕ) : Type 0 where
  pub declaration : Declaration
  pub at : slice_get ds i ≡ Some declaration
  pub says : m ≡ Some declaration.meaning

one_more : (d : Declaration) (ds : List Declaration) (p : Option ℕ) (m : Option Meaning) (here : Bool) → MatchOption p (m ≡ None) (Found ds m)
    → MatchOption (option_or (option_map suc p) (cond here (Some 0) None)) (option_or m (cond here (Some d.meaning) None) ≡ None)
    (Found (d ∷ ds) (option_or m (cond here (Some d.meaning) None)))
one_more d ds None m true h = record { declaration = d; at = refl; says = ap (λ x. option_or x (Some d.meaning)) h }
one_more d ds None m false h = ap (λ x. option_or x None) h
one_more d ds (Some i) m here h = record { declaration = h.declaration; at = h.at; says = ap (λ x. option_or x (cond here (Some d.meaning) None)) h.says }

-- a name has the meaning of the declaration at its index
pub newest_found : (name : List ℕ) (ds : List Declaration) → MatchOption (newest_place name ds) (newest name ds ≡ None) (Found ds (newest name ds))
newest_found name [] = refl
newest_found name (d ∷ ds) = one_more d ds (newest_place name ds) (newest name ds) (pointwise nat_eq d.name name) (newest_found name ds)

pushed : (e : Bool) (n : ℕ) (here : Bool) (old : Option ℕ)
    → option_or (option_map suc (cond here (Some n) old)) (cond e (Some 0) None)
    ≡ cond here (Some (suc n)) (option_or (option_map suc old) (cond e (Some 0) None))
pushed e n true old = refl
pushed e n false old = refl

-- a declaration that is added is the last one of its name
newest_place-push : (name : List ℕ) (ds : List Declaration) (d : Declaration)
    → newest_place name (ds ++ d ∷ []) ≡ cond (pointwise nat_eq d.name name) (Some (length ds)) (newest_place name ds)
newest_place-push name [] d = refl
newest_place-push name (e ∷ ds) d =
    ap (λ p. option_or (option_map suc p) (cond (pointwise nat_eq e.name name) (Some 0) None)) (newest_place-push name ds d)
    ∙ pushed (pointwise nat_eq e.name name) (length ds) (pointwise nat_eq d.name name) (newest_place name ds)

-- the same for entries
entry_place-push : (name : List ℕ) (es : List Entry) (e : Entry)
    → newest_place name (declarations_in (es ++ e ∷ []))
    ≡ cond (pointwise nat_eq e.declaration.name name) (Some (length es)) (newest_place name (declarations_in es))
entry_place-push name es e =
    ap (newest_place name) (map-append (λ (x : Entry). declaration_of x.declaration) es (e ∷ []))
    ∙ newest_place-push name (declarations_in es) (declaration_of e.declaration)
    ∙ ap (λ n. cond (pointwise nat_eq e.declaration.name name) (Some n) (newest_place name (declarations_in es)))
    (length-map es (λ (x : Entry). declaration_of x.declaration))

-- a list with one more element at its end, cut before one of its elements: that is the new one, or comes before it
record Cut {A : Type 0} (es first : List A) (x : A) : Type 0 where
  rest : List A
  is : es ≡ first ++ x ∷ rest

cut_push : {A : Type 0} (es first following : List A) (e x : A) → es ++ e ∷ [] ≡ first ++ x ∷ following
    → ((first ≡ es) × (x ≡ e)) ⊎ Cut es first x
cut_push [] [] following e x h = inl (refl, cc)
cut_push [] (y ∷ []) following e x h = absurd cc
cut_push [] (y ∷ z ∷ first) following e x h = absurd cc
cut_push (y ∷ es) [] following e x h = inr (record { rest = es; is = cc })
cut_push (y ∷ es) (z ∷ first) following e x h = further (cut_push es first following e x cc)
  where
    further : ((first ≡ es) × (x ≡ e)) ⊎ Cut es first x → ((z ∷ first ≡ y ∷ es) × (x ≡ e)) ⊎ Cut (y ∷ es) (z ∷ first) x
    further (inl p) = let same : first ≡ es = p.0 in inl (cc, p.1)
    further (inr c) = let is : es ≡ first ++ x ∷ c.rest = c.is in inr (record { rest = c.rest; is = cc })

-- the table has the indices of one more declaration
pub still_indexed : {S : Type 0} (old new : IndexMap (List ℕ) (Option ℕ) S) (es more : List Entry) (e : Entry) (name : List ℕ) (place : ℕ)
    → Indexed old es → name ≡ e.declaration.name → place ≡ length es → e.before ≡ place_at old name → more ≡ es ++ e ∷ []
    → HasEntered old new name (Some place) → Indexed new more
still_indexed old new es more e name place indexed same is before added entered = record {
  each = λ other. subst (λ (l : List Entry). place_at new other ≡ newest_place other (declarations_in l)) (sym added)
      (entered other
      ∙ ap (λ n. cond (pointwise nat_eq n other) (Some place) (place_at old other)) same
      ∙ ap (λ i. cond (pointwise nat_eq e.declaration.name other) (Some i) (place_at old other)) is
      ∙ ap (λ p. cond (pointwise nat_eq e.declaration.name other) (Some (length es)) p) (indexed.each other)
      ∙ sym (entry_place-push other es e));
  before = λ first following x split. last first following x (cut_push es first following e x (sym added ∙ split));
}
  where
    last : (first following : List Entry) (x : Entry) → ((first ≡ es) × (x ≡ e)) ⊎ Cut es first x
        → x.before ≡ newest_place x.declaration.name (declarations_in first)
    last first following x (inl p) =
        ap (λ (y : Entry). y.before) p.1 ∙ before ∙ indexed.each name ∙ ap (λ n. newest_place n (declarations_in es)) same
        ∙ ap (λ (y : Entry). newest_place y.declaration.name (declarations_in es)) (sym p.1)
        ∙ ap (λ l. newest_place x.declaration.name (declarations_in l)) (sym p.0)
    last first following x (inr c) = indexed.before first c.rest x c.is

-- the same indices
pub indexed_as : {S : Type 0} (old new : IndexMap (List ℕ) (Option ℕ) S) (es same : List Entry) → Indexed old es → same ≡ es
    → ((other : List ℕ) → place_at new other ≡ place_at old other) → Indexed new same
indexed_as old new es same indexed is kept =
    subst (Indexed new) (sym is) (record { each = λ other. kept other ∙ indexed.each other; before = indexed.before })

-- the table without the index of the last declaration
pub last_place : {S : Type 0} (places : IndexMap (List ℕ) (Option ℕ) S) (es rest : List Entry) (e : Entry) → Indexed places es → es ≡ rest ++ e ∷ []
    → is_some (place_at places e.declaration.name) ≡ true
last_place places es rest e indexed split =
    ap is_some (indexed.each e.declaration.name ∙ ap (λ l. newest_place e.declaration.name (declarations_in l)) split
    ∙ entry_place-push e.declaration.name rest e)
    ∙ ap (λ t. is_some (cond t (Some (length rest)) (newest_place e.declaration.name (declarations_in rest))))
    ((bytes_decides e.declaration.name e.declaration.name).1 refl)

pub indexed_less : {S : Type 0} (old new : IndexMap (List ℕ) (Option ℕ) S) (es rest : List Entry) (e : Entry) → Indexed old es → es ≡ rest ++ e ∷ []
    → HasEntered old new e.declaration.name e.before → Indexed new rest
indexed_less old new es rest e indexed split entered = record {
  each = λ other. entered other ∙ left other (pointwise nat_eq e.declaration.name other) refl;
  before = λ first following x cut. indexed.before first (following ++ e ∷ []) x
      (split ∙ ap (λ l. l ++ e ∷ []) cut ∙ append_assoc first (x ∷ following) (e ∷ []));
}
  where
    left : (other : List ℕ) (here : Bool) → pointwise nat_eq e.declaration.name other ≡ here
        → cond here e.before (place_at old other) ≡ newest_place other (declarations_in rest)
    left other true h = indexed.before rest [] e split ∙ ap (λ n. newest_place n (declarations_in rest)) ((bytes_decides e.declaration.name other).0 h)
    left other false h =
        indexed.each other ∙ ap (λ l. newest_place other (declarations_in l)) split ∙ entry_place-push other rest e
        ∙ ap (λ t. cond t (Some (length rest)) (newest_place other (declarations_in rest))) h

-- the table's index for a name leads to its meaning
pub newest_none : {S : Type 0} (places : IndexMap (List ℕ) (Option ℕ) S) (es : List Entry) (name : List ℕ) → Indexed places es
    → place_at places name ≡ None → newest name (declarations_in es) ≡ None
newest_none places es name h e =
    subst (λ p. MatchOption p (newest name (declarations_in es) ≡ None) (Found (declarations_in es) (newest name (declarations_in es)))) (sym (h.each name)
    ∙ e) (newest_found name (declarations_in es))

pub newest_some : {S : Type 0} (places : IndexMap (List ℕ) (Option ℕ) S) (es : List Entry) (name : List ℕ) (i : ℕ) → Indexed places es
    → place_at places name ≡ Some i → Found (declarations_in es) (newest name (declarations_in es)) i
newest_some places es name i h e =
    subst (λ p. MatchOption p (newest name (declarations_in es) ≡ None) (Found (declarations_in es) (newest name (declarations_in es)))) (sym (h.each name)
    ∙ e) (newest_found name (declarations_in es))

pub found_past : (es : List Entry) (m : Option Meaning) (i : ℕ) → Found (declarations_in es) m i → length es ≤ i → ⊥
found_past es m i h past = omega (
  arith,
  slice_get_within (declarations_in es) i h.declaration h.at,
  length-map es (λ (x : Entry). declaration_of x.declaration),
)

pub found_is : (es : List Entry) (m : Option Meaning) (i : ℕ) (e : Entry) → Found (declarations_in es) m i → e ≡ get_or es i e
    → Some (meaning_of e.declaration.meaning) ≡ m
found_is es m i e h read =
    let within : suc i ≤ length es =
    omega (arith, slice_get_within (declarations_in es) i h.declaration h.at, length-map es (λ (x : Entry). declaration_of x.declaration)) in
    let there : Some h.declaration ≡ Some (declaration_of (get_or es i e).declaration) = sym h.at
    ∙ slice_get-map (λ (x : Entry). declaration_of x.declaration) es i
    ∙ ap (option_map (λ (x : Entry). declaration_of x.declaration)) (slice_get-get_or es i e within) in
    ap (λ (x : Entry). Some (meaning_of x.declaration.meaning)) read ∙ sym (ap (option_map (λ (d : Declaration). d.meaning)) there) ∙ sym h.says

-- a name is declared after the first declarations exactly if its index isn't one of theirs
one_after : (outer : ℕ) (p : Option ℕ) (here : Bool) → is_after (suc outer) (option_or (option_map suc p) (cond here (Some 0) None)) ≡ is_after outer p
one_after outer (Some place) here = leb-suc-suc outer place
one_after outer None true = leb-suc-zero outer
one_after outer None false = refl

all_after : (p : Option ℕ) → is_after 0 p ≡ is_some p
all_after (Some place) = leb-zero place
all_after None = refl

same_some : (p : Option ℕ) (m : Option Meaning) (here : Bool) (said : Meaning) → is_some p ≡ is_some m
    → is_some (option_or (option_map suc p) (cond here (Some 0) None)) ≡ is_some (option_or m (cond here (Some said) None))
same_some (Some i) (Some m) here said h = refl
same_some None None true said h = refl
same_some None None false said h = refl
same_some (Some i) None here said h = absurd cc
same_some None (Some m) here said h = absurd cc

some_where_placed : (name : List ℕ) (ds : List Declaration) → is_some (newest_place name ds) ≡ is_some (newest name ds)
some_where_placed name [] = refl
some_where_placed name (d ∷ ds) = same_some (newest_place name ds) (newest name ds) (pointwise nat_eq d.name name) d.meaning (some_where_placed name ds)

declared_after : (name : List ℕ) (ds : List Declaration) (outer : ℕ) → is_after outer (newest_place name ds) ≡ is_some (newest name (drop outer ds))
declared_after name ds zero = all_after (newest_place name ds) ∙ some_where_placed name ds
declared_after name [] (suc outer) = refl
declared_after name (d ∷ ds) (suc outer) = one_after outer (newest_place name ds) (pointwise nat_eq d.name name) ∙ declared_after name ds outer

pub after_says : {S : Type 0} (places : IndexMap (List ℕ) (Option ℕ) S) (es : List Entry) (name : List ℕ) (outer : ℕ) (p : Option ℕ)
    → Indexed places es → p ≡ place_at places name → is_after outer p ≡ is_some (newest name (drop outer (declarations_in es)))
after_says places es name outer p indexed is = ap (is_after outer) (is ∙ indexed.each name) ∙ declared_after name (declarations_in es) outer

-- the first n of the first m elements
pub take_less : {A : Type 0} (n m : ℕ) (xs : List A) → n ≤ m → take n (take m xs) ≡ take n xs
take_less zero m xs h = refl
take_less (suc n) zero xs h = absurd (omega (arith, h))
take_less (suc n) (suc m) [] h = refl
take_less (suc n) (suc m) (x ∷ xs) h = ap (λ l. x ∷ l) (take_less n m xs (omega (arith, h)))

-- a table of tags
pub tag_found : (name : List ℕ) (es : List (List ℕ × TagMeaning)) → tagged name (tags_in es) ≡ lookup (pointwise nat_eq name) es
tag_found name [] = refl
tag_found name (e ∷ es) = ap (cond (pointwise nat_eq name e.0) (Some e.1)) (tag_found name es)

pub tags_added : {S : Type 0} (m : IndexMap (List ℕ) TagMeaning S) (name : List ℕ) (meaning : TagMeaning) → tagged name (tags_in m.entries) ≡ None
    → tags_in (insert_entry (pointwise nat_eq) m.entries name meaning) ≡ tags_in m.entries ++ tag_of (name, meaning) ∷ []
tags_added m name meaning none =
    ap tags_in (insert_entry-new (pointwise nat_eq) m name meaning (sym (tag_found name m.entries) ∙ none))
    ∙ map-append tag_of m.entries ((name, meaning) ∷ [])

pub ruleset tag_tables = (tag_found, tags_added)
