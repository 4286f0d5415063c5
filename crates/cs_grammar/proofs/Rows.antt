-- Lists of phrases, without and with commas between them: for the loops of every parser of declarations, statements and files.
use Rattle.std.proofs.Common.{◌≡◌, ℕ, ◌<◌, ◌≤◌, max, ◌⊎◌, inl, inr, Bool, true, false, List, [], ◌∷◌, ◌++◌, refl, sym, ap}
use Rattle.std.proofs.Common.{◌∙◌, subst, arith, append_assoc}
use Rattle.cs_ast.specs.declared.token.TokenKind.{TokenKind}
use Rattle.cs_ast.specs.declared.token.TokenKind.TheVariants as token
use Rattle.cs_ast.specs.declared.token.Punctuator.TheVariants as punctuator
use Rattle.cs_ast.specs.RawFileHeight.{highest_by}
use Rattle.cs_grammar.specs.Text.{Kinds}
use Rattle.cs_grammar.specs.FileText.{each_after_comma}
use Rattle.cs_grammar.specs.FilePhrases.{AreAll, IsSomeList}
use Rattle.cs_grammar.specs.Parsing.{Class, Near, Took, Refused, Exactly}
use Rattle.cs_grammar.specs.Composed.{Sequence, Separated, Further}
use Rattle.cs_grammar.proofs.Holes.{Lawful, splits, Tail, tail_refused, tail_took, exact_took}
use Rattle.cs_grammar.proofs.Tails.{tail_then, tail_as, Least, Production, production_tail}
use Rattle.cs_grammar.proofs.Sequences.{Joins, sequence_law, sequence_least, first_refused, second_tail, second_wrong, took_exact}

-- phrases of L are lists of phrases of C; the end of a list isn't mistaken for a phrase of C
pub record Listing (L C : Class) : Type 0 where
  pub none : L.Tree
  pub more : C.Tree → L.Tree → L.Tree
  pub form : (list : L.Tree) → L.Is list → (list ≡ none) ⊎ ((c : C.Tree) × (rest : L.Tree) × (list ≡ more c rest) × C.Is c × L.Is rest)
  pub is_none : L.Is none
  pub is_more : (c : C.Tree) (rest : L.Tree) → C.Is c → L.Is rest → L.Is (more c rest)
  pub spell_more : (c : C.Tree) (rest : L.Tree) (after : Kinds) → L.spell (more c rest) after ≡ C.spell c (L.spell rest after)
  pub tall_none : L.tall none ≡ 0
  pub tall_more : (c : C.Tree) (rest : L.Tree) → L.tall (more c rest) ≡ max (C.tall c) (L.tall rest)
  pub shut_more : (c : C.Tree) (rest : L.Tree) (after : Kinds) → L.Shut (more c rest) after → L.Shut rest after
  pub joins : Joins C L
  pub apart : (c : C.Tree) (x after : Kinds) → C.Is c → L.Shut none after → C.spell c x ≡ L.spell none after → ⊥
  pub law : Lawful C

-- a phrase of a list was taken: a list remains
pub row_tail : (L C : Class) (limit : ℕ) (all : Listing L C) (c : C.Tree) (next : TokenKind) (deep : Bool) → Took C limit c next deep
    → (deep ≡ true → C.Shut c (next ∷ [])) → Tail L L limit limit (C.spell c []) (all.more c) (Near next)
row_tail L C limit all c next deep t settled =
    let low' = t.low in
    record {
      started = inr (record {
        phrase = all.more c all.none;
        more = L.spell all.none [];
        is_phrase = all.is_more c all.none t.is_phrase all.is_none;
        low = let n = all.tall_none in let m = all.tall_more c all.none in omega (arith, n, m, low');
        spelled = all.spell_more c all.none [] ∙ splits C all.law c (L.spell all.none []);
      });
      invert = λ whole after following is shut near same.
          elim (all.form whole is) [
            | inl empty ↦
                absurd (all.apart c following after t.is_phrase (subst (λ (w : L.Tree). L.Shut w after) empty shut) (splits C all.law c following ∙ sym same
                ∙ ap (λ (w : L.Tree). L.spell w after) empty))
            | inr f ↦
                let s : C.spell f.0 (L.spell f.1 after) ≡ C.spell c following = sym (all.spell_more f.0 f.1 after)
                ∙ ap (λ (w : L.Tree). L.spell w after) (sym f.2) ∙ same ∙ sym (splits C all.law c following) in
                let shut' = all.shut_more f.0 f.1 after (subst (λ (w : L.Tree). L.Shut w after) f.2 shut) in
                elim (t.only f.0 (L.spell f.1 after) following f.3 (all.joins f.0 f.1 after f.3 f.4 shut') near s) [
                  | inl e ↦ (f.1, f.2 ∙ ap (λ (x : C.Tree). all.more x f.1) e.0, f.4, sym e.1)
                  | inr over ↦ absurd (t.joined over.reported [] (settled over.reported))
                ]
          ];
      shut = λ part after shut. all.shut_more c part after shut;
      spelled = λ part after. all.spell_more c part after ∙ splits C all.law c (L.spell part after);
      is_phrase = λ part is. all.is_more c part t.is_phrase is;
      low = λ part is low. let m = all.tall_more c part in omega (arith, m, low', low);
      rises = λ part high. let m = all.tall_more c part in omega (arith, m, high);
    }

-- a phrase of a list was refused, and the refused tokens don't end the list
pub row_refused : (L C : Class) (limit : ℕ) (all : Listing L C) (front : Kinds) (next : TokenKind) (deep : Bool)
    → ((after following : Kinds) → L.Shut all.none after → Near next following → L.spell all.none after ≡ front ++ following → ⊥)
    → Refused C limit front next deep → Refused L limit front next deep
row_refused L C limit all front next deep unended r = record {
  begun = elim r.begun [
    | inl none ↦ inl none
    | inr b ↦ inr (record {
      phrase = all.more b.phrase all.none;
      more = b.more ++ L.spell all.none [];
      is_phrase = all.is_more b.phrase all.none b.is_phrase all.is_none;
      low = let n = all.tall_none in let m = all.tall_more b.phrase all.none in let l = b.low in omega (arith, n, m, l);
      spelled = all.spell_more b.phrase all.none [] ∙ splits C all.law b.phrase (L.spell all.none [])
          ∙ ap (λ (x : Kinds). x ++ L.spell all.none []) b.spelled ∙ append_assoc front b.more (L.spell all.none []);
    })
  ];
  never = λ other after following is shut near same.
      elim (all.form other is) [
        | inl empty ↦
            absurd (unended after following (subst (λ (w : L.Tree). L.Shut w after) empty shut) near (ap (λ (w : L.Tree). L.spell w after) (sym empty)
            ∙ same))
        | inr f ↦
            let s : C.spell f.0 (L.spell f.1 after) ≡ front ++ following = sym (all.spell_more f.0 f.1 after)
            ∙ ap (λ (w : L.Tree). L.spell w after) (sym f.2) ∙ same in
            let shut' = all.shut_more f.0 f.1 after (subst (λ (w : L.Tree). L.Shut w after) f.2 shut) in
            let v = r.never f.0 (L.spell f.1 after) following f.3 (all.joins f.0 f.1 after f.3 f.4 shut') near s in
            let m = all.tall_more f.0 f.1 in
            record {
              reported = v.reported;
              high = subst (λ (w : L.Tree). limit < L.tall w) (sym f.2) (let h = v.high in omega (arith, m, h));
              onward = v.onward;
            }
      ];
  further = λ reported.
      let b = r.further reported in
      record {
        phrase = all.more b.phrase all.none;
        more = b.more ++ L.spell all.none [];
        is_phrase = all.is_more b.phrase all.none b.is_phrase all.is_none;
        spelled = all.spell_more b.phrase all.none [] ∙ splits C all.law b.phrase (L.spell all.none [])
            ∙ ap (λ (x : Kinds). x ++ L.spell all.none []) b.spelled ∙ append_assoc (front ++ next ∷ []) b.more (L.spell all.none []);
      };
}

abbrev pub comma_token : TokenKind
comma_token = token.Punctuator punctuator.Comma

-- phrases of D may be separated by commas, before this token
pub record Separates (D : Class) (close : TokenKind) : Type 0 where
  pub law : Lawful D
  pub least : Least D
  pub comma : (d : D.Tree) (more : Kinds) → D.Shut d (comma_token ∷ more)
  pub closed : (d : D.Tree) (more : Kinds) → D.Shut d (close ∷ more)
  pub differs : close ≡ comma_token → ⊥

further_append : (D : Class) (close : TokenKind) → Lawful D → (list : List D.Tree) (x y : Kinds)
    → each_after_comma D.spell list (close ∷ x) ++ y ≡ each_after_comma D.spell list (close ∷ (x ++ y))
further_append D close law [] x y = refl
further_append D close law (d ∷ ds) x y =
    ap (λ (r : Kinds). comma_token ∷ r) (law d (each_after_comma D.spell ds (close ∷ x)) y
    ∙ ap (λ (r : Kinds). D.spell d r) (further_append D close law ds x y))

pub further_law : (D : Class) (close : TokenKind) → Lawful D → Lawful (Further D close)
further_law D close law = further_append D close law

pub separated_law : (D : Class) (close : TokenKind) → Lawful D → Lawful (Separated D close)
separated_law D close law [] x y = refl
separated_law D close law (d ∷ ds) x y = law d (each_after_comma D.spell ds (close ∷ x)) y
    ∙ ap (λ (r : Kinds). D.spell d r) (further_append D close law ds x y)

abbrev pub further_least : (D : Class) (close : TokenKind) → Least (Further D close)
further_least D close = record { tree = []; is_phrase = tt; below = λ other is. omega arith }

pub separated_below : (D : Class) (least : Least D) (list : List D.Tree) → IsSomeList list → AreAll D.Is list
    → D.tall least.tree ≤ highest_by D.tall list
separated_below D least [] some all = absurd some
separated_below D least (d ∷ ds) some all = let b = least.below d all.0 in omega (arith, b)

abbrev pub separated_least : (D : Class) (close : TokenKind) → Least D → Least (Separated D close)
separated_least D close least = record {
  tree = least.tree ∷ [];
  is_phrase = (tt, (least.is_phrase, tt));
  below = λ other is. let b = separated_below D least other is.0 is.1 in omega (arith, b);
}

pub further_joins : (D : Class) (close : TokenKind) → Separates D close → Joins D (Further D close)
further_joins D close s d [] after is all shut = s.closed d after
further_joins D close s d (e ∷ es) after is all shut = s.comma d (D.spell e (each_after_comma D.spell es (close ∷ after)))

separated_invert : (D : Class) (close : TokenKind) (whole : List D.Tree) (after following : Kinds) → (Separated D close).Is whole
    → (Separated D close).spell whole after ≡ following
    → (part : D.Tree × List D.Tree) × (whole ≡ part.0 ∷ part.1) × (D.Is part.0 × AreAll D.Is part.1)
    × (following ≡ D.spell part.0 (each_after_comma D.spell part.1 (close ∷ after)))
separated_invert D close [] after following is same = absurd is.0
separated_invert D close (d ∷ ds) after following is same = ((d, ds), refl, is.1, sym same)

separated_production : (D : Class) (close : TokenKind)
    → Production (Separated D close) (Sequence D (Further D close)) 0 [] (λ part. part.0 ∷ part.1) (λ rest. Unit {0})
separated_production D close = record {
  invert = λ whole after following is fit same. separated_invert D close whole after following is same;
  shut = λ part after shut. tt;
  spelled = λ part after. refl;
  is_phrase = λ part is. (tt, is);
  taller = λ part. omega arith;
}

further_invert : (D : Class) (close : TokenKind) → (close ≡ comma_token → ⊥) → (whole : List D.Tree) (after following : Kinds) → AreAll D.Is whole
    → each_after_comma D.spell whole (close ∷ after) ≡ comma_token ∷ following
    → (part : D.Tree × List D.Tree) × (whole ≡ part.0 ∷ part.1) × (D.Is part.0 × AreAll D.Is part.1)
    × (following ≡ D.spell part.0 (each_after_comma D.spell part.1 (close ∷ after)))
further_invert D close differs [] after following is same = absurd (differs cc)
further_invert D close differs (d ∷ ds) after following is same = ((d, ds), refl, is, cc)

further_production : (D : Class) (close : TokenKind) → (close ≡ comma_token → ⊥)
    → Production (Further D close) (Sequence D (Further D close)) 0 (comma_token ∷ []) (λ part. part.0 ∷ part.1) (λ rest. Unit {0})
further_production D close differs = record {
  invert = λ whole after following is fit same. further_invert D close differs whole after following is same;
  shut = λ part after shut. tt;
  spelled = λ part after. refl;
  is_phrase = λ part is. is;
  taller = λ part. omega arith;
}

further_end : (D : Class) (close : TokenKind) → (close ≡ comma_token → ⊥)
    → (other : List D.Tree) (after following : Kinds) → each_after_comma D.spell other (close ∷ after) ≡ close ∷ following
    → (other ≡ []) × (after ≡ following)
further_end D close differs [] after following same = (refl, cc)
further_end D close differs (d ∷ ds) after following same = absurd (differs cc)

further_exact : (D : Class) (close : TokenKind) (limit : ℕ) → (close ≡ comma_token → ⊥) → Exactly (Further D close) limit []
further_exact D close limit differs = record {
  is_phrase = tt;
  low = omega arith;
  exact = λ other after following is same. further_end D close differs other after following same;
}

further_some : (D : Class) (close : TokenKind) (other : List D.Tree) (after : Kinds) → each_after_comma D.spell other (close ∷ after) ≡ [] → ⊥
further_some D close [] after same = cc
further_some D close (d ∷ ds) after same = cc

further_first : (D : Class) (close next : TokenKind) → (next ≡ comma_token → ⊥) → (next ≡ close → ⊥)
    → (other : List D.Tree) (after more : Kinds) → each_after_comma D.spell other (close ∷ after) ≡ next ∷ more → ⊥
further_first D close next comma closed [] after more same = closed cc
further_first D close next comma closed (d ∷ ds) after more same = comma cc

-- the tokens of phrases with a comma after each
abbrev pub before_commas : {A : Type 0} → (A → Kinds → Kinds) → List A → Kinds → Kinds
before_commas of [] rest = rest
before_commas of (a ∷ all) rest = of a (comma_token ∷ before_commas of all rest)

pub before_more : (D : Class) (done : List D.Tree) (last : D.Tree) (rest : Kinds)
    → before_commas D.spell (done ++ last ∷ []) rest ≡ before_commas D.spell done (D.spell last (comma_token ∷ rest))
before_more D [] last rest = refl
before_more D (d ∷ ds) last rest = ap (λ (r : Kinds). D.spell d (comma_token ∷ r)) (before_more D ds last rest)

pub before_append : (D : Class) → Lawful D → (done : List D.Tree) (x y : Kinds)
    → before_commas D.spell done x ++ y ≡ before_commas D.spell done (x ++ y)
before_append D law [] x y = refl
before_append D law (d ∷ ds) x y = law d (comma_token ∷ before_commas D.spell ds x) y
    ∙ ap (λ (r : Kinds). D.spell d (comma_token ∷ r)) (before_append D law ds x y)

-- phrases of a list with a comma after each were taken: another phrase remains, and what follows it
abbrev pub SoFar : (D : Class) → TokenKind → ℕ → List D.Tree → Type 0
SoFar D close limit done = Tail (Separated D close) (Sequence D (Further D close)) limit limit (before_commas D.spell done [])
    (λ part. done ++ part.0 ∷ part.1) (λ rest. Unit {0})

sequence_further_law : (D : Class) (close : TokenKind) → Lawful D → Lawful (Sequence D (Further D close))
sequence_further_law D close law = sequence_law D (Further D close) law (further_law D close law)

abbrev further_pair_least : (D : Class) (close : TokenKind) → Least D → Least (Sequence D (Further D close))
further_pair_least D close least = sequence_least D (Further D close) least (further_least D close)

-- at the beginning of a list
pub so_far_none : (D : Class) (close : TokenKind) (limit : ℕ) → (s : Separates D close) → D.tall s.least.tree ≤ limit → SoFar D close limit []
so_far_none D close limit s fits =
    production_tail (Separated D close) (Sequence D (Further D close)) 0 [] (λ part. part.0 ∷ part.1) (λ rest. Unit {0}) limit limit (omega arith)
    (separated_production D close) (further_pair_least D close s.least) (omega (arith, fits))

last_tail : (D : Class) (close : TokenKind) (limit : ℕ) → (s : Separates D close) → (last : D.Tree) (next : TokenKind) (deep : Bool)
    → Took D limit last next deep → D.Shut last (next ∷ [])
    → Tail (Sequence D (Further D close)) (Further D close) limit limit (D.spell last []) (λ d. (last, d)) (Near next)
last_tail D close limit s last next deep t shut =
    second_tail D (Further D close) limit s.law (further_joins D close s) (further_least D close) (omega arith) last next deep t (λ reported. shut)

-- a phrase was taken, and a comma follows it
pub so_far_more : (D : Class) (close : TokenKind) (limit : ℕ) → (s : Separates D close) → D.tall s.least.tree ≤ limit
    → (done : List D.Tree) (last : D.Tree) (deep : Bool) → SoFar D close limit done → Took D limit last comma_token deep
    → SoFar D close limit (done ++ last ∷ [])
so_far_more D close limit s fits done last deep so_far t =
    let rest = last_tail D close limit s last comma_token deep t (s.comma last []) in
    let more = production_tail (Further D close) (Sequence D (Further D close)) 0 (comma_token ∷ []) (λ part. part.0 ∷ part.1) (λ rest. Unit {0}) limit
    limit (omega arith) (further_production D close s.differs) (further_pair_least D close s.least) (omega (arith, fits)) in
    let two = tail_then (Sequence D (Further D close)) (Further D close) (Sequence D (Further D close)) limit limit limit (D.spell last []) (comma_token ∷ [])
    (λ d. (last, d)) (λ part. part.0 ∷ part.1) (Near comma_token) (λ rest. Unit {0}) (further_law D close s.law) rest more
    (λ following fit. inr (following, refl)) in
    let three = tail_then (Separated D close) (Sequence D (Further D close)) (Sequence D (Further D close)) limit limit limit (before_commas D.spell done [])
    (D.spell last [] ++ comma_token ∷ []) (λ part. done ++ part.0 ∷ part.1) (λ part. (last, part.0 ∷ part.1)) (λ rest. Unit {0})
    (λ rest. Unit {0}) (sequence_further_law D close s.law) so_far two (λ following fit. tt) in
    tail_as (Separated D close) (Sequence D (Further D close)) limit limit (before_commas D.spell done [] ++ (D.spell last [] ++ comma_token ∷ []))
    (before_commas D.spell (done ++ last ∷ []) []) (λ part. done ++ last ∷ (part.0 ∷ part.1)) (λ part. (done ++ last ∷ []) ++ part.0 ∷ part.1)
    (λ rest. Unit {0}) (λ rest. Unit {0}) three
    (before_append D s.law done [] (D.spell last [] ++ comma_token ∷ [])
    ∙ ap (λ (x : Kinds). before_commas D.spell done x) (s.law last [] (comma_token ∷ [])) ∙ sym (before_more D done last []))
    (λ part. sym (append_assoc done (last ∷ []) (part.0 ∷ part.1))) (λ following fit. tt)

-- a phrase of the list was refused
pub so_far_refused : (D : Class) (close : TokenKind) (limit : ℕ) → (s : Separates D close) → (done : List D.Tree) → SoFar D close limit done
    → (front : Kinds) (next : TokenKind) (deep : Bool) → Refused D limit front next deep
    → Refused (Separated D close) limit (before_commas D.spell done [] ++ front) next deep
so_far_refused D close limit s done so_far front next deep r =
    tail_refused (Separated D close) (Sequence D (Further D close)) limit limit (before_commas D.spell done []) (λ part. done ++ part.0 ∷ part.1)
    (λ rest. Unit {0}) (sequence_further_law D close s.law) so_far front next deep (λ following near. tt)
    (first_refused D (Further D close) limit s.law (further_joins D close s) (further_least D close) (omega arith) front next deep r)

-- a phrase was taken, and neither a comma nor the closing token follows it
pub so_far_wrong : (D : Class) (close : TokenKind) (limit : ℕ) → (s : Separates D close) → (done : List D.Tree) → SoFar D close limit done
    → (last : D.Tree) (next : TokenKind) (deep : Bool) → Took D limit last next deep → (next ≡ comma_token → ⊥) → (next ≡ close → ⊥)
    → Refused (Separated D close) limit (before_commas D.spell done [] ++ D.spell last []) next deep
so_far_wrong D close limit s done so_far last next deep t comma closed =
    tail_refused (Separated D close) (Sequence D (Further D close)) limit limit (before_commas D.spell done []) (λ part. done ++ part.0 ∷ part.1)
    (λ rest. Unit {0}) (sequence_further_law D close s.law) so_far (D.spell last []) next deep (λ following near. tt)
    (second_wrong D (Further D close) limit s.law (further_joins D close s) (further_least D close) (omega arith) last next deep t
    (λ d after is same. further_some D close d after same) (λ d after more is same. further_first D close next comma closed d after more same))

-- a phrase was taken, and the closing token follows it
pub so_far_took : (D : Class) (close : TokenKind) (limit : ℕ) → (s : Separates D close) → (done : List D.Tree) → SoFar D close limit done
    → (last : D.Tree) (deep : Bool) → Took D limit last close deep
    → (next : TokenKind) → Took (Separated D close) limit (done ++ last ∷ []) next false
so_far_took D close limit s done so_far last deep t next =
    let rest = last_tail D close limit s last close deep t (s.closed last []) in
    let two = tail_then (Separated D close) (Sequence D (Further D close)) (Further D close) limit limit limit (before_commas D.spell done []) (D.spell last [])
    (λ part. done ++ part.0 ∷ part.1) (λ d. (last, d)) (λ rest. Unit {0}) (Near close) (sequence_further_law D close s.law) so_far rest
    (λ following fit. tt) in
    tail_took (Separated D close) (Further D close) limit limit (before_commas D.spell done [] ++ D.spell last []) (λ d. done ++ last ∷ d) (Near close)
    (further_law D close s.law) two [] next false (λ following near. inr (following, refl))
    (exact_took (Further D close) limit [] (further_exact D close limit s.differs) next)

-- the same, whatever follows
pub so_far_exact : (D : Class) (close : TokenKind) (limit : ℕ) → (s : Separates D close) → (done : List D.Tree) → SoFar D close limit done
    → (last : D.Tree) (deep : Bool) → Took D limit last close deep → Exactly (Separated D close) limit (done ++ last ∷ [])
so_far_exact D close limit s done so_far last deep t =
    took_exact (Separated D close) limit (done ++ last ∷ []) (so_far_took D close limit s done so_far last deep t) (λ other after. tt) close
