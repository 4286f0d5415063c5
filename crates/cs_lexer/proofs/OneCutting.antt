-- A text has only one cutting: for statements about its tokens.
use Rattle.std.proofs.Common.{◌≡◌, ◌++◌, ℕ, ◌<◌, List, [], ◌∷◌, length, take, drop, codes, Option, Some, None, refl, sym, ap, ◌∙◌}
use Rattle.std.proofs.Common.{subst, arith}
use Rattle.cs_ast.specs.declared.place.Place.{Place}
use Rattle.cs_ast.specs.declared.token.Token as tokens
use Rattle.cs_lexer.specs.declared.spot.Spot.{Spot}
use Rattle.cs_lexer.specs.declared.cut.End.{End}
use Rattle.cs_lexer.specs.declared.cut.End.TheVariants as ends
use Rattle.cs_lexer.specs.declared.lexeme.Fault.{Fault}
use Rattle.cs_lexer.specs.declared.lexeme.Lexeme.{Lexeme}
use Rattle.cs_lexer.specs.declared.lexeme.Lexeme.TheVariants.{Gap, Marker, Token, Refused}
use Rattle.cs_lexer.specs.Pieces.{Begins}
use Rattle.cs_lexer.specs.Spots.{start, spot_after}
use Rattle.cs_lexer.specs.Cuttings.{Reaches, begins, gap, marker, token, token_at, begun, file_after, files_after, marked_spot, IsWhole, IsRefusedAt, EndsAs}
use Rattle.cs_lexer.proofs.OnePiece.{begins_once}
use Rattle.cs_lexer.proofs.Onward.{Onward, stays, IsDetermined, IsStuck, one_further, one_end}

-- how far a text is cut
pub record Cut : Type 0 where
  pub files : List (List ℕ)
  pub list : List tokens.Token
  pub spot : Spot
  pub rest : List ℕ

-- how far it is cut after the piece that was found; a fault ends the cutting
abbrev following : Cut → Lexeme → Option Cut
following c (Gap size) = Some (record { files = c.files; list = c.list; spot = spot_after c.spot (take size c.rest); rest = drop size c.rest })
following c (Marker size next name) = Some (record {
  files = files_after c.files name;
  list = c.list;
  spot = marked_spot c.spot (file_after c.files c.spot name) next (take size c.rest);
  rest = drop size c.rest;
})
following c (Token size kind) =
    Some (record { files = c.files; list = c.list ++ token_at kind c.spot.place ∷ []; spot = spot_after c.spot (take size c.rest); rest = drop size c.rest })
following c (Refused fault size) = None

-- one more piece is cut
record CutsPiece (c d : Cut) : Type 0 where
  found : Lexeme
  some : 0 < length c.rest
  is : Begins c.spot.is_line_start c.rest found
  leads : following c found ≡ Some d

piece_once : IsDetermined CutsPiece
piece_once c d e h i =
    let same = begins_once c.spot.is_line_start c.rest h.found i.found h.is i.is in
    let one : Some d ≡ Some e = sym h.leads ∙ ap (following c) same ∙ i.leads in
    cc

abbrev cut_of : List (List ℕ) → List tokens.Token → Spot → List ℕ → Cut
cut_of files list spot rest = record { files = files; list = list; spot = spot; rest = rest }

abbrev uncut : List ℕ → Cut
uncut text = cut_of (codes "<input>" ∷ []) [] start text

reaches_onward : (text : List ℕ) (files : List (List ℕ)) (list : List tokens.Token) (spot : Spot) (rest : List ℕ) → Reaches text files list spot rest
    → Onward CutsPiece (uncut text) (cut_of files list spot rest)
reaches_onward text _ _ _ _ begins = stays refl
reaches_onward text _ _ _ _ (gap {files} {list} {spot} {rest} size reaches some is) =
    one_further CutsPiece (uncut text) (cut_of files list spot rest) (cut_of files list (spot_after spot (take size rest)) (drop size rest))
    (reaches_onward text files list spot rest reaches) (record { found = Gap size; some = some; is = is; leads = refl })
reaches_onward text _ _ _ _ (marker {files} {list} {spot} {rest} size next name reaches some is) =
    one_further CutsPiece (uncut text) (cut_of files list spot rest)
    (cut_of (files_after files name) list (marked_spot spot (file_after files spot name) next (take size rest)) (drop size rest))
    (reaches_onward text files list spot rest reaches) (record { found = Marker size next name; some = some; is = is; leads = refl })
reaches_onward text _ _ _ _ (token {files} {list} {spot} {rest} size kind reaches some is) =
    one_further CutsPiece (uncut text) (cut_of files list spot rest)
    (cut_of files (list ++ token_at kind spot.place ∷ []) (spot_after spot (take size rest)) (drop size rest))
    (reaches_onward text files list spot rest reaches) (record { found = Token size kind; some = some; is = is; leads = refl })

at_end : (files : List (List ℕ)) (list : List tokens.Token) (spot : Spot) → IsStuck CutsPiece (cut_of files list spot [])
at_end files list spot d step = absurd (omega (arith, step.some))

at_fault : (files : List (List ℕ)) (list : List tokens.Token) (spot : Spot) (rest : List ℕ) (fault : Fault) (size : ℕ)
    → Begins spot.is_line_start rest (Refused fault size) → IsStuck CutsPiece (cut_of files list spot rest)
at_fault files list spot rest fault size is d step =
    let same = begins_once spot.is_line_start rest step.found (Refused fault size) step.is is in
    let none : None ≡ Some d = sym (ap (following (cut_of files list spot rest)) same) ∙ step.leads in
    absurd cc

-- two cuttings have the same files, tokens, position and end
pub record AreSame (files others : List (List ℕ)) (list more : List tokens.Token) (place other : Place) (end last : End) : Type 0 where
  pub same_files : files ≡ others
  pub same_list : list ≡ more
  pub same_place : place ≡ other
  pub same_end : end ≡ last

whole_once : (text : List ℕ) (files others : List (List ℕ)) (list more : List tokens.Token) (place other : Place) → IsWhole text files list place
    → IsWhole text others more other → AreSame files others list more place other ends.Whole ends.Whole
whole_once text files others list more place other h i =
    let same = one_end CutsPiece piece_once (uncut text) (cut_of files list h.spot []) (cut_of others more i.spot [])
    (reaches_onward text files list h.spot [] h.reaches) (at_end files list h.spot) (reaches_onward text others more i.spot [] i.reaches)
    (at_end others more i.spot) in
    record {
      same_files = ap (λ (c : Cut). c.files) same;
      same_list = ap (λ (c : Cut). c.list) same;
      same_place = h.at_end ∙ ap (λ (c : Cut). c.spot.place) same ∙ sym i.at_end;
      same_end = refl;
    }

whole_or_refused : (text : List ℕ) (files others : List (List ℕ)) (list more : List tokens.Token) (place other : Place) (fault : Fault)
    → IsWhole text files list place → IsRefusedAt text others more other fault → ⊥
whole_or_refused text files others list more place other fault h i =
    let same = one_end CutsPiece piece_once (uncut text) (cut_of files list h.spot []) (cut_of others i.before i.spot i.rest)
    (reaches_onward text files list h.spot [] h.reaches) (at_end files list h.spot) (reaches_onward text others i.before i.spot i.rest i.reaches)
    (at_fault others i.before i.spot i.rest fault i.size i.begins) in
    absurd (omega (arith, i.some, ap (λ (c : Cut). length c.rest) same))

refused_once : (text : List ℕ) (files others : List (List ℕ)) (list more : List tokens.Token) (place other : Place) (f g : Fault)
    → IsRefusedAt text files list place f → IsRefusedAt text others more other g
    → AreSame files others list more place other (ends.Refused f) (ends.Refused g)
refused_once text files others list more place other f g h i =
    let same = one_end CutsPiece piece_once (uncut text) (cut_of files h.before h.spot h.rest) (cut_of others i.before i.spot i.rest)
    (reaches_onward text files h.before h.spot h.rest h.reaches) (at_fault files h.before h.spot h.rest f h.size h.begins)
    (reaches_onward text others i.before i.spot i.rest i.reaches) (at_fault others i.before i.spot i.rest g i.size i.begins) in
    let before : h.before ≡ i.before = ap (λ (c : Cut). c.list) same in
    let spot : h.spot ≡ i.spot = ap (λ (c : Cut). c.spot) same in
    let rest : h.rest ≡ i.rest = ap (λ (c : Cut). c.rest) same in
    let there : Begins i.spot.is_line_start i.rest (Refused f h.size) =
    subst (λ (s : Spot). Begins s.is_line_start i.rest (Refused f h.size)) spot
    (subst (λ r. Begins h.spot.is_line_start r (Refused f h.size)) rest h.begins) in
    let one = begins_once i.spot.is_line_start i.rest (Refused f h.size) (Refused g i.size) there i.begins in
    let fault : f ≡ g = cc in
    let size : h.size ≡ i.size = cc in
    record {
      same_files = ap (λ (c : Cut). c.files) same;
      same_list = h.tokens_are ∙ ap (λ b. b ++ begun h.rest h.size h.spot.place) before ∙ ap (λ r. i.before ++ begun r h.size h.spot.place) rest
          ∙ ap (λ n. i.before ++ begun i.rest n h.spot.place) size ∙ ap (λ (s : Spot). i.before ++ begun i.rest i.size s.place) spot ∙ sym i.tokens_are;
      same_place = h.place_is ∙ ap (λ (s : Spot). (spot_after s (take h.size h.rest)).place) spot
          ∙ ap (λ n. (spot_after i.spot (take n h.rest)).place) size ∙ ap (λ r. (spot_after i.spot (take i.size r)).place) rest ∙ sym i.place_is;
      same_end = ap ends.Refused fault;
    }

-- a text is cut in only one way, up to its end or to its first fault
pub one_cutting : (text : List ℕ) (files others : List (List ℕ)) (list more : List tokens.Token) (place other : Place) (end last : End)
    → EndsAs text files list place end → EndsAs text others more other last → AreSame files others list more place other end last
one_cutting text files others list more place other ends.Whole ends.Whole h i = whole_once text files others list more place other h i
one_cutting text files others list more place other ends.Whole (ends.Refused g) h i = absurd (whole_or_refused text files others list more place other g h i)
one_cutting text files others list more place other (ends.Refused f) ends.Whole h i = absurd (whole_or_refused text others files more list other place f i h)
one_cutting text files others list more place other (ends.Refused f) (ends.Refused g) h i = refused_once text files others list more place other f g h i
