-- Expressions with the same parts and with the positions of the same tokens are the same, except for memory addresses.
use Rattle.std.proofs.Common.{◌≡◌, List, [], ◌∷◌, drop, length, slice_get, refl, sym, ap, subst, ◌∙◌}
use Rattle.std.specs.Option.{option_map, option_and_then}
use mathlib.Core.Former.{Count}
use Rattle.cs_ast.specs.declared.place.Place.{Place}
use Rattle.cs_ast.specs.declared.token.Token.{Token}
use Rattle.cs_ast.specs.declared.raw.expression.RawExpr.{RawExpr}
use Rattle.cs_ast.specs.declared.raw.expression.RawExprKind.{RawExprKind, Row_of-RawExpr, end_of-RawExpr, more_of-RawExpr}
use Rattle.cs_ast.specs.declared.raw.expression.RawExprKind.TheVariants as kind
use Rattle.cs_ast.specs.declared.raw.name.RawName.{RawName}
use Rattle.cs_ast.specs.declared.raw.written_type.WrittenType.{WrittenType}
use Rattle.cs_ast.specs.RawTree as tree
use Rattle.cs_ast.specs.RawTree.{Written, WrittenList}
use Rattle.cs_ast.specs.RawView.{written, written_kind, written_row}
use Rattle.cs_grammar.specs.Text.{size, words_text, pointers_text}
use Rattle.cs_grammar.specs.Places.{StandsAt, following, after_words, before_tag, HasTagPlace, after_bounds, IsPlaced, ArePlaced, AreBoundsPlaced, HasPlaces}
use Rattle.cs_one_program.specs.SameExpressions as same
use Rattle.cs_one_program.specs.SameExpressions.{SameType, SameKind, SameRow, SameExpr}

-- both positions are that of the first of these tokens
pub stands_same : {at at' : Place} {tokens tokens' : List Token} → tokens ≡ tokens' → StandsAt at tokens → StandsAt at' tokens' → at ≡ at'
stands_same {at' = at'} {tokens = tokens} e h h' = alike _ tokens h (subst (StandsAt at') (sym e) h')
  where
    alike : (at : Place) (tokens : List Token) → StandsAt at tokens → StandsAt at' tokens → at ≡ at'
    alike at [] h h' = absurd h
    alike at (token ∷ tokens) h h' = h ∙ sym h'

-- the equations between the parts of equal trees
abbrev Fits : Written → Written → Type 0
Fits (tree.Named name) (tree.Named name') = name ≡ name'
Fits (tree.Numeral constant) (tree.Numeral constant') = constant ≡ constant'
Fits (tree.Character value) (tree.Character value') = value ≡ value'
Fits (tree.Literal bytes) (tree.Literal bytes') = bytes ≡ bytes'
Fits (tree.Enclosed e) (tree.Enclosed e') = e ≡ e'
Fits (tree.Index l r) (tree.Index l' r') = (l ≡ l') × (r ≡ r')
Fits (tree.Call f row) (tree.Call f' row') = (f ≡ f') × (row ≡ row')
Fits (tree.Member e name) (tree.Member e' name') = (e ≡ e') × (name ≡ name')
Fits (tree.Arrow e name) (tree.Arrow e' name') = (e ≡ e') × (name ≡ name')
Fits (tree.StepAfter step e) (tree.StepAfter step' e') = (step ≡ step') × (e ≡ e')
Fits (tree.StepBefore step e) (tree.StepBefore step' e') = (step ≡ step') × (e ≡ e')
Fits (tree.Prefix operator e) (tree.Prefix operator' e') = (operator ≡ operator') × (e ≡ e')
Fits (tree.SizeOf e) (tree.SizeOf e') = e ≡ e'
Fits (tree.SizeOfType words pointers row) (tree.SizeOfType words' pointers' row') = (words ≡ words') × (pointers ≡ pointers') × (row ≡ row')
Fits (tree.Cast words pointers row e) (tree.Cast words' pointers' row' e') = (words ≡ words') × (pointers ≡ pointers') × (row ≡ row') × (e ≡ e')
Fits (tree.Infix operator l r) (tree.Infix operator' l' r') = (operator ≡ operator') × (l ≡ l') × (r ≡ r')
Fits (tree.Choice t l r) (tree.Choice t' l' r') = (t ≡ t') × (l ≡ l') × (r ≡ r')
Fits (tree.Assign operator l r) (tree.Assign operator' l' r') = (operator ≡ operator') × (l ≡ l') × (r ≡ r')
Fits (tree.Comma l r) (tree.Comma l' r') = (l ≡ l') × (r ≡ r')
Fits _ _ = ⊥

fits_itself : (w : Written) → Fits w w
fits_itself (tree.Named name) = refl
fits_itself (tree.Numeral constant) = refl
fits_itself (tree.Character value) = refl
fits_itself (tree.Literal bytes) = refl
fits_itself (tree.Enclosed e) = refl
fits_itself (tree.Index l r) = (refl, refl)
fits_itself (tree.Call f row) = (refl, refl)
fits_itself (tree.Member e name) = (refl, refl)
fits_itself (tree.Arrow e name) = (refl, refl)
fits_itself (tree.StepAfter step e) = (refl, refl)
fits_itself (tree.StepBefore step e) = (refl, refl)
fits_itself (tree.Prefix operator e) = (refl, refl)
fits_itself (tree.SizeOf e) = refl
fits_itself (tree.SizeOfType words pointers row) = (refl, refl, refl)
fits_itself (tree.Cast words pointers row e) = (refl, refl, refl, refl)
fits_itself (tree.Infix operator l r) = (refl, refl, refl)
fits_itself (tree.Choice t l r) = (refl, refl, refl)
fits_itself (tree.Assign operator l r) = (refl, refl, refl)
fits_itself (tree.Comma l r) = (refl, refl)

fits : {w w' : Written} → w ≡ w' → Fits w w'
fits {w = w} e = subst (Fits w) e (fits_itself w)

abbrev RowFits : WrittenList → WrittenList → Type 0
RowFits tree.End tree.End = Unit {0}
RowFits (tree.More e row) (tree.More e' row') = (e ≡ e') × (row ≡ row')
RowFits _ _ = ⊥

row_fits_itself : (w : WrittenList) → RowFits w w
row_fits_itself tree.End = tt
row_fits_itself (tree.More e row) = (refl, refl)

row_fits : {w w' : WrittenList} → w ≡ w' → RowFits w w'
row_fits {w = w} e = subst (RowFits w) e (row_fits_itself w)

-- the tokens after an expression, and after the bounds of a type
past_same : (e e' : RawExprKind) {tokens tokens' : List Token} → written_kind e ≡ written_kind e' → tokens ≡ tokens'
    → drop 1 (following e tokens) ≡ drop 1 (following e' tokens')
past_same e e' w t = λ i. drop 1 (drop (size (w i)) (t i))

follows_same : (e e' : RawExprKind) {tokens tokens' : List Token} → written_kind e ≡ written_kind e' → tokens ≡ tokens'
    → following e tokens ≡ following e' tokens'
follows_same e e' w t = λ i. drop (size (w i)) (t i)

after_same : {n m : Count} (row : Row_of-RawExpr n) (row' : Row_of-RawExpr m) {tokens tokens' : List Token} → RowFits (written_row row) (written_row row')
    → tokens ≡ tokens' → after_bounds row tokens ≡ after_bounds row' tokens'
after_same end_of-RawExpr end_of-RawExpr w t = t
after_same (more_of-RawExpr at p e row) (more_of-RawExpr at' p' e' row') w t =
    after_same row row' (row_fits w.1) (past_same e e' w.0 (ap (drop 1) t))
after_same _ _ w t = absurd w

type_same : (ty ty' : WrittenType) {tokens tokens' : List Token} → ty.words.items ≡ ty'.words.items → ty.pointers.items ≡ ty'.pointers.items
    → tokens ≡ tokens' → HasTagPlace ty tokens → HasTagPlace ty' tokens' → SameType ty ty'
type_same ty ty' words pointers t h h' = record {
  words = words;
  tag = h ∙ (λ i. option_map (λ (token : Token). token.place) (option_and_then (λ number. slice_get (t i) number) (before_tag (words i)))) ∙ sym h';
  pointers = pointers;
}

words_past : (ty ty' : WrittenType) {tokens tokens' : List Token} → ty.words.items ≡ ty'.words.items → ty.pointers.items ≡ ty'.pointers.items
    → tokens ≡ tokens' → after_words ty tokens ≡ after_words ty' tokens'
words_past ty ty' words pointers t = λ i. drop (length (words_text (words i) (pointers_text (pointers i) []))) (t i)

-- a name and its position
name_same : (name name' : RawName) → name.place ≡ name'.place → name.name ≡ name'.name → name ≡ name'
name_same name name' at is = λ i. record { place = at i; name = is i }

mutual
  kind_same : (at at' : Place) (k k' : RawExprKind) (tokens tokens' : List Token) → tokens ≡ tokens' → IsPlaced at k tokens → IsPlaced at' k' tokens'
      → Fits (written_kind k) (written_kind k') → (at ≡ at') × SameKind k k'
  kind_same at at' (kind.Name name) (kind.Name name') tokens tokens' t h h' w =
      (stands_same t h h', subst (λ k. SameKind (kind.Name name) k) (ap kind.Name w) same.Name)
  kind_same at at' (kind.Number n) (kind.Number n') tokens tokens' t h h' w =
      (stands_same t h h', subst (λ k. SameKind (kind.Number n) k) (ap kind.Number w) same.Number)
  kind_same at at' (kind.Character n) (kind.Character n') tokens tokens' t h h' w =
      (stands_same t h h', subst (λ k. SameKind (kind.Character n) k) (ap kind.Character w) same.Character)
  kind_same at at' (kind.Text n) (kind.Text n') tokens tokens' t h h' w =
      (stands_same t h h', subst (λ k. SameKind (kind.Text n) k) (ap kind.Text w) same.Text)
  kind_same at at' (kind.Parenthesis' place p e) (kind.Parenthesis' place' p' e') tokens tokens' t h h' w =
      let inner = kind_same place place' e e' _ _ (ap (drop 1) t) h.1 h'.1 (fits w) in (
        stands_same t h.0 h'.0,
        subst (λ k. SameKind (kind.Parenthesis' place p e) k) (λ i. kind.Parenthesis' (inner.0 i) p' e') (same.Parenthesis place inner.1),
      )
  kind_same at at' (kind.Index' place p l at2 q r) (kind.Index' place' p' l' at2' q' r') tokens tokens' t h h' w =
      let one = kind_same place place' l l' _ _ t h.0 h'.0 (fits w.0) in
      let two = kind_same at2 at2' r r' _ _ (past_same l l' w.0 t) h.2 h'.2 (fits w.1) in (
        stands_same (follows_same l l' w.0 t) h.1 h'.1,
        subst (λ k. SameKind (kind.Index' place p l at2 q r) k) (λ i. kind.Index' (one.0 i) p' l' (two.0 i) q' r') (same.Index place at2 one.1 two.1),
      )
  kind_same at at' (kind.Call' place p f shape row) (kind.Call' place' p' f' shape' row') tokens tokens' t h h' w =
      let one = kind_same place place' f f' _ _ t h.0 h'.0 (fits w.0) in (
        stands_same (follows_same f f' w.0 t) h.1 h'.1,
        subst (λ k. SameKind (kind.Call' place p f shape row) k) (λ i. kind.Call' (one.0 i) p' f' shape' row')
            (same.Call place one.1 (row_same row row' _ _ (past_same f f' w.0 t) h.2 h'.2 (row_fits w.1))),
      )
  kind_same at at' (kind.Member' place p e name) (kind.Member' place' p' e' name') tokens tokens' t h h' w =
      let one = kind_same place place' e e' _ _ t h.0 h'.0 (fits w.0) in
      let said = name_same name name' (stands_same (past_same e e' w.0 t) h.2 h'.2) w.1 in (
        stands_same (follows_same e e' w.0 t) h.1 h'.1,
        subst (λ k. SameKind (kind.Member' place p e name) k) (λ i. kind.Member' (one.0 i) p' e' (said i)) (same.Member place name one.1),
      )
  kind_same at at' (kind.Arrow' place p e name) (kind.Arrow' place' p' e' name') tokens tokens' t h h' w =
      let one = kind_same place place' e e' _ _ t h.0 h'.0 (fits w.0) in
      let said = name_same name name' (stands_same (past_same e e' w.0 t) h.2 h'.2) w.1 in (
        stands_same (follows_same e e' w.0 t) h.1 h'.1,
        subst (λ k. SameKind (kind.Arrow' place p e name) k) (λ i. kind.Arrow' (one.0 i) p' e' (said i)) (same.Arrow place name one.1),
      )
  kind_same at at' (kind.StepAfter' step place p e) (kind.StepAfter' step' place' p' e') tokens tokens' t h h' w =
      let one = kind_same place place' e e' _ _ t h.0 h'.0 (fits w.1) in (
        stands_same (follows_same e e' w.1 t) h.1 h'.1,
        subst (λ k. SameKind (kind.StepAfter' step place p e) k) (λ i. kind.StepAfter' (w.0 i) (one.0 i) p' e') (same.StepAfter step place one.1),
      )
  kind_same at at' (kind.StepBefore' step place p e) (kind.StepBefore' step' place' p' e') tokens tokens' t h h' w =
      let one = kind_same place place' e e' _ _ (ap (drop 1) t) h.1 h'.1 (fits w.1) in (
        stands_same t h.0 h'.0,
        subst (λ k. SameKind (kind.StepBefore' step place p e) k) (λ i. kind.StepBefore' (w.0 i) (one.0 i) p' e') (same.StepBefore step place one.1),
      )
  kind_same at at' (kind.Prefix' operator place p e) (kind.Prefix' operator' place' p' e') tokens tokens' t h h' w =
      let one = kind_same place place' e e' _ _ (ap (drop 1) t) h.1 h'.1 (fits w.1) in (
        stands_same t h.0 h'.0,
        subst (λ k. SameKind (kind.Prefix' operator place p e) k) (λ i. kind.Prefix' (w.0 i) (one.0 i) p' e') (same.Prefix operator place one.1),
      )
  kind_same at at' (kind.SizeOf' place p e) (kind.SizeOf' place' p' e') tokens tokens' t h h' w =
      let one = kind_same place place' e e' _ _ (ap (drop 1) t) h.1 h'.1 (fits w) in (
        stands_same t h.0 h'.0,
        subst (λ k. SameKind (kind.SizeOf' place p e) k) (λ i. kind.SizeOf' (one.0 i) p' e') (same.SizeOf place one.1),
      )
  kind_same at at' (kind.SizeOfType' ty shape row) (kind.SizeOfType' ty' shape' row') tokens tokens' t h h' w = (
    stands_same t h.0 h'.0,
    same.SizeOfType (type_same ty ty' w.0 w.1 (ap (drop 2) t) h.1 h'.1)
        (bounds_same row row' _ _ (words_past ty ty' w.0 w.1 (ap (drop 2) t)) h.2 h'.2 (row_fits w.2)),
  )
  kind_same at at' (kind.Cast' ty shape row place p e) (kind.Cast' ty' shape' row' place' p' e') tokens tokens' t h h' w =
      let inside = words_past ty ty' w.0 w.1 (ap (drop 1) t) in
      let one = kind_same place place' e e' _ _ (ap (drop 1) (after_same row row' (row_fits w.2) inside)) h.3 h'.3 (fits w.3) in (
        stands_same t h.0 h'.0,
        subst (λ k. SameKind (kind.Cast' ty shape row place p e) k) (λ i. kind.Cast' ty' shape' row' (one.0 i) p' e')
            (same.Cast place (type_same ty ty' w.0 w.1 (ap (drop 1) t) h.1 h'.1) (bounds_same row row' _ _ inside h.2 h'.2 (row_fits w.2)) one.1),
      )
  kind_same at at' (kind.Infix' operator place p l at2 q r) (kind.Infix' operator' place' p' l' at2' q' r') tokens tokens' t h h' w =
      let one = kind_same place place' l l' _ _ t h.0 h'.0 (fits w.1) in
      let two = kind_same at2 at2' r r' _ _ (past_same l l' w.1 t) h.2 h'.2 (fits w.2) in (
        stands_same (follows_same l l' w.1 t) h.1 h'.1,
        subst (λ k. SameKind (kind.Infix' operator place p l at2 q r) k) (λ i. kind.Infix' (w.0 i) (one.0 i) p' l' (two.0 i) q' r')
            (same.Infix operator place at2 one.1 two.1),
      )
  kind_same at at' (kind.Choice' place p c at2 q l at3 s r) (kind.Choice' place' p' c' at2' q' l' at3' s' r') tokens tokens' t h h' w =
      let one = kind_same place place' c c' _ _ t h.0 h'.0 (fits w.0) in
      let two = kind_same at2 at2' l l' _ _ (past_same c c' w.0 t) h.2 h'.2 (fits w.1) in
      let three = kind_same at3 at3' r r' _ _ (past_same l l' w.1 (past_same c c' w.0 t)) h.3 h'.3 (fits w.2) in (
        stands_same (follows_same c c' w.0 t) h.1 h'.1,
        subst (λ k. SameKind (kind.Choice' place p c at2 q l at3 s r) k) (λ i. kind.Choice' (one.0 i) p' c' (two.0 i) q' l' (three.0 i) s' r')
            (same.Choice place at2 at3 one.1 two.1 three.1),
      )
  kind_same at at' (kind.Assign' operator place p l at2 q r) (kind.Assign' operator' place' p' l' at2' q' r') tokens tokens' t h h' w =
      let one = kind_same place place' l l' _ _ t h.0 h'.0 (fits w.1) in
      let two = kind_same at2 at2' r r' _ _ (past_same l l' w.1 t) h.2 h'.2 (fits w.2) in (
        stands_same (follows_same l l' w.1 t) h.1 h'.1,
        subst (λ k. SameKind (kind.Assign' operator place p l at2 q r) k) (λ i. kind.Assign' (w.0 i) (one.0 i) p' l' (two.0 i) q' r')
            (same.Assign operator place at2 one.1 two.1),
      )
  kind_same at at' (kind.Comma' place p l at2 q r) (kind.Comma' place' p' l' at2' q' r') tokens tokens' t h h' w =
      let one = kind_same place place' l l' _ _ t h.0 h'.0 (fits w.0) in
      let two = kind_same at2 at2' r r' _ _ (past_same l l' w.0 t) h.2 h'.2 (fits w.1) in (
        stands_same (follows_same l l' w.0 t) h.1 h'.1,
        subst (λ k. SameKind (kind.Comma' place p l at2 q r) k) (λ i. kind.Comma' (one.0 i) p' l' (two.0 i) q' r') (same.Comma place at2 one.1 two.1),
      )
  kind_same at at' _ _ tokens tokens' t h h' w = absurd w

  row_same : {n m : Count} (row : Row_of-RawExpr n) (row' : Row_of-RawExpr m) (tokens tokens' : List Token) → tokens ≡ tokens' → ArePlaced row tokens
      → ArePlaced row' tokens' → RowFits (written_row row) (written_row row') → SameRow n m row row'
  row_same end_of-RawExpr end_of-RawExpr tokens tokens' t h h' w = same.End
  row_same (more_of-RawExpr at p e row) (more_of-RawExpr at' p' e' row') tokens tokens' t h h' w =
      let one = kind_same at at' e e' _ _ t h.0 h'.0 (fits w.0) in
      subst (λ r. SameRow _ _ (more_of-RawExpr at p e row) r) (λ i. more_of-RawExpr (one.0 i) p' e' row')
      (same.More at one.1 (row_same row row' _ _ (past_same e e' w.0 t) h.1 h'.1 (row_fits w.1)))
  row_same _ _ tokens tokens' t h h' w = absurd w

  bounds_same : {n m : Count} (row : Row_of-RawExpr n) (row' : Row_of-RawExpr m) (tokens tokens' : List Token) → tokens ≡ tokens'
      → AreBoundsPlaced row tokens → AreBoundsPlaced row' tokens' → RowFits (written_row row) (written_row row') → SameRow n m row row'
  bounds_same end_of-RawExpr end_of-RawExpr tokens tokens' t h h' w = same.End
  bounds_same (more_of-RawExpr at p e row) (more_of-RawExpr at' p' e' row') tokens tokens' t h h' w =
      let one = kind_same at at' e e' _ _ (ap (drop 1) t) h.0 h'.0 (fits w.0) in
      subst (λ r. SameRow _ _ (more_of-RawExpr at p e row) r) (λ i. more_of-RawExpr (one.0 i) p' e' row')
      (same.More at one.1 (bounds_same row row' _ _ (past_same e e' w.0 (ap (drop 1) t)) h.1 h'.1 (row_fits w.1)))
  bounds_same _ _ tokens tokens' t h h' w = absurd w

pub expression_same : (e e' : RawExpr) {tokens tokens' : List Token} → tokens ≡ tokens' → HasPlaces e tokens → HasPlaces e' tokens'
    → written e ≡ written e' → SameExpr e e'
expression_same e e' t h h' w =
    let found = kind_same e.place e'.place e.kind.value e'.kind.value _ _ t h h' (fits w) in record { at = found.0; is = found.1 }
