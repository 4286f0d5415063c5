-- Concatenated lists of pieces: for the proofs that pieces are a split.
use Rattle.std.proofs.Common.{◌≡◌, ◌≢◌, inl, inr, ℕ, List, [], ◌∷◌, ◌++◌, sym, ◌∙◌}
use Rattle.cs_terms.specs.Term.{Valuation}
use Rattle.cs_types.specs.declared.data_model.DataModel.{DataModel}
use Rattle.cs_events.specs.declared.event.Label.{Label}
use Rattle.cs_eval.specs.declared.piece.Piece.{Piece}
use Rattle.cs_eval.specs.Splits.{Asking, Each, HaveOwnLabels, IsCovered}

-- each of the pieces shows this label
abbrev pub AllShow : Label → List Piece → Type 0
AllShow label pieces = Each (λ piece. piece.label ≡ label) pieces

-- none of the pieces shows it
abbrev pub NoneShows : Label → List Piece → Type 0
NoneShows label pieces = Each (λ piece. piece.label ≢ label) pieces

pub each_append : (IsSo : Piece → Type 0) (xs ys : List Piece) → Each IsSo xs → Each IsSo ys → Each IsSo (xs ++ ys)
each_append IsSo [] ys h k = k
each_append IsSo (x ∷ xs) ys h k = (h.0, each_append IsSo xs ys h.1 k)

pub none_shows : (shown label : Label) (xs : List Piece) → shown ≢ label → AllShow shown xs → NoneShows label xs
none_shows shown label [] apart h = tt
none_shows shown label (x ∷ xs) apart h = (λ e. apart (sym h.0 ∙ e), none_shows shown label xs apart h.1)

others_apart : (x : Piece) (label : Label) (ys : List Piece) → x.label ≢ label → AllShow label ys → Each (λ other. other.label ≢ x.label) ys
others_apart x label [] apart h = tt
others_apart x label (y ∷ ys) apart h = (λ e. apart (sym e ∙ h.0), others_apart x label ys apart h.1)

pub labels_append : (label : Label) (xs ys : List Piece) → HaveOwnLabels xs → HaveOwnLabels ys → NoneShows label xs → AllShow label ys
    → HaveOwnLabels (xs ++ ys)
labels_append label [] ys h k none all = k
labels_append label (x ∷ xs) ys h k none all = (
  each_append (λ other. other.label ≢ x.label) xs ys h.0 (others_apart x label ys none.0 all),
  labels_append label xs ys h.1 k none.1 all,
)

module _ (model : DataModel) (guess : ℕ) (asking : Asking) (v : Valuation) where
  pub covered_left : (xs ys : List Piece) → IsCovered model guess asking v xs → IsCovered model guess asking v (xs ++ ys)
  covered_left [] ys h = absurd h
  covered_left (x ∷ xs) ys (inl h) = inl h
  covered_left (x ∷ xs) ys (inr h) = inr (covered_left xs ys h)

  pub covered_right : (xs ys : List Piece) → IsCovered model guess asking v ys → IsCovered model guess asking v (xs ++ ys)
  covered_right [] ys h = h
  covered_right (x ∷ xs) ys h = inr (covered_right xs ys h)
