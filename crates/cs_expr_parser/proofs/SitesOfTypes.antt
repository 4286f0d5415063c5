-- The returns of `parenthesised_type`, over indices of tokens.
use Rattle.std.proofs.Common.{◌≡◌, ℕ, suc, ◌+◌, ◌<◌, ◌≤◌, ◌⊎◌, inl, inr, Bool, true, false, List, [], ◌∷◌, ◌++◌, Result}
use Rattle.std.proofs.Common.{Ok, Err, length, refl, sym, ap, ◌∙◌, subst, arith}
use Rattle.cs_ast.specs.declared.token.Token.{Token}
use Rattle.cs_ast.specs.declared.token.TokenKind.{TokenKind}
use Rattle.cs_ast.specs.declared.token.TokenKind.TheVariants as token
use Rattle.cs_ast.specs.declared.token.Keyword.TheVariants as keyword
use Rattle.cs_ast.specs.declared.token.Punctuator.TheVariants as punctuator
use Rattle.cs_ast.specs.declared.raw.written_type.TypeWord.{TypeWord}
use Rattle.cs_ast.specs.declared.raw.written_type.PointerWord.{PointerWord}
use Rattle.cs_ast.specs.RawTree.{WrittenList}
use Rattle.cs_ast.specs.RawView.{written_list}
use Rattle.cs_ast.specs.RawHeight.{highest}
use Rattle.cs_grammar.specs.TypeWords.{Names}
use Rattle.cs_grammar.specs.Text.{Kinds, words_text, pointers_text}
use Rattle.cs_grammar.specs.Phrases.{ArePhrases}
use Rattle.cs_grammar.specs.Parsing.{Class, Near, Refused, Exactly}
use Rattle.cs_expr_parser.specs.Positions.{kinds, kind_or_end}
use Rattle.cs_expr_parser.specs.Parts.{Spells, Stops, Rows, Types, TypeParts, parts_of, type_closed_text, closed_bounds_text, IsRowFrom, IsTypeFrom}
use Rattle.cs_expr_parser.specs.Words.{first_of_word, IsWordsFrom, IsPointersFrom, PointersAnswer}
use Rattle.cs_expr_parser.specs.declared.stop.Stop.{Stop}
use Rattle.cs_expr_parser.specs.declared.stop.Stop.TheVariants as stop
use Rattle.cs_expr_parser.specs.declared.lists.Listed.{Listed}
use Rattle.cs_expr_parser.specs.declared.types.TypeWords.{TypeWords}
use Rattle.cs_expr_parser.specs.declared.types.PointerWords.{PointerWords}
use Rattle.cs_expr_parser.specs.declared.types.TakenType.{TakenType}
use Rattle.cs_expr_parser.proofs.Standing.{spells_more, spells_as}
use Rattle.cs_expr_parser.proofs.Stopping.{refused_number, refused_here, stops_in}
use Rattle.cs_expr_parser.proofs.TypesInside.{IsQuiet, bounds_quiet, head_text, type_exact, type_refused}

-- the parser of pointers fails only if memory runs out
pub pointers_stop : (C : Class) (limit : ℕ) (tokens : List Token) (from at : ℕ) (s : Stop) → PointersAnswer tokens at (Err s)
    → Stops C limit tokens from s
pointers_stop C limit tokens from at stop.Memory p = tt
pointers_stop C limit tokens from at (stop.Refused number reason) p = absurd p

quiet_first : (names : Names) (ws : List TypeWord) (ps : List PointerWord) (first : TokenKind) (xs ys : Kinds) → IsQuiet names ws ps (first ∷ xs)
    → IsQuiet names ws ps (first ∷ ys)
quiet_first names ws ps first xs ys q = record {
  no_star = λ more e. let k : first ≡ token.Punctuator punctuator.Star = cc in q.no_star xs (ap (λ (x : TokenKind). x ∷ xs) k);
  no_const = λ more e. let k : first ≡ token.Keyword keyword.Const = cc in q.no_const xs (ap (λ (x : TokenKind). x ∷ xs) k);
  no_word = λ none one words more e. let k : first ≡ first_of_word one = cc in q.no_word none one words xs (ap (λ (x : TokenKind). x ∷ xs) k);
}

-- after the end of the words and the pointers, no other one comes next
quiet_here : (names : Names) (tokens : List Token) (from : ℕ) (words : TypeWords) (pointers : PointerWords) → IsWordsFrom names tokens from words
    → IsPointersFrom tokens words.next pointers → (following : Kinds) → Near (kind_or_end tokens pointers.next) following
    → IsQuiet names words.words.items pointers.words.items following
quiet_here names tokens from words pointers w p following near =
    elim near [
      | inl none ↦ record {
        no_star = λ more e. let z = sym none ∙ e in cc;
        no_const = λ more e. let z = sym none ∙ e in cc;
        no_word = λ empty one others more e. absurd (let z = sym none ∙ e in cc);
      }
      | inr m ↦ record {
        no_star = λ more e. let z = sym m.1 ∙ e in p.no_star cc;
        no_const = λ more e. let z = sym m.1 ∙ e in p.no_const cc;
        no_word = λ empty one others more e.
            let z = sym m.1 ∙ e in
            let k : kind_or_end tokens pointers.next ≡ first_of_word one = cc in
            let sp : Spells tokens words.next pointers.next (λ rest. [] ++ rest) =
            subst (λ (ps : List PointerWord). Spells tokens words.next pointers.next (pointers_text ps)) empty p.spelled in
            w.stuck one others (sym k ∙ refused_here tokens words.next pointers.next [] sp refl);
      }
    ]

-- nor if the bounds after them were refused
quiet_front : (names : Names) (ws : List TypeWord) (ps : List PointerWord) (limit : ℕ) (front : Kinds) (next : TokenKind) (deep : Bool)
    → Refused (Rows closed_bounds_text (ArePhrases names 2)) limit front next deep
    → (front ≡ [] → (following : Kinds) → Near next following → IsQuiet names ws ps following) → (following : Kinds) → Near next following
    → IsQuiet names ws ps (front ++ following)
quiet_front names ws ps limit [] next deep r here following near = here refl following near
quiet_front names ws ps limit (f ∷ fs) next deep r here following near =
    elim r.begun [
      | inl none ↦ absurd cc
      | inr l ↦ quiet_first names ws ps f (fs ++ l.more) (fs ++ following) (subst (IsQuiet names ws ps) l.spelled (bounds_quiet names ws ps l.phrase []))
    ]

pub words_and_pointers : (names : Names) (tokens : List Token) (from : ℕ) (words : TypeWords) (pointers : PointerWords)
    → IsWordsFrom names tokens from words → IsPointersFrom tokens words.next pointers
    → Spells tokens from pointers.next (λ rest. words_text words.words.items (pointers_text pointers.words.items rest))
words_and_pointers names tokens from words pointers w p =
    spells_more tokens from words.next pointers.next (words_text words.words.items) (pointers_text pointers.words.items) w.spelled p.spelled

-- the bounds were refused
pub bounds_stop : (names : Names) (limit : ℕ) (tokens : List Token) (from : ℕ) (words : TypeWords) (pointers : PointerWords)
    → IsWordsFrom names tokens from words → IsPointersFrom tokens words.next pointers
    → (s : Stop) → Stops (Rows closed_bounds_text (ArePhrases names 2)) limit tokens pointers.next s → Stops (Types names) limit tokens from s
bounds_stop names limit tokens from words pointers w p s r =
    stops_in (Types names) (Rows closed_bounds_text (ArePhrases names 2)) limit limit tokens from pointers.next
    (words_text words.words.items (pointers_text pointers.words.items []))
    (spells_as tokens from pointers.next (λ rest. words_text words.words.items (pointers_text pointers.words.items rest))
    (λ rest. words_text words.words.items (pointers_text pointers.words.items []) ++ rest) (words_and_pointers names tokens from words pointers w p)
    (λ rest. sym (head_text words.words.items pointers.words.items rest)))
    (λ front at deep sp x.
    type_refused names limit words.words.items pointers.words.items w.is_type p.is_pointer front (kind_or_end tokens at) deep
    (quiet_front names words.words.items pointers.words.items limit front (kind_or_end tokens at) deep x
    (λ empty following near.
    quiet_here names tokens from words pointers w p following
    (subst (λ (k : TokenKind). Near k following) (refused_here tokens pointers.next at front sp empty) near))) x) s r

-- the type with these words, pointers and bounds
pub type_taken : (names : Names) (limit : ℕ) (tokens : List Token) (from : ℕ) (words : TypeWords) (pointers : PointerWords) (listed : Listed)
    (whole : TakenType) → IsWordsFrom names tokens from words → IsPointersFrom tokens words.next pointers
    → IsRowFrom closed_bounds_text (ArePhrases names 2) limit tokens pointers.next listed
    → parts_of whole
    ≡ (let made : TypeParts = record { words = words.words.items; pointers = pointers.words.items; bounds = written_list listed.trees.items } in made)
    → whole.height ≡ listed.height → whole.next ≡ listed.next → IsTypeFrom names limit tokens from whole
type_taken names limit tokens from words pointers listed whole w p b parts tall next = record {
  height_is = tall ∙ b.height_is ∙ ap (λ (x : TypeParts). highest x.bounds) (sym parts);
  spelled =
      subst (λ (n : ℕ). Spells tokens from n (type_closed_text (parts_of whole))) (sym next)
      (subst (λ (x : TypeParts). Spells tokens from listed.next (type_closed_text x)) (sym parts)
      (spells_more tokens from pointers.next listed.next (λ rest. words_text words.words.items (pointers_text pointers.words.items rest))
      (closed_bounds_text (written_list listed.trees.items)) (words_and_pointers names tokens from words pointers w p) b.spelled));
  exactly = subst (λ (x : TypeParts). Exactly (Types names) limit x) (sym parts)
      (type_exact names limit words.words.items pointers.words.items (written_list listed.trees.items) w.is_type p.is_pointer b.exactly);
}
