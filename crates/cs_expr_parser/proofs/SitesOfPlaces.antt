-- The trees that the parser's parts return have the positions of their tokens, over indices of tokens.
use Rattle.std.proofs.Common.{◌≡◌, ℕ, suc, ◌+◌, ◌-◌, ◌<◌, ◌≤◌, Bool, true, false, List, [], ◌∷◌, ◌++◌, Option, Some, None}
use Rattle.std.proofs.Common.{Result, Ok, Err, length, drop, slice_get, refl, sym, ap, ◌∙◌, subst, arith}
use Rattle.std.specs.Prelude.{IfOk}
use Rattle.std.proofs.lemmas.List.{drop-drop}
use Rattle.cs_ast.specs.declared.place.Place.{Place}
use Rattle.cs_ast.specs.declared.token.Token.{Token}
use Rattle.cs_ast.specs.declared.raw.expression.RawExpr.{RawExpr}
use Rattle.cs_ast.specs.declared.raw.written_type.TypeWord.{TypeWord}
use Rattle.cs_ast.specs.declared.raw.written_type.PointerWord.{PointerWord}
use Rattle.cs_ast.specs.RawTree.{Written}
use Rattle.cs_ast.specs.RawView.{written, written_list}
use Rattle.cs_grammar.specs.TypeWords.{Names}
use Rattle.cs_grammar.specs.Phrases.{ArePhrases}
use Rattle.cs_grammar.specs.Text.{Kinds, text, words_text, pointers_text, bounds_text}
use Rattle.cs_grammar.specs.Places.{HasPlaces, HasTagPlace, StandsAt, after_tree, after_words}
use Rattle.cs_expr_parser.specs.Positions.{kinds, kind_or_end}
use Rattle.cs_expr_parser.specs.Parts.{Spells, IsTakenFrom, IsChainFrom, IsRowFrom, IsBounded, closed_bounds_text}
use Rattle.cs_expr_parser.specs.Words.{IsWordsFrom, IsPointersFrom}
use Rattle.cs_expr_parser.specs.Places.{IsOkPlaced, AreInRow, AreInBrackets, after_brackets, AreBoundsFrom, EndsAt, IsBuiltAfter, IsTypePlaced}
use Rattle.cs_expr_parser.specs.declared.stop.Stop.{Stop}
use Rattle.cs_expr_parser.specs.declared.stop.Taken.{Taken}
use Rattle.cs_expr_parser.specs.declared.lists.Listed.{Listed}
use Rattle.cs_expr_parser.specs.declared.types.TypeWords.{TypeWords}
use Rattle.cs_expr_parser.specs.declared.types.PointerWords.{PointerWords}
use Rattle.cs_expr_parser.specs.declared.types.TakenType.{TakenType}
use Rattle.cs_expr_parser.proofs.Standing.{spells_as}
use Rattle.cs_expr_parser.proofs.Stopping.{refused_number}
use Rattle.cs_expr_parser.proofs.Sites.{taken_front}
use Rattle.cs_expr_parser.proofs.TypesInside.{head_text}
use Rattle.cs_expr_parser.proofs.SitesOfTypes.{words_and_pointers}

pub drop_one : (tokens : List Token) (at : ℕ) → drop 1 (drop at tokens) ≡ drop (at + 1) tokens
drop_one tokens at = drop-drop 1 at tokens

spelled_ends : (tokens : List Token) (from next : ℕ) (tree : RawExpr) → Spells tokens from next (text (written tree)) → EndsAt tokens from tree next
spelled_ends tokens from next tree sp =
    let n = refused_number tokens from next (text (written tree) []) (taken_front tokens from next (written tree) sp) in
    drop-drop (length (text (written tree) [])) from tokens ∙ ap (λ (x : ℕ). drop x tokens) (sym n)

-- an expression that was taken is followed by the tokens from its end
pub taken_ends : (names : Names) (level limit : ℕ) (tokens : List Token) (from : ℕ) (taken : Taken) → IsTakenFrom names level limit tokens from taken
    → EndsAt tokens from taken.tree taken.next
taken_ends names level limit tokens from taken t = spelled_ends tokens from taken.next taken.tree t.spelled

pub chain_ends_at : (names : Names) (level limit : ℕ) (tokens : List Token) (from : ℕ) (taken : Taken) → IsChainFrom names level limit tokens from taken
    → EndsAt tokens from taken.tree taken.next
chain_ends_at names level limit tokens from taken t = spelled_ends tokens from taken.next taken.tree t.spelled

-- the same tree is placed in the same way
pub same_placed : (tokens : List Token) (from : ℕ) (tree other : RawExpr) → other ≡ tree → HasPlaces tree (drop from tokens)
    → HasPlaces other (drop from tokens)
same_placed tokens from tree other e p = subst (λ (x : RawExpr). HasPlaces x (drop from tokens)) (sym e) p

-- a token between two operands
pub between_stands : (tokens : List Token) (from : ℕ) (tree : RawExpr) (next : ℕ) (at : Place) → EndsAt tokens from tree next
    → StandsAt at (drop next tokens) → StandsAt at (after_tree tree (drop from tokens))
between_stands tokens from tree next at e s = subst (StandsAt at) (sym e) s

pub between_after : (tokens : List Token) (from : ℕ) (tree : RawExpr) (next : ℕ) (at : Place) → EndsAt tokens from tree next
    → StandsAt at (drop (next + 1) tokens) → StandsAt at (drop 1 (after_tree tree (drop from tokens)))
between_after tokens from tree next at e s = subst (StandsAt at) (sym (ap (λ (x : List Token). drop 1 x) e ∙ drop_one tokens next)) s

pub between_placed : (tokens : List Token) (from : ℕ) (tree : RawExpr) (next : ℕ) (right : RawExpr) → EndsAt tokens from tree next
    → HasPlaces right (drop (next + 1) tokens) → HasPlaces right (drop 1 (after_tree tree (drop from tokens)))
between_placed tokens from tree next right e p = subst (HasPlaces right) (sym (ap (λ (x : List Token). drop 1 x) e ∙ drop_one tokens next)) p

pub before_placed : (tokens : List Token) (from : ℕ) (operand : RawExpr) → HasPlaces operand (drop (from + 1) tokens)
    → HasPlaces operand (drop 1 (drop from tokens))
before_placed tokens from operand p = subst (HasPlaces operand) (sym (drop_one tokens from)) p

pub between_row : (tokens : List Token) (from : ℕ) (tree : RawExpr) (next : ℕ) (row : List RawExpr) → EndsAt tokens from tree next
    → AreInRow row (drop (next + 1) tokens) → AreInRow row (drop 1 (after_tree tree (drop from tokens)))
between_row tokens from tree next row e p = subst (AreInRow row) (sym (ap (λ (x : List Token). drop 1 x) e ∙ drop_one tokens next)) p

-- the last of three parts
pub last_placed : (tokens : List Token) (from : ℕ) (test : RawExpr) (next : ℕ) (one : RawExpr) (after_one : ℕ) (other : RawExpr)
    → EndsAt tokens from test next → EndsAt tokens (next + 1) one after_one → HasPlaces other (drop (after_one + 1) tokens)
    → HasPlaces other (drop 1 (after_tree one (drop 1 (after_tree test (drop from tokens)))))
last_placed tokens from test next one after_one other e f p =
    subst (HasPlaces other)
    (sym (ap (λ (x : List Token). drop 1 (after_tree one x)) (ap (λ (x : List Token). drop 1 x) e ∙ drop_one tokens next)
    ∙ ap (λ (x : List Token). drop 1 x) f ∙ drop_one tokens after_one)) p

-- the tokens after a list of expressions
abbrev pub after_row : List RawExpr → List Token → List Token
after_row [] tokens = tokens
after_row (tree ∷ trees) tokens = after_row trees (drop 1 (after_tree tree tokens))

row_more : (trees : List RawExpr) (tree : RawExpr) (tokens : List Token) → AreInRow trees tokens → HasPlaces tree (after_row trees tokens)
    → AreInRow (trees ++ tree ∷ []) tokens
row_more [] tree tokens a p = (p, tt)
row_more (t ∷ ts) tree tokens a p = (a.0, row_more ts tree (drop 1 (after_tree t tokens)) a.1 p)

row_longer : (trees : List RawExpr) (tree : RawExpr) (tokens : List Token)
    → after_row (trees ++ tree ∷ []) tokens ≡ drop 1 (after_tree tree (after_row trees tokens))
row_longer [] tree tokens = refl
row_longer (t ∷ ts) tree tokens = row_longer ts tree (drop 1 (after_tree t tokens))

-- the arguments so far and the last one are placed
pub record ArgumentsPlaced (tokens : List Token) (from : ℕ) (done : List RawExpr) (last : Taken) : Type 0 where
  pub at : ℕ
  pub row : AreInRow done (drop from tokens)
  pub ends : after_row done (drop from tokens) ≡ drop at tokens
  pub last_placed : HasPlaces last.tree (drop at tokens)
  pub last_ends : EndsAt tokens at last.tree last.next

pub first_argument_placed : (names : Names) (limit : ℕ) (tokens : List Token) (from : ℕ) (last : Taken) → IsTakenFrom names 1 limit tokens from last
    → HasPlaces last.tree (drop from tokens) → ArgumentsPlaced tokens from [] last
first_argument_placed names limit tokens from last t p =
    record { at = from; row = tt; ends = refl; last_placed = p; last_ends = taken_ends names 1 limit tokens from last t }

last_in_row : (tokens : List Token) (from : ℕ) (done : List RawExpr) (last : Taken) → ArgumentsPlaced tokens from done last
    → AreInRow (done ++ last.tree ∷ []) (drop from tokens)
last_in_row tokens from done last a = row_more done last.tree (drop from tokens) a.row (subst (HasPlaces last.tree) (sym a.ends) a.last_placed)

pub next_argument_placed : (names : Names) (limit : ℕ) (tokens : List Token) (from : ℕ) (done items : List RawExpr) (last another : Taken)
    → ArgumentsPlaced tokens from done last → IsTakenFrom names 1 limit tokens (last.next + 1) another
    → HasPlaces another.tree (drop (last.next + 1) tokens) → items ≡ done ++ last.tree ∷ [] → ArgumentsPlaced tokens from items another
next_argument_placed names limit tokens from done items last another a t p is = record {
  at = last.next + 1;
  row = subst (λ (x : List RawExpr). AreInRow x (drop from tokens)) (sym is) (last_in_row tokens from done last a);
  ends = ap (λ (x : List RawExpr). after_row x (drop from tokens)) is ∙ row_longer done last.tree (drop from tokens)
      ∙ ap (λ (x : List Token). drop 1 (after_tree last.tree x)) a.ends ∙ ap (λ (x : List Token). drop 1 x) a.last_ends ∙ drop_one tokens last.next;
  last_placed = p;
  last_ends = taken_ends names 1 limit tokens (last.next + 1) another t;
}

pub arguments_placed : (tokens : List Token) (from : ℕ) (done items : List RawExpr) (last : Taken) → ArgumentsPlaced tokens from done last
    → items ≡ done ++ last.tree ∷ [] → AreInRow items (drop from tokens)
arguments_placed tokens from done items last a is = subst (λ (x : List RawExpr). AreInRow x (drop from tokens)) (sym is) (last_in_row tokens from done last a)

brackets_more : (trees : List RawExpr) (tree : RawExpr) (tokens : List Token) → AreInBrackets trees tokens
    → HasPlaces tree (drop 1 (after_brackets trees tokens)) → AreInBrackets (trees ++ tree ∷ []) tokens
brackets_more [] tree tokens a p = (p, tt)
brackets_more (t ∷ ts) tree tokens a p = (a.0, brackets_more ts tree (drop 1 (after_tree t (drop 1 tokens))) a.1 p)

brackets_longer : (trees : List RawExpr) (tree : RawExpr) (tokens : List Token)
    → after_brackets (trees ++ tree ∷ []) tokens ≡ drop 1 (after_tree tree (drop 1 (after_brackets trees tokens)))
brackets_longer [] tree tokens = refl
brackets_longer (t ∷ ts) tree tokens = brackets_longer ts tree (drop 1 (after_tree t (drop 1 tokens)))

-- the bounds so far are placed, and end before a token
pub record BoundsPlaced (tokens : List Token) (from next : ℕ) (done : List RawExpr) : Type 0 where
  pub brackets : AreInBrackets done (drop from tokens)
  pub ends : after_brackets done (drop from tokens) ≡ drop next tokens

pub no_bounds_placed : (tokens : List Token) (from : ℕ) → BoundsPlaced tokens from from []
no_bounds_placed tokens from = record { brackets = tt; ends = refl }

pub next_bound_placed : (names : Names) (limit : ℕ) (tokens : List Token) (from next : ℕ) (done items : List RawExpr) (bound : Taken)
    → BoundsPlaced tokens from next done → IsTakenFrom names 2 limit tokens (next + 1) bound → HasPlaces bound.tree (drop (next + 1) tokens)
    → items ≡ done ++ bound.tree ∷ [] → BoundsPlaced tokens from (bound.next + 1) items
next_bound_placed names limit tokens from next done items bound b t p is =
    let here : drop 1 (after_brackets done (drop from tokens)) ≡ drop (next + 1) tokens = ap (λ (x : List Token). drop 1 x) b.ends
    ∙ drop_one tokens next in
    record {
      brackets = subst (λ (x : List RawExpr). AreInBrackets x (drop from tokens)) (sym is)
          (brackets_more done bound.tree (drop from tokens) b.brackets (subst (HasPlaces bound.tree) (sym here) p));
      ends =
          ap (λ (x : List RawExpr). after_brackets x (drop from tokens)) is ∙ brackets_longer done bound.tree (drop from tokens)
          ∙ ap (λ (x : List Token). drop 1 (after_tree bound.tree x)) here
          ∙ ap (λ (x : List Token). drop 1 x) (taken_ends names 2 limit tokens (next + 1) bound t) ∙ drop_one tokens bound.next;
    }

-- the bounds of a type, with the parenthesis after them
pub bounds_placed : (tokens : List Token) (from next : ℕ) (whole : Listed) → BoundsPlaced tokens from next whole.trees.items → whole.next ≡ next + 1
    → AreBoundsFrom tokens from whole
bounds_placed tokens from next whole b n = record {
  brackets = b.brackets;
  ends = ap (λ (x : List Token). drop 1 x) b.ends ∙ drop_one tokens next ∙ ap (λ (x : ℕ). drop x tokens) (sym n);
}

-- a type is placed if its tag and its bounds are
pub type_placed : (names : Names) (tokens : List Token) (from : ℕ) (words : TypeWords) (pointers : PointerWords) (listed : Listed) (whole : TakenType)
    → IsWordsFrom names tokens from words → IsPointersFrom tokens words.next pointers → whole.ty.words.items ≡ words.words.items
    → whole.ty.pointers.items ≡ pointers.words.items → whole.bounds.items ≡ listed.trees.items → whole.next ≡ listed.next
    → HasTagPlace whole.ty (drop from tokens) → AreBoundsFrom tokens pointers.next listed → IsTypePlaced tokens from whole
type_placed names tokens from words pointers listed whole w p ws ps bs n tag b =
    let sp = spells_as tokens from pointers.next (λ rest. words_text words.words.items (pointers_text pointers.words.items rest))
    (λ rest. words_text words.words.items (pointers_text pointers.words.items []) ++ rest) (words_and_pointers names tokens from words pointers w p)
    (λ rest. sym (head_text words.words.items pointers.words.items rest)) in
    let number = refused_number tokens from pointers.next (words_text words.words.items (pointers_text pointers.words.items [])) sp in
    let long : length (words_text whole.ty.words.items (pointers_text whole.ty.pointers.items []))
    ≡ length (words_text words.words.items (pointers_text pointers.words.items [])) =
    ap (λ (x : List TypeWord). length (words_text x (pointers_text whole.ty.pointers.items []))) ws
    ∙ ap (λ (x : List PointerWord). length (words_text words.words.items (pointers_text x []))) ps in
    let here : after_words whole.ty (drop from tokens) ≡ drop pointers.next tokens =
    ap (λ (x : ℕ). drop x (drop from tokens)) long ∙ drop-drop (length (words_text words.words.items (pointers_text pointers.words.items []))) from tokens
    ∙ ap (λ (x : ℕ). drop x tokens) (sym number) in
    record {
      tag = tag;
      bounds = subst (AreInBrackets whole.bounds.items) (sym here)
          (subst (λ (x : List RawExpr). AreInBrackets x (drop pointers.next tokens)) (sym bs) b.brackets);
      following =
          ap (λ (x : List Token). drop 1 (after_brackets whole.bounds.items x)) here
          ∙ ap (λ (x : List RawExpr). drop 1 (after_brackets x (drop pointers.next tokens))) bs ∙ b.ends
          ∙ ap (λ (x : ℕ). drop x tokens) (sym n);
    }

-- the result for a dot or an arrow
pub selected_placed : (tokens : List Token) (from : ℕ) (left : Taken) (answer : Result Taken Stop) → IfOk answer (IsBuiltAfter tokens left)
    → HasPlaces left.tree (drop from tokens) → EndsAt tokens from left.tree left.next → IsOkPlaced tokens from answer
selected_placed tokens from left (Ok whole) b here ends = b from here ends
selected_placed tokens from left (Err s) b here ends = tt

-- if the limit allows nothing, nothing was taken
pub narrow_placed : (tokens : List Token) (from : ℕ) (answer : Result Taken Stop) → IsBounded 0 tokens (from + 2) answer → IsOkPlaced tokens from answer
narrow_placed tokens from (Ok taken) b = absurd (let l = b.2 in let h = b.3 in omega arith)
narrow_placed tokens from (Err s) b = tt

-- the tag and the bounds of a type after so many tokens
pub type_parts : (tokens : List Token) (from number : ℕ) (taken : TakenType) → IsTypePlaced tokens (from + number) taken
    → HasTagPlace taken.ty (drop number (drop from tokens)) × AreInBrackets taken.bounds.items (after_words taken.ty (drop number (drop from tokens)))
type_parts tokens from number taken t =
    let e = sym (drop-drop number from tokens) in
    (subst (HasTagPlace taken.ty) e t.tag, subst (λ (x : List Token). AreInBrackets taken.bounds.items (after_words taken.ty x)) e t.bounds)

-- the operand after a type between parentheses
pub operand_placed : (tokens : List Token) (from : ℕ) (taken : TakenType) (operand : RawExpr) → IsTypePlaced tokens (from + 1) taken
    → HasPlaces operand (drop taken.next tokens)
    → HasPlaces operand (drop 1 (after_brackets taken.bounds.items (after_words taken.ty (drop 1 (drop from tokens)))))
operand_placed tokens from taken operand t there =
    subst (λ (x : List Token). HasPlaces operand (drop 1 (after_brackets taken.bounds.items (after_words taken.ty x)))) (sym (drop-drop 1 from tokens))
    (subst (HasPlaces operand) (sym t.following) there)
