-- Texts of kinds: the kinds that a text names are the only ones, and there are some if each name is one. For `Settings`.
use Rattle.std.proofs.Common.{◌≡◌, ℕ, Bool, true, false, List, [], ◌∷◌, Option, Some, None, map, ap, sym, ◌∙◌, refl, subst, cond}
use Rattle.std.specs.Prelude.{◌==◌, ◌&&◌, nat_eq, is_some, IsTrue}
use Rattle.std.specs.List.{find, filter_map, cons_option, list_all, slice_split}
use Rattle.std.specs.Cmp.Lexicographic.{pointwise, bytes_decides}
use Rattle.cs_model.specs.declared.kind.Kind.{Kind}
use Rattle.cs_model.specs.declared.kind.Kind.TheVariants.{Null, Divide, Unset, Bounds, DoubleFree, Freed, BadFree, DeadLocal, Shift, Unrelated, ConstWrite}
use Rattle.cs_model.specs.Kinds.{kind_name}
use Rattle.cs_results.specs.Selected.{every_kind}
use Rattle.cs_words.specs.Values.{IsKinds}
use Rattle.cs_words.specs.Scan.{kind_of, are_kinds}

-- the kinds named in a text
abbrev pub are_kinds_of : List ℕ → List Kind
are_kinds_of text = filter_map kind_of (slice_split (λ b. b == 44) text)

-- ---- one name
kind_back : (kind : Kind) → kind_of (kind_name kind) ≡ Some kind
kind_back Null = refl
kind_back Divide = refl
kind_back Unset = refl
kind_back Bounds = refl
kind_back DoubleFree = refl
kind_back Freed = refl
kind_back BadFree = refl
kind_back DeadLocal = refl
kind_back Shift = refl
kind_back Unrelated = refl
kind_back ConstWrite = refl

passes_first : (test : Kind → Bool) (k kind : Kind) (others : Option Kind) (b : Bool) → test k ≡ b → cond b (Some k) others ≡ Some kind
    → (others ≡ Some kind → test kind ≡ true) → test kind ≡ true
passes_first test k kind others true is found later = let same : k ≡ kind = cc in ap test (sym same) ∙ is
passes_first test k kind others false is found later = later found

passes : (test : Kind → Bool) (kinds : List Kind) (kind : Kind) → find test kinds ≡ Some kind → test kind ≡ true
passes test [] kind e = absurd (cc)
passes test (k ∷ ks) kind e = passes_first test k kind (find test ks) (test k) refl e (λ found. passes test ks kind found)

named : (name : List ℕ) (kind : Kind) → kind_of name ≡ Some kind → kind_name kind ≡ name
named name kind e = (bytes_decides (kind_name kind) name).0 (passes (λ (k : Kind). pointwise nat_eq (kind_name k) name) every_kind kind e)

-- ---- lists of names
abbrev are_all_named : List (List ℕ) → Bool
are_all_named names = list_all (λ (name : List ℕ). is_some (kind_of name)) names

first_named : (name : List ℕ) (names : List (List ℕ)) (found : Option Kind) → kind_of name ≡ found → IsTrue (is_some found && are_all_named names)
    → (IsTrue (are_all_named names) → map kind_name (filter_map kind_of names) ≡ names)
    → map kind_name (cons_option found (filter_map kind_of names)) ≡ name ∷ names
first_named name names None e h rest = absurd (let wrong : false ≡ true = h in cc)
first_named name names (Some kind) e h rest = λ i. named name kind e i ∷ rest h i

all_named : (names : List (List ℕ)) → IsTrue (are_all_named names) → map kind_name (filter_map kind_of names) ≡ names
all_named [] h = refl
all_named (name ∷ names) h = first_named name names (kind_of name) refl h (λ others. all_named names others)

back : (kinds : List Kind) → filter_map kind_of (map kind_name kinds) ≡ kinds
back [] = refl
back (kind ∷ kinds) =
    ap (λ (o : Option Kind). cons_option o (filter_map kind_of (map kind_name kinds))) (kind_back kind) ∙ ap (λ (ks : List Kind). kind ∷ ks) (back kinds)

are_names : (kinds : List Kind) → IsTrue (are_all_named (map kind_name kinds))
are_names [] = refl
are_names (kind ∷ kinds) =
    ap (λ (o : Option Kind). is_some o && are_all_named (map kind_name kinds)) (kind_back kind) ∙ are_names kinds

-- ---- texts of lists
pub kinds_named : (text : List ℕ) (kinds : List Kind) → IsTrue (are_kinds text) → kinds ≡ are_kinds_of text → IsKinds text kinds
kinds_named text kinds h is = sym (ap (map kind_name) is ∙ all_named (slice_split (λ b. b == 44) text) h)

pub some_kinds : (text : List ℕ) → IsTrue (are_kinds text) → (kinds : List Kind) × IsKinds text kinds
some_kinds text h = (are_kinds_of text, kinds_named text (are_kinds_of text) h refl)

pub one_list : (text : List ℕ) (kinds : List Kind) → IsKinds text kinds → IsTrue (are_kinds text)
one_list text kinds is = subst (λ (names : List (List ℕ)). IsTrue (are_all_named names)) (sym is) (are_names kinds)

pub only_list : (text : List ℕ) (one other : List Kind) → IsKinds text one → IsKinds text other → one ≡ other
only_list text one other f g = sym (back one) ∙ ap (filter_map kind_of) (sym f ∙ g) ∙ back other
