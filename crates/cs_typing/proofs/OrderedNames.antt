-- Each function that a file declares has an index in the order of functions: for the functions of well-formed programs.
use Rattle.std.proofs.Common.{◌≡◌, ◌∙◌, ℕ, ◌+◌, ◌<◌, suc, Bool, true, false, cond, List, [], ◌∷◌, ◌++◌, length, get_or, inl}
use Rattle.std.proofs.Common.{inr, refl, sym, subst, arith}
use Rattle.std.specs.Prelude.{nat_eq, not, ◌||◌, option_to_list, Some, None, ◌⊎◌}
use Rattle.std.specs.List.{list_any}
use Rattle.std.specs.Cmp.Lexicographic.{pointwise}
use Rattle.std.proofs.lemmas.List.Folds.{list_any-append}
use Rattle.std.proofs.lemmas.List.Sums.{passes_at_first}
use Rattle.indexmap.specs.IndexSet.{insert_key, insert_all}
use Rattle.cs_names.proofs.Comparisons.{same_bytes, equal_to_same}
use Rattle.cs_ast.specs.declared.raw.external.RawExternalKind.{RawExternalKind}
use Rattle.cs_ast.specs.declared.raw.external.RawExternalKind.TheVariants as external
use Rattle.cs_ast.specs.declared.raw.external.RawExternal.{RawExternal}
use Rattle.cs_file_scope.specs.Functions.{number_in}
use Rattle.cs_file_scope.specs.Order.{is_of_library, defines, is_defined, placed, all_placed, order_of}

-- the function has an index in the order
abbrev pub IsOrdered : List (List ℕ) → List ℕ → Type 0
IsOrdered order name = number_in order name < length order

-- it has an index, or is one of the library
abbrev pub IsPlaced : List (List ℕ) → List ℕ → Type 0
IsPlaced order name = (is_of_library name ≡ true) ⊎ IsOrdered order name

abbrev pub ExternalIsPlaced : List (List ℕ) → RawExternalKind → Type 0
ExternalIsPlaced order (external.Type s) = Unit {0}
ExternalIsPlaced order (external.Typedef s names) = Unit {0}
ExternalIsPlaced order (external.Objects s objects) = Unit {0}
ExternalIsPlaced order (external.Function s d) = IsPlaced order d.name
ExternalIsPlaced order (external.Definition s d body) = IsPlaced order d.name

abbrev pub FileIsPlaced : List (List ℕ) → List RawExternal → Type 0
FileIsPlaced order [] = Unit {0}
FileIsPlaced order (e ∷ es) = ExternalIsPlaced order e.kind × FileIsPlaced order es

-- the name is one of these
abbrev IsAmong : List ℕ → List (List ℕ) → Type 0
IsAmong name names = list_any (pointwise nat_eq name) names ≡ true

itself : (a : List ℕ) → pointwise nat_eq a a ≡ true
itself a = equal_to_same a a refl

or-first : (a b : Bool) → a ≡ true → (a || b) ≡ true
or-first true b h = refl
or-first false b h = absurd cc

or-second : (a b : Bool) → b ≡ true → (a || b) ≡ true
or-second true b h = refl
or-second false b h = h

or-cases : (a b : Bool) → (a || b) ≡ true → (a ≡ true) ⊎ (b ≡ true)
or-cases true b h = inl refl
or-cases false b h = inr h

-- two functions with one number have one name
pub number-names : (order : List (List ℕ)) (a b : List ℕ) → number_in order a ≡ number_in order b → IsOrdered order a → a ≡ b
number-names order a b is within =
    let at = number_in order a in
    let one : pointwise nat_eq a (get_or order at []) ≡ true = passes_at_first (pointwise nat_eq a) order [] within in
    let other : pointwise nat_eq b (get_or order at []) ≡ true =
    subst (λ n. pointwise nat_eq b (get_or order n []) ≡ true) (sym is)
    (passes_at_first (pointwise nat_eq b) order [] (subst (λ n. n < length order) is within)) in
    same_bytes a (get_or order at []) one ∙ sym (same_bytes b (get_or order at []) other)

-- ---- what is inserted is there

within : (name : List ℕ) (names : List (List ℕ)) → IsAmong name names → IsOrdered names name
within name [] h = absurd cc
within name (x ∷ xs) h = by_test (pointwise nat_eq name x) h (within name xs)
  where
    by_test : (b : Bool) → (b || list_any (pointwise nat_eq name) xs) ≡ true → (IsAmong name xs → IsOrdered xs name)
        → cond (not b) (1 + number_in xs name) 0 < suc (length xs)
    by_test true h rest = omega arith
    by_test false h rest = let more = rest h in omega (arith, more)

among-push : (name : List ℕ) (names : List (List ℕ)) (last : List ℕ) → IsAmong name names ⊎ (pointwise nat_eq name last ≡ true)
    → IsAmong name (names ++ last ∷ [])
among-push name names last h =
    list_any-append (pointwise nat_eq name) names (last ∷ [])
    ∙ by_way h
  where
    by_way : IsAmong name names ⊎ (pointwise nat_eq name last ≡ true)
        → (list_any (pointwise nat_eq name) names || list_any (pointwise nat_eq name) (last ∷ [])) ≡ true
    by_way (inl old) = or-first _ _ old
    by_way (inr new) = or-second (list_any (pointwise nat_eq name) names) _ (or-first _ false new)

key-kept : (name key : List ℕ) (names : List (List ℕ)) → IsAmong name names → IsAmong name (insert_key (pointwise nat_eq) names key)
key-kept name key names h = by_test (list_any (pointwise nat_eq key) names)
  where
    by_test : (b : Bool) → IsAmong name (cond b names (names ++ key ∷ []))
    by_test true = h
    by_test false = among-push name names key (inl h)

key-added : (key : List ℕ) (names : List (List ℕ)) → IsAmong key (insert_key (pointwise nat_eq) names key)
key-added key names = by_test (list_any (pointwise nat_eq key) names) refl
  where
    by_test : (b : Bool) → list_any (pointwise nat_eq key) names ≡ b → IsAmong key (cond b names (names ++ key ∷ []))
    by_test true is = is
    by_test false is = among-push key names key (inr (itself key))

all-kept : (name : List ℕ) (names more : List (List ℕ)) → IsAmong name names → IsAmong name (insert_all (pointwise nat_eq) names more)
all-kept name names [] h = h
all-kept name names (key ∷ more) h = all-kept name (insert_key (pointwise nat_eq) names key) more (key-kept name key names h)

all-added : (name : List ℕ) (names more : List (List ℕ)) → IsAmong name more → IsAmong name (insert_all (pointwise nat_eq) names more)
all-added name names [] h = absurd cc
all-added name names (key ∷ more) h =
    by_way (or-cases (pointwise nat_eq name key) (list_any (pointwise nat_eq name) more) h) (all-added name (insert_key (pointwise nat_eq) names key) more)
  where
    by_way : (pointwise nat_eq name key ≡ true) ⊎ IsAmong name more
        → (IsAmong name more → IsAmong name (insert_all (pointwise nat_eq) (insert_key (pointwise nat_eq) names key) more))
        → IsAmong name (insert_all (pointwise nat_eq) (insert_key (pointwise nat_eq) names key) more)
    by_way (inl is) rest =
        all-kept name (insert_key (pointwise nat_eq) names key) more
        (subst (λ x. IsAmong x (insert_key (pointwise nat_eq) names key)) (sym (same_bytes name key is)) (key-added key names))
    by_way (inr later) rest = rest later

-- ---- the functions of a file

-- a function that is defined has an index
defined-placed : (defined : List ℕ → Bool) (name : List ℕ) (file : List RawExternal) → is_defined name file ≡ true
    → IsAmong name (all_placed defined file)
defined-placed defined name [] h = absurd cc
defined-placed defined name (e ∷ es) h = by_way (or-cases (defines name e.kind) (is_defined name es) h) (defined-placed defined name es)
  where
    here : (k : RawExternalKind) → defines name k ≡ true → IsAmong name (option_to_list (placed defined k) ++ all_placed defined es)
    here (external.Type s) is = absurd cc
    here (external.Typedef s names) is = absurd cc
    here (external.Objects s objects) is = absurd cc
    here (external.Function s d) is = absurd cc
    here (external.Definition s d body) is =
        or-first _ _ (subst (λ x. pointwise nat_eq name x ≡ true) (sym (same_bytes d.name name is)) (itself name))

    by_way : (defines name e.kind ≡ true) ⊎ (is_defined name es ≡ true) → (is_defined name es ≡ true → IsAmong name (all_placed defined es))
        → IsAmong name (option_to_list (placed defined e.kind) ++ all_placed defined es)
    by_way (inl is) rest = here e.kind is
    by_way (inr later) rest =
        list_any-append (pointwise nat_eq name) (option_to_list (placed defined e.kind)) (all_placed defined es)
        ∙ or-second (list_any (pointwise nat_eq name) (option_to_list (placed defined e.kind))) _ (rest later)

module _ (order : List (List ℕ)) (defined : List ℕ → Bool) (bodies : (name : List ℕ) → defined name ≡ true → IsOrdered order name) where
  external-placed : (k : RawExternalKind) → ((name : List ℕ) → IsAmong name (option_to_list (placed defined k)) → IsOrdered order name)
      → ExternalIsPlaced order k
  external-placed (external.Type s) there = tt
  external-placed (external.Typedef s names) there = tt
  external-placed (external.Objects s objects) there = tt
  external-placed (external.Definition s d body) there = inr (there d.name (or-first _ false (itself d.name)))
  external-placed (external.Function s d) there = by_tests (is_of_library d.name) (defined d.name) refl refl there
    where
      by_tests : (a b : Bool) → is_of_library d.name ≡ a → defined d.name ≡ b
          → ((name : List ℕ) → IsAmong name (option_to_list (cond (a || b) None (Some d.name))) → IsOrdered order name) → IsPlaced order d.name
      by_tests true b library has given = inl library
      by_tests false true library has given = inr (bodies d.name has)
      by_tests false false library has given = inr (given d.name (or-first _ false (itself d.name)))

  file-placed : (file : List RawExternal) → ((name : List ℕ) → IsAmong name (all_placed defined file) → IsOrdered order name)
      → FileIsPlaced order file
  file-placed [] there = tt
  file-placed (e ∷ es) there = (
    external-placed e.kind (λ name h.
        there name (list_any-append (pointwise nat_eq name) (option_to_list (placed defined e.kind)) (all_placed defined es)
        ∙ or-first _ (list_any (pointwise nat_eq name) (all_placed defined es)) h)),
    file-placed es (λ name h.
        there name (list_any-append (pointwise nat_eq name) (option_to_list (placed defined e.kind)) (all_placed defined es)
        ∙ or-second (list_any (pointwise nat_eq name) (option_to_list (placed defined e.kind))) _ h)),
  )

-- the functions of a file have indices in its order
pub order_of-placed : (file : List RawExternal) → FileIsPlaced (order_of file) file
order_of-placed file =
    let defined : List ℕ → Bool = λ name. is_defined name file in
    let there : (name : List ℕ) → IsAmong name (all_placed defined file) → IsOrdered (order_of file) name = λ name h.
    within name (order_of file) (all-added name [] (all_placed defined file) h) in
    file-placed (order_of file) defined (λ name has. there name (defined-placed defined name file has)) file there
