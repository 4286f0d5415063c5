-- Cuts that are listed in order: for the contract of `listed`.
use Rattle.std.proofs.Common.{◌≡◌, ◌≢◌, inl, inr, ℕ, ◌+◌, ◌<◌, ◌≤◌, List, [], ◌∷◌, ◌++◌, length, take, get_or, map}
use Rattle.std.proofs.Common.{Option, None, Some, refl, sym, ap, ◌∙◌, subst, append-nil, arith}
use Rattle.std.specs.Prelude.{All, Contains, MatchOption}
use Rattle.std.proofs.lemmas.List.{map-append, take_more, take_all}
use Rattle.std.proofs.lemmas.List.Elements.{All-nil, All-cons, All-push, All-map, All-contains, All-contains_itself, All-weaker}
use Rattle.std.proofs.lemmas.List.Elements.{Contains-append_left, Contains-append_right, Contains-append_cases}
use Rattle.std.specs.List.{AllByRecursion}
use Rattle.std.specs.List.Sorted.{IsStrictlySortedBy}
use Rattle.std.specs.Map.{keys_of}
use Rattle.std.specs.declared.cmp.Ordering.TheVariants.{Less}
use Rattle.cs_ast.specs.declared.place.Place.{Place}
use Rattle.cs_results.specs.declared.result.Cut.{Cut}
use Rattle.cs_results.specs.declared.result.Cut.TheVariants.{Nodes, Splits}
use Rattle.cs_findings.specs.GoodEntries.{cut_key, cut_order, AreCutsListed}
use Rattle.cs_suspects.specs.Spots.{Spot, place_of, spot_order, cut_of_access, cut_of_nodes, IsNodes, IsSplits, HasNodesOf}

-- the key of an access with a number of offsets
abbrev entry_key : Spot × ℕ → ℕ × Place
entry_key entry = cut_key (cut_of_access entry)

-- accesses after a spot are listed after it
all_after : (spot : Spot) (entries : List (Spot × ℕ)) → AllByRecursion (λ y. spot_order spot y ≡ Less) (keys_of entries)
    → AllByRecursion (λ y. cut_order (1, place_of spot) y ≡ Less) (map entry_key entries)
all_after spot [] after = tt
all_after spot (entry ∷ entries) after = (after.0, all_after spot entries after.1)

splits_sorted : (entries : List (Spot × ℕ)) → IsStrictlySortedBy spot_order (keys_of entries)
    → IsStrictlySortedBy cut_order (map entry_key entries)
unfolding IsStrictlySortedBy
splits_sorted [] sorted = tt
splits_sorted (entry ∷ entries) sorted = (all_after entry.0 entries sorted.0, splits_sorted entries sorted.1)

-- all accesses are listed after the nodes
after_nodes : (place : Place) (entries : List (Spot × ℕ)) → AllByRecursion (λ y. cut_order (0, place) y ≡ Less) (map entry_key entries)
after_nodes place [] = tt
after_nodes place (entry ∷ entries) = (refl, after_nodes place entries)

nodes_first : (place : Place) (entries : List (Spot × ℕ)) → IsStrictlySortedBy spot_order (keys_of entries)
    → IsStrictlySortedBy cut_order ((0, place) ∷ map entry_key entries)
unfolding IsStrictlySortedBy
nodes_first place entries sorted = (after_nodes place entries, splits_sorted entries sorted)

keys_sorted : (nodes : Option ℕ) (entries : List (Spot × ℕ)) → IsStrictlySortedBy spot_order (keys_of entries)
    → IsStrictlySortedBy cut_order (map cut_key (cut_of_nodes nodes) ++ map entry_key entries)
keys_sorted None entries sorted = splits_sorted entries sorted
keys_sorted (Some nodes) entries sorted = nodes_first _ entries sorted

-- the cuts of accesses have these keys
access_keys : (entries : List (Spot × ℕ)) → map cut_key (map cut_of_access entries) ≡ map entry_key entries
access_keys [] = refl
access_keys (entry ∷ entries) = ap (λ (keys : List (ℕ × Place)). entry_key entry ∷ keys) (access_keys entries)

pub are_listed : (nodes : Option ℕ) (before after : List Cut) (entries : List (Spot × ℕ)) → before ≡ cut_of_nodes nodes
    → after ≡ before ++ map cut_of_access entries → IsStrictlySortedBy spot_order (keys_of entries)
    → AreCutsListed after
are_listed nodes before after entries first all sorted =
    let keys : map cut_key after ≡ map cut_key before ++ map entry_key entries
    = ap (map cut_key) all ∙ map-append cut_key before (map cut_of_access entries) ∙ ap (λ keys. map cut_key before ++ keys) (access_keys entries) in
    subst (IsStrictlySortedBy cut_order) (sym (keys ∙ ap (λ cuts. map cut_key cuts ++ map entry_key entries) first)) (keys_sorted nodes entries sorted)

-- a listed cut of the nodes is the one that was found
is_found : (nodes : Option ℕ) (cuts : List Cut) → MatchOption nodes (All IsSplits cuts) (λ found. Contains cuts (Nodes found)) → (listed : ℕ)
    → Contains (cut_of_nodes nodes) (Nodes listed) → Contains cuts (Nodes listed)
is_found None cuts found listed (place, within, at) = absurd (omega (arith, within))
is_found (Some nodes) cuts found listed among =
    let same = All-contains (λ (cut : Cut). cut ≡ Nodes nodes) (Nodes nodes ∷ []) (Nodes listed)
    (All-cons (λ (cut : Cut). cut ≡ Nodes nodes) (Nodes nodes) [] refl (All-nil (λ (cut : Cut). cut ≡ Nodes nodes))) among in
    subst (Contains cuts) (sym same) found

pub has_nodes_of : (nodes : Option ℕ) (cuts before after : List Cut) (entries : List (Spot × ℕ)) → before ≡ cut_of_nodes nodes
    → after ≡ before ++ map cut_of_access entries → MatchOption nodes (All IsSplits cuts) (λ found. Contains cuts (Nodes found)) → HasNodesOf cuts after
has_nodes_of nodes cuts before after entries first all found listed among =
    elim (Contains-append_cases before (map cut_of_access entries) (Nodes listed) (subst (λ (l : List Cut). Contains l (Nodes listed)) all among)) [
      | inl early ↦ is_found nodes cuts found listed (subst (λ (l : List Cut). Contains l (Nodes listed)) first early)
      | inr late ↦ absurd (All-contains (λ (cut : Cut). cut ≢ Nodes listed) (map cut_of_access entries) (Nodes listed) accesses late refl)
    ]
  where
    no_access : (entry : Spot × ℕ) → cut_of_access entry ≢ Nodes listed
    no_access entry same = cc

    accesses : All (λ (cut : Cut). cut ≢ Nodes listed) (map cut_of_access entries)
    accesses = All-map (λ (cut : Cut). cut ≢ Nodes listed) cut_of_access entries (λ place default inside. no_access (get_or entries place default))

-- ---- if nothing is listed

-- a cut is of one of the two kinds
neither : (cut : Cut) → IsSplits cut → IsNodes cut → ⊥
neither (Nodes nodes) splits nodes_too = splits
neither (Splits place count) splits nodes = nodes

no_cuts : (cuts : List Cut) → All IsSplits cuts → All IsNodes cuts → cuts ≡ []
no_cuts [] splits nodes = refl
no_cuts (cut ∷ cuts) splits nodes = absurd (neither cut (splits 0 cut (omega arith)) (nodes 0 cut (omega arith)))

pub nothing_cut : (nodes : Option ℕ) (cuts before after : List Cut) (entries : List (Spot × ℕ)) → before ≡ cut_of_nodes nodes
    → after ≡ before ++ map cut_of_access entries → MatchOption nodes (All IsSplits cuts) (λ found. Contains cuts (Nodes found))
    → (entries ≡ [] → All IsNodes cuts) → after ≡ [] → cuts ≡ []
nothing_cut None cuts before after [] first all found none nothing = no_cuts cuts found (none refl)
nothing_cut None cuts before after (entry ∷ entries) first all found none nothing =
    let listed : cut_of_access entry ∷ map cut_of_access entries ≡ [] =
    sym (all ∙ ap (λ (l : List Cut). l ++ map cut_of_access (entry ∷ entries)) first) ∙ nothing in
    absurd (cc)
nothing_cut (Some nodes) cuts before after entries first all found none nothing =
    let listed : Nodes nodes ∷ map cut_of_access entries ≡ [] = sym (all ∙ ap (λ (l : List Cut). l ++ map cut_of_access entries) first) ∙ nothing in
    absurd (cc)

-- if no access was cut, none is listed
pub nodes_alone : (nodes : Option ℕ) (cuts before after : List Cut) (entries : List (Spot × ℕ)) → before ≡ cut_of_nodes nodes
    → after ≡ before ++ map cut_of_access entries → (All IsNodes cuts → entries ≡ []) → All IsNodes cuts → All IsNodes after
nodes_alone nodes cuts before after entries first all none alone =
    let listed : after ≡ cut_of_nodes nodes =
    all ∙ ap (λ (l : List (Spot × ℕ)). before ++ map cut_of_access l) (none alone) ∙ append-nil before ∙ first in
    subst (All IsNodes) (sym listed) (of_nodes nodes)
  where
    of_nodes : (nodes : Option ℕ) → All IsNodes (cut_of_nodes nodes)
    of_nodes None = All-nil IsNodes
    of_nodes (Some nodes) = All-cons IsNodes (Nodes nodes) [] tt (All-nil IsNodes)

-- the cuts before one more are of its kind, and that one is
pub kind_before : (P : Cut → Type 0) (cuts : List Cut) (k : ℕ) (default : Cut) → k < length cuts → All P (take (k + 1) cuts) → All P (take k cuts)
kind_before P cuts k default within all =
    All-weaker (Contains (take k cuts)) P
    (λ cut among. All-contains P (take k cuts ++ get_or cuts k default ∷ []) cut (subst (All P) (take_more cuts k default within) all)
    (Contains-append_left (take k cuts) (get_or cuts k default ∷ []) cut among))
    (take k cuts) (All-contains_itself (take k cuts))

pub kind_last : (P : Cut → Type 0) (cuts : List Cut) (k : ℕ) (default : Cut) → k < length cuts → All P (take (k + 1) cuts) → P (get_or cuts k default)
kind_last P cuts k default within all =
    All-contains P (take k cuts ++ get_or cuts k default ∷ []) (get_or cuts k default) (subst (All P) (take_more cuts k default within) all)
    (Contains-append_right (take k cuts) (get_or cuts k default ∷ []) (get_or cuts k default) (0, omega arith, refl))

-- one more cut is of the kind
pub kind_more : (P : Cut → Type 0) (cuts : List Cut) (k : ℕ) (default : Cut) → k < length cuts → P (get_or cuts k default) → All P (take k cuts)
    → All P (take (k + 1) cuts)
kind_more P cuts k default within is earlier =
    subst (All P) (sym (take_more cuts k default within)) (All-push P (take k cuts) (get_or cuts k default) earlier is)

pub kind_all : (P : Cut → Type 0) (cuts : List Cut) (k : ℕ) → length cuts ≤ k → All P (take k cuts) → All P cuts
kind_all P cuts k past all = subst (All P) (take_all k cuts past) all
