-- A run reaches a child, and a row with an equal live part, under its own numbers of what is mentioned: for `CoversOwn`.
use Rattle.std.proofs.Common.{◌≡◌, ◌≢◌, inl, inr, ℕ, suc, ℤ, pos, Bool, true, false, List, [], ◌∷◌, ◌++◌, Option, None}
use Rattle.std.proofs.Common.{Some, length, slice_get, refl}
use Rattle.std.proofs.Common.{sym, ap, ◌∙◌, subst}
use Rattle.std.specs.Prelude.{◌||◌, nat_eq, option_map, unwrap_or}
use Rattle.std.specs.FinMap as finite
use Rattle.std.proofs.lemmas.List.Elements.{All-weaker}
use Rattle.std.proofs.lemmas.Bool.{eq-eqb}
use Rattle.std.proofs.lemmas.Bool.Decides.{eqb_tells, Decides-int_eq}
use Rattle.cs_inputs.specs.declared.path.Path.{Path}
use Rattle.cs_ast.specs.TypedProgram.{TypedProgram}
use Rattle.cs_terms.specs.declared.symbol.Sym.{Sym}
use Rattle.cs_terms.specs.declared.symbol.SymName.TheVariants.{Guess as GuessAt}
use Rattle.cs_terms.specs.Term.{Valuation}
use Rattle.cs_constraints.specs.Constraints.{set_of, Fits}
use Rattle.cs_events.specs.declared.guess.Guess.{Guess}
use Rattle.cs_events.specs.declared.outcome.RunBudgets.{RunBudgets}
use Rattle.cs_events.specs.Runs.{Log, guess_at}
use Rattle.cs_event_runs.specs.First.{Step}
use Rattle.cs_regions.specs.declared.base.Base.{Base}
use Rattle.cs_cfg.specs.Graph.{Code}
use Rattle.cs_state.specs.declared.block.Block.{Block}
use Rattle.cs_state.specs.declared.state.State.{State}
use Rattle.cs_state.specs.Cells.{Blocks}
use Rattle.cs_state.specs.Naming.{Naming}
use Rattle.cs_explored.specs.declared.child.Child.{Child}
use Rattle.cs_keys.specs.Live.{live_part}
use Rattle.cs_progress.specs.Locals.{HasLocalsAlone}
use Rattle.cs_successors.specs.EntryRuns.{setting_with}
use Rattle.cs_successors.specs.Coming.{Includes, MentionsGuess}
use Rattle.cs_coverage.specs.Agreeing.{agreeing, IsBlockOver, AreBlocksOver, AgreesOnMentioned}
use Rattle.cs_coverage.specs.OwnNumbers.{received_by, own_valuation, number_of, answer_at}
use Rattle.cs_coverage.proofs.AllEntries.{all_entries}
use Rattle.cs_coverage.proofs.Mentioned.{blocks_mentioned, mentioned_alike}
use Rattle.cs_coverage.proofs.Merging.{SaysAll}
use Rattle.cs_coverage.proofs.Patched.{patched, patched_agrees}

-- the item after the first part of a list
item_after : {A : Type 0} (xs : List A) (x : A) (ys : List A) → slice_get (xs ++ x ∷ ys) (length xs) ≡ Some x
item_after [] x ys = refl
item_after (y ∷ xs) x ys = item_after xs x ys

-- a run's number for a guess is the listed one, or else the number with which the run continues after the event
pub gives_own : (program : TypedProgram) (entry : ℕ) (budgets : RunBudgets) (names : Naming) (inputs : Path → ℤ) (guesses : List Guess) (all : List Step)
    (last : Log) (event : ℕ) (symbol : Sym) → slice_get names.syms symbol.0 ≡ Some (GuessAt event) → (earlier more : List Step) (one : Step)
    → all ≡ earlier ++ one ∷ more → event ≡ suc (length earlier)
    → own_valuation program entry names (setting_with program budgets inputs guesses) all last symbol.0 ≡ unwrap_or (guess_at guesses event) one.answer
gives_own program entry budgets names inputs guesses all last event symbol named earlier more one is count =
    let passes_one : answer_at all (suc (length earlier)) ≡ one.answer =
    ap (λ (steps : List Step). unwrap_or (option_map (λ (it : Step). it.answer) (slice_get steps (length earlier))) (pos 0)) is
    ∙ ap (λ (found : Option Step). unwrap_or (option_map (λ (it : Step). it.answer) found) (pos 0)) (item_after earlier one more) in
    ap (λ o. unwrap_or (option_map (number_of (setting_with program budgets inputs guesses) (received_by program entry ++ last.read) all) o) (pos 0)) named
    ∙ ap (unwrap_or (guess_at guesses event)) (ap (answer_at all) count ∙ passes_one)

-- the known symbols, and that of a guess
abbrev known_with : (ℕ → Bool) → Option Sym → ℕ → Bool
known_with known None symbol = known symbol
known_with known (Some guess) symbol = known symbol || nat_eq symbol guess.0

or_left : (a b : Bool) → a ≡ true → (a || b) ≡ true
or_left a b is = ap (λ (t : Bool). t || b) is

or_right : (a b : Bool) → b ≡ true → (a || b) ≡ true
or_right true b is = refl
or_right false b is = is

includes : (known : ℕ → Bool) (guess : Option Sym) → Includes known (known_with known guess)
includes known None symbol is = is
includes known (Some guess) symbol is = or_left (known symbol) (nat_eq symbol guess.0) is

has_guess : (known : ℕ → Bool) (guess : Option Sym) (symbol : Sym) → guess ≡ Some symbol → known_with known guess symbol.0 ≡ true
has_guess known None symbol is = cc
has_guess known (Some guess) symbol is =
    let same : symbol.0 ≡ guess.0 = cc in
    or_right (known symbol.0) (nat_eq symbol.0 guess.0) (eq-eqb symbol.0 guess.0 same)

-- blocks over known symbols are blocks over more symbols
blocks_more : (known more : ℕ → Bool) → ((symbol : ℕ) → known symbol ≡ true → more symbol ≡ true) → (blocks : Blocks)
    → AreBlocksOver known blocks → AreBlocksOver more blocks
blocks_more known more includes blocks =
    All-weaker (λ (entry : (ℕ × ℕ) × Block). IsBlockOver known entry.1) (λ (entry : (ℕ × ℕ) × Block). IsBlockOver more entry.1)
    (λ entry is. (λ symbol over. includes symbol.0 (is.0 symbol over), includes entry.1.sym.0 is.1)) (finite.entries blocks)

-- a valuation agrees with itself on all blocks
pub blocks_themselves : (valuation : Valuation) (blocks : Blocks) → AreBlocksOver (agreeing valuation valuation) blocks
blocks_themselves valuation blocks =
    all_entries (λ key block. IsBlockOver (agreeing valuation valuation) block) blocks
    (λ key block is. (λ symbol over. equal symbol.0, equal block.sym.0))
  where
    equal : (symbol : ℕ) → agreeing valuation valuation symbol ≡ true
    equal symbol = (Decides-int_eq (valuation symbol) (valuation symbol)).1 refl

-- a child's valuation agrees, if it differs only at the guess symbol and has the run's own number there
pub child_agrees : (code : Code) (program : TypedProgram) (budgets : RunBudgets) (names : Naming) (before : State) (child : Child)
    → MentionsGuess code program budgets names before child → child.state.value.blocks ≡ before.blocks → (own valuation after : Valuation)
    → AgreesOnMentioned program names.bases before own valuation
    → ((symbol : Sym) → child.guess ≢ Some symbol → after symbol.0 ≡ valuation symbol.0)
    → ((symbol : Sym) → child.guess ≡ Some symbol → after symbol.0 ≡ own symbol.0)
    → AgreesOnMentioned program names.bases child.state.value own after
child_agrees code program budgets names before child mentions same_blocks own valuation after agrees others guess = record {
  known = known_with agrees.known child.guess;
  mentions = mentions agrees.known (known_with agrees.known child.guess) agrees.mentions (includes agrees.known child.guess)
      (has_guess agrees.known child.guess);
  agrees = λ symbol. by child.guess refl symbol;
  blocks = subst (AreBlocksOver (agreeing own after)) (sym same_blocks) (blocks_more (agreeing own valuation) (agreeing own after) still before.blocks
      agrees.blocks);
}
  where
    -- a symbol that agreed before still agrees
    still : (symbol : ℕ) → agreeing own valuation symbol ≡ true → agreeing own after symbol ≡ true
    still symbol is = (Decides-int_eq (after symbol) (own symbol)).1 (by_guess child.guess refl)
      where
        by_guess : (given : Option Sym) → child.guess ≡ given → after symbol ≡ own symbol
        by_guess None none =
            others (record { 0 = symbol }) (λ some. let wrong : None ≡ Some (record { 0 = symbol }) = sym none ∙ some in cc)
            ∙ (Decides-int_eq (valuation symbol) (own symbol)).0 is
        by_guess (Some one) some = elim (eqb_tells symbol one.0) [
          | inl same ↦ subst (λ (s : ℕ). after s ≡ own s) (sym same.1) (guess one some)
          | inr apart ↦
              others (record { 0 = symbol }) (λ that.
              let both : one ≡ record { 0 = symbol } = cc in
              apart.1 (sym (ap (λ (s : Sym). s.0) both)))
              ∙ (Decides-int_eq (valuation symbol) (own symbol)).0 is
        ]

    by : (given : Option Sym) → child.guess ≡ given → (symbol : ℕ) → known_with agrees.known given symbol ≡ true → after symbol ≡ own symbol
    by None none symbol is =
        others (record { 0 = symbol }) (λ some. let wrong : None ≡ Some (record { 0 = symbol }) = sym none ∙ some in cc) ∙ agrees.agrees symbol is
    by (Some one) some symbol is = elim (eqb_tells symbol one.0) [
      | inl same ↦ subst (λ (s : ℕ). after s ≡ own s) (sym same.1) (guess one some)
      | inr apart ↦
          others (record { 0 = symbol }) (λ that.
          let both : one ≡ record { 0 = symbol } = cc in
          apart.1 (sym (ap (λ (s : Sym). s.0) both)))
          ∙ agrees.agrees symbol (known_left (agrees.known symbol) (nat_eq symbol one.0) is apart.0)
    ]
      where
        known_left : (a b : Bool) → (a || b) ≡ true → b ≡ false → a ≡ true
        known_left true b either not = refl
        known_left false b either not = let wrong : true ≡ false = sym either ∙ not in cc

-- and so does the corresponding valuation of a state with an equal live part
pub merged_agrees : (program : TypedProgram) (bases : List Base) (one two : State) → live_part one ≡ live_part two → SaysAll one → SaysAll two
    → (declared : ℕ → Bool) → HasLocalsAlone program bases declared two → (own valuation possible : Valuation) → Fits valuation one.constraints
    → AgreesOnMentioned program bases one own valuation
    → AgreesOnMentioned program bases two own (patched two.constraints valuation possible)
merged_agrees program bases one two same says tells declared has own valuation possible fits agrees = record {
  known = kept;
  mentions = mentioned_alike one two agrees.known kept (λ symbol is. still symbol (agrees.agrees symbol is)) program bases declared same says tells
      agrees.mentions has possible;
  agrees = λ symbol is. (Decides-int_eq (patched two.constraints valuation possible symbol) (own symbol)).0 is;
  blocks = blocks_mentioned one two (agreeing own valuation) kept
      (λ symbol is. still symbol ((Decides-int_eq (valuation symbol) (own symbol)).0 is)) same agrees.blocks;
}
  where
    kept : ℕ → Bool
    kept = agreeing own (patched two.constraints valuation possible)

    still : (symbol : ℕ) → valuation symbol ≡ own symbol → set_of one.constraints symbol ≡ set_of two.constraints symbol → kept symbol ≡ true
    still symbol is sets =
        (Decides-int_eq (patched two.constraints valuation possible symbol) (own symbol)).1
        (patched_agrees two.constraints one.constraints valuation possible fits symbol sets ∙ is)
