-- The inspection of a value shows whether it is null: for the contracts of `shown_by` and `look`.
use Rattle.std.proofs.Common.{◌≡◌, ◌≢◌, ℕ, ℤ, Bool, true, false, List, [], ◌∷◌, Option, None, Some, if◌then◌else◌, refl, sym, ap}
use Rattle.std.proofs.Common.{◌∙◌, subst, arith}
use Rattle.std.proofs.lemmas.Int.{ints}
use Rattle.std.proofs.Common.{Result, Ok, Err}
use Rattle.std.specs.Result.{IsErr, IsErrAnd, IfErr}
use Rattle.cs_inputs.specs.declared.path.Path.{Path}
use Rattle.cs_ast.specs.declared.place.Place.{Place}
use Rattle.cs_terms.specs.Term.{Valuation, value_of}
use Rattle.cs_events.specs.declared.event.Label.{Label}
use Rattle.cs_events.specs.declared.event.Label.TheVariants as label
use Rattle.cs_events.specs.declared.input.InputKind.{InputKind}
use Rattle.cs_events.specs.Operations.{is_true}
use Rattle.cs_events.specs.Objects.{Cell, NullCell}
use Rattle.cs_events.specs.Acts.{Act}
use Rattle.cs_event_runs.specs.Left.{left_of}
use Rattle.cs_meaning.specs.Access as access
use Rattle.cs_cfg.specs.Working.{CodeState}
use Rattle.cs_regions.specs.declared.base.Base.{Base}
use Rattle.cs_eval.specs.Guesses.{symbol_term}
use Rattle.cs_state.specs.declared.block.Block.{Block}
use Rattle.cs_state.specs.Cells.{Blocks, block_of, is_there, pointer_to}
use Rattle.cs_progress.specs.Acting.{UsesAll, Leads}

-- a pointer into a named base region isn't null
pub look_inside : (base : Option Base) (offset : ℤ) (at : Place) (act : Act CodeState) → base ≢ None
    → access.look at (pointer_to base offset) act ≡ access.shows_then at (label.Look true) act
look_inside None offset at act named = absurd (named refl)
look_inside (Some base) offset at act named = refl

-- a start block is null exactly if it doesn't exist
look_start : (there : Bool) (base : Option Base) (offset : ℤ) (at : Place) (act : Act CodeState) → base ≢ None
    → access.look at (if there then pointer_to base offset else NullCell) act ≡ access.shows_then at (label.Look there) act
look_start true base offset at act named = look_inside base offset at act named
look_start false base offset at act named = refl

pub look_block : (blocks : Blocks) (number : ℕ) (block : Block) (base : Option Base) (offset : ℤ) (at : Place) (act : Act CodeState) (v : Valuation)
    → block_of blocks number ≡ Some block → base ≢ None
    → access.look at (if is_there v (block_of blocks number) then pointer_to base offset else NullCell) act
    ≡ access.shows_then at (label.Look (is_true (value_of v (symbol_term block.sym)))) act
look_block blocks number block base offset at act v there named =
    look_start (is_there v (block_of blocks number)) base offset at act named
    ∙ ap (λ b. access.shows_then at (label.Look b) act)
    (ap (λ (found : Option Block). is_there v found) there ∙ ap is_true itself)
  where
    itself : v block.sym.0 ≡ value_of v (symbol_term block.sym)
    itself = omega (arith, ints)

module _ (cells : Path → InputKind → Cell) where
  -- an act without an event
  pub leads_same : (answers : List ℤ) (one act : Act CodeState) → one ≡ act → Leads cells answers answers one act
  leads_same answers one act same uses = (ap (left_of cells answers) same, subst (UsesAll cells answers) same uses)

  -- the event is answered by the next answer
  pub leads_shown : (before after : List ℤ) (number : ℤ) (at : Place) (what : Label) (one act : Act CodeState)
      → one ≡ access.shows_then at what act → before ≡ number ∷ after → Leads cells before after one act
  unfolding left_of UsesAll
  leads_shown before after number at what one act same next uses = (
    (λ i. left_of cells (next i) (same i)),
    subst (λ answers. UsesAll cells answers (access.shows_then at what act)) next
        (subst (UsesAll cells before) same uses),
  )

  -- the event comes first if no answer remains
  pub stands_first : (answers : List ℤ) (at : Place) (what : Label) (one act : Act CodeState) → one ≡ access.shows_then at what act
      → answers ≡ [] → left_of cells answers one ≡ access.shows_then at what act
  unfolding left_of
  stands_first answers at what one act same none = λ i. left_of cells (none i) (same i)

-- an error that is returned
pub err_given : {T E : Type 0} (r : Result T E) (given : E) (Q : E → Type 0) → IsErr r × IsErrAnd r (λ e. e ≡ given) → Q given → IfErr r Q
err_given (Ok x) given Q h q = tt
err_given (Err e) given Q h q = subst Q (sym h.1) q
