-- How the order test of `calloc` is followed.
use Rattle.std.specs.Prelude.{◌≡◌, ◌⊎◌, ◌^◌, ◌-◌, Bool, ℤ, pos, ◌*ℤ◌, int_le, Some}
use Rattle.cs_types.specs.declared.data_model.DataModel.{DataModel}
use Rattle.cs_types.specs.DataModel.{product_bound_of}
use Rattle.cs_ast.specs.declared.typed.operator.CmpOp.{CmpOp}
use Rattle.cs_terms.specs.declared.symbol.Sym.{Sym}
use Rattle.cs_terms.specs.declared.term.Lin.{Lin}
use Rattle.cs_terms.specs.Term.{Valuation, value_of}
use Rattle.cs_constraints.specs.Constraints.{Sets, Fits}
use Rattle.cs_events.specs.Operations.{compares}
use Rattle.cs_eval.specs.declared.truths.Followed.{Followed}
use Rattle.cs_eval.specs.declared.truths.Followed.TheVariants.{Where, Always as AlwaysIs, No}
use Rattle.cs_eval.specs.Followed.{IsProductDecided}
use Rattle.cs_eval.specs.Operands.{IsFixed, IsTermBetween, IsTermInside}

-- a term whose values are integers of C that aren't below 0
abbrev pub IsTermOfCounts : Sets → Lin → Type 0
IsTermOfCounts sets term = IsTermBetween sets (pos 0) (pos (2 ^ 64 - 1)) term

-- whether the product of a count and a size is within the bound
abbrev pub is_few : DataModel → ℤ → ℤ → Bool
is_few model count size = int_le (count *ℤ size) (pos (product_bound_of model))

-- a comparison of another term with 0 determines whether a term's product with a factor is within the bound
pub record IsFewWhere (model : DataModel) (sets : Sets) (term : Lin) (factor : ℤ) (op : CmpOp) (by : Lin) : Type 0 where
  pub inside : IsTermInside sets by
  pub truth : (v : Valuation) → Fits v sets → is_few model (value_of v term) factor ≡ compares op (value_of v by) (pos 0)
  pub symbol : (s : Sym) → by.sym ≡ Some s → term.sym ≡ Some s

-- how it is followed whether a term's product with a factor is within the bound
abbrev pub IsFollowedByFactor : DataModel → Sets → Lin → ℤ → Followed → Type 0
IsFollowedByFactor model sets term factor (Where op by) = IsFewWhere model sets term factor op by
IsFollowedByFactor model sets term factor (AlwaysIs holds) = (v : Valuation) → Fits v sets → is_few model (value_of v term) factor ≡ holds
IsFollowedByFactor model sets term factor No = ⊥

-- how the ends of both factors decide it
abbrev pub IsFollowedByEnds : DataModel → Sets → Lin → Lin → Followed → Type 0
IsFollowedByEnds model sets count size (Where op by) = ⊥
IsFollowedByEnds model sets count size (AlwaysIs holds) =
    (v w : Valuation) → Fits v sets → Fits w sets → is_few model (value_of v count) (value_of w size) ≡ holds
IsFollowedByEnds model sets count size No = (v : Valuation) → Fits v sets → ¬ IsProductDecided model sets count size

-- one factor is a constant, and a comparison of one term with 0 determines whether the product is within the bound
pub record IsProductWhere (model : DataModel) (sets : Sets) (count size : Lin) (op : CmpOp) (by : Lin) : Type 0 where
  pub fixed : IsFixed sets count ⊎ IsFixed sets size
  pub inside : IsTermInside sets by
  pub truth : (v : Valuation) → Fits v sets → is_few model (value_of v count) (value_of v size) ≡ compares op (value_of v by) (pos 0)
  pub symbol : (s : Sym) → by.sym ≡ Some s → (count.sym ≡ Some s) ⊎ (size.sym ≡ Some s)

-- one factor is a constant, or the ends decide
abbrev pub IsFollowedProduct : DataModel → Sets → Lin → Lin → Type 0
IsFollowedProduct model sets count size = IsFixed sets count ⊎ (IsFixed sets size ⊎ IsProductDecided model sets count size)

-- how it is followed whether a product is within the bound
abbrev pub IsFollowedByProduct : DataModel → Sets → Lin → Lin → Followed → Type 0
IsFollowedByProduct model sets count size (Where op by) = IsProductWhere model sets count size op by
IsFollowedByProduct model sets count size (AlwaysIs holds) =
    ((v : Valuation) → Fits v sets → is_few model (value_of v count) (value_of v size) ≡ holds) × IsFollowedProduct model sets count size
IsFollowedByProduct model sets count size No = (v : Valuation) → Fits v sets → ¬ IsFollowedProduct model sets count size
