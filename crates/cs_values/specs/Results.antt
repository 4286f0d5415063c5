-- Results of operations with the labels of their wrap quotients.
use Rattle.std.specs.Prelude.{◌≡◌, ℤ}
use Rattle.cs_types.specs.declared.data_model.DataModel.{DataModel}
use Rattle.cs_types.specs.declared.int_type.IntType.{IntType}
use Rattle.cs_types.specs.Wrap.{wrap_quotient, wrapped}
use Rattle.cs_events.specs.declared.operation.Operation.{Operation}
use Rattle.cs_events.specs.Operations.{own_result, own_quotient, wrap_of}
use Rattle.cs_values.specs.declared.arithmetic.Computed.{Computed}

-- an exact result, converted to a type
pub record IsConverted (model : DataModel) (ty : IntType) (exact : ℤ) (own : Computed) : Type 0 where
  pub number : own.number ≡ wrapped model ty exact
  pub wrap : own.wrap ≡ wrap_of (wrap_quotient model ty exact)

-- the own result of an operation
pub record IsOwn (model : DataModel) (operation : Operation) (own : Computed) : Type 0 where
  pub number : own.number ≡ own_result model operation
  pub wrap : own.wrap ≡ wrap_of (own_quotient model operation)
