-- Written constants that some type of their lists can represent (C11 6.4.4, paragraph 2).
use Rattle.std.specs.Prelude.{FitsSigned}
use Rattle.std.specs.Int.{w32}
use Rattle.cs_ast.specs.HeldTokens.{IsHeldConstant}
use Rattle.cs_ast.specs.RawTree.{Written, WrittenList, Named, Numeral, Character, Literal, Enclosed, Index, Call, Member, Arrow, StepAfter, StepBefore, Prefix}
use Rattle.cs_ast.specs.RawTree.{SizeOf, SizeOfType, Cast, Infix, Choice, Assign, Comma, End, More}
use Rattle.cs_ast.specs.RawDeclarations.{Initial, Single, Listed, Initials, NoItem, MoreItems}

abbrev mutual
  -- the integer constants of an expression are not too large, and its characters are numbers of `int`
  pub HasConstants : Written → Type 0
  HasConstants (Numeral constant) = IsHeldConstant constant
  HasConstants (Character value) = FitsSigned w32 value
  HasConstants (Named name) = Unit {0}
  HasConstants (Literal bytes) = Unit {0}
  HasConstants (Enclosed inner) = HasConstants inner
  HasConstants (Index array number) = HasConstants array × HasConstants number
  HasConstants (Call function arguments) = HasConstants function × HaveConstants arguments
  HasConstants (Member object name) = HasConstants object
  HasConstants (Arrow e name) = HasConstants e
  HasConstants (StepAfter step object) = HasConstants object
  HasConstants (StepBefore step object) = HasConstants object
  HasConstants (Prefix operator e) = HasConstants e
  HasConstants (SizeOf e) = HasConstants e
  HasConstants (SizeOfType words pointers bounds) = HaveConstants bounds
  HasConstants (Cast words pointers bounds e) = HaveConstants bounds × HasConstants e
  HasConstants (Infix operator left right) = HasConstants left × HasConstants right
  HasConstants (Choice test one other) = HasConstants test × HasConstants one × HasConstants other
  HasConstants (Assign operator object value) = HasConstants object × HasConstants value
  HasConstants (Comma first second) = HasConstants first × HasConstants second

  -- the same for a list of expressions
  pub HaveConstants : WrittenList → Type 0
  HaveConstants End = Unit {0}
  HaveConstants (More first others) = HasConstants first × HaveConstants others

abbrev mutual
  -- the same for the values of an initializer
  pub InitialHasConstants : Initial → Type 0
  InitialHasConstants (Single e) = HasConstants e
  InitialHasConstants (Listed items comma) = InitialsHaveConstants items

  pub InitialsHaveConstants : Initials → Type 0
  InitialsHaveConstants NoItem = Unit {0}
  InitialsHaveConstants (MoreItems first others) = InitialHasConstants first × InitialsHaveConstants others
