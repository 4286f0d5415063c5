-- Samples of runs that are grounds, and of some that aren't, computed.
use Rattle.std.proofs.Common.{◌≡◌, ℤ, pos, negsuc, true, false, refl}
use Rattle.cs_types.specs.declared.data_model.DataModel.TheVariants.{Lp64}
use Rattle.cs_types.specs.declared.int_type.IntType.TheVariants.{Int, ULong}
use Rattle.cs_ast.specs.declared.typed.operator.BinOp.TheVariants.{Add, Sub, Mul, Rem, And}
use Rattle.cs_ast.specs.declared.typed.operator.CmpOp.TheVariants as cmp
use Rattle.cs_events.specs.declared.operation.Operation.TheVariants.{Binary, Compare, Product}
use Rattle.cs_results.specs.declared.run.Others.TheVariants.{One, Two}
use Rattle.cs_findings.specs.Grounds.{has_ground}
use Rattle.cs_findings.specs.Narrower.{may_be_used, fits_left, fits_right}

-- the least and the greatest `int`
abbrev least : ℤ
least = negsuc 2147483647

abbrev greatest : ℤ
greatest = pos 2147483647

-- int f(int x,int y){if(x*y==7)return 1/(x-1);return 0;}: at x = 1, y = 0 the product is guessed as 7
product_is_guessed : has_ground Lp64 (Binary Mul Int (pos 1) (pos 0)) (One (least, least)) ≡ true
product_is_guessed = refl

product_may_be_7 : may_be_used Lp64 (Binary Mul Int (pos 1) (pos 0)) (pos 7) ≡ true
product_may_be_7 = refl

-- the test of x*y with 7 isn't guessed: its right side is the same in all runs
test_is_followed : has_ground Lp64 (Compare cmp.Equal (pos 0) (pos 7)) (Two (least, pos 7) (greatest, pos 7)) ≡ false
test_is_followed = refl

-- int f(int x,int y){if(x<y){if(y<x)return 1/0;}return 0;}: both tests are guessed at x = 0, y = 0, with the corners of the ranges
first_test_is_guessed : has_ground Lp64 (Compare cmp.Less (pos 0) (pos 0)) (Two (least, least) (least, greatest)) ≡ true
first_test_is_guessed = refl

second_test_is_guessed : has_ground Lp64 (Compare cmp.Less (pos 0) (pos 0)) (Two (least, least) (least, greatest)) ≡ true
second_test_is_guessed = refl

-- not with one corner, and not with two on the line x = y
not_with_one_corner : has_ground Lp64 (Compare cmp.Less (pos 0) (pos 0)) (One (least, greatest)) ≡ false
not_with_one_corner = refl

not_on_one_line : has_ground Lp64 (Compare cmp.Less (pos 0) (pos 0)) (Two (least, least) (greatest, greatest)) ≡ false
not_on_one_line = refl

-- int f(int x){if(x==0)return 0;return 10/x;}: the test isn't guessed, since 0 is the same in all runs; so no report is made up
division_is_not_assumed : has_ground Lp64 (Compare cmp.Equal (pos 1) (pos 0)) (Two (least, pos 0) (greatest, pos 0)) ≡ false
division_is_not_assumed = refl

-- a test that the ranges decide isn't guessed: its results don't differ
decided_is_not_guessed : has_ground Lp64 (Compare cmp.Less (pos 0) (pos 10)) (Two (pos 5, pos 20) (pos 1, pos 30)) ≡ false
decided_is_not_guessed = refl

-- x-x isn't guessed: its operands are on one line in all runs
difference_with_itself : has_ground Lp64 (Binary Sub Int (pos 0) (pos 0)) (Two (least, least) (greatest, greatest)) ≡ false
difference_with_itself = refl

-- sums of two `unsigned long` over their whole ranges are, and so is one with a far quotient
wide_sum_is_guessed : has_ground Lp64 (Binary Add ULong (pos 0) (pos 0)) (Two (pos 0, pos 18446744073709551615) (pos 18446744073709551615, pos 0)) ≡ true
wide_sum_is_guessed = refl

-- the order test of `calloc` on two free counts
calloc_is_guessed : has_ground Lp64 (Product (pos 0) (pos 0)) (One (pos 18446744073709551615, pos 18446744073709551615)) ≡ true
calloc_is_guessed = refl

calloc_is_decided : has_ground Lp64 (Product (pos 1) (pos 1)) (One (pos 2, pos 2)) ≡ false
calloc_is_decided = refl

-- a remainder by 10 is less than 10, and a number masked with 12 is from 0 to 12
remainder_is_small : fits_right (Binary Rem Int (pos 25) (pos 10)) (pos 10) ≡ false
remainder_is_small = refl

mask_is_met : fits_right (Binary And Int (pos 25) (pos 12)) (pos 13) ≡ false
mask_is_met = refl

mask_below_zero_says_nothing : fits_left (Binary And Int (negsuc 0) (pos 12)) (pos 13) ≡ true
mask_below_zero_says_nothing = refl
