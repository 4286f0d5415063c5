-- Codes of declarations, as numbers and as sums of types, with which a proof distinguishes them.
use Rattle.std.specs.Prelude.{◌≡◌, ◌⊎◌, ℕ, zero, suc, ℤ, List, refl}
use Rattle.std.proofs.Common.{inl, inr}
use Rattle.std.specs.Coded.{Coded, code_by, coded×, coded⊎, coded_ℕ, coded_ℤ, coded_list}
use Rattle.cs_types.specs.Shape.{Shape}
use Rattle.cs_types.specs.Codes.{shape_code}
use Rattle.cs_scopes.specs.declared.scope.Callee.{Callee}
use Rattle.cs_scopes.specs.declared.scope.Callee.TheVariants as callee
use Rattle.cs_scopes.specs.Meanings.{Signature, Meaning, Typedef, Constant, Global, Local, Function, Declaration}

abbrev pub callee_number : Callee → ℕ
callee_number callee.Malloc = 0
callee_number callee.Calloc = 1
callee_number callee.Free = 2
callee_number (callee.Numbered number) = suc (suc (suc number))

abbrev pub callee_by : ℕ → Callee
callee_by zero = callee.Malloc
callee_by (suc zero) = callee.Calloc
callee_by (suc (suc zero)) = callee.Free
callee_by (suc (suc (suc number))) = callee.Numbered number

pub callee_back : (c : Callee) → callee_by (callee_number c) ≡ c
callee_back callee.Malloc = refl
callee_back callee.Calloc = refl
callee_back callee.Free = refl
callee_back (callee.Numbered number) = refl

abbrev pub callee_code : Coded Callee
callee_code = code_by ℕ coded_ℕ callee_number callee_by callee_back

abbrev pub signature_code : Coded Signature
signature_code =
    code_by (Callee × (Shape × List Shape)) (coded× callee_code (coded× shape_code (coded_list shape_code))) (λ s. (s.callee, (s.result, s.parameters)))
    (λ p. record { callee = p.0; result = p.1.0; parameters = p.1.1 }) (λ _. refl)

-- a meaning as one of a sum of five
abbrev pub Parts : Type 0
Parts = Shape ⊎ (ℤ ⊎ ((ℕ × Shape) ⊎ ((ℕ × Shape) ⊎ Signature)))

abbrev pub parts_of : Meaning → Parts
parts_of (Typedef ty) = inl ty
parts_of (Constant value) = inr (inl value)
parts_of (Global number ty) = inr (inr (inl (number, ty)))
parts_of (Local number ty) = inr (inr (inr (inl (number, ty))))
parts_of (Function signature) = inr (inr (inr (inr signature)))

abbrev pub made_of : Parts → Meaning
made_of (inl ty) = Typedef ty
made_of (inr (inl value)) = Constant value
made_of (inr (inr (inl object))) = Global object.0 object.1
made_of (inr (inr (inr (inl object)))) = Local object.0 object.1
made_of (inr (inr (inr (inr signature)))) = Function signature

pub meaning_back : (m : Meaning) → made_of (parts_of m) ≡ m
meaning_back (Typedef ty) = refl
meaning_back (Constant value) = refl
meaning_back (Global number ty) = refl
meaning_back (Local number ty) = refl
meaning_back (Function signature) = refl

abbrev pub meaning_code : Coded Meaning
meaning_code =
    code_by Parts
    (coded⊎ shape_code (coded⊎ coded_ℤ (coded⊎ (coded× coded_ℕ shape_code) (coded⊎ (coded× coded_ℕ shape_code) signature_code))))
    parts_of made_of meaning_back

abbrev pub declaration_code : Coded Declaration
declaration_code =
    code_by (List ℕ × Meaning) (coded× (coded_list coded_ℕ) meaning_code) (λ d. (d.name, d.meaning)) (λ p. record { name = p.0; meaning = p.1 })
    (λ _. refl)

abbrev pub declarations_code : Coded (List Declaration)
declarations_code = coded_list declaration_code
