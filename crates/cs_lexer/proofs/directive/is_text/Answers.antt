-- Whether bytes are valid UTF-8, as std decides it and as it is defined.
use Rattle.std.proofs.Common.{◌≡◌, ℕ, true, false, List, refl, sym}
use Rattle.std.specs.Str.{IsUtf8, is_utf8}
use Rattle.std.proofs.lemmas.Str.{IsUtf8-from_is_utf8, is_utf8-from_IsUtf8}
use Rattle.cs_lexer.proofs.directive.is_text.Goals as goal

no_text : (bytes : List ℕ) → (IsUtf8 bytes → ⊥) → false ≡ is_utf8 bytes
no_text bytes refuted = elim (is_utf8 bytes) as (λ t. is_utf8 bytes ≡ t → false ≡ t) [
  | true ↦ λ h. absurd (refuted (IsUtf8-from_is_utf8 bytes h))
  | false ↦ λ _. refl
] refl

pub returns-in-Ok : goal.returns-in-Ok
returns-in-Ok c = sym (is_utf8-from_IsUtf8 c.args.bytes.now c.in-Ok.ensures.cases.1)

pub returns-in-Err : goal.returns-in-Err
returns-in-Err c = no_text c.args.bytes.now c.in-Err.ensures.cases.0
