-- The root of a text, by the text's first bytes, and that it is unique: for `root_of` and its parts.
use Rattle.std.proofs.Common.{◌≡◌, ℕ, ◌<◌, ◌≤◌, ◌^◌, Bool, true, false, not, ◌&&◌, ◌||◌, eqb, eq-eqb, List, [], ◌∷◌}
use Rattle.std.proofs.Common.{◌++◌, length, drop, get_or, ap, sym, ◌∙◌, refl, subst, append_assoc, arith, inl, inr}
use Rattle.std.specs.Prelude.{◌==◌, ◌⊎◌, codes, nat_le}
use Rattle.std.specs.List.{list_all}
use Rattle.std.specs.Fmt.{decimal}
use Rattle.std.proofs.lemmas.Bool.{false≢true}
use Rattle.std.proofs.lemmas.Fmt.{decimal_injective, digits_decimal}
use Rattle.std.proofs.lemmas.List.{append-nil}
use Rattle.std.proofs.lemmas.List.Folds.{list_all-append}
use Rattle.cs_inputs.specs.declared.path.Root.{Root}
use Rattle.cs_inputs.specs.declared.path.Root.TheVariants.{Param, Global, Call, Wrote, Malloc}
use Rattle.cs_inputs.specs.InputText.{is_digit}
use Rattle.cs_inputs.specs.PathText.{root_text, is_name, is_name_start, is_name_byte, IsCount, HasRootText}
use Rattle.cs_inputs.specs.Reading.{SplitsBefore, IsEmptyOrAt, IsRootOf, IsDecimalOf}
use Rattle.cs_inputs.proofs.DecimalTexts.{own, same_number}
use Rattle.cs_inputs.proofs.Splits.{both, same_cut, all_weaker, all_without}

-- ---- texts that differ
-- lists with different first elements
apart : (a b : List ℕ) → a ≡ b → eqb (get_or a 0 0) (get_or b 0 0) ≡ false → ⊥
apart a b e h = false≢true (sym h ∙ eq-eqb (get_or a 0 0) (get_or b 0 0) (ap (λ (t : List ℕ). get_or t 0 0) e))

-- a text that isn't a name
unnamed : (name text : List ℕ) → is_name name ≡ true → name ≡ text → is_name text ≡ false → ⊥
unnamed name text named e h = false≢true (sym h ∙ sym (ap is_name e) ∙ named)

pub no_tail : (b : ℕ) (bs : List ℕ) → b ∷ bs ≡ [] → ⊥
no_tail b bs e = absurd (omega (arith, ap length e))

-- ---- roots by their texts' first bytes
-- a text that begins with `$` is that of a global
pub after_dollar : (rest : List ℕ) (root : Root) → IsRootOf (codes "$" ++ rest) root → (root ≡ Global rest) × (is_name rest ≡ true)
after_dollar rest (Param name) r = absurd (unnamed _ _ r.has_text r.is refl)
after_dollar rest (Global name) r = let same : name ≡ rest = ap (drop 1) r.is in (ap Global same, subst (λ n. is_name n ≡ true) same r.has_text)
after_dollar rest (Call k) r = absurd (apart _ _ r.is refl)
after_dollar rest (Wrote k a) r = absurd (apart _ _ r.is refl)
after_dollar rest (Malloc k) r = absurd (apart _ _ r.is refl)

-- the number of a call, without or with the number of an argument after a `.`
pub record IsCallWith (numbers : List ℕ) (root : Root) (call : ℕ) : Type 0 where
  pub is : root ≡ Call call
  pub counts : IsCount call
  pub text : decimal call ≡ numbers

pub record IsWroteWith (numbers : List ℕ) (root : Root) (call argument : ℕ) : Type 0 where
  pub is : root ≡ Wrote call argument
  pub counts : IsCount call
  pub few : argument ≤ 400000
  pub text : decimal call ++ (46 ∷ decimal argument) ≡ numbers

-- a text that begins with `call#` is that of a call's result, or of what the call wrote
pub following_call : (rest : List ℕ) (root : Root) → IsRootOf (codes "call#" ++ rest) root
    → ((k : ℕ) × IsCallWith rest root k) ⊎ ((k : ℕ) × (a : ℕ) × IsWroteWith rest root k a)
following_call rest (Param name) r = absurd (unnamed _ _ r.has_text r.is refl)
following_call rest (Global name) r = absurd (apart _ _ r.is refl)
following_call rest (Call k) r = inl (k, record { is = refl; counts = r.has_text; text = ap (drop 5) r.is })
following_call rest (Wrote k a) r =
    let same : (decimal k ++ 46 ∷ []) ++ decimal a ≡ rest = ap (drop 5) r.is in
    inr (k, a, record { is = refl; counts = r.has_text.0; few = r.has_text.1; text = sym (append_assoc (decimal k) (46 ∷ []) (decimal a)) ∙ same })
following_call rest (Malloc k) r = absurd (apart _ _ r.is refl)

-- a text that begins with `malloc#` is that of an allocation
pub after_malloc : (rest : List ℕ) (root : Root) → IsRootOf (codes "malloc#" ++ rest) root
    → (k : ℕ) × (root ≡ Malloc k) × IsCount k × (decimal k ≡ rest)
after_malloc rest (Param name) r = absurd (unnamed _ _ r.has_text r.is refl)
after_malloc rest (Global name) r = absurd (apart _ _ r.is refl)
after_malloc rest (Call k) r = absurd (apart _ _ r.is refl)
after_malloc rest (Wrote k a) r = absurd (apart _ _ r.is refl)
after_malloc rest (Malloc k) r = (k, refl, r.has_text, ap (drop 7) r.is)

-- ---- a call's numbers are cut at the `.`
digits_without_dot : (n : ℕ) → n < 2 ^ 64 → list_all (λ b. not (b == 46)) (decimal n) ≡ true
digits_without_dot n fits = all_without is_digit 46 refl (decimal n) (digits_decimal own n fits)

-- the number before the `.` is the call's
cut_at_call : (numbers first following : List ℕ) (k : ℕ) → k < 2 ^ 64 → (rest : List ℕ) → IsEmptyOrAt 46 rest → decimal k ++ rest ≡ numbers
    → SplitsBefore 46 numbers first following → (IsDecimalOf first k) × (following ≡ rest)
cut_at_call numbers first following k fits rest at is cut =
    let same = same_cut 46 numbers first (decimal k) following rest cut (record { whole = sym is; none = digits_without_dot k fits; at = at }) in
    (record { fits = fits; is = sym same.0 }, same.1)

-- without the number of a call there is no root
pub no_call : (numbers first following : List ℕ) → SplitsBefore 46 numbers first following → ((k : ℕ) → IsDecimalOf first k × IsCount k → ⊥)
    → (root : Root) → IsRootOf (codes "call#" ++ numbers) root → ⊥
no_call numbers first following cut none root r = either (following_call numbers root r)
  where
    either : ((k : ℕ) × IsCallWith numbers root k) ⊎ ((k : ℕ) × (a : ℕ) × IsWroteWith numbers root k a) → ⊥
    either (inl (k, call)) = none k ((cut_at_call numbers first following k call.counts.fits [] tt (append-nil (decimal k) ∙ call.text) cut).0, call.counts)
    either (inr (k, a, wrote)) = none k ((cut_at_call numbers first following k wrote.counts.fits (46 ∷ decimal a) refl wrote.text cut).0, wrote.counts)

-- without the number of an argument after the `.` there is no root
pub no_argument : (numbers first following argument : List ℕ) (separator : ℕ) → SplitsBefore 46 numbers first following
    → following ≡ separator ∷ argument
    → ((a : ℕ) → IsDecimalOf argument a × (a ≤ 400000) → ⊥) → (root : Root) → IsRootOf (codes "call#" ++ numbers) root → ⊥
no_argument numbers first following argument separator cut is none root r = either (following_call numbers root r)
  where
    either : ((k : ℕ) × IsCallWith numbers root k) ⊎ ((k : ℕ) × (a : ℕ) × IsWroteWith numbers root k a) → ⊥
    either (inl (k, call)) =
        no_tail separator argument (sym is ∙ (cut_at_call numbers first following k call.counts.fits [] tt (append-nil (decimal k) ∙ call.text) cut).1)
    either (inr (k, a, wrote)) =
        let rest : following ≡ 46 ∷ decimal a = (cut_at_call numbers first following k wrote.counts.fits (46 ∷ decimal a) refl wrote.text cut).1 in
        let text : decimal a ≡ argument = ap (drop 1) (sym rest ∙ is) in
        let few = wrote.few in
        none a (record { fits = omega arith; is = text }, few)

-- a number of calls or arguments can't be 0
pub no_count : (text : List ℕ) (n : ℕ) → IsDecimalOf text n → n ≡ 0 → (m : ℕ) → IsDecimalOf text m × IsCount m → ⊥
no_count text n d z m other = let same = same_number text n m d other.0 in let from_one = other.1.from_one in omega arith

pub no_few : (text : List ℕ) (n : ℕ) → IsDecimalOf text n → 400000 < n → (m : ℕ) → IsDecimalOf text m × (m ≤ 400000) → ⊥
no_few text n d far m other = let same = same_number text n m d other.0 in let few = other.1 in omega arith

-- ---- a text has one root
named_root : (text : List ℕ) → is_name text ≡ true → (root : Root) → IsRootOf text root → root ≡ Param text
named_root text named (Param name) r = ap Param r.is
named_root text named (Global name) r = absurd (unnamed _ _ named (sym r.is) refl)
named_root text named (Call k) r = absurd (unnamed _ _ named (sym r.is) refl)
named_root text named (Wrote k a) r = absurd (unnamed _ _ named (sym r.is) refl)
named_root text named (Malloc k) r = absurd (unnamed _ _ named (sym r.is) refl)

call_root : (k : ℕ) → IsCount k → (root : Root) → IsRootOf (codes "call#" ++ decimal k) root → root ≡ Call k
call_root k counts root r = either (following_call (decimal k) root r)
  where
    cut : SplitsBefore 46 (decimal k) (decimal k) []
    cut = record { whole = sym (append-nil (decimal k)); none = digits_without_dot k counts.fits; at = tt }

    either : ((m : ℕ) × IsCallWith (decimal k) root m) ⊎ ((m : ℕ) × (a : ℕ) × IsWroteWith (decimal k) root m a) → root ≡ Call k
    either (inl (m, call)) = call.is ∙ ap Call (decimal_injective m k call.counts.fits counts.fits call.text)
    either (inr (m, a, wrote)) =
        absurd (no_tail 46 (decimal a) (sym (cut_at_call (decimal k) (decimal k) [] m wrote.counts.fits (46 ∷ decimal a) refl wrote.text cut).1))

wrote_root : (k a : ℕ) → IsCount k → a ≤ 400000 → (text : List ℕ) → text ≡ decimal k ++ (46 ∷ decimal a)
    → (root : Root) → IsRootOf (codes "call#" ++ text) root → root ≡ Wrote k a
wrote_root k a counts few text is root r = either (following_call text root r)
  where
    cut : SplitsBefore 46 text (decimal k) (46 ∷ decimal a)
    cut = record { whole = is; none = digits_without_dot k counts.fits; at = refl }

    either : ((m : ℕ) × IsCallWith text root m) ⊎ ((m : ℕ) × (b : ℕ) × IsWroteWith text root m b) → root ≡ Wrote k a
    either (inl (m, call)) =
        absurd (no_tail 46 (decimal a) (cut_at_call text (decimal k) (46 ∷ decimal a) m call.counts.fits [] tt (append-nil (decimal m) ∙ call.text) cut).1)
    either (inr (m, b, wrote)) =
        let other = cut_at_call text (decimal k) (46 ∷ decimal a) m wrote.counts.fits (46 ∷ decimal b) refl wrote.text cut in
        let calls : m ≡ k = decimal_injective m k wrote.counts.fits counts.fits other.0.is in
        let texts : decimal b ≡ decimal a = ap (drop 1) (sym other.1) in
        let late = wrote.few in
        let arguments : b ≡ a = decimal_injective b a (omega arith) (omega arith) texts in
        wrote.is ∙ ap (λ n. Wrote n b) calls ∙ ap (λ n. Wrote k n) arguments

malloc_root : (k : ℕ) → IsCount k → (root : Root) → IsRootOf (codes "malloc#" ++ decimal k) root → root ≡ Malloc k
malloc_root k counts root r =
    let other = after_malloc (decimal k) root r in
    other.1 ∙ ap Malloc (decimal_injective other.0 k other.2.fits counts.fits other.3)

-- two roots with one text are the same
pub same_root : (text : List ℕ) (one other : Root) → IsRootOf text one → IsRootOf text other → one ≡ other
same_root text (Param name) other r s = sym (named_root text (subst (λ n. is_name n ≡ true) r.is r.has_text) other s ∙ ap Param (sym r.is))
same_root text (Global name) other r s = sym (after_dollar name other (record { has_text = s.has_text; is = s.is ∙ sym r.is })).0
same_root text (Call k) other r s = sym (call_root k r.has_text other (record { has_text = s.has_text; is = s.is ∙ sym r.is }))
same_root text (Wrote k a) other r s =
    sym (wrote_root k a r.has_text.0 r.has_text.1 ((decimal k ++ 46 ∷ []) ++ decimal a) (append_assoc (decimal k) (46 ∷ []) (decimal a)) other
    (record { has_text = s.has_text; is = s.is ∙ sym r.is }))
same_root text (Malloc k) other r s = sym (malloc_root k r.has_text other (record { has_text = s.has_text; is = s.is ∙ sym r.is }))

-- ---- the bytes of a root's text
abbrev pub is_root_byte : ℕ → Bool
is_root_byte b = is_name_byte b || ((b == 36) || ((b == 35) || (b == 46)))

or_last : (a b : Bool) → b ≡ true → (a || b) ≡ true
or_last true b h = refl
or_last false b h = h

digit_in_root : (b : ℕ) → is_digit b ≡ true → is_root_byte b ≡ true
digit_in_root b h =
    let name : is_name_byte b ≡ true = or_last (is_name_start b) (nat_le 48 b && nat_le b 57) h in
    ap (λ t. t || ((b == 36) || ((b == 35) || (b == 46)))) name

name_in_root : (b : ℕ) → is_name_byte b ≡ true → is_root_byte b ≡ true
name_in_root b h = ap (λ t. t || ((b == 36) || ((b == 35) || (b == 46)))) h

start_in_name : (b : ℕ) → is_name_start b ≡ true → is_name_byte b ≡ true
start_in_name b h = ap (λ t. t || (nat_le 48 b && nat_le b 57)) h

name_bytes : (name : List ℕ) → is_name name ≡ true → list_all is_root_byte name ≡ true
name_bytes [] h = absurd (cc)
name_bytes (b ∷ bs) h =
    let parts = both (is_name_start b) (list_all is_name_byte bs) h in
    ap (λ t. t && list_all is_root_byte bs) (name_in_root b (start_in_name b parts.0)) ∙ all_weaker is_name_byte is_root_byte name_in_root bs parts.1

pub decimal_bytes : (n : ℕ) → n < 2 ^ 64 → list_all is_root_byte (decimal n) ≡ true
decimal_bytes n fits = all_weaker is_digit is_root_byte digit_in_root (decimal n) (digits_decimal own n fits)

all_append : (xs ys : List ℕ) → list_all is_root_byte xs ≡ true → list_all is_root_byte ys ≡ true → list_all is_root_byte (xs ++ ys) ≡ true
all_append xs ys h i = list_all-append is_root_byte xs ys ∙ ap (λ t. t && list_all is_root_byte ys) h ∙ i

pub root_bytes : (root : Root) → HasRootText root → list_all is_root_byte (root_text root) ≡ true
root_bytes (Param name) h = name_bytes name h
root_bytes (Global name) h = name_bytes name h
root_bytes (Call k) h = decimal_bytes k h.fits
root_bytes (Wrote k a) h =
    let few = h.1 in
    all_append (decimal k ++ 46 ∷ []) (decimal a) (all_append (decimal k) (46 ∷ []) (decimal_bytes k h.0.fits) refl) (decimal_bytes a (omega arith))
root_bytes (Malloc k) h = decimal_bytes k h.fits
