-- The list of the frames at lower depths: for the contracts of `Callers`.
use Rattle.std.proofs.Common.{◌≡◌, ◌≢◌, ◌+◌, ◌-◌, ◌<◌, ◌≤◌, ℕ, zero, suc, ◌∷◌, Some, length, reverse, get_or, slice_get, refl, sym, ap, ◌∙◌}
use Rattle.std.proofs.Common.{arith}
use Rattle.std.specs.Option.{unwrap_or}
use Rattle.std.specs.FinMap as finite
use Rattle.std.proofs.lemmas.List.{get_or-reverse, length-reverse}
use Rattle.std.proofs.lemmas.Option.{slice_get-get_or}
use Rattle.cs_pmap.specs.Keys.{key_cmp}
use Rattle.cs_store.proofs.Keys.{get_here, get_elsewhere}
use Rattle.cs_state.specs.declared.frame.Frame.{Frame}
use Rattle.cs_state.specs.Callers.{no_frame, frame_at, nearest_first}

pub length-nearest_first : (frames : finite.FinMap key_cmp Frame) (depth : ℕ) → depth ≡ length (nearest_first frames depth)
length-nearest_first frames zero = refl
length-nearest_first frames (suc depth) = ap suc (length-nearest_first frames depth)

-- a frame at a depth isn't seen below that depth
unseen : (frames : finite.FinMap key_cmp Frame) (depth at : ℕ) (frame : Frame) → depth ≤ at
    → nearest_first (finite.insert frames (at, 0) frame) depth ≡ nearest_first frames depth
unseen frames zero at frame below = refl
unseen frames (suc depth) at frame below =
    let other : depth ≢ at = λ same. omega (arith, same, below) in
    let here : frame_at (finite.insert frames (at, 0) frame) depth ≡ frame_at frames depth
    = ap (λ found. unwrap_or found no_frame) (get_elsewhere frames at depth frame other) in
    rw (here, unseen frames depth at frame (omega (arith, below))) refl

pub pushed : (frames : finite.FinMap key_cmp Frame) (depth : ℕ) (frame : Frame)
    → nearest_first (finite.insert frames (depth, 0) frame) (depth + 1) ≡ frame ∷ nearest_first frames depth
pushed frames depth frame =
    let next : depth + 1 ≡ suc depth = omega arith in
    let here : frame_at (finite.insert frames (depth, 0) frame) depth ≡ frame = ap (λ found. unwrap_or found no_frame) (get_here frames depth frame) in
    rw (next, here, unseen frames depth depth frame (omega arith)) refl

-- the frame at a depth, counted from the nearest one
from_nearest : (frames : finite.FinMap key_cmp Frame) (depth at place : ℕ) (d : Frame) → at < depth → place + at + 1 ≡ depth
    → get_or (nearest_first frames depth) place d ≡ frame_at frames at
from_nearest frames zero at place d below e = absurd (omega arith)
from_nearest frames (suc depth) at zero d below e = let same : depth ≡ at = omega (arith, e) in ap (frame_at frames) same
from_nearest frames (suc depth) at (suc place) d below e =
    from_nearest frames depth at place d (omega (arith, e)) (omega (arith, e))

-- and counted from the entry's
pub from_entry : (frames : finite.FinMap key_cmp Frame) (depth at : ℕ) → at < depth
    → slice_get (reverse (nearest_first frames depth)) at ≡ Some (frame_at frames at)
from_entry frames depth at below =
    let list = nearest_first frames depth in
    let long : length list ≡ depth = sym (length-nearest_first frames depth) in
    let within : at < length list = omega (arith, long) in
    let turned : at < length (reverse list) = omega (arith, length-reverse list, within) in
    slice_get-get_or (reverse list) at no_frame turned
    ∙ ap Some (get_or-reverse list at no_frame within ∙ from_nearest frames depth at (length list - 1 - at) no_frame below (omega (arith, long)))
