-- The call stack below the running frame, as a list.
use Rattle.std.specs.Prelude.{ℕ, zero, suc, List, [], ◌∷◌}
use Rattle.std.specs.Option.{unwrap_or}
use Rattle.std.specs.FinMap as finite
use Rattle.cs_pmap.specs.Keys.{key_cmp}
use Rattle.cs_state.specs.declared.frame.Frame.{Frame}

-- the frame of a depth that has none
abbrev pub no_frame : Frame
no_frame = record { number = 0; spot = record { function = 0; block = 0; operation = 0 }; temporaries = []; visits = [] }

-- the frame at a depth
abbrev pub frame_at : finite.FinMap key_cmp Frame → ℕ → Frame
frame_at frames depth = unwrap_or (finite.get frames (depth, 0)) no_frame

-- the frames at lower depths, the deepest first
abbrev pub nearest_first : finite.FinMap key_cmp Frame → ℕ → List Frame
nearest_first frames zero = []
nearest_first frames (suc depth) = frame_at frames depth ∷ nearest_first frames depth
