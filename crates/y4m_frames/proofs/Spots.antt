-- The samples of a frame begin inside the stream.
-- Assumes nothing.
use mathlib.Core.Path.{◌≡◌, refl}
use mathlib.Core.Bool.{true, false, and-eq-true_iff}
use mathlib.Core.List.{List}
use Prim.Native.Nat.{ℕ, ◌+◌, ◌≤◌, ◌<◌}
use native.Mathlib.Omega.{arith}
use lib.Dec.{leb}
use lib.ListN.{length}
use Rattle.y4m_lines.specs.Lines.{line_at, past_line}
use Rattle.y4m_lines.specs.Header.{is_frame_line}
use Rattle.y4m_lines.specs.Read.{frame_line_read}
use Rattle.y4m_lines.proofs.OneLine.{Lined, frame_lined}
use Rattle.y4m_frames.specs.Stream.{frame_begin, ends_at, is_place, samples_begin}

pub samples_within : (s : List ℕ) (place : ℕ) → is_place s place ≡ true → ends_at s place ≡ false → samples_begin s place ≤ length s
unfolding is_place
samples_within s place p goes_on =
    let after = (and-eq-true_iff (leb (past_line s 0) (frame_begin s place)) _).0 p in
    let line : is_frame_line s (frame_begin s place) ≡ true = rw goes_on at ((and-eq-true_iff (leb (frame_begin s place) (length s)) _).0 after.1).1 in
    let within : frame_begin s place + length (line_at s (frame_begin s place)) < length s =
    (frame_lined s (frame_begin s place) {end = frame_begin s place + length (line_at s (frame_begin s place))} {result = frame_line_read s (frame_begin s place)} refl
    (rw line)).1.within in
    omega arith
