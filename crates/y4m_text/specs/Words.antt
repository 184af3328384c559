-- Document 02, slip 2: the fixed texts of a stream, which are compared when it is read and written when it is written.
-- Definitions only.
use Rattle.std.specs.Prelude.{ℕ, List, [], ◌∷◌}

-- "YUV4MPEG2" and a space
abbrev pub header_word : List ℕ
header_word = 89 ∷ 85 ∷ 86 ∷ 52 ∷ 77 ∷ 80 ∷ 69 ∷ 71 ∷ 50 ∷ 32 ∷ []

-- "FRAME"
abbrev pub frame_word : List ℕ
frame_word = 70 ∷ 82 ∷ 65 ∷ 77 ∷ 69 ∷ []

-- "420jpeg", "422", "420p10", "422p10", "420p12", "422p12"
abbrev pub c420jpeg : List ℕ
c420jpeg = 52 ∷ 50 ∷ 48 ∷ 106 ∷ 112 ∷ 101 ∷ 103 ∷ []

abbrev pub c422 : List ℕ
c422 = 52 ∷ 50 ∷ 50 ∷ []

abbrev pub c420p10 : List ℕ
c420p10 = 52 ∷ 50 ∷ 48 ∷ 112 ∷ 49 ∷ 48 ∷ []

abbrev pub c422p10 : List ℕ
c422p10 = 52 ∷ 50 ∷ 50 ∷ 112 ∷ 49 ∷ 48 ∷ []

abbrev pub c420p12 : List ℕ
c420p12 = 52 ∷ 50 ∷ 48 ∷ 112 ∷ 49 ∷ 50 ∷ []

abbrev pub c422p12 : List ℕ
c422p12 = 52 ∷ 50 ∷ 50 ∷ 112 ∷ 49 ∷ 50 ∷ []
