-- Document 02, slip 2: the streams of the marked cases as bytes.
-- Definitions only.
use Rattle.std.specs.Prelude.{ℕ, List, [], ◌∷◌, ◌++◌, replicate}

-- ---- parts of a header line, each with the space before it, and what ends a line

-- "YUV4MPEG2"
abbrev pub word : List ℕ
word = 89 ∷ 85 ∷ 86 ∷ 52 ∷ 77 ∷ 80 ∷ 69 ∷ 71 ∷ 50 ∷ []

-- " W0", " W1", " W2", " W16384", " W16385"
abbrev pub w0 : List ℕ
w0 = 32 ∷ 87 ∷ 48 ∷ []

abbrev pub w1 : List ℕ
w1 = 32 ∷ 87 ∷ 49 ∷ []

abbrev pub w2 : List ℕ
w2 = 32 ∷ 87 ∷ 50 ∷ []

abbrev pub w16384 : List ℕ
w16384 = 32 ∷ 87 ∷ 49 ∷ 54 ∷ 51 ∷ 56 ∷ 52 ∷ []

abbrev pub w16385 : List ℕ
w16385 = 32 ∷ 87 ∷ 49 ∷ 54 ∷ 51 ∷ 56 ∷ 53 ∷ []

-- " H1", " H2"
abbrev pub h1 : List ℕ
h1 = 32 ∷ 72 ∷ 49 ∷ []

abbrev pub h2 : List ℕ
h2 = 32 ∷ 72 ∷ 50 ∷ []

-- " C420", " C420jpeg", " C422", " C420p10", " C422p10"
abbrev pub c420 : List ℕ
c420 = 32 ∷ 67 ∷ 52 ∷ 50 ∷ 48 ∷ []

abbrev pub c420jpeg : List ℕ
c420jpeg = c420 ++ 106 ∷ 112 ∷ 101 ∷ 103 ∷ []

abbrev pub c422 : List ℕ
c422 = 32 ∷ 67 ∷ 52 ∷ 50 ∷ 50 ∷ []

abbrev pub c420p10 : List ℕ
c420p10 = c420 ++ 112 ∷ 49 ∷ 48 ∷ []

abbrev pub c422p10 : List ℕ
c422p10 = c422 ++ 112 ∷ 49 ∷ 48 ∷ []

-- a space and n times 'X'
abbrev pub passed_over : ℕ → List ℕ
passed_over n = 32 ∷ replicate n 88

abbrev pub ended : List ℕ
ended = 10 ∷ []

-- ---- header lines

-- "YUV4MPEG2 W2 H2", without C
abbrev pub header2x2 : List ℕ
header2x2 = word ++ w2 ++ h2 ++ ended

-- "YUV4MPEG2 W1 H1 C420p10"
abbrev pub header1x1 : List ℕ
header1x1 = word ++ w1 ++ h1 ++ c420p10 ++ ended

-- ---- frames

-- "FRAME"
abbrev pub frame_word : List ℕ
frame_word = 70 ∷ 82 ∷ 65 ∷ 77 ∷ 69 ∷ []

-- Y 1 2 3 4, U 5, V 6, all but the last
abbrev pub samples_short : List ℕ
samples_short = 1 ∷ 2 ∷ 3 ∷ 4 ∷ 5 ∷ []

abbrev pub samples : List ℕ
samples = samples_short ++ 6 ∷ []

abbrev pub frame2x2 : List ℕ
frame2x2 = frame_word ++ ended ++ samples

-- u16: Y 513, U 3, V 4
abbrev pub frame1x1 : List ℕ
frame1x1 = frame_word ++ ended ++ 1 ∷ 2 ∷ 3 ∷ 0 ∷ 4 ∷ 0 ∷ []
