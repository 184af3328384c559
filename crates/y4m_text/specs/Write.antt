-- Document 02, slip 2: the two lines that are written.
-- Definitions only.
use Rattle.std.specs.Prelude.{ℕ, cond, List, [], ◌∷◌, ◌++◌, eqb, take}
use Rattle.yuv_support.specs.declared.YuvChromaSubsampling.{YuvChromaSubsampling}
use Rattle.yuv_support.specs.declared.YuvChromaSubsampling.TheVariants.{Yuv420, Yuv422}
use Rattle.sheet_writing.specs.Text.{decimal_text}
use Rattle.y4m_text.specs.declared.Text.{Text}
use Rattle.y4m_text.specs.Words.{header_word, frame_word, c420jpeg, c422, c420p10, c422p10, c420p12, c422p12}

-- the code of a sampling
abbrev pub code_of : YuvChromaSubsampling → ℕ
code_of Yuv420 = 0
code_of Yuv422 = 1

-- the name of C, by the sampling's code and the depth
unfoldable pub name_of : ℕ → ℕ → List ℕ
name_of sampling depth =
    cond (eqb depth 8) (cond (eqb sampling 0) c420jpeg c422)
    (cond (eqb depth 10) (cond (eqb sampling 0) c420p10 c422p10) (cond (eqb sampling 0) c420p12 c422p12))

-- "W, H and C in this order, C always given, no leading zeros"
unfoldable pub header_text : ℕ → ℕ → ℕ → ℕ → List ℕ
header_text sampling depth width height =
    header_word
    ++ 87 ∷ decimal_text width
    ++ 32 ∷ 72 ∷ decimal_text height
    ++ 32 ∷ 67 ∷ name_of sampling depth
    ++ 10 ∷ []

-- "FRAME alone on its line"
abbrev pub frame_line : List ℕ
frame_line = frame_word ++ 10 ∷ []

-- the bytes that a text holds so far
abbrev pub held : Text → List ℕ
held t = take t.length t.bytes
