-- What questions 1 and 2 answer of the values, and the numbers of the questions that a sheet is asked.
-- Definitions only.
use Rattle.std.specs.Prelude.{ℕ, cond, leb, Result, Ok, Err}
use Rattle.yuv_support.specs.declared.Settings.{Settings}
use Rattle.yuv_support.specs.Settings.{among, depths}
use Rattle.yuv_support.specs.Questions.{decoded, codes_known}
use Rattle.sheet_values.specs.declared.Refusal.{Refusal}
use Rattle.sheet_values.specs.declared.Refusal.TheVariants.{UnknownSampling, UnknownCode, Malformed}
use Rattle.sheet_values.specs.declared.Values.{Values}
use Rattle.sheet_values.specs.Values.{codes_of}

-- the question that got the first "no"
abbrev pub number_of : Refusal → ℕ
number_of UnknownSampling = 1
number_of UnknownCode = 2
number_of Malformed = 15

-- the settings, where the codes stand for some
abbrev pub settings_of : Values → Result Settings Refusal
settings_of v =
    cond (leb v.sampling 1)
    (cond (codes_known (among v.depth depths) (codes_of v)).holds (Ok (decoded (codes_of v))) (Err UnknownCode))
    (Err UnknownSampling)
