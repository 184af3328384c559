-- The settings used: the verdict on questions 1, 2 and 13, and where it is 0 the numbers of the setting.
-- Definitions only.
use Rattle.std.specs.Prelude.{ℕ, ◌≡◌, cond, List, T, eqb}
use Rattle.yuv_support.specs.declared.YuvRange.{YuvRange}
use Rattle.yuv_support.specs.declared.CbCrInverseTransform.{CbCrInverseTransform}
use Rattle.yuv_support.specs.declared.Codes.{Codes}
use Rattle.yuv_support.specs.declared.Settings.{Settings}
use Rattle.yuv_support.specs.declared.Geometry.{Geometry}
use Rattle.yuv_support.specs.Settings.{among, depths, max_of, bias_y, bias_c}
use Rattle.yuv_support.specs.Coefficients.{coefficients_of}
use Rattle.yuv_support.specs.Questions.{Verdict, verdict, decoded, settings_questions}
use Rattle.yuv_support.specs.Conversion.{answer_to}
use Rattle.yuv_error.specs.declared.report.Told.{Told}
use Rattle.yuv_error.specs.Told.{as_told}
use Rattle.settings_used.specs.declared.SettingsUsed.{SettingsUsed}

-- a "no", and all eight values 0
abbrev pub refusal : Told → SettingsUsed
refusal told = record {
  number = told.number;
  expected = told.expected;
  received = told.received;
  max = 0;
  bias_y = 0;
  bias_uv = 0;
  y = 0;
  cr = 0;
  cb = 0;
  g1 = 0;
  g2 = 0;
}

-- an accepted setting: M, bY, bC and the five coefficients t
abbrev pub answer : ℕ → YuvRange → CbCrInverseTransform → SettingsUsed
answer d r t = record {
  number = 0;
  expected = 0;
  received = 0;
  max = max_of d;
  bias_y = bias_y d r;
  bias_uv = bias_c d;
  y = t.y;
  cr = t.cr;
  cb = t.cb;
  g1 = t.g1;
  g2 = t.g2;
}

abbrev pub numbers_of : Settings → SettingsUsed
numbers_of s = answer s.depth s.range (coefficients_of s)

abbrev pub judged : Verdict → Settings → SettingsUsed
judged v s = cond (eqb v.number 0) (numbers_of s) (refusal (as_told v))

unfoldable pub settings_used_of : Codes → SettingsUsed
settings_used_of c = judged (verdict (settings_questions (among c.depth depths) c)) (decoded c)

-- an accepted conversion has its settings used, by the very codes
abbrev pub ConvertedHas : Type 0
ConvertedHas =
    (known : List ℕ) → ((d : ℕ) → T (among d known) → T (among d depths))
    → (codes : Codes) (image : Geometry) (y u v : List ℕ) (stride : ℕ) (rgb : List ℕ)
    → (answer_to known codes image y u v stride rgb).number ≡ 0 → settings_used_of codes ≡ numbers_of (decoded codes)
