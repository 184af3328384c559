-- How large the coefficients of a setting can be that question 13 lets through.
-- Definitions only.
use Rattle.std.specs.Prelude.{◌+◌, ◌≤◌}
use Rattle.yuv_support.specs.declared.CbCrInverseTransform.{CbCrInverseTransform}

-- luma with red or blue, and the two green ones together, fit an i16
pub record Narrow (t : CbCrInverseTransform) : Type 0 where
  pub y : t.y ≤ 12287
  pub cr : t.cr ≤ 20480
  pub cb : t.cb ≤ 20480
  pub green : t.g1 + t.g2 ≤ 32767
