-- Where an accepted call's part lies, as the functions below the readers find it.
-- Definitions only.
use Rattle.std.specs.Prelude.{ℕ, ◌*◌, Result, Ok, Err}
use Rattle.yuv_support.specs.Settings.{sampling_of, order_of}
use Rattle.yuv_support.specs.Blend.{chroma_width, near_row}
use Rattle.yuv_support.specs.Picture.{channels_of}
use Rattle.yuv_error.specs.declared.error.YuvError.{YuvError}
use Rattle.yuv_error.specs.Told.{told}
use Rattle.yuv_support.specs.Questions.{accepted}
use Rattle.row_readers.specs.declared.Part.{Part}
use Rattle.row_readers.specs.declared.Place.{Place}
use Rattle.row_readers.specs.Readers.{placed}

abbrev pub finished_place : ℕ → ℕ → ℕ → ℕ → Place
finished_place order width stride row = record { start = stride * row; length = width * channels_of (order_of order) }

abbrev pub near_chroma_place : ℕ → ℕ → ℕ → ℕ → ℕ → Place
near_chroma_place sampling width height stride row = record {
  start = stride * near_row (sampling_of sampling) height row;
  length = chroma_width width;
}

-- the numbers of an answer, with its place
abbrev pub placed_by : Result Place YuvError → Part
placed_by (Ok p) = placed accepted p.start p.length
placed_by (Err e) = placed (told e) 0 0
