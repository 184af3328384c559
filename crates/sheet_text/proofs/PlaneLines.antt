-- The samples of the three planes, from their lines (`Lined`): each plane's are there, and none is above the largest sample.
-- Assumes nothing.
use mathlib.Core.Path.{◌≡◌, ap, ◌∙◌}
use mathlib.Core.List.{List}
use Prim.Native.Nat.{ℕ}
use native.Mathlib.Omega.{arith}
use lib.ListN.{length, take}
use Rattle.std.proofs.lemmas.List.{length-take}
use Rattle.sheet_numbers.specs.Read.{Lined}
use Rattle.sheet_numbers.proofs.ManyNumbers.{numbers_length}
use Rattle.sheet_numbers.proofs.Lined.{lines_most}
use Rattle.sheet_values.specs.declared.Values.{Values}
use Rattle.sheet_values.specs.Values.{luma_count, chroma_count, widest}
use Rattle.sheet_picture.specs.Samples.{Most, Samples}

plane_most : {s : List ℕ} {at width limit n : ℕ} {xs : List ℕ} {next : ℕ} → Lined s at width limit n xs next → Most limit n xs
plane_most {s} {at} {width} {limit} {n} {xs} l =
    let e : length (take n xs) ≡ n = ap length l.read ∙ numbers_length s at n in
    record { long = omega (arith, e, length-take n xs); most = lines_most s at width limit xs l.formed l.read }

-- the limit and the counts are known by their equations
pub planes_samples : {s : List ℕ} (v : Values) {limit n m : ℕ} {y u w : List ℕ} {a b c d e f g h i : ℕ}
    → limit ≡ widest v → n ≡ luma_count v → m ≡ chroma_count v
    → Lined s a b limit n y c → Lined s d e limit m u f → Lined s g h limit m w i → Samples (widest v) v y u w
planes_samples v el en em luma cb cr =
    rw (← el) (record { luma = rw (← en) (plane_most luma); cb = rw (← em) (plane_most cb); cr = rw (← em) (plane_most cr) })
