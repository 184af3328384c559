-- A test that passes is `true` and one that fails is `false`, so that `rw` picks the branch; and tests joined by `&&`, taken apart.
-- Assumes nothing.
use mathlib.Core.Path.{◌≡◌, refl}
use mathlib.Core.Bool.{Bool, true, false, not, ◌&&◌, ◌||◌}
use lib.Dec.{T}
use mir.ValLaws.{and_both}

pub passed : (t : Bool) → T t → t ≡ true
passed true h = refl
passed false h = absurd h

pub failed : (t : Bool) → T (not t) → t ≡ false
failed true h = absurd h
failed false h = refl

pub three : (a b c : Bool) → T (a && (b && c)) → T a × T b × T c
three a b c h = let u = and_both a (b && c) h in let v = and_both b c u.1 in (u.0, v.0, v.1)

pub four : (a b c d : Bool) → T (a && (b && (c && d))) → T a × T b × T c × T d
four a b c d h = let u = and_both a (b && (c && d)) h in let v = three b c d u.1 in (u.0, v.0, v.1, v.2)

pub either : (a b : Bool) → T a → T (a || b)
either true b h = h
either false b h = absurd h
