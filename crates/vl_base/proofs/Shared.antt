-- Laws that several crates use.
use Rattle.std.proofs.Common.{Bool, Option, Some, arith, cond, false, inl, inr, mod-lt, refl, true, ℕ, ℤ, ◌*◌, ◌+◌, ◌-◌, ◌<◌, ◌^◌, ◌≡◌}
use Rattle.std.proofs.Math.Pow.{pow-add, pow_pos}
use Rattle.std.specs.Prelude.{is_some, negsuc, option_map, pos, ◌⊎◌}
use Rattle.vl_base.specs.Selects.{appended, picked}
use Rattle.vl_base.specs.Value.{is_negative, reading}
use Rattle.vl_base.specs.declared.files.File.{File}

pub picked-below : (w v : ℕ) (z : ℤ) (width : ℕ) → picked w v z width < 2 ^ width
picked-below w v (pos n) width = mod-lt _ (pow_pos width)
picked-below w v (negsuc n) width = mod-lt _ (pow_pos width)

pub reading-low : (s : Bool) (w v : ℕ) → is_negative w v ≡ false → reading s w v ≡ pos v
reading-low true w v low = rw low refl
reading-low false w v low = refl

pub unsigned-reading : (s : Bool) (w v : ℕ) → s ≡ false → reading s w v ≡ pos v
unsigned-reading s w v t = rw t refl

-- the file that is found is this one, or one behind it
pub found_by : (b : Bool) (f : File) (o : Option File) → is_some (option_map (λ g. g.bytes) (cond b (Some f) o)) ≡ true → (b ≡ true) ⊎ (is_some (option_map (λ g. g.bytes) o) ≡ true)
found_by true f o e = inl refl
found_by false f o e = inr e

pub appended-more : (a w x t v : ℕ) → appended (appended a w x) t v ≡ appended a (w + t) (appended x t v)
appended-more a w x t v = let p : 2 ^ (w + t) ≡ 2 ^ w * 2 ^ t = pow-add 2 w t in rw p (grind arith)
