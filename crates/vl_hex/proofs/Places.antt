-- Addresses of a memory.
use Rattle.std.proofs.Common.{◌≡◌, ◌≤◌, ◌<◌, ◌^◌, ◌+◌, ◌-◌, ◌∙◌, ap, sym, refl, ℕ, Bool, true, false, arith}
use Rattle.std.specs.Prelude.{Some, None, nat_lt, ◌&&◌, if◌then◌else◌, ℤ, pos, ◌-ℤ◌, ◌≤ℤ◌, int_le}
use Rattle.std.specs.Int.RustNames.{unsigned_abs}
use Rattle.std.proofs.lemmas.Bool.Decides.{nat_tests}
use Rattle.std.proofs.lemmas.Grind.{common_steps}
use Rattle.std.proofs.lemmas.Int.{ints}
use Rattle.vl_hex.specs.Alike.{IsNear, Same, Far}
use Rattle.vl_hex.specs.Loading.{place_at}

pub far-none : (lowest : ℤ) (n a : ℕ) → n ≤ 2 ^ 32 → lowest ≤ℤ pos (2 ^ 31) → 2 ^ 40 ≤ a → place_at lowest n a ≡ None
far-none lowest n a h i j =
    let past : n ≤ unsigned_abs (pos a -ℤ lowest) = omega (arith, ints) in
    by (int_le (pos 0) (pos a -ℤ lowest)) (nat_lt (unsigned_abs (pos a -ℤ lowest)) n) (grind (arith, nat_tests))
  where
    by : (b c : Bool) → c ≡ false → (if b && c then Some (unsigned_abs (pos a -ℤ lowest)) else None) ≡ None
    by true true e = cc
    by true false e = refl
    by false c e = refl

pub near-place : (lowest : ℤ) (n a b : ℕ) → n ≤ 2 ^ 32 → lowest ≤ℤ pos (2 ^ 31) → IsNear a b → place_at lowest n a ≡ place_at lowest n b
near-place lowest n a b h i (Same e) = ap (place_at lowest n) e
near-place lowest n a b h i (Far k l) = far-none lowest n a h i k ∙ sym (far-none lowest n b h i l)

pub ruleset places = (common_steps, far-none)
