-- The parity of a number's bits is that of their count.
use Rattle.std.proofs.Common.{◌≡◌, ℕ, zero, suc, ◌+◌, ◌*◌, ◌/◌, ◌%◌, ◌^◌, ◌<◌, ◌==◌, refl, sym, ap, ◌∙◌, arith}
use Rattle.std.specs.Int.Count.{ones, ones_step}
use Rattle.std.proofs.Math.Nat.{pow-suc}
use Rattle.vl_base.specs.Value.{parity, truth}

sum-parity : (a b : ℕ) → (a % 2 + b % 2) % 2 ≡ (a % 2 + b) % 2
sum-parity a b = omega arith

none : 0 ≡ ones 0 % 2
unfolding ones
none = refl

pub parity-ones : (w x : ℕ) → x < 2 ^ w → parity w x ≡ ones x % 2
parity-ones zero x h = let e : x ≡ 0 = omega arith in rw e none
parity-ones (suc w) x h =
    let double : x < 2 ^ w * 2 = rw (← pow-suc 2 w) h in
    let half : x / 2 < 2 ^ w = omega arith in
    ap (λ p. (x % 2 + p) % 2) (parity-ones w (x / 2) half)
    ∙ sum-parity x (ones (x / 2)) ∙ ap (λ n. n % 2) (sym (ones_step x))

pub truth-odd : (n : ℕ) → truth (n % 2 == 1) ≡ n % 2
truth-odd n = grind arith
