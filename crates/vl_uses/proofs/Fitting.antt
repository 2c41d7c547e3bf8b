-- Formats and their arguments.
use Rattle.std.proofs.Common.{◌≡◌, ℕ, zero, suc, ◌-◌, ◌<◌, false, ◌&&◌, nat_eq, List, [], ◌∷◌, Some, None, refl, sym, arith}
use Rattle.std.proofs.lemmas.Grind.{common_steps}
use Rattle.std.proofs.lemmas.Bool.Decides.{nat_tests}
use Rattle.vl_tree.specs.declared.tree.SystemArgument.{SystemArgument}
use Rattle.vl_uses.specs.Calls.{fit, is_given, shown_of, argument_text}

-- an argument that the format before it shows
pub fit-shown : (n : ℕ) (a : SystemArgument) (as' : List SystemArgument) → 0 < n → fit (Some n) (a ∷ as') ≡ (is_given a && fit (Some (n - 1)) as')
unfolding fit
fit-shown zero a as' h = absurd (omega arith)
fit-shown (suc n) a as' h = let e : suc n - 1 ≡ n = omega arith in rw e refl

-- an argument that no format before it shows
pub fit-free : (n : ℕ) (a : SystemArgument) (as' : List SystemArgument) → n ≡ 0 → fit (Some n) (a ∷ as') ≡ fit (shown_of (argument_text a)) as'
unfolding fit
fit-free n a as' h = rw h refl

pub fit-None : (as' : List SystemArgument) → fit None as' ≡ false
unfolding fit
fit-None as' = refl

pub fit-end : (n : ℕ) → fit (Some n) [] ≡ nat_eq n 0
unfolding fit
fit-end zero = refl
fit-end (suc n) = let e : nat_eq (suc n) 0 ≡ false = grind (arith, nat_tests) in sym e

pub ruleset fitting = (common_steps, fit-shown, fit-free, fit-None, fit-end)
