-- How many signals an item adds.
use Rattle.std.proofs.Common.{◌≡◌, ap, ◌∙◌, ℕ, ◌+◌, ◌-◌, ◌≤◌, ◌++◌, List, [], length, arith}
use Rattle.std.proofs.lemmas.List.{length-append}

pub no-fewer : {A : Type 0} (old new more : List A) (m n : ℕ) → m ≡ length old → n ≡ length new → new ≡ old ++ more → m ≤ n
no-fewer old new more m n h k is = let l = k ∙ (ap length is ∙ length-append old more) in omega (arith, h, l)

pub so-many : {A : Type 0} (old new more : List A) (m n : ℕ) → m ≡ length old → n ≡ length new → new ≡ old ++ (more ++ []) → n - m ≡ length more
so-many old new more m n h k is =
    let l = k ∙ (ap length is ∙ (length-append old (more ++ []) ∙ ap (λ z. length old + z) (length-append more []))) in
    omega (arith, h, l)
