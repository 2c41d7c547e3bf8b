-- The pieces of a line.
use Rattle.std.proofs.Common.{◌≡◌, ℕ, List, ◌++◌, sym, ap, ◌∙◌, append_assoc}

eight : (t a s d e f n : List ℕ) → (((((((t ++ a) ++ s) ++ d) ++ s) ++ e) ++ s) ++ f) ++ n ≡ t ++ ((((a ++ (s ++ d)) ++ (s ++ e)) ++ (s ++ f)) ++ n)
eight t a s d e f n = simp append_assoc

-- a title, three numbers behind spaces, and an end
pub three_numbers : (t a s d e f n x1 x2 x3 x4 x5 : List ℕ) → x1 ≡ t ++ a → x2 ≡ (x1 ++ s) ++ d → x3 ≡ (x2 ++ s) ++ e → x4 ≡ (x3 ++ s) ++ f → x5 ≡ x4 ++ n
    → x5 ≡ t ++ ((((a ++ (s ++ d)) ++ (s ++ e)) ++ (s ++ f)) ++ n)
three_numbers t a s d e f n x1 x2 x3 x4 x5 e1 e2 e3 e4 e5 =
    e5
    ∙ ap (λ (x : List ℕ). x ++ n) e4
    ∙ ap (λ (x : List ℕ). ((x ++ s) ++ f) ++ n) e3
    ∙ ap (λ (x : List ℕ). ((((x ++ s) ++ e) ++ s) ++ f) ++ n) e2
    ∙ ap (λ (x : List ℕ). ((((((x ++ s) ++ d) ++ s) ++ e) ++ s) ++ f) ++ n) e1
    ∙ eight t a s d e f n
