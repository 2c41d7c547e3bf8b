-- Texts of several pieces.
use Rattle.std.proofs.Common.{◌≡◌, ℕ, List, ◌++◌, ap, ◌∙◌, append_assoc}

joined : (t a b c d e f : List ℕ) → (((((t ++ a) ++ b) ++ c) ++ d) ++ e) ++ f ≡ t ++ (((((a ++ b) ++ c) ++ d) ++ e) ++ f)
joined t a b c d e f = simp append_assoc

-- six pieces, one behind the other
pub six : (t a b c d e f x1 x2 x3 x4 x5 x6 : List ℕ) → x1 ≡ t ++ a → x2 ≡ x1 ++ b → x3 ≡ x2 ++ c → x4 ≡ x3 ++ d → x5 ≡ x4 ++ e → x6 ≡ x5 ++ f
    → x6 ≡ t ++ (((((a ++ b) ++ c) ++ d) ++ e) ++ f)
six t a b c d e f x1 x2 x3 x4 x5 x6 e1 e2 e3 e4 e5 e6 =
    e6
    ∙ ap (λ (x : List ℕ). x ++ f) e5
    ∙ ap (λ (x : List ℕ). (x ++ e) ++ f) e4
    ∙ ap (λ (x : List ℕ). ((x ++ d) ++ e) ++ f) e3
    ∙ ap (λ (x : List ℕ). (((x ++ c) ++ d) ++ e) ++ f) e2
    ∙ ap (λ (x : List ℕ). ((((x ++ b) ++ c) ++ d) ++ e) ++ f) e1
    ∙ joined t a b c d e f

-- and one more
pub seven : (t a b c d e f g x1 x2 x3 x4 x5 x6 x7 : List ℕ) → x1 ≡ t ++ a → x2 ≡ x1 ++ b → x3 ≡ x2 ++ c → x4 ≡ x3 ++ d → x5 ≡ x4 ++ e → x6 ≡ x5 ++ f → x7 ≡ x6 ++ g
    → x7 ≡ t ++ ((((((a ++ b) ++ c) ++ d) ++ e) ++ f) ++ g)
seven t a b c d e f g x1 x2 x3 x4 x5 x6 x7 e1 e2 e3 e4 e5 e6 e7 =
    e7 ∙ ap (λ (x : List ℕ). x ++ g) (six t a b c d e f x1 x2 x3 x4 x5 x6 e1 e2 e3 e4 e5 e6) ∙ append_assoc t (((((a ++ b) ++ c) ++ d) ++ e) ++ f) g
