-- Where no two have one number, the first that waits or is due to leave is the one of its number.
use Rattle.std.proofs.Common.{◌≡◌, ℕ, List, [], ◌∷◌, refl, ap, ◌∙◌, subst, Bool, true, false, cond, Option, Some, None, arith}
use Rattle.std.specs.Prelude.{is_some}
use Rattle.std.proofs.lemmas.Bool.Decides.{nat_tests}
use Rattle.ten_parcel.specs.ten_shell.specs.declared.shell.Why.{Why}
use Rattle.fab_model.specs.Points.{Point, due, waits}
use Rattle.fab_model.specs.Fabrics.{first_leaving, first_of, first_waiting, is_of, AreOnce}

of_itself : (p : Point) (t : ℕ) → p.number ≡ t → is_of t p ≡ true
of_itself p t e = grind (arith, nat_tests, e)

of_number : (p : Point) (t : ℕ) → is_of t p ≡ true → p.number ≡ t
of_number p t e = grind (arith, nat_tests, e)

-- the head is the first of its number
first_is_head : (p : Point) (ps : List Point) (t : ℕ) → p.number ≡ t → first_of t (p ∷ ps) ≡ Some p
first_is_head p ps t e = ap (λ b. cond b (Some p) (first_of t ps)) (of_itself p t e)

-- one behind the head is the first of its number, as the head's is another
first_behind : (p : Point) (ps : List Point) (t : ℕ) (q : Point) → first_of p.number ps ≡ None → first_of t ps ≡ Some q → first_of t (p ∷ ps) ≡ Some q
first_behind p ps t q none e = by (is_of t p) refl
  where
    by : (b : Bool) → is_of t p ≡ b → cond (is_of t p) (Some p) (first_of t ps) ≡ Some q
    by true h =
        let there : first_of t ps ≡ None = subst (λ k. first_of k ps ≡ None) (of_number p t h) none in
        let z : ⊥ = cc in
        absurd z
    by false h = ap (λ b. cond b (Some p) (first_of t ps)) h ∙ e

pub waiting_found : (ps : List Point) (t : ℕ) → AreOnce ps → first_waiting ps ≡ Some t → (p : Point) × (first_of t ps ≡ Some p) × (waits p ≡ true)
waiting_found [] t once e = let z : ⊥ = cc in absurd z
waiting_found (p ∷ ps) t once e = by (waits p) refl e (waiting_found ps t once.1)
  where
    by : (b : Bool) → waits p ≡ b → cond b (Some p.number) (first_waiting ps) ≡ Some t → (first_waiting ps ≡ Some t → (q : Point) × (first_of t ps ≡ Some q) × (waits q ≡ true)) →
        (q : Point) × (first_of t (p ∷ ps) ≡ Some q) × (waits q ≡ true)
    by true h f behind = let same : p.number ≡ t = cc in (p, first_is_head p ps t same, h)
    by false h f behind = let i = behind f in (i.0, first_behind p ps t i.0 once.0 i.1, i.2)

pub leaving_found : (ps : List Point) (t : ℕ) → AreOnce ps → first_leaving ps ≡ Some t → (p : Point) × (why : Why) × (first_of t ps ≡ Some p) × (due p ≡ Some why)
leaving_found [] t once e = let z : ⊥ = cc in absurd z
leaving_found (p ∷ ps) t once e = by (due p) refl e (leaving_found ps t once.1)
  where
    by : (x : Option Why) → due p ≡ x → cond (is_some x) (Some p.number) (first_leaving ps) ≡ Some t →
        (first_leaving ps ≡ Some t → (q : Point) × (why : Why) × (first_of t ps ≡ Some q) × (due q ≡ Some why)) → (q : Point) × (why : Why) × (first_of t (p ∷ ps) ≡ Some q) × (due q ≡ Some why)
    by (Some why) h f behind = let same : p.number ≡ t = cc in (p, why, first_is_head p ps t same, h)
    by None h f behind = let i = behind f in (i.0, i.1, first_behind p ps t i.0 once.0 i.2, i.3)
