-- Where a snapshot is kept among those of before.
use Rattle.std.proofs.Common.{◌≡◌, ℕ, zero, suc, ◌+◌, ◌≤◌, ◌<◌, Bool, true, false, cond, List, [], ◌∷◌, ◌++◌, length, map, set, refl, sym, ap, ◌∙◌, arith}
use Rattle.std.specs.Prelude.{not, nat_lt, Some, None}
use Rattle.std.specs.List.{position, position_or_len}
use Rattle.std.specs.Str.{bytes_eq}
use Rattle.vl_design.specs.Snapshots as run
use Rattle.vl_design.specs.Syntax.{Row}
use Rattle.ten_plan.specs.declared.held.Saved.{Saved}
use Rattle.ten_plan.specs.Held.{saved_of}

module _ (rows : List Row) (s : Saved) where
  abbrev place : List Saved → ℕ
  place xs = position_or_len (λ x. bytes_eq x.name s.name) xs

  abbrev over : List Saved → List run.Saved
  over xs = run.saved_over (map (saved_of rows) xs) (saved_of rows s)

  kept-at : (xs : List Saved) (n : ℕ) → place xs ≡ n → n < length xs → over xs ≡ map (saved_of rows) (set xs n s)
  kept-at [] n e lt = absurd (omega (arith, lt))
  kept-at (x ∷ xs) n e lt = by (bytes_eq x.name s.name) n e lt (kept-at xs)
    where
      by : (b : Bool) (n : ℕ) → cond (not b) (1 + place xs) 0 ≡ n → n < suc (length xs)
          → ((m : ℕ) → place xs ≡ m → m < length xs → over xs ≡ map (saved_of rows) (set xs m s))
          → cond b (saved_of rows s ∷ map (saved_of rows) xs) (saved_of rows x ∷ over xs) ≡ map (saved_of rows) (set (x ∷ xs) n s)
      by true zero e lt f = refl
      by true (suc m) e lt f = absurd (omega (arith, e))
      by false zero e lt f = absurd (omega (arith, e))
      by false (suc m) e lt f = ap (λ ys. saved_of rows x ∷ ys) (f m (omega (arith, e)) (omega (arith, lt)))

  kept-behind : (xs : List Saved) → length xs ≤ place xs → over xs ≡ map (saved_of rows) (xs ++ s ∷ [])
  kept-behind [] le = refl
  kept-behind (x ∷ xs) le = by (bytes_eq x.name s.name) le (kept-behind xs)
    where
      by : (b : Bool) → suc (length xs) ≤ cond (not b) (1 + place xs) 0
          → (length xs ≤ place xs → over xs ≡ map (saved_of rows) (xs ++ s ∷ []))
          → cond b (saved_of rows s ∷ map (saved_of rows) xs) (saved_of rows x ∷ over xs) ≡ map (saved_of rows) (x ∷ xs ++ s ∷ [])
      by true le f = absurd (omega (arith, le))
      by false le f = ap (λ ys. saved_of rows x ∷ ys) (f (omega (arith, le)))

  found : (n at len : ℕ) → Some n ≡ (cond (nat_lt at len) (Some at) None) → (at ≡ n) × (n < len)
  found n at len e = grind arith

  missed : (at len : ℕ) → None ≡ (cond (nat_lt at len) (Some at) None) → len ≤ at
  missed at len e = grind arith

  pub kept-in-place : (xs read : List Saved) (name : List ℕ) (n : ℕ) → read ≡ xs → name ≡ s.name → Some n ≡ position (λ x. bytes_eq x.name name) read → map (saved_of rows) (set xs n s) ≡ over xs
  kept-in-place xs read name n same named e =
      let at : Some n ≡ position (λ x. bytes_eq x.name s.name) xs = e ∙ (ap (λ ys. position (λ (x : Saved). bytes_eq x.name name) ys) same ∙ ap (λ t. position (λ (x : Saved). bytes_eq x.name t) xs) named) in
      let (there, within) = found n (place xs) (length xs) at in
      sym (kept-at xs n there within)

  pub kept-at-the-end : (xs read pushed : List Saved) (name : List ℕ) → read ≡ xs → name ≡ s.name → None ≡ position (λ x. bytes_eq x.name name) read → pushed ≡ xs ++ s ∷ [] → map (saved_of rows) pushed ≡ over xs
  kept-at-the-end xs read pushed name same named e is =
      let at : None ≡ position (λ x. bytes_eq x.name s.name) xs = e ∙ (ap (λ ys. position (λ (x : Saved). bytes_eq x.name name) ys) same ∙ ap (λ t. position (λ (x : Saved). bytes_eq x.name t) xs) named) in
      ap (map (saved_of rows)) is ∙ sym (kept-behind xs (missed (place xs) (length xs) at))
