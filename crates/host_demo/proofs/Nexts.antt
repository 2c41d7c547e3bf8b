-- Each tenant's lines are as they are expected, of 32: by evaluation, tenant by tenant.
use Rattle.std.specs.Prelude.{⊤}
use Rattle.std.proofs.Common.{ℕ, zero, suc, ◌≡◌, ◌<◌, ◌⊎◌, inl, inr, refl, sym, subst, arith}
use Rattle.std.proofs.lemmas.Bool.{cases_order}
use Rattle.std.specs.Fmt.{digits}
use Rattle.host_demo.proofs.Expected.{IsNext}

-- of each number below n
abbrev Below : (ℕ → Type 0) → ℕ → Type 0
Below P zero = ⊤
Below P (suc n) = Below P n × P n

below : (P : ℕ → Type 0) (k n : ℕ) → n < k → Below P k → P n
below P zero n l h = absurd (omega (arith, l))
below P (suc k) n l h = by (cases_order n k) (λ m. below P k n m h.0)
  where
    by : (n ≡ k) ⊎ ((n < k) ⊎ (k < n)) → (n < k → P n) → P n
    by (inl e) lower = subst P (sym e) h.1
    by (inr (inl m)) lower = lower m
    by (inr (inr m)) lower = absurd (omega (arith, l, m))

next-0 : IsNext 0
unfolding digits
next-0 = record { split = λ rest. refl; clean = (refl, (refl, (refl, tt))); declared = refl; whole = refl }

next-1 : IsNext 1
unfolding digits
next-1 = record { split = λ rest. refl; clean = (refl, (refl, (refl, tt))); declared = refl; whole = refl }

next-2 : IsNext 2
unfolding digits
next-2 = record { split = λ rest. refl; clean = (refl, (refl, (refl, tt))); declared = refl; whole = refl }

next-3 : IsNext 3
unfolding digits
next-3 = record { split = λ rest. refl; clean = (refl, (refl, (refl, tt))); declared = refl; whole = refl }

next-4 : IsNext 4
unfolding digits
next-4 = record { split = λ rest. refl; clean = (refl, (refl, (refl, tt))); declared = refl; whole = refl }

next-5 : IsNext 5
unfolding digits
next-5 = record { split = λ rest. refl; clean = (refl, (refl, (refl, tt))); declared = refl; whole = refl }

next-6 : IsNext 6
unfolding digits
next-6 = record { split = λ rest. refl; clean = (refl, (refl, (refl, tt))); declared = refl; whole = refl }

next-7 : IsNext 7
unfolding digits
next-7 = record { split = λ rest. refl; clean = (refl, (refl, (refl, tt))); declared = refl; whole = refl }

next-8 : IsNext 8
unfolding digits
next-8 = record { split = λ rest. refl; clean = (refl, (refl, (refl, tt))); declared = refl; whole = refl }

next-9 : IsNext 9
unfolding digits
next-9 = record { split = λ rest. refl; clean = (refl, (refl, (refl, tt))); declared = refl; whole = refl }

next-10 : IsNext 10
unfolding digits
next-10 = record { split = λ rest. refl; clean = (refl, (refl, (refl, tt))); declared = refl; whole = refl }

next-11 : IsNext 11
unfolding digits
next-11 = record { split = λ rest. refl; clean = (refl, (refl, (refl, tt))); declared = refl; whole = refl }

next-12 : IsNext 12
unfolding digits
next-12 = record { split = λ rest. refl; clean = (refl, (refl, (refl, tt))); declared = refl; whole = refl }

next-13 : IsNext 13
unfolding digits
next-13 = record { split = λ rest. refl; clean = (refl, (refl, (refl, tt))); declared = refl; whole = refl }

next-14 : IsNext 14
unfolding digits
next-14 = record { split = λ rest. refl; clean = (refl, (refl, (refl, tt))); declared = refl; whole = refl }

next-15 : IsNext 15
unfolding digits
next-15 = record { split = λ rest. refl; clean = (refl, (refl, (refl, tt))); declared = refl; whole = refl }

next-16 : IsNext 16
unfolding digits
next-16 = record { split = λ rest. refl; clean = (refl, (refl, (refl, tt))); declared = refl; whole = refl }

next-17 : IsNext 17
unfolding digits
next-17 = record { split = λ rest. refl; clean = (refl, (refl, (refl, tt))); declared = refl; whole = refl }

next-18 : IsNext 18
unfolding digits
next-18 = record { split = λ rest. refl; clean = (refl, (refl, (refl, tt))); declared = refl; whole = refl }

next-19 : IsNext 19
unfolding digits
next-19 = record { split = λ rest. refl; clean = (refl, (refl, (refl, tt))); declared = refl; whole = refl }

next-20 : IsNext 20
unfolding digits
next-20 = record { split = λ rest. refl; clean = (refl, (refl, (refl, tt))); declared = refl; whole = refl }

next-21 : IsNext 21
unfolding digits
next-21 = record { split = λ rest. refl; clean = (refl, (refl, (refl, tt))); declared = refl; whole = refl }

next-22 : IsNext 22
unfolding digits
next-22 = record { split = λ rest. refl; clean = (refl, (refl, (refl, tt))); declared = refl; whole = refl }

next-23 : IsNext 23
unfolding digits
next-23 = record { split = λ rest. refl; clean = (refl, (refl, (refl, tt))); declared = refl; whole = refl }

next-24 : IsNext 24
unfolding digits
next-24 = record { split = λ rest. refl; clean = (refl, (refl, (refl, tt))); declared = refl; whole = refl }

next-25 : IsNext 25
unfolding digits
next-25 = record { split = λ rest. refl; clean = (refl, (refl, (refl, tt))); declared = refl; whole = refl }

next-26 : IsNext 26
unfolding digits
next-26 = record { split = λ rest. refl; clean = (refl, (refl, (refl, tt))); declared = refl; whole = refl }

next-27 : IsNext 27
unfolding digits
next-27 = record { split = λ rest. refl; clean = (refl, (refl, (refl, tt))); declared = refl; whole = refl }

next-28 : IsNext 28
unfolding digits
next-28 = record { split = λ rest. refl; clean = (refl, (refl, (refl, tt))); declared = refl; whole = refl }

next-29 : IsNext 29
unfolding digits
next-29 = record { split = λ rest. refl; clean = (refl, (refl, (refl, tt))); declared = refl; whole = refl }

next-30 : IsNext 30
unfolding digits
next-30 = record { split = λ rest. refl; clean = (refl, (refl, (refl, tt))); declared = refl; whole = refl }

next-31 : IsNext 31
unfolding digits
next-31 = record { split = λ rest. refl; clean = (refl, (refl, (refl, tt))); declared = refl; whole = refl }

pub next : (n : ℕ) → n < 32 → IsNext n
next n l = below IsNext 32 n l ((((((((((((((((((((((((((((((((tt, next-0), next-1), next-2), next-3), next-4), next-5), next-6), next-7), next-8), next-9), next-10), next-11), next-12), next-13), next-14), next-15), next-16), next-17), next-18), next-19), next-20), next-21), next-22), next-23), next-24), next-25), next-26), next-27), next-28), next-29), next-30), next-31)
