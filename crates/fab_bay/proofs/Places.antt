-- Berths and points of a number.
use Rattle.std.proofs.Common.{◌≡◌, ◌≢◌, ℕ, zero, suc, ◌+◌, ◌<◌, Bool, true, false, Option, Some, None, List, [], ◌∷◌, ◌++◌, length, get_or, take, drop, map, refl, sym, ap, ◌∙◌, arith}
use Rattle.std.specs.Prelude.{◌==◌, ◌||◌, if◌then◌else◌, is_some, option_map, position}
use Rattle.std.specs.List.{remove}
use Rattle.std.proofs.lemmas.Bool.{eqb-true}
use Rattle.std.proofs.lemmas.Bool.Decides.{nat_tests}
use Rattle.std.proofs.lemmas.List.{set-get_or, set_split, append-nil}
use Rattle.fab_core.specs.fab_model.specs.Points.{Point}
use Rattle.fab_core.specs.fab_model.specs.Fabrics.{first_of, is_of}
use Rattle.fab_core.proofs.Firsts.{FirstAt}
use Rattle.fab_core.specs.fab_model.specs.Histories.{place_of, Away, Inside, Seat}
use Rattle.fab_bay.specs.declared.berth.Berth.{Berth}
use Rattle.fab_bay.specs.Berths.{seat, seats, AreBerths, AreWaiters, IsBerth, IsWaiter}
use Rattle.fab_core.specs.fab_model.proofs.Legality.{not_away, place_behind}
pub use Rattle.vl_design.specs.vl_base.proofs.Options.{some_parts as some-equal}

pub position-cons : {X : Type 0} (p : X → Bool) (x : X) (xs : List X) → position p (x ∷ xs) ≡ (if p x then Some 0 else option_map (λ k. k + 1) (position p xs))
position-cons p x xs = grind (arith, nat_tests)

-- a place depends on numbers alone
position-map : {X : Type 0} (number : X → ℕ) (t : ℕ) (xs : List X) → position (λ x. number x == t) xs ≡ position (λ n. n == t) (map number xs)
position-map number t [] = refl
position-map number t (x ∷ xs) =
    position-cons (λ y. number y == t) x xs
    ∙ ap (λ o. if number x == t then Some 0 else option_map (λ k. k + 1) o) (position-map number t xs)
    ∙ sym (position-cons (λ n. n == t) (number x) (map number xs))

berth-numbers : (n : ℕ) (bs : List Berth) (ps : List Point) → AreBerths n bs ps → map (λ (b : Berth). b.tenant) bs ≡ map (λ (p : Point). p.number) ps
berth-numbers n [] [] h = refl
berth-numbers n [] (p ∷ ps) h = absurd h
berth-numbers n (b ∷ bs) [] h = absurd h
berth-numbers n (b ∷ bs) (p ∷ ps) h = ap (λ k. k ∷ map (λ (x : Berth). x.tenant) bs) h.0.number ∙ ap (λ ns. p.number ∷ ns) (berth-numbers n bs ps h.1)

pub waiters_berths : (n : ℕ) (bs : List Berth) (ps : List Point) → AreWaiters n bs ps → AreBerths n bs ps
waiters_berths n [] [] h = tt
waiters_berths n [] (p ∷ ps) h = absurd h
waiters_berths n (b ∷ bs) [] h = absurd h
waiters_berths n (b ∷ bs) (p ∷ ps) h = (h.0.berth, waiters_berths n bs ps h.1)

-- berths and points of a number are at one place
pub berth-place : (t n : ℕ) (bs : List Berth) (ps : List Point) → AreBerths n bs ps → position (λ b. b.tenant == t) bs ≡ position (is_of t) ps
berth-place t n bs ps h =
    position-map (λ (b : Berth). b.tenant) t bs ∙ ap (position (λ k. k == t)) (berth-numbers n bs ps h) ∙ sym (position-map (λ (p : Point). p.number) t ps)

first-number : (t : ℕ) (ps : List Point) (p : Point) → first_of t ps ≡ Some p → p.number ≡ t
first-number t [] p e = let z : ⊥ = cc in absurd z
first-number t (q ∷ ps) p e = by (is_of t q) refl e (first-number t ps p)
  where
    by : (v : Bool) → is_of t q ≡ v → (if v then Some q else first_of t ps) ≡ Some p → (first_of t ps ≡ Some p → p.number ≡ t) → p.number ≡ t
    by true i e more = ap (λ (x : Point). x.number) (some-equal p q (sym e)) ∙ eqb-true q.number t i
    by false i e more = more e

-- the first of a number at its place has it
pub number_at : (t : ℕ) (ps : List Point) (k : ℕ) (d : Point) → FirstAt t ps k → (get_or ps k d).number ≡ t
number_at t ps k d h = first-number t ps (get_or ps k d) (h.first d)

-- ---- berths at places

pub berths_many : (n : ℕ) (bs : List Berth) (ps : List Point) → AreBerths n bs ps → length bs ≡ length ps
berths_many n [] [] h = refl
berths_many n [] (p ∷ ps) h = absurd h
berths_many n (b ∷ bs) [] h = absurd h
berths_many n (b ∷ bs) (p ∷ ps) h = let e = berths_many n bs ps h.1 in omega (arith, e)

pub berths_at : (n : ℕ) (bs : List Berth) (ps : List Point) (k : ℕ) (b : Berth) (p : Point) → AreBerths n bs ps → k < length bs → IsBerth n (get_or bs k b) (get_or ps k p)
berths_at n [] ps k b p h l = absurd (omega arith)
berths_at n (x ∷ bs) [] k b p h l = absurd h
berths_at n (x ∷ bs) (q ∷ ps) zero b p h l = h.0
berths_at n (x ∷ bs) (q ∷ ps) (suc k) b p h l = berths_at n bs ps k b p h.1 (omega (arith, l))

pub berths_remove : (n : ℕ) (bs : List Berth) (ps : List Point) (k : ℕ) → AreBerths n bs ps → AreBerths n (remove bs k) (remove ps k)
berths_remove n [] [] zero h = tt
berths_remove n [] [] (suc k) h = tt
berths_remove n [] (p ∷ ps) k h = absurd h
berths_remove n (b ∷ bs) [] k h = absurd h
berths_remove n (b ∷ bs) (p ∷ ps) zero h = h.1
berths_remove n (b ∷ bs) (p ∷ ps) (suc k) h = (h.0, berths_remove n bs ps k h.1)

pub waiters_at : (n : ℕ) (bs : List Berth) (ps : List Point) (k : ℕ) (b : Berth) (p : Point) → AreWaiters n bs ps → k < length bs → IsWaiter n (get_or bs k b) (get_or ps k p)
waiters_at n [] ps k b p h l = absurd (omega arith)
waiters_at n (x ∷ bs) [] k b p h l = absurd h
waiters_at n (x ∷ bs) (q ∷ ps) zero b p h l = h.0
waiters_at n (x ∷ bs) (q ∷ ps) (suc k) b p h l = waiters_at n bs ps k b p h.1 (omega (arith, l))

pub waiters_remove : (n : ℕ) (bs : List Berth) (ps : List Point) (k : ℕ) → AreWaiters n bs ps → AreWaiters n (remove bs k) (remove ps k)
waiters_remove n [] [] zero h = tt
waiters_remove n [] [] (suc k) h = tt
waiters_remove n [] (p ∷ ps) k h = absurd h
waiters_remove n (b ∷ bs) [] k h = absurd h
waiters_remove n (b ∷ bs) (p ∷ ps) zero h = h.1
waiters_remove n (b ∷ bs) (p ∷ ps) (suc k) h = (h.0, waiters_remove n bs ps k h.1)

pub waiters_snoc : (n : ℕ) (bs : List Berth) (ps : List Point) (b : Berth) (p : Point) → AreWaiters n bs ps → IsWaiter n b p → AreWaiters n (bs ++ b ∷ []) (ps ++ p ∷ [])
waiters_snoc n [] [] b p h i = (i, tt)
waiters_snoc n [] (q ∷ ps) b p h i = absurd h
waiters_snoc n (x ∷ bs) [] b p h i = absurd h
waiters_snoc n (x ∷ bs) (q ∷ ps) b p h i = (h.0, waiters_snoc n bs ps b p h.1 i)

pub split_at : (bs : List Berth) (i : ℕ) (d : Berth) → i < length bs → bs ≡ take i bs ++ get_or bs i d ∷ drop (suc i) bs
split_at bs i d l = sym (set-get_or bs i d) ∙ set_split bs i (get_or bs i d) l

pub removed_many : (bs : List Berth) (k : ℕ) → k < length bs → length (remove bs k) + 1 ≡ length bs
removed_many [] k l = absurd (omega arith)
removed_many (b ∷ bs) zero l = omega arith
removed_many (b ∷ bs) (suc k) l = let e = removed_many bs k (omega (arith, l)) in omega (arith, e)

-- ---- places by the history

-- whether one of this number is among berths
abbrev is_among : ℕ → List Berth → Bool
is_among t bs = is_some (position (λ b. b.tenant == t) bs)

among-by : (b : Bool) (o : Option ℕ) → is_some (if b then Some 0 else option_map (λ k. k + 1) o) ≡ (b || is_some o)
among-by true o = refl
among-by false None = refl
among-by false (Some k) = refl

among-cons : (t : ℕ) (b : Berth) (bs : List Berth) → is_among t (b ∷ bs) ≡ ((b.tenant == t) || is_among t bs)
among-cons t b bs = ap is_some (position-cons (λ x. x.tenant == t) b bs) ∙ among-by (b.tenant == t) (position (λ x. x.tenant == t) bs)

away_by : (t : ℕ) (came : Bool) (bs : List Berth) → is_among t bs ≡ false → place_of t (map (seat came) bs) ≡ Away
away_by t came [] e = refl
away_by t came (b ∷ bs) e = step (b.tenant == t) (is_among t bs) refl (sym (among-cons t b bs) ∙ e) (away_by t came bs)
  where
    step : (x y : Bool) → is_among t bs ≡ y → (x || y) ≡ false → (is_among t bs ≡ false → place_of t (map (seat came) bs) ≡ Away)
        → (if x then Inside b.since b.noted came (seat came b).deed else place_of t (map (seat came) bs)) ≡ Away
    step true y i e r = let z : ⊥ = cc in absurd z
    step false y i e r = r (i ∙ e)

here_by : (t : ℕ) (came : Bool) (bs : List Berth) (ss : List Seat) → is_among t bs ≡ true → place_of t (map (seat came) bs ++ ss) ≢ Away
here_by t came [] ss e = let z : ⊥ = cc in absurd z
here_by t came (b ∷ bs) ss e = step (b.tenant == t) (is_among t bs) refl (sym (among-cons t b bs) ∙ e) (here_by t came bs ss)
  where
    step : (x y : Bool) → is_among t bs ≡ y → (x || y) ≡ true → (is_among t bs ≡ true → place_of t (map (seat came) bs ++ ss) ≢ Away)
        → (if x then Inside b.since b.noted came (seat came b).deed else place_of t (map (seat came) bs ++ ss)) ≢ Away
    step true y i e r = λ a. not_away b.since b.noted came (seat came b).deed a
    step false y i e r = r (i ∙ e)

-- a tenant is away by the history where it is among neither
pub away_if : (t : ℕ) (bs ws : List Berth) → (is_some (position (λ b. b.tenant == t) bs) || is_some (position (λ b. b.tenant == t) ws)) ≡ false → place_of t (seats bs ws) ≡ Away
away_if t bs ws e = step (is_among t bs) (is_among t ws) refl refl e
  where
    step : (x y : Bool) → is_among t bs ≡ x → is_among t ws ≡ y → (x || y) ≡ false → place_of t (seats bs ws) ≡ Away
    step true y i j e = let z : ⊥ = cc in absurd z
    step false y i j e = place_behind t (map (seat true) bs) (map (seat false) ws) (away_by t true bs i) ∙ away_by t false ws (j ∙ e)

pub here_if : (t : ℕ) (bs ws : List Berth) → (is_some (position (λ b. b.tenant == t) bs) || is_some (position (λ b. b.tenant == t) ws)) ≡ true → place_of t (seats bs ws) ≢ Away
here_if t bs ws e = step (is_among t bs) (is_among t ws) refl refl e
  where
    step : (x y : Bool) → is_among t bs ≡ x → is_among t ws ≡ y → (x || y) ≡ true → place_of t (seats bs ws) ≢ Away
    step true y i j e = here_by t true bs (map (seat false) ws) i
    step false y i j e = λ a. here_by t false ws [] (j ∙ e) (ap (place_of t) (append-nil (map (seat false) ws)) ∙ sym (place_behind t (map (seat true) bs) (map (seat false) ws) (away_by t true bs i)) ∙ a)
