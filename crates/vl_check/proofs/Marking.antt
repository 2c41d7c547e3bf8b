-- Marks put one after another, and tests of marks.
use Rattle.std.proofs.Common.{◌≡◌, refl, sym, ap, ◌∙◌, ℕ, zero, suc, ◌+◌, ◌<◌, ◌==◌, Bool, true, false, List, [], ◌∷◌, length, get_or, drop, map, arith}
use Rattle.std.specs.Prelude.{◌||◌, ◌&&◌, not, if◌then◌else◌}
use Rattle.std.specs.List.{list_any}
use Rattle.std.proofs.lemmas.List.{at_drop_more}
use Rattle.vl_design.specs.declared.design.Signal.{Signal}
use Rattle.vl_design.specs.declared.design.SigKind.{SigKind}
use Rattle.vl_design.specs.Placed.{Process}
use Rattle.vl_design.specs.declared.design.Event.{Event}
use Rattle.vl_sites.specs.Sites.{What, Reads, Sets, Heads, Calls, Delays, Tasks, Site, sites}
use Rattle.vl_check.specs.Bodies.{kind_is}
use Rattle.vl_check.specs.Rules.{reads, sets}
use Rattle.vl_check.specs.Triggers.{has_value, is_list, is_missing, lacks_some}

-- the one at a place, and what is behind it
left-is : {A B : Type 0} (F : List A → B) (es : List A) (i : ℕ) (y : A) → i < length es → y ≡ get_or es i y → F (drop i es) ≡ F (y ∷ drop (i + 1) es)
left-is F es i y h is = at_drop_more F es i y h ∙ ap (λ z. F (z ∷ drop (i + 1) es)) (sym is)

both : (p r m v : Bool) → (if r then m else (if p then m else v)) ≡ (if (p || r) then m else v)
both true true m v = refl
both true false m v = refl
both false true m v = refl
both false false m v = refl

pub mark-step : {A B : Type 0} (g : A → B) (f : B → Bool) (es : List A) (i : ℕ) (y : A) (m v w r : Bool) → i < length es → y ≡ get_or es i y → w ≡ (if f (g y) then m else v)
    → (if list_any f (map g (drop i es)) then m else v) ≡ r → (if list_any f (map g (drop (i + 1) es)) then m else w) ≡ r
mark-step g f es i y m v w r h is k inv =
    ap (λ z. if list_any f (map g (drop (i + 1) es)) then m else z) k
    ∙ (both (f (g y)) (list_any f (map g (drop (i + 1) es))) m v
    ∙ (sym (left-is (λ z. if list_any f (map g z) then m else v) es i y h is) ∙ inv))

pub any-same : {A : Type 0} (p q : A → Bool) → ((x : A) → p x ≡ q x) → (xs : List A) → list_any p xs ≡ list_any q xs
any-same p q h [] = refl
any-same p q h (x ∷ xs) = ap (λ b. b || list_any p xs) (h x) ∙ ap (λ b. q x || b) (any-same p q h xs)

pub ruleset steps = (mark-step)

-- ---- lists that lack a signal

pub there : (test : SigKind → Bool) (signals : List Signal) (k : ℕ) → kind_is test signals k ≡ true → k < length signals
there test [] k h = let z : ⊥ = cc in absurd z
there test (x ∷ xs) zero h = omega arith
there test (x ∷ xs) (suc k) h = let l = there test xs k h in omega arith

-- what is neither listed nor assigned isn't marked
unmarked : (signals : List Signal) (a : Process) (marks mid new : List Bool) (k : ℕ) → get_or marks k false ≡ false
    → (k < length signals → get_or mid k false ≡ (if list_any (λ e. e.signal == k) a.events then true else get_or marks k false))
    → (k < length signals → get_or new k false ≡ (if list_any (λ s. sets (λ j. j == k) s.what) (sites a.body) then true else get_or mid k false))
    → k < length signals → not (get_or new k false) ≡ (not (list_any (λ e. e.signal == k) a.events) && not (list_any (λ s. sets (λ j. j == k) s.what) (sites a.body)))
unmarked signals a marks mid new k h i j n =
    ap not (j n ∙ ap (λ z. if list_any (λ s. sets (λ j. j == k) s.what) (sites a.body) then true else z) (i n ∙ ap (λ z. if list_any (λ e. e.signal == k) a.events then true else z) h))
    ∙ by (list_any (λ e. e.signal == k) a.events) (list_any (λ s. sets (λ j. j == k) s.what) (sites a.body))
  where
    by : (p q : Bool) → not (if q then true else (if p then true else false)) ≡ (not p && not q)
    by true true = refl
    by true false = refl
    by false true = refl
    by false false = refl

reads-same : (p q : ℕ → Bool) → ((k : ℕ) → p k ≡ q k) → (w : What) → reads p w ≡ reads q w
reads-same p q h (Reads k) = h k
reads-same p q h (Sets k word later) = refl
reads-same p q h (Heads k) = refl
reads-same p q h (Calls f) = refl
reads-same p q h Delays = refl
reads-same p q h (Tasks name given) = refl

pub lacking : (signals : List Signal) (a : Process) (all : List Site) (events : List Event) (b r : Bool) (marks mid new : List Bool)
    → all ≡ sites a.body → events ≡ a.events → b ≡ is_list events → b ≡ true
    → ((k : ℕ) → k < length signals → get_or marks k false ≡ false)
    → ((k : ℕ) → k < length signals → get_or mid k false ≡ (if list_any (λ e. e.signal == k) events then true else get_or marks k false))
    → ((k : ℕ) → k < length signals → get_or new k false ≡ (if list_any (λ s. sets (λ j. j == k) s.what) all then true else get_or mid k false))
    → r ≡ list_any (λ s. reads (λ k. kind_is has_value signals k && not (get_or new k false)) s.what) all → r ≡ lacks_some signals a
lacking signals a all events b r marks mid new h k listed holds clean i j is =
    is ∙ (any-same _ _ (λ (s : Site). reads-same _ _ point s.what) all
    ∙ (ap (list_any (λ s. reads (is_missing signals a) s.what)) h
    ∙ sym (ap (λ z. z && list_any (λ s. reads (is_missing signals a) s.what) (sites a.body)) (ap is_list (sym k) ∙ (sym listed ∙ holds)))))
  where
    point : (n : ℕ) → (kind_is has_value signals n && not (get_or new n false)) ≡ is_missing signals a n
    point n = by (kind_is has_value signals n) refl
      where
        by : (t : Bool) → kind_is has_value signals n ≡ t → (t && not (get_or new n false)) ≡ (t && (not (list_any (λ e. e.signal == n) a.events) && not (list_any (λ s. sets (λ j. j == n) s.what) (sites a.body))))
        by false e = refl
        by true e =
            let l = there has_value signals n e in
            unmarked signals a marks mid new n (clean n l) (λ m. i n m ∙ ap (λ z. if list_any (λ e. e.signal == n) z then true else get_or marks n false) k)
            (λ m. j n m ∙ ap (λ z. if list_any (λ s. sets (λ j. j == n) s.what) z then true else get_or mid n false) h) l
