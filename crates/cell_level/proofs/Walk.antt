-- A walk back through all numbers, step by step.
use Rattle.std.proofs.Common.{◌≡◌, ◌≢◌, ℕ, zero, suc, ◌+◌, ◌<◌, ◌≤◌, Bool, true, false, List, [], ◌∷◌, ◌++◌, length, get_or, refl, sym, ap, ◌∙◌, subst, arith}
use Rattle.std.specs.Prelude.{◌==◌, ◌⊎◌, cond, nat_lt}
use Rattle.std.proofs.lemmas.Bool.{true≢false, lt-ltb, le-ltb, cases_lt}
use Rattle.std.proofs.lemmas.List.{get_or_past}
use Rattle.std.proofs.lemmas.List.Sums.{sum_by-cons}
use mathlib.Core.Logic.{inl, inr}
use Rattle.cell_level.specs.Cycles.{times, IsOnCycle}
use Rattle.cell_level.specs.Walks.{one_if, on, Marks, IsWay, InOrder, NoneLeads, Back, Walking}
use Rattle.cell_level.proofs.Marking.{either, one_same, one_on, one_off, one_at_most, is_on, is_off, marked_same, marked_other, marked_kept, times_same, times_other}
use Rattle.cell_level.proofs.Ways.{behind_is_off, back_round}

there : (xs : List ℕ) (k d : ℕ) → k < length xs → 0 < times (get_or xs k d) xs
there [] k d l = absurd (omega arith)
there (x ∷ xs) zero d l = omega (arith, sum_by-cons (λ z. cond (z == x) 1 0) x xs, one_same x x refl)
there (x ∷ xs) (suc k) d l = omega (arith, sum_by-cons (λ z. cond (z == get_or xs k d) 1 0) x xs, there xs k d (omega arith))

module _ (E : ℕ → ℕ → Type 0) where
  none_more : (ps : List ℕ) (q y : ℕ) → NoneLeads E ps q → (E y q → ⊥) → NoneLeads E (ps ++ y ∷ []) q
  none_more [] q y h n = (n, tt)
  none_more (p ∷ ps) q y h n = (h.0, none_more ps q y h.1 n)

  -- one that nobody before is related from is put behind
  pub in_order : (xs : List ℕ) (y : ℕ) → InOrder E xs → ((x : ℕ) → 0 < times x xs → E y x → ⊥) → (E y y → ⊥) → InOrder E (xs ++ y ∷ [])
  in_order [] y h n s = ((s, tt), tt)
  in_order (x ∷ xs) y h n s = (
    none_more (x ∷ xs) x y h.0 (n x (omega (arith, sum_by-cons (λ z. cond (z == x) 1 0) x xs, one_same x x refl))),
    in_order xs y h.1 (λ z l. n z (omega (arith, l, sum_by-cons (λ w. cond (w == z) 1 0) x xs))) s,
  )

  module _ (n : ℕ) where
    -- a new one is come to, at the end of the way
    pub entered : (seen seen' done : List Bool) (order stack : List ℕ) (cyclic : Bool) (y : ℕ) → Walking E n seen done order stack cyclic → on seen y ≡ false → Marks seen y seen' →
        length seen' ≡ length seen → Walking E n seen' done order (stack ++ y ∷ []) cyclic
    entered seen seen' done order stack cyclic y w new m l = record {
      long = l ∙ w.long;
      done_long = w.done_long;
      once = λ x. once x (either y x);
      left = w.left;
      ordered = w.ordered;
      closed = w.closed;
      off = w.off;
      round = w.round;
    }
      where
        once : (x : ℕ) → (y ≡ x) ⊎ (y ≢ x) → times x (stack ++ y ∷ []) + one_if (on done x) ≡ one_if (on seen' x)
        once x (inl k) = subst (λ z. times z (stack ++ y ∷ []) + one_if (on done z) ≡ one_if (on seen' z)) k
            (omega (arith, times_same stack y y refl, w.once y, one_off (on seen y) new, one_on (on seen' y) (marked_same seen seen' y m)))
        once x (inr d) = omega (arith, times_other stack y x d, w.once x, ap one_if (marked_other seen seen' y m x (λ k. d (sym k))))

    -- the end of the way is left
    module _ (seen done done' : List Bool) (order rest : List ℕ) (cyclic : Bool) (b : ℕ) (w : Walking E n seen done order (rest ++ b ∷ []) cyclic) (m : Marks done b done') (l : length done' ≡ length done) where
      sum : times b rest + 1 + one_if (on done b) ≡ one_if (on seen b)
      sum = omega (arith, times_same rest b b refl, w.once b)

      undone : on done b ≡ false
      undone = is_off (on done b) (omega (arith, sum, one_at_most (on seen b)))

      left_once : (x : ℕ) → (b ≡ x) ⊎ (b ≢ x) → times x rest + one_if (on done' x) ≡ one_if (on seen x)
      left_once x (inl k) = subst (λ z. times z rest + one_if (on done' z) ≡ one_if (on seen z)) k
          (omega (arith, sum, one_at_most (on seen b), one_on (on done' b) (marked_same done done' b m)))
      left_once x (inr d) = omega (arith, times_other rest b x d, w.once x, ap one_if (marked_other done done' b m x (λ k. d (sym k))))

      left_left : (x : ℕ) → (b ≡ x) ⊎ (b ≢ x) → times x (order ++ b ∷ []) ≡ one_if (on done' x)
      left_left x (inl k) = subst (λ z. times z (order ++ b ∷ []) ≡ one_if (on done' z)) k
          (omega (arith, times_same order b b refl, w.left b, one_off (on done b) undone, one_on (on done' b) (marked_same done done' b m)))
      left_left x (inr d) = omega (arith, times_other order b x d, w.left x, ap one_if (marked_other done done' b m x (λ k. d (sym k))))

      -- all that it is related from have been left before
      pub left_behind : ((p : ℕ) → E p b → on done p ≡ true) → Walking E n seen done' (order ++ b ∷ []) rest cyclic
      left_behind all = record {
        long = w.long;
        done_long = l ∙ w.done_long;
        once = λ x. left_once x (either b x);
        left = λ x. left_left x (either b x);
        ordered = λ f. in_order order b (w.ordered f)
            (λ x t e. true≢false (sym (w.closed f b x e (is_on (on done x) (omega (arith, w.left x, t)))) ∙ undone))
            (λ e. true≢false (sym (all b e) ∙ undone));
        closed = λ f p q e h. closed f p q e h (either b q);
        off = λ f x h. off f x h (either b x);
        round = w.round;
      }
        where
          closed : cyclic ≡ false → (p q : ℕ) → E p q → on done' q ≡ true → (b ≡ q) ⊎ (b ≢ q) → on done' p ≡ true
          closed f p q e h (inl k) = marked_kept done done' b m p (all p (subst (λ z. E p z) (sym k) e))
          closed f p q e h (inr d) = marked_kept done done' b m p (w.closed f p q e (sym (marked_other done done' b m q (λ k. d (sym k))) ∙ h))

          off : cyclic ≡ false → (x : ℕ) → on done' x ≡ true → (b ≡ x) ⊎ (b ≢ x) → IsOnCycle E x → ⊥
          off f x h (inl k) c = behind_is_off E (on done) (w.closed f) b all undone (subst (IsOnCycle E) (sym k) c)
          off f x h (inr d) c = w.off f x (sym (marked_other done done' b m x (λ k. d (sym k))) ∙ h) c

      -- some is on the way still
      pub left_round : (p : ℕ) → IsWay (Back E) (rest ++ b ∷ []) → E p b → on done p ≡ false → on seen p ≡ true → Walking E n seen done' (order ++ b ∷ []) rest true
      left_round p way e f s = record {
        long = w.long;
        done_long = l ∙ w.done_long;
        once = λ x. left_once x (either b x);
        left = λ x. left_left x (either b x);
        ordered = λ k. absurd (true≢false k);
        closed = λ k. absurd (true≢false k);
        off = λ k. absurd (true≢false k);
        round = λ k. (b, back_round E rest b p way (omega (arith, w.once p, one_off (on done p) f, one_on (on seen p) s)) e);
      }

    -- at the end each of n has been left
    pub each_left : (seen done : List Bool) (order : List ℕ) (cyclic : Bool) → Walking E n seen done order [] cyclic → ((x : ℕ) → x < n → on seen x ≡ true) →
        (p : ℕ) → times p order ≡ one_if (nat_lt p n)
    each_left seen done order cyclic w all p = go (cases_lt p n)
      where
        go : (p < n) ⊎ (n ≤ p) → times p order ≡ one_if (nat_lt p n)
        go (inl k) = omega (arith, w.left p, w.once p, one_on (on seen p) (all p k), one_on (nat_lt p n) (lt-ltb p n k))
        go (inr k) = omega (arith, w.left p, one_off (on done p) (get_or_past done p false (omega (arith, w.done_long, k))), one_off (nat_lt p n) (le-ltb p n k))

    below : (flags : List Bool) (x : ℕ) → on flags x ≡ true → x < length flags
    below flags x h = go (cases_lt x (length flags))
      where
        go : (x < length flags) ⊎ (length flags ≤ x) → x < length flags
        go (inl k) = k
        go (inr k) = absurd (true≢false (sym h ∙ get_or_past flags x false k))

    -- the end of the way is one of the numbers
    pub end_below : (seen done : List Bool) (order rest : List ℕ) (cyclic : Bool) (b : ℕ) → Walking E n seen done order (rest ++ b ∷ []) cyclic → b < n
    end_below seen done order rest cyclic b w =
        let l : b < length seen = below seen b (is_on (on seen b) (omega (arith, w.once b, times_same rest b b refl))) in
        omega (arith, l, w.long)

    pub all_done : (seen done : List Bool) (order : List ℕ) (cyclic : Bool) → Walking E n seen done order [] cyclic → (x : ℕ) → on seen x ≡ true → on done x ≡ true
    all_done seen done order cyclic w x h = is_on (on done x) (omega (arith, w.once x, one_on (on seen x) h))

    pub left_below : (seen done : List Bool) (order stack : List ℕ) (cyclic : Bool) → Walking E n seen done order stack cyclic → (k d : ℕ) → k < length order → get_or order k d < n
    left_below seen done order stack cyclic w k d l =
        let y = get_or order k d in
        let h : y < length done = below done y (is_on (on done y) (omega (arith, w.left y, there order k d l))) in
        omega (arith, h, w.done_long)

    pub begun : (seen done : List Bool) → length seen ≡ n → length done ≡ n → ((x : ℕ) → on seen x ≡ false) → ((x : ℕ) → on done x ≡ false) → Walking E n seen done [] [] false
    begun seen done l k f g = record {
      long = l;
      done_long = k;
      once = λ x. omega (arith, one_off (on seen x) (f x), one_off (on done x) (g x));
      left = λ x. omega (arith, one_off (on done x) (g x));
      ordered = λ _. tt;
      closed = λ _ p q e h. absurd (true≢false (sym h ∙ g q));
      off = λ _ x h. absurd (true≢false (sym h ∙ g x));
      round = λ k. absurd (true≢false (sym k));
    }
