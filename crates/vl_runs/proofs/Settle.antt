-- Settling ends, in the values that one pass in order gives.
use Rattle.std.proofs.Common.{◌≡◌, ◌≢◌, ℕ, zero, suc, ◌+◌, ◌^◌, ◌<◌, ◌≤◌, Bool, true, false, List, [], ◌∷◌, length, Option, Some, None, refl, sym, ap, ◌∙◌, subst, arith}
use Rattle.std.specs.Prelude.{◌||◌, ◌⊎◌}
use mathlib.Core.Logic.{inl, inr}
use Rattle.vl_runs.specs.Queue.{first_pending, first_done, woken, is_pending, next_of, next, Settles, rests, goes}
use Rattle.vl_runs.specs.Nets.{In, AllBelow, pass, IsSolved, AreSolved, NoneDrives, Levelled, IsOrder, Lawful, SameOthers, Waits}
use Rattle.vl_runs.proofs.Logic.{or_left, or_right, either, never}
use Rattle.vl_runs.proofs.Pending.{count_pending, found, none_found, done_length, woken_length, woken_none, woken_at}
use Rattle.vl_paths.specs.vl_base.proofs.Numbers.{equal_or_not as equal?}

weight : {X Y : Type 0} → X ⊎ Y → ℕ → ℕ
weight (inl x) w = 0
weight (inr y) w = w

no_weight : {X : Type 0} (e : X ⊎ (X → ⊥)) (w : ℕ) → X → weight e w ≡ 0
unfolding weight
no_weight (inl x) w h = refl
no_weight (inr y) w h = absurd (y h)

full_weight : {X : Type 0} (e : X ⊎ (X → ⊥)) (w : ℕ) → (X → ⊥) → weight e w ≡ w
unfolding weight
full_weight (inl x) w h = absurd (h x)
full_weight (inr y) w h = refl

most : {X Y : Type 0} (e : X ⊎ Y) (w : ℕ) → weight e w ≤ w
unfolding weight
most (inl x) w = omega arith
most (inr y) w = omega arith

pow_more : (k : ℕ) → 2 ^ suc k ≡ 2 ^ k + 2 ^ k
pow_more k = omega arith

-- a queue settles in one state
module _ {V : Type 0} (run : ℕ → V → V) (wakes : V → V → ℕ → Bool) where
  pub settles_once : {q a b : V × List Bool} → Settles run wakes q a → Settles run wakes q b → a ≡ b
  settles_once (rests e) (rests f) = refl
  settles_once (rests e) (goes f s) = let z = sym e ∙ f in let y : ⊥ = cc in absurd y
  settles_once (goes e r) (rests f) = let z = sym e ∙ f in let y : ⊥ = cc in absurd y
  settles_once {q} {a} {b} (goes {r = x} e r) (goes {r = y} f s) =
      let z = sym e ∙ f in
      let same : x ≡ y = cc in
      settles_once r (subst (λ z. Settles run wakes z b) (sym same) s)

module _ {V B : Type 0} {at : V → B → ℕ} {Fine : V → Type 0} {run : ℕ → V → V} {wakes : V → V → ℕ → Bool} {drives reads : ℕ → B → Bool} {n : ℕ} (laws : Lawful at Fine run wakes drives reads n) where
  -- q's bits and what it reads are the same: so it stays solved
  pub stays : (q : ℕ) (v w : V) → Fine v → Fine w → ((b : B) → reads q b ≡ true → at w b ≡ at v b) → ((b : B) → drives q b ≡ true → at w b ≡ at v b) → IsSolved run v q → IsSolved run w q
  stays q v w f g read driven s = laws.whole (run q w) w (laws.fine q w g) g (λ b. bit b (either (drives q b)))
    where
      bit : (b : B) → (drives q b ≡ true) ⊎ (drives q b ≡ false) → at (run q w) b ≡ at w b
      bit b (inr k) = laws.keeps q w b g k
      bit b (inl k) = laws.depends q w v g f read b k ∙ ap (λ x. at x b) s ∙ sym (driven b k)

  -- another's evaluation leaves it solved, where what it reads is kept
  pub stays_behind : (p q : ℕ) (v : V) → Fine v → p < n → q < n → p ≢ q → ((b : B) → reads q b ≡ true → at (run p v) b ≡ at v b) → IsSolved run v q → IsSolved run (run p v) q
  stays_behind p q v f i j d same s = stays q v (run p v) f (laws.fine p v f) same (λ b k. laws.keeps p v b f (other b k (either (drives p b)))) s
    where
      other : (b : B) → drives q b ≡ true → (drives p b ≡ true) ⊎ (drives p b ≡ false) → drives p b ≡ false
      other b k (inl g) = absurd (d (laws.once p q b i j g k))
      other b k (inr g) = g

  -- what p doesn't drive it keeps, so a process that reads nothing of p's reads the same
  pub apart : (p q : ℕ) (v : V) → Fine v → ((b : B) → drives p b ≡ true → reads q b ≡ false) → (b : B) → reads q b ≡ true → at (run p v) b ≡ at v b
  apart p q v f none b r = go (either (drives p b))
    where
      go : (drives p b ≡ true) ⊎ (drives p b ≡ false) → at (run p v) b ≡ at v b
      go (inl g) = never r (none b g)
      go (inr g) = laws.keeps p v b f g

  -- an evaluation that reads nothing of its own needs no second one
  pub settled : (p : ℕ) (v : V) → Fine v → ((b : B) → drives p b ≡ true → reads p b ≡ false) → IsSolved run (run p v) p
  settled p v f none = laws.whole (run p (run p v)) (run p v) (laws.fine p (run p v) (laws.fine p v f)) (laws.fine p v f) (λ b. bit b (either (drives p b)))
    where
      bit : (b : B) → (drives p b ≡ true) ⊎ (drives p b ≡ false) → at (run p (run p v)) b ≡ at (run p v) b
      bit b (inr k) = laws.keeps p (run p v) b (laws.fine p v f) k
      bit b (inl k) = laws.depends p (run p v) v (laws.fine p v f) f (apart p p v f none) b k

  -- what a solved process drives is its equation's value over what it reads
  pub equation : (p : ℕ) (v w : V) → Fine v → Fine w → IsSolved run v p → ((b : B) → reads p b ≡ true → at v b ≡ at w b) → (b : B) → drives p b ≡ true → at v b ≡ at (run p w) b
  equation p v w f g s same b d = sym (ap (λ x. at x b) s) ∙ laws.depends p v w f g same b d

  none_of : (ps : List ℕ) (p q : ℕ) → NoneDrives drives reads ps q → In p ps → (b : B) → drives p b ≡ true → reads q b ≡ false
  none_of [] p q h i b d = absurd i
  none_of (x ∷ xs) p q h (inl e) b d = h.0 b (rw (← e) d)
  none_of (x ∷ xs) p q h (inr i) b d = none_of xs p q h.1 i b d

  -- who stands in a levelled list reads nothing of its own
  alone : (ps : List ℕ) (p : ℕ) → Levelled drives reads ps → In p ps → (b : B) → drives p b ≡ true → reads p b ≡ false
  alone [] p l i b d = absurd i
  alone (q ∷ qs) p l (inl e) b d = rw e (l.0.0 b (rw (← e) d))
  alone (q ∷ qs) p l (inr i) b d = alone qs p l.1 i b d

  pub within : (ps : List ℕ) (p : ℕ) → AllBelow n ps → In p ps → p < n
  within [] p a i = absurd i
  within (q ∷ qs) p a (inl e) = omega (arith, e, a.0)
  within (q ∷ qs) p a (inr i) = within qs p a.1 i

  -- ---- who isn't solved, as a binary number: the first of the list is its highest digit

  abbrev number : List ℕ → V → ℕ
  number [] v = 0
  number (p ∷ ps) v = weight (laws.tell p v) (2 ^ length ps) + number ps v

  number_below : (ps : List ℕ) (v : V) → number ps v < 2 ^ length ps
  number_below [] v = omega arith
  number_below (p ∷ ps) v = omega (arith, pow_more (length ps), number_below ps v, most (laws.tell p v) (2 ^ length ps))

  falls : (ps : List ℕ) (p : ℕ) (v : V) → Fine v → AllBelow n ps → Levelled drives reads ps → In p ps → (IsSolved run v p → ⊥) → number ps (run p v) < number ps v
  falls [] p v f a l i u = absurd i
  falls (q ∷ qs) p v f a l i u = go (equal? p q) i (λ j. falls qs p v f a.1 l.1 j u)
    where
      first : p ≡ q → number (q ∷ qs) (run p v) < number (q ∷ qs) v
      first e =
          let w = 2 ^ length qs in
          let s : IsSolved run (run p v) q = rw (← e) (settled p v f (λ b d. rw e (l.0.0 b (rw (← e) d)))) in
          let x : weight (laws.tell q (run p v)) w ≡ 0 = no_weight (laws.tell q (run p v)) w s in
          let y : weight (laws.tell q v) w ≡ w = full_weight (laws.tell q v) w (rw (← e) u) in
          omega (arith, x, y, number_below qs (run p v))

      head : p ≢ q → In p qs → weight (laws.tell q (run p v)) (2 ^ length qs) ≤ weight (laws.tell q v) (2 ^ length qs)
      head d j = by (laws.tell q v)
        where
          by : IsSolved run v q ⊎ (IsSolved run v q → ⊥) → weight (laws.tell q (run p v)) (2 ^ length qs) ≤ weight (laws.tell q v) (2 ^ length qs)
          by (inl s) =
              let t : IsSolved run (run p v) q = stays_behind p q v f (within qs p a.1 j) a.0 d (apart p q v f (none_of qs p q l.0.1 j)) s in
              let x : weight (laws.tell q (run p v)) (2 ^ length qs) ≡ 0 = no_weight (laws.tell q (run p v)) (2 ^ length qs) t in
              omega (arith, x)
          by (inr t) = let y : weight (laws.tell q v) (2 ^ length qs) ≡ 2 ^ length qs = full_weight (laws.tell q v) (2 ^ length qs) t in omega (arith, y, most (laws.tell q (run p v)) (2 ^ length qs))

      go : (p ≡ q) ⊎ (p ≢ q) → (p ≡ q) ⊎ In p qs → (In p qs → number qs (run p v) < number qs v) → number (q ∷ qs) (run p v) < number (q ∷ qs) v
      go (inl e) j rest = first e
      go (inr d) (inl e) rest = absurd (d e)
      go (inr d) (inr j) rest = omega (arith, head d j, rest j)

  -- ---- one result

  abbrev DrivenIn : List ℕ → B → Type 0
  DrivenIn [] b = ⊥
  DrivenIn (p ∷ ps) b = (drives p b ≡ true) ⊎ DrivenIn ps b

  -- the same but for bits that the processes drive
  abbrev Alike : List ℕ → V → V → Type 0
  Alike ps v w = (b : B) → DrivenIn ps b ⊎ (at v b ≡ at w b)

  no_driver : (ps : List ℕ) (q : ℕ) (b : B) → NoneDrives drives reads ps q → reads q b ≡ true → DrivenIn ps b → ⊥
  no_driver [] q b h r d = d
  no_driver (p ∷ ps) q b h r (inl d) = never r (h.0 b d)
  no_driver (p ∷ ps) q b h r (inr d) = no_driver ps q b h.1 r d

  one_solution : (ps : List ℕ) (v w : V) → Fine v → Fine w → Levelled drives reads ps →
      ((p : ℕ) → In p ps → IsSolved run v p) → ((p : ℕ) → In p ps → IsSolved run w p) → Alike ps v w → v ≡ w
  one_solution [] v w f g l s t h = laws.whole v w f g (λ b. elim (h b) [ inl d ↦ absurd d | inr e ↦ e ])
  one_solution (p ∷ ps) v w f g l s t h = one_solution ps v w f g l.1 (λ q i. s q (inr i)) (λ q i. t q (inr i)) (λ b. next_bit b (h b))
    where
      same : (b : B) → reads p b ≡ true → at v b ≡ at w b
      same b r = elim (h b) [ inl d ↦ absurd (no_driver (p ∷ ps) p b l.0 r d) | inr e ↦ e ]

      next_bit : (b : B) → DrivenIn (p ∷ ps) b ⊎ (at v b ≡ at w b) → DrivenIn ps b ⊎ (at v b ≡ at w b)
      next_bit b (inr e) = inr e
      next_bit b (inl (inr d)) = inl d
      next_bit b (inl (inl d)) = inr (sym (ap (λ x. at x b) (s p (inl refl))) ∙ laws.depends p v w f g same b d ∙ ap (λ x. at x b) (t p (inl refl)))

  driver : (ps : List ℕ) (p : ℕ) (b : B) → In p ps → drives p b ≡ true → DrivenIn ps b
  driver [] p b i d = absurd i
  driver (q ∷ qs) p b (inl e) d = inl (rw (← e) d)
  driver (q ∷ qs) p b (inr i) d = inr (driver qs p b i d)

  alike_run : (ps : List ℕ) (p : ℕ) (v : V) → Fine v → In p ps → Alike ps (run p v) v
  alike_run ps p v f i b = elim (either (drives p b)) [ inl d ↦ inl (driver ps p b i d) | inr k ↦ inr (laws.keeps p v b f k) ]

  alike_then : (ps : List ℕ) (u v w : V) → Alike ps u v → Alike ps v w → Alike ps u w
  alike_then ps u v w g h b = both (g b) (h b)
    where
      both : DrivenIn ps b ⊎ (at u b ≡ at v b) → DrivenIn ps b ⊎ (at v b ≡ at w b) → DrivenIn ps b ⊎ (at u b ≡ at w b)
      both (inl d) y = inl d
      both (inr e) (inl d) = inl d
      both (inr e) (inr k) = inr (e ∙ k)

  alike_back : (ps : List ℕ) (v w : V) → Alike ps v w → Alike ps w v
  alike_back ps v w h b = elim (h b) [ inl d ↦ inl d | inr e ↦ inr (sym e) ]

  driven_or_not : (ps : List ℕ) (b : B) → DrivenIn ps b ⊎ ((p : ℕ) → In p ps → drives p b ≡ false)
  driven_or_not [] b = inr (λ p i. absurd i)
  driven_or_not (p ∷ ps) b = go (either (drives p b)) (driven_or_not ps b)
    where
      go : (drives p b ≡ true) ⊎ (drives p b ≡ false) → DrivenIn ps b ⊎ ((q : ℕ) → In q ps → drives q b ≡ false) → DrivenIn (p ∷ ps) b ⊎ ((q : ℕ) → In q (p ∷ ps) → drives q b ≡ false)
      go (inl e) y = inl (inl e)
      go (inr e) (inl y) = inl (inr y)
      go (inr e) (inr y) = inr (λ q i. elim i [ inl z ↦ rw z e | inr j ↦ y q j ])

  -- ---- one pass

  pub pass_fine : (ps : List ℕ) (v : V) → Fine v → Fine (pass run ps v)
  pass_fine [] v f = f
  pass_fine (p ∷ ps) v f = pass_fine ps (run p v) (laws.fine p v f)

  pass_keeps : (ps : List ℕ) (q : ℕ) (v : V) → Fine v → AllBelow n ps → q < n → NoneDrives drives reads ps q → IsSolved run v q → IsSolved run (pass run ps v) q
  pass_keeps [] q v f a j h s = s
  pass_keeps (p ∷ ps) q v f a j h s = pass_keeps ps q (run p v) (laws.fine p v f) a.1 j h.1 (go (equal? p q))
    where
      go : (p ≡ q) ⊎ (p ≢ q) → IsSolved run (run p v) q
      go (inl e) = let z : run p v ≡ v = rw e s in rw z s
      go (inr d) = stays_behind p q v f a.0 j d (apart p q v f h.0) s

  pass_solves : (ps : List ℕ) (v : V) → Fine v → AllBelow n ps → Levelled drives reads ps → (q : ℕ) → In q ps → IsSolved run (pass run ps v) q
  pass_solves [] v f a l q i = absurd i
  pass_solves (p ∷ ps) v f a l q (inr i) = pass_solves ps (run p v) (laws.fine p v f) a.1 l.1 q i
  pass_solves (p ∷ ps) v f a l q (inl e) = rw e (pass_keeps ps p (run p v) (laws.fine p v f) a.1 a.0 l.0.1 (settled p v f l.0.0))

  pass_alike : (all ps : List ℕ) (v : V) → Fine v → ((p : ℕ) → In p ps → In p all) → Alike all (pass run ps v) v
  pass_alike all [] v f h = λ b. inr refl
  pass_alike all (p ∷ ps) v f h = alike_then all (pass run ps (run p v)) (run p v) v (pass_alike all ps (run p v) (laws.fine p v f) (λ q i. h q (inr i))) (alike_run all p v f (h p (inl refl)))

  -- ---- settling

  module _ (order : List ℕ) (o : IsOrder drives reads n order) where
    -- one pass solves all
    pub one_pass_solves : (v : V) → Fine v → AreSolved run n (pass run order v)
    one_pass_solves v f p l = pass_solves order v f o.below o.levelled p (o.every p l)

    -- one pass changes driven bits only
    pub one_pass_keeps : (v : V) → Fine v → SameOthers at drives n v (pass run order v)
    one_pass_keeps v f b h = elim (pass_alike order order v f (λ p i. i) b) [ inl d ↦ absurd (none order o.below d) | inr e ↦ sym e ]
      where
        none : (ps : List ℕ) → AllBelow n ps → DrivenIn ps b → ⊥
        none [] a d = d
        none (p ∷ ps) a (inl d) = never d (h p a.0)
        none (p ∷ ps) a (inr d) = none ps a.1 d

    -- where all are solved, values are what one pass gives from any that are the same but for driven bits
    pub one_pass : (v w : V) → Fine v → Fine w → AreSolved run n v → SameOthers at drives n v w → pass run order w ≡ v
    one_pass v w f g solved same =
        one_solution order (pass run order w) v (pass_fine order w g) f o.levelled
        (pass_solves order w g o.below o.levelled)
        (λ p i. solved p (within order p o.below i))
        (alike_then order (pass run order w) w v (pass_alike order order w g (λ p i. i))
        (λ b. elim (driven_or_not order b) [ inl x ↦ inl x | inr x ↦ inr (sym (same b (λ i l. x i (o.every i l)))) ]))

    -- where it settles: all are solved, and only what they drive has changed
    pub record Rests (q : V × List Bool) : Type 0 where
      pub r : V × List Bool
      pub settles : Settles run wakes q r
      pub fine : Fine r.0
      pub solved : AreSolved run n r.0
      pub alike : Alike order r.0 q.0

    -- what one evaluation leads to
    pub record Stepped (q : V × List Bool) (p : ℕ) : Type 0 where
      pub below : p < n
      pub waits : Waits Fine run n (run p q.0, woken (wakes q.0 (run p q.0)) 0 (first_done q.1))
      pub fewer : suc (count_pending (first_done q.1)) ≡ count_pending q.1

    pub step : (q : V × List Bool) (p : ℕ) → Waits Fine run n q → first_pending 0 q.1 ≡ Some p → Stepped q p
    step q p w e =
        let f = found q.1 0 p e in
        let same : p ≡ f.0 = omega (arith, f.1) in
        let below : p < n = omega (arith, f.3, w.many, same) in
        record {
          below = below;
          waits = record {
            fine = laws.fine p q.0 w.fine;
            many = woken_length (wakes q.0 (run p q.0)) 0 (first_done q.1) ∙ done_length q.1 ∙ w.many;
            each = λ j h. go f.0 same f.5 below j h (equal? p j);
          };
          fewer = f.4;
        }
      where
        now : List Bool
        now = woken (wakes q.0 (run p q.0)) 0 (first_done q.1)

        go : (i : ℕ) → p ≡ i → ((j : ℕ) → j ≢ i → is_pending (first_done q.1) j ≡ is_pending q.1 j) → p < n → (j : ℕ) → j < n → (p ≡ j) ⊎ (p ≢ j) → (is_pending now j ≡ true) ⊎ IsSolved run (run p q.0) j
        go i s kept b j h (inl k) = inr (rw (← k) (settled p q.0 w.fine (alone order p o.levelled (o.every p b))))
        go i s kept b j h (inr k) = by (w.each j h) (either (wakes q.0 (run p q.0) j))
          where
            z : 0 + j ≡ j
            z = omega arith

            flag : is_pending now j ≡ (is_pending (first_done q.1) j || wakes q.0 (run p q.0) j)
            flag = woken_at (wakes q.0 (run p q.0)) 0 (first_done q.1) j (omega (arith, done_length q.1, w.many)) ∙ ap (λ x. is_pending (first_done q.1) j || wakes q.0 (run p q.0) x) z

            by : (is_pending q.1 j ≡ true) ⊎ IsSolved run q.0 j → (wakes q.0 (run p q.0) j ≡ true) ⊎ (wakes q.0 (run p q.0) j ≡ false) → (is_pending now j ≡ true) ⊎ IsSolved run (run p q.0) j
            by x (inl t) = inl (flag ∙ or_right (is_pending (first_done q.1) j) _ t)
            by (inl x) (inr t) = inl (flag ∙ or_left (is_pending (first_done q.1) j) _ (kept j (λ m. k (s ∙ sym m)) ∙ x))
            by (inr x) (inr t) = inr (stays_behind p j q.0 w.fine b h k (λ c r. sym (laws.asleep q.0 (run p q.0) j t c r)) x)

    moves : (q : V × List Bool) (p : ℕ) → first_pending 0 q.1 ≡ Some p → next run wakes q ≡ Some (run p q.0, woken (wakes q.0 (run p q.0)) 0 (first_done q.1))
    moves q p e = ap (next_of run wakes q.0 q.1) e

    at_rest : (q : V × List Bool) → Waits Fine run n q → first_pending 0 q.1 ≡ None → Rests q
    at_rest q w e = record {
      r = q;
      settles = rests (ap (next_of run wakes q.0 q.1) e);
      fine = w.fine;
      solved = λ p h. elim (w.each p h) [ inl t ↦ never t (none_found q.1 0 e p) | inr s ↦ s ];
      alike = λ b. inr refl;
    }

    further : (q : V × List Bool) (p : ℕ) → Fine q.0 → p < n → first_pending 0 q.1 ≡ Some p → Rests (run p q.0, woken (wakes q.0 (run p q.0)) 0 (first_done q.1)) → Rests q
    further q p f h e r = record {
      r = r.r;
      settles = goes (moves q p e) r.settles;
      fine = r.fine;
      solved = r.solved;
      alike = alike_then order r.r.0 (run p q.0) q.0 r.alike (alike_run order p q.0 f (o.every p h));
    }

    -- an evaluation that changes nothing leaves one less pending; each other makes the number fall
    by_count : (m : ℕ) → ((q : V × List Bool) → Waits Fine run n q → number order q.0 < m → Rests q) →
        (k : ℕ) (q : V × List Bool) → Waits Fine run n q → number order q.0 < suc m → count_pending q.1 < k → Rests q
    by_count m outer zero q w h c = absurd (omega arith)
    by_count m outer (suc k) q w h c = go (first_pending 0 q.1) refl (by_count m outer k)
      where
        go : (o : Option ℕ) → first_pending 0 q.1 ≡ o → ((r : V × List Bool) → Waits Fine run n r → number order r.0 < suc m → count_pending r.1 < k → Rests r) → Rests q
        go None e inner = at_rest q w e
        go (Some p) e inner = further q p w.fine st.below e (by (laws.tell p q.0))
          where
            st : Stepped q p
            st = step q p w e

            to : V × List Bool
            to = (run p q.0, woken (wakes q.0 (run p q.0)) 0 (first_done q.1))

            by : IsSolved run q.0 p ⊎ (IsSolved run q.0 p → ⊥) → Rests to
            by (inl s) =
                let x : number order (run p q.0) ≡ number order q.0 = ap (number order) s in
                let y : woken (wakes q.0 (run p q.0)) 0 (first_done q.1) ≡ first_done q.1 = woken_none _ 0 (first_done q.1) (λ j. ap (λ v. wakes q.0 v j) s ∙ laws.quiet q.0 j) in
                let z : count_pending (woken (wakes q.0 (run p q.0)) 0 (first_done q.1)) ≡ count_pending (first_done q.1) = ap count_pending y in
                inner to st.waits (omega (arith, x, h)) (omega (arith, z, c, st.fewer))
            by (inr u) = outer to st.waits (omega (arith, h, falls order p q.0 w.fine o.below o.levelled (o.every p st.below) u))

    ends : (m : ℕ) (q : V × List Bool) → Waits Fine run n q → number order q.0 < m → Rests q
    ends zero q w h = absurd (omega arith)
    ends (suc m) q w h = by_count m (ends m) (suc (count_pending q.1)) q w h (omega arith)

    pub settles : (q : V × List Bool) → Waits Fine run n q → Rests q
    settles q w = ends (suc (number order q.0)) q w (omega arith)

    -- one pass in order gives what the queue settles in
    pub as_one_pass : (q : V × List Bool) (w : Waits Fine run n q) → (settles q w).r.0 ≡ pass run order q.0
    as_one_pass q w =
        let r = settles q w in
        one_solution order r.r.0 (pass run order q.0) r.fine (pass_fine order q.0 w.fine) o.levelled
        (λ p i. r.solved p (within order p o.below i))
        (pass_solves order q.0 w.fine o.below o.levelled)
        (alike_then order r.r.0 q.0 (pass run order q.0) r.alike
        (alike_back order (pass run order q.0) q.0 (pass_alike order order q.0 w.fine (λ p i. i))))
