-- A bit that a statement may assign is one of a signal that there is, and that the statement writes.
use Rattle.std.proofs.Common.{◌≡◌, ℕ, Bool, true, Option, Some, sym, ap, ◌∙◌}
use Rattle.std.specs.Prelude.{ℤ, pos}
use mathlib.Core.Logic.{inl, inr}
use Rattle.vl_paths.specs.vl_design.specs.Syntax.{Target, Whole, WordAt, PickAt, SliceAt, Several, Targets, NoTargets, MoreTargets, Stm, Nop, Then, If, Case, For, Repeat, Set, Later, Sys, Items, NoItems, Labelled, Default}
use Rattle.vl_paths.specs.vl_design.specs.Width.{Names, signal_form}
use Rattle.vl_paths.specs.vl_design.specs.Reads.{target_writes, targets_write, stm_writes, items_write}
use Rattle.vl_paths.specs.Bits.{Bit, is_among, is_of, known_low, part_sets, bit_set, some_bit_set}
use Rattle.vl_paths.specs.Touched.{touched, touched_in}
use Rattle.vl_paths.proofs.Ways.{or_true, or_left, or_right, and_true}
use Rattle.vl_paths.proofs.Writing.{among_signal}

module _ (q : ℕ → Bool) where
  mutual
    -- what is written passes the test
    written : (t : Target) → target_writes q t ≡ true → (k : ℕ) × (q k ≡ true)
    written (Whole k) h = (k, h)
    written (WordAt m a) h = (m, h)
    written (PickAt base i from w) h = written base h
    written (SliceAt base low w) h = written base h
    written (Several ts) h = some_written ts h

    some_written : (ts : Targets) → targets_write q ts ≡ true → (k : ℕ) × (q k ≡ true)
    some_written NoTargets h = let z : ⊥ = cc in absurd z
    some_written (MoreTargets t ts) h = elim (or_true (target_writes q t) (targets_write q ts) h) [ inl g ↦ written t g | inr g ↦ some_written ts g ]

module _ (p q : ℕ → Bool) (wide : (k : ℕ) → q k ≡ true → p k ≡ true) where
  mutual
    wider : (t : Target) → target_writes q t ≡ true → target_writes p t ≡ true
    wider (Whole k) h = wide k h
    wider (WordAt m a) h = wide m h
    wider (PickAt base i from w) h = wider base h
    wider (SliceAt base low w) h = wider base h
    wider (Several ts) h = some_wider ts h

    some_wider : (ts : Targets) → targets_write q ts ≡ true → targets_write p ts ≡ true
    some_wider NoTargets h = h
    some_wider (MoreTargets t ts) h = elim (or_true (target_writes q t) (targets_write q ts) h) [ inl g ↦ or_left (target_writes p t) _ (wider t g) | inr g ↦ or_right (target_writes p t) _ (some_wider ts g) ]

module _ (names : Names) (b : Bit) (p : ℕ → Bool) (marked : p b.signal ≡ true) where
  of_signal : (k : ℕ) → is_of names b k ≡ true → p k ≡ true
  of_signal k h = ap p (sym (among_signal b k (pos 0) (signal_form names.rows k).width h)) ∙ marked

  part_writes : (base : Target) (o : Option ℤ) (w : ℕ) → part_sets names true b base o w ≡ true → target_writes p base ≡ true
  part_writes (Whole k) (Some low) w h = of_signal k (and_true (is_of names b k) (is_among b k low w) h).0
  part_writes base o w h = wider p (is_of names b) of_signal base h

  mutual
    set_writes : (t : Target) → bit_set names true b t ≡ true → target_writes p t ≡ true
    set_writes (Whole k) h = of_signal k h
    set_writes (WordAt m a) h = of_signal m h
    set_writes (PickAt base i from w) h = part_writes base (known_low names from i) w h
    set_writes (SliceAt base low w) h = part_writes base (Some low) w h
    set_writes (Several ts) h = sets_write ts h

    sets_write : (ts : Targets) → some_bit_set names true b ts ≡ true → targets_write p ts ≡ true
    sets_write NoTargets h = let z : ⊥ = cc in absurd z
    sets_write (MoreTargets t ts) h = elim (or_true (bit_set names true b t) (some_bit_set names true b ts) h) [ inl g ↦ or_left (target_writes p t) _ (set_writes t g) | inr g ↦ or_right (target_writes p t) _ (sets_write ts g) ]

  mutual
    pub touched_writes : (a : Stm) → touched names b a ≡ true → stm_writes p a ≡ true
    touched_writes Nop h = let z : ⊥ = cc in absurd z
    touched_writes (Then x y) h = elim (or_true (touched names b x) (touched names b y) h) [ inl g ↦ or_left (stm_writes p x) _ (touched_writes x g) | inr g ↦ or_right (stm_writes p x) _ (touched_writes y g) ]
    touched_writes (If t x y) h = elim (or_true (touched names b x) (touched names b y) h) [ inl g ↦ or_left (stm_writes p x) _ (touched_writes x g) | inr g ↦ or_right (stm_writes p x) _ (touched_writes y g) ]
    touched_writes (Case e items) h = items_touch items h
    touched_writes (Set t e) h = set_writes t h
    touched_writes (For k start test step a) h = let z : ⊥ = cc in absurd z
    touched_writes (Repeat n a) h = let z : ⊥ = cc in absurd z
    touched_writes (Later t e) h = let z : ⊥ = cc in absurd z
    touched_writes (Sys task) h = let z : ⊥ = cc in absurd z

    items_touch : (items : Items) → touched_in names b items ≡ true → items_write p items ≡ true
    items_touch NoItems h = let z : ⊥ = cc in absurd z
    items_touch (Labelled es a others) h = elim (or_true (touched names b a) (touched_in names b others) h) [ inl g ↦ or_left (stm_writes p a) _ (touched_writes a g) | inr g ↦ or_right (stm_writes p a) _ (items_touch others g) ]
    items_touch (Default a others) h = elim (or_true (touched names b a) (touched_in names b others) h) [ inl g ↦ or_left (stm_writes p a) _ (touched_writes a g) | inr g ↦ or_right (stm_writes p a) _ (items_touch others g) ]

module _ (names : Names) (b : Bit) where
  own : (k : ℕ) → is_of names b k ≡ true → is_of names b b.signal ≡ true
  own k h = let e : b.signal ≡ k = among_signal b k (pos 0) (signal_form names.rows k).width h in ap (is_of names b) e ∙ h

  part_own : (base : Target) (o : Option ℤ) (w : ℕ) → part_sets names true b base o w ≡ true → is_of names b b.signal ≡ true
  part_own (Whole k) (Some low) w h = own k (and_true (is_of names b k) (is_among b k low w) h).0
  part_own base o w h = let g = written (is_of names b) base h in own g.0 g.1

  mutual
    set_own : (t : Target) → bit_set names true b t ≡ true → is_of names b b.signal ≡ true
    set_own (Whole k) h = own k h
    set_own (WordAt m a) h = own m h
    set_own (PickAt base i from w) h = part_own base (known_low names from i) w h
    set_own (SliceAt base low w) h = part_own base (Some low) w h
    set_own (Several ts) h = sets_own ts h

    sets_own : (ts : Targets) → some_bit_set names true b ts ≡ true → is_of names b b.signal ≡ true
    sets_own NoTargets h = let z : ⊥ = cc in absurd z
    sets_own (MoreTargets t ts) h = elim (or_true (bit_set names true b t) (some_bit_set names true b ts) h) [ inl g ↦ set_own t g | inr g ↦ sets_own ts g ]

  mutual
    pub touched_own : (a : Stm) → touched names b a ≡ true → is_of names b b.signal ≡ true
    touched_own Nop h = let z : ⊥ = cc in absurd z
    touched_own (Then x y) h = elim (or_true (touched names b x) (touched names b y) h) [ inl g ↦ touched_own x g | inr g ↦ touched_own y g ]
    touched_own (If t x y) h = elim (or_true (touched names b x) (touched names b y) h) [ inl g ↦ touched_own x g | inr g ↦ touched_own y g ]
    touched_own (Case e items) h = items_own items h
    touched_own (Set t e) h = set_own t h
    touched_own (For k start test step a) h = let z : ⊥ = cc in absurd z
    touched_own (Repeat n a) h = let z : ⊥ = cc in absurd z
    touched_own (Later t e) h = let z : ⊥ = cc in absurd z
    touched_own (Sys task) h = let z : ⊥ = cc in absurd z

    items_own : (items : Items) → touched_in names b items ≡ true → is_of names b b.signal ≡ true
    items_own NoItems h = let z : ⊥ = cc in absurd z
    items_own (Labelled es a others) h = elim (or_true (touched names b a) (touched_in names b others) h) [ inl g ↦ touched_own a g | inr g ↦ items_own others g ]
    items_own (Default a others) h = elim (or_true (touched names b a) (touched_in names b others) h) [ inl g ↦ touched_own a g | inr g ↦ items_own others g ]
