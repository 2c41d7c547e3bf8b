-- A bit that no target can touch is kept, and so are the shape, the range and all but values.
use Rattle.std.proofs.Common.{◌≡◌, ◌≢◌, ℕ, zero, suc, ◌+◌, ◌%◌, ◌^◌, ◌<◌, ◌≤◌, Bool, true, false, List, [], ◌∷◌, ◌++◌, Option, Some, None, length, refl, sym, ap, ◌∙◌, subst, arith}
use Rattle.std.specs.Prelude.{◌||◌, ◌&&◌, not, ◌⊎◌, ℤ, pos, ◌+ℤ◌, ◌<ℤ◌, ◌≤ℤ◌, slice_index, slice_set, if◌then◌else◌, map, ⊤}
use Rattle.std.proofs.lemmas.Int.{ints}
use Rattle.std.proofs.lemmas.Bool.{cases_lt}
use Rattle.std.proofs.lemmas.List.{get_or_past, get_or-set_same, length-set}
use Rattle.std.proofs.lemmas.Nat.Bits.{bit_at_above}
use mathlib.Core.Logic.{inl, inr}
use Rattle.vl_design.specs.vl_base.specs.Selects.{bit_of, placed}
use Rattle.vl_design.specs.vl_base.proofs.BitLaws.{placed-below-it, placed-above-it}
use Rattle.vl_design.specs.declared.design.Form.{Form}
use Rattle.vl_design.specs.declared.design.LowestBit.{LowestBit}
use Rattle.vl_design.specs.Syntax.{Exp, Target, Whole, WordAt, PickAt, SliceAt, Several, Targets, NoTargets, MoreTargets, Stm, Nop, Then, If, Case, For, Repeat, Set, Later, Sys, Items, NoItems, Labelled, Default, Row}
use Rattle.vl_design.specs.Width.{Scope, form, signal_form, assigned}
use Rattle.vl_design.specs.Value.{Sample, words_of, value, own_reading, lowest_bit}
use Rattle.vl_design.specs.State.{State, Update, sample, counted, with_update, all_updated}
use Rattle.vl_design.specs.Targets.{Spot, within, spots, all_spots, updates_at, assignment, target_width}
use Rattle.vl_design.specs.Exec.{exec, exec_items, exec_default, counted_if, is_true, some_match, holds, items_hold, asks, items_form}
use Rattle.vl_design.specs.Laws.{InRange, can_act, items_can_act, SameShape}
use Rattle.vl_design.proofs.Ranging.{updates_in_range}
use Rattle.vl_design.proofs.Resting.{holds_none}
use Rattle.vl_paths.specs.Bits.{Bit, is_among, is_of, known_low, part_sets, bit_set, some_bit_set}
use Rattle.vl_paths.specs.Touched.{touched, touched_in, Lone, SameBit}
use Rattle.vl_paths.specs.Nets.{IsBase, IsPlain, ArePlain, IsNetStm, AreNetItems}
use Rattle.vl_paths.proofs.Ways.{or_false, either}
use Rattle.vl_paths.proofs.Reading.{known_is, word_below, among_is}
use Rattle.vl_paths.proofs.Writing.{covers, IsOfSignal, covered, AreOfSignals, place_cases, equal, words_there, words_past, words_elsewhere, words_none, placed_below}
use Rattle.vl_paths.proofs.Doing.{has, has_covered, has_joined, or_none, updates_of, are_spots}
use Rattle.vl_design.specs.vl_base.proofs.Booleans.{or_both_false as or_both}

and_first : (x y : Bool) → x ≡ false → (x && y) ≡ false
and_first true y h = let z : ⊥ = cc in absurd z
and_first false y h = refl

covers_not : (x y : Bool) → (x && y) ≡ false → x ≡ true → y ≡ true → ⊥
covers_not true true h f g = cc
covers_not true false h f g = cc
covers_not false y h f g = cc

-- ---- updates

pub words_after : (rows : List Row) (u : Update) (x : List (List ℕ)) (k : ℕ) → length (words_of (with_update rows x u) k) ≡ length (words_of x k)
words_after rows u x k = go (equal k u.signal) (cases_lt u.signal (length x))
  where
    ws : List ℕ
    ws = slice_set (words_of x u.signal) u.word (placed (signal_form rows u.signal).width (slice_index (words_of x u.signal) u.word) u.low u.width u.value)

    go : (k ≡ u.signal) ⊎ (k ≢ u.signal) → (u.signal < length x) ⊎ (length x ≤ u.signal) → length (words_of (with_update rows x u) k) ≡ length (words_of x k)
    go (inr e) y = ap length (words_elsewhere x u.signal k ws e)
    go (inl e) (inl l) = rw e (ap length (words_there x u.signal ws l) ∙ length-set (words_of x u.signal) u.word _)
    go (inl e) (inr l) = rw e (ap length (words_past x u.signal ws l ∙ sym (words_none x u.signal l)))

pub all_shape : (rows : List Row) (us : List Update) (v : List (List ℕ)) → SameShape (all_updated rows v us) v
all_shape rows [] v = record { many = refl; words = λ k. refl }
all_shape rows (u ∷ us) v =
    let f : SameShape (all_updated rows (with_update rows v u) us) (with_update rows v u) = all_shape rows us (with_update rows v u) in
    record { many = f.many ∙ length-set v u.signal _; words = λ k. f.words k ∙ words_after rows u v k }

module _ (is_memory : ℕ → Bool) (rows : List Row) where
  bit_kept : (u : Update) → IsOfSignal is_memory u → (v : List (List ℕ)) → InRange rows v → Lone is_memory v → (b : Bit) → covers rows u b ≡ false → SameBit b (with_update rows v u) v
  bit_kept u plain v r lone b c word = go (equal b.signal u.signal) (cases_lt word (length (words_of v b.signal)))
    where
      wide : ℕ
      wide = (signal_form rows u.signal).width

      past : (x : List (List ℕ)) → length (words_of x b.signal) ≤ word → slice_index (words_of x b.signal) word ≡ 0
      past x l = get_or_past (words_of x b.signal) word 0 l

      there : b.signal ≡ u.signal → word < length (words_of v b.signal) → u.signal < length v
      there e l = elim (cases_lt u.signal (length v)) [ inl m ↦ m | inr m ↦ absurd (let z : length (words_of v b.signal) ≡ 0 = rw e (ap length (words_none v u.signal m)) in omega (arith, z, l)) ]

      go : (b.signal ≡ u.signal) ⊎ (b.signal ≢ u.signal) → (word < length (words_of v b.signal)) ⊎ (length (words_of v b.signal) ≤ word) →
          bit_of (slice_index (words_of (with_update rows v u) b.signal) word) (pos b.place) ≡ bit_of (slice_index (words_of v b.signal) word) (pos b.place)
      go e (inr l) = ap (λ x. bit_of x (pos b.place)) (past (with_update rows v u) (omega (arith, words_after rows u v b.signal, l)) ∙ sym (past v l))
      go (inr e) (inl l) = ap (λ ws. bit_of (slice_index ws word) (pos b.place)) (words_elsewhere v u.signal b.signal _ e)
      go (inl e) (inl l) = rw (now) (by (cases_lt b.place wide) (place_cases b.place u.low u.width))
        where
          zero_word : word ≡ 0
          zero_word = let m : length (words_of v b.signal) ≤ 1 = lone b.signal (ap is_memory e ∙ plain.signal) in omega (arith, l, m)

          old : ℕ
          old = slice_index (words_of v u.signal) 0

          some : 0 < length (words_of v u.signal)
          some = let f : length (words_of v b.signal) ≡ length (words_of v u.signal) = ap (λ k. length (words_of v k)) e in omega (arith, f, l)

          now : slice_index (words_of (with_update rows v u) b.signal) word ≡ placed wide old u.low u.width u.value
          now = rw (e, zero_word, plain.word) (ap (λ ws. slice_index ws 0) (words_there v u.signal _ (there e l)) ∙ get_or-set_same (words_of v u.signal) 0 _ 0 some)

          old_is : slice_index (words_of v b.signal) word ≡ old
          old_is = rw (e, zero_word) refl

          by : (b.place < wide) ⊎ (wide ≤ b.place) → (pos b.place <ℤ u.low) ⊎ ((u.low ≤ℤ pos b.place) × (pos b.place <ℤ (u.low +ℤ pos u.width))) ⊎ ((u.low +ℤ pos u.width) ≤ℤ pos b.place) →
              bit_of (placed wide old u.low u.width u.value) (pos b.place) ≡ bit_of (slice_index (words_of v b.signal) word) (pos b.place)
          by (inr m) y = bit_at_above (placed wide old u.low u.width u.value) wide b.place (placed_below wide old u.low u.width u.value) m
              ∙ sym (bit_at_above old wide b.place (word_below rows v u.signal 0 r) m) ∙ ap (λ x. bit_of x (pos b.place)) (sym old_is)
          by (inl m) (inl g) = placed-below-it wide old u.low u.width u.value b.place m g ∙ ap (λ x. bit_of x (pos b.place)) (sym old_is)
          by (inl m) (inr (inl g)) = absurd (covers_not (is_among b u.signal (pos 0) wide) (is_among b u.signal u.low u.width) c
              (among_is b u.signal (pos 0) wide e (omega (arith, ints)) (omega (arith, ints))) (among_is b u.signal u.low u.width e g.0 g.1))
          by (inl m) (inr (inr g)) = placed-above-it wide old u.low u.width u.value b.place plain.value m g ∙ ap (λ x. bit_of x (pos b.place)) (sym old_is)

  pub bits_kept : (us : List Update) → AreOfSignals is_memory rows us → (v : List (List ℕ)) → InRange rows v → Lone is_memory v → (b : Bit) → covered is_memory rows us b ≡ false → SameBit b (all_updated rows v us) v
  bits_kept [] a v r lone b c word = refl
  bits_kept (u ∷ us) a v r lone b c word =
      let f = or_false (covers rows u b) (covered is_memory rows us b) c in
      bits_kept us a.1 (with_update rows v u) (updates_in_range rows (u ∷ []) v r) (λ k m. omega (arith, words_after rows u v k, lone k m)) b f.1 word ∙ bit_kept u a.0 v r lone b f.0 word

-- ---- targets

module _ (is_memory : ℕ → Bool) (scope : Scope) where
  part_misses : (b : Bit) (s : Sample) (base : Target) (o : Option ℤ) (low : ℤ) (w : ℕ) → IsBase is_memory base → (o ≡ Some low) ⊎ (o ≡ None) → part_sets scope.names true b base o w ≡ false →
      has is_memory scope b (map (within low w) (spots scope s base)) ≡ false
  part_misses b s (Whole k) o low w p (inl e) h = let z : pos 0 +ℤ low ≡ low = omega (arith, ints) in rw z (or_none is_memory scope _ ∙ (rw e at h))
  part_misses b s (Whole k) o low w p (inr e) h = let f = rw e at h in or_none is_memory scope _ ∙ and_first _ _ f
  part_misses b s (WordAt m a) o low w p e h = absurd p
  part_misses b s (PickAt x i from v) o low w p e h = absurd p
  part_misses b s (SliceAt x l v) o low w p e h = absurd p
  part_misses b s (Several ts) o low w p e h = absurd p

  mutual
    set_misses : (b : Bit) (s : Sample) (t : Target) → IsPlain is_memory t → bit_set scope.names true b t ≡ false → has is_memory scope b (spots scope s t) ≡ false
    set_misses b s (Whole k) p h = or_none is_memory scope _ ∙ and_first _ _ h
    set_misses b s (WordAt m a) p h = absurd p
    set_misses b s (PickAt base i from w) p h = part_misses b s base (known_low scope.names from i) (lowest_bit from (own_reading scope s i)) w p (known_is scope s from i) h
    set_misses b s (SliceAt base low w) p h = part_misses b s base (Some low) low w p (inl refl) h
    set_misses b s (Several ts) p h = all_miss b s ts p h

    all_miss : (b : Bit) (s : Sample) (ts : Targets) → ArePlain is_memory ts → some_bit_set scope.names true b ts ≡ false → has is_memory scope b (all_spots scope s ts) ≡ false
    all_miss b s NoTargets p h = refl
    all_miss b s (MoreTargets t ts) p h =
        let f = or_false (bit_set scope.names true b t) (some_bit_set scope.names true b ts) h in
        has_joined is_memory scope b (spots scope s t) (all_spots scope s ts) ∙ or_both _ _ (set_misses b s t p.0 f.0) (all_miss b s ts p.1 f.1)

-- ---- statements of combinational processes, without calls: what holds over each assignment holds over them

abbrev mutual
  -- each assignment of the statement is to such a target
  pub Assigns : (Target → Type 0) → Stm → Type 0
  Assigns T Nop = ⊤
  Assigns T (Then a b) = Assigns T a × Assigns T b
  Assigns T (If t a b) = Assigns T a × Assigns T b
  Assigns T (Case e items) = AssignsIn T items
  Assigns T (Set t e) = T t
  Assigns T (For k start test step a) = ⊥
  Assigns T (Repeat n a) = ⊥
  Assigns T (Later t e) = ⊥
  Assigns T (Sys task) = ⊥

  pub AssignsIn : (Target → Type 0) → Items → Type 0
  AssignsIn T NoItems = ⊤
  AssignsIn T (Labelled es a others) = Assigns T a × AssignsIn T others
  AssignsIn T (Default a others) = Assigns T a × AssignsIn T others

uncounted : (b : Bool) (s : State) → b ≡ false → counted_if b s ≡ s
uncounted true s h = let z : ⊥ = cc in absurd z
uncounted false s h = refl

module _ (scope : Scope) (R : State → State → Type 0) (T : Target → Type 0) (same : (s : State) → R s s) (next : (a b c : State) → R a b → R b c → R a c)
    (sets : (t : Target) (e : Exp) (s : State) → T t → R s (record s { values = all_updated scope.names.rows s.values (assignment scope (sample s) t e) })) where
  choose : (b : Bool) (s x y : State) → R s x → R s y → R s (if b then x else y)
  choose true s x y f g = f
  choose false s x y f g = g

  mutual
    pub net_leads : (a : Stm) → Assigns T a → can_act a ≡ false → (s : State) → R s (exec scope a s)
    net_leads Nop n h s = same s
    net_leads (Then a b) n h s = let g = or_false (can_act a) (can_act b) h in next _ _ _ (net_leads a n.0 g.0 s) (net_leads b n.1 g.1 (exec scope a s))
    net_leads (If t a b) n h s =
        let g = or_false (asks t) (can_act a || can_act b) h in
        let f = or_false (can_act a) (can_act b) g.1 in
        let e : counted_if (asks t || (holds scope s a || holds scope s b)) s ≡ s = uncounted _ s (holds_none scope (If t a b) h s) in
        subst (λ s'. R s (if is_true scope t s then exec scope a s' else exec scope b s')) (sym e)
        (choose (is_true scope t s) s (exec scope a s) (exec scope b s) (net_leads a n.0 f.0 s) (net_leads b n.1 f.1 s))
    net_leads (Case e items) n h s =
        let k : counted_if (items_hold scope s items) s ≡ s = uncounted _ s (holds_none scope (Case e items) h s) in
        let f : Form = items_form scope.names (form scope.names e) items in
        subst (λ s'. R s (exec_items scope (value scope (sample s) e f) f items (exec_default scope items s') s')) (sym k)
        (items_lead items n h (value scope (sample s) e f) f s (exec_default scope items s) (default_leads items n h s))
    net_leads (Set t e) n h s = choose s.finished s s _ (same s) (sets t e s n)
    net_leads (For k start test step a) n h s = absurd n
    net_leads (Repeat m a) n h s = absurd n
    net_leads (Later t e) n h s = absurd n
    net_leads (Sys task) n h s = absurd n

    items_lead : (items : Items) → AssignsIn T items → items_can_act items ≡ false → (v : ℕ) (c : Form) (s other : State) → R s other → R s (exec_items scope v c items other s)
    items_lead NoItems n h v c s other r = r
    items_lead (Labelled es a others) n h v c s other r = let g = or_false (can_act a) (items_can_act others) h in choose (some_match scope (sample s) c v es) s _ _ (net_leads a n.0 g.0 s) (items_lead others n.1 g.1 v c s other r)
    items_lead (Default a others) n h v c s other r = let g = or_false (can_act a) (items_can_act others) h in items_lead others n.1 g.1 v c s other r

    default_leads : (items : Items) → AssignsIn T items → items_can_act items ≡ false → (s : State) → R s (exec_default scope items s)
    default_leads NoItems n h s = same s
    default_leads (Labelled es a others) n h s = let g = or_false (can_act a) (items_can_act others) h in default_leads others n.1 g.1 s
    default_leads (Default a others) n h s = let g = or_false (can_act a) (items_can_act others) h in net_leads a n.0 g.0 s

-- ---- what a net's evaluation keeps

module _ (is_memory : ℕ → Bool) (scope : Scope) where
  mutual
    misses : (b : Bit) (a : Stm) → IsNetStm is_memory a → touched scope.names b a ≡ false → Assigns (λ t. IsPlain is_memory t × (bit_set scope.names true b t ≡ false)) a
    misses b Nop n h = tt
    misses b (Then x y) n h = let f = or_false (touched scope.names b x) (touched scope.names b y) h in (misses b x n.0 f.0, misses b y n.1 f.1)
    misses b (If t x y) n h = let f = or_false (touched scope.names b x) (touched scope.names b y) h in (misses b x n.0 f.0, misses b y n.1 f.1)
    misses b (Case e items) n h = misses_in b items n h
    misses b (Set t e) n h = (n, h)
    misses b (For k start test step a) n h = absurd n
    misses b (Repeat m a) n h = absurd n
    misses b (Later t e) n h = absurd n
    misses b (Sys task) n h = absurd n

    misses_in : (b : Bit) (items : Items) → AreNetItems is_memory items → touched_in scope.names b items ≡ false → AssignsIn (λ t. IsPlain is_memory t × (bit_set scope.names true b t ≡ false)) items
    misses_in b NoItems n h = tt
    misses_in b (Labelled es a others) n h = let f = or_false (touched scope.names b a) (touched_in scope.names b others) h in (misses b a n.0 f.0, misses_in b others n.1 f.1)
    misses_in b (Default a others) n h = let f = or_false (touched scope.names b a) (touched_in scope.names b others) h in (misses b a n.0 f.0, misses_in b others n.1 f.1)

  mutual
    plain : (a : Stm) → IsNetStm is_memory a → Assigns (IsPlain is_memory) a
    plain Nop n = tt
    plain (Then x y) n = (plain x n.0, plain y n.1)
    plain (If t x y) n = (plain x n.0, plain y n.1)
    plain (Case e items) n = plain_in items n
    plain (Set t e) n = n
    plain (For k start test step a) n = absurd n
    plain (Repeat m a) n = absurd n
    plain (Later t e) n = absurd n
    plain (Sys task) n = absurd n

    plain_in : (items : Items) → AreNetItems is_memory items → AssignsIn (IsPlain is_memory) items
    plain_in NoItems n = tt
    plain_in (Labelled es a others) n = (plain a n.0, plain_in others n.1)
    plain_in (Default a others) n = (plain a n.0, plain_in others n.1)

  -- all but values is the same
  pub frame : (a : Stm) → IsNetStm is_memory a → can_act a ≡ false → (s : State) → exec scope a s ≡ record s { values = (exec scope a s).values }
  frame a n h s = net_leads scope (λ s t. t ≡ record s { values = t.values }) (IsPlain is_memory) (λ s. refl) (λ a b c f g. g ∙ ap {A = State} (λ x. record x { values = c.values }) f) (λ t e s p. refl) a (plain a n) h s

  pub shape : (a : Stm) → IsNetStm is_memory a → can_act a ≡ false → (s : State) → SameShape (exec scope a s).values s.values
  shape a n h s = net_leads scope (λ s t. SameShape t.values s.values) (IsPlain is_memory)
      (λ s. record { many = refl; words = λ k. refl })
      (λ a b c f g. record { many = g.many ∙ f.many; words = λ k. g.words k ∙ f.words k })
      (λ t e s p. all_shape scope.names.rows (assignment scope (sample s) t e) s.values) a (plain a n) h s

  record Kept (b : Bit) (v w : List (List ℕ)) : Type 0 where
    range : InRange scope.names.rows w
    lone : Lone is_memory w
    bit : SameBit b w v

  -- a bit that it can't touch is the same
  pub keeps_bit : (b : Bit) (a : Stm) → IsNetStm is_memory a → can_act a ≡ false → touched scope.names b a ≡ false → (s : State) → InRange scope.names.rows s.values → Lone is_memory s.values → SameBit b (exec scope a s).values s.values
  keeps_bit b a n h c s r l =
      (net_leads scope (λ s t. InRange scope.names.rows s.values → Lone is_memory s.values → Kept b s.values t.values) (λ t. IsPlain is_memory t × (bit_set scope.names true b t ≡ false))
      (λ s r l. record { range = r; lone = l; bit = λ w. refl })
      (λ x y z f g r l. let i = f r l in let j = g i.range i.lone in record { range = j.range; lone = j.lone; bit = λ w. j.bit w ∙ i.bit w })
      (λ t e s p r l. sets t e s p.0 p.1 r l)
      a (misses b a n c) h s r l).bit
    where
      sets : (t : Target) (e : Exp) (s : State) → IsPlain is_memory t → bit_set scope.names true b t ≡ false → InRange scope.names.rows s.values → Lone is_memory s.values →
          Kept b s.values (all_updated scope.names.rows s.values (assignment scope (sample s) t e))
      sets t e s p m r l =
          let us : List Update = assignment scope (sample s) t e in
          let val : ℕ = value scope (sample s) e (assigned (target_width scope.names t) (form scope.names e)) in
          record {
            range = updates_in_range scope.names.rows us s.values r;
            lone = λ k m. let f : SameShape (all_updated scope.names.rows s.values us) s.values = all_shape scope.names.rows us s.values in omega (arith, f.words k, l k m);
            bit = bits_kept is_memory scope.names.rows us (updates_of is_memory scope (spots scope (sample s) t) val (are_spots is_memory scope (sample s) t p)) s.values r l b
                (has_covered is_memory scope b (spots scope (sample s) t) val ∙ set_misses is_memory scope b (sample s) t p m);
          }
