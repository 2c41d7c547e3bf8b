-- What is read bit by bit is read as a signal.
use Rattle.std.proofs.Common.{◌≡◌, ℕ, Bool, true, false, List, [], ◌∷◌, Option, Some, None, refl, sym, ap, ◌∙◌, arith}
use Rattle.std.specs.Prelude.{◌||◌, ◌&&◌, not, ◌⊎◌, ℤ, pos}
use Rattle.std.proofs.lemmas.Int.{ints}
use mathlib.Core.Logic.{inl, inr}
use Rattle.vl_design.specs.Syntax.{Exp, Num, Label, Sig, Word, Pick, Slice, Un, Bin, Cond, Cat, Rep, Cast, Call, Time, LastAnswer, Exps, NoExps, MoreExps, Target, Whole, WordAt, PickAt, SliceAt, Several, Targets, NoTargets, MoreTargets, Stm, Nop, Then, If, Case, For, Repeat, Set, Later, Sys, Items, NoItems, Labelled, Default, Row}
use Rattle.vl_design.specs.Width.{Names, signal_form}
use Rattle.vl_design.specs.Reads.{reads, some_reads, target_reads, targets_read, stm_reads, items_read}
use Rattle.vl_paths.specs.Bits.{Bit, is_among, is_of, known_low, select_reads, bit_read, some_bit_read, index_reads, some_index_reads}
use Rattle.vl_paths.specs.Paths.{always, early, early_in, label_reads}
use Rattle.vl_paths.specs.Nets.{IsNetStm, AreNetItems}
use Rattle.vl_paths.proofs.Ways.{or_false, or_true, and_true}
use Rattle.vl_paths.proofs.Writing.{among_signal}

module _ (names : Names) (b : Bit) (p : ℕ → Bool) where
  among : (k : ℕ) (low : ℤ) (w : ℕ) → is_among b k low w ≡ true → p k ≡ false → p b.signal ≡ false
  among k low w h g = ap p (among_signal b k low w h) ∙ g

  select : (base : Exp) (o : Option ℤ) (w : ℕ) (all : Bool) → select_reads b base o w all ≡ true → all ≡ true
  select (Sig k) (Some low) w all h = (and_true all (is_among b k low w) h).0
  select (Sig k) None w all h = h
  select base o w all h = h

  mutual
    unread : (e : Exp) → bit_read names b e ≡ true → reads p e ≡ false → p b.signal ≡ false
    unread (Num v w signed) h g = let z : ⊥ = cc in absurd z
    unread (Label v care w signed) h g = let z : ⊥ = cc in absurd z
    unread (Sig k) h g = among k (pos 0) (signal_form names.rows k).width h g
    unread (Word m a) h g = let f = or_false (p m) (reads p a) g in elim (or_true (is_of names b m) (bit_read names b a) h) [ inl i ↦ among m (pos 0) (signal_form names.rows m).width i f.0 | inr i ↦ unread a i f.1 ]
    unread (Pick base i from w) h g =
        let f = or_false (reads p base) (reads p i) g in
        elim (or_true (select_reads b base (known_low names from i) w (bit_read names b base)) (bit_read names b i) h) [
          | inl k ↦ unread base (select base (known_low names from i) w (bit_read names b base) k) f.0
          | inr k ↦ unread i k f.1
        ]
    unread (Slice base low w) h g = unread base (select base (Some low) w (bit_read names b base) h) g
    unread (Un op a) h g = unread a h g
    unread (Bin op x y) h g = let f = or_false (reads p x) (reads p y) g in elim (or_true (bit_read names b x) (bit_read names b y) h) [ inl i ↦ unread x i f.0 | inr i ↦ unread y i f.1 ]
    unread (Cond t x y) h g =
        let f = or_false (reads p t) (reads p x || reads p y) g in
        let e = or_false (reads p x) (reads p y) f.1 in
        elim (or_true (bit_read names b t) (bit_read names b x || bit_read names b y) h) [
          | inl i ↦ unread t i f.0
          | inr j ↦ elim (or_true (bit_read names b x) (bit_read names b y) j) [ inl i ↦ unread x i e.0 | inr i ↦ unread y i e.1 ]
        ]
    unread (Cat es) h g = some_unread es h g
    unread (Rep n es) h g = some_unread es h g
    unread (Cast s a) h g = unread a h g
    unread (Call f es) h g = some_unread es h g
    unread Time h g = let z : ⊥ = cc in absurd z
    unread LastAnswer h g = let z : ⊥ = cc in absurd z

    some_unread : (es : Exps) → some_bit_read names b es ≡ true → some_reads p es ≡ false → p b.signal ≡ false
    some_unread NoExps h g = let z : ⊥ = cc in absurd z
    some_unread (MoreExps e es) h g = let f = or_false (reads p e) (some_reads p es) g in elim (or_true (bit_read names b e) (some_bit_read names b es) h) [ inl i ↦ unread e i f.0 | inr i ↦ some_unread es i f.1 ]

  mutual
    index_unread : (t : Target) → index_reads names b t ≡ true → target_reads p t ≡ false → p b.signal ≡ false
    index_unread (Whole k) h g = let z : ⊥ = cc in absurd z
    index_unread (WordAt m a) h g = unread a h g
    index_unread (PickAt base i from w) h g = let f = or_false (target_reads p base) (reads p i) g in elim (or_true (index_reads names b base) (bit_read names b i) h) [ inl j ↦ index_unread base j f.0 | inr j ↦ unread i j f.1 ]
    index_unread (SliceAt base low w) h g = index_unread base h g
    index_unread (Several ts) h g = indices_unread ts h g

    indices_unread : (ts : Targets) → some_index_reads names b ts ≡ true → targets_read p ts ≡ false → p b.signal ≡ false
    indices_unread NoTargets h g = let z : ⊥ = cc in absurd z
    indices_unread (MoreTargets t ts) h g = let f = or_false (target_reads p t) (targets_read p ts) g in elim (or_true (index_reads names b t) (some_index_reads names b ts) h) [ inl i ↦ index_unread t i f.0 | inr i ↦ indices_unread ts i f.1 ]

  -- labels are read with the case
  labels_unread : (items : Items) → label_reads names b items ≡ true → items_read p items ≡ false → p b.signal ≡ false
  labels_unread NoItems h g = let z : ⊥ = cc in absurd z
  labels_unread (Labelled es a others) h g =
      let f = or_false (some_reads p es) (stm_reads p a || items_read p others) g in
      let e = or_false (stm_reads p a) (items_read p others) f.1 in
      elim (or_true (some_bit_read names b es) (label_reads names b others) h) [ inl i ↦ some_unread es i f.0 | inr i ↦ labels_unread others i e.1 ]
  labels_unread (Default a others) h g = labels_unread others h (or_false (stm_reads p a) (items_read p others) g).1

  mutual
    -- who is not woken reads nothing that changed
    pub stm_unread : (a : Stm) → early names b a ≡ true → stm_reads p a ≡ false → p b.signal ≡ false
    stm_unread Nop h g = let z : ⊥ = cc in absurd z
    stm_unread (Then x y) h g =
        let f = or_false (stm_reads p x) (stm_reads p y) g in
        elim (or_true (early names b x) (not (always names b x) && early names b y) h) [ inl i ↦ stm_unread x i f.0 | inr i ↦ stm_unread y (and_true (not (always names b x)) (early names b y) i).1 f.1 ]
    stm_unread (If t x y) h g =
        let f = or_false (reads p t) (stm_reads p x || stm_reads p y) g in
        let e = or_false (stm_reads p x) (stm_reads p y) f.1 in
        elim (or_true (bit_read names b t) (early names b x || early names b y) h) [
          | inl i ↦ unread t i f.0
          | inr j ↦ elim (or_true (early names b x) (early names b y) j) [ inl i ↦ stm_unread x i e.0 | inr i ↦ stm_unread y i e.1 ]
        ]
    stm_unread (Case e items) h g =
        let f = or_false (reads p e) (items_read p items) g in
        elim (or_true (bit_read names b e || label_reads names b items) (early_in names b items) h) [
          | inl j ↦ elim (or_true (bit_read names b e) (label_reads names b items) j) [ inl i ↦ unread e i f.0 | inr i ↦ labels_unread items i f.1 ]
          | inr i ↦ items_unread items i f.1
        ]
    stm_unread (Set t e) h g = let f = or_false (target_reads p t) (reads p e) g in elim (or_true (index_reads names b t) (bit_read names b e) h) [ inl i ↦ index_unread t i f.0 | inr i ↦ unread e i f.1 ]
    stm_unread (For k start test step a) h g = let z : ⊥ = cc in absurd z
    stm_unread (Repeat n a) h g = let z : ⊥ = cc in absurd z
    stm_unread (Later t e) h g = let z : ⊥ = cc in absurd z
    stm_unread (Sys task) h g = let z : ⊥ = cc in absurd z

    items_unread : (items : Items) → early_in names b items ≡ true → items_read p items ≡ false → p b.signal ≡ false
    items_unread NoItems h g = let z : ⊥ = cc in absurd z
    items_unread (Labelled es a others) h g =
        let f = or_false (some_reads p es) (stm_reads p a || items_read p others) g in
        let e = or_false (stm_reads p a) (items_read p others) f.1 in
        elim (or_true (early names b a) (early_in names b others) h) [ inl i ↦ stm_unread a i e.0 | inr i ↦ items_unread others i e.1 ]
    items_unread (Default a others) h g = let f = or_false (stm_reads p a) (items_read p others) g in elim (or_true (early names b a) (early_in names b others) h) [ inl i ↦ stm_unread a i f.0 | inr i ↦ items_unread others i f.1 ]

  -- where nothing passes the test nothing is read
  module _ (none : (k : ℕ) → p k ≡ false) where
    both : (x y : Bool) → x ≡ false → y ≡ false → (x || y) ≡ false
    both true y g h = let z : ⊥ = cc in absurd z
    both false y g h = h

    mutual
      reads_none : (e : Exp) → reads p e ≡ false
      reads_none (Num v w signed) = refl
      reads_none (Label v care w signed) = refl
      reads_none (Sig k) = none k
      reads_none (Word m a) = both _ _ (none m) (reads_none a)
      reads_none (Pick base i from w) = both _ _ (reads_none base) (reads_none i)
      reads_none (Slice base low w) = reads_none base
      reads_none (Un op a) = reads_none a
      reads_none (Bin op x y) = both _ _ (reads_none x) (reads_none y)
      reads_none (Cond t x y) = both _ _ (reads_none t) (both _ _ (reads_none x) (reads_none y))
      reads_none (Cat es) = some_read_none es
      reads_none (Rep n es) = some_read_none es
      reads_none (Cast s a) = reads_none a
      reads_none (Call f es) = some_read_none es
      reads_none Time = refl
      reads_none LastAnswer = refl

      some_read_none : (es : Exps) → some_reads p es ≡ false
      some_read_none NoExps = refl
      some_read_none (MoreExps e es) = both _ _ (reads_none e) (some_read_none es)

    mutual
      target_none : (t : Target) → target_reads p t ≡ false
      target_none (Whole k) = refl
      target_none (WordAt m a) = reads_none a
      target_none (PickAt base i from w) = both _ _ (target_none base) (reads_none i)
      target_none (SliceAt base low w) = target_none base
      target_none (Several ts) = targets_none ts

      targets_none : (ts : Targets) → targets_read p ts ≡ false
      targets_none NoTargets = refl
      targets_none (MoreTargets t ts) = both _ _ (target_none t) (targets_none ts)

    module _ (is_memory : ℕ → Bool) where
      mutual
        pub stm_reads_none : (a : Stm) → IsNetStm is_memory a → stm_reads p a ≡ false
        stm_reads_none Nop n = refl
        stm_reads_none (Then x y) n = both _ _ (stm_reads_none x n.0) (stm_reads_none y n.1)
        stm_reads_none (If t x y) n = both _ _ (reads_none t) (both _ _ (stm_reads_none x n.0) (stm_reads_none y n.1))
        stm_reads_none (Case e items) n = both _ _ (reads_none e) (items_read_none items n)
        stm_reads_none (Set t e) n = both _ _ (target_none t) (reads_none e)
        stm_reads_none (For k start test step a) n = absurd n
        stm_reads_none (Repeat m a) n = absurd n
        stm_reads_none (Later t e) n = absurd n
        stm_reads_none (Sys task) n = absurd n

        items_read_none : (items : Items) → AreNetItems is_memory items → items_read p items ≡ false
        items_read_none NoItems n = refl
        items_read_none (Labelled es a others) n = both _ _ (some_read_none es) (both _ _ (stm_reads_none a n.0) (items_read_none others n.1))
        items_read_none (Default a others) n = both _ _ (stm_reads_none a n.0) (items_read_none others n.1)
