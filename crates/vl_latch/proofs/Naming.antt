-- What a sound statement may assign is a signal.
use Rattle.std.proofs.Common.{◌≡◌, ℕ, zero, suc, ◌<◌, true, false, List, [], ◌∷◌, length, refl, sym, subst, arith}
use Rattle.std.specs.Prelude.{◌&&◌, ◌==◌, ℤ, pos, ◌+ℤ◌, int_le, int_lt, Option, Some, None, slice_get, ⊤}
use mathlib.Core.Logic.{inl, inr}
use Rattle.vl_design.specs.declared.design.SigKind.{SigKind}
use Rattle.vl_design.specs.Syntax.{Target, Whole, WordAt, PickAt, SliceAt, Several, Targets, NoTargets, MoreTargets, Stm, Nop, Then, If, Case, For, Repeat, Set, Later, Sys, Items, NoItems, Labelled, Default, Row}
use Rattle.vl_design.specs.Sound.{IsOf, IsNamed, IsSignal, IsSoundBase, IsSoundTarget, AreSoundTargets, IsSoundStm, AreSoundItems}
use Rattle.vl_design.specs.Width.{Names, signal_form}
use Rattle.vl_bits.specs.vl_paths.specs.Bits.{Bit, is_of, known_low, part_sets, bit_set, some_bit_set}
use Rattle.vl_bits.specs.vl_paths.specs.Touched.{touched, touched_in}
use Rattle.vl_bits.specs.vl_paths.proofs.Ways.{or_true, and_true}
use Rattle.vl_latch.proofs.Testing.{same_from, not_both}
pub use Rattle.vl_design.proofs.Shared.{of-there as named_there}
use Rattle.vl_design.proofs.Shared.{of-named as named}

pub of_signal : (names : Names) (b : Bit) (k : ℕ) → is_of names b k ≡ true → b.signal ≡ k
of_signal names b k h = same_from b.signal k (and_true (b.signal == k) (int_le (pos 0) (pos b.place) && int_lt (pos b.place) (pos 0 +ℤ pos (signal_form names.rows k).width)) h).0

module _ (names : Names) (b : Bit) where
  here : (P : SigKind → Type 0) (k : ℕ) → IsOf P (slice_get names.rows k) → is_of names b k ≡ true → IsNamed names b.signal
  here P k s h = subst (λ (j : ℕ). IsNamed names j) (sym (of_signal names b k h)) (named P (slice_get names.rows k) s)

  part_named : (base : Target) (low : Option ℤ) (w : ℕ) → IsSoundBase names base → part_sets names true b base low w ≡ true → IsNamed names b.signal
  part_named (Whole k) None w s h = here _ k s h
  part_named (Whole k) (Some low) w s h = here _ k s (and_true (is_of names b k) _ h).0
  part_named (WordAt m a) None w s h = here _ m s.0 h
  part_named (WordAt m a) (Some low) w s h = here _ m s.0 h
  part_named (PickAt base i from v) low w s h = absurd s
  part_named (SliceAt base l v) low w s h = absurd s
  part_named (Several ts) low w s h = absurd s

  mutual
    set_named : (t : Target) → IsSoundTarget names t → bit_set names true b t ≡ true → IsNamed names b.signal
    set_named (Whole k) s h = here _ k s h
    set_named (WordAt m a) s h = here _ m s.0 h
    set_named (PickAt base i from w) s h = part_named base (known_low names from i) w s.1 h
    set_named (SliceAt base low w) s h = part_named base (Some low) w s.1 h
    set_named (Several ts) s h = sets_named ts s.1 h

    sets_named : (ts : Targets) → AreSoundTargets names ts → some_bit_set names true b ts ≡ true → IsNamed names b.signal
    sets_named NoTargets s h = absurd (not_both false h refl)
    sets_named (MoreTargets t ts) s h = elim (or_true (bit_set names true b t) (some_bit_set names true b ts) h) [ inl g ↦ set_named t s.0 g | inr g ↦ sets_named ts s.1 g ]

  mutual
    pub touched_named : (a : Stm) → IsSoundStm names a → touched names b a ≡ true → IsNamed names b.signal
    touched_named (Then x y) s h = elim (or_true (touched names b x) (touched names b y) h) [ inl g ↦ touched_named x s.0 g | inr g ↦ touched_named y s.1 g ]
    touched_named (If t x y) s h = elim (or_true (touched names b x) (touched names b y) h) [ inl g ↦ touched_named x s.1 g | inr g ↦ touched_named y s.2 g ]
    touched_named (Case e items) s h = touched_in_named items s.1 h
    touched_named (Set t e) s h = set_named t s.0 h
    touched_named Nop s h = absurd (not_both false h refl)
    touched_named (For k start test step a) s h = absurd (not_both false h refl)
    touched_named (Repeat n a) s h = absurd (not_both false h refl)
    touched_named (Later t e) s h = absurd (not_both false h refl)
    touched_named (Sys task) s h = absurd (not_both false h refl)

    touched_in_named : (items : Items) → AreSoundItems names items → touched_in names b items ≡ true → IsNamed names b.signal
    touched_in_named NoItems s h = absurd (not_both false h refl)
    touched_in_named (Labelled es a others) s h = elim (or_true (touched names b a) (touched_in names b others) h) [ inl g ↦ touched_named a s.1 g | inr g ↦ touched_in_named others s.2 g ]
    touched_in_named (Default a others) s h = elim (or_true (touched names b a) (touched_in names b others) h) [ inl g ↦ touched_named a s.0 g | inr g ↦ touched_in_named others s.1 g ]
