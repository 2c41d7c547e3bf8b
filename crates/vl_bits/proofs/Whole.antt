-- Walks from empty sets.
use Rattle.std.proofs.Common.{◌≡◌, ◌<◌, ℕ, Bool, true, false, List, [], length, refl, sym, ap, ◌∙◌, subst, arith}
use Rattle.std.specs.Prelude.{◌||◌, ◌&&◌, not}
use Rattle.vl_design.specs.Syntax.{Stm}
use Rattle.vl_design.specs.Width.{Names}
use Rattle.vl_paths.specs.Bits.{Bit}
use Rattle.vl_paths.specs.Paths.{always, early}
use Rattle.vl_paths.specs.Touched.{touched}
use Rattle.vl_bits.specs.declared.parts.Part.{Part}
use Rattle.vl_bits.specs.Masks.{in_masks, in_parts, AreOf}
use Rattle.vl_bits.specs.declared.sets.Sets.{Sets}
use Rattle.vl_bits.specs.Walks.{IsClear, Walks}

clear_gain : (k a : Bool) → k ≡ false → (not k && a) ≡ a
clear_gain true a h = let z : ⊥ = cc in absurd z
clear_gain false a h = refl

clear_again : (k a : Bool) → k ≡ false → ((k || a) && not a) ≡ false
clear_again true a h = let z : ⊥ = cc in absurd z
clear_again false true h = refl
clear_again false false h = refl

module _ (names : Names) (a : Stm) (s t : Sets) (more : List Part) (w : Walks names a s t more) (clear : IsClear s.known.items) where
  pub all_assigned : (b : Bit) → in_parts more b ≡ always names b a
  all_assigned b = w.collects.gained b ∙ clear_gain (in_masks s.known.items b) (always names b a) (clear b)

  pub all_read : s.read.items ≡ [] → (b : Bit) → in_parts t.read.items b ≡ early names b a
  all_read e b = w.collects.read b ∙ ap (λ ps. in_parts ps b || (not (in_masks s.known.items b) && early names b a)) e ∙ clear_gain (in_masks s.known.items b) (early names b a) (clear b)

  pub all_driven : s.driven.items ≡ [] → (b : Bit) → in_parts t.driven.items b ≡ touched names b a
  all_driven e b = w.collects.driven b ∙ ap (λ ps. in_parts ps b || touched names b a) e

  pub all_clear : (masks : List ℕ) → ((b : Bit) → in_masks masks b ≡ (in_masks t.known.items b && not (in_parts more b))) → IsClear masks
  all_clear masks hid b = hid b ∙ ap (λ x. x && not (in_parts more b)) (w.known b) ∙ ap (λ x. (in_masks s.known.items b || always names b a) && not x) (all_assigned b)
      ∙ clear_again (in_masks s.known.items b) (always names b a) (clear b)

  none_within : (n : ℕ) (ps : List Part) → ps ≡ [] → AreOf n ps
  none_within n ps e = rw e (λ k d l. absurd (omega arith))

  pub all_read_within : (n : ℕ) → length s.known.items ≡ n → s.read.items ≡ [] → AreOf n t.read.items
  all_read_within n l e = rw (← l) (w.collects.read_within (none_within (length s.known.items) s.read.items e))

  pub all_driven_within : (n : ℕ) → length s.known.items ≡ n → s.driven.items ≡ [] → AreOf n t.driven.items
  all_driven_within n l e = rw (← l) (w.collects.driven_within (none_within (length s.known.items) s.driven.items e))

  pub all_assigned_within : (n : ℕ) → length s.known.items ≡ n → AreOf n more
  all_assigned_within n l = rw (← l) w.collects.within
