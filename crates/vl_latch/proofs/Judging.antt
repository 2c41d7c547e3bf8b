-- Construct 19 by lists of parts.
use Rattle.std.proofs.Common.{◌≡◌, Bool, true, false, List, [], ◌∷◌, sym, ap, ◌∙◌}
use Rattle.std.specs.Prelude.{◌||◌, ◌↔◌}
use mathlib.Core.Logic.{inl, inr}
use Rattle.vl_design.specs.Syntax.{Stm, Fun}
use Rattle.vl_design.specs.Width.{Names}
use Rattle.vl_bits.specs.vl_paths.specs.Bits.{Bit, is_of}
use Rattle.vl_bits.specs.vl_paths.specs.Paths.{always, early, IsReadFirst}
use Rattle.vl_bits.specs.vl_paths.specs.Touched.{touched}
use Rattle.vl_bits.specs.vl_paths.proofs.Ways.{assigned_exactly, read_exactly, or_true, or_left, or_right, either}
use Rattle.vl_bits.specs.declared.parts.Part.{Part}
use Rattle.vl_bits.specs.Masks.{in_part, in_parts}
use Rattle.vl_bits.proofs.Lists.{or_none}
use Rattle.vl_latch.specs.Partly.{IsWritten, IsLeft, IsPartly, IsPartlyFun, is_own, HasBit}
use Rattle.vl_latch.proofs.Testing.{not_both, OfSignal}

module _ (names : Names) (a : Stm) (read assigned : List Part) (reads : (b : Bit) → in_parts read b ≡ early names b a) (assigns : (b : Bit) → in_parts assigned b ≡ always names b a) where
  is_left : (b : Bit) → in_parts assigned b ≡ false → IsLeft names a b
  is_left b h = λ g. not_both (always names b a) ((assigned_exactly names b a).1 g) (sym (assigns b) ∙ h)

  left_is : (b : Bit) → IsLeft names a b → in_parts assigned b ≡ false
  left_is b h = elim (either (always names b a)) [
    | inl g ↦ absurd (h ((assigned_exactly names b a).0 g))
    | inr g ↦ assigns b ∙ g
  ]

  is_read : (b : Bit) → in_parts read b ≡ true → IsReadFirst names b a
  is_read b h = (read_exactly names b a).0 (sym (reads b) ∙ h)

  read_is : (b : Bit) → IsReadFirst names b a → in_parts read b ≡ true
  read_is b h = reads b ∙ (read_exactly names b a).1 h

  pub partly_exactly : (driven written : List Part) (l e : Bool) → ((b : Bit) → in_parts driven b ≡ touched names b a) → ((b : Bit) → (in_parts written b ≡ true) ↔ OfSignal names (in_parts driven) b)
      → ((l ≡ true) ↔ HasBit written (λ b. in_parts assigned b ≡ false)) → ((e ≡ true) ↔ HasBit read (λ b. in_parts written b ≡ true)) → ((l || e) ≡ true) ↔ IsPartly names a
  partly_exactly driven written l e drives is lacks shares = (
    λ h. elim (or_true l e h) [
      | inl g ↦ let w = lacks.0 g in (w.0, writes w.0 w.1, inl (is_left w.0 w.2))
      | inr g ↦ let w = shares.0 g in (w.0, writes w.0 w.2, inr (is_read w.0 w.1))
    ],
    λ w. elim w.2 [
      | inl g ↦ or_left l e (lacks.1 (w.0, written_is w.0 w.1, left_is w.0 g))
      | inr g ↦ or_right l e (shares.1 (w.0, read_is w.0 g, written_is w.0 w.1))
    ],
  )
    where
      writes : (b : Bit) → in_parts written b ≡ true → IsWritten names a b
      writes b h = let w = (is b).0 h in (w.0, w.1, sym (drives w.0) ∙ w.2)

      written_is : (b : Bit) → IsWritten names a b → in_parts written b ≡ true
      written_is b w = (is b).1 (w.0, w.1, drives w.0 ∙ w.2)

pub fun_exactly : (names : Names) (f : Fun) (read assigned own : List Part) (whole : Part) (l e : Bool) → ((b : Bit) → in_parts read b ≡ early names b f.body) → ((b : Bit) → in_parts assigned b ≡ always names b f.body)
    → own ≡ whole ∷ [] → ((b : Bit) → in_part whole b ≡ is_of names b f.result) → ((l ≡ true) ↔ HasBit own (λ b. in_parts assigned b ≡ false)) → ((e ≡ true) ↔ HasBit read (λ b. is_own names f b.signal ≡ true))
    → ((l || e) ≡ true) ↔ IsPartlyFun names f
fun_exactly names f read assigned own whole l e reads assigns one is lacks owns = (
  λ h. elim (or_true l e h) [
    | inl g ↦ let w = lacks.0 g in (w.0, inl (sym (bits w.0) ∙ w.1, is_left names f.body read assigned reads assigns w.0 w.2))
    | inr g ↦ let w = owns.0 g in (w.0, inr (w.2, is_read names f.body read assigned reads assigns w.0 w.1))
  ],
  λ w. elim w.1 [
    | inl g ↦ or_left l e (lacks.1 (w.0, bits w.0 ∙ g.0, left_is names f.body read assigned reads assigns w.0 g.1))
    | inr g ↦ or_right l e (owns.1 (w.0, read_is names f.body read assigned reads assigns w.0 g.1, g.0))
  ],
)
  where
    bits : (b : Bit) → in_parts own b ≡ is_of names b f.result
    bits b = ap (λ ps. in_parts ps b) one ∙ or_none (in_part whole b) ∙ is b
