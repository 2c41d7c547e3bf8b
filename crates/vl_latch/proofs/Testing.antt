-- Bits of parts.
use Rattle.std.proofs.Common.{◌≡◌, ◌≢◌, ℕ, zero, suc, ◌+◌, ◌^◌, ◌<◌, Bool, true, false, List, [], ◌∷◌, ◌++◌, length, drop, get_or, refl, sym, ap, ◌∙◌, subst, arith, Fits}
use Rattle.std.specs.Prelude.{◌||◌, ◌&&◌, not, ◌==◌, ◌⊎◌, ◌↔◌}
use Rattle.std.specs.Int.{bit_at, w128, trailing_zeros}
use Rattle.std.proofs.lemmas.Grind.{common_steps}
use Rattle.std.proofs.lemmas.Nat.Bits.{bit_at-trailing_zeros}
use mathlib.Core.Logic.{inl, inr}
use Rattle.vl_design.specs.Width.{Names}
use Rattle.vl_bits.specs.vl_paths.specs.Bits.{Bit, is_of}
use Rattle.vl_bits.specs.vl_paths.proofs.Ways.{or_true, or_left, or_right, and_true, both_true}
use Rattle.vl_bits.specs.declared.parts.Part.{Part}
use Rattle.vl_bits.specs.Masks.{has, in_masks, in_part, in_parts, AreOf}
use Rattle.vl_bits.proofs.Lists.{empty, next, pushed}
use Rattle.vl_bits.specs.Walks.{IsClear}
use Rattle.vl_latch.specs.Partly.{HasBit}
pub use Rattle.vl_base.proofs.Booleans.{never_both as not_both, not_true_false as not_true}
use Rattle.vl_base.proofs.Numbers.{equal_self as itself, one_true as is_one}
pub use Rattle.vl_base.proofs.Numbers.{equal_from as same_from}
pub use Rattle.vl_bits.proofs.Testing.{part_in}

pub not_false : (a : Bool) → a ≡ false → not a ≡ true
not_false true h = let z : ⊥ = cc in absurd z
not_false false h = refl

-- ---- one part

-- a part with bits has one
pub some_bit : (p : Part) → Fits w128 p.bits → p.bits ≢ 0 → (b : Bit) × (in_part p b ≡ true)
some_bit p f n =
    let l : p.bits < 2 ^ 128 = omega (arith, f) in
    let m : 0 < p.bits = omega (arith, n) in
    let h = bit_at-trailing_zeros w128 p.bits m l in
    (record { signal = p.signal; place = trailing_zeros w128 p.bits }, both_true (p.signal == p.signal) (has p.bits (trailing_zeros w128 p.bits)) (itself p.signal) (is_one (bit_at p.bits (trailing_zeros w128 p.bits)) h.1))

-- one without has none
pub no_bit : (p : Part) (b : Bit) → p.bits ≡ 0 → in_part p b ≡ true → ⊥
no_bit p b e h = not_both (in_part p b) h (empty p b e)

-- it is of the part's signal
pub part_signal : (p : Part) (b : Bit) → in_part p b ≡ true → b.signal ≡ p.signal
part_signal p b h = same_from b.signal p.signal (and_true (b.signal == p.signal) (has p.bits b.place) h).0

-- a part that has a bit where a fact on its signal holds
pub own_bit : (P : ℕ → Type 0) (p : Part) (r : Bool) → P p.signal → ((r ≡ true) ↔ ((b : Bit) × (in_part p b ≡ true))) → (r ≡ true) ↔ ((b : Bit) × (in_part p b ≡ true) × P b.signal)
own_bit P p r h g = (λ e. let w = g.0 e in (w.0, w.1, subst P (sym (part_signal p w.0 w.1)) h), λ w. g.1 (w.0, w.1))

pub no_own_bit : (P : ℕ → Type 0) (p : Part) → (P p.signal → ⊥) → (false ≡ true) ↔ ((b : Bit) × (in_part p b ≡ true) × P b.signal)
no_own_bit P p h = (λ e. absurd (not_both false e refl), λ w. absurd (h (subst P (part_signal p w.0 w.1) w.2)))

-- ---- lists of parts

pub bit_here : (P : Bit → Type 0) (ps : List Part) (i : ℕ) (d : Part) (b : Bit) → i < length ps → in_part (get_or ps i d) b ≡ true → P b → HasBit ps P
bit_here P ps i d b l h p = (b, part_in ps i d b l h, p)

-- what isn't in the next part is in those behind it
pub bit_on : (P : Bit → Type 0) (ps : List Part) (i : ℕ) (d : Part) → i < length ps → ((b : Bit) → in_part (get_or ps i d) b ≡ true → P b → ⊥) → HasBit (drop i ps) P → HasBit (drop (i + 1) ps) P
bit_on P ps i d l n w =
    elim (or_true (in_part (get_or ps i d) w.0) (in_parts (drop (i + 1) ps) w.0) (sym (next ps i d w.0 l) ∙ w.1)) [
      | inl h ↦ absurd (n w.0 h w.2)
      | inr h ↦ (w.0, h, w.2)
    ]

pub bit_none : (P : Bit → Type 0) (ps : List Part) → ps ≡ [] → HasBit ps P → ⊥
bit_none P ps e w = not_both (in_parts ps w.0) w.1 (ap (λ xs. in_parts xs w.0) e)

-- a list with another fact
pub bit_same : (P Q : Bit → Type 0) (ps : List Part) (r : Bool) → ((r ≡ true) ↔ HasBit ps P) → ((b : Bit) → P b → Q b) → ((b : Bit) → Q b → P b) → (r ≡ true) ↔ HasBit ps Q
bit_same P Q ps r h f g = (λ e. let w = h.0 e in (w.0, w.1, f w.0 w.2), λ w. h.1 (w.0, w.1, g w.0 w.2))

-- masks without bits in which the parts are shown
pub shown : (masks shows : List ℕ) (ps : List Part) → IsClear masks → ((b : Bit) → in_masks shows b ≡ (in_masks masks b || in_parts ps b)) → (b : Bit) → in_masks shows b ≡ in_parts ps b
shown masks shows ps clear h b = h b ∙ ap (λ x. x || in_parts ps b) (clear b)

hidden_all : (a : Bool) → (a && not a) ≡ false
hidden_all true = refl
hidden_all false = refl

-- and hidden again
pub hid_again : (masks shows hides : List ℕ) (ps : List Part) → IsClear masks → ((b : Bit) → in_masks shows b ≡ (in_masks masks b || in_parts ps b)) →
    ((b : Bit) → in_masks hides b ≡ (in_masks shows b && not (in_parts ps b))) → IsClear hides
hid_again masks shows hides ps clear h g b = g b ∙ ap (λ x. x && not (in_parts ps b)) (shown masks shows ps clear h b) ∙ hidden_all (in_parts ps b)

-- ---- whole signals

-- a bit of a signal of one of the parts
abbrev pub OfSignal : Names → (Bit → Bool) → Bit → Type 0
OfSignal names among b = (c : Bit) × (is_of names b c.signal ≡ true) × (among c ≡ true)

pub whole_added : (names : Names) (p w : Part) (all : List Part) → ((b : Bit) → in_part w b ≡ is_of names b p.signal) → (c : Bit) → in_part p c ≡ true → (b : Bit) →
    (in_parts (all ++ w ∷ []) b ≡ true) ↔ ((in_parts all b ≡ true) ⊎ OfSignal names (in_part p) b)
whole_added names p w all is c in-p b = (
  λ h. elim (or_true (in_parts all b) (in_part w b) (sym (pushed all w b) ∙ h)) [
    | inl g ↦ inl g
    | inr g ↦ inr (c, subst (λ (k : ℕ). is_of names b k ≡ true) (sym (part_signal p c in-p)) (sym (is b) ∙ g), in-p)
  ],
  λ h. elim h [
    | inl g ↦ pushed all w b ∙ or_left (in_parts all b) (in_part w b) g
    | inr g ↦ pushed all w b ∙ or_right (in_parts all b) (in_part w b) (is b ∙ subst (λ (k : ℕ). is_of names b k ≡ true) (part_signal p g.0 g.2) g.1)
  ],
)

-- before the rest of the parts: the wholes so far
pub record Wholes (names : Names) (ps rest all : List Part) : Type 0 where
  pub from : (b : Bit) → in_parts all b ≡ true → OfSignal names (in_parts ps) b
  pub to : (b c : Bit) → is_of names b c.signal ≡ true → in_parts ps c ≡ true → (in_parts all b ≡ true) ⊎ (in_parts rest c ≡ true)

pub wholes_first : (names : Names) (ps all : List Part) → all ≡ [] → Wholes names ps ps all
wholes_first names ps all e = record {
  from = λ b h. absurd (not_both (in_parts all b) h (ap (λ xs. in_parts xs b) e));
  to = λ b c g h. inr h;
}

pub wholes_next : (names : Names) (ps : List Part) (i : ℕ) (d : Part) (all more : List Part) → i < length ps → ((b : Bit) → (in_parts more b ≡ true) ↔ ((in_parts all b ≡ true) ⊎ OfSignal names (in_part (get_or ps i d)) b)) →
    Wholes names ps (drop i ps) all → Wholes names ps (drop (i + 1) ps) more
wholes_next names ps i d all more l is w = record {
  from = λ b h. elim ((is b).0 h) [ inl g ↦ w.from b g | inr g ↦ (g.0, g.1, part_in ps i d g.0 l g.2) ];
  to = λ b c g h. elim (w.to b c g h) [
    | inl k ↦ inl ((is b).1 (inl k))
    | inr k ↦ elim (or_true (in_part (get_or ps i d) c) (in_parts (drop (i + 1) ps) c) (sym (next ps i d c l) ∙ k)) [
      | inl j ↦ inl ((is b).1 (inr (c, g, j)))
      | inr j ↦ inr j
    ]
  ];
}

pub wholes_done : (names : Names) (ps rest all : List Part) → rest ≡ [] → Wholes names ps rest all → (b : Bit) → (in_parts all b ≡ true) ↔ OfSignal names (in_parts ps) b
wholes_done names ps rest all e w b = (w.from b, λ g. elim (w.to b g.0 g.1 g.2) [ inl h ↦ h | inr h ↦ absurd (not_both (in_parts rest g.0) h (ap (λ xs. in_parts xs g.0) e)) ])

pub ruleset somes = (common_steps, some_bit, no_bit)
