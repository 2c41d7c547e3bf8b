-- Slots that hold what is read.
use Rattle.std.proofs.Common.{◌≡◌, ℕ, ◌+◌, ◌^◌, ◌<◌, ◌≤◌, Bool, true, false, refl, ◌∙◌, arith, subst}
use Rattle.std.specs.Prelude.{◌==◌, if◌then◌else◌, pos, neg_ℤ, ◌-◌}
use Rattle.std.proofs.lemmas.Bool.{leb-true}
use Rattle.std.proofs.Math.Nat.{mod-eq_of_lt}
use Rattle.std.proofs.Math.Pow.{pow_mono, pow_pos}
use Rattle.vl_base.specs.Value.{resized, is_negative, wrapped}
use Rattle.vl_design.specs.Value.{Sample}
use Rattle.vl_design.specs.Width.{Names}
use Rattle.cell_emit.specs.cell_form.specs.Data.{ListData, BankData}
use Rattle.cell_emit.specs.cell_form.specs.Sound.{Shape}
use Rattle.cell_emit.specs.Slots.{held, AreSound, Longer, Gives}
use Rattle.cell_emit.proofs.Frames.{held-fits, held-stays, longer-grows, longer-then, longer-weaken}
use Rattle.cell_emit.specs.Counts.{resizes}
use Rattle.cell_emit.specs.Envs.{Env, Fits, HasMemories, Stands}
use Rattle.cell_emit.proofs.Staying.{is-slot-stays, stands-stays, sound-behind}
use Rattle.cell_expr.specs.Compiled.{Holds}
pub use Rattle.cell_emit.proofs.Repeating.{few-resizes as resizes-most}

-- a value of few bits is the same in more
pub resized-wide : (own width v : ℕ) → own ≤ width → v < 2 ^ own → resized false own width v ≡ v
resized-wide own width v le h = let m : 2 ^ own ≤ 2 ^ width = pow_mono le in mod-eq_of_lt (omega (arith, m, h))

module _ (names : Names) (at : Env) where
  pub holds-wider : (n m : ℕ) (old new : ListData) (r w : ℕ) (f : Sample → ℕ) → n ≤ m → Holds names n at old new r w f → Holds names m at old new r w f
  holds-wider n m old new r w f le h =
      let H : Shape → Type 0 = HasMemories names at in
      record { longer = longer-weaken H H n m old new (λ s k. k) le h.longer; slot = h.slot; value = h.value }

  -- the same said otherwise
  pub holds-as : (n : ℕ) (old new : ListData) (r w v : ℕ) (f g : Sample → ℕ) → w ≡ v → ((x : Sample) → f x ≡ g x) → Holds names n at old new r w f → Holds names n at old new r v g
  holds-as n old new r w v f g e same h = record {
    longer = h.longer;
    slot = record { there = h.slot.there; width = h.slot.width ∙ e };
    value = λ s b x sound st. h.value s b x sound st ∙ same x;
  }

  -- cells behind a slot leave it what it holds
  pub holds-then : (n m : ℕ) (old mid new : ListData) (r w : ℕ) (f : Sample → ℕ) → Longer (HasMemories names at) m mid new → Holds names n at old mid r w f → Holds names (n + m) at old new r w f
  holds-then n m old mid new r w f longer h =
      let H : Shape → Type 0 = HasMemories names at in
      let g = longer-grows H m mid new longer in
      record {
        longer = longer-then H n m old mid new h.longer longer;
        slot = is-slot-stays mid new r w g h.slot;
        value = λ s b x sound st. held-stays b mid new r g h.slot.there ∙ h.value s b x sound st;
      }

  -- a slot behind other cells holds the same
  pub holds-behind : (n m : ℕ) (old mid new : ListData) (r w : ℕ) (f : Sample → ℕ) → Fits names old at → Longer (HasMemories names at) n old mid → Holds names m at mid new r w f → Holds names (n + m) at old new r w f
  holds-behind n m old mid new r w f fits longer h =
      let H : Shape → Type 0 = HasMemories names at in
      record {
        longer = longer-then H n m old mid new longer h.longer;
        slot = h.slot;
        value = λ s b x sound st.
            let behind = sound-behind names at n s old mid longer sound in
            h.value behind.shape b x behind.sound (stands-stays names b old mid at x (longer-grows H n old mid longer) fits st);
      }

  -- its value fits its width
  pub holds-fits : (n : ℕ) (old new : ListData) (r w : ℕ) (f : Sample → ℕ) → Holds names n at old new r w f → (s : Shape) (b : BankData) → AreSound s new → held b new r < 2 ^ w
  holds-fits n old new r w f h s b sound = subst (λ z. held b new r < 2 ^ z) h.slot.width (held-fits s b new r sound h.slot.there)

  -- a node over slots
  pub holds-node : (Has : Shape → Type 0) (n k : ℕ) (old far new : ListData) (r w : ℕ) (F : BankData → ℕ) (f : Sample → ℕ) → ((s : Shape) → HasMemories names at s → Has s) → Fits names old at →
      Longer (HasMemories names at) n old far → Gives Has k far new r w F →
      ((s t : Shape) (b : BankData) (x : Sample) → AreSound s old → AreSound t far → Stands names b old at x → Stands names b far at x → F b ≡ f x) → Holds names (n + k) at old new r w f
  holds-node Has n k old far new r w F f to fits longer g same =
      let H : Shape → Type 0 = HasMemories names at in
      record {
        longer = longer-then H n k old far new longer (longer-weaken Has H k k far new to (omega arith) g.longer);
        slot = record { there = g.there; width = g.width };
        value = λ s b x sound st.
            let behind = sound-behind names at n s old far longer sound in
            g.value behind.shape b behind.sound ∙ same s behind.shape b x sound behind.sound st (stands-stays names b old far at x (longer-grows H n old far longer) fits st);
      }

pub resized-zero : (signed : Bool) (own width : ℕ) → resized signed own width 0 ≡ 0
resized-zero false own width = mod-eq_of_lt (pow_pos width)
resized-zero true own width = of (is_negative own 0) refl
  where
    of : (b : Bool) → is_negative own 0 ≡ b → wrapped width (if b then neg_ℤ (pos (2 ^ own - 0)) else pos 0) ≡ 0
    of false e = mod-eq_of_lt (pow_pos width)
    of true e = let p = pow_pos own in let h : 2 ^ own ≤ 0 = leb-true (2 ^ own) 0 e in absurd (omega (arith, p, h))

-- no bits more
pub holds-plain : (names : Names) (at : Env) (n w : ℕ) (old new : ListData) (r : ℕ) (f : Sample → ℕ) → Holds names n at old new r (w + 0) f → Holds names n at old new r w f
holds-plain names at n w old new r f h = (let e : w + 0 ≡ w = omega arith in subst (λ z. Holds names n at old new r z f) e h)
