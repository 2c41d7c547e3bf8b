-- Shapes that have the registers and memories of all places.
use Rattle.std.proofs.Common.{ℕ, zero, suc, ◌+◌, ◌≤◌, List, [], ◌∷◌, get_or, arith}
use Rattle.ten_form.specs.vl_design.specs.Width.{Names}
use Rattle.cell_emit.specs.cell_form.specs.Sound.{Shape}
use Rattle.cell_emit.specs.cell_form.specs.Data.{ListData}
use Rattle.cell_emit.specs.Slots.{AreSound, Longer}
use Rattle.cell_emit.proofs.Frames.{Met, sound-wider}
use Rattle.cell_emit.proofs.Staying.{SoundIn}
use Rattle.cell_emit.specs.Reads.{HasPlaces}

abbrev total : List ℕ → ℕ
total [] = 0
total (p ∷ ps) = p + total ps

within : (ps : List ℕ) (k : ℕ) → get_or ps k 0 ≤ total ps
within [] k = omega arith
within (p ∷ ps) zero = omega arith
within (p ∷ ps) (suc k) = let h = within ps k in omega (arith, h)

pub met-places : (names : Names) (places : List ℕ) (time answer : ℕ) → Met (HasPlaces names places time answer)
met-places names places time answer =
    let n = suc (total places + (time + answer)) in
    record {
      above = λ s. record { regs = s.regs + n; mems = s.mems + n; slots = s.slots };
      regs = λ s. omega arith;
      mems = λ s. omega arith;
      has = λ s. record {
        signals = λ k i. (let h = within places k in omega (arith, h));
        memories = λ m i. (let h = within places m in omega (arith, h));
        ticks = omega arith;
        last = omega arith;
      };
    }

-- cells behind reads stay well-formed in some shape
pub sound-reads : (names : Names) (places : List ℕ) (time answer n : ℕ) (s : Shape) (old new : ListData) → Longer (HasPlaces names places time answer) n old new → AreSound s old → SoundIn new
sound-reads names places time answer n s old new h k =
    let met = met-places names places time answer in
    let t = met.above s in
    record { shape = t; sound = h.sound t (met.has s) (sound-wider s t old (met.regs s) (met.mems s) k) }
