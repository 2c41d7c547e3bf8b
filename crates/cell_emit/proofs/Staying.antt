-- What stays when cells are added.
use Rattle.std.proofs.Common.{◌≡◌, ◌≢◌, ℕ, zero, suc, ◌+◌, ◌-◌, ◌^◌, ◌<◌, ◌≤◌, Bool, true, false, List, [], ◌∷◌, Option, Some, None, inl, inr, refl, sym, ◌∙◌, arith, subst}
use Rattle.std.specs.Prelude.{◌⊎◌, nat_lt, slice_index_or, slice_get, if◌then◌else◌}
use Rattle.vl_sites.specs.vl_design.specs.declared.design.SigKind.{SigKind}
use Rattle.vl_sites.specs.vl_design.specs.declared.design.SigKind.TheVariants.{Net, Var, Comb, Loop, Mem, Clock}
use Rattle.vl_sites.specs.vl_design.specs.Syntax.{Row}
use Rattle.vl_sites.specs.vl_design.specs.Width.{Names, signal_form}
use Rattle.vl_sites.specs.vl_design.specs.Value.{Sample}
use Rattle.vl_sites.specs.vl_design.specs.Sound.{IsOf, HasValue, IsMem, IsSignal, IsMemory}
use Rattle.cell_form.specs.Data.{ListData, BankData}
use Rattle.cell_form.specs.Sound.{Shape}
use Rattle.cell_form.proofs.Fitting.{cells-before}
use Rattle.cell_emit.specs.Slots.{held, IsIn, AreSound, Grows, Longer, Gives, Nothing}
use Rattle.cell_emit.proofs.Frames.{held-fits, held-stays, width-stays, in-stays, longer-weaken, sound-wider, Met}
use Rattle.cell_emit.specs.Envs.{Env, entry, IsSlot, IsEntry, Always, Fits, IsThere, HasMemories, held_or, Stands}
use Rattle.cell_emit.specs.Paths.{Keeps}
pub use Rattle.cell_emit.proofs.Frames.{sound-before}

-- ---- slots

pub is-slot-stays : (old new : ListData) (r w : ℕ) → Grows old new → IsSlot old r w → IsSlot new r w
is-slot-stays old new r w g h = record { there = in-stays old new r g h.there; width = width-stays old new r g h.there ∙ h.width }

pub always-stays : (old new : ListData) (r n : ℕ) → Grows old new → IsIn old r → Always old r n → Always new r n
always-stays old new r n g k h s b sound = held-stays b old new r g k ∙ h s b (sound-before s old new g sound)

-- a slot of one bit holds 0 or 1
pub one-bit : (s : Shape) (b : BankData) (l : ListData) (r : ℕ) → AreSound s l → IsSlot l r 1 → (held b l r ≡ 0) ⊎ (held b l r ≡ 1)
one-bit s b l r sound h = of (held b l r) (subst (λ w. held b l r < 2 ^ w) h.width (held-fits s b l r sound h.there))
  where
    of : (n : ℕ) → n < 2 → (n ≡ 0) ⊎ (n ≡ 1)
    of zero k = inl refl
    of (suc n) k = inr (omega arith)

-- a slot that is given is a slot
pub gives-slot : (Has : Shape → Type 0) (n : ℕ) (old new : ListData) (r w : ℕ) (f : BankData → ℕ) → Gives Has n old new r w f → IsSlot new r w
gives-slot Has n old new r w f g = record { there = g.there; width = g.width }

-- ---- environments

pub entry-stays : (old new : ListData) (w : ℕ) (e : Option ℕ) → Grows old new → IsEntry old w e → IsEntry new w e
entry-stays old new w None g h = tt
entry-stays old new w (Some r) g h = is-slot-stays old new r w g h

pub held-or-stays : (b : BankData) (old new : ListData) (w : ℕ) (e : Option ℕ) → Grows old new → IsEntry old w e → held_or b new e ≡ held_or b old e
held-or-stays b old new w None g h = refl
held-or-stays b old new w (Some r) g h = held-stays b old new r g h.there

pub fits-stays : (names : Names) (old new : ListData) (at : Env) → Grows old new → Fits names old at → Fits names new at
fits-stays names old new at g f = record {
  many = f.many;
  signals = λ k h. entry-stays old new (signal_form names.rows k).width (entry at k) g (f.signals k h);
  time = is-slot-stays old new at.time 64 g f.time;
  answer = is-slot-stays old new at.answer 32 g f.answer;
  here = is-slot-stays old new at.here 1 g f.here;
  away = is-slot-stays old new at.away 1 g f.away;
  is_here = always-stays old new at.here 0 g f.here.there f.is_here;
  is_away = always-stays old new at.away 1 g f.away.there f.is_away;
}

pub stands-stays : (names : Names) (b : BankData) (old new : ListData) (at : Env) (x : Sample) → Grows old new → Fits names old at → Stands names b old at x → Stands names b new at x
stands-stays names b old new at x g f h = record {
  fine = h.fine;
  values = λ k i. h.values k i ∙ sym (held-or-stays b old new (signal_form names.rows k).width (entry at k) g (f.signals k i));
  words = h.words;
  many = h.many;
  time = held-stays b old new at.time g f.time.there ∙ h.time;
  answer = held-stays b old new at.answer g f.answer.there ∙ h.answer;
}

-- ---- memories

most : List (Option ℕ) → ℕ
most [] = 0
most (None ∷ es) = most es
most (Some m ∷ es) = suc m + most es

slots-there : (s : Shape) (es : List (Option ℕ)) (i : ℕ) → most es ≤ s.mems → IsThere s (slice_index_or es i None)
unfolding most
slots-there s [] i h = tt
slots-there s (None ∷ es) zero h = tt
slots-there s (Some m ∷ es) zero h = omega arith
slots-there s (None ∷ es) (suc i) h = slots-there s es i h
slots-there s (Some m ∷ es) (suc i) h = slots-there s es i (omega arith)

-- a shape with more memories has those of an environment
pub met-memories : (names : Names) (at : Env) → Met (HasMemories names at)
met-memories names at = record {
  above = λ s. record { regs = s.regs; mems = s.mems + most at.slots; slots = s.slots };
  regs = λ s. omega arith;
  mems = λ s. omega arith;
  has = λ s m h. there s m (nat_lt m at.first);
}
  where
    there : (s : Shape) (m : ℕ) (b : Bool) → IsThere (record { regs = s.regs; mems = s.mems + most at.slots; slots = s.slots }) (if b then None else slice_index_or at.slots (m - at.first) None)
    there s m true = tt
    there s m false = slots-there (record { regs = s.regs; mems = s.mems + most at.slots; slots = s.slots }) at.slots (m - at.first) (omega arith)

-- cells stay well-formed in some shape
pub record SoundIn (l : ListData) : Type 0 where
  pub shape : Shape
  pub sound : AreSound shape l

pub sound-behind : (names : Names) (at : Env) (n : ℕ) (s : Shape) (old new : ListData) → Longer (HasMemories names at) n old new → AreSound s old → SoundIn new
sound-behind names at n s old new h k =
    let met = met-memories names at in
    let t = met.above s in
    record { shape = t; sound = h.sound t (met.has s) (sound-wider s t old (met.regs s) (met.mems s) k) }

no-memory : (o : Option Row) → IsOf HasValue o → IsOf IsMem o → ⊥
no-memory None h i = absurd h
no-memory (Some r) h i = of r.kind h.0 i.0
  where
    of : (k : SigKind) → HasValue k → IsMem k → ⊥
    of Net h i = absurd i
    of Var h i = absurd i
    of Comb h i = absurd i
    of Loop h i = absurd i
    of Mem h i = absurd h
    of Clock h i = absurd i

-- a memory is no signal
pub memory-other : (names : Names) (k m : ℕ) → IsSignal names k → IsMemory names m → m ≢ k
memory-other names k m h i e =
    let F : ℕ → Type 0 = λ j. IsMemory names j in
    no-memory (slice_get names.rows k) h (subst F e i)

-- ---- what an environment keeps

pub keeps-same : (names : Names) (at : Env) → Keeps names at at
keeps-same names at = record { first = refl; time = refl; answer = refl; here = refl; away = refl; memories = λ m h. refl }

pub keeps-then : (names : Names) (a b c : Env) → Keeps names a b → Keeps names b c → Keeps names a c
keeps-then names a b c g h = record {
  first = h.first ∙ g.first;
  time = h.time ∙ g.time;
  answer = h.answer ∙ g.answer;
  here = h.here ∙ g.here;
  away = h.away ∙ g.away;
  memories = λ m i. h.memories m i ∙ g.memories m i;
}

pub memories-kept : (names : Names) (a b : Env) (s : Shape) → Keeps names a b → HasMemories names a s → HasMemories names b s
memories-kept names a b s k h m i = subst (IsThere s) (sym (k.memories m i)) (h m i)

-- cells that name the memories of the later environment name those of the earlier one
pub longer-kept : (names : Names) (n : ℕ) (a b : Env) (old new : ListData) → Keeps names a b → Longer (HasMemories names b) n old new → Longer (HasMemories names a) n old new
longer-kept names n a b old new k h = longer-weaken (HasMemories names b) (HasMemories names a) n n old new (λ s i. memories-kept names a b s k i) (omega arith) h

-- cells that name nothing
pub longer-plain : (names : Names) (at : Env) (n m : ℕ) (old new : ListData) → n ≤ m → Longer Nothing n old new → Longer (HasMemories names at) m old new
longer-plain names at n m old new le h = longer-weaken Nothing (HasMemories names at) n m old new (λ s i. tt) le h
