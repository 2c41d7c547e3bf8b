-- What the cells hold that read all that expressions read.
use Rattle.std.proofs.Common.{◌≡◌, ℕ, zero, suc, ◌+◌, ◌-◌, ◌<◌, ◌≤◌, ◌%◌, ◌^◌, Bool, true, false, List, [], ◌∷◌, length, Option, Some, None, refl, sym, ap, ◌∙◌, arith, rules, tests, subst, pow_pos}
use Rattle.std.specs.Prelude.{slice_index, slice_index_or, slice_get, nat_lt, All, if◌then◌else◌}
use Rattle.std.proofs.Math.Nat.{mod-eq_of_lt, mod-mod}
use Rattle.std.proofs.lemmas.List.Elements.{All-get_or}
use Rattle.vl_sites.specs.vl_design.specs.declared.design.SigKind.{SigKind}
use Rattle.vl_sites.specs.vl_design.specs.Syntax.{Row}
use Rattle.vl_sites.specs.vl_design.specs.Width.{Names, signal_form, row_form}
use Rattle.vl_sites.specs.vl_design.specs.Value.{Sample, words_of, value_of}
use Rattle.vl_sites.specs.vl_design.specs.Sound.{IsOf, IsWidth, HasValue, IsMem, IsSignal, IsMemory}
use Rattle.vl_sites.specs.Others.{is_other_row, other_at}
use Rattle.cell_form.specs.Data.{ListData, BankData}
use Rattle.cell_form.specs.Sound.{Shape}
use Rattle.cell_emit.specs.Slots.{AreSound, Grows, Longer, Gives, Nothing}
use Rattle.cell_emit.proofs.Frames.{grows-then, longer-grows, longer-then, longer-weaken, sound-wider, held-stays}
use Rattle.cell_emit.specs.Envs.{Env, entry, IsEntry, Fits, IsThere, HasMemories, held_or, word_or, HasWords, Stands}
use Rattle.cell_emit.proofs.Staying.{is-slot-stays, sound-before, gives-slot}
use Rattle.cell_emit.specs.Entries.{HasCopy, ReadsRows, HasRegisters}
use Rattle.cell_emit.specs.Reads.{IsRead, HasPlaces}
use Rattle.vl_base.proofs.Numbers.{lt_zero as none-below}

-- ---- what a number names

-- a row of such a kind, by its number
pub record Named (P : SigKind → Type 0) (o : Option Row) : Type 0 where
  pub row : Row
  pub is : o ≡ Some row
  pub kind : P row.kind
  pub width : IsWidth row.width

pub named : (P : SigKind → Type 0) (o : Option Row) → IsOf P o → Named P o
named P None h = absurd h
named P (Some r) h = record { row = r; is = refl; kind = h.0; width = h.1 }

-- ---- the shapes that have what is named

most : List ℕ → ℕ
most [] = 0
most (p ∷ ps) = p + most ps

below-most : (ps : List ℕ) (k : ℕ) → slice_index ps k ≤ most ps
unfolding most
below-most [] k = omega arith
below-most (p ∷ ps) zero = omega arith
below-most (p ∷ ps) (suc k) = let h = below-most ps k in omega arith

-- a larger shape that has all places
roomy : List ℕ → ℕ → ℕ → Shape → Shape
roomy places time answer s = record { regs = s.regs + suc (time + answer + most places); mems = s.mems + suc (most places); slots = s.slots }

roomy-has : (names : Names) (places : List ℕ) (time answer : ℕ) (s : Shape) → HasPlaces names places time answer (roomy places time answer s)
unfolding roomy
roomy-has names places time answer s = record {
  signals = λ k h. let i = below-most places k in omega arith;
  memories = λ m h. let i = below-most places m in omega arith;
  ticks = omega arith;
  last = omega arith;
}

roomy-sound : (places : List ℕ) (time answer : ℕ) (s : Shape) (l : ListData) → AreSound s l → AreSound (roomy places time answer s) l
unfolding roomy
roomy-sound places time answer s l h = sound-wider s (roomy places time answer s) l (omega arith) (omega arith) h

-- ---- values

first-below : (ws : List ℕ) (m : ℕ) → 0 < m → All (λ v. v < m) ws → slice_index ws 0 < m
first-below [] m p h = p
first-below (w ∷ ws) m p h = All-get_or (λ v. v < m) (w ∷ ws) 0 0 (omega arith) h

pub copy-held : (s : Shape) (b : BankData) (l : ListData) (w register : ℕ) (e : Option ℕ) → AreSound s l → HasCopy l w register e → slice_index b.regs register < 2 ^ w → held_or b l e ≡ slice_index b.regs register
copy-held s b l w register None sound h lt = absurd h
copy-held s b l w register (Some r) sound h lt = h.value s b sound ∙ mod-eq_of_lt lt

pub copy-entry : (l : ListData) (w register : ℕ) (e : Option ℕ) → HasCopy l w register e → IsEntry l w e
copy-entry l w register None h = absurd h
copy-entry l w register (Some r) h = h.slot

otherwise : {A : Type 0} (b : Bool) (x y : A) → b ≡ false → (if b then x else y) ≡ y
otherwise true x y e = let z : ⊥ = cc in absurd z
otherwise false x y e = refl

-- ---- all that is read

module _ (names : Names) (places : List ℕ) (time answer n : ℕ) (l0 l1 l2 l3 l4 l5 : ListData) (here away ticks last : ℕ) (es : List (Option ℕ))
    (g0 : Gives Nothing 1 l0 l1 here 1 (λ b. 0 % 2 ^ 1)) (g1 : Gives Nothing 1 l1 l2 away 1 (λ b. 1 % 2 ^ 1))
    (g2 : Gives (λ s. time < s.regs) 1 l2 l3 ticks 64 (λ b. slice_index b.regs time % 2 ^ 64)) (g3 : Gives (λ s. answer < s.regs) 1 l3 l4 last 32 (λ b. slice_index b.regs answer % 2 ^ 32))
    (g4 : Longer (HasRegisters names.rows places) n l4 l5) (reads : ReadsRows l5 names.rows places es) where
  abbrev at : Env
  at = record { first = 0; slots = es; time = ticks; answer = last; here = here; away = away }

  abbrev Has : Shape → Type 0
  Has s = HasPlaces names places time answer s

  grows4 : Grows l4 l5
  grows4 = longer-grows (HasRegisters names.rows places) n l4 l5 g4

  grows3 : Grows l3 l5
  grows3 = grows-then l3 l4 l5 (longer-grows (λ s. answer < s.regs) 1 l3 l4 g3.longer) grows4

  grows2 : Grows l2 l5
  grows2 = grows-then l2 l3 l5 (longer-grows (λ s. time < s.regs) 1 l2 l3 g2.longer) grows3

  grows1 : Grows l1 l5
  grows1 = grows-then l1 l2 l5 (longer-grows Nothing 1 l1 l2 g1.longer) grows2

  grows0 : Grows l0 l5
  grows0 = grows-then l0 l1 l5 (longer-grows Nothing 1 l0 l1 g0.longer) grows1

  registers : (s : Shape) → Has s → HasRegisters names.rows places s
  registers s h k r is kind width =
      let F : Option Row → Type 0 = λ o. IsOf HasValue o in
      h.signals k (subst F (sym is) (kind, width))

  pub all-longer : Longer Has (n + 4) l0 l5
  all-longer =
      let a = longer-weaken Nothing Has 1 1 l0 l1 (λ s h. tt) (omega arith) g0.longer in
      let b = longer-weaken Nothing Has 1 1 l1 l2 (λ s h. tt) (omega arith) g1.longer in
      let c = longer-weaken (λ s. time < s.regs) Has 1 1 l2 l3 (λ s h. h.ticks) (omega arith) g2.longer in
      let d = longer-weaken (λ s. answer < s.regs) Has 1 1 l3 l4 (λ s h. h.last) (omega arith) g3.longer in
      let e = longer-weaken (HasRegisters names.rows places) Has n n l4 l5 registers (omega arith) g4 in
      longer-weaken Has Has (1 + (1 + (1 + (1 + n)))) (n + 4) l0 l5 (λ s h. h) (omega arith)
      (longer-then Has 1 (1 + (1 + (1 + n))) l0 l1 l5 a (longer-then Has 1 (1 + (1 + n)) l1 l2 l5 b (longer-then Has 1 (1 + n) l2 l3 l5 c (longer-then Has 1 n l3 l4 l5 d e))))

  entry-is : (k : ℕ) → entry at k ≡ slice_index_or es k None
  entry-is k =
      let same : k - 0 ≡ k = omega arith in
      otherwise (nat_lt k 0) None (slice_index_or es (k - 0) None) (none-below k) ∙ ap (λ j. slice_index_or es j None) same

  signal-copied : (k : ℕ) → IsSignal names k → other_at names.rows k ≡ false → HasCopy l5 (signal_form names.rows k).width (slice_index places k) (entry at k)
  signal-copied k h o =
      let x = named HasValue (slice_get names.rows k) h in
      let e : (signal_form names.rows k).width ≡ x.row.width = ap (λ o. (row_form o).width) x.is in
      let F : Option ℕ → Type 0 = λ o. HasCopy l5 (signal_form names.rows k).width (slice_index places k) o in
      let G : ℕ → Type 0 = λ w. HasCopy l5 w (slice_index places k) (slice_index_or es k None) in
      subst F (sym (entry-is k)) (subst G (sym e) ((reads.each k x.row x.is).signal x.kind (sym (ap is_other_row x.is) ∙ o) x.width))

  -- a loop variable or a clock has no entry
  other-none : (k : ℕ) → IsSignal names k → other_at names.rows k ≡ true → entry at k ≡ None
  other-none k h o =
      let x = named HasValue (slice_get names.rows k) h in
      entry-is k ∙ (reads.each k x.row x.is).other (sym (ap is_other_row x.is) ∙ o)

  signal-fits : (k : ℕ) → IsSignal names k → (o : Bool) → other_at names.rows k ≡ o → IsEntry l5 (signal_form names.rows k).width (entry at k)
  signal-fits k h true o = subst (IsEntry l5 (signal_form names.rows k).width) (sym (other-none k h o)) tt
  signal-fits k h false o = copy-entry l5 (signal_form names.rows k).width (slice_index places k) (entry at k) (signal-copied k h o)

  memory-named : (m : ℕ) → IsMemory names m → entry at m ≡ Some (slice_index places m)
  memory-named m h =
      let x = named IsMem (slice_get names.rows m) h in
      entry-is m ∙ (reads.each m x.row x.is).memory x.kind

  pub all-fits : Fits names l5 at
  all-fits =
      let here_is = gives-slot Nothing 1 l0 l1 here 1 (λ b. 0 % 2 ^ 1) g0 in
      let away_is = gives-slot Nothing 1 l1 l2 away 1 (λ b. 1 % 2 ^ 1) g1 in
      let ticks_is = gives-slot (λ s. time < s.regs) 1 l2 l3 ticks 64 (λ b. slice_index b.regs time % 2 ^ 64) g2 in
      let last_is = gives-slot (λ s. answer < s.regs) 1 l3 l4 last 32 (λ b. slice_index b.regs answer % 2 ^ 32) g3 in
      record {
        many = let m = reads.many in omega arith;
        signals = λ k h. signal-fits k h (other_at names.rows k) refl;
        time = is-slot-stays l3 l5 ticks 64 grows3 ticks_is;
        answer = is-slot-stays l4 l5 last 32 grows4 last_is;
        here = is-slot-stays l1 l5 here 1 grows1 here_is;
        away = is-slot-stays l2 l5 away 1 grows2 away_is;
        is_here = λ s b sound. held-stays b l1 l5 here grows1 g0.there ∙ g0.value s b (sound-before s l0 l5 grows0 sound);
        is_away = λ s b sound. held-stays b l2 l5 away grows2 g1.there ∙ g1.value s b (sound-before s l1 l5 grows1 sound);
      }

  pub all-memories : (s : Shape) → Has s → HasMemories names at s
  all-memories s h m i = subst (IsThere s) (sym (memory-named m i)) (h.memories m i)

  signal-held : (t : Shape) (b : BankData) (x : Sample) → AreSound t l5 → IsRead names b places time answer x → (k : ℕ) → IsSignal names k → (o : Bool) → other_at names.rows k ≡ o → value_of x.values k ≡ held_or b l5 (entry at k)
  signal-held t b x sound h k i true o = h.others k i o ∙ ap (held_or b l5) (sym (other-none k i o))
  signal-held t b x sound h k i false o =
      let w = (signal_form names.rows k).width in
      let F : ℕ → Type 0 = λ v. v < 2 ^ w in
      let lt : slice_index b.regs (slice_index places k) < 2 ^ w = subst F (sym (h.signals k i)) (first-below (words_of x.values k) (2 ^ w) (pow_pos w) (h.fine.range k)) in
      sym (h.signals k i) ∙ sym (copy-held t b l5 w (slice_index places k) (entry at k) sound (signal-copied k i o) lt)

  pub all-stands : (s : Shape) (b : BankData) (x : Sample) → AreSound s l0 → IsRead names b places time answer x → Stands names b l5 at x
  all-stands s b x sound h =
      let t = roomy places time answer s in
      let sound5 = all-longer.sound t (roomy-has names places time answer s) (roomy-sound places time answer s l0 sound) in
      let sound2 = sound-before t l2 l5 grows2 sound5 in
      let sound3 = sound-before t l3 l5 grows3 sound5 in
      record {
        fine = h.fine;
        values = λ k i. signal-held t b x sound5 h k i (other_at names.rows k) refl;
        words = λ m j i. ap (λ ws. slice_index ws j) (sym (h.memories m i)) ∙ ap (λ e. word_or b e j) (sym (memory-named m i));
        many = λ m i.
            let F : Option ℕ → Type 0 = λ e. HasWords b e (length (words_of x.values m)) in
            subst F (sym (memory-named m i)) (ap (λ (ws : List ℕ). length ws) (h.memories m i));
        time = held-stays b l3 l5 ticks grows3 g2.there ∙ g2.value t b sound2 ∙ ap (λ v. v % 2 ^ 64) h.ticks ∙ mod-mod x.time (2 ^ 64);
        answer =
            let F : ℕ → Type 0 = λ v. v < 2 ^ 32 in
            let lt : slice_index b.regs answer < 2 ^ 32 = subst F (sym h.last) h.small in
            held-stays b l4 l5 last grows4 g3.there ∙ g3.value t b sound3 ∙ mod-eq_of_lt lt ∙ h.last;
      }
