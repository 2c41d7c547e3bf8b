-- What registers hold behind writes.
use Rattle.std.proofs.Common.{◌≡◌, ◌≢◌, ℕ, ◌<◌, Bool, true, false, List, [], ◌∷◌, ◌++◌, length, set, Option, Some, None, refl, sym, ap, ◌∙◌, arith}
use Rattle.std.specs.Prelude.{◌==◌, if◌then◌else◌, slice_index, slice_index_or, slice_set}
use Rattle.std.specs.List.{AllByRecursion}
use Rattle.std.proofs.lemmas.Bool.{eq-eqb, eqb-true, eqb-false}
use Rattle.std.proofs.lemmas.List.{get_or-set_same, get_or-set_other}
use Rattle.cell_emit.specs.cell_form.specs.declared.cell.Write.{Write}
use Rattle.cell_emit.specs.cell_form.specs.declared.cell.Write.TheVariants as w
use Rattle.cell_emit.specs.cell_form.specs.Data.{BankData}
use Rattle.cell_emit.specs.cell_form.specs.Cycle.{with_word, wrote, written}
use Rattle.cell_emit.specs.cell_form.proofs.Writing.{written-regs}
use Rattle.cell_waves.specs.Lasts.{later_of, written_from, last_write, held_after, IsRegister}

-- ---- the later of two slots

later-none : (e : Option ℕ) → later_of None e ≡ e
later-none None = refl
later-none (Some s) = refl

later-assoc : (a b c : Option ℕ) → later_of (later_of a b) c ≡ later_of a (later_of b c)
later-assoc a b None = refl
later-assoc a b (Some s) = refl

held-later : (value : ℕ → ℕ) (e l : Option ℕ) (old : ℕ) → held_after value l (held_after value e old) ≡ held_after value (later_of e l) old
held-later value e None old = refl
held-later value e (Some s) old = refl

-- ---- one write more

pub last-more : (xs ys : List Write) (r : ℕ) → last_write (xs ++ ys) r ≡ later_of (last_write xs r) (last_write ys r)
last-more [] ys r = sym (later-none (last_write ys r))
last-more (x ∷ xs) ys r = ap (later_of (written_from x r)) (last-more xs ys r) ∙ sym (later-assoc (written_from x r) (last_write xs r) (last_write ys r))

pub from-here : (r s : ℕ) → written_from (w.Reg r s) r ≡ Some s
from-here r s = ap (λ t. if t then Some s else None) (eq-eqb r r refl)

pub from-other : (k r s : ℕ) → r ≢ k → written_from (w.Reg k s) r ≡ None
from-other k r s n = of (k == r) refl
  where
    of : (t : Bool) → (k == r) ≡ t → (if k == r then Some s else None) ≡ None
    of true e = absurd (n (sym (eqb-true k r e)))
    of false e = ap (λ t. if t then Some s else None) e

pub last-here : (sets : List Write) (r s : ℕ) → last_write (sets ++ w.Reg r s ∷ []) r ≡ Some s
last-here sets r s = last-more sets (w.Reg r s ∷ []) r ∙ ap (later_of (last_write sets r)) (from-here r s)

pub last-other : (sets : List Write) (k r s : ℕ) → r ≢ k → last_write (sets ++ w.Reg k s ∷ []) r ≡ last_write sets r
last-other sets k r s n = last-more sets (w.Reg k s ∷ []) r ∙ ap (later_of (last_write sets r)) (from-other k r s n)

-- ---- what is held

module _ (value : ℕ → ℕ) where
  either-way : (q : Bool) (a b : BankData) (r : ℕ) → a.regs ≡ b.regs → slice_index (if q then b else a).regs r ≡ slice_index b.regs r
  either-way true a b r e = refl
  either-way false a b r e = ap (λ rs. slice_index rs r) e

  wrote-held : (x : Write) (b : BankData) (r : ℕ) → r < length b.regs → slice_index (wrote value x b).regs r ≡ held_after value (written_from x r) (slice_index b.regs r)
  wrote-held (w.Reg k s) b r lt = of (k == r) refl
    where
      of : (t : Bool) → (k == r) ≡ t → slice_index (set b.regs k (value s)) r ≡ held_after value (if k == r then Some s else None) (slice_index b.regs r)
      of true e =
          let same = eqb-true k r e in
          ap (λ j. slice_index (set b.regs j (value s)) r) same ∙ get_or-set_same b.regs r (value s) 0 lt ∙ sym (ap (λ t. held_after value (if t then Some s else None) (slice_index b.regs r)) e)
      of false e =
          get_or-set_other b.regs k r (value s) 0 (λ z. eqb-false k r e (sym z)) ∙ sym (ap (λ t. held_after value (if t then Some s else None) (slice_index b.regs r)) e)
  wrote-held (w.Mem m enable word new mask) b r lt =
      either-way (value enable == 0) (record b { mems = slice_set b.mems m (with_word (slice_index_or b.mems m []) (value word) (value new) (value mask)) }) b r refl

  -- a register holds what its last write set it to, behind writes of any kind
  pub register-behind : (sets : List Write) (b : BankData) (r : ℕ) → r < length b.regs →
      slice_index (written value sets b).regs r ≡ held_after value (last_write sets r) (slice_index b.regs r)
  register-behind [] b r lt = refl
  register-behind (x ∷ xs) b r lt =
      let long = written-regs value (x ∷ []) b in
      register-behind xs (wrote value x b) r (omega (arith, long)) ∙ ap (held_after value (last_write xs r)) (wrote-held x b r lt)
      ∙ held-later value (written_from x r) (last_write xs r) (slice_index b.regs r)

  -- writes of registers leave memories as they were
  wrote-mems : (x : Write) (b : BankData) → IsRegister x → (wrote value x b).mems ≡ b.mems
  wrote-mems (w.Reg k s) b h = refl
  wrote-mems (w.Mem m enable word new mask) b h = absurd h

  pub memories-after : (sets : List Write) (b : BankData) → AllByRecursion IsRegister sets → (written value sets b).mems ≡ b.mems
  memories-after [] b h = refl
  memories-after (x ∷ xs) b h = memories-after xs (wrote value x b) h.1 ∙ wrote-mems x b h.0
