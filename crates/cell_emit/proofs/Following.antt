-- Updates that are made pending one after the other (IEEE 1364-2005, clause 11.4.1).
use Rattle.std.proofs.Common.{◌≡◌, ℕ, ◌+◌, ◌≤◌, Bool, true, false, List, [], ◌++◌, refl, sym, ap, ◌∙◌, subst, append_assoc, append-nil}
use Rattle.std.specs.Prelude.{◌==◌, if◌then◌else◌}
use Rattle.vl_sites.specs.vl_design.specs.Width.{Names}
use Rattle.vl_sites.specs.vl_design.specs.State.{Update}
use Rattle.cell_form.specs.Data.{ListData, BankData}
use Rattle.cell_form.specs.Sound.{Shape}
use Rattle.cell_emit.specs.Slots.{held, IsIn, AreSound, Longer, Nothing}
use Rattle.cell_emit.proofs.Frames.{held-stays, longer-grows, longer-same, longer-then, longer-weaken}
use Rattle.cell_emit.specs.Pendings.{PendingSlots, ArePending, Pends}
use Rattle.cell_emit.specs.Delays.{with_later, Delays}
use Rattle.cell_emit.proofs.Keeping.{pends-stays}

pub delays-wider : (names : Names) (n m : ℕ) (us : BankData → List Update) (off : ℕ) (p p' : PendingSlots) (old new : ListData) → n ≤ m → Delays names n us off p p' old new → Delays names m us off p p' old new
delays-wider names n m us off p p' old new le d = record { longer = longer-weaken Nothing Nothing n m old new (λ s h. h) le d.longer; pending = d.pending; many = d.many; later = d.later }

none : (o : ℕ) (later : List Update) → later ≡ with_later o later []
none o later = of (o == 0)
  where
    of : (c : Bool) → later ≡ (if c then later ++ [] else later)
    of true = sym (append-nil later)
    of false = refl

pub delays-none : (names : Names) (off : ℕ) (p : PendingSlots) (l : ListData) → ArePending names l p → Delays names 0 (λ b. []) off p p l l
delays-none names off p l h = record {
  longer = longer-same Nothing l;
  pending = h;
  many = refl;
  later = λ s b later sound pends. subst (Pends names b l p) (none (held b l off) later) pends;
}

both : (o : ℕ) (later us vs : List Update) → with_later o (with_later o later us) vs ≡ with_later o later (us ++ vs)
both o later us vs = of (o == 0)
  where
    of : (c : Bool) → (if c then (if c then later ++ us else later) ++ vs else (if c then later ++ us else later)) ≡ (if c then later ++ (us ++ vs) else later)
    of true = append_assoc later us vs
    of false = refl

pub delays-more : (names : Names) (n m : ℕ) (us vs : BankData → List Update) (off : ℕ) (p0 p1 p2 : PendingSlots) (l0 l1 l2 : ListData) → IsIn l0 off → Delays names n us off p0 p1 l0 l1 → Delays names m vs off p1 p2 l1 l2 →
    Delays names (n + m) (λ b. us b ++ vs b) off p0 p2 l0 l2
delays-more names n m us vs off p0 p1 p2 l0 l1 l2 k a d = record {
  longer = longer-then Nothing n m l0 l1 l2 a.longer d.longer;
  pending = d.pending;
  many = d.many ∙ a.many;
  later = λ s b later sound pends.
      let o = held b l0 off in
      subst (Pends names b l2 p2) (ap (λ z. with_later z (with_later o later (us b)) (vs b)) (held-stays b l0 l1 off (longer-grows Nothing n l0 l1 a.longer) k) ∙ both o later (us b) (vs b))
      (d.later s b (with_later o later (us b)) (a.longer.sound s tt sound) (a.later s b later sound pends));
}

-- behind cells
pub delays-behind : (names : Names) (n m : ℕ) (us : BankData → List Update) (off : ℕ) (p p' : PendingSlots) (l0 l1 l2 : ListData) → ArePending names l0 p → IsIn l0 off → Longer Nothing n l0 l1 → Delays names m us off p p' l1 l2 →
    Delays names (n + m) us off p p' l0 l2
delays-behind names n m us off p p' l0 l1 l2 h k longer d =
    let g = longer-grows Nothing n l0 l1 longer in
    record {
      longer = longer-then Nothing n m l0 l1 l2 longer d.longer;
      pending = d.pending;
      many = d.many;
      later = λ s b later sound pends.
          subst (λ o. Pends names b l2 p' (with_later o later (us b))) (held-stays b l0 l1 off g k)
          (d.later s b later (longer.sound s tt sound) (pends-stays names b l0 l1 p later g h pends));
    }

-- the same updates, said of other slots
pub delays-as : (names : Names) (n : ℕ) (us vs : BankData → List Update) (off : ℕ) (p p' : PendingSlots) (old new : ListData) → ((s : Shape) (b : BankData) → AreSound s old → us b ≡ vs b) →
    Delays names n us off p p' old new → Delays names n vs off p p' old new
delays-as names n us vs off p p' old new e d = record {
  longer = d.longer;
  pending = d.pending;
  many = d.many;
  later = λ s b later sound pends. subst (λ xs. Pends names b new p' (with_later (held b old off) later xs)) (e s b sound) (d.later s b later sound pends);
}
