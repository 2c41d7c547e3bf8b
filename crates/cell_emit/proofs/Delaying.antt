-- One update that is made pending (IEEE 1364-2005, clause 9.2.2).
use Rattle.std.proofs.Common.{◌≡◌, ◌≢◌, ℕ, ◌-◌, ◌%◌, ◌^◌, ◌<◌, ◌≤◌, Bool, true, false, List, [], ◌∷◌, ◌++◌, length, Option, Some, refl, sym, ap, ◌∙◌, arith, subst}
use Rattle.std.specs.Prelude.{ℤ, pos, ◌==◌, if◌then◌else◌, slice_index, slice_set}
use Rattle.std.proofs.Math.Pow.{pow_pos}
use Rattle.std.proofs.lemmas.List.{length-set}
use Rattle.vl_base.specs.Selects.{placed}
use Rattle.vl_sites.specs.vl_design.specs.Width.{Names, signal_form}
use Rattle.vl_sites.specs.vl_design.specs.Value.{words_of, value_of}
use Rattle.vl_sites.specs.vl_design.specs.Sound.{IsSignal}
use Rattle.vl_sites.specs.vl_design.specs.State.{Update, with_update, all_updated}
use Rattle.vl_sites.specs.vl_design.specs.Laws.{IsFine}
use Rattle.vl_sites.specs.vl_design.proofs.Kept.{words_other}
use Rattle.vl_sites.specs.vl_design.proofs.Ranging.{updates_in_range}
use Rattle.vl_sites.specs.vl_design.proofs.Shaping.{all_shape, shape_on}
use Rattle.cell_form.specs.Cycle.{masked}
use Rattle.cell_form.specs.Data.{ListData, BankData}
use Rattle.cell_form.specs.Sound.{Shape}
use Rattle.cell_emit.specs.Slots.{held, width_at, IsIn, AreSound, Grows, Longer, Gives, Nothing}
use Rattle.cell_emit.proofs.Frames.{held-fits, held-stays, width-stays, longer-grows, longer-then, grows-then, gives-as}
use Rattle.cell_emit.specs.Envs.{IsSlot, IsEntry, Always, held_or}
use Rattle.cell_emit.specs.Paths.{Low, Constant, IsLow, low_in, update_in, on_path, Distant}
use Rattle.cell_emit.proofs.Staying.{is-slot-stays, held-or-stays, memory-other}
use Rattle.cell_emit.proofs.Walking.{low-stays}
use Rattle.cell_emit.proofs.Assigning.{one-long, updated-value, same-placed, placed-whole, is-or-not}
use Rattle.cell_emit.specs.Pendings.{PendingSlots, slot_of, ArePending, settled, Pends}
use Rattle.cell_emit.specs.Delays.{IsDelayable, Delays}
use Rattle.cell_emit.proofs.Masking.{masked-placed, cut-ones}
use Rattle.cell_emit.proofs.Keeping.{pending-stays, stored-stay, settled-stays, updated-more, slot-here, slot-other}

-- the pending updates behind one more to a signal
abbrev pub with_slots : PendingSlots → ℕ → ℕ → ℕ → PendingSlots
with_slots p k u m = record { update = slice_set p.update k (Some u); mask = slice_set p.mask k (Some m); sites = p.sites }

module _ (names : Names) (p : PendingSlots) (k w ru rm : ℕ) (l0 l3 : ListData) (g : Grows l0 l3) (can : IsDelayable names l0 p k w) (update : IsSlot l3 ru w) (mask : IsSlot l3 rm w) where
  update-here : slot_of (slice_set p.update k (Some ru)) k ≡ Some ru
  update-here = slot-here p.update k ru can.there

  mask-here : slot_of (slice_set p.mask k (Some rm)) k ≡ Some rm
  mask-here = let e = can.pending.many in let h = can.there in slot-here p.mask k rm (omega arith)

  entries : (slots : List (Option ℕ)) (r : ℕ) → IsSlot l3 r w → slot_of (slice_set slots k (Some r)) k ≡ Some r → ((j : ℕ) → IsSignal names j → IsEntry l3 (signal_form names.rows j).width (slot_of slots j)) →
      (j : ℕ) → IsSignal names j → IsEntry l3 (signal_form names.rows j).width (slot_of (slice_set slots k (Some r)) j)
  entries slots r slot here were j i =
      is-or-not (λ n. IsSignal names n → IsEntry l3 (signal_form names.rows n).width (slot_of (slice_set slots k (Some r)) n)) j k
      (λ h. subst (IsEntry l3 (signal_form names.rows k).width) (sym here) (record { there = slot.there; width = slot.width ∙ sym can.width }))
      (λ n h. subst (IsEntry l3 (signal_form names.rows j).width) (sym (slot-other slots k r j n)) (were j h)) i

  pub pending-with : ArePending names l3 (with_slots p k ru rm)
  pending-with =
      let q = pending-stays names l0 l3 p g can.pending in
      record {
        many = length-set p.mask k (Some rm) ∙ q.many ∙ sym (length-set p.update k (Some ru));
        update = entries p.update ru update update-here q.update;
        mask = entries p.mask rm mask mask-here q.mask;
        sites = q.sites;
      }

  -- what the slots say of the signal where its update and its mask are as these
  here-settled : (b : BankData) (v x y : ℕ) → held b l3 ru ≡ x → held b l3 rm ≡ y → settled b l3 (with_slots p k ru rm) k v ≡ masked v x y
  here-settled b v x y ex ey =
      ap (λ e. masked v (held_or b l3 e) (held_or b l3 (slot_of (slice_set p.mask k (Some rm)) k))) update-here
      ∙ ap (λ e. masked v (held b l3 ru) (held_or b l3 e)) mask-here ∙ ap (λ n. masked v n (held b l3 rm)) ex ∙ ap (masked v x) ey

  other-settled : (b : BankData) (v j : ℕ) → j ≢ k → IsSignal names j → settled b l3 (with_slots p k ru rm) j v ≡ settled b l0 p j v
  other-settled b v j n i =
      ap (λ e. masked v (held_or b l3 e) (held_or b l3 (slot_of (slice_set p.mask k (Some rm)) j))) (slot-other p.update k ru j n)
      ∙ ap (λ e. masked v (held_or b l3 (slot_of p.update j)) (held_or b l3 e)) (slot-other p.mask k rm j n)
      ∙ settled-stays names b l0 l3 p j v g can.pending i

  fine-behind : (base : List (List ℕ)) (us : List Update) → IsFine names.rows base → IsFine names.rows (all_updated names.rows base us)
  fine-behind base us f = record { range = updates_in_range names.rows us base f.range; shape = shape_on (all_shape names.rows us base) f.shape }

  -- the path is taken
  pub pends-with : (b : BankData) (later : List Update) (u : Update) → u.signal ≡ k → u.word ≡ 0 → u.value < 2 ^ u.width → Pends names b l0 p later →
      held b l3 ru ≡ placed w (held_or b l0 (slot_of p.update k)) u.low u.width u.value → held b l3 rm ≡ placed w (held_or b l0 (slot_of p.mask k)) u.low u.width (2 ^ u.width - 1) →
      Pends names b l3 (with_slots p k ru rm) (later ++ u ∷ [])
  pends-with b later u is zeroth small pends ex ey = record {
    values = λ base j fine i.
        let before = all_updated names.rows base later in
        is-or-not (λ n. IsSignal names n → value_of (all_updated names.rows base (later ++ u ∷ [])) n ≡ settled b l3 (with_slots p k ru rm) n (value_of base n)) j k
        (λ h.
        let v = value_of base k in
        let long : length (words_of before u.signal) ≡ 1 = subst (λ n. length (words_of before n) ≡ 1) (sym is) (one-long names.rows before k can.one (fine-behind base later fine) h) in
        let one = one-long names.rows base k can.one fine h in
        let range : v < 2 ^ w = subst (λ n. v < 2 ^ n) can.width (fine.range k 0 0 (omega (arith, one))) in
        ap (λ vs. value_of vs k) (updated-more names.rows base later u)
        ∙ ap (value_of (with_update names.rows before u)) (sym is) ∙ updated-value names.rows before u zeroth long
        ∙ ap (λ n. placed (signal_form names.rows n).width (value_of before n) u.low u.width u.value) is
        ∙ ap (λ n. placed n (value_of before k) u.low u.width u.value) can.width
        ∙ ap (λ n. placed w n u.low u.width u.value) (pends.values base k fine h)
        ∙ masked-placed w v (held_or b l0 (slot_of p.update k)) (held_or b l0 (slot_of p.mask k)) u.low u.width u.value range small
        ∙ sym (here-settled b v _ _ ex ey))
        (λ n h.
        ap (λ vs. value_of vs j) (updated-more names.rows base later u)
        ∙ ap (λ ws. slice_index ws 0) (words_other before u.signal j _ (λ e. n (e ∙ is)))
        ∙ pends.values base j fine h ∙ sym (other-settled b (value_of base j) j n h)) i;
    words = λ base m j fine i h.
        let before = all_updated names.rows base later in
        let n = memory-other names k m can.is_signal i in
        ap (λ vs. slice_index (words_of vs m) j) (updated-more names.rows base later u)
        ∙ ap (λ ws. slice_index ws j) (words_other before u.signal m _ (λ e. n (e ∙ is)))
        ∙ pends.words base m j fine i h ∙ sym (stored-stay names b l0 l3 p.sites m j (slice_index (words_of base m) j) g can.pending.sites);
  }

  -- the path isn't taken
  pub pends-without : (b : BankData) (later : List Update) → Pends names b l0 p later → held b l3 ru ≡ held_or b l0 (slot_of p.update k) → held b l3 rm ≡ held_or b l0 (slot_of p.mask k) →
      Pends names b l3 (with_slots p k ru rm) later
  pends-without b later pends ex ey = record {
    values = λ base j fine i.
        is-or-not (λ n. IsSignal names n → value_of (all_updated names.rows base later) n ≡ settled b l3 (with_slots p k ru rm) n (value_of base n)) j k
        (λ h. pends.values base k fine h ∙ sym (here-settled b (value_of base k) _ _ ex ey))
        (λ n h. pends.values base j fine h ∙ sym (other-settled b (value_of base j) j n h)) i;
    words = λ base m j fine i h.
        pends.words base m j fine i h ∙ sym (stored-stay names b l0 l3 p.sites m j (slice_index (words_of base m) j) g can.pending.sites);
  }

taken-or-not : (P : List Update → Type 0) (b : Bool) (us vs : List Update) → (b ≡ true → P us) → (b ≡ false → P vs) → P (if b then us else vs)
taken-or-not P true us vs h k = h refl
taken-or-not P false us vs h k = k refl

-- an update of a signal whose update value gets it, and whose mask gets ones
pub delays-given : (names : Names) (p : PendingSlots) (k w off ru rm n : ℕ) (f : BankData → Update) (l0 l3 : ListData) → IsDelayable names l0 p k w → Longer Nothing n l0 l3 → IsSlot l3 ru w → IsSlot l3 rm w →
    ((b : BankData) → (f b).signal ≡ k) → ((b : BankData) → (f b).word ≡ 0) → ((s : Shape) (b : BankData) → AreSound s l0 → (f b).value < 2 ^ (f b).width) →
    ((s : Shape) (b : BankData) → AreSound s l0 → held b l3 ru ≡ on_path b l0 off w (held_or b l0 (slot_of p.update k)) (f b).low (f b).width (f b).value) →
    ((s : Shape) (b : BankData) → AreSound s l0 → held b l3 rm ≡ on_path b l0 off w (held_or b l0 (slot_of p.mask k)) (f b).low (f b).width (2 ^ (f b).width - 1)) →
    Delays names n (λ b. f b ∷ []) off p (with_slots p k ru rm) l0 l3
delays-given names p k w off ru rm n f l0 l3 can longer update mask signal word small is_u is_m =
    let g = longer-grows Nothing n l0 l3 longer in
    record {
      longer = longer;
      pending = pending-with names p k w ru rm l0 l3 g can update mask;
      many = length-set p.update k (Some ru);
      later = λ s b later sound pends.
          let o = held b l0 off in
          let u = f b in
          let U = held_or b l0 (slot_of p.update k) in
          let M = held_or b l0 (slot_of p.mask k) in
          taken-or-not (Pends names b l3 (with_slots p k ru rm)) (o == 0) (later ++ u ∷ []) later
          (λ e. pends-with names p k w ru rm l0 l3 g can update mask b later u (signal b) (word b) (small s b sound) pends
          (is_u s b sound ∙ ap (λ c. if c then placed w U u.low u.width u.value else U) e) (is_m s b sound ∙ ap (λ c. if c then placed w M u.low u.width (2 ^ u.width - 1) else M) e))
          (λ e. pends-without names p k w ru rm l0 l3 g can update mask b later pends
          (is_u s b sound ∙ ap (λ c. if c then placed w U u.low u.width u.value else U) e) (is_m s b sound ∙ ap (λ c. if c then placed w M u.low u.width (2 ^ u.width - 1) else M) e));
    }

-- what is there on a path, said of earlier slots
path-stays : (b : BankData) (old new : ListData) (w x y : ℕ) (low : Low) (part off : ℕ) → Grows old new → x ≡ y → IsLow old low → IsIn old part → IsIn old off →
    on_path b new off w x (low_in b new low) (width_at new part) (held b new part) ≡ on_path b old off w y (low_in b old low) (width_at old part) (held b old part)
path-stays b old new w x y low part off g e hl hp ho =
    ap (λ o. if o == 0 then placed w x (low_in b new low) (width_at new part) (held b new part) else x) (held-stays b old new off g ho)
    ∙ ap (λ z. if held b old off == 0 then z else x)
    (same-placed w w x y (low_in b new low) (low_in b old low) (width_at new part) (width_at old part) (held b new part) (held b old part) refl e
    (low-stays b old new low g hl) (width-stays old new part g hp) (held-stays b old new part g hp))
    ∙ ap (λ z. if held b old off == 0 then placed w y (low_in b old low) (width_at old part) (held b old part) else z) e

-- ones in the same bits
ones-path : (b : BankData) (l : ListData) (w x : ℕ) (low : Low) (part set off m : ℕ) → width_at l set ≡ m → held b l set ≡ 2 ^ m - 1 →
    on_path b l off w x (low_in b l low) (width_at l set) (held b l set) ≡ on_path b l off w x (low_in b l low) m (2 ^ m - 1)
ones-path b l w x low part set off m ew ev =
    ap (λ z. on_path b l off w x (low_in b l low) z (held b l set)) ew ∙ ap (on_path b l off w x (low_in b l low) m) ev

-- by two cells for each slot
pub delays-one : (names : Names) (p : PendingSlots) (k w : ℕ) (low : Low) (part off set first second ru rm : ℕ) (l0 l1 l2 l3 l4 : ListData) → IsDelayable names l0 p k w → IsLow l0 low → IsIn l0 part → IsIn l0 off →
    Gives Nothing 1 l0 l1 set (width_at l0 part) (λ b. 2 ^ width_at l0 part - 1) →
    Gives Nothing 1 l1 l2 first w (λ b. held_or b l1 (slot_of p.update k)) → Gives Nothing 1 l1 l2 second w (λ b. held_or b l1 (slot_of p.mask k)) →
    Gives Nothing 2 l2 l3 ru (width_at l2 first) (λ b. on_path b l2 off (width_at l2 first) (held b l2 first) (low_in b l2 low) (width_at l2 part) (held b l2 part)) →
    Gives Nothing 2 l3 l4 rm (width_at l3 second) (λ b. on_path b l3 off (width_at l3 second) (held b l3 second) (low_in b l3 low) (width_at l3 set) (held b l3 set)) →
    Delays names 6 (λ b. update_in b l0 k low part ∷ []) off p (with_slots p k ru rm) l0 l4
delays-one names p k w low part off set first second ru rm l0 l1 l2 l3 l4 can hl hp ho gs g1 g2 gu gm =
    let g01 = longer-grows Nothing 1 l0 l1 gs.longer in
    let g12 = longer-grows Nothing 1 l1 l2 g1.longer in
    let g23 = longer-grows Nothing 2 l2 l3 gu.longer in
    let g34 = longer-grows Nothing 2 l3 l4 gm.longer in
    let g02 = grows-then l0 l1 l2 g01 g12 in
    let g03 = grows-then l0 l2 l3 g02 g23 in
    let second-width : width_at l3 second ≡ w = width-stays l2 l3 second g23 g2.there ∙ g2.width in
    let update : IsSlot l4 ru w = is-slot-stays l3 l4 ru w g34 (record { there = gu.there; width = gu.width ∙ g1.width }) in
    let mask : IsSlot l4 rm w = record { there = gm.there; width = gm.width ∙ second-width } in
    let entry_u : IsEntry l0 w (slot_of p.update k) = subst (λ n. IsEntry l0 n (slot_of p.update k)) can.width (can.pending.update k can.is_signal) in
    let entry_m : IsEntry l0 w (slot_of p.mask k) = subst (λ n. IsEntry l0 n (slot_of p.mask k)) can.width (can.pending.mask k can.is_signal) in
    let m = width_at l0 part in
    delays-given names p k w off ru rm 6 (λ b. update_in b l0 k low part) l0 l4 can
    (longer-then Nothing 4 2 l0 l3 l4 (longer-then Nothing 2 2 l0 l2 l3 (longer-then Nothing 1 1 l0 l1 l2 gs.longer g1.longer) gu.longer) gm.longer) update mask
    (λ b. refl) (λ b. refl) (λ s b sound. held-fits s b l0 part sound hp)
    (λ s b sound.
    let sound1 = gs.longer.sound s tt sound in
    let sound2 = g1.longer.sound s tt sound1 in
    let x : held b l2 first ≡ held_or b l0 (slot_of p.update k) = g1.value s b sound1 ∙ held-or-stays b l0 l1 w (slot_of p.update k) g01 entry_u in
    held-stays b l3 l4 ru g34 gu.there ∙ gu.value s b sound2
    ∙ ap (λ z. on_path b l2 off z (held b l2 first) (low_in b l2 low) (width_at l2 part) (held b l2 part)) g1.width
    ∙ path-stays b l0 l2 w (held b l2 first) (held_or b l0 (slot_of p.update k)) low part off g02 x hl hp ho)
    (λ s b sound.
    let sound1 = gs.longer.sound s tt sound in
    let sound2 = g1.longer.sound s tt sound1 in
    let sound3 = gu.longer.sound s tt sound2 in
    let g13 = grows-then l1 l2 l3 g12 g23 in
    let x : held b l3 second ≡ held_or b l0 (slot_of p.mask k) = held-stays b l2 l3 second g23 g2.there ∙ g2.value s b sound1 ∙ held-or-stays b l0 l1 w (slot_of p.mask k) g01 entry_m in
    let set-width : width_at l3 set ≡ m = width-stays l1 l3 set g13 gs.there ∙ gs.width in
    let set-value : held b l3 set ≡ 2 ^ m - 1 = held-stays b l1 l3 set g13 gs.there ∙ gs.value s b sound in
    gm.value s b sound3
    ∙ ap (λ z. on_path b l3 off z (held b l3 second) (low_in b l3 low) (width_at l3 set) (held b l3 set)) second-width
    ∙ ones-path b l3 w (held b l3 second) low part set off m set-width set-value
    ∙ ap (λ z. if z == 0 then placed w (held b l3 second) (low_in b l3 low) m (2 ^ m - 1) else held b l3 second) (held-stays b l0 l3 off g03 ho)
    ∙ ap (λ z. if held b l0 off == 0 then placed w (held b l3 second) z m (2 ^ m - 1) else held b l3 second) (low-stays b l0 l3 low g03 hl)
    ∙ ap (λ z. on_path b l0 off w z (low_in b l0 low) m (2 ^ m - 1)) x)

-- a whole signal
pub delays-whole : (names : Names) (p : PendingSlots) (k w part off set first second ru rm : ℕ) (l0 l1 l2 l3 l4 : ListData) → IsDelayable names l0 p k w → IsSlot l0 part w → IsIn l0 off →
    Gives Nothing 1 l0 l1 set (width_at l0 part) (λ b. 2 ^ width_at l0 part - 1) →
    Gives Nothing 1 l1 l2 first w (λ b. held_or b l1 (slot_of p.update k)) → Gives Nothing 1 l1 l2 second w (λ b. held_or b l1 (slot_of p.mask k)) →
    Gives Nothing 1 l2 l3 ru (width_at l2 first) (λ b. if held b l2 off == 0 then held b l2 part else held b l2 first) →
    Gives Nothing 1 l3 l4 rm (width_at l3 second) (λ b. if held b l3 off == 0 then held b l3 set else held b l3 second) →
    Delays names 4 (λ b. update_in b l0 k (Constant (pos 0)) part ∷ []) off p (with_slots p k ru rm) l0 l4
delays-whole names p k w part off set first second ru rm l0 l1 l2 l3 l4 can is ho gs g1 g2 gu gm =
    let g01 = longer-grows Nothing 1 l0 l1 gs.longer in
    let g12 = longer-grows Nothing 1 l1 l2 g1.longer in
    let g23 = longer-grows Nothing 1 l2 l3 gu.longer in
    let g34 = longer-grows Nothing 1 l3 l4 gm.longer in
    let g02 = grows-then l0 l1 l2 g01 g12 in
    let g03 = grows-then l0 l2 l3 g02 g23 in
    let g13 = grows-then l1 l2 l3 g12 g23 in
    let second-width : width_at l3 second ≡ w = width-stays l2 l3 second g23 g2.there ∙ g2.width in
    let update : IsSlot l4 ru w = is-slot-stays l3 l4 ru w g34 (record { there = gu.there; width = gu.width ∙ g1.width }) in
    let mask : IsSlot l4 rm w = record { there = gm.there; width = gm.width ∙ second-width } in
    let entry_u : IsEntry l0 w (slot_of p.update k) = subst (λ n. IsEntry l0 n (slot_of p.update k)) can.width (can.pending.update k can.is_signal) in
    let entry_m : IsEntry l0 w (slot_of p.mask k) = subst (λ n. IsEntry l0 n (slot_of p.mask k)) can.width (can.pending.mask k can.is_signal) in
    let m = width_at l0 part in
    delays-given names p k w off ru rm 4 (λ b. update_in b l0 k (Constant (pos 0)) part) l0 l4 can
    (longer-then Nothing 3 1 l0 l3 l4 (longer-then Nothing 2 1 l0 l2 l3 (longer-then Nothing 1 1 l0 l1 l2 gs.longer g1.longer) gu.longer) gm.longer) update mask
    (λ b. refl) (λ b. refl) (λ s b sound. held-fits s b l0 part sound is.there)
    (λ s b sound.
    let sound1 = gs.longer.sound s tt sound in
    let sound2 = g1.longer.sound s tt sound1 in
    let v = held b l0 part in
    let small : v < 2 ^ w = subst (λ n. v < 2 ^ n) is.width (held-fits s b l0 part sound is.there) in
    let x : held b l2 first ≡ held_or b l0 (slot_of p.update k) = g1.value s b sound1 ∙ held-or-stays b l0 l1 w (slot_of p.update k) g01 entry_u in
    held-stays b l3 l4 ru g34 gu.there ∙ gu.value s b sound2
    ∙ ap (λ z. if z == 0 then held b l2 part else held b l2 first) (held-stays b l0 l2 off g02 ho)
    ∙ ap (λ z. if held b l0 off == 0 then z else held b l2 first) (held-stays b l0 l2 part g02 is.there ∙ sym (placed-whole w (held b l2 first) v small))
    ∙ ap (λ z. on_path b l0 off w z (pos 0) w v) x
    ∙ ap (λ z. on_path b l0 off w (held_or b l0 (slot_of p.update k)) (pos 0) z v) (sym is.width))
    (λ s b sound.
    let sound1 = gs.longer.sound s tt sound in
    let sound2 = g1.longer.sound s tt sound1 in
    let sound3 = gu.longer.sound s tt sound2 in
    let v = 2 ^ w - 1 in
    let p0 = pow_pos w in
    let small : v < 2 ^ w = omega (arith, p0) in
    let x : held b l3 second ≡ held_or b l0 (slot_of p.mask k) = held-stays b l2 l3 second g23 g2.there ∙ g2.value s b sound1 ∙ held-or-stays b l0 l1 w (slot_of p.mask k) g01 entry_m in
    let set-value : held b l3 set ≡ v = held-stays b l1 l3 set g13 gs.there ∙ gs.value s b sound ∙ ap (λ n. 2 ^ n - 1) is.width in
    gm.value s b sound3
    ∙ ap (λ z. if z == 0 then held b l3 set else held b l3 second) (held-stays b l0 l3 off g03 ho)
    ∙ ap (λ z. if held b l0 off == 0 then z else held b l3 second) (set-value ∙ sym (placed-whole w (held b l3 second) v small))
    ∙ ap (λ z. on_path b l0 off w z (pos 0) w v) x
    ∙ ap (λ z. on_path b l0 off w (held_or b l0 (slot_of p.mask k)) (pos 0) z (2 ^ z - 1)) (sym is.width))

-- by the index of the path
pub delays-at : (names : Names) (p : PendingSlots) (k w : ℕ) (low : ℤ) (part off far set ru rm : ℕ) (l0 l1 l2 l3 l4 : ListData) → IsDelayable names l0 p k w → IsIn l0 part → IsIn l0 off →
    Gives Nothing 1 l0 l1 set (width_at l0 part) (λ b. 2 ^ width_at l0 part - 1) → Distant 1 l1 l2 far off →
    Gives Nothing 1 l2 l3 ru w (λ b. on_path b l2 far w (held_or b l2 (slot_of p.update k)) low (width_at l2 part) (held b l2 part)) →
    Gives Nothing 1 l3 l4 rm w (λ b. on_path b l3 far w (held_or b l3 (slot_of p.mask k)) low (width_at l3 set) (held b l3 set)) →
    Delays names 4 (λ b. update_in b l0 k (Constant low) part ∷ []) off p (with_slots p k ru rm) l0 l4
delays-at names p k w low part off far set ru rm l0 l1 l2 l3 l4 can hp ho gs gf gu gm =
    let g01 = longer-grows Nothing 1 l0 l1 gs.longer in
    let g12 = longer-grows Nothing 1 l1 l2 gf.longer in
    let g23 = longer-grows Nothing 1 l2 l3 gu.longer in
    let g34 = longer-grows Nothing 1 l3 l4 gm.longer in
    let g02 = grows-then l0 l1 l2 g01 g12 in
    let g03 = grows-then l0 l2 l3 g02 g23 in
    let g13 = grows-then l1 l2 l3 g12 g23 in
    let update : IsSlot l4 ru w = is-slot-stays l3 l4 ru w g34 (record { there = gu.there; width = gu.width }) in
    let mask : IsSlot l4 rm w = record { there = gm.there; width = gm.width } in
    let entry_u : IsEntry l0 w (slot_of p.update k) = subst (λ n. IsEntry l0 n (slot_of p.update k)) can.width (can.pending.update k can.is_signal) in
    let entry_m : IsEntry l0 w (slot_of p.mask k) = subst (λ n. IsEntry l0 n (slot_of p.mask k)) can.width (can.pending.mask k can.is_signal) in
    let m = width_at l0 part in
    delays-given names p k w off ru rm 4 (λ b. update_in b l0 k (Constant low) part) l0 l4 can
    (longer-then Nothing 3 1 l0 l3 l4 (longer-then Nothing 2 1 l0 l2 l3 (longer-then Nothing 1 1 l0 l1 l2 gs.longer gf.longer) gu.longer) gm.longer) update mask
    (λ b. refl) (λ b. refl) (λ s b sound. held-fits s b l0 part sound hp)
    (λ s b sound.
    let sound1 = gs.longer.sound s tt sound in
    let sound2 = gf.longer.sound s tt sound1 in
    let U = held_or b l0 (slot_of p.update k) in
    let path : held b l2 far ≡ (if held b l0 off == 0 then 0 else 511) = gf.value s b sound1 ∙ ap (λ z. if z == 0 then 0 else 511) (held-stays b l0 l1 off g01 ho) in
    held-stays b l3 l4 ru g34 gu.there ∙ gu.value s b sound2
    ∙ same-path w (held_or b l2 (slot_of p.update k)) low (width_at l2 part) (held b l2 part) (held b l2 far) (held b l0 off) path
    ∙ ap (λ z. on_path b l0 off w z low (width_at l2 part) (held b l2 part)) (held-or-stays b l0 l2 w (slot_of p.update k) g02 entry_u)
    ∙ ap (λ z. on_path b l0 off w U low z (held b l2 part)) (width-stays l0 l2 part g02 hp)
    ∙ ap (on_path b l0 off w U low m) (held-stays b l0 l2 part g02 hp))
    (λ s b sound.
    let sound1 = gs.longer.sound s tt sound in
    let sound2 = gf.longer.sound s tt sound1 in
    let sound3 = gu.longer.sound s tt sound2 in
    let M = held_or b l0 (slot_of p.mask k) in
    let path : held b l3 far ≡ (if held b l0 off == 0 then 0 else 511) = held-stays b l2 l3 far g23 gf.there ∙ gf.value s b sound1 ∙ ap (λ z. if z == 0 then 0 else 511) (held-stays b l0 l1 off g01 ho) in
    let set-width : width_at l3 set ≡ m = width-stays l1 l3 set g13 gs.there ∙ gs.width in
    let set-value : held b l3 set ≡ 2 ^ m - 1 = held-stays b l1 l3 set g13 gs.there ∙ gs.value s b sound in
    gm.value s b sound3
    ∙ same-path w (held_or b l3 (slot_of p.mask k)) low (width_at l3 set) (held b l3 set) (held b l3 far) (held b l0 off) path
    ∙ ap (λ z. on_path b l0 off w z low (width_at l3 set) (held b l3 set)) (held-or-stays b l0 l3 w (slot_of p.mask k) g03 entry_m)
    ∙ ap (λ z. on_path b l0 off w M low z (held b l3 set)) set-width
    ∙ ap (on_path b l0 off w M low m) set-value)
  where
    same-path : (v x : ℕ) (y : ℤ) (n q f o : ℕ) → f ≡ (if o == 0 then 0 else 511) → (if f == 0 then placed v x y n q else x) ≡ (if o == 0 then placed v x y n q else x)
    same-path v x y n q f o e = go (o == 0) refl
      where
        go : (c : Bool) → (o == 0) ≡ c → (if f == 0 then placed v x y n q else x) ≡ (if o == 0 then placed v x y n q else x)
        go true h =
            let is : f ≡ 0 = e ∙ ap (λ d. if d then 0 else 511) h in
            ap (λ z. if z == 0 then placed v x y n q else x) is ∙ sym (ap (λ d. if d then placed v x y n q else x) h)
        go false h =
            let is : f ≡ 511 = e ∙ ap (λ d. if d then 0 else 511) h in
            ap (λ z. if z == 0 then placed v x y n q else x) is ∙ sym (ap (λ d. if d then placed v x y n q else x) h)

pub gives-ones : (w r part : ℕ) (l0 l1 : ListData) → w ≡ width_at l0 part → width_at l0 part ≤ 128 → Gives Nothing 1 l0 l1 r w (λ b. (2 ^ 128 - 1) % 2 ^ w) → Gives Nothing 1 l0 l1 r (width_at l0 part) (λ b. 2 ^ width_at l0 part - 1)
gives-ones w r part l0 l1 e narrow g =
    gives-as Nothing 1 l0 l1 r w (width_at l0 part) (λ b. (2 ^ 128 - 1) % 2 ^ w) (λ b. 2 ^ width_at l0 part - 1) e
    (λ s b sound. ap (λ n. (2 ^ 128 - 1) % 2 ^ n) e ∙ cut-ones (width_at l0 part) narrow) g
