-- What a state begins with.
use Rattle.std.proofs.Common.{◌≡◌, ◌≤◌, ◌+◌, ℕ, Bool, true, false, List, [], length, refl, sym, ap, ◌∙◌, arith, subst}
use Rattle.std.specs.Prelude.{All, slice_index}
use Rattle.cell_emit.specs.vl_base.specs.declared.files.File.{File}
use Rattle.ten_form.specs.vl_design.specs.Syntax.{Flat}
use Rattle.ten_form.specs.vl_design.specs.Width.{names_of, signal_form}
use Rattle.ten_form.specs.vl_design.specs.Value.{value_of}
use Rattle.ten_form.specs.vl_design.specs.Sound.{IsSignal}
use Rattle.ten_form.specs.vl_design.specs.State.{State, all_updated, sample}
use Rattle.ten_form.specs.vl_runs.specs.Nets.{pass}
use Rattle.ten_form.specs.vl_runs.specs.NetsOfSettle.{run}
use Rattle.cell_emit.specs.vl_sites.specs.Others.{other_at}
use Rattle.cell_emit.specs.cell_form.specs.Cycle.{masked}
use Rattle.cell_emit.specs.cell_form.specs.Data.{ListData, BankData}
use Rattle.cell_emit.specs.cell_form.specs.Sound.{Shape}
use Rattle.cell_emit.specs.Slots.{AreSound, Grows, Longer}
use Rattle.cell_emit.proofs.Frames.{longer-grows}
use Rattle.cell_emit.specs.Envs.{Env, IsEntry, held_or, Fits, HasMemories, Stands}
use Rattle.cell_emit.proofs.Staying.{fits-stays, stands-stays}
use Rattle.cell_emit.specs.Entries.{HasCopy}
use Rattle.cell_emit.specs.Reads.{IsRead, HasPlaces}
use Rattle.cell_waves.specs.BeginsOfBegin.{Mixes, HasCopies}
use Rattle.cell_waves.proofs.Joining.{memory-kept}
use Rattle.cell_emit.specs.Pendings.{PendingSlots, slot_of, settled, IsSite, ArePending}
use Rattle.cell_emit.proofs.Masking.{masked-none}
use Rattle.ten_form.specs.Registers.{places, value_register, work_register, update_register, mask_register}
use Rattle.ten_form.specs.Nets.{cleared, IsTidy, HoldsNoOthers}
use Rattle.ten_form.specs.Banks.{HoldsSignals, HoldsState}
use Rattle.cell_waves.specs.Copies.{HasSignals, AreCopies}
use Rattle.cell_waves.specs.Begins.{IsPendingRead, SettlesSignals, begin_count, Begins}
use Rattle.cell_waves.proofs.Beginning.{copy-entry, copy-held, copy-of, none-of, for-room, roomy, roomy-has, roomy-sound, works-read, values-read, memory-cleared}
use Rattle.cell_waves.proofs.Lengths.{longer-few}
use Rattle.cell_waves.proofs.Ending.{value-kept, others-stay}
use Rattle.cell_waves.proofs.Placing.{HasRoom, room-places}

module _ (d : Flat) (order : List ℕ) (old l1 l2 : ListData) (at : Env) (n m more : ℕ) (p : PendingSlots) (none : p.sites ≡ []) (many : n ≡ length d.rows) (first : at.first ≡ 0) (fits : Fits (names_of d) l1 at)
    (g : Longer (HasSignals n) more l1 l2) (u : AreCopies d.rows 5 l2 p.update) (v : AreCopies d.rows 6 l2 p.mask) (vs ws : List ℕ) (is-vs : vs ≡ places value_register d.rows) (is-ws : ws ≡ places work_register d.rows)
    (longer : Longer (HasCopies (names_of d) vs ws 2 1) m old l1) (memories : (z : Shape) → HasCopies (names_of d) vs ws 2 1 z → HasMemories (names_of d) at z)
    (stands : (files : List File) (z : Shape) (b : BankData) (t : State) (w x : List (List ℕ)) → AreSound z old → t.finished ≡ false → IsRead (names_of d) b vs 2 1 (sample t) →
    IsRead (names_of d) b ws 2 1 (sample (record t { values = w })) → Mixes (names_of d) (pass (run d files t) order t.values) w x → Stands (names_of d) b l1 at (sample (record t { values = x }))) (enough : m + more ≤ begin_count d order) where
  grows : Grows l1 l2
  grows = longer-grows (HasSignals n) more l1 l2 g

  has : (z : Shape) → HasRoom d z → HasCopies (names_of d) vs ws 2 1 z
  has z r = record {
    committed = subst (λ ps. HasPlaces (names_of d) ps 2 1 z) (sym is-vs) (room-places d 3 z (omega arith) r);
    present = subst (λ ps. HasPlaces (names_of d) ps 2 1 z) (sym is-ws) (room-places d 4 z (omega arith) r);
  }

  sound : (z : Shape) → HasRoom d z → AreSound z old → AreSound z l2
  sound z r h = let regs = r.regs in g.sound z (omega (arith, regs, many)) (longer.sound z (has z r) h)

  update-copy : (k : ℕ) → IsSignal (names_of d) k → other_at d.rows k ≡ false → HasCopy l2 (signal_form d.rows k).width (update_register k) (slot_of p.update k)
  update-copy k i o = copy-of d 5 l2 p.update k u i o

  mask-copy : (k : ℕ) → IsSignal (names_of d) k → other_at d.rows k ≡ false → HasCopy l2 (signal_form d.rows k).width (mask_register k) (slot_of p.mask k)
  mask-copy k i o = copy-of d 6 l2 p.mask k v i o

  update-entry : (k : ℕ) → IsSignal (names_of d) k → (o : Bool) → other_at d.rows k ≡ o → IsEntry l2 (signal_form d.rows k).width (slot_of p.update k)
  update-entry k i true o = subst (IsEntry l2 (signal_form d.rows k).width) (sym (none-of d 5 l2 p.update k u i o)) tt
  update-entry k i false o = copy-entry l2 (signal_form d.rows k).width (update_register k) (slot_of p.update k) (update-copy k i o)

  mask-entry : (k : ℕ) → IsSignal (names_of d) k → (o : Bool) → other_at d.rows k ≡ o → IsEntry l2 (signal_form d.rows k).width (slot_of p.mask k)
  mask-entry k i true o = subst (IsEntry l2 (signal_form d.rows k).width) (sym (none-of d 6 l2 p.mask k v i o)) tt
  mask-entry k i false o = copy-entry l2 (signal_form d.rows k).width (mask_register k) (slot_of p.mask k) (mask-copy k i o)

  pending : ArePending (names_of d) l2 p
  pending = record {
    many = v.many ∙ sym u.many;
    update = λ k i. update-entry k i (other_at d.rows k) refl;
    mask = λ k i. mask-entry k i (other_at d.rows k) refl;
    sites = subst (λ xs. All (IsSite (names_of d) l2) xs) (sym none) (λ i x lt. absurd (omega arith));
  }

  read : (z : Shape) (b : BankData) (s : State) (committed : List (List ℕ)) → AreSound z old → HoldsSignals d b s committed → IsPendingRead d b l2 p
  read z b s committed h0 h =
      let all : AreSound (roomy d z) l2 = sound (roomy d z) (roomy-has d z) (roomy-sound d z old h0) in
      record {
        update = λ k i o. copy-held (roomy d z) b l2 (signal_form d.rows k).width (update_register k) (slot_of p.update k) all (update-copy k i o) (h.pending.update_fits k i);
        mask = λ k i o. copy-held (roomy d z) b l2 (signal_form d.rows k).width (mask_register k) (slot_of p.mask k) all (mask-copy k i o) (h.pending.mask_fits k i);
      }

  -- nothing is pending of a loop variable or a clock
  nothing-pends : (b : BankData) (k v : ℕ) → IsSignal (names_of d) k → other_at d.rows k ≡ true → settled b l2 p k v ≡ v
  nothing-pends b k x i o =
      let held : ℕ = held_or b l2 (slot_of p.update k) in
      ap (λ e. masked x held (held_or b l2 e)) (none-of d 6 l2 p.mask k v i o) ∙ masked-none x held

  pends : (z : Shape) (b : BankData) (s : State) (committed : List (List ℕ)) → AreSound z old → HoldsNoOthers d s committed → HoldsSignals d b s committed → SettlesSignals d b l2 p s.later
  pends z b s committed h0 plain h base k fine i = of (other_at d.rows k) refl
    where
      of : (o : Bool) → other_at d.rows k ≡ o → value_of (all_updated d.rows base s.later) k ≡ settled b l2 p k (value_of base k)
      of true o = others-stay d.rows k s.later base o plain.later ∙ sym (nothing-pends b k (value_of base k) i o)
      of false o =
          let r = read z b s committed h0 h in
          h.pending.updates base k fine i ∙ ap (λ x. masked (value_of base k) x (slice_index b.regs (mask_register k))) (sym (r.update k i o))
          ∙ ap (masked (value_of base k) (held_or b l2 (slot_of p.update k))) (sym (r.mask k i o))

  state-stands : (files : List File) (z : Shape) (b : BankData) (s : State) (committed : List (List ℕ)) → AreSound z old → s.finished ≡ false → IsTidy d files order s committed → HoldsNoOthers d s committed →
      HoldsState d b s committed → Stands (names_of d) b l2 at (sample s)
  state-stands files z b s committed h0 alive tidy none-other h =
      let plain = memory-kept (names_of d) in
      stands-stays (names_of d) b l1 l2 at (sample s) grows fits
      (stands files z b (record s { values = cleared d.rows committed }) (cleared d.rows s.values) s.values h0 alive
      (subst (λ ps. IsRead (names_of d) b ps 2 1 (sample (record s { values = cleared d.rows committed }))) (sym is-vs) (values-read d b s committed h none-other plain tidy.committed_fine tidy.memories))
      (subst (λ ps. IsRead (names_of d) b ps 2 1 (sample (record s { values = cleared d.rows s.values }))) (sym is-ws) (works-read d b s committed h none-other plain tidy.fine))
      (record {
        fine = tidy.fine;
        computed = tidy.nets;
        kept = λ j i c. sym (value-kept d s.values j i c);
        memories = λ j i. sym (memory-cleared d b s committed h none-other plain s.values j i);
      }))

  pub begins : Begins d order old l2 at p
  begins = record {
    first = first;
    fits = fits-stays (names_of d) l1 l2 at grows fits;
    pending = pending;
    many = u.many;
    sites = none;
    few = (let a = longer-few (HasCopies (names_of d) vs ws 2 1) m old l1 longer in let b = longer-few (HasSignals n) more l1 l2 g in omega (arith, a, b, enough));
    sound = λ z f h. sound z (for-room d z f) h;
    memories = λ z f. memories z (has z (for-room d z f));
    stands = state-stands;
    pends = pends;
    read = read;
  }
