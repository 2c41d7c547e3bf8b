-- What stores hold behind writes of registers.
use Rattle.std.proofs.Common.{◌≡◌, ℕ, ◌^◌, ◌<◌, List, [], ◌++◌, length, Some, None, sym, ap, ◌∙◌, arith, subst, inl, inr}
use Rattle.std.proofs.Math.Nat.{mod-eq_of_lt}
use Rattle.std.specs.Prelude.{slice_index}
use Rattle.std.specs.List.{AllByRecursion}
use Rattle.std.proofs.Math.Pow.{pow_pos}
use Rattle.std.proofs.lemmas.List.Elements.{recursion_from_All, All-from_recursion}
use Rattle.ten_form.specs.vl_design.specs.Syntax.{Flat}
use Rattle.ten_form.specs.vl_design.specs.Width.{names_of, signal_form}
use Rattle.ten_form.specs.vl_design.specs.Value.{words_of}
use Rattle.ten_form.specs.vl_design.specs.State.{Update}
use Rattle.ten_form.specs.vl_design.specs.Sound.{IsMemory}
use Rattle.cell_emit.specs.cell_form.specs.declared.cell.Write.{Write}
use Rattle.cell_emit.specs.cell_form.specs.Cycle.{written}
use Rattle.cell_emit.specs.cell_form.specs.Data.{ListData, BankData}
use Rattle.cell_emit.specs.cell_form.specs.Sound.{shape_of}
use Rattle.cell_emit.specs.Slots.{held}
use Rattle.cell_emit.proofs.Frames.{held-fits}
use Rattle.cell_emit.specs.Envs.{IsSlot}
use Rattle.cell_emit.specs.Entries.{IsCopy}
use Rattle.cell_emit.specs.declared.pending.Site.{Site}
use Rattle.cell_emit.specs.Pendings.{IsSite}
use Rattle.cell_waves.specs.Lasts.{last_write, held_after}
use Rattle.ten_form.specs.declared.store.Store.{Store}
use Rattle.ten_form.specs.Holding.{enable_register, word_register, value_register, mask_register, stored_by, IsStore, IsIdle, HoldsWords}
use Rattle.cell_waves.specs.Reading.{EachHas, HasStore}
use Rattle.cell_waves.specs.Keeping.{IsHeld, IsLeft, IsZero, IsSegment}
use Rattle.cell_waves.proofs.Lasting.{register-behind}
use Rattle.cell_waves.proofs.Listing.{all-front, all-back, all-both, all-from, all-with, each-with, each-store}
use Rattle.cell_waves.proofs.Holding.{IsSame, IsOf, by-more, by-idle, by-sites, below-as, store-same, holds-same}

-- ---- writes elsewhere

module _ (value : ℕ → ℕ) (sets : List Write) (b : BankData) where
  -- a register that isn't written
  pub register-left : (r : ℕ) → r < length b.regs → last_write sets r ≡ None → slice_index (written value sets b).regs r ≡ slice_index b.regs r
  register-left r lt e = register-behind value sets b r lt ∙ ap (λ o. held_after value o (slice_index b.regs r)) e

  -- a register that is written from a slot
  pub register-from : (r s : ℕ) → r < length b.regs → last_write sets r ≡ Some s → slice_index (written value sets b).regs r ≡ value s
  register-from r s lt e = register-behind value sets b r lt ∙ ap (λ o. held_after value o (slice_index b.regs r)) e

  pub store-left : (x : Store) → HasStore (shape_of b) x → IsLeft sets x → IsSame b (written value sets b) x
  store-left x h k =
      let room = h.0 in
      record {
        enable = register-left (enable_register x) (omega arith) (k (enable_register x) (omega arith) (omega arith));
        word = register-left (word_register x) (omega arith) (k (word_register x) (omega arith) (omega arith));
        value = register-left (value_register x) (omega arith) (k (value_register x) (omega arith) (omega arith));
        mask = register-left (mask_register x) (omega arith) (k (mask_register x) (omega arith) (omega arith));
      }

  pub stores-left : (xs : List Store) → AllByRecursion (HasStore (shape_of b)) xs → AllByRecursion (IsLeft sets) xs → AllByRecursion (IsSame b (written value sets b)) xs
  stores-left xs h k = all-with (HasStore (shape_of b)) (IsLeft sets) (IsSame b (written value sets b)) store-left xs h k

  pub idle-left : (stores : List Store) → AllByRecursion (HasStore (shape_of b)) stores → AllByRecursion (IsLeft sets) stores → AllByRecursion (IsIdle b) stores → AllByRecursion (IsIdle (written value sets b)) stores
  idle-left stores h k idle = all-with (IsSame b (written value sets b)) (IsIdle b) (IsIdle (written value sets b)) (λ x s i. s.enable ∙ i) stores (stores-left stores h k) idle

  pub holds-left : (d : Flat) (stores : List Store) (later : List Update) → AllByRecursion (HasStore (shape_of b)) stores → AllByRecursion (IsLeft sets) stores → HoldsWords d b stores later → HoldsWords d (written value sets b) stores later
  holds-left d stores later h k holds = holds-same d b (written value sets b) stores later (stores-left stores h k) holds

-- ---- registers of zeros

-- nothing is pending where the registers of stores of memories hold 0
pub zeros-idle : (b : BankData) (stores : List Store) → AllByRecursion (IsZero b) stores → AllByRecursion (IsIdle b) stores
zeros-idle b stores h = all-from (IsZero b) (IsIdle b) (λ x z. z (enable_register x) (omega arith) (omega arith)) stores h

zeros-store : (d : Flat) (b : BankData) (x : Store) → IsMemory (names_of d) x.memory → IsZero b x → IsStore d b x
zeros-store d b x i z =
    let wide = (signal_form d.rows x.memory).width in
    record {
      memory = i;
      enable = below-as _ 0 2 (z (enable_register x) (omega arith) (omega arith)) (omega arith);
      word = below-as _ 0 (2 ^ 32) (z (word_register x) (omega arith) (omega arith)) (pow_pos 32);
      value = below-as _ 0 (2 ^ wide) (z (value_register x) (omega arith) (omega arith)) (pow_pos wide);
      mask = below-as _ 0 (2 ^ wide) (z (mask_register x) (omega arith) (omega arith)) (pow_pos wide);
    }

pub zeros-hold : (d : Flat) (b : BankData) (stores : List Store) → AllByRecursion (λ x. IsMemory (names_of d) x.memory) stores → AllByRecursion (IsZero b) stores → HoldsWords d b stores []
zeros-hold d b stores h k = record {
  each = All-from_recursion (IsStore d b) stores (all-with (λ x. IsMemory (names_of d) x.memory) (IsZero b) (IsStore d b) (zeros-store d b) stores h k);
  words = λ base m j fine i lt. sym (by-idle b stores m j (slice_index (words_of base m) j) (zeros-idle b stores k));
}

-- ---- a segment

module _ (d : Flat) (b : BankData) (l : ListData) (kept behind : List Store) (sites : List Site) (sets : List Write) (later : List Update) (h : IsSegment d b l kept behind sites sets later) where
  abbrev after : BankData
  after = written (held b l) sets b

  abbrev Has : Store → Type 0
  Has = HasStore (shape_of b)

  slot-below : (r w : ℕ) → IsSlot l r w → held b l r < 2 ^ w
  slot-below r w k = subst (λ n. held b l r < 2 ^ n) k.width (held-fits h.shape b l r h.sound k.there)

  -- a register that is left holds what a copy of it holds
  copied : (r w s : ℕ) → r < length b.regs → last_write sets r ≡ None → IsCopy l w r s → slice_index b.regs r < 2 ^ w → slice_index after.regs r ≡ held b l s
  copied r w s lt left copy small = register-left (held b l) sets b r lt left ∙ sym (copy.value h.shape b h.sound ∙ mod-eq_of_lt small)

  held-of : (x : Store) (s : Site) → Has x × IsStore d b x → IsHeld d l sets x s → IsOf b l after x s
  held-of x s there (inl k) =
      let room = there.0.0 in
      record {
        memory = k.memory;
        enable = register-from (held b l) sets b (enable_register x) s.enable (omega arith) k.enable;
        word = register-from (held b l) sets b (word_register x) s.word (omega arith) k.word;
        value = register-from (held b l) sets b (value_register x) s.value (omega arith) k.value;
        mask = register-from (held b l) sets b (mask_register x) s.mask (omega arith) k.mask;
      }
  held-of x s there (inr k) =
      let room = there.0.0 in
      record {
        memory = sym k.1.memory;
        enable = copied (enable_register x) 1 s.enable (omega arith) (k.0 (enable_register x) (omega arith) (omega arith)) k.1.enable there.1.enable;
        word = copied (word_register x) 32 s.word (omega arith) (k.0 (word_register x) (omega arith) (omega arith)) k.1.word there.1.word;
        value = copied (value_register x) (signal_form d.rows x.memory).width s.value (omega arith) (k.0 (value_register x) (omega arith) (omega arith)) k.1.value there.1.value;
        mask = copied (mask_register x) (signal_form d.rows x.memory).width s.mask (omega arith) (k.0 (mask_register x) (omega arith) (omega arith)) k.1.mask there.1.mask;
      }

  store-of : (x : Store) (s : Site) → IsSite (names_of d) l s → IsOf b l after x s → IsStore d after x
  store-of x s site k =
      let wide : (signal_form d.rows s.memory).width ≡ (signal_form d.rows x.memory).width = ap (λ n. (signal_form d.rows n).width) (sym k.memory) in
      let Below : ℕ → ℕ → Type 0 = λ v w. v < 2 ^ w in
      record {
        memory = subst (IsMemory (names_of d)) (sym k.memory) site.memory;
        enable = below-as _ _ 2 k.enable (slot-below s.enable 1 site.enable);
        word = below-as _ _ (2 ^ 32) k.word (slot-below s.word 32 site.word);
        value = below-as _ _ (2 ^ (signal_form d.rows x.memory).width) k.value (subst (Below (held b l s.value)) wide (slot-below s.value (signal_form d.rows s.memory).width site.value));
        mask = below-as _ _ (2 ^ (signal_form d.rows x.memory).width) k.mask (subst (Below (held b l s.mask)) wide (slot-below s.mask (signal_form d.rows s.memory).width site.mask));
      }

  same-behind : AllByRecursion (IsSame b after) behind
  same-behind = stores-left (held b l) sets b behind (all-back Has kept behind h.there) h.left

  held-each : AllByRecursion (IsStore d b) (kept ++ behind) → EachHas (IsOf b l after) kept sites
  held-each k =
      each-with (λ x. Has x × IsStore d b x) (IsHeld d l sets) (IsOf b l after) held-of kept sites
      (all-with Has (IsStore d b) (λ x. Has x × IsStore d b x) (λ x a c. (a, c)) kept (all-front Has kept behind h.there) (all-front (IsStore d b) kept behind k)) h.each

  pub idle-yet : AllByRecursion (IsIdle after) behind
  idle-yet = all-with (IsSame b after) (IsIdle b) (IsIdle after) (λ x s i. s.enable ∙ i) behind same-behind h.idle

  are-stores : AllByRecursion (IsStore d b) (kept ++ behind) → AllByRecursion (IsStore d after) (kept ++ behind)
  are-stores k =
      all-both (IsStore d after) kept behind
      (each-store (IsSite (names_of d) l) (IsOf b l after) (IsStore d after) store-of kept sites (recursion_from_All (IsSite (names_of d) l) sites h.slots) (held-each k))
      (all-with (IsSame b after) (IsStore d b) (IsStore d after) (λ x e i. store-same d b after x e i) behind same-behind (all-back (IsStore d b) kept behind k))

  pub holds-more : (earlier : List Update) → HoldsWords d b (kept ++ behind) earlier → HoldsWords d after (kept ++ behind) later
  holds-more earlier k = record {
    each = All-from_recursion (IsStore d after) (kept ++ behind) (are-stores (recursion_from_All (IsStore d b) (kept ++ behind) k.each));
    words = λ base m j fine i lt.
        let v = slice_index (words_of base m) j in
        h.words base m j fine i lt
        ∙ sym (by-more after kept behind m j v ∙ (by-idle after behind m j (stored_by after kept m j v) idle-yet ∙ by-sites b l after kept sites m j v (held-each (recursion_from_All (IsStore d b) (kept ++ behind) k.each))));
  }

-- ---- idle stores

pub holds-fewer : (d : Flat) (b : BankData) (xs ys : List Store) (later : List Update) → HoldsWords d b (xs ++ ys) later → AllByRecursion (IsIdle b) ys → HoldsWords d b xs later
holds-fewer d b xs ys later h idle = record {
  each = All-from_recursion (IsStore d b) xs (all-front (IsStore d b) xs ys (recursion_from_All (IsStore d b) (xs ++ ys) h.each));
  words = λ base m j fine i lt.
      let v = slice_index (words_of base m) j in
      h.words base m j fine i lt ∙ (by-more b xs ys m j v ∙ by-idle b ys m j (stored_by b xs m j v) idle);
}
