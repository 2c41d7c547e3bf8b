-- What stores say of words.
use Rattle.std.proofs.Common.{◌≡◌, ℕ, ◌^◌, ◌<◌, Bool, true, false, List, [], ◌∷◌, ◌++◌, refl, sym, ap, ◌∙◌, subst}
use Rattle.std.specs.Prelude.{◌==◌, not, ◌&&◌, if◌then◌else◌, slice_index}
use Rattle.std.specs.List.{AllByRecursion}
use Rattle.std.proofs.lemmas.List.Elements.{recursion_from_All, All-from_recursion}
use Rattle.ten_form.specs.vl_design.specs.Syntax.{Flat}
use Rattle.ten_form.specs.vl_design.specs.Width.{signal_form}
use Rattle.ten_form.specs.vl_design.specs.Value.{words_of}
use Rattle.ten_form.specs.vl_design.specs.State.{Update}
use Rattle.cell_emit.specs.cell_form.specs.Cycle.{masked}
use Rattle.cell_emit.specs.cell_form.specs.Data.{ListData, BankData}
use Rattle.cell_emit.specs.Slots.{held}
use Rattle.cell_emit.specs.declared.pending.Site.{Site}
use Rattle.cell_emit.specs.Pendings.{hits, stored}
use Rattle.ten_form.specs.declared.store.Store.{Store}
use Rattle.ten_form.specs.Holding.{enable_register, word_register, value_register, mask_register, writes_word, stored_by, IsStore, IsIdle, HoldsWords}
use Rattle.cell_waves.specs.Reading.{EachHas}
use Rattle.cell_waves.proofs.Listing.{all-with}
pub use Rattle.cell_emit.specs.vl_base.proofs.Numbers.{lt_subst as below-as}

-- ---- one write

-- word j of memory m of the value v, behind a write to word k of memory n where e isn't 0
abbrev pub put : ℕ → ℕ → ℕ → ℕ → ℕ → ℕ → ℕ → ℕ → ℕ
put n m j v e k new mask = if (n == m) && (not (e == 0) && (k == j)) then masked v new mask else v

pub put-same : (n0 n1 m j v e0 e1 k0 k1 new0 new1 mask0 mask1 : ℕ) → n0 ≡ n1 → e0 ≡ e1 → k0 ≡ k1 → new0 ≡ new1 → mask0 ≡ mask1 → put n0 m j v e0 k0 new0 mask0 ≡ put n1 m j v e1 k1 new1 mask1
put-same n0 n1 m j v e0 e1 k0 k1 new0 new1 mask0 mask1 n e k new mask =
    ap (λ x. put x m j v e0 k0 new0 mask0) n ∙ ap (λ x. put n1 m j v x k0 new0 mask0) e ∙ ap (λ x. put n1 m j v e1 x new0 mask0) k
    ∙ ap (λ x. put n1 m j v e1 k1 x mask0) new ∙ ap (λ x. put n1 m j v e1 k1 new1 x) mask

put-none : (n m j v e k new mask : ℕ) → e ≡ 0 → put n m j v e k new mask ≡ v
put-none n m j v e k new mask z = ap (λ x. put n m j v x k new mask) z ∙ of (n == m)
  where
    of : (c : Bool) → (if c && false then masked v new mask else v) ≡ v
    of true = refl
    of false = refl

-- ---- stores in order

pub by-more : (b : BankData) (xs ys : List Store) (m j v : ℕ) → stored_by b (xs ++ ys) m j v ≡ stored_by b ys m j (stored_by b xs m j v)
by-more b [] ys m j v = refl
by-more b (x ∷ xs) ys m j v = by-more b xs ys m j (if writes_word b x m j then masked v (slice_index b.regs (value_register x)) (slice_index b.regs (mask_register x)) else v)

pub by-idle : (b : BankData) (xs : List Store) (m j v : ℕ) → AllByRecursion (IsIdle b) xs → stored_by b xs m j v ≡ v
by-idle b [] m j v h = refl
by-idle b (x ∷ xs) m j v h =
    ap (stored_by b xs m j)
    (put-none x.memory m j v (slice_index b.regs (enable_register x)) (slice_index b.regs (word_register x)) (slice_index b.regs (value_register x)) (slice_index b.regs (mask_register x)) h.0)
    ∙ by-idle b xs m j v h.1

-- ---- sites in order

pub sites-idle : (b : BankData) (l : ListData) (xs : List Site) (m j v : ℕ) → AllByRecursion (λ x. held b l x.enable ≡ 0) xs → stored b l xs m j v ≡ v
sites-idle b l [] m j v h = refl
sites-idle b l (x ∷ xs) m j v h =
    ap (stored b l xs m j) (put-none x.memory m j v (held b l x.enable) (held b l x.word) (held b l x.value) (held b l x.mask) h.0) ∙ sites-idle b l xs m j v h.1

-- ---- stores whose registers hold the same on two banks

pub record IsSame (b c : BankData) (x : Store) : Type 0 where
  pub enable : slice_index c.regs (enable_register x) ≡ slice_index b.regs (enable_register x)
  pub word : slice_index c.regs (word_register x) ≡ slice_index b.regs (word_register x)
  pub value : slice_index c.regs (value_register x) ≡ slice_index b.regs (value_register x)
  pub mask : slice_index c.regs (mask_register x) ≡ slice_index b.regs (mask_register x)

pub by-same : (b c : BankData) (xs : List Store) (m j v : ℕ) → AllByRecursion (IsSame b c) xs → stored_by c xs m j v ≡ stored_by b xs m j v
by-same b c [] m j v h = refl
by-same b c (x ∷ xs) m j v h =
    by-same b c xs m j (if writes_word c x m j then masked v (slice_index c.regs (value_register x)) (slice_index c.regs (mask_register x)) else v) h.1
    ∙ ap (stored_by b xs m j) (put-same x.memory x.memory m j v _ _ _ _ _ _ _ _ refl h.0.enable h.0.word h.0.value h.0.mask)

pub store-same : (d : Flat) (b c : BankData) (x : Store) → IsSame b c x → IsStore d b x → IsStore d c x
store-same d b c x h k = record {
  memory = k.memory;
  enable = below-as _ _ 2 h.enable k.enable;
  word = below-as _ _ (2 ^ 32) h.word k.word;
  value = below-as _ _ (2 ^ (signal_form d.rows x.memory).width) h.value k.value;
  mask = below-as _ _ (2 ^ (signal_form d.rows x.memory).width) h.mask k.mask;
}

pub holds-same : (d : Flat) (b c : BankData) (stores : List Store) (later : List Update) → AllByRecursion (IsSame b c) stores → HoldsWords d b stores later → HoldsWords d c stores later
holds-same d b c stores later h k = record {
  each = All-from_recursion (IsStore d c) stores (all-with (IsSame b c) (IsStore d b) (IsStore d c) (λ x s t. store-same d b c x s t) stores h (recursion_from_All (IsStore d b) stores k.each));
  words = λ base m j fine i lt. k.words base m j fine i lt ∙ sym (by-same b c stores m j (slice_index (words_of base m) j) h);
}

-- ---- stores and sites

-- the registers of a store hold what the slots of a site of the same memory hold
pub record IsOf (b : BankData) (l : ListData) (c : BankData) (x : Store) (s : Site) : Type 0 where
  pub memory : x.memory ≡ s.memory
  pub enable : slice_index c.regs (enable_register x) ≡ held b l s.enable
  pub word : slice_index c.regs (word_register x) ≡ held b l s.word
  pub value : slice_index c.regs (value_register x) ≡ held b l s.value
  pub mask : slice_index c.regs (mask_register x) ≡ held b l s.mask

pub by-sites : (b : BankData) (l : ListData) (c : BankData) (xs : List Store) (ss : List Site) (m j v : ℕ) → EachHas (IsOf b l c) xs ss → stored_by c xs m j v ≡ stored b l ss m j v
by-sites b l c [] [] m j v h = refl
by-sites b l c [] (s ∷ ss) m j v h = absurd h
by-sites b l c (x ∷ xs) [] m j v h = absurd h
by-sites b l c (x ∷ xs) (s ∷ ss) m j v h =
    by-sites b l c xs ss m j (if writes_word c x m j then masked v (slice_index c.regs (value_register x)) (slice_index c.regs (mask_register x)) else v) h.1
    ∙ ap (stored b l ss m j) (put-same x.memory s.memory m j v _ _ _ _ _ _ _ _ h.0.memory h.0.enable h.0.word h.0.value h.0.mask)
