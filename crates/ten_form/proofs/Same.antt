-- Stores whose registers hold the same on two banks.
use Rattle.std.proofs.Common.{◌≡◌, ℕ, ◌^◌, ◌<◌, ◌≤◌, ◌+◌, Bool, true, false, List, [], ◌∷◌, refl, sym, ap, ◌∙◌, subst, arith}
use Rattle.std.specs.Prelude.{◌==◌, not, ◌&&◌, if◌then◌else◌, slice_index}
use Rattle.std.specs.List.{AllByRecursion}
use Rattle.std.proofs.lemmas.List.Elements.{recursion_from_All, All-from_recursion}
use Rattle.vl_design.specs.Syntax.{Flat}
use Rattle.vl_design.specs.Width.{signal_form}
use Rattle.vl_design.specs.Value.{words_of}
use Rattle.vl_design.specs.State.{Update}
use Rattle.cell_emit.specs.cell_form.specs.Cycle.{masked}
use Rattle.cell_emit.specs.cell_form.specs.Data.{BankData}
use Rattle.sub_split.specs.sub_nodes.specs.Nodes.{Node}
use Rattle.ten_form.specs.declared.store.Store.{Store}
use Rattle.ten_form.specs.Holding.{enable_register, word_register, value_register, mask_register, writes_word, stored_by, IsStore, IsIdle, HoldsWords}
use Rattle.ten_form.specs.Stores.{words_down, stores_from, stores_of, stores_below}
pub use Rattle.vl_design.specs.vl_base.proofs.Lists.{all_weaker as all-from, all_with as all-with}
pub use Rattle.vl_design.specs.vl_base.proofs.Numbers.{lt_subst as below-as}

-- ---- lists

-- ---- one write

-- word j of memory m of the value v, behind a write to word k of memory n where e isn't 0
abbrev pub put : ℕ → ℕ → ℕ → ℕ → ℕ → ℕ → ℕ → ℕ → ℕ
put n m j v e k new mask = if (n == m) && (not (e == 0) && (k == j)) then masked v new mask else v

pub put-same : (n0 n1 m j v e0 e1 k0 k1 new0 new1 mask0 mask1 : ℕ) → n0 ≡ n1 → e0 ≡ e1 → k0 ≡ k1 → new0 ≡ new1 → mask0 ≡ mask1 → put n0 m j v e0 k0 new0 mask0 ≡ put n1 m j v e1 k1 new1 mask1
put-same n0 n1 m j v e0 e1 k0 k1 new0 new1 mask0 mask1 n e k new mask =
    ap (λ x. put x m j v e0 k0 new0 mask0) n ∙ ap (λ x. put n1 m j v x k0 new0 mask0) e ∙ ap (λ x. put n1 m j v e1 x new0 mask0) k
    ∙ ap (λ x. put n1 m j v e1 k1 x mask0) new ∙ ap (λ x. put n1 m j v e1 k1 new1 x) mask

put-none : (n m j v e k new mask : ℕ) → e ≡ 0 → put n m j v e k new mask ≡ v
put-none n m j v e k new mask z = ap (λ x. put n m j v x k new mask) z ∙ of (n == m)
  where
    of : (c : Bool) → (if c && false then masked v new mask else v) ≡ v
    of true = refl
    of false = refl

-- ---- stores whose registers hold the same on two banks

pub record IsSame (b c : BankData) (x : Store) : Type 0 where
  pub enable : slice_index c.regs (enable_register x) ≡ slice_index b.regs (enable_register x)
  pub word : slice_index c.regs (word_register x) ≡ slice_index b.regs (word_register x)
  pub value : slice_index c.regs (value_register x) ≡ slice_index b.regs (value_register x)
  pub mask : slice_index c.regs (mask_register x) ≡ slice_index b.regs (mask_register x)

pub by-same : (b c : BankData) (xs : List Store) (m j v : ℕ) → AllByRecursion (IsSame b c) xs → stored_by c xs m j v ≡ stored_by b xs m j v
by-same b c [] m j v h = refl
by-same b c (x ∷ xs) m j v h =
    by-same b c xs m j (if writes_word c x m j then masked v (slice_index c.regs (value_register x)) (slice_index c.regs (mask_register x)) else v) h.1
    ∙ ap (stored_by b xs m j) (put-same x.memory x.memory m j v _ _ _ _ _ _ _ _ refl h.0.enable h.0.word h.0.value h.0.mask)

pub store-same : (d : Flat) (b c : BankData) (x : Store) → IsSame b c x → IsStore d b x → IsStore d c x
store-same d b c x h k = record {
  memory = k.memory;
  enable = below-as _ _ 2 h.enable k.enable;
  word = below-as _ _ (2 ^ 32) h.word k.word;
  value = below-as _ _ (2 ^ (signal_form d.rows x.memory).width) h.value k.value;
  mask = below-as _ _ (2 ^ (signal_form d.rows x.memory).width) h.mask k.mask;
}

pub holds-same : (d : Flat) (b c : BankData) (stores : List Store) (later : List Update) → AllByRecursion (IsSame b c) stores → HoldsWords d b stores later → HoldsWords d c stores later
holds-same d b c stores later h k = record {
  each = All-from_recursion (IsStore d c) stores (all-with (IsSame b c) (IsStore d b) (IsStore d c) (λ x s t. store-same d b c x s t) stores h (recursion_from_All (IsStore d b) stores k.each));
  words = λ base m j fine i lt. k.words base m j fine i lt ∙ sym (by-same b c stores m j (slice_index (words_of base m) j) h);
}

-- ---- stores behind a register

pub stores-behind : (r : ℕ) (ms : List ℕ) → AllByRecursion (λ x. r ≤ x.first) (stores_from r ms)
stores-behind r [] = tt
stores-behind r (m ∷ ms) = (omega arith, all-from (λ x. r + 4 ≤ x.first) (λ x. r ≤ x.first) (λ x h. omega (arith, h)) (stores_from (r + 4) ms) (stores-behind (r + 4) ms))

module _ (b c : BankData) (from : ℕ) (same : (r : ℕ) → from ≤ r → slice_index c.regs r ≡ slice_index b.regs r) where
  pub same-behind : (x : Store) → from ≤ x.first → IsSame b c x
  same-behind x h = record {
    enable = same (enable_register x) h;
    word = same (word_register x) (omega (arith, h));
    value = same (value_register x) (omega (arith, h));
    mask = same (mask_register x) (omega (arith, h));
  }

  -- banks that have the same registers from there on hold the same words pending, and have the same stores idle
  pub holds-behind : (d : Flat) (stores : List Store) (later : List Update) → AllByRecursion (λ x. from ≤ x.first) stores → HoldsWords d b stores later → HoldsWords d c stores later
  holds-behind d stores later h k = holds-same d b c stores later (all-from (λ x. from ≤ x.first) (IsSame b c) same-behind stores h) k

  pub idle-behind : (stores : List Store) → AllByRecursion (λ x. from ≤ x.first) stores → AllByRecursion (IsIdle b) stores → AllByRecursion (IsIdle c) stores
  idle-behind stores h k = all-with (λ x. from ≤ x.first) (IsIdle b) (IsIdle c) (λ x l i. same (enable_register x) l ∙ i) stores h k
