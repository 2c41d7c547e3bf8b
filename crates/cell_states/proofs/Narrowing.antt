-- States set registers from slots that are at most as wide.
use Rattle.std.proofs.Common.{◌≡◌, ℕ, zero, suc, ◌+◌, ◌*◌, ◌<◌, ◌≤◌, Bool, true, false, List, [], ◌∷◌, ◌++◌, length, map, Option, Some, None, refl, sym, ap, ◌∙◌, arith}
use Rattle.std.specs.Prelude.{◌&&◌, nat_lt, slice_get, slice_index, if◌then◌else◌}
use Rattle.std.specs.List.{AllByRecursion, flat_map}
use Rattle.std.proofs.lemmas.Bool.{true≢false}
use Rattle.std.proofs.lemmas.Option.{none-some, same_Some}
use Rattle.vl_design.specs.Rows.{has_width}
use Rattle.vl_design.specs.Sound.{HasValue, IsOf}
use Rattle.vl_design.specs.Syntax.{Row, Flat}
use Rattle.vl_design.specs.Width.{names_of, row_form, signal_form}
use Rattle.cell_emit.specs.cell_form.specs.Data.{ListData}
use Rattle.cell_emit.specs.Slots.{width_at}
use Rattle.cell_emit.specs.Envs.{IsEntry}
use Rattle.cell_emit.specs.declared.pending.Site.{Site}
use Rattle.cell_emit.specs.Pendings.{memories_of, IsSite}
use Rattle.ten_form.specs.declared.store.Store.{Store}
use Rattle.ten_form.specs.Holding.{enable_register, word_register, value_register, mask_register}
use Rattle.ten_form.specs.Stores.{stores_from, words_down}
use Rattle.ten_form.specs.Banks.{cell_nodes, stores_in}
use Rattle.ten_form.specs.Registers.{register_count}
use Rattle.ten_form.specs.Delays.{is_delayed}
use Rattle.cell_waves.specs.Copies.{is_written, has_copy, slot_or}
use Rattle.cell_waves.specs.Keeping.{each_written, keep_writes}
use Rattle.cell_waves.specs.Applying.{apply_writes}
use Rattle.cell_trim.specs.Widths.{IsWithin}
use Rattle.cell_states.specs.Widths.{copy_width, pending_width, row_widths, rows_widths, store_widths, register_widths, register_width}
use Rattle.vl_design.specs.vl_base.proofs.Booleans.{and_left as both-left}

-- ---- lists of four for each

four-on : (k c : ℕ) → 4 * suc k + c ≡ suc (suc (suc (suc (4 * k + c))))
four-on k c = omega arith

module _ (d : Flat) where
  -- those of a row
  row-at : (j n : ℕ) (rows : List Row) (more : List ℕ) (k c : ℕ) (r : Row) → slice_get rows k ≡ Some r → n ≡ j + k → c < 4 → slice_index (rows_widths d j rows ++ more) (4 * k + c) ≡ slice_index (row_widths d n r) c
  row-at j n [] more k c r at is lt = absurd (none-some r at)
  row-at j n (x ∷ rows) more zero zero r at is lt = ap (copy_width 3) (same_Some x r at)
  row-at j n (x ∷ rows) more zero (suc zero) r at is lt = ap (copy_width 4) (same_Some x r at)
  row-at j n (x ∷ rows) more zero (suc (suc zero)) r at is lt = ap (pending_width d j 5) (same_Some x r at) ∙ ap (λ i. pending_width d i 5 r) (let e : j ≡ n = omega (arith, is) in e)
  row-at j n (x ∷ rows) more zero (suc (suc (suc zero))) r at is lt = ap (pending_width d j 6) (same_Some x r at) ∙ ap (λ i. pending_width d i 6 r) (let e : j ≡ n = omega (arith, is) in e)
  row-at j n (x ∷ rows) more zero (suc (suc (suc (suc c)))) r at is lt = absurd (omega (arith, lt))
  row-at j n (x ∷ rows) more (suc k) c r at is lt =
      ap (slice_index (rows_widths d j (x ∷ rows) ++ more)) (four-on k c) ∙ row-at (j + 1) n rows more k c r at (let e : n ≡ j + 1 + k = omega (arith, is) in e) lt

  -- those behind all rows
  rows-behind : (k : ℕ) (rows : List Row) (more : List ℕ) (j : ℕ) → slice_index (rows_widths d k rows ++ more) (4 * length rows + j) ≡ slice_index more j
  rows-behind k [] more j = ap (slice_index more) (let e : 4 * 0 + j ≡ j = omega arith in e)
  rows-behind k (x ∷ rows) more j = ap (slice_index (rows_widths d k (x ∷ rows) ++ more)) (four-on (length rows) j) ∙ rows-behind (k + 1) rows more j

  -- the width of a copy by its number; a pending one where the signal is delayed
  copy-at : (k : ℕ) (r : Row) (c : ℕ) → c < 4 → (nat_lt 4 (suc (suc (suc c))) ≡ true → is_delayed d k ≡ true) → slice_index (row_widths d k r) c ≡ copy_width (suc (suc (suc c))) r
  copy-at k r zero lt late = refl
  copy-at k r (suc zero) lt late = refl
  copy-at k r (suc (suc zero)) lt late = ap (λ t. if t then copy_width 5 r else 0) (late refl)
  copy-at k r (suc (suc (suc zero))) lt late = ap (λ t. if t then copy_width 6 r else 0) (late refl)
  copy-at k r (suc (suc (suc (suc c)))) lt late = absurd (omega (arith, lt))

three-on : (n c : ℕ) → n + suc (suc (suc c)) ≡ suc (suc (suc (n + c)))
three-on n c = omega arith

-- an entry's slot, or one of a bit
pub entry-width : (l : ListData) (here w : ℕ) (e : Option ℕ) → width_at l here ≡ 1 → 1 ≤ w → IsEntry l w e → width_at l (slot_or here e) ≤ w
entry-width l here w None one wide h = omega (arith, one, wide)
entry-width l here w (Some r) one wide h = (let e = h.width in omega (arith, e))

-- a signal that has a value has a bit
pub one-bit : (rows : List Row) (k : ℕ) → IsOf HasValue (slice_get rows k) → 1 ≤ (signal_form rows k).width
one-bit rows k = of (slice_get rows k)
  where
    of : (o : Option Row) → IsOf HasValue o → 1 ≤ (row_form o).width
    of None h = absurd h
    of (Some r) h = h.1.wide

-- ---- the registers of a design

module _ (d : Flat) where
  abbrev stores : List ℕ
  stores = flat_map (store_widths d.rows) (stores_in d)

  copy-is : (k c : ℕ) (r : Row) → slice_get d.rows k ≡ Some r → c < 4 → (nat_lt 4 (suc (suc (suc c))) ≡ true → is_delayed d k ≡ true) → register_width d (4 * k + suc (suc (suc c))) ≡ copy_width (suc (suc (suc c))) r
  copy-is k c r at lt late = ap (slice_index (register_widths d)) (three-on (4 * k) c) ∙ (row-at d 0 k d.rows stores k c r at (let e : k ≡ 0 + k = omega arith in e) lt ∙ copy-at d k r c lt late)

  -- a register of a signal that is set is as wide as the signal
  pub signal-width : (copy k : ℕ) → 3 ≤ copy → copy ≤ 6 → (nat_lt 4 copy ≡ true → is_delayed d k ≡ true) → is_written copy (slice_get d.rows k) ≡ true → register_width d (4 * k + copy) ≡ (signal_form d.rows k).width
  signal-width zero k low high late h = absurd (omega (arith, low))
  signal-width (suc zero) k low high late h = absurd (omega (arith, low))
  signal-width (suc (suc zero)) k low high late h = absurd (omega (arith, low))
  signal-width (suc (suc (suc c))) k low high late h = of (slice_get d.rows k) refl h
    where
      of : (o : Option Row) → slice_get d.rows k ≡ o → is_written (suc (suc (suc c))) o ≡ true → register_width d (4 * k + suc (suc (suc c))) ≡ (signal_form d.rows k).width
      of None at h = absurd (true≢false (sym h))
      of (Some r) at h =
          let b = both-left (has_copy (suc (suc (suc c))) r.kind) (has_width r.width) h in
          copy-is k c r at (omega (arith, high)) late ∙ ap (λ t. if t then r.width else 0) b ∙ sym (ap (λ o. (row_form o).width) at)

  -- ---- stores

  pub record HasWidths (x : Store) : Type 0 where
    pub enable : register_width d (enable_register x) ≡ 1
    pub word : register_width d (word_register x) ≡ 32
    pub value : register_width d (value_register x) ≡ (signal_form d.rows x.memory).width
    pub mask : register_width d (mask_register x) ≡ (signal_form d.rows x.memory).width

  -- where their widths stand in the list
  have-widths : (ms : List ℕ) (r : ℕ) → ((j : ℕ) → register_width d (r + j) ≡ slice_index (flat_map (store_widths d.rows) (stores_from r ms)) j) → AllByRecursion HasWidths (stores_from r ms)
  have-widths [] r h = tt
  have-widths (m ∷ ms) r h = (
    record { enable = ap (register_width d) (let e : r ≡ r + 0 = omega arith in e) ∙ h 0; word = h 1; value = h 2; mask = h 3 },
    have-widths ms (r + 4) (λ j. ap (register_width d) (let e : r + 4 + j ≡ r + suc (suc (suc (suc j))) = omega arith in e) ∙ h (suc (suc (suc (suc j))))),
  )

  behind-signals : (j : ℕ) → register_width d (register_count (length d.rows) + j) ≡ slice_index stores j
  behind-signals j =
      ap (slice_index (register_widths d)) (let e : register_count (length d.rows) + j ≡ suc (suc (suc (4 * length d.rows + j))) = omega arith in e) ∙ rows-behind d 0 d.rows stores j

  pub stores-widths : AllByRecursion HasWidths (stores_in d)
  stores-widths = have-widths (words_down (cell_nodes d)) (register_count (length d.rows)) behind-signals

  -- what is kept in them
  pub keep-within : (l : ListData) (xs : List Store) (ss : List Site) → AllByRecursion HasWidths xs → map (λ (x : Store). x.memory) xs ≡ memories_of ss → AllByRecursion (IsSite (names_of d) l) ss →
      AllByRecursion (IsWithin (register_width d) l) (each_written keep_writes xs ss)
  keep-within l [] ss h e k = tt
  keep-within l (x ∷ xs) [] h e k = tt
  keep-within l (x ∷ xs) (s ∷ ss) h e k =
      let here : x.memory ≡ s.memory = cc in
      let more : map (λ (y : Store). y.memory) xs ≡ map (λ (t : Site). t.memory) ss = cc in
      let a = h.0.enable in
      let b = h.0.word in
      let c = h.0.value in
      let f = h.0.mask in
      let p = k.0.enable.width in
      let q = k.0.word.width in
      let u = k.0.value.width in
      let v = k.0.mask.width in
      let same = ap (λ m. (signal_form d.rows m).width) here in
      (omega (arith, a, p), (omega (arith, b, q), (omega (arith, c, u, same), (omega (arith, f, v, same), keep-within l xs ss h.1 more k.1))))

  -- and their update
  pub apply-within : (l : ListData) (here : ℕ) (xs : List Store) (ss : List Site) → width_at l here ≡ 1 → AllByRecursion HasWidths xs → AllByRecursion (IsWithin (register_width d) l) (each_written (apply_writes here) xs ss)
  apply-within l here [] ss e h = tt
  apply-within l here (x ∷ xs) [] e h = tt
  apply-within l here (x ∷ xs) (s ∷ ss) e h = (tt, ((let a = h.0.enable in omega (arith, a, e)), apply-within l here xs ss e h.1))
