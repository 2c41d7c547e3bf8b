-- A value that is read at a width.
use Rattle.std.proofs.Common.{◌≡◌, ℕ, ◌+◌, ◌^◌, ◌%◌, Bool, false, refl, ap, ◌∙◌, subst, arith}
use Rattle.std.specs.Prelude.{ℤ, ◌-ℤ◌, ◌+ℤ◌, pos, [], slice_index_or}
use Rattle.std.proofs.Math.Nat.{mod-eq_of_lt}
use Rattle.std.proofs.Math.IntN.{+ℤ_idr}
use Rattle.vl_base.specs.Value.{reading, resized}
use Rattle.vl_base.specs.Selects.{picked}
use Rattle.vl_base.proofs.Congruent.{wrapped-below}
use Rattle.vl_sites.specs.vl_design.specs.declared.design.LowestBit.{LowestBit}
use Rattle.vl_sites.specs.vl_design.specs.Value.{lowest_bit}
use Rattle.cell_form.specs.Data.{ListData, BankData}
use Rattle.cell_form.specs.Sound.{Shape}
use Rattle.cell_form.specs.Values.{whole, word_at}
use Rattle.cell_form.specs.Values as cell
use Rattle.cell_emit.specs.Slots.{slot, held, width_at, AreSound, Gives, Nothing}
use Rattle.cell_emit.proofs.Frames.{Met, slot-width, gives-weaken, gives-as, gives-behind}
use Rattle.cell_emit.specs.Counts.{resizes}

-- a slot that is resized
pub resized-behind : (Has : Shape → Type 0) (n : ℕ) (a b c : ListData) (i r own width : ℕ) (signed : Bool) (f : BankData → ℕ) → Met Has → Gives Has n a b i own f →
    Gives Nothing (resizes (width_at b i) width) b c r width (λ x. resized signed (width_at b i) width (held x b i)) →
    Gives Has (n + resizes own width) a c r width (λ x. resized signed own width (f x))
resized-behind Has n a b c i r own width signed f met g h =
    let m = resizes (width_at b i) width in
    let k : Gives Has m b c r width (λ x. resized signed (width_at b i) width (held x b i))
    = gives-weaken Nothing Has m m b c r width (λ x. resized signed (width_at b i) width (held x b i)) (λ s has. tt) (omega arith) h in
    let all = gives-behind Has n m a b c r width (λ x. resized signed (width_at b i) width (held x b i)) met g.longer k in
    let said = gives-as Has (n + m) a c r width width (λ x. resized signed (width_at b i) width (held x b i)) (λ x. resized signed own width (f x)) refl
    (λ s x sound. ap (λ w. resized signed w width (held x b i)) g.width ∙ ap (resized signed own width) (g.value s x sound)) all in
    let F : ℕ → Type 0 = λ w. Gives Has (n + resizes w width) a c r width (λ x. resized signed own width (f x)) in
    subst F g.width said

-- what is resized fits
pub resized-small : (signed : Bool) (own width value : ℕ) → resized signed own width value % 2 ^ width ≡ resized signed own width value
resized-small signed own width value = mod-eq_of_lt (wrapped-below width (reading signed own value))

-- the number of an index by its slot's width
pub selected : (old new : ListData) (i base index own : ℕ) (signed : Bool) (from : LowestBit) (k : ℤ) → k ≡ from.constant →
    Gives Nothing 1 old new i own (λ b. picked (width_at old base) (held b old base) (cell.lowest_bit (record { signed = signed; taken = from.taken }) k (slot b old index)) own) →
    Gives Nothing 1 old new i own (λ b. picked (width_at old base) (held b old base) (lowest_bit from (reading signed (width_at old index) (held b old index))) own)
selected old new i base index own signed from k same g =
    gives-as Nothing 1 old new i own own
    (λ b. picked (width_at old base) (held b old base) (cell.lowest_bit (record { signed = signed; taken = from.taken }) k (slot b old index)) own)
    (λ b. picked (width_at old base) (held b old base) (lowest_bit from (reading signed (width_at old index) (held b old index))) own) refl
    (λ s b sound.
    ap (λ z. picked (width_at old base) (held b old base) (cell.lowest_bit (record { signed = signed; taken = from.taken }) z (slot b old index)) own) same
    ∙ ap (λ w. picked (width_at old base) (held b old base) (lowest_bit from (reading signed w (held b old index))) own) (slot-width b old index)) g

-- an index of 0
pub sliced : (old new : ListData) (i base here own : ℕ) (low k : ℤ) → k ≡ low → ((s : Shape) (b : BankData) → AreSound s old → held b old here ≡ 0) →
    Gives Nothing 1 old new i own (λ b. picked (width_at old base) (held b old base) (cell.lowest_bit (record { signed = false; taken = false }) k (slot b old here)) own) →
    Gives Nothing 1 old new i own (λ b. picked (width_at old base) (held b old base) low own)
sliced old new i base here own low k same zero g =
    gives-as Nothing 1 old new i own own
    (λ b. picked (width_at old base) (held b old base) (cell.lowest_bit (record { signed = false; taken = false }) k (slot b old here)) own)
    (λ b. picked (width_at old base) (held b old base) low own) refl
    (λ s b sound. ap (λ z. picked (width_at old base) (held b old base) z own) (ap (λ n. k +ℤ pos n) (zero s b sound) ∙ +ℤ_idr k ∙ same)) g

-- the number of an address by its slot's width
pub found-word : (Has : Shape → Type 0) (old new : ListData) (i memory address own : ℕ) (signed : Bool) (lowest k : ℤ) → k ≡ lowest →
    Gives Has 1 old new i own (λ b. word_at (slice_index_or b.mems memory []) (whole signed (slot b old address) -ℤ k) % 2 ^ own) →
    Gives Has 1 old new i own (λ b. word_at (slice_index_or b.mems memory []) (reading signed (width_at old address) (held b old address) -ℤ lowest) % 2 ^ own)
found-word Has old new i memory address own signed lowest k same g =
    gives-as Has 1 old new i own own
    (λ b. word_at (slice_index_or b.mems memory []) (whole signed (slot b old address) -ℤ k) % 2 ^ own)
    (λ b. word_at (slice_index_or b.mems memory []) (reading signed (width_at old address) (held b old address) -ℤ lowest) % 2 ^ own) refl
    (λ s b sound.
    ap (λ z. word_at (slice_index_or b.mems memory []) (whole signed (slot b old address) -ℤ z) % 2 ^ own) same
    ∙ ap (λ w. word_at (slice_index_or b.mems memory []) (reading signed w (held b old address) -ℤ lowest) % 2 ^ own) (slot-width b old address)) g
