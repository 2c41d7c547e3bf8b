-- The operands of a cell behind others whose slots have their values.
use Rattle.std.proofs.Common.{◌≡◌, ℕ, Bool, true, ◌+◌, ◌-◌, ◌%◌, ◌^◌, ◌<◌, ◌≤◌, List, length, map, get_or, sym, ap, ◌∙◌, arith, subst}
use Rattle.std.specs.Prelude.{slice_index}
use Rattle.std.proofs.Math.Pow.{pow_mono}
use Rattle.std.proofs.Math.Nat.{mod-eq_of_lt}
use Rattle.std.proofs.lemmas.List.{length-map, get_or-map}
use Rattle.vl_base.specs.declared.bits.UnOp.{UnOp}
use Rattle.vl_base.specs.declared.bits.BinOp.{BinOp}
use Rattle.vl_base.specs.Value.{unary_width, binary_width, needs_one_width}
use Rattle.vl_base.proofs.Wrapping.{not-mod}
use Rattle.cell_form.specs.declared.cell.Cell.{Cell}
use Rattle.cell_form.specs.declared.cell.CellOp.TheVariants.{Un, Bin}
use Rattle.cell_form.specs.Data.{CellData, BankData}
use Rattle.cell_form.specs.Views.{cell_of}
use Rattle.cell_form.specs.Values.{Slot, slot_at, slots_of, operands}
use Rattle.cell_form.specs.Sound.{IsAmong, IsCell, IsFit, Makes, shape_of}
use Rattle.cell_form.proofs.Slots.{width-at, operand-widths, slots-length, slots-widths}
use Rattle.cell_form.proofs.Fitting.{all-at, slots-fit}
use Rattle.cell_eval.specs.Holds.{Holds, widths_of}

-- the width of a cell in the code's list
pub cell-width : (xs : List Cell) (i : ℕ) (d : Cell) → i < length xs → (get_or xs i d).width ≡ slice_index (widths_of (map cell_of xs)) i
cell-width xs i d lt =
    let long : i < length (map cell_of xs) = omega (arith, length-map xs cell_of) in
    sym (get_or-map (λ (c : CellData). c.width) (map cell_of xs) i (cell_of d) 0 long ∙ ap (λ (c : CellData). c.width) (get_or-map cell_of xs i d (cell_of d) lt))

-- where an operand is found, and what it is
pub record Found (first : ℕ) (b : BankData) (earlier : List CellData) (args : List ℕ) (place a : ℕ) : Type 0 where
  pub low : first ≤ a
  pub high : a < first + length earlier
  pub there : a < length b.slots
  pub wide : 1 ≤ slice_index (widths_of earlier) (a - first)
  pub narrow : slice_index (widths_of earlier) (a - first) ≤ 128
  pub fits : slice_index b.slots a < 2 ^ slice_index (widths_of earlier) (a - first)
  pub value : slice_index b.slots a ≡ (slot_at (operands first (slots_of first b.regs b.mems earlier) args) place).value
  pub width : slice_index (widths_of earlier) (a - first) ≡ (slot_at (operands first (slots_of first b.regs b.mems earlier) args) place).width

pub operand-found : (first : ℕ) (b : BankData) (earlier : List CellData) (c : CellData) (place a : ℕ) → Holds first b earlier → IsCell (shape_of b) first (widths_of earlier) c → place < length c.args → a ≡ slice_index c.args place → Found first b earlier c.args place a
operand-found first b earlier c place a h cell lt e =
    let s = slots_of first b.regs b.mems earlier in
    let none : Slot = record { value = 0; width = 0 } in
    let among : IsAmong first (length (widths_of earlier)) (slice_index c.args place) = all-at (IsAmong first (length (widths_of earlier))) c.args place 0 lt cell.args in
    let many = length-map earlier (λ (x : CellData). x.width) in
    let low : first ≤ a = omega (arith, among.0, e) in
    let high : a < first + length earlier = omega (arith, among.1, e, many) in
    let short : a - first < length earlier = omega arith in
    let there : a - first < length s = omega (arith, slots-length first b.regs b.mems earlier) in
    let fit : IsFit (slot_at s (a - first)) = all-at IsFit s (a - first) none there (slots-fit (shape_of b) first b.regs b.mems earlier h.sound) in
    let same : slot_at (operands first s c.args) place ≡ slot_at s (a - first) = get_or-map (λ (i : ℕ). slot_at s (i - first)) c.args place 0 none lt ∙ ap (λ i. slot_at s (i - first)) (sym e) in
    let up : first + (a - first) ≡ a = omega arith in
    let value : slice_index b.slots a ≡ (slot_at s (a - first)).value = ap (slice_index b.slots) (sym up) ∙ h.values (a - first) short in
    let width : slice_index (widths_of earlier) (a - first) ≡ (slot_at s (a - first)).width = ap (λ ws. slice_index ws (a - first)) (sym (slots-widths first b.regs b.mems earlier)) ∙ sym (width-at s (a - first)) in
    record {
      low = low;
      high = high;
      there = omega (arith, h.within);
      wide = rw width fit.wide;
      narrow = rw width fit.narrow;
      fits = rw (value, width) fit.fits;
      value = value ∙ ap (λ (x : Slot). x.value) (sym same);
      width = width ∙ ap (λ (x : Slot). x.width) (sym same);
    }

-- the widths of the operands are ones that the operation takes
pub operands-make : (first : ℕ) (b : BankData) (earlier : List CellData) (c : CellData) → IsCell (shape_of b) first (widths_of earlier) c → Makes c.op c.width (map (λ (x : Slot). x.width) (operands first (slots_of first b.regs b.mems earlier) c.args))
operands-make first b earlier c cell =
    let s = slots_of first b.regs b.mems earlier in
    let M : List ℕ → Type 0 = λ ws. Makes c.op c.width ws in
    let e : map (λ (a : ℕ). slice_index (widths_of earlier) (a - first)) c.args ≡ map (λ (x : Slot). x.width) (operands first s c.args)
    = ap (λ (ws : List ℕ). map (λ (a : ℕ). slice_index ws (a - first)) c.args) (sym (slots-widths first b.regs b.mems earlier)) ∙ sym (operand-widths first s c.args) in
    subst M e cell.makes

-- the width of the value of an operator is the cell's
pub one-width : (first : ℕ) (b : BankData) (earlier : List CellData) (c : CellData) (op : UnOp) → c.op ≡ Un op → IsCell (shape_of b) first (widths_of earlier) c → c.width ≡ unary_width op (slot_at (operands first (slots_of first b.regs b.mems earlier) c.args) 0).width
one-width first b earlier c op e cell =
    let xs = operands first (slots_of first b.regs b.mems earlier) c.args in
    let makes = rw e at (operands-make first b earlier c cell) in
    makes ∙ ap (unary_width op) (sym (width-at xs 0))

pub two-width : (first : ℕ) (b : BankData) (earlier : List CellData) (c : CellData) (op : BinOp) (signed : Bool) → c.op ≡ Bin op signed → IsCell (shape_of b) first (widths_of earlier) c → c.width ≡ binary_width op (slot_at (operands first (slots_of first b.regs b.mems earlier) c.args) 0).width
two-width first b earlier c op signed e cell =
    let xs = operands first (slots_of first b.regs b.mems earlier) c.args in
    let makes = rw e at (operands-make first b earlier c cell) in
    makes.0 ∙ ap (binary_width op) (sym (width-at xs 0))

-- operands of one width
pub two-widths : (first : ℕ) (b : BankData) (earlier : List CellData) (c : CellData) (op : BinOp) (signed : Bool) → c.op ≡ Bin op signed → IsCell (shape_of b) first (widths_of earlier) c → needs_one_width op ≡ true → (slot_at (operands first (slots_of first b.regs b.mems earlier) c.args) 0).width ≡ (slot_at (operands first (slots_of first b.regs b.mems earlier) c.args) 1).width
two-widths first b earlier c op signed e cell n =
    let xs = operands first (slots_of first b.regs b.mems earlier) c.args in
    let makes = rw e at (operands-make first b earlier c cell) in
    width-at xs 0 ∙ makes.1 n ∙ sym (width-at xs 1)

-- each bit of a number turned, cut to the width of the number
pub turned-cut : (w x : ℕ) → w ≤ 128 → x < 2 ^ w → (340282366920938463463374607431768211455 - x) % 2 ^ w ≡ (2 ^ w - 1) - x
turned-cut w x h b =
    let j : (128 - w) + w ≡ 128 = omega arith in
    let mono : 2 ^ w ≤ 2 ^ 128 = pow_mono {j = 128} h in
    let big : x < 2 ^ 128 = omega (arith, b, mono) in
    let P : ℕ → Type 0 = λ n. x < 2 ^ n → ((2 ^ n - 1) - x) % 2 ^ w ≡ (2 ^ w - 1) - x % 2 ^ w in
    let all = subst P j (not-mod x (128 - w) w) in
    all big ∙ ap (λ n. (2 ^ w - 1) - n) (mod-eq_of_lt b)
