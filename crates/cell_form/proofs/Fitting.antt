-- Slots have values of their widths.
use Rattle.std.proofs.Common.{◌≡◌, ℕ, zero, suc, ◌+◌, ◌-◌, ◌^◌, ◌<◌, Bool, true, false, List, [], ◌∷◌, ◌++◌, length, map, take, drop, get_or, sym, ap, ◌∙◌, arith, subst, append_assoc}
use Rattle.std.specs.Prelude.{ℤ, pos, negsuc, if◌then◌else◌, ◌==◌}
use Rattle.std.specs.List.{AllByRecursion}
use Rattle.std.proofs.Math.Pow.{pow_pos}
use Rattle.std.proofs.lemmas.Nat.{mod_below}
use Rattle.std.proofs.lemmas.List.{append-nil, map_push, length-map, take-append-drop, drop_more}
use Rattle.vl_base.specs.Selects.{picked, placed, appended}
use Rattle.vl_base.specs.Value.{reading, unary_width, binary_width}
use Rattle.vl_base.proofs.Bounds.{unary-below, binary-below}
use Rattle.vl_base.proofs.Congruent.{wrapped-below}
use Rattle.vl_base.proofs.Parts.{joined-below}
use Rattle.cell_form.specs.declared.cell.CellOp.{CellOp}
use Rattle.cell_form.specs.declared.cell.CellOp.TheVariants as o
use Rattle.cell_form.specs.Data.{CellData}
use Rattle.cell_form.specs.Values.{Slot, slot_at, lowest_bit, found, applied, operands, cell_slot, slots_behind, slots_of}
use Rattle.cell_form.specs.Sound.{Shape, IsAmong, Makes, arity, IsCell, AreCells, IsFit}
use Rattle.cell_form.proofs.Slots.{width-at, operand-widths}
use Rattle.vl_base.proofs.Shared.{picked-below as picked-small}
pub use Rattle.vl_base.proofs.Lists.{all_push as all-push, all_at as all-at}
use Rattle.vl_base.proofs.Bounds.{placed-below as placed-small}

-- ---- lists of cells

-- the cells of a list are well-formed in front, and behind
pub cells-before : (s : Shape) (first : ℕ) (ws : List ℕ) (xs ys : List CellData) → AreCells s first ws (xs ++ ys) → AreCells s first ws xs × AreCells s first (ws ++ map (λ (c : CellData). c.width) xs) ys
cells-before s first ws [] ys h =
    let F : List ℕ → Type 0 = λ vs. AreCells s first vs ys in
    (tt, subst F (sym (append-nil ws)) h)
cells-before s first ws (x ∷ xs) ys h =
    let r = cells-before s first (ws ++ x.width ∷ []) xs ys h.1 in
    let F : List ℕ → Type 0 = λ vs. AreCells s first vs ys in
    ((h.0, r.0), subst F (append_assoc ws (x.width ∷ []) (map (λ (c : CellData). c.width) xs)) r.1)

-- the cells before one, and this one behind them
pub cell-among : (s : Shape) (first : ℕ) (cells : List CellData) (i : ℕ) (d : CellData) → i < length cells → AreCells s first [] cells → AreCells s first [] (take i cells) × IsCell s first (map (λ (c : CellData). c.width) (take i cells)) (get_or cells i d)
cell-among s first cells i d lt h =
    let split : cells ≡ take i cells ++ get_or cells i d ∷ drop (i + 1) cells = sym (take-append-drop i cells) ∙ ap (λ ys. take i cells ++ ys) (drop_more cells i d lt) in
    let F : List CellData → Type 0 = λ ys. AreCells s first [] ys in
    let r = cells-before s first [] (take i cells) (get_or cells i d ∷ drop (i + 1) cells) (subst F split h) in
    (r.0, r.1.0)

-- ---- operands

operands-fit : (first : ℕ) (earlier : List Slot) (args : List ℕ) → AllByRecursion IsFit earlier → AllByRecursion (IsAmong first (length earlier)) args → AllByRecursion IsFit (operands first earlier args)
operands-fit first earlier [] fit among = tt
operands-fit first earlier (a ∷ args) fit among = (
  all-at IsFit earlier (a - first) (record { value = 0; width = 0 }) (omega (arith, among.0.0, among.0.1)) fit,
  operands-fit first earlier args fit among.1,
)

chosen-small : (b : Bool) (x y m : ℕ) → x < m → y < m → (if b then x else y) < m
chosen-small true x y m h k = h
chosen-small false x y m h k = k

module _ (w : ℕ) (low : ℤ) (words : List ℕ) (xs : List Slot) (fit : AllByRecursion IsFit xs) where
  slot-fit : (i : ℕ) → i < length xs → IsFit (slot_at xs i)
  slot-fit i lt = all-at IsFit xs i (record { value = 0; width = 0 }) lt fit

  at-width : (i v : ℕ) → i < length xs → (slot_at xs i).width ≡ v → (slot_at xs i).value < 2 ^ v
  at-width i v lt e = rw e at ((slot-fit i lt).fits)

  pub applied-small : (op : CellOp) → length xs ≡ arity op → Makes op w (map (λ (x : Slot). x.width) xs) → applied op w low words xs < 2 ^ w
  applied-small (o.Const n) count makes = mod_below n (2 ^ w) (pow_pos w)
  applied-small (o.Reg r) count makes = mod_below _ (2 ^ w) (pow_pos w)
  applied-small (o.Un op) count makes =
      let e : w ≡ unary_width op (slot_at xs 0).width = makes ∙ ap (unary_width op) (sym (width-at xs 0)) in
      rw e (unary-below op (slot_at xs 0).width (slot_at xs 0).value)
  applied-small (o.Bin op signed) count makes =
      let e : w ≡ binary_width op (slot_at xs 0).width = makes.0 ∙ ap (binary_width op) (sym (width-at xs 0)) in
      let below = binary-below op signed (slot_at xs 0).width (slot_at xs 0).value (slot_at xs 1).value (slot-fit 0 (omega arith)).fits
      (λ n. at-width 1 (slot_at xs 0).width (omega arith) (width-at xs 1 ∙ sym (makes.1 n) ∙ sym (width-at xs 0))) in
      rw e below
  applied-small o.Mux count makes =
      chosen-small ((slot_at xs 0).value == 0) (slot_at xs 2).value (slot_at xs 1).value (2 ^ w)
      (at-width 2 w (omega arith) (width-at xs 2 ∙ makes.1)) (at-width 1 w (omega arith) (width-at xs 1 ∙ makes.0))
  applied-small (o.Pick from) count makes = picked-small (slot_at xs 0).width (slot_at xs 0).value (lowest_bit from low (slot_at xs 1)) w
  applied-small (o.PlaceIn from) count makes =
      let e : (slot_at xs 0).width ≡ w = width-at xs 0 ∙ sym makes in
      let v = placed (slot_at xs 0).width (slot_at xs 0).value (lowest_bit from low (slot_at xs 1)) (slot_at xs 2).width (slot_at xs 2).value in
      let P : ℕ → Type 0 = λ n. v < 2 ^ n in
      subst P e (placed-small (slot_at xs 0).width (slot_at xs 0).value (lowest_bit from low (slot_at xs 1)) (slot_at xs 2).width (slot_at xs 2).value)
  applied-small o.Append count makes =
      let a = width-at xs 0 in
      let b = width-at xs 1 in
      let e : (slot_at xs 0).width + (slot_at xs 1).width ≡ w = omega (arith, a, b, makes) in
      let v = appended (slot_at xs 0).value (slot_at xs 1).width (slot_at xs 1).value in
      let P : ℕ → Type 0 = λ n. v < 2 ^ n in
      subst P e (joined-below (slot_at xs 0).value (slot_at xs 1).value (slot_at xs 0).width (slot_at xs 1).width (slot-fit 0 (omega arith)).fits (slot-fit 1 (omega arith)).fits)
  applied-small (o.Resize signed) count makes = wrapped-below w (reading signed (slot_at xs 0).width (slot_at xs 0).value)
  applied-small (o.MemRead m signed) count makes = mod_below _ (2 ^ w) (pow_pos w)

module _ (s : Shape) (first : ℕ) (regs : List ℕ) (mems : List (List ℕ)) where
  -- the slot of a cell behind others has a value of its width
  pub cell-fit : (earlier : List Slot) (c : CellData) → AllByRecursion IsFit earlier → IsCell s first (map (λ (x : Slot). x.width) earlier) c → IsFit (cell_slot first regs mems earlier c)
  cell-fit earlier c fit h =
      let A : ℕ → Type 0 = λ n. AllByRecursion (IsAmong first n) c.args in
      let M : List ℕ → Type 0 = λ ws. Makes c.op c.width ws in
      let among = subst A (length-map earlier (λ (x : Slot). x.width)) h.args in
      record {
        wide = h.wide;
        narrow = h.narrow;
        fits = applied-small c.width c.low (found c.op regs mems) (operands first earlier c.args) (operands-fit first earlier c.args fit among) c.op
            (length-map c.args (λ (a : ℕ). slot_at earlier (a - first)) ∙ h.count) (subst M (sym (operand-widths first earlier c.args)) h.makes);
      }

  behind-fit : (earlier : List Slot) (cs : List CellData) → AllByRecursion IsFit earlier → AreCells s first (map (λ (x : Slot). x.width) earlier) cs → AllByRecursion IsFit (slots_behind first regs mems earlier cs)
  behind-fit earlier [] fit h = fit
  behind-fit earlier (c ∷ cs) fit h =
      let x = cell_slot first regs mems earlier c in
      let F : List ℕ → Type 0 = λ ws. AreCells s first ws cs in
      behind-fit (earlier ++ x ∷ []) cs (all-push IsFit earlier x fit (cell-fit earlier c fit h.0)) (subst F (sym (map_push (λ (y : Slot). y.width) earlier x)) h.1)

  pub slots-fit : (cells : List CellData) → AreCells s first [] cells → AllByRecursion IsFit (slots_of first regs mems cells)
  slots-fit cells h = behind-fit [] cells tt h
