-- The newest cell.
use Rattle.std.proofs.Common.{◌≡◌, ℕ, ◌+◌, ◌-◌, ◌%◌, ◌^◌, ◌<◌, ◌≤◌, Bool, true, List, [], ◌∷◌, ◌++◌, length, map, refl, sym, ap, ◌∙◌, arith, subst, append_assoc, length-append, append-nil}
use Rattle.std.specs.Prelude.{ℤ, ◌-ℤ◌, get_or, ◌≢◌, Ok, Err, IfOk, slice_index, slice_index_or, if◌then◌else◌, ◌==◌}
use Rattle.std.proofs.lemmas.List.{length-map, get_or-map}
use Rattle.std.specs.declared.result.Result.{Result}
use Rattle.std.proofs.Math.Seq.{get_or-append_seam}
use Rattle.vl_base.specs.declared.bits.UnOp.{UnOp}
use Rattle.vl_base.specs.declared.bits.UnOp.TheVariants as u
use Rattle.vl_base.specs.declared.bits.BinOp.{BinOp}
use Rattle.vl_base.specs.declared.bits.BinOp.TheVariants as i
use Rattle.vl_base.specs.Value.{resized, unary_value, unary_width, binary_value, binary_width, needs_one_width}
use Rattle.vl_base.specs.Selects.{picked, placed, appended}
use Rattle.vl_base.proofs.Readings.{wrapped-reading}
use Rattle.cell_form.specs.declared.cell.Cell.{Cell}
use Rattle.cell_form.specs.declared.cell.CellOp.TheVariants as o
use Rattle.cell_form.specs.declared.cell.Index.{Index}
use Rattle.cell_form.specs.Data.{CellData, ListData, BankData}
use Rattle.cell_form.specs.Views.{cell_of}
use Rattle.cell_form.specs.Values.{Slot, slot_at, slots_of, cell_slot, applied, found, lowest_bit, whole, word_at}
use Rattle.cell_form.specs.Sound.{Shape, IsCell, AreCells, IsAmong}
use Rattle.cell_form.proofs.Slots.{slots-length, slots-push}
use Rattle.cell_emit.specs.Slots.{slot, held, width_at, IsIn, AreSound, Grows, Longer, Gives, Nothing}
use Rattle.cell_emit.specs.Pushes.{Pushed}
use Rattle.cell_emit.proofs.Frames.{slot-width, width-fits, held-fits, longer-same, gives-held, gives-as}

abbrev widths : List CellData → List ℕ
widths cells = map (λ (c : CellData). c.width) cells

-- what follows of an answer, where there is one
pub ok-gives : {A E : Type 0} (r : Result A E) (P Q : A → Type 0) → ((x : A) → P x → Q x) → IfOk r P → IfOk r Q
ok-gives (Ok x) P Q f h = f x h
ok-gives (Err e) P Q f h = h

-- the width of a cell in the code's list
pub code-width : (xs : List Cell) (i : ℕ) (d : Cell) → i < length xs → (get_or xs i d).width ≡ slice_index (widths (map cell_of xs)) i
code-width xs i d lt =
    let long : i < length (map cell_of xs) = omega (arith, length-map xs cell_of) in
    sym (get_or-map (λ (c : CellData). c.width) (map cell_of xs) i (cell_of d) 0 long ∙ ap (λ (c : CellData). c.width) (get_or-map cell_of xs i d (cell_of d) lt))

cells-push : (s : Shape) (first : ℕ) (ws : List ℕ) (xs : List CellData) (c : CellData) → AreCells s first ws xs → IsCell s first (ws ++ widths xs) c → AreCells s first ws (xs ++ c ∷ [])
cells-push s first ws [] c h k =
    let F : List ℕ → Type 0 = λ vs. IsCell s first vs c in
    (subst F (append-nil ws) k, tt)
cells-push s first ws (x ∷ xs) c h k =
    let F : List ℕ → Type 0 = λ vs. IsCell s first vs c in
    (h.0, cells-push s first (ws ++ x.width ∷ []) xs c h.1 (subst F (sym (append_assoc ws (x.width ∷ []) (widths xs))) k))

module _ (old new : ListData) (r : ℕ) (c : CellData) (p : Pushed old new r c) where
  pub pushed-grows : Grows old new
  pushed-grows = record { more = c ∷ []; is = p.is }

  pub pushed-longer : (Has : Shape → Type 0) → ((s : Shape) → Has s → AreSound s old → IsCell s old.first (widths old.cells) c) → Longer Has 1 old new
  pushed-longer Has cell = record {
    more = c ∷ [];
    is = p.is;
    few = omega arith;
    sound = λ s has h.
        let F : ListData → Type 0 = λ l. AreSound s l in
        subst F (sym p.is) (cells-push s old.first [] old.cells c h (cell s has h));
  }

  pushed-in : IsIn new r
  pushed-in =
      let F : ListData → Type 0 = λ l. IsIn l r in
      let e = p.slot in
      let long = length-append old.cells (c ∷ []) in
      subst F (sym p.is) (omega arith, omega arith)

  -- its slot is its operation over the slots that were there
  pushed-slot : (b : BankData) → slot b new r ≡ record { value = applied c.op c.width c.low (found c.op b.regs b.mems) (map (slot b old) c.args); width = c.width }
  unfolding slot
  pushed-slot b =
      let s = slots_of old.first b.regs b.mems old.cells in
      let x = cell_slot old.first b.regs b.mems s c in
      let e = p.slot in
      let at : r - old.first ≡ length s = omega (arith, slots-length old.first b.regs b.mems old.cells) in
      ap (λ (l : ListData). slot b l r) p.is
      ∙ ap (λ (ys : List Slot). slot_at ys (r - old.first)) (slots-push old.first b.regs b.mems old.cells c)
      ∙ ap (slot_at (s ++ x ∷ [])) at
      ∙ get_or-append_seam s x [] (record { value = 0; width = 0 })

  pub pushed-gives : (Has : Shape → Type 0) (f : BankData → ℕ) → ((s : Shape) → Has s → AreSound s old → IsCell s old.first (widths old.cells) c) →
      ((b : BankData) → applied c.op c.width c.low (found c.op b.regs b.mems) (map (slot b old) c.args) ≡ f b) → Gives Has 1 old new r c.width f
  pushed-gives Has f cell value = record {
    longer = pushed-longer Has cell;
    there = pushed-in;
    width = let b : BankData = record { regs = []; mems = []; slots = [] } in sym (slot-width b new r) ∙ ap (λ (x : Slot). x.width) (pushed-slot b);
    value = λ s b h. ap (λ (x : Slot). x.value) (pushed-slot b) ∙ value b;
  }

among : (l : ListData) (a : ℕ) → IsIn l a → IsAmong l.first (length (widths l.cells)) a
among l a k =
    let high = k.1 in
    let long = length-map l.cells (λ (c : CellData). c.width) in
    (k.0, omega arith)

unary-fits : (op : UnOp) (w : ℕ) → 1 ≤ w → w ≤ 128 → (1 ≤ unary_width op w) × (unary_width op w ≤ 128)
unary-fits u.Neg w a b = (a, b)
unary-fits u.Not w a b = (a, b)
unary-fits u.LogNot w a b = (omega arith, omega arith)
unary-fits u.RedAnd w a b = (omega arith, omega arith)
unary-fits u.RedOr w a b = (omega arith, omega arith)
unary-fits u.RedXor w a b = (omega arith, omega arith)
unary-fits u.RedNand w a b = (omega arith, omega arith)
unary-fits u.RedNor w a b = (omega arith, omega arith)
unary-fits u.RedXnor w a b = (omega arith, omega arith)

binary-fits : (op : BinOp) (w : ℕ) → 1 ≤ w → w ≤ 128 → (1 ≤ binary_width op w) × (binary_width op w ≤ 128)
binary-fits i.Add w a b = (a, b)
binary-fits i.Sub w a b = (a, b)
binary-fits i.Mul w a b = (a, b)
binary-fits i.Div w a b = (a, b)
binary-fits i.Rem w a b = (a, b)
binary-fits i.And w a b = (a, b)
binary-fits i.Or w a b = (a, b)
binary-fits i.Xor w a b = (a, b)
binary-fits i.Xnor w a b = (a, b)
binary-fits i.Shl w a b = (a, b)
binary-fits i.Shr w a b = (a, b)
binary-fits i.Sshr w a b = (a, b)
binary-fits i.Lt w a b = (omega arith, omega arith)
binary-fits i.Le w a b = (omega arith, omega arith)
binary-fits i.Gt w a b = (omega arith, omega arith)
binary-fits i.Ge w a b = (omega arith, omega arith)
binary-fits i.Eq w a b = (omega arith, omega arith)
binary-fits i.Ne w a b = (omega arith, omega arith)
binary-fits i.LogAnd w a b = (omega arith, omega arith)
binary-fits i.LogOr w a b = (omega arith, omega arith)

-- ---- each operation

module _ (old new : ListData) (r : ℕ) where
  pub gives-constant : (value width : ℕ) (low : ℤ) → 1 ≤ width → width ≤ 128 → Pushed old new r (record { op = o.Const value; args = []; width = width; low = low }) →
      Gives Nothing 1 old new r width (λ b. value % 2 ^ width)
  gives-constant value width low wide narrow p =
      pushed-gives old new r _ p Nothing (λ b. value % 2 ^ width)
      (λ s has sound. record { args = tt; count = refl; makes = tt; wide = wide; narrow = narrow; names = tt }) (λ b. refl)

  pub gives-register : (k width : ℕ) (low : ℤ) → 1 ≤ width → width ≤ 128 → Pushed old new r (record { op = o.Reg k; args = []; width = width; low = low }) →
      Gives (λ s. k < s.regs) 1 old new r width (λ b. slice_index b.regs k % 2 ^ width)
  gives-register k width low wide narrow p =
      pushed-gives old new r _ p (λ s. k < s.regs) (λ b. slice_index b.regs k % 2 ^ width)
      (λ s has sound. record { args = tt; count = refl; makes = tt; wide = wide; narrow = narrow; names = has }) (λ b. refl)

  pub gives-unary : (op : UnOp) (a width : ℕ) (low : ℤ) → IsIn old a → 1 ≤ width_at old a → width_at old a ≤ 128 → width ≡ unary_width op (width_at old a) →
      Pushed old new r (record { op = o.Un op; args = a ∷ []; width = width; low = low }) →
      Gives Nothing 1 old new r (unary_width op (width_at old a)) (λ b. unary_value op (width_at old a) (held b old a))
  gives-unary op a width low there wide narrow e p =
      let fits = unary-fits op (width_at old a) wide narrow in
      let f : BankData → ℕ = λ b. unary_value op (width_at old a) (held b old a) in
      let above : 1 ≤ width = rw e fits.0 in
      let below : width ≤ 128 = rw e fits.1 in
      gives-as Nothing 1 old new r width (unary_width op (width_at old a)) f f e (λ s b h. refl)
      (pushed-gives old new r _ p Nothing f
      (λ s has sound. record { args = (among old a there, tt); count = refl; makes = e; wide = above; narrow = below; names = tt })
      (λ b. ap (λ w. unary_value op w (held b old a)) (slot-width b old a)))

  pub gives-binary : (op : BinOp) (signed : Bool) (a b width : ℕ) (low : ℤ) → IsIn old a → IsIn old b → 1 ≤ width_at old a → width_at old a ≤ 128 →
      (needs_one_width op ≡ true → width_at old a ≡ width_at old b) → width ≡ binary_width op (width_at old a) →
      Pushed old new r (record { op = o.Bin op signed; args = a ∷ b ∷ []; width = width; low = low }) →
      Gives Nothing 1 old new r (binary_width op (width_at old a)) (λ x. binary_value op signed (width_at old a) (held x old a) (held x old b))
  gives-binary op signed a b width low first second wide narrow one e p =
      let fits = binary-fits op (width_at old a) wide narrow in
      let f : BankData → ℕ = λ x. binary_value op signed (width_at old a) (held x old a) (held x old b) in
      let above : 1 ≤ width = rw e fits.0 in
      let below : width ≤ 128 = rw e fits.1 in
      gives-as Nothing 1 old new r width (binary_width op (width_at old a)) f f e (λ s x h. refl)
      (pushed-gives old new r _ p Nothing f
      (λ s has sound. record { args = (among old a first, (among old b second, tt)); count = refl; makes = (e, one); wide = above; narrow = below; names = tt })
      (λ x. ap (λ w. binary_value op signed w (held x old a) (held x old b)) (slot-width x old a)))

  pub gives-mux : (test a b width : ℕ) (low : ℤ) → IsIn old test → IsIn old a → IsIn old b → 1 ≤ width_at old a → width_at old a ≤ 128 → width_at old b ≡ width_at old a → width ≡ width_at old a →
      Pushed old new r (record { op = o.Mux; args = test ∷ a ∷ b ∷ []; width = width; low = low }) →
      Gives Nothing 1 old new r (width_at old a) (λ x. if held x old test == 0 then held x old b else held x old a)
  gives-mux test a b width low tested first second wide narrow one e p =
      let f : BankData → ℕ = λ x. if held x old test == 0 then held x old b else held x old a in
      gives-as Nothing 1 old new r width (width_at old a) f f e (λ s x h. refl)
      (pushed-gives old new r _ p Nothing f
      (λ s has sound. record {
        args = (among old test tested, (among old a first, (among old b second, tt)));
        count = refl;
        makes = (sym e, one ∙ sym e);
        wide = rw e wide;
        narrow = rw e narrow;
        names = tt;
      })
      (λ x. refl))

  pub gives-pick : (base index : ℕ) (from : Index) (width : ℕ) (low k : ℤ) → k ≡ low → IsIn old base → IsIn old index → 1 ≤ width → width ≤ 128 →
      Pushed old new r (record { op = o.Pick from; args = base ∷ index ∷ []; width = width; low = k }) →
      Gives Nothing 1 old new r width (λ b. picked (width_at old base) (held b old base) (lowest_bit from low (slot b old index)) width)
  gives-pick base index from width low k same first second wide narrow p =
      pushed-gives old new r _ p Nothing (λ b. picked (width_at old base) (held b old base) (lowest_bit from low (slot b old index)) width)
      (λ s has sound. record { args = (among old base first, (among old index second, tt)); count = refl; makes = tt; wide = wide; narrow = narrow; names = tt })
      (λ b. ap (λ z. picked (slot b old base).width (held b old base) (lowest_bit from z (slot b old index)) width) same
      ∙ ap (λ w. picked w (held b old base) (lowest_bit from low (slot b old index)) width) (slot-width b old base))

  pub gives-placed : (a index part : ℕ) (from : Index) (width : ℕ) (low k : ℤ) → k ≡ low → IsIn old a → IsIn old index → IsIn old part → 1 ≤ width_at old a → width_at old a ≤ 128 → width ≡ width_at old a →
      Pushed old new r (record { op = o.PlaceIn from; args = a ∷ index ∷ part ∷ []; width = width; low = k }) →
      Gives Nothing 1 old new r (width_at old a) (λ b. placed (width_at old a) (held b old a) (lowest_bit from low (slot b old index)) (width_at old part) (held b old part))
  gives-placed a index part from width low k same first second third wide narrow e p =
      let f : BankData → ℕ = λ b. placed (width_at old a) (held b old a) (lowest_bit from low (slot b old index)) (width_at old part) (held b old part) in
      gives-as Nothing 1 old new r width (width_at old a) f f e (λ s b h. refl)
      (pushed-gives old new r _ p Nothing f
      (λ s has sound. record {
        args = (among old a first, (among old index second, (among old part third, tt)));
        count = refl;
        makes = e;
        wide = rw e wide;
        narrow = rw e narrow;
        names = tt;
      })
      (λ b. ap (λ z. placed (slot b old a).width (held b old a) (lowest_bit from z (slot b old index)) (slot b old part).width (held b old part)) same
      ∙ ap (λ w. placed w (held b old a) (lowest_bit from low (slot b old index)) (slot b old part).width (held b old part)) (slot-width b old a)
      ∙ ap (λ w. placed (width_at old a) (held b old a) (lowest_bit from low (slot b old index)) w (held b old part)) (slot-width b old part)))

  pub gives-append : (high low width : ℕ) (k : ℤ) → IsIn old high → IsIn old low → width_at old high + width_at old low ≤ 128 →
      width ≡ width_at old high + width_at old low → Pushed old new r (record { op = o.Append; args = high ∷ low ∷ []; width = width; low = k }) →
      Gives Nothing 1 old new r (width_at old high + width_at old low) (λ b. appended (held b old high) (width_at old low) (held b old low))
  gives-append high low width k first second narrow e p =
      let f : BankData → ℕ = λ b. appended (held b old high) (width_at old low) (held b old low) in
      gives-as Nothing 1 old new r width (width_at old high + width_at old low) f f e (λ s b h. refl)
      (pushed-gives old new r _ p Nothing f
      (λ s has sound. record {
        args = (among old high first, (among old low second, tt));
        count = refl;
        makes = e;
        wide = let fits = (width-fits s old high sound first).0 in omega arith;
        narrow = rw e narrow;
        names = tt;
      })
      (λ b. ap (λ w. appended (held b old high) w (held b old low)) (slot-width b old low)))

  pub gives-resized : (a : ℕ) (signed : Bool) (width : ℕ) (low : ℤ) → IsIn old a → 1 ≤ width → width ≤ 128 → Pushed old new r (record { op = o.Resize signed; args = a ∷ []; width = width; low = low }) →
      Gives Nothing 1 old new r width (λ b. resized signed (width_at old a) width (held b old a))
  gives-resized a signed width low there wide narrow p =
      pushed-gives old new r _ p Nothing (λ b. resized signed (width_at old a) width (held b old a))
      (λ s has sound. record { args = (among old a there, tt); count = refl; makes = tt; wide = wide; narrow = narrow; names = tt })
      (λ b. ap (λ w. resized signed w width (held b old a)) (slot-width b old a))

  pub gives-word : (memory address : ℕ) (signed : Bool) (width : ℕ) (lowest k : ℤ) → k ≡ lowest → IsIn old address → 1 ≤ width → width ≤ 128 →
      Pushed old new r (record { op = o.MemRead memory signed; args = address ∷ []; width = width; low = k }) →
      Gives (λ s. memory < s.mems) 1 old new r width (λ b. word_at (slice_index_or b.mems memory []) (whole signed (slot b old address) -ℤ lowest) % 2 ^ width)
  gives-word memory address signed width lowest k same there wide narrow p =
      pushed-gives old new r _ p (λ s. memory < s.mems) (λ b. word_at (slice_index_or b.mems memory []) (whole signed (slot b old address) -ℤ lowest) % 2 ^ width)
      (λ s has sound. record { args = (among old address there, tt); count = refl; makes = tt; wide = wide; narrow = narrow; names = has })
      (λ b. ap (λ z. word_at (slice_index_or b.mems memory []) (whole signed (slot b old address) -ℤ z) % 2 ^ width) same)

-- a value in its own width is itself
pub gives-own : (l : ListData) (a : ℕ) (signed : Bool) (width : ℕ) → IsIn l a → width_at l a ≡ width →
    Gives Nothing 0 l l a width (λ b. resized signed (width_at l a) width (held b l a))
gives-own l a signed width there e =
    gives-as Nothing 0 l l a (width_at l a) width (λ b. held b l a) (λ b. resized signed (width_at l a) width (held b l a)) e
    (λ s b h. sym (wrapped-reading signed (width_at l a) (held b l a) (held-fits s b l a h there)) ∙ ap (λ w. resized signed (width_at l a) w (held b l a)) e)
    (gives-held Nothing 0 l l a (longer-same Nothing l) there)

-- the count of cells that a resize takes
abbrev count : ℕ → ℕ → ℕ
count w width = if w == width then 0 else 1

count-own : (w width : ℕ) → w ≡ width → count w width ≡ 0
count-own w width e = grind arith

count-other : (w width : ℕ) → w ≢ width → count w width ≡ 1
count-other w width e = grind arith

pub own-gives : (l : ListData) (a : ℕ) (signed : Bool) (width : ℕ) → IsIn l a → width_at l a ≡ width →
    Gives Nothing (if width_at l a == width then 0 else 1) l l a width (λ b. resized signed (width_at l a) width (held b l a))
own-gives l a signed width there e =
    let F : ℕ → Type 0 = λ n. Gives Nothing n l l a width (λ b. resized signed (width_at l a) width (held b l a)) in
    subst F (sym (count-own (width_at l a) width e)) (gives-own l a signed width there e)

pub other-gives : (old new : ListData) (r a : ℕ) (signed : Bool) (width : ℕ) → width_at old a ≢ width →
    Gives Nothing 1 old new r width (λ b. resized signed (width_at old a) width (held b old a)) →
    Gives Nothing (if width_at old a == width then 0 else 1) old new r width (λ b. resized signed (width_at old a) width (held b old a))
other-gives old new r a signed width e h =
    let F : ℕ → Type 0 = λ n. Gives Nothing n old new r width (λ b. resized signed (width_at old a) width (held b old a)) in
    subst F (sym (count-other (width_at old a) width e)) h
