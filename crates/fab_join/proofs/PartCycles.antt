-- A table under the numbers of a part does to this part what it does alone, and nothing elsewhere.
use Rattle.std.proofs.Common.{◌≡◌, ℕ, zero, suc, ◌+◌, ◌-◌, ◌<◌, ◌≤◌, inl, inr, Some, None, Bool, true, false, List, [], ◌∷◌, ◌++◌, length, map, set, get_or, take, drop, refl, sym, ap, ◌∙◌, arith, subst}
use Rattle.std.specs.Prelude.{ℤ, ◌==◌, if◌then◌else◌, slice_get, slice_index}
use Rattle.std.specs.List.{AllByRecursion}
use Rattle.std.proofs.lemmas.List.{get_or-take, get_or-drop, drop-set-add, drop-set-lt, take-set-le, length-map, get_or-map}
use Rattle.trap_runtime.specs.cell_form.specs.declared.cell.CellOp.{CellOp}
use Rattle.trap_runtime.specs.cell_form.specs.declared.cell.CellOp.TheVariants as o
use Rattle.trap_runtime.specs.cell_form.specs.declared.cell.Write.{Write}
use Rattle.trap_runtime.specs.cell_form.specs.declared.cell.Write.TheVariants as w
use Rattle.trap_runtime.specs.cell_form.specs.Data.{CellData, ListData, BankData, StateData, TableData}
use Rattle.trap_runtime.specs.cell_form.specs.Values.{Slot, slot_at, found, applied, operands, cell_slot, slots_behind, slots_of}
use Rattle.trap_runtime.specs.cell_form.specs.Cycle.{with_word, wrote, written, put_at, values_of, filled, value_at, cycled}
use Rattle.trap_runtime.specs.cell_form.specs.Sound.{Shape, shape_of, Names, arity, Makes, IsAmong, IsCell, AreCells, IsWrite, IsList}
use Rattle.trap_runtime.specs.cell_form.specs.States.{state_cycled, table_cycled}
use Rattle.trap_runtime.specs.cell_form.specs.declared.table.State.{State}
use Rattle.trap_runtime.specs.cell_form.specs.Views.{list_of, state_of}
use Rattle.std.proofs.lemmas.Option.{slice_get_read, slice_get_past}
use Rattle.trap_runtime.specs.cell_form.proofs.Cycling.{values-length, same-shape}
use Rattle.trap_runtime.specs.cell_form.proofs.Fitting.{all-at}
use Rattle.fab_join.specs.Banks.{part, IsClear, IsWithin, AreApart}
use Rattle.fab_join.specs.Numbers.{behind, numbered_op, numbered_cell, numbered_write, numbered_list, numbered_state, numbered_table}
use Rattle.fab_join.specs.Parts.{IsTable}
use Rattle.fab_join.proofs.Grown.{put_in_part, pasted_elsewhere}
use Rattle.trap_runtime.specs.cell_form.proofs.Shared.{list_shape}

-- ---- one item of a part

pub get_in_part : {X : Type 0} (xs : List X) (a n k : ℕ) (d : X) → k < n → get_or xs (a + k) d ≡ get_or (take n (drop a xs)) k d
get_in_part xs a n k d lt = sym (get_or-take n (drop a xs) k d lt ∙ get_or-drop a xs k d)

take-set_any : {X : Type 0} (n : ℕ) (xs : List X) (k : ℕ) (v : X) → take n (set xs k v) ≡ set (take n xs) k v
take-set_any zero [] k v = refl
take-set_any zero (x ∷ xs) k v = refl
take-set_any (suc n) [] k v = refl
take-set_any (suc n) (x ∷ xs) zero v = refl
take-set_any (suc n) (x ∷ xs) (suc k) v = ap (λ ys. x ∷ ys) (take-set_any n xs k v)

pub set_in_part : {X : Type 0} (xs : List X) (a n k : ℕ) (v : X) → take n (drop a (set xs (a + k) v)) ≡ set (take n (drop a xs)) k v
set_in_part xs a n k v = ap (take n) (drop-set-add a xs k v) ∙ take-set_any n (drop a xs) k v

pub set_elsewhere : {X : Type 0} (xs : List X) (a n b m k : ℕ) (v : X) → IsClear a n b m → k < n → take m (drop b (set xs (a + k) v)) ≡ take m (drop b xs)
set_elsewhere xs a n b m k v clear lt =
    elim clear [
      | inl low ↦ ap (take m) (drop-set-lt b xs (a + k) v (omega arith))
      | inr high ↦
          let e : a + k ≡ b + ((a + k) - b) = omega arith in
          ap (λ i. take m (drop b (set xs i v))) e ∙ ap (take m) (drop-set-add b xs ((a + k) - b) v) ∙ take-set-le m (drop b xs) ((a + k) - b) v (omega arith)
    ]

-- ---- values of cells

applied_moved : (a : Shape) (op : CellOp) (width : ℕ) (low : ℤ) (ws : List ℕ) (xs : List Slot) → applied (numbered_op (behind a) op) width low ws xs ≡ applied op width low ws xs
applied_moved a (o.Const n) width low ws xs = refl
applied_moved a (o.Reg r) width low ws xs = refl
applied_moved a (o.Un op) width low ws xs = refl
applied_moved a (o.Bin op signed) width low ws xs = refl
applied_moved a o.Mux width low ws xs = refl
applied_moved a (o.Pick from) width low ws xs = refl
applied_moved a (o.PlaceIn from) width low ws xs = refl
applied_moved a o.Append width low ws xs = refl
applied_moved a (o.Resize signed) width low ws xs = refl
applied_moved a (o.MemRead m signed) width low ws xs = refl

raised_apart : (a k first : ℕ) → (a + k) - (a + first) ≡ k - first
raised_apart a k first = omega arith

module _ (a s : Shape) (b : BankData) where
  found_moved : (op : CellOp) → Names s op → found (numbered_op (behind a) op) b.regs b.mems ≡ found op (part a s b).regs (part a s b).mems
  found_moved (o.Const n) h = refl
  found_moved (o.Reg r) h = ap (λ x. x ∷ []) (get_in_part b.regs a.regs s.regs r 0 h)
  found_moved (o.Un op) h = refl
  found_moved (o.Bin op signed) h = refl
  found_moved o.Mux h = refl
  found_moved (o.Pick from) h = refl
  found_moved (o.PlaceIn from) h = refl
  found_moved o.Append h = refl
  found_moved (o.Resize signed) h = refl
  found_moved (o.MemRead m signed) h = get_in_part b.mems a.mems s.mems m [] h

  operands_moved : (first : ℕ) (earlier : List Slot) (args : List ℕ) → operands (a.slots + first) earlier (map (λ n. a.slots + n) args) ≡ operands first earlier args
  operands_moved first earlier [] = refl
  operands_moved first earlier (k ∷ args) =
      let e = ap (slot_at earlier) (raised_apart a.slots k first) in
      let es = operands_moved first earlier args in
      cc

  cell_moved : (first : ℕ) (earlier : List Slot) (c : CellData) → Names s c.op → cell_slot (a.slots + first) b.regs b.mems earlier (numbered_cell (behind a) c) ≡ cell_slot first (part a s b).regs (part a s b).mems earlier c
  cell_moved first earlier c h =
      let ws = found (numbered_op (behind a) c.op) b.regs b.mems in
      let xs = operands (a.slots + first) earlier (map (λ n. a.slots + n) c.args) in
      ap (λ (v : ℕ). record { value = v; width = c.width })
      (applied_moved a c.op c.width c.low ws xs
      ∙ ap (λ (ys : List ℕ). applied c.op c.width c.low ys xs) (found_moved c.op h)
      ∙ ap (applied c.op c.width c.low (found c.op (part a s b).regs (part a s b).mems)) (operands_moved first earlier c.args))

  behind_moved : (first k : ℕ) (widths : List ℕ) (earlier : List Slot) (cells : List CellData) → AreCells s k widths cells → slots_behind (a.slots + first) b.regs b.mems earlier (map (numbered_cell (behind a)) cells) ≡ slots_behind first (part a s b).regs (part a s b).mems earlier cells
  behind_moved first k widths earlier [] h = refl
  behind_moved first k widths earlier (c ∷ cells) h =
      let x = cell_slot (a.slots + first) b.regs b.mems earlier (numbered_cell (behind a) c) in
      behind_moved first k (widths ++ c.width ∷ []) (earlier ++ x ∷ []) cells h.1
      ∙ ap (λ (y : Slot). slots_behind first (part a s b).regs (part a s b).mems (earlier ++ y ∷ []) cells) (cell_moved first earlier c h.0.names)

  slots_moved : (l : ListData) → IsList s l → slots_of (a.slots + l.first) b.regs b.mems (map (numbered_cell (behind a)) l.cells) ≡ slots_of l.first (part a s b).regs (part a s b).mems l.cells
  slots_moved l h = behind_moved l.first l.first [] [] l.cells h.cells

-- ---- writes

module _ (a s : Shape) (first n : ℕ) (value other : ℕ → ℕ) (agree : (k : ℕ) → other (a.slots + k) ≡ value k) where
  stored_moved : (q : Bool) (b : BankData) (m k new mask : ℕ) → m < s.mems → part a s (if q then b else record b { mems = set b.mems (a.mems + m) (with_word (get_or b.mems (a.mems + m) []) k new mask) }) ≡ (if q then part a s b else record (part a s b) { mems = set (part a s b).mems m (with_word (get_or (part a s b).mems m []) k new mask) })
  stored_moved true b m k new mask lt = refl
  stored_moved false b m k new mask lt =
      let mine = part a s b in
      ap (λ (ms : List (List ℕ)). record { regs = mine.regs; mems = ms; slots = mine.slots })
      (set_in_part b.mems a.mems s.mems m (with_word (get_or b.mems (a.mems + m) []) k new mask)
      ∙ ap (λ (ws : List ℕ). set mine.mems m (with_word ws k new mask)) (get_in_part b.mems a.mems s.mems m [] lt))

  wrote_moved : (x : Write) (b : BankData) → IsWrite s first n x → part a s (wrote other (numbered_write (behind a) x) b) ≡ wrote value x (part a s b)
  wrote_moved (w.Reg r k) b h =
      let mine = part a s b in
      ap (λ (rs : List ℕ). record { regs = rs; mems = mine.mems; slots = mine.slots })
      (set_in_part b.regs a.regs s.regs r (other (a.slots + k)) ∙ ap (set mine.regs r) (agree k))
  wrote_moved (w.Mem m enable word new mask) b h =
      let mine = part a s b in
      let W : ℕ → ℕ → ℕ → ℕ → BankData = λ e k v z. if e == 0 then mine else record mine { mems = set mine.mems m (with_word (get_or mine.mems m []) k v z) } in
      stored_moved (other (a.slots + enable) == 0) b m (other (a.slots + word)) (other (a.slots + new)) (other (a.slots + mask)) h.0
      ∙ ap (λ (e : ℕ). W e (other (a.slots + word)) (other (a.slots + new)) (other (a.slots + mask))) (agree enable)
      ∙ ap (λ (k : ℕ). W (value enable) k (other (a.slots + new)) (other (a.slots + mask))) (agree word)
      ∙ ap (λ (v : ℕ). W (value enable) (value word) v (other (a.slots + mask))) (agree new)
      ∙ ap (W (value enable) (value word) (value new)) (agree mask)

  written_moved : (xs : List Write) (b : BankData) → AllByRecursion (IsWrite s first n) xs → part a s (written other (map (numbered_write (behind a)) xs) b) ≡ written value xs (part a s b)
  written_moved [] b h = refl
  written_moved (x ∷ xs) b h = written_moved xs (wrote other (numbered_write (behind a) x) b) h.1 ∙ ap (written value xs) (wrote_moved x b h.0)

module _ (a s c t : Shape) (apart : AreApart a s c t) (first n : ℕ) (other : ℕ → ℕ) where
  stored_elsewhere : (q : Bool) (b : BankData) (m : ℕ) (ws : List ℕ) → m < s.mems → part c t (if q then b else record b { mems = set b.mems (a.mems + m) ws }) ≡ part c t b
  stored_elsewhere true b m ws lt = refl
  stored_elsewhere false b m ws lt =
      let mine = part c t b in
      ap (λ (ms : List (List ℕ)). record { regs = mine.regs; mems = ms; slots = mine.slots }) (set_elsewhere b.mems a.mems s.mems c.mems t.mems m ws apart.mems lt)

  wrote_elsewhere : (x : Write) (b : BankData) → IsWrite s first n x → part c t (wrote other (numbered_write (behind a) x) b) ≡ part c t b
  wrote_elsewhere (w.Reg r k) b h =
      let mine = part c t b in
      ap (λ (rs : List ℕ). record { regs = rs; mems = mine.mems; slots = mine.slots }) (set_elsewhere b.regs a.regs s.regs c.regs t.regs r (other (a.slots + k)) apart.regs h.0)
  wrote_elsewhere (w.Mem m enable word new mask) b h =
      stored_elsewhere (other (a.slots + enable) == 0) b m (with_word (get_or b.mems (a.mems + m) []) (other (a.slots + word)) (other (a.slots + new)) (other (a.slots + mask))) h.0

  written_elsewhere : (xs : List Write) (b : BankData) → AllByRecursion (IsWrite s first n) xs → part c t (written other (map (numbered_write (behind a)) xs) b) ≡ part c t b
  written_elsewhere [] b h = refl
  written_elsewhere (x ∷ xs) b h = written_elsewhere xs (wrote other (numbered_write (behind a) x) b) h.1 ∙ wrote_elsewhere x b h.0

-- ---- a cycle of a list

values_moved : (a first k : ℕ) (xs ys : List Slot) → xs ≡ ys → value_at (a + first) xs (a + k) ≡ value_at first ys k
values_moved a first k xs ys e =
    ap (λ (i : ℕ). (slot_at xs i).value) (raised_apart a k first) ∙ ap (λ (zs : List Slot). (slot_at zs (k - first)).value) e

-- one cycle of a list under the numbers of a part is, on this part, one cycle of the list alone
pub cycled_moved : (a s : Shape) (b : BankData) (l : ListData) → IsWithin a s (shape_of b) → IsList s l → part a s (cycled (numbered_list (behind a) l) b) ≡ cycled l (part a s b)
cycled_moved a s b l within h =
    let own = part a s b in
    let mine = slots_of l.first own.regs own.mems l.cells in
    let raised = slots_of (a.slots + l.first) b.regs b.mems (map (numbered_cell (behind a)) l.cells) in
    let same : raised ≡ mine = slots_moved a s b l h in
    let long : length (values_of raised) ≡ length l.cells = ap (λ (xs : List Slot). length (values_of xs)) same ∙ values-length l.first own.regs own.mems l.cells in
    written_moved a s l.first (length l.cells) (value_at l.first mine) (value_at (a.slots + l.first) raised) (λ k. values_moved a.slots l.first k raised mine same) l.sets (filled (a.slots + l.first) (map (numbered_cell (behind a)) l.cells) b) h.sets
    ∙ ap (λ (xs : List ℕ). written (value_at l.first mine) l.sets (record { regs = own.regs; mems = own.mems; slots = xs }))
    (put_in_part b.slots a.slots s.slots l.first (values_of raised) (omega (arith, long, h.slots)) within.slots
    ∙ ap (λ (xs : List Slot). put_at l.first (values_of xs) own.slots) same)

-- and it leaves each part that has nothing in common with it
pub cycled_elsewhere : (a s c t : Shape) (b : BankData) (l : ListData) → AreApart a s c t → IsWithin a s (shape_of b) → IsList s l → part c t (cycled (numbered_list (behind a) l) b) ≡ part c t b
cycled_elsewhere a s c t b l apart within h =
    let own = part a s b in
    let raised = slots_of (a.slots + l.first) b.regs b.mems (map (numbered_cell (behind a)) l.cells) in
    let same : raised ≡ slots_of l.first own.regs own.mems l.cells = slots_moved a s b l h in
    let long : length (values_of raised) ≡ length l.cells = ap (λ (xs : List Slot). length (values_of xs)) same ∙ values-length l.first own.regs own.mems l.cells in
    let clear : IsClear (a.slots + l.first) (length (values_of raised)) c.slots t.slots =
    elim apart.slots as (λ _. IsClear (a.slots + l.first) (length (values_of raised)) c.slots t.slots) [
      | inl low ↦ inl (omega (arith, long, h.slots, low))
      | inr high ↦ inr (omega (arith, high))
    ] in
    let other = part c t b in
    written_elsewhere a s c t apart l.first (length l.cells) (value_at (a.slots + l.first) raised) l.sets (filled (a.slots + l.first) (map (numbered_cell (behind a)) l.cells) b) h.sets
    ∙ ap (λ (xs : List ℕ). record { regs = other.regs; mems = other.mems; slots = xs })
    (pasted_elsewhere b.slots (values_of raised) (a.slots + l.first) c.slots t.slots (omega (arith, long, h.slots, within.slots)) clear)

-- ---- lists that may run

makes_moved : (a : Shape) (op : CellOp) (width : ℕ) (xs ys : List ℕ) → xs ≡ ys → Makes op width ys → Makes (numbered_op (behind a) op) width xs
makes_moved a (o.Const n) width xs ys e h = tt
makes_moved a (o.Reg r) width xs ys e h = tt
makes_moved a (o.Un op) width xs ys e h = let M : List ℕ → Type 0 = λ zs. Makes (o.Un op) width zs in subst M (sym e) h
makes_moved a (o.Bin op signed) width xs ys e h = let M : List ℕ → Type 0 = λ zs. Makes (o.Bin op signed) width zs in subst M (sym e) h
makes_moved a o.Mux width xs ys e h = let M : List ℕ → Type 0 = λ zs. Makes o.Mux width zs in subst M (sym e) h
makes_moved a (o.Pick from) width xs ys e h = tt
makes_moved a (o.PlaceIn from) width xs ys e h = let M : List ℕ → Type 0 = λ zs. Makes (o.PlaceIn from) width zs in subst M (sym e) h
makes_moved a o.Append width xs ys e h = let M : List ℕ → Type 0 = λ zs. Makes o.Append width zs in subst M (sym e) h
makes_moved a (o.Resize signed) width xs ys e h = tt
makes_moved a (o.MemRead m signed) width xs ys e h = tt

arity_moved : (a : Shape) (op : CellOp) → arity (numbered_op (behind a) op) ≡ arity op
arity_moved a (o.Const n) = refl
arity_moved a (o.Reg r) = refl
arity_moved a (o.Un op) = refl
arity_moved a (o.Bin op signed) = refl
arity_moved a o.Mux = refl
arity_moved a (o.Pick from) = refl
arity_moved a (o.PlaceIn from) = refl
arity_moved a o.Append = refl
arity_moved a (o.Resize signed) = refl
arity_moved a (o.MemRead m signed) = refl

module _ (a s t : Shape) (within : IsWithin a s t) where
  names_moved : (op : CellOp) → Names s op → Names t (numbered_op (behind a) op)
  names_moved (o.Const n) h = tt
  names_moved (o.Reg r) h = omega (arith, within.regs, h)
  names_moved (o.Un op) h = tt
  names_moved (o.Bin op signed) h = tt
  names_moved o.Mux h = tt
  names_moved (o.Pick from) h = tt
  names_moved (o.PlaceIn from) h = tt
  names_moved o.Append h = tt
  names_moved (o.Resize signed) h = tt
  names_moved (o.MemRead m signed) h = omega (arith, within.mems, h)

  args_moved : (first n : ℕ) (args : List ℕ) → AllByRecursion (IsAmong first n) args → AllByRecursion (IsAmong (a.slots + first) n) (map (λ k. a.slots + k) args)
  args_moved first n [] h = tt
  args_moved first n (k ∷ args) h = ((omega (arith, h.0.0), omega (arith, h.0.1)), args_moved first n args h.1)

  widths_moved : (first : ℕ) (widths args : List ℕ) → map (λ k. slice_index widths (k - (a.slots + first))) (map (λ k. a.slots + k) args) ≡ map (λ k. slice_index widths (k - first)) args
  widths_moved first widths [] = refl
  widths_moved first widths (k ∷ args) =
      let e = ap (slice_index widths) (raised_apart a.slots k first) in
      let es = widths_moved first widths args in
      cc

  is_cell_moved : (first : ℕ) (widths : List ℕ) (c : CellData) → IsCell s first widths c → IsCell t (a.slots + first) widths (numbered_cell (behind a) c)
  is_cell_moved first widths c h = record {
    args = args_moved first (length widths) c.args h.args;
    count = length-map c.args (λ (k : ℕ). a.slots + k) ∙ h.count ∙ sym (arity_moved a c.op);
    makes = makes_moved a c.op c.width (map (λ k. slice_index widths (k - (a.slots + first))) (map (λ k. a.slots + k) c.args)) (map (λ k. slice_index widths (k - first)) c.args) (widths_moved first widths c.args) h.makes;
    wide = h.wide;
    narrow = h.narrow;
    names = names_moved c.op h.names;
  }

  are_cells_moved : (first : ℕ) (widths : List ℕ) (cells : List CellData) → AreCells s first widths cells → AreCells t (a.slots + first) widths (map (numbered_cell (behind a)) cells)
  are_cells_moved first widths [] h = tt
  are_cells_moved first widths (c ∷ cells) h = (is_cell_moved first widths c h.0, are_cells_moved first (widths ++ c.width ∷ []) cells h.1)

  sets_moved : (first n : ℕ) (xs : List Write) → AllByRecursion (IsWrite s first n) xs → AllByRecursion (IsWrite t (a.slots + first) n) (map (numbered_write (behind a)) xs)
  sets_moved first n [] h = tt
  sets_moved first n (w.Reg r k ∷ xs) h = ((omega (arith, within.regs, h.0.0), (omega (arith, h.0.1.0), omega (arith, h.0.1.1))), sets_moved first n xs h.1)
  sets_moved first n (w.Mem m enable word new mask ∷ xs) h = (
    (omega (arith, within.mems, h.0.0), (omega (arith, h.0.1.0), omega (arith, h.0.1.1)), (omega (arith, h.0.2.0), omega (arith, h.0.2.1)), (omega (arith, h.0.3.0), omega (arith, h.0.3.1)), (omega (arith, h.0.4.0), omega (arith, h.0.4.1))),
    sets_moved first n xs h.1,
  )

  pub is_list_moved : (l : ListData) → IsList s l → IsList t (numbered_list (behind a) l)
  is_list_moved l h =
      let many = length-map l.cells (numbered_cell (behind a)) in
      let W : ℕ → Type 0 = λ n. AllByRecursion (IsWrite t (a.slots + l.first) n) (map (numbered_write (behind a)) l.sets) in
      record {
        cells = are_cells_moved l.first [] l.cells h.cells;
        sets = subst W (sym many) (sets_moved l.first (length l.cells) l.sets h.sets);
        slots = omega (arith, many, h.slots, within.slots);
      }

  states_moved : (xs : List StateData) → AllByRecursion (λ (x : StateData). IsList s x.cells) xs → AllByRecursion (λ (x : StateData). IsList t x.cells) (map (numbered_state (behind a)) xs)
  states_moved [] h = tt
  states_moved (x ∷ xs) h = (is_list_moved x.cells h.0, states_moved xs h.1)

  -- a table may run in a place where its part is
  pub is_table_moved : (x : TableData) → IsTable s x → IsTable t (numbered_table (behind a) x)
  is_table_moved x h = record { state = omega (arith, within.regs, h.state); states = states_moved x.states h.states }

-- ---- a cycle of a table

module _ (a s : Shape) (b : BankData) (within : IsWithin a s (shape_of b)) where
  state_moved : (xs : List StateData) (k : ℕ) → AllByRecursion (λ (x : StateData). IsList s x.cells) xs → part a s (state_cycled (slice_get (map (numbered_state (behind a)) xs) k) b) ≡ state_cycled (slice_get xs k) (part a s b)
  state_moved [] k h = refl
  state_moved (x ∷ xs) zero h = cycled_moved a s b x.cells within h.0
  state_moved (x ∷ xs) (suc k) h = state_moved xs k h.1

  -- one cycle of a table under the numbers of a part is, on this part, one cycle of the table alone
  pub table_moved : (x : TableData) → IsTable s x → part a s (table_cycled (numbered_table (behind a) x) b) ≡ table_cycled x (part a s b)
  table_moved x h =
      ap (λ (k : ℕ). part a s (state_cycled (slice_get (map (numbered_state (behind a)) x.states) k) b)) (get_in_part b.regs a.regs s.regs x.state 0 h.state)
      ∙ state_moved x.states (slice_index (part a s b).regs x.state) h.states

  state_elsewhere : (c t : Shape) (xs : List StateData) (k : ℕ) → AreApart a s c t → AllByRecursion (λ (x : StateData). IsList s x.cells) xs → part c t (state_cycled (slice_get (map (numbered_state (behind a)) xs) k) b) ≡ part c t b
  state_elsewhere c t [] k apart h = refl
  state_elsewhere c t (x ∷ xs) zero apart h = cycled_elsewhere a s c t b x.cells apart within h.0
  state_elsewhere c t (x ∷ xs) (suc k) apart h = state_elsewhere c t xs k apart h.1

  -- and it leaves each part that has nothing in common with it
  pub table_elsewhere : (c t : Shape) (x : TableData) → AreApart a s c t → IsTable s x → part c t (table_cycled (numbered_table (behind a) x) b) ≡ part c t b
  table_elsewhere c t x apart h = state_elsewhere c t x.states (slice_index b.regs (a.regs + x.state)) apart h.states

state_shape : (b : BankData) (xs : List StateData) (k : ℕ) → AllByRecursion (λ (x : StateData). IsList (shape_of b) x.cells) xs → shape_of (state_cycled (slice_get xs k) b) ≡ shape_of b
state_shape b [] k h = refl
state_shape b (x ∷ xs) zero h = list_shape b x.cells h.0
state_shape b (x ∷ xs) (suc k) h = state_shape b xs k h.1

pub table_shape : (b : BankData) (x : TableData) → IsTable (shape_of b) x → shape_of (table_cycled x b) ≡ shape_of b
table_shape b x h = state_shape b x.states (slice_index b.regs x.state) h.states

-- ---- the states of a program

module _ (xs : List State) (k : ℕ) (x : State) (lt : k < length xs) (read : x ≡ get_or xs k x) where
  there : k < length (map state_of xs)
  there = rw length-map lt

  same_state : get_or (map state_of xs) k (state_of x) ≡ state_of x
  same_state = get_or-map state_of xs k x (state_of x) lt ∙ ap state_of (sym read)

  pub state_may_run : (s : Shape) → AllByRecursion (λ (y : StateData). IsList s y.cells) (map state_of xs) → IsList s (list_of x.cells)
  state_may_run s h =
      let P : StateData → Type 0 = λ y. IsList s y.cells in
      subst P same_state (all-at P (map state_of xs) k (state_of x) there h)

  pub state_there : slice_get (map state_of xs) k ≡ Some (state_of x)
  state_there = slice_get_read (map state_of xs) (length (map state_of xs)) k (state_of x) refl there (sym same_state)
