-- Numbers that are raised and counted from the first again.
use Rattle.std.proofs.Common.{◌≡◌, ℕ, ◌+◌, ◌-◌, Bool, true, false, List, [], ◌∷◌, map, arith, refl, ap, ◌∙◌, Option, Some, None}
use Rattle.std.specs.Option.{option_map}
use Rattle.trap_runtime.specs.cell_form.specs.declared.bank.Port.{Port}
use Rattle.trap_runtime.specs.cell_form.specs.declared.cell.CellOp.{CellOp}
use Rattle.trap_runtime.specs.cell_form.specs.declared.cell.CellOp.TheVariants as o
use Rattle.trap_runtime.specs.cell_form.specs.declared.cell.Write.{Write}
use Rattle.trap_runtime.specs.cell_form.specs.declared.cell.Write.TheVariants as w
use Rattle.trap_runtime.specs.cell_form.specs.declared.table.Trap.{Trap}
use Rattle.trap_runtime.specs.cell_form.specs.declared.table.TrapCall.{TrapCall}
use Rattle.trap_runtime.specs.cell_form.specs.declared.table.TrapCall.TheVariants as call
use Rattle.trap_runtime.specs.cell_form.specs.Data.{CellData, ListData, StateData, TableData}
use Rattle.trap_runtime.specs.cell_form.specs.Sound.{Shape}
use Rattle.fab_join.specs.Numbers.{behind, from_first, numbered_op, numbered_cell, numbered_write, numbered_list, numbered_target, numbered_trap, numbered_state, numbered_table, numbered_place, numbered_port}

down : (a n : ℕ) → (a + n) - a ≡ n
down a n = omega arith

map_back : {X : Type 0} (f g : X → X) → ((x : X) → g (f x) ≡ x) → (xs : List X) → map g (map f xs) ≡ xs
map_back f g h [] = refl
map_back f g h (x ∷ xs) =
    let e = h x in
    let es = map_back f g h xs in
    cc

option_back : {X : Type 0} (f g : X → X) → ((x : X) → g (f x) ≡ x) → (x : Option X) → option_map g (option_map f x) ≡ x
option_back f g h None = refl
option_back f g h (Some x) = ap Some (h x)

slots_back : (a : ℕ) (xs : List ℕ) → map (λ n. n - a) (map (λ n. a + n) xs) ≡ xs
slots_back a xs = map_back (λ (n : ℕ). a + n) (λ (n : ℕ). n - a) (down a) xs

module _ (a : Shape) where
  op_back : (op : CellOp) → numbered_op (from_first a) (numbered_op (behind a) op) ≡ op
  op_back (o.Const n) = refl
  op_back (o.Reg r) = ap o.Reg (down a.regs r)
  op_back (o.Un op) = refl
  op_back (o.Bin op signed) = refl
  op_back o.Mux = refl
  op_back (o.Pick from) = refl
  op_back (o.PlaceIn from) = refl
  op_back o.Append = refl
  op_back (o.Resize signed) = refl
  op_back (o.MemRead m signed) = ap (λ n. o.MemRead n signed) (down a.mems m)

  cell_back : (c : CellData) → numbered_cell (from_first a) (numbered_cell (behind a) c) ≡ c
  cell_back c =
      ap (λ (x : CellOp). record { op = x; args = map (λ n. n - a.slots) (map (λ n. a.slots + n) c.args); width = c.width; low = c.low }) (op_back c.op)
      ∙ ap (λ (xs : List ℕ). record { op = c.op; args = xs; width = c.width; low = c.low }) (slots_back a.slots c.args)

  write_back : (x : Write) → numbered_write (from_first a) (numbered_write (behind a) x) ≡ x
  write_back (w.Reg r s) =
      let e = down a.regs r in
      let f = down a.slots s in
      cc
  write_back (w.Mem m enable word new mask) =
      let e = down a.mems m in
      let f = down a.slots enable in
      let g = down a.slots word in
      let h = down a.slots new in
      let k = down a.slots mask in
      cc

  list_back : (l : ListData) → numbered_list (from_first a) (numbered_list (behind a) l) ≡ l
  list_back l =
      let cells = map (numbered_cell (from_first a)) (map (numbered_cell (behind a)) l.cells) in
      let sets = map (numbered_write (from_first a)) (map (numbered_write (behind a)) l.sets) in
      ap (λ (n : ℕ). record { first = n; cells = cells; sets = sets }) (down a.slots l.first)
      ∙ ap (λ (cs : List CellData). record { first = l.first; cells = cs; sets = sets }) (map_back (numbered_cell (behind a)) (numbered_cell (from_first a)) cell_back l.cells)
      ∙ ap (λ (ws : List Write). record { first = l.first; cells = l.cells; sets = ws }) (map_back (numbered_write (behind a)) (numbered_write (from_first a)) write_back l.sets)

  target_back : (c : TrapCall) (n : ℕ) → numbered_target (from_first a) c (numbered_target (behind a) c n) ≡ n
  target_back (call.Print parts newline) n = down a.regs n
  target_back call.Finish n = down a.regs n
  target_back (call.Save name) n = down a.regs n
  target_back (call.Fopen name) n = down a.regs n
  target_back (call.Fread width) n = down a.regs n
  target_back call.Fgetc n = down a.regs n
  target_back call.Feof n = down a.regs n
  target_back call.Fclose n = down a.regs n
  target_back (call.ReadHex name width first last) n = down a.mems n

  trap_back : (t : Trap) → numbered_trap (from_first a) (numbered_trap (behind a) t) ≡ t
  trap_back t =
      let targets = option_map (numbered_target (from_first a) t.call) (option_map (numbered_target (behind a) t.call) t.target) in
      let T : List ℕ → ℕ → Option ℕ → Trap = λ xs n k. record { call = t.call; args = xs; answer = n; target = k } in
      ap (λ (xs : List ℕ). T xs ((a.regs + t.answer) - a.regs) targets) (slots_back a.slots t.args)
      ∙ ap (λ (n : ℕ). T t.args n targets) (down a.regs t.answer)
      ∙ ap (T t.args t.answer) (option_back (numbered_target (behind a) t.call) (numbered_target (from_first a) t.call) (target_back t.call) t.target)

  state_back : (s : StateData) → numbered_state (from_first a) (numbered_state (behind a) s) ≡ s
  state_back s =
      let traps = option_map (numbered_trap (from_first a)) (option_map (numbered_trap (behind a)) s.trap) in
      ap (λ (l : ListData). record { cells = l; trap = traps; nexts = s.nexts }) (list_back s.cells)
      ∙ ap (λ (t : Option Trap). record { cells = s.cells; trap = t; nexts = s.nexts }) (option_back (numbered_trap (behind a)) (numbered_trap (from_first a)) trap_back s.trap)

  pub table_back : (t : TableData) → numbered_table (from_first a) (numbered_table (behind a) t) ≡ t
  table_back t =
      ap (λ (n : ℕ). record { state = n; states = map (numbered_state (from_first a)) (map (numbered_state (behind a)) t.states) }) (down a.regs t.state)
      ∙ ap (λ (xs : List StateData). record { state = t.state; states = xs }) (map_back (numbered_state (behind a)) (numbered_state (from_first a)) state_back t.states)

  place_back : (mem : Bool) (n : ℕ) → numbered_place (from_first a) mem (numbered_place (behind a) mem n) ≡ n
  place_back true n = down a.mems n
  place_back false n = down a.regs n

  port_back : (p : Port) → numbered_port (from_first a) (numbered_port (behind a) p) ≡ p
  port_back p =
      let k = numbered_place (from_first a) p.mem (numbered_place (behind a) p.mem p.work) in
      let P : ℕ → ℕ → Port = λ m n. record p { value = m; work = n } in
      ap (λ (m : ℕ). P m k) (place_back p.mem p.value) ∙ ap (P p.value) (place_back p.mem p.work)

  pub ports_back : (ps : List Port) → map (numbered_port (from_first a)) (map (numbered_port (behind a)) ps) ≡ ps
  ports_back ps = map_back (numbered_port (behind a)) (numbered_port (from_first a)) port_back ps
