-- Places of signals in a bank.
use Rattle.std.proofs.Common.{◌≡◌, ℕ, ◌+◌, ◌<◌, ◌≤◌, List, [], ◌∷◌, ◌++◌, length, Some, refl, ◌∙◌, arith, length-append}
use Rattle.std.specs.Prelude.{slice_index, slice_get}
use Rattle.std.proofs.lemmas.List.{length-map}
use Rattle.std.proofs.lemmas.Option.{slice_get_within}
use Rattle.vl_design.specs.Syntax.{Row}
use Rattle.vl_design.specs.Width.{Names}
use Rattle.vl_design.specs.Sound.{HasValue, IsMem}
use Rattle.cell_emit.specs.cell_form.specs.declared.bank.Bank.{Bank}
use Rattle.cell_emit.specs.cell_form.specs.Sound.{shape_of}
use Rattle.cell_emit.specs.cell_form.specs.Views.{bank_of}
use Rattle.cell_emit.specs.Reads.{HasPlaces}
use Rattle.cell_emit.proofs.Reading.{each-more}
use Rattle.cell_emit.proofs.Samples.{named}
use Rattle.machine_rows.specs.Benches.{IsPlaced, ArePlaced, Extends}

pub placed-stays : (r : Row) (place regs mems regs' mems' : ℕ) → regs ≤ regs' → mems ≤ mems' → IsPlaced r place regs mems → IsPlaced r place regs' mems'
placed-stays r place regs mems regs' mems' le me h = record {
  signal = λ k. let lt = h.signal k in omega arith;
  memory = λ k. let lt = h.memory k in omega arith;
}

-- the first n signals have their places
pub record Placing (rows : List Row) (places : List ℕ) (n : ℕ) (b : Bank) : Type 0 where
  pub many : length places ≡ n
  pub each : (k : ℕ) (r : Row) → k < n → slice_get rows k ≡ Some r → IsPlaced r (slice_index places k) (length b.regs.items) (length b.mems.items)

pub placing-none : (rows : List Row) (b : Bank) → Placing rows [] 0 b
placing-none rows b = record { many = refl; each = λ k r lt e. absurd (omega arith) }

pub placing-more : (rows : List Row) (places : List ℕ) (n : ℕ) (b b' : Bank) (r : Row) (place : ℕ) → slice_get rows n ≡ Some r → Placing rows places n b → Extends b b' →
    IsPlaced r place (length b'.regs.items) (length b'.mems.items) → Placing rows (places ++ place ∷ []) (n + 1) b'
placing-more rows places n b b' r place at h extends one =
    let P : ℕ → Row → ℕ → Type 0 = λ k q x. IsPlaced q x (length b'.regs.items) (length b'.mems.items) in
    let many = h.many in
    let long = length-append places (place ∷ []) in
    record {
      many = omega arith;
      each = each-more P 0 rows n places place r h.many at
          (λ k q lt is. placed-stays q (slice_index places k) (length b.regs.items) (length b.mems.items) (length b'.regs.items) (length b'.mems.items) extends.regs extends.mems (h.each k q lt is)) one;
    }

pub placing-all : (rows : List Row) (places : List ℕ) (n : ℕ) (b : Bank) → n ≡ length rows → Placing rows places n b → ArePlaced rows places (length b.regs.items) (length b.mems.items)
placing-all rows places n b e h =
    record { many = h.many ∙ e; each = λ k r is. let lt = slice_get_within rows k r is in h.each k r (omega arith) is }

-- and two registers more
pub places-there : (names : Names) (places : List ℕ) (time answer : ℕ) (b c d : Bank) → ArePlaced names.rows places (length b.regs.items) (length b.mems.items) →
    time < length c.regs.items → Extends b c → answer < length d.regs.items → Extends c d → HasPlaces names places time answer (shape_of (bank_of d))
places-there names places time answer b c d h t bc a cd =
    let first = bc.regs in
    let second = cd.regs in
    let mems = bc.mems in
    let more = cd.mems in
    let long = length-map d.mems.items (λ m. m.items) in
    record {
      signals = λ k i.
          let x = named HasValue (slice_get names.rows k) i in
          let lt = (h.each k x.row x.is).signal x.kind in
          omega arith;
      memories = λ m i.
          let x = named IsMem (slice_get names.rows m) i in
          let lt = (h.each m x.row x.is).memory x.kind in
          omega arith;
      ticks = omega arith;
      last = omega arith;
    }
