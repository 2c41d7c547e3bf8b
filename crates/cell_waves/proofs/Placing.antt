-- A bank for a design has the places of its signals.
use Rattle.std.proofs.Common.{◌≡◌, ℕ, zero, suc, ◌+◌, ◌*◌, ◌≤◌, List, [], ◌∷◌, length, map, Option, Some, refl, ap, ◌∙◌, arith, subst}
use Rattle.std.specs.Prelude.{slice_get, slice_index}
use Rattle.std.proofs.lemmas.List.{length-map}
use Rattle.std.proofs.lemmas.Option.{slice_get_within}
use Rattle.ten_form.specs.vl_design.specs.declared.design.SigKind.{SigKind}
use Rattle.ten_form.specs.vl_design.specs.declared.design.SigKind.TheVariants.{Net, Var, Comb, Loop, Mem, Clock}
use Rattle.ten_form.specs.vl_design.specs.declared.design.Signal.{Signal}
use Rattle.ten_form.specs.vl_design.specs.Rows.{row_of}
use Rattle.ten_form.specs.vl_design.specs.Syntax.{Row, Flat}
use Rattle.ten_form.specs.vl_design.specs.Width.{names_of}
use Rattle.ten_form.specs.vl_design.specs.Sound.{HasValue, IsMem, IsSignal, IsMemory}
use Rattle.cell_emit.specs.cell_form.specs.Data.{ListData}
use Rattle.cell_emit.specs.cell_form.specs.Sound.{Shape}
use Rattle.cell_emit.specs.Reads.{HasPlaces}
use Rattle.cell_emit.proofs.Samples.{named}
use Rattle.ten_form.specs.Registers.{place, places_from, places, register_count}
use Rattle.cell_waves.specs.Copies.{AreCopies}

place-from : (f : ℕ → ℕ) (j : ℕ) (rows : List Row) (k : ℕ) (r : Row) → slice_get rows k ≡ Some r → slice_index (places_from f j rows) k ≡ place f r.kind (j + k)
place-from f j [] k r e = absurd (cc)
place-from f j (q ∷ rows) zero r e =
    let same : q ≡ r = cc in
    let at : j ≡ j + 0 = omega arith in
    ap (λ (x : Row). place f x.kind j) same ∙ ap (λ n. place f r.kind n) at
place-from f j (q ∷ rows) (suc k) r e =
    let at : (j + 1) + k ≡ j + suc k = omega arith in
    place-from f (j + 1) rows k r e ∙ ap (λ n. place f r.kind n) at

signal-kind : (f : ℕ → ℕ) (kind : SigKind) (k : ℕ) → HasValue kind → place f kind k ≡ f k
signal-kind f Net k h = refl
signal-kind f Var k h = refl
signal-kind f Comb k h = refl
signal-kind f Loop k h = refl
signal-kind f Mem k h = absurd h
signal-kind f Clock k h = refl

memory-kind : (f : ℕ → ℕ) (kind : SigKind) (k : ℕ) → IsMem kind → place f kind k ≡ k
memory-kind f Net k h = absurd h
memory-kind f Var k h = absurd h
memory-kind f Comb k h = absurd h
memory-kind f Loop k h = absurd h
memory-kind f Mem k h = refl
memory-kind f Clock k h = absurd h

zero-plus : (k : ℕ) → 0 + k ≡ k
zero-plus k = omega arith

pub signal-place : (d : Flat) (f : ℕ → ℕ) (k : ℕ) → IsSignal (names_of d) k → slice_index (places f d.rows) k ≡ f k
signal-place d f k i =
    let n = named HasValue (slice_get d.rows k) i in
    let r = n.row in
    place-from f 0 d.rows k r n.is ∙ signal-kind f r.kind (0 + k) n.kind ∙ ap f (zero-plus k)

pub memory-place : (d : Flat) (f : ℕ → ℕ) (m : ℕ) → IsMemory (names_of d) m → slice_index (places f d.rows) m ≡ m
memory-place d f m i =
    let n = named IsMem (slice_get d.rows m) i in
    let r = n.row in
    place-from f 0 d.rows m r n.is ∙ memory-kind f r.kind (0 + m) n.kind ∙ zero-plus m

-- so many registers and memories are there
pub record HasRoom (d : Flat) (z : Shape) : Type 0 where
  pub regs : register_count (length d.rows) ≤ z.regs
  pub mems : length d.rows ≤ z.mems

pub room-places : (d : Flat) (copy : ℕ) (z : Shape) → copy ≤ 6 → HasRoom d z → HasPlaces (names_of d) (places (λ k. 4 * k + copy) d.rows) 2 1 z
room-places d copy z small room =
    let regs = room.regs in
    let mems = room.mems in
    record {
      signals = λ k i. (let n = named HasValue (slice_get d.rows k) i in
          let lt = slice_get_within d.rows k n.row n.is in
          let e = signal-place d (λ j. 4 * j + copy) k i in
          omega (arith, lt, e, regs, small));
      memories = λ m i. (let n = named IsMem (slice_get d.rows m) i in
          let lt = slice_get_within d.rows m n.row n.is in
          let e = memory-place d (λ j. 4 * j + copy) m i in
          omega (arith, lt, e, mems));
      ticks = omega (arith, regs);
      last = omega (arith, regs);
    }

from-length : (f : ℕ → ℕ) (j : ℕ) (rows : List Row) → length (places_from f j rows) ≡ length rows
from-length f j [] = refl
from-length f j (r ∷ rows) = ap suc (from-length f (j + 1) rows)

pub places-length : (f : ℕ → ℕ) (rows : List Row) → length (places f rows) ≡ length rows
places-length f rows = from-length f 0 rows

-- ---- said of a design's list of signals

pub places-of : (xs signals : List Signal) (ps : List ℕ) (copy : ℕ) → signals ≡ xs → ps ≡ places (λ k. 4 * k + copy) (map row_of signals) → ps ≡ places (λ k. 4 * k + copy) (map row_of xs)
places-of xs signals ps copy e is = subst (λ ys. ps ≡ places (λ k. 4 * k + copy) (map row_of ys)) e is

pub places-many : (xs signals : List Signal) (ps : List ℕ) (copy : ℕ) → signals ≡ xs → ps ≡ places (λ k. 4 * k + copy) (map row_of signals) → length ps ≡ length xs
places-many xs signals ps copy e is = ap (λ (ns : List ℕ). length ns) (places-of xs signals ps copy e is) ∙ places-length (λ k. 4 * k + copy) (map row_of xs) ∙ length-map xs row_of

pub copies-of : (xs signals : List Signal) (copy : ℕ) (l : ListData) (es : List (Option ℕ)) → signals ≡ xs → AreCopies (map row_of signals) copy l es → AreCopies (map row_of xs) copy l es
copies-of xs signals copy l es e h = subst (λ ys. AreCopies (map row_of ys) copy l es) e h
