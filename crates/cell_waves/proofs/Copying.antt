-- Registers of signals in slots, one signal after the other.
use Rattle.std.proofs.Common.{◌≡◌, ℕ, ◌+◌, ◌*◌, ◌<◌, ◌≤◌, true, false, List, [], ◌∷◌, ◌++◌, length, take, Option, Some, None, refl, sym, ap, ◌∙◌, arith, subst, length-append}
use Rattle.std.specs.Prelude.{if◌then◌else◌, slice_get, slice_index_or}
use Rattle.std.proofs.lemmas.Option.{slice_get_within}
use Rattle.ten_form.specs.vl_design.specs.Syntax.{Row}
use Rattle.ten_form.specs.vl_design.specs.Sound.{HasValue, IsWidth}
use Rattle.cell_emit.specs.vl_sites.specs.Others.{is_other}
use Rattle.cell_emit.specs.cell_form.specs.Data.{ListData}
use Rattle.cell_emit.specs.Slots.{Grows, Longer}
use Rattle.cell_emit.proofs.Frames.{longer-grows, longer-same, longer-then, longer-weaken}
use Rattle.cell_emit.specs.Entries.{HasCopy, read_count}
use Rattle.cell_emit.proofs.Reading.{copy-stays, read-more, read-all, each-more}
use Rattle.cell_emit.specs.Pendings.{slot_of}
use Rattle.cell_waves.specs.Copies.{HasSignals, AreCopies}

-- the first n of so many signals have their slots, but for loop variables and clocks
pub record Copied (rows : List Row) (copy many n : ℕ) (old new : ListData) (es : List (Option ℕ)) : Type 0 where
  pub longer : Longer (HasSignals many) (read_count (take n rows)) old new
  pub long : length es ≡ n
  pub each : (k : ℕ) (r : Row) → k < n → slice_get rows k ≡ Some r → HasValue r.kind → is_other r.kind ≡ false → IsWidth r.width → HasCopy new r.width (4 * k + copy) (slice_index_or es k None)
  pub others : (k : ℕ) (r : Row) → k < n → slice_get rows k ≡ Some r → is_other r.kind ≡ true → slice_index_or es k None ≡ None

pub copied-none : (rows : List Row) (copy many : ℕ) (l : ListData) → Copied rows copy many 0 l l []
copied-none rows copy many l = record { longer = longer-same (HasSignals many) l; long = refl; each = λ k r lt. absurd (omega arith); others = λ k r lt. absurd (omega arith) }

pub copied-more : (rows : List Row) (copy many n : ℕ) (old mid new : ListData) (es : List (Option ℕ)) (r : Row) (e : Option ℕ) → copy ≤ 6 → n < many → slice_get rows n ≡ Some r → Copied rows copy many n old mid es →
    Longer (λ s. 4 * n + copy < s.regs) (if is_other r.kind then 0 else 1) mid new → (HasValue r.kind → is_other r.kind ≡ false → IsWidth r.width → HasCopy new r.width (4 * n + copy) e) →
    (is_other r.kind ≡ true → e ≡ None) → Copied rows copy many (n + 1) old new (es ++ e ∷ [])
copied-more rows copy many n old mid new es r e small lt at h longer one other =
    let P : ℕ → Row → Option ℕ → Type 0 = λ k q x. HasValue q.kind → is_other q.kind ≡ false → IsWidth q.width → HasCopy new q.width (4 * k + copy) x in
    let Q : ℕ → Row → Option ℕ → Type 0 = λ k q x. is_other q.kind ≡ true → x ≡ None in
    let c : ℕ = if is_other r.kind then 0 else 1 in
    let grows = longer-grows (λ s. 4 * n + copy < s.regs) c mid new longer in
    let long = h.long in
    let H = HasSignals many in
    let here : Longer H c mid new = longer-weaken (λ s. 4 * n + copy < s.regs) H c c mid new (λ s f. omega (arith, f, small, lt)) (omega arith) longer in
    record {
      longer = subst (λ m. Longer H m old new) (sym (read-more rows n r at)) (longer-then H (read_count (take n rows)) c old mid new h.longer here);
      long = length-append es (e ∷ []) ∙ ap (λ m. m + 1) long;
      each = each-more P None rows n es e r long at (λ k q below is v o w. copy-stays mid new q.width (4 * k + copy) (slice_index_or es k None) grows (h.each k q below is v o w)) one;
      others = each-more Q None rows n es e r long at h.others other;
    }

pub copied-all : (rows : List Row) (copy many n : ℕ) (old new : ListData) (es : List (Option ℕ)) → n ≡ length rows → Copied rows copy many n old new es → AreCopies rows copy new es
copied-all rows copy many n old new es e h = record {
  many = h.long ∙ e;
  each = λ k r is. (let lt = slice_get_within rows k r is in h.each k r (omega (arith, lt, e)) is);
  others = λ k r is. (let lt = slice_get_within rows k r is in h.others k r (omega (arith, lt, e)) is);
}

pub copied-longer : (rows : List Row) (copy many n : ℕ) (old new : ListData) (es : List (Option ℕ)) → n ≡ length rows → Copied rows copy many n old new es → Longer (HasSignals many) (read_count rows) old new
copied-longer rows copy many n old new es e h = subst (λ m. Longer (HasSignals many) m old new) (read-all rows n (omega arith)) h.longer

-- more cells leave them
pub copies-stay : (rows : List Row) (copy : ℕ) (old new : ListData) (es : List (Option ℕ)) → Grows old new → AreCopies rows copy old es → AreCopies rows copy new es
copies-stay rows copy old new es g h =
    record { many = h.many; each = λ k r is v o w. copy-stays old new r.width (4 * k + copy) (slot_of es k) g (h.each k r is v o w); others = h.others }
