-- How many signals nonblocking assignments name.
use Rattle.std.proofs.Common.{◌≡◌, ◌≤◌, ℕ, zero, suc, Bool, List, length, refl, ap, arith}
use Rattle.std.specs.Prelude.{if◌then◌else◌}
use Rattle.vl_design.specs.Syntax.{Flat}
use Rattle.cell_waves.specs.Copies.{count_to, marked_one}
use Rattle.ten_form.specs.Delays.{is_delayed}
use Rattle.cell_states.specs.Marks.{AreDelayed}

abbrev one-if : Bool → ℕ
one-if q = if q then 1 else 0

-- the signals that are marked are those that nonblocking assignments name
pub count-same : (d : Flat) (marks : List Bool) → AreDelayed d marks → (n : ℕ) → n ≤ length d.rows → count_to (marked_one marks) n ≡ count_to (is_delayed d) n
count-same d marks h zero le = refl
count-same d marks h (suc n) le =
    let i = count-same d marks h n (omega (arith, le)) in
    let e : marked_one marks n ≡ is_delayed d n = h.each n (omega (arith, le)) in
    let f : one-if (marked_one marks n) ≡ one-if (is_delayed d n) = ap one-if e in
    omega (arith, i, f)
