-- What points take, how many of a line join, and what is left without one.
use Rattle.std.proofs.Common.{◌≡◌, ℕ, ◌+◌, ◌-◌, ◌<◌, ◌≤◌, List, [], ◌∷◌, ◌++◌, length, get_or, take, drop, arith, refl, ap, sym, ◌∙◌, suc, zero, true, false, ◌&&◌, inl, inr}
use Rattle.std.specs.Prelude.{nat_le}
use Rattle.std.specs.List.{remove}
use Rattle.std.proofs.lemmas.List.{at_drop_more, at_drop_all, take_more}
use Rattle.std.proofs.lemmas.Bool.{cases_Bool, and_parts, and_from, leb-true, le-leb, cond-true, cond-false, false_from_ne_true}
use Rattle.vl_design.specs.declared.capacity.Cost.{Cost}
use Rattle.vl_design.specs.Costs.{Fits}
use Rattle.fab_model.specs.Points.{cost_of, Point}
use Rattle.fab_model.specs.Fabrics.{joiners, nothing, plus, total, within}
pub use Rattle.vl_design.proofs.Shared.{cost_by}
pub use Rattle.fab_model.proofs.Shared.{fits-within as within_from}

pub plus_assoc : (a b c : Cost) → plus (plus a b) c ≡ plus a (plus b c)
plus_assoc a b c = cost_by (plus (plus a b) c) (plus a (plus b c)) (omega arith) (omega arith) (omega arith)

pub plus_nothing : (a : Cost) → plus a nothing ≡ a
plus_nothing a = cost_by (plus a nothing) a (omega arith) (omega arith) (omega arith)

pub nothing_plus : (a : Cost) → plus nothing a ≡ a
nothing_plus a = cost_by (plus nothing a) a (omega arith) (omega arith) (omega arith)

pub plus_swap : (a b c : Cost) → plus a (plus b c) ≡ plus b (plus a c)
plus_swap a b c = cost_by (plus a (plus b c)) (plus b (plus a c)) (omega arith) (omega arith) (omega arith)

-- ---- what fits

pub record IsWithin (a c : Cost) : Type 0 where
  pub regs : a.regs ≤ c.regs
  pub cells : a.cells ≤ c.cells
  pub mem : a.mem ≤ c.mem

pub within_parts : (a c : Cost) → within a c ≡ true → IsWithin a c
within_parts a c h =
    let x = and_parts (nat_le a.regs c.regs) (nat_le a.cells c.cells && nat_le a.mem c.mem) h in
    let y = and_parts (nat_le a.cells c.cells) (nat_le a.mem c.mem) x.1 in
    record { regs = leb-true a.regs c.regs x.0; cells = leb-true a.cells c.cells y.0; mem = leb-true a.mem c.mem y.1 }

pub fits_from : (u m c : Cost) → within (plus u m) c ≡ true → Fits u m c
fits_from u m c h = let w = within_parts (plus u m) c h in record { regs = w.regs; cells = w.cells; mem = w.mem }

pub not_within : (u m c : Cost) → (Fits u m c → ⊥) → within (plus u m) c ≡ false
not_within u m c h = false_from_ne_true (within (plus u m) c) (λ e. h (fits_from u m c e))

pub within_lower : (a b c : Cost) → IsWithin a b → within b c ≡ true → within a c ≡ true
within_lower a b c below h =
    let w = within_parts b c h in
    let f : Fits nothing a c = record {
      regs = let x = below.regs in let y = w.regs in omega arith;
      cells = let x = below.cells in let y = w.cells in omega arith;
      mem = let x = below.mem in let y = w.mem in omega arith;
    } in
    ap (λ (x : Cost). within x c) (sym (nothing_plus a)) ∙ within_from nothing a c f

-- ---- totals

pub total-append : (ps qs : List Point) → total (ps ++ qs) ≡ plus (total ps) (total qs)
total-append [] qs = sym (nothing_plus (total qs))
total-append (p ∷ ps) qs = ap (plus (cost_of p)) (total-append ps qs) ∙ sym (plus_assoc (cost_of p) (total ps) (total qs))

pub total_more : (ps : List Point) (i : ℕ) (d : Point) → i < length ps → total (take (i + 1) ps) ≡ plus (total (take i ps)) (cost_of (get_or ps i d))
total_more ps i d lt =
    ap total (take_more ps i d lt) ∙ total-append (take i ps) (get_or ps i d ∷ []) ∙ ap (plus (total (take i ps))) (plus_nothing (cost_of (get_or ps i d)))

pub total-remove : (ps : List Point) (k : ℕ) (d : Point) → k < length ps → plus (cost_of (get_or ps k d)) (total (remove ps k)) ≡ total ps
total-remove [] k d lt = absurd (omega arith)
total-remove (p ∷ ps) zero d lt = refl
total-remove (p ∷ ps) (suc k) d lt =
    plus_swap (cost_of (get_or ps k d)) (cost_of p) (total (remove ps k)) ∙ ap (plus (cost_of p)) (total-remove ps k d (omega arith))

-- ---- those that join

pub joiners_more : (c used : Cost) (ps : List Point) (i : ℕ) (d : Point) → i < length ps → within (plus used (cost_of (get_or ps i d))) c ≡ true →
    joiners c used (drop i ps) ≡ suc (joiners c (plus used (cost_of (get_or ps i d))) (drop (i + 1) ps))
joiners_more c used ps i d lt fits =
    at_drop_more (joiners c used) ps i d lt
    ∙ cond-true (within (plus used (cost_of (get_or ps i d))) c) (suc (joiners c (plus used (cost_of (get_or ps i d))) (drop (i + 1) ps))) 0 fits

pub joiners_none : (c used : Cost) (ps : List Point) (i : ℕ) (d : Point) → i < length ps → within (plus used (cost_of (get_or ps i d))) c ≡ false → joiners c used (drop i ps) ≡ 0
joiners_none c used ps i d lt fits =
    at_drop_more (joiners c used) ps i d lt
    ∙ cond-false (within (plus used (cost_of (get_or ps i d))) c) (suc (joiners c (plus used (cost_of (get_or ps i d))) (drop (i + 1) ps))) 0 fits

pub joiners_end : (c used : Cost) (ps : List Point) (i : ℕ) → length ps ≤ i → joiners c used (drop i ps) ≡ 0
joiners_end c used ps i le = at_drop_all (joiners c used) ps i le

-- with those that join, what is used is within the capacity
pub joined_within : (c used : Cost) (ps : List Point) → within used c ≡ true → within (plus used (total (take (joiners c used ps) ps))) c ≡ true
joined_within c used [] h = ap (λ (x : Cost). within x c) (plus_nothing used) ∙ h
joined_within c used (p ∷ ps) h = elim (cases_Bool (within (plus used (cost_of p)) c)) [
  | inl e ↦
      let n : joiners c used (p ∷ ps) ≡ suc (joiners c (plus used (cost_of p)) ps) = cond-true (within (plus used (cost_of p)) c) (suc (joiners c (plus used (cost_of p)) ps)) 0 e in
      ap (λ (k : ℕ). within (plus used (total (take k (p ∷ ps)))) c) n
      ∙ ap (λ (x : Cost). within x c) (sym (plus_assoc used (cost_of p) (total (take (joiners c (plus used (cost_of p)) ps) ps))))
      ∙ joined_within c (plus used (cost_of p)) ps e
  | inr e ↦
      let n : joiners c used (p ∷ ps) ≡ 0 = cond-false (within (plus used (cost_of p)) c) (suc (joiners c (plus used (cost_of p)) ps)) 0 e in
      ap (λ (k : ℕ). within (plus used (total (take k (p ∷ ps)))) c) n ∙ ap (λ (x : Cost). within x c) (plus_nothing used) ∙ h
]
