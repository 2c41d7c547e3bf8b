-- How many of a line were found to join.
use Rattle.std.proofs.Common.{◌≡◌, ℕ, ◌+◌, ◌<◌, ◌≤◌, List, [], ◌∷◌, length, get_or, take, drop, arith, ap, sym, ◌∙◌, subst, true, false}
use Rattle.std.specs.Arc.{arc_value}
use Rattle.vl_design.specs.declared.capacity.Cost.{Cost}
use Rattle.vl_design.specs.Costs.{Fits}
use Rattle.ten_core.specs.cell_form.specs.Views.{bank_of}
use Rattle.fab_model.specs.ten_parcel.specs.declared.tenant.Tenant.{Tenant}
use Rattle.fab_model.specs.Points.{cost_of, Point}
use Rattle.fab_model.specs.Fabrics.{joiners, plus, total, within}
use Rattle.fab_core.specs.Standing.{AreWaiting, IsAtRest}
use Rattle.fab_core.proofs.Costs.{joiners_end, joiners_more, joiners_none, not_within, plus_assoc, plus_nothing, total_more, within_from}
use Rattle.fab_core.proofs.Lists.{waiting_at, waiting_many}
use Rattle.fab_core.proofs.Resting.{cost_same}

abbrev pub cost_in : Tenant → Cost
cost_in t = (arc_value t.shell.engine.origin).image.cost

-- behind so many of a line, with which so much is used
pub record AreCounted (line : List Tenant) (used capacity : Cost) (i : ℕ) (all : Cost) : Type 0 where
  pub joins : (ps : List Point) → AreWaiting line ps → joiners capacity used ps ≡ i + joiners capacity all (drop i ps)
  pub uses : (ps : List Point) → AreWaiting line ps → all ≡ plus used (total (take i ps))

-- where a line isn't empty there is a point
some_point : (line : List Tenant) (ps : List Point) (i : ℕ) → i < length line → AreWaiting line ps → Point
some_point line [] i lt w = let many = waiting_many line [] w in absurd (omega (arith, many, lt))
some_point line (p ∷ ps) i lt w = p

module _ (line : List Tenant) (used capacity : Cost) (i : ℕ) (all : Cost) (h : AreCounted line used capacity i all) (t : Tenant) (lt : i < length line) (read : t ≡ get_or line i t) where
  cost_at : (ps : List Point) (p : Point) → AreWaiting line ps → cost_in t ≡ cost_of (get_or ps i p)
  cost_at ps p w =
      let rest : IsAtRest t (get_or ps i p) = subst (λ (x : Tenant). IsAtRest x (get_or ps i p)) (sym read) (waiting_at line ps i t p w lt) in
      cost_same t.shell (bank_of t.bank) (get_or ps i p) rest.point

  more_at : (ps : List Point) (p : Point) (next : Cost) → Fits all (cost_in t) capacity → next ≡ plus all (cost_in t) → AreWaiting line ps →
      (joiners capacity used ps ≡ (i + 1) + joiners capacity next (drop (i + 1) ps)) × (next ≡ plus used (total (take (i + 1) ps)))
  more_at ps p next fits e w =
      let many = waiting_many line ps w in
      let within_ps : i < length ps = omega (arith, many, lt) in
      let cost = cost_at ps p w in
      let now : next ≡ plus all (cost_of (get_or ps i p)) = e ∙ ap (plus all) cost in
      let ok : within (plus all (cost_of (get_or ps i p))) capacity ≡ true = ap (λ (x : Cost). within (plus all x) capacity) (sym cost) ∙ within_from all (cost_in t) capacity fits in
      let step = joiners_more capacity all ps i p within_ps ok in
      let same : joiners capacity (plus all (cost_of (get_or ps i p))) (drop (i + 1) ps) ≡ joiners capacity next (drop (i + 1) ps) = ap (λ (x : Cost). joiners capacity x (drop (i + 1) ps)) (sym now) in
      let before = h.joins ps w in (
        omega (arith, step, same, before),
        now ∙ ap (λ (x : Cost). plus x (cost_of (get_or ps i p))) (h.uses ps w) ∙ plus_assoc used (total (take i ps)) (cost_of (get_or ps i p)) ∙ ap (plus used) (sym (total_more ps i p within_ps)),
      )

  pub counted_more : (next : Cost) → Fits all (cost_in t) capacity → next ≡ plus all (cost_in t) → AreCounted line used capacity (i + 1) next
  counted_more next fits e = record {
    joins = λ ps w. (more_at ps (some_point line ps i lt w) next fits e w).0;
    uses = λ ps w. (more_at ps (some_point line ps i lt w) next fits e w).1;
  }

  stop_at : (ps : List Point) (p : Point) → (Fits all (cost_in t) capacity → ⊥) → AreWaiting line ps → i ≡ joiners capacity used ps
  stop_at ps p fails w =
      let many = waiting_many line ps w in
      let within_ps : i < length ps = omega (arith, many, lt) in
      let cost = cost_at ps p w in
      let out : within (plus all (cost_of (get_or ps i p))) capacity ≡ false = ap (λ (x : Cost). within (plus all x) capacity) (sym cost) ∙ not_within all (cost_in t) capacity fails in
      let step = joiners_none capacity all ps i p within_ps out in
      let before = h.joins ps w in
      omega (arith, step, before)

  pub counted_stop : (Fits all (cost_in t) capacity → ⊥) → (ps : List Point) → AreWaiting line ps → i ≡ joiners capacity used ps
  counted_stop fails ps w = stop_at ps (some_point line ps i lt w) fails w

pub counted_all : (line : List Tenant) (used capacity : Cost) (i : ℕ) (all : Cost) → AreCounted line used capacity i all → length line ≤ i → (ps : List Point) → AreWaiting line ps → i ≡ joiners capacity used ps
counted_all line used capacity i all h le ps w =
    let many = waiting_many line ps w in
    let none = joiners_end capacity all ps i (omega (arith, many, le)) in
    let before = h.joins ps w in
    omega (arith, none, before)
