-- What shells of tenants at rest are.
use Rattle.std.proofs.Common.{◌≡◌, ℕ, List, [], ◌∷◌, refl, ap, sym, ◌∙◌, true, false, not, ◌&&◌, Bool, inl, inr, None}
use Rattle.std.specs.Arc.{arc_value}
use Rattle.std.specs.Prelude.{slice_get, if◌then◌else◌}
use Rattle.std.proofs.lemmas.Bool.{cases_Bool, or_cases, or_left, or_right, and_parts, and_from, not_from_false, cond-true, both_ways}
use Rattle.vl_design.specs.Costs.{saturated_cost}
use Rattle.vl_design.specs.Alone as alone
use Rattle.vl_design.specs.Cost.{cost}
use Rattle.vl_design.specs.Syntax.{Flat}
use Rattle.ten_core.specs.cell_form.specs.Data.{BankData}
use Rattle.ten_core.specs.sub_nodes.specs.Code.{table_of}
use Rattle.ten_core.specs.sub_nodes.specs.Cycles.{rises}
use Rattle.ten_shell.specs.declared.shell.Shell.{Shell}
use Rattle.ten_shell.specs.Leaving.{why_in}
use Rattle.ten_shell.specs.Shells.{flat_in, is_left, left_in, rests_in, run_of, Rests}
use Rattle.fab_model.specs.Points.{cost_of, due, rests, run_in, Point}
use Rattle.fab_core.specs.Standing.{IsPoint}
use Rattle.fab_core.proofs.Points.{run-by}

nothing_left : (names : List (List ℕ)) → not (is_left names) ≡ true → names ≡ []
nothing_left [] h = refl
nothing_left (name ∷ names) h = cc

nothing_of : (names : List (List ℕ)) → names ≡ [] → not (is_left names) ≡ true
nothing_of names e = ap (λ ns. not (is_left ns)) e

module _ (s : Shell) (b : BankData) (p : Point) (h : IsPoint s b p) where
  flat_same : flat_in s ≡ (run_in p).flat
  flat_same = ap (λ (o : alone.Origin). o.flat) (run-by h)

  rises_same : rises (slice_get (table_of (flat_in s)).nodes p.stage.node) ≡ rises (slice_get (table_of (run_in p).flat).nodes p.stage.node)
  rises_same = ap (λ (d : Flat). rises (slice_get (table_of d).nodes p.stage.node)) flat_same

  left_at_boundary : p.stage.state.finished ≡ false → rises (slice_get (table_of (flat_in s)).nodes p.stage.node) ≡ true → left_in s ≡ p.left
  left_at_boundary on there = h.left (and_from (not p.stage.state.finished) (rises (slice_get (table_of (flat_in s)).nodes p.stage.node)) (not_from_false p.stage.state.finished on) there)

  pub cost_same : (arc_value s.engine.origin).image.cost ≡ cost_of p
  cost_same = h.stands.at.image.costs ∙ ap (λ (o : alone.Origin). saturated_cost (cost o.flat)) (run-by h)

  module _ (r : rests p ≡ true) where
    rest_there : p.stage.state.finished ≡ false → (rises (slice_get (table_of (run_in p).flat).nodes p.stage.node) ≡ true) × (not (is_left p.left) ≡ true)
    rest_there on = elim (or_cases p.stage.state.finished (rises (slice_get (table_of (run_in p).flat).nodes p.stage.node) && not (is_left p.left)) r) [
      | inl e ↦ absurd (both_ways p.stage.state.finished on e)
      | inr e ↦ and_parts (rises (slice_get (table_of (run_in p).flat).nodes p.stage.node)) (not (is_left p.left)) e
    ]

    none_left : p.stage.state.finished ≡ false → left_in s ≡ []
    none_left on = left_at_boundary on (rises_same ∙ (rest_there on).0) ∙ nothing_left p.left (rest_there on).1

    pub rests_from : Rests s p.stage
    rests_from = record {
      rests = elim (cases_Bool p.stage.state.finished) [
        | inl e ↦ or_left p.stage.state.finished (rises (slice_get (table_of (flat_in s)).nodes p.stage.node)) e
        | inr e ↦ or_right p.stage.state.finished (rises (slice_get (table_of (flat_in s)).nodes p.stage.node)) (rises_same ∙ (rest_there e).0)
      ];
      saved = none_left;
    }

    pub rests_shell : rests_in s p.stage ≡ true
    rests_shell = elim (cases_Bool p.stage.state.finished) [
      | inl e ↦ or_left p.stage.state.finished (rises (slice_get (table_of (flat_in s)).nodes p.stage.node) && not (is_left (left_in s))) e
      | inr e ↦ or_right p.stage.state.finished (rises (slice_get (table_of (flat_in s)).nodes p.stage.node) && not (is_left (left_in s)))
          (and_from (rises (slice_get (table_of (flat_in s)).nodes p.stage.node)) (not (is_left (left_in s))) (rises_same ∙ (rest_there e).0) (nothing_of (left_in s) (none_left e)))
    ]

    pub due_same : (if rests_in s p.stage then why_in (run_of s).plan s.stopped s.moved p.stage.state else None) ≡ due p
    due_same =
        cond-true (rests_in s p.stage) (why_in (run_of s).plan s.stopped s.moved p.stage.state) None rests_shell
        ∙ ap (λ (o : alone.Origin). why_in o.plan s.stopped s.moved p.stage.state) (run-by h)
        ∙ ap (λ (x : Bool). why_in (run_in p).plan x s.moved p.stage.state) h.stopped
        ∙ ap (λ (x : Bool). why_in (run_in p).plan p.stopped x p.stage.state) h.moved
        ∙ sym (cond-true (rests p) (why_in (run_in p).plan p.stopped p.moved p.stage.state) None r)

-- another point for which the same shell stands is at rest too
pub rests_other : (s : Shell) (b : BankData) (p q : Point) → IsPoint s b p → IsPoint s b q → rests p ≡ true → rests q ≡ true
rests_other s b p q h g r =
    let finished : p.stage.state.finished ≡ q.stage.state.finished = sym h.stands.at.finished ∙ g.stands.at.finished in
    let node : p.stage.node ≡ q.stage.node = sym h.stands.at.next ∙ g.stands.at.next in
    elim (cases_Bool p.stage.state.finished) [
      | inl e ↦ or_left q.stage.state.finished (rises (slice_get (table_of (run_in q).flat).nodes q.stage.node) && not (is_left q.left)) (sym finished ∙ e)
      | inr e ↦
          let on : q.stage.state.finished ≡ false = sym finished ∙ e in
          let there : rises (slice_get (table_of (flat_in s)).nodes q.stage.node) ≡ true =
          ap (λ (n : ℕ). rises (slice_get (table_of (flat_in s)).nodes n)) (sym node) ∙ rises_same s b p h ∙ (rest_there s b p h r e).0 in
          let none : q.left ≡ [] = sym (left_at_boundary s b q g on there) ∙ none_left s b p h r e in
          or_right q.stage.state.finished (rises (slice_get (table_of (run_in q).flat).nodes q.stage.node) && not (is_left q.left))
          (and_from (rises (slice_get (table_of (run_in q).flat).nodes q.stage.node)) (not (is_left q.left)) (sym (rises_same s b q g) ∙ there) (nothing_of q.left none))
    ]
