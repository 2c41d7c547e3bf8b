-- What the histories of a report show of orders.
use Rattle.std.proofs.Common.{◌≡◌, ℕ, ◌<◌, Bool, List, [], ◌∷◌, length, get_or, map, cond, refl, sym, ap, ◌∙◌, arith}
use Rattle.std.specs.Prelude.{◌==◌, max}
use Rattle.fab_orders.specs.fab_lock.specs.Histories.{high}
use Rattle.host_report.specs.fab_model.specs.declared.note.Note.{Note}
use Rattle.fab_orders.specs.fab_bay.specs.declared.noted.Label.{Label}
use Rattle.fab_orders.specs.fab_bay.specs.declared.noted.NotedCore.{NotedCore}
use Rattle.fab_orders.specs.declared.outcomes.Order.{Order}
use Rattle.fab_orders.specs.declared.outcomes.Outcome.{Outcome}
use Rattle.fab_orders.specs.declared.outcomes.Start.{Start}
use Rattle.fab_orders.specs.Orders.{reached_in}
use Rattle.fab_orders.specs.Outcomes.{line_of, IsOutcome}
use Rattle.fab_orders.specs.Starts.{AreLabels, AreStarts}
use Rattle.host_judge.specs.host_form.specs.Histories as report
use Rattle.host_judge.specs.host_form.specs.Histories.{history_of, lines_of, notes_of, reached, Histories}
use Rattle.host_report.specs.Told.{told}
use Rattle.host_outcomes.specs.Reported.{histories_for, histories_of, number_in, numbers_from, renumbered}
use Rattle.host_outcomes.specs.Seen.{Sees}
use Rattle.host_outcomes.proofs.Bays.{lefts_known, lines_known}
use Rattle.host_outcomes.proofs.Carried.{nowhere_carried, same_lefts_at, same_lines_at, same_notes}
use Rattle.host_outcomes.proofs.Numbers.{same_number}
use Rattle.host_outcomes.proofs.Reports.{over_at_once}

-- ---- how far notes go

module _ (refused : List Bool) (n k : ℕ) (kl : k < length (numbers_from 0 refused)) (kn : number_in refused k ≡ n) where
  same_tenant : (t : ℕ) → (number_in refused t == n) ≡ (t == k)
  same_tenant t = ap (λ (m : ℕ). number_in refused t == m) (sym kn) ∙ same_number refused t k kl

  high_told : (ns : List Note) → high (λ m. m.entry) n (map (renumbered refused) (told ns)) ≡ high (λ (m : Note). m.entry) k ns
  high_told [] = refl
  high_told (m ∷ ns) =
      let rest = high (λ m. m.entry) n (map (renumbered refused) (told ns)) in
      ap (λ (b : Bool). cond b (max m.entry.to rest) rest) (same_tenant m.entry.tenant)
      ∙ ap (λ (v : ℕ). cond (m.entry.tenant == k) (max m.entry.to v) v) (high_told ns)

  reached_told : (bays : List NotedCore) → reached (histories_for refused bays) n ≡ reached_in k bays
  reached_told [] = refl
  reached_told (b ∷ bays) =
      ap (λ (v : ℕ). max v (reached (histories_for refused bays) n)) (high_told b.notes.items)
      ∙ ap (λ (v : ℕ). max (high (λ (m : Note). m.entry) k b.notes.items) v) (reached_told bays)

-- ---- orders

module _ (labels : List Label) (starts : List Start) (orders : List Order) (out : Outcome) (refused : List Bool) (a : AreLabels starts labels) (b : AreStarts labels starts)
    (h : IsOutcome labels starts orders out) (k n : ℕ) (d : Start) (lt : k < length starts) (kl : k < length (numbers_from 0 refused)) (kn : number_in refused k ≡ n) where
  abbrev others : Histories
  others = histories_for refused out.bays.items

  same : (g : ℕ) → notes_of n (history_of others g) ≡ map (renumbered refused) (notes_of k (history_of (histories_of out.bays.items) g))
  same = same_notes refused out.bays.items n k kl kn

  nowhere : ((g : ℕ) → lines_of k (history_of (histories_of out.bays.items) g) ≡ []) → (g : ℕ) → 0 < length (lines_of n (history_of others g)) → ⊥
  nowhere none g l =
      let z = ap (λ (ns : List report.Note). length ns) (nowhere_carried refused others (histories_of out.bays.items) n k same none g) in
      omega (arith, l, z)

  pub sees : Sees (histories_for refused out.bays.items) n k (get_or starts k d) out
  sees = record {
    moved = λ j g l.
        let z = same_lines_at refused others (histories_of out.bays.items) n k same j g in
        let v = lines_known labels starts orders out a h k j g d (get_or starts k d).transit lt in
        omega (arith, l, z, v);
    left = λ j g l.
        let z = same_lefts_at refused others (histories_of out.bays.items) n k same j g in
        let v = lefts_known labels starts orders out a h k j g in
        let w = h.lefts (line_of k j g) in
        omega (arith, l, z, v, w);
    far = reached_told refused n k kl kn out.bays.items;
    placed = λ p. λ end q ends. nowhere (over_at_once labels starts orders out a b h k d (get_or starts k d).transit lt end q ends) p.0 p.1;
  }
