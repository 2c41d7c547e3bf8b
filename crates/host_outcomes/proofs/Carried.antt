-- What a report says of a tenant, carried over to its number in the script.
use Rattle.std.proofs.Common.{◌≡◌, ℕ, zero, suc, ◌<◌, Bool, true, false, List, [], ◌∷◌, ◌++◌, length, filter, map, cond, refl, sym, ap, ◌∙◌, subst, Option, Some}
use Rattle.std.specs.Prelude.{◌==◌, ◌&&◌, if◌then◌else◌}
use Rattle.std.specs.List.{AllByRecursion}
use Rattle.std.proofs.lemmas.List.{length-map}
use Rattle.ten_files.specs.vl_design.specs.Alone.{Origin}
use Rattle.fab_orders.specs.fab_bay.specs.declared.noted.NotedCore.{NotedCore}
use Rattle.host_judge.specs.host_form.specs.Histories.{history_of, is_came, is_left, is_line, lefts_at, lines_at, lines_of, next_left, notes_of, times, visit_to, visits_in, visits_on, AreVisits, Histories, Note, Visit}
use Rattle.host_judge.specs.host_form.specs.Orders.{Put}
use Rattle.host_judge.specs.host_form.specs.Runs.{RunsAsNoted}
use Rattle.host_outcomes.specs.Reported.{histories_for, histories_of, number_in, numbers_from, renumbered}
use Rattle.host_outcomes.proofs.Numbers.{notes_renumbered}

-- what a fabric's history is where tenants have their numbers in the script
pub history_for : (refused : List Bool) (bays : List NotedCore) (g : ℕ) → history_of (histories_for refused bays) g ≡ map (renumbered refused) (history_of (histories_of bays) g)
history_for refused [] g = refl
history_for refused (b ∷ bs) zero = refl
history_for refused (b ∷ bs) (suc g) = history_for refused bs g

-- the notes of a tenant there
pub same_notes : (refused : List Bool) (bays : List NotedCore) (n k : ℕ) → k < length (numbers_from 0 refused) → number_in refused k ≡ n
    → (g : ℕ) → notes_of n (history_of (histories_for refused bays) g) ≡ map (renumbered refused) (notes_of k (history_of (histories_of bays) g))
same_notes refused bays n k kl kn g =
    ap (λ ns. notes_of n ns) (history_for refused bays g)
    ∙ ap (λ (m : ℕ). notes_of m (map (renumbered refused) (history_of (histories_of bays) g))) (sym kn)
    ∙ notes_renumbered refused k kl (history_of (histories_of bays) g)

module _ (refused : List Bool) where
  abbrev told_as : Note → Note
  told_as n = renumbered refused n

  -- ---- notes

  kept : (p : Note → Bool) → ((n : Note) → p (renumbered refused n) ≡ p n) → (ns : List Note) → filter p (map told_as ns) ≡ map told_as (filter p ns)
  kept p h [] = refl
  kept p h (n ∷ ns) = ap (λ (b : Bool). cond b (told_as n ∷ filter p (map told_as ns)) (filter p (map told_as ns))) (h n) ∙ step (p n) (kept p h ns)
    where
      step : (b : Bool) → filter p (map told_as ns) ≡ map told_as (filter p ns) → cond b (told_as n ∷ filter p (map told_as ns)) (filter p (map told_as ns)) ≡ map told_as (cond b (n ∷ filter p ns) (filter p ns))
      step true r = ap (λ zs. told_as n ∷ zs) r
      step false r = r

  left_kept : (ns : List Note) → next_left (map told_as ns) ≡ next_left ns
  left_kept [] = refl
  left_kept (n ∷ ns) = ap (λ (o : Option ℕ). if is_left n.entry.kind then Some n.entry.from else o) (left_kept ns)

  visits_kept : (g : ℕ) (ns : List Note) → visits_in g (map told_as ns) ≡ visits_in g ns
  visits_kept g [] = refl
  visits_kept g (n ∷ ns) =
      ap (λ (o : Option ℕ). (if is_came n.entry.kind then visit_to g n.entry.from o else []) ++ visits_in g (map told_as ns)) (left_kept ns)
      ∙ ap (λ (vs : List Visit). (if is_came n.entry.kind then visit_to g n.entry.from (next_left ns) else []) ++ vs) (visits_kept g ns)

  noted_kept : (o : Origin) (ns : List Note) → AllByRecursion (λ m. RunsAsNoted o m.origin) ns → AllByRecursion (λ m. RunsAsNoted o m.origin) (map told_as ns)
  noted_kept o [] h = tt
  noted_kept o (n ∷ ns) h = (h.0, noted_kept o ns h.1)

  -- ---- one tenant, in histories in which it has another number

  module _ (theirs ours : Histories) (n k : ℕ) (same : (g : ℕ) → notes_of n (history_of theirs g) ≡ map (renumbered refused) (notes_of k (history_of ours g))) where
    pub same_lines : (g : ℕ) → lines_of n (history_of theirs g) ≡ map told_as (lines_of k (history_of ours g))
    same_lines g = ap (λ ns. filter (λ m. is_line m.entry.kind) ns) (same g) ∙ kept (λ m. is_line m.entry.kind) (λ m. refl) (notes_of k (history_of ours g))

    pub same_lines_at : (j g : ℕ) → lines_at n j (history_of theirs g) ≡ lines_at k j (history_of ours g)
    same_lines_at j g =
        let ns = lines_of k (history_of ours g) in
        ap (λ ms. length (filter (λ m. m.entry.from == j) ms)) (same_lines g)
        ∙ ap (λ (ms : List Note). length ms) (kept (λ m. m.entry.from == j) (λ m. refl) ns)
        ∙ length-map (filter (λ m. m.entry.from == j) ns) told_as

    pub same_lefts_at : (j g : ℕ) → lefts_at n j (history_of theirs g) ≡ lefts_at k j (history_of ours g)
    same_lefts_at j g =
        let ns = notes_of k (history_of ours g) in
        ap (λ ms. length (filter (λ m. is_left m.entry.kind && m.entry.from == j) ms)) (same g)
        ∙ ap (λ (ms : List Note). length ms) (kept (λ m. is_left m.entry.kind && m.entry.from == j) (λ m. refl) ns)
        ∙ length-map (filter (λ m. is_left m.entry.kind && m.entry.from == j) ns) told_as

    same_visits : (g : ℕ) → visits_on theirs n g ≡ visits_on ours k g
    same_visits g = ap (λ ns. visits_in g ns) (same g) ∙ visits_kept g (notes_of k (history_of ours g))

    pub visits_carried : (from to : ℕ) (visits : List Visit) → AreVisits ours k from to visits → AreVisits theirs n from to visits
    visits_carried from to visits a = record {
      each = λ v. a.each v ∙ ap (λ (vs : List Visit). times v vs) (sym (same_visits v.fabric));
      ordered = a.ordered;
      chain = a.chain;
    }

    pub noted_carried : (o : Origin) → ((g : ℕ) → AllByRecursion (λ m. RunsAsNoted o m.origin) (lines_of k (history_of ours g)))
        → (g : ℕ) → AllByRecursion (λ m. RunsAsNoted o m.origin) (lines_of n (history_of theirs g))
    noted_carried o h g = subst (AllByRecursion (λ m. RunsAsNoted o m.origin)) (sym (same_lines g)) (noted_kept o (lines_of k (history_of ours g)) (h g))

    pub lefts_carried : (ps : List Put) → AllByRecursion (λ p. 0 < lefts_at k p.tick (history_of ours p.fabric)) ps → AllByRecursion (λ p. 0 < lefts_at n p.tick (history_of theirs p.fabric)) ps
    lefts_carried [] h = tt
    lefts_carried (p ∷ ps) h = (subst (λ (m : ℕ). 0 < m) (sym (same_lefts_at p.tick p.fabric)) h.0, lefts_carried ps h.1)

    pub nowhere_carried : ((g : ℕ) → lines_of k (history_of ours g) ≡ []) → (g : ℕ) → lines_of n (history_of theirs g) ≡ []
    nowhere_carried h g = same_lines g ∙ ap (λ ns. map told_as ns) (h g)
