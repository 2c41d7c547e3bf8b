-- A script has one report, and leaves one set of files.
use Rattle.std.proofs.Common.{◌≡◌, ℕ, suc, ◌+◌, ◌≤◌, List, [], ◌∷◌, map, Option, refl, sym, subst, subst₂, ap, ap₂, ◌∙◌, arith}
use Rattle.host_text.specs.vl_base.specs.declared.place.Place.{Place}
use Rattle.host_text.specs.vl_design.specs.declared.design.End.{End}
use Rattle.host_text.specs.vl_design.specs.Queue.{Queue}
use Rattle.host_text.specs.vl_design.specs.Snapshots.{Saved}
use Rattle.host_text.specs.vl_design.specs.Alone.{Origin, Boundary, FreeSave, Keeps, saved_at, first_tick}
use Rattle.host_text.specs.vl_design.proofs.Settling.{ends_once, boundary_once}
use Rattle.host_text.specs.declared.script.FabricLine.{FabricLine}
use Rattle.host_text.specs.declared.script.Script.{Script}
use Rattle.host_text.specs.Report.{report}
use Rattle.fab_io.specs.Outside.{Files}
use Rattle.host_form.specs.Origins.{Source, Tenant}
use Rattle.host_form.specs.Histories.{Histories, Visit}
use Rattle.host_form.specs.Orders.{Answered, stop_of, free_line}
use Rattle.host_form.specs.Runs.{IsEnd, alone, stopped, Run, IsRun, Outcome, Refused, Ran, IsOutcome}
use Rattle.host_form.specs.Reports.{blocks_of, AreOutcomes, IsReport}
use Rattle.host_form.specs.Saves.{with_saves, IsKept, AreSaved, LeavesFiles}
use Rattle.host_form.specs.Laws.{IsOneJudgement}
use Rattle.host_form.proofs.Once.{some_is, all-read-once}
use Rattle.host_form.proofs.Times.{visits-once}
use Rattle.host_form.proofs.Verdicts.{origin-once, refusal-once, not-both}
use Rattle.host_text.specs.vl_design.proofs.Shared.{from_first as keeps_from}

end-once : {o : Origin} {stop : Option ℕ} {k j : ℕ} {r s : End} {p q : Queue} → IsEnd o stop k r p → IsEnd o stop j s q → (k ≡ j) × (r ≡ s) × (p ≡ q)
end-once {o} {stop} {k} {j} {r} {s} {p} {q} (alone n e) (alone m f) = ends_once o k j r s p q e f
end-once (alone n e) (stopped m x b w) = let z : ⊥ = let k = sym n ∙ m in cc in absurd z
end-once (stopped n x b w) (alone m f) = let z : ⊥ = let k = sym n ∙ m in cc in absurd z
end-once {o} {stop} {k} {j} {r} {s} {p} {q} (stopped n x b w) (stopped m y c v) =
    let tick : k ≡ j = some_is (sym n ∙ m) in
    (tick, x ∙ sym y, boundary_once (subst (λ i. Boundary o i p) tick b) c)

same_run : (r s : Run) → r.origin ≡ s.origin → r.tick ≡ s.tick → r.reason ≡ s.reason → r.last ≡ s.last → r.visits ≡ s.visits → r ≡ s
same_run r s o k e q v =
    ap₂ (λ (o : Origin) (k : ℕ). record { origin = o; tick = k; reason = r.reason; last = r.last; visits = r.visits }) o k
    ∙ ap₂ (λ (e : End) (q : Queue). record { origin = s.origin; tick = s.tick; reason = e; last = q; visits = r.visits }) e q
    ∙ ap (λ (v : List Visit). record { origin = s.origin; tick = s.tick; reason = s.reason; last = s.last; visits = v }) v

module _ (histories : Histories) (answers : List Answered) where
  run-once : (fabrics : List FabricLine) (n : ℕ) (t : Tenant) (r s : Run) → IsRun fabrics histories answers n t r → IsRun fabrics histories answers n t s → r ≡ s
  run-once fabrics n t r s h k =
      let origin : r.origin ≡ s.origin = origin-once fabrics t r.origin s.origin h.origin k.origin in
      let end = end-once (subst (λ o. IsEnd o (stop_of n answers) r.tick r.reason r.last) origin h.end) k.end in
      let visits = visits-once histories n (first_tick r.origin.resume) r.tick (first_tick s.origin.resume) s.tick r.visits s.visits h.visits k.visits in
      same_run r s origin end.0 end.1 end.2 visits

  outcome-once : (fabrics : List FabricLine) (n : ℕ) (t : Tenant) (x y : Outcome) → IsOutcome fabrics histories answers n t x → IsOutcome fabrics histories answers n t y → x ≡ y
  outcome-once fabrics n t (Refused p k) (Refused q l) a b =
      let same = refusal-once fabrics t p q k l a.0 b.0 in
      ap₂ (λ (p : Place) (k : List ℕ). Refused p k) same.0 same.1
  outcome-once fabrics n t (Refused p k) (Ran s) a b = absurd (not-both fabrics t s.origin p k b.origin a.0)
  outcome-once fabrics n t (Ran r) (Refused q l) a b = absurd (not-both fabrics t r.origin q l a.origin b.0)
  outcome-once fabrics n t (Ran r) (Ran s) a b = ap (λ (r : Run). Ran r) (run-once fabrics n t r s a b)

  outcomes-once : (s : Script) (n : ℕ) (ts : List Tenant) (xs ys : List Outcome) → AreOutcomes s histories answers n ts xs → AreOutcomes s histories answers n ts ys → xs ≡ ys
  outcomes-once s n [] [] [] a b = refl
  outcomes-once s n [] [] (y ∷ ys) a b = absurd b
  outcomes-once s n [] (x ∷ xs) ys a b = absurd a
  outcomes-once s n (t ∷ ts) [] ys a b = absurd a
  outcomes-once s n (t ∷ ts) (x ∷ xs) [] a b = absurd b
  outcomes-once s n (t ∷ ts) (x ∷ xs) (y ∷ ys) a b =
      ap₂ (λ z zs. z ∷ zs) (outcome-once s.fabrics n t x y a.0 b.0) (outcomes-once s (n + 1) ts xs ys a.1 b.1)

-- ---- snapshots

keeps-once : {o : Origin} {free : List FreeSave} {k : ℕ} {a b : List Saved} → Keeps o free k a → Keeps o free k b → a ≡ b
keeps-once {o} {free} {k} (Keeps.at_first e p) (Keeps.at_first f q) = ap (λ (z : Queue). saved_at o free [] k z.state) (boundary_once p q)
keeps-once (Keeps.at_first e p) (Keeps.at_next h q) = absurd (omega (arith, e, keeps_from h))
keeps-once (Keeps.at_next h p) (Keeps.at_first e q) = absurd (omega (arith, e, keeps_from h))
keeps-once {o} {free} (Keeps.at_next {k = k} h p) (Keeps.at_next g q) =
    ap₂ (λ (x : List Saved) (z : Queue). saved_at o free x (suc k) z.state) (keeps-once h g) (boundary_once p q)

kept-once : (answers : List Answered) (n : ℕ) (x : Outcome) (a b : List Saved) → IsKept answers n x a → IsKept answers n x b → a ≡ b
kept-once answers n (Refused place kind) a b h k = h ∙ sym k
kept-once answers n (Ran r) a b h k = keeps-once h k

saved-once : (answers : List Answered) (n : ℕ) (ts : List Tenant) (xs : List Outcome) (before a b : Files) → AreSaved answers n ts xs before a → AreSaved answers n ts xs before b → a ≡ b
saved-once answers n [] xs before a b h k = h ∙ sym k
saved-once answers n (t ∷ ts) [] before a b h k = h ∙ sym k
saved-once answers n (t ∷ ts) (x ∷ xs) before a b h k =
    let same : h.0 ≡ k.0 = kept-once answers n x h.0 k.0 h.1 k.1 in
    saved-once answers (n + 1) ts xs (with_saves t.line.name k.0 before) a b (subst (λ saved. AreSaved answers (n + 1) ts xs (with_saves t.line.name saved before) a) same h.2) k.2

-- ---- reports

module _ (judged : List ℕ → Source → Type 0) (told : Files) (s : Script) (histories : Histories) (bytes others : List ℕ) (one : IsOneJudgement judged)
    (a : IsReport judged told s histories bytes) (b : IsReport judged told s histories others) (same : a.answers ≡ b.answers) where
  tenants-once : a.tenants ≡ b.tenants
  tenants-once = all-read-once judged told s.tenants a.tenants b.tenants one a.read b.read

  all-once : a.outcomes ≡ b.outcomes
  all-once =
      let comes = subst₂ (λ answers ts. AreOutcomes s histories answers 0 ts a.outcomes) same tenants-once a.comes in
      outcomes-once histories b.answers s 0 b.tenants a.outcomes b.outcomes comes b.comes

  pub report-once : bytes ≡ others
  report-once =
      a.is
      ∙ ap₂ (λ ts xs. report (blocks_of s ts xs) (map (free_line s) a.answers)) tenants-once all-once
      ∙ ap (λ answers. report (blocks_of s b.tenants b.outcomes) (map (free_line s) answers)) same
      ∙ sym b.is

  pub files-once : (left right : Files) → LeavesFiles judged told s histories bytes a left → LeavesFiles judged told s histories others b right → left ≡ right
  files-once left right x y =
      let z = subst₂ (λ ts xs. AreSaved a.answers 0 ts xs told left) tenants-once all-once x in
      let w = subst (λ answers. AreSaved answers 0 b.tenants b.outcomes told left) same z in
      saved-once b.answers 0 b.tenants b.outcomes told left right w y
