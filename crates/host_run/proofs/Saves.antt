-- The snapshots of the tenants of a script are written as a report says.
use Rattle.std.proofs.Common.{◌≡◌, ℕ, ◌+◌, List, [], ◌∷◌, ◌++◌, length, map, refl, sym, ap, ◌∙◌, subst, arith, Option, Some, None}
use Rattle.std.specs.List.{AllByRecursion}
use Rattle.host_form.specs.fab_io.specs.Outside.{Files}
use Rattle.host_text.specs.vl_design.specs.Alone.{FreeSave, Keeps, Origin}
use Rattle.host_text.specs.vl_design.specs.Snapshots.{Saved}
use Rattle.host_text.specs.declared.script.TenantLine.{TenantLine}
use Rattle.host_report.specs.fab_model.specs.declared.transit.Transit.{Transit}
use Rattle.host_form.specs.Orders.{saves_of, Answered}
use Rattle.host_form.specs.Origins.{Tenant}
use Rattle.host_form.specs.Runs.{Outcome, Refused, Ran}
use Rattle.host_form.specs.Saves.{with_saves, AreSaved, IsReordered}
use Rattle.host_form.specs.declared.refusal.Refusal.{Refusal}
use Rattle.host_outcomes.specs.Ends.{AreTold}
use Rattle.host_files.specs.declared.kept.Kept.{Kept}
use Rattle.host_files.specs.Kept.{saved_in, CanBeKept}
use Rattle.host_files.specs.Writes.{after_writes, writes_in, writes_of, Write}
use Rattle.host_files.proofs.Writing.{writes-append, writes-said}
use Rattle.host_report.specs.Telling.{AreKept}

-- ---- writes

first_writes : (tenant : List ℕ) (saved : List Saved) (ws : List Write) (files : Files) → after_writes ws (with_saves tenant saved files) ≡ after_writes (writes_in tenant saved ++ ws) files
first_writes tenant saved ws files =
    ap (λ (f : Files). after_writes ws f) (sym (writes-said tenant saved files)) ∙ sym (writes-append (writes_in tenant saved) ws files)

-- ---- what is kept

pub all_can : (refusals : List (Option Refusal)) (ended : List Transit) (kept : List (Option Kept)) → AreKept refusals ended kept → AllByRecursion CanBeKept kept
all_can [] [] [] k = tt
all_can [] [] (x ∷ ks) k = absurd k
all_can [] (e ∷ es) ks k = absurd k
all_can (Some r ∷ rs) es [] k = absurd k
all_can (Some r ∷ rs) es (None ∷ ks) k = (tt, all_can rs es ks k)
all_can (Some r ∷ rs) es (Some x ∷ ks) k = absurd k
all_can (None ∷ rs) [] ks k = absurd k
all_can (None ∷ rs) (e ∷ es) [] k = absurd k
all_can (None ∷ rs) (e ∷ es) (None ∷ ks) k = absurd k
all_can (None ∷ rs) (e ∷ es) (Some x ∷ ks) k = (k.0.can, all_can rs es ks k.1)

pub kept_count : (refusals : List (Option Refusal)) (ended : List Transit) (kept : List (Option Kept)) → AreKept refusals ended kept → length kept ≡ length refusals
kept_count [] [] [] k = refl
kept_count [] [] (x ∷ ks) k = absurd k
kept_count [] (e ∷ es) ks k = absurd k
kept_count (Some r ∷ rs) es [] k = absurd k
kept_count (Some r ∷ rs) es (None ∷ ks) k = let n = kept_count rs es ks k in omega (arith, n)
kept_count (Some r ∷ rs) es (Some x ∷ ks) k = absurd k
kept_count (None ∷ rs) [] ks k = absurd k
kept_count (None ∷ rs) (e ∷ es) [] k = absurd k
kept_count (None ∷ rs) (e ∷ es) (None ∷ ks) k = absurd k
kept_count (None ∷ rs) (e ∷ es) (Some x ∷ ks) k = let n = kept_count rs es ks k.1 in omega (arith, n)

-- ---- the files behind a report

abbrev lines_of : List Tenant → List TenantLine
lines_of tenants = map (λ t. t.line) tenants

-- snapshots made besides may be made in any order
abbrev pub MayBeReordered : Type 0
MayBeReordered = (o : Origin) (free others : List FreeSave) (k : ℕ) (saved : List Saved) → IsReordered free others → Keeps o free k saved
    → (kept : List Saved) × Keeps o others k kept × ((tenant : List ℕ) (files : Files) → with_saves tenant kept files ≡ with_saves tenant saved files)

module _ (reordered : MayBeReordered) (answers : List Answered) where
  pub are_saved : (n : ℕ) (tenants : List Tenant) (refusals : List (Option Refusal)) (ended : List Transit) (kept : List (Option Kept)) (ys : List Outcome) (files : Files)
      → length refusals ≡ length tenants → AreTold answers n refusals ended ys → AreKept refusals ended kept
      → AreSaved answers n tenants ys files (after_writes (writes_of (lines_of tenants) kept) files)
  are_saved n [] refusals ended kept ys files m t k = refl
  are_saved n (x ∷ ts) [] ended kept ys files m t k = absurd (omega (arith, m))
  are_saved n (x ∷ ts) (Some r ∷ rs) es [] ys files m t k = absurd k
  are_saved n (x ∷ ts) (Some r ∷ rs) es (Some q ∷ ks) ys files m t k = absurd k
  are_saved n (x ∷ ts) (Some r ∷ rs) es (None ∷ ks) [] files m t k = absurd t
  are_saved n (x ∷ ts) (Some r ∷ rs) es (None ∷ ks) (Ran y ∷ ys) files m t k = absurd t
  are_saved n (x ∷ ts) (Some r ∷ rs) es (None ∷ ks) (Refused place kind ∷ ys) files m t k =
      ([], refl, are_saved (n + 1) ts rs es ks ys files (omega (arith, m)) t k)
  are_saved n (x ∷ ts) (None ∷ rs) [] ks ys files m t k = absurd k
  are_saved n (x ∷ ts) (None ∷ rs) (e ∷ es) [] ys files m t k = absurd k
  are_saved n (x ∷ ts) (None ∷ rs) (e ∷ es) (None ∷ ks) ys files m t k = absurd k
  are_saved n (x ∷ ts) (None ∷ rs) (e ∷ es) (Some q ∷ ks) [] files m t k = absurd t
  are_saved n (x ∷ ts) (None ∷ rs) (e ∷ es) (Some q ∷ ks) (Refused place kind ∷ ys) files m t k = absurd t
  are_saved n (x ∷ ts) (None ∷ rs) (e ∷ es) (Some q ∷ ks) (Ran y ∷ ys) files m t k =
      let name = x.line.name in
      let saved = saved_in q in
      let z = t.0.keeps saved k.0.keeps in
      let kept = reordered y.origin z.0 (saves_of n answers) y.tick saved z.1 z.2 in
      let rest = are_saved (n + 1) ts rs es ks ys (with_saves name saved files) (omega (arith, m)) t.1 k.1 in
      let after = after_writes (writes_of (lines_of ts) ks) (with_saves name saved files) in (
        kept.0,
        kept.1,
        subst (λ (last : Files). AreSaved answers (n + 1) ts ys (with_saves name kept.0 files) last) (first_writes name saved (writes_of (lines_of ts) ks) files)
            (subst (λ (first : Files). AreSaved answers (n + 1) ts ys first after) (sym (kept.2 name files)) rest),
      )
