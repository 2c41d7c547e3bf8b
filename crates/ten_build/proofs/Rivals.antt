-- Of a combinational process and any other, in a design without faults, not both write one variable, be it in the header of a
-- loop.
use Rattle.std.proofs.Common.{◌≡◌, ℕ, Bool, true, false, List, ◌∷◌, ◌++◌, [], refl, sym, ap, ◌∙◌}
use Rattle.std.specs.Prelude.{◌&&◌, ◌==◌}
use Rattle.std.specs.List.{list_any}
use Rattle.std.proofs.lemmas.Bool.{both_ways, eqb-true, and_parts, and_from, or_cases}
use Rattle.std.proofs.lemmas.List.{append_assoc}
use Rattle.std.proofs.lemmas.List.Folds.{list_any-append}
use mathlib.Core.Logic.{inl, inr}
use Rattle.vl_loops.specs.vl_design.specs.Placed.{Process, Design}
use Rattle.vl_loops.specs.vl_design.specs.Queue.{is_comb}
use Rattle.sub_runs.specs.vl_sites.specs.Sites.{What, Reads, Sets, Heads, Calls, Delays, Tasks, sites}
use Rattle.elab_laws.specs.vl_check.specs.Bodies.{of_process, kind_is}
use Rattle.elab_laws.specs.vl_check.specs.Rules.{sets}
use Rattle.elab_laws.specs.vl_check.specs.Triggers.{trigger_faults}
use Rattle.elab_laws.specs.vl_check.specs.Writers.{is_store, assigns, writes, excludes, is_second, is_taken, is_rival}
use Rattle.elab_laws.specs.vl_check.specs.Standing.{body_faults, process_faults, standing_faults}
use Rattle.elab_laws.specs.vl_accept.proofs.Clean.{right-none, not-stopped}
use Rattle.elab_laws.specs.vl_accept.proofs.Faults.{faults_at, any_at, Hits}
use Rattle.elab_laws.specs.vl_check.specs.Written.{is_computed}
use Rattle.elab_laws.specs.vl_accept.proofs.Finding.{some_split}
use Rattle.elab_laws.specs.vl_accept.proofs.Written.{excludes_left, excludes_right}
use Rattle.elab_laws.specs.vl_check.proofs.Shared.{assigns_wide as assigned}
use Rattle.vl_loops.specs.vl_base.proofs.Lists.{any_wider as any_wide}

-- what a process assigns, but in headers of loops, it writes
pub written : (k : ℕ) (a : Process) → Hits k (sites a.body) → writes k a ≡ true
written k a h = any_wide (λ s. sets (λ j. j == k) s.what) (λ s. assigns k s.what) (λ s f. assigned k s.what f) (sites a.body) h

module _ (d : Design) (before : List Process) (a : Process) (none : process_faults d before a ≡ []) (k : ℕ) (store : kind_is is_store d.signals k ≡ true) where
  no_rival : is_rival d.signals before a ≡ false
  no_rival = not-stopped (is_rival d.signals before a) a.place 14 (right-none (trigger_faults d.signals a) _ (right-none (body_faults (of_process d a) a.body) _ none))

  taken : is_second before a k ≡ true → (w : What) → assigns k w ≡ true → is_taken d.signals before a w ≡ true
  taken second (Sets j word later) h = let same : j ≡ k = eqb-true j k h in rw (same, store, second) refl
  taken second (Heads j) h = let same : j ≡ k = eqb-true j k h in rw (same, store, second) refl
  taken second (Reads j) h = h
  taken second (Calls f) h = h
  taken second Delays h = h
  taken second (Tasks name given) h = h

  -- a process that writes the variable isn't the second
  not_second : writes k a ≡ true → is_second before a k ≡ true → ⊥
  not_second h second =
      both_ways _ no_rival (any_wide (λ s. assigns k s.what) (λ s. is_taken d.signals before a s.what) (λ s f. taken second s.what f) (sites a.body) h)

module _ (d : Design) (standing : standing_faults d ≡ []) (k : ℕ) (store : kind_is is_store d.signals k ≡ true) where
  abbrev computes : Process → Bool
  computes a = is_comb a.kind && writes k a

  -- no combinational process writes it before another that does
  none_before : (before : List Process) (a : Process) (after : List Process) → d.processes ≡ before ++ (a ∷ after) → writes k a ≡ true → list_any computes before ≡ true → ⊥
  none_before before a after split h some =
      not_second d before a (faults_at d standing before a after split) k store h
      (any_wide computes (λ b. excludes b.kind a.kind && writes k b)
      (λ b f. let both = and_parts (is_comb b.kind) (writes k b) f in and_from (excludes b.kind a.kind) (writes k b) (excludes_left b.kind a.kind both.0) both.1)
      before some)

  -- nor behind it
  none_behind : (before : List Process) (a : Process) (after : List Process) → d.processes ≡ before ++ (a ∷ after) → writes k a ≡ true → list_any computes after ≡ true → ⊥
  none_behind before a after split h some =
      let s = some_split computes after some in
      let both = and_parts (is_comb s.1.kind) (writes k s.1) s.4 in
      let later : d.processes ≡ (before ++ (a ∷ s.0)) ++ (s.1 ∷ s.2) =
      split ∙ (ap (λ ps. before ++ (a ∷ ps)) s.3 ∙ sym (append_assoc before (a ∷ s.0) (s.1 ∷ s.2))) in
      not_second d (before ++ (a ∷ s.0)) s.1 (faults_at d standing (before ++ (a ∷ s.0)) s.1 s.2 later) k store both.1
      (any_at (λ b. excludes b.kind s.1.kind && writes k b) before a s.0 (and_from (excludes a.kind s.1.kind) (writes k a) (excludes_right a.kind s.1.kind both.0) h))

  -- what combinational processes write no other process does
  pub no_other : (before : List Process) (a : Process) (after : List Process) → d.processes ≡ before ++ (a ∷ after) → is_comb a.kind ≡ false → writes k a ≡ true → is_computed d.processes k ≡ true → ⊥
  no_other before a after split other h some =
      elim (or_cases (list_any computes before) (list_any computes (a ∷ after)) (sym (list_any-append computes before (a ∷ after)) ∙ (ap (list_any computes) (sym split) ∙ some))) [
        | inl f ↦ none_before before a after split h f
        | inr f ↦ elim (or_cases (computes a) (list_any computes after) f) [
          | inl g ↦ both_ways (is_comb a.kind) other (and_parts (is_comb a.kind) (writes k a) g).0
          | inr g ↦ none_behind before a after split h g
        ]
      ]
