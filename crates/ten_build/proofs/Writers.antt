-- Combinational processes of an accepted design assign what is computed, and no others do; so they write it with their loops unrolled.
-- Its clocked blocks set no memory.
use Rattle.std.proofs.Common.{◌≡◌, ℕ, Bool, true, false, List, [], ◌∷◌, map, refl, sym, ap, ◌∙◌, subst}
use Rattle.std.specs.Prelude.{◌==◌, ◌⊎◌, not, slice_get, slice_index_or}
use Rattle.std.specs.List.{list_any}
use Rattle.std.proofs.lemmas.Bool.{both_ways, and_cases, not-false, false_from_ne_true}
use Rattle.std.proofs.lemmas.List.Elements.{All-nil}
use mathlib.Core.List.{map-map}
use mathlib.Core.Logic.{inl, inr}
use Rattle.vl_loops.specs.vl_design.specs.declared.design.ProcKind.TheVariants.{Rise}
use Rattle.vl_loops.specs.vl_design.specs.declared.stop.Stop.{Stop}
use Rattle.vl_loops.specs.vl_design.specs.Functions.{scope_of}
use Rattle.vl_loops.specs.vl_design.specs.Laws.{IsUnrolledStm}
use Rattle.vl_loops.specs.vl_design.specs.Placed as p
use Rattle.vl_loops.specs.vl_design.specs.Plainly as plain
use Rattle.vl_loops.specs.vl_design.specs.Queue.{is_comb, proc_at}
use Rattle.vl_loops.specs.vl_design.specs.Reads.{stm_writes}
use Rattle.vl_loops.specs.vl_design.specs.Rows.{row_of}
use Rattle.vl_loops.specs.vl_design.specs.Sound.{IsNamed, IsSoundProc, IsSoundStm}
use Rattle.vl_loops.specs.vl_design.specs.Syntax.{Event, Proc, Flat}
use Rattle.vl_loops.specs.vl_design.specs.Width.{Scope, names_of}
use Rattle.sub_runs.specs.vl_sites.specs.Sites.{Site, sites}
use Rattle.vl_loops.specs.Unroll.{still, unrolled, unrolled_proc, unrolled_flat}
use Rattle.vl_loops.proofs.Bare.{all_bare}
use Rattle.vl_loops.proofs.Sounding.{flat_sound}
use Rattle.vl_loops.specs.vl_design.specs.First.{In}
use Rattle.elab_laws.specs.vl_check.specs.Bodies.{role_of, kind_is}
use Rattle.elab_laws.specs.vl_check.specs.Rules.{is_clock, is_loop, is_derived, sets}
use Rattle.elab_laws.specs.vl_check.specs.Standing.{process_faults, standing_faults}
use Rattle.elab_laws.specs.vl_bits.specs.Drivers.{is_net}
use Rattle.elab_laws.specs.vl_accept.specs.Built.{IsBuilt}
use Rattle.elab_laws.specs.vl_accept.specs.Fit.{IsFit}
use Rattle.elab_laws.specs.vl_check.specs.Written.{is_combined, is_uncomputed, is_computed, is_orphan, IsWritten, HasWriters}
use Rattle.elab_laws.specs.vl_accept.proofs.Faults.{faults_at, Hits, sets_hit, impure_free, no_clock, no_loop}
use Rattle.elab_laws.specs.vl_accept.proofs.Pure.{IsPure, pure, unrolled_pure}
use Rattle.elab_laws.specs.vl_accept.proofs.Silent.{silent}
use Rattle.sub_runs.specs.vl_runs.specs.Computed.{computed_at}
use Rattle.sub_runs.specs.vl_runs.specs.NetsOfSettle.{comb_at}
use Rattle.sub_runs.specs.vl_runs.proofs.Calming.{idle}
use Rattle.elab_laws.specs.vl_accept.specs.Accepted.{IsAccepted}
use Rattle.elab_laws.specs.vl_accept.proofs.Finding.{At, found, all_at, all_index}
use Rattle.elab_laws.specs.vl_accept.proofs.Written.{written_there, no_assign}
use Rattle.ten_make.specs.cell_states.specs.Designs.{ComputesAlone}
use Rattle.sub_runs.specs.Memories.{memory_at, stm_sets, SetsNoMemories}
use Rattle.ten_build.proofs.Signals.{computed, derived_left, derived_neither, stored}
use Rattle.ten_build.proofs.Rivals.{written, no_other}
use Rattle.ten_build.proofs.Words.{signal-row, rise-clocked, fall-clocked, clocked-free, body-sets}
use Rattle.vl_loops.specs.vl_design.proofs.Shared.{no-more as none_in}

-- what is assigned fails a test that nothing assigned passes
fails : (P : ℕ → Bool) (k : ℕ) (xs : List Site) → list_any (λ x. sets P x.what) xs ≡ false → Hits k xs → P k ≡ false
fails P k xs none hits = false_from_ne_true (P k) (λ h. both_ways _ none (sets_hit P k h xs hits))

module _ (d : p.Design) (fit : IsFit d) (w : HasWriters d) (accepted : IsAccepted d) where
  standing : standing_faults d ≡ []
  standing = none_in (standing_faults d) (λ f h. accepted.uses f (inl h))

  module _ (i k : ℕ) (h : At d.processes i) (hits : Hits k (sites h.it.body)) where
    none : process_faults d h.before h.it ≡ []
    none = faults_at d standing h.before h.it h.after h.split

    its_writers : IsWritten d h.it
    its_writers = all_at (IsWritten d) d.processes i h w.processes

    -- what a combinational process assigns is computed, or a memory
    of_combinational : is_comb h.it.kind ≡ true → memory_at (map row_of d.signals) k ≡ false → kind_is is_derived d.signals k ≡ true
    of_combinational c memory =
        derived_left d.signals k
        (fails (is_uncomputed d.signals) k (sites h.it.body) (its_writers.combinational c) hits)
        (false_from_ne_true (kind_is is_clock d.signals k) (λ e. no_clock d h.before h.it none k e hits))
        (false_from_ne_true (kind_is is_loop d.signals k) (λ e. no_loop d h.before h.it none k e hits))
        memory

    -- if it is said that combinational processes compute it, one does
    is_theirs : kind_is is_combined d.signals k ≡ true → is_computed d.processes k ≡ true
    is_theirs combined =
        elim (and_cases (kind_is is_combined d.signals k) (not (is_computed d.processes k)) (fails (is_orphan d) k (sites h.it.body) its_writers.computed hits)) [
          | inl e ↦ absurd (both_ways _ e combined)
          | inr e ↦ not-false (is_computed d.processes k) e
        ]

    -- what another process assigns isn't computed
    of_other : is_comb h.it.kind ≡ false → kind_is is_derived d.signals k ≡ false
    of_other c =
        let built = all_at (IsBuilt d.signals) d.processes i h fit.processes in
        derived_neither d.signals k
        (fails (is_net d.signals) k (sites h.it.body) (built.nets (no_assign h.it.kind c)) hits)
        (false_from_ne_true (kind_is is_combined d.signals k)
        (λ e. no_other d standing k (stored d.signals k e) h.before h.it h.after h.split c (written k h.it hits) (is_theirs e)))

  -- ---- with the loops unrolled

  abbrev next : Flat
  next = unrolled_flat (plain.flat d)

  abbrev scope : Scope
  scope = scope_of (plain.flat d) []

  -- the process of a number, if there is one
  there : (i : ℕ) → ((h : At d.processes i) × (proc_at next i ≡ unrolled_proc scope (plain.proc h.it))) ⊎ (proc_at next i ≡ idle)
  there i =
      subst (λ (qs : List Proc). ((h : At d.processes i) × (slice_index_or qs i idle ≡ unrolled_proc scope (plain.proc h.it))) ⊎ (slice_index_or qs i idle ≡ idle))
      (sym (map-map (unrolled_proc scope) plain.proc d.processes))
      (found (λ (a : p.Process). unrolled_proc scope (plain.proc a)) idle d.processes i)

  -- what it doesn't assign it doesn't write
  unwritten : (i k : ℕ) → ((h : At d.processes i) → is_comb h.it.kind ≡ comb_at next i → Hits k (sites h.it.body) → ⊥) → stm_writes (λ j. j == k) (proc_at next i).body ≡ false
  unwritten i k unassigned = elim (there i) [
    | inl h ↦
        ap (λ (q : Proc). stm_writes (λ j. j == k) q.body) h.1
        ∙ silent (λ j. j == k) scope h.0.it.path h.0.it.body (false_from_ne_true _ (unassigned h.0 (ap (λ (q : Proc). is_comb q.kind) (sym h.1)))) (still scope)
    | inr e ↦ ap (λ (q : Proc). stm_writes (λ j. j == k) q.body) e
  ]

  body_sound : (i : ℕ) → IsSoundStm (names_of next) (proc_at next i).body
  body_sound i =
      let nothing : IsSoundProc (names_of next) idle = record { events = All-nil (λ (e : Event). IsNamed (names_of next) e.signal); body = tt } in
      (all_index (IsSoundProc (names_of next)) idle next.procs i nothing (flat_sound (plain.flat d) fit.sound).procs).body

  body_bare : (i : ℕ) → IsUnrolledStm (proc_at next i).body
  body_bare i = all_index (λ (q : Proc). IsUnrolledStm q.body) idle next.procs i tt (all_bare (plain.flat d)).procs

  -- a combinational process only tests, and assigns at once to signals of one word
  body_pure : (i : ℕ) → comb_at next i ≡ true → IsPure (proc_at next i).body
  body_pure i c = elim (there i) [
    | inl h ↦
        let it = h.0.it in
        let comb : is_comb it.kind ≡ true = ap (λ (q : Proc). is_comb q.kind) (sym h.1) ∙ c in
        let faults = faults_at d standing h.0.before it h.0.after h.0.split in
        let built = all_at (IsBuilt d.signals) d.processes i h.0 fit.processes in
        let straight = pure it.path it.body (impure_free d h.0.before it faults comb) (built.timeless comb) in
        subst (λ (q : Proc). IsPure q.body) (sym h.1) (unrolled_pure scope (plain.stm it.path it.body) straight (still scope))
    | inr e ↦ subst (λ (q : Proc). IsPure q.body) (sym e) tt
  ]

  -- so it writes no memory
  memory_unwritten : (i k : ℕ) → comb_at next i ≡ true → memory_at (map row_of d.signals) k ≡ true → stm_writes (λ j. j == k) (proc_at next i).body ≡ false
  memory_unwritten i k c memory =
      false_from_ne_true (stm_writes (λ j. j == k) (proc_at next i).body)
      (λ written. both_ways _ (signal-row (slice_get next.rows k) (written_there (names_of next) k (proc_at next i).body (body_pure i c) (body_bare i) (body_sound i) written)) memory)

  pub alone : ComputesAlone next
  alone i k c n = at (memory_at (map row_of d.signals) k) refl
    where
      at : (b : Bool) → memory_at (map row_of d.signals) k ≡ b → stm_writes (λ j. j == k) (proc_at next i).body ≡ false
      at true memory = memory_unwritten i k c memory
      at false memory = unwritten i k (λ h same hits. both_ways _ (sym (computed d.signals k) ∙ n) (of_combinational i k h hits (same ∙ c) memory))

  pub others : (i k : ℕ) → comb_at next i ≡ false → computed_at next.rows k ≡ true → stm_writes (λ j. j == k) (proc_at next i).body ≡ false
  others i k c n = unwritten i k (λ h same hits. both_ways _ (of_other i k h hits (same ∙ c)) (sym (computed d.signals k) ∙ n))

  -- ---- clocked blocks

  clocked : (i : ℕ) → role_of (proc_at next i).kind ≡ role_of Rise → stm_sets (memory_at next.rows) (proc_at next i).body ≡ false
  clocked i role = elim (there i) [
    | inl h ↦
        let it = h.0.it in
        let body : (proc_at next i).body ≡ unrolled scope (plain.stm it.path it.body) (still scope) = ap (λ (q : Proc). q.body) h.1 in
        let same : role_of it.kind ≡ role_of Rise = ap (λ (q : Proc). role_of q.kind) (sym h.1) ∙ role in
        let faults = faults_at d standing h.0.before it h.0.after h.0.split in
        ap (stm_sets (memory_at next.rows)) body
        ∙ body-sets scope (names_of next) it.path it.body (clocked-free d h.0.before it same faults) (still scope) (subst (IsSoundStm (names_of next)) body (body_sound i))
    | inr e ↦ ap (λ (q : Proc). stm_sets (memory_at next.rows) q.body) e
  ]

  pub leave_memories : SetsNoMemories next
  leave_memories = record {
    rises = λ i rise. clocked i (rise-clocked (proc_at next i).kind rise);
    falls = λ i fall. clocked i (fall-clocked (proc_at next i).kind fall);
  }
