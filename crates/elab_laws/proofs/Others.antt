-- No process of an accepted design writes a clock, nor a loop variable but in the headers of loops.
use Rattle.std.proofs.Common.{◌≡◌, ℕ, zero, suc, Bool, true, false, List, [], ◌∷◌, ◌++◌, map, refl, sym, ap, ◌∙◌}
use Rattle.std.specs.Prelude.{◌==◌, ◌⊎◌, All}
use Rattle.std.specs.List.{list_any}
use Rattle.std.proofs.lemmas.Bool.{false_from_ne_true}
use Rattle.std.proofs.lemmas.List.{append_assoc}
use Rattle.std.proofs.lemmas.List.Elements.{All-nil, All-cons}
use mathlib.Core.Logic.{inl, inr}
use Rattle.ten_plan.specs.vl_design.specs.declared.design.Signal.{Signal}
use Rattle.ten_plan.specs.vl_design.specs.declared.design.SigKind.{SigKind}
use Rattle.ten_plan.specs.vl_design.specs.declared.design.SigKind.TheVariants.{Loop, Clock}
use Rattle.ten_plan.specs.vl_design.specs.declared.stop.Stop.{Stop}
use Rattle.ten_plan.specs.vl_design.specs.Functions.{scope_of}
use Rattle.ten_plan.specs.vl_design.specs.Placed as p
use Rattle.ten_plan.specs.vl_design.specs.Plainly as plain
use Rattle.ten_plan.specs.vl_design.specs.Reads.{stm_writes}
use Rattle.ten_plan.specs.vl_design.specs.Rows.{row_of}
use Rattle.ten_plan.specs.vl_design.specs.Syntax.{Proc}
use Rattle.ten_plan.specs.vl_design.specs.Width.{Scope}
use Rattle.vl_accept.specs.vl_sites.specs.Sites.{What, Sets, Site, sites}
use Rattle.vl_accept.specs.vl_loops.specs.Unroll.{still, unrolled_proc, unrolled_flat}
use Rattle.ten_plan.specs.vl_design.specs.First.{In}
use Rattle.vl_accept.specs.vl_check.specs.Bodies.{kind_is}
use Rattle.vl_accept.specs.vl_check.specs.Rules.{is_clock, is_loop, sets}
use Rattle.vl_accept.specs.vl_check.specs.Standing.{process_faults, standing_faults}
use Rattle.vl_accept.proofs.Faults.{faults_at, any_at, Hits, no_clock, no_loop}
use Rattle.vl_accept.proofs.Silent.{silent}
use Rattle.vl_accept.specs.vl_runs.proofs.Checks.{itself}
use Rattle.vl_accept.specs.Accepted.{IsAccepted}
use Rattle.vl_accept.proofs.Finding.{some_split}
use Rattle.vl_accept.specs.vl_sites.specs.Others.{is_other, other_at, WritesNoOthers}

-- ---- kinds of signals

kind-other : (kind : SigKind) → is_other kind ≡ true → (is_clock kind ≡ true) ⊎ (is_loop kind ≡ true)
kind-other Clock h = inl refl
kind-other Loop h = inr refl
kind-other kind h = let z : ⊥ = cc in absurd z

other-kind : (signals : List Signal) (k : ℕ) → other_at (map row_of signals) k ≡ true → (kind_is is_clock signals k ≡ true) ⊎ (kind_is is_loop signals k ≡ true)
other-kind [] k h = let z : ⊥ = cc in absurd z
other-kind (s ∷ ss) zero h = kind-other s.kind h
other-kind (s ∷ ss) (suc k) h = other-kind ss k h

-- ---- sites

module _ (P : ℕ → Bool) where
  -- a signal that passes the test is assigned
  record IsSet (xs : List Site) : Type 0 where
    signal : ℕ
    passes : P signal ≡ true
    hits : Hits signal xs

  set-at : (w : What) → sets P w ≡ true → (k : ℕ) × (P k ≡ true) × (sets (λ j. j == k) w ≡ true)
  set-at (Sets k word later) h = (k, h, itself k)
  set-at w h = let z : ⊥ = cc in absurd z

  some-set : (xs : List Site) → list_any (λ x. sets P x.what) xs ≡ true → IsSet xs
  some-set xs h =
      let s = some_split (λ x. sets P x.what) xs h in
      let q = set-at s.1.what s.4 in
      record { signal = q.0; passes = q.1; hits = ap (list_any (λ x. sets (λ j. j == q.0) x.what)) s.3 ∙ any_at (λ (x : Site). sets (λ j. j == q.0) x.what) s.0 s.1 s.2 q.2 }

-- ---- designs

none-in : (fs : List Stop) → ((f : Stop) → In f fs → ⊥) → fs ≡ []
none-in [] h = refl
none-in (x ∷ xs) h = absurd (h x (inl refl))

module _ (d : p.Design) (accepted : IsAccepted d) where
  abbrev P : ℕ → Bool
  P = other_at (map row_of d.signals)

  abbrev scope : Scope
  scope = scope_of (plain.flat d) []

  abbrev Leaves : Proc → Type 0
  Leaves q = stm_writes P q.body ≡ false

  standing : standing_faults d ≡ []
  standing = none-in (standing_faults d) (λ f h. accepted.uses f (inl h))

  unset : (before : List p.Process) (a : p.Process) → process_faults d before a ≡ [] → list_any (λ x. sets P x.what) (sites a.body) ≡ false
  unset before a none = false_from_ne_true (list_any (λ x. sets P x.what) (sites a.body)) (λ h.
      let q = some-set P (sites a.body) h in
      elim (other-kind d.signals q.signal q.passes) [ inl e ↦ no_clock d before a none q.signal e q.hits | inr e ↦ no_loop d before a none q.signal e q.hits ])

  all-leave : (before after : List p.Process) → d.processes ≡ before ++ after → All Leaves (map (unrolled_proc scope) (map plain.proc after))
  all-leave before [] split = All-nil Leaves
  all-leave before (a ∷ after) split =
      All-cons Leaves (unrolled_proc scope (plain.proc a)) (map (unrolled_proc scope) (map plain.proc after))
      (silent P scope a.path a.body (unset before a (faults_at d standing before a after split)) (still scope))
      (all-leave (before ++ (a ∷ [])) after (split ∙ sym (append_assoc before (a ∷ []) after)))

  pub flat-leaves : WritesNoOthers (unrolled_flat (plain.flat d))
  flat-leaves = record { procs = all-leave [] d.processes refl }
