-- One pass leaves signals that aren't computed as they are; loop variables and clocks are none of these.
use Rattle.std.proofs.Common.{◌≡◌, ℕ, Bool, true, false, List, [], ◌∷◌, Option, Some, None, refl, sym, ◌∙◌}
use Rattle.std.specs.Prelude.{◌==◌, if◌then◌else◌, slice_get}
use Rattle.std.proofs.lemmas.Bool.{eq-eqb, true≢false}
use Rattle.vl_design.specs.vl_base.specs.declared.files.File.{File}
use Rattle.vl_design.specs.declared.design.SigKind.{SigKind}
use Rattle.vl_design.specs.declared.design.SigKind.TheVariants.{Net, Var, Comb, Loop, Mem, Clock}
use Rattle.vl_design.specs.Exec.{exec}
use Rattle.vl_design.specs.Functions.{scope_of}
use Rattle.vl_design.specs.Queue.{proc_at}
use Rattle.vl_design.specs.State.{State}
use Rattle.vl_design.specs.Syntax.{Row, Flat}
use Rattle.vl_design.specs.Value.{words_of}
use Rattle.vl_design.proofs.Kept.{exec_keeps}
use Rattle.ten_form.specs.vl_runs.specs.Nets.{pass}
use Rattle.ten_form.specs.vl_runs.specs.Computed.{is_computed, is_computed_row, computed_at}
use Rattle.ten_form.specs.vl_runs.specs.NetsOfSettle.{comb_at, run}
use Rattle.cell_emit.specs.vl_sites.specs.Others.{is_other, is_other_row, other_at}
use Rattle.cell_states.specs.Designs.{ComputesAlone}

pub pass-keeps : (d : Flat) (files : List File) (s : State) (k : ℕ) → ComputesAlone d → computed_at d.rows k ≡ false → (os : List ℕ) (v : List (List ℕ)) → words_of (pass (run d files s) os v) k ≡ words_of v k
pass-keeps d files s k alone other [] v = refl
pass-keeps d files s k alone other (i ∷ os) v = pass-keeps d files s k alone other os (run d files s i v) ∙ one (comb_at d i) refl
  where
    one : (c : Bool) → comb_at d i ≡ c → words_of (if c then (exec (scope_of d files) (proc_at d i).body (record s { values = v })).values else v) k ≡ words_of v k
    one true e = sym (exec_keeps (λ x. x == k) k (eq-eqb k k refl) (scope_of d files) (proc_at d i).body (alone i k e other) (record s { values = v }))
    one false e = refl

other-kind : (kind : SigKind) → is_other kind ≡ true → is_computed kind ≡ false
other-kind Net h = absurd (true≢false (sym h))
other-kind Var h = refl
other-kind Comb h = absurd (true≢false (sym h))
other-kind Loop h = refl
other-kind Mem h = refl
other-kind Clock h = refl

pub other-plain : (rows : List Row) (k : ℕ) → other_at rows k ≡ true → computed_at rows k ≡ false
other-plain rows k = of (slice_get rows k)
  where
    of : (o : Option Row) → is_other_row o ≡ true → is_computed_row o ≡ false
    of None h = refl
    of (Some r) h = other-kind r.kind h
