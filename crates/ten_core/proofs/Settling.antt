-- A bank holds a state still where nets settle.
use Rattle.std.proofs.Common.{◌≡◌, ℕ, Bool, true, false, List, [], ◌∷◌, Option, Some, None, refl, sym, ap, ◌∙◌}
use Rattle.std.specs.Prelude.{◌==◌, if◌then◌else◌, slice_get, slice_index}
use Rattle.std.proofs.lemmas.Bool.{eq-eqb}
use Rattle.vl_design.specs.vl_base.specs.declared.files.File.{File}
use Rattle.vl_design.specs.declared.design.SigKind.{SigKind}
use Rattle.vl_design.specs.Exec.{exec}
use Rattle.vl_design.specs.Functions.{scope_of}
use Rattle.vl_design.specs.Queue.{proc_at}
use Rattle.vl_design.specs.Sound.{IsMem, IsMemory}
use Rattle.vl_design.specs.State.{State}
use Rattle.vl_design.specs.Syntax.{Row, Flat}
use Rattle.vl_design.specs.Value.{value_of, words_of}
use Rattle.vl_design.specs.Width.{names_of}
use Rattle.vl_design.proofs.Kept.{exec_keeps}
use Rattle.ten_form.specs.vl_runs.specs.Nets.{pass}
use Rattle.ten_form.specs.vl_runs.specs.Computed.{is_computed, is_computed_row, computed_at}
use Rattle.ten_form.specs.vl_runs.specs.NetsOfSettle.{comb_at, run}
use Rattle.trap_runtime.specs.cell_form.specs.Data.{BankData}
use Rattle.ten_form.specs.sub_nodes.specs.Cycles.{settled}
use Rattle.ten_form.specs.Banks.{HoldsState}
use Rattle.ten_form.specs.Nets.{cleared, nets_of}
use Rattle.ten_core.specs.Holding.{ComputesAlone}
use Rattle.ten_core.proofs.Listing.{named, is-memory}
use Rattle.ten_core.proofs.Taking.{unless_computed, cleared-at}

module _ (d : Flat) (alone : ComputesAlone d) (files : List File) where
  -- an evaluation keeps the words of a signal that isn't computed
  run-keeps : (s : State) (k : ℕ) → computed_at d.rows k ≡ false → (i : ℕ) (v : List (List ℕ)) → words_of (run d files s i v) k ≡ words_of v k
  run-keeps s k none i v = at (comb_at d i) refl
    where
      at : (b : Bool) → comb_at d i ≡ b → words_of (if b then (exec (scope_of d files) (proc_at d i).body (record s { values = v })).values else v) k ≡ words_of v k
      at true e = sym (exec_keeps (λ x. x == k) k (eq-eqb k k refl) (scope_of d files) (proc_at d i).body (alone i k e none) (record s { values = v }))
      at false e = refl

  pass-keeps : (s : State) (k : ℕ) → computed_at d.rows k ≡ false → (order : List ℕ) (v : List (List ℕ)) → words_of (pass (run d files s) order v) k ≡ words_of v k
  pass-keeps s k none [] v = refl
  pass-keeps s k none (p ∷ ps) v = pass-keeps s k none ps (run d files s p v) ∙ run-keeps s k none p v

  module _ (order : List ℕ) (s : State) where
    abbrev nets : List (List ℕ)
    nets = nets_of d files order s

    -- but for computed signals the values are those before
    unless-same : (o : Option Row) (v w : ℕ) → (is_computed_row o ≡ false → v ≡ w) → unless_computed o v ≡ unless_computed o w
    unless-same None v w h = refl
    unless-same (Some r) v w h = at (is_computed r.kind) refl
      where
        at : (b : Bool) → is_computed r.kind ≡ b → (if b then 0 else v) ≡ (if b then 0 else w)
        at true e = refl
        at false e = h e

    same-cleared : (k : ℕ) → value_of (cleared d.rows s.values) k ≡ value_of (cleared d.rows nets) k
    same-cleared k =
        cleared-at d.rows s.values k
        ∙ unless-same (slice_get d.rows k) (value_of s.values k) (value_of nets k) (λ e. ap (λ (ws : List ℕ). slice_index ws 0) (sym (pass-keeps s k e order s.values)))
        ∙ sym (cleared-at d.rows nets k)

    no-net : (kind : SigKind) → IsMem kind → is_computed kind ≡ false
    no-net kind h = ap is_computed (is-memory kind h)

    memory-same : (m : ℕ) → IsMemory (names_of d) m → words_of s.values m ≡ words_of nets m
    memory-same m i =
        let x = named IsMem (slice_get d.rows m) i in
        sym (pass-keeps s m (ap is_computed_row x.is ∙ no-net x.row.kind x.kind) order s.values)

    pub still-holds : (b : BankData) → HoldsState d b s s.values → HoldsState d b (settled d files (nets_of d files order) s) nets
    still-holds b h = record {
      signals = record {
        works = λ k i. h.signals.works k i ∙ same-cleared k;
        values = λ k i. h.signals.values k i ∙ same-cleared k;
        pending = h.signals.pending;
        ticks = h.signals.ticks;
        few = h.signals.few;
        answer = h.signals.answer;
        small = h.signals.small;
      };
      memories = λ m i. h.memories m i ∙ memory-same m i;
      words = h.words;
    }
