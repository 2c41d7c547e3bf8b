-- Combinational processes hold over the committed values, at each point of a run act by act.
use Rattle.std.proofs.Common.{◌≡◌, ℕ, nat_lt, true, false, List, [], ◌∷◌, Option, Some, None, refl, sym, ◌∙◌, ap, subst}
use Rattle.std.specs.Prelude.{◌⊎◌, ◌==◌, All, pos, slice_index}
use mathlib.Core.Logic.{inl, inr}
use Rattle.vl_paths.specs.vl_base.specs.Selects.{bit_of}
use Rattle.vl_paths.specs.vl_design.specs.Syntax.{Task, Stm, Proc}
use Rattle.vl_paths.specs.vl_design.specs.Width.{Scope}
use Rattle.vl_paths.specs.vl_design.specs.Value.{words_of}
use Rattle.vl_paths.specs.vl_design.specs.State.{State}
use Rattle.vl_paths.specs.vl_design.specs.Functions.{scope_of, fresh}
use Rattle.vl_paths.specs.vl_design.specs.Queue.{Queue, Wave, Updated, first_pending, next_phase, next}
use Rattle.vl_paths.specs.vl_design.specs.Snapshots.{Snapshot}
use Rattle.vl_paths.specs.vl_design.specs.Alone.{Origin, start, first_queue}
use Rattle.vl_paths.specs.vl_design.specs.Acts.{Point, Between, Inside, state_at, committed_at, entered_by, After, Before}
use Rattle.vl_paths.specs.vl_design.specs.Laws.{StartsFine, IsUnrolled, HasQuietNets}
use Rattle.vl_paths.specs.vl_design.proofs.Returning.{exec_ticks}
use Rattle.vl_runs.specs.NetsOfSettle.{Place, bit_at, AreSolved, SameDriven}
use Rattle.vl_runs.specs.Checked.{IsChecked, IsOrder}
use Rattle.vl_runs.specs.Runs as runs
use Rattle.vl_runs.specs.Runs.{Comes}
use Rattle.vl_runs.proofs.Steady.{IsAccepted, IsApart, AreApart, OfPhase}
use Rattle.vl_runs.proofs.Checks.{itself, accepted}
use Rattle.vl_runs.proofs.Ticks.{same_run, block_keeps}
use Rattle.vl_runs.proofs.Reaching.{comes_steady, calm_solved}
use Rattle.vl_runs.specs.Log.{Moment}
use Rattle.vl_runs.specs.Blocks as wave
use Rattle.vl_runs.specs.Blocks.{InWave, Stage, at_start, at_end, at_update, IsAt, has_settled}
use Rattle.vl_runs.proofs.Standing.{by_phase, quiet_next, entered_values, between, inside, before_a_call}
use Rattle.vl_runs.proofs.Onward.{checked_quiet}
use Rattle.vl_runs.proofs.Holding.{all_middle, log_ticks, log_keeps}

of_words : (v w : List (List ℕ)) (b : Place) → words_of v b.0.signal ≡ words_of w b.0.signal → bit_at v b ≡ bit_at w b
of_words v w b e = ap (λ ws. bit_of (slice_index ws b.1) (pos b.0.place)) e

module _ (o : Origin) (checked : IsChecked o.flat) (u : IsUnrolled o.flat) (order : List ℕ) (ord : IsOrder o.flat order) (fine : StartsFine o.flat.rows o.resume) where
  quiet : HasQuietNets o.flat
  quiet = checked_quiet o.flat checked

  acc : IsAccepted o.flat
  acc = accepted o.flat checked

  abbrev scope : Scope
  scope = scope_of o.flat o.files

  -- ---- in a wave

  entered_comes : (q : Queue) (ahead : List (List Proc)) → Comes o q → q.ahead ≡ ahead → next o.flat o.files q ≡ next_phase o.flat o.files q Updated ahead → Comes o (entered_by o.flat o.files q Updated ahead)
  entered_comes q [] c a n = runs.rises c n
  entered_comes q (w ∷ ws) c a n = runs.goes c n

  wave_comes : {committed : List (List ℕ)} {q : Queue} → InWave o committed q → Comes o q
  wave_comes (wave.at_zero e k) = subst (λ z. Comes o (first_queue o z)) e runs.begins
  wave_comes (wave.behind {q = q} c f ph n k) = entered_comes q q.ahead c refl (quiet_next o u quiet q Updated tt f ph n)
  wave_comes (wave.runs {q = q} {p = p} {ps = ps} w f ph) = runs.goes (wave_comes w) (by_phase o u quiet q (Wave (p ∷ ps)) f ph)

  next_apart : (q : Queue) (p : Proc) (ps : List Proc) → Comes o q → q.state.finished ≡ false → q.phase ≡ Wave (p ∷ ps) → IsApart o.flat p.body
  next_apart q p ps c f ph = let k : AreApart o.flat (p ∷ ps) = subst (OfPhase o.flat) ph (comes_steady o acc order ord fine c f).phase in k.0

  wave_keeps : {committed : List (List ℕ)} {q : Queue} → InWave o committed q → SameDriven o.flat committed q.state.values
  wave_keeps (wave.at_zero e k) i b h = ap (λ v. bit_at v b) k
  wave_keeps (wave.behind {q = q} c f ph n k) i b h = ap (λ v. bit_at v b) (k ∙ sym (entered_values o u quiet q q.ahead))
  wave_keeps (wave.runs {q = q} {p = p} {ps = ps} w f ph) i b h =
      wave_keeps w i b h ∙ block_keeps o.flat o.files acc p.body (next_apart q p ps (wave_comes w) f ph) q.state i b h

  -- where a calm queue has these values, they solve each process
  solved : (q : Queue) → Comes o q → q.state.finished ≡ false → first_pending o.flat.procs q.pending ≡ None → AreSolved o.flat o.files (fresh q.state.values)
  solved q c f n i l =
      let s = calm_solved o.flat o.files acc order ord q (comes_steady o acc order ord fine c f).ready n i l in
      same_run o.flat o.files acc i (fresh q.state.values) q.state refl f q.state.values ∙ s

  wave_solved : {committed : List (List ℕ)} {q : Queue} → InWave o committed q → ((o.resume ≡ None) × (q.state.ticks ≡ 0)) ⊎ AreSolved o.flat o.files (fresh committed)
  wave_solved (wave.at_zero e k) = inl (e, refl)
  wave_solved (wave.behind {q = q} c f ph n k) = inr (subst (λ v. AreSolved o.flat o.files (fresh v)) (sym k) (solved q c f n))
  wave_solved (wave.runs {q = q} {p = p} w f ph) = elim (wave_solved w) [
    | inl h ↦ inl (h.0, sym (exec_ticks scope p.body q.state) ∙ h.1)
    | inr h ↦ inr h
  ]

  -- ---- at an act of a block

  abbrev pub Hold : List (List ℕ) → List (List ℕ) → Type 0
  Hold committed now = AreSolved o.flat o.files (fresh committed) × SameDriven o.flat committed now

  late : (s : Option Snapshot) (q r : Queue) (rest : List Stm) (from committed : List (List ℕ)) → s ≡ None → r.state.ticks ≡ 0 → r.state.ticks ≡ q.state.ticks → has_settled s (Inside q rest from committed) ≡ true → ⊥
  late None q r rest from committed e t same h = let z : q.state.ticks ≡ 0 = sym same ∙ t in let y : false ≡ true = ap (λ n. nat_lt 0 n) (sym z) ∙ h in cc
  late (Some s) q r rest from committed e t same h = cc

  in_block : {q : Queue} {rest : List Stm} {from committed : List (List ℕ)} {m : Moment} (now : State) → IsAt o q rest from committed m → (now ≡ m.before) ⊎ (now ≡ m.after) → now ≡ q.state
      → has_settled o.resume (Inside q rest from committed) ≡ true → Hold committed now.values
  in_block {q} {rest} {from} {committed} {m} now x side same h = (is_solved (wave_solved x.wave), keeps)
    where
      tick_by : (now ≡ m.before) ⊎ (now ≡ m.after) → (x.first.state.ticks ≡ m.before.ticks) × (x.first.state.ticks ≡ m.after.ticks) → x.first.state.ticks ≡ now.ticks
      tick_by (inl e) t = t.0 ∙ ap (λ z. z.ticks) (sym e)
      tick_by (inr e) t = t.1 ∙ ap (λ z. z.ticks) (sym e)

      ticks : x.first.state.ticks ≡ q.state.ticks
      ticks =
          tick_by side (all_middle (λ m. (x.first.state.ticks ≡ m.before.ticks) × (x.first.state.ticks ≡ m.after.ticks)) x.before _ m
          (subst (All (λ m. (x.first.state.ticks ≡ m.before.ticks) × (x.first.state.ticks ≡ m.after.ticks))) x.log (log_ticks scope x.proc.body x.first.state))) ∙ ap (λ z. z.ticks) same

      is_solved : ((o.resume ≡ None) × (x.first.state.ticks ≡ 0)) ⊎ AreSolved o.flat o.files (fresh committed) → AreSolved o.flat o.files (fresh committed)
      is_solved (inl e) = absurd (late o.resume q x.first rest from committed e.0 e.1 ticks h)
      is_solved (inr e) = e

      word_by : (k : ℕ) → (now ≡ m.before) ⊎ (now ≡ m.after) → (words_of x.first.state.values k ≡ words_of m.before.values k) × (words_of x.first.state.values k ≡ words_of m.after.values k) → words_of x.first.state.values k ≡ words_of now.values k
      word_by k (inl e) t = t.0 ∙ ap (λ z. words_of z.values k) (sym e)
      word_by k (inr e) t = t.1 ∙ ap (λ z. words_of z.values k) (sym e)

      keeps : SameDriven o.flat committed now.values
      keeps i b d =
          let k = b.0.signal in
          let apart = next_apart x.first x.proc x.left x.comes x.alive x.next i b.0 d in
          let w = word_by k side (all_middle (λ m. (words_of x.first.state.values k ≡ words_of m.before.values k) × (words_of x.first.state.values k ≡ words_of m.after.values k)) x.before _ m
          (subst (All (λ m. (words_of x.first.state.values k ≡ words_of m.before.values k) × (words_of x.first.state.values k ≡ words_of m.after.values k))) x.log
          (log_keeps scope (λ j. j == k) k (itself k) x.proc.body apart x.first.state))) in
          wave_keeps x.wave i b d ∙ of_words x.first.state.values now.values b w

  -- ---- at each point

  between_settled : (q : Queue) → Comes o q → q.state.finished ≡ false → Stage o q → has_settled o.resume (Between q) ≡ true → Hold q.state.values q.state.values
  between_settled q c f (at_start e same) h =
      let z : has_settled None (Between (start o.flat)) ≡ true = subst (λ x. has_settled None (Between x) ≡ true) same (subst (λ x. has_settled x (Between q) ≡ true) e h) in
      let y : ⊥ = cc in absurd y
  between_settled q c f (at_end e n) h = (solved q c f n, λ i b d. refl)
  between_settled q c f (at_update e n) h = (solved q c f n, λ i b d. refl)

  pub after_holds : {c : ℕ} (p : Point) → After o c p → has_settled o.resume p ≡ true → AreSolved o.flat o.files (fresh (committed_at p)) × SameDriven o.flat (committed_at p) (state_at p).values
  after_holds (Between q) a h = let s = between o u quiet q a in between_settled q s.0 s.1 s.2 h
  after_holds (Inside q rest from committed) a h =
      let s = inside o u quiet q rest from committed a in
      in_block q.state s.1 (inr (sym s.2)) refl h

  pub before_holds : {c : ℕ} {task : Task} (q : Queue) (rest : List Stm) (from committed : List (List ℕ)) → Before o c task (Inside q rest from committed) → has_settled o.resume (Inside q rest from committed) ≡ true
      → AreSolved o.flat o.files (fresh committed) × SameDriven o.flat committed q.state.values
  before_holds q rest from committed b h = in_block q.state (before_a_call o u quiet q rest from committed b) (inl refl) refl h
