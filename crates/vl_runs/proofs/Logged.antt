-- What is right after an act, and right before a call, is so by the log of the run by events.
use Rattle.std.proofs.Common.{◌≡◌, ℕ, suc, ◌+◌, false, List, refl, sym, ◌∙◌, ap, subst}
use Rattle.vl_paths.specs.vl_design.specs.Syntax.{Stm, Task}
use Rattle.vl_paths.specs.vl_design.specs.Functions.{scope_of}
use Rattle.vl_paths.specs.vl_design.specs.Queue.{Queue}
use Rattle.vl_paths.specs.vl_design.specs.Alone.{Origin}
use Rattle.vl_paths.specs.vl_design.specs.Acts as act
use Rattle.vl_paths.specs.vl_design.specs.Acts.{Point, Between, Inside, state_at, After, Before}
use Rattle.vl_paths.specs.vl_design.specs.Laws.{IsUnrolled, HasQuietNets}
use Rattle.vl_paths.specs.vl_design.proofs.Resting.{done_counts}
use Rattle.vl_paths.specs.vl_design.proofs.Counting.{count_is, count_before}
use Rattle.vl_runs.specs.Runs.{Comes}
use Rattle.vl_runs.specs.Log.{Moment, call_at}
use Rattle.vl_runs.specs.Blocks.{Stage, at_start, at_end, at_update, IsAt, Happens, LogAfter, LogBefore}
use Rattle.vl_runs.specs.Blocks as log
use Rattle.vl_runs.proofs.Standing.{between, inside, before_a_call}

pub happens : {o : Origin} {q : Queue} {rest : List Stm} {from committed : List (List ℕ)} {m : Moment} → IsAt o q rest from committed m → Happens o m
happens b = record {
  first = b.first;
  comes = b.comes;
  alive = b.alive;
  proc = b.proc;
  left = b.left;
  next = b.next;
  before = b.before;
  behind = _;
  log = b.log;
}

module _ (o : Origin) (u : IsUnrolled o.flat) (quiet : HasQuietNets o.flat) where
  logged : {c : ℕ} (p : Point) → After o c p → LogAfter o (state_at p).count (state_at p)
  logged (Between q) a = let s = between o u quiet q a in at s.0 s.1 s.2
    where
      at : Comes o q → q.state.finished ≡ false → Stage o q → LogAfter o q.state.count q.state
      at c f (at_start e same) = subst (λ z. LogAfter o z.state.count z.state) (sym same) (log.begins e)
      at c f (at_end e n) = log.behind_wave c f e n
      at c f (at_update e n) = log.behind_update c f e n
  logged (Inside q rest from committed) a =
      let s = inside o u quiet q rest from committed a in
      subst (λ z. LogAfter o z.count z) s.2 (log.in_block (happens s.1))

  pub after_is_logged : (c : ℕ) (p : Point) → After o c p → LogAfter o c (state_at p)
  after_is_logged c p a = subst (λ k. LogAfter o k (state_at p)) (count_is o u quiet c p a) (logged p a)

  pub before_is_logged : {c : ℕ} {task : Task} {p : Point} → Before o c task p → LogBefore o c task (state_at p)
  before_is_logged (act.before {n = n} {p = p} task q rest from committed a x) =
      let b = act.before task q rest from committed a x in
      let k : (call_at (scope_of o.flat o.files) task q.state).after.count ≡ suc n =
      ap (λ z. z + 1) (done_counts (scope_of o.flat o.files) task q.state) ∙ count_before o u quiet b in
      subst (λ j. LogBefore o j task q.state) k (log.before_call task (happens (before_a_call o u quiet q rest from committed b)) refl)
