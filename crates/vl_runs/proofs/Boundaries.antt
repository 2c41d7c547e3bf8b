-- A run comes to each boundary.
use Rattle.std.proofs.Common.{◌≡◌, ℕ, zero, suc, ◌+◌, ◌-◌, ◌≤◌, false, List, None, subst, arith}
use Rattle.vl_paths.specs.vl_base.specs.declared.files.File.{File}
use Rattle.vl_paths.specs.vl_design.specs.Syntax.{Flat}
use Rattle.vl_paths.specs.vl_design.specs.Queue.{Queue, next}
use Rattle.vl_paths.specs.vl_design.specs.Alone as alone
use Rattle.vl_paths.specs.vl_design.specs.Alone.{Origin, Settles, Boundary, begun, ticked, first_queue, first_tick, risen}
use Rattle.vl_paths.specs.vl_design.specs.Laws.{StartsFine}
use Rattle.vl_runs.specs.Checked.{IsOrder}
use Rattle.vl_runs.specs.Runs.{Comes, begins, goes, rises, IsAtRest}
use Rattle.vl_runs.proofs.Steady.{IsAccepted}
use Rattle.vl_runs.proofs.Ticks.{Rested}
use Rattle.vl_runs.proofs.Reaching.{comes_rested}

settles_come : (o : Origin) {q r : Queue} → Settles o.flat o.files q r → Comes o q → Comes o r
settles_come o (alone.rests e) c = c
settles_come o (alone.goes e s) c = settles_come o s (goes c e)

settled_rests : {d : Flat} {files : List File} {q r : Queue} → Settles d files q r → next d files r ≡ None
settled_rests (alone.rests e) = e
settled_rests (alone.goes e s) = settled_rests s

boundary_rests : (o : Origin) {k : ℕ} {q : Queue} → Boundary o k q → next o.flat o.files q ≡ None
boundary_rests o (begun e s) = settled_rests s
boundary_rests o (ticked b s) = settled_rests s

pub boundary_comes : (o : Origin) {k : ℕ} {q : Queue} → Boundary o k q → Comes o q
boundary_comes o (begun e s) = settles_come o s begins
boundary_comes o (ticked b s) = settles_come o s (rises (boundary_comes o b) (boundary_rests o b))

module _ (o : Origin) (acc : IsAccepted o.flat) (order : List ℕ) (ord : IsOrder o.flat order) (fine : StartsFine o.flat.rows o.resume) where
  record At (k : ℕ) : Type 0 where
    q : Queue
    at : Boundary o k q
    rest : q.state.finished ≡ false → IsAtRest o.flat o.files q

  after : (j : ℕ) → At (first_tick o.resume + j)
  after zero =
      let r : Rested o.flat o.files acc order ord (first_queue o o.resume) = comes_rested o acc order ord fine begins in
      record { q = r.r; at = begun (omega arith) r.settles; rest = r.rest }
  after (suc j) =
      let b : At (first_tick o.resume + j) = after j in
      let r : Rested o.flat o.files acc order ord (risen o.flat b.q) = comes_rested o acc order ord fine (rises (boundary_comes o b.at) (boundary_rests o b.at)) in
      let e : first_tick o.resume + suc j ≡ suc (first_tick o.resume + j) = omega arith in
      rw e (record { q = r.r; at = ticked b.at r.settles; rest = r.rest })

  pub boundary : (k : ℕ) → first_tick o.resume ≤ k → (q : Queue) × Boundary o k q × (q.state.finished ≡ false → IsAtRest o.flat o.files q)
  boundary k l =
      let e : first_tick o.resume + (k - first_tick o.resume) ≡ k = omega (arith, l) in
      let b : At k = subst At e (after (k - first_tick o.resume)) in
      (b.q, b.at, b.rest)
