-- From the boundary of its snapshot on, a run goes as the one that is resumed there.
use Rattle.std.proofs.Common.{◌≡◌, ℕ, suc, ◌≤◌, ◌<◌, nat_le, Bool, true, false, List, refl, sym, ◌∙◌, ap, subst, arith}
use Rattle.std.proofs.lemmas.Bool.{leb-true, leb-false}
use Rattle.vl_sites.specs.vl_design.specs.Syntax.{Row}
use Rattle.vl_sites.specs.vl_design.specs.State.{State}
use Rattle.vl_sites.specs.vl_design.specs.Queue.{Queue}
use Rattle.vl_sites.specs.vl_design.specs.Snapshots.{kept_words}
use Rattle.vl_sites.specs.vl_design.specs.Alone.{Origin, Settles, Boundary, begun, ticked, risen}
use Rattle.vl_sites.specs.vl_design.specs.Laws.{StartsFine}
use Rattle.vl_sites.specs.vl_design.proofs.Settling.{at_first, boundary_once}
use Rattle.vl_runs.proofs.Checks.{accepted}
use Rattle.vl_runs.proofs.Boundaries.{boundary}
use Rattle.vl_runs.proofs.Ticking.{boundary_tick}
use Rattle.sub_runs.specs.Nets.{RestIsZero}
use Rattle.vl_sites.specs.Behind.{IsBehind}
use Rattle.sub_runs.specs.Again.{CanGoOn, again, GoesOnAs, GoesOn}
use Rattle.sub_runs.proofs.Going.{Follows, Settled, settles_follow, alive_follow, risen_follows}
use Rattle.sub_runs.proofs.StartingOfAgain.{Resumed, resumes}

goes_as : (rows : List Row) (first b a : State) → IsBehind first b a → GoesOnAs rows first b a
goes_as rows first b a h = record { printed = h.printed; count = h.count; ticks = h.ticks; finished = h.finished; table = h.table; words = ap (kept_words rows) h.values }

module _ (o : Origin) (order : List ℕ) (can : CanGoOn o.flat order) (fine : StartsFine o.flat.rows o.resume)
    (k : ℕ) (q : Queue) (x : Boundary o k q) (f : q.state.finished ≡ false) (rest : RestIsZero o.flat q.state.values) where
  abbrev first : State
  first = q.state

  abbrev u : Origin
  u = again o q.state

  -- the resumed run at boundary j, where the whole one is in the queue a
  record Meets (j : ℕ) (a : Queue) : Type 0 where
    b : Queue
    at : Boundary u j b
    goes : GoesOnAs o.flat.rows first b.state a.state
    saves : k < j → a.state.saves ≡ b.state.saves
    -- and as the next tick begins
    next : Follows first (risen o.flat b) (risen o.flat a)

  meets_first : Meets k q
  meets_first =
      let r : Resumed o order can fine k q = resumes o order can fine k q x f rest in
      let h = r.behind in
      record {
        b = r.b;
        at = r.at;
        goes = record { printed = h.printed; count = h.count; ticks = h.ticks; finished = h.finished; table = h.table; words = ap (kept_words o.flat.rows) h.values };
        saves = λ l. absurd (omega (arith, l));
        next = alive_follow first o.flat o.files can.answers r.b q r.alive h r.pending;
      }

  meets_same : {j : ℕ} {a : Queue} → j ≡ k → Boundary o j a → Meets j a
  meets_same {j} {a} e y =
      let z : q ≡ a = boundary_once x (subst (λ i. Boundary o i a) e y) in
      subst (λ i. Meets i a) (sym e) (subst (Meets k) z meets_first)

  meets_next : {j : ℕ} {c a : Queue} → Settles o.flat o.files (risen o.flat c) a → Meets j c → Meets (suc j) a
  meets_next {j} {c} {a} s m =
      let r : Settled first o.flat o.files can.answers (risen o.flat m.b) a = settles_follow first o.flat o.files can.answers s (risen o.flat m.b) m.next in
      let h = r.follows.state in
      record {
        b = r.r;
        at = ticked m.at r.settles;
        goes = goes_as o.flat.rows first r.r.state a.state h;
        saves = λ l. h.saves;
        next = risen_follows first o.flat o.files can.answers r.r a r.follows;
      }

  meets : {j : ℕ} {a : Queue} → k ≤ j → Boundary o j a → Meets j a
  meets {j} l (begun e s) = let g : j ≡ k = omega (arith, l, e, at_first x) in meets_same g (begun e s)
  meets {a = a} l (ticked {k = i} {before = c} p s) = at (nat_le k i) refl (λ g. meets g p)
    where
      at : (t : Bool) → nat_le k i ≡ t → (k ≤ i → Meets i c) → Meets (suc i) a
      at true e g = meets_next s (g (leb-true k i e))
      at false e g = let h : i < k = leb-false k i e in let n : suc i ≡ k = omega (arith, l) in meets_same n (ticked p s)

  after_first : {j : ℕ} {b : Queue} → Boundary u j b → k ≤ j
  after_first {j} y = let l = at_first y in let e = boundary_tick o x f in omega (arith, l, e)

  back_to : (j : ℕ) (b : Queue) → Boundary u j b → (a : Queue) × Boundary o j a × GoesOnAs o.flat.rows first b.state a.state
  back_to j b y =
      let l : k ≤ j = after_first y in
      let a = boundary o (accepted o.flat can.checked) order can.ordered fine j (omega (arith, l, at_first x)) in
      let m : Meets j a.0 = meets l a.1 in
      let e : m.b ≡ b = boundary_once m.at y in
      (a.0, a.1, subst (λ z. GoesOnAs o.flat.rows first z.state a.0.state) e m.goes)

  pub goes_on : GoesOn o k q.state
  goes_on = record {
    there = λ j a l y. (let m : Meets j a = meets l y in (m.b, m.at, m.goes));
    back = λ j b y. (after_first y, back_to j b y);
    saves = λ j a b l y z. (let m : Meets j a = meets (omega (arith, l)) y in let e : m.b ≡ b = boundary_once m.at z in m.saves l ∙ ap (λ (r : Queue). r.state.saves) e);
  }
