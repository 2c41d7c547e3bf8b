-- Being the same run is an equivalence, and the same runs end alike.
use Rattle.std.proofs.Common.{◌≡◌, ℕ, ◌<◌, Some, None, refl, sym, ◌∙◌, ap, subst}
use Rattle.vl_design.specs.declared.design.End.{End}
use Rattle.vl_design.specs.Queue.{Queue}
use Rattle.vl_design.specs.Alone.{Origin, Plan, Boundary, Ends, reason_at}
use Rattle.vl_design.specs.Observed.{Observed, observed, Follows, IsSameRun}

follows_self : (o : Origin) → Follows o o
follows_self o k q b = (q, b, refl)

follows_on : (o u v : Origin) → Follows o u → Follows u v → Follows o v
follows_on o u v f g k q b =
    let x = f k q b in
    let y = g k x.0 x.1 in
    (y.0, y.1, x.2 ∙ y.2)

pub same_self : (o : Origin) → IsSameRun o o
same_self o = record { there = follows_self o; back = follows_self o }

pub same_back : (o u : Origin) → IsSameRun o u → IsSameRun u o
same_back o u s = record { there = s.back; back = s.there }

pub same_on : (o u v : Origin) → IsSameRun o u → IsSameRun u v → IsSameRun o v
same_on o u v s t = record { there = follows_on o u v s.there t.there; back = follows_on v u o t.back s.back }

-- whether there is a reason to end depends only on what is observed
pub reason_same : (plan : Plan) (k : ℕ) (q r : Queue) → q.state.finished ≡ r.state.finished → reason_at plan k q ≡ reason_at plan k r
reason_same plan k q r e = rw e refl

pub same_ends : (o u : Origin) → IsSameRun o u → o.plan ≡ u.plan → (k : ℕ) (reason : End) (q : Queue) → Ends o k reason q
    → (r : Queue) × Ends u k reason r × (observed o.flat.rows q.state ≡ observed u.flat.rows r.state)
same_ends o u s p k reason q e =
    let x = s.there k q e.at in
    let finished : q.state.finished ≡ x.0.state.finished = ap (λ (z : Observed). z.finished) x.2 in
    let why : reason_at u.plan k x.0 ≡ Some reason = subst (λ (z : Plan). reason_at z k x.0 ≡ Some reason) p (sym (reason_same o.plan k q x.0 finished) ∙ e.why) in
    let first = λ (j : ℕ) (b : Queue) (l : j < k) (c : Boundary u j b).
    (let y = s.back j b c in
    let same : b.state.finished ≡ y.0.state.finished = ap (λ (z : Observed). z.finished) y.2 in
    reason_same u.plan j b y.0 same ∙ subst (λ (z : Plan). reason_at z j y.0 ≡ None) p (e.first j y.0 l y.1)) in
    (x.0, record { at = x.1; why = why; first = first }, x.2)
