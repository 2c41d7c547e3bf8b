use Rattle.std.proofs.Common.{◌≡◌, ℕ, ◌<◌, get_or, arith}
use Rattle.std.specs.Prelude.{vec_len}
use Rattle.fab_rounds.specs.declared.ledgers.Ledger.{Ledger}
use Rattle.fab_rounds.specs.declared.workers.Crew.{Crew}
use Rattle.fab_rounds.specs.declared.workers.Worker.{Worker}
use Rattle.fab_rounds.specs.Ledgers.{IsTurned, Operates}
use Rattle.fab_rounds.proofs.Between.{between, left_by}
use Rattle.fab_rounds.proofs.Taken.{from_ok}
use Rattle.fab_rounds.proofs.rounds.round.Goals as goal

pub take_all-requires-clause-left : goal.take_all-requires-clause-left
take_all-requires-clause-left g c = let e = c.turned_beside-crew.ensures in let w0 = c.args.workers in let w1 = c.in_ok-workers.field-0.workers in
    let n : vec_len w1 ≡ vec_len w0 = from_ok (λ (v : Crew). vec_len v.workers ≡ vec_len w0) c.turned_beside-crew.result.0 c.in_ok-workers.field-0 c.in_ok-workers.was e.count in
    let each = from_ok (λ (v : Crew). (i : ℕ) (d : Worker) → i < vec_len w0 → IsTurned c.args.desks.now (get_or w0.items i d) (get_or v.workers.items i d)) c.turned_beside-crew.result.0 c.in_ok-workers.field-0 c.in_ok-workers.was e.each in
    let ops = from_ok (λ (v : Ledger). Operates c.args.desks.now c.args.ledger v) c.turned_beside-crew.result.1 c.in_ok-ledger.ledger c.in_ok-ledger.was e.operates in
    left_by c.args.desks.now c.args.ledger c.in_ok-ledger.ledger w0.items w1.items c.requires.ledger ops.same.0 (omega (arith, n, w0.ok.0, w1.ok.0)) (λ i d lt. each i d (omega (arith, lt, w0.ok.0)))

pub returns-clause-between : goal.returns-clause-between
returns-clause-between g c = let e = c.turned_beside-crew.ensures in let w0 = c.args.workers in let w1 = c.in_ok-workers.field-0.workers in
    let n : vec_len w1 ≡ vec_len w0 = from_ok (λ (v : Crew). vec_len v.workers ≡ vec_len w0) c.turned_beside-crew.result.0 c.in_ok-workers.field-0 c.in_ok-workers.was e.count in
    let each = from_ok (λ (v : Crew). (i : ℕ) (d : Worker) → i < vec_len w0 → IsTurned c.args.desks.now (get_or w0.items i d) (get_or v.workers.items i d)) c.turned_beside-crew.result.0 c.in_ok-workers.field-0 c.in_ok-workers.was e.each in
    let ops = from_ok (λ (v : Ledger). Operates c.args.desks.now c.args.ledger v) c.turned_beside-crew.result.1 c.in_ok-ledger.ledger c.in_ok-ledger.was e.operates in
    let t = c.in_ok-take_all.ensures in let p = c.in_ok-ledger-2.ensures in
    between c.args.desks.now c.args.ledger c.in_ok-ledger.ledger c.take_all.new.self c.in_ok-ledger-2.ledger w0.items w1.items c.take_all.new.workers.items c.requires (omega (arith, n, w0.ok.0, w1.ok.0)) (λ i d lt. each i d (omega (arith, lt, w0.ok.0)))
    ops t.takes t.workers p.ledger p.same p.answers p.sums p.reach p.none
