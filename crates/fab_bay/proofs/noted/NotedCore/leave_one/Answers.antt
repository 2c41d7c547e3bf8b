use Rattle.std.proofs.Common.{List, [], ◌∷◌, ◌+◌, ◌≤◌, All, sym, ◌∙◌, subst, arith}
use Rattle.std.specs.Prelude.{vec_len, vec_capacity}
use Rattle.std.proofs.lemmas.List.{map_push}
use Rattle.std.proofs.lemmas.List.Elements.{All-push}
use Rattle.fab_core.specs.fab_model.specs.declared.transit.Transit.{Transit}
use Rattle.fab_bay.specs.declared.leaving.Leaving.{Leaving}
use Rattle.fab_bay.specs.Ways.{transits, Goes, LeftFor}
use Rattle.fab_bay.proofs.Events.{on-ok}
use Rattle.fab_bay.proofs.Going.{none}
use Rattle.fab_bay.proofs.Rounds.{ready-on, ready-out}
use Rattle.fab_bay.proofs.noted.NotedCore.leave_one.Goals as goal

pub returns-then-is_err-clause-goes : goal.returns-then-is_err-clause-goes
returns-then-is_err-clause-goes c = rw c.reserve.ensures.items (none c.args.number c.args.self.now (transits c.args.leaving.now.items))

pub returns-in-Ok-clause-ready : goal.returns-in-Ok-clause-ready
returns-in-Ok-clause-ready c =
    ready-out c.args.number 0 c.args.self.now c.leave.new.self (c.in-Ok.one.transit ∷ []) c.requires.ready (c.in-Ok.ensures.goes []) c.leave.ensures.room

pub returns-in-Ok-clause-goes : goal.returns-in-Ok-clause-goes
returns-in-Ok-clause-goes c =
    let ls = c.args.leaving.now.items in
    rw (c.push_reserved.ensures.items, c.reserve.ensures.items)
    (subst (λ (ts : List Transit). Goes c.args.number 0 c.args.self.now c.leave.new.self (transits ls) ts) (sym (map_push (λ (l : Leaving). l.transit) ls c.in-Ok.one))
    (c.in-Ok.ensures.goes (transits ls)))

pub returns-in-Ok-clause-whys : goal.returns-in-Ok-clause-whys
returns-in-Ok-clause-whys c =
    rw (c.push_reserved.ensures.items, c.reserve.ensures.items) (All-push LeftFor c.args.leaving.now.items c.in-Ok.one c.requires.whys c.in-Ok.ensures.left)

pub returns-in-Err-clause-ready : goal.returns-in-Err-clause-ready
returns-in-Err-clause-ready c = ready-on c.args.number 0 c.args.self.now c.leave.new.self c.requires.ready (c.in-Err.ensures.err []) c.leave.ensures.room

pub returns-in-Err-clause-goes : goal.returns-in-Err-clause-goes
returns-in-Err-clause-goes c = rw c.reserve.ensures.items (c.in-Err.ensures.err (transits c.args.leaving.now.items))

pub returns-then-is_err-clause-whys : goal.returns-then-is_err-clause-whys
returns-then-is_err-clause-whys c = subst (λ (ls : List Leaving). All LeftFor ls) (sym c.reserve.ensures.items) c.requires.whys

pub returns-in-Err-clause-whys : goal.returns-in-Err-clause-whys
returns-in-Err-clause-whys c = subst (λ (ls : List Leaving). All LeftFor ls) (sym c.reserve.ensures.items) c.requires.whys

pub push_reserved-requires : goal.push_reserved-requires
push_reserved-requires c =
    let v = c.reserve.new.self in
    let room : vec_len v + 1 ≤ vec_capacity v = on-ok (vec_len v + 1 ≤ vec_capacity v) c.reserve.result (sym c.is_err.ensures.value ∙ c.if-is_err.false) c.reserve.ensures.ok in
    omega (arith, room)
