use Rattle.fab_join.specs.Parts.{part_at}
use Rattle.fab_core.proofs.Standing.{cycled-stands, may, next-is}
use Rattle.fab_core.proofs.resident.Resident.cycle.Goals as goal

pub stepped-requires : goal.stepped-requires
stepped-requires c =
    let j = c.args.joined.now in
    let r = c.args.self.now in
    let holding = c.requires.0 in
    let p = c.requires.1 in
    let h = c.requires.2 in
    let can = c.requires.3 in
    let b = (part_at j r.part).bank in
    let m = may j r holding p h can in
    (b, p.acts, p.stage, h.point.stands, m, next-is j r holding p h can c.step-next.result c.step-next.ensures.state (c.a_shells_cycle_leads_to_a_state.ensures r.tenant.shell b p.acts p.stage h.point.stands m))

pub returns-clause-stands : goal.returns-clause-stands
returns-clause-stands c = λ holding p h can.
    let j = c.args.joined.now in
    let r = c.args.self.now in
    let b = (part_at j r.part).bank in
    let m = may j r holding p h can in
    let next = next-is j r holding p h can c.step-next.result c.step-next.ensures.state (c.a_shells_cycle_leads_to_a_state.ensures r.tenant.shell b p.acts p.stage h.point.stands m) in
    cycled-stands j r holding p h can c.step-next.new.self c.stepped.new.self c.step-next.ensures.stepped c.stepped.ensures.same
    (c.stepped.ensures.point b p.acts p.stage h.point.stands m next)
    (c.stepped.ensures.left b p.acts p.stage h.point.stands m next)
    c.stepped.ensures.moved
