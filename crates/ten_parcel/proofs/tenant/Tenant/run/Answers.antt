use Rattle.std.proofs.Common.{sym, ◌∙◌}
use Rattle.ten_parcel.proofs.Same.{same-refl, same-trans}
use Rattle.ten_parcel.proofs.Running.{along-rests, made-along, nearer-coming}
use Rattle.ten_parcel.proofs.tenant.Tenant.run.Goals as goal

pub acts-init : goal.acts-init
acts-init c =
    let t = c.args.self.now in
    let r = c.requires in
    made-along t t r.0 r.1 r.2 r.3 (same-refl t.shell) c.make_saves.new.self c.make_saves.ensures.stands c.in_ok-make_saves.ensures.none c.make_saves.ensures.same

pub advance-requires : goal.advance-requires
advance-requires c =
    let g = c.acts.invariant in
    (g.acts, g.stage, g.ready, sym (c.goes_on.ensures g.acts g.stage g.ready.on) ∙ c.acts-test.true)

pub make_saves-requires-in-acts : goal.make_saves-requires-in-acts
make_saves-requires-in-acts c =
    let g = c.acts.invariant in
    let n = c.in_ok-advance.ensures.nearer g.acts g.stage g.ready (sym (c.goes_on.ensures g.acts g.stage g.ready.on) ∙ c.acts-test.true) in
    (n.acts, n.stage, n.on)

pub acts-smaller : goal.acts-smaller
acts-smaller c =
    let g = c.acts.invariant in
    let n = c.in_ok-advance.ensures.nearer g.acts g.stage g.ready (sym (c.goes_on.ensures g.acts g.stage g.ready.on) ∙ c.acts-test.true) in
    nearer-coming c.acts.self c.advance.new.self g.acts g.stage g.ready.on n c.advance.ensures.same c.make_saves-in-acts.new.self.engine c.make_saves-in-acts.ensures.engine

pub acts-preserved : goal.acts-preserved
acts-preserved c =
    let g = c.acts.invariant in
    let n = c.in_ok-advance.ensures.nearer g.acts g.stage g.ready (sym (c.goes_on.ensures g.acts g.stage g.ready.on) ∙ c.acts-test.true) in
    made-along c.args.self.now c.advance.new.self n.acts n.stage n.on c.requires.3 (same-trans c.args.self.now.shell c.acts.self.shell c.advance.new.self.shell g.same c.advance.ensures.same)
    c.make_saves-in-acts.new.self c.make_saves-in-acts.ensures.stands c.in_ok-make_saves-2.ensures.none c.make_saves-in-acts.ensures.same

pub returns-clause-rests : goal.returns-clause-rests
returns-clause-rests c =
    let g = c.acts.invariant in
    along-rests c.args.self.now c.acts.self g (sym (c.goes_on.ensures g.acts g.stage g.ready.on) ∙ c.acts-test.false)

pub returns-clause-ended : goal.returns-clause-ended
returns-clause-ended c n i w = sym (c.goes_on.ensures n i w) ∙ c.acts-test.false

pub returns-in_err-advance-clause-stands : goal.returns-in_err-advance-clause-stands
returns-in_err-advance-clause-stands c =
    let g = c.acts.invariant in
    (g.acts, g.stage, c.in_err-advance.ensures.stands g.acts g.stage g.ready.on)

pub returns-in_err-make_saves-2-clause-stands : goal.returns-in_err-make_saves-2-clause-stands
returns-in_err-make_saves-2-clause-stands c =
    let g = c.acts.invariant in
    let n = c.in_ok-advance.ensures.nearer g.acts g.stage g.ready (sym (c.goes_on.ensures g.acts g.stage g.ready.on) ∙ c.acts-test.true) in
    (n.acts, n.stage, c.make_saves-in-acts.ensures.stands n.acts n.stage n.on)
