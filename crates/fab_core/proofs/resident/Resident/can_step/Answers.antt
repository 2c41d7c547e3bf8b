use Rattle.std.proofs.Common.{◌≡◌, true, false, sym, ap, ◌∙◌}
use Rattle.std.specs.Prelude.{is_some, not, ◌&&◌}
use Rattle.fab_model.specs.Points.{due, rests, waits}
use Rattle.fab_join.specs.Parts.{part_at}
use Rattle.fab_core.proofs.Points.{waits-is, due-is, rests-is}
use Rattle.fab_core.proofs.Tests.{no-step-waits, no-step-due, steps-free, steps-held}
use Rattle.fab_core.proofs.resident.Resident.can_step.Goals as goal

pub returns-then-waits : goal.returns-then-waits
returns-then-waits c = λ j p k.
    let s = c.args.self.now.tenant.shell in
    let b = (part_at j c.args.self.now.part).bank in
    let w : waits p ≡ true = sym (waits-is s b p k.point) ∙ (sym (c.waits.ensures b p.acts p.stage k.point.stands) ∙ c.if-waits.true) in
    no-step-waits (waits p) (is_some (due p)) (not (c.args.holding && rests p)) w

pub returns-then-is_some : goal.returns-then-is_some
returns-then-is_some c = λ j p k.
    let s = c.args.self.now.tenant.shell in
    let b = (part_at j c.args.self.now.part).bank in
    let w : waits p ≡ false = sym (waits-is s b p k.point) ∙ (sym (c.waits.ensures b p.acts p.stage k.point.stands) ∙ c.if-waits.false) in
    let d : is_some (due p) ≡ true = ap is_some (sym (due-is s b p k.point) ∙ sym (c.due.ensures b p.acts p.stage k.point.stands)) ∙ (sym c.is_some.ensures ∙ c.if-is_some.true) in
    no-step-due (waits p) (is_some (due p)) (not (c.args.holding && rests p)) w d

pub returns-then-not-holding : goal.returns-then-not-holding
returns-then-not-holding c = λ j p k.
    let s = c.args.self.now.tenant.shell in
    let b = (part_at j c.args.self.now.part).bank in
    let w : waits p ≡ false = sym (waits-is s b p k.point) ∙ (sym (c.waits.ensures b p.acts p.stage k.point.stands) ∙ c.if-waits.false) in
    let d : is_some (due p) ≡ false = ap is_some (sym (due-is s b p k.point) ∙ sym (c.due.ensures b p.acts p.stage k.point.stands)) ∙ (sym c.is_some.ensures ∙ c.if-is_some.false) in
    ap not c.if-not-holding.true ∙ steps-free (waits p) (is_some (due p)) c.args.holding (rests p) w d c.if-not-holding.true

pub returns-else-not-holding : goal.returns-else-not-holding
returns-else-not-holding c = λ j p k.
    let s = c.args.self.now.tenant.shell in
    let b = (part_at j c.args.self.now.part).bank in
    let w : waits p ≡ false = sym (waits-is s b p k.point) ∙ (sym (c.waits.ensures b p.acts p.stage k.point.stands) ∙ c.if-waits.false) in
    let d : is_some (due p) ≡ false = ap is_some (sym (due-is s b p k.point) ∙ sym (c.due.ensures b p.acts p.stage k.point.stands)) ∙ (sym c.is_some.ensures ∙ c.if-is_some.false) in
    steps-held (waits p) (is_some (due p)) c.args.holding (rests p) (not c.rests.result) w d c.if-not-holding.false (ap not (c.rests.ensures b p.acts p.stage k.point.stands ∙ rests-is s b p k.point))
