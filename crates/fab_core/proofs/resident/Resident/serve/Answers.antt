use Rattle.std.proofs.Common.{◌≡◌, ℕ, suc, true, false, List, ◌∷◌, sym, ap, ◌∙◌, subst}
use Rattle.std.specs.Prelude.{not}
use Rattle.std.proofs.lemmas.Result.{IfOk-weaker, on_err_weaker}
use Rattle.ten_core.specs.cell_form.specs.Data.{BankData}
use Rattle.ten_core.specs.cell_form.specs.Sound.{shape_of}
use Rattle.ten_core.specs.cell_form.specs.Views.{bank_of}
use Rattle.ten_core.specs.sub_nodes.specs.Code.{table_of}
use Rattle.ten_core.specs.sub_nodes.specs.Cycles.{Stage}
use Rattle.ten_core.specs.sub_nodes.specs.Stands.{at_trap}
use Rattle.ten_core.specs.Runs.{after_call}
use Rattle.ten_shell.specs.Shells.{flat_in, is_at_boundary, left_at, left_in, run_of, IsUnchanged, StandsFor}
use Rattle.fab_join.specs.Parts.{part_at}
use Rattle.fab_model.specs.Points.{Point, served, waits, run_in}
use Rattle.fab_core.specs.Standing.{IsPoint, Stands}
use Rattle.fab_core.proofs.Points.{memory-is, trap-is, waits-alike}
use Rattle.fab_core.proofs.Standing.{kept-point, others-kept, put-stands, served-point}
use Rattle.fab_core.proofs.Tests.{on-ok-4}
use Rattle.fab_core.proofs.resident.Resident.serve.Goals as goal

pub returns-clause-others : goal.returns-clause-others
returns-clause-others c =
    others-kept c.args.joined.now c.swap_part.new.self c.swap_part-2.new.self c.args.self.now c.serve-served.new.self c.swap_part-2.new.own c.requires.1.part.there
    c.swap_part.ensures.parts c.swap_part-2.ensures.parts c.swap_part-2.ensures.own

pub returns-clause-stands : goal.returns-clause-stands
returns-clause-stands c =
    let j = c.args.joined.now in
    let r = c.args.self.now in
    let s = r.tenant.shell in
    let t = c.serve-served.new.self.shell in
    let e = c.serve-served.ensures in
    let a : BankData = bank_of c.swap_part.new.own in
    let b : BankData = bank_of c.serve-served.new.self.bank in
    on-ok-4
    (s.engine.waits ≡ true → (n : ℕ) (i : Stage) → StandsFor s a n i → StandsFor t b (suc n) (after_call (run_of s) i))
    (s.engine.waits ≡ false → (n : ℕ) (i : Stage) → StandsFor s a n i → StandsFor t b n i)
    (s.engine.waits ≡ false → (name : List ℕ) × (left_in s ≡ name ∷ left_in t))
    (s.engine.waits ≡ true → (n : ℕ) (i : Stage) → StandsFor s a n i → is_at_boundary (flat_in s) (after_call (run_of s) i) ≡ true → left_in t ≡ left_at (run_of s) (after_call (run_of s) i))
    ((p : Point) → Stands j r p → Stands c.swap_part-2.new.self (record { tenant = record { shell = t; bank = c.swap_part-2.new.own }; part = r.part }) (served p))
    (λ call save made left p h.
    put-stands j c.swap_part.new.self c.swap_part-2.new.self r c.serve-served.new.self c.swap_part-2.new.own c.requires.1.part.there
    c.swap_part.ensures.parts c.swap_part-2.ensures.parts c.swap_part-2.ensures.own p (served p) h e.same (e.shape ∙ ap shape_of c.swap_part.ensures.own)
    (served-point s t a b e.same e.moved call save made left p (subst (λ x. IsPoint s x p) (sym c.swap_part.ensures.own) h.point)))
    c.serve-served.result e.call e.save e.made e.left

pub returns-clause-which : goal.returns-clause-which
returns-clause-which c =
    let s = c.args.self.now.tenant.shell in
    IfOk-weaker c.serve-served.result (λ saved. saved ≡ not s.engine.waits)
    (λ saved. (p : Point) → Stands c.args.joined.now c.args.self.now p → saved ≡ not (at_trap (table_of (run_in p).flat) p.stage))
    (λ saved k p h. k ∙ ap not (trap-is s (part_at c.args.joined.now c.args.self.now.part).bank p h.point))
    c.serve-served.ensures.which

pub returns-clause-err : goal.returns-clause-err
returns-clause-err c =
    let j = c.args.joined.now in
    let r = c.args.self.now in
    let s = r.tenant.shell in
    let t = c.serve-served.new.self.shell in
    let e = c.serve-served.ensures in
    let a : BankData = bank_of c.swap_part.new.own in
    let b : BankData = bank_of c.serve-served.new.self.bank in
    on_err_weaker c.serve-served.result (λ u p h.
    let v : IsUnchanged s t a b = u in
    put-stands j c.swap_part.new.self c.swap_part-2.new.self r c.serve-served.new.self c.swap_part-2.new.own c.requires.1.part.there
    c.swap_part.ensures.parts c.swap_part-2.ensures.parts c.swap_part-2.ensures.own p p h e.same (e.shape ∙ ap shape_of c.swap_part.ensures.own)
    (kept-point s t a b p (subst (λ x. IsPoint s x p) (sym c.swap_part.ensures.own) h.point) v))
    e.err

pub returns-clause-memory : goal.returns-clause-memory
returns-clause-memory c =
    let s = c.args.self.now.tenant.shell in
    let a : BankData = bank_of c.swap_part.new.own in
    on_err_weaker c.serve-served.result (λ k p h.
    let g = subst (λ x. IsPoint s x p) (sym c.swap_part.ensures.own) h.point in
    memory-is s a p g (λ w. k w p.acts p.stage g.stands))
    c.serve-served.ensures.memory
