-- The run of the design that a text stands for goes on as its image's does.
use Rattle.std.proofs.Common.{◌≡◌, ℕ, List, false, sym, ap, ◌∙◌, subst}
use Rattle.vl_loops.specs.vl_design.specs.Alone.{Origin, Boundary}
use Rattle.vl_loops.specs.vl_design.specs.Laws.{StartsFine}
use Rattle.vl_loops.specs.vl_design.specs.Observed.{IsSameRun}
use Rattle.vl_loops.specs.vl_design.specs.Queue.{Queue}
use Rattle.vl_loops.specs.vl_design.specs.Syntax.{Row, Flat}
use Rattle.vl_loops.specs.vl_design.specs.Trees.{flat_of}
use Rattle.sub_runs.specs.Again.{CanGoOn, GoesOn}
use Rattle.ten_make.specs.ten_core.specs.declared.image.Image.{Image}
use Rattle.ten_build.specs.Builds.{IsImageOf}

-- the laws that are called
abbrev Resumes : Type 0
Resumes = (o : Origin) (order : List ℕ) (k : ℕ) (q : Queue) → CanGoOn o.flat order → StartsFine o.flat.rows o.resume → Boundary o k q → q.state.finished ≡ false → GoesOn o k q.state

abbrev Transports : Type 0
Transports = (o : Origin) (d : Flat) (k : ℕ) (q r : Queue) → o.flat.rows ≡ d.rows → ((u : Origin) → u.flat ≡ o.flat → IsSameRun u (record u { flat = d })) → Boundary o k q → Boundary (record o { flat = d }) k r → GoesOn (record o { flat = d }) k r.state → GoesOn o k q.state

pub goes-on : (text : List ℕ) (image : Image) (o : Origin) (k : ℕ) (q : Queue) → (is : IsImageOf text image) → o.flat ≡ is.design → StartsFine o.flat.rows o.resume → Boundary o k q → q.state.finished ≡ false → Resumes → Transports → GoesOn o k q.state
goes-on text image o k q is e fine at f resumes transports =
    let d : Flat = flat_of image.design in
    let other : Origin = record o { flat = d } in
    let there = (is.runs.same o e).there k q at in
    let same-rows : o.flat.rows ≡ d.rows = ap (λ (x : Flat). x.rows) e ∙ sym is.runs.rows in
    let fine-there : StartsFine d.rows o.resume = subst (λ (rs : List Row). StartsFine rs o.resume) same-rows fine in
    let on : GoesOn other k there.0.state = resumes other is.order k there.0 is.goes_on fine-there there.1 (sym (ap (λ z. z.finished) there.2) ∙ f) in
    transports o d k q there.0 same-rows (λ u g. is.runs.same u (g ∙ e)) at there.1 on
