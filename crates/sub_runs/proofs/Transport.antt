-- What goes on for a design goes on for one of which all runs are the same.
use Rattle.std.proofs.Common.{◌≡◌, ℕ, ◌+◌, ◌≤◌, ◌<◌, List, ◌++◌, Some, refl, sym, ◌∙◌, ap, subst}
use Rattle.vl_sites.specs.vl_base.specs.declared.files.OpenFile.{OpenFile}
use Rattle.vl_sites.specs.vl_design.specs.Syntax.{Row, Flat}
use Rattle.vl_sites.specs.vl_design.specs.State.{State}
use Rattle.vl_sites.specs.vl_design.specs.Queue.{Queue}
use Rattle.vl_sites.specs.vl_design.specs.Snapshots.{Snapshot, SnapRow, snap_rows, kept_words, snapshot_of}
use Rattle.vl_sites.specs.vl_design.specs.Alone.{Origin, Boundary}
use Rattle.vl_sites.specs.vl_design.specs.Observed.{observed, IsSameRun}
use Rattle.vl_sites.specs.vl_design.proofs.Settling.{boundary_once}
use Rattle.sub_runs.specs.Again.{again, GoesOnAs, GoesOn}

-- there is observed the same of two states
abbrev Same : List Row → List Row → State → State → Type 0
Same rows others s t = observed rows s ≡ observed others t

same_snapshot : (rows others : List Row) (s t : State) → rows ≡ others → Same rows others s t → snapshot_of rows s ≡ snapshot_of others t
same_snapshot rows others s t e h =
    let ticks = ap (λ z. z.ticks) h in
    let words = ap (λ z. z.words) h in
    let table = ap (λ z. z.table) h in
    made s.ticks t.ticks (snap_rows rows) (snap_rows others) (kept_words rows s.values) (kept_words others t.values) s.table t.table ticks (ap snap_rows e) words table
  where
    made : (k j : ℕ) (r r' : List SnapRow) (w w' : List ℕ) (f f' : List OpenFile) → k ≡ j → r ≡ r' → w ≡ w' → f ≡ f' →
        (let x : Snapshot = record { tick = k; rows = r; words = w; files = f } in let y : Snapshot = record { tick = j; rows = r'; words = w'; files = f' } in x ≡ y)
    made k j r r' w w' f f' a b c g = rw (a, b, c, g) refl

-- what is observed of three pairs of states alike
same_as : (rows others : List Row) (first first' b b' a a' : State) → Same rows others first first' → Same rows others b b' → Same rows others a a' → GoesOnAs others first' b' a' → GoesOnAs rows first b a
same_as rows others first first' b b' a a' e f g h =
    let e0 = ap (λ z. z.printed) e in
    let f0 = ap (λ z. z.printed) f in
    let g0 = ap (λ z. z.printed) g in
    let e1 = ap (λ z. z.count) e in
    let f1 = ap (λ z. z.count) f in
    let g1 = ap (λ z. z.count) g in
    record {
      printed = g0 ∙ (h.printed ∙ (ap (λ z. z ++ b'.printed) (sym e0) ∙ ap (λ z. first.printed ++ z) (sym f0)));
      count = g1 ∙ (h.count ∙ (ap (λ z. z + b'.count) (sym e1) ∙ ap (λ z. first.count + z) (sym f1)));
      ticks = ap (λ z. z.ticks) g ∙ (h.ticks ∙ sym (ap (λ z. z.ticks) f));
      finished = ap (λ z. z.finished) g ∙ (h.finished ∙ sym (ap (λ z. z.finished) f));
      table = ap (λ z. z.table) g ∙ (h.table ∙ sym (ap (λ z. z.table) f));
      words = ap (λ z. z.words) g ∙ (h.words ∙ sym (ap (λ z. z.words) f));
    }

module _ (o : Origin) (d : Flat) (k : ℕ) (q r : Queue) (rows : o.flat.rows ≡ d.rows) (same : (u : Origin) → u.flat ≡ o.flat → IsSameRun u (record u { flat = d }))
    (x : Boundary o k q) (y : Boundary (record o { flat = d }) k r) (on : GoesOn (record o { flat = d }) k r.state) where
  abbrev other : Origin
  other = record o { flat = d }

  abbrev u : Origin
  u = again o q.state

  abbrev u_other : Origin
  u_other = again other r.state

  whole : IsSameRun o other
  whole = same o refl

  here : Same o.flat.rows d.rows q.state r.state
  here =
      let z = whole.there k q x in
      let e : z.0 ≡ r = boundary_once z.1 y in
      z.2 ∙ ap (λ (s : Queue). observed d.rows s.state) e

  is_same : ◌≡◌ {A = Origin} (record u { flat = d }) u_other
  is_same = ap (λ (s : Snapshot). record o { flat = d; resume = Some s }) (same_snapshot o.flat.rows d.rows q.state r.state rows here)

  there_with : IsSameRun u u_other
  there_with = subst (IsSameRun u) is_same (same u refl)

  -- what is observed at a boundary of both
  at_both : (j : ℕ) (a a' : Queue) → Boundary o j a → Boundary other j a' → Same o.flat.rows d.rows a.state a'.state
  at_both j a a' s t =
      let z = whole.there j a s in
      let e : z.0 ≡ a' = boundary_once z.1 t in
      z.2 ∙ ap (λ (s : Queue). observed d.rows s.state) e

  resumed_both : (j : ℕ) (b b' : Queue) → Boundary u j b → Boundary u_other j b' → Same o.flat.rows d.rows b.state b'.state
  resumed_both j b b' s t =
      let z = there_with.there j b s in
      let e : z.0 ≡ b' = boundary_once z.1 t in
      z.2 ∙ ap (λ (s : Queue). observed d.rows s.state) e

  there : (j : ℕ) (a : Queue) → k ≤ j → Boundary o j a → (b : Queue) × Boundary u j b × GoesOnAs o.flat.rows q.state b.state a.state
  there j a l s =
      let a' = whole.there j a s in
      let b' = on.there j a'.0 l a'.1 in
      let b = there_with.back j b'.0 b'.1 in
      (b.0, b.1, same_as o.flat.rows d.rows q.state r.state b.0.state b'.0.state a.state a'.0.state here (sym b.2) a'.2 b'.2)

  back : (j : ℕ) (b : Queue) → Boundary u j b → (k ≤ j) × ((a : Queue) × Boundary o j a × GoesOnAs o.flat.rows q.state b.state a.state)
  back j b s =
      let b' = there_with.there j b s in
      let g = on.back j b'.0 b'.1 in
      let a' = g.1 in
      let a = whole.back j a'.0 a'.1 in
      (g.0, (a.0, a.1, same_as o.flat.rows d.rows q.state r.state b.state b'.0.state a.0.state a'.0.state here b'.2 (sym a.2) a'.2))

  saves : (j : ℕ) (a b : Queue) → k < j → Boundary o j a → Boundary u j b → a.state.saves ≡ b.state.saves
  saves j a b l s t =
      let a' = whole.there j a s in
      let b' = there_with.there j b t in
      ap (λ z. z.saves) a'.2 ∙ (on.saves j a'.0 b'.0 l a'.1 b'.1 ∙ sym (ap (λ z. z.saves) b'.2))

  pub same_goes_on : GoesOn o k q.state
  same_goes_on = record { there = there; back = back; saves = saves }
