-- The nodes of a design's table.
use Rattle.std.proofs.Common.{◌≡◌, ◌≤◌, ◌+◌, ℕ, zero, suc, List, [], ◌∷◌, ◌++◌, append_assoc, length, length-append, take, Bool, true, false, refl, sym, ap, ◌∙◌, arith, subst, Some}
use Rattle.std.specs.Prelude.{⊤, if◌then◌else◌, slice_get, filter}
use Rattle.std.specs.List.{sum_by}
use Rattle.std.proofs.Math.Seq.{take-append_seam}
use Rattle.std.proofs.lemmas.List.Sums.{sum_by-cons}
use Rattle.ten_core.specs.vl_design.specs.declared.design.ProcKind.{ProcKind}
use Rattle.ten_core.specs.vl_design.specs.Alone.{blocks}
use Rattle.ten_core.specs.vl_design.specs.Queue.{is_init, is_rise, is_fall}
use Rattle.ten_core.specs.vl_design.specs.Syntax.{Task, Stm, Proc, Flat}
use Rattle.cell_states.specs.cell_expr.specs.Counts.{body_cells}
use Rattle.cell_states.specs.cell_calls.specs.Counts.{asked_count}
use Rattle.cell_states.specs.cell_calls.specs.Next.{next_count}
use Rattle.cell_states.specs.Cells.{stms_count, way_count}
use Rattle.sub_split.specs.sub_nodes.specs.Early.{early_from}
use Rattle.sub_split.specs.sub_nodes.specs.Pairs.{ArePaired}
use Rattle.sub_split.specs.sub_nodes.proofs.Pairing.{pair_at}
use Rattle.sub_split.specs.sub_nodes.specs.Implements.{bodies}
use Rattle.sub_split.specs.sub_nodes.specs.Nodes.{Segment, still, rising, WayOn, Go, Branch, Switch, Commit, Node, Run, Trap, Apply}
use Rattle.sub_split.specs.sub_nodes.specs.Code.{wave_nodes, fall_nodes, updates, table_of}
use Rattle.ten_core.specs.ten_form.specs.Banks.{cell_nodes}
use Rattle.ten_make.proofs.Weights.{stm_most}
use Rattle.ten_make.proofs.Lights.{AreLight, light-both, light-more, all_most, wave-light}

-- what the processes of a kind may add
abbrev pub kind_most : Flat → (ProcKind → Bool) → Proc → ℕ
kind_most d p x = if p x.kind then stm_most (body_cells d) x.body else 0

module _ (d : Flat) where
  abbrev Most : (ProcKind → Bool) → List Proc → ℕ
  Most p ps = sum_by (kind_most d p) ps

  pub blocks-most : (p : ProcKind → Bool) (ps : List Proc) → all_most d (bodies (blocks p ps)) ≡ Most p ps
  blocks-most p [] = refl
  blocks-most p (x ∷ ps) = (let i = blocks-most p ps in go i (p x.kind) refl)
    where
      go : all_most d (bodies (blocks p ps)) ≡ Most p ps → (q : Bool) → p x.kind ≡ q → all_most d (bodies (blocks p (x ∷ ps))) ≡ Most p (x ∷ ps)
      go i true e =
          let c = sum_by-cons (kind_most d p) x ps in
          let one : kind_most d p x ≡ stm_most (body_cells d) x.body = rw e refl in
          let cut : all_most d (bodies (blocks p (x ∷ ps))) ≡ stm_most (body_cells d) x.body + all_most d (bodies (blocks p ps)) = rw e refl in
          omega (arith, c, i, one, cut)
      go i false e =
          let c = sum_by-cons (kind_most d p) x ps in
          let zero' : ℕ = 0 in
          let one : kind_most d p x ≡ zero' = rw e refl in
          let cut : all_most d (bodies (blocks p (x ∷ ps))) ≡ all_most d (bodies (blocks p ps)) = rw e refl in
          omega (arith, c, i, one, cut)

  -- so many cells have the nodes of all waves but time zero's
  abbrev pub most : ℕ
  most = 1 + Most is_rise d.procs + Most is_fall d.procs

  updates-light : (ps : List Proc) (rise fall : ℕ) → AreLight d most (updates ps rise fall)
  updates-light [] rise fall = tt
  updates-light (p ∷ ps) rise fall = tt

  updates-long : (ps : List Proc) (rise fall : ℕ) → length (updates ps rise fall) ≡ length (updates ps 0 0)
  updates-long [] rise fall = refl
  updates-long (p ∷ ps) rise fall = refl

  falls-light : (from : ℕ) (ps : List Proc) → 1 + all_most d (bodies ps) ≤ most → AreLight d most (fall_nodes from ps)
  falls-light from [] le = tt
  falls-light from (p ∷ ps) le = wave-light d from most 2 (bodies (p ∷ ps)) still refl le

  front-three : (a b c r : List Node) (n : ℕ) → n ≡ length a + length b + length c → take n (a ++ (b ++ (c ++ r))) ≡ a ++ (b ++ c)
  front-three a b c r n e =
      let one : a ++ (b ++ (c ++ r)) ≡ (a ++ (b ++ c)) ++ r = ap (λ xs. a ++ xs) (sym (append_assoc b c r)) ∙ sym (append_assoc a (b ++ c) r) in
      let l1 = length-append a (b ++ c) in
      let l2 = length-append b c in
      let long : n ≡ length (a ++ (b ++ c)) = omega (arith, e, l1, l2) in
      ap (take n) one ∙ ap (λ k. take k ((a ++ (b ++ c)) ++ r)) long ∙ take-append_seam (a ++ (b ++ c)) r

  pub cells-light : AreLight d most (cell_nodes d)
  cells-light =
      let T = table_of d in
      let ups = bodies (blocks is_rise d.procs) in
      let falls = blocks is_fall d.procs in
      let inits = bodies (blocks is_init d.procs) in
      let from = length (updates falls 0 0) in
      let up = wave_nodes from 1 ups rising in
      let down = fall_nodes (from + length up) falls in
      let first = wave_nodes (from + length up + length down) 0 inits still in
      let over = updates falls T.rise.first T.fall.first in
      let b1 = blocks-most is_rise d.procs in
      let b2 = blocks-most is_fall d.procs in
      let long = updates-long falls T.rise.first T.fall.first in
      let cut : cell_nodes d ≡ over ++ (up ++ down) = front-three over up down first (early_from d) (omega (arith, long)) in
      subst (AreLight d most) (sym cut)
      (light-both d most over (up ++ down) (updates-light falls T.rise.first T.fall.first)
      (light-both d most up down (wave-light d from most 1 ups rising refl (omega (arith, b1))) (falls-light (from + length up) falls (omega (arith, b2)))))

  -- ---- by its number

  pub record HasCall (xs : List Node) (k : ℕ) (g : Segment) : Type 0 where
    pub task : Task
    pub to : ℕ
    pub there : slice_get xs (suc k) ≡ Some (Trap task to)
    pub few : stms_count d g.statements + (1 + asked_count (body_cells d) task) ≤ most

  seg-is : {g g' : Segment} {on on' : WayOn} → Some (Run g on) ≡ Some (Run g' on') → g ≡ g'
  seg-is h = cc

  way-is : {g g' : Segment} {on on' : WayOn} → Some (Run g on) ≡ Some (Run g' on') → on ≡ on'
  way-is h = cc

  deeper : (x : Node) (xs : List Node) (k : ℕ) (g : Segment) → HasCall xs k g → HasCall (x ∷ xs) (suc k) g
  deeper x xs k g f = record { task = f.task; to = f.to; there = f.there; few = f.few }

  call-at : (xs : List Node) (k m : ℕ) (g : Segment) → AreLight d most xs → slice_get xs k ≡ Some (Run g (Go m)) → HasCall xs k g
  call-at [] k m g f h = (let z : ⊥ = cc in absurd z)
  call-at (Run s (Go i) ∷ []) k m g f h = absurd f
  call-at (Run s (Go i) ∷ Run s' on ∷ a) k m g f h = absurd f
  call-at (Run s (Go i) ∷ Apply to ∷ a) k m g f h = absurd f
  call-at (Run s (Go i) ∷ Trap task to ∷ a) zero m g f h =
      let few = f.0 in
      let e : s ≡ g = seg-is h in
      record { task = task; to = to; there = refl; few = subst (λ (z : Segment). stms_count d z.statements + (1 + asked_count (body_cells d) task) ≤ most) e few }
  call-at (Run s (Go i) ∷ Trap task to ∷ a) (suc zero) m g f h = (let z : ⊥ = cc in absurd z)
  call-at (Run s (Go i) ∷ Trap task to ∷ a) (suc (suc k)) m g f h = deeper (Run s (Go i)) (Trap task to ∷ a) (suc k) g (deeper (Trap task to) a k g (call-at a k m g f.1 h))
  call-at (Run s (Branch t x y) ∷ a) zero m g f h = (let z : ⊥ = cc in absurd z)
  call-at (Run s (Branch t x y) ∷ a) (suc k) m g f h = deeper (Run s (Branch t x y)) a k g (call-at a k m g f.1 h)
  call-at (Run s (Switch t ws o) ∷ a) zero m g f h = (let z : ⊥ = cc in absurd z)
  call-at (Run s (Switch t ws o) ∷ a) (suc k) m g f h = deeper (Run s (Switch t ws o)) a k g (call-at a k m g f.1 h)
  call-at (Run s (Commit to) ∷ a) zero m g f h = (let z : ⊥ = cc in absurd z)
  call-at (Run s (Commit to) ∷ a) (suc k) m g f h = deeper (Run s (Commit to)) a k g (call-at a k m g f.1 h)
  call-at (Trap task to ∷ a) k m g f h = absurd f
  call-at (Apply to ∷ a) zero m g f h = (let z : ⊥ = cc in absurd z)
  call-at (Apply to ∷ a) (suc k) m g f h = deeper (Apply to) a k g (call-at a k m g f h)

  abbrev is-go : WayOn → Bool
  is-go (Go to) = true
  is-go on = false

  here : (s : Segment) (o : WayOn) (g : Segment) (on : WayOn) → Some (Run s o) ≡ Some (Run g on) → stms_count d s.statements + next_count (body_cells d) o ≤ most → stms_count d g.statements + next_count (body_cells d) on ≤ most
  here s o g on h f =
      subst (λ (z : Segment). stms_count d z.statements + next_count (body_cells d) on ≤ most) (seg-is h)
      (subst (λ w. stms_count d s.statements + next_count (body_cells d) w ≤ most) (way-is h) f)

  other-at : (xs : List Node) (k : ℕ) (g : Segment) (on : WayOn) → is-go on ≡ false → AreLight d most xs → slice_get xs k ≡ Some (Run g on) → stms_count d g.statements + next_count (body_cells d) on ≤ most
  other-at [] k g on n f h = (let z : ⊥ = cc in absurd z)
  other-at (Run s (Go i) ∷ []) k g on n f h = absurd f
  other-at (Run s (Go i) ∷ Run s' o ∷ a) k g on n f h = absurd f
  other-at (Run s (Go i) ∷ Apply to ∷ a) k g on n f h = absurd f
  other-at (Run s (Go i) ∷ Trap task to ∷ a) zero g on n f h = absurd (not-both (ap is-go (way-is h) ∙ n))
    where
      not-both : true ≡ false → ⊥
      not-both e = grind arith
  other-at (Run s (Go i) ∷ Trap task to ∷ a) (suc zero) g on n f h = (let z : ⊥ = cc in absurd z)
  other-at (Run s (Go i) ∷ Trap task to ∷ a) (suc (suc k)) g on n f h = other-at a k g on n f.1 h
  other-at (Run s (Branch t x y) ∷ a) zero g on n f h = here s (Branch t x y) g on h f.0
  other-at (Run s (Branch t x y) ∷ a) (suc k) g on n f h = other-at a k g on n f.1 h
  other-at (Run s (Switch t ws o) ∷ a) zero g on n f h = here s (Switch t ws o) g on h f.0
  other-at (Run s (Switch t ws o) ∷ a) (suc k) g on n f h = other-at a k g on n f.1 h
  other-at (Run s (Commit to) ∷ a) zero g on n f h = here s (Commit to) g on h f.0
  other-at (Run s (Commit to) ∷ a) (suc k) g on n f h = other-at a k g on n f.1 h
  other-at (Trap task to ∷ a) k g on n f h = absurd f
  other-at (Apply to ∷ a) zero g on n f h = (let z : ⊥ = cc in absurd z)
  other-at (Apply to ∷ a) (suc k) g on n f h = other-at a k g on n f h

  -- a segment and its way on
  pub run-at : ArePaired 0 (cell_nodes d) → (k : ℕ) (g : Segment) (on : WayOn) → slice_get (cell_nodes d) k ≡ Some (Run g on) → stms_count d g.statements + way_count d (cell_nodes d) on ≤ most
  run-at paired k g (Go m) h =
      let c = call-at (cell_nodes d) k m g cells-light h in
      let p = pair_at 0 (cell_nodes d) k m g paired h in
      let next = p.next in
      let same : m ≡ suc k = omega (arith, next) in
      let there : slice_get (cell_nodes d) m ≡ Some (Trap c.task c.to) = ap (slice_get (cell_nodes d)) same ∙ c.there in
      let few = c.few in
      rw there few
  run-at paired k g (Branch t x y) h = other-at (cell_nodes d) k g (Branch t x y) refl cells-light h
  run-at paired k g (Switch t ws o) h = other-at (cell_nodes d) k g (Switch t ws o) refl cells-light h
  run-at paired k g (Commit to) h = other-at (cell_nodes d) k g (Commit to) refl cells-light h
