use Rattle.std.proofs.Common.{◌≡◌, ℕ, List, [], ◌∷◌, ◌++◌, Bool, true, length, sym, ap, ◌∙◌, subst}
use Rattle.std.specs.Prelude.{◌||◌, ◌==◌}
use Rattle.cell_level.specs.declared.orders.Walk.{Walk}
use Rattle.cell_level.specs.Nets as spec
use Rattle.cell_level.specs.Walks.{on, Marks, Walking}
use Rattle.cell_level.proofs.Walk.{left_behind, left_round}
use Rattle.cell_level.proofs.orders.leave.Goals as goal
use Rattle.cell_level.proofs.orders.leave.Goals.{then-waits, else-waits}

-- the walk after the test is the walk before it, but for what it says of a cycle
moved : (E : ℕ → ℕ → Type 0) (n : ℕ) (v u : Walk) (rest : List ℕ) (b : ℕ) (done' : List Bool) (order' : List ℕ) (round : Bool) →
    u.seen.items ≡ v.seen.items → order' ≡ u.order.items ++ b ∷ [] → u.order.items ≡ v.order.items → u.cyclic ≡ round →
    Walking E n v.seen.items done' (v.order.items ++ b ∷ []) rest round → Walking E n u.seen.items done' order' rest u.cyclic
moved E n v u rest b done' order' round s o p k w =
    subst (λ x. Walking E n x done' order' rest u.cyclic) (sym s)
    (subst (λ x. Walking E n v.seen.items done' x rest u.cyclic) (sym (o ∙ ap (λ x. x ++ b ∷ []) p))
    (subst (λ x. Walking E n v.seen.items done' (v.order.items ++ b ∷ []) rest x) (sym k) w))

pub returns-clause-walks : goal.returns-clause-walks
returns-clause-walks c rest walks way =
    let E = spec.Edge c.args.nets.now in
    let n = length c.args.nets.now in
    let v = c.args.walk.now in
    let u = c.if-waits.walk in
    let b = c.args.net in
    let done = c.mark.new.flags.items in
    elim c.if-waits.branch [
      | then-waits w ↦
          let r = c.waits.ensures.yes w.if-waits.true in
          let d : u.done.items ≡ v.done.items = ap (λ (x : Walk). x.done.items) w.walk-is in
          let m : Marks v.done.items b done = λ x. c.mark.ensures.marked x ∙ ap (λ ds. on ds x || x == b) d in
          let l : length done ≡ length v.done.items = c.mark.ensures.long ∙ ap length d in
          moved E n v u rest b done c.push.new.self.items true
          (ap (λ (x : Walk). x.seen.items) w.walk-is) c.in_ok-push.ensures.items (ap (λ (x : Walk). x.order.items) w.walk-is) (ap (λ (x : Walk). x.cyclic) w.walk-is)
          (left_round E n v.seen.items v.done.items done v.order.items rest v.cyclic b walks m l r.0 way r.2 r.1 (c.requires.seen r.0 r.2))
      | else-waits w ↦
          let d : u.done.items ≡ v.done.items = ap (λ (x : Walk). x.done.items) w.walk-is in
          let m : Marks v.done.items b done = λ x. c.mark.ensures.marked x ∙ ap (λ ds. on ds x || x == b) d in
          let l : length done ≡ length v.done.items = c.mark.ensures.long ∙ ap length d in
          moved E n v u rest b done c.push.new.self.items v.cyclic
          (ap (λ (x : Walk). x.seen.items) w.walk-is) c.in_ok-push.ensures.items (ap (λ (x : Walk). x.order.items) w.walk-is) (ap (λ (x : Walk). x.cyclic) w.walk-is)
          (left_behind E n v.seen.items v.done.items done v.order.items rest v.cyclic b walks m l (c.waits.ensures.no w.if-waits.false))
    ]
