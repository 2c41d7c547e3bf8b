-- A table's nodes meet what passes from the statements of a design to their parts.
use Rattle.std.proofs.Common.{◌≡◌, ℕ, ◌+◌, Bool, true, false, List, [], ◌∷◌, ◌++◌, length, refl, subst, sym}
use Rattle.std.specs.Prelude.{All}
use Rattle.std.proofs.lemmas.List.Elements.{All-nil, All-cons, All-head, All-tail, All-append, All-filter, All-map, filter_passes}
use Rattle.vl_design.specs.declared.design.ProcKind.{ProcKind}
use Rattle.vl_design.specs.declared.design.ProcKind.TheVariants.{Init, Rise, Fall, Comb, Assign}
use Rattle.vl_design.specs.Syntax.{Exp, Exps, Task, Stm, Nop, Then, If, Case, For, Repeat, Set, Later, Sys, Items, NoItems, Labelled, Default, Proc, Flat}
use Rattle.vl_design.specs.Queue.{is_init, is_rise, is_fall, is_comb}
use Rattle.vl_design.specs.Alone.{blocks}
use Rattle.vl_design.specs.Laws.{can_act, IsUnrolledStm, AreUnrolledItems, IsUnrolled}
use Rattle.sub_nodes.specs.Nodes.{Segment, still, rising, and_then, Go, Branch, Switch, Commit, Node, Run, Trap, Apply}
use Rattle.sub_nodes.specs.Implements.{bodies}
use Rattle.sub_nodes.specs.Code.{Next, Calls, Leads, Head, and_all, next_nodes, head_nodes, number, wave_nodes, fall_nodes, updates, table_of}
use Rattle.sub_nodes.specs.Passing.{ItemsPass, Passes, IsNodeOf}
use Rattle.sub_nodes.proofs.Making.{IsWhole, MeetsNext, MeetsHead, Keeps, wave_meets}
use Rattle.vl_design.proofs.Shared.{no_fall as fall_other, no_init as init_other, no_rise as rise_other}

module _ (P : Stm → Type 0) (E : Exp → Type 0) (L : Exps → Type 0) (R : Task → Type 0) where
  abbrev Straight : Stm → Type 0
  Straight a = P a × IsUnrolledStm a

  abbrev Quiet : Stm → Type 0
  Quiet a = P a × (can_act a ≡ false)

  items_straight : (items : Items) → ItemsPass P E L R items → AreUnrolledItems items → ItemsPass Straight E L R items
  items_straight NoItems p u = tt
  items_straight (Labelled es a others) p u = (p.0, (p.1, u.0), items_straight others p.2 u.1)
  items_straight (Default a others) p u = ((p.0, u.0), items_straight others p.1 u.1)

  straight_passes : Passes P E L R → Passes Straight E L R
  straight_passes r = record {
    parts = λ a b h. (let q = r.parts a b h.0 in ((q.0, h.1.0), (q.1, h.1.1)));
    branches = λ t a b h. (let q = r.branches t a b h.0 in (q.0, (q.1, h.1.0), (q.2, h.1.1)));
    items = λ e items h. (let q = r.items e items h.0 in (q.0, items_straight items q.1 h.1));
    calls = λ task h. r.calls task h.0;
  }

  whole_quiet : (a : Stm) → Straight a → IsWhole a → Quiet a
  whole_quiet Nop h w = (h.0, w)
  whole_quiet (Then a b) h w = (h.0, w)
  whole_quiet (If t a b) h w = (h.0, w)
  whole_quiet (Case e items) h w = (h.0, w)
  whole_quiet (For v start test step a) h w = absurd h.1
  whole_quiet (Repeat n a) h w = absurd h.1
  whole_quiet (Set t e) h w = (h.0, w)
  whole_quiet (Later t e) h w = (h.0, w)
  whole_quiet (Sys task) h w = (h.0, w)

  abbrev Fits : Node → Type 0
  Fits x = IsNodeOf P E L R x

  abbrev AreFit : List Node → Type 0
  AreFit xs = All Fits xs

  all_quiet : (g : Segment) (xs : List Stm) → All Quiet g.statements → All Quiet xs → All Quiet (and_all g xs).statements
  all_quiet g [] f h = f
  all_quiet g (a ∷ rest) f h =
      all_quiet (and_then g a) rest (All-append Quiet g.statements (a ∷ []) f (All-cons Quiet a [] (All-head Quiet a rest h) (All-nil Quiet))) (All-tail Quiet a rest h)

  one_fits : (x : Node) → Fits x → AreFit (x ∷ [])
  one_fits x f = All-cons Fits x [] f (All-nil Fits)

  next_fits : (next : Next) (g : Segment) (n : ℕ) → All Quiet g.statements → MeetsNext Straight E L R Quiet next → AreFit (next_nodes next g n)
  next_fits (Calls task to) g n h f = All-cons Fits (Run g (Go (n + 1))) (Trap task to ∷ []) (h, tt) (one_fits (Trap task to) f)
  next_fits (Leads (Go to)) g n h f = absurd f
  next_fits (Leads (Branch t x y)) g n h f = one_fits (Run g (Branch t x y)) (h, f)
  next_fits (Leads (Switch t ws o)) g n h f = one_fits (Run g (Switch t ws o)) (h, f)
  next_fits (Leads (Commit to)) g n h f = one_fits (Run g (Commit to)) (h, f)

  place_fits : (from : ℕ) (g : Segment) (xs : List Node) (h : Head) → g.statements ≡ [] → AreFit xs → MeetsHead Straight E L R Quiet h → AreFit (xs ++ head_nodes h g (number from xs))
  place_fits from g xs h e f k =
      let none : All Quiet g.statements = subst (λ l. All Quiet l) (sym e) (All-nil Quiet) in
      All-append Fits xs (head_nodes h g (number from xs)) f (next_fits h.next (and_all g h.statements) (number from xs) (all_quiet g h.statements none k.statements) k.next)

  keeps_fit : Passes P E L R → (from : ℕ) → Keeps Straight E L R Quiet from AreFit
  keeps_fit r from = record { passes = straight_passes r; whole = whole_quiet; none = All-nil Fits; place = place_fits from }

  wave_fits : Passes P E L R → (from u : ℕ) (xs : List Stm) (g : Segment) → g.statements ≡ [] → All Straight xs → AreFit (wave_nodes from u xs g)
  wave_fits r from u xs g e h = wave_meets Straight E L R Quiet from AreFit (keeps_fit r from) u xs g e h

  falls_fit : Passes P E L R → (from : ℕ) (ps : List Proc) → All Straight (bodies ps) → AreFit (fall_nodes from ps)
  falls_fit r from [] h = All-nil Fits
  falls_fit r from (p ∷ ps) h = wave_fits r from 2 (bodies (p ∷ ps)) still refl h

  updates_fit : (ps : List Proc) (rise fall : ℕ) → AreFit (updates ps rise fall)
  updates_fit [] rise fall = All-cons Fits (Apply rise) (Apply rise ∷ []) tt (one_fits (Apply rise) tt)
  updates_fit (p ∷ ps) rise fall = All-cons Fits (Apply rise) (Apply fall ∷ Apply rise ∷ []) tt (All-cons Fits (Apply fall) (Apply rise ∷ []) tt (one_fits (Apply rise) tt))

  bodies_meet : (q : ProcKind → Bool) → ((k : ProcKind) → q k ≡ true → is_comb k ≡ false) → (ps : List Proc) → All (λ p. is_comb p.kind ≡ false → P p.body) ps
      → All (λ p. IsUnrolledStm p.body) ps → All Straight (bodies (blocks q ps))
  bodies_meet q other ps f u =
      All-map Straight (λ (p : Proc). p.body) (blocks q ps)
      (λ k p h. (
        All-filter (λ (x : Proc). q x.kind) (λ (x : Proc). is_comb x.kind ≡ false → P x.body) ps f k p h (other _ (filter_passes (λ (x : Proc). q x.kind) ps k p h)),
        All-filter (λ (x : Proc). q x.kind) (λ (x : Proc). IsUnrolledStm x.body) ps u k p h,
      ))

  -- each node of a table is made of what a block holds
  pub table_fits : (d : Flat) → IsUnrolled d → Passes P E L R → All (λ p. is_comb p.kind ≡ false → P p.body) d.procs → All (IsNodeOf P E L R) (table_of d).nodes
  table_fits d u r f =
      let T = table_of d in
      let ups = bodies (blocks is_rise d.procs) in
      let falls = blocks is_fall d.procs in
      let inits = bodies (blocks is_init d.procs) in
      let from = length (updates falls 0 0) in
      let up = wave_nodes from 1 ups rising in
      let down = fall_nodes (from + length up) falls in
      let first = wave_nodes (from + length up + length down) 0 inits still in
      let over = updates falls T.rise.first T.fall.first in
      let ups_meet = bodies_meet is_rise rise_other d.procs f u.procs in
      let falls_meet = bodies_meet is_fall fall_other d.procs f u.procs in
      let inits_meet = bodies_meet is_init init_other d.procs f u.procs in
      All-append Fits over (up ++ (down ++ first)) (updates_fit falls T.rise.first T.fall.first)
      (All-append Fits up (down ++ first) (wave_fits r from 1 ups rising refl ups_meet)
      (All-append Fits down first (falls_fit r (from + length up) falls falls_meet) (wave_fits r (from + length up + length down) 0 inits still refl inits_meet)))
