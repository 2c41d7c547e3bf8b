-- So it is at each node of a table that is made of a design.
use Rattle.std.proofs.Common.{◌≡◌, ◌≢◌, ℕ, zero, suc, ◌+◌, ◌*◌, ◌<◌, ◌≤◌, Bool, true, false, List, [], ◌∷◌, ◌++◌, length, Option, Some, None, refl, sym, ◌∙◌, ap, subst, arith, ◌⊎◌, inl, inr}
use Rattle.std.specs.Prelude.{All, if◌then◌else◌, slice_get}
use Rattle.std.proofs.lemmas.Bool.{cases_lt}
use Rattle.std.proofs.lemmas.List.Elements.{All-nil, All-cons, All-head}
use Rattle.std.proofs.lemmas.Option.{slice_get_within}
use Rattle.vl_sites.specs.vl_design.specs.Syntax.{Stm, Proc, Flat}
use Rattle.vl_sites.specs.vl_design.specs.Queue.{is_init, is_rise, is_fall}
use Rattle.vl_sites.specs.vl_design.specs.Alone.{blocks}
use Rattle.vl_sites.specs.vl_design.proofs.Running.{some_is}
use Rattle.sub_nodes.specs.Nodes.{Segment, still, rising, Node, Run, Trap, Apply}
use Rattle.sub_nodes.specs.Implements.{bodies}
use Rattle.sub_nodes.specs.Code.{HasFrom, wave_nodes, fall_nodes, updates, table_of}
use Rattle.sub_nodes.specs.Cycles.{rises}
use Rattle.sub_nodes.specs.Shape.{IsClosed}
use Rattle.sub_nodes.proofs.Coded.{three, updates_many, table_implements}
use Rattle.sub_nodes.proofs.Beginning.{impls_run}
use Rattle.sub_nodes.proofs.Closing.{wave_closed}
use Rattle.sub_nodes.proofs.Rising.{rise_rises}
use Rattle.sub_nodes.specs.Early.{next_of, early_from}
use Rattle.sub_nodes.proofs.Pairing.{table_pair}
use Rattle.sub_nodes.proofs.Leading.{sizes, all_within, firsts_within}
use Rattle.sub_runs.specs.Left.{order, left_at, left, most_left}
use Rattle.sub_nodes.proofs.Falling.{AllFall, wave_falls}
use Rattle.sub_runs.proofs.Leaving.{fall_at, run_within, order_rise, order_other, none_left, apply_left, apply_rise, apply_other, IsWave, Paired, Lowers, plain_left, wave_lowers}
use Rattle.sub_nodes.proofs.Leading.{falls_closed, some_falls}
use Rattle.sub_nodes.proofs.Shared.{falls-fall as falls_fall}

-- one of the first nodes is an update, behind which the rise's wave stands, or the fall's
record IsUpdate (ps : List Proc) (rise fall : ℕ) (x : Node) : Type 0 where
  pub to : ℕ
  pub apply : x ≡ Apply to
  pub behind : (to ≡ rise) ⊎ ((ps ≢ []) × (to ≡ fall))

updates_are : (ps : List Proc) (rise fall n : ℕ) (rest : List Node) (x : Node) → n < length (updates ps rise fall)
    → slice_get (updates ps rise fall ++ rest) n ≡ Some x → IsUpdate ps rise fall x
updates_are [] rise fall zero rest x l e = record { to = rise; apply = sym (some_is e); behind = inl refl }
updates_are [] rise fall (suc zero) rest x l e = record { to = rise; apply = sym (some_is e); behind = inl refl }
updates_are [] rise fall (suc (suc n)) rest x l e = let z : ⊥ = omega arith in absurd z
updates_are (p ∷ ps) rise fall zero rest x l e = record { to = rise; apply = sym (some_is e); behind = inl refl }
updates_are (p ∷ ps) rise fall (suc zero) rest x l e = record { to = fall; apply = sym (some_is e); behind = inr (λ h. (let z : ⊥ = cc in z), refl) }
updates_are (p ∷ ps) rise fall (suc (suc zero)) rest x l e = record { to = rise; apply = sym (some_is e); behind = inl refl }
updates_are (p ∷ ps) rise fall (suc (suc (suc n))) rest x l e = let z : ⊥ = omega arith in absurd z

module _ (d : Flat) where
  abbrev ups : List Stm
  ups = bodies (blocks is_rise d.procs)

  abbrev falls : List Proc
  falls = blocks is_fall d.procs

  abbrev inits : List Stm
  inits = bodies (blocks is_init d.procs)

  abbrev from : ℕ
  from = length (updates falls 0 0)

  abbrev up : List Node
  up = wave_nodes from 1 ups rising

  abbrev down : List Node
  down = fall_nodes (from + length up) falls

  abbrev first : List Node
  first = wave_nodes (from + length up + length down) 0 inits still

  has : HasFrom (table_of d).nodes from up × HasFrom (table_of d).nodes (from + length up) down × HasFrom (table_of d).nodes (from + length up + length down) first
  has =
      let T = table_of d in
      three (updates falls T.rise.first T.fall.first) up down first from (updates_many falls T.rise.first T.fall.first)

  pairs : Paired (table_of d)
  pairs n m g e = let p = table_pair d n m g e in (p.next, (p.task, p.to, p.trap))

  some_nodes : 1 ≤ length (table_of d).nodes
  some_nodes = let z = (firsts_within d).zero in omega arith

  rise_below : (table_of d).rise.first < from + length up
  rise_below = (sizes d).rise

  rise_at : (n : ℕ) (x : Segment) → n < from + length up → (on : _) → slice_get (table_of d).nodes n ≡ Some (Run x on) → n ≤ (table_of d).rise.first
  rise_at n g r on e = run_within (table_of d).nodes from 1 ups rising g n on has.0 r e

  rise_wave : IsWave (table_of d) 1 from (from + length up)
  rise_wave = record {
    closed = wave_closed (table_of d).nodes 1 ups rising from (from + length up) refl has.0;
    falls = λ n x l r e. fall_at (table_of d).nodes up from n x has.0 (wave_falls from 1 ups rising) l r e;
    orders = λ n m g on r e l b.
        let k = rise_at n g r on e in
        let here = order_rise (table_of d) n k in
        let there = order_rise (table_of d) m (omega arith) in
        omega (arith, here, there);
    ends = λ n g on l r e.
        let here = order_rise (table_of d) n (rise_at n g r on e) in
        let update = apply_left (table_of d) 1 _ (table_implements d).rise.updates some_nodes in
        omega (arith, here, update);
  }

  -- in a wave behind all nodes of the rise's
  orders_behind : (low n m : ℕ) → (table_of d).rise.first < low → low ≤ m → m < n → order (table_of d) m + 2 ≤ order (table_of d) n
  orders_behind low n m h l b =
      let here = order_other (table_of d) n (omega arith) in
      let there = order_other (table_of d) m (omega arith) in
      omega (arith, here, there)

  ends_behind : (u n : ℕ) → slice_get (table_of d).nodes u ≡ Some (Apply (table_of d).rise.first) → (table_of d).rise.first < n
      → left (table_of d) u ≤ order (table_of d) n
  ends_behind u n e h =
      let here = order_other (table_of d) n h in
      let update = apply_rise (table_of d) u e in
      omega (arith, here, update)

  rise_early : (table_of d).rise.first < early_from d
  rise_early = let s = rise_below in let e = (sizes d).early in omega arith

  fall_wave : falls ≢ [] → IsWave (table_of d) 2 (from + length up) (early_from d)
  fall_wave f = record {
    closed = falls_closed (table_of d).nodes (from + length up) falls f has.1;
    falls = λ n x l r e. fall_at (table_of d).nodes down (from + length up) n x has.1 (falls_fall (from + length up) falls) l r e;
    orders = λ n m g on r e l b. orders_behind (from + length up) n m rise_below l b;
    ends = λ n g on l r e. ends_behind 2 n ((table_implements d).fall f).updates (let s = rise_below in omega arith);
  }

  zero_wave : IsWave (table_of d) 0 (early_from d) (length (table_of d).nodes)
  zero_wave =
      let size = (sizes d).all in
      record {
        closed = wave_closed (table_of d).nodes 0 inits still (early_from d) (length (table_of d).nodes) (sym size) has.2;
        falls = λ n x l r e. fall_at (table_of d).nodes first (early_from d) n x has.2 (wave_falls (early_from d) 0 inits still) l (omega (arith, size)) e;
        orders = λ n m g on r e l b. orders_behind (early_from d) n m rise_early l b;
        ends = λ n g on l r e. ends_behind 0 n (table_implements d).zero.updates (let s = rise_early in omega arith);
      }

  pub none_rising : (n : ℕ) → rises (slice_get (table_of d).nodes n) ≡ true → left (table_of d) n ≡ 0
  none_rising n h = none_left (table_of d) n (slice_get (table_of d).nodes n) h

  rise_update : (n : ℕ) → slice_get (table_of d).nodes n ≡ Some (Apply (table_of d).rise.first) → Lowers (table_of d) n (table_of d).rise.first
  rise_update n e =
      let here = apply_rise (table_of d) n e in
      let there = none_rising (table_of d).rise.first (rise_rises d) in
      omega (arith, here, there)

  fall_update : (n : ℕ) → falls ≢ [] → slice_get (table_of d).nodes n ≡ Some (Apply (table_of d).fall.first) → Lowers (table_of d) n (table_of d).fall.first
  fall_update n f e =
      let k : ℕ = (table_of d).fall.first in
      let s = rise_below in
      let low : from + length up ≤ k = omega arith in
      let high : k < early_from d = (sizes d).fall f in
      let size = (sizes d).all in
      let plain = (impls_run (table_of d).nodes 2 (bodies falls) still k ((table_implements d).fall f).runs).none in
      let there = plain_left (table_of d) 2 (from + length up) (early_from d) (fall_wave f) pairs k (slice_get (table_of d).nodes k) low high refl plain in
      let at = order_other (table_of d) k (omega arith) in
      let here = apply_other (table_of d) n k e (omega arith) in
      omega (arith, here, there, at)

  over_lowers : (n : ℕ) (x : Node) → n < from → slice_get (table_of d).nodes n ≡ Some x → All (Lowers (table_of d) n) (next_of x)
  over_lowers n x l e =
      let T = table_of d in
      let many = updates_many falls T.rise.first T.fall.first in
      at (updates_are falls T.rise.first T.fall.first n (up ++ (down ++ first)) x (omega (arith, many)) e)
    where
      to_lowers : (to : ℕ) → slice_get (table_of d).nodes n ≡ Some (Apply to)
          → (to ≡ (table_of d).rise.first) ⊎ ((falls ≢ []) × (to ≡ (table_of d).fall.first)) → Lowers (table_of d) n to
      to_lowers to h (inl s) = subst (Lowers (table_of d) n) (sym s) (rise_update n (h ∙ ap (λ k. Some (Apply k)) s))
      to_lowers to h (inr s) = subst (Lowers (table_of d) n) (sym s.1) (fall_update n s.0 (h ∙ ap (λ k. Some (Apply k)) s.1))

      at : IsUpdate falls (table_of d).rise.first (table_of d).fall.first x → All (Lowers (table_of d) n) (next_of x)
      at u =
          let one = to_lowers u.to (e ∙ ap Some u.apply) u.behind in
          subst (λ y. All (Lowers (table_of d) n) (next_of y)) (sym u.apply) (All-cons (Lowers (table_of d) n) u.to [] one (All-nil (Lowers (table_of d) n)))

  fall_lowers : (n : ℕ) (x : Node) → from + length up ≤ n → n < early_from d → slice_get (table_of d).nodes n ≡ Some x → rises (Some x) ≡ false
      → All (Lowers (table_of d) n) (next_of x)
  fall_lowers n x l r e h =
      let s = (sizes d).early in
      let f = some_falls (from + length up) falls (omega arith) in
      wave_lowers (table_of d) 2 (from + length up) (early_from d) (fall_wave f) pairs n x l r e h

  -- each node leads to such behind which fewer are left, but where the clock rises
  pub each_lowers : (n : ℕ) (x : Node) → slice_get (table_of d).nodes n ≡ Some x → rises (Some x) ≡ false → All (Lowers (table_of d) n) (next_of x)
  each_lowers n x e h = elim (cases_lt n from) [
    | inl a ↦ over_lowers n x a e
    | inr a ↦ elim (cases_lt n (from + length up)) [
      | inl b ↦ wave_lowers (table_of d) 1 from (from + length up) rise_wave pairs n x a b e h
      | inr b ↦ elim (cases_lt n (early_from d)) [
        | inl c ↦ fall_lowers n x b c e h
        | inr c ↦ wave_lowers (table_of d) 0 (early_from d) (length (table_of d).nodes) zero_wave pairs n x c (slice_get_within (table_of d).nodes n x e) e h
      ]
    ]
  ]

  -- ---- how many are left at most

  order_most : (n : ℕ) → n < length (table_of d).nodes → order (table_of d) n + 2 < most_left (table_of d)
  order_most n l = at (cases_lt (table_of d).rise.first n)
    where
      at : ((table_of d).rise.first < n) ⊎ (n ≤ (table_of d).rise.first) → order (table_of d) n + 2 < most_left (table_of d)
      at (inl b) = let k = order_other (table_of d) n b in let s = rise_early in omega (arith, k)
      at (inr b) =
          let k = order_rise (table_of d) n b in
          let s = rise_early in
          let low = (sizes d).low in
          let z = (sizes d).zero in
          omega (arith, k)

  either_few : (b : Bool) (j k : ℕ) → 0 < k → j < k → (if b then 0 else j) < k
  either_few true j k f g = f
  either_few false j k f g = g

  update_few : (b : Bool) (k : ℕ) → 1 ≤ k → (if b then 1 else 2 * k) < 4 * k
  update_few true k f = omega arith
  update_few false k f = omega arith

  pub all_few : (n : ℕ) → left (table_of d) n < most_left (table_of d)
  all_few n = at (slice_get (table_of d).nodes n) refl
    where
      at : (x : Option Node) → slice_get (table_of d).nodes n ≡ x → left_at (table_of d) n x < most_left (table_of d)
      at None e = let s = some_nodes in omega arith
      at (Some (Run g on)) e =
          let k = order_most n (slice_get_within (table_of d).nodes n (Run g on) e) in
          either_few g.rises (order (table_of d) n + 1) (most_left (table_of d)) (omega arith) (omega arith)
      at (Some (Trap task to)) e = order_most to (All-head (λ m. m < length (table_of d).nodes) to [] (all_within d n (Trap task to) e))
      at (Some (Apply to)) e = update_few _ (length (table_of d).nodes) some_nodes
