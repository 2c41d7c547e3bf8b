-- The nodes of time zero's wave lead to such nodes, and past its end to its update; the other nodes never lead there.
use Rattle.std.proofs.Common.{◌≡◌, ℕ, zero, suc, ◌+◌, ◌<◌, ◌≤◌, true, List, [], ◌∷◌, ◌++◌, length, Some, refl, sym, ◌∙◌, ap, subst, arith, length-append, ◌⊎◌, inl, inr}
use Rattle.std.specs.Prelude.{◌≢◌, All, slice_get}
use Rattle.std.proofs.lemmas.Option.{slice_get_within}
use Rattle.std.proofs.lemmas.List.Elements.{All-nil}
use Rattle.vl_sites.specs.vl_design.specs.Syntax.{Stm, Proc, Flat}
use Rattle.vl_sites.specs.vl_design.specs.Queue.{is_init, is_rise, is_fall}
use Rattle.vl_sites.specs.vl_design.specs.Alone.{blocks}
use Rattle.vl_sites.specs.vl_design.proofs.Running.{some_is}
use Rattle.vl_sites.specs.vl_design.proofs.Acting.{IsHereditary}
use Rattle.sub_nodes.specs.Nodes.{Segment, still, rising, Commit, Node, Run, Apply, Table}
use Rattle.sub_nodes.specs.Implements.{bodies}
use Rattle.sub_nodes.specs.Code.{HasFrom, Next, Calls, Leads, Head, and_all, next_nodes, head_nodes, number, wave_made, wave_nodes, wave_first, fall_nodes, updates, table_of}
use Rattle.sub_nodes.specs.Shape.{leads_to, IsClosed}
use Rattle.sub_nodes.proofs.Coded.{three, updates_many}
use Rattle.sub_nodes.proofs.Closing.{wave_closed}
use Rattle.sub_runs.specs.Nets.{zero_low}
use Rattle.sub_runs.proofs.Parts.{NodeHas, wave_has, falls_have, has_at}
use Rattle.sub_nodes.proofs.Falling.{next_some}
use Rattle.sub_nodes.proofs.Leading.{falls_closed}
pub use Rattle.vl_sites.specs.vl_base.proofs.Numbers.{lt_or_le as below_or_not}

-- ---- the first node of a wave is one of it

head_some : (h : Head) (g : Segment) (n : ℕ) → 1 ≤ length (head_nodes h g n)
head_some h g n = next_some h.next (and_all g h.statements) n

first_within : (n u : ℕ) (xs : List Stm) (g : Segment) → wave_first n u xs < n + length (wave_nodes n u xs g)
first_within n u xs g =
    let m = wave_made n u xs in
    let len = length-append m.nodes (head_nodes m.head g (number n m.nodes)) in
    let some = head_some m.head g (number n m.nodes) in
    omega (arith, len, some)

-- ---- updates

two_updates : (ps : List Proc) → 2 ≤ length (updates ps 0 0)
two_updates [] = omega arith
two_updates (p ∷ ps) = omega arith

-- the node is an update, behind which a node below is next
record Applies (low : ℕ) (x : Node) : Type 0 where
  pub to : ℕ
  pub is : x ≡ Apply to
  pub below : to < low

applies : (low rise fall : ℕ) (ps : List Proc) (rest : List Node) (n : ℕ) (x : Node) → rise < low → (ps ≢ [] → fall < low) → n < length (updates ps 0 0)
    → slice_get (updates ps rise fall ++ rest) n ≡ Some x → Applies low x
applies low rise fall [] rest zero x r f h e = record { to = rise; is = sym (some_is e); below = r }
applies low rise fall [] rest (suc zero) x r f h e = record { to = rise; is = sym (some_is e); below = r }
applies low rise fall [] rest (suc (suc n)) x r f h e = let z : ⊥ = omega arith in absurd z
applies low rise fall (p ∷ ps) rest zero x r f h e = record { to = rise; is = sym (some_is e); below = r }
applies low rise fall (p ∷ ps) rest (suc zero) x r f h e = record { to = fall; is = sym (some_is e); below = f (λ e. cc) }
applies low rise fall (p ∷ ps) rest (suc (suc zero)) x r f h e = record { to = rise; is = sym (some_is e); below = r }
applies low rise fall (p ∷ ps) rest (suc (suc (suc n))) x r f h e = let z : ⊥ = omega arith in absurd z

-- ---- a table

fall_within : (n : ℕ) (ps : List Proc) → ps ≢ [] → wave_first n 2 (bodies ps) < n + length (fall_nodes n ps)
fall_within n [] f = absurd (f refl)
fall_within n (p ∷ ps) f = first_within n 2 (bodies (p ∷ ps)) still

-- where a fall's wave has nodes, a block waits for it
some_falls : (n m k : ℕ) (ps : List Proc) → m ≤ n → n < m + length (fall_nodes k ps) → ps ≢ []
some_falls n m k [] l r = let z : ⊥ = omega arith in absurd z
some_falls n m k (p ∷ ps) l r = λ e. cc

many_updates : (ps : List Proc) → ps ≢ [] → length (updates ps 0 0) ≡ 3
many_updates [] f = absurd (f refl)
many_updates (p ∷ ps) f = refl

module _ (d : Flat) where
  abbrev pub T : Table
  T = table_of d

  abbrev pub ups : List Stm
  ups = bodies (blocks is_rise d.procs)

  abbrev pub fallers : List Proc
  fallers = blocks is_fall d.procs

  abbrev pub inits : List Stm
  inits = bodies (blocks is_init d.procs)

  abbrev pub from : ℕ
  from = length (updates fallers 0 0)

  abbrev pub up : List Node
  up = wave_nodes from 1 ups rising

  abbrev pub down : List Node
  down = fall_nodes (from + length up) fallers

  abbrev pub first : List Node
  first = wave_nodes (zero_low d) 0 inits still

  -- the waves stand one behind the other
  pub stand : HasFrom T.nodes from up × HasFrom T.nodes (from + length up) down × HasFrom T.nodes (zero_low d) first
  stand = three (updates fallers T.rise.first T.fall.first) up down first from (updates_many fallers T.rise.first T.fall.first)

  pub all_many : length T.nodes ≡ zero_low d + length first
  all_many =
      let a = length-append (updates fallers T.rise.first T.fall.first) (up ++ (down ++ first)) in
      let b = length-append up (down ++ first) in
      let c = length-append down first in
      let e = updates_many fallers T.rise.first T.fall.first in
      omega (arith, a, b, c, e)

  -- a node that isn't of time zero's wave
  pub record IsLow (x : Node) : Type 0 where
    pub leads : (m : ℕ) → leads_to x m ≡ true → m < zero_low d
    pub ends : (g : Segment) (to : ℕ) → x ≡ Run g (Commit to) → to < zero_low d
    pub updates : (to : ℕ) → x ≡ Apply to → to < zero_low d

  -- a node of time zero's wave
  pub record IsHigh (x : Node) : Type 0 where
    pub leads : (m : ℕ) → leads_to x m ≡ true → zero_low d ≤ m
    pub ends : (g : Segment) (to : ℕ) → x ≡ Run g (Commit to) → to < zero_low d
    pub none : (to : ℕ) → x ≡ Apply to → ⊥

  no_run : {to k : ℕ} {g : Segment} → Apply k ≡ Run g (Commit to) → ⊥
  no_run e = cc

  applied : (x : Node) → Applies (zero_low d) x → IsLow x
  applied x a = subst IsLow (sym a.is) (record {
    leads = λ m h. (let z : ⊥ = cc in absurd z);
    ends = λ g to e. absurd (no_run e);
    updates = λ to e. (let z : a.to ≡ to = cc in subst (λ k. k < zero_low d) z a.below);
  })

  closed_low : (u low high n : ℕ) (x : Node) → IsClosed T.nodes u low high → u < zero_low d → high ≤ zero_low d → low ≤ n → n < high → slice_get T.nodes n ≡ Some x → IsLow x
  closed_low u low high n x c v w l r e = record {
    leads = λ m h. (let z = (c.inside n m x l r e h).1 in omega arith);
    ends = λ g to k. (let z = c.ends n to g l r (e ∙ ap Some k) in omega arith);
    updates = λ to k. absurd (c.none n to l r (e ∙ ap Some k));
  }

  pub rise_low : T.rise.first < zero_low d
  rise_low = let r = first_within from 1 ups rising in omega (arith, r)

  pub zero_high : zero_low d ≤ T.zero.first
  zero_high = omega arith

  update_low : (n : ℕ) (x : Node) → n < from → slice_get T.nodes n ≡ Some x → Applies (zero_low d) x
  update_low n x l e =
      applies (zero_low d) T.rise.first T.fall.first fallers (up ++ (down ++ first)) n x rise_low (λ f. fall_within (from + length up) fallers f) l e

  pub is_low : (n : ℕ) (x : Node) → n < zero_low d → slice_get T.nodes n ≡ Some x → IsLow x
  is_low n x l e = at (below_or_not n from)
    where
      in_fall : from + length up ≤ n → IsLow x
      in_fall a =
          let some = some_falls n (from + length up) (from + length up) fallers a l in
          let k = many_updates fallers some in
          closed_low 2 (from + length up) (zero_low d) n x (falls_closed T.nodes (from + length up) fallers some stand.1) (omega (arith, k)) (omega arith) a l e

      behind : (n < from + length up) ⊎ (from + length up ≤ n) → from ≤ n → IsLow x
      behind (inl b) a =
          let two = two_updates fallers in
          closed_low 1 from (from + length up) n x (wave_closed T.nodes 1 ups rising from (from + length up) refl stand.0) (omega (arith, two)) (omega arith) a b e
      behind (inr b) a = in_fall b

      at : (n < from) ⊎ (from ≤ n) → IsLow x
      at (inl a) = applied x (update_low n x a e)
      at (inr a) = behind (below_or_not n (from + length up)) a

  pub is_high : (n : ℕ) (x : Node) → zero_low d ≤ n → slice_get T.nodes n ≡ Some x → IsHigh x
  is_high n x l e =
      let within = slice_get_within T.nodes n x e in
      let many = all_many in
      let r : n < zero_low d + length first = omega (arith, within, many) in
      let c = wave_closed T.nodes 0 inits still (zero_low d) (zero_low d + length first) refl stand.2 in
      let two = two_updates fallers in
      record {
        leads = λ m h. (c.inside n m x l r e h).0;
        ends = λ g to k. (let z = c.ends n to g l r (e ∙ ap Some k) in omega (arith, two));
        none = λ to k. c.none n to l r (e ∙ ap Some k);
      }

  -- ---- the statements of nodes

  module _ (P : Stm → Type 0) (h : IsHereditary P) where
    pub low_has : All P ups → All P (bodies fallers) → (n : ℕ) (x : Node) → n < zero_low d → slice_get T.nodes n ≡ Some x → NodeHas P h x
    low_has r f n x l e = at (below_or_not n from)
      where
        behind : (n < from + length up) ⊎ (from + length up ≤ n) → from ≤ n → NodeHas P h x
        behind (inl b) a = has_at P h T.nodes up from n x stand.0 (wave_has P h from 1 ups rising r (All-nil P)) a b e
        behind (inr b) a = has_at P h T.nodes down (from + length up) n x stand.1 (falls_have P h (from + length up) fallers f) b l e

        at : (n < from) ⊎ (from ≤ n) → NodeHas P h x
        at (inl a) = let y = update_low n x a e in subst (NodeHas P h) (sym y.is) tt
        at (inr a) = behind (below_or_not n (from + length up)) a

    pub high_has : All P inits → (n : ℕ) (x : Node) → zero_low d ≤ n → slice_get T.nodes n ≡ Some x → NodeHas P h x
    high_has i n x l e =
        let within = slice_get_within T.nodes n x e in
        let many = all_many in
        has_at P h T.nodes first (zero_low d) n x stand.2 (wave_has P h (zero_low d) 0 inits still i (All-nil P)) l (omega (arith, within, many)) e
