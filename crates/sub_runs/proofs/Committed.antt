-- In a run of a table an update is next only where all values have just been committed.
use Rattle.std.proofs.Common.{◌≡◌, ℕ, zero, suc, ◌+◌, ◌<◌, ◌≤◌, true, false, List, [], ◌∷◌, ◌++◌, length, Option, Some, None, refl, sym, ◌∙◌, ap, arith, ◌⊎◌, inl, inr}
use Rattle.std.specs.Prelude.{slice_get}
use Rattle.std.proofs.lemmas.Option.{slice_get_within}
use Rattle.vl_sites.specs.vl_base.specs.declared.files.File.{File}
use Rattle.vl_sites.specs.vl_design.specs.Syntax.{Proc, Flat}
use Rattle.vl_sites.specs.vl_design.specs.State.{State}
use Rattle.vl_sites.specs.vl_design.specs.Functions.{scope_of}
use Rattle.vl_sites.specs.vl_design.specs.Snapshots.{Snapshot}
use Rattle.vl_sites.specs.vl_design.specs.Alone.{Origin}
use Rattle.vl_sites.specs.vl_design.proofs.Running.{some_is}
use Rattle.sub_nodes.specs.Nodes.{Segment, still, rising, WayOn, Go, Branch, Switch, Commit, Node, Run, Trap, Apply}
use Rattle.sub_nodes.specs.Implements.{bodies}
use Rattle.sub_nodes.specs.Code.{HasFrom, fall_nodes, updates, table_of}
use Rattle.sub_nodes.specs.Cycles.{Stage, segment_done, goes_on, cycled, served_by}
use Rattle.sub_nodes.specs.Shape.{leads_to, IsClosed}
use Rattle.sub_nodes.specs.Stands.{first_stage, Comes, cycles, serves}
use Rattle.sub_nodes.proofs.Closing.{wave_closed}
use Rattle.sub_runs.specs.Nets.{ends_wave, zero_low}
use Rattle.sub_runs.proofs.Regions.{below_or_not, T, ups, fallers, inits, from, up, down, first, stand, all_many}
use Rattle.sub_runs.proofs.Ways.{goes_to, leads_trap}

-- an update leads nowhere but past the end of its wave
update_last : (rise fall : ℕ) (ps : List Proc) (rest : List Node) (n m : ℕ) (x : Node) → n < length (updates ps 0 0) → slice_get (updates ps rise fall ++ rest) n ≡ Some x → leads_to x m ≡ false
update_last rise fall [] rest zero m x h e = ap (λ y. leads_to y m) (sym (some_is e))
update_last rise fall [] rest (suc zero) m x h e = ap (λ y. leads_to y m) (sym (some_is e))
update_last rise fall [] rest (suc (suc n)) m x h e = let z : ⊥ = omega arith in absurd z
update_last rise fall (p ∷ ps) rest zero m x h e = ap (λ y. leads_to y m) (sym (some_is e))
update_last rise fall (p ∷ ps) rest (suc zero) m x h e = ap (λ y. leads_to y m) (sym (some_is e))
update_last rise fall (p ∷ ps) rest (suc (suc zero)) m x h e = ap (λ y. leads_to y m) (sym (some_is e))
update_last rise fall (p ∷ ps) rest (suc (suc (suc n))) m x h e = let z : ⊥ = omega arith in absurd z

-- a node that is no update, and leads to nodes from a number on alone
record IsPast (low : ℕ) (x : Node) : Type 0 where
  pub leads : (m : ℕ) → leads_to x m ≡ true → low ≤ m
  pub none : (to : ℕ) → x ≡ Apply to → ⊥

closed_past : (nodes : List Node) (u least low high n : ℕ) (x : Node) → IsClosed nodes u low high → least ≤ low → low ≤ n → n < high → slice_get nodes n ≡ Some x → IsPast least x
closed_past nodes u least low high n x c above l r e = record {
  leads = λ m h. (let z = (c.inside n m x l r e h).0 in omega (arith, z, above));
  none = λ to k. c.none n to l r (e ∙ ap Some k);
}

falls_past : (nodes : List Node) (least low n : ℕ) (ps : List Proc) (x : Node) → HasFrom nodes low (fall_nodes low ps) → least ≤ low → low ≤ n → n < low + length (fall_nodes low ps) → slice_get nodes n ≡ Some x
    → IsPast least x
falls_past nodes least low n [] x h above l r e = let z : ⊥ = omega arith in absurd z
falls_past nodes least low n (p ∷ ps) x h above l r e =
    let high : ℕ = low + length (fall_nodes low (p ∷ ps)) in
    closed_past nodes 2 least low high n x (wave_closed nodes 2 (bodies (p ∷ ps)) still low high refl h) above l r e

module _ (d : Flat) where
  -- so are all nodes behind the updates
  past : (n : ℕ) (x : Node) → from d ≤ n → slice_get (T d).nodes n ≡ Some x → IsPast (from d) x
  past n x above e = at (below_or_not n (from d + length (up d)))
    where
      behind : (n < zero_low d) ⊎ (zero_low d ≤ n) → from d + length (up d) ≤ n → IsPast (from d) x
      behind (inl r) l = falls_past (T d).nodes (from d) (from d + length (up d)) n (fallers d) x (stand d).1 (omega arith) l r e
      behind (inr l) k =
          let within = slice_get_within (T d).nodes n x e in
          let many = all_many d in
          let high : ℕ = zero_low d + length (first d) in
          closed_past (T d).nodes 0 (from d) (zero_low d) high n x (wave_closed (T d).nodes 0 (inits d) still (zero_low d) high refl (stand d).2) (omega arith) l (omega (arith, within, many)) e

      at : (n < from d + length (up d)) ⊎ (from d + length (up d) ≤ n) → IsPast (from d) x
      at (inl r) =
          let high : ℕ = from d + length (up d) in
          closed_past (T d).nodes 1 (from d) (from d) high n x (wave_closed (T d).nodes 1 (ups d) rising (from d) high refl (stand d).0) (omega arith) above r e
      at (inr l) = behind (below_or_not n (zero_low d)) l

  -- no node leads to an update, but past the end of its wave
  led : (n m : ℕ) (x : Node) → slice_get (T d).nodes n ≡ Some x → leads_to x m ≡ true → (to : ℕ) → slice_get (T d).nodes m ≡ Some (Apply to) → ⊥
  led n m x e h to k = at (below_or_not n (from d))
    where
      at : (n < from d) ⊎ (from d ≤ n) → ⊥
      at (inl l) = let f = update_last (T d).rise.first (T d).fall.first (fallers d) (up d ++ (down d ++ first d)) n m x l e in cc
      at (inr l) = (past m (Apply to) ((past n x l e).leads m h) k).none to refl

  module _ (files : List File) (nets : State → List (List ℕ)) where
    abbrev pub Ready : Stage → Type 0
    Ready i = (to : ℕ) → slice_get (T d).nodes i.node ≡ Some (Apply to) → i.committed ≡ i.state.values

    run_ready : (g : Segment) (on : WayOn) (i : Stage) → slice_get (T d).nodes i.node ≡ Some (Run g on) → ends_wave on ≡ false → Ready (goes_on d files nets on (segment_done (scope_of d files) g i.state) i.committed)
    run_ready g on i e k to f = absurd (led i.node _ (Run g on) e (goes_to d files nets g on (segment_done (scope_of d files) g i.state) i.committed k) to f)

    cycled_ready : (x : Option Node) (i : Stage) → slice_get (T d).nodes i.node ≡ x → Ready i → Ready (cycled d files nets x i)
    cycled_ready None i e h = h
    cycled_ready (Some (Run g (Go to))) i e h = run_ready g (Go to) i e refl
    cycled_ready (Some (Run g (Branch t a b))) i e h = run_ready g (Branch t a b) i e refl
    cycled_ready (Some (Run g (Switch t ways other))) i e h = run_ready g (Switch t ways other) i e refl
    cycled_ready (Some (Run g (Commit to))) i e h = λ t f. refl
    cycled_ready (Some (Trap task to)) i e h = h
    cycled_ready (Some (Apply to)) i e h = λ t f. refl

    served_ready : (x : Option Node) (i : Stage) → slice_get (T d).nodes i.node ≡ x → Ready i → Ready (served_by (scope_of d files) x i)
    served_ready None i e h = h
    served_ready (Some (Run g on)) i e h = h
    served_ready (Some (Trap task to)) i e h = λ t f. absurd (led i.node to (Trap task to) e (leads_trap task to) t f)
    served_ready (Some (Apply to)) i e h = h

module _ (o : Origin) (nets : State → List (List ℕ)) where
  first_ready : (s : Option Snapshot) → Ready o.flat o.files nets (first_stage o (table_of o.flat) nets s)
  first_ready None t f = refl
  first_ready (Some s) t f = refl

  pub comes_ready : {c : ℕ} {i : Stage} → Comes o (table_of o.flat) nets c i → Ready o.flat o.files nets i
  comes_ready Comes.begins = first_ready o.resume
  comes_ready (cycles {i = i} x f h) = cycled_ready o.flat o.files nets _ i refl (comes_ready x)
  comes_ready (serves {i = i} x h) = served_ready o.flat o.files nets _ i refl (comes_ready x)
