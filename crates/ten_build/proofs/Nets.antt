-- Statements that only test and assign at once to no memory, with their loops unrolled.
use Rattle.std.proofs.Common.{◌≡◌, ℕ, zero, suc, Bool, true, false, true≢false, List, refl}
use Rattle.std.specs.Prelude.{◌++◌, ◌||◌}
use Rattle.vl_loops.specs.vl_base.specs.declared.bits.UnOp.TheVariants as u
use Rattle.vl_loops.specs.vl_design.specs.Syntax as d
use Rattle.vl_loops.specs.vl_design.specs.Width.{Names, Scope}
use Rattle.vl_loops.specs.vl_design.specs.State.{State}
use Rattle.vl_loops.specs.vl_design.specs.Exec.{exec, goes_on, most_turns}
use Rattle.vl_loops.specs.vl_design.specs.Nodes.{has, some_have, target_has, items_have}
use Rattle.vl_loops.specs.vl_design.specs.Reads.{is_timed, stm_timed, target_writes, targets_write, stm_writes, items_write}
use Rattle.vl_loops.specs.vl_design.specs.Sound.{IsMemory, IsSoundTarget, AreSoundTargets, IsSoundBase, IsSoundStm, AreSoundItems}
use Rattle.vl_loops.specs.vl_design.specs.Placed as p
use Rattle.vl_loops.specs.vl_design.specs.Plainly as plain
use Rattle.vl_loops.specs.vl_design.proofs.Unread.{or_false}
use Rattle.sub_runs.specs.vl_sites.specs.Sites as s
use Rattle.vl_loops.specs.Unroll.{put_target, unrolled, unrolled_items, in_turns, so_many}
use Rattle.sub_runs.specs.vl_paths.specs.Nets.{IsBase, IsPlain, ArePlain, AreNetItems}
use Rattle.elab_laws.specs.vl_accept.proofs.Clean.{or-right}
use Rattle.elab_laws.specs.vl_accept.proofs.Pure.{Free, free-left, free-right}
use Rattle.ten_make.specs.cell_expr.specs.Bodies.{IsNet}
use Rattle.ten_build.proofs.Sites.{acts}

-- what doesn't pass the test is no memory
module _ (names : Names) (P : ℕ → Bool) (none : (k : ℕ) → P k ≡ false → IsMemory names k → ⊥) where
  base : (t : d.Target) → IsSoundBase names t → target_writes P t ≡ false → IsBase (λ k. false) t
  base (d.Whole k) h w = refl
  base (d.WordAt m a) h w = absurd (none m w h.0)
  base (d.PickAt b i from l) h w = absurd h
  base (d.SliceAt b low l) h w = absurd h
  base (d.Several ts) h w = absurd h

  mutual
    plain-target : (t : d.Target) → IsSoundTarget names t → target_writes P t ≡ false → IsPlain (λ k. false) t
    plain-target (d.Whole k) h w = refl
    plain-target (d.WordAt m a) h w = absurd (none m w h.0)
    plain-target (d.PickAt b i from l) h w = base b h.1 w
    plain-target (d.SliceAt b low l) h w = base b h.1 w
    plain-target (d.Several ts) h w = plain-targets ts h.1 w

    plain-targets : (ts : d.Targets) → AreSoundTargets names ts → targets_write P ts ≡ false → ArePlain (λ k. false) ts
    plain-targets d.NoTargets h w = tt
    plain-targets (d.MoreTargets t ts) h w = let v = or_false (target_writes P t) (targets_write P ts) w in (plain-target t h.0 v.0, plain-targets ts h.1 v.1)

  -- ---- statements that are sound and write nothing that passes the test

  abbrev Becomes : d.Stm → Type 0
  Becomes a = IsSoundStm names a → stm_writes P a ≡ false → IsNet a

  abbrev Become : d.Items → Type 0
  Become is = AreSoundItems names is → items_write P is ≡ false → AreNetItems (λ k. false) is

  turns : {S : Type 0} (n : ℕ) (test : S → Bool) (step : S → S) (f : S → d.Stm) → ((x : S) → Becomes (f x)) → (x : S) → Becomes (in_turns n test step f x)
  turns zero test step f h x = λ v w. tt
  turns (suc n) test step f h x = at (test x) (turns n test step f h (step x))
    where
      at : (b : Bool) → Becomes (in_turns n test step f (step x)) → Becomes (elim b [ true ↦ d.Then (f x) (in_turns n test step f (step x)) | false ↦ d.Nop ])
      at true k = λ v w. let o = or_false (stm_writes P (f x)) _ w in (h x v.0 o.0, k v.1 o.1)
      at false k = λ v w. tt

  many : (n : ℕ) (a : d.Stm) → Becomes a → Becomes (so_many n a)
  many zero a h = λ v w. tt
  many (suc n) a h = λ v w. let o = or_false (stm_writes P a) (stm_writes P (so_many n a)) w in (h v.0 o.0, many n a h v.1 o.1)

  module _ (scope : Scope) (path : List ℕ) where
    abbrev timed : p.Exp → Bool
    timed x = has is_timed (plain.exp x)

    -- no call comes first in a statement that doesn't ask for an answer
    uncalled : (x : p.Exp) (a : d.Stm) (e : State) → (stm_timed a ≡ false → timed x ≡ false) → stm_timed (plain.called_first path x a) ≡ false
        → (stm_timed a ≡ false → Becomes (unrolled scope a e)) → Becomes (unrolled scope (plain.called_first path x a) e)
    uncalled (p.Sys at name given) a e f h g = absurd (true≢false (f (or-right _ _ h)))
    uncalled (p.Un o u.LogNot (p.Sys at name given)) a e f h g = absurd (true≢false (f (or-right _ _ h)))
    uncalled x a e f h g = g h

    item-becomes : (es : p.Exps) (a : d.Stm) (others : d.Items) (e : State) → items_have is_timed (λ task. false) (plain.item es a others) ≡ false
        → (stm_timed a ≡ false → Becomes (unrolled scope a e)) → (items_have is_timed (λ task. false) others ≡ false → Become (unrolled_items scope others e))
        → Become (unrolled_items scope (plain.item es a others) e)
    item-becomes p.NoExps a others e h f g = λ v w.
        let i = or_false (stm_timed a) (items_have is_timed (λ task. false) others) h in
        let o = or_false (stm_writes P (unrolled scope a e)) (items_write P (unrolled_items scope others e)) w in
        (f i.0 v.0 o.0, g i.1 v.1 o.1)
    item-becomes (p.MoreExps x es) a others e h f g = λ v w.
        let j = or_false (some_have is_timed (plain.exps (p.MoreExps x es))) (stm_timed a || items_have is_timed (λ task. false) others) h in
        let i = or_false (stm_timed a) (items_have is_timed (λ task. false) others) j.1 in
        let o = or_false (stm_writes P (unrolled scope a e)) (items_write P (unrolled_items scope others e)) w in
        (f i.0 v.1 o.0, g i.1 v.2 o.1)

    mutual
      pub becomes : (a : p.Stm) → Free acts (s.sites a) → stm_timed (plain.stm path a) ≡ false → (e : State) → Becomes (unrolled scope (plain.stm path a) e)
      becomes (p.Nop at) c h e = λ v w. tt
      becomes (p.Seq at as') c h e = all-become as' c h e
      becomes (p.If at t x y) c h e =
          let a = plain.stm path x in
          let b = plain.stm path y in
          let rest = free-right acts (s.exp_sites t) (s.sites x ++ s.sites y) c in
          uncalled t (d.If (plain.exp t) a b) e (λ i. (or_false (timed t) (stm_timed a || stm_timed b) i).0) h (λ i v w.
          let j = or_false (stm_timed a) (stm_timed b) (or_false (timed t) (stm_timed a || stm_timed b) i).1 in
          let o = or_false (stm_writes P (unrolled scope a e)) (stm_writes P (unrolled scope b e)) w in
          (becomes x (free-left acts (s.sites x) (s.sites y) rest) j.0 e v.1 o.0, becomes y (free-right acts (s.sites x) (s.sites y) rest) j.1 e v.2 o.1))
      becomes (p.Case at x is wild) c h e = λ v w.
          items-become is (free-right acts (s.exp_sites x) (s.items_sites is) c) (or_false (timed x) (items_have is_timed (λ task. false) (plain.items path is)) h).1 e v.1 w
      becomes (p.For at k start test step a) c h e =
          let rest = free-right acts (s.head_sites k start (s.sites start)) (s.exp_sites test ++ (s.head_sites k step (s.sites step) ++ s.sites a)) c in
          let body = free-right acts (s.head_sites k step (s.sites step)) (s.sites a) (free-right acts (s.exp_sites test) (s.head_sites k step (s.sites step) ++ s.sites a) rest) in
          let i = or_false (stm_timed (plain.stm path start)) (timed test || (stm_timed (plain.stm path step) || stm_timed (plain.stm path a))) h in
          let j = or_false (timed test) (stm_timed (plain.stm path step) || stm_timed (plain.stm path a)) i.1 in
          let l = or_false (stm_timed (plain.stm path step)) (stm_timed (plain.stm path a)) j.1 in
          turns most_turns (goes_on scope (plain.exp test)) (exec scope (plain.stm path step)) (unrolled scope (plain.stm path a)) (becomes a body l.1) (exec scope (plain.stm path start) e)
      becomes (p.Repeat at n a) c h e = many n (unrolled scope (plain.stm path a) e) (becomes a c h e)
      becomes (p.Set at t x) c h e =
          let a = d.Set (plain.target t) (plain.exp x) in
          uncalled x a e (λ i. (or_false (target_has is_timed (plain.target t)) (timed x) i).1) h (λ i v w. plain-target (put_target scope.names.rows e.values (plain.target t)) v.0 w)
      becomes (p.Later at t x) c h e = let z : ⊥ = cc in absurd z
      becomes (p.Task at name given) c h e = let z : ⊥ = cc in absurd z

      all-become : (as' : p.Stms) → Free acts (s.all_sites as') → stm_timed (plain.stms path as') ≡ false → (e : State) → Becomes (unrolled scope (plain.stms path as') e)
      all-become p.NoStms c h e = λ v w. tt
      all-become (p.MoreStms a as') c h e = λ v w.
          let i = or_false (stm_timed (plain.stm path a)) (stm_timed (plain.stms path as')) h in
          let o = or_false (stm_writes P (unrolled scope (plain.stm path a) e)) (stm_writes P (unrolled scope (plain.stms path as') e)) w in
          (becomes a (free-left acts (s.sites a) (s.all_sites as') c) i.0 e v.0 o.0, all-become as' (free-right acts (s.sites a) (s.all_sites as') c) i.1 e v.1 o.1)

      items-become : (is : p.Items) → Free acts (s.items_sites is) → items_have is_timed (λ task. false) (plain.items path is) ≡ false → (e : State) → Become (unrolled_items scope (plain.items path is) e)
      items-become p.NoItems c h e = λ v w. tt
      items-become (p.MoreItems es a others) c h e =
          let rest = free-right acts (s.exps_sites es) (s.sites a ++ s.items_sites others) c in
          item-becomes es (plain.stm path a) (plain.items path others) e h (λ i. becomes a (free-left acts (s.sites a) (s.items_sites others) rest) i e)
          (λ i. items-become others (free-right acts (s.sites a) (s.items_sites others) rest) i e)
