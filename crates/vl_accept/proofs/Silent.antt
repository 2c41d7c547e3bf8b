-- What no site assigns, the statement with its loops unrolled doesn't write.
use Rattle.std.proofs.Common.{◌≡◌, ℕ, zero, suc, Bool, true, false, List, refl, ◌∙◌}
use Rattle.std.specs.Prelude.{◌++◌}
use Rattle.vl_latch.specs.vl_base.specs.declared.bits.UnOp.TheVariants as u
use Rattle.vl_check.specs.vl_design.specs.Syntax as d
use Rattle.vl_check.specs.vl_design.specs.Width.{Scope}
use Rattle.vl_check.specs.vl_design.specs.State.{State}
use Rattle.vl_check.specs.vl_design.specs.Exec.{exec, goes_on, most_turns}
use Rattle.vl_check.specs.vl_design.specs.Reads.{target_writes, targets_write, task_writes, stm_writes, items_write}
use Rattle.vl_check.specs.vl_design.specs.Placed as p
use Rattle.vl_check.specs.vl_design.specs.Plainly as plain
use Rattle.vl_check.specs.vl_sites.specs.Sites as s
use Rattle.vl_unroll.specs.vl_loops.specs.Unroll.{put_target, put_targets, put_task, unrolled, unrolled_items, in_turns, so_many}
use Rattle.vl_accept.proofs.Clean.{or-both, Clean, clean-left, clean-right, target-clean, call-clean}

module _ (rows : List d.Row) (at : List (List ℕ)) (P : ℕ → Bool) where
  mutual
    target_put : (t : d.Target) → target_writes P (put_target rows at t) ≡ target_writes P t
    target_put (d.Whole j) = refl
    target_put (d.WordAt m a) = refl
    target_put (d.PickAt b i from w) = target_put b
    target_put (d.SliceAt b low w) = target_put b
    target_put (d.Several ts) = targets_put ts

    targets_put : (ts : d.Targets) → targets_write P (put_targets rows at ts) ≡ targets_write P ts
    targets_put d.NoTargets = refl
    targets_put (d.MoreTargets t ts) = rw (target_put t, targets_put ts) refl

  task_put : (task : d.Task) → task_writes P (put_task rows at task) ≡ task_writes P task
  task_put (d.Print pieces newline) = refl
  task_put (d.Finish es) = refl
  task_put (d.Save name) = refl
  task_put (d.Fopen name) = refl
  task_put (d.Fread j fd) = refl
  task_put (d.Fgetc fd) = refl
  task_put (d.Feof fd) = refl
  task_put (d.Fclose fd) = refl
  task_put (d.ReadHex name m) = refl

module _ (P : ℕ → Bool) where
  in_turns_silent : {S : Type 0} (n : ℕ) (test : S → Bool) (step : S → S) (f : S → d.Stm) → ((x : S) → stm_writes P (f x) ≡ false) → (x : S) → stm_writes P (in_turns n test step f x) ≡ false
  in_turns_silent zero test step f h x = refl
  in_turns_silent (suc n) test step f h x = at (test x) (in_turns_silent n test step f h (step x))
    where
      at : (b : Bool) → stm_writes P (in_turns n test step f (step x)) ≡ false → stm_writes P (elim b [ true ↦ d.Then (f x) (in_turns n test step f (step x)) | false ↦ d.Nop ]) ≡ false
      at true k = or-both _ _ (h x) k
      at false k = refl

  many_silent : (n : ℕ) (a : d.Stm) → stm_writes P a ≡ false → stm_writes P (so_many n a) ≡ false
  many_silent zero a h = refl
  many_silent (suc n) a h = or-both _ _ h (many_silent n a h)

  module _ (scope : Scope) (path : List ℕ) where
    called : (x : p.Exp) (a : d.Stm) → Clean P (s.exp_sites x) → (e : State) → stm_writes P (unrolled scope a e) ≡ false → stm_writes P (unrolled scope (plain.called_first path x a) e) ≡ false
    called (p.Sys at name given) a c e h = or-both _ _ (task_put scope.names.rows e.values P _ ∙ call-clean P path name given c) h
    called (p.Un o u.LogNot (p.Sys at name given)) a c e h = or-both _ _ (task_put scope.names.rows e.values P _ ∙ call-clean P path name given c) h
    called x a c e h = h

    item_silent : (es : p.Exps) (a : d.Stm) (others : d.Items) (e : State) → stm_writes P (unrolled scope a e) ≡ false → items_write P (unrolled_items scope others e) ≡ false → items_write P (unrolled_items scope (plain.item es a others) e) ≡ false
    item_silent p.NoExps a others e h k = or-both _ _ h k
    item_silent (p.MoreExps x es) a others e h k = or-both _ _ h k

    mutual
      pub silent : (a : p.Stm) → Clean P (s.sites a) → (e : State) → stm_writes P (unrolled scope (plain.stm path a) e) ≡ false
      silent (p.Nop at) c e = refl
      silent (p.Seq at as') c e = all_silent as' c e
      silent (p.If at t x y) c e =
          let rest = clean-right P (s.exp_sites t) (s.sites x ++ s.sites y) c in
          called t (d.If (plain.exp t) (plain.stm path x) (plain.stm path y)) (clean-left P (s.exp_sites t) (s.sites x ++ s.sites y) c) e
          (or-both _ _ (silent x (clean-left P (s.sites x) (s.sites y) rest) e) (silent y (clean-right P (s.sites x) (s.sites y) rest) e))
      silent (p.Case at x is wild) c e = items_silent is (clean-right P (s.exp_sites x) (s.items_sites is) c) e
      silent (p.For at k start test step a) c e =
          let rest = clean-right P (s.head_sites k start (s.sites start)) (s.exp_sites test ++ (s.head_sites k step (s.sites step) ++ s.sites a)) c in
          let body = clean-right P (s.head_sites k step (s.sites step)) (s.sites a) (clean-right P (s.exp_sites test) (s.head_sites k step (s.sites step) ++ s.sites a) rest) in
          in_turns_silent most_turns (goes_on scope (plain.exp test)) (exec scope (plain.stm path step)) (unrolled scope (plain.stm path a)) (silent a body) (exec scope (plain.stm path start) e)
      silent (p.Repeat at n a) c e = many_silent n (unrolled scope (plain.stm path a) e) (silent a c e)
      silent (p.Set at t x) c e =
          called x (d.Set (plain.target t) (plain.exp x)) (clean-right P (s.target_sites false t) (s.exp_sites x) c) e
          (target_put scope.names.rows e.values P (plain.target t) ∙ target-clean P false t (clean-left P (s.target_sites false t) (s.exp_sites x) c))
      silent (p.Later at t x) c e =
          called x (d.Later (plain.target t) (plain.exp x)) (clean-right P (s.target_sites true t) (s.exp_sites x) c) e
          (target_put scope.names.rows e.values P (plain.target t) ∙ target-clean P true t (clean-left P (s.target_sites true t) (s.exp_sites x) c))
      silent (p.Task at name given) c e = task_put scope.names.rows e.values P _ ∙ call-clean P path name given c

      all_silent : (as' : p.Stms) → Clean P (s.all_sites as') → (e : State) → stm_writes P (unrolled scope (plain.stms path as') e) ≡ false
      all_silent p.NoStms c e = refl
      all_silent (p.MoreStms a as') c e = or-both _ _ (silent a (clean-left P (s.sites a) (s.all_sites as') c) e) (all_silent as' (clean-right P (s.sites a) (s.all_sites as') c) e)

      items_silent : (is : p.Items) → Clean P (s.items_sites is) → (e : State) → items_write P (unrolled_items scope (plain.items path is) e) ≡ false
      items_silent p.NoItems c e = refl
      items_silent (p.MoreItems es a others) c e =
          let rest = clean-right P (s.exps_sites es) (s.sites a ++ s.items_sites others) c in
          item_silent es (plain.stm path a) (plain.items path others) e (silent a (clean-left P (s.sites a) (s.items_sites others) rest) e) (items_silent others (clean-right P (s.sites a) (s.items_sites others) rest) e)
