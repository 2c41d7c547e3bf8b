-- Headers of the loops of a design, and what they read of a scope and a state.
use Rattle.std.proofs.Common.{◌≡◌, ◌+◌, ◌<◌, ◌^◌, ℕ, zero, suc, Bool, true, false, List, [], ◌∷◌, ◌++◌, length, map, replicate, refl, sym, ap, ◌∙◌, subst, arith}
use Rattle.std.specs.Prelude.{slice_get, slice_index, Option, Some, None, All}
use Rattle.vl_base.specs.declared.bits.UnOp.TheVariants.{LogNot}
use Rattle.vl_base.specs.declared.files.File.{File}
use Rattle.vl_design.specs.Syntax as d
use Rattle.vl_design.specs.Width.{Names, Scope, signal_form}
use Rattle.vl_design.specs.Value.{words_of}
use Rattle.vl_design.specs.State.{State}
use Rattle.vl_design.specs.Exec.{exec, goes_on}
use Rattle.vl_design.specs.Sound.{IsSoundExp, IsSoundStm, AreSoundItems}
use Rattle.vl_design.specs.Plain.{plain_scope}
use Rattle.vl_design.specs.Placed as p
use Rattle.vl_design.specs.Plainly as plain
use Rattle.vl_loops.specs.Unroll.{is_loop}
use Rattle.vl_loops.specs.Fits.{IsHeader, Assigns, HasLoops, HaveLoops, Holds}
use Rattle.vl_loops.proofs.Heading.{goes_same, header_alive, header_holds}
use Rattle.vl_loops.proofs.Closing.{next}
use Rattle.vl_loops.proofs.Texts.{test_across, step_across}
use Rattle.vl_loops.specs.Heads.{IsHead}
use Rattle.vl_loops.specs.Loops.{IsLoop, HasHeads, HaveHeads, ItemsHaveHeads}
use Rattle.vl_loops.proofs.SteppingOfHeader.{head-plain, head-source}

-- ---- headers over other functions, and at other states

-- an assignment of a header
pub head_assigns : (rows : List d.Row) (j : ℕ) (a : p.Stm) → IsHead (plain_scope rows).names j a → Assigns rows j (plain.stm [] a)
head_assigns rows j (p.Set q t x) h = record { source = plain.exp x; whole = head-plain (plain_scope rows) j q t x h; header = (head-source (plain_scope rows) j q t x h).0 }
head_assigns rows j (p.Nop q) h = absurd h
head_assigns rows j (p.Seq q as') h = absurd h
head_assigns rows j (p.If q t a b) h = absurd h
head_assigns rows j (p.Case q x is wild) h = absurd h
head_assigns rows j (p.For q k start test step a) h = absurd h
head_assigns rows j (p.Repeat q n a) h = absurd h
head_assigns rows j (p.Later q t x) h = absurd h
head_assigns rows j (p.Task q name given) h = absurd h

-- the loop variables of x have their values in s, and no run has finished
pub record Meets (rows : List d.Row) (x s : State) : Type 0 where
  pub holds : Holds rows x s
  pub alive : s.finished ≡ false

module _ (rows signals : List d.Row) (funs : List d.Fun) (files : List File) (call : ℕ → List ℕ → ℕ) where
  -- a scope of these signals, and the one without functions
  abbrev pub full : Scope
  full = next (plain_scope rows) signals funs files call

  abbrev pub bare : Scope
  bare = plain_scope rows

  pub goes_same_bare : (e : d.Exp) → IsHeader rows e → (x s : State) → Meets rows x s → goes_on full e x ≡ goes_on bare e s
  goes_same_bare e k x s m = test_across bare signals funs files call e k x ∙ sym (goes_same bare x s m.holds m.alive e k)

  pub step_meets_bare : (j : ℕ) (a : d.Stm) → Assigns rows j a → (x s : State) → Meets rows x s → Meets rows (exec full a x) (exec bare a s)
  step_meets_bare j a k x s m = record {
    holds = subst (λ z. Holds rows z (exec bare a s)) (sym (step_across bare signals funs files call j a k x)) (header_holds bare j a k x s m.alive m.holds);
    alive = header_alive bare j a k s m.alive;
  }

-- ---- the headers of a sound statement

-- a statement that becomes an assignment has no call before it
no_call : (path : List ℕ) (t : p.Exp) (c : d.Stm) (u : d.Target) (x : d.Exp) → plain.called_first path t c ≡ d.Set u x → c ≡ d.Set u x
no_call path (p.Sys o name given) c u x h = let z : ⊥ = cc in absurd z
no_call path (p.Un o LogNot (p.Sys r name given)) c u x h = let z : ⊥ = cc in absurd z
no_call path t c u x h = h

loops_behind : (rows : List d.Row) (path : List ℕ) (t : p.Exp) (c : d.Stm) → HasLoops rows (plain.called_first path t c) → HasLoops rows c
loops_behind rows path (p.Sys o name given) c h = h.1
loops_behind rows path (p.Un o LogNot (p.Sys r name given)) c h = h.1
loops_behind rows path t c h = h

module _ (names : Names) (path : List ℕ) where
  abbrev alone : Names
  alone = (plain_scope names.rows).names

  sound_behind : (t : p.Exp) (c : d.Stm) → IsSoundStm names (plain.called_first path t c) → IsSoundStm names c
  sound_behind (p.Sys o name given) c h = h.1
  sound_behind (p.Un o LogNot (p.Sys r name given)) c h = h.1
  sound_behind t c h = h

  -- a header is sound also where there are no functions
  sound_alone : (e : d.Exp) → IsHeader names.rows e → IsSoundExp names e → IsSoundExp alone e
  sound_alone (d.Num v w s) k h = h
  sound_alone (d.Label v care w s) k h = h
  sound_alone (d.Sig j) k h = h
  sound_alone (d.Word m a) k h = absurd k
  sound_alone (d.Pick b i from w) k h = (h.0, sound_alone b k.0 h.1, sound_alone i k.1 h.2)
  sound_alone (d.Slice b low w) k h = (h.0, sound_alone b k h.1)
  sound_alone (d.Un op a) k h = sound_alone a k h
  sound_alone (d.Bin op a b) k h = (sound_alone a k.0 h.0, sound_alone b k.1 h.1)
  sound_alone (d.Cond t a b) k h = (sound_alone t k.0 h.0, sound_alone a k.1 h.1, sound_alone b k.2 h.2)
  sound_alone (d.Cat es) k h = absurd k
  sound_alone (d.Rep n es) k h = absurd k
  sound_alone (d.Cast s a) k h = sound_alone a k h
  sound_alone (d.Call f es) k h = absurd k
  sound_alone d.Time k h = absurd k
  sound_alone d.LastAnswer k h = absurd k

  target_is : (j : ℕ) (t : p.Target) (x : p.Exp) (source : d.Exp) → d.Set (plain.target t) (plain.exp x) ≡ d.Set (d.Whole j) source → IsHeader names.rows source → IsSoundExp names source → (q : _) → IsHead alone j (p.Set q t x)
  target_is j (p.Whole r i) x source e k h q =
      let a : i ≡ j = cc in
      let b : source ≡ plain.exp x = cc in
      (a, subst (IsHeader names.rows) b k, subst (IsSoundExp alone) b (sound_alone source k h))
  target_is j (p.WordAt r m a) x source e k h q = let z : ⊥ = cc in absurd z
  target_is j (p.PickAt r b i from w) x source e k h q = let z : ⊥ = cc in absurd z
  target_is j (p.SliceAt r b low w) x source e k h q = let z : ⊥ = cc in absurd z
  target_is j (p.Several r ts) x source e k h q = let z : ⊥ = cc in absurd z

  is_head : (j : ℕ) (a : p.Stm) (source : d.Exp) → plain.stm path a ≡ d.Set (d.Whole j) source → IsHeader names.rows source → IsSoundStm names (plain.stm path a) → IsHead alone j a
  is_head j (p.Nop o) source e k h = let z : ⊥ = cc in absurd z
  is_head j (p.Seq o p.NoStms) source e k h = let z : ⊥ = cc in absurd z
  is_head j (p.Seq o (p.MoreStms a as')) source e k h = let z : ⊥ = cc in absurd z
  is_head j (p.If o t a b) source e k h = let f = no_call path t _ _ _ e in let z : ⊥ = cc in absurd z
  is_head j (p.Case o y is wild) source e k h = let z : ⊥ = cc in absurd z
  is_head j (p.For o i start test step a) source e k h = let z : ⊥ = cc in absurd z
  is_head j (p.Repeat o n a) source e k h = let z : ⊥ = cc in absurd z
  is_head j (p.Set o t y) source e k h = target_is j t y source (no_call path y _ _ _ e) k (subst (IsSoundStm names) e h).1 o
  is_head j (p.Later o t y) source e k h = let f = no_call path y _ _ _ e in let z : ⊥ = cc in absurd z
  is_head j (p.Task o name given) source e k h = let z : ⊥ = cc in absurd z

  item_loops : (es : p.Exps) (a : d.Stm) (others : d.Items) → HaveLoops names.rows (plain.item es a others) → HasLoops names.rows a × HaveLoops names.rows others
  item_loops p.NoExps a others h = h
  item_loops (p.MoreExps x es) a others h = h

  item_sound : (es : p.Exps) (a : d.Stm) (others : d.Items) → AreSoundItems names (plain.item es a others) → IsSoundStm names a × AreSoundItems names others
  item_sound p.NoExps a others h = h
  item_sound (p.MoreExps x es) a others h = (h.1, h.2)

  mutual
    pub heads_of : (a : p.Stm) → HasLoops names.rows (plain.stm path a) → IsSoundStm names (plain.stm path a) → HasHeads names.rows a
    heads_of (p.Nop o) l h = tt
    heads_of (p.Seq o as') l h = heads_of_all as' l h
    heads_of (p.If o t a b) l h =
        let m = loops_behind names.rows path t (d.If (plain.exp t) (plain.stm path a) (plain.stm path b)) l in
        let k = sound_behind t (d.If (plain.exp t) (plain.stm path a) (plain.stm path b)) h in
        (heads_of a m.0 k.1, heads_of b m.1 k.2)
    heads_of (p.Case o x is wild) l h = heads_of_items is l h.1
    heads_of (p.For o j start test step a) l h = (
      record {
        variable = l.0;
        named = h.0;
        starts = is_head j start (l.1).source (l.1).whole (l.1).header h.1;
        constant = l.2;
        sound = sound_alone (plain.exp test) l.2 h.2;
        steps = is_head j step (l.3).source (l.3).whole (l.3).header h.3;
      },
      heads_of a l.4 h.4,
    )
    heads_of (p.Repeat o n a) l h = heads_of a l h
    heads_of (p.Set o t x) l h = tt
    heads_of (p.Later o t x) l h = tt
    heads_of (p.Task o name given) l h = tt

    heads_of_all : (as' : p.Stms) → HasLoops names.rows (plain.stms path as') → IsSoundStm names (plain.stms path as') → HaveHeads names.rows as'
    heads_of_all p.NoStms l h = tt
    heads_of_all (p.MoreStms a as') l h = (heads_of a l.0 h.0, heads_of_all as' l.1 h.1)

    heads_of_items : (is : p.Items) → HaveLoops names.rows (plain.items path is) → AreSoundItems names (plain.items path is) → ItemsHaveHeads names.rows is
    heads_of_items p.NoItems l h = tt
    heads_of_items (p.MoreItems es a others) l h =
        let m = item_loops es (plain.stm path a) (plain.items path others) l in
        let k = item_sound es (plain.stm path a) (plain.items path others) h in
        (heads_of a m.0 k.0, heads_of_items others m.1 k.1)
